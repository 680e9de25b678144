use Rattle.std.proofs.Common.{◌<◌, ◌∙◌, ap, sym, subst, Some}
use Rattle.std.specs.Str.{IsUtf8}
use Rattle.text_parsers.specs.Cuts.{Delimiter, delimiter_len}
use Rattle.text_parsers.proofs.Cutting.{found_before, found_behind, blank_found_behind}
use Rattle.text_parsers.proofs.cuts.Delimiter.stands.Goals as goal

pub returns-in-Some-clause-before : goal.returns-in-Some-clause-before
returns-in-Some-clause-before c = λ h.
    (let some : 0 < delimiter_len c.args.self.now = subst (λ (d : Delimiter). 0 < delimiter_len d) c.self.view_is c.self.invariant in
    let also : IsUtf8 c.as_bytes.result.now = c.as_bytes.ensures.utf8 in
    found_before c.args.self.now c.args.text.now c.as_bytes-bytes.result.now c.args.at c.as_bytes-bytes.ensures.value c.utf8.text some c.requires
    c.as_bytes.result.now (sym c.self.view_is ∙ c.in-Some.is ∙ ap Some (sym (c.as_bytes.ensures.value ∙ c.as_str.ensures))) also c.begins_with.result c.begins_with.ensures h)

pub returns-in-Some-clause-behind : goal.returns-in-Some-clause-behind
returns-in-Some-clause-behind c = λ h.
    (let some : 0 < delimiter_len c.args.self.now = subst (λ (d : Delimiter). 0 < delimiter_len d) c.self.view_is c.self.invariant in
    let also : IsUtf8 c.as_bytes.result.now = c.as_bytes.ensures.utf8 in
    found_behind c.args.self.now c.args.text.now c.as_bytes-bytes.result.now c.args.at c.as_bytes-bytes.ensures.value c.utf8.text some c.requires
    c.as_bytes.result.now (sym c.self.view_is ∙ c.in-Some.is ∙ ap Some (sym (c.as_bytes.ensures.value ∙ c.as_str.ensures))) also c.begins_with.result c.begins_with.ensures h)

pub returns-in-None-clause-behind : goal.returns-in-None-clause-behind
returns-in-None-clause-behind c = λ h.
    (let some : 0 < delimiter_len c.args.self.now = subst (λ (d : Delimiter). 0 < delimiter_len d) c.self.view_is c.self.invariant in
    blank_found_behind c.args.self.now c.args.text.now c.as_bytes-bytes.result.now c.args.at c.as_bytes-bytes.ensures.value c.utf8.text some c.requires
    (sym c.self.view_is ∙ c.in-None.is) c.is_blank.result c.is_blank.ensures h)
