use Rattle.std.proofs.Common.{◌≡◌, ◌∙◌, ap, sym, refl}
use Rattle.std.proofs.lemmas.Slice.Eq.{bytes_eq-Decides}
use Rattle.std.specs.RefCell.{ref_mut_value}
use Rattle.regex.specs.Strings.{regex_source}
use Rattle.text_parsers.specs.Groups.{named_groups}
use Rattle.text_parsers.specs.declared.search.Search.{Search}
use Rattle.text_parsers.proofs.Matching.{names_are_read}
use Rattle.text_parsers.proofs.regex_op.RegexOp.members.Goals as goal

pub members-requires : goal.members-requires
members-requires c =
    let own = c.self.inside.pattern.now in
    let kept = c.deref_mut.result.now.pattern.now in
    let value : c.deref.result.now ≡ ref_mut_value c.in-Ok.search = c.deref.ensures in
    let left : c.source.result.now ≡ regex_source c.deref.result.now.pattern.now.regex = c.source.ensures in
    let right : c.source-in-Ok.result.now ≡ regex_source own.regex = c.source-in-Ok.ensures in
    let equal : c.source.result.now ≡ c.source-in-Ok.result.now = (bytes_eq-Decides c.source.result.now c.source-in-Ok.result.now).0 (sym c.eq.ensures ∙ c.if-eq.true) in
    let same : regex_source kept.regex ≡ regex_source own.regex =
    ap (λ (s : Search). regex_source s.pattern.now.regex) (c.deref_mut.ensures.value ∙ sym value) ∙ sym left ∙ equal ∙ right in
    c.self.invariant ∙ ap named_groups (names_are_read own.regex own.read (regex_source own.regex) refl ∙ sym (names_are_read kept.regex kept.read (regex_source own.regex) same))
