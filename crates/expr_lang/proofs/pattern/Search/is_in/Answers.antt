use Rattle.std.proofs.Common.{◌∙◌, ap, is_some, arith}
use Rattle.std.proofs.Math.Logic.{∥∥₁_elim}
use Rattle.std.proofs.lemmas.List.{get_or_default}
use mathlib.Core.Bool.{Bool-set}
use Rattle.regex_hir.specs.Find.{find_str}
use Rattle.regex.specs.Names.{names_of}
use Rattle.regex.specs.Strings.{regex_source}
use Rattle.expr_lang.proofs.Patterns.{found_as_read}
use Rattle.expr_lang.proofs.pattern.Search.is_in.Goals as goal

pub returns : goal.returns
returns c =
    let search = c.args.self.now in
    let regex = search.pattern.now.regex in
    let text = c.args.text.now in
    ∥∥₁_elim search.same (Bool-set _ _) (λ same. ∥∥₁_elim search.pattern.now.read (Bool-set _ _) (λ read.
    c.is_match.ensures.found ∙ ap (λ re. is_some (find_str re text 0)) same
    ∙ found_as_read (regex_source regex) regex.pattern.program.hir (names_of regex.pattern.names.items) text (λ k d h. rw (get_or_default text k d 0 h) (let small = c.type_inv.text k in omega (arith, small))) (rw read.0 at read.1)))
