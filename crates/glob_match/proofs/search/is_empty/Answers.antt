use Rattle.std.proofs.Common.{◌∙◌, length, sym}
use Rattle.std.proofs.lemmas.Bool.{eqb-true, eq-eqb}
use Rattle.glob_match.proofs.Searching.{no_bytes, no_characters}
use Rattle.glob_match.proofs.search.is_empty.Goals as goal

pub returns : goal.returns
returns c = (
  (λ h. no_bytes c.args.name.now (eqb-true (length c.args.name.now) 0 (sym c.is_empty.ensures ∙ h))),
  (λ e. c.is_empty.ensures ∙ eq-eqb (length c.args.name.now) 0 (no_characters c.args.name.now c.utf8.name e)),
)
