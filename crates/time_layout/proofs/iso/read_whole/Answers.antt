use Rattle.std.proofs.Common.{[], ◌∷◌, sym, ◌∙◌, ap}
use Rattle.time_layout.specs.declared.parts.Colon.TheVariants.{Required}
use Rattle.time_layout.specs.declared.parts.Part.TheVariants.{PointFraction, Zone}
use Rattle.time_layout.specs.Atoms.{and_then}
use Rattle.time_layout.specs.Iso.{rfc3339_parts}
use Rattle.time_layout.specs.Parts.{whole}
use Rattle.time_layout.proofs.iso.read_whole.Goals as goal

pub returns-in-Some : goal.returns-in-Some
unfolding rfc3339_parts
returns-in-Some c =
    c.read_behind.ensures ∙ ap (λ reading. and_then reading (whole c.args.text.now)) (sym (c.in-Some.ensures.reads (PointFraction c.args.digits ∷ Zone Required ∷ [])))
