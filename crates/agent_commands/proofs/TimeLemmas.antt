-- A session at a time is the session besides: what it stands on and what it keeps.
use Rattle.std.proofs.Common.{◌≡◌, ℕ, Option, refl, sym, subst}
use Rattle.outside.specs.Images.{Images}
use Rattle.outside.specs.World.{Told, World}
use Rattle.outside.specs.declared.disk.DiskFile.{DiskFile}
use Rattle.poll_core.specs.SessionParts.{rules_of_session, session_at}
use Rattle.poll_core.specs.Since.{KeepsStandingSince}
use Rattle.poll_core.specs.StandsOn.{StandsOn}
use Rattle.poll_core.specs.declared.session.Session.{Session}
use Rattle.standing.specs.Rules.{Rules}

module _ {D : Type 0} (images : Images DiskFile D) (session at : Session) (now : ℕ) (is : at ≡ session_at session now) where
  pub stands_at : (disk : D) → StandsOn images session disk → StandsOn images at disk
  stands_at disk stands =
      subst (λ (s : Session). StandsOn images s disk) (sym is)
      (record {
        one = stands.one;
        each = record { each = λ image left. let here = stands.each.each image left in record { memory = here.memory; output = here.output } };
      })

  -- the rules are those of any time
  same_rules : rules_of_session at ≡ rules_of_session session
  same_rules = subst (λ (s : Session). rules_of_session s ≡ rules_of_session session) (sym is) refl

  pub keeps_at : (begun disk : D) (old new : Option World) → Told (KeepsStandingSince images (rules_of_session session) begun disk) old new
      → Told (KeepsStandingSince images (rules_of_session at) begun disk) old new
  keeps_at begun disk old new = subst (λ (r : Rules). Told (KeepsStandingSince images r begun disk) old new) (sym same_rules)

  pub kept_at : (begun disk : D) (old new : Option World) → Told (KeepsStandingSince images (rules_of_session at) begun disk) old new
      → Told (KeepsStandingSince images (rules_of_session session) begun disk) old new
  kept_at begun disk old new = subst (λ (r : Rules). Told (KeepsStandingSince images r begun disk) old new) same_rules
