use Rattle.std.proofs.Common.{◌≡◌, ℕ, List, Some, ◌-◌, length, sym, ap, subst, ◌∙◌}
use Rattle.std.specs.Option.{option_copied}
use Rattle.std.specs.Prelude.{slice_get}
use Rattle.poll_core.proofs.SessionLemmas.{last_at}
use Rattle.poll_core.proofs.session.last_text.Goals as goal

pub returns-in-Some : goal.returns-in-Some
returns-in-Some c =
    let eras = c.args.eras.now in
    let text = c.in-Some.text.now in
    let there : slice_get eras (length eras - 1) ≡ Some text = subst (λ (texts : List (List ℕ)). slice_get texts (length texts - 1) ≡ Some text) c.as_slice.ensures (sym c.last.ensures.value ∙ ap option_copied c.in-Some.is) in
    c.as_slice-in-Some.ensures ∙ last_at eras text there
