-- The eras of pipelines that were made of the same texts.
use Rattle.std.proofs.Common.{◌≡◌, ℕ, zero, suc, ◌+◌, ◌-◌, ◌<◌, ◌≤◌, List, [], ◌∷◌, Some, length, drop, get_or, refl, sym, ap, ◌∙◌, arith, length-drop}
use Rattle.std.specs.Prelude.{slice_get, option_map}
use Rattle.std.proofs.lemmas.List.{length-map}
use Rattle.std.proofs.lemmas.Option.{slice_get_within, slice_get-get_or, slice_get-map, none-some}
use Rattle.auditor.specs.RowHolds.{AreErasFrom}
use Rattle.pipeline.specs.AsRules.{rules_of}
use Rattle.pipeline.specs.declared.Pipeline.{Pipeline}
use Rattle.standing.specs.Eras.{Eras, all_eras, era_at}
use Rattle.standing.specs.Rules.{Rules}
use Rattle.standing.proofs.EraLemmas.{of_era}
use Rattle.folder_audit.specs.KeptFiles.{IsLast}
use Rattle.pipeline.specs.MadeOf.{HasRules, AreErasOf}
use Rattle.folder_audit.specs.Made.{ArePipesOf}
use Rattle.pipeline.proofs.OfText.{OneSet}

-- the element behind some that are left out
pub at_drop : {A : Type 0} (n : ℕ) (xs : List A) (k : ℕ) (x : A) → slice_get (drop n xs) k ≡ Some x → slice_get xs (n + k) ≡ Some x
at_drop zero xs k x at = ap (λ (i : ℕ). slice_get xs i) (let e : 0 + k ≡ k = omega arith in e) ∙ at
at_drop (suc n) [] k x at = absurd (none-some x at)
at_drop (suc n) (y ∷ xs) k x at = let e : suc n + k ≡ suc (n + k) = omega arith in ap (λ (i : ℕ). slice_get (y ∷ xs) i) e ∙ at_drop n xs k x at

module _ (one_set : OneSet) (texts : List (List ℕ)) (eras : Eras) (pipes : List Pipeline) (are : AreErasOf texts eras) (made : ArePipesOf texts pipes) where
  pub many_eras : length (all_eras eras) ≡ length texts
  many_eras = sym (length-map (all_eras eras) (λ (r : Rules). r.settings)) ∙ ap length (sym are.texts_are)

  -- the rules of an era are those of its pipeline
  pub era_is : (k : ℕ) (pipe : Pipeline) → slice_get pipes k ≡ Some pipe → (text : List ℕ) × (slice_get (all_eras eras) k ≡ Some (rules_of text pipe))
  era_is k pipe at =
      let within : k < length pipes = slice_get_within pipes k pipe at in
      let own = get_or (all_eras eras) k (rules_of [] pipe) in
      let there : slice_get (all_eras eras) k ≡ Some own = slice_get-get_or (all_eras eras) k (rules_of [] pipe) (omega (arith, within, made.many, many_eras)) in
      let text_there : slice_get texts k ≡ Some own.settings =
      ap (λ (ts : List (List ℕ)). slice_get ts k) are.texts_are ∙ slice_get-map (λ (r : Rules). r.settings) (all_eras eras) k ∙ ap (option_map (λ (r : Rules). r.settings)) there in
      let has : HasRules own.settings own = of_era eras (λ (r : Rules). HasRules r.settings r) are.each (suc k) own there in
      let its : HasRules own.settings (rules_of own.settings pipe) = (pipe, made.each k own.settings pipe text_there at, refl) in
      (own.settings, there ∙ ap Some (one_set own.settings own (rules_of own.settings pipe) has its))

  -- from an era on
  pub eras_from : (born : ℕ) → 1 ≤ born → born ≤ length pipes → AreErasFrom eras born (drop (born - 1) pipes)
  eras_from born first within = record {
    from_first = first;
    to_last = omega (arith, first, within, length-drop (born - 1) pipes, made.many, many_eras);
    each = λ place pipe at.
        let found = era_is (born - 1 + place) pipe (at_drop (born - 1) pipes place pipe at) in
        let same : born + place ≡ suc (born - 1 + place) = omega (arith, first) in
        (found.0, ap (era_at eras) same ∙ found.1);
  }

  -- files are known by as many bytes as the last pipeline asks for
  pub last_front_size : (last : Pipeline) → IsLast pipes last → last.settings.fingerprint_size ≡ eras.first.front_size
  last_front_size last is_last =
      let found = era_is is_last.0 last is_last.2 in
      of_era eras (λ (r : Rules). r.front_size ≡ eras.first.front_size) are.laws.one_front_size (suc is_last.0) (rules_of found.0 last) found.1
