-- Paths: their parts and folders.
use Rattle.std.proofs.Common.{cond, ◌≡◌, ℕ, ◌<◌, List, [], ◌∷◌, length, get_or, Bool, true, false, ◌&&◌, nat_eq, ◌==◌, refl, ap, ◌∙◌, arith}
use Rattle.std.proofs.lemmas.Bool.Decides.{nat_tests}
use Rattle.std.specs.List.{slice_split, onto_first, starts_with}
use Rattle.outside.specs.Path.{components, in_front, is_below}

below_one : (b : ℕ) → (nat_eq 47 b && true) ≡ (b == 47)
below_one b = grind (arith, nat_tests)

first_same : (first whole front last : Bool) → whole ≡ (front && last) → (first && whole) ≡ ((first && front) && last)
first_same true whole front last same = same
first_same false whole front last same = refl

pub below_at : (folder path : List ℕ) → length folder < length path → is_below folder path ≡ (starts_with nat_eq path folder && (get_or path (length folder) 0 == 47))
below_at [] [] within = absurd (omega arith)
below_at [] (b ∷ rest) within = below_one b
below_at (f ∷ fs) [] within = absurd (omega arith)
below_at (f ∷ fs) (b ∷ rest) within = first_same (nat_eq f b) _ _ _ (below_at fs rest (omega arith))

same_front : (b : ℕ) (parts : List (List ℕ)) → in_front b parts ≡ onto_first b parts
same_front b [] = refl
same_front b (p ∷ ps) = refl

pub components_split : (path : List ℕ) → components path ≡ slice_split (λ b. b == 47) path
components_split [] = refl
components_split (b ∷ rest) =
    elim (b == 47) as (λ t. (cond t ([] ∷ components rest) (in_front b (components rest))) ≡ (cond t ([] ∷ slice_split (λ x. x == 47) rest) (onto_first b (slice_split (λ x. x == 47) rest)))) [
      | true ↦ ap (λ (ps : List (List ℕ)). [] ∷ ps) (components_split rest)
      | false ↦ same_front b (components rest) ∙ ap (λ (ps : List (List ℕ)). onto_first b ps) (components_split rest)
    ]
