-- What several calls have put, one after the other.
use Rattle.std.proofs.Common.{◌≡◌, ℕ, ◌<◌, ◌+◌, List, ◌++◌, length, drop, get_or, Result, Ok, Err, OnOk, sym, ap, ◌∙◌, append_assoc}
use Rattle.std.proofs.lemmas.List.{drop_more}
use Rattle.std.specs.List.{flat_map}

-- what was put before the last call stands before what it put
pub put_before : {E : Type 0} (r : Result (Unit {0}) E) (old mid new first rest : List ℕ) → mid ≡ old ++ first → OnOk r (new ≡ mid ++ rest) → OnOk r (new ≡ old ++ (first ++ rest))
put_before (Ok _) old mid new first rest before last = last ∙ ap (λ (l : List ℕ). l ++ rest) before ∙ append_assoc old first rest
put_before (Err _) old mid new first rest before last = tt

-- one more of a list is put
pub one_put : {X : Type 0} (f : X → List ℕ) (xs : List X) (i : ℕ) (x : X) (out new start : List ℕ) → i < length xs → x ≡ get_or xs i x → new ≡ out ++ f x
    → out ++ flat_map f (drop i xs) ≡ start → new ++ flat_map f (drop (i + 1) xs) ≡ start
one_put {X = X} f xs i x out new start inside is put so_far =
    ap (λ (l : List ℕ). l ++ flat_map f (drop (i + 1) xs)) put
    ∙ append_assoc out (f x) (flat_map f (drop (i + 1) xs))
    ∙ ap (λ (y : X). out ++ (f y ++ flat_map f (drop (i + 1) xs))) is
    ∙ ap (λ (l : List X). out ++ flat_map f l) (sym (drop_more xs i x inside))
    ∙ so_far

-- the same where the last call but one put two parts
pub put_two_before : {E : Type 0} (r : Result (Unit {0}) E) (old mid new first second rest : List ℕ) → mid ≡ old ++ (first ++ second) → OnOk r (new ≡ mid ++ rest)
    → OnOk r (new ≡ old ++ (first ++ (second ++ rest)))
put_two_before (Ok _) old mid new first second rest before last =
    last ∙ ap (λ (l : List ℕ). l ++ rest) before ∙ append_assoc old (first ++ second) rest ∙ ap (λ (l : List ℕ). old ++ l) (append_assoc first second rest)
put_two_before (Err _) old mid new first second rest before last = tt
