-- Parts in a row.
use Rattle.std.proofs.Common.{ℕ, List, [], ◌∷◌, ◌++◌, ◌∙◌, ap, sym, refl, append_assoc}
use Rattle.std.proofs.lemmas.List.{append-nil}
use Rattle.field_paths.specs.PathText.{InARow}

-- one part more
pub row_push : {A : Type 0} (W : List ℕ → A → Type 0) (text part : List ℕ) (xs : List A) (x : A) → InARow W text xs → W part x → InARow W (text ++ part) (xs ++ x ∷ [])
row_push W text part [] x e w = (part, [], ap (λ (t : List ℕ). t ++ part) e ∙ sym (append-nil part), w, refl)
row_push W text part (y ∷ ys) x row w = (row.0, row.1 ++ part, ap (λ (t : List ℕ). t ++ part) row.2 ∙ append_assoc row.0 row.1 part, row.3, row_push W row.1 part ys x row.4 w)
