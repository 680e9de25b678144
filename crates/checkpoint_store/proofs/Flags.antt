-- The rows whose flag is set, one after another.
use Rattle.std.proofs.Common.{◌≡◌, ◌⊎◌, ℕ, ◌+◌, ◌<◌, ◌≤◌, Bool, true, false, List, [], ◌++◌, ◌∷◌, length, drop, get_or, refl, sym, ap, ◌∙◌, inl, inr, arith, append_assoc}
use Rattle.std.proofs.lemmas.List.{drop_all, drop_more}
use Rattle.std.specs.List.{flat_map}
use Rattle.file_tracker.specs.declared.row.Row.{Row}
use Rattle.checkpoint_store.specs.Parts.{flagged}

pub flagged_set : (flags : List Bool) (rows : List Row) (place : ℕ) (row : Row) → place < length flags → place < length rows → get_or flags place false ≡ true → row ≡ get_or rows place row
    → flagged (drop place flags) (drop place rows) ≡ row ∷ flagged (drop (place + 1) flags) (drop (place + 1) rows)
flagged_set flags rows place row has_flag has_row set is =
    let behind = flagged (drop (place + 1) flags) (drop (place + 1) rows) in
    ap (λ (l : List Row). flagged (drop place flags) l) (drop_more rows place row has_row)
    ∙ ap (λ (l : List Bool). flagged l (get_or rows place row ∷ drop (place + 1) rows)) (drop_more flags place false has_flag)
    ∙ ap (λ (f : Bool). flagged (f ∷ drop (place + 1) flags) (get_or rows place row ∷ drop (place + 1) rows)) set
    ∙ ap (λ (r : Row). r ∷ behind) (sym is)

none_behind : (flags : List Bool) → flagged flags [] ≡ []
none_behind [] = refl
none_behind (flag ∷ flags) = refl

-- past the last flag or the last row there is none
pub flagged_past : (place : ℕ) (flags : List Bool) (rows : List Row) → (length flags ≤ place) ⊎ (length rows ≤ place) → flagged (drop place flags) (drop place rows) ≡ []
flagged_past place flags rows (inl past) = ap (λ (l : List Bool). flagged l (drop place rows)) (drop_all place flags past)
flagged_past place flags rows (inr past) = ap (λ (l : List Row). flagged (drop place flags) l) (drop_all place rows past) ∙ none_behind (drop place flags)

pub flagged_clear : (flags : List Bool) (rows : List Row) (place : ℕ) → place < length flags → place < length rows → get_or flags place false ≡ false
    → flagged (drop place flags) (drop place rows) ≡ flagged (drop (place + 1) flags) (drop (place + 1) rows)
flagged_clear flags [] place has_flag has_row clear = absurd (omega (arith, has_row))
flagged_clear flags (first ∷ rows) place has_flag has_row clear =
    let all : List Row = first ∷ rows in
    ap (λ (l : List Row). flagged (drop place flags) l) (drop_more all place first has_row)
    ∙ ap (λ (l : List Bool). flagged l (get_or all place first ∷ drop (place + 1) all)) (drop_more flags place false has_flag)
    ∙ ap (λ (f : Bool). flagged (f ∷ drop (place + 1) flags) (get_or all place first ∷ drop (place + 1) all)) clear

-- one fewer is left
pub flagged_left : (flags : List Bool) (rows : List Row) (place : ℕ) → place < length flags → place < length rows → get_or flags place false ≡ true
    → length (flagged (drop place flags) (drop place rows)) ≡ length (flagged (drop (place + 1) flags) (drop (place + 1) rows)) + 1
flagged_left flags [] place has_flag has_row set = absurd (omega (arith, has_row))
flagged_left flags (first ∷ rows) place has_flag has_row set =
    let all : List Row = first ∷ rows in
    let row : Row = get_or all place first in
    let one : length (flagged (drop place flags) (drop place all)) ≡ length (row ∷ flagged (drop (place + 1) flags) (drop (place + 1) all)) =
    ap (λ (l : List Row). length l)
    (ap (λ (l : List Row). flagged (drop place flags) l) (drop_more all place first has_row)
    ∙ ap (λ (l : List Bool). flagged l (row ∷ drop (place + 1) all)) (drop_more flags place false has_flag)
    ∙ ap (λ (f : Bool). flagged (f ∷ drop (place + 1) flags) (row ∷ drop (place + 1) all)) set) in
    omega (arith, one)

-- one more of those that are left is put
pub one_more_put : (f : Row → List ℕ) (left behind : List Row) (row : Row) (out new start : List ℕ) → left ≡ row ∷ behind → new ≡ out ++ f row → out ++ flat_map f left ≡ start → new ++ flat_map f behind ≡ start
one_more_put f left behind row out new start is put so_far =
    ap (λ (l : List ℕ). l ++ flat_map f behind) put
    ∙ append_assoc out (f row) (flat_map f behind)
    ∙ ap (λ (l : List Row). out ++ flat_map f l) (sym is)
    ∙ so_far
