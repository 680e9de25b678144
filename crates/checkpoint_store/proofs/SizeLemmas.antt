-- How long spellings by the newest version are, summed one part after another.
use Rattle.std.proofs.Common.{◌≡◌, ℕ, ◌+◌, ◌*◌, ◌≤◌, List, [], ◌++◌, ◌∷◌, length, take, Some, ap, ◌∙◌, arith, length-append, subst}
use Rattle.std.proofs.lemmas.List.{append-nil, take_more}
use Rattle.std.proofs.lemmas.List.Concat.{flat_map-append, length-flat_map}
use Rattle.std.proofs.lemmas.List.Folds.{length-flat_map-take}
use Rattle.std.proofs.lemmas.Option.{slice_get_within, get_or_from_slice_get}
use Rattle.std.specs.Int.{w32, to_be_bytes}
use Rattle.std.specs.List.{flat_map}
use Rattle.std.specs.Prelude.{slice_get}
use Rattle.file_tracker.specs.declared.row.Row.{Row}
use Rattle.state_codec.proofs.Numbers.{wide32}
use Rattle.state_codec.specs.Spelling.{bytes_spelling}
use Rattle.checkpoint_store.proofs.CostLemmas.{change_long, checkpoint_long}
use Rattle.checkpoint_store.proofs.ShortLemmas.{row_long, told_long}
use Rattle.checkpoint_store.specs.Limits.{newest}
use Rattle.checkpoint_store.specs.Rules.{past_of}
use Rattle.checkpoint_store.specs.Spelling.{row_spelling, change_spelling, checkpoint_spelling}
use Rattle.checkpoint_store.specs.declared.Change.{Change}
use Rattle.checkpoint_store.specs.declared.Checkpoint.{Checkpoint}

-- in the newest version all is told of a row
pub newest_long : (row : Row) → length (row_spelling newest row) ≡ 68 + length row.path + length row.front + length row.state + 24 * length row.ends
newest_long row = omega (arith, row_long newest row, told_long (past_of row))

bytes_long : (bytes : List ℕ) → length (bytes_spelling bytes) ≡ 4 + length bytes
bytes_long bytes = omega (arith, length-append (to_be_bytes w32 (length bytes)) bytes, wide32.size (length bytes))

-- how long the spelling of some texts is, and of some rows
abbrev pub texts_size : List (List ℕ) → ℕ
texts_size eras = length (flat_map bytes_spelling eras)

abbrev pub rows_size : List Row → ℕ
rows_size rows = length (flat_map (row_spelling newest) rows)

pub whole_long : (checkpoint : Checkpoint) → length (checkpoint_spelling newest checkpoint) ≡ 29 + texts_size checkpoint.eras + rows_size checkpoint.rows
whole_long checkpoint =
    omega (arith, checkpoint_long newest checkpoint, length-flat_map bytes_spelling checkpoint.eras, length-flat_map (row_spelling newest) checkpoint.rows)

pub changes_long : (change : Change) → length (change_spelling newest change) ≡ 24 + rows_size change.rows
changes_long change = omega (arith, change_long newest change, length-flat_map (row_spelling newest) change.rows)

-- ---- one more

pub take_next : {X : Type 0} (xs : List X) (place : ℕ) (x : X) → slice_get xs place ≡ Some x → take (place + 1) xs ≡ take place xs ++ x ∷ []
take_next xs place x is =
    take_more xs place x (slice_get_within xs place x is) ∙ ap (λ y. take place xs ++ y ∷ []) (get_or_from_slice_get xs place x x is)

length_more : {X : Type 0} (spelled : X → List ℕ) (xs ys : List X) (x : X) → ys ≡ xs ++ x ∷ [] → length (flat_map spelled ys) ≡ length (flat_map spelled xs) + length (spelled x)
length_more {X} spelled xs ys x is =
    let front = flat_map spelled xs in
    ap (λ (l : List X). length (flat_map spelled l)) is
    ∙ ap (λ (l : List ℕ). length l) (flat_map-append spelled xs (x ∷ []))
    ∙ length-append front (spelled x ++ [])
    ∙ ap (λ (l : List ℕ). length front + length l) (append-nil (spelled x))

length_within : {X : Type 0} (spelled : X → List ℕ) (xs : List X) (place : ℕ) (x : X) → slice_get xs place ≡ Some x
    → length (flat_map spelled (take place xs)) + length (spelled x) ≤ length (flat_map spelled xs)
length_within {X} spelled xs place x is =
    subst (λ (y : X). length (flat_map spelled (take place xs)) + length (spelled y) ≤ length (flat_map spelled xs)) (get_or_from_slice_get xs place x x is)
    (length-flat_map-take spelled xs place x (slice_get_within xs place x is))

pub text_next : (eras : List (List ℕ)) (place : ℕ) (text : List ℕ) → slice_get eras place ≡ Some text → texts_size (take (place + 1) eras) ≡ texts_size (take place eras) + (4 + length text)
text_next eras place text is = omega (arith, length_more bytes_spelling (take place eras) (take (place + 1) eras) text (take_next eras place text is), bytes_long text)

pub text_within : (eras : List (List ℕ)) (place : ℕ) (text : List ℕ) → slice_get eras place ≡ Some text → texts_size (take place eras) + (4 + length text) ≤ texts_size eras
text_within eras place text is = omega (arith, length_within bytes_spelling eras place text is, bytes_long text)

pub row_next : (rows : List Row) (place : ℕ) (row : Row) → slice_get rows place ≡ Some row → rows_size (take (place + 1) rows) ≡ rows_size (take place rows) + length (row_spelling newest row)
row_next rows place row is = length_more (row_spelling newest) (take place rows) (take (place + 1) rows) row (take_next rows place row is)

pub row_within : (rows : List Row) (place : ℕ) (row : Row) → slice_get rows place ≡ Some row → rows_size (take place rows) + length (row_spelling newest row) ≤ rows_size rows
row_within rows place row is = length_within (row_spelling newest) rows place row is

-- ---- one more of the rows whose flag is set

pub next_size : (left behind : List Row) (row : Row) → left ≡ row ∷ behind → rows_size left ≡ length (row_spelling newest row) + rows_size behind
next_size left behind row is = ap rows_size is ∙ length-append (row_spelling newest row) (flat_map (row_spelling newest) behind)
