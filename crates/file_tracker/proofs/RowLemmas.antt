-- One row changes, or is put behind the others.
use Rattle.std.proofs.Common.{◌≡◌, ℕ, ◌<◌, Bool, true, false, List, [], ◌∷◌, ◌++◌, length, take, drop, set, get_or, Some, refl, ap, subst, ◌∙◌, arith, slice_get, if◌then◌else◌, nat_lt, MatchBool}
use Rattle.std.proofs.lemmas.List.{length-set, length-map, length_push, map-set, map_push, set-get_or, take_at}
use Rattle.std.proofs.lemmas.Option.{get_or_from_slice_get, slice_get_read}
use Rattle.std.specs.List.{insert}
use Rattle.file_tracker.specs.declared.row.Row.{Row}
use Rattle.file_tracker.specs.Limits.{row_limit}
use Rattle.file_tracker.specs.Fronts.{begins, front_of, fronts_of, front_at, ArePrefixFree}
use Rattle.file_tracker.specs.Order.{front_in, ArePlaces, Ascends, AscendsBefore, StandsBetween, IsIndex, IsKept}
use Rattle.file_tracker.proofs.FrontLemmas.{front_read}
use Rattle.file_tracker.proofs.FreeLemmas.{grown_free}
use Rattle.file_tracker.proofs.AscentLemmas.{grown_ascends, grown_others}
use Rattle.file_tracker.proofs.AdmitLemmas.{admitted}

-- where the front stays, all fronts stay
pub same_fronts : (rows : List Row) (place : ℕ) (was now : Row) → place < length rows → was ≡ get_or rows place was → front_of now ≡ front_of was → fronts_of (set rows place now) ≡ fronts_of rows
same_fronts rows place was now inside read same =
    map-set front_of rows place now ∙ ap (set (fronts_of rows) place) (same ∙ front_read rows place was inside read) ∙ set-get_or (fronts_of rows) place []

pub kept_same : (rows : List Row) (order : List ℕ) (nested : Bool) (place : ℕ) (was now : Row) → place < length rows → was ≡ get_or rows place was → front_of now ≡ front_of was
    → IsKept rows order nested → IsKept (set rows place now) order nested
kept_same rows order nested place was now inside read same kept = record {
  short = rw length-set kept.short;
  index = rw (same_fronts rows place was now inside read same) kept.index;
}

-- what is read at a place is the row there
pub row_read : (rows : List Row) (place : ℕ) (row was : Row) → place < length rows → was ≡ get_or rows place was → slice_get rows place ≡ Some row → was ≡ row
row_read rows place row was inside read there = read ∙ get_or_from_slice_get rows place row was there

-- a row is put behind the others
pub kept_more : (rows : List Row) (order : List ℕ) (nested begun ahead now : Bool) (k : ℕ) (row : Row) → length rows < row_limit → IsKept rows order nested
    → StandsBetween (fronts_of rows) order (front_of row) k k begun
    → ahead ≡ (if nat_lt k (length order) then begins (front_of row) (front_in (fronts_of rows) order k) else false)
    → now ≡ (if nested then true else if begun then true else ahead) → IsKept (rows ++ row ∷ []) (insert order k (length rows)) now
kept_more rows order nested begun ahead now k row room kept stands next is = record {
  short = rw length_push (omega arith);
  index = rw (map_push front_of rows row)
      (subst (λ (n : ℕ). IsIndex (fronts_of rows ++ front_of row ∷ []) (insert order k n) now) (length-map rows front_of)
      (admitted (fronts_of rows) order (front_of row) k nested begun ahead now kept.index stands next is));
}

-- the fronts where one row's has grown
pub grown_fronts : (rows : List Row) (place : ℕ) (now : Row) → fronts_of (set rows place now) ≡ set (fronts_of rows) place (front_of now)
grown_fronts rows place now = map-set front_of rows place now

pub grown_begins : (rows : List Row) (place : ℕ) (was : Row) (grown : List ℕ) → place < length rows → was ≡ get_or rows place was
    → ((row : Row) → slice_get rows place ≡ Some row → begins (front_of row) grown ≡ true) → begins (front_at (fronts_of rows) place) grown ≡ true
grown_begins rows place was grown inside read grows =
    subst (λ (f : List ℕ). begins f grown ≡ true) (front_read rows place was inside read) (grows was (slice_get_read rows (length rows) place was refl inside read))

-- where no front began another the order stays
pub kept_grown : (rows : List Row) (order : List ℕ) (place : ℕ) (now : Row) → place < length rows → begins (front_at (fronts_of rows) place) (front_of now) ≡ true
    → IsKept rows order false → IsKept (set rows place now) order false
kept_grown rows order place now inside grows kept = record {
  short = rw length-set kept.short;
  index = rw (grown_fronts rows place now) (record {
    places = rw length-set kept.index.places;
    ascends = grown_ascends (fronts_of rows) order place (front_of now) kept.index.places kept.index.ascends kept.index.known (rw length-map inside) grows;
    known = grown_free (fronts_of rows) kept.index.known place (front_of now) (rw length-map inside) grows;
  });
}

pub others_grown : (rows : List Row) (order : List ℕ) (nested : Bool) (place : ℕ) (now : Row) → place < length rows → begins (front_at (fronts_of rows) place) (front_of now) ≡ true
    → IsKept rows order nested → AscendsBefore place 0 (fronts_of (set rows place now)) order
others_grown rows order nested place now inside grows kept =
    rw (grown_fronts rows place now) (grown_others (fronts_of rows) order place (front_of now) kept.index.ascends (rw length-map inside) grows)

-- where the order was settled, and it was found out whether some front begins another
pub kept_settled : (rows : List Row) (order settled : List ℕ) (was nested : Bool) (place n : ℕ) (now : Row) → IsKept rows order was → n ≡ length order
    → ArePlaces (length (set rows place now)) settled → Ascends (fronts_of (set rows place now)) settled
    → MatchBool nested (¬ ArePrefixFree (fronts_of (set rows place now))) (ArePrefixFree (fronts_of (set rows place now)))
    → IsKept (set rows place now) (take n (settled ++ drop (length settled) order)) nested
kept_settled rows order settled was nested place n now kept size places ascends known =
    let same : length settled ≡ n = omega (arith, places.size, length-set rows place now, kept.index.places.size, length-map rows front_of, size) in
    rw (take_at settled (drop (length settled) order) n same) (record {
      short = rw length-set kept.short;
      index = record {
        places = rw length-map places;
        ascends = ascends;
        known = known;
      };
    })
