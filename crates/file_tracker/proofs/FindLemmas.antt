-- What the search by the order of the fronts finds, where no front is how another begins.
use Rattle.std.proofs.Common.{◌≡◌, ℕ, ◌-◌, ◌<◌, Bool, true, false, true≢false, List, [], ◌∷◌, length, get_or, Some, None, sym, ap, subst, ◌∙◌, arith, slice_index, nat_lt}
use Rattle.std.proofs.lemmas.List.{length-map, get_or-map}
use Rattle.std.proofs.lemmas.Bool.{ltb-true, lt-ltb}
use Rattle.file_tracker.specs.declared.row.Row.{Row}
use Rattle.file_tracker.specs.Fronts.{begins, front_of, fronts_of, front_at, ArePrefixFree}
use Rattle.file_tracker.specs.Places.{place_of}
use Rattle.file_tracker.specs.Order.{front_in, StandsBetween, IsIndex}
use Rattle.file_tracker.proofs.AdmitLemmas.{test_true}
use Rattle.file_tracker.proofs.FreeLemmas.{fails, tested, only_one, begun_last}
use Rattle.file_tracker.proofs.PlaceLemmas.{position_first, position_none}

front_there : (rows : List Row) (p : ℕ) (d : Row) → p < length rows → front_at (fronts_of rows) p ≡ front_of (get_or rows p d)
front_there rows p d inside = get_or-map front_of rows p d [] inside

-- the only front that begins the text stands at place p
found_at : (rows : List Row) (text : List ℕ) (p : ℕ) → p < length rows → ArePrefixFree (fronts_of rows) → begins (front_at (fronts_of rows) p) text ≡ true → place_of text rows ≡ Some p
found_at [] text p inside free begun = absurd (omega arith)
found_at (row ∷ rows) text p inside free begun =
    let all : List Row = row ∷ rows in
    position_first (λ (r : Row). begins (front_of r) text) all p row inside
    (λ k l. subst (λ (f : List ℕ). begins f text ≡ false) (front_there all k row (omega arith))
    (only_one (fronts_of all) free text p k (rw length-map inside) (rw length-map (omega arith)) (λ e. omega arith) begun))
    (subst (λ (f : List ℕ). begins f text ≡ true) (front_there all p row inside) begun)

pub found_behind : (fronts : List (List ℕ)) (order text : List ℕ) (k : ℕ) (begun : Bool) → StandsBetween fronts order text k k begun → begun ≡ true → 0 < k
found_behind fronts order text k begun stands is = ltb-true 0 k (test_true (nat_lt 0 k) (begins (front_in fronts order (k - 1)) text) (sym is ∙ stands.begins_last)).0

pub found : (rows : List Row) (order text : List ℕ) (k : ℕ) (begun : Bool) → IsIndex (fronts_of rows) order false → StandsBetween (fronts_of rows) order text k k begun
    → begun ≡ true → place_of text rows ≡ Some (slice_index order (k - 1))
found rows order text k begun index stands is =
    let both = test_true (nat_lt 0 k) (begins (front_in (fronts_of rows) order (k - 1)) text) (sym is ∙ stands.begins_last) in
    let some : 0 < k = ltb-true 0 k both.0 in
    let place : slice_index order (k - 1) < length (fronts_of rows) = index.places.in_range (k - 1) (omega (arith, stands.within)) in
    found_at rows text (slice_index order (k - 1)) (rw length-map at place) index.known both.1

pub not_found : (rows : List Row) (order text : List ℕ) (k : ℕ) (begun : Bool) → IsIndex (fronts_of rows) order false → StandsBetween (fronts_of rows) order text k k begun
    → begun ≡ false → place_of text rows ≡ None
not_found rows order text k begun index stands is =
    position_none (λ (r : Row). begins (front_of r) text) rows (λ p d inside. fails (begins (front_of (get_or rows p d)) text) (λ passes.
    let there : begins (front_at (fronts_of rows) p) text ≡ true = subst (λ (f : List ℕ). begins f text ≡ true) (sym (front_there rows p d inside)) passes in
    let last = begun_last (fronts_of rows) order text k begun index.places index.ascends index.known stands p (rw length-map inside) there in
    let at_last : begins (front_in (fronts_of rows) order (k - 1)) text ≡ begun =
    tested (nat_lt 0 k) (begins (front_in (fronts_of rows) order (k - 1)) text) begun (lt-ltb 0 k last.0) stands.begins_last in
    true≢false (sym there ∙ ap (λ (q : ℕ). begins (front_at (fronts_of rows) q) text) (sym last.1) ∙ at_last ∙ is)))
