-- Byte order and what begins with what.
use Rattle.std.proofs.Common.{◌≡◌, ℕ, ◌<◌, Bool, true, false, List, [], ◌∷◌, length, take, refl, sym, ap, ◌∙◌, arith, Ordering, get_or, true≢false, ◌⊎◌, inl, inr}
use Rattle.std.proofs.lemmas.Cmp.{upto, tied_itself, nat_list_cmp_total}
use Rattle.std.specs.Cmp.Lexicographic.{slice_cmp, texts_ties}
use Rattle.std.specs.Ordering.{nat_cmp, is_gt, is_eq, ordering_reverse}
use Rattle.std.specs.declared.cmp.Ordering.TheVariants.{Less, Equal, Greater}
use Rattle.std.proofs.lemmas.Bool.Decides.{nat_tests}
use Rattle.file_tracker.specs.Fronts.{begins, front_of, fronts_of, front_at}
use Rattle.file_tracker.specs.declared.row.Row.{Row}
use Rattle.std.proofs.lemmas.List.{get_or-map}
use Rattle.file_tracker.specs.Order.{IsAtMost, IsAbove}

-- as many bytes of the text as the front has decide whether the front stands behind it
pub shortened : (front text : List ℕ) → is_gt (slice_cmp nat_cmp front (take (length front) text)) ≡ is_gt (slice_cmp nat_cmp front text)
shortened [] [] = refl
shortened [] (y ∷ ys) = refl
shortened (x ∷ xs) [] = refl
shortened (x ∷ xs) (y ∷ ys) = grind (arith, nat_tests, shortened xs ys)

pub tied : (front text : List ℕ) → is_eq (slice_cmp nat_cmp front (take (length front) text)) ≡ begins front text
tied front text = sym (texts_ties front (take (length front) text))

-- what stands between a front and a text that begins with it begins with it too
pub between : (front middle text : List ℕ) → begins front text ≡ true → IsAtMost front middle → IsAtMost middle text → begins front middle ≡ true
between [] middle text begun up on = refl
between (x ∷ xs) [] text begun up on = grind (arith, nat_tests)
between (x ∷ xs) (y ∷ ys) [] begun up on = grind (arith, nat_tests)
between (x ∷ xs) (y ∷ ys) (z ∷ zs) begun up on = grind (arith, nat_tests, between xs ys zs)

-- a front is not above a text that begins with it
pub begun_at_most : (front text : List ℕ) → begins front text ≡ true → IsAtMost front text
begun_at_most [] [] begun = refl
begun_at_most [] (y ∷ ys) begun = refl
begun_at_most (x ∷ xs) [] begun = grind (arith, nat_tests)
begun_at_most (x ∷ xs) (y ∷ ys) begun = grind (arith, nat_tests, begun_at_most xs ys)

pub at_most_itself : (front : List ℕ) → IsAtMost front front
at_most_itself front = rw (tied_itself nat_list_cmp_total front)

over : (o r : Ordering) → r ≡ ordering_reverse o → is_gt o ≡ true → is_gt r ≡ false
over Less r e gt = cc
over Equal r e gt = cc
over Greater r e gt = rw e refl

pub above_is_over : (one other : List ℕ) → IsAbove one other → IsAtMost other one
above_is_over one other above = over (slice_cmp nat_cmp one other) (slice_cmp nat_cmp other one) (nat_list_cmp_total.antisymm other one) above

pub at_most_over : (one middle other : List ℕ) → IsAtMost one middle → IsAtMost middle other → IsAtMost one other
at_most_over one middle other = upto nat_list_cmp_total one middle other

-- what is above a front that is above a text is above it too
pub above_under : (one other text : List ℕ) → IsAbove one text → IsAtMost one other → IsAbove other text
above_under one other text above up = by_test (is_gt (slice_cmp nat_cmp other text)) refl
  where
    by_test : (b : Bool) → is_gt (slice_cmp nat_cmp other text) ≡ b → IsAbove other text
    by_test true e = e
    by_test false e = absurd (true≢false (sym above ∙ at_most_over one other text up e))

-- the front of the row at a place
pub front_read : (rows : List Row) (place : ℕ) (row : Row) → place < length rows → row ≡ get_or rows place row → front_of row ≡ front_at (fronts_of rows) place
front_read rows place row inside read = ap front_of read ∙ sym (get_or-map front_of rows place row [] inside)

pub begins_itself : (front : List ℕ) → begins front front ≡ true
begins_itself [] = refl
begins_itself (x ∷ xs) = grind (arith, nat_tests, begins_itself xs)

pub begins_through : (front middle text : List ℕ) → begins front middle ≡ true → begins middle text ≡ true → begins front text ≡ true
begins_through [] middle text one other = refl
begins_through (x ∷ xs) [] text one other = grind (arith, nat_tests)
begins_through (x ∷ xs) (y ∷ ys) [] one other = grind (arith, nat_tests)
begins_through (x ∷ xs) (y ∷ ys) (z ∷ zs) one other = grind (arith, nat_tests, begins_through xs ys zs)

-- of two fronts of one text one begins the other
pub one_begins : (one other text : List ℕ) → begins one text ≡ true → begins other text ≡ true → (begins one other ≡ true) ⊎ (begins other one ≡ true)
one_begins one other text first second = by_test (is_gt (slice_cmp nat_cmp one other)) refl
  where
    by_test : (b : Bool) → is_gt (slice_cmp nat_cmp one other) ≡ b → (begins one other ≡ true) ⊎ (begins other one ≡ true)
    by_test false e = inl (between one other text first e (begun_at_most other text second))
    by_test true e = inr (between other one text second (above_is_over one other e) (begun_at_most one text first))

-- what isn't above is at most
pub at_most_or_above : (one other : List ℕ) → IsAtMost one other ⊎ IsAbove one other
at_most_or_above one other = by_test (is_gt (slice_cmp nat_cmp one other)) refl
  where
    by_test : (b : Bool) → is_gt (slice_cmp nat_cmp one other) ≡ b → IsAtMost one other ⊎ IsAbove one other
    by_test false e = inl e
    by_test true e = inr e
