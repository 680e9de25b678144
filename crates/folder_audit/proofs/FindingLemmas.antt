-- Findings, one after another, and what they come to.
use Rattle.std.proofs.Common.{◌≡◌, ◌⊎◌, ℕ, zero, suc, ◌+◌, ◌*◌, ◌<◌, ◌≤◌, List, [], ◌∷◌, length, take, get_or, false, refl, sym, ap, subst, ◌∙◌, inl, inr, arith}
use Rattle.std.specs.Prelude.{IfSome, Option, None, Some, slice_get, sum_by}
use Rattle.std.proofs.lemmas.Bool.{cases_lt}
use Rattle.std.proofs.lemmas.Option.{slice_get_within, slice_get-get_or, get_or_from_slice_get, same_Some}
use Rattle.std.proofs.lemmas.List.Sums.{sum_by-le, sum_by_more}
use Rattle.outside.proofs.Telling.{told_then, told_weaker}
use Rattle.outside.specs.World.{World, Told}
use Rattle.standing.specs.Rows.{Row, IsRowAt}
use Rattle.tree_walk.specs.Calls.{KeepsHandles}
use Rattle.folder_audit.specs.Findings.{AreFoundAt, HasFound, IsFoundAt, IsOneFound, is_other, lines_in}
use Rattle.folder_audit.specs.Judged.{IsFound, TellsLines}
use Rattle.folder_audit.specs.KeptFiles.{texts_of}
use Rattle.folder_audit.specs.declared.findings.Finding.{Finding}
use Rattle.folder_audit.specs.declared.findings.Finding.TheVariants.{Absent, Same, Differs}
use Rattle.folder_audit.specs.declared.kept.Kept.{Kept}
use Rattle.folder_audit.proofs.OpenLemmas.{found_later}

-- ---- all rows, one look after another

abbrev pub Noted : List Finding → ℕ → Finding → List Finding → Type 0
Noted before place finding after = (k : ℕ) (one : Finding) → slice_get after k ≡ Some one → (slice_get before k ≡ Some one) ⊎ ((k ≡ place) × (one ≡ finding))

-- nothing found is found
pub none_found : (kept : Kept) (found : List Finding) (change : World → World → Type 0) (old new : Option World) → length found ≡ length kept.rows → ((k : ℕ) (one : Finding) → slice_get found k ≡ Some one → one ≡ Absent) → Told change old new → HasFound kept found old new
none_found kept found change old new many absent told = record {
  are = record { many = many; lines = λ place row finding at there. subst (TellsLines row) (sym (absent place finding there)) tt };
  hold = told_weaker change (AreFoundAt kept found) old new (λ x y c place finding there row text last at text_at is_last. subst (λ (f : Finding). IsFound kept.pipes.items last text row f x y) (sym (absent place finding there)) tt) told;
}

found_on : (kept : Kept) (found : List Finding) (old mid new : World) → KeepsHandles mid new → AreFoundAt kept found old mid → AreFoundAt kept found old new
found_on kept found old mid new keeps holds = λ place finding there row text last at text_at is_last.
    found_later kept.pipes.items last text row finding old old mid new (record { events = []; goes_on = refl }) keeps.later (holds place finding there row text last at text_at is_last)

found_more : (kept : Kept) (before after : List Finding) (place : ℕ) (finding : Finding) (old mid new : World) → KeepsHandles old mid → KeepsHandles mid new → Noted before place finding after → AreFoundAt kept before old mid → IsFoundAt kept place finding mid new
    → AreFoundAt kept after old new
found_more kept before after place finding old mid new earlier keeps noted holds one = λ k other there row text last at text_at is_last.
    elim (noted k other there) [
      | inl stood ↦ found_on kept before old mid new keeps holds k other stood row text last at text_at is_last
      | inr here ↦ (
          let same_row : IsRowAt kept.rows place row = subst (λ (n : ℕ). IsRowAt kept.rows n row) here.0 at in
          let same_text : slice_get (texts_of kept) place ≡ Some text = subst (λ (n : ℕ). slice_get (texts_of kept) n ≡ Some text) here.0 text_at in
          subst (λ (f : Finding). IsFound kept.pipes.items last text row f old new) (sym here.1)
          (found_later kept.pipes.items last text row finding old mid new new earlier.later (record { events = []; goes_on = refl }) (one row text last same_row same_text is_last)))
    ]

-- a call that found something of one row
pub found_one : (kept : Kept) (before after : List Finding) (place : ℕ) (finding : Finding) (old mid new : Option World) → Told KeepsHandles old mid → Told KeepsHandles mid new → length after ≡ length before → Noted before place finding after
    → HasFound kept before old mid → IsOneFound kept place finding mid new → HasFound kept after old new
found_one kept before after place finding old mid new earlier keeps many noted so_far one = record {
  are = record {
    many = many ∙ so_far.are.many;
    lines = λ k row other at there. elim (noted k other there) [
      | inl stood ↦ so_far.are.lines k row other at stood
      | inr here ↦ (
          let same : row ≡ one.row = same_Some row one.row (sym at ∙ subst (λ (n : ℕ). IsRowAt kept.rows n one.row) (sym here.0) one.there) in
          subst (λ (f : Finding). TellsLines row f) (sym here.1) (subst (λ (r : Row). TellsLines r finding) (sym same) one.lines))
    ];
  };
  hold = by old mid new earlier keeps so_far.hold one.holds;
} where
  by : (old mid new : Option World) → Told KeepsHandles old mid → Told KeepsHandles mid new → Told (AreFoundAt kept before) old mid → Told (IsFoundAt kept place finding) mid new → Told (AreFoundAt kept after) old new
  by None None None a b c d = tt
  by None None (Some z) a b c d = b
  by None (Some y) new a b c d = absurd a
  by (Some x) None new a b c d = absurd a
  by (Some x) (Some y) None a b c d = b
  by (Some x) (Some y) (Some z) a b c d = found_more kept before after place finding x y z a b noted c d

-- ---- what they come to

pub lines_more : (found : List Finding) (i : ℕ) (one : Finding) → slice_get found i ≡ Some one → sum_by lines_in (take (i + 1) found) ≡ sum_by lines_in (take i found) + lines_in one
lines_more found i one at = sum_by_more lines_in found i one (slice_get_within found i one at) ∙ ap (λ (n : ℕ). sum_by lines_in (take i found) + n) (ap lines_in (get_or_from_slice_get found i one one at))

-- none differs up to one that doesn't, and so on
pub none_more : (found : List Finding) (n : ℕ) (one : Finding) → slice_get found n ≡ Some one → is_other one ≡ false → ((place : ℕ) (other : Finding) → place < n → slice_get found place ≡ Some other → is_other other ≡ false)
    → (place : ℕ) (other : Finding) → place < n + 1 → slice_get found place ≡ Some other → is_other other ≡ false
none_more found n one at is before place other early there = elim (cases_lt place n) [
  | inl less ↦ before place other less there
  | inr late ↦ (
      let here : place ≡ n = omega (arith, early, late) in
      let same : one ≡ other = same_Some one other (sym at ∙ subst (λ (k : ℕ). slice_get found k ≡ Some other) here there) in
      ap is_other (sym same) ∙ is)
]

lines_few : (row : Row) (one : Finding) (most : ℕ) → TellsLines row one → row.lines ≤ most → lines_in one ≤ most
lines_few row Absent most told few = omega arith
lines_few row (Same lines) most told few = omega (arith, told, few)
lines_few row (Differs line) most told few = omega arith

row_at : (rows : List Row) (k : ℕ) → k < length rows → (row : Row) × (slice_get rows k ≡ Some row)
row_at [] k within = absurd (omega (arith, within))
row_at (row ∷ rows) zero within = (row, refl)
row_at (row ∷ rows) (suc k) within = row_at rows k (omega (arith, within))

pub lines_bounded : (rows : List Row) (found : List Finding) (most : ℕ) → length found ≡ length rows → ((place : ℕ) (row : Row) (one : Finding) → slice_get rows place ≡ Some row → slice_get found place ≡ Some one → TellsLines row one × (row.lines ≤ most))
    → sum_by lines_in found ≤ length found * most
lines_bounded rows found most many each = sum_by-le lines_in most found (λ k d within.
    let row = row_at rows k (omega (arith, within, many)) in
    let both = each k row.0 (get_or found k d) row.1 (slice_get-get_or found k d within) in
    lines_few row.0 (get_or found k d) most both.0 both.1)

-- ---- a look that may have found something

noted_none : (kept : Kept) (before after : List Finding) (old mid new : Option World) → Told KeepsHandles mid new → length after ≡ length before → ((k : ℕ) (one : Finding) → slice_get after k ≡ Some one → slice_get before k ≡ Some one)
    → HasFound kept before old mid → HasFound kept after old new
noted_none kept before after old mid new keeps many noted so_far = record {
  are = record { many = many ∙ so_far.are.many; lines = λ k row one at there. so_far.are.lines k row one at (noted k one there) };
  hold = told_then (AreFoundAt kept before) KeepsHandles (AreFoundAt kept after) old mid new (λ x y z holds k place one there. found_on kept before x y z k holds place one (noted place one there)) so_far.hold keeps;
}

pub found_noted : (kept : Kept) (before after : List Finding) (judged : Option (ℕ × Finding)) (old mid new : Option World) → Told KeepsHandles old mid → Told KeepsHandles mid new → length after ≡ length before
    → ((k : ℕ) (one : Finding) → slice_get after k ≡ Some one → (slice_get before k ≡ Some one) ⊎ (judged ≡ Some (k, one))) → IfSome judged (λ one. IsOneFound kept one.0 one.1 mid new) → HasFound kept before old mid → HasFound kept after old new
found_noted kept before after None old mid new earlier keeps many noted one so_far = noted_none kept before after old mid new keeps many (λ k other there. elim (noted k other there) [
  | inl stood ↦ stood
  | inr here ↦ absurd (let never : None ≡ Some (k, other) = here in cc)
]) so_far
found_noted kept before after (Some judged) old mid new earlier keeps many noted one so_far = found_one kept before after judged.0 judged.1 old mid new earlier keeps many (λ k other there. elim (noted k other there) [
  | inl stood ↦ inl stood
  | inr here ↦ (let same : judged ≡ (k, other) = same_Some judged (k, other) here in inr (sym (ap (λ (p : ℕ × Finding). p.0) same), sym (ap (λ (p : ℕ × Finding). p.1) same)))
]) so_far one

-- what was found later was found in the whole
pub found_earlier : (kept : Kept) (found : List Finding) (old mid new : Option World) → Told KeepsHandles old mid → HasFound kept found mid new → HasFound kept found old new
found_earlier kept found old mid new earlier has = record {
  are = has.are;
  hold = told_then KeepsHandles (AreFoundAt kept found) (AreFoundAt kept found) old mid new (λ x y z k holds place finding there row text last at text_at is_last.
      found_later kept.pipes.items last text row finding x y z z k.later (record { events = []; goes_on = refl }) (holds place finding there row text last at text_at is_last)) earlier has.hold;
}
