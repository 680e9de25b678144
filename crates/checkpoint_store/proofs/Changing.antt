-- A change that fits a checkpoint makes a checkpoint of it, in which exactly its rows are changed.
use Rattle.std.proofs.Common.{◌≡◌, ℕ, zero, suc, ◌+◌, ◌-◌, ◌<◌, ◌≤◌, List, [], ◌∷◌, ◌++◌, length, set, Some, refl, sym, ap, subst, ◌∙◌, arith, inl, inr}
use Rattle.std.specs.Prelude.{slice_get}
use Rattle.std.specs.List.{All, fold}
use Rattle.std.proofs.lemmas.Bool.{cases_lt, lt-ltb, le-ltb}
use Rattle.std.proofs.lemmas.List.{length-set, length_push, get_or-set_same, get_or-set_other, get_or_append_left, get_or_push}
use Rattle.std.proofs.lemmas.List.Elements.{All-nil, All-cons}
use Rattle.std.proofs.lemmas.Option.{slice_get-get_or}
use Rattle.file_tracker.specs.declared.ends.End.{End}
use Rattle.file_tracker.specs.declared.row.Row.{Row}
use Rattle.checkpoint_store.specs.declared.Checkpoint.{Checkpoint}
use Rattle.checkpoint_store.specs.declared.Change.{Change}
use Rattle.checkpoint_store.specs.declared.beside.Beside.{Beside}
use Rattle.checkpoint_store.specs.declared.past.Past.{Past}
use Rattle.checkpoint_store.specs.Rules.{past_of, first_point, last_point, KeepsPast, KeepsRules, KeepRules, Follows, IsCheckpoint, beside_of}
use Rattle.checkpoint_store.specs.Fits.{Ascend, HasId, Fits}
use Rattle.checkpoint_store.specs.Changed.{with_row, changed, HasChanged}
use Rattle.checkpoint_store.proofs.Ascending.{has_low}

-- ---- rows keep the rules

-- beside other numbers that ask no more
pub moved_keeps : (a b : Beside) (row : Row) → a.output_length ≤ b.output_length → ((from to : End) (past : Past) → KeepsPast a from to past → KeepsPast b from to past) → KeepsRules a row → KeepsRules b row
moved_keeps a b row above past keeps = record {
  id = keeps.id;
  path = keeps.path;
  front = keeps.front;
  start = keeps.start;
  offset = keeps.offset;
  records = keeps.records;
  lines = omega (arith, keeps.lines, above);
  state = keeps.state;
  past = past (first_point row) (last_point row) (past_of row) keeps.past;
}

pub moved_keep : (a b : Beside) (first : ℕ) (rows : List Row) → a.output_length ≤ b.output_length → ((from to : End) (past : Past) → KeepsPast a from to past → KeepsPast b from to past)
    → KeepRules a first rows → KeepRules b first rows
moved_keep a b first [] above past keep = tt
moved_keep a b first (row ∷ rows) above past keep = (keep.0, (moved_keeps a b row above past keep.1.0, moved_keep a b (first + 1) rows above past keep.1.1))

longer_past : (version output longer : ℕ) (eras : List (List ℕ)) (from to : End) (past : Past) → KeepsPast (beside_of version eras output) from to past → KeepsPast (beside_of version eras longer) from to past
longer_past version output longer eras from to past k =
    record { of_version = k.of_version; eras = k.eras; born = k.born; count = k.count; ends = k.ends; seen = k.seen; quiet = k.quiet }

set_keep : (beside : Beside) (first i : ℕ) (row : Row) (rows : List Row) → i < length rows → row.id ≡ first + i → KeepsRules beside row → KeepRules beside first rows → KeepRules beside first (set rows i row)
set_keep beside first i row [] inside is keeps keep = omega (arith, inside)
set_keep beside first zero row (held ∷ rows) inside is keeps keep = (omega (arith, is), (keeps, keep.1.1))
set_keep beside first (suc i) row (held ∷ rows) inside is keeps keep =
    (keep.0, (keep.1.0, set_keep beside (first + 1) i row rows (omega (arith, inside)) (omega (arith, is)) keeps keep.1.1))

push_keep : (beside : Beside) (first : ℕ) (row : Row) (rows : List Row) → row.id ≡ first + length rows → KeepsRules beside row → KeepRules beside first rows → KeepRules beside first (rows ++ row ∷ [])
push_keep beside first row [] is keeps keep = (omega (arith, is), (keeps, tt))
push_keep beside first row (held ∷ rows) is keeps keep = (keep.0, (keep.1.0, push_keep beside (first + 1) row rows (omega (arith, is)) keeps keep.1.1))

-- ---- one row

with_yes : (rows : List Row) (row : Row) → row.id - 1 < length rows → with_row rows row ≡ set rows (row.id - 1) row
with_yes rows row inside = rw (lt-ltb (row.id - 1) (length rows) inside) refl

with_no : (rows : List Row) (row : Row) → length rows ≤ row.id - 1 → with_row rows row ≡ rows ++ row ∷ []
with_no rows row past = rw (le-ltb (row.id - 1) (length rows) past) refl

-- a row stands at its place, and all others stay
record Puts (beside : Beside) (rows : List Row) (row : Row) (after : List Row) : Type 0 where
  grows : length rows ≤ length after
  within : row.id - 1 < length after
  most : (high : ℕ) → length rows ≤ high → row.id ≤ high → length after ≤ high
  placed : slice_get after (row.id - 1) ≡ Some row
  stays : (place : ℕ) → place < length rows → (row.id ≡ place + 1 → ⊥) → slice_get after place ≡ slice_get rows place
  keep : KeepRules beside 1 after

set_puts : (beside : Beside) (rows : List Row) (row : Row) → 1 ≤ row.id → row.id - 1 < length rows → KeepsRules beside row → KeepRules beside 1 rows → Puts beside rows row (set rows (row.id - 1) row)
set_puts beside rows row some inside keeps keep =
    let i : ℕ = row.id - 1 in
    let long : length (set rows i row) ≡ length rows = length-set rows i row in
    record {
      grows = omega (arith, long);
      within = omega (arith, long, inside);
      most = λ high short below. omega (arith, long, short);
      placed = slice_get-get_or (set rows i row) i row (omega (arith, long, inside)) ∙ ap (λ (r : Row). Some r) (get_or-set_same rows i row row inside);
      stays = λ place within other.
          slice_get-get_or (set rows i row) place row (omega (arith, long, within))
          ∙ ap (λ (r : Row). Some r) (get_or-set_other rows i place row row (λ e. other (omega (arith, e, some)))) ∙ sym (slice_get-get_or rows place row within);
      keep = set_keep beside 1 i row rows inside (omega (arith, some)) keeps keep;
    }

push_puts : (beside : Beside) (rows : List Row) (row : Row) → row.id ≡ length rows + 1 → KeepsRules beside row → KeepRules beside 1 rows → Puts beside rows row (rows ++ row ∷ [])
push_puts beside rows row is keeps keep =
    let long : length (rows ++ row ∷ []) ≡ length rows + 1 = length_push rows row in
    record {
      grows = omega (arith, long);
      within = omega (arith, long, is);
      most = λ high short below. omega (arith, long, is, below);
      placed = slice_get-get_or (rows ++ row ∷ []) (row.id - 1) row (omega (arith, long, is)) ∙ ap (λ (r : Row). Some r) (get_or_push rows row row (row.id - 1) (omega (arith, is)));
      stays = λ place within other.
          slice_get-get_or (rows ++ row ∷ []) place row (omega (arith, long, within))
          ∙ ap (λ (r : Row). Some r) (get_or_append_left rows (row ∷ []) row place within) ∙ sym (slice_get-get_or rows place row within);
      keep = push_keep beside 1 row rows (omega (arith, is)) keeps keep;
    }

row_puts : (beside : Beside) (rows : List Row) (row : Row) → 1 ≤ row.id → row.id ≤ length rows + 1 → KeepsRules beside row → KeepRules beside 1 rows → Puts beside rows row (with_row rows row)
row_puts beside rows row some next keeps keep = elim (cases_lt (row.id - 1) (length rows)) [
  | inl inside ↦ subst (λ (after : List Row). Puts beside rows row after) (sym (with_yes rows row inside)) (set_puts beside rows row some inside keeps keep)
  | inr past ↦ subst (λ (after : List Row). Puts beside rows row after) (sym (with_no rows row past)) (push_puts beside rows row (omega (arith, past, next, some)) keeps keep)
]

-- ---- all rows of a change

record PutsAll (beside : Beside) (high : ℕ) (rows changes after : List Row) : Type 0 where
  count : length after ≡ high
  named : All (λ (row : Row). slice_get after (row.id - 1) ≡ Some row) changes
  others : (place : ℕ) → place < length rows → (HasId changes (place + 1) → ⊥) → slice_get after place ≡ slice_get rows place
  keep : KeepRules beside 1 after

-- the first row, and then the others
puts_more : (beside : Beside) (high : ℕ) (rows mid after : List Row) (row : Row) (changes : List Row) → 1 ≤ row.id → Ascend beside (row.id + 1) high changes → Puts beside rows row mid → PutsAll beside high mid changes after
    → PutsAll beside high rows (row ∷ changes) after
puts_more beside high rows mid after row changes some a one all = record {
  count = all.count;
  named = All-cons (λ (r : Row). slice_get after (r.id - 1) ≡ Some r) row changes
      (all.others (row.id - 1) one.within (λ h. omega (arith, some, has_low beside (row.id + 1) high (row.id - 1 + 1) changes a h)) ∙ one.placed) all.named;
  others = λ place inside not_there.
      all.others place (omega (arith, inside, one.grows)) (λ h. not_there (inr h)) ∙ one.stays place inside (λ e. not_there (inl e));
  keep = all.keep;
}

puts_all : (beside : Beside) (low high : ℕ) (changes rows : List Row) → 1 ≤ low → length rows ≤ high → KeepRules beside 1 rows → Ascend beside low high changes
    → ((id : ℕ) → length rows < id → id ≤ high → HasId changes id) → PutsAll beside high rows changes (fold with_row rows changes)
puts_all beside low high [] rows some short keep a new = record {
  count = elim (cases_lt (length rows) high) [ inl less ↦ absurd (new (length rows + 1) (omega arith) (omega (arith, less))) | inr all ↦ omega (arith, short, all) ];
  named = All-nil (λ (row : Row). slice_get rows (row.id - 1) ≡ Some row);
  others = λ place inside not_there. refl;
  keep = keep;
}
puts_all beside low high (row ∷ changes) rows some short keep a new =
    let next : row.id ≤ length rows + 1 = elim (cases_lt (length rows + 1) row.id) [
      | inl past ↦ absurd (elim (new (length rows + 1) (omega arith) (omega (arith, past, a.0.1))) [
        | inl is ↦ omega (arith, is, past)
        | inr h ↦ omega (arith, past, has_low beside (row.id + 1) high (length rows + 1) changes a.1.1 h)
      ])
      | inr within ↦ within
    ] in
    let one = row_puts beside rows row (omega (arith, some, a.0.0)) next a.1.0 keep in
    puts_more beside high rows (with_row rows row) (fold with_row (with_row rows row) changes) row changes (omega (arith, some, a.0.0)) a.1.1 one
    (puts_all beside (row.id + 1) high changes (with_row rows row) (omega arith) (one.most high short a.0.1) one.keep a.1.1
    (λ id above below. elim (new id (omega (arith, above, one.grows)) below) [ inl is ↦ absurd (omega (arith, is, above, one.within)) | inr h ↦ h ]))

-- ---- the checkpoint

change_puts : (version : ℕ) (before : Checkpoint) (change : Change) → IsCheckpoint version before → Fits version before change
    → PutsAll (beside_of version before.eras change.output_length) (change.next_id - 1) before.rows change.rows (fold with_row before.rows change.rows)
change_puts version before change lawful fits =
    let old = beside_of version before.eras before.output_length in
    let new = beside_of version before.eras change.output_length in
    puts_all new 1 (change.next_id - 1) change.rows before.rows (omega arith) (omega (arith, lawful.count, fits.next_id.0))
    (moved_keep old new 1 before.rows fits.output_length.0 (longer_past version before.output_length change.output_length before.eras) lawful.rows) fits.rows
    (λ id above below. fits.new id (omega (arith, above, lawful.count)) (omega (arith, below, above)))

follows_both : (version first second third : ℕ) → Follows version first second → Follows version second third → Follows version first third
follows_both version first second third one two = record {
  of_version = λ old. two.of_version old ∙ one.of_version old;
  told = λ new. (omega (arith, (one.told new).0, (two.told new).0), (two.told new).1);
}

pub changed_lawful : (version : ℕ) (before : Checkpoint) (change : Change) → IsCheckpoint version before → Fits version before change → IsCheckpoint version (changed before change)
changed_lawful version before change lawful fits =
    let all = change_puts version before change lawful fits in
    record {
      eras = lawful.eras;
      output_length = fits.output_length.1;
      observed = follows_both version 0 before.observed change.observed lawful.observed fits.observed;
      next_id = (omega (arith, lawful.next_id.0, fits.next_id.0), fits.next_id.1);
      count = omega (arith, all.count, lawful.next_id.0, fits.next_id.0);
      rows = all.keep;
    }

pub changed_exact : (version : ℕ) (before : Checkpoint) (change : Change) → IsCheckpoint version before → Fits version before change → HasChanged before change (changed before change)
changed_exact version before change lawful fits =
    let all = change_puts version before change lawful fits in
    record {
      eras = refl;
      output_length = refl;
      observed = refl;
      next_id = refl;
      count = omega (arith, all.count, lawful.next_id.0, fits.next_id.0);
      named = all.named;
      others = all.others;
    }
