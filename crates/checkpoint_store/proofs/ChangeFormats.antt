-- A change that is read is the one that is spelled and fits, and what fits is read.
use Rattle.std.proofs.Common.{◌≡◌, ℕ, ◌+◌, ◌-◌, ◌≤◌, Bool, true, false, cond, leb, ltb, List, [], ◌++◌, length, take, drop, Result, Ok, Err, refl, sym, ap, subst, ◌∙◌, arith, inl, inr}
use Rattle.std.specs.Prelude.{◌&&◌}
use Rattle.std.specs.Int.{Width, w32, w64, byte_len, from_be_bytes}
use Rattle.std.proofs.lemmas.Bool.{cases_lt, eqb-true, eq-eqb}
use Rattle.std.proofs.lemmas.List.{append-nil, length-drop}
use Rattle.file_tracker.specs.declared.row.Row.{Row}
use Rattle.file_tracker.specs.Limits.{row_limit}
use Rattle.state_codec.specs.Reading.{Reading, ◌>>=◌, number_at}
use Rattle.state_codec.proofs.Numbers.{IsBytes, Takes, bind_ok, test_ok, guard_ok}
use Rattle.checkpoint_store.specs.Limits.{output_limit, time_limit}
use Rattle.checkpoint_store.specs.declared.Checkpoint.{Checkpoint}
use Rattle.checkpoint_store.specs.declared.Change.{Change}
use Rattle.checkpoint_store.specs.Rules.{Follows, beside_of}
use Rattle.checkpoint_store.specs.Spelling.{change_spelling}
use Rattle.checkpoint_store.specs.Reading.{number_within, observed_at, ascending_at, has_new, change_at}
use Rattle.checkpoint_store.specs.Fits.{Ascend, Fits}
use Rattle.checkpoint_store.specs.Applied.{count_place}
use Rattle.checkpoint_store.proofs.Formats.{IsFormat, format_as, then_format, last_format}
use Rattle.checkpoint_store.proofs.Parts.{within_32, within_64}
use Rattle.checkpoint_store.proofs.CheckpointFormats.{rows_format, observed_format}
use Rattle.checkpoint_store.proofs.Ascending.{since, since_most, most, most_new, has_low, new_there, new_enough}

-- ---- all but the check of the new ids

unfoldable pub unchecked : ℕ → Checkpoint → List ℕ → Reading Change
unchecked version before bytes = do
  output ← number_within w64 before.output_length output_limit bytes
  observed ← observed_at version before.observed output.1
  next ← number_within w32 before.next_id (row_limit + 1) observed.1
  count ← number_within w32 (next.0 - before.next_id) (next.0 - 1) next.1
  rows ← ascending_at (beside_of version before.eras output.0) 1 (next.0 - 1) count.0 count.1
  Ok (record { output_length = output.0; observed = observed.0; next_id = next.0; rows = rows.0 }, rows.1)

pub record FitsUnchecked (version : ℕ) (before : Checkpoint) (c : Change) : Type 0 where
  pub output_length : (before.output_length ≤ c.output_length) × (c.output_length ≤ output_limit)
  pub observed : Follows version before.observed c.observed
  pub next_id : (before.next_id ≤ c.next_id) × (c.next_id ≤ row_limit + 1)
  pub count : (c.next_id - before.next_id ≤ length c.rows) × (length c.rows ≤ c.next_id - 1)
  pub rows : Ascend (beside_of version before.eras c.output_length) 1 (c.next_id - 1) c.rows

pub unchecked_format : (version : ℕ) (before : Checkpoint) → IsFormat (change_spelling version) (FitsUnchecked version before) (λ (bytes : List ℕ). unchecked version before bytes)
unfolding unchecked
unchecked_format version before =
    format_as (
    then_format (λ (c : Change). c.output_length) _ (within_64 before.output_length output_limit)
    (λ output small. then_format (λ (c : Change). c.observed) _ (observed_format version before.observed)
    (λ observed _. then_format (λ (c : Change). c.next_id) _ (within_32 before.next_id (row_limit + 1))
    (λ next _. then_format (λ (c : Change). length c.rows) _ (within_32 (next - before.next_id) (next - 1))
    (λ count _. last_format (λ (c : Change). c.rows) (λ (rows : List Row). record { output_length = output; observed = observed; next_id = next; rows = rows })
    (λ rows. refl) (rows_format (beside_of version before.eras output) 1 (next - 1) count small.1.0))
    (λ count c k. k.0.0))
    (λ next c k. ap (λ (c : Change). c.next_id) k.1.1))
    (λ observed c k. ap (λ (c : Change). c.observed) k.1.1.1))
    (λ output c k. ap (λ (c : Change). c.output_length) k.1.1.1.1)
    )
    (λ c. refl)
    (λ c k. record {
      output_length = (k.0.0, k.0.1.0);
      observed = k.1.0;
      next_id = (k.1.1.0.0, k.1.1.0.1.0);
      count = (k.1.1.1.0.0, k.1.1.1.0.1.0);
      rows = k.1.1.1.1.0.1;
    })
    (λ c k. (
      (k.output_length.0, (k.output_length.1, omega (arith, k.output_length.1))),
      (
        k.observed,
        (
          (k.next_id.0, (k.next_id.1, omega (arith, k.next_id.1))),
          ((k.count.0, (k.count.1, omega (arith, k.count.1, k.next_id.1))), ((refl, k.rows), refl)),
        ),
      ),
    ))

-- ---- the check

-- all new ids are there, or the count can't be there
abbrev pub check : ℕ → ℕ → Change × List ℕ → Reading Change
check old count x = cond (has_new old x.0.next_id x.0.rows) (Ok x) (Err count)

through : {A B C : Type 0} (s : Result A ℕ) (f : A → Result C ℕ) (g : A → Result B ℕ) (h : B → Result C ℕ) → ((a : A) → s ≡ Ok a → f a ≡ (g a >>= h)) → (s >>= f) ≡ ((s >>= g) >>= h)
through (Ok a) f g h e = e a refl
through (Err l) f g h e = refl

number_left : (w : Width) (bytes : List ℕ) (n : ℕ × List ℕ) → number_at w bytes ≡ Ok n → length n.1 ≡ length bytes - byte_len w
unfolding number_at
number_left w bytes n e =
    let read = guard_ok (ltb (length bytes) (byte_len w)) 0 (from_be_bytes w (take (byte_len w) bytes), drop (byte_len w) bytes) n e in
    ap (λ (p : ℕ × List ℕ). length p.1) (sym read.1) ∙ length-drop (byte_len w) bytes

within_left : (w : Width) (low high : ℕ) (bytes : List ℕ) (n : ℕ × List ℕ) → number_within w low high bytes ≡ Ok n → length n.1 ≡ length bytes - byte_len w
unfolding number_within
within_left w low high bytes n e =
    let b = bind_ok (number_at w bytes) (λ k. cond (leb low k.0 && leb k.0 high) (Ok k) (Err (length bytes))) n e in
    let read = test_ok (leb low b.0.0 && leb b.0.0 high) (length bytes) b.0 n b.2 in
    ap (λ (p : ℕ × List ℕ). length p.1) (sym read.1) ∙ number_left w bytes b.0 b.1

-- how many bytes the observed time has
abbrev pub observed_size : ℕ → ℕ
observed_size version = cond (ltb version 2) 0 8

observed_left : (version before : ℕ) (bytes : List ℕ) (n : ℕ × List ℕ) → observed_at version before bytes ≡ Ok n → length n.1 ≡ length bytes - observed_size version
unfolding observed_at
observed_left version before bytes n e = by_test (ltb version 2) e
  where
    by_test : (b : Bool) → cond b (Ok (before, bytes)) (number_within w64 before time_limit bytes) ≡ Ok n → length n.1 ≡ length bytes - cond b 0 8
    by_test true e = let is : (before, bytes) ≡ n = cc in omega (arith, ap (λ (p : ℕ × List ℕ). length p.1) is)
    by_test false e = within_left w64 before time_limit bytes n e

pub place_is : (version : ℕ) → count_place version ≡ 12 + observed_size version
place_is version = by_test (ltb version 2)
  where
    by_test : (b : Bool) → cond b 12 20 ≡ 12 + cond b 0 8
    by_test true = refl
    by_test false = refl

pub checked_is : (version : ℕ) (before : Checkpoint) (bytes : List ℕ) → change_at version before bytes ≡ (unchecked version before bytes >>= check before.next_id (length bytes - count_place version))
unfolding change_at unchecked
checked_is version before bytes =
    through (number_within w64 before.output_length output_limit bytes) _ _ _
    (λ o first. through (observed_at version before.observed o.1) _ _ _
    (λ t second. through (number_within w32 before.next_id (row_limit + 1) t.1) _ _ _
    (λ n third. through (number_within w32 (n.0 - before.next_id) (n.0 - 1) n.1) _ _ _
    (λ k _. through (ascending_at (beside_of version before.eras o.0) 1 (n.0 - 1) k.0 k.1) _ _ _
    (λ rows _. ap (λ (end : ℕ). cond (has_new before.next_id n.0 rows.0) (Ok (changed_to o.0 t.0 n.0 rows.0, rows.1)) (Err end)) (
    omega (
      arith,
      within_left w64 before.output_length output_limit bytes o first,
      observed_left version before.observed o.1 t second,
      within_left w32 before.next_id (row_limit + 1) t.1 n third,
      place_is version,
    )
    ))))))
  where
    changed_to : ℕ → ℕ → ℕ → List Row → Change
    changed_to output observed next rows = record { output_length = output; observed = observed; next_id = next; rows = rows }

-- as many new ids as there are
pub fits_checked : (version : ℕ) (before : Checkpoint) (c : Change) → FitsUnchecked version before c → has_new before.next_id c.next_id c.rows ≡ true → Fits version before c
fits_checked version before c t all =
    let old : ℕ = before.next_id in
    let full : length (since old c.rows) ≡ c.next_id - old = eqb-true (length (since old c.rows)) (c.next_id - old) all in
    record {
      output_length = t.output_length;
      observed = t.observed;
      next_id = t.next_id;
      rows = t.rows;
      new = λ id above below. elim (cases_lt 0 old) [
        | inl some ↦ new_there (beside_of version before.eras c.output_length) 1 (c.next_id - 1) old c.rows t.rows (omega (arith, full, t.next_id.0, some)) id above (omega (arith, below))
        | inr none ↦ absurd (omega (arith, none, below, t.count.0, t.count.1))
      ];
    }

all_new : (version : ℕ) (before : Checkpoint) (c : Change) → Fits version before c → length (since before.next_id c.rows) ≡ c.next_id - before.next_id
all_new version before c fits =
    let old : ℕ = before.next_id in
    let b = beside_of version before.eras c.output_length in
    elim (cases_lt 0 old) [
      | inl some ↦ omega (
        arith,
        some,
        fits.next_id.0,
        most_new b 1 (c.next_id - 1) old c.rows fits.rows,
        new_enough b 1 (c.next_id - 1) old c.rows fits.rows (λ id above below. fits.new id above (omega (arith, below, some, fits.next_id.0))),
      )
      | inr none ↦ elim (cases_lt 0 c.next_id) [
        | inl some ↦ absurd (omega (arith, has_low b 1 (c.next_id - 1) 0 c.rows fits.rows (fits.new 0 (omega (arith, none)) some)))
        | inr nought ↦ omega (arith, nought, since_most old c.rows, most b 1 (c.next_id - 1) c.rows fits.rows)
      ]
    ]

pub unchecked_fits : (version : ℕ) (before : Checkpoint) (c : Change) → Fits version before c → FitsUnchecked version before c
unchecked_fits version before c fits =
    let new = all_new version before c fits in
    record {
      output_length = fits.output_length;
      observed = fits.observed;
      next_id = fits.next_id;
      count = (
        omega (arith, new, since_most before.next_id c.rows),
        omega (arith, most (beside_of version before.eras c.output_length) 1 (c.next_id - 1) c.rows fits.rows),
      );
      rows = fits.rows;
    }

pub change_takes : (version : ℕ) (before : Checkpoint) (bytes : List ℕ) (x : Change × List ℕ) → IsBytes bytes → change_at version before bytes ≡ Ok x → Takes bytes (change_spelling version x.0) x.1 × Fits version before x.0
change_takes version before bytes x fits e =
    let place : ℕ = length bytes - count_place version in
    let read = bind_ok (unchecked version before bytes) (check before.next_id place) x (sym (checked_is version before bytes) ∙ e) in
    let all = test_ok (has_new before.next_id read.0.0.next_id read.0.0.rows) place read.0 x read.2 in
    let t = (unchecked_format version before).takes bytes read.0 fits read.1 in
    subst (λ (p : Change × List ℕ). Takes bytes (change_spelling version p.0) p.1 × Fits version before p.0) all.1 (t.0, fits_checked version before read.0.0 t.1 all.0)

pub read_as : (version : ℕ) (before : Checkpoint) (bytes : List ℕ) (x : Change × List ℕ) (t : Bool) → unchecked version before bytes ≡ Ok x → has_new before.next_id x.0.next_id x.0.rows ≡ t
    → change_at version before bytes ≡ cond t (Ok x) (Err (length bytes - count_place version))
read_as version before bytes x t read test =
    checked_is version before bytes
    ∙ ap (λ s. s >>= check before.next_id (length bytes - count_place version)) read ∙ ap (λ (b : Bool). cond b (Ok x) (Err (length bytes - count_place version))) test

pub change_again : (version : ℕ) (before : Checkpoint) (c : Change) (rest : List ℕ) → Fits version before c → change_at version before (change_spelling version c ++ rest) ≡ Ok (c, rest)
change_again version before c rest fits =
    read_as version before (change_spelling version c ++ rest) (c, rest) true ((unchecked_format version before).again c rest (unchecked_fits version before c fits))
    (eq-eqb (length (since before.next_id c.rows)) (c.next_id - before.next_id) (all_new version before c fits))

pub change_alone : (version : ℕ) (before : Checkpoint) (bytes : List ℕ) (c : Change) → Fits version before c → bytes ≡ change_spelling version c → change_at version before bytes ≡ Ok (c, [])
change_alone version before bytes c fits is = ap (change_at version before) (is ∙ sym (append-nil (change_spelling version c))) ∙ change_again version before c [] fits
