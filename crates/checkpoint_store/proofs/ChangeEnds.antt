-- Bytes that are no change are blamed where no change goes on, or at the count where a new id is missing.
use Rattle.std.proofs.Common.{◌≡◌, ℕ, zero, suc, ◌+◌, ◌-◌, ◌<◌, ◌≤◌, Bool, true, false, cond, ltb, List, [], ◌++◌, length, Ok, Err, refl, sym, ap, subst, ◌∙◌, arith, inl, inr, ◌⊎◌, length-append}
use Rattle.std.specs.Int.{w32, w64, to_be_bytes}
use Rattle.std.proofs.lemmas.Bool.{eq-eqb, both_ways, cases_eq, cases_lt}
use Rattle.std.proofs.lemmas.List.{append-nil}
use Rattle.file_tracker.specs.declared.row.Row.{Row}
use Rattle.state_codec.specs.Reading.{Reading, ◌>>=◌}
use Rattle.state_codec.proofs.Numbers.{IsBytes, err_or_ok, wide32, wide64}
use Rattle.checkpoint_store.specs.declared.Checkpoint.{Checkpoint}
use Rattle.checkpoint_store.specs.declared.Change.{Change}
use Rattle.checkpoint_store.specs.Rules.{beside_of}
use Rattle.checkpoint_store.specs.Spelling.{rows_spelling, observed_spelling, change_spelling}
use Rattle.checkpoint_store.specs.Reading.{has_new, change_at, whole_change}
use Rattle.checkpoint_store.specs.Fits.{HasId, Fits}
use Rattle.checkpoint_store.specs.DeadEnds.{IsDeadEnd}
use Rattle.checkpoint_store.specs.Applied.{SpelledChange, MissesNew, SpellsNoChange, count_place}
use Rattle.checkpoint_store.proofs.Ascending.{since, since_most, most_new, new_enough}
use Rattle.checkpoint_store.proofs.Determined.{has_or_not}
use Rattle.checkpoint_store.proofs.Wholes.{whole, SpelledAlone, whole_ok, whole_again, whole_fails, fault_is, dead_for_fewer, dead_end}
use Rattle.checkpoint_store.proofs.ChangeFormats.{FitsUnchecked, unchecked, unchecked_format, unchecked_fits, check, checked_is, observed_size, place_is, change_takes, read_as, change_alone}

-- ---- what is read whole

abbrev same : Change → Change
same c = c

whole_view : (version : ℕ) (before : Checkpoint) (bytes : List ℕ) → whole_change version before bytes ≡ whole same (change_at version before bytes)
unfolding whole_change
whole_view version before bytes = refl

pub whole_change_takes : (version : ℕ) (before : Checkpoint) (bytes : List ℕ) (c : Change) → IsBytes bytes → whole_change version before bytes ≡ Ok c → Fits version before c × (bytes ≡ change_spelling version c)
whole_change_takes version before bytes c fits e =
    let read = whole_ok same (change_at version before bytes) c (sym (whole_view version before bytes) ∙ e) in
    let t = change_takes version before bytes (read.0, []) fits read.1.0 in
    subst (λ (k : Change). Fits version before k × (bytes ≡ change_spelling version k)) read.1.1 (t.1, t.0.parts ∙ append-nil (change_spelling version read.0))

-- what is spelled is read
pub change_read : (version : ℕ) (before : Checkpoint) (bytes : List ℕ) (c : Change) → Fits version before c → bytes ≡ change_spelling version c → whole_change version before bytes ≡ Ok c
change_read version before bytes c fits is =
    whole_view version before bytes ∙ whole_again same (change_at version before bytes) c (change_alone version before bytes c fits is)

-- ---- a new id that is missing

record Missing (rows : List Row) (old next : ℕ) : Type 0 where
  id : ℕ
  above : old ≤ id
  below : id < next
  none : HasId rows id → ⊥

-- so many ids are all there, or one is missing
missing : (rows : List Row) (old n : ℕ) → ((id : ℕ) → old ≤ id → id < old + n → HasId rows id) ⊎ Missing rows old (old + n)
missing rows old zero = inl (λ id above below. absurd (omega (arith, above, below)))
missing rows old (suc n) = elim (missing rows old n) [
  | inr m ↦ inr (record { id = m.id; above = m.above; below = omega (arith, m.below); none = m.none })
  | inl all ↦ elim (has_or_not rows (old + n)) [
    | inr none ↦ inr (record { id = old + n; above = omega arith; below = omega arith; none = none })
    | inl last ↦ inl (λ id above below. elim (cases_eq (old + n) id) [
      | inl is ↦ at_last id is last
      | inr other ↦ all id above (omega (arith, below, other))
    ])
  ]
]
  where
    at_last : (id : ℕ) → old + n ≡ id → HasId rows (old + n) → HasId rows id
    at_last id is h = subst (λ (k : ℕ). HasId rows k) is h

-- the check fails where one is missing
check_misses : (version : ℕ) (before : Checkpoint) (c : Change) → FitsUnchecked version before c → has_new before.next_id c.next_id c.rows ≡ false → Missing c.rows before.next_id c.next_id
check_misses version before c t fails = elim (missing c.rows before.next_id (c.next_id - before.next_id)) [
  | inr m ↦ record { id = m.id; above = m.above; below = omega (arith, m.below, t.next_id.0); none = m.none }
  | inl all ↦ absurd (elim (cases_lt 0 c.next_id) [
    | inl some ↦ counted (omega (arith, some, t.next_id.0, by_all some all, most_new (beside_of version before.eras c.output_length) 1 (c.next_id - 1) before.next_id c.rows t.rows))
    | inr none ↦ counted (omega (arith, none, t.count.1, since_most before.next_id c.rows))
  ])
]
  where
    counted : length (since before.next_id c.rows) ≡ c.next_id - before.next_id → ⊥
    counted full = both_ways (has_new before.next_id c.next_id c.rows) fails (eq-eqb (length (since before.next_id c.rows)) (c.next_id - before.next_id) full)

    by_all : 0 < c.next_id → ((id : ℕ) → before.next_id ≤ id → id < before.next_id + (c.next_id - before.next_id) → HasId c.rows id) → c.next_id - 1 + 1 ≤ length (since before.next_id c.rows) + before.next_id
    by_all some all = new_enough (beside_of version before.eras c.output_length) 1 (c.next_id - 1) before.next_id c.rows t.rows (λ id above below. all id above (omega (arith, some, above, below, t.next_id.0)))

-- ---- where it stops

observed_length : (version observed : ℕ) → length (observed_spelling version observed) ≡ observed_size version
observed_length version observed = by_test (ltb version 2)
  where
    by_test : (b : Bool) → length (cond b [] (to_be_bytes w64 observed)) ≡ cond b 0 8
    by_test true = refl
    by_test false = wide64.size observed

record Refused (version : ℕ) (before : Checkpoint) (bytes : List ℕ) (left fault : ℕ) : Type 0 where
  fits : IsBytes bytes
  fails : whole same (change_at version before bytes) ≡ Err left
  is : fault ≡ length bytes - left
  inside : fault < length bytes

misses : (version : ℕ) (before : Checkpoint) (bytes : List ℕ) (left fault : ℕ) (x : Change × List ℕ) → Refused version before bytes left fault → left ≡ length bytes - count_place version
    → unchecked version before bytes ≡ Ok x → has_new before.next_id x.0.next_id x.0.rows ≡ false → MissesNew version before bytes fault
misses version before bytes left fault x r at_count read test =
    let t = (unchecked_format version before).takes bytes x r.fits read in
    let m = check_misses version before x.0 t.1 test in
    let behind : List ℕ = to_be_bytes w32 x.0.next_id ++ rows_spelling version x.0.rows in
    let spelled : length bytes ≡ length (change_spelling version x.0) + length x.1 = ap (λ (l : List ℕ). length l) t.0.parts ∙ length-append (change_spelling version x.0) x.1 in
    let first = length-append (to_be_bytes w64 x.0.output_length) (observed_spelling version x.0.observed ++ behind) in
    let second = length-append (observed_spelling version x.0.observed) behind in
    let third = length-append (to_be_bytes w32 x.0.next_id) (rows_spelling version x.0.rows) in
    record {
      change = x.0;
      rest = x.1;
      spelled = t.0.parts;
      id = m.id;
      new = (m.above, m.below);
      missing = m.none;
      place = omega (
        arith,
        r.is,
        r.inside,
        at_count,
        spelled,
        first,
        second,
        third,
        wide64.size x.0.output_length,
        observed_length version x.0.observed,
        wide32.size x.0.next_id,
        place_is version,
      );
    }

alone : (version : ℕ) (before : Checkpoint) (bytes : List ℕ) → SpelledChange version before bytes → SpelledAlone (change_spelling version) (FitsUnchecked version before) bytes
alone version before bytes s = record { value = s.1.change; lawful = unchecked_fits version before s.1.change s.1.fits; spelled = s.1.spelled }

-- where all is there but for what fails without the check
dead : (version : ℕ) (before : Checkpoint) (bytes : List ℕ) (left fault : ℕ) → Refused version before bytes left fault → whole same (unchecked version before bytes) ≡ Err left
    → IsDeadEnd (SpelledChange version before) bytes fault
dead version before bytes left fault r fails =
    dead_for_fewer (SpelledAlone (change_spelling version) (FitsUnchecked version before)) (SpelledChange version before) bytes fault (alone version before)
    (dead_end (unchecked_format version before) same bytes left fault r.fits fails r.is r.inside)

stops : (version : ℕ) (before : Checkpoint) (bytes : List ℕ) (left fault : ℕ) → Refused version before bytes left fault → IsDeadEnd (SpelledChange version before) bytes fault ⊎ MissesNew version before bytes fault
stops version before bytes left fault r = by_case (unchecked version before bytes) refl
  where
    tested : (x : Change × List ℕ) → unchecked version before bytes ≡ Ok x → (t : Bool) → has_new before.next_id x.0.next_id x.0.rows ≡ t
        → IsDeadEnd (SpelledChange version before) bytes fault ⊎ MissesNew version before bytes fault
    tested x read true test =
        let checked = read_as version before bytes x true read test in
        inl (dead version before bytes left fault r (ap (λ (s : Reading Change). whole same s) (read ∙ sym checked) ∙ r.fails))
    tested x read false test =
        let fails = whole_fails same (change_at version before bytes) (length bytes - count_place version) (read_as version before bytes x false read test) in
        inr (misses version before bytes left fault x r (sym (fault_is {A = Change} (length bytes - count_place version) left (sym fails ∙ r.fails))) read test)

    by_case : (s : Reading Change) → unchecked version before bytes ≡ s → IsDeadEnd (SpelledChange version before) bytes fault ⊎ MissesNew version before bytes fault
    by_case (Ok x) read = tested x read (has_new before.next_id x.0.next_id x.0.rows) refl
    by_case (Err l) read =
        let fails : change_at version before bytes ≡ Err l =
        checked_is version before bytes ∙ ap (λ s. s >>= check before.next_id (length bytes - count_place version)) read in
        inl (dead version before bytes left fault r (ap (λ (s : Reading Change). whole same s) (read ∙ sym fails) ∙ r.fails))

pub spells_no_change : (version : ℕ) (before : Checkpoint) (bytes : List ℕ) (left fault : ℕ) → IsBytes bytes → whole_change version before bytes ≡ Err left → fault ≡ length bytes - left
    → SpellsNoChange version before bytes fault
spells_no_change version before bytes left fault fits fails is = record {
  none = λ c lawful spelled. err_or_ok (whole_change version before bytes) left c fails (change_read version before bytes c lawful spelled);
  place = (left, fails, is);
  stops = λ inside. stops version before bytes left fault (record { fits = fits; fails = sym (whole_view version before bytes) ∙ fails; is = is; inside = inside });
}
