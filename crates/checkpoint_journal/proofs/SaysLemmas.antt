-- What a base and records say, with one more record, and that they say one thing.
use Rattle.std.proofs.Common.{◌≡◌, ℕ, ◌+◌, ◌-◌, List, [], ◌++◌, ◌∷◌, length, Result, Ok, Err, refl, sym, ◌∙◌, ap, subst, arith}
use Rattle.std.specs.Prelude.{slice_index}
use Rattle.checkpoint_store.proofs.ChangeEnds.{change_read}
use Rattle.checkpoint_store.proofs.Changing.{changed_lawful}
use Rattle.checkpoint_store.proofs.CheckpointEnds.{spelled_once, version_is_first}
use Rattle.checkpoint_store.specs.Applied.{SpellsChange, SpellsNoChange}
use Rattle.checkpoint_store.specs.Changed.{changed}
use Rattle.checkpoint_store.specs.Decodes.{Spells, SpellsNone}
use Rattle.checkpoint_store.specs.Fits.{Fits}
use Rattle.checkpoint_store.specs.Reading.{whole_change}
use Rattle.checkpoint_store.specs.Rules.{IsVersion, IsCheckpoint}
use Rattle.checkpoint_store.specs.Spelling.{change_spelling}
use Rattle.checkpoint_store.specs.declared.Change.{Change}
use Rattle.checkpoint_store.specs.declared.Checkpoint.{Checkpoint}
use Rattle.checkpoint_journal.specs.Says.{AreChanges, no_change, one_change, Says, FailsIn, in_first, in_later, Fails, in_base, in_record}

pub changes_then : {version : ℕ} {first before : Checkpoint} {records : List (List ℕ)} (bytes : List ℕ) (after : Checkpoint) → AreChanges version first records before → SpellsChange version before bytes after → AreChanges version first (records ++ bytes ∷ []) after
changes_then bytes after (no_change checkpoint) spells = one_change checkpoint after after bytes [] spells (no_change after)
changes_then bytes after (one_change first between before one records spelled behind) spells =
    one_change first between after one (records ++ bytes ∷ []) spelled (changes_then bytes after behind spells)

-- a change that fits, spelled behind the others
pub says_changed : (version : ℕ) (base : List ℕ) (records : List (List ℕ)) (before : Checkpoint) (change : Change) → Says version base records before → Fits version before change → Says version base (records ++ change_spelling version change ∷ []) (changed before change)
says_changed version base records before change says fits =
    record {
      first = says.first;
      base_is = says.base_is;
      version_is = says.version_is;
      changes = changes_then (change_spelling version change) (changed before change) says.changes (record { change = change; fits = fits; spelled = refl; after_is = refl });
    }

-- ---- one base and the same records say one thing

pub one_first : (base : List ℕ) (first other : Checkpoint) → Spells base first → Spells base other → other ≡ first
one_first base first other spells spelled = spelled_once base other first spelled spells

one_version : (base : List ℕ) (first other : Checkpoint) (spells : Spells base first) (spelled : Spells base other) → spelled.version ≡ spells.version
one_version base first other spells spelled = sym (version_is_first base other spelled) ∙ version_is_first base first spells

-- the version is the first byte
pub says_version : (version : ℕ) (base : List ℕ) (records : List (List ℕ)) (checkpoint : Checkpoint) → Says version base records checkpoint → slice_index base 0 ≡ version
says_version version base records checkpoint says = version_is_first base says.first says.base_is ∙ says.version_is

pub says_read : (version : ℕ) (base : List ℕ) (records : List (List ℕ)) (first checkpoint : Checkpoint) → Spells base first → version ≡ slice_index base 0 → AreChanges version first records checkpoint → Says (slice_index base 0) base records checkpoint
says_read version base records first checkpoint spells is changes = record {
  first = first;
  base_is = spells;
  version_is = sym (version_is_first base first spells);
  changes = subst (λ (v : ℕ). AreChanges v first records checkpoint) is changes;
}

pub says_known : (version : ℕ) (base : List ℕ) (records : List (List ℕ)) (checkpoint : Checkpoint) → Says version base records checkpoint → IsVersion version
says_known version base records checkpoint says = subst IsVersion says.version_is says.base_is.known

pub one_after : (version : ℕ) (before : Checkpoint) (bytes : List ℕ) (after other : Checkpoint) → SpellsChange version before bytes after → SpellsChange version before bytes other → other ≡ after
one_after version before bytes after other spells spelled =
    let read : whole_change version before bytes ≡ Ok spells.change = change_read version before bytes spells.change spells.fits spells.spelled in
    let reads : whole_change version before bytes ≡ Ok spelled.change = change_read version before bytes spelled.change spelled.fits spelled.spelled in
    let same : spelled.change ≡ spells.change = cc in
    spelled.after_is ∙ ap (changed before) same ∙ sym spells.after_is

-- a change, and those behind it
record GoesOn (version : ℕ) (before : Checkpoint) (bytes : List ℕ) (records : List (List ℕ)) (after : Checkpoint) : Type 0 where
  between : Checkpoint
  spells : SpellsChange version before bytes between
  behind : AreChanges version between records after

goes_on : {version : ℕ} {before after : Checkpoint} {bytes : List ℕ} {records : List (List ℕ)} → AreChanges version before (bytes ∷ records) after → GoesOn version before bytes records after
goes_on (one_change before between after bytes records spells behind) = record { between = between; spells = spells; behind = behind }

stops_here : {version : ℕ} {before after : Checkpoint} → AreChanges version before [] after → after ≡ before
stops_here (no_change checkpoint) = refl

pub one_end : {version : ℕ} {first last : Checkpoint} {records : List (List ℕ)} (other : Checkpoint) → AreChanges version first records last → AreChanges version first records other → other ≡ last
one_end other (no_change checkpoint) changes = stops_here changes
one_end {version = version} other (one_change before between after bytes records spells behind) changes =
    let on = goes_on changes in
    let same : on.between ≡ between = one_after version before bytes between on.between spells on.spells in
    one_end other behind (subst (λ (start : Checkpoint). AreChanges version start records other) same on.behind)

pub one_checkpoint : (version : ℕ) (base : List ℕ) (records : List (List ℕ)) (checkpoint other : Checkpoint) → Says version base records checkpoint → Says version base records other → other ≡ checkpoint
one_checkpoint version base records checkpoint other says said =
    let same : said.first ≡ says.first = one_first base says.first said.first says.base_is said.base_is in
    one_end other says.changes (subst (λ (start : Checkpoint). AreChanges version start records other) same said.changes)

-- ---- what is read keeps the rules

pub changes_lawful : {version : ℕ} {first last : Checkpoint} {records : List (List ℕ)} → AreChanges version first records last → IsCheckpoint version first → IsCheckpoint version last
changes_lawful (no_change checkpoint) lawful = lawful
changes_lawful {version = version} (one_change before between after bytes records spells behind) lawful =
    changes_lawful behind (subst (IsCheckpoint version) (sym spells.after_is) (changed_lawful version before spells.change lawful spells.fits))

pub says_lawful : (version : ℕ) (base : List ℕ) (records : List (List ℕ)) (checkpoint : Checkpoint) → Says version base records checkpoint → IsCheckpoint version checkpoint
says_lawful version base records checkpoint says =
    changes_lawful says.changes (subst (λ (v : ℕ). IsCheckpoint v says.first) says.version_is says.base_is.lawful)

-- ---- and what has no reading has one place

left_of : Result Checkpoint ℕ → ℕ
left_of (Ok checkpoint) = 0
left_of (Err left) = left

one_base_fault : (base : List ℕ) (at other : ℕ) → SpellsNone base at → SpellsNone base other → other ≡ at
unfolding left_of
one_base_fault base at other fails failed =
    let same : failed.place.0 ≡ fails.place.0 = ap left_of (sym failed.place.1 ∙ fails.place.1) in
    failed.place.2 ∙ ap (λ left. length base - left) same ∙ sym fails.place.2

left_of_change : Result Change ℕ → ℕ
left_of_change (Ok change) = 0
left_of_change (Err left) = left

one_change_fault : (version : ℕ) (before : Checkpoint) (bytes : List ℕ) (at other : ℕ) → SpellsNoChange version before bytes at → SpellsNoChange version before bytes other → other ≡ at
unfolding left_of_change
one_change_fault version before bytes at other fails failed =
    let same : failed.place.0 ≡ fails.place.0 = ap left_of_change (sym failed.place.1 ∙ fails.place.1) in
    failed.place.2 ∙ ap (λ left. length bytes - left) same ∙ sym fails.place.2

pub no_changes : {version : ℕ} {before : Checkpoint} {records : List (List ℕ)} {at : ℕ} (after : Checkpoint) → FailsIn version before records at → AreChanges version before records after → ⊥
no_changes after (in_first before bytes records fault at fails place) changes =
    let on = goes_on changes in fails.none on.spells.change on.spells.fits on.spells.spelled
no_changes {version = version} after (in_later before between bytes records fault at spells fails place) changes =
    let on = goes_on changes in
    let same : on.between ≡ between = one_after version before bytes between on.between spells on.spells in
    no_changes after fails (subst (λ (start : Checkpoint). AreChanges version start records after) same on.behind)

-- where the first of some records fails, or one behind it
data FailsAt (version : ℕ) (before : Checkpoint) (bytes : List ℕ) (records : List (List ℕ)) (at : ℕ) : Type 0 where
  at_first : (fault : ℕ) → SpellsNoChange version before bytes fault → at ≡ 17 + fault → FailsAt version before bytes records at
  at_later : (between : Checkpoint) (fault : ℕ) → SpellsChange version before bytes between → FailsIn version between records fault → at ≡ 17 + length bytes + fault → FailsAt version before bytes records at

fails_at : {version : ℕ} {before : Checkpoint} {bytes : List ℕ} {records : List (List ℕ)} {at : ℕ} → FailsIn version before (bytes ∷ records) at → FailsAt version before bytes records at
fails_at (in_first before bytes records fault at fails place) = at_first fault fails place
fails_at (in_later before between bytes records fault at spells fails place) = at_later between fault spells fails place

pub one_fault : {version : ℕ} {before : Checkpoint} {records : List (List ℕ)} {at : ℕ} (other : ℕ) → FailsIn version before records at → FailsIn version before records other → other ≡ at
one_fault {version = version} other (in_first before bytes records fault at fails place) failed = elim (fails_at failed) [
  | at_first again failed_here is ↦ (let same : again ≡ fault = one_change_fault version before bytes fault again fails failed_here in omega arith)
  | at_later between again spelled failed_later is ↦ absurd (fails.none spelled.change spelled.fits spelled.spelled)
]
one_fault {version = version} other (in_later before between bytes records fault at spells fails place) failed =
    let further = λ (start : Checkpoint) (again : ℕ) (spelled : SpellsChange version before bytes start) (failed_later : FailsIn version start records again).
    one_fault again fails (subst (λ (begin : Checkpoint). FailsIn version begin records again) (one_after version before bytes between start spells spelled) failed_later) in
    elim (fails_at failed) [
      | at_first again failed_here is ↦ absurd (failed_here.none spells.change spells.fits spells.spelled)
      | at_later start again spelled failed_later is ↦ (let same : again ≡ fault = further start again spelled failed_later in omega arith)
    ]

-- ---- the whole of it

pub fails_or_says : (version : ℕ) (base : List ℕ) (records : List (List ℕ)) (at : ℕ) (checkpoint : Checkpoint) → Fails base records at → Says version base records checkpoint → ⊥
fails_or_says version base records at checkpoint (in_base place fails) says = fails.none says.first says.base_is
fails_or_says version base records at checkpoint (in_record first fault end spells fails place) says =
    let same : says.first ≡ first = one_first base first says.first spells says.base_is in
    let by_it : version ≡ spells.version = sym says.version_is ∙ one_version base first says.first spells says.base_is in
    no_changes checkpoint fails
    (subst (λ (v : ℕ). AreChanges v first records checkpoint) by_it (subst (λ (start : Checkpoint). AreChanges version start records checkpoint) same says.changes))

-- where reading fails, told apart
data FailsBy (base : List ℕ) (records : List (List ℕ)) (at : ℕ) : Type 0 where
  by_base : SpellsNone base at → FailsBy base records at
  by_record : (first : Checkpoint) (fault : ℕ) (spells : Spells base first) → FailsIn spells.version first records fault → at ≡ length base + fault → FailsBy base records at

fails_by : {base : List ℕ} {records : List (List ℕ)} {at : ℕ} → Fails base records at → FailsBy base records at
fails_by (in_base at fails) = by_base fails
fails_by (in_record first fault at spells fails place) = by_record first fault spells fails place

pub one_place : (base : List ℕ) (records : List (List ℕ)) (at other : ℕ) → Fails base records at → Fails base records other → other ≡ at
one_place base records at other fails failed = elim (fails_by fails) [
  | by_base here ↦ (elim (fails_by failed) [
    | by_base again ↦ one_base_fault base at other here again
    | by_record first fault spells later is ↦ absurd (here.none first spells)
  ])
  | by_record first fault spells later is ↦ (elim (fails_by failed) [
    | by_base again ↦ absurd (again.none first spells)
    | by_record start again spelled failed_later place ↦ (
        let same : start ≡ first = one_first base first start spells spelled in
        let here : FailsIn spelled.version first records again = subst (λ (begin : Checkpoint). FailsIn spelled.version begin records again) same failed_later in
        let by_it : FailsIn spells.version first records again = subst (λ (v : ℕ). FailsIn v first records again) (one_version base first start spells spelled) here in
        let one : again ≡ fault = one_fault again later by_it in
        omega arith
        )
  ])
]
