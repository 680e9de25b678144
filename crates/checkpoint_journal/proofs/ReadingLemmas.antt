-- One more record of those that are read, and the places of faults.
use Rattle.std.proofs.Common.{◌≡◌, ℕ, suc, ◌+◌, ◌<◌, ◌≤◌, List, [], ◌∷◌, length, drop, get_or, refl, sym, ◌∙◌, ap, subst, arith, add-one}
use Rattle.std.proofs.Math.Seq.{drop-cons}
use Rattle.std.proofs.lemmas.List.{drop_all}
use Rattle.std.proofs.lemmas.List.Sums.{sum_by-cons}
use Rattle.std.specs.Prelude.{min, map, sum_by, slice_index, Err}
use Rattle.outside.specs.Image.{Image}
use Rattle.outside.specs.declared.disk.DiskFile.{DiskFile}
use Rattle.state_codec.specs.declared.CodecFault.{CodecFault}
use Rattle.state_codec.specs.declared.CodecFault.TheVariants.{Malformed, Memory}
use Rattle.slot_store.specs.Frame.{last_number}
use Rattle.record_log.proofs.LogLaws.{log_long, log_room}
use Rattle.record_log.specs.LogOf.{HasLog, log_size}
use Rattle.record_log.specs.declared.log.Log.{Log}
use Rattle.checkpoint_store.proofs.CheckpointEnds.{version_is_first}
use Rattle.checkpoint_store.specs.Applied.{SpellsChange}
use Rattle.checkpoint_store.specs.Decodes.{Decodes, Spells, SpellsNone}
use Rattle.checkpoint_store.specs.declared.Checkpoint.{Checkpoint}
use Rattle.checkpoint_journal.specs.JournalOf.{IsBadAt}
use Rattle.checkpoint_journal.specs.Inner.Places.{FailsBehind, NoChangeAt, IsTold}
use Rattle.checkpoint_journal.specs.Says.{AreChanges, one_change, FailsIn, in_first, in_later, Fails, in_record}
use Rattle.checkpoint_journal.specs.declared.fault.JournalFault.{JournalFault}
use Rattle.checkpoint_journal.specs.declared.fault.JournalFault.TheVariants as journal

-- the payloads from one on
pub rest_is : {V : Type 0} (items : V → List ℕ) (records : List V) (i : ℕ) (payload : V) → i < length records → payload ≡ get_or records i payload → map items (drop i records) ≡ items payload ∷ map items (drop (i + 1) records)
rest_is items records i payload within is =
    ap (λ list. map items list) (drop-cons records i payload within)
    ∙ ap (λ first. items first ∷ map items (drop (suc i) records)) (sym is)
    ∙ ap (λ next. items payload ∷ map items (drop next records)) (sym (add-one i))

pub changes_step : (version : ℕ) (first : Checkpoint) (all : List (List ℕ)) (before between : Checkpoint) (payload : List ℕ) (rest behind : List (List ℕ)) → rest ≡ payload ∷ behind → SpellsChange version before payload between
    → ((after : Checkpoint) → AreChanges version before rest after → AreChanges version first all after) → (after : Checkpoint) → AreChanges version between behind after → AreChanges version first all after
changes_step version first all before between payload rest behind rest_is spells so_far after changes =
    so_far after (subst (λ (list : List (List ℕ)). AreChanges version before list after) (sym rest_is) (one_change before between after payload behind spells changes))

pub fails_step : (version : ℕ) (first : Checkpoint) (all : List (List ℕ)) (begin place next : ℕ) (before between : Checkpoint) (payload : List ℕ) (rest behind : List (List ℕ)) → rest ≡ payload ∷ behind → SpellsChange version before payload between → next ≡ place + 17 + length payload
    → ((fault : ℕ) → FailsIn version before rest fault → FailsBehind version begin first all (place + fault)) → (fault : ℕ) → FailsIn version between behind fault → FailsBehind version begin first all (next + fault)
fails_step version first all begin place next before between payload rest behind rest_is spells next_is so_far fault fails =
    let at : place + (17 + length payload + fault) ≡ next + fault = omega arith in
    subst (λ (n : ℕ). FailsBehind version begin first all n) at
    (so_far (17 + length payload + fault) (subst (λ (list : List (List ℕ)). FailsIn version before list (17 + length payload + fault)) (sym rest_is) (in_later before between payload behind fault (17 + length payload + fault) spells fails refl)))

pub fails_here : (version : ℕ) (first : Checkpoint) (all : List (List ℕ)) (begin place start at : ℕ) (before : Checkpoint) (payload : List ℕ) (rest behind : List (List ℕ)) → rest ≡ payload ∷ behind → start ≡ place + 17 → NoChangeAt version start before payload at
    → ((fault : ℕ) → FailsIn version before rest fault → FailsBehind version begin first all (place + fault)) → FailsBehind version begin first all at
fails_here version first all begin place start at before payload rest behind rest_is start_is none so_far =
    let here : place + (17 + none.fault) ≡ at = omega (arith, none.place) in
    subst (λ (n : ℕ). FailsBehind version begin first all n) here
    (so_far (17 + none.fault) (subst (λ (list : List (List ℕ)). FailsIn version before list (17 + none.fault)) (sym rest_is) (in_first before payload behind none.fault (17 + none.fault) none.fails refl)))

-- how many bytes are left
pub room_step : (payload : List ℕ) (rest behind : List (List ℕ)) → rest ≡ payload ∷ behind → sum_by (λ bytes. length bytes + 17) rest ≡ length payload + 17 + sum_by (λ bytes. length bytes + 17) behind
room_step payload rest behind rest_is = ap (λ (list : List (List ℕ)). sum_by (λ bytes. length bytes + 17) list) rest_is ∙ sum_by-cons (λ (bytes : List ℕ). length bytes + 17) payload behind

pub none_left : {V : Type 0} (items : V → List ℕ) (records : List V) (i : ℕ) → length records ≤ i → map items (drop i records) ≡ []
none_left items records i behind = ap (λ list. map items list) (drop_all i records behind)

-- where a base alone has no reading
pub base_told : (base : List ℕ) (fault : CodecFault) (told : JournalFault) (at : ℕ) → Decodes base (Err fault) → IsTold 0 fault told → told ≡ journal.Bad at → length base ≤ last_number → SpellsNone base at
base_told base (Malformed fault) told at none is_told bad short =
    let same : journal.Bad at ≡ journal.Bad (min (0 + fault) last_number) = sym bad ∙ is_told in
    let one : at ≡ min (0 + fault) last_number = cc in
    let here : fault ≡ at = omega (arith, none.place.2) in
    subst (λ (n : ℕ). SpellsNone base n) here none
base_told base Memory told at none is_told bad short = cc

pub record_fails : (version : ℕ) (base : List ℕ) (records : List (List ℕ)) (first : Checkpoint) (at : ℕ) → Spells base first → version ≡ slice_index base 0 → FailsBehind version (length base) first records at → Fails base records at
record_fails version base records first at spells is fails =
    in_record first fails.fault at spells (subst (λ (v : ℕ). FailsIn v first records fails.fault) (is ∙ version_is_first base first spells) fails.fails) fails.place

-- the image of a log whose base or records have no reading
pub bad_at : (image : Image DiskFile) (log : Log) (base : List ℕ) (records : List (List ℕ)) (at : ℕ) → HasLog log base records image → (log_size base records ≤ last_number → Fails base records at) → IsBadAt at image
bad_at image log base records at has fails = record {
  log = log;
  base = base;
  records = records;
  log_is = has;
  fails = fails (omega (arith, log_long image log base records has, (log_room image log base records has).in_range));
}
