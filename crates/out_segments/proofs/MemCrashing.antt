-- Parts that get what a crash leaves of others, file by file.
use Rattle.std.proofs.Common.{◌≡◌, ◌≢◌, ℕ, ◌+◌, ◌<◌, ◌≤◌, List, [], ◌∷◌, length, Result, Ok, Err, OnOk, refl, sym, ◌∙◌, ap, subst, arith, inl, inr}
use Rattle.std.proofs.lemmas.Bool.{cases_eq, cases_lt}
use Rattle.std.specs.declared.alloc.AllocError.{AllocError}
use Rattle.outside.specs.Crash.{Passes, IsDurable}
use Rattle.outside.specs.Image.{AtFile}
use Rattle.out_segments.specs.declared.memory.MemParts.{MemParts}
use Rattle.out_segments.specs.declared.parts.PartFile.{PartFile}
use Rattle.out_segments.specs.declared.parts.PartFile.TheVariants.{Settings, SlotA, SlotB, Part}
use Rattle.out_segments.specs.Carried.{Carried, KeepsOthers}
use Rattle.out_segments.specs.CrashOutcome.{left_by, tear_of}
use Rattle.out_segments.specs.MemLog.{Log, Leaves, calls_of}
use Rattle.out_segments.specs.MemParts.{parts_images, seen_of, IsFresh}
use Rattle.out_segments.proofs.MemSteps.{durable_kept}

-- an empty file, synced
pub record Waits (after : MemParts) (file : PartFile) : Type 0 where
  pub empty : seen_of after file ≡ []
  pub durable : IsDurable parts_images file after

-- The files were carried, of the Parts those before this one.
pub record IsCrashed (outcome : ℕ) (log : Log) (number : ℕ) (after : MemParts) : Type 0 where
  pub settings : Carried outcome log after Settings
  pub slot_a : Carried outcome log after SlotA
  pub slot_b : Carried outcome log after SlotB
  pub done : (n : ℕ) → n < number → Carried outcome log after (Part n)
  pub waits : (n : ℕ) → number ≤ n → Waits after (Part n)
  pub fresh : IsFresh after

carried_kept : (outcome : ℕ) (log : Log) (old new : MemParts) (file other : PartFile) → KeepsOthers file old new → other ≢ file → Carried outcome log old other → Carried outcome log new other
carried_kept outcome log old new file other keeps apart was = record {
  leaves = subst (λ (bytes : List ℕ). Leaves (calls_of other log) bytes) (sym (keeps.seen other apart)) was.leaves;
  torn = keeps.seen other apart ∙ was.torn;
  durable = keeps.durable other apart was.durable;
}

waits_kept : (old new : MemParts) (file other : PartFile) → KeepsOthers file old new → other ≢ file → Waits old other → Waits new other
waits_kept old new file other keeps apart was = record { empty = keeps.seen other apart ∙ was.empty; durable = keeps.durable other apart was.durable }

same_number : (a b : ℕ) → Part a ≡ Part b → a ≡ b
same_number a b same = cc

pub crashed_start : (outcome : ℕ) (log : Log) (first second third last : MemParts) → ((file : PartFile) → Waits first file) → Carried outcome log second Settings → KeepsOthers Settings first second → Carried outcome log third SlotA → KeepsOthers SlotA second third → Carried outcome log last SlotB → KeepsOthers SlotB third last → IsFresh last → IsCrashed outcome log 0 last
crashed_start outcome log first second third last none settings one slot_a two slot_b three fresh = record {
  settings = carried_kept outcome log third last SlotB Settings three (λ e. cc) (carried_kept outcome log second third SlotA Settings two (λ e. cc) settings);
  slot_a = carried_kept outcome log third last SlotB SlotA three (λ e. cc) slot_a;
  slot_b = slot_b;
  done = λ n early. absurd (omega (arith, early));
  waits = λ n _. waits_kept third last SlotB (Part n) three (λ e. cc) (waits_kept second third SlotA (Part n) two (λ e. cc) (waits_kept first second Settings (Part n) one (λ e. cc) (none (Part n))));
  fresh = fresh;
}

pub crashed_more : (outcome : ℕ) (log : Log) (number : ℕ) (old new : MemParts) → IsCrashed outcome log number old → Carried outcome log new (Part number) → KeepsOthers (Part number) old new → IsFresh new → IsCrashed outcome log (number + 1) new
crashed_more outcome log number old new was here keeps fresh = record {
  settings = carried_kept outcome log old new (Part number) Settings keeps (λ e. cc) was.settings;
  slot_a = carried_kept outcome log old new (Part number) SlotA keeps (λ e. cc) was.slot_a;
  slot_b = carried_kept outcome log old new (Part number) SlotB keeps (λ e. cc) was.slot_b;
  done = λ n early. elim (cases_eq n number) [
    | inl same ↦ subst (λ (k : ℕ). Carried outcome log new (Part k)) (sym same) here
    | inr apart ↦ carried_kept outcome log old new (Part number) (Part n) keeps (λ e. apart (same_number n number e)) (was.done n (omega (arith, early, apart)))
  ];
  waits = λ n late. waits_kept old new (Part number) (Part n) keeps (λ e. absurd (omega (arith, same_number n number e, late))) (was.waits n (omega (arith, late)));
  fresh = fresh;
}

no_calls : (log : Log) → length log ≡ 0 → log ≡ []
no_calls [] none = refl
no_calls (entry ∷ log) none = absurd (omega (arith, none))

-- a file without calls, of which nothing is left
carried_none : (outcome : ℕ) (log : Log) (after : MemParts) (file : PartFile) → length (calls_of file log) ≡ 0 → Waits after file → Carried outcome log after file
carried_none outcome log after file none waits =
    let is : calls_of file log ≡ [] = no_calls (calls_of file log) none in
    record {
      leaves = subst (λ (calls : Log). Leaves calls (seen_of after file)) (sym is) waits.empty;
      torn = waits.empty ∙ sym (ap (left_by (tear_of outcome file)) is);
      durable = waits.durable;
    }

-- all were
pub crashed_whole : (outcome : ℕ) (log : Log) (number held : ℕ) (after : MemParts) → held ≤ number → ((n : ℕ) → held ≤ n → length (calls_of (Part n) log) ≡ 0) → IsCrashed outcome log number after → (file : PartFile) → Carried outcome log after file
crashed_whole outcome log number held after late none crashed Settings = crashed.settings
crashed_whole outcome log number held after late none crashed SlotA = crashed.slot_a
crashed_whole outcome log number held after late none crashed SlotB = crashed.slot_b
crashed_whole outcome log number held after late none crashed (Part n) = elim (cases_lt n number) [
  | inl early ↦ crashed.done n early
  | inr behind ↦ carried_none outcome log after (Part n) (none n (omega (arith, late, behind))) (crashed.waits n behind)
]

-- ---- one file

pub carried_put : (outcome : ℕ) (log : Log) (file : PartFile) (result : Result Unit AllocError) (old new : MemParts) (given left : List ℕ) → given ≡ left → Leaves (calls_of file log) left → left ≡ left_by (tear_of outcome file) (calls_of file log) → OnOk result (AtFile file (λ _ now. now ≡ given) (seen_of old) (seen_of new)) → OnOk result (IsDurable parts_images file new) → OnOk result (Carried outcome log new file)
carried_put outcome log file (Ok _) old new given left same leaves torn seen durable = record {
  leaves = subst (λ (bytes : List ℕ). Leaves (calls_of file log) bytes) (sym (seen.here ∙ same)) leaves;
  torn = seen.here ∙ same ∙ torn;
  durable = durable;
}
carried_put outcome log file (Err _) old new given left same leaves torn seen durable = tt

pub others_put : (file : PartFile) (result : Result Unit AllocError) (old new : MemParts) (given : List ℕ) → OnOk result (AtFile file (λ _ now. now ≡ given) (seen_of old) (seen_of new)) → OnOk result (Passes parts_images (AtFile file (λ _ now. now ≡ given)) old new) → OnOk result (KeepsOthers file old new)
others_put file (Ok _) old new given seen passes = record {
  seen = λ other apart. seen.others other apart;
  durable = λ other apart durable. durable_kept old new file other given seen passes apart durable;
}
others_put file (Err _) old new given seen passes = tt
