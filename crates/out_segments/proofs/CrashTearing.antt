-- What a crash leaves of one file, call by call.
use Rattle.std.proofs.Common.{◌≡◌, ℕ, suc, ◌+◌, ◌<◌, List, [], ◌∷◌, length, take, reverse, get_or, Bool, true, false, if◌then◌else◌, refl, sym, ap, ◌∙◌, subst, drop, ◌++◌, ◌≤◌, arith, length-append}
use Rattle.std.specs.Prelude.{nat_le}
use Rattle.std.proofs.lemmas.Grind.{common_steps}
use Rattle.std.proofs.lemmas.List.{take_more, reverse-append, length-take, length-drop}
use Rattle.out_segments.specs.declared.parts.PartFile.{PartFile}
use Rattle.out_segments.specs.declared.memory.log.Change.{Change}
use Rattle.out_segments.specs.declared.memory.log.Change.TheVariants.{Put, Write, Cut, Sync}
use Rattle.out_segments.specs.declared.memory.log.Entry.{Entry}
use Rattle.out_segments.specs.declared.memory.tear.Kind.{Kind}
use Rattle.out_segments.specs.declared.memory.tear.Kind.TheVariants.{Nothing, All, Front, Garbage, Mixture}
use Rattle.outside.specs.Image.{Torn}
use Rattle.out_segments.proofs.CrashLeaves.{torn_over, torn_wider}
use Rattle.out_segments.specs.declared.memory.tear.Tear.{Tear}
use Rattle.out_segments.specs.CrashOutcome.{with_torn, torn_bytes, mixed_bytes, mixture_size, front_size, garbage_from, left_by, without_call, with_call, without_unsynced, with_unsynced}
use Rattle.out_segments.specs.MemLog.{Log, is_same, calls_of, changed, written_over, content, LeavesBy, Leaves}

prefix_more : (log : Log) (i : ℕ) (entry : Entry) → i < length log → entry ≡ get_or log i entry → reverse (take (i + 1) log) ≡ entry ∷ reverse (take i log)
prefix_more log i entry within is = rw (take_more log i entry within, ← is, reverse-append (take i log) (entry ∷ [])) refl

leaves_from : (change : Change) (taken : Bool) (could : List ℕ → Type 0) (shown old left : List ℕ) → could old → LeavesBy change taken (λ o. o ≡ old) shown left → LeavesBy change taken could shown left
leaves_from (Put bytes) true could shown old left before by = by
leaves_from (Put bytes) false could shown old left before by = subst could (sym by) before
leaves_from (Write offset bytes) taken could shown old left before by = (by.0, subst could (sym by.1) before, by.2)
leaves_from (Cut size) taken could shown old left before by = (by.0, subst could (sym by.1) before, by.2)
leaves_from Sync true could shown old left before by = by
leaves_from Sync false could shown old left before by = subst could (sym by) before

-- what was gone through so far: what reads give, and what is left
pub record Tears (tear : Tear) (file : PartFile) (log : Log) (i : ℕ) (shown left : List ℕ) : Type 0 where
  pub shown_is : shown ≡ content (calls_of file (reverse (take i log)))
  pub leaves : Leaves (calls_of file (reverse (take i log))) left
  pub left_is : left ≡ left_by tear (calls_of file (reverse (take i log)))

pub tears_skip : (tear : Tear) (file : PartFile) (log : Log) (i : ℕ) (entry : Entry) (shown left : List ℕ) → i < length log → entry ≡ get_or log i entry → is_same entry.file file ≡ false → Tears tear file log i shown left → Tears tear file log (i + 1) shown left
tears_skip tear file log i entry shown left within is other tears = record {
  shown_is = rw (prefix_more log i entry within is, other) tears.shown_is;
  leaves = rw (prefix_more log i entry within is, other) tears.leaves;
  left_is = rw (prefix_more log i entry within is, other) tears.left_is;
}

pub tears_step : (tear : Tear) (file : PartFile) (log : Log) (i : ℕ) (entry : Entry) (shown left shown_then left_then : List ℕ) → i < length log → entry ≡ get_or log i entry → is_same entry.file file ≡ true → Tears tear file log i shown left → shown_then ≡ (if entry.taken then changed entry.change shown else shown) → LeavesBy entry.change entry.taken (λ old. old ≡ left) shown left_then → left_then ≡ with_torn tear entry.change entry.taken left shown → Tears tear file log (i + 1) shown_then left_then
tears_step tear file log i entry shown left shown_then left_then within is here tears next by call =
    let calls = calls_of file (reverse (take i log)) in
    let P : List ℕ → Type 0 = λ s. LeavesBy entry.change entry.taken (λ old. Leaves calls old) s left_then in
    record {
      shown_is = rw (prefix_more log i entry within is, here, ← tears.shown_is) next;
      leaves = rw (prefix_more log i entry within is, here) (subst P tears.shown_is (leaves_from entry.change entry.taken (λ old. Leaves calls old) shown left left_then tears.leaves by));
      left_is = rw (prefix_more log i entry within is, here) (call ∙ ap (λ s. with_torn tear entry.change entry.taken left s) tears.shown_is ∙ ap (λ l. with_torn tear entry.change entry.taken l (content calls)) tears.left_is);
    }

nothing_put : (offset : ℕ) (kept : List ℕ) (t : Bool) → (if t then written_over offset [] kept else kept) ≡ kept
nothing_put offset kept true = grind (arith, common_steps)
nothing_put offset kept false = refl

nothing_step : (change : Change) (variation : ℕ) (file : PartFile) (taken : Bool) (kept shown : List ℕ) → with_torn (record { kind = Nothing; variation = variation; file = file }) change taken kept shown ≡ without_call change taken kept shown
nothing_step (Put bytes) variation file taken kept shown = refl
nothing_step (Write offset bytes) variation file taken kept shown = nothing_put offset kept (nat_le offset (length kept))
nothing_step (Cut size) variation file taken kept shown = refl
nothing_step Sync variation file taken kept shown = refl

pub nothing_left : (variation : ℕ) (file : PartFile) (log : Log) → left_by (record { kind = Nothing; variation = variation; file = file }) log ≡ without_unsynced log
nothing_left variation file [] = refl
nothing_left variation file (entry ∷ before) =
    nothing_step entry.change variation file entry.taken _ (content before) ∙ ap (λ l. without_call entry.change entry.taken l (content before)) (nothing_left variation file before)

all_step : (change : Change) (variation : ℕ) (file : PartFile) (taken : Bool) (kept shown : List ℕ) → with_torn (record { kind = All; variation = variation; file = file }) change taken kept shown ≡ with_call true (λ bytes. bytes) change taken kept shown
all_step (Put bytes) variation file taken kept shown = refl
all_step (Write offset bytes) variation file taken kept shown = refl
all_step (Cut size) variation file taken kept shown = refl
all_step Sync variation file taken kept shown = refl

pub all_left : (variation : ℕ) (file : PartFile) (log : Log) → left_by (record { kind = All; variation = variation; file = file }) log ≡ with_unsynced log
all_left variation file [] = refl
all_left variation file (entry ∷ before) =
    all_step entry.change variation file entry.taken _ (content before) ∙ ap (λ l. with_call true (λ bytes. bytes) entry.change entry.taken l (content before)) (all_left variation file before)

length_garbage : (begins : Bool) (variation place : ℕ) (bytes : List ℕ) → length (garbage_from begins variation place bytes) ≡ length bytes
length_garbage begins variation place [] = refl
length_garbage begins variation place (byte ∷ rest) = ap suc (length_garbage begins variation (suc place) rest)

length_mixed : (variation front : ℕ) (bytes : List ℕ) → length (mixed_bytes variation front bytes) ≤ length bytes
length_mixed variation front bytes =
    omega (arith, length-append (take front bytes) (garbage_from false variation front (drop front bytes)), length_garbage false variation front (drop front bytes), length-take front bytes, length-drop front bytes)

length_torn : (kind : Kind) (variation : ℕ) (file : PartFile) (bytes : List ℕ) → length (torn_bytes kind variation file bytes) ≤ length bytes
length_torn Nothing variation file bytes = omega arith
length_torn All variation file bytes = omega arith
length_torn Front variation file bytes = omega (arith, length-take (front_size variation (length bytes)) bytes)
length_torn Garbage variation file bytes = omega (arith, length_garbage true variation 0 bytes)
length_torn Mixture variation file bytes = length_mixed variation (mixture_size file (length bytes)) bytes

-- whatever is left of a write, it is torn within its range
pub torn_put : (kind : Kind) (variation : ℕ) (file : PartFile) (offset : ℕ) (bytes old : List ℕ) → Torn offset (length bytes) old (written_over offset (torn_bytes kind variation file bytes) old)
torn_put kind variation file offset bytes old =
    torn_wider offset (length (torn_bytes kind variation file bytes)) (length bytes) old _ (length_torn kind variation file bytes) (torn_over offset (torn_bytes kind variation file bytes) old)
