-- No spelling begins another of its kind.
use Rattle.std.proofs.Common.{◌≡◌, ℕ, ◌≤◌, List, [], ◌++◌, ◌^◌, Result, Ok, Err, refl, sym, ap, ◌∙◌, arith}
use Rattle.file_tracker.specs.declared.row.Row.{Row}
use Rattle.state_codec.specs.declared.CodecFault.{CodecFault}
use Rattle.state_codec.specs.declared.CodecFault.TheVariants.{Malformed, Memory}
use Rattle.state_codec.proofs.Numbers.{ok_is}
use Rattle.state_codec.specs.Reading.{Reading}
use Rattle.checkpoint_store.specs.Limits.{output_limit}
use Rattle.checkpoint_store.specs.declared.Checkpoint.{Checkpoint}
use Rattle.checkpoint_store.specs.declared.Change.{Change}
use Rattle.checkpoint_store.specs.declared.beside.Beside.{Beside}
use Rattle.checkpoint_store.specs.Rules.{IsVersion, KeepsRules, IsCheckpoint}
use Rattle.checkpoint_store.specs.Spelling.{row_spelling, checkpoint_spelling, change_spelling}
use Rattle.checkpoint_store.specs.Fits.{Fits}
use Rattle.checkpoint_store.specs.Changed.{changed}
use Rattle.checkpoint_store.specs.Decodes.{Decodes, Answers}
use Rattle.checkpoint_store.specs.Applied.{Applies}
use Rattle.checkpoint_store.proofs.Formats.{IsFormat}
use Rattle.checkpoint_store.proofs.RowFormats.{row_format}
use Rattle.checkpoint_store.proofs.CheckpointFormats.{Known, any_format}
use Rattle.checkpoint_store.proofs.ChangeFormats.{unchecked_format, unchecked_fits}

pub told : {Y : Type 0} {spelling : Y → List ℕ} {Keeps : Y → Type 0} {reading : List ℕ → Reading Y} → IsFormat spelling Keeps reading
    → (one other : Y) (x y : List ℕ) → Keeps one → Keeps other → spelling one ++ x ≡ spelling other ++ y → (one ≡ other) × (x ≡ y)
told {Y = Y} {reading = reading} format one other x y first second e =
    let same = ok_is (one, x) (other, y) (sym (format.again one x first) ∙ ap reading e ∙ format.again other y second) in
    (ap (λ (p : Y × List ℕ). p.0) same, ap (λ (p : Y × List ℕ). p.1) same)

pub rows_told : (beside : Beside) (one other : Row) (x y : List ℕ) → beside.output_length ≤ output_limit → KeepsRules beside one → KeepsRules beside other
    → row_spelling beside.version one ++ x ≡ row_spelling beside.version other ++ y → (one ≡ other) × (x ≡ y)
rows_told beside one other x y small first second =
    told (row_format beside 0 (2 ^ 32) small) one other x y ((omega arith, omega (arith, first.id)), first) ((omega arith, omega (arith, second.id)), second)

pub checkpoints_told : (v w : ℕ) (one other : Checkpoint) (x y : List ℕ) → IsVersion v → IsVersion w → IsCheckpoint v one → IsCheckpoint w other
    → checkpoint_spelling v one ++ x ≡ checkpoint_spelling w other ++ y → (v ≡ w) × (one ≡ other) × (x ≡ y)
checkpoints_told v w one other x y known too first second e =
    let same = told any_format (v, one) (w, other) x y (known, first) (too, second) e in
    (ap (λ (k : Known). k.0) same.0, ap (λ (k : Known). k.1) same.0, same.1)

pub changes_told : (version : ℕ) (before : Checkpoint) (one other : Change) (x y : List ℕ) → Fits version before one → Fits version before other
    → change_spelling version one ++ x ≡ change_spelling version other ++ y → (one ≡ other) × (x ≡ y)
changes_told version before one other x y first second =
    told (unchecked_format version before) one other x y (unchecked_fits version before one first) (unchecked_fits version before other second)

-- ---- what is encoded is read back

pub decoded_again : (version : ℕ) (c : Checkpoint) (answer : Result Checkpoint CodecFault) → IsVersion version → IsCheckpoint version c → Decodes (checkpoint_spelling version c) answer → Answers c answer
decoded_again version c (Ok x) known lawful d = (checkpoints_told d.version version x c [] [] d.known known d.lawful lawful (ap (λ (l : List ℕ). l ++ []) (sym d.spelled))).1
decoded_again version c (Err (Malformed fault)) known lawful d = d.none c (record { version = version; known = known; lawful = lawful; spelled = refl })
decoded_again version c (Err Memory) known lawful d = tt

pub applied_again : (version : ℕ) (before : Checkpoint) (change : Change) (answer : Result Checkpoint CodecFault) → Fits version before change
    → Applies version before (change_spelling version change) answer → Answers (changed before change) answer
applied_again version before change (Ok after) fits a = a.after_is ∙ ap (changed before) (changes_told version before a.change change [] [] a.fits fits (ap (λ (l : List ℕ). l ++ []) (sym a.spelled))).0
applied_again version before change (Err (Malformed fault)) fits a = a.none change fits refl
applied_again version before change (Err Memory) fits a = tt
