-- The calls on one file, after one more entry of the log.
use Rattle.std.proofs.Common.{◌≡◌, ◌≢◌, ◌⊎◌, ℕ, ◌∷◌, true, false, refl, sym, ap, inl, inr, eq-eqb}
use Rattle.std.proofs.lemmas.Bool.{cases_eq, ne_eqb}
use Rattle.out_segments.specs.declared.parts.PartFile.{PartFile}
use Rattle.out_segments.specs.declared.parts.PartFile.TheVariants.{Settings, SlotA, SlotB, Part}
use Rattle.out_segments.specs.declared.memory.log.Entry.{Entry}
use Rattle.out_segments.specs.MemLog.{Log, is_same, calls_of}

same_number : (a b : ℕ) → Part a ≡ Part b → a ≡ b
same_number a b same = cc

pub is_same-refl : (file : PartFile) → is_same file file ≡ true
is_same-refl Settings = refl
is_same-refl SlotA = refl
is_same-refl SlotB = refl
is_same-refl (Part number) = eq-eqb number number refl

pub cases_file : (file other : PartFile) → (file ≡ other) ⊎ ((file ≢ other) × (is_same file other ≡ false))
cases_file Settings Settings = inl refl
cases_file Settings SlotA = inr (λ e. cc, refl)
cases_file Settings SlotB = inr (λ e. cc, refl)
cases_file Settings (Part b) = inr (λ e. cc, refl)
cases_file SlotA Settings = inr (λ e. cc, refl)
cases_file SlotA SlotA = inl refl
cases_file SlotA SlotB = inr (λ e. cc, refl)
cases_file SlotA (Part b) = inr (λ e. cc, refl)
cases_file SlotB Settings = inr (λ e. cc, refl)
cases_file SlotB SlotA = inr (λ e. cc, refl)
cases_file SlotB SlotB = inl refl
cases_file SlotB (Part b) = inr (λ e. cc, refl)
cases_file (Part a) Settings = inr (λ e. cc, refl)
cases_file (Part a) SlotA = inr (λ e. cc, refl)
cases_file (Part a) SlotB = inr (λ e. cc, refl)
cases_file (Part a) (Part b) = elim (cases_eq a b) [
  | inl same ↦ inl (ap (λ (n : ℕ). Part n) same)
  | inr apart ↦ inr (λ e. apart (same_number a b e), ne_eqb a b apart)
]

pub calls_of-here : (entry : Entry) (log : Log) → calls_of entry.file (entry ∷ log) ≡ entry ∷ calls_of entry.file log
calls_of-here entry log = rw (is_same-refl entry.file) refl

pub calls_of-other : (entry : Entry) (other : PartFile) (log : Log) → other ≢ entry.file → calls_of other (entry ∷ log) ≡ calls_of other log
calls_of-other entry other log differs = elim (cases_file entry.file other) [
  | inl same ↦ absurd (differs (sym same))
  | inr apart ↦ rw apart.1 refl
]
