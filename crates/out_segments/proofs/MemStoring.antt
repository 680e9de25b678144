-- A store, from call to call.
use Rattle.std.proofs.Common.{◌≡◌, ◌≢◌, ℕ, ◌≤◌, ◌<◌, List, [], ◌∷◌, ◌++◌, length, reverse, Bool, if◌then◌else◌, sym, ◌∙◌, ap, subst, arith, inl, inr}
use Rattle.std.proofs.lemmas.List.{reverse-append}
use Rattle.outside.specs.Image.{Image, AtFile}
use Rattle.out_segments.specs.declared.parts.PartFile.{PartFile}
use Rattle.out_segments.specs.declared.parts.PartFile.TheVariants.{Settings, SlotA, SlotB, Part}
use Rattle.out_segments.specs.declared.memory.contents.Contents.{Contents}
use Rattle.out_segments.specs.declared.memory.log.Change.{Change}
use Rattle.out_segments.specs.declared.memory.log.Entry.{Entry}
use Rattle.out_segments.specs.Inner.IsStored.{IsStored}
use Rattle.out_segments.specs.MemContents.{bytes_of, parts_held, IsHeld}
use Rattle.out_segments.specs.MemImages.{shown, itself}
use Rattle.out_segments.specs.MemLog.{Log, calls_of, changed, content}
use Rattle.out_segments.proofs.MemFiles.{cases_file, calls_of-here, calls_of-other}
use Rattle.out_segments.proofs.CrashCalls.{made}

matches_more : (log : Log) (file : PartFile) (change : Change) (taken : Bool) (old new : Image PartFile) → ((other : PartFile) → old other ≡ shown itself log other) → AtFile file (λ before after. after ≡ (if taken then changed change before else before)) old new → (other : PartFile) → new other ≡ shown itself (made file change taken ∷ log) other
matches_more log file change taken old new matches at other = elim (cases_file file other) [
  | inl same ↦
      (let P : PartFile → Type 0 = λ f. new f ≡ shown itself (made file change taken ∷ log) f in
      subst P same (at.here ∙ ap (λ bytes. if taken then changed change bytes else bytes) (matches file) ∙ sym (ap content (calls_of-here (made file change taken) log))))
  | inr apart ↦ (at.others other (λ e. apart.0 (sym e)) ∙ matches other ∙ sym (ap content (calls_of-other (made file change taken) other log (λ e. apart.0 (sym e)))))
]

same_number : (a b : ℕ) → Part a ≡ Part b → a ≡ b
same_number a b same = cc

is_held_below : (count : ℕ) (file : PartFile) (number : ℕ) → IsHeld count file → count ≤ number → Part number ≢ file
is_held_below count Settings number held late = λ e. cc
is_held_below count SlotA number held late = λ e. cc
is_held_below count SlotB number held late = λ e. cc
is_held_below count (Part other) number held late = λ e. absurd (omega (arith, same_number number other e, held, late))

pub stored_more : (contents later : Contents) (log : List Entry) (file : PartFile) (change : Change) (taken : Bool) → IsStored contents log → AtFile file (λ before after. after ≡ (if taken then changed change before else before)) (bytes_of contents) (bytes_of later) → IsHeld (parts_held later) file → parts_held contents ≤ parts_held later → (parts_held contents ≤ 4294967296 → parts_held later ≤ 4294967296) → IsStored later (log ++ made file change taken ∷ [])
stored_more contents later log file change taken stored at held kept few =
    let is : reverse (log ++ made file change taken ∷ []) ≡ made file change taken ∷ reverse log = reverse-append log (made file change taken ∷ []) in
    record {
      matches = λ other. (let P : Log → Type 0 = λ l. bytes_of later other ≡ shown itself l other in subst P (sym is) (matches_more (reverse log) file change taken (bytes_of contents) (bytes_of later) stored.matches at other));
      held = λ number late.
          let apart = is_held_below (parts_held later) file number held late in
          ap (λ (l : Log). length (calls_of (Part number) l)) is ∙ ap length (calls_of-other (made file change taken) (Part number) (reverse log) apart) ∙ stored.held number (omega (arith, kept, late));
      few = few stored.few;
    }

-- the same files, and no call more
pub stored_same : (contents later : Contents) (log : List Entry) → IsStored contents log → ((other : PartFile) → bytes_of later other ≡ bytes_of contents other) → parts_held contents ≤ parts_held later → (parts_held contents ≤ 4294967296 → parts_held later ≤ 4294967296) → IsStored later log
stored_same contents later log stored same kept few = record {
  matches = λ other. same other ∙ stored.matches other;
  held = λ number late. stored.held number (omega (arith, kept, late));
  few = few stored.few;
}

-- the same of a log that is told otherwise
pub stored_after : (contents later : Contents) (log after : List Entry) (file : PartFile) (change : Change) (taken : Bool) → IsStored contents log → AtFile file (λ before after. after ≡ (if taken then changed change before else before)) (bytes_of contents) (bytes_of later) → IsHeld (parts_held later) file → parts_held contents ≤ parts_held later → (parts_held contents ≤ 4294967296 → parts_held later ≤ 4294967296) → after ≡ log ++ made file change taken ∷ [] → IsStored later after
stored_after contents later log after file change taken stored at held kept few is =
    subst (λ (l : List Entry). IsStored later l) (sym is) (stored_more contents later log file change taken stored at held kept few)

pub stored_still : (contents later : Contents) (log after : List Entry) → IsStored contents log → ((other : PartFile) → bytes_of later other ≡ bytes_of contents other) → parts_held contents ≤ parts_held later → (parts_held contents ≤ 4294967296 → parts_held later ≤ 4294967296) → after ≡ log → IsStored later after
stored_still contents later log after stored same kept few is =
    subst (λ (l : List Entry). IsStored later l) (sym is) (stored_same contents later log stored same kept few)
