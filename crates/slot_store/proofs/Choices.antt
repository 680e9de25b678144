-- Which slot an image chooses, where one of its slot files was changed.
use Rattle.std.proofs.Common.{◌≡◌, ◌≢◌, ◌⊎◌, ℕ, zero, suc, ◌+◌, ◌<◌, ◌≤◌, List, ◌∷◌, length, take, drop, Bool, true, false, Option, Some, None, refl, sym, ◌∙◌, ap, inl, inr, arith}
use Rattle.std.specs.Prelude.{nat_lt, option_map, IfSome, if◌then◌else◌}
use Rattle.std.proofs.lemmas.Bool.Decides.{nat_tests}
use Rattle.outside.specs.Image.{Image}
use Rattle.outside.specs.declared.disk.DiskFile.{DiskFile}
use Rattle.outside.specs.declared.disk.DiskFile.TheVariants.{Settings, Output, SlotA, SlotB}
use Rattle.slot_store.proofs.Tears.{decide_eq}
use Rattle.slot_store.proofs.Framed.{frame_is_open, sequence_of_frame, length_of_frame, payload_of_frame}
use Rattle.slot_store.specs.ChosenSlot.{slot_in, greater_of, chosen_slot, chosen_payload}
use Rattle.slot_store.specs.Committed.{other_file, free_file, next_sequence, next_slot, Leads, Chooses, KeepsChoice, IsCommitted, KeepsOthers}
use Rattle.slot_store.specs.Frame.{is_open_at, sequence_at, length_at, payload_at, frame_body, last_number}
use Rattle.slot_store.specs.Head.{head_at}
use Rattle.slot_store.specs.declared.frame.Head.{Head}
use Rattle.slot_store.specs.declared.slot.Slot.{Slot}

a_is_not_b : SlotA ≢ SlotB
a_is_not_b same = cc

slot_in_closed : (file : DiskFile) (content : List ℕ) → is_open_at 0 content ≡ false → slot_in file content ≡ None
slot_in_closed file content closed = rw closed refl

slot_in_frame : (file : DiskFile) (content : List ℕ) (sequence : ℕ) (payload : List ℕ) → content ≡ 165 ∷ frame_body sequence payload → sequence ≤ last_number → length payload + 17 ≤ last_number → slot_in file content ≡ Some (record { file = file; sequence = sequence; length = length payload })
slot_in_frame file content sequence payload is_frame in_range within =
    ap (λ bytes. slot_in file bytes) is_frame
    ∙ rw (frame_is_open sequence payload within, sequence_of_frame sequence payload in_range, length_of_frame sequence payload (omega arith)) refl

file_of : Option Slot → DiskFile
file_of None = Settings
file_of (Some slot) = slot.file

pub slot_in_file : (file : DiskFile) (content : List ℕ) (slot : Slot) → slot_in file content ≡ Some slot → slot.file ≡ file
unfolding file_of
slot_in_file file content slot found = by_test (is_open_at 0 content) found
  where
    by_test : (test : Bool) → (if test then Some (record { file = file; sequence = sequence_at 0 content; length = length_at 0 content }) else None) ≡ Some slot → slot.file ≡ file
    by_test true e = sym (ap file_of e)
    by_test false e = cc

greater_in : (first second : Option Slot) (slot : Slot) → greater_of first second ≡ Some slot → (first ≡ Some slot) ⊎ (second ≡ Some slot)
greater_in None second slot e = inr e
greater_in (Some first) None slot e = inl e
greater_in (Some first) (Some second) slot e = by_test (nat_lt first.sequence second.sequence) e
  where
    by_test : (test : Bool) → (if test then Some second else Some first) ≡ Some slot → (Some first ≡ Some slot) ⊎ (Some second ≡ Some slot)
    by_test true e = inr e
    by_test false e = inl e

greater_none : (first second : Option Slot) → greater_of first second ≡ None → (first ≡ None) × (second ≡ None)
greater_none None second e = (refl, e)
greater_none (Some first) None e = cc
greater_none (Some first) (Some second) e = by_test (nat_lt first.sequence second.sequence) e
  where
    by_test : (test : Bool) → (if test then Some second else Some first) ≡ None → (Some first ≡ None) × (Some second ≡ None)
    by_test true e = cc
    by_test false e = cc

pub greater_second : (first second : Slot) → first.sequence < second.sequence → greater_of (Some first) (Some second) ≡ Some second
greater_second first second below = grind (arith, nat_tests)

pub greater_first : (first second : Slot) → second.sequence ≤ first.sequence → greater_of (Some first) (Some second) ≡ Some first
greater_first first second above = grind (arith, nat_tests)

pub chosen_from : (image : Image DiskFile) (first second : Option Slot) → slot_in SlotA (image SlotA) ≡ first → slot_in SlotB (image SlotB) ≡ second → chosen_slot image ≡ greater_of first second
unfolding chosen_slot
chosen_from image first second a b = ap (λ x. greater_of x (slot_in SlotB (image SlotB))) a ∙ ap (λ y. greater_of first y) b

pub chosen_in : (image : Image DiskFile) (slot : Slot) → chosen_slot image ≡ Some slot → (slot_in SlotA (image SlotA) ≡ Some slot) ⊎ (slot_in SlotB (image SlotB) ≡ Some slot)
unfolding chosen_slot
chosen_in image slot chosen = greater_in (slot_in SlotA (image SlotA)) (slot_in SlotB (image SlotB)) slot chosen

chosen_none : (image : Image DiskFile) → chosen_slot image ≡ None → (slot_in SlotA (image SlotA) ≡ None) × (slot_in SlotB (image SlotB) ≡ None)
unfolding chosen_slot
chosen_none image chosen = greater_none (slot_in SlotA (image SlotA)) (slot_in SlotB (image SlotB)) chosen

-- the choice where the free file is such a slot, or none
pub record Outcome (before : Option Slot) (free : Option Slot) (old new : Image DiskFile) (slot : Slot) : Type 0 where
  pub was : chosen_slot old ≡ Some slot
  pub apart : slot.file ≢ free_file before
  pub below : slot.sequence < next_sequence before
  pub is : (chosen_slot new ≡ greater_of (Some slot) free) ⊎ (chosen_slot new ≡ greater_of free (Some slot))

-- the slot file that is free stands for the slot that is given
outcome_some : (before : Slot) (free : Option Slot) (old new : Image DiskFile) (slot : Slot) → KeepsOthers (free_file (Some before)) old new → chosen_slot old ≡ Some slot → Leads before slot → slot_in (free_file (Some before)) (new (free_file (Some before))) ≡ free → Outcome (Some before) free old new slot
outcome_some before free old new slot others chosen leads is_free =
    elim (chosen_in old slot chosen) [
      | inl first ↦ (let here : slot.file ≡ SlotA = slot_in_file SlotA (old SlotA) slot first in
          let there : free_file (Some before) ≡ SlotB = ap other_file (sym leads.same_file ∙ here) in
          record {
            was = chosen;
            apart = λ same. a_is_not_b (sym here ∙ same ∙ there);
            below = omega (arith, leads.no_greater);
            is = inl (chosen_from new (Some slot) free
                (ap (λ bytes. slot_in SlotA bytes) (others SlotA (λ same. a_is_not_b (same ∙ there))) ∙ first)
                (sym (ap (λ file. slot_in file (new file)) there) ∙ is_free));
          })
      | inr second ↦ (let here : slot.file ≡ SlotB = slot_in_file SlotB (old SlotB) slot second in
          let there : free_file (Some before) ≡ SlotA = ap other_file (sym leads.same_file ∙ here) in
          record {
            was = chosen;
            apart = λ same. a_is_not_b (sym (sym here ∙ same ∙ there));
            below = omega (arith, leads.no_greater);
            is = inr (chosen_from new free (Some slot)
                (sym (ap (λ file. slot_in file (new file)) there) ∙ is_free)
                (ap (λ bytes. slot_in SlotB bytes) (others SlotB (λ same. a_is_not_b (sym (same ∙ there)))) ∙ second));
          })
    ]

outcome_none : (free : Option Slot) (old new : Image DiskFile) → KeepsOthers SlotA old new → chosen_slot old ≡ None → slot_in SlotA (new SlotA) ≡ free → chosen_slot new ≡ greater_of free None
outcome_none free old new others chosen is_free =
    chosen_from new free None is_free (ap (λ bytes. slot_in SlotB bytes) (others SlotB (λ same. a_is_not_b (sym same))) ∙ (chosen_none old chosen).1)

-- the payload, where the choice and its file stand
payload_stays : (old new : Image DiskFile) (choice : Option Slot) → IfSome choice (λ slot. new slot.file ≡ old slot.file) → option_map (λ slot. payload_at 0 (new slot.file)) choice ≡ option_map (λ slot. payload_at 0 (old slot.file)) choice
payload_stays old new None same = refl
payload_stays old new (Some slot) same = ap (λ bytes. Some (payload_at 0 bytes)) same

pub keeps_choice : (old new : Image DiskFile) → chosen_slot new ≡ chosen_slot old → IfSome (chosen_slot old) (λ slot. new slot.file ≡ old slot.file) → KeepsChoice old new
unfolding chosen_payload
keeps_choice old new same stands = record {
  slot = same;
  payload = ap (λ choice. option_map (λ slot. payload_at 0 (new slot.file)) choice) same ∙ payload_stays old new (chosen_slot old) stands;
  file = stands;
}

-- Nothing but the free file changed, and that isn't open.
pub keeps_closed : (before : Option Slot) (old new : Image DiskFile) → KeepsOthers (free_file before) old new → Chooses before old → is_open_at 0 (new (free_file before)) ≡ false → KeepsChoice old new
keeps_closed None old new others chosen closed =
    keeps_choice old new
    (outcome_none None old new others chosen (slot_in_closed SlotA (new SlotA) closed) ∙ sym chosen)
    (rw chosen tt)
keeps_closed (Some before) old new others (slot, chosen, leads) closed =
    let outcome = outcome_some before None old new slot others chosen leads (slot_in_closed (free_file (Some before)) (new (free_file (Some before))) closed) in
    keeps_choice old new
    (elim outcome.is [ inl first ↦ first ∙ sym chosen | inr second ↦ second ∙ sym chosen ])
    (rw chosen (others slot.file outcome.apart))

tag : DiskFile → ℕ
tag Settings = 0
tag Output = 1
tag SlotA = 2
tag SlotB = 3

file_with : ℕ → DiskFile
file_with zero = Settings
file_with (suc zero) = Output
file_with (suc (suc zero)) = SlotA
file_with (suc (suc (suc _))) = SlotB

file_with-tag : (file : DiskFile) → file_with (tag file) ≡ file
unfolding tag file_with
file_with-tag Settings = refl
file_with-tag Output = refl
file_with-tag SlotA = refl
file_with-tag SlotB = refl

same_tag : (one another : DiskFile) → tag one ≡ tag another → one ≡ another
same_tag one another same = sym (file_with-tag one) ∙ ap file_with same ∙ file_with-tag another

pub decide_file : (one another : DiskFile) → (one ≡ another) ⊎ (one ≢ another)
decide_file one another = elim (decide_eq (tag one) (tag another)) [
  | inl same ↦ inl (same_tag one another same)
  | inr differs ↦ inr (λ same. differs (ap tag same))
]

each_file : (free : DiskFile) (old new : Image DiskFile) → KeepsOthers free old new → new free ≡ old free → (file : DiskFile) → new file ≡ old file
each_file free old new others same file = elim (decide_file file free) [
  | inl is_free ↦ rw is_free same
  | inr differs ↦ others file differs
]

-- Nothing changed at all.
pub keeps_same : (before : Option Slot) (old new : Image DiskFile) → KeepsOthers (free_file before) old new → new (free_file before) ≡ old (free_file before) → KeepsChoice old new
keeps_same before old new others same =
    let each : (file : DiskFile) → new file ≡ old file = each_file (free_file before) old new others same in
    keeps_choice old new
    (chosen_from new (slot_in SlotA (old SlotA)) (slot_in SlotB (old SlotB)) (ap (λ bytes. slot_in SlotA bytes) (each SlotA)) (ap (λ bytes. slot_in SlotB bytes) (each SlotB)) ∙ sym (chosen_from old (slot_in SlotA (old SlotA)) (slot_in SlotB (old SlotB)) refl refl))
    (if_some (chosen_slot old) each)
  where
    if_some : (choice : Option Slot) → ((file : DiskFile) → new file ≡ old file) → IfSome choice (λ slot. new slot.file ≡ old slot.file)
    if_some None each = tt
    if_some (Some slot) each = each slot.file

new_slot : (before : Option Slot) (payload : List ℕ) (old new : Image DiskFile) → KeepsOthers (free_file before) old new → Chooses before old → slot_in (free_file before) (new (free_file before)) ≡ Some (next_slot before payload) → chosen_slot new ≡ Some (next_slot before payload)
new_slot None payload old new others chosen free = outcome_none (Some (next_slot None payload)) old new others chosen free
new_slot (Some before) payload old new others (slot, chosen, leads) free =
    let outcome = outcome_some before (Some (next_slot (Some before) payload)) old new slot others chosen leads free in
    elim outcome.is [
      | inl first ↦ first ∙ greater_second slot (next_slot (Some before) payload) outcome.below
      | inr second ↦ second ∙ greater_first (next_slot (Some before) payload) slot (omega (arith, outcome.below))
    ]

-- The free file is the new slot.
pub is_committed : (before : Option Slot) (payload : List ℕ) (old new : Image DiskFile) → KeepsOthers (free_file before) old new → Chooses before old → new (free_file before) ≡ 165 ∷ frame_body (next_sequence before) payload → next_sequence before ≤ last_number → length payload + 17 ≤ last_number → IsCommitted before payload new
unfolding chosen_payload
is_committed before payload old new others chosen is_frame in_range within = record {
  slot = slot_is;
  payload_is = ap (λ choice. option_map (λ slot. payload_at 0 (new slot.file)) choice) slot_is ∙ ap (λ bytes. Some (payload_at 0 bytes)) is_frame ∙ ap (λ bytes. Some bytes) (payload_of_frame (next_sequence before) payload (omega arith));
  file = is_frame;
}
  where
    free : slot_in (free_file before) (new (free_file before)) ≡ Some (next_slot before payload)
    free = slot_in_frame (free_file before) (new (free_file before)) (next_sequence before) payload is_frame in_range within

    slot_is : chosen_slot new ≡ Some (next_slot before payload)
    slot_is = new_slot before payload old new others chosen free

abbrev pub slot_of : DiskFile → Head → Slot
slot_of file head = record { file = file; sequence = head.sequence; length = head.length }

abbrev head_if : List ℕ → Bool → Option Head
head_if content test = if test then Some (record { sequence = sequence_at 0 content; length = length_at 0 content }) else None

abbrev slot_if : DiskFile → List ℕ → Bool → Option Slot
slot_if file content test = if test then Some (record { file = file; sequence = sequence_at 0 content; length = length_at 0 content }) else None

-- what the head of a slot file says
pub slot_in_head : (file : DiskFile) (content : List ℕ) → slot_in file content ≡ option_map (slot_of file) (head_at 0 content)
unfolding head_at
slot_in_head file content = by_test (is_open_at 0 content)
  where
    by_test : (test : Bool) → slot_if file content test ≡ option_map (slot_of file) (head_if content test)
    by_test true = refl
    by_test false = refl

size_of : Option Slot → ℕ
size_of None = 0
size_of (Some slot) = slot.length

slot_in_length : (file : DiskFile) (content : List ℕ) (slot : Slot) → slot_in file content ≡ Some slot → slot.length ≡ length_at 0 content
unfolding size_of
slot_in_length file content slot found = by_test (is_open_at 0 content) found
  where
    by_test : (test : Bool) → (if test then Some (record { file = file; sequence = sequence_at 0 content; length = length_at 0 content }) else None) ≡ Some slot → slot.length ≡ length_at 0 content
    by_test true e = sym (ap size_of e)
    by_test false e = cc

pub chosen_length : (image : Image DiskFile) (slot : Slot) → chosen_slot image ≡ Some slot → slot.length ≡ length_at 0 (image slot.file)
chosen_length image slot chosen = elim (chosen_in image slot chosen) [
  | inl first ↦ slot_in_length SlotA (image SlotA) slot first ∙ sym (ap (λ file. length_at 0 (image file)) (slot_in_file SlotA (image SlotA) slot first))
  | inr second ↦ slot_in_length SlotB (image SlotB) slot second ∙ sym (ap (λ file. length_at 0 (image file)) (slot_in_file SlotB (image SlotB) slot second))
]

pub chosen_payload_is : (image : Image DiskFile) (slot : Slot) → chosen_slot image ≡ Some slot → chosen_payload image ≡ Some (take slot.length (drop 17 (image slot.file)))
unfolding chosen_payload payload_at
chosen_payload_is image slot chosen =
    ap (λ choice. option_map (λ (slot : Slot). take (length_at 0 (image slot.file)) (drop 17 (image slot.file))) choice) chosen
    ∙ ap (λ size. Some (take size (drop 17 (image slot.file)))) (sym (chosen_length image slot chosen))

pub chosen_file : (image : Image DiskFile) (slot : Slot) → chosen_slot image ≡ Some slot → (slot.file ≡ SlotA) ⊎ (slot.file ≡ SlotB)
chosen_file image slot chosen = elim (chosen_in image slot chosen) [
  | inl first ↦ inl (slot_in_file SlotA (image SlotA) slot first)
  | inr second ↦ inr (slot_in_file SlotB (image SlotB) slot second)
]

pub same_choice : (old new : Image DiskFile) → new SlotA ≡ old SlotA → new SlotB ≡ old SlotB → chosen_slot new ≡ chosen_slot old
same_choice old new first second =
    chosen_from new (slot_in SlotA (old SlotA)) (slot_in SlotB (old SlotB)) (ap (λ bytes. slot_in SlotA bytes) first) (ap (λ bytes. slot_in SlotB bytes) second)
    ∙ sym (chosen_from old (slot_in SlotA (old SlotA)) (slot_in SlotB (old SlotB)) refl refl)

if_chosen : (image : Image DiskFile) (P : Slot → Type 0) (choice : Option Slot) → chosen_slot image ≡ choice → ((slot : Slot) → chosen_slot image ≡ Some slot → P slot) → IfSome choice P
if_chosen image P None is each = tt
if_chosen image P (Some slot) is each = each slot is

pub same_payload : (old new : Image DiskFile) → new SlotA ≡ old SlotA → new SlotB ≡ old SlotB → chosen_payload new ≡ chosen_payload old
same_payload old new first second =
    (keeps_choice old new (same_choice old new first second)
    (if_chosen old (λ slot. new slot.file ≡ old slot.file) (chosen_slot old) refl (λ slot chosen.
    elim (chosen_file old slot chosen) [ inl here ↦ rw here first | inr here ↦ rw here second ]))).payload

pub none_chosen : (image : Image DiskFile) → is_open_at 0 (image SlotA) ≡ false → is_open_at 0 (image SlotB) ≡ false → chosen_slot image ≡ None
none_chosen image first second = chosen_from image None None (slot_in_closed SlotA (image SlotA) first) (slot_in_closed SlotB (image SlotB) second)
