-- Steps of reading a Go layout's text.
use Rattle.std.proofs.Common.{◌≡◌, ◌∙◌, sym, ap, refl, ℕ, zero, suc, ◌+◌, ◌-◌, ◌<◌, ◌≤◌, List, ◌∷◌, length, take, drop, subst, get_or, Some, None, Ok, Err, Result, arith}
use Rattle.std.specs.Prelude.{OnOk, IfErr}
use Rattle.std.proofs.Math.ListN.{length-drop}
use Rattle.std.proofs.Math.Seq.{take-length}
use Rattle.std.proofs.lemmas.List.{drop_more}
use Rattle.time_layout.specs.declared.fault.LayoutFault.{LayoutFault}
use Rattle.time_layout.specs.declared.fault.LayoutFault.TheVariants.{Directive, Memory}
use Rattle.time_layout.specs.GoLayouts.{name_of, longest, NameDraft, names_step, names_stepped, names_from, drafted_parts}
use Rattle.time_layout.specs.LayoutFaults.{IsFaultOf}

pub no_name : (size less : ℕ) (text : List ℕ) → size ≡ less + 1 → name_of size text ≡ None → longest size text ≡ longest less text
no_name zero less text is none = absurd (omega arith)
no_name (suc size) less text is none = rw none (ap (λ n. longest n text) (omega arith))

pub a_name : (size code : ℕ) (text : List ℕ) → 1 ≤ size → name_of size text ≡ Some code → longest size text ≡ Some (code, size)
a_name zero code text some named = absurd (omega arith)
a_name (suc size) code text some named = rw named refl

stepped_to : (step : Result NameDraft ℕ) (next : NameDraft) (rest : NameDraft → Result NameDraft ℕ) → step ≡ Ok next → names_stepped step rest ≡ rest next
stepped_to step next rest is = rw is refl

stepped_fault : (step : Result NameDraft ℕ) (fault : ℕ) (rest : NameDraft → Result NameDraft ℕ) → step ≡ Err fault → names_stepped step rest ≡ Err fault
stepped_fault step fault rest is = rw is refl

next_draft : (text : List ℕ) (at : ℕ) (s next : NameDraft) → at < length text → names_step s at (drop at text) ≡ Ok next
    → names_from (drop at text) at s ≡ names_from (drop (at + 1) text) (at + 1) next
next_draft text at s next inside is =
    let here : drop at text ≡ get_or text at 0 ∷ drop (at + 1) text = drop_more text at 0 inside in
    ap (λ rest. names_from rest at s) here
    ∙ stepped_to (names_step s at (get_or text at 0 ∷ drop (at + 1) text)) next (λ more. names_from (drop (at + 1) text) (at + 1) more)
    (ap (names_step s at) (sym here) ∙ is)

-- the bytes from a place on
from_place : (text : List ℕ) (at : ℕ) → take (length text - at) (drop at text) ≡ drop at text
from_place text at = ap (λ n. take n (drop at text)) (sym (length-drop at text)) ∙ take-length (drop at text)

pub taken : {A : Type 0} (result : Result A LayoutFault) (text : List ℕ) (at : ℕ) (s next : NameDraft) → at < length text
    → OnOk result (names_step s at (take (length text - at) (drop at text)) ≡ Ok next) → OnOk result (names_from (drop at text) at s ≡ names_from (drop (at + 1) text) (at + 1) next)
taken (Ok done) text at s next inside is = next_draft text at s next inside (ap (names_step s at) (sym (from_place text at)) ∙ is)
taken (Err fault) text at s next inside is = is

fault_here : (fault : LayoutFault) (text : List ℕ) (at : ℕ) (s : NameDraft) → at < length text → IsFaultOf (names_step s at (drop at text)) fault
    → IsFaultOf (drafted_parts (names_from (drop at text) at s)) fault
fault_here Memory text at s inside is = is
fault_here (Directive place) text at s inside is =
    let here : drop at text ≡ get_or text at 0 ∷ drop (at + 1) text = drop_more text at 0 inside in
    ap drafted_parts (ap (λ rest. names_from rest at s) here
    ∙ stepped_fault (names_step s at (get_or text at 0 ∷ drop (at + 1) text)) place (λ more. names_from (drop (at + 1) text) (at + 1) more)
    (ap (names_step s at) (sym here) ∙ is))

pub not_taken : {A : Type 0} (result : Result A LayoutFault) (text : List ℕ) (at : ℕ) (s : NameDraft) → at < length text
    → IfErr result (IsFaultOf (names_step s at (take (length text - at) (drop at text)))) → IfErr result (IsFaultOf (drafted_parts (names_from (drop at text) at s)))
not_taken (Ok done) text at s inside is = is
not_taken (Err fault) text at s inside is =
    fault_here fault text at s inside (subst (λ rest. IsFaultOf (names_step s at rest) fault) (from_place text at) is)
