-- The count of faults stays within its bound.
use Rattle.std.proofs.Common.{◌≡◌, ℕ, ◌+◌, ◌-◌, ◌≤◌, List, [], ◌∷◌, length, Bool, true, false, if◌then◌else◌, Option, None, Some, IfSome, ◌++◌, Result, Ok, Err, OnOk, OnErr, length-append, refl, ◌∙◌, inl, inr, arith}
use Rattle.std.proofs.lemmas.List.{length-map}
use Rattle.std.proofs.lemmas.Bool.{cases_eq, ne_eqb}
use Rattle.std.specs.declared.alloc.AllocError.{AllocError}
use Rattle.outside.specs.Count.{raised}
use Rattle.mem_calls.specs.declared.fuse.Fate.TheVariants.{Passes, Fails}
use Rattle.mem_calls.specs.declared.fuse.Fuse.{Fuse}
use Rattle.mem_calls.specs.CallFailures.{is_due, after_call}
use Rattle.mem_calls.specs.CallPlans.{fate, failed, pending, bound_of}

pending_after : (ahead : List ℕ) → pending (after_call ahead) ≤ pending ahead
pending_after [] = omega arith
pending_after (calls ∷ rest) = omega (arith, pending_after rest)

pending_due : (ahead : List ℕ) → is_due ahead ≡ true → pending (after_call ahead) + 1 ≤ pending ahead
pending_due [] due = absurd (cc)
pending_due (calls ∷ rest) due = elim (cases_eq calls 1) [
  | inl one ↦ omega (arith, pending_after rest)
  | inr other ↦ (let later : is_due rest ≡ true = (let no = ne_eqb calls 1 other in rw no at due) in omega (arith, pending_due rest later))
]

within_call : (due : Bool) (base faults later : ℕ) (ahead : List ℕ) → is_due ahead ≡ due → later ≡ (if due then raised faults 1 else faults) → faults + pending ahead ≤ base + length ahead → later + pending (after_call ahead) ≤ base + length (after_call ahead)
within_call true base faults later ahead is rises within = omega (arith, length-map ahead (λ (calls : ℕ). calls - 1), pending_due ahead is)
within_call false base faults later ahead is rises within = omega (arith, length-map ahead (λ (calls : ℕ). calls - 1), pending_after ahead)

cases_due : (due : Bool) (one other : ℕ) → (if failed (if due then Fails else Passes) then one else other) ≡ (if due then one else other)
cases_due true one other = refl
cases_due false one other = refl

pub count_within : (fuse : Option Fuse) (base faults later : ℕ) (ahead : List ℕ) → later ≡ (if failed (fate fuse ahead) then raised faults 1 else faults) → IfSome (bound_of fuse base ahead) (λ most. faults + pending ahead ≤ most) → IfSome (bound_of fuse base (after_call ahead)) (λ most. later + pending (after_call ahead) ≤ most)
count_within None base faults later ahead rises within = within_call (is_due ahead) base faults later ahead refl (rises ∙ cases_due (is_due ahead) (raised faults 1) faults) within
count_within (Some fuse) base faults later ahead rises within = within

pending-push : (ahead : List ℕ) (call : ℕ) → pending (ahead ++ call ∷ []) ≤ pending ahead + 1
pending-push [] call = omega arith
pending-push (calls ∷ rest) call = omega (arith, pending-push rest call)

push_within : (fuse : Option Fuse) (base faults call : ℕ) (ahead : List ℕ) → IfSome (bound_of fuse base ahead) (λ most. faults + pending ahead ≤ most) → IfSome (bound_of fuse base (ahead ++ call ∷ [])) (λ most. faults + pending (ahead ++ call ∷ []) ≤ most)
push_within None base faults call ahead within = omega (arith, pending-push ahead call, length-append ahead (call ∷ []))
push_within (Some fuse) base faults call ahead within = within

pub fail_within : (result : Result Unit AllocError) (fuse : Option Fuse) (base faults call : ℕ) (ahead later : List ℕ) → OnOk result (later ≡ ahead ++ call ∷ []) → OnErr result (later ≡ ahead) → IfSome (bound_of fuse base ahead) (λ most. faults + pending ahead ≤ most) → IfSome (bound_of fuse base later) (λ most. faults + pending later ≤ most)
fail_within (Ok _) fuse base faults call ahead later ok err within = rw ok (push_within fuse base faults call ahead within)
fail_within (Err _) fuse base faults call ahead later ok err within = rw err within
