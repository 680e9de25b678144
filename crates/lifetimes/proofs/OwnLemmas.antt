-- A poll into which no step was planned moves nothing.
use Rattle.std.proofs.Common.{◌≡◌, ℕ, ◌+◌, ◌-◌, List, [], ◌∷◌, ◌++◌, length, take, drop, true, false, IsTrue, Option, Some, None, refl, sym, ap, subst, ◌∙◌, inl, inr, arith, append_assoc}
use Rattle.std.specs.Prelude.{reverse}
use Rattle.std.proofs.Math.Bool.{Bool-set}
use Rattle.std.proofs.Math.Logic.{∥∥₁_elim}
use Rattle.std.proofs.lemmas.List.{reverse-append, append_cancel_right, length-append, take_at}
use Rattle.std.proofs.Math.Seq.{drop-nil}
use Rattle.std.proofs.lemmas.Option.{slice_get_past}
use Rattle.std.specs.Coded.{×_prop, Unit-prop}
use Rattle.lifetimes.specs.Course.{GoesBy}
use Rattle.outside.specs.Plan.{Follows, FollowsPairs, is_own}
use Rattle.outside.specs.World.{Event, create, append, rename, remove, look, miss, unlisted, History, bytes}
use Rattle.standing.proofs.NameLemmas.{names_stay}
use Rattle.standing.specs.Moments.{IsLater, KeepsNames, LeaveNames}

-- all of them came from calls of the agent's
abbrev pub AreOwn : List Event → Type 0
AreOwn [] = Unit {0}
AreOwn (event ∷ events) = IsTrue (is_own event) × AreOwn events

AreOwn-prop : (events : List Event) → IsProp (AreOwn events)
AreOwn-prop [] = Unit-prop
AreOwn-prop (event ∷ events) = ×_prop (Bool-set _ _) (AreOwn-prop events)

own_append : (events more : List Event) → AreOwn events → AreOwn more → AreOwn (events ++ more)
own_append [] more own own_more = own_more
own_append (event ∷ events) more own own_more = (own.0, own_append events more own.1 own_more)

own_reverse : (events : List Event) → AreOwn events → AreOwn (reverse events)
own_reverse [] own = tt
own_reverse (event ∷ events) own = subst AreOwn (sym (reverse-append (event ∷ []) events)) (own_append (reverse events) (event ∷ []) (own_reverse events own.1) (own.0, tt))

reverse_cons : (event : Event) (events : List Event) → reverse (event ∷ events) ≡ reverse events ++ event ∷ []
reverse_cons event events = reverse-append (event ∷ []) events

reverse-reverse : (events : List Event) → reverse (reverse events) ≡ events
reverse-reverse [] = refl
reverse-reverse (event ∷ events) = ap reverse (reverse_cons event events) ∙ reverse-append (reverse events) (event ∷ []) ∙ ap (λ (es : List Event). event ∷ es) (reverse-reverse events)

-- nothing follows an empty plan but own events
own_follow : (history : History) (read : ℕ) (events : List Event) → FollowsPairs history read [] events → AreOwn events
own_follow history read [] follows = tt
own_follow history read (event ∷ events) follows =
    elim follows.2 [
      | inl own ↦ (own.0, own_follow (event ∷ history) (read + 1) events (subst (λ (left : List (ℕ × Event)). FollowsPairs (event ∷ history) (read + 1) left events) (drop-nil follows.0) own.1))
      | inr step ↦ (let never : ◌≡◌ {A = Option (ℕ × Event)} None (Some (step.0, event)) = sym (slice_get_past [] follows.0 (omega arith)) ∙ step.1 in absurd (cc))
    ]

-- what the history has past its beginning
own_events : (events : List Event) (old : History) → Follows (record { steps = []; since = length old }) (events ++ old) → AreOwn events
own_events events old follows =
    let added : ℕ = length (events ++ old) - length old in
    let many : added ≡ length events = omega (arith, length-append events old) in
    let front : take added (events ++ old) ≡ events = ap (λ (n : ℕ). take n (events ++ old)) many ∙ take_at events old (length events) refl in
    let own : AreOwn (reverse (take added (events ++ old))) = ∥∥₁_elim follows (AreOwn-prop _) (λ pairs. own_follow (drop added (events ++ old)) 0 (reverse (take added (events ++ old))) pairs) in
    let back : AreOwn (reverse (reverse (take added (events ++ old)))) = own_reverse (reverse (take added (events ++ old))) own in
    subst AreOwn (reverse-reverse (take added (events ++ old)) ∙ front) back

own_leave : (events : List Event) → AreOwn events → LeaveNames events
own_leave [] own = tt
own_leave (create _ _ ∷ events) own = absurd (let never : false ≡ true = own.0 in cc)
own_leave (append _ _ ∷ events) own = own_leave events own.1
own_leave (rename _ _ ∷ events) own = absurd (let never : false ≡ true = own.0 in cc)
own_leave (remove _ ∷ events) own = absurd (let never : false ≡ true = own.0 in cc)
own_leave (look _ ∷ events) own = own_leave events own.1
own_leave (miss _ ∷ events) own = own_leave events own.1
own_leave (unlisted _ ∷ events) own = own_leave events own.1

own_bytes : (events : List Event) (old : History) (file : ℕ) → AreOwn events → bytes (events ++ old) file ≡ bytes old file
own_bytes [] old file own = refl
own_bytes (create _ _ ∷ events) old file own = own_bytes events old file own.1
own_bytes (append _ _ ∷ events) old file own = absurd (let never : false ≡ true = own.0 in cc)
own_bytes (rename _ _ ∷ events) old file own = own_bytes events old file own.1
own_bytes (remove _ ∷ events) old file own = own_bytes events old file own.1
own_bytes (look _ ∷ events) old file own = own_bytes events old file own.1
own_bytes (miss _ ∷ events) old file own = own_bytes events old file own.1
own_bytes (unlisted _ ∷ events) old file own = own_bytes events old file own.1

own_front : (later earlier : List Event) → AreOwn (later ++ earlier) → AreOwn later
own_front [] earlier own = tt
own_front (event ∷ later) earlier own = (own.0, own_front later earlier own.1)

-- from the first of these moments to the second neither names nor bytes change
pub record IsUndisturbed (old new : History) : Type 0 where
  pub names_kept : KeepsNames old new
  pub bytes_kept : (moment : History) (file : ℕ) → IsLater old moment → IsLater moment new → bytes new file ≡ bytes moment file

undisturbed : (events : List Event) (old : History) → AreOwn events → IsUndisturbed old (events ++ old)
undisturbed events old own = record {
  names_kept = names_stay old events (own_leave events own);
  bytes_kept = λ moment file after before.
      let whole : events ++ old ≡ (before.events ++ after.events) ++ old =
      before.goes_on ∙ ap (λ (h : List Event). before.events ++ h) after.goes_on ∙ sym (append_assoc before.events after.events old) in
      let parts : events ≡ before.events ++ after.events = append_cancel_right events (before.events ++ after.events) old whole in
      ap (λ (h : History). bytes h file) before.goes_on ∙ own_bytes before.events moment file (own_front before.events after.events (subst AreOwn parts own));
}

pub own_by : (old new : History) (goes : GoesBy [] old new) → AreOwn goes.later.events
own_by old new goes = own_events goes.later.events old (subst (λ (h : History). Follows (record { steps = []; since = length old }) h) goes.later.goes_on goes.follows)

pub undisturbed_by : (old new : History) → GoesBy [] old new → IsUndisturbed old new
undisturbed_by old new goes = subst (IsUndisturbed old) (sym goes.later.goes_on) (undisturbed goes.later.events old (own_by old new goes))
