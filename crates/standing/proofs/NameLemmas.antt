-- Names that no event gives or takes.
use Rattle.std.proofs.Common.{◌≡◌, List, [], ◌∷◌, ◌++◌, refl, sym, ap, subst, ◌∙◌, append_assoc}
use Rattle.std.proofs.lemmas.List.{append_cancel_right}
use Rattle.outside.specs.World.{Event, create, append, rename, remove, look, miss, unlisted, History, names}
use Rattle.standing.specs.Moments.{KeepsNames, LeaveNames}

leave_behind : (later earlier : List Event) → LeaveNames (later ++ earlier) → LeaveNames earlier
leave_behind [] earlier leave = leave
leave_behind (create _ _ ∷ later) earlier leave = absurd leave
leave_behind (append _ _ ∷ later) earlier leave = leave_behind later earlier leave
leave_behind (rename _ _ ∷ later) earlier leave = absurd leave
leave_behind (remove _ ∷ later) earlier leave = absurd leave
leave_behind (look _ ∷ later) earlier leave = leave_behind later earlier leave
leave_behind (miss _ ∷ later) earlier leave = leave_behind later earlier leave
leave_behind (unlisted _ ∷ later) earlier leave = leave_behind later earlier leave

same_names : (events : List Event) (old : History) → LeaveNames events → names (events ++ old) ≡ names old
same_names [] old leave = refl
same_names (create _ _ ∷ events) old leave = absurd leave
same_names (append _ _ ∷ events) old leave = same_names events old leave
same_names (rename _ _ ∷ events) old leave = absurd leave
same_names (remove _ ∷ events) old leave = absurd leave
same_names (look _ ∷ events) old leave = same_names events old leave
same_names (miss _ ∷ events) old leave = same_names events old leave
same_names (unlisted _ ∷ events) old leave = same_names events old leave

pub names_stay : (old : History) (events : List Event) → LeaveNames events → KeepsNames old (events ++ old)
names_stay old events leave = λ moment after before.
    let whole : events ++ old ≡ (before.events ++ after.events) ++ old =
    before.goes_on ∙ ap (λ (h : List Event). before.events ++ h) after.goes_on ∙ sym (append_assoc before.events after.events old) in
    let parts : events ≡ before.events ++ after.events = append_cancel_right events (before.events ++ after.events) old whole in
    ap names after.goes_on ∙ same_names after.events old (leave_behind before.events after.events (subst LeaveNames parts leave))
