use Rattle.entry_model.proofs.Places.{filtered_ascend}
use Rattle.entry_model.proofs.fields.TextMap.retain.Goals as goal

pub invariant_of-self : goal.invariant_of-self
invariant_of-self g c =
    let kept = c.retain.ensures.filtered in
    rw kept.4 (filtered_ascend kept.0 c.self.inside.members.items c.self.invariant)
