use Rattle.std.proofs.Common.{sym, ◌∙◌, ap}
use Rattle.std.specs.Prelude.{option_map}
use Rattle.slot_store.proofs.Choices.{slot_of, slot_in_head}
use Rattle.slot_store.proofs.choosing.open_slot.Goals as goal

pub returns-in-Some-clause-slot : goal.returns-in-Some-clause-slot
returns-in-Some-clause-slot g c told =
    ap (λ head. option_map (slot_of c.args.file) head) (sym c.in-Some.is ∙ c.in_ok-found.ensures.head told)
    ∙ sym (slot_in_head c.args.file (g.D.Disk.meaning.images.seen c.args.disk.now c.args.file))

pub returns-in-None-clause-slot : goal.returns-in-None-clause-slot
returns-in-None-clause-slot g c told =
    ap (λ head. option_map (slot_of c.args.file) head) (sym c.in-None.is ∙ c.in_ok-found.ensures.head told)
    ∙ sym (slot_in_head c.args.file (g.D.Disk.meaning.images.seen c.args.disk.now c.args.file))
