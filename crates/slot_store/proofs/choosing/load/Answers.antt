use Rattle.std.proofs.Common.{Some, sym, ◌∙◌, ap}
use Rattle.slot_store.proofs.Choices.{chosen_payload_is}
use Rattle.slot_store.proofs.choosing.load.Goals as goal

pub returns-clause-chosen : goal.returns-clause-chosen
returns-clause-chosen g c told chosen =
    chosen_payload_is (g.D.Disk.meaning.images.seen c.args.disk.now) c.args.slot.now chosen ∙ sym (ap (λ bytes. Some bytes) (c.in_ok-bytes.ensures.bytes told))
