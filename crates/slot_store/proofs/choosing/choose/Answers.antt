use Rattle.std.proofs.Common.{sym, ◌∙◌}
use Rattle.slot_store.proofs.Choices.{chosen_from}
use Rattle.slot_store.proofs.choosing.choose.Goals as goal

pub returns-clause-slot : goal.returns-clause-slot
returns-clause-slot g c told =
    c.greater_of.ensures.greater
    ∙ sym (chosen_from (g.D.Disk.meaning.images.seen c.args.disk.now) c.in_ok-first.first c.in_ok-second.second
    (sym (c.in_ok-first.ensures.slot told))
    (sym (rw c.in_ok-first.ensures.only_read.seen at (c.in_ok-second.ensures.slot (rw c.in_ok-first.ensures.only_read.tells told)))))
