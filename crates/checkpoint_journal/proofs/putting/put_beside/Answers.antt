use Rattle.std.proofs.Common.{◌+◌, length, arith}
use Rattle.checkpoint_store.specs.Limits.{newest}
use Rattle.checkpoint_store.specs.Parts.{checkpoint_of_parts}
use Rattle.checkpoint_store.specs.Spelling.{checkpoint_spelling}
use Rattle.checkpoint_journal.proofs.PutLemmas.{each_stands, beside_crash, beside_early, beside_next, costs_at_most, worn_out, worn_at, if_ok_at, if_ok_by}
use Rattle.checkpoint_journal.proofs.putting.put_beside.Goals as goal
use Rattle.checkpoint_journal.specs.JournalOf.{EndsWith}
use Rattle.checkpoint_journal.specs.Next.{IsNext, change_of_next}
use Rattle.checkpoint_journal.specs.Written.{started, written_file, IsWorn, StandsIn}
use Rattle.slot_store.specs.Synced.{EachLeft}

pub returns-clause-put : goal.returns-clause-put
returns-clause-put g c =
    let images = g.D.Disk.meaning.images in
    let after = checkpoint_of_parts c.args.next.now.checkpoint in
    let next = started c.args.journal after in
    if_ok_by c.rewrite.result next
    (λ found. EachLeft images c.rewrite.new.disk (EndsWith found after))
    (EachLeft images c.args.disk.now (StandsIn c.args.journal) → EachLeft images c.rewrite.new.disk (EndsWith next after))
    c.rewrite.ensures.journal c.rewrite.ensures.rewritten
    (λ rewritten. rewritten (each_stands c.args.journal after (change_of_next c.args.next.now) c.requires.awaits))

pub returns-clause-next : goal.returns-clause-next
returns-clause-next g c =
    let after = checkpoint_of_parts c.args.next.now.checkpoint in
    let change = change_of_next c.args.next.now in
    if_ok_at c.rewrite.result (started c.args.journal after) (IsNext c.args.journal after change) c.rewrite.ensures.journal
    (beside_next c.args.journal after change c.requires.lawful c.requires.due)

pub returns-clause-not_worn : goal.returns-clause-not_worn
returns-clause-not_worn g c = worn_out c.rewrite.result (IsWorn c.args.journal) c.rewrite.ensures.worn.1

pub returns-clause-crash : goal.returns-clause-crash
returns-clause-crash g c =
    let after = checkpoint_of_parts c.args.next.now.checkpoint in
    beside_crash c.args.journal after (c.rewrite.ensures.crash (each_stands c.args.journal after (change_of_next c.args.next.now) c.requires.awaits))

pub returns-clause-early : goal.returns-clause-early
returns-clause-early g c fewer =
    let after = checkpoint_of_parts c.args.next.now.checkpoint in
    beside_early c.args.journal after (c.rewrite.ensures.early fewer (each_stands c.args.journal after (change_of_next c.args.next.now) c.requires.awaits))

pub returns-clause-worn : goal.returns-clause-worn
returns-clause-worn g c sequence is =
    worn_at c.rewrite.result (IsWorn c.args.journal) sequence c.rewrite.ensures.worn.0 (c.rewrite.ensures.worn_only sequence is).0 is

pub returns-clause-costs : goal.returns-clause-costs
returns-clause-costs g c =
    let most = length (checkpoint_spelling newest (checkpoint_of_parts c.args.next.now.checkpoint)) + 18 in
    let written = g.D.Disk.meaning.written in
    costs_at_most c.rewrite.result (written_file c.args.journal) most most (written c.args.disk.now) (written c.rewrite.new.disk) (omega arith) c.rewrite.ensures.counted
