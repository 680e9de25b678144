use Rattle.std.proofs.Common.{◌+◌, length, Some}
use Rattle.checkpoint_store.proofs.CostLemmas.{change_cost}
use Rattle.checkpoint_store.specs.Limits.{newest}
use Rattle.checkpoint_store.specs.Parts.{checkpoint_of_parts}
use Rattle.checkpoint_store.specs.Spelling.{change_spelling}
use Rattle.checkpoint_journal.proofs.PutLemmas.{each_awaits, behind_crash, behind_put, behind_room, behind_next, costs_at_most, worn_out, worn_at, if_ok_at, if_ok_by}
use Rattle.checkpoint_journal.proofs.putting.put_behind.Goals as goal
use Rattle.checkpoint_journal.specs.Costs.{cost_of_rows}
use Rattle.checkpoint_journal.specs.JournalOf.{EndsWith}
use Rattle.checkpoint_journal.specs.Next.{IsNext, change_of_next}
use Rattle.checkpoint_journal.specs.Written.{appended, GainsChange, IsWorn}
use Rattle.slot_store.specs.Synced.{EachLeft, LeavesChanged}

pub append-requires-clause-stands : goal.append-requires-clause-stands
append-requires-clause-stands g c =
    each_awaits c.args.journal (checkpoint_of_parts c.args.next.now.checkpoint) (change_of_next c.args.next.now) c.requires.awaits

pub append-requires-clause-ends : goal.append-requires-clause-ends
append-requires-clause-ends g c =
    behind_room (checkpoint_of_parts c.args.next.now.checkpoint) c.args.next.now.changed.now c.args.journal.end c.requires.lawful c.requires.ends

pub returns-clause-put : goal.returns-clause-put
returns-clause-put g c =
    let images = g.D.Disk.meaning.images in
    let after = checkpoint_of_parts c.args.next.now.checkpoint in
    let change = change_of_next c.args.next.now in
    if_ok_by c.append.result (appended c.args.journal change)
    (λ next. EachLeft images c.append.new.disk (EndsWith next after))
    (LeavesChanged images (GainsChange c.args.journal change) c.args.disk.now c.append.new.disk)
    c.append.ensures.journal c.append.ensures.appended (behind_put c.args.journal after change c.requires.awaits)

pub returns-clause-next : goal.returns-clause-next
returns-clause-next g c =
    let after = checkpoint_of_parts c.args.next.now.checkpoint in
    let change = change_of_next c.args.next.now in
    if_ok_at c.append.result (appended c.args.journal change) (IsNext (Some c.args.journal) after change) c.append.ensures.journal
    (behind_next c.args.journal after change c.requires.short c.requires.not_due)

pub returns-clause-not_worn : goal.returns-clause-not_worn
returns-clause-not_worn g c = worn_out c.append.result (IsWorn (Some c.args.journal)) c.append.ensures.worn.1

pub returns-clause-crash : goal.returns-clause-crash
returns-clause-crash g c =
    behind_crash c.args.journal (checkpoint_of_parts c.args.next.now.checkpoint) (change_of_next c.args.next.now) c.requires.awaits c.requires.short.file c.append.ensures.crash

pub returns-clause-worn : goal.returns-clause-worn
returns-clause-worn g c sequence is =
    worn_at c.append.result (IsWorn (Some c.args.journal)) sequence c.append.ensures.worn.0 (c.append.ensures.worn_only sequence is).0 is

pub returns-clause-costs : goal.returns-clause-costs
returns-clause-costs g c =
    let change = change_of_next c.args.next.now in
    let written = g.D.Disk.meaning.written in
    costs_at_most c.append.result c.args.journal.slot.file (length (change_spelling newest change) + 18) (cost_of_rows change.rows)
    (written c.args.disk.now) (written c.append.new.disk) (change_cost newest change) c.append.ensures.counted
