use Rattle.checkpoint_store.specs.Limits.{newest}
use Rattle.checkpoint_store.specs.Parts.{change_of_parts}
use Rattle.checkpoint_store.specs.Spelling.{change_spelling}
use Rattle.checkpoint_journal.proofs.WrittenLemmas.{put_alone, append_passes, append_keeps, append_leaves}
use Rattle.checkpoint_journal.proofs.journal.Journal.append.Goals as goal

pub returns-in_err-log-clause-crash : goal.returns-in_err-log-clause-crash
returns-in_err-log-clause-crash g c =
    append_passes c.args.self (change_of_parts c.args.change.now) c.log.result c.encode_change.new.out.items
    (record { log_is = c.log.ensures; spelled = record { newest_is = c.requires.newest; payload_is = put_alone (change_spelling newest (change_of_parts c.args.change.now)) c.in_ok-payload.payload.items c.encode_change.new.out.items c.in_ok-payload.ensures.items c.in_ok-encode_change.ensures } }) c.append.ensures.crash

pub returns-in_err-log-clause-early : goal.returns-in_err-log-clause-early
returns-in_err-log-clause-early g c fewer =
    append_keeps c.args.self (change_of_parts c.args.change.now) c.log.result c.encode_change.new.out.items
    (record { log_is = c.log.ensures; spelled = record { newest_is = c.requires.newest; payload_is = put_alone (change_spelling newest (change_of_parts c.args.change.now)) c.in_ok-payload.payload.items c.encode_change.new.out.items c.in_ok-payload.ensures.items c.in_ok-encode_change.ensures } }) (c.append.ensures.early fewer)

pub returns-clause-crash : goal.returns-clause-crash
returns-clause-crash g c =
    append_passes c.args.self (change_of_parts c.args.change.now) c.log.result c.encode_change.new.out.items
    (record { log_is = c.log.ensures; spelled = record { newest_is = c.requires.newest; payload_is = put_alone (change_spelling newest (change_of_parts c.args.change.now)) c.in_ok-payload.payload.items c.encode_change.new.out.items c.in_ok-payload.ensures.items c.in_ok-encode_change.ensures } }) c.append.ensures.crash

pub returns-clause-appended : goal.returns-clause-appended
returns-clause-appended g c =
    append_leaves c.args.self (change_of_parts c.args.change.now) c.log.result c.encode_change.new.out.items
    (record { log_is = c.log.ensures; spelled = record { newest_is = c.requires.newest; payload_is = put_alone (change_spelling newest (change_of_parts c.args.change.now)) c.in_ok-payload.payload.items c.encode_change.new.out.items c.in_ok-payload.ensures.items c.in_ok-encode_change.ensures } }) c.in_ok-log.ensures.appended
