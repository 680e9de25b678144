use Rattle.std.proofs.Common.{Option, ◌∙◌}
use Rattle.std.specs.Option.{option_copied}
use Rattle.record_log.specs.declared.log.Log.{Log}
use Rattle.checkpoint_store.specs.Limits.{newest}
use Rattle.checkpoint_store.specs.Parts.{checkpoint_of_parts}
use Rattle.checkpoint_store.specs.Spelling.{checkpoint_spelling}
use Rattle.checkpoint_journal.proofs.WrittenLemmas.{put_alone, IsRewrite, rewrite_stands, rewrite_passes, rewrite_keeps, rewrite_leaves}
use Rattle.checkpoint_journal.proofs.rewriting.rewrite.Goals as goal

pub returns-in_err-log-clause-crash : goal.returns-in_err-log-clause-crash
returns-in_err-log-clause-crash g c stands =
    let before = c.args.before in
    let checkpoint = checkpoint_of_parts c.args.checkpoint.now in
    let terms : IsRewrite before checkpoint (option_copied c.as_ref.result) c.encode.new.out.items = record { lawful = c.requires; log_is = ◌∙◌ {A = Option Log} c.as_ref.ensures.value c.in_ok-before.ensures.log; payload_is = put_alone (checkpoint_spelling newest checkpoint) c.in_ok-payload.payload.items c.encode.new.out.items c.in_ok-payload.ensures.items c.in_ok-encode.ensures } in
    rewrite_passes before checkpoint (option_copied c.as_ref.result) c.encode.new.out.items terms (c.rewrite.ensures.crash (rewrite_stands before checkpoint (option_copied c.as_ref.result) c.encode.new.out.items terms stands))

pub returns-in_err-log-clause-early : goal.returns-in_err-log-clause-early
returns-in_err-log-clause-early g c fewer stands =
    let before = c.args.before in
    let checkpoint = checkpoint_of_parts c.args.checkpoint.now in
    let terms : IsRewrite before checkpoint (option_copied c.as_ref.result) c.encode.new.out.items = record { lawful = c.requires; log_is = ◌∙◌ {A = Option Log} c.as_ref.ensures.value c.in_ok-before.ensures.log; payload_is = put_alone (checkpoint_spelling newest checkpoint) c.in_ok-payload.payload.items c.encode.new.out.items c.in_ok-payload.ensures.items c.in_ok-encode.ensures } in
    rewrite_keeps before checkpoint (option_copied c.as_ref.result) c.encode.new.out.items terms (c.rewrite.ensures.early fewer (rewrite_stands before checkpoint (option_copied c.as_ref.result) c.encode.new.out.items terms stands))

pub returns-clause-crash : goal.returns-clause-crash
returns-clause-crash g c stands =
    let before = c.args.before in
    let checkpoint = checkpoint_of_parts c.args.checkpoint.now in
    let terms : IsRewrite before checkpoint (option_copied c.as_ref.result) c.encode.new.out.items = record { lawful = c.requires; log_is = ◌∙◌ {A = Option Log} c.as_ref.ensures.value c.in_ok-before.ensures.log; payload_is = put_alone (checkpoint_spelling newest checkpoint) c.in_ok-payload.payload.items c.encode.new.out.items c.in_ok-payload.ensures.items c.in_ok-encode.ensures } in
    rewrite_passes before checkpoint (option_copied c.as_ref.result) c.encode.new.out.items terms (c.rewrite.ensures.crash (rewrite_stands before checkpoint (option_copied c.as_ref.result) c.encode.new.out.items terms stands))

pub returns-clause-rewritten : goal.returns-clause-rewritten
returns-clause-rewritten g c stands =
    let before = c.args.before in
    let checkpoint = checkpoint_of_parts c.args.checkpoint.now in
    let terms : IsRewrite before checkpoint (option_copied c.as_ref.result) c.encode.new.out.items = record { lawful = c.requires; log_is = ◌∙◌ {A = Option Log} c.as_ref.ensures.value c.in_ok-before.ensures.log; payload_is = put_alone (checkpoint_spelling newest checkpoint) c.in_ok-payload.payload.items c.encode.new.out.items c.in_ok-payload.ensures.items c.in_ok-encode.ensures } in
    rewrite_leaves before checkpoint (option_copied c.as_ref.result) c.encode.new.out.items terms (c.in_ok-log.ensures.rewritten (rewrite_stands before checkpoint (option_copied c.as_ref.result) c.encode.new.out.items terms stands))
