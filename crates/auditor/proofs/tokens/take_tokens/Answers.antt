use Rattle.std.proofs.lemmas.List.{take_rest}
use Rattle.pipeline.specs.Parts.{settings_of}
use Rattle.auditor.proofs.Taking.{none_taken, one_taken}
use Rattle.auditor.proofs.tokens.take_tokens.Goals as goal

pub taking-init : goal.taking-init
taking-init c = rw c.new-entries.ensures.items (none_taken (settings_of c.args.pipe.now) c.args.path.now c.args.before c.args.room c.args.bytes.now)

pub taking-preserved : goal.taking-preserved
taking-preserved c =
    let within = rw (take_rest c.args.bytes.now c.taking.at) at (rw c.in-Some.is at c.in_ok-token.ensures) in
    let grown = rw (take_rest c.args.bytes.now c.taking.at, c.settings-settings.ensures) at (c.in_ok-add_entry.ensures c.args.path.now c.in_ok-shared.ensures) in
    one_taken (settings_of c.args.pipe.now) c.args.path.now c.args.before c.args.room c.args.bytes.now c.taking.at c.taking.count c.taking.entries.items c.add_entry.new.entries.items c.in-Some.token
    within grown c.taking.invariant
