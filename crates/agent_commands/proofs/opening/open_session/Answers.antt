use Rattle.std.proofs.lemmas.Result.{err_from_is_err_and}
use Rattle.agent_commands.proofs.FaultLemmas.{opening_untouched, read_reopens, reads_then_reopens}
use Rattle.agent_commands.proofs.opening.open_session.Goals as goal

pub returns-in_err-settings-clause-crash : goal.returns-in_err-settings-clause-crash
returns-in_err-settings-clause-crash g c = read_reopens _ _ _ c.read_settings.ensures.only_read.crash

pub returns-in_err-session-clause-untouched : goal.returns-in_err-session-clause-untouched
returns-in_err-session-clause-untouched g c =
    let p = err_from_is_err_and c.from_residual-in_err-session.result c.from_residual-in_err-session.ensures.1 in
    rw (p.1, p.2) (opening_untouched g.D.Disk.meaning.images c.args.disk.now c.read_settings.new.disk c.in_err-session.field-0.0 c.open.new.disk c.read_settings.ensures.only_read.crash
    c.in_err-session.ensures.before_the_disk (λ contents. (c.in_err-session.ensures.untouched contents).0))

pub returns-in_err-session-clause-crash : goal.returns-in_err-session-clause-crash
returns-in_err-session-clause-crash g c = reads_then_reopens _ _ _ _ c.read_settings.ensures.only_read.crash c.open.ensures.crash

pub returns-clause-crash : goal.returns-clause-crash
returns-clause-crash g c = reads_then_reopens _ _ _ _ c.read_settings.ensures.only_read.crash c.open.ensures.crash
