use Rattle.std.proofs.Common.{◌∙◌, ap}
use Rattle.std.specs.Prelude.{Some, None}
use Rattle.kept_lines.proofs.Times.{unstamped, stamped_time, none_stamped}
use Rattle.kept_lines.proofs.observed.time_in.Goals as goal

pub returns-then-not-stamped-clause-told : goal.returns-then-not-stamped-clause-told
returns-then-not-stamped-clause-told c = λ time e small h. unstamped time (e ∙ c.if-not-stamped.true)

pub returns-in-Some-clause-told : goal.returns-in-Some-clause-told
returns-in-Some-clause-told c = λ time e small h. ap Some (stamped_time c.args.line.now (Some c.in-Some.time) c.in-Some.ensures time (e ∙ c.if-not-stamped.false) small h)

pub returns-in-None-clause-told : goal.returns-in-None-clause-told
returns-in-None-clause-told c = λ time e small h.
    let same = stamped_time c.args.line.now None c.in-None.ensures time (e ∙ c.if-not-stamped.false) small h in
    none_stamped time same (e ∙ c.if-not-stamped.false)
