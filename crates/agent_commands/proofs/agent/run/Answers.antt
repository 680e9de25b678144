use Rattle.agent_commands.specs.Moment.{meanings}
use Rattle.outside.proofs.Passing.{passes_none}
use Rattle.agent_commands.proofs.AuditLemmas.{read_stands_later}
use Rattle.agent_commands.proofs.DemoLemmas.{demo_status, demo_not_long}
use Rattle.agent_commands.proofs.StandLemmas.{all_stands, same_stands}
use Rattle.agent_commands.proofs.StatusLemmas.{adopt_not_long, adopt_status, audit_not_long, audit_status, committed_status, follow_status, once_not_long, once_status, pipe_status}
use Rattle.agent_commands.proofs.agent.run.Goals as goal

-- ---- once

pub returns-in-Once-clause-answers : goal.returns-in-Once-clause-answers
returns-in-Once-clause-answers g c = (once_status (meanings g.T.Tree.meaning g.D.Disk.meaning g.K.Sink.meaning g.C.Clock.meaning) _ _ _ c.once.ensures.ends).0

pub returns-in-Once-clause-no_usage : goal.returns-in-Once-clause-no_usage
returns-in-Once-clause-no_usage g c = (once_status (meanings g.T.Tree.meaning g.D.Disk.meaning g.K.Sink.meaning g.C.Clock.meaning) _ _ _ c.once.ensures.ends).1

pub returns-in-Once-clause-control_long : goal.returns-in-Once-clause-control_long
returns-in-Once-clause-control_long g c = λ is. absurd (once_not_long (meanings g.T.Tree.meaning g.D.Disk.meaning g.K.Sink.meaning g.C.Clock.meaning) _ _ _ c.once.ensures.ends is)

-- ---- follow

pub returns-in-Follow-clause-answers : goal.returns-in-Follow-clause-answers
returns-in-Follow-clause-answers g c = (follow_status (meanings g.T.Tree.meaning g.D.Disk.meaning g.K.Sink.meaning g.C.Clock.meaning) _ _ _ _ _ c.follow.ensures.ends).0

pub returns-in-Follow-clause-no_usage : goal.returns-in-Follow-clause-no_usage
returns-in-Follow-clause-no_usage g c = (follow_status (meanings g.T.Tree.meaning g.D.Disk.meaning g.K.Sink.meaning g.C.Clock.meaning) _ _ _ _ _ c.follow.ensures.ends).1

-- ---- adopt

pub returns-in-Adopt-clause-answers : goal.returns-in-Adopt-clause-answers
returns-in-Adopt-clause-answers g c = (adopt_status g.D.Disk.meaning.images _ _ _ _ _ c.adopt.ensures.ends).0

pub returns-in-Adopt-clause-no_usage : goal.returns-in-Adopt-clause-no_usage
returns-in-Adopt-clause-no_usage g c = (adopt_status g.D.Disk.meaning.images _ _ _ _ _ c.adopt.ensures.ends).1

pub returns-in-Adopt-clause-control_long : goal.returns-in-Adopt-clause-control_long
returns-in-Adopt-clause-control_long g c = λ is. absurd (adopt_not_long g.D.Disk.meaning.images _ _ _ _ _ c.adopt.ensures.ends is)

pub returns-in-Adopt-clause-standing : goal.returns-in-Adopt-clause-standing
returns-in-Adopt-clause-standing g c = all_stands g.D.Disk.meaning.images c.args.disk.now c.adopt.new.disk (g.T.Tree.meaning.world c.args.tree.now) c.adopt.ensures.standing

-- ---- audit

pub returns-in-Audit-clause-answers : goal.returns-in-Audit-clause-answers
returns-in-Audit-clause-answers g c = (audit_status g.T.Tree.meaning g.D.Disk.meaning g.K.Sink.meaning _ _ c.audit.ensures.ends).0

pub returns-in-Audit-clause-no_usage : goal.returns-in-Audit-clause-no_usage
returns-in-Audit-clause-no_usage g c = (audit_status g.T.Tree.meaning g.D.Disk.meaning g.K.Sink.meaning _ _ c.audit.ensures.ends).1

pub returns-in-Audit-clause-control_long : goal.returns-in-Audit-clause-control_long
returns-in-Audit-clause-control_long g c = λ is. absurd (audit_not_long g.T.Tree.meaning g.D.Disk.meaning g.K.Sink.meaning _ _ c.audit.ensures.ends is)

pub returns-in-Audit-clause-standing : goal.returns-in-Audit-clause-standing
returns-in-Audit-clause-standing g c = read_stands_later g.D.Disk.meaning.images c.args.disk.now c.audit.new.disk (g.T.Tree.meaning.world c.args.tree.now) (g.T.Tree.meaning.world c.audit.new.tree) c.audit.ensures.later (λ from image early left. g.met.D.Disk.counts_now c.args.disk.now from image early left) c.audit.ensures.only_read.crash

-- ---- committed

pub returns-in-Committed-clause-answers : goal.returns-in-Committed-clause-answers
returns-in-Committed-clause-answers g c = (committed_status g.D.Disk.meaning g.K.Sink.meaning _ _ _ _ c.committed.ensures.ends).0

pub returns-in-Committed-clause-no_usage : goal.returns-in-Committed-clause-no_usage
returns-in-Committed-clause-no_usage g c = (committed_status g.D.Disk.meaning g.K.Sink.meaning _ _ _ _ c.committed.ensures.ends).1

pub returns-in-Committed-clause-standing : goal.returns-in-Committed-clause-standing
returns-in-Committed-clause-standing g c = same_stands g.D.Disk.meaning.images c.args.disk.now c.committed.new.disk (g.T.Tree.meaning.world c.args.tree.now) (λ from image early left. g.met.D.Disk.counts_now c.args.disk.now from image early left) c.committed.ensures.only_read.crash

-- ---- pipe

pub returns-in-Pipe-clause-answers : goal.returns-in-Pipe-clause-answers
returns-in-Pipe-clause-answers g c = (pipe_status g.D.Disk.meaning g.C.Clock.meaning _ _ _ _ c.pipe.ensures.ends).0

pub returns-in-Pipe-clause-no_usage : goal.returns-in-Pipe-clause-no_usage
returns-in-Pipe-clause-no_usage g c = (pipe_status g.D.Disk.meaning g.C.Clock.meaning _ _ _ _ c.pipe.ensures.ends).1

pub returns-in-Pipe-clause-standing : goal.returns-in-Pipe-clause-standing
returns-in-Pipe-clause-standing g c = same_stands g.D.Disk.meaning.images c.args.disk.now c.pipe.new.disk (g.T.Tree.meaning.world c.args.tree.now) (λ from image early left. g.met.D.Disk.counts_now c.args.disk.now from image early left) c.pipe.ensures.only_read.crash

-- ---- demo

pub returns-in-Demo-clause-answers : goal.returns-in-Demo-clause-answers
returns-in-Demo-clause-answers g c = (demo_status _ _ _ _ c.show_demo.ensures.ends).0

pub returns-in-Demo-clause-no_usage : goal.returns-in-Demo-clause-no_usage
returns-in-Demo-clause-no_usage g c = (demo_status _ _ _ _ c.show_demo.ensures.ends).1

pub returns-in-Demo-clause-control_long : goal.returns-in-Demo-clause-control_long
returns-in-Demo-clause-control_long g c = λ is. absurd (demo_not_long _ _ _ _ c.show_demo.ensures.ends is)

pub returns-in-Demo-clause-standing : goal.returns-in-Demo-clause-standing
returns-in-Demo-clause-standing g c = same_stands g.D.Disk.meaning.images c.args.disk.now c.args.disk.now (g.T.Tree.meaning.world c.args.tree.now) (λ from image early left. g.met.D.Disk.counts_now c.args.disk.now from image early left) (passes_none c.args.disk.now)
