use Rattle.std.proofs.Common.{Some}
use Rattle.lifetimes.proofs.PollLemmas.{ready_same, disk_stopped, is_stopped, later_told, polled_later, since_told, telling_by}
use Rattle.lifetimes.proofs.TreeLemmas.{tree_polled}
use Rattle.lifetimes.specs.Ended.{history_of}
use Rattle.lifetimes.specs.Inner.Past.{Waits, IsTreeAt, IsTreePolled, polled}
use Rattle.lifetimes.specs.Script.{Halt, is_early}
use Rattle.lifetimes.specs.Stopped.{halt_of}
use Rattle.lifetimes.proofs.polling.poll_stopped.Goals as goal
use Rattle.lifetimes.proofs.polling.poll_stopped.Goals.{After-next_of}

pub poll-polled-requires-clause-session : goal.poll-polled-requires-clause-session
poll-polled-requires-clause-session c = c.requires.session_is

pub poll-polled-requires-clause-stands : goal.poll-polled-requires-clause-stands
poll-polled-requires-clause-stands c = ready_same c.args.session c.args.disk.now c.fuse.new.self c.fuse.ensures.history c.requires.stands

went : (c : After-next_of) → (waits : Waits) → IsTreeAt waits.plan waits.tree c.args.tree.now → IsTreePolled waits c.args.tree.now c.clear_plans.new.self
went c waits at = tree_polled waits c.args.tree.now c.poll-polled.new.tree c.clear_plans.new.self c.poll-polled.ensures.tree c.tree_keeps_its_terms.ensures.followed c.tree_keeps_its_terms.ensures.bound c.clear_plans.ensures.cleared at

pub returns-in_err-next_of-clause-tree : goal.returns-in_err-next_of-clause-tree
returns-in_err-next_of-clause-tree c = went (goal.at.returns-in_err-next_of-clause-tree c).After-next_of

pub returns-in_err-crash-clause-tree : goal.returns-in_err-crash-clause-tree
returns-in_err-crash-clause-tree c = went (goal.at.returns-in_err-crash-clause-tree c).After-next_of

pub returns-clause-tree : goal.returns-clause-tree
returns-clause-tree c = went (goal.at.returns-clause-tree c).After-next_of

pub returns-clause-disk : goal.returns-clause-disk
returns-clause-disk c = λ rules waits past may.
    let halt : Halt = halt_of c.args.stopping in
    let telling = telling_by c.args.tree.now c.poll-polled.new.tree c.poll-polled.ensures.tree may.tree_is.told in
    c.in_ok-crash.ensures.left rules (polled past (history_of c.clear_plans.new.self) (is_early (Some halt))) waits.disk
    (disk_stopped rules waits past c.args.session c.args.tree.now c.poll-polled.new.tree c.clear_plans.new.self c.args.disk.now c.fuse.new.self c.poll-polled.new.disk halt c.requires may
    c.fuse.ensures.history c.fuse.ensures.limit c.poll-polled.ensures.crash c.poll-polled.ensures.early
    (since_told c.args.session c.args.tree.now c.poll-polled.new.tree c.fuse.new.self c.poll-polled.new.disk telling c.poll-polled.ensures.standing) (later_told c.args.tree.now c.poll-polled.new.tree telling c.poll-polled.ensures.tree)
    c.poll-polled.ensures.terms.limit c.disk_keeps_its_terms.ensures.limit c.clear_plans.ensures.cleared)

pub returns-clause-stopped : goal.returns-clause-stopped
returns-clause-stopped c =
    is_stopped (halt_of c.args.stopping) c.args.disk.now c.fuse.new.self c.poll-polled.new.disk c.crash.new.disk c.fuse.ensures.history (polled_later c.args.session c.args.tree.now c.poll-polled.new.tree c.fuse.new.self c.poll-polled.new.disk c.poll-polled.ensures.crash) c.fuse.ensures.limit
    c.poll-polled.ensures.terms.limit c.disk_keeps_its_terms.ensures.limit c.in_ok-crash.ensures.outcome
