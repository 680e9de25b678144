use Rattle.std.proofs.Common.{◌≡◌, ◌+◌, ◌-◌, ◌≤◌}
use Rattle.file_pass.specs.TreeTerms.{GoesLater}
use Rattle.outside.specs.Crash.{Passes}
use Rattle.outside.specs.World.{Told}
use Rattle.poll_core.specs.IsSession.{IsSession}
use Rattle.poll_core.specs.SessionParts.{rules_of_session}
use Rattle.poll_core.specs.Since.{KeepsStandingSince}
use Rattle.poll_core.specs.StandsOn.{StandsOn}
use Rattle.agent_commands.specs.Control.{max_control, Spends}
use Rattle.agent_commands.specs.Grows.{GrowsBy}
use Rattle.agent_commands.specs.Moment.{meanings, moment}
use Rattle.agent_commands.proofs.FollowLemmas.{LeadsFrom}
use Rattle.agent_commands.proofs.follow.serve.Given as goal

-- the session stands on the disk, and what is done from this line on is done from the first on
abbrev pub invariant-loop-report : goal.invariant-loop-report
invariant-loop-report g l =
    let trees = g.T.Tree.meaning in
    let disks = g.D.Disk.meaning in
    let sources = g.S.Source.meaning in
    let sinks = g.K.Sink.meaning in
    record {
      session : IsSession l.session;
      stands : StandsOn disks.images l.session l.disk;
      rules : rules_of_session l.session ≡ rules_of_session l.fn.session;
      counted : 1 ≤ l.number;
      within : l.left + l.number ≤ max_control + 1;
      leads : LeadsFrom (meanings trees disks sinks g.C.Clock.meaning) l.fn.session (sources.rest l.fn.control) (moment l.fn.tree l.fn.disk l.fn.report l.fn.clock) l.number l.left l.session (sources.rest l.control) (moment l.tree l.disk l.report l.clock);
      crash : Passes disks.images (GrowsBy (l.number - 1)) l.fn.disk l.disk;
      standing : Told (KeepsStandingSince disks.images (rules_of_session l.fn.session) l.fn.disk l.disk) (trees.world l.fn.tree) (trees.world l.tree);
      goes : Told GoesLater (trees.world l.fn.tree) (trees.world l.tree);
      disk_stood : disks.faults l.disk ≡ disks.faults l.fn.disk;
      control_stood : sources.faults l.control ≡ sources.faults l.fn.control;
      report_stood : sinks.faults l.report ≡ sinks.faults l.fn.report;
      spent : Told (Spends max_control l.left) (sources.rest l.fn.control) (sources.rest l.control);
    }

abbrev pub decreases-loop-report : goal.decreases-loop-report
decreases-loop-report g l = l.left
