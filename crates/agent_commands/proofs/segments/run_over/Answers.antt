use Rattle.std.proofs.Common.{ℕ, ◌∙◌, ap, sym}
use Rattle.command_words.specs.Words.{texts}
use Rattle.out_segments.specs.Segments.{segments, segments_meaning}
use Rattle.out_segments.specs.SegmentedMeaning.{parts_of, size_of}
use Rattle.agent_commands.specs.Moment.{meanings}
use Rattle.agent_commands.proofs.PartsLemmas.{ends_over, made_segments}
use Rattle.agent_commands.proofs.segments.run_over.Goals as goal

pub returns-clause-runs : goal.returns-clause-runs
returns-clause-runs g c =
    let run = c.run_agent-status.ensures in
    let disk = c.new-disk.result in
    let begins = made_segments c.new-files.result (parts_of disk) c.args.parts (size_of disk) 16777216 c.new-files.ensures c.new-disk.ensures.parts c.new-disk.ensures.size in
    let ends = sym c.into_parts.ensures.parts ∙ ap (λ (n : ℕ). segments c.into_parts.result n) c.requires.size in
    ends_over (meanings g.T.Tree.meaning (segments_meaning g.P.Parts.meaning) g.K.Sink.meaning g.C.Clock.meaning) g.S.Source.meaning (texts c.args.words.now) c.run_agent-status.result
    c.args.tree.now c.run_agent-status.new.tree c.args.report.now c.run_agent-status.new.report c.args.clock.now c.run_agent-status.new.clock c.args.control.now c.run_agent-status.new.control
    c.new-files.result c.run_agent-status.new.disk (segments c.args.parts 16777216) (segments c.into_parts.result 16777216) begins ends
    (record {
      answers = run.answers;
      once = run.once;
      once_crash = run.once_crash;
      follow = run.follow;
      adopt = run.adopt;
      adopt_crash = run.adopt_crash;
      audit = run.audit;
      audit_agrees = run.audit_agrees;
      audit_only_read = run.audit_only_read;
      committed = run.committed;
      only_read = run.only_read;
      standing = run.standing;
      disk_failed = run.disk_failed;
      disk_stood = run.disk_stood;
      control_failed = run.control_failed;
      control_stood = run.control_stood;
      report_failed = run.report_failed;
      report_stood = run.report_stood;
      control_long = run.control_long;
      control_taken = run.control_taken;
      control_untouched = run.control_untouched;
      tree_untouched = run.tree_untouched;
      clock_untouched = run.clock_untouched;
    })

pub returns-clause-kept : goal.returns-clause-kept
returns-clause-kept g c = c.into_parts.ensures.kept
