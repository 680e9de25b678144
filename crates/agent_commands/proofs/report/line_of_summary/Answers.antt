-- The fields, one after another, from the empty text on.
use Rattle.agent_commands.specs.SummaryLine.{summary_line}
use Rattle.agent_commands.proofs.report.line_of_summary.Goals as goal

pub returns : goal.returns
unfolding summary_line
returns c =
    rw (c.in_ok-push_str.ensures.bytes, c.in_ok-push_field-10.ensures, c.in_ok-push_field-9.ensures, c.from-8.ensures, c.in_ok-push_field-8.ensures, c.from-7.ensures, c.in_ok-push_field-7.ensures, c.from-6.ensures, c.in_ok-push_field-6.ensures, c.from-5.ensures, c.in_ok-push_field-5.ensures, c.from-4.ensures, c.in_ok-push_field-4.ensures, c.from-3.ensures, c.in_ok-push_field-3.ensures, c.from-2.ensures, c.in_ok-push_field-2.ensures, c.in_ok-push_field.ensures, c.from.ensures, c.new-line.ensures.bytes)
