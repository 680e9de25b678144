-- What the status of a demonstration tells, and what want of memory is for each command.
use Rattle.std.proofs.Common.{◌≡◌, ℕ, List, Option, refl, arith, inl, inr}
use Rattle.agent_commands.specs.DemoEnds.{DemoEnds, failed, no_memory, tells, unplayed}
use Rattle.agent_commands.specs.Status.{IsStatus}
use Rattle.agent_commands.specs.Words.{IsWordsFault}
use Rattle.agent_commands.specs.declared.fault.Fault.{Fault}
use Rattle.agent_commands.specs.declared.fault.Fault.TheVariants.{Memory}
use Rattle.command_words.specs.IsCommand.{IsCommand}
use Rattle.command_words.specs.declared.command.Command.{Command}

pub demo_status : (rounds : ℕ) (report report_after : Option (List ℕ)) (status : ℕ) → DemoEnds rounds report report_after status → IsStatus status × (status ≡ 2 → ⊥)
demo_status rounds report report_after _ (tells done) = (inl refl, λ two. omega (arith, two))
demo_status rounds report report_after _ (failed done) = (inr (inl refl), λ two. omega (arith, two))
demo_status rounds report report_after _ (no_memory done) = (inr (inr (Memory, refl)), λ two. omega (arith, two))
demo_status rounds report report_after _ (unplayed told) = (inr (inr (Memory, refl)), λ two. omega (arith, two))

pub demo_not_long : (rounds : ℕ) (report report_after : Option (List ℕ)) (status : ℕ) → DemoEnds rounds report report_after status → status ≡ 15 → ⊥
demo_not_long rounds report report_after _ (tells done) long = omega (arith, long)
demo_not_long rounds report report_after _ (failed done) long = omega (arith, long)
demo_not_long rounds report report_after _ (no_memory done) long = omega (arith, long)
demo_not_long rounds report report_after _ (unplayed told) long = omega (arith, long)

-- words that spell a command aren't refused
pub wants_memory : (words : List (List ℕ)) (fault : Fault) (command : Command) → IsWordsFault words fault → IsCommand words command → fault ≡ Memory
wants_memory words fault command (inl none) is = absurd (none.1 command is)
wants_memory words fault command (inr memory) is = memory
