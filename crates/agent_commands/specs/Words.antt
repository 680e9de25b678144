-- Why words give no command, and what is told of it.
use Rattle.std.specs.Prelude.{◌≡◌, ◌⊎◌, ℕ, List, Option}
use Rattle.command_words.specs.Answers.{IsNoCommand}
use Rattle.outside.specs.World.{Told}
use Rattle.agent_commands.specs.Report.{GrowsByPart}
use Rattle.agent_commands.specs.Status.{fault_line, status_of}
use Rattle.agent_commands.specs.declared.fault.Fault.{Fault}
use Rattle.agent_commands.specs.declared.fault.Fault.TheVariants.{Usage, Memory}

-- they are no command, or memory ran out
abbrev pub IsWordsFault : List (List ℕ) → Fault → Type 0
IsWordsFault words fault = ((fault ≡ Usage) × IsNoCommand words) ⊎ (fault ≡ Memory)

-- That is the status, and the report is as it was or has a part of the fault's line more, from its front on.
pub record IsNotRun (words : List (List ℕ)) (status : ℕ) (report report_after : Option (List ℕ)) : Type 0 where
  pub fault : Fault
  pub cause : IsWordsFault words fault
  pub status_is : status ≡ status_of fault
  pub told : Told (GrowsByPart (fault_line fault)) report report_after
