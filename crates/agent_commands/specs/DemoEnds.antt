-- The command `demo`: what its rounds show.
use Rattle.std.specs.Prelude.{ℕ, List, Option}
use Rattle.demo_run.specs.Shown.{IsDemo}
use Rattle.demo_run.specs.declared.show.Demo.{Demo}
use Rattle.outside.specs.World.{Told}
use Rattle.agent_commands.specs.DemoLine.{demo_line}
use Rattle.agent_commands.specs.Report.{Appends, GrowsByPart}
use Rattle.agent_commands.specs.Status.{fault_line}
use Rattle.agent_commands.specs.declared.fault.Fault.TheVariants.{Memory}

module _ (rounds : ℕ) (report report_after : Option (List ℕ)) where
  pub record TellsDemo : Type 0 where
    pub demo : Demo
    pub is_demo : IsDemo rounds demo
    pub told : Told (Appends (demo_line demo)) report report_after

  -- The report failed (9), or memory ran out before all of it was told (10).
  pub record TellsPart : Type 0 where
    pub demo : Demo
    pub is_demo : IsDemo rounds demo
    pub told : Told (GrowsByPart (demo_line demo)) report report_after

  pub data DemoEnds : ℕ → Type 0 where
    tells : TellsDemo → DemoEnds 0
    failed : TellsPart → DemoEnds 9
    no_memory : TellsPart → DemoEnds 10
    -- memory ran out before all rounds were played
    unplayed : Told (GrowsByPart (fault_line Memory)) report report_after → DemoEnds 10
