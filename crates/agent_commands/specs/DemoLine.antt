-- The line that reports a demonstration.
use Rattle.std.specs.Prelude.{ℕ, List, ◌++◌, codes, decimal}
use Rattle.demo_run.specs.declared.show.Demo.{Demo}

unfoldable pub demo_line : Demo → List ℕ
demo_line demo =
    codes "rounds=" ++ decimal demo.rounds
    ++ codes " polls=" ++ decimal demo.polls
    ++ codes " stops=" ++ decimal demo.stops
    ++ codes " files=" ++ decimal demo.files
    ++ codes " lines=" ++ decimal demo.lines
    ++ codes " output=" ++ decimal demo.output
    ++ codes "\n"
