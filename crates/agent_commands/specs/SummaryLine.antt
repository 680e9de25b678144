-- The line that reports a poll.
use Rattle.std.specs.Prelude.{ℕ, List, ◌++◌, codes, decimal}
use Rattle.poll_core.specs.declared.summary.Summary.{Summary}

unfoldable pub summary_line : Summary → List ℕ
summary_line summary =
    codes "files=" ++ decimal summary.files
    ++ codes " lines=" ++ decimal summary.lines
    ++ codes " left=" ++ decimal summary.left
    ++ codes " gone=" ++ decimal summary.gone
    ++ codes " failed=" ++ decimal summary.failed
    ++ codes " compressed=" ++ decimal summary.compressed
    ++ codes " shrunk=" ++ decimal summary.shrunk
    ++ codes " full=" ++ decimal summary.full
    ++ codes " deep=" ++ decimal summary.deep
    ++ codes " output=" ++ decimal summary.output
    ++ codes "\n"
