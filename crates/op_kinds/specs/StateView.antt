-- What a state in memory is.
use Rattle.op_kinds.specs.Kept.{Kept, nothing, groups}
use Rattle.op_kinds.specs.declared.state.Form.{Form}
use Rattle.op_kinds.specs.declared.state.Form.TheVariants.{Nothing, Groups}

abbrev pub kept_of : Form → Kept
kept_of Nothing = nothing
kept_of (Groups open_now) = groups open_now
