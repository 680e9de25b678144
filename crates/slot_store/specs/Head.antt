-- What the head of an open frame says.
use Rattle.std.specs.Prelude.{ℕ, List, Option, Some, None, if◌then◌else◌}
use Rattle.slot_store.specs.Frame.{is_open_at, sequence_at, length_at}
use Rattle.slot_store.specs.declared.frame.Head.{Head}

unfoldable pub head_at : ℕ → List ℕ → Option Head
head_at place content = if is_open_at place content then Some (record { sequence = sequence_at place content; length = length_at place content }) else None
