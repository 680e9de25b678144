-- The bytes of a text, by how it lies in memory.
use Rattle.std.specs.Prelude.{ℕ, List}
use Rattle.std.specs.Rc.{rc_str_bytes}
use Rattle.entry_model.specs.declared.content.Content.{Content}
use Rattle.entry_model.specs.declared.content.Content.TheVariants.{Short, Counted}
use Rattle.entry_model.specs.declared.content.Counted as counted
use Rattle.entry_model.specs.declared.content.Counted.TheVariants.{Part, Line, Long}

abbrev pub bytes_counted : counted.Counted → List ℕ
bytes_counted (Part text) = text.value.bytes
bytes_counted (Line text) = text.value.bytes
bytes_counted (Long text) = rc_str_bytes text

abbrev pub bytes_in : Content → List ℕ
bytes_in (Short text) = text.bytes
bytes_in (Counted text) = bytes_counted text
