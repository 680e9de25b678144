-- What cuts the bytes of a file into tokens.
use Rattle.std.specs.Prelude.{◌≡◌, ⊤, true, false}
use Rattle.multiline.specs.Cutting.{Cutting, starting, ending}
use Rattle.multiline.specs.Patterns.{is_pattern}
use Rattle.pipeline.specs.declared.fault.BuildFault.{BuildFault}
use Rattle.pipeline.specs.declared.fault.BuildFault.TheVariants as fault
use Rattle.pipeline.specs.declared.splitter.Splitter.{Splitter}
use Rattle.pipeline.specs.declared.splitter.Splitter.TheVariants as splitter
use Rattle.settings_text.specs.declared.settings.Multiline.{Multiline}
use Rattle.settings_text.specs.declared.settings.Multiline.TheVariants.{Lines, Start, End}

abbrev pub said_by : Cutting → Multiline
said_by (starting pattern) = Start pattern
said_by (ending pattern) = End pattern

-- the lines that a splitter takes together
abbrev pub multiline_of : Splitter → Multiline
multiline_of splitter.Lines = Lines
multiline_of (splitter.Several cutter) = said_by cutter

-- the text at the key is a pattern, where there is one
abbrev pub HasPattern : Multiline → Type 0
HasPattern Lines = ⊤
HasPattern (Start pattern) = is_pattern pattern ≡ true
HasPattern (End pattern) = is_pattern pattern ≡ true

-- the text at the key is no pattern
abbrev pub HasNoPattern : Multiline → Type 0
HasNoPattern Lines = ⊥
HasNoPattern (Start pattern) = is_pattern pattern ≡ false
HasNoPattern (End pattern) = is_pattern pattern ≡ false

-- why there is no splitter
abbrev pub IsMultilineFault : Multiline → BuildFault → Type 0
IsMultilineFault multiline fault.Multiline = HasNoPattern multiline
IsMultilineFault multiline fault.Memory = ⊤
IsMultilineFault multiline other = ⊥
