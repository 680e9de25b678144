-- Why a text makes no cutter.
use Rattle.std.specs.Prelude.{◌≡◌, ℕ, List, false, ⊤}
use Rattle.multiline.specs.Patterns.{is_pattern}
use Rattle.multiline.specs.declared.fault.PatternFault.{PatternFault}
use Rattle.multiline.specs.declared.fault.PatternFault.TheVariants.{Refused, Memory}

-- the text is no pattern, or there was no memory
abbrev pub IsPatternFault : List ℕ → PatternFault → Type 0
IsPatternFault source Refused = is_pattern source ≡ false
IsPatternFault source Memory = ⊤
