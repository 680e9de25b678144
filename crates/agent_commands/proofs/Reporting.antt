-- How a report grows by a line.
use Rattle.std.proofs.Common.{◌≡◌, ℕ, List, ◌++◌, length, sym, ◌∙◌, ap, arith, append_assoc}
use Rattle.std.specs.Prelude.{Option, Result, Ok, Err}
use Rattle.std.proofs.lemmas.List.{take_all}
use Rattle.outside.specs.World.{Told}
use Rattle.outside.specs.Stream.{Grows}
use Rattle.outside.specs.declared.fault.CallFault.{CallFault}
use Rattle.outside.proofs.Telling.{told_weaker}
use Rattle.agent_commands.specs.Report.{GrowsByPart}

grows_part : (line : List ℕ) (result : Result Unit CallFault) (old new : List ℕ) → Grows line result old new → GrowsByPart line old new
grows_part line (Ok x) old new grows = (length line, grows ∙ ap (λ l. old ++ l) (sym (take_all (length line) line (omega arith))))
grows_part line (Err fault) old new grows = grows

pub grows_part_told : (line : List ℕ) (result : Result Unit CallFault) (old new : Option (List ℕ)) → Told (Grows line result) old new → Told (GrowsByPart line) old new
grows_part_told line result old new = told_weaker _ _ old new (grows_part line result)

-- a text with a tail of three parts
pub joined_tail : (text a b c : List ℕ) → text ++ (a ++ (b ++ c)) ≡ ((text ++ a) ++ b) ++ c
joined_tail text a b c = sym (append_assoc (text ++ a) b c ∙ append_assoc text a (b ++ c))

-- a text of three parts
pub joined_words : (text a b : List ℕ) → text ++ (a ++ b) ≡ (text ++ a) ++ b
joined_words text a b = sym (append_assoc text a b)
