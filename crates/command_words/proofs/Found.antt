-- What a command's argument is, by the rows of its matches.
use Rattle.std.proofs.Common.{◌≡◌, List, Option, Some, ap, ◌∙◌, codes}
use Rattle.std.specs.Prelude.{option_map, unwrap_or}
use Rattle.clap.specs.Matches.{first_value}
use Rattle.clap.specs.Walk.{Row, Text, first_of, rows_of}
use Rattle.clap.proofs.WalkLemmas.{first_value-rows}
use Rattle.clap.specs.declared.parser.matches.Found.{Found}

pub found_text : (entered : Option (Text × List Row)) (given : Found) (name : Text) (rows : List Row) (text : Text) → Some (rows_of given) ≡ option_map (λ p. p.1) entered
    → entered ≡ Some (name, rows) → first_of (codes "rounds") rows ≡ Some text → first_value given (codes "rounds") ≡ Some text
found_text entered given name rows text have is first =
    let same : Some (rows_of given) ≡ Some rows = have ∙ ap (option_map (λ p. p.1)) is in
    first_value-rows given (codes "rounds") ∙ ap (λ o. first_of (codes "rounds") (unwrap_or o rows)) same ∙ first
