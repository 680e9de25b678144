-- The letters of directives are those of the table.
use Rattle.std.proofs.Common.{◌≡◌, ℕ, [], ◌∷◌, ◌==◌, ◌||◌, is_some, arith, bytes_eq}
use Rattle.std.proofs.lemmas.Bool.Decides.{nat_tests}
use Rattle.case_table.specs.Rows.{first_code}
use Rattle.case_table.specs.Tables.{directive_table}
use Rattle.time_layout.specs.LayoutText.{parts_of}

pub letters_are_listed : (letter : ℕ) → is_some (parts_of letter) ≡ is_some (first_code (bytes_eq (37 ∷ letter ∷ [])) directive_table) || (letter == 37)
letters_are_listed letter = grind (arith, nat_tests)
