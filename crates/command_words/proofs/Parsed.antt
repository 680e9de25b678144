-- What a parse by the program says of the words.
use Rattle.std.proofs.Common.{◌≡◌, List, [], true, refl, sym, subst}
use Rattle.clap.specs.Faults.{fault_of, is_simple_and_free}
use Rattle.clap.specs.Kinds.{HasKind}
use Rattle.clap.specs.Simple.{App, HasMatchesOf, subcommand_of, subcommand_rows_of}
use Rattle.clap.specs.Walk.{Text}
use Rattle.clap.specs.declared.error.Error.{Error}
use Rattle.clap.specs.declared.parser.matches.ArgMatches.{ArgMatches}
use Rattle.command_words.specs.Program.{program}

module _ (app : App) (words : List Text) (is : app ≡ program) where
  pub has_no_fault : (is_simple_and_free app ≡ true → fault_of app words ≡ []) → fault_of program words ≡ []
  has_no_fault = subst (λ (a : App). (is_simple_and_free a ≡ true → fault_of a words ≡ []) → fault_of program words ≡ []) (sym is) (λ h. h refl)

  pub has_fault : (error : Error) → (is_simple_and_free app ≡ true → HasKind (fault_of app words) error) → HasKind (fault_of program words) error
  has_fault error = subst (λ (a : App). (is_simple_and_free a ≡ true → HasKind (fault_of a words) error) → HasKind (fault_of program words) error) (sym is) (λ h. h refl)

  pub has_entered : (matches : ArgMatches) → HasMatchesOf app words matches → subcommand_rows_of matches ≡ subcommand_of program words
  has_entered matches = subst (λ (a : App). HasMatchesOf a words matches → subcommand_rows_of matches ≡ subcommand_of program words) (sym is) (λ h. (h refl).1)
