use Rattle.std.proofs.Common.{◌≡◌, ℕ, List, Some, None, ap, ◌∙◌, codes, subst}
use Rattle.std.specs.Prelude.{unwrap_or}
use Rattle.clap.specs.Matches.{found_of}
use Rattle.clap.specs.Words.{subcommand_rows_of}
use Rattle.command_words.specs.Rounds.{SpellsRounds}
use Rattle.command_words.proofs.Found.{found_text}
use Rattle.command_words.proofs.reading.named.Goals as goal

pub returns-in_err-get_str-in-demo-clause-demo : goal.returns-in_err-get_str-in-demo-clause-demo
returns-in_err-get_str-in-demo-clause-demo c = λ rows text found given.
    let some = found_text (subcommand_rows_of c.args.matches.now) (found_of c.in_ok-name.given.now) (codes "demo") rows text c.in_ok-name.ensures.rows found given in
    let no : None ≡ Some text = c.in_err-get_str-in-demo.ensures ∙ some in
    absurd cc

pub returns-in_err-rounds_of-in-demo-clause-demo : goal.returns-in_err-rounds_of-in-demo-clause-demo
returns-in_err-rounds_of-in-demo-clause-demo c = λ rows text found given.
    let some = found_text (subcommand_rows_of c.args.matches.now) (found_of c.in_ok-name.given.now) (codes "demo") rows text c.in_ok-name.ensures.rows found given in
    let both : Some c.in_ok-get_str-in-demo.field-0.now ≡ Some text = c.in_ok-get_str-in-demo.ensures ∙ some in
    let same : c.in_ok-get_str-in-demo.field-0.now ≡ text = ap (λ o. unwrap_or o text) both in
    rw c.from_residual-in_err-rounds_of-in-demo.ensures (subst (λ (t : List ℕ). (rounds : ℕ) → SpellsRounds t rounds → ⊥) same c.in_err-rounds_of-in-demo.ensures)

pub returns-in_ok-rounds_of-in-demo-clause-demo : goal.returns-in_ok-rounds_of-in-demo-clause-demo
returns-in_ok-rounds_of-in-demo-clause-demo c = λ rows text found given.
    let some = found_text (subcommand_rows_of c.args.matches.now) (found_of c.in_ok-name.given.now) (codes "demo") rows text c.in_ok-name.ensures.rows found given in
    let both : Some c.in_ok-get_str-in-demo.field-0.now ≡ Some text = c.in_ok-get_str-in-demo.ensures ∙ some in
    let same : c.in_ok-get_str-in-demo.field-0.now ≡ text = ap (λ o. unwrap_or o text) both in
    subst (λ (t : List ℕ). SpellsRounds t c.in_ok-rounds_of-in-demo.field-0) same c.in_ok-rounds_of-in-demo.ensures
