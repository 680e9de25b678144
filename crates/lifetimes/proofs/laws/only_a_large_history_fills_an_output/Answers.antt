use Rattle.lifetimes.proofs.LargeLemmas.{fills_large}
use Rattle.lifetimes.proofs.laws.only_a_large_history_fills_an_output.Goals as goal

pub returns : goal.returns
returns c = fills_large
