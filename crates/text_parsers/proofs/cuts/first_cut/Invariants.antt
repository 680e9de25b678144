use Rattle.std.proofs.Common.{◌≡◌, ℕ, ◌<◌, take}
use Rattle.text_parsers.specs.Cuts.{StandsAt}
use Rattle.text_parsers.specs.Quotes.{open_quote}
use Rattle.text_parsers.proofs.cuts.first_cut.Given as goal

abbrev pub invariant-loop-at : goal.invariant-loop-at
invariant-loop-at l = record {
  quote_is : open_quote (take l.at l.text) ≡ l.quote;
  before : (k : ℕ) → k < l.at → StandsAt l.delimiter l.text k → ⊥;
}
