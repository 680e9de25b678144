-- The bytes are the first of them and the others.
use Rattle.std.proofs.Common.{ℕ, List, subst, drop}
use Rattle.std.proofs.lemmas.List.{take-append-drop}
use Rattle.multiline.specs.Searched.{IsSearched}
use Rattle.reader_cases.proofs.lines.next_in_two.Goals as goal

pub next_behind-requires-in-None-clause-searched : goal.next_behind-requires-in-None-clause-searched
next_behind-requires-in-None-clause-searched c =
    let bytes = c.args.bytes.now in
    let goes_on = rw c.in-None.is at c.in_ok-token.ensures.goes_on in
    subst (λ (b : List ℕ). IsSearched c.args.cutter.now c.args.max b c.next_behind.new.searched) (take-append-drop c.args.first bytes) (goes_on (drop c.args.first bytes))
