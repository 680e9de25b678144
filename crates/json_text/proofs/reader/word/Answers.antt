use Rattle.std.proofs.Common.{◌≡◌, ◌∙◌, List, ℕ, [], drop, sym, ap, refl}
use Rattle.std.proofs.lemmas.List.{drop_all}
use Rattle.json_text.specs.Machine.{outcome}
use Rattle.json_text.specs.Reads.{word_from}
use Rattle.json_text.proofs.Steps.{word_goes, word_stops}
use Rattle.json_text.proofs.reader.word.Goals as goal

pub returns-then-not-stands-clause-fault : goal.returns-then-not-stands-clause-fault
returns-then-not-stands-clause-fault c = λ value.
    word_stops c.args.text.now c.args.word.now c.args.at c.loop-wanted.place c.loop-wanted.wanted-index _ value c.loop-wanted-test.true refl
    (sym c.stands.ensures ∙ c.if-not-stands.true) (c.loop-wanted.invariant value)

pub loop-wanted-preserved : goal.loop-wanted-preserved
loop-wanted-preserved c = λ value.
    word_goes c.args.text.now c.args.word.now c.args.at c.loop-wanted.place c.loop-wanted.wanted-index _ value c.loop-wanted-test.true refl
    (sym c.stands.ensures ∙ c.if-not-stands.false) (c.loop-wanted.invariant value)

pub returns-clause-ok : goal.returns-clause-ok
returns-clause-ok c = λ value.
    let inv = c.loop-wanted.invariant value in
    let over : drop c.loop-wanted.wanted-index c.args.word.now ≡ [] = drop_all c.loop-wanted.wanted-index c.args.word.now c.loop-wanted-test.false in
    (inv.0, inv.1, λ around. inv.2 around ∙ ap (λ (w : List ℕ). outcome (word_from w value around) (drop c.loop-wanted.place c.args.text.now) c.loop-wanted.place) over)
