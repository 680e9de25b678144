use Rattle.std.proofs.Common.{ℕ, ◌<◌, List, ◌∙◌, sym, subst}
use Rattle.text_parsers.specs.Inner.FirstPart.{IsFirstPart}
use Rattle.text_parsers.proofs.FirstFields.{first_enclosed, ends_text, delimiter_behind, goes_on, quote_first, some_left}
use Rattle.text_parsers.proofs.field_slices.enclosed_field.Goals as goal

pub behind_first-requires-clause-some : goal.behind_first-requires-clause-some
behind_first-requires-clause-some c = quote_first c.args.text.now c.requires.quote

pub returns-then-is_empty : goal.returns-then-is_empty
returns-then-is_empty c = λ fields are.
    (let field = c.first_part.result.0.now in
    let behind = c.first_part.result.1.now in
    let cut = subst (λ (l : List ℕ). IsFirstPart 34 l field behind c.first_part.result.2) c.behind_first.ensures c.first_part.ensures.first in
    ends_text c.args.delimiter field behind fields (first_enclosed c.args.delimiter c.args.text.now field behind c.first_part.result.2 c.requires.quote cut fields are) (sym c.is_empty.ensures ∙ c.if-is_empty.true))

pub behind_first-requires-2-clause-some : goal.behind_first-requires-2-clause-some
behind_first-requires-2-clause-some c = some_left c.first_part.result.1.now (sym c.is_empty.ensures ∙ c.if-is_empty.false)

pub behind_first-requires-2-clause-low : goal.behind_first-requires-2-clause-low
behind_first-requires-2-clause-low c =
    let field = c.first_part.result.0.now in
    let behind = c.first_part.result.1.now in
    let cut = subst (λ (l : List ℕ). IsFirstPart 34 l field behind c.first_part.result.2) c.behind_first.ensures c.first_part.ensures.first in
    let known = c.requires.fields in
    subst (λ (x : ℕ). x < 128)
    (sym (delimiter_behind c.args.delimiter field behind known.0 (first_enclosed c.args.delimiter c.args.text.now field behind c.first_part.result.2 c.requires.quote cut known.0 known.1) (sym c.is_empty.ensures ∙ c.if-is_empty.false)))
    c.requires.low

pub returns : goal.returns
returns c = λ fields are.
    (let field = c.first_part.result.0.now in
    let behind = c.first_part.result.1.now in
    let cut = subst (λ (l : List ℕ). IsFirstPart 34 l field behind c.first_part.result.2) c.behind_first.ensures c.first_part.ensures.first in
    goes_on c.args.delimiter field behind c.behind_first-2.result.now fields (first_enclosed c.args.delimiter c.args.text.now field behind c.first_part.result.2 c.requires.quote cut fields are) (sym c.is_empty.ensures ∙ c.if-is_empty.false)
    c.behind_first-2.ensures)
