use Rattle.std.proofs.Common.{ℕ, ◌+◌, List, ◌∷◌, ◌++◌, ◌∙◌, ap, sym, refl, subst, drop}
use Rattle.std.proofs.lemmas.List.{take_all}
use Rattle.text_parsers.specs.CsvRecords.{parts_of}
use Rattle.text_parsers.specs.Inner.FirstPart.{Lacks}
use Rattle.text_parsers.proofs.Ends.{front_is}
use Rattle.text_parsers.proofs.Parting.{part_cut, part_uncut, part_ends, part_begins, front_lacks, part_stands}
use Rattle.text_parsers.proofs.parts.first_part.Goals as goal

pub range-requires-clause-end_boundary : goal.range-requires-clause-end_boundary
range-requires-clause-end_boundary c =
    part_ends c.args.delimiter c.args.text.now c.as_bytes.result.now c.part_len-end.result c.as_bytes.ensures.value c.part_len-end.ensures c.requires c.if-end-text.true

pub range_from-requires : goal.range_from-requires
range_from-requires c = λ _.
    part_begins c.args.delimiter c.args.text.now c.as_bytes.result.now c.part_len-end.result c.as_bytes.ensures.value c.part_len-end.ensures c.requires c.if-end-text.true c.utf8.text

pub returns-then-end-text-clause-parts : goal.returns-then-end-text-clause-parts
returns-then-end-text-clause-parts c =
    let text = c.args.text.now in
    let delimiter = c.args.delimiter in
    let end = c.part_len-end.result in
    part_cut delimiter text c.as_bytes.result.now end c.as_bytes.ensures.value c.part_len-end.ensures c.if-end-text.true
    ∙ ap (λ (l : List ℕ). l ∷ parts_of delimiter (drop (end + 1) text)) (sym (front_is end text c.range.result.now c.range.ensures.value))
    ∙ ap (λ (l : List ℕ). c.range.result.now ∷ parts_of delimiter l) (sym c.range_from.ensures.value)

pub returns-clause-parts : goal.returns-clause-parts
returns-clause-parts c =
    part_uncut c.args.delimiter c.args.text.now c.as_bytes.result.now c.part_len-end.result c.as_bytes.ensures.value c.part_len-end.ensures c.if-end-text.false

pub returns-then-end-text-clause-first : goal.returns-then-end-text-clause-first
returns-then-end-text-clause-first c =
    let text = c.args.text.now in
    let delimiter = c.args.delimiter in
    let end = c.part_len-end.result in
    let front = front_is end text c.range.result.now c.range.ensures.value in (
      subst (λ (l : List ℕ). Lacks delimiter l) (sym front) (front_lacks delimiter text c.as_bytes.result.now end c.as_bytes.ensures.value c.part_len-end.ensures),
      part_stands delimiter text c.as_bytes.result.now end c.as_bytes.ensures.value c.part_len-end.ensures c.if-end-text.true
          ∙ ap (λ (l : List ℕ). l ++ delimiter ∷ drop (end + 1) text) (sym front)
          ∙ ap (λ (l : List ℕ). c.range.result.now ++ delimiter ∷ l) (sym c.range_from.ensures.value),
    )

pub returns-clause-first : goal.returns-clause-first
returns-clause-first c =
    let text = c.args.text.now in
    let delimiter = c.args.delimiter in
    let end = c.part_len-end.result in
    (subst (λ (l : List ℕ). Lacks delimiter l) (take_all end text c.if-end-text.false) (front_lacks delimiter text c.as_bytes.result.now end c.as_bytes.ensures.value c.part_len-end.ensures), refl)
