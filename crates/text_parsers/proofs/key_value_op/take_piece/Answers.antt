use Rattle.std.proofs.Common.{◌∙◌, ap, sym, drop, ◌+◌}
use Rattle.entry_model.specs.Seen.{seen}
use Rattle.text_parsers.specs.Pairs.{cleaned}
use Rattle.text_parsers.specs.Pieces.{piece}
use Rattle.text_parsers.proofs.Ends.{front_is}
use Rattle.text_parsers.proofs.Taking.{takes_nothing, lacks_delimiter, lacks_key, takes_pair}
use Rattle.text_parsers.proofs.key_value_op.take_piece.Goals as goal

pub returns-then-is_empty-clause-ok : goal.returns-then-is_empty-clause-ok
returns-then-is_empty-clause-ok c =
    takes_nothing c.args.within.now (piece c.args.at c.args.raw.now) c.trim-bytes.result.now (seen c.args.members.now.entries) c.trim-bytes.ensures (sym c.is_empty.ensures ∙ c.if-is_empty.true)

pub returns-in_default-clause-fault : goal.returns-in_default-clause-fault
returns-in_default-clause-fault c = λ _.
    lacks_delimiter c.args.within.now c.args.at c.args.raw.now c.trim-bytes.result.now c.trim-bytes.ensures (sym c.is_empty.ensures ∙ c.if-is_empty.false) c.blanks_before.result c.blanks_before.ensures.count
    c.in_default.ensures.uncut

pub returns-then-is_empty-2-clause-fault : goal.returns-then-is_empty-2-clause-fault
returns-then-is_empty-2-clause-fault c = λ _.
    lacks_key c.args.within.now c.args.at c.args.raw.now c.trim-bytes.result.now c.trim-bytes.ensures (sym c.is_empty.ensures ∙ c.if-is_empty.false) c.blanks_before.result c.blanks_before.ensures.count
    c.in-Some.cut c.in-Some.ensures.cut c.clean-key.result.now (c.clean-key.ensures ∙ ap cleaned (front_is c.in-Some.cut c.trim-bytes.result.now c.range.result.now c.range.ensures.value)) (sym c.is_empty-2.ensures ∙ c.if-is_empty-2.true)

pub returns-clause-ok : goal.returns-clause-ok
returns-clause-ok c =
    takes_pair c.args.within.now c.args.at c.args.raw.now c.trim-bytes.result.now c.trim-bytes.ensures (sym c.is_empty.ensures ∙ c.if-is_empty.false) c.blanks_before.result c.blanks_before.ensures.count
    c.in-Some.cut c.in-Some.ensures.cut c.clean-key.result.now (c.clean-key.ensures ∙ ap cleaned (front_is c.in-Some.cut c.trim-bytes.result.now c.range.result.now c.range.ensures.value)) (sym c.is_empty-2.ensures ∙ c.if-is_empty-2.false)
    c.clean.result.now (c.clean.ensures ∙ ap cleaned (c.range_from.ensures.value ∙ ap (λ n. drop (c.in-Some.cut + n) c.trim-bytes.result.now) c.len.ensures.len))
    (seen c.args.members.now.entries) (seen c.put.new.members.entries) (rw (← c.in_ok-name.ensures) c.in_ok-put.ensures)
