use Rattle.std.proofs.Common.{arith, sym, ◌∙◌}
use Rattle.command_words.proofs.Numbers.{great_spells_none, parsed_spells, refused_spells_none, spelled_begins}
use Rattle.command_words.proofs.rounds.rounds_of.Goals as goal

pub returns-then-has_plus_or_zero_first : goal.returns-then-has_plus_or_zero_first
returns-then-has_plus_or_zero_first c = spelled_begins c.args.text.now (sym c.has_plus_or_zero_first.ensures ∙ c.if-has_plus_or_zero_first.true)

pub returns-in-Ok : goal.returns-in-Ok
returns-in-Ok c =
    parsed_spells c.args.text.now c.parse.result c.in-Ok.rounds (sym c.has_plus_or_zero_first.ensures ∙ c.if-has_plus_or_zero_first.false) c.parse.ensures.value.0
    c.in-Ok.is c.if-rounds-le-MAX_ROUNDS.true

pub returns-in_default : goal.returns-in_default
returns-in_default c = great_spells_none c.args.text.now c.parse.result c.in-Ok.rounds c.parse.ensures.value.0 c.in-Ok.is (omega (arith, c.if-rounds-le-MAX_ROUNDS.false))

pub returns-in_default-2 : goal.returns-in_default-2
returns-in_default-2 c = refused_spells_none c.args.text.now c.parse.result c.in_default.field-0 c.parse.ensures.value.0 c.in_default.is
