use Rattle.std.proofs.Common.{◌≡◌, ◌+◌, ne_eqb, arith}
use Rattle.json_text.specs.Machine.{state, unit_phase, with_piece}
use Rattle.json_text.specs.Reads.{AroundText, piece_from, text_from}
use Rattle.json_text.proofs.Places.{then_reads}
use Rattle.json_text.proofs.Steps.{escape_ends, escape_of_unit, escape_of_byte, escape_stops, escaped_low}
use Rattle.std.proofs.Common.{sym, ◌∙◌, ◌-◌, ◌<◌, get_or, subst, ℕ}
use Rattle.json_text.proofs.escape.escape.Goals as goal

pub returns-in_default-clause-reads : goal.returns-in_default-clause-reads
returns-in_default-clause-reads c = λ content. escape_ends c.args.text.now c.args.at content c.in_default.ensures.past

pub returns-then-byte-eq117-clause-reads : goal.returns-then-byte-eq117-clause-reads
returns-then-byte-eq117-clause-reads c = λ content.
    then_reads {Around = AroundText} c.args.text.now c.args.at (c.args.at + 1) (piece_from content) (λ around. state (unit_phase around.0 content 4 0) around.1.0 around.1.1)
    (λ around piece. text_from (with_piece content piece) around) c.unit.result
    (escape_of_unit c.args.text.now c.args.at content c.in-Some.ensures.within (c.in-Some.ensures.is ∙ c.if-byte-eq117.true)) (c.unit.ensures.reads content)

pub returns-in-Some-meant-clause-reads : goal.returns-in-Some-meant-clause-reads
returns-in-Some-meant-clause-reads c = λ content.
    escape_of_byte c.args.text.now c.args.at content c.in-Some.byte c.in-Some-meant.meant c.in-Some.ensures.within c.in-Some.ensures.is
    (ne_eqb c.in-Some.byte 117 c.if-byte-eq117.false) c.in-Some-meant.ensures.value

pub returns-in-None-clause-reads : goal.returns-in-None-clause-reads
returns-in-None-clause-reads c = λ content.
    escape_stops c.args.text.now c.args.at content c.in-Some.byte c.in-Some.ensures.within c.in-Some.ensures.is (ne_eqb c.in-Some.byte 117 c.if-byte-eq117.false) c.in-None.ensures.value

pub returns-in-Some-meant-clause-behind : goal.returns-in-Some-meant-clause-behind
returns-in-Some-meant-clause-behind c =
    let back : c.args.at ≡ c.args.at + 1 - 1 = omega arith in
    let low : c.in-Some.byte < 128 = escaped_low c.in-Some.byte c.in-Some-meant.meant c.in-Some-meant.ensures.value in
    (omega arith, subst (λ (n : ℕ). get_or c.args.text.now n 0 < 128) back (subst (λ (b : ℕ). b < 128) (sym c.in-Some.ensures.is) low))
