use Rattle.std.proofs.Common.{◌≡◌, ◌∙◌, ℕ, suc, ◌+◌, ◌-◌, ◌*◌, ◌<◌, length, drop, get_or, ap, sym, subst, arith}
use Rattle.json_text.specs.Machine.{outcome, state, unit_phase}
use Rattle.json_text.proofs.Steps.{unit_goes, unit_stops, unit_ends, hex_low}
use Rattle.json_text.proofs.escape.unit.Goals as goal

pub returns-in_default-clause-reads : goal.returns-in_default-clause-reads
returns-in_default-clause-reads c = λ content around.
    let left : 4 - c.loop-count.count ≡ suc (3 - c.loop-count.count) = omega arith in
    c.loop-count.invariant.leads content around
    ∙ unit_ends c.args.text.now c.args.at (c.args.at + c.loop-count.count) (3 - c.loop-count.count) c.loop-count.unit content around (4 - c.loop-count.count) left c.in_default.ensures.past

pub returns-in_default-hex_value-clause-reads : goal.returns-in_default-hex_value-clause-reads
returns-in_default-hex_value-clause-reads c = λ content around.
    let left : 4 - c.loop-count.count ≡ suc (3 - c.loop-count.count) = omega arith in
    c.loop-count.invariant.leads content around
    ∙ unit_stops c.args.text.now c.args.at (c.args.at + c.loop-count.count) (3 - c.loop-count.count) c.loop-count.unit content around (4 - c.loop-count.count) c.in-Some.byte left
    c.in-Some.ensures.within c.in-Some.ensures.is c.in_default-hex_value.ensures.value

pub loop-count-preserved : goal.loop-count-preserved
loop-count-preserved c =
    let left : 4 - c.loop-count.count ≡ suc (3 - c.loop-count.count) = omega arith in
    let fewer : 3 - c.loop-count.count ≡ 4 - (c.loop-count.count + 1) = omega arith in
    let on : c.args.at + c.loop-count.count + 1 ≡ c.args.at + (c.loop-count.count + 1) = omega arith in
    let inside : c.args.at + c.loop-count.count < length c.args.text.now = c.in-Some.ensures.within in
    let few = c.loop-count.invariant.small in
    let digit = c.in-Some-hex_value.ensures.digit in
    let low : c.in-Some.byte < 128 = hex_low c.in-Some.byte c.in-Some-hex_value.digit c.in-Some-hex_value.ensures.value in
    let back : c.args.at + c.loop-count.count ≡ c.args.at + (c.loop-count.count + 1) - 1 = omega arith in
    record {
      few = omega arith;
      within = omega arith;
      small = (λ e. omega arith, λ e. omega arith, λ e. omega arith, λ e. omega arith);
      last = λ _. subst (λ (n : ℕ). get_or c.args.text.now n 0 < 128) back (subst (λ (b : ℕ). b < 128) (sym c.in-Some.ensures.is) low);
      leads = λ content around.
          c.loop-count.invariant.leads content around
          ∙ unit_goes c.args.text.now c.args.at (c.args.at + c.loop-count.count) (3 - c.loop-count.count) c.loop-count.unit content around (4 - c.loop-count.count) c.in-Some.byte c.in-Some-hex_value.digit left
          c.in-Some.ensures.within c.in-Some.ensures.is c.in-Some-hex_value.ensures.value
          ∙ ap (λ (n : ℕ). outcome (state (unit_phase around.0 content n (c.loop-count.unit * 16 + c.in-Some-hex_value.digit)) around.1.0 around.1.1) (drop (c.args.at + c.loop-count.count + 1) c.args.text.now) (c.args.at + c.loop-count.count + 1)) fewer
          ∙ ap (λ (n : ℕ). outcome (state (unit_phase around.0 content (4 - (c.loop-count.count + 1)) (c.loop-count.unit * 16 + c.in-Some-hex_value.digit)) around.1.0 around.1.1) (drop n c.args.text.now) n) on;
    }
