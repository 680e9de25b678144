use Rattle.std.proofs.Common.{◌<◌, ◌≤◌, ap, sym, length, ◌∙◌, arith}
use Rattle.text_parsers.proofs.Cutting.{none_stands_more, none_passed_of, uncut_at_end}
use Rattle.text_parsers.proofs.Quoting.{quoteless_of, quote_goes_on}
use Rattle.text_parsers.proofs.cuts.first_cut.Goals as goal

pub loop-at-init : goal.loop-at-init
loop-at-init c =
    let bytes = c.as_bytes-bytes.result.now in
    let passed = c.passed-at in
    record {
      quote_is = quoteless_of c.args.text.now bytes passed.result c.as_bytes-bytes.ensures.value passed.ensures.within passed.ensures.unquoted;
      before = none_passed_of c.args.delimiter.now c.args.text.now bytes passed.result c.as_bytes-bytes.ensures.value passed.ensures.uncut;
    }

pub loop-at-preserved : goal.loop-at-preserved
loop-at-preserved c =
    let inv = c.loop-at.invariant in
    let inside : c.loop-at.at < length c.as_bytes-bytes.result.now = omega arith in
    record {
      quote_is =
          quote_goes_on c.args.text.now c.as_bytes-bytes.result.now c.loop-at.at c.loop-at.quote c.open_behind-quote.result c.as_bytes-bytes.ensures.value inside
          inv.quote_is c.open_behind-quote.ensures;
      before = none_stands_more c.args.delimiter.now c.args.text.now c.loop-at.at c.loop-at.quote inv.before inv.quote_is (sym c.stands.ensures.stands ∙ c.if-stands.false);
    }

pub returns-clause-uncut : goal.returns-clause-uncut
returns-clause-uncut c =
    uncut_at_end c.args.delimiter.now c.args.text.now c.loop-at.at
    (let same = ap length c.as_bytes-bytes.ensures.value in let past = c.loop-at-test.false in let far : length c.args.text.now ≤ c.loop-at.at = omega arith in far)
    c.loop-at.invariant.before
