-- Each return is one of the three forms of the first cut.
use Rattle.std.proofs.Common.{arith}
use Rattle.line_splitter.proofs.LineLemmas.{first_cut_at, first_cut_past, first_cut-none, line_cuts-none, line_cuts-some}
use Rattle.line_splitter.proofs.tokens.next.Goals as goal

pub returns-in-Some-clause-some : goal.returns-in-Some-clause-some
returns-in-Some-clause-some c =
    first_cut_at c.args.max c.args.bytes.now c.in-Some.end c.text_end.result c.in-Some.ensures.some c.in-Some.ensures.within c.text_end.ensures.text

pub returns-in-Some-clause-begins : goal.returns-in-Some-clause-begins
returns-in-Some-clause-begins c =
    line_cuts-some c.args.max c.requires c.args.bytes.now _ (first_cut_at c.args.max c.args.bytes.now c.in-Some.end c.text_end.result c.in-Some.ensures.some c.in-Some.ensures.within c.text_end.ensures.text)

pub returns-in-None-clause-some : goal.returns-in-None-clause-some
returns-in-None-clause-some c = first_cut_past c.args.max c.args.bytes.now c.in-None.ensures.none c.if-max-bytes.true

pub returns-in-None-clause-begins : goal.returns-in-None-clause-begins
returns-in-None-clause-begins c =
    line_cuts-some c.args.max c.requires c.args.bytes.now _ (first_cut_past c.args.max c.args.bytes.now c.in-None.ensures.none c.if-max-bytes.true)

pub returns-in-None-2-clause-none : goal.returns-in-None-2-clause-none
returns-in-None-2-clause-none c =
    first_cut-none c.args.max c.args.bytes.now (omega (arith, c.in-None.ensures.none)) c.if-max-bytes.false

pub returns-in-None-2-clause-ends : goal.returns-in-None-2-clause-ends
returns-in-None-2-clause-ends c =
    line_cuts-none c.args.max c.args.bytes.now (first_cut-none c.args.max c.args.bytes.now (omega (arith, c.in-None.ensures.none)) c.if-max-bytes.false)
