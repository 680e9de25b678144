use Rattle.std.proofs.Common.{◌≡◌, ◌<◌, ◌≤◌, ◌+◌, ◌∙◌, ap, subst, length, drop, option_map, Bool, false, ◌&&◌, arith}
use Rattle.std.proofs.lemmas.Result.{err_from_is_err_and}
use Rattle.expr_lang.specs.Begun.{wanted_by, takes_operand, negates}
use Rattle.expr_lang.specs.declared.parser.Wanted.{Wanted}
use Rattle.expr_lang.specs.Longest.{IsLongest}
use Rattle.expr_lang.specs.Machine.{state_of}
use Rattle.expr_lang.specs.TokenOf.{IsTokenOf}
use Rattle.expr_lang.specs.TreeOf.{tree}
use Rattle.expr_lang.proofs.BegunWords.{Wants}
use Rattle.expr_lang.proofs.Openings.{reached_first, reached_next}
use Rattle.expr_lang.proofs.Outcomes.{longest_fits, word_fits, fault_at_none, fault_at_word, fault_at_end, step_fault_is}
use Rattle.expr_lang.proofs.PatternWords.{has_parser}
use Rattle.expr_lang.proofs.Reading.{follows_first, follows_next, none_behind_word, none_behind_step, no_whole_tree}
use Rattle.expr_lang.proofs.read.parse.Goals as goal

pub loop-at-init : goal.loop-at-init
loop-at-init c = rw (c.skip_blanks-at.ensures, c.as_bytes-bytes.ensures.value, c.new-parser.ensures) (record { follows = follows_first c.args.text.now; reached = reached_first c.args.text.now })

pub returns-in_default-clause-fault : goal.returns-in_default-clause-fault
returns-in_default-clause-fault c =
    let text = c.args.text.now in
    let at = c.loop-at.at in
    let inside : at < length text = (let l = c.loop-at-test.true in let e = c.as_bytes-bytes.ensures.len in omega (arith, l, e)) in
    let state = state_of c.loop-at.parser in
    let none = subst (IsTokenOf (drop at text)) c.in_default.is c.in_ok-token.ensures.value in
    let longest = subst (λ (w : Wanted). IsLongest (Wants w) (drop at text) c.in_ok-begun.begun) c.wanted-wanted.ensures c.in_ok-begun.ensures in
    (none_behind_word text at state c.loop-at.invariant.follows inside none, fault_at_none text at c.in_ok-begun.begun state inside c.loop-at.invariant.reached (has_parser c.loop-at.parser) none longest)

pub returns-in_default-2-clause-fault : goal.returns-in_default-2-clause-fault
returns-in_default-2-clause-fault c =
    let text = c.args.text.now in
    let at = c.loop-at.at in
    let inside : at < length text = (let l = c.loop-at-test.true in let e = c.as_bytes-bytes.ensures.len in omega (arith, l, e)) in
    let word = subst (IsTokenOf (drop at text)) c.in-Some.is c.in_ok-token.ensures.value in
    let state = state_of c.loop-at.parser in
    let token = c.in-Some.token in
    let count = c.in-Some.length in
    let refused = c.in_ok-next.ensures.ok ∙ ap (option_map state_of) c.in_default-2.is in
    let begun = c.in_ok-begun-2.begun in
    let deep : (c.negates-negates.result && takes_operand c.wanted-wanted.result) ≡ (negates token && takes_operand (wanted_by state)) =
    ap (λ (b : Bool). b && takes_operand c.wanted-wanted.result) c.negates-negates.ensures ∙ ap (λ (w : Wanted). negates token && takes_operand w) c.wanted-wanted.ensures in
    let longest = λ (h : (negates token && takes_operand (wanted_by state)) ≡ false).
    subst (λ (w : Wanted). IsLongest (Wants w) (drop at text) begun) c.wanted-wanted.ensures (c.in_ok-begun-2.ensures.longest (deep ∙ h)) in (
      none_behind_step text at state c.loop-at.invariant.follows inside token count word refused,
      fault_at_word text at begun state inside c.loop-at.invariant.reached (has_parser c.loop-at.parser) token count word refused (λ h. c.in_ok-begun-2.ensures.too_deep (deep ∙ h)) longest,
    )

pub loop-at-preserved : goal.loop-at-preserved
loop-at-preserved c =
    let text = c.args.text.now in
    let at = c.loop-at.at in
    let inside : at < length text = (let l = c.loop-at-test.true in let e = c.as_bytes-bytes.ensures.len in omega (arith, l, e)) in
    let word = subst (IsTokenOf (drop at text)) c.in-Some.is c.in_ok-token.ensures.value in
    let taken = c.in_ok-next.ensures.ok ∙ ap (option_map state_of) c.in-Some-2.is in
    let fits : at + c.in-Some.length ≤ length text = (rw c.in-Some.is at c.in_ok-token.ensures.within) in
    rw (c.skip_blanks-at-in-loop-at.ensures, c.as_bytes-bytes.ensures.value)
    (record {
      follows = follows_next text at (state_of c.loop-at.parser) c.loop-at.invariant.follows inside c.in-Some.token c.in-Some.length (state_of c.in-Some-2.next) word taken fits;
      reached = reached_next text at (state_of c.loop-at.parser) (state_of c.in-Some-2.next) c.loop-at.invariant.reached c.in-Some.token c.in-Some.length word taken;
    })

pub returns-in-None-clause-fault : goal.returns-in-None-clause-fault
returns-in-None-clause-fault c =
    let text = c.args.text.now in
    let at = c.loop-at.at in
    let end : length text ≤ at = (let l = c.loop-at-test.false in let e = c.as_bytes-bytes.ensures.len in omega (arith, l, e)) in
    let none = c.in_ok-root.ensures ∙ ap (option_map tree) c.in-None.is in
    (no_whole_tree text at (state_of c.loop-at.parser) c.loop-at.invariant.follows end none, fault_at_end text at (length c.as_bytes-bytes.result.now) (state_of c.loop-at.parser) c.loop-at.invariant.reached (has_parser c.loop-at.parser) c.loop-at.invariant.follows.inside end none (ap length c.as_bytes-bytes.ensures.value))

pub returns-in_err-next-clause-fault : goal.returns-in_err-next-clause-fault
returns-in_err-next-clause-fault c =
    let text = c.args.text.now in
    let at = c.loop-at.at in
    let inside : at < length text = (let l = c.loop-at-test.true in let e = c.as_bytes-bytes.ensures.len in omega (arith, l, e)) in
    let word = subst (IsTokenOf (drop at text)) c.in-Some.is c.in_ok-token.ensures.value in
    let p = err_from_is_err_and c.from_residual-in_err-next.result c.from_residual-in_err-next.ensures.1 in
    rw (p.1, p.2) (step_fault_is text at (state_of c.loop-at.parser) c.loop-at.invariant.follows inside c.loop-at.invariant.reached (has_parser c.loop-at.parser) c.in-Some.token c.in-Some.length word _ c.in_err-next.ensures.fault)

pub overflow_add-result : goal.overflow_add-result
overflow_add-result c =
    let text = c.args.text.now in
    let at = c.loop-at.at in
    let len = c.as_bytes-bytes.ensures.len in
    let inside : at < length text = (let l = c.loop-at-test.true in omega (arith, l, len)) in
    let fits = longest_fits text at c.in_ok-begun.begun inside c.in_ok-begun.ensures in
    omega (arith, fits, len)

pub overflow_add-result-in_default-2 : goal.overflow_add-result-in_default-2
overflow_add-result-in_default-2 c =
    let text = c.args.text.now in
    let at = c.loop-at.at in
    let len = c.as_bytes-bytes.ensures.len in
    let inside : at < length text = (let l = c.loop-at-test.true in omega (arith, l, len)) in
    let fits = word_fits text at c.in_ok-begun-2.begun inside (c.negates-negates.result && takes_operand c.wanted-wanted.result) c.in_ok-begun-2.ensures.too_deep c.in_ok-begun-2.ensures.longest in
    omega (arith, fits, len)
