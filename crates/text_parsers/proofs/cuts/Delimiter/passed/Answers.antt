use Rattle.std.proofs.Common.{ℕ, ◌<◌, Some, ap, sym, subst, ◌∙◌, arith}
use Rattle.std.proofs.lemmas.List.Sums.{prefix_len-le-length}
use Rattle.std.specs.Prelude.{slice_index}
use Rattle.text_parsers.specs.Cuts.{Delimiter, delimiter_len}
use Rattle.text_parsers.specs.Inner.Passed.{is_past, is_other}
use Rattle.text_parsers.proofs.Cutting.{past_unquoted, other_unquoted, past_passed, other_passed}
use Rattle.text_parsers.proofs.cuts.Delimiter.passed.Goals as goal

pub returns-in-Some-clause-within : goal.returns-in-Some-clause-within
returns-in-Some-clause-within c =
    let most = prefix_len-le-length (is_other (slice_index c.as_bytes.result.now 0)) c.args.bytes.now in let is = c.other_len.ensures in omega arith

pub returns-in-Some-clause-unquoted : goal.returns-in-Some-clause-unquoted
returns-in-Some-clause-unquoted c = λ k h.
    other_unquoted (slice_index c.as_bytes.result.now 0) c.args.bytes.now k (subst (λ (m : ℕ). k < m) c.other_len.ensures h)

pub returns-in-Some-clause-uncut : goal.returns-in-Some-clause-uncut
returns-in-Some-clause-uncut c =
    (let some : 0 < delimiter_len c.args.self.now = subst (λ (d : Delimiter). 0 < delimiter_len d) c.self.view_is c.self.invariant in
    other_passed c.args.self.now c.args.bytes.now c.as_bytes.result.now c.other_len.result
    (sym c.self.view_is ∙ c.in-Some.is ∙ ap Some (sym (c.as_bytes.ensures.value ∙ c.as_str.ensures))) some c.other_len.ensures)

pub returns-in-None-clause-within : goal.returns-in-None-clause-within
returns-in-None-clause-within c = let most = prefix_len-le-length is_past c.args.bytes.now in let is = c.past_len.ensures in omega arith

pub returns-in-None-clause-unquoted : goal.returns-in-None-clause-unquoted
returns-in-None-clause-unquoted c = λ k h. past_unquoted c.args.bytes.now k (subst (λ (m : ℕ). k < m) c.past_len.ensures h)

pub returns-in-None-clause-uncut : goal.returns-in-None-clause-uncut
returns-in-None-clause-uncut c = past_passed c.args.self.now c.args.bytes.now c.past_len.result (sym c.self.view_is ∙ c.in-None.is) c.past_len.ensures
