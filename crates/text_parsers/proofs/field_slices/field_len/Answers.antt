use Rattle.std.proofs.Common.{ℕ, ◌≤◌, ◌∙◌, sym, subst, length, eqb-true, slice_index}
use Rattle.std.proofs.lemmas.List.{take_rest}
use Rattle.std.proofs.lemmas.List.Sums.{prefix_len-le-length}
use Rattle.text_parsers.specs.Inner.FieldSlices.{is_bare}
use Rattle.text_parsers.proofs.FirstFields.{begins_bare, begins_enclosed}
use Rattle.text_parsers.proofs.field_slices.field_len.Goals as goal

pub returns-then-not-begins_with_quote-clause-within : goal.returns-then-not-begins_with_quote-clause-within
returns-then-not-begins_with_quote-clause-within c =
    subst (λ (n : ℕ). n ≤ length c.args.bytes.now) (sym c.bare_len.ensures) (prefix_len-le-length (is_bare c.args.delimiter) c.args.bytes.now)

pub returns-then-not-begins_with_quote-clause-field : goal.returns-then-not-begins_with_quote-clause-field
returns-then-not-begins_with_quote-clause-field c = begins_bare c.args.delimiter c.args.bytes.now c.bare_len.result c.bare_len.ensures

pub returns-then-within-len-eq34-clause-field : goal.returns-then-within-len-eq34-clause-field
returns-then-within-len-eq34-clause-field c =
    begins_enclosed c.args.delimiter c.args.bytes.now _ c.plain_len-len.result (eqb-true (slice_index c.args.bytes.now 0) 34 (sym c.begins_with_quote.ensures ∙ c.if-not-begins_with_quote.false))
    (take_rest c.args.bytes.now 1) c.plain_len-len.ensures c.if-len-within.true c.if-within-len-eq34.true
