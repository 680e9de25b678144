use Rattle.std.proofs.Common.{◌≡◌, ◌+◌, take, sym, refl, ap, ◌∙◌, arith}
use Rattle.std.proofs.lemmas.List.{take_rest}
use Rattle.record_log.proofs.Fronts.{head_none, head_some, stops_closed, stops_otherwise, counts_when, open_frame, none_if}
use Rattle.record_log.proofs.parsing.record_at.Goals as goal

pub returns-in_err-head-clause-none : goal.returns-in_err-head-clause-none
returns-in_err-head-clause-none c =
    let bytes = c.args.bytes.now in
    none_if c.from_residual.result (stops_closed c.args.place c.args.sequence bytes (head_none c.args.place bytes (c.in_err-head.ensures bytes refl (ap (λ rest. take 17 rest) (sym (take_rest bytes c.args.place))))))

pub returns-in_err-before-clause-none : goal.returns-in_err-before-clause-none
returns-in_err-before-clause-none c =
    let bytes = c.args.bytes.now in
    let says = head_some c.args.place bytes c.in_ok-head.head (c.in_ok-head.ensures bytes refl (ap (λ rest. take 17 rest) (sym (take_rest bytes c.args.place)))) in
    let none = c.in_err-before.ensures in
    none_if c.from_residual-in_err-before.result (stops_otherwise c.args.place c.args.sequence bytes (λ next. none (omega (arith, says.sequence_is, next))))

pub returns-then-before-sequence-clause-some : goal.returns-then-before-sequence-clause-some
returns-then-before-sequence-clause-some c =
    let bytes = c.args.bytes.now in
    let says = head_some c.args.place bytes c.in_ok-head.head (c.in_ok-head.ensures bytes refl (ap (λ rest. take 17 rest) (sym (take_rest bytes c.args.place)))) in
    let next : c.in_ok-head.head.sequence ≡ c.args.sequence + 1 = omega (arith, c.in_ok-before.ensures, c.if-before-sequence.true) in
    (counts_when c.args.place c.args.sequence bytes says.opened (says.sequence_is ∙ next), next, omega (arith, says.length_is))

pub returns-then-before-sequence-clause-within : goal.returns-then-before-sequence-clause-within
returns-then-before-sequence-clause-within c =
    let bytes = c.args.bytes.now in
    let says = head_some c.args.place bytes c.in_ok-head.head (c.in_ok-head.ensures bytes refl (ap (λ rest. take 17 rest) (sym (take_rest bytes c.args.place)))) in
    let frame = open_frame c.args.place bytes says.opened in
    omega (arith, frame.whole, says.length_is)

pub returns-else-before-sequence-clause-none : goal.returns-else-before-sequence-clause-none
returns-else-before-sequence-clause-none c =
    let bytes = c.args.bytes.now in
    let says = head_some c.args.place bytes c.in_ok-head.head (c.in_ok-head.ensures bytes refl (ap (λ rest. take 17 rest) (sym (take_rest bytes c.args.place)))) in
    stops_otherwise c.args.place c.args.sequence bytes (λ next. absurd (omega (arith, says.sequence_is, next, c.in_ok-before.ensures, c.if-before-sequence.false)))
