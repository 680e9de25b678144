use Rattle.std.proofs.Common.{◌<◌, ◌≤◌, ℕ, ◌+◌, length, arith}
use Rattle.std.proofs.lemmas.Option.{MatchOption-at_some}
use Rattle.state_codec.proofs.read.text_fault.Goals as goal

pub overflow_add-result : goal.overflow_add-result
overflow_add-result c =
    let bound = MatchOption-at_some (length c.args.bytes.now < c.args.valid + 4) (λ (k : ℕ). (0 < k) × (k < 4) × (c.args.valid + k ≤ length c.args.bytes.now)) c.in-Some.behind c.in-Some.is c.requires.bound in
    omega (arith, bound.2, c.ranges.size, c.requires.size)

pub returns-in-Some-clause-within : goal.returns-in-Some-clause-within
returns-in-Some-clause-within c =
    (MatchOption-at_some (length c.args.bytes.now < c.args.valid + 4) (λ (k : ℕ). (0 < k) × (k < 4) × (c.args.valid + k ≤ length c.args.bytes.now)) c.in-Some.behind c.in-Some.is c.requires.bound).2
