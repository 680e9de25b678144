use Rattle.std.proofs.Common.{arith}
use Rattle.glob_match.proofs.Walks.{names_split, names_whole}
use Rattle.glob_match.proofs.path.split.Goals as goal

pub returns-in-Some : goal.returns-in-Some
returns-in-Some c =
    let parts = c.in-Some.ensures.byte (omega arith) (λ w o h. h) in
    rw (parts.0, parts.1) (names_split c.args.path.now parts.2)

pub returns-in-None : goal.returns-in-None
returns-in-None c = names_whole c.args.path.now (c.in-None.ensures.byte (omega arith) (λ w o h. h))
