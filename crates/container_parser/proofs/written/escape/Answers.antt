use Rattle.std.proofs.Common.{ℕ, List, ◌<◌, get_or, subst, arith}
use Rattle.std.proofs.lemmas.Str.{IsCharBoundary-after_ascii}
use Rattle.container_parser.proofs.written.escape.Goals as goal

pub range_from-requires : goal.range_from-requires
range_from-requires c = λ _.
    IsCharBoundary-after_ascii c.args.text.now 1 c.utf8.text (omega (arith, c.in-92.len_at_least))
    (subst (λ (t : List ℕ). get_or t 1 0 < 128) c.as_bytes.ensures.value c.in_ok-meant-in-92.ensures.behind)
