-- The bytes that are searched are the first max + 1 of them.
use Rattle.std.proofs.Common.{◌+◌, refl, sym, arith}
use Rattle.std.proofs.lemmas.List.{take_all}
use Rattle.line_splitter.proofs.LineLemmas.{search-none, search-some}
use Rattle.line_splitter.proofs.tokens.line_feed_place.Goals as goal

pub returns-then-max-bytes-clause-none : goal.returns-then-max-bytes-clause-none
returns-then-max-bytes-clause-none c = search-none c.args.max c.args.bytes.now _ c.memchr.result c.memchr.ensures refl

pub returns-then-max-bytes-clause-some : goal.returns-then-max-bytes-clause-some
returns-then-max-bytes-clause-some c = search-some c.args.max c.args.bytes.now _ c.memchr.result c.memchr.ensures refl

pub returns-else-max-bytes-clause-none : goal.returns-else-max-bytes-clause-none
returns-else-max-bytes-clause-none c =
    search-none c.args.max c.args.bytes.now _ c.memchr-else-max-bytes.result c.memchr-else-max-bytes.ensures (sym (take_all (c.args.max + 1) c.args.bytes.now (omega arith)))

pub returns-else-max-bytes-clause-some : goal.returns-else-max-bytes-clause-some
returns-else-max-bytes-clause-some c =
    search-some c.args.max c.args.bytes.now _ c.memchr-else-max-bytes.result c.memchr-else-max-bytes.ensures (sym (take_all (c.args.max + 1) c.args.bytes.now (omega arith)))
