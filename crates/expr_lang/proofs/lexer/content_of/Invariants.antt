use Rattle.std.proofs.Common.{◌≡◌, drop, false}
use Rattle.expr_lang.specs.Words.{quoted}
use Rattle.expr_lang.proofs.Quotes.{behind_of}
use Rattle.expr_lang.proofs.lexer.content_of.Given as goal

abbrev pub invariant-loop-index : goal.invariant-loop-index
invariant-loop-index l = quoted l.quote false l.inner ≡ behind_of l.content.items l.index (quoted l.quote l.behind (drop l.index l.inner))
