use Rattle.std.proofs.Common.{◌≡◌, ◌∷◌, List, [], ℕ, true, arith, sym, ◌∙◌}
use Rattle.std.proofs.lemmas.Bool.{eqb-true}
use Rattle.std.proofs.lemmas.Str.{IsCharBoundary-after_ascii}
use Rattle.std.specs.Str.{IsUtf8, IsCharBoundary}
use Rattle.glob_match.specs.Path.{is_absolute}
use Rattle.glob_match.proofs.path.relative.Goals as goal

behind_slash : (path : List ℕ) → IsUtf8 path → is_absolute path ≡ true → IsCharBoundary path 1
behind_slash [] utf8 h = absurd (cc h)
behind_slash (byte ∷ rest) utf8 h = let same : byte ≡ 47 = eqb-true byte 47 h in IsCharBoundary-after_ascii (byte ∷ rest) 0 utf8 (omega arith) (omega arith)

pub range_from-requires : goal.range_from-requires
range_from-requires c = λ _. behind_slash c.args.path.now c.utf8.path (sym c.is_absolute.ensures ∙ c.if-is_absolute.true)
