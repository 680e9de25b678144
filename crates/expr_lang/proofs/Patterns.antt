-- What the crate of regular expressions promises, in the words of this crate.
use Rattle.std.proofs.Common.{◌≡◌, ◌≢◌, ℕ, ◌<◌, ◌≤◌, List, ◌∙◌, ap, sym, refl, Option, None, Some, is_some, IsSomeAnd, IfSome, true, false, ◌⊎◌, inl, inr, arith, All}
use Rattle.std.proofs.lemmas.Bool.Decides.{nat_tests}
use Rattle.std.specs.Str.{chars}
use Rattle.regex_hir.specs.Re.{Re}
use Rattle.regex_hir.specs.Find.{find_str}
use Rattle.regex_hir.specs.Meaning.{meaning}
use Rattle.regex_hir.specs.declared.hir.Hir.{Hir}
use Rattle.regex_syntax.specs.Brackets.{Nested}
use Rattle.regex_syntax.specs.Captures.{SameCaptures}
use Rattle.regex_syntax.specs.Grammar.{Names, read, group_count}
use Rattle.regex_syntax.specs.Verdict.{default_config, Reads, Refuses}
use Rattle.regex_syntax.specs.declared.error.ErrorKind.{ErrorKind}
use Rattle.regex_syntax.specs.declared.error.ErrorKind.TheVariants.{OutOfMemory, NestLimitExceeded}
use Rattle.regex_syntax.proofs.CapturesLemmas.{spans, find_str_alike}
use Rattle.regex_syntax.proofs.Written.{is_some-option_map}
use Rattle.std.proofs.Common.{length}
use Rattle.std.proofs.Math.Logic.{∥∥₁_elim}
use mathlib.Core.Bool.{Bool-set}
use Rattle.regex.specs.Names.{names_of}
use Rattle.regex.specs.Strings.{regex_source}
use Rattle.expr_lang.specs.declared.tree.Node.{Node}
use Rattle.expr_lang.specs.declared.tree.Node.TheVariants.{Constant, Path, SeverityNumber, SeverityText, Not', And', Or', Compares', Matches'}
use Rattle.expr_lang.specs.Grammar.{HavePatterns}
use Rattle.expr_lang.specs.TreeOf.{tree}
use Rattle.expr_lang.specs.Patterns.{is_shallow, is_pattern, found_by, is_found}

abbrev ReadAs : Option (Nested Re × Names) → Re → Names → Type 0
ReadAs o tree names = IsSomeAnd o (λ (re, found). (re.depth ≤ default_config.nest_limit) × SameCaptures tree re.value × (names ≡ found) × (group_count tree ≤ length names))

shallow : (o : Option (Nested Re × Names)) (tree : Re) (names : Names) → ReadAs o tree names → is_shallow o ≡ true
shallow None tree names r = absurd r
shallow (Some pattern) tree names r = let l = r.0 in grind (arith, nat_tests)

pub is_pattern_read : (source : List ℕ) (hir : Hir) (names : Names) → Reads default_config source hir names → is_pattern source ≡ true
unfolding Reads is_pattern
is_pattern_read source hir names r = shallow (read default_config (chars source)) (meaning hir) names r

deep : (o : Option (Nested Re × Names)) (kind : ErrorKind) → kind ≢ OutOfMemory
    → (kind ≡ OutOfMemory) ⊎ ((o ≡ None) ⊎ ((kind ≡ NestLimitExceeded) × IfSome o (λ (re, _). default_config.nest_limit < re.depth))) → is_shallow o ≡ false
deep o kind n (inl h) = absurd (n h)
deep o kind n (inr (inl h)) = ap is_shallow h
deep None kind n (inr (inr h)) = refl
deep (Some pattern) kind n (inr (inr h)) = let l = h.1 in grind (arith, nat_tests)

pub is_no_pattern : (source : List ℕ) (kind : ErrorKind) → kind ≢ OutOfMemory → Refuses default_config source kind → is_pattern source ≡ false
unfolding Refuses is_pattern
is_no_pattern source kind n r = deep (read default_config (chars source)) kind n r

found_alike : (o : Option (Nested Re × Names)) (tree : Re) (names : Names) (bytes : List ℕ) → All (λ x. x < 256) bytes → ReadAs o tree names
    → is_some (find_str tree bytes 0) ≡ found_by o bytes
found_alike None tree names bytes small r = absurd r
found_alike (Some pattern) tree names bytes small r =
    sym (is_some-option_map spans (find_str tree bytes 0)) ∙ ap is_some (find_str_alike tree pattern.0.value r.1 bytes small 0) ∙ is_some-option_map spans (find_str pattern.0.value bytes 0)

pub found_as_read : (source : List ℕ) (hir : Hir) (names : Names) (bytes : List ℕ) → All (λ x. x < 256) bytes → Reads default_config source hir names
    → is_some (find_str (meaning hir) bytes 0) ≡ is_found source bytes
unfolding Reads is_found
found_as_read source hir names bytes small r = found_alike (read default_config (chars source)) (meaning hir) names bytes small r

-- each pattern that is compiled is one
pub patterns_of : (node : Node) → HavePatterns (tree node)
patterns_of (Constant value) = tt
patterns_of (Path place) = tt
patterns_of SeverityNumber = tt
patterns_of SeverityText = tt
patterns_of (Not' at p operand) = patterns_of operand
patterns_of (And' at p left q right) = (patterns_of left, patterns_of right)
patterns_of (Or' at p left q right) = (patterns_of left, patterns_of right)
patterns_of (Compares' at compared p left q right) = (patterns_of left, patterns_of right)
patterns_of (Matches' at p left boxed) =
    let pattern = boxed.value in (
      patterns_of left,
      ∥∥₁_elim pattern.read (Bool-set _ _)
          (λ read. is_pattern_read (regex_source pattern.regex) pattern.regex.pattern.program.hir (names_of pattern.regex.pattern.names.items) (rw read.0 at read.1)),
    )
