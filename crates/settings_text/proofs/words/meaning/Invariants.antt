use Rattle.std.proofs.Common.{◌≡◌, drop, bytes_eq}
use Rattle.std.specs.Map.{lookup}
use Rattle.settings_text.proofs.words.meaning.Given as goal

abbrev pub invariant-loop-word : goal.invariant-loop-word
invariant-loop-word g l = lookup (λ word. bytes_eq l.name word.now) l.words ≡ lookup (λ word. bytes_eq l.name word.now) (drop l.word-index l.words)
