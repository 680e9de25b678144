use Rattle.std.proofs.Common.{◌≡◌, drop, bytes_eq, ◌||◌, false}
use Rattle.std.specs.List.{fold}
use Rattle.settings_text.proofs.words.is_one_of.Given as goal

abbrev pub invariant-loop-word : goal.invariant-loop-word
invariant-loop-word l = fold (λ found word. found || bytes_eq l.name word.now) false l.words ≡ fold (λ found word. found || bytes_eq l.name word.now) l.found (drop l.word-index l.words)
