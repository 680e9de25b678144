use Rattle.std.proofs.Common.{◌≡◌, ◌-◌, ◌∙◌, ap, sym, subst, ℕ, List, length, take, drop, true, false}
use Rattle.std.proofs.lemmas.List.{take_rest}
use Rattle.expr_lang.specs.Begun.{longest, roots}
use Rattle.expr_lang.specs.Inner.BrokenWords.{is_path}
use Rattle.expr_lang.specs.Longest.{IsSpelling, IsLongest}
use Rattle.expr_lang.specs.Words.{begins_path, is_root, is_word_byte, word}
use Rattle.expr_lang.proofs.PathFronts.{roots_longest}
use Rattle.expr_lang.proofs.Spellings.{run_taken}
use Rattle.expr_lang.proofs.place.path_length.Goals as goal

pub returns : goal.returns
returns c =
    let text = c.args.text.now in
    let sliced = take (length c.as_bytes.result.now - c.args.at) (drop c.args.at c.as_bytes.result.now) in
    let rest : sliced ≡ drop c.args.at text = take_rest c.as_bytes.result.now c.args.at ∙ ap (drop c.args.at) c.as_bytes.ensures.value in
    let tested : is_root (take c.word_length.result sliced) ≡ false = sym c.is_root.ensures ∙ c.if-is_root.false in
    let front : take c.word_length.result sliced ≡ word sliced = ap (λ (k : ℕ). take k sliced) c.word_length.ensures ∙ run_taken is_word_byte sliced in
    let none : begins_path (drop c.args.at text) ≡ false = subst (λ (l : List ℕ). begins_path l ≡ false) rest (ap is_root (sym front) ∙ tested) in
    let is : longest roots (drop c.args.at text) ≡ c.root_length.result = sym (c.root_length.ensures ∙ ap (longest roots) rest) in
    subst (IsLongest (IsSpelling (λ w. is_path w ≡ true)) (drop c.args.at text)) is (roots_longest (drop c.args.at text) none)
