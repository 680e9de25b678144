use Rattle.std.proofs.Common.{◌≡◌, ◌+◌, ap, sym, subst, ℕ, drop, arith, length-drop}
use Rattle.std.proofs.lemmas.List.{take_rest}
use Rattle.std.specs.Str.{IsCharBoundary}
use Rattle.expr_lang.specs.declared.lexer.Spot.TheVariants as spot
use Rattle.expr_lang.specs.Row.{path_length}
use Rattle.expr_lang.proofs.Boundaries.{path_within, path_starts, path_ends}
use Rattle.expr_lang.proofs.lexer.path_end.Goals as goal

pub overflow_add-result : goal.overflow_add-result
overflow_add-result c =
    let text = c.args.text.now in
    let is : c.path_length.result ≡ path_length spot.Name (drop c.args.at text) = rw (c.as_bytes.ensures.value, take_rest) at c.path_length.ensures in
    let within = path_within (drop c.args.at text) spot.Name in
    let left = length-drop c.args.at text in
    let same = c.as_bytes.ensures.len in
    omega (arith, is, within, left, same)

pub returns-clause-end : goal.returns-clause-end
returns-clause-end c = ap (λ (n : ℕ). c.args.at + n) (rw (c.as_bytes.ensures.value, take_rest) at c.path_length.ensures)

pub returns-clause-start_boundary : goal.returns-clause-start_boundary
returns-clause-start_boundary c = path_starts c.args.text.now c.args.at c.requires.inside c.requires.begins

pub returns-clause-end_boundary : goal.returns-clause-end_boundary
returns-clause-end_boundary c =
    let is : c.args.at + c.path_length.result ≡ c.args.at + path_length spot.Name (drop c.args.at c.args.text.now) = ap (λ (n : ℕ). c.args.at + n) (rw (c.as_bytes.ensures.value, take_rest) at c.path_length.ensures) in
    subst (λ (n : ℕ). IsCharBoundary c.args.text.now n) (sym is) (path_ends c.args.text.now c.args.at c.utf8.text c.requires.inside c.requires.begins)
