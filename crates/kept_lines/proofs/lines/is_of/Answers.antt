use Rattle.std.proofs.Common.{◌∙◌, ◌++◌, ℕ, List, ap}
use Rattle.otlp_json.specs.OutputLine.{line_tail}
use Rattle.kept_lines.proofs.Telling.{own_by_tail, none_told}
use Rattle.kept_lines.proofs.lines.is_of.Goals as goal

pub returns-in_default : goal.returns-in_default
returns-in_default c = none_told c.args.id c.args.line.now c.in_default.ensures.number

pub returns : goal.returns
returns c =
    own_by_tail c.args.id c.in-Some.number c.args.line.now c.append_tail.new.out.items c.ends_with.result c.in-Some.ensures.small (c.in_ok-append_tail.ensures ∙ ap (λ (l : List ℕ). l ++ line_tail c.args.id c.in-Some.number) c.new-tail.ensures.items) (rw c.deref.ensures.value at c.ends_with.ensures.value) c.in-Some.ensures.number
