use Rattle.std.proofs.Common.{◌≡◌, refl, []}
use Rattle.std.proofs.lemmas.List.Elements.{All-nil, All-cons}
use Rattle.standing.specs.AreRules.{AreRules}
use Rattle.standing.specs.Example.{each_line}
use Rattle.standing.specs.Rules.{Rules}
use Rattle.standing.proofs.ExampleLemmas.{each_line_is_rules}
use Rattle.standing.proofs.examples.lines_give_rules.Goals as goal

pub returns-clause-rules : goal.returns-clause-rules
returns-clause-rules c = each_line_is_rules

pub returns-clause-eras : goal.returns-clause-eras
returns-clause-eras c =
    let P : Rules → Type 0 = λ rules. rules.line ≡ each_line.line in
    let Q : Rules → Type 0 = λ rules. rules.front_size ≡ each_line.front_size in
    record {
      each = All-cons AreRules each_line [] each_line_is_rules (All-nil AreRules);
      one_line = All-cons P each_line [] refl (All-nil P);
      one_front_size = All-cons Q each_line [] refl (All-nil Q);
    }
