use Rattle.std.proofs.Common.{◌∙◌}
use Rattle.container_parser.proofs.Spaces.{space_ends, word_found, behind_found, all_word, none_behind}
use Rattle.container_parser.proofs.split.at_space.Goals as goal

pub range_from-requires : goal.range_from-requires
range_from-requires c = λ _. space_ends c.args.text.now c.as_bytes.result.now c.in-Some.at c.utf8.text c.as_bytes.ensures.value c.in-Some.ensures

pub returns-in-Some-clause-word : goal.returns-in-Some-clause-word
returns-in-Some-clause-word c = c.range.ensures.value ∙ word_found c.args.text.now c.as_bytes.result.now c.in-Some.at c.as_bytes.ensures.value c.in-Some.ensures

pub returns-in-Some-clause-behind : goal.returns-in-Some-clause-behind
returns-in-Some-clause-behind c = c.range_from.ensures.value ∙ behind_found c.args.text.now c.as_bytes.result.now c.in-Some.at c.as_bytes.ensures.value c.in-Some.ensures

pub returns-in-None-clause-word : goal.returns-in-None-clause-word
returns-in-None-clause-word c = all_word c.args.text.now c.as_bytes.result.now c.as_bytes.ensures.value c.in-None.ensures

pub returns-in-None-clause-behind : goal.returns-in-None-clause-behind
returns-in-None-clause-behind c = none_behind c.args.text.now c.as_bytes.result.now c.as_bytes.ensures.value c.in-None.ensures
