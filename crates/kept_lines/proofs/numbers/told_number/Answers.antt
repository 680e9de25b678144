use Rattle.std.proofs.Common.{◌∙◌, ◌+◌}
use Rattle.std.specs.Prelude.{Some, None}
use Rattle.std.proofs.lemmas.Bool.Decides.{Decides-eqb}
use Rattle.std.proofs.lemmas.List.{take_rest}
use Rattle.std.proofs.lemmas.Slice.Eq.{strip_suffix_is}
use Rattle.kept_lines.proofs.Quotes.{end_of_line}
use Rattle.kept_lines.proofs.Telling.{before_end, has_end, digits_behind, quote_there}
use Rattle.kept_lines.proofs.numbers.told_number.Goals as goal

pub returns-in_default-clause-number : goal.returns-in_default-clause-number
returns-in_default-clause-number c = λ front id number small e.
    let none = strip_suffix_is Decides-eqb c.args.line.now end_of_line None (rw c.as_slice.ensures at c.in_default.ensures.cases) in
    absurd (none _ (has_end c.args.line.now front id number e))

pub returns-in_default-memrchr-clause-number : goal.returns-in_default-memrchr-clause-number
returns-in_default-memrchr-clause-number c = λ front id number small e.
    let rest = strip_suffix_is Decides-eqb c.args.line.now end_of_line (Some c.in-Some.end) (rw c.as_slice.ensures at c.in-Some.ensures.cases) in
    absurd (quote_there c.in-Some.end.now front id number (before_end c.args.line.now front id number c.in-Some.end.now e rest) c.in_default-memrchr.ensures)

pub returns-clause-number : goal.returns-clause-number
returns-clause-number c = λ front id number small e.
    let rest = strip_suffix_is Decides-eqb c.args.line.now end_of_line (Some c.in-Some.end) (rw c.as_slice.ensures at c.in-Some.ensures.cases) in
    c.parsed.ensures.number number small
    (take_rest c.in-Some.end.now (c.in-Some-memrchr.quote + 1)
    ∙ digits_behind c.in-Some.end.now front id number c.in-Some-memrchr.quote (before_end c.args.line.now front id number c.in-Some.end.now e rest) c.in-Some-memrchr.ensures)
