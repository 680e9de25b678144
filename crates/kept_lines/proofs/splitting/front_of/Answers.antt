use Rattle.std.proofs.Common.{◌+◌, ◌++◌, decimal}
use Rattle.std.specs.Prelude.{Some, None}
use Rattle.std.proofs.lemmas.Bool.Decides.{Decides-eqb}
use Rattle.std.proofs.lemmas.Slice.Eq.{strip_suffix_is}
use Rattle.kept_lines.specs.Split.{before_id}
use Rattle.kept_lines.proofs.Quotes.{end_of_line}
use Rattle.kept_lines.proofs.Telling.{before_end, has_end, quote_there}
use Rattle.kept_lines.proofs.Texts.{between, front_told, up_to_quote}
use Rattle.kept_lines.proofs.splitting.front_of.Goals as goal

pub returns-in_default : goal.returns-in_default
returns-in_default c = λ front id number e.
    let none = strip_suffix_is Decides-eqb c.args.line.now end_of_line None (rw c.as_slice.ensures at c.in_default.ensures.cases) in
    none _ (has_end c.args.line.now front id number e)

pub returns-in_default-memrchr : goal.returns-in_default-memrchr
returns-in_default-memrchr c = λ front id number e.
    let rest = strip_suffix_is Decides-eqb c.args.line.now end_of_line (Some c.in-Some.end) (rw c.as_slice.ensures at c.in-Some.ensures.cases) in
    quote_there c.in-Some.end.now front id number (before_end c.args.line.now front id number c.in-Some.end.now e rest) c.in_default-memrchr.ensures

pub returns : goal.returns
returns c = λ front id number e.
    let rest = strip_suffix_is Decides-eqb c.args.line.now end_of_line (Some c.in-Some.end) (rw c.as_slice.ensures at c.in-Some.ensures.cases) in
    front_told _ ((front ++ before_id) ++ decimal id) c.strip_suffix-2.result
    (up_to_quote c.in-Some.end.now front id number c.in-Some-memrchr.quote (before_end c.args.line.now front id number c.in-Some.end.now e rest) c.in-Some-memrchr.ensures)
    (strip_suffix_is Decides-eqb _ between c.strip_suffix-2.result (rw c.as_slice-2.ensures at c.strip_suffix-2.ensures.cases))
