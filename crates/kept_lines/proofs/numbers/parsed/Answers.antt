use Rattle.std.proofs.Common.{◌∙◌, ap, subst, sym, ℕ, List}
use Rattle.std.specs.Result.{result_ok}
use Rattle.std.specs.Str.{IsUtf8}
use Rattle.std.proofs.lemmas.Fmt.{parse-decimal, IsAscii-decimal}
use Rattle.std.proofs.lemmas.Str.{IsUtf8-from_ascii}
use Rattle.std.specs.Prelude.{decimal}
use Rattle.kept_lines.proofs.Telling.{parsed_small}
use Rattle.kept_lines.proofs.numbers.parsed.Goals as goal

pub returns-in-Ok-clause-number : goal.returns-in-Ok-clause-number
returns-in-Ok-clause-number c = λ number small e.
    c.ok.ensures.value ∙ ap result_ok (parse-decimal 64 number c.in-Ok.text.now c.parse.result small small (c.in-Ok.ensures.cases.0 ∙ e) c.parse.ensures.value.0)

pub returns-in-Err-clause-number : goal.returns-in-Err-clause-number
returns-in-Err-clause-number c = λ number small e.
    absurd (c.in-Err.ensures.cases.0 (subst (λ (l : List ℕ). IsUtf8 l) (sym e) (IsUtf8-from_ascii (decimal number) (IsAscii-decimal number small))))

pub returns-in-Ok-clause-small : goal.returns-in-Ok-clause-small
returns-in-Ok-clause-small c = parsed_small c.ok.result c.in-Ok.text.now c.parse.result c.ok.ensures.value c.parse.ensures.value.0
