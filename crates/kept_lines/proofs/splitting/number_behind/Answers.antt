use Rattle.std.proofs.Common.{◌∙◌, ◌+◌}
use Rattle.std.proofs.lemmas.List.{take_rest}
use Rattle.kept_lines.proofs.Texts.{id_behind, id_quoted}
use Rattle.kept_lines.proofs.splitting.number_behind.Goals as goal

pub returns-in_default : goal.returns-in_default
returns-in_default c = λ front number small e. absurd (id_quoted c.args.text.now front number e c.in_default.ensures)

pub returns : goal.returns
returns c = λ front number small e.
    c.parsed.ensures.number number small (take_rest c.args.text.now (c.in-Some.quote + 1) ∙ id_behind c.args.text.now front number c.in-Some.quote e c.in-Some.ensures)
