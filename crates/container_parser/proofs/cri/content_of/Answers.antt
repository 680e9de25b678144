use Rattle.std.proofs.Common.{◌≡◌, ℕ, None, sym, ap, subst, ◌∙◌}
use Rattle.std.specs.List.{before_first}
use Rattle.json_text.specs.Leftmost.{IsLeftmostFault}
use Rattle.container_parser.specs.CriLines.{IsContent, tagged_partial}
use Rattle.container_parser.specs.Words.{is_space}
use Rattle.container_parser.proofs.Contents.{content_fault}
use Rattle.container_parser.proofs.cri.content_of.Goals as goal

pub returns-in-None-clause-fault : goal.returns-in-None-clause-fault
returns-in-None-clause-fault c =
    let none : tagged_partial (before_first is_space c.args.text.now) ≡ None = ap tagged_partial (sym c.at_space.ensures.word) ∙ sym c.tagged_partial.ensures ∙ c.in-None.is in
    subst (λ (n : ℕ). IsLeftmostFault IsContent c.args.text.now n) (sym c.tag_fault.ensures) (content_fault c.args.text.now none)
