use Rattle.std.proofs.Common.{◌≡◌, ◌∙◌, length, sym, eqb-true}
use Rattle.pipeline.proofs.Texts.{no_nodes}
use Rattle.pipeline.proofs.Pipeline.source.Goals as goal

pub returns : goal.returns
returns c =
    let none : length c.args.self.now.graph ≡ 0 = eqb-true (length c.args.self.now.graph) 0 (sym (rw c.nodes.ensures at c.is_empty.ensures) ∙ c.if-not-is_empty.false) in
    (no_nodes c.args.self.now.graph none, rw (c.as_fields-resource.ensures, c.in_ok-attributes.ensures, c.in_ok-number.ensures) at c.in_ok-template.ensures)
