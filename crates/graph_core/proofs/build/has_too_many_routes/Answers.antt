use Rattle.std.proofs.Common.{◌≡◌, ◌∙◌, ap, sym, length, ℕ}
use Rattle.graph_core.specs.Inner.Reach.{lists_of, capped_counts}
use Rattle.graph_core.specs.Faults.{routes_from_first}
use Rattle.graph_core.proofs.Checks.{length_lists, counted, many_routes}
use Rattle.graph_core.proofs.build.has_too_many_routes.Goals as goal

pub returns : goal.returns
returns c =
    let edges = lists_of c.args.edges.now in
    let counts : c.deref.result.now ≡ capped_counts (lists_of c.args.edges.now) (length (lists_of c.args.edges.now)) =
    c.deref.ensures.value ∙ (c.in_ok-counts.ensures ∙ ap (λ (n : ℕ). capped_counts (lists_of c.args.edges.now) n) (sym (length_lists c.args.edges.now))) in
    many_routes (routes_from_first (lists_of c.args.edges.now)) c.routes_through-routes.result
    (c.routes_through-routes.ensures ∙ counted (lists_of c.args.edges.now) c.deref.result.now counts)
