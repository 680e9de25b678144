use Rattle.std.proofs.Common.{◌≡◌, sym, true, false}
use Rattle.std.proofs.lemmas.Bool.{both_ways}
use Rattle.graph_core.specs.Closing.{is_listed}
use Rattle.graph_core.specs.Inner.Reach.{lists_of, reached}
use Rattle.graph_core.specs.Faults.{Reaches}
use Rattle.graph_core.proofs.Reaching.{listed_has, has_listed, complete, reached_sound}
use Rattle.graph_core.proofs.Checks.{below_more}
use Rattle.graph_core.proofs.build.least_on_cycle.Goals as goal

pub returns-then-contains : goal.returns-then-contains
returns-then-contains c =
    let found : is_listed (reached (lists_of c.args.edges.now) c.loop-start.start) c.loop-start.start ≡ true =
    rw (← c.in_ok-seen.ensures, ← c.deref.ensures.value) (sym c.if-contains.ensures.value) in
    record {
      holds = reached_sound (lists_of c.args.edges.now) c.loop-start.start c.loop-start.start (listed_has (reached (lists_of c.args.edges.now) c.loop-start.start) c.loop-start.start found);
      least = c.loop-start.invariant;
    }

pub loop-start-preserved : goal.loop-start-preserved
loop-start-preserved c =
    let absent : is_listed (reached (lists_of c.args.edges.now) c.loop-start.start) c.loop-start.start ≡ false =
    rw (← c.in_ok-seen.ensures, ← c.deref.ensures.value) (sym c.if-contains.ensures.value) in
    below_more (λ v. Reaches (lists_of c.args.edges.now) v v) c.loop-start.start c.loop-start.invariant
    (λ r. both_ways (is_listed (reached (lists_of c.args.edges.now) c.loop-start.start) c.loop-start.start) absent
    (has_listed (reached (lists_of c.args.edges.now) c.loop-start.start) c.loop-start.start (complete (lists_of c.args.edges.now) c.requires.within c.loop-start.start c.loop-start.start r)))
