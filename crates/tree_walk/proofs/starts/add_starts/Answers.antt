use Rattle.std.proofs.Common.{◌≡◌, ℕ, List, ◌∷◌, [], ◌++◌, ◌∙◌, ap, arith}
use Rattle.std.proofs.lemmas.List.{take_all}
use Rattle.std.specs.Global.{Vec}
use Rattle.tree_walk.proofs.Lists.{added, passed}
use Rattle.tree_walk.specs.Depth.{depth, level_of}
use Rattle.tree_walk.proofs.starts.add_starts.Goals as goal
use Rattle.tree_walk.proofs.starts.add_starts.Goals.{then-min-level+in_ok-share+in_ok-push, else-min-level}

pub loop-start-preserved : goal.loop-start-preserved
loop-start-preserved c =
    let start : List ℕ = c.start-item.result in
    let same : depth c.as_str.result.now ≡ depth start = ap depth c.as_str.ensures in
    let level : c.min.result ≡ level_of start = omega (arith, c.min.ensures, c.depth.ensures, same) in
    elim c.if-min-level.branch [
      | then-min-level+in_ok-share+in_ok-push w ↦ (
          let is : c.if-min-level.folders.items ≡ c.loop-start.folders.items ++ start ∷ [] =
          ap (λ (v : Vec (List ℕ)). v.items) w.folders-is ∙ w.in_ok-push.ensures.items ∙ ap (λ (t : List ℕ). c.loop-start.folders.items ++ t ∷ []) w.in_ok-share.ensures in
          rw is
          (added (λ folder. level_of folder ≡ c.args.level) c.args.starts.now c.loop-start.start-index start c.loop-start-test.true c.start-item.is c.args.folders.now.items c.loop-start.folders.items c.loop-start.invariant (omega (arith, level, w.if-min-level.true)))
          )
      | else-min-level w ↦ (
          let is : c.if-min-level.folders.items ≡ c.loop-start.folders.items = ap (λ (v : Vec (List ℕ)). v.items) w.folders-is in
          rw is
          (passed (λ folder. level_of folder ≡ c.args.level) c.args.starts.now c.loop-start.start-index start c.loop-start-test.true c.start-item.is c.args.folders.now.items c.loop-start.folders.items c.loop-start.invariant (λ due. absurd (w.if-min-level.false (level ∙ due))))
          )
    ]

pub returns : goal.returns
returns c = rw (take_all c.loop-start.start-index c.args.starts.now c.loop-start-test.false) at c.loop-start.invariant
