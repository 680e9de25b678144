-- What a walk and a pass leave of a tree.
use Rattle.std.proofs.Common.{ℕ, Option, sym, subst, ◌∙◌, arith}
use Rattle.file_pass.proofs.TreeLemmas.{no_wider_none}
use Rattle.file_pass.specs.Taken.{KeepsTreeAt}
use Rattle.file_pass.specs.TreeTerms.{GoesLater, IsNoWider, SameHandles}
use Rattle.outside.proofs.Telling.{told_then, told_weaker}
use Rattle.outside.specs.TreeMeaning.{TreeMeaning}
use Rattle.poll_core.specs.LeavesTree.{LeavesTree}
use Rattle.standing.proofs.MomentLemmas.{later_then}
use Rattle.tree_walk.specs.Calls.{KeepsHandles, Lasts}

module _ {T : Type 0} (meaning : TreeMeaning T) where
  pub plan_of_walk : {old new : T} → Lasts meaning old new → LeavesTree meaning old new
  plan_of_walk {old} {new} lasts = record {
    later = told_weaker KeepsHandles GoesLater (meaning.world old) (meaning.world new) (λ x y keeps. keeps.later) lasts.world;
    handles = told_weaker KeepsHandles SameHandles (meaning.world old) (meaning.world new) (λ x y keeps. keeps.handles) lasts.world;
    faults = lasts.faults;
    plan = lasts.plan;
    bound = lasts.bound;
    widest = subst (λ (w : Option ℕ). IsNoWider 65536 (meaning.widest old) w) (sym lasts.widest) (no_wider_none 65536 (meaning.widest old));
  }

  pub plan_then : {old mid new : T} → Lasts meaning old mid → KeepsTreeAt meaning 65536 mid new → LeavesTree meaning old new
  plan_then {old} {mid} {new} lasts keeps =
      let k = keeps.1 in
      record {
        later = told_then KeepsHandles GoesLater GoesLater (meaning.world old) (meaning.world mid) (meaning.world new) (λ x y z a b. later_then x.history y.history z.history a.later b) lasts.world k.later;
        handles = told_then KeepsHandles SameHandles SameHandles (meaning.world old) (meaning.world mid) (meaning.world new) (λ x y z a b. b ∙ a.handles) lasts.world k.handles;
        faults = record { later = omega (arith, lasts.faults.later, k.faults.later); in_range = λ within. k.faults.in_range (lasts.faults.in_range within) };
        plan = k.plan ∙ lasts.plan;
        bound = k.bound ∙ lasts.bound;
        widest = subst (λ (w : Option ℕ). IsNoWider 65536 w (meaning.widest new)) lasts.widest k.widest;
      }
