-- What calls of a pass leave of a tree, one after another.
use Rattle.std.proofs.Common.{◌≡◌, ℕ, ◌+◌, ◌≤◌, Option, Some, None, refl, sym, subst, ◌∙◌, arith}
use Rattle.outside.specs.Count.{NeverFalls}
use Rattle.outside.specs.Reading.{widest_after}
use Rattle.outside.specs.World.{Told}
use Rattle.outside.specs.TreeMeaning.{TreeMeaning}
use Rattle.outside.proofs.Counting.{never_falls_none, never_falls_same, never_falls_rose, never_falls_then}
use Rattle.outside.proofs.Telling.{told_same, told_then}
use Rattle.standing.proofs.MomentLemmas.{later_none, later_then}
use Rattle.file_pass.specs.TreeTerms.{KeepsTree, GoesLater, SameHandles, IsNoWider, HasEnding}
use Rattle.file_pass.specs.declared.ending.Ending.{Ending}
use Rattle.file_pass.specs.declared.ending.Ending.TheVariants.{Whole, Failed, Shrunk}

pub no_wider_none : (most : ℕ) (now : Option ℕ) → IsNoWider most now now
no_wider_none most None = tt
no_wider_none most (Some n) = omega arith

pub no_wider_then : (most : ℕ) (old mid new : Option ℕ) → IsNoWider most old mid → IsNoWider most mid new → IsNoWider most old new
no_wider_then most None None None a b = tt
no_wider_then most None None (Some n) a b = b
no_wider_then most None (Some m) new a b = absurd a
no_wider_then most (Some k) None new a b = absurd a
no_wider_then most (Some k) (Some m) None a b = b
no_wider_then most (Some k) (Some m) (Some n) a b = omega (arith, a, b)

pub no_wider_read : (most size : ℕ) (old : Option ℕ) → size ≤ most → IsNoWider most old (widest_after size old)
no_wider_read most size None le = tt
no_wider_read most size (Some k) le = omega (arith, le)

pub no_wider_within : (part most : ℕ) (old new : Option ℕ) → part ≤ most → IsNoWider part old new → IsNoWider most old new
no_wider_within part most None None le a = tt
no_wider_within part most None (Some n) le a = a
no_wider_within part most (Some k) None le a = a
no_wider_within part most (Some k) (Some n) le a = omega (arith, le, a)

pub ending_falls : (ending : Ending) (before after : ℕ) → HasEnding ending before after → NeverFalls before after
ending_falls Whole before after same = never_falls_same same
ending_falls Failed before after rose = never_falls_rose rose
ending_falls Shrunk before after same = never_falls_same same

module _ {T : Type 0} (meaning : TreeMeaning T) (most : ℕ) where
  pub keeps_tree_none : (tree : T) → KeepsTree meaning most 0 tree tree
  keeps_tree_none tree = record {
    later = told_same GoesLater (meaning.world tree) (λ world. later_none world.history);
    handles = told_same SameHandles (meaning.world tree) (λ world. refl);
    faults = never_falls_none (meaning.faults tree);
    nameless = refl;
    plan = refl;
    bound = refl;
    taken_then = omega arith;
    widest = no_wider_none most (meaning.widest tree);
  }

  pub keeps_tree_then : (taken more : ℕ) (old mid new : T) → KeepsTree meaning most taken old mid → KeepsTree meaning most more mid new → KeepsTree meaning most (taken + more) old new
  keeps_tree_then taken more old mid new first second = record {
    later = told_then GoesLater GoesLater GoesLater (meaning.world old) (meaning.world mid) (meaning.world new) (λ x y z a b. later_then x.history y.history z.history a b) first.later second.later;
    handles = told_then SameHandles SameHandles SameHandles (meaning.world old) (meaning.world mid) (meaning.world new) (λ x y z a b. b ∙ a) first.handles second.handles;
    faults = never_falls_then first.faults second.faults;
    nameless = second.nameless ∙ first.nameless;
    plan = second.plan ∙ first.plan;
    bound = second.bound ∙ first.bound;
    taken_then = omega (arith, first.taken_then, second.taken_then);
    widest = no_wider_then most (meaning.widest old) (meaning.widest mid) (meaning.widest new) first.widest second.widest;
  }

  pub keeps_tree_within : (taken other : ℕ) (old new : T) → taken ≤ other → KeepsTree meaning most taken old new → KeepsTree meaning most other old new
  keeps_tree_within taken other old new le keeps = record {
    later = keeps.later;
    handles = keeps.handles;
    faults = keeps.faults;
    nameless = keeps.nameless;
    plan = keeps.plan;
    bound = keeps.bound;
    taken_then = omega (arith, le, keeps.taken_then);
    widest = keeps.widest;
  }

  -- one read
  pub keeps_tree_read : (ending : Ending) (count size : ℕ) (old new : T) → size ≤ most → Told GoesLater (meaning.world old) (meaning.world new) → Told SameHandles (meaning.world old) (meaning.world new) → HasEnding ending (meaning.faults old) (meaning.faults new) → meaning.nameless new ≡ meaning.nameless old
      → meaning.plan new ≡ meaning.plan old → meaning.bound new ≡ meaning.bound old → meaning.taken new ≤ meaning.taken old + count → meaning.widest new ≡ widest_after size (meaning.widest old) → KeepsTree meaning most count old new
  keeps_tree_read ending count size old new le later handles cause nameless plan bound taken widest = record {
    later = later;
    handles = handles;
    faults = ending_falls ending (meaning.faults old) (meaning.faults new) cause;
    nameless = nameless;
    plan = plan;
    bound = bound;
    taken_then = taken;
    widest = subst (λ (w : Option ℕ). IsNoWider most (meaning.widest old) w) (sym widest) (no_wider_read most size (meaning.widest old) le);
  }

  -- the same of shorter buffers
  pub keeps_tree_wider : (part taken : ℕ) (old new : T) → part ≤ most → KeepsTree meaning part taken old new → KeepsTree meaning most taken old new
  keeps_tree_wider part taken old new le keeps = record {
    later = keeps.later;
    handles = keeps.handles;
    faults = keeps.faults;
    nameless = keeps.nameless;
    plan = keeps.plan;
    bound = keeps.bound;
    taken_then = keeps.taken_then;
    widest = no_wider_within part most (meaning.widest old) (meaning.widest new) le keeps.widest;
  }

  -- a read more, into a shorter buffer, and so many bytes are all that reads gave
  pub keeps_tree_on : (part taken more all : ℕ) (old mid new : T) → KeepsTree meaning most taken old mid → KeepsTree meaning part more mid new → taken + more ≤ all → part ≤ most → KeepsTree meaning most all old new
  keeps_tree_on part taken more all old mid new first second le few = keeps_tree_within (taken + more) all old new le (keeps_tree_then taken more old mid new first (keeps_tree_wider part more mid new few second))
