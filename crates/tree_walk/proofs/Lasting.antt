-- What a tree keeps while its folders are listed.
use Rattle.std.proofs.Common.{◌≡◌, ℕ, ◌≤◌, List, refl, ◌∙◌, arith}
use Rattle.std.specs.Prelude.{Result, Ok, Err}
use Rattle.outside.proofs.Counting.{never_falls_none, never_falls_then, never_falls_same, never_falls_rose}
use Rattle.outside.proofs.Moving.{moves_by_moment}
use Rattle.outside.proofs.Telling.{told_same, told_weaker, told_then}
use Rattle.outside.specs.Count.{HasCause, NeverFalls, raised, last_count}
use Rattle.outside.specs.Listing.{Lists, ListsWithin, nameless_after}
use Rattle.outside.specs.TreeMeaning.{TreeMeaning}
use Rattle.outside.specs.World.{History, Told}
use Rattle.outside.specs.declared.fault.CallFault.{CallFault}
use Rattle.outside.specs.declared.fault.CallFault.TheVariants.{Failed, Memory}
use Rattle.outside.specs.declared.tree.Listed.{Listed}
use Rattle.outside.specs.declared.tree.Listed.TheVariants.{Items, Gone}
use Rattle.standing.proofs.MomentLemmas.{later_none, later_then}
use Rattle.standing.specs.Moments.{IsLater}
use Rattle.tree_walk.proofs.Worlds.{later_moves, lists_failed}
use Rattle.tree_walk.specs.Calls.{KeepsHandles, Lasts}

lists_later : (folder : List ℕ) (result : Result Listed CallFault) (old new : History) → ListsWithin folder result old new → IsLater old new
lists_later folder (Ok (Items items unnamed)) old new within = later_moves (moves_by_moment within.1)
lists_later folder (Ok Gone) old new within = later_moves (moves_by_moment within)
lists_later folder (Err Failed) old new within = (lists_failed within).later
lists_later folder (Err Memory) old new within = later_moves within

never_falls_cause : (result : Result Listed CallFault) (before after : ℕ) → HasCause result before after → NeverFalls before after
never_falls_cause (Ok _) before after cause = never_falls_same cause
never_falls_cause (Err Failed) before after cause = never_falls_rose cause
never_falls_cause (Err Memory) before after cause = never_falls_same cause

never_falls_raised : (before after by : ℕ) → before ≤ last_count → after ≡ raised before by → NeverFalls before after
never_falls_raised before after by within is = record { later = omega (arith, within, is); in_range = λ _. omega (arith, is) }

never_falls_nameless : (result : Result Listed CallFault) (before after : ℕ) → before ≤ last_count → after ≡ nameless_after result before → NeverFalls before after
never_falls_nameless (Ok (Items items unnamed)) before after within is = never_falls_raised before after unnamed within is
never_falls_nameless (Ok Gone) before after within is = never_falls_same is
never_falls_nameless (Err _) before after within is = never_falls_same is

module _ {T : Type 0} (meaning : TreeMeaning T) where
  pub lasts_none : (tree : T) → Lasts meaning tree tree
  lasts_none tree = record {
    faults = never_falls_none (meaning.faults tree);
    nameless = λ _. never_falls_none (meaning.nameless tree);
    taken = refl;
    widest = refl;
    plan = refl;
    bound = refl;
    world = told_same KeepsHandles (meaning.world tree) (λ world. record { handles = refl; later = later_none world.history });
  }

  pub lasts_then : (old mid new : T) → Lasts meaning old mid → Lasts meaning mid new → Lasts meaning old new
  lasts_then old mid new a b = record {
    faults = never_falls_then a.faults b.faults;
    nameless = λ within. never_falls_then (a.nameless within) (b.nameless ((a.nameless within).in_range within));
    taken = b.taken ∙ a.taken;
    widest = b.widest ∙ a.widest;
    plan = b.plan ∙ a.plan;
    bound = b.bound ∙ a.bound;
    world = told_then KeepsHandles KeepsHandles KeepsHandles (meaning.world old) (meaning.world mid) (meaning.world new)
        (λ x y z one two. record { handles = two.handles ∙ one.handles; later = later_then x.history y.history z.history one.later two.later }) a.world b.world;
  }

  pub lasts_list : (folder : List ℕ) (result : Result Listed CallFault) (old new : T) → Told (Lists folder result) (meaning.world old) (meaning.world new) → HasCause result (meaning.faults old) (meaning.faults new)
      → meaning.nameless new ≡ nameless_after result (meaning.nameless old) → meaning.taken new ≡ meaning.taken old → meaning.widest new ≡ meaning.widest old → meaning.plan new ≡ meaning.plan old → meaning.bound new ≡ meaning.bound old
      → Lasts meaning old new
  lasts_list folder result old new told cause nameless taken widest plan bound = record {
    faults = never_falls_cause result (meaning.faults old) (meaning.faults new) cause;
    nameless = λ within. never_falls_nameless result (meaning.nameless old) (meaning.nameless new) within nameless;
    taken = taken;
    widest = widest;
    plan = plan;
    bound = bound;
    world = told_weaker (Lists folder result) KeepsHandles (meaning.world old) (meaning.world new)
        (λ x y lists. record { handles = lists.handles; later = lists_later folder result x.history y.history lists.history }) told;
  }
