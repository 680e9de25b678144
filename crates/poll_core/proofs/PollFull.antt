-- A pass in which the output would have got too long.
use Rattle.std.proofs.Common.{◌≡◌, ℕ, zero, suc, ◌+◌, ◌<◌, Less, List, [], ◌∷◌, ◌++◌, length, map, take, Option, None, Some, sym, ap, subst, ◌∙◌}
use Rattle.std.specs.Cmp.Lexicographic.{slice_cmp}
use Rattle.std.specs.List.{AllByRecursion}
use Rattle.std.specs.List.Sorted.{IsStrictlySortedBy}
use Rattle.std.specs.Ordering.{nat_cmp}
use Rattle.std.specs.Prelude.{max}
use Rattle.file_pass.proofs.Turned.{looks_ascend}
use Rattle.file_pass.specs.Fed.{poll_of}
use Rattle.file_pass.specs.Full.{line_of, overflow}
use Rattle.file_pass.specs.Moment.{Moment}
use Rattle.file_pass.specs.Overflow.{AllFill}
use Rattle.file_pass.specs.Turns.{looks_at, looks_of, misses_of}
use Rattle.file_pass.specs.declared.setup.Setup.{Setup}
use Rattle.outside.specs.TreeMeaning.{TreeMeaning}
use Rattle.outside.specs.World.{World, Told}
use Rattle.poll_core.proofs.PollLines.{first_past}
use Rattle.poll_core.proofs.PollPass.{come_earlier}
use Rattle.poll_core.proofs.PollRows.{begins}
use Rattle.poll_core.specs.Overflows.{Overflows}
use Rattle.poll_core.specs.Inner.Passed.{PassFills}
use Rattle.poll_core.specs.SessionParts.{poll_of_session, rules_of_session, kept_of, limit_of}
use Rattle.poll_core.specs.declared.session.Session.{Session}
use Rattle.standing.specs.Look.{Look}
use Rattle.standing.specs.Marks.{Mark}
use Rattle.standing.specs.Poll.{Poll}
use Rattle.tree_walk.specs.Listings.{failures}
use Rattle.tree_walk.specs.Patterns.{patterns}
use Rattle.tree_walk.specs.Walked.{Ascends, FindsIn}

abbrev Texts : Type 0
Texts = List (List ℕ)

fewer : (first : List ℕ) (count : ℕ) (texts : Texts) → AllByRecursion (λ y. slice_cmp nat_cmp first y ≡ Less) texts → AllByRecursion (λ y. slice_cmp nat_cmp first y ≡ Less) (take count texts)
fewer first zero texts all = tt
fewer first (suc count) [] all = tt
fewer first (suc count) (text ∷ texts) all = (all.0, fewer first count texts all.1)

-- the first of sorted texts are sorted
first_sorted : (count : ℕ) (texts : Texts) → Ascends texts → Ascends (take count texts)
unfolding IsStrictlySortedBy
first_sorted zero texts sorted = tt
first_sorted (suc count) [] sorted = tt
first_sorted (suc count) (text ∷ texts) sorted = (fewer text count texts sorted.0, first_sorted count texts sorted.1)

module _ (session : Session) (full limit fails unnamed : ℕ) (paths deep : Texts) (some : (mark : Mark) → 0 < length (line_of mark)) (limit_is : limit ≡ max (limit_of session) (kept_of session)) (sorted : Ascends paths) where
  abbrev Found : World → World → Type 0
  Found = FindsIn (patterns (rules_of_session session).include (rules_of_session session).exclude) paths deep (failures fails unnamed)

  abbrev Fills : World → World → Type 0
  Fills = AllFill (poll_of_session session) (overflow limit (kept_of session) full) paths session.tracker

  overflows : (old mid new : World) → Found old mid → Fills mid new → Overflows session full old new
  overflows old mid new found fills = record {
    here = fills.here;
    earlier = looks_of fills.earlier;
    misses = misses_of fills.earlier;
    unlisteds = found.unlisteds;
    all_looks = fills.all_looks ∙ ap (λ (l : List ℕ). map (λ (look : Look). look.file) (fills.here ∷ looks_of fills.earlier) ++ l) found.calls.no_looks;
    all_misses = fills.all_misses ∙ ap (λ (l : Texts). misses_of fills.earlier ++ l) found.calls.no_misses;
    all_unlisteds = fills.no_unlisted ∙ found.calls.all_unlisteds;
    come = come_earlier (rules_of_session session) (fills.here ∷ looks_of fills.earlier) old.history mid.history new.history found.calls.later fills.come;
    ascend = looks_ascend (take (length fills.earlier + 1) paths) (looks_at fills.here ∷ fills.earlier) fills.each (first_sorted (length fills.earlier + 1) paths sorted);
    read_on = fills.read_on;
    whole = fills.whole;
    fills = first_past some (limit_of session) (kept_of session) _ full (rw (sym limit_is) fills.crosses);
  }

  told : (old mid new : Option World) → Told Found old mid → Told Fills mid new → Told (Overflows session full) old new
  told None None None found fills = tt
  told None None (Some new) found fills = absurd fills
  told None (Some mid) new found fills = absurd found
  told (Some old) None new found fills = absurd found
  told (Some old) (Some mid) None found fills = absurd fills
  told (Some old) (Some mid) (Some new) found fills = overflows old mid new found fills

pub overflows_by : {T D : Type 0} (trees : TreeMeaning T) (session : Session) (setup : Setup) (full : ℕ) (outside : Moment T D) (tree_after : T) → PassFills trees setup full (begins session outside) tree_after → poll_of setup ≡ poll_of_session session
    → setup.limit ≡ max (limit_of session) (kept_of session) → ((mark : Mark) → 0 < length (line_of mark)) → Told (Overflows session full) (trees.world outside.tree) (trees.world tree_after)
overflows_by trees session setup full outside tree_after fills poll_is limit_is some =
    let walk = fills.walk in
    let finds = fills.finds in
    let found = subst (λ (poll : Poll). Told (FindsIn (patterns poll.rules.include poll.rules.exclude) walk.paths.items finds.deep_folders (failures finds.fails finds.unnamed)) (trees.world outside.tree) (trees.world fills.between)) poll_is finds.world in
    let fill = subst (λ (poll : Poll). Told (AllFill poll (overflow setup.limit session.kept full) walk.paths.items session.tracker) (trees.world fills.between) (trees.world tree_after)) poll_is fills.fills in
    told session full setup.limit finds.fails finds.unnamed walk.paths.items finds.deep_folders some limit_is finds.ascends (trees.world outside.tree) (trees.world fills.between) (trees.world tree_after) found fill
