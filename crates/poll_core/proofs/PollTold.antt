-- What a pass that came to its end is, over a tree that may tell its history.
use Rattle.std.proofs.Common.{◌≡◌, ◌⊎◌, ℕ, ◌+◌, ◌≤◌, List, length, Option, None, Some, sym, ap, subst, ◌∙◌, arith}
use Rattle.file_pass.specs.AllTaken.{AllTaken}
use Rattle.file_pass.specs.Fed.{poll_of}
use Rattle.file_pass.specs.Full.{lines_text}
use Rattle.file_pass.specs.Gain.{Counted, Gain}
use Rattle.file_pass.specs.Moment.{Meanings, Moment, taking_at}
use Rattle.file_pass.specs.Step.{step}
use Rattle.file_pass.specs.Turns.{looks_of}
use Rattle.file_pass.specs.declared.counts.Counts.{Counts}
use Rattle.file_pass.specs.declared.setup.Setup.{Setup}
use Rattle.file_pass.specs.declared.taking.Taking.{Taking}
use Rattle.file_tracker.specs.declared.row.Row.{Row}
use Rattle.outside.specs.Count.{raised}
use Rattle.outside.specs.Lawful.{IsLawful, TellsLawful}
use Rattle.outside.specs.World.{World, Told}
use Rattle.poll_core.proofs.PollPass.{Joined, are_deep, joined, no_deep_out, summed}
use Rattle.poll_core.specs.Inner.Begun.{no_counts}
use Rattle.poll_core.specs.Inner.Passed.{Passed}
use Rattle.poll_core.proofs.PollRows.{begins, next_of_session}
use Rattle.poll_core.specs.Polled.{Counting, IsPass, IsSummed, RoseBy, advance, counting}
use Rattle.poll_core.specs.SessionParts.{checkpoint_of_session, poll_of_session, rules_of_session, kept_of}
use Rattle.poll_core.specs.Summed.{IsSummaryOf, HasDeepFolder}
use Rattle.poll_core.specs.declared.session.Session.{Session}
use Rattle.poll_core.specs.declared.summary.Summary.{Summary}
use Rattle.standing.specs.Marks.{Mark}
use Rattle.standing.specs.Pass.{IsObserved, WasHidden}
use Rattle.standing.specs.Poll.{Poll}
use Rattle.standing.specs.Sums.{capped}
use Rattle.tree_walk.specs.Listings.{failures}
use Rattle.tree_walk.specs.Patterns.{patterns}
use Rattle.tree_walk.specs.Walked.{Ascends, FindsIn}
use Rattle.tree_walk.specs.declared.walk.Walk.{Walk}

-- ---- over a told history

-- the next checkpoint has the time that is to be kept
abbrev pub IsTimed : Session → ℕ → Taking → List Mark → Type 0
IsTimed session observed taking added = IsObserved (poll_of_session session) (checkpoint_of_session session) (next_of_session session observed taking) added

module _ (session : Session) (observed : ℕ) (taking : Taking) (paths deep : List (List ℕ)) (fails unnamed : ℕ) (gain : Gain) (added : List Mark) (counts : Counting) (mid_count : ℕ) (sorted : Ascends paths) (end_is : taking.end ≡ kept_of session + length (lines_text added)) (timed : IsTimed session observed taking added) (rose : raised counts.before.faults fails ≤ mid_count) (rose_then : raised mid_count gain.failed ≤ counts.after.faults) (read : counts.after.taken ≤ counts.before.taken + gain.taken) where
  abbrev Found : World → World → Type 0
  Found = FindsIn (patterns (rules_of_session session).include (rules_of_session session).exclude) paths deep (failures fails unnamed)

  abbrev Took : World → World → Type 0
  Took = AllTaken (poll_of_session session) paths (step session.tracker taking.tracker gain added)

  join : (old mid new : World) (found : Found old mid) (took : Took mid new) → Joined (poll_of_session session) paths deep fails unnamed session.tracker taking.tracker gain added old mid new found took sorted session.eras session.observed observed (kept_of session) taking.end counts.before.faults counts.after.faults
  join old mid new found took =
      joined (poll_of_session session) paths deep fails unnamed session.tracker taking.tracker gain added old mid new found took sorted session.eras session.observed observed (kept_of session) taking.end counts.before.faults mid_count counts.after.faults end_is timed rose rose_then

  pass_told : (old mid new : Option World) → Told Found old mid → Told Took mid new → Told (IsPass session (advance (next_of_session session observed taking) added) counts) old new
  pass_told None None None found took = tt
  pass_told None None (Some new) found took = absurd took
  pass_told None (Some mid) new found took = absurd found
  pass_told (Some old) None new found took = absurd found
  pass_told (Some old) (Some mid) None found took = absurd took
  pass_told (Some old) (Some mid) (Some new) found took = record { looks = looks_of took.turns; pass = (join old mid new found took).pass; read = omega (arith, read, took.gains.taken) }

  module _ (walk : Walk) (summary : Summary) (counted : Counted no_counts gain taking.counts) (is : IsSummaryOf walk taking summary) (failed : walk.failed ≡ capped (fails + unnamed)) (deep_once : Ascends deep) (deep_is : walk.deep ≡ capped (length deep)) (lines : gain.lines ≡ length added) where
    sums_of_one : (old mid new : World) → Found old mid → Took mid new → IsLawful new.history → IsSummed session (advance (next_of_session session observed taking) added) summary counts old new
    sums_of_one old mid new found took lawful =
        let j = join old mid new found took in
        let poll : Poll = poll_of_session session in
        record {
          looks = looks_of took.turns;
          pass = j.pass;
          read = omega (arith, read, took.gains.taken);
          sums = summed poll paths deep fails unnamed session.tracker taking.tracker gain added old mid new found took sorted walk taking summary session.eras session.observed observed (kept_of session) counts.before.faults counts.after.faults j lawful counted is failed lines;
          deep = deep;
          deep_once = deep_once;
          deep_is = is.deep ∙ deep_is;
          are_deep = are_deep poll paths deep fails unnamed session.tracker taking.tracker gain added old mid new found took sorted;
          no_deep_left_out = λ path file included beyond throughout.
              subst (λ (unlisteds : List (List ℕ)). HasDeepFolder deep path ⊎ WasHidden j.pass.misses unlisteds path) (sym j.unlisteds_are)
              (subst (λ (misses : List (List ℕ)). HasDeepFolder deep path ⊎ WasHidden misses found.unlisteds path) (sym j.misses_are)
              (no_deep_out poll paths deep fails unnamed session.tracker taking.tracker gain added old mid new found took sorted path file included beyond throughout));
        }

    sums_told : (old mid new : Option World) → Told Found old mid → Told Took mid new → TellsLawful new → Told (IsSummed session (advance (next_of_session session observed taking) added) summary counts) old new
    sums_told None None None found took lawful = tt
    sums_told None None (Some new) found took lawful = absurd took
    sums_told None (Some mid) new found took lawful = absurd found
    sums_told (Some old) None new found took lawful = absurd found
    sums_told (Some old) (Some mid) None found took lawful = absurd took
    sums_told (Some old) (Some mid) (Some new) found took lawful = sums_of_one old mid new found took lawful

-- ---- over any tree

module _ {T D : Type 0} (means : Meanings T D) (session : Session) (setup : Setup) (walk : Walk) (taking : Taking) (old new : Moment T D) (poll_is : poll_of setup ≡ poll_of_session session) (passed : Passed means setup walk (begins session old) (taking_at taking new)) (observed : ℕ) (timed : IsTimed session observed taking passed.takes.takes.added) where
  pub added_by : List Mark
  added_by = passed.takes.takes.added

  pub end_by : taking.end ≡ kept_of session + length (lines_text passed.takes.takes.added)
  end_by = passed.takes.takes.appends.end_is ∙ ap (λ (n : ℕ). n + length (lines_text passed.takes.takes.added)) passed.is_begun.end_is

  found_by : Told (FindsIn (patterns (rules_of_session session).include (rules_of_session session).exclude) walk.paths.items passed.finds.deep_folders (failures passed.finds.fails passed.finds.unnamed)) (means.trees.world old.tree) (means.trees.world passed.between)
  found_by = subst (λ (poll : Poll). Told (FindsIn (patterns poll.rules.include poll.rules.exclude) walk.paths.items passed.finds.deep_folders (failures passed.finds.fails passed.finds.unnamed)) (means.trees.world old.tree) (means.trees.world passed.between)) poll_is passed.finds.world

  took_by : Told (AllTaken (poll_of_session session) walk.paths.items (step session.tracker taking.tracker passed.takes.gain passed.takes.takes.added)) (means.trees.world passed.between) (means.trees.world new.tree)
  took_by =
      subst (λ (rows : List Row). Told (AllTaken (poll_of_session session) walk.paths.items (step rows taking.tracker passed.takes.gain passed.takes.takes.added)) (means.trees.world passed.between) (means.trees.world new.tree)) passed.is_begun.rows_are
      (subst (λ (poll : Poll). Told (AllTaken poll walk.paths.items (step passed.begun.tracker taking.tracker passed.takes.gain passed.takes.takes.added)) (means.trees.world passed.between) (means.trees.world new.tree)) poll_is passed.takes.takes.world)

  read_by : means.trees.taken new.tree ≤ means.trees.taken old.tree + passed.takes.gain.taken
  read_by = omega (arith, passed.takes.takes.read, passed.walk_read)

  pub is_pass : Told (IsPass session (advance (next_of_session session observed taking) passed.takes.takes.added) (counting means.trees old.tree new.tree)) (means.trees.world old.tree) (means.trees.world new.tree)
  is_pass = pass_told session observed taking walk.paths.items passed.finds.deep_folders passed.finds.fails passed.finds.unnamed passed.takes.gain passed.takes.takes.added (counting means.trees old.tree new.tree) (means.trees.faults passed.between)
      passed.finds.ascends end_by timed passed.finds.counts.rose passed.takes.takes.rose read_by (means.trees.world old.tree) (means.trees.world passed.between) (means.trees.world new.tree) found_by took_by

  counted_by : Counted no_counts passed.takes.gain taking.counts
  counted_by = subst (λ (counts : Counts). Counted counts passed.takes.gain taking.counts) passed.is_begun.counts_are passed.takes.counted

  pub is_summed : (summary : Summary) → IsSummaryOf walk taking summary → TellsLawful (means.trees.world new.tree) → Told (IsSummed session (advance (next_of_session session observed taking) passed.takes.takes.added) summary (counting means.trees old.tree new.tree)) (means.trees.world old.tree) (means.trees.world new.tree)
  is_summed summary is lawful = sums_told session observed taking walk.paths.items passed.finds.deep_folders passed.finds.fails passed.finds.unnamed passed.takes.gain passed.takes.takes.added (counting means.trees old.tree new.tree) (means.trees.faults passed.between)
      passed.finds.ascends end_by timed passed.finds.counts.rose passed.takes.takes.rose read_by walk summary counted_by is passed.finds.failed passed.finds.deep_once passed.finds.deep passed.takes.takes.lines
      (means.trees.world old.tree) (means.trees.world passed.between) (means.trees.world new.tree) found_by took_by lawful

  pub lines_by : (summary : Summary) → IsSummaryOf walk taking summary → summary.lines ≡ length passed.takes.takes.added
  lines_by summary is = omega (arith, is.lines, counted_by.lines, passed.takes.takes.lines)

  -- each failure that is told raised the old.tree's count, and names that aren't UTF-8 that of names
  pub rose_by : (summary : Summary) → IsSummaryOf walk taking summary → RoseBy means.trees summary.failed old.tree new.tree
  rose_by summary is = record {
    failures = passed.finds.fails + passed.takes.gain.failed;
    unnamed = passed.finds.unnamed;
    are = omega (arith, is.failed, counted_by.failed, passed.finds.failed);
    rose = omega (arith, passed.finds.counts.rose, passed.takes.takes.rose);
    rose_by_names = λ few. passed.nameless ∙ passed.finds.counts.nameless few;
  }
