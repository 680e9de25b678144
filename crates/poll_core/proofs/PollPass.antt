-- A walk, and a pass over the paths that it found, are a pass of the rules, and the numbers are those of its looks.
use Rattle.std.proofs.Common.{◌≡◌, ◌⊎◌, ℕ, ◌+◌, ◌≤◌, List, [], ◌∷◌, ◌++◌, length, map, refl, sym, ap, ◌∙◌, arith, inl, inr}
use Rattle.std.specs.Prelude.{Contains, min}
use Rattle.file_pass.proofs.Turned.{looks_ascend, none_left_out}
use Rattle.file_pass.specs.AllTaken.{AllTaken}
use Rattle.file_pass.specs.Gain.{Counted, Gain}
use Rattle.file_pass.specs.Step.{step}
use Rattle.file_pass.specs.Turns.{looks_of, misses_of, gone_of}
use Rattle.file_pass.specs.declared.taking.Taking.{Taking}
use Rattle.file_tracker.specs.declared.row.Row.{Row}
use Rattle.outside.specs.Count.{raised}
use Rattle.outside.specs.Lawful.{IsLawful}
use Rattle.outside.specs.Seen.{looked, missed}
use Rattle.outside.specs.World.{History, World, names}
use Rattle.outside.specs.declared.tree.Kind.TheVariants.{File, Folder}
use Rattle.poll_core.proofs.GoneLemmas.{Texts, WasLost, gone_differ, gone_there, lost_few}
use Rattle.poll_core.proofs.SessionLemmas.{checkpoint_with}
use Rattle.poll_core.specs.Inner.Begun.{no_counts}
use Rattle.poll_core.specs.Polled.{stretch_of}
use Rattle.poll_core.specs.Summed.{IsDeep, IsSummaryOf, HasDeepFolder, sums_of}
use Rattle.poll_core.specs.declared.summary.Summary.{Summary}
use Rattle.standing.proofs.MomentLemmas.{later_none, later_then}
use Rattle.standing.specs.Look.{Look, Progress}
use Rattle.standing.specs.Looks.{Come}
use Rattle.standing.specs.Marks.{Mark}
use Rattle.standing.specs.Moments.{IsLater, NamesThroughout}
use Rattle.standing.specs.Pass.{IsObserved, IsReachable, OwnCalls, LeavesNoneOut, Pass, WasHidden}
use Rattle.standing.specs.Poll.{Poll}
use Rattle.standing.specs.Rules.{Includes, Rules, output_text}
use Rattle.standing.specs.Sums.{AreSums, partings}
use Rattle.tree_walk.proofs.Worlds.{file_named, named_kind, once_longer}
use Rattle.tree_walk.specs.Listings.{failures}
use Rattle.tree_walk.specs.Patterns.{patterns}
use Rattle.tree_walk.specs.Times.{WasAlways, WasOnce}
use Rattle.tree_walk.specs.Walked.{Ascends, FindsIn, IsHidden, IsMet}
use Rattle.tree_walk.specs.declared.walk.Walk.{Walk}

pub come_earlier : (rules : Rules) (looks : List Look) (old mid new : History) → IsLater old mid → Come rules looks mid new → Come rules looks old new
come_earlier rules [] old mid new later come = later_then old mid new later come
come_earlier rules (here ∷ earlier) old mid new later come = (come_earlier rules earlier old mid here.moment later come.0, come.1)

always_file : (old new : History) (path : List ℕ) (file : ℕ) → NamesThroughout old new path file → WasAlways File old new path
always_file old new path file throughout = λ moment after before. named_kind (names moment) path file (throughout moment after before)

earlier_named : (old mid new : History) (path : List ℕ) (file : ℕ) → IsLater mid new → NamesThroughout old new path file → NamesThroughout old mid path file
earlier_named old mid new path file later throughout = λ moment after before. throughout moment after (later_then moment mid new before later)

later_named : (old mid new : History) (path : List ℕ) (file : ℕ) → IsLater old mid → NamesThroughout old new path file → NamesThroughout mid new path file
later_named old mid new path file later throughout = λ moment after before. throughout moment (later_then old mid moment later after) before

hidden : (misses unlisteds : Texts) (path : List ℕ) → IsHidden unlisteds path → WasHidden misses unlisteds path
hidden misses unlisteds path is = inr is

module _ (poll : Poll) (paths deep : Texts) (fails unnamed : ℕ) (before after : List Row) (gain : Gain) (added : List Mark) (old mid new : World) (found : FindsIn (patterns poll.rules.include poll.rules.exclude) paths deep (failures fails unnamed) old mid) (taken : AllTaken poll paths (step before after gain added) mid new) (sorted : Ascends paths) where
  walked : IsLater old.history mid.history
  walked = found.calls.later

  took : IsLater mid.history new.history
  took = taken.own.later

  own_calls : (count mid_count count_after : ℕ) → raised count fails ≤ mid_count → raised mid_count gain.failed ≤ count_after → OwnCalls (stretch_of old.history new.history count count_after) (looks_of taken.turns) (misses_of taken.turns) found.unlisteds
  own_calls count mid_count count_after rose rose_then = record {
    all_looks = taken.own.all_looks ∙ ap (λ (l : List ℕ). map (λ (here : Look). here.file) (looks_of taken.turns) ++ l) found.calls.no_looks;
    all_misses = taken.own.all_misses ∙ ap (λ (l : Texts). misses_of taken.turns ++ l) found.calls.no_misses;
    all_unlisteds = taken.own.no_unlisted ∙ found.calls.all_unlisteds;
    counted = λ in_range. omega (arith, rose, rose_then, in_range, found.each_fails, taken.gains.failed);
  }

  none_out : LeavesNoneOut poll.rules (stretch_of old.history new.history 0 0) (looks_of taken.turns) (misses_of taken.turns) found.unlisteds
  none_out = λ path file included reachable throughout.
      let always = always_file old.history mid.history path file (earlier_named old.history mid.history new.history path file took throughout) in
      elim (found.none_left_out path included reachable always) [
        | inr is ↦ inr (hidden (misses_of taken.turns) found.unlisteds path is)
        | inl there ↦ elim (none_left_out paths taken.turns taken.each mid.history new.history taken.own.had_none path file there (later_named old.history mid.history new.history path file walked throughout)) [
          | inl looked ↦ inl looked
          | inr missed ↦ inr (inl missed)
        ]
      ]

  -- the pass, with the paths that met faults
  pub record Joined (eras : List (List ℕ)) (observed observed_after kept end count count_after : ℕ) : Type 0 where
    pub pass : Pass poll (stretch_of old.history new.history count count_after) (looks_of taken.turns) (checkpoint_with eras kept observed before) (checkpoint_with eras end observed_after after) added
    pub misses_are : pass.misses ≡ misses_of taken.turns
    pub unlisteds_are : pass.unlisteds ≡ found.unlisteds

  pub joined : (eras : List (List ℕ)) (observed observed_after kept end count mid_count count_after : ℕ) → end ≡ kept + length (output_text poll.rules added) → IsObserved poll (checkpoint_with eras kept observed before) (checkpoint_with eras end observed_after after) added
      → raised count fails ≤ mid_count → raised mid_count gain.failed ≤ count_after → Joined eras observed observed_after kept end count count_after
  joined eras observed observed_after kept end count mid_count count_after end_is timed rose rose_then = record {
    pass = record {
      misses = misses_of taken.turns;
      unlisteds = found.unlisteds;
      calls = own_calls count mid_count count_after rose rose_then;
      come = come_earlier poll.rules (looks_of taken.turns) old.history mid.history new.history walked taken.own.come;
      ascend = looks_ascend paths taken.turns taken.each sorted;
      leaves_none_out = none_out;
      read_on = taken.read_on;
      leads_to = record {
        eras = refl;
        rows = ap (λ (p : Progress). p.rows) (sym taken.leads_to);
        next_id = ap (λ (p : Progress). p.next_id) (sym taken.leads_to);
        lines = ap (λ (p : Progress). p.added) (sym taken.leads_to);
        output_length = end_is;
        observed = timed;
      };
    };
    misses_are = refl;
    unlisteds_are = refl;
  }

  -- a path that led to no file any more had lost it
  was_lost : (path : List ℕ) → Contains (gone_of taken.turns) path → WasLost old.history new.history path
  was_lost path c =
      let once : WasOnce File old.history mid.history path = found.are_files path (gone_there paths taken.turns taken.each path c) in
      let named = file_named (names once.moment) path once.is in
      let had = taken.own.had_none path c in
      record {
        file = named.0;
        first = once.moment;
        after = once.after;
        named = named.1;
        last = had.moment;
        between = later_then once.moment mid.history had.moment once.before had.after;
        before = had.before;
        none = had.none;
      }

  few_gone : IsLawful new.history → length (gone_of taken.turns) + partings old.history ≤ partings new.history
  few_gone lawful = lost_few old.history new.history (gone_of taken.turns) lawful (later_then old.history mid.history new.history walked took) (gone_differ paths taken.turns taken.each sorted) was_lost

  pub summed : (walk : Walk) (taking : Taking) (summary : Summary) (eras : List (List ℕ)) (observed observed_after kept count count_after : ℕ) (join : Joined eras observed observed_after kept taking.end count count_after)
      → IsLawful new.history → Counted no_counts gain taking.counts → IsSummaryOf walk taking summary → walk.failed ≡ min (fails + unnamed) 4294967295 → gain.lines ≡ length added
      → AreSums poll (stretch_of old.history new.history count count_after) (looks_of taken.turns) (checkpoint_with eras kept observed before) (checkpoint_with eras taking.end observed_after after) added join.pass (sums_of summary)
  summed walk taking summary eras observed observed_after kept count count_after join lawful counted is failed lines = record {
    files = omega (arith, is.files, counted.files, taken.gains.files);
    lines = omega (arith, is.lines, counted.lines, lines);
    left = omega (arith, is.left, counted.left, taken.gains.left);
    gone = omega (arith, is.gone, counted.gone, taken.gains.gone, few_gone lawful);
    failed = omega (arith, is.failed, counted.failed, taken.gains.failed, failed, found.each_fails, found.each_named, ap length join.misses_are, ap length join.unlisteds_are);
    compressed = omega (arith, is.compressed, counted.compressed, taken.gains.compressed);
    shrunk = omega (arith, is.shrunk, counted.shrunk, taken.gains.shrunk);
    full = omega (arith, is.full, counted.full, taken.gains.full);
    output = is.output;
  }

  met_later : (folder : List ℕ) → IsMet poll.rules.include old.history mid.history folder → IsMet poll.rules.include old.history new.history folder
  met_later folder met = elim met [
    | inl start ↦ inl start
    | inr held ↦ inr (held.0, once_longer Folder old.history old.history mid.history new.history folder (later_none old.history) took held.1)
  ]

  pub are_deep : (folder : List ℕ) → Contains deep folder → IsDeep poll.rules old.history new.history folder
  are_deep folder c = let is = found.are_deep folder c in record { deep = is.0; met = met_later folder is.1 }

  pub no_deep_out : (path : List ℕ) (file : ℕ) → Includes poll.rules path → (IsReachable path → ⊥) → NamesThroughout old.history new.history path file → HasDeepFolder deep path ⊎ WasHidden (misses_of taken.turns) found.unlisteds path
  no_deep_out path file included beyond throughout =
      let always = always_file old.history mid.history path file (earlier_named old.history mid.history new.history path file took throughout) in
      elim (found.no_deep_left_out path included beyond always) [
        | inl there ↦ inl there
        | inr is ↦ inr (hidden (misses_of taken.turns) found.unlisteds path is)
      ]
