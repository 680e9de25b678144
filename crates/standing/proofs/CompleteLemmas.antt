-- After a poll that met no limit and no fault, in which no name changed, every file is reached.
use Rattle.std.proofs.Common.{◌≡◌, ◌≢◌, ℕ, zero, suc, ◌+◌, ◌<◌, List, [], ◌∷◌, ◌++◌, length, min, get_or, Bool, true, false, cond, refl, sym, ap, subst, ◌∙◌, inl, inr, arith}
use Rattle.std.specs.Cmp.Lexicographic.{slice_cmp}
use Rattle.std.specs.List.{All, Contains, count_by}
use Rattle.std.specs.Ordering.{nat_cmp, is_lt, is_eq}
use Rattle.std.specs.Prelude.{Option, Some}
use Rattle.std.proofs.Common.{Ordering}
use Rattle.std.specs.declared.cmp.Ordering.TheVariants.{Less, Equal, Greater}
use Rattle.std.proofs.lemmas.Cmp.{nat_list_eq_equiv}
use Rattle.std.proofs.lemmas.List.{get_or-map, length-map, append-nil}
use Rattle.std.proofs.lemmas.List.Elements.{All-cons, All-nil, All-head, All-tail, Contains-get_or}
use Rattle.std.proofs.lemmas.List.Sums.{sum_by-cons}
use Rattle.std.proofs.lemmas.Map.Text.{is_eq-slice_cmp}
use Rattle.outside.specs.Lawful.{IsLawful}
use Rattle.outside.specs.World.{Event, History, look, names, file_at}
use Rattle.outside.proofs.Naming.{one_name}
use Rattle.standing.specs.Apart.{Apart}
use Rattle.standing.specs.Eras.{Eras, AreEras, last_era}
use Rattle.standing.specs.Look.{Look, Outcome, Progress, content, size, outcome}
use Rattle.standing.specs.Looks.{progress_by, outcome_after, Come, Ascend, count_of}
use Rattle.standing.specs.Marks.{Mark}
use Rattle.standing.specs.Moments.{IsLater, IsNamed, KeepsNames}
use Rattle.standing.specs.Pass.{Stretch, Pass, is_short, IsReachable, start_at}
use Rattle.standing.specs.Reached.{Reached}
use Rattle.standing.specs.Poll.{Poll, poll_in, IsPlainIn}
use Rattle.standing.specs.Rows.{Checkpoint, IsRowAt}
use Rattle.standing.specs.Rules.{Includes}
use Rattle.standing.specs.Stands.{LinesStand, Stands}
use Rattle.standing.specs.Sums.{Sums, AreSums, TellNothingLeft, IsReached, is_passed_as_compressed, is_left_out, has_more}
use Rattle.standing.specs.Times.{AreBefore}
use Rattle.standing.proofs.MomentLemmas.{past_look, look_later, later_then, later_none, apart_before, bytes_grow}
use Rattle.standing.proofs.PassLemmas.{ProgressStands, HaveTime, looks_have, looks_stand, none_added}
use Rattle.standing.proofs.ReachLemmas.{HasReached, reached_lasts, reached_of_all, look_reaches, look_leaves}
use Rattle.standing.proofs.TimeLemmas.{same_before, before_append}

-- no file has two looks
abbrev pub HaveOneLookEach : List Look → Type 0
HaveOneLookEach [] = Unit {0}
HaveOneLookEach (here ∷ earlier) = All (λ (other : Look). other.file ≢ here.file) earlier × HaveOneLookEach earlier

pub come_later : (poll : Poll) (looks : List Look) (old new : History) → Come poll.rules looks old new → IsLater old new
come_later poll [] old new come = come
come_later poll (here ∷ earlier) old new come = later_then old here.moment new (come_later poll earlier old here.moment come.0) (look_later new here.file here.moment come.1.looks)

keeps_before : (old mid new : History) → IsLater mid new → KeepsNames old new → KeepsNames old mid
keeps_before old mid new later keeps = λ moment after before. keeps moment after (later_then moment mid new before later)

abbrev IsNamedAtFirst : History → Look → Type 0
IsNamedAtFirst old here = file_at (names old) here.path ≡ Some here.file

-- each look's file had its path from the beginning
pub named_at_first : (poll : Poll) (looks : List Look) (old new : History) → Come poll.rules looks old new → KeepsNames old new → All (λ (here : Look). file_at (names old) here.path ≡ Some here.file) looks
named_at_first poll [] old new come keeps = All-nil (IsNamedAtFirst old)
named_at_first poll (here ∷ earlier) old new come keeps =
    let later = look_later new here.file here.moment come.1.looks in
    let same : names here.moment ≡ names old = keeps here.moment (come_later poll earlier old here.moment come.0) later in
    All-cons (IsNamedAtFirst old) here earlier
    (ap (λ ns. file_at ns here.path) (sym same) ∙ come.1.under)
    (named_at_first poll earlier old here.moment come.0 (keeps_before old here.moment new later keeps))

not_both : (o : Ordering) → is_eq o ≡ true → is_lt o ≡ true → ⊥
not_both Less is also = let never : false ≡ true = is in cc
not_both Equal is also = let never : false ≡ true = also in cc
not_both Greater is also = let never : false ≡ true = is in cc

not_below_itself : (path : List ℕ) → is_lt (slice_cmp nat_cmp path path) ≡ true → ⊥
not_below_itself path below = not_both (slice_cmp nat_cmp path path) (is_eq-slice_cmp path path ∙ nat_list_eq_equiv.refl path) below

pub one_look_each : (poll : Poll) (looks : List Look) (old new : History) → IsLawful old → Come poll.rules looks old new → KeepsNames old new → Ascend looks → HaveOneLookEach looks
one_look_each poll [] old new lawful come keeps ascend = tt
one_look_each poll (here ∷ earlier) old new lawful come keeps ascend =
    let named = named_at_first poll (here ∷ earlier) old new come keeps in
    let later = look_later new here.file here.moment come.1.looks in (
      (λ k other within same.
          let mine : file_at (names old) here.path ≡ Some here.file = All-head (IsNamedAtFirst old) here earlier named in
          let theirs : file_at (names old) (get_or earlier k other).path ≡ Some (get_or earlier k other).file = All-tail (IsNamedAtFirst old) here earlier named k other within in
          let one : (get_or earlier k other).path ≡ here.path = one_name old (get_or earlier k other).path here.path here.file lawful (theirs ∙ ap Some same) mine in
          let below : is_lt (slice_cmp nat_cmp (get_or earlier k other).path here.path) ≡ true = ascend.0 k other within in
          not_below_itself here.path (ap (λ (p : List ℕ). is_lt (slice_cmp nat_cmp p here.path)) (sym one) ∙ below)),
      one_look_each poll earlier old here.moment lawful come.0 (keeps_before old here.moment new later keeps) ascend.1,
    )

-- every look met no limit and no fault
abbrev pub AreComplete : Poll → List Look → Progress → Type 0
AreComplete poll [] start = Unit {0}
AreComplete poll (here ∷ earlier) start =
    AreComplete poll earlier start
    × (is_short here ≡ false)
    × (is_passed_as_compressed here (outcome_after poll earlier start here) ≡ false)
    × (is_left_out here (outcome_after poll earlier start here) ≡ false)
    × (has_more poll here (outcome_after poll earlier start here) ≡ false)

none_counted : (t : Bool) (n : ℕ) → n + cond t 1 0 ≡ 0 → (n ≡ 0) × (t ≡ false)
none_counted true n is = absurd (omega (arith, is))
none_counted false n is = (omega (arith, is), refl)

pub complete_by_counts : (poll : Poll) (looks : List Look) (start : Progress) → count_by is_short looks ≡ 0
    → count_of poll is_passed_as_compressed looks start ≡ 0 → count_of poll is_left_out looks start ≡ 0 → count_of poll (has_more poll) looks start ≡ 0
    → AreComplete poll looks start
complete_by_counts poll [] start a b d e = tt
complete_by_counts poll (here ∷ earlier) start a b d e =
    let found : Outcome = outcome_after poll earlier start here in
    let short = none_counted (is_short here) (count_by is_short earlier) (omega (arith, a, sum_by-cons (λ (h : Look). cond (is_short h) 1 0) here earlier)) in
    let compressed = none_counted (is_passed_as_compressed here found) (count_of poll is_passed_as_compressed earlier start) b in
    let out = none_counted (is_left_out here found) (count_of poll is_left_out earlier start) d in
    let more = none_counted (has_more poll here found) (count_of poll (has_more poll) earlier start) e in
    (complete_by_counts poll earlier start short.0 compressed.0 out.0 more.0, short.1, compressed.1, out.1, more.1)

module _ (eras : Eras) (laws : AreEras eras) (first : Bool) (stamp : Option ℕ) (asked : IsPlainIn eras first stamp) (before : List Mark) (kept_times : AreBefore stamp before) where
  abbrev poll : Poll
  poll = poll_in eras first stamp

  all_before : (now : Progress) → HaveTime poll now.added → AreBefore stamp (before ++ now.added)
  all_before now have = before_append stamp before now.added kept_times (same_before stamp now.added have)

  pub looks_reach : (looks : List Look) (old new : History) (start : Progress) (k : ℕ) (d : Look) → Come poll.rules looks old new → Apart eras.first.front_size new → HaveTime poll start.added → ProgressStands eras old before start
      → HaveOneLookEach looks → AreComplete poll looks start → k < length looks → 0 < size (get_or looks k d) → HasReached eras new (progress_by poll looks start).rows (get_or looks k d)
  looks_reach [] old new start k d come apart have stands one complete within filled = absurd (omega (arith, within))
  looks_reach (here ∷ earlier) old new start zero d come apart have stands one complete within filled =
      let now : Progress = progress_by poll earlier start in
      let past = past_look new here.file here.moment come.1.looks in
      let at_moment = looks_stand eras laws first stamp asked before kept_times earlier old here.moment start come.0 (apart_before eras.first.front_size here.moment new (look_later new here.file here.moment come.1.looks) apart) have stands in
      let has = look_reaches eras laws first stamp asked before here now (all_before now (looks_have poll earlier start have)) new (apart_before eras.first.front_size (look here.file ∷ here.moment) new past apart) come.1 at_moment (outcome poll.rules now.rows here) refl filled complete.1 complete.2 complete.3 complete.4 in
      reached_lasts eras (look here.file ∷ here.moment) new (progress_by poll (here ∷ earlier) start).rows here past has
  looks_reach (here ∷ earlier) old new start (suc k) d come apart have stands one complete within filled =
      let now : Progress = progress_by poll earlier start in
      let past = past_look new here.file here.moment come.1.looks in
      let apart_then = apart_before eras.first.front_size here.moment new (look_later new here.file here.moment come.1.looks) apart in
      let at_moment = looks_stand eras laws first stamp asked before kept_times earlier old here.moment start come.0 apart_then have stands in
      let inside : k < length earlier = omega (arith, within) in
      let has = looks_reach earlier old here.moment start k d come.0 apart_then have stands one.1 complete.0 inside filled in
      let kept = look_leaves eras laws first stamp asked before here now (all_before now (looks_have poll earlier start have)) new (apart_before eras.first.front_size (look here.file ∷ here.moment) new past apart) come.1 at_moment (outcome poll.rules now.rows here) (get_or earlier k d) refl (one.0 k d inside) has in
      reached_lasts eras (look here.file ∷ here.moment) new (progress_by poll (here ∷ earlier) start).rows (get_or earlier k d) past kept

lawful_before : (events : List Event) (old : History) → IsLawful (events ++ old) → IsLawful old
lawful_before [] old lawful = lawful
lawful_before (event ∷ events) old lawful = lawful_before events old lawful.1

none_of_capped : (sum n : ℕ) → sum ≡ min n 4294967295 → sum ≡ 0 → n ≡ 0
none_of_capped sum n is none = omega (arith, is, none)

-- any look, for what is read past the end of a list
any_look : Look
any_look = record { path = []; file = 0; moment = []; end = 0; skipped = false }

none_inside : (paths : List (List ℕ)) (path : List ℕ) → length paths ≡ 0 → Contains paths path → ⊥
none_inside paths path none inside = omega (arith, none, inside.1)

module _ (eras : Eras) (laws : AreEras eras) (first : Bool) (stamp : Option ℕ) (asked : IsPlainIn eras first stamp) (stretch : Stretch) (looks : List Look) (before after : Checkpoint) (added : List Mark) (pass : Pass (poll_in eras first stamp) stretch looks before after added) where
  abbrev poll_here : Poll
  poll_here = poll_in eras first stamp

  pub reaches : (output : List ℕ) (k : ℕ) (d : Look) → Apart eras.first.front_size stretch.new → (stands : Stands eras stretch.old before.rows before.next_id output) → AreBefore stamp stands.marks
      → HaveOneLookEach looks → AreComplete poll_here looks (start_at before) → k < length looks → 0 < size (get_or looks k d) → IsReached eras stretch.new after.rows (get_or looks k d)
  reaches output k d apart stands times one complete within filled =
      let here : Look = get_or looks k d in
      let P : List Mark → Type 0 = λ ms. LinesStand eras stretch.old before.rows before.next_id ms in
      let has = looks_reach eras laws first stamp asked stands.marks times looks stretch.old stretch.new (start_at before) k d pass.come apart (none_added poll_here) (subst P (sym (append-nil stands.marks)) stands.lines_stand) one complete within filled in
      let grown = bytes_grow here.moment stretch.new here.file has.later in
      record {
        place = has.place;
        row = has.row;
        at = subst (λ rows. IsRowAt rows has.place has.row) (sym pass.leads_to.rows) has.at;
        owner = has.owner;
        reached = subst (λ b. Reached (last_era eras) b has.row (size here)) (sym grown.1) (reached_of_all (last_era eras) (content here) grown.0 has.row has.start_within has.reached);
      }

  pub complete_pass : (output : List ℕ) (sums : Sums) (path : List ℕ) (file : ℕ) → Apart eras.first.front_size stretch.new → IsLawful stretch.new → KeepsNames stretch.old stretch.new → (stands : Stands eras stretch.old before.rows before.next_id output) → AreBefore stamp stands.marks
      → AreSums poll_here stretch looks before after added pass sums → TellNothingLeft sums → Includes (last_era eras) path → IsReachable path → IsNamed stretch.new path file
      → (here : Look) × Contains looks here × (here.file ≡ file) × (0 < size here → IsReached eras stretch.new after.rows here)
  complete_pass output sums path file apart lawful keeps stands times are none included reachable named =
      let whole_stretch = come_later poll_here looks stretch.old stretch.new pass.come in
      let lawful_old : IsLawful stretch.old = lawful_before whole_stretch.events stretch.old (subst IsLawful whole_stretch.goes_on lawful) in
      let same_names : names stretch.new ≡ names stretch.old = keeps stretch.new whole_stretch (later_none stretch.new) in
      let named_old : file_at (names stretch.old) path ≡ Some file = ap (λ ns. file_at ns path) (sym same_names) ∙ named in
      let failures : count_by is_short looks + (length pass.misses + length pass.unlisteds) ≡ 0 = none_of_capped sums.failed (count_by is_short looks + (length pass.misses + length pass.unlisteds)) are.failed none.failed in
      let complete = complete_by_counts poll_here looks (start_at before) (omega (arith, failures))
      (none_of_capped sums.compressed (count_of poll_here is_passed_as_compressed looks (start_at before)) are.compressed none.compressed)
      (none_of_capped sums.full (count_of poll_here is_left_out looks (start_at before)) are.full none.full)
      (none_of_capped sums.left (count_of poll_here (has_more poll_here) looks (start_at before)) are.left none.left) in
      let one = one_look_each poll_here looks stretch.old stretch.new lawful_old pass.come keeps pass.ascend in
      elim (pass.leaves_none_out path file included reachable (λ moment later earlier. ap (λ ns. file_at ns path) (keeps moment later earlier) ∙ named_old)) [
        | inl seen ↦
            let k : ℕ = seen.0 in
            let within : k < length looks = omega (arith, seen.1, length-map looks (λ (h : Look). h.path)) in
            let here : Look = get_or looks k any_look in
            let path_is : here.path ≡ path = sym (get_or-map (λ (h : Look). h.path) looks k any_look path within) ∙ seen.2 in
            let here_named : file_at (names stretch.old) here.path ≡ Some here.file = named_at_first poll_here looks stretch.old stretch.new pass.come keeps k any_look within in
            let both : Some here.file ≡ Some file = sym here_named ∙ ap (λ p. file_at (names stretch.old) p) path_is ∙ named_old in
            (here, Contains-get_or looks k any_look within, (cc), (λ filled. reaches output k any_look apart stands times one complete within filled))
        | inr hidden ↦ elim hidden [
          | inl missed ↦ absurd (none_inside pass.misses path (omega (arith, failures)) missed)
          | inr unlisted ↦ absurd (none_inside pass.unlisteds unlisted.0 (omega (arith, failures)) unlisted.1)
        ]
      ]
