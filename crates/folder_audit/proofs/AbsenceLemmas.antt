-- Of the rows whose file keeps its name few are absent.
use Rattle.std.proofs.Common.{◌≡◌, ◌≢◌, inl, inr, ℕ, suc, ◌-◌, ◌≤◌, List, [], ◌∷◌, ◌++◌, length, take, drop, get_or, true, false, refl, sym, ap, subst, ◌∙◌, arith, length-append, eq-eqb}
use Rattle.std.specs.Prelude.{nat_eq, Some, slice_get, Contains}
use Rattle.std.specs.List.{AllByRecursion, IsDistinct}
use Rattle.std.specs.Str.{bytes_eq}
use Rattle.std.proofs.lemmas.Bool.{cases_Bool, cases_lt}
use Rattle.std.proofs.lemmas.Cmp.{nat_list_eq_equiv}
use Rattle.std.proofs.lemmas.List.{take-append-drop}
use Rattle.std.proofs.lemmas.Map.Made.{is_member-Decides, length-le_from_is_member}
use Rattle.std.proofs.lemmas.Option.{get_or_from_slice_get, same_Some, slice_get-get_or, slice_get_within}
use Rattle.std.proofs.lemmas.Slice.Eq.{bytes_eq-Decides}
use Rattle.file_tracker.proofs.PlaceLemmas.{position_first}
use Rattle.file_tracker.specs.Fronts.{begins, front_of}
use Rattle.file_tracker.specs.Places.{place_of}
use Rattle.outside.specs.World.{History, World, bytes, file_at, names}
use Rattle.pipeline.specs.AsRules.{rules_of}
use Rattle.pipeline.specs.Parts.{settings_of}
use Rattle.pipeline.specs.declared.Pipeline.{Pipeline}
use Rattle.standing.proofs.EraLemmas.{last_at}
use Rattle.standing.proofs.MomentLemmas.{apart_before, bytes_grow, later_none, later_then, look_later}
use Rattle.standing.proofs.OwnerLemmas.{one_owner, owners_differ}
use Rattle.standing.proofs.PrefixLemmas.{begins-false, begins-true, front_of_both, prefix-append, prefix-take}
use Rattle.standing.specs.Apart.{Apart}
use Rattle.standing.specs.Eras.{Eras, all_eras, last_era}
use Rattle.standing.specs.Included.{IsIncluded}
use Rattle.standing.specs.Marks.{Mark}
use Rattle.standing.specs.Moments.{IsLater}
use Rattle.standing.specs.Owner.{IsOwner}
use Rattle.standing.specs.Prefixes.{IsPrefix}
use Rattle.standing.specs.Rows.{Row, IsRowAt}
use Rattle.standing.specs.Rules.{Rules, Includes}
use Rattle.standing.specs.Stands.{AreFrontsApart, LinesStand}
use Rattle.tree_walk.proofs.Lists.{contains_behind, contains_cases, contains_first, contains_none, contains_one, distinct_append, distinct_none}
use Rattle.folder_audit.specs.Findings.{is_absent}
use Rattle.folder_audit.specs.KeptFiles.{IsLast, IsToRead}
use Rattle.folder_audit.specs.Limits.{largest_read}
use Rattle.pipeline.specs.MadeOf.{AreErasOf}
use Rattle.folder_audit.specs.Made.{ArePipesOf}
use Rattle.folder_audit.specs.Absences.{AreAbsences, IsAbsence}
use Rattle.folder_audit.specs.Inner.Tried.{FindsAll, IsDue, IsReadable}
use Rattle.folder_audit.specs.declared.findings.Finding.{Finding}
use Rattle.folder_audit.specs.declared.findings.Finding.TheVariants.{Absent}
use Rattle.folder_audit.specs.declared.kept.Kept.{Kept}
use Rattle.folder_audit.proofs.EraLemmas.{era_is, last_front_size, many_eras}
use Rattle.folder_audit.proofs.KeptLemmas.{one_last}
use Rattle.pipeline.proofs.OfText.{OneSet}

-- ---- a file is known by its row

behind_front : (front text : List ℕ) → IsPrefix front text → front ++ drop (length front) text ≡ text
behind_front front text begun = ap (λ (f : List ℕ). f ++ drop (length front) text) (sym begun) ∙ take-append-drop (length front) text

-- a text that a row's front begins is begun by no other row's
begins_no_other : (rows : List Row) (place other : ℕ) (row other_row : Row) (text : List ℕ) → AreFrontsApart rows → IsRowAt rows place row → IsRowAt rows other other_row → other ≢ place → IsPrefix row.front text → IsPrefix other_row.front text → ⊥
begins_no_other rows place other row other_row text apart at other_at differs own its =
    let whole : row.front ++ drop (length row.front) text ≡ other_row.front ++ drop (length other_row.front) text = behind_front row.front text own ∙ sym (behind_front other_row.front text its) in
    elim (cases_lt (length row.front) (length other_row.front)) [
      | inl short ↦ apart place other row other_row at other_at (λ e. differs (sym e))
          (front_of_both row.front other_row.front (drop (length row.front) text) (drop (length other_row.front) text) whole (omega (arith, short)))
      | inr long ↦ apart other place other_row row other_at at differs
          (front_of_both other_row.front row.front (drop (length other_row.front) text) (drop (length row.front) text) (sym whole) long)
    ]

begun : (short long : List ℕ) → IsPrefix short long → begins short long ≡ true
begun short long prefix = elim (cases_Bool (begins short long)) [ inl is ↦ is | inr other ↦ absurd (begins-false short long other prefix) ]

-- so the row is found by it
known_by : (rows : List Row) (place : ℕ) (row : Row) (text : List ℕ) → AreFrontsApart rows → IsRowAt rows place row → IsPrefix row.front text → place_of text rows ≡ Some place
known_by rows place row text apart at own =
    position_first (λ (r : Row). begins (front_of r) text) rows place row (slice_get_within rows place row at)
    (λ k before. elim (cases_Bool (begins (front_of (get_or rows k row)) text)) [
      | inl is ↦ (
          let there : IsRowAt rows k (get_or rows k row) = slice_get-get_or rows k row (omega (arith, before, slice_get_within rows place row at)) in
          absurd (begins_no_other rows place k row (get_or rows k row) text apart at there (λ e. omega (arith, e, before)) own (begins-true (get_or rows k row).front text is)))
      | inr other ↦ other
    ])
    (ap (λ (r : Row). begins r.front text) (get_or_from_slice_get rows place row row at) ∙ begun row.front text own)

-- ---- such a row is found, or its path failed

module _ (one_set : OneSet) (kept : Kept) (last : Pipeline) (is_last : IsLast kept.pipes.items last) (eras : Eras) (texts : List (List ℕ)) (are : AreErasOf texts eras) (made : ArePipesOf texts kept.pipes.items) where
  last_rules : (text : List ℕ) × (last_era eras ≡ rules_of text last)
  last_rules =
      let found = era_is one_set texts eras kept.pipes.items are made is_last.0 last is_last.2 in
      let same : is_last.0 ≡ length eras.later = omega (arith, is_last.1, made.many, many_eras one_set texts eras kept.pipes.items are made) in
      let there : slice_get (all_eras eras) (length eras.later) ≡ Some (rules_of found.0 last) = subst (λ (k : ℕ). slice_get (all_eras eras) k ≡ Some (rules_of found.0 last)) same found.1 in
      (found.0, same_Some (last_era eras) (rules_of found.0 last) (sym (last_at eras) ∙ there))

  to_read : (path : List ℕ) → Includes (last_era eras) path → IsToRead kept.pipes.items path
  to_read path included = λ other is_other.
      let same : last ≡ other = one_last kept.pipes.items last other is_last is_other in
      subst (λ (p : Pipeline). IsIncluded p.include.items p.exclude.items path) same (subst (λ (r : Rules). Includes r path) last_rules.1 included)

  module _ (old new : World) (later : IsLater old.history new.history) (next_id : ℕ) (marks : List Mark) (stand : LinesStand eras old.history kept.rows next_id marks) (apart : Apart eras.first.front_size new.history) where
    readable : (place : ℕ) (row : Row) (file : ℕ) (moment : History) → IsRowAt kept.rows place row → IsOwner eras old.history row file → row.offset - row.start ≤ largest_read → IsLater old.history moment → IsReadable kept place (bytes moment file)
    readable place row file moment at owner small after =
        let stood = stand.each_row place row at in
        let same : stood.file ≡ file = one_owner eras old.history row stood.file file (apart_before eras.first.front_size old.history new.history later apart) stood.owner owner in
        let size : (settings_of last).fingerprint_size ≡ eras.first.front_size = last_front_size one_set texts eras kept.pipes.items are made last is_last in
        let grown = bytes_grow old.history moment file after in
        let seen = bytes_grow owner.seen_at moment file (later_then owner.seen_at old.history moment (look_later old.history file owner.seen_at owner.seen) after) in
        let own : IsPrefix (take eras.first.front_size (bytes owner.seen_at file)) (take eras.first.front_size (bytes moment file)) =
        prefix-take eras.first.front_size (bytes owner.seen_at file) (bytes moment file) (subst (IsPrefix (bytes owner.seen_at file)) (sym seen.1) (prefix-append (bytes owner.seen_at file) seen.0)) in
        let front : IsPrefix row.front (take (settings_of last).fingerprint_size (bytes moment file)) =
        subst (λ (n : ℕ). IsPrefix row.front (take n (bytes moment file))) (sym size) (subst (λ (f : List ℕ). IsPrefix f (take eras.first.front_size (bytes moment file))) (sym owner.saw) own) in
        let within : row.offset ≤ length (bytes old.history file) = subst (λ (f : ℕ). row.offset ≤ length (bytes old.history f)) same stood.taken.within in
        record {
          last = last;
          is_last = is_last;
          known = known_by kept.rows place row (take (settings_of last).fingerprint_size (bytes moment file)) stand.fronts_apart at front;
          row = row;
          there = at;
          long = omega (arith, within, ap length grown.1, length-append (bytes old.history file) grown.0);
          small = small;
        }

    module _ (found : List Finding) (IsCounted : ℕ → Type 0) (all : FindsAll kept found (IsDue kept old new) IsCounted old new) where
      -- the path of a row that is absence failed
      path_failed : (place : ℕ) (absence : IsAbsence eras kept.rows found place old.history new.history) → Contains all.failed absence.keeps.path
      path_failed place absence =
          let keeps = absence.keeps in
          elim (all.each keeps.path keeps.file (record { to_read = to_read keeps.path keeps.included; reachable = keeps.reachable; shown = keeps.shown }) keeps.named) [
            | inl failed ↦ failed
            | inr seen ↦ (
                let one = seen.finds place (readable place absence.row keeps.file seen.moment absence.there keeps.owner keeps.small seen.after) in
                let same : Absent ≡ one.0 = same_Some Absent one.0 (sym absence.absent ∙ one.1) in
                absurd (let both : true ≡ false = ap is_absent same ∙ one.2 in cc))
          ]

      -- two of them have two paths
      paths_differ : (place other : ℕ) → other ≢ place → (absence : IsAbsence eras kept.rows found place old.history new.history) (its : IsAbsence eras kept.rows found other old.history new.history) → absence.keeps.path ≡ its.keeps.path → ⊥
      paths_differ place other differs absence its same =
          let own = absence.keeps.named old.history (later_none old.history) later in
          let one : absence.keeps.file ≡ its.keeps.file =
          same_Some absence.keeps.file its.keeps.file (sym own ∙ ap (file_at (names old.history)) same ∙ its.keeps.named old.history (later_none old.history) later) in
          owners_differ eras old.history kept.rows next_id marks other place its.row absence.row its.keeps.file absence.keeps.file stand its.there absence.there differs its.keeps.owner absence.keeps.owner (sym one)

      -- the paths of some rows
      record Pathed (places : List ℕ) : Type 0 where
        paths : List (List ℕ)
        many : length paths ≡ length places
        once : IsDistinct bytes_eq paths
        each : (path : List ℕ) → Contains paths path → (place : ℕ) × Contains places place × (absence : IsAbsence eras kept.rows found place old.history new.history) × (absence.keeps.path ≡ path)

      place_apart : (place : ℕ) (places : List ℕ) → AllByRecursion (λ k. nat_eq place k ≡ false) places → (other : ℕ) → Contains places other → other ≢ place
      place_apart place [] all_apart other there = absurd (contains_none other there)
      place_apart place (first ∷ places) all_apart other there = elim (contains_cases first places other there) [
        | inl same ↦ λ e. absurd (let same_place : nat_eq place first ≡ true = eq-eqb place first (sym e ∙ sym same) in let never : true ≡ false = sym same_place ∙ all_apart.0 in cc)
        | inr behind ↦ place_apart place places all_apart.1 other behind
      ]

      pathed : (places : List ℕ) → IsDistinct nat_eq places → ((place : ℕ) → Contains places place → IsAbsence eras kept.rows found place old.history new.history) → Pathed places
      unfolding IsDistinct
      pathed [] once each = record { paths = []; many = refl; once = distinct_none; each = λ path none. absurd (contains_none path none) }
      pathed (place ∷ places) once each =
          let own = each place (contains_first place places) in
          let rest = pathed places once.1 (λ k there. each k (contains_behind place places k there)) in
          record {
            paths = own.keeps.path ∷ rest.paths;
            many = ap suc rest.many;
            once = distinct_append (own.keeps.path ∷ []) rest.paths (tt, distinct_none) rest.once (λ path one there.
                let its = rest.each path there in
                paths_differ place its.0 (place_apart place places once.0 its.0 its.1) own its.2 (contains_one own.keeps.path path one ∙ sym its.3));
            each = λ path there. elim (contains_cases own.keeps.path rest.paths path there) [
              | inl same ↦ (place, contains_first place places, own, same)
              | inr behind ↦ (let its = rest.each path behind in (its.0, contains_behind place places its.0 its.1, its.2, its.3))
            ];
          }

      -- so they are as many at most
      pub few_absences : (places : List ℕ) → AreAbsences eras kept.rows found places old.history new.history → length places ≤ length all.failed
      few_absences places absence =
          let has = pathed places absence.once absence.each in
          let fewer : length has.paths ≤ length all.failed =
          length-le_from_is_member nat_list_eq_equiv has.paths all.failed has.once (λ path there.
          let its = has.each path ((is_member-Decides bytes_eq-Decides has.paths path).0 there) in
          (is_member-Decides bytes_eq-Decides all.failed path).1 (subst (Contains all.failed) its.3 (path_failed its.0 its.2))) in
          omega (arith, fewer, has.many)
