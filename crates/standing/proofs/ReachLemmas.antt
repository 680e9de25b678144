-- A look that meets no limit and no fault takes all that can be taken, and later looks at other files leave it so.
use Rattle.std.proofs.Common.{◌≡◌, ◌≢◌, ℕ, ◌+◌, ◌-◌, ◌<◌, ◌≤◌, ◌==◌, List, [], ◌∷◌, ◌++◌, length, take, drop, min, Bool, true, false, refl, sym, ap, subst, ◌∙◌, inl, inr, arith, length-drop, eq-eqb}
use Rattle.std.specs.Prelude.{Option, Some, nat_lt, ◌&&◌, ◌||◌}
use Rattle.std.proofs.lemmas.Bool.{cases_lt, lt-ltb, eqb-true}
use Rattle.std.proofs.lemmas.List.{take_all, drop-drop, drop-append-le, take-append-le}
use Rattle.std.proofs.lemmas.Option.{slice_get_within}
use Rattle.outside.specs.World.{History, look}
use Rattle.standing.specs.Apart.{Apart}
use Rattle.standing.specs.Closed.{Made}
use Rattle.standing.specs.Eras.{Eras, AreEras, last_era}
use Rattle.standing.specs.Limits.{most_taken}
use Rattle.standing.specs.Look.{Look, Outcome, skips, finds_nothing, finds_compressed, finds_no_room, finds_new, finds_row, Progress, content, size, piece, new_row, ComesAt, outcome, row_after, progress_after}
use Rattle.standing.specs.Marks.{Mark}
use Rattle.standing.specs.Moments.{IsLater}
use Rattle.standing.specs.Owner.{IsOwner}
use Rattle.standing.specs.Pass.{is_short}
use Rattle.standing.specs.Part.{first_point, last_point}
use Rattle.standing.specs.Poll.{Poll, poll_in, IsPlainIn}
use Rattle.standing.specs.Reached.{Reached}
use Rattle.standing.specs.Rows.{Row, IsRowAt}
use Rattle.standing.specs.Rules.{Rules}
use Rattle.standing.specs.Sums.{is_passed_as_compressed, is_left_out, has_more}
use Rattle.standing.specs.Times.{AreBefore}
use Rattle.standing.specs.Tokens.{used_by, used}
use Rattle.standing.proofs.EraLemmas.{last_laws}
use Rattle.standing.proofs.LookLemmas.{found_owner, known_ready, new_ready}
use Rattle.standing.proofs.MomentLemmas.{at_look, later_then}
use Rattle.standing.proofs.OutcomeLemmas.{finds_row-tells, finds_new-tells, skips-tells, finds_nothing-tells}
use Rattle.standing.proofs.PassLemmas.{ProgressStands}
use Rattle.standing.proofs.PlaceLemmas.{changes_by_set, changes_by_push}
use Rattle.standing.proofs.ReadLemmas.{row_after-read, IsReady}
use Rattle.standing.proofs.RowLemmas.{owner_lasts}
use Rattle.standing.proofs.TokenLemmas.{used-append}

-- where the last part of a row begins
abbrev pub begins_at : Row → ℕ
begins_at row = (last_point (first_point row) row.ends).offset

-- the row has reached the end that its file had at this look
pub record HasReached (eras : Eras) (history : History) (rows : List Row) (here : Look) : Type 0 where
  pub place : ℕ
  pub row : Row
  pub at : IsRowAt rows place row
  pub owner : IsOwner eras history row here.file
  pub later : IsLater here.moment history
  pub start_within : begins_at row ≤ size here
  pub reached : Reached (last_era eras) (content here) row (size here)

pub reached_lasts : (eras : Eras) (old new : History) (rows : List Row) (here : Look) → IsLater old new → HasReached eras old rows here → HasReached eras new rows here
reached_lasts eras old new rows here later has = record {
  place = has.place;
  row = has.row;
  at = has.at;
  owner = owner_lasts eras old new has.row here.file later has.owner;
  later = later_then here.moment old new has.later later;
  start_within = has.start_within;
  reached = has.reached;
}

-- what was reached then of the bytes is reached of those that there are later
pub reached_of_all : (rules : Rules) (all more : List ℕ) (row : Row) → begins_at row ≤ length all → Reached rules all row (length all) → Reached rules (all ++ more) row (length all)
reached_of_all rules all more row within reached =
    let start : ℕ = begins_at row in
    let longer : drop start (all ++ more) ≡ drop start all ++ more = drop-append-le start all more within in
    let fits : length all - start ≤ length (drop start all) = omega (arith, length-drop start all) in
    let same : take (length all - start) (drop start (all ++ more)) ≡ take (length all - start) (drop start all) =
    ap (take (length all - start)) longer ∙ take-append-le (length all - start) (drop start all) more fits in
    reached ∙ ap (λ (b : List ℕ). start + used rules b) (sym same)

or_false : (a b : Bool) → (a || b) ≡ false → (a ≡ false) × (b ≡ false)
or_false true b is = let never : true ≡ false = is in absurd (cc)
or_false false b is = (refl, is)

not_true : (a : Bool) → a ≡ false → a ≡ true → ⊥
not_true a no_one is = let never : false ≡ true = sym no_one ∙ is in cc

ends : (here : Look) → is_short here ≡ false → here.end ≤ size here → here.end ≡ size here
ends here whole_read within =
    elim (cases_lt here.end (size here)) [
      | inl short ↦ absurd (not_true (nat_lt here.end (size here)) (or_false here.skipped (nat_lt here.end (size here)) whole_read).1 (lt-ltb here.end (size here) short))
      | inr enough ↦ omega (arith, enough, within)
    ]

-- not more than is taken at once
near : (here : Look) (offset : ℕ) → ((here.end == size here) && nat_lt (offset + most_taken) (size here)) ≡ false → here.end ≡ size here → size here ≤ offset + most_taken
near here offset no_more is =
    elim (cases_lt (offset + most_taken) (size here)) [
      | inl far ↦
          let one : (here.end == size here) ≡ true = eq-eqb here.end (size here) is in
          let other : nat_lt (offset + most_taken) (size here) ≡ true = lt-ltb (offset + most_taken) (size here) far in
          let both : ((here.end == size here) && nat_lt (offset + most_taken) (size here)) ≡ true = ap (λ t. t && nat_lt (offset + most_taken) (size here)) one ∙ other in
          absurd (not_true ((here.end == size here) && nat_lt (offset + most_taken) (size here)) no_more both)
      | inr enough ↦ enough
    ]

zero_filled : (n : ℕ) → 0 < n → (n == 0) ≡ true → ⊥
zero_filled n filled is = omega (arith, filled, eqb-true n 0 is)

one_at : (rows : List Row) (k : ℕ) (row other : Row) → IsRowAt rows k row → IsRowAt rows k other → row ≡ other
one_at rows k row other at also = let both : Some row ≡ Some other = sym at ∙ also in cc

module _ (eras : Eras) (laws : AreEras eras) (first : Bool) (stamp : Option ℕ) (asked : IsPlainIn eras first stamp) where
  abbrev poll : Poll
  poll = poll_in eras first stamp

  reached_by_read : (here : Look) (row : Row) (marks : List Mark) (earlier : List Made) (tokens : List (List ℕ)) → IsReady eras here row marks earlier tokens → here.end ≡ size here → size here ≤ row.offset + most_taken
      → Reached poll.rules (content here) (row_after poll here row) (size here)
  reached_by_read here row marks earlier tokens ready all close =
      let start : ℕ = begins_at row in
      let of_rules = last_laws eras laws in
      let b : List ℕ = drop start (content here) in
      let up = ready.taken.bound in
      let whole_piece : piece here row.offset ≡ drop row.offset (content here) =
      take_all (min here.end (row.offset + most_taken) - row.offset) (drop row.offset (content here)) (omega (arith, all, close, length-drop row.offset (content here))) in
      let whole_rest : take (size here - start) b ≡ b = take_all (size here - start) b (omega (arith, length-drop start (content here))) in
      let there : drop (row.offset - start) b ≡ drop row.offset (content here) =
      drop-drop (row.offset - start) start (content here) ∙ ap (λ n. drop n (content here)) (omega (arith, ready.taken.begins)) in
      let past : poll.rules.cuts (drop row.offset (content here)) ≡ up.behind =
      ap poll.rules.cuts (sym there) ∙ ap (λ n. poll.rules.cuts (drop n b)) (sym up.uses) ∙ of_rules.tokens.going_on b up.taken up.behind up.split in
      let sum : used poll.rules b ≡ row.offset - start + used poll.rules (drop row.offset (content here)) =
      ap used_by up.split ∙ used-append up.taken up.behind ∙ omega (arith, up.uses, ap used_by past) in
      let goal : row.offset + used poll.rules (piece here row.offset) ≡ start + used poll.rules (take (size here - start) b) =
      omega (arith, ap (used poll.rules) whole_piece, ap (used poll.rules) whole_rest, sum, ready.taken.begins) in
      let P : Row → Type 0 = λ r. Reached poll.rules (content here) r (size here) in
      subst P (sym (row_after-read poll here row asked.no_flush ready.taken.within)) goal

  owner_after : (here : Look) (row : Row) (marks : List Mark) (earlier : List Made) (tokens : List (List ℕ)) → IsReady eras here row marks earlier tokens → IsOwner eras (look here.file ∷ here.moment) (row_after poll here row) here.file
  owner_after here row marks earlier tokens ready =
      let P : Row → Type 0 = λ r. IsOwner eras (look here.file ∷ here.moment) r here.file in
      subst P (sym (row_after-read poll here row asked.no_flush ready.taken.within)) (record {
        seen_at = ready.owner.seen_at;
        seen = ready.owner.seen;
        saw = ready.owner.saw;
        not_empty = ready.owner.not_empty;
        named_at = ready.owner.named_at;
        named = ready.owner.named;
        under = ready.owner.under;
        rules = ready.owner.rules;
        admitted = ready.owner.admitted;
        included = ready.owner.included;
      })

  start_after : (here : Look) (row : Row) (marks : List Mark) (earlier : List Made) (tokens : List (List ℕ)) → IsReady eras here row marks earlier tokens → begins_at (row_after poll here row) ≤ size here
  start_after here row marks earlier tokens ready =
      let same : begins_at (row_after poll here row) ≡ begins_at row = ap begins_at (row_after-read poll here row asked.no_flush ready.taken.within) in
      omega (arith, same, ready.taken.begins, ready.taken.within)

  module _ (before : List Mark) (here : Look) (now : Progress) (times : AreBefore stamp (before ++ now.added)) (history : History) (apart : Apart eras.first.front_size (look here.file ∷ here.moment)) (comes : ComesAt poll.rules here history) (stands : ProgressStands eras here.moment before now) where
    -- the look takes all
    pub look_reaches : (found : Outcome) → outcome poll.rules now.rows here ≡ found → 0 < size here → is_short here ≡ false → is_passed_as_compressed here found ≡ false → is_left_out here found ≡ false → has_more poll here found ≡ false
        → HasReached eras (look here.file ∷ here.moment) (progress_after poll here now found).rows here
    look_reaches skips is filled whole_read a b d = absurd (not_true here.skipped (or_false here.skipped (nat_lt here.end (size here)) whole_read).0 (skips-tells poll.rules now.rows here is))
    look_reaches finds_nothing is filled whole_read a b d = absurd (zero_filled (size here) filled (finds_nothing-tells poll.rules now.rows here is))
    look_reaches finds_compressed is filled whole_read a b d = absurd (not_true true a refl)
    look_reaches finds_no_room is filled whole_read a b d = absurd (not_true true b refl)
    look_reaches finds_new is filled whole_read a b d =
        let row : Row = new_row poll here now.next_id in
        let ready = new_ready eras laws first stamp asked here apart now.rows now.next_id (before ++ now.added) stands times (finds_new-tells poll.rules now.rows here is) history comes in
        let all = ends here whole_read comes.end_within in
        let next : Row = row_after poll here row in
        record {
          place = length now.rows;
          row = next;
          at = (changes_by_push now.rows next).there;
          owner = owner_after here row (before ++ now.added) [] [] ready;
          later = at_look here.file here.moment;
          start_within = start_after here row (before ++ now.added) [] [] ready;
          reached = reached_by_read here row (before ++ now.added) [] [] ready all (near here row.offset d all);
        }
    look_reaches (finds_row place row) is filled whole_read a b d =
        let found = finds_row-tells poll.rules now.rows here place row is in
        let mine = stands.each_row place row found.at in
        let same : mine.file ≡ here.file = found_owner eras laws first stamp asked here apart row mine.file mine.owner found.prefix in
        let ready = known_ready eras laws first stamp asked here apart now.rows now.next_id (before ++ now.added) stands times place row found mine.file mine same in
        let all = ends here whole_read comes.end_within in
        let next : Row = row_after poll here row in
        record {
          place = place;
          row = next;
          at = (changes_by_set now.rows place next row found.at).there;
          owner = owner_after here row (before ++ now.added) mine.earlier mine.tokens ready;
          later = at_look here.file here.moment;
          start_within = start_after here row (before ++ now.added) mine.earlier mine.tokens ready;
          reached = reached_by_read here row (before ++ now.added) mine.earlier mine.tokens ready all (near here row.offset d all);
        }

    -- a look at another file leaves the row
    pub look_leaves : (found : Outcome) (other : Look) → outcome poll.rules now.rows here ≡ found → other.file ≢ here.file → HasReached eras here.moment now.rows other
        → HasReached eras (look here.file ∷ here.moment) (progress_after poll here now found).rows other
    look_leaves skips other is differs has = reached_lasts eras here.moment (look here.file ∷ here.moment) now.rows other (at_look here.file here.moment) has
    look_leaves finds_nothing other is differs has = reached_lasts eras here.moment (look here.file ∷ here.moment) now.rows other (at_look here.file here.moment) has
    look_leaves finds_compressed other is differs has = reached_lasts eras here.moment (look here.file ∷ here.moment) now.rows other (at_look here.file here.moment) has
    look_leaves finds_no_room other is differs has = reached_lasts eras here.moment (look here.file ∷ here.moment) now.rows other (at_look here.file here.moment) has
    look_leaves finds_new other is differs has =
        let next : Row = row_after poll here (new_row poll here now.next_id) in
        record {
          place = has.place;
          row = has.row;
          at = (changes_by_push now.rows next).others has.place has.row (λ e. omega (arith, e, slice_get_within now.rows has.place has.row has.at)) has.at;
          owner = owner_lasts eras here.moment (look here.file ∷ here.moment) has.row other.file (at_look here.file here.moment) has.owner;
          later = later_then other.moment here.moment (look here.file ∷ here.moment) has.later (at_look here.file here.moment);
          start_within = has.start_within;
          reached = has.reached;
        }
    look_leaves (finds_row place row) other is differs has =
        let found = finds_row-tells poll.rules now.rows here place row is in
        let next : Row = row_after poll here row in
        let elsewhere : has.place ≢ place = λ e.
        let same_row : has.row ≡ row = one_at now.rows has.place has.row row has.at (subst (λ k. IsRowAt now.rows k row) (sym e) found.at) in
        differs (found_owner eras laws first stamp asked here apart row other.file (subst (λ (r : Row). IsOwner eras here.moment r other.file) same_row has.owner) found.prefix) in
        record {
          place = has.place;
          row = has.row;
          at = (changes_by_set now.rows place next row found.at).others has.place has.row elsewhere has.at;
          owner = owner_lasts eras here.moment (look here.file ∷ here.moment) has.row other.file (at_look here.file here.moment) has.owner;
          later = later_then other.moment here.moment (look here.file ∷ here.moment) has.later (at_look here.file here.moment);
          start_within = has.start_within;
          reached = has.reached;
        }
