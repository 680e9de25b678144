-- An output gets too long only by the lines of a large history.
use Rattle.std.proofs.Common.{◌≡◌, ◌≢◌, ℕ, zero, suc, ◌+◌, ◌<◌, ◌≤◌, ◌==◌, List, [], ◌∷◌, ◌++◌, length, drop, get_or, true, false, refl, sym, ap, subst, ◌∙◌, inl, inr, arith, length-append, eq-eqb, append_assoc}
use Rattle.std.specs.List.{All, sum_by}
use Rattle.std.proofs.lemmas.Bool.{cases_eq, ne_eqb}
use Rattle.std.proofs.lemmas.List.{append-nil, length-set}
use Rattle.std.proofs.lemmas.List.Concat.{flat_map-append, length-flat_map}
use Rattle.std.proofs.lemmas.List.Elements.{All-nil, All-cons, All-head, All-tail}
use Rattle.std.proofs.lemmas.List.Sums.{sum_by-cons}
use Rattle.std.proofs.lemmas.Option.{slice_get-get_or, slice_get_within}
use Rattle.checkpoint_store.specs.Limits.{output_limit}
use Rattle.file_pass.specs.Full.{line_of, lines_text}
use Rattle.lifetimes.proofs.EraLemmas.{EndsWith, one_begins, one_era_laws, owner_included, session_plain, session_polls}
use Rattle.lifetimes.specs.Large.{Share, IsShare, text_of, Differ, AreDifferent, Large}
use Rattle.lifetimes.specs.OneEra.{one_era}
use Rattle.lifetimes.specs.Whole.{TakesWhole}
use Rattle.outside.specs.World.{History, World, bytes}
use Rattle.poll_core.specs.Overflows.{Overflows, FirstPast}
use Rattle.poll_core.specs.IsSession.{IsSession}
use Rattle.poll_core.specs.SessionParts.{checkpoint_of_session, is_first, kept_of, limit_of, poll_of_session, rules_of_session, stamp_of_session}
use Rattle.poll_core.specs.declared.session.Session.{Session}
use Rattle.standing.proofs.OutcomeLemmas.{finds_new-tells}
use Rattle.standing.proofs.OwnerLemmas.{owners_differ}
use Rattle.standing.proofs.PassLemmas.{looks_stand, none_added}
use Rattle.standing.specs.AreRules.{AreRules}
use Rattle.standing.specs.Eras.{Eras, texts_of}
use Rattle.standing.specs.Limits.{row_limit}
use Rattle.standing.specs.Look.{Look, Outcome, skips, finds_nothing, finds_compressed, finds_no_room, finds_new, finds_row, Progress, outcome, progress_after, row_after, new_row}
use Rattle.standing.specs.Looks.{progress_by}
use Rattle.standing.specs.Marks.{Mark, of_id}
use Rattle.standing.specs.Part.{part_output, whole}
use Rattle.standing.specs.Pass.{start_at}
use Rattle.standing.specs.Poll.{Poll, poll_in}
use Rattle.standing.specs.Rows.{Row, IsRowAt}
use Rattle.standing.specs.Rules.{Rules, output_text}
use Rattle.standing.specs.Stands.{LinesStand, RowStands, Stands, IsIdOf}
use Rattle.standing.specs.Times.{AreBefore}
use Rattle.standing.specs.Tokens.{tokens_of}

-- ---- lines by the ids of their rows

module _ (weight : Mark → ℕ) where
  -- the lines of the rows with the ids from 1 to n
  abbrev total : ℕ → List Mark → ℕ
  total zero marks = 0
  total (suc n) marks = total n marks + sum_by weight (of_id (suc n) marks)

  total_none : (n : ℕ) → total n [] ≡ 0
  total_none zero = refl
  total_none (suc n) = omega (arith, total_none n)

  of_other : (id : ℕ) (mark : Mark) (marks : List Mark) → mark.id ≢ id → of_id id (mark ∷ marks) ≡ of_id id marks
  of_other id mark marks differs = let other : (mark.id == id) ≡ false = ne_eqb mark.id id differs in rw other refl

  of_same : (id : ℕ) (mark : Mark) (marks : List Mark) → mark.id ≡ id → of_id id (mark ∷ marks) ≡ mark ∷ of_id id marks
  of_same id mark marks is = let same : (mark.id == id) ≡ true = eq-eqb mark.id id is in rw same refl

  total_past : (n : ℕ) (mark : Mark) (marks : List Mark) → n < mark.id → total n (mark ∷ marks) ≡ total n marks
  total_past zero mark marks past = refl
  total_past (suc n) mark marks past =
      let own : sum_by weight (of_id (suc n) (mark ∷ marks)) ≡ sum_by weight (of_id (suc n) marks) = ap (sum_by weight) (of_other (suc n) mark marks (λ e. omega (arith, e, past))) in
      omega (arith, total_past n mark marks (omega (arith, past)), own)

  total_one : (n : ℕ) (mark : Mark) (marks : List Mark) → 1 ≤ mark.id → mark.id ≤ n → total n (mark ∷ marks) ≡ weight mark + total n marks
  total_one zero mark marks some within = absurd (omega (arith, some, within))
  total_one (suc n) mark marks some within =
      elim (cases_eq mark.id (suc n)) [
        | inl here ↦
            (let own : sum_by weight (of_id (suc n) (mark ∷ marks)) ≡ weight mark + sum_by weight (of_id (suc n) marks) = ap (sum_by weight) (of_same (suc n) mark marks here) ∙ sum_by-cons weight mark (of_id (suc n) marks) in
            omega (arith, total_past n mark marks (omega (arith, here)), own))
        | inr before ↦
            (let own : sum_by weight (of_id (suc n) (mark ∷ marks)) ≡ sum_by weight (of_id (suc n) marks) = ap (sum_by weight) (of_other (suc n) mark marks before) in
            omega (arith, total_one n mark marks some (omega (arith, within, before)), own))
      ]

  -- an id of one of the rows
  abbrev Within : ℕ → Mark → Type 0
  Within n mark = (1 ≤ mark.id) × (mark.id ≤ n)

  total_all : (n : ℕ) (marks : List Mark) → All (Within n) marks → total n marks ≡ sum_by weight marks
  total_all n [] all = total_none n
  total_all n (mark ∷ marks) all =
      let here = All-head (Within n) mark marks all in
      omega (arith, total_one n mark marks here.0 here.1, total_all n marks (All-tail (Within n) mark marks all), sum_by-cons weight mark marks)

-- ---- the shares of rows

-- any row, for what is read past the end of a list
any_row : Row
any_row = record { id = 0; path = []; front = []; start = 0; offset = 0; records = 0; lines = 0; state = []; born = 0; ends = []; seen = 0; quiet = 0 }

module _ (rules : Rules) (laws : AreRules rules) (history : History) (rows : List Row) (next_id : ℕ) (marks : List Mark) (stand : LinesStand (one_era rules) history rows next_id marks) (few : length rows ≤ row_limit) where
  row_at : (k : ℕ) → k < length rows → (row : Row) × IsRowAt rows k row
  row_at k within = (get_or rows k any_row, slice_get-get_or rows k any_row within)

  mine : (k : ℕ) (within : k < length rows) → RowStands (one_era rules) history (row_at k within).0 (of_id (row_at k within).0.id marks)
  mine k within = stand.each_row k (row_at k within).0 (row_at k within).1

  ends_with : (k : ℕ) (within : k < length rows) → EndsWith rules (row_at k within).0.id (part_output rules (whole rules (row_at k within).0.start) (row_at k within).0.path (tokens_of rules (drop (row_at k within).0.start (bytes history (mine k within).file)))) (of_id (row_at k within).0.id marks)
  ends_with k within = one_begins rules history (row_at k within).0 (of_id (row_at k within).0.id marks) (mine k within) laws

  abbrev share_of : (k : ℕ) → k < length rows → Share
  share_of k within = record { file = (mine k within).file; id = (row_at k within).0.id; path = (row_at k within).0.path; start = (row_at k within).0.start; lines = of_id (row_at k within).0.id marks ++ (ends_with k within).rest }

  id_of : (k : ℕ) (within : k < length rows) → (share_of k within).id ≡ k + 1
  id_of k within = stand.ids.ids k (row_at k within).0 (row_at k within).1

  share_is : (k : ℕ) (within : k < length rows) → IsShare rules history (share_of k within)
  share_is k within =
      let owner = (mine k within).owner in
      record {
        moment = owner.named_at;
        looks = owner.named;
        under = owner.under;
        included = owner_included rules history (row_at k within).0 (mine k within).file owner;
        some_id = omega (arith, id_of k within);
        few_ids = omega (arith, id_of k within, within, few);
        begins = (mine k within).begins;
        lines = record { all = (ends_with k within).all; times = (ends_with k within).times };
      }

  abbrev size_of : Share → ℕ
  size_of share = length (text_of rules share)

  abbrev weight_of : Mark → ℕ
  weight_of mark = length (rules.line mark)

  -- the lines of a row are no more than those of its share
  line_sizes : (k : ℕ) (within : k < length rows) → sum_by weight_of (of_id (suc k) marks) ≤ size_of (share_of k within)
  line_sizes k within =
      let row : Row = (row_at k within).0 in
      let own : List Mark = of_id row.id marks in
      let rest : List Mark = (ends_with k within).rest in
      let both : text_of rules (share_of k within) ≡ output_text rules own ++ output_text rules rest = flat_map-append rules.line own rest in
      let sizes : size_of (share_of k within) ≡ length (output_text rules own) + length (output_text rules rest) = ap length both ∙ length-append (output_text rules own) (output_text rules rest) in
      let sum : length (output_text rules own) ≡ sum_by weight_of own = length-flat_map rules.line own in
      let next : suc k ≡ row.id = omega (arith, id_of k within) in
      let same : sum_by weight_of (of_id (suc k) marks) ≡ sum_by weight_of own = ap (λ (id : ℕ). sum_by weight_of (of_id id marks)) next in
      omega (arith, sizes, sum, same)

  -- the share of a row before this place
  abbrev IsBelow : ℕ → Share → Type 0
  IsBelow n share = (k : ℕ) × (k < n) × ((within : k < length rows) × (share ≡ share_of k within))

  apart_from : (n : ℕ) (last : n < length rows) (share : Share) → IsBelow n share → Differ (share_of n last) share
  apart_from n last share below =
      let k : ℕ = below.0 in
      let within : k < length rows = below.2.0 in
      let elsewhere : n ≢ k = λ e. omega (arith, e, below.1) in
      let apart : Differ (share_of n last) (share_of k within) = record {
        files = owners_differ (one_era rules) history rows next_id marks n k (row_at n last).0 (row_at k within).0 (mine n last).file (mine k within).file stand (row_at n last).1 (row_at k within).1 elsewhere (mine n last).owner (mine k within).owner;
        ids = λ same. elsewhere (omega (arith, same, id_of n last, id_of k within));
      } in
      subst (λ (s : Share). Differ (share_of n last) s) (sym below.2.1) apart

  record Shared (n : ℕ) : Type 0 where
    shares : List Share
    many : length shares ≡ n
    below : All (IsBelow n) shares
    are : All (IsShare rules history) shares
    differ : AreDifferent shares
    long : total weight_of n marks ≤ sum_by size_of shares

  all_shared : (n : ℕ) → n ≤ length rows → Shared n
  all_shared zero within = record {
    shares = [];
    many = refl;
    below = All-nil (IsBelow 0);
    are = All-nil (IsShare rules history);
    differ = tt;
    long = omega arith;
  }
  all_shared (suc n) within =
      let last : n < length rows = omega (arith, within) in
      let rest = all_shared n (omega (arith, within)) in
      let share : Share = share_of n last in
      record {
        shares = share ∷ rest.shares;
        many = omega (arith, rest.many);
        below = All-cons (IsBelow (suc n)) share rest.shares (n, omega arith, (last, refl)) (λ k other inside. let there = rest.below k other inside in (there.0, omega (arith, there.1), there.2));
        are = All-cons (IsShare rules history) share rest.shares (share_is n last) rest.are;
        differ = (λ k other inside. apart_from n last (get_or rest.shares k other) (rest.below k other inside), rest.differ);
        long = omega (arith, rest.long, line_sizes n last, sum_by-cons size_of share rest.shares);
      }

  id_within : (mark : Mark) → IsIdOf rows mark.id → Within weight_of (length rows) mark
  id_within mark is =
      let id : is.1.id ≡ is.0 + 1 = stand.ids.ids is.0 is.1 is.2 in
      (omega (arith, id, is.3), omega (arith, id, is.3, slice_get_within rows is.0 is.1 is.2))

  pub large_by : output_limit < length (output_text rules marks) → Large rules history
  large_by long =
      let all = all_shared (length rows) (omega arith) in
      let ids : All (Within weight_of (length rows)) marks = λ k mark inside. id_within (get_or marks k mark) (stand.no_other_line k mark inside) in
      record {
        shares = all.shares;
        few = omega (arith, all.many, few);
        are = all.are;
        differ = all.differ;
        long = omega (arith, long, length-flat_map rules.line marks, total_all weight_of (length rows) marks ids, all.long);
      }

-- ---- the rows of a poll

-- no more rows than can be had
few_after : (poll : Poll) (here : Look) (now : Progress) (found : Outcome) → outcome poll.rules now.rows here ≡ found → length now.rows ≤ row_limit → length (progress_after poll here now found).rows ≤ row_limit
few_after poll here now skips is few = few
few_after poll here now finds_nothing is few = few
few_after poll here now finds_compressed is few = few
few_after poll here now finds_no_room is few = few
few_after poll here now finds_new is few = omega (arith, (finds_new-tells poll.rules now.rows here is).room, length-append now.rows (row_after poll here (new_row poll here now.next_id) ∷ []))
few_after poll here now (finds_row place row) is few = omega (arith, few, length-set now.rows place (row_after poll here row))

few_rows : (poll : Poll) (looks : List Look) (start : Progress) → length start.rows ≤ row_limit → length (progress_by poll looks start).rows ≤ row_limit
few_rows poll [] start few = few
few_rows poll (here ∷ earlier) start few =
    let now : Progress = progress_by poll earlier start in
    few_after poll here now (outcome poll.rules now.rows here) refl (few_rows poll earlier start few)

-- A text with a part that is too long is too long.
full_long : (session : Session) (full : ℕ) (marks : List Mark) → FirstPast (limit_of session) (kept_of session) marks full → limit_of session < kept_of session + length (lines_text marks)
full_long session full marks past =
    let part : List Mark = past.front ++ past.last ∷ [] in
    let whole : marks ≡ part ++ past.back = past.split ∙ sym (append_assoc past.front (past.last ∷ []) past.back) in
    let sizes : length (lines_text marks) ≡ length (lines_text part) + length (lines_text past.back) =
    ap (λ (ms : List Mark). length (lines_text ms)) whole ∙ ap length (flat_map-append line_of part past.back) ∙ length-append (lines_text part) (lines_text past.back) in
    omega (arith, past.too_much, past.size_then, sizes)

pub fills_large : (session : Session) (full : ℕ) (old new : World) (output : List ℕ) → IsSession session → session.eras ≡ texts_of (one_era (rules_of_session session)) → AreRules (rules_of_session session) → limit_of session ≡ output_limit → Overflows session full old new
    → TakesWhole (rules_of_session session) new.history → (stands : Stands (one_era (rules_of_session session)) old.history (checkpoint_of_session session).rows (checkpoint_of_session session).next_id output) → AreBefore (stamp_of_session session) stands.marks → length output ≡ kept_of session
    → Large (rules_of_session session) new.history
fills_large session full old new output is eras_are laws limit overflows takes stands times size =
    let rules : Rules = rules_of_session session in
    let eras : Eras = one_era rules in
    let poll : Poll = poll_of_session session in
    let as_poll : poll ≡ poll_in eras (is_first session) (stamp_of_session session) = session_polls rules session eras_are refl in
    let looks : List Look = overflows.here ∷ overflows.earlier in
    let start : Progress = start_at (checkpoint_of_session session) in
    let now : Progress = progress_by poll looks start in
    let P : List Mark → Type 0 = λ ms. LinesStand eras old.history start.rows start.next_id ms in
    let Q : Poll → Type 0 = λ p. LinesStand eras new.history (progress_by p looks start).rows (progress_by p looks start).next_id (stands.marks ++ (progress_by p looks start).added) in
    let in_era : Q (poll_in eras (is_first session) (stamp_of_session session)) =
    looks_stand eras (one_era_laws rules laws) (is_first session) (stamp_of_session session) (session_plain rules session refl takes.never) stands.marks times looks old.history new.history start overflows.come takes.apart (none_added (poll_in eras (is_first session) (stamp_of_session session)))
    (subst P (sym (append-nil stands.marks)) stands.lines_stand) in
    let stand : LinesStand eras new.history now.rows now.next_id (stands.marks ++ now.added) = subst Q (sym as_poll) in_era in
    let begun : length start.rows ≤ row_limit = omega (arith, is.lawful.count, is.lawful.next_id.1) in
    let sizes : length (output_text rules (stands.marks ++ now.added)) ≡ length output + length (lines_text now.added) =
    ap length (flat_map-append rules.line stands.marks now.added) ∙ length-append (output_text rules stands.marks) (output_text rules now.added) ∙ ap (λ (o : List ℕ). length o + length (lines_text now.added)) (sym stands.whole_lines) in
    large_by rules laws new.history now.rows now.next_id (stands.marks ++ now.added) stand (few_rows poll looks start begun)
    (omega (arith, limit, sizes, size, full_long session full now.added overflows.fills))
