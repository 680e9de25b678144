-- Each row has taken its file as a whole, and each round's file has a row.
use Rattle.std.proofs.Common.{◌≡◌, ℕ, zero, suc, ◌+◌, ◌-◌, ◌<◌, ◌≤◌, ◌==◌, List, [], ◌∷◌, ◌++◌, length, take, drop, Bool, true, Some, refl, sym, ap, subst, ◌∙◌, inl, inr, arith, eq-eqb, length-append, length-take}
use Rattle.std.specs.Prelude.{if◌then◌else◌, All, slice_get}
use Rattle.std.proofs.lemmas.Bool.{cases_eq}
use Rattle.std.proofs.lemmas.List.{append-nil, take_all}
use Rattle.std.proofs.lemmas.List.Elements.{All-head, All-tail}
use Rattle.std.proofs.lemmas.List.Sums.{sum_by-cons}
use Rattle.demo_run.specs.Script.{line_of}
use Rattle.demo_run.specs.Steps.{IsOfRounds}
use Rattle.demo_run.proofs.Contents.{Begins, begins, content, file_of_round}
use Rattle.demo_run.proofs.FileSums.{Differ, written}
use Rattle.demo_run.proofs.NameTexts.{IsGiven, given_later, of_log, of_rotation}
use Rattle.demo_run.proofs.RoundsOf.{are_rounds, rounds_of}
use Rattle.demo_run.proofs.Ruled.{IsRuled, entries_of}
use Rattle.demo_run.proofs.SmallRounds.{bytes_are, has_name, lines_are, no_start}
use Rattle.lifetimes.proofs.EraLemmas.{one_offset, one_taken}
use Rattle.lifetimes.specs.OneEra.{one_era}
use Rattle.lifetimes.specs.Small.{AreWhole, IsWhole}
use Rattle.line_splitter.specs.Cuts.{Cut}
use Rattle.outside.specs.World.{History, bytes}
use Rattle.standing.proofs.MomentLemmas.{bytes_grow, look_later}
use Rattle.standing.proofs.OwnerLemmas.{owners_differ}
use Rattle.standing.proofs.TokenLemmas.{used-append}
use Rattle.standing.specs.Apart.{Apart}
use Rattle.standing.specs.Marks.{Mark, of_id}
use Rattle.standing.specs.Owner.{IsOwner}
use Rattle.standing.specs.Part.{HasTaken, whole}
use Rattle.standing.specs.Reached.{Reached}
use Rattle.standing.specs.Rows.{Row, IsRowAt}
use Rattle.standing.specs.Rules.{Rules, Includes}
use Rattle.standing.specs.Stands.{LinesStand, RowStands}
use Rattle.standing.specs.Tokens.{texts, tokens_of, used, used_by}

-- ---- tokens that use all bytes

abbrev UsesSome : Cut → Type 0
UsesSome cut = 1 ≤ cut.used

all_behind : (taken behind : List Cut) → All UsesSome (taken ++ behind) → All UsesSome behind
all_behind [] behind all = all
all_behind (cut ∷ taken) behind all = all_behind taken behind (All-tail UsesSome cut (taken ++ behind) all)

none_behind : (behind : List Cut) → All UsesSome behind → used_by behind ≡ 0 → behind ≡ []
none_behind [] some none = refl
none_behind (cut ∷ behind) some none = absurd (omega (arith, none, All-head UsesSome cut behind some, sum_by-cons (λ (c : Cut). c.used) cut behind))

all_taken : (taken behind : List Cut) → All UsesSome (taken ++ behind) → used_by (taken ++ behind) ≡ used_by taken → texts (taken ++ behind) ≡ texts taken
all_taken taken behind some none =
    let unused : used_by behind ≡ 0 = omega (arith, none, used-append taken behind) in
    ap (λ (cuts : List Cut). texts (taken ++ cuts)) (none_behind behind (all_behind taken behind some) unused) ∙ ap texts (append-nil taken)

-- ---- a file that isn't empty

some_here : (round n file : ℕ) → file_of_round round ≡ file → round ≡ suc n → 0 < length (content (suc n) file)
some_here round n file is last =
    let here : (file_of_round (suc n) == file) ≡ true = eq-eqb (file_of_round (suc n)) file (ap file_of_round (sym last) ∙ is) in
    let more : List ℕ = if file_of_round (suc n) == file then line_of (suc n) else [] in
    let line : more ≡ line_of (suc n) = ap (λ (t : Bool). if t then line_of (suc n) else []) here in
    omega (arith, length-append (content n file) more, ap length line)

pub filled : (n round : ℕ) → 1 ≤ round → round ≤ n → 0 < length (content n (file_of_round round))
filled zero round some within = absurd (omega (arith, some, within))
filled (suc n) round some within = elim (cases_eq round (suc n)) [
  | inl last ↦ some_here round n (file_of_round round) refl last
  | inr before ↦
      let file : ℕ = file_of_round round in
      let had : 0 < length (content n file) = filled n round some (omega (arith, within, before)) in
      omega (arith, had, length-append (content n file) (if file_of_round (suc n) == file then line_of (suc n) else []))
]

included : (rules : Rules) (path : List ℕ) → IsRuled rules → IsGiven 1000 path → Includes rules path
included rules path ruled (of_log log some is) = subst (Includes rules) (sym is) (ruled.logs log some)
included rules path ruled (of_rotation round few is) = subst (Includes rules) (sym is) (ruled.rotated round few)

module _ (n : ℕ) (few : n ≤ 1000) (history : History) (of : IsOfRounds n history) (rules : Rules) (ruled : IsRuled rules) where
  -- a row that begins at the file's beginning and has taken all of it
  whole_lines : (row : Row) (file : ℕ) (tokens : List (List ℕ)) → row.start ≡ 0 → HasTaken rules (whole rules row.start) (bytes history file) tokens row
      → row.offset ≡ row.start + used rules (take (length (bytes history file) - row.start) (drop row.start (bytes history file))) → row.lines ≡ written n file
  whole_lines row file tokens start has reached =
      let all : List ℕ = bytes history file in
      let split : rules.cuts all ≡ has.bound.taken ++ has.bound.behind = ap (λ (k : ℕ). rules.cuts (drop k all)) (sym start) ∙ has.bound.split in
      let front : used rules (take (length all - row.start) (drop row.start all)) ≡ used rules all =
      ap (λ (k : ℕ). used rules (take (length all - k) (drop k all))) start ∙ ap (used rules) (take_all (length all - 0) all (omega arith)) in
      let uses : used_by (has.bound.taken ++ has.bound.behind) ≡ used_by has.bound.taken =
      omega (arith, ap used_by split, front, reached, has.bound.uses, start) in
      let tokens_are : tokens ≡ tokens_of rules all =
      has.bound.are ∙ sym (ap texts split ∙ all_taken has.bound.taken has.bound.behind (subst (All UsesSome) split (ruled.some_bytes all)) uses) in
      let entries : length (entries_of rules row.path tokens) ≡ written n file =
      ap (λ (ts : List (List ℕ)). length (entries_of rules row.path ts)) (tokens_are ∙ ap (tokens_of rules) (lines_are n few history of file))
      ∙ ruled.entries (rounds_of n file) (are_rounds n file few) row.path in
      omega (arith, has.lines, entries)

  module _ (rows : List Row) (next_id : ℕ) (marks : List Mark) (apart : Apart rules.front_size history) (stand : LinesStand (one_era rules) history rows next_id marks) (all_whole : AreWhole (one_era rules) history rows) where
    -- the file of a round is taken
    pub whole_of_round : (round : ℕ) → 1 ≤ round → round ≤ n → IsWhole (one_era rules) history rows (file_of_round round)
    whole_of_round round some within =
        let name = has_name n few history of round some within in
        all_whole name.path (file_of_round round) (included rules name.path ruled (given_later n 1000 name.path few name.given)) name.leads
        (omega (arith, filled n round some within, ap length (bytes_are n few history of (file_of_round round))))

    owner_filled : (row : Row) (file : ℕ) → IsOwner (one_era rules) history row file → 0 < length (content n file)
    owner_filled row file owner =
        let grown = bytes_grow owner.seen_at history file (look_later history file owner.seen_at owner.seen) in
        omega (
          arith,
          owner.not_empty,
          ap length owner.saw,
          length-take rules.front_size (bytes owner.seen_at file),
          ap length grown.1,
          length-append (bytes owner.seen_at file) grown.0,
          ap length (bytes_are n few history of file),
        )

    owner_whole : (row : Row) (file : ℕ) → IsOwner (one_era rules) history row file → IsWhole (one_era rules) history rows file
    owner_whole row file owner =
        let first : Begins n file = begins n file (owner_filled row file owner) in
        subst (IsWhole (one_era rules) history rows) first.file_is (whole_of_round first.round first.some first.few)

    one_row : (place other : ℕ) (row other_row : Row) → IsRowAt rows place row → IsRowAt rows other other_row → place ≡ other → other_row ≡ row
    one_row place other row other_row at other_at same =
        let both : Some other_row ≡ Some row = sym other_at ∙ ap (slice_get rows) (sym same) ∙ at in
        cc (both)

    -- no two rows have one file
    pub rows_differ : Differ (IsOwner (one_era rules) history) rows
    rows_differ place other row other_row file at other_at differ owner owner_too =
        owners_differ (one_era rules) history rows next_id marks place other row other_row file file stand at other_at differ owner owner_too refl

    whole_here : (place : ℕ) (row : Row) (file : ℕ) → IsRowAt rows place row → IsOwner (one_era rules) history row file → Reached rules (bytes history file) row (length (bytes history file))
    whole_here place row file at owner =
        let its = owner_whole row file owner in
        elim (cases_eq place its.place) [
          | inl same ↦ subst (λ (r : Row). Reached rules (bytes history file) r (length (bytes history file))) (one_row place its.place row its.row at its.at same) its.reached
          | inr differ ↦ absurd (rows_differ place its.place row its.row file at its.at differ owner its.owner)
        ]

    -- each row has an owner, and as many lines as rounds wrote to it
    pub owned : (place : ℕ) (row : Row) → IsRowAt rows place row → (file : ℕ) × (IsOwner (one_era rules) history row file × (row.lines ≡ written n file))
    owned place row at =
        let stands : RowStands (one_era rules) history row (of_id row.id marks) = stand.each_row place row at in
        let all : List ℕ = bytes history stands.file in
        let reached : row.offset ≡ row.start + used rules (take (length all - row.start) (drop row.start all)) =
        subst (λ (from : ℕ). row.offset ≡ from + used rules (take (length all - from) (drop from all))) (one_offset rules history row (of_id row.id marks) stands) (whole_here place row stands.file at stands.owner) in
        (stands.file, (stands.owner, whole_lines row stands.file stands.tokens (no_start n few history of rules ruled stands.file row.start stands.begins) (one_taken rules history row (of_id row.id marks) stands) reached))
