-- A poll that nothing disturbs takes all files of a small history as a whole.
use Rattle.std.proofs.Common.{◌≡◌, ℕ, zero, suc, ◌+◌, ◌<◌, ◌≤◌, ◌==◌, List, [], ◌∷◌, ◌++◌, length, take, get_or, Bool, true, false, cond, refl, sym, ap, subst, ◌∙◌, inl, inr, arith, length-take}
use Rattle.std.specs.List.{count_by}
use Rattle.std.specs.Option.{option_map_or}
use Rattle.std.specs.Prelude.{Option, None, Some, slice_get, nat_lt, ◌&&◌, Contains}
use Rattle.std.proofs.lemmas.Bool.{cases_lt, ltb-false, ltb-true}
use Rattle.std.proofs.lemmas.List.{append-nil, take-take, take-append-le, length-append}
use Rattle.std.proofs.lemmas.List.Sums.{fails_before_first}
use Rattle.std.proofs.lemmas.Option.{slice_get-get_or, slice_get_within, get_or_from_slice_get}
use Rattle.lifetimes.proofs.CreatedLemmas.{pigeons_and_one, created_by_name, created_lasts, few_before, lawful_before}
use Rattle.lifetimes.proofs.OwnLemmas.{IsUndisturbed}
use Rattle.lifetimes.specs.Small.{IsSmall, IsWhole, AreWhole, created}
use Rattle.outside.specs.Lawful.{IsLawful}
use Rattle.outside.specs.World.{History, bytes}
use Rattle.standing.proofs.CompleteLemmas.{complete_pass, come_later}
use Rattle.standing.proofs.MomentLemmas.{later_none, later_then, look_later, bytes_grow, apart_before}
use Rattle.standing.proofs.OwnerLemmas.{owners_differ}
use Rattle.standing.proofs.EraLemmas.{last_laws, last_size}
use Rattle.standing.proofs.PassLemmas.{HaveTime, ProgressStands, looks_stand, none_added}
use Rattle.standing.proofs.PrefixLemmas.{begins-true, begins-false, prefix-append, prefix-take}
use Rattle.standing.specs.Apart.{Apart}
use Rattle.standing.specs.Eras.{Eras, AreEras, last_era}
use Rattle.standing.specs.Limits.{row_limit, most_taken, is_compressed}
use Rattle.standing.specs.Look.{Look, Outcome, skips, finds_nothing, finds_compressed, finds_no_room, finds_new, finds_row, Progress, content, size, front, outcome, outcome_at, place_of, offset_found}
use Rattle.standing.specs.Looks.{progress_by, outcome_after, Come, count_of}
use Rattle.standing.specs.Marks.{Mark}
use Rattle.standing.specs.Moments.{IsLater, IsNamed}
use Rattle.standing.specs.Owner.{IsOwner}
use Rattle.standing.specs.Pass.{Stretch, Pass, is_short, start_at}
use Rattle.standing.specs.Poll.{IsPlainIn, Poll, poll_in}
use Rattle.standing.specs.Prefixes.{IsPrefix, begins}
use Rattle.standing.specs.Reached.{Reached}
use Rattle.standing.specs.Rows.{Row, Checkpoint, IsRowAt}
use Rattle.standing.specs.Rules.{Rules}
use Rattle.standing.specs.Stands.{LinesStand, Stands}
use Rattle.standing.specs.Sums.{Sums, AreSums, IsReached, TellNothingLeft, is_passed_as_compressed, is_left_out, has_more}
use Rattle.standing.specs.Times.{AreBefore}

-- ---- counts

-- no look passes the test
abbrev NonePass : Poll → (Look → Outcome → Bool) → List Look → Progress → Type 0
NonePass poll test [] start = Unit {0}
NonePass poll test (here ∷ earlier) start = NonePass poll test earlier start × (test here (outcome_after poll earlier start here) ≡ false)

count_none : (poll : Poll) (test : Look → Outcome → Bool) (looks : List Look) (start : Progress) → NonePass poll test looks start → count_of poll test looks start ≡ 0
count_none poll test [] start none = refl
count_none poll test (here ∷ earlier) start none =
    let one : ◌≡◌ {A = ℕ} (cond (test here (outcome_after poll earlier start here)) 1 0) 0 = ap (λ (t : Bool). cond {A = ℕ} t 1 0) none.1 in
    omega (arith, one, count_none poll test earlier start none.0)

-- ---- what is left

not_more : (option : Option ℕ) (whole : Bool) (end : ℕ) → end ≤ most_taken → option_map_or (λ (offset : ℕ). whole && nat_lt (offset + most_taken) end) option false ≡ false
not_more None whole end within = refl
not_more (Some offset) true end within =
    let P : Bool → Type 0 = λ t. nat_lt (offset + most_taken) end ≡ t → t ≡ false in
    let all : P (nat_lt (offset + most_taken) end) = elim (nat_lt (offset + most_taken) end) as P [
      | true ↦ λ is. absurd (omega (arith, within, ltb-true (offset + most_taken) end is))
      | false ↦ λ is. refl
    ] in
    all refl
not_more (Some offset) false end within = refl

-- ---- what begins as gzip does

-- a text that a front of a longer one begins with begins the longer one
begins_whole : (n : ℕ) (short long more : List ℕ) → IsPrefix short (take n long) → length short ≤ n → IsPrefix short (long ++ more)
begins_whole n short long more prefix within =
    let k : ℕ = length short in
    let inside : k ≤ length long = omega (arith, ap length prefix, length-take k (take n long), length-take n long) in
    take-append-le k long more inside ∙ sym (take-take k n long within) ∙ prefix

plain_before : (n : ℕ) (long more : List ℕ) → 16 ≤ n → is_compressed (long ++ more) ≡ false → is_compressed (take n long) ≡ false
plain_before n long more wide plain =
    let gzip : List ℕ = 31 ∷ 139 ∷ [] in
    let P : Bool → Type 0 = λ t. begins gzip (take n long) ≡ t → t ≡ false in
    let all : P (begins gzip (take n long)) = elim (begins gzip (take n long)) as P [
      | true ↦ λ is. absurd (begins-false gzip (long ++ more) plain (begins_whole n gzip long more (begins-true gzip (take n long) is) (omega (arith, wide))))
      | false ↦ λ is. refl
    ] in
    all refl

at_not_compressed : (here : Look) (rows : List Row) (place : ℕ) (option : Option Row) → is_passed_as_compressed here (outcome_at rows place option) ≡ false
at_not_compressed here rows place (Some row) = refl
at_not_compressed here rows place None = elim (nat_lt (length rows) row_limit) as (λ t. is_passed_as_compressed here (cond t finds_new finds_no_room) ≡ false) [ true ↦ refl | false ↦ refl ]

not_compressed : (rules : Rules) (rows : List Row) (here : Look) → is_compressed (front rules here) ≡ false → is_passed_as_compressed here (outcome rules rows here) ≡ false
unfolding outcome
not_compressed rules rows here plain =
    let last : Outcome = outcome_at rows (place_of (front rules here) rows) (slice_get rows (place_of (front rules here) rows)) in
    let third : is_passed_as_compressed here (cond (is_compressed (front rules here)) finds_compressed last) ≡ false =
    subst (λ (t : Bool). is_passed_as_compressed here (cond t finds_compressed last) ≡ false) (sym plain) (at_not_compressed here rows (place_of (front rules here) rows) (slice_get rows (place_of (front rules here) rows))) in
    let second : is_passed_as_compressed here (cond (size here == 0) finds_nothing (cond (is_compressed (front rules here)) finds_compressed last)) ≡ false =
    elim (size here == 0) as (λ t. is_passed_as_compressed here (cond t finds_nothing (cond (is_compressed (front rules here)) finds_compressed last)) ≡ false) [ true ↦ refl | false ↦ third ] in
    elim here.skipped as (λ t. is_passed_as_compressed here (cond t skips (cond (size here == 0) finds_nothing (cond (is_compressed (front rules here)) finds_compressed last))) ≡ false) [ true ↦ refl | false ↦ second ]

-- ---- room for each file

peel : (b : Bool) (x y : Outcome) → (x ≡ finds_no_room → ⊥) → cond b x y ≡ finds_no_room → y ≡ finds_no_room
peel true x y never is = absurd (never is)
peel false x y never is = is

at_no_room : (rows : List Row) (place : ℕ) (option : Option Row) → outcome_at rows place option ≡ finds_no_room → (option ≡ None) × (row_limit ≤ length rows)
at_no_room rows place (Some row) is = let never : finds_row place row ≡ finds_no_room = is in absurd (cc)
at_no_room rows place None is =
    let P : Bool → Type 0 = λ t. nat_lt (length rows) row_limit ≡ t → cond t finds_new finds_no_room ≡ finds_no_room → row_limit ≤ length rows in
    let all : P (nat_lt (length rows) row_limit) = elim (nat_lt (length rows) row_limit) as P [
      | true ↦ λ test never. absurd (let both : finds_new ≡ finds_no_room = never in cc)
      | false ↦ λ test same. ltb-false (length rows) row_limit test
    ] in
    (refl, all refl is)

record FindsNoRoom (rules : Rules) (rows : List Row) (here : Look) : Type 0 where
  many : row_limit ≤ length rows
  none : (k : ℕ) (row : Row) → IsRowAt rows k row → IsPrefix row.front (front rules here) → ⊥

no_room_tells : (rules : Rules) (rows : List Row) (here : Look) → outcome rules rows here ≡ finds_no_room → FindsNoRoom rules rows here
unfolding outcome
no_room_tells rules rows here is =
    let first : ℕ = place_of (front rules here) rows in
    let last : Outcome = outcome_at rows first (slice_get rows first) in
    let third : Outcome = cond (is_compressed (front rules here)) finds_compressed last in
    let second : Outcome = cond (size here == 0) finds_nothing third in
    let told = at_no_room rows first (slice_get rows first)
    (peel (is_compressed (front rules here)) finds_compressed last (λ e. cc) (peel (size here == 0) finds_nothing third (λ e. cc) (peel here.skipped skips second (λ e. cc) is))) in
    record {
      many = told.1;
      none = λ k row at prefix.
          elim (cases_lt first (length rows)) [
            | inl inside ↦ (let never : None ≡ Some (get_or rows first row) = sym told.0 ∙ slice_get-get_or rows first row inside in absurd (cc))
            | inr past ↦
                let before : k < first = omega (arith, past, slice_get_within rows k row at) in
                let fails : begins (get_or rows k row).front (front rules here) ≡ false = fails_before_first (λ (r : Row). begins r.front (front rules here)) rows k row before in
                let the_row : get_or rows k row ≡ row = get_or_from_slice_get rows k row row at in
                absurd (begins-false row.front (front rules here) (ap (λ (r : Row). begins r.front (front rules here)) (sym the_row) ∙ fails) prefix)
          ];
    }

-- the file's front has grown from what a row of it saw
grown_front : (eras : Eras) → AreEras eras → (here : Look) (row : Row) → IsOwner eras here.moment row here.file → IsPrefix row.front (front (last_era eras) here)
grown_front eras laws here row owner =
    let grown = bytes_grow owner.seen_at here.moment here.file (look_later here.moment here.file owner.seen_at owner.seen) in
    let whole : IsPrefix (bytes owner.seen_at here.file) (content here) = subst (IsPrefix (bytes owner.seen_at here.file)) (sym grown.1) (prefix-append (bytes owner.seen_at here.file) grown.0) in
    let then : IsPrefix (take eras.first.front_size (bytes owner.seen_at here.file)) (take eras.first.front_size (content here)) = prefix-take eras.first.front_size (bytes owner.seen_at here.file) (content here) whole in
    let now : IsPrefix row.front (take eras.first.front_size (content here)) = subst (λ (f : List ℕ). IsPrefix f (take eras.first.front_size (content here))) (sym owner.saw) then in
    subst (λ (n : ℕ). IsPrefix row.front (take n (content here))) (sym (last_size eras laws)) now

-- any row, for what is read past the end of a list
any_row : Row
any_row = record { id = 0; path = []; front = []; start = 0; offset = 0; records = 0; lines = 0; state = []; born = 0; ends = []; seen = 0; quiet = 0 }

module _ (eras : Eras) (laws : AreEras eras) (here : Look) (rows : List Row) (next_id : ℕ) (marks : List Mark) (stand : LinesStand eras here.moment rows next_id marks) where
  abbrev row_of_place : (k : ℕ) → k < length rows → (row : Row) × IsRowAt rows k row
  row_of_place k within = (get_or rows k any_row, slice_get-get_or rows k any_row within)

  abbrev owner_of : (k : ℕ) (within : k < length rows) → (file : ℕ) × IsOwner eras here.moment (row_of_place k within).0 file
  owner_of k within = let mine = stand.each_row k (row_of_place k within).0 (row_of_place k within).1 in (mine.file, mine.owner)

  abbrev owned : (k : ℕ) → k < length rows → ℕ
  owned k within = (owner_of k within).0

  room_for_each : IsLawful here.moment → IsNamed here.moment here.path here.file → length (created here.moment) ≤ row_limit → outcome (last_era eras) rows here ≡ finds_no_room → ⊥
  room_for_each lawful named few is =
      let told = no_room_tells (last_era eras) rows here is in
      let many = pigeons_and_one (length rows) owned here.file (created here.moment)
      (λ k within.
      let owner = (owner_of k within).1 in
      let then = look_later here.moment (owned k within) owner.named_at owner.named in
      created_lasts owner.named_at here.moment (owned k within) then (created_by_name owner.named_at (row_of_place k within).0.path (owned k within) (lawful_before owner.named_at here.moment then lawful) owner.under))
      (created_by_name here.moment here.path here.file lawful named)
      (λ j k a b apart. owners_differ eras here.moment rows next_id marks j k (row_of_place j a).0 (row_of_place k b).0 (owned j a) (owned k b) stand (row_of_place j a).1 (row_of_place k b).1 apart (owner_of j a).1 (owner_of k b).1)
      (λ k within same. told.none k (row_of_place k within).0 (row_of_place k within).1 (grown_front eras laws here (row_of_place k within).0 (subst (λ (f : ℕ). IsOwner eras here.moment (row_of_place k within).0 f) same (owner_of k within).1))) in
      omega (arith, many, told.many, few)

not_left_out : (here : Look) (found : Outcome) → (found ≡ finds_no_room → ⊥) → is_left_out here found ≡ false
not_left_out here skips never = refl
not_left_out here finds_nothing never = refl
not_left_out here finds_compressed never = refl
not_left_out here finds_no_room never = absurd (never refl)
not_left_out here finds_new never = refl
not_left_out here (finds_row place row) never = refl

-- ---- all looks

record Unlimited (poll : Poll) (looks : List Look) (start : Progress) : Type 0 where
  plain : NonePass poll is_passed_as_compressed looks start
  room : NonePass poll is_left_out looks start
  near : NonePass poll (has_more poll) looks start

module _ (eras : Eras) (laws : AreEras eras) (first : Bool) (stamp : Option ℕ) (asked : IsPlainIn eras first stamp) (before : List Mark) (times : AreBefore stamp before) (final : History) (small : IsSmall final) (lawful : IsLawful final) (apart : Apart eras.first.front_size final) where
  abbrev poll : Poll
  poll = poll_in eras first stamp

  abbrev size_of_fronts : ℕ
  size_of_fronts = eras.first.front_size

  wide : 16 ≤ (last_era eras).front_size
  wide = (last_laws eras laws).front_size

  unlimited : (looks : List Look) (old new : History) (start : Progress) → Come poll.rules looks old new → IsLater new final → HaveTime poll start.added → ProgressStands eras old before start → Unlimited poll looks start
  unlimited [] old new start come later have stands = record { plain = tt; room = tt; near = tt }
  unlimited (here ∷ earlier) old new start come later have stands =
      let now : Progress = progress_by poll earlier start in
      let seen = look_later new here.file here.moment come.1.looks in
      let then = later_then here.moment new final seen later in
      let rest = unlimited earlier old here.moment start come.0 then have stands in
      let at_moment = looks_stand eras laws first stamp asked before times earlier old here.moment start come.0 (apart_before size_of_fronts here.moment final then apart) have stands in
      let grown = bytes_grow here.moment final here.file then in
      let plain : is_compressed (front poll.rules here) ≡ false = plain_before poll.rules.front_size (content here) grown.0 wide (subst (λ (b : List ℕ). is_compressed b ≡ false) grown.1 (small.plain here.file)) in
      let short : size here ≤ most_taken = omega (arith, small.short here.file, ap length grown.1, length-append (content here) grown.0) in
      record {
        plain = (rest.plain, not_compressed poll.rules now.rows here plain);
        room = (rest.room, not_left_out here (outcome poll.rules now.rows here) (room_for_each eras laws here now.rows now.next_id (before ++ now.added) at_moment (lawful_before here.moment final then lawful) come.1.under (omega (arith, small.few, few_before here.moment final then))));
        near = (rest.near, not_more (offset_found poll here (outcome poll.rules now.rows here)) (here.end == size here) (size here) short);
      }

-- a look comes between the two moments
come_between : (poll : Poll) (looks : List Look) (old new : History) (k : ℕ) (d : Look) → Come poll.rules looks old new → k < length looks → IsLater old (get_or looks k d).moment × IsLater (get_or looks k d).moment new
come_between poll [] old new k d come within = absurd (omega (arith, within))
come_between poll (here ∷ earlier) old new zero d come within = (come_later poll earlier old here.moment come.0, look_later new here.file here.moment come.1.looks)
come_between poll (here ∷ earlier) old new (suc k) d come within =
    let rest = come_between poll earlier old here.moment k d come.0 (omega (arith, within)) in
    (rest.0, later_then (get_or earlier k d).moment here.moment new rest.1 (look_later new here.file here.moment come.1.looks))

look_between : (poll : Poll) (looks : List Look) (old new : History) (here : Look) → Come poll.rules looks old new → Contains looks here → IsLater old here.moment × IsLater here.moment new
look_between poll looks old new here come there = subst (λ (h : Look). IsLater old h.moment × IsLater h.moment new) there.2 (come_between poll looks old new there.0 here come there.1)

-- The file's row has taken it as a whole, where its bytes have stood still since the look that reached them.
whole_of : (eras : Eras) (history : History) (rows : List Row) (file : ℕ) (here : Look) → here.file ≡ file → bytes history here.file ≡ bytes here.moment here.file → 0 < length (bytes history file) → (0 < size here → IsReached eras history rows here)
    → IsWhole eras history rows file
whole_of eras history rows file here is still filled reaches =
    let size_is : size here ≡ length (bytes history file) = ap (λ (b : List ℕ). length b) (sym still) ∙ ap (λ (f : ℕ). length (bytes history f)) is in
    let has = reaches (omega (arith, size_is, filled)) in
    record {
      place = has.place;
      row = has.row;
      at = has.at;
      owner = subst (λ (f : ℕ). IsOwner eras history has.row f) is has.owner;
      reached = subst (λ (n : ℕ). Reached (last_era eras) (bytes history file) has.row n) size_is (subst (λ (f : ℕ). Reached (last_era eras) (bytes history f) has.row (size here)) is has.reached);
    }

pub small_whole : (eras : Eras) → AreEras eras → (first : Bool) (stamp : Option ℕ) → IsPlainIn eras first stamp → (stretch : Stretch) (looks : List Look) (before after : Checkpoint) (added : List Mark) (pass : Pass (poll_in eras first stamp) stretch looks before after added) (sums : Sums) (output : List ℕ)
    → stretch.faults_after ≡ stretch.faults_before → stretch.faults_before < 18446744073709551615 → Apart eras.first.front_size stretch.new → IsLawful stretch.new → IsUndisturbed stretch.old stretch.new
    → (stands : Stands eras stretch.old before.rows before.next_id output) → AreBefore stamp stands.marks → AreSums (poll_in eras first stamp) stretch looks before after added pass sums → IsSmall stretch.new → AreWhole eras stretch.new after.rows
small_whole eras laws first stamp asked stretch looks before after added pass sums output none few apart lawful still stands times are small = λ path file included named filled.
    let poll : Poll = poll_in eras first stamp in
    let P : List Mark → Type 0 = λ ms. LinesStand eras stretch.old before.rows before.next_id ms in
    let free = unlimited eras laws first stamp asked stands.marks times stretch.new small lawful apart looks stretch.old stretch.new (start_at before) pass.come (later_none stretch.new) (none_added poll) (subst P (sym (append-nil stands.marks)) stands.lines_stand) in
    let counted = pass.calls.counted (omega (arith, none, few)) in
    let failures : count_by is_short looks + (length pass.misses + length pass.unlisteds) ≡ 0 = omega (arith, counted, none) in
    let tells : TellNothingLeft sums = record {
      left = omega (arith, are.left, count_none poll (has_more poll) looks (start_at before) free.near);
      failed = omega (arith, are.failed, failures);
      compressed = omega (arith, are.compressed, count_none poll is_passed_as_compressed looks (start_at before) free.plain);
      full = omega (arith, are.full, count_none poll is_left_out looks (start_at before) free.room);
    } in
    let reached = complete_pass eras laws first stamp asked stretch looks before after added pass output sums path file apart lawful still.names_kept stands times are tells included (small.reachable path file named) named in
    let between = look_between poll looks stretch.old stretch.new reached.0 pass.come reached.1 in
    whole_of eras stretch.new after.rows file reached.0 reached.2 (still.bytes_kept reached.0.moment reached.0.file between.0 between.1) filled reached.3
