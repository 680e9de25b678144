-- Which rows are flagged, change after change.
use Rattle.std.proofs.Common.{◌≡◌, ◌≢◌, ◌⊎◌, ◌↔◌, ℕ, ◌+◌, ◌<◌, ◌≤◌, zero, suc, List, [], ◌∷◌, ◌++◌, length, map, take, Bool, true, false, refl, sym, ap, subst, ◌∙◌, inl, inr, arith}
use Rattle.std.proofs.lemmas.Bool.{cases_eq, cases_lt, ne_eqb}
use Rattle.std.proofs.lemmas.List.{length-map, length-set, map-append}
use Rattle.std.proofs.lemmas.Option.{slice_get_within, slice_get_past, same_Some}
use Rattle.std.proofs.Math.Seq.{take-append_seam}
use Rattle.std.specs.Prelude.{Option, None, Some, replicate, slice_get, slice_set, ◌==◌, if◌then◌else◌}
use Rattle.file_tracker.specs.Places.{with_look}
use Rattle.file_tracker.specs.declared.row.Row.{Row}
use Rattle.idle_flush.specs.declared.idle.Idle.{Idle}
use Rattle.standing.specs.Rules.{Rules}
use Rattle.file_pass.specs.Grown.{LosesNothing, Stays, HasGrown, IsNewOrGrown, IsSameButLook, FlagsGrowth}
use Rattle.file_pass.specs.Inner.Looks.{idle_of, looks_in, IsLookedAt, FlagsLooks}
use Rattle.file_pass.specs.Unchanged.{HasChanged, IsNewOrChanged, KeepsUnchanged, FlagsChanges, HasNoFlag, HasFlagForEach}
use Rattle.file_pass.specs.declared.taking.Taking.{Taking}
use Rattle.file_pass.proofs.Listing.{get_set, set_twice, set_cases, set_others}

-- ---- rows that lose nothing

module _ (rules : Rules) where
  loses_none : (row : Row) → LosesNothing rules row row
  loses_none row = record { front = omega arith; offset = omega arith; held = inr (inl refl) }

  stays_none : (at : Option Row) → Stays rules at at
  stays_none None = tt
  stays_none (Some row) = loses_none row

  held_then : (x y z : Row) → LosesNothing rules x y → LosesNothing rules y z → (x.offset < z.offset) ⊎ ((z.state ≡ x.state) ⊎ (z.state ≡ rules.fresh))
  held_then x y z first second = elim first.held [
    | inl further ↦ inl (omega (arith, further, second.offset))
    | inr held ↦ elim second.held [
      | inl further ↦ inl (omega (arith, further, first.offset))
      | inr next ↦ elim next [
        | inl same ↦ elim held [
          | inl before ↦ inr (inl (same ∙ before))
          | inr closed ↦ inr (inr (same ∙ closed))
        ]
        | inr closed ↦ inr (inr closed)
      ]
    ]
  ]

  stays_then : (a b c : Option Row) → Stays rules a b → Stays rules b c → Stays rules a c
  stays_then None b c first second = tt
  stays_then (Some x) None c first second = absurd first
  stays_then (Some x) (Some y) None first second = absurd second
  stays_then (Some x) (Some y) (Some z) first second = record { front = omega (arith, first.front, second.front); offset = omega (arith, first.offset, second.offset); held = held_then x y z first second }

  -- what is new or has grown is so after more
  grows_first : (x y z : Row) → HasGrown rules x y → LosesNothing rules x y → LosesNothing rules y z → HasGrown rules x z
  grows_first x y z grown before stays = elim grown [
    | inl longer ↦ inl (omega (arith, longer, stays.front))
    | inr other ↦ elim other [
      | inl further ↦ inr (inl (omega (arith, further, stays.offset)))
      | inr emptied ↦ elim stays.held [
        | inl further ↦ inr (inl (omega (arith, further, before.offset)))
        | inr held ↦ elim held [
          | inl same ↦ inr (inr (record { were_open = emptied.were_open; closed = same ∙ emptied.closed }))
          | inr closed ↦ inr (inr (record { were_open = emptied.were_open; closed = closed }))
        ]
      ]
    ]
  ]

  grows_then : (x y z : Row) → LosesNothing rules x y → HasGrown rules y z → LosesNothing rules y z → HasGrown rules x z
  grows_then x y z stays grown after = elim grown [
    | inl longer ↦ inl (omega (arith, longer, stays.front))
    | inr other ↦ elim other [
      | inl further ↦ inr (inl (omega (arith, further, stays.offset)))
      | inr emptied ↦ elim stays.held [
        | inl further ↦ inr (inl (omega (arith, further, after.offset)))
        | inr held ↦ elim held [
          | inl same ↦ inr (inr (record { were_open = λ is. emptied.were_open (same ∙ is); closed = emptied.closed }))
          | inr closed ↦ absurd (emptied.were_open closed)
        ]
      ]
    ]
  ]

  grown_first : (a b c : Option Row) → IsNewOrGrown rules a b → Stays rules a b → Stays rules b c → IsNewOrGrown rules a c
  grown_first None None c grown before stays = absurd grown
  grown_first None (Some y) None grown before stays = absurd stays
  grown_first None (Some y) (Some z) grown before stays = tt
  grown_first (Some x) None c grown before stays = absurd grown
  grown_first (Some x) (Some y) None grown before stays = absurd stays
  grown_first (Some x) (Some y) (Some z) grown before stays = grows_first x y z grown before stays

  grown_then : (a b c : Option Row) → Stays rules a b → IsNewOrGrown rules b c → Stays rules b c → IsNewOrGrown rules a c
  grown_then None None None stays grown after = absurd grown
  grown_then None (Some y) None stays grown after = absurd grown
  grown_then None b (Some z) stays grown after = tt
  grown_then (Some x) None c stays grown after = absurd stays
  grown_then (Some x) (Some y) None stays grown after = absurd grown
  grown_then (Some x) (Some y) (Some z) stays grown after = grows_then x y z stays grown after

  grown_at : (was row : Row) (a b : Option Row) → a ≡ Some was → b ≡ Some row → HasGrown rules was row → IsNewOrGrown rules a b
  grown_at was row a b before after grown =
      subst (λ (o : Option Row). IsNewOrGrown rules o b) (sym before) (subst (λ (o : Option Row). IsNewOrGrown rules (Some was) o) (sym after) grown)

  stays_set : (rows : List Row) (place k : ℕ) (was row : Row) → slice_get rows place ≡ Some was → LosesNothing rules was row → Stays rules (slice_get rows k) (slice_get (slice_set rows place row) k)
  stays_set [] place k was row at keeps = tt
  stays_set (first ∷ rest) zero zero was row at keeps = subst (λ (r : Row). LosesNothing rules r row) (same_Some was first (sym at)) keeps
  stays_set (first ∷ rest) zero (suc k) was row at keeps = stays_none (slice_get rest k)
  stays_set (first ∷ rest) (suc place) zero was row at keeps = stays_none (Some first)
  stays_set (first ∷ rest) (suc place) (suc k) was row at keeps = stays_set rest place k was row at keeps

  -- ---- rows that are as they were, but for a look

  same_none : (at : Option Row) → IsSameButLook rules at at
  same_none None = tt
  same_none (Some row) = (refl, λ never. refl)

  same_is : (a b : Option Row) → b ≡ a → IsSameButLook rules a b
  same_is a b is = subst (λ (o : Option Row). IsSameButLook rules a o) (sym is) (same_none a)

  same_then : (a b c : Option Row) → IsSameButLook rules a b → IsSameButLook rules b c → IsSameButLook rules a c
  same_then None None None first second = tt
  same_then None None (Some z) first second = absurd second
  same_then None (Some y) c first second = absurd first
  same_then (Some x) None c first second = absurd first
  same_then (Some x) (Some y) None first second = absurd second
  same_then (Some x) (Some y) (Some z) first second = (second.0 ∙ ap (with_look z.seen z.quiet) first.0, λ never. second.1 never ∙ first.1 never)

  same_set : (rows : List Row) (place k : ℕ) (was row : Row) → slice_get rows place ≡ Some was → IsSameButLook rules (Some was) (Some row) → IsSameButLook rules (slice_get rows k) (slice_get (slice_set rows place row) k)
  same_set [] place k was row at same = tt
  same_set (first ∷ rest) zero zero was row at same = subst (λ (r : Row). IsSameButLook rules (Some r) (Some row)) (same_Some was first (sym at)) same
  same_set (first ∷ rest) zero (suc k) was row at same = same_none (slice_get rest k)
  same_set (first ∷ rest) (suc place) zero was row at same = same_none (Some first)
  same_set (first ∷ rest) (suc place) (suc k) was row at same = same_set rest place k was row at same

  -- ---- flags, change after change

  pub growth_none : (rows : List Row) (flags : List Bool) → FlagsGrowth rules rows flags rows flags
  growth_none rows flags = record {
    more = omega arith;
    stays = λ place. stays_none (slice_get rows place);
    kept = λ place is. (is, same_none (slice_get rows place));
    flagged = λ place is. inl is;
  }

  pub growth_then : (rows mid after : List Row) (flags between last : List Bool) → FlagsGrowth rules rows flags mid between → FlagsGrowth rules mid between after last → FlagsGrowth rules rows flags after last
  growth_then rows mid after flags between last a b = record {
    more = omega (arith, a.more, b.more);
    stays = λ place. stays_then (slice_get rows place) (slice_get mid place) (slice_get after place) (a.stays place) (b.stays place);
    kept = λ place is.
        let second = b.kept place is in
        let first = a.kept place second.0 in
        (first.0, same_then (slice_get rows place) (slice_get mid place) (slice_get after place) first.1 second.1);
    flagged = λ place is.
        elim (b.flagged place is) [
          | inl was ↦ elim (a.flagged place was) [
            | inl was_set ↦ inl was_set
            | inr grown ↦ inr (grown_first (slice_get rows place) (slice_get mid place) (slice_get after place) grown (a.stays place) (b.stays place))
          ]
          | inr grown ↦ inr (grown_then (slice_get rows place) (slice_get mid place) (slice_get after place) (a.stays place) grown (b.stays place))
        ];
  }

  -- the flag of the row that has grown is set
  pub growth_set : (rows : List Row) (flags : List Bool) (place : ℕ) (was row : Row) → slice_get rows place ≡ Some was → LosesNothing rules was row → HasGrown rules was row → FlagsGrowth rules rows flags (slice_set rows place row) (slice_set flags place true)
  growth_set rows flags place was row at keeps grown = record {
    more = omega (arith, length-set rows place row);
    stays = λ k. stays_set rows place k was row at keeps;
    kept = λ k is.
        elim (set_cases flags place k true false is) [
          | inl here ↦ absurd (let never : false ≡ true = here.1 in cc)
          | inr other ↦ (other.1, same_is (slice_get rows k) (slice_get (slice_set rows place row) k) (set_others rows place k row other.0))
        ];
    flagged = λ k is.
        elim (set_cases flags place k true true is) [
          | inl here ↦ inr (grown_at was row (slice_get rows k) (slice_get (slice_set rows place row) k) (ap (slice_get rows) here.0 ∙ at) (ap (slice_get (slice_set rows place row)) here.0 ∙ get_set rows place was row at) grown)
          | inr other ↦ inl other.1
        ];
  }

  -- a look is remembered
  pub growth_look : (rows : List Row) (flags : List Bool) (place : ℕ) (was : Row) (seen quiet : ℕ) → slice_get rows place ≡ Some was → (rules.flush_after ≡ 0 → with_look seen quiet was ≡ was) → FlagsGrowth rules rows flags (slice_set rows place (with_look seen quiet was)) flags
  growth_look rows flags place was seen quiet at never = record {
    more = omega (arith, length-set rows place (with_look seen quiet was));
    stays = λ k. stays_set rows place k was (with_look seen quiet was) at (record { front = omega arith; offset = omega arith; held = inr (inl refl) });
    kept = λ k is. (is, same_set rows place k was (with_look seen quiet was) at (refl, never));
    flagged = λ k is. inl is;
  }

-- a row that was noted, and then the look at its file
pub looked_twice : (rows mid after : List Row) (place : ℕ) (row now : Row) (seen quiet : ℕ) → slice_get rows place ≡ Some row → mid ≡ slice_set rows place now
    → ((other : Row) → slice_get mid place ≡ Some other → after ≡ slice_set mid place (with_look seen quiet other)) → after ≡ slice_set rows place (with_look seen quiet now)
looked_twice rows mid after place row now seen quiet at noted looked =
    looked now (ap (λ (l : List Row). slice_get l place) noted ∙ get_set rows place row now at)
    ∙ ap (λ (l : List Row). slice_set l place (with_look seen quiet now)) noted
    ∙ set_twice rows place now (with_look seen quiet now)

-- ---- the looks at the end of a pass

changed_of : (rules : Rules) (a b : Option Row) → IsNewOrGrown rules a b → IsNewOrChanged a b
changed_of rules None None grown = grown
changed_of rules None (Some y) grown = tt
changed_of rules (Some x) None grown = grown
changed_of rules (Some x) (Some y) grown = elim grown [
  | inl longer ↦ inl longer
  | inr other ↦ elim other [
    | inl further ↦ inr (inl further)
    | inr emptied ↦ inr (inr (inl (λ same. emptied.were_open (sym same ∙ emptied.closed))))
  ]
]

looked_rows : (x y : Row) → idle_of y ≢ idle_of x → HasChanged x y
looked_rows x y differs = elim (cases_eq y.seen x.seen) [
  | inl seen ↦ elim (cases_eq y.quiet x.quiet) [
    | inl quiet ↦ absurd (differs (ap (λ n. let idle : Idle = record { seen = n; quiet = y.quiet } in idle) seen ∙ ap (λ n. let idle : Idle = record { seen = x.seen; quiet = n } in idle) quiet))
    | inr other ↦ inr (inr (inr (inr other)))
  ]
  | inr other ↦ inr (inr (inr (inl other)))
]

same_look : (x y : Row) → y ≡ with_look y.seen y.quiet x → y.seen ≡ x.seen → y.quiet ≡ x.quiet → y ≡ x
same_look x y is seen quiet = is ∙ ap (λ n. with_look n y.quiet x) seen ∙ ap (λ n. with_look x.seen n x) quiet

look_at_row : (rows : List Row) (k : ℕ) (row : Row) → slice_get rows k ≡ Some row → slice_get (map idle_of rows) k ≡ Some (idle_of row)
look_at_row [] k row at = absurd (let never : None ≡ Some row = at in cc)
look_at_row (first ∷ rest) zero row at = ap (λ (r : Row). Some (idle_of r)) (same_Some first row at)
look_at_row (first ∷ rest) (suc k) row at = look_at_row rest k row at

row_at_look : (rows : List Row) (k : ℕ) (idle : Idle) → slice_get (map idle_of rows) k ≡ Some idle → (row : Row) × (slice_get rows k ≡ Some row) × (idle_of row ≡ idle)
row_at_look [] k idle at = absurd (let never : None ≡ Some idle = at in cc)
row_at_look (first ∷ rest) zero idle at = (first, refl, same_Some (idle_of first) idle at)
row_at_look (first ∷ rest) (suc k) idle at = row_at_look rest k idle at

many_looks : (rows : List Row) → length (map idle_of rows) ≡ length rows
many_looks rows = length-map rows idle_of

-- there are no more of them than rows
pub looks_within : (rules : Rules) (rows : List Row) → length (looks_in rules rows) ≤ length rows
looks_within rules rows = by (rules.flush_after == 0)
  where
    by : (never : Bool) → length (if never then [] else map idle_of rows) ≤ length rows
    by true = omega arith
    by false = omega (arith, many_looks rows)

-- flags that were written back into the list that they were lent of
pub written_back : (len : ℕ) (new rest : List Bool) → length new ≡ len → take len (new ++ rest) ≡ new
written_back len new rest is = ap (λ (n : ℕ). take n (new ++ rest)) (sym is) ∙ take-append_seam new rest

-- ---- rows that are looked through, one after another

take_next : (rows : List Row) (k : ℕ) (row : Row) → slice_get rows k ≡ Some row → take (suc k) rows ≡ take k rows ++ row ∷ []
take_next [] k row at = absurd (let never : None ≡ Some row = at in cc)
take_next (first ∷ rest) zero row at = ap (λ (r : Row). r ∷ []) (same_Some first row at)
take_next (first ∷ rest) (suc k) row at = ap (λ (l : List Row). first ∷ l) (take_next rest k row at)

take_row : (rows : List Row) (k : ℕ) (row : Row) → slice_get rows k ≡ Some row → take (k + 1) rows ≡ take k rows ++ row ∷ []
take_row rows k row at =
    let next : k + 1 ≡ suc k = omega arith in
    ap (λ (n : ℕ). take n rows) next ∙ take_next rows k row at

pub looks_more : (rows : List Row) (k : ℕ) (row : Row) (looks : List Idle) → slice_get rows k ≡ Some row → looks ≡ map idle_of (take k rows) → looks ++ idle_of row ∷ [] ≡ map idle_of (take (k + 1) rows)
looks_more rows k row looks at are =
    ap (λ (l : List Idle). l ++ idle_of row ∷ []) are ∙ sym (map-append idle_of (take k rows) (row ∷ [])) ∙ ap (map idle_of) (sym (take_row rows k row at))

below : (place k : ℕ) → place < k + 1 → place ≢ k → place < k
below place k early differs = elim (cases_lt place k) [ inl less ↦ less | inr no_less ↦ absurd (differs (omega (arith, early, no_less))) ]

-- the flags of the rows before this place are set where the looks differ
pub record FlagsUpTo (looks : List Idle) (rows : List Row) (flags after : List Bool) (k : ℕ) : Type 0 where
  pub long : length after ≡ length flags
  pub kept : (place : ℕ) → slice_get after place ≡ Some false → (slice_get flags place ≡ Some false) × (place < k → IsLookedAt looks rows place → ⊥)
  pub flagged : (place : ℕ) → slice_get after place ≡ Some true → (slice_get flags place ≡ Some true) ⊎ IsLookedAt looks rows place

pub flags_begin : (looks : List Idle) (rows : List Row) (flags : List Bool) → FlagsUpTo looks rows flags flags 0
flags_begin looks rows flags = record { long = refl; kept = λ place is. (is, λ early. absurd (omega (arith, early))); flagged = λ place is. inl is }

module _ (looks : List Idle) (rows : List Row) (flags now : List Bool) (k : ℕ) (so_far : FlagsUpTo looks rows flags now k) where
  pub flags_end : length looks ≤ k → FlagsLooks looks rows flags now
  flags_end all = record {
    long = so_far.long;
    kept = λ place is.
        let was = so_far.kept place is in
        (was.0, λ marked. was.1 (omega (arith, all, slice_get_within looks place marked.idle marked.was)) marked);
    flagged = so_far.flagged;
  }

  module _ (idle : Idle) (row : Row) (flag next : Bool) (was : slice_get looks k ≡ Some idle) (at : slice_get rows k ≡ Some row) (flag_at : slice_get now k ≡ Some flag)
      (yes : next ≡ true → (flag ≡ true) ⊎ (idle_of row ≢ idle)) (no : next ≡ false → (flag ≡ false) × (idle_of row ≡ idle)) where
    not_marked : next ≡ false → IsLookedAt looks rows k → ⊥
    not_marked is marked =
        let same_idle : idle ≡ marked.idle = same_Some idle marked.idle (sym was ∙ marked.was) in
        let same_row : row ≡ marked.row = same_Some row marked.row (sym at ∙ marked.at) in
        marked.differs (ap idle_of (sym same_row) ∙ (no is).1 ∙ same_idle)

-- with the looks that were remembered when the pass began
module _ (rules : Rules) (rows after : List Row) (flags grown changed : List Bool) (looks : List Idle) (begun : looks ≡ looks_in rules rows) (growth : FlagsGrowth rules rows flags after grown) (marks : FlagsLooks looks after grown changed) where
  no_looks : rules.flush_after ≡ 0 → looks ≡ []
  no_looks never = begun ∙ ap (λ (n : ℕ). if n == 0 then [] else map idle_of rows) never

  all_looks : (rules.flush_after ≡ 0 → ⊥) → looks ≡ map idle_of rows
  all_looks some = begun ∙ ap (λ (b : Bool). if b then [] else map idle_of rows) (ne_eqb rules.flush_after 0 some)

  same_rows : (place : ℕ) (a b : Option Row) → slice_get rows place ≡ a → slice_get after place ≡ b → IsSameButLook rules a b → (IsLookedAt looks after place → ⊥) → b ≡ a
  same_rows place None None before there same unmarked = refl
  same_rows place None (Some y) before there same unmarked = absurd same
  same_rows place (Some x) None before there same unmarked = absurd same
  same_rows place (Some x) (Some y) before there same unmarked = elim (cases_eq rules.flush_after 0) [
    | inl never ↦ ap (λ (r : Row). Some r) (same.1 never)
    | inr some ↦
        let known : looks ≡ map idle_of rows = all_looks some in
        let was : slice_get looks place ≡ Some (idle_of x) = ap (λ (l : List Idle). slice_get l place) known ∙ look_at_row rows place x before in
        ap (λ (r : Row). Some r) (elim (cases_eq y.seen x.seen) [
          | inl seen ↦ elim (cases_eq y.quiet x.quiet) [
            | inl quiet ↦ same_look x y same.0 seen quiet
            | inr other ↦ absurd (unmarked (record { idle = idle_of x; was = was; row = y; at = there; differs = λ is. other (ap (λ (i : Idle). i.quiet) is) }))
          ]
          | inr other ↦ absurd (unmarked (record { idle = idle_of x; was = was; row = y; at = there; differs = λ is. other (ap (λ (i : Idle). i.seen) is) }))
        ])
  ]

  looked_changed : (place : ℕ) → IsLookedAt looks after place → IsNewOrChanged (slice_get rows place) (slice_get after place)
  looked_changed place marked = elim (cases_eq rules.flush_after 0) [
    | inl never ↦ absurd (let none : slice_get looks place ≡ None = ap (λ (l : List Idle). slice_get l place) (no_looks never) in
        let no : None ≡ Some marked.idle = sym none ∙ marked.was in cc)
    | inr some ↦
        let known : looks ≡ map idle_of rows = all_looks some in
        let was = row_at_look rows place marked.idle (ap (λ (l : List Idle). slice_get l place) (sym known) ∙ marked.was) in
        let P : Option Row → Type 0 = λ o. IsNewOrChanged o (slice_get after place) in
        let Q : Option Row → Type 0 = λ o. IsNewOrChanged (Some was.0) o in
        subst P (sym was.1) (subst Q (sym marked.at) (looked_rows was.0 marked.row (λ is. marked.differs (is ∙ was.2))))
  ]

  pub growth_ends : KeepsUnchanged rows flags after changed
  growth_ends = record {
    more = growth.more;
    kept = λ place is.
        let last = marks.kept place is in
        let first = growth.kept place last.0 in
        (first.0, same_rows place (slice_get rows place) (slice_get after place) refl refl first.1 last.1);
    flagged = λ place is.
        elim (marks.flagged place is) [
          | inl was ↦ elim (growth.flagged place was) [
            | inl was_set ↦ inl was_set
            | inr more ↦ inr (changed_of rules (slice_get rows place) (slice_get after place) more)
          ]
          | inr marked ↦ inr (looked_changed place marked)
        ];
  }

-- ---- what flags tell

differs : (a b : Option Row) → IsNewOrChanged a b → b ≢ a
differs None None grown same = grown
differs None (Some y) grown same = (let never : Some y ≡ None = same in cc)
differs (Some x) None grown same = grown
differs (Some x) (Some y) changed same = let is : y ≡ x = same_Some y x same in elim changed [
  | inl longer ↦ omega (arith, longer, ap (λ (r : Row). length r.front) is)
  | inr other ↦ elim other [
    | inl further ↦ omega (arith, further, ap (λ (r : Row). r.offset) is)
    | inr another ↦ elim another [
      | inl state ↦ state (ap (λ (r : Row). r.state) is)
      | inr look ↦ elim look [ inl seen ↦ seen (ap (λ (r : Row). r.seen) is) | inr quiet ↦ quiet (ap (λ (r : Row). r.quiet) is) ]
    ]
  ]
]

-- a flag that isn't there, or is there and not set
no_flag : (flags : List Bool) (place : ℕ) → slice_get flags place ≢ Some true → (slice_get flags place ≡ Some false) ⊎ (length flags ≤ place)
no_flag [] place none = inr (omega arith)
no_flag (true ∷ rest) zero none = absurd (none refl)
no_flag (false ∷ rest) zero none = inl refl
no_flag (flag ∷ rest) (suc place) none = elim (no_flag rest place none) [ inl is ↦ inl is | inr past ↦ inr (omega (arith, past)) ]

is_set : (flag : Option Bool) → (flag ≡ Some true) ⊎ (flag ≢ Some true)
is_set None = inr (λ is. let never : None ≡ Some true = is in cc)
is_set (Some true) = inl refl
is_set (Some false) = inr (λ is. let never : Some false ≡ Some true = is in cc)

module _ (before after : Taking) (changes : FlagsChanges before after) (unset : HasNoFlag before) (each : HasFlagForEach after) (place : ℕ) where
  grown_then_set : slice_get after.changed.items place ≡ Some true → IsNewOrChanged (slice_get before.tracker place) (slice_get after.tracker place)
  grown_then_set is = elim (changes.flagged place is) [ inl was ↦ absurd (unset place was) | inr grown ↦ grown ]

  not_set : slice_get after.changed.items place ≢ Some true → slice_get after.tracker place ≡ slice_get before.tracker place
  not_set none = elim (no_flag after.changed.items place none) [
    | inl is ↦ (changes.kept place is).1
    | inr past ↦ slice_get_past after.tracker place (omega (arith, each, past)) ∙ sym (slice_get_past before.tracker place (omega (arith, each, past, changes.more)))
  ]

  set_where_differs : slice_get after.tracker place ≢ slice_get before.tracker place → slice_get after.changed.items place ≡ Some true
  set_where_differs other = elim (is_set (slice_get after.changed.items place)) [ inl is ↦ is | inr none ↦ absurd (other (not_set none)) ]

  pub flag_tells_difference : (slice_get after.changed.items place ≡ Some true) ↔ (slice_get after.tracker place ≢ slice_get before.tracker place)
  flag_tells_difference = ((λ is. differs (slice_get before.tracker place) (slice_get after.tracker place) (grown_then_set is)), set_where_differs)

  pub flag_tells_growth : (slice_get after.changed.items place ≡ Some true) ↔ IsNewOrChanged (slice_get before.tracker place) (slice_get after.tracker place)
  flag_tells_growth = (grown_then_set, (λ grown. set_where_differs (differs (slice_get before.tracker place) (slice_get after.tracker place) grown)))

none_set : (count place : ℕ) → slice_get (replicate count false) place ≢ Some true
none_set zero place is = (let never : None ≡ Some true = is in cc)
none_set (suc count) zero is = (let never : Some false ≡ Some true = is in cc)
none_set (suc count) (suc place) is = none_set count place is

pub begins_unset : (taking : Taking) (count : ℕ) → taking.changed.items ≡ replicate count false → HasNoFlag taking
begins_unset taking count are place is = none_set count place (ap (λ (flags : List Bool). slice_get flags place) (sym are) ∙ is)
