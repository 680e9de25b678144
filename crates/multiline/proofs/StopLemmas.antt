-- What holds of the first LF that may end a token, and of the cut that it gives.
use Rattle.std.proofs.Common.{◌≡◌, ℕ, ◌+◌, ◌-◌, ◌<◌, ◌≤◌, ◌⊎◌, Bool, true, false, ◌&&◌, not, List, ◌++◌, length, take, drop, get_or, Option, None, Some, option_map, refl, sym, ap, subst, ◌∙◌, inl, inr, arith, length-take, length-append, eqb-true, eq-eqb, ne_eqb}
use Rattle.std.proofs.lemmas.List.{take-append-le, drop-append-le, get_or_append_left}
use Rattle.std.proofs.lemmas.Bool.{cases_lt, cases_eq, false≢true}
use Rattle.std.proofs.lemmas.Bool.Decides.{nat_tests}
use Rattle.std.specs.List.{suffix_len}
use Rattle.std.specs.Str.Lines.{strip_carriage_return}
use Rattle.line_splitter.specs.Cuts.{Cut, cut}
use Rattle.line_splitter.specs.LineTokens as lines
use Rattle.line_splitter.specs.LineTokens.{is_line_feed}
use Rattle.line_splitter.proofs.CutLemmas.{option_tells, rule_lasting}
use Rattle.line_splitter.proofs.LineLemmas.{first_cut-is_rule}
use Rattle.multiline.specs.Cutting.{Cutting, starting, ending, is_marked}
use Rattle.multiline.specs.MultilineTokens.{line_behind, line_start, line_before, judged, may_end, stops_at, window, stop, cut_before, first_cut}
use Rattle.multiline.specs.Searched.{IsSearched}
use Rattle.multiline.specs.Stops.{IsFirstStop}
use Rattle.multiline.proofs.PlaceLemmas.{first_place-le, first_place-fails, first_place-passes, first_place_is}

-- ---- tests of a place

true_and : (lf may : Bool) → lf ≡ true → may ≡ true → (lf && may) ≡ true
true_and true true l m = refl
true_and true false l m = m
true_and false may l m = l

and_true : (lf may : Bool) → (lf && may) ≡ true → (lf ≡ true) × (may ≡ true)
and_true true true is = (refl, refl)
and_true true false is = absurd (cc)
and_true false may is = absurd (cc)

-- a place doesn't stop where there is no LF or an unmarked line
passes_on : (lf : Bool) (marked : Option Bool) → (lf && may_end marked) ≡ false → (lf ≡ false) ⊎ (marked ≡ Some false)
passes_on false marked is = inl refl
passes_on true None is = absurd (cc)
passes_on true (Some true) is = absurd (cc)
passes_on true (Some false) is = inr refl

no_line_feed : (lf may : Bool) → lf ≡ false → (lf && may) ≡ false
no_line_feed false may is = refl
no_line_feed true may is = absurd (cc)

unmarked : (lf : Bool) (marked : Option Bool) → marked ≡ Some false → (lf && may_end marked) ≡ false
unmarked false marked is = refl
unmarked true None is = absurd (cc)
unmarked true (Some true) is = absurd (cc)
unmarked true (Some false) is = refl

may_end_tells : (marked : Option Bool) → may_end marked ≡ true → (marked ≡ None) ⊎ (marked ≡ Some true)
may_end_tells None is = inl refl
may_end_tells (Some true) is = inr refl
may_end_tells (Some false) is = absurd (cc)

pub no_line_feed-passes : (cutting : Cutting) (max : ℕ) (b : List ℕ) (place : ℕ) → (get_or b place 0 ≡ 10 → ⊥) → stops_at cutting max b place ≡ false
unfolding stops_at
no_line_feed-passes cutting max b place other = no_line_feed (is_line_feed (get_or b place 0)) (may_end (judged cutting max b place)) (ne_eqb (get_or b place 0) 10 other)

pub line_feed_or_not : (b : List ℕ) (place : ℕ) → (get_or b place 0 ≡ 10) ⊎ (get_or b place 0 ≡ 10 → ⊥)
line_feed_or_not b place = cases_eq (get_or b place 0) 10

pub line_feed-unmarked : (cutting : Cutting) (max : ℕ) (b : List ℕ) (place : ℕ) → get_or b place 0 ≡ 10 → stops_at cutting max b place ≡ false → judged cutting max b place ≡ Some false
unfolding stops_at
line_feed-unmarked cutting max b place lf is =
    elim (passes_on (is_line_feed (get_or b place 0)) (judged cutting max b place) is) [
      | inl other ↦ absurd (false≢true (sym other ∙ eq-eqb (get_or b place 0) 10 lf))
      | inr passed ↦ passed
    ]

pub unmarked-passes : (cutting : Cutting) (max : ℕ) (b : List ℕ) (place : ℕ) → judged cutting max b place ≡ Some false → stops_at cutting max b place ≡ false
unfolding stops_at
unmarked-passes cutting max b place is = unmarked _ (judged cutting max b place) is

may_stop : (cutting : Cutting) (max : ℕ) (b : List ℕ) (place : ℕ) → get_or b place 0 ≡ 10 → may_end (judged cutting max b place) ≡ true → stops_at cutting max b place ≡ true
unfolding stops_at
may_stop cutting max b place lf may = true_and _ _ (eq-eqb (get_or b place 0) 10 lf) may

stops-parts : (cutting : Cutting) (max : ℕ) (b : List ℕ) (place : ℕ) → stops_at cutting max b place ≡ true → (get_or b place 0 ≡ 10) × (may_end (judged cutting max b place) ≡ true)
unfolding stops_at
stops-parts cutting max b place is =
    let parts = and_true (is_line_feed (get_or b place 0)) (may_end (judged cutting max b place)) is in
    (eqb-true (get_or b place 0) 10 parts.0, parts.1)

-- ---- the first LF that stops

stop_is : (cutting : Cutting) (max : ℕ) (b : List ℕ) (place : ℕ) → IsSearched cutting max b place → (place < window max b → stops_at cutting max b place ≡ true) → stop cutting max b ≡ place
unfolding stop
stop_is cutting max b place searched stops = first_place_is (stops_at cutting max b) (window max b) place searched.within searched.passed stops

stop-searched : (cutting : Cutting) (max : ℕ) (b : List ℕ) → IsSearched cutting max b (stop cutting max b)
unfolding stop
stop-searched cutting max b = record {
  within = first_place-le (stops_at cutting max b) (window max b);
  passed = first_place-fails (stops_at cutting max b) (window max b);
}

stop-stops : (cutting : Cutting) (max : ℕ) (b : List ℕ) → stop cutting max b < window max b → stops_at cutting max b (stop cutting max b) ≡ true
unfolding stop
stop-stops cutting max b found = first_place-passes (stops_at cutting max b) (window max b) found

pub nothing_searched : (cutting : Cutting) (max : ℕ) (b : List ℕ) → IsSearched cutting max b 0
nothing_searched cutting max b = record { within = omega arith; passed = λ place below. absurd (omega arith) }

-- one LF more, or none up to a place
pub searched_on : (cutting : Cutting) (max : ℕ) (b : List ℕ) (n place : ℕ) → IsSearched cutting max b n → place ≤ window max b → ((k : ℕ) → n ≤ k → k < place → get_or b k 0 ≡ 10 → ⊥) → IsSearched cutting max b place
searched_on cutting max b n place searched within none = record {
  within = within;
  passed = λ k below. elim (cases_lt k n) [
    | inl before ↦ searched.passed k before
    | inr behind ↦ no_line_feed-passes cutting max b k (none k behind below)
  ];
}

pub stops_there : (cutting : Cutting) (max : ℕ) (b : List ℕ) (n place : ℕ) → IsSearched cutting max b n → place < window max b → ((k : ℕ) → n ≤ k → k < place → get_or b k 0 ≡ 10 → ⊥) → get_or b place 0 ≡ 10 → IsFirstStop cutting max b place
stops_there cutting max b n place searched within none found = record {
  searched = searched_on cutting max b n place searched (omega arith) none;
  within = within;
  line_feed = found;
}

pub searched_past : (cutting : Cutting) (max : ℕ) (b : List ℕ) (place : ℕ) → IsFirstStop cutting max b place → judged cutting max b place ≡ Some false → IsSearched cutting max b (place + 1)
searched_past cutting max b place first is = record {
  within = omega (arith, first.within);
  passed = λ k below. elim (cases_lt k place) [
    | inl before ↦ first.searched.passed k before
    | inr behind ↦ let same : k ≡ place = omega arith in subst (λ j. stops_at cutting max b j ≡ false) (sym same) (unmarked-passes cutting max b place is)
  ];
}

-- ---- the cut

cut-ended : (cutting : Cutting) (max : ℕ) (b : List ℕ) (marked : Bool) → stop cutting max b < window max b → judged cutting max b (stop cutting max b) ≡ Some marked
    → first_cut cutting max b ≡ Some (cut_before b (stop cutting max b))
unfolding first_cut
cut-ended cutting max b marked found is = rw is (grind (arith, nat_tests))

cut-undecided : (cutting : Cutting) (max : ℕ) (b : List ℕ) → stop cutting max b < window max b → judged cutting max b (stop cutting max b) ≡ None → first_cut cutting max b ≡ None
unfolding first_cut
cut-undecided cutting max b found is = rw is (grind (arith, nat_tests))

cut-long : (cutting : Cutting) (max : ℕ) (b : List ℕ) → window max b ≤ stop cutting max b → max < length b → first_cut cutting max b ≡ Some (cut (take max b) max)
unfolding first_cut
cut-long cutting max b missing long = grind (arith, nat_tests)

cut-short : (cutting : Cutting) (max : ℕ) (b : List ℕ) → window max b ≤ stop cutting max b → length b ≤ max → first_cut cutting max b ≡ None
unfolding first_cut
cut-short cutting max b missing short = grind (arith, nat_tests)

-- the two forms of a cut
pub record IsEnded (cutting : Cutting) (max : ℕ) (b : List ℕ) : Type 0 where
  pub place : ℕ
  pub first : IsFirstStop cutting max b place
  pub marked : judged cutting max b place ≡ Some true
  pub is : first_cut cutting max b ≡ Some (cut_before b place)

pub record IsLong (cutting : Cutting) (max : ℕ) (b : List ℕ) : Type 0 where
  pub searched : IsSearched cutting max b (window max b)
  pub long : max < length b
  pub is : first_cut cutting max b ≡ Some (cut (take max b) max)

pub ended : (cutting : Cutting) (max : ℕ) (b : List ℕ) (place : ℕ) → IsFirstStop cutting max b place → judged cutting max b place ≡ Some true → first_cut cutting max b ≡ Some (cut_before b place)
ended cutting max b place first marked =
    let at : stop cutting max b ≡ place = stop_is cutting max b place first.searched (λ _. may_stop cutting max b place first.line_feed (ap may_end marked)) in
    cut-ended cutting max b true (omega (arith, first.within)) (ap (judged cutting max b) at ∙ marked) ∙ ap (λ k. Some (cut_before b k)) at

pub undecided : (cutting : Cutting) (max : ℕ) (b : List ℕ) (place : ℕ) → IsFirstStop cutting max b place → judged cutting max b place ≡ None → first_cut cutting max b ≡ None
undecided cutting max b place first pending =
    let at : stop cutting max b ≡ place = stop_is cutting max b place first.searched (λ _. may_stop cutting max b place first.line_feed (ap may_end pending)) in
    cut-undecided cutting max b (omega (arith, first.within)) (ap (judged cutting max b) at ∙ pending)

nowhere : (cutting : Cutting) (max : ℕ) (b : List ℕ) → IsSearched cutting max b (window max b) → stop cutting max b ≡ window max b
nowhere cutting max b searched = stop_is cutting max b (window max b) searched (λ inside. absurd (omega arith))

pub too_long : (cutting : Cutting) (max : ℕ) (b : List ℕ) → IsSearched cutting max b (window max b) → max < length b → first_cut cutting max b ≡ Some (cut (take max b) max)
too_long cutting max b searched long = cut-long cutting max b (omega (arith, nowhere cutting max b searched)) long

pub too_short : (cutting : Cutting) (max : ℕ) (b : List ℕ) → IsSearched cutting max b (window max b) → length b ≤ max → first_cut cutting max b ≡ None
too_short cutting max b searched short = cut-short cutting max b (omega (arith, nowhere cutting max b searched)) short

pub first_cut_tells : (cutting : Cutting) (max : ℕ) (b : List ℕ) → IsEnded cutting max b ⊎ (IsLong cutting max b ⊎ (first_cut cutting max b ≡ None))
first_cut_tells cutting max b =
    elim (cases_lt (stop cutting max b) (window max b)) [
      | inl found ↦
          let parts = stops-parts cutting max b (stop cutting max b) (stop-stops cutting max b found) in
          let first : IsFirstStop cutting max b (stop cutting max b) = record { searched = stop-searched cutting max b; within = found; line_feed = parts.0 } in
          elim (may_end_tells (judged cutting max b (stop cutting max b)) parts.1) [
            | inl pending ↦ inr (inr (cut-undecided cutting max b found pending))
            | inr marked ↦ inl (record { place = stop cutting max b; first = first; marked = marked; is = cut-ended cutting max b true found marked })
          ]
      | inr missing ↦
          let all : IsSearched cutting max b (window max b) = record { within = omega arith; passed = λ k below. (stop-searched cutting max b).passed k (omega arith) } in
          elim (cases_lt max (length b)) [
            | inl long ↦ inr (inl (record { searched = all; long = long; is = cut-long cutting max b missing long }))
            | inr short ↦ inr (inr (cut-short cutting max b missing short))
          ]
    ]

-- ---- more bytes behind

judged_behind : (pattern : List ℕ) (max : ℕ) → 1 ≤ max → (b more : List ℕ) (place : ℕ) (marked : Bool) → place < length b → judged (starting pattern) max b place ≡ Some marked → judged (starting pattern) max (b ++ more) place ≡ Some marked
unfolding judged line_behind
judged_behind pattern max some b more place marked inside is =
    let told = λ (o : Option Cut). option_map (is_marked pattern) (option_map (λ (c : Cut). c.text) o) in
    let rest : List ℕ = drop (place + 1) b in
    elim (option_tells (lines.first_cut max rest)) [
      | inl none ↦ absurd (not_some (sym (ap told none) ∙ is))
      | inr found ↦
          ap (λ (xs : List ℕ). told (lines.first_cut max xs)) (drop-append-le (place + 1) b more (omega arith))
          ∙ ap told (rule_lasting (lines.first_cut max) (first_cut-is_rule max some) rest more found.0 found.1)
          ∙ sym (ap told found.1) ∙ is
    ]
  where
    not_some : ◌≡◌ {A = Option Bool} None (Some marked) → ⊥
    not_some e = cc

judged_before : (pattern : List ℕ) (max : ℕ) (b more : List ℕ) (place : ℕ) → place < length b → judged (ending pattern) max (b ++ more) place ≡ judged (ending pattern) max b place
unfolding judged line_before line_start
judged_before pattern max b more place inside =
    ap (λ (front : List ℕ). Some (is_marked pattern (strip_carriage_return (drop (place - suffix_len (λ byte. not (is_line_feed byte)) front) front))))
    (take-append-le place b more (omega arith))

judged-append : (cutting : Cutting) (max : ℕ) → 1 ≤ max → (b more : List ℕ) (place : ℕ) (marked : Bool) → place < length b → judged cutting max b place ≡ Some marked → judged cutting max (b ++ more) place ≡ Some marked
judged-append (starting pattern) max some b more place marked inside is = judged_behind pattern max some b more place marked inside is
judged-append (ending pattern) max some b more place marked inside is = judged_before pattern max b more place inside ∙ is

passed-append : (cutting : Cutting) (max : ℕ) → 1 ≤ max → (b more : List ℕ) (place : ℕ) → place < length b → stops_at cutting max b place ≡ false → stops_at cutting max (b ++ more) place ≡ false
unfolding stops_at
passed-append cutting max some b more place inside is =
    let same : get_or (b ++ more) place 0 ≡ get_or b place 0 = get_or_append_left b more 0 place inside in
    elim (passes_on (is_line_feed (get_or b place 0)) (judged cutting max b place) is) [
      | inl other ↦ no_line_feed (is_line_feed (get_or (b ++ more) place 0)) (may_end (judged cutting max (b ++ more) place)) (ap is_line_feed same ∙ other)
      | inr passed ↦ unmarked (is_line_feed (get_or (b ++ more) place 0)) (judged cutting max (b ++ more) place) (judged-append cutting max some b more place false inside passed)
    ]

pub searched-append : (cutting : Cutting) (max : ℕ) → 1 ≤ max → (b more : List ℕ) (n : ℕ) → IsSearched cutting max b n → IsSearched cutting max (b ++ more) n
searched-append cutting max some b more n searched =
    let bounds : (n ≤ length b) × (n ≤ max + 1) = (omega (arith, searched.within, length-take (max + 1) b), omega (arith, searched.within, length-take (max + 1) b)) in
    record {
      within = omega (arith, length-take (max + 1) (b ++ more), length-append b more);
      passed = λ place below. passed-append cutting max some b more place (omega arith) (searched.passed place below);
    }

ended-append : (cutting : Cutting) (max : ℕ) → 1 ≤ max → (b more : List ℕ) (place : ℕ) → IsFirstStop cutting max b place → judged cutting max b place ≡ Some true → first_cut cutting max (b ++ more) ≡ Some (cut_before b place)
ended-append cutting max some b more place first marked =
    let inside : place < length b = omega (arith, first.within, length-take (max + 1) b) in
    let longer : IsFirstStop cutting max (b ++ more) place = record {
      searched = searched-append cutting max some b more place first.searched;
      within = omega (arith, first.within, length-take (max + 1) b, length-take (max + 1) (b ++ more), length-append b more);
      line_feed = get_or_append_left b more 0 place inside ∙ first.line_feed;
    } in
    ended cutting max (b ++ more) place longer (judged-append cutting max some b more place true inside marked)
    ∙ ap (λ (front : List ℕ). Some (cut (strip_carriage_return front) (place + 1))) (take-append-le place b more (omega arith))

long-append : (cutting : Cutting) (max : ℕ) → 1 ≤ max → (b more : List ℕ) → IsSearched cutting max b (window max b) → max < length b → first_cut cutting max (b ++ more) ≡ Some (cut (take max b) max)
long-append cutting max some b more searched long =
    let same : window max (b ++ more) ≡ window max b = omega (arith, length-take (max + 1) b, length-take (max + 1) (b ++ more), length-append b more) in
    let longer = searched-append cutting max some b more (window max b) searched in
    too_long cutting max (b ++ more) (subst (λ n. IsSearched cutting max (b ++ more) n) (sym same) longer) (omega (arith, length-append b more))
    ∙ ap (λ (front : List ℕ). Some (cut front max)) (take-append-le max b more (omega arith))

pub record Lasts (cutting : Cutting) (max : ℕ) (b more : List ℕ) (c : Cut) : Type 0 where
  pub some_used : 1 ≤ c.used
  pub within : c.used ≤ length b
  pub is : first_cut cutting max b ≡ Some c
  pub lasting : first_cut cutting max (b ++ more) ≡ Some c

-- a first cut uses some of the bytes, and lasts
pub cut_lasts : (cutting : Cutting) (max : ℕ) → 1 ≤ max → (b more : List ℕ) → ((c : Cut) × Lasts cutting max b more c) ⊎ (first_cut cutting max b ≡ None)
cut_lasts cutting max some b more =
    elim (first_cut_tells cutting max b) [
      | inl end ↦ inl (
        cut_before b end.place,
        record {
          some_used = omega arith;
          within = omega (arith, end.first.within, length-take (max + 1) b);
          is = end.is;
          lasting = ended-append cutting max some b more end.place end.first end.marked;
        },
      )
      | inr other ↦ elim other [
        | inl long ↦ inl (
          cut (take max b) max,
          record {
            some_used = some;
            within = omega (arith, long.long);
            is = long.is;
            lasting = long-append cutting max some b more long.searched long.long;
          },
        )
        | inr none ↦ inr none
      ]
    ]
