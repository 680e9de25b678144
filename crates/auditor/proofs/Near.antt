-- No token is decided by bytes that stand far behind it.
use Rattle.std.proofs.Common.{◌≡◌, ◌⊎◌, inl, inr, ℕ, ◌+◌, ◌<◌, ◌≤◌, Bool, true, false, ◌&&◌, List, [], ◌∷◌, ◌++◌, Option, None, Some, option_map, length, take, drop, get_or, refl, sym, ap, ◌∙◌, arith, length-take, length-drop, eqb-true}
use Rattle.std.proofs.lemmas.Bool.{cases_lt}
use Rattle.std.proofs.lemmas.List.{drop-append-le}
use Rattle.std.proofs.lemmas.List.Sums.{sum_by-cons}
use Rattle.line_splitter.proofs.CutLemmas.{option_tells, cuts-none, cuts-some, rule_lasting, rule_within}
use Rattle.line_splitter.proofs.LineLemmas as line
use Rattle.line_splitter.specs.Cuts.{Cut, cuts, used_by, IsCutRule}
use Rattle.line_splitter.specs.LineTokens as lines
use Rattle.line_splitter.specs.LineTokens.{is_line_feed}
use Rattle.multiline.proofs.PlaceLemmas.{first_place-le, first_place-fails, first_place-passes}
use Rattle.multiline.proofs.RuleLemmas.{is_rule}
use Rattle.multiline.proofs.StopLemmas.{ended, too_long, first_cut_tells, searched-append, line_feed-unmarked}
use Rattle.multiline.specs.Cutting.{Cutting, starting, ending, is_marked}
use Rattle.multiline.specs.MultilineTokens.{line_behind, judged, may_end, stops_at, window, stop, cut_before, first_cut}
use Rattle.multiline.specs.Searched.{IsSearched}
use Rattle.multiline.specs.Stops.{IsFirstStop}
use Rattle.pipeline.specs.Tokens.{first_cut_by}
use Rattle.settings_text.specs.declared.settings.Multiline.{Multiline}
use Rattle.settings_text.specs.declared.settings.Multiline.TheVariants.{Lines, Start, End}

-- a first cut needs no more than so many bytes and two behind it
abbrev pub IsNear : (List ℕ → Option Cut) → ℕ → Type 0
IsNear first max = (b more : List ℕ) (c : Cut) → first (b ++ more) ≡ Some c → c.used + max + 2 ≤ length b → first b ≡ Some c

none_some : {A : Type 0} (x : A) → ◌≡◌ {A = Option A} None (Some x) → ⊥
none_some x e = cc e

same_some : {A : Type 0} (x y : A) → ◌≡◌ {A = Option A} (Some x) (Some y) → x ≡ y
same_some x y e = cc e

-- where there is a first cut at all it is this one
near_if_some : (first : List ℕ → Option Cut) → IsCutRule first → (b more : List ℕ) (c d : Cut) → first (b ++ more) ≡ Some c → first b ≡ Some d → first b ≡ Some c
near_if_some first rule b more c d there here =
    let same : d ≡ c = same_some d c (sym (rule_lasting first rule b more d here) ∙ there) in here ∙ ap Some same

-- ---- lines

line_there : (max : ℕ) (b : List ℕ) → max < length b → (c : Cut) × (lines.first_cut max b ≡ Some c)
line_there max b long =
    elim (cases_lt (lines.line_end max b) (length (take (max + 1) b))) [
      | inl found ↦ (_, line.first_cut-line max b found)
      | inr missing ↦ (_, line.first_cut-long max b missing long)
    ]

near_lines : (max : ℕ) → 1 ≤ max → IsNear (lines.first_cut max) max
near_lines max some b more c there long =
    let found = line_there max b (omega (arith, long)) in
    near_if_some (lines.first_cut max) (line.first_cut-is_rule max some) b more c found.0 there found.1

-- ---- several lines

stop_searched : (cutting : Cutting) (max : ℕ) (b : List ℕ) → IsSearched cutting max b (stop cutting max b)
unfolding stop
stop_searched cutting max b = record {
  within = first_place-le (stops_at cutting max b) (window max b);
  passed = first_place-fails (stops_at cutting max b) (window max b);
}

stop_stops : (cutting : Cutting) (max : ℕ) (b : List ℕ) → stop cutting max b < window max b → stops_at cutting max b (stop cutting max b) ≡ true
unfolding stop
stop_stops cutting max b found = first_place-passes (stops_at cutting max b) (window max b) found

both : (a b : Bool) → (a && b) ≡ true → (a ≡ true) × (b ≡ true)
both true true is = (refl, refl)
both true false is = absurd (cc)
both false b is = absurd (cc)

stop_parts : (cutting : Cutting) (max : ℕ) (b : List ℕ) (place : ℕ) → stops_at cutting max b place ≡ true → (get_or b place 0 ≡ 10) × (may_end (judged cutting max b place) ≡ true)
unfolding stops_at
stop_parts cutting max b place is =
    let parts = both (is_line_feed (get_or b place 0)) (may_end (judged cutting max b place)) is in
    (eqb-true (get_or b place 0) 10 parts.0, parts.1)

-- a line that isn't decided is short
pending_short : (cutting : Cutting) (max : ℕ) (b : List ℕ) (place : ℕ) → judged cutting max b place ≡ None → length b ≤ place + 1 + max
unfolding judged line_behind
pending_short (starting pattern) max b place pending =
    elim (cases_lt max (length (drop (place + 1) b))) [
      | inl long ↦
          let found = line_there max (drop (place + 1) b) long in
          let told = λ (o : Option Cut). option_map (is_marked pattern) (option_map (λ (c : Cut). c.text) o) in
          absurd (none_some (is_marked pattern found.0.text) (sym pending ∙ ap told found.1))
      | inr short ↦ omega (arith, short, length-drop (place + 1) b)
    ]
pending_short (ending pattern) max b place pending = absurd (cc pending)

may_tells : (marked : Option Bool) → may_end marked ≡ true → (marked ≡ None) ⊎ (marked ≡ Some true)
may_tells None is = inl refl
may_tells (Some true) is = inr refl
may_tells (Some false) is = absurd (cc is)

-- a stop in the first bytes is one before which no token ends in more of them
far_stop : (cutting : Cutting) (max : ℕ) → 1 ≤ max → (b more : List ℕ) (c : Cut) (place : ℕ) → first_cut cutting max (b ++ more) ≡ Some c → IsSearched cutting max b place → place ≤ max → c.used + 1 ≤ place → ⊥
far_stop cutting max some b more c place there searched low far =
    let longer = searched-append cutting max some b more place searched in
    elim (first_cut_tells cutting max (b ++ more)) [
      | inl end ↦
          let same : cut_before (b ++ more) end.place ≡ c = same_some (cut_before (b ++ more) end.place) c (sym end.is ∙ there) in
          let used : end.place + 1 ≡ c.used = ap (λ (d : Cut). d.used) same in
          let passed = longer.passed end.place (omega (arith, used, far)) in
          let unmarked = line_feed-unmarked cutting max (b ++ more) end.place end.first.line_feed passed in
          clash (sym unmarked ∙ end.marked)
      | inr other ↦ elim other [
        | inl long ↦
            let same : max ≡ c.used = ap (λ (d : Cut). d.used) (same_some _ c (sym long.is ∙ there)) in
            omega (arith, same, low, far)
        | inr none ↦ none_some c (sym none ∙ there)
      ]
    ]
  where
    clash : ◌≡◌ {A = Option Bool} (Some false) (Some true) → ⊥
    clash e = cc e

near_several : (cutting : Cutting) (max : ℕ) → 1 ≤ max → IsNear (first_cut cutting max) max
near_several cutting max some b more c there long =
    let rule = is_rule max some cutting in
    let at = stop cutting max b in
    let searched = stop_searched cutting max b in
    elim (cases_lt at (window max b)) [
      | inl found ↦
          let parts = stop_parts cutting max b at (stop_stops cutting max b found) in
          let first : IsFirstStop cutting max b at = record { searched = searched; within = found; line_feed = parts.0 } in
          elim (may_tells (judged cutting max b at) parts.1) [
            | inl pending ↦
                absurd (far_stop cutting max some b more c at there searched (omega (arith, found, length-take (max + 1) b))
                (omega (arith, pending_short cutting max b at pending, long)))
            | inr marked ↦ near_if_some (first_cut cutting max) rule b more c (cut_before b at) there (ended cutting max b at first marked)
          ]
      | inr missing ↦
          let all : IsSearched cutting max b (window max b) = record { within = omega arith; passed = λ k below. searched.passed k (omega (arith, missing, below)) } in
          near_if_some (first_cut cutting max) rule b more c _ there (too_long cutting max b all (omega (arith, long)))
    ]

pub near_by : (multiline : Multiline) (max : ℕ) → 1 ≤ max → IsNear (first_cut_by multiline max) max
near_by Lines max some = near_lines max some
near_by (Start pattern) max some = near_several (starting pattern) max some
near_by (End pattern) max some = near_several (ending pattern) max some

-- ---- all tokens

then_others : (first : List ℕ → Option Cut) (b : List ℕ) (c : Cut) (taken rest : List Cut) → cuts first b ≡ c ∷ cuts first (drop c.used b) → cuts first (drop c.used b) ≡ taken ++ rest → cuts first b ≡ (c ∷ taken) ++ rest
then_others first b c taken rest follow others = follow ∙ ap (λ (cs : List Cut). c ∷ cs) others

pub front_there : (first : List ℕ → Option Cut) (max : ℕ) → IsCutRule first → IsNear first max → (b more : List ℕ) (taken behind : List Cut) → cuts first (b ++ more) ≡ taken ++ behind
    → used_by taken + max + 2 ≤ length b → (rest : List Cut) × (cuts first b ≡ taken ++ rest)
front_there first max rule near b more [] behind split long = (cuts first b, refl)
front_there first max rule near b more (c ∷ taken) behind split long =
    elim (option_tells (first (b ++ more))) [
      | inl none ↦ absurd (let never : ◌≡◌ {A = List Cut} [] (c ∷ (taken ++ behind)) = sym (cuts-none first (b ++ more) none) ∙ split in cc)
      | inr some ↦
          let sum = sum_by-cons (λ (d : Cut). d.used) c taken in
          let whole : ◌≡◌ {A = List Cut} (some.0 ∷ cuts first (drop some.0.used (b ++ more))) (c ∷ (taken ++ behind)) = sym (cuts-some first rule (b ++ more) some.0 some.1) ∙ split in
          let same : some.0 ≡ c = cc in
          let later : cuts first (drop some.0.used (b ++ more)) ≡ taken ++ behind = cc in
          let here : first b ≡ Some c = near b more c (some.1 ∙ ap Some same) (omega (arith, sum, long)) in
          let within : c.used ≤ length b = rule_within first rule b c here in
          let joined : cuts first (drop c.used b ++ more) ≡ cuts first (drop c.used (b ++ more)) = ap (cuts first) (sym (drop-append-le c.used b more within)) in
          let its : cuts first (drop c.used (b ++ more)) ≡ cuts first (drop some.0.used (b ++ more)) = ap (λ (d : Cut). cuts first (drop d.used (b ++ more))) (sym same) in
          let rest : cuts first (drop c.used b ++ more) ≡ taken ++ behind = joined ∙ its ∙ later in
          let found = front_there first max rule near (drop c.used b) more taken behind rest (omega (arith, sum, long, length-drop c.used b)) in
          (found.0, then_others first b c taken found.0 (cuts-some first rule b c here) found.1)
    ]
