-- The first call of two lists, taken.
use Rattle.std.proofs.Common.{◌≡◌, inl, inr, ℕ, ◌<◌, Bool, true, false, List, [], ◌∷◌, ◌++◌, refl, sym, subst, ap, ◌∙◌, arith, length, drop, get_or, Ordering, Less, Equal, Greater, is_lt}
use Rattle.std.specs.Prelude.{Option, Some, None, IfSome, IfNone}
use Rattle.std.specs.Option.{option_to_list}
use Rattle.std.specs.Ordering.{nat_cmp, MatchOrdering}
use Rattle.std.specs.Cmp.Lexicographic.{slice_cmp}
use Rattle.std.specs.Prelude.{nat_lt, ◌==◌, ◌&&◌, ◌||◌}
use Rattle.std.proofs.lemmas.Bool.{le-ltb, eq-eqb, ne_eqb, or_from, and_left}
use Rattle.std.proofs.lemmas.Cmp.{same_from_slice_cmp, ranked}
use Rattle.graph_core.specs.Traces.{Call, is_before}
use Rattle.graph_core.specs.Runs.{IsAscending}
use Rattle.graph_core.proofs.Addresses.{before_lt, before_trans, before_total}
use Rattle.graph_core.proofs.Delivering.{nil_from_drop}
use Rattle.whole_runs.specs.Inner.TakesFirst.{ComesFirst, TakesFirst}
use Rattle.whole_runs.specs.Inner.Turns.{IsFrontsTurn, IsBacksTurn, HaveOneFirst}
use Rattle.whole_runs.proofs.Firsts.{first_in_front, first_in_back, first_in_each}

last_alone : (s t u : Bool) → s ≡ false → t ≡ true → (s || (t && u)) ≡ u
last_alone false true u e f = refl
last_alone false false u e f = cc
last_alone true t u e f = cc

first_decides : (x y : ℕ) (xs ys : List ℕ) (o : Ordering) → o ≡ nat_cmp x y
    → MatchOrdering o (is_before (x ∷ xs) (y ∷ ys) ≡ true) (is_before (x ∷ xs) (y ∷ ys) ≡ is_before xs ys) (is_before (x ∷ xs) (y ∷ ys) ≡ false)
first_decides x y xs ys Less h = before_lt x y xs ys (ranked x y Less h)
first_decides x y xs ys Equal h =
    let same : x ≡ y = ranked x y Equal h in
    last_alone (nat_lt x y) (x == y) (is_before xs ys) (le-ltb x y (omega arith)) (eq-eqb x y same)
first_decides x y xs ys Greater h =
    let later : y < x = ranked x y Greater h in
    or_from (nat_lt x y) ((x == y) && is_before xs ys) (le-ltb x y (omega arith)) (and_left (x == y) (is_before xs ys) (ne_eqb x y (λ e. absurd (omega arith))))

-- the order of std's lists is that of addresses
pub is_earlier : (xs ys : List ℕ) (o : Ordering) → o ≡ slice_cmp nat_cmp xs ys → is_lt o ≡ is_before xs ys
is_earlier = same_from_slice_cmp nat_cmp is_lt is_before refl (λ _ _. refl) (λ _ _. refl) first_decides

module _ {Item : Type 0} where
  -- what comes before the head of a list comes before all of it
  before_head : (c : Call Item) (ds : List (Call Item)) (head : Call Item) → head ≡ get_or ds 0 head → is_before c.at head.at ≡ true → IsAscending ds → ComesFirst c ds
  before_head c [] head e t a = λ x h. absurd h
  before_head c (d ∷ ds) head e t a =
      let cd : is_before c.at d.at ≡ true = subst (λ (z : Call Item). is_before c.at z.at ≡ true) e t in
      λ x h. elim h [
        | inl same ↦ subst (λ (z : Call Item). is_before c.at z.at ≡ true) (sym same) cd
        | inr k ↦ before_trans c.at d.at x.at cd (a.0 x k)
      ]

  from_front : (front back : List (Call Item)) (c : Call Item) (left : List (Call Item)) → front ≡ c ∷ left → IsAscending front → IsAscending back
      → ComesFirst c back → TakesFirst front back c left back
  from_front front back c left e a b first =
      let own = subst (λ (l : List (Call Item)). IsAscending l) e a in
      subst (λ (l : List (Call Item)). TakesFirst l back c left back) (sym e)
      (record { first = first_in_front c left back own.0 first; front_ascends = own.1; back_ascends = b; fewer = omega arith })

  from_back : (front back : List (Call Item)) (c : Call Item) (left : List (Call Item)) → back ≡ c ∷ left → IsAscending front → IsAscending back
      → ComesFirst c front → TakesFirst front back c front left
  from_back front back c left e a b first =
      let own = subst (λ (l : List (Call Item)). IsAscending l) e b in
      subst (λ (l : List (Call Item)). TakesFirst front l c front left) (sym e)
      (record { first = first_in_back front c left first own.0; front_ascends = a; back_ascends = own.1; fewer = omega arith })

  pub told : (a b : List ℕ) (c d : Call Item) (result : Bool) → a ≡ c.at → b ≡ d.at → result ≡ is_before a b → is_before c.at d.at ≡ result
  told a b c d result e f r = sym (r ∙ (ap (λ (z : List ℕ). is_before z b) e ∙ ap (is_before c.at) f))

  -- ---- whose turn it is

  pub front_empty : (front back : List (Call Item)) → front ≡ [] → IsBacksTurn front back
  front_empty front back e = record { none = λ _. e; first = λ c rest f. subst (λ (l : List (Call Item)). ComesFirst c l) (sym e) (λ x h. absurd h) }

  pub back_empty : (front back : List (Call Item)) → back ≡ [] → IsFrontsTurn front back
  back_empty front back e = record { none = λ _. e; first = λ c rest f. subst (λ (l : List (Call Item)). ComesFirst c l) (sym e) (λ x h. absurd h) }

  head_is : (calls rest : List (Call Item)) (head c : Call Item) → head ≡ get_or calls 0 head → calls ≡ c ∷ rest → head ≡ c
  head_is calls rest head c h e = h ∙ ap (λ (l : List (Call Item)). get_or l 0 head) e

  no_empty : (calls : List (Call Item)) → 0 < length calls → calls ≡ [] → ⊥
  no_empty calls l e = let n : length calls ≡ 0 = ap length e in omega arith

  pub front_earlier : (front back : List (Call Item)) (head other : Call Item) → 0 < length front → head ≡ get_or front 0 head → other ≡ get_or back 0 other
      → is_before head.at other.at ≡ true → IsAscending back → IsFrontsTurn front back
  front_earlier front back head other some h o t b = record {
    none = λ e. absurd (no_empty front some e);
    first = λ c rest e. before_head c back other o (subst (λ (z : Call Item). is_before z.at other.at ≡ true) (head_is front rest head c h e) t) b;
  }

  pub back_earlier : (front back : List (Call Item)) (head other : Call Item) → 0 < length back → head ≡ get_or front 0 head → other ≡ get_or back 0 other
      → is_before other.at head.at ≡ true → IsAscending front → IsBacksTurn front back
  back_earlier front back head other some h o t a = record {
    none = λ e. absurd (no_empty back some e);
    first = λ c rest e. before_head c front head h (subst (λ (z : Call Item). is_before z.at head.at ≡ true) (head_is back rest other c o e) t) a;
  }

  pub neither_earlier : (front back : List (Call Item)) (head other : Call Item) → 0 < length front → 0 < length back → head ≡ get_or front 0 head → other ≡ get_or back 0 other
      → is_before head.at other.at ≡ false → is_before other.at head.at ≡ false → HaveOneFirst front back
  neither_earlier front back head other some more h o f g = record {
    front_some = some;
    back_some = more;
    same = λ c d fs ds e k. ap (λ (z : Call Item). z.at) (sym (head_is front fs head c h e)) ∙ (before_total head.at other.at f g ∙ ap (λ (z : Call Item). z.at) (head_is back ds other d o k));
  }

  -- ---- the call that is taken

  pub front_taken : (front back left : List (Call Item)) (taken : Option (Call Item)) → front ≡ option_to_list taken ++ left → IsAscending front → IsAscending back
      → IsFrontsTurn front back → IfSome taken (λ c. TakesFirst front back c left back)
  front_taken front back left None e a b turn = tt
  front_taken front back left (Some c) e a b turn = from_front front back c left e a b (turn.first c left e)

  pub back_taken : (front back left : List (Call Item)) (taken : Option (Call Item)) → back ≡ option_to_list taken ++ left → IsAscending front → IsAscending back
      → IsBacksTurn front back → IfSome taken (λ c. TakesFirst front back c front left)
  back_taken front back left None e a b turn = tt
  back_taken front back left (Some c) e a b turn = from_back front back c left e a b (turn.first c left e)

  pub both_taken : (front back left front_left : List (Call Item)) (taken : Option (Call Item)) → back ≡ option_to_list taken ++ left → front_left ≡ drop 1 front
      → IsAscending front → IsAscending back → HaveOneFirst front back → IfSome taken (λ c. TakesFirst front back c front_left left)
  both_taken front back left front_left None e d a b turn = tt
  both_taken [] back left front_left (Some c) e d a b turn = let some = turn.front_some in absurd (omega arith)
  both_taken (f ∷ fs) back left front_left (Some c) e d a b turn =
      let at : f.at ≡ c.at = turn.same f c fs left refl e in
      let own = subst (λ (l : List (Call Item)). IsAscending l) e b in
      let first : ComesFirst c fs = λ x k. subst (λ (z : List ℕ). is_before z x.at ≡ true) at (a.0 x k) in
      subst (λ (l : List (Call Item)). TakesFirst (f ∷ fs) back c l left) (sym d)
      (subst (λ (l : List (Call Item)). TakesFirst (f ∷ fs) l c fs left) (sym e)
      (record { first = first_in_each f fs c left at first own.0; front_ascends = a.1; back_ascends = own.1; fewer = omega arith }))

  -- none is taken where there is none
  pub front_none : (front back left : List (Call Item)) (taken : Option (Call Item)) → front ≡ option_to_list taken ++ left → left ≡ drop 1 front → IsFrontsTurn front back
      → IfNone taken (front ++ back ≡ [])
  front_none front back left None e d turn =
      let empty = nil_from_drop front left e d in
      ap (λ (l : List (Call Item)). l ++ back) empty ∙ turn.none empty
  front_none front back left (Some c) e d turn = tt

  pub back_none : (front back left : List (Call Item)) (taken : Option (Call Item)) → back ≡ option_to_list taken ++ left → left ≡ drop 1 back → IsBacksTurn front back
      → IfNone taken (front ++ back ≡ [])
  back_none front back left None e d turn =
      let empty = nil_from_drop back left e d in
      ap (λ (l : List (Call Item)). l ++ back) (turn.none empty) ∙ empty
  back_none front back left (Some c) e d turn = tt

  pub both_none : (front back left : List (Call Item)) (taken : Option (Call Item)) → back ≡ option_to_list taken ++ left → left ≡ drop 1 back → HaveOneFirst front back
      → IfNone taken (front ++ back ≡ [])
  both_none front back left None e d turn = absurd (no_empty back turn.back_some (nil_from_drop back left e d))
  both_none front back left (Some c) e d turn = tt
