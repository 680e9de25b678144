-- What holds of the cuts up to a bound.
use Rattle.std.proofs.Common.{◌≡◌, ℕ, ◌+◌, ◌≤◌, List, [], ◌∷◌, ◌++◌, length, drop, Option, refl, sym, ap, subst, ◌∙◌, inl, inr, arith, append_assoc}
use Rattle.std.proofs.lemmas.List.{drop-drop, append-nil}
use Rattle.std.proofs.lemmas.List.Sums.{sum_by-cons, sum_by-append}
use Rattle.line_splitter.specs.Cuts.{Cut, cuts, used_by, IsCutRule, CutsUpTo}
use Rattle.line_splitter.proofs.CutLemmas.{option_tells, rule_used, cuts-none, cuts-some, used_by-cuts, cuts-append}

not_empty : (c : Cut) (cs : List Cut) → ◌≡◌ {A = List Cut} [] (c ∷ cs) → ⊥
not_empty c cs e = cc

same_first : (c d : Cut) (cs ds : List Cut) → c ∷ cs ≡ d ∷ ds → (c ≡ d) × (cs ≡ ds)
same_first c d cs ds e = (cc, cc)

used-cons : (c : Cut) (cs : List Cut) → used_by (c ∷ cs) ≡ c.used + used_by cs
used-cons c cs = sum_by-cons (λ (c : Cut). c.used) c cs

used-append : (cs ds : List Cut) → used_by (cs ++ ds) ≡ used_by cs + used_by ds
used-append cs ds = sum_by-append (λ (c : Cut). c.used) cs ds

-- what holds of a first cut
record IsFirst (first : List ℕ → Option Cut) (b : List ℕ) (c : Cut) (others : List Cut) : Type 0 where
  some_used : 1 ≤ c.used
  follow : cuts first (drop c.used b) ≡ others

module _ (first : List ℕ → Option Cut) (rule : IsCutRule first) where
  begins : (b : List ℕ) (c : Cut) (others : List Cut) → cuts first b ≡ c ∷ others → IsFirst first b c others
  begins b c others is =
      elim (option_tells (first b)) [
        | inl none ↦ absurd (not_empty c others (sym (cuts-none first b none) ∙ is))
        | inr some ↦
            let same = same_first some.0 c (cuts first (drop some.0.used b)) others (sym (cuts-some first rule b some.0 some.1) ∙ is) in
            record {
              some_used = subst (λ (d : Cut). 1 ≤ d.used) same.0 (rule_used first rule b some.0 some.1);
              follow = ap (λ (d : Cut). cuts first (drop d.used b)) (sym same.0) ∙ same.1;
            }
      ]

  pub go_on : (b : List ℕ) (taken behind : List Cut) → cuts first b ≡ taken ++ behind → cuts first (drop (used_by taken) b) ≡ behind
  go_on b [] behind is = is
  go_on b (c ∷ cs) behind is =
      let head = begins b c (cs ++ behind) is in
      ap (λ n. cuts first (drop n b)) (used-cons c cs) ∙ ap (cuts first) (sym (drop-drop (used_by cs) c.used b)) ∙ go_on (drop c.used b) cs behind head.follow

  -- what is taken up to a bound begins what is taken up to one that isn't lesser
  begins_longer : (b : List ℕ) (taken all r s : List Cut) (m : ℕ) → cuts first b ≡ taken ++ r → cuts first b ≡ all ++ s → used_by all ≡ used_by taken + m
      → (next : List Cut) × (all ≡ taken ++ next)
  begins_longer b [] all r s m is others uses = (all, refl)
  begins_longer b (c ∷ cs) [] r s m is others uses =
      absurd (omega (arith, uses, used-cons c cs, (begins b c (cs ++ r) is).some_used))
  begins_longer b (c ∷ cs) (d ∷ ds) r s m is others uses =
      let same = same_first d c (ds ++ s) (cs ++ r) (sym others ∙ is) in
      let head = begins b c (cs ++ r) is in
      let same_used : d.used ≡ c.used = ap (λ (x : Cut). x.used) same.0 in
      let later = begins_longer (drop c.used b) cs ds r s m head.follow (head.follow ∙ sym same.1) (omega (arith, uses, used-cons c cs, used-cons d ds, same_used)) in
      (later.0, ap (λ (x : Cut). x ∷ ds) same.0 ∙ ap (λ (xs : List Cut). c ∷ xs) later.1)

  pub up_to-within : (b : List ℕ) (n : ℕ) (taken : List Cut) → CutsUpTo first b n taken → n ≤ length b
  up_to-within b n taken up =
      omega (arith, up.uses, ap used_by up.split, used-append taken up.behind, used_by-cuts first rule b)

  pub up_to-parted : (b : List ℕ) (n m : ℕ) (taken all : List Cut) → CutsUpTo first b n taken → CutsUpTo first b (n + m) all
      → (next : List Cut) × (all ≡ taken ++ next) × CutsUpTo first (drop n b) m next
  up_to-parted b n m taken all up longer =
      let next = begins_longer b taken all up.behind longer.behind m up.split longer.split (omega (arith, up.uses, longer.uses)) in
      let split : cuts first b ≡ taken ++ (next.0 ++ longer.behind) =
      longer.split ∙ ap (λ (xs : List Cut). xs ++ longer.behind) next.1 ∙ append_assoc taken next.0 longer.behind in (
        next.0,
        next.1,
        record {
          behind = longer.behind;
          split = ap (λ k. cuts first (drop k b)) (sym up.uses) ∙ go_on b taken (next.0 ++ longer.behind) split;
          uses = omega (arith, up.uses, longer.uses, ap used_by next.1, used-append taken next.0);
        },
      )

  up_to-nothing : (b : List ℕ) (taken : List Cut) → CutsUpTo first b 0 taken → taken ≡ []
  up_to-nothing b [] up = refl
  up_to-nothing b (c ∷ cs) up = absurd (omega (arith, up.uses, used-cons c cs, (begins b c (cs ++ up.behind) up.split).some_used))

  pub up_to-determined : (b : List ℕ) (n : ℕ) (taken other : List Cut) → CutsUpTo first b n taken → CutsUpTo first b n other → taken ≡ other
  up_to-determined b n taken other up also =
      let same : n + 0 ≡ n = omega arith in
      let parted = up_to-parted b n 0 taken other up (subst (λ k. CutsUpTo first b k other) (sym same) also) in
      sym (parted.1 ∙ ap (λ (xs : List Cut). taken ++ xs) (up_to-nothing (drop n b) parted.0 parted.2) ∙ append-nil taken)

  pub up_to-lasting : (b more : List ℕ) (n : ℕ) (taken : List Cut) → CutsUpTo first b n taken → CutsUpTo first (b ++ more) n taken
  up_to-lasting b more n taken up =
      let rest : List Cut = cuts first (drop (used_by (cuts first b)) b ++ more) in
      record {
        behind = up.behind ++ rest;
        split = cuts-append first rule b more ∙ ap (λ (xs : List Cut). xs ++ rest) up.split ∙ append_assoc taken up.behind rest;
        uses = up.uses;
      }

  pub up_to-joined : (b : List ℕ) (n m : ℕ) (taken next : List Cut) → CutsUpTo first b n taken → CutsUpTo first (drop n b) m next → CutsUpTo first b (n + m) (taken ++ next)
  up_to-joined b n m taken next up then_so =
      let behind : up.behind ≡ next ++ then_so.behind = sym (go_on b taken up.behind up.split) ∙ ap (λ k. cuts first (drop k b)) up.uses ∙ then_so.split in
      record {
        behind = then_so.behind;
        split = up.split ∙ ap (λ (xs : List Cut). taken ++ xs) behind ∙ sym (append_assoc taken next then_so.behind);
        uses = omega (arith, up.uses, then_so.uses, used-append taken next);
      }

  pub up_to-all : (b : List ℕ) → CutsUpTo first b (used_by (cuts first b)) (cuts first b)
  up_to-all b = record { behind = []; split = sym (append-nil (cuts first b)); uses = refl }
