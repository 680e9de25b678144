-- What holds of the cuts of any rule.
use Rattle.std.proofs.Common.{◌≡◌, ℕ, zero, suc, ◌+◌, ◌<◌, ◌≤◌, ◌⊎◌, List, [], ◌∷◌, ◌++◌, length, drop, Option, None, Some, IfSome, refl, sym, ap, subst, ◌∙◌, inl, inr, arith, length-drop}
use Rattle.std.proofs.lemmas.List.{drop-drop, drop-append-le}
use Rattle.std.proofs.lemmas.List.Sums.{sum_by-cons}
use Rattle.line_splitter.specs.Cuts.{Cut, cuts_within, cuts, used_by, IsCutRule}

-- a value of an option is none or some
pub option_tells : {A : Type 0} (o : Option A) → (o ≡ None) ⊎ ((x : A) × (o ≡ Some x))
option_tells None = inl refl
option_tells (Some x) = inr (x, refl)

-- what a rule says of the cut that it gives
pub rule_used : (first : List ℕ → Option Cut) → IsCutRule first → (b : List ℕ) (c : Cut) → first b ≡ Some c → 1 ≤ c.used
rule_used first rule b c is = subst (λ (o : Option Cut). IfSome o (λ c. 1 ≤ c.used)) is (rule.some_used b)

pub rule_within : (first : List ℕ → Option Cut) → IsCutRule first → (b : List ℕ) (c : Cut) → first b ≡ Some c → c.used ≤ length b
rule_within first rule b c is = subst (λ (o : Option Cut). IfSome o (λ c. c.used ≤ length b)) is (rule.within b)

pub rule_lasting : (first : List ℕ → Option Cut) → IsCutRule first → (b more : List ℕ) (c : Cut) → first b ≡ Some c → first (b ++ more) ≡ Some c
rule_lasting first rule b more c is =
    subst (λ (o : Option Cut). IfSome o (λ c. first (b ++ more) ≡ Some c)) is (rule.lasting b more)

cuts_within-none : (first : List ℕ → Option Cut) (n : ℕ) (b : List ℕ) → first b ≡ None → cuts_within first n b ≡ []
unfolding cuts_within
cuts_within-none first zero b is = refl
cuts_within-none first (suc n) b is = rw is refl

cuts_within-some : (first : List ℕ → Option Cut) (n : ℕ) (b : List ℕ) (c : Cut) → first b ≡ Some c → cuts_within first (suc n) b ≡ c ∷ cuts_within first n (drop c.used b)
unfolding cuts_within
cuts_within-some first n b c is = rw is refl

-- where there are no bytes there are no cuts
cuts_within-empty : (first : List ℕ → Option Cut) → IsCutRule first → (n : ℕ) (b : List ℕ) → length b ≡ 0 → cuts_within first n b ≡ []
cuts_within-empty first rule n b empty =
    elim (option_tells (first b)) [
      | inl is ↦ cuts_within-none first n b is
      | inr found ↦ absurd (omega (arith, rule_used first rule b found.0 found.1, rule_within first rule b found.0 found.1))
    ]

-- any bound that isn't below the number of bytes gives the same cuts
cuts_within-enough : (first : List ℕ → Option Cut) → IsCutRule first → (n m : ℕ) (b : List ℕ) → length b ≤ n → length b ≤ m → cuts_within first n b ≡ cuts_within first m b
cuts_within-enough first rule zero m b in_n in_m =
    cuts_within-empty first rule zero b (omega arith) ∙ sym (cuts_within-empty first rule m b (omega arith))
cuts_within-enough first rule (suc n) zero b in_n in_m =
    cuts_within-empty first rule (suc n) b (omega arith) ∙ sym (cuts_within-empty first rule zero b (omega arith))
cuts_within-enough first rule (suc n) (suc m) b in_n in_m =
    elim (option_tells (first b)) [
      | inl is ↦ cuts_within-none first (suc n) b is ∙ sym (cuts_within-none first (suc m) b is)
      | inr found ↦
          let some_used : 1 ≤ found.0.used = rule_used first rule b found.0 found.1 in
          let within : found.0.used ≤ length b = rule_within first rule b found.0 found.1 in
          let shorter : length (drop found.0.used b) + 1 ≤ length b = omega (arith, length-drop found.0.used b) in
          cuts_within-some first n b found.0 found.1
          ∙ ap (λ (cs : List Cut). found.0 ∷ cs) (cuts_within-enough first rule n m (drop found.0.used b) (omega arith) (omega arith))
          ∙ sym (cuts_within-some first m b found.0 found.1)
    ]

pub cuts-none : (first : List ℕ → Option Cut) (b : List ℕ) → first b ≡ None → cuts first b ≡ []
unfolding cuts
cuts-none first b is = cuts_within-none first (length b) b is

pub cuts-some : (first : List ℕ → Option Cut) → IsCutRule first → (b : List ℕ) (c : Cut) → first b ≡ Some c → cuts first b ≡ c ∷ cuts first (drop c.used b)
unfolding cuts
cuts-some first rule b c is =
    cuts_within-enough first rule (length b) (suc (length b)) b (omega arith) (omega arith)
    ∙ cuts_within-some first (length b) b c is
    ∙ ap (λ (cs : List Cut). c ∷ cs) (cuts_within-enough first rule (length b) (length (drop c.used b)) (drop c.used b) (omega (arith, length-drop c.used b)) (omega arith))

-- the cuts use no more than the bytes
used_by-within : (first : List ℕ → Option Cut) → IsCutRule first → (n : ℕ) (b : List ℕ) → length b < n → used_by (cuts first b) ≤ length b
used_by-within first rule zero b below = absurd (omega arith)
used_by-within first rule (suc n) b below =
    elim (option_tells (first b)) [
      | inl is ↦ rw (cuts-none first b is) (omega arith)
      | inr found ↦
          let some_used : 1 ≤ found.0.used = rule_used first rule b found.0 found.1 in
          let within : found.0.used ≤ length b = rule_within first rule b found.0 found.1 in
          let shorter = length-drop found.0.used b in
          let rest = used_by-within first rule n (drop found.0.used b) (omega arith) in
          rw (cuts-some first rule b found.0 found.1, sum_by-cons (λ (c : Cut). c.used) found.0 (cuts first (drop found.0.used b))) (omega arith)
    ]

pub used_by-cuts : (first : List ℕ → Option Cut) → IsCutRule first → (b : List ℕ) → used_by (cuts first b) ≤ length b
used_by-cuts first rule b = used_by-within first rule (suc (length b)) b (omega arith)

-- the cuts of b stay when more bytes come behind
cuts-append_below : (first : List ℕ → Option Cut) → IsCutRule first → (n : ℕ) (b more : List ℕ) → length b < n → cuts first (b ++ more) ≡ cuts first b ++ cuts first (drop (used_by (cuts first b)) b ++ more)
cuts-append_below first rule zero b more below = absurd (omega arith)
cuts-append_below first rule (suc n) b more below =
    elim (option_tells (first b)) [
      | inl is ↦ rw (cuts-none first b is) refl
      | inr found ↦
          let c = found.0 in
          let rest : List ℕ = drop c.used b in
          let some_used : 1 ≤ c.used = rule_used first rule b c found.1 in
          let within : c.used ≤ length b = rule_within first rule b c found.1 in
          let shorter = length-drop c.used b in
          let later = cuts-append_below first rule n rest more (omega arith) in
          let long = cuts-some first rule (b ++ more) c (rule_lasting first rule b more c found.1) in
          let back = drop-append-le c.used b more within in
          rw (long, back, later, cuts-some first rule b c found.1, sum_by-cons (λ (c : Cut). c.used) c (cuts first rest), ← drop-drop (used_by (cuts first rest)) c.used b) refl
    ]

pub cuts-append : (first : List ℕ → Option Cut) → IsCutRule first → (b more : List ℕ) → cuts first (b ++ more) ≡ cuts first b ++ cuts first (drop (used_by (cuts first b)) b ++ more)
cuts-append first rule b more = cuts-append_below first rule (suc (length b)) b more (omega arith)
