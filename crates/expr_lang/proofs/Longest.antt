-- The most bytes that a text has in common with spellings.
use Rattle.std.proofs.Common.{◌≡◌, ℕ, zero, suc, ◌+◌, ◌<◌, ◌≤◌, Bool, true, false, cond, nat_eq, nat_le, List, [], ◌∷◌, ◌∙◌, ap, sym, refl, length, take, max, ◌⊎◌, inl, inr, arith}
use Rattle.std.proofs.lemmas.Bool.Decides.{nat_tests}
use Rattle.expr_lang.specs.Begun.{longest}
use Rattle.expr_lang.specs.Longest.{common, IsLongest}

pub common_none : (spelling : List ℕ) → common spelling [] ≡ 0
common_none [] = refl
common_none (byte ∷ spelling) = refl

pub common_within : (spelling text : List ℕ) → common spelling text ≤ length text
common_within [] text = omega arith
common_within (byte ∷ spelling) [] = omega arith
common_within (byte ∷ spelling) (other ∷ text) = by (nat_eq byte other) (common_within spelling text)
  where
    by : (b : Bool) → common spelling text ≤ length text → cond b (1 + common spelling text) 0 ≤ length (other ∷ text)
    by true h = omega (arith, h)
    by false h = omega arith

pub common_short : (spelling text : List ℕ) → common spelling text ≤ length spelling
common_short [] text = omega arith
common_short (byte ∷ spelling) [] = omega arith
common_short (byte ∷ spelling) (other ∷ text) = by (nat_eq byte other) (common_short spelling text)
  where
    by : (b : Bool) → common spelling text ≤ length spelling → cond b (1 + common spelling text) 0 ≤ length (byte ∷ spelling)
    by true h = omega (arith, h)
    by false h = omega arith

-- the front of a text has no more in common
pub common_front : (n : ℕ) (spelling text : List ℕ) → common (take n spelling) text ≤ common spelling text
common_front zero spelling text = omega arith
common_front (suc n) [] text = omega arith
common_front (suc n) (byte ∷ spelling) [] = omega arith
common_front (suc n) (byte ∷ spelling) (other ∷ text) = by (nat_eq byte other) (common_front n spelling text)
  where
    by : (b : Bool) → common (take n spelling) text ≤ common spelling text → cond b (1 + common (take n spelling) text) 0 ≤ cond b (1 + common spelling text) 0
    by true h = omega (arith, h)
    by false h = omega arith

pub longest_like : {P Q : List ℕ → Type 0} {text : List ℕ} {most : ℕ} → ((s : List ℕ) → P s → Q s) → ((s : List ℕ) → Q s → P s) → IsLongest P text most → IsLongest Q text most
longest_like {P} {Q} {text} {most} to from l = record {
  begins = by l.begins;
  no_further = λ s q. l.no_further s (from s q);
}
  where
    by : (most ≡ 0) ⊎ ((s : List ℕ) × P s × (common s text ≡ most)) → (most ≡ 0) ⊎ ((s : List ℕ) × Q s × (common s text ≡ most))
    by (inl z) = inl z
    by (inr (s, p, e)) = inr (s, to s p, e)

pub longest_or : {P Q : List ℕ → Type 0} {text : List ℕ} {one other : ℕ} → IsLongest P text one → IsLongest Q text other → IsLongest (λ (s : List ℕ). P s ⊎ Q s) text (max one other)
longest_or {P} {Q} {text} {one} {other} a b = record {
  begins = by (nat_le one other) refl;
  no_further = further;
}
  where
    further : (s : List ℕ) → P s ⊎ Q s → common s text ≤ max one other
    further s (inl p) = let h = a.no_further s p in omega (arith, h)
    further s (inr q) = let h = b.no_further s q in omega (arith, h)

    left : max one other ≡ one → (one ≡ 0) ⊎ ((s : List ℕ) × P s × (common s text ≡ one)) → (max one other ≡ 0) ⊎ ((s : List ℕ) × (P s ⊎ Q s) × (common s text ≡ max one other))
    left m (inl z) = inl (m ∙ z)
    left m (inr (s, p, e)) = inr (s, inl p, e ∙ sym m)

    right : max one other ≡ other → (other ≡ 0) ⊎ ((s : List ℕ) × Q s × (common s text ≡ other)) → (max one other ≡ 0) ⊎ ((s : List ℕ) × (P s ⊎ Q s) × (common s text ≡ max one other))
    right m (inl z) = inl (m ∙ z)
    right m (inr (s, q, e)) = inr (s, inr q, e ∙ sym m)

    by : (t : Bool) → nat_le one other ≡ t → (max one other ≡ 0) ⊎ ((s : List ℕ) × (P s ⊎ Q s) × (common s text ≡ max one other))
    by true e = let l : one ≤ other = grind (arith, nat_tests) in right (omega (arith, l)) b.begins
    by false e = let l : other < one = grind (arith, nat_tests) in left (omega (arith, l)) a.begins

-- a spelling of a list
abbrev pub OneOf : List (List ℕ) → List ℕ → Type 0
OneOf [] s = ⊥
OneOf (spelling ∷ spellings) s = (s ≡ spelling) ⊎ OneOf spellings s

pub longest_one : (spelling text : List ℕ) → IsLongest (λ (s : List ℕ). s ≡ spelling) text (common spelling text)
longest_one spelling text = record {
  begins = inr (spelling, refl, refl);
  no_further = λ s e. (let k = ap (λ (t : List ℕ). common t text) e in omega (arith, k));
}

pub longest_none : {P : List ℕ → Type 0} (text : List ℕ) → ((s : List ℕ) → P s → common s text ≡ 0) → IsLongest P text 0
longest_none text none = record { begins = inl refl; no_further = λ s p. (let k = none s p in omega (arith, k)) }

pub longest_of : (spellings : List (List ℕ)) (text : List ℕ) → IsLongest (OneOf spellings) text (longest spellings text)
longest_of [] text = longest_none text (λ (s : List ℕ) (p : OneOf [] s). absurd p)
longest_of (spelling ∷ spellings) text = longest_or (longest_one spelling text) (longest_of spellings text)

-- where a test lets the spellings in
pub longest_if : {P : List ℕ → Type 0} {text : List ℕ} {most : ℕ} (b : Bool) → IsLongest P text most → IsLongest (λ (s : List ℕ). (b ≡ true) × P s) text (cond b most 0)
longest_if true l = longest_like (λ s p. (refl, p)) (λ s p. p.1) l
longest_if {P} {text} false l = longest_none text (λ (s : List ℕ) (p : (false ≡ true) × P s). absurd (cc p.0))

pub longest_within : {P : List ℕ → Type 0} {text : List ℕ} {most : ℕ} → IsLongest P text most → most ≤ length text
longest_within {P} {text} {most} l = by l.begins
  where
    by : (most ≡ 0) ⊎ ((s : List ℕ) × P s × (common s text ≡ most)) → most ≤ length text
    by (inl z) = omega (arith, z)
    by (inr (s, p, e)) = let k = common_within s text in omega (arith, k, e)

-- the most is one number
pub longest_is : {P : List ℕ → Type 0} {text : List ℕ} {one other : ℕ} → IsLongest P text one → IsLongest P text other → one ≤ other
longest_is {P} {text} {one} {other} a b = by a.begins
  where
    by : (one ≡ 0) ⊎ ((s : List ℕ) × P s × (common s text ≡ one)) → one ≤ other
    by (inl z) = omega (arith, z)
    by (inr (s, p, e)) = let k = b.no_further s p in omega (arith, k, e)
