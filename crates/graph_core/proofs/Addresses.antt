-- The order of addresses.
use Rattle.std.proofs.Common.{◌≡◌, ◌⊎◌, inl, inr, ℕ, ◌<◌, Bool, true, false, List, [], ◌∷◌, ◌++◌, refl, sym, arith}
use Rattle.std.proofs.lemmas.Bool.{or_cases, and_parts, ltb-true, ltb-false, eqb-true, lt-ltb, eq-eqb, or_left, or_right, or_parts, and_from}
use Rattle.std.specs.Prelude.{nat_lt, ◌==◌, ◌&&◌}
use Rattle.graph_core.specs.Traces.{is_before}

pub before_cases : (x y : ℕ) (a b : List ℕ) → is_before (x ∷ a) (y ∷ b) ≡ true → (x < y) ⊎ ((x ≡ y) × (is_before a b ≡ true))
before_cases x y a b h =
    elim (or_cases (nat_lt x y) ((x == y) && is_before a b) h) [
      | inl l ↦ inl (ltb-true x y l)
      | inr r ↦ let p = and_parts (x == y) (is_before a b) r in inr (eqb-true x y p.0, p.1)
    ]

pub before_lt : (x y : ℕ) (a b : List ℕ) → x < y → is_before (x ∷ a) (y ∷ b) ≡ true
before_lt x y a b l = or_left (nat_lt x y) ((x == y) && is_before a b) (lt-ltb x y l)

pub before_same : (x y : ℕ) (a b : List ℕ) → x ≡ y → is_before a b ≡ true → is_before (x ∷ a) (y ∷ b) ≡ true
before_same x y a b e h = or_right (nat_lt x y) ((x == y) && is_before a b) (and_from (x == y) (is_before a b) (eq-eqb x y e) h)

pub before_irrefl : (a : List ℕ) → is_before a a ≡ true → ⊥
before_irrefl [] h = cc
before_irrefl (x ∷ a) h = elim (before_cases x x a a h) [ inl l ↦ absurd (omega arith) | inr p ↦ before_irrefl a p.1 ]

pub before_trans : (a b c : List ℕ) → is_before a b ≡ true → is_before b c ≡ true → is_before a c ≡ true
before_trans [] [] c h k = cc
before_trans [] (y ∷ b) [] h k = cc
before_trans [] (y ∷ b) (z ∷ c) h k = refl
before_trans (x ∷ a) [] c h k = cc
before_trans (x ∷ a) (y ∷ b) [] h k = cc
before_trans (x ∷ a) (y ∷ b) (z ∷ c) h k =
    elim (before_cases x y a b h) [
      | inl l ↦ elim (before_cases y z b c k) [ inl m ↦ before_lt x z a c (omega arith) | inr q ↦ before_lt x z a c (let e = q.0 in omega arith) ]
      | inr p ↦ elim (before_cases y z b c k) [
        | inl m ↦ before_lt x z a c (let e = p.0 in omega arith)
        | inr q ↦ before_same x z a c (let e = p.0 in let f = q.0 in omega arith) (before_trans a b c p.1 q.1)
      ]
    ]

pub before_total : (a b : List ℕ) → is_before a b ≡ false → is_before b a ≡ false → a ≡ b
before_total [] [] h k = refl
before_total [] (y ∷ b) h k = cc
before_total (x ∷ a) [] h k = cc
before_total (x ∷ a) (y ∷ b) h k =
    let p = or_parts (nat_lt x y) ((x == y) && is_before a b) h in
    let q = or_parts (nat_lt y x) ((y == x) && is_before b a) k in
    let e : x ≡ y = (let i = ltb-false x y p.0 in let j = ltb-false y x q.0 in omega arith) in
    let f : is_before a b ≡ false = second_false (x == y) (is_before a b) (eq-eqb x y e) p.1 in
    let g : is_before b a ≡ false = second_false (y == x) (is_before b a) (eq-eqb y x (sym e)) q.1 in
    let t : a ≡ b = before_total a b f g in
    cc
  where
    second_false : (s t : Bool) → s ≡ true → (s && t) ≡ false → t ≡ false
    second_false true t e h = h
    second_false false t e h = cc

-- neither address is a prefix of the other, and the first comes before
abbrev pub Apart : List ℕ → List ℕ → Type 0
Apart [] b = ⊥
Apart (x ∷ a) [] = ⊥
Apart (x ∷ a) (y ∷ b) = (x < y) ⊎ ((x ≡ y) × Apart a b)

pub Apart-before : (a b : List ℕ) → Apart a b → is_before a b ≡ true
Apart-before [] b h = absurd h
Apart-before (x ∷ a) [] h = absurd h
Apart-before (x ∷ a) (y ∷ b) (inl l) = before_lt x y a b l
Apart-before (x ∷ a) (y ∷ b) (inr p) = before_same x y a b p.0 (Apart-before a b p.1)

pub Apart-extend : (a b c d : List ℕ) → Apart a b → Apart (a ++ c) (b ++ d)
Apart-extend [] b c d h = absurd h
Apart-extend (x ∷ a) [] c d h = absurd h
Apart-extend (x ∷ a) (y ∷ b) c d (inl l) = inl l
Apart-extend (x ∷ a) (y ∷ b) c d (inr p) = inr (p.0, Apart-extend a b c d p.1)

pub Apart-under : (a c d : List ℕ) → Apart c d → Apart (a ++ c) (a ++ d)
Apart-under [] c d h = h
Apart-under (x ∷ a) c d h = inr (refl, Apart-under a c d h)

pub before_under : (a c : List ℕ) (x : ℕ) → is_before a (a ++ x ∷ c) ≡ true
before_under [] c x = refl
before_under (y ∷ a) c x = before_same y y a (a ++ x ∷ c) refl (before_under a c x)

pub Apart-extend_right : (a b d : List ℕ) → Apart a b → Apart a (b ++ d)
Apart-extend_right [] b d h = absurd h
Apart-extend_right (x ∷ a) [] d h = absurd h
Apart-extend_right (x ∷ a) (y ∷ b) d (inl l) = inl l
Apart-extend_right (x ∷ a) (y ∷ b) d (inr p) = inr (p.0, Apart-extend_right a b d p.1)

pub Apart-extend_left : (a b c : List ℕ) → Apart a b → Apart (a ++ c) b
Apart-extend_left [] b c h = absurd h
Apart-extend_left (x ∷ a) [] c h = absurd h
Apart-extend_left (x ∷ a) (y ∷ b) c (inl l) = inl l
Apart-extend_left (x ∷ a) (y ∷ b) c (inr p) = inr (p.0, Apart-extend_left a b c p.1)
