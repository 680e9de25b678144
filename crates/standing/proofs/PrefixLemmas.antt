-- Texts that begin others.
use Rattle.std.proofs.Common.{◌≡◌, ℕ, nat_eq, ◌≤◌, List, ◌++◌, length, take, true, false, refl, sym, ap, ◌∙◌, inl, inr, arith, length-take}
use Rattle.std.specs.Cmp.Lexicographic.{same_text, pointwise}
use Rattle.std.proofs.lemmas.Cmp.{nat_list_eq_equiv}
use Rattle.std.proofs.lemmas.List.{take_at, take-append-le, take-take, take_all}
use Rattle.std.proofs.lemmas.Bool.{cases_lt}
use Rattle.standing.specs.Prefixes.{IsPrefix, begins}

pub prefix-append : (front rest : List ℕ) → IsPrefix front (front ++ rest)
prefix-append front rest = take_at front rest (length front) refl

-- of two fronts of one text the shorter one begins the other
pub front_of_both : (a b ra rb : List ℕ) → a ++ ra ≡ b ++ rb → length a ≤ length b → IsPrefix a b
front_of_both a b ra rb same shorter =
    sym (take-append-le (length a) b rb shorter) ∙ ap (take (length a)) (sym same) ∙ take_at a ra (length a) refl

pub prefix-take : (n : ℕ) (a b : List ℕ) → IsPrefix a b → IsPrefix (take n a) (take n b)
prefix-take n a b prefix =
    elim (cases_lt n (length a)) [
      | inl short ↦
          let same : take n a ≡ take n b = ap (take n) (sym prefix) ∙ take-take n (length a) b (omega (arith, short)) in
          let size : length (take n a) ≡ n = length-take n a ∙ omega (arith, short) in
          ap (λ k. take k (take n b)) size ∙ take-take n n b (omega arith) ∙ sym same
      | inr long ↦
          let all : take n a ≡ a = take_all n a long in
          ap (λ (x : List ℕ). take (length x) (take n b)) all ∙ take-take (length a) n b long ∙ prefix ∙ sym all
    ]

pub begins-true : (short long : List ℕ) → begins short long ≡ true → IsPrefix short long
begins-true short long is = sym (same_text short (take (length short) long) (sym is))

pub begins-false : (short long : List ℕ) → begins short long ≡ false → IsPrefix short long → ⊥
begins-false short long is prefix =
    let begun : begins short long ≡ true = ap (pointwise nat_eq short) prefix ∙ nat_list_eq_equiv.refl short in
    let never : true ≡ false = sym begun ∙ is in
    cc
