-- The first word of a text, and what stands behind it.
use Rattle.std.proofs.Common.{◌≡◌, ℕ, suc, ◌+◌, List, [], ◌∷◌, drop, ap, refl, ◌∙◌, Bool, false, cond, not, arith}
use Rattle.std.proofs.lemmas.List.Sums.{take_while-cons}
use Rattle.std.specs.List.{position_or_len, before_first, after_first}
use Rattle.container_parser.specs.Words.{is_space}

pub word_none : before_first is_space [] ≡ []
word_none = refl

pub word_ends : (rest : List ℕ) → before_first is_space (32 ∷ rest) ≡ []
word_ends rest = refl

pub word_goes_on : (b : ℕ) (rest : List ℕ) → is_space b ≡ false → before_first is_space (b ∷ rest) ≡ b ∷ before_first is_space rest
word_goes_on b rest apart =
    take_while-cons (λ (x : ℕ). not (is_space x)) b rest ∙ ap (λ (r : Bool). cond (not r) (b ∷ before_first is_space rest) []) apart

pub behind_none : after_first is_space [] ≡ []
behind_none = refl

pub behind_ends : (rest : List ℕ) → after_first is_space (32 ∷ rest) ≡ rest
behind_ends rest = refl

pub behind_goes_on : (b : ℕ) (rest : List ℕ) → is_space b ≡ false → after_first is_space (b ∷ rest) ≡ after_first is_space rest
behind_goes_on b rest apart =
    let count : position_or_len is_space (b ∷ rest) ≡ 1 + position_or_len is_space rest = ap (λ (r : Bool). cond (not r) (1 + position_or_len is_space rest) 0) apart in
    let more : position_or_len is_space (b ∷ rest) + 1 ≡ suc (position_or_len is_space rest + 1) = omega arith in
    ap (λ (k : ℕ). drop k (b ∷ rest)) more
