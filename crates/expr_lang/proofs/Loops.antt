-- One turn of the loops that read numbers, paths and texts.
use Rattle.std.proofs.Common.{◌≡◌, ℕ, ◌+◌, ◌-◌, ◌*◌, ◌<◌, ◌≤◌, Bool, true, false, cond, nat_eq, nat_le, List, [], ◌∷◌, ap, ◌∙◌, refl, length, drop, get_or, ◌⊎◌, inl, inr, add-one, arith, drop-cons}
use Rattle.std.proofs.lemmas.List.{drop_all}
use Rattle.expr_lang.specs.Inner.BrokenWords.{quoted_length, fitting}
use Rattle.expr_lang.specs.Longest.{common}
use Rattle.expr_lang.specs.Words.{escaped}
use Rattle.expr_lang.proofs.Longest.{common_none}
use Rattle.std.specs.Option.{option_map_or}
use Rattle.expr_lang.specs.declared.lexer.Spot.{Spot}
use Rattle.expr_lang.specs.Row.{path_length, spot_after}
use Rattle.expr_lang.specs.Words.{number}

pub number_step : (value : ℕ) (digits : List ℕ) (i : ℕ) → i < length digits → number value (drop i digits) ≡ number (value * 10 + (get_or digits i 0 - 48)) (drop (i + 1) digits)
number_step value digits i h = rw (add-one, drop-cons digits i 0) refl

pub number_grows : (digits : List ℕ) (value : ℕ) → value ≤ number value digits
number_grows [] value = omega arith
number_grows (digit ∷ digits) value = let h = number_grows digits (value * 10 + (digit - 48)) in omega (arith, h)

pub path_step : (spot : Spot) (bytes : List ℕ) (i : ℕ) → i < length bytes
    → path_length spot (drop i bytes) ≡ option_map_or (λ next. 1 + path_length next (drop (i + 1) bytes)) (spot_after spot (get_or bytes i 0)) 0
path_step spot bytes i h = rw (add-one, drop-cons bytes i 0) refl

pub common_step : (spelling bytes : List ℕ) (i : ℕ) → i < length spelling → i < length bytes
    → common (drop i spelling) (drop i bytes) ≡ cond (nat_eq (get_or spelling i 0) (get_or bytes i 0)) (1 + common (drop (i + 1) spelling) (drop (i + 1) bytes)) 0
common_step spelling bytes i h k = rw (add-one, drop-cons spelling i 0, drop-cons bytes i 0) refl

pub common_end : (spelling bytes : List ℕ) (i : ℕ) → (length spelling ≤ i) ⊎ (length bytes ≤ i) → common (drop i spelling) (drop i bytes) ≡ 0
common_end spelling bytes i (inl h) = ap (λ (l : List ℕ). common l (drop i bytes)) (drop_all i spelling h)
common_end spelling bytes i (inr h) = ap (common (drop i spelling)) (drop_all i bytes h) ∙ common_none (drop i spelling)

pub fitting_step : (most value : ℕ) (digits : List ℕ) (i : ℕ) → i < length digits
    → fitting most value (drop i digits) ≡ cond (nat_le (value * 10 + (get_or digits i 0 - 48)) most) (1 + fitting most (value * 10 + (get_or digits i 0 - 48)) (drop (i + 1) digits)) 0
fitting_step most value digits i h = rw (add-one, drop-cons digits i 0) refl

pub fitting_end : (most value : ℕ) (digits : List ℕ) (i : ℕ) → length digits ≤ i → fitting most value (drop i digits) ≡ 0
fitting_end most value digits i h = ap (fitting most value) (drop_all i digits h)

pub behind_step : (quote : ℕ) (bytes : List ℕ) (i : ℕ) → i < length bytes
    → quoted_length quote true (drop i bytes) ≡ option_map_or (λ one. 1 + quoted_length quote false (drop (i + 1) bytes)) (escaped (get_or bytes i 0)) 0
unfolding quoted_length
behind_step quote bytes i h = rw (add-one, drop-cons bytes i 0) refl

pub quoted_step : (quote : ℕ) (bytes : List ℕ) (i : ℕ) → i < length bytes
    → quoted_length quote false (drop i bytes) ≡ cond (nat_eq (get_or bytes i 0) 92) (1 + quoted_length quote true (drop (i + 1) bytes))
    (cond (nat_eq (get_or bytes i 0) quote) 1 (1 + quoted_length quote false (drop (i + 1) bytes)))
unfolding quoted_length
quoted_step quote bytes i h = rw (add-one, drop-cons bytes i 0) refl

pub quoted_end : (quote : ℕ) (behind : Bool) (bytes : List ℕ) (i : ℕ) → length bytes ≤ i → quoted_length quote behind (drop i bytes) ≡ 0
unfolding quoted_length
quoted_end quote true bytes i h = ap (quoted_length quote true) (drop_all i bytes h)
quoted_end quote false bytes i h = ap (quoted_length quote false) (drop_all i bytes h)
