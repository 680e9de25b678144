-- What holds of each digit holds of a number's text.
use Rattle.std.proofs.Common.{◌≡◌, ℕ, zero, suc, ◌+◌, ◌<◌, ◌/◌, ◌%◌, Bool, true, false, ◌==◌, ◌&&◌, List, [], ◌∷◌, refl, arith, decimal}
use Rattle.std.proofs.lemmas.Bool.{lt-ltb}
use Rattle.std.specs.List.{list_all}
use Rattle.std.specs.Bool.{if◌then◌else◌}
use Rattle.std.specs.Fmt.{digits, digits_onto, digit_glyph}

glyph : (d : ℕ) → d < 10 → digit_glyph false d ≡ 48 + d
glyph d small = rw (lt-ltb d 10 small) refl

both : (a b : Bool) → a ≡ true → b ≡ true → (a && b) ≡ true
both a b e f = rw (e, f) refl

either : (p : List ℕ → Bool) (b : Bool) (x y : List ℕ) → p x ≡ true → p y ≡ true → p (if b then x else y) ≡ true
either p true x y e f = e
either p false x y e f = f

onto_pass : (p : ℕ → Bool) → ((d : ℕ) → d < 10 → p (48 + d) ≡ true) → (k n : ℕ) (bytes : List ℕ) → list_all p bytes ≡ true → list_all p (digits_onto k 10 false n bytes) ≡ true
onto_pass p each zero n bytes e = e
onto_pass p each (suc k) n bytes e =
    let low : n % 10 < 10 = omega arith in
    let here : p (digit_glyph false (n % 10)) ≡ true = rw (glyph (n % 10) low) (each (n % 10) low) in
    let more : list_all p (digit_glyph false (n % 10) ∷ bytes) ≡ true = both (p (digit_glyph false (n % 10))) (list_all p bytes) here e in
    either (list_all p) (n / 10 == 0) (digit_glyph false (n % 10) ∷ bytes) (digits_onto k 10 false (n / 10) (digit_glyph false (n % 10) ∷ bytes))
    more (onto_pass p each k (n / 10) (digit_glyph false (n % 10) ∷ bytes) more)

pub decimal_pass : (p : ℕ → Bool) → ((d : ℕ) → d < 10 → p (48 + d) ≡ true) → (n : ℕ) → list_all p (decimal n) ≡ true
unfolding digits
decimal_pass p each n = onto_pass p each 64 n [] refl
