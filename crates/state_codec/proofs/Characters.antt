-- The bytes of one character (RFC 3629 section 4).
use Rattle.std.proofs.Common.{◌≡◌, ℕ, ◌+◌, ◌/◌, ◌%◌, ◌<◌, ◌≤◌, true, List, [], ◌∷◌, length, get_or, refl, arith, inl, inr, ◌⊎◌}
use lib.Utf8.{encode}
use Rattle.std.specs.Int.{is_in_range}
use Rattle.std.specs.Str.Lossy.{second_byte_min, second_byte_max}
use Rattle.std.proofs.lemmas.Bool.{cases_lt, cases_eq, lt-ltb, le-ltb, le-leb, eq-eqb, ne_eqb}
use Rattle.state_codec.specs.Reading.{character_len}

in_range : (low high b : ℕ) → low ≤ b → b ≤ high → is_in_range low high b ≡ true
in_range low high b above below = rw (le-leb low b above, le-leb b high below) refl

-- what the first byte, the second and the third are
pub record IsCharacter (bytes : List ℕ) : Type 0 where
  pub size : character_len (get_or bytes 0 0) ≡ length bytes
  pub some : 1 ≤ length bytes
  pub most : length bytes ≤ 4
  pub lead : 2 ≤ length bytes → is_in_range 0xC2 0xF4 (get_or bytes 0 0) ≡ true
  pub second : 3 ≤ length bytes → is_in_range (second_byte_min (get_or bytes 0 0)) (second_byte_max (get_or bytes 0 0)) (get_or bytes 1 0) ≡ true
  pub third : 4 ≤ length bytes → is_in_range 0x80 0xBF (get_or bytes 2 0) ≡ true

len_1 : (b : ℕ) → b < 0x80 → character_len b ≡ 1
len_1 b h = rw (lt-ltb b 0x80 h) refl

len_2 : (b : ℕ) → 0xC2 ≤ b → b < 0xE0 → character_len b ≡ 2
len_2 b l h = rw (le-ltb b 0x80 (omega (arith, l)), le-ltb b 0xC2 l, lt-ltb b 0xE0 h) refl

len_3 : (b : ℕ) → 0xE0 ≤ b → b < 0xF0 → character_len b ≡ 3
len_3 b l h = rw (le-ltb b 0x80 (omega (arith, l)), le-ltb b 0xC2 (omega (arith, l)), le-ltb b 0xE0 l, lt-ltb b 0xF0 h) refl

len_4 : (b : ℕ) → 0xF0 ≤ b → b < 0xF5 → character_len b ≡ 4
len_4 b l h = rw (le-ltb b 0x80 (omega (arith, l)), le-ltb b 0xC2 (omega (arith, l)), le-ltb b 0xE0 (omega (arith, l)), le-ltb b 0xF0 l, lt-ltb b 0xF5 h) refl

-- ---- its bytes

abbrev pub Scalar : ℕ → Type 0
Scalar c = (c < 55296) ⊎ ((57344 ≤ c) × (c < 1114112))

abbrev next : ℕ → ℕ
next bits = 128 + bits % 64

one : (c : ℕ) → c < 128 → encode c ≡ c ∷ []
unfolding encode
one c h = rw (lt-ltb c 128 h) refl

two : (c : ℕ) → 128 ≤ c → c < 2048 → encode c ≡ (192 + c / 64) ∷ next c ∷ []
unfolding encode
two c l h = rw (le-ltb c 128 l, lt-ltb c 2048 h) refl

three : (c : ℕ) → 2048 ≤ c → c < 65536 → encode c ≡ (224 + c / 4096) ∷ next (c / 64) ∷ next c ∷ []
unfolding encode
three c l h = rw (le-ltb c 128 (omega (arith, l)), le-ltb c 2048 l, lt-ltb c 65536 h) refl

four : (c : ℕ) → 65536 ≤ c → encode c ≡ (240 + c / 262144) ∷ next (c / 4096) ∷ next (c / 64) ∷ next c ∷ []
unfolding encode
four c l = rw (le-ltb c 128 (omega (arith, l)), le-ltb c 2048 (omega (arith, l)), le-ltb c 65536 l) refl

-- the second byte of three: not below A0 behind E0, nor above 9F behind ED
second_3 : (c : ℕ) → Scalar c → 2048 ≤ c → c < 65536 → is_in_range (second_byte_min (224 + c / 4096)) (second_byte_max (224 + c / 4096)) (next (c / 64)) ≡ true
second_3 c s l h =
    let lead : ℕ = 224 + c / 4096 in
    let first : second_byte_min lead ≤ next (c / 64) = elim (cases_eq lead 0xE0) [
      | inl is ↦ rw (eq-eqb lead 0xE0 is) (omega (arith, is, l))
      | inr other ↦ rw (ne_eqb lead 0xE0 other, ne_eqb lead 0xF0 (λ e. omega (arith, e, h))) (omega arith)
    ] in
    let last : next (c / 64) ≤ second_byte_max lead = elim (cases_eq lead 0xED) [
      | inl is ↦ rw (eq-eqb lead 0xED is) (elim s [ inl low ↦ omega (arith, is, low) | inr high ↦ absurd (omega (arith, is, high.0)) ])
      | inr other ↦ rw (ne_eqb lead 0xED other, ne_eqb lead 0xF4 (λ e. omega (arith, e, h))) (omega arith)
    ] in
    in_range (second_byte_min lead) (second_byte_max lead) (next (c / 64)) first last

-- the second byte of four: not below 90 behind F0, nor above 8F behind F4
second_4 : (c : ℕ) → c < 1114112 → 65536 ≤ c → is_in_range (second_byte_min (240 + c / 262144)) (second_byte_max (240 + c / 262144)) (next (c / 4096)) ≡ true
second_4 c top l =
    let lead : ℕ = 240 + c / 262144 in
    let first : second_byte_min lead ≤ next (c / 4096) = elim (cases_eq lead 0xF0) [
      | inl is ↦ rw (ne_eqb lead 0xE0 (λ e. omega (arith, e)), eq-eqb lead 0xF0 is) (omega (arith, is, l))
      | inr other ↦ rw (ne_eqb lead 0xE0 (λ e. omega (arith, e)), ne_eqb lead 0xF0 other) (omega arith)
    ] in
    let last : next (c / 4096) ≤ second_byte_max lead = elim (cases_eq lead 0xF4) [
      | inl is ↦ rw (ne_eqb lead 0xED (λ e. omega (arith, e)), eq-eqb lead 0xF4 is) (omega (arith, is, top))
      | inr other ↦ rw (ne_eqb lead 0xED (λ e. omega (arith, e)), ne_eqb lead 0xF4 other) (omega arith)
    ] in
    in_range (second_byte_min lead) (second_byte_max lead) (next (c / 4096)) first last

below : (c : ℕ) → Scalar c → c < 1114112
below c (inl low) = omega (arith, low)
below c (inr high) = high.1

pub encoded : (c : ℕ) → Scalar c → IsCharacter (encode c)
encoded c s = elim (cases_lt c 128) [
  | inl a ↦
      rw (one c a)
      (record { size = len_1 c a; some = omega arith; most = omega arith; lead = λ h. absurd (omega (arith, h)); second = λ h. absurd (omega (arith, h)); third = λ h. absurd (omega (arith, h)) })
  | inr a ↦ elim (cases_lt c 2048) [
    | inl b ↦
        rw (two c a b)
        (record {
          size = len_2 (192 + c / 64) (omega (arith, a)) (omega (arith, b));
          some = omega arith;
          most = omega arith;
          lead = λ h. in_range 0xC2 0xF4 (192 + c / 64) (omega (arith, a)) (omega (arith, b));
          second = λ h. absurd (omega (arith, h));
          third = λ h. absurd (omega (arith, h));
        })
    | inr b ↦ elim (cases_lt c 65536) [
      | inl d ↦
          rw (three c b d)
          (record {
            size = len_3 (224 + c / 4096) (omega arith) (omega (arith, d));
            some = omega arith;
            most = omega arith;
            lead = λ h. in_range 0xC2 0xF4 (224 + c / 4096) (omega arith) (omega (arith, d));
            second = λ h. second_3 c s b d;
            third = λ h. absurd (omega (arith, h));
          })
      | inr d ↦
          rw (four c d)
          (record {
            size = len_4 (240 + c / 262144) (omega arith) (omega (arith, below c s));
            some = omega arith;
            most = omega arith;
            lead = λ h. in_range 0xC2 0xF4 (240 + c / 262144) (omega arith) (omega (arith, below c s));
            second = λ h. second_4 c (below c s) d;
            third = λ h. in_range 0x80 0xBF (next (c / 64)) (omega arith) (omega arith);
          })
    ]
  ]
]
