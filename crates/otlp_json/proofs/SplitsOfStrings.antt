-- Two texts that begin with an escaped string and its closing quote tell the string.
use Rattle.std.proofs.Common.{◌≡◌, ℕ, ◌+◌, ◌-◌, ◌*◌, ◌/◌, ◌%◌, ◌<◌, ◌≤◌, true, false, ◌==◌, List, [], ◌∷◌, ◌++◌, ◌∙◌, ◌⊎◌, inl, inr, Option, None, Some, refl, sym, ap, subst, arith, drop}
use Rattle.std.proofs.lemmas.Bool.{cases_eq, cases_lt, ne_eqb, lt-ltb, le-ltb}
use Rattle.std.proofs.lemmas.Bool.Decides.{nat_tests}
use Rattle.std.proofs.lemmas.List.{append_assoc}
use Rattle.std.specs.Prelude.{nat_lt, unwrap_or, is_some, if◌then◌else◌}
use Rattle.std.specs.Char.{digit_char}
use Rattle.otlp_json.specs.Escaped.{escaped_byte, escaped}

-- the byte that an escape stands for, and what follows it; none at the closing quote
abbrev hex_value : ℕ → ℕ
hex_value c = (if nat_lt c 58 then c - 48 else c - 87)

abbrev letter_value : ℕ → ℕ
letter_value c = (if c == 98 then 8 else (if c == 102 then 12 else (if c == 110 then 10 else (if c == 114 then 13 else (if c == 116 then 9 else c)))))

abbrev read_hex : List ℕ → Option (ℕ × List ℕ)
read_hex [] = None
read_hex (a ∷ []) = None
read_hex (a ∷ b ∷ []) = None
read_hex (a ∷ b ∷ c ∷ []) = None
read_hex (a ∷ b ∷ high ∷ low ∷ rest) = Some (hex_value high * 16 + hex_value low, rest)

abbrev read_escape : List ℕ → Option (ℕ × List ℕ)
read_escape [] = None
read_escape (c ∷ rest) = (if c == 117 then read_hex rest else Some (letter_value c, rest))

abbrev read_byte : List ℕ → Option (ℕ × List ℕ)
read_byte [] = None
read_byte (c ∷ rest) = (if c == 34 then None else (if c == 92 then read_escape rest else Some (c, rest)))

hex_back : (d : ℕ) → d < 16 → hex_value (digit_char d) ≡ d
hex_back d small = grind (arith, nat_tests)

abbrev ReadsBack : List ℕ → ℕ → Type 0
ReadsBack rest byte = read_byte (escaped_byte byte ++ rest) ≡ Some (byte, rest)

byte_back : (rest : List ℕ) (byte : ℕ) → ReadsBack rest byte
unfolding escaped_byte
byte_back rest byte = quote (cases_eq byte 34)
  where
    other : (byte ≡ 34 → ⊥) → (byte ≡ 92 → ⊥) → (byte ≡ 8 → ⊥) → (byte ≡ 12 → ⊥) → (byte ≡ 10 → ⊥) → (byte ≡ 13 → ⊥) → (byte ≡ 9 → ⊥) → (byte < 32) ⊎ (32 ≤ byte) → ReadsBack rest byte
    other a b c d e f g (inl low) =
        let whole : byte / 16 * 16 + byte % 16 ≡ byte = omega arith in
        rw (ne_eqb byte 34 a, ne_eqb byte 92 b, ne_eqb byte 8 c, ne_eqb byte 12 d, ne_eqb byte 10 e, ne_eqb byte 13 f, ne_eqb byte 9 g, lt-ltb byte 32 low)
        (rw (hex_back (byte / 16) (omega arith), hex_back (byte % 16) (omega arith), whole) refl)
    other a b c d e f g (inr high) =
        rw (ne_eqb byte 34 a, ne_eqb byte 92 b, ne_eqb byte 8 c, ne_eqb byte 12 d, ne_eqb byte 10 e, ne_eqb byte 13 f, ne_eqb byte 9 g, le-ltb byte 32 high)
        (rw (ne_eqb byte 34 a, ne_eqb byte 92 b) refl)

    tab : (byte ≡ 34 → ⊥) → (byte ≡ 92 → ⊥) → (byte ≡ 8 → ⊥) → (byte ≡ 12 → ⊥) → (byte ≡ 10 → ⊥) → (byte ≡ 13 → ⊥) → (byte ≡ 9) ⊎ (byte ≡ 9 → ⊥) → ReadsBack rest byte
    tab a b c d e f (inl is) = subst (ReadsBack rest) (sym is) refl
    tab a b c d e f (inr ne) = other a b c d e f ne (cases_lt byte 32)

    carriage : (byte ≡ 34 → ⊥) → (byte ≡ 92 → ⊥) → (byte ≡ 8 → ⊥) → (byte ≡ 12 → ⊥) → (byte ≡ 10 → ⊥) → (byte ≡ 13) ⊎ (byte ≡ 13 → ⊥) → ReadsBack rest byte
    carriage a b c d e (inl is) = subst (ReadsBack rest) (sym is) refl
    carriage a b c d e (inr ne) = tab a b c d e ne (cases_eq byte 9)

    feed : (byte ≡ 34 → ⊥) → (byte ≡ 92 → ⊥) → (byte ≡ 8 → ⊥) → (byte ≡ 12 → ⊥) → (byte ≡ 10) ⊎ (byte ≡ 10 → ⊥) → ReadsBack rest byte
    feed a b c d (inl is) = subst (ReadsBack rest) (sym is) refl
    feed a b c d (inr ne) = carriage a b c d ne (cases_eq byte 13)

    form : (byte ≡ 34 → ⊥) → (byte ≡ 92 → ⊥) → (byte ≡ 8 → ⊥) → (byte ≡ 12) ⊎ (byte ≡ 12 → ⊥) → ReadsBack rest byte
    form a b c (inl is) = subst (ReadsBack rest) (sym is) refl
    form a b c (inr ne) = feed a b c ne (cases_eq byte 10)

    backspace : (byte ≡ 34 → ⊥) → (byte ≡ 92 → ⊥) → (byte ≡ 8) ⊎ (byte ≡ 8 → ⊥) → ReadsBack rest byte
    backspace a b (inl is) = subst (ReadsBack rest) (sym is) refl
    backspace a b (inr ne) = form a b ne (cases_eq byte 12)

    backslash : (byte ≡ 34 → ⊥) → (byte ≡ 92) ⊎ (byte ≡ 92 → ⊥) → ReadsBack rest byte
    backslash a (inl is) = subst (ReadsBack rest) (sym is) refl
    backslash a (inr ne) = backspace a ne (cases_eq byte 8)

    quote : (byte ≡ 34) ⊎ (byte ≡ 34 → ⊥) → ReadsBack rest byte
    quote (inl is) = subst (ReadsBack rest) (sym is) refl
    quote (inr ne) = backslash ne (cases_eq byte 92)

first_back : (first : ℕ) (more x : List ℕ) → read_byte (escaped (first ∷ more) ++ 34 ∷ x) ≡ Some (first, escaped more ++ 34 ∷ x)
first_back first more x = ap read_byte (append_assoc (escaped_byte first) (escaped more) (34 ∷ x)) ∙ byte_back (escaped more ++ 34 ∷ x) first

pub string_splits : (a b x y : List ℕ) → escaped a ++ 34 ∷ x ≡ escaped b ++ 34 ∷ y → (a ≡ b) × (x ≡ y)
string_splits [] [] x y e = (refl, ap (drop 1) e)
string_splits [] (b ∷ bs) x y e =
    let clash : false ≡ true = ap is_some (ap read_byte e ∙ first_back b bs y) in cc
string_splits (a ∷ more) [] x y e =
    let clash : false ≡ true = ap is_some (sym (ap read_byte e) ∙ first_back a more x) in cc
string_splits (a ∷ more) (b ∷ bs) x y e =
    let read : Some (a, escaped more ++ 34 ∷ x) ≡ Some (b, escaped bs ++ 34 ∷ y) = sym (first_back a more x) ∙ ap read_byte e ∙ first_back b bs y in
    let same : a ≡ b = ap (λ o. (unwrap_or {T = ℕ × List ℕ} o (0, [])).0) read in
    let rest = string_splits more bs x y (ap (λ o. (unwrap_or {T = ℕ × List ℕ} o (0, [])).1) read) in
    (rw (same, rest.0) refl, rest.1)
