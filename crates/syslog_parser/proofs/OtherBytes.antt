-- What the bytes that end a word are not.
use Rattle.std.proofs.Common.{◌≡◌, ℕ, ◌∙◌, ap, refl, Bool, true, false, not, ◌||◌, ◌==◌, eqb-true}
use Rattle.syslog_parser.specs.Bytes.{is_printable, is_name_byte}
use Rattle.syslog_parser.specs.Inner.Reads.{is_space, is_equals_sign, ends_id}

-- a byte that passes is none of those that don't
other_byte : (kind : ℕ → Bool) (byte k : ℕ) → kind k ≡ false → kind byte ≡ true → (byte == k) ≡ false
other_byte kind byte k stops passes = by (byte == k) refl
  where
    by : (b : Bool) → (byte == k) ≡ b → b ≡ false
    by true e = let same : kind byte ≡ kind k = ap kind (eqb-true byte k e) in absurd (cc (same, stops, passes))
    by false e = refl

pub printable_no_space : (byte : ℕ) → is_printable byte ≡ true → is_space byte ≡ false
printable_no_space byte e = other_byte is_printable byte 32 refl e

pub name_no_equals : (byte : ℕ) → is_name_byte byte ≡ true → is_equals_sign byte ≡ false
name_no_equals byte e = other_byte is_name_byte byte 61 refl e

pub name_no_end : (byte : ℕ) → is_name_byte byte ≡ true → ends_id byte ≡ false
name_no_end byte e = ap (λ (b : Bool). b || (byte == 93)) (other_byte is_name_byte byte 32 refl e) ∙ other_byte is_name_byte byte 93 refl e

-- ---- tests

pub neither : (a b : Bool) → (a || b) ≡ false → (a ≡ false) × (b ≡ false)
neither true b e = absurd (cc e)
neither false b e = (refl, e)

pub negated : (a : Bool) → not a ≡ true → a ≡ false
negated true e = absurd (cc e)
negated false e = refl

pub not_not : (a : Bool) → not a ≡ false → a ≡ true
not_not true e = refl
not_not false e = absurd (cc e)
