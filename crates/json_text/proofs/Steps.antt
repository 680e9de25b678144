-- What single steps of the reader's functions do.
use Rattle.std.proofs.Common.{◌≡◌, ℕ, ℤ, pos, negsuc, zero, suc, ◌+◌, ◌-◌, ◌*◌, ◌<◌, ◌≤◌, inl, inr, List, [], ◌∷◌, ◌++◌, ◌∙◌, ap, sym, refl, subst, Option, None, Some, Bool, true, false, ◌&&◌, cond, length, drop, take, get_or, nat_lt, nat_le, ◌==◌, arith, encode_utf8, SomeIff, MatchOption, IsSome, IsAscii, slice_range, lt-ltb, ltb-true, ltb-false, eq-eqb}
use Rattle.std.proofs.lemmas.List.{drop_more, take_more, get_or-drop, get_or-take, length-drop}
use Rattle.json_text.specs.declared.number.Part.{Part}
use Rattle.json_text.specs.declared.number.Part.TheVariants as part
use Rattle.std.proofs.lemmas.Bool.Decides.{nat_tests}
use Rattle.std.proofs.lemmas.Str.Parse.{IsNumeralModel, numerals_by_value, tells_all_ascii_digits}
use Rattle.std.specs.Char.{IsScalar, InScalarRange, OutOfScalarRange}
use Rattle.std.specs.Char.Utf16.{is_high_surrogate, is_low_surrogate, surrogate_pair_char}
use Rattle.std.specs.Option.{unwrap_or}
use Rattle.std.specs.Str.{all_ascii_digits, IsUtf8, IsCharBoundary}
use Rattle.std.specs.Char.{digit_value}
use Rattle.std.proofs.lemmas.Str.{IsCharBoundary-before_ascii, IsCharBoundary-after_ascii, IsCharBoundary-end}
use Rattle.std.specs.Str.Parse.{IsNumeral, without_leading_sign, signed_digits_value, digits_value}
use mir.Syntax.{w64}
use mir.Val.{SFits}
use Rattle.entry_model.specs.Datum.{Datum, int, text as text_datum}
use Rattle.json_text.specs.Bytes.{is_blank, is_plain, hex_value, escaped}
use Rattle.json_text.specs.declared.content.Piece.TheVariants as piece
use Rattle.json_text.specs.Numbers.{is_whole, fits_64_bits, number_of}
use Rattle.json_text.specs.Machine.{State, state, goes, stops, step, value_in, outcome, followed, ended, syntax_at, Content, no_content, text_so_far, with_run, unit_phase, hex_step, with_piece, meant_step, Frame, in_number, has_value, next_part, can_end, number_step, after_step}
use Rattle.json_text.specs.Pieces.{lone_unit, pair_of_units}
use Rattle.json_text.specs.Reads.{IsBehindAscii, text_read_as, Leads, past_blanks, Wanting, AroundText, Around, text_from, piece_from, word_from, number_from, behind, part_at}
use Rattle.json_text.proofs.Complete.{if_true, if_false}
use Rattle.json_text.proofs.Places.{blanks_lead, plain_end, plain_leads, run_end, leads_byte, then_leads, refuses_here, stands_true, stands_false, run_stops, outcome_byte, outcome_goes, outcome_stops, outcome_over, outcome_unfinished, outcome_stuck}

pub blanks_to : {Around : Type 0} (text : List ℕ) (at place : ℕ) (f : Around → State) → at ≤ length text → place ≡ past_blanks text at
    → ((around : Around) (byte : ℕ) → is_blank byte ≡ true → step (f around) byte ≡ goes (f around)) → Leads text at f place f
blanks_to text at place f l e stays = subst (λ (n : ℕ). Leads text at f n f) (sym e) (blanks_lead text at f l stays)

pub not_blank_at : (text : List ℕ) (at place : ℕ) → place ≡ past_blanks text at → place < length text → is_blank (get_or text place 0) ≡ false
not_blank_at text at place e l =
    let inside : past_blanks text at < length text = omega arith in
    ap (λ (n : ℕ). is_blank (get_or text n 0)) e ∙ run_stops is_blank text at inside

-- ---- one wanted byte

pub expect_ok : (text : List ℕ) (at wanted place : ℕ) → at ≤ length text → place ≡ past_blanks text at
    → (nat_lt place (length text) && (get_or text place 0 == wanted)) ≡ true
    → Leads {Around = Wanting wanted} text at (λ w. w.before) (place + 1) (λ w. w.after)
expect_ok text at wanted place l e is =
    let here = stands_true text place wanted is in
    then_leads {Around = Wanting wanted} text at place (place + 1) (λ w. w.before) (λ w. w.before) (λ w. w.after)
    (blanks_to {Around = Wanting wanted} text at place (λ w. w.before) l e (λ w. w.stays))
    (leads_byte {Around = Wanting wanted} text place wanted (λ w. w.before) (λ w. w.after) here.0 here.1 (λ w. w.goes_on))

pub expect_fault : (text : List ℕ) (at wanted place : ℕ) → at ≤ length text → place ≡ past_blanks text at
    → (nat_lt place (length text) && (get_or text place 0 == wanted)) ≡ false
    → (w : Wanting wanted) → outcome w.before (drop at text) at ≡ syntax_at place
expect_fault text at wanted place l e is w =
    (blanks_to {Around = Wanting wanted} text at place (λ w. w.before) l e (λ w. w.stays)).2 w
    ∙ refuses_here {Around = Wanting wanted} text place (λ w. w.before)
    (λ inside around. around.stops_else (get_or text place 0) (not_blank_at text at place e inside) (stands_false text place wanted is inside))
    (λ around. around.unfinished) w

-- ---- characters

surrogate_test : (unit : ℕ) → 55296 ≤ unit → unit < 57344 → (nat_le 55296 unit && nat_lt unit 57344) ≡ true
surrogate_test unit l h = grind (arith, nat_tests)

low_test : (unit : ℕ) → unit < 55296 → (nat_le 55296 unit && nat_lt unit 57344) ≡ false
low_test unit l = grind (arith, nat_tests)

high_test : (unit : ℕ) → 57344 ≤ unit → (nat_le 55296 unit && nat_lt unit 57344) ≡ false
high_test unit l = grind (arith, nat_tests)

pub lone_char : (unit : ℕ) (r : Option ℕ) → unit < 65536 → SomeIff r (IsScalar unit) unit → MatchOption r (OutOfScalarRange unit) (λ _. InScalarRange unit)
    → encode_utf8 (unwrap_or r 65533) ≡ lone_unit unit
unfolding lone_unit
lone_char unit None small is (inl range) = let l = range.0 in let h = range.1 in ap (λ (o : Option ℕ). encode_utf8 (unwrap_or o 65533)) (sym (if_true _ None (Some unit) (surrogate_test unit l (omega arith))))
lone_char unit None small is (inr large) = absurd (omega arith)
lone_char unit (Some c) small is (inl low) = ap encode_utf8 is.1 ∙ ap (λ (o : Option ℕ). encode_utf8 (unwrap_or o 65533)) (sym (if_false _ None (Some unit) (low_test unit low)))
lone_char unit (Some c) small is (inr range) = let l = range.0 in ap encode_utf8 is.1 ∙ ap (λ (o : Option ℕ). encode_utf8 (unwrap_or o 65533)) (sym (if_false _ None (Some unit) (high_test unit l)))

pub pair_char : (high low : ℕ) (r : Option ℕ) → (is_high_surrogate high && is_low_surrogate low) ≡ true
    → SomeIff r (IsScalar (surrogate_pair_char high low)) (surrogate_pair_char high low) → (InScalarRange (surrogate_pair_char high low) → IsSome r)
    → encode_utf8 (unwrap_or r 65533) ≡ pair_of_units high low
unfolding pair_of_units
pair_char high low None pair is some =
    let bounds : (surrogate_pair_char high low) < 1114112 = grind (arith, nat_tests) in
    let above : 57344 ≤ surrogate_pair_char high low = omega arith in
    absurd (cc (some (inr (above, omega arith))))
pair_char high low (Some c) pair is some = ap encode_utf8 is.1

-- ---- numbers

own : IsNumeralModel (λ ds. all_ascii_digits ds ≡ true) (digits_value 10)
own = numerals_by_value _ tells_all_ascii_digits

fits_test : (z : ℤ) → SFits w64 z → fits_64_bits z ≡ true
fits_test (pos n) f = let l = f.sfits in grind (arith, nat_tests)
fits_test (negsuc n) f = let l = f.sfits in grind (arith, nat_tests)

pub fits_fact : (z : ℤ) → fits_64_bits z ≡ true → SFits w64 z
fits_fact (pos n) e = record { sfits = grind (arith, nat_tests) }
fits_fact (negsuc n) e = record { sfits = grind (arith, nat_tests) }

abbrev Parses : List ℕ → Type 0
Parses bytes = IsNumeral 10 (without_leading_sign bytes) × SFits w64 (signed_digits_value 10 bytes)

both : (a b : Bool) → a ≡ true → b ≡ true → (a && b) ≡ true
both true true e f = refl
both true false e f = f
both false b e f = e

parses_test : (bytes : List ℕ) → Parses bytes → (is_whole bytes && fits_64_bits (signed_digits_value 10 bytes)) ≡ true
parses_test bytes p =
    let l = p.0.0 in
    both (is_whole bytes) (fits_64_bits (signed_digits_value 10 bytes))
    (both (nat_lt 0 (length (without_leading_sign bytes))) (all_ascii_digits (without_leading_sign bytes)) (lt-ltb 0 (length (without_leading_sign bytes)) l) (own.from (without_leading_sign bytes) p.0.1))
    (fits_test (signed_digits_value 10 bytes) p.1)

test_parses : (bytes : List ℕ) → (is_whole bytes && fits_64_bits (signed_digits_value 10 bytes)) ≡ true → Parses bytes
test_parses bytes e = by (nat_lt 0 (length ds)) (all_ascii_digits ds) (fits_64_bits z) refl refl refl e
  where
    ds : List ℕ
    ds = without_leading_sign bytes

    z : ℤ
    z = signed_digits_value 10 bytes

    by : (a b d : Bool) → nat_lt 0 (length (without_leading_sign bytes)) ≡ a → all_ascii_digits (without_leading_sign bytes) ≡ b → fits_64_bits (signed_digits_value 10 bytes) ≡ d → ((a && b) && d) ≡ true → Parses bytes
    by true true true x y w e = ((ltb-true 0 (length (without_leading_sign bytes)) x, own.to (without_leading_sign bytes) y), fits_fact (signed_digits_value 10 bytes) w)
    by true true false x y w e = absurd (cc e)
    by true false d x y w e = absurd (cc e)
    by false b d x y w e = absurd (cc e)

pub number_is_int : (bytes : List ℕ) (z : ℤ) → IsNumeral 10 (without_leading_sign bytes) × SFits w64 (signed_digits_value 10 bytes) → z ≡ signed_digits_value 10 bytes → int z ≡ number_of bytes
unfolding number_of
number_is_int bytes z p e = ap int e ∙ sym (if_true _ (int (signed_digits_value 10 bytes)) (text_datum bytes) (parses_test bytes p))

pub number_is_text : (bytes : List ℕ) → (IsNumeral 10 (without_leading_sign bytes) × SFits w64 (signed_digits_value 10 bytes) → ⊥) → text_datum bytes ≡ number_of bytes
unfolding number_of
number_is_text bytes no_parse = by (is_whole bytes && fits_64_bits (signed_digits_value 10 bytes)) refl
  where
    by : (b : Bool) → (is_whole bytes && fits_64_bits (signed_digits_value 10 bytes)) ≡ b → text_datum bytes ≡ cond b (int (signed_digits_value 10 bytes)) (text_datum bytes)
    by true e = absurd (no_parse (test_parses bytes e))
    by false e = refl

-- ---- escapes

module _ (bytes : List ℕ) (at place left unit : ℕ) (content : Content) (around : AroundText) where
  abbrev unit_state : ℕ → ℕ → State
  unit_state left unit = state (unit_phase around.0 content left unit) around.1.0 around.1.1

  pub unit_goes : (k byte one : ℕ) → k ≡ suc left → place < length bytes → get_or bytes place 0 ≡ byte → Some one ≡ hex_value byte
      → outcome (unit_state k unit) (drop place bytes) place ≡ outcome (unit_state left (unit * 16 + one)) (drop (place + 1) bytes) (place + 1)
  unit_goes k byte one e l is h =
      ap (λ (n : ℕ). outcome (unit_state n unit) (drop place bytes) place) e
      ∙ outcome_goes bytes place (unit_state (suc left) unit) (unit_state left (unit * 16 + one)) byte l is
      (ap (hex_step around.0 content left unit around.1.0 around.1.1) (sym h))

  pub unit_stops : (k byte : ℕ) → k ≡ suc left → place < length bytes → get_or bytes place 0 ≡ byte → None ≡ hex_value byte
      → outcome (unit_state k unit) (drop place bytes) place ≡ syntax_at place
  unit_stops k byte e l is h =
      ap (λ (n : ℕ). outcome (unit_state n unit) (drop place bytes) place) e
      ∙ outcome_stops bytes place (unit_state (suc left) unit) byte l is (ap (hex_step around.0 content left unit around.1.0 around.1.1) (sym h))

  pub unit_ends : (k : ℕ) → k ≡ suc left → length bytes ≤ place → outcome (unit_state k unit) (drop place bytes) place ≡ syntax_at place
  unit_ends k e l =
      ap (λ (n : ℕ). outcome (unit_state n unit) (drop place bytes) place) e ∙ outcome_unfinished bytes place (unit_state (suc left) unit) l refl

-- ---- words and numbers

slice_more : (bytes : List ℕ) (at place : ℕ) → at ≤ place → place < length bytes → slice_range bytes at (place + 1) ≡ slice_range bytes at place ++ get_or bytes place 0 ∷ []
slice_more bytes at place low l =
    let width : place + 1 - at ≡ place - at + 1 = omega arith in
    let rest : length (drop at bytes) ≡ length bytes - at = length-drop at bytes in
    let inside : place - at < length (drop at bytes) = omega arith in
    let there : at + (place - at) ≡ place = omega arith in
    ap (λ (n : ℕ). take n (drop at bytes)) width
    ∙ take_more (drop at bytes) (place - at) 0 inside
    ∙ ap (λ (b : ℕ). take (place - at) (drop at bytes) ++ b ∷ []) (get_or-drop at bytes (place - at) 0 ∙ ap (λ (n : ℕ). get_or bytes n 0) there)

ascii_push : (xs : List ℕ) (byte : ℕ) → IsAscii xs → byte < 128 → IsAscii (xs ++ byte ∷ [])
ascii_push [] byte h l zero = l
ascii_push [] byte h l (suc i) = omega arith
ascii_push (x ∷ xs) byte h l zero = h 0
ascii_push (x ∷ xs) byte h l (suc i) = ascii_push xs byte (λ j. h (suc j)) l i

pub word_goes : (bytes word : List ℕ) (at place index wanted : ℕ) (value : Datum) → index < length word → get_or word index 0 ≡ wanted
    → (nat_lt place (length bytes) && (get_or bytes place 0 == wanted)) ≡ true
    → Leads {Around = Around} bytes at (word_from word value) place (word_from (drop index word) value)
    → Leads {Around = Around} bytes at (word_from word value) (place + 1) (word_from (drop (index + 1) word) value)
word_goes bytes word at place index wanted value l e is before =
    let here = stands_true bytes place wanted is in
    let split : drop index word ≡ wanted ∷ drop (index + 1) word = drop_more word index 0 l ∙ ap (λ (b : ℕ). b ∷ drop (index + 1) word) e in
    then_leads {Around = Around} bytes at place (place + 1) (word_from word value) (word_from (drop index word) value) (word_from (drop (index + 1) word) value) before
    (subst (λ (w : List ℕ). Leads {Around = Around} bytes place (word_from w value) (place + 1) (word_from (drop (index + 1) word) value)) (sym split)
    (leads_byte {Around = Around} bytes place wanted (word_from (wanted ∷ drop (index + 1) word) value) (word_from (drop (index + 1) word) value) here.0 here.1
    (λ around. if_true (wanted == wanted) _ _ (eq-eqb wanted wanted refl))))

pub word_stops : (bytes word : List ℕ) (at place index wanted : ℕ) (value : Datum) → index < length word → get_or word index 0 ≡ wanted
    → (nat_lt place (length bytes) && (get_or bytes place 0 == wanted)) ≡ false
    → Leads {Around = Around} bytes at (word_from word value) place (word_from (drop index word) value)
    → (around : Around) → outcome (word_from word value around) (drop at bytes) at ≡ syntax_at place
word_stops bytes word at place index wanted value l e is before around =
    let split : drop index word ≡ wanted ∷ drop (index + 1) word = drop_more word index 0 l ∙ ap (λ (b : ℕ). b ∷ drop (index + 1) word) e in
    before.2 around
    ∙ ap (λ (w : List ℕ). outcome (word_from w value around) (drop place bytes) place) split
    ∙ outcome_stuck bytes place (word_from (wanted ∷ drop (index + 1) word) value around)
    (λ inside. if_false (get_or bytes place 0 == wanted) _ _ (stands_false bytes place wanted is inside)) (λ _. refl)

part_ascii : (p : Part) (byte : ℕ) (q : Part) → next_part p byte ≡ Some q → byte < 128
part_ascii part.Start byte q e = grind (arith, nat_tests)
part_ascii part.Minus byte q e = grind (arith, nat_tests)
part_ascii part.Zero byte q e = grind (arith, nat_tests)
part_ascii part.Whole byte q e = grind (arith, nat_tests)
part_ascii part.Point byte q e = grind (arith, nat_tests)
part_ascii part.Fraction byte q e = grind (arith, nat_tests)
part_ascii part.Power byte q e = grind (arith, nat_tests)
part_ascii part.Sign byte q e = grind (arith, nat_tests)
part_ascii part.Exponent byte q e = grind (arith, nat_tests)

-- a part at a place is one inside the text
part_inside : (p : Part) (bytes : List ℕ) (place : ℕ) (q : Part) → Some q ≡ part_at p bytes place → (place < length bytes) × (next_part p (get_or bytes place 0) ≡ Some q)
part_inside p bytes place q e = by (nat_lt place (length bytes)) refl e
  where
    by : (b : Bool) → nat_lt place (length bytes) ≡ b → Some q ≡ cond b (next_part p (get_or bytes place 0)) None → (place < length bytes) × (next_part p (get_or bytes place 0) ≡ Some q)
    by true is e = (ltb-true place (length bytes) is, sym e)
    by false is e = absurd (cc e)

pub number_goes : (bytes : List ℕ) (at place : ℕ) (p q : Part) → at ≤ place → Some q ≡ part_at p bytes place
    → ((around : Around) → outcome (number_from part.Start [] around) (drop at bytes) at ≡ outcome (number_from p (slice_range bytes at place) around) (drop place bytes) place)
    → IsAscii (slice_range bytes at place)
    → (place + 1 ≤ length bytes) × IsAscii (slice_range bytes at (place + 1))
    × ((around : Around) → outcome (number_from part.Start [] around) (drop at bytes) at ≡ outcome (number_from q (slice_range bytes at (place + 1)) around) (drop (place + 1) bytes) (place + 1))
number_goes bytes at place p q low e leads ascii = (
  inside,
  grown_ascii,
  λ around.
      leads around
      ∙ outcome_goes bytes place (number_from p (slice_range bytes at place) around) (number_from q (slice_range bytes at place ++ byte ∷ []) around) byte here.0 refl
      (ap (λ (o : Option Part). number_step o (slice_range bytes at place ++ byte ∷ []) (cond (can_end p) (after_step (number_of (slice_range bytes at place)) around.0 around.1 byte) stops) around.0 around.1) here.1)
      ∙ ap (λ (l : List ℕ). outcome (number_from q l around) (drop (place + 1) bytes) (place + 1)) (sym grown),
)
  where
    here : (place < length bytes) × (next_part p (get_or bytes place 0) ≡ Some q)
    here = part_inside p bytes place q e

    inside : place + 1 ≤ length bytes
    inside = let l = here.0 in omega arith

    byte : ℕ
    byte = get_or bytes place 0

    grown : slice_range bytes at (place + 1) ≡ slice_range bytes at place ++ get_or bytes place 0 ∷ []
    grown = slice_more bytes at place low here.0

    grown_ascii : IsAscii (slice_range bytes at (place + 1))
    grown_ascii = subst (λ (l : List ℕ). IsAscii l) (sym grown) (ascii_push (slice_range bytes at place) (get_or bytes place 0) ascii (part_ascii p (get_or bytes place 0) q here.1))

-- the number ends here: what may stand behind it is what may stand behind a value
pub number_ends : (bytes : List ℕ) (at place : ℕ) (p : Part) → None ≡ part_at p bytes place → can_end p ≡ true → (spelled : List ℕ) (around : Around)
    → outcome (number_from p spelled around) (drop place bytes) place ≡ outcome (behind (number_of spelled) around) (drop place bytes) place
number_ends bytes at place p e may spelled around = by (nat_lt place (length bytes)) refl e
  where
    over : (frames : List Frame) → value_in (in_number p spelled) frames ≡ value_in (has_value (number_of spelled)) frames
    over [] = if_true (can_end p) _ _ may
    over (frame ∷ frames) = refl

    by : (b : Bool) → nat_lt place (length bytes) ≡ b → None ≡ cond b (next_part p (get_or bytes place 0)) None
        → outcome (number_from p spelled around) (drop place bytes) place ≡ outcome (behind (number_of spelled) around) (drop place bytes) place
    by true is e =
        let l = ltb-true place (length bytes) is in
        outcome_byte bytes place (number_from p spelled around) (get_or bytes place 0) l refl
        ∙ ap (followed (λ (next : State). outcome next (drop (place + 1) bytes) (place + 1)) place)
        (ap (λ (o : Option Part). number_step o (spelled ++ get_or bytes place 0 ∷ []) (cond (can_end p) (after_step (number_of spelled) around.0 around.1 (get_or bytes place 0)) stops) around.0 around.1) (sym e)
        ∙ if_true (can_end p) _ _ may)
        ∙ sym (outcome_byte bytes place (behind (number_of spelled) around) (get_or bytes place 0) l refl)
    by false is e =
        let l = ltb-false place (length bytes) is in
        outcome_over bytes place (number_from p spelled around) l ∙ ap (ended place) (over around.0) ∙ sym (outcome_over bytes place (behind (number_of spelled) around) l)

pub number_stops : (bytes : List ℕ) (place : ℕ) (p : Part) → None ≡ part_at p bytes place → can_end p ≡ false → (spelled : List ℕ) (around : Around)
    → outcome (number_from p spelled around) (drop place bytes) place ≡ syntax_at place
number_stops bytes place p e may spelled around = outcome_stuck bytes place (number_from p spelled around) stuck (λ _. over around.0)
  where
    over : (frames : List Frame) → value_in (in_number p spelled) frames ≡ None
    over [] = if_false (can_end p) _ _ may
    over (frame ∷ frames) = refl

    stuck : place < length bytes → step (number_from p spelled around) (get_or bytes place 0) ≡ stops
    stuck l =
        let none : next_part p (get_or bytes place 0) ≡ None = sym (if_true (nat_lt place (length bytes)) _ _ (lt-ltb place (length bytes) l)) ∙ sym e in
        ap (λ (o : Option Part). number_step o (spelled ++ get_or bytes place 0 ∷ []) (cond (can_end p) (after_step (number_of spelled) around.0 around.1 (get_or bytes place 0)) stops) around.0 around.1) none
        ∙ if_false (can_end p) _ _ may

-- ---- escapes

module _ (bytes : List ℕ) (at : ℕ) (content : Content) where
  pub escape_ends : length bytes ≤ at → (around : AroundText) → outcome (piece_from content around) (drop at bytes) at ≡ syntax_at at
  escape_ends l around = outcome_unfinished bytes at (piece_from content around) l refl

  pub escape_of_unit : at < length bytes → get_or bytes at 0 ≡ 117
      → Leads {Around = AroundText} bytes at (piece_from content) (at + 1) (λ around. state (unit_phase around.0 content 4 0) around.1.0 around.1.1)
  escape_of_unit l e =
      leads_byte {Around = AroundText} bytes at 117 (piece_from content) (λ around. state (unit_phase around.0 content 4 0) around.1.0 around.1.1) l e (λ around. refl)

  pub escape_of_byte : (byte meant : ℕ) → at < length bytes → get_or bytes at 0 ≡ byte → (byte == 117) ≡ false → Some meant ≡ escaped byte
      → Leads {Around = AroundText} bytes at (piece_from content) (at + 1) (text_from (with_piece content (piece.Byte meant)))
  escape_of_byte byte meant l is other e =
      leads_byte {Around = AroundText} bytes at byte (piece_from content) (text_from (with_piece content (piece.Byte meant))) l is
      (λ around. if_false (byte == 117) _ _ other ∙ ap (meant_step around.0 content around.1.0 around.1.1) (sym e))

  pub escape_stops : (byte : ℕ) → at < length bytes → get_or bytes at 0 ≡ byte → (byte == 117) ≡ false → None ≡ escaped byte
      → (around : AroundText) → outcome (piece_from content around) (drop at bytes) at ≡ syntax_at at
  escape_stops byte l is other e around =
      outcome_stops bytes at (piece_from content around) byte l is (if_false (byte == 117) _ _ other ∙ ap (meant_step around.0 content around.1.0 around.1.1) (sym e))

-- ---- places between characters

pub behind_ascii : (bytes : List ℕ) (at : ℕ) → IsUtf8 bytes → at ≤ length bytes → IsBehindAscii bytes at → IsCharBoundary bytes at
behind_ascii bytes at u l b =
    let low = b.0 in
    let back : at - 1 + 1 ≡ at = omega arith in
    let inside : at - 1 < length bytes = omega arith in
    subst (λ (n : ℕ). IsCharBoundary bytes n) back (IsCharBoundary-after_ascii bytes (at - 1) u inside b.1)

pub before_byte : (bytes : List ℕ) (at byte : ℕ) → at < length bytes → get_or bytes at 0 ≡ byte → byte < 128 → IsCharBoundary bytes at
before_byte bytes at byte l is low = IsCharBoundary-before_ascii bytes at l (omega arith)

not_plain_low : (byte : ℕ) → is_plain byte ≡ false → byte < 128
unfolding is_plain
not_plain_low byte e = grind (arith, nat_tests)

pub plain_end_boundary : (bytes : List ℕ) (at place : ℕ) → at ≤ length bytes → place ≡ plain_end bytes at → IsCharBoundary bytes place
plain_end_boundary bytes at place l e = subst (λ (n : ℕ). IsCharBoundary bytes n) (sym e) (by (nat_lt (plain_end bytes at) (length bytes)) refl)
  where
    by : (b : Bool) → nat_lt (plain_end bytes at) (length bytes) ≡ b → IsCharBoundary bytes (plain_end bytes at)
    by true is =
        let inside = ltb-true (plain_end bytes at) (length bytes) is in
        IsCharBoundary-before_ascii bytes (plain_end bytes at) inside (not_plain_low (get_or bytes (plain_end bytes at) 0) (run_stops is_plain bytes at inside))
    by false is =
        let past = ltb-false (plain_end bytes at) (length bytes) is in
        let most = run_end is_plain bytes at l in
        let same : length bytes ≡ plain_end bytes at = omega arith in
        subst (λ (n : ℕ). IsCharBoundary bytes n) same (IsCharBoundary-end bytes)

pub hex_low : (byte one : ℕ) → Some one ≡ hex_value byte → byte < 128
unfolding hex_value
hex_low byte one e = by (nat_lt (digit_value byte) 16) refl e
  where
    by : (b : Bool) → nat_lt (digit_value byte) 16 ≡ b → Some one ≡ cond b (Some (digit_value byte)) None → byte < 128
    by true is e = grind (arith, nat_tests)
    by false is e = absurd (cc e)

pub escaped_low : (byte meant : ℕ) → Some meant ≡ escaped byte → byte < 128
unfolding escaped
escaped_low byte meant e = grind (arith, nat_tests)

-- ---- strings

module _ (bytes : List ℕ) (at place : ℕ) (content : Content) where
  pub runs_to : at ≤ length bytes → place ≡ plain_end bytes at → Leads {Around = AroundText} bytes at (text_from content) place (text_from (with_run content (slice_range bytes at place)))
  runs_to l e =
      subst (λ (n : ℕ). Leads {Around = AroundText} bytes at (text_from content) n (text_from (with_run content (slice_range bytes at n)))) (sym e) (plain_leads bytes at content l)

  pub quote_leads : (nat_lt place (length bytes) && (get_or bytes place 0 == 34)) ≡ true
      → Leads {Around = AroundText} bytes place (text_from content) (place + 1) (λ around. text_read_as around (text_so_far content))
  unfolding is_plain
  quote_leads is =
      let here = stands_true bytes place 34 is in
      leads_byte {Around = AroundText} bytes place 34 (text_from content) (λ around. text_read_as around (text_so_far content)) here.0 here.1 (λ around. refl)

  pub backslash_leads : (nat_lt place (length bytes) && (get_or bytes place 0 == 92)) ≡ true
      → Leads {Around = AroundText} bytes place (text_from content) (place + 1) (piece_from content)
  unfolding is_plain
  backslash_leads is =
      let here = stands_true bytes place 92 is in
      leads_byte {Around = AroundText} bytes place 92 (text_from content) (piece_from content) here.0 here.1 (λ around. refl)

  pub text_stops : at ≤ length bytes → place ≡ plain_end bytes at → (nat_lt place (length bytes) && (get_or bytes place 0 == 34)) ≡ false
      → (nat_lt place (length bytes) && (get_or bytes place 0 == 92)) ≡ false
      → (around : AroundText) → outcome (text_from content around) (drop place bytes) place ≡ syntax_at place
  text_stops l e no_quote no_backslash around = outcome_stuck bytes place (text_from content around) stuck (λ _. refl)
    where
      not_plain : place < length bytes → is_plain (get_or bytes place 0) ≡ false
      not_plain inside =
          let there : plain_end bytes at < length bytes = omega arith in
          ap (λ (n : ℕ). is_plain (get_or bytes n 0)) e ∙ run_stops is_plain bytes at there

      stuck : place < length bytes → step (text_from content around) (get_or bytes place 0) ≡ stops
      stuck inside =
          if_false (is_plain (get_or bytes place 0)) _ _ (not_plain inside)
          ∙ if_false (get_or bytes place 0 == 34) _ _ (stands_false bytes place 34 no_quote inside)
          ∙ if_false (get_or bytes place 0 == 92) _ _ (stands_false bytes place 92 no_backslash inside)

-- both ends of a run of characters of ASCII that isn't empty
pub ascii_start : (bytes : List ℕ) (at place : ℕ) → at < place → place ≤ length bytes → IsAscii (slice_range bytes at place) → IsCharBoundary bytes at
ascii_start bytes at place l high ascii =
    let width : 0 < place - at = omega arith in
    let same : get_or (slice_range bytes at place) 0 0 ≡ get_or bytes at 0 =
    get_or-take (place - at) (drop at bytes) 0 0 width ∙ get_or-drop at bytes 0 0 ∙ ap (λ (n : ℕ). get_or bytes n 0) (let e : at + 0 ≡ at = omega arith in e) in
    before_byte bytes at (get_or bytes at 0) (omega arith) refl (subst (λ (b : ℕ). b < 128) same (ascii 0))

pub ascii_end : (bytes : List ℕ) (at place : ℕ) → IsUtf8 bytes → at < place → place ≤ length bytes → IsAscii (slice_range bytes at place) → IsCharBoundary bytes place
ascii_end bytes at place u l high ascii =
    let inside : place - at - 1 < place - at = omega arith in
    let there : at + (place - at - 1) ≡ place - 1 = omega arith in
    let same : get_or (slice_range bytes at place) (place - at - 1) 0 ≡ get_or bytes (place - 1) 0 =
    get_or-take (place - at) (drop at bytes) (place - at - 1) 0 inside ∙ get_or-drop at bytes (place - at - 1) 0 ∙ ap (λ (n : ℕ). get_or bytes n 0) there in
    behind_ascii bytes place u high (omega arith, subst (λ (b : ℕ). b < 128) same (ascii (place - at - 1)))

-- ---- strings in their functions

module _ (bytes : List ℕ) (start at place : ℕ) (content : Content) where
  -- what is read up to the end of a run
  pub run_leads : Leads {Around = AroundText} bytes start (text_from no_content) at (text_from content) → at ≤ length bytes → place ≡ plain_end bytes at → (run : List ℕ) (after : Content)
      → run ≡ slice_range bytes at place → after ≡ with_run content run → Leads {Around = AroundText} bytes start (text_from no_content) place (text_from after)
  run_leads before l e run after is grown =
      then_leads {Around = AroundText} bytes start at place (text_from no_content) (text_from content) (text_from after) before
      (subst (λ (c : Content). Leads {Around = AroundText} bytes at (text_from content) place (text_from c)) (ap (with_run content) (sym is) ∙ sym grown) (runs_to bytes at place content l e))

  pub text_ends : Leads {Around = AroundText} bytes start (text_from no_content) place (text_from content) → (nat_lt place (length bytes) && (get_or bytes place 0 == 34)) ≡ true
      → (read : List ℕ) → read ≡ text_so_far content → Leads {Around = AroundText} bytes start (text_from no_content) (place + 1) (λ around. text_read_as around read)
  text_ends before is read e =
      then_leads {Around = AroundText} bytes start place (place + 1) (text_from no_content) (text_from content) (λ around. text_read_as around read) before
      (subst (λ (t : List ℕ). Leads {Around = AroundText} bytes place (text_from content) (place + 1) (λ around. text_read_as around t)) (sym e) (quote_leads bytes at place content is))

  pub text_refused : Leads {Around = AroundText} bytes start (text_from no_content) place (text_from content) → at ≤ length bytes → place ≡ plain_end bytes at
      → (nat_lt place (length bytes) && (get_or bytes place 0 == 34)) ≡ false → (nat_lt place (length bytes) && (get_or bytes place 0 == 92)) ≡ false
      → (around : AroundText) → outcome (text_from no_content around) (drop start bytes) start ≡ syntax_at place
  text_refused before l e no_quote no_backslash around = before.2 around ∙ text_stops bytes at place content l e no_quote no_backslash around

  pub escape_leads : Leads {Around = AroundText} bytes start (text_from no_content) place (text_from content) → (nat_lt place (length bytes) && (get_or bytes place 0 == 92)) ≡ true
      → Leads {Around = AroundText} bytes start (text_from no_content) (place + 1) (piece_from content)
  escape_leads before is =
      then_leads {Around = AroundText} bytes start place (place + 1) (text_from no_content) (text_from content) (piece_from content) before (backslash_leads bytes at place content is)

pub plain_string : (bytes : List ℕ) (at place : ℕ) (read : List ℕ) → at ≤ length bytes → place ≡ plain_end bytes at → (nat_lt place (length bytes) && (get_or bytes place 0 == 34)) ≡ true
    → read ≡ slice_range bytes at place → Leads {Around = AroundText} bytes at (text_from no_content) (place + 1) (λ around. text_read_as around read)
plain_string bytes at place read l e is same =
    text_ends bytes at at place (with_run no_content (slice_range bytes at place)) (runs_to bytes at place no_content l e) is read (same ∙ sym (whole (slice_range bytes at place)))
  where
    whole : (run : List ℕ) → text_so_far (with_run no_content run) ≡ run
    whole [] = refl
    whole (byte ∷ run) = refl
