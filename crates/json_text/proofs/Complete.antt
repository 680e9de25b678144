-- The reader reads every text of the grammar.
use Rattle.std.proofs.Common.{◌≡◌, ℕ, suc, ◌+◌, ◌*◌, ◌==◌, List, [], ◌∷◌, ◌++◌, ◌∙◌, ap, sym, refl, subst, Option, None, Some, Bool, true, false, ◌&&◌, ◌||◌, cond, append_assoc, eqb-true, arith}
use Rattle.std.proofs.lemmas.Bool.Decides.{nat_tests}
use Rattle.std.proofs.lemmas.List.{append-nil}
use Rattle.std.specs.List.{list_all}
use Rattle.entry_model.specs.Datum.{Datum, text, list, fields, items_of, members_of}
use Rattle.json_text.specs.declared.content.Piece.{Piece}
use Rattle.json_text.specs.declared.content.Piece.TheVariants as piece
use Rattle.json_text.specs.declared.number.Part.{Part}
use Rattle.json_text.specs.declared.number.Part.TheVariants as part
use Rattle.json_text.specs.Bytes.{is_blank, is_digit, is_digit_from_one, is_power_mark, is_sign, is_plain, escaped}
use Rattle.json_text.specs.Grammar.{IsUnit, no_digits, a_digit, IsContent, a_quote, a_plain, an_escape, a_unit, Member, put_all, IsValue, blank_value, is_null, is_true, is_false, is_number, is_text, is_list, is_map, IsFirstItem, blank_item, no_item, first_item, IsNextItem, blank_next, last_item, next_item, IsFirstMember, blank_first, no_member, first_member, IsMember, blank_name, a_name, IsNamed, blank_colon, a_colon, IsNextMember, blank_member, last_member, next_member, IsText}
use Rattle.json_text.specs.Machine.{Content, no_content, with_piece, text_so_far, Role, a_value, a_key, wants_value, opened_list, opened_map, has_value, wants_name, has_name, in_number, in_text, in_escape, in_unit, Frame, in_list, in_map, State, state, Move, goes, stops, sinks, put, next_part, can_end, number_step, value_step, after_step, text_read, meant_step, unit_phase, hex_step, step, value_in, start}
use Rattle.json_text.specs.Numbers.{IsPowerDigits, power_digit, power_ends, IsPowerValue, power_value, IsPower, power_sign, no_power_sign, IsExponent, exponent, no_exponent, IsFractionDigits, fraction_digit, fraction_ends, IsFractionValue, fraction_value, IsFraction, point, no_fraction, IsWholeDigits, whole_digit, whole_ends, IsUnsigned, from_zero, from_one, IsNumber, minus, unsigned, number_of}
use Rattle.json_text.specs.Pieces.{text_of}
use Rattle.json_text.proofs.Running.{run, moved}
use Rattle.json_text.proofs.Completions.{with_pieces}
use Rattle.json_text.proofs.Spelled.{text_of_pieces}

pub if_true : {A : Type 0} (b : Bool) (m n : A) → b ≡ true → cond b m n ≡ m
if_true true m n e = refl
if_true false m n e = absurd (cc e)

pub if_false : {A : Type 0} (b : Bool) (m n : A) → b ≡ false → cond b m n ≡ n
if_false true m n e = absurd (cc e)
if_false false m n e = refl

-- one step, and on from there
taken : (s t : State) (byte : ℕ) (bytes : List ℕ) (v : Datum) → step s byte ≡ goes t → run t bytes ≡ Some v → run s (byte ∷ bytes) ≡ Some v
taken s t byte bytes v e r = ap (moved (λ (next : State). run next bytes)) e ∙ r

-- ---- strings

not_u : (byte meant : ℕ) → escaped byte ≡ Some meant → (byte == 117) ≡ false
unfolding escaped
not_u byte meant e = by (byte == 117) refl
  where
    by : (b : Bool) → (byte == 117) ≡ b → b ≡ false
    by true is =
        let same : byte ≡ 117 = eqb-true byte 117 is in
        let none : escaped 117 ≡ Some meant = subst (λ (b : ℕ). escaped b ≡ Some meant) same e in
        absurd (cc none)
    by false is = refl

complete_unit : {count so_far unit : ℕ} {bytes next : List ℕ} → IsUnit count so_far bytes unit next
    → (role : Role) (content : Content) (frames : List Frame) (room : ℕ) (v : Datum)
    → run (state (in_text role (with_piece content (piece.Unit unit))) frames room) next ≡ Some v
    → run (state (unit_phase role content count so_far) frames room) bytes ≡ Some v
complete_unit no_digits role content frames room v r = r
complete_unit (a_digit {count} {value} {byte} {one} {unit} {front} {rest} e d) role content frames room v r =
    taken (state (in_unit role content count value) frames room) (state (unit_phase role content count (value * 16 + one)) frames room) byte front v
    (ap (hex_step role content count value frames room) e) (complete_unit d role content frames room v r)

complete_content : {bytes rest : List ℕ} {pieces : List Piece} → IsContent bytes pieces rest
    → (role : Role) (content : Content) (frames : List Frame) (room : ℕ) (v : Datum)
    → run (state (text_read role (text_so_far (with_pieces content pieces))) frames room) rest ≡ Some v
    → run (state (in_text role content) frames room) bytes ≡ Some v
unfolding is_plain
complete_content (a_quote {rest}) role content frames room v r = r
complete_content (a_plain {byte} {front} {rest} {pieces} e d) role content frames room v r =
    taken (state (in_text role content) frames room) (state (in_text role (with_piece content (piece.Byte byte))) frames room) byte front v
    (if_true (is_plain byte) _ _ e) (complete_content d role (with_piece content (piece.Byte byte)) frames room v r)
complete_content (an_escape {byte} {meant} {front} {rest} {pieces} e d) role content frames room v r =
    taken (state (in_escape role content) frames room) (state (in_text role (with_piece content (piece.Byte meant))) frames room) byte front v
    (if_false (byte == 117) _ _ (not_u byte meant e) ∙ ap (meant_step role content frames room) e)
    (complete_content d role (with_piece content (piece.Byte meant)) frames room v r)
complete_content (a_unit {unit} {front} {next} {rest} {pieces} u d) role content frames room v r =
    complete_unit u role content frames room v (complete_content d role (with_piece content (piece.Unit unit)) frames room v r)

-- ---- numbers

blank_case : (P : ℕ → Type 0) (byte : ℕ) → is_blank byte ≡ true → P 32 → P 9 → P 10 → P 13 → P byte
blank_case P byte e a b c d = by (byte == 32) (byte == 9) (byte == 10) (byte == 13) refl refl refl refl e
  where
    at : (k : ℕ) → (byte == k) ≡ true → P k → P byte
    at k is p = subst P (sym (eqb-true byte k is)) p

    by : (x y z w : Bool) → (byte == 32) ≡ x → (byte == 9) ≡ y → (byte == 10) ≡ z → (byte == 13) ≡ w → (((x || y) || z) || w) ≡ true → P byte
    by true y z w ex ey ez ew e = at 32 ex a
    by false true z w ex ey ez ew e = at 9 ey b
    by false false true w ex ey ez ew e = at 10 ez c
    by false false false true ex ey ez ew e = at 13 ew d
    by false false false false ex ey ez ew e = absurd (cc e)

mark_case : (P : ℕ → Type 0) (byte : ℕ) → is_power_mark byte ≡ true → P 101 → P 69 → P byte
mark_case P byte e a b = by (byte == 101) (byte == 69) refl refl e
  where
    at : (k : ℕ) → (byte == k) ≡ true → P k → P byte
    at k is p = subst P (sym (eqb-true byte k is)) p

    by : (x y : Bool) → (byte == 101) ≡ x → (byte == 69) ≡ y → (x || y) ≡ true → P byte
    by true y ex ey e = at 101 ex a
    by false true ex ey e = at 69 ey b
    by false false ex ey e = absurd (cc e)

-- no number goes on with what may stand behind a value
record Closing (p : Part) : Type 0 where
  space : next_part p 32 ≡ None
  tab : next_part p 9 ≡ None
  lf : next_part p 10 ≡ None
  cr : next_part p 13 ≡ None
  comma : next_part p 44 ≡ None
  bracket : next_part p 93 ≡ None
  brace : next_part p 125 ≡ None

closing : (p : Part) → Closing p
closing part.Start = record { space = refl; tab = refl; lf = refl; cr = refl; comma = refl; bracket = refl; brace = refl }
closing part.Minus = record { space = refl; tab = refl; lf = refl; cr = refl; comma = refl; bracket = refl; brace = refl }
closing part.Zero = record { space = refl; tab = refl; lf = refl; cr = refl; comma = refl; bracket = refl; brace = refl }
closing part.Whole = record { space = refl; tab = refl; lf = refl; cr = refl; comma = refl; bracket = refl; brace = refl }
closing part.Point = record { space = refl; tab = refl; lf = refl; cr = refl; comma = refl; bracket = refl; brace = refl }
closing part.Fraction = record { space = refl; tab = refl; lf = refl; cr = refl; comma = refl; bracket = refl; brace = refl }
closing part.Power = record { space = refl; tab = refl; lf = refl; cr = refl; comma = refl; bracket = refl; brace = refl }
closing part.Sign = record { space = refl; tab = refl; lf = refl; cr = refl; comma = refl; bracket = refl; brace = refl }
closing part.Exponent = record { space = refl; tab = refl; lf = refl; cr = refl; comma = refl; bracket = refl; brace = refl }

record Closes (p : Part) (byte : ℕ) (m : Move) : Type 0 where
  closes : (n : State) → m ≡ goes n → next_part p byte ≡ None

stop_closes : {p : Part} {byte : ℕ} → Closes p byte stops
stop_closes = record { closes = λ n e. absurd (cc e) }

here_closes : {p : Part} {byte : ℕ} (m : Move) → next_part p byte ≡ None → Closes p byte m
here_closes m e = record { closes = λ n _. e }

on_closes : (p : Part) (byte k : ℕ) (m n : Move) → next_part p k ≡ None → Closes p byte n → Closes p byte (cond (byte == k) m n)
on_closes p byte k m n e other = by (byte == k) refl
  where
    by : (b : Bool) → (byte == k) ≡ b → Closes p byte (cond b m n)
    by true is = here_closes m (subst (λ (b : ℕ). next_part p b ≡ None) (sym (eqb-true byte k is)) e)
    by false is = other

blank_closes : (p : Part) (byte : ℕ) (m n : Move) → Closes p byte n → Closes p byte (cond (is_blank byte) m n)
blank_closes p byte m n other = by (is_blank byte) refl
  where
    c : Closing p
    c = closing p

    by : (b : Bool) → is_blank byte ≡ b → Closes p byte (cond b m n)
    by true is = here_closes m (blank_case (λ (b : ℕ). next_part p b ≡ None) byte is c.space c.tab c.lf c.cr)
    by false is = other

after_closes : (p : Part) (x : Datum) (frames : List Frame) (room byte : ℕ) → Closes p byte (after_step x frames room byte)
after_closes p x [] room byte = blank_closes p byte _ _ stop_closes
after_closes p x (in_list items ∷ frames) room byte =
    blank_closes p byte _ _ (on_closes p byte 44 _ _ (closing p).comma (on_closes p byte 93 _ _ (closing p).bracket stop_closes))
after_closes p x (in_map members name ∷ frames) room byte =
    blank_closes p byte _ _ (on_closes p byte 44 _ _ (closing p).comma (on_closes p byte 125 _ _ (closing p).brace stop_closes))

module _ (frames : List Frame) (room : ℕ) (v : Datum) where
  -- a number that may end is a value
  pub ends_run : (p : Part) → can_end p ≡ true → (rest spelled : List ℕ)
      → run (state (has_value (number_of spelled)) frames room) rest ≡ Some v → run (state (in_number p spelled) frames room) rest ≡ Some v
  ends_run p e [] spelled r = here frames r
    where
      here : (around : List Frame) → value_in (has_value (number_of spelled)) around ≡ Some v → value_in (in_number p spelled) around ≡ Some v
      here [] r = if_true (can_end p) _ _ e ∙ r
      here (frame ∷ around) r = r
  ends_run p e (byte ∷ bytes) spelled r = by (after_step (number_of spelled) frames room byte) refl r
    where
      next : Move → Option Datum
      next = moved (λ (n : State). run n bytes)

      by : (m : Move) → after_step (number_of spelled) frames room byte ≡ m → next m ≡ Some v
          → run (state (in_number p spelled) frames room) (byte ∷ bytes) ≡ Some v
      by (goes n) is r' =
          ap (λ (o : Option Part). moved (λ (n : State). run n bytes) (number_step o (spelled ++ byte ∷ []) (cond (can_end p) (after_step (number_of spelled) frames room byte) stops) frames room))
          ((after_closes p (number_of spelled) frames room byte).closes n is)
          ∙ ap (λ (b : Bool). moved (λ (n : State). run n bytes) (cond b (after_step (number_of spelled) frames room byte) stops)) e ∙ r
      by stops is r' = absurd (cc r')
      by sinks is r' = absurd (cc r')

  -- what is left of a number leads to its value
  abbrev Leads : Part → List ℕ → List ℕ → List ℕ → Type 0
  Leads p bytes spelled rest = (done : List ℕ) → run (state (has_value (number_of (done ++ spelled))) frames room) rest ≡ Some v
      → run (state (in_number p done) frames room) bytes ≡ Some v

  ended_leads : (p : Part) (rest : List ℕ) → can_end p ≡ true → Leads p rest [] rest
  ended_leads p rest e done r = ends_run p e rest done (subst (λ (l : List ℕ). run (state (has_value (number_of l)) frames room) rest ≡ Some v) (append-nil done) r)

  step_leads : (p q : Part) (byte : ℕ) (bytes spelled rest : List ℕ) → next_part p byte ≡ Some q → Leads q bytes spelled rest → Leads p (byte ∷ bytes) (byte ∷ spelled) rest
  step_leads p q byte bytes spelled rest e f done r =
      ap (λ (o : Option Part). moved (λ (n : State). run n bytes) (number_step o (done ++ byte ∷ []) (cond (can_end p) (after_step (number_of done) frames room byte) stops) frames room)) e
      ∙ f (done ++ byte ∷ []) (subst (λ (l : List ℕ). run (state (has_value (number_of l)) frames room) rest ≡ Some v) (sym (append_assoc done (byte ∷ []) spelled)) r)

  power_digits : {bytes spelled rest : List ℕ} → IsPowerDigits bytes spelled rest → Leads part.Exponent bytes spelled rest
  power_digits (power_digit {byte} {front} {spelled} {rest} e d) = step_leads part.Exponent part.Exponent byte front spelled rest (if_true (is_digit byte) _ _ e) (power_digits d)
  power_digits (power_ends {rest}) = ended_leads part.Exponent rest refl

  power_of : {bytes spelled rest : List ℕ} → IsPower bytes spelled rest → Leads part.Power bytes spelled rest
  power_of (power_sign {byte} {front} {spelled} {rest} e d) = step_leads part.Power part.Sign byte front spelled rest (if_true (is_sign byte) _ _ e) (value_of d)
    where
      value_of : {bytes spelled rest : List ℕ} → IsPowerValue bytes spelled rest → Leads part.Sign bytes spelled rest
      value_of (power_value {byte} {front} {spelled} {rest} e d) = step_leads part.Sign part.Exponent byte front spelled rest (if_true (is_digit byte) _ _ e) (power_digits d)
  power_of (no_power_sign d) = value_of d
    where
      no_sign : (byte : ℕ) → is_digit byte ≡ true → is_sign byte ≡ false
      no_sign byte e = grind (arith, nat_tests)

      value_of : {bytes spelled rest : List ℕ} → IsPowerValue bytes spelled rest → Leads part.Power bytes spelled rest
      value_of (power_value {byte} {front} {spelled} {rest} e d) =
          step_leads part.Power part.Exponent byte front spelled rest (if_false (is_sign byte) _ _ (no_sign byte e) ∙ if_true (is_digit byte) _ _ e) (power_digits d)

  -- the parts behind which an exponent may stand
  record BeforePower (p : Part) : Type 0 where
    small : next_part p 101 ≡ Some part.Power
    large : next_part p 69 ≡ Some part.Power
    ends : can_end p ≡ true

  exponent_of : (p : Part) → BeforePower p → {bytes spelled rest : List ℕ} → IsExponent bytes spelled rest → Leads p bytes spelled rest
  exponent_of p b (exponent {byte} {front} {spelled} {rest} e d) =
      step_leads p part.Power byte front spelled rest (mark_case (λ (k : ℕ). next_part p k ≡ Some part.Power) byte e b.small b.large) (power_of d)
  exponent_of p b (no_exponent {rest}) = ended_leads p rest b.ends

  fraction_digits : {bytes spelled rest : List ℕ} → IsFractionDigits bytes spelled rest → Leads part.Fraction bytes spelled rest
  fraction_digits (fraction_digit {byte} {front} {spelled} {rest} e d) = step_leads part.Fraction part.Fraction byte front spelled rest (if_true (is_digit byte) _ _ e) (fraction_digits d)
  fraction_digits (fraction_ends d) = exponent_of part.Fraction (record { small = refl; large = refl; ends = refl }) d

  fraction_of : (p : Part) → next_part p 46 ≡ Some part.Point → BeforePower p → {bytes spelled rest : List ℕ} → IsFraction bytes spelled rest → Leads p bytes spelled rest
  fraction_of p e b (point {front} {spelled} {rest} d) = step_leads p part.Point 46 front spelled rest e (value_of d)
    where
      value_of : {bytes spelled rest : List ℕ} → IsFractionValue bytes spelled rest → Leads part.Point bytes spelled rest
      value_of (fraction_value {byte} {front} {spelled} {rest} e d) = step_leads part.Point part.Fraction byte front spelled rest (if_true (is_digit byte) _ _ e) (fraction_digits d)
  fraction_of p e b (no_fraction d) = exponent_of p b d

  whole_digits : {bytes spelled rest : List ℕ} → IsWholeDigits bytes spelled rest → Leads part.Whole bytes spelled rest
  whole_digits (whole_digit {byte} {front} {spelled} {rest} e d) = step_leads part.Whole part.Whole byte front spelled rest (if_true (is_digit byte) _ _ e) (whole_digits d)
  whole_digits (whole_ends d) = fraction_of part.Whole refl (record { small = refl; large = refl; ends = refl }) d

  not_zero : (byte : ℕ) → is_digit_from_one byte ≡ true → (byte == 48) ≡ false
  not_zero byte e = grind (arith, nat_tests)

  unsigned_of : {bytes spelled rest : List ℕ} → IsUnsigned bytes spelled rest → Leads part.Minus bytes spelled rest
  unsigned_of (from_zero {front} {spelled} {rest} d) =
      step_leads part.Minus part.Zero 48 front spelled rest refl (fraction_of part.Zero refl (record { small = refl; large = refl; ends = refl }) d)
  unsigned_of (from_one {byte} {front} {spelled} {rest} e d) =
      step_leads part.Minus part.Whole byte front spelled rest (if_false (byte == 48) _ _ (not_zero byte e) ∙ if_true (is_digit_from_one byte) _ _ e) (whole_digits d)

  digit_begins : (byte : ℕ) → is_digit_from_one byte ≡ true → value_step frames room byte ≡ goes (state (in_number part.Whole (byte ∷ [])) frames room)
  digit_begins byte e =
      let f0 : is_blank byte ≡ false = grind (arith, nat_tests) in
      let f1 : (byte == 34) ≡ false = grind (arith, nat_tests) in
      let f2 : (byte == 91) ≡ false = grind (arith, nat_tests) in
      let f3 : (byte == 123) ≡ false = grind (arith, nat_tests) in
      let f4 : (byte == 110) ≡ false = grind (arith, nat_tests) in
      let f5 : (byte == 116) ≡ false = grind (arith, nat_tests) in
      let f6 : (byte == 102) ≡ false = grind (arith, nat_tests) in
      let f7 : (byte == 45) ≡ false = grind (arith, nat_tests) in
      if_false (is_blank byte) _ _ f0 ∙ if_false (byte == 34) _ _ f1 ∙ if_false (byte == 91) _ _ f2 ∙ if_false (byte == 123) _ _ f3
      ∙ if_false (byte == 110) _ _ f4 ∙ if_false (byte == 116) _ _ f5 ∙ if_false (byte == 102) _ _ f6
      ∙ ap (λ (o : Option Part). number_step o (byte ∷ []) stops frames room)
      (if_false (byte == 45) _ _ f7 ∙ if_false (byte == 48) _ _ (not_zero byte e) ∙ if_true (is_digit_from_one byte) _ _ e)

  begun : {bytes spelled rest : List ℕ} → IsUnsigned bytes spelled rest
      → run (state (has_value (number_of spelled)) frames room) rest ≡ Some v → run (state wants_value frames room) bytes ≡ Some v
  begun (from_zero {front} {spelled} {rest} d) r = fraction_of part.Zero refl (record { small = refl; large = refl; ends = refl }) d (48 ∷ []) r
  begun (from_one {byte} {front} {spelled} {rest} e d) r =
      taken (state wants_value frames room) (state (in_number part.Whole (byte ∷ [])) frames room) byte front v (digit_begins byte e) (whole_digits d (byte ∷ []) r)

  complete_number : {bytes spelled rest : List ℕ} → IsNumber bytes spelled rest
      → run (state (has_value (number_of spelled)) frames room) rest ≡ Some v → run (state wants_value frames room) bytes ≡ Some v
  complete_number (minus d) r = unsigned_of d (45 ∷ []) r
  complete_number (unsigned d) r = begun d r

-- ---- values

opened_list_runs : (bytes : List ℕ) (frames : List Frame) (room : ℕ) (v : Datum)
    → run (state wants_value (in_list [] ∷ frames) room) bytes ≡ Some v → run (state opened_list frames room) bytes ≡ Some v
opened_list_runs [] frames room v r = absurd (cc r)
opened_list_runs (byte ∷ bytes) frames room v r = by (is_blank byte) refl (opened_list_runs bytes frames room v)
  where
    here : (b : Bool) → (byte == 93) ≡ b → is_blank byte ≡ false → run (state opened_list frames room) (byte ∷ bytes) ≡ Some v
    here true is other =
        let same : byte ≡ 93 = eqb-true byte 93 is in
        let none : run (state wants_value (in_list [] ∷ frames) room) (93 ∷ bytes) ≡ Some v = subst (λ (b : ℕ). run (state wants_value (in_list [] ∷ frames) room) (b ∷ bytes) ≡ Some v) same r in
        absurd (cc none)
    here false is other = ap (moved (λ (n : State). run n bytes)) (if_false (is_blank byte) _ _ other ∙ if_false (byte == 93) _ _ is) ∙ r

    by : (b : Bool) → is_blank byte ≡ b
        → (run (state wants_value (in_list [] ∷ frames) room) bytes ≡ Some v → run (state opened_list frames room) bytes ≡ Some v)
        → run (state opened_list frames room) (byte ∷ bytes) ≡ Some v
    by true is rec =
        taken (state opened_list frames room) (state opened_list frames room) byte bytes v (if_true (is_blank byte) _ _ is)
        (rec (sym (ap (moved (λ (n : State). run n bytes)) (if_true (is_blank byte) _ _ is)) ∙ r))
    by false is rec = here (byte == 93) refl is

opened_map_runs : (bytes : List ℕ) (frames : List Frame) (room : ℕ) (v : Datum)
    → run (state (wants_name []) frames room) bytes ≡ Some v → run (state opened_map frames room) bytes ≡ Some v
opened_map_runs [] frames room v r = absurd (cc r)
opened_map_runs (byte ∷ bytes) frames room v r = by (is_blank byte) refl (opened_map_runs bytes frames room v)
  where
    here : (b : Bool) → (byte == 125) ≡ b → is_blank byte ≡ false → run (state opened_map frames room) (byte ∷ bytes) ≡ Some v
    here true is other =
        let same : byte ≡ 125 = eqb-true byte 125 is in
        let none : run (state (wants_name []) frames room) (125 ∷ bytes) ≡ Some v = subst (λ (b : ℕ). run (state (wants_name []) frames room) (b ∷ bytes) ≡ Some v) same r in
        absurd (cc none)
    here false is other = ap (moved (λ (n : State). run n bytes)) (if_false (is_blank byte) _ _ other ∙ if_false (byte == 125) _ _ is) ∙ r

    by : (b : Bool) → is_blank byte ≡ b
        → (run (state (wants_name []) frames room) bytes ≡ Some v → run (state opened_map frames room) bytes ≡ Some v)
        → run (state opened_map frames room) (byte ∷ bytes) ≡ Some v
    by true is rec =
        taken (state opened_map frames room) (state opened_map frames room) byte bytes v (if_true (is_blank byte) _ _ is)
        (rec (sym (ap (moved (λ (n : State). run n bytes)) (if_true (is_blank byte) _ _ is)) ∙ r))
    by false is rec = here (byte == 125) refl is

mutual
  complete_value : {room : ℕ} {bytes rest : List ℕ} {x : Datum} → IsValue room bytes x rest → (frames : List Frame) (v : Datum)
      → run (state (has_value x) frames room) rest ≡ Some v → run (state wants_value frames room) bytes ≡ Some v
  complete_value (blank_value {levels} {byte} {front} {rest} {value} e d) frames v r =
      taken (state wants_value frames levels) (state wants_value frames levels) byte front v (if_true (is_blank byte) _ _ e) (complete_value d frames v r)
  complete_value is_null frames v r = r
  complete_value is_true frames v r = r
  complete_value is_false frames v r = r
  complete_value (is_number {levels} {front} {spelled} {rest} d) frames v r = complete_number frames levels v d r
  complete_value (is_text {levels} {front} {rest} {pieces} d) frames v r =
      complete_content d a_value no_content frames levels v
      (subst (λ (l : List ℕ). run (state (has_value (text l)) frames levels) rest ≡ Some v) (sym (text_of_pieces pieces)) r)
  complete_value (is_list d) frames v r = complete_first_item d frames v r
  complete_value (is_map d) frames v r = complete_first_member d frames v r

  complete_first_item : {room : ℕ} {bytes rest : List ℕ} {items : List Datum} → IsFirstItem room bytes items rest → (frames : List Frame) (v : Datum)
      → run (state (has_value (list (items_of items))) frames (suc room)) rest ≡ Some v → run (state opened_list frames room) bytes ≡ Some v
  complete_first_item (blank_item {levels} {byte} {front} {rest} {items} e d) frames v r =
      taken (state opened_list frames levels) (state opened_list frames levels) byte front v (if_true (is_blank byte) _ _ e) (complete_first_item d frames v r)
  complete_first_item no_item frames v r = r
  complete_first_item (first_item {levels} {front} {next} {rest} {value} {items} d n) frames v r =
      opened_list_runs front frames levels v (complete_value d (in_list [] ∷ frames) v (complete_next_item n [] value frames v r))

  complete_next_item : {room : ℕ} {bytes rest : List ℕ} {items : List Datum} → IsNextItem room bytes items rest
      → (done : List Datum) (x : Datum) (frames : List Frame) (v : Datum)
      → run (state (has_value (list (items_of (done ++ x ∷ items)))) frames (suc room)) rest ≡ Some v
      → run (state (has_value x) (in_list done ∷ frames) room) bytes ≡ Some v
  complete_next_item (blank_next {levels} {byte} {front} {rest} {items} e d) done x frames v r =
      taken (state (has_value x) (in_list done ∷ frames) levels) (state (has_value x) (in_list done ∷ frames) levels) byte front v
      (if_true (is_blank byte) _ _ e) (complete_next_item d done x frames v r)
  complete_next_item last_item done x frames v r = r
  complete_next_item (next_item {levels} {front} {next} {rest} {value} {items} d n) done x frames v r =
      complete_value d (in_list (done ++ x ∷ []) ∷ frames) v (complete_next_item n (done ++ x ∷ []) value frames v
      (subst (λ (l : List Datum). run (state (has_value (list (items_of l))) frames (suc levels)) rest ≡ Some v) (sym (append_assoc done (x ∷ []) (value ∷ items))) r))

  complete_first_member : {room : ℕ} {bytes rest : List ℕ} {members : List Member} → IsFirstMember room bytes members rest → (frames : List Frame) (v : Datum)
      → run (state (has_value (fields (members_of (put_all [] members)))) frames (suc room)) rest ≡ Some v → run (state opened_map frames room) bytes ≡ Some v
  complete_first_member (blank_first {levels} {byte} {front} {rest} {members} e d) frames v r =
      taken (state opened_map frames levels) (state opened_map frames levels) byte front v (if_true (is_blank byte) _ _ e) (complete_first_member d frames v r)
  complete_first_member no_member frames v r = r
  complete_first_member (first_member {levels} {front} {next} {rest} {name} {value} {members} d n) frames v r =
      opened_map_runs front frames levels v (complete_member d [] frames v (complete_next_member n [] name value frames v r))

  complete_member : {room : ℕ} {bytes name rest : List ℕ} {x : Datum} → IsMember room bytes name x rest → (members : List Member) (frames : List Frame) (v : Datum)
      → run (state (has_value x) (in_map members name ∷ frames) room) rest ≡ Some v → run (state (wants_name members) frames room) bytes ≡ Some v
  complete_member (blank_name {levels} {byte} {front} {name} {rest} {value} e d) members frames v r =
      taken (state (wants_name members) frames levels) (state (wants_name members) frames levels) byte front v (if_true (is_blank byte) _ _ e) (complete_member d members frames v r)
  complete_member (a_name {levels} {front} {next} {rest} {pieces} {value} c d) members frames v r =
      complete_content c (a_key members) no_content frames levels v
      (subst (λ (l : List ℕ). run (state (has_name members l) frames levels) next ≡ Some v) (sym (text_of_pieces pieces)) (complete_named d members (text_of pieces) frames v r))

  complete_named : {room : ℕ} {bytes rest : List ℕ} {x : Datum} → IsNamed room bytes x rest → (members : List Member) (name : List ℕ) (frames : List Frame) (v : Datum)
      → run (state (has_value x) (in_map members name ∷ frames) room) rest ≡ Some v → run (state (has_name members name) frames room) bytes ≡ Some v
  complete_named (blank_colon {levels} {byte} {front} {rest} {value} e d) members name frames v r =
      taken (state (has_name members name) frames levels) (state (has_name members name) frames levels) byte front v (if_true (is_blank byte) _ _ e) (complete_named d members name frames v r)
  complete_named (a_colon d) members name frames v r = complete_value d (in_map members name ∷ frames) v r

  complete_next_member : {room : ℕ} {bytes rest : List ℕ} {more : List Member} → IsNextMember room bytes more rest
      → (members : List Member) (name : List ℕ) (x : Datum) (frames : List Frame) (v : Datum)
      → run (state (has_value (fields (members_of (put_all (put members name x) more)))) frames (suc room)) rest ≡ Some v
      → run (state (has_value x) (in_map members name ∷ frames) room) bytes ≡ Some v
  complete_next_member (blank_member {levels} {byte} {front} {rest} {members = more} e d) members name x frames v r =
      taken (state (has_value x) (in_map members name ∷ frames) levels) (state (has_value x) (in_map members name ∷ frames) levels) byte front v
      (if_true (is_blank byte) _ _ e) (complete_next_member d members name x frames v r)
  complete_next_member last_member members name x frames v r = r
  complete_next_member (next_member {levels} {front} {next} {rest} {name = other} {value} {members = more} d n) members name x frames v r =
      complete_member d (put members name x) frames v (complete_next_member n (put members name x) other value frames v r)

blanks_run : (rest : List ℕ) (room : ℕ) (v : Datum) → list_all is_blank rest ≡ true → run (state (has_value v) [] room) rest ≡ Some v
blanks_run [] room v e = refl
blanks_run (byte ∷ rest) room v e = by (is_blank byte) refl e (blanks_run rest room v)
  where
    by : (b : Bool) → is_blank byte ≡ b → (b && list_all is_blank rest) ≡ true → (list_all is_blank rest ≡ true → run (state (has_value v) [] room) rest ≡ Some v)
        → run (state (has_value v) [] room) (byte ∷ rest) ≡ Some v
    by true is e rec = taken (state (has_value v) [] room) (state (has_value v) [] room) byte rest v (if_true (is_blank byte) _ _ is) (rec e)
    by false is e rec = absurd (cc e)

pub complete_text : (levels : ℕ) (bytes : List ℕ) (v : Datum) → IsText levels bytes v → run (start levels) bytes ≡ Some v
complete_text levels bytes v is = complete_value is.spells [] v (blanks_run is.rest levels v is.blanks)
