-- What the reader reads is spelled by the grammar.
use Rattle.std.proofs.Common.{◌≡◌, ℕ, zero, suc, ◌+◌, List, [], ◌∷◌, ◌++◌, ◌∙◌, ap, sym, refl, subst, Option, None, Some, Bool, true, false, ◌&&◌, cond, codes, ◌*◌, append_assoc}
use Rattle.std.proofs.Common.{eqb-true}
use Rattle.std.proofs.lemmas.List.{append-nil}
use Rattle.std.specs.Bool.{◌==◌}
use Rattle.std.specs.List.{list_all}
use Rattle.entry_model.specs.Datum.{Datum, null, boolean, text, list, fields, items_of, members_of, no_items, no_members}
use Rattle.json_text.specs.declared.content.Piece.TheVariants as piece
use Rattle.json_text.specs.declared.number.Part.{Part}
use Rattle.json_text.specs.declared.number.Part.TheVariants as part
use Rattle.json_text.specs.Bytes.{is_blank, is_digit, is_digit_from_one, is_power_mark, is_sign, is_plain, escaped, hex_value}
use Rattle.json_text.specs.Grammar.{no_digits, a_digit, a_quote, a_plain, an_escape, a_unit, Member, put_all, IsValue, blank_value, is_null, is_true, is_false, is_number, is_text, is_list, is_map, blank_item, no_item, first_item, blank_next, last_item, next_item, blank_first, no_member, first_member, blank_name, a_name, blank_colon, a_colon, blank_member, last_member, next_member, IsText}
use Rattle.json_text.specs.Machine.{Content, no_content, with_piece, text_so_far, Role, a_value, a_key, Phase, wants_value, opened_list, opened_map, has_value, wants_name, has_name, in_word, in_number, in_text, in_escape, in_unit, Frame, in_list, in_map, State, state, Move, goes, stops, sinks, put, opens, next_part, can_end, number_step, value_step, list_step, name_step, map_step, colon_step, after_step, word_step, digits_step, text_read, text_step, meant_step, escape_step, hex_step, step_from, step, value_in, start}
use Rattle.json_text.specs.Pieces.{text_of}
use Rattle.json_text.specs.Numbers.{power_digit, power_ends, power_value, power_sign, no_power_sign, exponent, no_exponent, fraction_digit, fraction_ends, fraction_value, point, no_fraction, whole_digit, whole_ends, from_zero, from_one, minus, unsigned, number_of}
use Rattle.json_text.proofs.Running.{run, moved}
use Rattle.json_text.proofs.Completions.{After, FromPart, AfterText, Completes}
use Rattle.json_text.proofs.Spelled.{text_of_pieces}

-- what completes the state that a move leads to completes the one before it
record Back (Target : Type 0) (bytes : List ℕ) (v : Datum) (m : Move) : Type 0 where
  back : (n : State) → m ≡ goes n → Completes n.phase n.frames n.room bytes v → Target

module _ (bytes : List ℕ) (v : Datum) where
  none_back : {Target : Type 0} → Back Target bytes v stops
  none_back = record { back = λ n e c. absurd (cc e) }

  sinks_back : {Target : Type 0} → Back Target bytes v sinks
  sinks_back = record { back = λ n e c. absurd (cc e) }

  some_back : {Target : Type 0} (phase : Phase) (frames : List Frame) (room : ℕ) → (Completes phase frames room bytes v → Target) → Back Target bytes v (goes (state phase frames room))
  some_back phase frames room f = record {
    back = λ n e c.
        let same : n ≡ state phase frames room = cc e in
        f (subst (λ (s : State). Completes s.phase s.frames s.room bytes v) same c);
  }

  if_back : {Target : Type 0} (b : Bool) (m n : Move) → (b ≡ true → Back Target bytes v m) → (b ≡ false → Back Target bytes v n) → Back Target bytes v (cond b m n)
  if_back true m n f g = f refl
  if_back false m n f g = g refl

  on_back : (Target : ℕ → Type 0) (byte k : ℕ) (m n : Move) → Back (Target k) bytes v m → Back (Target byte) bytes v n → Back (Target byte) bytes v (cond (byte == k) m n)
  on_back Target byte k m n f g = if_back (byte == k) m n (λ e. subst (λ (b : ℕ). Back (Target b) bytes v m) (sym (eqb-true byte k e)) f) (λ _. g)

  then_back : {Target Other : Type 0} (m : Move) → (Target → Other) → Back Target bytes v m → Back Other bytes v m
  then_back m f b = record { back = λ n e c. f (b.back n e c) }

  -- ---- numbers

  ends_here : (p : Part) (rest : List ℕ) → can_end p ≡ true → FromPart p rest [] rest
  ends_here part.Start rest e = absurd (cc e)
  ends_here part.Minus rest e = absurd (cc e)
  ends_here part.Zero rest e = no_fraction no_exponent
  ends_here part.Whole rest e = whole_ends (no_fraction no_exponent)
  ends_here part.Point rest e = absurd (cc e)
  ends_here part.Fraction rest e = fraction_ends no_exponent
  ends_here part.Power rest e = absurd (cc e)
  ends_here part.Sign rest e = absurd (cc e)
  ends_here part.Exponent rest e = power_ends

  -- what a part leads to, part by part
  record PartBack (Target : List ℕ → List ℕ → Type 0) (o : Option Part) : Type 0 where
    part_back : (p : Part) → o ≡ Some p → (more rest : List ℕ) → FromPart p bytes more rest → Target more rest

  no_part : {Target : List ℕ → List ℕ → Type 0} → PartBack Target None
  no_part = record { part_back = λ p e more rest f. absurd (cc e) }

  a_part : {Target : List ℕ → List ℕ → Type 0} (p : Part) → ((more rest : List ℕ) → FromPart p bytes more rest → Target more rest) → PartBack Target (Some p)
  a_part p f = record {
    part_back = λ q e more rest from.
        let same : q ≡ p = cc e in f more rest (subst (λ (r : Part). FromPart r bytes more rest) same from);
  }

  if_part : {Target : List ℕ → List ℕ → Type 0} (b : Bool) (o other : Option Part) → (b ≡ true → PartBack Target o) → PartBack Target other → PartBack Target (cond b o other)
  if_part true o other f g = f refl
  if_part false o other f g = g

  on_part : (Target : ℕ → List ℕ → List ℕ → Type 0) (byte k : ℕ) (o other : Option Part) → PartBack (Target k) o → PartBack (Target byte) other → PartBack (Target byte) (cond (byte == k) o other)
  on_part Target byte k o other f g = if_part (byte == k) o other (λ e. subst (λ (b : ℕ). PartBack (Target b) o) (sym (eqb-true byte k e)) f) g

  abbrev From : Part → ℕ → List ℕ → List ℕ → Type 0
  From p byte more rest = FromPart p (byte ∷ bytes) (byte ∷ more) rest

  part_step : (p : Part) (byte : ℕ) → PartBack (From p byte) (next_part p byte)
  part_step part.Start byte =
      on_part (From part.Start) byte 45 _ _ (a_part part.Minus (λ more rest f. minus f))
      (on_part (From part.Start) byte 48 _ _ (a_part part.Zero (λ more rest f. unsigned (from_zero f)))
      (if_part (is_digit_from_one byte) _ _ (λ e. a_part part.Whole (λ more rest f. unsigned (from_one e f))) no_part))
  part_step part.Minus byte =
      on_part (From part.Minus) byte 48 _ _ (a_part part.Zero (λ more rest f. from_zero f))
      (if_part (is_digit_from_one byte) _ _ (λ e. a_part part.Whole (λ more rest f. from_one e f)) no_part)
  part_step part.Zero byte =
      on_part (From part.Zero) byte 46 _ _ (a_part part.Point (λ more rest f. point f))
      (if_part (is_power_mark byte) _ _ (λ e. a_part part.Power (λ more rest f. no_fraction (exponent e f))) no_part)
  part_step part.Whole byte =
      if_part (is_digit byte) _ _ (λ e. a_part part.Whole (λ more rest f. whole_digit e f))
      (on_part (From part.Whole) byte 46 _ _ (a_part part.Point (λ more rest f. whole_ends (point f)))
      (if_part (is_power_mark byte) _ _ (λ e. a_part part.Power (λ more rest f. whole_ends (no_fraction (exponent e f)))) no_part))
  part_step part.Point byte = if_part (is_digit byte) _ _ (λ e. a_part part.Fraction (λ more rest f. fraction_value e f)) no_part
  part_step part.Fraction byte =
      if_part (is_digit byte) _ _ (λ e. a_part part.Fraction (λ more rest f. fraction_digit e f))
      (if_part (is_power_mark byte) _ _ (λ e. a_part part.Power (λ more rest f. fraction_ends (exponent e f))) no_part)
  part_step part.Power byte =
      if_part (is_sign byte) _ _ (λ e. a_part part.Sign (λ more rest f. power_sign e f))
      (if_part (is_digit byte) _ _ (λ e. a_part part.Exponent (λ more rest f. no_power_sign (power_value e f))) no_part)
  part_step part.Sign byte = if_part (is_digit byte) _ _ (λ e. a_part part.Exponent (λ more rest f. power_value e f)) no_part
  part_step part.Exponent byte = if_part (is_digit byte) _ _ (λ e. a_part part.Exponent (λ more rest f. power_digit e f)) no_part

  number_back : (p : Part) (byte : ℕ) (spelled : List ℕ) (o : Option Part) (m : Move) (frames : List Frame) (room : ℕ) → next_part p byte ≡ o
      → Back (Completes (in_number p spelled) frames room (byte ∷ bytes) v) bytes v m
      → Back (Completes (in_number p spelled) frames room (byte ∷ bytes) v) bytes v (number_step o (spelled ++ byte ∷ []) m frames room)
  number_back p byte spelled None m frames room e b = b
  number_back p byte spelled (Some next) m frames room e b =
      some_back (in_number next (spelled ++ byte ∷ [])) frames room (λ h. (
        byte ∷ h.0,
        h.1,
        (part_step p byte).part_back next e h.0 h.1 h.2,
        subst (λ (l : List ℕ). After frames room (number_of l) h.1 v) (append_assoc spelled (byte ∷ []) h.0) h.3,
      ))

  -- ---- values

  list_opened : (frames : List Frame) (room : ℕ) → Back (Completes wants_value frames room (91 ∷ bytes) v) bytes v (opens opened_list frames room)
  list_opened frames zero = sinks_back
  list_opened frames (suc room) = some_back opened_list frames room (λ h. (list (items_of h.0), h.1, is_list h.2, h.3))

  map_opened : (frames : List Frame) (room : ℕ) → Back (Completes wants_value frames room (123 ∷ bytes) v) bytes v (opens opened_map frames room)
  map_opened frames zero = sinks_back
  map_opened frames (suc room) = some_back opened_map frames room (λ h. (fields (members_of (put_all [] h.0)), h.1, is_map h.2, h.3))

  word_back : (frames : List Frame) (room next byte : ℕ) (word : List ℕ) (x : Datum)
      → ((rest : List ℕ) → IsValue room (byte ∷ next ∷ (word ++ rest)) x rest)
      → Back (Completes wants_value frames room (byte ∷ bytes) v) bytes v (goes (state (in_word next word x) frames room))
  word_back frames room next byte word x f = some_back (in_word next word x) frames room (λ h. (
    x,
    h.0,
    subst (λ (l : List ℕ). IsValue room (byte ∷ l) x h.0) (sym h.1) (f h.0),
    h.2,
  ))

  value_back : (frames : List Frame) (room byte : ℕ) → Back (Completes wants_value frames room (byte ∷ bytes) v) bytes v (value_step frames room byte)
  value_back frames room byte =
      if_back (is_blank byte) _ _ (λ e. some_back wants_value frames room (λ h. (h.0, h.1, blank_value e h.2, h.3)))
      (λ _. on_back T byte 34 _ _ (some_back (in_text a_value no_content) frames room (λ h. (
        text (text_of h.0),
        h.1,
        is_text h.2,
        subst (λ (l : List ℕ). After frames room (text l) h.1 v) (text_of_pieces h.0) h.3,
      )))
      (on_back T byte 91 _ _ (list_opened frames room)
      (on_back T byte 123 _ _ (map_opened frames room)
      (on_back T byte 110 _ _ (word_back frames room 117 110 (codes "ll") null (λ rest. is_null))
      (on_back T byte 116 _ _ (word_back frames room 114 116 (codes "ue") (boolean true) (λ rest. is_true))
      (on_back T byte 102 _ _ (word_back frames room 97 102 (codes "lse") (boolean false) (λ rest. is_false))
      (then_back (value_number) (λ h. (number_of h.0, h.1, is_number h.2, h.3))
      (number_back part.Start byte [] (next_part part.Start byte) stops frames room refl none_back))))))))
    where
      T : ℕ → Type 0
      T b = Completes wants_value frames room (b ∷ bytes) v

      value_number : Move
      value_number = number_step (next_part part.Start byte) (byte ∷ []) stops frames room

  list_back : (frames : List Frame) (room byte : ℕ) → Back (Completes opened_list frames room (byte ∷ bytes) v) bytes v (list_step frames room byte)
  list_back frames room byte =
      if_back (is_blank byte) _ _ (λ e. some_back opened_list frames room (λ h. (h.0, h.1, blank_item e h.2, h.3)))
      (λ _. on_back (λ (b : ℕ). Completes opened_list frames room (b ∷ bytes) v) byte 93 _ _
      (some_back (has_value (list no_items)) frames (suc room) (λ h. ([], bytes, no_item, h)))
      (then_back (value_step (in_list [] ∷ frames) room byte) (λ h. (h.0 ∷ h.3.0, h.3.1, first_item h.2 h.3.2, h.3.3))
      (value_back (in_list [] ∷ frames) room byte)))

  name_back : (members : List Member) (frames : List Frame) (room byte : ℕ) → Back (Completes (wants_name members) frames room (byte ∷ bytes) v) bytes v (name_step members frames room byte)
  name_back members frames room byte =
      if_back (is_blank byte) _ _ (λ e. some_back (wants_name members) frames room (λ h. (h.0, h.1, h.2, h.3, h.4, blank_name e h.5, h.6, h.7)))
      (λ _. on_back (λ (b : ℕ). Completes (wants_name members) frames room (b ∷ bytes) v) byte 34 _ _
      (some_back (in_text (a_key members) no_content) frames room (λ h. (
        text_of h.0,
        h.3.0,
        h.3.1,
        h.3.2,
        h.3.3,
        a_name h.2 h.3.4,
        h.3.5,
        subst (λ (l : List ℕ). After frames (suc room) (fields (members_of (put_all (put members l h.3.0) h.3.2))) h.3.3 v) (text_of_pieces h.0) h.3.6,
      ))) none_back)

  map_back : (frames : List Frame) (room byte : ℕ) → Back (Completes opened_map frames room (byte ∷ bytes) v) bytes v (map_step frames room byte)
  map_back frames room byte =
      if_back (is_blank byte) _ _ (λ e. some_back opened_map frames room (λ h. (h.0, h.1, blank_first e h.2, h.3)))
      (λ _. on_back (λ (b : ℕ). Completes opened_map frames room (b ∷ bytes) v) byte 125 _ _
      (some_back (has_value (fields no_members)) frames (suc room) (λ h. ([], bytes, no_member, h)))
      (then_back (name_step [] frames room byte) (λ h. ((h.0, h.1) ∷ h.3, h.4, first_member h.5 h.6, h.7)) (name_back [] frames room byte)))

  colon_back : (members : List Member) (name : List ℕ) (frames : List Frame) (room byte : ℕ)
      → Back (Completes (has_name members name) frames room (byte ∷ bytes) v) bytes v (colon_step members name frames room byte)
  colon_back members name frames room byte =
      if_back (is_blank byte) _ _ (λ e. some_back (has_name members name) frames room (λ h. (h.0, h.1, h.2, h.3, blank_colon e h.4, h.5, h.6)))
      (λ _. on_back (λ (b : ℕ). Completes (has_name members name) frames room (b ∷ bytes) v) byte 58 _ _
      (some_back wants_value (in_map members name ∷ frames) room (λ h. (h.0, h.1, h.3.0, h.3.1, a_colon h.2, h.3.2, h.3.3))) none_back)

  after_back : (x : Datum) (frames : List Frame) (room byte : ℕ) → Back (Completes (has_value x) frames room (byte ∷ bytes) v) bytes v (after_step x frames room byte)
  after_back x [] room byte =
      if_back (is_blank byte) _ _ (λ e. some_back (has_value x) [] room (λ h. (h.0, ap (λ (b : Bool). b && list_all is_blank bytes) e ∙ h.1))) (λ _. none_back)
  after_back x (in_list items ∷ frames) room byte =
      if_back (is_blank byte) _ _ (λ e. some_back (has_value x) (in_list items ∷ frames) room (λ h. (h.0, h.1, blank_next e h.2, h.3)))
      (λ _. on_back T byte 44 _ _ (some_back wants_value (in_list (items ++ x ∷ []) ∷ frames) room (λ h. (
        h.0 ∷ h.3.0,
        h.3.1,
        next_item h.2 h.3.2,
        subst (λ (l : List Datum). After frames (suc room) (list (items_of l)) h.3.1 v) (append_assoc items (x ∷ []) (h.0 ∷ h.3.0)) h.3.3,
      )))
      (on_back T byte 93 _ _ (some_back (has_value (list (items_of (items ++ x ∷ [])))) frames (suc room) (λ h. ([], bytes, last_item, h))) none_back))
    where
      T : ℕ → Type 0
      T b = Completes (has_value x) (in_list items ∷ frames) room (b ∷ bytes) v
  after_back x (in_map members name ∷ frames) room byte =
      if_back (is_blank byte) _ _ (λ e. some_back (has_value x) (in_map members name ∷ frames) room (λ h. (h.0, h.1, blank_member e h.2, h.3)))
      (λ _. on_back T byte 44 _ _ (some_back (wants_name (put members name x)) frames room (λ h. ((h.0, h.1) ∷ h.3, h.4, next_member h.5 h.6, h.7)))
      (on_back T byte 125 _ _ (some_back (has_value (fields (members_of (put members name x)))) frames (suc room) (λ h. ([], bytes, last_member, h))) none_back))
    where
      T : ℕ → Type 0
      T b = Completes (has_value x) (in_map members name ∷ frames) room (b ∷ bytes) v

  in_word_back : (next : ℕ) (word : List ℕ) (x : Datum) (frames : List Frame) (room byte : ℕ)
      → Back (Completes (in_word next word x) frames room (byte ∷ bytes) v) bytes v (word_step next word x frames room byte)
  in_word_back next [] x frames room byte =
      on_back (λ (b : ℕ). Completes (in_word next [] x) frames room (b ∷ bytes) v) byte next _ _
      (some_back (has_value x) frames room (λ h. (bytes, refl, h))) none_back
  in_word_back next (first ∷ word) x frames room byte =
      on_back (λ (b : ℕ). Completes (in_word next (first ∷ word) x) frames room (b ∷ bytes) v) byte next _ _
      (some_back (in_word first word x) frames room (λ h. (h.0, ap (λ (l : List ℕ). next ∷ l) h.1, h.2))) none_back

  digits_back : (p : Part) (spelled : List ℕ) (frames : List Frame) (room byte : ℕ)
      → Back (Completes (in_number p spelled) frames room (byte ∷ bytes) v) bytes v (digits_step p spelled frames room byte)
  digits_back p spelled frames room byte =
      number_back p byte spelled (next_part p byte) _ frames room refl
      (if_back (can_end p) _ _ (λ e. then_back (after_step (number_of spelled) frames room byte) (λ h. (
        [],
        byte ∷ bytes,
        ends_here p (byte ∷ bytes) e,
        subst (λ (l : List ℕ). After frames room (number_of l) (byte ∷ bytes) v) (sym (append-nil spelled)) h,
      )) (after_back (number_of spelled) frames room byte)) (λ _. none_back))

  -- ---- strings

  text_read_back : (role : Role) (bytes' rest : List ℕ) (frames : List Frame) (room : ℕ) → Completes (text_read role bytes') frames room rest v → AfterText role bytes' frames room rest v
  text_read_back a_value bytes' rest frames room h = h
  text_read_back (a_key members) bytes' rest frames room h = h

  text_back : (role : Role) (content : Content) (frames : List Frame) (room byte : ℕ)
      → Back (Completes (in_text role content) frames room (byte ∷ bytes) v) bytes v (text_step role content frames room byte)
  text_back role content frames room byte =
      if_back (is_plain byte) _ _ (λ e. some_back (in_text role (with_piece content (piece.Byte byte))) frames room (λ h. (piece.Byte byte ∷ h.0, h.1, a_plain e h.2, h.3)))
      (λ _. on_back T byte 34 _ _ (some_back (text_read role (text_so_far content)) frames room (λ h. ([], bytes, a_quote, text_read_back role (text_so_far content) bytes frames room h)))
      (on_back T byte 92 _ _ (some_back (in_escape role content) frames room (λ h. h)) none_back))
    where
      T : ℕ → Type 0
      T b = Completes (in_text role content) frames room (b ∷ bytes) v

  meant_back : (role : Role) (content : Content) (frames : List Frame) (room byte : ℕ) (o : Option ℕ) → escaped byte ≡ o
      → Back (Completes (in_escape role content) frames room (byte ∷ bytes) v) bytes v (meant_step role content frames room o)
  meant_back role content frames room byte None e = none_back
  meant_back role content frames room byte (Some meant) e =
      some_back (in_text role (with_piece content (piece.Byte meant))) frames room (λ h. (piece.Byte meant ∷ h.0, h.1, an_escape e h.2, h.3))

  escape_back : (role : Role) (content : Content) (frames : List Frame) (room byte : ℕ)
      → Back (Completes (in_escape role content) frames room (byte ∷ bytes) v) bytes v (escape_step role content frames room byte)
  escape_back role content frames room byte =
      on_back (λ (b : ℕ). Completes (in_escape role content) frames room (b ∷ bytes) v) byte 117 _ _
      (some_back (in_unit role content 3 0) frames room (λ h. (piece.Unit h.0 ∷ h.2, h.3, a_unit h.4 h.5, h.6)))
      (meant_back role content frames room byte (escaped byte) refl)

  unit_back : (role : Role) (content : Content) (left so_far : ℕ) (frames : List Frame) (room byte : ℕ) (o : Option ℕ) → hex_value byte ≡ o
      → Back (Completes (in_unit role content left so_far) frames room (byte ∷ bytes) v) bytes v (hex_step role content left so_far frames room o)
  unit_back role content left so_far frames room byte None e = none_back
  unit_back role content zero so_far frames room byte (Some one) e =
      some_back (in_text role (with_piece content (piece.Unit (so_far * 16 + one)))) frames room (λ h. (so_far * 16 + one, bytes, h.0, h.1, a_digit e no_digits, h.2, h.3))
  unit_back role content (suc left) so_far frames room byte (Some one) e =
      some_back (in_unit role content left (so_far * 16 + one)) frames room (λ h. (h.0, h.1, h.2, h.3, a_digit e h.4, h.5, h.6))

  step_back : (phase : Phase) (frames : List Frame) (room byte : ℕ) → Back (Completes phase frames room (byte ∷ bytes) v) bytes v (step_from phase frames room byte)
  step_back wants_value frames room byte = value_back frames room byte
  step_back opened_list frames room byte = list_back frames room byte
  step_back opened_map frames room byte = map_back frames room byte
  step_back (has_value x) frames room byte = after_back x frames room byte
  step_back (wants_name members) frames room byte = name_back members frames room byte
  step_back (has_name members name) frames room byte = colon_back members name frames room byte
  step_back (in_word next word x) frames room byte = in_word_back next word x frames room byte
  step_back (in_number p spelled) frames room byte = digits_back p spelled frames room byte
  step_back (in_text role content) frames room byte = text_back role content frames room byte
  step_back (in_escape role content) frames room byte = escape_back role content frames room byte
  step_back (in_unit role content left so_far) frames room byte = unit_back role content left so_far frames room byte (hex_value byte) refl

-- ---- whole texts

number_ends : (p : Part) (spelled : List ℕ) (room : ℕ) (v : Datum) (b : Bool) → can_end p ≡ b → cond b (Some (number_of spelled)) None ≡ Some v
    → Completes (in_number p spelled) [] room [] v
number_ends p spelled room v true c e =
    let same : number_of spelled ≡ v = cc e in
    ([], [], ends_here [] v p [] c, (ap number_of (append-nil spelled) ∙ same, refl))
number_ends p spelled room v false c e = absurd (cc e)

ends : (phase : Phase) (frames : List Frame) (room : ℕ) (v : Datum) → value_in phase frames ≡ Some v → Completes phase frames room [] v
ends wants_value frames room v e = absurd (cc e)
ends opened_list frames room v e = absurd (cc e)
ends opened_map frames room v e = absurd (cc e)
ends (has_value x) [] room v e = let same : x ≡ v = cc e in (same, refl)
ends (has_value x) (frame ∷ frames) room v e = absurd (cc e)
ends (wants_name members) frames room v e = absurd (cc e)
ends (has_name members name) frames room v e = absurd (cc e)
ends (in_word next word x) frames room v e = absurd (cc e)
ends (in_number p spelled) [] room v e = number_ends p spelled room v (can_end p) refl e
ends (in_number p spelled) (frame ∷ frames) room v e = absurd (cc e)
ends (in_text role content) frames room v e = absurd (cc e)
ends (in_escape role content) frames room v e = absurd (cc e)
ends (in_unit role content left so_far) frames room v e = absurd (cc e)

pub sound : (bytes : List ℕ) (s : State) (v : Datum) → run s bytes ≡ Some v → Completes s.phase s.frames s.room bytes v
sound [] s v e = ends s.phase s.frames s.room v e
sound (byte ∷ bytes) s v e = by (step s byte) refl (λ t. sound bytes t v) e
  where
    by : (m : Move) → step s byte ≡ m → ((t : State) → run t bytes ≡ Some v → Completes t.phase t.frames t.room bytes v)
        → moved (λ next. run next bytes) m ≡ Some v → Completes s.phase s.frames s.room (byte ∷ bytes) v
    by (goes t) is rec e = (step_back bytes v s.phase s.frames s.room byte).back t is (rec t e)
    by stops is rec e = absurd (cc e)
    by sinks is rec e = absurd (cc e)

pub sound_text : (levels : ℕ) (bytes : List ℕ) (v : Datum) → run (start levels) bytes ≡ Some v → IsText levels bytes v
sound_text levels bytes v e =
    let h = sound bytes (start levels) v e in
    record { rest = h.1; spells = subst (λ (x : Datum). IsValue levels bytes x h.1) h.3.0 h.2; blanks = h.3.1 }
