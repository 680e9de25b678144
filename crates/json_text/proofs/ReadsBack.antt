-- What is printed of a value spells it.
use Rattle.std.proofs.Common.{◌≡◌, ℕ, ℤ, pos, negsuc, zero, suc, ◌+◌, ◌*◌, ◌/◌, ◌%◌, ◌^◌, ◌<◌, ◌≤◌, List, [], ◌∷◌, ◌++◌, ◌∙◌, ap, sym, refl, subst, Option, None, Some, Bool, true, false, ◌&&◌, ◌==◌, cond, length, get_or, drop, nat_lt, arith, lt-ltb, ltb-true, eqb-true, ne_eqb, decimal, append_assoc, not, ◌||◌, nat_le, encode_utf8, neg_ℤ}
use Rattle.std.proofs.lemmas.Bool.Decides.{nat_tests}
use Rattle.std.proofs.lemmas.Fmt.{decimal_is_IsNumeral, first_decimal, digits_decimal, decimal_digit, decimal_nonempty}
use Rattle.std.proofs.lemmas.Str.{encode_ascii}
use Rattle.std.specs.Char.Utf16.{is_high_surrogate, is_low_surrogate}
use Rattle.std.specs.Option.{unwrap_or}
use mir.Syntax.{w64}
use mir.Val.{SFits}
use Rattle.json_text.proofs.Steps.{fits_fact, number_is_int}
use Rattle.std.proofs.lemmas.List.{append-nil}
use Rattle.std.proofs.lemmas.Map.Keys.{sorted_head, sorted_tail}
use Rattle.std.proofs.lemmas.Str.Parse.{IsNumeralModel, numerals_by_value, tells_all_ascii_digits, without_leading_plus_none}
use Rattle.std.specs.BTreeMap.{insert_entry}
use Rattle.std.specs.Char.{digit_char, digit_value}
use Rattle.std.specs.Cmp.Lexicographic.{slice_cmp, nat_list_cmp_total}
use Rattle.std.specs.Fmt.{signed_decimal}
use Rattle.std.specs.List.{AllByRecursion}
use Rattle.std.specs.List.Sorted.{IsStrictlySortedBy}
use Rattle.std.specs.Ordering.{match_ordering, nat_cmp, ordering_reverse}
use Rattle.std.specs.declared.cmp.Ordering.{Ordering}
use Rattle.std.specs.declared.cmp.Ordering.TheVariants.{Less, Greater}
use Rattle.std.specs.Str.{all_ascii_digits}
use Rattle.std.specs.Str.Parse.{digits_value, IsNumeral, without_leading_plus, without_leading_sign, signed_digits_value}
use Rattle.entry_model.specs.Datum.{Datum, null, boolean, int, text, list, fields, Items, no_items, item, Members, no_members, member, items_of, members_of}
use Rattle.json_text.specs.declared.content.Piece.{Piece}
use Rattle.json_text.specs.declared.content.Piece.TheVariants as piece
use Rattle.json_text.specs.Bytes.{is_digit, is_digit_from_one, is_plain, escaped, hex_value}
use Rattle.json_text.specs.Grammar.{no_digits, a_digit, IsContent, a_quote, a_plain, an_escape, a_unit, Member, put_all, IsValue, is_null, is_true, is_false, is_number, is_text, is_list, is_map, no_item, first_item, IsNextItem, last_item, next_item, no_member, first_member, IsMember, a_name, a_colon, IsNextMember, last_member, next_member, IsText}
use Rattle.json_text.specs.Numbers.{no_exponent, no_fraction, IsWholeDigits, whole_digit, whole_ends, IsUnsigned, from_zero, from_one, IsNumber, minus, unsigned, fits_64_bits, number_of}
use Rattle.json_text.specs.Pieces.{text_of, lone_unit}
use Rattle.json_text.specs.Printed.{printed_byte, printed_string, printed, printed_items, printed_members, names_of, IsPlain, ArePlainItems, ArePlainMembers}
use Rattle.json_text.proofs.Complete.{if_true, if_false}

-- ---- strings

-- a byte of a string spells itself in front of what the rest spells
record Spells (bytes : List ℕ) (front rest : List ℕ) : Type 0 where
  pieces : List Piece
  content : IsContent front pieces rest
  are : text_of pieces ≡ bytes

module _ (byte : ℕ) (bytes tail rest : List ℕ) (more : Spells bytes tail rest) where
  escaped_spells : (letter meant : ℕ) → escaped letter ≡ Some meant → byte ≡ meant → Spells (byte ∷ bytes) (92 ∷ letter ∷ tail) rest
  escaped_spells letter meant e same = record {
    pieces = piece.Byte meant ∷ more.pieces;
    content = an_escape e more.content;
    are = ap (λ (b : ℕ). b ∷ text_of more.pieces) (sym same) ∙ ap (λ (l : List ℕ). byte ∷ l) more.are;
  }

  plain_spells : is_plain byte ≡ true → Spells (byte ∷ bytes) (byte ∷ tail) rest
  plain_spells e = record { pieces = piece.Byte byte ∷ more.pieces; content = a_plain e more.content; are = ap (λ (l : List ℕ). byte ∷ l) more.are }

  on_byte : (k : ℕ) (m n : List ℕ) → (byte ≡ k → Spells (byte ∷ bytes) m rest) → ((byte == k) ≡ false → Spells (byte ∷ bytes) n rest) → Spells (byte ∷ bytes) (cond (byte == k) m n) rest
  on_byte k m n f g = by (byte == k) refl
    where
      by : (b : Bool) → (byte == k) ≡ b → Spells (byte ∷ bytes) (cond b m n) rest
      by true is = f (eqb-true byte k is)
      by false is = g is

small_alone : (unit : ℕ) → unit < 32 → lone_unit unit ≡ unit ∷ []
unfolding lone_unit
small_alone unit l =
    let low : (nat_le 55296 unit && nat_lt unit 57344) ≡ false = grind (arith, nat_tests) in
    ap (λ (o : Option ℕ). encode_utf8 (unwrap_or o 65533)) (if_false (nat_le 55296 unit && nat_lt unit 57344) None (Some unit) low) ∙ encode_ascii unit (omega arith)

small_front : (unit : ℕ) → unit < 32 → (pieces : List Piece) → text_of (piece.Unit unit ∷ pieces) ≡ unit ∷ text_of pieces
small_front unit l [] = small_alone unit l
small_front unit l (piece.Byte byte ∷ pieces) = ap (λ (front : List ℕ). front ++ byte ∷ text_of pieces) (small_alone unit l)
small_front unit l (piece.Unit next ∷ pieces) =
    let none : (is_high_surrogate unit && is_low_surrogate next) ≡ false = grind (arith, nat_tests) in
    if_false (is_high_surrogate unit && is_low_surrogate next) _ _ none ∙ ap (λ (front : List ℕ). front ++ text_of (piece.Unit next ∷ pieces)) (small_alone unit l)

hex_of_char : (d : ℕ) → d < 16 → hex_value (digit_char d) ≡ Some d
unfolding hex_value
hex_of_char d l = by (nat_lt d 10) refl
  where
    value : (c : ℕ) → digit_value c ≡ d → cond (nat_lt (digit_value c) 16) (Some (digit_value c)) None ≡ Some d
    value c e = if_true (nat_lt (digit_value c) 16) _ _ (lt-ltb (digit_value c) 16 (let k : digit_value c < 16 = omega arith in k)) ∙ ap (λ (n : ℕ). Some n) e

    by : (b : Bool) → nat_lt d 10 ≡ b → cond (nat_lt (digit_value (cond b (48 + d) (87 + d))) 16) (Some (digit_value (cond b (48 + d) (87 + d)))) None ≡ Some d
    by true e = value (48 + d) (grind (arith, nat_tests))
    by false e = value (87 + d) (grind (arith, nat_tests))

control_spells : (byte : ℕ) (bytes tail rest : List ℕ) → Spells bytes tail rest → byte < 32
    → Spells (byte ∷ bytes) (92 ∷ 117 ∷ 48 ∷ 48 ∷ digit_char (byte / 16) ∷ digit_char (byte % 16) ∷ tail) rest
control_spells byte bytes tail rest more l =
    let x : byte / 16 < 16 = omega arith in
    let y : byte % 16 < 16 = omega arith in
    let whole : (0 * 16 + byte / 16) * 16 + byte % 16 ≡ byte = omega arith in
    record {
      pieces = piece.Unit byte ∷ more.pieces;
      content = subst (λ (unit : ℕ). IsContent (92 ∷ 117 ∷ 48 ∷ 48 ∷ digit_char (byte / 16) ∷ digit_char (byte % 16) ∷ tail) (piece.Unit unit ∷ more.pieces) rest) whole
          (a_unit (a_digit (hex_of_char 0 (omega arith)) (a_digit (hex_of_char 0 (omega arith)) (a_digit (hex_of_char (byte / 16) x) (a_digit (hex_of_char (byte % 16) y) no_digits)))) more.content);
      are = small_front byte l more.pieces ∙ ap (λ (t : List ℕ). byte ∷ t) more.are;
    }

byte_spells : (byte : ℕ) (bytes tail rest : List ℕ) → Spells bytes tail rest → Spells (byte ∷ bytes) (printed_byte byte tail) rest
unfolding printed_byte is_plain escaped
byte_spells byte bytes tail rest more =
    on_byte byte bytes tail rest more 34 _ _ (λ e. escaped_spells byte bytes tail rest more 34 34 refl e)
    (λ n34. on_byte byte bytes tail rest more 92 _ _ (λ e. escaped_spells byte bytes tail rest more 92 92 refl e)
    (λ n92. on_byte byte bytes tail rest more 8 _ _ (λ e. escaped_spells byte bytes tail rest more 98 8 refl e)
    (λ _. on_byte byte bytes tail rest more 12 _ _ (λ e. escaped_spells byte bytes tail rest more 102 12 refl e)
    (λ _. on_byte byte bytes tail rest more 10 _ _ (λ e. escaped_spells byte bytes tail rest more 110 10 refl e)
    (λ _. on_byte byte bytes tail rest more 13 _ _ (λ e. escaped_spells byte bytes tail rest more 114 13 refl e)
    (λ _. on_byte byte bytes tail rest more 9 _ _ (λ e. escaped_spells byte bytes tail rest more 116 9 refl e)
    (λ _. last n34 n92)))))))
  where
    last : (byte == 34) ≡ false → (byte == 92) ≡ false
        → Spells (byte ∷ bytes) (cond (nat_lt byte 32) (92 ∷ 117 ∷ 48 ∷ 48 ∷ digit_char (byte / 16) ∷ digit_char (byte % 16) ∷ tail) (byte ∷ tail)) rest
    last n34 n92 = by (nat_lt byte 32) refl
      where
        by : (b : Bool) → nat_lt byte 32 ≡ b → Spells (byte ∷ bytes) (cond b (92 ∷ 117 ∷ 48 ∷ 48 ∷ digit_char (byte / 16) ∷ digit_char (byte % 16) ∷ tail) (byte ∷ tail)) rest
        by true is = control_spells byte bytes tail rest more (ltb-true byte 32 is)
        by false is = plain_spells byte bytes tail rest more (plain n34 n92 is)
          where
            plain : (byte == 34) ≡ false → (byte == 92) ≡ false → nat_lt byte 32 ≡ false → is_plain byte ≡ true
            plain a b c = not_all (byte == 34) (byte == 92) (nat_lt byte 32) a b c
              where
                not_all : (x y z : Bool) → x ≡ false → y ≡ false → z ≡ false → not ((x || y) || z) ≡ true
                not_all false false false a b c = refl
                not_all false false true a b c = absurd (cc c)
                not_all false true z a b c = absurd (cc b)
                not_all true y z a b c = absurd (cc a)

string_spells : (bytes rest : List ℕ) → Spells bytes (printed_string bytes rest) rest
string_spells [] rest = record { pieces = []; content = a_quote; are = refl }
string_spells (byte ∷ bytes) rest = byte_spells byte bytes (printed_string bytes rest) rest (string_spells bytes rest)

-- ---- numbers

digits_spell : (ds rest : List ℕ) → all_ascii_digits ds ≡ true → IsWholeDigits (ds ++ rest) ds rest
digits_spell [] rest e = whole_ends (no_fraction no_exponent)
digits_spell (d ∷ ds) rest e = by (is_digit d) refl e (digits_spell ds rest)
  where
    by : (b : Bool) → is_digit d ≡ b → (b && all_ascii_digits ds) ≡ true → (all_ascii_digits ds ≡ true → IsWholeDigits (ds ++ rest) ds rest) → IsWholeDigits (d ∷ ds ++ rest) (d ∷ ds) rest
    by true is e rec = whole_digit is (rec e)
    by false is e rec = absurd (cc e)

nonzero_spells : (ds rest : List ℕ) → all_ascii_digits ds ≡ true → 0 < length ds → 48 < get_or ds 0 0 → IsUnsigned (ds ++ rest) ds rest
nonzero_spells [] rest e l f = absurd (omega arith)
nonzero_spells (d ∷ ds) rest e l f = by (is_digit d) refl e
  where
    by : (b : Bool) → is_digit d ≡ b → (b && all_ascii_digits ds) ≡ true → IsUnsigned (d ∷ ds ++ rest) (d ∷ ds) rest
    by true is e = from_one (first d is f) (digits_spell ds rest e)
      where
        first : (d : ℕ) → is_digit d ≡ true → 48 < d → is_digit_from_one d ≡ true
        first d is f = grind (arith, nat_tests)
    by false is e = absurd (cc e)

own : IsNumeralModel (λ ds. all_ascii_digits ds ≡ true) (digits_value 10)
own = numerals_by_value _ tells_all_ascii_digits

decimal_spells : (n : ℕ) (rest : List ℕ) → n < 2 ^ 64 → IsUnsigned (decimal n ++ rest) (decimal n) rest
decimal_spells zero rest l = subst (λ (ds : List ℕ). IsUnsigned (ds ++ rest) ds rest) (sym (decimal_digit 0 (omega arith))) (from_zero (no_fraction no_exponent))
decimal_spells (suc n) rest l =
    nonzero_spells (decimal (suc n)) rest (digits_decimal own (suc n) l) (decimal_nonempty (suc n) l) (first_decimal (suc n) (omega arith) l)

first_digit : (n : ℕ) → n < 2 ^ 64 → 48 ≤ get_or (decimal n) 0 0
first_digit zero l = rw (decimal_digit 0 (omega arith)) (omega arith)
first_digit (suc n) l = let f = first_decimal (suc n) (omega arith) l in omega arith

int_is : (z : ℤ) → fits_64_bits z ≡ true → int z ≡ number_of (signed_decimal z)
int_is (pos n) e =
    let small : n < 2 ^ 63 = ltb-true n (2 ^ 63) e in
    let l : n < 2 ^ 64 = omega arith in
    let low = first_digit n l in
    let no_minus : (get_or (decimal n) 0 0 == 45) ≡ false = ne_eqb (get_or (decimal n) 0 0) 45 (λ (f : get_or (decimal n) 0 0 ≡ 45). absurd (omega arith)) in
    let no_plus : without_leading_plus (decimal n) ≡ decimal n = without_leading_plus_none (decimal n) (λ (f : get_or (decimal n) 0 0 ≡ 43). absurd (omega arith)) in
    let same : without_leading_sign (decimal n) ≡ decimal n = if_false (get_or (decimal n) 0 0 == 45) (drop 1 (decimal n)) (without_leading_plus (decimal n)) no_minus ∙ no_plus in
    let numeral = decimal_is_IsNumeral n l in
    let value : signed_digits_value 10 (decimal n) ≡ pos n =
    if_false (get_or (decimal n) 0 0 == 45) _ _ no_minus ∙ ap (λ (ds : List ℕ). pos (digits_value 10 ds)) same ∙ ap (λ (m : ℕ). pos m) numeral.1 in
    number_is_int (decimal n) (pos n)
    (subst (λ (ds : List ℕ). IsNumeral 10 ds) (sym same) numeral.0, subst (λ (z : ℤ). SFits w64 z) (sym value) (fits_fact (pos n) e)) (sym value)
int_is (negsuc n) e =
    let small : n < 2 ^ 63 = ltb-true n (2 ^ 63) e in
    let l : suc n < 2 ^ 64 = omega arith in
    let numeral = decimal_is_IsNumeral (suc n) l in
    let value : signed_digits_value 10 (45 ∷ decimal (suc n)) ≡ negsuc n = ap (λ (m : ℕ). neg_ℤ (pos m)) numeral.1 in
    number_is_int (45 ∷ decimal (suc n)) (negsuc n) (numeral.0, subst (λ (z : ℤ). SFits w64 z) (sym value) (fits_fact (negsuc n) e)) (sym value)

int_spells : (z : ℤ) (levels : ℕ) (rest : List ℕ) → fits_64_bits z ≡ true → IsValue levels (signed_decimal z ++ rest) (int z) rest
int_spells z levels rest e = subst (λ (x : Datum). IsValue levels (signed_decimal z ++ rest) x rest) (sym (int_is z e)) (is_number (number z e))
  where
    number : (z : ℤ) → fits_64_bits z ≡ true → IsNumber (signed_decimal z ++ rest) (signed_decimal z) rest
    number (pos n) e = let small : n < 2 ^ 63 = ltb-true n (2 ^ 63) e in unsigned (decimal_spells n rest (omega arith))
    number (negsuc n) e = let small : n < 2 ^ 63 = ltb-true n (2 ^ 63) e in minus (decimal_spells (suc n) rest (omega arith))

-- ---- lists and objects

abbrev list_of : Items → List Datum
list_of no_items = []
list_of (item first items) = first ∷ list_of items

items_again : (items : Items) → items_of (list_of items) ≡ items
items_again no_items = refl
items_again (item first items) = ap (item first) (items_again items)

abbrev entries_of : Members → List Member
entries_of no_members = []
entries_of (member name value members) = (name, value) ∷ entries_of members

members_again : (members : Members) → members_of (entries_of members) ≡ members
members_again no_members = refl
members_again (member name value members) = ap (member name value) (members_again members)

abbrev keys : List Member → List (List ℕ)
keys [] = []
keys (m ∷ ms) = m.0 ∷ keys ms

keys_again : (members : Members) → keys (entries_of members) ≡ names_of members
keys_again no_members = refl
keys_again (member name value members) = ap (λ (l : List (List ℕ)). name ∷ l) (keys_again members)

keys-append : (xs ys : List Member) → keys (xs ++ ys) ≡ keys xs ++ keys ys
keys-append [] ys = refl
keys-append (x ∷ xs) ys = ap (λ (l : List (List ℕ)). x.0 ∷ l) (keys-append xs ys)

behind : (P : List ℕ → Type 0) (front : List (List ℕ)) (key : List ℕ) (rest : List (List ℕ)) → AllByRecursion P (front ++ key ∷ rest) → P key
behind P [] key rest h = h.0
behind P (k ∷ front) key rest h = behind P front key rest h.1

-- a name behind all others goes to the end
inserted_last : (ms : List Member) (key : List ℕ) (value : Datum) (rest : List (List ℕ)) → IsStrictlySortedBy (slice_cmp nat_cmp) (keys ms ++ key ∷ rest)
    → insert_entry (slice_cmp nat_cmp) ms key value ≡ ms ++ (key, value) ∷ []
inserted_last [] key value rest s = refl
inserted_last (m ∷ ms) key value rest s =
    let less : slice_cmp nat_cmp m.0 key ≡ Less = behind (λ (k : List ℕ). slice_cmp nat_cmp m.0 k ≡ Less) (keys ms) key rest (sorted_head (slice_cmp nat_cmp) m.0 (keys ms ++ key ∷ rest) s) in
    let greater : slice_cmp nat_cmp key m.0 ≡ Greater = nat_list_cmp_total.antisymm key m.0 ∙ ap ordering_reverse less in
    ap (λ (o : Ordering). match_ordering o ((key, value) ∷ m ∷ ms) ((m.0, value) ∷ ms) (m ∷ insert_entry (slice_cmp nat_cmp) ms key value)) greater
    ∙ ap (λ (l : List Member). m ∷ l) (inserted_last ms key value rest (sorted_tail (slice_cmp nat_cmp) m.0 (keys ms ++ key ∷ rest) s))

put_in_order : (ms done : List Member) → IsStrictlySortedBy (slice_cmp nat_cmp) (keys done ++ keys ms) → put_all done ms ≡ done ++ ms
put_in_order [] done s = sym (append-nil done)
put_in_order (m ∷ ms) done s =
    let last : insert_entry (slice_cmp nat_cmp) done m.0 m.1 ≡ done ++ m ∷ [] = inserted_last done m.0 m.1 (keys ms) s in
    let again : keys (done ++ m ∷ []) ++ keys ms ≡ keys done ++ m.0 ∷ keys ms = ap (λ (l : List (List ℕ)). l ++ keys ms) (keys-append done (m ∷ [])) ∙ append_assoc (keys done) (m.0 ∷ []) (keys ms) in
    ap (λ (l : List Member). put_all l ms) last
    ∙ put_in_order ms (done ++ m ∷ []) (subst (λ (l : List (List ℕ)). IsStrictlySortedBy (slice_cmp nat_cmp) l) (sym again) s)
    ∙ append_assoc done (m ∷ []) ms

named_member : (levels : ℕ) (name rest next : List ℕ) (value : Datum) → IsValue levels rest value next → IsMember levels (34 ∷ printed_string name (58 ∷ rest)) name value next
named_member levels name rest next value v =
    let s = string_spells name (58 ∷ rest) in
    subst (λ (n : List ℕ). IsMember levels (34 ∷ printed_string name (58 ∷ rest)) n value next) s.are (a_name s.content (a_colon v))

mutual
  spells : (value : Datum) (levels : ℕ) (rest : List ℕ) → IsPlain levels value → IsValue levels (printed value rest) value rest
  spells null levels rest p = is_null
  spells (boolean true) levels rest p = is_true
  spells (boolean false) levels rest p = is_false
  spells (int z) levels rest p = int_spells z levels rest p
  spells (text bytes) levels rest p =
      let s = string_spells bytes rest in
      subst (λ (b : List ℕ). IsValue levels (34 ∷ printed_string bytes rest) (text b) rest) s.are (is_text s.content)
  spells (list _) zero rest p = absurd p
  spells (list no_items) (suc levels) rest p = is_list no_item
  spells (list (item first items)) (suc levels) rest p =
      subst (λ (more : Items). IsValue (suc levels) (91 ∷ printed first (printed_items items rest)) (list (item first more)) rest) (items_again items)
      (is_list (first_item (spells first levels (printed_items items rest) p.0) (spells_items items levels rest p.1)))
  spells (fields _) zero rest p = absurd p
  spells (fields no_members) (suc levels) rest p = is_map no_member
  spells (fields (member name first members)) (suc levels) rest p =
      let ordered : put_all [] ((name, first) ∷ entries_of members) ≡ (name, first) ∷ entries_of members =
      put_in_order ((name, first) ∷ entries_of members) [] (subst (λ (l : List (List ℕ)). IsStrictlySortedBy (slice_cmp nat_cmp) (name ∷ l)) (sym (keys_again members)) p.1) in
      let same : members_of (put_all [] ((name, first) ∷ entries_of members)) ≡ member name first members =
      ap members_of ordered ∙ ap (member name first) (members_again members) in
      subst (λ (more : Members). IsValue (suc levels) (123 ∷ 34 ∷ printed_string name (58 ∷ printed first (printed_members members rest))) (fields more) rest) same
      (is_map (first_member (named_member levels name (printed first (printed_members members rest)) (printed_members members rest) first (spells first levels (printed_members members rest) p.0.0))
      (spells_members members levels rest p.0.1)))

  spells_items : (items : Items) (levels : ℕ) (rest : List ℕ) → ArePlainItems levels items → IsNextItem levels (printed_items items rest) (list_of items) rest
  spells_items no_items levels rest p = last_item
  spells_items (item next items) levels rest p = next_item (spells next levels (printed_items items rest) p.0) (spells_items items levels rest p.1)

  spells_members : (members : Members) (levels : ℕ) (rest : List ℕ) → ArePlainMembers levels members → IsNextMember levels (printed_members members rest) (entries_of members) rest
  spells_members no_members levels rest p = last_member
  spells_members (member name next members) levels rest p =
      next_member (named_member levels name (printed next (printed_members members rest)) (printed_members members rest) next (spells next levels (printed_members members rest) p.0)) (spells_members members levels rest p.1)

pub reads_back : (value : Datum) → IsPlain 64 value → IsText 64 (printed value []) value
reads_back value p = record { rest = []; spells = spells value 64 [] p; blanks = refl }
