-- A value printed as JSON without blanks: integers in decimal, each string with the short escapes where JSON has one
-- (RFC 8259, section 7), and each object's names in byte order. `.. rest` is what is printed with the rest behind it.
use Rattle.std.specs.Prelude.{◌≡◌, ℕ, zero, suc, ◌/◌, ◌%◌, true, false, ◌==◌, nat_lt, if◌then◌else◌, List, [], ◌∷◌, ◌++◌, codes, ⊤}
use Rattle.std.specs.Char.{digit_char}
use Rattle.std.specs.Cmp.Lexicographic.{slice_cmp}
use Rattle.std.specs.Fmt.{signed_decimal}
use Rattle.std.specs.List.Sorted.{IsStrictlySortedBy}
use Rattle.std.specs.Ordering.{nat_cmp}
use Rattle.entry_model.specs.Datum.{Datum, null, boolean, int, text, list, fields, Items, no_items, item, Members, no_members, member}
use Rattle.json_text.specs.Numbers.{fits_64_bits}

-- what stands for one byte of a string
unfoldable pub printed_byte : ℕ → List ℕ → List ℕ
printed_byte byte rest =
    (if byte == 34 then 92 ∷ 34 ∷ rest else
    (if byte == 92 then 92 ∷ 92 ∷ rest else
    (if byte == 8 then 92 ∷ 98 ∷ rest else
    (if byte == 12 then 92 ∷ 102 ∷ rest else
    (if byte == 10 then 92 ∷ 110 ∷ rest else
    (if byte == 13 then 92 ∷ 114 ∷ rest else
    (if byte == 9 then 92 ∷ 116 ∷ rest else
    (if nat_lt byte 32 then 92 ∷ 117 ∷ 48 ∷ 48 ∷ digit_char (byte / 16) ∷ digit_char (byte % 16) ∷ rest else
    byte ∷ rest))))))))

-- the bytes of a string, and its second quote
abbrev pub printed_string : List ℕ → List ℕ → List ℕ
printed_string [] rest = 34 ∷ rest
printed_string (byte ∷ bytes) rest = printed_byte byte (printed_string bytes rest)

abbrev mutual
  pub printed : Datum → List ℕ → List ℕ
  printed null rest = codes "null" ++ rest
  printed (boolean true) rest = codes "true" ++ rest
  printed (boolean false) rest = codes "false" ++ rest
  printed (int z) rest = signed_decimal z ++ rest
  printed (text bytes) rest = 34 ∷ printed_string bytes rest
  printed (list no_items) rest = 91 ∷ 93 ∷ rest
  printed (list (item first items)) rest = 91 ∷ printed first (printed_items items rest)
  printed (fields no_members) rest = 123 ∷ 125 ∷ rest
  printed (fields (member name first members)) rest = 123 ∷ 34 ∷ printed_string name (58 ∷ printed first (printed_members members rest))

  -- the values behind the first, and the bracket
  pub printed_items : Items → List ℕ → List ℕ
  printed_items no_items rest = 93 ∷ rest
  printed_items (item next items) rest = 44 ∷ printed next (printed_items items rest)

  -- the members behind the first, and the brace
  pub printed_members : Members → List ℕ → List ℕ
  printed_members no_members rest = 125 ∷ rest
  printed_members (member name next members) rest = 44 ∷ 34 ∷ printed_string name (58 ∷ printed next (printed_members members rest))

abbrev pub names_of : Members → List (List ℕ)
names_of no_members = []
names_of (member name value members) = name ∷ names_of members

-- a value as they lie in memory: integers of 64 bits, names in ascending byte order; nested in at most so many levels
abbrev mutual
  pub IsPlain : ℕ → Datum → Type 0
  IsPlain levels null = ⊤
  IsPlain levels (boolean b) = ⊤
  IsPlain levels (int z) = fits_64_bits z ≡ true
  IsPlain levels (text bytes) = ⊤
  IsPlain zero (list _) = ⊥
  IsPlain (suc levels) (list items) = ArePlainItems levels items
  IsPlain zero (fields _) = ⊥
  IsPlain (suc levels) (fields members) = ArePlainMembers levels members × IsStrictlySortedBy (slice_cmp nat_cmp) (names_of members)

  pub ArePlainItems : ℕ → Items → Type 0
  ArePlainItems levels no_items = ⊤
  ArePlainItems levels (item first items) = IsPlain levels first × ArePlainItems levels items

  pub ArePlainMembers : ℕ → Members → Type 0
  ArePlainMembers levels no_members = ⊤
  ArePlainMembers levels (member name first members) = IsPlain levels first × ArePlainMembers levels members
