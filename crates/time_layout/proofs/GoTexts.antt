-- What is read of a Go layout's text is what its names and bytes stand for.
use Rattle.std.proofs.Common.{◌≡◌, ◌∙◌, sym, ap, refl, subst, ℕ, zero, suc, ◌+◌, ◌-◌, ◌<◌, ◌≤◌, List, [], ◌∷◌, ◌++◌, length, take, drop, get_or, bytes_eq, Bool, true, false, cond, nat_lt, nat_le, ◌==◌, ◌&&◌, Option, Some, None, Ok, Err, Result, ◌↔◌, ◌⊎◌, inl, inr, arith, append_assoc, append-nil}
use Rattle.std.specs.Prelude.{⊤, option_and_then, option_map}
use Rattle.std.proofs.Math.ListN.{length-append, length-take, length-drop}
use Rattle.std.proofs.lemmas.List.{take-append-drop}
use Rattle.std.proofs.lemmas.Bool.{ltb-true, ltb-false, cases_lt}
use Rattle.std.proofs.lemmas.Bool.Decides.{nat_tests}
use Rattle.std.proofs.lemmas.Slice.Eq.{bytes_eq-Decides}
use Rattle.std.specs.Char.{is_ascii_digit}
use Rattle.case_table.specs.Rows.{Named, first_code}
use Rattle.case_table.specs.Tables.{gotime_table}
use Rattle.time_layout.specs.declared.directives.Given.{Given}
use Rattle.time_layout.specs.declared.go_layouts.Symbol.{Symbol}
use Rattle.time_layout.specs.declared.parts.Part.{Part}
use Rattle.time_layout.specs.Atoms.{stands}
use Rattle.time_layout.specs.GoGrammar.{IsGoName, NoLonger, IsLongest, NamePiece, IsNamePiece, name_bytes, named_parts, AreNamePieces, names_give, IsGoText, NamesStop, IsGoFault, IsGoOutcome}
use Rattle.time_layout.specs.GoLayouts.{name_of, named_before, longest, longest_name, is_fraction, second_before, named_symbol, symbol_in, symbol_at, parts_with, NameDraft, with_symbol, or_place, names_from, names_stepped, go_draft, go_parts, drafted_parts}
use Rattle.time_layout.specs.LayoutText.{with_part, nothing_given, is_complete}

-- ---- the longest name

abbrev pub AllRows : (Named → Type 0) → List Named → Type 0
AllRows P [] = ⊤
AllRows P (row ∷ rows) = P row × AllRows P rows

code_or : ℕ → Option ℕ → ℕ
code_or n None = n
code_or n (Some code) = code

pub some_is : (a b : ℕ) → Some a ≡ Some b → a ≡ b
unfolding code_or
some_is a b is = ap (code_or a) is

row_cases : (same : Bool) (P : Named → Type 0) (row : Named) (rows : List Named) (own : List ℕ) (code : ℕ) → bytes_eq own row.0 ≡ same → P row
    → cond same (Some row.1) (first_code (bytes_eq own) rows) ≡ Some code → (first_code (bytes_eq own) rows ≡ Some code → P (own, code)) → P (own, code)
row_cases true P row rows own code same here is later =
    let own_is : row.0 ≡ own = sym ((bytes_eq-Decides own row.0).0 same) in
    subst (λ c. P (own, c)) (some_is row.1 code is) (subst (λ o. P (o, row.1)) own_is here)
row_cases false P row rows own code same here is later = later is

-- what holds of each row holds of a name
pub row_has : (P : Named → Type 0) (rows : List Named) (own : List ℕ) (code : ℕ) → AllRows P rows → first_code (bytes_eq own) rows ≡ Some code → P (own, code)
row_has P [] own code all is = cc
row_has P (row ∷ rows) own code all is =
    row_cases (bytes_eq own row.0) P row rows own code refl all.0 is (λ later. row_has P rows own code all.1 later)

abbrev IsShort : Named → Type 0
IsShort row = (1 ≤ length row.0) × (length row.0 ≤ 10)

short : (n : ℕ) → nat_le 1 n && nat_le n 10 ≡ true → (1 ≤ n) × (n ≤ 10)
short n is = grind (arith, nat_tests)

names_are_short : AllRows IsShort gotime_table
names_are_short =
    (short 5 refl, (short 6 refl, (short 4 refl, (short 7 refl, (short 10 refl, (short 2 refl, (short 2 refl, (short 2 refl, (short 2 refl, (short 2 refl, (short 2 refl, (short 1 refl, (short 2 refl, (short 1 refl, (short 4 refl, (short 1 refl, (short 3 refl, (short 7 refl, (short 3 refl, (short 3 refl, (short 6 refl, (short 2 refl, (short 5 refl, (short 6 refl, (short 2 refl, tt)))))))))))))))))))))))))

-- of at most so many bytes
abbrev NoneTo : ℕ → List ℕ → ℕ → Type 0
NoneTo most text size = (more code : ℕ) → size < more → more ≤ most → more ≤ length text → IsGoName (take more text) code → ⊥

abbrev IsLongestTo : ℕ → List ℕ → Option (ℕ × ℕ) → Type 0
IsLongestTo most text None = NoneTo most text 0
IsLongestTo most text (Some name) = (1 ≤ name.1) × (name.1 ≤ length text) × IsGoName (take name.1 text) name.0 × NoneTo most text name.1

of_cases : (less : Bool) (most : ℕ) (text : List ℕ) (found : Option ℕ) → nat_lt (length text) most ≡ less
    → cond less None (first_code (bytes_eq (take most text)) gotime_table) ≡ found → (code : ℕ) → most ≤ length text → IsGoName (take most text) code → found ≡ Some code
of_cases true most text found less is code long named = absurd (omega (arith, ltb-true (length text) most less))
of_cases false most text found less is code long named = sym is ∙ named

is_cases : (less : Bool) (most : ℕ) (text : List ℕ) (code : ℕ) → nat_lt (length text) most ≡ less
    → cond less None (first_code (bytes_eq (take most text)) gotime_table) ≡ Some code → (most ≤ length text) × IsGoName (take most text) code
is_cases true most text code less is = cc
is_cases false most text code less is = (ltb-false (length text) most less, is)

none_or : (most : ℕ) (text : List ℕ) (size : ℕ) → name_of (suc most) text ≡ None → NoneTo most text size
    → (more code : ℕ) → size < more → more ≤ suc most → more ≤ length text → IsGoName (take more text) code → (more < suc most) ⊎ (suc most ≤ more) → ⊥
none_or most text size none before more code longer few inside named (inl below) = before more code longer (omega arith) inside named
none_or most text size none before more code longer few inside named (inr past) =
    let same : more ≡ suc most = omega arith in
    let there : IsGoName (take (suc most) text) code = subst (λ n. IsGoName (take n text) code) same named in
    let never : None ≡ Some code = of_cases (nat_lt (length text) (suc most)) (suc most) text None refl none code (omega arith) there in cc

more_cases : (found : Option ℕ) (most : ℕ) (text : List ℕ) (shorter : Option (ℕ × ℕ)) → name_of (suc most) text ≡ found → IsLongestTo most text shorter
    → IsLongestTo (suc most) text (named_before found (suc most) shorter)
more_cases None most text None is before = λ more code longer few inside named. none_or most text 0 is before more code longer few inside named (cases_lt more (suc most))
more_cases None most text (Some name) is before =
    (before.0, before.1, before.2, λ more code longer few inside named. none_or most text name.1 is before.3 more code longer few inside named (cases_lt more (suc most)))
more_cases (Some code) most text shorter is before =
    let there = is_cases (nat_lt (length text) (suc most)) (suc most) text code refl is in
    (omega arith, there.0, there.1, λ more other longer few inside named. omega arith)

longest_to : (most : ℕ) (text : List ℕ) → IsLongestTo most text (longest most text)
longest_to zero text = λ more code longer few inside named. omega arith
longest_to (suc most) text = more_cases (name_of (suc most) text) most text (longest most text) refl (longest_to most text)

all_sizes : (text : List ℕ) (size : ℕ) → NoneTo 10 text size → NoLonger text size
all_sizes text size none = λ more code longer inside named.
    let few = row_has IsShort gotime_table (take more text) code names_are_short named in
    none more code longer (omega (arith, few.1, length-take more text)) inside named

whole_cases : (found : Option (ℕ × ℕ)) (text : List ℕ) → IsLongestTo 10 text found → IsLongest text found
whole_cases None text none = all_sizes text 0 none
whole_cases (Some name) text is = (is.0, is.1, is.2, all_sizes text name.1 is.3)

-- the longest name is found
pub longest_is : (text : List ℕ) → IsLongest text (longest_name text)
unfolding longest_name
longest_is text = whole_cases (longest 10 text) text (longest_to 10 text)

-- ---- what a text begins with

abbrev InText : List ℕ → Option Symbol → Type 0
InText text None = ⊤
InText text (Some found) = (1 ≤ found.size) × (found.size ≤ length text)

point_behind : (there : Bool) (text : List ℕ) → stands 46 text 0 ≡ there → there ≡ true → 1 ≤ length text
point_behind true [] is there = cc
point_behind true (byte ∷ text) is there = omega arith
point_behind false text is there = cc

second_cases : (fraction point : Bool) (text : List ℕ) (size : ℕ) → is_fraction (longest_name (drop size text)) ≡ fraction → stands 46 (drop size text) 0 ≡ point
    → 1 ≤ size → size ≤ length text → InText text (Some (second_before (drop size text) size))
second_cases true point text size is there some inside = rw is (some, inside)
second_cases false true text size is there some inside =
    let behind = point_behind true (drop size text) there refl in
    rw (is, there) (omega arith, omega (arith, length-drop size text))
second_cases false false text size is there some inside = rw (is, there) (some, inside)

named_cases : (second : Bool) (text : List ℕ) (code size : ℕ) → (code == 10) ≡ second → 1 ≤ size → size ≤ length text → InText text (Some (named_symbol text code size))
named_cases true text code size is some inside =
    rw is (second_cases (is_fraction (longest_name (drop size text))) (stands 46 (drop size text) 0) text size refl refl some inside)
named_cases false text code size is some inside = rw is (some, inside)

byte_cases : (digit : Bool) (text : List ℕ) → is_ascii_digit (get_or text 0 0) ≡ digit → 1 ≤ length text → InText text (symbol_in None text)
byte_cases true text is some = rw is tt
byte_cases false text is some = rw is (omega arith, some)

found_cases : (found : Option (ℕ × ℕ)) (text : List ℕ) → IsLongest text found → 1 ≤ length text → InText text (symbol_in found text)
found_cases None text is some = byte_cases (is_ascii_digit (get_or text 0 0)) text refl some
found_cases (Some name) text is some = named_cases (name.0 == 10) text name.0 name.1 refl is.0 is.1

in_text : (text : List ℕ) → 1 ≤ length text → InText text (symbol_at text)
unfolding symbol_at
in_text text some = found_cases (longest_name text) text (longest_is text) some

-- ---- pieces

pub name_bytes-append : (pieces more : List NamePiece) → name_bytes (pieces ++ more) ≡ name_bytes pieces ++ name_bytes more
name_bytes-append [] more = refl
name_bytes-append (piece ∷ pieces) more =
    ap (λ rest. piece.0 ++ rest) (name_bytes-append pieces more) ∙ sym (append_assoc piece.0 (name_bytes pieces) (name_bytes more))

named_parts-append : (pieces more : List NamePiece) → named_parts (pieces ++ more) ≡ named_parts pieces ++ named_parts more
named_parts-append [] more = refl
named_parts-append (piece ∷ pieces) more =
    ap (λ rest. parts_with piece.1.part piece.1.more ++ rest) (named_parts-append pieces more)
    ∙ sym (append_assoc (parts_with piece.1.part piece.1.more) (named_parts pieces) (named_parts more))

give_cases : (pieces more : List NamePiece) (next : Option Given)
    → ((given : Given) → names_give (pieces ++ more) given ≡ option_and_then (names_give more) (names_give pieces given))
    → option_and_then (names_give (pieces ++ more)) next ≡ option_and_then (names_give more) (option_and_then (names_give pieces) next)
give_cases pieces more None later = refl
give_cases pieces more (Some given) later = later given

names_give-append : (pieces more : List NamePiece) (given : Given) → names_give (pieces ++ more) given ≡ option_and_then (names_give more) (names_give pieces given)
names_give-append [] more given = refl
names_give-append (piece ∷ pieces) more given = give_cases pieces more (with_part piece.1.part given) (λ next. names_give-append pieces more next)

-- one piece more, before what follows
are-append : (pieces : List NamePiece) (piece : NamePiece) (rest : List ℕ) → AreNamePieces pieces (piece.0 ++ rest) → IsNamePiece piece rest
    → AreNamePieces (pieces ++ piece ∷ []) rest
are-append [] piece rest are is = (is, tt)
are-append (first ∷ pieces) piece rest are is =
    let bytes : name_bytes pieces ++ (piece.0 ++ rest) ≡ name_bytes (pieces ++ piece ∷ []) ++ rest =
    sym (append_assoc (name_bytes pieces) piece.0 rest)
    ∙ ap (λ b. b ++ rest) (sym (name_bytes-append pieces (piece ∷ []) ∙ ap (λ b. name_bytes pieces ++ b) (append-nil piece.0))) in
    (subst (λ b. IsNamePiece first b) bytes are.0, are-append pieces piece rest are.1 is)

abbrev pub named_draft : List Part → Given → ℕ → NameDraft
named_draft parts given inside = record { parts = parts; given = given; inside = inside }

-- pieces that give nothing twice stand before the place
pub record NamesStand (full text : List ℕ) (at : ℕ) (parts : List Part) (given : Given) : Type 0 where
  pub pieces : List NamePiece
  pub are : AreNamePieces pieces text
  pub is : full ≡ name_bytes pieces ++ text
  pub place : at ≡ length (name_bytes pieces)
  pub parts_are : parts ≡ named_parts pieces
  pub once : names_give pieces nothing_given ≡ Some given

one_name_more : (full own rest : List ℕ) (found : Symbol) (at : ℕ) (parts : List Part) (given after : Given) → IsNamePiece (own, found) rest
    → with_part found.part given ≡ Some after → NamesStand full (own ++ rest) at parts given
    → NamesStand full rest (at + length own) (parts ++ parts_with found.part found.more) after
one_name_more full own rest found at parts given after piece gives s =
    let last : List NamePiece = (own, found) ∷ [] in
    let bytes : name_bytes (s.pieces ++ last) ≡ name_bytes s.pieces ++ own =
    name_bytes-append s.pieces last ∙ ap (λ b. name_bytes s.pieces ++ b) (append-nil own) in
    let all : named_parts (s.pieces ++ last) ≡ named_parts s.pieces ++ parts_with found.part found.more =
    named_parts-append s.pieces last ∙ ap (λ p. named_parts s.pieces ++ p) (append-nil (parts_with found.part found.more)) in
    record {
      pieces = s.pieces ++ last;
      are = are-append s.pieces (own, found) rest s.are piece;
      is = s.is ∙ sym (append_assoc (name_bytes s.pieces) own rest) ∙ ap (λ b. b ++ rest) (sym bytes);
      place = omega (arith, s.place, ap length bytes, length-append (name_bytes s.pieces) own);
      parts_are = ap (λ p. p ++ parts_with found.part found.more) s.parts_are ∙ sym all;
      once = names_give-append s.pieces last nothing_given ∙ ap (option_and_then (names_give last)) s.once ∙ ap (option_and_then (names_give [])) gives;
    }

end_cases : (complete : Bool) (full : List ℕ) (at : ℕ) (parts : List Part) (given : Given) → NamesStand full [] at parts given → is_complete given ≡ complete
    → IsGoOutcome full (cond {A = Result NameDraft ℕ} complete (Ok (named_draft parts given 0)) (Err at))
end_cases true full at parts given s complete = record {
  pieces = s.pieces;
  are = s.are;
  is = s.is ∙ append-nil (name_bytes s.pieces);
  parts_are = s.parts_are;
  once = s.once;
  complete = complete;
}
end_cases false full at parts given s complete = record {
  pieces = s.pieces;
  rest = [];
  are = s.are;
  is = s.is;
  place = s.place;
  given = given;
  once = s.once;
  stops = inl (refl, complete);
}

names_stopped : (full rest : List ℕ) (at : ℕ) (parts : List Part) (given : Given) → NamesStand full rest at parts given → NamesStop given rest → IsGoFault full at
names_stopped full rest at parts given s stops = record {
  pieces = s.pieces;
  rest = rest;
  are = s.are;
  is = s.is;
  place = s.place;
  given = given;
  once = s.once;
  stops = stops;
}

-- the bytes of a name are passed over
passed_over : (name rest : List ℕ) (at : ℕ) (parts : List Part) (given : Given)
    → names_from (name ++ rest) at (named_draft parts given (length name)) ≡ names_from rest (at + length name) (named_draft parts given 0)
passed_over [] rest at parts given = ap (λ n. names_from rest n (named_draft parts given 0)) (omega arith)
passed_over (byte ∷ name) rest at parts given =
    passed_over name rest (at + 1) parts given ∙ ap (λ n. names_from rest n (named_draft parts given 0)) (omega arith)

behind_name : (text : List ℕ) (size at : ℕ) (parts : List Part) (given : Given) → 1 ≤ size → size ≤ suc (length text)
    → names_from text (at + 1) (named_draft parts given (size - 1)) ≡ names_from (drop (size - 1) text) (at + size) (named_draft parts given 0)
behind_name text size at parts given some inside =
    let few : length (take (size - 1) text) ≡ size - 1 = omega (arith, length-take (size - 1) text) in
    let split : names_from text (at + 1) (named_draft parts given (size - 1))
    ≡ names_from (take (size - 1) text ++ drop (size - 1) text) (at + 1) (named_draft parts given (length (take (size - 1) text))) =
    ap (λ t. names_from t (at + 1) (named_draft parts given (size - 1))) (sym (take-append-drop (size - 1) text))
    ∙ ap (λ n. names_from (take (size - 1) text ++ drop (size - 1) text) (at + 1) (named_draft parts given n)) (sym few) in
    split ∙ passed_over (take (size - 1) text) (drop (size - 1) text) (at + 1) parts given
    ∙ ap (λ n. names_from (drop (size - 1) text) n (named_draft parts given 0)) (omega (arith, few))

-- the first bytes of a text, as a piece
front_piece : (byte : ℕ) (text : List ℕ) (found : Symbol) → symbol_at (byte ∷ text) ≡ Some found → 1 ≤ found.size → found.size ≤ suc (length text)
    → (own : List ℕ) × (rest : List ℕ) × (byte ∷ text ≡ own ++ rest) × (rest ≡ drop (found.size - 1) text) × (length own ≡ found.size) × IsNamePiece (own, found) rest
front_piece byte text found is some inside =
    let own : List ℕ = byte ∷ take (found.size - 1) text in
    let rest : List ℕ = drop (found.size - 1) text in
    let whole : byte ∷ text ≡ own ++ rest = ap (λ t. byte ∷ t) (sym (take-append-drop (found.size - 1) text)) in
    let size : length own ≡ found.size = omega (arith, length-take (found.size - 1) text) in
    (own, rest, whole, refl, size, (ap symbol_at (sym whole) ∙ is, size, some))

given_cases : (after : Option Given) (full : List ℕ) (byte : ℕ) (text : List ℕ) (found : Symbol) (at : ℕ) (parts : List Part) (given : Given)
    → with_part found.part given ≡ after → symbol_at (byte ∷ text) ≡ Some found → 1 ≤ found.size → found.size ≤ suc (length text)
    → NamesStand full (byte ∷ text) at parts given
    → ((rest : List ℕ) (next : ℕ) (all : List Part) (more : Given) → length rest ≤ length text → NamesStand full rest next all more → IsGoOutcome full (names_from rest next (named_draft all more 0)))
    → IsGoOutcome full (names_stepped (or_place at (option_map (λ more. named_draft (parts ++ parts_with found.part found.more) more (found.size - 1)) after)) (λ next. names_from text (at + 1) next))
given_cases None full byte text found at parts given gives is some inside s later =
    names_stopped full (byte ∷ text) at parts given s (inr (omega arith, inr (found, is, gives)))
given_cases (Some more) full byte text found at parts given gives is some inside s later =
    let piece = front_piece byte text found is some inside in
    let stands : NamesStand full (piece.0 ++ piece.1) at parts given = subst (λ t. NamesStand full t at parts given) piece.2 s in
    let next = one_name_more full piece.0 piece.1 found at parts given more piece.5 gives stands in
    let place : at + length piece.0 ≡ at + found.size = ap (λ n. at + n) piece.4 in
    let there : NamesStand full (drop (found.size - 1) text) (at + found.size) (parts ++ parts_with found.part found.more) more =
    subst (λ n. NamesStand full (drop (found.size - 1) text) n (parts ++ parts_with found.part found.more) more) place
    (subst (λ t. NamesStand full t (at + length piece.0) (parts ++ parts_with found.part found.more) more) piece.3 next) in
    subst (λ r. IsGoOutcome full r) (sym (behind_name text found.size at (parts ++ parts_with found.part found.more) more some inside))
    (later (drop (found.size - 1) text) (at + found.size) (parts ++ parts_with found.part found.more) more (omega (arith, length-drop (found.size - 1) text)) there)

symbol_cases : (found : Option Symbol) (full : List ℕ) (byte : ℕ) (text : List ℕ) (at : ℕ) (parts : List Part) (given : Given)
    → symbol_at (byte ∷ text) ≡ found → InText (byte ∷ text) found → NamesStand full (byte ∷ text) at parts given
    → ((rest : List ℕ) (next : ℕ) (all : List Part) (more : Given) → length rest ≤ length text → NamesStand full rest next all more → IsGoOutcome full (names_from rest next (named_draft all more 0)))
    → IsGoOutcome full (names_stepped (or_place at (option_and_then (λ sym. with_symbol sym (named_draft parts given 0)) found)) (λ next. names_from text (at + 1) next))
symbol_cases None full byte text at parts given is inside s later = names_stopped full (byte ∷ text) at parts given s (inr (omega arith, inl is))
symbol_cases (Some found) full byte text at parts given is inside s later =
    given_cases (with_part found.part given) full byte text found at parts given refl is inside.0 inside.1 s later

outcome : (most : ℕ) (text full : List ℕ) (at : ℕ) (parts : List Part) (given : Given) → length text ≤ most → NamesStand full text at parts given
    → IsGoOutcome full (names_from text at (named_draft parts given 0))
outcome most [] full at parts given few s = end_cases (is_complete given) full at parts given s refl
outcome zero (byte ∷ text) full at parts given few s = absurd (omega arith)
outcome (suc most) (byte ∷ text) full at parts given few s =
    symbol_cases (symbol_at (byte ∷ text)) full byte text at parts given refl (in_text (byte ∷ text) (omega arith)) s
    (λ rest next all more long t. outcome most rest full next all more (omega arith) t)

-- a text gives what its names and bytes stand for, or has its fault behind them
pub go_texts_are_read : (text : List ℕ) → IsGoOutcome text (go_draft text)
go_texts_are_read text =
    outcome (length text) text text 0 [] nothing_given (omega arith)
    (record { pieces = []; are = tt; is = refl; place = refl; parts_are = refl; once = refl })

parts_or : List Part → Result (List Part) ℕ → List Part
parts_or parts (Ok other) = other
parts_or parts (Err at) = parts

parts_same : (one other : List Part) → ◌≡◌ {A = Result (List Part) ℕ} (Ok one) (Ok other) → one ≡ other
unfolding parts_or
parts_same one other is = ap (parts_or one) is

place_or : ℕ → Result (List Part) ℕ → ℕ
place_or n (Ok parts) = n
place_or n (Err at) = at

place_same : (one other : ℕ) → ◌≡◌ {A = Result (List Part) ℕ} (Err one) (Err other) → one ≡ other
unfolding place_or
place_same one other is = ap (place_or one) is

drafted : (read : Result NameDraft ℕ) (text : List ℕ) (parts : List Part) → IsGoOutcome text read → drafted_parts read ≡ Ok parts → (given : Given) × IsGoText text parts given
drafted (Ok s) text parts is same = (s.given, subst (λ p. IsGoText text p s.given) (parts_same s.parts parts same) is)
drafted (Err at) text parts is same = cc

pub go_text_is : (text : List ℕ) (parts : List Part) → go_parts text ≡ Ok parts → (given : Given) × IsGoText text parts given
go_text_is text parts is = drafted (go_draft text) text parts (go_texts_are_read text) is

faulted_at : (read : Result NameDraft ℕ) (text : List ℕ) (at : ℕ) → IsGoOutcome text read → drafted_parts read ≡ Err at → IsGoFault text at
faulted_at (Ok s) text at is same = cc
faulted_at (Err place) text at is same = subst (λ p. IsGoFault text p) (place_same place at same) is

pub go_fault_is : (text : List ℕ) (at : ℕ) → go_parts text ≡ Err at → IsGoFault text at
go_fault_is text at is = faulted_at (go_draft text) text at (go_texts_are_read text) is

-- ---- pieces are read

step_is : (found : Option Symbol) (after : Option Given) (mine : Symbol) (more : Given) (parts : List Part) (given : Given) (at : ℕ) (text : List ℕ)
    → found ≡ Some mine → with_part mine.part given ≡ Some more
    → names_stepped (or_place at (option_and_then (λ sym. with_symbol sym (named_draft parts given 0)) found)) (λ next. names_from text (at + 1) next)
    ≡ names_from text (at + 1) (named_draft (parts ++ parts_with mine.part mine.more) more (mine.size - 1))
step_is found after mine more parts given at text is gives = rw (is, gives) refl

pub next_cases : (pieces : List NamePiece) (given after : Given) (next : Option Given) → option_and_then (names_give pieces) next ≡ Some after
    → (more : Given) × (next ≡ Some more) × (names_give pieces more ≡ Some after)
next_cases pieces given after None is = cc
next_cases pieces given after (Some more) is = (more, refl, is)

given_or : Given → Option Given → Given
given_or given None = given
given_or given (Some other) = other

same_given : (one other : Given) → Some one ≡ Some other → one ≡ other
unfolding given_or
same_given one other is = ap (given_or one) is

complete_end : (complete : Bool) (s : NameDraft) (at : ℕ) → complete ≡ true → cond {A = Result NameDraft ℕ} complete (Ok s) (Err at) ≡ Ok s
complete_end complete s at is = rw is refl

piece_reads : (own : List ℕ) (found : Symbol) (rest : List ℕ) (at : ℕ) (parts : List Part) (given more : Given) → IsNamePiece (own, found) rest
    → with_part found.part given ≡ Some more
    → names_from (own ++ rest) at (named_draft parts given 0) ≡ names_from rest (at + length own) (named_draft (parts ++ parts_with found.part found.more) more 0)
piece_reads [] found rest at parts given more piece gives = absurd (omega (arith, piece.1, piece.2))
piece_reads (byte ∷ own) found rest at parts given more piece gives =
    let size : found.size - 1 ≡ length own = omega (arith, piece.1) in
    step_is (symbol_at (byte ∷ (own ++ rest))) (with_part found.part given) found more parts given at (own ++ rest) piece.0 gives
    ∙ ap (λ n. names_from (own ++ rest) (at + 1) (named_draft (parts ++ parts_with found.part found.more) more n)) size
    ∙ passed_over own rest (at + 1) (parts ++ parts_with found.part found.more) more
    ∙ ap (λ n. names_from rest n (named_draft (parts ++ parts_with found.part found.more) more 0)) (omega arith)

pieces_read : (pieces : List NamePiece) (at : ℕ) (parts : List Part) (given after : Given) → AreNamePieces pieces [] → names_give pieces given ≡ Some after
    → is_complete after ≡ true → names_from (name_bytes pieces) at (named_draft parts given 0) ≡ Ok (named_draft (parts ++ named_parts pieces) after 0)
pieces_read [] at parts given after are gives complete =
    rw append-nil
    (complete_end (is_complete given) (named_draft parts given 0) at (ap is_complete (same_given given after gives) ∙ complete)
    ∙ ap (λ g. Ok (named_draft parts g 0)) (same_given given after gives))
pieces_read (piece ∷ pieces) at parts given after are gives complete =
    let next = next_cases pieces given after (with_part piece.1.part given) gives in
    let mine : IsNamePiece (piece.0, piece.1) (name_bytes pieces) = subst (λ b. IsNamePiece piece b) (append-nil (name_bytes pieces)) are.0 in
    piece_reads piece.0 piece.1 (name_bytes pieces) at parts given next.0 mine next.1
    ∙ pieces_read pieces (at + length piece.0) (parts ++ parts_with piece.1.part piece.1.more) next.0 after are.1 next.2 complete
    ∙ ap (λ all. Ok (named_draft all after 0)) (append_assoc parts (parts_with piece.1.part piece.1.more) (named_parts pieces))

pub go_text_reads : (text : List ℕ) (parts : List Part) (given : Given) → IsGoText text parts given → go_parts text ≡ Ok parts
go_text_reads text parts given t =
    ap go_parts t.is ∙ ap drafted_parts (pieces_read t.pieces 0 [] nothing_given given t.are t.once t.complete) ∙ ap Ok (sym t.parts_are)

pub go_texts_read_exactly : (text : List ℕ) (parts : List Part) → (go_parts text ≡ Ok parts) ↔ ((given : Given) × IsGoText text parts given)
go_texts_read_exactly text parts = (go_text_is text parts, λ t. go_text_reads text parts t.0 t.1)
