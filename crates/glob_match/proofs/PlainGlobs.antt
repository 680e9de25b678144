-- A glob without special characters matches its own text alone.
use Rattle.std.proofs.Common.{◌≡◌, ℕ, suc, ◌<◌, List, [], ◌∷◌, ◌++◌, ◌∙◌, ap, sym, refl, subst, length, get_or, map, Bool, true, false, not, cond, nat_eq, ◌&&◌, ◌||◌, ◌↔◌, arith, encode_utf8_all}
use Rattle.std.proofs.lemmas.Bool.{and_parts, and_from, or_parts, eqb-true, eq-eqb, not-true}
use Rattle.std.proofs.lemmas.Str.{chars-encodes, encodes_same, encode_ascii, inside_one, char_from_byte}
use Rattle.std.specs.Prelude.{encode_utf8, codes}
use Rattle.std.specs.List.{list_all, join_with_byte}
use lib.Utf8.{scalar, scalars}
use Rattle.std.specs.Str.{chars, IsUtf8, bytes_eq}
use Rattle.glob_match.specs.declared.pattern.Unit.{Unit}
use Rattle.glob_match.specs.declared.pattern.Unit.TheVariants.{Plain}
use Rattle.glob_match.specs.declared.pattern.Piece.{Piece}
use Rattle.glob_match.specs.declared.pattern.Piece.TheVariants.{Single}
use Rattle.glob_match.specs.declared.pattern.Component.{Component}
use Rattle.glob_match.specs.declared.pattern.Component.TheVariants.{Name}
use Rattle.glob_match.specs.declared.reader.Place.TheVariants as place
use Rattle.glob_match.specs.Fits.{FitsPieces}
use Rattle.glob_match.specs.GlobMatch.{FitsNames, no_names, one_name, MatchesPath}
use Rattle.glob_match.specs.GlobText.{is_special, is_ordinary, IsUnit, plain, escaped, one, star, class, AreComponents, last_component, next_component, single, any_of, begins_with_slash, without_slash, IsGlobText}
use Rattle.glob_match.specs.Path.{in_front, names, is_absolute, relative, is_name}
use Rattle.glob_match.specs.Pattern.{Pattern, is_component, are_two_stars, components}
use Rattle.glob_match.proofs.Walks.{fits_first, fits_none, some_name}

abbrev pub plain_pieces : List ℕ → List Piece
plain_pieces [] = []
plain_pieces (c ∷ name) = Single (Plain c) ∷ plain_pieces name

abbrev all_plain : List (List ℕ) → List (List Piece)
all_plain [] = []
all_plain (name ∷ others) = plain_pieces name ∷ all_plain others

abbrev plain_components : List (List ℕ) → List Component
plain_components [] = []
plain_components (name ∷ others) = Name (plain_pieces name) ∷ plain_components others

-- the pieces of a text without special characters are its characters
record Plainly (text : List ℕ) (pieces : List Piece) (others : List (List Piece)) : Type 0 where
  first : List ℕ
  rest : List (List ℕ)
  named : names text ≡ first ∷ rest
  pieces_are : pieces ≡ plain_pieces first
  others_are : others ≡ all_plain rest

no_slash : (c : ℕ) → is_special c ≡ false → nat_eq c 47 ≡ false
no_slash c h =
    let a = or_parts (nat_eq c 92) (nat_eq c 42 || (nat_eq c 63 || (nat_eq c 91 || (nat_eq c 123 || nat_eq c 47)))) h in
    let b = or_parts (nat_eq c 42) (nat_eq c 63 || (nat_eq c 91 || (nat_eq c 123 || nat_eq c 47))) a.1 in
    let d = or_parts (nat_eq c 63) (nat_eq c 91 || (nat_eq c 123 || nat_eq c 47)) b.1 in
    let e = or_parts (nat_eq c 91) (nat_eq c 123 || nat_eq c 47) d.1 in (or_parts (nat_eq c 123) (nat_eq c 47) e.1).1

in_front_of : (c : ℕ) (all : List (List ℕ)) (first : List ℕ) (rest : List (List ℕ)) → nat_eq c 47 ≡ false → all ≡ first ∷ rest → cond (nat_eq c 47) ([] ∷ all) (in_front c all) ≡ (c ∷ first) ∷ rest
in_front_of c all first rest e n = rw (e, n) refl

plain_unit : (text more : List ℕ) (unit : Unit) (pieces : List Piece) (others : List (List Piece)) → IsUnit place.Name text unit more → list_all is_ordinary text ≡ true
    → (list_all is_ordinary more ≡ true → Plainly more pieces others) → Plainly text (Single unit ∷ pieces) others
plain_unit _ _ _ pieces others (plain {rest = more} c ordinary) h step =
    let behind = step (and_parts (is_ordinary c) (list_all is_ordinary more) h).1 in
    record {
      first = c ∷ behind.first;
      rest = behind.rest;
      named = in_front_of c (names more) behind.first behind.rest (no_slash c (not-true (is_special c) ordinary)) behind.named;
      pieces_are = ap (λ (p : List Piece). Single (Plain c) ∷ p) behind.pieces_are;
      others_are = behind.others_are;
    }
plain_unit _ _ _ pieces others (escaped c never) h step = absurd (cc h)
plain_unit _ _ _ pieces others one h step = absurd (cc h)
plain_unit _ _ _ pieces others star h step = absurd (cc h)
plain_unit _ _ _ pieces others (class is) h step = absurd (cc h)

plainly : (text : List ℕ) (pieces : List Piece) (others : List (List Piece)) → AreComponents text pieces others → list_all is_ordinary text ≡ true → Plainly text pieces others
plainly _ _ _ last_component h = record { first = []; rest = []; named = refl; pieces_are = refl; others_are = refl }
plainly _ _ _ (next_component {text = text} {pieces = pieces} {others = others} more) h =
    let behind = plainly text pieces others more h in
    record {
      first = [];
      rest = behind.first ∷ behind.rest;
      named = ap (λ (n : List (List ℕ)). [] ∷ n) behind.named;
      pieces_are = refl;
      others_are = ap (λ (p : List Piece). p ∷ others) behind.pieces_are ∙ ap (λ (o : List (List Piece)). plain_pieces behind.first ∷ o) behind.others_are;
    }
plainly _ _ _ (single {text = text} {more = more} {first = unit} {pieces = pieces} {others = others} is rest) h = plain_unit text more unit pieces others is h (λ k. plainly more pieces others rest k)
plainly _ _ _ (any_of is rest) h = absurd (cc h)

-- the components of plain pieces
no_stars : (name : List ℕ) → are_two_stars (plain_pieces name) ≡ false
no_stars [] = refl
no_stars (a ∷ []) = refl
no_stars (a ∷ b ∷ []) = refl
no_stars (a ∷ b ∷ c ∷ others) = refl

components_plain : (first : List ℕ) (rest : List (List ℕ)) → components (plain_pieces first) (all_plain rest) ≡ plain_components (first ∷ rest)
components_plain first [] = rw (no_stars first) refl
components_plain first (next ∷ others) = rw (no_stars first) (ap (λ (c : List Component). Name (plain_pieces first) ∷ c) (components_plain next others))

pub fits_plain : (name text : List ℕ) → FitsPieces (plain_pieces name) text → text ≡ name
fits_plain [] text fits = fits
fits_plain (c ∷ name) text fits = fits.2 ∙ ap (λ (t : List ℕ). t ++ fits.1) fits.3 ∙ ap (λ (t : List ℕ). c ∷ t) (fits_plain name fits.1 fits.4)

plain_fits : (name : List ℕ) → FitsPieces (plain_pieces name) name
plain_fits [] = refl
plain_fits (c ∷ name) = (c ∷ [], name, refl, refl, plain_fits name)

fits_names : (wanted all : List (List ℕ)) → FitsNames (plain_components wanted) all → map chars all ≡ wanted
fits_names [] all fits = ap (map chars) (fits_none all fits)
fits_names (name ∷ others) all fits =
    let first = fits_first (plain_pieces name) (plain_components others) all fits in
    ap (map chars) first.is ∙ ap (λ (n : List ℕ). n ∷ map chars first.others) (fits_plain name (chars first.name) first.fits) ∙ ap (λ (n : List (List ℕ)). name ∷ n) (fits_names others first.others first.rest)

names_fit : (all : List (List ℕ)) → FitsNames (plain_components (map chars all)) all
names_fit [] = no_names
names_fit (name ∷ others) = one_name (plain_fits (chars name)) (names_fit others)

-- names of characters and names of bytes
abbrev glue : List ℕ → List (List ℕ) → List (List ℕ)
glue [] all = all
glue (byte ∷ bytes) all = in_front byte (glue bytes all)

names_front : (bytes rest : List ℕ) → list_all (λ b. not (nat_eq b 47)) bytes ≡ true → names (bytes ++ rest) ≡ glue bytes (names rest)
names_front [] rest h = refl
names_front (byte ∷ bytes) rest h =
    let parts = and_parts (not (nat_eq byte 47)) (list_all (λ b. not (nat_eq b 47)) bytes) h in
    rw (not-true (nat_eq byte 47) parts.0) (ap (in_front byte) (names_front bytes rest parts.1))

glue_first : (bytes name : List ℕ) (others : List (List ℕ)) → glue bytes (name ∷ others) ≡ (bytes ++ name) ∷ others
glue_first [] name others = refl
glue_first (byte ∷ bytes) name others = ap (in_front byte) (glue_first bytes name others)

-- no byte of another character is a slash
all_at : (bytes : List ℕ) → ((k : ℕ) → k < length bytes → nat_eq (get_or bytes k 0) 47 ≡ false) → list_all (λ b. not (nat_eq b 47)) bytes ≡ true
all_at [] h = refl
all_at (byte ∷ bytes) h =
    let here : nat_eq byte 47 ≡ false = h 0 (omega arith) in
    and_from (not (nat_eq byte 47)) (list_all (λ b. not (nat_eq b 47)) bytes) (ap not here) (all_at bytes (λ k l. h (suc k) (omega arith)))

no_slash_in : (c : ℕ) → nat_eq c 47 ≡ false → list_all (λ b. not (nat_eq b 47)) (encode_utf8 c) ≡ true
no_slash_in c e = all_at (encode_utf8 c) (λ k l. by k l (nat_eq (get_or (encode_utf8 c) k 0) 47) refl)
  where
    by : (k : ℕ) → k < length (encode_utf8 c) → (b : Bool) → nat_eq (get_or (encode_utf8 c) k 0) 47 ≡ b → nat_eq (get_or (encode_utf8 c) k 0) 47 ≡ false
    by k l false h = h
    by k l true h =
        let byte : get_or (encode_utf8 c) k 0 ≡ 47 = eqb-true (get_or (encode_utf8 c) k 0) 47 h in
        let same : c ≡ get_or (encode_utf8 c) k 0 = inside_one c [] (encode_utf8 c) k (sym (append_nothing (encode_utf8 c))) l (omega arith) in
        let wrong : nat_eq c 47 ≡ true = eq-eqb c 47 (same ∙ byte) in absurd (cc (e, wrong))
      where
        append_nothing : (xs : List ℕ) → xs ++ [] ≡ xs
        append_nothing [] = refl
        append_nothing (x ∷ xs) = ap (λ (t : List ℕ). x ∷ t) (append_nothing xs)

names_encoded : (text : List ℕ) → names (encode_utf8_all text) ≡ map encode_utf8_all (names text)
names_encoded [] = refl
names_encoded (c ∷ text) = by (nat_eq c 47) refl (names text) refl (names_encoded text)
  where
    by : (b : Bool) → nat_eq c 47 ≡ b → (all : List (List ℕ)) → names text ≡ all → names (encode_utf8_all text) ≡ map encode_utf8_all (names text) → names (encode_utf8 c ++ encode_utf8_all text) ≡ map encode_utf8_all (cond (nat_eq c 47) ([] ∷ names text) (in_front c (names text)))
    by true e all n more =
        let same : c ≡ 47 = eqb-true c 47 e in
        let byte : encode_utf8 c ≡ 47 ∷ [] = ap encode_utf8 same ∙ encode_ascii 47 (omega arith) in
        rw (e, byte) (ap (λ (x : List (List ℕ)). [] ∷ x) more)
    by false e [] n more = absurd (some_name text n)
    by false e (first ∷ rest) n more =
        rw e (names_front (encode_utf8 c) (encode_utf8_all text) (no_slash_in c e) ∙ ap (glue (encode_utf8 c)) (more ∙ ap (map encode_utf8_all) n)
        ∙ glue_first (encode_utf8 c) (encode_utf8_all first) (map encode_utf8_all rest) ∙ ap (λ (x : List (List ℕ)). map encode_utf8_all (in_front c x)) (sym n))

names_scalars : (text : List ℕ) → scalars text ≡ true → list_all scalars (names text) ≡ true
names_scalars [] h = refl
names_scalars (c ∷ text) h = let parts = and_parts (scalar c) (scalars text) h in by (nat_eq c 47) (names text) parts.0 (names_scalars text parts.1)
  where
    by : (b : Bool) (all : List (List ℕ)) → scalar c ≡ true → list_all scalars all ≡ true → list_all scalars (cond b ([] ∷ all) (in_front c all)) ≡ true
    by true all s h = h
    by false [] s h = rw s refl
    by false (first ∷ rest) s h =
        let parts = and_parts (scalars first) (list_all scalars rest) h in
        and_from (scalar c && scalars first) (list_all scalars rest) (and_from (scalar c) (scalars first) s parts.0) parts.1

decoded : (all : List (List ℕ)) → list_all scalars all ≡ true → map chars (map encode_utf8_all all) ≡ all
decoded [] h = refl
decoded (name ∷ others) h =
    let parts = and_parts (scalars name) (list_all scalars others) h in
    ap (λ (n : List ℕ). n ∷ map chars (map encode_utf8_all others)) (chars-encodes name parts.0) ∙ ap (λ (n : List (List ℕ)). name ∷ n) (decoded others parts.1)

-- names tell their text
pub joined : (text : List ℕ) → join_with_byte 47 (names text) ≡ text
joined [] = refl
joined (c ∷ text) = by (nat_eq c 47) refl (names text) refl (joined text)
  where
    by : (b : Bool) → nat_eq c 47 ≡ b → (all : List (List ℕ)) → names text ≡ all → join_with_byte 47 (names text) ≡ text → join_with_byte 47 (cond (nat_eq c 47) ([] ∷ names text) (in_front c (names text))) ≡ c ∷ text
    by b e [] n more = absurd (some_name text n)
    by true e (first ∷ rest) n more = rw (e, n) (ap (λ (t : List ℕ). 47 ∷ t) (ap (join_with_byte 47) (sym n) ∙ more) ∙ ap (λ (x : ℕ). x ∷ text) (sym (eqb-true c 47 e)))
    by false e (first ∷ []) n more = rw (e, n) (ap (λ (t : List ℕ). c ∷ t) (ap (join_with_byte 47) (sym n) ∙ more))
    by false e (first ∷ next ∷ rest) n more = rw (e, n) (ap (λ (t : List ℕ). c ∷ t) (ap (join_with_byte 47) (sym n) ∙ more))

names_same : (text other : List ℕ) → names text ≡ names other → text ≡ other
names_same text other e = sym (joined text) ∙ ap (join_with_byte 47) e ∙ joined other

-- the slash in front
record SameFront (text : List ℕ) : Type 0 where
  rooted : is_absolute (encode_utf8_all text) ≡ begins_with_slash text
  relative_is : relative (encode_utf8_all text) ≡ encode_utf8_all (without_slash text)

same_front : (text : List ℕ) → SameFront text
same_front [] = record { rooted = refl; relative_is = refl }
same_front (c ∷ text) = by (nat_eq c 47) refl
  where
    other : (all : List ℕ) → all ≡ encode_utf8 c ++ encode_utf8_all text → nat_eq c 47 ≡ false → (is_absolute all ≡ false) × (relative all ≡ all)
    other [] e n = (refl, refl)
    other (byte ∷ bytes) e n = cases (nat_eq byte 47) refl
      where
        cases : (b : Bool) → nat_eq byte 47 ≡ b → (is_absolute (byte ∷ bytes) ≡ false) × (relative (byte ∷ bytes) ≡ byte ∷ bytes)
        cases false h = (h, rw h refl)
        cases true h =
            let is : byte ≡ 47 = eqb-true byte 47 h in
            let same : c ≡ byte = char_from_byte (byte ∷ bytes) (encode_utf8_all text) c e (omega arith) (omega arith) in
            let wrong : nat_eq c 47 ≡ true = eq-eqb c 47 (same ∙ is) in absurd (cc (n, wrong))

    by : (b : Bool) → nat_eq c 47 ≡ b → SameFront (c ∷ text)
    by true e =
        let byte : encode_utf8 c ≡ 47 ∷ [] = ap encode_utf8 (eqb-true c 47 e) ∙ encode_ascii 47 (omega arith) in
        record { rooted = rw (e, byte) refl; relative_is = rw (e, byte) refl }
    by false e =
        let both = other (encode_utf8 c ++ encode_utf8_all text) refl e in
        record { rooted = both.0 ∙ sym e; relative_is = both.1 ∙ rw e refl }

slash_same : (text other : List ℕ) → begins_with_slash text ≡ begins_with_slash other → without_slash text ≡ without_slash other → text ≡ other
slash_same [] [] b w = refl
slash_same [] (d ∷ other) b w =
    let e : nat_eq d 47 ≡ false = sym b in
    let wrong : [] ≡ d ∷ other = rw e at w in absurd (cc wrong)
slash_same (c ∷ text) [] b w = absurd (cc (sym (rw b at w)))
slash_same (c ∷ text) (d ∷ other) b w = by (nat_eq c 47) refl
  where
    by : (t : Bool) → nat_eq c 47 ≡ t → c ∷ text ≡ d ∷ other
    by true e =
        let f : nat_eq d 47 ≡ true = sym b ∙ e in
        let tail : text ≡ other = rw (e, f) at w in
        ap (λ (x : ℕ). x ∷ text) (eqb-true c 47 e ∙ sym (eqb-true d 47 f)) ∙ ap (λ (t : List ℕ). d ∷ t) tail
    by false e = let f : nat_eq d 47 ≡ false = sym b ∙ e in rw (e, f) at w

-- a component's name is one of a path
same_bytes : (xs ys : List ℕ) → bytes_eq xs ys ≡ true → xs ≡ ys
same_bytes [] [] h = refl
same_bytes [] (y ∷ ys) h = absurd (cc h)
same_bytes (x ∷ xs) [] h = absurd (cc h)
same_bytes (x ∷ xs) (y ∷ ys) h =
    let parts = and_parts (nat_eq x y) (bytes_eq xs ys) h in
    ap (λ (a : ℕ). a ∷ xs) (eqb-true x y parts.0) ∙ ap (λ (t : List ℕ). y ∷ t) (same_bytes xs ys parts.1)

other_name : (name special bytes : List ℕ) → encode_utf8_all special ≡ bytes → is_component (plain_pieces special) ≡ false → is_component (plain_pieces name) ≡ true → bytes_eq (encode_utf8_all name) bytes ≡ false
other_name name special bytes e none proper = by (bytes_eq (encode_utf8_all name) bytes) refl
  where
    by : (b : Bool) → bytes_eq (encode_utf8_all name) bytes ≡ b → b ≡ false
    by false h = refl
    by true h =
        let same : name ≡ special = encodes_same name special (same_bytes (encode_utf8_all name) bytes h ∙ sym e) in
        let wrong : is_component (plain_pieces special) ≡ true = subst (λ (n : List ℕ). is_component (plain_pieces n) ≡ true) same proper in absurd (cc (none, wrong))

proper_name : (name : List ℕ) → is_component (plain_pieces name) ≡ true → is_name (encode_utf8_all name) ≡ true
proper_name name h =
    let dot : encode_utf8 46 ≡ 46 ∷ [] = encode_ascii 46 (omega arith) in
    let one_dot : encode_utf8_all (46 ∷ []) ≡ codes "." = rw dot refl in
    let two_dots : encode_utf8_all (46 ∷ 46 ∷ []) ≡ codes ".." = rw dot refl in
    let a = other_name name [] [] refl refl h in
    let b = other_name name (46 ∷ []) (codes ".") one_dot refl h in
    let d = other_name name (46 ∷ 46 ∷ []) (codes "..") two_dots refl h in
    rw (a, b, d) refl

proper_names : (all : List (List ℕ)) → list_all is_component (all_plain all) ≡ true → list_all is_name (map encode_utf8_all all) ≡ true
proper_names [] h = refl
proper_names (name ∷ others) h =
    let parts = and_parts (is_component (plain_pieces name)) (list_all is_component (all_plain others)) h in
    and_from (is_name (encode_utf8_all name)) (list_all is_name (map encode_utf8_all others)) (proper_name name parts.0) (proper_names others parts.1)

scalars_behind : (text : List ℕ) → scalars text ≡ true → scalars (without_slash text) ≡ true
scalars_behind [] h = refl
scalars_behind (c ∷ text) h = by (nat_eq c 47)
  where
    by : (b : Bool) → scalars (cond b text (c ∷ text)) ≡ true
    by true = (and_parts (scalar c) (scalars text) h).1
    by false = h

ordinary_behind : (text : List ℕ) → list_all is_ordinary text ≡ true → list_all is_ordinary (without_slash text) ≡ true
ordinary_behind [] h = refl
ordinary_behind (c ∷ text) h = by (nat_eq c 47)
  where
    by : (b : Bool) → list_all is_ordinary (cond b text (c ∷ text)) ≡ true
    by true = (and_parts (is_ordinary c) (list_all is_ordinary text) h).1
    by false = h

-- the names of a path's bytes are those of its characters
pub record PathOf (path text : List ℕ) : Type 0 where
  pub all : names (relative path) ≡ map encode_utf8_all (names (without_slash text))
  pub characters : map chars (names (relative path)) ≡ names (without_slash text)
  pub rooted : is_absolute path ≡ begins_with_slash text

pub path_of : (path text : List ℕ) → scalars text ≡ true → encode_utf8_all text ≡ path → PathOf path text
path_of path text s e =
    let front = same_front text in
    let all : names (relative path) ≡ map encode_utf8_all (names (without_slash text)) = ap (λ (p : List ℕ). names (relative p)) (sym e) ∙ ap names front.relative_is ∙ names_encoded (without_slash text) in
    record {
      all = all;
      characters = ap (map chars) all ∙ decoded (names (without_slash text)) (names_scalars (without_slash text) (scalars_behind text s));
      rooted = ap is_absolute (sym e) ∙ front.rooted;
    }

pub plain_matches : (text path : List ℕ) (pattern : Pattern) → IsUtf8 text → IsUtf8 path → list_all is_ordinary (chars text) ≡ true → IsGlobText (chars text) pattern → MatchesPath pattern path ↔ (path ≡ text)
plain_matches text path pattern text_utf8 path_utf8 ordinary is = (matched, matching)
  where
    ts : List ℕ
    ts = text_utf8.0

    written : chars text ≡ ts
    written = ap chars (sym text_utf8.1.1) ∙ chars-encodes ts text_utf8.1.0

    glob : IsGlobText ts pattern
    glob = subst (λ (t : List ℕ). IsGlobText t pattern) written is

    pieces : Plainly (without_slash ts) glob.pieces glob.others
    pieces = plainly (without_slash ts) glob.pieces glob.others glob.reads (ordinary_behind ts (ap (list_all is_ordinary) (sym written) ∙ ordinary))

    parts : components glob.pieces glob.others ≡ plain_components (pieces.first ∷ pieces.rest)
    parts = ap (λ (p : List Piece). components p glob.others) pieces.pieces_are ∙ ap (components (plain_pieces pieces.first)) pieces.others_are ∙ components_plain pieces.first pieces.rest

    meant : pattern.components ≡ plain_components (pieces.first ∷ pieces.rest)
    meant = ap (λ (p : Pattern). p.components) glob.means ∙ parts

    root_is : pattern.is_absolute ≡ begins_with_slash ts
    root_is = ap (λ (p : Pattern). p.is_absolute) glob.means

    matched : MatchesPath pattern path → path ≡ text
    matched matches =
        let ps : List ℕ = path_utf8.0 in
        let there = path_of path ps path_utf8.1.0 path_utf8.1.1 in
        let fits : FitsNames (plain_components (pieces.first ∷ pieces.rest)) (names (relative path)) = subst (λ (c : List Component). FitsNames c (names (relative path))) meant matches.fits in
        let same_names : names (without_slash ps) ≡ names (without_slash ts) = sym there.characters ∙ fits_names (pieces.first ∷ pieces.rest) (names (relative path)) fits ∙ sym pieces.named in
        let rooted : begins_with_slash ps ≡ begins_with_slash ts = sym there.rooted ∙ matches.rooted ∙ root_is in
        let same : ps ≡ ts = slash_same ps ts rooted (names_same (without_slash ps) (without_slash ts) same_names) in
        sym path_utf8.1.1 ∙ ap encode_utf8_all same ∙ text_utf8.1.1

    whole : glob.pieces ∷ glob.others ≡ all_plain (names (without_slash ts))
    whole = ap (λ (p : List Piece). p ∷ glob.others) pieces.pieces_are ∙ ap (λ (o : List (List Piece)). plain_pieces pieces.first ∷ o) pieces.others_are ∙ ap all_plain (sym pieces.named)

    here : PathOf text ts
    here = path_of text ts text_utf8.1.0 text_utf8.1.1

    itself : MatchesPath pattern text
    itself = record {
      proper = ap (list_all is_name) here.all ∙ proper_names (names (without_slash ts)) (ap (list_all is_component) (sym whole) ∙ glob.proper);
      rooted = here.rooted ∙ sym root_is;
      fits = subst (λ (c : List Component). FitsNames c (names (relative text))) (sym meant)
          (subst (λ (n : List (List ℕ)). FitsNames (plain_components n) (names (relative text))) (here.characters ∙ pieces.named) (names_fit (names (relative text))));
    }

    matching : path ≡ text → MatchesPath pattern path
    matching e = subst (MatchesPath pattern) (sym e) itself
