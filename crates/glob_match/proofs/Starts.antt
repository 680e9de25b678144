-- Where the matches of a pattern lie: below its start, and in folders that may hold them.
use Rattle.std.proofs.Common.{◌≡◌, ◌≢◌, ℕ, rules, zero, suc, ◌+◌, ◌-◌, ◌<◌, List, [], ◌∷◌, ◌++◌, ◌∙◌, ap, sym, refl, subst, length, take, drop, map, Option, None, Some, Bool, true, false, cond, nat_eq, inl, inr, ◌⊎◌, arith, encode_utf8_all, append_assoc}
use Rattle.std.proofs.lemmas.Bool.{and_parts, eqb-true}
use Rattle.std.proofs.lemmas.List.{append-nil, take-append-drop}
use Rattle.std.specs.Prelude.{option_map, option_and_then}
use Rattle.std.specs.Option.{option_map_or}
use Rattle.std.specs.List.{list_all, join_with_byte}
use Rattle.std.specs.Str.{chars, IsUtf8}
use Rattle.glob_match.specs.declared.pattern.Piece.{Piece}
use Rattle.glob_match.specs.declared.pattern.Piece.TheVariants.{Single, AnyOf}
use Rattle.glob_match.specs.declared.pattern.Unit.TheVariants.{Plain, Escaped, One, Star, Class}
use Rattle.glob_match.specs.declared.pattern.Component.{Component}
use Rattle.glob_match.specs.declared.pattern.Component.TheVariants.{Folders, Name}
use Rattle.glob_match.specs.Fits.{FitsPieces}
use Rattle.glob_match.specs.Folder.{root_of, folder_of, IsFolderOn}
use Rattle.glob_match.specs.GlobMatch.{FitsNames, no_names, one_name, no_folder, one_folder, MatchesPath, ListsFolder, root}
use Rattle.glob_match.specs.Path.{names, is_absolute, relative, is_name}
use Rattle.glob_match.specs.Pattern.{Pattern, ends_in_name}
use Rattle.glob_match.specs.Start.{plain_character, plain_characters, plain_name, plain_names, start}
use Rattle.glob_match.specs.Leading.{LeadsToMatches}
use Rattle.glob_match.proofs.Folders.{EndsInName, ends_behind, ends_by, folder_behind}
use Rattle.glob_match.proofs.PlainGlobs.{plain_pieces, fits_plain, joined, path_of}

-- the pieces of a name without special characters
plain_of : (pieces : List Piece) (text : List ℕ) → plain_characters pieces ≡ Some text → pieces ≡ plain_pieces text
plain_of [] text e = let same : [] ≡ text = cc e in ap plain_pieces same
plain_of (Single (Plain c) ∷ pieces) text e = by (plain_characters pieces) refl e (plain_of pieces)
  where
    by : (o : Option (List ℕ)) → plain_characters pieces ≡ o → option_map (λ (more : List ℕ). c ∷ more) o ≡ Some text
        → ((more : List ℕ) → plain_characters pieces ≡ Some more → pieces ≡ plain_pieces more) → Single (Plain c) ∷ pieces ≡ plain_pieces text
    by None n e step = absurd (cc e)
    by (Some more) n e step = let same : c ∷ more ≡ text = cc e in ap (λ (p : List Piece). Single (Plain c) ∷ p) (step more n) ∙ ap plain_pieces same
plain_of (Single (Escaped c) ∷ pieces) text e = absurd (cc e)
plain_of (Single One ∷ pieces) text e = absurd (cc e)
plain_of (Single Star ∷ pieces) text e = absurd (cc e)
plain_of (Single (Class set) ∷ pieces) text e = absurd (cc e)
plain_of (AnyOf parts ∷ pieces) text e = absurd (cc e)

-- each name is UTF-8
abbrev AreTexts : List (List ℕ) → Type 0
AreTexts all = map encode_utf8_all (map chars all) ≡ all

-- the first names, fewer than all
record AreFirst (first all : List (List ℕ)) : Type 0 where
  is : first ≡ take (length first) all
  fewer : length first < length all

some_names : (components : List Component) (all : List (List ℕ)) → EndsInName components → FitsNames components all → 0 < length all
some_names _ _ ends no_names = absurd (none ends.before ends.is)
  where
    none : (before : List Component) → [] ≡ before ++ Name ends.pieces ∷ [] → ⊥
    none [] e = cc e
    none (c ∷ before) e = cc e
some_names _ _ ends (one_name {others = others} fits rest) = omega arith
some_names _ _ ends (no_folder {components = components} {names = all} rest) = by (ends_behind Folders components ends) (λ behind. some_names components all behind rest)
  where
    by : ((last : List Piece) × (Folders ∷ components ≡ Name last ∷ [])) ⊎ EndsInName components → (EndsInName components → 0 < length all) → 0 < length all
    by (inl h) step = absurd (cc h.1)
    by (inr h) step = step h
some_names _ _ ends (one_folder rest) = omega arith

abbrev but_last : List Component → List Component
but_last components = take (length components - 1) components

but_last_more : (first : Component) (components : List Component) → EndsInName components → but_last (first ∷ components) ≡ first ∷ but_last components
but_last_more first [] ends = absurd (none ends.before ends.is)
  where
    none : (before : List Component) → [] ≡ before ++ Name ends.pieces ∷ [] → ⊥
    none [] e = cc e
    none (c ∷ before) e = cc e
but_last_more first (next ∷ others) ends =
    let whole : length (first ∷ next ∷ others) - 1 ≡ suc (length others) = omega arith in
    let rest : length (next ∷ others) - 1 ≡ length others = omega arith in
    rw (whole, rest) refl

none_first : (all : List (List ℕ)) → 0 < length all → AreFirst [] all
none_first all some = record { is = refl; fewer = some }

plain_first : (components : List Component) (all : List (List ℕ)) → EndsInName components → AreTexts all → FitsNames components all → AreFirst (plain_names (but_last components)) all
plain_first _ _ ends texts no_names = absurd (none ends.before ends.is)
  where
    none : (before : List Component) → [] ≡ before ++ Name ends.pieces ∷ [] → ⊥
    none [] e = cc e
    none (c ∷ before) e = cc e
plain_first _ _ ends texts (one_name {pieces = pieces} {components = components} {name = name} {others = others} fits rest) =
    let here : encode_utf8_all (chars name) ≡ name = cc texts in
    let behind : AreTexts others = cc texts in
    by (ends_behind (Name pieces) components ends) here (λ more. plain_first components others more behind rest)
  where
    named : (o : Option (List ℕ)) → plain_characters pieces ≡ o → encode_utf8_all (chars name) ≡ name → AreFirst (plain_names (but_last components)) others
        → AreFirst (option_map_or (λ (n : List ℕ). n ∷ plain_names (but_last components)) (option_map encode_utf8_all o) []) (name ∷ others)
    named None e here more = none_first (name ∷ others) (omega arith)
    named (Some text) e here more =
        let same : chars name ≡ text = fits_plain text (chars name) (subst (λ (p : List Piece). FitsPieces p (chars name)) (plain_of pieces text e) fits) in
        let own : encode_utf8_all text ≡ name = ap encode_utf8_all (sym same) ∙ here in
        record { is = rw own (ap (λ (n : List (List ℕ)). name ∷ n) more.is); fewer = omega (arith, more.fewer) }

    by : ((last : List Piece) × (Name pieces ∷ components ≡ Name last ∷ [])) ⊎ EndsInName components → encode_utf8_all (chars name) ≡ name
        → (EndsInName components → AreFirst (plain_names (but_last components)) others) → AreFirst (plain_names (but_last (Name pieces ∷ components))) (name ∷ others)
    by (inl h) here step =
        let nothing : components ≡ [] = cc h.1 in
        let short : but_last (Name pieces ∷ components) ≡ [] = rw nothing refl in rw short (none_first (name ∷ others) (omega arith))
    by (inr h) here step =
        let more : but_last (Name pieces ∷ components) ≡ Name pieces ∷ but_last components = but_last_more (Name pieces) components h in
        rw more (named (plain_characters pieces) refl here (step h))
plain_first _ _ ends texts (no_folder {components = components} {names = all} rest) =
    by (ends_behind Folders components ends) (some_names (Folders ∷ components) all ends (no_folder rest))
  where
    by : ((last : List Piece) × (Folders ∷ components ≡ Name last ∷ [])) ⊎ EndsInName components → 0 < length all → AreFirst (plain_names (but_last (Folders ∷ components))) all
    by (inl h) some = absurd (cc h.1)
    by (inr h) some = let more : but_last (Folders ∷ components) ≡ Folders ∷ but_last components = but_last_more Folders components h in rw more (none_first all some)
plain_first _ _ ends texts (one_folder {components = components} {name = name} {others = others} rest) = by (ends_behind Folders components ends)
  where
    by : ((last : List Piece) × (Folders ∷ components ≡ Name last ∷ [])) ⊎ EndsInName components → AreFirst (plain_names (but_last (Folders ∷ components))) (name ∷ others)
    by (inl h) = absurd (cc h.1)
    by (inr h) =
        let more : but_last (Folders ∷ components) ≡ Folders ∷ but_last components = but_last_more Folders components h in rw more (none_first (name ∷ others) (omega arith))

same_root : (pattern : Pattern) (path : List ℕ) → MatchesPath pattern path → root pattern ≡ root_of path
same_root pattern path matches = ap (λ (b : Bool). cond b (47 ∷ []) []) (sym matches.rooted)

start_above : (pattern : Pattern) (path : List ℕ) → ends_in_name pattern.components ≡ true → IsUtf8 path → MatchesPath pattern path → IsFolderOn path (start pattern)
start_above pattern path ends utf8 matches =
    let of = path_of path utf8.0 utf8.1.0 utf8.1.1 in
    let all : List (List ℕ) = names (relative path) in
    let texts : AreTexts all = ap (map encode_utf8_all) of.characters ∙ sym of.all in
    let first = plain_first pattern.components all (ends_by pattern.components ends) texts matches.fits in
    record {
      count = length (plain_names (but_last pattern.components));
      fewer = first.fewer;
      is = ap (λ (r : List ℕ). r ++ join_with_byte 47 (plain_names (but_last pattern.components))) (same_root pattern path matches) ∙ ap (λ (n : List (List ℕ)). root_of path ++ join_with_byte 47 n) first.is;
    }

-- names that are joined, cut between two of them
join_cut : (first next : List ℕ) (front behind : List (List ℕ)) → join_with_byte 47 ((first ∷ front) ++ next ∷ behind) ≡ join_with_byte 47 (first ∷ front) ++ 47 ∷ join_with_byte 47 (next ∷ behind)
join_cut first next [] behind = refl
join_cut first next (second ∷ front) behind =
    ap (λ (t : List ℕ). first ++ 47 ∷ t) (join_cut second next front behind) ∙ sym (append_assoc first (47 ∷ join_with_byte 47 (second ∷ front)) (47 ∷ join_with_byte 47 (next ∷ behind)))

root_and_rest : (path : List ℕ) → path ≡ root_of path ++ relative path
root_and_rest [] = refl
root_and_rest (byte ∷ rest) = by (nat_eq byte 47) refl
  where
    by : (b : Bool) → nat_eq byte 47 ≡ b → byte ∷ rest ≡ cond b (47 ∷ []) [] ++ cond b rest (byte ∷ rest)
    by true e = ap (λ (x : ℕ). x ∷ rest) (eqb-true byte 47 e)
    by false e = refl

-- a folder on a path that isn't the root
pub record IsCutAt (path folder : List ℕ) : Type 0 where
  pub rest : List ℕ
  pub some : folder ≢ []
  pub is : path ≡ folder ++ 47 ∷ rest

pub cut_at : (path : List ℕ) (count : ℕ) → list_all is_name (names (relative path)) ≡ true → suc count < length (names (relative path)) → IsCutAt path (folder_of path (suc count))
cut_at path count proper fewer = by (names (relative path)) refl fewer proper
  where
    joins : (first : List ℕ) (front behind : List (List ℕ)) → 0 < length behind → (rest : List ℕ) × (join_with_byte 47 ((first ∷ front) ++ behind) ≡ join_with_byte 47 (first ∷ front) ++ 47 ∷ rest)
    joins first front [] some = absurd (omega arith)
    joins first front (next ∷ behind) some = (join_with_byte 47 (next ∷ behind), join_cut first next front behind)

    some_text : (root first : List ℕ) (front : List (List ℕ)) → is_name first ≡ true → root ++ join_with_byte 47 (first ∷ front) ≡ [] → ⊥
    some_text (r ∷ root) first front named e = cc e
    some_text [] [] front named e = cc named
    some_text [] (byte ∷ first) [] named e = cc e
    some_text [] (byte ∷ first) (second ∷ front) named e = cc e

    by : (all : List (List ℕ)) → names (relative path) ≡ all → suc count < length all → list_all is_name all ≡ true → IsCutAt path (root_of path ++ join_with_byte 47 (take (suc count) all))
    by [] n fewer proper = absurd (omega arith)
    by (first ∷ others) n fewer proper =
        let left : count < length others = omega arith in
        let behind : 0 < length (drop count others) = search (rules, length_behind others count left) in
        let whole : first ∷ others ≡ (first ∷ take count others) ++ drop count others = ap (λ (t : List (List ℕ)). first ∷ t) (sym (take-append-drop count others)) in
        let cut = joins first (take count others) (drop count others) behind in
        let text : relative path ≡ join_with_byte 47 (first ∷ take count others) ++ 47 ∷ cut.0 = sym (joined (relative path)) ∙ ap (join_with_byte 47) (n ∙ whole) ∙ cut.1 in
        record {
          rest = cut.0;
          some = some_text (root_of path) first (take count others) (and_parts (is_name first) (list_all is_name others) proper).0;
          is = root_and_rest path ∙ ap (λ (t : List ℕ). root_of path ++ t) text ∙ sym (append_assoc (root_of path) (join_with_byte 47 (first ∷ take count others)) (47 ∷ cut.0));
        }
      where
        length_behind : (xs : List (List ℕ)) (k : ℕ) → k < length xs → 0 < length (drop k xs)
        length_behind [] k l = absurd (omega arith)
        length_behind (x ∷ xs) zero l = omega arith
        length_behind (x ∷ xs) (suc k) l = length_behind xs k (omega arith)

folder_holds : (pattern : Pattern) (path folder : List ℕ) → ends_in_name pattern.components ≡ true → MatchesPath pattern path → IsFolderOn path folder → ListsFolder pattern folder
folder_holds pattern path folder ends matches on = subst (ListsFolder pattern) (sym on.is) (by on.count on.fewer)
  where
    by : (count : ℕ) → count < length (names (relative path)) → ListsFolder pattern (folder_of path count)
    by zero fewer = inl (append-nil (root_of path) ∙ sym (same_root pattern path matches))
    by (suc count) fewer =
        let cut = cut_at path count matches.proper fewer in
        folder_behind pattern (folder_of path (suc count)) cut.rest (ends_by pattern.components ends) cut.some (subst (MatchesPath pattern) cut.is matches)

pub leads_to_matches : (pattern : Pattern) → ends_in_name pattern.components ≡ true → LeadsToMatches pattern
leads_to_matches pattern ends = record {
  from_start = λ path utf8 matches. start_above pattern path ends utf8 matches;
  by_folders = λ path folder matches on. folder_holds pattern path folder ends matches on;
}
