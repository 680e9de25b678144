-- What the crate of regular expressions promises of groups, in the words of this crate.
use Rattle.std.proofs.Common.{◌≡◌, ◌≢◌, ℕ, zero, suc, ◌+◌, ◌-◌, ◌*◌, ◌<◌, ◌≤◌, List, [], ◌∷◌, ◌∙◌, ap, sym, refl, subst, Bool, true, false, ◌==◌, ◌&&◌, cond, nat_le, length, drop, get_or, map, zip, ◌++◌, Option, None, Some, option_map, is_some, IsSomeAnd, IfSome, ◌⊎◌, inl, inr, ⊎_elim, All, ne_eqb, arith}
use Rattle.std.proofs.Math.Logic.{∥∥₁_elim}
use Rattle.std.proofs.lemmas.Bool.{cases_lt}
use Rattle.std.proofs.lemmas.Bool.Decides.{nat_tests}
use Rattle.std.proofs.Common.{Global, String}
use Rattle.std.proofs.lemmas.List.{append_assoc, drop-map, drop_more}
use Rattle.std.specs.BTreeMap.{insert_entry}
use Rattle.std.specs.Cmp.Lexicographic.{slice_cmp}
use Rattle.std.specs.Map.{keys_of}
use Rattle.std.specs.Ordering.{nat_cmp}
use Rattle.std.specs.String.{string_bytes}
use Rattle.std.specs.Coded.{coded_ℕ, coded_list, coded_option, coded×}
use Rattle.std.specs.Str.{chars, IsUtf8}
use base.Stored.{Coded-set}
use Rattle.regex_hir.specs.Find.{Match, find_str}
use Rattle.regex_hir.specs.Meaning.{meaning}
use Rattle.regex_hir.specs.Re.{Re}
use Rattle.regex_hir.specs.Text.{is_boundary}
use Rattle.regex_hir.specs.declared.hir.Hir.{Hir}
use Rattle.regex_syntax.proofs.CapturesLemmas.{spans, find_str_alike}
use Rattle.regex_syntax.specs.Captures.{SameCaptures}
use Rattle.regex_syntax.specs.Grammar.{Names, read, group_count}
use Rattle.regex_syntax.specs.Verdict.{default_config, Reads, Refuses}
use Rattle.regex_syntax.specs.declared.error.ErrorKind.{ErrorKind}
use Rattle.regex_syntax.specs.declared.error.ErrorKind.TheVariants.{OutOfMemory, NestLimitExceeded}
use Rattle.regex_vm.specs.Found.{span, group_cells}
use Rattle.regex.proofs.GroupLemmas.{HasRoom, group_span_of_match}
use Rattle.regex.proofs.Utf8Lemmas.{IsCharBoundary-of_test}
use Rattle.regex.specs.Search.{group_span}
use Rattle.regex.specs.Utf8.{MatchesText}
use Rattle.regex.specs.Writes.{both, group_of}
use Rattle.entry_model.specs.Datum.{text, members_of}
use Rattle.json_text.specs.Grammar.{Member, put_all}
use Rattle.text_parsers.specs.Groups.{Reading, reading, is_shallow, names_in, groups_from, named_groups, NamedGroup, members_by, taken, found_in}
use Rattle.regex.specs.Names.{names_of}
use Rattle.regex.specs.Strings.{regex_names, regex_source}
use Rattle.regex.specs.declared.string.regex.Regex.{Regex}
use Rattle.text_parsers.specs.ReadByDefault.{IsCleanSpan, IsReadByDefault}

-- ---- what a pattern is read as

abbrev ReadAs : Reading → Re → Names → Type 0
ReadAs o tree names = IsSomeAnd o (λ (re, found). (re.depth ≤ default_config.nest_limit) × SameCaptures tree re.value × (names ≡ found) × (group_count tree ≤ length names))

shallow : (o : Reading) (tree : Re) (names : Names) → ReadAs o tree names → is_shallow o ≡ true
shallow None tree names r = absurd r
shallow (Some pattern) tree names r = let l = r.0 in grind (arith, nat_tests)

pub is_read : (source : List ℕ) (hir : Hir) (names : Names) → Reads default_config source hir names → is_shallow (reading source) ≡ true
unfolding Reads reading
is_read source hir names r = shallow (read default_config (chars source)) (meaning hir) names r

deep : (o : Reading) (kind : ErrorKind) → kind ≢ OutOfMemory
    → (kind ≡ OutOfMemory) ⊎ ((o ≡ None) ⊎ ((kind ≡ NestLimitExceeded) × IfSome o (λ (re, _). default_config.nest_limit < re.depth))) → is_shallow o ≡ false
deep o kind n (inl h) = absurd (n h)
deep o kind n (inr (inl h)) = ap is_shallow h
deep None kind n (inr (inr h)) = refl
deep (Some pattern) kind n (inr (inr h)) = let l = h.1 in grind (arith, nat_tests)

pub is_not_read : (source : List ℕ) (kind : ErrorKind) → kind ≢ OutOfMemory → Refuses default_config source kind → is_shallow (reading source) ≡ false
unfolding Refuses reading
is_not_read source kind n r = deep (read default_config (chars source)) kind n r

names_of_read : (o : Reading) (tree : Re) (names : Names) → ReadAs o tree names → names ≡ names_in o
names_of_read None tree names r = absurd r
names_of_read (Some pattern) tree names r = r.2

pub names_read : (source : List ℕ) (hir : Hir) (names : Names) → Reads default_config source hir names → names ≡ names_in (reading source)
unfolding Reads reading
names_read source hir names r = names_of_read (read default_config (chars source)) (meaning hir) names r

alike : (o : Reading) (tree : Re) (names : Names) (front : List ℕ) → All (λ b. b < 256) front → ReadAs o tree names → option_map spans (find_str tree front 0) ≡ option_map spans (found_in o front)
alike None tree names front small r = absurd r
alike (Some pattern) tree names front small r = find_str_alike tree pattern.0.value r.1 front small 0

pub found_alike : (source : List ℕ) (hir : Hir) (names : Names) (front : List ℕ) → All (λ b. b < 256) front → Reads default_config source hir names
    → option_map spans (find_str (meaning hir) front 0) ≡ option_map spans (found_in (reading source) front)
unfolding Reads reading
found_alike source hir names front small r = alike (read default_config (chars source)) (meaning hir) names front small r

-- ---- two matches whose spans are the same

some_same : (a b : ℕ × ℕ × (ℕ → Option ℕ)) → Some a ≡ Some b → a ≡ b
some_same a b e = ap (λ (o : Option (ℕ × ℕ × (ℕ → Option ℕ))). elim o [ None ↦ a | Some x ↦ x ]) e

some_alike : (m : Match) (o : Option Match) → option_map spans (Some m) ≡ option_map spans o → (found : Match) × (o ≡ Some found) × (spans m ≡ spans found)
some_alike m None e = absurd (cc e)
some_alike m (Some found) e = (found, refl, some_same (spans m) (spans found) e)

pub match_alike : (m : Match) (o p : Option Match) → o ≡ Some m → option_map spans o ≡ option_map spans p → (found : Match) × (p ≡ Some found) × (spans m ≡ spans found)
match_alike m o p e s = some_alike m p (ap (option_map spans) (sym e) ∙ s)

pub none_alike : (o p : Option Match) → o ≡ None → option_map spans o ≡ option_map spans p → p ≡ None
none_alike o p e s = by p (ap (option_map spans) (sym e) ∙ s)
  where
    by : (p : Option Match) → option_map spans None ≡ option_map spans p → p ≡ None
    by None s = refl
    by (Some m) s = absurd (cc s)

pub group_alike : (m found : Match) → spans m ≡ spans found → (number : ℕ) → group_of m number ≡ group_of found number
group_alike m found e number = ap (λ (s : ℕ × ℕ × (ℕ → Option ℕ)). both (s.2 (2 * number)) (s.2 (2 * number + 1))) e

-- ---- spans lie between characters

clean : (hay : List ℕ) (first last : ℕ) (place : ℕ × ℕ) → (a b c d e : Bool) → nat_le 1 first ≡ a → nat_le first last ≡ b → nat_le last (length hay + 1) ≡ c → is_boundary hay (first - 1) ≡ d → is_boundary hay (last - 1) ≡ e
    → cond (a && (b && (c && (d && e)))) (Some (first - 1, last - 1)) None ≡ Some place → IsCleanSpan hay (Some place)
clean hay first last place true true true true true a b c d e s =
    let one : 1 ≤ first = grind (arith, nat_tests) in
    let ordered : first ≤ last = grind (arith, nat_tests) in
    let within : last ≤ length hay + 1 = grind (arith, nat_tests) in
    let is : (first - 1, last - 1) ≡ place = same_in (first - 1, last - 1) place s in
    subst (λ (p : ℕ × ℕ). IsCleanSpan hay (Some p)) is
    (omega arith, IsCharBoundary-of_test hay (first - 1) (omega arith) d, IsCharBoundary-of_test hay (last - 1) (omega arith) e)
  where
    same_in : (x y : ℕ × ℕ) → Some x ≡ Some y → x ≡ y
    same_in x y e = ap (λ (o : Option (ℕ × ℕ)). elim o [ None ↦ x | Some z ↦ z ]) e
clean hay first last place false _ _ _ _ a b c d e s = absurd (cc s)
clean hay first last place true false _ _ _ a b c d e s = absurd (cc s)
clean hay first last place true true false _ _ a b c d e s = absurd (cc s)
clean hay first last place true true true false _ a b c d e s = absurd (cc s)
clean hay first last place true true true true false a b c d e s = absurd (cc s)

clean_span : (hay : List ℕ) (whole : ℕ × ℕ) (cells : List ℕ) (n : ℕ) (place : ℕ × ℕ) → group_span true hay whole cells (suc n) ≡ Some place → IsCleanSpan hay (Some place)
unfolding group_span
clean_span hay whole cells n place e =
    let positive : (suc n == 0) ≡ false = ne_eqb (suc n) 0 (λ h. omega arith) in
    clean hay (get_or cells (2 * suc n - 2) 0) (get_or cells (2 * suc n - 1) 0) place _ _ _ _ _ refl refl refl refl refl (rw positive at e)

module _ (re : Re) (hay : List ℕ) (m : Match) (width : ℕ) (room : HasRoom re width) (utf8 : IsUtf8 hay) (parts : MatchesText re) (found : find_str re hay 0 ≡ Some m) where
  group_shown : (n : ℕ) → group_span true hay (span m) (group_cells m width) (suc n) ≡ group_of m (suc n)
  group_shown n = ∥∥₁_elim parts (Coded-set (coded_option (coded× coded_ℕ coded_ℕ)) _ _) (λ h. group_span_of_match true re hay 0 m width (suc n) (λ _. (utf8, h)) room (omega arith) found)

  pub group_is_clean : (n : ℕ) → IsCleanSpan hay (group_of m (suc n))
  group_is_clean n = by (group_of m (suc n)) (group_shown n)
    where
      by : (o : Option (ℕ × ℕ)) → group_span true hay (span m) (group_cells m width) (suc n) ≡ o → IsCleanSpan hay o
      by None e = tt
      by (Some place) e = clean_span hay (span m) (group_cells m width) n place e

-- ---- the members at the groups

pub same_members : (f g : ℕ → Option (ℕ × ℕ)) (front : List ℕ) (number : ℕ) (names : Names) → ((n : ℕ) → number ≤ n → n < number + length names → f n ≡ g n)
    → members_by f front (groups_from number names) ≡ members_by g front (groups_from number names)
same_members f g front number [] e = refl
same_members f g front number (None ∷ names) e = same_members f g front (number + 1) names (λ n l h. e n (omega arith) (omega arith))
same_members f g front number (Some name ∷ names) e =
    ap (λ (o : Option (ℕ × ℕ)). (name, text (taken front o)) ∷ members_by f front (groups_from (number + 1) names)) (e number (omega arith) (omega arith))
    ∙ ap (λ (l : List Member). (name, text (taken front (g number))) ∷ l) (same_members f g front (number + 1) names (λ n l h. e n (omega arith) (omega arith)))

same_named : (f g : ℕ → Option (ℕ × ℕ)) (front : List ℕ) (names : Names) → ((n : ℕ) → 1 ≤ n → n < length names → f n ≡ g n) → members_by f front (named_groups names) ≡ members_by g front (named_groups names)
same_named f g front [] e = refl
same_named f g front (whole ∷ names) e = same_members f g front 1 names (λ n l h. e n l (omega arith))

-- ---- a search

pub none_of : (o : Option Match) → is_some o ≡ false → o ≡ None
none_of None e = refl
none_of (Some m) e = absurd (cc e)

pub some_of : (o : Option Match) → is_some o ≡ true → (m : Match) × (o ≡ Some m)
some_of None e = absurd (cc e)
some_of (Some m) e = (m, refl)

module _ (source front : List ℕ) (hir : Hir) (names : Names) (small : All (λ b. b < 256) front) (read : Reads default_config source hir names) (re : Re) (same : re ≡ meaning hir) where
  alike_here : option_map spans (find_str re front 0) ≡ option_map spans (found_in (reading source) front)
  alike_here = ap (λ (r : Re). option_map spans (find_str r front 0)) same ∙ found_alike source hir names front small read

  pub no_match : find_str re front 0 ≡ None → is_some (found_in (reading source) front) ≡ false
  no_match e = ap is_some (none_alike (find_str re front 0) (found_in (reading source) front) e alike_here)

  module _ (m : Match) (found : find_str re front 0 ≡ Some m) where
    pub some_match : is_some (found_in (reading source) front) ≡ true
    some_match = ap is_some (match_alike m (find_str re front 0) (found_in (reading source) front) found alike_here).1

    pub matched : (n : Match) → found_in (reading source) front ≡ Some n → (location : ℕ → Option (ℕ × ℕ)) (count : ℕ) → count ≡ length names → ((k : ℕ) → 1 ≤ k → k < count → location k ≡ group_of m k)
        → (groups : List NamedGroup) → groups ≡ named_groups names → (members : List Member) → members ≡ put_all [] (members_by location front groups)
        → members_of members ≡ members_of (put_all [] (members_by (group_of n) front (named_groups (names_in (reading source)))))
    matched n is location count count_is shown groups groups_are members members_are =
        let alike = some_same (spans m) (spans n) (ap (option_map spans) (sym found) ∙ alike_here ∙ ap (option_map spans) is) in
        ap members_of (
        members_are ∙ ap (λ (gs : List NamedGroup). put_all [] (members_by location front gs)) groups_are
        ∙ ap (put_all []) (same_named location (group_of n) front names (λ k l h. shown k l (omega arith) ∙ group_alike m n alike k))
        ∙ ap (λ (ns : Names). put_all [] (members_by (group_of n) front (named_groups ns))) (names_read source hir names read)
        )

-- each location lies between characters
pub locations_are_clean : (re : Re) (hay : List ℕ) (m : Match) (width : ℕ) → HasRoom re width → IsUtf8 hay → MatchesText re → find_str re hay 0 ≡ Some m → (location : ℕ → Option (ℕ × ℕ)) (count : ℕ)
    → (0 < count → IsCleanSpan hay (location 0)) → ((n : ℕ) → 1 ≤ n → n < count → location n ≡ group_of m n) → ((n : ℕ) → count ≤ n → location n ≡ None) → (n : ℕ) → IsCleanSpan hay (location n)
locations_are_clean re hay m width room utf8 parts found location count first shown past n =
    ⊎_elim
    (λ (l : n < count). inside n l)
    (λ (l : count ≤ n). subst (IsCleanSpan hay) (sym (past n l)) tt)
    (cases_lt n count)
  where
    inside : (n : ℕ) → n < count → IsCleanSpan hay (location n)
    inside zero l = first l
    inside (suc n) l = subst (IsCleanSpan hay) (sym (shown (suc n) (omega arith) l)) (group_is_clean re hay m width room utf8 parts found n)

-- ---- steps of loops over groups and names

module _ {A B : Type 0} (f : A → B) (xs : List A) (i : ℕ) (x : A) (h : i < length xs) (is : x ≡ get_or xs i x) where
  mapped_left : drop i (map f xs) ≡ f x ∷ drop (i + 1) (map f xs)
  mapped_left =
      drop-map f i xs ∙ ap (map f) (drop_more xs i x h ∙ ap (λ (y : A). y ∷ drop (i + 1) xs) (sym is)) ∙ ap (λ (l : List B). f x ∷ l) (sym (drop-map f (i + 1) xs))

pub keys-groups : (span_of : ℕ → Option (ℕ × ℕ)) (front : List ℕ) (numbers : List ℕ) (names : List (List ℕ)) → length numbers ≡ length names → keys_of (members_by span_of front (zip numbers names)) ≡ names
keys-groups span_of front [] [] h = refl
keys-groups span_of front [] (name ∷ names) h = absurd (omega (arith, h))
keys-groups span_of front (number ∷ numbers) [] h = absurd (omega (arith, h))
keys-groups span_of front (number ∷ numbers) (name ∷ names) h = ap (λ (l : List (List ℕ)). name ∷ l) (keys-groups span_of front numbers names (omega (arith, h)))

-- one group more is put in
pub one_group_more : (span_of : ℕ → Option (ℕ × ℕ)) (front : List ℕ) (numbers behind : List ℕ) (names rest : List (List ℕ)) (number : ℕ) (name found : List ℕ) (old new : List Member)
    → numbers ≡ number ∷ behind → names ≡ name ∷ rest → found ≡ taken front (span_of number) → new ≡ insert_entry (slice_cmp nat_cmp) old name (text found)
    → put_all new (members_by span_of front (zip behind rest)) ≡ put_all old (members_by span_of front (zip numbers names))
one_group_more span_of front numbers behind names rest number name found old new e f is put =
    ap (λ (ms : List Member). put_all ms (members_by span_of front (zip behind rest))) (put ∙ ap (λ (t : List ℕ). insert_entry (slice_cmp nat_cmp) old name (text t)) is)
    ∙ sym (ap (λ (ns : List ℕ). put_all old (members_by span_of front (zip ns names))) e ∙ ap (λ (ns : List (List ℕ)). put_all old (members_by span_of front (zip (number ∷ behind) ns))) f)

pub zip_push : (numbers : List ℕ) (names : List (List ℕ)) (number : ℕ) (name : List ℕ) → length numbers ≡ length names → zip (numbers ++ number ∷ []) (names ++ name ∷ []) ≡ zip numbers names ++ (number, name) ∷ []
zip_push [] [] number name h = refl
zip_push [] (n ∷ names) number name h = absurd (omega (arith, h))
zip_push (k ∷ numbers) [] number name h = absurd (omega (arith, h))
zip_push (k ∷ numbers) (n ∷ names) number name h = ap (λ (l : List NamedGroup). (k, n) ∷ l) (zip_push numbers names number name (omega (arith, h)))

pub nothing_zipped : (numbers : List ℕ) (names : List (List ℕ)) → length numbers ≡ length names → zip numbers names ≡ [] → length numbers ≡ 0
nothing_zipped [] names h e = refl
nothing_zipped (k ∷ numbers) [] h e = absurd (omega (arith, h))
nothing_zipped (k ∷ numbers) (n ∷ names) h e = absurd (cc e)

module _ (names : List (Option (String Global))) (i : ℕ) (o : Option (String Global)) (h : i < length names) (is : o ≡ get_or names i o) (done all : List NamedGroup)
    (before : done ++ groups_from (i + 1) (drop i (names_of names)) ≡ all) where
  here : done ++ groups_from (i + 1) (option_map string_bytes o ∷ drop (i + 1) (names_of names)) ≡ all
  here = ap (λ (ns : Names). done ++ groups_from (i + 1) ns) (sym (mapped_left (option_map string_bytes) names i o h is)) ∙ before

  pub no_name_more : o ≡ None → done ++ groups_from (i + 1 + 1) (drop (i + 1) (names_of names)) ≡ all
  no_name_more e = ap (λ (x : Option (String Global)). done ++ groups_from (i + 1) (option_map string_bytes x ∷ drop (i + 1) (names_of names))) (sym e) ∙ here

  pub one_name_more : (s : String Global) → o ≡ Some s → (group : NamedGroup) → group ≡ (i + 1, string_bytes s) → (done ++ group ∷ []) ++ groups_from (i + 1 + 1) (drop (i + 1) (names_of names)) ≡ all
  one_name_more s e group is =
      append_assoc done (group ∷ []) (groups_from (i + 1 + 1) (drop (i + 1) (names_of names)))
      ∙ ap (λ (g : NamedGroup). done ++ g ∷ groups_from (i + 1 + 1) (drop (i + 1) (names_of names))) is
      ∙ ap (λ (x : Option (String Global)). done ++ groups_from (i + 1) (option_map string_bytes x ∷ drop (i + 1) (names_of names))) (sym e) ∙ here

-- the names of a pattern are those of its text
pub names_are_read : (regex : Regex) → IsReadByDefault regex → (source : List ℕ) → regex_source regex ≡ source → regex_names regex ≡ names_in (reading source)
names_are_read regex read source is =
    ∥∥₁_elim read (Coded-set (coded_list (coded_option (coded_list coded_ℕ))) _ _)
    (λ r. names_read (regex_source regex) regex.pattern.program.hir (names_of regex.pattern.names.items) (rw r.0 at r.1)) ∙ ap (λ (s : List ℕ). names_in (reading s)) is
