-- The folders on a path, and their depth.
use Rattle.std.proofs.Common.{◌≡◌, ◌≢◌, ℕ, zero, suc, ◌+◌, ◌<◌, ◌≤◌, List, [], ◌∷◌, ◌++◌, ◌∙◌, ap, sym, refl, subst, length, take, drop, get_or, Bool, true, false, not, cond, nat_eq, ◌&&◌, inl, inr, ◌⊎◌, arith, append_assoc, length-append}
use Rattle.std.proofs.Math.Seq.{take-suc, take-length}
use Rattle.std.proofs.lemmas.Bool.{and_parts, and_from, not-true, eqb-true}
use Rattle.std.proofs.lemmas.List.{append-nil, take-append-drop, length-take-le}
use Rattle.std.proofs.lemmas.List.Sums.{sum_by-cons}
use Rattle.std.proofs.lemmas.Slice.Eq.{bytes_eq-Decides}
use Rattle.std.specs.Prelude.{IsTrue}
use Rattle.std.specs.List.{list_all, join_with_byte, starts_with, count_by}
use Rattle.std.specs.Str.{bytes_eq}
use Rattle.glob_match.specs.Folder as glob_folder
use Rattle.glob_match.specs.Path as glob_path
use Rattle.glob_match.specs.Path.{is_absolute}
use Rattle.outside.specs.Listing.{path_within}
use Rattle.outside.specs.Path.{in_front, components, relative, is_component, is_path, is_name, is_below}
use Rattle.standing.specs.Pass.{root_of, IsOnWay}
use Rattle.tree_walk.proofs.Worlds.{starts_self}
use Rattle.tree_walk.specs.Depth.{count_of, depth}

-- a path in the words of globs
same_front : (byte : ℕ) (all : List (List ℕ)) → glob_path.in_front byte all ≡ in_front byte all
same_front byte [] = refl
same_front byte (first ∷ others) = refl

pub same_names : (text : List ℕ) → glob_path.names text ≡ components text
same_names [] = refl
same_names (byte ∷ rest) = by (nat_eq byte 47) (same_names rest)
  where
    by : (b : Bool) → glob_path.names rest ≡ components rest → cond b ([] ∷ glob_path.names rest) (glob_path.in_front byte (glob_path.names rest)) ≡ cond b ([] ∷ components rest) (in_front byte (components rest))
    by true e = ap (λ (n : List (List ℕ)). [] ∷ n) e
    by false e = same_front byte (glob_path.names rest) ∙ ap (in_front byte) e

same_relative : (path : List ℕ) → glob_path.relative path ≡ relative path
same_relative [] = refl
same_relative (byte ∷ rest) = refl

same_root : (path : List ℕ) → glob_folder.root_of path ≡ root_of path
same_root [] = refl
same_root (byte ∷ rest) = refl

abbrev pub parts : List ℕ → List (List ℕ)
parts path = components (relative path)

pub same_parts : (path : List ℕ) → glob_path.names (glob_path.relative path) ≡ parts path
same_parts path = same_names (glob_path.relative path) ∙ ap components (same_relative path)

-- the folder of the path's first components
abbrev pub front : List ℕ → ℕ → List ℕ
front path count = root_of path ++ join_with_byte 47 (take count (parts path))

pub same_folder : (path : List ℕ) (count : ℕ) → glob_folder.folder_of path count ≡ front path count
same_folder path count =
    ap (λ (r : List ℕ). r ++ join_with_byte 47 (take count (glob_path.names (glob_path.relative path)))) (same_root path) ∙ ap (λ (n : List (List ℕ)). root_of path ++ join_with_byte 47 (take count n)) (same_parts path)

-- components have no slash
abbrev pub is_clear : List ℕ → Bool
is_clear name = list_all (λ byte. not (nat_eq byte 47)) name

some_parts : (text : List ℕ) → components text ≡ [] → ⊥
some_parts [] e = cc e
some_parts (byte ∷ rest) e = by (nat_eq byte 47) (components rest) e
  where
    by : (b : Bool) (all : List (List ℕ)) → cond b ([] ∷ all) (in_front byte all) ≡ [] → ⊥
    by true all h = cc h
    by false [] h = cc h
    by false (first ∷ others) h = cc h

pub some_length : (text : List ℕ) → 0 < length (components text)
some_length text = by (components text) (some_parts text)
  where
    by : (all : List (List ℕ)) → (all ≡ [] → ⊥) → 0 < length all
    by [] never = absurd (never refl)
    by (first ∷ others) never = omega arith

clear_parts : (text : List ℕ) → list_all is_clear (components text) ≡ true
clear_parts [] = refl
clear_parts (byte ∷ rest) = by (nat_eq byte 47) refl (components rest) (clear_parts rest)
  where
    by : (b : Bool) → nat_eq byte 47 ≡ b → (all : List (List ℕ)) → list_all is_clear all ≡ true → list_all is_clear (cond b ([] ∷ all) (in_front byte all)) ≡ true
    by true e all h = h
    by false e [] h = rw e refl
    by false e (first ∷ others) h = rw e h

clear_cut : (name rest : List ℕ) → is_clear name ≡ true → components (name ++ 47 ∷ rest) ≡ name ∷ components rest
clear_cut [] rest h = refl
clear_cut (byte ∷ name) rest h =
    let both = and_parts (not (nat_eq byte 47)) (is_clear name) h in
    let other : nat_eq byte 47 ≡ false = not-true (nat_eq byte 47) both.0 in
    rw other (ap (in_front byte) (clear_cut name rest both.1))

clear_whole : (name : List ℕ) → is_clear name ≡ true → components name ≡ name ∷ []
clear_whole [] h = refl
clear_whole (byte ∷ name) h =
    let both = and_parts (not (nat_eq byte 47)) (is_clear name) h in
    let other : nat_eq byte 47 ≡ false = not-true (nat_eq byte 47) both.0 in
    rw other (ap (in_front byte) (clear_whole name both.1))

parts_joined : (first : List ℕ) (others : List (List ℕ)) → is_clear first ≡ true → list_all is_clear others ≡ true → components (join_with_byte 47 (first ∷ others)) ≡ first ∷ others
parts_joined first [] h hs = clear_whole first h
parts_joined first (second ∷ others) h hs =
    let both = and_parts (is_clear second) (list_all is_clear others) hs in
    clear_cut first (join_with_byte 47 (second ∷ others)) h ∙ ap (λ (n : List (List ℕ)). first ∷ n) (parts_joined second others both.0 both.1)

joined : (text : List ℕ) → join_with_byte 47 (components text) ≡ text
joined [] = refl
joined (c ∷ text) = by (nat_eq c 47) refl (components text) refl (joined text)
  where
    by : (b : Bool) → nat_eq c 47 ≡ b → (all : List (List ℕ)) → components text ≡ all → join_with_byte 47 (components text) ≡ text → join_with_byte 47 (cond (nat_eq c 47) ([] ∷ components text) (in_front c (components text))) ≡ c ∷ text
    by b e [] n more = absurd (some_parts text n)
    by true e (first ∷ rest) n more = rw (e, n) (ap (λ (t : List ℕ). 47 ∷ t) (ap (join_with_byte 47) (sym n) ∙ more) ∙ ap (λ (x : ℕ). x ∷ text) (sym (eqb-true c 47 e)))
    by false e (first ∷ []) n more = rw (e, n) (ap (λ (t : List ℕ). c ∷ t) (ap (join_with_byte 47) (sym n) ∙ more))
    by false e (first ∷ next ∷ rest) n more = rw (e, n) (ap (λ (t : List ℕ). c ∷ t) (ap (join_with_byte 47) (sym n) ∙ more))

join_behind : (first name : List ℕ) (others : List (List ℕ)) → join_with_byte 47 ((first ∷ others) ++ name ∷ []) ≡ join_with_byte 47 (first ∷ others) ++ 47 ∷ name
join_behind first name [] = refl
join_behind first name (second ∷ others) =
    ap (λ (t : List ℕ). first ++ 47 ∷ t) (join_behind second name others) ∙ sym (append_assoc first (47 ∷ join_with_byte 47 (second ∷ others)) (47 ∷ name))

join_cut : (first next : List ℕ) (others behind : List (List ℕ)) → join_with_byte 47 ((first ∷ others) ++ next ∷ behind) ≡ join_with_byte 47 (first ∷ others) ++ 47 ∷ join_with_byte 47 (next ∷ behind)
join_cut first next [] behind = refl
join_cut first next (second ∷ others) behind =
    ap (λ (t : List ℕ). first ++ 47 ∷ t) (join_cut second next others behind) ∙ sym (append_assoc first (47 ∷ join_with_byte 47 (second ∷ others)) (47 ∷ join_with_byte 47 (next ∷ behind)))

front_length : (byte : ℕ) (all : List (List ℕ)) → 0 < length all → length (in_front byte all) ≡ length all
front_length byte [] some = absurd (omega arith)
front_length byte (first ∷ others) some = refl

cut_length : (folder rest : List ℕ) → length (components (folder ++ 47 ∷ rest)) ≡ length (components folder) + length (components rest)
cut_length [] rest = omega arith
cut_length (byte ∷ folder) rest = by (nat_eq byte 47) (cut_length folder rest)
  where
    by : (b : Bool) → length (components (folder ++ 47 ∷ rest)) ≡ length (components folder) + length (components rest)
        → length (cond b ([] ∷ components (folder ++ 47 ∷ rest)) (in_front byte (components (folder ++ 47 ∷ rest)))) ≡ length (cond b ([] ∷ components folder) (in_front byte (components folder))) + length (components rest)
    by true e = omega arith
    by false e = front_length byte (components (folder ++ 47 ∷ rest)) (some_length (folder ++ 47 ∷ rest)) ∙ e ∙ ap (λ (n : ℕ). n + length (components rest)) (sym (front_length byte (components folder) (some_length folder)))

-- a component begins with a byte that is no slash
pub record Begins (name : List ℕ) : Type 0 where
  pub byte : ℕ
  pub others : List ℕ
  pub is : name ≡ byte ∷ others
  pub no_slash : nat_eq byte 47 ≡ false

begins : (name : List ℕ) → is_component name ≡ true → is_clear name ≡ true → Begins name
begins [] proper clear = absurd (cc proper)
begins (byte ∷ others) proper clear =
    record { byte = byte; others = others; is = refl; no_slash = not-true (nat_eq byte 47) (and_parts (not (nat_eq byte 47)) (is_clear others) clear).0 }

join_begins : (first : List ℕ) (others : List (List ℕ)) → Begins first → Begins (join_with_byte 47 (first ∷ others))
join_begins first [] b = b
join_begins first (second ∷ others) b = record { byte = b.byte; others = b.others ++ 47 ∷ join_with_byte 47 (second ∷ others); is = ap (λ (t : List ℕ). t ++ 47 ∷ join_with_byte 47 (second ∷ others)) b.is; no_slash = b.no_slash }

root_cases : (path : List ℕ) → (root_of path ≡ []) ⊎ (root_of path ≡ 47 ∷ [])
root_cases [] = inl refl
root_cases (byte ∷ rest) = by (nat_eq byte 47)
  where
    by : (b : Bool) → (cond {A = List ℕ} b (47 ∷ []) [] ≡ []) ⊎ (cond {A = List ℕ} b (47 ∷ []) [] ≡ 47 ∷ [])
    by true = inr refl
    by false = inl refl

pub root_and_rest : (path : List ℕ) → path ≡ root_of path ++ relative path
root_and_rest [] = refl
root_and_rest (byte ∷ rest) = by (nat_eq byte 47) refl
  where
    by : (b : Bool) → nat_eq byte 47 ≡ b → byte ∷ rest ≡ cond b (47 ∷ []) [] ++ cond b rest (byte ∷ rest)
    by true e = ap (λ (x : ℕ). x ∷ rest) (eqb-true byte 47 e)
    by false e = refl

-- a folder that is neither the working folder nor the root
within_other : (root text name : List ℕ) → (root ≡ []) ⊎ (root ≡ 47 ∷ []) → Begins text → path_within (root ++ text) name ≡ (root ++ text) ++ 47 ∷ name
within_other root text name (inl none) b = let is : root ++ text ≡ b.byte ∷ b.others = ap (λ (r : List ℕ). r ++ text) none ∙ b.is in rw (is, b.no_slash) refl
within_other root text name (inr one) b = let is : root ++ text ≡ 47 ∷ b.byte ∷ b.others = ap (λ (r : List ℕ). r ++ text) one ∙ ap (λ (t : List ℕ). 47 ∷ t) b.is in rw is refl

depth_other : (root text : List ℕ) → (root ≡ []) ⊎ (root ≡ 47 ∷ []) → Begins text → depth (root ++ text) ≡ length (components text)
depth_other root text (inl none) b = let is : root ++ text ≡ b.byte ∷ b.others = ap (λ (r : List ℕ). r ++ text) none ∙ b.is in rw (is, b.no_slash) (ap (λ (t : List ℕ). length (components t)) (sym b.is))
depth_other root text (inr one) b = let is : root ++ text ≡ 47 ∷ b.byte ∷ b.others = ap (λ (r : List ℕ). r ++ text) one ∙ ap (λ (t : List ℕ). 47 ∷ t) b.is in rw is (ap (λ (t : List ℕ). length (components t)) (sym b.is))

-- The folder of at least one component, and the rest behind it.
module _ (path : List ℕ) (proper : is_path path ≡ true) where
  -- some components, and how the first begins
  record Named (count : ℕ) : Type 0 where
    first : List ℕ
    more : List (List ℕ)
    behind : List (List ℕ)
    taken : take (suc count) (parts path) ≡ first ∷ more
    whole : parts path ≡ (first ∷ more) ++ behind
    size : length (first ∷ more) ≡ suc count
    starts : Begins first
    clear_first : is_clear first ≡ true
    clear_more : list_all is_clear more ≡ true

  named : (count : ℕ) → count < length (parts path) → Named count
  named count within = by (parts path) refl within proper (clear_parts (relative path))
    where
      all_taken : (all : List (List ℕ)) (k : ℕ) → list_all is_clear all ≡ true → list_all is_clear (take k all) ≡ true
      all_taken [] zero h = refl
      all_taken [] (suc k) h = refl
      all_taken (x ∷ all) zero h = refl
      all_taken (x ∷ all) (suc k) h = let both = and_parts (is_clear x) (list_all is_clear all) h in and_from (is_clear x) (list_all is_clear (take k all)) both.0 (all_taken all k both.1)

      by : (all : List (List ℕ)) → parts path ≡ all → count < length all → list_all is_component all ≡ true → list_all is_clear all ≡ true → Named count
      by [] n l p c = absurd (omega arith)
      by (first ∷ others) n l p c =
          let each = and_parts (is_component first) (list_all is_component others) p in
          let clear = and_parts (is_clear first) (list_all is_clear others) c in
          record {
            first = first;
            more = take count others;
            behind = drop count others;
            taken = ap (take (suc count)) n;
            whole = n ∙ ap (λ (t : List (List ℕ)). first ∷ t) (sym (take-append-drop count others));
            size = ap suc (length-take-le count others (omega arith));
            starts = begins first each.0 clear.0;
            clear_first = clear.0;
            clear_more = all_taken others count clear.1;
          }

  front_named : (count : ℕ) (n : Named count) → front path (suc count) ≡ root_of path ++ join_with_byte 47 (n.first ∷ n.more)
  front_named count n = ap (λ (t : List (List ℕ)). root_of path ++ join_with_byte 47 t) n.taken

  pub depth_front : (count : ℕ) → count ≤ length (parts path) → depth (front path count) ≡ count
  depth_front zero within = by (root_cases path)
    where
      by : (root_of path ≡ []) ⊎ (root_of path ≡ 47 ∷ []) → depth (root_of path ++ []) ≡ 0
      by (inl none) = rw none refl
      by (inr one) = rw one refl
  depth_front (suc count) within =
      let n = named count (omega arith) in
      ap depth (front_named count n) ∙ depth_other (root_of path) (join_with_byte 47 (n.first ∷ n.more)) (root_cases path) (join_begins n.first n.more n.starts)
      ∙ ap (λ (t : List (List ℕ)). length t) (parts_joined n.first n.more n.clear_first n.clear_more) ∙ n.size

  -- one component further
  pub front_next : (count : ℕ) → count < length (parts path) → path_within (front path count) (get_or (parts path) count []) ≡ front path (suc count)
  front_next zero within = by (root_cases path) (take-suc (parts path) 0 [] within)
    where
      name : List ℕ
      name = get_or (parts path) 0 []

      by : (root_of path ≡ []) ⊎ (root_of path ≡ 47 ∷ []) → take 1 (parts path) ≡ name ∷ [] → path_within (root_of path ++ []) name ≡ root_of path ++ join_with_byte 47 (take 1 (parts path))
      by (inl none) e = rw (none, e) refl
      by (inr one) e = rw (one, e) refl
  front_next (suc count) within =
      let n = named count (omega arith) in
      let name = get_or (parts path) (suc count) [] in
      let text = join_with_byte 47 (n.first ∷ n.more) in
      let all : take (suc (suc count)) (parts path) ≡ (n.first ∷ n.more) ++ name ∷ [] = take-suc (parts path) (suc count) [] within ∙ ap (λ (t : List (List ℕ)). t ++ name ∷ []) n.taken in
      ap (λ (f : List ℕ). path_within f name) (front_named count n) ∙ within_other (root_of path) text name (root_cases path) (join_begins n.first n.more n.starts)
      ∙ append_assoc (root_of path) text (47 ∷ name) ∙ ap (λ (t : List ℕ). root_of path ++ t) (sym (join_behind n.first name n.more)) ∙ ap (λ (t : List (List ℕ)). root_of path ++ join_with_byte 47 t) (sym all)

  pub front_whole : front path (length (parts path)) ≡ path
  front_whole = ap (λ (t : List (List ℕ)). root_of path ++ join_with_byte 47 t) (take-length (parts path)) ∙ ap (λ (t : List ℕ). root_of path ++ t) (joined (relative path)) ∙ sym (root_and_rest path)

  -- each of its names is one
  pub name_proper : (count : ℕ) → count < length (parts path) → is_name (get_or (parts path) count []) ≡ true
  name_proper count within = by (parts path) count within proper (clear_parts (relative path))
    where
      by : (all : List (List ℕ)) (k : ℕ) → k < length all → list_all is_component all ≡ true → list_all is_clear all ≡ true → is_name (get_or all k []) ≡ true
      by [] k l p c = absurd (omega arith)
      by (first ∷ others) zero l p c = and_from (is_component first) (is_clear first) (and_parts (is_component first) (list_all is_component others) p).0 (and_parts (is_clear first) (list_all is_clear others) c).0
      by (first ∷ others) (suc k) l p c = by others k (omega arith) (and_parts (is_component first) (list_all is_component others) p).1 (and_parts (is_clear first) (list_all is_clear others) c).1

  -- the path lies below it
  pub front_below : (count : ℕ) → suc count < length (parts path) → (front path (suc count) ≢ []) × IsTrue (is_below (front path (suc count)) path)
  front_below count within =
      let n = named count (omega arith) in
      let text = join_with_byte 47 (n.first ∷ n.more) in
      let cut = behind n (omega (arith, ap (λ (t : List (List ℕ)). length t) n.whole, length-append (n.first ∷ n.more) n.behind, n.size)) in
      let whole : path ≡ (root_of path ++ text) ++ 47 ∷ cut.0 = root_and_rest path ∙ ap (λ (t : List ℕ). root_of path ++ t) (sym (joined (relative path)) ∙ cut.1) ∙ sym (append_assoc (root_of path) text (47 ∷ cut.0)) in
      rw (front_named count n) (some n, below (root_of path ++ text) path cut.0 whole)
    where
      behind : (n : Named count) → 0 < length n.behind → (rest : List ℕ) × (join_with_byte 47 (parts path) ≡ join_with_byte 47 (n.first ∷ n.more) ++ 47 ∷ rest)
      behind n some = by n.behind refl some
        where
          by : (all : List (List ℕ)) → n.behind ≡ all → 0 < length all → (rest : List ℕ) × (join_with_byte 47 (parts path) ≡ join_with_byte 47 (n.first ∷ n.more) ++ 47 ∷ rest)
          by [] e s = absurd (omega arith)
          by (next ∷ others) e s = (join_with_byte 47 (next ∷ others), ap (join_with_byte 47) (n.whole ∙ ap (λ (t : List (List ℕ)). (n.first ∷ n.more) ++ t) e) ∙ join_cut n.first next n.more others)

      some : (n : Named count) → root_of path ++ join_with_byte 47 (n.first ∷ n.more) ≢ []
      some n = by (root_cases path)
        where
          b : Begins (join_with_byte 47 (n.first ∷ n.more))
          b = join_begins n.first n.more n.starts

          by : (root_of path ≡ []) ⊎ (root_of path ≡ 47 ∷ []) → root_of path ++ join_with_byte 47 (n.first ∷ n.more) ≡ [] → ⊥
          by (inl none) e = let is : b.byte ∷ b.others ≡ [] = sym (ap (λ (r : List ℕ). r ++ join_with_byte 47 (n.first ∷ n.more)) none ∙ b.is) ∙ e in cc is
          by (inr one) e = let is : 47 ∷ join_with_byte 47 (n.first ∷ n.more) ≡ [] = sym (ap (λ (r : List ℕ). r ++ join_with_byte 47 (n.first ∷ n.more)) one) ∙ e in cc is

      below : (folder whole rest : List ℕ) → whole ≡ folder ++ 47 ∷ rest → IsTrue (is_below folder whole)
      below folder whole rest e = rw e (subst (λ (t : List ℕ). starts_with nat_eq t (folder ++ 47 ∷ []) ≡ true) (append_assoc folder (47 ∷ []) rest) (starts_self (folder ++ 47 ∷ []) rest))

  pub front_on_way : (count : ℕ) → count < length (parts path) → IsOnWay path (front path count)
  front_on_way zero within = inl (append-nil (root_of path))
  front_on_way (suc count) within = inr (front_below count within)

-- a name in a folder is one component deeper
pub depth_child : (folder name : List ℕ) → is_name name ≡ true → depth (path_within folder name) ≡ depth folder + 1
depth_child folder name proper = by folder
  where
    both : (is_component name ≡ true) × (is_clear name ≡ true)
    both = let p = and_parts (is_component name) (is_clear name) proper in (p.0, p.1)

    b : Begins name
    b = begins name both.0 both.1

    one : length (components name) ≡ 1
    one = ap (λ (t : List (List ℕ)). length t) (clear_whole name both.1)

    other : (byte : ℕ) (rest : List ℕ) → bytes_eq (byte ∷ rest) (47 ∷ []) ≡ false → depth ((byte ∷ rest) ++ 47 ∷ name) ≡ depth (byte ∷ rest) + 1
    other byte rest e = cases (nat_eq byte 47) refl rest e
      where
        cases : (t : Bool) → nat_eq byte 47 ≡ t → (rest : List ℕ) → bytes_eq (byte ∷ rest) (47 ∷ []) ≡ false → depth ((byte ∷ rest) ++ 47 ∷ name) ≡ depth (byte ∷ rest) + 1
        cases true h [] e = let is : true ≡ false = rw h at e in absurd (cc is)
        cases true h (next ∷ rest) e = rw h (omega (arith, cut_length (next ∷ rest) name, one))
        cases false h rest e = rw h (omega (arith, cut_length (byte ∷ rest) name, one))

    by : (folder : List ℕ) → depth (path_within folder name) ≡ depth folder + 1
    by [] = depth_other [] name (inl refl) b ∙ one
    by (byte ∷ rest) = cases (bytes_eq (byte ∷ rest) (47 ∷ [])) refl
      where
        cases : (t : Bool) → bytes_eq (byte ∷ rest) (47 ∷ []) ≡ t → depth (path_within (byte ∷ rest) name) ≡ depth (byte ∷ rest) + 1
        cases true h =
            let is : byte ∷ rest ≡ 47 ∷ [] = (bytes_eq-Decides (byte ∷ rest) (47 ∷ [])).0 h in
            let P : List ℕ → Type 0 = λ f. depth (path_within f name) ≡ depth f + 1 in
            subst P (sym is) (depth_other (47 ∷ []) name (inr refl) b ∙ one)
        cases false h = rw h (other byte rest h)

-- slashes stand between components
abbrev is_slash : ℕ → Bool
is_slash byte = nat_eq byte 47

count_more : (byte : ℕ) (rest : List ℕ) (b : Bool) → nat_eq byte 47 ≡ b → count_by is_slash (byte ∷ rest) ≡ cond b 1 0 + count_by is_slash rest
count_more byte rest b e = sum_by-cons (λ x. cond (is_slash x) 1 0) byte rest ∙ ap (λ (t : Bool). cond t 1 0 + count_by is_slash rest) e

slashes_length : (text : List ℕ) → length (components text) ≡ count_by is_slash text + 1
slashes_length [] = refl
slashes_length (byte ∷ rest) = by (nat_eq byte 47) refl (slashes_length rest)
  where
    by : (b : Bool) → nat_eq byte 47 ≡ b → length (components rest) ≡ count_by is_slash rest + 1 → length (components (byte ∷ rest)) ≡ count_by is_slash (byte ∷ rest) + 1
    by true e more =
        let all : count_by is_slash (byte ∷ rest) ≡ 1 + count_by is_slash rest = count_more byte rest true e in
        let whole : length (components (byte ∷ rest)) ≡ length ([] ∷ components rest) = rw e refl in omega (arith, more, all, whole)
    by false e more =
        let all : count_by is_slash (byte ∷ rest) ≡ 0 + count_by is_slash rest = count_more byte rest false e in
        let whole : length (components (byte ∷ rest)) ≡ length (in_front byte (components rest)) = rw e refl in
        omega (arith, more, all, whole, front_length byte (components rest) (some_length rest))

-- the depth of a folder that is neither the working folder nor the root, by its slashes
pub depth_slashes : (folder : List ℕ) (slashes : ℕ) → nat_eq (length folder) 0 ≡ false → bytes_eq folder (47 ∷ []) ≡ false → slashes ≡ count_by is_slash folder → (is_absolute folder ≡ true → slashes ≡ depth folder) × (is_absolute folder ≡ false → slashes + 1 ≡ depth folder)
depth_slashes [] slashes some other counted = absurd (cc some)
depth_slashes (byte ∷ rest) slashes some other counted = (absolute rest other counted, not_absolute)
  where
    absolute : (rest : List ℕ) → bytes_eq (byte ∷ rest) (47 ∷ []) ≡ false → slashes ≡ count_by is_slash (byte ∷ rest) → nat_eq byte 47 ≡ true → slashes ≡ depth (byte ∷ rest)
    absolute [] other counted e = let is : true ≡ false = rw e at other in absurd (cc is)
    absolute (next ∷ rest) other counted e =
        let all : count_by is_slash (byte ∷ next ∷ rest) ≡ 1 + count_by is_slash (next ∷ rest) = count_more byte (next ∷ rest) true e in
        let whole : depth (byte ∷ next ∷ rest) ≡ length (components (next ∷ rest)) = rw e refl in
        omega (arith, counted, all, whole, slashes_length (next ∷ rest))

    not_absolute : nat_eq byte 47 ≡ false → slashes + 1 ≡ depth (byte ∷ rest)
    not_absolute e =
        let whole : depth (byte ∷ rest) ≡ length (components (byte ∷ rest)) = ap (λ (b : Bool). count_of (cond b rest (byte ∷ rest))) e in
        ap (λ (n : ℕ). n + 1) counted ∙ sym (slashes_length (byte ∷ rest)) ∙ sym whole

-- what stands before a name in the working folder and in the root
pub within_nothing : (folder name : List ℕ) → nat_eq (length folder) 0 ≡ true → folder ++ name ≡ path_within folder name
within_nothing [] name e = refl
within_nothing (byte ∷ rest) name e = absurd (omega (arith, eqb-true (length (byte ∷ rest)) 0 e))

pub within_root : (folder name : List ℕ) → bytes_eq folder (47 ∷ []) ≡ true → folder ++ name ≡ path_within folder name
within_root folder name e = let is : folder ≡ 47 ∷ [] = (bytes_eq-Decides folder (47 ∷ [])).0 e in rw is refl
