-- A folder's names, taken down one after another.
use Rattle.std.proofs.Common.{◌≡◌, ◌≢◌, inl, inr, ℕ, ◌+◌, ◌<◌, ◌≤◌, List, [], ◌∷◌, ◌++◌, length, map, get_or, Bool, true, false, cond, ◌&&◌, ◌||◌, refl, sym, ap, subst, ◌∙◌, arith, append_assoc}
use Rattle.std.specs.Prelude.{Option, None, Some, is_some, option_map, find, Contains, All, IsTrue}
use Rattle.std.specs.List.{list_any, IsDistinct}
use Rattle.std.specs.Str.{bytes_eq}
use Rattle.std.specs.Cmp.Lexicographic.{nat_list_eq_equiv}
use Rattle.std.proofs.lemmas.Bool.{cases_lt, and_from, or_left, or_right}
use Rattle.std.proofs.lemmas.List.{map_push, get_or-map}
use Rattle.std.proofs.lemmas.List.Elements.{All-nil, All-push, All-contains, Contains-get_or}
use Rattle.std.proofs.lemmas.Map.Keys.{IsDistinct-push}
use Rattle.outside.specs.Path.{slash, is_component, is_name, is_below}
use Rattle.outside.specs.World.{History, Names, names, file_at}
use Rattle.outside.specs.Listing.{is_folder, kind_at, path_within, IsListing}
use Rattle.outside.specs.declared.tree.Item.{Item}
use Rattle.outside.specs.declared.tree.Kind.{Kind}
use Rattle.outside.specs.declared.tree.Kind.TheVariants.{File, Folder}
use Rattle.mem_world.specs.TreeListing.{ListsNames}
use Rattle.mem_world.specs.TreeNames.{name_of, names_of}
use Rattle.mem_world.specs.declared.tree.names.Name.{Name}
use Rattle.mem_world.proofs.TreeStoring.{any_map, any_push}
use Rattle.mem_world.proofs.TreeFolders.{same_bytes, eq_bytes, first_part, is_slashless, first_slashless, first_whole, first_front, within_append, within_same, within_longer, front_starts, any_place, find_contains, kind_there}

abbrev pub has : List Item → List ℕ → Bool
has items name = list_any (λ item. bytes_eq item.name name) items

abbrev IsNamed : Item → Type 0
IsNamed item = IsTrue (is_name item.name)

and_first : (a b : Bool) → (a && b) ≡ true → a ≡ true
and_first true b e = refl
and_first false b e = absurd (cc)

and_second : (a b : Bool) → (a && b) ≡ true → b ≡ true
and_second true b e = e
and_second false b e = absurd (cc)

same_test : (a b : List ℕ) → bytes_eq a b ≡ bytes_eq b a
same_test a b =
    let P : Bool → Type 0 = λ t. bytes_eq a b ≡ t → t ≡ bytes_eq b a in
    let other : P false = λ e.
    let Q : Bool → Type 0 = λ u. bytes_eq b a ≡ u → false ≡ u in
    let back : Q (bytes_eq b a) = elim (bytes_eq b a) as Q [ true ↦ λ f. sym (sym (eq_bytes a b (sym (same_bytes b a f))) ∙ e) | false ↦ λ _. refl ] in
    back refl in
    let all : P (bytes_eq a b) = elim (bytes_eq a b) as P [ true ↦ λ e. sym (eq_bytes b a (sym (same_bytes a b e))) | false ↦ other ] in
    all refl

flipped : (items : List Item) (name : List ℕ) → list_any (λ item. bytes_eq name item.name) items ≡ has items name
flipped [] name = refl
flipped (item ∷ items) name = ap (λ t. t || list_any (λ i. bytes_eq name i.name) items) (same_test name item.name) ∙ ap (λ t. bytes_eq item.name name || t) (flipped items name)

distinct_none : IsDistinct bytes_eq (map (λ (item : Item). item.name) [])
unfolding IsDistinct
distinct_none = tt

-- the names of the first so many paths were taken down
pub record TakesDown (folder : List ℕ) (ns : Names) (items : List Item) (place : ℕ) : Type 0 where
  pub found : (k : ℕ) (d : List ℕ × ℕ) → k < place → k < length ns → (rest : List ℕ) → (get_or ns k d).0 ≡ path_within folder rest → is_component (first_part rest) ≡ true → has items (first_part rest) ≡ true
  pub named : All (λ item. IsTrue (is_name item.name)) items
  pub kinds : All (λ item. kind_at ns (path_within folder item.name) ≡ Some item.kind) items
  pub once : IsDistinct bytes_eq (map (λ item. item.name) items)

pub takes_none : (folder : List ℕ) (ns : Names) (items : List Item) → items ≡ [] → TakesDown folder ns items 0
takes_none folder ns items empty =
    let P : List Item → Type 0 = λ is. TakesDown folder ns is 0 in
    let none : P [] = record {
      found = λ k d before. absurd (omega (arith, before));
      named = All-nil (λ item. IsTrue (is_name item.name));
      kinds = All-nil (λ item. kind_at ns (path_within folder item.name) ≡ Some item.kind);
      once = distinct_none;
    } in
    subst P (sym empty) none

-- a path adds no name
pub takes_no : (folder : List ℕ) (ns : Names) (items : List Item) (place : ℕ) → TakesDown folder ns items place → ((d : List ℕ × ℕ) → place < length ns → (rest : List ℕ) → (get_or ns place d).0 ≡ path_within folder rest → is_component (first_part rest) ≡ true → has items (first_part rest) ≡ true) → TakesDown folder ns items (place + 1)
takes_no folder ns items place takes here = record {
  found = λ k d before within rest is component.
      let P : ℕ → Type 0 = λ n. n < length ns → (get_or ns n d).0 ≡ path_within folder rest → has items (first_part rest) ≡ true in
      elim (cases_lt k place) [
        | inl less ↦ takes.found k d less within rest is component
        | inr more ↦ (let same : place ≡ k = omega (arith, before, more) in let at : P place = λ w i. here d w rest i component in subst P same at within is)
      ];
  named = takes.named;
  kinds = takes.kinds;
  once = takes.once;
}

-- a path adds its name
pub takes_name : (folder : List ℕ) (ns : Names) (items : List Item) (place : ℕ) (rest : List ℕ) (new : Item) → TakesDown folder ns items place → ((d : List ℕ × ℕ) → place < length ns → (get_or ns place d).0 ≡ path_within folder rest) → place < length ns → new.name ≡ first_part rest → is_component (first_part rest) ≡ true → has items (first_part rest) ≡ false → ((kind : Kind) → kind_at ns (path_within folder (first_part rest)) ≡ Some kind → new.kind ≡ kind) → TakesDown folder ns (items ++ new ∷ []) (place + 1)
takes_name folder ns items place rest new takes is within name_is component fresh kind = record {
  found = λ k d before inside other other_is other_component.
      let grown : has (items ++ new ∷ []) (first_part other) ≡ (bytes_eq new.name (first_part other) || has items (first_part other)) = any_push (λ item. bytes_eq item.name (first_part other)) items new in
      elim (cases_lt k place) [
        | inl less ↦ grown ∙ or_right (bytes_eq new.name (first_part other)) (has items (first_part other)) (takes.found k d less inside other other_is other_component)
        | inr more ↦ (let same : k ≡ place = omega (arith, before, more) in
            let Q : ℕ → Type 0 = λ n. (get_or ns n d).0 ≡ path_within folder other in
            let rest_is : other ≡ rest = within_same folder other rest (sym (subst Q same other_is) ∙ is d within) in
            grown ∙ or_left (bytes_eq new.name (first_part other)) (has items (first_part other)) (eq_bytes new.name (first_part other) (name_is ∙ ap first_part (sym rest_is))))
      ];
  named = All-push (λ item. IsTrue (is_name item.name)) items new takes.named (let P : List ℕ → Type 0 = λ n. IsTrue (is_name n) in subst P (sym name_is) (and_from (is_component (first_part rest)) (is_slashless (first_part rest)) component (first_slashless rest)));
  kinds = All-push (λ item. kind_at ns (path_within folder item.name) ≡ Some item.kind) items new takes.kinds
      (let d : List ℕ × ℕ = ([], 0) in
      let there = kind_there ns folder rest (get_or ns place d) (Contains-get_or ns place d within) (is d within) in
      ap (λ n. kind_at ns (path_within folder n)) name_is ∙ there.1 ∙ ap (λ (k : Kind). Some k) (sym (kind there.0 there.1)));
  once =
      let P : List (List ℕ) → Type 0 = λ ns. IsDistinct bytes_eq ns in
      subst P (sym (map_push (λ (item : Item). item.name) items new))
      (IsDistinct-push nat_list_eq_equiv (map (λ (item : Item). item.name) items) new.name takes.once
      (any_map (λ (item : Item). item.name) (bytes_eq new.name) items ∙ flipped items new.name ∙ ap (has items) name_is ∙ fresh));
}

unmapped : (o : Option (List ℕ × ℕ)) → is_some (option_map (λ n. n.1) o) ≡ true → is_some o ≡ true
unmapped None some = absurd (cc)
unmapped (Some x) some = refl

third : (a b c : Bool) → (a ≡ true → ⊥) → (b ≡ true → ⊥) → (a || (b || c)) ≡ true → c ≡ true
third true b c x y e = absurd (x refl)
third false true c x y e = absurd (y refl)
third false false c x y e = e

file_there : (ns : Names) (path : List ℕ) → is_some (file_at ns path) ≡ true → (name : List ℕ × ℕ) × ((name.0 ≡ path) × Contains ns name)
file_there ns path some =
    let any : list_any (λ (n : List ℕ × ℕ). bytes_eq n.0 path) ns ≡ true = find_contains (λ (n : List ℕ × ℕ). bytes_eq n.0 path) ns ∙ unmapped (find (λ n. bytes_eq n.0 path) ns) some in
    let place = any_place (λ (n : List ℕ × ℕ). bytes_eq n.0 path) ns any in
    (place.0, (same_bytes place.0.0 path place.1.0, place.1.1))

folder_there : (ns : Names) (path : List ℕ) → (path ≡ [] → ⊥) → (path ≡ slash ∷ [] → ⊥) → is_folder ns path ≡ true → (name : List ℕ × ℕ) × (more : List ℕ) × (name.0 ≡ (path ++ slash ∷ []) ++ more) × Contains ns name
folder_there ns path some other folder =
    let any : list_any (λ (n : List ℕ × ℕ). is_below path n.0) ns ≡ true = third (bytes_eq path []) (bytes_eq path (slash ∷ [])) (list_any (λ n. is_below path n.0) ns) (λ e. some (same_bytes path [] e)) (λ e. other (same_bytes path (slash ∷ []) e)) folder in
    let place = any_place (λ (n : List ℕ × ℕ). is_below path n.0) ns any in
    let front = front_starts place.0.0 (path ++ slash ∷ []) place.1.0 in
    (place.0, front.0, front.1, place.1.1)

-- an item of this name has the kind that the path has
item_there : (folder : List ℕ) (ns : Names) (items : List Item) (place : ℕ) (name : List ℕ) (kind : Kind) → TakesDown folder ns items place → kind_at ns (path_within folder name) ≡ Some kind → has items name ≡ true → Contains items (record { name = name; kind = kind })
item_there folder ns items place name kind takes is any =
    let found = any_place (λ (item : Item). bytes_eq item.name name) items any in
    let item = found.0 in
    let named : item.name ≡ name = same_bytes item.name name found.1.0 in
    let told : kind_at ns (path_within folder item.name) ≡ Some item.kind = All-contains (λ item. kind_at ns (path_within folder item.name) ≡ Some item.kind) items item takes.kinds found.1.1 in
    let both : Some item.kind ≡ Some kind = sym told ∙ ap (λ n. kind_at ns (path_within folder n)) named ∙ is in
    let kind_is : item.kind ≡ kind = cc in
    let whole : item ≡ record { name = name; kind = kind } = ap (λ n. let i : Item = record { name = n; kind = item.kind } in i) named ∙ ap (λ k. let i : Item = record { name = name; kind = k } in i) kind_is in
    let P : Item → Type 0 = λ i. Contains items i in
    subst P whole found.1.1

pub takes_all : (folder : List ℕ) (ns : Names) (items : List Item) (place : ℕ) → TakesDown folder ns items place → length ns ≤ place → ListsNames folder items ns
takes_all folder ns items place takes past = record {
  each = λ name kind is.
      let component = and_first (is_component name) (is_slashless name) is in
      let free = and_second (is_component name) (is_slashless name) is in
      let path = path_within folder name in
      let by_name : (held : List ℕ × ℕ) (rest : List ℕ) → Contains ns held → held.0 ≡ path_within folder rest → first_part rest ≡ name → has items name ≡ true = λ held rest there held_is first.
      let C : List ℕ → Type 0 = λ n. is_component n ≡ true in
      let H : List ℕ → Type 0 = λ n. has items n ≡ true in
      subst H first (takes.found there.0 held (omega (arith, there.1, past)) there.1 rest (ap (λ (n : List ℕ × ℕ). n.0) there.2 ∙ held_is) (subst C (sym first) component)) in
      let forth : kind_at ns path ≡ Some kind → Contains items (record { name = name; kind = kind }) = λ told.
      let F : Bool → Type 0 = λ s. is_some (file_at ns path) ≡ s → cond s (Some File) (cond (is_folder ns path) (Some Folder) None) ≡ Some kind → has items name ≡ true in
      let file : F true = λ some _. (let there = file_there ns path some in by_name there.0 name there.1.1 there.1.0 (first_whole name free)) in
      let G : Bool → Type 0 = λ t. is_folder ns path ≡ t → cond t (Some Folder) None ≡ Some kind → has items name ≡ true in
      let long = within_longer folder name component free in
      let below : G true = λ is_there _. (let there = folder_there ns path long.0 long.1 is_there in
      by_name there.0 (name ++ slash ∷ there.1) there.3 (there.2 ∙ ap (λ p. p ++ there.1) (sym (within_append folder name (slash ∷ []))) ∙ sym (within_append folder (name ++ slash ∷ []) there.1) ∙ ap (path_within folder) (append_assoc name (slash ∷ []) there.1)) (first_front name there.1 free)) in
      let other : F false = λ _ rest. (let all : G (is_folder ns path) = elim (is_folder ns path) as G [ true ↦ below | false ↦ λ _ e. absurd (cc) ] in all refl rest) in
      let any : F (is_some (file_at ns path)) = elim (is_some (file_at ns path)) as F [ true ↦ file | false ↦ other ] in
      item_there folder ns items place name kind takes told (any refl told) in
      let back : Contains items (record { name = name; kind = kind }) → kind_at ns path ≡ Some kind = λ there.
      All-contains (λ item. kind_at ns (path_within folder item.name) ≡ Some item.kind) items (record { name = name; kind = kind }) takes.kinds there in
      (forth, back);
  named = λ item there. All-contains (λ item. IsTrue (is_name item.name)) items item takes.named there;
  once = takes.once;
}

pub kind_file : (ns : Names) (path : List ℕ) (kind : Kind) → is_some (file_at ns path) ≡ true → kind_at ns path ≡ Some kind → File ≡ kind
kind_file ns path kind file told =
    let P : Bool → Type 0 = λ t. cond t (Some File) (cond (is_folder ns path) (Some Folder) None) ≡ Some kind in
    let is : Some File ≡ Some kind = subst P file told in
    cc

pub kind_other : (ns : Names) (path : List ℕ) (kind : Kind) → is_some (file_at ns path) ≡ false → kind_at ns path ≡ Some kind → Folder ≡ kind
kind_other ns path kind file told =
    let P : Bool → Type 0 = λ t. cond t (Some File) (cond (is_folder ns path) (Some Folder) None) ≡ Some kind in
    let Q : Bool → Type 0 = λ t. cond t (Some Folder) None ≡ Some kind → Folder ≡ kind in
    let all : Q (is_folder ns path) = elim (is_folder ns path) as Q [ true ↦ λ e. cc | false ↦ λ e. absurd (cc) ] in
    all (subst P file told)

mapped_test : (o : Option (List ℕ × ℕ)) → is_some o ≡ is_some (option_map (λ n. n.1) o)
mapped_test None = refl
mapped_test (Some x) = refl

pub file_test : (ns : Names) (path : List ℕ) → list_any (λ (n : List ℕ × ℕ). bytes_eq n.0 path) ns ≡ is_some (file_at ns path)
file_test ns path = find_contains (λ (n : List ℕ × ℕ). bytes_eq n.0 path) ns ∙ mapped_test (find (λ n. bytes_eq n.0 path) ns)

pub within_yes : (folder path rest name : List ℕ) → path ≡ path_within folder rest → bytes_eq rest name ≡ bytes_eq path (path_within folder name)
within_yes folder path rest name is =
    let P : Bool → Type 0 = λ t. bytes_eq rest name ≡ t → t ≡ bytes_eq path (path_within folder name) in
    let no : P false = λ e.
    let Q : Bool → Type 0 = λ u. bytes_eq path (path_within folder name) ≡ u → false ≡ u in
    let back : Q (bytes_eq path (path_within folder name)) = elim (bytes_eq path (path_within folder name)) as Q [
      | true ↦ λ f. sym (sym (eq_bytes rest name (within_same folder rest name (sym is ∙ same_bytes path (path_within folder name) f))) ∙ e)
      | false ↦ λ _. refl
    ] in
    back refl in
    let all : P (bytes_eq rest name) = elim (bytes_eq rest name) as P [ true ↦ λ e. sym (eq_bytes path (path_within folder name) (is ∙ ap (path_within folder) (same_bytes rest name e))) | false ↦ no ] in
    all refl

pub within_no : (folder path name : List ℕ) → ((rest : List ℕ) → path ≢ path_within folder rest) → false ≡ bytes_eq path (path_within folder name)
within_no folder path name none =
    let Q : Bool → Type 0 = λ u. bytes_eq path (path_within folder name) ≡ u → false ≡ u in
    let all : Q (bytes_eq path (path_within folder name)) = elim (bytes_eq path (path_within folder name)) as Q [
      | true ↦ λ f. absurd (none name (same_bytes path (path_within folder name) f))
      | false ↦ λ _. refl
    ] in
    all refl

pub path_here : (xs : List Name) (place : ℕ) (x : Name) → place < length xs → x ≡ get_or xs place x → (d : List ℕ × ℕ) → place < length (names_of xs) → (get_or (names_of xs) place d).0 ≡ x.path
path_here xs place x within read d _ = ap (λ (p : List ℕ × ℕ). p.0) (get_or-map name_of xs place x d within ∙ ap name_of (sym read))

pub takes_other : (folder : List ℕ) (ns : Names) (items : List Item) (place : ℕ) (rest : List ℕ) → TakesDown folder ns items place → ((d : List ℕ × ℕ) → place < length ns → (get_or ns place d).0 ≡ path_within folder rest) → (is_component (first_part rest) ≡ true → has items (first_part rest) ≡ true) → TakesDown folder ns items (place + 1)
takes_other folder ns items place rest takes here known = takes_no folder ns items place takes (λ d within other is component.
    let same : rest ≡ other = within_same folder rest other (sym (here d within) ∙ is) in
    let P : List ℕ → Type 0 = λ r. is_component (first_part r) ≡ true → has items (first_part r) ≡ true in
    subst P same known component)

pub listing_of : (folder : List ℕ) (items : List Item) (history : History) → is_folder (names history) folder ≡ true → ListsNames folder items (names history) → IsListing folder items history
listing_of folder items history there lists = record { folder_is_there = there; each = lists.each; named = lists.named; once = lists.once }
