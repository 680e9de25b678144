-- The names in a path are determined.
use Rattle.std.proofs.Common.{◌≡◌, ℕ, List, [], ◌∷◌, ◌++◌, ap, ap₂, sym, refl, subst, ◌∙◌, Bool, true, false, ◌&&◌, inl, inr, Option, None, Some, IfNone, append_assoc}
use Rattle.std.specs.Char.{is_ascii_digit}
use Rattle.container_parser.specs.declared.pod.Pod.{Pod}
use Rattle.container_parser.specs.Pods.{is_part_byte, is_container_byte, is_log_end, are_names, IsFolder, IsFile, IsFront, IsComponent, AreLast, IsPodPath}
use Rattle.container_parser.specs.Words.{Lacks, is_made_of}
use Rattle.container_parser.proofs.Splits.{first_split, last_split, made_lacks, not_lacking}

-- ---- components

behind_front : (parent name : List ℕ) → (parent ++ 47 ∷ []) ++ name ≡ parent ++ 47 ∷ name
behind_front parent name = append_assoc parent (47 ∷ []) name

one_component : (up folder front name : List ℕ) → IsFront up → IsFront front → IsComponent folder → IsComponent name → up ++ folder ≡ front ++ name → folder ≡ name
one_component up folder front name (inl e) (inl f) g h is = sym (ap (λ (t : List ℕ). t ++ folder) e) ∙ is ∙ ap (λ (t : List ℕ). t ++ name) f
one_component up folder front name (inl e) (inr f) g h is =
    let whole : folder ≡ f.0 ++ 47 ∷ name = sym (ap (λ (t : List ℕ). t ++ folder) e) ∙ is ∙ ap (λ (t : List ℕ). t ++ name) f.1 ∙ behind_front f.0 name in
    absurd (not_lacking 47 f.0 name (subst (λ (t : List ℕ). Lacks 47 t) whole g))
one_component up folder front name (inr e) (inl f) g h is =
    let whole : name ≡ e.0 ++ 47 ∷ folder = sym (ap (λ (t : List ℕ). t ++ name) f) ∙ sym is ∙ ap (λ (t : List ℕ). t ++ folder) e.1 ∙ behind_front e.0 folder in
    absurd (not_lacking 47 e.0 folder (subst (λ (t : List ℕ). Lacks 47 t) whole h))
one_component up folder front name (inr e) (inr f) g h is =
    (last_split 47 e.0 folder f.0 name g h
    (sym (behind_front e.0 folder) ∙ sym (ap (λ (t : List ℕ). t ++ folder) e.1) ∙ is ∙ ap (λ (t : List ℕ). t ++ name) f.1 ∙ behind_front f.0 name)).1

pub last_of : (path parents front up folder container file : List ℕ) → path ≡ parents ++ 47 ∷ file → parents ≡ front ++ 47 ∷ container → front ≡ up ++ folder
    → IsFront up → IsComponent folder → IsComponent container → IsComponent file → AreLast path folder container file
last_of path parents front up folder container file e f g begins one two three = record {
  front = up;
  is = e ∙ ap (λ (t : List ℕ). t ++ 47 ∷ file) (f ∙ ap (λ (t : List ℕ). t ++ 47 ∷ container) g);
  begins = begins;
  folder_part = one;
  container_part = two;
  file_part = three;
}

pub no_components : (path folder container file : List ℕ) → IsComponent path → AreLast path folder container file → ⊥
no_components path folder container file alone last =
    not_lacking 47 (last.front ++ folder ++ 47 ∷ container) file (subst (λ (t : List ℕ). Lacks 47 t) last.is alone)

parents_are : (path parents name folder container file : List ℕ) → path ≡ parents ++ 47 ∷ name → IsComponent name → (last : AreLast path folder container file)
    → (parents ≡ last.front ++ folder ++ 47 ∷ container) × (name ≡ file)
parents_are path parents name folder container file e alone last =
    last_split 47 parents name (last.front ++ folder ++ 47 ∷ container) file alone last.file_part (sym e ∙ last.is)

pub no_two_components : (path parents name folder container file : List ℕ) → path ≡ parents ++ 47 ∷ name → IsComponent name → IsComponent parents
    → AreLast path folder container file → ⊥
no_two_components path parents name folder container file e alone top last =
    let is = (parents_are path parents name folder container file e alone last).0 in
    not_lacking 47 (last.front ++ folder) container (subst (λ (t : List ℕ). Lacks 47 t) is top)

pub record SameLast (folder container file up within log : List ℕ) : Type 0 where
  pub folder_is : folder ≡ up
  pub container_is : container ≡ within
  pub file_is : file ≡ log

pub one_last : (path folder container file up within log : List ℕ) → AreLast path folder container file → AreLast path up within log → SameLast folder container file up within log
one_last path folder container file up within log one two =
    let parents = parents_are path (one.front ++ folder ++ 47 ∷ container) file up within log one.is one.file_part two in
    let inner = last_split 47 (one.front ++ folder) container (two.front ++ up) within one.container_part two.container_part parents.0 in
    record {
      folder_is = one_component one.front folder two.front up one.begins two.begins one.folder_part two.folder_part inner.0;
      container_is = inner.1;
      file_is = parents.1;
    }

-- ---- the folder

left_true : (a b : Bool) → (a && b) ≡ true → a ≡ true
left_true true b e = refl
left_true false b e = absurd (cc e)

right_true : (a b : Bool) → (a && b) ≡ true → b ≡ true
right_true true b e = e
right_true false b e = absurd (cc e)

namespace_lacks : (namespace pod uid : List ℕ) → are_names namespace pod uid ≡ true → Lacks 95 namespace
namespace_lacks namespace pod uid e = made_lacks is_part_byte 95 namespace refl (left_true (is_made_of is_part_byte namespace) _ e)

pod_lacks : (namespace pod uid : List ℕ) → are_names namespace pod uid ≡ true → Lacks 95 pod
pod_lacks namespace pod uid e = made_lacks is_part_byte 95 pod refl (left_true (is_made_of is_part_byte pod) _ (right_true (is_made_of is_part_byte namespace) _ e))

pub record SameNames (namespace pod uid space name id : List ℕ) : Type 0 where
  pub namespace_is : namespace ≡ space
  pub pod_is : pod ≡ name
  pub uid_is : uid ≡ id

-- what the first two `_` part are the names
parted : (folder namespace rest pod uid space name id : List ℕ) → folder ≡ namespace ++ 95 ∷ rest → Lacks 95 namespace → rest ≡ pod ++ 95 ∷ uid → Lacks 95 pod
    → IsFolder folder space name id → SameNames namespace pod uid space name id
parted folder namespace rest pod uid space name id e l f m is =
    let outer = first_split 95 namespace rest space (name ++ 95 ∷ id) l (namespace_lacks space name id is.are) (sym e ∙ is.is) in
    let inner = first_split 95 pod uid name id m (pod_lacks space name id is.are) (sym f ∙ outer.1) in
    record { namespace_is = outer.0; pod_is = inner.0; uid_is = inner.1 }

pub not_parted : (folder namespace pod uid : List ℕ) → Lacks 95 folder → IsFolder folder namespace pod uid → ⊥
not_parted folder namespace pod uid l is = not_lacking 95 namespace (pod ++ 95 ∷ uid) (subst (λ (t : List ℕ). Lacks 95 t) is.is l)

pub parted_once : (folder namespace rest space name id : List ℕ) → folder ≡ namespace ++ 95 ∷ rest → Lacks 95 namespace → Lacks 95 rest → IsFolder folder space name id → ⊥
parted_once folder namespace rest space name id e l m is =
    let outer = first_split 95 namespace rest space (name ++ 95 ∷ id) l (namespace_lacks space name id is.are) (sym e ∙ is.is) in
    not_lacking 95 name id (subst (λ (t : List ℕ). Lacks 95 t) outer.1 m)

pub no_names : (folder namespace rest pod uid space name id : List ℕ) → folder ≡ namespace ++ 95 ∷ rest → Lacks 95 namespace → rest ≡ pod ++ 95 ∷ uid → Lacks 95 pod
    → are_names namespace pod uid ≡ false → IsFolder folder space name id → ⊥
no_names folder namespace rest pod uid space name id e l f m fails is =
    let same = parted folder namespace rest pod uid space name id e l f m is in
    let a = same.namespace_is in let b = same.pod_is in let c = same.uid_is in
    let yes : are_names namespace pod uid ≡ true = ap₂ (λ (x y : List ℕ). are_names x y uid) a b ∙ ap (λ (z : List ℕ). are_names space name z) c ∙ is.are in
    cc (fails, yes)

pub folder_of : (folder namespace rest pod uid : List ℕ) → folder ≡ namespace ++ 95 ∷ rest → rest ≡ pod ++ 95 ∷ uid → are_names namespace pod uid ≡ true → IsFolder folder namespace pod uid
folder_of folder namespace rest pod uid e f are = record { is = e ∙ ap (λ (t : List ℕ). namespace ++ 95 ∷ t) f; are = are }

one_folder : (folder namespace pod uid space name id : List ℕ) → IsFolder folder namespace pod uid → IsFolder folder space name id → SameNames namespace pod uid space name id
one_folder folder namespace pod uid space name id one two =
    parted folder namespace (pod ++ 95 ∷ uid) pod uid space name id one.is (namespace_lacks namespace pod uid one.are) refl (pod_lacks namespace pod uid one.are) two

-- ---- the file

number_lacks : (restarts : List ℕ) → is_made_of is_ascii_digit restarts ≡ true → Lacks 46 restarts
number_lacks restarts e = made_lacks is_ascii_digit 46 restarts refl e

file_parted : (file restarts rest number : List ℕ) → file ≡ restarts ++ 46 ∷ rest → Lacks 46 restarts → (is : IsFile file number) → (restarts ≡ number) × (rest ≡ is.rest)
file_parted file restarts rest number e l is = first_split 46 restarts rest number is.rest l (number_lacks number is.number) (sym e ∙ is.is)

pub no_point : (file number : List ℕ) → Lacks 46 file → IsFile file number → ⊥
no_point file number l is = not_lacking 46 number is.rest (subst (λ (t : List ℕ). Lacks 46 t) is.is l)

pub no_number : (file restarts rest number : List ℕ) → file ≡ restarts ++ 46 ∷ rest → Lacks 46 restarts → is_made_of is_ascii_digit restarts ≡ false → IsFile file number → ⊥
no_number file restarts rest number e l fails is =
    let same = (file_parted file restarts rest number e l is).0 in
    let yes : is_made_of is_ascii_digit restarts ≡ true = ap (is_made_of is_ascii_digit) same ∙ is.number in cc (fails, yes)

pub no_end : (file restarts rest number : List ℕ) → file ≡ restarts ++ 46 ∷ rest → Lacks 46 restarts → is_log_end rest ≡ false → IsFile file number → ⊥
no_end file restarts rest number e l fails is =
    let same = (file_parted file restarts rest number e l is).1 in
    let yes : is_log_end rest ≡ true = ap is_log_end same ∙ is.ends in cc (fails, yes)

one_number : (file restarts number : List ℕ) → IsFile file restarts → IsFile file number → restarts ≡ number
one_number file restarts number one two = (file_parted file restarts one.rest number one.is (number_lacks restarts one.number) two).0

-- ---- the path

abbrev pod : List ℕ → List ℕ → List ℕ → List ℕ → List ℕ → Pod
pod a b c d e = record { namespace = a; pod = b; uid = c; container = d; restarts = e }

-- a path whose last three components these are is of no pod where one of them isn't as it is there
pub no_folder : (path folder container file : List ℕ) (p : Pod) → AreLast path folder container file → ((a b c : List ℕ) → IsFolder folder a b c → ⊥) → IsPodPath path p → ⊥
no_folder path folder container file p last none is =
    let same = one_last path folder container file is.folder p.container is.file last is.last in
    none p.namespace p.pod p.uid (subst (λ (t : List ℕ). IsFolder t p.namespace p.pod p.uid) (sym same.folder_is) is.folder_is)

pub no_file : (path folder container file : List ℕ) (p : Pod) → AreLast path folder container file → ((a : List ℕ) → IsFile file a → ⊥) → IsPodPath path p → ⊥
no_file path folder container file p last none is =
    let same = one_last path folder container file is.folder p.container is.file last is.last in
    none p.restarts (subst (λ (t : List ℕ). IsFile t p.restarts) (sym same.file_is) is.file_is)

pub no_container : (path folder container file : List ℕ) (p : Pod) → AreLast path folder container file → is_made_of is_container_byte container ≡ false → IsPodPath path p → ⊥
no_container path folder container file p last fails is =
    let same = one_last path folder container file is.folder p.container is.file last is.last in
    let yes : is_made_of is_container_byte container ≡ true = ap (is_made_of is_container_byte) same.container_is ∙ is.container_is in cc (fails, yes)

same_pod : (p q : Pod) → SameNames p.namespace p.pod p.uid q.namespace q.pod q.uid → p.container ≡ q.container → p.restarts ≡ q.restarts → p ≡ q
same_pod p q names container restarts =
    ap₂ (λ (a b : List ℕ). pod a b p.uid p.container p.restarts) names.namespace_is names.pod_is
    ∙ ap₂ (λ (a b : List ℕ). pod q.namespace q.pod a b p.restarts) names.uid_is container
    ∙ ap (λ (a : List ℕ). pod q.namespace q.pod q.uid q.container a) restarts

pub one_pod : (path : List ℕ) (p q : Pod) → IsPodPath path p → IsPodPath path q → p ≡ q
one_pod path p q one two =
    let same = one_last path one.folder p.container one.file two.folder q.container two.file one.last two.last in
    let names = one_folder two.folder p.namespace p.pod p.uid q.namespace q.pod q.uid (subst (λ (t : List ℕ). IsFolder t p.namespace p.pod p.uid) same.folder_is one.folder_is) two.folder_is in
    let restarts = one_number two.file p.restarts q.restarts (subst (λ (t : List ℕ). IsFile t p.restarts) same.file_is one.file_is) two.file_is in
    same_pod p q names same.container_is restarts

pub when_none : {X P : Type 0} (r : Option X) → P → IfNone r P
when_none None p = p
when_none (Some x) p = tt
