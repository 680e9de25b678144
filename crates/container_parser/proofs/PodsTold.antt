-- To which pod the path of a log belongs, by its components and computed.
use Rattle.std.proofs.Common.{◌≡◌, ◌≢◌, ℕ, zero, suc, ◌<◌, List, [], ◌∷◌, ◌++◌, length, get_or, Bool, true, false, ◌==◌, cond, Option, None, Some, inl, inr, refl, sym, ap, subst, ◌∙◌, append_assoc, arith}
use Rattle.std.specs.Prelude.{◌&&◌, option_map, option_and_then}
use Rattle.std.specs.Char.{is_ascii_digit}
use Rattle.std.proofs.lemmas.Bool.{eqb-true, eq-eqb, ne_eqb, eqb-false, and_parts, and_from}
use Rattle.container_parser.specs.Pods.{is_part_byte, is_container_byte, is_log_end, are_names, IsFront, IsComponent, IsPodPath, IsPodOf}
use Rattle.container_parser.specs.Words.{Lacks, is_made_of}
use Rattle.container_parser.specs.declared.pod.Pod.{Pod}
use Rattle.container_parser.proofs.Splits.{made_lacks}
use Rattle.container_parser.specs.Computed.{Parts, behind, at_first, or_here, at_last, last_of, restarts_in, named, in_folder, with_restarts, with_container, with_file, pod_in}
use Rattle.container_parser.proofs.Options.{none_some, same_some, then_from, map_from, when_so}

-- ---- bytes that a list lacks

lacks_none : (mark : ℕ) → Lacks mark []
lacks_none mark = λ k within. absurd (omega (arith, within))

lacks_more : (mark byte : ℕ) (bytes : List ℕ) → byte ≢ mark → Lacks mark bytes → Lacks mark (byte ∷ bytes)
lacks_more mark byte bytes other rest = at
  where
    at : (k : ℕ) → k < length (byte ∷ bytes) → get_or (byte ∷ bytes) k 0 ≢ mark
    at zero within = other
    at (suc k) within = rest k (omega (arith, within))

lacks_head : (mark byte : ℕ) (bytes : List ℕ) → Lacks mark (byte ∷ bytes) → byte ≢ mark
lacks_head mark byte bytes l = l 0 (omega arith)

lacks_tail : (mark byte : ℕ) (bytes : List ℕ) → Lacks mark (byte ∷ bytes) → Lacks mark bytes
lacks_tail mark byte bytes l = λ k within. l (suc k) (omega (arith, within))

-- ---- the first

first_is : (mark : ℕ) (front back : List ℕ) → Lacks mark front → at_first mark (front ++ mark ∷ back) ≡ Some (front, back)
first_is mark [] back l = ap (λ (b : Bool). cond b (Some ([], back)) (option_map (behind mark) (at_first mark back))) (eq-eqb mark mark refl)
first_is mark (byte ∷ front) back l =
    ap (λ (b : Bool). cond b (Some ([], front ++ mark ∷ back)) (option_map (behind byte) (at_first mark (front ++ mark ∷ back)))) (ne_eqb byte mark (lacks_head mark byte front l))
    ∙ ap (option_map (behind byte)) (first_is mark front back (lacks_tail mark byte front l))

record IsFirst (mark : ℕ) (bytes : List ℕ) (parts : Parts) : Type 0 where
  is : bytes ≡ parts.0 ++ mark ∷ parts.1
  lacks : Lacks mark parts.0

is_first : (mark : ℕ) (bytes : List ℕ) (parts : Parts) → at_first mark bytes ≡ Some parts → IsFirst mark bytes parts
is_first mark [] parts = λ e. absurd (none_some parts e)
is_first mark (byte ∷ bytes) parts = by (byte == mark) refl (is_first mark bytes)
  where
    by : (b : Bool) → (byte == mark) ≡ b → ((p : Parts) → at_first mark bytes ≡ Some p → IsFirst mark bytes p)
        → cond b (Some ([], bytes)) (option_map (behind byte) (at_first mark bytes)) ≡ Some parts → IsFirst mark (byte ∷ bytes) parts
    by true same others e = subst (IsFirst mark (byte ∷ bytes)) (same_some {A = Parts} ([], bytes) parts e) (record { is = ap (λ (n : ℕ). n ∷ bytes) (eqb-true byte mark same); lacks = lacks_none mark })
    by false other others e =
        let found = map_from (behind byte) (at_first mark bytes) parts e in
        let rest = others found.0 found.1 in
        subst (IsFirst mark (byte ∷ bytes)) found.2 (record { is = ap (λ (t : List ℕ). byte ∷ t) rest.is; lacks = lacks_more mark byte found.0.0 (eqb-false byte mark other) rest.lacks })

-- ---- the last

no_last : (mark : ℕ) (bytes : List ℕ) → Lacks mark bytes → at_last mark bytes ≡ None
no_last mark [] l = refl
no_last mark (byte ∷ bytes) l =
    ap (or_here mark byte bytes) (no_last mark bytes (lacks_tail mark byte bytes l))
    ∙ ap (λ (b : Bool). cond b (Some ([], bytes)) None) (ne_eqb byte mark (lacks_head mark byte bytes l))

last_is : (mark : ℕ) (front back : List ℕ) → Lacks mark back → at_last mark (front ++ mark ∷ back) ≡ Some (front, back)
last_is mark [] back l = ap (or_here mark mark back) (no_last mark back l) ∙ ap (λ (b : Bool). cond b (Some ([], back)) None) (eq-eqb mark mark refl)
last_is mark (byte ∷ front) back l = ap (or_here mark byte (front ++ mark ∷ back)) (last_is mark front back l)

record IsLast (mark : ℕ) (bytes : List ℕ) (parts : Parts) : Type 0 where
  is : bytes ≡ parts.0 ++ mark ∷ parts.1
  lacks : Lacks mark parts.1

abbrev LastIs : ℕ → List ℕ → Option Parts → Type 0
LastIs mark bytes None = Lacks mark bytes
LastIs mark bytes (Some parts) = IsLast mark bytes parts

is_last : (mark : ℕ) (bytes : List ℕ) → LastIs mark bytes (at_last mark bytes)
is_last mark [] = lacks_none mark
is_last mark (byte ∷ bytes) = by (at_last mark bytes) (is_last mark bytes)
  where
    here : (b : Bool) → (byte == mark) ≡ b → Lacks mark bytes → LastIs mark (byte ∷ bytes) (cond b (Some ([], bytes)) None)
    here true same l = record { is = ap (λ (n : ℕ). n ∷ bytes) (eqb-true byte mark same); lacks = l }
    here false other l = lacks_more mark byte bytes (eqb-false byte mark other) l

    by : (found : Option Parts) → LastIs mark bytes found → LastIs mark (byte ∷ bytes) (or_here mark byte bytes found)
    by None l = here (byte == mark) refl l
    by (Some parts) l = record { is = ap (λ (t : List ℕ). byte ∷ t) l.is; lacks = l.lacks }

found_last : (mark : ℕ) (bytes : List ℕ) (parts : Parts) → at_last mark bytes ≡ Some parts → IsLast mark bytes parts
found_last mark bytes parts e = subst (LastIs mark bytes) e (is_last mark bytes)

-- ---- the last component

behind_front : (parent name : List ℕ) → (parent ++ 47 ∷ []) ++ name ≡ parent ++ 47 ∷ name
behind_front parent name = append_assoc parent (47 ∷ []) name

component_is : (front folder : List ℕ) → IsFront front → IsComponent folder → last_of (at_last 47 (front ++ folder)) (front ++ folder) ≡ folder
component_is front folder (inl none) part =
    let whole : front ++ folder ≡ folder = ap (λ (t : List ℕ). t ++ folder) none in
    ap (λ (o : Option Parts). last_of o (front ++ folder)) (ap (at_last 47) whole ∙ no_last 47 folder part) ∙ whole
component_is front folder (inr some) part =
    let whole : front ++ folder ≡ some.0 ++ 47 ∷ folder = ap (λ (t : List ℕ). t ++ folder) some.1 ∙ behind_front some.0 folder in
    ap (λ (o : Option Parts). last_of o (front ++ folder)) (ap (at_last 47) whole ∙ last_is 47 some.0 folder part)

record IsComponentOf (whole component : List ℕ) : Type 0 where
  front : List ℕ
  is : whole ≡ front ++ component
  begins : IsFront front
  part : IsComponent component

is_component : (whole : List ℕ) → IsComponentOf whole (last_of (at_last 47 whole) whole)
is_component whole = by (at_last 47 whole) (is_last 47 whole)
  where
    by : (found : Option Parts) → LastIs 47 whole found → IsComponentOf whole (last_of found whole)
    by None l = record { front = []; is = refl; begins = inl refl; part = l }
    by (Some parts) l = record { front = parts.0 ++ 47 ∷ []; is = l.is ∙ sym (behind_front parts.0 parts.1); begins = inr (parts.0, refl); part = l.lacks }

-- ---- the whole

module _ (path : List ℕ) (pod : Pod) where
  pub pod_is : IsPodPath path pod → pod_in path ≡ Some pod
  unfolding pod_in
  pod_is is =
      let last = is.last in
      let names = and_parts (is_made_of is_part_byte pod.namespace) _ is.folder_is.are in
      let inner = and_parts (is_made_of is_part_byte pod.pod) _ names.1 in
      let front = last.front ++ is.folder in
      let whole : at_last 47 path ≡ Some (front ++ 47 ∷ pod.container, is.file) = ap (at_last 47) last.is ∙ last_is 47 (front ++ 47 ∷ pod.container) is.file last.file_part in
      let parents : at_last 47 (front ++ 47 ∷ pod.container) ≡ Some (front, pod.container) = last_is 47 front pod.container last.container_part in
      let folder : last_of (at_last 47 front) front ≡ is.folder = component_is last.front is.folder last.begins last.folder_part in
      let file : at_first 46 is.file ≡ Some (pod.restarts, is.file_is.rest) =
      ap (at_first 46) is.file_is.is ∙ first_is 46 pod.restarts is.file_is.rest (made_lacks is_ascii_digit 46 pod.restarts refl is.file_is.number) in
      let restarts : restarts_in (pod.restarts, is.file_is.rest) ≡ Some pod.restarts =
      ap (λ (b : Bool). cond b (Some pod.restarts) None) (and_from (is_made_of is_ascii_digit pod.restarts) (is_log_end is.file_is.rest) is.file_is.number is.file_is.ends) in
      let outer : at_first 95 is.folder ≡ Some (pod.namespace, pod.pod ++ 95 ∷ pod.uid) =
      ap (at_first 95) is.folder_is.is ∙ first_is 95 pod.namespace (pod.pod ++ 95 ∷ pod.uid) (made_lacks is_part_byte 95 pod.namespace refl names.0) in
      let second : at_first 95 (pod.pod ++ 95 ∷ pod.uid) ≡ Some (pod.pod, pod.uid) = first_is 95 pod.pod pod.uid (made_lacks is_part_byte 95 pod.pod refl inner.0) in
      let all : named pod.container pod.restarts pod.namespace (pod.pod, pod.uid) ≡ Some pod =
      ap (λ (b : Bool). cond b (Some pod) None) (and_from (are_names pod.namespace pod.pod pod.uid) (is_made_of is_container_byte pod.container) is.folder_is.are is.container_is) in
      ap (option_and_then with_file) whole
      ∙ ap (option_and_then (with_container is.file)) parents
      ∙ ap (λ (o : Option Parts). option_and_then (with_restarts (last_of (at_last 47 front) front) pod.container) (option_and_then restarts_in o)) file
      ∙ ap (option_and_then (with_restarts (last_of (at_last 47 front) front) pod.container)) restarts
      ∙ ap (λ (name : List ℕ). with_restarts name pod.container pod.restarts) folder
      ∙ ap (option_and_then (in_folder pod.container pod.restarts)) outer
      ∙ ap (option_and_then (named pod.container pod.restarts pod.namespace)) second
      ∙ all

  pub is_pod : pod_in path ≡ Some pod → IsPodPath path pod
  unfolding pod_in
  is_pod e =
      let whole = then_from with_file (at_last 47 path) pod e in
      let parents = then_from (with_container whole.0.1) (at_last 47 whole.0.0) pod whole.2 in
      let front = parents.0.0 in
      let folder = last_of (at_last 47 front) front in
      let restarts = then_from (with_restarts folder parents.0.1) (option_and_then restarts_in (at_first 46 whole.0.1)) pod parents.2 in
      let file = then_from restarts_in (at_first 46 whole.0.1) restarts.0 restarts.1 in
      let ends = when_so (is_made_of is_ascii_digit file.0.0 && is_log_end file.0.1) file.0.0 restarts.0 file.2 in
      let outer = then_from (in_folder parents.0.1 restarts.0) (at_first 95 folder) pod restarts.2 in
      let inner = then_from (named parents.0.1 restarts.0 outer.0.0) (at_first 95 outer.0.1) pod outer.2 in
      let all = when_so (are_names outer.0.0 inner.0.0 inner.0.1 && is_made_of is_container_byte parents.0.1) _ pod inner.2 in
      let last = found_last 47 path whole.0 whole.1 in
      let before = found_last 47 whole.0.0 parents.0 parents.1 in
      let component = is_component front in
      let number = and_parts (is_made_of is_ascii_digit file.0.0) (is_log_end file.0.1) ends.0 in
      let tests = and_parts (are_names outer.0.0 inner.0.0 inner.0.1) (is_made_of is_container_byte parents.0.1) all.0 in
      let found_first = is_first 46 whole.0.1 file.0 file.1 in
      let one = is_first 95 folder outer.0 outer.1 in
      let two = is_first 95 outer.0.1 inner.0 inner.1 in
      subst (IsPodPath path) all.1 (record {
        folder = folder;
        file = whole.0.1;
        last = record {
          front = component.front;
          is = last.is ∙ ap (λ (t : List ℕ). t ++ 47 ∷ whole.0.1) (before.is ∙ ap (λ (t : List ℕ). t ++ 47 ∷ parents.0.1) component.is);
          begins = component.begins;
          folder_part = component.part;
          container_part = before.lacks;
          file_part = last.lacks;
        };
        folder_is = record { is = one.is ∙ ap (λ (t : List ℕ). outer.0.0 ++ 95 ∷ t) two.is; are = tests.0 };
        container_is = tests.1;
        file_is = record { rest = file.0.1; is = found_first.is ∙ ap (λ (t : List ℕ). t ++ 46 ∷ file.0.1) ends.1; number = subst (λ (t : List ℕ). is_made_of is_ascii_digit t ≡ true) ends.1 number.0; ends = number.1 };
      })

pub pod_is_told : (path : List ℕ) (found : Option Pod) → IsPodOf path found → found ≡ pod_in path
pod_is_told path None none = by (pod_in path) refl
  where
    by : (other : Option Pod) → pod_in path ≡ other → None ≡ pod_in path
    by None e = sym e
    by (Some pod) e = absurd (none pod (is_pod path pod e))
pod_is_told path (Some pod) is = sym (pod_is path pod is)
