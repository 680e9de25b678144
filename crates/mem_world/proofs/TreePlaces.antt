-- The contents of files, by their places.
use Rattle.std.proofs.Common.{◌≡◌, ℕ, suc, ◌+◌, ◌<◌, ◌≤◌, List, [], ◌∷◌, ◌++◌, length, get_or, set, take, Bool, true, false, cond, ◌==◌, refl, sym, ap, subst, ◌∙◌, arith, drop, eq-eqb}
use Rattle.std.specs.Prelude.{if◌then◌else◌}
use Rattle.std.proofs.lemmas.Bool.Decides.{nat_tests}
use Rattle.std.proofs.lemmas.List.{append-nil, at_drop_more, get_or_default}
use Rattle.std.proofs.Math.Seq.{take-nil}
use Rattle.mem_world.specs.declared.tree.contents.Content.{Content}
use Rattle.mem_world.specs.TreeContents.{kept_of, bytes_in, room_at, place_in}

same_number : (a b : ℕ) → (a == b) ≡ true → a ≡ b
same_number a b same = grind (arith, nat_tests)

pub place_within : (cs : List Content) (file : ℕ) → place_in cs file ≤ length cs
place_within [] file = omega arith
place_within (c ∷ cs) file =
    let rest = place_within cs file in
    elim (c.file == file) as (λ t. cond t 0 (suc (place_in cs file)) ≤ suc (length cs)) [ true ↦ omega arith | false ↦ omega (arith, rest) ]

pub place_file : (cs : List Content) (file : ℕ) (d : Content) → place_in cs file < length cs → (get_or cs (place_in cs file) d).file ≡ file
place_file [] file d within = absurd (omega arith)
place_file (c ∷ cs) file d within =
    let P : Bool → Type 0 = λ t. (c.file == file) ≡ t → cond t 0 (suc (place_in cs file)) < suc (length cs) → (get_or (c ∷ cs) (cond t 0 (suc (place_in cs file))) d).file ≡ file in
    let all : P (c.file == file) = elim (c.file == file) as P [ true ↦ λ same _. same_number c.file file same | false ↦ λ _ h. place_file cs file d (omega (arith, h)) ] in
    all refl within

module _ {X : Type 0} (default : X) (field : Content → X) where
  pub place_found : (cs : List Content) (file : ℕ) (d : Content) → place_in cs file < length cs → kept_of default field cs file ≡ field (get_or cs (place_in cs file) d)
  place_found [] file d within = absurd (omega arith)
  place_found (c ∷ cs) file d within =
      let P : Bool → Type 0 = λ t. cond t 0 (suc (place_in cs file)) < suc (length cs) → cond t (field c) (kept_of default field cs file) ≡ field (get_or (c ∷ cs) (cond t 0 (suc (place_in cs file))) d) in
      let all : P (c.file == file) = elim (c.file == file) as P [ true ↦ λ _. refl | false ↦ λ h. place_found cs file d (omega (arith, h)) ] in
      all within

  pub place_missing : (cs : List Content) (file : ℕ) → length cs ≤ place_in cs file → kept_of default field cs file ≡ default
  place_missing [] file past = refl
  place_missing (c ∷ cs) file past =
      let P : Bool → Type 0 = λ t. suc (length cs) ≤ cond t 0 (suc (place_in cs file)) → cond t (field c) (kept_of default field cs file) ≡ default in
      let all : P (c.file == file) = elim (c.file == file) as P [ true ↦ λ h. absurd (omega (arith, h)) | false ↦ λ h. place_missing cs file (omega (arith, h)) ] in
      all past

  set_head : (file first other : ℕ) (x y z : X) → first ≡ file → (if file == other then x else z) ≡ (if file == other then x else (if first == other then y else z))
  set_head file first other x y z same =
      rw same (elim (file == other) as (λ t. cond t x z ≡ cond t x (cond t y z)) [ true ↦ refl | false ↦ refl ])

  set_tail : (file first other : ℕ) (x y z : X) → (first == file) ≡ false → (if first == other then y else (if file == other then x else z)) ≡ (if file == other then x else (if first == other then y else z))
  set_tail file first other x y z apart =
      let P : Bool → Bool → Type 0 = λ s t. (first == other) ≡ s → (file == other) ≡ t → cond s y (cond t x z) ≡ cond t x (cond s y z) in
      let both : P true true = λ a b. absurd (let e : first ≡ file = same_number first other a ∙ sym (same_number file other b) in let t : (first == file) ≡ true = eq-eqb first file e in cc) in
      let all : P (first == other) (file == other) = elim (first == other) as (λ s. P s (file == other)) [
        | true ↦ elim (file == other) as (λ t. P true t) [ true ↦ both | false ↦ λ _ _. refl ]
        | false ↦ elim (file == other) as (λ t. P false t) [ true ↦ λ _ _. refl | false ↦ λ _ _. refl ]
      ] in
      all refl refl

  pub kept_set : (cs : List Content) (file : ℕ) (new : Content) (other : ℕ) → place_in cs file < length cs → new.file ≡ file → kept_of default field (set cs (place_in cs file) new) other ≡ (if file == other then field new else kept_of default field cs other)
  kept_set [] file new other within same = absurd (omega arith)
  kept_set (c ∷ cs) file new other within same =
      let P : Bool → Type 0 = λ t. (c.file == file) ≡ t → cond t 0 (suc (place_in cs file)) < suc (length cs) → kept_of default field (set (c ∷ cs) (cond t 0 (suc (place_in cs file))) new) other ≡ (if file == other then field new else kept_of default field (c ∷ cs) other) in
      let all : P (c.file == file) = elim (c.file == file) as P [
        | true ↦ λ t _. ap (λ n. if n == other then field new else kept_of default field cs other) same ∙ set_head file c.file other (field new) (field c) (kept_of default field cs other) (same_number c.file file t)
        | false ↦ λ f h. rw (kept_set cs file new other (omega (arith, h)) same) (set_tail file c.file other (field new) (field c) (kept_of default field cs other) f)
      ] in
      all refl within

  pub kept_push : (cs : List Content) (new : Content) (other : ℕ) → field new ≡ default → kept_of default field (cs ++ new ∷ []) other ≡ kept_of default field cs other
  kept_push [] new other same = elim (new.file == other) as (λ t. cond t (field new) default ≡ default) [ true ↦ same | false ↦ refl ]
  kept_push (c ∷ cs) new other same =
      elim (c.file == other) as (λ t. cond t (field c) (kept_of default field (cs ++ new ∷ []) other) ≡ cond t (field c) (kept_of default field cs other)) [ true ↦ refl | false ↦ kept_push cs new other same ]

pub place_push : (cs : List Content) (file : ℕ) (new : Content) → length cs ≤ place_in cs file → new.file ≡ file → place_in (cs ++ new ∷ []) file ≡ length cs
place_push [] file new past same =
    let t : (new.file == file) ≡ true = eq-eqb new.file file same in rw t
place_push (c ∷ cs) file new past same =
    let P : Bool → Type 0 = λ t. suc (length cs) ≤ cond t 0 (suc (place_in cs file)) → cond t 0 (suc (place_in (cs ++ new ∷ []) file)) ≡ suc (length cs) in
    let all : P (c.file == file) = elim (c.file == file) as P [ true ↦ λ h. absurd (omega (arith, h)) | false ↦ λ h. ap suc (place_push cs file new (omega (arith, h)) same) ] in
    all past

pub place_more : (cs : List Content) (file i : ℕ) (d : Content) → i < length cs → place_in cs file ≡ i + place_in (drop i cs) file → ((get_or cs i d).file ≡ file → ⊥) → place_in cs file ≡ (i + 1) + place_in (drop (i + 1) cs) file
place_more cs file i d within so_far apart =
    let t : ((get_or cs i d).file == file) ≡ false = grind (arith, nat_tests) in
    let next : place_in (drop i cs) file ≡ place_in (get_or cs i d ∷ drop (i + 1) cs) file = at_drop_more (λ rest. place_in rest file) cs i d within in
    let one_left : place_in (get_or cs i d ∷ drop (i + 1) cs) file ≡ suc (place_in (drop (i + 1) cs) file) = rw t in
    omega (arith, so_far, next, one_left)

-- Where the content at the file's place is changed, the file's field is changed, and no other file's.
pub changed_by : {X : Type 0} (default : X) (field : Content → X) (R : Bool → X → X → Type 0) (cs : List Content) (file at : ℕ) (old new : Content) → at ≡ place_in cs file → at < length cs → old ≡ get_or cs at old → new.file ≡ old.file → R true (field old) (field new) → ((x : X) → R false x x) → (other : ℕ) → R (file == other) (kept_of default field cs other) (kept_of default field (set cs at new) other)
changed_by {X} default field R cs file at old new here within read same changed kept other =
    let there : place_in cs file < length cs = rw (← here) within in
    let old_is : old ≡ get_or cs (place_in cs file) old = rw (← here) read in
    let named : new.file ≡ file = same ∙ ap (λ (c : Content). c.file) old_is ∙ place_file cs file old there in
    let found : kept_of default field cs file ≡ field old = place_found default field cs file old there ∙ ap field (sym old_is) in
    let P : Bool → Type 0 = λ t. (file == other) ≡ t → R t (kept_of default field cs other) (cond t (field new) (kept_of default field cs other)) in
    let yes : P true = λ e. let Q : X → Type 0 = λ x. R true x (field new) in subst Q (sym (sym (ap (λ n. kept_of default field cs n) (same_number file other e)) ∙ found)) changed in
    let all : P (file == other) = elim (file == other) as P [ true ↦ yes | false ↦ λ _. kept (kept_of default field cs other) ] in
    rw (here, kept_set default field cs file new other there named) (all refl)

abbrev GrowsIf : {A : Type 0} → List A → Bool → List A → List A → Type 0
GrowsIf more t old new = new ≡ old ++ (if t then more else [])

pub filled_bytes : (cs : List Content) (file at : ℕ) (old new : Content) (more : List ℕ) → at ≡ place_in cs file → at < length cs → old ≡ get_or cs at old → new.file ≡ old.file → new.bytes.items ≡ old.bytes.items ++ more → (other : ℕ) → bytes_in (set cs at new) other ≡ bytes_in cs other ++ (if file == other then more else [])
filled_bytes cs file at old new more here within read same grown =
    changed_by [] (λ c. c.bytes.items) (GrowsIf more) cs file at old new here within read same grown (λ x. sym (append-nil x))

abbrev ShrinksIf : List ℕ → Bool → ℕ → ℕ → Type 0
ShrinksIf more t old new = new + length (if t then more else []) ≡ old

pub filled_rooms : (cs : List Content) (file at : ℕ) (old new : Content) (more : List ℕ) → at ≡ place_in cs file → at < length cs → old ≡ get_or cs at old → new.file ≡ old.file → new.room + length more ≡ old.room → (other : ℕ) → room_at (set cs at new) other + length (if file == other then more else []) ≡ room_at cs other
filled_rooms cs file at old new more here within read same shrunk =
    changed_by 0 (λ c. c.room) (ShrinksIf more) cs file at old new here within read same shrunk (λ x. omega arith)

abbrev RisesIf : List ℕ → Bool → ℕ → ℕ → Type 0
RisesIf more t old new = new ≡ old + length (if t then more else [])

pub raised_rooms : (cs : List Content) (file at : ℕ) (old new : Content) (more : List ℕ) → at ≡ place_in cs file → at < length cs → old ≡ get_or cs at old → new.file ≡ old.file → new.room ≡ old.room + length more → (other : ℕ) → room_at (set cs at new) other ≡ room_at cs other + length (if file == other then more else [])
raised_rooms cs file at old new more here within read same risen =
    changed_by 0 (λ c. c.room) (RisesIf more) cs file at old new here within read same risen (λ x. omega arith)

abbrev Stays : {X : Type 0} → Bool → X → X → Type 0
Stays t old new = new ≡ old

pub same_bytes : (cs : List Content) (file at : ℕ) (old new : Content) → at ≡ place_in cs file → at < length cs → old ≡ get_or cs at old → new.file ≡ old.file → new.bytes.items ≡ old.bytes.items → (other : ℕ) → bytes_in (set cs at new) other ≡ bytes_in cs other
same_bytes cs file at old new here within read same stays =
    changed_by [] (λ c. c.bytes.items) Stays cs file at old new here within read same stays (λ x. refl)

pub same_rooms : (cs : List Content) (file at : ℕ) (old new : Content) → at ≡ place_in cs file → at < length cs → old ≡ get_or cs at old → new.file ≡ old.file → new.room ≡ old.room → (other : ℕ) → room_at (set cs at new) other ≡ room_at cs other
same_rooms cs file at old new here within read same stays =
    changed_by 0 (λ c. c.room) Stays cs file at old new here within read same stays (λ x. refl)

pub bytes_found : (cs : List Content) (file at : ℕ) (old : Content) → at ≡ place_in cs file → at < length cs → old ≡ get_or cs at old → bytes_in cs file ≡ old.bytes.items
bytes_found cs file at old here within read =
    let there : place_in cs file < length cs = rw (← here) within in
    let old_is : old ≡ get_or cs (place_in cs file) old = rw (← here) read in
    place_found [] (λ c. c.bytes.items) cs file old there ∙ ap (λ (c : Content). c.bytes.items) (sym old_is)

pub room_found : (cs : List Content) (file at : ℕ) (old : Content) → at ≡ place_in cs file → at < length cs → old ≡ get_or cs at old → room_at cs file ≡ old.room
room_found cs file at old here within read =
    let there : place_in cs file < length cs = rw (← here) within in
    let old_is : old ≡ get_or cs (place_in cs file) old = rw (← here) read in
    place_found 0 (λ c. c.room) cs file old there ∙ ap (λ (c : Content). c.room) (sym old_is)

pub bytes_missing : (cs : List Content) (file : ℕ) → length cs ≤ place_in cs file → bytes_in cs file ≡ []
bytes_missing = place_missing [] (λ c. c.bytes.items)

pub room_missing : (cs : List Content) (file : ℕ) → length cs ≤ place_in cs file → room_at cs file ≡ 0
room_missing = place_missing 0 (λ c. c.room)

pub bytes_push : (cs : List Content) (new : Content) (other : ℕ) → new.bytes.items ≡ [] → bytes_in (cs ++ new ∷ []) other ≡ bytes_in cs other
bytes_push = kept_push [] (λ c. c.bytes.items)

pub room_push : (cs : List Content) (new : Content) (other : ℕ) → new.room ≡ 0 → room_at (cs ++ new ∷ []) other ≡ room_at cs other
room_push = kept_push 0 (λ c. c.room)

pub nothing_filled : (more old : List ℕ) (t : Bool) → length more ≤ 0 → old ≡ old ++ (if t then more else [])
nothing_filled [] old true none = sym (append-nil old)
nothing_filled [] old false none = sym (append-nil old)
nothing_filled (b ∷ bs) old t none = absurd (omega arith)

pub nothing_taken : (more : List ℕ) (old : ℕ) (t : Bool) → length more ≤ 0 → old + length (if t then more else []) ≡ old
nothing_taken more old true none = omega arith
nothing_taken more old false none = omega arith

pub read_again : (cs : List Content) (at : ℕ) (d : Content) → at < length cs → get_or cs at d ≡ get_or cs at (get_or cs at d)
read_again cs at d within = get_or_default cs at d (get_or cs at d) within

abbrev CutsIf : ℕ → Bool → List ℕ → List ℕ → Type 0
CutsIf size t old new = new ≡ (if t then take size old else old)

pub cut_bytes : (cs : List Content) (file at size : ℕ) (old new : Content) → at ≡ place_in cs file → at < length cs → old ≡ get_or cs at old → new.file ≡ old.file → new.bytes.items ≡ take size old.bytes.items → (other : ℕ) → bytes_in (set cs at new) other ≡ (if file == other then take size (bytes_in cs other) else bytes_in cs other)
cut_bytes cs file at size old new here within read same cut =
    changed_by [] (λ c. c.bytes.items) (CutsIf size) cs file at old new here within read same cut (λ x. refl)

pub nothing_cut : (cs : List Content) (file size : ℕ) → length cs ≤ place_in cs file → (other : ℕ) → bytes_in cs other ≡ (if file == other then take size (bytes_in cs other) else bytes_in cs other)
nothing_cut cs file size past other =
    let P : Bool → Type 0 = λ t. (file == other) ≡ t → bytes_in cs other ≡ cond t (take size (bytes_in cs other)) (bytes_in cs other) in
    let yes : P true = λ same. let none : bytes_in cs other ≡ [] = ap (bytes_in cs) (sym (same_number file other same)) ∙ bytes_missing cs file past in none ∙ sym (take-nil size) ∙ ap (take size) (sym none) in
    let all : P (file == other) = elim (file == other) as P [ true ↦ yes | false ↦ λ _. refl ] in
    all refl
