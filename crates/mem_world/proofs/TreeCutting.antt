-- A file that is cut, event by event.
use Rattle.std.proofs.Common.{◌≡◌, ℕ, zero, suc, ◌+◌, ◌-◌, ◌<◌, ◌≤◌, ◌⊎◌, List, [], ◌∷◌, ◌++◌, length, map, take, drop, Bool, true, false, cond, not, ◌==◌, ◌&&◌, ◌||◌, refl, sym, ap, subst, ◌∙◌, arith}
use Rattle.std.specs.Prelude.{if◌then◌else◌}
use Rattle.std.proofs.lemmas.Bool.Decides.{nat_tests}
use Rattle.std.proofs.Math.Seq.{take-nil}
use Rattle.outside.specs.Lawful.{may_come, is_free, IsLawful}
use Rattle.outside.specs.World.{Event, create, append, rename, remove, look, miss, unlisted, History, Names, names, has_name, was_created, bytes}
use Rattle.mem_world.specs.TreeEvents.{event_recorded}
use Rattle.mem_world.specs.TreeSpoiled.{shortened, cut_to}
use Rattle.mem_world.specs.WorldSteps.{added_by, makes, names_after}
use Rattle.mem_world.specs.declared.tree.events.Recorded.{Recorded}
use Rattle.mem_world.proofs.TreeStoring.{names_then, created_then, bytes_then}

same_names : (file most : ℕ) (event : Event) (before : Names) → names_after (shortened file most event) before ≡ names_after event before
same_names file most (create _ _) before = refl
same_names file most (append _ _) before = refl
same_names file most (rename _ _) before = refl
same_names file most (remove _) before = refl
same_names file most (look _) before = refl
same_names file most (miss _) before = refl
same_names file most (unlisted _) before = refl

same_made : (file most : ℕ) (event : Event) (other : ℕ) → makes (shortened file most event) other ≡ makes event other
same_made file most (create _ _) other = refl
same_made file most (append _ _) other = refl
same_made file most (rename _ _) other = refl
same_made file most (remove _) other = refl
same_made file most (look _) other = refl
same_made file most (miss _) other = refl
same_made file most (unlisted _) other = refl

adds_front : (file most : ℕ) (event : Event) → added_by (shortened file most event) file ≡ take most (added_by event file)
adds_front file most (create _ _) = sym (take-nil most)
adds_front file most (append other more) =
    elim (other == file) as (λ t. cond t (cond t (take most more) more) [] ≡ take most (cond t more [])) [ true ↦ refl | false ↦ sym (take-nil most) ]
adds_front file most (rename _ _) = sym (take-nil most)
adds_front file most (remove _) = sym (take-nil most)
adds_front file most (look _) = sym (take-nil most)
adds_front file most (miss _) = sym (take-nil most)
adds_front file most (unlisted _) = sym (take-nil most)

same_number : (a b : ℕ) → (a == b) ≡ true → a ≡ b
same_number a b same = grind (arith, nat_tests)

apart_tests : (file other named : ℕ) → (file == other) ≡ false → (named == other) ≡ true → (named == file) ≡ false
apart_tests file other named apart same = grind (arith, nat_tests)

adds_same : (file most other : ℕ) (event : Event) → (file == other) ≡ false → added_by (shortened file most event) other ≡ added_by event other
adds_same file most other (create _ _) apart = refl
adds_same file most other (append named more) apart =
    let P : Bool → Type 0 = λ t. (named == other) ≡ t → cond t (cond (named == file) (take most more) more) [] ≡ cond t more [] in
    let yes : P true = λ same. let no : (named == file) ≡ false = apart_tests file other named apart same in rw no in
    let all : P (named == other) = elim (named == other) as P [ true ↦ yes | false ↦ λ _. refl ] in
    all refl
adds_same file most other (rename _ _) apart = refl
adds_same file most other (remove _) apart = refl
adds_same file most other (look _) apart = refl
adds_same file most other (miss _) apart = refl
adds_same file most other (unlisted _) apart = refl

pub cut_names : (file size : ℕ) (history : History) → names (cut_to file size history) ≡ names history
cut_names file size [] = refl
cut_names file size (event ∷ before) =
    let most = size - length (bytes before file) in
    names_then (shortened file most event) (cut_to file size before)
    ∙ same_names file most event (names (cut_to file size before))
    ∙ ap (names_after event) (cut_names file size before)
    ∙ sym (names_then event before)

pub cut_created : (file size : ℕ) (history : History) (other : ℕ) → was_created (cut_to file size history) other ≡ was_created history other
cut_created file size [] other = refl
cut_created file size (event ∷ before) other =
    let most = size - length (bytes before file) in
    created_then (shortened file most event) (cut_to file size before) other
    ∙ ap (λ b. b || was_created (cut_to file size before) other) (same_made file most event other)
    ∙ ap (λ b. makes event other || b) (cut_created file size before other)
    ∙ sym (created_then event before other)

take_two : (size : ℕ) (front more : List ℕ) → take size front ++ take (size - length front) more ≡ take size (front ++ more)
take_two zero front more =
    let none : 0 - length front ≡ 0 = omega arith in
    ap (λ n. take n more) none
take_two (suc size) [] more =
    let all : suc size - 0 ≡ suc size = omega arith in
    ap (λ n. take n more) all
take_two (suc size) (byte ∷ front) more =
    let less : suc size - suc (length front) ≡ size - length front = omega arith in
    ap (λ n. byte ∷ (take size front ++ take n more)) less ∙ ap (λ bs. byte ∷ bs) (take_two size front more)

pub cut_here : (file size : ℕ) (history : History) → bytes (cut_to file size history) file ≡ take size (bytes history file)
cut_here file size [] = sym (take-nil size)
cut_here file size (event ∷ before) =
    let most = size - length (bytes before file) in
    bytes_then (shortened file most event) (cut_to file size before) file
    ∙ ap (λ bs. bytes (cut_to file size before) file ++ bs) (adds_front file most event)
    ∙ ap (λ bs. bs ++ take most (added_by event file)) (cut_here file size before)
    ∙ take_two size (bytes before file) (added_by event file)
    ∙ ap (take size) (sym (bytes_then event before file))

cut_apart : (file size other : ℕ) (history : History) → (file == other) ≡ false → bytes (cut_to file size history) other ≡ bytes history other
cut_apart file size other [] apart = refl
cut_apart file size other (event ∷ before) apart =
    let most = size - length (bytes before file) in
    bytes_then (shortened file most event) (cut_to file size before) other
    ∙ ap (λ bs. bytes (cut_to file size before) other ++ bs) (adds_same file most other event apart)
    ∙ ap (λ bs. bs ++ added_by event other) (cut_apart file size other before apart)
    ∙ sym (bytes_then event before other)

pub cut_bytes : (file size : ℕ) (history : History) (other : ℕ) → bytes (cut_to file size history) other ≡ (if file == other then take size (bytes history other) else bytes history other)
cut_bytes file size history other =
    let P : Bool → Type 0 = λ t. (file == other) ≡ t → bytes (cut_to file size history) other ≡ cond t (take size (bytes history other)) (bytes history other) in
    let Q : ℕ → Type 0 = λ n. bytes (cut_to file size history) n ≡ take size (bytes history n) in
    let yes : P true = λ same. subst Q (same_number file other same) (cut_here file size history) in
    let all : P (file == other) = elim (file == other) as P [ true ↦ yes | false ↦ cut_apart file size other history ] in
    all refl

may_same : (file size most : ℕ) (event : Event) (before : History) → may_come (cut_to file size before) (shortened file most event) ≡ may_come before event
may_same file size most (create named path) before =
    ap (λ b. not b && is_free (names (cut_to file size before)) path) (cut_created file size before named)
    ∙ ap (λ ns. not (was_created before named) && is_free ns path) (cut_names file size before)
may_same file size most (append named _) before = ap (λ ns. has_name ns named) (cut_names file size before)
may_same file size most (rename named path) before = ap (λ ns. has_name ns named && is_free ns path) (cut_names file size before)
may_same file size most (remove named) before = ap (λ ns. has_name ns named) (cut_names file size before)
may_same file size most (look named) before = ap (λ ns. has_name ns named) (cut_names file size before)
may_same file size most (miss _) before = refl
may_same file size most (unlisted _) before = refl

pub cut_lawful : (file size : ℕ) (history : History) → IsLawful history → IsLawful (cut_to file size history)
cut_lawful file size [] lawful = tt
cut_lawful file size (event ∷ before) lawful =
    (may_same file size (size - length (bytes before file)) event before ∙ lawful.0, cut_lawful file size before lawful.1)

abbrev events : List Recorded → History
events recorded = map event_recorded recorded

-- So far the events before the place were shortened. So many bytes are still to be taken away.
pub record Cutting (file size : ℕ) (first now : List Recorded) (left place : ℕ) : Type 0 where
  pub front : events (take place now) ++ cut_to file size (events (drop place first)) ≡ cut_to file size (events first)
  pub rest : drop place now ≡ drop place first
  pub long : length now ≡ length first
  pub left_is : left ≡ length (bytes (events (drop place first)) file) - size

heads : {x y : Recorded} {xs ys : List Recorded} → x ∷ xs ≡ y ∷ ys → x ≡ y
heads same = cc

tails : {x y : Recorded} {xs ys : List Recorded} → x ∷ xs ≡ y ∷ ys → xs ≡ ys
tails same = cc
