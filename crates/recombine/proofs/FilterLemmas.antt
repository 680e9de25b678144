-- Two filters, one after the other.
use Rattle.std.proofs.Common.{◌≡◌, Bool, true, false, cond, List, [], ◌∷◌, refl, sym, ap, ◌∙◌}
use Rattle.std.specs.Prelude.{filter, not, ◌&&◌}

pub filter_ext : {X : Type 0} (p q : X → Bool) → ((x : X) → p x ≡ q x) → (xs : List X) → filter p xs ≡ filter q xs
filter_ext p q same [] = refl
filter_ext {X} p q same (x ∷ xs) =
    ap (λ (b : Bool). cond b (x ∷ filter p xs) (filter p xs)) (same x) ∙ ap (λ (ys : List X). cond (q x) (x ∷ ys) ys) (filter_ext p q same xs)

pub filter_all : {X : Type 0} (p : X → Bool) → ((x : X) → p x ≡ true) → (xs : List X) → filter p xs ≡ xs
filter_all p all [] = refl
filter_all {X} p all (x ∷ xs) = ap (λ (b : Bool). cond b (x ∷ filter p xs) (filter p xs)) (all x) ∙ ap (λ (ys : List X). x ∷ ys) (filter_all p all xs)

pub filter_none : {X : Type 0} (p : X → Bool) → ((x : X) → p x ≡ false) → (xs : List X) → filter p xs ≡ []
filter_none p none [] = refl
filter_none {X} p none (x ∷ xs) = ap (λ (b : Bool). cond b (x ∷ filter p xs) (filter p xs)) (none x) ∙ filter_none p none xs

-- the first of the list, which passes or doesn't
pub takes : {X : Type 0} (p : X → Bool) (x : X) (xs : List X) → p x ≡ true → filter p (x ∷ xs) ≡ x ∷ filter p xs
takes {X} p x xs is = ap (λ (b : Bool). cond b (x ∷ filter p xs) (filter p xs)) is

pub leaves : {X : Type 0} (p : X → Bool) (x : X) (xs : List X) → p x ≡ false → filter p (x ∷ xs) ≡ filter p xs
leaves {X} p x xs is = ap (λ (b : Bool). cond b (x ∷ filter p xs) (filter p xs)) is

pub filter_comm : {X : Type 0} (p q : X → Bool) (xs : List X) → filter p (filter q xs) ≡ filter q (filter p xs)
filter_comm p q [] = refl
filter_comm {X} p q (x ∷ xs) = by_tests (filter_comm p q xs) (p x) refl (q x) refl
  where
    by_tests : filter p (filter q xs) ≡ filter q (filter p xs) → (a : Bool) → p x ≡ a → (b : Bool) → q x ≡ b → filter p (filter q (x ∷ xs)) ≡ filter q (filter p (x ∷ xs))
    by_tests more true is true also =
        ap (filter p) (takes q x xs also) ∙ takes p x (filter q xs) is ∙ ap (λ (ys : List X). x ∷ ys) more ∙ sym (takes q x (filter p xs) also) ∙ ap (filter q) (sym (takes p x xs is))
    by_tests more true is false also = ap (filter p) (leaves q x xs also) ∙ more ∙ sym (leaves q x (filter p xs) also) ∙ ap (filter q) (sym (takes p x xs is))
    by_tests more false is true also = ap (filter p) (takes q x xs also) ∙ leaves p x (filter q xs) is ∙ more ∙ ap (filter q) (sym (leaves p x xs is))
    by_tests more false is false also = ap (filter p) (leaves q x xs also) ∙ more ∙ ap (filter q) (sym (leaves p x xs is))

-- what passes the first passes the second
pub filter_wider : {X : Type 0} (p q : X → Bool) → ((x : X) → p x ≡ true → q x ≡ true) → (xs : List X) → filter q (filter p xs) ≡ filter p xs
filter_wider p q wider [] = refl
filter_wider {X} p q wider (x ∷ xs) = by_test (filter_wider p q wider xs) (p x) refl
  where
    by_test : filter q (filter p xs) ≡ filter p xs → (a : Bool) → p x ≡ a → filter q (filter p (x ∷ xs)) ≡ filter p (x ∷ xs)
    by_test more true is =
        ap (filter q) (takes p x xs is) ∙ takes q x (filter p xs) (wider x is) ∙ ap (λ (ys : List X). x ∷ ys) more ∙ sym (takes p x xs is)
    by_test more false is = ap (filter q) (leaves p x xs is) ∙ more ∙ sym (leaves p x xs is)

both_of : (a b : Bool) → a ≡ true → (a && b) ≡ b
both_of a b is = ap (λ (c : Bool). c && b) is

neither_of : (a b : Bool) → a ≡ false → (a && b) ≡ false
neither_of a b is = ap (λ (c : Bool). c && b) is

-- what passes both is what passes the second of what passes the first
pub filter_and : {X : Type 0} (p q : X → Bool) (xs : List X) → filter (λ x. p x && q x) xs ≡ filter q (filter p xs)
filter_and p q [] = refl
filter_and {X} p q (x ∷ xs) = by_test (filter_and p q xs) (p x) refl
  where
    by_test : filter (λ y. p y && q y) xs ≡ filter q (filter p xs) → (a : Bool) → p x ≡ a → filter (λ y. p y && q y) (x ∷ xs) ≡ filter q (filter p (x ∷ xs))
    by_test more true is =
        ap (λ (b : Bool). cond b (x ∷ filter (λ y. p y && q y) xs) (filter (λ y. p y && q y) xs)) (both_of (p x) (q x) is)
        ∙ ap (λ (ys : List X). cond (q x) (x ∷ ys) ys) more ∙ ap (filter q) (sym (takes p x xs is))
    by_test more false is = leaves (λ y. p y && q y) x xs (neither_of (p x) (q x) is) ∙ more ∙ ap (filter q) (sym (leaves p x xs is))

-- ---- where one alone passes

abbrev kept_but : {X : Type 0} → (X → Bool) → (X → Bool) → List X → List X
kept_but p q xs = filter (λ x. not (p x && q x)) xs

stays_but : {X : Type 0} (p q : X → Bool) (x : X) (xs : List X) → p x ≡ false → kept_but p q (x ∷ xs) ≡ x ∷ kept_but p q xs
stays_but p q x xs is = takes (λ y. not (p y && q y)) x xs (ap not (neither_of (p x) (q x) is))

nothing_taken : {X : Type 0} (x : X) (xs : List X) → x ∷ xs ≡ [] → ⊥
nothing_taken x xs e = cc e

none_but : {X : Type 0} (p q : X → Bool) (xs : List X) → filter p xs ≡ [] → kept_but p q xs ≡ xs
none_but p q [] none = refl
none_but {X} p q (x ∷ xs) none = by_test (λ rest. none_but p q xs rest) (p x) refl
  where
    by_test : (filter p xs ≡ [] → kept_but p q xs ≡ xs) → (a : Bool) → p x ≡ a → kept_but p q (x ∷ xs) ≡ x ∷ xs
    by_test more true is = absurd (nothing_taken x (filter p xs) (sym (takes p x xs is) ∙ none))
    by_test more false is = stays_but p q x xs is ∙ ap (λ (ys : List X). x ∷ ys) (more (sym (leaves p x xs is) ∙ none))

none_not : {X : Type 0} (p : X → Bool) (xs : List X) → filter p xs ≡ [] → filter (λ x. not (p x)) xs ≡ xs
none_not p [] none = refl
none_not {X} p (x ∷ xs) none = by_test (λ rest. none_not p xs rest) (p x) refl
  where
    by_test : (filter p xs ≡ [] → filter (λ y. not (p y)) xs ≡ xs) → (a : Bool) → p x ≡ a → filter (λ y. not (p y)) (x ∷ xs) ≡ x ∷ xs
    by_test more true is = absurd (nothing_taken x (filter p xs) (sym (takes p x xs is) ∙ none))
    by_test more false is = takes (λ y. not (p y)) x xs (ap not is) ∙ ap (λ (ys : List X). x ∷ ys) (more (sym (leaves p x xs is) ∙ none))

first_is : {X : Type 0} (x y : X) (xs ys : List X) → x ∷ xs ≡ y ∷ ys → x ≡ y
first_is x y xs ys e = cc e

rest_is : {X : Type 0} (x y : X) (xs ys : List X) → x ∷ xs ≡ y ∷ ys → xs ≡ ys
rest_is x y xs ys e = cc e

-- it passes the second too, so it is left out
pub but_passing : {X : Type 0} (p q : X → Bool) (y : X) → q y ≡ true → (xs : List X) → filter p xs ≡ y ∷ [] → filter (λ x. not (p x && q x)) xs ≡ filter (λ x. not (p x)) xs
but_passing p q y also [] one = refl
but_passing {X} p q y also (x ∷ xs) one = by_test (λ rest. but_passing p q y also xs rest) (p x) refl
  where
    by_test : (filter p xs ≡ y ∷ [] → kept_but p q xs ≡ filter (λ z. not (p z)) xs) → (a : Bool) → p x ≡ a → kept_but p q (x ∷ xs) ≡ filter (λ z. not (p z)) (x ∷ xs)
    by_test more true is =
        let here : x ∷ filter p xs ≡ y ∷ [] = sym (takes p x xs is) ∙ one in
        let rest : filter p xs ≡ [] = rest_is x y (filter p xs) [] here in
        let passes : (p x && q x) ≡ true = both_of (p x) (q x) is ∙ ap q (first_is x y (filter p xs) [] here) ∙ also in
        leaves (λ z. not (p z && q z)) x xs (ap not passes) ∙ none_but p q xs rest ∙ sym (none_not p xs rest) ∙ sym (leaves (λ z. not (p z)) x xs (ap not is))
    by_test more false is =
        stays_but p q x xs is ∙ ap (λ (ys : List X). x ∷ ys) (more (sym (leaves p x xs is) ∙ one)) ∙ sym (takes (λ z. not (p z)) x xs (ap not is))

-- it doesn't pass the second, so all stay
pub but_failing : {X : Type 0} (p q : X → Bool) (y : X) → q y ≡ false → (xs : List X) → filter p xs ≡ y ∷ [] → filter (λ x. not (p x && q x)) xs ≡ xs
but_failing p q y also [] one = refl
but_failing {X} p q y also (x ∷ xs) one = by_test (λ rest. but_failing p q y also xs rest) (p x) refl
  where
    by_test : (filter p xs ≡ y ∷ [] → kept_but p q xs ≡ xs) → (a : Bool) → p x ≡ a → kept_but p q (x ∷ xs) ≡ x ∷ xs
    by_test more true is =
        let here : x ∷ filter p xs ≡ y ∷ [] = sym (takes p x xs is) ∙ one in
        let rest : filter p xs ≡ [] = rest_is x y (filter p xs) [] here in
        let fails : (p x && q x) ≡ false = both_of (p x) (q x) is ∙ ap q (first_is x y (filter p xs) [] here) ∙ also in
        takes (λ z. not (p z && q z)) x xs (ap not fails) ∙ ap (λ (ys : List X). x ∷ ys) (none_but p q xs rest)
    by_test more false is = stays_but p q x xs is ∙ ap (λ (ys : List X). x ∷ ys) (more (sym (leaves p x xs is) ∙ one))
