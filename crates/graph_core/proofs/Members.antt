use Rattle.std.proofs.Common.{◌≡◌, ◌⊎◌, inl, inr, Bool, true, false, cond, List, [], ◌∷◌, ◌++◌, refl, sym, subst, ap, map, filter}
use Rattle.std.proofs.lemmas.Bool.{cond_both, cond-true}
use Rattle.graph_core.specs.Wiring.{Has}

pub Has-append_left : {X : Type 0} (xs ys : List X) (x : X) → Has xs x → Has (xs ++ ys) x
Has-append_left [] ys x h = absurd h
Has-append_left (y ∷ xs) ys x (inl e) = inl e
Has-append_left (y ∷ xs) ys x (inr h) = inr (Has-append_left xs ys x h)

pub Has-append_right : {X : Type 0} (xs ys : List X) (x : X) → Has ys x → Has (xs ++ ys) x
Has-append_right [] ys x h = h
Has-append_right (y ∷ xs) ys x h = inr (Has-append_right xs ys x h)

pub Has-append_cases : {X : Type 0} (xs ys : List X) (x : X) → Has (xs ++ ys) x → Has xs x ⊎ Has ys x
Has-append_cases [] ys x h = inr h
Has-append_cases (y ∷ xs) ys x (inl e) = inl (inl e)
Has-append_cases (y ∷ xs) ys x (inr h) = elim (Has-append_cases xs ys x h) [ inl a ↦ inl (inr a) | inr b ↦ inr b ]

pub Has-filter : {X : Type 0} (p : X → Bool) (xs : List X) (x : X) → Has xs x → p x ≡ true → Has (filter p xs) x
Has-filter p [] x h t = absurd h
Has-filter {X} p (y ∷ ys) x (inl e) t =
    let Q : X → Type 0 = λ z. p z ≡ true in
    rw (cond-true (p y) (y ∷ filter p ys) (filter p ys) (subst Q e t)) (inl e)
Has-filter p (y ∷ ys) x (inr h) t =
    cond_both (p y) (y ∷ filter p ys) (filter p ys) (λ l. Has l x) (λ _. inr (Has-filter p ys x h t)) (λ _. Has-filter p ys x h t)

from_filter_step : {X : Type 0} (p : X → Bool) (y : X) (ys fs : List X) (x : X) (b : Bool) → p y ≡ b → (Has fs x → Has ys x × (p x ≡ true))
    → Has (cond b (y ∷ fs) fs) x → Has (y ∷ ys) x × (p x ≡ true)
from_filter_step {X} p y ys fs x true py rec (inl e) = let Q : X → Type 0 = λ z. p z ≡ true in (inl e, subst Q (sym e) py)
from_filter_step p y ys fs x true py rec (inr h) = (inr (rec h).0, (rec h).1)
from_filter_step p y ys fs x false py rec h = (inr (rec h).0, (rec h).1)

pub Has-from_filter : {X : Type 0} (p : X → Bool) (xs : List X) (x : X) → Has (filter p xs) x → Has xs x × (p x ≡ true)
Has-from_filter p [] x h = absurd h
Has-from_filter p (y ∷ ys) x h = from_filter_step p y ys (filter p ys) x (p y) refl (Has-from_filter p ys x) h

pub Has-map : {X Y : Type 0} (f : X → Y) (xs : List X) (x : X) → Has xs x → Has (map f xs) (f x)
Has-map f [] x h = absurd h
Has-map f (y ∷ ys) x (inl e) = inl (ap f e)
Has-map f (y ∷ ys) x (inr h) = inr (Has-map f ys x h)

pub Has-same : {X : Type 0} (xs : List X) (x y : X) → x ≡ y → Has xs x → Has xs y
Has-same {X} xs x y e h = let Q : X → Type 0 = λ z. Has xs z in subst Q e h

pub record FromMap {X Y : Type 0} (f : X → Y) (xs : List X) (y : Y) : Type 0 where
  pub source : X
  pub member : Has xs source
  pub is : y ≡ f source

pub Has-from_map : {X Y : Type 0} (f : X → Y) (xs : List X) (y : Y) → Has (map f xs) y → FromMap f xs y
Has-from_map f [] y h = absurd h
Has-from_map f (x ∷ xs) y (inl e) = record { source = x; member = inl refl; is = e }
Has-from_map f (x ∷ xs) y (inr h) = let r = Has-from_map f xs y h in record { source = r.source; member = inr r.member; is = r.is }
