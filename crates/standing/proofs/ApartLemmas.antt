-- The files of the worked history can be told apart.
use Rattle.std.proofs.Common.{◌≡◌, ◌≢◌, ◌⊎◌, ℕ, ◌<◌, List, [], ◌∷◌, ◌++◌, length, take, get_or, sym, ap, subst, inl, inr, arith}
use Rattle.std.specs.Prelude.{codes}
use Rattle.outside.specs.World.{Event, create, append, rename, look, History, bytes}
use Rattle.standing.specs.Apart.{Apart, AreApart}
use Rattle.standing.specs.Example.{begun, polled, rotated, polled_again}
use Rattle.standing.specs.Moments.{LookAt}

-- the newest event is this look, or the look came before it
abbrev Newest : Event → History → ℕ → History → Type 0
Newest event before file moment = ((event ≡ look file) × (before ≡ moment)) ⊎ LookAt before file moment

newest_by : (event : Event) (before : History) (file : ℕ) (moment : History) (later : List Event) → event ∷ before ≡ later ++ look file ∷ moment → Newest event before file moment
newest_by event before file moment [] is =
    let both : ◌≡◌ {A = List Event} (event ∷ before) (look file ∷ moment) = is in
    inl ((cc), (cc))
newest_by event before file moment (first ∷ later) is =
    let both : ◌≡◌ {A = List Event} (event ∷ before) (first ∷ (later ++ look file ∷ moment)) = is in
    inr (record { later = later; split = (cc) })

newest : (event : Event) (before : History) (file : ℕ) (moment : History) → LookAt (event ∷ before) file moment → Newest event before file moment
newest event before file moment at = newest_by event before file moment at.later at.split

no_look_at_all : (file : ℕ) (moment : History) (later : List Event) → ◌≡◌ {A = List Event} [] (later ++ look file ∷ moment) → ⊥
no_look_at_all file moment [] is = let both : ◌≡◌ {A = List Event} [] (look file ∷ moment) = is in cc
no_look_at_all file moment (first ∷ later) is = let both : ◌≡◌ {A = List Event} [] (first ∷ (later ++ look file ∷ moment)) = is in cc

-- a step of others is no look
before_append : (other : ℕ) (more : List ℕ) (before : History) (file : ℕ) (moment : History) → LookAt (append other more ∷ before) file moment → LookAt before file moment
before_append other more before file moment at =
    elim (newest (append other more) before file moment at) [
      | inl is ↦ (let both : append other more ≡ look file = is.0 in absurd (cc))
      | inr earlier ↦ earlier
    ]

before_create : (other : ℕ) (path : List ℕ) (before : History) (file : ℕ) (moment : History) → LookAt (create other path ∷ before) file moment → LookAt before file moment
before_create other path before file moment at =
    elim (newest (create other path) before file moment at) [
      | inl is ↦ (let both : create other path ≡ look file = is.0 in absurd (cc))
      | inr earlier ↦ earlier
    ]

before_rename : (other : ℕ) (path : List ℕ) (before : History) (file : ℕ) (moment : History) → LookAt (rename other path ∷ before) file moment → LookAt before file moment
before_rename other path before file moment at =
    elim (newest (rename other path) before file moment at) [
      | inl is ↦ (let both : rename other path ≡ look file = is.0 in absurd (cc))
      | inr earlier ↦ earlier
    ]

none_begun : (file : ℕ) (moment : History) → LookAt begun file moment → ⊥
none_begun file moment at =
    let empty = before_create 1 (codes "app.log") [] file moment (before_append 1 (codes "one\ntw") (create 1 (codes "app.log") ∷ []) file moment at) in
    no_look_at_all file moment empty.later empty.split

same_file : (file other : ℕ) → look file ≡ look other → file ≡ other
same_file file other is = cc

one_polled : (file : ℕ) (moment : History) → LookAt polled file moment → (1 ≡ file) × (begun ≡ moment)
one_polled file moment at =
    elim (newest (look 1) begun file moment at) [
      | inl is ↦ (same_file 1 file is.0, is.1)
      | inr earlier ↦ absurd (none_begun file moment earlier)
    ]

one_rotated : (file : ℕ) (moment : History) → LookAt rotated file moment → (1 ≡ file) × (begun ≡ moment)
one_rotated file moment at =
    one_polled file moment
    (before_rename 1 (codes "app.log.1") polled file moment
    (before_append 1 (codes "o\n") (rename 1 (codes "app.log.1") ∷ polled) file moment
    (before_create 2 (codes "app.log") (append 1 (codes "o\n") ∷ rename 1 (codes "app.log.1") ∷ polled) file moment
    (before_append 2 (codes "three\n") (create 2 (codes "app.log") ∷ append 1 (codes "o\n") ∷ rename 1 (codes "app.log.1") ∷ polled) file moment at))))

apart_by_first : (a b : List ℕ) → get_or a 0 0 ≢ get_or b 0 0 → 0 < length a → AreApart a b
apart_by_first [] b differs filled = absurd (omega (arith, filled))
apart_by_first (x ∷ a) [] differs filled = record {
  not_grown = λ is. (let both : ◌≡◌ {A = List ℕ} [] (x ∷ a) = is in cc);
  not_shrunk = λ some. absurd (omega (arith, some));
}
apart_by_first (x ∷ a) (y ∷ b) differs filled = record {
  not_grown = λ is. differs (sym (ap (λ (l : List ℕ). get_or l 0 0) is));
  not_shrunk = λ some is. differs (ap (λ (l : List ℕ). get_or l 0 0) is);
}

abbrev ApartAt : ℕ → History → ℕ → History → Type 0
ApartAt file moment other earlier = other ≢ file → AreApart (take 16 (bytes earlier other)) (take 16 (bytes moment file))

-- of the looks before the last one
at_second : (file other : ℕ) (moment earlier : History) → look 2 ≡ look file → rotated ≡ moment → LookAt moment other earlier → ApartAt file moment other earlier
at_second file other moment earlier is when before =
    let P : ℕ → Type 0 = λ f. (m : History) → rotated ≡ m → LookAt m other earlier → ApartAt f m other earlier in
    let Q : History → Type 0 = λ m. LookAt m other earlier → ApartAt 2 m other earlier in
    let inner : Q rotated = λ at differs.
    let which = one_rotated other earlier at in
    let R : ℕ → Type 0 = λ o. AreApart (take 16 (bytes earlier o)) (take 16 (bytes rotated 2)) in
    let S : History → Type 0 = λ e. AreApart (take 16 (bytes e 1)) (take 16 (bytes rotated 2)) in
    subst R which.0 (subst S which.1 (apart_by_first (take 16 (bytes begun 1)) (take 16 (bytes rotated 2)) (λ e. absurd (omega (arith, e))) (omega arith))) in
    subst P (same_file 2 file is) (λ m e. subst Q e inner) moment when before

at_third : (file other : ℕ) (moment earlier : History) → look 1 ≡ look file → (look 2 ∷ rotated) ≡ moment → LookAt moment other earlier → ApartAt file moment other earlier
at_third file other moment earlier is when before =
    let P : ℕ → Type 0 = λ f. (m : History) → (look 2 ∷ rotated) ≡ m → LookAt m other earlier → ApartAt f m other earlier in
    let Q : History → Type 0 = λ m. LookAt m other earlier → ApartAt 1 m other earlier in
    let R : ℕ → Type 0 = λ o. AreApart (take 16 (bytes earlier o)) (take 16 (bytes (look 2 ∷ rotated) 1)) in
    let S : History → Type 0 = λ e. AreApart (take 16 (bytes e 2)) (take 16 (bytes (look 2 ∷ rotated) 1)) in
    let inner : Q (look 2 ∷ rotated) = λ at differs. elim (newest (look 2) rotated other earlier at) [
      | inl this ↦ subst R (same_file 2 other this.0) (subst S this.1 (apart_by_first (take 16 (bytes rotated 2)) (take 16 (bytes (look 2 ∷ rotated) 1)) (λ e. absurd (omega (arith, e))) (omega arith)))
      | inr past ↦ absurd (differs (sym (one_rotated other earlier past).0))
    ] in
    subst P (same_file 1 file is) (λ m e. subst Q e inner) moment when before

pub told_apart : Apart 16 polled_again
told_apart = λ file other moment earlier at before differs filled.
    elim (newest (look 1) (look 2 ∷ rotated) file moment at) [
      | inl third ↦ at_third file other moment earlier third.0 third.1 before differs
      | inr past ↦ elim (newest (look 2) rotated file moment past) [
        | inl second ↦ at_second file other moment earlier second.0 second.1 before differs
        | inr first ↦ absurd (none_begun other earlier (subst (λ m. LookAt m other earlier) (sym (one_rotated file moment first).1) before))
      ]
    ]
