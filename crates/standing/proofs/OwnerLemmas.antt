-- Rows and the files that own them.
use Rattle.std.proofs.Common.{◌≡◌, ◌≢◌, ◌⊎◌, ℕ, ◌<◌, List, [], ◌∷◌, ◌++◌, length, take, sym, ap, subst, ◌∙◌, inl, inr, arith, length-take}
use Rattle.std.proofs.lemmas.Bool.{cases_eq}
use Rattle.std.proofs.lemmas.List.{take_all}
use Rattle.outside.specs.World.{Event, History, bytes, look}
use Rattle.standing.specs.Apart.{Apart, AreApart}
use Rattle.standing.specs.Marks.{Mark}
use Rattle.standing.specs.Moments.{LookAt}
use Rattle.standing.specs.Owner.{IsOwner}
use Rattle.standing.specs.Prefixes.{IsPrefix}
use Rattle.standing.specs.Rows.{Row, IsRowAt}
use Rattle.standing.specs.Eras.{Eras}
use Rattle.standing.specs.Stands.{LinesStand}
use Rattle.standing.proofs.MomentLemmas.{look_later, fronts_of_one}

-- of two rows of one file the front of one begins that of the other
pub fronts_of_owner : (eras : Eras) (history : History) (row other : Row) (file : ℕ) → IsOwner eras history row file → IsOwner eras history other file → IsPrefix row.front other.front ⊎ IsPrefix other.front row.front
fronts_of_owner eras history row other file owns owns_other =
    let P : List ℕ → Type 0 = λ b. IsPrefix b other.front in
    let Q : List ℕ → Type 0 = λ b. IsPrefix other.front b in
    elim (fronts_of_one eras.first.front_size history owns.seen_at owns_other.seen_at file (look_later history file owns.seen_at owns.seen) (look_later history file owns_other.seen_at owns_other.seen)) [
      | inl first ↦ inl (subst P (sym owns.saw) (subst (λ (b : List ℕ). IsPrefix (take eras.first.front_size (bytes owns.seen_at file)) b) (sym owns_other.saw) first))
      | inr second ↦ inr (subst Q (sym owns.saw) (subst (λ (b : List ℕ). IsPrefix b (take eras.first.front_size (bytes owns.seen_at file))) (sym owns_other.saw) second))
    ]

pub owners_differ : (eras : Eras) (history : History) (rows : List Row) (next_id : ℕ) (marks : List Mark) (place other_place : ℕ) (row other : Row) (file other_file : ℕ)
    → LinesStand eras history rows next_id marks → IsRowAt rows place row → IsRowAt rows other_place other → place ≢ other_place
    → IsOwner eras history row file → IsOwner eras history other other_file → file ≢ other_file
owners_differ eras history rows next_id marks place other_place row other file other_file stand at other_at differs owns owns_other = λ same.
    elim (fronts_of_owner eras history row other file owns (subst (λ f. IsOwner eras history other f) (sym same) owns_other)) [
      | inl first ↦ stand.fronts_apart place other_place row other at other_at differs first
      | inr second ↦ stand.fronts_apart other_place place other row other_at at (λ e. differs (sym e)) second
    ]

-- of two looks one came first, or they are one
abbrev InTurn : ℕ → History → ℕ → History → Type 0
InTurn file moment other other_moment = LookAt moment other other_moment ⊎ (LookAt other_moment file moment ⊎ (file ≡ other))

in_turn : (file other : ℕ) (moment other_moment : History) (later other_later : List Event) → later ++ look file ∷ moment ≡ other_later ++ look other ∷ other_moment → InTurn file moment other other_moment
in_turn file other moment other_moment [] [] same =
    let heads : ◌≡◌ {A = List Event} (look file ∷ moment) (look other ∷ other_moment) = same in
    let events : look file ≡ look other = cc in
    inr (inr (cc))
in_turn file other moment other_moment [] (event ∷ rest) same =
    let heads : ◌≡◌ {A = List Event} (look file ∷ moment) (event ∷ (rest ++ look other ∷ other_moment)) = same in
    inl (record { later = rest; split = (cc) })
in_turn file other moment other_moment (event ∷ rest) [] same =
    let heads : ◌≡◌ {A = List Event} (event ∷ (rest ++ look file ∷ moment)) (look other ∷ other_moment) = same in
    inr (inl (record { later = rest; split = (cc) }))
in_turn file other moment other_moment (event ∷ rest) (other_event ∷ other_rest) same =
    let heads : ◌≡◌ {A = List Event} (event ∷ (rest ++ look file ∷ moment)) (other_event ∷ (other_rest ++ look other ∷ other_moment)) = same in
    in_turn file other moment other_moment rest other_rest (cc)

one_seen : (eras : Eras) (row : Row) (b c : List ℕ) → row.front ≡ b → row.front ≡ c → AreApart b c → ⊥
one_seen eras row b c is is_too apart =
    let same : b ≡ c = sym is ∙ is_too in
    apart.not_grown (ap (take (length b)) (sym same) ∙ take_all (length b) b (omega arith))

pub one_owner : (eras : Eras) (history : History) (row : Row) (file other : ℕ) → Apart eras.first.front_size history → IsOwner eras history row file → IsOwner eras history row other → file ≡ other
one_owner eras history row file other apart owns owns_too =
    let filled : (f : ℕ) (o : IsOwner eras history row f) → 0 < length (bytes o.seen_at f) =
    λ f o. omega (arith, o.not_empty, ap length o.saw, length-take eras.first.front_size (bytes o.seen_at f)) in
    elim (cases_eq file other) [
      | inl same ↦ same
      | inr differs ↦ elim (in_turn file other owns.seen_at owns_too.seen_at owns.seen.later owns_too.seen.later (sym owns.seen.split ∙ owns_too.seen.split)) [
        | inl second ↦ absurd (one_seen eras row (take eras.first.front_size (bytes owns_too.seen_at other)) (take eras.first.front_size (bytes owns.seen_at file)) owns_too.saw owns.saw
            (apart file other owns.seen_at owns_too.seen_at owns.seen second (λ e. differs (sym e)) (filled other owns_too)))
        | inr rest ↦ elim rest [
          | inl first ↦ absurd (one_seen eras row (take eras.first.front_size (bytes owns.seen_at file)) (take eras.first.front_size (bytes owns_too.seen_at other)) owns.saw owns_too.saw
              (apart other file owns_too.seen_at owns.seen_at owns_too.seen first differs (filled file owns)))
          | inr same ↦ same
        ]
      ]
    ]
