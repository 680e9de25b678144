-- Operators that are found by their ids.
use Rattle.std.proofs.Common.{◌≡◌, ℕ, ◌+◌, ◌<◌, List, [], ◌∷◌, ◌++◌, length, map, cond, Bool, true, false, refl, ap, ◌∙◌, arith, Bor}
use Rattle.std.proofs.lemmas.Bool.{ltb-false}
use Rattle.std.proofs.lemmas.List.Sums.{prefix_len-le-length}
use Rattle.std.specs.List.{position_or_len}
use Rattle.std.specs.Prelude.{Some, None, position, unwrap_or, nat_lt, not}
use Rattle.std.specs.Str.{bytes_eq}
use Rattle.graph_core.specs.declared.Target.{Target}
use Rattle.graph_core.specs.declared.Target.TheVariants.{Node}
use Rattle.pipeline.specs.Wired.{target_named, targets_named}
use Rattle.settings_text.specs.declared.settings.RouteSpec.{RouteSpec}

first_or_end : {X : Type 0} (p : X → Bool) (xs : List X) → unwrap_or (position p xs) (length xs) ≡ position_or_len p xs
first_or_end {X} p xs = by (nat_lt (position_or_len p xs) (length xs)) refl
  where
    by : (b : Bool) → nat_lt (position_or_len p xs) (length xs) ≡ b → unwrap_or (cond b (Some (position_or_len p xs)) None) (length xs) ≡ position_or_len p xs
    by true e = refl
    by false e = omega (arith, ltb-false (position_or_len p xs) (length xs) e, prefix_len-le-length (λ x. not (p x)) xs)

first_seen : (p : List ℕ → Bool) (keys : List (Bor (List ℕ))) → position_or_len (λ k. p k.now) keys ≡ position_or_len p (map (λ k. k.now) keys)
first_seen p [] = refl
first_seen p (k ∷ keys) = ap (λ n. cond (not (p k.now)) (1 + n) 0) (first_seen p keys)

pub named : (keys : List (Bor (List ℕ))) (name : List ℕ) (place : ℕ) → place ≡ unwrap_or (position (λ k. bytes_eq name k.now) keys) (length keys) → Node place ≡ target_named (map (λ k. k.now) keys) name
named keys name place is = ap Node (is ∙ first_or_end (λ (k : Bor (List ℕ)). bytes_eq name k.now) keys ∙ first_seen (bytes_eq name) keys)

-- the targets of a router's ports
abbrev pub route_targets : List (List ℕ) → List RouteSpec → List (List Target)
route_targets ids routes = map (λ route. targets_named ids route.output) routes
