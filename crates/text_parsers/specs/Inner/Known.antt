-- Names that are known before a text is read, and the members that have them.
use Rattle.std.specs.Prelude.{◌≡◌, ℕ, zero, suc, List, [], ◌∷◌, map}
use Rattle.std.specs.List.{AllZip}
use Rattle.entry_model.specs.Datum.{null}
use Rattle.entry_model.specs.Places.{StandsAt}
use Rattle.entry_model.specs.Seen.{seen}
use Rattle.entry_model.specs.declared.value.Value.{Value}
use Rattle.json_text.specs.Grammar.{Member, put_all}

-- each name, with nothing at it
abbrev pub nothing_at : List (List ℕ) → List Member
nothing_at [] = []
nothing_at (name ∷ names) = (name, null) ∷ nothing_at names

-- the members that have these names and no values
abbrev pub unset_with : List (List ℕ) → List Member
unset_with names = put_all [] (nothing_at names)

module _ {X : Type 0} where
  -- the name at a place
  abbrev pub name_at : List (List ℕ × X) → ℕ → List ℕ
  name_at [] at = []
  name_at (member ∷ members) zero = member.0
  name_at (member ∷ members) (suc at) = name_at members at

  abbrev pub names_at : List (List ℕ × X) → List ℕ → List (List ℕ)
  names_at members places = map (name_at members) places

  -- each of the names stands at its place
  abbrev pub AreAt : List (List ℕ × X) → List (List ℕ) → List ℕ → Type 0
  AreAt members names places = AllZip (λ (name : List ℕ) (at : ℕ). StandsAt name members at) names places

-- the members have the names at these places and no others, and no values
pub record AreKnown (unset : List (List ℕ × Value)) (places : List ℕ) : Type 0 where
  pub unset_is : seen unset ≡ unset_with (names_at unset places)
  pub stand : AreAt unset (names_at unset places) places
