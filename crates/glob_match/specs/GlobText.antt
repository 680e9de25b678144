-- The text of a glob: components with slashes between them, and a slash before them where the glob is absolute. A text
-- is the list of its characters. Each relation is between a text, what stands at its front, and the rest behind that.
use Rattle.std.specs.Prelude.{◌≡◌, ◌≢◌, ℕ, List, [], ◌∷◌, Bool, true, false, not, IsTrue, if◌then◌else◌, ◌==◌, ◌||◌}
use Rattle.std.specs.List.{list_all}
use Rattle.glob_match.specs.declared.pattern.Sign.{Sign}
use Rattle.glob_match.specs.declared.pattern.Unit.{Unit}
use Rattle.glob_match.specs.declared.pattern.Unit.TheVariants.{Plain, Escaped, One, Star, Class}
use Rattle.glob_match.specs.declared.pattern.Piece.{Piece}
use Rattle.glob_match.specs.declared.pattern.Piece.TheVariants.{Single, AnyOf}
use Rattle.glob_match.specs.declared.reader.Place.{Place}
use Rattle.glob_match.specs.declared.reader.Place.TheVariants as place
use Rattle.glob_match.specs.CharacterSet.{spans_of}
use Rattle.glob_match.specs.Pattern.{Pattern, is_component, components}

-- `^` and `!`
abbrev pub is_negation : ℕ → Bool
is_negation c = (c == 94) || (c == 33)

-- a character that stands for itself in a class: none of `]`, `\` and `/`
abbrev pub is_class_character : ℕ → Bool
is_class_character c = not ((c == 93) || ((c == 92) || (c == 47)))

-- one of `\`, `*`, `?`, `[`, `{` and `/`
abbrev pub is_special : ℕ → Bool
is_special c = (c == 92) || ((c == 42) || ((c == 63) || ((c == 91) || ((c == 123) || (c == 47)))))

-- a character that stands for itself: no special one, and in a part neither `,` nor `}`
abbrev pub is_plain_character : Place → ℕ → Bool
is_plain_character place.Name c = not (is_special c)
is_plain_character place.Part c = not (is_special c || ((c == 44) || (c == 125)))

-- a character that is nothing special, or a slash
abbrev pub is_ordinary : ℕ → Bool
is_ordinary c = not (is_special c) || (c == 47)

-- the signs of a class, up to its `]`
pub data AreSigns : List ℕ → List Sign → List ℕ → Type 0 where
  no_sign : {rest : List ℕ} → AreSigns (93 ∷ rest) [] rest
  sign : {text rest : List ℕ} {signs : List Sign} (c : ℕ) → IsTrue (is_class_character c) → AreSigns text signs rest → AreSigns (c ∷ text) (record { character = c; is_escaped = false } ∷ signs) rest
  escaped_sign : {text rest : List ℕ} {signs : List Sign} (c : ℕ) → c ≢ 47 → AreSigns text signs rest → AreSigns (92 ∷ c ∷ text) (record { character = c; is_escaped = true } ∷ signs) rest

-- a class behind its `[`: at least one sign, and before them `^` or `!` where the class is negated
pub data IsClass : List ℕ → Bool → List Sign → List ℕ → Type 0 where
  negated : {text rest : List ℕ} {first : Sign} {signs : List Sign} (c : ℕ) → IsTrue (is_negation c) → AreSigns text (first ∷ signs) rest → IsClass (c ∷ text) true (first ∷ signs) rest
  listed : {text rest : List ℕ} {first : Sign} {signs : List Sign} (c : ℕ) → is_negation c ≡ false → AreSigns (c ∷ text) (first ∷ signs) rest → IsClass (c ∷ text) false (first ∷ signs) rest

-- a piece outside braces, or a piece of a part inside them
pub data IsUnit (place : Place) : List ℕ → Unit → List ℕ → Type 0 where
  plain : {rest : List ℕ} (c : ℕ) → IsTrue (is_plain_character place c) → IsUnit place (c ∷ rest) (Plain c) rest
  escaped : {rest : List ℕ} (c : ℕ) → c ≢ 47 → IsUnit place (92 ∷ c ∷ rest) (Escaped c) rest
  one : {rest : List ℕ} → IsUnit place (63 ∷ rest) One rest
  star : {rest : List ℕ} → IsUnit place (42 ∷ rest) Star rest
  class : {text rest : List ℕ} {is_negated : Bool} {signs : List Sign} → IsClass text is_negated signs rest → IsUnit place (91 ∷ text) (Class (record { is_negated = is_negated; spans = spans_of signs })) rest

-- a part and those behind it, with commas between them, up to the `}`
pub data AreParts : List ℕ → List Unit → List (List Unit) → List ℕ → Type 0 where
  last_part : {rest : List ℕ} → AreParts (125 ∷ rest) [] [] rest
  next_part : {text rest : List ℕ} {part : List Unit} {parts : List (List Unit)} → AreParts text part parts rest → AreParts (44 ∷ text) [] (part ∷ parts) rest
  in_part : {text more rest : List ℕ} {first : Unit} {part : List Unit} {parts : List (List Unit)} → IsUnit place.Part text first more → AreParts more part parts rest → AreParts text (first ∷ part) parts rest

-- a component and those behind it, up to the text's end
pub data AreComponents : List ℕ → List Piece → List (List Piece) → Type 0 where
  last_component : AreComponents [] [] []
  next_component : {text : List ℕ} {pieces : List Piece} {others : List (List Piece)} → AreComponents text pieces others → AreComponents (47 ∷ text) [] (pieces ∷ others)
  single : {text more : List ℕ} {first : Unit} {pieces : List Piece} {others : List (List Piece)} → IsUnit place.Name text first more → AreComponents more pieces others → AreComponents text (Single first ∷ pieces) others
  any_of : {text more : List ℕ} {part : List Unit} {parts : List (List Unit)} {pieces : List Piece} {others : List (List Piece)} → AreParts text part parts more → AreComponents more pieces others → AreComponents (123 ∷ text) (AnyOf (part ∷ parts) ∷ pieces) others

abbrev pub begins_with_slash : List ℕ → Bool
begins_with_slash [] = false
begins_with_slash (c ∷ text) = c == 47

-- the text without the slash that makes it absolute
abbrev pub without_slash : List ℕ → List ℕ
without_slash [] = []
without_slash (c ∷ text) = if c == 47 then text else c ∷ text

-- the text spells the pattern
pub record IsGlobText (text : List ℕ) (pattern : Pattern) : Type 0 where
  pub pieces : List Piece
  pub others : List (List Piece)
  pub reads : AreComponents (without_slash text) pieces others
  pub proper : IsTrue (list_all is_component (pieces ∷ others))
  pub means : pattern ≡ record { is_absolute = begins_with_slash text; components = components pieces others }
