-- Texts that stand for what operators keep. States that have a spelling stand in it. Those that have none, as ones with a text
-- of 2^32 bytes, are never saved; so that it can be said of them too what comes of the entries that follow, they stand in a
-- list of numbers of which the first is no byte.
use Rattle.std.specs.Prelude.{◌≡◌, ℕ, ◌==◌, ◌&&◌, not, Bool, true, false, if◌then◌else◌, List, [], ◌∷◌, map, Ok, Err}
use Rattle.std.specs.Str.{bytes_eq}
use Rattle.graph_core.specs.declared.NodeSpec.{NodeSpec}
use Rattle.op_kinds.specs.Flat.{flat_states}
use Rattle.op_kinds.specs.Kept.{Kept, keeps_groups}
use Rattle.op_kinds.specs.Operator.{Operator}
use Rattle.op_kinds.specs.States.{AreOfKinds, states_spelling, all_at, fresh_states}
use Rattle.state_codec.specs.Reading.{Reading}

-- no byte is so great
abbrev pub no_byte : ℕ
no_byte = 256

abbrev pub flat : List Kept → List ℕ
flat states = flat_states.put states []

-- the states that were read, or the first ones
abbrev pub or_fresh : List Bool → Reading (List Kept) → List Kept
or_fresh kinds (Ok states) = states.0
or_fresh kinds (Err left) = fresh_states kinds

-- the states of operators of these kinds for which a text stands; of one that stands for none the first ones
abbrev pub states_in : List Bool → List ℕ → List Kept
states_in kinds [] = or_fresh kinds (all_at kinds [])
states_in kinds (byte ∷ bytes) = if byte == no_byte then (flat_states.get bytes).0 else or_fresh kinds (all_at kinds (byte ∷ bytes))

abbrev pub kinds_in : List Kept → List Bool
kinds_in states = map keeps_groups states

-- they are spelled, and read out of their spelling again
abbrev pub are_told : List Kept → Bool
are_told states = bytes_eq (flat (states_in (kinds_in states) (states_spelling states))) (flat states)

-- the text that stands for states
unfoldable pub state_text : List Kept → List ℕ
state_text states = if are_told states then states_spelling states else no_byte ∷ flat states

abbrev pub same_kind : Bool → Bool → Bool
same_kind true other = other
same_kind false other = not other

-- there is a state for each operator, of its kind
abbrev pub are_of_kinds : List Bool → List Kept → Bool
are_of_kinds [] [] = true
are_of_kinds [] (kept ∷ states) = false
are_of_kinds (kind ∷ kinds) [] = false
are_of_kinds (kind ∷ kinds) (kept ∷ states) = same_kind (keeps_groups kept) kind && are_of_kinds kinds states

-- the text stands for states of operators of these kinds
unfoldable pub is_state_text : List Bool → List ℕ → Bool
is_state_text kinds text = are_of_kinds kinds (states_in kinds text) && bytes_eq (state_text (states_in kinds text)) text

-- it stands for these
pub record Tells (nodes : List (NodeSpec Operator)) (text : List ℕ) (states : List Kept) : Type 0 where
  pub kinds : AreOfKinds nodes states
  pub told : text ≡ state_text states
