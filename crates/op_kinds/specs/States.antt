-- What operators keep, as bytes: those of each operator in the order of the list, one behind the other.
use Rattle.std.specs.Prelude.{◌≡◌, ℕ, ◌-◌, ◌<◌, List, [], ◌∷◌, ◌++◌, length, map, flat_map, Bool, true, false, Ok, Err, ⊤}
use Rattle.graph_core.specs.declared.NodeSpec.{NodeSpec}
use Rattle.op_kinds.specs.Kept.{Kept, nothing, groups, keeps_groups, fresh_kept}
use Rattle.op_kinds.specs.Operator.{Operator, has_groups}
use Rattle.recombine.specs.Reading.{groups_at}
use Rattle.recombine.specs.Restores.{IsPart}
use Rattle.recombine.specs.Rules.{AreSpellable}
use Rattle.recombine.specs.Spelling.{groups_spelling}
use Rattle.state_codec.specs.Reading.{Reading, ◌>>=◌}
use Rattle.state_codec.specs.declared.CodecFault.{CodecFault}
use Rattle.state_codec.specs.declared.CodecFault.TheVariants.{Malformed, Memory}

-- ---- spellings

-- nothing is spelled by no bytes, and groups by their number and each of them, in the order in which they were opened
abbrev pub kept_spelling : Kept → List ℕ
kept_spelling nothing = []
kept_spelling (groups open_now) = groups_spelling open_now

abbrev pub states_spelling : List Kept → List ℕ
states_spelling states = flat_map kept_spelling states

-- which have a spelling
abbrev pub HasSpelling : Kept → Type 0
HasSpelling nothing = ⊤
HasSpelling (groups open_now) = AreSpellable open_now

abbrev pub HaveSpellings : List Kept → Type 0
HaveSpellings [] = ⊤
HaveSpellings (kept ∷ others) = HasSpelling kept × HaveSpellings others

-- ---- states of some operators

-- which of them hold groups
abbrev pub kinds_of : List (NodeSpec Operator) → List Bool
kinds_of nodes = map (λ node. has_groups node.op) nodes

-- there is a state for each operator, of its kind
abbrev pub AreOfKinds : List (NodeSpec Operator) → List Kept → Type 0
AreOfKinds nodes states = map keeps_groups states ≡ kinds_of nodes

-- the states before the first entry
abbrev pub fresh_states : List Bool → List Kept
fresh_states kinds = map fresh_kept kinds

-- the bytes spell these states of operators of these kinds
pub record SpellOf (wanted : List Bool) (bytes : List ℕ) (states : List Kept) : Type 0 where
  pub kinds : map keeps_groups states ≡ wanted
  pub lawful : HaveSpellings states
  pub spelled : bytes ≡ states_spelling states

abbrev pub Spell : List (NodeSpec Operator) → List ℕ → List Kept → Type 0
Spell nodes = SpellOf (kinds_of nodes)

-- ---- what stands at the front of some bytes

-- what an operator that holds groups keeps, or another
abbrev pub kept_at : Bool → List ℕ → Reading Kept
kept_at false bytes = Ok (nothing, bytes)
kept_at true bytes = do
  open_now ← groups_at bytes
  Ok (groups open_now.0, open_now.1)

-- what each of the operators keeps
abbrev pub states_at : List Bool → List ℕ → Reading (List Kept)
states_at [] bytes = Ok ([], bytes)
states_at (kind ∷ kinds) bytes = do
  first ← kept_at kind bytes
  others ← states_at kinds first.1
  Ok (first.0 ∷ others.0, others.1)

-- a byte that is left over can't be there
abbrev pub ended : List Kept → List ℕ → Reading (List Kept)
ended states [] = Ok (states, [])
ended states (byte ∷ bytes) = Err (length (byte ∷ bytes))

-- what each of the operators keeps, and behind it the end
abbrev pub all_at : List Bool → List ℕ → Reading (List Kept)
all_at kinds bytes = states_at kinds bytes >>= λ read. ended read.0 read.1

-- ---- bytes that spell none

-- At this place a byte stands, or a number or a text, with which nothing goes on: no states are spelled by bytes that begin
-- with those up to and with it.
pub record IsDeadEnd (kinds : List Bool) (bytes : List ℕ) (at : ℕ) : Type 0 where
  pub before : List ℕ
  pub part : List ℕ
  pub after : List ℕ
  pub parts : bytes ≡ before ++ (part ++ after)
  pub place : at ≡ length before
  pub whole : IsPart part
  pub none : (states : List Kept) (more : List ℕ) → SpellOf kinds (before ++ (part ++ more)) states → ⊥

-- The bytes spell no states, and reading tells how many of them are left where it can't go on: in front of the end it is told
-- at the first byte, number or text with which nothing goes on.
pub record SpellNoneOf (kinds : List Bool) (bytes : List ℕ) (at : ℕ) : Type 0 where
  pub none : (states : List Kept) → SpellOf kinds bytes states → ⊥
  pub place : (left : ℕ) × (all_at kinds bytes ≡ Err left) × (at ≡ length bytes - left)
  pub stops : at < length bytes → IsDeadEnd kinds bytes at

abbrev pub SpellNone : List (NodeSpec Operator) → List ℕ → ℕ → Type 0
SpellNone nodes = SpellNoneOf (kinds_of nodes)

-- why nothing is restored; want of memory says nothing
abbrev pub IsRefused : List (NodeSpec Operator) → List ℕ → CodecFault → Type 0
IsRefused nodes bytes (Malformed at) = SpellNone nodes bytes at
IsRefused nodes bytes Memory = ⊤
