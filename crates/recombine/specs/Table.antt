-- Open groups in memory, and what holds of them at any time.
use Rattle.std.specs.Prelude.{◌≡◌, ◌⊎◌, ℕ, ◌≤◌, ◌<◌, ◌+◌, ◌*◌, ◌%◌, slice_index_or, take, Option, None, Some, List, [], ◌∷◌, ◌++◌, length, map, Bool, true, false, if◌then◌else◌, string_bytes, ⊤}
use Rattle.std.specs.Global.{Box}
use Rattle.entry_model.specs.Lawful.{NestsWithin}
use Rattle.entry_model.specs.LogRecord.{log_record}
use Rattle.entry_model.specs.declared.entry.Entry.{Entry}
use Rattle.state_codec.specs.Limits.{levels}
use Rattle.recombine.specs.Limits.{group_limit, batch_limit}
use Rattle.recombine.specs.declared.group.Coming.{Coming}
use Rattle.recombine.specs.declared.group.OpenGroup.{OpenGroup}
use Rattle.recombine.specs.Group.{Group}
use Rattle.recombine.specs.Item.{Item}
use Rattle.recombine.specs.Joining.{Joining}
use Rattle.recombine.specs.Sources.{is_of, AreOfOthers}
use Rattle.recombine.specs.Steps.{has_no_room, text_bytes}

abbrev pub group_seen : OpenGroup → Group
group_seen group = record { source = group.source; entries = group.entries; text = string_bytes group.text; base = log_record group.base }

-- a group in a place of its own
abbrev pub Held : Type 0
Held = Box OpenGroup

abbrev pub held_seen : Held → Group
held_seen held = group_seen held.value

abbrev pub groups_seen : List Held → List Group
groups_seen groups = map held_seen groups

abbrev pub item_seen : Coming → Item
item_seen x = record { source = x.source; text = x.text; mark = x.mark; entry = log_record x.entry }

-- ---- what holds of open groups

pub record IsOpen (group : Group) : Type 0 where
  pub some : 1 ≤ group.entries
  pub most : group.entries ≤ batch_limit
  pub shallow : NestsWithin levels group.base

-- each is one, and no two are of one source
abbrev pub AreOpen : List Group → Type 0
AreOpen [] = ⊤
AreOpen (group ∷ groups) = IsOpen group × (AreOfOthers group.source groups × AreOpen groups)

-- what more bytes make of a mark
abbrev pub mark_on : ℕ → List ℕ → ℕ
mark_on mark [] = mark
mark_on mark (byte ∷ bytes) = mark_on ((mark * 31 + byte) % 256) bytes

-- a byte by which most sources are told apart
abbrev pub mark_of : List ℕ → ℕ
mark_of source = mark_on 0 source

abbrev pub marks_of : List Group → List ℕ
marks_of groups = map (λ group. mark_of group.source) groups

-- with the number of bytes that their texts have together, and the marks of their sources
pub record IsTable (groups : List Group) (bytes : ℕ) (marks : List ℕ) : Type 0 where
  pub are_open : AreOpen groups
  pub few : length groups ≤ group_limit
  pub counted : bytes ≡ text_bytes groups
  pub marked : marks ≡ marks_of groups

-- ---- where the group of a source is

-- the group at this place in memory is that of the source, and none in front of it is
pub record IsFoundAt (source : List ℕ) (items : List Held) (place : ℕ) : Type 0 where
  pub group : Held
  pub in_range : place < length items
  pub is : group ≡ slice_index_or items place group
  pub own : is_of source (held_seen group) ≡ true
  pub before : AreOfOthers source (groups_seen (take place items))

abbrev pub IsFound : List ℕ → List Held → Option ℕ → Type 0
IsFound source items None = AreOfOthers source (groups_seen items)
IsFound source items (Some place) = IsFoundAt source items place

-- the group of the source is at this place, with these in front of it and behind it
pub record IsAt (source : List ℕ) (groups : List Group) (place : ℕ) : Type 0 where
  pub before : List Group
  pub group : Group
  pub behind : List Group
  pub parts : groups ≡ before ++ group ∷ behind
  pub place_is : length before ≡ place
  pub its_own : is_of source group ≡ true
  pub others_before : AreOfOthers source before
  pub others_behind : AreOfOthers source behind

abbrev pub IsPlace : List ℕ → List Group → Option ℕ → Type 0
IsPlace source groups None = AreOfOthers source groups
IsPlace source groups (Some place) = IsAt source groups place

-- none is open, or there is room for the entry beside those that are
abbrev pub HasRoom : Joining → List Group → Item → Type 0
HasRoom joining groups x = (groups ≡ []) ⊎ (has_no_room joining groups x ≡ false)

-- ---- what becomes of the group at a place

-- in front of it and behind it all stays
abbrev pub Changes : List Group → ℕ → (Group → List Group) → List Group → Type 0
Changes groups place change changed = (before behind : List Group) (group : Group) → groups ≡ before ++ group ∷ behind → length before ≡ place → changed ≡ before ++ (change group ++ behind)

-- this holds of the group at a place
abbrev pub Tells : List Group → ℕ → (Group → Type 0) → Type 0
Tells groups place Fact = (before behind : List Group) (group : Group) → groups ≡ before ++ group ∷ behind → length before ≡ place → Fact group

abbrev pub with_piece : List ℕ → Group → List Group
with_piece piece group = record group { text = group.text ++ piece } ∷ []

abbrev pub with_entries : ℕ → Group → List Group
with_entries entries group = record group { entries = entries } ∷ []

abbrev pub with_base : Entry → Group → List Group
with_base entry group = record group { base = log_record entry } ∷ []

-- the newest entry becomes the base, where it is to
abbrev pub with_newest : Bool → Entry → Group → List Group
with_newest newest entry group = record group { base = if newest then log_record entry else group.base } ∷ []

abbrev pub without : Group → List Group
without group = []
