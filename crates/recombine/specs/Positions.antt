-- What a recombine means on a whole list of entries, by their positions: which groups are alive at a position, and what is
-- sent on there. No table of groups is kept.
use Rattle.std.specs.Prelude.{ℕ, Bool, ◌||◌, ◌&&◌, not, if◌then◌else◌, List, [], ◌∷◌, ◌++◌, length, filter, flat_map, fold, bytes_eq}
use Rattle.std.specs.List.{list_any}
use Rattle.entry_model.specs.LogRecord.{LogRecord}
use Rattle.recombine.specs.Group.{Group}
use Rattle.recombine.specs.Item.{Item, is_first}
use Rattle.recombine.specs.Joining.{Joining}
use Rattle.recombine.specs.Sources.{others}
use Rattle.recombine.specs.Steps.{are_too_many, is_done}

-- ---- entries of one source, and the groups that entries make

abbrev pub has_source : List ℕ → Item → Bool
has_source source x = bytes_eq source x.source

abbrev pub of_source : List ℕ → List Item → List Item
of_source source items = filter (has_source source) items

abbrev pub of_others : List ℕ → List Item → List Item
of_others source items = filter (λ x. not (has_source source x)) items

-- the last of an entry and those behind it
abbrev pub last_entry : LogRecord → List Item → LogRecord
last_entry entry [] = entry
last_entry entry (x ∷ later) = last_entry x.entry later

-- the group of an entry and all later ones of its source
abbrev pub group_of : Joining → Item → List Item → Group
group_of joining x later = record {
  source = x.source;
  entries = length (x ∷ later);
  text = x.text ++ flat_map (λ y. joining.separator ++ y.text) later;
  base = if joining.newest then last_entry x.entry later else x.entry;
}

-- one group for each source, in the order of their first entries
unfoldable pub groups_of : Joining → List Item → List Group
groups_of joining [] = []
groups_of joining (x ∷ items) = group_of joining x (of_source x.source items) ∷ others x.source (groups_of joining items)

-- ---- what is decided at a position

pub record Fate : Type 0 where
  pub item : Item
  -- it ends what stands before it of its source
  pub first : Bool
  -- all that stands before it is ended, since there is no room
  pub flush : Bool
  -- it ends the group that it is in
  pub ends : Bool

-- an entry is over at a position behind some others: from itself on some entry of its source ended its group, or a later one
-- of its source began a new group, or at a later one there was no room
abbrev pub is_over : Fate → List Fate → Bool
is_over fate later =
    list_any (λ other. other.ends && has_source other.item.source fate.item) (fate ∷ later)
    || (list_any (λ other. other.first && has_source other.item.source fate.item) later || list_any (λ other. other.flush) later)

-- the entries that are not over
unfoldable pub alive : List Fate → List Item
alive [] = []
alive (fate ∷ later) = if is_over fate later then alive later else fate.item ∷ alive later

-- those that are alive at the position of an entry, which may begin a group
abbrev pub alive_at : Joining → List Fate → Item → List Item
alive_at joining past x = if is_first joining x then of_others x.source (alive past) else alive past

-- there would be too many groups, or their texts would be too long
abbrev pub flushes : Joining → List Fate → Item → Bool
flushes joining past x = are_too_many (groups_of joining (alive_at joining past x ++ x ∷ []))

abbrev pub kept : Joining → List Fate → Item → List Item
kept joining past x = if flushes joining past x then [] else alive_at joining past x

-- the entries of its group
abbrev pub members : Joining → List Fate → Item → List Item
members joining past x = of_source x.source (kept joining past x) ++ x ∷ []

-- its group has entries enough, or the entry ends it, or its text alone is too long
abbrev pub ends : Joining → List Fate → Item → Bool
ends joining past x = is_done joining x (length (members joining past x))

abbrev pub fate_of : Joining → List Fate → Item → Fate
fate_of joining past x = record { item = x; first = is_first joining x; flush = flushes joining past x; ends = ends joining past x }

-- what is decided at each position, from what was decided before
abbrev pub history : Joining → List Item → List Fate
history joining items = fold (λ past x. past ++ fate_of joining past x ∷ []) [] items

-- ---- what is sent on, and what stays open

-- the groups that are sent on at the position of an entry: the one that it ends as it begins another; where there is no room,
-- all that are alive; and where it ends its own group, that one
abbrev pub sent_at : Joining → List Fate → Item → List Group
sent_at joining past x =
    (if is_first joining x then groups_of joining (of_source x.source (alive past)) else [])
    ++ ((if flushes joining past x then groups_of joining (alive_at joining past x) else [])
    ++ (if ends joining past x then groups_of joining (members joining past x) else []))

-- the groups that are open behind all positions
abbrev pub open_at_end : Joining → List Fate → List Group
open_at_end joining past = groups_of joining (alive past)
