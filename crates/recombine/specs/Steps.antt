-- What becomes of the open groups, in order of opening, when an entry comes: four steps.
use Rattle.std.specs.Prelude.{ℕ, suc, Bool, ◌||◌, ◌&&◌, not, nat_lt, nat_le, if◌then◌else◌, List, [], ◌∷◌, ◌++◌, length, filter, sum_by}
use Rattle.recombine.specs.Limits.{group_limit, byte_limit}
use Rattle.recombine.specs.Group.{Group}
use Rattle.recombine.specs.Item.{Item, is_first, is_last}
use Rattle.recombine.specs.Joining.{Joining}
use Rattle.recombine.specs.Sources.{is_of, own, others}

-- ---- 1: an entry that begins a group ends the one of its source

unfoldable pub after_mark : Joining → List Group → Item → List Group
after_mark joining groups x = if is_first joining x then others x.source groups else groups

unfoldable pub ended_by_mark : Joining → List Group → Item → List Group
ended_by_mark joining groups x = if is_first joining x then own x.source groups else []

-- ---- 3: it joins the group of its source, or opens one behind the others

abbrev pub opened : Item → Group
opened x = record { source = x.source; entries = 1; text = x.text; base = x.entry }

abbrev pub with_item : Joining → Group → Item → Group
with_item joining group x = record {
  source = group.source;
  entries = suc group.entries;
  text = group.text ++ (joining.separator ++ x.text);
  base = if joining.newest then x.entry else group.base;
}

abbrev pub joined : Joining → List Group → Item → List Group
joined joining [] x = opened x ∷ []
joined joining (group ∷ groups) x = if is_of x.source group then with_item joining group x ∷ groups else group ∷ joined joining groups x

-- ---- 2: where there would be too many groups, or their texts would be too long, all of them are ended before

-- how many bytes the texts have together
abbrev pub text_bytes : List Group → ℕ
text_bytes groups = sum_by (λ group. length group.text) groups

abbrev pub are_too_many : List Group → Bool
are_too_many groups = nat_lt group_limit (length groups) || nat_lt byte_limit (text_bytes groups)

unfoldable pub has_no_room : Joining → List Group → Item → Bool
has_no_room joining groups x = are_too_many (joined joining groups x)

unfoldable pub after_room : Joining → List Group → Item → List Group
after_room joining groups x = if has_no_room joining groups x then [] else groups

unfoldable pub ended_by_room : Joining → List Group → Item → List Group
ended_by_room joining groups x = if has_no_room joining groups x then groups else []

-- ---- 4: its group is ended where it has entries enough, where the entry ends it, or where the entry's text alone is too long

abbrev pub is_done : Joining → Item → ℕ → Bool
is_done joining x entries = nat_le joining.most_entries entries || (is_last joining x || nat_lt byte_limit (length x.text))

abbrev pub is_ended : Joining → Item → Group → Bool
is_ended joining x group = is_of x.source group && is_done joining x group.entries

unfoldable pub after_end : Joining → List Group → Item → List Group
after_end joining groups x = filter (λ group. not (is_ended joining x group)) groups

unfoldable pub ended_by_end : Joining → List Group → Item → List Group
ended_by_end joining groups x = filter (is_ended joining x) groups

-- ---- all four

abbrev pub with_room : Joining → List Group → Item → List Group
with_room joining groups x = after_room joining (after_mark joining groups x) x

abbrev pub with_joined : Joining → List Group → Item → List Group
with_joined joining groups x = joined joining (with_room joining groups x) x

-- the open groups behind an entry
abbrev pub after : Joining → List Group → Item → List Group
after joining groups x = after_end joining (with_joined joining groups x) x

-- the groups that it ends, in order
abbrev pub ended : Joining → List Group → Item → List Group
ended joining groups x =
    ended_by_mark joining groups x ++ (ended_by_room joining (after_mark joining groups x) x ++ ended_by_end joining (with_joined joining groups x) x)
