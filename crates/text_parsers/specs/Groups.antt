-- What the named groups of a pattern take out of a text, after the crate of regular expressions.
use Rattle.std.specs.Prelude.{◌≡◌, ℕ, ◌+◌, Bool, true, false, nat_le, List, [], ◌∷◌, chars, slice_range, Option, None, Some, ⊤}
use Rattle.regex.specs.Writes.{group_of}
use Rattle.regex_hir.specs.Find.{Match, find_str}
use Rattle.regex_hir.specs.Re.{Re}
use Rattle.regex_syntax.specs.Brackets.{Nested}
use Rattle.regex_syntax.specs.Grammar.{Names, read}
use Rattle.regex_syntax.specs.Verdict.{default_config}
use Rattle.entry_model.specs.Datum.{text, Members, members_of}
use Rattle.json_text.specs.Grammar.{Member, put_all}
use Rattle.text_parsers.specs.declared.fault.ParseFault.{ParseFault}
use Rattle.text_parsers.specs.declared.fault.ParseFault.TheVariants.{NotText, NoMatch, Syntax, FieldCount, NoDelimiter, Memory}
use Rattle.text_parsers.specs.declared.regex_fault.RegexFault.{RegexFault}
use Rattle.text_parsers.specs.declared.regex_fault.RegexFault.TheVariants as refused

-- a pattern as the grammar of patterns reads it, and the names of its groups, from group 0 on
abbrev pub Reading : Type 0
Reading = Option (Nested Re × Names)

unfoldable pub reading : List ℕ → Reading
reading source = read default_config (chars source)

-- the grammar reads the text, and it doesn't nest too deep
abbrev pub is_shallow : Reading → Bool
is_shallow None = false
is_shallow (Some pattern) = nat_le pattern.0.depth default_config.nest_limit

abbrev pub names_in : Reading → Names
names_in None = []
names_in (Some pattern) = pattern.1

-- a group that has a name: its number and its name
abbrev pub NamedGroup : Type 0
NamedGroup = ℕ × List ℕ

-- the groups that have names, where the first of these names is that of the group with this number
abbrev pub groups_from : ℕ → Names → List NamedGroup
groups_from number [] = []
groups_from number (None ∷ names) = groups_from (number + 1) names
groups_from number (Some name ∷ names) = (number, name) ∷ groups_from (number + 1) names

-- those of all groups: group 0 is the match, and has none
abbrev pub named_groups : Names → List NamedGroup
named_groups [] = []
named_groups (whole ∷ names) = groups_from 1 names

-- what stands at a span, and nothing where a group took no part
abbrev pub taken : List ℕ → Option (ℕ × ℕ) → List ℕ
taken front None = []
taken front (Some place) = slice_range front place.0 place.1

-- the texts of the groups, by their names
abbrev pub members_by : (ℕ → Option (ℕ × ℕ)) → List ℕ → List NamedGroup → List Member
members_by span_of front [] = []
members_by span_of front (group ∷ groups) = (group.1, text (taken front (span_of group.0))) ∷ members_by span_of front groups

-- the leftmost match of the pattern in the text
abbrev pub found_in : Reading → List ℕ → Option Match
found_in None front = None
found_in (Some pattern) front = find_str pattern.0.value front 0

-- these are the texts of the named groups of the pattern's leftmost match
pub record IsMatchedText (source : List ℕ) (members : Members) (front : List ℕ) : Type 0 where
  pub found : Match
  pub is : found_in (reading source) front ≡ Some found
  pub members_are : members ≡ members_of (put_all [] (members_by (group_of found) front (named_groups (names_in (reading source)))))

-- the pattern is found nowhere in the text
abbrev pub IsMatchFault : List ℕ → List ℕ → ParseFault → Type 0
IsMatchFault source front NotText = ⊥
IsMatchFault source front NoMatch = found_in (reading source) front ≡ None
IsMatchFault source front (Syntax at) = ⊥
IsMatchFault source front (FieldCount want got) = ⊥
IsMatchFault source front (NoDelimiter at) = ⊥
IsMatchFault source front Memory = ⊤

-- the text is no pattern, or a pattern without a named group
abbrev pub IsRefused : List ℕ → RegexFault → Type 0
IsRefused source refused.Refused = is_shallow (reading source) ≡ false
IsRefused source refused.NoNames = (is_shallow (reading source) ≡ true) × (named_groups (names_in (reading source)) ≡ [])
IsRefused source refused.Memory = ⊤
