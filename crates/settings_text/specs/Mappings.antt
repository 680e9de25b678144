-- The rules of a mapping, from names of severities to values.
use Rattle.std.specs.Prelude.{ℕ, ◌^◌, List, [], ◌∷◌, ◌++◌, codes, Bool, ◌||◌, is_some, int_le, if◌then◌else◌, ℤ, pos, negsuc, Option, None, Some, Result, Ok, Err}
use Rattle.std.specs.Str.{bytes_eq, str_eq_ignore_ascii_case}
use Rattle.case_table.specs.Rows.{first_code}
use Rattle.case_table.specs.Tables.{severity_table}
use Rattle.serde_json.specs.Data.{Data, null, boolean, number, string, array, object, Members, no_members, member}
use Rattle.serde_json.specs.Find.{as_object}
use Rattle.settings_text.specs.declared.fault.SettingsFault.{SettingsFault}
use Rattle.settings_text.specs.declared.fault.SettingsFault.TheVariants.{WrongKind, OutOfRange}
use Rattle.settings_text.specs.declared.mapping.MapWant.{MapWant}
use Rattle.settings_text.specs.declared.mapping.MapWant.TheVariants.{Text, Range}
use Rattle.settings_text.specs.Kinds.{Kind, must, known, each, integer, number_within}
use Rattle.settings_text.specs.Outcome.{◌>>=◌, or_fault}
use Rattle.settings_text.specs.Place.{item_place, member_place}
use Rattle.settings_text.specs.Rules.{Rule, rule}

-- a severity by its short name, in any case
abbrev pub severity_named : List ℕ → Option ℕ
severity_named name = first_code (str_eq_ignore_ascii_case name) severity_table

abbrev pub is_severity : List ℕ → Bool
is_severity name = is_some (severity_named name)

-- ---- one value

-- a whole number of 64 bits
abbrev pub least : ℤ
least = negsuc 9_223_372_036_854_775_807

abbrev pub greatest : ℤ
greatest = pos 9_223_372_036_854_775_807

-- a class of HTTP statuses, or a text that is wanted as it is
abbrev pub word : List ℕ → MapWant
word name =
    if bytes_eq name (codes "2xx") then Range (pos 200) (pos 299) else (
    if bytes_eq name (codes "3xx") then Range (pos 300) (pos 399) else (
    if bytes_eq name (codes "4xx") then Range (pos 400) (pos 499) else (
    if bytes_eq name (codes "5xx") then Range (pos 500) (pos 599) else Text name)))

abbrev pub is_range_key : List ℕ → Bool
is_range_key name = bytes_eq name (codes "min") || bytes_eq name (codes "max")

abbrev pub ordered : List ℕ → ℤ → ℤ → Result MapWant SettingsFault
ordered place min max = if int_le min max then Ok (Range min max) else Err (OutOfRange place)

-- the numbers from `min` to `max`
unfoldable pub range : Kind MapWant
range place d = do
  members ← or_fault (WrongKind place) (as_object d)
  _ ← known is_range_key (place ++ codes ".") members
  min ← must (place ++ codes ".") (codes "min") (integer least greatest) d
  max ← must (place ++ codes ".") (codes "max") (integer least greatest) d
  ordered place min max

-- a text, a number or a range
abbrev pub want : Kind MapWant
want place null = Err (WrongKind place)
want place (boolean b) = Err (WrongKind place)
want place (number n) = number_within least greatest place n >>= λ z. Ok (Range z z)
want place (string name) = Ok (word name)
want place (array ds) = Err (WrongKind place)
want place (object ms) = range place (object ms)

-- ---- the values of a severity

abbrev pub rule_of : ℕ → Kind Rule
rule_of severity place d = want place d >>= λ wanted. Ok (rule severity wanted)

-- what a severity is wanted for: one value, or each of a list
abbrev pub rules_of : ℕ → Kind (List Rule)
rules_of severity place null = Err (WrongKind place)
rules_of severity place (boolean b) = Err (WrongKind place)
rules_of severity place (number n) = rule_of severity place (number n) >>= λ one. Ok (one ∷ [])
rules_of severity place (string name) = rule_of severity place (string name) >>= λ one. Ok (one ∷ [])
rules_of severity place (array ds) = each (λ n. rule_of severity (item_place place n)) 0 ds
rules_of severity place (object ms) = rule_of severity place (object ms) >>= λ one. Ok (one ∷ [])

-- ---- all

-- those of a name that is known
abbrev pub rules_named : Option ℕ → Kind (List Rule)
rules_named None place d = Ok []
rules_named (Some severity) place d = rules_of severity place d

-- those of the members, in the order of their names
unfoldable pub rules : List ℕ → Members → Result (List Rule) SettingsFault
rules place no_members = Ok []
rules place (member name d ds) = do
  first ← rules_named (severity_named name) (member_place place name) d
  others ← rules place ds
  Ok (first ++ others)

abbrev pub mapping : Kind (List Rule)
mapping place d = do
  members ← or_fault (WrongKind place) (as_object d)
  _ ← known is_severity (place ++ codes ".") members
  rules place members
