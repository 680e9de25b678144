-- The rules of a mapping, and which of them match.
use Rattle.std.specs.Prelude.{◌≡◌, ℕ, ◌≤◌, min, List, [], ◌∷◌, slice_get, Bool, true, false, ◌&&◌, int_le, if◌then◌else◌, ℤ, Option, None, Some}
use Rattle.std.specs.Str.{str_eq_ignore_ascii_case}
use Rattle.time_severity.specs.declared.rule.SeverityRule.{SeverityRule}
use Rattle.time_severity.specs.declared.rule.Want.{Want}
use Rattle.time_severity.specs.declared.rule.Want.TheVariants.{Text, Range}

-- a severity, and what is wanted for it
pub record Rule : Type 0 where
  pub severity : ℕ
  pub want : Want

abbrev pub rule_of : SeverityRule → Rule
rule_of rule = record { severity = rule.severity.number; want = rule.want }

-- what is asked of a value: the text that it is, and the number that it is or spells
pub record Subject : Type 0 where
  pub word : Option (List ℕ)
  pub number : Option ℤ

abbrev pub is_word : List ℕ → Option (List ℕ) → Bool
is_word wanted None = false
is_word wanted (Some word) = str_eq_ignore_ascii_case wanted word

abbrev pub is_number : ℤ → ℤ → Option ℤ → Bool
is_number low high None = false
is_number low high (Some number) = int_le low number && int_le number high

-- a text in any case of ASCII letters, or a number of the range
abbrev pub matches : Subject → Want → Bool
matches subject (Text wanted) = is_word wanted subject.word
matches subject (Range low high) = is_number low high subject.number

abbrev pub lesser : ℕ → Option ℕ → ℕ
lesser number None = number
lesser number (Some other) = min number other

-- the least severity of which a rule matches
abbrev pub least_match : Subject → List Rule → Option ℕ
least_match subject [] = None
least_match subject (rule ∷ rules) =
    if matches subject rule.want then Some (lesser rule.severity (least_match subject rules)) else least_match subject rules

-- a rule with this severity matches, and none that matches has a lesser one
pub record IsLeastMatch (subject : Subject) (rules : List Rule) (number : ℕ) : Type 0 where
  pub at : ℕ
  pub rule : Rule
  pub stands : slice_get rules at ≡ Some rule
  pub matching : matches subject rule.want ≡ true
  pub severity_is : rule.severity ≡ number
  pub least : (at : ℕ) (rule : Rule) → slice_get rules at ≡ Some rule → matches subject rule.want ≡ true → number ≤ rule.severity
