-- `<PRI>`, with which both formats begin (RFC 5424, section 6.2.1; RFC 3164, section 4.1.1).
use Rattle.std.specs.Prelude.{◌≡◌, ℕ, ◌≤◌, List, ◌∷◌, ◌++◌}
use Rattle.std.specs.Char.{is_ascii_digit}
use Rattle.time_layout.specs.Atoms.{value_of}
use Rattle.syslog_parser.specs.Words.{IsShortWord}

-- one to three digits between `<` and `>`, whose number is at most 191: 24 facilities of 8 severities each
pub record IsPriority (text : List ℕ) (priority : ℕ) (rest : List ℕ) : Type 0 where
  pub digits : List ℕ
  pub is : text ≡ 60 ∷ (digits ++ 62 ∷ rest)
  pub short : IsShortWord is_ascii_digit 3 digits
  pub value : value_of digits ≡ priority
  pub fits : priority ≤ 191
