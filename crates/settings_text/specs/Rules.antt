-- The rules of a mapping: a severity, and what is wanted of values that have it.
use Rattle.std.specs.Prelude.{◌≡◌, ℕ, refl}
use Rattle.std.specs.Coded.{Coded, code_by, coded_ℕ, coded×}
use Rattle.settings_text.specs.declared.mapping.MapWant.{MapWant}

pub record Rule : Type 0 where
  -- 1 to 24
  pub severity : ℕ
  pub want : MapWant

abbrev pub rule : ℕ → MapWant → Rule
rule severity want = record { severity = severity; want = want }
