-- Folders that were listed, and what failed.
use Rattle.std.specs.Prelude.{ℕ, List}

-- so many lists, and so many names that they gave, which weren't UTF-8
pub record Failures : Type 0 where
  pub lists : ℕ
  pub names : ℕ

abbrev pub failures : ℕ → ℕ → Failures
failures lists names = record { lists = lists; names = names }

pub record Listings : Type 0 where
  pub folders : List (List ℕ)
  pub failed : Failures

abbrev pub listings : List (List ℕ) → Failures → Listings
listings folders failed = record { folders = folders; failed = failed }
