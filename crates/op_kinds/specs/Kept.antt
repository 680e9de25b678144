-- What an operator keeps from one entry of a file to the next, wherever it lies in memory.
use Rattle.std.specs.Prelude.{◌≡◌, ◌⊎◌, List, [], ◌∷◌, Bool, true, false, if◌then◌else◌, refl}
use Rattle.std.specs.Coded.{Coded, code_by, coded⊎}
use base.Stored.{coded_unit}
use mathlib.Core.Logic.{inl, inr}
use Rattle.recombine.specs.Group.{Group, groups_code}

-- nothing, or the open groups in the order in which they were opened
pub data Kept : Type 0 where
  nothing : Kept
  groups : List Group → Kept

-- the groups that are open; where nothing is kept, none
abbrev pub open_groups : Kept → List Group
open_groups nothing = []
open_groups (groups open_now) = open_now

abbrev pub keeps_groups : Kept → Bool
keeps_groups nothing = false
keeps_groups (groups open_now) = true

abbrev pub are_none : List Group → Bool
are_none [] = true
are_none (group ∷ others) = false

-- no group is open
abbrev pub is_fresh : Kept → Bool
is_fresh kept = are_none (open_groups kept)

-- what is kept before the first entry, by an operator that holds groups and by another
abbrev pub fresh_kept : Bool → Kept
fresh_kept holds_groups = if holds_groups then groups [] else nothing

-- these groups are open from now on; where nothing is kept, nothing is
abbrev pub with_groups : Kept → List Group → Kept
with_groups nothing open_now = nothing
with_groups (groups before) open_now = groups open_now

-- ---- what tells them apart in a proof

abbrev pub Cases : Type 0
Cases = Unit {0} ⊎ List Group

abbrev pub cases : Kept → Cases
cases nothing = inl tt
cases (groups open_now) = inr open_now

abbrev pub of_cases : Cases → Kept
of_cases (inl _) = nothing
of_cases (inr open_now) = groups open_now

pub cases_back : (kept : Kept) → of_cases (cases kept) ≡ kept
cases_back nothing = refl
cases_back (groups open_now) = refl

abbrev pub kept_code : Coded Kept
kept_code = code_by Cases (coded⊎ coded_unit groups_code) cases of_cases cases_back
