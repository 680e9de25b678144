-- Which groups stand at the front of some bytes, or where they can't go on.
use Rattle.std.specs.Prelude.{ℕ, zero, suc, Bool, ◌&&◌, not, if◌then◌else◌, nat_le, List, [], ◌∷◌, ◌++◌, length, Ok, Err}
use Rattle.std.specs.Int.{w32}
use Rattle.std.specs.List.{list_any}
use Rattle.state_codec.specs.Reading.{Reading, ◌>>=◌, number_at, text_at, entry_at}
use Rattle.recombine.specs.Limits.{group_limit, batch_limit}
use Rattle.recombine.specs.Group.{Group}
use Rattle.recombine.specs.Sources.{is_of}

-- what is read but doesn't pass can't be there at all
unfoldable pub such_that : {A : Type 0} → (List ℕ → Reading A) → (A → Bool) → List ℕ → Reading A
such_that read passes bytes = do
  x ← read bytes
  if passes x.0 then Ok x else Err (length bytes)

-- a number between these two
abbrev pub number_within : ℕ → ℕ → List ℕ → Reading ℕ
number_within low high bytes = such_that (number_at w32) (λ n. nat_le low n && nat_le n high) bytes

-- the source of none of the groups before
abbrev pub source_at : List Group → List ℕ → Reading (List ℕ)
source_at before bytes = such_that text_at (λ source. not (list_any (is_of source) before)) bytes

-- a group behind others
unfoldable pub group_at : List Group → List ℕ → Reading Group
group_at before bytes = do
  source ← source_at before bytes
  entries ← number_within 1 batch_limit source.1
  text ← text_at entries.1
  base ← entry_at text.1
  Ok (record { source = source.0; entries = entries.0; text = text.0; base = base.0 }, base.1)

-- so many
abbrev pub groups_behind : List Group → ℕ → List ℕ → Reading (List Group)
groups_behind before zero bytes = Ok ([], bytes)
groups_behind before (suc n) bytes = do
  group ← group_at before bytes
  groups ← groups_behind (before ++ group.0 ∷ []) n group.1
  Ok (group.0 ∷ groups.0, groups.1)

unfoldable pub groups_at : List ℕ → Reading (List Group)
groups_at bytes = do
  count ← number_within 0 group_limit bytes
  groups_behind [] count.0 count.1
