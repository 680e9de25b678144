-- The numbers that a poll tells, of its looks.
use Rattle.std.specs.Prelude.{◌≡◌, ℕ, ◌+◌, ◌≤◌, ◌==◌, nat_lt, min, not, List, [], ◌∷◌, length, Bool, true, false, ◌&&◌, count_by}
use Rattle.std.specs.Option.{option_map_or}
use Rattle.outside.specs.World.{create, append, rename, remove, look, miss, unlisted, History, bytes}
use Rattle.standing.specs.Limits.{most_taken}
use Rattle.standing.specs.Look.{Look, Outcome, skips, finds_nothing, finds_compressed, finds_no_room, finds_new, finds_row, size, offset_found}
use Rattle.standing.specs.Looks.{count_of}
use Rattle.standing.specs.Marks.{Mark}
use Rattle.standing.specs.Owner.{IsOwner}
use Rattle.standing.specs.Poll.{Poll}
use Rattle.standing.specs.Pass.{Stretch, Pass, is_short, start_at}
use Rattle.standing.specs.Reached.{Reached}
use Rattle.standing.specs.Rows.{Row, Checkpoint, IsRowAt}
use Rattle.standing.specs.Eras.{Eras, last_era}

-- a count of 32 bits, which stays at its greatest value
abbrev pub capped : ℕ → ℕ
capped count = min count 4294967295

abbrev pub is_filled : Look → Bool
is_filled here = not (size here == 0)

abbrev pub is_passed_as_compressed : Look → Outcome → Bool
is_passed_as_compressed here skips = false
is_passed_as_compressed here finds_nothing = false
is_passed_as_compressed here finds_compressed = true
is_passed_as_compressed here finds_no_room = false
is_passed_as_compressed here finds_new = false
is_passed_as_compressed here (finds_row place row) = false

abbrev pub is_left_out : Look → Outcome → Bool
is_left_out here skips = false
is_left_out here finds_nothing = false
is_left_out here finds_compressed = false
is_left_out here finds_no_room = true
is_left_out here finds_new = false
is_left_out here (finds_row place row) = false

-- all of the file could be read, and more is there past the row's offset than is taken at once
abbrev pub has_more : Poll → Look → Outcome → Bool
has_more poll here found =
    option_map_or (λ offset. here.end == size here && nat_lt (offset + most_taken) (size here)) (offset_found poll here found) false

-- the file is shorter than its row's offset
abbrev pub is_shrunk : Poll → Look → Outcome → Bool
is_shrunk poll here found = option_map_or (λ offset. nat_lt (size here) offset) (offset_found poll here found) false

-- how often a name was taken from a file
abbrev pub partings : History → ℕ
partings [] = 0
partings (create _ _ ∷ before) = partings before
partings (append _ _ ∷ before) = partings before
partings (rename _ _ ∷ before) = partings before + 1
partings (remove _ ∷ before) = partings before + 1
partings (look _ ∷ before) = partings before
partings (miss _ ∷ before) = partings before
partings (unlisted _ ∷ before) = partings before

pub record Sums : Type 0 where
  pub files : ℕ
  pub lines : ℕ
  pub left : ℕ
  pub gone : ℕ
  pub failed : ℕ
  pub compressed : ℕ
  pub shrunk : ℕ
  pub full : ℕ
  pub output : ℕ

-- How deep folders were is for the walk to tell.
pub record AreSums (poll : Poll) (stretch : Stretch) (looks : List Look) (before after : Checkpoint) (added : List Mark) (pass : Pass poll stretch looks before after added) (sums : Sums) : Type 0 where
  pub files : sums.files ≡ capped (count_by is_filled looks)
  pub lines : sums.lines ≡ length added
  pub left : sums.left ≡ capped (count_of poll (has_more poll) looks (start_at before))
  pub gone : sums.gone + partings stretch.old ≤ partings stretch.new
  pub failed : sums.failed ≡ capped (count_by is_short looks + (length pass.misses + length pass.unlisteds))
  pub compressed : sums.compressed ≡ capped (count_of poll is_passed_as_compressed looks (start_at before))
  pub shrunk : sums.shrunk ≡ capped (count_of poll (is_shrunk poll) looks (start_at before))
  pub full : sums.full ≡ capped (count_of poll is_left_out looks (start_at before))
  pub output : sums.output ≡ after.output_length

-- no file was left unread, in part or as a whole
pub record TellNothingLeft (sums : Sums) : Type 0 where
  pub left : sums.left ≡ 0
  pub failed : sums.failed ≡ 0
  pub compressed : sums.compressed ≡ 0
  pub full : sums.full ≡ 0

-- the row of the file that was looked at has taken all that can be taken of the bytes that were there then
pub record IsReached (eras : Eras) (history : History) (rows : List Row) (here : Look) : Type 0 where
  pub place : ℕ
  pub row : Row
  pub at : IsRowAt rows place row
  pub owner : IsOwner eras history row here.file
  pub reached : Reached (last_era eras) (bytes history here.file) row (size here)
