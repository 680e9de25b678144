-- The limits of a poll, and the content that it passes over.
use Rattle.std.specs.Prelude.{ℕ, List, [], ◌∷◌, Bool}
pub use Rattle.file_tracker.specs.Limits.{row_limit}
use Rattle.standing.specs.Prefixes.{begins}

-- how many bytes past its offset are taken of a file in one poll: 16 MiB
abbrev pub most_taken : ℕ
most_taken = 16777216

-- how many components the path of a folder has at most, for its files to be found
abbrev pub deepest : ℕ
deepest = 32

-- the content begins as a gzip file does (RFC 1952, section 2.3.1)
abbrev pub is_compressed : List ℕ → Bool
is_compressed front = begins (31 ∷ 139 ∷ []) front
