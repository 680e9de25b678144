-- The limits of open groups.
use Rattle.std.specs.Prelude.{ℕ}

-- how many groups are open at most
abbrev pub group_limit : ℕ
group_limit = 1000

-- the most bytes that the texts of the open groups have together, 1 MiB
abbrev pub byte_limit : ℕ
byte_limit = 1048576

-- the most entries that a group may be asked to have
abbrev pub batch_limit : ℕ
batch_limit = 1000000
