-- The ids of operators that have none written.
use Rattle.std.specs.Prelude.{ℕ, zero, suc, ◌+◌, List, ◌++◌, length, Bool, if◌then◌else◌, decimal}
use Rattle.std.specs.Str.{bytes_eq}
use Rattle.std.specs.List.{list_any}

abbrev pub is_taken : List ℕ → List (List ℕ) → Bool
is_taken id taken = list_any (bytes_eq id) taken

-- The first of the name with n, with n + 1 and so on that is not taken, where `more` of them may be.
unfoldable pub numbered : (more n : ℕ) → List ℕ → List (List ℕ) → List ℕ
numbered zero n name taken = name ++ decimal n
numbered (suc more) n name taken = if is_taken (name ++ decimal n) taken then numbered more (n + 1) name taken else name ++ decimal n

-- The name, and where that is taken, the name with the least number from 1 that makes it one that is not.
-- So many numbers as ids are taken cannot all be taken with one more.
unfoldable pub default_id : List ℕ → List (List ℕ) → List ℕ
default_id name taken = if is_taken name taken then numbered (length taken) 1 name taken else name
