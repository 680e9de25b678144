-- The paths of the logs of a node's pods, as `/var/log/pods/<namespace>_<pod>_<uid>/<container>/<n>.log`.
use Rattle.std.specs.Prelude.{◌≡◌, ℕ, ◌==◌, ◌||◌, ◌&&◌, not, nat_eq, Bool, true, List, [], ◌∷◌, ◌++◌, length, take, drop, slice_index, codes, bytes_eq, ◌⊎◌, Option, None, Some}
use Rattle.std.specs.Char.{is_ascii_digit}
use Rattle.std.specs.Int.{is_in_range}
use Rattle.std.specs.List.{starts_with}
use Rattle.container_parser.specs.declared.pod.Pod.{Pod}
use Rattle.container_parser.specs.Words.{is_made_of, Lacks}

-- no `_`
abbrev pub is_part_byte : ℕ → Bool
is_part_byte byte = not (byte == 95)

-- neither `.` nor `_`
abbrev pub is_container_byte : ℕ → Bool
is_container_byte byte = not ((byte == 46) || (byte == 95))

-- `0` to `9`, `a` to `f` and `-`
abbrev pub is_uid_byte : ℕ → Bool
is_uid_byte byte = is_in_range 48 57 byte || (is_in_range 97 102 byte || (byte == 45))

-- eight digits, a hyphen and six digits, as `20240101-000000`
unfoldable pub is_stamp : List ℕ → Bool
is_stamp bytes = nat_eq (length bytes) 15 && (is_made_of is_ascii_digit (take 8 bytes) && ((slice_index bytes 8 == 45) && is_made_of is_ascii_digit (drop 9 bytes)))

-- what stands behind the first point of a log's name: `log`, and the stamp of a log that was rotated
unfoldable pub is_log_end : List ℕ → Bool
is_log_end bytes = bytes_eq bytes (codes "log") || (starts_with nat_eq bytes (codes "log.") && is_stamp (drop 4 bytes))

abbrev pub are_names : List ℕ → List ℕ → List ℕ → Bool
are_names namespace pod uid = is_made_of is_part_byte namespace && (is_made_of is_part_byte pod && is_made_of is_uid_byte uid)

-- the folder's name: namespace, pod and uid, with `_` between each two
pub record IsFolder (name namespace pod uid : List ℕ) : Type 0 where
  pub is : name ≡ namespace ++ 95 ∷ (pod ++ 95 ∷ uid)
  pub are : are_names namespace pod uid ≡ true

-- the file's name: the number of restarts, a point, `log`, and the stamp of a log that was rotated
pub record IsFile (name restarts : List ℕ) : Type 0 where
  pub rest : List ℕ
  pub is : name ≡ restarts ++ 46 ∷ rest
  pub number : is_made_of is_ascii_digit restarts ≡ true
  pub ends : is_log_end rest ≡ true

-- nothing, or folders with `/` behind each
abbrev pub IsFront : List ℕ → Type 0
IsFront front = (front ≡ []) ⊎ ((parent : List ℕ) × (front ≡ parent ++ 47 ∷ []))

-- a name between two `/`
abbrev pub IsComponent : List ℕ → Type 0
IsComponent name = Lacks 47 name

-- the last three components of the path
pub record AreLast (path folder container file : List ℕ) : Type 0 where
  pub front : List ℕ
  pub is : path ≡ front ++ folder ++ 47 ∷ container ++ 47 ∷ file
  pub begins : IsFront front
  pub folder_part : IsComponent folder
  pub container_part : IsComponent container
  pub file_part : IsComponent file

-- they are the pod's folder, the container's and the log
pub record IsPodPath (path : List ℕ) (pod : Pod) : Type 0 where
  pub folder : List ℕ
  pub file : List ℕ
  pub last : AreLast path folder pod.container file
  pub folder_is : IsFolder folder pod.namespace pod.pod pod.uid
  pub container_is : is_made_of is_container_byte pod.container ≡ true
  pub file_is : IsFile file pod.restarts

abbrev pub IsPodOf : List ℕ → Option Pod → Type 0
IsPodOf path None = (pod : Pod) → IsPodPath path pod → ⊥
IsPodOf path (Some pod) = IsPodPath path pod
