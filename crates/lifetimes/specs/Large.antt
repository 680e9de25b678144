-- Histories whose files may have more lines together than an output has room for.
use Rattle.std.specs.Prelude.{◌≡◌, ◌≢◌, ℕ, ◌<◌, ◌≤◌, All, List, [], ◌∷◌, length, drop, sum_by, None, is_some, ⊤}
use Rattle.checkpoint_store.specs.Limits.{output_limit}
use Rattle.entry_model.specs.LogRecord.{LogRecord}
use Rattle.outside.specs.World.{History, bytes}
use Rattle.standing.specs.Limits.{row_limit}
use Rattle.standing.specs.Marks.{Mark, numbered, untimed}
use Rattle.standing.specs.Moments.{LookAt, IsNamed}
use Rattle.standing.specs.Owner.{MayBegin}
use Rattle.standing.specs.Part.{part_output, whole}
use Rattle.standing.specs.Rules.{Rules, Includes, output_text}
use Rattle.standing.specs.Tokens.{tokens_of}

-- a file, with an id, a path and a start that a row of it may have, and lines
pub record Share : Type 0 where
  pub file : ℕ
  pub id : ℕ
  pub path : List ℕ
  pub start : ℕ
  pub lines : List Mark

-- all that comes out for the file's bytes from the start on
abbrev pub entries_of : Rules → History → Share → List LogRecord
entries_of rules history share = part_output rules (whole rules share.start) share.path (tokens_of rules (drop share.start (bytes history share.file)))

-- The lines are all that come out, each with a time where the settings ask for one.
pub record HasLines (rules : Rules) (history : History) (share : Share) : Type 0 where
  pub all : untimed share.lines ≡ numbered share.id 1 None (entries_of rules history share)
  pub times : All (λ (mark : Mark). is_some mark.observed ≡ rules.stamps) share.lines

-- The file was looked at under the path, which is to be read; the id is one of those that rows have, and the start one of
-- those that rows of the file may have.
pub record IsShare (rules : Rules) (history : History) (share : Share) : Type 0 where
  pub moment : History
  pub looks : LookAt history share.file moment
  pub under : IsNamed moment share.path share.file
  pub included : Includes rules share.path
  pub some_id : 1 ≤ share.id
  pub few_ids : share.id ≤ row_limit
  pub begins : MayBegin rules history share.file share.start
  pub lines : HasLines rules history share

-- the text of its lines
abbrev pub text_of : Rules → Share → List ℕ
text_of rules share = output_text rules share.lines

-- two different files, with two different ids
pub record Differ (one other : Share) : Type 0 where
  pub files : one.file ≢ other.file
  pub ids : one.id ≢ other.id

-- no two have one file or one id
abbrev pub AreDifferent : List Share → Type 0
AreDifferent [] = ⊤
AreDifferent (share ∷ shares) = All (Differ share) shares × AreDifferent shares

-- Some different files, no more than rows can be had, may have more lines together than fit into 2^40 bytes.
pub record Large (rules : Rules) (history : History) : Type 0 where
  pub shares : List Share
  pub few : length shares ≤ row_limit
  pub are : All (IsShare rules history) shares
  pub differ : AreDifferent shares
  pub long : output_limit < sum_by (λ (share : Share). length (text_of rules share)) shares
