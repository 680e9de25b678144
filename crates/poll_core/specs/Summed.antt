-- What a poll tells in numbers.
use Rattle.std.specs.Prelude.{◌≡◌, ℕ, ◌+◌, ◌<◌, List, Contains}
use Rattle.file_pass.specs.declared.taking.Taking.{Taking}
use Rattle.outside.specs.World.{History}
use Rattle.poll_core.specs.declared.summary.Summary.{Summary}
use Rattle.standing.specs.Limits.{deepest}
use Rattle.standing.specs.Pass.{IsOnWay}
use Rattle.standing.specs.Rules.{Rules}
use Rattle.standing.specs.Sums.{Sums, TellNothingLeft, capped}
use Rattle.tree_walk.specs.Depth.{depth}
use Rattle.tree_walk.specs.Walked.{IsMet}
use Rattle.tree_walk.specs.declared.walk.Walk.{Walk}

-- the numbers of the walk and of the pass over its paths
pub record IsSummaryOf (walk : Walk) (taking : Taking) (summary : Summary) : Type 0 where
  pub files : summary.files ≡ taking.counts.files
  pub lines : summary.lines ≡ taking.counts.lines
  pub left : summary.left ≡ taking.counts.left
  pub gone : summary.gone ≡ taking.counts.gone
  pub failed : summary.failed ≡ capped (taking.counts.failed + walk.failed)
  pub compressed : summary.compressed ≡ taking.counts.compressed
  pub deep : summary.deep ≡ walk.deep
  pub shrunk : summary.shrunk ≡ taking.counts.shrunk
  pub full : summary.full ≡ taking.counts.full
  pub output : summary.output ≡ taking.end

abbrev pub sums_of : Summary → Sums
sums_of summary = record {
  files = summary.files;
  lines = summary.lines;
  left = summary.left;
  gone = summary.gone;
  failed = summary.failed;
  compressed = summary.compressed;
  shrunk = summary.shrunk;
  full = summary.full;
  output = summary.output;
}

-- The walk came to the folder, and didn't list it since it lies too deep.
pub record IsDeep (rules : Rules) (old new : History) (folder : List ℕ) : Type 0 where
  pub deep : deepest < depth folder
  pub met : IsMet rules.include old new folder

-- one of the folders that lie too deep is on the way to the path
abbrev pub HasDeepFolder : List (List ℕ) → List ℕ → Type 0
HasDeepFolder deep path = (folder : List ℕ) × Contains deep folder × IsOnWay path folder

-- no file was left unread or passed over, and no folder lay too deep
pub record TellsAll (summary : Summary) : Type 0 where
  pub none : TellNothingLeft (sums_of summary)
  pub deep : summary.deep ≡ 0
