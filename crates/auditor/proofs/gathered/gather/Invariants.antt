use Rattle.std.proofs.Common.{◌≡◌, ℕ, ◌+◌, ◌≤◌, List, [], ◌++◌, length, map}
use Rattle.checkpoint_store.specs.Rules.{Rise, last_point}
use Rattle.pipeline.specs.AsRules.{rules_of}
use Rattle.standing.specs.Part.{first_point}
use Rattle.auditor.specs.Asked.{asked, asked_from}
use Rattle.auditor.specs.Inner.Compared.{made_in}
use Rattle.auditor.specs.Inner.Whole.{AreWhole}
use Rattle.auditor.proofs.Gathering.{WholeSo}
use Rattle.auditor.proofs.gathered.gather.Given as goal

-- what the parts so far gave, and what is left
abbrev pub invariant-closing : goal.invariant-closing
invariant-closing l = record {
  many : length l.left ≡ length l.ends + 1;
  start : l.row.start ≤ l.from.offset;
  rise : Rise l.from l.ends (last_point l.row);
  items : (before : List ℕ) → length before ≡ l.row.start
      → made_in l.items.items ++ asked_from (map (rules_of []) l.left) (before ++ l.bytes) l.row l.from l.ends ≡ asked (map (rules_of []) l.pipes) (before ++ l.bytes) l.row;
  whole : (before : List ℕ) → length before ≡ l.row.start
      → WholeSo l.all_whole (AreWhole (map (rules_of []) l.left) (before ++ l.bytes) l.row l.from l.ends)
      (AreWhole (map (rules_of []) l.pipes) (before ++ l.bytes) l.row (first_point l.row) l.row.ends);
}

abbrev pub decreases-closing : goal.decreases-closing
decreases-closing l = length l.ends
