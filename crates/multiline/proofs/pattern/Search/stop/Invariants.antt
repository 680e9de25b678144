use Rattle.std.proofs.Common.{◌≡◌, ◌-◌, length}
use Rattle.regex.specs.Strings.{regex_source}
use Rattle.multiline.specs.Cutting.{cutting_at}
use Rattle.multiline.specs.Searched.{IsSearched}
use Rattle.multiline.proofs.pattern.Search.stop.Given as goal

abbrev pub invariant-loop-place : goal.invariant-loop-place
invariant-loop-place l = record {
  pattern : l.self.pattern.now ≡ l.fn.self.pattern.now;
  searched : IsSearched (cutting_at l.boundary (regex_source l.fn.self.pattern.now.regex)) l.max l.bytes l.at;
}

abbrev pub decreases-loop-place : goal.decreases-loop-place
decreases-loop-place l = length l.bytes - l.at
