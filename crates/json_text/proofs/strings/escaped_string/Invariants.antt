use Rattle.std.proofs.Common.{◌-◌, length}
use Rattle.std.specs.Str.{IsCharBoundary}
use Rattle.json_text.specs.Machine.{no_content}
use Rattle.json_text.specs.Reads.{Leads, AroundText, text_from}
use Rattle.json_text.proofs.strings.escaped_string.Given as goal

abbrev pub invariant-loop-content : goal.invariant-loop-content
invariant-loop-content l = record {
  boundary : IsCharBoundary l.text l.place;
  leads : Leads {Around = AroundText} l.text l.at (text_from no_content) l.place (text_from l.content);
}

abbrev pub decreases-loop-content : goal.decreases-loop-content
decreases-loop-content l = length l.text - l.place
