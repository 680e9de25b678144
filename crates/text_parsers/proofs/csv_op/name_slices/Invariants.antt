use Rattle.std.proofs.Common.{◌≡◌, ℕ, List, [], drop, length}
use denote.Text.{Utf8}
use denote.Shadow.{shadow}
use Rattle.entry_model.specs.Seen.{seen}
use Rattle.json_text.specs.Grammar.{put_all}
use Rattle.text_parsers.specs.CsvRecords.{named}
use Rattle.text_parsers.specs.Inner.FieldSlices.{AreFields, AreLeft}
use Rattle.text_parsers.specs.Inner.Known.{AreAt}
use Rattle.text_parsers.proofs.csv_op.name_slices.Given as goal

abbrev pub invariant-loop-place : goal.invariant-loop-place
invariant-loop-place l = record {
  utf8 : shadow (Utf8 l.rest);
  named : (left : List (List ℕ)) × AreAt (seen l.members.entries) left (drop l.place-index l.place-items)
      × ((fields : List (List ℕ)) → AreFields l.delimiter l.text fields
      → (behind : List (List ℕ)) × AreLeft l.delimiter l.rest l.more behind × (length fields ≡ length l.names → put_all (seen l.members.entries) (named left behind) ≡ put_all [] (named l.names fields)));
}
