use Rattle.std.proofs.Common.{◌≡◌, ◌++◌, drop, string_bytes, encode_utf8_all}
use Rattle.std.specs.Prelude.{option_map}
use Rattle.glob_match.specs.Start.{plain_characters}
use Rattle.glob_match.proofs.start.plain_text.Given as goal

abbrev pub invariant-loop-piece : goal.invariant-loop-piece
invariant-loop-piece l = option_map encode_utf8_all (plain_characters l.pieces) ≡ option_map (λ more. string_bytes l.text ++ encode_utf8_all more) (plain_characters (drop l.piece-index l.pieces))
