use Rattle.std.proofs.Common.{◌≡◌, length, take, encode_utf8_all}
use Rattle.glob_match.proofs.glob.syntax.Given as goal

abbrev pub invariant-loop-character : goal.invariant-loop-character
invariant-loop-character l = l.at ≡ length (encode_utf8_all (take l.character-index l.fn.characters))
