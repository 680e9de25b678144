use Rattle.std.proofs.Common.{◌+◌, arith}
use Rattle.glob_match.proofs.Places.{place_below, place_more}
use Rattle.glob_match.proofs.glob.syntax.Goals as goal

pub overflow_add-at : goal.overflow_add-at
overflow_add-at c =
    let more = place_more c.args.characters.now c.args.place c.loop-character.character-index c.character-item.result c.requires.within c.loop-character-test.true c.character-item.is in
    let bound = place_below c.args.characters.now (c.loop-character.character-index + 1) in omega (arith, more, bound, c.len_utf8-at.ensures.len, c.requires.small)

pub loop-character-preserved : goal.loop-character-preserved
loop-character-preserved c =
    let more = place_more c.args.characters.now c.args.place c.loop-character.character-index c.character-item.result c.requires.within c.loop-character-test.true c.character-item.is in
    omega (arith, more, c.len_utf8-at.ensures.len)
