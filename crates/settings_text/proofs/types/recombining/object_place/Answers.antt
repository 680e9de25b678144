use Rattle.std.proofs.Common.{◌≡◌, ◌<◌, [], ◌∷◌, ◌++◌, Some, None, sym, ap, ◌∙◌, arith}
use Rattle.std.proofs.lemmas.Str.Pattern.{strip_suffix_char}
use Rattle.settings_text.specs.Types.Recombining.{object_place}
use Rattle.settings_text.proofs.Places.{without_point, with_no_point}
use Rattle.settings_text.proofs.types.recombining.object_place.Goals as goal

pub returns-in-Some : goal.returns-in-Some
returns-in-Some c =
    let split = strip_suffix_char 46 c.args.at.now (Some c.in-Some.place) c.in-Some.ensures.cases (omega arith) in
    sym (ap object_place split ∙ without_point c.in-Some.place.now)

pub returns-in-None : goal.returns-in-None
returns-in-None c = sym (with_no_point c.args.at.now (strip_suffix_char 46 c.args.at.now None c.in-None.ensures.cases (omega arith)))
