use Rattle.std.proofs.Common.{◌≡◌, ◌∙◌, refl}
use Rattle.std.specs.Prelude.{map}
use Rattle.demo_run.proofs.Counts.{script_counts}
use Rattle.demo_run.proofs.Endings.{of_rounds}
use Rattle.demo_run.proofs.Rounds.{lines_are_rounds}
use Rattle.demo_run.proofs.RuleLemmas.{is_ruled}
use Rattle.demo_run.specs.Moves.{move_of}
use Rattle.demo_run.specs.Script.{script}
use Rattle.demo_run.proofs.show.play_rounds.Goals as goal

pub returns : goal.returns
returns c =
    let played : map move_of c.deref.result.now ≡ script c.args.rounds = rw c.deref.ensures.value c.in_ok-script.ensures in
    let numbers = script_counts c.args.rounds c.deref.result.now played in
    let ended = c.in-Ok.ensures.ending in
    let steps = of_rounds c.args.rounds ended.rules c.deref.result.now _ _ played ended.ends.runs in
    let kept = c.in_ok-kept.ensures in
    record {
      rounds_are = refl;
      polls = ended.ends.polls ∙ numbers.0;
      stops = ended.ends.stops ∙ numbers.1;
      events = c.deref.result.now;
      played = played;
      ending = c.in-Ok.ending;
      ends = ended;
      steps = steps;
      keeps = kept;
      every_line = kept.lines_are ∙ lines_are_rounds c.settings_give_one_set_of_rules.ensures.rules c.args.rounds c.requires ended.rules ended.rules_are (is_ruled ended.rules ended.rules_are) c.deref.result.now played c.in-Ok.ending ended.ends steps kept.checkpoint kept.has;
    }
