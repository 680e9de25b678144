use Rattle.std.proofs.Common.{◌∙◌}
use Rattle.standing.proofs.laws.only_what_is_kept_counts.Goals as goal

pub returns-clause-sound : goal.returns-clause-sound
returns-clause-sound c = λ eras checkpoint file other long sound. record { texts = sound.texts; states = sound.states; ids = sound.ids; long_enough = long }

pub returns-clause-stands : goal.returns-clause-stands
returns-clause-stands c = λ eras history checkpoint file other long same stands. record {
  sound = record { texts = stands.sound.texts; states = stands.sound.states; ids = stands.sound.ids; long_enough = long };
  stands = record {
    marks = stands.stands.marks;
    whole_lines = same ∙ stands.stands.whole_lines;
    lines_stand = stands.stands.lines_stand;
  };
  times = stands.times;
}
