use Rattle.whole_runs.proofs.Taking.{back_taken, back_none}
use Rattle.whole_runs.proofs.ascending.take_back.Goals as goal

pub returns-clause-first : goal.returns-clause-first
returns-clause-first g c =
    back_taken c.args.front.now.items c.args.back.now.items c.pop_front.new.self.items c.pop_front.result c.pop_front.ensures.items c.requires.front c.requires.back c.requires.turn

pub returns-clause-none : goal.returns-clause-none
returns-clause-none g c =
    back_none c.args.front.now.items c.args.back.now.items c.pop_front.new.self.items c.pop_front.result c.pop_front.ensures.items c.pop_front.ensures.rest c.requires.turn
