use Rattle.whole_runs.proofs.Taking.{front_taken, front_none}
use Rattle.whole_runs.proofs.ascending.take_front.Goals as goal

pub returns-clause-first : goal.returns-clause-first
returns-clause-first g c =
    front_taken c.args.front.now.items c.args.back.now.items c.pop_front.new.self.items c.pop_front.result c.pop_front.ensures.items c.requires.front c.requires.back c.requires.turn

pub returns-clause-none : goal.returns-clause-none
returns-clause-none g c =
    front_none c.args.front.now.items c.args.back.now.items c.pop_front.new.self.items c.pop_front.result c.pop_front.ensures.items c.pop_front.ensures.rest c.requires.turn
