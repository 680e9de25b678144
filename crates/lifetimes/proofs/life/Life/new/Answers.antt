use Rattle.std.proofs.Common.{refl}
use Rattle.lifetimes.proofs.DiskLemmas.{leaves_empty}
use Rattle.lifetimes.proofs.LifeLemmas.{life_begins}
use Rattle.lifetimes.proofs.TreeLemmas.{history_begins}
use Rattle.lifetimes.proofs.life.Life.new.Goals as goal

pub returns-clause-ready : goal.returns-clause-ready
returns-clause-ready c = tt

pub returns-clause-begins : goal.returns-clause-begins
returns-clause-begins c = λ rules laws.
    life_begins rules _ laws c.in_ok-new.ensures (leaves_empty rules c.in_ok-new-2.field-0 c.in_ok-new-2.ensures.empty c.in_ok-new-2.ensures.durable)
    c.in_ok-new-2.ensures.fresh refl refl refl refl

pub returns-clause-tree : goal.returns-clause-tree
returns-clause-tree c = history_begins c.in_ok-new.field-0 c.in_ok-new.ensures

pub returns-clause-disk : goal.returns-clause-disk
returns-clause-disk c = c.in_ok-new-2.ensures.empty

pub returns-clause-session : goal.returns-clause-session
returns-clause-session c = refl
