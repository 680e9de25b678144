use Rattle.line_splitter.proofs.BoundLemmas.{up_to-within, up_to-determined, up_to-lasting, up_to-joined, up_to-parted, up_to-all}
use Rattle.line_splitter.proofs.laws.cuts_up_to_a_bound.Goals as goal

pub returns-clause-within : goal.returns-clause-within
returns-clause-within c = up_to-within

pub returns-clause-determined : goal.returns-clause-determined
returns-clause-determined c = up_to-determined

pub returns-clause-lasting : goal.returns-clause-lasting
returns-clause-lasting c = up_to-lasting

pub returns-clause-joined : goal.returns-clause-joined
returns-clause-joined c = up_to-joined

pub returns-clause-parted : goal.returns-clause-parted
returns-clause-parted c = up_to-parted

pub returns-clause-all : goal.returns-clause-all
returns-clause-all c = up_to-all
