use Rattle.multiline.proofs.StopLemmas.{nothing_searched, searched-append}
use Rattle.multiline.proofs.laws.searched_lines_stay_searched.Goals as goal

pub returns-clause-none : goal.returns-clause-none
returns-clause-none c = λ cutting. nothing_searched cutting c.args.max

pub returns-clause-stays : goal.returns-clause-stays
returns-clause-stays c = λ cutting. searched-append cutting c.args.max c.requires
