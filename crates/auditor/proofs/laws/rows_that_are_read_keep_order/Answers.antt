use Rattle.auditor.proofs.laws.rows_that_are_read_keep_order.Goals as goal

pub returns : goal.returns
returns c = λ beside row keeps. record { rise = keeps.past.ends; offset = keeps.offset; records = keeps.records }
