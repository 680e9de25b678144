use Rattle.text_parsers.proofs.records.step_at.Goals as goal

pub returns-in-Front : goal.returns-in-Front
returns-in-Front c = rw c.in-Front.is c.at_front.ensures

pub returns-in-Between : goal.returns-in-Between
returns-in-Between c = rw c.in-Between.is c.between.ensures

pub returns-in-Field : goal.returns-in-Field
returns-in-Field c = rw c.in-Field.is c.in_field.ensures

pub returns-in-Quoted : goal.returns-in-Quoted
returns-in-Quoted c = rw c.in-Quoted.is (c.in_quotes.ensures c.args.delimiter)

pub returns-in-Closed : goal.returns-in-Closed
returns-in-Closed c = rw c.in-Closed.is c.behind_quote.ensures
