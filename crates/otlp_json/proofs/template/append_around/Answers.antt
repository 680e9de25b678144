use Rattle.otlp_json.proofs.Templates.{around_number}
use Rattle.otlp_json.proofs.template.append_around.Goals as goal

pub returns : goal.returns
returns c = λ n.
    around_number c.args.name.now n c.args.ahead.now c.args.rest.now
    c.args.front.now.items c.append_ahead.new.out.items c.append_name.new.out.items c.append_behind.new.out.items
    c.in_ok-append_ahead.ensures
    (rw c.as_str.ensures at c.in_ok-append_name.ensures)
    (rw c.new-behind.ensures.items at c.in_ok-append_behind.ensures)
