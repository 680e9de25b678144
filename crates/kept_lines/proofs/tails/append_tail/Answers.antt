use Rattle.kept_lines.proofs.Telling.{tail_parts}
use Rattle.kept_lines.proofs.tails.append_tail.Goals as goal

pub returns : goal.returns
returns c =
    tail_parts c.args.out.now.items c.append_number.new.out.items c.append_number-2.new.out.items c.extend_from_slice.new.self.items c.args.id c.from-file.result c.args.number c.from-file.ensures
    c.in_ok-append_number.ensures c.in_ok-append_number-2.ensures c.in_ok-extend_from_slice.ensures.items
