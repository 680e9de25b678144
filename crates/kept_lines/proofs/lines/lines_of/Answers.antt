use Rattle.std.proofs.Common.{map, arith}
use Rattle.std.proofs.lemmas.List.{take_rest}
use Rattle.kept_lines.proofs.Cutting.{begun, one_on, at_end}
use Rattle.kept_lines.proofs.lines.lines_of.Goals as goal

pub cutting-init : goal.cutting-init
cutting-init c = rw c.new-own.ensures.items (begun c.args.id c.args.output.now)

pub cutting-preserved : goal.cutting-preserved
cutting-preserved c =
    one_on c.args.id c.args.output.now c.cutting.rest.now _ _ (map (λ line. line.now) c.cutting.own.items) (map (λ line. line.now) c.keep.new.own.items) c.in-Some.length
    c.cutting.invariant c.in-Some.ensures.some (grind arith) (take_rest c.cutting.rest.now c.in-Some.length) c.in_ok-is_own.is_own c.in_ok-is_own.ensures c.in_ok-keep.ensures

pub returns : goal.returns
returns c = at_end c.args.id c.args.output.now c.cutting.rest.now (map (λ line. line.now) c.cutting.own.items) c.cutting.invariant c.in_default.ensures.none
