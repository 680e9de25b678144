use Rattle.std.proofs.Common.{sym, ◌∙◌}
use Rattle.std.proofs.lemmas.Result.{IfOk-weaker}
use Rattle.whole_runs.proofs.Firsts.{ascending_stays}
use Rattle.whole_runs.proofs.Sorting.{halves_sorted, sorted_ascends}
use Rattle.whole_runs.proofs.ascending.+sorted.Goals as goal

pub returns-then-is_ascending : goal.returns-then-is_ascending
returns-then-is_ascending g t c = sym (ascending_stays c.args.calls.items (c.is_ascending.ensures.ascending c.if-is_ascending.true))

pub merged-requires : goal.merged-requires
merged-requires g t c = record {
  front = sorted_ascends c.split_off.new.self.items c.in_ok-front.front.items c.in_ok-front.ensures;
  back = sorted_ascends c.in_ok-back.back.items c.in_ok-rest.rest.items c.in_ok-rest.ensures;
}

pub returns : goal.returns
returns g t c =
    IfOk-weaker c.merged.result _ _
    (λ all e. e ∙ halves_sorted c.args.calls.items c.split_off.new.self.items c.in_ok-back.back.items c.in_ok-front.front.items c.in_ok-rest.rest.items _
    c.in_ok-back.ensures.items c.in_ok-back.ensures.tail c.in_ok-front.ensures c.in_ok-rest.ensures)
    c.merged.ensures
