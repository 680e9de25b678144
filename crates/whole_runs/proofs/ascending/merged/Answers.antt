use Rattle.std.proofs.Common.{◌++◌}
use Rattle.whole_runs.proofs.Looping.{whole_more, whole_done}
use Rattle.whole_runs.proofs.ascending.merged.Goals as goal

pub merging-preserved : goal.merging-preserved
merging-preserved g c =
    let taken = c.in-Some.ensures.first in
    record {
      front = taken.front_ascends;
      back = taken.back_ascends;
      whole = whole_more c.merging.all.items c.push_back.new.self.items c.merging.front.items c.merging.back.items c.next_of.new.front.items c.next_of.new.back.items _ c.in-Some.call
          c.in_ok-push_back.ensures.items taken.first c.merging.invariant.whole;
    }

pub merging-smaller : goal.merging-smaller
merging-smaller g c = c.in-Some.ensures.first.fewer

pub returns : goal.returns
returns g c = whole_done c.merging.all.items (c.merging.front.items ++ c.merging.back.items) _ c.merging.invariant.whole c.in_default.ensures.none
