use Rattle.std.proofs.Common.{◌≡◌, drop, nat_lt}
use Rattle.serde_json.specs.Data.{items_depth, members_depth}
use Rattle.serde_json.specs.View.{items_view, members_view}
use Rattle.settings_text.proofs.values.+nesting.Given as goal

abbrev pub invariant-items_nest_past-loop-value : goal.invariant-items_nest_past-loop-value
invariant-items_nest_past-loop-value l = nat_lt l.most (items_depth (items_view (drop l.value-index l.value-items))) ≡ nat_lt l.most (items_depth (items_view l.value-items))

abbrev pub invariant-members_nest_past-loop-key : goal.invariant-members_nest_past-loop-key
invariant-members_nest_past-loop-key l = nat_lt l.most (members_depth (members_view l._key-iterator)) ≡ nat_lt l.most (members_depth (members_view l.members.entries))
