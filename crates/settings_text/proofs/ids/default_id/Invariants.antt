use Rattle.std.proofs.Common.{◌≡◌, ◌+◌, ◌-◌, length}
use Rattle.settings_text.specs.Ids.{numbered}
use Rattle.settings_text.proofs.ids.default_id.Given as goal

abbrev pub invariant-loop-tried : goal.invariant-loop-tried
invariant-loop-tried l = numbered (length l.taken - l.tried) (l.tried + 1) l.name l.taken ≡ numbered (length l.taken) 1 l.name l.taken
