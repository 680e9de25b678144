use Rattle.std.proofs.Common.{◌≡◌, ◌++◌, drop}
use Rattle.std.specs.List.{flat_map}
use Rattle.state_codec.specs.Spelling.{bytes_spelling}
use Rattle.checkpoint_store.proofs.put.put_eras.Given as goal

abbrev pub invariant-loop-era : goal.invariant-loop-era
invariant-loop-era l = l.out.items ++ flat_map bytes_spelling (drop l.era-index l.eras) ≡ l.initial.out.items ++ flat_map bytes_spelling l.eras
