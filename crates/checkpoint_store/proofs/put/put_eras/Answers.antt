use Rattle.std.proofs.Common.{◌++◌, List, ℕ, ap, ◌∙◌, arith}
use Rattle.std.specs.List.{flat_map}
use Rattle.state_codec.specs.Spelling.{bytes_spelling}
use Rattle.checkpoint_store.proofs.PutLemmas.{one_put}
use Rattle.checkpoint_store.proofs.put.put_eras.Goals as goal

pub loop-era-preserved : goal.loop-era-preserved
loop-era-preserved c =
    one_put bytes_spelling c.args.eras.now c.loop-era.era-index c.era-item.result c.loop-era.out.items c.put_bytes.new.out.items
    (c.put_u32.new.out.items ++ flat_map bytes_spelling c.args.eras.now) (omega arith) c.era-item.is
    (c.in_ok-put_bytes.ensures.ok ∙ ap (λ (l : List ℕ). c.loop-era.out.items ++ bytes_spelling l) c.as_slice.ensures) c.loop-era.invariant
