use Rattle.std.proofs.Common.{◌≡◌, [], sym, ◌∙◌, true, false, arith}
use Rattle.pipeline.specs.RowStates.{AreBytes}
use Rattle.part_closing.proofs.closing.restored.Goals as goal

pub unreachable-requires : goal.unreachable-requires
unreachable-requires c =
    let bytes : AreBytes c.args.bytes.now = λ i. omega (arith, c.type_inv.bytes i) in
    let none = rw c.in-Err-Malformed.field-0-is at c.in-Err-Malformed.ensures.fault in
    let no : false ≡ true = sym (c.a_row_tells_its_state.ensures.refused [] c.args.bytes.now c.in-Err-Malformed.field-0-0 bytes none) ∙ c.requires [] in
    cc
