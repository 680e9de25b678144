use Rattle.std.proofs.Common.{Bool, true, Ok, sym, subst}
use Rattle.op_kinds.specs.Kept.{Kept}
use Rattle.op_kinds.specs.States.{kept_at}
use Rattle.op_kinds.proofs.States.{restored_found}
use Rattle.recombine.specs.Inner.Told.{IsRead, Finds}
use Rattle.op_kinds.proofs.saving.restored.Goals as goal

pub returns : goal.returns
returns c =
    let bytes = c.args.bytes.now in
    let next = c.in_ok-groups.next in
    subst (λ (b : Bool). Finds {X = Kept} (λ k. k) (kept_at b) bytes c.args.at (Ok (c.with_groups.result, next))) (sym c.if-not-holds_groups.false)
    (subst (λ (k : Kept). IsRead (kept_at true) bytes c.args.at k next) (sym c.with_groups.ensures) (restored_found bytes c.args.at c.in_ok-groups.groups next c.in_ok-groups.ensures))
