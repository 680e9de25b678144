use Rattle.std.proofs.Common.{sym, ◌∙◌, subst}
use Rattle.std.specs.Option.{option_copied}
use Rattle.outside.proofs.Passing.{passes_by}
use Rattle.slot_store.specs.Committed.{Chooses, IsCommitted, Commits}
use Rattle.record_log.proofs.Rewritten.{stands_chooses, keeps_old, is_rewritten, rewrites}
use Rattle.record_log.proofs.rewriting.rewrite.Goals as goal

pub returns-in_err-slot-clause-crash : goal.returns-in_err-slot-clause-crash
returns-in_err-slot-clause-crash g c stands =
    let before = option_copied c.args.before in
    let same = c.as_ref.ensures.value ∙ c.slot_before-before.ensures in
    passes_by (c.commit.ensures.crash (record { each = λ image left. subst (λ slot. Chooses slot image) (sym same) (stands_chooses before image (stands.each image left)) }))
    (λ x y left commits. rewrites before c.args.payload.items x y (stands.each x left) (subst (λ slot. Commits slot c.args.payload.items x y) same commits))

pub returns-in_err-slot-clause-early : goal.returns-in_err-slot-clause-early
returns-in_err-slot-clause-early g c fewer stands =
    let before = option_copied c.args.before in
    let same = c.as_ref.ensures.value ∙ c.slot_before-before.ensures in
    passes_by (c.commit.ensures.early fewer (record { each = λ image left. subst (λ slot. Chooses slot image) (sym same) (stands_chooses before image (stands.each image left)) }))
    (λ x y left keeps. keeps_old before x y (stands.each x left) keeps)

pub returns-clause-crash : goal.returns-clause-crash
returns-clause-crash g c stands =
    let before = option_copied c.args.before in
    let same = c.as_ref.ensures.value ∙ c.slot_before-before.ensures in
    passes_by (c.commit.ensures.crash (record { each = λ image left. subst (λ slot. Chooses slot image) (sym same) (stands_chooses before image (stands.each image left)) }))
    (λ x y left commits. rewrites before c.args.payload.items x y (stands.each x left) (subst (λ slot. Commits slot c.args.payload.items x y) same commits))

pub returns-clause-early : goal.returns-clause-early
returns-clause-early g c fewer stands =
    let before = option_copied c.args.before in
    let same = c.as_ref.ensures.value ∙ c.slot_before-before.ensures in
    passes_by (c.commit.ensures.early fewer (record { each = λ image left. subst (λ slot. Chooses slot image) (sym same) (stands_chooses before image (stands.each image left)) }))
    (λ x y left keeps. keeps_old before x y (stands.each x left) keeps)

pub returns-clause-rewritten : goal.returns-clause-rewritten
returns-clause-rewritten g c stands =
    let before = option_copied c.args.before in
    let same = c.as_ref.ensures.value ∙ c.slot_before-before.ensures in
    let committed = c.in_ok-slot.ensures.committed (record { each = λ image left. subst (λ slot. Chooses slot image) (sym same) (stands_chooses before image (stands.each image left)) }) in
    record { each = λ image left. is_rewritten before c.args.payload.items image (subst (λ slot. IsCommitted slot c.args.payload.items image) same (committed.each image left)) }
