use Rattle.std.proofs.Common.{◌≡◌, ℕ, List, ◌==◌, length, ◌∙◌, ap}
use Rattle.settings_text.specs.declared.operators.Draft.{Draft}
use Rattle.settings_text.specs.Operators.{with_ids, with_id, settled, id_of}
use Rattle.settings_text.proofs.Drafts.{settles_first, all_settled}
use Rattle.settings_text.proofs.InTurn.{nonempty, empty}
use Rattle.settings_text.proofs.operators.settle_all.Goals as goal

pub settling-preserved : goal.settling-preserved
settling-preserved c =
    let total = with_ids c.args.taken.items c.args.drafts.items in
    let taken = c.settling.taken.items in
    let drafts = c.settling.drafts.items in
    let d = c.remove-draft.result in
    let is_id : c.in_ok-id.id ≡ id_of taken d = c.in_ok-id.ensures ∙ ap (λ (l : List (List ℕ)). id_of l d) c.deref.ensures.value in
    let is : c.settle.result ≡ settled taken d = c.settle.ensures ∙ ap (λ (id : List ℕ). with_id id d) is_id in
    let some = nonempty (length drafts) c.is_empty.result (c.is_empty.ensures ∙ ap (λ (l : List Draft). length l == 0) c.as_slice.ensures.value) c.settling-test.true in
    rw (c.in_ok-push-2.ensures.items, c.in_ok-push.ensures.items, c.in_ok-share.ensures, is, is_id)
    (settles_first taken drafts c.remove-draft.new.self.items d c.settling.settled.items total some c.remove-draft.ensures.value c.remove-draft.ensures.items c.settling.invariant)

pub returns : goal.returns
returns c =
    let drafts = c.settling.drafts.items in
    let none = empty (length drafts) c.is_empty.result (c.is_empty.ensures ∙ ap (λ (l : List Draft). length l == 0) c.as_slice.ensures.value) c.settling-test.false in
    all_settled c.settling.taken.items drafts c.settling.settled.items (with_ids c.args.taken.items c.args.drafts.items) none c.settling.invariant
