use Rattle.std.proofs.Common.{◌≡◌, ℕ, List, length, sym, ap, ◌∙◌, subst, arith}
use Rattle.std.specs.Prelude.{map, slice_index}
use Rattle.checkpoint_store.specs.Rules.{IsCheckpoint}
use Rattle.checkpoint_journal.proofs.SaysLemmas.{says_lawful}
use Rattle.checkpoint_store.proofs.ShortLemmas.{base_short}
use Rattle.checkpoint_journal.proofs.peeking.understood.Goals as goal

pub returns-clause-lawful : goal.returns-clause-lawful
returns-clause-lawful c =
    let told : c.over-journal.result.version ≡ c.version_of.result = ap (λ journal. journal.version) c.over-journal.ensures in
    let same : c.deref-3.result.now ≡ c.deref.result.now = c.deref-3.ensures.value ∙ sym c.deref.ensures.value in
    let is : c.over-journal.result.version ≡ slice_index c.deref.result.now 0 = told ∙ c.version_of.ensures ∙ ap (λ (bytes : List ℕ). slice_index bytes 0) same in
    subst (λ (version : ℕ). IsCheckpoint version c.in_ok-checkpoint.checkpoint) (sym is)
    (says_lawful (slice_index c.deref.result.now 0) c.deref.result.now (map (λ payload. payload.items) c.deref-2.result.now) c.in_ok-checkpoint.checkpoint c.in_ok-checkpoint.ensures.says)

pub returns-clause-short : goal.returns-clause-short
returns-clause-short c =
    let says = c.in_ok-checkpoint.ensures.says in
    omega (arith, c.requires, ap (λ journal. journal.slot.length) c.over-journal.ensures, ap length c.deref.ensures.value, base_short c.deref.result.now says.first says.base_is)
