use Rattle.std.proofs.Common.{ℕ, ◌+◌, List, length, refl, sym, subst, ◌∙◌}
use Rattle.checkpoint_store.specs.Limits.{newest}
use Rattle.checkpoint_store.specs.Parts.{checkpoint_of_parts}
use Rattle.checkpoint_store.specs.Rules.{IsCheckpoint}
use Rattle.checkpoint_store.specs.declared.Checkpoint.{Checkpoint}
use Rattle.file_pass.specs.DiskTerms.{Appends}
use Rattle.poll_core.proofs.AdoptPut.{each_stands, has_put, leaves_one, put_crash, unsynced_crash, written_crash}
use Rattle.poll_core.proofs.SaveLemmas.{IsSynced}
use Rattle.poll_core.proofs.session.Session.put_adoption.Goals as goal

pub rewrite-requires : goal.rewrite-requires
rewrite-requires g c = subst (λ (whole : Checkpoint). IsCheckpoint newest whole) (sym c.parts.ensures) c.requires.lawful

pub returns-in_err-write_behind-clause-crash : goal.returns-in_err-write_behind-clause-crash
returns-in_err-write_behind-clause-crash g c = λ added is.
    written_crash g.D.Disk.meaning c.args.self.now c.args.adoption.now.checkpoint c.requires.stands c.write_behind.ensures.keeps added

pub returns-in_err-sync-clause-crash : goal.returns-in_err-sync-clause-crash
returns-in_err-sync-clause-crash g c = λ added is.
    unsynced_crash g.D.Disk.meaning c.args.self.now c.args.adoption.now.checkpoint c.requires.stands c.write_behind.ensures.keeps c.sync.ensures.crash added

pub returns-in_err-_journal-clause-crash : goal.returns-in_err-_journal-clause-crash
returns-in_err-_journal-clause-crash g c = λ added is.
    let meaning = g.D.Disk.meaning in
    let session = c.args.self.now in
    let after = c.args.adoption.now.checkpoint in
    let sync : IsSynced g.D.Disk.meaning.images c.write_behind.new.disk c.sync.new.self = record { crash = c.sync.ensures.crash; durable = c.in_ok-sync.ensures.durable; seen = c.sync.ensures.seen } in
    let each = each_stands meaning session after c.requires.stands c.write_behind.ensures.keeps sync in
    let end : ℕ = session.kept + length c.deref.result.now in
    put_crash meaning session after c.requires.stands c.write_behind.ensures.keeps sync (checkpoint_of_parts c.parts.result) c.parts.ensures (c.rewrite.ensures.crash each)
    (λ image left. g.met.D.Disk.told c.args.disk.now image left) (λ tells. g.met.D.Disk.shown c.args.disk.now tells) added end
    (subst (λ (bytes : List ℕ). Appends meaning bytes session.kept end c.args.disk.now c.write_behind.new.disk) (c.deref.ensures.value ∙ is) c.in_ok-write_behind.ensures.ok)

pub returns-clause-crash : goal.returns-clause-crash
returns-clause-crash g c = λ added is.
    let meaning = g.D.Disk.meaning in
    let session = c.args.self.now in
    let after = c.args.adoption.now.checkpoint in
    let sync : IsSynced g.D.Disk.meaning.images c.write_behind.new.disk c.sync.new.self = record { crash = c.sync.ensures.crash; durable = c.in_ok-sync.ensures.durable; seen = c.sync.ensures.seen } in
    let each = each_stands meaning session after c.requires.stands c.write_behind.ensures.keeps sync in
    let end : ℕ = session.kept + length c.deref.result.now in
    put_crash meaning session after c.requires.stands c.write_behind.ensures.keeps sync (checkpoint_of_parts c.parts.result) c.parts.ensures (c.rewrite.ensures.crash each)
    (λ image left. g.met.D.Disk.told c.args.disk.now image left) (λ tells. g.met.D.Disk.shown c.args.disk.now tells) added end
    (subst (λ (bytes : List ℕ). Appends meaning bytes session.kept end c.args.disk.now c.write_behind.new.disk) (c.deref.ensures.value ∙ is) c.in_ok-write_behind.ensures.ok)

pub returns-clause-one : goal.returns-clause-one
returns-clause-one g c =
    let sync : IsSynced g.D.Disk.meaning.images c.write_behind.new.disk c.sync.new.self = record { crash = c.sync.ensures.crash; durable = c.in_ok-sync.ensures.durable; seen = c.sync.ensures.seen } in
    c.in_ok-_journal.ensures.one (leaves_one g.D.Disk.meaning c.args.self.now c.args.adoption.now.checkpoint c.requires.stands c.write_behind.ensures.keeps sync)

pub returns-clause-put : goal.returns-clause-put
returns-clause-put g c =
    let meaning = g.D.Disk.meaning in
    let session = c.args.self.now in
    let after = c.args.adoption.now.checkpoint in
    let sync : IsSynced g.D.Disk.meaning.images c.write_behind.new.disk c.sync.new.self = record { crash = c.sync.ensures.crash; durable = c.in_ok-sync.ensures.durable; seen = c.sync.ensures.seen } in
    let each = each_stands meaning session after c.requires.stands c.write_behind.ensures.keeps sync in
    let end : ℕ = session.kept + length c.deref.result.now in
    has_put meaning session after c.requires.stands c.write_behind.ensures.keeps sync (checkpoint_of_parts c.parts.result) c.parts.ensures (c.rewrite.ensures.crash each)
    (λ image left. g.met.D.Disk.told c.args.disk.now image left) (λ tells. g.met.D.Disk.shown c.args.disk.now tells) c.args.adoption.now refl end
    (subst (λ (bytes : List ℕ). Appends meaning bytes session.kept end c.args.disk.now c.write_behind.new.disk) c.deref.ensures.value c.in_ok-write_behind.ensures.ok)
    (λ image left. sym (c.rewrite.ensures.terms.tells ∙ c.sync.ensures.tells ∙ c.write_behind.ensures.keeps.terms.tells) ∙ g.met.D.Disk.told c.rewrite.new.disk image left)
    (c.in_ok-_journal.ensures.rewritten each)
