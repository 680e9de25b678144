use Rattle.std.proofs.Common.{ℕ, List, sym, ◌∙◌, ap, subst}
use Rattle.outside.specs.Count.{Rose}
use Rattle.agent_commands.proofs.AdoptLemmas.{read_adopted, read_adopts, read_refused, read_untouched, same_adopts}
use Rattle.agent_commands.proofs.FaultLemmas.{HasRead}
use Rattle.agent_commands.proofs.StandLemmas.{all_same, read_stands}
use Rattle.agent_commands.proofs.StatusLemmas.{adopting_count, opening_count, some_fault}
use Rattle.agent_commands.specs.Adopt.{failed, no_memory, not_adopted, not_read, tells}
use Rattle.agent_commands.specs.Status.{status_of}
use Rattle.agent_commands.proofs.adopt.adopt.Goals as goal

-- ---- the settings file wasn't read

pub returns-in-Err-clause-ends : goal.returns-in-Err-clause-ends
returns-in-Err-clause-ends g c = not_read _ (record {
  fault = c.in-Err.fault;
  is = c.refuse.ensures.status ∙ ap status_of c.from.ensures;
  cause = c.in-Err.ensures.fault;
  told = rw c.from.ensures at c.refuse.ensures.told;
  untouched = c.read_settings.ensures.only_read.crash;
})

pub returns-in-Err-clause-crash : goal.returns-in-Err-clause-crash
returns-in-Err-clause-crash g c = same_adopts g.D.Disk.meaning.images c.args.disk.now c.read_settings.new.disk c.read_settings.ensures.only_read.crash

pub returns-in-Err-clause-standing : goal.returns-in-Err-clause-standing
returns-in-Err-clause-standing g c = λ history. all_same g.D.Disk.meaning.images history c.args.disk.now c.read_settings.new.disk (λ from image early left. g.met.D.Disk.counts_now c.args.disk.now from image early left) c.read_settings.ensures.only_read.crash

pub returns-in-Err-clause-disk_failed : goal.returns-in-Err-clause-disk_failed
returns-in-Err-clause-disk_failed g c = λ is. (opening_count ℕ c.in-Err.fault _ _ c.in-Err.ensures.cause).0 (sym (c.refuse.ensures.status ∙ ap status_of c.from.ensures) ∙ is)

pub returns-in-Err-clause-disk_stood : goal.returns-in-Err-clause-disk_stood
returns-in-Err-clause-disk_stood g c = λ other. (opening_count ℕ c.in-Err.fault _ _ c.in-Err.ensures.cause).1 (λ is. other (c.refuse.ensures.status ∙ ap status_of c.from.ensures ∙ is))

pub returns-in-Err-clause-report_failed : goal.returns-in-Err-clause-report_failed
returns-in-Err-clause-report_failed g c = λ is. absurd ((some_fault c.from.result).0 (sym c.refuse.ensures.status ∙ is))

pub returns-in-Err-clause-report_stood : goal.returns-in-Err-clause-report_stood
returns-in-Err-clause-report_stood g c = λ is. absurd ((some_fault c.from.result).1 (sym c.refuse.ensures.status ∙ is))

-- ---- its settings weren't adopted

pub returns-in-Err-adopt-clause-ends : goal.returns-in-Err-adopt-clause-ends
returns-in-Err-adopt-clause-ends g c =
    let images = g.D.Disk.meaning.images in
    let only_read = c.read_settings.ensures.only_read in
    let text : List ℕ = c.deref.result.now in
    let read : HasRead images c.args.disk.now c.read_settings.new.disk text = record { tells = only_read.tells; seen = only_read.seen; text_is = λ told. c.deref.ensures.value ∙ c.in-Ok.ensures.ok told; crash = only_read.crash } in
    not_adopted _ (record {
      fault = c.in-Err-adopt.refused;
      is = c.refuse-in-Err-adopt.ensures.status ∙ ap status_of c.from-in-Err-adopt.ensures;
      cause = read_refused images c.args.disk.now c.read_settings.new.disk text read c.adopt.new.disk c.in-Err-adopt.refused c.in-Err-adopt.ensures.of_next c.in-Err-adopt.ensures.of_kept;
      told = rw c.from-in-Err-adopt.ensures at c.refuse-in-Err-adopt.ensures.told;
      untouched = read_untouched images c.args.disk.now c.read_settings.new.disk text read c.adopt.new.disk c.in-Err-adopt.refused c.in-Err-adopt.ensures.before_the_disk (λ kept. (c.in-Err-adopt.ensures.untouched kept).0);
    })

pub returns-in-Err-adopt-clause-crash : goal.returns-in-Err-adopt-clause-crash
returns-in-Err-adopt-clause-crash g c =
    let images = g.D.Disk.meaning.images in
    let only_read = c.read_settings.ensures.only_read in
    read_adopts images c.args.disk.now c.read_settings.new.disk c.deref.result.now
    (record { tells = only_read.tells; seen = only_read.seen; text_is = λ told. c.deref.ensures.value ∙ c.in-Ok.ensures.ok told; crash = only_read.crash })
    c.adopt.new.disk c.adopt.ensures.crash

pub returns-in-Err-adopt-clause-standing : goal.returns-in-Err-adopt-clause-standing
returns-in-Err-adopt-clause-standing g c = λ history. read_stands g.D.Disk.meaning.images history c.args.disk.now c.read_settings.new.disk c.adopt.new.disk (λ from image early left. g.met.D.Disk.counts_now c.args.disk.now from image early left) c.read_settings.ensures.only_read.crash (c.adopt.ensures.standing history)

pub returns-in-Err-adopt-clause-disk_failed : goal.returns-in-Err-adopt-clause-disk_failed
returns-in-Err-adopt-clause-disk_failed g c = λ is.
    subst (λ (n : ℕ). Rose n (g.D.Disk.meaning.faults c.adopt.new.disk)) c.in-Ok.ensures.cause ((adopting_count ℕ c.in-Err-adopt.refused _ _ c.in-Err-adopt.ensures.cause).0 (sym (c.refuse-in-Err-adopt.ensures.status ∙ ap status_of c.from-in-Err-adopt.ensures) ∙ is))

pub returns-in-Err-adopt-clause-disk_stood : goal.returns-in-Err-adopt-clause-disk_stood
returns-in-Err-adopt-clause-disk_stood g c = λ other.
    (adopting_count ℕ c.in-Err-adopt.refused _ _ c.in-Err-adopt.ensures.cause).1 (λ is. other (c.refuse-in-Err-adopt.ensures.status ∙ ap status_of c.from-in-Err-adopt.ensures ∙ is)) ∙ c.in-Ok.ensures.cause

pub returns-in-Err-adopt-clause-report_failed : goal.returns-in-Err-adopt-clause-report_failed
returns-in-Err-adopt-clause-report_failed g c = λ is. absurd ((some_fault c.from-in-Err-adopt.result).0 (sym c.refuse-in-Err-adopt.ensures.status ∙ is))

pub returns-in-Err-adopt-clause-report_stood : goal.returns-in-Err-adopt-clause-report_stood
returns-in-Err-adopt-clause-report_stood g c = λ is. absurd ((some_fault c.from-in-Err-adopt.result).1 (sym c.refuse-in-Err-adopt.ensures.status ∙ is))

-- ---- they were

pub returns-in-Ok-report_adopted-clause-ends : goal.returns-in-Ok-report_adopted-clause-ends
returns-in-Ok-report_adopted-clause-ends g c =
    let images = g.D.Disk.meaning.images in
    let only_read = c.read_settings.ensures.only_read in
    let text : List ℕ = c.deref.result.now in
    let read : HasRead images c.args.disk.now c.read_settings.new.disk text = record { tells = only_read.tells; seen = only_read.seen; text_is = λ told. c.deref.ensures.value ∙ c.in-Ok.ensures.ok told; crash = only_read.crash } in
    tells (record {
      adopted = c.in-Ok-adopt.adopted;
      has = read_adopted images c.args.disk.now c.read_settings.new.disk text read c.adopt.new.disk c.in-Ok-adopt.adopted c.in-Ok-adopt.ensures.adopted c.in-Ok-adopt.ensures.one;
      told = c.in-Ok-report_adopted.ensures.ok;
    })

pub returns-in-Ok-report_adopted-clause-crash : goal.returns-in-Ok-report_adopted-clause-crash
returns-in-Ok-report_adopted-clause-crash g c =
    let images = g.D.Disk.meaning.images in
    let only_read = c.read_settings.ensures.only_read in
    read_adopts images c.args.disk.now c.read_settings.new.disk c.deref.result.now
    (record { tells = only_read.tells; seen = only_read.seen; text_is = λ told. c.deref.ensures.value ∙ c.in-Ok.ensures.ok told; crash = only_read.crash })
    c.adopt.new.disk c.adopt.ensures.crash

pub returns-in-Ok-report_adopted-clause-standing : goal.returns-in-Ok-report_adopted-clause-standing
returns-in-Ok-report_adopted-clause-standing g c = λ history. read_stands g.D.Disk.meaning.images history c.args.disk.now c.read_settings.new.disk c.adopt.new.disk (λ from image early left. g.met.D.Disk.counts_now c.args.disk.now from image early left) c.read_settings.ensures.only_read.crash (c.adopt.ensures.standing history)

pub returns-in-Err-Failed-clause-ends : goal.returns-in-Err-Failed-clause-ends
returns-in-Err-Failed-clause-ends g c =
    let images = g.D.Disk.meaning.images in
    let only_read = c.read_settings.ensures.only_read in
    let text : List ℕ = c.deref.result.now in
    let read : HasRead images c.args.disk.now c.read_settings.new.disk text = record { tells = only_read.tells; seen = only_read.seen; text_is = λ told. c.deref.ensures.value ∙ c.in-Ok.ensures.ok told; crash = only_read.crash } in
    failed (record {
      adopted = c.in-Ok-adopt.adopted;
      has = read_adopted images c.args.disk.now c.read_settings.new.disk text read c.adopt.new.disk c.in-Ok-adopt.adopted c.in-Ok-adopt.ensures.adopted c.in-Ok-adopt.ensures.one;
      told = c.report_adopted.ensures.part;
    })

pub returns-in-Err-Failed-clause-crash : goal.returns-in-Err-Failed-clause-crash
returns-in-Err-Failed-clause-crash g c =
    let images = g.D.Disk.meaning.images in
    let only_read = c.read_settings.ensures.only_read in
    read_adopts images c.args.disk.now c.read_settings.new.disk c.deref.result.now
    (record { tells = only_read.tells; seen = only_read.seen; text_is = λ told. c.deref.ensures.value ∙ c.in-Ok.ensures.ok told; crash = only_read.crash })
    c.adopt.new.disk c.adopt.ensures.crash

pub returns-in-Err-Failed-clause-standing : goal.returns-in-Err-Failed-clause-standing
returns-in-Err-Failed-clause-standing g c = λ history. read_stands g.D.Disk.meaning.images history c.args.disk.now c.read_settings.new.disk c.adopt.new.disk (λ from image early left. g.met.D.Disk.counts_now c.args.disk.now from image early left) c.read_settings.ensures.only_read.crash (c.adopt.ensures.standing history)

pub returns-clause-ends : goal.returns-clause-ends
returns-clause-ends g c =
    let images = g.D.Disk.meaning.images in
    let only_read = c.read_settings.ensures.only_read in
    let text : List ℕ = c.deref.result.now in
    let read : HasRead images c.args.disk.now c.read_settings.new.disk text = record { tells = only_read.tells; seen = only_read.seen; text_is = λ told. c.deref.ensures.value ∙ c.in-Ok.ensures.ok told; crash = only_read.crash } in
    no_memory (record {
      adopted = c.in-Ok-adopt.adopted;
      has = read_adopted images c.args.disk.now c.read_settings.new.disk text read c.adopt.new.disk c.in-Ok-adopt.adopted c.in-Ok-adopt.ensures.adopted c.in-Ok-adopt.ensures.one;
      told = c.report_adopted.ensures.part;
    })

pub returns-clause-crash : goal.returns-clause-crash
returns-clause-crash g c =
    let images = g.D.Disk.meaning.images in
    let only_read = c.read_settings.ensures.only_read in
    read_adopts images c.args.disk.now c.read_settings.new.disk c.deref.result.now
    (record { tells = only_read.tells; seen = only_read.seen; text_is = λ told. c.deref.ensures.value ∙ c.in-Ok.ensures.ok told; crash = only_read.crash })
    c.adopt.new.disk c.adopt.ensures.crash

pub returns-clause-standing : goal.returns-clause-standing
returns-clause-standing g c = λ history. read_stands g.D.Disk.meaning.images history c.args.disk.now c.read_settings.new.disk c.adopt.new.disk (λ from image early left. g.met.D.Disk.counts_now c.args.disk.now from image early left) c.read_settings.ensures.only_read.crash (c.adopt.ensures.standing history)
