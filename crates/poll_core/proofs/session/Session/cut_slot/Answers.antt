use Rattle.std.proofs.lemmas.Result.{on_ok_weaker}
use Rattle.outside.proofs.Passing.{passes_none, passes_by}
use Rattle.poll_core.proofs.DiskLemmas.{memory_left, trims_step, trims_idle, ends_step}
use Rattle.poll_core.proofs.session.Session.cut_slot.Goals as goal
use Rattle.poll_core.specs.SessionParts.{checkpoint_of_session, journal_of_session}

pub returns-in-Some-clause-ends : goal.returns-in-Some-clause-ends
returns-in-Some-clause-ends g c =
    let session = c.args.self.now in
    let seen = g.D.Disk.meaning.images.seen in
    on_ok_weaker c.cut_longer.result
    (λ cut tells. ends_step (journal_of_session session) c.in-Some.journal (checkpoint_of_session session) (seen c.args.disk.now) (seen c.cut_longer.new.disk) c.in-Some.is (c.requires.goes_on tells).memory (cut tells))
    c.cut_longer.ensures.cut

pub returns-in-Some-clause-crash : goal.returns-in-Some-clause-crash
returns-in-Some-clause-crash g c =
    let session = c.args.self.now in
    passes_by c.cut_longer.ensures.crash (λ first second left step.
    let memory = memory_left (journal_of_session session) (checkpoint_of_session session) c.requires.settled first left (c.requires.goes_on (g.met.D.Disk.told c.args.disk.now first left)).memory in
    trims_step (journal_of_session session) c.in-Some.journal (checkpoint_of_session session) first second c.in-Some.is memory step)

pub returns-in-Some-clause-seen : goal.returns-in-Some-clause-seen
returns-in-Some-clause-seen g c tells =
    let session = c.args.self.now in
    let seen = g.D.Disk.meaning.images.seen in
    trims_step (journal_of_session session) c.in-Some.journal (checkpoint_of_session session) (seen c.args.disk.now) (seen c.cut_longer.new.disk) c.in-Some.is (c.requires.goes_on tells).memory (c.cut_longer.ensures.begun tells)

pub returns-in-None-clause-crash : goal.returns-in-None-clause-crash
returns-in-None-clause-crash g c =
    let session = c.args.self.now in
    passes_by (passes_none c.args.disk.now) (λ first second left same.
    let memory = memory_left (journal_of_session session) (checkpoint_of_session session) c.requires.settled first left (c.requires.goes_on (g.met.D.Disk.told c.args.disk.now first left)).memory in
    trims_idle (journal_of_session session) (checkpoint_of_session session) first second c.in-None.is memory same)
