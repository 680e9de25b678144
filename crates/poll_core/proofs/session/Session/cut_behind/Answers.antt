use Rattle.std.proofs.Common.{◌≤◌, length, sym, ap, ◌∙◌, arith}
use Rattle.outside.proofs.Passing.{passes_then}
use Rattle.outside.specs.declared.disk.DiskFile.TheVariants.{Output}
use Rattle.poll_core.proofs.CallLemmas.{calls_then}
use Rattle.poll_core.proofs.DiskLemmas.{reopens_trimmed, reopens_cut, left_by_cut, stands_on}
use Rattle.poll_core.proofs.session.Session.cut_behind.Goals as goal
use Rattle.poll_core.specs.SessionParts.{kept_of}

pub returns-in_err-cut_longer-clause-crash : goal.returns-in_err-cut_longer-clause-crash
returns-in_err-cut_longer-clause-crash g c =
    let size = kept_of c.args.self.now in
    passes_then c.cut_slot.ensures.crash c.cut_longer.ensures.crash (reopens_trimmed size) (reopens_cut size)

pub returns-in_err-cut_longer-clause-seen : goal.returns-in_err-cut_longer-clause-seen
returns-in_err-cut_longer-clause-seen g c tells =
    let seen = g.D.Disk.meaning.images.seen in
    reopens_cut (kept_of c.args.self.now) (seen c.args.disk.now) (seen c.cut_slot.new.disk) (seen c.cut_longer.new.disk) (c.cut_slot.ensures.seen tells)
    (c.cut_longer.ensures.begun (c.cut_slot.ensures.calls.terms.tells ∙ tells))

pub returns-in_err-cut_longer-clause-calls : goal.returns-in_err-cut_longer-clause-calls
returns-in_err-cut_longer-clause-calls g c = calls_then 2 2 4 (omega arith) c.cut_slot.ensures.calls c.cut_longer.ensures.calls

pub returns-clause-stands : goal.returns-clause-stands
returns-clause-stands g c =
    let session = c.args.self.now in
    let images = g.D.Disk.meaning.images in
    let old = c.args.disk.now in
    let mid = c.cut_slot.new.disk in
    let new = c.cut_longer.new.disk in
    stands_on session c.in_ok-cut_longer.ensures.settled (λ image left.
    let tells_mid = c.cut_longer.ensures.calls.terms.tells in
    let tells_old = c.cut_slot.ensures.calls.terms.tells in
    let told = g.met.D.Disk.told new image left in
    let mid_tells = sym tells_mid ∙ told in
    let old_tells = sym tells_old ∙ mid_tells in
    let enough : kept_of session ≤ length (images.seen mid Output) = omega (arith, (c.requires.goes_on old_tells).long_enough, ap length (c.cut_slot.ensures.seen old_tells).output) in
    left_by_cut session (images.seen mid) (images.seen new) (c.in_ok-cut_slot.ensures.ends old_tells) enough (c.in_ok-cut_longer.ensures.cut mid_tells))

pub returns-clause-crash : goal.returns-clause-crash
returns-clause-crash g c =
    let size = kept_of c.args.self.now in
    passes_then c.cut_slot.ensures.crash c.cut_longer.ensures.crash (reopens_trimmed size) (reopens_cut size)

pub returns-clause-seen : goal.returns-clause-seen
returns-clause-seen g c tells =
    let seen = g.D.Disk.meaning.images.seen in
    reopens_cut (kept_of c.args.self.now) (seen c.args.disk.now) (seen c.cut_slot.new.disk) (seen c.cut_longer.new.disk) (c.cut_slot.ensures.seen tells)
    (c.cut_longer.ensures.begun (c.cut_slot.ensures.calls.terms.tells ∙ tells))

pub returns-clause-calls : goal.returns-clause-calls
returns-clause-calls g c = calls_then 2 2 4 (omega arith) c.cut_slot.ensures.calls c.cut_longer.ensures.calls
