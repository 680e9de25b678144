use Rattle.std.proofs.Common.{◌≡◌, sym, ◌∙◌}
use Rattle.poll_core.proofs.AdoptDisk.{may_by_reopens, own_journal, still_adopted}
use Rattle.poll_core.proofs.DifferLemmas.{not_same}
use Rattle.poll_core.proofs.session.Session.take_up.Goals as goal
use Rattle.poll_core.specs.SessionParts.{limit_of, settings_of_session}

pub take_up_other-requires-clause-other : goal.take_up_other-requires-clause-other
take_up_other-requires-clause-other g c = λ same. not_same _ _ _ c.in-Some.ensures.differs (c.last_text.ensures ∙ same)

pub returns-in_err-cut_behind-in-None-clause-crash : goal.returns-in_err-cut_behind-in-None-clause-crash
returns-in_err-cut_behind-in-None-clause-crash g c = may_by_reopens {images = g.D.Disk.meaning.images} (λ disk image left. g.met.D.Disk.told disk image left) c.args.settings.now (limit_of c.args.self.now) c.cut_behind.ensures.crash

pub returns-in_ok-cut_behind-in-None-clause-crash : goal.returns-in_ok-cut_behind-in-None-clause-crash
returns-in_ok-cut_behind-in-None-clause-crash g c = may_by_reopens {images = g.D.Disk.meaning.images} (λ disk image left. g.met.D.Disk.told disk image left) c.args.settings.now (limit_of c.args.self.now) c.cut_behind.ensures.crash

pub returns-in_ok-cut_behind-in-None-clause-adopted : goal.returns-in_ok-cut_behind-in-None-clause-adopted
returns-in_ok-cut_behind-in-None-clause-adopted g c =
    let session = c.args.self.now in
    let same : settings_of_session session ≡ c.args.settings.now = sym c.last_text.ensures ∙ c.in-None.ensures.same in
    still_adopted {images = g.D.Disk.meaning.images} (λ disk image left. g.met.D.Disk.told disk image left) session (own_journal session c.requires.stood) c.requires.settled c.requires.goes_on c.cut_behind.ensures.crash c.in_ok-cut_behind-in-None.ensures.stands
    (λ image left. sym c.cut_behind.ensures.calls.terms.tells ∙ g.met.D.Disk.told c.cut_behind.new.disk image left) c.args.settings.now c.as_it_is.result same
    (record { rows = c.as_it_is.ensures.rows; lines = c.as_it_is.ensures.lines; eras = c.as_it_is.ensures.eras; output = c.as_it_is.ensures.output })

pub returns-in-Some-clause-in_force : goal.returns-in-Some-clause-in_force
returns-in-Some-clause-in_force g c = λ same. absurd (not_same _ _ _ c.in-Some.ensures.differs (c.last_text.ensures ∙ same))
