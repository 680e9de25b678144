use Rattle.std.proofs.Common.{length, refl, sym, ◌∙◌}
use Rattle.std.proofs.lemmas.Result.{err_from_is_err_and}
use Rattle.poll_core.proofs.AdoptDisk.{HasOwnJournal, IsOwnAdoption, may_by_reopens, may_by_steps, own_journal, put_adopted}
use Rattle.poll_core.proofs.AdoptWhole.{own_adoption}
use Rattle.poll_core.proofs.session.Session.take_up_other.Goals as goal
use Rattle.poll_core.specs.Adoption.{lines_held}
use Rattle.poll_core.specs.SessionParts.{limit_of}
use Rattle.poll_core.specs.declared.adopted.Adopted.{Adopted}

pub returns-in_err-cut_behind-clause-crash : goal.returns-in_err-cut_behind-clause-crash
returns-in_err-cut_behind-clause-crash g c = may_by_reopens {images = g.D.Disk.meaning.images} (λ disk image left. g.met.D.Disk.told disk image left) c.args.settings.now (limit_of c.args.self.now) c.cut_behind.ensures.crash

pub returns-in_err-put_adoption-clause-late : goal.returns-in_err-put_adoption-clause-late
returns-in_err-put_adoption-clause-late g c =
    let p = err_from_is_err_and c.from_residual-in_err-put_adoption.result c.from_residual-in_err-put_adoption.ensures.1 in
    rw (p.1, p.2) c.in_err-put_adoption.ensures.early

pub returns-in_err-put_adoption-clause-crash : goal.returns-in_err-put_adoption-clause-crash
returns-in_err-put_adoption-clause-crash g c =
    let session = c.args.self.now in
    let own : HasOwnJournal session = own_journal session c.requires.stood in
    let ready = c.in_ok-adoption.ensures.ok in
    let adoption = c.in_ok-adoption.adoption in
    let adopted : Adopted = record { rows = length adoption.checkpoint.rows; lines = adoption.count; eras = length adoption.checkpoint.eras; output = adoption.checkpoint.output_length } in
    let whole : IsOwnAdoption session own c.args.settings.now adoption.checkpoint (lines_held session) adopted =
    own_adoption session own c.requires.session c.args.settings.now c.args.next.now c.requires.made c.requires.other adoption ready adopted (record { rows = refl; lines = refl; eras = refl; output = refl }) in
    may_by_steps {images = g.D.Disk.meaning.images} (λ disk image left. g.met.D.Disk.told disk image left) session own c.requires.settled c.requires.goes_on c.cut_behind.ensures.crash c.args.settings.now
    adoption.checkpoint (lines_held session) adopted whole c.in_ok-cut_behind.ensures.stands (c.put_adoption.ensures.crash (lines_held session) ready.lines_are)

pub returns-clause-crash : goal.returns-clause-crash
returns-clause-crash g c =
    let session = c.args.self.now in
    let own : HasOwnJournal session = own_journal session c.requires.stood in
    let ready = c.in_ok-adoption.ensures.ok in
    let adoption = c.in_ok-adoption.adoption in
    let adopted : Adopted = record { rows = length adoption.checkpoint.rows; lines = adoption.count; eras = length adoption.checkpoint.eras; output = adoption.checkpoint.output_length } in
    let whole : IsOwnAdoption session own c.args.settings.now adoption.checkpoint (lines_held session) adopted =
    own_adoption session own c.requires.session c.args.settings.now c.args.next.now c.requires.made c.requires.other adoption ready adopted (record { rows = refl; lines = refl; eras = refl; output = refl }) in
    may_by_steps {images = g.D.Disk.meaning.images} (λ disk image left. g.met.D.Disk.told disk image left) session own c.requires.settled c.requires.goes_on c.cut_behind.ensures.crash c.args.settings.now
    adoption.checkpoint (lines_held session) adopted whole c.in_ok-cut_behind.ensures.stands (c.put_adoption.ensures.crash (lines_held session) ready.lines_are)

pub returns-clause-adopted : goal.returns-clause-adopted
returns-clause-adopted g c =
    let session = c.args.self.now in
    let images = g.D.Disk.meaning.images in
    let own : HasOwnJournal session = own_journal session c.requires.stood in
    let ready = c.in_ok-adoption.ensures.ok in
    let adoption = c.in_ok-adoption.adoption in
    let adopted : Adopted = c.told.result in
    let whole : IsOwnAdoption session own c.args.settings.now adoption.checkpoint (lines_held session) adopted =
    own_adoption session own c.requires.session c.args.settings.now c.args.next.now c.requires.made c.requires.other adoption ready adopted
    (record { rows = c.told.ensures.rows; lines = c.told.ensures.lines; eras = c.told.ensures.eras; output = c.told.ensures.output }) in
    let cut = c.cut_behind.ensures.calls.terms.tells in
    put_adopted {images = images} (λ disk image left. g.met.D.Disk.told disk image left) session own c.requires.goes_on c.cut_behind.ensures.seen c.in_ok-cut_behind.ensures.stands
    (λ tells. g.met.D.Disk.shown c.cut_behind.new.disk (cut ∙ tells)) (λ image left. sym (c.put_adoption.ensures.terms.tells ∙ cut) ∙ g.met.D.Disk.told c.put_adoption.new.disk image left)
    c.args.settings.now adoption (lines_held session) adopted ready.lines_are whole c.in_ok-put_adoption.ensures.put
