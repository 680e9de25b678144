use Rattle.std.proofs.Common.{ℕ, List, subst, ◌∙◌}
use Rattle.std.proofs.lemmas.Result.{err_from_is_err_and}
use Rattle.file_pass.specs.Full.{line_of}
use Rattle.otlp_json.specs.IsOneLine.{IsOneLine}
use Rattle.part_closing.proofs.ClosingLemmas.{some_bytes}
use Rattle.poll_core.proofs.AdoptDisk.{own_journal}
use Rattle.poll_core.proofs.AdoptRefusals.{barred_late, barred_unadopted, no_room_late, no_room_unadopted}
use Rattle.poll_core.proofs.AdoptWhole.{adoption_is}
use Rattle.poll_core.proofs.session.Session.adoption.Goals as goal
use Rattle.poll_core.specs.Adoption.{HasNoRoom, HasRoom}
use Rattle.standing.specs.Marks.{Mark}

pub returns-in_err-check_settings-clause-late : goal.returns-in_err-check_settings-clause-late
returns-in_err-check_settings-clause-late c =
    let p = err_from_is_err_and c.from_residual.result c.from_residual.ensures.1 in
    rw (p.1, p.2) (barred_late c.args.self.now c.args.next.now _ c.in_err-check_settings.ensures.barred)

pub returns-in_err-check_settings-clause-of_kept : goal.returns-in_err-check_settings-clause-of_kept
returns-in_err-check_settings-clause-of_kept c =
    let p = err_from_is_err_and c.from_residual.result c.from_residual.ensures.1 in
    rw (p.1, p.2) (λ of_kept image goes_on.
    barred_unadopted c.args.self.now (own_journal c.args.self.now c.requires.stood) c.requires.session c.args.settings.now c.args.next.now c.requires.made c.requires.other image goes_on _ c.in_err-check_settings.ensures.barred)

pub returns-in_err-check_room-clause-late : goal.returns-in_err-check_room-clause-late
returns-in_err-check_room-clause-late c =
    let p = err_from_is_err_and c.from_residual-in_err-check_room.result c.from_residual-in_err-check_room.ensures.1 in
    rw (p.1, p.2) (no_room_late c.args.self.now _ _ c.in_err-check_room.ensures.none)

pub returns-in_err-check_room-clause-of_kept : goal.returns-in_err-check_room-clause-of_kept
returns-in_err-check_room-clause-of_kept c =
    let p = err_from_is_err_and c.from_residual-in_err-check_room.result c.from_residual-in_err-check_room.ensures.1 in
    let one_line : (mark : Mark) → IsOneLine (line_of mark) = λ mark. c.line_is_one_line.ensures.one mark.id mark.number mark.observed mark.entry in
    rw (p.1, p.2) (λ of_kept image goes_on.
    no_room_unadopted c.args.self.now (own_journal c.args.self.now c.requires.stood) c.requires.session c.args.settings.now c.args.next.now c.requires.made c.requires.other image goes_on (some_bytes one_line)
    c.in_ok-check_settings.ensures.ok c.in_ok-closing.closing c.in_ok-closing.ensures _ (subst (λ (lines : List ℕ). HasNoRoom c.args.self.now lines c.in_err-check_room.field-0.0) c.deref.ensures.value c.in_err-check_room.ensures.none))

pub returns-clause-ok : goal.returns-clause-ok
returns-clause-ok c =
    let one_line : (mark : Mark) → IsOneLine (line_of mark) = λ mark. c.line_is_one_line.ensures.one mark.id mark.number mark.observed mark.entry in
    adoption_is one_line c.args.self.now c.requires.session c.args.settings.now c.args.next.now c.requires.made
    c.in_ok-check_settings.ensures.ok c.in_ok-closing.closing c.in_ok-closing.ensures (subst (λ (lines : List ℕ). HasRoom c.args.self.now lines) c.deref.ensures.value c.in_ok-check_room.ensures.ok) c.adoption_of.result
    (record {
      eras = c.adoption_of.ensures.eras ∙ c.in_ok-eras.ensures;
      output = c.adoption_of.ensures.output;
      observed = c.adoption_of.ensures.observed;
      next_id = c.adoption_of.ensures.next_id;
      rows = c.adoption_of.ensures.rows;
      lines = c.adoption_of.ensures.lines;
      count = c.adoption_of.ensures.count;
    })
