use Rattle.std.proofs.Common.{◌∙◌, sym, ap, length, List}
use Rattle.std.proofs.lemmas.List.{length-set}
use Rattle.file_tracker.specs.Places.{with_front}
use Rattle.file_tracker.specs.declared.row.Row.{Row}
use Rattle.file_pass.specs.Fed.{rules_in}
use Rattle.file_pass.proofs.SaneLemmas.{sane_found, sane_settled}
use Rattle.file_pass.proofs.settling.settle.Goals as goal

pub returns-in_ok-grow-in-Some-clause-sane : goal.returns-in_ok-grow-in-Some-clause-sane
returns-in_ok-grow-in-Some-clause-sane c =
    let known = c.in_ok-grow-in-Some.ensures.known in
    sane_found c.args.setup.now c.args.seen.now c.args.taking.now c.grow.new.taking c.requires.sane c.requires.size c.requires.path c.requires.front
    (c.in_ok-grow-in-Some.ensures.long ∙ c.requires.sane.flags ∙ sym (ap (λ (rows : List Row). length rows) known.grown ∙ length-set c.args.taking.now.tracker c.in-Some.place (with_front c.args.seen.now.front.now known.row)))
    c.in_ok-grow-in-Some.ensures.end c.in_ok-grow-in-Some.ensures.counts c.in-Some.place known

pub returns-in_ok-place-in-None-clause-sane : goal.returns-in_ok-place-in-None-clause-sane
returns-in_ok-place-in-None-clause-sane c =
    sane_settled c.args.setup.now c.args.seen.now c.args.taking.now c.admit.new.taking c.requires.sane c.requires.size c.requires.path c.requires.front
    c.in_ok-place-in-None.ensures.long c.in_ok-place-in-None.ensures.end c.in_ok-place-in-None.ensures.counts c.in_ok-place-in-None.place c.in_ok-place-in-None.ensures.fits c.in_ok-place-in-None.ensures.settles

pub returns-in_ok-grow-in-Some-clause-flags : goal.returns-in_ok-grow-in-Some-clause-flags
returns-in_ok-grow-in-Some-clause-flags c = c.in_ok-grow-in-Some.ensures.flags (rules_in c.args.setup.now)
