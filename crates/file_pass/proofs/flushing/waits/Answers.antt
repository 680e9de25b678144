use Rattle.std.proofs.Common.{◌∙◌, ◌==◌, refl, sym, ap, not, length, eqb-true}
use Rattle.std.specs.Str.{bytes_eq}
use Rattle.pipeline.specs.RowStates.{IsStateOfRow}
use Rattle.standing.specs.Rows.{Row}
use Rattle.file_pass.specs.Fed.{feeding_row, rules_in}
use Rattle.file_pass.proofs.FlushLemmas.{bytes_wait, groups_wait, some_of}
use Rattle.file_pass.proofs.flushing.waits.Goals as goal

pub returns-then-not-is_empty : goal.returns-then-not-is_empty
returns-then-not-is_empty c =
    let feeding = c.args.feeding.now in
    bytes_wait feeding.offset (length feeding.carried.items) (not (bytes_eq (feeding_row feeding).state (rules_in c.args.setup.now).fresh)) (some_of feeding.carried.items (ap (λ n. n == 0) (sym feeding.carried.ok.0) ∙ sym c.is_empty.ensures ∙ c.if-not-is_empty.true))

pub returns : goal.returns
returns c =
    let feeding = c.args.feeding.now in
    let row : Row = feeding_row feeding in
    let state : IsStateOfRow c.args.setup.now.pipeline.now row feeding.state = record { states = record { kinds = c.requires; told = refl }; records_are = refl; lines_are = refl } in
    let held = c.is_fresh.ensures ∙ sym (c.a_row_is_flushed_by_the_rules.ensures.groups c.args.setup.now.settings.now row feeding.state state) in
    ap not held ∙ groups_wait feeding.offset (length feeding.carried.items) (not (bytes_eq row.state (rules_in c.args.setup.now).fresh)) (eqb-true (length feeding.carried.items) 0 (ap (λ n. n == 0) (sym feeding.carried.ok.0) ∙ sym c.is_empty.ensures ∙ c.if-not-is_empty.false))
