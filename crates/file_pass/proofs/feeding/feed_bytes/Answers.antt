use Rattle.std.proofs.Common.{◌+◌, ℕ, List, refl, sym, ap, ◌∙◌, arith}
use Rattle.pipeline.specs.RowStates.{IsStateOfRow}
use Rattle.standing.specs.AreRules.{AreRules}
use Rattle.standing.specs.Rows.{Row}
use Rattle.file_pass.specs.Fed.{feeding_row, poll_of, rules_in}
use Rattle.file_pass.proofs.FeedingOn.{same_row}
use Rattle.file_pass.proofs.feeding.feed_bytes.Goals as goal

pub overflow_add-feeding : goal.overflow_add-feeding
overflow_add-feeding c =
    let text = c.args.setup.now.settings.now in
    let bytes : List ℕ = c.args.feeding.now.carried.items in
    let laws : AreRules (rules_in c.args.setup.now) = c.a_pipeline_is_rules.ensures text c.requires.limits in
    let used = rw c.deref.ensures.value at c.in_ok-taken.ensures.used in
    omega (arith, c.requires.size, used, c.a_row_is_fed_by_the_rules.ensures.used text bytes, laws.tokens.within bytes)

pub returns-clause-fed : goal.returns-clause-fed
returns-clause-fed c =
    let text = c.args.setup.now.settings.now in
    let bytes : List ℕ = c.args.feeding.now.carried.items in
    let row : Row = feeding_row c.args.feeding.now in
    let state : IsStateOfRow c.args.setup.now.pipeline.now row c.args.feeding.now.state = record { states = record { kinds = c.requires.states; told = refl }; records_are = refl; lines_are = refl } in
    let fed = rw (c.deref.ensures.value, c.as_str.ensures) at c.in_ok-taken.ensures.fed in
    let used = rw c.deref.ensures.value at c.in_ok-taken.ensures.used in
    let takes = c.a_row_is_fed_by_the_rules.ensures.fed text bytes (poll_of c.args.setup.now) row c.args.feeding.now.state c.feed_behind.new.state c.args.lines.now.items c.feed_behind.new.out.items refl state fed in
    same_row row (ap (λ (n : ℕ). c.args.feeding.now.offset + n) (used ∙ sym (c.a_row_is_fed_by_the_rules.ensures.used text bytes))) takes.state.records_are takes.state.lines_are (sym takes.state.states.told)

pub returns-clause-lines : goal.returns-clause-lines
returns-clause-lines c =
    let text = c.args.setup.now.settings.now in
    let bytes : List ℕ = c.args.feeding.now.carried.items in
    let row : Row = feeding_row c.args.feeding.now in
    let state : IsStateOfRow c.args.setup.now.pipeline.now row c.args.feeding.now.state = record { states = record { kinds = c.requires.states; told = refl }; records_are = refl; lines_are = refl } in
    let fed = rw (c.deref.ensures.value, c.as_str.ensures) at c.in_ok-taken.ensures.fed in
    let takes = c.a_row_is_fed_by_the_rules.ensures.fed text bytes (poll_of c.args.setup.now) row c.args.feeding.now.state c.feed_behind.new.state c.args.lines.now.items c.feed_behind.new.out.items refl state fed in
    rw c.requires.none at takes.written

pub feed_behind-requires-clause-searched : goal.feed_behind-requires-clause-searched
feed_behind-requires-clause-searched c = rw c.deref.ensures.value c.requires.searched

pub returns-clause-searched : goal.returns-clause-searched
returns-clause-searched c = rw c.deref.ensures.value at c.in_ok-taken.ensures.searched
