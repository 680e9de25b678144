use Rattle.std.proofs.Common.{◌≡◌, ◌+◌, ◌++◌, true, false, decimal, length, sym, ◌∙◌}
use Rattle.std.proofs.lemmas.Result.{IfOk-weaker}
use Rattle.settings_text.specs.Ids.{is_taken, numbered, default_id}
use Rattle.settings_text.proofs.Numbers.{next_number, found_number, last_number}
use Rattle.settings_text.proofs.ids.default_id.Goals as goal

pub returns-then-not-is_taken-2 : goal.returns-then-not-is_taken-2
unfolding default_id
returns-then-not-is_taken-2 c =
    let name = c.args.name.now in
    let taken = c.args.taken.now in
    let tried = c.loop-tried.tried in
    let first : is_taken name taken ≡ true = sym c.is_taken.ensures ∙ c.if-not-is_taken.false in
    let id : c.in_ok-id.id ≡ name ++ decimal (tried + 1) = c.in_ok-id.ensures in
    let free : is_taken (name ++ decimal (tried + 1)) taken ≡ false = rw (← id, ← c.as_str.ensures) (sym c.is_taken-in-loop-tried.ensures ∙ c.if-not-is_taken-2.true) in
    rw (id, first) (found_number (length taken) tried name taken (numbered (length taken) 1 name taken) c.loop-tried-test.true free c.loop-tried.invariant)

pub loop-tried-preserved : goal.loop-tried-preserved
loop-tried-preserved c =
    let name = c.args.name.now in
    let taken = c.args.taken.now in
    let tried = c.loop-tried.tried in
    let id : c.in_ok-id.id ≡ name ++ decimal (tried + 1) = c.in_ok-id.ensures in
    let is : is_taken (name ++ decimal (tried + 1)) taken ≡ true = rw (← id, ← c.as_str.ensures) (sym c.is_taken-in-loop-tried.ensures ∙ c.if-not-is_taken-2.false) in
    next_number (length taken) tried name taken (numbered (length taken) 1 name taken) c.loop-tried-test.true is c.loop-tried.invariant

pub returns : goal.returns
unfolding default_id
returns c =
    let name = c.args.name.now in
    let taken = c.args.taken.now in
    let first : is_taken name taken ≡ true = sym c.is_taken.ensures ∙ c.if-not-is_taken.false in
    let last = last_number (length taken) c.loop-tried.tried name taken (numbered (length taken) 1 name taken) c.loop-tried-test.false c.loop-tried.auto.tried-end c.loop-tried.invariant in
    rw first (IfOk-weaker c.with_number-2.result (λ id. id ≡ name ++ decimal (length taken + 1)) _ (λ id e. e ∙ last) c.with_number-2.ensures)
