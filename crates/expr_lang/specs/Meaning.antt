-- What an expression gives for an entry: a value, or the place of an operator that doesn't take values of the kinds it
-- is given.
use Rattle.std.specs.Prelude.{ℕ, pos, Bool, true, false, not, List, Option, None, Some, Result, Ok, Err}
use Rattle.std.specs.Option.{unwrap_or}
use Rattle.entry_model.specs.Datum.{Datum, null, boolean, int, text}
use Rattle.entry_model.specs.LogRecord.{LogRecord}
use Rattle.field_paths.specs.ValueAt.{datum_at}
use Rattle.expr_lang.specs.Kinds.{compared}
use Rattle.expr_lang.specs.Patterns.{is_found}
use Rattle.expr_lang.specs.Tree.{Tree, constant, path, severity_number, severity_text, negation, conjunction, disjunction, comparison, matching}

abbrev pub Given : Type 0
Given = Result Datum ℕ

-- goes on with a value
abbrev pub then_with : {A B : Type 0} → Result A ℕ → (A → Result B ℕ) → Result B ℕ
then_with (Ok value) go = go value
then_with (Err at) go = Err at

-- the truth of a Bool
abbrev pub truth : ℕ → Datum → Result Bool ℕ
truth at (boolean b) = Ok b
truth at _ = Err at

abbrev pub truth_given : Result Bool ℕ → Given
truth_given (Ok b) = Ok (boolean b)
truth_given (Err at) = Err at

-- the right side isn't looked at where the left side decides
abbrev pub and_then : Bool → Result Bool ℕ → Result Bool ℕ
and_then true right = right
and_then false right = Ok false

abbrev pub or_else : Bool → Result Bool ℕ → Result Bool ℕ
or_else true right = Ok true
or_else false right = right

abbrev pub given_or_wrong : ℕ → Option Bool → Given
given_or_wrong at (Some b) = Ok (boolean b)
given_or_wrong at None = Err at

abbrev pub found_in : List ℕ → Datum → Option Bool
found_in pattern (text bytes) = Some (is_found pattern bytes)
found_in pattern _ = None

abbrev pub meaning : Tree → LogRecord → Given
meaning (constant value) entry = Ok value
meaning (path place) entry = Ok (unwrap_or (datum_at place entry) null)
meaning severity_number entry = Ok (int (pos entry.severity))
meaning severity_text entry = Ok (text entry.severity_text)
meaning (negation at operand) entry =
    truth_given (then_with (then_with (meaning operand entry) (truth at)) (λ b. Ok (not b)))
meaning (conjunction at left right) entry =
    truth_given (then_with (then_with (meaning left entry) (truth at)) (λ b. and_then b (then_with (meaning right entry) (truth at))))
meaning (disjunction at left right) entry =
    truth_given (then_with (then_with (meaning left entry) (truth at)) (λ b. or_else b (then_with (meaning right entry) (truth at))))
meaning (comparison operator at left right) entry =
    then_with (meaning left entry) (λ a. then_with (meaning right entry) (λ b. given_or_wrong at (compared operator a b)))
meaning (matching at operand pattern) entry =
    then_with (meaning operand entry) (λ value. given_or_wrong at (found_in pattern value))
