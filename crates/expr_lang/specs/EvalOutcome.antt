-- What `eval` answers.
use Rattle.std.specs.Prelude.{◌≡◌, ℕ, true, false, Result, Ok, Err, ⊤}
use Rattle.entry_model.specs.Datum.{Datum, boolean}
use Rattle.entry_model.specs.LogRecord.{LogRecord}
use Rattle.expr_lang.specs.Meaning.{meaning, then_with}
use Rattle.expr_lang.specs.Tree.{Tree}
use Rattle.expr_lang.specs.declared.eval.Answer.{Answer}
use Rattle.expr_lang.specs.declared.eval.Answer.TheVariants as answer
use Rattle.expr_lang.specs.declared.eval.ExprFault.{ExprFault}
use Rattle.expr_lang.specs.declared.eval.ExprFault.TheVariants.{WrongKind, Memory}

abbrev pub answer_of : Datum → Answer
answer_of (boolean true) = answer.True
answer_of (boolean false) = answer.False
answer_of _ = answer.Other

-- the answer, or the place of a wrong kind
abbrev pub answers : Tree → LogRecord → Result Answer ℕ
answers tree entry = then_with (meaning tree entry) (λ value. Ok (answer_of value))

-- the value is what is given
abbrev pub Gives : {A : Type 0} → Result A ℕ → A → Type 0
Gives given value = given ≡ Ok value

-- a wrong kind exactly at the place that is given; want of memory comes anywhere
abbrev pub Refuses : {A : Type 0} → Result A ℕ → ExprFault → Type 0
Refuses given (WrongKind at) = given ≡ Err at
Refuses given Memory = ⊤
