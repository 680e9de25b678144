-- Which commands words spell.
use Rattle.std.proofs.Common.{◌≡◌, ◌≤◌, ◌+◌, ℕ, List, [], Option, Some, None, true, false, refl, ap, sym, ◌∙◌, arith, get_or, true≢false}
use Rattle.std.specs.List.{list_any}
use Rattle.std.specs.Str.Parse.{starts_with_minus}
use Rattle.std.specs.Fmt.{decimal}
use Rattle.std.proofs.lemmas.Fmt.{decimal_injective, first_decimal}
use Rattle.std.proofs.lemmas.Bool.{ne_eqb}
use Rattle.command_words.specs.IsCommand.{IsCommand}
use Rattle.command_words.specs.Answers.{Answers, IsNoCommand}
use Rattle.command_words.specs.declared.command.Command.{Command}
use Rattle.command_words.specs.declared.command.Command.TheVariants.{Once, Follow, Adopt, Audit, Committed, Pipe, Demo}

-- the sum of the first two letters of the first word, which tells the commands apart
abbrev pub letter : List (List ℕ) → ℕ
letter words = get_or (get_or words 0 []) 0 0 + get_or (get_or words 0 []) 1 0

abbrev pub letter_of : Command → ℕ
letter_of Once = 221
letter_of Follow = 213
letter_of Adopt = 197
letter_of Audit = 214
letter_of Committed = 210
letter_of Pipe = 217
letter_of (Demo rounds) = 201

pub letter_is : (words : List (List ℕ)) (command : Command) → IsCommand words command → letter words ≡ letter_of command
letter_is words Once spelled = ap letter spelled
letter_is words Follow spelled = ap letter spelled
letter_is words Adopt spelled = ap letter spelled
letter_is words Audit spelled = ap letter spelled
letter_is words Committed spelled = ap letter spelled
letter_is words Pipe spelled = ap letter spelled
letter_is words (Demo rounds) spelled = ap letter spelled.2

-- the second word of the words
abbrev second : List (List ℕ) → List ℕ
second words = get_or words 1 []

pub one_command : (words : List (List ℕ)) (a b : Command) → IsCommand words a → IsCommand words b → a ≡ b
one_command words a b p q = go a b p q (sym (letter_is words a p) ∙ letter_is words b q)
  where
    go : (a b : Command) → IsCommand words a → IsCommand words b → letter_of a ≡ letter_of b → a ≡ b
    go Once Once p q same = refl
    go Once Follow p q same = absurd (omega (arith, same))
    go Once Adopt p q same = absurd (omega (arith, same))
    go Once Audit p q same = absurd (omega (arith, same))
    go Once Committed p q same = absurd (omega (arith, same))
    go Once Pipe p q same = absurd (omega (arith, same))
    go Once (Demo n) p q same = absurd (omega (arith, same))
    go Follow Once p q same = absurd (omega (arith, same))
    go Follow Follow p q same = refl
    go Follow Adopt p q same = absurd (omega (arith, same))
    go Follow Audit p q same = absurd (omega (arith, same))
    go Follow Committed p q same = absurd (omega (arith, same))
    go Follow Pipe p q same = absurd (omega (arith, same))
    go Follow (Demo n) p q same = absurd (omega (arith, same))
    go Adopt Once p q same = absurd (omega (arith, same))
    go Adopt Follow p q same = absurd (omega (arith, same))
    go Adopt Adopt p q same = refl
    go Adopt Audit p q same = absurd (omega (arith, same))
    go Adopt Committed p q same = absurd (omega (arith, same))
    go Adopt Pipe p q same = absurd (omega (arith, same))
    go Adopt (Demo n) p q same = absurd (omega (arith, same))
    go Audit Once p q same = absurd (omega (arith, same))
    go Audit Follow p q same = absurd (omega (arith, same))
    go Audit Adopt p q same = absurd (omega (arith, same))
    go Audit Audit p q same = refl
    go Audit Committed p q same = absurd (omega (arith, same))
    go Audit Pipe p q same = absurd (omega (arith, same))
    go Audit (Demo n) p q same = absurd (omega (arith, same))
    go Committed Once p q same = absurd (omega (arith, same))
    go Committed Follow p q same = absurd (omega (arith, same))
    go Committed Adopt p q same = absurd (omega (arith, same))
    go Committed Audit p q same = absurd (omega (arith, same))
    go Committed Committed p q same = refl
    go Committed Pipe p q same = absurd (omega (arith, same))
    go Committed (Demo n) p q same = absurd (omega (arith, same))
    go Pipe Once p q same = absurd (omega (arith, same))
    go Pipe Follow p q same = absurd (omega (arith, same))
    go Pipe Adopt p q same = absurd (omega (arith, same))
    go Pipe Audit p q same = absurd (omega (arith, same))
    go Pipe Committed p q same = absurd (omega (arith, same))
    go Pipe Pipe p q same = refl
    go Pipe (Demo n) p q same = absurd (omega (arith, same))
    go (Demo m) Once p q same = absurd (omega (arith, same))
    go (Demo m) Follow p q same = absurd (omega (arith, same))
    go (Demo m) Adopt p q same = absurd (omega (arith, same))
    go (Demo m) Audit p q same = absurd (omega (arith, same))
    go (Demo m) Committed p q same = absurd (omega (arith, same))
    go (Demo m) Pipe p q same = absurd (omega (arith, same))
    go (Demo m) (Demo n) p q same =
        let rounds : decimal m ≡ decimal n = ap second (sym p.2 ∙ q.2) in
        ap Demo (decimal_injective m n (omega (arith, p.1)) (omega (arith, q.1)) rounds)

pub one_answer : (words : List (List ℕ)) (a b : Option Command) → Answers words a → Answers words b → a ≡ b
one_answer words (Some a) (Some b) p q = ap Some (one_command words a b p q)
one_answer words (Some a) None p q = absurd (q a p)
one_answer words None (Some b) p q = absurd (p b q)
one_answer words None None p q = refl

-- a number begins with no `-`
pub plain_decimal : (n : ℕ) → 1 ≤ n → n ≤ 1000 → starts_with_minus (decimal n) ≡ false
plain_decimal n some few =
    let first = first_decimal n (omega arith) (omega arith) in
    ne_eqb (get_or (decimal n) 0 0) 45 (λ e. omega (arith, first, e))

plain_words : (words : List (List ℕ)) (command : Command) → IsCommand words command → list_any starts_with_minus words ≡ false
plain_words words Once spelled = rw spelled refl
plain_words words Follow spelled = rw spelled refl
plain_words words Adopt spelled = rw spelled refl
plain_words words Audit spelled = rw spelled refl
plain_words words Committed spelled = rw spelled refl
plain_words words Pipe spelled = rw spelled refl
plain_words words (Demo rounds) spelled = rw (spelled.2, plain_decimal rounds spelled.0 spelled.1) refl

-- words with a flag spell none
pub flagged : (words : List (List ℕ)) → list_any starts_with_minus words ≡ true → IsNoCommand words
flagged words flag command spelled = true≢false (sym flag ∙ plain_words words command spelled)
