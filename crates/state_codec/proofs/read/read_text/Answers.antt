use Rattle.std.proofs.Common.{◌≡◌, ◌<◌, ℕ, ◌-◌, List, length, take, drop, Ok, Err, sym, ap, subst, ◌∙◌, arith, min}
use Rattle.std.proofs.lemmas.List.{take_min, take_rest, length-take}
use Rattle.std.specs.Str.{IsUtf8}
use Rattle.std.specs.Str.Lossy.{utf8_valid_len}
use Rattle.state_codec.specs.Reading.{text_fault}
use Rattle.state_codec.proofs.TextLemmas.{text_whole, text_short, text_wrong}
use Rattle.state_codec.proofs.read.read_text.Goals as goal

-- as many bytes as the text has, of those that are there
front_is : (rest : List ℕ) (n m : ℕ) → m ≡ min n (length rest) → take m rest ≡ take n rest
front_is rest n m e = ap (λ (k : ℕ). take k rest) e ∙ take_min n rest

pub returns-then-front-size : goal.returns-then-front-size
returns-then-front-size c =
    let n : ℕ = c.in_ok-size.size in
    let rest : List ℕ = c.in_ok-size.rest.now in
    let front = front_is rest n c.min.result c.min.ensures in
    text_short c.args.bytes.now rest n c.in_ok-size.ensures.exact (omega (arith, length-take c.min.result rest, c.min.ensures)) (subst (λ (bytes : List ℕ). IsUtf8 bytes) front c.in-Ok.ensures.cases.1)

pub returns-in_ok-from_str-in-Ok : goal.returns-in_ok-from_str-in-Ok
returns-in_ok-from_str-in-Ok c =
    let n : ℕ = c.in_ok-size.size in
    let rest : List ℕ = c.in_ok-size.rest.now in
    let front = front_is rest n c.min.result c.min.ensures in
    text_whole c.args.bytes.now rest n c.in_ok-size.ensures.exact (omega (arith, length-take c.min.result rest, c.min.ensures)) (subst (λ (bytes : List ℕ). IsUtf8 bytes) front c.in-Ok.ensures.cases.1)
    ∙ ap (λ (text : List ℕ). Ok (text, drop n rest)) (sym front ∙ sym c.in-Ok.ensures.cases.0 ∙ sym c.in_ok-from_str-in-Ok.ensures)
    ∙ ap (λ (behind : List ℕ). Ok (c.in_ok-from_str-in-Ok.field-0, behind)) (sym (take_rest rest n))

pub returns-in-Err : goal.returns-in-Err
returns-in-Err c =
    let n : ℕ = c.in_ok-size.size in
    let rest : List ℕ = c.in_ok-size.rest.now in
    let front = front_is rest n c.min.result c.min.ensures in
    let wrong = rw c.in-Err.ensures.valid_len at c.in-Err.ensures.cases.1.short in
    text_wrong c.args.bytes.now rest n c.in_ok-size.ensures.exact (subst (λ (bytes : List ℕ). utf8_valid_len bytes < length bytes) front wrong)
    ∙ ap (λ (fault : ℕ). Err (length rest - fault)) (ap (text_fault n) (sym front) ∙ sym c.text_fault-fault.ensures.value)
