-- The text of an entry that a line of a round gives is the line.
use Rattle.std.proofs.Common.{◌≡◌, ℕ, ◌+◌, ◌-◌, ◌<◌, ◌≤◌, ◌^◌, ◌==◌, List, [], ◌∷◌, ◌++◌, length, take, drop, get_or, false, refl, sym, ap, ◌∙◌, arith, length-append}
use Rattle.std.specs.Prelude.{codes, decimal}
use Rattle.std.specs.Char.{digit_value}
use Rattle.std.specs.List.{suffix_len}
use Rattle.std.specs.Str.{IsAscii}
use Rattle.std.specs.Str.Lossy.{utf8_lossy}
use Rattle.std.proofs.lemmas.Bool.{ne_eqb}
use Rattle.std.proofs.lemmas.Fmt.{decimal_nonempty, IsAscii-decimal}
use Rattle.std.proofs.lemmas.List.{get_or-append-add, take_all}
use Rattle.std.proofs.lemmas.List.Sums.{suffix_len_is}
use Rattle.std.proofs.lemmas.Str.{IsAscii-append, IsUtf8-from_ascii, utf8_lossy-IsUtf8}
use Rattle.std.proofs.lemmas.Str.Ascii.{IsAscii-cons, IsAscii-nil}
use Rattle.demo_run.specs.Script.{log_of}
use Rattle.demo_run.proofs.Digits.{avoids_at, number_avoids}
use Rattle.demo_run.proofs.Lines.{text_of_round}
use Rattle.line_splitter.proofs.EntryLemmas.{entry_text_is}
use Rattle.line_splitter.proofs.TrimLemmas.{trim_end-cut, trim_start-cut}
use Rattle.line_splitter.specs.EntryText.{entry_text}
use Rattle.line_splitter.specs.Trim.{is_blank, trim_end, trim_start}

digit_is_no_blank : (number k : ℕ) → number < 2 ^ 64 → k < length (decimal number) → is_blank (get_or (decimal number) k 0) ≡ false
digit_is_no_blank number k few inside =
    let byte : ℕ = get_or (decimal number) k 0 in
    let differs : (other : ℕ) → 10 ≤ digit_value other → (byte == other) ≡ false =
    λ other past. ne_eqb byte other (avoids_at other (decimal number) (number_avoids other number few past) k inside) in
    rw (differs 32 (omega arith), differs 9 (omega arith), differs 13 (omega arith), differs 10 (omega arith)) refl

last_is_no_blank : (round : ℕ) → is_blank (get_or (text_of_round round) (length (text_of_round round) - 1) 0) ≡ false
last_is_no_blank round =
    let front : List ℕ = 114 ∷ (decimal round ++ codes " k") in
    let log : List ℕ = decimal (log_of round) in
    let few : log_of round < 2 ^ 64 = omega arith in
    let some : 0 < length log = decimal_nonempty (log_of round) few in
    let place : length (text_of_round round) - 1 ≡ length front + (length log - 1) = omega (arith, some, length-append (decimal round ++ codes " k") log) in
    ap (λ (k : ℕ). is_blank (get_or (text_of_round round) k 0)) place
    ∙ ap is_blank (get_or-append-add front log (length log - 1) 0)
    ∙ digit_is_no_blank (log_of round) (length log - 1) few (omega (arith, some))

ascii_text : (round : ℕ) → round ≤ 1000 → IsAscii (text_of_round round)
ascii_text round few =
    IsAscii-cons 114 ((decimal round ++ codes " k") ++ decimal (log_of round)) (omega arith)
    (IsAscii-append (decimal round ++ codes " k") (decimal (log_of round))
    (IsAscii-append (decimal round) (codes " k") (IsAscii-decimal round (omega (arith, few))) (IsAscii-cons 32 (107 ∷ []) (omega arith) (IsAscii-cons 107 [] (omega arith) IsAscii-nil)))
    (IsAscii-decimal (log_of round) (omega arith)))

pub text_stays : (round : ℕ) → round ≤ 1000 → entry_text false false (text_of_round round) ≡ text_of_round round
text_stays round few =
    let text : List ℕ = text_of_round round in
    let start : trim_start false text ≡ 0 = trim_start-cut text in
    let none : suffix_len is_blank text ≡ 0 =
    suffix_len_is is_blank text (length text) 0 (omega arith) (λ k late inside. absurd (omega (arith, late, inside))) (λ some. last_is_no_blank round) ∙ (omega arith) in
    let end : trim_end false false text ≡ length text =
    trim_end-cut false text ∙ ap (λ (n : ℕ). length text - suffix_len is_blank (drop n text)) start ∙ ap (λ (n : ℕ). length text - n) none ∙ (omega arith) in
    let whole : take (length text - 0) text ≡ text = take_all (length text - 0) text (omega arith) in
    entry_text_is false false text 0 (length text) (sym start) (sym end)
    ∙ ap utf8_lossy whole
    ∙ utf8_lossy-IsUtf8 text (IsUtf8-from_ascii text (ascii_text round few))
