-- The first space of a text, as a search of its bytes finds it.
use Rattle.std.proofs.Common.{◌≡◌, ℕ, ◌+◌, ◌-◌, List, [], length, take, drop, get_or, sym, ap, subst, ◌∙◌, Some, None, arith}
use Rattle.std.specs.Prelude.{slice_range}
use Rattle.std.proofs.lemmas.Bool.{eq-eqb, ne_eqb, eqb-true}
use Rattle.std.proofs.lemmas.List.{take_all, drop_all}
use Rattle.std.proofs.lemmas.List.Sums.{position_or_len_is}
use Rattle.std.proofs.lemmas.Str.{IsCharBoundary-after_ascii}
use Rattle.std.specs.List.{position_or_len, before_first, after_first}
use Rattle.std.specs.Str.{IsUtf8, IsCharBoundary}
use Rattle.memchr.specs.Find.{IsFirstByte, is_byte}
use Rattle.container_parser.specs.Words.{is_space}

abbrev Finds : List ℕ → ℕ → Type 0
Finds text at = IsFirstByte (is_byte 32) text (Some at)

abbrev FindsNone : List ℕ → Type 0
FindsNone text = IsFirstByte (is_byte 32) text None

place : (text : List ℕ) (at : ℕ) → Finds text at → position_or_len is_space text ≡ at
place text at found =
    let high = found.0.high in
    position_or_len_is is_space text at 0 (omega arith)
    (λ k low. ne_eqb (get_or text k 0) 32 (λ e. found.0.before k (omega arith) low (eq-eqb (get_or text k 0) 32 e)))
    (λ l. found.1)

no_place : (text : List ℕ) → FindsNone text → position_or_len is_space text ≡ length text
no_place text free =
    position_or_len_is is_space text (length text) 0 (omega arith)
    (λ k low. ne_eqb (get_or text k 0) 32 (λ e. free k (omega arith) low (eq-eqb (get_or text k 0) 32 e)))
    (λ l. absurd (omega arith))

pub space_ends : (text bytes : List ℕ) (at : ℕ) → IsUtf8 text → bytes ≡ text → Finds bytes at → IsCharBoundary text (at + 1)
space_ends text bytes at utf8 e found =
    let there : Finds text at = subst (λ (t : List ℕ). Finds t at) e found in
    let high = there.0.high in
    let space : get_or text at 0 ≡ 32 = eqb-true (get_or text at 0) 32 there.1 in
    IsCharBoundary-after_ascii text at utf8 high (omega arith)

pub word_found : (text bytes : List ℕ) (at : ℕ) → bytes ≡ text → Finds bytes at → slice_range text 0 at ≡ before_first is_space text
word_found text bytes at e found =
    let all : at - 0 ≡ at = omega arith in
    ap (λ (k : ℕ). take k text) (all ∙ sym (place text at (subst (λ (t : List ℕ). Finds t at) e found)))

pub behind_found : (text bytes : List ℕ) (at : ℕ) → bytes ≡ text → Finds bytes at → drop (at + 1) text ≡ after_first is_space text
behind_found text bytes at e found = ap (λ (k : ℕ). drop (k + 1) text) (sym (place text at (subst (λ (t : List ℕ). Finds t at) e found)))

pub all_word : (text bytes : List ℕ) → bytes ≡ text → FindsNone bytes → text ≡ before_first is_space text
all_word text bytes e free =
    let whole = no_place text (subst (λ (t : List ℕ). FindsNone t) e free) in
    sym (take_all (position_or_len is_space text) text (omega arith))

pub none_behind : (text bytes : List ℕ) → bytes ≡ text → FindsNone bytes → [] ≡ after_first is_space text
none_behind text bytes e free =
    let whole = no_place text (subst (λ (t : List ℕ). FindsNone t) e free) in
    sym (drop_all (position_or_len is_space text + 1) text (omega arith))
