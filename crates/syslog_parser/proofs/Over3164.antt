-- Going over what the grammar of RFC 3164 spells.
use Rattle.std.proofs.Common.{◌≡◌, ℕ, suc, ◌-◌, ◌<◌, ◌≤◌, ◌⊎◌, inl, inr, List, [], ◌∷◌, ◌++◌, ◌∙◌, ap, sym, refl, Option, None, Some, Ok, Err, Bool, true, false, ◌&&◌, ◌==◌, cond, length, take, drop, get_or, nat_lt, take_while, append_assoc, arith}
use Rattle.std.proofs.lemmas.List.{append-nil, drop_more, take-append-drop, length-drop}
use Rattle.syslog_parser.specs.Bytes.{is_not_space, is_tag_byte, is_bracketed}
use Rattle.syslog_parser.specs.Inner.Reads.{ends_tag, StopsInHost, StopsInTag}
use Rattle.syslog_parser.specs.Rfc3164.{without_space, IsProcess, no_process, a_process, Tail, IsTail}
use Rattle.syslog_parser.specs.States3164.{Named, State, in_host, in_tag, in_process, wants_colon, behind_colon, in_message, is_begun, tag_end, step, value_at, tail_of, outcome}
use Rattle.syslog_parser.specs.Words.{IsWord}
use Rattle.syslog_parser.proofs.OtherBytes.{neither, negated, not_not}
use Rattle.syslog_parser.proofs.Running.{outcome_goes, outcome_stops, outcome_unfinished, outcome_finished}
use Rattle.syslog_parser.proofs.Runs.{InWord, word_over}
use Rattle.syslog_parser.proofs.Words.{if_true, if_false, stands_false, run_all, run_ends}

goes : (s t : State) (byte : ℕ) (bytes : List ℕ) → step s byte ≡ Some t → outcome s (byte ∷ bytes) ≡ outcome t bytes
goes s t byte bytes e = outcome_goes step value_at s t byte bytes e

pub begun : (own : List ℕ) → 1 ≤ length own → is_begun own ≡ true
begun [] l = absurd (omega arith)
begun (byte ∷ own) l = refl

nothing_taken : (text : List ℕ) (count : ℕ) → count ≡ 0 → is_begun (take count text) ≡ false
nothing_taken text count e = ap (λ (n : ℕ). is_begun (take n text)) e

-- ---- words of any length

host_word : (most : ℕ) → InWord step value_at in_host is_not_space most
host_word most = record { goes = λ own byte k l. if_false (byte == 32) _ _ (negated (byte == 32) k) }

tag_word : (host : List ℕ) (most : ℕ) → InWord step value_at (in_tag host) is_tag_byte most
tag_word host most = record { goes = λ own byte k l. if_true (is_tag_byte byte) _ _ k }

process_word : (host tag : List ℕ) (most : ℕ) → InWord step value_at (in_process host tag) is_bracketed most
process_word host tag most = record { goes = λ own byte k l. if_false (byte == 93) _ _ (negated (byte == 93) k) }

-- a run, and then a byte at which the machine stops, or nothing
module _ (f : List ℕ → State) (kind : ℕ → Bool) (word : (most : ℕ) → InWord step value_at f kind most) (unfinished : (own : List ℕ) → value_at (f own) ≡ None)
    (text : List ℕ) (count left : ℕ) (is : count ≡ length (take_while kind text)) (left_is : left ≡ length text - count)
    (stops : count < length text → kind (get_or text count 0) ≡ false → step (f (take count text)) (get_or text count 0) ≡ None) where
  rest_is : length (drop count text) ≡ left
  rest_is = let d : length (drop count text) ≡ length text - count = length-drop count text in omega arith

  at_rest : (rest : List ℕ) → drop count text ≡ rest → outcome (f (take count text)) rest ≡ Err (length rest)
  at_rest [] e = outcome_unfinished step value_at (f (take count text)) (unfinished (take count text))
  at_rest (byte ∷ rest) e =
      let inside : count < length text =
      let d : length (drop count text) ≡ length text - count = length-drop count text in
      let s : length (drop count text) ≡ suc (length rest) = ap length e in omega arith in
      let more = drop_more text count 0 inside in
      let first = sym more ∙ e in
      let same : get_or text count 0 ≡ byte = cc first in
      outcome_stops step value_at (f (take count text)) byte rest
      (ap (λ (b : ℕ). step (f (take count text)) b) (sym same) ∙ stops inside (run_ends kind text count is inside))

  pub run_stops : outcome (f []) text ≡ Err left
  run_stops =
      let own : List ℕ = take count text in
      ap (λ (l : List ℕ). outcome (f []) l) (sym (take-append-drop count text))
      ∙ word_over step value_at f kind (length own) (word (length own)) own (drop count text) (run_all kind text count is) (omega arith)
      ∙ at_rest (drop count text) refl
      ∙ ap (λ (n : ℕ). Err n) rest_is

-- the byte behind a run is no other than those that end it
stands_not : (text : List ℕ) (count byte : ℕ) → (nat_lt count (length text) && (get_or text count 0 == byte)) ≡ false → count < length text → (get_or text count 0 == byte) ≡ false
stands_not text count byte e l = stands_false text count byte e l

pub host_stops : (text : List ℕ) (count left : ℕ) → count ≡ length (take_while is_not_space text)
    → (count ≡ 0) ⊎ ((nat_lt count (length text) && (get_or text count 0 == 32)) ≡ false) → left ≡ length text - count → StopsInHost text left
host_stops text count left is u l =
    run_stops in_host is_not_space host_word (λ own. refl) text count left is l (λ inside ends. by u inside ends)
  where
    by : (count ≡ 0) ⊎ ((nat_lt count (length text) && (get_or text count 0 == 32)) ≡ false) → count < length text → is_not_space (get_or text count 0) ≡ false
        → step (in_host (take count text)) (get_or text count 0) ≡ None
    by (inl none) inside ends =
        if_true (get_or text count 0 == 32) _ _ (not_not (get_or text count 0 == 32) ends) ∙ if_false (is_begun (take count text)) _ _ (nothing_taken text count none)
    by (inr other) inside ends =
        let a = stands_not text count 32 other inside in let b = not_not (get_or text count 0 == 32) ends in absurd (cc (a, b))

pub host_over : (own rest : List ℕ) → IsWord is_not_space own → outcome (in_host []) (own ++ 32 ∷ rest) ≡ outcome (in_tag own []) rest
host_over own rest w =
    word_over step value_at in_host is_not_space (length own) (host_word (length own)) own (32 ∷ rest) w.all (omega arith)
    ∙ goes (in_host own) (in_tag own []) 32 rest (if_true (is_begun own) _ _ (begun own w.some))

pub tag_over : (host own rest : List ℕ) → IsWord is_tag_byte own → outcome (in_tag host []) (own ++ rest) ≡ outcome (in_tag host own) rest
tag_over host own rest w = word_over step value_at (in_tag host) is_tag_byte (length own) (tag_word host (length own)) own rest w.all (omega arith)

tag_ends : (host own : List ℕ) (byte : ℕ) → ends_tag byte ≡ false → tag_end host own byte ≡ None
tag_ends host own byte e =
    let n = neither (byte == 58) (byte == 91) e in
    if_false (byte == 58) _ _ n.0 ∙ if_false (byte == 91) _ _ n.1

pub tag_stops : (text : List ℕ) (count left : ℕ) → count ≡ length (take_while is_tag_byte text)
    → (count ≡ 0) ⊎ (count < length text → ends_tag (get_or text count 0) ≡ false) → left ≡ length text - count → StopsInTag text left
tag_stops text count left is u l host =
    run_stops (in_tag host) is_tag_byte (tag_word host) (λ own. refl) text count left is l (λ inside ends. if_false (is_tag_byte (get_or text count 0)) _ _ ends ∙ by u inside)
  where
    by : (count ≡ 0) ⊎ (count < length text → ends_tag (get_or text count 0) ≡ false) → count < length text
        → cond (is_begun (take count text)) (tag_end host (take count text) (get_or text count 0)) None ≡ None
    by (inl none) inside = if_false (is_begun (take count text)) _ _ (nothing_taken text count none)
    by (inr other) inside = by_begun (is_begun (take count text))
      where
        by_begun : (b : Bool) → cond b (tag_end host (take count text) (get_or text count 0)) None ≡ None
        by_begun true = tag_ends host (take count text) (get_or text count 0) (other inside)
        by_begun false = refl

-- ---- a process and a colon

module _ (host tag : List ℕ) where
  module _ (some : is_begun tag ≡ true) where
    pub bracket_over : (rest : List ℕ) → outcome (in_tag host tag) (91 ∷ rest) ≡ outcome (in_process host tag []) rest
    bracket_over rest = goes (in_tag host tag) (in_process host tag []) 91 rest (if_true (is_begun tag) _ _ some)

    colon_over : (rest : List ℕ) → outcome (in_tag host tag) (58 ∷ rest) ≡ outcome (behind_colon (record { host = host; tag = tag; process = None })) rest
    colon_over rest = goes (in_tag host tag) (behind_colon (record { host = host; tag = tag; process = None })) 58 rest (if_true (is_begun tag) _ _ some)

  pub process_over : (own rest : List ℕ) → IsWord is_bracketed own
      → outcome (in_process host tag []) (own ++ 93 ∷ rest) ≡ outcome (wants_colon (record { host = host; tag = tag; process = Some own })) rest
  process_over own rest w =
      word_over step value_at (in_process host tag) is_bracketed (length own) (process_word host tag (length own)) own (93 ∷ rest) w.all (omega arith)
      ∙ goes (in_process host tag own) (wants_colon (record { host = host; tag = tag; process = Some own })) 93 rest (if_true (is_begun own) _ _ (begun own w.some))

  pub process_stops : (text : List ℕ) (count left : ℕ) → count ≡ length (take_while is_bracketed text)
      → (count ≡ 0) ⊎ ((nat_lt count (length text) && (get_or text count 0 == 93)) ≡ false) → left ≡ length text - count
      → outcome (in_process host tag []) text ≡ Err left
  process_stops text count left is u l =
      run_stops (in_process host tag) is_bracketed (process_word host tag) (λ own. refl) text count left is l (λ inside ends. by u inside ends)
    where
      by : (count ≡ 0) ⊎ ((nat_lt count (length text) && (get_or text count 0 == 93)) ≡ false) → count < length text → is_bracketed (get_or text count 0) ≡ false
          → step (in_process host tag (take count text)) (get_or text count 0) ≡ None
      by (inl none) inside ends =
          if_true (get_or text count 0 == 93) _ _ (not_not (get_or text count 0 == 93) ends) ∙ if_false (is_begun (take count text)) _ _ (nothing_taken text count none)
      by (inr other) inside ends =
          let a = stands_not text count 93 other inside in let b = not_not (get_or text count 0 == 93) ends in absurd (cc (a, b))

  pub any_process_over : {text rest : List ℕ} {process : Option (List ℕ)} → IsProcess text process rest → is_begun tag ≡ true
      → outcome (in_tag host tag) text ≡ outcome (behind_colon (record { host = host; tag = tag; process = process })) rest
  any_process_over (no_process {rest}) some = colon_over some rest
  any_process_over (a_process {own} {rest} w) some =
      bracket_over some (own ++ 93 ∷ 58 ∷ rest)
      ∙ process_over own (58 ∷ rest) w
      ∙ goes (wants_colon (record { host = host; tag = tag; process = Some own })) (behind_colon (record { host = host; tag = tag; process = Some own })) 58 rest refl

pub no_colon : (named : Named) (text : List ℕ) → (nat_lt 0 (length text) && (get_or text 0 0 == 58)) ≡ false → outcome (wants_colon named) text ≡ Err (length text)
no_colon named [] e = outcome_unfinished step value_at (wants_colon named) refl
no_colon named (byte ∷ text) e =
    outcome_stops step value_at (wants_colon named) byte text (if_false (byte == 58) _ _ (stands_false (byte ∷ text) 0 58 e (omega arith)))

-- ---- messages

message_over : (raw : List ℕ) (named : Named) (own : List ℕ) → outcome (in_message named own) raw ≡ Ok (tail_of named (own ++ raw))
message_over [] named own =
    outcome_finished step value_at (in_message named own) (tail_of named own) refl ∙ ap (λ (l : List ℕ). Ok (tail_of named l)) (sym (append-nil own))
message_over (byte ∷ raw) named own =
    goes (in_message named own) (in_message named (own ++ byte ∷ [])) byte raw refl
    ∙ message_over raw named (own ++ byte ∷ [])
    ∙ ap (λ (l : List ℕ). Ok (tail_of named l)) (append_assoc own (byte ∷ []) raw)

end_over : (text : List ℕ) (named : Named) → outcome (behind_colon named) text ≡ Ok (tail_of named (without_space text))
end_over [] named = outcome_finished step value_at (behind_colon named) (tail_of named []) refl
end_over (byte ∷ text) named = by (byte == 32) refl
  where
    by : (b : Bool) → (byte == 32) ≡ b → outcome (behind_colon named) (byte ∷ text) ≡ Ok (tail_of named (cond b text (byte ∷ text)))
    by true e = goes (behind_colon named) (in_message named []) byte text (if_true (byte == 32) _ _ e) ∙ message_over text named []
    by false e = goes (behind_colon named) (in_message named (byte ∷ [])) byte text (if_false (byte == 32) _ _ e) ∙ message_over text named (byte ∷ [])

pub tail_over : (text : List ℕ) (tail : Tail) → IsTail text tail → outcome (in_host []) text ≡ Ok tail
tail_over text tail t =
    ap (λ (l : List ℕ). outcome (in_host []) l) t.is
    ∙ host_over tail.host (tail.tag ++ t.behind_tag) t.host
    ∙ tag_over tail.host tail.tag t.behind_tag t.tag
    ∙ any_process_over tail.host tail.tag t.process (begun tail.tag t.tag.some)
    ∙ end_over t.behind_colon (record { host = tail.host; tag = tail.tag; process = tail.process })
    ∙ ap (λ (m : List ℕ). Ok (tail_of (record { host = tail.host; tag = tail.tag; process = tail.process }) m)) (sym t.message)
