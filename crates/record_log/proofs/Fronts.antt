-- Frames in two files whose fronts are equal.
use Rattle.std.proofs.Common.{◌≡◌, ℕ, ◌+◌, ◌-◌, ◌<◌, ◌≤◌, Bool, Option, Some, None, List, ◌++◌, ◌∷◌, length, take, drop, get_or, true, false, refl, sym, ◌∙◌, ap, arith, length-append, length-drop}
use Rattle.std.proofs.Math.Seq.{drop-append-add}
use Rattle.std.proofs.lemmas.Bool.Decides.{nat_tests}
use Rattle.std.proofs.lemmas.List.{get_or-take, get_or-drop, get_or-append-add, drop-drop}
use Rattle.std.specs.Int.{w64, from_be_bytes}
use Rattle.std.specs.Prelude.{IfNone, if◌then◌else◌}
use Rattle.slot_store.specs.Head.{head_at}
use Rattle.slot_store.specs.declared.frame.Head.{Head}
use Rattle.slot_store.proofs.Frames.{take_inside, open_by_both}
use Rattle.slot_store.proofs.Framed.{sequence_of_frame, length_of_frame, payload_of_frame, length-frame_body}
use Rattle.slot_store.specs.Frame.{last_number, number_at, length_at, sequence_at, is_open_at, payload_at, frame_body}
use Rattle.record_log.specs.Records.{counts_at, end_at}

-- what an open frame is
pub record IsOpenFrame (place : ℕ) (content : List ℕ) : Type 0 where
  pub gate : get_or content place 0 ≡ 165
  pub whole : end_at place content ≤ length content
  pub within : end_at place content ≤ last_number

pub open_frame : (place : ℕ) (content : List ℕ) → is_open_at place content ≡ true → IsOpenFrame place content
unfolding is_open_at
open_frame place content opened = record {
  gate = grind (arith, nat_tests);
  whole = grind (arith, nat_tests);
  within = grind (arith, nat_tests);
}

pub counts_open : (place sequence : ℕ) (content : List ℕ) → counts_at place sequence content ≡ true → is_open_at place content ≡ true
unfolding counts_at
counts_open place sequence content counts = grind (arith, nat_tests)

pub counts_next : (place sequence : ℕ) (content : List ℕ) → counts_at place sequence content ≡ true → sequence_at place content ≡ sequence + 1
unfolding counts_at
counts_next place sequence content counts = grind (arith, nat_tests)

pub counts_when : (place sequence : ℕ) (content : List ℕ) → is_open_at place content ≡ true → sequence_at place content ≡ sequence + 1 → counts_at place sequence content ≡ true
unfolding counts_at
counts_when place sequence content opened next = grind (arith, nat_tests)

pub stops_closed : (place sequence : ℕ) (content : List ℕ) → is_open_at place content ≡ false → counts_at place sequence content ≡ false
unfolding counts_at
stops_closed place sequence content closed = grind (arith, nat_tests)

-- The contents are equal before this place.
pub record SameBefore (limit : ℕ) (old new : List ℕ) : Type 0 where
  pub front : take limit new ≡ take limit old
  pub reaches : limit ≤ length new

pub number_same : (limit at : ℕ) (old new : List ℕ) → at + 8 ≤ limit → SameBefore limit old new → number_at at new ≡ number_at at old
unfolding number_at
number_same limit at old new within same = ap (λ bytes. from_be_bytes w64 bytes) (take_inside new old at 8 limit within same.front)

gate_same : (limit place : ℕ) (old new : List ℕ) → place < limit → SameBefore limit old new → get_or new place 0 ≡ get_or old place 0
gate_same limit place old new within same =
    sym (get_or-take limit new place 0 within) ∙ ap (λ front. get_or front place 0) same.front ∙ get_or-take limit old place 0 within

pub end_same : (limit place : ℕ) (old new : List ℕ) → place + 17 ≤ limit → SameBefore limit old new → end_at place new ≡ end_at place old
end_same limit place old new within same =
    ap (λ size. place + 17 + size) (number_same limit (place + 9) old new (omega arith) same)

pub open_same : (limit place : ℕ) (old new : List ℕ) → is_open_at place old ≡ true → end_at place old ≤ limit → SameBefore limit old new → is_open_at place new ≡ true
open_same limit place old new opened within same =
    let is_open = open_frame place old opened in
    let end : end_at place new ≡ end_at place old = end_same limit place old new (omega arith) same in
    open_by_both place new (gate_same limit place old new (omega arith) same ∙ is_open.gate) (omega (arith, same.reaches)) (omega (arith, is_open.within))

pub payload_same : (limit place : ℕ) (old new : List ℕ) → end_at place old ≤ limit → SameBefore limit old new → payload_at place new ≡ payload_at place old
unfolding payload_at
payload_same limit place old new within same =
    ap (λ size. take size (drop (place + 17) new)) (number_same limit (place + 9) old new (omega arith) same)
    ∙ take_inside new old (place + 17) (length_at place old) limit (omega arith) same.front

pub counts_same : (limit place sequence : ℕ) (old new : List ℕ) → counts_at place sequence old ≡ true → end_at place old ≤ limit → SameBefore limit old new → counts_at place sequence new ≡ true
counts_same limit place sequence old new counts within same =
    counts_when place sequence new
    (open_same limit place old new (counts_open place sequence old counts) within same)
    (number_same limit (place + 1) old new (omega arith) same ∙ counts_next place sequence old counts)

-- a frame behind other bytes
number_behind : (front frame : List ℕ) (at : ℕ) → number_at (length front + at) (front ++ frame) ≡ number_at at frame
unfolding number_at
number_behind front frame at = ap (λ bytes. from_be_bytes w64 (take 8 bytes)) (drop-append-add front frame at)

gate_behind : (place : ℕ) (front written content : List ℕ) → length front ≡ place → content ≡ front ++ written → get_or written 0 0 ≡ 165 → get_or content place 0 ≡ 165
gate_behind place front written content at is_frame gate =
    let here : place ≡ length front + 0 = omega arith in
    ap (λ bytes. get_or bytes place 0) is_frame ∙ ap (λ k. get_or (front ++ written) k 0) here ∙ get_or-append-add front written 0 0 ∙ gate

payload_behind : (place sequence : ℕ) (front payload content : List ℕ) → length front ≡ place → content ≡ front ++ 165 ∷ frame_body sequence payload → length_at place content ≡ length payload → length payload ≤ last_number → payload_at place content ≡ payload
unfolding payload_at
payload_behind place sequence front payload content at is_frame size within =
    let written = 165 ∷ frame_body sequence payload in
    ap (λ n. take n (drop (place + 17) content)) (size ∙ sym (length_of_frame sequence payload within))
    ∙ ap (λ bytes. take (length_at 0 written) (drop (place + 17) bytes)) is_frame
    ∙ ap (λ n. take (length_at 0 written) (drop (n + 17) (front ++ written))) (sym at)
    ∙ ap (λ bytes. take (length_at 0 written) bytes) (drop-append-add front written 17)
    ∙ payload_of_frame sequence payload within

-- what a frame is that was written whole at the end of a file
pub record IsFrameAt (place sequence : ℕ) (payload content : List ℕ) : Type 0 where
  pub opened : is_open_at place content ≡ true
  pub sequence_is : sequence_at place content ≡ sequence
  pub end_is : end_at place content ≡ place + 17 + length payload
  pub payload_is : payload_at place content ≡ payload
  pub ends : length content ≡ place + 17 + length payload

pub frame_behind : (place sequence : ℕ) (front payload content : List ℕ) → length front ≡ place → content ≡ front ++ 165 ∷ frame_body sequence payload → sequence ≤ last_number → place + 17 + length payload ≤ last_number → IsFrameAt place sequence payload content
frame_behind place sequence front payload content at is_frame in_range within =
    let written = 165 ∷ frame_body sequence payload in
    let number : (k : ℕ) → number_at (place + k) content ≡ number_at k written = λ k. ap (λ bytes. number_at (place + k) bytes) is_frame ∙ ap (λ n. number_at (n + k) (front ++ written)) (sym at) ∙ number_behind front written k in
    let size : length_at place content ≡ length payload = number 9 ∙ length_of_frame sequence payload (omega arith) in
    let long : length content ≡ place + 17 + length payload = omega (arith, ap length is_frame, length-append front written, length-frame_body sequence payload, at) in
    record {
      opened = open_by_both place content (gate_behind place front written content at is_frame refl) (omega arith) (omega arith);
      sequence_is = number 1 ∙ sequence_of_frame sequence payload in_range;
      end_is = omega arith;
      payload_is = payload_behind place sequence front payload content at is_frame size (omega arith);
      ends = long;
    }

abbrev head_if : ℕ → List ℕ → Bool → Option Head
head_if place content test = if test then Some (record { sequence = sequence_at place content; length = length_at place content }) else None

pub head_none : (place : ℕ) (content : List ℕ) → None ≡ head_at place content → is_open_at place content ≡ false
unfolding head_at
head_none place content found = by_test (is_open_at place content) found
  where
    by_test : (test : Bool) → None ≡ head_if place content test → test ≡ false
    by_test true e = cc
    by_test false e = refl

pub record SaysHead (place : ℕ) (content : List ℕ) (head : Head) : Type 0 where
  pub opened : is_open_at place content ≡ true
  pub sequence_is : sequence_at place content ≡ head.sequence
  pub length_is : length_at place content ≡ head.length

sequence_of : Option Head → ℕ
sequence_of None = 0
sequence_of (Some head) = head.sequence

length_of : Option Head → ℕ
length_of None = 0
length_of (Some head) = head.length

pub head_some : (place : ℕ) (content : List ℕ) (head : Head) → Some head ≡ head_at place content → SaysHead place content head
unfolding head_at sequence_of length_of
head_some place content head found = by_test (is_open_at place content) refl found
  where
    by_test : (test : Bool) → is_open_at place content ≡ test → Some head ≡ head_if place content test → SaysHead place content head
    by_test true opened e = record { opened = opened; sequence_is = sym (ap sequence_of e); length_is = sym (ap length_of e) }
    by_test false opened e = cc

sum_same : (a b c : ℕ) → a + (b + c) ≡ a + b + c
sum_same a b c = omega arith

same_tests : (one another : Bool) → (one ≡ true → another ≡ true) → (another ≡ true → one ≡ true) → one ≡ another
same_tests true another forth back = sym (forth refl)
same_tests false true forth back = back refl
same_tests false false forth back = refl

number_dropped : (from at : ℕ) (content : List ℕ) → number_at at (drop from content) ≡ number_at (from + at) content
unfolding number_at
number_dropped from at content = ap (λ bytes. from_be_bytes w64 (take 8 bytes)) (drop-drop at from content)

-- a frame of what stands behind a place, seen from the begin
open_dropped : (from place : ℕ) (content : List ℕ) → length content ≤ last_number → is_open_at place (drop from content) ≡ is_open_at (from + place) content
open_dropped from place content within =
    let size : length_at place (drop from content) ≡ length_at (from + place) content = number_dropped from (place + 9) content ∙ ap (λ k. number_at k content) (sum_same from place 9) in
    let gate : get_or (drop from content) place 0 ≡ get_or content (from + place) 0 = get_or-drop from content place 0 in
    same_tests (is_open_at place (drop from content)) (is_open_at (from + place) content)
    (λ opened. let frame = open_frame place (drop from content) opened in
    open_by_both (from + place) content (sym gate ∙ frame.gate) (omega (arith, frame.whole, length-drop from content)) (omega (arith, frame.whole, length-drop from content)))
    (λ opened. let frame = open_frame (from + place) content opened in
    open_by_both place (drop from content) (gate ∙ frame.gate) (omega (arith, frame.whole, length-drop from content)) (omega (arith, frame.whole, length-drop from content)))

pub counts_dropped : (from place sequence : ℕ) (content : List ℕ) → length content ≤ last_number → counts_at place sequence (drop from content) ≡ counts_at (from + place) sequence content
counts_dropped from place sequence content within =
    let next : sequence_at place (drop from content) ≡ sequence_at (from + place) content = number_dropped from (place + 1) content ∙ ap (λ k. number_at k content) (sum_same from place 1) in
    same_tests (counts_at place sequence (drop from content)) (counts_at (from + place) sequence content)
    (λ counts. counts_when (from + place) sequence content (sym (open_dropped from place content within) ∙ counts_open place sequence (drop from content) counts) (sym next ∙ counts_next place sequence (drop from content) counts))
    (λ counts. counts_when place sequence (drop from content) (open_dropped from place content within ∙ counts_open (from + place) sequence content counts) (next ∙ counts_next (from + place) sequence content counts))

pub end_dropped : (from place : ℕ) (content : List ℕ) → from + end_at place (drop from content) ≡ end_at (from + place) content
end_dropped from place content =
    let size : length_at place (drop from content) ≡ length_at (from + place) content = number_dropped from (place + 9) content ∙ ap (λ k. number_at k content) (sum_same from place 9) in
    omega arith

pub payload_dropped : (from place : ℕ) (content : List ℕ) → payload_at place (drop from content) ≡ payload_at (from + place) content
unfolding payload_at
payload_dropped from place content =
    let size : length_at place (drop from content) ≡ length_at (from + place) content = number_dropped from (place + 9) content ∙ ap (λ k. number_at k content) (sum_same from place 9) in
    ap (λ n. take n (drop (place + 17) (drop from content))) size
    ∙ ap (λ bytes. take (length_at (from + place) content) bytes) (drop-drop (place + 17) from content ∙ ap (λ k. drop k content) (sum_same from place 17))

-- the bytes between the head and the end
pub payload_between : (place end : ℕ) (content : List ℕ) → end ≡ end_at place content → take (end - (place + 17)) (drop (place + 17) content) ≡ payload_at place content
unfolding payload_at
payload_between place end content is_end =
    let size : end - (place + 17) ≡ length_at place content = omega arith in
    ap (λ n. take n (drop (place + 17) content)) size

pub stops_otherwise : (place sequence : ℕ) (content : List ℕ) → (sequence_at place content ≡ sequence + 1 → ⊥) → counts_at place sequence content ≡ false
unfolding counts_at
stops_otherwise place sequence content other = grind (arith, nat_tests)

pub none_if : {T : Type 0} {P : Type 0} (found : Option T) → P → IfNone found P
none_if None holds = holds
none_if (Some _) holds = tt
