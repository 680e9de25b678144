-- What a frame says that was written whole.
use Rattle.std.proofs.Common.{◌≡◌, ℕ, ◌+◌, ◌≤◌, List, ◌++◌, ◌∷◌, length, take, drop, true, refl, sym, ◌∙◌, ap, arith, append_assoc}
use Rattle.std.proofs.lemmas.List.{take_all, take_at, drop_at}
use Rattle.std.proofs.lemmas.Nat.{from_be_bytes-to_be_bytes_8}
use Rattle.std.specs.Int.{w64, to_be_bytes}
use Rattle.slot_store.proofs.Frames.{open_by_both}
use Rattle.slot_store.specs.Frame.{last_number, number_at, is_open_at, payload_at, frame_body}

-- the head behind the payload, turned to its front
pub body_made : (first second third one two payload : List ℕ) (sequence size place : ℕ) → one ≡ to_be_bytes w64 sequence → first ≡ payload ++ one → size ≡ length payload → two ≡ to_be_bytes w64 size → second ≡ first ++ two → place ≡ length payload → third ≡ drop place second ++ take place second → third ≡ frame_body sequence payload
unfolding frame_body
body_made first second third one two payload sequence size place one_is first_is size_is two_is second_is place_is third_is =
    let whole : second ≡ payload ++ (one ++ two) = second_is ∙ ap (λ front. front ++ two) first_is ∙ append_assoc payload one two in
    third_is
    ∙ ap (λ bytes. drop place bytes ++ take place bytes) whole
    ∙ ap (λ front. front ++ take place (payload ++ (one ++ two))) (drop_at payload (one ++ two) place (sym place_is))
    ∙ ap (λ back. (one ++ two) ++ back) (take_at payload (one ++ two) place (sym place_is))
    ∙ ap (λ bytes. (bytes ++ two) ++ payload) one_is
    ∙ ap (λ bytes. (to_be_bytes w64 sequence ++ bytes) ++ payload) (two_is ∙ ap (λ n. to_be_bytes w64 n) size_is)

pub length-frame_body : (sequence : ℕ) (payload : List ℕ) → length (frame_body sequence payload) ≡ length payload + 16
unfolding frame_body
length-frame_body sequence payload = omega arith

pub sequence_of_frame : (sequence : ℕ) (payload : List ℕ) → sequence ≤ last_number → number_at 1 (165 ∷ frame_body sequence payload) ≡ sequence
unfolding number_at frame_body
sequence_of_frame sequence payload within = from_be_bytes-to_be_bytes_8 sequence (omega arith)

pub length_of_frame : (sequence : ℕ) (payload : List ℕ) → length payload ≤ last_number → number_at 9 (165 ∷ frame_body sequence payload) ≡ length payload
unfolding number_at frame_body
length_of_frame sequence payload within = from_be_bytes-to_be_bytes_8 (length payload) (omega arith)

pub frame_is_open : (sequence : ℕ) (payload : List ℕ) → length payload + 17 ≤ last_number → is_open_at 0 (165 ∷ frame_body sequence payload) ≡ true
frame_is_open sequence payload within =
    let size : number_at 9 (165 ∷ frame_body sequence payload) ≡ length payload = length_of_frame sequence payload (omega arith) in
    open_by_both 0 (165 ∷ frame_body sequence payload) refl (omega (arith, length-frame_body sequence payload)) (omega arith)

behind_head : (sequence : ℕ) (payload : List ℕ) → take (length payload) (drop 17 (165 ∷ frame_body sequence payload)) ≡ payload
unfolding frame_body
behind_head sequence payload = take_all (length payload) payload (omega arith)

pub payload_of_frame : (sequence : ℕ) (payload : List ℕ) → length payload ≤ last_number → payload_at 0 (165 ∷ frame_body sequence payload) ≡ payload
unfolding payload_at
payload_of_frame sequence payload within =
    ap (λ size. take size (drop 17 (165 ∷ frame_body sequence payload))) (length_of_frame sequence payload within)
    ∙ behind_head sequence payload
