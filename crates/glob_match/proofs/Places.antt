-- Places among characters, told in bytes.
use Rattle.std.proofs.Common.{◌≡◌, ℕ, ◌+◌, ◌<◌, ◌≤◌, List, [], ◌∷◌, ◌++◌, ◌∙◌, ap, sym, length, take, drop, get_or, encode_utf8_all, arith, length-append}
use Rattle.std.proofs.lemmas.List.{take-append-drop, take_more, get_or-take, length-take-le}
use Rattle.std.proofs.lemmas.Str.{encodes-append}
use Rattle.std.specs.Prelude.{encode_utf8}

pub place_below : (text : List ℕ) (place : ℕ) → length (encode_utf8_all (take place text)) ≤ length (encode_utf8_all text)
place_below text place =
    let parts : encode_utf8_all text ≡ encode_utf8_all (take place text) ++ encode_utf8_all (drop place text) = ap encode_utf8_all (sym (take-append-drop place text)) ∙ encodes-append (take place text) (drop place text) in
    omega (arith, ap length parts, length-append (encode_utf8_all (take place text)) (encode_utf8_all (drop place text)))

pub place_more : (text : List ℕ) (place at c : ℕ) → place ≤ length text → at < length (take place text) → c ≡ get_or (take place text) at c
    → length (encode_utf8_all (take (at + 1) text)) ≡ length (encode_utf8_all (take at text)) + length (encode_utf8 c)
place_more text place at c within l e =
    let inside : at < place = omega (arith, length-take-le place text within) in
    let same : c ≡ get_or text at c = e ∙ get_or-take place text at c inside in
    let front : at < length text = omega arith in
    let parts : encode_utf8_all (take (at + 1) text) ≡ encode_utf8_all (take at text) ++ encode_utf8_all (get_or text at c ∷ []) =
    ap encode_utf8_all (take_more text at c front) ∙ encodes-append (take at text) (get_or text at c ∷ []) in
    let one : encode_utf8_all (get_or text at c ∷ []) ≡ encode_utf8_all (c ∷ []) = ap (λ (x : ℕ). encode_utf8_all (x ∷ [])) (sym same) in
    omega (arith, ap length parts, ap length one, length-append (encode_utf8_all (take at text)) (encode_utf8_all (get_or text at c ∷ [])), length-append (encode_utf8 c) [])
