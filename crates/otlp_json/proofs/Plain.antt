-- How many bytes in front of a text stand for themselves, seen some lanes at a time.
use Rattle.std.proofs.Common.{◌≡◌, ℕ, zero, suc, ◌+◌, ◌*◌, ◌%◌, ◌^◌, ◌<◌, ◌≤◌, Bool, true, false, not, cond, eqb, ltb, List, [], ◌∷◌, map, length, drop, refl, ap, ap₂, ◌∙◌, sym, arith}
use Rattle.std.specs.Prelude.{◌||◌}
use Rattle.std.proofs.lemmas.Bool.{eq-eqb, ne_eqb}
use Rattle.std.proofs.lemmas.List.{length-map}
use Rattle.std.proofs.lemmas.List.Folds.{prefix_len-append}
use Rattle.std.proofs.lemmas.List.Sums.{prefix_len-le-length}
use Rattle.std.proofs.lemmas.Simd.{chunk-drop, length-chunk, leading_from_mask_l, trailing_mask_l, mask_l-mod, map-map}
use Rattle.std.specs.List.{prefix_len, position_or_len}
use lib.Bits.{bit_or}
use lib.Count.{count_trailing_zeros}
use lib.Lanes.{chunk, mask_l, top}
use Rattle.otlp_json.specs.Escaped.{needs_escape}

abbrev pub plain : ℕ → Bool
plain byte = not (needs_escape byte)

-- ---- the lanes of a look

abbrev pub equals : ℕ → ℕ → ℕ
equals a b = cond (eqb a b) 255 0

abbrev pub below : ℕ → ℕ → ℕ
below a b = cond (ltb a b) 255 0

abbrev pub looked_at : ℕ → ℕ
looked_at byte = bit_or (bit_or (equals byte 34) (equals byte 92)) (below byte 32)

either : (p q r : Bool) → top 7 (bit_or (bit_or (cond p 255 0) (cond q 255 0)) (cond r 255 0)) ≡ (p || q || r)
either true true true = refl
either true true false = refl
either true false true = refl
either true false false = refl
either false true true = refl
either false true false = refl
either false false true = refl
either false false false = refl

each_lane : (lanes : List ℕ) → map (λ byte. top 7 (looked_at byte)) lanes ≡ map needs_escape lanes
each_lane [] = refl
each_lane (byte ∷ lanes) = ap₂ (λ b bs. b ∷ bs) (either (eqb byte 34) (eqb byte 92) (ltb byte 32)) (each_lane lanes)

pub escaped_lanes : (lanes tested : List ℕ) → length lanes ≤ 64 → tested ≡ map looked_at lanes
    → mask_l (map (top 7) tested) % 2 ^ 64 ≡ mask_l (map needs_escape lanes)
escaped_lanes lanes tested few is =
    ap (λ bits. mask_l bits % 2 ^ 64) (ap (map (top 7)) is ∙ map-map (top 7) looked_at lanes ∙ each_lane lanes)
    ∙ mask_l-mod (map needs_escape lanes) 64 (omega (arith, length-map lanes needs_escape))

-- ---- the plain front of a text

one_more : (b : Bool) (n l m : ℕ) → suc n ≤ cond b (1 + l) 0 → (n ≤ l → l ≡ n + m) → cond b (1 + l) 0 ≡ suc n + m
one_more true n l m h rest = let e = rest (omega arith) in omega arith
one_more false n l m h rest = absurd (omega arith)

behind : (q : ℕ → Bool) (d : List ℕ) (n : ℕ) → n ≤ prefix_len q d → prefix_len q d ≡ n + prefix_len q (drop n d)
behind q d zero h = omega arith
behind q [] (suc n) h = absurd (omega arith)
behind q (x ∷ xs) (suc n) h = one_more (q x) n (prefix_len q xs) (prefix_len q (drop n xs)) h (behind q xs n)

none_set : (b : Bool) (n l m : ℕ) → n ≤ l → cond (not b) (1 + n) 0 ≡ suc l → (n ≡ l → m ≡ 0) → cond b 1 0 + 2 * m ≡ 0
none_set true n l m le e rest = absurd (omega arith)
none_set false n l m le e rest = let z = rest (omega arith) in omega arith

no_lanes : (xs : List ℕ) → prefix_len plain xs ≡ length xs → mask_l (map needs_escape xs) ≡ 0
no_lanes [] e = refl
no_lanes (x ∷ xs) e = none_set (needs_escape x) (prefix_len plain xs) (length xs) _ (prefix_len-le-length plain xs) e (no_lanes xs)

in_parts : (d : List ℕ) (i n : ℕ) → prefix_len plain (drop i d)
    ≡ cond (eqb (prefix_len plain (chunk i n d)) (length (chunk i n d))) (length (chunk i n d) + prefix_len plain (drop (i + n) d)) (prefix_len plain (chunk i n d))
in_parts d i n = ap (prefix_len plain) (chunk-drop i n d) ∙ prefix_len-append plain (chunk i n d) (drop (i + n) d)

found_in_part : (d : List ℕ) (i n : ℕ) → i ≤ position_or_len needs_escape d → i + n ≤ length d → n ≤ 64 → 0 < mask_l (map needs_escape (chunk i n d))
    → position_or_len needs_escape d ≡ i + count_trailing_zeros 64 (mask_l (map needs_escape (chunk i n d)))
found_in_part d i n front room few some =
    let c = chunk i n d in
    behind plain d i front
    ∙ ap (λ k. i + k) (in_parts d i n
    ∙ ap (λ b. cond b (length c + prefix_len plain (drop (i + n) d)) (prefix_len plain c)) (ne_eqb _ _ (λ (e : prefix_len plain c ≡ length c). omega (arith, no_lanes c e)))
    ∙ sym (trailing_mask_l needs_escape 64 c (omega (arith, length-chunk i n d room)) some))

-- a look at n bytes behind a plain front finds the first byte that is escaped
pub found_there : (d : List ℕ) (i n found : ℕ) → i ≤ position_or_len needs_escape d → i + n ≤ length d → n ≤ 64
    → found ≡ mask_l (map needs_escape (chunk i n d)) → (found ≡ 0 → ⊥) → i + count_trailing_zeros 64 found ≡ position_or_len needs_escape d
found_there d i n found front room few is some =
    ap (λ m. i + count_trailing_zeros 64 m) is ∙ sym (found_in_part d i n front room few (omega arith))

-- or none, and the front goes on
pub none_there : (d : List ℕ) (i n found : ℕ) → i ≤ position_or_len needs_escape d → i + n ≤ length d
    → found ≡ mask_l (map needs_escape (chunk i n d)) → found ≡ 0 → i + n ≤ position_or_len needs_escape d
none_there d i n found front room is none =
    let c = chunk i n d in
    let on : prefix_len plain (drop i d) ≡ length c + prefix_len plain (drop (i + n) d) =
    in_parts d i n ∙ ap (λ b. cond b (length c + prefix_len plain (drop (i + n) d)) (prefix_len plain c)) (eq-eqb _ _ (leading_from_mask_l needs_escape c (sym is ∙ none))) in
    omega (arith, behind plain d i front, on, length-chunk i n d room)

pub none_to_the_end : (d : List ℕ) (i n found : ℕ) → i ≤ position_or_len needs_escape d → i + n ≡ length d
    → found ≡ mask_l (map needs_escape (chunk i n d)) → found ≡ 0 → length d ≡ position_or_len needs_escape d
none_to_the_end d i n found front room is none =
    omega (arith, none_there d i n found front (omega arith) is none, prefix_len-le-length plain d)
