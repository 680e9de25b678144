-- What holds of the blanks at the ends of a text.
use Rattle.std.proofs.Common.{◌≡◌, ℕ, ◌+◌, ◌-◌, ◌<◌, ◌≤◌, Bool, true, false, List, length, take, drop, get_or, reverse, refl, ◌∙◌, arith, length-drop, length-take}
use Rattle.std.proofs.lemmas.List.{get_or-drop, get_or-take, get_or-reverse, length-reverse}
use Rattle.std.proofs.lemmas.List.Sums.{prefix_len-le-length, suffix_len-le-length, prefix_len_passes, prefix_len_stops}
use Rattle.std.proofs.lemmas.Bool.{both_ways}
use Rattle.std.specs.List.{prefix_len, suffix_len, AllPass}
use Rattle.line_splitter.specs.Trim.{is_blank, trim_start, trim_end, IsTrimmedTo}

pub trim_start-kept : (text : List ℕ) → trim_start true text ≡ 0
unfolding trim_start
trim_start-kept text = refl

pub trim_start-cut : (text : List ℕ) → trim_start false text ≡ prefix_len is_blank text
unfolding trim_start
trim_start-cut text = refl

pub trim_end-kept : (leading : Bool) (text : List ℕ) → trim_end leading true text ≡ length text
unfolding trim_end
trim_end-kept leading text = refl

pub trim_end-cut : (leading : Bool) (text : List ℕ) → trim_end leading false text ≡ length text - suffix_len is_blank (drop (trim_start leading text) text)
unfolding trim_end
trim_end-cut leading text = refl

pub trim_start_le : (leading : Bool) (text : List ℕ) → trim_start leading text ≤ length text
trim_start_le true text = rw (trim_start-kept text) (omega arith)
trim_start_le false text = rw (trim_start-cut text) (prefix_len-le-length is_blank text)

-- the elements of the longest end that passes
suffix_passes : (p : ℕ → Bool) (xs : List ℕ) (k d : ℕ) → length xs ≤ k + suffix_len p xs → k < length xs → p (get_or xs k d) ≡ true
suffix_passes p xs k d late inside =
    let back : ℕ = length xs - 1 - k in
    let same : length xs - 1 - back ≡ k = omega arith in
    let read : get_or (reverse xs) back d ≡ get_or xs k d = get_or-reverse xs back d (omega arith) ∙ rw same refl in
    rw (← read) (prefix_len_passes p (reverse xs) back d (omega arith))

-- the element before it
suffix_stops : (p : ℕ → Bool) (xs : List ℕ) (k d : ℕ) → k + suffix_len p xs + 1 ≡ length xs → p (get_or xs k d) ≡ false
suffix_stops p xs k d at =
    let back : ℕ = suffix_len p xs in
    let same : length xs - 1 - back ≡ k = omega arith in
    let read : get_or (reverse xs) back d ≡ get_or xs k d = get_or-reverse xs back d (omega arith) ∙ rw same refl in
    rw (← read) (prefix_len_stops p (reverse xs) d (omega (arith, length-reverse xs)))

-- blanks from s to the end of the text, counted on the rest from s on
pub trim_end_bounds : (leading trailing : Bool) (text : List ℕ) → (trim_start leading text ≤ trim_end leading trailing text) × (trim_end leading trailing text ≤ length text)
trim_end_bounds leading true text = rw (trim_end-kept leading text) (trim_start_le leading text, omega arith)
trim_end_bounds leading false text =
    let start = trim_start_le leading text in
    let rest = length-drop (trim_start leading text) text in
    let blanks = suffix_len-le-length is_blank (drop (trim_start leading text) text) in
    rw (trim_end-cut leading text) (omega arith, omega arith)

blank_before_lem : (leading : Bool) (text : List ℕ) → AllPass is_blank (take (trim_start leading text) text)
blank_before_lem true text = rw (trim_start-kept text) (λ k d inside. absurd (omega arith))
blank_before_lem false text =
    rw (trim_start-cut text)
    (λ k d inside.
    let early : k < prefix_len is_blank text = omega (arith, length-take (prefix_len is_blank text) text) in
    rw (get_or-take (prefix_len is_blank text) text k d early) (prefix_len_passes is_blank text k d early))

blank_after_lem : (leading trailing : Bool) (text : List ℕ) → AllPass is_blank (drop (trim_end leading trailing text) text)
blank_after_lem leading true text = rw (trim_end-kept leading text) (λ k d inside. absurd (omega (arith, length-drop (length text) text)))
blank_after_lem leading false text =
    rw (trim_end-cut leading text)
    (λ k d inside.
    let start : ℕ = trim_start leading text in
    let rest : List ℕ = drop start text in
    let end : ℕ = length text - suffix_len is_blank rest in
    let place : ℕ = end + k - start in
    let at_start = trim_start_le leading text in
    let rest_len = length-drop start text in
    let end_len = length-drop end text in
    let blanks = suffix_len-le-length is_blank rest in
    let same : start + place ≡ end + k = omega arith in
    let read : get_or rest place d ≡ get_or text (end + k) d = get_or-drop start text place d ∙ rw same refl in
    rw (get_or-drop end text k d, ← read) (suffix_passes is_blank rest place d (omega arith) (omega arith)))

first_not_blank_lem : (leading trailing : Bool) (text : List ℕ) → leading ≡ false → trim_start leading text < trim_end leading trailing text → is_blank (get_or text (trim_start leading text) 0) ≡ false
first_not_blank_lem true trailing text is some = absurd (both_ways true is refl)
first_not_blank_lem false trailing text is some =
    let bounds = trim_end_bounds false trailing text in
    let start = trim_start-cut text in
    rw start (prefix_len_stops is_blank text 0 (omega arith))

last_not_blank_lem : (leading trailing : Bool) (text : List ℕ) → trailing ≡ false → trim_start leading text < trim_end leading trailing text → is_blank (get_or text (trim_end leading trailing text - 1) 0) ≡ false
unfolding trim_end
last_not_blank_lem leading true text is some = absurd (both_ways true is refl)
last_not_blank_lem leading false text is some =
    let start : ℕ = trim_start leading text in
    let rest : List ℕ = drop start text in
    let last : ℕ = length text - suffix_len is_blank rest - 1 in
    let place : ℕ = last - start in
    let rest_len = length-drop start text in
    let blanks = suffix_len-le-length is_blank rest in
    let same : start + place ≡ last = omega arith in
    let read : get_or rest place 0 ≡ get_or text last 0 = get_or-drop start text place 0 ∙ rw same refl in
    rw (← read) (suffix_stops is_blank rest place 0 (omega arith))

leading_kept_lem : (leading : Bool) (text : List ℕ) → leading ≡ true → trim_start leading text ≡ 0
leading_kept_lem leading text is = rw is (trim_start-kept text)

trailing_kept_lem : (leading trailing : Bool) (text : List ℕ) → trailing ≡ true → trim_end leading trailing text ≡ length text
trailing_kept_lem leading trailing text is = rw is (trim_end-kept leading text)

-- `trim_start` and `trim_end` keep the part that they are to keep
pub trim_parts : (leading trailing : Bool) (text : List ℕ) → IsTrimmedTo leading trailing text (trim_start leading text) (trim_end leading trailing text)
trim_parts leading trailing text =
    let bounds = trim_end_bounds leading trailing text in
    record {
      ordered = bounds.0;
      within = bounds.1;
      blank_before = blank_before_lem leading text;
      blank_after = blank_after_lem leading trailing text;
      leading_kept = leading_kept_lem leading text;
      trailing_kept = trailing_kept_lem leading trailing text;
      first_not_blank = first_not_blank_lem leading trailing text;
      last_not_blank = last_not_blank_lem leading trailing text;
    }

pub suffix_len_within : (p : ℕ → Bool) (xs : List ℕ) → suffix_len p xs ≤ length xs
suffix_len_within p xs = suffix_len-le-length p xs
