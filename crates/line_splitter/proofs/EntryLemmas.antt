-- What holds of the text of an entry.
use Rattle.std.proofs.Common.{◌≡◌, ◌≢◌, ℕ, ◌-◌, ◌<◌, ◌≤◌, Bool, List, [], ◌∷◌, ◌++◌, length, take, drop, slice_range, refl, ◌∙◌, inl, inr, arith, length-drop, length-take, length-append}
use Rattle.std.proofs.lemmas.Bool.{cases_eq}
use Rattle.std.proofs.lemmas.Bool.Decides.{nat_tests}
use Rattle.std.proofs.lemmas.Str.{utf8_lossy_empty, utf8_lossy_step}
use Rattle.std.specs.Str.Lossy.{utf8_lossy, utf8_valid_len, replacement_bytes, after_first_chunk}
use Rattle.line_splitter.specs.Trim.{trim_start, trim_end, trimmed}
use Rattle.line_splitter.specs.EntryText.{entry_text}
use Rattle.line_splitter.proofs.TrimLemmas.{trim_parts}

-- bytes of which all are UTF-8 stay
utf8_lossy_whole : (bs : List ℕ) → utf8_valid_len bs ≡ length bs → utf8_lossy bs ≡ bs
unfolding utf8_lossy
utf8_lossy_whole [] whole = refl
utf8_lossy_whole (b ∷ bs) whole = grind (arith, nat_tests)

-- bytes give some text
pub utf8_lossy_some : (bs : List ℕ) → 0 < length bs → 0 < length (utf8_lossy bs)
utf8_lossy_some bs some =
    elim (cases_eq (utf8_valid_len bs) (length bs)) [
      | inl whole ↦ rw (utf8_lossy_whole bs whole) some
      | inr broken ↦
          rw (utf8_lossy_step bs broken)
          (omega (arith, length-append (take (utf8_valid_len bs) bs) (replacement_bytes ++ utf8_lossy (after_first_chunk bs)), length-append replacement_bytes (utf8_lossy (after_first_chunk bs))))
    ]

-- the text of a part that was found
pub entry_text_is : (leading trailing : Bool) (token : List ℕ) (from to : ℕ) → from ≡ trim_start leading token → to ≡ trim_end leading trailing token → entry_text leading trailing token ≡ utf8_lossy (slice_range token from to)
unfolding entry_text trimmed
entry_text_is leading trailing token from to from_is to_is = rw (from_is, to_is) refl

pub entry_text_empty : (leading trailing : Bool) (token : List ℕ) (from to : ℕ) → from ≡ trim_start leading token → to ≡ trim_end leading trailing token → from ≡ to → entry_text leading trailing token ≡ []
entry_text_empty leading trailing token from to from_is to_is same =
    entry_text_is leading trailing token from to from_is to_is
    ∙ utf8_lossy_empty (slice_range token from to) (omega (arith, length-take (to - from) (drop from token)))

pub entry_text_some : (leading trailing : Bool) (token : List ℕ) (from to : ℕ) → from ≡ trim_start leading token → to ≡ trim_end leading trailing token → from ≢ to → 0 < length (entry_text leading trailing token)
entry_text_some leading trailing token from to from_is to_is apart =
    let parts = trim_parts leading trailing token in
    let ordered : from ≤ to = rw (from_is, to_is) parts.ordered in
    let within : to ≤ length token = rw to_is parts.within in
    rw (entry_text_is leading trailing token from to from_is to_is)
    (utf8_lossy_some (slice_range token from to) (omega (arith, length-take (to - from) (drop from token), length-drop from token)))
