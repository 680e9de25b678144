-- What stands at the ends of a text.
use Rattle.std.proofs.Common.{◌≡◌, ℕ, zero, suc, ◌+◌, ◌-◌, ◌<◌, List, ◌∙◌, ap, subst, take, get_or, arith}
use Rattle.std.proofs.lemmas.List.Sums.{prefix_len_passes, prefix_len-le-length}
use Rattle.std.proofs.lemmas.Str.{IsCharBoundary-start, IsCharBoundary-after_ascii}
use Rattle.std.specs.List.{prefix_len}
use Rattle.std.specs.Str.{IsUtf8, IsCharBoundary}
use Rattle.text_parsers.specs.Blanks.{is_blank}
use Rattle.text_parsers.proofs.Cutting.{blank_is_low}

pub blanks_end_boundary : (text : List ℕ) (n : ℕ) → IsUtf8 text → n ≡ prefix_len is_blank text → IsCharBoundary text n
blanks_end_boundary text zero u e = IsCharBoundary-start text u
blanks_end_boundary text (suc n) u e =
    let most = prefix_len-le-length is_blank text in
    let here : n < prefix_len is_blank text = omega arith in
    let plus : n + 1 ≡ suc n = omega arith in
    subst (λ k. IsCharBoundary text k) plus
    (IsCharBoundary-after_ascii text n u (omega arith) (blank_is_low (get_or text n 0) (prefix_len_passes is_blank text n 0 here)))

-- what a range from the front has
pub front_is : (k : ℕ) (text part : List ℕ) → part ≡ take (k - 0) text → part ≡ take k text
front_is k text part e = e ∙ ap (λ n. take n text) (let same : k - 0 ≡ k = omega arith in same)
