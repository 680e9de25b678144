-- Parts, joined.
use Rattle.std.proofs.Common.{◌≡◌, ◌≢◌, ◌⊎◌, ℕ, zero, suc, ◌+◌, ◌*◌, ◌<◌, ◌≤◌, List, [], ◌++◌, length, take, get_or, refl, sym, ◌∙◌, ap, arith, length-append, append_assoc, inl, inr, true, false}
use Rattle.std.specs.Prelude.{nat_lt}
use Rattle.std.proofs.lemmas.Bool.{cases_lt, lt-ltb, le-ltb}
use Rattle.std.proofs.lemmas.List.{append-nil, take_all, take-take, take-append-le, length-take-le, length-take, get_or_append_left, get_or-take}
use Rattle.outside.specs.Image.{Torn, Holds}
use Rattle.out_segments.specs.Joined.{joined}
use Rattle.out_segments.proofs.Tears.{torn_before, torn_front}

-- the first Part that isn't full is the last
pub joined_last : (size : ℕ) (parts : ℕ → List ℕ) (from count : ℕ) → length (parts from) < size → joined size parts from (suc count) ≡ parts from
unfolding joined
joined_last size parts from count short =
    let is : nat_lt (length (parts from)) size ≡ true = lt-ltb _ _ short in
    rw is (append-nil (take size (parts from)) ∙ take_all size (parts from) (omega arith))

pub joined_full : (size : ℕ) (parts : ℕ → List ℕ) (from count : ℕ) → size ≤ length (parts from) → joined size parts from (suc count) ≡ take size (parts from) ++ joined size parts (from + 1) count
unfolding joined
joined_full size parts from count full =
    let is : nat_lt (length (parts from)) size ≡ false = le-ltb _ _ full in
    rw is refl

joined_zero : (size : ℕ) (parts : ℕ → List ℕ) (from : ℕ) → length (joined size parts from zero) ≡ 0
unfolding joined
joined_zero size parts from = refl

-- Parts that are alike
pub joined_alike : (size : ℕ) (old new : ℕ → List ℕ) (from count : ℕ) → ((number : ℕ) → from ≤ number → number < from + count → new number ≡ old number) → joined size new from count ≡ joined size old from count
unfolding joined
joined_alike size old new from zero alike = refl
joined_alike size old new from (suc count) alike =
    rw (alike from (omega arith) (omega arith), joined_alike size old new (from + 1) count (λ number above below. alike number (omega arith) (omega arith))) refl

-- an empty Part is the last
pub joined_none : (size : ℕ) (parts : ℕ → List ℕ) (from count : ℕ) → 1 ≤ size → parts from ≡ [] → joined size parts from count ≡ []
unfolding joined
joined_none size parts from zero some none = refl
joined_none size parts from (suc count) some none = joined_last size parts from count (rw none (omega arith)) ∙ none

-- Where Parts are alike before a place: what is joined differs behind the full Parts before it, or not at all where one of
-- them isn't full.
abbrev pub Splits : ℕ → (ℕ → List ℕ) → (ℕ → List ℕ) → ℕ → ℕ → ℕ → Type 0
Splits size old new from before count =
    ((length (joined size old from (before + count)) < before * size) × (joined size new from (before + count) ≡ joined size old from (before + count)))
    ⊎ ((front : List ℕ) × (length front ≡ before * size) × (joined size old from (before + count) ≡ front ++ joined size old (from + before) count) × (joined size new from (before + count) ≡ front ++ joined size new (from + before) count))

joined_at : (size : ℕ) (parts : ℕ → List ℕ) (from other count more : ℕ) → from ≡ other → count ≡ more → joined size parts from count ≡ joined size parts other more
joined_at size parts from other count more same alike = rw (same, alike) refl

times_more : (number size : ℕ) → suc number * size ≡ size + number * size
times_more number size = omega arith

-- one more full Part in front
split_more : (size : ℕ) (old new : ℕ → List ℕ) (from before count : ℕ) → size ≤ length (old from) → new from ≡ old from → Splits size old new (from + 1) before count → Splits size old new from (suc before) count
split_more size old new from before count full same (inl hidden) =
    let first : length (take size (old from)) ≡ size = length-take-le size (old from) full in
    let old_is : joined size old from (suc before + count) ≡ take size (old from) ++ joined size old (from + 1) (before + count) = joined_at size old from from (suc before + count) (suc (before + count)) refl (omega arith) ∙ joined_full size old from (before + count) full in
    let new_is : joined size new from (suc before + count) ≡ take size (old from) ++ joined size new (from + 1) (before + count) = joined_at size new from from (suc before + count) (suc (before + count)) refl (omega arith) ∙ joined_full size new from (before + count) (rw same full) ∙ ap (λ bytes. take size bytes ++ joined size new (from + 1) (before + count)) same in
    inl (
      omega (arith, ap length old_is, length-append (take size (old from)) (joined size old (from + 1) (before + count)), first, hidden.0, times_more before size),
      new_is ∙ ap (λ rest. take size (old from) ++ rest) hidden.1 ∙ sym old_is,
    )
split_more size old new from before count full same (inr shown) =
    let first : length (take size (old from)) ≡ size = length-take-le size (old from) full in
    let old_is : joined size old from (suc before + count) ≡ take size (old from) ++ joined size old (from + 1) (before + count) = joined_at size old from from (suc before + count) (suc (before + count)) refl (omega arith) ∙ joined_full size old from (before + count) full in
    let new_is : joined size new from (suc before + count) ≡ take size (old from) ++ joined size new (from + 1) (before + count) = joined_at size new from from (suc before + count) (suc (before + count)) refl (omega arith) ∙ joined_full size new from (before + count) (rw same full) ∙ ap (λ bytes. take size bytes ++ joined size new (from + 1) (before + count)) same in
    inr (
      take size (old from) ++ shown.0,
      omega (arith, length-append (take size (old from)) shown.0, first, shown.1, times_more before size),
      old_is ∙ ap (λ rest. take size (old from) ++ rest) (shown.2 ∙ ap (λ rest. shown.0 ++ rest) (joined_at size old (from + 1 + before) (from + suc before) count count (omega arith) refl)) ∙ sym (append_assoc (take size (old from)) shown.0 (joined size old (from + suc before) count)),
      new_is ∙ ap (λ rest. take size (old from) ++ rest) (shown.3 ∙ ap (λ rest. shown.0 ++ rest) (joined_at size new (from + 1 + before) (from + suc before) count count (omega arith) refl)) ∙ sym (append_assoc (take size (old from)) shown.0 (joined size new (from + suc before) count)),
    )

pub split : (size : ℕ) (old new : ℕ → List ℕ) (from before count : ℕ) → ((number : ℕ) → number < from + before → new number ≡ old number) → Splits size old new from before count
split size old new from zero count alike = inr ([], omega arith, joined_at size old from (from + zero) (zero + count) count (omega arith) (omega arith), joined_at size new from (from + zero) (zero + count) count (omega arith) (omega arith))
split size old new from (suc before) count alike = elim (cases_lt (length (old from)) size) [
  | inl short ↦
      (let same : new from ≡ old from = alike from (omega arith) in
      let old_is : joined size old from (suc before + count) ≡ old from = joined_at size old from from (suc before + count) (suc (before + count)) refl (omega arith) ∙ joined_last size old from (before + count) short in
      let new_is : joined size new from (suc before + count) ≡ new from = joined_at size new from from (suc before + count) (suc (before + count)) refl (omega arith) ∙ joined_last size new from (before + count) (rw same short) in
      inl (omega (arith, ap length old_is, short, times_more before size), new_is ∙ same ∙ sym old_is))
  | inr full ↦ split_more size old new from before count full (alike from (omega arith)) (split size old new (from + 1) before count (λ number early. alike number (omega arith)))
]

-- What is joined from one Part on.
module _ (size : ℕ) (parts : ℕ → List ℕ) (place count : ℕ) where
  pub first_here : (k : ℕ) → k < size → k < length (parts place) → get_or (joined size parts place (suc count)) k 0 ≡ get_or (parts place) k 0
  first_here k within short = elim (cases_lt (length (parts place)) size) [
    | inl last ↦ rw (joined_last size parts place count last) refl
    | inr full ↦
        (let long : k < length (take size (parts place)) = omega (arith, length-take-le size (parts place) full) in
        ap (λ bytes. get_or bytes k 0) (joined_full size parts place count full) ∙ get_or_append_left (take size (parts place)) (joined size parts (place + 1) count) 0 k long ∙ get_or-take size (parts place) k 0 within)
  ]

  -- it is as long as the Part, or has as many bytes as a full one at least
  pub long_here : (k : ℕ) → k ≤ size → k ≤ length (parts place) → k ≤ length (joined size parts place (suc count))
  long_here k within short = elim (cases_lt (length (parts place)) size) [
    | inl last ↦ rw (joined_last size parts place count last) short
    | inr full ↦ omega (arith, ap length (joined_full size parts place count full), length-append (take size (parts place)) (joined size parts (place + 1) count), length-take-le size (parts place) full)
  ]

  pub begins_here : (k : ℕ) → k ≤ size → k ≤ length (joined size parts place (suc count)) → k ≤ length (parts place)
  begins_here k within long = elim (cases_lt (length (parts place)) size) [
    | inl last ↦ omega (arith, long, ap length (joined_last size parts place count last))
    | inr full ↦ omega (arith, full)
  ]

  -- a cut in this Part decides
  pub cut_here : (new : ℕ → List ℕ) (k : ℕ) → k < size → new place ≡ take k (parts place) → joined size new place (suc count) ≡ take k (joined size parts place (suc count))
  cut_here new k within is =
      let short : length (new place) < size = omega (arith, ap length is, length-take k (parts place)) in
      joined_last size new place count short ∙ is ∙ elim (cases_lt (length (parts place)) size) [
        | inl last ↦ sym (ap (take k) (joined_last size parts place count last))
        | inr full ↦
            (let long : k ≤ length (take size (parts place)) = omega (arith, length-take-le size (parts place) full) in
            sym (ap (take k) (joined_full size parts place count full) ∙ take-append-le k (take size (parts place)) (joined size parts (place + 1) count) long ∙ take-take k size (parts place) (omega arith)))
      ]

-- A write that ends in a Part, or fills one that is full already or that an empty one follows.
abbrev pub HasRoom : ℕ → (ℕ → List ℕ) → ℕ → ℕ → Type 0
HasRoom size parts place end = (end < size) ⊎ ((size ≤ length (parts place)) ⊎ (parts (place + 1) ≡ []))

module _ (size : ℕ) (some : 1 ≤ size) (old new : ℕ → List ℕ) (place count : ℕ) (alike : (number : ℕ) → place < number → new number ≡ old number) where
  -- the write fills the Part
  torn_filling : (offset bytes : ℕ) → offset + bytes ≤ size → length (old place) < size → size ≤ length (new place) → HasRoom size old place (offset + bytes) → Torn offset bytes (old place) (new place) → Torn offset bytes (joined size old place (suc count)) (joined size new place (suc count))
  torn_filling offset bytes within short full (inl ends) torn = absurd (omega (arith, torn.no_longer, ends))
  torn_filling offset bytes within short full (inr (inl filled)) torn = absurd (omega (arith, filled, short))
  torn_filling offset bytes within short full (inr (inr empty)) torn =
      let new_is : joined size new place (suc count) ≡ new place =
      joined_full size new place count full
      ∙ ap (λ rest. take size (new place) ++ rest) (joined_none size new (place + 1) count some (alike (place + 1) (omega arith) ∙ empty))
      ∙ append-nil (take size (new place))
      ∙ take_all size (new place) (omega (arith, torn.no_longer)) in
      rw (joined_last size old place count short, new_is) torn

  pub torn_here : (offset bytes : ℕ) → offset + bytes ≤ size → HasRoom size old place (offset + bytes) → Torn offset bytes (old place) (new place) → Torn offset bytes (joined size old place (suc count)) (joined size new place (suc count))
  torn_here offset bytes within room torn = elim (cases_lt (length (old place)) size) [
    | inl short ↦ elim (cases_lt (length (new place)) size) [
      | inl last ↦ rw (joined_last size old place count short, joined_last size new place count last) torn
      | inr full ↦ torn_filling offset bytes within short full room torn
    ]
    | inr full ↦
        (let still : size ≤ length (new place) = omega (arith, full, torn.no_shorter) in
        let rest : joined size new (place + 1) count ≡ joined size old (place + 1) count = joined_alike size old new (place + 1) count (λ number above below. alike number (omega arith)) in
        let new_is : joined size new place (suc count) ≡ take size (new place) ++ joined size old (place + 1) count = joined_full size new place count still ∙ ap (λ behind. take size (new place) ++ behind) rest in
        rw (joined_full size old place count full, new_is)
        (torn_before (take size (old place)) (take size (new place)) (joined size old (place + 1) count) (length-take-le size (new place) still ∙ sym (length-take-le size (old place) full)) offset bytes
        (torn_front size offset bytes (old place) (new place) full torn)))
  ]

  pub holds_here : (offset : ℕ) (bytes : List ℕ) → offset + length bytes ≤ size → HasRoom size old place (offset + length bytes) → Holds offset bytes (old place) (new place) → Holds offset bytes (joined size old place (suc count)) (joined size new place (suc count))
  holds_here offset bytes within room holds = record {
    outside = torn_here offset (length bytes) within room holds.outside;
    inside = λ k short. first_here size new place count (offset + k) (omega arith) (omega (arith, holds.reaches)) ∙ holds.inside k short;
    reaches = long_here size new place count (offset + length bytes) within holds.reaches;
  }

-- Parts that are full, so many of them
pub joined_long : (size : ℕ) (parts : ℕ → List ℕ) (from before count : ℕ) → ((number : ℕ) → number < from + before → size ≤ length (parts number)) → before * size ≤ length (joined size parts from (before + count))
joined_long size parts from zero count full = omega arith
joined_long size parts from (suc before) count full =
    let here : size ≤ length (parts from) = full from (omega arith) in
    let is : joined size parts from (suc before + count) ≡ take size (parts from) ++ joined size parts (from + 1) (before + count) = joined_at size parts from from (suc before + count) (suc (before + count)) refl (omega arith) ∙ joined_full size parts from (before + count) here in
    omega (arith, ap length is, length-append (take size (parts from)) (joined size parts (from + 1) (before + count)), length-take-le size (parts from) here, times_more before size, joined_long size parts (from + 1) before count (λ number early. full number (omega arith)))

pub joined_most : (size : ℕ) (parts : ℕ → List ℕ) (from count : ℕ) → length (joined size parts from count) ≤ count * size
joined_most size parts from zero = omega (arith, joined_zero size parts from)
joined_most size parts from (suc count) = elim (cases_lt (length (parts from)) size) [
  | inl last ↦ omega (arith, ap length (joined_last size parts from count last), times_more count size)
  | inr full ↦ omega (arith, ap length (joined_full size parts from count full), length-append (take size (parts from)) (joined size parts (from + 1) count), length-take-le size (parts from) full, times_more count size, joined_most size parts (from + 1) count)
]

-- a Part that isn't full, among so many
pub joined_short : (size : ℕ) (parts : ℕ → List ℕ) (from before count number : ℕ) → from ≤ number → number < from + before → length (parts number) < size → length (joined size parts from (before + count)) < before * size
joined_short size parts from zero count number above below short = absurd (omega arith)
joined_short size parts from (suc before) count number above below short =
    let at : joined size parts from (suc before + count) ≡ joined size parts from (suc (before + count)) = joined_at size parts from from (suc before + count) (suc (before + count)) refl (omega arith) in
    elim (cases_lt (length (parts from)) size) [
      | inl last ↦ omega (arith, ap length (at ∙ joined_last size parts from (before + count) last), times_more before size)
      | inr full ↦
          (let apart : from ≢ number = λ same. absurd (omega (arith, ap (λ n. length (parts n)) same)) in
          let later : from + 1 ≤ number = omega (arith, apart) in
          omega (arith, ap length (at ∙ joined_full size parts from (before + count) full), length-append (take size (parts from)) (joined size parts (from + 1) (before + count)), length-take-le size (parts from) full, times_more before size, joined_short size parts (from + 1) before count number later (omega arith) short))
    ]
