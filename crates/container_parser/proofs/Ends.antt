-- What std's searches of a text from either end give.
use Rattle.std.proofs.Common.{◌≡◌, ℕ, ◌+◌, ◌<◌, ◌≤◌, List, ◌∷◌, ◌++◌, length, take, drop, get_or, ap, ap₂, sym, ◌∙◌, Option, None, Some, IfSome, IfNone, MatchOption, Bor, arith}
use Rattle.std.proofs.lemmas.List.{take-append-drop}
use Rattle.std.proofs.lemmas.Str.Pattern.{NoCharPasses-char, drop_at_char, IsSplitOnceResult, split_parts}
use Rattle.std.specs.Str.Pattern.{RFindsChar}
use Rattle.container_parser.specs.Words.{Lacks}

abbrev Parts : Type 0
Parts = Option (Bor (List ℕ) × Bor (List ℕ))

abbrev Parted : ℕ → List ℕ → Bor (List ℕ) × Bor (List ℕ) → Type 0
Parted c bs x = (bs ≡ x.0.now ++ (c ∷ x.1.now)) × Lacks c x.0.now

first_parts : (c : ℕ) (bs : List ℕ) (r : Parts) → IsSplitOnceResult c bs r → c < 128 → MatchOption r (Lacks c bs) (Parted c bs)
first_parts c bs r h low = split_parts c bs r h low

pub first_none : (c : ℕ) (bs : List ℕ) (r : Parts) → IsSplitOnceResult c bs r → c < 128 → IfNone r (Lacks c bs)
first_none c bs None h low = first_parts c bs None h low
first_none c bs (Some x) h low = tt

pub first_lacks : (c : ℕ) (bs : List ℕ) (r : Parts) → IsSplitOnceResult c bs r → c < 128 → IfSome r (λ x. Lacks c x.0.now)
first_lacks c bs None h low = tt
first_lacks c bs (Some x) h low = (first_parts c bs (Some x) h low).1

pub first_parted : (c : ℕ) (bs : List ℕ) (r : Parts) → IsSplitOnceResult c bs r → c < 128 → IfSome r (λ x. bs ≡ x.0.now ++ c ∷ x.1.now)
first_parted c bs None h low = tt
first_parted c bs (Some x) h low = (first_parts c bs (Some x) h low).0

abbrev pub IsLastSplit : ℕ → List ℕ → Parts → Type 0
IsLastSplit c bs r = MatchOption r (RFindsChar c bs None) (λ x. (i : ℕ) × (j : ℕ) × RFindsChar c bs (Some (i, j)) × (x.0.now ≡ take i bs) × (x.1.now ≡ drop j bs) × (i ≤ j) × (length x.0.now ≡ i) × (length x.1.now + j ≡ length bs))

no_char : (c : ℕ) (bs : List ℕ) → RFindsChar c bs None → c < 128 → Lacks c bs
no_char c bs h low = λ k l. NoCharPasses-char c bs k h low l

pub last_none : (c : ℕ) (bs : List ℕ) (r : Parts) → IsLastSplit c bs r → c < 128 → IfNone r (Lacks c bs)
last_none c bs None h low = no_char c bs h low
last_none c bs (Some x) h low = tt

pub last_lacks : (c : ℕ) (bs : List ℕ) (r : Parts) → IsLastSplit c bs r → c < 128 → IfSome r (λ x. Lacks c x.1.now)
last_lacks c bs None h low = tt
last_lacks c bs (Some x) h low = λ k l.
    let e = h.4 in
    let size : length x.1.now ≡ length (drop h.1 bs) = ap length e in
    let none = NoCharPasses-char c (drop h.1 bs) k h.2.0 low (omega arith) in
    λ same. none (ap (λ (t : List ℕ). get_or t k 0) (sym e) ∙ same)

pub last_parted : (c : ℕ) (bs : List ℕ) (r : Parts) → IsLastSplit c bs r → c < 128 → IfSome r (λ x. bs ≡ x.0.now ++ c ∷ x.1.now)
last_parted c bs None h low = tt
last_parted c bs (Some x) h low =
    let front = h.3 in let back = h.4 in
    let at : drop h.0 bs ≡ c ∷ drop h.1 bs = drop_at_char c bs h.0 h.1 h.2.1 low in
    sym (take-append-drop h.0 bs) ∙ ap₂ (λ (t u : List ℕ). t ++ u) (sym front) (at ∙ ap (λ (t : List ℕ). c ∷ t) (sym back))
