-- Texts in a row, and what stands between two places of a text.
use Rattle.std.proofs.Common.{◌≡◌, ℕ, ◌+◌, ◌-◌, ◌<◌, ◌≤◌, List, [], ◌∷◌, ◌++◌, ◌∙◌, ap, sym, refl, length, take, drop, get_or, append_assoc, arith, length-append, length-drop, drop-drop}
use Rattle.std.proofs.Math.Seq.{take-append_seam, drop-append_seam, take-length, drop-cons}
use Rattle.std.proofs.lemmas.Grind.{common_steps}
use Rattle.std.proofs.lemmas.List.{append-nil, take-append-drop, length-take-le, drop-take}
use Rattle.glob_match.specs.Fits.{InARow}
use Rattle.glob_match.specs.Inner.Leads.{between}

module _ {A : Type 0} (Fits : A → List ℕ → Type 0) where
  pub row_push : (xs : List A) (x : A) (front back : List ℕ) → InARow Fits xs front → Fits x back → InARow Fits (xs ++ x ∷ []) (front ++ back)
  row_push [] x front back row fits = (back, [], ap (λ (t : List ℕ). t ++ back) row ∙ sym (append-nil back), fits, refl)
  row_push (y ∷ ys) x front back row fits =
      (row.0, row.1 ++ back, ap (λ (t : List ℕ). t ++ back) row.2 ∙ append_assoc row.0 row.1 back, row.3, row_push ys x row.1 back row.4 fits)

  pub row_last : (xs : List A) (x : A) (text : List ℕ) → InARow Fits (xs ++ x ∷ []) text → (front : List ℕ) × (back : List ℕ) × (text ≡ front ++ back) × InARow Fits xs front × Fits x back
  row_last [] x text row = ([], row.0, row.2 ∙ ap (λ (t : List ℕ). row.0 ++ t) row.4 ∙ append-nil row.0, refl, row.3)
  row_last (y ∷ ys) x text row =
      let last = row_last ys x row.1 row.4 in
      (row.0 ++ last.0, last.1, row.2 ∙ ap (λ (t : List ℕ). row.0 ++ t) last.2 ∙ sym (append_assoc row.0 last.0 last.1), (row.0, last.0, refl, row.3, last.3), last.4)

pub length-between : (text : List ℕ) (from to : ℕ) → from ≤ to → to ≤ length text → length (between text from to) ≡ to - from
length-between text from to l m = length-take-le (to - from) (drop from text) (omega (arith, length-drop from text))

pub between-append : (text : List ℕ) (from mid to : ℕ) → from ≤ mid → mid ≤ to → to ≤ length text → between text from to ≡ between text from mid ++ between text mid to
between-append text from mid to l m h =
    let rest = drop from text in
    let whole : between text from to ≡ take (mid - from) (between text from to) ++ drop (mid - from) (between text from to) = sym (take-append-drop (mid - from) (between text from to)) in
    let front : take (mid - from) (between text from to) ≡ between text from mid = fronts rest (mid - from) (to - from) (omega arith) in
    let back : drop (mid - from) (between text from to) ≡ between text mid to = backs rest (mid - from) (to - mid) (to - from) (omega arith) ∙ ap (take (to - mid)) (drops text from (mid - from) mid (omega arith)) in
    whole ∙ ap (λ (t : List ℕ). t ++ drop (mid - from) (between text from to)) front ∙ ap (λ (t : List ℕ). between text from mid ++ t) back
  where
    fronts : (xs : List ℕ) (n m : ℕ) → n ≤ m → take n (take m xs) ≡ take n xs
    fronts xs n m h = grind (arith, common_steps)

    backs : (xs : List ℕ) (n k m : ℕ) → m ≡ n + k → drop n (take m xs) ≡ take k (drop n xs)
    backs xs n k m e = rw e (drop-take n k xs)

    drops : (xs : List ℕ) (n k m : ℕ) → m ≡ n + k → drop k (drop n xs) ≡ drop m xs
    drops xs n k m e = grind (arith, common_steps, drop-drop)

-- the parts of what stands between two places stand between places
pub between-parts : (text : List ℕ) (from to : ℕ) (front back : List ℕ) → from ≤ to → to ≤ length text → between text from to ≡ front ++ back
    → (from + length front ≤ to) × (between text from (from + length front) ≡ front) × (between text (from + length front) to ≡ back)
between-parts text from to front back l m e =
    let size : length (between text from to) ≡ to - from = length-between text from to l m in
    let within : from + length front ≤ to = omega (arith, size, ap length e, length-append front back) in
    let parts : between text from (from + length front) ++ between text (from + length front) to ≡ front ++ back = sym (between-append text from (from + length front) to (omega arith) within m) ∙ e in
    let long : length (between text from (from + length front)) ≡ length front = length-between text from (from + length front) (omega arith) (omega arith) ∙ gone from (length front) in
    let first : between text from (from + length front) ≡ front = fronts (between text from (from + length front)) front (between text (from + length front) to) back long parts in
    (within, first, backs (between text from (from + length front)) front (between text (from + length front) to) back long parts)
  where
    gone : (a b : ℕ) → a + b - a ≡ b
    gone a b = omega arith

    fronts : (a b x y : List ℕ) → length a ≡ length b → a ++ x ≡ b ++ y → a ≡ b
    fronts a b x y h e = sym (take-append_seam a x) ∙ ap (λ (n : ℕ). take n (a ++ x)) h ∙ ap (take (length b)) e ∙ take-append_seam b y

    backs : (a b x y : List ℕ) → length a ≡ length b → a ++ x ≡ b ++ y → x ≡ y
    backs a b x y h e = sym (drop-append_seam a x) ∙ ap (λ (n : ℕ). drop n (a ++ x)) h ∙ ap (drop (length b)) e ∙ drop-append_seam b y

pub between-same : (text : List ℕ) (place : ℕ) → between text place place ≡ []
between-same text place = let none : place - place ≡ 0 = omega arith in ap (λ (n : ℕ). take n (drop place text)) none

pub between-one : (text : List ℕ) (place : ℕ) → place < length text → between text place (place + 1) ≡ get_or text place 0 ∷ []
between-one text place l =
    let one : place + 1 - place ≡ 1 = omega arith in
    ap (λ (n : ℕ). take n (drop place text)) one ∙ ap (take 1) (drop-cons text place 0 l)

pub between-all : (text : List ℕ) → between text 0 (length text) ≡ text
between-all text =
    let all : length text - 0 ≡ length text = omega arith in
    ap (λ (n : ℕ). take n text) all ∙ take-length text
