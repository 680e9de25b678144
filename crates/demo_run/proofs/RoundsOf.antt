-- The rounds that write to a file, and what they write.
use Rattle.std.proofs.Common.{◌≡◌, ℕ, zero, suc, ◌+◌, ◌*◌, ◌≤◌, ◌==◌, List, [], ◌∷◌, ◌++◌, length, Bool, true, false, refl, sym, ap, ◌∙◌, arith, length-append}
use Rattle.std.specs.Prelude.{if◌then◌else◌, All}
use Rattle.std.proofs.lemmas.Grind.{flat_map-append}
use Rattle.std.proofs.lemmas.List.{append-nil}
use Rattle.std.proofs.lemmas.List.Elements.{All-append, All-cons, All-nil}
use Rattle.demo_run.specs.Script.{line_of}
use Rattle.demo_run.proofs.Contents.{content, file_of_round}
use Rattle.demo_run.proofs.Fronts.{line_short}
use Rattle.demo_run.proofs.Ruled.{AreRounds, lines_of_rounds}

-- those of the first n rounds, in order
abbrev pub rounds_of : ℕ → ℕ → List ℕ
rounds_of zero file = []
rounds_of (suc n) file = rounds_of n file ++ (if file_of_round (suc n) == file then suc n ∷ [] else [])

line_here : (round : ℕ) (here : Bool) → (if here then line_of round else []) ≡ lines_of_rounds (if here then round ∷ [] else [])
line_here round true = sym (append-nil (line_of round))
line_here round false = refl

pub content_is : (n file : ℕ) → content n file ≡ lines_of_rounds (rounds_of n file)
content_is zero file = refl
content_is (suc n) file =
    let here : Bool = file_of_round (suc n) == file in
    ap (λ (b : List ℕ). b ++ (if here then line_of (suc n) else [])) (content_is n file)
    ∙ ap (λ (b : List ℕ). lines_of_rounds (rounds_of n file) ++ b) (line_here (suc n) here)
    ∙ sym (flat_map-append line_of (rounds_of n file) (if here then suc n ∷ [] else []))

one_here : (round most : ℕ) (here : Bool) → round ≤ most → All (λ (r : ℕ). r ≤ most) (if here then round ∷ [] else [])
one_here round most true few = All-cons (λ (r : ℕ). r ≤ most) round [] few (All-nil (λ (r : ℕ). r ≤ most))
one_here round most false few = All-nil (λ (r : ℕ). r ≤ most)

pub are_within : (most n file : ℕ) → n ≤ most → All (λ (r : ℕ). r ≤ most) (rounds_of n file)
are_within most zero file few = All-nil (λ (r : ℕ). r ≤ most)
are_within most (suc n) file few =
    All-append (λ (r : ℕ). r ≤ most) (rounds_of n file) (if file_of_round (suc n) == file then suc n ∷ [] else [])
    (are_within most n file (omega (arith, few))) (one_here (suc n) most (file_of_round (suc n) == file) few)

pub are_rounds : (n file : ℕ) → n ≤ 1000 → AreRounds (rounds_of n file)
are_rounds n file few = are_within 1000 n file few

-- one, where it is so
abbrev pub once : Bool → ℕ
once true = 1
once false = 0

length_here : (round : ℕ) (here : Bool) → length (if here then round ∷ [] else []) ≡ once here
length_here round true = refl
length_here round false = refl

-- a round adds one to those of its file
pub one_more : (n file : ℕ) → length (rounds_of (suc n) file) ≡ length (rounds_of n file) + once (file_of_round (suc n) == file)
one_more n file =
    length-append (rounds_of n file) (if file_of_round (suc n) == file then suc n ∷ [] else [])
    ∙ ap (λ (k : ℕ). length (rounds_of n file) + k) (length_here (suc n) (file_of_round (suc n) == file))

no_more : (here : Bool) → once here ≤ 1
no_more true = omega arith
no_more false = omega arith

pub few_rounds : (n file : ℕ) → length (rounds_of n file) ≤ n
few_rounds zero file = omega arith
few_rounds (suc n) file = omega (arith, one_more n file, few_rounds n file, no_more (file_of_round (suc n) == file))

short_here : (round : ℕ) (here : Bool) → round ≤ 1000 → length (if here then line_of round else []) ≤ 16
short_here round true few = line_short round few
short_here round false few = omega arith

pub content_short : (n file : ℕ) → n ≤ 1000 → length (content n file) ≤ n * 16
content_short zero file few = omega arith
content_short (suc n) file few =
    let here : Bool = file_of_round (suc n) == file in
    omega (arith, length-append (content n file) (if here then line_of (suc n) else []), content_short n file (omega (arith, few)), short_here (suc n) here few)
