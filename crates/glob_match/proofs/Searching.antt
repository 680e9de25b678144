-- Texts that fit units and then pieces, taken apart from the front.
use Rattle.std.proofs.Common.{◌≡◌, ℕ, zero, suc, ◌+◌, ◌*◌, ◌<◌, ◌≤◌, List, [], ◌∷◌, ◌++◌, ◌∙◌, ap, sym, refl, subst, length, get_or, true, ◌↔◌, take, inl, inr, ◌⊎◌, append_assoc, arith}
use Rattle.std.proofs.lemmas.List.{take_more}
use Rattle.std.proofs.lemmas.List.Elements.{Contains-push_cases}
use Rattle.std.proofs.lemmas.Str.{chars-nil, encodes-chars}
use Rattle.std.specs.Str.{chars, IsUtf8}
use Rattle.std.specs.Prelude.{Contains, encode_utf8_all}
use Rattle.glob_match.specs.declared.pattern.Unit.{Unit}
use Rattle.glob_match.specs.declared.pattern.Unit.TheVariants.{Star}
use Rattle.glob_match.specs.declared.pattern.Piece.{Piece}
use Rattle.glob_match.specs.declared.pattern.Piece.TheVariants.{Single, AnyOf}
use Rattle.glob_match.specs.Fits.{FitsPieces}
use Rattle.glob_match.specs.Inner.FitsBoth.{FitsBoth, FitsFrom, FitsSome}
use Rattle.glob_match.specs.Inner.TakesOne.{takes_one}
use Rattle.glob_match.proofs.Marks.{one_fits, fits_one}

pub long_unit : (unit : Unit) (units : List Unit) (pieces : List Piece) (text : List ℕ) → FitsBoth (unit ∷ units) pieces text ↔ FitsFrom unit units pieces text
long_unit unit units pieces text = (
  (λ both. record {
    front = both.in_front.0;
    rest = both.in_front.1 ++ both.rest;
    is = both.is ∙ ap (λ (t : List ℕ). t ++ both.rest) both.in_front.2 ∙ append_assoc both.in_front.0 both.in_front.1 both.rest;
    in_front = both.in_front.3;
    behind = record { front = both.in_front.1; rest = both.rest; is = refl; in_front = both.in_front.4; behind = both.behind };
  }),
  (λ from. record {
    front = from.front ++ from.behind.front;
    rest = from.behind.rest;
    is = from.is ∙ ap (λ (t : List ℕ). from.front ++ t) from.behind.is ∙ sym (append_assoc from.front from.behind.front from.behind.rest);
    in_front = (from.front, from.behind.front, refl, from.in_front, from.behind.in_front);
    behind = from.behind.behind;
  }),
)

pub long_none : (text : List ℕ) → (FitsBoth [] [] text → text ≡ []) × (text ≡ [] → FitsBoth [] [] text)
long_none text = (
  (λ both. both.is ∙ ap (λ (t : List ℕ). t ++ both.rest) both.in_front ∙ both.behind),
  (λ e. record { front = []; rest = []; is = e; in_front = refl; behind = refl }),
)

pub long_single : (unit : Unit) (pieces : List Piece) (text : List ℕ) → FitsBoth [] (Single unit ∷ pieces) text ↔ FitsFrom unit [] pieces text
long_single unit pieces text = (
  (λ both. record {
    front = both.behind.0;
    rest = both.behind.1;
    is = both.is ∙ ap (λ (t : List ℕ). t ++ both.rest) both.in_front ∙ both.behind.2;
    in_front = both.behind.3;
    behind = record { front = []; rest = both.behind.1; is = refl; in_front = refl; behind = both.behind.4 };
  }),
  (λ from. record {
    front = [];
    rest = text;
    is = refl;
    in_front = refl;
    behind = (from.front, from.behind.rest, from.is ∙ ap (λ (t : List ℕ). from.front ++ t) (from.behind.is ∙ ap (λ (t : List ℕ). t ++ from.behind.rest) from.behind.in_front), from.in_front, from.behind.behind);
  }),
)

pub long_any : (parts : List (List Unit)) (pieces : List Piece) (text : List ℕ) → FitsBoth [] (AnyOf parts ∷ pieces) text ↔ FitsSome parts pieces text
long_any parts pieces text = (
  (λ both. record {
    part = both.behind.3.0;
    is_one = both.behind.3.1;
    fits = record {
      front = both.behind.0;
      rest = both.behind.1;
      is = both.is ∙ ap (λ (t : List ℕ). t ++ both.rest) both.in_front ∙ both.behind.2;
      in_front = both.behind.3.2;
      behind = both.behind.4;
    };
  }),
  (λ some. record {
    front = [];
    rest = text;
    is = refl;
    in_front = refl;
    behind = (some.fits.front, some.fits.rest, some.fits.is, (some.part, some.is_one, some.fits.in_front), some.fits.behind);
  }),
)

pub pieces_long : (pieces : List Piece) (text : List ℕ) → FitsBoth [] pieces text ↔ FitsPieces pieces text
pieces_long pieces text = (
  (λ both. subst (FitsPieces pieces) (sym (both.is ∙ ap (λ (t : List ℕ). t ++ both.rest) both.in_front)) both.behind),
  (λ fits. record { front = []; rest = text; is = refl; in_front = refl; behind = fits }),
)

-- a star
pub star_here : (units : List Unit) (pieces : List Piece) (text : List ℕ) → FitsBoth units pieces text → FitsFrom Star units pieces text
star_here units pieces text both = record { front = []; rest = text; is = refl; in_front = tt; behind = both }

pub star_more : (units : List Unit) (pieces : List Piece) (text rest : List ℕ) (c : ℕ) → text ≡ c ∷ rest → (FitsBoth units pieces text → ⊥) → FitsFrom Star units pieces text ↔ FitsFrom Star units pieces rest
star_more units pieces text rest c is never = (
  (λ from. by from.front from.rest from.is from.behind),
  (λ from. record { front = c ∷ from.front; rest = from.rest; is = is ∙ ap (λ (t : List ℕ). c ∷ t) from.is; in_front = tt; behind = from.behind }),
)
  where
    by : (front behind : List ℕ) → text ≡ front ++ behind → FitsBoth units pieces behind → FitsFrom Star units pieces rest
    by [] behind e both = absurd (never (subst (FitsBoth units pieces) (sym e) both))
    by (d ∷ front) behind e both = let same : rest ≡ front ++ behind = tail (sym is ∙ e) in record { front = front; rest = behind; is = same; in_front = tt; behind = both }
      where
        tail : {a b : ℕ} {x y : List ℕ} → a ∷ x ≡ b ∷ y → x ≡ y
        tail h = cc h

pub star_end : (units : List Unit) (pieces : List Piece) (text : List ℕ) → text ≡ [] → (FitsBoth units pieces text → ⊥) → FitsFrom Star units pieces text → ⊥
star_end units pieces text is never from = by from.front from.rest from.is from.behind
  where
    by : (front behind : List ℕ) → text ≡ front ++ behind → FitsBoth units pieces behind → ⊥
    by [] behind e both = never (subst (FitsBoth units pieces) (sym e) both)
    by (d ∷ front) behind e both = cc (is, e)

-- a unit that takes one character
pub one_more : (unit : Unit) (units : List Unit) (pieces : List Piece) (text rest : List ℕ) (c : ℕ) → (unit ≡ Star → ⊥) → text ≡ c ∷ rest → FitsFrom unit units pieces text ↔ (takes_one unit c ≡ true) × FitsBoth units pieces rest
one_more unit units pieces text rest c other is = (
  (λ from. by from),
  (λ both. record { front = c ∷ []; rest = rest; is = is; in_front = one_fits unit c both.0; behind = both.1 }),
)
  where
    by : FitsFrom unit units pieces text → (takes_one unit c ≡ true) × FitsBoth units pieces rest
    by from =
        let one = fits_one unit from.front other from.in_front in
        let whole : c ∷ rest ≡ one.0 ∷ from.rest = sym is ∙ from.is ∙ ap (λ (t : List ℕ). t ++ from.rest) one.1 in
        let same : one.0 ≡ c = cc whole in
        let same_rest : from.rest ≡ rest = cc whole in
        (subst (λ (x : ℕ). takes_one unit x ≡ true) same one.2, subst (FitsBoth units pieces) same_rest from.behind)

pub one_end : (unit : Unit) (units : List Unit) (pieces : List Piece) (text : List ℕ) → (unit ≡ Star → ⊥) → text ≡ [] → FitsFrom unit units pieces text → ⊥
one_end unit units pieces text other is from =
    let one = fits_one unit from.front other from.in_front in
    let whole : [] ≡ one.0 ∷ from.rest = sym is ∙ from.is ∙ ap (λ (t : List ℕ). t ++ from.rest) one.1 in cc whole

-- how much is left to try
abbrev pub sizes : List (List Unit) → ℕ
sizes [] = 0
sizes (part ∷ parts) = sizes parts + 3 * length part

abbrev pub weight : List Piece → ℕ
weight [] = 0
weight (Single unit ∷ pieces) = weight pieces + 3
weight (AnyOf parts ∷ pieces) = weight pieces + sizes parts + 3

pub size_below : (parts : List (List Unit)) (place : ℕ) (part : List Unit) → place < length parts → part ≡ get_or parts place part → 3 * length part ≤ sizes parts
size_below [] place part l e = absurd (omega arith)
size_below (first ∷ parts) zero part l e = let same : length part ≡ length first = ap length e in omega arith
size_below (first ∷ parts) (suc place) part l e = omega (arith, size_below parts place part (omega arith) e)

pub nothing : {A : Type 0} (xs : List A) → length xs ≡ 0 → xs ≡ []
nothing [] e = refl
nothing (x ∷ xs) e = absurd (omega arith)

pub no_bytes : (text : List ℕ) → length text ≡ 0 → chars text ≡ []
no_bytes text e = ap chars (nothing text e) ∙ chars-nil

-- one part more that doesn't fit
pub some_more : (parts : List (List Unit)) (place : ℕ) (part : List Unit) (pieces : List Piece) (text : List ℕ) → place < length parts → part ≡ get_or parts place part
    → (FitsSome (take place parts) pieces text → ⊥) → (FitsBoth part pieces text → ⊥) → FitsSome (take (place + 1) parts) pieces text → ⊥
some_more parts place part pieces text l is before never some =
    let more : take (place + 1) parts ≡ take place parts ++ part ∷ [] = take_more parts place part l ∙ ap (λ (y : List Unit). take place parts ++ y ∷ []) (sym is) in
    by (Contains-push_cases (take place parts) part some.part (rw more at some.is_one))
  where
    by : Contains (take place parts) some.part ⊎ (part ≡ some.part) → ⊥
    by (inl c) = before (record { part = some.part; is_one = c; fits = some.fits })
    by (inr e) = never (subst (λ (p : List Unit). FitsBoth p pieces text) (sym e) some.fits)

pub no_characters : (text : List ℕ) → IsUtf8 text → chars text ≡ [] → length text ≡ 0
no_characters text utf8 e = ap length (sym (encodes-chars text utf8) ∙ ap encode_utf8_all e)
