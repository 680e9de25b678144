-- How far a text goes along paths.
use Rattle.std.proofs.Common.{◌≡◌, ◌≢◌, ℕ, zero, suc, ◌+◌, ◌-◌, ◌<◌, ◌≤◌, List, [], ◌∷◌, ◌++◌, ◌∙◌, ap, sym, refl, subst, length, take, drop, get_or, map, min, Option, None, Some, Bool, true, false, not, cond, nat_eq, nat_le, ◌&&◌, ◌⊎◌, inl, inr, eq-eqb, arith, append_assoc, length-append}
use Rattle.std.specs.Option.{option_map_or}
use Rattle.std.specs.List.{list_all}
use Rattle.std.proofs.lemmas.Bool.{eqb-true}
use Rattle.std.proofs.lemmas.Bool.Decides.{nat_tests}
use Rattle.std.proofs.lemmas.List.{append-nil, take-append-drop, length-take-le, get_or-append_right, get_or-append-add}
use Rattle.std.proofs.Math.Seq.{take-length}
use Rattle.field_paths.specs.declared.path.Root.{Root}
use Rattle.field_paths.specs.declared.path.Root.TheVariants.{Body, Attributes, Resource}
use Rattle.field_paths.specs.Place.{Place}
use Rattle.field_paths.specs.PathText.{InARow, root_name, is_name_byte, is_quote as is_path_quote, is_escaped, WritesByte, WritesMember, IsPathText, BeginsPathText, IsFaultAt}
use Rattle.expr_lang.specs.Inner.BrokenWords.{is_path}
use Rattle.expr_lang.specs.declared.lexer.Spot.{Spot}
use Rattle.expr_lang.specs.declared.lexer.Spot.TheVariants as spot
use Rattle.expr_lang.specs.declared.token.Token.{Token}
use Rattle.expr_lang.specs.declared.token.Token.TheVariants as token
use Rattle.expr_lang.specs.Begun.{longest, roots}
use Rattle.expr_lang.specs.Longest.{common, IsSpelling, IsLongest}
use Rattle.expr_lang.specs.Row.{IsToken, path_length, spot_after}
use Rattle.expr_lang.specs.Words.{is_word_byte, is_quote, begins_path}
use Rattle.expr_lang.proofs.Boundaries.{path_within}
use Rattle.expr_lang.proofs.Literals.{whole_spelling}
use Rattle.expr_lang.proofs.Longest.{OneOf, common_none, common_short, common_front, longest_of}
use Rattle.expr_lang.proofs.Spellings.{IsPathSpelled, Shape, Whole, shaped}

-- ---- bytes in common

pub common_taken : (k : ℕ) (s text : List ℕ) → k ≤ common s text → take k s ≡ take k text
common_taken zero s text h = refl
common_taken (suc k) [] text h = absurd (omega (arith, h))
common_taken (suc k) (x ∷ s) [] h = absurd (omega (arith, h))
common_taken (suc k) (x ∷ s) (y ∷ text) h = by (nat_eq x y) refl h (common_taken k s text)
  where
    by : (b : Bool) → nat_eq x y ≡ b → suc k ≤ cond b (1 + common s text) 0 → (k ≤ common s text → take k s ≡ take k text) → x ∷ take k s ≡ y ∷ take k text
    by true t h rec = ap (λ (l : List ℕ). x ∷ l) (rec (omega (arith, h))) ∙ ap (λ (z : ℕ). z ∷ take k text) (eqb-true x y t)
    by false t h rec = absurd (omega (arith, h))

-- the front of a text, and what is put behind it
pub common_front_of : (k : ℕ) (text more : List ℕ) → k ≤ length text → k ≤ common (take k text ++ more) text
common_front_of zero text more h = omega arith
common_front_of (suc k) [] more h = absurd (omega (arith, h))
common_front_of (suc k) (x ∷ text) more h = let rec = common_front_of k text more (omega (arith, h)) in rw (eq-eqb x x refl) (omega (arith, rec))

common_of_front : (k : ℕ) (text more : List ℕ) → k ≤ length text → k ≤ common text (take k text ++ more)
common_of_front zero text more h = omega arith
common_of_front (suc k) [] more h = absurd (omega (arith, h))
common_of_front (suc k) (x ∷ text) more h = let rec = common_of_front k text more (omega (arith, h)) in rw (eq-eqb x x refl) (omega (arith, rec))

-- ---- the bytes that may be those of a path

pub path_along : (a b : List ℕ) (at : Spot) → min (path_length at a) (common a b) ≤ path_length at b
path_along [] b at = omega arith
path_along (x ∷ a) [] at = omega arith
path_along (x ∷ a) (y ∷ b) at = by (nat_eq x y) refl (path_along a b)
  where
    same : (o : Option Spot) → ((next : Spot) → min (path_length next a) (common a b) ≤ path_length next b)
        → min (option_map_or (λ next. 1 + path_length next a) o 0) (1 + common a b) ≤ option_map_or (λ next. 1 + path_length next b) o 0
    same None rec = omega arith
    same (Some next) rec = let h = rec next in omega (arith, h)

    by : (e : Bool) → nat_eq x y ≡ e → ((next : Spot) → min (path_length next a) (common a b) ≤ path_length next b)
        → min (path_length at (x ∷ a)) (cond e (1 + common a b) 0) ≤ path_length at (y ∷ b)
    by true t rec = subst (λ (z : ℕ). min (path_length at (x ∷ a)) (1 + common a b) ≤ path_length at (z ∷ b)) (eqb-true x y t) (same (spot_after at x) rec)
    by false t rec = omega arith

-- a `-` stands where the path stops
abbrev Dashed : Spot → List ℕ → Type 0
Dashed at bytes = (path_length at bytes < length bytes) × (get_or bytes (path_length at bytes) 0 ≡ 45)

-- the part goes on to another spot, or stops at a `-`
abbrev Leads : Spot → List ℕ → Spot → Type 0
Leads at part then = (rest : List ℕ) → (path_length at (part ++ rest) ≡ length part + path_length then rest) ⊎ Dashed at (part ++ rest)

stays : (at : Spot) → Leads at [] at
stays at = λ (rest : List ℕ). inl (omega arith)

-- one byte that goes on, and the others
one : (at next then : Spot) (byte : ℕ) (part : List ℕ) → spot_after at byte ≡ Some next → Leads next part then → Leads at (byte ∷ part) then
one at next then byte part e l = λ (rest : List ℕ). rw e (by rest (l rest))
  where
    step : (k : ℕ) → 1 + k ≡ suc k
    step k = omega arith

    by : (rest : List ℕ) → (path_length next (part ++ rest) ≡ length part + path_length then rest) ⊎ Dashed next (part ++ rest)
        → (1 + path_length next (part ++ rest) ≡ length (byte ∷ part) + path_length then rest)
        ⊎ ((1 + path_length next (part ++ rest) < length (byte ∷ (part ++ rest))) × (get_or (byte ∷ (part ++ rest)) (1 + path_length next (part ++ rest)) 0 ≡ 45))
    by rest (inl h) = inl (omega (arith, h))
    by rest (inr h) = inr (let l = h.0 in omega (arith, l), ap (λ (k : ℕ). get_or (byte ∷ (part ++ rest)) k 0) (step (path_length next (part ++ rest))) ∙ h.1)

both : (at middle then : Spot) (front back : List ℕ) → Leads at front middle → Leads middle back then → Leads at (front ++ back) then
both at middle then front back f b = λ (rest : List ℕ). rw append_assoc (by rest (f (back ++ rest)) (b rest))
  where
    -- what stops behind the front
    shifted : (rest : List ℕ) → path_length at (front ++ (back ++ rest)) ≡ length front + path_length middle (back ++ rest) → Dashed middle (back ++ rest) → Dashed at (front ++ (back ++ rest))
    shifted rest h d =
        let all = length-append front (back ++ rest) in
        let l = d.0 in (
          omega (arith, h, all, l),
          ap (λ (k : ℕ). get_or (front ++ (back ++ rest)) k 0) h ∙ get_or-append-add front (back ++ rest) (path_length middle (back ++ rest)) 0 ∙ d.1,
        )

    by : (rest : List ℕ) → (path_length at (front ++ (back ++ rest)) ≡ length front + path_length middle (back ++ rest)) ⊎ Dashed at (front ++ (back ++ rest))
        → (path_length middle (back ++ rest) ≡ length back + path_length then rest) ⊎ Dashed middle (back ++ rest)
        → (path_length at (front ++ (back ++ rest)) ≡ length (front ++ back) + path_length then rest) ⊎ Dashed at (front ++ (back ++ rest))
    by rest (inl h) (inl k) = inl (let all = length-append front back in omega (arith, h, k, all))
    by rest (inl h) (inr d) = inr (shifted rest h d)
    by rest (inr d) k = inr d

root_leads : (root : Root) → Leads spot.Name (root_name root) spot.Name
unfolding root_name spot_after is_word_byte
root_leads Body = λ (rest : List ℕ). inl (omega arith)
root_leads Attributes = λ (rest : List ℕ). inl (omega arith)
root_leads Resource = λ (rest : List ℕ). inl (omega arith)

name_byte : (byte : ℕ) → is_name_byte byte ≡ true → (is_word_byte byte ≡ true) ⊎ (byte ≡ 45)
unfolding is_name_byte is_word_byte
name_byte byte h = grind (arith, nat_tests)

word_next : (byte : ℕ) → is_word_byte byte ≡ true → spot_after spot.Name byte ≡ Some spot.Name
unfolding spot_after
word_next byte e = rw e refl

split : (a b : Bool) → (a && b) ≡ true → (a ≡ true) × (b ≡ true)
split true b h = (refl, h)
split false b h = absurd (cc h)

name_leads : (name : List ℕ) → list_all is_name_byte name ≡ true → Leads spot.Name name spot.Name
unfolding spot_after is_word_byte
name_leads [] all = stays spot.Name
name_leads (byte ∷ name) all =
    let k = split (is_name_byte byte) (list_all is_name_byte name) all in
    by (name_byte byte k.0) (name_leads name k.1)
  where
    by : (is_word_byte byte ≡ true) ⊎ (byte ≡ 45) → Leads spot.Name name spot.Name → Leads spot.Name (byte ∷ name) spot.Name
    by (inl w) rec = one spot.Name spot.Name spot.Name byte name (word_next byte w) rec
    by (inr d) rec = λ (rest : List ℕ). inr (rw d (omega arith), rw d refl)

-- behind a root or a member
abbrev IsReady : Spot → Type 0
IsReady at = (at ≡ spot.Name) ⊎ (at ≡ spot.Closed)

dot_next : (at : Spot) → IsReady at → spot_after at 46 ≡ Some spot.Name
unfolding spot_after is_word_byte
dot_next at (inl e) = rw e refl
dot_next at (inr e) = rw e refl

bracket_next : (at : Spot) → IsReady at → spot_after at 91 ≡ Some spot.Bracket
unfolding spot_after is_word_byte
bracket_next at (inl e) = rw e refl
bracket_next at (inr e) = rw e refl

same_quote : (byte : ℕ) → is_path_quote byte ≡ true → is_quote byte ≡ true
unfolding is_path_quote is_quote
same_quote byte h = h

unequal : (a b : ℕ) → a ≢ b → nat_eq a b ≡ false
unequal a b h = grind (arith, nat_tests)

no_backslash : (quote : ℕ) → is_path_quote quote ≡ true → nat_eq 92 quote ≡ false
unfolding is_path_quote
no_backslash quote e = grind (arith, nat_tests)

inner_leads : (quote : ℕ) (inner bytes : List ℕ) → is_path_quote quote ≡ true → InARow (WritesByte quote) inner bytes → Leads (spot.Quoted quote) inner (spot.Quoted quote)
unfolding spot_after
inner_leads quote inner [] q e = rw e (stays (spot.Quoted quote))
inner_leads quote inner (byte ∷ bytes) q row = rw row.2 (both (spot.Quoted quote) (spot.Quoted quote) (spot.Quoted quote) row.0 row.1 (first row.0 row.3) (inner_leads quote row.1 bytes q row.4))
  where
    first : (part : List ℕ) → WritesByte quote part byte → Leads (spot.Quoted quote) part (spot.Quoted quote)
    first part (inl w) = rw w.0 (one (spot.Quoted quote) (spot.Quoted quote) (spot.Quoted quote) byte [] (rw (unequal byte quote w.1, unequal byte 92 w.2) refl) (stays (spot.Quoted quote)))
    first part (inr w) = rw w.0 (one (spot.Quoted quote) (spot.Escaped quote) (spot.Quoted quote) 92 (byte ∷ []) (rw (no_backslash quote q) refl)
        (one (spot.Escaped quote) (spot.Quoted quote) (spot.Quoted quote) byte [] refl (stays (spot.Quoted quote))))

member_leads : (at : Spot) (text name : List ℕ) → IsReady at → WritesMember text name → (then : Spot) × IsReady then × Leads at text then
unfolding spot_after
member_leads at text name r (inl d) = (spot.Name, inl refl, rw d.0 (one at spot.Name spot.Name 46 name (dot_next at r) (name_leads name d.2)))
member_leads at text name r (inr b) =
    let quote = b.0 in
    let inner = b.1 in (
      spot.Closed,
      inr refl,
      rw b.3 (one at spot.Bracket spot.Closed 91 (quote ∷ (inner ++ quote ∷ 93 ∷ [])) (bracket_next at r)
          (one spot.Bracket (spot.Quoted quote) spot.Closed quote (inner ++ quote ∷ 93 ∷ []) (rw (same_quote quote b.2) refl)
          (both (spot.Quoted quote) (spot.Quoted quote) spot.Closed inner (quote ∷ 93 ∷ []) (inner_leads quote inner name b.2 b.4)
          (one (spot.Quoted quote) spot.Closing spot.Closed quote (93 ∷ []) (rw (eq-eqb quote quote refl) refl)
          (one spot.Closing spot.Closed spot.Closed 93 [] refl (stays spot.Closed)))))),
    )

members_lead : (at : Spot) (text : List ℕ) (names : List (List ℕ)) → IsReady at → InARow WritesMember text names → (then : Spot) × Leads at text then
members_lead at text [] r e = (at, rw e (stays at))
members_lead at text (name ∷ names) r row =
    let first = member_leads at row.0 name r row.3 in
    let others = members_lead first.0 row.1 names first.1 row.4 in
    (others.0, rw row.2 (both at first.0 others.0 row.0 row.1 first.2 others.1))

-- all the bytes of a path go on, or a `-` stands outside quotes
runs : (text : List ℕ) (place : Place) → IsPathText text place → (path_length spot.Name text ≡ length text) ⊎ Dashed spot.Name text
runs text place is =
    let members = members_lead spot.Name is.members place.names (inl refl) is.in_a_row in
    let all = both spot.Name spot.Name members.0 (root_name place.root) is.members (root_leads place.root) members.1 in
    subst (λ (l : List ℕ). (path_length spot.Name l ≡ length l) ⊎ Dashed spot.Name l) (sym is.is)
    (subst (λ (l : List ℕ). (path_length spot.Name l ≡ length l) ⊎ Dashed spot.Name l) (append-nil (root_name place.root ++ is.members)) (by (root_name place.root ++ is.members) members.0 (all [])))
  where
    by : (l : List ℕ) (then : Spot) → (path_length spot.Name (l ++ []) ≡ length l + path_length then []) ⊎ Dashed spot.Name (l ++ []) → (path_length spot.Name (l ++ []) ≡ length (l ++ [])) ⊎ Dashed spot.Name (l ++ [])
    by l then (inl h) = inl (let n = length-append l [] in omega (arith, h, n))
    by l then (inr d) = inr d

-- ---- a path that goes on without `-`

-- the same bytes, but perhaps an `a` for a `-`
abbrev Near : List ℕ → List ℕ → Type 0
Near [] [] = Unit {0}
Near [] (y ∷ others) = ⊥
Near (x ∷ bytes) [] = ⊥
Near (x ∷ bytes) (y ∷ others) = ((y ≡ x) ⊎ ((x ≡ 45) × (y ≡ 97))) × Near bytes others

near_same : (bytes : List ℕ) → Near bytes bytes
near_same [] = tt
near_same (x ∷ bytes) = (inl refl, near_same bytes)

near_behind : (front bytes others : List ℕ) → Near bytes others → Near (front ++ bytes) (front ++ others)
near_behind [] bytes others n = n
near_behind (x ∷ front) bytes others n = (inl refl, near_behind front bytes others n)

near_parts : (front back text : List ℕ) → Near (front ++ back) text → (a : List ℕ) × (b : List ℕ) × (text ≡ a ++ b) × Near front a × Near back b
near_parts [] back text n = ([], text, refl, tt, n)
near_parts (x ∷ front) back [] n = absurd n
near_parts (x ∷ front) back (y ∷ text) n =
    let p = near_parts front back text n.1 in
    (y ∷ p.0, p.1, ap (λ (l : List ℕ). y ∷ l) p.2, (n.0, p.3), p.4)

abbrev is_no_dash : ℕ → Bool
is_no_dash byte = not (nat_eq byte 45)

kept : (x y : ℕ) → is_no_dash x ≡ true → (y ≡ x) ⊎ ((x ≡ 45) × (y ≡ 97)) → y ≡ x
kept x y h (inl e) = e
kept x y h (inr d) = absurd (let none : is_no_dash 45 ≡ true = subst (λ (z : ℕ). is_no_dash z ≡ true) d.0 h in cc none)

near_plain : (bytes text : List ℕ) → list_all is_no_dash bytes ≡ true → Near bytes text → text ≡ bytes
near_plain [] [] h n = refl
near_plain [] (y ∷ text) h n = absurd n
near_plain (x ∷ bytes) [] h n = absurd n
near_plain (x ∷ bytes) (y ∷ text) h n =
    let k = split (is_no_dash x) (list_all is_no_dash bytes) h in
    let rest = near_plain bytes text k.1 n.1 in
    let head = kept x y k.0 n.0 in
    ap (λ (z : ℕ). z ∷ text) head ∙ ap (λ (l : List ℕ). x ∷ l) rest

abbrev letter : ℕ → ℕ
letter byte = cond (nat_eq byte 45) 97 byte

near_letters : (bytes : List ℕ) → Near bytes (map letter bytes)
near_letters [] = tt
near_letters (x ∷ bytes) = (by (nat_eq x 45) refl, near_letters bytes)
  where
    by : (b : Bool) → nat_eq x 45 ≡ b → (cond b 97 x ≡ x) ⊎ ((x ≡ 45) × (cond b 97 x ≡ 97))
    by true e = inr (eqb-true x 45 e, refl)
    by false e = inl refl

letters_plain : (bytes : List ℕ) → list_all is_no_dash (map letter bytes) ≡ true
letters_plain [] = refl
letters_plain (x ∷ bytes) = by (nat_eq x 45) refl (letters_plain bytes)
  where
    by : (b : Bool) → nat_eq x 45 ≡ b → list_all is_no_dash (map letter bytes) ≡ true → (is_no_dash (cond b 97 x) && list_all is_no_dash (map letter bytes)) ≡ true
    by true e h = h
    by false e h = rw e h

name_near : (x y : ℕ) → is_name_byte x ≡ true → (y ≡ x) ⊎ ((x ≡ 45) × (y ≡ 97)) → is_name_byte y ≡ true
unfolding is_name_byte
name_near x y h (inl e) = subst (λ (z : ℕ). is_name_byte z ≡ true) (sym e) h
name_near x y h (inr d) = rw d.1 refl

names_near : (name text : List ℕ) → list_all is_name_byte name ≡ true → Near name text → list_all is_name_byte text ≡ true
names_near [] [] h n = refl
names_near [] (y ∷ text) h n = absurd n
names_near (x ∷ name) [] h n = absurd n
names_near (x ∷ name) (y ∷ text) h n =
    let k = split (is_name_byte x) (list_all is_name_byte name) h in
    rw (name_near x y k.0 n.0) (names_near name text k.1 n.1)

quote_plain : (quote : ℕ) → is_path_quote quote ≡ true → (is_no_dash quote ≡ true) × (97 ≢ quote)
unfolding is_path_quote
quote_plain quote q = (grind (arith, nat_tests), (λ (e : 97 ≡ quote). absurd (grind (arith, nat_tests))))

escaped_plain : (byte : ℕ) → is_escaped byte ≡ true → is_no_dash byte ≡ true
unfolding is_escaped is_path_quote
escaped_plain byte h = grind (arith, nat_tests)

byte_near : (quote : ℕ) (part text : List ℕ) (byte : ℕ) → is_path_quote quote ≡ true → WritesByte quote part byte → Near part text → (other : ℕ) × WritesByte quote text other
byte_near quote part [] byte q (inl w) n = absurd (subst (λ (l : List ℕ). Near l []) w.0 n)
byte_near quote part (y ∷ text) byte q (inl w) n =
    let k : Near (byte ∷ []) (y ∷ text) = subst (λ (l : List ℕ). Near l (y ∷ text)) w.0 n in
    let a = apart k.0 in
    (y, inl (ap (λ (l : List ℕ). y ∷ l) (near_plain [] text refl k.1), a.0, a.1))
  where
    apart : (y ≡ byte) ⊎ ((byte ≡ 45) × (y ≡ 97)) → (y ≢ quote) × (y ≢ 92)
    apart (inl e) = ((λ (f : y ≡ quote). w.1 (sym e ∙ f)), (λ (f : y ≡ 92). w.2 (sym e ∙ f)))
    apart (inr d) = ((λ (f : y ≡ quote). (quote_plain quote q).1 (sym d.1 ∙ f)), (λ (f : y ≡ 92). (let u = d.1 in absurd (omega (arith, u, f)))))
byte_near quote part text byte q (inr w) n =
    let k : Near (92 ∷ byte ∷ []) text = subst (λ (l : List ℕ). Near l text) w.0 n in
    (byte, inr (near_plain (92 ∷ byte ∷ []) text (rw (escaped_plain byte w.1) refl) k, w.1))

inner_near : (quote : ℕ) (name inner text : List ℕ) → is_path_quote quote ≡ true → InARow (WritesByte quote) inner name → Near inner text → (other : List ℕ) × InARow (WritesByte quote) text other
inner_near quote [] inner text q e n = ([], near_plain [] text refl (subst (λ (l : List ℕ). Near l text) e n))
inner_near quote (byte ∷ name) inner text q row n =
    let p = near_parts row.0 row.1 text (subst (λ (l : List ℕ). Near l text) row.2 n) in
    let first = byte_near quote row.0 p.0 byte q row.3 p.3 in
    let others = inner_near quote name row.1 p.1 q row.4 p.4 in
    (first.0 ∷ others.0, (p.0, p.1, p.2, first.1, others.1))

member_near : (part text name : List ℕ) → WritesMember part name → Near part text → (other : List ℕ) × WritesMember text other
member_near part [] name (inl d) n = absurd (subst (λ (l : List ℕ). Near l []) d.0 n)
member_near part (y ∷ text) name (inl d) n =
    let k : Near (46 ∷ name) (y ∷ text) = subst (λ (l : List ℕ). Near l (y ∷ text)) d.0 n in
    (text, inl (ap (λ (z : ℕ). z ∷ text) (kept 46 y refl k.0), some name text d.1 k.1, names_near name text d.2 k.1))
  where
    some : (name text : List ℕ) → name ≢ [] → Near name text → text ≢ []
    some [] text h n = absurd (h refl)
    some (x ∷ name) [] h n = absurd n
    some (x ∷ name) (y ∷ text) h n = λ (e : y ∷ text ≡ []). cc e
member_near part text name (inr b) n =
    let quote = b.0 in
    let inner = b.1 in
    let plain = (quote_plain quote b.2).0 in
    let k : Near ((91 ∷ quote ∷ []) ++ (inner ++ quote ∷ 93 ∷ [])) text = subst (λ (l : List ℕ). Near l text) b.3 n in
    let p = near_parts (91 ∷ quote ∷ []) (inner ++ quote ∷ 93 ∷ []) text k in
    let i = near_parts inner (quote ∷ 93 ∷ []) p.1 p.4 in
    let opening : p.0 ≡ 91 ∷ quote ∷ [] = near_plain (91 ∷ quote ∷ []) p.0 (rw plain refl) p.3 in
    let closing : i.1 ≡ quote ∷ 93 ∷ [] = near_plain (quote ∷ 93 ∷ []) i.1 (rw plain refl) i.4 in
    let other = inner_near quote name inner i.0 b.2 b.4 i.3 in
    (other.0, inr (quote, i.0, b.2, p.2 ∙ ap (λ (l : List ℕ). l ++ p.1) opening ∙ ap (λ (l : List ℕ). 91 ∷ quote ∷ l) (i.2 ∙ ap (λ (l : List ℕ). i.0 ++ l) closing), other.1))

members_near : (names : List (List ℕ)) (members text : List ℕ) → InARow WritesMember members names → Near members text → (others : List (List ℕ)) × InARow WritesMember text others × (length others ≡ length names)
members_near [] members text e n = ([], near_plain [] text refl (subst (λ (l : List ℕ). Near l text) e n), refl)
members_near (name ∷ names) members text row n =
    let p = near_parts row.0 row.1 text (subst (λ (l : List ℕ). Near l text) row.2 n) in
    let first = member_near row.0 p.0 name row.3 p.3 in
    let others = members_near names row.1 p.1 row.4 p.4 in
    (first.0 ∷ others.0, (p.0, p.1, p.2, first.1, others.1), (let k = others.2 in omega (arith, k)))

root_plain : (root : Root) → list_all is_no_dash (root_name root) ≡ true
unfolding root_name
root_plain Body = refl
root_plain Attributes = refl
root_plain Resource = refl

path_near : (path text : List ℕ) (place : Place) → IsPathText path place → Near path text → (other : Place) × IsPathText text other
path_near path text place is n =
    let p = near_parts (root_name place.root) is.members text (subst (λ (l : List ℕ). Near l text) is.is n) in
    let root : p.0 ≡ root_name place.root = near_plain (root_name place.root) p.0 (root_plain place.root) p.3 in
    let others = members_near place.names is.members p.1 is.in_a_row p.4 in (
      record { root = place.root; names = others.0 },
      record { members = p.1; is = p.2 ∙ ap (λ (l : List ℕ). l ++ p.1) root; in_a_row = others.1; few = (let f = is.few in let k = others.2 in omega (arith, f, k)) },
    )

-- a path that is begun can be ended with no `-`
record Ends (front : List ℕ) : Type 0 where
  rest : List ℕ
  place : Place
  goes_on : IsPathText (front ++ rest) place
  plain : list_all is_no_dash rest ≡ true

ends : (front : List ℕ) → BeginsPathText front → Ends front
ends front b =
    let k = path_near (front ++ b.rest) (front ++ map letter b.rest) b.place b.goes_on (near_behind front b.rest (map letter b.rest) (near_letters b.rest)) in
    record { rest = map letter b.rest; place = k.0; goes_on = k.1; plain = letters_plain b.rest }

all_at : (p : ℕ → Bool) (bytes : List ℕ) (i : ℕ) → list_all p bytes ≡ true → i < length bytes → p (get_or bytes i 0) ≡ true
all_at p [] i all h = absurd (omega (arith, h))
all_at p (x ∷ bytes) zero all h = (split (p x) (list_all p bytes) all).0
all_at p (x ∷ bytes) (suc i) all h = all_at p bytes i (split (p x) (list_all p bytes) all).1 (omega (arith, h))

-- ---- spellings of paths

root_begins : (root : Root) (members : List ℕ) → (members ≡ []) ⊎ ((more : List ℕ) × ((members ≡ 46 ∷ more) ⊎ (members ≡ 91 ∷ more))) → begins_path (root_name root ++ members) ≡ true
unfolding root_name is_word_byte
root_begins Body members (inl e) = rw e refl
root_begins Body members (inr (more, inl e)) = rw e refl
root_begins Body members (inr (more, inr e)) = rw e refl
root_begins Attributes members (inl e) = rw e refl
root_begins Attributes members (inr (more, inl e)) = rw e refl
root_begins Attributes members (inr (more, inr e)) = rw e refl
root_begins Resource members (inl e) = rw e refl
root_begins Resource members (inr (more, inl e)) = rw e refl
root_begins Resource members (inr (more, inr e)) = rw e refl

members_begin : (members : List ℕ) (names : List (List ℕ)) → InARow WritesMember members names → (members ≡ []) ⊎ ((more : List ℕ) × ((members ≡ 46 ∷ more) ⊎ (members ≡ 91 ∷ more)))
members_begin members [] row = inl row
members_begin members (name ∷ names) row = inr (by row.3)
  where
    by : WritesMember row.0 name → (more : List ℕ) × ((members ≡ 46 ∷ more) ⊎ (members ≡ 91 ∷ more))
    by (inl d) = (name ++ row.1, inl (row.2 ∙ ap (λ (l : List ℕ). l ++ row.1) d.0))
    by (inr b) = (b.0 ∷ ((b.1 ++ b.0 ∷ 93 ∷ []) ++ row.1), inr (row.2 ∙ ap (λ (l : List ℕ). l ++ row.1) b.3))

path_begins : (text : List ℕ) (place : Place) → IsPathText text place → begins_path text ≡ true
path_begins text place is = ap begins_path is.is ∙ root_begins place.root is.members (members_begin is.members place.names is.in_a_row)

path_whole : (text : List ℕ) (place : Place) → IsPathText text place → path_length spot.Name text ≡ length text → Whole (token.Path place) text
path_whole text place is all = inr (path_begins text place is, sym all, (place, refl, subst (λ (l : List ℕ). IsPathText l place) (sym (take-length text)) is))

path_of : (s : List ℕ) → IsSpelling (λ w. is_path w ≡ true) s → (place : Place) × IsPathSpelled place s
path_of s (w, n, bytes, is, t, e) = by w is (shaped bytes w n t)
  where
    by : (w : Token) → is_path w ≡ true → Shape w (take n bytes) → (place : Place) × IsPathSpelled place s
    by (token.Path place) is h = (place, (h.0, h.1, subst (λ (l : List ℕ). IsPathText l place) e h.2, sym e ∙ h.3))
    by _ is h = absurd (cc is)

take_short : (n : ℕ) (bytes : List ℕ) → length (take n bytes) ≤ n
take_short zero bytes = omega arith
take_short (suc n) [] = omega arith
take_short (suc n) (x ∷ bytes) = let h = take_short n bytes in omega (arith, h)

path_further : (text s : List ℕ) (place : Place) → IsPathSpelled place s → common s text ≤ path_length spot.Name text
path_further text s place (bytes, begins, is, e) =
    let n = path_length spot.Name bytes in
    let both = path_along bytes text spot.Name in
    let few : common s text ≤ common bytes text = subst (λ (l : List ℕ). common l text ≤ common bytes text) (sym e) (common_front n bytes text) in
    let short : common s text ≤ length s = common_short s text in
    let long : length s ≤ n = subst (λ (l : List ℕ). length l ≤ n) (sym e) (take_short n bytes) in
    omega (arith, both, few, short, long)

-- the whole of the bytes that may be those of a path is one
pub path_longest : (text : List ℕ) (place : Place) → begins_path text ≡ true → IsPathText (take (path_length spot.Name text) text) place
    → IsLongest (IsSpelling (λ w. is_path w ≡ true)) text (path_length spot.Name text)
path_longest text place begins is =
    let n = path_length spot.Name text in
    let s = take n text in
    let within : n ≤ length text = path_within text spot.Name in
    let t : IsToken text (token.Path place) n = inr (begins, refl, (place, refl, is)) in
    let upper : common s text ≤ n = path_further text s place (text, begins, is, refl) in
    let lower : n ≤ common (s ++ []) text = common_front_of n text [] within in
    let all : common s text ≡ n = (let same : common (s ++ []) text ≡ common s text = ap (λ (l : List ℕ). common l text) (append-nil s) in omega (arith, upper, lower, same)) in
    record {
      begins = inr (s, (token.Path place, n, text, refl, t, refl), all);
      no_further = λ s h. (let p = path_of s h in path_further text s p.0 p.1);
    }

take_take_le : (m n : ℕ) (l : List ℕ) → m ≤ n → take m (take n l) ≡ take m l
take_take_le zero n l h = refl
take_take_le (suc m) zero l h = absurd (omega (arith, h))
take_take_le (suc m) (suc n) [] h = refl
take_take_le (suc m) (suc n) (x ∷ l) h = ap (λ (t : List ℕ). x ∷ t) (take_take_le m n l (omega (arith, h)))

-- they are none, and this is where the path can't go on
module _ (text : List ℕ) (k : ℕ) (begins : begins_path text ≡ true) (fault : IsFaultAt (take (path_length spot.Name text) text) k) where
  size : length (take (path_length spot.Name text) text) ≡ path_length spot.Name text
  size = length-take-le (path_length spot.Name text) text (path_within text spot.Name)

  further : (s : List ℕ) (place : Place) → IsPathSpelled place s → common s text ≤ k
  further s place p = by (nat_le (common s text) k) refl
    where
      by : (b : Bool) → nat_le (common s text) k ≡ b → common s text ≤ k
      by true e = grind (arith, nat_tests)
      by false e =
          let n = path_length spot.Name text in
          let more : k < common s text = grind (arith, nat_tests) in
          let few : common s text ≤ n = path_further text s place p in
          let is : length (take n text) ≡ n = size in
          let front : take (k + 1) (take n text) ≡ take (k + 1) s = take_take_le (k + 1) n text (omega (arith, more, few)) ∙ sym (common_taken (k + 1) s text (omega (arith, more))) in
          let b : BeginsPathText (take (k + 1) s) = record { rest = drop (k + 1) s; place = place; goes_on = subst (λ (l : List ℕ). IsPathText l place) (sym (take-append-drop (k + 1) s)) p.2 } in
          absurd (fault.not_past (omega (arith, more, few, is)) (subst BeginsPathText (sym front) b))

  pub path_fault_longest : IsLongest (IsSpelling (λ w. is_path w ≡ true)) text k
  path_fault_longest =
      let n = path_length spot.Name text in
      let front = take k (take n text) in
      let within : n ≤ length text = path_within text spot.Name in
      let inside : k ≤ n = (let w = fault.within in let z = size in omega (arith, w, z)) in
      let front_is : front ≡ take k text = take_take_le k n text inside in
      let end = ends front fault.before in
      let s = front ++ end.rest in
      let s_is : s ≡ take k text ++ end.rest = ap (λ (l : List ℕ). l ++ end.rest) front_is in
      let lower : k ≤ common s text = subst (λ (l : List ℕ). k ≤ common l text) (sym s_is) (common_front_of k text end.rest (omega (arith, inside, within))) in
      let along : k ≤ common text s = subst (λ (l : List ℕ). k ≤ common text l) (sym s_is) (common_of_front k text end.rest (omega (arith, inside, within))) in
      let long : length front ≡ k = ap length front_is ∙ length-take-le k text (omega (arith, inside, within)) in
      let all : path_length spot.Name s ≡ length s = whole s along (path_along text s spot.Name) inside long end.rest end.plain refl (runs s end.place end.goes_on) in
      let w : Whole (token.Path end.place) s = path_whole s end.place end.goes_on all in
      let spelling : IsSpelling (λ w. is_path w ≡ true) s = whole_spelling (token.Path end.place) s refl w in
      let upper : common s text ≤ k = (let p = path_of s spelling in further s p.0 p.1) in
      record {
        begins = inr (s, spelling, omega (arith, lower, upper));
        no_further = λ s h. (let p = path_of s h in further s p.0 p.1);
      }
    where
      dash_apart : (rest : List ℕ) (i : ℕ) → list_all is_no_dash rest ≡ true → i < length rest → get_or rest i 0 ≡ 45 → ⊥
      dash_apart rest i plain h e =
          let one : is_no_dash (get_or rest i 0) ≡ true = all_at is_no_dash rest i plain h in
          let none : is_no_dash 45 ≡ true = subst (λ (y : ℕ). is_no_dash y ≡ true) e one in
          cc none

      whole : (s : List ℕ) → k ≤ common text s → min (path_length spot.Name text) (common text s) ≤ path_length spot.Name s → k ≤ path_length spot.Name text
          → length (take k (take (path_length spot.Name text) text)) ≡ k → (rest : List ℕ) → list_all is_no_dash rest ≡ true → s ≡ take k (take (path_length spot.Name text) text) ++ rest
          → (path_length spot.Name s ≡ length s) ⊎ Dashed spot.Name s → path_length spot.Name s ≡ length s
      whole s c m inside long rest plain e (inl all) = all
      whole s c m inside long rest plain e (inr (short, dash)) =
          let front = take k (take (path_length spot.Name text) text) in
          let p = path_length spot.Name s in
          let past : k ≤ p = omega (arith, c, m, inside) in
          let at : get_or rest (p - k) 0 ≡ 45 = sym (ap (λ (l : List ℕ). get_or l p 0) e ∙ get_or-append_right front rest k p 0 long past) ∙ dash in
          let sizes : length s ≡ k + length rest = ap length e ∙ length-append front rest ∙ ap (λ (n : ℕ). n + length rest) long in
          absurd (dash_apart rest (p - k) plain (omega (arith, short, sizes, past)) at)

-- ---- where no path begins, the roots are all that is begun

common_split : (a b text : List ℕ) → (common (a ++ b) text ≡ common a text) ⊎ ((rest : List ℕ) × (text ≡ a ++ rest) × (common (a ++ b) text ≡ length a + common b rest))
common_split [] b text = inr (text, refl, omega arith)
common_split (x ∷ a) b [] = inl refl
common_split (x ∷ a) b (y ∷ text) = by (nat_eq x y) refl (common_split a b text)
  where
    by : (t : Bool) → nat_eq x y ≡ t → (common (a ++ b) text ≡ common a text) ⊎ ((rest : List ℕ) × (text ≡ a ++ rest) × (common (a ++ b) text ≡ length a + common b rest))
        → (cond t (1 + common (a ++ b) text) 0 ≡ cond t (1 + common a text) 0) ⊎ ((rest : List ℕ) × (y ∷ text ≡ x ∷ (a ++ rest)) × (cond t (1 + common (a ++ b) text) 0 ≡ length (x ∷ a) + common b rest))
    by false e h = inl refl
    by true e (inl h) = inl (ap (λ (n : ℕ). 1 + n) h)
    by true e (inr (rest, is, h)) = inr (rest, ap (λ (z : ℕ). z ∷ text) (sym (eqb-true x y e)) ∙ ap (λ (l : List ℕ). x ∷ l) is, omega (arith, h))

common_whole : (a rest : List ℕ) → length a ≤ common a (a ++ rest)
common_whole [] rest = omega arith
common_whole (x ∷ a) rest = let h = common_whole a rest in rw (eq-eqb x x refl) (omega (arith, h))

-- no path begins, so no member is begun
no_member : (root : Root) (members rest : List ℕ) → begins_path (root_name root ++ rest) ≡ false → (members ≡ []) ⊎ ((more : List ℕ) × ((members ≡ 46 ∷ more) ⊎ (members ≡ 91 ∷ more))) → common members rest ≡ 0
no_member root members rest none (inl e) = rw e refl
no_member root members [] none (inr m) = common_none members
no_member root members (z ∷ rest) none (inr (more, m)) = which m
  where
    at : (c : ℕ) → members ≡ c ∷ more → (c ≡ z → begins_path (root_name root ++ z ∷ rest) ≡ true) → common members (z ∷ rest) ≡ 0
    at c e begins = ap (λ (l : List ℕ). common l (z ∷ rest)) e ∙ by (nat_eq c z) refl
      where
        by : (b : Bool) → nat_eq c z ≡ b → cond b (1 + common more rest) 0 ≡ 0
        by false t = refl
        by true t = let clash : true ≡ false = sym (begins (eqb-true c z t)) ∙ none in absurd (cc clash)

    which : (members ≡ 46 ∷ more) ⊎ (members ≡ 91 ∷ more) → common members (z ∷ rest) ≡ 0
    which (inl e) = at 46 e (λ f. root_begins root (z ∷ rest) (inr (rest, inl (ap (λ (y : ℕ). y ∷ rest) (sym f)))))
    which (inr e) = at 91 e (λ f. root_begins root (z ∷ rest) (inr (rest, inr (ap (λ (y : ℕ). y ∷ rest) (sym f)))))

root_further : (text : List ℕ) (place : Place) (members : List ℕ) → begins_path text ≡ false → (members ≡ []) ⊎ ((more : List ℕ) × ((members ≡ 46 ∷ more) ⊎ (members ≡ 91 ∷ more)))
    → common (root_name place.root ++ members) text ≤ common (root_name place.root) text
root_further text place members none m = by (common_split (root_name place.root) members text)
  where
    root : List ℕ
    root = root_name place.root

    by : (common (root_name place.root ++ members) text ≡ common (root_name place.root) text) ⊎ ((rest : List ℕ) × (text ≡ root_name place.root ++ rest) × (common (root_name place.root ++ members) text ≡ length (root_name place.root) + common members rest))
        → common (root_name place.root ++ members) text ≤ common (root_name place.root) text
    by (inl e) = omega (arith, e)
    by (inr (rest, is, h)) =
        let zero_more : common members rest ≡ 0 = no_member place.root members rest (subst (λ (l : List ℕ). begins_path l ≡ false) is none) m in
        let all : length (root_name place.root) ≤ common (root_name place.root) text = subst (λ (l : List ℕ). length (root_name place.root) ≤ common (root_name place.root) l) (sym is) (common_whole (root_name place.root) rest) in
        omega (arith, h, zero_more, all)

root_longest : (root : Root) (text : List ℕ) → common (root_name root) text ≤ longest roots text
unfolding root_name
root_longest Body text = omega arith
root_longest Attributes text = omega arith
root_longest Resource text = omega arith

root_runs : (root : Root) → path_length spot.Name (root_name root) ≡ length (root_name root)
unfolding root_name spot_after is_word_byte
root_runs Body = refl
root_runs Attributes = refl
root_runs Resource = refl

root_spelling : (root : Root) (s : List ℕ) → s ≡ root_name root → IsSpelling (λ w. is_path w ≡ true) s
root_spelling root s e =
    let place : Place = record { root = root; names = [] } in
    let is : IsPathText (root_name root) place = record { members = []; is = sym (append-nil (root_name root)); in_a_row = refl; few = omega arith } in
    subst (λ (l : List ℕ). IsSpelling (λ w. is_path w ≡ true) l) (sym e) (whole_spelling (token.Path place) (root_name root) refl (path_whole (root_name root) place is (root_runs root)))

pub roots_longest : (text : List ℕ) → begins_path text ≡ false → IsLongest (IsSpelling (λ w. is_path w ≡ true)) text (longest roots text)
unfolding root_name
roots_longest text none = record {
  begins = by (longest_of roots text).begins;
  no_further = λ s h. (let p = path_of s h in further s p.0 p.1);
}
  where
    further : (s : List ℕ) (place : Place) → IsPathSpelled place s → common s text ≤ longest roots text
    further s place p =
        let is = p.2 in
        let front : common s text ≤ common (root_name place.root) text =
        subst (λ (l : List ℕ). common l text ≤ common (root_name place.root) text) (sym is.is) (root_further text place is.members none (members_begin is.members place.names is.in_a_row)) in
        let most = root_longest place.root text in
        omega (arith, front, most)

    spelling : (s : List ℕ) → OneOf roots s → IsSpelling (λ w. is_path w ≡ true) s
    spelling s (inl e) = root_spelling Body s e
    spelling s (inr (inl e)) = root_spelling Attributes s e
    spelling s (inr (inr (inl e))) = root_spelling Resource s e
    spelling s (inr (inr (inr x))) = absurd x

    by : (longest roots text ≡ 0) ⊎ ((s : List ℕ) × OneOf roots s × (common s text ≡ longest roots text))
        → (longest roots text ≡ 0) ⊎ ((s : List ℕ) × IsSpelling (λ w. is_path w ≡ true) s × (common s text ≡ longest roots text))
    by (inl z) = inl z
    by (inr (s, o, e)) = inr (s, spelling s o, e)
