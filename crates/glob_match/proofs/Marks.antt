-- Where units, parts and pieces lead.
use Rattle.std.proofs.Common.{◌≡◌, ℕ, zero, suc, ◌+◌, ◌-◌, ◌<◌, ◌≤◌, List, [], ◌∷◌, ◌++◌, ◌∙◌, ap, sym, refl, subst, length, take, get_or, Bool, true, false, ◌&&◌, ◌||◌, inl, inr, ◌⊎◌, add-one, arith}
use Rattle.std.proofs.Math.ListN.{get_or-eq_default}
use Rattle.std.proofs.lemmas.Bool.{cases_lt, and_parts, and_from, or_cases, or_left, or_right, eqb-true, eq-eqb}
use Rattle.std.proofs.lemmas.List.{take_more}
use Rattle.std.proofs.lemmas.List.Elements.{Contains-append_left, Contains-push, Contains-push_cases}
use Rattle.std.proofs.lemmas.List.Folds.{list_any_more}
use Rattle.std.specs.Prelude.{Contains}
use Rattle.std.specs.List.{list_any}
use Rattle.glob_match.specs.declared.pattern.Unit.{Unit}
use Rattle.glob_match.specs.declared.pattern.Unit.TheVariants.{Plain, Escaped, One, Star, Class}
use Rattle.glob_match.specs.declared.pattern.Piece.TheVariants.{AnyOf}
use Rattle.glob_match.specs.Fits.{InARow, FitsUnit, FitsUnits, FitsPiece}
use Rattle.glob_match.specs.Inner.Leads.{Leads, IsMarked, between}
use Rattle.glob_match.specs.Inner.TakesOne.{takes_one}
use Rattle.glob_match.proofs.Rows.{row_push, row_last, length-between, between-append, between-parts, between-same, between-one, between-all}

-- only places are marked
pub marked_within : (marks : List Bool) (place : ℕ) → IsMarked marks place → place < length marks
marked_within marks place h = by (cases_lt place (length marks))
  where
    by : (place < length marks) ⊎ (length marks ≤ place) → place < length marks
    by (inl l) = l
    by (inr l) = let none : get_or marks place false ≡ false = get_or-eq_default marks false l in absurd (cc (none, h))

-- nothing leads nowhere else
pub leads_nothing : {A : Type 0} (Fits : A → List ℕ → Type 0) (text : List ℕ) (marks : List Bool) → length marks ≡ length text + 1 → Leads (InARow Fits []) text marks marks
leads_nothing Fits text marks size = record {
  size = size;
  sound = λ to m. let l = marked_within marks to m in (to, omega arith, omega arith, m, between-same text to);
  complete = λ from to l m marked none.
      let same : from ≡ to = omega (arith, length-between text from to l m, ap length none) in subst (λ (n : ℕ). IsMarked marks n) same marked;
}

-- one step behind another
leads_then : (First Then Both : List ℕ → Type 0) (text : List ℕ) (before middle after : List Bool)
    → ((front back : List ℕ) → First front → Then back → Both (front ++ back))
    → ((whole : List ℕ) → Both whole → (front : List ℕ) × (back : List ℕ) × (whole ≡ front ++ back) × First front × Then back)
    → Leads First text before middle → Leads Then text middle after → Leads Both text before after
leads_then First Then Both text before middle after join cut first then_ = record {
  size = then_.size;
  sound = λ to m.
      let second = then_.sound to m in
      let one = first.sound second.0 second.3 in
      let whole = between-append text one.0 second.0 to one.1 second.1 second.2 in
      (one.0, omega (arith, one.1, second.1), second.2, one.3, subst Both (sym whole) (join (between text one.0 second.0) (between text second.0 to) one.4 second.4));
  complete = λ from to l m marked fits.
      let parts = cut (between text from to) fits in
      let places = between-parts text from to parts.0 parts.1 l m parts.2 in
      let middle_place = from + length parts.0 in
      let reached = first.complete from middle_place (omega arith) (omega (arith, places.0)) marked (subst First (sym places.1) parts.3) in
      then_.complete middle_place to places.0 m reached (subst Then (sym places.2) parts.4);
}

-- one more in a row
pub leads_more : {A : Type 0} (Fits : A → List ℕ → Type 0) (xs : List A) (place : ℕ) (x : A) (text : List ℕ) (before middle after : List Bool) → place < length xs → x ≡ get_or xs place x
    → Leads (InARow Fits (take place xs)) text before middle → Leads (Fits x) text middle after → Leads (InARow Fits (take (place + 1) xs)) text before after
leads_more Fits xs place x text before middle after l is first then_ =
    let more : take (place + 1) xs ≡ take place xs ++ x ∷ [] = take_more xs place x l ∙ ap (λ (y : _). take place xs ++ y ∷ []) (sym is) in
    rw more (leads_then (InARow Fits (take place xs)) (Fits x) (InARow Fits (take place xs ++ x ∷ [])) text before middle after
    (λ front back row fits. row_push Fits (take place xs) x front back row fits)
    (λ whole row. row_last Fits (take place xs) x whole row) first then_)

-- units
pub one_fits : (unit : Unit) (c : ℕ) → takes_one unit c ≡ true → FitsUnit unit (c ∷ [])
one_fits (Plain own) c h = ap (λ (x : ℕ). x ∷ []) (eqb-true c own h)
one_fits (Escaped own) c h = ap (λ (x : ℕ). x ∷ []) (eqb-true c own h)
one_fits One c h = (c, refl)
one_fits Star c h = tt
one_fits (Class set) c h = (c, refl, h)

pub fits_one : (unit : Unit) (text : List ℕ) → (unit ≡ Star → ⊥) → FitsUnit unit text → (c : ℕ) × (text ≡ c ∷ []) × (takes_one unit c ≡ true)
fits_one (Plain own) text h fits = (own, fits, eq-eqb own own refl)
fits_one (Escaped own) text h fits = (own, fits, eq-eqb own own refl)
fits_one One text h fits = (fits.0, fits.1, refl)
fits_one Star text h fits = absurd (h refl)
fits_one (Class set) text h fits = (fits.0, fits.1, fits.2)

pub leads_one : (unit : Unit) (text : List ℕ) (before after : List Bool) → (unit ≡ Star → ⊥) → length before ≡ length text + 1 → length after ≡ length text + 1 → get_or after 0 false ≡ false
    → ((k : ℕ) → k < length text → get_or after (k + 1) false ≡ (get_or before k false && takes_one unit (get_or text k 0))) → Leads (FitsUnit unit) text before after
leads_one unit text before after no_star from_size size first others = record {
  size = size;
  sound = λ to m. behind to m (marked_within after to m);
  complete = λ from to l m marked fits.
      let one = fits_one unit (between text from to) no_star fits in
      let step : to ≡ from + 1 = omega (arith, length-between text from to l m, ap length one.1) in
      let inside : from < length text = omega arith in
      let here : get_or text from 0 ∷ [] ≡ one.0 ∷ [] = sym (between-one text from inside) ∙ ap (between text from) (sym step) ∙ one.1 in
      let same : get_or text from 0 ≡ one.0 = cc here in
      rw step (others from inside ∙ and_from (get_or before from false) (takes_one unit (get_or text from 0)) marked (rw same one.2));
}
  where
    behind : (to : ℕ) → IsMarked after to → to < length after → (from : ℕ) × (from ≤ to) × (to ≤ length text) × IsMarked before from × FitsUnit unit (between text from to)
    behind zero m l = absurd (cc (first, m))
    behind (suc k) m l =
        let inside : k < length text = omega arith in
        let both = and_parts (get_or before k false) (takes_one unit (get_or text k 0)) (sym (others k inside) ∙ rw add-one m) in
        (k, omega arith, omega arith, both.0, subst (FitsUnit unit) (sym (ap (between text k) (sym (add-one k)) ∙ between-one text k inside)) (one_fits unit (get_or text k 0) both.1))

-- some mark up to a place
any_up_to : (marks : List Bool) (to : ℕ) → to < length marks → list_any (λ mark. mark) (take (to + 1) marks) ≡ true → (from : ℕ) × (from ≤ to) × IsMarked marks from
any_up_to marks zero l h = by (or_cases (list_any (λ mark. mark) (take 0 marks)) (get_or marks 0 false) (sym (list_any_more (λ mark. mark) marks 0 false l) ∙ h))
  where
    by : (false ≡ true) ⊎ (get_or marks 0 false ≡ true) → (from : ℕ) × (from ≤ 0) × IsMarked marks from
    by (inl e) = absurd (cc e)
    by (inr e) = (0, omega arith, e)
any_up_to marks (suc k) l h = by (or_cases (list_any (λ mark. mark) (take (suc k) marks)) (get_or marks (suc k) false) (sym (list_any_more (λ mark. mark) marks (suc k) false l) ∙ h)) (λ below. any_up_to marks k (omega arith) below)
  where
    by : (list_any (λ mark. mark) (take (suc k) marks) ≡ true) ⊎ (get_or marks (suc k) false ≡ true) → (list_any (λ mark. mark) (take (k + 1) marks) ≡ true → (from : ℕ) × (from ≤ k) × IsMarked marks from) → (from : ℕ) × (from ≤ suc k) × IsMarked marks from
    by (inl e) rest = let found = rest (rw add-one e) in (found.0, omega (arith, found.1), found.2)
    by (inr e) rest = (suc k, omega arith, e)

up_to_any : (marks : List Bool) (from more : ℕ) → from + more < length marks → IsMarked marks from → list_any (λ mark. mark) (take (from + more + 1) marks) ≡ true
up_to_any marks from zero l m =
    let here : from + 0 ≡ from = omega arith in
    rw here (list_any_more (λ mark. mark) marks from false (omega arith) ∙ or_right (list_any (λ mark. mark) (take from marks)) (get_or marks from false) m)
up_to_any marks from (suc k) l m =
    let next : from + suc k ≡ from + k + 1 = omega arith in
    let before = up_to_any marks from k (omega arith) m in
    rw next (list_any_more (λ mark. mark) marks (from + k + 1) false (omega arith) ∙ or_left (list_any (λ mark. mark) (take (from + k + 1) marks)) (get_or marks (from + k + 1) false) before)

pub leads_any : (text : List ℕ) (before after : List Bool) → length before ≡ length text + 1 → length after ≡ length text + 1
    → ((k : ℕ) → k < length before → get_or after k false ≡ list_any (λ mark. mark) (take (k + 1) before)) → Leads (FitsUnit Star) text before after
leads_any text before after from_size size all = record {
  size = size;
  sound = λ to m.
      let inside = marked_within after to m in
      let found = any_up_to before to (omega arith) (sym (all to (omega arith)) ∙ m) in
      (found.0, found.1, omega arith, found.2, tt);
  complete = λ from to l m marked _.
      let way : from + (to - from) ≡ to = omega arith in
      all to (omega arith) ∙ subst (λ (n : ℕ). list_any (λ mark. mark) (take (n + 1) before) ≡ true) way (up_to_any before from (to - from) (omega arith) marked);
}

-- parts
pub leads_no_part : (text : List ℕ) (before after : List Bool) → length after ≡ length text + 1 → ((k : ℕ) → get_or after k false ≡ false) → Leads (FitsPiece (AnyOf [])) text before after
leads_no_part text before after size none = record {
  size = size;
  sound = λ to m. absurd (cc (none to, m));
  complete = λ from to l m marked fits. absurd (omega (arith, fits.1.1));
}

pub leads_part_more : (parts : List (List Unit)) (place : ℕ) (part : List Unit) (text : List ℕ) (before others one all : List Bool) → place < length parts → part ≡ get_or parts place part
    → Leads (FitsPiece (AnyOf (take place parts))) text before others → Leads (FitsUnits part) text before one → length all ≡ length text + 1
    → ((k : ℕ) → get_or all k false ≡ (get_or others k false || get_or one k false)) → Leads (FitsPiece (AnyOf (take (place + 1) parts))) text before all
leads_part_more parts place part text before others one all l is first second size joined =
    let more : take (place + 1) parts ≡ take place parts ++ part ∷ [] = take_more parts place part l ∙ ap (λ (y : List Unit). take place parts ++ y ∷ []) (sym is) in
    rw more (record {
      size = size;
      sound = λ to m. either to (or_cases (get_or others to false) (get_or one to false) (sym (joined to) ∙ m));
      complete = λ from to h m marked fits. joined to ∙ or_either (get_or others to false) (get_or one to false) (reach from to h m marked fits.0 fits.2 (Contains-push_cases (take place parts) part fits.0 fits.1));
    })
  where
    either : (to : ℕ) → (get_or others to false ≡ true) ⊎ (get_or one to false ≡ true)
        → (from : ℕ) × (from ≤ to) × (to ≤ length text) × IsMarked before from × FitsPiece (AnyOf (take place parts ++ part ∷ [])) (between text from to)
    either to (inl e) = let found = first.sound to e in (found.0, found.1, found.2, found.3, (found.4.0, Contains-append_left (take place parts) (part ∷ []) found.4.0 found.4.1, found.4.2))
    either to (inr e) = let found = second.sound to e in (found.0, found.1, found.2, found.3, (part, Contains-push (take place parts) part, found.4))

    or_either : (a b : Bool) → (a ≡ true) ⊎ (b ≡ true) → (a || b) ≡ true
    or_either a b (inl e) = or_left a b e
    or_either a b (inr e) = or_right a b e

    reach : (from to : ℕ) → from ≤ to → to ≤ length text → IsMarked before from → (chosen : List Unit) → FitsUnits chosen (between text from to) → Contains (take place parts) chosen ⊎ (part ≡ chosen)
        → (get_or others to false ≡ true) ⊎ (get_or one to false ≡ true)
    reach from to h m marked chosen fits (inl c) = inl (first.complete from to h m marked (chosen, c, fits))
    reach from to h m marked chosen fits (inr e) = inr (second.complete from to h m marked (subst (λ (units : List Unit). FitsUnits units (between text from to)) (sym e) fits))

-- from the first place alone to the last
pub leads_all : (Fits : List ℕ → Type 0) (text : List ℕ) (before after : List Bool) → IsMarked before 0 → ((k : ℕ) → IsMarked before k → k ≡ 0) → Leads Fits text before after
    → (IsMarked after (length text) → Fits text) × (Fits text → IsMarked after (length text))
leads_all Fits text before after there alone leads = (
  (λ m. let found = leads.sound (length text) m in
      let start : found.0 ≡ 0 = alone found.0 found.3 in
      subst Fits (ap (λ (n : ℕ). between text n (length text)) start ∙ between-all text) found.4),
  (λ fits. leads.complete 0 (length text) (omega arith) (omega arith) there (subst Fits (sym (between-all text)) fits)),
)
