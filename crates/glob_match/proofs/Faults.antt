-- Where the reader stops.
use Rattle.std.proofs.Common.{◌≡◌, ℕ, ◌+◌, ◌<◌, ◌≤◌, List, [], ◌∷◌, ◌++◌, ◌∙◌, ap, sym, refl, subst, length, take, drop, get_or, Option, None, Some, option_and_then, Bool, true, false, not, ◌&&◌, nat_eq, inl, inr, ◌⊎◌, add-one, arith, take-suc, length-append}
use Rattle.std.proofs.Math.Seq.{take-length}
use Rattle.std.proofs.lemmas.Bool.{cases_lt, ne_eqb}
use Rattle.std.proofs.lemmas.List.{take-append-drop}
use Rattle.glob_match.specs.declared.pattern.Unit.{Unit}
use Rattle.glob_match.specs.declared.pattern.Unit.TheVariants.{Plain, Escaped}
use Rattle.glob_match.specs.declared.pattern.Piece.{Piece}
use Rattle.glob_match.specs.declared.pattern.Piece.TheVariants.{Single}
use Rattle.glob_match.specs.declared.reader.Place.{Place}
use Rattle.glob_match.specs.declared.reader.Place.TheVariants as place
use Rattle.glob_match.specs.declared.reader.Phase.{Phase}
use Rattle.glob_match.specs.declared.reader.Phase.TheVariants as phase
use Rattle.glob_match.specs.GlobText.{IsGlobText}
use Rattle.glob_match.specs.GlobFaults.{BeginsGlob, IsClosedAt, IsFaultAt}
use Rattle.glob_match.specs.Pattern.{Pattern, is_component, is_dot, last_components}
use Rattle.glob_match.specs.Inner.Reader.{State, start, with_unit, with_parts, with_class, with_sign, escaped, begun_unit, in_name, in_part, classed, in_signs, in_opened, step_from, step, steps, may_end, is_open, pattern_read}
use Rattle.glob_match.proofs.Sound.{run, sound}
use Rattle.glob_match.proofs.Complete.{complete}

steps-append : (s : State) (front back : List ℕ) → steps s (front ++ back) ≡ option_and_then (λ next. steps next back) (steps s front)
steps-append s [] back = refl
steps-append s (c ∷ front) back = by (step s c) (λ (next : State). steps-append next front back)
  where
    by : (o : Option State) → ((next : State) → steps next (front ++ back) ≡ option_and_then (λ next. steps next back) (steps next front))
        → option_and_then (λ next. steps next (front ++ back)) o ≡ option_and_then (λ next. steps next back) (option_and_then (λ next. steps next front) o)
    by None rest = refl
    by (Some next) rest = rest next

run-append : (front back : List ℕ) (s : State) → steps start front ≡ Some s → run start (front ++ back) ≡ run s back
run-append front back s e = ap (option_and_then pattern_read) (steps-append start front back ∙ ap (option_and_then (λ (next : State). steps next back)) e)

-- one character more
pub steps_more : (text : List ℕ) (at c : ℕ) (s : State) → at < length text → c ≡ get_or text at c → steps start (take at text) ≡ Some s → steps start (take (at + 1) text) ≡ step s c
steps_more text at c s l is e = rw (add-one, take-suc text at c l, ← is)
    (steps-append start (take at text) (c ∷ []) ∙ ap (option_and_then (λ (next : State). steps next (c ∷ []))) e ∙ last (step s c))
  where
    last : (o : Option State) → option_and_then (λ (next : State). steps next []) o ≡ o
    last None = refl
    last (Some next) = refl

-- each state can be brought to an end
record CanEnd (s : State) : Type 0 where
  more : List ℕ
  pattern : Pattern
  ends : run s more ≡ Some pattern

first : (s next : State) (c : ℕ) → step s c ≡ Some next → CanEnd next → CanEnd s
first s next c e can = record { more = c ∷ can.more; pattern = can.pattern; ends = ap (λ (o : Option State). option_and_then pattern_read (option_and_then (λ (n : State). steps n can.more) o)) e ∙ can.ends }

letter_is_component : (pieces : List Piece) (unit : Unit) → is_dot (Single unit) ≡ false → is_component (pieces ++ Single unit ∷ []) ≡ true
letter_is_component [] unit h = rw h refl
letter_is_component (a ∷ []) unit h = by (is_dot a)
  where
    by : (b : Bool) → not (b && is_dot (Single unit)) ≡ true
    by true = rw h refl
    by false = refl
letter_is_component (a ∷ b ∷ []) unit h = refl
letter_is_component (a ∷ b ∷ d ∷ others) unit h = refl

record IsRead (s : State) : Type 0 where
  pattern : Pattern
  is : pattern_read s ≡ Some pattern

read_with : (s : State) (unit : Unit) → s.phase ≡ phase.Units place.Name → is_dot (Single unit) ≡ false → IsRead (with_unit place.Name unit s)
unfolding pattern_read
read_with s unit here h = record {
  pattern = record { is_absolute = s.is_absolute; components = s.components ++ last_components (s.pieces ++ Single unit ∷ []) };
  is = rw (here, letter_is_component s.pieces unit h) refl;
}

in_phase : Phase → State → State
in_phase f s = record s { phase = f }

letter_step : (p : Place) (s : State) → step_from (phase.Units p) s 97 ≡ Some (with_unit p (Plain 97) s)
unfolding in_name in_part begun_unit
letter_step place.Name s = refl
letter_step place.Part s = refl

at_phase : (s : State) (f : Phase) (c : ℕ) (next : Option State) → s.phase ≡ f → step_from f s c ≡ next → step s c ≡ next
at_phase s f c next here e = subst (λ (g : Phase). step_from g s c ≡ next) (sym here) e

end_name : (s : State) → s.phase ≡ phase.Units place.Name → CanEnd s
end_name s here =
    let read = read_with s (Plain 97) here refl in
    record {
      more = 97 ∷ [];
      pattern = read.pattern;
      ends = ap (λ (o : Option State). option_and_then pattern_read (option_and_then (λ (n : State). steps n []) o)) (at_phase s (phase.Units place.Name) 97 (Some (with_unit place.Name (Plain 97) s)) here (letter_step place.Name s)) ∙ read.is;
    }

close_step : (s : State) → step_from (phase.Units place.Part) s 125 ≡ Some (with_parts s)
unfolding in_part
close_step s = refl

end_units : (p : Place) (s : State) → s.phase ≡ phase.Units p → CanEnd s
end_units place.Name s here = end_name s here
end_units place.Part s here = first s (with_parts s) 125 (at_phase s (phase.Units place.Part) 125 (Some (with_parts s)) here (close_step s)) (end_name (with_parts s) refl)

with_unit_phase : (p : Place) (unit : Unit) (s : State) → (with_unit p unit s).phase ≡ s.phase
with_unit_phase place.Name unit s = refl
with_unit_phase place.Part unit s = refl

class_step : (p : Place) (is_negated : Bool) (s : State) → nat_eq (length s.signs) 0 ≡ false → step_from (phase.Signs p is_negated) s 93 ≡ Some (with_class p is_negated s.signs s)
unfolding in_signs classed
class_step p is_negated s h = rw h refl

sign_step : (p : Place) (is_negated : Bool) (s : State) → in_signs p is_negated s 97 ≡ Some (with_sign p is_negated 97 false s)
unfolding in_signs
sign_step p is_negated s = refl

opened_step : (p : Place) (s : State) → step_from (phase.Opened p) s 97 ≡ Some (with_sign p false 97 false s)
unfolding in_opened in_signs
opened_step p s = refl

some_signs : {A : Type 0} (xs : List A) (x : A) → nat_eq (length (xs ++ x ∷ [])) 0 ≡ false
some_signs xs x = ne_eqb (length (xs ++ x ∷ [])) 0 (λ (e : length (xs ++ x ∷ []) ≡ 0). omega (arith, length-append xs (x ∷ [])))

-- a class with a sign more
end_signed : (p : Place) (is_negated : Bool) (c : ℕ) (is_escaped : Bool) (s : State) → CanEnd (with_sign p is_negated c is_escaped s)
end_signed p is_negated c is_escaped s =
    let signed = with_sign p is_negated c is_escaped s in
    first signed (with_class p is_negated signed.signs signed) 93 (class_step p is_negated signed (some_signs s.signs (record { character = c; is_escaped = is_escaped })))
    (end_units p (with_class p is_negated signed.signs signed) (with_unit_phase p _ (record signed { phase = phase.Units p; signs = [] })))

can_end : (f : Phase) (s : State) → s.phase ≡ f → CanEnd s
can_end (phase.Units p) s here = end_units p s here
can_end (phase.Escape p) s here = first s (escaped p 97 s) 97 (at_phase s (phase.Escape p) 97 (Some (escaped p 97 s)) here refl) (end_units p (escaped p 97 s) (with_unit_phase p (Escaped 97) (record s { phase = phase.Units p })))
can_end (phase.Opened p) s here = first s (with_sign p false 97 false s) 97 (at_phase s (phase.Opened p) 97 (Some (with_sign p false 97 false s)) here (opened_step p s)) (end_signed p false 97 false s)
can_end (phase.Signs p is_negated) s here = first s (with_sign p is_negated 97 false s) 97 (at_phase s (phase.Signs p is_negated) 97 (Some (with_sign p is_negated 97 false s)) here (sign_step p is_negated s)) (end_signed p is_negated 97 false s)
can_end (phase.EscapedSign p is_negated) s here = first s (with_sign p is_negated 97 true s) 97 (at_phase s (phase.EscapedSign p is_negated) 97 (Some (with_sign p is_negated 97 true s)) here refl) (end_signed p is_negated 97 true s)

begins : (front : List ℕ) (s : State) → steps start front ≡ Some s → BeginsGlob front
begins front s e =
    let can = can_end s.phase s refl in
    record { rest = can.more; pattern = can.pattern; goes_on = sound (front ++ can.more) can.pattern (run-append front can.more s e ∙ can.ends) }

-- where the reader is stuck, no glob follows
stuck : (front rest : List ℕ) (pattern : Pattern) → steps start front ≡ None → IsGlobText (front ++ rest) pattern → ⊥
stuck front rest pattern none is =
    let no : run start (front ++ rest) ≡ None = ap (option_and_then pattern_read) (steps-append start front rest ∙ ap (option_and_then (λ (next : State). steps next rest)) none) in
    let yes : run start (front ++ rest) ≡ Some pattern = complete (front ++ rest) pattern is in
    cc (no, yes)

pub wrong_fault : (text : List ℕ) (at : ℕ) (s : State) → at < length text → steps start (take at text) ≡ Some s → steps start (take (at + 1) text) ≡ None → IsFaultAt text at
wrong_fault text at s l e here =
    record {
      no_glob = λ (pattern : Pattern) (is : IsGlobText text pattern). stuck (take (at + 1) text) (drop (at + 1) text) pattern here (subst (λ (t : List ℕ). IsGlobText t pattern) (sym (take-append-drop (at + 1) text)) is);
      there = inl (record {
        within = l;
        before = begins (take at text) s e;
        wrong = λ (b : BeginsGlob (take (at + 1) text)). stuck (take (at + 1) text) b.rest b.pattern here b.goes_on;
      });
    }

-- a letter behind
letter_closes : (f : Phase) (s : State) → s.phase ≡ f → is_open f ≡ false → (pattern : Pattern) × (run s (97 ∷ []) ≡ Some pattern)
letter_closes (phase.Units place.Name) s here h =
    let read = read_with s (Plain 97) here refl in
    (read.pattern, ap (λ (o : Option State). option_and_then pattern_read (option_and_then (λ (n : State). steps n []) o)) (at_phase s (phase.Units place.Name) 97 (Some (with_unit place.Name (Plain 97) s)) here (letter_step place.Name s)) ∙ read.is)
letter_closes (phase.Units place.Part) s here h = absurd (cc h)
letter_closes (phase.Escape place.Name) s here h =
    let read = read_with (record s { phase = phase.Units place.Name }) (Escaped 97) refl refl in
    (read.pattern, ap (λ (o : Option State). option_and_then pattern_read (option_and_then (λ (n : State). steps n []) o)) (at_phase s (phase.Escape place.Name) 97 (Some (escaped place.Name 97 s)) here refl) ∙ read.is)
letter_closes (phase.Escape place.Part) s here h = absurd (cc h)
letter_closes (phase.Opened p) s here h = absurd (cc h)
letter_closes (phase.Signs p n) s here h = absurd (cc h)
letter_closes (phase.EscapedSign p n) s here h = absurd (cc h)

not_read : (s : State) → may_end s.phase ≡ false → pattern_read s ≡ None
unfolding pattern_read
not_read s h = rw h refl

stays : (s next : State) (f : Phase) → s.phase ≡ f → step_from f s 97 ≡ Some next → may_end next.phase ≡ false → run s (97 ∷ []) ≡ None
stays s next f here e h = ap (λ (o : Option State). option_and_then pattern_read (option_and_then (λ (n : State). steps n []) o)) (at_phase s f 97 (Some next) here e) ∙ not_read next h

letter_leaves_open : (f : Phase) (s : State) → s.phase ≡ f → is_open f ≡ true → run s (97 ∷ []) ≡ None
letter_leaves_open (phase.Units place.Name) s here h = absurd (cc h)
letter_leaves_open (phase.Units place.Part) s here h = stays s (with_unit place.Part (Plain 97) s) (phase.Units place.Part) here (letter_step place.Part s) (ap may_end here)
letter_leaves_open (phase.Escape place.Name) s here h = absurd (cc h)
letter_leaves_open (phase.Escape place.Part) s here h = stays s (escaped place.Part 97 s) (phase.Escape place.Part) here refl refl
letter_leaves_open (phase.Opened p) s here h = stays s (with_sign p false 97 false s) (phase.Opened p) here (opened_step p s) refl
letter_leaves_open (phase.Signs p n) s here h = stays s (with_sign p n 97 false s) (phase.Signs p n) here (sign_step p n s) refl
letter_leaves_open (phase.EscapedSign p n) s here h = stays s (with_sign p n 97 true s) (phase.EscapedSign p n) here refl refl

-- after so many characters brackets and braces are open, or closed
pub record OpenIs (text : List ℕ) (place : ℕ) (b : Bool) : Type 0 where
  pub state : State
  pub reads : steps start (take place text) ≡ Some state
  pub opened : is_open state.phase ≡ b

-- the last place up to `at` where all are closed
pub record LastClosed (text : List ℕ) (at closed : ℕ) : Type 0 where
  pub within : closed ≤ at
  pub there : OpenIs text closed false
  pub behind : (later : ℕ) → closed < later → later ≤ at → OpenIs text later true

pub last_closed_start : (text : List ℕ) → LastClosed text 0 0
last_closed_start text = record {
  within = omega arith;
  there = record { state = start; reads = refl; opened = refl };
  behind = λ later l m. absurd (omega arith);
}

pub last_closed_here : (text : List ℕ) (at : ℕ) (s : State) → steps start (take at text) ≡ Some s → is_open s.phase ≡ false → LastClosed text at at
last_closed_here text at s e shut = record {
  within = omega arith;
  there = record { state = s; reads = e; opened = shut };
  behind = λ later l m. absurd (omega arith);
}

pub last_closed_stays : (text : List ℕ) (at closed : ℕ) (s : State) → LastClosed text at closed → steps start (take (at + 1) text) ≡ Some s → is_open s.phase ≡ true → LastClosed text (at + 1) closed
last_closed_stays text at closed s last e more = record {
  within = omega (arith, last.within);
  there = last.there;
  behind = λ later l m. by later l (cases_lt at later) m;
}
  where
    by : (later : ℕ) → closed < later → (at < later) ⊎ (later ≤ at) → later ≤ at + 1 → OpenIs text later true
    by later l (inl h) m = let same : later ≡ at + 1 = omega arith in rw same (record { state = s; reads = e; opened = more })
    by later l (inr h) m = last.behind later l h

closed_at : (text : List ℕ) (place : ℕ) → OpenIs text place false → IsClosedAt text place
closed_at text place is =
    let letter = letter_closes is.state.phase is.state refl is.opened in
    (letter.0, sound (take place text ++ 97 ∷ []) letter.0 (run-append (take place text) (97 ∷ []) is.state is.reads ∙ letter.1))

open_at : (text : List ℕ) (place : ℕ) → OpenIs text place true → IsClosedAt text place → ⊥
open_at text place is closed =
    let no : run start (take place text ++ 97 ∷ []) ≡ None = run-append (take place text) (97 ∷ []) is.state is.reads ∙ letter_leaves_open is.state.phase is.state refl is.opened in
    let yes : run start (take place text ++ 97 ∷ []) ≡ Some closed.0 = complete (take place text ++ 97 ∷ []) closed.0 closed.1 in
    cc (no, yes)

pub unfinished_fault : (text : List ℕ) (closed : ℕ) (s : State) → steps start text ≡ Some s → pattern_read s ≡ None → LastClosed text (length text) closed → IsFaultAt text closed
unfinished_fault text closed s e none last = record {
  no_glob = λ (pattern : Pattern) (is : IsGlobText text pattern).
      let no : run start text ≡ None = ap (option_and_then pattern_read) e ∙ none in
      let yes : run start text ≡ Some pattern = complete text pattern is in cc (no, yes);
  there = inr (record {
    within = last.within;
    begins = begins text s e;
    closed = closed_at text closed last.there;
    open_behind = λ later l m. open_at text later (last.behind later l m);
  });
}

pub glob_read : (text : List ℕ) (s : State) (pattern : Pattern) → steps start text ≡ Some s → pattern_read s ≡ Some pattern → IsGlobText text pattern
glob_read text s pattern e is = sound text pattern (ap (option_and_then pattern_read) e ∙ is)

pub whole_read : (text : List ℕ) (at : ℕ) (s : State) → length text ≤ at → at ≤ length text → steps start (take at text) ≡ Some s → steps start text ≡ Some s
whole_read text at s low high e = let same : at ≡ length text = omega arith in ap (steps start) (sym (ap (λ (n : ℕ). take n text) same ∙ take-length text)) ∙ e

-- a text spells one pattern
pub one_pattern : (text : List ℕ) (pattern other : Pattern) → IsGlobText text pattern → IsGlobText text other → pattern ≡ other
one_pattern text pattern other p q = let a = complete text pattern p in let b = complete text other q in cc (a, b)
