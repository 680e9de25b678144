-- What the reader takes is in the grammar.
use Rattle.std.proofs.Common.{◌≡◌, ◌≢◌, ℕ, ◌+◌, ◌<◌, List, [], ◌∷◌, ◌++◌, ◌∙◌, ap, sym, refl, subst, length, Option, None, Some, option_and_then, Bool, true, false, not, cond, ◌&&◌, ◌||◌, nat_eq, inl, inr, ◌⊎◌, append_assoc, arith}
use Rattle.std.proofs.lemmas.Bool.{eqb-true, eq-eqb, eqb-false, and_parts, or_parts, not-true}
use Rattle.std.proofs.lemmas.List.{append-nil}
use Rattle.std.specs.List.{list_all}
use Rattle.glob_match.specs.declared.pattern.Sign.{Sign}
use Rattle.glob_match.specs.declared.pattern.Unit.{Unit}
use Rattle.glob_match.specs.declared.pattern.Unit.TheVariants.{Plain, Escaped, One, Star, Class}
use Rattle.glob_match.specs.declared.pattern.Component.{Component}
use Rattle.glob_match.specs.declared.pattern.Piece.{Piece}
use Rattle.glob_match.specs.declared.pattern.Piece.TheVariants.{AnyOf}
use Rattle.glob_match.specs.declared.reader.Place.{Place}
use Rattle.glob_match.specs.declared.reader.Place.TheVariants as place
use Rattle.glob_match.specs.declared.reader.Phase.{Phase}
use Rattle.glob_match.specs.declared.reader.Phase.TheVariants as phase
use Rattle.glob_match.specs.CharacterSet.{spans_of}
use Rattle.glob_match.specs.GlobText.{is_negation, is_class_character, is_plain_character, AreSigns, no_sign, sign, escaped_sign, IsClass, negated, listed, IsUnit, plain, escaped as escaped_unit, one, star, class, last_part, next_part, AreComponents, last_component, next_component, single, any_of, IsGlobText}
use Rattle.glob_match.specs.Pattern.{Pattern, is_component, component, components, last_components}
use Rattle.glob_match.specs.Inner.Reader.{State, start, with_unit, escaped, with_class, with_sign, with_part, with_parts, begun_unit, slashed, in_name, in_part as read_in_part, classed, in_signs, in_opened, step_from, step, steps, may_end, pattern_read}
use Rattle.glob_match.proofs.Ends.{EndsName, EndsUnits, EndsSigns, EndsEscape, EndsOpened, AfterClass, EndsFrom, Ends, unit_in_name, unit_in_part, unit_more}

-- whatever the step leads to, the goal follows from what brings that to its end
record Back (T : Type 0) (text : List ℕ) (pattern : Pattern) (o : Option State) : Type 0 where
  goes : (next : State) → o ≡ Some next → Ends next text pattern → T

back_none : (T : Type 0) (text : List ℕ) (pattern : Pattern) → Back T text pattern None
back_none T text pattern = record { goes = λ next e ends. absurd (cc e) }

back_some : (T : Type 0) (text : List ℕ) (pattern : Pattern) (s : State) → (Ends s text pattern → T) → Back T text pattern (Some s)
back_some T text pattern s f = record { goes = λ next e ends. let same : s ≡ next = cc e in f (subst (λ (n : State). Ends n text pattern) (sym same) ends) }

back_if : (T : Type 0) (text : List ℕ) (pattern : Pattern) (b : Bool) (x y : Option State) → (b ≡ true → Back T text pattern x) → (b ≡ false → Back T text pattern y) → Back T text pattern (cond b x y)
back_if T text pattern true x y f g = f refl
back_if T text pattern false x y f g = g refl

-- the same of a step that is always taken
record To (T : Type 0) (text : List ℕ) (pattern : Pattern) (s : State) : Type 0 where
  goes : Ends s text pattern → T

to : (T : Type 0) (text : List ℕ) (pattern : Pattern) (s : State) → (Ends s text pattern → T) → To T text pattern s
to T text pattern s f = record { goes = f }

to_if : (T : Type 0) (text : List ℕ) (pattern : Pattern) (b : Bool) (x y : State) → (b ≡ true → To T text pattern x) → (b ≡ false → To T text pattern y) → To T text pattern (cond b x y)
to_if T text pattern true x y f g = f refl
to_if T text pattern false x y f g = g refl

at_units : (p : Place) (s : State) (text : List ℕ) (pattern : Pattern) → s.phase ≡ phase.Units p → Ends s text pattern → EndsUnits p s text pattern
at_units p s text pattern e ends = subst (λ (f : Phase). EndsFrom f s text pattern) e ends

with_unit_phase : (p : Place) (unit : Unit) (s : State) → (with_unit p unit s).phase ≡ s.phase
with_unit_phase place.Name unit s = refl
with_unit_phase place.Part unit s = refl

-- a class that is closed is a unit
class_of : (p : Place) (s : State) (text rest : List ℕ) (pattern : Pattern) (is_negated : Bool) (signs : List Sign) → IsClass text is_negated signs rest → AfterClass p is_negated s pattern signs rest → EndsUnits p s (91 ∷ text) pattern
class_of place.Name s text rest pattern is_negated signs is ends = unit_in_name s (91 ∷ text) rest _ pattern (class is) ends
class_of place.Part s text rest pattern is_negated signs is ends = unit_in_part s (91 ∷ text) rest _ pattern (class is) ends

negated_class : (text rest : List ℕ) (c : ℕ) (signs : List Sign) → 0 < length signs → is_negation c ≡ true → AreSigns text signs rest → IsClass (c ∷ text) true signs rest
negated_class text rest c [] some n is = absurd (omega arith)
negated_class text rest c (first ∷ others) some n is = negated c n is

listed_class : (text rest : List ℕ) (c : ℕ) (signs : List Sign) → 0 < length signs → is_negation c ≡ false → AreSigns (c ∷ text) signs rest → IsClass (c ∷ text) false signs rest
listed_class text rest c [] some n is = absurd (omega arith)
listed_class text rest c (first ∷ others) some n is = listed c n is

opened : (p : Place) (s : State) (text : List ℕ) (pattern : Pattern) → EndsOpened (λ is_negated rest. EndsSigns (AfterClass p is_negated s pattern) [] rest) text → EndsUnits p s (91 ∷ text) pattern
opened p s text pattern ends = by ends.cases
  where
    by : ((is_negation ends.character ≡ true) × EndsSigns (AfterClass p true s pattern) [] ends.rest) ⊎ ((is_negation ends.character ≡ false) × EndsSigns (AfterClass p false s pattern) [] text) → EndsUnits p s (91 ∷ text) pattern
    by (inl h) = rw ends.is (class_of p s (ends.character ∷ ends.rest) h.1.rest pattern true h.1.signs (negated_class ends.rest h.1.rest ends.character h.1.signs h.1.some h.0 h.1.reads) h.1.ends)
    by (inr h) = class_of p s text h.1.rest pattern false h.1.signs (rw ends.is (listed_class ends.rest h.1.rest ends.character h.1.signs h.1.some h.0 (rw (← ends.is) h.1.reads))) h.1.ends

-- what `begun_unit` leads to
plain_here : (p : Place) (c : ℕ) → nat_eq c 92 ≡ false → nat_eq c 42 ≡ false → nat_eq c 63 ≡ false → nat_eq c 91 ≡ false → nat_eq c 123 ≡ false → nat_eq c 47 ≡ false → (p ≡ place.Part → (nat_eq c 44 ≡ false) × (nat_eq c 125 ≡ false)) → is_plain_character p c ≡ true
plain_here place.Name c a b d e f g h = rw (a, b, d, e, f, g) refl
plain_here place.Part c a b d e f g h = let hh = h refl in rw (a, b, d, e, f, g, hh.0, hh.1) refl

begun : (p : Place) (s : State) (c : ℕ) (text : List ℕ) (pattern : Pattern) → s.phase ≡ phase.Units p → nat_eq c 123 ≡ false → nat_eq c 47 ≡ false → (p ≡ place.Part → (nat_eq c 44 ≡ false) × (nat_eq c 125 ≡ false))
    → To (EndsUnits p s (c ∷ text) pattern) text pattern (begun_unit p s c)
unfolding begun_unit
begun p s c text pattern here brace slash part =
    let T : Type 0 = EndsUnits p s (c ∷ text) pattern in
    let add = λ (unit : Unit) (is : IsUnit p (c ∷ text) unit text). to T text pattern (with_unit p unit s)
    (λ (ends : Ends (with_unit p unit s) text pattern). unit_more p s (c ∷ text) text unit pattern is (at_units p (with_unit p unit s) text pattern (with_unit_phase p unit s ∙ here) ends)) in
    to_if T text pattern (nat_eq c 92) (record s { phase = phase.Escape p }) _
    (λ e92. to T text pattern (record s { phase = phase.Escape p }) (λ (ends : EndsEscape (λ d rest. EndsUnits p (escaped p d (record s { phase = phase.Escape p })) rest pattern) text).
    rw (eqb-true c 92 e92, ends.is) (escape_more ends)))
    (λ n92. to_if T text pattern (nat_eq c 91) (record s { phase = phase.Opened p; signs = [] }) _
    (λ e91. to T text pattern (record s { phase = phase.Opened p; signs = [] }) (λ ends. rw (eqb-true c 91 e91) (opened p s text pattern ends)))
    (λ n91. to_if T text pattern (nat_eq c 42) (with_unit p Star s) _
    (λ e42. add Star (rw (eqb-true c 42 e42) star))
    (λ n42. to_if T text pattern (nat_eq c 63) (with_unit p One s) (with_unit p (Plain c) s)
    (λ e63. add One (rw (eqb-true c 63 e63) one))
    (λ n63. add (Plain c) (plain c (plain_here p c n92 n42 n63 n91 brace slash part))))))
  where
    escape_more : (ends : EndsEscape (λ d rest. EndsUnits p (escaped p d (record s { phase = phase.Escape p })) rest pattern) text) → EndsUnits p s (92 ∷ ends.character ∷ ends.rest) pattern
    escape_more ends = unit_more p s (92 ∷ ends.character ∷ ends.rest) ends.rest (Escaped ends.character) pattern (escaped_unit ends.character ends.no_slash) (at_place p ends.character ends.rest ends.ends)
      where
        at_place : (q : Place) (d : ℕ) (rest : List ℕ) → EndsUnits q (escaped q d (record s { phase = phase.Escape p })) rest pattern → EndsUnits q (with_unit q (Escaped d) s) rest pattern
        at_place place.Name d rest ends = ends
        at_place place.Part d rest ends = ends

-- one step from a name
name_closed : (s : State) (text : List ℕ) (pattern : Pattern) → is_component s.pieces ≡ true → EndsName s.is_absolute (s.components ++ component s.pieces ∷ []) [] text pattern → EndsUnits place.Name s (47 ∷ text) pattern
name_closed s text pattern proper ends =
    let whole : s.pieces ++ [] ≡ s.pieces = append-nil s.pieces in
    inl (record {
      pieces = [];
      others = ends.pieces ∷ ends.others;
      reads = next_component ends.reads;
      proper = rw (whole, proper) ends.proper;
      means = rw (whole, ← append_assoc s.components (component s.pieces ∷ []) (components ends.pieces ends.others)) ends.means;
    })

start_units : (s : State) (text : List ℕ) (pattern : Pattern) → s.is_absolute ≡ false → length s.components ≡ 0 → length s.pieces ≡ 0 → EndsUnits place.Name (record s { is_absolute = true }) text pattern → EndsUnits place.Name s (47 ∷ text) pattern
start_units s text pattern relative no_components no_pieces (inl ends) = inr (record { relative = relative; no_components = no_components; no_pieces = no_pieces; rest = text; slash = refl; ends = ends })
start_units s text pattern relative no_components no_pieces (inr ends) = absurd (cc ends.relative)

some_components : (items : List Component) (item : Component) → length (items ++ item ∷ []) ≡ length items + 1
some_components [] item = refl
some_components (first ∷ items) item = omega (arith, some_components items item)

some_pieces : (items : List Piece) (item : Piece) → length (items ++ item ∷ []) ≡ length items + 1
some_pieces [] item = refl
some_pieces (first ∷ items) item = omega (arith, some_pieces items item)

closed_units : (s : State) (text : List ℕ) (pattern : Pattern) → is_component s.pieces ≡ true → EndsUnits place.Name (record s { components = s.components ++ component s.pieces ∷ []; pieces = [] }) text pattern → EndsUnits place.Name s (47 ∷ text) pattern
closed_units s text pattern proper (inl ends) = name_closed s text pattern proper ends
closed_units s text pattern proper (inr ends) = absurd (omega (arith, some_components s.components (component s.pieces), ends.no_components))

slash_back : (s : State) (text : List ℕ) (pattern : Pattern) → s.phase ≡ phase.Units place.Name → Back (EndsUnits place.Name s (47 ∷ text) pattern) text pattern (slashed s)
unfolding slashed
slash_back s text pattern here =
    let T : Type 0 = EndsUnits place.Name s (47 ∷ text) pattern in
    back_if T text pattern (is_component s.pieces) _ _
    (λ proper. back_some T text pattern (record s { components = s.components ++ component s.pieces ∷ []; pieces = [] })
    (λ ends. closed_units s text pattern proper (at_units place.Name (record s { components = s.components ++ component s.pieces ∷ []; pieces = [] }) text pattern here ends)))
    (λ _. back_if T text pattern (not s.is_absolute && (nat_eq (length s.components) 0 && nat_eq (length s.pieces) 0)) _ _
    (λ is_start.
    let parts = and_parts (not s.is_absolute) (nat_eq (length s.components) 0 && nat_eq (length s.pieces) 0) is_start in
    let empty = and_parts (nat_eq (length s.components) 0) (nat_eq (length s.pieces) 0) parts.1 in
    back_some T text pattern (record s { is_absolute = true })
    (λ ends. start_units s text pattern (not-true s.is_absolute parts.0) (eqb-true (length s.components) 0 empty.0) (eqb-true (length s.pieces) 0 empty.1) (at_units place.Name (record s { is_absolute = true }) text pattern here ends)))
    (λ _. back_none T text pattern))

-- one step from a part
part_closed : (s : State) (text : List ℕ) (pattern : Pattern) → EndsUnits place.Part (with_part s) text pattern → EndsUnits place.Part s (44 ∷ text) pattern
part_closed s text pattern ends =
    let whole : s.units ++ [] ≡ s.units = append-nil s.units in
    let joined : (s.parts ++ s.units ∷ []) ++ ends.part ∷ ends.parts ≡ s.parts ++ s.units ∷ ends.part ∷ ends.parts = append_assoc s.parts (s.units ∷ []) (ends.part ∷ ends.parts) in
    record {
      part = [];
      parts = ends.part ∷ ends.parts;
      rest = ends.rest;
      reads = next_part ends.reads;
      ends = rw (whole, ← joined) ends.ends;
    }

parts_closed : (s : State) (text : List ℕ) (pattern : Pattern) → EndsUnits place.Name (with_parts s) text pattern → EndsUnits place.Part s (125 ∷ text) pattern
parts_closed s text pattern (inl ends) = record { part = []; parts = []; rest = text; reads = last_part; ends = rw (append-nil s.units) ends }
parts_closed s text pattern (inr ends) = absurd (omega (arith, some_pieces s.pieces (AnyOf (s.parts ++ s.units ∷ [])), ends.no_pieces))

braces_opened : (s : State) (text : List ℕ) (pattern : Pattern) → EndsUnits place.Part (record s { phase = phase.Units place.Part; parts = []; units = [] }) text pattern → EndsUnits place.Name s (123 ∷ text) pattern
braces_opened s text pattern ends =
    let joined : (s.pieces ++ AnyOf (ends.part ∷ ends.parts) ∷ []) ++ ends.ends.pieces ≡ s.pieces ++ AnyOf (ends.part ∷ ends.parts) ∷ ends.ends.pieces = append_assoc s.pieces (AnyOf (ends.part ∷ ends.parts) ∷ []) ends.ends.pieces in
    inl (record {
      pieces = AnyOf (ends.part ∷ ends.parts) ∷ ends.ends.pieces;
      others = ends.ends.others;
      reads = any_of ends.reads ends.ends.reads;
      proper = rw (← joined) ends.ends.proper;
      means = rw (← joined) ends.ends.means;
    })

from_to : (T : Type 0) (text : List ℕ) (pattern : Pattern) (s : State) → To T text pattern s → Back T text pattern (Some s)
from_to T text pattern s t = back_some T text pattern s (λ ends. t.goes ends)

name_back : (s : State) (c : ℕ) (text : List ℕ) (pattern : Pattern) → s.phase ≡ phase.Units place.Name → Back (EndsUnits place.Name s (c ∷ text) pattern) text pattern (in_name s c)
unfolding in_name
name_back s c text pattern here =
    let T : Type 0 = EndsUnits place.Name s (c ∷ text) pattern in
    back_if T text pattern (nat_eq c 47) _ _
    (λ e47. rw (eqb-true c 47 e47) (slash_back s text pattern here))
    (λ n47. back_if T text pattern (nat_eq c 123) _ _
    (λ e123. back_some T text pattern (record s { phase = phase.Units place.Part; parts = []; units = [] }) (λ ends. rw (eqb-true c 123 e123) (braces_opened s text pattern ends)))
    (λ n123. from_to T text pattern (begun_unit place.Name s c) (begun place.Name s c text pattern here n123 n47 (λ (e : place.Name ≡ place.Part). absurd (cc e)))))

part_back : (s : State) (c : ℕ) (text : List ℕ) (pattern : Pattern) → s.phase ≡ phase.Units place.Part → Back (EndsUnits place.Part s (c ∷ text) pattern) text pattern (read_in_part s c)
unfolding read_in_part
part_back s c text pattern here =
    let T : Type 0 = EndsUnits place.Part s (c ∷ text) pattern in
    back_if T text pattern (nat_eq c 44) _ _
    (λ e44. back_some T text pattern (with_part s) (λ ends. rw (eqb-true c 44 e44) (part_closed s text pattern (at_units place.Part (with_part s) text pattern here ends))))
    (λ n44. back_if T text pattern (nat_eq c 125) _ _
    (λ e125. back_some T text pattern (with_parts s) (λ ends. rw (eqb-true c 125 e125) (parts_closed s text pattern ends)))
    (λ n125. back_if T text pattern (nat_eq c 47 || nat_eq c 123) _ _
    (λ _. back_none T text pattern)
    (λ n. let neither = or_parts (nat_eq c 47) (nat_eq c 123) n in
    from_to T text pattern (begun_unit place.Part s c) (begun place.Part s c text pattern here neither.1 neither.0 (λ _. (n44, n125))))))

-- one step in a class
class_closed : (p : Place) (is_negated : Bool) (s : State) (text : List ℕ) (pattern : Pattern) → 0 < length s.signs → AfterClass p is_negated s pattern s.signs text → EndsSigns (AfterClass p is_negated s pattern) s.signs (93 ∷ text)
class_closed p is_negated s text pattern some ends =
    let whole : s.signs ++ [] ≡ s.signs = append-nil s.signs in
    record { signs = []; rest = text; reads = no_sign; some = rw whole some; ends = rw whole ends }

sign_more : (T : List Sign → List ℕ → Type 0) (read : List Sign) (c : ℕ) (text : List ℕ) → is_class_character c ≡ true → EndsSigns T (read ++ record { character = c; is_escaped = false } ∷ []) text → EndsSigns T read (c ∷ text)
sign_more T read c text is ends =
    let joined : (read ++ record { character = c; is_escaped = false } ∷ []) ++ ends.signs ≡ read ++ record { character = c; is_escaped = false } ∷ ends.signs = append_assoc read (record { character = c; is_escaped = false } ∷ []) ends.signs in
    record { signs = record { character = c; is_escaped = false } ∷ ends.signs; rest = ends.rest; reads = sign c is ends.reads; some = rw (← joined) ends.some; ends = rw (← joined) ends.ends }

escaped_more : (T : List Sign → List ℕ → Type 0) (read : List Sign) (c : ℕ) (text : List ℕ) → c ≢ 47 → EndsSigns T (read ++ record { character = c; is_escaped = true } ∷ []) text → EndsSigns T read (92 ∷ c ∷ text)
escaped_more T read c text is ends =
    let joined : (read ++ record { character = c; is_escaped = true } ∷ []) ++ ends.signs ≡ read ++ record { character = c; is_escaped = true } ∷ ends.signs = append_assoc read (record { character = c; is_escaped = true } ∷ []) ends.signs in
    record { signs = record { character = c; is_escaped = true } ∷ ends.signs; rest = ends.rest; reads = escaped_sign c is ends.reads; some = rw (← joined) ends.some; ends = rw (← joined) ends.ends }

signs_back : (p : Place) (is_negated : Bool) (s : State) (c : ℕ) (text : List ℕ) (pattern : Pattern) → Back (EndsSigns (AfterClass p is_negated s pattern) s.signs (c ∷ text)) text pattern (in_signs p is_negated s c)
unfolding in_signs classed
signs_back p is_negated s c text pattern =
    let T : Type 0 = EndsSigns (AfterClass p is_negated s pattern) s.signs (c ∷ text) in
    back_if T text pattern (nat_eq c 93) _ _
    (λ e93. back_if T text pattern (nat_eq (length s.signs) 0) _ _
    (λ _. back_none T text pattern)
    (λ some. back_some T text pattern (with_class p is_negated s.signs s) (λ ends. rw (eqb-true c 93 e93)
    (class_closed p is_negated s text pattern (positive (length s.signs) (eqb-false (length s.signs) 0 some))
    (at_units p (with_class p is_negated s.signs s) text pattern (with_unit_phase p (Class (record { is_negated = is_negated; spans = spans_of s.signs })) (record s { phase = phase.Units p; signs = [] })) ends)))))
    (λ n93. back_if T text pattern (nat_eq c 92) _ _
    (λ e92. back_some T text pattern (record s { phase = phase.EscapedSign p is_negated }) (λ ends. rw (eqb-true c 92 e92, ends.is) (escaped_more (AfterClass p is_negated s pattern) s.signs ends.character ends.rest ends.no_slash ends.ends)))
    (λ n92. back_if T text pattern (nat_eq c 47) _ _
    (λ _. back_none T text pattern)
    (λ n47. back_some T text pattern (with_sign p is_negated c false s) (λ ends. sign_more (AfterClass p is_negated s pattern) s.signs c text (rw (n93, n92, n47) refl) ends))))
  where
    positive : (n : ℕ) → (n ≡ 0 → ⊥) → 0 < n
    positive n h = omega arith

opened_back : (p : Place) (s : State) (c : ℕ) (text : List ℕ) (pattern : Pattern) → Back (EndsOpened (λ is_negated rest. EndsSigns (AfterClass p is_negated s pattern) s.signs rest) (c ∷ text)) text pattern (in_opened p s c)
unfolding in_opened
opened_back p s c text pattern =
    let T : Type 0 = EndsOpened (λ is_negated rest. EndsSigns (AfterClass p is_negated s pattern) s.signs rest) (c ∷ text) in
    back_if T text pattern (is_negation c) _ _
    (λ n. back_some T text pattern (record s { phase = phase.Signs p true }) (λ ends. record { character = c; rest = text; is = refl; cases = inl (n, ends) }))
    (λ n. record { goes = λ next e ends. record { character = c; rest = text; is = refl; cases = inr (n, (signs_back p false s c text pattern).goes next e ends) } })

escape_back : (T : ℕ → List ℕ → Type 0) (c : ℕ) (text : List ℕ) (pattern : Pattern) (next : State) → (Ends next text pattern → T c text) → Back (EndsEscape T (c ∷ text)) text pattern (cond (nat_eq c 47) None (Some next))
escape_back T c text pattern next f =
    back_if (EndsEscape T (c ∷ text)) text pattern (nat_eq c 47) _ _
    (λ _. back_none (EndsEscape T (c ∷ text)) text pattern)
    (λ n47. back_some (EndsEscape T (c ∷ text)) text pattern next (λ ends. record { character = c; rest = text; is = refl; no_slash = eqb-false c 47 n47; ends = f ends }))

step_back : (f : Phase) (s : State) (c : ℕ) (text : List ℕ) (pattern : Pattern) → s.phase ≡ f → Back (EndsFrom f s (c ∷ text) pattern) text pattern (step_from f s c)
step_back (phase.Units place.Name) s c text pattern here = name_back s c text pattern here
step_back (phase.Units place.Part) s c text pattern here = part_back s c text pattern here
step_back (phase.Escape p) s c text pattern here = escape_back (λ d rest. EndsUnits p (escaped p d s) rest pattern) c text pattern (escaped p c s)
    (λ ends. at_units p (escaped p c s) text pattern (with_unit_phase p (Escaped c) (record s { phase = phase.Units p })) ends)
step_back (phase.Opened p) s c text pattern here = opened_back p s c text pattern
step_back (phase.Signs p is_negated) s c text pattern here = signs_back p is_negated s c text pattern
step_back (phase.EscapedSign p is_negated) s c text pattern here = escape_back (λ d rest. EndsSigns (AfterClass p is_negated s pattern) (s.signs ++ record { character = d; is_escaped = true } ∷ []) rest) c text pattern (with_sign p is_negated c true s) (λ ends. ends)

-- the pattern that a text is read as
abbrev pub run : State → List ℕ → Option Pattern
run s text = option_and_then pattern_read (steps s text)

end_back : (s : State) (pattern : Pattern) (b : Bool) → (may_end s.phase && is_component s.pieces) ≡ b → cond b (Some (record { is_absolute = s.is_absolute; components = s.components ++ last_components s.pieces })) None ≡ Some pattern → Ends s [] pattern
end_back s pattern false e h = absurd (cc h)
end_back s pattern true e h =
    let parts = and_parts (may_end s.phase) (is_component s.pieces) e in
    subst (λ (f : Phase). EndsFrom f s [] pattern) (sym (name_phase s.phase parts.0)) (inl (record {
      pieces = [];
      others = [];
      reads = last_component;
      proper = rw (append-nil s.pieces, parts.1) refl;
      means = rw (append-nil s.pieces) (sym (same h));
    }))
  where
    same : {a : Pattern} → Some a ≡ Some pattern → a ≡ pattern
    same h = cc h

    name_phase : (f : Phase) → may_end f ≡ true → f ≡ phase.Units place.Name
    name_phase (phase.Units place.Name) h = refl
    name_phase (phase.Units place.Part) h = absurd (cc h)
    name_phase (phase.Escape p) h = absurd (cc h)
    name_phase (phase.Opened p) h = absurd (cc h)
    name_phase (phase.Signs p n) h = absurd (cc h)
    name_phase (phase.EscapedSign p n) h = absurd (cc h)

pub ends_from_run : (text : List ℕ) (s : State) (pattern : Pattern) → run s text ≡ Some pattern → Ends s text pattern
unfolding pattern_read
ends_from_run [] s pattern h = end_back s pattern (may_end s.phase && is_component s.pieces) refl h
ends_from_run (c ∷ text) s pattern h = by (step s c) refl h (λ next. ends_from_run text next pattern)
  where
    by : (o : Option State) → step s c ≡ o → option_and_then pattern_read (option_and_then (λ next. steps next text) o) ≡ Some pattern
        → ((next : State) → run next text ≡ Some pattern → Ends next text pattern) → Ends s (c ∷ text) pattern
    by None e h rest = absurd (cc h)
    by (Some next) e h rest = (step_back s.phase s c text pattern refl).goes next e (rest next h)

apart : (a : ℕ) (rest text : List ℕ) → a ∷ rest ≡ 47 ∷ text → nat_eq a 47 ≡ false → ⊥
apart a rest text e f = let same : a ≡ 47 = cc e in cc (eq-eqb a 47 same, f)

-- a text that begins with a slash has no component in front of it
no_pieces_at_slash : (text all : List ℕ) (pieces : List Piece) (others : List (List Piece)) → all ≡ 47 ∷ text → AreComponents all pieces others → is_component pieces ≡ true → ⊥
no_pieces_at_slash text _ _ _ e last_component h = cc h
no_pieces_at_slash text _ _ _ e (next_component reads) h = cc h
no_pieces_at_slash text _ _ _ e (single is reads) h = no_unit e is
  where
    no_unit : {all more : List ℕ} {unit : Unit} → all ≡ 47 ∷ text → IsUnit place.Name all unit more → ⊥
    no_unit e (plain c is) = let same : c ≡ 47 = cc e in let wrong : is_plain_character place.Name 47 ≡ true = subst (λ (x : ℕ). is_plain_character place.Name x ≡ true) same is in cc wrong
    no_unit e (escaped_unit c no_slash) = apart 92 _ text e refl
    no_unit e one = apart 63 _ text e refl
    no_unit e star = apart 42 _ text e refl
    no_unit e (class is) = apart 91 _ text e refl
no_pieces_at_slash text _ _ _ e (any_of is reads) h = apart 123 _ text e refl

relative_text : (text : List ℕ) (pattern : Pattern) → EndsName false [] [] text pattern → IsGlobText text pattern
relative_text [] pattern ends = record { pieces = ends.pieces; others = ends.others; reads = ends.reads; proper = ends.proper; means = ends.means }
relative_text (c ∷ text) pattern ends = by (nat_eq c 47) refl
  where
    by : (b : Bool) → nat_eq c 47 ≡ b → IsGlobText (c ∷ text) pattern
    by true e = absurd (no_pieces_at_slash text (c ∷ text) ends.pieces ends.others (ap (λ (x : ℕ). x ∷ text) (eqb-true c 47 e)) ends.reads (and_parts (is_component ends.pieces) (list_all is_component ends.others) ends.proper).0)
    by false e = record { pieces = ends.pieces; others = ends.others; reads = rw e ends.reads; proper = ends.proper; means = rw e ends.means }

-- what the reader takes is a glob
pub sound : (text : List ℕ) (pattern : Pattern) → run start text ≡ Some pattern → IsGlobText text pattern
sound text pattern h = by (ends_from_run text start pattern h)
  where
    by : EndsUnits place.Name start text pattern → IsGlobText text pattern
    by (inl ends) = relative_text text pattern ends
    by (inr ends) = rw ends.slash (record { pieces = ends.ends.pieces; others = ends.ends.others; reads = ends.ends.reads; proper = ends.ends.proper; means = ends.ends.means })
