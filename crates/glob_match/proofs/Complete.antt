-- The reader takes each text of the grammar.
use Rattle.std.proofs.Common.{◌≡◌, ◌≢◌, ℕ, ◌<◌, List, [], ◌∷◌, ◌++◌, ◌∙◌, ap, sym, refl, length, Some, option_and_then, Bool, true, false, ◌||◌, nat_eq, append_assoc, arith}
use Rattle.std.proofs.lemmas.Bool.{eqb-true, ne_eqb, and_parts, or_parts, not-true}
use Rattle.std.proofs.lemmas.List.{append-nil}
use Rattle.std.specs.List.{list_all}
use Rattle.glob_match.specs.declared.pattern.Sign.{Sign}
use Rattle.glob_match.specs.declared.pattern.Unit.{Unit}
use Rattle.glob_match.specs.declared.pattern.Unit.TheVariants.{Plain, Escaped, One, Star, Class}
use Rattle.glob_match.specs.declared.pattern.Piece.{Piece}
use Rattle.glob_match.specs.declared.pattern.Piece.TheVariants.{Single, AnyOf}
use Rattle.glob_match.specs.declared.reader.Place.{Place}
use Rattle.glob_match.specs.declared.reader.Place.TheVariants as place
use Rattle.glob_match.specs.declared.reader.Phase.TheVariants as phase
use Rattle.glob_match.specs.CharacterSet.{spans_of}
use Rattle.glob_match.specs.GlobText.{is_negation, is_class_character, is_special, is_plain_character, AreSigns, no_sign, sign, escaped_sign, IsClass, negated, listed, IsUnit, plain, escaped as escaped_unit, one, star, class, AreParts, last_part, next_part, in_part, AreComponents, last_component, next_component, single, any_of, IsGlobText}
use Rattle.glob_match.specs.Pattern.{Pattern, is_component, component, components, last_components}
use Rattle.glob_match.specs.Inner.Reader.{State, start, with_unit, begun_unit, slashed, in_name, in_part as read_in_part, classed, in_signs, in_opened, step, steps, pattern_read}
use Rattle.glob_match.proofs.Sound.{run}

-- a state in which a unit may follow
abbrev at : Place → State → State
at p s = record s { phase = phase.Units p; signs = [] }

abbrev in_class : Place → Bool → List Sign → State → State
in_class p is_negated signs s = record s { phase = phase.Signs p is_negated; signs = signs }

abbrev class_of : Bool → List Sign → Unit
class_of is_negated signs = Class (record { is_negated = is_negated; spans = spans_of signs })

go : (s next : State) (c : ℕ) (text : List ℕ) → step s c ≡ Some next → steps s (c ∷ text) ≡ steps next text
go s next c text e = ap (option_and_then (λ (n : State). steps n text)) e

-- classes
class_tests : (c : ℕ) → is_class_character c ≡ true → (nat_eq c 93 ≡ false) × (nat_eq c 92 ≡ false) × (nat_eq c 47 ≡ false)
class_tests c h =
    let none = or_parts (nat_eq c 93) (nat_eq c 92 || nat_eq c 47) (not-true (nat_eq c 93 || (nat_eq c 92 || nat_eq c 47)) h) in
    let rest = or_parts (nat_eq c 92) (nat_eq c 47) none.1 in (none.0, rest.0, rest.1)

some_length : (n : ℕ) → 0 < n → nat_eq n 0 ≡ false
some_length n h = ne_eqb n 0 (λ (e : n ≡ 0). omega arith)

close_step : (p : Place) (is_negated : Bool) (s : State) (read : List Sign) → 0 < length read → step (in_class p is_negated read s) 93 ≡ Some (with_unit p (class_of is_negated read) (at p s))
unfolding in_signs classed
close_step p is_negated s read h = rw (some_length (length read) h) refl

sign_step : (p : Place) (is_negated : Bool) (s : State) (read : List Sign) (c : ℕ) → is_class_character c ≡ true
    → step (in_class p is_negated read s) c ≡ Some (in_class p is_negated (read ++ record { character = c; is_escaped = false } ∷ []) s)
unfolding in_signs
sign_step p is_negated s read c h = let t = class_tests c h in rw (t.0, t.1, t.2) refl

escape_step : (p : Place) (is_negated : Bool) (s : State) (read : List Sign) → step (in_class p is_negated read s) 92 ≡ Some (record s { phase = phase.EscapedSign p is_negated; signs = read })
unfolding in_signs
escape_step p is_negated s read = refl

escaped_sign_step : (p : Place) (is_negated : Bool) (s : State) (read : List Sign) (c : ℕ) → c ≢ 47
    → step (record s { phase = phase.EscapedSign p is_negated; signs = read }) c ≡ Some (in_class p is_negated (read ++ record { character = c; is_escaped = true } ∷ []) s)
escaped_sign_step p is_negated s read c h = rw (ne_eqb c 47 h) refl

signs_run : (p : Place) (is_negated : Bool) (s : State) (read : List Sign) {text rest : List ℕ} {signs : List Sign} → AreSigns text signs rest → 0 < length (read ++ signs)
    → steps (in_class p is_negated read s) text ≡ steps (with_unit p (class_of is_negated (read ++ signs)) (at p s)) rest
signs_run p is_negated s read (no_sign {rest = rest}) some = rw append-nil
    (go (in_class p is_negated read s) (with_unit p (class_of is_negated read) (at p s)) 93 rest (close_step p is_negated s read (rw append-nil at some)))
signs_run p is_negated s read (sign {text = text} {signs = signs} c is more) some =
    let this : Sign = record { character = c; is_escaped = false } in
    let joined : (read ++ this ∷ []) ++ signs ≡ read ++ this ∷ signs = append_assoc read (this ∷ []) signs in
    go (in_class p is_negated read s) (in_class p is_negated (read ++ this ∷ []) s) c text (sign_step p is_negated s read c is)
    ∙ rw (← joined) (signs_run p is_negated s (read ++ this ∷ []) more (rw joined some))
signs_run p is_negated s read (escaped_sign {text = text} {signs = signs} c no_slash more) some =
    let this : Sign = record { character = c; is_escaped = true } in
    let joined : (read ++ this ∷ []) ++ signs ≡ read ++ this ∷ signs = append_assoc read (this ∷ []) signs in
    go (in_class p is_negated read s) (record s { phase = phase.EscapedSign p is_negated; signs = read }) 92 (c ∷ text) (escape_step p is_negated s read)
    ∙ go (record s { phase = phase.EscapedSign p is_negated; signs = read }) (in_class p is_negated (read ++ this ∷ []) s) c text (escaped_sign_step p is_negated s read c no_slash)
    ∙ rw (← joined) (signs_run p is_negated s (read ++ this ∷ []) more (rw joined some))

abbrev opened : Place → State → State
opened p s = record s { phase = phase.Opened p; signs = [] }

negation_step : (p : Place) (s : State) (c : ℕ) → is_negation c ≡ true → step (opened p s) c ≡ Some (in_class p true [] s)
unfolding in_opened
negation_step p s c h = rw h refl

-- a class that isn't negated begins with its first sign
listed_steps : (p : Place) (s : State) (c : ℕ) (text : List ℕ) → is_negation c ≡ false → steps (opened p s) (c ∷ text) ≡ steps (in_class p false [] s) (c ∷ text)
unfolding in_opened in_signs classed
listed_steps p s c text h = rw h refl

class_run : (p : Place) (s : State) {text rest : List ℕ} {is_negated : Bool} {signs : List Sign} → IsClass text is_negated signs rest
    → steps (opened p s) text ≡ steps (with_unit p (class_of is_negated signs) (at p s)) rest
class_run p s (negated {text = text} c n is) = go (opened p s) (in_class p true [] s) c text (negation_step p s c n) ∙ signs_run p true s [] is (omega arith)
class_run p s (listed {text = text} c n is) = listed_steps p s c text n ∙ signs_run p false s [] is (omega arith)

-- units
special_tests : (c : ℕ) → is_special c ≡ false → (nat_eq c 92 ≡ false) × (nat_eq c 42 ≡ false) × (nat_eq c 63 ≡ false) × (nat_eq c 91 ≡ false) × (nat_eq c 123 ≡ false) × (nat_eq c 47 ≡ false)
special_tests c h =
    let a = or_parts (nat_eq c 92) (nat_eq c 42 || (nat_eq c 63 || (nat_eq c 91 || (nat_eq c 123 || nat_eq c 47)))) h in
    let b = or_parts (nat_eq c 42) (nat_eq c 63 || (nat_eq c 91 || (nat_eq c 123 || nat_eq c 47))) a.1 in
    let d = or_parts (nat_eq c 63) (nat_eq c 91 || (nat_eq c 123 || nat_eq c 47)) b.1 in
    let e = or_parts (nat_eq c 91) (nat_eq c 123 || nat_eq c 47) d.1 in
    let f = or_parts (nat_eq c 123) (nat_eq c 47) e.1 in (a.0, b.0, d.0, e.0, f.0, f.1)

plain_step : (p : Place) (s : State) (c : ℕ) → is_plain_character p c ≡ true → step (at p s) c ≡ Some (with_unit p (Plain c) (at p s))
unfolding in_name read_in_part begun_unit
plain_step place.Name s c h = let t = special_tests c (not-true (is_special c) h) in rw (t.0, t.1, t.2, t.3, t.4, t.5) refl
plain_step place.Part s c h =
    let both = or_parts (is_special c) (nat_eq c 44 || nat_eq c 125) (not-true (is_special c || (nat_eq c 44 || nat_eq c 125)) h) in
    let t = special_tests c both.0 in
    let u = or_parts (nat_eq c 44) (nat_eq c 125) both.1 in rw (t.0, t.1, t.2, t.3, t.4, t.5, u.0, u.1) refl

star_step : (p : Place) (s : State) → step (at p s) 42 ≡ Some (with_unit p Star (at p s))
unfolding in_name read_in_part begun_unit
star_step place.Name s = refl
star_step place.Part s = refl

one_step : (p : Place) (s : State) → step (at p s) 63 ≡ Some (with_unit p One (at p s))
unfolding in_name read_in_part begun_unit
one_step place.Name s = refl
one_step place.Part s = refl

open_step : (p : Place) (s : State) → step (at p s) 91 ≡ Some (opened p s)
unfolding in_name read_in_part begun_unit
open_step place.Name s = refl
open_step place.Part s = refl

backslash_step : (p : Place) (s : State) → step (at p s) 92 ≡ Some (record s { phase = phase.Escape p; signs = [] })
unfolding in_name read_in_part begun_unit
backslash_step place.Name s = refl
backslash_step place.Part s = refl

escaped_step : (p : Place) (s : State) (c : ℕ) → c ≢ 47 → step (record s { phase = phase.Escape p; signs = [] }) c ≡ Some (with_unit p (Escaped c) (at p s))
escaped_step p s c h = rw (ne_eqb c 47 h) refl

unit_run : (p : Place) (s : State) {text more : List ℕ} {unit : Unit} → IsUnit p text unit more → steps (at p s) text ≡ steps (with_unit p unit (at p s)) more
unit_run p s (plain {rest = rest} c is) = go (at p s) (with_unit p (Plain c) (at p s)) c rest (plain_step p s c is)
unit_run p s (escaped_unit {rest = rest} c no_slash) =
    go (at p s) (record s { phase = phase.Escape p; signs = [] }) 92 (c ∷ rest) (backslash_step p s)
    ∙ go (record s { phase = phase.Escape p; signs = [] }) (with_unit p (Escaped c) (at p s)) c rest (escaped_step p s c no_slash)
unit_run p s (one {rest = rest}) = go (at p s) (with_unit p One (at p s)) 63 rest (one_step p s)
unit_run p s (star {rest = rest}) = go (at p s) (with_unit p Star (at p s)) 42 rest (star_step p s)
unit_run p s (class {text = text} is) = go (at p s) (opened p s) 91 text (open_step p s) ∙ class_run p s is

-- parts
abbrev in_parts : List (List Unit) → List Unit → State → State
in_parts before units s = at place.Part (record s { parts = before; units = units })

abbrev behind_parts : List (List Unit) → State → State
behind_parts all s = at place.Name (record s { pieces = s.pieces ++ AnyOf all ∷ []; parts = []; units = [] })

parts_step : (s : State) (before : List (List Unit)) (units : List Unit) → step (in_parts before units s) 125 ≡ Some (behind_parts (before ++ units ∷ []) s)
unfolding read_in_part
parts_step s before units = refl

part_step : (s : State) (before : List (List Unit)) (units : List Unit) → step (in_parts before units s) 44 ≡ Some (in_parts (before ++ units ∷ []) [] s)
unfolding read_in_part
part_step s before units = refl

parts_run : (s : State) (before : List (List Unit)) (units : List Unit) {text rest : List ℕ} {part : List Unit} {parts : List (List Unit)} → AreParts text part parts rest
    → steps (in_parts before units s) text ≡ steps (behind_parts (before ++ (units ++ part) ∷ parts) s) rest
parts_run s before units (last_part {rest = rest}) = rw (append-nil units) (go (in_parts before units s) (behind_parts (before ++ units ∷ []) s) 125 rest (parts_step s before units))
parts_run s before units (next_part {text = text} {part = part} {parts = parts} more) =
    let joined : (before ++ units ∷ []) ++ part ∷ parts ≡ before ++ units ∷ part ∷ parts = append_assoc before (units ∷ []) (part ∷ parts) in
    go (in_parts before units s) (in_parts (before ++ units ∷ []) [] s) 44 text (part_step s before units)
    ∙ rw (append-nil units, ← joined) (parts_run s (before ++ units ∷ []) [] more)
parts_run s before units (in_part {first = first} {part = part} {parts = parts} is more) =
    let joined : (units ++ first ∷ []) ++ part ≡ units ++ first ∷ part = append_assoc units (first ∷ []) part in
    unit_run place.Part (record s { parts = before; units = units }) is ∙ rw (← joined) (parts_run s before (units ++ first ∷ []) more)

-- components
slash_step : (s : State) → is_component s.pieces ≡ true → step (at place.Name s) 47 ≡ Some (at place.Name (record s { components = s.components ++ component s.pieces ∷ []; pieces = [] }))
unfolding in_name slashed
slash_step s h = rw h refl

braces_step : (s : State) → step (at place.Name s) 123 ≡ Some (in_parts [] [] s)
unfolding in_name
braces_step s = refl

end_run : (s : State) → is_component s.pieces ≡ true → run (at place.Name s) [] ≡ Some (record { is_absolute = s.is_absolute; components = s.components ++ last_components s.pieces })
unfolding pattern_read
end_run s h = rw h refl

abbrev meant : State → List Piece → List (List Piece) → Pattern
meant s pieces others = record { is_absolute = s.is_absolute; components = s.components ++ components (s.pieces ++ pieces) others }

components_run : (s : State) {text : List ℕ} {pieces : List Piece} {others : List (List Piece)} → AreComponents text pieces others → list_all is_component ((s.pieces ++ pieces) ∷ others) ≡ true
    → run (at place.Name s) text ≡ Some (meant s pieces others)
components_run s last_component proper =
    let whole : s.pieces ++ [] ≡ s.pieces = append-nil s.pieces in
    rw whole (end_run s (and_parts (is_component s.pieces) true (rw whole at proper)).0)
components_run s (next_component {text = text} {pieces = pieces} {others = others} more) proper =
    let whole : s.pieces ++ [] ≡ s.pieces = append-nil s.pieces in
    let parts = and_parts (is_component s.pieces) (list_all is_component (pieces ∷ others)) (rw whole at proper) in
    let next : State = record s { components = s.components ++ component s.pieces ∷ []; pieces = [] } in
    let joined : (s.components ++ component s.pieces ∷ []) ++ components pieces others ≡ s.components ++ component s.pieces ∷ components pieces others = append_assoc s.components (component s.pieces ∷ []) (components pieces others) in
    ap (option_and_then pattern_read) (go (at place.Name s) (at place.Name next) 47 text (slash_step s parts.0))
    ∙ rw (whole, ← joined) (components_run next more parts.1)
components_run s (single {first = first} {pieces = pieces} is more) proper =
    let joined : (s.pieces ++ Single first ∷ []) ++ pieces ≡ s.pieces ++ Single first ∷ pieces = append_assoc s.pieces (Single first ∷ []) pieces in
    ap (option_and_then pattern_read) (unit_run place.Name s is) ∙ rw (← joined) (components_run (record s { pieces = s.pieces ++ Single first ∷ [] }) more (rw joined proper))
components_run s (any_of {text = text} {part = part} {parts = parts} {pieces = pieces} is more) proper =
    let joined : (s.pieces ++ AnyOf (part ∷ parts) ∷ []) ++ pieces ≡ s.pieces ++ AnyOf (part ∷ parts) ∷ pieces = append_assoc s.pieces (AnyOf (part ∷ parts) ∷ []) pieces in
    ap (option_and_then pattern_read) (go (at place.Name s) (in_parts [] [] s) 123 text (braces_step s) ∙ parts_run s [] [] is)
    ∙ rw (← joined) (components_run (record s { pieces = s.pieces ++ AnyOf (part ∷ parts) ∷ []; parts = []; units = [] }) more (rw joined proper))

absolute_step : step start 47 ≡ Some (at place.Name (record start { is_absolute = true }))
unfolding in_name slashed
absolute_step = refl

-- the reader takes each glob
pub complete : (text : List ℕ) (pattern : Pattern) → IsGlobText text pattern → run start text ≡ Some pattern
complete [] pattern is = components_run start is.reads is.proper ∙ ap Some (sym is.means)
complete (c ∷ text) pattern is = by (nat_eq c 47) refl
  where
    by : (b : Bool) → nat_eq c 47 ≡ b → run start (c ∷ text) ≡ Some pattern
    by true e =
        let same : c ≡ 47 = eqb-true c 47 e in
        ap (λ (x : ℕ). run start (x ∷ text)) same
        ∙ ap (option_and_then pattern_read) (go start (at place.Name (record start { is_absolute = true })) 47 text absolute_step)
        ∙ components_run (record start { is_absolute = true }) (rw e at is.reads) is.proper ∙ ap Some (sym (rw e at is.means))
    by false e = components_run start (rw e at is.reads) is.proper ∙ ap Some (sym (rw e at is.means))
