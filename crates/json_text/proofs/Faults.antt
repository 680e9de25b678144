-- Each text has one value or one leftmost fault.
use Rattle.std.proofs.Common.{◌≡◌, ◌≢◌, ℕ, ◌+◌, ◌<◌, ◌≤◌, ◌⊎◌, List, [], ◌∷◌, ◌++◌, ◌∙◌, ap, sym, refl, subst, Option, None, Some, length, take, drop, append_assoc, length-append, arith}
use Rattle.std.proofs.lemmas.List.{append-nil, take_at, take-take, take-append-drop, get_or_at}
use Rattle.entry_model.specs.Datum.{Datum}
use Rattle.json_text.specs.declared.fault.JsonFault.{JsonFault}
use Rattle.json_text.specs.declared.fault.JsonFault.TheVariants.{Syntax, TooDeep, Memory}
use Rattle.json_text.specs.Fault.{IsSyntaxFault, IsDepthFault, IsFault}
use Rattle.json_text.specs.Grammar.{IsText}
use Rattle.json_text.specs.Leftmost.{Begins, IsLeftmostFault}
use Rattle.json_text.specs.Machine.{State, Move, goes, stops, sinks, step, value_at, start, reads, syntax_at, too_deep_at, outcome, followed, ended}
use Rattle.json_text.proofs.Complete.{complete_text}
use Rattle.json_text.proofs.Running.{run, after, moved, run_past, read_is_run}
use Rattle.json_text.proofs.Sound.{sound_text}
use Rattle.json_text.proofs.Viable.{viable}
use Rattle.json_text.proofs.Wider.{wider, step_stops, step_sinks, step_sinks_at, run_wider, after_wider}

-- ---- one fault at most, whatever is spelled

module _ {V : Type 0} (Spells : List ℕ → V → Type 0) where
  front_begins : (front more : List ℕ) → Begins Spells (front ++ more) → Begins Spells front
  front_begins front more b = record {
    more = more ++ b.more;
    value = b.value;
    goes_on = subst (λ (l : List ℕ). Spells l b.value) (append_assoc front more b.more) b.goes_on;
  }

  shorter : (text : List ℕ) (a b : ℕ) → a ≤ b → Begins Spells (take b text) → Begins Spells (take a text)
  shorter text a b l begun =
      front_begins (take a text) (drop a (take b text))
      (subst (λ (t : List ℕ). Begins Spells t) (sym (ap (λ (t : List ℕ). t ++ drop a (take b text)) (sym (take-take a b text l)) ∙ take-append-drop a (take b text))) begun)

  no_later : (text : List ℕ) (a b : ℕ) → IsLeftmostFault Spells text a → IsLeftmostFault Spells text b → a < b → ⊥
  no_later text a b f g l =
      let inside : a < length text = let w = g.within in omega arith in
      let up : a + 1 ≤ b = omega arith in
      f.stops inside (shorter text (a + 1) b up g.begins)

  pub one_leftmost : (text : List ℕ) (a b : ℕ) → IsLeftmostFault Spells text a → IsLeftmostFault Spells text b → a ≡ b
  one_leftmost text a b f g = let x = no_later text a b f g in let y = no_later text b a g f in grind (arith, x, y)

-- ---- where a reading ends

-- no move goes on
abbrev Blocked : Move → Type 0
Blocked (goes t) = ⊥
Blocked stops = Unit {0}
Blocked sinks = Unit {0}

abbrev Halted : State → List ℕ → Type 0
Halted t [] = value_at t ≡ None
Halted t (byte ∷ bytes) = Blocked (step t byte)

blocked_run : (m : Move) (f : State → Option Datum) → Blocked m → moved f m ≡ None
blocked_run (goes t) f b = absurd b
blocked_run stops f b = refl
blocked_run sinks f b = refl

halted_run : (t : State) (rest : List ℕ) → Halted t rest → run t rest ≡ None
halted_run t [] h = h
halted_run t (byte ∷ rest) h = blocked_run (step t byte) (λ next. run next rest) h

front_taken : (front rest : List ℕ) → take (length front) (front ++ rest) ≡ front
front_taken front rest = take_at front rest (length front) refl

one_more_taken : (front rest : List ℕ) (byte : ℕ) → take (length front + 1) (front ++ byte ∷ rest) ≡ front ++ byte ∷ []
one_more_taken front rest byte =
    let len : length (front ++ byte ∷ []) ≡ length front + 1 = length-append front (byte ∷ []) in
    ap (take (length front + 1)) (sym (append_assoc front (byte ∷ []) rest)) ∙ take_at (front ++ byte ∷ []) rest (length front + 1) len

module _ (levels : ℕ) (front rest : List ℕ) (t : State) (reaches : after (start levels) front ≡ Some t) where
  begins_here : Begins (IsText levels) front
  begins_here =
      let on = viable t in record { more = on.more; value = on.v; goes_on = sound_text levels (front ++ on.more) on.v (run_past front on.more (start levels) t reaches ∙ on.runs) }

  no_value : Halted t rest → (value : Datum) → IsText levels (front ++ rest) value → ⊥
  no_value h value is =
      let runs : run t rest ≡ Some value = sym (run_past front rest (start levels) t reaches) ∙ complete_text levels (front ++ rest) value is in
      let none : run t rest ≡ None = halted_run t rest h in
      cc (runs, none)

stuck_at : (levels : ℕ) (front : List ℕ) (t : State) (byte : ℕ) → after (start levels) front ≡ Some t → Blocked (step t byte) → Begins (IsText levels) (front ++ byte ∷ []) → ⊥
stuck_at levels front t byte reaches b begun =
    no_value levels front (byte ∷ begun.more) t reaches b begun.value
    (subst (λ (l : List ℕ). IsText levels l begun.value) (append_assoc front (byte ∷ []) begun.more) begun.goes_on)

leftmost : (levels : ℕ) (front rest : List ℕ) (t : State) → after (start levels) front ≡ Some t → Halted t rest → IsLeftmostFault (IsText levels) (front ++ rest) (length front)
leftmost levels front rest t reaches h = record {
  within = let len : length (front ++ rest) ≡ length front + length rest = length-append front rest in omega arith;
  begins = subst (λ (l : List ℕ). Begins (IsText levels) l) (sym (front_taken front rest)) (begins_here levels front rest t reaches);
  stops = by rest h;
  none = no_value levels front rest t reaches h;
}
  where
    by : (rest : List ℕ) → Halted t rest → length front < length (front ++ rest) → Begins (IsText levels) (take (length front + 1) (front ++ rest)) → ⊥
    by [] h l b = let len : length (front ++ []) ≡ length front = ap length (append-nil front) in omega arith
    by (byte ∷ rest) h l b =
        stuck_at levels front t byte reaches h (subst (λ (l : List ℕ). Begins (IsText levels) l) (one_more_taken front rest byte) b)

-- the state before the byte at which the outcome is known, and what the outcome says of it
record Ends (s : State) (bytes : List ℕ) (at : ℕ) (place : ℕ) (Last : State → List ℕ → Type 0) : Type 0 where
  front : List ℕ
  rest : List ℕ
  t : State
  is : bytes ≡ front ++ rest
  at_place : place ≡ at + length front
  reaches : after s front ≡ Some t
  last : Last t rest

abbrev Stops : State → List ℕ → Type 0
Stops t [] = value_at t ≡ None
Stops t (byte ∷ rest) = step t byte ≡ stops

abbrev Sinks : State → List ℕ → Type 0
Sinks t [] = ⊥
Sinks t (byte ∷ rest) = step t byte ≡ sinks

one_on : (s t : State) (byte : ℕ) (bytes : List ℕ) (at place : ℕ) (Last : State → List ℕ → Type 0) → step s byte ≡ goes t
    → Ends t bytes (at + 1) place Last → Ends s (byte ∷ bytes) at place Last
one_on s t byte bytes at place Last e n = record {
  front = byte ∷ n.front;
  rest = n.rest;
  t = n.t;
  is = ap (λ (l : List ℕ). byte ∷ l) n.is;
  at_place = let p = n.at_place in omega arith;
  reaches = ap (moved (λ (next : State). after next n.front)) e ∙ n.reaches;
  last = n.last;
}

here : (s : State) (bytes : List ℕ) (at place : ℕ) (Last : State → List ℕ → Type 0) → place ≡ at → Last s bytes → Ends s bytes at place Last
here s bytes at place Last e last = record { front = []; rest = bytes; t = s; is = refl; at_place = omega arith; reaches = refl; last = last }

stops_where : (bytes : List ℕ) (s : State) (at place : ℕ) → outcome s bytes at ≡ syntax_at place → Ends s bytes at place Stops
unfolding outcome
stops_where [] s at place e = by (value_at s) refl e
  where
    by : (o : Option Datum) → value_at s ≡ o → ended at o ≡ syntax_at place → Ends s [] at place Stops
    by None is e = let same : place ≡ at = cc e in here s [] at place Stops same is
    by (Some v) is e = absurd (cc e)
stops_where (byte ∷ bytes) s at place e = by (step s byte) refl e (λ t. stops_where bytes t (at + 1) place)
  where
    by : (m : Move) → step s byte ≡ m → followed (λ next. outcome next bytes (at + 1)) at m ≡ syntax_at place
        → ((t : State) → outcome t bytes (at + 1) ≡ syntax_at place → Ends t bytes (at + 1) place Stops) → Ends s (byte ∷ bytes) at place Stops
    by (goes t) is e rec = one_on s t byte bytes at place Stops is (rec t e)
    by stops is e rec = let same : place ≡ at = cc e in here s (byte ∷ bytes) at place Stops same is
    by sinks is e rec = absurd (cc e)

sinks_where : (bytes : List ℕ) (s : State) (at place : ℕ) → outcome s bytes at ≡ too_deep_at place → Ends s bytes at place Sinks
unfolding outcome
sinks_where [] s at place e = by (value_at s) e
  where
    by : (o : Option Datum) → ended at o ≡ too_deep_at place → Ends s [] at place Sinks
    by None e = absurd (cc e)
    by (Some v) e = absurd (cc e)
sinks_where (byte ∷ bytes) s at place e = by (step s byte) refl e (λ t. sinks_where bytes t (at + 1) place)
  where
    by : (m : Move) → step s byte ≡ m → followed (λ next. outcome next bytes (at + 1)) at m ≡ too_deep_at place
        → ((t : State) → outcome t bytes (at + 1) ≡ too_deep_at place → Ends t bytes (at + 1) place Sinks) → Ends s (byte ∷ bytes) at place Sinks
    by (goes t) is e rec = one_on s t byte bytes at place Sinks is (rec t e)
    by stops is e rec = absurd (cc e)
    by sinks is e rec = let same : place ≡ at = cc e in here s (byte ∷ bytes) at place Sinks same is

blocked_stops : (m : Move) → m ≡ stops → Blocked m
blocked_stops (goes t) e = absurd (cc e)
blocked_stops stops e = tt
blocked_stops sinks e = tt

blocked_sinks : (m : Move) → m ≡ sinks → Blocked m
blocked_sinks (goes t) e = absurd (cc e)
blocked_sinks stops e = tt
blocked_sinks sinks e = tt

-- ---- the faults

fault_behind : (front rest : List ℕ) (t : State) → after (start 64) front ≡ Some t → Stops t rest → IsSyntaxFault (front ++ rest) (length front)
fault_behind front rest t reaches last = record { leftmost = leftmost 64 front rest t reaches (halts rest last); at_any_depth = by rest last }
  where
    halts : (rest : List ℕ) → Stops t rest → Halted t rest
    halts [] e = e
    halts (byte ∷ rest) e = blocked_stops (step t byte) e

    by : (rest : List ℕ) → Stops t rest → (levels : ℕ) → length front < length (front ++ rest) → Begins (IsText levels) (take (length front + 1) (front ++ rest)) → ⊥
    by [] e levels l b = let len : length (front ++ []) ≡ length front = ap length (append-nil front) in omega arith
    by (byte ∷ rest) e levels l b =
        let begun : Begins (IsText levels) (front ++ byte ∷ []) = subst (λ (l : List ℕ). Begins (IsText levels) l) (one_more_taken front rest byte) b in
        let wide : run (start (64 + levels)) ((front ++ byte ∷ []) ++ begun.more) ≡ Some begun.value =
        run_wider 64 ((front ++ byte ∷ []) ++ begun.more) (start levels) begun.value (complete_text levels ((front ++ byte ∷ []) ++ begun.more) begun.value begun.goes_on) in
        let swapped : 64 + levels ≡ levels + 64 = omega arith in
        stuck_at (levels + 64) front (wider levels t) byte (after_wider levels front (start 64) t reaches)
        (blocked_stops (step (wider levels t) byte) (step_stops levels t byte e))
        (record {
          more = begun.more;
          value = begun.value;
          goes_on = sound_text (levels + 64) ((front ++ byte ∷ []) ++ begun.more) begun.value
              (subst (λ (n : ℕ). run (start n) ((front ++ byte ∷ []) ++ begun.more) ≡ Some begun.value) swapped wide);
        })

pub syntax_fault : (text : List ℕ) (at : ℕ) → outcome (start 64) text 0 ≡ syntax_at at → IsSyntaxFault text at
syntax_fault text at e =
    let n = stops_where text (start 64) 0 at e in
    let place : at ≡ length n.front = let p = n.at_place in omega arith in
    let found : IsSyntaxFault (n.front ++ n.rest) (length n.front) = fault_behind n.front n.rest n.t n.reaches n.last in
    subst (λ (a : ℕ). IsSyntaxFault text a) (sym place) (subst (λ (l : List ℕ). IsSyntaxFault l (length n.front)) (sym n.is) found)

depth_behind : (front rest : List ℕ) (t : State) → after (start 64) front ≡ Some t → Sinks t rest → IsDepthFault (front ++ rest) (length front)
depth_behind front [] t reaches last = absurd last
depth_behind front (byte ∷ rest) t reaches last = record {
  leftmost = leftmost 64 front (byte ∷ rest) t reaches (blocked_sinks (step t byte) last);
  inside = let len : length (front ++ byte ∷ rest) ≡ length front + length (byte ∷ rest) = length-append front (byte ∷ rest) in omega arith;
  bracket = subst (λ (b : ℕ). (b ≡ 91) ⊎ (b ≡ 123)) (sym (get_or_at front byte rest 0 (length front) refl)) (step_sinks_at t byte last);
  one_deeper = deeper (step_sinks t byte last);
}
  where
    deeper : ((u : State) × (step (wider 1 t) byte ≡ goes u)) → Begins (IsText 65) (take (length front + 1) (front ++ byte ∷ rest))
    deeper next =
        let on = viable next.0 in
        let runs : run (start 65) (front ++ byte ∷ on.more) ≡ Some on.v =
        run_past front (byte ∷ on.more) (start 65) (wider 1 t) (after_wider 1 front (start 64) t reaches)
        ∙ ap (moved (λ (n : State). run n on.more)) next.1 ∙ on.runs in
        let whole : Begins (IsText 65) (front ++ byte ∷ []) = record {
          more = on.more;
          value = on.v;
          goes_on = subst (λ (l : List ℕ). IsText 65 l on.v) (sym (append_assoc front (byte ∷ []) on.more)) (sound_text 65 (front ++ byte ∷ on.more) on.v runs);
        } in
        subst (λ (l : List ℕ). Begins (IsText 65) l) (sym (one_more_taken front rest byte)) whole

pub depth_fault : (text : List ℕ) (at : ℕ) → outcome (start 64) text 0 ≡ too_deep_at at → IsDepthFault text at
depth_fault text at e =
    let n = sinks_where text (start 64) 0 at e in
    let place : at ≡ length n.front = let p = n.at_place in omega arith in
    let found : IsDepthFault (n.front ++ n.rest) (length n.front) = depth_behind n.front n.rest n.t n.reaches n.last in
    subst (λ (a : ℕ). IsDepthFault text a) (sym place) (subst (λ (l : List ℕ). IsDepthFault l (length n.front)) (sym n.is) found)

pub read_text : (text : List ℕ) (v : Datum) → outcome (start 64) text 0 ≡ reads v → IsText 64 text v
read_text text v e = sound_text 64 text v (read_is_run text (start 64) 0 v e)

-- ---- the laws

pub one_value : (levels : ℕ) (text : List ℕ) (value other : Datum) → IsText levels text value → IsText levels text other → value ≡ other
one_value levels text value other a b =
    let x = complete_text levels text value a in let y = complete_text levels text other b in cc (x, y)

apart : (text : List ℕ) (a b : ℕ) → IsSyntaxFault text a → IsDepthFault text b → ⊥
apart text a b f g =
    let same : b ≡ a = one_leftmost (IsText 64) text b a g.leftmost f.leftmost in
    f.at_any_depth 65 (subst (λ (n : ℕ). n < length text) same g.inside) (subst (λ (n : ℕ). Begins (IsText 65) (take (n + 1) text)) same g.one_deeper)

pub one_fault : (text : List ℕ) (fault other : JsonFault) → IsFault text fault → IsFault text other → fault ≢ Memory → other ≢ Memory → fault ≡ other
one_fault text (Syntax a) (Syntax b) f g _ _ = ap Syntax (one_leftmost (IsText 64) text a b f.leftmost g.leftmost)
one_fault text (Syntax a) (TooDeep b) f g _ _ = absurd (apart text a b f g)
one_fault text (TooDeep a) (Syntax b) f g _ _ = absurd (apart text b a g f)
one_fault text (TooDeep a) (TooDeep b) f g _ _ = ap TooDeep (one_leftmost (IsText 64) text a b f.leftmost g.leftmost)
one_fault text (Syntax a) Memory f g _ n = absurd (n refl)
one_fault text (TooDeep a) Memory f g _ n = absurd (n refl)
one_fault text Memory other f g n _ = absurd (n refl)
