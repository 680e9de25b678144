-- The parts of a row by its eras, and by the rules of its pipelines.
use Rattle.std.proofs.Common.{◌≡◌, ℕ, zero, suc, ◌+◌, ◌-◌, List, [], ◌∷◌, ◌++◌, Some, length, drop, refl, sym, ap, ◌∙◌, subst, arith, append_assoc}
use Rattle.std.specs.Prelude.{Option, All, slice_get}
use Rattle.file_tracker.specs.declared.ends.End.{End}
use Rattle.standing.proofs.EraLemmas.{last_at}
use Rattle.standing.specs.Closed.{Made, ClosedPart, made_in, AreClosed, closed_output, flagged}
use Rattle.standing.specs.Eras.{Eras, era_at, era_count, last_era}
use Rattle.standing.specs.Part.{HasTaken, last_point, part_from, part_output}
use Rattle.standing.specs.Rows.{Row}
use Rattle.standing.specs.Rules.{Rules}
use Rattle.standing.specs.Tokens.{UpTo}
use Rattle.auditor.specs.Asked.{tokens_between, asked_closed, asked_from}
use Rattle.auditor.specs.Inner.Whole.{IsWholeClosed, AreWhole}
use Rattle.auditor.proofs.Bounds.{UsesSome, bound_tokens}

-- rules of a text
abbrev pub of_text : List ℕ → Rules → Rules
of_text text rules = record rules { settings = text }

-- these rules are, but for their texts, those of the eras from this one to the last, and their tokens use some bytes
pub record AreRulesFrom (eras : Eras) (era : ℕ) (all : List Rules) : Type 0 where
  pub to_last : era + length all ≡ suc (era_count eras)
  pub each : (place : ℕ) (rules : Rules) → slice_get all place ≡ Some rules → (text : List ℕ) × (era_at eras (era + place) ≡ Some (of_text text rules))
  pub use_some : (place : ℕ) (rules : Rules) → slice_get all place ≡ Some rules → (content : List ℕ) → All UsesSome (rules.cuts content)

pub one_some : {A : Type 0} (x y : A) → ◌≡◌ {A = Option A} (Some x) (Some y) → x ≡ y
one_some x y e = cc e

pub later_rules : (eras : Eras) (era : ℕ) (rules : Rules) (later : List Rules) → AreRulesFrom eras era (rules ∷ later) → AreRulesFrom eras (era + 1) later
later_rules eras era rules later are = record {
  to_last = omega (arith, are.to_last);
  each = λ place other there.
      let found = are.each (suc place) other there in
      let same : era + suc place ≡ era + 1 + place = omega arith in
      (found.0, ap (era_at eras) (sym same) ∙ found.1);
  use_some = λ place other there. are.use_some (suc place) other there;
}

-- the first of them are those of this era
pub first_are : (eras : Eras) (era : ℕ) (rules : Rules) (later : List Rules) → AreRulesFrom eras era (rules ∷ later) → (text : List ℕ) × (era_at eras era ≡ Some (of_text text rules))
first_are eras era rules later are =
    let found = are.each zero rules refl in
    let same : era ≡ era + 0 = omega arith in
    (found.0, ap (era_at eras) same ∙ found.1)

-- and where they are the only ones, those of the last era
pub last_are : (eras : Eras) (era : ℕ) (rules : Rules) → AreRulesFrom eras era (rules ∷ []) → (text : List ℕ) × (last_era eras ≡ of_text text rules)
last_are eras era rules are =
    let found = first_are eras era rules [] are in
    let same : era_count eras ≡ era = omega (arith, are.to_last) in
    (found.0, one_some (last_era eras) (of_text found.0 rules) (sym (last_at eras) ∙ ap (era_at eras) same ∙ found.1))

-- the text of the rules plays no part
pub same_bound : (text : List ℕ) (rules : Rules) (content : List ℕ) (n : ℕ) (tokens : List (List ℕ)) → UpTo (of_text text rules) content n tokens → UpTo rules content n tokens
same_bound text rules content n tokens b = record { taken = b.taken; behind = b.behind; split = b.split; uses = b.uses; are = b.are }

pub text_bound : (text : List ℕ) (rules : Rules) (content : List ℕ) (n : ℕ) (tokens : List (List ℕ)) → UpTo rules content n tokens → UpTo (of_text text rules) content n tokens
text_bound text rules content n tokens b = record { taken = b.taken; behind = b.behind; split = b.split; uses = b.uses; are = b.are }

closed_whole : (text : List ℕ) (rules : Rules) (content path : List ℕ) (from to : End) → IsWholeClosed (of_text text rules) content path from to → IsWholeClosed rules content path from to
closed_whole text rules content path from to w = record {
  begins = w.begins;
  within = w.within;
  tokens = w.tokens;
  bound = same_bound text rules (drop from.offset content) (to.offset - from.offset) w.tokens w.bound;
  records = w.records;
  lines = w.lines;
}

open_whole : (text : List ℕ) (rules : Rules) (content : List ℕ) (row : Row) (from : End) (tokens : List (List ℕ)) → HasTaken (of_text text rules) (part_from (of_text text rules) from) content tokens row
    → HasTaken rules (part_from rules from) content tokens row
open_whole text rules content row from tokens h = record {
  begins = h.begins;
  within = h.within;
  bound = same_bound text rules (drop from.offset content) (row.offset - from.offset) tokens h.bound;
  records = h.records;
  lines = h.lines;
  state = h.state;
}

open_text : (text : List ℕ) (rules : Rules) (content : List ℕ) (row : Row) (from : End) (tokens : List (List ℕ)) → HasTaken rules (part_from rules from) content tokens row
    → HasTaken (of_text text rules) (part_from (of_text text rules) from) content tokens row
open_text text rules content row from tokens h = record {
  begins = h.begins;
  within = h.within;
  bound = text_bound text rules (drop from.offset content) (row.offset - from.offset) tokens h.bound;
  records = h.records;
  lines = h.lines;
  state = h.state;
}

module _ (eras : Eras) (content : List ℕ) (row : Row) where
  -- what came out of the last part
  abbrev pub given_last : End → List End → List (List ℕ) → List Made
  given_last from ends tokens = flagged (last_era eras).stamps (part_output (last_era eras) (part_from (last_era eras) (last_point from ends)) row.path tokens)

  abbrev pub HaveTaken : End → List End → List (List ℕ) → Type 0
  HaveTaken from ends tokens = HasTaken (last_era eras) (part_from (last_era eras) (last_point from ends)) content tokens row

  pub record PartsAre (all : List Rules) (from : End) (ends : List End) (earlier : List Made) (tokens : List (List ℕ)) : Type 0 where
    pub whole : AreWhole all content row from ends
    pub made : earlier ++ given_last from ends tokens ≡ asked_from all content row from ends

  closed_is : (era : ℕ) (rules : Rules) (text : List ℕ) (from to : End) (part : ClosedPart eras content row.path era from to) → part.rules ≡ of_text text rules
      → ((c : List ℕ) → All UsesSome (rules.cuts c)) → IsWholeClosed rules content row.path from to × (made_in eras content row.path era from to part ≡ asked_closed rules content row.path from to)
  closed_is era rules text from to part same use_some =
      let own : IsWholeClosed part.rules content row.path from to =
      record { begins = part.begins; within = part.within; tokens = part.tokens; bound = part.bound; records = part.records; lines = part.lines } in
      let its : IsWholeClosed rules content row.path from to = closed_whole text rules content row.path from to (subst (λ (r : Rules). IsWholeClosed r content row.path from to) same own) in
      let bound : UpTo rules (drop from.offset content) (to.offset - from.offset) part.tokens =
      same_bound text rules (drop from.offset content) (to.offset - from.offset) part.tokens (subst (λ (r : Rules). UpTo r (drop from.offset content) (to.offset - from.offset) part.tokens) same part.bound) in
      let tokens : part.tokens ≡ tokens_between rules content from.offset to.offset = bound_tokens rules (drop from.offset content) (to.offset - from.offset) part.tokens bound (use_some (drop from.offset content)) in (
        its,
        ap (λ (r : Rules). flagged r.stamps (closed_output r row.path from.records part.tokens)) same
            ∙ ap (λ (ts : List (List ℕ)). flagged rules.stamps (closed_output rules row.path from.records ts)) tokens,
      )

  pub parts_are : (all : List Rules) (era : ℕ) (from : End) (ends : List End) (earlier : List Made) (tokens : List (List ℕ)) → AreRulesFrom eras era all → length all ≡ length ends + 1
      → AreClosed eras content row.path era from ends earlier → HaveTaken from ends tokens → PartsAre all from ends earlier tokens
  parts_are [] era from ends earlier tokens are many closed taken = absurd (omega (arith, many))
  parts_are (rules ∷ []) era from [] earlier tokens are many closed taken =
      let last = last_are eras era rules are in
      let its : HasTaken rules (part_from rules from) content tokens row =
      open_whole last.0 rules content row from tokens (subst (λ (r : Rules). HasTaken r (part_from r from) content tokens row) last.1 taken) in
      let are_tokens : tokens ≡ tokens_between rules content from.offset row.offset =
      bound_tokens rules (drop from.offset content) (row.offset - from.offset) tokens its.bound (are.use_some zero rules refl (drop from.offset content)) in
      record {
        whole = record { tokens = tokens; taken = its };
        made =
            ap (λ (ms : List Made). ms ++ given_last from [] tokens) closed
            ∙ ap (λ (r : Rules). flagged r.stamps (part_output r (part_from r from) row.path tokens)) last.1
            ∙ ap (λ (ts : List (List ℕ)). flagged rules.stamps (part_output rules (part_from rules from) row.path ts)) are_tokens;
      }
  parts_are (rules ∷ next ∷ later) era from [] earlier tokens are many closed taken = absurd (omega (arith, many))
  parts_are (rules ∷ later) era from (end ∷ ends) earlier tokens are many closed taken =
      let first = first_are eras era rules later are in
      let part = closed.0 in
      let same : part.rules ≡ of_text first.0 rules = one_some part.rules (of_text first.0 rules) (sym part.there ∙ first.1) in
      let one = closed_is era rules first.0 from end part same (are.use_some zero rules refl) in
      let rest = parts_are later (era + 1) end ends closed.1 tokens (later_rules eras era rules later are) (omega (arith, many)) closed.3 taken in
      record {
        whole = (one.0, rest.whole);
        made =
            ap (λ (ms : List Made). ms ++ given_last end ends tokens) closed.2
            ∙ append_assoc (made_in eras content row.path era from end part) closed.1 (given_last end ends tokens)
            ∙ ap (λ (ms : List Made). ms ++ (closed.1 ++ given_last end ends tokens)) one.1
            ∙ ap (λ (ms : List Made). asked_closed rules content row.path from end ++ ms) rest.made;
      }

  pub record PartsFound (era : ℕ) (from : End) (ends : List End) : Type 0 where
    pub earlier : List Made
    pub closed : AreClosed eras content row.path era from ends earlier
    pub tokens : List (List ℕ)
    pub taken : HaveTaken from ends tokens

  pub parts_found : (all : List Rules) (era : ℕ) (from : End) (ends : List End) → AreRulesFrom eras era all → length all ≡ length ends + 1 → AreWhole all content row from ends → PartsFound era from ends
  parts_found [] era from ends are many whole = absurd (omega (arith, many))
  parts_found (rules ∷ []) era from [] are many whole =
      let last = last_are eras era rules are in
      record {
        earlier = [];
        closed = refl;
        tokens = whole.tokens;
        taken = subst (λ (r : Rules). HasTaken r (part_from r from) content whole.tokens row) (sym last.1) (open_text last.0 rules content row from whole.tokens whole.taken);
      }
  parts_found (rules ∷ next ∷ later) era from [] are many whole = absurd (omega (arith, many))
  parts_found (rules ∷ later) era from (end ∷ ends) are many whole =
      let first = first_are eras era rules later are in
      let w = whole.0 in
      let part : ClosedPart eras content row.path era from end = record {
        rules = of_text first.0 rules;
        there = first.1;
        begins = w.begins;
        within = w.within;
        tokens = w.tokens;
        bound = text_bound first.0 rules (drop from.offset content) (end.offset - from.offset) w.tokens w.bound;
        records = w.records;
        lines = w.lines;
      } in
      let rest = parts_found later (era + 1) end ends (later_rules eras era rules later are) (omega (arith, many)) whole.1 in
      record {
        earlier = made_in eras content row.path era from end part ++ rest.earlier;
        closed = (part, rest.earlier, refl, rest.closed);
        tokens = rest.tokens;
        taken = rest.taken;
      }
