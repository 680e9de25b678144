-- A row over more bytes of its file, or over fewer.
use Rattle.std.proofs.Common.{◌≡◌, ℕ, ◌+◌, ◌-◌, ◌≤◌, List, [], ◌∷◌, ◌++◌, length, drop, map, sym, ap, ◌∙◌, subst, arith, append_assoc, length-append, length-drop}
use Rattle.std.proofs.lemmas.List.{drop-append-le, length-map}
use Rattle.file_tracker.specs.declared.ends.End.{End}
use Rattle.line_splitter.proofs.CutLemmas.{cuts-append}
use Rattle.line_splitter.specs.Cuts.{Cut, cuts}
use Rattle.pipeline.specs.AsRules.{rules_of}
use Rattle.pipeline.specs.Parts.{settings_of}
use Rattle.pipeline.specs.Tokens.{first_cut_of}
use Rattle.pipeline.specs.declared.Pipeline.{Pipeline}
use Rattle.standing.specs.Closed.{Made, ClosedPart, AreClosed}
use Rattle.standing.specs.Eras.{Eras, last_era}
use Rattle.standing.specs.Part.{HasTaken, first_point, last_point, part_from}
use Rattle.standing.specs.Rows.{Row}
use Rattle.standing.specs.Rules.{Rules}
use Rattle.standing.specs.Tokens.{UpTo, used_by}
use Rattle.auditor.specs.RowHolds.{AreErasFrom, RowHolds}
use Rattle.auditor.specs.Rests.{HasRest}
use Rattle.auditor.proofs.Near.{near_by, front_there}
use Rattle.auditor.proofs.Piping.{rules_from}
use Rattle.auditor.proofs.Running.{cut_rule}
use Rattle.auditor.proofs.Standing.{AreRulesFrom, of_text, one_some, later_rules, first_are, last_are, same_bound, text_bound}

-- bounds of the one content up to a row's offset are bounds of the other with the same tokens
abbrev pub Moves : List ℕ → List ℕ → ℕ → Rules → Type 0
Moves content other offset rules = (from n : ℕ) (tokens : List (List ℕ)) → from + n ≤ offset → UpTo rules (drop from content) n tokens → UpTo rules (drop from other) n tokens

abbrev pub AllMove : List ℕ → List ℕ → ℕ → List Rules → Type 0
AllMove content other offset [] = Unit {0}
AllMove content other offset (rules ∷ later) = Moves content other offset rules × AllMove content other offset later

module _ (eras : Eras) (content other : List ℕ) (row : Row) (long : row.offset ≤ length other) where
  abbrev HaveTakenOf : List ℕ → End → List End → List (List ℕ) → Type 0
  HaveTakenOf bytes from ends tokens = HasTaken (last_era eras) (part_from (last_era eras) (last_point from ends)) bytes tokens row

  record Moved (era : ℕ) (from : End) (ends : List End) (made : List Made) (tokens : List (List ℕ)) : Type 0 where
    closed : AreClosed eras other row.path era from ends made
    taken : HaveTakenOf other from ends tokens
    begins : from.offset ≤ row.offset

  move_one : (text : List ℕ) (rules its : Rules) (from n : ℕ) (tokens : List (List ℕ)) → its ≡ of_text text rules → Moves content other row.offset rules → from + n ≤ row.offset
      → UpTo its (drop from content) n tokens → UpTo its (drop from other) n tokens
  move_one text rules its from n tokens same moves within bound =
      subst (λ (r : Rules). UpTo r (drop from other) n tokens) (sym same)
      (text_bound text rules (drop from other) n tokens
      (moves from n tokens within (same_bound text rules (drop from content) n tokens (subst (λ (r : Rules). UpTo r (drop from content) n tokens) same bound))))

  moved : (all : List Rules) (era : ℕ) (from : End) (ends : List End) (made : List Made) (tokens : List (List ℕ)) → AreRulesFrom eras era all → length all ≡ length ends + 1
      → AllMove content other row.offset all → AreClosed eras content row.path era from ends made → HaveTakenOf content from ends tokens → Moved era from ends made tokens
  moved [] era from ends made tokens are many moves closed taken = absurd (omega (arith, many))
  moved (rules ∷ []) era from [] made tokens are many moves closed taken =
      let last = last_are eras era rules are in
      record {
        closed = closed;
        taken = record {
          begins = taken.begins;
          within = long;
          bound = move_one last.0 rules (last_era eras) from.offset (row.offset - from.offset) tokens last.1 moves.0 (omega (arith, taken.begins)) taken.bound;
          records = taken.records;
          lines = taken.lines;
          state = taken.state;
        };
        begins = taken.begins;
      }
  moved (rules ∷ next ∷ later) era from [] made tokens are many moves closed taken = absurd (omega (arith, many))
  moved (rules ∷ later) era from (end ∷ ends) made tokens are many moves closed taken =
      let first = first_are eras era rules later are in
      let part = closed.0 in
      let same : part.rules ≡ of_text first.0 rules = one_some part.rules (of_text first.0 rules) (sym part.there ∙ first.1) in
      let rest = moved later (era + 1) end ends closed.1 tokens (later_rules eras era rules later are) (omega (arith, many)) moves.1 closed.3 taken in
      let its : ClosedPart eras other row.path era from end = record {
        rules = part.rules;
        there = part.there;
        begins = part.begins;
        within = omega (arith, rest.begins, long);
        tokens = part.tokens;
        bound = move_one first.0 rules part.rules from.offset (end.offset - from.offset) part.tokens same moves.0 (omega (arith, part.begins, rest.begins)) part.bound;
        records = part.records;
        lines = part.lines;
      } in
      record {
        closed = (its, closed.1, closed.2, rest.closed);
        taken = rest.taken;
        begins = omega (arith, part.begins, rest.begins);
      }

  pub row_moves : (all : List Rules) (kept : List ℕ) → AreRulesFrom eras row.born all → length all ≡ length row.ends + 1 → AllMove content other row.offset all → RowHolds eras content row kept
      → RowHolds eras other row kept
  row_moves all kept are many moves h =
      let m = moved all row.born (first_point row) row.ends h.earlier h.tokens are many moves h.closed h.taken in
      record {
        earlier = h.earlier;
        closed = m.closed;
        tokens = h.tokens;
        taken = m.taken;
        own = h.own;
        are_own = h.are_own;
        lines = h.lines;
        spelled = h.spelled;
        all_lines = h.all_lines;
        times = h.times;
        of_64_bits = h.of_64_bits;
      }

-- ---- more bytes, and fewer

longer : (pipe : Pipeline) (content more : List ℕ) (offset : ℕ) → offset ≤ length content → Moves content (content ++ more) offset (rules_of [] pipe)
longer pipe content more offset long = λ from n tokens within bound.
    let first = first_cut_of (settings_of pipe) in
    let rest = cuts first (drop (used_by (cuts first (drop from content))) (drop from content) ++ more) in
    record {
      taken = bound.taken;
      behind = bound.behind ++ rest;
      split =
          ap (cuts first) (drop-append-le from content more (omega (arith, within, long))) ∙ cuts-append first (cut_rule pipe) (drop from content) more
          ∙ ap (λ (cs : List Cut). cs ++ rest) bound.split ∙ append_assoc bound.taken bound.behind rest;
      uses = bound.uses;
      are = bound.are;
    }

shorter : (pipe : Pipeline) (content more : List ℕ) (offset : ℕ) → offset + (settings_of pipe).max_log_size + 2 ≤ length content → Moves (content ++ more) content offset (rules_of [] pipe)
shorter pipe content more offset long = λ from n tokens within bound.
    let settings = settings_of pipe in
    let first = first_cut_of settings in
    let there : cuts first (drop from content ++ more) ≡ bound.taken ++ bound.behind =
    ap (cuts first) (sym (drop-append-le from content more (omega (arith, within, long)))) ∙ bound.split in
    let found = front_there first settings.max_log_size (cut_rule pipe) (near_by settings.multiline settings.max_log_size pipe.some_bytes) (drop from content) more bound.taken bound.behind there
    (omega (arith, within, long, bound.uses, length-drop from content)) in
    record { taken = bound.taken; behind = found.0; split = found.1; uses = bound.uses; are = bound.are }

all_longer : (pipes : List Pipeline) (content more : List ℕ) (offset : ℕ) → offset ≤ length content → AllMove content (content ++ more) offset (map (rules_of []) pipes)
all_longer [] content more offset long = tt
all_longer (pipe ∷ pipes) content more offset long = (longer pipe content more offset long, all_longer pipes content more offset long)

all_shorter : (pipes : List Pipeline) (content more : List ℕ) (offset : ℕ) → HasRest pipes offset content → AllMove (content ++ more) content offset (map (rules_of []) pipes)
all_shorter [] content more offset rest = tt
all_shorter (pipe ∷ pipes) content more offset rest = (shorter pipe content more offset rest.0, all_shorter pipes content more offset rest.1)

pub holds_on : (eras : Eras) (pipes : List Pipeline) (content more : List ℕ) (row : Row) (kept : List ℕ) → AreErasFrom eras row.born pipes → length pipes ≡ length row.ends + 1
    → RowHolds eras content row kept → RowHolds eras (content ++ more) row kept
holds_on eras pipes content more row kept are many h =
    row_moves eras content (content ++ more) row (omega (arith, h.taken.within, length-append content more)) (map (rules_of []) pipes) kept (rules_from eras row.born pipes are)
    (length-map pipes (rules_of []) ∙ many) (all_longer pipes content more row.offset h.taken.within) h

pub held_before : (eras : Eras) (pipes : List Pipeline) (content more : List ℕ) (row : Row) (kept : List ℕ) → AreErasFrom eras row.born pipes → length pipes ≡ length row.ends + 1
    → HasRest pipes row.offset content → row.offset ≤ length content → RowHolds eras (content ++ more) row kept → RowHolds eras content row kept
held_before eras pipes content more row kept are many rest long h =
    row_moves eras (content ++ more) content row long (map (rules_of []) pipes) kept (rules_from eras row.born pipes are)
    (length-map pipes (rules_of []) ∙ many) (all_shorter pipes content more row.offset rest) h
