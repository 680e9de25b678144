-- What rows gave, part by part.
use Rattle.std.proofs.Common.{◌≡◌, ℕ, ◌+◌, List, [], ◌∷◌, ◌++◌, length, length-append, map, refl, sym, ap, ◌∙◌, arith, append_assoc}
use Rattle.std.proofs.lemmas.List.{map-append, length-map}
use Rattle.std.specs.Prelude.{Bool}
use Rattle.entry_model.specs.LogRecord.{LogRecord}
use Rattle.file_tracker.specs.declared.ends.End.{End}
use Rattle.standing.specs.Closed.{Made, AreClosed, closed_output, flagged, entries_in, flags_in, made_in, all_made}
use Rattle.standing.specs.Eras.{Eras, last_era}
use Rattle.standing.specs.Part.{last_point, last_part, part_output}
use Rattle.standing.specs.Rows.{Row}

pub entries_flagged : (flag : Bool) (entries : List LogRecord) → entries_in (flagged flag entries) ≡ entries
entries_flagged flag [] = refl
entries_flagged flag (entry ∷ entries) = ap (λ (es : List LogRecord). entry ∷ es) (entries_flagged flag entries)

pub flags_flagged : (flag : Bool) (entries : List LogRecord) → flags_in (flagged flag entries) ≡ map (λ (entry : LogRecord). flag) entries
flags_flagged flag [] = refl
flags_flagged flag (entry ∷ entries) = ap (λ (fs : List Bool). flag ∷ fs) (flags_flagged flag entries)

pub flagged-append : (flag : Bool) (entries more : List LogRecord) → flagged flag (entries ++ more) ≡ flagged flag entries ++ flagged flag more
flagged-append flag entries more = map-append _ entries more

pub entries-append : (made more : List Made) → entries_in (made ++ more) ≡ entries_in made ++ entries_in more
entries-append made more = map-append _ made more

pub flags-append : (made more : List Made) → flags_in (made ++ more) ≡ flags_in made ++ flags_in more
flags-append made more = map-append _ made more

pub many-flagged : (flag : Bool) (entries : List LogRecord) → length (flagged flag entries) ≡ length entries
many-flagged flag entries = length-map entries _

-- the lines up to the last end are those that the parts gave
pub closed_lines : (eras : Eras) (content path : List ℕ) (era : ℕ) (from : End) (ends : List End) (made : List Made) → AreClosed eras content path era from ends made
    → (last_point from ends).lines ≡ from.lines + length made
closed_lines eras content path era from [] made closed = omega (arith, ap length closed)
closed_lines eras content path era from (end ∷ ends) made closed =
    let part = closed.0 in
    let rest = closed_lines eras content path (era + 1) end ends closed.1 closed.3 in
    omega (arith, rest, part.lines, ap length closed.2, length-append (made_in eras content path era from end part) closed.1, many-flagged part.rules.stamps (closed_output part.rules path from.records part.tokens))

-- more of the last part
pub made_goes_on : (earlier : List Made) (flag : Bool) (before more : List LogRecord) → earlier ++ flagged flag (before ++ more) ≡ (earlier ++ flagged flag before) ++ flagged flag more
made_goes_on earlier flag before more = ap (λ (ms : List Made). earlier ++ ms) (flagged-append flag before more) ∙ sym (append_assoc earlier (flagged flag before) (flagged flag more))

pub entries_go_on : (eras : Eras) (row : Row) (earlier : List Made) (tokens more : List (List ℕ)) (last : List LogRecord)
    → part_output (last_era eras) (last_part (last_era eras) row) row.path (tokens ++ more) ≡ part_output (last_era eras) (last_part (last_era eras) row) row.path tokens ++ last
    → entries_in (all_made eras row earlier (tokens ++ more)) ≡ entries_in (all_made eras row earlier tokens) ++ last
entries_go_on eras row earlier tokens more last goes =
    let flag : Bool = (last_era eras).stamps in
    let given : List LogRecord = part_output (last_era eras) (last_part (last_era eras) row) row.path tokens in
    ap (λ (es : List LogRecord). entries_in (earlier ++ flagged flag es)) goes
    ∙ ap entries_in (made_goes_on earlier flag given last)
    ∙ entries-append (all_made eras row earlier tokens) (flagged flag last)
    ∙ ap (λ (es : List LogRecord). entries_in (all_made eras row earlier tokens) ++ es) (entries_flagged flag last)
