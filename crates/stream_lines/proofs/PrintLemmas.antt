-- Printing, part after part.
use Rattle.std.proofs.Common.{◌≡◌, ℕ, ◌+◌, List, [], ◌∷◌, ◌++◌, length, take, drop, sym, ap, subst, ◌∙◌, inl, inr, arith, append_assoc, length-append}
use Rattle.std.proofs.Math.Seq.{take-append-add, take-append_seam}
use Rattle.std.proofs.lemmas.Bool.{cases_lt}
use Rattle.std.proofs.lemmas.Grind.{flat_map-append}
use Rattle.std.proofs.lemmas.List.{append-nil, take_all, take-append-drop, take-append-le}
use Rattle.std.specs.Prelude.{Option, Result, Ok, Err}
use Rattle.file_pass.specs.Full.{Crosses, line_of, lines_text}
use Rattle.outside.specs.World.{Told}
use Rattle.outside.specs.declared.fault.CallFault.{CallFault}
use Rattle.outside.specs.declared.fault.CallFault.TheVariants as call
use Rattle.outside.proofs.Telling.{told_then, told_weaker, told_same}
use Rattle.standing.specs.Marks.{Mark}
use Rattle.stream_lines.specs.Causes.{HasSourceCause, report_fault}
use Rattle.stream_lines.specs.Limits.{most_printed}
use Rattle.stream_lines.specs.Prints.{Prints, PrintsBefore, PrintsPart, Tells}
use Rattle.stream_lines.specs.declared.fault.StreamFault.{StreamFault}
use Rattle.stream_lines.specs.declared.fault.StreamFault.TheVariants.{Source, Report, Long, Full, Memory}
use Rattle.file_pass.proofs.GoingOn.{text_append}

pub prints_then : (front back : List ℕ) (begun mid new : Option (List ℕ)) → Told (Prints front) begun mid → Told (Prints back) mid new → Told (Prints (front ++ back)) begun new
prints_then front back begun mid new =
    told_then (Prints front) (Prints back) (Prints (front ++ back)) begun mid new
    (λ x y z first next. next ∙ ap (λ (l : List ℕ). l ++ back) first ∙ append_assoc x front back)

pub part_then : (front back : List ℕ) (begun mid new : Option (List ℕ)) → Told (Prints front) begun mid → Told (PrintsPart back) mid new → Told (PrintsPart (front ++ back)) begun new
part_then front back begun mid new =
    told_then (Prints front) (PrintsPart back) (PrintsPart (front ++ back)) begun mid new
    (λ x y z first next. (
      length front + next.0,
      next.1 ∙ ap (λ (l : List ℕ). l ++ take next.0 back) first ∙ append_assoc x front (take next.0 back) ∙ ap (λ (l : List ℕ). x ++ l) (sym (take-append-add front back next.0)),
    ))

-- a part of a front is a part of the whole
pub part_on : (front more : List ℕ) (mid new : Option (List ℕ)) → Told (PrintsPart front) mid new → Told (PrintsPart (front ++ more)) mid new
part_on front more mid new =
    told_weaker (PrintsPart front) (PrintsPart (front ++ more)) mid new
    (λ x y part. elim (cases_lt part.0 (length front)) [
      | inl short ↦ (part.0, part.1 ∙ ap (λ (l : List ℕ). x ++ l) (sym (take-append-le part.0 front more (omega (arith, short)))))
      | inr long ↦ (length front, part.1 ∙ ap (λ (l : List ℕ). x ++ l) (take_all part.0 front long ∙ sym (take-append_seam front more)))
    ])

pub part_of_take : (size : ℕ) (text : List ℕ) (mid new : Option (List ℕ)) → Told (PrintsPart (take size text)) mid new → Told (PrintsPart text) mid new
part_of_take size text mid new part =
    subst (λ (l : List ℕ). Told (PrintsPart l) mid new) (take-append-drop size text) (part_on (take size text) (drop size text) mid new part)

pub whole_is_part : (text : List ℕ) (mid new : Option (List ℕ)) → Told (Prints text) mid new → Told (PrintsPart text) mid new
whole_is_part text mid new =
    told_weaker (Prints text) (PrintsPart text) mid new (λ x y is. (length text, is ∙ ap (λ (l : List ℕ). x ++ l) (sym (take_all (length text) text (omega arith)))))

pub nothing_printed : (now : Option (List ℕ)) → Told (Prints []) now now
nothing_printed now = told_same (Prints []) now (λ text. sym (append-nil text))

-- a write failed
pub write_tells : (lines : List Mark) (fault : CallFault) (result : Result Unit StreamFault) (old new : Option (List ℕ)) → result ≡ Err (report_fault fault)
    → Told (PrintsPart (lines_text lines)) old new → Tells lines result old new
write_tells lines fault result old new is part = subst (λ (r : Result Unit StreamFault). Tells lines r old new) (sym is) (at fault)
  where
    at : (given : CallFault) → Tells lines (Err (report_fault given)) old new
    at call.Failed = part
    at call.Memory = part

-- memory ran out
pub memory_tells : (lines : List Mark) (result : Result Unit StreamFault) (old new : Option (List ℕ)) → result ≡ Err Memory → Told (PrintsPart (lines_text lines)) old new → Tells lines result old new
memory_tells lines result old new is part = subst (λ (r : Result Unit StreamFault). Tells lines r old new) (sym is) part

-- those before the line that is too much were printed, behind lines that aren't
pub before_then : (printed : ℕ) (earlier marks : List Mark) (size : ℕ) (begun mid new : Option (List ℕ)) → printed ≡ length (lines_text earlier)
    → (crosses : Crosses most_printed printed marks size) → Told (Prints (lines_text earlier)) begun mid → Told (Prints (lines_text crosses.front)) mid new
    → PrintsBefore (earlier ++ marks) size begun new
before_then printed earlier marks size begun mid new counted crosses so_far next = record {
  crosses = record {
    front = earlier ++ crosses.front;
    last = crosses.last;
    back = crosses.back;
    split = ap (λ (l : List Mark). earlier ++ l) crosses.split ∙ sym (append_assoc earlier crosses.front (crosses.last ∷ crosses.back));
    within_before = omega (arith, counted, crosses.within_before, ap length (text_append earlier crosses.front), length-append (lines_text earlier) (lines_text crosses.front));
    size_then =
        let whole : lines_text ((earlier ++ crosses.front) ++ crosses.last ∷ []) ≡ lines_text earlier ++ lines_text (crosses.front ++ crosses.last ∷ []) =
        ap lines_text (append_assoc earlier crosses.front (crosses.last ∷ [])) ∙ text_append earlier (crosses.front ++ crosses.last ∷ []) in
        omega (arith, counted, crosses.size_then, ap length whole, length-append (lines_text earlier) (lines_text (crosses.front ++ crosses.last ∷ [])));
    too_much = crosses.too_much;
  };
  told = subst (λ (l : List ℕ). Told (Prints l) begun new) (sym (text_append earlier crosses.front)) (prints_then (lines_text earlier) (lines_text crosses.front) begun mid new so_far next);
}

-- what was printed of some lines is a part of these and more
pub earlier_part : (earlier more all : List Mark) (begun now : Option (List ℕ)) → all ≡ earlier ++ more → Told (Prints (lines_text earlier)) begun now → Told (PrintsPart (lines_text all)) begun now
earlier_part earlier more all begun now is so_far =
    subst (λ (l : List ℕ). Told (PrintsPart l) begun now) (sym (ap lines_text is ∙ text_append earlier more))
    (part_on (lines_text earlier) (lines_text more) begun now (whole_is_part (lines_text earlier) begun now so_far))

pub no_part : (text : List ℕ) (now : Option (List ℕ)) → Told (PrintsPart text) now now
no_part text now = told_same (PrintsPart text) now (λ old. (0, sym (append-nil old)))

-- no read is made
pub no_read : (lines : List Mark) (result : Result Unit StreamFault) (old new : Option (List ℕ)) (before after : ℕ) → Tells lines result old new → after ≡ before → HasSourceCause result before after
no_read lines (Ok _) old new before after tells stood = stood
no_read lines (Err Source) old new before after tells stood = absurd tells
no_read lines (Err Report) old new before after tells stood = stood
no_read lines (Err Long) old new before after tells stood = stood
no_read lines (Err (Full _)) old new before after tells stood = stood
no_read lines (Err Memory) old new before after tells stood = stood
