-- The observed time that a line tells.
use Rattle.std.proofs.Common.{◌≡◌, ℕ, ◌+◌, ◌<◌, ◌^◌, Bool, true, false, List, ◌∷◌, ◌++◌, refl, sym, subst, ap, ◌∙◌, arith, length, take, drop, decimal, append_assoc, length-append, take-append-drop}
use Rattle.std.specs.Prelude.{Option, Some, None, codes, is_some}
use Rattle.std.proofs.lemmas.List.{drop_at, take_at, length-take-le}
use Rattle.entry_model.specs.LogRecord.{LogRecord}
use Rattle.memchr.specs.Find.{FindsNeedle, IsFirstByte, is_byte}
use Rattle.memchr.proofs.lemmas.MatchLemmas.{OccursAt-from_part, OccursAt-split}
use Rattle.otlp_json.specs.IsOf64Bits.{IsTime}
use Rattle.otlp_json.specs.ObservedTime.{HasOneTime, HasObservedTime}
use Rattle.otlp_json.specs.OutputLine.{output_line}
use Rattle.otlp_json.specs.RecordText.{observed_opening}
use Rattle.otlp_json.proofs.Splits.{digits_only}
use Rattle.kept_lines.specs.Made.{IsMade, IsNotMade}
use Rattle.kept_lines.proofs.Quotes.{first_quote}

nothing : (n : ℕ) → None ≡ Some n → ⊥
nothing n e = cc

-- the time stands behind what stands before it
behind : (time : ℕ) (text : List ℕ) (h : HasOneTime time text) → text ≡ h.before ++ (observed_opening ++ (decimal time ++ 34 ∷ h.after))
behind time text h =
    h.stands
    ∙ (append_assoc (h.before ++ observed_opening ++ decimal time) (codes "\"") h.after
    ∙ (append_assoc (h.before ++ observed_opening) (decimal time) (34 ∷ h.after) ∙ append_assoc h.before observed_opening (decimal time ++ 34 ∷ h.after)))

pub opening_found : (text : List ℕ) (time : ℕ) (found : Option ℕ) → FindsNeedle text observed_opening 0 found → (h : HasOneTime time text) → found ≡ Some (length h.before)
opening_found text time None none h =
    let e = behind time text h in
    let long = ap length e in
    let all = length-append h.before (observed_opening ++ (decimal time ++ 34 ∷ h.after)) in
    let rest = length-append observed_opening (decimal time ++ 34 ∷ h.after) in
    absurd (none (length h.before) (omega arith) (omega arith)
    (OccursAt-from_part text observed_opening (length h.before) (omega arith)
    (ap (λ (l : List ℕ). take (length observed_opening) (drop (length h.before) l)) e
    ∙ (ap (take (length observed_opening)) (drop_at h.before (observed_opening ++ (decimal time ++ 34 ∷ h.after)) (length h.before) refl)
    ∙ take_at observed_opening (decimal time ++ 34 ∷ h.after) (length observed_opening) refl))))
opening_found text time (Some k) there h =
    let split = OccursAt-split text observed_opening k there.1 in
    let fits = there.1.fits in
    let whole : text ≡ take k text ++ observed_opening ++ drop (k + length observed_opening) text =
    sym (take-append-drop k text) ∙ (ap (λ (l : List ℕ). take k text ++ l) split ∙ sym (append_assoc (take k text) observed_opening (drop (k + length observed_opening) text))) in
    let same = h.only (take k text) (drop (k + length observed_opening) text) whole in
    let n : length (take k text) ≡ k = length-take-le k text (omega arith) in
    ap Some (sym n ∙ ap length same)

-- past the opening stands the time, and then a quote
pub time_stands : (text : List ℕ) (time : ℕ) (h : HasOneTime time text) → drop (length h.before + 25) text ≡ decimal time ++ 34 ∷ h.after
time_stands text time h =
    ap (drop (length h.before + 25)) (behind time text h ∙ sym (append_assoc h.before observed_opening (decimal time ++ 34 ∷ h.after)))
    ∙ drop_at (h.before ++ observed_opening) (decimal time ++ 34 ∷ h.after) (length h.before + 25) (length-append h.before observed_opening)

-- so its digits stand between the opening and the next quote
pub time_digits : (text rest digits : List ℕ) (time at end : ℕ) → FindsNeedle text observed_opening 0 (Some at) → rest ≡ drop (at + 25) text
    → IsFirstByte (is_byte 34) rest (Some end) → digits ≡ take end rest → HasOneTime time text → digits ≡ decimal time
time_digits text rest digits time at end found r quote d h =
    let place = opening_found text time (Some at) found h in
    let same : at ≡ length h.before = cc in
    let stands : rest ≡ decimal time ++ 34 ∷ h.after = r ∙ (ap (λ (n : ℕ). drop (n + 25) text) same ∙ time_stands text time h) in
    let first = first_quote (decimal time) h.after (Some end) (digits_only time) (subst (λ (l : List ℕ). IsFirstByte (is_byte 34) l (Some end)) stands quote) in
    let ends : end ≡ length (decimal time) = cc in
    d ∙ (ap (take end) stands ∙ take_at (decimal time) (34 ∷ h.after) end (sym ends))

pub quote_follows : (text rest : List ℕ) (time at : ℕ) → FindsNeedle text observed_opening 0 (Some at) → rest ≡ drop (at + 25) text
    → IsFirstByte (is_byte 34) rest None → HasOneTime time text → ⊥
quote_follows text rest time at found r none h =
    let place = opening_found text time (Some at) found h in
    let same : at ≡ length h.before = cc in
    let stands : rest ≡ decimal time ++ 34 ∷ h.after = r ∙ (ap (λ (n : ℕ). drop (n + 25) text) same ∙ time_stands text time h) in
    nothing (length (decimal time)) (first_quote (decimal time) h.after None (digits_only time) (subst (λ (l : List ℕ). IsFirstByte (is_byte 34) l None) stands none))

pub opening_there : (text : List ℕ) (time : ℕ) → FindsNeedle text observed_opening 0 None → HasOneTime time text → ⊥
opening_there text time none h = nothing (length h.before) (opening_found text time None none h)

-- ---- the time of which a line may be

pub unstamped : (time : Option ℕ) → is_some time ≡ false → ◌≡◌ {A = Option (Option ℕ)} (Some None) (Some time)
unstamped None e = refl
unstamped (Some time) e = cc

pub stamped_time : (text : List ℕ) (told : Option ℕ) → ((time : ℕ) → time < 2 ^ 64 → HasOneTime time text → told ≡ Some time)
    → (time : Option ℕ) → is_some time ≡ true → IsTime time → HasObservedTime time text → ◌≡◌ {A = Option ℕ} told time
stamped_time text told tells None e small h = cc
stamped_time text told tells (Some time) e small h = tells time small h

pub none_stamped : (time : Option ℕ) → None ≡ time → is_some time ≡ true → ◌≡◌ {A = Option (Option ℕ)} None (Some time)
none_stamped None e f = cc
none_stamped (Some time) e f = cc

-- a line that isn't of the entry with the time that it may be of is of it with none
pub not_made : (id number : ℕ) (stamped : Bool) (entry : LogRecord) (line : List ℕ)
    → ((id number : ℕ) (observed : Option ℕ) (entry : LogRecord) → HasObservedTime observed (output_line id number observed entry))
    → (found : Option (Option ℕ)) → ((time : Option ℕ) → is_some time ≡ stamped → IsTime time → HasObservedTime time line → found ≡ Some time)
    → ((time : Option ℕ) → found ≡ Some time → line ≡ output_line id number time entry → ⊥) → IsNotMade id number stamped entry line
not_made id number stamped entry line tells found told other = λ (time : Option ℕ) (small : IsTime time) (made : IsMade id number stamped entry time line).
    let observed : HasObservedTime time line = subst (λ (l : List ℕ). HasObservedTime time l) (sym made.is) (tells id number time entry) in
    other time (told time made.has_time small observed) made.is

-- where no time is found no line agrees, and where one is only the line with that time
pub none_found : {line text : List ℕ} (time : Option ℕ) → ◌≡◌ {A = Option (Option ℕ)} None (Some time) → line ≡ text → ⊥
none_found time e f = cc
