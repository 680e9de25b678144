-- The lines of several files in one walk.
use Rattle.std.proofs.Common.{◌≡◌, ◌≢◌, ◌⊎◌, ℕ, zero, suc, ◌+◌, ◌-◌, ◌<◌, ◌≤◌, ◌^◌, ◌==◌, Bool, true, false, List, [], ◌∷◌, ◌++◌, refl, sym, subst, ap, ◌∙◌, arith, length, take, drop, decimal, append_assoc, eqb-true, eq-eqb, length-append, set, Bor}
use Rattle.std.specs.Prelude.{Option, Some, None, MatchOption, slice_get, codes, flat_map, if◌then◌else◌}
use Rattle.std.proofs.lemmas.Bool.{cond-true, cond-false}
use Rattle.std.proofs.lemmas.Grind.{flat_map-append}
use Rattle.std.proofs.lemmas.List.{append-nil, append_cancel_right, drop_at, take_at, length_push, length-set}
use Rattle.std.proofs.lemmas.Option.{same_Some, none-some}
use Rattle.memchr.specs.Find.{IsLastByte, is_byte}
use Rattle.otlp_json.specs.OutputLine.{line_tail}
use Rattle.otlp_json.proofs.Splits.{digits_only}
use Rattle.kept_lines.specs.Lines.{whole_lines, IsFirstLength}
use Rattle.kept_lines.specs.OwnLines.{IsOf}
use Rattle.kept_lines.specs.Split.{AddsLine, AreEmpty, AreTexts, IsWhose, before_id, is_it}
use Rattle.kept_lines.proofs.Cutting.{SoFar, begun, passed_on, taken_on, at_end}
use Rattle.kept_lines.proofs.Quotes.{before_number, last_quote}

-- ---- the id that a line tells

-- how a line goes on between its two numbers
abbrev pub between : List ℕ
between = codes "\"}},{\"key\":\"agent.line\",\"value\":{\"intValue\":\""

abbrev before_quote : List ℕ
before_quote = codes "\"agent.file\",\"value\":{\"intValue\":"

parted : (front a q d b : List ℕ) → (front ++ ((a ++ q) ++ d ++ b)) ++ q ≡ ((front ++ (a ++ q)) ++ d) ++ (b ++ q)
parted front a q d b = simp append_assoc

-- up to the last quote a line is what stands before its number
pub up_to_quote : (rest front : List ℕ) (id number quote : ℕ) → rest ≡ ((front ++ before_number id) ++ 34 ∷ []) ++ decimal number → IsLastByte (is_byte 34) rest (Some quote)
    → take (quote + 1) rest ≡ ((front ++ before_id) ++ decimal id) ++ between
up_to_quote rest front id number quote e found =
    let x = front ++ before_number id in
    let at = last_quote x (decimal number) (Some quote) (digits_only number) (subst (λ (l : List ℕ). IsLastByte (is_byte 34) l (Some quote)) e found) in
    let same : quote ≡ length x = cc in
    ap (λ (l : List ℕ). take (quote + 1) l) e
    ∙ take_at (x ++ 34 ∷ []) (decimal number) (quote + 1) (length_push x 34 ∙ ap (λ (n : ℕ). n + 1) (sym same))
    ∙ parted front before_quote (34 ∷ []) (decimal id) (codes "\"}},{\"key\":\"agent.line\",\"value\":{\"intValue\":")

quoted : (front a q d : List ℕ) → (front ++ (a ++ q)) ++ d ≡ ((front ++ a) ++ q) ++ d
quoted front a q d = simp append_assoc

pub id_behind : (text front : List ℕ) (number quote : ℕ) → text ≡ (front ++ before_id) ++ decimal number → IsLastByte (is_byte 34) text (Some quote) → drop (quote + 1) text ≡ decimal number
id_behind text front number quote e found =
    let x = front ++ before_quote in
    let parts : text ≡ (x ++ 34 ∷ []) ++ decimal number = e ∙ quoted front before_quote (34 ∷ []) (decimal number) in
    let at = last_quote x (decimal number) (Some quote) (digits_only number) (subst (λ (l : List ℕ). IsLastByte (is_byte 34) l (Some quote)) parts found) in
    let same : quote ≡ length x = cc in
    ap (λ (l : List ℕ). drop (quote + 1) l) parts ∙ drop_at (x ++ 34 ∷ []) (decimal number) (quote + 1) (length_push x 34 ∙ ap (λ (n : ℕ). n + 1) (sym same))

pub id_quoted : (text front : List ℕ) (number : ℕ) → text ≡ (front ++ before_id) ++ decimal number → IsLastByte (is_byte 34) text None → ⊥
id_quoted text front number e none =
    let x = front ++ before_quote in
    let at = last_quote x (decimal number) None (digits_only number) (subst (λ (l : List ℕ). IsLastByte (is_byte 34) l None) (e ∙ quoted front before_quote (34 ∷ []) (decimal number)) none) in
    absurd (nothing (length x) at)
  where
    nothing : (n : ℕ) → None ≡ Some n → ⊥
    nothing n at = cc

-- ---- whose a line is

pub whose_none : (line : List ℕ) → ((front : List ℕ) (id number : ℕ) → id < 2 ^ 32 → line ≡ front ++ line_tail id number → None ≡ Some id) → IsWhose line None
whose_none line told = λ id small is. let never : None ≡ Some id = told is.front id is.number small is.ends in cc

-- ---- all lines in turn

-- the texts have the lines so far
abbrev pub TextsSoFar : List ℕ → ℕ → List (List ℕ) → List ℕ → Type 0
TextsSoFar output count texts rest = (◌≡◌ {A = ℕ} (length texts) count) × ((place : ℕ) (text : List ℕ) → place < 2 ^ 32 - 1 → slice_get texts place ≡ Some text
    → (own : List (List ℕ)) × SoFar (place + 1) output own rest × (text ≡ flat_map (λ (line : List ℕ). line) own))

pub none_yet : (output : List ℕ) (count : ℕ) (texts : List (List ℕ)) → AreEmpty count texts → TextsSoFar output count texts output
none_yet output count texts empty = (empty.many, λ place text small at. ([], begun (place + 1) output, empty.each place text at))

some_before : (before after : List (List ℕ)) (place : ℕ) (text : List ℕ) → length after ≡ length before → slice_get after place ≡ Some text → (old : List ℕ) × (slice_get before place ≡ Some old)
some_before [] [] place text many at = absurd (none-some text at)
some_before [] (one ∷ after) place text many at = absurd (omega (arith, many))
some_before (old ∷ before) [] place text many at = absurd (none-some text at)
some_before (old ∷ before) (one ∷ after) zero text many at = (old, refl)
some_before (old ∷ before) (one ∷ after) (suc place) text many at = some_before before after place text (omega (arith, many)) at

one_more : (line : List ℕ) (own : List (List ℕ)) → flat_map (λ (l : List ℕ). l) (own ++ line ∷ []) ≡ flat_map (λ (l : List ℕ). l) own ++ line
one_more line own = flat_map-append (λ (l : List ℕ). l) own (line ∷ []) ∙ ap (λ (l : List ℕ). flat_map (λ (x : List ℕ). x) own ++ l) (append-nil line)

pub one_line_on : (output rest line next : List ℕ) (count at : ℕ) (before after : List (List ℕ)) (whose : Option ℕ) → TextsSoFar output count before rest → IsFirstLength rest at → line ≡ take at rest → next ≡ drop at rest
    → IsWhose line whose → AddsLine whose line before after → TextsSoFar output count after next
one_line_on output rest line next count at before after whose so_far first is_line is_next is adds = (
  adds.many ∙ so_far.0,
  λ place text small there.
      let old = some_before before after place text adds.many there in
      let its = so_far.1 place old.0 small old.1 in
      let now : text ≡ (if is_it (place + 1) whose then old.0 ++ line else old.0) = same_Some text _ (sym there ∙ adds.each place old.0 old.1) in
      by place text small old.0 its whose is now,
)
  where
    Goal : ℕ → List ℕ → Type 0
    Goal place text = (own : List (List ℕ)) × SoFar (place + 1) output own next × (text ≡ flat_map (λ (l : List ℕ). l) own)

    same : (place : ℕ) (text old : List ℕ) → (its : (own : List (List ℕ)) × SoFar (place + 1) output own rest × (old ≡ flat_map (λ (l : List ℕ). l) own)) → (IsOf (place + 1) line → ⊥) → text ≡ old → Goal place text
    same place text old its other now = (its.0, passed_on (place + 1) output rest line next its.0 at its.1 first is_line is_next other, now ∙ its.2)

    by : (place : ℕ) (text : List ℕ) → place < 2 ^ 32 - 1 → (old : List ℕ) → (its : (own : List (List ℕ)) × SoFar (place + 1) output own rest × (old ≡ flat_map (λ (l : List ℕ). l) own))
        → (whose : Option ℕ) → IsWhose line whose → text ≡ (if is_it (place + 1) whose then old ++ line else old) → Goal place text
    by place text small old its None is now = same place text old its (λ own. is (place + 1) (omega (arith, small)) own) now
    by place text small old its (Some id) is now = on (place + 1 == id) refl
      where
        on : (test : Bool) → (place + 1 == id) ≡ test → Goal place text
        on true e = (
          its.0 ++ line ∷ [],
          taken_on (place + 1) output rest line next its.0 at its.1 first is_line is_next (subst (λ (n : ℕ). IsOf n line) (sym (eqb-true (place + 1) id e)) is.0),
          now ∙ cond-true (place + 1 == id) (old ++ line) old e ∙ ap (λ (l : List ℕ). l ++ line) its.2 ∙ sym (one_more line its.0),
        )
        on false e = same place text old its (λ own. let same_id : place + 1 ≡ id = is.1 (place + 1) (omega (arith, small)) own in let t : true ≡ false = sym (eq-eqb (place + 1) id same_id) ∙ e in cc)
            (now ∙ cond-false (place + 1 == id) (old ++ line) old e)

pub all_texts : (output rest : List ℕ) (count : ℕ) (texts : List (List ℕ)) → TextsSoFar output count texts rest → whole_lines rest ≡ [] → AreTexts output count texts
all_texts output rest count texts so_far free = record {
  many = so_far.0;
  each = λ place text small at. let its = so_far.1 place text small at in record { own = its.0; are = at_end (place + 1) output rest its.0 its.1 free; is = its.2 };
}

-- ---- texts in a vector

pub adds_none : (line : List ℕ) (texts : List (List ℕ)) → AddsLine None line texts texts
adds_none line texts = record { many = refl; each = λ place text at. at }

text_at : (texts : List (List ℕ)) (place : ℕ) (text new : List ℕ) (other : ℕ) → slice_get texts place ≡ Some text → (place ≡ other → ⊥) → slice_get (set texts other new) place ≡ Some text
text_at [] place text new other at apart = absurd (none-some text at)
text_at (first ∷ texts) zero text new zero at apart = absurd (apart refl)
text_at (first ∷ texts) zero text new (suc other) at apart = at
text_at (first ∷ texts) (suc place) text new zero at apart = at
text_at (first ∷ texts) (suc place) text new (suc other) at apart = text_at texts place text new other at (λ e. apart (ap suc e))

text_put : (texts : List (List ℕ)) (place : ℕ) (text new : List ℕ) → slice_get texts place ≡ Some text → slice_get (set texts place new) place ≡ Some new
text_put [] place text new at = absurd (none-some text at)
text_put (first ∷ texts) zero text new at = refl
text_put (first ∷ texts) (suc place) text new at = text_put texts place text new at

pub adds_at : (id : ℕ) (line : List ℕ) (texts : List (List ℕ)) (old new : List ℕ) → 1 ≤ id → slice_get texts (id - 1) ≡ Some old → new ≡ old ++ line → AddsLine (Some id) line texts (set texts (id - 1) new)
adds_at id line texts old new first there is = record {
  many = length-set texts (id - 1) new;
  each = λ place text at. by place text at (place + 1 == id) refl;
} where
  by : (place : ℕ) (text : List ℕ) → slice_get texts place ≡ Some text → (test : Bool) → (place + 1 == id) ≡ test → slice_get (set texts (id - 1) new) place ≡ Some (if is_it (place + 1) (Some id) then text ++ line else text)
  by place text at true e =
      let here : place ≡ id - 1 = omega (arith, eqb-true (place + 1) id e) in
      let same : old ≡ text = same_Some old text (sym there ∙ subst (λ (k : ℕ). slice_get texts k ≡ Some text) here at) in
      ap (λ (k : ℕ). slice_get (set texts (id - 1) new) k) here ∙ text_put texts (id - 1) old new there ∙ ap Some (is ∙ ap (λ (t : List ℕ). t ++ line) same ∙ sym (cond-true (place + 1 == id) (text ++ line) text e))
  by place text at false e =
      text_at texts place text new (id - 1) at (λ here. let one : place + 1 ≡ id = omega (arith, here, first) in let t : true ≡ false = sym (eq-eqb (place + 1) id one) ∙ e in cc)
      ∙ ap Some (sym (cond-false (place + 1 == id) (text ++ line) text e))

pub empty_more : (n : ℕ) (texts : List (List ℕ)) (text : List ℕ) → text ≡ [] → AreEmpty n texts → AreEmpty (n + 1) (texts ++ text ∷ [])
empty_more n texts text is empty = record {
  many = omega (arith, length-append texts (text ∷ []), empty.many);
  each = λ place other at. by texts place other at empty.each;
} where
  by : (xs : List (List ℕ)) (place : ℕ) (other : List ℕ) → slice_get (xs ++ text ∷ []) place ≡ Some other → ((k : ℕ) (one : List ℕ) → slice_get xs k ≡ Some one → one ≡ []) → other ≡ []
  by [] zero other at each = sym (same_Some text other at) ∙ is
  by [] (suc place) other at each = absurd (none-some other at)
  by (x ∷ xs) zero other at each = each 0 other at
  by (x ∷ xs) (suc place) other at each = by xs place other at (λ k. each (suc k))

-- what stands before a line's last number
pub front_told : (text whole : List ℕ) (found : Option (Bor (List ℕ))) → text ≡ whole ++ between → MatchOption found ((front : List ℕ) → text ≢ front ++ between) (λ x. text ≡ x.now ++ between) → MatchOption found ⊥ (λ x. x.now ≡ whole)
front_told text whole None is none = none whole is
front_told text whole (Some x) is some = append_cancel_right x.now whole between (sym some ∙ is)
