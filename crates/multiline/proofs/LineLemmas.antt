-- What searches for an LF say of lines.
use Rattle.std.proofs.Common.{◌≡◌, ℕ, ◌+◌, ◌-◌, ◌<◌, ◌≤◌, Bool, true, false, not, List, length, take, drop, get_or, Option, None, Some, option_map, sym, ap, ◌∙◌, arith, length-take, length-drop, eq-eqb, eqb-true, ne_eqb}
use Rattle.std.proofs.lemmas.List.{get_or-take, get_or-drop, drop-take, take_rest}
use Rattle.std.proofs.lemmas.List.Sums.{suffix_len_is}
use Rattle.memchr.specs.Find.{is_byte, IsFirstByte, IsLastByte}
use Rattle.std.specs.Str.Lines.{strip_carriage_return}
use Rattle.line_splitter.specs.Cuts.{Cut}
use Rattle.line_splitter.specs.LineTokens as lines
use Rattle.line_splitter.specs.LineTokens.{is_line_feed}
use Rattle.multiline.specs.Cutting.{cutting_at, is_marked}
use Rattle.multiline.specs.MultilineTokens.{line_behind, line_start, line_before, judged}
use Rattle.multiline.specs.declared.cutter.Boundary.{Boundary}
use Rattle.multiline.specs.declared.cutter.Boundary.TheVariants.{Start, End}

-- a byte of a part of the bytes
part_at : (b : List ℕ) (from to k : ℕ) → from ≤ k → k < to → get_or (take (to - from) (drop from b)) (k - from) 0 ≡ get_or b k 0
part_at b from to k low high =
    let early : k - from < to - from = omega arith in
    let same : from + (k - from) ≡ k = omega arith in
    get_or-take (to - from) (drop from b) (k - from) 0 early ∙ get_or-drop from b (k - from) 0 ∙ ap (λ n. get_or b n 0) same

pub none_in_part : (b : List ℕ) (from to : ℕ) → to ≤ length b → IsFirstByte (is_byte 10) (take (to - from) (drop from b)) None → (k : ℕ) → from ≤ k → k < to → get_or b k 0 ≡ 10 → ⊥
none_in_part b from to within none k low high is =
    none (k - from) (omega arith) (omega (arith, length-take (to - from) (drop from b), length-drop from b)) (eq-eqb _ 10 (part_at b from to k low high ∙ is))

pub none_before_in_part : (b : List ℕ) (from to place : ℕ) → IsFirstByte (is_byte 10) (take (to - from) (drop from b)) (Some place) → (k : ℕ) → from ≤ k → k < from + place → get_or b k 0 ≡ 10 → ⊥
none_before_in_part b from to place found k low high is =
    let inside : k < to = omega (arith, found.0.high, length-take (to - from) (drop from b)) in
    found.0.before (k - from) (omega arith) (omega arith) (eq-eqb _ 10 (part_at b from to k low inside ∙ is))

other : (x : ℕ) → (is_byte 10 x ≡ true → ⊥) → not (is_line_feed x) ≡ true
other x e = ap not (ne_eqb x 10 (λ is. e (eq-eqb x 10 is)))

line_feed : (x : ℕ) → is_byte 10 x ≡ true → not (is_line_feed x) ≡ false
line_feed x e = ap not (eq-eqb x 10 (eqb-true x 10 e))

-- where the line begins whose bytes stand before the last LF in front
pub line_start-behind : (b : List ℕ) (place before : ℕ) → place ≤ length b → IsLastByte (is_byte 10) (take place b) (Some before) → before + 1 ≡ line_start b place
unfolding line_start
line_start-behind b place before within found =
    let front : List ℕ = take place b in
    let size : length front ≡ place = omega (arith, length-take place b) in
    let inside : before < length front = found.0.high in
    let last = suffix_len_is (λ byte. not (is_line_feed byte)) front (before + 1) 0 (omega arith)
    (λ k low high. other (get_or front k 0) (found.0.after k low high))
    (λ some. let same : before + 1 - 1 ≡ before = omega arith in rw same (line_feed (get_or front before 0) found.1)) in
    omega (arith, last)

pub line_start-front : (b : List ℕ) (place : ℕ) → place ≤ length b → IsLastByte (is_byte 10) (take place b) None → 0 ≡ line_start b place
unfolding line_start
line_start-front b place within none =
    let front : List ℕ = take place b in
    let size : length front ≡ place = omega (arith, length-take place b) in
    let last = suffix_len_is (λ byte. not (is_line_feed byte)) front 0 0 (omega arith)
    (λ k low high. other (get_or front k 0) (none k low high))
    (λ some. absurd (omega arith)) in
    omega (arith, last)

-- what the line behind an LF is judged by, and the line before it
pub judged_marked : (boundary : Boundary) (pattern : List ℕ) (max : ℕ) (b : List ℕ) (place : ℕ) (c : Cut) (marked : Bool)
    → boundary ≡ Start → lines.first_cut max (take (length b - (place + 1)) (drop (place + 1) b)) ≡ Some c → marked ≡ is_marked pattern c.text
    → Some marked ≡ judged (cutting_at boundary pattern) max b place
unfolding judged line_behind
judged_marked boundary pattern max b place c marked is found as_told =
    rw is
    (ap Some as_told ∙ sym (ap (λ (o : Option Cut). option_map (is_marked pattern) (option_map (λ (d : Cut). d.text) o)) (ap (lines.first_cut max) (sym (take_rest b (place + 1))) ∙ found)))

pub judged_none : (boundary : Boundary) (pattern : List ℕ) (max : ℕ) (b : List ℕ) (place : ℕ)
    → boundary ≡ Start → lines.first_cut max (take (length b - (place + 1)) (drop (place + 1) b)) ≡ None
    → ◌≡◌ {A = Option Bool} None (judged (cutting_at boundary pattern) max b place)
unfolding judged line_behind
judged_none boundary pattern max b place is none =
    rw is
    (sym (ap (λ (o : Option Cut). option_map (is_marked pattern) (option_map (λ (d : Cut). d.text) o)) (ap (lines.first_cut max) (sym (take_rest b (place + 1))) ∙ none)))

pub judged_before : (boundary : Boundary) (pattern : List ℕ) (max : ℕ) (b : List ℕ) (place start : ℕ) (text : List ℕ) (marked : Bool)
    → boundary ≡ End → start ≡ line_start b place → start ≤ place → text ≡ strip_carriage_return (take (place - start) (drop start b)) → marked ≡ is_marked pattern text
    → Some marked ≡ judged (cutting_at boundary pattern) max b place
unfolding judged line_before
judged_before boundary pattern max b place start text marked is begins within is_text as_told =
    let whole : start + (place - start) ≡ place = omega arith in
    let line : take (place - start) (drop start b) ≡ drop start (take place b) = sym (drop-take start (place - start) b) ∙ ap (λ n. drop start (take n b)) whole in
    rw is
    (ap Some (as_told ∙ ap (is_marked pattern) (is_text ∙ ap strip_carriage_return (line ∙ ap (λ n. drop n (take place b)) begins))))
