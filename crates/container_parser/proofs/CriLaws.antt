-- A line of the Container Runtime Interface says one thing, or has one fault.
use Rattle.std.proofs.Common.{◌≡◌, ◌≢◌, ℕ, ◌+◌, ◌<◌, ◌≤◌, not, List, length, ap, sym, refl, subst, ◌∙◌, Ok, Err, arith}
use Rattle.std.proofs.lemmas.List.{length-take-le}
use Rattle.std.proofs.lemmas.List.Sums.{prefix_len-le-length}
use Rattle.std.specs.List.{position_or_len, before_first, after_first}
use Rattle.json_text.specs.Leftmost.{IsLeftmostFault}
use Rattle.json_text.proofs.Faults.{one_leftmost}
use Rattle.time_layout.specs.Iso.{rfc3339_parts}
use Rattle.time_layout.specs.Parts.{layout_read}
use Rattle.time_layout.specs.declared.fault.TimeFault.{TimeFault}
use Rattle.time_layout.proofs.Instants.{one_time}
use Rattle.std.specs.Prelude.{pos}
use Rattle.container_parser.specs.CriLines.{Said, IsSaid, IsCriLine, IsCriFault, no_time, time_alone, nothing_said}
use Rattle.container_parser.specs.Times.{IsTime, IsNoTime, place_of}
use Rattle.container_parser.specs.Words.{is_space}
use Rattle.container_parser.proofs.Streams.{one_said}

pub one_instant : (text : List ℕ) (a b : ℕ) → IsTime text a → IsTime text b → a ≡ b
one_instant text a b one two = let e = one_time (layout_read (rfc3339_parts 9) (pos 0) text) (Ok a) (Ok b) one two in cc e

one_time_fault : (text : List ℕ) (f g : TimeFault) → IsNoTime text f → IsNoTime text g → f ≡ g
one_time_fault text f g one two = let e = one_time (layout_read (rfc3339_parts 9) (pos 0) text) (Err f) (Err g) one two in cc e

pub time_or_none : (text : List ℕ) (a : ℕ) (f : TimeFault) → IsTime text a → IsNoTime text f → ⊥
time_or_none text a f one two = let e = one_time (layout_read (rfc3339_parts 9) (pos 0) text) (Ok a) (Err f) one two in cc e

pub one_cri_line : (line : List ℕ) (a b : ℕ) (s t : Said) → IsCriLine line a s → IsCriLine line b t → (a ≡ b) × (s ≡ t)
one_cri_line line a b s t one two =
    (one_instant (before_first is_space line) a b one.time two.time, one_said (after_first is_space line) s t one.behind two.behind)

pub line_or_fault : (line : List ℕ) (a : ℕ) (s : Said) (at : ℕ) → IsCriLine line a s → IsCriFault line at → ⊥
line_or_fault line a s at is (no_time fault none) = time_or_none (before_first is_space line) a fault is.time none
line_or_fault line a s at is (time_alone instant time alone) = let on = is.goes_on in omega arith
line_or_fault line a s at is (nothing_said instant k time on f) = f.none s is.behind

pub one_cri_fault : (line : List ℕ) (m n : ℕ) → IsCriFault line m → IsCriFault line n → m ≡ n
one_cri_fault line m n (no_time f none) (no_time g other) = ap place_of (one_time_fault (before_first is_space line) f g none other)
one_cri_fault line m n (no_time f none) (time_alone b time alone) = absurd (time_or_none (before_first is_space line) b f time none)
one_cri_fault line m n (no_time f none) (nothing_said b k time on g) = absurd (time_or_none (before_first is_space line) b f time none)
one_cri_fault line m n (time_alone a time alone) (no_time g other) = absurd (time_or_none (before_first is_space line) a g time other)
one_cri_fault line m n (time_alone a time alone) (time_alone b also whole) = refl
one_cri_fault line m n (time_alone a time alone) (nothing_said b k also on g) = absurd (omega arith)
one_cri_fault line m n (nothing_said a k time on f) (no_time g other) = absurd (time_or_none (before_first is_space line) a g time other)
one_cri_fault line m n (nothing_said a k time on f) (time_alone b also whole) = absurd (omega arith)
one_cri_fault line m n (nothing_said a k time on f) (nothing_said b l also more g) =
    ap (λ (i : ℕ). position_or_len is_space line + 1 + i) (one_leftmost IsSaid (after_first is_space line) k l f g)

-- ---- the faults of a line, by its words

word_size : (line word : List ℕ) → word ≡ before_first is_space line → length word ≡ position_or_len is_space line
word_size line word e =
    let most = prefix_len-le-length (λ (b : ℕ). not (is_space b)) line in
    ap length e ∙ length-take-le (position_or_len is_space line) line most

pub time_missing : (line word : List ℕ) (fault : TimeFault) (at : ℕ) → word ≡ before_first is_space line → IsNoTime word fault → at ≡ place_of fault → IsCriFault line at
time_missing line word fault at e none is =
    subst (λ (n : ℕ). IsCriFault line n) (sym is) (no_time fault (subst (λ (t : List ℕ). IsNoTime t fault) e none))

pub line_ends : (line word : List ℕ) (instant : ℕ) → word ≡ before_first is_space line → IsTime word instant → length word ≡ length line → IsCriFault line (length line)
line_ends line word instant e time whole =
    time_alone instant (subst (λ (t : List ℕ). IsTime t instant) e time) (sym (word_size line word e) ∙ whole)

goes_on : (line word : List ℕ) → word ≡ before_first is_space line → length word ≢ length line → position_or_len is_space line < length line
goes_on line word e part =
    let most : position_or_len is_space line ≤ length line = prefix_len-le-length (λ (b : ℕ). not (is_space b)) line in
    let size = word_size line word e in
    omega arith

pub said_wrong : (line word rest : List ℕ) (instant at : ℕ) → word ≡ before_first is_space line → rest ≡ after_first is_space line → IsTime word instant
    → length word ≢ length line → IsLeftmostFault IsSaid rest at → IsCriFault line (length word + 1 + at)
said_wrong line word rest instant at e f time part fault =
    subst (λ (n : ℕ). IsCriFault line (n + 1 + at)) (sym (word_size line word e))
    (nothing_said instant at (subst (λ (t : List ℕ). IsTime t instant) e time) (goes_on line word e part) (subst (λ (t : List ℕ). IsLeftmostFault IsSaid t at) f fault))

pub line_is : (line word rest : List ℕ) (instant : ℕ) (said : Said) → word ≡ before_first is_space line → rest ≡ after_first is_space line → IsTime word instant
    → length word ≢ length line → IsSaid rest said → IsCriLine line instant said
line_is line word rest instant said e f time part is = record {
  goes_on = goes_on line word e part;
  time = subst (λ (t : List ℕ). IsTime t instant) e time;
  behind = subst (λ (t : List ℕ). IsSaid t said) f is;
}
