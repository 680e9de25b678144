-- The lines of a text, one after another.
use Rattle.std.proofs.Common.{◌≡◌, ℕ, zero, suc, ◌+◌, ◌<◌, Bool, true, false, List, [], ◌∷◌, ◌++◌, refl, sym, subst, ap, ◌∙◌, arith, length, take, drop, get_or, append_assoc}
use Rattle.std.specs.Prelude.{Some, None, ◌==◌, MatchBool, if◌then◌else◌}
use Rattle.std.proofs.lemmas.Bool.{eq-eqb, ne_eqb, cond-true, cond-false, eqb-true}
use Rattle.std.proofs.lemmas.List.{append-nil}
use Rattle.memchr.specs.Find.{IsFirstByte, is_byte}
use Rattle.kept_lines.specs.Lines.{whole_lines, longer_first, IsFirstLength}
use Rattle.kept_lines.specs.OwnLines.{IsOf, AreOf, none, taken, passed}

-- up to the first LF a text is its first line, and its other lines are those of the rest
first_line : (text : List ℕ) (at : ℕ) → at < length text → ((k : ℕ) → k < at → get_or text k 0 ≡ 10 → ⊥) → get_or text at 0 ≡ 10
    → whole_lines text ≡ take (at + 1) text ∷ whole_lines (drop (at + 1) text)
first_line [] at l before here = absurd (omega arith)
first_line (byte ∷ text) zero l before here =
    cond-true (byte == 10) ((byte ∷ []) ∷ whole_lines text) (longer_first byte (whole_lines text)) (eq-eqb byte 10 here)
first_line (byte ∷ text) (suc at) l before here =
    cond-false (byte == 10) ((byte ∷ []) ∷ whole_lines text) (longer_first byte (whole_lines text)) (ne_eqb byte 10 (before 0 (omega arith)))
    ∙ (ap (longer_first byte) (first_line text at (omega arith) (λ k m. before (suc k) (omega arith)) here) ∙ counted)
  where
    counted : (byte ∷ take (at + 1) text) ∷ whole_lines (drop (at + 1) text) ≡ take (suc at + 1) (byte ∷ text) ∷ whole_lines (drop (suc at + 1) (byte ∷ text))
    counted =
        let e : suc (at + 1) ≡ suc at + 1 = omega arith in
        ap (λ (n : ℕ). take n (byte ∷ text) ∷ whole_lines (drop n (byte ∷ text))) e

no_line : (text : List ℕ) → ((k : ℕ) → k < length text → get_or text k 0 ≡ 10 → ⊥) → whole_lines text ≡ []
no_line [] free = refl
no_line (byte ∷ text) free =
    cond-false (byte == 10) ((byte ∷ []) ∷ whole_lines text) (longer_first byte (whole_lines text)) (ne_eqb byte 10 (free 0 (omega arith)))
    ∙ ap (longer_first byte) (no_line text (λ k l. free (suc k) (omega arith)))

-- the same by a search for an LF
pub line_found : (text : List ℕ) (at : ℕ) → IsFirstByte (is_byte 10) text (Some at) → whole_lines text ≡ take (at + 1) text ∷ whole_lines (drop (at + 1) text)
line_found text at found =
    first_line text at found.0.high
    (λ k l e. found.0.before k (omega arith) l (eq-eqb (get_or text k 0) 10 e))
    (eqb-true (get_or text at 0) 10 found.1)

pub none_found : (text : List ℕ) → IsFirstByte (is_byte 10) text None → whole_lines text ≡ []
none_found text free = no_line text (λ k l e. free k (omega arith) l (eq-eqb (get_or text k 0) 10 e))

pub first_found : (text : List ℕ) (at : ℕ) → IsFirstByte (is_byte 10) text (Some at) → IsFirstLength text (at + 1)
first_found text at found = let high = found.0.high in record { some = omega arith; within = omega arith; lines = line_found text at found }

-- a line more behind others
pub one_taken : (id : ℕ) (line : List ℕ) {lines own : List (List ℕ)} → AreOf id lines own → IsOf id line → AreOf id (lines ++ line ∷ []) (own ++ line ∷ [])
one_taken id line none is = taken is none
one_taken id line (taken first rest) is = taken first (one_taken id line rest is)
one_taken id line (passed first rest) is = passed first (one_taken id line rest is)

pub one_passed : (id : ℕ) (line : List ℕ) {lines own : List (List ℕ)} → AreOf id lines own → (IsOf id line → ⊥) → AreOf id (lines ++ line ∷ []) own
one_passed id line none other = passed other none
one_passed id line (taken first rest) other = taken first (one_passed id line rest other)
one_passed id line (passed first rest) other = passed first (one_passed id line rest other)

-- the lines of an output up to where the rest begins, and those of the file among them
pub record SoFar (id : ℕ) (output : List ℕ) (own : List (List ℕ)) (rest : List ℕ) : Type 0 where
  pub before : List (List ℕ)
  pub are : AreOf id before own
  pub whole : whole_lines output ≡ before ++ whole_lines rest

pub begun : (id : ℕ) (output : List ℕ) → SoFar id output [] output
begun id output = record { before = []; are = none; whole = refl }

one_further : (output rest line next : List ℕ) (before : List (List ℕ)) (at : ℕ) → whole_lines output ≡ before ++ whole_lines rest → IsFirstLength rest at
    → line ≡ take at rest → next ≡ drop at rest → whole_lines output ≡ (before ++ line ∷ []) ++ whole_lines next
one_further output rest line next before at e found l n =
    e ∙ (ap (λ (all : List (List ℕ)). before ++ all) (found.lines)
    ∙ (ap (λ (z : List ℕ). before ++ z ∷ whole_lines (drop at rest)) (sym l)
    ∙ (ap (λ (z : List ℕ). before ++ line ∷ whole_lines z) (sym n) ∙ sym (append_assoc before (line ∷ []) (whole_lines next)))))

pub taken_on : (id : ℕ) (output rest line next : List ℕ) (own : List (List ℕ)) (at : ℕ) → SoFar id output own rest → IsFirstLength rest at
    → line ≡ take at rest → next ≡ drop at rest → IsOf id line → SoFar id output (own ++ line ∷ []) next
taken_on id output rest line next own at far found l n is = record {
  before = far.before ++ line ∷ [];
  are = one_taken id line far.are is;
  whole = one_further output rest line next far.before at far.whole found l n;
}

pub passed_on : (id : ℕ) (output rest line next : List ℕ) (own : List (List ℕ)) (at : ℕ) → SoFar id output own rest → IsFirstLength rest at
    → line ≡ take at rest → next ≡ drop at rest → (IsOf id line → ⊥) → SoFar id output own next
passed_on id output rest line next own at far found l n other = record {
  before = far.before ++ line ∷ [];
  are = one_passed id line far.are other;
  whole = one_further output rest line next far.before at far.whole found l n;
}

pub one_on : (id : ℕ) (output rest line next : List ℕ) (own more : List (List ℕ)) (at : ℕ) → SoFar id output own rest → IsFirstLength rest at
    → line ≡ take at rest → next ≡ drop at rest → (is_own : Bool) → MatchBool is_own (IsOf id line) (IsOf id line → ⊥)
    → more ≡ own ++ (if is_own then line ∷ [] else []) → SoFar id output more next
one_on id output rest line next own more at far found l n true is e =
    subst (λ (z : List (List ℕ)). SoFar id output z next) (sym e) (taken_on id output rest line next own at far found l n is)
one_on id output rest line next own more at far found l n false is e =
    subst (λ (z : List (List ℕ)). SoFar id output z next) (sym (e ∙ append-nil own)) (passed_on id output rest line next own at far found l n is)

pub at_end : (id : ℕ) (output rest : List ℕ) (own : List (List ℕ)) → SoFar id output own rest → whole_lines rest ≡ [] → AreOf id (whole_lines output) own
at_end id output rest own far free =
    let all : whole_lines output ≡ far.before = far.whole ∙ (ap (λ (l : List (List ℕ)). far.before ++ l) free ∙ append-nil far.before) in
    subst (λ (l : List (List ℕ)). AreOf id l own) (sym all) far.are
