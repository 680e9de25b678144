-- What `read` answers, from what its loop found.
use Rattle.std.proofs.Common.{append_assoc, ◌∙◌, ap, length-drop, ◌≡◌, ℕ, ◌+◌, ◌<◌, ◌≤◌, List, [], ◌∷◌, ◌++◌, sym, refl, subst, length, drop, arith, inl, inr, Bool, true, false, cond, nat_le, nat_lt, ◌&&◌, None}
use Rattle.std.proofs.lemmas.Bool.Decides.{nat_tests}
use Rattle.std.proofs.lemmas.List.{drop_all}
use Rattle.expr_lang.specs.Begun.{wanted_by, wanted_from, takes, takes_operand, negates}
use Rattle.expr_lang.specs.declared.read.ExprReadFault.{ExprReadFault}
use Rattle.expr_lang.specs.declared.read.ExprReadFault.TheVariants.{Syntax, Pattern, Memory}
use Rattle.expr_lang.specs.declared.token.Token.{Token}
use Rattle.expr_lang.specs.declared.token.Token.TheVariants as token
use Rattle.expr_lang.specs.declared.tree.Node.{Node}
use Rattle.expr_lang.specs.Fault.{IsFaultAt, IsPatternFaultAt, IsFront, Opens, ArePatterns, CanStand}
use Rattle.expr_lang.specs.Grammar.{IsExpression, HavePatterns}
use Rattle.expr_lang.specs.Longest.{common, IsLongest}
use Rattle.expr_lang.specs.Machine as m
use Rattle.expr_lang.specs.Outcome.{IsReadFault, IsNoExpression}
use Rattle.expr_lang.specs.Inner.Reads.{Reads, IsParseFault, cut}
use Rattle.expr_lang.specs.Row.{Placed, IsToken}
use Rattle.expr_lang.specs.StepFault.{IsStepFault}
use Rattle.expr_lang.specs.Tree.{Tree}
use Rattle.expr_lang.specs.TreeOf.{tree}
use Rattle.expr_lang.proofs.BegunWords.{Wants}
use Rattle.expr_lang.proofs.Complete.{finishes}
use Rattle.expr_lang.proofs.Kept.{Has, no_tree_with}
use Rattle.expr_lang.proofs.Longest.{common_none, longest_none, longest_within}
use Rattle.expr_lang.proofs.Openings.{Reached, reached_opens, reached_refused, reached_partial}
use Rattle.expr_lang.proofs.PatternWords.{are_patterns}
use Rattle.expr_lang.proofs.Patterns.{patterns_of}
use Rattle.expr_lang.proofs.Reading.{Follows, no_expression, one_word, no_word}
use Rattle.expr_lang.proofs.Standing.{can_stand, longest_stands, deep_known, deep_found}
use Rattle.expr_lang.proofs.Sound.{spelled, BehindPhase}

pub expression_is : (text : List ℕ) (root : Node) → Reads text 0 m.start (tree root) → length text ≤ 4096 → IsExpression text (tree root)
expression_is text root (row, is, e) short = record { words = row; row = is; spells = spelled row (tree root) e; patterns = patterns_of root; short = short }

too_long : (text : List ℕ) → 4096 < length text → IsNoExpression text
too_long text long = λ tree e. (let s = e.short in absurd (omega (arith, s, long)))

pub too_long_tree : (text : List ℕ) (root : Node) → 4096 < length text → Reads text 0 m.start (tree root) → IsReadFault text (Syntax 4096)
too_long_tree text root long (row, is, e) = (too_long text long, omega arith, inr (refl, (long, inr (row, tree root, is, spelled row (tree root) e, patterns_of root))))

no_pattern_tree : (text : List ℕ) → ((tree : Tree) → Reads text 0 m.start tree → HavePatterns tree → ⊥) → IsNoExpression text
no_pattern_tree text none tree e = none tree (e.words, e.row, finishes e.words tree e.spells) e.patterns

pub fault_is : (text : List ℕ) (fault : ExprReadFault) → IsParseFault text fault → IsReadFault text (cut fault (length text))
fault_is text (Syntax at) f = by (nat_le 4096 at) (nat_lt 4096 (length text)) refl refl
  where
    short : at ≤ 4096 → IsReadFault text (Syntax at)
    short l = (no_expression text f.0, l, inl f.1)

    by : (a b : Bool) → nat_le 4096 at ≡ a → nat_lt 4096 (length text) ≡ b → IsReadFault text (cond (a && b) (Syntax 4096) (Syntax at))
    by true true p q =
        let far : 4096 ≤ at = grind (arith, nat_tests) in
        let long : 4096 < length text = grind (arith, nat_tests) in
        (too_long text long, omega arith, inr (refl, (long, inl (at, far, inl f.1))))
    by true false p q = short (let few : length text ≤ 4096 = grind (arith, nat_tests) in let to = f.1.to in omega (arith, few, to))
    by false b p q = short (let near : at < 4096 = grind (arith, nat_tests) in omega (arith, near))
fault_is text (Pattern at) f = by (nat_le 4096 at) (nat_lt 4096 (length text)) refl refl
  where
    inside : (b : Bool) → nat_lt at (length text) ≡ b → length text ≤ 4096 → at < 4096
    inside true e few = let l : at < length text = grind (arith, nat_tests) in omega (arith, l, few)
    inside false e few =
        let l : length text ≤ at = grind (arith, nat_tests) in
        absurd (no_word (token.Text f.1.source) f.1.n (subst (λ (t : List ℕ). IsToken t (token.Text f.1.source) f.1.n) (drop_all at text l) f.1.literal))

    by : (a b : Bool) → nat_le 4096 at ≡ a → nat_lt 4096 (length text) ≡ b → IsReadFault text (cond (a && b) (Syntax 4096) (Pattern at))
    by true true p q =
        let far : 4096 ≤ at = grind (arith, nat_tests) in
        let long : 4096 < length text = grind (arith, nat_tests) in
        (too_long text long, omega arith, inr (refl, (long, inl (at, far, inr f.1))))
    by true false p q =
        let few : length text ≤ 4096 = grind (arith, nat_tests) in
        (no_pattern_tree text f.0, inside (nat_lt at (length text)) refl few, f.1)
    by false b p q = (no_pattern_tree text f.0, (let near : at < 4096 = grind (arith, nat_tests) in near), f.1)
fault_is text Memory f = tt

-- ---- the faults of the loop

pub longest_fits : {P : List ℕ → Type 0} (text : List ℕ) (at most : ℕ) → at < length text → IsLongest P (drop at text) most → at + most ≤ length text
longest_fits text at most inside l = let w = longest_within l in let d = length-drop at text in omega (arith, w, d, inside)

pub word_fits : {P : List ℕ → Type 0} (text : List ℕ) (at most : ℕ) → at < length text → (deep : Bool) → (deep ≡ true → most ≡ 0) → (deep ≡ false → IsLongest P (drop at text) most) → at + most ≤ length text
word_fits text at most inside true none l = let z = none refl in omega (arith, z, inside)
word_fits text at most inside false none l = longest_fits text at most inside (l refl)

-- no word stands there
pub fault_at_none : (text : List ℕ) (at most : ℕ) (s : m.State) → at < length text → (r : Reached text at s) → Has s → ((w : Token) (n : ℕ) → IsToken (drop at text) w n → ⊥)
    → IsLongest (Wants (wanted_by s)) (drop at text) most → IsFaultAt text (at + most)
fault_at_none text at most s inside r has none longest = record {
  words = r.words;
  at = at;
  front = r.front;
  opens = reached_opens text at s r;
  patterns = are_patterns r.words s r.ran has;
  refused = λ w n t o. none w n t;
  partial = λ tree h spells. absurd (omega (arith, h, inside));
  most = most;
  is = refl;
  to = longest_fits text at most inside longest;
  too_deep = λ d. absurd (none token.Not d.0.0 d.0.1);
  longest = λ deep. longest_stands text at s r most longest;
}

-- the word there can't be taken
pub fault_at_word : (text : List ℕ) (at most : ℕ) (s : m.State) → at < length text → Reached text at s → Has s → (w : Token) (n : ℕ) → IsToken (drop at text) w n → m.step s w at ≡ None
    → ((negates w && takes_operand (wanted_by s)) ≡ true → most ≡ 0) → ((negates w && takes_operand (wanted_by s)) ≡ false → IsLongest (Wants (wanted_by s)) (drop at text) most)
    → IsFaultAt text (at + most)
fault_at_word text at most s inside r has w n is e deep longest = record {
  words = r.words;
  at = at;
  front = r.front;
  opens = reached_opens text at s r;
  patterns = are_patterns r.words s r.ran has;
  refused = λ v k t o. (let same = (one_word (drop at text) v w k n t is).0 in
      reached_refused text at s r w e (subst (λ (u : Token). Opens (r.words ++ (u, at) ∷ [])) same o));
  partial = λ tree h spells. absurd (omega (arith, h, inside));
  most = most;
  is = refl;
  to = word_fits text at most inside (negates w && takes_operand (wanted_by s)) deep longest;
  too_deep = λ d. deep (deep_known text at s r w n is d);
  longest = λ d. longest_stands text at s r most (longest (not_true (negates w && takes_operand (wanted_by s)) (λ t. d (deep_found text at s r w n is t))));
}
  where
    not_true : (b : Bool) → (b ≡ true → ⊥) → b ≡ false
    not_true true h = absurd (h refl)
    not_true false h = refl

-- the text is over too early
pub fault_at_end : (text : List ℕ) (at place : ℕ) (s : m.State) → Reached text at s → Has s → at ≤ length text → length text ≤ at → m.tree_at s ≡ None → place ≡ length text → IsFaultAt text place
fault_at_end text at place s r has l g e is = record {
  words = r.words;
  at = at;
  front = r.front;
  opens = reached_opens text at s r;
  patterns = are_patterns r.words s r.ran has;
  refused = λ w n t o. over w n t;
  partial = λ tree h spells. reached_partial text at s r e tree spells;
  most = 0;
  is = omega (arith, is, l, g);
  to = omega (arith, is);
  too_deep = λ d. refl;
  longest = λ d. longest_none (drop at text) (λ (s : List ℕ) (c : CanStand r.words at s). ap (common s) (drop_all at text g) ∙ common_none s);
}
  where
    over : (w : Token) (n : ℕ) → IsToken (drop at text) w n → ⊥
    over w n t = no_word w n (subst (λ (l : List ℕ). IsToken l w n) (drop_all at text g) t)

matches_last : (phase : m.Phase) (frames : List m.Frame) (words : List Placed) (operator : ℕ) (left : Tree) → phase ≡ m.wants_pattern operator left → BehindPhase phase frames words
    → (before : List Placed) × (words ≡ before ++ (token.Matches, operator) ∷ [])
matches_last phase frames words operator left e b = let k = subst (λ (p : m.Phase). BehindPhase p frames words) e b in (k.1, k.2)

pub step_fault_is : (text : List ℕ) (at : ℕ) (s : m.State) → Follows text at s → at < length text → Reached text at s → Has s → (w : Token) (n : ℕ) → IsToken (drop at text) w n → (fault : ExprReadFault) → IsStepFault s.phase w at fault → IsParseFault text fault
step_fault_is text at s follows inside r has w n is (Syntax place) f = absurd f
step_fault_is text at s follows inside r has w n is Memory f = tt
step_fault_is text at s follows inside r has w n is (Pattern place) f =
    let last = matches_last s.phase s.frames r.words f.2.0 f.2.1 f.2.2 r.behind in (
      no_tree_with text at s follows inside f.2.0 f.2.1 f.2.2 w n is f.1.0 f.1.1 f.1.2,
      subst (λ (p : ℕ). IsPatternFaultAt text p) (sym f.0) (record {
        before = last.0;
        matches = f.2.0;
        front = subst (λ (l : List Placed). IsFront text 0 l at) last.1 r.front;
        opens = subst Opens last.1 (reached_opens text at s r);
        patterns = subst ArePatterns last.1 (are_patterns r.words s r.ran has);
        stands =
            (let here = can_stand text at s r (token.Text f.1.0) (subst (λ (p : m.Phase). takes (wanted_from p s.frames) (token.Text f.1.0) ≡ true) (sym f.2.2) refl) in
            subst Opens (ap (λ (l : List Placed). l ++ (token.Text f.1.0, at) ∷ []) last.1 ∙ append_assoc last.0 ((token.Matches, f.2.0) ∷ []) ((token.Text f.1.0, at) ∷ [])) here);
        source = f.1.0;
        n = n;
        literal = subst (λ (u : Token). IsToken (drop at text) u n) f.1.1 is;
        no_pattern = f.1.2;
      }),
    )
