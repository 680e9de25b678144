-- A text has one place of a fault.
use Rattle.std.proofs.Common.{◌<◌, ◌≡◌, ◌≢◌, true≢false, ℕ, ◌+◌, ◌≤◌, List, [], ◌∷◌, ◌++◌, ◌∙◌, ap, sym, refl, subst, length, drop, Bool, true, false, nat_eq, ◌⊎◌, inl, inr, append_assoc, arith}
use Rattle.std.proofs.lemmas.Bool.{eqb-true}
use Rattle.std.proofs.lemmas.Bool.Decides.{nat_tests}
use Rattle.std.proofs.lemmas.List.{append-nil, drop_all}
use Rattle.expr_lang.specs.declared.read.ExprReadFault.{ExprReadFault}
use Rattle.expr_lang.specs.declared.read.ExprReadFault.TheVariants.{Syntax, Pattern, Memory}
use Rattle.expr_lang.specs.declared.token.Token.{Token}
use Rattle.expr_lang.specs.declared.token.Token.TheVariants as token
use Rattle.expr_lang.specs.Fault.{IsFront, Opens, ArePatterns, CanStand, IsTooDeep, IsFaultAt, IsPatternFaultAt}
use Rattle.expr_lang.specs.Grammar.{Spells, Disjoined}
use Rattle.expr_lang.specs.Longest.{IsLongest}
use Rattle.expr_lang.specs.Outcome.{IsReadFault, IsTooLong}
use Rattle.expr_lang.specs.Row.{Placed, IsToken, IsRow}
use Rattle.expr_lang.specs.Tree.{Tree}
use Rattle.expr_lang.proofs.Longest.{longest_is}
use Rattle.expr_lang.proofs.PatternWords.{row_patterns}
use Rattle.expr_lang.proofs.Reading.{one_word, no_word}

-- the words go on with a word that stands at `at`
abbrev GoesOn : List ℕ → List Placed → ℕ → List Placed → Type 0
GoesOn text words at others = (w : Token) × (n : ℕ) × (more : List Placed) × (others ≡ words ++ (w, at) ∷ more) × IsToken (drop at text) w n

abbrev Same : List Placed → ℕ → List Placed → ℕ → Type 0
Same words at others to = (words ≡ others) × (at ≡ to)

goes_behind : (text : List ℕ) (words others : List Placed) (at : ℕ) (one : Placed) → GoesOn text words at others → GoesOn text (one ∷ words) at (one ∷ others)
goes_behind text words others at one g = (g.0, g.1, g.2, ap (λ (l : List Placed). one ∷ l) g.3, g.4)

placed_is : (v w : Token) (i j : ℕ) → v ≡ w → i ≡ j → ◌≡◌ {A = Placed} (v, i) (w, j)
placed_is v w i j a b = ap (λ (u : Token). (u, i)) a ∙ ap (λ (k : ℕ). (w, k)) b

-- of two fronts of a text one goes on with the other's next word, or they are the same
fronts : (text : List ℕ) (words others : List Placed) (from at to : ℕ) → IsFront text from words at → IsFront text from others to
    → Same words at others to ⊎ (GoesOn text words at others ⊎ GoesOn text others to words)
fronts text [] [] from at to a b = inl (refl, a ∙ sym b)
fronts text [] (placed ∷ others) from at to a b =
    let here : placed.1 ≡ at = b.0 ∙ sym a in
    inr (inl (placed.0, b.1.0, others, ap (λ (k : ℕ). (placed.0, k) ∷ others) here, subst (λ (k : ℕ). IsToken (drop k text) placed.0 b.1.0) here b.1.1))
fronts text (placed ∷ words) [] from at to a b =
    let here : placed.1 ≡ to = a.0 ∙ sym b in
    inr (inr (placed.0, a.1.0, words, ap (λ (k : ℕ). (placed.0, k) ∷ words) here, subst (λ (k : ℕ). IsToken (drop k text) placed.0 a.1.0) here a.1.1))
fronts text ((v, i) ∷ words) ((w, j) ∷ others) from at to a b =
    let place : i ≡ j = a.0 ∙ sym b.0 in
    let here : IsToken (drop j text) v a.1.0 = subst (λ (k : ℕ). IsToken (drop k text) v a.1.0) place a.1.1 in
    let same = one_word (drop j text) v w a.1.0 b.1.0 here b.1.1 in
    let next : i + a.1.0 ≡ j + b.1.0 = (let n = same.1 in omega (arith, n, place)) in
    let head : ◌≡◌ {A = Placed} (v, i) (w, j) = placed_is v w i j same.0 place in
    by head (fronts text words others (j + b.1.0) at to (subst (λ (k : ℕ). IsFront text k words at) next a.1.2) b.1.2)
  where
    by : ◌≡◌ {A = Placed} (v, i) (w, j) → Same words at others to ⊎ (GoesOn text words at others ⊎ GoesOn text others to words)
        → Same ((v, i) ∷ words) at ((w, j) ∷ others) to ⊎ (GoesOn text ((v, i) ∷ words) at ((w, j) ∷ others) ⊎ GoesOn text ((w, j) ∷ others) to ((v, i) ∷ words))
    by head (inl s) = inl (ap (λ (l : List Placed). (v, i) ∷ l) s.0 ∙ ap (λ (p : Placed). p ∷ others) head, s.1)
    by head (inr (inl g)) = inr (inl (subst (λ (p : Placed). GoesOn text ((v, i) ∷ words) at (p ∷ others)) head (goes_behind text words others at (v, i) g)))
    by head (inr (inr g)) = inr (inr (subst (λ (p : Placed). GoesOn text ((w, j) ∷ others) to (p ∷ words)) (sym head) (goes_behind text others words to (w, j) g)))

over : (text : List ℕ) (w : Token) (n at : ℕ) → length text ≤ at → IsToken (drop at text) w n → ⊥
over text w n at h t = no_word w n (subst (λ (l : List ℕ). IsToken l w n) (drop_all at text h) t)

-- the words of the whole text end with a front, or go on from it
row_front : (text : List ℕ) (row words : List Placed) (from at : ℕ) → IsRow text from row → IsFront text from words at → ((row ≡ words) × (length text ≤ at)) ⊎ GoesOn text words at row
row_front text [] [] from at r f = inl (refl, omega (arith, r, f))
row_front text [] (placed ∷ words) from at r f = absurd (over text placed.0 f.1.0 placed.1 (let k = f.0 in omega (arith, r, k)) f.1.1)
row_front text (placed ∷ row) [] from at r f =
    let here : placed.1 ≡ at = r.0 ∙ sym f in
    inr (placed.0, r.1.0, row, ap (λ (k : ℕ). (placed.0, k) ∷ row) here, subst (λ (k : ℕ). IsToken (drop k text) placed.0 r.1.0) here r.1.1)
row_front text ((v, i) ∷ row) ((w, j) ∷ words) from at r f =
    let place : i ≡ j = r.0 ∙ sym f.0 in
    let here : IsToken (drop j text) v r.1.0 = subst (λ (k : ℕ). IsToken (drop k text) v r.1.0) place r.1.1 in
    let same = one_word (drop j text) v w r.1.0 f.1.0 here f.1.1 in
    let next : i + r.1.0 ≡ j + f.1.0 = (let n = same.1 in omega (arith, n, place)) in
    let head : ◌≡◌ {A = Placed} (v, i) (w, j) = placed_is v w i j same.0 place in
    by head (row_front text row words (j + f.1.0) at (subst (λ (k : ℕ). IsRow text k row) next r.1.2) f.1.2)
  where
    by : ◌≡◌ {A = Placed} (v, i) (w, j) → ((row ≡ words) × (length text ≤ at)) ⊎ GoesOn text words at row → (((v, i) ∷ row ≡ (w, j) ∷ words) × (length text ≤ at)) ⊎ GoesOn text ((w, j) ∷ words) at ((v, i) ∷ row)
    by head (inl s) = inl (ap (λ (l : List Placed). (v, i) ∷ l) s.0 ∙ ap (λ (p : Placed). p ∷ words) head, s.1)
    by head (inr g) = inr (subst (λ (p : Placed). GoesOn text ((w, j) ∷ words) at (p ∷ row)) (sym head) (goes_behind text words row at (w, j) g))

-- what goes on from words that can go on lets its next word stand
opens_front : (words more : List Placed) (one : Placed) → Opens (words ++ one ∷ more) → Opens (words ++ one ∷ [])
opens_front words more one (rest, tree, s) =
    (more ++ rest, tree, subst (λ (l : List Placed). Spells 32 Disjoined l tree) (simp append_assoc) s)

refuses : (text : List ℕ) (place : ℕ) (f : IsFaultAt text place) (others : List Placed) → Opens others → GoesOn text f.words f.at others → ⊥
refuses text place f others opens g =
    f.refused g.0 g.1 g.4 (opens_front f.words g.2 (g.0, f.at) (subst Opens g.3 opens))

module _ (text : List ℕ) (words : List Placed) (at : ℕ) where
  abbrev Most : ℕ → Type 0
  Most most = (IsTooDeep text words at → most ≡ 0) × ((IsTooDeep text words at → ⊥) → IsLongest (CanStand words at) (drop at text) most)

  one_most : (a b : ℕ) → Most a → Most b → a ≡ b
  one_most a b p q = by (nat_eq a b) refl
    where
      by : (t : Bool) → nat_eq a b ≡ t → a ≡ b
      by true e = eqb-true a b e
      by false e =
          let shallow : IsTooDeep text words at → ⊥ = λ d. (let x = p.0 d in let y = q.0 d in absurd (grind (arith, nat_tests, x, y))) in
          let low = longest_is (p.1 shallow) (q.1 shallow) in
          let high = longest_is (q.1 shallow) (p.1 shallow) in
          omega (arith, low, high)

one_place : (text : List ℕ) (a b : ℕ) → IsFaultAt text a → IsFaultAt text b → a ≡ b
one_place text a b p q = by (fronts text p.words q.words 0 p.at q.at p.front q.front)
  where
    same : p.words ≡ q.words → p.at ≡ q.at → a ≡ b
    same e f =
        let most : Most text q.words q.at p.most = subst (λ (k : ℕ). Most text q.words k p.most) f (subst (λ (l : List Placed). Most text l p.at p.most) e (p.too_deep, p.longest)) in
        let m = one_most text q.words q.at p.most q.most most (q.too_deep, q.longest) in
        let i = p.is in
        let j = q.is in
        omega (arith, i, j, f, m)

    by : Same p.words p.at q.words q.at ⊎ (GoesOn text p.words p.at q.words ⊎ GoesOn text q.words q.at p.words) → a ≡ b
    by (inl s) = same s.0 s.1
    by (inr (inl g)) = absurd (refuses text a p q.words q.opens g)
    by (inr (inr g)) = absurd (refuses text b q p.words p.opens g)

-- the words that were read up to the text that is no pattern
abbrev words_of : {text : List ℕ} {place : ℕ} → IsPatternFaultAt text place → List Placed
words_of q = q.before ++ (token.Matches, q.matches) ∷ []

-- no words with patterns alone go on with it
no_pattern_in : (text : List ℕ) (place : ℕ) (q : IsPatternFaultAt text place) (others : List Placed) → ArePatterns others → GoesOn text (words_of q) place others → ⊥
no_pattern_in text place q others patterns g =
    let same : g.0 ≡ token.Text q.source = (one_word (drop place text) g.0 (token.Text q.source) g.1 q.n g.4 q.literal).0 in
    let is : others ≡ q.before ++ (token.Matches, q.matches) ∷ (token.Text q.source, place) ∷ g.2 =
    g.3 ∙ append_assoc q.before ((token.Matches, q.matches) ∷ []) ((g.0, place) ∷ g.2)
    ∙ ap (λ (u : Token). q.before ++ (token.Matches, q.matches) ∷ (u, place) ∷ g.2) same in
    true≢false (sym (patterns q.before g.2 q.matches place q.source is) ∙ q.no_pattern)

one_pattern : (text : List ℕ) (a b : ℕ) → IsPatternFaultAt text a → IsPatternFaultAt text b → a ≡ b
one_pattern text a b p q = by (fronts text (words_of p) (words_of q) 0 a b p.front q.front)
  where
    by : Same (words_of p) a (words_of q) b ⊎ (GoesOn text (words_of p) a (words_of q) ⊎ GoesOn text (words_of q) b (words_of p)) → a ≡ b
    by (inl s) = s.1
    by (inr (inl g)) = absurd (no_pattern_in text a p (words_of q) q.patterns g)
    by (inr (inr g)) = absurd (no_pattern_in text b q (words_of p) p.patterns g)

-- a word that can't stand where it stands, and a text that is no pattern, are never both the first fault
not_both : (text : List ℕ) (a b : ℕ) → IsFaultAt text a → IsPatternFaultAt text b → ⊥
not_both text a b p q = by (fronts text p.words (words_of q) 0 p.at b p.front q.front)
  where
    same : p.words ≡ words_of q → p.at ≡ b → ⊥
    same e f =
        let literal : IsToken (drop p.at text) (token.Text q.source) q.n = subst (λ (k : ℕ). IsToken (drop k text) (token.Text q.source) q.n) (sym f) q.literal in
        let words : p.words ++ (token.Text q.source, p.at) ∷ [] ≡ q.before ++ (token.Matches, q.matches) ∷ (token.Text q.source, b) ∷ [] =
        ap (λ (l : List Placed). l ++ (token.Text q.source, p.at) ∷ []) e ∙ append_assoc q.before ((token.Matches, q.matches) ∷ []) ((token.Text q.source, p.at) ∷ [])
        ∙ ap (λ (k : ℕ). q.before ++ (token.Matches, q.matches) ∷ (token.Text q.source, k) ∷ []) f in
        p.refused (token.Text q.source) q.n literal (subst Opens (sym words) q.stands)

    by : Same p.words p.at (words_of q) b ⊎ (GoesOn text p.words p.at (words_of q) ⊎ GoesOn text (words_of q) b p.words) → ⊥
    by (inl s) = same s.0 s.1
    by (inr (inl g)) = refuses text a p (words_of q) q.opens g
    by (inr (inr g)) = no_pattern_in text b q p.words p.patterns g

no_whole : (text : List ℕ) (a : ℕ) → IsFaultAt text a → (row : List Placed) (tree : Tree) → IsRow text 0 row → Spells 32 Disjoined row tree → ⊥
no_whole text a p row tree r s = by (row_front text row p.words 0 p.at r p.front)
  where
    by : ((row ≡ p.words) × (length text ≤ p.at)) ⊎ GoesOn text p.words p.at row → ⊥
    by (inl e) = p.partial tree e.1 (subst (λ (l : List Placed). Spells 32 Disjoined l tree) e.0 s)
    by (inr g) = refuses text a p row ([], tree, subst (λ (l : List Placed). Spells 32 Disjoined l tree) (sym (append-nil row)) s) g

at_limit : (text : List ℕ) (a : ℕ) → a ≤ 4096 → IsFaultAt text a → IsTooLong text → a ≡ 4096
at_limit text a few p (long, inl (place, far, inl q)) = let e = one_place text a place p q in omega (arith, few, far, e)
at_limit text a few p (long, inl (place, far, inr q)) = absurd (not_both text a place p q)
at_limit text a few p (long, inr (row, tree, r, s, have)) = absurd (no_whole text a p row tree r s)

-- a text that is no pattern comes before the limit
not_at_limit : (text : List ℕ) (a : ℕ) → a < 4096 → IsPatternFaultAt text a → IsTooLong text → ⊥
not_at_limit text a few q (long, inl (place, far, inl p)) = not_both text place a p q
not_at_limit text a few q (long, inl (place, far, inr p)) = let e = one_pattern text a place q p in absurd (omega (arith, few, far, e))
not_at_limit text a few q (long, inr (row, tree, r, s, have)) = by (row_front text row (words_of q) 0 a r q.front)
  where
    by : ((row ≡ words_of q) × (length text ≤ a)) ⊎ GoesOn text (words_of q) a row → ⊥
    by (inl e) = over text (token.Text q.source) q.n a e.1 q.literal
    by (inr g) = no_pattern_in text a q row (row_patterns row tree s have) g

one_syntax : (text : List ℕ) (a b : ℕ) → IsReadFault text (Syntax a) → IsReadFault text (Syntax b) → a ≡ b
one_syntax text a b (none, few, inl p) (also, little, inl q) = one_place text a b p q
one_syntax text a b (none, few, inl p) (also, little, inr q) = at_limit text a few p q.1 ∙ sym q.0
one_syntax text a b (none, few, inr p) (also, little, inl q) = p.0 ∙ sym (at_limit text b little q p.1)
one_syntax text a b (none, few, inr p) (also, little, inr q) = p.0 ∙ sym q.0

apart : (text : List ℕ) (a b : ℕ) → IsReadFault text (Syntax a) → IsReadFault text (Pattern b) → ⊥
apart text a b (none, few, inl p) (also, near, q) = not_both text a b p q
apart text a b (none, few, inr p) (also, near, q) = not_at_limit text b near q p.1

pub one_fault : (text : List ℕ) (fault other : ExprReadFault) → IsReadFault text fault → IsReadFault text other → fault ≢ Memory → other ≢ Memory → fault ≡ other
one_fault text (Syntax a) (Syntax b) p q n m = ap Syntax (one_syntax text a b p q)
one_fault text (Syntax a) (Pattern b) p q n m = absurd (apart text a b p q)
one_fault text (Pattern a) (Syntax b) p q n m = absurd (apart text b a q p)
one_fault text (Pattern a) (Pattern b) p q n m = ap Pattern (one_pattern text a b p.2 q.2)
one_fault text Memory other p q n m = absurd (n refl)
one_fault text (Syntax a) Memory p q n m = absurd (m refl)
one_fault text (Pattern a) Memory p q n m = absurd (m refl)
