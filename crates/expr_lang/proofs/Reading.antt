-- What one word leaves of a text, and of a tree.
use Rattle.std.proofs.Common.{◌≡◌, ℕ, ◌+◌, ◌<◌, ◌≤◌, List, [], ◌∷◌, ◌∙◌, ap, sym, refl, subst, length, take, drop, Option, None, Some, option_and_then, Bool, true, false, cond, inl, inr, true≢false, arith}
use Rattle.std.specs.Option.{option_map_or}
use Rattle.std.specs.List.{take_while}
use Rattle.std.proofs.lemmas.List.{drop-drop, drop_all}
use Rattle.std.proofs.lemmas.List.Sums.{take_while-cons}
use Rattle.field_paths.specs.PathText.{IsPathText}
use Rattle.field_paths.proofs.Faults.{one_path}
use Rattle.expr_lang.specs.declared.token.Token.{Token}
use Rattle.expr_lang.specs.declared.token.Token.TheVariants as token
use Rattle.std.proofs.Common.{length-drop}
use Rattle.expr_lang.proofs.Complete.{finishes}
use Rattle.expr_lang.proofs.Lengths.{take_within}
use Rattle.expr_lang.specs.Grammar.{IsExpression}
use Rattle.expr_lang.specs.Machine as m
use Rattle.expr_lang.specs.Inner.Reads.{Reads}
use Rattle.expr_lang.specs.Row.{Placed, IsToken, IsRow, past_blanks}
use Rattle.expr_lang.specs.Tree.{Tree}
use Rattle.expr_lang.specs.Words.{is_blank}

word_is : (v w : Token) (m n : ℕ) → ◌≡◌ {A = Option Placed} (Some (v, m)) (Some (w, n)) → (v ≡ w) × (m ≡ n)
word_is v w m n e = (ap (λ (o : Option Placed). option_map_or (λ (r : Placed). r.0) o v) e, ap (λ (o : Option Placed). option_map_or (λ (r : Placed). r.1) o 0) e)

pub one_word : (bytes : List ℕ) (v w : Token) (m n : ℕ) → IsToken bytes v m → IsToken bytes w n → (v ≡ w) × (m ≡ n)
one_word bytes v w m n (inl a) (inl b) = word_is v w m n (sym a.1 ∙ b.1)
one_word bytes v w m n (inl a) (inr b) = absurd (true≢false (sym b.0 ∙ a.0))
one_word bytes v w m n (inr a) (inl b) = absurd (true≢false (sym a.0 ∙ b.0))
one_word bytes v w m n (inr a) (inr b) =
    let lengths : m ≡ n = a.1 ∙ sym b.1 in
    let places : a.2.0 ≡ b.2.0 = one_path (take n bytes) a.2.0 b.2.0 (subst (λ (k : ℕ). IsPathText (take k bytes) a.2.0) lengths a.2.2) b.2.2 in
    (a.2.1 ∙ ap token.Path places ∙ sym b.2.1, lengths)

pub no_word : (w : Token) (n : ℕ) → IsToken [] w n → ⊥
no_word w n (inl a) = cc a.1
no_word w n (inr b) = true≢false (sym b.0)

blanks_gone : (bytes : List ℕ) → take_while is_blank (drop (length (take_while is_blank bytes)) bytes) ≡ []
blanks_gone [] = refl
blanks_gone (byte ∷ bytes) =
    subst (λ (l : List ℕ). take_while is_blank (drop (length l) (byte ∷ bytes)) ≡ []) (sym (take_while-cons is_blank byte bytes)) (by (is_blank byte) refl (blanks_gone bytes))
  where
    by : (b : Bool) → is_blank byte ≡ b → take_while is_blank (drop (length (take_while is_blank bytes)) bytes) ≡ []
        → take_while is_blank (drop (length (cond b (byte ∷ take_while is_blank bytes) [])) (byte ∷ bytes)) ≡ []
    by true e h = h
    by false e h = take_while-cons is_blank byte bytes ∙ ap (λ (b : Bool). cond b (byte ∷ take_while is_blank bytes) []) e

pub past_twice : (text : List ℕ) (at : ℕ) → past_blanks text (past_blanks text at) ≡ past_blanks text at
past_twice text at =
    let count = length (take_while is_blank (drop at text)) in
    let rest : drop (at + count) text ≡ drop count (drop at text) = sym (drop-drop count at text) in
    let none : take_while is_blank (drop (at + count) text) ≡ [] = ap (take_while is_blank) rest ∙ blanks_gone (drop at text) in
    let zero_more : length (take_while is_blank (drop (at + count) text)) ≡ 0 = ap length none in
    omega (arith, zero_more)

row_from : (text : List ℕ) (a b : ℕ) (row : List Placed) → past_blanks text a ≡ past_blanks text b → IsRow text a row → IsRow text b row
row_from text a b [] h r = sym h ∙ r
row_from text a b (placed ∷ row) h r = (r.0 ∙ h, r.1)

module _ (text : List ℕ) (at : ℕ) (past : past_blanks text at ≡ at) (inside : at < length text) where
  -- a row from here on begins with the word that stands here
  begins : (s : m.State) (tree : Tree) → Reads text at s tree
      → (w : Token) × (n : ℕ) × (row : List Placed) × IsToken (drop at text) w n × IsRow text (at + n) row × (m.finished s ((w, at) ∷ row) ≡ Some tree)
  begins s tree ([], r, e) = absurd (let h : at ≡ length text = sym past ∙ r in omega (arith, h, inside))
  begins s tree (placed ∷ row, r, e) =
      let here : placed.1 ≡ at = r.0 ∙ past in (
        placed.0,
        r.1.0,
        row,
        subst (λ (k : ℕ). IsToken (drop k text) placed.0 r.1.0) here r.1.1,
        subst (λ (k : ℕ). IsRow text (k + r.1.0) row) here r.1.2,
        subst (λ (k : ℕ). m.finished s ((placed.0, k) ∷ row) ≡ Some tree) here e,
      )

  pub reads_none : ((w : Token) (n : ℕ) → IsToken (drop at text) w n → ⊥) → (s : m.State) (tree : Tree) → Reads text at s tree → ⊥
  reads_none none s tree r = let b = begins s tree r in none b.0 b.1 b.3

  same_step : (w v : Token) (n k : ℕ) (s : m.State) (row : List Placed) (tree : Tree) → IsToken (drop at text) w n → IsToken (drop at text) v k → IsRow text (at + k) row
      → m.finished s ((v, at) ∷ row) ≡ Some tree → IsRow text (at + n) row × (m.finished s ((w, at) ∷ row) ≡ Some tree)
  same_step w v n k s row tree p q r e =
      let same = one_word (drop at text) v w k n q p in
      (subst (λ (j : ℕ). IsRow text (at + j) row) same.1 r, subst (λ (u : Token). m.finished s ((u, at) ∷ row) ≡ Some tree) same.0 e)

  -- the same, where the word is known
  pub reads_word : (s : m.State) (tree : Tree) → Reads text at s tree → (w : Token) (n : ℕ) → IsToken (drop at text) w n → (row : List Placed) × (m.finished s ((w, at) ∷ row) ≡ Some tree)
  reads_word s tree r w n p =
      let b = begins s tree r in
      let k = same_step w b.0 n b.1 s b.2 tree p b.3 b.4 b.5 in
      (b.2, k.1)

  pub reads_refused : (w : Token) (n : ℕ) (s : m.State) → IsToken (drop at text) w n → m.step s w at ≡ None → (tree : Tree) → Reads text at s tree → ⊥
  reads_refused w n s p refused tree r =
      let b = begins s tree r in
      let k = same_step w b.0 n b.1 s b.2 tree p b.3 b.4 b.5 in
      let e : None ≡ Some tree = sym (ap (option_and_then (λ next. m.finished next b.2)) refused) ∙ k.1 in
      cc e

  pub reads_on : (w : Token) (n : ℕ) (s t : m.State) → IsToken (drop at text) w n → m.step s w at ≡ Some t → (tree : Tree) → Reads text at s tree → Reads text (past_blanks text (at + n)) t tree
  reads_on w n s t p taken tree r =
      let b = begins s tree r in
      let k = same_step w b.0 n b.1 s b.2 tree p b.3 b.4 b.5 in
      (b.2, row_from text (at + n) (past_blanks text (at + n)) b.2 (sym (past_twice text (at + n))) k.0, sym (ap (option_and_then (λ next. m.finished next b.2)) taken) ∙ k.1)

  pub reads_back : (w : Token) (n : ℕ) (s t : m.State) → IsToken (drop at text) w n → m.step s w at ≡ Some t → (tree : Tree) → Reads text (past_blanks text (at + n)) t tree → Reads text at s tree
  reads_back w n s t p taken tree (row, r, e) =
      ((w, at) ∷ row, (sym past, (n, p, row_from text (past_blanks text (at + n)) (at + n) row (past_twice text (at + n)) r)), ap (option_and_then (λ next. m.finished next row)) taken ∙ e)

-- at the end of the text no word is left
pub reads_end : (text : List ℕ) (at : ℕ) (s : m.State) (tree : Tree) → length text ≤ at → Reads text at s tree → m.tree_at s ≡ Some tree
reads_end text at s tree h ([], r, e) = e
reads_end text at s tree h (placed ∷ row, r, e) =
    let far : length text ≤ placed.1 = (let k = r.0 in omega (arith, k, h)) in
    absurd (no_word placed.0 r.1.0 (subst (λ (l : List ℕ). IsToken l placed.0 r.1.0) (drop_all placed.1 text far) r.1.1))

pub reads_ended : (text : List ℕ) (at : ℕ) (s : m.State) (tree : Tree) → past_blanks text at ≡ at → at ≤ length text → length text ≤ at → m.tree_at s ≡ Some tree → Reads text at s tree
reads_ended text at s tree past l g e = ([], past ∙ omega arith, e)

no_row : (text : List ℕ) (at : ℕ) (placed : Placed) (row : List Placed) → past_blanks text at ≡ length text → IsRow text at (placed ∷ row) → ⊥
no_row text at placed row h r =
    let far : length text ≤ placed.1 = (let k = r.0 in omega (arith, k, h)) in
    no_word placed.0 r.1.0 (subst (λ (l : List ℕ). IsToken l placed.0 r.1.0) (drop_all placed.1 text far) r.1.1)

one_row : (text : List ℕ) (row other : List Placed) (at : ℕ) → IsRow text at row → IsRow text at other → row ≡ other
one_row text [] [] at a b = refl
one_row text [] (placed ∷ other) at a b = absurd (no_row text at placed other a b)
one_row text (placed ∷ row) [] at a b = absurd (no_row text at placed row b a)
one_row text ((v, i) ∷ row) ((w, j) ∷ other) at a b =
    let place : i ≡ j = a.0 ∙ sym b.0 in
    let here : IsToken (drop j text) v a.1.0 = subst (λ (k : ℕ). IsToken (drop k text) v a.1.0) place a.1.1 in
    let same = one_word (drop j text) v w a.1.0 b.1.0 here b.1.1 in
    let next : i + a.1.0 ≡ j + b.1.0 = (let n = same.1 in omega (arith, n, place)) in
    let rest = one_row text row other (j + b.1.0) (subst (λ (k : ℕ). IsRow text k row) next a.1.2) b.1.2 in
    placed_is v w i j row other same.0 place rest
  where
    placed_is : (v w : Token) (i j : ℕ) (row other : List Placed) → v ≡ w → i ≡ j → row ≡ other → (v, i) ∷ row ≡ (w, j) ∷ other
    placed_is v w i j row other a b c =
        ap (λ (u : Token). (u, i) ∷ row) a ∙ ap (λ (k : ℕ). (w, k) ∷ row) b ∙ ap (λ (l : List Placed). (w, j) ∷ l) c

pub one_tree : (text : List ℕ) (tree other : Tree) → IsExpression text tree → IsExpression text other → tree ≡ other
one_tree text tree other a b =
    let rows : a.words ≡ b.words = one_row text a.words b.words 0 a.row b.row in
    let e : Some tree ≡ Some other = sym (finishes a.words tree a.spells) ∙ ap (m.finished m.start) rows ∙ finishes b.words other b.spells in
    cc e

pub no_expression : (text : List ℕ) → ((tree : Tree) → Reads text 0 m.start tree → ⊥) → (tree : Tree) → IsExpression text tree → ⊥
no_expression text none tree e = none tree (e.words, e.row, finishes e.words tree e.spells)

-- what the loop over the words keeps: what can be read from here on is what can be read from the start
pub record Follows (text : List ℕ) (at : ℕ) (s : m.State) : Type 0 where
  pub inside : at ≤ length text
  pub past : past_blanks text at ≡ at
  pub onward : (tree : Tree) → Reads text 0 m.start tree → Reads text at s tree
  pub back : (tree : Tree) → Reads text at s tree → Reads text 0 m.start tree

past_within : (text : List ℕ) (at : ℕ) → at ≤ length text → past_blanks text at ≤ length text
past_within text at h = let few = blanks_few (drop at text) in let left = length-drop at text in omega (arith, few, left, h)
  where
    blanks_few : (bytes : List ℕ) → length (take_while is_blank bytes) ≤ length bytes
    blanks_few bytes = take_within is_blank bytes

pub follows_first : (text : List ℕ) → Follows text (past_blanks text 0) m.start
follows_first text = record {
  inside = past_within text 0 (omega arith);
  past = past_twice text 0;
  onward = λ tree (row, r, e). (row, row_from text 0 (past_blanks text 0) row (sym (past_twice text 0)) r, e);
  back = λ tree (row, r, e). (row, row_from text (past_blanks text 0) 0 row (past_twice text 0) r, e);
}

module _ (text : List ℕ) (at : ℕ) (s : m.State) (follows : Follows text at s) where
  pub follows_next : at < length text → (w : Token) (n : ℕ) (t : m.State) → IsToken (drop at text) w n → m.step s w at ≡ Some t → at + n ≤ length text
      → Follows text (past_blanks text (at + n)) t
  follows_next inside w n t p taken fits = record {
    inside = past_within text (at + n) fits;
    past = past_twice text (at + n);
    onward = λ tree r. reads_on text at follows.past inside w n s t p taken tree (follows.onward tree r);
    back = λ tree r. follows.back tree (reads_back text at follows.past inside w n s t p taken tree r);
  }

  pub none_behind_word : at < length text → ((w : Token) (n : ℕ) → IsToken (drop at text) w n → ⊥) → (tree : Tree) → Reads text 0 m.start tree → ⊥
  none_behind_word inside none tree r = reads_none text at follows.past inside none s tree (follows.onward tree r)

  pub none_behind_step : at < length text → (w : Token) (n : ℕ) → IsToken (drop at text) w n → m.step s w at ≡ None → (tree : Tree) → Reads text 0 m.start tree → ⊥
  none_behind_step inside w n p refused tree r = reads_refused text at follows.past inside w n s p refused tree (follows.onward tree r)

  pub whole_tree : length text ≤ at → (tree : Tree) → m.tree_at s ≡ Some tree → Reads text 0 m.start tree
  whole_tree end tree e = follows.back tree (reads_ended text at s tree follows.past follows.inside end e)

  pub no_whole_tree : length text ≤ at → m.tree_at s ≡ None → (tree : Tree) → Reads text 0 m.start tree → ⊥
  no_whole_tree end none tree r = let e : None ≡ Some tree = sym none ∙ reads_end text at s tree end (follows.onward tree r) in cc e
