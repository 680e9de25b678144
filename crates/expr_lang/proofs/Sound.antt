-- Words that lead to a tree spell it.
use Rattle.std.proofs.Common.{◌≡◌, ℕ, zero, suc, ◌+◌, ◌<◌, List, [], ◌∷◌, ◌++◌, ◌∙◌, ap, sym, refl, subst, Option, None, Some, option_and_then, Bool, true, false, cond, nat_lt, append_assoc, arith}
use Rattle.std.proofs.lemmas.Bool.Decides.{nat_tests}
use Rattle.std.proofs.lemmas.List.{append-nil}
use Rattle.entry_model.specs.Datum.{Datum, list, items_of}
use Rattle.expr_lang.specs.declared.token.Comparison.{Comparison}
use Rattle.expr_lang.specs.declared.token.Token.{Token}
use Rattle.expr_lang.specs.declared.token.Token.TheVariants as token
use Rattle.expr_lang.specs.Grammar.{constant_of, leaf_of, SpellsItems, last, Level, Unary, Compared, Conjoined, Disjoined, Spells, leaf, no_items, items, group, primary, negated, unary, compares, matches, compared, and, conjoined, or}
use Rattle.expr_lang.specs.Machine as m
use Rattle.expr_lang.specs.Row.{Placed}
use Rattle.expr_lang.proofs.Complete.{items_more}
use Rattle.expr_lang.specs.Tree.{Tree, constant, negation}

-- the words before an operand that is wanted, with room for so many levels in it
abbrev pub Rests : ℕ → List m.Frame → List Placed → Type 0
Rests n [] words = (words ≡ []) × (n ≡ 32)
Rests n (m.grouped ∷ frames) words = (front : List Placed) × (at : ℕ) × (words ≡ front ++ (token.OpenGroup, at) ∷ []) × Rests (suc n) frames front
Rests n (m.negated at ∷ frames) words = (front : List Placed) × (words ≡ front ++ (token.Not, at) ∷ []) × Rests (suc n) frames front
Rests n (m.compared_to operator at left ∷ frames) words =
    (front : List Placed) × (part : List Placed) × (words ≡ front ++ (part ++ (token.Compares operator, at) ∷ [])) × Spells n Unary part left × Rests n frames front
Rests n (m.conjoined_to at left ∷ frames) words =
    (front : List Placed) × (part : List Placed) × (words ≡ front ++ (part ++ (token.And, at) ∷ [])) × Spells n Conjoined part left × Rests n frames front
Rests n (m.disjoined_to at left ∷ frames) words =
    (front : List Placed) × (part : List Placed) × (words ≡ front ++ (part ++ (token.Or, at) ∷ [])) × Spells n Disjoined part left × Rests n frames front

-- an operand of a level behind them
pub record Stands (n : ℕ) (level : Level) (frames : List m.Frame) (tree : Tree) (words : List Placed) : Type 0 where
  pub front : List Placed
  pub part : List Placed
  pub is : words ≡ front ++ part
  pub rests : Rests n frames front
  pub spells : Spells n level part tree

abbrev pub level_of : Bool → Level
level_of true = Compared
level_of false = Unary

-- the words that led to a state
abbrev pub BehindPhase : m.Phase → List m.Frame → List Placed → Type 0
BehindPhase m.wants_operand frames words = (n : ℕ) × Rests n frames words
BehindPhase (m.has_operand tree c) frames words = (n : ℕ) × Stands n (level_of c) frames tree words
BehindPhase (m.wants_pattern at left) frames words = (n : ℕ) × (front : List Placed) × (words ≡ front ++ (token.Matches, at) ∷ []) × Stands n Unary frames left front
BehindPhase m.first_item frames words = (n : ℕ) × (front : List Placed) × (at : ℕ) × (words ≡ front ++ (token.OpenList, at) ∷ []) × Rests (suc n) frames front
BehindPhase (m.next_item values) frames words =
    (n : ℕ) × (front : List Placed) × (at : ℕ) × (part : List Placed) × (comma : ℕ) × (words ≡ front ++ (token.OpenList, at) ∷ (part ++ (token.Comma, comma) ∷ [])) × Rests (suc n) frames front × SpellsItems part values
BehindPhase (m.after_item values) frames words =
    (n : ℕ) × (front : List Placed) × (at : ℕ) × (part : List Placed) × (words ≡ front ++ (token.OpenList, at) ∷ part) × Rests (suc n) frames front × SpellsItems part values

abbrev pub Behind : m.State → List Placed → Type 0
Behind s words = BehindPhase s.phase s.frames words

room : (frames : List m.Frame) (n : ℕ) (words : List Placed) → Rests n frames words → n + m.depth frames ≡ 32
room [] n words r = omega (arith, r.1)
room (m.grouped ∷ frames) n words r = let h = room frames (suc n) r.0 r.3 in omega (arith, h)
room (m.negated at ∷ frames) n words r = let h = room frames (suc n) r.0 r.2 in omega (arith, h)
room (m.compared_to operator at left ∷ frames) n words r = room frames n r.0 r.4
room (m.conjoined_to at left ∷ frames) n words r = room frames n r.0 r.4
room (m.disjoined_to at left ∷ frames) n words r = room frames n r.0 r.4

-- behind an operand that stands for itself
pub settles : (frames : List m.Frame) (n : ℕ) (tree : Tree) (words : List Placed) → Stands n Unary frames tree words → Behind (m.settled frames tree) words
settles [] n tree words s = (n, s)
settles (m.grouped ∷ frames) n tree words s = (n, s)
settles (m.conjoined_to at left ∷ frames) n tree words s = (n, s)
settles (m.disjoined_to at left ∷ frames) n tree words s = (n, s)
settles (m.negated at ∷ frames) n tree words s =
    settles frames (suc n) (negation at tree) words (record {
      front = s.rests.0;
      part = (token.Not, at) ∷ s.part;
      is = s.is ∙ ap (λ (l : List Placed). l ++ s.part) s.rests.1 ∙ append_assoc s.rests.0 ((token.Not, at) ∷ []) s.part;
      rests = s.rests.2;
      spells = negated s.spells;
    })
settles (m.compared_to operator at left ∷ frames) n tree words s = (
  n,
  record {
    front = s.rests.0;
    part = s.rests.1 ++ (token.Compares operator, at) ∷ s.part;
    is = s.is ∙ ap (λ (l : List Placed). l ++ s.part) s.rests.2 ∙ (simp append_assoc);
    rests = s.rests.4;
    spells = compares at operator s.rests.3 s.spells;
  },
)

-- behind an operand with the conjunction that it ends
joins_and : (frames : List m.Frame) (n : ℕ) (tree : Tree) (words : List Placed) → Stands n Compared frames tree words
    → Stands n Conjoined (m.joined_and frames tree).0 (m.joined_and frames tree).1 words
joins_and [] n tree words s = record { front = s.front; part = s.part; is = s.is; rests = s.rests; spells = compared s.spells }
joins_and (m.grouped ∷ frames) n tree words s = record { front = s.front; part = s.part; is = s.is; rests = s.rests; spells = compared s.spells }
joins_and (m.negated at ∷ frames) n tree words s = record { front = s.front; part = s.part; is = s.is; rests = s.rests; spells = compared s.spells }
joins_and (m.compared_to operator at left ∷ frames) n tree words s = record { front = s.front; part = s.part; is = s.is; rests = s.rests; spells = compared s.spells }
joins_and (m.disjoined_to at left ∷ frames) n tree words s = record { front = s.front; part = s.part; is = s.is; rests = s.rests; spells = compared s.spells }
joins_and (m.conjoined_to at left ∷ frames) n tree words s = record {
  front = s.rests.0;
  part = s.rests.1 ++ (token.And, at) ∷ s.part;
  is = s.is ∙ ap (λ (l : List Placed). l ++ s.part) s.rests.2 ∙ (simp append_assoc);
  rests = s.rests.4;
  spells = and at s.rests.3 s.spells;
}

joins_or : (frames : List m.Frame) (n : ℕ) (tree : Tree) (words : List Placed) → Stands n Conjoined frames tree words
    → Stands n Disjoined (m.joined_or frames tree).0 (m.joined_or frames tree).1 words
joins_or [] n tree words s = record { front = s.front; part = s.part; is = s.is; rests = s.rests; spells = conjoined s.spells }
joins_or (m.grouped ∷ frames) n tree words s = record { front = s.front; part = s.part; is = s.is; rests = s.rests; spells = conjoined s.spells }
joins_or (m.negated at ∷ frames) n tree words s = record { front = s.front; part = s.part; is = s.is; rests = s.rests; spells = conjoined s.spells }
joins_or (m.compared_to operator at left ∷ frames) n tree words s = record { front = s.front; part = s.part; is = s.is; rests = s.rests; spells = conjoined s.spells }
joins_or (m.conjoined_to at left ∷ frames) n tree words s = record { front = s.front; part = s.part; is = s.is; rests = s.rests; spells = conjoined s.spells }
joins_or (m.disjoined_to at left ∷ frames) n tree words s = record {
  front = s.rests.0;
  part = s.rests.1 ++ (token.Or, at) ∷ s.part;
  is = s.is ∙ ap (λ (l : List Placed). l ++ s.part) s.rests.2 ∙ (simp append_assoc);
  rests = s.rests.4;
  spells = or at s.rests.3 s.spells;
}

joins : (frames : List m.Frame) (n : ℕ) (tree : Tree) (words : List Placed) → Stands n Compared frames tree words
    → Stands n Disjoined (m.joined frames tree).0 (m.joined frames tree).1 words
joins frames n tree words s = joins_or (m.joined_and frames tree).0 n (m.joined_and frames tree).1 words (joins_and frames n tree words s)

as_compared : (c : Bool) (n : ℕ) (frames : List m.Frame) (tree : Tree) (words : List Placed) → Stands n (level_of c) frames tree words → Stands n Compared frames tree words
as_compared true n frames tree words s = s
as_compared false n frames tree words s = record { front = s.front; part = s.part; is = s.is; rests = s.rests; spells = unary s.spells }

-- ---- one more word

takes_leaf : (frames : List m.Frame) (n : ℕ) (words : List Placed) (word : Token) (at : ℕ) (leaf_is : Option Tree) → leaf_of word ≡ leaf_is → Rests n frames words
    → (t : m.State) → m.leaf_next frames leaf_is ≡ Some t → Behind t (words ++ (word, at) ∷ [])
takes_leaf frames n words word at None l r t e = absurd (cc e)
takes_leaf frames n words word at (Some tree) l r t e =
    let is : m.settled frames tree ≡ t = cc e in
    subst (λ (s : m.State). Behind s (words ++ (word, at) ∷ [])) is
    (settles frames n tree (words ++ (word, at) ∷ []) (record { front = words; part = (word, at) ∷ []; is = refl; rests = r; spells = primary (leaf l) }))

-- one level more is open
opens : (frames : List m.Frame) (n : ℕ) (words : List Placed) (inside t : m.State) → Rests n frames words → m.opened frames inside ≡ Some t
    → (less : ℕ) × (n ≡ suc less) × (inside ≡ t)
opens frames n words inside t r e = by (nat_lt (m.depth frames) 32) refl e
  where
    by : (b : Bool) → nat_lt (m.depth frames) 32 ≡ b → cond b (Some inside) None ≡ Some t → (less : ℕ) × (n ≡ suc less) × (inside ≡ t)
    by false k e = absurd (cc e)
    by true k e = pred n (let h = room frames n words r in let l : m.depth frames < 32 = grind (arith, nat_tests) in omega (arith, h, l))
      where
        pred : (n : ℕ) → 0 < n → (less : ℕ) × (n ≡ suc less) × (inside ≡ t)
        pred zero l = absurd (omega arith)
        pred (suc less) l = (less, refl, cc e)

after_is : (frames : List m.Frame) (values : List Datum) (item : Option Datum) (t : m.State) → m.item_next frames values item ≡ Some t
    → (value : Datum) × (item ≡ Some value) × (t ≡ record { phase = m.after_item (values ++ value ∷ []); frames = frames })
after_is frames values None t e = absurd (cc e)
after_is frames values (Some value) t e = (value, refl, sym (let k : record { phase = m.after_item (values ++ value ∷ []); frames = frames } ≡ t = cc e in k))

takes_first : (frames : List m.Frame) (n : ℕ) (words front : List Placed) (start : ℕ) (word : Token) (at : ℕ) → words ≡ front ++ (token.OpenList, start) ∷ [] → Rests (suc n) frames front
    → (t : m.State) → m.item_step frames [] word ≡ Some t → Behind t (words ++ (word, at) ∷ [])
takes_first frames n words front start word at w r t e =
    let found = after_is frames [] (constant_of word) t e in
    subst (λ (s : m.State). Behind s (words ++ (word, at) ∷ [])) (sym found.2)
    (n, front, start, (word, at) ∷ [], ap (λ (l : List Placed). l ++ (word, at) ∷ []) w ∙ append_assoc front ((token.OpenList, start) ∷ []) ((word, at) ∷ []), r, last found.1)

takes_next : (frames : List m.Frame) (values : List Datum) (words : List Placed) (word : Token) (at : ℕ) → BehindPhase (m.next_item values) frames words
    → (t : m.State) → m.item_step frames values word ≡ Some t → Behind t (words ++ (word, at) ∷ [])
takes_next frames values words word at (n, front, start, part, comma, w, r, spells) t e =
    let found = after_is frames values (constant_of word) t e in
    subst (λ (s : m.State). Behind s (words ++ (word, at) ∷ [])) (sym found.2)
    (n, front, start, part ++ (token.Comma, comma) ∷ (word, at) ∷ [], ap (λ (l : List Placed). l ++ (word, at) ∷ []) w ∙ (simp append_assoc), r, items_more spells comma word at found.0 found.1)

-- a list that is closed is an operand
closes_items : (frames : List m.Frame) (n : ℕ) (values : List Datum) (words front : List Placed) (start : ℕ) (part : List Placed) (at : ℕ) → words ≡ front ++ (token.OpenList, start) ∷ part
    → Rests (suc n) frames front → SpellsItems part values → Behind (m.listed frames values) (words ++ (token.CloseList, at) ∷ [])
closes_items frames n values words front start part at w r spells =
    settles frames (suc n) (constant (list (items_of values))) (words ++ (token.CloseList, at) ∷ []) (record {
      front = front;
      part = (token.OpenList, start) ∷ (part ++ (token.CloseList, at) ∷ []);
      is = ap (λ (l : List Placed). l ++ (token.CloseList, at) ∷ []) w ∙ append_assoc front ((token.OpenList, start) ∷ part) ((token.CloseList, at) ∷ []);
      rests = r;
      spells = primary (items at spells);
    })

closes_empty : (frames : List m.Frame) (n : ℕ) (words front : List Placed) (start at : ℕ) → words ≡ front ++ (token.OpenList, start) ∷ []
    → Rests (suc n) frames front → Behind (m.listed frames []) (words ++ (token.CloseList, at) ∷ [])
closes_empty frames n words front start at w r =
    settles frames (suc n) (constant (list (items_of []))) (words ++ (token.CloseList, at) ∷ []) (record {
      front = front;
      part = (token.OpenList, start) ∷ (token.CloseList, at) ∷ [];
      is = ap (λ (l : List Placed). l ++ (token.CloseList, at) ∷ []) w ∙ append_assoc front ((token.OpenList, start) ∷ []) ((token.CloseList, at) ∷ []);
      rests = r;
      spells = primary no_items;
    })

-- a group that is closed is an operand
closes : (joined : List m.Frame × Tree) (n : ℕ) (words : List Placed) (at : ℕ) → Stands n Disjoined joined.0 joined.1 words
    → (t : m.State) → m.closed joined ≡ Some t → Behind t (words ++ (token.CloseGroup, at) ∷ [])
closes ([], tree) n words at s t e = absurd (cc e)
closes (m.negated place ∷ frames, tree) n words at s t e = absurd (cc e)
closes (m.compared_to operator place left ∷ frames, tree) n words at s t e = absurd (cc e)
closes (m.conjoined_to place left ∷ frames, tree) n words at s t e = absurd (cc e)
closes (m.disjoined_to place left ∷ frames, tree) n words at s t e = absurd (cc e)
closes (m.grouped ∷ frames, tree) n words at s t e =
    let is : m.settled frames tree ≡ t = cc e in
    subst (λ (s : m.State). Behind s (words ++ (token.CloseGroup, at) ∷ [])) is
    (settles frames (suc n) tree (words ++ (token.CloseGroup, at) ∷ []) (record {
      front = s.rests.0;
      part = (token.OpenGroup, s.rests.1) ∷ (s.part ++ (token.CloseGroup, at) ∷ []);
      is = ap (λ (l : List Placed). l ++ (token.CloseGroup, at) ∷ []) (s.is ∙ ap (λ (l : List Placed). l ++ s.part) s.rests.2) ∙ (simp append_assoc);
      rests = s.rests.3;
      spells = primary (group at s.spells);
    }))

-- what a state of which a step is known is
same_state : (s t : m.State) (words : List Placed) → Some s ≡ Some t → Behind s words → Behind t words
same_state s t words e b = let is : s ≡ t = cc e in subst (λ (u : m.State). Behind u words) is b

operand_behind : (frames : List m.Frame) (words : List Placed) (word : Token) (at n : ℕ) → Rests n frames words → (t : m.State) → m.operand_step frames word at ≡ Some t
    → Behind t (words ++ (word, at) ∷ [])
operand_behind frames words token.Null at n r t e = takes_leaf frames n words token.Null at (leaf_of token.Null) refl r t e
operand_behind frames words (token.Bool b) at n r t e = takes_leaf frames n words (token.Bool b) at (leaf_of (token.Bool b)) refl r t e
operand_behind frames words (token.Int z) at n r t e = takes_leaf frames n words (token.Int z) at (leaf_of (token.Int z)) refl r t e
operand_behind frames words (token.Text bytes) at n r t e = takes_leaf frames n words (token.Text bytes) at (leaf_of (token.Text bytes)) refl r t e
operand_behind frames words (token.Path place) at n r t e = takes_leaf frames n words (token.Path place) at (leaf_of (token.Path place)) refl r t e
operand_behind frames words token.SeverityNumber at n r t e = takes_leaf frames n words token.SeverityNumber at (leaf_of token.SeverityNumber) refl r t e
operand_behind frames words token.SeverityText at n r t e = takes_leaf frames n words token.SeverityText at (leaf_of token.SeverityText) refl r t e
operand_behind frames words token.Not at n r t e =
    let o = opens frames n words (m.waiting (m.negated at ∷ frames)) t r e in
    subst (λ (s : m.State). Behind s (words ++ (token.Not, at) ∷ [])) o.2 (o.0, (words, refl, subst (λ (k : ℕ). Rests k frames words) o.1 r))
operand_behind frames words token.And at n r t e = absurd (cc e)
operand_behind frames words token.Or at n r t e = absurd (cc e)
operand_behind frames words (token.Compares c) at n r t e = absurd (cc e)
operand_behind frames words token.Matches at n r t e = absurd (cc e)
operand_behind frames words token.OpenGroup at n r t e =
    let o = opens frames n words (m.waiting (m.grouped ∷ frames)) t r e in
    subst (λ (s : m.State). Behind s (words ++ (token.OpenGroup, at) ∷ [])) o.2 (o.0, (words, at, refl, subst (λ (k : ℕ). Rests k frames words) o.1 r))
operand_behind frames words token.CloseGroup at n r t e = absurd (cc e)
operand_behind frames words token.OpenList at n r t e =
    let o = opens frames n words (record { phase = m.first_item; frames = frames }) t r e in
    subst (λ (s : m.State). Behind s (words ++ (token.OpenList, at) ∷ [])) o.2 (o.0, words, at, refl, subst (λ (k : ℕ). Rests k frames words) o.1 r)
operand_behind frames words token.CloseList at n r t e = absurd (cc e)
operand_behind frames words token.Comma at n r t e = absurd (cc e)

waits_and : (n at : ℕ) (joined : List m.Frame × Tree) (words : List Placed) → Stands n Conjoined joined.0 joined.1 words
    → Behind (m.waiting (m.conjoined_to at joined.1 ∷ joined.0)) (words ++ (token.And, at) ∷ [])
waits_and n at joined words s =
    (n, (s.front, s.part, ap (λ (l : List Placed). l ++ (token.And, at) ∷ []) s.is ∙ append_assoc s.front s.part ((token.And, at) ∷ []), s.spells, s.rests))

waits_or : (n at : ℕ) (joined : List m.Frame × Tree) (words : List Placed) → Stands n Disjoined joined.0 joined.1 words
    → Behind (m.waiting (m.disjoined_to at joined.1 ∷ joined.0)) (words ++ (token.Or, at) ∷ [])
waits_or n at joined words s =
    (n, (s.front, s.part, ap (λ (l : List Placed). l ++ (token.Or, at) ∷ []) s.is ∙ append_assoc s.front s.part ((token.Or, at) ∷ []), s.spells, s.rests))

waits_compared : (frames : List m.Frame) (n at : ℕ) (operator : Comparison) (tree : Tree) (words : List Placed) → Stands n Unary frames tree words
    → Behind (m.waiting (m.compared_to operator at tree ∷ frames)) (words ++ (token.Compares operator, at) ∷ [])
waits_compared frames n at operator tree words s =
    (n, (s.front, s.part, ap (λ (l : List Placed). l ++ (token.Compares operator, at) ∷ []) s.is ∙ append_assoc s.front s.part ((token.Compares operator, at) ∷ []), s.spells, s.rests))

operator_behind : (c : Bool) (frames : List m.Frame) (tree : Tree) (words : List Placed) (word : Token) (at n : ℕ) → Stands n (level_of c) frames tree words
    → (t : m.State) → m.operator_step frames tree c word at ≡ Some t → Behind t (words ++ (word, at) ∷ [])
operator_behind false frames tree words (token.Compares operator) at n s t e = same_state _ t _ e (waits_compared frames n at operator tree words s)
operator_behind true frames tree words (token.Compares operator) at n s t e = absurd (cc e)
operator_behind false frames tree words token.Matches at n s t e = same_state _ t _ e (n, words, refl, s)
operator_behind true frames tree words token.Matches at n s t e = absurd (cc e)
operator_behind false frames tree words token.And at n s t e = same_state _ t _ e (waits_and n at (m.joined_and frames tree) words (joins_and frames n tree words (as_compared false n frames tree words s)))
operator_behind true frames tree words token.And at n s t e = same_state _ t _ e (waits_and n at (m.joined_and frames tree) words (joins_and frames n tree words s))
operator_behind false frames tree words token.Or at n s t e = same_state _ t _ e (waits_or n at (m.joined frames tree) words (joins frames n tree words (as_compared false n frames tree words s)))
operator_behind true frames tree words token.Or at n s t e = same_state _ t _ e (waits_or n at (m.joined frames tree) words (joins frames n tree words s))
operator_behind false frames tree words token.CloseGroup at n s t e = closes (m.joined frames tree) n words at (joins frames n tree words (as_compared false n frames tree words s)) t e
operator_behind true frames tree words token.CloseGroup at n s t e = closes (m.joined frames tree) n words at (joins frames n tree words s) t e
operator_behind false frames tree words token.Null at n s t e = absurd (cc e)
operator_behind false frames tree words (token.Bool b) at n s t e = absurd (cc e)
operator_behind false frames tree words (token.Int z) at n s t e = absurd (cc e)
operator_behind false frames tree words (token.Text bytes) at n s t e = absurd (cc e)
operator_behind false frames tree words (token.Path place) at n s t e = absurd (cc e)
operator_behind false frames tree words token.SeverityNumber at n s t e = absurd (cc e)
operator_behind false frames tree words token.SeverityText at n s t e = absurd (cc e)
operator_behind false frames tree words token.Not at n s t e = absurd (cc e)
operator_behind false frames tree words token.OpenGroup at n s t e = absurd (cc e)
operator_behind false frames tree words token.OpenList at n s t e = absurd (cc e)
operator_behind false frames tree words token.CloseList at n s t e = absurd (cc e)
operator_behind false frames tree words token.Comma at n s t e = absurd (cc e)
operator_behind true frames tree words token.Null at n s t e = absurd (cc e)
operator_behind true frames tree words (token.Bool b) at n s t e = absurd (cc e)
operator_behind true frames tree words (token.Int z) at n s t e = absurd (cc e)
operator_behind true frames tree words (token.Text bytes) at n s t e = absurd (cc e)
operator_behind true frames tree words (token.Path place) at n s t e = absurd (cc e)
operator_behind true frames tree words token.SeverityNumber at n s t e = absurd (cc e)
operator_behind true frames tree words token.SeverityText at n s t e = absurd (cc e)
operator_behind true frames tree words token.Not at n s t e = absurd (cc e)
operator_behind true frames tree words token.OpenGroup at n s t e = absurd (cc e)
operator_behind true frames tree words token.OpenList at n s t e = absurd (cc e)
operator_behind true frames tree words token.CloseList at n s t e = absurd (cc e)
operator_behind true frames tree words token.Comma at n s t e = absurd (cc e)

pattern_behind : (frames : List m.Frame) (place : ℕ) (left : Tree) (words : List Placed) (word : Token) (at : ℕ) → BehindPhase (m.wants_pattern place left) frames words
    → (t : m.State) → m.pattern_step frames place left word ≡ Some t → Behind t (words ++ (word, at) ∷ [])
pattern_behind frames place left words token.Null at b t e = absurd (cc e)
pattern_behind frames place left words (token.Bool v) at b t e = absurd (cc e)
pattern_behind frames place left words (token.Int z) at b t e = absurd (cc e)
pattern_behind frames place left words (token.Text bytes) at (n, front, w, s) t e = same_state _ t _ e (
  n,
  record {
    front = s.front;
    part = s.part ++ (token.Matches, place) ∷ (token.Text bytes, at) ∷ [];
    is = ap (λ (l : List Placed). l ++ (token.Text bytes, at) ∷ []) (w ∙ ap (λ (l : List Placed). l ++ (token.Matches, place) ∷ []) s.is) ∙ (simp append_assoc);
    rests = s.rests;
    spells = matches place at bytes s.spells;
  },
)
pattern_behind frames place left words (token.Path names) at b t e = absurd (cc e)
pattern_behind frames place left words token.SeverityNumber at b t e = absurd (cc e)
pattern_behind frames place left words token.SeverityText at b t e = absurd (cc e)
pattern_behind frames place left words token.Not at b t e = absurd (cc e)
pattern_behind frames place left words token.And at b t e = absurd (cc e)
pattern_behind frames place left words token.Or at b t e = absurd (cc e)
pattern_behind frames place left words (token.Compares c) at b t e = absurd (cc e)
pattern_behind frames place left words token.Matches at b t e = absurd (cc e)
pattern_behind frames place left words token.OpenGroup at b t e = absurd (cc e)
pattern_behind frames place left words token.CloseGroup at b t e = absurd (cc e)
pattern_behind frames place left words token.OpenList at b t e = absurd (cc e)
pattern_behind frames place left words token.CloseList at b t e = absurd (cc e)
pattern_behind frames place left words token.Comma at b t e = absurd (cc e)

first_behind : (frames : List m.Frame) (words : List Placed) (word : Token) (at : ℕ) → BehindPhase m.first_item frames words
    → (t : m.State) → m.first_item_step frames word ≡ Some t → Behind t (words ++ (word, at) ∷ [])
first_behind frames words token.Null at (n, front, start, w, r) t e = takes_first frames n words front start token.Null at w r t e
first_behind frames words (token.Bool b) at (n, front, start, w, r) t e = takes_first frames n words front start (token.Bool b) at w r t e
first_behind frames words (token.Int z) at (n, front, start, w, r) t e = takes_first frames n words front start (token.Int z) at w r t e
first_behind frames words (token.Text bytes) at (n, front, start, w, r) t e = takes_first frames n words front start (token.Text bytes) at w r t e
first_behind frames words (token.Path place) at (n, front, start, w, r) t e = takes_first frames n words front start (token.Path place) at w r t e
first_behind frames words token.SeverityNumber at (n, front, start, w, r) t e = takes_first frames n words front start token.SeverityNumber at w r t e
first_behind frames words token.SeverityText at (n, front, start, w, r) t e = takes_first frames n words front start token.SeverityText at w r t e
first_behind frames words token.Not at (n, front, start, w, r) t e = takes_first frames n words front start token.Not at w r t e
first_behind frames words token.And at (n, front, start, w, r) t e = takes_first frames n words front start token.And at w r t e
first_behind frames words token.Or at (n, front, start, w, r) t e = takes_first frames n words front start token.Or at w r t e
first_behind frames words (token.Compares c) at (n, front, start, w, r) t e = takes_first frames n words front start (token.Compares c) at w r t e
first_behind frames words token.Matches at (n, front, start, w, r) t e = takes_first frames n words front start token.Matches at w r t e
first_behind frames words token.OpenGroup at (n, front, start, w, r) t e = takes_first frames n words front start token.OpenGroup at w r t e
first_behind frames words token.CloseGroup at (n, front, start, w, r) t e = takes_first frames n words front start token.CloseGroup at w r t e
first_behind frames words token.OpenList at (n, front, start, w, r) t e = takes_first frames n words front start token.OpenList at w r t e
first_behind frames words token.CloseList at (n, front, start, w, r) t e = same_state _ t _ e (closes_empty frames n words front start at w r)
first_behind frames words token.Comma at (n, front, start, w, r) t e = takes_first frames n words front start token.Comma at w r t e

after_behind : (frames : List m.Frame) (values : List Datum) (words : List Placed) (word : Token) (at : ℕ) → BehindPhase (m.after_item values) frames words
    → (t : m.State) → m.after_item_step frames values word ≡ Some t → Behind t (words ++ (word, at) ∷ [])
after_behind frames values words token.Null at b t e = absurd (cc e)
after_behind frames values words (token.Bool v) at b t e = absurd (cc e)
after_behind frames values words (token.Int z) at b t e = absurd (cc e)
after_behind frames values words (token.Text bytes) at b t e = absurd (cc e)
after_behind frames values words (token.Path place) at b t e = absurd (cc e)
after_behind frames values words token.SeverityNumber at b t e = absurd (cc e)
after_behind frames values words token.SeverityText at b t e = absurd (cc e)
after_behind frames values words token.Not at b t e = absurd (cc e)
after_behind frames values words token.And at b t e = absurd (cc e)
after_behind frames values words token.Or at b t e = absurd (cc e)
after_behind frames values words (token.Compares c) at b t e = absurd (cc e)
after_behind frames values words token.Matches at b t e = absurd (cc e)
after_behind frames values words token.OpenGroup at b t e = absurd (cc e)
after_behind frames values words token.CloseGroup at b t e = absurd (cc e)
after_behind frames values words token.OpenList at b t e = absurd (cc e)
after_behind frames values words token.CloseList at (n, front, start, part, w, r, spells) t e = same_state _ t _ e (closes_items frames n values words front start part at w r spells)
after_behind frames values words token.Comma at (n, front, start, part, w, r, spells) t e =
    same_state _ t _ e (n, front, start, part, at, ap (λ (l : List Placed). l ++ (token.Comma, at) ∷ []) w ∙ append_assoc front ((token.OpenList, start) ∷ part) ((token.Comma, at) ∷ []), r, spells)

pub step_behind : (phase : m.Phase) (frames : List m.Frame) (words : List Placed) (word : Token) (at : ℕ) → BehindPhase phase frames words
    → (t : m.State) → m.step_from phase frames word at ≡ Some t → Behind t (words ++ (word, at) ∷ [])
step_behind m.wants_operand frames words word at b t e = operand_behind frames words word at b.0 b.1 t e
step_behind (m.has_operand tree c) frames words word at b t e = operator_behind c frames tree words word at b.0 b.1 t e
step_behind (m.wants_pattern place left) frames words word at b t e = pattern_behind frames place left words word at b t e
step_behind m.first_item frames words word at b t e = first_behind frames words word at b t e
step_behind (m.next_item values) frames words word at b t e = takes_next frames values words word at b t e
step_behind (m.after_item values) frames words word at b t e = after_behind frames values words word at b t e

whole : (joined : List m.Frame × Tree) (n : ℕ) (words : List Placed) (tree : Tree) → Stands n Disjoined joined.0 joined.1 words → m.ended joined ≡ Some tree → Spells 32 Disjoined words tree
whole ([], made) n words tree s e =
    let same : made ≡ tree = cc e in
    let words_are : words ≡ s.part = s.is ∙ ap (λ (l : List Placed). l ++ s.part) s.rests.0 in
    subst (λ (t : Tree). Spells 32 Disjoined words t) same
    (subst (λ (l : List Placed). Spells 32 Disjoined l made) (sym words_are) (subst (λ (k : ℕ). Spells k Disjoined s.part made) s.rests.1 s.spells))
whole (frame ∷ frames, made) n words tree s e = absurd (cc e)

tree_behind : (phase : m.Phase) (frames : List m.Frame) (words : List Placed) (tree : Tree) → BehindPhase phase frames words → m.tree_from phase frames ≡ Some tree → Spells 32 Disjoined words tree
tree_behind m.wants_operand frames words tree b e = absurd (cc e)
tree_behind (m.has_operand made c) frames words tree b e = whole (m.joined frames made) b.0 words tree (joins frames b.0 made words (as_compared c b.0 frames made words b.1)) e
tree_behind (m.wants_pattern place left) frames words tree b e = absurd (cc e)
tree_behind m.first_item frames words tree b e = absurd (cc e)
tree_behind (m.next_item values) frames words tree b e = absurd (cc e)
tree_behind (m.after_item values) frames words tree b e = absurd (cc e)

row_behind : (row : List Placed) (s : m.State) (words : List Placed) (tree : Tree) → Behind s words → m.finished s row ≡ Some tree → Spells 32 Disjoined (words ++ row) tree
row_behind [] s words tree b e = subst (λ (l : List Placed). Spells 32 Disjoined l tree) (sym (append-nil words)) (tree_behind s.phase s.frames words tree b e)
row_behind (placed ∷ row) s words tree b e = by (m.step s placed.0 placed.1) refl e (λ t h k. row_behind row t (words ++ placed ∷ []) tree h k)
  where
    by : (o : Option m.State) → m.step s placed.0 placed.1 ≡ o → option_and_then (λ (t : m.State). m.finished t row) o ≡ Some tree
        → ((t : m.State) → Behind t (words ++ placed ∷ []) → m.finished t row ≡ Some tree → Spells 32 Disjoined ((words ++ placed ∷ []) ++ row) tree)
        → Spells 32 Disjoined (words ++ placed ∷ row) tree
    by None k e rec = absurd (cc e)
    by (Some t) k e rec =
        subst (λ (l : List Placed). Spells 32 Disjoined l tree) (append_assoc words (placed ∷ []) row)
        (rec t (step_behind s.phase s.frames words placed.0 placed.1 b t k) e)

pub spelled : (row : List Placed) (tree : Tree) → m.finished m.start row ≡ Some tree → Spells 32 Disjoined row tree
spelled row tree e = row_behind row m.start [] tree (32, (refl, refl)) e
