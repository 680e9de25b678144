-- Each pattern that was read is in the tree.
use Rattle.std.proofs.Common.{◌≡◌, ℕ, List, [], ◌∷◌, ◌++◌, ◌∙◌, sym, refl, subst, length, drop, Option, None, Some, option_and_then, Bool, true, false, cond, nat_lt, true≢false, ◌<◌}
use Rattle.entry_model.specs.Datum.{Datum, list, items_of}
use Rattle.expr_lang.specs.declared.token.Token.{Token}
use Rattle.expr_lang.specs.declared.token.Token.TheVariants as token
use Rattle.expr_lang.specs.Grammar.{HavePatterns, leaf_of, constant_of}
use Rattle.expr_lang.specs.Machine as m
use Rattle.expr_lang.specs.Patterns.{is_pattern}
use Rattle.expr_lang.specs.Inner.Reads.{Reads}
use Rattle.expr_lang.specs.Row.{Placed, IsToken}
use Rattle.expr_lang.specs.Tree.{Tree, constant, negation, matching}
use Rattle.expr_lang.proofs.Reading.{Follows, reads_word}

abbrev pub FramesHave : List m.Frame → Type 0
FramesHave [] = Unit {0}
FramesHave (m.grouped ∷ frames) = FramesHave frames
FramesHave (m.negated at ∷ frames) = FramesHave frames
FramesHave (m.compared_to operator at left ∷ frames) = HavePatterns left × FramesHave frames
FramesHave (m.conjoined_to at left ∷ frames) = HavePatterns left × FramesHave frames
FramesHave (m.disjoined_to at left ∷ frames) = HavePatterns left × FramesHave frames

abbrev pub PhaseHas : m.Phase → List m.Frame → Type 0
PhaseHas (m.has_operand tree c) frames = HavePatterns tree × FramesHave frames
PhaseHas (m.wants_pattern at left) frames = HavePatterns left × FramesHave frames
PhaseHas m.wants_operand frames = FramesHave frames
PhaseHas m.first_item frames = FramesHave frames
PhaseHas (m.next_item values) frames = FramesHave frames
PhaseHas (m.after_item values) frames = FramesHave frames

abbrev pub Has : m.State → Type 0
Has s = PhaseHas s.phase s.frames

has_same : (s t : m.State) → Some s ≡ Some t → Has t → Has s
has_same s t e h = let is : s ≡ t = cc e in subst Has (sym is) h

of_settled : (frames : List m.Frame) (tree : Tree) → Has (m.settled frames tree) → HavePatterns tree × FramesHave frames
of_settled [] tree h = h
of_settled (m.grouped ∷ frames) tree h = h
of_settled (m.negated at ∷ frames) tree h = of_settled frames (negation at tree) h
of_settled (m.compared_to operator at left ∷ frames) tree h = (h.0.1, (h.0.0, h.1))
of_settled (m.conjoined_to at left ∷ frames) tree h = h
of_settled (m.disjoined_to at left ∷ frames) tree h = h

abbrev JoinHas : List m.Frame × Tree → Type 0
JoinHas joined = HavePatterns joined.1 × FramesHave joined.0

of_joined_and : (frames : List m.Frame) (tree : Tree) → JoinHas (m.joined_and frames tree) → HavePatterns tree × FramesHave frames
of_joined_and [] tree h = h
of_joined_and (m.grouped ∷ frames) tree h = h
of_joined_and (m.negated at ∷ frames) tree h = h
of_joined_and (m.compared_to operator at left ∷ frames) tree h = h
of_joined_and (m.conjoined_to at left ∷ frames) tree h = (h.0.1, (h.0.0, h.1))
of_joined_and (m.disjoined_to at left ∷ frames) tree h = h

of_joined_or : (frames : List m.Frame) (tree : Tree) → JoinHas (m.joined_or frames tree) → HavePatterns tree × FramesHave frames
of_joined_or [] tree h = h
of_joined_or (m.grouped ∷ frames) tree h = h
of_joined_or (m.negated at ∷ frames) tree h = h
of_joined_or (m.compared_to operator at left ∷ frames) tree h = h
of_joined_or (m.conjoined_to at left ∷ frames) tree h = h
of_joined_or (m.disjoined_to at left ∷ frames) tree h = (h.0.1, (h.0.0, h.1))

of_joined : (frames : List m.Frame) (tree : Tree) → JoinHas (m.joined frames tree) → HavePatterns tree × FramesHave frames
of_joined frames tree h = of_joined_and frames tree (of_joined_or (m.joined_and frames tree).0 (m.joined_and frames tree).1 h)

of_closed : (joined : List m.Frame × Tree) (t : m.State) → m.closed joined ≡ Some t → Has t → JoinHas joined
of_closed ([], tree) t e h = absurd (cc e)
of_closed (m.negated place ∷ frames, tree) t e h = absurd (cc e)
of_closed (m.compared_to operator place left ∷ frames, tree) t e h = absurd (cc e)
of_closed (m.conjoined_to place left ∷ frames, tree) t e h = absurd (cc e)
of_closed (m.disjoined_to place left ∷ frames, tree) t e h = absurd (cc e)
of_closed (m.grouped ∷ frames, tree) t e h = of_settled frames tree (has_same (m.settled frames tree) t e h)

of_leaf : (frames : List m.Frame) (o : Option Tree) (t : m.State) → m.leaf_next frames o ≡ Some t → Has t → FramesHave frames
of_leaf frames None t e h = absurd (cc e)
of_leaf frames (Some tree) t e h = (of_settled frames tree (has_same (m.settled frames tree) t e h)).1

of_opened : (frames : List m.Frame) (inner t : m.State) → m.opened frames inner ≡ Some t → Has t → Has inner
of_opened frames inner t e h = by (nat_lt (m.depth frames) 32) e
  where
    by : (b : Bool) → cond b (Some inner) None ≡ Some t → Has inner
    by true e = has_same inner t e h
    by false e = absurd (cc e)

of_item : (frames : List m.Frame) (values : List Datum) (o : Option Datum) (t : m.State) → m.item_next frames values o ≡ Some t → Has t → FramesHave frames
of_item frames values None t e h = absurd (cc e)
of_item frames values (Some value) t e h = has_same (record { phase = m.after_item (values ++ value ∷ []); frames = frames }) t e h

of_operand : (frames : List m.Frame) (word : Token) (at : ℕ) (t : m.State) → m.operand_step frames word at ≡ Some t → Has t → FramesHave frames
of_operand frames token.Null at t e h = of_leaf frames (leaf_of token.Null) t e h
of_operand frames (token.Bool v) at t e h = of_leaf frames (leaf_of (token.Bool v)) t e h
of_operand frames (token.Int z) at t e h = of_leaf frames (leaf_of (token.Int z)) t e h
of_operand frames (token.Text bytes) at t e h = of_leaf frames (leaf_of (token.Text bytes)) t e h
of_operand frames (token.Path names) at t e h = of_leaf frames (leaf_of (token.Path names)) t e h
of_operand frames token.SeverityNumber at t e h = of_leaf frames (leaf_of token.SeverityNumber) t e h
of_operand frames token.SeverityText at t e h = of_leaf frames (leaf_of token.SeverityText) t e h
of_operand frames token.Not at t e h = of_opened frames (m.waiting (m.negated at ∷ frames)) t e h
of_operand frames token.And at t e h = of_leaf frames (leaf_of token.And) t e h
of_operand frames token.Or at t e h = of_leaf frames (leaf_of token.Or) t e h
of_operand frames (token.Compares op) at t e h = of_leaf frames (leaf_of (token.Compares op)) t e h
of_operand frames token.Matches at t e h = of_leaf frames (leaf_of token.Matches) t e h
of_operand frames token.OpenGroup at t e h = of_opened frames (m.waiting (m.grouped ∷ frames)) t e h
of_operand frames token.CloseGroup at t e h = of_leaf frames (leaf_of token.CloseGroup) t e h
of_operand frames token.OpenList at t e h = of_opened frames (record { phase = m.first_item; frames = frames }) t e h
of_operand frames token.CloseList at t e h = of_leaf frames (leaf_of token.CloseList) t e h
of_operand frames token.Comma at t e h = of_leaf frames (leaf_of token.Comma) t e h

of_operator : (c : Bool) (frames : List m.Frame) (tree : Tree) (word : Token) (at : ℕ) (t : m.State) → m.operator_step frames tree c word at ≡ Some t → Has t → HavePatterns tree × FramesHave frames
of_operator false frames tree (token.Compares op) at t e h = has_same (m.waiting (m.compared_to op at tree ∷ frames)) t e h
of_operator true frames tree (token.Compares op) at t e h = absurd (cc e)
of_operator false frames tree token.Matches at t e h = has_same (record { phase = m.wants_pattern at tree; frames = frames }) t e h
of_operator true frames tree token.Matches at t e h = absurd (cc e)
of_operator false frames tree token.And at t e h = of_joined_and frames tree (has_same (m.waiting (m.conjoined_to at (m.joined_and frames tree).1 ∷ (m.joined_and frames tree).0)) t e h)
of_operator false frames tree token.Or at t e h = of_joined frames tree (has_same (m.waiting (m.disjoined_to at (m.joined frames tree).1 ∷ (m.joined frames tree).0)) t e h)
of_operator false frames tree token.CloseGroup at t e h = of_joined frames tree (of_closed (m.joined frames tree) t e h)
of_operator false frames tree token.Null at t e h = absurd (cc e)
of_operator false frames tree (token.Bool v) at t e h = absurd (cc e)
of_operator false frames tree (token.Int z) at t e h = absurd (cc e)
of_operator false frames tree (token.Text bytes) at t e h = absurd (cc e)
of_operator false frames tree (token.Path names) at t e h = absurd (cc e)
of_operator false frames tree token.SeverityNumber at t e h = absurd (cc e)
of_operator false frames tree token.SeverityText at t e h = absurd (cc e)
of_operator false frames tree token.Not at t e h = absurd (cc e)
of_operator false frames tree token.OpenGroup at t e h = absurd (cc e)
of_operator false frames tree token.OpenList at t e h = absurd (cc e)
of_operator false frames tree token.CloseList at t e h = absurd (cc e)
of_operator false frames tree token.Comma at t e h = absurd (cc e)
of_operator true frames tree token.And at t e h = of_joined_and frames tree (has_same (m.waiting (m.conjoined_to at (m.joined_and frames tree).1 ∷ (m.joined_and frames tree).0)) t e h)
of_operator true frames tree token.Or at t e h = of_joined frames tree (has_same (m.waiting (m.disjoined_to at (m.joined frames tree).1 ∷ (m.joined frames tree).0)) t e h)
of_operator true frames tree token.CloseGroup at t e h = of_joined frames tree (of_closed (m.joined frames tree) t e h)
of_operator true frames tree token.Null at t e h = absurd (cc e)
of_operator true frames tree (token.Bool v) at t e h = absurd (cc e)
of_operator true frames tree (token.Int z) at t e h = absurd (cc e)
of_operator true frames tree (token.Text bytes) at t e h = absurd (cc e)
of_operator true frames tree (token.Path names) at t e h = absurd (cc e)
of_operator true frames tree token.SeverityNumber at t e h = absurd (cc e)
of_operator true frames tree token.SeverityText at t e h = absurd (cc e)
of_operator true frames tree token.Not at t e h = absurd (cc e)
of_operator true frames tree token.OpenGroup at t e h = absurd (cc e)
of_operator true frames tree token.OpenList at t e h = absurd (cc e)
of_operator true frames tree token.CloseList at t e h = absurd (cc e)
of_operator true frames tree token.Comma at t e h = absurd (cc e)

of_pattern : (frames : List m.Frame) (place : ℕ) (left : Tree) (word : Token) (t : m.State) → m.pattern_step frames place left word ≡ Some t → Has t → HavePatterns left × FramesHave frames
of_pattern frames place left token.Null t e h = absurd (cc e)
of_pattern frames place left (token.Bool v) t e h = absurd (cc e)
of_pattern frames place left (token.Int z) t e h = absurd (cc e)
of_pattern frames place left (token.Text bytes) t e h =
    let k = has_same (m.standing frames (matching place left bytes) true) t e h in (k.0.0, k.1)
of_pattern frames place left (token.Path names) t e h = absurd (cc e)
of_pattern frames place left token.SeverityNumber t e h = absurd (cc e)
of_pattern frames place left token.SeverityText t e h = absurd (cc e)
of_pattern frames place left token.Not t e h = absurd (cc e)
of_pattern frames place left token.And t e h = absurd (cc e)
of_pattern frames place left token.Or t e h = absurd (cc e)
of_pattern frames place left (token.Compares op) t e h = absurd (cc e)
of_pattern frames place left token.Matches t e h = absurd (cc e)
of_pattern frames place left token.OpenGroup t e h = absurd (cc e)
of_pattern frames place left token.CloseGroup t e h = absurd (cc e)
of_pattern frames place left token.OpenList t e h = absurd (cc e)
of_pattern frames place left token.CloseList t e h = absurd (cc e)
of_pattern frames place left token.Comma t e h = absurd (cc e)

of_first : (frames : List m.Frame) (word : Token) (t : m.State) → m.first_item_step frames word ≡ Some t → Has t → FramesHave frames
of_first frames token.Null t e h = of_item frames [] (constant_of token.Null) t e h
of_first frames (token.Bool v) t e h = of_item frames [] (constant_of (token.Bool v)) t e h
of_first frames (token.Int z) t e h = of_item frames [] (constant_of (token.Int z)) t e h
of_first frames (token.Text bytes) t e h = of_item frames [] (constant_of (token.Text bytes)) t e h
of_first frames (token.Path names) t e h = of_item frames [] (constant_of (token.Path names)) t e h
of_first frames token.SeverityNumber t e h = of_item frames [] (constant_of token.SeverityNumber) t e h
of_first frames token.SeverityText t e h = of_item frames [] (constant_of token.SeverityText) t e h
of_first frames token.Not t e h = of_item frames [] (constant_of token.Not) t e h
of_first frames token.And t e h = of_item frames [] (constant_of token.And) t e h
of_first frames token.Or t e h = of_item frames [] (constant_of token.Or) t e h
of_first frames (token.Compares op) t e h = of_item frames [] (constant_of (token.Compares op)) t e h
of_first frames token.Matches t e h = of_item frames [] (constant_of token.Matches) t e h
of_first frames token.OpenGroup t e h = of_item frames [] (constant_of token.OpenGroup) t e h
of_first frames token.CloseGroup t e h = of_item frames [] (constant_of token.CloseGroup) t e h
of_first frames token.OpenList t e h = of_item frames [] (constant_of token.OpenList) t e h
of_first frames token.CloseList t e h = (of_settled frames (constant (list (items_of []))) (has_same (m.listed frames []) t e h)).1
of_first frames token.Comma t e h = of_item frames [] (constant_of token.Comma) t e h

of_after : (frames : List m.Frame) (values : List Datum) (word : Token) (t : m.State) → m.after_item_step frames values word ≡ Some t → Has t → FramesHave frames
of_after frames values token.Null t e h = absurd (cc e)
of_after frames values (token.Bool v) t e h = absurd (cc e)
of_after frames values (token.Int z) t e h = absurd (cc e)
of_after frames values (token.Text bytes) t e h = absurd (cc e)
of_after frames values (token.Path names) t e h = absurd (cc e)
of_after frames values token.SeverityNumber t e h = absurd (cc e)
of_after frames values token.SeverityText t e h = absurd (cc e)
of_after frames values token.Not t e h = absurd (cc e)
of_after frames values token.And t e h = absurd (cc e)
of_after frames values token.Or t e h = absurd (cc e)
of_after frames values (token.Compares op) t e h = absurd (cc e)
of_after frames values token.Matches t e h = absurd (cc e)
of_after frames values token.OpenGroup t e h = absurd (cc e)
of_after frames values token.CloseGroup t e h = absurd (cc e)
of_after frames values token.OpenList t e h = absurd (cc e)
of_after frames values token.CloseList t e h = (of_settled frames (constant (list (items_of values))) (has_same (m.listed frames values) t e h)).1
of_after frames values token.Comma t e h = has_same (record { phase = m.next_item values; frames = frames }) t e h

pub of_step : (phase : m.Phase) (frames : List m.Frame) (word : Token) (at : ℕ) (t : m.State) → m.step_from phase frames word at ≡ Some t → Has t → PhaseHas phase frames
of_step m.wants_operand frames word at t e h = of_operand frames word at t e h
of_step (m.has_operand tree c) frames word at t e h = of_operator c frames tree word at t e h
of_step (m.wants_pattern place left) frames word at t e h = of_pattern frames place left word t e h
of_step m.first_item frames word at t e h = of_first frames word t e h
of_step (m.next_item values) frames word at t e h = of_item frames values (constant_of word) t e h
of_step (m.after_item values) frames word at t e h = of_after frames values word t e h

of_ended : (joined : List m.Frame × Tree) (tree : Tree) → m.ended joined ≡ Some tree → HavePatterns tree → JoinHas joined
of_ended ([], made) tree e h = let is : made ≡ tree = cc e in (subst HavePatterns (sym is) h, tt)
of_ended (frame ∷ frames, made) tree e h = absurd (cc e)

pub of_tree : (phase : m.Phase) (frames : List m.Frame) (tree : Tree) → m.tree_from phase frames ≡ Some tree → HavePatterns tree → PhaseHas phase frames
of_tree m.wants_operand frames tree e h = absurd (cc e)
of_tree (m.has_operand made c) frames tree e h = of_joined frames made (of_ended (m.joined frames made) tree e h)
of_tree (m.wants_pattern place left) frames tree e h = absurd (cc e)
of_tree m.first_item frames tree e h = absurd (cc e)
of_tree (m.next_item values) frames tree e h = absurd (cc e)
of_tree (m.after_item values) frames tree e h = absurd (cc e)

of_row : (row : List Placed) (s : m.State) (tree : Tree) → m.finished s row ≡ Some tree → HavePatterns tree → Has s
of_row [] s tree e h = of_tree s.phase s.frames tree e h
of_row (placed ∷ row) s tree e h = by (m.step s placed.0 placed.1) refl e (λ t k. of_row row t tree k h)
  where
    by : (o : Option m.State) → m.step s placed.0 placed.1 ≡ o → option_and_then (λ (t : m.State). m.finished t row) o ≡ Some tree
        → ((t : m.State) → m.finished t row ≡ Some tree → Has t) → Has s
    by None k e rec = absurd (cc e)
    by (Some t) k e rec = of_step s.phase s.frames placed.0 placed.1 t k (rec t e)

-- a text that is no pattern, where one is wanted, is in no tree
none_from : (phase : m.Phase) (frames : List m.Frame) (operator : ℕ) (left : Tree) (source : List ℕ) (at : ℕ) (row : List Placed) (tree : Tree) → phase ≡ m.wants_pattern operator left
    → is_pattern source ≡ false → m.finished (record { phase = phase; frames = frames }) ((token.Text source, at) ∷ row) ≡ Some tree → HavePatterns tree → ⊥
none_from phase frames operator left source at row tree p n e h =
    let there = subst (λ (q : m.Phase). m.finished (record { phase = q; frames = frames }) ((token.Text source, at) ∷ row) ≡ Some tree) p e in
    let has = of_row row (m.standing frames (matching operator left source) true) tree there h in
    true≢false (sym has.0.1 ∙ n)

pub no_tree_with : (text : List ℕ) (at : ℕ) (s : m.State) → Follows text at s → at < length text → (operator : ℕ) (left : Tree) → s.phase ≡ m.wants_pattern operator left
    → (w : Token) (n : ℕ) → IsToken (drop at text) w n → (source : List ℕ) → w ≡ token.Text source → is_pattern source ≡ false
    → (tree : Tree) → Reads text 0 m.start tree → HavePatterns tree → ⊥
no_tree_with text at s follows inside operator left p w n is source k none tree r h =
    let read = reads_word text at follows.past inside s tree (follows.onward tree r) w n is in
    none_from s.phase s.frames operator left source at read.0 tree p none (subst (λ (u : Token). m.finished s ((u, at) ∷ read.0) ≡ Some tree) k read.1) h
