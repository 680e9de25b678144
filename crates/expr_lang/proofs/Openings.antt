-- The words that were read can go on.
use Rattle.std.proofs.Common.{◌≡◌, ℕ, suc, ◌+◌, List, [], ◌∷◌, ◌++◌, ◌∙◌, ap, sym, refl, subst, drop, Option, None, Some, option_and_then, Bool, true, false, cond, nat_lt, append_assoc}
use Rattle.std.proofs.lemmas.List.{append-nil}
use Rattle.entry_model.specs.Datum.{Datum, null, list, items_of}
use Rattle.expr_lang.specs.declared.token.Comparison.{Comparison}
use Rattle.expr_lang.specs.declared.token.Token.{Token}
use Rattle.expr_lang.specs.declared.token.Token.TheVariants as token
use Rattle.expr_lang.specs.Fault.{IsFront, Opens}
use Rattle.expr_lang.specs.Grammar.{leaf_of, constant_of, Level, Primary, Unary, Compared, Conjoined, Disjoined, Spells, primary, negated, unary, compares, compared, and, conjoined, or, group}
use Rattle.expr_lang.specs.Machine as m
use Rattle.expr_lang.specs.Row.{Placed, IsToken, past_blanks}
use Rattle.expr_lang.specs.Tree.{Tree, constant, negation, conjunction, disjunction, comparison, matching}
use Rattle.expr_lang.proofs.Complete.{finishes}
use Rattle.expr_lang.proofs.Sound.{Stands, Behind, BehindPhase, level_of, step_behind}

-- the levels that may stand behind the frames
abbrev pub takes : List m.Frame → Level → Bool
takes [] level = true
takes (m.grouped ∷ frames) level = true
takes (m.negated at ∷ frames) Primary = true
takes (m.negated at ∷ frames) Unary = true
takes (m.negated at ∷ frames) level = false
takes (m.compared_to operator at left ∷ frames) Primary = true
takes (m.compared_to operator at left ∷ frames) Unary = true
takes (m.compared_to operator at left ∷ frames) level = false
takes (m.conjoined_to at left ∷ frames) Conjoined = false
takes (m.conjoined_to at left ∷ frames) Disjoined = false
takes (m.conjoined_to at left ∷ frames) level = true
takes (m.disjoined_to at left ∷ frames) Disjoined = false
takes (m.disjoined_to at left ∷ frames) level = true

-- each frame stands where its level may stand
abbrev pub Ranked : List m.Frame → Type 0
Ranked [] = Unit {0}
Ranked (m.grouped ∷ frames) = Ranked frames
Ranked (m.negated at ∷ frames) = Ranked frames
Ranked (m.compared_to operator at left ∷ frames) = (takes frames Compared ≡ true) × Ranked frames
Ranked (m.conjoined_to at left ∷ frames) = (takes frames Conjoined ≡ true) × Ranked frames
Ranked (m.disjoined_to at left ∷ frames) = (takes frames Disjoined ≡ true) × Ranked frames

abbrev pub FinePhase : m.Phase → List m.Frame → Type 0
FinePhase (m.has_operand tree c) frames = (takes frames Compared ≡ true) × Ranked frames
FinePhase (m.wants_pattern at left) frames = (takes frames Compared ≡ true) × Ranked frames
FinePhase m.wants_operand frames = Ranked frames
FinePhase m.first_item frames = Ranked frames
FinePhase (m.next_item values) frames = Ranked frames
FinePhase (m.after_item values) frames = Ranked frames

abbrev pub Fine : m.State → Type 0
Fine s = FinePhase s.phase s.frames

fine_same : (s t : m.State) → Some s ≡ Some t → Fine s → Fine t
fine_same s t e f = let is : s ≡ t = cc e in subst Fine is f

settles_fine : (frames : List m.Frame) (tree : Tree) → Ranked frames → Fine (m.settled frames tree)
settles_fine [] tree r = (refl, r)
settles_fine (m.grouped ∷ frames) tree r = (refl, r)
settles_fine (m.negated at ∷ frames) tree r = settles_fine frames (negation at tree) r
settles_fine (m.compared_to operator at left ∷ frames) tree r = r
settles_fine (m.conjoined_to at left ∷ frames) tree r = (refl, r)
settles_fine (m.disjoined_to at left ∷ frames) tree r = (refl, r)

joins_and_fine : (frames : List m.Frame) (tree : Tree) → takes frames Compared ≡ true → Ranked frames → (takes (m.joined_and frames tree).0 Conjoined ≡ true) × Ranked (m.joined_and frames tree).0
joins_and_fine [] tree t r = (refl, r)
joins_and_fine (m.grouped ∷ frames) tree t r = (refl, r)
joins_and_fine (m.negated at ∷ frames) tree t r = absurd (cc t)
joins_and_fine (m.compared_to operator at left ∷ frames) tree t r = absurd (cc t)
joins_and_fine (m.conjoined_to at left ∷ frames) tree t r = r
joins_and_fine (m.disjoined_to at left ∷ frames) tree t r = (refl, r)

joins_or_fine : (frames : List m.Frame) (tree : Tree) → takes frames Conjoined ≡ true → Ranked frames → (takes (m.joined_or frames tree).0 Disjoined ≡ true) × Ranked (m.joined_or frames tree).0
joins_or_fine [] tree t r = (refl, r)
joins_or_fine (m.grouped ∷ frames) tree t r = (refl, r)
joins_or_fine (m.negated at ∷ frames) tree t r = absurd (cc t)
joins_or_fine (m.compared_to operator at left ∷ frames) tree t r = absurd (cc t)
joins_or_fine (m.conjoined_to at left ∷ frames) tree t r = absurd (cc t)
joins_or_fine (m.disjoined_to at left ∷ frames) tree t r = r

joins_fine : (frames : List m.Frame) (tree : Tree) → takes frames Compared ≡ true → Ranked frames → (takes (m.joined frames tree).0 Disjoined ≡ true) × Ranked (m.joined frames tree).0
joins_fine frames tree t r = let k = joins_and_fine frames tree t r in joins_or_fine (m.joined_and frames tree).0 (m.joined_and frames tree).1 k.0 k.1

closes_fine : (joined : List m.Frame × Tree) (t : m.State) → Ranked joined.0 → m.closed joined ≡ Some t → Fine t
closes_fine ([], tree) t r e = absurd (cc e)
closes_fine (m.negated place ∷ frames, tree) t r e = absurd (cc e)
closes_fine (m.compared_to operator place left ∷ frames, tree) t r e = absurd (cc e)
closes_fine (m.conjoined_to place left ∷ frames, tree) t r e = absurd (cc e)
closes_fine (m.disjoined_to place left ∷ frames, tree) t r e = absurd (cc e)
closes_fine (m.grouped ∷ frames, tree) t r e = fine_same (m.settled frames tree) t e (settles_fine frames tree r)

leaf_fine : (frames : List m.Frame) (o : Option Tree) (t : m.State) → Ranked frames → m.leaf_next frames o ≡ Some t → Fine t
leaf_fine frames None t r e = absurd (cc e)
leaf_fine frames (Some tree) t r e = fine_same (m.settled frames tree) t e (settles_fine frames tree r)

opens_fine : (frames : List m.Frame) (inner t : m.State) → Fine inner → m.opened frames inner ≡ Some t → Fine t
opens_fine frames inner t f e = by (nat_lt (m.depth frames) 32) e
  where
    by : (b : Bool) → cond b (Some inner) None ≡ Some t → Fine t
    by true e = fine_same inner t e f
    by false e = absurd (cc e)

item_fine : (frames : List m.Frame) (values : List Datum) (o : Option Datum) (t : m.State) → Ranked frames → m.item_next frames values o ≡ Some t → Fine t
item_fine frames values None t r e = absurd (cc e)
item_fine frames values (Some value) t r e = fine_same _ t e r

operand_fine : (frames : List m.Frame) (word : Token) (at : ℕ) (t : m.State) → Ranked frames → m.operand_step frames word at ≡ Some t → Fine t
operand_fine frames token.Null at t r e = leaf_fine frames (leaf_of token.Null) t r e
operand_fine frames (token.Bool v) at t r e = leaf_fine frames (leaf_of (token.Bool v)) t r e
operand_fine frames (token.Int z) at t r e = leaf_fine frames (leaf_of (token.Int z)) t r e
operand_fine frames (token.Text bytes) at t r e = leaf_fine frames (leaf_of (token.Text bytes)) t r e
operand_fine frames (token.Path names) at t r e = leaf_fine frames (leaf_of (token.Path names)) t r e
operand_fine frames token.SeverityNumber at t r e = leaf_fine frames (leaf_of token.SeverityNumber) t r e
operand_fine frames token.SeverityText at t r e = leaf_fine frames (leaf_of token.SeverityText) t r e
operand_fine frames token.Not at t r e = opens_fine frames (m.waiting (m.negated at ∷ frames)) t r e
operand_fine frames token.And at t r e = leaf_fine frames (leaf_of token.And) t r e
operand_fine frames token.Or at t r e = leaf_fine frames (leaf_of token.Or) t r e
operand_fine frames (token.Compares op) at t r e = leaf_fine frames (leaf_of (token.Compares op)) t r e
operand_fine frames token.Matches at t r e = leaf_fine frames (leaf_of token.Matches) t r e
operand_fine frames token.OpenGroup at t r e = opens_fine frames (m.waiting (m.grouped ∷ frames)) t r e
operand_fine frames token.CloseGroup at t r e = leaf_fine frames (leaf_of token.CloseGroup) t r e
operand_fine frames token.OpenList at t r e = opens_fine frames (record { phase = m.first_item; frames = frames }) t r e
operand_fine frames token.CloseList at t r e = leaf_fine frames (leaf_of token.CloseList) t r e
operand_fine frames token.Comma at t r e = leaf_fine frames (leaf_of token.Comma) t r e

operator_fine : (c : Bool) (frames : List m.Frame) (tree : Tree) (word : Token) (at : ℕ) (t : m.State) → takes frames Compared ≡ true → Ranked frames
    → m.operator_step frames tree c word at ≡ Some t → Fine t
operator_fine false frames tree (token.Compares op) at t k r e = fine_same _ t e (k, r)
operator_fine true frames tree (token.Compares op) at t k r e = absurd (cc e)
operator_fine false frames tree token.Matches at t k r e = fine_same _ t e (k, r)
operator_fine true frames tree token.Matches at t k r e = absurd (cc e)
operator_fine false frames tree token.And at t k r e = fine_same _ t e (joins_and_fine frames tree k r)
operator_fine false frames tree token.Or at t k r e = fine_same _ t e (joins_fine frames tree k r)
operator_fine false frames tree token.CloseGroup at t k r e = closes_fine (m.joined frames tree) t (joins_fine frames tree k r).1 e
operator_fine false frames tree token.Null at t k r e = absurd (cc e)
operator_fine false frames tree (token.Bool v) at t k r e = absurd (cc e)
operator_fine false frames tree (token.Int z) at t k r e = absurd (cc e)
operator_fine false frames tree (token.Text bytes) at t k r e = absurd (cc e)
operator_fine false frames tree (token.Path names) at t k r e = absurd (cc e)
operator_fine false frames tree token.SeverityNumber at t k r e = absurd (cc e)
operator_fine false frames tree token.SeverityText at t k r e = absurd (cc e)
operator_fine false frames tree token.Not at t k r e = absurd (cc e)
operator_fine false frames tree token.OpenGroup at t k r e = absurd (cc e)
operator_fine false frames tree token.OpenList at t k r e = absurd (cc e)
operator_fine false frames tree token.CloseList at t k r e = absurd (cc e)
operator_fine false frames tree token.Comma at t k r e = absurd (cc e)
operator_fine true frames tree token.And at t k r e = fine_same _ t e (joins_and_fine frames tree k r)
operator_fine true frames tree token.Or at t k r e = fine_same _ t e (joins_fine frames tree k r)
operator_fine true frames tree token.CloseGroup at t k r e = closes_fine (m.joined frames tree) t (joins_fine frames tree k r).1 e
operator_fine true frames tree token.Null at t k r e = absurd (cc e)
operator_fine true frames tree (token.Bool v) at t k r e = absurd (cc e)
operator_fine true frames tree (token.Int z) at t k r e = absurd (cc e)
operator_fine true frames tree (token.Text bytes) at t k r e = absurd (cc e)
operator_fine true frames tree (token.Path names) at t k r e = absurd (cc e)
operator_fine true frames tree token.SeverityNumber at t k r e = absurd (cc e)
operator_fine true frames tree token.SeverityText at t k r e = absurd (cc e)
operator_fine true frames tree token.Not at t k r e = absurd (cc e)
operator_fine true frames tree token.OpenGroup at t k r e = absurd (cc e)
operator_fine true frames tree token.OpenList at t k r e = absurd (cc e)
operator_fine true frames tree token.CloseList at t k r e = absurd (cc e)
operator_fine true frames tree token.Comma at t k r e = absurd (cc e)

pattern_fine : (frames : List m.Frame) (place : ℕ) (left : Tree) (word : Token) (t : m.State) → takes frames Compared ≡ true → Ranked frames → m.pattern_step frames place left word ≡ Some t → Fine t
pattern_fine frames place left token.Null t k r e = absurd (cc e)
pattern_fine frames place left (token.Bool v) t k r e = absurd (cc e)
pattern_fine frames place left (token.Int z) t k r e = absurd (cc e)
pattern_fine frames place left (token.Text bytes) t k r e = fine_same _ t e (k, r)
pattern_fine frames place left (token.Path names) t k r e = absurd (cc e)
pattern_fine frames place left token.SeverityNumber t k r e = absurd (cc e)
pattern_fine frames place left token.SeverityText t k r e = absurd (cc e)
pattern_fine frames place left token.Not t k r e = absurd (cc e)
pattern_fine frames place left token.And t k r e = absurd (cc e)
pattern_fine frames place left token.Or t k r e = absurd (cc e)
pattern_fine frames place left (token.Compares op) t k r e = absurd (cc e)
pattern_fine frames place left token.Matches t k r e = absurd (cc e)
pattern_fine frames place left token.OpenGroup t k r e = absurd (cc e)
pattern_fine frames place left token.CloseGroup t k r e = absurd (cc e)
pattern_fine frames place left token.OpenList t k r e = absurd (cc e)
pattern_fine frames place left token.CloseList t k r e = absurd (cc e)
pattern_fine frames place left token.Comma t k r e = absurd (cc e)

first_fine : (frames : List m.Frame) (word : Token) (t : m.State) → Ranked frames → m.first_item_step frames word ≡ Some t → Fine t
first_fine frames token.Null t r e = item_fine frames [] (constant_of token.Null) t r e
first_fine frames (token.Bool v) t r e = item_fine frames [] (constant_of (token.Bool v)) t r e
first_fine frames (token.Int z) t r e = item_fine frames [] (constant_of (token.Int z)) t r e
first_fine frames (token.Text bytes) t r e = item_fine frames [] (constant_of (token.Text bytes)) t r e
first_fine frames (token.Path names) t r e = item_fine frames [] (constant_of (token.Path names)) t r e
first_fine frames token.SeverityNumber t r e = item_fine frames [] (constant_of token.SeverityNumber) t r e
first_fine frames token.SeverityText t r e = item_fine frames [] (constant_of token.SeverityText) t r e
first_fine frames token.Not t r e = item_fine frames [] (constant_of token.Not) t r e
first_fine frames token.And t r e = item_fine frames [] (constant_of token.And) t r e
first_fine frames token.Or t r e = item_fine frames [] (constant_of token.Or) t r e
first_fine frames (token.Compares op) t r e = item_fine frames [] (constant_of (token.Compares op)) t r e
first_fine frames token.Matches t r e = item_fine frames [] (constant_of token.Matches) t r e
first_fine frames token.OpenGroup t r e = item_fine frames [] (constant_of token.OpenGroup) t r e
first_fine frames token.CloseGroup t r e = item_fine frames [] (constant_of token.CloseGroup) t r e
first_fine frames token.OpenList t r e = item_fine frames [] (constant_of token.OpenList) t r e
first_fine frames token.CloseList t r e = fine_same _ t e (settles_fine frames (constant (list (items_of []))) r)
first_fine frames token.Comma t r e = item_fine frames [] (constant_of token.Comma) t r e

after_fine : (frames : List m.Frame) (values : List Datum) (word : Token) (t : m.State) → Ranked frames → m.after_item_step frames values word ≡ Some t → Fine t
after_fine frames values token.Null t r e = absurd (cc e)
after_fine frames values (token.Bool v) t r e = absurd (cc e)
after_fine frames values (token.Int z) t r e = absurd (cc e)
after_fine frames values (token.Text bytes) t r e = absurd (cc e)
after_fine frames values (token.Path names) t r e = absurd (cc e)
after_fine frames values token.SeverityNumber t r e = absurd (cc e)
after_fine frames values token.SeverityText t r e = absurd (cc e)
after_fine frames values token.Not t r e = absurd (cc e)
after_fine frames values token.And t r e = absurd (cc e)
after_fine frames values token.Or t r e = absurd (cc e)
after_fine frames values (token.Compares op) t r e = absurd (cc e)
after_fine frames values token.Matches t r e = absurd (cc e)
after_fine frames values token.OpenGroup t r e = absurd (cc e)
after_fine frames values token.CloseGroup t r e = absurd (cc e)
after_fine frames values token.OpenList t r e = absurd (cc e)
after_fine frames values token.CloseList t r e = fine_same _ t e (settles_fine frames (constant (list (items_of values))) r)
after_fine frames values token.Comma t r e = fine_same _ t e r

pub step_fine : (phase : m.Phase) (frames : List m.Frame) (word : Token) (at : ℕ) (t : m.State) → FinePhase phase frames → m.step_from phase frames word at ≡ Some t → Fine t
step_fine m.wants_operand frames word at t f e = operand_fine frames word at t f e
step_fine (m.has_operand tree c) frames word at t f e = operator_fine c frames tree word at t f.0 f.1 e
step_fine (m.wants_pattern place left) frames word at t f e = pattern_fine frames place left word t f.0 f.1 e
step_fine m.first_item frames word at t f e = first_fine frames word t f e
step_fine (m.next_item values) frames word at t f e = item_fine frames values (constant_of word) t f e
step_fine (m.after_item values) frames word at t f e = after_fine frames values word t f e

-- ---- words that end what is open

to_disjoined : {n : ℕ} {row : List Placed} {tree : Tree} (level : Level) → Spells n level row tree → Spells n Disjoined row tree
to_disjoined Primary s = conjoined (compared (unary (primary s)))
to_disjoined Unary s = conjoined (compared (unary s))
to_disjoined Compared s = conjoined (compared s)
to_disjoined Conjoined s = conjoined s
to_disjoined Disjoined s = s

to_unary : {n : ℕ} {row : List Placed} {tree : Tree} (level : Level) (at : ℕ) (frames : List m.Frame) → takes (m.negated at ∷ frames) level ≡ true → Spells n level row tree → Spells n Unary row tree
to_unary Primary at frames t s = primary s
to_unary Unary at frames t s = s
to_unary Compared at frames t s = absurd (cc t)
to_unary Conjoined at frames t s = absurd (cc t)
to_unary Disjoined at frames t s = absurd (cc t)

to_compared : {n : ℕ} {row : List Placed} {tree : Tree} (level : Level) (at : ℕ) (left : Tree) (frames : List m.Frame) → takes (m.conjoined_to at left ∷ frames) level ≡ true → Spells n level row tree → Spells n Compared row tree
to_compared Primary at left frames t s = unary (primary s)
to_compared Unary at left frames t s = unary s
to_compared Compared at left frames t s = s
to_compared Conjoined at left frames t s = absurd (cc t)
to_compared Disjoined at left frames t s = absurd (cc t)

to_conjoined : {n : ℕ} {row : List Placed} {tree : Tree} (level : Level) (at : ℕ) (left : Tree) (frames : List m.Frame) → takes (m.disjoined_to at left ∷ frames) level ≡ true → Spells n level row tree → Spells n Conjoined row tree
to_conjoined Primary at left frames t s = compared (unary (primary s))
to_conjoined Unary at left frames t s = compared (unary s)
to_conjoined Compared at left frames t s = compared s
to_conjoined Conjoined at left frames t s = s
to_conjoined Disjoined at left frames t s = absurd (cc t)

to_unary_again : {n : ℕ} {row : List Placed} {tree : Tree} (level : Level) (operator : Comparison) (at : ℕ) (left : Tree) (frames : List m.Frame) → takes (m.compared_to operator at left ∷ frames) level ≡ true → Spells n level row tree → Spells n Unary row tree
to_unary_again Primary operator at left frames t s = primary s
to_unary_again Unary operator at left frames t s = s
to_unary_again Compared operator at left frames t s = absurd (cc t)
to_unary_again Conjoined operator at left frames t s = absurd (cc t)
to_unary_again Disjoined operator at left frames t s = absurd (cc t)

any_unary : (frames : List m.Frame) → takes frames Unary ≡ true
any_unary [] = refl
any_unary (m.grouped ∷ frames) = refl
any_unary (m.negated at ∷ frames) = refl
any_unary (m.compared_to operator at left ∷ frames) = refl
any_unary (m.conjoined_to at left ∷ frames) = refl
any_unary (m.disjoined_to at left ∷ frames) = refl

-- behind an operand, the groups are closed
ends : (frames : List m.Frame) (level : Level) (n : ℕ) (tree : Tree) (words : List Placed) → takes frames level ≡ true → Ranked frames → Stands n level frames tree words → Opens words
ends [] level n tree words t r s =
    let words_are : words ++ [] ≡ s.part = append-nil words ∙ s.is ∙ ap (λ (l : List Placed). l ++ s.part) s.rests.0 in
    ([], tree, subst (λ (l : List Placed). Spells 32 Disjoined l tree) (sym words_are) (subst (λ (k : ℕ). Spells k Disjoined s.part tree) s.rests.1 (to_disjoined level s.spells)))
ends (m.grouped ∷ frames) level n tree words t r s =
    let more = ends frames Unary (suc n) tree (words ++ (token.CloseGroup, 0) ∷ []) (any_unary frames) r (record {
      front = s.rests.0;
      part = (token.OpenGroup, s.rests.1) ∷ (s.part ++ (token.CloseGroup, 0) ∷ []);
      is = ap (λ (l : List Placed). l ++ (token.CloseGroup, 0) ∷ []) (s.is ∙ ap (λ (l : List Placed). l ++ s.part) s.rests.2) ∙ (simp append_assoc);
      rests = s.rests.3;
      spells = primary (group 0 (to_disjoined level s.spells));
    }) in
    ((token.CloseGroup, 0) ∷ more.0, more.1, subst (λ (l : List Placed). Spells 32 Disjoined l more.1) (append_assoc words ((token.CloseGroup, 0) ∷ []) more.0) more.2)
ends (m.negated at ∷ frames) level n tree words t r s =
    ends frames Unary (suc n) (negation at tree) words (any_unary frames) r (record {
      front = s.rests.0;
      part = (token.Not, at) ∷ s.part;
      is = s.is ∙ ap (λ (l : List Placed). l ++ s.part) s.rests.1 ∙ append_assoc s.rests.0 ((token.Not, at) ∷ []) s.part;
      rests = s.rests.2;
      spells = negated (to_unary level at frames t s.spells);
    })
ends (m.compared_to operator at left ∷ frames) level n tree words t r s =
    ends frames Compared n (comparison operator at left tree) words r.0 r.1 (record {
      front = s.rests.0;
      part = s.rests.1 ++ (token.Compares operator, at) ∷ s.part;
      is = s.is ∙ ap (λ (l : List Placed). l ++ s.part) s.rests.2 ∙ (simp append_assoc);
      rests = s.rests.4;
      spells = compares at operator s.rests.3 (to_unary_again level operator at left frames t s.spells);
    })
ends (m.conjoined_to at left ∷ frames) level n tree words t r s =
    ends frames Conjoined n (conjunction at left tree) words r.0 r.1 (record {
      front = s.rests.0;
      part = s.rests.1 ++ (token.And, at) ∷ s.part;
      is = s.is ∙ ap (λ (l : List Placed). l ++ s.part) s.rests.2 ∙ (simp append_assoc);
      rests = s.rests.4;
      spells = and at s.rests.3 (to_compared level at left frames t s.spells);
    })
ends (m.disjoined_to at left ∷ frames) level n tree words t r s =
    ends frames Disjoined n (disjunction at left tree) words r.0 r.1 (record {
      front = s.rests.0;
      part = s.rests.1 ++ (token.Or, at) ∷ s.part;
      is = s.is ∙ ap (λ (l : List Placed). l ++ s.part) s.rests.2 ∙ (simp append_assoc);
      rests = s.rests.4;
      spells = or at s.rests.3 (to_conjoined level at left frames t s.spells);
    })

-- one more word, and then the others
with_one : (words : List Placed) (one : Placed) → Opens (words ++ one ∷ []) → Opens words
with_one words one (more, tree, s) = (one ∷ more, tree, subst (λ (l : List Placed). Spells 32 Disjoined l tree) (append_assoc words (one ∷ []) more) s)

level_taken : (c : Bool) (frames : List m.Frame) → takes frames Compared ≡ true → takes frames (level_of c) ≡ true
level_taken true frames t = t
level_taken false frames t = any_unary frames

-- from any state, through the next one
by_step : (s t : m.State) (words : List Placed) (word : Token) → Behind s words → Fine s → m.step s word 0 ≡ Some t → (Behind t (words ++ (word, 0) ∷ []) → Fine t → Opens (words ++ (word, 0) ∷ [])) → Opens words
by_step s t words word b f e rest = with_one words (word, 0) (rest (step_behind s.phase s.frames words word 0 b t e) (step_fine s.phase s.frames word 0 t f e))

settled_opens : (frames : List m.Frame) (tree : Tree) (words : List Placed) → Behind (m.settled frames tree) words → Fine (m.settled frames tree) → Opens words
settled_opens [] tree words b f = ends [] Unary b.0 tree words refl f.1 b.1
settled_opens (m.grouped ∷ frames) tree words b f = ends (m.grouped ∷ frames) Unary b.0 tree words refl f.1 b.1
settled_opens (m.conjoined_to at left ∷ frames) tree words b f = ends (m.conjoined_to at left ∷ frames) Unary b.0 tree words refl f.1 b.1
settled_opens (m.disjoined_to at left ∷ frames) tree words b f = ends (m.disjoined_to at left ∷ frames) Unary b.0 tree words refl f.1 b.1
settled_opens (m.negated at ∷ frames) tree words b f = settled_opens frames (negation at tree) words b f
settled_opens (m.compared_to operator at left ∷ frames) tree words b f = ends frames Compared b.0 (comparison operator at left tree) words f.0 f.1 b.1

pub opens : (phase : m.Phase) (frames : List m.Frame) (words : List Placed) → BehindPhase phase frames words → FinePhase phase frames → Opens words
opens (m.has_operand tree c) frames words b f = ends frames (level_of c) b.0 tree words (level_taken c frames f.0) f.1 b.1
opens m.wants_operand frames words b f =
    by_step (m.waiting frames) (m.settled frames (constant null)) words token.Null b f refl (settled_opens frames (constant null) (words ++ (token.Null, 0) ∷ []))
opens (m.wants_pattern at left) frames words b f =
    by_step (record { phase = m.wants_pattern at left; frames = frames }) (m.standing frames (matching at left []) true) words (token.Text []) b f refl
    (λ b f. ends frames Compared b.0 (matching at left []) (words ++ (token.Text [], 0) ∷ []) f.0 f.1 b.1)
opens m.first_item frames words b f =
    by_step (record { phase = m.first_item; frames = frames }) (m.listed frames []) words token.CloseList b f refl
    (settled_opens frames (constant (list (items_of []))) (words ++ (token.CloseList, 0) ∷ []))
opens (m.after_item values) frames words b f =
    by_step (record { phase = m.after_item values; frames = frames }) (m.listed frames values) words token.CloseList b f refl
    (settled_opens frames (constant (list (items_of values))) (words ++ (token.CloseList, 0) ∷ []))
opens (m.next_item values) frames words b f =
    let now = values ++ null ∷ [] in
    by_step (record { phase = m.next_item values; frames = frames }) (record { phase = m.after_item now; frames = frames }) words token.Null b f refl
    (λ b f. by_step (record { phase = m.after_item now; frames = frames }) (m.listed frames now) (words ++ (token.Null, 0) ∷ []) token.CloseList b f refl
    (settled_opens frames (constant (list (items_of now))) ((words ++ (token.Null, 0) ∷ []) ++ (token.CloseList, 0) ∷ [])))

-- ---- what the loop over the words keeps

-- the state behind the words
abbrev pub run : m.State → List Placed → Option m.State
run s [] = Some s
run s (placed ∷ row) = option_and_then (λ next. run next row) (m.step s placed.0 placed.1)

run_more : (row : List Placed) (s t u : m.State) (w : Token) (at : ℕ) → run s row ≡ Some t → m.step t w at ≡ Some u → run s (row ++ (w, at) ∷ []) ≡ Some u
run_more [] s t u w at e f =
    let is : t ≡ s = cc e in
    ap (option_and_then (λ (next : m.State). Some next)) (subst (λ (v : m.State). m.step v w at ≡ Some u) is f)
run_more (placed ∷ row) s t u w at e f = by (m.step s placed.0 placed.1) e (λ (next : m.State) (k : run next row ≡ Some t). run_more row next t u w at k f)
  where
    by : (o : Option m.State) → option_and_then (λ (next : m.State). run next row) o ≡ Some t → ((next : m.State) → run next row ≡ Some t → run next (row ++ (w, at) ∷ []) ≡ Some u)
        → option_and_then (λ (next : m.State). run next (row ++ (w, at) ∷ [])) o ≡ Some u
    by None e rec = absurd (cc e)
    by (Some next) e rec = rec next e

-- the words that were read, and where they led
pub record Reached (text : List ℕ) (at : ℕ) (s : m.State) : Type 0 where
  pub words : List Placed
  pub front : IsFront text 0 words at
  pub ran : run m.start words ≡ Some s
  pub runs : (rest : List Placed) → m.finished m.start (words ++ rest) ≡ m.finished s rest
  pub behind : Behind s words
  pub fine : Fine s

pub reached_first : (text : List ℕ) → Reached text (past_blanks text 0) m.start
reached_first text = record { words = []; front = refl; ran = refl; runs = λ rest. refl; behind = (32, (refl, refl)); fine = tt }

front_more : (words : List Placed) (text : List ℕ) (from at : ℕ) (w : Token) (n : ℕ) → IsFront text from words at → IsToken (drop at text) w n
    → IsFront text from (words ++ (w, at) ∷ []) (past_blanks text (at + n))
front_more [] text from at w n f t = (f, (n, t, refl))
front_more (placed ∷ words) text from at w n f t = (f.0, (f.1.0, f.1.1, front_more words text (placed.1 + f.1.0) at w n f.1.2 t))

pub reached_next : (text : List ℕ) (at : ℕ) (s t : m.State) → Reached text at s → (w : Token) (n : ℕ) → IsToken (drop at text) w n → m.step s w at ≡ Some t → Reached text (past_blanks text (at + n)) t
reached_next text at s t r w n is e = record {
  words = r.words ++ (w, at) ∷ [];
  front = front_more r.words text 0 at w n r.front is;
  ran = run_more r.words m.start s t w at r.ran e;
  runs = λ rest. ap (m.finished m.start) (append_assoc r.words ((w, at) ∷ []) rest) ∙ r.runs ((w, at) ∷ rest) ∙ ap (option_and_then (λ next. m.finished next rest)) e;
  behind = step_behind s.phase s.frames r.words w at r.behind t e;
  fine = step_fine s.phase s.frames w at t r.fine e;
}

pub reached_opens : (text : List ℕ) (at : ℕ) (s : m.State) (r : Reached text at s) → Opens r.words
reached_opens text at s r = opens s.phase s.frames r.words r.behind r.fine

-- a word that can't be taken ends no front
pub reached_refused : (text : List ℕ) (at : ℕ) (s : m.State) (r : Reached text at s) (w : Token) → m.step s w at ≡ None → Opens (r.words ++ (w, at) ∷ []) → ⊥
reached_refused text at s r w e (more, tree, spells) =
    let ends : m.finished m.start (r.words ++ (w, at) ∷ more) ≡ Some tree = ap (m.finished m.start) (sym (append_assoc r.words ((w, at) ∷ []) more)) ∙ finishes ((r.words ++ (w, at) ∷ []) ++ more) tree spells in
    let none : m.finished m.start (r.words ++ (w, at) ∷ more) ≡ None = r.runs ((w, at) ∷ more) ∙ ap (option_and_then (λ next. m.finished next more)) e in
    let clash : None ≡ Some tree = sym none ∙ ends in
    cc clash

pub reached_partial : (text : List ℕ) (at : ℕ) (s : m.State) (r : Reached text at s) → m.tree_at s ≡ None → (tree : Tree) → Spells 32 Disjoined r.words tree → ⊥
reached_partial text at s r e tree spells =
    let clash : None ≡ Some tree = sym e ∙ sym (r.runs []) ∙ ap (m.finished m.start) (append-nil r.words) ∙ finishes r.words tree spells in
    cc clash
