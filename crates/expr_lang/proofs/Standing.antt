-- Which words can stand behind those that were read.
use Rattle.std.proofs.Common.{◌≡◌, ℕ, List, [], ◌∷◌, ◌++◌, ◌∙◌, ap, sym, refl, subst, drop, is_some, Option, None, Some, Bool, true, false, cond, ◌&&◌}
use Rattle.std.specs.List.{list_any}
use Rattle.entry_model.specs.Datum.{Datum}
use Rattle.expr_lang.specs.Begun.{is_group, wanted_from, wanted_by, takes, takes_operand, negates}
use Rattle.expr_lang.specs.declared.parser.Wanted.{Wanted}
use Rattle.expr_lang.specs.declared.parser.Wanted.TheVariants as wanted
use Rattle.expr_lang.specs.declared.token.Token.{Token}
use Rattle.expr_lang.specs.declared.token.Token.TheVariants as token
use Rattle.expr_lang.specs.Fault.{Opens, CanStand, IsTooDeep}
use Rattle.expr_lang.specs.Grammar.{Compared, Conjoined, Disjoined}
use Rattle.expr_lang.specs.Longest.{IsLongest}
use Rattle.expr_lang.specs.Machine as m
use Rattle.expr_lang.specs.Row.{IsToken}
use Rattle.expr_lang.specs.Tree.{Tree}
use Rattle.expr_lang.proofs.BegunWords.{Wants}
use Rattle.expr_lang.proofs.Longest.{longest_like}
use Rattle.expr_lang.proofs.Openings.{Ranked, FinePhase, Reached, opens, step_fine, reached_refused}
use Rattle.expr_lang.proofs.Openings as o
use Rattle.expr_lang.proofs.Reading.{one_word}
use Rattle.expr_lang.proofs.Sound.{step_behind}

-- ---- the words that the state takes

-- behind the operand, a group is closed where one is open
or_closes : (frames : List m.Frame) (tree : Tree) → o.takes frames Disjoined ≡ true → is_some (m.closed (frames, tree)) ≡ list_any is_group frames
or_closes [] tree t = refl
or_closes (m.grouped ∷ frames) tree t = refl
or_closes (m.negated at ∷ frames) tree t = absurd (cc t)
or_closes (m.compared_to operator at left ∷ frames) tree t = absurd (cc t)
or_closes (m.conjoined_to at left ∷ frames) tree t = absurd (cc t)
or_closes (m.disjoined_to at left ∷ frames) tree t = absurd (cc t)

and_closes : (frames : List m.Frame) (tree : Tree) → o.takes frames Conjoined ≡ true → Ranked frames → is_some (m.closed (m.joined_or frames tree)) ≡ list_any is_group frames
and_closes [] tree t r = refl
and_closes (m.grouped ∷ frames) tree t r = refl
and_closes (m.negated at ∷ frames) tree t r = absurd (cc t)
and_closes (m.compared_to operator at left ∷ frames) tree t r = absurd (cc t)
and_closes (m.conjoined_to at left ∷ frames) tree t r = absurd (cc t)
and_closes (m.disjoined_to at left ∷ frames) tree t r = or_closes frames _ r.0

closes : (frames : List m.Frame) (tree : Tree) → o.takes frames Compared ≡ true → Ranked frames → is_some (m.closed (m.joined frames tree)) ≡ list_any is_group frames
closes [] tree t r = refl
closes (m.grouped ∷ frames) tree t r = refl
closes (m.negated at ∷ frames) tree t r = absurd (cc t)
closes (m.compared_to operator at left ∷ frames) tree t r = absurd (cc t)
closes (m.conjoined_to at left ∷ frames) tree t r = and_closes frames _ r.0 r.1
closes (m.disjoined_to at left ∷ frames) tree t r = or_closes frames _ r.0

opened_some : (b : Bool) (next : m.State) → is_some (cond b (Some next) None) ≡ b
opened_some true next = refl
opened_some false next = refl

operand_some : (frames : List m.Frame) (word : Token) (at : ℕ) → is_some (m.operand_step frames word at) ≡ takes (wanted.Operand (m.has_room frames)) word
operand_some frames token.Not at = opened_some (m.has_room frames) _
operand_some frames token.OpenGroup at = opened_some (m.has_room frames) _
operand_some frames token.OpenList at = opened_some (m.has_room frames) _
operand_some frames _ at = refl

operator_some : (compared : Bool) (frames : List m.Frame) (tree : Tree) (word : Token) (at : ℕ) → o.takes frames Compared ≡ true → Ranked frames
    → is_some (m.operator_step frames tree compared word at) ≡ takes (wanted.Operator compared (list_any is_group frames)) word
operator_some false frames tree token.CloseGroup at t r = closes frames tree t r
operator_some true frames tree token.CloseGroup at t r = closes frames tree t r
operator_some false frames tree _ at t r = refl
operator_some true frames tree _ at t r = refl

pattern_some : (frames : List m.Frame) (place : ℕ) (left : Tree) (word : Token) → is_some (m.pattern_step frames place left word) ≡ takes wanted.Pattern word
pattern_some frames place left (token.Text source) = refl
pattern_some frames place left _ = refl

first_some : (frames : List m.Frame) (word : Token) → is_some (m.first_item_step frames word) ≡ takes wanted.FirstItem word
first_some frames token.CloseList = refl
first_some frames _ = refl

next_some : (frames : List m.Frame) (values : List Datum) (word : Token) → is_some (m.item_step frames values word) ≡ takes wanted.NextItem word
next_some frames values token.Null = refl
next_some frames values _ = refl

after_some : (frames : List m.Frame) (values : List Datum) (word : Token) → is_some (m.after_item_step frames values word) ≡ takes wanted.AfterItem word
after_some frames values token.Comma = refl
after_some frames values token.CloseList = refl
after_some frames values _ = refl

step_some : (phase : m.Phase) (frames : List m.Frame) (word : Token) (at : ℕ) → FinePhase phase frames → is_some (m.step_from phase frames word at) ≡ takes (wanted_from phase frames) word
step_some m.wants_operand frames word at f = operand_some frames word at
step_some (m.has_operand tree compared) frames word at f = operator_some compared frames tree word at f.0 f.1
step_some (m.wants_pattern place left) frames word at f = pattern_some frames place left word
step_some m.first_item frames word at f = first_some frames word
step_some (m.next_item values) frames word at f = next_some frames values word
step_some (m.after_item values) frames word at f = after_some frames values word

-- ---- the words that can stand there

module _ (text : List ℕ) (at : ℕ) (s : m.State) (r : Reached text at s) where
  pub can_stand : (w : Token) → takes (wanted_by s) w ≡ true → Opens (r.words ++ (w, at) ∷ [])
  can_stand w t = by (m.step s w at) refl (step_some s.phase s.frames w at r.fine ∙ t)
    where
      by : (o : Option m.State) → m.step s w at ≡ o → is_some o ≡ true → Opens (r.words ++ (w, at) ∷ [])
      by None e some = absurd (cc some)
      by (Some next) e some = opens next.phase next.frames (r.words ++ (w, at) ∷ []) (step_behind s.phase s.frames r.words w at r.behind next e) (step_fine s.phase s.frames w at next r.fine e)

  only_stands : (w : Token) → Opens (r.words ++ (w, at) ∷ []) → takes (wanted_by s) w ≡ true
  only_stands w opens = by (m.step s w at) refl (step_some s.phase s.frames w at r.fine)
    where
      by : (o : Option m.State) → m.step s w at ≡ o → is_some o ≡ takes (wanted_by s) w → takes (wanted_by s) w ≡ true
      by None e t = absurd (reached_refused text at s r w e opens)
      by (Some next) e t = sym t

  pub longest_stands : (most : ℕ) → IsLongest (Wants (wanted_by s)) (drop at text) most → IsLongest (CanStand r.words at) (drop at text) most
  longest_stands most l = longest_like
      (λ s (w, n, bytes, fits, t, e). (w, n, bytes, can_stand w fits, t, e))
      (λ s (w, n, bytes, fits, t, e). (w, n, bytes, only_stands w fits, t, e)) l

  takes_one : (by : Wanted) → takes by token.SeverityText ≡ takes_operand by
  takes_one (wanted.Operand nests) = refl
  takes_one (wanted.Operator compared grouped) = refl
  takes_one wanted.Pattern = refl
  takes_one wanted.FirstItem = refl
  takes_one wanted.NextItem = refl
  takes_one wanted.AfterItem = refl

  is_not : (w : Token) → negates w ≡ true → w ≡ token.Not
  is_not token.Not e = refl
  is_not _ e = absurd (cc e)

  pub deep_known : (w : Token) (n : ℕ) → IsToken (drop at text) w n → IsTooDeep text r.words at → (negates w && takes_operand (wanted_by s)) ≡ true
  deep_known w n is d =
      let same = (one_word (drop at text) token.Not w d.0.0 n d.0.1 is).0 in
      let negation : negates w ≡ true = ap negates (sym same) in
      let operand : takes_operand (wanted_by s) ≡ true = sym (takes_one (wanted_by s)) ∙ only_stands token.SeverityText d.1 in
      rw (negation, operand) refl

  pub deep_found : (w : Token) (n : ℕ) → IsToken (drop at text) w n → (negates w && takes_operand (wanted_by s)) ≡ true → IsTooDeep text r.words at
  deep_found w n is h =
      let k = both (negates w) (takes_operand (wanted_by s)) h in
      ((n, subst (λ (u : Token). IsToken (drop at text) u n) (is_not w k.0) is), can_stand token.SeverityText (takes_one (wanted_by s) ∙ k.1))
    where
      both : (a b : Bool) → (a && b) ≡ true → (a ≡ true) × (b ≡ true)
      both true b h = (refl, h)
      both false b h = absurd (cc h)
