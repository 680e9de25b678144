-- Each text that was read behind `matches` is a pattern.
use Rattle.std.proofs.Common.{◌≡◌, ℕ, List, [], ◌∷◌, ◌++◌, sym, refl, subst, map, Option, None, Some, option_and_then, true, false}
use Rattle.std.proofs.lemmas.List.{reverse-append}
use Rattle.expr_lang.specs.declared.frames.Frame as code
use Rattle.expr_lang.specs.declared.frames.Frame.TheVariants as code_frame
use Rattle.expr_lang.specs.declared.parser.Parser as code_parser
use Rattle.expr_lang.specs.declared.parser.Phase as code_phase
use Rattle.expr_lang.specs.declared.parser.Phase.TheVariants as at_phase
use Rattle.expr_lang.specs.declared.token.Token.TheVariants as token
use Rattle.expr_lang.specs.Fault.{ArePatterns}
use Rattle.expr_lang.specs.Grammar.{HavePatterns, Spells, Disjoined}
use Rattle.expr_lang.specs.Machine as m
use Rattle.expr_lang.specs.Patterns.{is_pattern}
use Rattle.expr_lang.specs.Row.{Placed}
use Rattle.expr_lang.specs.Tree.{Tree, matching}
use Rattle.expr_lang.proofs.Complete.{finishes}
use Rattle.expr_lang.proofs.Kept.{FramesHave, PhaseHas, Has, of_step, of_tree}
use Rattle.expr_lang.proofs.Openings.{run}
use Rattle.expr_lang.proofs.Patterns.{patterns_of}

-- ---- what the parser holds

frame_has : (one : code.Frame) → FramesHave (m.frame one ∷ [])
frame_has code_frame.Group = tt
frame_has (code_frame.Not at) = tt
frame_has (code_frame.Compares at operator left) = (patterns_of left, tt)
frame_has (code_frame.And at left) = (patterns_of left, tt)
frame_has (code_frame.Or at left) = (patterns_of left, tt)

frames_both : (front back : List m.Frame) → FramesHave front → FramesHave back → FramesHave (front ++ back)
frames_both [] back f b = b
frames_both (m.grouped ∷ front) back f b = frames_both front back f b
frames_both (m.negated at ∷ front) back f b = frames_both front back f b
frames_both (m.compared_to operator at left ∷ front) back f b = (f.0, frames_both front back f.1 b)
frames_both (m.conjoined_to at left ∷ front) back f b = (f.0, frames_both front back f.1 b)
frames_both (m.disjoined_to at left ∷ front) back f b = (f.0, frames_both front back f.1 b)

frames_have : (items : List code.Frame) → FramesHave (m.frames_of items)
frames_have [] = tt
frames_have (one ∷ items) =
    subst FramesHave (sym (reverse-append (m.frame one ∷ []) (map m.frame items)))
    (frames_both (m.frames_of items) (m.frame one ∷ []) (frames_have items) (frame_has one))

phase_has : (phase : code_phase.Phase) (items : List code.Frame) → PhaseHas (m.phase phase) (m.frames_of items)
phase_has at_phase.Operand items = frames_have items
phase_has (at_phase.Operator node compared) items = (patterns_of node, frames_have items)
phase_has (at_phase.Pattern at node) items = (patterns_of node, frames_have items)
phase_has at_phase.FirstItem items = frames_have items
phase_has (at_phase.NextItem values) items = frames_have items
phase_has (at_phase.AfterItem values) items = frames_have items

pub has_parser : (parser : code_parser.Parser) → Has (m.state_of parser)
has_parser parser = phase_has parser.phase parser.frames.items

-- ---- the words that led there

run_front : (front back : List Placed) (s t : m.State) → run s (front ++ back) ≡ Some t → (u : m.State) × (run u back ≡ Some t)
run_front [] back s t e = (s, e)
run_front (placed ∷ front) back s t e = by (m.step s placed.0 placed.1) e (λ (next : m.State). run_front front back next t)
  where
    by : (o : Option m.State) → option_and_then (λ (next : m.State). run next (front ++ back)) o ≡ Some t → ((next : m.State) → run next (front ++ back) ≡ Some t → (u : m.State) × (run u back ≡ Some t)) → (u : m.State) × (run u back ≡ Some t)
    by None e rec = absurd (cc e)
    by (Some next) e rec = rec next e

of_run : (row : List Placed) (s t : m.State) → run s row ≡ Some t → Has t → Has s
of_run [] s t e h = let is : s ≡ t = cc e in subst Has (sym is) h
of_run (placed ∷ row) s t e h = by (m.step s placed.0 placed.1) refl e (λ next k. of_run row next t k h)
  where
    by : (o : Option m.State) → m.step s placed.0 placed.1 ≡ o → option_and_then (λ (next : m.State). run next row) o ≡ Some t → ((next : m.State) → run next row ≡ Some t → Has next) → Has s
    by None k e rec = absurd (cc e)
    by (Some next) k e rec = of_step s.phase s.frames placed.0 placed.1 next k (rec next e)

-- behind `matches` a pattern is wanted
waits : (phase : m.Phase) (frames : List m.Frame) (at : ℕ) (t : m.State) → m.step_from phase frames token.Matches at ≡ Some t → (left : Tree) × (t ≡ record { phase = m.wants_pattern at left; frames = frames })
waits m.wants_operand frames at t e = absurd (cc e)
waits (m.has_operand tree false) frames at t e = (tree, cc e)
waits (m.has_operand tree true) frames at t e = absurd (cc e)
waits (m.wants_pattern place left) frames at t e = absurd (cc e)
waits m.first_item frames at t e = absurd (cc e)
waits (m.next_item values) frames at t e = absurd (cc e)
waits (m.after_item values) frames at t e = absurd (cc e)

text_has : (s t : m.State) (at place : ℕ) (source : List ℕ) (more : List Placed) → run s ((token.Matches, at) ∷ (token.Text source, place) ∷ more) ≡ Some t → Has t → is_pattern source ≡ true
text_has s t at place source more e h = by (m.step s token.Matches at) refl e
  where
    by : (o : Option m.State) → m.step s token.Matches at ≡ o → option_and_then (λ (next : m.State). run next ((token.Text source, place) ∷ more)) o ≡ Some t → is_pattern source ≡ true
    by None k e = absurd (cc e)
    by (Some next) k e =
        let w = waits s.phase s.frames at next k in
        let there = subst (λ (u : m.State). run u ((token.Text source, place) ∷ more) ≡ Some t) w.1 e in
        let has = of_run more (m.standing s.frames (matching at w.0 source) true) t there h in
        has.0.1

pub are_patterns : (words : List Placed) (s : m.State) → run m.start words ≡ Some s → Has s → ArePatterns words
are_patterns words s e h = λ before more matches place source is.
    (let front = run_front before ((token.Matches, matches) ∷ (token.Text source, place) ∷ more) m.start s (subst (λ (l : List Placed). run m.start l ≡ Some s) is e) in
    text_has front.0 s matches place source more front.1 h)

run_of : (row : List Placed) (s : m.State) (tree : Tree) → m.finished s row ≡ Some tree → (t : m.State) × (run s row ≡ Some t) × (m.tree_at t ≡ Some tree)
run_of [] s tree e = (s, refl, e)
run_of (placed ∷ row) s tree e = by (m.step s placed.0 placed.1) e (λ (next : m.State). run_of row next tree)
  where
    by : (o : Option m.State) → option_and_then (λ (next : m.State). m.finished next row) o ≡ Some tree
        → ((next : m.State) → m.finished next row ≡ Some tree → (t : m.State) × (run next row ≡ Some t) × (m.tree_at t ≡ Some tree))
        → (t : m.State) × (option_and_then (λ (next : m.State). run next row) o ≡ Some t) × (m.tree_at t ≡ Some tree)
    by None e rec = absurd (cc e)
    by (Some next) e rec = rec next e

-- the words of a tree with patterns alone
pub row_patterns : (row : List Placed) (tree : Tree) → Spells 32 Disjoined row tree → HavePatterns tree → ArePatterns row
row_patterns row tree spells have =
    let r = run_of row m.start tree (finishes row tree spells) in
    are_patterns row r.0 r.1 (of_tree r.0.phase r.0.frames tree r.2 have)
