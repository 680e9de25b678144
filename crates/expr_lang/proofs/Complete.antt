-- Words that spell a tree lead to it.
use Rattle.std.proofs.Common.{◌≡◌, ℕ, suc, ◌+◌, ◌≤◌, List, [], ◌∷◌, ◌++◌, ◌∙◌, ap, sym, refl, subst, Option, Some, option_and_then, Bool, true, false, nat_lt, append_assoc, arith}
use Rattle.std.proofs.lemmas.Bool.Decides.{nat_tests}
use Rattle.std.proofs.lemmas.List.{append-nil}
use Rattle.entry_model.specs.Datum.{Datum}
use Rattle.expr_lang.specs.declared.token.Token.{Token}
use Rattle.expr_lang.specs.declared.token.Token.TheVariants as token
use Rattle.expr_lang.specs.Grammar.{constant_of, leaf_of, SpellsItems, last, next, Level, Primary, Unary, Compared, Conjoined, Disjoined, Spells, leaf, no_items, items, group, primary, negated, unary, compares, matches, compared, and, conjoined, or}
use Rattle.expr_lang.specs.Machine as m
use Rattle.expr_lang.specs.Row.{Placed}
use Rattle.expr_lang.specs.Tree.{Tree, comparison, matching}

-- what words lead to, from a state
abbrev Leads : m.State → List Placed → m.State → Type 0
Leads s row t = (rest : List Placed) → m.finished s (row ++ rest) ≡ m.finished t rest

one : (s t : m.State) (word : Token) (at : ℕ) (row : List Placed) (u : m.State) → m.step s word at ≡ Some t → Leads t row u → Leads s ((word, at) ∷ row) u
one s t word at row u e l = λ (rest : List Placed). ap (λ (r : Option m.State). option_and_then (λ (next : m.State). m.finished next (row ++ rest)) r) e ∙ l rest

both : (s t u : m.State) (front back : List Placed) → Leads s front t → Leads t back u → Leads s (front ++ back) u
both s t u front back f b = λ (rest : List Placed). ap (m.finished s) (append_assoc front back rest) ∙ f (back ++ rest) ∙ b rest

stays : (s : m.State) → Leads s [] s
stays s = λ (rest : List Placed). refl

to : (s : m.State) (row : List Placed) (t u : m.State) → t ≡ u → Leads s row t → Leads s row u
to s row t u e l = subst (λ (v : m.State). Leads s row v) e l

leaf_step : (frames : List m.Frame) (word : Token) (at : ℕ) (tree : Tree) → leaf_of word ≡ Some tree → m.operand_step frames word at ≡ Some (m.settled frames tree)
leaf_step frames token.Null at tree e = ap (λ (o : Option Tree). m.leaf_next frames o) e
leaf_step frames (token.Bool b) at tree e = ap (λ (o : Option Tree). m.leaf_next frames o) e
leaf_step frames (token.Int z) at tree e = ap (λ (o : Option Tree). m.leaf_next frames o) e
leaf_step frames (token.Text bytes) at tree e = ap (λ (o : Option Tree). m.leaf_next frames o) e
leaf_step frames (token.Path place) at tree e = ap (λ (o : Option Tree). m.leaf_next frames o) e
leaf_step frames token.SeverityNumber at tree e = ap (λ (o : Option Tree). m.leaf_next frames o) e
leaf_step frames token.SeverityText at tree e = ap (λ (o : Option Tree). m.leaf_next frames o) e
leaf_step frames token.Not at tree e = absurd (cc e)
leaf_step frames token.And at tree e = absurd (cc e)
leaf_step frames token.Or at tree e = absurd (cc e)
leaf_step frames (token.Compares c) at tree e = absurd (cc e)
leaf_step frames token.Matches at tree e = absurd (cc e)
leaf_step frames token.OpenGroup at tree e = absurd (cc e)
leaf_step frames token.CloseGroup at tree e = absurd (cc e)
leaf_step frames token.OpenList at tree e = absurd (cc e)
leaf_step frames token.CloseList at tree e = absurd (cc e)
leaf_step frames token.Comma at tree e = absurd (cc e)

-- the first item is taken as the others are
first_step : (frames : List m.Frame) (word : Token) (value : Datum) → constant_of word ≡ Some value → m.first_item_step frames word ≡ m.item_step frames [] word
first_step frames token.Null value e = refl
first_step frames (token.Bool b) value e = refl
first_step frames (token.Int z) value e = refl
first_step frames (token.Text bytes) value e = refl
first_step frames (token.Path place) value e = refl
first_step frames token.SeverityNumber value e = refl
first_step frames token.SeverityText value e = refl
first_step frames token.Not value e = refl
first_step frames token.And value e = refl
first_step frames token.Or value e = refl
first_step frames (token.Compares c) value e = refl
first_step frames token.Matches value e = refl
first_step frames token.OpenGroup value e = refl
first_step frames token.CloseGroup value e = refl
first_step frames token.OpenList value e = refl
first_step frames token.CloseList value e = absurd (cc e)
first_step frames token.Comma value e = refl

abbrev after : List m.Frame → List Datum → m.State
after frames values = record { phase = m.after_item values; frames = frames }

abbrev before : List m.Frame → List Datum → m.State
before frames values = record { phase = m.next_item values; frames = frames }

item_step_is : (frames : List m.Frame) (values : List Datum) (word : Token) (value : Datum) → constant_of word ≡ Some value → m.item_step frames values word ≡ Some (after frames (values ++ value ∷ []))
item_step_is frames values word value e = ap (λ (o : Option Datum). m.item_next frames values o) e

-- items lead from one phase to the other; the step of the first is given
items_lead : {row : List Placed} {values : List Datum} → SpellsItems row values → (frames : List m.Frame) (had : List Datum) (s : m.State)
    → ((word : Token) (at : ℕ) (value : Datum) → constant_of word ≡ Some value → m.step s word at ≡ Some (after frames (had ++ value ∷ [])))
    → Leads s row (after frames (had ++ values))
items_lead (last {word} {at} {value} e) frames had s first = one s (after frames (had ++ value ∷ [])) word at [] _ (first word at value e) (stays _)
items_lead (next {word} {at} {comma} {value} {row} {values} e more) frames had s first =
    let now = had ++ value ∷ [] in
    one s (after frames now) word at ((token.Comma, comma) ∷ row) _ (first word at value e)
    (one (after frames now) (before frames now) token.Comma comma row _ refl
    (to (before frames now) row _ _ (ap (after frames) (append_assoc had (value ∷ []) values))
    (items_lead more frames now (before frames now) (λ w p v k. item_step_is frames now w v k))))

-- one more item
pub items_more : {part : List Placed} {values : List Datum} → SpellsItems part values → (comma : ℕ) (word : Token) (at : ℕ) (value : Datum) → constant_of word ≡ Some value
    → SpellsItems (part ++ (token.Comma, comma) ∷ (word, at) ∷ []) (values ++ value ∷ [])
items_more (last e) comma word at value k = next e (last k)
items_more (next e more) comma word at value k = next e (items_more more comma word at value k)

opens : (frames : List m.Frame) (inside : m.State) (n : ℕ) → suc n + m.depth frames ≤ 32 → m.opened frames inside ≡ Some inside
opens frames inside n h = let e : nat_lt (m.depth frames) 32 ≡ true = grind (arith, nat_tests) in rw e refl

-- how the words of each level lead on from where an operand is wanted
abbrev Outcome : Level → List m.Frame → List Placed → Tree → Type 0
Outcome Primary frames row tree = Leads (m.waiting frames) row (m.settled frames tree)
Outcome Unary frames row tree = Leads (m.waiting frames) row (m.settled frames tree)
Outcome Compared frames row tree = ((t : Tree) → m.settled frames t ≡ m.standing frames t false)
    → (c : Bool) × Leads (m.waiting frames) row (m.standing frames tree c)
Outcome Conjoined frames row tree = ((t : Tree) → m.settled frames t ≡ m.standing frames t false) → ((t : Tree) → m.joined_and frames t ≡ (frames, t))
    → (inner : List m.Frame) × (t : Tree) × (c : Bool) × Leads (m.waiting frames) row (m.standing inner t c) × (m.joined_and inner t ≡ (frames, tree))
Outcome Disjoined frames row tree = ((t : Tree) → m.settled frames t ≡ m.standing frames t false) → ((t : Tree) → m.joined_and frames t ≡ (frames, t))
    → ((t : Tree) → m.joined_or frames t ≡ (frames, t))
    → (inner : List m.Frame) × (t : Tree) × (c : Bool) × Leads (m.waiting frames) row (m.standing inner t c) × (m.joined inner t ≡ (frames, tree))

and_step : (inner : List m.Frame) (t : Tree) (c : Bool) (at : ℕ) (frames : List m.Frame) (left : Tree) → m.joined_and inner t ≡ (frames, left)
    → m.step (m.standing inner t c) token.And at ≡ Some (m.waiting (m.conjoined_to at left ∷ frames))
and_step inner t true at frames left e = ap (λ (j : List m.Frame × Tree). Some (m.waiting (m.conjoined_to at j.1 ∷ j.0))) e
and_step inner t false at frames left e = ap (λ (j : List m.Frame × Tree). Some (m.waiting (m.conjoined_to at j.1 ∷ j.0))) e

or_step : (inner : List m.Frame) (t : Tree) (c : Bool) (at : ℕ) (frames : List m.Frame) (left : Tree) → m.joined inner t ≡ (frames, left)
    → m.step (m.standing inner t c) token.Or at ≡ Some (m.waiting (m.disjoined_to at left ∷ frames))
or_step inner t true at frames left e = ap (λ (j : List m.Frame × Tree). Some (m.waiting (m.disjoined_to at j.1 ∷ j.0))) e
or_step inner t false at frames left e = ap (λ (j : List m.Frame × Tree). Some (m.waiting (m.disjoined_to at j.1 ∷ j.0))) e

close_step : (inner : List m.Frame) (t : Tree) (c : Bool) (at : ℕ) (frames : List m.Frame) (tree : Tree) → m.joined inner t ≡ (m.grouped ∷ frames, tree)
    → m.step (m.standing inner t c) token.CloseGroup at ≡ Some (m.settled frames tree)
close_step inner t true at frames tree e = ap m.closed e
close_step inner t false at frames tree e = ap m.closed e

joined_of : (inner : List m.Frame) (t : Tree) (frames : List m.Frame) (tree : Tree) → m.joined_and inner t ≡ (frames, tree) → m.joined inner t ≡ m.joined_or frames tree
joined_of inner t frames tree e = ap (λ (j : List m.Frame × Tree). m.joined_or j.0 j.1) e

leads : {n : ℕ} {level : Level} {row : List Placed} {tree : Tree} → Spells n level row tree → (frames : List m.Frame) → n + m.depth frames ≤ 32 → Outcome level frames row tree
leads (leaf {depth} {word} {at} {tree} e) frames h = one (m.waiting frames) (m.settled frames tree) word at [] _ (leaf_step frames word at tree e) (stays _)
leads (no_items {depth} {at} {end}) frames h =
    let start : m.State = record { phase = m.first_item; frames = frames } in
    one (m.waiting frames) start token.OpenList at ((token.CloseList, end) ∷ []) _ (opens frames start depth h) (one start (m.listed frames []) token.CloseList end [] _ refl (stays _))
leads (items {depth} {at} end {row} {values} spells) frames h =
    let start : m.State = record { phase = m.first_item; frames = frames } in
    one (m.waiting frames) start token.OpenList at _ _ (opens frames start depth h)
    (both start (after frames values) (m.listed frames values) row ((token.CloseList, end) ∷ [])
    (items_lead spells frames [] start (λ w p v k. first_step frames w v k ∙ item_step_is frames [] w v k))
    (one (after frames values) (m.listed frames values) token.CloseList end [] _ refl (stays _)))
leads (group {depth} {at} end {row} {tree} spells) frames h =
    let start = m.waiting (m.grouped ∷ frames) in
    let inner = leads spells (m.grouped ∷ frames) (omega arith) (λ t. refl) (λ t. refl) (λ t. refl) in
    one (m.waiting frames) start token.OpenGroup at _ _ (opens frames start depth h)
    (both start (m.standing inner.0 inner.1 inner.2) (m.settled frames tree) row ((token.CloseGroup, end) ∷ []) inner.3
    (one (m.standing inner.0 inner.1 inner.2) (m.settled frames tree) token.CloseGroup end [] _ (close_step inner.0 inner.1 inner.2 end frames tree inner.4) (stays _)))
leads (primary spells) frames h = leads spells frames h
leads (negated {depth} {at} {row} {tree} spells) frames h =
    let start = m.waiting (m.negated at ∷ frames) in
    one (m.waiting frames) start token.Not at row _ (opens frames start depth h) (leads spells (m.negated at ∷ frames) (omega arith))
leads (unary {depth} {row} {tree} spells) frames h = λ settles. (false, to (m.waiting frames) row _ _ (settles tree) (leads spells frames h))
leads (compares {depth} at operator {front} {back} {left} {right} one_side other) frames h = λ settles.
    let frame = m.compared_to operator at left in (
      true,
      both (m.waiting frames) (m.standing frames left false) (m.standing frames (comparison operator at left right) true) front _
          (to (m.waiting frames) front _ _ (settles left) (leads one_side frames h))
          (one (m.standing frames left false) (m.waiting (frame ∷ frames)) (token.Compares operator) at back _ refl (leads other (frame ∷ frames) h)),
    )
leads (matches {depth} at place pattern {front} {left} spells) frames h = λ settles.
    let wants : m.State = record { phase = m.wants_pattern at left; frames = frames } in (
      true,
      both (m.waiting frames) (m.standing frames left false) (m.standing frames (matching at left pattern) true) front _
          (to (m.waiting frames) front _ _ (settles left) (leads spells frames h))
          (one (m.standing frames left false) wants token.Matches at ((token.Text pattern, place) ∷ []) _ refl
          (one wants (m.standing frames (matching at left pattern) true) (token.Text pattern) place [] _ refl (stays _))),
    )
leads (compared {depth} {row} {tree} spells) frames h = λ settles keeps.
    let inner = leads spells frames h settles in (frames, tree, inner.0, inner.1, keeps tree)
leads (and {depth} at {front} {back} {left} {right} spells other) frames h = λ settles keeps.
    let first = leads spells frames h settles keeps in
    let frame = m.conjoined_to at left in
    let second = leads other (frame ∷ frames) h (λ t. refl) in (
      frame ∷ frames,
      right,
      second.0,
      both (m.waiting frames) (m.standing first.0 first.1 first.2) (m.standing (frame ∷ frames) right second.0) front _ first.3
          (one (m.standing first.0 first.1 first.2) (m.waiting (frame ∷ frames)) token.And at back _ (and_step first.0 first.1 first.2 at frames left first.4) second.1),
      refl,
    )
leads (conjoined {depth} {row} {tree} spells) frames h = λ settles keeps stays_or.
    let inner = leads spells frames h settles keeps in
    (inner.0, inner.1, inner.2, inner.3, joined_of inner.0 inner.1 frames tree inner.4 ∙ stays_or tree)
leads (or {depth} at {front} {back} {left} {right} spells other) frames h = λ settles keeps stays_or.
    let first = leads spells frames h settles keeps stays_or in
    let frame = m.disjoined_to at left in
    let second = leads other (frame ∷ frames) h (λ t. refl) (λ t. refl) in (
      second.0,
      second.1,
      second.2,
      both (m.waiting frames) (m.standing first.0 first.1 first.2) (m.standing second.0 second.1 second.2) front _ first.3
          (one (m.standing first.0 first.1 first.2) (m.waiting (frame ∷ frames)) token.Or at back _ (or_step first.0 first.1 first.2 at frames left first.4) second.3),
      joined_of second.0 second.1 (frame ∷ frames) right second.4,
    )

pub finishes : (row : List Placed) (tree : Tree) → Spells 32 Disjoined row tree → m.finished m.start row ≡ Some tree
finishes row tree spells =
    let inner = leads spells [] (omega arith) (λ t. refl) (λ t. refl) (λ t. refl) in
    ap (m.finished m.start) (sym (append-nil row)) ∙ inner.3 [] ∙ ap m.ended inner.4
