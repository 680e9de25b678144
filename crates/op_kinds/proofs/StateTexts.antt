-- Texts that stand for states.
use Rattle.std.proofs.Common.{◌≡◌, ℕ, zero, suc, ◌<◌, List, [], ◌∷◌, Bool, true, false, true≢false, cond, get_or, Ok, Err, arith, refl, sym, ap, subst, ◌∙◌}
use Rattle.std.specs.Prelude.{not, map}
use Rattle.std.specs.Str.{bytes_eq}
use Rattle.std.proofs.lemmas.Bool.{ne_eqb, and_parts, and_from}
use Rattle.std.proofs.lemmas.Slice.Eq.{bytes_eq-Decides}
use Rattle.graph_core.specs.declared.NodeSpec.{NodeSpec}
use Rattle.op_kinds.specs.Flat.{flat_states}
use Rattle.op_kinds.specs.Kept.{Kept, keeps_groups}
use Rattle.op_kinds.specs.Operator.{Operator}
use Rattle.op_kinds.specs.States.{kinds_of, states_spelling, all_at, fresh_states, SpellOf, Spell, SpellNoneOf}
use Rattle.op_kinds.specs.StateTexts.{no_byte, flat, or_fresh, states_in, kinds_in, are_told, state_text, same_kind, are_of_kinds, is_state_text, Tells}
use Rattle.op_kinds.proofs.States.{Are, fresh_spelled, first_kind, other_kinds, read_is_spelled, spelled_is_read}
use Rattle.state_codec.proofs.Numbers.{IsBytes}
use Rattle.state_codec.specs.Reading.{Reading}

-- ---- states as numbers

flat_back : (states : List Kept) → (flat_states.get (flat states)).0 ≡ states
flat_back states = ap (λ (p : List Kept × List ℕ). p.0) (flat_states.back states [])

one_flat : (states others : List Kept) → flat states ≡ flat others → states ≡ others
one_flat states others same = sym (flat_back states) ∙ ap (λ (ns : List ℕ). (flat_states.get ns).0) same ∙ flat_back others

-- ---- a text gives back the states for which it stands

told_back : (states : List Kept) → are_told states ≡ true → states_in (kinds_in states) (states_spelling states) ≡ states
told_back states told =
    one_flat (states_in (kinds_in states) (states_spelling states)) states ((bytes_eq-Decides (flat (states_in (kinds_in states) (states_spelling states))) (flat states)).0 told)

own_back : (states : List Kept) → states_in (kinds_in states) (state_text states) ≡ states
unfolding state_text
own_back states = by (are_told states) refl
  where
    by : (b : Bool) → are_told states ≡ b → states_in (kinds_in states) (cond b (states_spelling states) (no_byte ∷ flat states)) ≡ states
    by true told = told_back states told
    by false told = flat_back states

pub text_back : (kinds : List Bool) (states : List Kept) → Are kinds states → states_in kinds (state_text states) ≡ states
text_back kinds states are = ap (λ (bs : List Bool). states_in bs (state_text states)) (sym are) ∙ own_back states

-- ---- bytes

bytes_in : (kinds : List Bool) (text : List ℕ) → IsBytes text → states_in kinds text ≡ or_fresh kinds (all_at kinds text)
bytes_in kinds [] fits = refl
bytes_in kinds (byte ∷ rest) fits =
    let low : byte < 256 = fits 0 in
    ap (λ (b : Bool). cond b (flat_states.get rest).0 (or_fresh kinds (all_at kinds (byte ∷ rest)))) (ne_eqb byte no_byte (λ same. omega (arith, low, same)))

pub spelled_in : (kinds : List Bool) (text : List ℕ) (states : List Kept) → IsBytes text → SpellOf kinds text states → states_in kinds text ≡ states
spelled_in kinds text states fits spell = bytes_in kinds text fits ∙ ap (or_fresh kinds) (spelled_is_read kinds text states spell)

-- states with a spelling stand in it
pub spelled_text : (kinds : List Bool) (text : List ℕ) (states : List Kept) → IsBytes text → SpellOf kinds text states → state_text states ≡ text
unfolding state_text
spelled_text kinds text states fits spell =
    let back : states_in (kinds_in states) (states_spelling states) ≡ states =
    subst (λ (t : List ℕ). states_in (kinds_in states) t ≡ states) spell.spelled (ap (λ (bs : List Bool). states_in bs text) spell.kinds ∙ spelled_in kinds text states fits spell) in
    ap (λ (b : Bool). cond b (states_spelling states) (no_byte ∷ flat states)) ((bytes_eq-Decides (flat (states_in (kinds_in states) (states_spelling states))) (flat states)).1 (ap flat back))
    ∙ sym spell.spelled

-- ---- kinds

same_kind_is : (a b : Bool) → a ≡ b → same_kind a b ≡ true
same_kind_is true b is = sym is
same_kind_is false b is = ap not (sym is)

kind_same : (a b : Bool) → same_kind a b ≡ true → a ≡ b
kind_same true b is = sym is
kind_same false true is = absurd (true≢false (sym is))
kind_same false false is = refl

pub kinds_test : (kinds : List Bool) (states : List Kept) → Are kinds states → are_of_kinds kinds states ≡ true
kinds_test [] [] is = refl
kinds_test [] (kept ∷ states) is = cc is
kinds_test (kind ∷ kinds) [] is = cc is
kinds_test (kind ∷ kinds) (kept ∷ states) is =
    and_from (same_kind (keeps_groups kept) kind) (are_of_kinds kinds states) (same_kind_is (keeps_groups kept) kind (first_kind kind kinds kept states is))
    (kinds_test kinds states (other_kinds kind kinds kept states is))

pub test_kinds : (kinds : List Bool) (states : List Kept) → are_of_kinds kinds states ≡ true → Are kinds states
test_kinds [] [] is = refl
test_kinds [] (kept ∷ states) is = absurd (true≢false (sym is))
test_kinds (kind ∷ kinds) [] is = absurd (true≢false (sym is))
test_kinds (kind ∷ kinds) (kept ∷ states) is =
    let both = and_parts (same_kind (keeps_groups kept) kind) (are_of_kinds kinds states) is in
    ap (λ b. b ∷ map keeps_groups states) (kind_same (keeps_groups kept) kind both.0) ∙ ap (λ bs. kind ∷ bs) (test_kinds kinds states both.1)

-- ---- which texts stand for states

pub text_is_state : (kinds : List Bool) (states : List Kept) → Are kinds states → is_state_text kinds (state_text states) ≡ true
unfolding is_state_text
text_is_state kinds states are =
    let back = text_back kinds states are in
    and_from (are_of_kinds kinds (states_in kinds (state_text states))) _ (ap (are_of_kinds kinds) back ∙ kinds_test kinds states are)
    ((bytes_eq-Decides (state_text (states_in kinds (state_text states))) (state_text states)).1 (ap state_text back))

pub record Stands (kinds : List Bool) (text : List ℕ) : Type 0 where
  pub are : Are kinds (states_in kinds text)
  pub same : state_text (states_in kinds text) ≡ text

pub state_stands : (kinds : List Bool) (text : List ℕ) → is_state_text kinds text ≡ true → Stands kinds text
unfolding is_state_text
state_stands kinds text is =
    let both = and_parts (are_of_kinds kinds (states_in kinds text)) (bytes_eq (state_text (states_in kinds text)) text) is in
    record { are = test_kinds kinds (states_in kinds text) both.0; same = (bytes_eq-Decides (state_text (states_in kinds text)) text).0 both.1 }

-- a text of bytes that stands for states spells them
told_spells : (kinds : List Bool) (text : List ℕ) (states : List Kept) → IsBytes text → Are kinds states → states_in kinds text ≡ states → state_text states ≡ text → SpellOf kinds text states
unfolding state_text
told_spells kinds text states fits are in_it = by (are_told states) refl
  where
    first_low : (ns : List ℕ) → no_byte ∷ ns ≡ text → ⊥
    first_low ns same = let low : get_or (no_byte ∷ ns) 0 0 < 256 = subst (λ (t : List ℕ). get_or t 0 0 < 256) (sym same) (fits 0) in omega (arith, low)

    from_reading : (r : Reading (List Kept)) → all_at kinds text ≡ r → or_fresh kinds r ≡ states → states_spelling states ≡ text → SpellOf kinds text states
    from_reading (Ok x) read is same = subst (SpellOf kinds text) is (read_is_spelled kinds text x fits read)
    from_reading (Err left) read is same =
        subst (λ (t : List ℕ). SpellOf kinds t states) same (subst (λ (ks : List Kept). SpellOf kinds (states_spelling ks) ks) is (fresh_spelled kinds))

    by : (b : Bool) → are_told states ≡ b → cond b (states_spelling states) (no_byte ∷ flat states) ≡ text → SpellOf kinds text states
    by true told same = from_reading (all_at kinds text) refl (sym (bytes_in kinds text fits) ∙ in_it) same
    by false told same = absurd (first_low (flat states) same)

pub state_is_spelled : (kinds : List Bool) (text : List ℕ) → IsBytes text → is_state_text kinds text ≡ true → SpellOf kinds text (states_in kinds text)
state_is_spelled kinds text fits is =
    let s = state_stands kinds text is in
    told_spells kinds text (states_in kinds text) fits s.are refl s.same

pub refused_is_none : (kinds : List Bool) (text : List ℕ) (at : ℕ) → IsBytes text → SpellNoneOf kinds text at → is_state_text kinds text ≡ false
refused_is_none kinds text at fits none = by (is_state_text kinds text) refl
  where
    by : (b : Bool) → is_state_text kinds text ≡ b → is_state_text kinds text ≡ false
    by true is = absurd (none.none (states_in kinds text) (state_is_spelled kinds text fits is))
    by false is = is

pub told_in : (nodes : List (NodeSpec Operator)) (text : List ℕ) (states : List Kept) → Tells nodes text states → states_in (kinds_of nodes) text ≡ states
told_in nodes text states tells = ap (states_in (kinds_of nodes)) tells.told ∙ text_back (kinds_of nodes) states tells.kinds

pub spelled_tells : (nodes : List (NodeSpec Operator)) (text : List ℕ) (states : List Kept) → IsBytes text → Spell nodes text states → Tells nodes text states
spelled_tells nodes text states fits spell = record { kinds = spell.kinds; told = sym (spelled_text (kinds_of nodes) text states fits spell) }

-- ---- the first states are bytes

more_bytes : (byte : ℕ) (rest : List ℕ) → byte < 256 → IsBytes rest → IsBytes (byte ∷ rest)
more_bytes byte rest low fits = at
  where
    at : (i : ℕ) → get_or (byte ∷ rest) i 0 < 256
    at zero = low
    at (suc i) = fits i

pub fresh_bytes : (kinds : List Bool) → IsBytes (states_spelling (fresh_states kinds))
fresh_bytes [] = λ i. omega arith
fresh_bytes (false ∷ kinds) = fresh_bytes kinds
fresh_bytes (true ∷ kinds) =
    let text : List ℕ = states_spelling (fresh_states kinds) in
    more_bytes 0 (0 ∷ 0 ∷ 0 ∷ text) (omega arith) (more_bytes 0 (0 ∷ 0 ∷ text) (omega arith) (more_bytes 0 (0 ∷ text) (omega arith) (more_bytes 0 text (omega arith) (fresh_bytes kinds))))
