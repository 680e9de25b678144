-- A key that stands behind the last key of a map stands behind all of them.
use Rattle.std.proofs.Common.{◌≡◌, ◌+◌, ◌-◌, ℕ, zero, suc, List, [], ◌∷◌, Some, length, Bool, true, false, true≢false, refl, sym, ap, subst, ◌∙◌, arith}
use Rattle.std.proofs.lemmas.Cmp.{nat_list_cmp_total}
use Rattle.std.proofs.lemmas.List.Elements.{All-nil, All-cons, All-head}
use Rattle.std.proofs.lemmas.Map.Keys.{sorted_head, sorted_tail}
use Rattle.std.proofs.lemmas.Option.{same_Some, none-some}
use Rattle.std.specs.List.Sorted.{IsStrictlySortedBy}
use Rattle.std.specs.Map.{keys_of}
use Rattle.std.specs.Prelude.{slice_get}
use Rattle.std.specs.Bool.{OnTrue}
use Rattle.std.specs.List.{All}
use Rattle.std.specs.Ordering.{nat_cmp, is_lt, ordering_reverse}
use Rattle.std.specs.Cmp.Lexicographic.{slice_cmp}
use Rattle.std.specs.declared.cmp.Ordering.{Ordering}
use Rattle.std.specs.declared.cmp.Ordering.TheVariants.{Less, Equal, Greater}

abbrev pub cmp : List ℕ → List ℕ → Ordering
cmp = slice_cmp nat_cmp

pub on_true : (b : Bool) {P : Type 0} → (b ≡ true → P) → OnTrue b P
on_true true h = h refl
on_true false h = tt

pub from_on_true : (b : Bool) {P : Type 0} → b ≡ true → OnTrue b P → P
from_on_true true e h = h
from_on_true false e h = absurd (true≢false (sym e))

pub less_from_test : (o : Ordering) → is_lt o ≡ true → o ≡ Less
less_from_test Less e = refl
less_from_test Equal e = absurd (true≢false (sym e))
less_from_test Greater e = absurd (true≢false (sym e))

above_more : (front k key : List ℕ) → cmp front k ≡ Less → cmp key k ≡ Greater → cmp key front ≡ Greater
above_more front k key less greater =
    nat_list_cmp_total.antisymm key front ∙ ap ordering_reverse (nat_list_cmp_total.trans front k key less (nat_list_cmp_total.antisymm k key ∙ ap ordering_reverse greater))

above_at : {X : Type 0} (es : List (List ℕ × X)) (n : ℕ) (last : List ℕ × X) (key : List ℕ) → IsStrictlySortedBy cmp (keys_of es) → n + 1 ≡ length es → slice_get es n ≡ Some last
    → is_lt (cmp last.0 key) ≡ true → All (λ (k : List ℕ). cmp key k ≡ Greater) (keys_of es)
above_at [] n last key sorted many at behind = absurd (none-some last at)
above_at (e ∷ []) zero last key sorted many at behind =
    All-cons (λ (k : List ℕ). cmp key k ≡ Greater) e.0 []
    (subst (λ (m : List ℕ × _). cmp key m.0 ≡ Greater) (sym (same_Some e last at)) (nat_list_cmp_total.antisymm key last.0 ∙ ap ordering_reverse (less_from_test (cmp last.0 key) behind)))
    (All-nil (λ (k : List ℕ). cmp key k ≡ Greater))
above_at (e ∷ []) (suc n) last key sorted many at behind = absurd (none-some last at)
above_at (e ∷ next ∷ es) zero last key sorted many at behind = absurd (omega (arith, many))
above_at (e ∷ next ∷ es) (suc n) last key sorted many at behind =
    let later = above_at (next ∷ es) n last key (sorted_tail cmp e.0 (keys_of (next ∷ es)) sorted) (omega (arith, many)) at behind in
    All-cons (λ (k : List ℕ). cmp key k ≡ Greater) e.0 (keys_of (next ∷ es))
    (above_more e.0 next.0 key ((sorted_head cmp e.0 (keys_of (next ∷ es)) sorted).0) (All-head (λ (k : List ℕ). cmp key k ≡ Greater) next.0 (keys_of es) later))
    later

-- what stands behind the last key of a map stands behind all of them
pub above_last : {X : Type 0} (es : List (List ℕ × X)) (last : List ℕ × X) (key : List ℕ) → IsStrictlySortedBy cmp (keys_of es) → slice_get es (length es - 1) ≡ Some last → is_lt (cmp last.0 key) ≡ true
    → All (λ (k : List ℕ). cmp key k ≡ Greater) (keys_of es)
above_last [] last key sorted at behind = absurd (none-some last at)
above_last {X} (e ∷ es) last key sorted at behind =
    let place : length (e ∷ es) - 1 ≡ length es = omega arith in
    above_at (e ∷ es) (length es) last key sorted (omega arith) (subst (λ (n : ℕ). slice_get (e ∷ es) n ≡ Some last) place at) behind
