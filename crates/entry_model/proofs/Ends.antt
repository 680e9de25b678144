-- A map that grows at its end.
use Rattle.std.proofs.Common.{◌≡◌, ℕ, List, [], ◌∷◌, ◌++◌, ◌∙◌, ap, sym, refl, map, subst, append_assoc, length, arith}
use Rattle.std.specs.Map.{keys_of}
use Rattle.std.specs.BTreeMap.{insert_entry}
use Rattle.std.specs.Ordering.{match_ordering, nat_cmp, ordering_reverse}
use Rattle.std.specs.declared.cmp.Ordering.{Ordering}
use Rattle.std.specs.declared.cmp.Ordering.TheVariants.{Less, Greater}
use Rattle.std.specs.Cmp.Lexicographic.{slice_cmp, nat_list_cmp_total}
use Rattle.std.specs.List.{AllByRecursion}
use Rattle.std.specs.List.Sorted.{IsStrictlySortedBy}
use Rattle.std.proofs.lemmas.Map.Keys.{sorted_head, sorted_tail}
use Rattle.entry_model.specs.declared.value.Value.{Value}
use Rattle.entry_model.specs.Datum.{Datum}
use Rattle.entry_model.specs.Places.{NamesAscend}
use Rattle.entry_model.specs.Seen.{seen, unset_of}
use Rattle.entry_model.proofs.Places.{keys_joined}

abbrev pub cmp : List ℕ → List ℕ → Ordering
cmp = slice_cmp nat_cmp

behind : (P : List ℕ → Type 0) (front : List (List ℕ)) (key : List ℕ) (rest : List (List ℕ)) → AllByRecursion P (front ++ key ∷ rest) → P key
behind P [] key rest h = h.0
behind P (k ∷ front) key rest h = behind P front key rest h.1

-- a key behind all others goes to the end
pub inserted_last : (es : List (List ℕ × Value)) (key : List ℕ) (value : Value) (rest : List (List ℕ)) → IsStrictlySortedBy cmp (keys_of es ++ key ∷ rest)
    → insert_entry cmp es key value ≡ es ++ (key, value) ∷ []
inserted_last [] key value rest s = refl
inserted_last (e ∷ es) key value rest s =
    let less : cmp e.0 key ≡ Less = behind (λ (k : List ℕ). cmp e.0 k ≡ Less) (keys_of es) key rest (sorted_head cmp e.0 (keys_of es ++ key ∷ rest) s) in
    let greater : cmp key e.0 ≡ Greater = nat_list_cmp_total.antisymm key e.0 ∙ ap ordering_reverse less in
    ap (λ (o : Ordering). match_ordering o ((key, value) ∷ e ∷ es) ((e.0, value) ∷ es) (e ∷ insert_entry cmp es key value)) greater
    ∙ ap (λ (l : List (List ℕ × Value)). e ∷ l) (inserted_last es key value rest (sorted_tail cmp e.0 (keys_of es ++ key ∷ rest) s))

pub keys-seen : (es : List (List ℕ × Value)) → map (λ (e : List ℕ × Datum). e.0) (seen es) ≡ keys_of es
keys-seen [] = refl
keys-seen (e ∷ es) = ap (λ (l : List (List ℕ)). e.0 ∷ l) (keys-seen es)

-- one member more is put behind all that are there
pub spread_more : (all done rest new : List (List ℕ × Value)) (name : List ℕ) (value : Value) → NamesAscend all → done ++ (name, value) ∷ rest ≡ all
    → new ≡ insert_entry cmp done name value → new ++ rest ≡ all
spread_more all done rest new name value s e i =
    let keys : keys_of all ≡ keys_of done ++ name ∷ keys_of rest = sym (ap keys_of e) ∙ keys_joined done ((name, value) ∷ rest) in
    let sorted : IsStrictlySortedBy cmp (keys_of done ++ name ∷ keys_of rest) = subst (λ (l : List (List ℕ)). IsStrictlySortedBy cmp l) keys s in
    let last : new ≡ done ++ (name, value) ∷ [] = i ∙ inserted_last done name value (keys_of rest) sorted in
    ap (λ (l : List (List ℕ × Value)). l ++ rest) last ∙ append_assoc done ((name, value) ∷ []) rest ∙ e

-- copies have the names
pub copies_ascend : (es fs : List (List ℕ × Value)) → seen es ≡ seen fs → NamesAscend fs → NamesAscend es
copies_ascend es fs e s =
    subst (λ (l : List (List ℕ)). IsStrictlySortedBy cmp l) (sym (keys-seen fs) ∙ ap (map (λ (m : List ℕ × Datum). m.0)) (sym e) ∙ keys-seen es) s

keys-unset : (es : List (List ℕ × Value)) → map (λ (m : List ℕ × Datum). m.0) (unset_of (seen es)) ≡ keys_of es
keys-unset [] = refl
keys-unset (e ∷ es) = ap (λ (l : List (List ℕ)). e.0 ∷ l) (keys-unset es)

-- what has the names of a map is in their order
pub unset_ascend : (es fs : List (List ℕ × Value)) → seen es ≡ unset_of (seen fs) → NamesAscend fs → NamesAscend es
unset_ascend es fs e s =
    subst (λ (l : List (List ℕ)). IsStrictlySortedBy cmp l) (sym (keys-unset fs) ∙ ap (map (λ (m : List ℕ × Datum). m.0)) (sym e) ∙ keys-seen es) s

pub nothing_left : {X : Type 0} (l : List X) → length l ≡ 0 → l ≡ []
nothing_left [] e = refl
nothing_left (x ∷ xs) e = absurd (omega (arith, e))
