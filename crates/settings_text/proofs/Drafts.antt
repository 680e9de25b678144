-- Drafts that are settled one after the other.
use Rattle.std.proofs.Common.{◌≡◌, ℕ, ◌+◌, ◌<◌, List, [], ◌∷◌, ◌++◌, length, get_or, drop, Some, None, slice_index_or, refl, sym, ◌∙◌, append_assoc, add-one}
use Rattle.std.proofs.Math.Seq.{drop-cons}
use Rattle.std.proofs.lemmas.List.{append-nil}
use Rattle.std.specs.List.{remove}
use Rattle.settings_text.specs.declared.operators.Draft.{Draft}
use Rattle.settings_text.specs.Operators.{written_ids, with_ids, settled, id_of}
use Rattle.settings_text.specs.declared.settings.OpSpec.{OpSpec}

next_draft : (drafts : List Draft) (i : ℕ) (d : Draft) → i < length drafts → d ≡ get_or drafts i d → drop i drafts ≡ d ∷ drop (i + 1) drafts
next_draft drafts i d lt here = drop-cons drafts i d lt ∙ rw (← here, add-one) refl

pub adds_id : (drafts : List Draft) (i : ℕ) (d : Draft) (id : List ℕ) (front total : List (List ℕ)) → i < length drafts → d ≡ get_or drafts i d → d.id ≡ Some id
    → front ++ written_ids (drop i drafts) ≡ total → (front ++ id ∷ []) ++ written_ids (drop (i + 1) drafts) ≡ total
adds_id drafts i d id front total lt here is so_far =
    let one : front ++ written_ids (drop i drafts) ≡ (front ++ id ∷ []) ++ written_ids (drop (i + 1) drafts) = rw (next_draft drafts i d lt here, is) (simp append_assoc) in
    sym one ∙ so_far

pub adds_none : (drafts : List Draft) (i : ℕ) (d : Draft) (front total : List (List ℕ)) → i < length drafts → d ≡ get_or drafts i d → d.id ≡ None
    → front ++ written_ids (drop i drafts) ≡ total → front ++ written_ids (drop (i + 1) drafts) ≡ total
adds_none drafts i d front total lt here is so_far =
    let one : front ++ written_ids (drop i drafts) ≡ front ++ written_ids (drop (i + 1) drafts) = rw (next_draft drafts i d lt here, is) refl in
    sym one ∙ so_far

pub settles : (taken : List (List ℕ)) (d : Draft) (ds : List Draft) (front total : List OpSpec)
    → front ++ with_ids taken (d ∷ ds) ≡ total → (front ++ settled taken d ∷ []) ++ with_ids (taken ++ id_of taken d ∷ []) ds ≡ total
unfolding with_ids
settles taken d ds front total so_far = append_assoc front (settled taken d ∷ []) (with_ids (taken ++ id_of taken d ∷ []) ds) ∙ so_far

pub settles_first : (taken : List (List ℕ)) (drafts rest : List Draft) (d : Draft) (front total : List OpSpec) → (length drafts ≡ 0 → ⊥) → d ≡ slice_index_or drafts 0 d → rest ≡ remove drafts 0
    → front ++ with_ids taken drafts ≡ total → (front ++ settled taken d ∷ []) ++ with_ids (taken ++ id_of taken d ∷ []) rest ≡ total
settles_first taken [] rest d front total some is_first is_rest so_far = absurd (some refl)
settles_first taken (x ∷ drafts) rest d front total some is_first is_rest so_far =
    let is_x : d ≡ x = is_first in
    let is_drafts : rest ≡ drafts = is_rest in
    rw (is_x, is_drafts) (settles taken x drafts front total so_far)

pub all_settled : (taken : List (List ℕ)) (drafts : List Draft) (front total : List OpSpec) → length drafts ≡ 0 → front ++ with_ids taken drafts ≡ total → front ≡ total
unfolding with_ids
all_settled taken [] front total e so_far = sym (append-nil front) ∙ so_far
all_settled taken (x ∷ drafts) front total e so_far = cc
