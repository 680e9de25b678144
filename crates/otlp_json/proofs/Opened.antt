-- The members of a map, where what stands ahead of a member and the front of it are written as one.
use Rattle.std.proofs.Common.{◌≡◌, ◌≤◌, ℕ, List, [], ◌∷◌, ◌++◌, ◌∙◌, refl, sym, ap, append-nil, codes, drop, length}
use Rattle.std.proofs.lemmas.List.{append_assoc, drop_all}
use Rattle.entry_model.specs.declared.value.Value.{Value}
use Rattle.entry_model.specs.Datum.{Members, no_members, member}
use Rattle.field_paths.specs.MapOf.{members_seen}
use Rattle.otlp_json.specs.Escaped.{escaped}
use Rattle.otlp_json.specs.ValueText.{value_text, members_text}

-- the members, with `opening` ahead of the first's key
abbrev pub opened : List ℕ → Members → List ℕ
opened opening no_members = []
opened opening (member key value rest) =
    opening ++ escaped key ++ codes "\",\"value\":" ++ value_text value ++ codes "}" ++ opened (codes ",{\"key\":\"") rest

as_one : (before front key between value end more : List ℕ)
    → before ++ front ++ key ++ between ++ value ++ end ++ more ≡ before ++ (front ++ key ++ between ++ value ++ end) ++ more
as_one before front key between value end more = simp append_assoc

pub opened_is : (before : List ℕ) (members : Members) → opened (before ++ codes "{\"key\":\"") members ≡ members_text before members
opened_is before no_members = refl
opened_is before (member key value rest) =
    ap (λ more. before ++ codes "{\"key\":\"" ++ escaped key ++ codes "\",\"value\":" ++ value_text value ++ codes "}" ++ more) (opened_is (codes ",") rest)
    ∙ as_one before (codes "{\"key\":\"") (escaped key) (codes "\",\"value\":") (value_text value) (codes "}") (members_text (codes ",") rest)

pub bracketed : (es : List (List ℕ × Value)) → (length es ≡ 0 → ⊥) → members_text (codes "[") (members_seen es) ≡ codes "[" ++ members_text [] (members_seen es)
bracketed [] some = absurd (some refl)
bracketed (e ∷ es) some = refl

-- when no member is left
pub all_opened : (front opening start out : List ℕ) (es : List (List ℕ × Value)) (i : ℕ) → length es ≤ i
    → out ++ opened front (members_seen (drop i es)) ≡ start ++ opened opening (members_seen es) → out ≡ start ++ opened opening (members_seen es)
all_opened front opening start out es i end so_far =
    sym (append-nil out) ∙ ap (λ (left : List (List ℕ × Value)). out ++ opened front (members_seen left)) (sym (drop_all i es end)) ∙ so_far
