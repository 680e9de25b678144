-- A part of a text, as `contains` finds it.
use Rattle.std.proofs.Common.{◌≡◌, ℕ, List, [], ◌∷◌, ◌++◌, ◌∙◌, ap, sym, refl, subst, length, take, drop, Bool, true, false, ◌||◌, eqb}
use Rattle.std.proofs.Common.{None}
use Rattle.std.specs.Bool.{MatchBool}
use Rattle.std.specs.List.{starts_with}
use Rattle.std.specs.Str.Pattern.{FindsText, HasMatch}
use Rattle.std.specs.Str.Iter.{HasSubslice}
use Rattle.std.proofs.Math.Seq.{take-append_seam}
use Rattle.std.proofs.lemmas.List.{take-append-drop}
use Rattle.std.proofs.lemmas.Slice.Eq.{bytes_eq-Decides}
use Rattle.std.proofs.lemmas.Str.Pattern.{contains_text}
use Rattle.expr_lang.specs.Kinds.{has_part}

pub alike : (a b : Bool) → (a ≡ true → b ≡ true) → (b ≡ true → a ≡ true) → a ≡ b
alike true b f g = sym (f refl)
alike false true f g = g refl
alike false false f g = refl

either : (a b : Bool) (P : Type 0) → (a || b) ≡ true → (a ≡ true → P) → (b ≡ true → P) → P
either true b P h f g = f refl
either false b P h f g = g h

left_or : (a b : Bool) → a ≡ true → (a || b) ≡ true
left_or true b h = refl
left_or false b h = absurd (cc h)

right_or : (a b : Bool) → b ≡ true → (a || b) ≡ true
right_or true b h = refl
right_or false b h = h

begins : (bytes part : List ℕ) → starts_with eqb bytes part ≡ true → bytes ≡ part ++ drop (length part) bytes
begins bytes part h =
    let e : part ≡ take (length part) bytes = (bytes_eq-Decides part (take (length part) bytes)).0 h in
    sym (take-append-drop (length part) bytes) ∙ ap (λ (l : List ℕ). l ++ drop (length part) bytes) (sym e)

begins_with : (part rest : List ℕ) → starts_with eqb (part ++ rest) part ≡ true
begins_with part rest = (bytes_eq-Decides part (take (length part) (part ++ rest))).1 (sym (take-append_seam part rest))

part_there : (bytes part : List ℕ) → has_part bytes part ≡ true → HasSubslice bytes part
part_there [] part h = ([], drop (length part) [], begins [] part h)
part_there (byte ∷ bytes) part h =
    either (starts_with eqb (byte ∷ bytes) part) (has_part bytes part) (HasSubslice (byte ∷ bytes) part) h
    (λ k. ([], drop (length part) (byte ∷ bytes), begins (byte ∷ bytes) part k))
    (λ k. let inner = part_there bytes part k in (byte ∷ inner.0, inner.1, ap (λ (l : List ℕ). byte ∷ l) inner.2))

at_front : (bytes part rest : List ℕ) → bytes ≡ part ++ rest → has_part bytes part ≡ true
at_front [] part rest e = subst (λ (l : List ℕ). starts_with eqb l part ≡ true) (sym e) (begins_with part rest)
at_front (byte ∷ bytes) part rest e =
    left_or (starts_with eqb (byte ∷ bytes) part) (has_part bytes part) (subst (λ (l : List ℕ). starts_with eqb l part ≡ true) (sym e) (begins_with part rest))

part_at : (front part rest : List ℕ) → has_part (front ++ (part ++ rest)) part ≡ true
part_at [] part rest = at_front (part ++ rest) part rest refl
part_at (byte ∷ front) part rest =
    right_or (starts_with eqb (byte ∷ (front ++ (part ++ rest))) part) (has_part (front ++ (part ++ rest)) part) (part_at front part rest)

pub part_found : (r : Bool) (part bytes : List ℕ) → MatchBool r (HasMatch (FindsText part) bytes) (FindsText part bytes None) → r ≡ has_part bytes part
part_found r part bytes h =
    let found = contains_text r part bytes h in
    alike r (has_part bytes part)
    (λ k. let p = found.0 k in subst (λ (l : List ℕ). has_part l part ≡ true) (sym p.2) (part_at p.0 part p.1))
    (λ k. found.1 (part_there bytes part k))
