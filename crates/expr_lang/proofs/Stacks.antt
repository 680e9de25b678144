-- The frames of the parser, whose last is the innermost.
use Rattle.std.proofs.Common.{◌≡◌, ◌+◌, List, [], ◌∷◌, ◌++◌, ◌∙◌, ap, sym, refl, map, reverse, cond, Bool, true, false, ◌||◌, drop, length, get_or, ℕ, ◌<◌, ◌≤◌, add-one, drop-cons, arith}
use Rattle.std.proofs.lemmas.List.{map-append, reverse-append, drop_all}
use Rattle.std.specs.List.{count_by, list_any}
use Rattle.std.proofs.lemmas.List.Recursion.{is_count_by}
use Rattle.expr_lang.specs.declared.frames.Frame as code
use Rattle.expr_lang.specs.Begun.{is_group}
use Rattle.expr_lang.specs.Machine.{Frame, frame, frames_of, nests, depth}

pub frames_snoc : (items : List code.Frame) (last : code.Frame) → frames_of (items ++ last ∷ []) ≡ frame last ∷ frames_of items
frames_snoc items last = ap reverse (map-append frame items (last ∷ [])) ∙ reverse-append (map frame items) (frame last ∷ [])

depth_append : (front back : List Frame) → depth (front ++ back) ≡ depth front + depth back
depth_append [] back = omega arith
depth_append (one ∷ front) back = by (nests one) (depth_append front back)
  where
    by : (b : Bool) → depth (front ++ back) ≡ depth front + depth back → cond b (1 + depth (front ++ back)) (depth (front ++ back)) ≡ cond b (1 + depth front) (depth front) + depth back
    by true h = omega (arith, h)
    by false h = h

step_back : (one : code.Frame) (items : List code.Frame) → depth (frames_of (one ∷ items)) ≡ cond (nests (frame one)) (1 + depth (frames_of items)) (depth (frames_of items))
step_back one items = ap depth (reverse-append (frame one ∷ []) (map frame items)) ∙ depth_append (frames_of items) (frame one ∷ []) ∙ by (nests (frame one))
  where
    by : (b : Bool) → depth (frames_of items) + cond b (1 + 0) 0 ≡ cond b (1 + depth (frames_of items)) (depth (frames_of items))
    by true = omega arith
    by false = omega arith

pub levels_counted : (items : List code.Frame) → depth (frames_of items) ≡ count_by (λ one. nests (frame one)) items
levels_counted items = is_count_by (λ items. depth (frames_of items)) (λ one. nests (frame one)) refl step_back items

any_append : (front back : List Frame) → list_any is_group (front ++ back) ≡ (list_any is_group front || list_any is_group back)
any_append [] back = refl
any_append (one ∷ front) back = by (is_group one) (any_append front back)
  where
    by : (b : Bool) → list_any is_group (front ++ back) ≡ (list_any is_group front || list_any is_group back) → (b || list_any is_group (front ++ back)) ≡ ((b || list_any is_group front) || list_any is_group back)
    by true h = refl
    by false h = h

pub groups_found : (items : List code.Frame) → list_any is_group (frames_of items) ≡ list_any (λ one. is_group (frame one)) items
groups_found [] = refl
groups_found (one ∷ items) = ap (list_any is_group) (reverse-append (frame one ∷ []) (map frame items)) ∙ any_append (frames_of items) (frame one ∷ []) ∙ by (is_group (frame one)) (list_any is_group (frames_of items)) (list_any (λ one. is_group (frame one)) items) (groups_found items)
  where
    by : (b c d : Bool) → c ≡ d → (c || (b || false)) ≡ (b || d)
    by true true d e = refl
    by true false d e = refl
    by false true d e = e
    by false false d e = e

pub group_step : (items : List code.Frame) (i : ℕ) (d : code.Frame) → i < length items
    → list_any (λ one. is_group (frame one)) (drop i items) ≡ (is_group (frame (get_or items i d)) || list_any (λ one. is_group (frame one)) (drop (i + 1) items))
group_step items i d h = rw (add-one, drop-cons items i d) refl

pub group_end : (items : List code.Frame) (i : ℕ) → length items ≤ i → list_any (λ one. is_group (frame one)) (drop i items) ≡ false
group_end items i h = rw (drop_all i items h) refl

pub group_found : (items : List code.Frame) (i : ℕ) (d : code.Frame) → list_any (λ one. is_group (frame one)) items ≡ list_any (λ one. is_group (frame one)) (drop i items)
    → i < length items → is_group (frame (get_or items i d)) ≡ true → true ≡ list_any is_group (frames_of items)
group_found items i d kept inside is = sym (groups_found items ∙ kept ∙ group_step items i d inside ∙ ap (λ (b : Bool). b || list_any (λ one. is_group (frame one)) (drop (i + 1) items)) is)
