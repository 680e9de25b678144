-- The table of open groups: what changes at one place, and what holds of all of it.
use Rattle.std.proofs.Common.{eq-eqb, None, Some, Option, ◌≡◌, ℕ, zero, suc, inl, inr, ◌+◌, ◌-◌, ◌<◌, ◌≤◌, true, false, List, [], ◌∷◌, ◌++◌, length, take, drop, get_or, set, refl, sym, ap, subst, ◌∙◌, append_assoc, arith}
use Rattle.std.specs.Prelude.{bytes_eq, remove, string_bytes}
use Rattle.std.specs.Option.{IsSome, option_to_list}
use Rattle.std.proofs.lemmas.Bool.{cases_Bool}
use Rattle.memchr.specs.Find.{Nowhere, Passes, is_byte}
use Rattle.std.proofs.lemmas.List.{get_or_at, get_or-drop, take_all, map-append, map-set, set_at, take_at, drop_at, length-map, length-append, length-set, length-drop, length_push, same_from_push}
use Rattle.std.proofs.lemmas.List.Sums.{sum_by-cons, sum_by-append}
use Rattle.std.proofs.lemmas.Slice.Eq.{bytes_eq-Decides}
use Rattle.recombine.specs.Limits.{group_limit, batch_limit}
use Rattle.recombine.specs.declared.group.OpenGroup.{OpenGroup}
use Rattle.recombine.specs.Group.{Group}
use Rattle.recombine.specs.Sources.{is_of, AreOfOthers}
use Rattle.recombine.specs.Steps.{text_bytes}
use Rattle.recombine.specs.Table.{Held, group_seen, held_seen, groups_seen, IsOpen, AreOpen, IsTable, IsAt, IsFound, IsPlace, Changes, Tells, mark_of, marks_of, without}

-- ---- sources

pub same_source : (s t : List ℕ) → bytes_eq s t ≡ true → s ≡ t
same_source s t e = (bytes_eq-Decides s t).0 e

pub is_same : (s t : List ℕ) → s ≡ t → bytes_eq s t ≡ true
is_same s t e = (bytes_eq-Decides s t).1 e

pub others_append : (s : List ℕ) (xs ys : List Group) → AreOfOthers s xs → AreOfOthers s ys → AreOfOthers s (xs ++ ys)
others_append s [] ys front back = back
others_append s (x ∷ xs) ys front back = (front.0, others_append s xs ys front.1 back)

pub others_front : (s : List ℕ) (xs ys : List Group) → AreOfOthers s (xs ++ ys) → AreOfOthers s xs
others_front s [] ys all = tt
others_front s (x ∷ xs) ys all = (all.0, others_front s xs ys all.1)

pub others_back : (s : List ℕ) (xs ys : List Group) → AreOfOthers s (xs ++ ys) → AreOfOthers s ys
others_back s [] ys all = all
others_back s (x ∷ xs) ys all = others_back s xs ys all.1

-- ---- open groups

pub open_front : (xs ys : List Group) → AreOpen (xs ++ ys) → AreOpen xs
open_front [] ys all = tt
open_front (x ∷ xs) ys all = (all.0, (others_front x.source xs ys all.1.0, open_front xs ys all.1.1))

pub open_back : (xs ys : List Group) → AreOpen (xs ++ ys) → AreOpen ys
open_back [] ys all = all
open_back (x ∷ xs) ys all = open_back xs ys all.1.1

-- a group in the place of another of the same source
others_put : (s : List ℕ) (xs ys : List Group) (g h : Group) → h.source ≡ g.source → AreOfOthers s (xs ++ g ∷ ys) → AreOfOthers s (xs ++ h ∷ ys)
others_put s [] ys g h same all = (ap (bytes_eq s) same ∙ all.0, all.1)
others_put s (x ∷ xs) ys g h same all = (all.0, others_put s xs ys g h same all.1)

pub open_put : (xs ys : List Group) (g h : Group) → h.source ≡ g.source → IsOpen h → AreOpen (xs ++ g ∷ ys) → AreOpen (xs ++ h ∷ ys)
open_put [] ys g h same one all = (one, (subst (λ (s : List ℕ). AreOfOthers s ys) (sym same) all.1.0, all.1.1))
open_put (x ∷ xs) ys g h same one all = (all.0, (others_put x.source xs ys g h same all.1.0, open_put xs ys g h same one all.1.1))

-- all but one
others_but : (s : List ℕ) (xs ys : List Group) (g : Group) → AreOfOthers s (xs ++ g ∷ ys) → AreOfOthers s (xs ++ ys)
others_but s [] ys g all = all.1
others_but s (x ∷ xs) ys g all = (all.0, others_but s xs ys g all.1)

pub open_but : (xs ys : List Group) (g : Group) → AreOpen (xs ++ g ∷ ys) → AreOpen (xs ++ ys)
open_but [] ys g all = all.1.1
open_but (x ∷ xs) ys g all = (all.0, (others_but x.source xs ys g all.1.0, open_but xs ys g all.1.1))

-- one more
pub other_source : (s t : List ℕ) → bytes_eq s t ≡ false → bytes_eq t s ≡ false
other_source s t e = elim (cases_Bool (bytes_eq t s)) [
  | inl is ↦ absurd (cc (e, is_same s t (sym (same_source t s is))))
  | inr isnt ↦ isnt
]

pub open_push : (xs : List Group) (g : Group) → AreOpen xs → AreOfOthers g.source xs → IsOpen g → AreOpen (xs ++ g ∷ [])
open_push [] g all new one = (one, (tt, tt))
open_push (x ∷ xs) g all new one =
    (all.0, (others_append x.source xs (g ∷ []) all.1.0 (other_source g.source x.source new.0, tt), open_push xs g all.1.1 new.1 one))

-- ---- the bytes of texts

pub bytes_append : (xs ys : List Group) → text_bytes (xs ++ ys) ≡ text_bytes xs + text_bytes ys
bytes_append xs ys = sum_by-append (λ (g : Group). length g.text) xs ys

pub bytes_cons : (g : Group) (ys : List Group) → text_bytes (g ∷ ys) ≡ length g.text + text_bytes ys
bytes_cons g ys = sum_by-cons (λ (g : Group). length g.text) g ys

pub bytes_around : (xs ys : List Group) (g : Group) → text_bytes (xs ++ g ∷ ys) ≡ text_bytes xs + (length g.text + text_bytes ys)
bytes_around xs ys g = bytes_append xs (g ∷ ys) ∙ ap (λ n. text_bytes xs + n) (bytes_cons g ys)

-- ---- the marks of sources

abbrev mark_of_group : Group → ℕ
mark_of_group group = mark_of group.source

marks_around : (xs ys : List Group) (g : Group) → marks_of (xs ++ g ∷ ys) ≡ marks_of xs ++ mark_of g.source ∷ marks_of ys
marks_around xs ys g = map-append mark_of_group xs (g ∷ ys)

remove_at : (xs ys : List ℕ) (x place : ℕ) → length xs ≡ place → remove (xs ++ x ∷ ys) place ≡ xs ++ ys
remove_at xs ys x place count =
    ap (λ (l : List ℕ). l ++ drop (suc place) (xs ++ x ∷ ys)) (take_at xs (x ∷ ys) place count)
    ∙ ap (λ (l : List ℕ). xs ++ drop (suc place) l) (sym (append_assoc xs (x ∷ []) ys))
    ∙ ap (λ (l : List ℕ). xs ++ l) (drop_at (xs ++ x ∷ []) ys (suc place) (omega (arith, length_push xs x, count)))

-- ---- a place of the groups in memory

-- the groups in front of a place, the one at it and those behind it
pub record Around (items : List Held) (place : ℕ) (g : Held) : Type 0 where
  pub before : List Held
  pub behind : List Held
  pub parts : items ≡ before ++ g ∷ behind
  pub place_is : length before ≡ place

pub around : (items : List Held) (place : ℕ) (g : Held) → place < length items → g ≡ get_or items place g → Around items place g
around [] place g in_range is = absurd (omega (arith, in_range))
around (x ∷ items) zero g in_range is = record { before = []; behind = items; parts = ap (λ (y : Held). y ∷ items) (sym is); place_is = refl }
around (x ∷ items) (suc place) g in_range is =
    let more = around items place g (omega (arith, in_range)) is in
    record { before = x ∷ more.before; behind = more.behind; parts = ap (λ (ys : List Held). x ∷ ys) more.parts; place_is = ap (λ (n : ℕ). suc n) more.place_is }

seen_around : (items : List Held) (place : ℕ) (g : Held) (a : Around items place g) → groups_seen items ≡ groups_seen a.before ++ held_seen g ∷ groups_seen a.behind
seen_around items place g a = ap groups_seen a.parts ∙ map-append held_seen a.before (g ∷ a.behind)

seen_count : (items : List Held) (place : ℕ) (g : Held) (a : Around items place g) → length (groups_seen a.before) ≡ place
seen_count items place g a = length-map a.before held_seen ∙ a.place_is

pub open_at : (xs ys : List Group) (g : Group) → AreOpen (xs ++ g ∷ ys) → IsOpen g
open_at xs ys g all = (open_back xs (g ∷ ys) all).0

-- ---- another group in the place of one

set_around : (items : List Held) (place : ℕ) (g h : Held) (a : Around items place g) → groups_seen (set items place h) ≡ groups_seen a.before ++ held_seen h ∷ groups_seen a.behind
set_around items place g h a =
    map-set held_seen items place h ∙ ap (λ (gs : List Group). set gs place (held_seen h)) (seen_around items place g a)
    ∙ set_at (groups_seen a.before) (held_seen g) (groups_seen a.behind) (held_seen h) place (seen_count items place g a)

pub table_put : (marks : List ℕ) (items : List Held) (bytes then place : ℕ) (g h : Held) → IsTable (groups_seen items) bytes marks → place < length items → g ≡ get_or items place g
    → h.value.source ≡ g.value.source → (IsOpen (held_seen g) → IsOpen (held_seen h)) → then + length (string_bytes g.value.text) ≡ bytes + length (string_bytes h.value.text) → IsTable (groups_seen (set items place h)) then marks
table_put marks items bytes then place g h table in_range is same one sizes =
    let a = around items place g in_range is in
    let all = subst AreOpen (seen_around items place g a) table.are_open in
    let opened = open_put (groups_seen a.before) (groups_seen a.behind) (held_seen g) (held_seen h) same (one (open_at (groups_seen a.before) (groups_seen a.behind) (held_seen g) all)) all in
    let put = set_around items place g h a in
    let was : bytes ≡ text_bytes (groups_seen a.before) + (length (string_bytes g.value.text) + text_bytes (groups_seen a.behind)) =
    table.counted ∙ ap text_bytes (seen_around items place g a) ∙ bytes_around (groups_seen a.before) (groups_seen a.behind) (held_seen g) in
    let now : text_bytes (groups_seen (set items place h)) ≡ text_bytes (groups_seen a.before) + (length (string_bytes h.value.text) + text_bytes (groups_seen a.behind)) =
    ap text_bytes put ∙ bytes_around (groups_seen a.before) (groups_seen a.behind) (held_seen h) in
    record {
      are_open = subst AreOpen (sym put) opened;
      few = omega (arith, table.few, length-map (set items place h) held_seen, length-map items held_seen, length-set items place h);
      counted = omega (arith, was, now, sizes);
      marked =
          table.marked ∙ ap marks_of (seen_around items place g a) ∙ marks_around (groups_seen a.before) (groups_seen a.behind) (held_seen g)
          ∙ ap (λ (source : List ℕ). marks_of (groups_seen a.before) ++ mark_of source ∷ marks_of (groups_seen a.behind)) (sym same)
          ∙ sym (ap marks_of put ∙ marks_around (groups_seen a.before) (groups_seen a.behind) (held_seen h));
    }

-- the group at the place, as it is held there
pub table_held : (marks : List ℕ) (items : List Held) (bytes then place : ℕ) (held : Held) (g h : OpenGroup) → IsTable (groups_seen items) bytes marks → place < length items → held ≡ get_or items place held → g ≡ held.value
    → h.source ≡ g.source → (IsOpen (group_seen g) → IsOpen (group_seen h)) → then + length (string_bytes g.text) ≡ bytes + length (string_bytes h.text)
    → IsTable (groups_seen (set items place (record held { value = h }))) then marks
table_held marks items bytes then place held g h table in_range is value same one sizes =
    table_put marks items bytes then place held (record held { value = h }) table in_range is (same ∙ ap (λ (o : OpenGroup). o.source) value)
    (λ o. one (subst (λ (x : OpenGroup). IsOpen (group_seen x)) (sym value) o))
    (subst (λ (x : OpenGroup). then + length (string_bytes x.text) ≡ bytes + length (string_bytes h.text)) value sizes)

same_front : (xs ys zs us : List Group) (g h : Group) → xs ++ g ∷ ys ≡ zs ++ h ∷ us → length xs ≡ length zs → (xs ≡ zs) × ((g ≡ h) × (ys ≡ us))
same_front [] ys [] us g h e count = (refl, (cc e, cc e))
same_front [] ys (z ∷ zs) us g h e count = absurd (omega (arith, count))
same_front (x ∷ xs) ys [] us g h e count = absurd (omega (arith, count))
same_front (x ∷ xs) ys (z ∷ zs) us g h e count =
    let first : x ≡ z = cc e in
    let rest : xs ++ g ∷ ys ≡ zs ++ h ∷ us = cc e in
    let more = same_front xs ys zs us g h rest (omega (arith, count)) in
    (cc (first, more.0), more.1)

pub changes_put : (items : List Held) (place : ℕ) (g h : Held) (change : Group → List Group) → place < length items → g ≡ get_or items place g → change (held_seen g) ≡ held_seen h ∷ []
    → Changes (groups_seen items) place change (groups_seen (set items place h))
changes_put items place g h change in_range is changed before behind group parts count =
    let a = around items place g in_range is in
    let same = same_front (groups_seen a.before) (groups_seen a.behind) before behind (held_seen g) group (sym (seen_around items place g a) ∙ parts) (seen_count items place g a ∙ sym count) in
    set_around items place g h a
    ∙ ap (λ (gs : List Group). gs ++ held_seen h ∷ groups_seen a.behind) same.0
    ∙ ap (λ (gs : List Group). before ++ held_seen h ∷ gs) same.1.1
    ∙ ap (λ (gs : List Group). before ++ (gs ++ behind)) (sym changed ∙ ap change same.1.0)

pub changes_held : (items : List Held) (place : ℕ) (held : Held) (g h : OpenGroup) (change : Group → List Group) → place < length items → held ≡ get_or items place held → g ≡ held.value → change (group_seen g) ≡ group_seen h ∷ []
    → Changes (groups_seen items) place change (groups_seen (set items place (record held { value = h })))
changes_held items place held g h change in_range is value changed =
    changes_put items place held (record held { value = h }) change in_range is (subst (λ (x : OpenGroup). change (group_seen x) ≡ group_seen h ∷ []) value changed)

-- ---- a group taken out

remove_around : (items : List Held) (place : ℕ) (g : Held) (a : Around items place g) → groups_seen (remove items place) ≡ groups_seen a.before ++ groups_seen a.behind
remove_around items place g a =
    ap (λ (gs : List Held). groups_seen (remove gs place)) a.parts
    ∙ ap (λ (gs : List Held). groups_seen (gs ++ drop (suc place) (a.before ++ g ∷ a.behind))) (take_at a.before (g ∷ a.behind) place a.place_is)
    ∙ ap (λ (gs : List Held). groups_seen (a.before ++ drop (suc place) gs)) (sym (append_assoc a.before (g ∷ []) a.behind))
    ∙ ap (λ (gs : List Held). groups_seen (a.before ++ gs)) (drop_at (a.before ++ g ∷ []) a.behind (suc place) (omega (arith, length_push a.before g, a.place_is)))
    ∙ map-append held_seen a.before a.behind

pub table_remove : (marks : List ℕ) (items : List Held) (bytes place : ℕ) (g : Held) → IsTable (groups_seen items) bytes marks → place < length items → g ≡ get_or items place g
    → (length (string_bytes g.value.text) ≤ bytes) × IsTable (groups_seen (remove items place)) (bytes - length (string_bytes g.value.text)) (remove marks place)
table_remove marks items bytes place g table in_range is =
    let a = around items place g in_range is in
    let all = subst AreOpen (seen_around items place g a) table.are_open in
    let gone = remove_around items place g a in
    let was : bytes ≡ text_bytes (groups_seen a.before) + (length (string_bytes g.value.text) + text_bytes (groups_seen a.behind)) =
    table.counted ∙ ap text_bytes (seen_around items place g a) ∙ bytes_around (groups_seen a.before) (groups_seen a.behind) (held_seen g) in
    let now : text_bytes (groups_seen (remove items place)) ≡ text_bytes (groups_seen a.before) + text_bytes (groups_seen a.behind) =
    ap text_bytes gone ∙ bytes_append (groups_seen a.before) (groups_seen a.behind) in
    let count : length (groups_seen (remove items place)) ≡ length (groups_seen a.before) + length (groups_seen a.behind) = ap length gone ∙ length-append (groups_seen a.before) (groups_seen a.behind) in
    let old : length (groups_seen items) ≡ length (groups_seen a.before) + suc (length (groups_seen a.behind)) =
    ap length (seen_around items place g a) ∙ length-append (groups_seen a.before) (held_seen g ∷ groups_seen a.behind) in (
      omega (arith, was),
      record {
        are_open = subst AreOpen (sym gone) (open_but (groups_seen a.before) (groups_seen a.behind) (held_seen g) all);
        few = omega (arith, table.few, count, old);
        counted = omega (arith, was, now);
        marked =
            ap (λ (l : List ℕ). remove l place) (table.marked ∙ ap marks_of (seen_around items place g a) ∙ marks_around (groups_seen a.before) (groups_seen a.behind) (held_seen g))
            ∙ remove_at (marks_of (groups_seen a.before)) (marks_of (groups_seen a.behind)) (mark_of g.value.source) place (length-map (groups_seen a.before) mark_of_group ∙ seen_count items place g a)
            ∙ sym (ap marks_of gone ∙ map-append mark_of_group (groups_seen a.before) (groups_seen a.behind));
      },
    )

pub changes_remove : (items : List Held) (place : ℕ) (g : Held) → place < length items → g ≡ get_or items place g
    → Changes (groups_seen items) place without (groups_seen (remove items place)) × ((before behind : List Group) (group : Group) → groups_seen items ≡ before ++ group ∷ behind → length before ≡ place → held_seen g ≡ group)
changes_remove items place g in_range is =
    let a = around items place g in_range is in (
      λ before behind group parts count.
          (let same = same_front (groups_seen a.before) (groups_seen a.behind) before behind (held_seen g) group (sym (seen_around items place g a) ∙ parts) (seen_count items place g a ∙ sym count) in
          remove_around items place g a ∙ ap (λ (gs : List Group). gs ++ groups_seen a.behind) same.0 ∙ ap (λ (gs : List Group). before ++ gs) same.1.1),
      λ before behind group parts count.
          (same_front (groups_seen a.before) (groups_seen a.behind) before behind (held_seen g) group (sym (seen_around items place g a) ∙ parts) (seen_count items place g a ∙ sym count)).1.0,
    )

-- ---- a group put behind the others

pub seen_push : (items : List Held) (g : Held) → groups_seen (items ++ g ∷ []) ≡ groups_seen items ++ held_seen g ∷ []
seen_push items g = map-append held_seen items (g ∷ [])

-- a mark that was put behind the others, and taken back
pub marks_back : (marks back : List ℕ) (mark : ℕ) (taken : Option ℕ) → IsSome taken → marks ++ mark ∷ [] ≡ back ++ option_to_list taken → back ≡ marks
marks_back marks back mark None some e = absurd (cc some)
marks_back marks back mark (Some last) some e = (same_from_push back marks last mark (sym e)).0

pub table_push : (marks : List ℕ) (items : List Held) (bytes : ℕ) (g : Held) → IsTable (groups_seen items) bytes marks → AreOfOthers g.value.source (groups_seen items) → IsOpen (held_seen g) → length (groups_seen items) < group_limit
    → IsTable (groups_seen (items ++ g ∷ [])) (bytes + length (string_bytes g.value.text)) (marks ++ mark_of g.value.source ∷ [])
table_push marks items bytes g table new one room =
    let put = seen_push items g in
    record {
      are_open = subst AreOpen (sym put) (open_push (groups_seen items) (held_seen g) table.are_open new one);
      few = omega (arith, room, ap length put, length_push (groups_seen items) (held_seen g));
      counted = ap (λ n. n + length (string_bytes g.value.text)) table.counted
          ∙ sym (ap text_bytes put ∙ bytes_append (groups_seen items) (held_seen g ∷ []) ∙ ap (λ n. text_bytes (groups_seen items) + n) (bytes_cons (held_seen g) [] ∙ omega arith));
      marked = ap (λ (l : List ℕ). l ++ mark_of g.value.source ∷ []) table.marked ∙ sym (ap marks_of put ∙ map-append mark_of_group (groups_seen items) (held_seen g ∷ []));
    }

-- ---- looking for a source

pub others_next : (s : List ℕ) (items : List Held) (place : ℕ) (g : Held) → place < length items → g ≡ get_or items place g → is_of s (held_seen g) ≡ false
    → AreOfOthers s (groups_seen (take place items)) → AreOfOthers s (groups_seen (take (place + 1) items))
others_next s items place g in_range is other so_far =
    let a = around items place g in_range is in
    let front : take place items ≡ a.before = ap (take place) a.parts ∙ take_at a.before (g ∷ a.behind) place a.place_is in
    let next : take (place + 1) items ≡ a.before ++ g ∷ [] =
    ap (take (place + 1)) (a.parts ∙ sym (append_assoc a.before (g ∷ []) a.behind)) ∙ take_at (a.before ++ g ∷ []) a.behind (place + 1) (omega (arith, length_push a.before g, a.place_is)) in
    subst (λ (gs : List Held). AreOfOthers s (groups_seen gs)) (sym next)
    (subst (AreOfOthers s) (sym (seen_push a.before g)) (others_append s (groups_seen a.before) (held_seen g ∷ []) (subst (λ (gs : List Held). AreOfOthers s (groups_seen gs)) front so_far) (other, tt)))

pub at_place : (s : List ℕ) (marks : List ℕ) (items : List Held) (bytes place : ℕ) (g : Held) → IsTable (groups_seen items) bytes marks → place < length items → g ≡ get_or items place g → is_of s (held_seen g) ≡ true
    → AreOfOthers s (groups_seen (take place items)) → IsAt s (groups_seen items) place
at_place s marks items bytes place g table in_range is own_source so_far =
    let a = around items place g in_range is in
    let front : take place items ≡ a.before = ap (take place) a.parts ∙ take_at a.before (g ∷ a.behind) place a.place_is in
    let all = open_back (groups_seen a.before) (held_seen g ∷ groups_seen a.behind) (subst AreOpen (seen_around items place g a) table.are_open) in
    record {
      before = groups_seen a.before;
      group = held_seen g;
      behind = groups_seen a.behind;
      parts = seen_around items place g a;
      place_is = seen_count items place g a;
      its_own = own_source;
      others_before = subst (λ (gs : List Held). AreOfOthers s (groups_seen gs)) front so_far;
      others_behind = subst (λ (t : List ℕ). AreOfOthers t (groups_seen a.behind)) (sym (same_source s g.value.source own_source)) all.1.0;
    }

item_at : (items : List Held) (place : ℕ) → place < length items → (g : Held) × (g ≡ get_or items place g)
item_at [] place in_range = absurd (omega (arith, in_range))
item_at (x ∷ items) zero in_range = (x, refl)
item_at (x ∷ items) (suc place) in_range = item_at items place (omega (arith, in_range))

mark_at : (items : List Held) (place : ℕ) (g : Held) → place < length items → g ≡ get_or items place g → get_or (marks_of (groups_seen items)) place 0 ≡ mark_of g.value.source
mark_at items place g in_range is =
    let a = around items place g in_range is in
    ap (λ (l : List ℕ). get_or l place 0) (ap marks_of (seen_around items place g a) ∙ marks_around (groups_seen a.before) (groups_seen a.behind) (held_seen g))
    ∙ get_or_at (marks_of (groups_seen a.before)) (mark_of g.value.source) (marks_of (groups_seen a.behind)) 0 place (length-map (groups_seen a.before) mark_of_group ∙ seen_count items place g a)

module _ (s : List ℕ) (items : List Held) (marks : List ℕ) (marked : marks ≡ marks_of (groups_seen items)) (from mark : ℕ) (hay : List ℕ) (hay_is : hay ≡ drop from marks) (mark_is : mark ≡ mark_of s)
    (start : AreOfOthers s (groups_seen (take from items))) where
  other_at : (n : ℕ) (g : Held) → from + n < length items → g ≡ get_or items (from + n) g → (Passes (is_byte mark) hay n → ⊥) → is_of s (held_seen g) ≡ false
  other_at n g in_range is differs = elim (cases_Bool (is_of s (held_seen g))) [
    | inl own ↦
        let here : get_or hay n 0 ≡ mark =
        ap (λ (l : List ℕ). get_or l n 0) hay_is ∙ get_or-drop from marks n 0 ∙ ap (λ (l : List ℕ). get_or l (from + n) 0) marked
        ∙ mark_at items (from + n) g in_range is ∙ ap mark_of (sym (same_source s g.value.source own)) ∙ sym mark_is in
        absurd (differs (eq-eqb (get_or hay n 0) mark here))
    | inr other ↦ other
  ]

  pub reaches : (n : ℕ) → n < length hay → from + n < length items
  reaches n high =
      omega (arith, ap length hay_is, length-drop from marks, ap length marked, length-map (groups_seen items) mark_of_group, length-map items held_seen, high)

  pub ends_at : from ≤ length marks → from + length hay ≡ length items
  ends_at within =
      omega (arith, ap length hay_is, length-drop from marks, ap length marked, length-map (groups_seen items) mark_of_group, length-map items held_seen, within)

  pub others_over : (n : ℕ) → from + n ≤ length items → Nowhere (Passes (is_byte mark) hay) 0 n → AreOfOthers s (groups_seen (take (from + n) items))
  others_over zero within differ = let on : from ≡ from + zero = omega arith in subst (λ (k : ℕ). AreOfOthers s (groups_seen (take k items))) on start
  others_over (suc n) within differ =
      let on : from + n + 1 ≡ from + suc n = omega arith in
      let in_range : from + n < length items = omega (arith, within) in
      let g = item_at items (from + n) in_range in
      let so_far = others_over n (omega (arith, within)) (λ k low high. differ k low (omega (arith, high))) in
      subst (λ (k : ℕ). AreOfOthers s (groups_seen (take k items))) on
      (others_next s items (from + n) g.0 in_range g.1 (other_at n g.0 in_range g.1 (differ n (omega arith) (omega arith))) so_far)

pub lengths : (items : List Held) (marks : List ℕ) → marks ≡ marks_of (groups_seen items) → length marks ≡ length items
lengths items marks marked = ap length marked ∙ length-map (groups_seen items) mark_of_group ∙ length-map items held_seen

pub all_others : (s : List ℕ) (items : List Held) (n : ℕ) → length items ≤ n → AreOfOthers s (groups_seen (take n items)) → AreOfOthers s (groups_seen items)
all_others s items n all others = subst (λ (gs : List Held). AreOfOthers s (groups_seen gs)) (take_all n items all) others

pub placed : (s : List ℕ) (marks : List ℕ) (items : List Held) (bytes : ℕ) (gs : List Group) → IsTable (groups_seen items) bytes marks → groups_seen items ≡ gs → (found : Option ℕ) → IsFound s items found → IsPlace s gs found
placed s marks items bytes gs table seen None others = subst (AreOfOthers s) seen others
placed s marks items bytes gs table seen (Some place) found =
    subst (λ (hs : List Group). IsAt s hs place) seen (at_place s marks items bytes place found.group table found.in_range found.is found.own found.before)

-- ---- what contracts say of groups, of those in memory

pub seen_range : (items : List Held) (gs : List Group) (place : ℕ) → groups_seen items ≡ gs → place < length gs → place < length items
seen_range items gs place is in_range = omega (arith, ap length is, length-map items held_seen, in_range)

pub seen_changes : (items : List Held) (gs : List Group) (place : ℕ) (change : Group → List Group) (then : List Group) → groups_seen items ≡ gs → Changes (groups_seen items) place change then → Changes gs place change then
seen_changes items gs place change then is changes = subst (λ (hs : List Group). Changes hs place change then) is changes

pub group_at : (items : List Held) (gs : List Group) (place : ℕ) (g : Held) → groups_seen items ≡ gs → place < length gs → g ≡ get_or items place g → Tells gs place (λ group. group ≡ held_seen g)
group_at items gs place g seen in_range is before behind group parts count = sym ((changes_remove items place g (seen_range items gs place seen in_range) is).1 before behind group (seen ∙ parts) count)

pub entries_most : (marks : List ℕ) (items : List Held) (bytes place : ℕ) (g : Held) → IsTable (groups_seen items) bytes marks → place < length items → g ≡ get_or items place g → g.value.entries ≤ batch_limit
entries_most marks items bytes place g table in_range is =
    let a = around items place g in_range is in
    (open_at (groups_seen a.before) (groups_seen a.behind) (held_seen g) (subst AreOpen (seen_around items place g a) table.are_open)).most

pub open_item : (items : List Held) (gs : List Group) (place : ℕ) (g : Held) → groups_seen items ≡ gs → AreOpen gs → place < length items → g ≡ get_or items place g → IsOpen (held_seen g)
open_item items gs place g seen are in_range is =
    let a = around items place g in_range is in
    open_at (groups_seen a.before) (groups_seen a.behind) (held_seen g) (subst AreOpen (sym seen ∙ seen_around items place g a) are)

pub seen_next : (items : List Held) (place : ℕ) (g : Held) → place < length items → g ≡ get_or items place g → groups_seen (take (place + 1) items) ≡ groups_seen (take place items) ++ held_seen g ∷ []
seen_next items place g in_range is =
    let a = around items place g in_range is in
    let front : take place items ≡ a.before = ap (take place) a.parts ∙ take_at a.before (g ∷ a.behind) place a.place_is in
    let next : take (place + 1) items ≡ a.before ++ g ∷ [] =
    ap (take (place + 1)) (a.parts ∙ sym (append_assoc a.before (g ∷ []) a.behind)) ∙ take_at (a.before ++ g ∷ []) a.behind (place + 1) (omega (arith, length_push a.before g, a.place_is)) in
    ap groups_seen next ∙ seen_push a.before g ∙ ap (λ (gs : List Held). groups_seen gs ++ held_seen g ∷ []) (sym front)
