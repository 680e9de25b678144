-- The four steps, by the place of the entry's group.
use Rattle.std.proofs.Common.{◌≡◌, ℕ, suc, ◌+◌, ◌<◌, ◌≤◌, Bool, true, false, cond, List, [], ◌∷◌, ◌++◌, length, refl, sym, ap, ◌∙◌, append_assoc, arith, inl, inr, leb}
use Rattle.std.specs.Prelude.{filter, not, ◌||◌, ◌&&◌, nat_lt, Result, Ok, Err, OnOk}
use Rattle.std.proofs.lemmas.Bool.{or_parts, ltb-false, lt-ltb, le-ltb}
use Rattle.std.proofs.lemmas.List.{append-nil, length-append, length_push, map-append}
use Rattle.std.proofs.lemmas.List.Elements.{filter-append}
use Rattle.entry_model.specs.LogRecord.{LogRecord, log_record}
use Rattle.entry_model.specs.declared.entry.Entry.{Entry}
use Rattle.recombine.specs.Limits.{group_limit, byte_limit}
use Rattle.recombine.specs.Group.{Group}
use Rattle.recombine.specs.Item.{Item, is_first, is_last}
use Rattle.recombine.specs.Joining.{Joining}
use Rattle.recombine.specs.Recombined.{entry_of, entries_of}
use Rattle.recombine.specs.Sources.{is_of, own, others, AreOfOthers}
use Rattle.recombine.specs.Steps.{after_mark, ended_by_mark, opened, with_item, joined, text_bytes, are_too_many, has_no_room, after_room, ended_by_room, is_done, is_ended, after_end, ended_by_end}
use Rattle.recombine.specs.Table.{IsAt, HasRoom, Changes, with_piece, with_entries, with_newest}
use Rattle.recombine.proofs.FilterLemmas.{takes, leaves}
use Rattle.recombine.proofs.TableLemmas.{is_same, others_append, bytes_append, bytes_cons, bytes_around}

-- ---- the groups of a source

own_none : (s : List ℕ) (gs : List Group) → AreOfOthers s gs → own s gs ≡ []
own_none s [] are = refl
own_none s (g ∷ gs) are = leaves (is_of s) g gs are.0 ∙ own_none s gs are.1

others_all : (s : List ℕ) (gs : List Group) → AreOfOthers s gs → others s gs ≡ gs
others_all s [] are = refl
others_all s (g ∷ gs) are = takes (λ (h : Group). not (is_of s h)) g gs (ap not are.0) ∙ ap (λ (hs : List Group). g ∷ hs) (others_all s gs are.1)

own_at : (s : List ℕ) (gs : List Group) (place : ℕ) (a : IsAt s gs place) → own s gs ≡ a.group ∷ []
own_at s gs place a =
    ap (own s) a.parts ∙ filter-append (is_of s) a.before (a.group ∷ a.behind) ∙ ap (λ (hs : List Group). hs ++ own s (a.group ∷ a.behind)) (own_none s a.before a.others_before)
    ∙ takes (is_of s) a.group a.behind a.its_own ∙ ap (λ (hs : List Group). a.group ∷ hs) (own_none s a.behind a.others_behind)

others_at : (s : List ℕ) (gs : List Group) (place : ℕ) (a : IsAt s gs place) → others s gs ≡ a.before ++ a.behind
others_at s gs place a =
    ap (others s) a.parts ∙ filter-append (λ (h : Group). not (is_of s h)) a.before (a.group ∷ a.behind)
    ∙ ap (λ (hs : List Group). hs ++ others s (a.group ∷ a.behind)) (others_all s a.before a.others_before)
    ∙ ap (λ (hs : List Group). a.before ++ hs) (leaves (λ (h : Group). not (is_of s h)) a.group a.behind (ap not a.its_own) ∙ others_all s a.behind a.others_behind)

pub others_left : (s : List ℕ) (gs : List Group) (place : ℕ) (a : IsAt s gs place) → AreOfOthers s (a.before ++ a.behind)
others_left s gs place a = others_append s a.before a.behind a.others_before a.others_behind

joined_split : (j : Joining) (x : Item) (before behind : List Group) (g : Group) → AreOfOthers x.source before → is_of x.source g ≡ true → joined j (before ++ g ∷ behind) x ≡ before ++ with_item j g x ∷ behind
joined_split j x [] behind g are is = ap (λ (b : Bool). cond b (with_item j g x ∷ behind) (g ∷ joined j behind x)) is
joined_split j x (h ∷ before) behind g are is =
    ap (λ (b : Bool). cond b (with_item j h x ∷ (before ++ g ∷ behind)) (h ∷ joined j (before ++ g ∷ behind) x)) are.0 ∙ ap (λ (hs : List Group). h ∷ hs) (joined_split j x before behind g are.1 is)

pub joined_at : (j : Joining) (x : Item) (gs : List Group) (place : ℕ) (a : IsAt x.source gs place) → joined j gs x ≡ a.before ++ with_item j a.group x ∷ a.behind
joined_at j x gs place a = ap (λ (hs : List Group). joined j hs x) a.parts ∙ joined_split j x a.before a.behind a.group a.others_before a.its_own

pub joined_none : (j : Joining) (x : Item) (gs : List Group) → AreOfOthers x.source gs → joined j gs x ≡ gs ++ opened x ∷ []
joined_none j x [] are = refl
joined_none j x (g ∷ gs) are = ap (λ (b : Bool). cond b (with_item j g x ∷ gs) (g ∷ joined j gs x)) are.0 ∙ ap (λ (hs : List Group). g ∷ hs) (joined_none j x gs are.1)

-- ---- the first step

pub mark_unmarked : (j : Joining) (x : Item) (gs : List Group) → is_first j x ≡ false → (after_mark j gs x ≡ gs) × (ended_by_mark j gs x ≡ [])
unfolding after_mark ended_by_mark
mark_unmarked j x gs isnt = (ap (λ (b : Bool). cond b (others x.source gs) gs) isnt, ap (λ (b : Bool). cond b (own x.source gs) []) isnt)

marked : (j : Joining) (x : Item) (gs : List Group) → is_first j x ≡ true → (after_mark j gs x ≡ others x.source gs) × (ended_by_mark j gs x ≡ own x.source gs)
unfolding after_mark ended_by_mark
marked j x gs is = (ap (λ (b : Bool). cond b (others x.source gs) gs) is, ap (λ (b : Bool). cond b (own x.source gs) []) is)

pub mark_none : (j : Joining) (x : Item) (gs : List Group) → is_first j x ≡ true → AreOfOthers x.source gs → (after_mark j gs x ≡ gs) × (ended_by_mark j gs x ≡ [])
mark_none j x gs is are = let m = marked j x gs is in (m.0 ∙ others_all x.source gs are, m.1 ∙ own_none x.source gs are)

pub mark_at : (j : Joining) (x : Item) (gs : List Group) (place : ℕ) → is_first j x ≡ true → (a : IsAt x.source gs place) → (after_mark j gs x ≡ a.before ++ a.behind) × (ended_by_mark j gs x ≡ a.group ∷ [])
mark_at j x gs place is a = let m = marked j x gs is in (m.0 ∙ others_at x.source gs place a, m.1 ∙ own_at x.source gs place a)

-- ---- the second step

pub room_left : (j : Joining) (x : Item) (gs : List Group) → has_no_room j gs x ≡ false → (after_room j gs x ≡ gs) × (ended_by_room j gs x ≡ [])
unfolding after_room ended_by_room
room_left j x gs isnt = (ap (λ (b : Bool). cond b [] gs) isnt, ap (λ (b : Bool). cond b gs []) isnt)

pub no_room : (j : Joining) (x : Item) (gs : List Group) → has_no_room j gs x ≡ true → (after_room j gs x ≡ []) × (ended_by_room j gs x ≡ gs)
unfolding after_room ended_by_room
no_room j x gs is = (ap (λ (b : Bool). cond b [] gs) is, ap (λ (b : Bool). cond b gs []) is)

too_many_by : (gs : List Group) (n bytes : ℕ) → length gs ≡ n → text_bytes gs ≡ bytes → are_too_many gs ≡ (nat_lt group_limit n || nat_lt byte_limit bytes)
too_many_by gs n bytes count size = rw (count, size) refl

room_none : (j : Joining) (x : Item) (gs : List Group) → AreOfOthers x.source gs → has_no_room j gs x ≡ (nat_lt group_limit (length gs + 1) || nat_lt byte_limit (text_bytes gs + length x.text))
unfolding has_no_room
room_none j x gs are =
    let all = joined_none j x gs are in
    too_many_by (joined j gs x) (length gs + 1) (text_bytes gs + length x.text) (ap length all ∙ length_push gs (opened x))
    (ap text_bytes all ∙ bytes_append gs (opened x ∷ []) ∙ ap (λ n. text_bytes gs + n) (bytes_cons (opened x) [] ∙ omega arith))

room_at : (j : Joining) (x : Item) (gs : List Group) (place : ℕ) → IsAt x.source gs place → has_no_room j gs x ≡ (nat_lt group_limit (length gs) || nat_lt byte_limit (text_bytes gs + length j.separator + length x.text))
unfolding has_no_room
room_at j x gs place a =
    let all = joined_at j x gs place a in
    let old : text_bytes gs ≡ text_bytes a.before + (length a.group.text + text_bytes a.behind) = ap text_bytes a.parts ∙ bytes_around a.before a.behind a.group in
    let new : text_bytes (joined j gs x) ≡ text_bytes a.before + (length (a.group.text ++ (j.separator ++ x.text)) + text_bytes a.behind) =
    ap text_bytes all ∙ bytes_around a.before a.behind (with_item j a.group x) in
    too_many_by (joined j gs x) (length gs) (text_bytes gs + length j.separator + length x.text)
    (omega (arith, ap length all, ap length a.parts, length-append a.before (with_item j a.group x ∷ a.behind), length-append a.before (a.group ∷ a.behind)))
    (omega (arith, old, new, length-append a.group.text (j.separator ++ x.text), length-append j.separator x.text))

pub full_none : (j : Joining) (x : Item) (gs : List Group) → AreOfOthers x.source gs → group_limit ≤ length gs → has_no_room j gs x ≡ true
full_none j x gs are full =
    room_none j x gs are ∙ ap (λ (b : Bool). b || nat_lt byte_limit (text_bytes gs + length x.text)) (lt-ltb group_limit (length gs + 1) (omega (arith, full)))

pub room_by_bytes : (j : Joining) (x : Item) (gs : List Group) → AreOfOthers x.source gs → length gs < group_limit → has_no_room j gs x ≡ nat_lt byte_limit (text_bytes gs + 0 + length x.text)
room_by_bytes j x gs are few =
    let same : text_bytes gs + length x.text ≡ text_bytes gs + 0 + length x.text = omega arith in
    room_none j x gs are ∙ ap (λ (b : Bool). b || nat_lt byte_limit (text_bytes gs + length x.text)) (le-ltb group_limit (length gs + 1) (omega (arith, few))) ∙ ap (nat_lt byte_limit) same

pub room_by_bytes_at : (j : Joining) (x : Item) (gs : List Group) (place : ℕ) → IsAt x.source gs place → length gs ≤ group_limit → has_no_room j gs x ≡ nat_lt byte_limit (text_bytes gs + length j.separator + length x.text)
room_by_bytes_at j x gs place a few =
    room_at j x gs place a ∙ ap (λ (b : Bool). b || nat_lt byte_limit (text_bytes gs + length j.separator + length x.text)) (le-ltb group_limit (length gs) (omega (arith, few)))

some_there : (s : List ℕ) (gs : List Group) (place : ℕ) → IsAt s gs place → gs ≡ [] → ⊥
some_there s gs place a none = absurd (omega (arith, ap length (sym a.parts ∙ none), length-append a.before (a.group ∷ a.behind)))

pub has_bytes_left : (j : Joining) (x : Item) (gs : List Group) (place : ℕ) → IsAt x.source gs place → HasRoom j gs x → text_bytes gs + length j.separator + length x.text ≤ byte_limit
has_bytes_left j x gs place a (inl none) = absurd (some_there x.source gs place a none)
has_bytes_left j x gs place a (inr room) = ltb-false byte_limit (text_bytes gs + length j.separator + length x.text) (or_parts (nat_lt group_limit (length gs)) (nat_lt byte_limit (text_bytes gs + length j.separator + length x.text)) (sym (room_at j x gs place a) ∙ room)).1

pub has_place_left : (j : Joining) (x : Item) (gs : List Group) → AreOfOthers x.source gs → HasRoom j gs x → (length gs < group_limit) × (text_bytes gs ≤ byte_limit)
has_place_left j x gs are (inl none) = (omega (arith, ap length none), omega (arith, ap text_bytes none))
has_place_left j x gs are (inr room) =
    let parts = or_parts (nat_lt group_limit (length gs + 1)) (nat_lt byte_limit (text_bytes gs + length x.text)) (sym (room_none j x gs are) ∙ room) in
    (omega (arith, ltb-false group_limit (length gs + 1) parts.0), omega (arith, ltb-false byte_limit (text_bytes gs + length x.text) parts.1))

-- ---- the last step

not_ended : (a b : Bool) → a ≡ false → not (a && b) ≡ true
not_ended a b isnt = ap (λ (c : Bool). not (c && b)) isnt

kept_others : (j : Joining) (x : Item) (gs : List Group) → AreOfOthers x.source gs → (filter (λ (g : Group). not (is_ended j x g)) gs ≡ gs) × (filter (is_ended j x) gs ≡ [])
kept_others j x [] are = (refl, refl)
kept_others j x (g ∷ gs) are =
    let more = kept_others j x gs are.1 in (
      takes (λ (h : Group). not (is_ended j x h)) g gs (not_ended (is_of x.source g) (is_done j x g.entries) are.0) ∙ ap (λ (hs : List Group). g ∷ hs) more.0,
      leaves (is_ended j x) g gs (ap (λ (b : Bool). b && is_done j x g.entries) are.0) ∙ more.1,
    )

-- the group that the entry is in, among others
pub end_split : (j : Joining) (x : Item) (before behind : List Group) (g : Group) → AreOfOthers x.source before → AreOfOthers x.source behind → is_of x.source g ≡ true → (done : Bool) → is_done j x g.entries ≡ done
    → (after_end j (before ++ g ∷ behind) x ≡ before ++ cond done behind (g ∷ behind)) × (ended_by_end j (before ++ g ∷ behind) x ≡ cond done (g ∷ []) [])
unfolding after_end ended_by_end
end_split j x before behind g front back is done done_is =
    let own_done : is_ended j x g ≡ done = ap (λ (b : Bool). b && is_done j x g.entries) is ∙ done_is in
    let b = kept_others j x before front in
    let e = kept_others j x behind back in (
      filter-append (λ (h : Group). not (is_ended j x h)) before (g ∷ behind)
          ∙ ap (λ (hs : List Group). hs ++ filter (λ (h : Group). not (is_ended j x h)) (g ∷ behind)) b.0
          ∙ ap (λ (hs : List Group). before ++ hs)
          (ap (λ (c : Bool). cond (not c) (g ∷ filter (λ (h : Group). not (is_ended j x h)) behind) (filter (λ (h : Group). not (is_ended j x h)) behind)) own_done
          ∙ ap (λ (hs : List Group). cond (not done) (g ∷ hs) hs) e.0 ∙ turned done),
      filter-append (is_ended j x) before (g ∷ behind) ∙ ap (λ (hs : List Group). hs ++ filter (is_ended j x) (g ∷ behind)) b.1
          ∙ ap (λ (c : Bool). cond c (g ∷ filter (is_ended j x) behind) (filter (is_ended j x) behind)) own_done ∙ ap (λ (hs : List Group). cond done (g ∷ hs) hs) e.1,
    )
  where
    turned : (c : Bool) → cond (not c) (g ∷ behind) behind ≡ cond c behind (g ∷ behind)
    turned true = refl
    turned false = refl

-- an entry that opens a group
pub end_alone : (j : Joining) (x : Item) (gs : List Group) → AreOfOthers x.source gs → (done : Bool) → is_done j x 1 ≡ done
    → (after_end j (joined j gs x) x ≡ gs ++ cond done [] (opened x ∷ [])) × (ended_by_end j (joined j gs x) x ≡ cond done (opened x ∷ []) [])
end_alone j x gs are done done_is =
    let all = joined_none j x gs are in
    let e = end_split j x gs [] (opened x) are tt (is_same x.source x.source refl) done done_is in
    (ap (λ (hs : List Group). after_end j hs x) all ∙ e.0, ap (λ (hs : List Group). ended_by_end j hs x) all ∙ e.1)

-- an entry that joins one
pub end_at : (j : Joining) (x : Item) (gs : List Group) (place : ℕ) (a : IsAt x.source gs place) → (done : Bool) → is_done j x (suc a.group.entries) ≡ done
    → (after_end j (joined j gs x) x ≡ a.before ++ cond done a.behind (with_item j a.group x ∷ a.behind)) × (ended_by_end j (joined j gs x) x ≡ cond done (with_item j a.group x ∷ []) [])
end_at j x gs place a done done_is =
    let all = joined_at j x gs place a in
    let e = end_split j x a.before a.behind (with_item j a.group x) a.others_before a.others_behind a.its_own done done_is in
    (ap (λ (hs : List Group). after_end j hs x) all ∙ e.0, ap (λ (hs : List Group). ended_by_end j hs x) all ∙ e.1)

-- ---- what is sent on

pub sent_none : (j : Joining) (out then : List LogRecord) (gs : List Group) → gs ≡ [] → then ≡ out → then ≡ out ++ entries_of j gs
sent_none j out then gs none same = same ∙ sym (append-nil out) ∙ ap (λ (hs : List Group). out ++ entries_of j hs) (sym none)

pub sent_some : (j : Joining) (out then : List LogRecord) (gs hs : List Group) → gs ≡ hs → then ≡ out ++ entries_of j hs → then ≡ out ++ entries_of j gs
sent_some j out then gs hs same sent = sent ∙ ap (λ (ks : List Group). out ++ entries_of j ks) (sym same)

-- three times, one behind the other
pub sent_all : (j : Joining) (a b c d : List LogRecord) (one two three : List Group) → b ≡ a ++ entries_of j one → c ≡ b ++ entries_of j two → d ≡ c ++ entries_of j three → d ≡ a ++ entries_of j (one ++ (two ++ three))
sent_all j a b c d one two three first second third =
    third ∙ ap (λ (l : List LogRecord). l ++ entries_of j three) (second ∙ ap (λ (l : List LogRecord). l ++ entries_of j two) first)
    ∙ append_assoc (a ++ entries_of j one) (entries_of j two) (entries_of j three) ∙ append_assoc a (entries_of j one) (entries_of j two ++ entries_of j three)
    ∙ ap (λ (l : List LogRecord). a ++ l) (sym (map-append (entry_of j) one (two ++ three) ∙ ap (λ (l : List LogRecord). entries_of j one ++ l) (map-append (entry_of j) two three)))

pub sent_more : (j : Joining) (out then : List LogRecord) (gs : List Group) (g : Group) → then ≡ out ++ entries_of j gs → (last : List LogRecord) → last ≡ then ++ entries_of j (g ∷ []) → last ≡ out ++ entries_of j (gs ++ g ∷ [])
sent_more j out then gs g so_far last more =
    more ∙ ap (λ (l : List LogRecord). l ++ entries_of j (g ∷ [])) so_far ∙ append_assoc out (entries_of j gs) (entries_of j (g ∷ [])) ∙ ap (λ (l : List LogRecord). out ++ l) (sym (map-append (entry_of j) gs (g ∷ [])))

-- ---- outcomes

pub on_ok : {A E : Type 0} (r : Result A E) (P : Type 0) → P → OnOk r P
on_ok (Ok x) P p = p
on_ok (Err e) P p = tt

pub on_ok_then : {A E : Type 0} (r : Result A E) (P Q : Type 0) → (P → Q) → OnOk r P → OnOk r Q
on_ok_then (Ok x) P Q f p = f p
on_ok_then (Err e) P Q f p = tt

-- ---- the group of an entry, changed in memory

pub short_text : (j : Joining) (x : Item) (n : ℕ) → is_done j x n ≡ false → length x.text ≤ byte_limit
short_text j x n isnt = ltb-false byte_limit (length x.text) (or_parts (is_last j x) (nat_lt byte_limit (length x.text)) (or_parts (leb j.most_entries n) (is_last j x || nat_lt byte_limit (length x.text)) isnt).1).1

-- the group with the entry, but for its count
abbrev pub uncounted : Joining → Group → Item → Group
uncounted j group x = record {
  source = group.source;
  entries = group.entries;
  text = group.text ++ (j.separator ++ x.text);
  base = cond j.newest x.entry group.base;
}

same_text : (group : Group) (a b : List ℕ) → a ≡ b → (let one : Group = record group { text = a } in let other : Group = record group { text = b } in one ≡ other)
same_text group a b e = rw e refl

module _ (j : Joining) (x : Item) (gs : List Group) (place : ℕ) (a : IsAt x.source gs place) where
  pub in_range : (hs : List Group) (g : Group) → hs ≡ a.before ++ g ∷ a.behind → place < length hs
  in_range hs g is = omega (arith, ap length is, length-append a.before (g ∷ a.behind), a.place_is)

  pub first_piece : (piece : List ℕ) → piece ≡ j.separator → (one : List Group) → Changes gs place (with_piece piece) one → one ≡ a.before ++ record a.group { text = a.group.text ++ j.separator } ∷ a.behind
  first_piece piece is one changes =
      changes a.before a.behind a.group a.parts a.place_is
      ∙ ap (λ (g : Group). a.before ++ g ∷ a.behind) (same_text a.group (a.group.text ++ piece) (a.group.text ++ j.separator) (ap (λ (t : List ℕ). a.group.text ++ t) is))

  pub second_piece : (one : List Group) → one ≡ a.before ++ record a.group { text = a.group.text ++ j.separator } ∷ a.behind → (piece : List ℕ) → piece ≡ x.text → (two : List Group) → Changes one place (with_piece piece) two
      → two ≡ a.before ++ record a.group { text = a.group.text ++ (j.separator ++ x.text) } ∷ a.behind
  second_piece one one_is piece is two changes =
      changes a.before a.behind (record a.group { text = a.group.text ++ j.separator }) one_is a.place_is
      ∙ ap (λ (g : Group). a.before ++ g ∷ a.behind)
      (same_text a.group ((a.group.text ++ j.separator) ++ piece) (a.group.text ++ (j.separator ++ x.text))
      (ap (λ (t : List ℕ). (a.group.text ++ j.separator) ++ t) is ∙ append_assoc a.group.text j.separator x.text))

  pub piece_fits : (one : List Group) → one ≡ a.before ++ record a.group { text = a.group.text ++ j.separator } ∷ a.behind → HasRoom j gs x → (place < length one) × (text_bytes one + length x.text ≤ byte_limit)
  piece_fits one one_is room =
      let old : text_bytes gs ≡ text_bytes a.before + (length a.group.text + text_bytes a.behind) = ap text_bytes a.parts ∙ bytes_around a.before a.behind a.group in
      let new : text_bytes one ≡ text_bytes a.before + (length (a.group.text ++ j.separator) + text_bytes a.behind) =
      ap text_bytes one_is ∙ bytes_around a.before a.behind (record a.group { text = a.group.text ++ j.separator }) in
      (in_range one (record a.group { text = a.group.text ++ j.separator }) one_is, omega (arith, old, new, has_bytes_left j x gs place a room, length-append a.group.text j.separator))

  pub rebased : (two : List Group) → two ≡ a.before ++ record a.group { text = a.group.text ++ (j.separator ++ x.text) } ∷ a.behind → (base : Entry) → log_record base ≡ x.entry → (three : List Group)
      → Changes two place (with_newest j.newest base) three → three ≡ a.before ++ uncounted j a.group x ∷ a.behind
  rebased two two_is base is three changes =
      changes a.before a.behind (record a.group { text = a.group.text ++ (j.separator ++ x.text) }) two_is a.place_is
      ∙ ap (λ (e : LogRecord). a.before ++ record { source = a.group.source; entries = a.group.entries; text = a.group.text ++ (j.separator ++ x.text); base = cond j.newest e a.group.base } ∷ a.behind) is

  pub recounted : (three : List Group) → three ≡ a.before ++ uncounted j a.group x ∷ a.behind → (n : ℕ) → n ≡ suc a.group.entries → (four : List Group) → Changes three place (with_entries n) four
      → four ≡ a.before ++ with_item j a.group x ∷ a.behind
  recounted three three_is n is four changes =
      changes a.before a.behind (uncounted j a.group x) three_is a.place_is
      ∙ ap (λ (m : ℕ). a.before ++ record { source = a.group.source; entries = m; text = a.group.text ++ (j.separator ++ x.text); base = cond j.newest x.entry a.group.base } ∷ a.behind) is

  pub sent_at_end : (g : Group) → uncounted j a.group x ≡ g → entries_of j (g ∷ []) ≡ entries_of j (with_item j a.group x ∷ [])
  sent_at_end g is = ap (λ (h : Group). entries_of j (h ∷ [])) (sym is)
