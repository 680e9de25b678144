-- Reading values, lists and objects on from a place.
use Rattle.std.proofs.Common.{◌≡◌, ℕ, suc, ◌+◌, ◌<◌, ◌≤◌, List, [], ◌∷◌, ◌++◌, ◌∙◌, ap, sym, refl, subst, Bool, true, false, ◌&&◌, length, drop, get_or, map, nat_lt, ◌==◌, ◌-◌, ◌≢◌, ◌⊎◌, inl, inr, arith, ltb-true, ltb-false, ne_eqb, Result, Ok, Err, Vec, Global}
use Rattle.std.proofs.lemmas.List.{map_push}
use Rattle.std.proofs.lemmas.Str.{IsCharBoundary-after_ascii}
use Rattle.std.specs.Str.{IsUtf8, IsCharBoundary}
use Rattle.std.specs.BTreeMap.{insert_entry}
use Rattle.entry_model.specs.ByName.{ByName}
use Rattle.std.specs.Cmp.Lexicographic.{slice_cmp}
use Rattle.std.specs.Ordering.{match_ordering, nat_cmp}
use Rattle.std.specs.declared.cmp.Ordering.{Ordering}
use Rattle.std.specs.declared.cmp.Ordering.TheVariants.{Less, Equal, Greater}
use Rattle.entry_model.proofs.Data.{datum_list, datum_map}
use Rattle.entry_model.specs.Seen.{seen}
use Rattle.entry_model.specs.declared.value.Value.{Value}
use Rattle.entry_model.specs.declared.value.Value.TheVariants as value
use Rattle.entry_model.specs.declared.value.Value.TheOpen.{Value-F}
use Rattle.entry_model.specs.declared.value.Value.TheFolds.{fold-roll-Value}
use Rattle.json_text.specs.Fault.{IsFault, IsSyntaxFault}
use Rattle.json_text.specs.Grammar.{IsText}
use Rattle.json_text.proofs.Faults.{syntax_fault, depth_fault, read_text}
use Rattle.json_text.specs.declared.number.Part.TheVariants as part
use Rattle.entry_model.specs.Datum.{Datum, datum, datum_step, null, list, fields, items_of, members_of, no_items, no_members}
use Rattle.json_text.specs.declared.fault.JsonFault.{JsonFault}
use Rattle.json_text.specs.declared.fault.JsonFault.TheVariants.{Syntax, TooDeep, Memory}
use Rattle.json_text.specs.Bytes.{is_blank}
use Rattle.json_text.specs.Grammar.{Member}
use Rattle.json_text.specs.Machine.{State, state, goes, step, value_at, outcome, followed, ended, syntax_at, too_deep_at, opens, a_key, a_value, no_content, in_text, wants_value, opened_list, opened_map, has_value, wants_name, has_name, Frame, in_list, in_map, after_step, put}
use Rattle.json_text.specs.Reads.{Leads, Refuses, Reads, Wanting, Around, AroundMember, member_from, named_as, past_blanks, value_from, value_read_as, scalar_from, word_from, number_from, behind}
use Rattle.json_text.proofs.Complete.{if_true, if_false}
use Rattle.json_text.proofs.Places.{leads_same, leads_byte, then_leads, then_refuses, then_reads, outcome_byte, outcome_stops, outcome_over, outcome_sinks, outcome_unfinished, outcome_stuck, stands_true, stands_false}
use Rattle.json_text.proofs.Steps.{blanks_to, not_blank_at}

module _ {A B : Type 0} (bytes : List ℕ) (at : ℕ) where
  pub leads_through : (next : ℕ) (k : B → A) (f g : A → State) → Leads {Around = A} bytes at f next g → Leads {Around = B} bytes at (λ b. f (k b)) next (λ b. g (k b))
  leads_through next k f g l = (l.0, l.1, λ b. l.2 (k b))

  pub refuses_through : (k : B → A) (f : A → State) (fault : JsonFault) → Refuses {Around = A} bytes at f fault → Refuses {Around = B} bytes at (λ b. f (k b)) fault
  refuses_through k f (Syntax place) r = λ b. r (k b)
  refuses_through k f (TooDeep place) r = λ b. r (k b)
  refuses_through k f Memory r = tt

abbrev pub quote_wanting : List Member → List Frame → ℕ → Wanting 34
quote_wanting members frames room = record {
  before = state (wants_name members) frames room;
  after = state (in_text (a_key members) no_content) frames room;
  stays = λ byte e. if_true (is_blank byte) _ _ e;
  goes_on = refl;
  stops_else = λ byte e f. if_false (is_blank byte) _ _ e ∙ if_false (byte == 34) _ _ f;
  unfinished = refl;
}

abbrev pub colon_wanting : List Member → List ℕ → List Frame → ℕ → Wanting 58
colon_wanting members name frames room = record {
  before = state (has_name members name) frames room;
  after = state wants_value (in_map members name ∷ frames) room;
  stays = λ byte e. if_true (is_blank byte) _ _ e;
  goes_on = refl;
  stops_else = λ byte e f. if_false (is_blank byte) _ _ e ∙ if_false (byte == 58) _ _ f;
  unfinished = refl;
}

after_blank : (x : Datum) (frames : List Frame) (room byte : ℕ) → is_blank byte ≡ true → after_step x frames room byte ≡ goes (state (has_value x) frames room)
after_blank x [] room byte e = if_true (is_blank byte) _ _ e
after_blank x (in_list items ∷ frames) room byte e = if_true (is_blank byte) _ _ e
after_blank x (in_map members name ∷ frames) room byte e = if_true (is_blank byte) _ _ e

module _ (bytes : List ℕ) (at place next end room : ℕ) (x : Datum) where
  -- a value, and the blanks behind it
  pub value_and_blanks : (f : List Frame → State) (g : List Frame → List Frame) → Leads {Around = List Frame} bytes at f place (λ frames. state wants_value (g frames) room)
      → Leads {Around = List Frame} bytes place (value_from room) next (λ frames. state (has_value x) frames room) → end ≡ past_blanks bytes next
      → Leads {Around = List Frame} bytes at f end (λ frames. state (has_value x) (g frames) room)
  value_and_blanks f g before read e =
      then_leads {Around = List Frame} bytes at next end f (λ frames. state (has_value x) (g frames) room) (λ frames. state (has_value x) (g frames) room)
      (then_leads {Around = List Frame} bytes at place next f (λ frames. state wants_value (g frames) room) (λ frames. state (has_value x) (g frames) room) before
      (leads_through {A = List Frame} {B = List Frame} bytes place next g (value_from room) (λ frames. state (has_value x) frames room) read))
      (blanks_to {Around = List Frame} bytes next end (λ frames. state (has_value x) (g frames) room) read.1 e (λ frames byte b. after_blank x (g frames) room byte b))

  module _ (done : List Datum) (f : List Frame → State)
      (before : Leads {Around = List Frame} bytes at f place (λ frames. state wants_value (in_list done ∷ frames) room))
      (read : Leads {Around = List Frame} bytes place (value_from room) next (λ frames. state (has_value x) frames room)) (e : end ≡ past_blanks bytes next) where
    here : Leads {Around = List Frame} bytes at f end (λ frames. state (has_value x) (in_list done ∷ frames) room)
    here = value_and_blanks f (λ frames. in_list done ∷ frames) before read e

    pub list_closed : (nat_lt end (length bytes) && (get_or bytes end 0 == 93)) ≡ true
        → Leads {Around = List Frame} bytes at f (end + 1) (λ frames. state (has_value (list (items_of (done ++ x ∷ [])))) frames (suc room))
    list_closed is =
        let there = stands_true bytes end 93 is in
        then_leads {Around = List Frame} bytes at end (end + 1) f (λ frames. state (has_value x) (in_list done ∷ frames) room) (λ frames. state (has_value (list (items_of (done ++ x ∷ [])))) frames (suc room)) here
        (leads_byte {Around = List Frame} bytes end 93 (λ frames. state (has_value x) (in_list done ∷ frames) room) (λ frames. state (has_value (list (items_of (done ++ x ∷ [])))) frames (suc room)) there.0 there.1 (λ frames. refl))

    pub list_goes_on : (nat_lt end (length bytes) && (get_or bytes end 0 == 44)) ≡ true
        → Leads {Around = List Frame} bytes at f (end + 1) (λ frames. state wants_value (in_list (done ++ x ∷ []) ∷ frames) room)
    list_goes_on is =
        let there = stands_true bytes end 44 is in
        then_leads {Around = List Frame} bytes at end (end + 1) f (λ frames. state (has_value x) (in_list done ∷ frames) room) (λ frames. state wants_value (in_list (done ++ x ∷ []) ∷ frames) room) here
        (leads_byte {Around = List Frame} bytes end 44 (λ frames. state (has_value x) (in_list done ∷ frames) room) (λ frames. state wants_value (in_list (done ++ x ∷ []) ∷ frames) room) there.0 there.1 (λ frames. refl))

    pub list_stops : (nat_lt end (length bytes) && (get_or bytes end 0 == 93)) ≡ false → (nat_lt end (length bytes) && (get_or bytes end 0 == 44)) ≡ false
        → (frames : List Frame) → outcome (f frames) (drop at bytes) at ≡ syntax_at end
    list_stops no_bracket no_comma frames =
        here.2 frames
        ∙ outcome_stuck bytes end (state (has_value x) (in_list done ∷ frames) room)
        (λ l. if_false (is_blank (get_or bytes end 0)) _ _ (not_blank_at bytes next end e l) ∙ if_false (get_or bytes end 0 == 44) _ _ (stands_false bytes end 44 no_comma l)
        ∙ if_false (get_or bytes end 0 == 93) _ _ (stands_false bytes end 93 no_bracket l)) (λ _. refl)

  module _ (members : List Member) (name : List ℕ) (f : List Frame → State)
      (before : Leads {Around = List Frame} bytes at f place (λ frames. state wants_value (in_map members name ∷ frames) room))
      (read : Leads {Around = List Frame} bytes place (value_from room) next (λ frames. state (has_value x) frames room)) (e : end ≡ past_blanks bytes next) where
    member_here : Leads {Around = List Frame} bytes at f end (λ frames. state (has_value x) (in_map members name ∷ frames) room)
    member_here = value_and_blanks f (λ frames. in_map members name ∷ frames) before read e

    pub map_closed : (nat_lt end (length bytes) && (get_or bytes end 0 == 125)) ≡ true
        → Leads {Around = List Frame} bytes at f (end + 1) (λ frames. state (has_value (fields (members_of (put members name x)))) frames (suc room))
    map_closed is =
        let there = stands_true bytes end 125 is in
        then_leads {Around = List Frame} bytes at end (end + 1) f (λ frames. state (has_value x) (in_map members name ∷ frames) room) (λ frames. state (has_value (fields (members_of (put members name x)))) frames (suc room)) member_here
        (leads_byte {Around = List Frame} bytes end 125 (λ frames. state (has_value x) (in_map members name ∷ frames) room) (λ frames. state (has_value (fields (members_of (put members name x)))) frames (suc room)) there.0 there.1 (λ frames. refl))

    pub map_goes_on : (nat_lt end (length bytes) && (get_or bytes end 0 == 44)) ≡ true
        → Leads {Around = List Frame} bytes at f (end + 1) (λ frames. state (wants_name (put members name x)) frames room)
    map_goes_on is =
        let there = stands_true bytes end 44 is in
        then_leads {Around = List Frame} bytes at end (end + 1) f (λ frames. state (has_value x) (in_map members name ∷ frames) room) (λ frames. state (wants_name (put members name x)) frames room) member_here
        (leads_byte {Around = List Frame} bytes end 44 (λ frames. state (has_value x) (in_map members name ∷ frames) room) (λ frames. state (wants_name (put members name x)) frames room) there.0 there.1 (λ frames. refl))

    pub map_stops : (nat_lt end (length bytes) && (get_or bytes end 0 == 125)) ≡ false → (nat_lt end (length bytes) && (get_or bytes end 0 == 44)) ≡ false
        → (frames : List Frame) → outcome (f frames) (drop at bytes) at ≡ syntax_at end
    map_stops no_brace no_comma frames =
        member_here.2 frames
        ∙ outcome_stuck bytes end (state (has_value x) (in_map members name ∷ frames) room)
        (λ l. if_false (is_blank (get_or bytes end 0)) _ _ (not_blank_at bytes next end e l) ∙ if_false (get_or bytes end 0 == 44) _ _ (stands_false bytes end 44 no_comma l)
        ∙ if_false (get_or bytes end 0 == 125) _ _ (stands_false bytes end 125 no_brace l)) (λ _. refl)

-- ---- behind a bracket

module _ (bytes : List ℕ) (at place room : ℕ) (l : at ≤ length bytes) (e : place ≡ past_blanks bytes at) where
  abbrev in_opened_list : List Frame → State
  in_opened_list frames = state opened_list frames room

  abbrev in_opened_map : List Frame → State
  in_opened_map frames = state opened_map frames room

  list_blanks : Leads {Around = List Frame} bytes at in_opened_list place in_opened_list
  list_blanks = blanks_to {Around = List Frame} bytes at place in_opened_list l e (λ frames byte b. if_true (is_blank byte) _ _ b)

  map_blanks : Leads {Around = List Frame} bytes at in_opened_map place in_opened_map
  map_blanks = blanks_to {Around = List Frame} bytes at place in_opened_map l e (λ frames byte b. if_true (is_blank byte) _ _ b)

  pub list_empty : (nat_lt place (length bytes) && (get_or bytes place 0 == 93)) ≡ true
      → Leads {Around = List Frame} bytes at in_opened_list (place + 1) (λ frames. state (has_value (list no_items)) frames (suc room))
  list_empty is =
      let there = stands_true bytes place 93 is in
      then_leads {Around = List Frame} bytes at place (place + 1) in_opened_list in_opened_list (λ frames. state (has_value (list no_items)) frames (suc room)) list_blanks
      (leads_byte {Around = List Frame} bytes place 93 in_opened_list (λ frames. state (has_value (list no_items)) frames (suc room)) there.0 there.1 (λ frames. refl))

  pub map_empty : (nat_lt place (length bytes) && (get_or bytes place 0 == 125)) ≡ true
      → Leads {Around = List Frame} bytes at in_opened_map (place + 1) (λ frames. state (has_value (fields no_members)) frames (suc room))
  map_empty is =
      let there = stands_true bytes place 125 is in
      then_leads {Around = List Frame} bytes at place (place + 1) in_opened_map in_opened_map (λ frames. state (has_value (fields no_members)) frames (suc room)) map_blanks
      (leads_byte {Around = List Frame} bytes place 125 in_opened_map (λ frames. state (has_value (fields no_members)) frames (suc room)) there.0 there.1 (λ frames. refl))

  -- two states that the byte here, if one stands here, leads on alike
  alike : (s t : State) → (place < length bytes → step s (get_or bytes place 0) ≡ step t (get_or bytes place 0)) → value_at s ≡ value_at t
      → outcome s (drop place bytes) place ≡ outcome t (drop place bytes) place
  alike s t f g = by (nat_lt place (length bytes)) refl
    where
      by : (b : Bool) → nat_lt place (length bytes) ≡ b → outcome s (drop place bytes) place ≡ outcome t (drop place bytes) place
      by true is =
          let inside = ltb-true place (length bytes) is in
          outcome_byte bytes place s (get_or bytes place 0) inside refl
          ∙ ap (followed (λ (next : State). outcome next (drop (place + 1) bytes) (place + 1)) place) (f inside)
          ∙ sym (outcome_byte bytes place t (get_or bytes place 0) inside refl)
      by false is =
          let past = ltb-false place (length bytes) is in
          outcome_over bytes place s past ∙ ap (ended place) g ∙ sym (outcome_over bytes place t past)

  pub list_begun : (nat_lt place (length bytes) && (get_or bytes place 0 == 93)) ≡ false
      → Leads {Around = List Frame} bytes at in_opened_list place (λ frames. state wants_value (in_list [] ∷ frames) room)
  list_begun no_bracket =
      then_leads {Around = List Frame} bytes at place place in_opened_list in_opened_list (λ frames. state wants_value (in_list [] ∷ frames) room) list_blanks
      (leads_same {Around = List Frame} bytes place in_opened_list (λ frames. state wants_value (in_list [] ∷ frames) room) list_blanks.1
      (λ frames. alike (state opened_list frames room) (state wants_value (in_list [] ∷ frames) room)
      (λ inside. if_false (is_blank (get_or bytes place 0)) _ _ (not_blank_at bytes at place e inside) ∙ if_false (get_or bytes place 0 == 93) _ _ (stands_false bytes place 93 no_bracket inside)) refl))

  pub map_begun : (nat_lt place (length bytes) && (get_or bytes place 0 == 125)) ≡ false
      → Leads {Around = List Frame} bytes at in_opened_map place (λ frames. state (wants_name []) frames room)
  map_begun no_brace =
      then_leads {Around = List Frame} bytes at place place in_opened_map in_opened_map (λ frames. state (wants_name []) frames room) map_blanks
      (leads_same {Around = List Frame} bytes place in_opened_map (λ frames. state (wants_name []) frames room) map_blanks.1
      (λ frames. alike (state opened_map frames room) (state (wants_name []) frames room)
      (λ inside. if_false (is_blank (get_or bytes place 0)) _ _ (not_blank_at bytes at place e inside) ∙ if_false (get_or bytes place 0 == 125) _ _ (stands_false bytes place 125 no_brace inside)) refl))

-- ---- whole values in memory

pub pushed : (values : Vec Value Global) (items : List Value) (one : Value) → values.items ≡ items ++ one ∷ [] → list (items_of (map datum items ++ datum one ∷ [])) ≡ datum (value.List values)
pushed values items one e = sym (datum_list values ∙ ap (λ (l : List Value). list (items_of (map datum l))) e ∙ ap (λ (l : List Datum). list (items_of l)) (map_push datum items one))

seen-insert : (entries : List (List ℕ × Value)) (name : List ℕ) (one : Value) → seen (insert_entry (slice_cmp nat_cmp) entries name one) ≡ put (seen entries) name (datum one)
seen-insert [] name one = refl
seen-insert (e ∷ es) name one = by (slice_cmp nat_cmp name e.0) (seen-insert es name one)
  where
    by : (o : Ordering) → seen (insert_entry (slice_cmp nat_cmp) es name one) ≡ put (seen es) name (datum one)
        → seen (match_ordering o ((name, one) ∷ e ∷ es) ((e.0, one) ∷ es) (e ∷ insert_entry (slice_cmp nat_cmp) es name one))
        ≡ match_ordering o ((name, datum one) ∷ (e.0, datum e.1) ∷ seen es) ((e.0, datum one) ∷ seen es) ((e.0, datum e.1) ∷ put (seen es) name (datum one))
    by Less rec = refl
    by Equal rec = refl
    by Greater rec = ap (λ (l : List Member). (e.0, datum e.1) ∷ l) rec

pub seen_put : (new entries : List (List ℕ × Value)) (name : List ℕ) (one : Value) → new ≡ insert_entry (slice_cmp nat_cmp) entries name one → put (seen entries) name (datum one) ≡ seen new
seen_put new entries name one e = sym (ap seen e ∙ seen-insert entries name one)

pub map_put : (members : ByName Value) (entries : List (List ℕ × Value)) (name : List ℕ) (one : Value) → members.entries ≡ insert_entry (slice_cmp nat_cmp) entries name one
    → fields (members_of (put (seen entries) name (datum one))) ≡ datum (value.Map members)
map_put members entries name one e = ap (λ (l : List Member). fields (members_of l)) (seen_put members.entries entries name one e) ∙ sym (datum_map members)

pub no_items_in : (values : Vec Value Global) → values.items ≡ [] → list no_items ≡ datum (value.List values)
no_items_in values e = sym (datum_list values ∙ ap (λ (l : List Value). list (items_of (map datum l))) e)

pub no_members_in : (members : ByName Value) → members.entries ≡ [] → fields no_members ≡ datum (value.Map members)
no_members_in members e = sym (datum_map members ∙ ap (λ (l : List (List ℕ × Value)). fields (members_of (seen l))) e)

pub reads_as : (bytes : List ℕ) (at next room : ℕ) (f : List Frame → State) (x y : Datum) → x ≡ y → Leads {Around = List Frame} bytes at f next (λ frames. state (has_value x) frames room)
    → Leads {Around = List Frame} bytes at f next (λ frames. state (has_value y) frames room)
reads_as bytes at next room f x y e l = subst (λ (d : Datum). Leads {Around = List Frame} bytes at f next (λ frames. state (has_value d) frames room)) e l

-- ---- the first byte of a value

module _ (bytes : List ℕ) (at place room : ℕ) (l : at ≤ length bytes) (e : place ≡ past_blanks bytes at) where
  value_blanks : Leads {Around = List Frame} bytes at (value_from room) place (value_from room)
  value_blanks = blanks_to {Around = List Frame} bytes at place (value_from room) l e (λ frames byte b. if_true (is_blank byte) _ _ b)

  pub value_missing : length bytes ≤ place → (frames : List Frame) → outcome (value_from room frames) (drop at bytes) at ≡ syntax_at place
  value_missing past frames = value_blanks.2 frames ∙ outcome_unfinished bytes place (value_from room frames) past refl

  pub value_too_deep : (byte : ℕ) → place < length bytes → get_or bytes place 0 ≡ byte → (byte ≡ 91) ⊎ (byte ≡ 123) → room ≡ 0
      → (frames : List Frame) → outcome (value_from room frames) (drop at bytes) at ≡ too_deep_at place
  value_too_deep byte inside is (inl bracket) none frames =
      value_blanks.2 frames ∙ outcome_sinks bytes place (value_from room frames) 91 inside (is ∙ bracket) (ap (opens opened_list frames) none)
  value_too_deep byte inside is (inr brace) none frames =
      value_blanks.2 frames ∙ outcome_sinks bytes place (value_from room frames) 123 inside (is ∙ brace) (ap (opens opened_map frames) none)

  one_less : room ≢ 0 → room ≡ suc (room - 1)
  one_less some = omega arith

  pub value_is_list : place < length bytes → get_or bytes place 0 ≡ 91 → room ≢ 0 → (r : Result (Value × ℕ) JsonFault)
      → Reads {Around = List Frame} bytes (place + 1) (λ frames. state opened_list frames (room - 1)) (value_read_as (suc (room - 1))) r
      → Reads {Around = List Frame} bytes at (value_from room) (value_read_as room) r
  value_is_list inside is some r read =
      let less = one_less some in
      then_reads {Around = List Frame} bytes at (place + 1) (value_from room) (λ frames. state opened_list frames (room - 1)) (value_read_as room) r
      (then_leads {Around = List Frame} bytes at place (place + 1) (value_from room) (value_from room) (λ frames. state opened_list frames (room - 1)) value_blanks
      (leads_byte {Around = List Frame} bytes place 91 (value_from room) (λ frames. state opened_list frames (room - 1)) inside is (λ frames. ap (opens opened_list frames) less)))
      (subst (λ (n : ℕ). Reads {Around = List Frame} bytes (place + 1) (λ frames. state opened_list frames (room - 1)) (value_read_as n) r) (sym less) read)

  pub value_is_map : place < length bytes → get_or bytes place 0 ≡ 123 → room ≢ 0 → (r : Result (Value × ℕ) JsonFault)
      → Reads {Around = List Frame} bytes (place + 1) (λ frames. state opened_map frames (room - 1)) (value_read_as (suc (room - 1))) r
      → Reads {Around = List Frame} bytes at (value_from room) (value_read_as room) r
  value_is_map inside is some r read =
      let less = one_less some in
      then_reads {Around = List Frame} bytes at (place + 1) (value_from room) (λ frames. state opened_map frames (room - 1)) (value_read_as room) r
      (then_leads {Around = List Frame} bytes at place (place + 1) (value_from room) (value_from room) (λ frames. state opened_map frames (room - 1)) value_blanks
      (leads_byte {Around = List Frame} bytes place 123 (value_from room) (λ frames. state opened_map frames (room - 1)) inside is (λ frames. ap (opens opened_map frames) less)))
      (subst (λ (n : ℕ). Reads {Around = List Frame} bytes (place + 1) (λ frames. state opened_map frames (room - 1)) (value_read_as n) r) (sym less) read)

  pub value_is_scalar : (r : Result (Value × ℕ) JsonFault) → Reads {Around = Around} bytes place scalar_from (λ around one. behind (datum one) around) r
      → Reads {Around = List Frame} bytes at (value_from room) (value_read_as room) r
  value_is_scalar (Ok read) s =
      then_leads {Around = List Frame} bytes at place read.1 (value_from room) (value_from room) (λ frames. value_read_as room frames read.0) value_blanks
      (leads_through {A = Around} {B = List Frame} bytes place read.1 (λ frames. (frames, room)) scalar_from (behind (datum read.0)) s)
  value_is_scalar (Err fault) s =
      then_refuses {Around = List Frame} bytes at place (value_from room) (value_from room) fault value_blanks
      (refuses_through {A = Around} {B = List Frame} bytes place (λ frames. (frames, room)) scalar_from fault s)

module _ (bytes : List ℕ) (at : ℕ) (r : Result (Value × ℕ) JsonFault) where
  pub scalar_is_text : at < length bytes → get_or bytes at 0 ≡ 34
      → Reads {Around = Around} bytes (at + 1) (λ around. state (in_text a_value no_content) around.0 around.1) (λ around one. behind (datum one) around) r
      → Reads {Around = Around} bytes at scalar_from (λ around one. behind (datum one) around) r
  scalar_is_text inside is read =
      then_reads {Around = Around} bytes at (at + 1) scalar_from (λ around. state (in_text a_value no_content) around.0 around.1) (λ around one. behind (datum one) around) r
      (leads_byte {Around = Around} bytes at 34 scalar_from (λ around. state (in_text a_value no_content) around.0 around.1) inside is (λ around. refl)) read

  pub scalar_is_word : (byte : ℕ) (word : List ℕ) (one : Datum) → at < length bytes → get_or bytes at 0 ≡ byte → ((around : Around) → step (scalar_from around) byte ≡ goes (word_from word one around))
      → Reads {Around = Around} bytes (at + 1) (word_from word one) (λ around one. behind (datum one) around) r
      → Reads {Around = Around} bytes at scalar_from (λ around one. behind (datum one) around) r
  scalar_is_word byte word one inside is goes_on read =
      then_reads {Around = Around} bytes at (at + 1) scalar_from (word_from word one) (λ around one. behind (datum one) around) r
      (leads_byte {Around = Around} bytes at byte scalar_from (word_from word one) inside is goes_on) read

  pub scalar_is_number : at < length bytes → (byte : ℕ) → get_or bytes at 0 ≡ byte → is_blank byte ≡ false → byte ≢ 34 → byte ≢ 91 → byte ≢ 123 → byte ≢ 110 → byte ≢ 116 → byte ≢ 102
      → Reads {Around = Around} bytes at (number_from part.Start []) (λ around one. behind (datum one) around) r
      → Reads {Around = Around} bytes at scalar_from (λ around one. behind (datum one) around) r
  scalar_is_number inside byte is b0 b1 b2 b3 b4 b5 b6 read =
      then_reads {Around = Around} bytes at at scalar_from (number_from part.Start []) (λ around one. behind (datum one) around) r
      (leads_same {Around = Around} bytes at scalar_from (number_from part.Start []) (omega arith)
      (λ around.
      outcome_byte bytes at (scalar_from around) byte inside is
      ∙ ap (followed (λ (next : State). outcome next (drop (at + 1) bytes) (at + 1)) at)
      (if_false (is_blank byte) _ _ b0 ∙ if_false (byte == 34) _ _ (ne_eqb byte 34 b1) ∙ if_false (byte == 91) _ _ (ne_eqb byte 91 b2) ∙ if_false (byte == 123) _ _ (ne_eqb byte 123 b3)
      ∙ if_false (byte == 110) _ _ (ne_eqb byte 110 b4) ∙ if_false (byte == 116) _ _ (ne_eqb byte 116 b5) ∙ if_false (byte == 102) _ _ (ne_eqb byte 102 b6))
      ∙ sym (outcome_byte bytes at (number_from part.Start [] around) byte inside is))) read

-- a name, and what is around its value
pub named : (bytes : List ℕ) (at place next room : ℕ) (members : List Member) (name : List ℕ)
    → Leads {Around = List Frame} bytes at (λ frames. state (wants_name []) frames room) place (λ frames. state (wants_name members) frames room)
    → Leads {Around = AroundMember} bytes place (member_from room) next (λ around. named_as room around name)
    → Leads {Around = List Frame} bytes at (λ frames. state (wants_name []) frames room) next (λ frames. state wants_value (in_map members name ∷ frames) room)
named bytes at place next room members name before read =
    then_leads {Around = List Frame} bytes at place next (λ frames. state (wants_name []) frames room) (λ frames. state (wants_name members) frames room) (λ frames. state wants_value (in_map members name ∷ frames) room) before
    (leads_through {A = AroundMember} {B = List Frame} bytes place next (λ frames. (members, frames)) (member_from room) (λ around. named_as room around name) read)

pub behind_as : (bytes : List ℕ) (at next : ℕ) (f : Around → State) (x y : Datum) → x ≡ y → Leads {Around = Around} bytes at f next (behind x) → Leads {Around = Around} bytes at f next (behind y)
behind_as bytes at next f x y e l = subst (λ (d : Datum). Leads {Around = Around} bytes at f next (behind d)) e l

pub behind_byte : (bytes : List ℕ) (at byte : ℕ) → IsUtf8 bytes → at < length bytes → get_or bytes at 0 ≡ byte → byte < 128 → IsCharBoundary bytes (at + 1)
behind_byte bytes at byte u l is low = IsCharBoundary-after_ascii bytes at u l (omega arith)

pub datum_null : datum value.Null ≡ null
datum_null = ap datum (sym value.rolls-Null) ∙ fold-roll-Value Datum datum_step Value-F.Null

-- ---- whole texts

pub whole_fault : (bytes : List ℕ) (fault : JsonFault) → Refuses {Around = List Frame} bytes 0 (value_from 64) fault → IsFault bytes fault
whole_fault bytes (Syntax at) r = syntax_fault bytes at (r [])
whole_fault bytes (TooDeep at) r = depth_fault bytes at (r [])
whole_fault bytes Memory r = tt

module _ (bytes : List ℕ) (next end : ℕ) (one : Datum) (read : Leads {Around = List Frame} bytes 0 (value_from 64) next (λ frames. state (has_value one) frames 64)) (e : end ≡ past_blanks bytes next) where
  to_end : outcome (state wants_value [] 64) bytes 0 ≡ outcome (state (has_value one) [] 64) (drop end bytes) end
  to_end = (value_and_blanks bytes 0 0 next end 64 one (value_from 64) (λ frames. frames) (leads_same {Around = List Frame} bytes 0 (value_from 64) (value_from 64) (omega arith) (λ frames. refl)) read e).2 []

  pub whole_value : length bytes ≤ end → IsText 64 bytes one
  whole_value past = read_text bytes one (to_end ∙ outcome_over bytes end (state (has_value one) [] 64) past)

  pub trailing : end < length bytes → IsSyntaxFault bytes end
  trailing inside =
      syntax_fault bytes end (to_end ∙ outcome_stops bytes end (state (has_value one) [] 64) (get_or bytes end 0) inside refl (if_false (is_blank (get_or bytes end 0)) _ _ (not_blank_at bytes next end e inside)))
