-- Members that are put among others where none of those has their name.
use Rattle.std.proofs.Common.{◌≡◌, ◌≢◌, ℕ, List, ◌∷◌, ◌∙◌, ap, sym, refl, subst, cond, Option, Some, None, option_map, Bool, true, false}
use Rattle.std.specs.Option.{IsSome, is_some}
use Rattle.std.specs.BTreeMap.{insert_entry}
use Rattle.std.specs.Ordering.{match_ordering, is_eq, nat_cmp}
use Rattle.std.specs.Cmp.Lexicographic.{slice_cmp}
use Rattle.std.specs.declared.cmp.Ordering.{Ordering}
use Rattle.std.specs.declared.cmp.Ordering.TheVariants.{Less, Equal, Greater}
use Rattle.entry_model.specs.Datum.{Datum, datum, Members, no_members, member}
use Rattle.entry_model.specs.declared.value.Value.{Value}
use Rattle.entry_model.specs.Lawful.{KeysAscend}
use Rattle.field_paths.specs.Members.{member_at, with_member}
use Rattle.field_paths.proofs.Entries.{member_at-seen, with_member-seen}
use Rattle.field_paths.proofs.Members.{cmp, itself, put_both}
use Rattle.field_paths.specs.MapOf.{members_seen}
use Rattle.field_ops.specs.Rows.{with_members}
use Rattle.field_ops.proofs.Entered.{found}
use Rattle.field_ops.proofs.Raised.{before_all, put_ascends, put_over}

-- what is put before all that stands
put_first : (name : List ℕ) (value : Datum) (ms : Members) → KeysAscend (Some name) ms → with_member name value ms ≡ member name value ms
put_first name value no_members order = refl
put_first name value (member next x rest) order = rw order.0 refl

not_behind_itself : (name : List ℕ) (ms : Members) → KeysAscend (Some name) ms → member_at name ms ≡ None
not_behind_itself name no_members order = refl
not_behind_itself name (member next x rest) order = rw order.0 (before_all name next rest order.0 order.1)

ascend_alone : (first : Option (List ℕ)) (ms : Members) → KeysAscend first ms → KeysAscend None ms
ascend_alone first no_members order = tt
ascend_alone first (member one x rest) order = (tt, order.1)

-- a name that isn't at the front of some members isn't that of the first, nor of one of the others
apart_from_first : (name one : List ℕ) (x : Datum) (rest : Members) → member_at name (member one x rest) ≡ None → one ≢ name
apart_from_first name one x rest none same =
    absurd (cc (subst (λ (k : List ℕ). cond (is_eq (cmp name k)) (Some x) (member_at name rest) ≡ None) same none, itself name))

absent_in_rest : (name one : List ℕ) (x : Datum) (rest : Members) → member_at name (member one x rest) ≡ None → member_at name rest ≡ None
absent_in_rest name one x rest none = by (cmp name one) none
  where
    by : (o : Ordering) → cond (is_eq o) (Some x) (member_at name rest) ≡ None → member_at name rest ≡ None
    by Less n = n
    by Equal n = absurd (cc n)
    by Greater n = n

-- a name that isn't among the raised members may be put afterwards
put_outside : (name : List ℕ) (value : Datum) (raised ms : Members) → member_at name raised ≡ None → with_members raised (with_member name value ms) ≡ with_member name value (with_members raised ms)
put_outside name value no_members ms none = refl
put_outside name value (member one x raised) ms none =
    ap (with_members raised) (put_both one name x value ms (apart_from_first name one x raised none))
    ∙ put_outside name value raised (with_member one x ms) (absent_in_rest name one x raised none)

-- members that ascend, put into nothing
put_into_nothing : (first : Option (List ℕ)) (ms : Members) → KeysAscend first ms → with_members ms no_members ≡ ms
put_into_nothing first no_members order = refl
put_into_nothing first (member one x rest) order =
    put_outside one x rest no_members (not_behind_itself one rest order.1)
    ∙ ap (with_member one x) (put_into_nothing (Some one) rest order.1) ∙ put_first one x rest order.1

-- a member of a name that isn't there may be put among the raised ones
put_among : (name : List ℕ) (value : Datum) (raised ms : Members) → member_at name raised ≡ None → with_members (with_member name value raised) ms ≡ with_members raised (with_member name value ms)
put_among name value no_members ms none = refl
put_among name value (member one x raised) ms none = by (cmp name one) refl (put_among name value raised (with_member one x ms) (absent_in_rest name one x raised none))
  where
    by : (o : Ordering) → cmp name one ≡ o → with_members (with_member name value raised) (with_member one x ms) ≡ with_members raised (with_member name value (with_member one x ms))
        → with_members (match_ordering o (member name value (member one x raised)) (member one value raised) (member one x (with_member name value raised))) ms
        ≡ with_members raised (with_member one x (with_member name value ms))
    by Less e h = refl
    by Equal e h = absurd (cc (subst (λ (o : Ordering). cond (is_eq o) (Some x) (member_at name raised) ≡ None) e none))
    by Greater e h = h ∙ sym (ap (with_members raised) (put_both one name x value ms (apart_from_first name one x raised none)))

-- ---- one turn

-- What is left to be put, and what stands, make what all together do.
pub record Merging (whole left now : Members) : Type 0 where
  pub left_ascends : KeysAscend None left
  pub now_ascends : KeysAscend None now
  pub makes : with_members now left ≡ whole

pub merged_all : (whole now : Members) → Merging whole no_members now → now ≡ whole
merged_all whole now so_far = sym (put_into_nothing None now so_far.now_ascends) ∙ so_far.makes

-- a name that is there already is left out
pub one_left_out : (whole rest now : Members) (name : List ℕ) (value : Datum) → IsSome (member_at name now) → Merging whole (member name value rest) now → Merging whole rest now
one_left_out whole rest now name value there so_far = record {
  left_ascends = ascend_alone (Some name) rest so_far.left_ascends.1;
  now_ascends = so_far.now_ascends;
  makes = sym (put_over name value now rest there) ∙ ap (with_members now) (put_first name value rest so_far.left_ascends.1) ∙ so_far.makes;
}

pub one_put_among : (whole rest now : Members) (name : List ℕ) (value : Datum) → member_at name now ≡ None → Merging whole (member name value rest) now → Merging whole rest (with_member name value now)
one_put_among whole rest now name value none so_far = record {
  left_ascends = ascend_alone (Some name) rest so_far.left_ascends.1;
  now_ascends = put_ascends name value None now tt so_far.now_ascends;
  makes = put_among name value now rest none ∙ ap (with_members now) (put_first name value rest so_far.left_ascends.1) ∙ so_far.makes;
}

-- ---- the same of maps in memory

some_of : (o : Option Value) → is_some o ≡ true → IsSome (option_map datum o)
some_of None e = absurd (cc e)
some_of (Some v) e = refl

none_of : (o : Option Value) → is_some o ≡ false → o ≡ None
none_of None e = refl
none_of (Some v) e = absurd (cc e)

-- the name of the next member is there
pub one_there : (whole : Members) (name : List ℕ) (v : Value) (left rest es : List (List ℕ × Value)) (b : Bool) → left ≡ (name, v) ∷ rest → b ≡ is_some (found name es) → b ≡ true
    → Merging whole (members_seen left) (members_seen es) → Merging whole (members_seen rest) (members_seen es)
one_there whole name v left rest es b l is present so_far =
    one_left_out whole (members_seen rest) (members_seen es) name (datum v) (subst IsSome (sym (member_at-seen name es)) (some_of (found name es) (sym is ∙ present)))
    (subst (λ (one : List (List ℕ × Value)). Merging whole (members_seen one) (members_seen es)) l so_far)

-- it isn't, and a copy is put
pub one_more : (whole : Members) (name key : List ℕ) (v copy : Value) (left rest es new : List (List ℕ × Value)) (b : Bool) → left ≡ (name, v) ∷ rest → b ≡ is_some (found name es) → b ≡ false
    → new ≡ insert_entry (slice_cmp nat_cmp) es key copy → key ≡ name → datum copy ≡ datum v → Merging whole (members_seen left) (members_seen es) → Merging whole (members_seen rest) (members_seen new)
one_more whole name key v copy left rest es new b l is absent i same same_value so_far =
    subst (Merging whole (members_seen rest))
    (sym (ap members_seen i ∙ sym (with_member-seen key copy es) ∙ ap (λ (k : List ℕ). with_member k (datum copy) (members_seen es)) same ∙ ap (λ (d : Datum). with_member name d (members_seen es)) same_value))
    (one_put_among whole (members_seen rest) (members_seen es) name (datum v) (member_at-seen name es ∙ ap (option_map datum) (none_of (found name es) (sym is ∙ absent)))
    (subst (λ (one : List (List ℕ × Value)). Merging whole (members_seen one) (members_seen es)) l so_far))
