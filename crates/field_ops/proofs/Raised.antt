-- Members that are raised among those that stand beside.
use Rattle.std.proofs.Common.{◌≡◌, ◌≢◌, ℕ, List, ◌∙◌, ap, sym, refl, subst, cond, Option, Some, None, inl, inr, ◌⊎◌}
use Rattle.std.specs.Option.{IsSome}
use Rattle.std.specs.Ordering.{match_ordering, is_eq, ordering_reverse}
use Rattle.std.specs.declared.cmp.Ordering.{Ordering}
use Rattle.std.specs.declared.cmp.Ordering.TheVariants.{Less, Equal, Greater}
use Rattle.std.specs.Cmp.Lexicographic.{nat_list_cmp_total}
use Rattle.std.proofs.lemmas.Map.Lookups.{exact_bytes}
use Rattle.entry_model.specs.Datum.{Datum, null, Members, no_members, member}
use Rattle.entry_model.specs.Lawful.{IsBehind, KeysAscend}
use Rattle.field_paths.specs.Members.{member_at, with_member, without_member}
use Rattle.field_paths.proofs.Members.{cmp, itself, same_or_not, member_there, member_elsewhere, put_twice, put_both, put_and_left}
use Rattle.field_ops.specs.Inner.Names.{without_members, AreDisjoint, AreNamedIn}
use Rattle.field_ops.specs.Rows.{with_members}

-- ---- maps whose names ascend

further : (first : Option (List ℕ)) (one : List ℕ) (ms : Members) → IsBehind first one → KeysAscend (Some one) ms → KeysAscend first ms
further first one no_members less order = tt
further None one (member next x rest) less order = (tt, order.1)
further (Some before) one (member next x rest) less order = (nat_list_cmp_total.trans before one next less order.0, order.1)

pub left_ascends : (name : List ℕ) (first : Option (List ℕ)) (ms : Members) → KeysAscend first ms → KeysAscend first (without_member name ms)
left_ascends name first no_members order = tt
left_ascends name first (member one x rest) order = by (cmp name one) (left_ascends name (Some one) rest order.1)
  where
    by : (o : Ordering) → KeysAscend (Some one) (without_member name rest) → KeysAscend first (cond (is_eq o) rest (member one x (without_member name rest)))
    by Less h = (order.0, h)
    by Equal h = further first one rest order.0 order.1
    by Greater h = (order.0, h)

-- a name goes behind another, or in its place
pub put_ascends : (name : List ℕ) (value : Datum) (first : Option (List ℕ)) (ms : Members) → IsBehind first name → KeysAscend first ms → KeysAscend first (with_member name value ms)
put_ascends name value first no_members less order = (less, tt)
put_ascends name value first (member one x rest) less order = by (cmp name one) refl (λ (behind : cmp one name ≡ Less). put_ascends name value (Some one) rest behind order.1)
  where
    by : (o : Ordering) → cmp name one ≡ o → (cmp one name ≡ Less → KeysAscend (Some one) (with_member name value rest))
        → KeysAscend first (match_ordering o (member name value (member one x rest)) (member one value rest) (member one x (with_member name value rest)))
    by Less e h = (less, (e, order.1))
    by Equal e h = order
    by Greater e h = (order.0, h (nat_list_cmp_total.antisymm one name ∙ ap ordering_reverse e))

pub before_all : (name one : List ℕ) (ms : Members) → cmp name one ≡ Less → KeysAscend (Some one) ms → member_at name ms ≡ None
before_all name one no_members less order = refl
before_all name one (member next x rest) less order =
    let further_on : cmp name next ≡ Less = nat_list_cmp_total.trans name one next less order.0 in
    rw further_on (before_all name next rest further_on order.1)

-- what isn't there can't be left out
left_nothing : (name : List ℕ) (ms : Members) → member_at name ms ≡ None → without_member name ms ≡ ms
left_nothing name no_members none = refl
left_nothing name (member one x rest) none = by (cmp name one) none (left_nothing name rest)
  where
    by : (o : Ordering) → cond (is_eq o) (Some x) (member_at name rest) ≡ None → (member_at name rest ≡ None → without_member name rest ≡ rest)
        → cond (is_eq o) rest (member one x (without_member name rest)) ≡ member one x rest
    by Less n h = ap (member one x) (h n)
    by Equal n h = absurd (cc n)
    by Greater n h = ap (member one x) (h n)

-- what is left out may be put before
left_put : (name : List ℕ) (value : Datum) (first : Option (List ℕ)) (ms : Members) → KeysAscend first ms
    → without_member name (with_member name value ms) ≡ without_member name ms
left_put name value first no_members order = rw (itself name) refl
left_put name value first (member one x rest) order = by (cmp name one) refl (left_put name value (Some one) rest order.1)
  where
    by : (o : Ordering) → cmp name one ≡ o → without_member name (with_member name value rest) ≡ without_member name rest
        → without_member name (match_ordering o (member name value (member one x rest)) (member one value rest) (member one x (with_member name value rest)))
        ≡ cond (is_eq o) rest (member one x (without_member name rest))
    by Less e h = rw (itself name) (ap (member one x) (sym (left_nothing name rest (before_all name one rest e order.1))))
    by Equal e h = rw e refl
    by Greater e h = rw e (ap (member one x) h)

-- what is there may be put again
put_again : (name : List ℕ) (value : Datum) (first : Option (List ℕ)) (ms : Members) → KeysAscend first ms → member_at name ms ≡ Some value → with_member name value ms ≡ ms
put_again name value first no_members order there = absurd (cc there)
put_again name value first (member one x rest) order there = by (cmp name one) refl there (put_again name value (Some one) rest order.1)
  where
    by : (o : Ordering) → cmp name one ≡ o → cond (is_eq o) (Some x) (member_at name rest) ≡ Some value → (member_at name rest ≡ Some value → with_member name value rest ≡ rest)
        → match_ordering o (member name value (member one x rest)) (member one value rest) (member one x (with_member name value rest)) ≡ member one x rest
    by Less e t h = let none : member_at name rest ≡ None = before_all name one rest e order.1 in absurd (cc (none, t))
    by Equal e t h = let same : x ≡ value = cc t in ap (λ (v : Datum). member one v rest) (sym same)
    by Greater e t h = ap (member one x) (h t)

-- ---- names

pub stays_named : (name other : List ℕ) (value : Datum) (ms : Members) → IsSome (member_at other ms) → IsSome (member_at other (with_member name value ms))
stays_named name other value ms there = by (same_or_not other name)
  where
    by : (other ≡ name) ⊎ (other ≢ name) → IsSome (member_at other (with_member name value ms))
    by (inl same) = subst (λ (k : List ℕ). IsSome (member_at k (with_member name value ms))) (sym same) (subst IsSome (sym (member_there name value ms)) refl)
    by (inr apart) = subst IsSome (sym (member_elsewhere name other value ms apart)) there

pub named_first : (name : List ℕ) (value : Datum) (rest : Members) → IsSome (member_at name (member name value rest))
named_first name value rest = rw (itself name) refl

pub named_rest : (name other : List ℕ) (value : Datum) (rest : Members) → IsSome (member_at other rest) → IsSome (member_at other (member name value rest))
named_rest name other value rest there = by (cmp other name)
  where
    by : (o : Ordering) → IsSome (cond (is_eq o) (Some value) (member_at other rest))
    by Less = there
    by Equal = refl
    by Greater = there

first_or_rest : (name other : List ℕ) (value : Datum) (rest : Members) → IsSome (member_at other (member name value rest)) → (other ≡ name) ⊎ IsSome (member_at other rest)
first_or_rest name other value rest there = by (cmp other name) refl there
  where
    by : (o : Ordering) → cmp other name ≡ o → IsSome (cond (is_eq o) (Some value) (member_at other rest)) → (other ≡ name) ⊎ IsSome (member_at other rest)
    by Less e h = inr h
    by Equal e h = inl (exact_bytes other name e)
    by Greater e h = inr h

pub disjoint_left : (raised ms : Members) → AreDisjoint raised ms → without_members raised ms ≡ ms
disjoint_left no_members ms apart = refl
disjoint_left (member one x raised) ms apart = ap (without_members raised) (left_nothing one ms apart.0) ∙ disjoint_left raised ms apart.1

-- ---- the names of the raised members are put first

-- what stands at a name that is raised doesn't matter
pub put_over : (name : List ℕ) (value : Datum) (raised ms : Members) → IsSome (member_at name raised) → with_members raised (with_member name value ms) ≡ with_members raised ms
put_over name value no_members ms there = absurd (cc there)
put_over name value (member one x raised) ms there = by (same_or_not one name) (first_or_rest one name x raised there) (put_over name value raised (with_member one x ms))
  where
    by : (one ≡ name) ⊎ (one ≢ name) → (name ≡ one) ⊎ IsSome (member_at name raised)
        → (IsSome (member_at name raised) → with_members raised (with_member name value (with_member one x ms)) ≡ with_members raised (with_member one x ms))
        → with_members raised (with_member one x (with_member name value ms)) ≡ with_members raised (with_member one x ms)
    by (inl same) where_it_is h = ap (with_members raised) (ap (λ (k : List ℕ). with_member one x (with_member k value ms)) (sym same) ∙ put_twice one x value ms)
    by (inr apart) (inl same) h = absurd (apart (sym same))
    by (inr apart) (inr further_on) h = ap (with_members raised) (put_both one name x value ms apart) ∙ h further_on

-- nor for what is left without them
left_over : (name : List ℕ) (value : Datum) (raised : Members) (first : Option (List ℕ)) (ms : Members) → KeysAscend first ms → IsSome (member_at name raised)
    → without_members raised (with_member name value ms) ≡ without_members raised ms
left_over name value no_members first ms order there = absurd (cc there)
left_over name value (member one x raised) first ms order there =
    by (same_or_not one name) (first_or_rest one name x raised there) (left_over name value raised first (without_member one ms) (left_ascends one first ms order))
  where
    by : (one ≡ name) ⊎ (one ≢ name) → (name ≡ one) ⊎ IsSome (member_at name raised)
        → (IsSome (member_at name raised) → without_members raised (with_member name value (without_member one ms)) ≡ without_members raised (without_member one ms))
        → without_members raised (without_member one (with_member name value ms)) ≡ without_members raised (without_member one ms)
    by (inl same) where_it_is h = ap (without_members raised) (ap (λ (k : List ℕ). without_member one (with_member k value ms)) (sym same) ∙ left_put one value first ms order)
    by (inr apart) (inl same) h = absurd (apart (sym same))
    by (inr apart) (inr further_on) h = ap (without_members raised) (sym (put_and_left one name value first ms order apart)) ∙ h further_on

-- what the names that are put so far leave of the map `old`
pub record Put (raised old rest now : Members) : Type 0 where
  pub within : AreNamedIn rest raised
  pub put : with_members raised now ≡ with_members raised old
  pub left : without_members raised now ≡ without_members raised old
  pub there : (name : List ℕ) → IsSome (member_at name raised) → IsSome (member_at name rest) ⊎ IsSome (member_at name now)

pub none_put : (raised old : Members) → Put raised old raised old
none_put raised old = record { within = λ name there. there; put = refl; left = refl; there = λ name there. inl there }

pub one_put : (raised old rest now : Members) (name : List ℕ) (value put : Datum) → KeysAscend None now → Put raised old (member name value rest) now → Put raised old rest (with_member name put now)
one_put raised old rest now name value put order so_far = record {
  within = λ other there. so_far.within other (named_rest name other value rest there);
  put = put_over name put raised now (so_far.within name (named_first name value rest)) ∙ so_far.put;
  left = left_over name put raised None now order (so_far.within name (named_first name value rest)) ∙ so_far.left;
  there = λ other there. by other (so_far.there other there);
}
  where
    here : (other : List ℕ) → (other ≡ name) ⊎ IsSome (member_at other rest) → IsSome (member_at other rest) ⊎ IsSome (member_at other (with_member name put now))
    here other (inl same) = inr (subst (λ (k : List ℕ). IsSome (member_at k (with_member name put now))) (sym same) (subst IsSome (sym (member_there name put now)) refl))
    here other (inr further_on) = inl further_on

    by : (other : List ℕ) → IsSome (member_at other (member name value rest)) ⊎ IsSome (member_at other now) → IsSome (member_at other rest) ⊎ IsSome (member_at other (with_member name put now))
    by other (inl there) = here other (first_or_rest name other value rest there)
    by other (inr there) = inr (stays_named name other put now there)

pub all_put : (raised old now : Members) → Put raised old no_members now → AreNamedIn raised now
all_put raised old now so_far name there = by (so_far.there name there)
  where
    by : IsSome (member_at name no_members) ⊎ IsSome (member_at name now) → IsSome (member_at name now)
    by (inl nowhere) = absurd (cc nowhere)
    by (inr there) = there

-- ---- the map that held them

-- raised members and a name beside them: the name may be left out before
raised_and_left : (name : List ℕ) (raised ms : Members) (before : Members) → KeysAscend None ms → IsSome (member_at name before) → AreDisjoint raised before
    → without_member name (with_members raised ms) ≡ with_members raised (without_member name ms)
raised_and_left name no_members ms before order there apart = refl
raised_and_left name (member one x raised) ms before order there apart =
    raised_and_left name raised (with_member one x ms) before (put_ascends one x None ms tt order) there apart.1
    ∙ ap (with_members raised) (sym (put_and_left name one x None ms order (λ (same : name ≡ one). absurd (cc (subst IsSome (ap (λ (k : List ℕ). member_at k before) same ∙ apart.0) there)))))

-- the name at which the value is put back is there
pub null_there : (name : List ℕ) (ms nulled now : Members) → nulled ≡ with_member name null ms → now ≡ nulled → IsSome (member_at name now)
null_there name ms nulled now n s = subst IsSome (sym (ap (member_at name) (s ∙ n) ∙ member_there name null ms)) refl

-- the names of the raised members were put, then their values, and the name was left out
pub raised_in_place : (name : List ℕ) (raised ms nulled reserved filled done : Members) → KeysAscend None ms → AreDisjoint raised nulled
    → nulled ≡ with_member name null ms → with_members raised reserved ≡ with_members raised nulled → filled ≡ with_members raised reserved → done ≡ without_member name filled
    → done ≡ with_members raised (without_member name ms)
raised_in_place name raised ms nulled reserved filled done order apart n r f d =
    d ∙ ap (without_member name) (f ∙ r ∙ ap (with_members raised) n)
    ∙ raised_and_left name raised (with_member name null ms) nulled (put_ascends name null None ms tt order) (null_there name ms nulled nulled n refl) apart
    ∙ ap (with_members raised) (left_put name null None ms order)

-- the value that was at the name is put back
pub put_back : (name : List ℕ) (value : Datum) (ms nulled now done : Members) → KeysAscend None ms → member_at name ms ≡ Some value
    → nulled ≡ with_member name null ms → now ≡ nulled → done ≡ with_member name value now → done ≡ ms
put_back name value ms nulled now done order there n s d =
    d ∙ ap (with_member name value) (s ∙ n) ∙ put_twice name value null ms ∙ put_again name value None ms order there
