-- Members of a map that a member is put among or left out of.
use Rattle.std.proofs.Common.{◌≡◌, ◌≢◌, ℕ, List, ◌∙◌, ap, sym, refl, cond, Option, Some, false, inl, inr, ◌⊎◌}
use Rattle.std.specs.Option.{unwrap_or}
use Rattle.std.specs.Ordering.{match_ordering, is_eq, nat_cmp, ordering_reverse}
use Rattle.std.specs.declared.cmp.Ordering.{Ordering}
use Rattle.std.specs.declared.cmp.Ordering.TheVariants.{Less, Equal, Greater}
use Rattle.std.specs.Cmp.Lexicographic.{slice_cmp, nat_list_cmp_total}
use Rattle.std.proofs.lemmas.Map.Lookups.{exact_bytes}
use Rattle.entry_model.specs.Datum.{Datum, null, Members, no_members, member}
use Rattle.entry_model.specs.Lawful.{KeysAscend}
use Rattle.field_paths.specs.Change.{on_the_way}
use Rattle.field_paths.specs.Members.{member_at, with_member, without_member}

abbrev pub cmp : List ℕ → List ℕ → Ordering
cmp = slice_cmp nat_cmp

pub itself : (name : List ℕ) → cmp name name ≡ Equal
itself name = by (cmp name name) (nat_list_cmp_total.antisymm name name)
  where
    by : (o : Ordering) → o ≡ ordering_reverse o → o ≡ Equal
    by Less h = absurd (cc h)
    by Equal h = refl
    by Greater h = absurd (cc h)

behind : (name other : List ℕ) → cmp name other ≡ Less → cmp other name ≡ Greater
behind name other e = nat_list_cmp_total.antisymm other name ∙ ap ordering_reverse e

before : (name other : List ℕ) → cmp name other ≡ Greater → cmp other name ≡ Less
before name other e = nat_list_cmp_total.antisymm other name ∙ ap ordering_reverse e

not_at : (name other : List ℕ) → name ≢ other → is_eq (cmp name other) ≡ false
not_at name other apart = by (cmp name other) refl
  where
    by : (o : Ordering) → cmp name other ≡ o → is_eq o ≡ false
    by Less e = refl
    by Equal e = absurd (apart (exact_bytes name other e))
    by Greater e = refl

-- whether two names are one
pub same_or_not : (name other : List ℕ) → (name ≡ other) ⊎ (name ≢ other)
same_or_not name other = by (cmp name other) refl
  where
    by : (o : Ordering) → cmp name other ≡ o → (name ≡ other) ⊎ (name ≢ other)
    by Less e = inr (λ same. absurd (cc (e, ap (λ (k : List ℕ). cmp k other) same, itself other)))
    by Equal e = inl (exact_bytes name other e)
    by Greater e = inr (λ same. absurd (cc (e, ap (λ (k : List ℕ). cmp k other) same, itself other)))

pub member_there : (name : List ℕ) (value : Datum) (ms : Members) → member_at name (with_member name value ms) ≡ Some value
member_there name value no_members = rw (itself name) refl
member_there name value (member other old rest) = by (cmp name other) refl (member_there name value rest)
  where
    by : (o : Ordering) → cmp name other ≡ o → member_at name (with_member name value rest) ≡ Some value
        → member_at name (match_ordering o (member name value (member other old rest)) (member other value rest) (member other old (with_member name value rest))) ≡ Some value
    by Less e h = rw (itself name) refl
    by Equal e h = rw e refl
    by Greater e h = rw e h

pub member_elsewhere : (name other : List ℕ) (value : Datum) (ms : Members) → other ≢ name → member_at other (with_member name value ms) ≡ member_at other ms
member_elsewhere name other value no_members apart = rw (not_at other name apart) refl
member_elsewhere name other value (member one old rest) apart = by (cmp name one) refl (member_elsewhere name other value rest apart)
  where
    by : (o : Ordering) → cmp name one ≡ o → member_at other (with_member name value rest) ≡ member_at other rest
        → member_at other (match_ordering o (member name value (member one old rest)) (member one value rest) (member one old (with_member name value rest))) ≡ member_at other (member one old rest)
    by Less e h = rw (not_at other name apart) refl
    by Equal e h = rw (not_at other one (λ (same : other ≡ one). apart (same ∙ sym (exact_bytes name one e)))) refl
    by Greater e h = ap (λ (o : Option Datum). cond (is_eq (cmp other one)) (Some old) o) h

pub left_elsewhere : (name other : List ℕ) (ms : Members) → other ≢ name → member_at other (without_member name ms) ≡ member_at other ms
left_elsewhere name other no_members apart = refl
left_elsewhere name other (member one old rest) apart = by (cmp name one) refl (left_elsewhere name other rest apart)
  where
    by : (o : Ordering) → cmp name one ≡ o → member_at other (without_member name rest) ≡ member_at other rest
        → member_at other (cond (is_eq o) rest (member one old (without_member name rest))) ≡ member_at other (member one old rest)
    by Less e h = ap (λ (o : Option Datum). cond (is_eq (cmp other one)) (Some old) o) h
    by Equal e h = rw (not_at other one (λ (same : other ≡ one). apart (same ∙ sym (exact_bytes name one e)))) refl
    by Greater e h = ap (λ (o : Option Datum). cond (is_eq (cmp other one)) (Some old) o) h

-- ---- what is on the way afterwards

pub way_there : (name : List ℕ) (value : Datum) (ms : Members) → on_the_way name (with_member name value ms) ≡ value
way_there name value ms = ap (λ (o : Option Datum). unwrap_or o null) (member_there name value ms)

pub way_elsewhere : (name other : List ℕ) (value : Datum) (ms : Members) → other ≢ name → on_the_way other (with_member name value ms) ≡ on_the_way other ms
way_elsewhere name other value ms apart = ap (λ (o : Option Datum). unwrap_or o null) (member_elsewhere name other value ms apart)

pub way_left : (name other : List ℕ) (ms : Members) → other ≢ name → on_the_way other (without_member name ms) ≡ on_the_way other ms
way_left name other ms apart = ap (λ (o : Option Datum). unwrap_or o null) (left_elsewhere name other ms apart)

-- ---- two changes of one map

-- the second of two values that are put at one name stands
pub put_twice : (name : List ℕ) (value old : Datum) (ms : Members) → with_member name value (with_member name old ms) ≡ with_member name value ms
put_twice name value old no_members = rw (itself name) refl
put_twice name value old (member one x rest) = by (cmp name one) refl (put_twice name value old rest)
  where
    by : (o : Ordering) → cmp name one ≡ o → with_member name value (with_member name old rest) ≡ with_member name value rest
        → with_member name value (match_ordering o (member name old (member one x rest)) (member one old rest) (member one x (with_member name old rest)))
        ≡ match_ordering o (member name value (member one x rest)) (member one value rest) (member one x (with_member name value rest))
    by Less e h = rw (itself name) refl
    by Equal e h = rw e refl
    by Greater e h = rw e (ap (member one x) h)

-- of two values that are put at two names either may come first
pub put_both : (name other : List ℕ) (value more : Datum) (ms : Members) → name ≢ other
    → with_member name value (with_member other more ms) ≡ with_member other more (with_member name value ms)
put_both name other value more no_members apart = by (cmp name other) refl
  where
    by : (o : Ordering) → cmp name other ≡ o → with_member name value (member other more no_members) ≡ with_member other more (member name value no_members)
    by Less e = rw (e, behind name other e) refl
    by Equal e = absurd (apart (exact_bytes name other e))
    by Greater e = rw (e, before name other e) refl
put_both name other value more (member one x rest) apart = by (cmp name one) (cmp other one) refl refl (put_both name other value more rest apart)
  where
    both_new : (o : Ordering) → cmp name other ≡ o → cmp name one ≡ Less → cmp other one ≡ Less
        → with_member name value (member other more (member one x rest)) ≡ with_member other more (member name value (member one x rest))
    both_new Less o d e = rw (o, behind name other o, e) refl
    both_new Equal o d e = absurd (apart (exact_bytes name other o))
    both_new Greater o d e = rw (o, before name other o, d) refl

    by : (p q : Ordering) → cmp name one ≡ p → cmp other one ≡ q → with_member name value (with_member other more rest) ≡ with_member other more (with_member name value rest)
        → with_member name value (match_ordering q (member other more (member one x rest)) (member one more rest) (member one x (with_member other more rest)))
        ≡ with_member other more (match_ordering p (member name value (member one x rest)) (member one value rest) (member one x (with_member name value rest)))
    by Less Less d e h = both_new (cmp name other) refl d e
    by Less Equal d e h = rw (d, nat_list_cmp_total.congr other one name e ∙ behind name one d, e) refl
    by Less Greater d e h = rw (d, behind name other (nat_list_cmp_total.trans name one other d (before other one e)), e) refl
    by Equal Less d e h = rw (e, nat_list_cmp_total.congr name one other d ∙ behind other one e, d) refl
    by Equal Equal d e h = absurd (apart (exact_bytes name one d ∙ sym (exact_bytes other one e)))
    by Equal Greater d e h = rw (d, e) refl
    by Greater Less d e h = rw (e, behind other name (nat_list_cmp_total.trans other one name e (before name one d)), d) refl
    by Greater Equal d e h = rw (d, e) refl
    by Greater Greater d e h = rw (d, e) (ap (member one x) h)

-- a name before all members goes to the front
goes_first : (name one : List ℕ) (value : Datum) (ms : Members) → cmp name one ≡ Less → KeysAscend (Some one) ms → with_member name value ms ≡ member name value ms
goes_first name one value no_members less order = refl
goes_first name one value (member next x rest) less order = rw (nat_list_cmp_total.trans name one next less order.0) refl

-- where the names ascend: a value is put at one name and another name is left out, in either order
pub put_and_left : (name other : List ℕ) (value : Datum) (first : Option (List ℕ)) (ms : Members) → KeysAscend first ms → name ≢ other
    → with_member other value (without_member name ms) ≡ without_member name (with_member other value ms)
put_and_left name other value first no_members order apart = rw (not_at name other apart) refl
put_and_left name other value first (member one x rest) order apart = by (cmp name one) (cmp other one) refl refl (put_and_left name other value (Some one) rest order.1 apart)
  where
    by : (p q : Ordering) → cmp name one ≡ p → cmp other one ≡ q → with_member other value (without_member name rest) ≡ without_member name (with_member other value rest)
        → with_member other value (cond (is_eq p) rest (member one x (without_member name rest)))
        ≡ without_member name (match_ordering q (member other value (member one x rest)) (member one value rest) (member one x (with_member other value rest)))
    by Less Less d e h = rw (e, not_at name other apart, d) refl
    by Less Equal d e h = rw (e, d) refl
    by Less Greater d e h = rw (e, d) (ap (member one x) h)
    by Equal Less d e h = goes_first other one value rest e order.1 ∙ (rw (not_at name other apart, d) refl)
    by Equal Equal d e h = absurd (apart (exact_bytes name one d ∙ sym (exact_bytes other one e)))
    by Equal Greater d e h = rw d refl
    by Greater Less d e h = rw (e, not_at name other apart, d) refl
    by Greater Equal d e h = rw (e, d) refl
    by Greater Greater d e h = rw (e, d) (ap (member one x) h)
