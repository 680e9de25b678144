-- What becomes of members that begin with all of the names and without values.
use Rattle.std.proofs.Common.{◌≡◌, ℕ, zero, suc, ◌+◌, ◌<◌, List, [], ◌∷◌, ◌++◌, ◌∙◌, ap, sym, refl, subst, Bool, true, false, cond, ◌||◌, T, length, drop, get_or, Option, None, Some, is_some, arith}
use Rattle.std.proofs.lemmas.List.{drop_more, length-map}
use Rattle.std.proofs.lemmas.Map.Lookups.{exact_bytes}
use Rattle.std.specs.BTreeMap.{insert_entry, is_at}
use Rattle.std.specs.Cmp.{tied_itself}
use Rattle.std.specs.Cmp.Lexicographic.{nat_list_cmp_total}
use Rattle.std.specs.FinMap.Entries.{by_order, find, find-put, is_sorted, is_sorted-put, put as put_entry, same_entries}
use Rattle.std.specs.List.{AllZip}
use Rattle.std.specs.Map.{keys_of, lookup}
use Rattle.std.specs.Ordering.{eq_by_cmp, is_eq, match_ordering}
use Rattle.std.specs.declared.cmp.Ordering.TheVariants.{Less, Equal, Greater}
use Rattle.entry_model.proofs.Data.{datum_null}
use Rattle.entry_model.proofs.Places.{stands_inserted, stands_within, fits_missing}
use Rattle.entry_model.specs.Datum.{Datum, datum, null}
use Rattle.entry_model.specs.Places.{name_cmp, value_set_at, FitsAt, NamesAscend, StandsAt}
use Rattle.entry_model.specs.Seen.{seen, unset_of}
use Rattle.entry_model.specs.declared.value.Value.{Value}
use Rattle.entry_model.specs.declared.value.Value.TheVariants as value
use Rattle.json_text.proofs.Values.{seen_put}
use Rattle.json_text.specs.Grammar.{Member, put_all}
use Rattle.text_parsers.specs.Inner.Known.{unset_with, name_at, names_at, nothing_at, AreAt}

-- ---- the value at a name

put_is : (es : List Member) (name : List ℕ) (value : Datum) → put_entry name_cmp name value es ≡ insert_entry name_cmp es name value
put_is [] name value = refl
put_is (e ∷ es) name value =
    elim (name_cmp name e.0) as (λ o. by_order o ((name, value) ∷ e ∷ es) ((e.0, value) ∷ es) (e ∷ put_entry name_cmp name value es) ≡ match_ordering o ((name, value) ∷ e ∷ es) ((e.0, value) ∷ es) (e ∷ insert_entry name_cmp es name value)) [
      | Less ↦ refl
      | Equal ↦ refl
      | Greater ↦ ap (λ (l : List Member). e ∷ l) (put_is es name value)
    ]

-- what stands at the name once these members are put in
abbrev later : List ℕ → List Member → Option Datum → Option Datum
later name [] found = found
later name (next ∷ rest) found = later name rest (cond (eq_by_cmp name_cmp name next.0) (Some next.1) found)

find_all : (name : List ℕ) (es ms : List Member) → find name_cmp name (put_all es ms) ≡ later name ms (find name_cmp name es)
find_all name es [] = refl
find_all name es (next ∷ rest) =
    find_all name (insert_entry name_cmp es next.0 next.1) rest
    ∙ ap (later name rest) (ap (find name_cmp name) (sym (put_is es next.0 next.1)) ∙ find-put name_cmp nat_list_cmp_total name next.0 next.1 es)

abbrev has : List ℕ → List (List ℕ) → Bool
has name [] = false
has name (other ∷ others) = eq_by_cmp name_cmp name other || has name others

later_had : (name : List ℕ) (ms : List Member) (o p : Option Datum) → has name (keys_of ms) ≡ true → later name ms o ≡ later name ms p
later_had name [] o p h = absurd (cc h)
later_had name (m ∷ ms) o p h = by (eq_by_cmp name_cmp name m.0) h (λ k. later_had name ms o p k)
  where
    by : (b : Bool) → (b || has name (keys_of ms)) ≡ true → (has name (keys_of ms) ≡ true → later name ms o ≡ later name ms p) → later name ms (cond b (Some m.1) o) ≡ later name ms (cond b (Some m.1) p)
    by true h next = refl
    by false h next = next h

later_missed : (name : List ℕ) (ms : List Member) (o : Option Datum) → has name (keys_of ms) ≡ false → later name ms o ≡ o
later_missed name [] o h = refl
later_missed name (m ∷ ms) o h = by (eq_by_cmp name_cmp name m.0) h (λ k. later_missed name ms o k)
  where
    by : (b : Bool) → (b || has name (keys_of ms)) ≡ false → (has name (keys_of ms) ≡ false → later name ms o ≡ o) → later name ms (cond b (Some m.1) o) ≡ o
    by true h next = absurd (cc h)
    by false h next = next h

later_kept : (name : List ℕ) (ms : List Member) (o : Option Datum) → is_some o ≡ true → is_some (later name ms o) ≡ true
later_kept name [] o h = h
later_kept name (m ∷ ms) o h = later_kept name ms (cond (eq_by_cmp name_cmp name m.0) (Some m.1) o) (by (eq_by_cmp name_cmp name m.0))
  where
    by : (b : Bool) → is_some (cond b (Some m.1) o) ≡ true
    by true = refl
    by false = h

later_some : (name : List ℕ) (ms : List Member) (o : Option Datum) → has name (keys_of ms) ≡ true → is_some (later name ms o) ≡ true
later_some name [] o h = absurd (cc h)
later_some name (m ∷ ms) o h = by (eq_by_cmp name_cmp name m.0) h (λ k. later_some name ms o k)
  where
    by : (b : Bool) → (b || has name (keys_of ms)) ≡ true → (has name (keys_of ms) ≡ true → is_some (later name ms o) ≡ true) → is_some (later name ms (cond b (Some m.1) o)) ≡ true
    by true h next = later_kept name ms (Some m.1) refl
    by false h next = next h

sorted_all : (es ms : List Member) → T (is_sorted name_cmp es) → T (is_sorted name_cmp (put_all es ms))
sorted_all es [] h = h
sorted_all es (m ∷ ms) h =
    sorted_all (insert_entry name_cmp es m.0 m.1) ms
    (subst (λ (l : List Member). T (is_sorted name_cmp l)) (put_is es m.0 m.1) (is_sorted-put name_cmp nat_list_cmp_total m.0 m.1 es h))

-- nothing is left of members under the same names
anew : (ms ns : List Member) → keys_of ms ≡ keys_of ns → put_all (put_all [] ms) ns ≡ put_all [] ns
anew ms ns same =
    same_entries name_cmp nat_list_cmp_total exact_bytes (put_all (put_all [] ms) ns) (put_all [] ns) (sorted_all (put_all [] ms) ns (sorted_all [] ms tt)) (sorted_all [] ns tt)
    (λ name. find_all name (put_all [] ms) ns ∙ by name (has name (keys_of ns)) refl ∙ sym (find_all name [] ns))
  where
    by : (name : List ℕ) (b : Bool) → has name (keys_of ns) ≡ b → later name ns (find name_cmp name (put_all [] ms)) ≡ later name ns None
    by name true h = later_had name ns (find name_cmp name (put_all [] ms)) None h
    by name false h =
        later_missed name ns (find name_cmp name (put_all [] ms)) h ∙ find_all name [] ms ∙ later_missed name ms None (ap (has name) same ∙ h)
        ∙ sym (later_missed name ns None h)

keys-nothing : (names : List (List ℕ)) → keys_of (nothing_at names) ≡ names
keys-nothing [] = refl
keys-nothing (name ∷ names) = ap (λ (l : List (List ℕ)). name ∷ l) (keys-nothing names)

-- each of the names gets a value
pub filled_anew : (names : List (List ℕ)) (ms : List Member) → keys_of ms ≡ names → put_all (unset_with names) ms ≡ put_all [] ms
filled_anew names ms are = anew (nothing_at names) ms (keys-nothing names ∙ sym are)

unset_put : (es : List Member) (name : List ℕ) → unset_of (insert_entry name_cmp es name null) ≡ insert_entry name_cmp (unset_of es) name null
unset_put [] name = refl
unset_put (e ∷ es) name =
    elim (name_cmp name e.0) as (λ o. unset_of (match_ordering o ((name, null) ∷ e ∷ es) ((e.0, null) ∷ es) (e ∷ insert_entry name_cmp es name null)) ≡ match_ordering o ((name, null) ∷ unset_of (e ∷ es)) ((e.0, null) ∷ unset_of es) ((e.0, null) ∷ insert_entry name_cmp (unset_of es) name null)) [
      | Less ↦ refl
      | Equal ↦ refl
      | Greater ↦ ap (λ (l : List Member). (e.0, null) ∷ l) (unset_put es name)
    ]

unset_all : (names : List (List ℕ)) (es : List Member) → unset_of (put_all es (nothing_at names)) ≡ put_all (unset_of es) (nothing_at names)
unset_all [] es = refl
unset_all (name ∷ names) es = unset_all names (insert_entry name_cmp es name null) ∙ ap (λ (l : List Member). put_all l (nothing_at names)) (unset_put es name)

pub unset_again : (names : List (List ℕ)) → unset_of (unset_with names) ≡ unset_with names
unset_again names = unset_all names []

-- one name more is put in
pub one_unset : (names : List (List ℕ)) (i : ℕ) (name key : List ℕ) (old new : List (List ℕ × Value)) → i < length names → name ≡ get_or names i name → key ≡ name → new ≡ insert_entry name_cmp old key value.Null
    → put_all (seen new) (nothing_at (drop (i + 1) names)) ≡ put_all (seen old) (nothing_at (drop i names))
one_unset names i name key old new h is same put =
    ap (λ (l : List Member). put_all l (nothing_at (drop (i + 1) names)))
    (sym (seen_put new old key value.Null put) ∙ ap (λ (n : List ℕ). insert_entry name_cmp (seen old) n (datum value.Null)) same ∙ ap (insert_entry name_cmp (seen old) name) datum_null)
    ∙ sym (ap (λ (l : List (List ℕ)). put_all (seen old) (nothing_at l)) (drop_more names i name h ∙ ap (λ (n : List ℕ). n ∷ drop (i + 1) names) (sym is)))

-- ---- places

each : {R S : List ℕ → ℕ → Type 0} → ((name : List ℕ) (at : ℕ) → R name at → S name at) → (names : List (List ℕ)) (places : List ℕ) → AllZip R names places → AllZip S names places
each f [] [] a = tt
each f [] (at ∷ places) a = absurd a
each f (name ∷ names) [] a = absurd a
each f (name ∷ names) (at ∷ places) a = (f name at a.0, each f names places a.1)

stands_seen : (name : List ℕ) (es : List (List ℕ × Value)) (at : ℕ) → StandsAt name es at → StandsAt name (seen es) at
stands_seen name [] at s = absurd s
stands_seen name (e ∷ es) zero s = s
stands_seen name (e ∷ es) (suc at) s = (s.0, stands_seen name es at s.1)

pub are_at_seen : (es : List (List ℕ × Value)) (names : List (List ℕ)) (places : List ℕ) → AreAt es names places → AreAt (seen es) names places
are_at_seen es names places a = each (λ name at s. stands_seen name es at s) names places a

pub seen_set : (es : List (List ℕ × Value)) (at : ℕ) (value : Value) → seen (value_set_at es at value) ≡ value_set_at (seen es) at (datum value)
seen_set [] at value = refl
seen_set (e ∷ es) zero value = refl
seen_set (e ∷ es) (suc at) value = ap (λ (l : List Member). (e.0, datum e.1) ∷ l) (seen_set es at value)

pub name_here : {X : Type 0} (name : List ℕ) (es : List (List ℕ × X)) (at : ℕ) → StandsAt name es at → name_at es at ≡ name
name_here name [] at s = absurd s
name_here name (e ∷ es) zero s = sym (exact_bytes name e.0 s)
name_here name (e ∷ es) (suc at) s = name_here name es at s.1

pub names_here : {X : Type 0} (es : List (List ℕ × X)) (names : List (List ℕ)) (places : List ℕ) → AreAt es names places → names_at es places ≡ names
names_here es [] [] a = refl
names_here es [] (at ∷ places) a = absurd a
names_here es (name ∷ names) [] a = absurd a
names_here es (name ∷ names) (at ∷ places) a = λ i. name_here name es at a.0 i ∷ names_here es names places a.1 i

pub as_many : {X : Type 0} (es : List (List ℕ × X)) (names : List (List ℕ)) (places : List ℕ) → AreAt es names places → length names ≡ length places
as_many es [] [] a = refl
as_many es [] (at ∷ places) a = absurd a
as_many es (name ∷ names) [] a = absurd a
as_many es (name ∷ names) (at ∷ places) a = ap suc (as_many es names places a.1)

pub one_place_more : {X : Type 0} (es : List (List ℕ × X)) (names : List (List ℕ)) (places : List ℕ) (name : List ℕ) (at : ℕ) → AreAt es names places → StandsAt name es at
    → AreAt es (names ++ name ∷ []) (places ++ at ∷ [])
one_place_more es [] [] name at a s = (s, tt)
one_place_more es [] (p ∷ places) name at a s = absurd a
one_place_more es (n ∷ names) [] name at a s = absurd a
one_place_more es (n ∷ names) (p ∷ places) name at a s = (a.0, one_place_more es names places name at a.1 s)

pub no_names_left : {X : Type 0} (es : List (List ℕ × X)) (names : List (List ℕ)) → AreAt es names [] → names ≡ []
no_names_left es [] a = refl
no_names_left es (name ∷ names) a = absurd a

stands_kept : (name : List ℕ) (es : List Member) (at other : ℕ) (value : Datum) → StandsAt name es at → StandsAt name (value_set_at es other value) at
stands_kept name [] at other value s = absurd s
stands_kept name (e ∷ es) zero zero value s = s
stands_kept name (e ∷ es) zero (suc other) value s = s
stands_kept name (e ∷ es) (suc at) zero value s = s
stands_kept name (e ∷ es) (suc at) (suc other) value s = (s.0, stands_kept name es at other value s.1)

-- the next place is one of the members
pub next_within : (entries : List (List ℕ × Value)) (names : List (List ℕ)) (at : ℕ) (places : List ℕ) → AreAt (seen entries) names (at ∷ places) → at < length entries
next_within entries [] at places a = absurd a
next_within entries (name ∷ names) at places a =
    let within = stands_within name (seen entries) at a.0 in
    let same = length-map {B = Member} entries (λ (e : List ℕ × Value). (e.0, datum e.1)) in
    omega (arith, within, same)

-- the next of the names got its value
pub record NextSet (old new : List Member) (value : Datum) (names : List (List ℕ)) (places : List ℕ) : Type 0 where
  pub name : List ℕ
  pub rest : List (List ℕ)
  pub names_are : names ≡ name ∷ rest
  pub put : new ≡ insert_entry name_cmp old name value
  pub stand : AreAt new rest places

pub next_set : (old new : List Member) (at : ℕ) (value : Datum) (names : List (List ℕ)) (places : List ℕ) → new ≡ value_set_at old at value → AreAt old names (at ∷ places) → NextSet old new value names places
next_set old new at value [] places set a = absurd a
next_set old new at value (name ∷ rest) places set a = record {
  name = name;
  rest = rest;
  names_are = refl;
  put = set ∙ stands_inserted name old at value a.0;
  stand = subst (λ (l : List Member). AreAt l rest places) (sym set) (each (λ other place s. stands_kept other old place at value s) rest places a.1);
}

-- ---- where a name stands among all

lookup_seen : (name : List ℕ) (es : List (List ℕ × Value)) → lookup (is_at (name_cmp name)) es ≡ None → find name_cmp name (seen es) ≡ None
lookup_seen name [] h = refl
lookup_seen name (e ∷ es) h = by (eq_by_cmp name_cmp name e.0) h (λ k. lookup_seen name es k)
  where
    by : (b : Bool) → cond b (Some e.1) (lookup (is_at (name_cmp name)) es) ≡ None → (lookup (is_at (name_cmp name)) es ≡ None → find name_cmp name (seen es) ≡ None)
        → cond b (Some (datum e.1)) (find name_cmp name (seen es)) ≡ None
    by true h next = absurd (cc h)
    by false h next = next h

itself : (name : List ℕ) → eq_by_cmp name_cmp name name ≡ true
itself name = ap is_eq (tied_itself nat_list_cmp_total name)

had : (names : List (List ℕ)) (i : ℕ) (name : List ℕ) → i < length names → name ≡ get_or names i name → has name names ≡ true
had [] i name h is = absurd (omega (arith, h))
had (other ∷ names) zero name h is = ap (λ (n : List ℕ). eq_by_cmp name_cmp name n || has name names) (sym is) ∙ ap (λ (b : Bool). b || has name names) (itself name)
had (other ∷ names) (suc i) name h is = by (eq_by_cmp name_cmp name other) (had names i name (omega (arith, h)) is)
  where
    by : (b : Bool) → has name names ≡ true → (b || has name names) ≡ true
    by true next = refl
    by false next = next

-- none of the names is missing
pub not_missing : (es : List (List ℕ × Value)) (names : List (List ℕ)) (i : ℕ) (name : List ℕ) (at : ℕ) → seen es ≡ unset_with names → NamesAscend es → i < length names → name ≡ get_or names i name
    → FitsAt name es at → ⊥
not_missing es names i name at is ascend h here fits =
    let none : find name_cmp name (unset_with names) ≡ None = ap (find name_cmp name) (sym is) ∙ lookup_seen name es (fits_missing name es at ascend fits) in
    let some : is_some (later name (nothing_at names) None) ≡ true = later_some name (nothing_at names) None (ap (has name) (keys-nothing names) ∙ had names i name h here) in
    let no : false ≡ true = ap is_some (sym none ∙ find_all name [] (nothing_at names)) ∙ some in
    absurd (cc no)
