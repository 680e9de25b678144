-- What is listed as members of roots is kept where it is.
use Rattle.std.proofs.Common.{◌≡◌, ℕ, List, [], ◌∷◌, ◌∙◌, ap, sym, subst, refl, rules, tests, true, false, cond, Some, None}
use Rattle.std.specs.Prelude.{Bool, ◌||◌, ◌&&◌, Option, filter, nat_eq}
use Rattle.std.specs.Option.{option_and_then}
use Rattle.std.specs.List.{list_all}
use Rattle.std.specs.Ordering.{is_eq}
use Rattle.std.specs.declared.cmp.Ordering.{Ordering}
use Rattle.std.specs.declared.cmp.Ordering.TheVariants.{Less, Equal, Greater}
use Rattle.std.specs.Cmp.Lexicographic.{pointwise, texts_ties, nat_list_cmp_total}
use Rattle.std.proofs.lemmas.Map.Lookups.{exact_bytes}
use Rattle.entry_model.specs.declared.value.Value.{Value}
use Rattle.entry_model.specs.Datum.{Datum, datum, fields, Members, no_members, member}
use Rattle.entry_model.specs.Lawful.{KeysAscend}
use Rattle.entry_model.specs.LogRecord.{LogRecord, members_in}
use Rattle.field_paths.proofs.Members.{cmp}
use Rattle.field_paths.specs.MapOf.{members_seen}
use Rattle.field_paths.specs.Members.{member_at, with_member}
use Rattle.field_paths.specs.Place.{Place}
use Rattle.field_paths.specs.ValueAt.{root_value, datum_at}
use Rattle.field_paths.specs.declared.path.Root.{Root}
use Rattle.field_paths.specs.declared.path.Root.TheVariants.{Body, Attributes, Resource}
use Rattle.field_ops.proofs.Rooted.{Named, AllNamed, all_named, retained_by_roots}
use Rattle.field_ops.specs.Kept.{is_member, is_at_member, any_at_member, members_where, roots_where}
use Rattle.field_ops.specs.Roots.{no_fields, is_body, is_attributes, is_resource, any_root, with_roots}
use Rattle.field_ops.specs.Rows.{with_found, with_listed, retained}

-- ---- members in memory

pub seen_where : (test : List ℕ → Bool) (es : List (List ℕ × Value))
    → members_seen (filter (λ entry. test entry.0) es) ≡ members_where test (members_seen es)
seen_where test [] = refl
seen_where test (e ∷ es) = by (test e.0) (seen_where test es)
  where
    by : (b : Bool) → members_seen (filter (λ entry. test entry.0) es) ≡ members_where test (members_seen es)
        → members_seen (cond b (e ∷ filter (λ entry. test entry.0) es) (filter (λ entry. test entry.0) es))
        ≡ cond b (member e.0 (datum e.1) (members_where test (members_seen es))) (members_where test (members_seen es))
    by true h = ap (member e.0 (datum e.1)) h
    by false h = h

-- ---- members whose names ascend

-- what stands behind a name stands behind one before it
behind : (name one : List ℕ) (ms : Members) → cmp name one ≡ Less → KeysAscend (Some one) ms → KeysAscend (Some name) ms
behind name one no_members less order = tt
behind name one (member next x rest) less order = (nat_list_cmp_total.trans name one next less order.0, order.1)

absent : (name : List ℕ) (ms : Members) → KeysAscend (Some name) ms → member_at name ms ≡ None
absent name no_members order = refl
absent name (member one x rest) order = rw order.0 (absent name rest (behind name one rest order.0 order.1))

goes_first : (name : List ℕ) (value : Datum) (ms : Members) → KeysAscend (Some name) ms
    → with_member name value ms ≡ member name value ms
goes_first name value no_members order = refl
goes_first name value (member one x rest) order = rw order.0 refl

still_behind : (test : List ℕ → Bool) (name : List ℕ) (ms : Members) → KeysAscend (Some name) ms
    → KeysAscend (Some name) (members_where test ms)
still_behind test name no_members order = tt
still_behind test name (member one x rest) order = by (test one) (still_behind test one rest order.1)
  where
    by : (b : Bool) → KeysAscend (Some one) (members_where test rest)
        → KeysAscend (Some name) (cond b (member one x (members_where test rest)) (members_where test rest))
    by true h = (order.0, h)
    by false h = behind name one (members_where test rest) order.0 h

-- ---- one name more

abbrev or_named : List ℕ → (List ℕ → Bool) → List ℕ → Bool
or_named name test key = is_eq (cmp name key) || test key

abbrev put_found : List ℕ → Option Datum → Members → Members
put_found name None ms = ms
put_found name (Some value) ms = with_member name value ms

-- a name that no member has adds none
none_more : (name : List ℕ) (test : List ℕ → Bool) (ms : Members) → member_at name ms ≡ None
    → members_where (or_named name test) ms ≡ members_where test ms
none_more name test no_members none = refl
none_more name test (member one x rest) none = by (is_eq (cmp name one)) (none_more name test rest) none
  where
    by : (b : Bool) → (member_at name rest ≡ None → members_where (or_named name test) rest ≡ members_where test rest)
        → cond b (Some x) (member_at name rest) ≡ None
        → cond (b || test one) (member one x (members_where (or_named name test) rest)) (members_where (or_named name test) rest)
        ≡ cond (test one) (member one x (members_where test rest)) (members_where test rest)
    by true h none = absurd (cc none)
    by false h none = ap (λ (ms : Members). cond (test one) (member one x ms) ms) (h none)

-- the member of the name, put among those that meet a test
one_more : (name : List ℕ) (test : List ℕ → Bool) (before : Option (List ℕ)) (ms : Members) → KeysAscend before ms
    → put_found name (member_at name ms) (members_where test ms) ≡ members_where (or_named name test) ms
one_more name test before no_members order = refl
one_more name test before (member one x rest) order = by (cmp name one) refl (test one) (one_more name test (Some one) rest order.1)
  where
    kept : Members
    kept = members_where test rest

    more : Members
    more = members_where (or_named name test) rest

    missing : cmp name one ≡ Less → member_at name rest ≡ None
    missing less = absent name rest (behind name one rest less order.1)

    same : cmp name one ≡ Equal → one ≡ name
    same e = sym (exact_bytes name one e)

    behind_it : cmp name one ≡ Equal → KeysAscend (Some name) rest
    behind_it e = subst (λ (k : List ℕ). KeysAscend (Some k) rest) (same e) order.1

    no_more : cmp name one ≡ Equal → kept ≡ more
    no_more e = sym (none_more name test rest (absent name rest (behind_it e)))

    put_before : (value : Datum) (e : cmp name one ≡ Equal) → with_member name value kept ≡ member one value kept
    put_before value e =
        goes_first name value kept (still_behind test name rest (behind_it e))
        ∙ ap (λ (k : List ℕ). member k value kept) (sym (same e))

    further : (found : Option Datum) → cmp name one ≡ Greater
        → put_found name found (member one x kept) ≡ member one x (put_found name found kept)
    further None e = refl
    further (Some value) e = rw e refl

    by : (o : Ordering) → cmp name one ≡ o → (b : Bool) → put_found name (member_at name rest) kept ≡ more
        → put_found name (cond (is_eq o) (Some x) (member_at name rest)) (cond b (member one x kept) kept)
        ≡ cond (is_eq o || b) (member one x more) more
    by Less e b h =
        ap (λ (found : Option Datum). put_found name found (cond b (member one x kept) kept)) (missing e)
        ∙ ap (λ (ms : Members). cond b (member one x ms) ms) (sym (none_more name test rest (missing e)))
    by Equal e true h = (rw e refl) ∙ ap (member one x) (no_more e)
    by Equal e false h = put_before x e ∙ ap (member one x) (no_more e)
    by Greater e true h = further (member_at name rest) e ∙ ap (member one x) h
    by Greater e false h = h

-- ---- one field more

abbrev or_at : Place → (Root → List ℕ → Bool) → Root → List ℕ → Bool
or_at field test root name = is_at_member root name field || test root name

-- the roots of which a field is listed have their members in order
abbrev pub Ascending : Bool → Bool → Bool → LogRecord → Type 0
Ascending b a r entry = (root : Root) → Named b a r root → KeysAscend None (members_in (root_value root entry))

same_where : (test other : List ℕ → Bool) (ms : Members) → ((name : List ℕ) → test name ≡ other name)
    → members_where test ms ≡ members_where other ms
same_where test other ms same = ap (λ (t : List ℕ → Bool). members_where t ms) (λ i name. same name i)

same_roots : (test other : Root → List ℕ → Bool) (entry : LogRecord) → ((root : Root) (name : List ℕ) → test root name ≡ other root name)
    → roots_where test entry ≡ roots_where other entry
same_roots test other entry same = ap (λ (t : Root → List ℕ → Bool). roots_where t entry) (λ i root name. same root name i)

member_more : (name : List ℕ) (test : List ℕ → Bool) (ms : Members) → KeysAscend None ms
    → put_found name (member_at name ms) (members_where test ms) ≡ members_where (λ key. pointwise nat_eq name key || test key) ms
member_more name test ms order =
    one_more name test None ms order
    ∙ same_where (or_named name test) (λ key. pointwise nat_eq name key || test key) ms
    (λ key. ap (λ (b : Bool). b || test key) (sym (texts_ties name key)))

abbrev at : Root → List (List ℕ) → Place
at root names = record { root = root; names = names }

at_root : (root : Root) (name : List ℕ) (test : Root → List ℕ → Bool) (entry : LogRecord) → KeysAscend None (members_in (root_value root entry))
    → with_found (at root (name ∷ [])) (datum_at (at root (name ∷ [])) entry) (roots_where test entry)
    ≡ roots_where (or_at (at root (name ∷ [])) test) entry
at_root Body name test entry order =
    by (member_at name (members_in entry.body))
    ∙ ap (λ (ms : Members). record whole { body = fields ms }) (member_more name (test Body) (members_in entry.body) order)
  where
    whole : LogRecord
    whole = roots_where test entry

    by : (found : Option Datum) → with_found (at Body (name ∷ [])) (option_and_then (λ v. Some v) found) whole
        ≡ record whole { body = fields (put_found name found (members_where (test Body) (members_in entry.body))) }
    by None = refl
    by (Some value) = refl
at_root Attributes name test entry order =
    by (member_at name entry.attributes)
    ∙ ap (λ (ms : Members). record whole { attributes = ms }) (member_more name (test Attributes) entry.attributes order)
  where
    whole : LogRecord
    whole = roots_where test entry

    by : (found : Option Datum) → with_found (at Attributes (name ∷ [])) (option_and_then (λ v. Some v) found) whole
        ≡ record whole { attributes = put_found name found (members_where (test Attributes) entry.attributes) }
    by None = refl
    by (Some value) = refl
at_root Resource name test entry order =
    by (member_at name entry.resource)
    ∙ ap (λ (ms : Members). record whole { resource = ms }) (member_more name (test Resource) entry.resource order)
  where
    whole : LogRecord
    whole = roots_where test entry

    by : (found : Option Datum) → with_found (at Resource (name ∷ [])) (option_and_then (λ v. Some v) found) whole
        ≡ record whole { resource = put_found name found (members_where (test Resource) entry.resource) }
    by None = refl
    by (Some value) = refl

field_more : (root : Root) (names : List (List ℕ)) (test : Root → List ℕ → Bool) (entry : LogRecord) → is_member (at root names) ≡ true
    → KeysAscend None (members_in (root_value root entry))
    → with_found (at root names) (datum_at (at root names) entry) (roots_where test entry) ≡ roots_where (or_at (at root names) test) entry
field_more root [] test entry one order = absurd (cc one)
field_more root (name ∷ []) test entry one order = at_root root name test entry order
field_more root (name ∷ next ∷ names) test entry one order = search (rules, tests, one)

-- ---- all fields

both_true : (x y : Bool) → (x && y) ≡ true → (x ≡ true) × (y ≡ true)
both_true true y e = (refl, e)
both_true false y e = absurd (cc e)

listed_more : (b a r : Bool) (listed : List Place) (test : Root → List ℕ → Bool) (entry : LogRecord)
    → list_all is_member listed ≡ true → AllNamed b a r listed → Ascending b a r entry
    → with_listed listed entry (roots_where test entry) ≡ roots_where (λ root name. any_at_member listed root name || test root name) entry
listed_more b a r [] test entry ones named order = refl
listed_more b a r (field ∷ listed) test entry ones named order =
    let one = both_true (is_member field) (list_all is_member listed) ones in
    ap (with_listed listed entry) (field_more field.root field.names test entry one.0 (order field.root named.0))
    ∙ listed_more b a r listed (or_at field test) entry one.1 named.1 order
    ∙ same_roots (λ root name. any_at_member listed root name || or_at field test root name)
    (λ root name. any_at_member (field ∷ listed) root name || test root name) entry
    (λ root name. in_front (is_at_member root name field) (any_at_member listed root name) (test root name))
  where
    in_front : (x y z : Bool) → (y || (x || z)) ≡ ((x || y) || z)
    in_front true true z = refl
    in_front true false z = refl
    in_front false true z = refl
    in_front false false z = refl

nothing_kept : (ms : Members) → members_where (λ _. false) ms ≡ no_members
nothing_kept no_members = refl
nothing_kept (member name x rest) = nothing_kept rest

no_roots : (entry : LogRecord) → no_fields ≡ roots_where (λ _ _. false) entry
no_roots entry =
    sym (ap (λ (ms : Members). record none { body = fields ms }) (nothing_kept (members_in entry.body))
    ∙ ap (λ (ms : Members). record none { body = fields no_members; attributes = ms }) (nothing_kept entry.attributes)
    ∙ ap (λ (ms : Members). record no_fields { resource = ms }) (nothing_kept entry.resource))
  where
    none : LogRecord
    none = roots_where (λ _ _. false) entry

or_false : (x : Bool) → (x || false) ≡ x
or_false true = refl
or_false false = refl

all_kept : (b a r : Bool) (listed : List Place) (entry : LogRecord) → list_all is_member listed ≡ true → AllNamed b a r listed
    → Ascending b a r entry → roots_where (any_at_member listed) entry ≡ with_listed listed entry no_fields
all_kept b a r listed entry ones named order =
    sym (ap (with_listed listed entry) (no_roots entry)
    ∙ listed_more b a r listed (λ _ _. false) entry ones named order
    ∙ same_roots (λ root name. any_at_member listed root name || false) (any_at_member listed) entry
    (λ root name. or_false (any_at_member listed root name)))

-- the listed members of the roots of which one is listed are what retaining leaves
pub members_retained : (listed : List Place) (before after : LogRecord) → list_all is_member listed ≡ true
    → Ascending (any_root is_body listed) (any_root is_attributes listed) (any_root is_resource listed) before
    → after ≡ with_roots (any_root is_body listed) (any_root is_attributes listed) (any_root is_resource listed)
    (roots_where (any_at_member listed) before) before
    → after ≡ retained listed before
members_retained listed before after ones order put =
    retained_by_roots listed before (roots_where (any_at_member listed) before) after (all_kept b a r listed before ones (all_named listed) order) put
  where
    b : Bool
    b = any_root is_body listed

    a : Bool
    a = any_root is_attributes listed

    r : Bool
    r = any_root is_resource listed

-- ---- root by root

pub ascending : (b a r : Bool) (entry : LogRecord) → (b ≡ true → KeysAscend None (members_in entry.body))
    → (a ≡ true → KeysAscend None entry.attributes) → (r ≡ true → KeysAscend None entry.resource) → Ascending b a r entry
ascending b a r entry body attributes resource Body = body
ascending b a r entry body attributes resource Attributes = attributes
ascending b a r entry body attributes resource Resource = resource

members_put : (b : Bool) (test : List ℕ → Bool) (old new : Datum) (ms : Members) → members_in old ≡ ms
    → new ≡ cond b (fields (members_where test (members_in old))) old → members_in new ≡ cond b (members_where test ms) ms
members_put b test old new ms is put = ap members_in put ∙ by b ∙ ap (λ (m : Members). cond b (members_where test m) m) is
  where
    by : (b : Bool) → members_in (cond b (fields (members_where test (members_in old))) old)
        ≡ cond b (members_where test (members_in old)) (members_in old)
    by true = refl
    by false = refl

-- each root by itself makes the whole
pub roots_put : (b a r : Bool) (test : Root → List ℕ → Bool) (before : LogRecord) (old_attributes old_resource body attributes resource : Datum)
    → members_in old_attributes ≡ before.attributes → members_in old_resource ≡ before.resource
    → body ≡ cond b (fields (members_where (test Body) (members_in before.body))) before.body
    → attributes ≡ cond a (fields (members_where (test Attributes) (members_in old_attributes))) old_attributes
    → resource ≡ cond r (fields (members_where (test Resource) (members_in old_resource))) old_resource
    → record before { body = body; attributes = members_in attributes; resource = members_in resource }
    ≡ with_roots b a r (roots_where test before) before
roots_put b a r test before old_attributes old_resource body attributes resource same_attributes same_resource first second third =
    ap (λ (d : Datum). record before { body = d; attributes = members_in attributes; resource = members_in resource }) first
    ∙ ap (λ (ms : Members). record whole { attributes = ms; resource = members_in resource })
    (members_put a (test Attributes) old_attributes attributes before.attributes same_attributes second)
    ∙ ap (λ (ms : Members). record whole { resource = ms }) (members_put r (test Resource) old_resource resource before.resource same_resource third)
  where
    whole : LogRecord
    whole = with_roots b a r (roots_where test before) before
