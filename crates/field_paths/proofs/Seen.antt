-- What was read, in each state of the reader.
use Rattle.std.proofs.Common.{◌≡◌, ◌≢◌, ℕ, ◌+◌, ◌<◌, ◌≤◌, List, [], ◌∷◌, ◌++◌, ◌∙◌, ap, sym, refl, subst, length, take, Option, None, Some, option_and_then, Bool, true, false, cond, ◌&&◌, nat_eq, nat_lt, slice_index, IsTrue, inl, inr, append_assoc, add-one, arith, take-suc}
use Rattle.std.proofs.Math.Seq.{take-length}
use Rattle.std.proofs.lemmas.Bool.{eqb-true}
use Rattle.std.proofs.lemmas.Bool.Decides.{nat_tests}
use Rattle.std.proofs.lemmas.List.{append-nil}
use Rattle.std.proofs.lemmas.List.Folds.{list_all-append}
use Rattle.std.specs.List.{list_all}
use Rattle.field_paths.specs.declared.path.Root.{Root}
use Rattle.field_paths.specs.declared.path.Root.TheVariants.{Body, Attributes, Resource}
use Rattle.field_paths.specs.declared.read.Phase.{Phase}
use Rattle.field_paths.specs.declared.read.Phase.TheVariants as phase
use Rattle.field_paths.specs.PathText.{InARow, root_name, is_name_byte, is_quote, is_escaped, WritesByte, IsBracketed, WritesMember}
use Rattle.field_paths.specs.Reader.{State, start, begun, gone_on, opened, closed, named, named_on, quoted, step_from, step, steps}
use Rattle.field_paths.proofs.Rows.{row_push}

-- the root's name, the members that are whole, and b
abbrev pub Inside : State → List ℕ → List ℕ → Type 0
Inside s b front = (a : List ℕ) × (front ≡ root_name s.root ++ (a ++ b)) × InARow WritesMember a s.names × (length s.names < 32)

abbrev pub InQuotes : State → ℕ → List ℕ → List ℕ → Type 0
InQuotes s quote inner b = IsTrue (is_quote quote) × InARow (WritesByte quote) inner s.name

abbrev pub SeenFrom : Phase → State → List ℕ → Type 0
SeenFrom phase.Start s front = (front ≡ []) × (s.names ≡ [])
SeenFrom (phase.Root matched) s front = (matched < length (root_name s.root)) × (front ≡ take matched (root_name s.root)) × (s.names ≡ [])
SeenFrom phase.Between s front = (a : List ℕ) × (front ≡ root_name s.root ++ a) × InARow WritesMember a s.names × (length s.names ≤ 32)
SeenFrom phase.Dot s front = Inside s (46 ∷ []) front × (s.name ≡ [])
SeenFrom phase.Name s front = Inside s (46 ∷ s.name) front × (s.name ≢ []) × IsTrue (list_all is_name_byte s.name)
SeenFrom phase.Bracket s front = Inside s (91 ∷ []) front × (s.name ≡ [])
SeenFrom (phase.Quoted quote) s front = (inner : List ℕ) × IsTrue (is_quote quote) × InARow (WritesByte quote) inner s.name × Inside s (91 ∷ quote ∷ inner) front
SeenFrom (phase.Escape quote) s front = (inner : List ℕ) × IsTrue (is_quote quote) × InARow (WritesByte quote) inner s.name × Inside s (91 ∷ quote ∷ (inner ++ 92 ∷ [])) front
SeenFrom phase.Closing s front = (quote : ℕ) × (inner : List ℕ) × IsTrue (is_quote quote) × InARow (WritesByte quote) inner s.name × Inside s (91 ∷ quote ∷ (inner ++ quote ∷ [])) front

abbrev pub Seen : State → List ℕ → Type 0
Seen s front = SeenFrom s.phase s front

-- a byte more of a member
more_inside : (s : State) (b front : List ℕ) (byte : ℕ) → Inside s b front → Inside s (b ++ byte ∷ []) (front ++ byte ∷ [])
more_inside s b front byte i = (i.0, ap (λ (t : List ℕ). t ++ byte ∷ []) i.1 ∙ (simp append_assoc), i.2, i.3)

length-push : {A : Type 0} (xs : List A) (x : A) → length (xs ++ x ∷ []) ≡ length xs + 1
length-push [] x = refl
length-push (y ∷ ys) x = omega (arith, length-push ys x)

-- a whole member
pub member_whole : (s : State) (b front : List ℕ) → Inside s b front → WritesMember b s.name
    → (a : List ℕ) × (front ≡ root_name s.root ++ a) × InARow WritesMember a (s.names ++ s.name ∷ []) × (length (s.names ++ s.name ∷ []) ≤ 32)
member_whole s b front i w = (i.0 ++ b, i.1, row_push WritesMember i.0 b s.names s.name i.2 w, omega (arith, length-push s.names s.name, i.3))

opened_seen : (s t : State) (front a : List ℕ) (byte : ℕ) → front ≡ root_name s.root ++ a → InARow WritesMember a s.names → opened s byte ≡ Some t → Seen t (front ++ byte ∷ [])
unfolding opened
opened_seen s t front a byte e row h = room (nat_lt (length s.names) 32) refl h
  where
    inside : (b : ℕ) → byte ≡ b → nat_lt (length s.names) 32 ≡ true → Inside s (b ∷ []) (front ++ byte ∷ [])
    inside b same few = (a, ap (λ (t : List ℕ). t ++ byte ∷ []) e ∙ (rw (same, append_assoc) refl), row, grind (arith, nat_tests))

    bracket : (c : Bool) → nat_eq byte 91 ≡ c → nat_lt (length s.names) 32 ≡ true → cond c (Some (record s { phase = phase.Bracket; name = [] })) None ≡ Some t → Seen t (front ++ byte ∷ [])
    bracket true same few h = let e : record s { phase = phase.Bracket; name = [] } ≡ t = cc h in subst (λ (u : State). Seen u (front ++ byte ∷ [])) e (inside 91 (eqb-true byte 91 same) few, refl)
    bracket false same few h = absurd (cc h)

    dot : (c : Bool) → nat_eq byte 46 ≡ c → nat_lt (length s.names) 32 ≡ true
        → cond c (Some (record s { phase = phase.Dot; name = [] })) (cond (nat_eq byte 91) (Some (record s { phase = phase.Bracket; name = [] })) None) ≡ Some t → Seen t (front ++ byte ∷ [])
    dot true same few h = let e : record s { phase = phase.Dot; name = [] } ≡ t = cc h in subst (λ (u : State). Seen u (front ++ byte ∷ [])) e (inside 46 (eqb-true byte 46 same) few, refl)
    dot false same few h = bracket (nat_eq byte 91) refl few h

    room : (c : Bool) → nat_lt (length s.names) 32 ≡ c
        → cond c (cond (nat_eq byte 46) (Some (record s { phase = phase.Dot; name = [] })) (cond (nat_eq byte 91) (Some (record s { phase = phase.Bracket; name = [] })) None)) None ≡ Some t → Seen t (front ++ byte ∷ [])
    room true few h = dot (nat_eq byte 46) refl few h
    room false few h = absurd (cc h)

begun_seen : (s t : State) (byte : ℕ) → s.names ≡ [] → begun s byte ≡ Some t → Seen t (byte ∷ [])
unfolding begun root_name
begun_seen s t byte none h = body (nat_eq byte 98) refl h
  where
    at : (root : Root) → byte ∷ [] ≡ take 1 (root_name root) → 1 < length (root_name root) → record s { phase = phase.Root 1; root = root } ≡ t → Seen t (byte ∷ [])
    at root e l same = subst (λ (u : State). Seen u (byte ∷ [])) same (l, e, none)

    resource : (c : Bool) → nat_eq byte 114 ≡ c → cond c (Some (record s { phase = phase.Root 1; root = Resource })) None ≡ Some t → Seen t (byte ∷ [])
    resource true same h = at Resource (ap (λ (b : ℕ). b ∷ []) (eqb-true byte 114 same)) (omega arith) (cc h)
    resource false same h = absurd (cc h)

    attributes : (c : Bool) → nat_eq byte 97 ≡ c → cond c (Some (record s { phase = phase.Root 1; root = Attributes })) (cond (nat_eq byte 114) (Some (record s { phase = phase.Root 1; root = Resource })) None) ≡ Some t → Seen t (byte ∷ [])
    attributes true same h = at Attributes (ap (λ (b : ℕ). b ∷ []) (eqb-true byte 97 same)) (omega arith) (cc h)
    attributes false same h = resource (nat_eq byte 114) refl h

    body : (c : Bool) → nat_eq byte 98 ≡ c → cond c (Some (record s { phase = phase.Root 1; root = Body })) (cond (nat_eq byte 97) (Some (record s { phase = phase.Root 1; root = Attributes })) (cond (nat_eq byte 114) (Some (record s { phase = phase.Root 1; root = Resource })) None)) ≡ Some t → Seen t (byte ∷ [])
    body true same h = at Body (ap (λ (b : ℕ). b ∷ []) (eqb-true byte 98 same)) (omega arith) (cc h)
    body false same h = attributes (nat_eq byte 97) refl h

whole_root : (xs : List ℕ) → take (length xs) xs ≡ xs ++ []
whole_root xs = take-length xs ∙ sym (append-nil xs)

no_parts : (names : List (List ℕ)) → names ≡ [] → InARow WritesMember [] names
no_parts names e = rw e refl

gone_on_seen : (s t : State) (matched : ℕ) (front : List ℕ) (byte : ℕ) → SeenFrom (phase.Root matched) s front → gone_on s matched byte ≡ Some t → Seen t (front ++ byte ∷ [])
unfolding gone_on
gone_on_seen s t matched front byte seen h = by (nat_lt matched (length (root_name s.root)) && nat_eq byte (slice_index (root_name s.root) matched)) refl h
  where
    next : Phase
    next = cond (nat_eq (matched + 1) (length (root_name s.root))) phase.Between (phase.Root (matched + 1))

    longer : byte ≡ slice_index (root_name s.root) matched → front ++ byte ∷ [] ≡ take (matched + 1) (root_name s.root)
    longer e = rw (seen.1, e, add-one, take-suc (root_name s.root) matched 0 seen.0) refl

    last : (c : Bool) → nat_eq (matched + 1) (length (root_name s.root)) ≡ c → byte ≡ slice_index (root_name s.root) matched
        → Seen (record s { phase = cond c phase.Between (phase.Root (matched + 1)) }) (front ++ byte ∷ [])
    last true all e = ([], longer e ∙ rw (eqb-true (matched + 1) (length (root_name s.root)) all) (whole_root (root_name s.root)), no_parts s.names seen.2, rw seen.2 (omega arith))
    last false all e = (grind (arith, nat_tests), longer e, seen.2)

    by : (c : Bool) → (nat_lt matched (length (root_name s.root)) && nat_eq byte (slice_index (root_name s.root) matched)) ≡ c
        → cond c (Some (record s { phase = next })) None ≡ Some t → Seen t (front ++ byte ∷ [])
    by true e h = let same : record s { phase = next } ≡ t = cc h in subst (λ (u : State). Seen u (front ++ byte ∷ [])) same (last (nat_eq (matched + 1) (length (root_name s.root))) refl (eqb-true byte (slice_index (root_name s.root) matched) (grind (arith, nat_tests))))
    by false e h = absurd (cc h)

-- the members that are whole between two of them
abbrev Between : State → List ℕ → Type 0
Between s front = (a : List ℕ) × (front ≡ root_name s.root ++ a) × InARow WritesMember a s.names × (length s.names ≤ 32)

-- a byte that a name goes on with
plain : (quote byte : ℕ) (inner name : List ℕ) → InARow (WritesByte quote) inner name → byte ≢ quote → byte ≢ 92 → InARow (WritesByte quote) (inner ++ byte ∷ []) (name ++ byte ∷ [])
plain quote byte inner name row q b = row_push (WritesByte quote) inner (byte ∷ []) name byte row (inl (refl, q, b))

escaped : (quote byte : ℕ) (inner name : List ℕ) → InARow (WritesByte quote) inner name → is_escaped byte ≡ true → InARow (WritesByte quote) ((inner ++ 92 ∷ []) ++ byte ∷ []) (name ++ byte ∷ [])
escaped quote byte inner name row e = rw append_assoc (row_push (WritesByte quote) inner (92 ∷ byte ∷ []) name byte row (inr (refl, e)))

quoted_seen : (s t : State) (quote byte : ℕ) (front : List ℕ) → SeenFrom (phase.Quoted quote) s front → quoted s quote byte ≡ t → Seen t (front ++ byte ∷ [])
unfolding quoted
quoted_seen s t quote byte front seen h = subst (λ (u : State). Seen u (front ++ byte ∷ [])) h (closes (nat_eq byte quote) refl)
  where
    more : Inside s (91 ∷ quote ∷ (seen.0 ++ byte ∷ [])) (front ++ byte ∷ [])
    more = more_inside s (91 ∷ quote ∷ seen.0) front byte seen.3

    escapes : (c : Bool) → nat_eq byte 92 ≡ c → nat_eq byte quote ≡ false → Seen (cond c (record s { phase = phase.Escape quote }) (named s (phase.Quoted quote) byte)) (front ++ byte ∷ [])
    escapes true e q = (seen.0, seen.1, seen.2, subst (λ (b : ℕ). Inside s (91 ∷ quote ∷ (seen.0 ++ b ∷ [])) (front ++ byte ∷ [])) (eqb-true byte 92 e) more)
    escapes false e q = (seen.0 ++ byte ∷ [], seen.1, plain quote byte seen.0 s.name seen.2 (λ (same : byte ≡ quote). grind (arith, nat_tests)) (λ (same : byte ≡ 92). grind (arith, nat_tests)), more)

    closes : (c : Bool) → nat_eq byte quote ≡ c → Seen (cond c (record s { phase = phase.Closing }) (cond (nat_eq byte 92) (record s { phase = phase.Escape quote }) (named s (phase.Quoted quote) byte))) (front ++ byte ∷ [])
    closes true e = (quote, seen.0, seen.1, seen.2, subst (λ (b : ℕ). Inside s (91 ∷ quote ∷ (seen.0 ++ b ∷ [])) (front ++ byte ∷ [])) (eqb-true byte quote e) more)
    closes false e = escapes (nat_eq byte 92) refl e

-- a test that lets through one state alone
passes : (c : Bool) (u t : State) → cond c (Some u) None ≡ Some t → (c ≡ true) × (u ≡ t)
passes true u t h = (refl, cc h)
passes false u t h = absurd (cc h)

not_empty : (name : List ℕ) (byte : ℕ) → name ++ byte ∷ [] ≡ [] → ⊥
not_empty [] byte e = cc e
not_empty (x ∷ xs) byte e = cc e

one_more : (name : List ℕ) (byte : ℕ) → list_all is_name_byte name ≡ true → is_name_byte byte ≡ true → list_all is_name_byte (name ++ byte ∷ []) ≡ true
one_more name byte all one = list_all-append is_name_byte name (byte ∷ []) ∙ (rw (all, one) refl)

named_seen : (s t : State) (b : List ℕ) (byte : ℕ) (front : List ℕ) → Inside s b front → b ≡ 46 ∷ s.name → IsTrue (list_all is_name_byte s.name) → is_name_byte byte ≡ true
    → named s phase.Name byte ≡ t → Seen t (front ++ byte ∷ [])
named_seen s t b byte front i e all one same =
    subst (λ (u : State). Seen u (front ++ byte ∷ [])) same
    (subst (λ (c : List ℕ). Inside s (c ++ byte ∷ []) (front ++ byte ∷ [])) e (more_inside s b front byte i), not_empty s.name byte, one_more s.name byte all one)

name_on_seen : (s t : State) (byte : ℕ) (front : List ℕ) → SeenFrom phase.Name s front → named_on s byte ≡ Some t → Seen t (front ++ byte ∷ [])
name_on_seen s t byte front seen h = by (is_name_byte byte) refl h
  where
    whole : (a : List ℕ) × (front ≡ root_name s.root ++ a) × InARow WritesMember a (s.names ++ s.name ∷ []) × (length (s.names ++ s.name ∷ []) ≤ 32)
    whole = member_whole s (46 ∷ s.name) front seen.0 (inl (refl, seen.1, seen.2))

    by : (c : Bool) → is_name_byte byte ≡ c → cond c (Some (named s phase.Name byte)) (opened (closed s) byte) ≡ Some t → Seen t (front ++ byte ∷ [])
    by true e h = named_seen s t (46 ∷ s.name) byte front seen.0 refl seen.2 e (cc h)
    by false e h = opened_seen (closed s) t front whole.0 byte whole.1 whole.2 h

pub seen_from : (p : Phase) (s t : State) (byte : ℕ) (front : List ℕ) → SeenFrom p s front → step_from p s byte ≡ Some t → Seen t (front ++ byte ∷ [])
seen_from phase.Start s t byte front seen h = rw seen.0 (begun_seen s t byte seen.1 h)
seen_from (phase.Root matched) s t byte front seen h = gone_on_seen s t matched front byte seen h
seen_from phase.Between s t byte front seen h = opened_seen s t front seen.0 byte seen.1 seen.2 h
seen_from phase.Dot s t byte front seen h =
    let p = passes (is_name_byte byte) (named s phase.Name byte) t h in
    named_seen s t (46 ∷ []) byte front seen.0 (rw seen.1 refl) (rw seen.1 refl) p.0 p.1
seen_from phase.Name s t byte front seen h = name_on_seen s t byte front seen h
seen_from phase.Bracket s t byte front seen h =
    let p = passes (is_quote byte) (record s { phase = phase.Quoted byte }) t h in
    subst (λ (u : State). Seen u (front ++ byte ∷ [])) p.1 ([], p.0, rw seen.1 refl, more_inside s (91 ∷ []) front byte seen.0)
seen_from (phase.Quoted quote) s t byte front seen h = quoted_seen s t quote byte front seen (cc h)
seen_from (phase.Escape quote) s t byte front seen h =
    let p = passes (is_escaped byte) (named s (phase.Quoted quote) byte) t h in
    subst (λ (u : State). Seen u (front ++ byte ∷ [])) p.1
    ((seen.0 ++ 92 ∷ []) ++ byte ∷ [], seen.1, escaped quote byte seen.0 s.name seen.2 p.0, more_inside s (91 ∷ quote ∷ (seen.0 ++ 92 ∷ [])) front byte seen.3)
seen_from phase.Closing s t byte front seen h =
    let p = passes (nat_eq byte 93) (record (closed s) { phase = phase.Between }) t h in
    let more : Inside s (91 ∷ seen.0 ∷ ((seen.1 ++ seen.0 ∷ []) ++ byte ∷ [])) (front ++ byte ∷ []) = more_inside s (91 ∷ seen.0 ∷ (seen.1 ++ seen.0 ∷ [])) front byte seen.4 in
    let bracketed : IsBracketed (91 ∷ seen.0 ∷ ((seen.1 ++ seen.0 ∷ []) ++ byte ∷ [])) s.name = (seen.0, seen.1, seen.2, rw (eqb-true byte 93 p.0, append_assoc) refl, seen.3) in
    subst (λ (u : State). Seen u (front ++ byte ∷ [])) p.1
    (member_whole s (91 ∷ seen.0 ∷ ((seen.1 ++ seen.0 ∷ []) ++ byte ∷ [])) (front ++ byte ∷ []) more (inr bracketed))

pub seen_steps : (s t : State) (front bytes : List ℕ) → Seen s front → steps s bytes ≡ Some t → Seen t (front ++ bytes)
seen_steps s t front [] seen h = let e : s ≡ t = cc h in subst (λ (u : State). Seen u (front ++ [])) e (rw append-nil seen)
seen_steps s t front (byte ∷ bytes) seen h = by (step s byte) refl h (λ (next : State). seen_steps next t (front ++ byte ∷ []) bytes)
  where
    by : (r : Option State) → step s byte ≡ r → option_and_then (λ next. steps next bytes) r ≡ Some t
        → ((next : State) → Seen next (front ++ byte ∷ []) → steps next bytes ≡ Some t → Seen t ((front ++ byte ∷ []) ++ bytes)) → Seen t (front ++ byte ∷ bytes)
    by None e h rec = absurd (cc h)
    by (Some next) e h rec = subst (λ (l : List ℕ). Seen t l) (append_assoc front (byte ∷ []) bytes) (rec next (seen_from s.phase s next byte front seen e) h)

pub seen_all : (t : State) (bytes : List ℕ) → steps start bytes ≡ Some t → Seen t bytes
seen_all t bytes h = seen_steps start t [] bytes (refl, refl) h
