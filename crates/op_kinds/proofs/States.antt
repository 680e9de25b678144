-- States of operators as bytes: what is read is what is spelled, and what is spelled is read again.
use Rattle.std.proofs.Common.{◌≡◌, ℕ, ◌+◌, ◌-◌, ◌<◌, ◌≤◌, List, [], ◌∷◌, ◌++◌, Bool, true, false, true≢false, length, take, drop, map, Ok, Err, arith, refl, sym, ap, subst, ◌∙◌, inl, append_assoc, drop-cons, length-append, length-drop}
use Rattle.std.proofs.Math.Seq.{take-suc}
use Rattle.std.proofs.lemmas.List.{append-nil, drop_all}
use Rattle.std.specs.Prelude.{slice_index_or, Result, is_ok, is_err, if◌then◌else◌}
use Rattle.graph_core.specs.declared.NodeSpec.{NodeSpec}
use Rattle.op_kinds.specs.Kept.{Kept, nothing, groups, keeps_groups, fresh_kept}
use Rattle.op_kinds.specs.Operator.{Operator, has_groups}
use Rattle.op_kinds.specs.States.{kept_spelling, states_spelling, HasSpelling, HaveSpellings, kinds_of, fresh_states, SpellOf, Spell, SpellNone, kept_at, states_at, ended, all_at, IsDeadEnd, SpellNoneOf, IsRefused}
use Rattle.recombine.proofs.SpellingLemmas.{fair_groups, groups_reader}
use Rattle.recombine.specs.Group.{Group}
use Rattle.recombine.specs.Reading.{groups_at}
use Rattle.recombine.specs.Restores.{IsPart, Restores}
use Rattle.recombine.specs.Inner.Told.{IsRead, Finds}
use Rattle.state_codec.proofs.Fair.{Fair, Local, Blame, fair_bind, fair_ok, err_is}
use Rattle.state_codec.proofs.Numbers.{IsBytes, Takes, takes_both, bind_ok, ok_is, err_or_ok}
use Rattle.state_codec.specs.Reading.{Reading, ◌>>=◌}
use Rattle.state_codec.specs.declared.CodecFault.{CodecFault}
use Rattle.state_codec.specs.declared.CodecFault.TheVariants.{Malformed, Memory}

-- there is a state of each kind
abbrev pub Are : List Bool → List Kept → Type 0
Are kinds states = map keeps_groups states ≡ kinds

-- ---- the first states

fresh_kind : (b : Bool) → keeps_groups (fresh_kept b) ≡ b
fresh_kind true = refl
fresh_kind false = refl

pub fresh_kinds : (kinds : List Bool) → Are kinds (fresh_states kinds)
fresh_kinds [] = refl
fresh_kinds (kind ∷ kinds) = ap (λ b. b ∷ map keeps_groups (fresh_states kinds)) (fresh_kind kind) ∙ ap (λ bs. kind ∷ bs) (fresh_kinds kinds)

fresh_has : (b : Bool) → HasSpelling (fresh_kept b)
fresh_has true = record { few = omega arith; each = tt }
fresh_has false = tt

pub fresh_have : (kinds : List Bool) → HaveSpellings (fresh_states kinds)
fresh_have [] = tt
fresh_have (kind ∷ kinds) = (fresh_has kind, fresh_have kinds)

pub fresh_spelled : (kinds : List Bool) → SpellOf kinds (states_spelling (fresh_states kinds)) (fresh_states kinds)
fresh_spelled kinds = record { kinds = fresh_kinds kinds; lawful = fresh_have kinds; spelled = refl }

pub first_kind : (kind : Bool) (kinds : List Bool) (kept : Kept) (states : List Kept) → Are (kind ∷ kinds) (kept ∷ states) → keeps_groups kept ≡ kind
first_kind kind kinds kept states is = cc is

pub other_kinds : (kind : Bool) (kinds : List Bool) (kept : Kept) (states : List Kept) → Are (kind ∷ kinds) (kept ∷ states) → Are kinds states
other_kinds kind kinds kept states is = cc is

-- ---- readers that blame the first part with which nothing goes on

kept_fair : (b : Bool) → Fair IsPart (λ (bytes : List ℕ). kept_at b bytes)
kept_fair false = fair_ok nothing
kept_fair true = fair_bind (λ (bytes : List ℕ). groups_at bytes) (λ open_now. Ok (groups open_now.0, open_now.1)) fair_groups (λ open_now. fair_ok (groups open_now))

states_fair : (kinds : List Bool) → Fair IsPart (λ (bytes : List ℕ). states_at kinds bytes)
states_fair [] = fair_ok []
states_fair (kind ∷ kinds) =
    fair_bind (λ (bytes : List ℕ). kept_at kind bytes) (λ first. states_at kinds first.1 >>= λ others. Ok (first.0 ∷ others.0, others.1)) (kept_fair kind)
    (λ first. fair_bind (λ (bytes : List ℕ). states_at kinds bytes) (λ others. Ok (first ∷ others.0, others.1)) (states_fair kinds) (λ others. fair_ok (first ∷ others)))

-- ---- what is read is spelled

record KeptTaken (b : Bool) (bytes : List ℕ) (kept : Kept) (rest : List ℕ) : Type 0 where
  kind : keeps_groups kept ≡ b
  lawful : HasSpelling kept
  takes : Takes bytes (kept_spelling kept) rest

kept_taken : (b : Bool) (bytes : List ℕ) (x : Kept × List ℕ) → IsBytes bytes → kept_at b bytes ≡ Ok x → KeptTaken b bytes x.0 x.1
kept_taken false bytes x fits e =
    subst (λ (y : Kept × List ℕ). KeptTaken false bytes y.0 y.1) (ok_is (nothing, bytes) x e) (record { kind = refl; lawful = tt; takes = record { parts = refl; left = fits } })
kept_taken true bytes x fits e =
    let read = bind_ok (groups_at bytes) (λ open_now. Ok (groups open_now.0, open_now.1)) x e in
    let t = groups_reader.takes bytes read.0 fits read.1 in
    subst (λ (y : Kept × List ℕ). KeptTaken true bytes y.0 y.1) (ok_is (groups read.0.0, read.0.1) x read.2) (record { kind = refl; lawful = t.1; takes = t.0 })

record StatesTaken (kinds : List Bool) (bytes : List ℕ) (states : List Kept) (rest : List ℕ) : Type 0 where
  kinds_are : Are kinds states
  lawful : HaveSpellings states
  takes : Takes bytes (states_spelling states) rest

states_taken : (kinds : List Bool) (bytes : List ℕ) (x : List Kept × List ℕ) → IsBytes bytes → states_at kinds bytes ≡ Ok x → StatesTaken kinds bytes x.0 x.1
states_taken [] bytes x fits e =
    subst (λ (y : List Kept × List ℕ). StatesTaken [] bytes y.0 y.1) (ok_is ([], bytes) x e) (record { kinds_are = refl; lawful = tt; takes = record { parts = refl; left = fits } })
states_taken (kind ∷ kinds) bytes x fits e =
    let first = bind_ok (kept_at kind bytes) (λ one. states_at kinds one.1 >>= λ others. Ok (one.0 ∷ others.0, others.1)) x e in
    let others = bind_ok (states_at kinds first.0.1) (λ more. Ok (first.0.0 ∷ more.0, more.1)) x first.2 in
    let one = kept_taken kind bytes first.0 fits first.1 in
    let more = states_taken kinds first.0.1 others.0 one.takes.left others.1 in
    subst (λ (y : List Kept × List ℕ). StatesTaken (kind ∷ kinds) bytes y.0 y.1) (ok_is (first.0.0 ∷ others.0.0, others.0.1) x others.2) (record {
      kinds_are = ap (λ b. b ∷ map keeps_groups others.0.0) one.kind ∙ ap (λ bs. kind ∷ bs) more.kinds_are;
      lawful = (one.lawful, more.lawful);
      takes = takes_both bytes (kept_spelling first.0.0) first.0.1 (states_spelling others.0.0) others.0.1 one.takes more.takes;
    })

ended_is : (states : List Kept) (rest : List ℕ) (x : List Kept × List ℕ) → ended states rest ≡ Ok x → (x.0 ≡ states) × (rest ≡ [])
ended_is states [] x e = (ap (λ (y : List Kept × List ℕ). y.0) (sym (ok_is (states, []) x e)), refl)
ended_is states (byte ∷ rest) x e = absurd (err_or_ok (ended states (byte ∷ rest)) (length (byte ∷ rest)) x refl e)

pub read_is_spelled : (kinds : List Bool) (bytes : List ℕ) (x : List Kept × List ℕ) → IsBytes bytes → all_at kinds bytes ≡ Ok x → SpellOf kinds bytes x.0
read_is_spelled kinds bytes x fits e =
    let read = bind_ok (states_at kinds bytes) (λ y. ended y.0 y.1) x e in
    let ends = ended_is read.0.0 read.0.1 x read.2 in
    let t = states_taken kinds bytes read.0 fits read.1 in
    subst (SpellOf kinds bytes) (sym ends.0) (record {
      kinds = t.kinds_are;
      lawful = t.lawful;
      spelled = t.takes.parts ∙ ap (λ (rest : List ℕ). states_spelling read.0.0 ++ rest) ends.1 ∙ append-nil (states_spelling read.0.0);
    })

-- ---- what is spelled is read again

kept_again : (b : Bool) (kept : Kept) (rest : List ℕ) → keeps_groups kept ≡ b → HasSpelling kept → kept_at b (kept_spelling kept ++ rest) ≡ Ok (kept, rest)
kept_again false nothing rest is lawful = refl
kept_again false (groups open_now) rest is lawful = absurd (true≢false is)
kept_again true nothing rest is lawful = absurd (true≢false (sym is))
kept_again true (groups open_now) rest is lawful = ap (λ (r : Reading (List Group)). r >>= λ x. Ok (groups x.0, x.1)) (groups_reader.again open_now rest lawful)

states_again : (kinds : List Bool) (states : List Kept) (rest : List ℕ) → Are kinds states → HaveSpellings states → states_at kinds (states_spelling states ++ rest) ≡ Ok (states, rest)
states_again [] [] rest is lawful = refl
states_again [] (kept ∷ states) rest is lawful = cc is
states_again (kind ∷ kinds) [] rest is lawful = cc is
states_again (kind ∷ kinds) (kept ∷ states) rest is lawful =
    let behind : List ℕ = states_spelling states ++ rest in
    ap (states_at (kind ∷ kinds)) (append_assoc (kept_spelling kept) (states_spelling states) rest)
    ∙ ap (λ (r : Reading Kept). r >>= λ one. states_at kinds one.1 >>= λ others. Ok (one.0 ∷ others.0, others.1))
    (kept_again kind kept (states_spelling states ++ rest) (first_kind kind kinds kept states is) lawful.0)
    ∙ ap (λ (r : Reading (List Kept)). r >>= λ others. Ok (kept ∷ others.0, others.1)) (states_again kinds states rest (other_kinds kind kinds kept states is) lawful.1)

pub spelled_is_read : (kinds : List Bool) (bytes : List ℕ) (states : List Kept) → SpellOf kinds bytes states → all_at kinds bytes ≡ Ok (states, [])
spelled_is_read kinds bytes states spell =
    ap (all_at kinds) (spell.spelled ∙ sym (append-nil (states_spelling states)))
    ∙ ap (λ (r : Reading (List Kept)). r >>= λ x. ended x.0 x.1) (states_again kinds states [] spell.kinds spell.lawful)

-- ---- bytes that spell none

-- what reading tells where it can't go on
dead_end : (kinds : List Bool) (bytes : List ℕ) (left : ℕ) → Blame IsPart (λ (b : List ℕ). states_at kinds b) bytes left → left ≤ length bytes → IsDeadEnd kinds bytes (length bytes - left)
dead_end kinds bytes left b within = record {
  before = b.before;
  part = b.unit;
  after = b.after;
  parts = b.parts;
  place = omega (arith, b.left_is, within, ap (λ (l : List ℕ). length l) b.parts, length-append b.before (b.unit ++ b.after));
  whole = b.whole;
  none = λ states more spell.
      (let read = bind_ok (states_at kinds (b.before ++ (b.unit ++ more))) (λ y. ended y.0 y.1) (states, []) (spelled_is_read kinds (b.before ++ (b.unit ++ more)) states spell) in
      b.stops more read.0 read.1);
}

left_over : (kinds : List Bool) (bytes : List ℕ) (states : List Kept) (byte : ℕ) (rest : List ℕ) → Local (λ (b : List ℕ). states_at kinds b) bytes (states, byte ∷ rest) → IsDeadEnd kinds bytes (length bytes - length (byte ∷ rest))
left_over kinds bytes states byte rest l = record {
  before = l.front;
  part = byte ∷ [];
  after = rest;
  parts = l.parts;
  place = omega (arith, ap (λ (b : List ℕ). length b) l.parts, length-append l.front (byte ∷ rest));
  whole = inl refl;
  none = λ others more spell.
      (let ends : all_at kinds (l.front ++ (byte ∷ more)) ≡ Err (length (byte ∷ more)) = ap (λ (r : Reading (List Kept)). r >>= λ x. ended x.0 x.1) (l.again (byte ∷ more)) in
      err_or_ok (all_at kinds (l.front ++ (byte ∷ more))) (length (byte ∷ more)) (others, []) ends (spelled_is_read kinds (l.front ++ (byte ∷ more)) others spell));
}

dead : (kinds : List Bool) (bytes : List ℕ) (left at : ℕ) → IsBytes bytes → all_at kinds bytes ≡ Err left → at ≡ length bytes - left → at < length bytes → IsDeadEnd kinds bytes at
dead kinds bytes left at fits e is inside = by (states_at kinds bytes) refl e
  where
    some : 0 < left
    some = omega (arith, is, inside)

    at_left : (l : ℕ) → l ≡ left → IsDeadEnd kinds bytes (length bytes - l) → IsDeadEnd kinds bytes at
    at_left l same d = subst (IsDeadEnd kinds bytes) (ap (λ (n : ℕ). length bytes - n) same ∙ sym is) d

    within : (l : ℕ) → Blame IsPart (λ (b : List ℕ). states_at kinds b) bytes l → l ≤ length bytes
    within l b = omega (arith, b.left_is, ap (λ (t : List ℕ). length t) b.parts, length-append b.before (b.unit ++ b.after))

    by_end : (states : List Kept) (rest : List ℕ) → states_at kinds bytes ≡ Ok (states, rest) → ended states rest ≡ Err left → IsDeadEnd kinds bytes at
    by_end states [] read ends = absurd (err_or_ok (ended states []) left (states, []) ends refl)
    by_end states (byte ∷ rest) read ends =
        at_left (length (byte ∷ rest)) (err_is {A = List Kept} (length (byte ∷ rest)) left ends) (left_over kinds bytes states byte rest ((states_fair kinds).reads bytes (states, byte ∷ rest) fits read))

    by : (r : Reading (List Kept)) → states_at kinds bytes ≡ r → (r >>= λ x. ended x.0 x.1) ≡ Err left → IsDeadEnd kinds bytes at
    by (Ok x) read ends = by_end x.0 x.1 read ends
    by (Err l) read ends =
        let same = err_is {A = List Kept} l left ends in
        let b = (states_fair kinds).blames bytes left fits (read ∙ ap (λ (n : ℕ). Err n) same) some in
        subst (IsDeadEnd kinds bytes) (sym is) (dead_end kinds bytes left b (within left b))

pub refused : (kinds : List Bool) (bytes : List ℕ) (left at : ℕ) → IsBytes bytes → all_at kinds bytes ≡ Err left → at ≡ length bytes - left → SpellNoneOf kinds bytes at
refused kinds bytes left at fits e is = record {
  none = λ states spell. err_or_ok (all_at kinds bytes) left (states, []) e (spelled_is_read kinds bytes states spell);
  place = (left, e, is);
  stops = dead kinds bytes left at fits e is;
}

-- ---- one state more

pub one_more_state : (states : List Kept) (index : ℕ) (state : Kept) → index < length states → slice_index_or states index state ≡ state → take (index + 1) states ≡ take index states ++ state ∷ []
one_more_state states index state within at = grind (arith, take-suc states index state within, at)

pub have_push : (states : List Kept) (state : Kept) → HaveSpellings states → HasSpelling state → HaveSpellings (states ++ state ∷ [])
have_push [] state all has = (has, tt)
have_push (kept ∷ states) state all has = (all.0, have_push states state all.1 has)

-- what was pushed is there, where it isn't told that memory ran out
pub pushed : {A E : Type 0} (r : Result A E) (now more before : List Kept) → is_err r ≡ false → now ≡ (if is_ok r then more else before) → now ≡ more
pushed (Ok x) now more before isnt e = e
pushed (Err x) now more before isnt e = absurd (true≢false isnt)

-- ---- from place to place

-- groups that were restored, or their fault, as what is kept
pub restored_found : (bytes : List ℕ) (at : ℕ) (gs : List Group) (next : ℕ) → Restores bytes at (Ok (gs, next)) → IsRead (kept_at true) bytes at (groups gs) next
restored_found bytes at gs next r = record {
  given = ap (λ (rest : List ℕ). kept_at true rest) r.spelled ∙ kept_again true (groups gs) (drop next bytes) refl r.lawful;
  within = r.within;
}

-- what is read behind some states, with them
abbrev pub with_front : List Kept → Reading (List Kept) → Reading (List Kept)
with_front front r = r >>= λ x. Ok (front ++ x.0, x.1)

abbrev pub Nodes : Type 0
Nodes = List (NodeSpec Operator)

pub record SoFar (nodes : Nodes) (bytes : List ℕ) (index : ℕ) (states : List Kept) (at : ℕ) : Type 0 where
  pub within : at ≤ length bytes
  pub given : states_at (kinds_of nodes) bytes ≡ with_front states (states_at (kinds_of (drop index nodes)) (drop at bytes))

with_none : (r : Reading (List Kept)) → r ≡ with_front [] r
with_none (Ok x) = refl
with_none (Err left) = refl

with_one : (front : List Kept) (kept : Kept) (r : Reading (List Kept)) → with_front front (r >>= λ others. Ok (kept ∷ others.0, others.1)) ≡ with_front (front ++ kept ∷ []) r
with_one front kept (Ok x) = ap (λ (ks : List Kept). Ok (ks, x.1)) (sym (append_assoc front (kept ∷ []) x.0))
with_one front kept (Err left) = refl

pub first_so_far : (nodes : Nodes) (bytes : List ℕ) → SoFar nodes bytes 0 [] 0
first_so_far nodes bytes = record { within = omega arith; given = with_none (states_at (kinds_of nodes) bytes) }

next_node : (nodes : Nodes) (index : ℕ) (node : NodeSpec Operator) → index < length nodes → slice_index_or nodes index node ≡ node → drop index nodes ≡ node ∷ drop (index + 1) nodes
next_node nodes index node within at = grind (arith, drop-cons nodes index node within, at)

pub next_so_far : (nodes : Nodes) (bytes : List ℕ) (index : ℕ) (states : List Kept) (at : ℕ) (node : NodeSpec Operator) (kept : Kept) (next : ℕ) → index < length nodes → slice_index_or nodes index node ≡ node
    → SoFar nodes bytes index states at → IsRead (kept_at (has_groups node.op)) bytes at kept next → SoFar nodes bytes (index + 1) (states ++ kept ∷ []) next
next_so_far nodes bytes index states at node kept next within there so r = record {
  within = r.within;
  given = so.given ∙ ap (λ (ns : Nodes). with_front states (states_at (kinds_of ns) (drop at bytes))) (next_node nodes index node within there)
      ∙ ap (λ (one : Reading Kept). with_front states (one >>= λ first. states_at (kinds_of (drop (index + 1) nodes)) first.1 >>= λ others. Ok (first.0 ∷ others.0, others.1))) r.given
      ∙ with_one states kept (states_at (kinds_of (drop (index + 1) nodes)) (drop next bytes));
}

pub one_refused : {X : Type 0} (view : X → Kept) (nodes : Nodes) (bytes : List ℕ) (index : ℕ) (states : List Kept) (at : ℕ) (node : NodeSpec Operator) (fault : CodecFault) → IsBytes bytes → index < length nodes → slice_index_or nodes index node ≡ node
    → SoFar nodes bytes index states at → Finds {X = X} view (kept_at (has_groups node.op)) bytes at (Err fault) → IsRefused nodes bytes fault
one_refused view nodes bytes index states at node (Malformed fault) fits within there so r =
    refused (kinds_of nodes) bytes r.left fault fits
    (ap (λ (s : Reading (List Kept)). s >>= λ x. ended x.0 x.1)
    (so.given ∙ ap (λ (ns : Nodes). with_front states (states_at (kinds_of ns) (drop at bytes))) (next_node nodes index node within there)
    ∙ ap (λ (one : Reading Kept). with_front states (one >>= λ first. states_at (kinds_of (drop (index + 1) nodes)) first.1 >>= λ others. Ok (first.0 ∷ others.0, others.1))) r.given)) r.place
one_refused view nodes bytes index states at node Memory fits within there so r = tt

all_read : (nodes : Nodes) (bytes : List ℕ) (index : ℕ) (states : List Kept) (at : ℕ) → length nodes ≤ index → SoFar nodes bytes index states at → all_at (kinds_of nodes) bytes ≡ ended states (drop at bytes)
all_read nodes bytes index states at all so =
    ap (λ (s : Reading (List Kept)). s >>= λ x. ended x.0 x.1)
    (so.given ∙ ap (λ (ns : Nodes). with_front states (states_at (kinds_of ns) (drop at bytes))) (drop_all index nodes all) ∙ ap (λ (ks : List Kept). Ok (ks, drop at bytes)) (append-nil states))

pub bytes_left : (nodes : Nodes) (bytes : List ℕ) (index : ℕ) (states : List Kept) (at : ℕ) → IsBytes bytes → length nodes ≤ index → SoFar nodes bytes index states at → at < length bytes → SpellNone nodes bytes at
bytes_left nodes bytes index states at fits all so inside =
    refused (kinds_of nodes) bytes (length (drop at bytes)) at fits (all_read nodes bytes index states at all so ∙ some_left (drop at bytes) (omega (arith, length-drop at bytes, inside))) (omega (arith, length-drop at bytes, inside))
  where
    some_left : (rest : List ℕ) → 0 < length rest → ended states rest ≡ Err (length rest)
    some_left [] some = absurd (omega (arith, some))
    some_left (byte ∷ rest) some = refl

pub none_left : (nodes : Nodes) (bytes : List ℕ) (index : ℕ) (states : List Kept) (at : ℕ) → IsBytes bytes → length nodes ≤ index → SoFar nodes bytes index states at → length bytes ≤ at → Spell nodes bytes states
none_left nodes bytes index states at fits all so ends =
    read_is_spelled (kinds_of nodes) bytes (states, []) fits (all_read nodes bytes index states at all so ∙ ap (ended states) (drop_all at bytes ends))
