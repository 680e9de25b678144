-- Lists and objects that are read in a loop.
use Rattle.std.proofs.Common.{◌≡◌, ℕ, zero, suc, ◌==◌, true≢false, ◌+◌, ◌<◌, ◌≤◌, List, [], ◌∷◌, ◌++◌, length, get_or, drop, Bool, true, false, Result, Ok, Err, refl, sym, ap, ◌∙◌, append_assoc, add-one, arith, string_bytes}
use Rattle.std.proofs.lemmas.List.{append-nil, drop_all}
use Rattle.std.proofs.lemmas.Bool.{le-ltb, lt-ltb}
use Rattle.std.proofs.lemmas.Bool.Decides.{nat_tests}
use Rattle.std.proofs.Math.Seq.{drop-cons}
use Rattle.serde_json.specs.Data.{Data, item}
use Rattle.serde_json.proofs.Views.{Entry, items_len-items_view}
use Rattle.serde_json.specs.View.{view, items_view, members_view}
use Rattle.serde_json.specs.declared.value.Value.{Value}
use Rattle.settings_text.specs.declared.fault.SettingsFault.{SettingsFault}
use Rattle.settings_text.specs.declared.fault.SettingsFault.TheVariants.{Unknown, OutOfRange}
use Rattle.settings_text.specs.Kinds.{each, known, item_texts, some_item_texts}
use Rattle.settings_text.specs.Operators.{at_most_64}
use Rattle.settings_text.specs.Types.Routing.{routable}
use Rattle.settings_text.specs.Outcome.{◌>>=◌, Fails}

-- what was read before, and what is still read
abbrev pub with_front : {A : Type 0} → List A → Result (List A) SettingsFault → Result (List A) SettingsFault
with_front front read = read >>= λ rest. Ok (front ++ rest)

-- a refusal goes on to whatever is refused with it
pub carried : {A B : Type 0} (fault : SettingsFault) (r : Result A SettingsFault) (s : Result B SettingsFault) → (r ≡ Err fault → s ≡ Err fault) → Fails fault r → Fails fault s
carried fault r s h f = λ some. h (f some)

regroup : {A : Type 0} (front : List A) (x : A) (read : Result (List A) SettingsFault) → with_front front (read >>= λ rest. Ok (x ∷ rest)) ≡ with_front (front ++ x ∷ []) read
regroup {A = A} front x (Ok rest) = ap (λ (l : List A). Ok l) (simp append_assoc)
regroup front x (Err fault) = refl

-- the item at a place, and those after it
next_items : (vs : List Value) (n : ℕ) (v : Value) → n < length vs → v ≡ get_or vs n v → items_view (drop n vs) ≡ item (view v) (items_view (drop (n + 1) vs))
next_items vs n v lt here = ap items_view (drop-cons vs n v lt) ∙ rw (← here, add-one) refl

pub goes_on : {A : Type 0} (read : ℕ → Data → Result A SettingsFault) (vs : List Value) (front : List A) (n : ℕ) (v : Value) (x : A) (total : Result (List A) SettingsFault)
    → n < length vs → v ≡ get_or vs n v → read n (view v) ≡ Ok x
    → with_front front (each read n (items_view (drop n vs))) ≡ total → with_front (front ++ x ∷ []) (each read (n + 1) (items_view (drop (n + 1) vs))) ≡ total
unfolding each
goes_on read vs front n v x total lt here h so_far =
    let one : with_front front (each read n (items_view (drop n vs))) ≡ with_front (front ++ x ∷ []) (each read (n + 1) (items_view (drop (n + 1) vs))) =
    rw (next_items vs n v lt here, h) (regroup front x (each read (n + 1) (items_view (drop (n + 1) vs)))) in
    sym one ∙ so_far

pub ends : {A : Type 0} (fault : SettingsFault) (read : ℕ → Data → Result A SettingsFault) (vs : List Value) (front : List A) (n : ℕ) (v : Value) (total : Result (List A) SettingsFault)
    → n < length vs → v ≡ get_or vs n v → Fails fault (read n (view v))
    → with_front front (each read n (items_view (drop n vs))) ≡ total → Fails fault total
unfolding each
ends fault read vs front n v total lt here h so_far =
    carried fault (read n (view v)) total (λ e. sym so_far ∙ rw (next_items vs n v lt here, e) refl) h

pub is_done : {A : Type 0} (read : ℕ → Data → Result A SettingsFault) (vs : List Value) (front : List A) (n : ℕ) (total : Result (List A) SettingsFault)
    → length vs ≤ n → with_front front (each read n (items_view (drop n vs))) ≡ total → total ≡ Ok front
unfolding each
is_done {A = A} read vs front n total past so_far =
    let none : drop n vs ≡ [] = drop_all n vs past in
    let one : with_front front (each read n (items_view (drop n vs))) ≡ Ok front = rw none (ap (λ (l : List A). Ok l) (append-nil front)) in
    sym so_far ∙ one

-- a known name
pub stays : (is_key : List ℕ → Bool) (at name : List ℕ) (e : Entry) (left next : List Entry) (total : Result (Unit {0}) SettingsFault)
    → left ≡ e ∷ next → name ≡ string_bytes e.0 → is_key name ≡ true
    → known is_key at (members_view left) ≡ total → known is_key at (members_view next) ≡ total
unfolding known
stays is_key at name e left next total is_left is_name listed so_far =
    let found : is_key (string_bytes e.0) ≡ true = rw (← is_name) listed in
    let one : known is_key at (members_view left) ≡ known is_key at (members_view next) = rw (is_left, found) refl in
    sym one ∙ so_far

-- an unknown one
pub refused : (is_key : List ℕ → Bool) (at name : List ℕ) (e : Entry) (left next : List Entry) (total : Result (Unit {0}) SettingsFault)
    → left ≡ e ∷ next → name ≡ string_bytes e.0 → is_key name ≡ false
    → known is_key at (members_view left) ≡ total → total ≡ Err (Unknown (at ++ name))
unfolding known
refused is_key at name e left next total is_left is_name listed so_far =
    let found : is_key (string_bytes e.0) ≡ false = rw (← is_name) listed in
    let one : known is_key at (members_view left) ≡ Err (Unknown (at ++ name)) = rw (is_left, found, is_name) refl in
    sym so_far ∙ one

pub some_is : (place : List ℕ) (vs : List Value) → (length vs ≡ 0 → ⊥) → some_item_texts place (items_view vs) ≡ item_texts place (items_view vs)
some_is place [] some = absurd (some refl)
some_is place (v ∷ vs) some = refl

pub nonempty : (n : ℕ) (b : Bool) → b ≡ (n == 0) → b ≡ false → n ≡ 0 → ⊥
nonempty zero b h no_more e = true≢false (sym h ∙ no_more)
nonempty (suc n) b h no_more e = cc

pub empty : (n : ℕ) (b : Bool) → b ≡ (n == 0) → b ≡ true → n ≡ 0
empty n b h is_zero = grind (arith, nat_tests)

pub few : (place : List ℕ) (vs : List Value) → length vs ≤ 64 → at_most_64 place (items_view vs) ≡ Ok (items_view vs)
few place vs le = rw (items_len-items_view vs, le-ltb 64 (length vs) le) refl

pub too_many : (place : List ℕ) (vs : List Value) → 64 < length vs → at_most_64 place (items_view vs) ≡ Err (OutOfRange place)
too_many place vs lt = rw (items_len-items_view vs, lt-ltb 64 (length vs) lt) refl

pub routed : (place : List ℕ) (vs : List Value) → (length vs ≡ 0 → ⊥) → length vs ≤ 65534 → routable place (items_view vs) ≡ Ok (items_view vs)
routed place [] some le = absurd (some refl)
routed place (v ∷ vs) some le = rw (items_len-items_view vs, le-ltb 65534 (suc (length vs)) le) refl

pub no_routes : (place : List ℕ) (vs : List Value) → length vs ≡ 0 → routable place (items_view vs) ≡ Err (OutOfRange place)
no_routes place [] e = refl
no_routes place (v ∷ vs) e = cc

pub too_many_routes : (place : List ℕ) (vs : List Value) → 65534 < length vs → routable place (items_view vs) ≡ Err (OutOfRange place)
too_many_routes place [] lt = refl
too_many_routes place (v ∷ vs) lt = rw (items_len-items_view vs, lt-ltb 65534 (suc (length vs)) lt) refl
