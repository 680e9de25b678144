-- One step down the names: what a change of a member is of the map that holds it.
use Rattle.std.proofs.Common.{◌≡◌, ℕ, List, [], ◌∷◌, ◌∙◌, ap, sym, refl, cond, Option, None, Some, option_map, true, false, Bool}
use Rattle.std.specs.Option.{option_and_then, unwrap_or}
use Rattle.std.specs.Result.{OnOk, OnErr}
use Rattle.std.proofs.Common.{Result, Ok, Err}
use Rattle.std.specs.Map.{lookup, keys_of, remove_entry, set_value}
use Rattle.std.specs.BTreeMap.{insert_entry, is_at}
use Rattle.std.specs.Ordering.{nat_cmp}
use Rattle.std.specs.Cmp.Lexicographic.{slice_cmp}
use Rattle.std.specs.List.Sorted.{IsStrictlySortedBy}
use Rattle.entry_model.specs.declared.value.Value.{Value}
use Rattle.entry_model.specs.Datum.{Datum, datum, Members, member, fields, null, is_map_datum}
use Rattle.field_paths.specs.Members.{member_at, with_member}
use Rattle.field_paths.specs.Change.{room_in, on_the_way, with_value, without_value}
use Rattle.field_paths.specs.ValueAt.{value_at}
use Rattle.field_paths.specs.MapOf.{members_seen, map_of}
use Rattle.field_paths.proofs.Entries.{member_at-seen, with_member-seen, without_member-seen, with_member-set}

abbrev found : List ℕ → List (List ℕ × Value) → Option Value
found name es = lookup (is_at (slice_cmp nat_cmp name)) es

abbrev IsSorted : List (List ℕ × Value) → Type 0
IsSorted es = IsStrictlySortedBy (slice_cmp nat_cmp) (keys_of es)

there : (name : List ℕ) (es : List (List ℕ × Value)) (old : Value) → found name es ≡ Some old → member_at name (members_seen es) ≡ Some (datum old)
there name es old f = member_at-seen name es ∙ ap (option_map datum) f

not_there : (name : List ℕ) (es : List (List ℕ × Value)) → found name es ≡ None → member_at name (members_seen es) ≡ None
not_there name es f = member_at-seen name es ∙ ap (option_map datum) f

-- ---- put

-- what the map becomes where its member becomes `changed`
abbrev put_in : List ℕ → List (List ℕ × Value) → Option Datum → Option Datum
put_in name es changed = option_map (λ one. fields (with_member name one (members_seen es))) changed

pub member_put : (name : List ℕ) (es new : List (List ℕ × Value)) (old now : Value) (names : List (List ℕ)) (v : Datum)
    → IsSorted es → found name es ≡ Some old → new ≡ set_value (is_at (slice_cmp nat_cmp name)) es now
    → with_value names v (datum old) ≡ Some (datum now) → with_value (name ∷ names) v (map_of es) ≡ Some (map_of new)
member_put name es new old now names v s f e h =
    ap (λ (o : Option Datum). put_in name es (with_value names v (unwrap_or o null))) (there name es old f)
    ∙ ap (put_in name es) h
    ∙ ap (λ (ms : Members). Some (fields ms)) (with_member-set name now old es s f ∙ ap members_seen (sym e))

pub member_refused : (name : List ℕ) (es : List (List ℕ × Value)) (old : Value) (names : List (List ℕ)) (v : Datum)
    → found name es ≡ Some old → with_value names v (datum old) ≡ None → with_value (name ∷ names) v (map_of es) ≡ None
member_refused name es old names v f h =
    ap (λ (o : Option Datum). put_in name es (with_value names v (unwrap_or o null))) (there name es old f) ∙ ap (put_in name es) h

pub member_made : (name : List ℕ) (es new : List (List ℕ × Value)) (made : Value) (names : List (List ℕ)) (v : Datum)
    → found name es ≡ None → new ≡ insert_entry (slice_cmp nat_cmp) es name made
    → with_value names v null ≡ Some (datum made) → with_value (name ∷ names) v (map_of es) ≡ Some (map_of new)
member_made name es new made names v f e h =
    ap (λ (o : Option Datum). put_in name es (with_value names v (unwrap_or o null))) (not_there name es f)
    ∙ ap (put_in name es) h
    ∙ ap (λ (ms : Members). Some (fields ms)) (with_member-seen name made es ∙ ap members_seen (sym e))

pub last_put : (name : List ℕ) (es new : List (List ℕ × Value)) (now : Value) (names : List (List ℕ)) → names ≡ [] → new ≡ insert_entry (slice_cmp nat_cmp) es name now
    → with_value (name ∷ names) (datum now) (map_of es) ≡ Some (map_of new)
last_put name es new now names last e =
    ap (λ (l : List (List ℕ)). with_value (name ∷ l) (datum now) (map_of es)) last
    ∙ ap (λ (ms : Members). Some (fields ms)) (with_member-seen name now es ∙ ap members_seen (sym e))

-- a member that is what it was leaves the map as it was
pub member_kept : (name : List ℕ) (es new : List (List ℕ × Value)) (old now : Value) → found name es ≡ Some old
    → new ≡ set_value (is_at (slice_cmp nat_cmp name)) es now → datum now ≡ datum old → map_of new ≡ map_of es
member_kept name es new old now f e h = ap map_of e ∙ ap fields (stays es f)
  where
    stays : (es : List (List ℕ × Value)) → found name es ≡ Some old → members_seen (set_value (is_at (slice_cmp nat_cmp name)) es now) ≡ members_seen es
    stays [] f = refl
    stays (e ∷ es) f = by (is_at (slice_cmp nat_cmp name) e.0) f (stays es)
      where
        by : (b : Bool) → cond b (Some e.1) (found name es) ≡ Some old → (found name es ≡ Some old → members_seen (set_value (is_at (slice_cmp nat_cmp name)) es now) ≡ members_seen es)
            → members_seen (cond b ((e.0, now) ∷ es) (e ∷ set_value (is_at (slice_cmp nat_cmp name)) es now)) ≡ members_seen (e ∷ es)
        by true f rest = let same : e.1 ≡ old = cc f in ap (λ (d : Datum). member e.0 d (members_seen es)) (h ∙ ap datum (sym same))
        by false f rest = ap (member e.0 (datum e.1)) (rest f)

-- ---- taken

pub value_of_last : (name : List ℕ) (es : List (List ℕ × Value)) → option_map datum (found name es) ≡ value_at (name ∷ []) (map_of es)
value_of_last name es = sym (member_at-seen name es) ∙ only (member_at name (members_seen es))
  where
    only : (o : Option Datum) → o ≡ option_and_then (value_at []) o
    only None = refl
    only (Some d) = refl

pub last_taken : (name : List ℕ) (es new : List (List ℕ × Value)) → new ≡ remove_entry (is_at (slice_cmp nat_cmp name)) es → map_of new ≡ without_value name [] (map_of es)
last_taken name es new e = ap map_of e ∙ ap fields (sym (without_member-seen name es))

pub value_of_member : (name : List ℕ) (names : List (List ℕ)) (es : List (List ℕ × Value)) (old : Value) → found name es ≡ Some old → value_at (name ∷ names) (map_of es) ≡ value_at names (datum old)
value_of_member name names es old f = ap (option_and_then (value_at names)) (there name es old f)

pub no_value_of_member : (name : List ℕ) (names : List (List ℕ)) (es : List (List ℕ × Value)) → found name es ≡ None → value_at (name ∷ names) (map_of es) ≡ None
no_value_of_member name names es f = ap (option_and_then (value_at names)) (not_there name es f)

pub member_taken : (name next : List ℕ) (rest : List (List ℕ)) (es new : List (List ℕ × Value)) (old now : Value) → IsSorted es
    → found name es ≡ Some old → new ≡ set_value (is_at (slice_cmp nat_cmp name)) es now
    → datum now ≡ without_value next rest (datum old) → map_of new ≡ without_value name (next ∷ rest) (map_of es)
member_taken name next rest es new old now s f e h =
    ap map_of e ∙ ap fields (sym (with_member-set name now old es s f)
    ∙ ap (λ (d : Datum). with_member name d (members_seen es)) (h ∙ ap (λ (o : Option Datum). without_value next rest (unwrap_or o null)) (sym (there name es old f))))

-- ---- maps stay maps

pub stays_a_map : (names : List (List ℕ)) (v old now : Datum) → (names ≡ [] → is_map_datum v ≡ true) → with_value names v old ≡ Some now → is_map_datum now ≡ true
stays_a_map [] v old now m h = let same : v ≡ now = cc h in ap is_map_datum (sym same) ∙ m refl
stays_a_map (name ∷ names) v old now m h = by (room_in old) h
  where
    inside : (ms : Members) (changed : Option Datum) → option_map (λ one. fields (with_member name one ms)) changed ≡ Some now → is_map_datum now ≡ true
    inside ms None h = absurd (cc h)
    inside ms (Some one) h = let same : fields (with_member name one ms) ≡ now = cc h in ap is_map_datum (sym same)

    by : (room : Option Members) → option_and_then (λ members. option_map (λ changed. fields (with_member name changed members)) (with_value names v (on_the_way name members))) room ≡ Some now → is_map_datum now ≡ true
    by None h = absurd (cc h)
    by (Some ms) h = inside ms (with_value names v (on_the_way name ms)) h

pub still_a_map : {T E : Type 0} (r : Result T E) (names : List (List ℕ)) (v old now : Datum) → (names ≡ [] → is_map_datum v ≡ true)
    → OnOk r (with_value names v old ≡ Some now) → OnErr r (now ≡ old) → is_map_datum old ≡ true → is_map_datum now ≡ true
still_a_map (Ok x) names v old now m h k was = stays_a_map names v old now m h
still_a_map (Err e) names v old now m h k was = ap is_map_datum k ∙ was
