-- One name more of a map in memory, as members are raised from it.
use Rattle.std.proofs.Common.{◌≡◌, ℕ, suc, ◌+◌, ◌<◌, List, ◌∷◌, length, drop, get_or, add-one, ◌∙◌, ap, sym, refl, subst, Option, Some, None, option_map, Bool, false}
use Rattle.std.proofs.Math.Seq.{drop-cons}
use Rattle.std.specs.Option.{IsSome, is_some}
use Rattle.std.specs.BTreeMap.{is_at}
use Rattle.std.specs.Map.{lookup, keys_of, remove_entry, set_value}
use Rattle.std.specs.List.Sorted.{IsStrictlySortedBy}
use Rattle.std.specs.Ordering.{nat_cmp}
use Rattle.std.specs.Cmp.Lexicographic.{slice_cmp}
use Rattle.entry_model.specs.declared.value.Value.{Value}
use Rattle.entry_model.specs.declared.value.Value.TheOpen.{Value-F}
use Rattle.entry_model.specs.declared.value.Value.TheVariants as value
use Rattle.entry_model.specs.declared.value.Value.TheFolds.{fold-roll-Value}
use Rattle.entry_model.specs.Datum.{Datum, datum, datum_step, null, Members}
use Rattle.entry_model.specs.Lawful.{KeysAscend}
use Rattle.field_paths.specs.MapOf.{members_seen}
use Rattle.field_paths.specs.Members.{member_at, with_member, without_member}
use Rattle.field_paths.proofs.Entries.{member_at-seen, with_member-set, without_member-seen}
use Rattle.field_ops.specs.Inner.Names.{AreDisjoint, AreNamedIn}
use Rattle.field_ops.specs.Rows.{with_members}
use Rattle.field_ops.proofs.Raised.{Put, one_put, stays_named, named_rest, named_first}

abbrev Entries : Type 0
Entries = List (List ℕ × Value)

abbrev pub found : List ℕ → List (List ℕ × Value) → Option Value
found name es = lookup (is_at (slice_cmp nat_cmp name)) es

-- the members from one on
pub left_from : (es : List (List ℕ × Value)) (i : ℕ) (e : List ℕ × Value) → i < length es → e ≡ get_or es i e → drop i es ≡ (e.0, e.1) ∷ drop (i + 1) es
left_from es i e within is =
    drop-cons es i e within ∙ ap (λ (first : List ℕ × Value). first ∷ drop (suc i) es) (sym is) ∙ ap (λ (next : ℕ). e ∷ drop next es) (sym (add-one i))

-- ---- whether names are apart

none_of : (o : Option Value) → is_some o ≡ false → o ≡ None
none_of None e = refl
none_of (Some v) e = absurd (cc e)

pub next_apart : (name : List ℕ) (v : Value) (left rest es : List (List ℕ × Value)) (b : Bool) → left ≡ (name, v) ∷ rest → b ≡ is_some (found name es) → b ≡ false
    → AreDisjoint (members_seen rest) (members_seen es) → AreDisjoint (members_seen left) (members_seen es)
next_apart name v left rest es b l is absent apart =
    subst (λ (one : List (List ℕ × Value)). AreDisjoint (members_seen one) (members_seen es)) (sym l)
    (member_at-seen name es ∙ ap (option_map datum) (none_of (found name es) (sym is ∙ absent)), apart)

pub datum_null : datum value.Null ≡ null
datum_null = ap datum (sym value.rolls-Null) ∙ fold-roll-Value Datum datum_step Value-F.Null

-- ---- values put at names that are there, and names left out

pub put_seen : (name : List ℕ) (v old : Value) (es new : List (List ℕ × Value)) → IsStrictlySortedBy (slice_cmp nat_cmp) (keys_of es) → found name es ≡ Some old
    → new ≡ set_value (is_at (slice_cmp nat_cmp name)) es v → members_seen new ≡ with_member name (datum v) (members_seen es)
put_seen name v old es new s f e = ap members_seen e ∙ sym (with_member-set name v old es s f)

pub not_missing : (name : List ℕ) (es : List (List ℕ × Value)) → found name es ≡ None → IsSome (member_at name (members_seen es)) → ⊥
not_missing name es f there = absurd (cc (subst IsSome (member_at-seen name es ∙ ap (option_map datum) f) there))

pub removed : (name : List ℕ) (es new : List (List ℕ × Value)) → new ≡ remove_entry (is_at (slice_cmp nat_cmp name)) es → members_seen new ≡ without_member name (members_seen es)
removed name es new e = ap members_seen e ∙ sym (without_member-seen name es)

-- ---- one turn of each loop

pub one_reserved : (name : List ℕ) (v : Value) (left rest : List (List ℕ × Value)) (raised old now new : Members) → left ≡ (name, v) ∷ rest → new ≡ with_member name null now
    → KeysAscend None now → Put raised old (members_seen left) now → Put raised old (members_seen rest) new
one_reserved name v left rest raised old now new l e order so_far =
    subst (Put raised old (members_seen rest)) (sym e)
    (one_put raised old (members_seen rest) now name (datum v) null order (subst (λ (one : List (List ℕ × Value)). Put raised old (members_seen one) now) l so_far))

pub next_named : (name : List ℕ) (v : Value) (left rest : List (List ℕ × Value)) (now : Members) → left ≡ (name, v) ∷ rest → AreNamedIn (members_seen left) now → IsSome (member_at name now)
next_named name v left rest now l named = subst (λ (one : List (List ℕ × Value)). AreNamedIn (members_seen one) now) l named name (named_first name (datum v) (members_seen rest))

pub one_filled : (name : List ℕ) (v : Value) (left rest : List (List ℕ × Value)) (now new all : Members) → left ≡ (name, v) ∷ rest → new ≡ with_member name (datum v) now
    → AreNamedIn (members_seen left) now → with_members (members_seen left) now ≡ all → AreNamedIn (members_seen rest) new × (with_members (members_seen rest) new ≡ all)
one_filled name v left rest now new all l e named h = (
  (λ other there. subst (λ (ms : Members). IsSome (member_at other ms)) (sym e) (stays_named name other (datum v) now
      (subst (λ (one : List (List ℕ × Value)). AreNamedIn (members_seen one) now) l named other (named_rest name other (datum v) (members_seen rest) there)))),
  ap (with_members (members_seen rest)) e ∙ ap (λ (one : List (List ℕ × Value)). with_members (members_seen one) now) (sym l) ∙ h,
)
