-- A value that is read is the one that is spelled there, and what is spelled is read again.
use Rattle.std.proofs.Common.{◌≡◌, ℕ, zero, suc, ◌^◌, ◌≤◌, Bool, true, false, cond, eqb, List, [], ◌∷◌, ◌++◌, length, Option, Some, None, Result, Ok, Err, refl, sym, ap, subst, arith, inl, inr, ◌⊎◌}
use Rattle.std.specs.Int.{w32, w64, to_be_bytes, cast_signed, cast_unsigned}
use Rattle.std.specs.Ordering.{nat_cmp, is_lt}
use Rattle.std.specs.Cmp.Lexicographic.{slice_cmp}
use Rattle.std.proofs.lemmas.Bool.{eqb-true, ne_eqb}
use Rattle.std.proofs.lemmas.Int.{of_z-to_z}
use Rattle.std.proofs.Math.Facts.{sfits_to_z}
use Rattle.entry_model.specs.Datum.{Datum, null, boolean, int, text, list, fields, items_of, members_of}
use Rattle.state_codec.specs.Spelling.{bytes_spelling, value_spelling, items_spelling, members_spelling, item_count, member_count}
use Rattle.entry_model.specs.Lawful.{IsBehind, KeysAscend, nesting, items_nesting, members_nesting}
use Rattle.state_codec.specs.Rules.{IsSpellable, AreSpellable, AreSpellableMembers}
use Rattle.state_codec.specs.Reading.{DatumReader, ◌>>=◌, number_at, text_at, items_at, members_at, is_behind, list_at, map_at, leaf_at, value_at}
use Rattle.state_codec.proofs.Keys.{less_from_test}
use Rattle.state_codec.proofs.Numbers.{IsBytes, bytes_behind, Takes, takes_both, takes_tag, err_or_ok, bind_ok, ok_is, wide32, wide64, number_takes, text_takes}

-- what is read of a value is spelled, lawful, and nested no deeper than there is room
pub record TakesDatum (room : ℕ) (bytes : List ℕ) (d : Datum) (rest : List ℕ) : Type 0 where
  pub takes : Takes bytes (value_spelling d) rest
  pub lawful : IsSpellable d
  pub shallow : nesting d ≤ room

pub record TakesItems (room n : ℕ) (bytes : List ℕ) (ds : List Datum) (rest : List ℕ) : Type 0 where
  pub takes : Takes bytes (items_spelling (items_of ds)) rest
  pub count : item_count (items_of ds) ≡ n
  pub lawful : AreSpellable (items_of ds)
  pub shallow : items_nesting (items_of ds) ≤ room

pub record TakesMembers (room n : ℕ) (before : Option (List ℕ)) (bytes : List ℕ) (ms : List (List ℕ × Datum)) (rest : List ℕ) : Type 0 where
  pub takes : Takes bytes (members_spelling (members_of ms)) rest
  pub count : member_count (members_of ms) ≡ n
  pub lawful : AreSpellableMembers (members_of ms)
  pub ascend : KeysAscend before (members_of ms)
  pub shallow : members_nesting (members_of ms) ≤ room

abbrev pub TakesAll : ℕ → DatumReader → Type 0
TakesAll room read = (bytes : List ℕ) (x : Datum × List ℕ) → IsBytes bytes → read bytes ≡ Ok x → TakesDatum room bytes x.0 x.1

chosen : {A : Type 0} (b : Bool) (x y z : A) → cond b x y ≡ z → ((b ≡ true) × (x ≡ z)) ⊎ ((b ≡ false) × (y ≡ z))
chosen true x y z e = inl (refl, e)
chosen false x y z e = inr (refl, e)

items_take : (room : ℕ) (read : DatumReader) → TakesAll room read → (n : ℕ) (bytes : List ℕ) (x : List Datum × List ℕ) → IsBytes bytes → items_at read n bytes ≡ Ok x → TakesItems room n bytes x.0 x.1
items_take room read all zero bytes x fits e =
    subst (λ (p : List Datum × List ℕ). TakesItems room 0 bytes p.0 p.1) (ok_is ([], bytes) x e)
    (record { takes = record { parts = refl; left = fits }; count = refl; lawful = tt; shallow = omega arith })
items_take room read all (suc n) bytes x fits e =
    let first = bind_ok (read bytes) (λ d. items_at read n d.1 >>= λ r. Ok (d.0 ∷ r.0, r.1)) x e in
    let others = bind_ok (items_at read n first.0.1) (λ r. Ok (first.0.0 ∷ r.0, r.1)) x first.2 in
    let one = all bytes first.0 fits first.1 in
    let more = items_take room read all n first.0.1 others.0 one.takes.left others.1 in
    subst (λ (p : List Datum × List ℕ). TakesItems room (suc n) bytes p.0 p.1) (ok_is (first.0.0 ∷ others.0.0, others.0.1) x others.2)
    (record {
      takes = takes_both bytes (value_spelling first.0.0) first.0.1 (items_spelling (items_of others.0.0)) others.0.1 one.takes more.takes;
      count = omega (arith, more.count);
      lawful = (one.lawful, more.lawful);
      shallow = omega (arith, one.shallow, more.shallow);
    })

behind_from_test : (before : Option (List ℕ)) (key : List ℕ) → is_behind before key ≡ true → IsBehind before key
behind_from_test None key e = tt
behind_from_test (Some before) key e = less_from_test (slice_cmp nat_cmp before key) e

pub test_from_behind : (before : Option (List ℕ)) (key : List ℕ) → IsBehind before key → is_behind before key ≡ true
test_from_behind None key e = refl
test_from_behind (Some before) key e = ap is_lt e

pub value_behind : {A : Type 0} (b : Bool) (r : Result A ℕ) (left : ℕ) (x : A) → cond b r (Err left) ≡ Ok x → (b ≡ true) × (r ≡ Ok x)
value_behind true r left x e = (refl, e)
value_behind false r left x e = absurd cc

members_take : (room : ℕ) (read : DatumReader) → TakesAll room read → (before : Option (List ℕ)) (n : ℕ) (bytes : List ℕ) (x : List (List ℕ × Datum) × List ℕ) → IsBytes bytes
    → members_at read before n bytes ≡ Ok x → TakesMembers room n before bytes x.0 x.1
members_take room read all before zero bytes x fits e =
    subst (λ (p : List (List ℕ × Datum) × List ℕ). TakesMembers room 0 before bytes p.0 p.1) (ok_is ([], bytes) x e)
    (record { takes = record { parts = refl; left = fits }; count = refl; lawful = tt; ascend = tt; shallow = omega arith })
members_take room read all before (suc n) bytes x fits e =
    let key = bind_ok (text_at bytes) (λ k. (cond (is_behind before k.0) (read k.1) (Err (length bytes))) >>= λ d. members_at read (Some k.0) n d.1 >>= λ r. Ok ((k.0, d.0) ∷ r.0, r.1)) x e in
    let value = bind_ok (cond (is_behind before key.0.0) (read key.0.1) (Err (length bytes))) (λ d. members_at read (Some key.0.0) n d.1 >>= λ r. Ok ((key.0.0, d.0) ∷ r.0, r.1)) x key.2 in
    let others = bind_ok (members_at read (Some key.0.0) n value.0.1) (λ r. Ok ((key.0.0, value.0.0) ∷ r.0, r.1)) x value.2 in
    let name = text_takes bytes key.0 fits key.1 in
    let behind = value_behind (is_behind before key.0.0) (read key.0.1) (length bytes) value.0 value.1 in
    let one = all key.0.1 value.0 name.0.left behind.1 in
    let more = members_take room read all (Some key.0.0) n value.0.1 others.0 one.takes.left others.1 in
    subst (λ (p : List (List ℕ × Datum) × List ℕ). TakesMembers room (suc n) before bytes p.0 p.1) (ok_is ((key.0.0, value.0.0) ∷ others.0.0, others.0.1) x others.2)
    (record {
      takes = takes_both bytes (bytes_spelling key.0.0) key.0.1 (value_spelling value.0.0 ++ members_spelling (members_of others.0.0)) others.0.1 name.0
          (takes_both key.0.1 (value_spelling value.0.0) value.0.1 (members_spelling (members_of others.0.0)) others.0.1 one.takes more.takes);
      count = omega (arith, more.count);
      lawful = (name.1, (one.lawful, more.lawful));
      ascend = (behind_from_test before key.0.0 behind.0, more.ascend);
      shallow = omega (arith, one.shallow, more.shallow);
    })

pub leaf_other : (tag : ℕ) (rest : List ℕ) → 5 ≤ tag → leaf_at tag rest ≡ Err (suc (length rest))
unfolding leaf_at
leaf_other tag rest over =
    rw (ne_eqb tag 0 (λ h. omega (arith, h)), ne_eqb tag 1 (λ h. omega (arith, h)), ne_eqb tag 2 (λ h. omega (arith, h)), ne_eqb tag 3 (λ h. omega (arith, h)), ne_eqb tag 4 (λ h. omega (arith, h))) refl

leaf_takes : (room tag : ℕ) (rest : List ℕ) (x : Datum × List ℕ) → IsBytes (tag ∷ rest) → leaf_at tag rest ≡ Ok x → TakesDatum room (tag ∷ rest) x.0 x.1
unfolding leaf_at
leaf_takes room zero rest x fits e =
    subst (λ (p : Datum × List ℕ). TakesDatum room (0 ∷ rest) p.0 p.1) (ok_is (null, rest) x e)
    (record { takes = record { parts = refl; left = bytes_behind 0 rest fits }; lawful = tt; shallow = omega arith })
leaf_takes room (suc zero) rest x fits e =
    subst (λ (p : Datum × List ℕ). TakesDatum room (1 ∷ rest) p.0 p.1) (ok_is (boolean false, rest) x e)
    (record { takes = record { parts = refl; left = bytes_behind 1 rest fits }; lawful = tt; shallow = omega arith })
leaf_takes room (suc (suc zero)) rest x fits e =
    subst (λ (p : Datum × List ℕ). TakesDatum room (2 ∷ rest) p.0 p.1) (ok_is (boolean true, rest) x e)
    (record { takes = record { parts = refl; left = bytes_behind 2 rest fits }; lawful = tt; shallow = omega arith })
leaf_takes room (suc (suc (suc zero))) rest x fits e =
    let b = bind_ok (number_at w64 rest) (λ n. Ok (int (cast_signed w64 n.0), n.1)) x e in
    let t = number_takes w64 (2 ^ 64) wide64 rest b.0.0 b.0.1 (bytes_behind 3 rest fits) b.1 in
    let same : to_be_bytes w64 (cast_unsigned w64 (cast_signed w64 b.0.0)) ≡ to_be_bytes w64 b.0.0 = ap (to_be_bytes w64) (of_z-to_z w64 b.0.0 t.1) in
    subst (λ (p : Datum × List ℕ). TakesDatum room (3 ∷ rest) p.0 p.1) (ok_is (int (cast_signed w64 b.0.0), b.0.1) x b.2)
    (record {
      takes = takes_tag 3 rest (to_be_bytes w64 (cast_unsigned w64 (cast_signed w64 b.0.0))) b.0.1 (subst (λ (l : List ℕ). Takes rest l b.0.1) (sym same) t.0);
      lawful = sfits_to_z {w = w64} {n = b.0.0} (record { fits = t.1 });
      shallow = omega arith;
    })
leaf_takes room (suc (suc (suc (suc zero)))) rest x fits e =
    let b = bind_ok (text_at rest) (λ t. Ok (text t.0, t.1)) x e in
    let t = text_takes rest b.0 (bytes_behind 4 rest fits) b.1 in
    subst (λ (p : Datum × List ℕ). TakesDatum room (4 ∷ rest) p.0 p.1) (ok_is (text b.0.0, b.0.1) x b.2)
    (record { takes = takes_tag 4 rest (bytes_spelling b.0.0) b.0.1 t.0; lawful = t.1; shallow = omega arith })
leaf_takes room (suc (suc (suc (suc (suc tag))))) rest x fits e =
    absurd (err_or_ok (leaf_at (suc (suc (suc (suc (suc tag))))) rest) (suc (length rest)) x (leaf_other (suc (suc (suc (suc (suc tag))))) rest (omega arith)) e)

-- ---- lists and maps

pub list_takes : (room : ℕ) (read : DatumReader) → TakesAll room read → (bytes : List ℕ) (x : List Datum × List ℕ) → IsBytes bytes → list_at read bytes ≡ Ok x
    → TakesDatum (suc room) (5 ∷ bytes) (list (items_of x.0)) x.1
unfolding list_at
list_takes room read all bytes x fits e =
    let b = bind_ok (number_at w32 bytes) (λ n. items_at read n.0 n.1) x e in
    let number = number_takes w32 (2 ^ 32) wide32 bytes b.0.0 b.0.1 fits b.1 in
    let more = items_take room read all b.0.0 b.0.1 x number.0.left b.2 in
    let both = takes_both bytes (to_be_bytes w32 b.0.0) b.0.1 (items_spelling (items_of x.0)) x.1 number.0 more.takes in
    record {
      takes = takes_tag 5 bytes (to_be_bytes w32 (item_count (items_of x.0)) ++ items_spelling (items_of x.0)) x.1
          (subst (λ (k : ℕ). Takes bytes (to_be_bytes w32 k ++ items_spelling (items_of x.0)) x.1) (sym more.count) both);
      lawful = (omega (arith, number.1, more.count), more.lawful);
      shallow = omega (arith, more.shallow);
    }

pub map_takes : (room : ℕ) (read : DatumReader) → TakesAll room read → (bytes : List ℕ) (x : List (List ℕ × Datum) × List ℕ) → IsBytes bytes → map_at read bytes ≡ Ok x
    → TakesDatum (suc room) (6 ∷ bytes) (fields (members_of x.0)) x.1
unfolding map_at
map_takes room read all bytes x fits e =
    let b = bind_ok (number_at w32 bytes) (λ n. members_at read None n.0 n.1) x e in
    let number = number_takes w32 (2 ^ 32) wide32 bytes b.0.0 b.0.1 fits b.1 in
    let more = members_take room read all None b.0.0 b.0.1 x number.0.left b.2 in
    let both = takes_both bytes (to_be_bytes w32 b.0.0) b.0.1 (members_spelling (members_of x.0)) x.1 number.0 more.takes in
    record {
      takes = takes_tag 6 bytes (to_be_bytes w32 (member_count (members_of x.0)) ++ members_spelling (members_of x.0)) x.1
          (subst (λ (k : ℕ). Takes bytes (to_be_bytes w32 k ++ members_spelling (members_of x.0)) x.1) (sym more.count) both);
      lawful = (omega (arith, number.1, more.count), (more.lawful, more.ascend));
      shallow = omega (arith, more.shallow);
    }

pub value_takes : (room : ℕ) → TakesAll room (λ bytes. value_at room bytes)
unfolding value_at
value_takes zero [] x fits e = absurd cc
value_takes zero (tag ∷ rest) x fits e = leaf_takes 0 tag rest x fits e
value_takes (suc room) [] x fits e = absurd cc
value_takes (suc room) (tag ∷ rest) x fits e =
    elim (chosen (eqb tag 5) (list_at (λ bytes. value_at room bytes) rest >>= λ r. Ok (list (items_of r.0), r.1)) _ (Ok x) e) [
      | inl here ↦
          let b = bind_ok (list_at (λ bytes. value_at room bytes) rest) (λ r. Ok (list (items_of r.0), r.1)) x here.1 in
          let is : tag ≡ 5 = eqb-true tag 5 here.0 in
          rw is (subst (λ (p : Datum × List ℕ). TakesDatum (suc room) (5 ∷ rest) p.0 p.1) (ok_is (list (items_of b.0.0), b.0.1) x b.2)
          (list_takes room (λ bytes. value_at room bytes) (value_takes room) rest b.0 (bytes_behind tag rest fits) b.1))
      | inr other ↦
          elim (chosen (eqb tag 6) (map_at (λ bytes. value_at room bytes) rest >>= λ r. Ok (fields (members_of r.0), r.1)) (leaf_at tag rest) (Ok x) other.1) [
            | inl here ↦
                let b = bind_ok (map_at (λ bytes. value_at room bytes) rest) (λ r. Ok (fields (members_of r.0), r.1)) x here.1 in
                let is : tag ≡ 6 = eqb-true tag 6 here.0 in
                rw is (subst (λ (p : Datum × List ℕ). TakesDatum (suc room) (6 ∷ rest) p.0 p.1) (ok_is (fields (members_of b.0.0), b.0.1) x b.2)
                (map_takes room (λ bytes. value_at room bytes) (value_takes room) rest b.0 (bytes_behind tag rest fits) b.1))
            | inr leaf ↦ leaf_takes (suc room) tag rest x fits leaf.1
          ]
    ]
