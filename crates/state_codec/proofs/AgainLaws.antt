-- What is spelled is read again, whatever follows.
use Rattle.std.proofs.Common.{◌≡◌, ℕ, suc, ◌-◌, ◌^◌, ◌<◌, ◌≤◌, true, false, List, [], ◌∷◌, ◌++◌, Option, Some, None, Ok, refl, ap, ◌∙◌, append_assoc, arith}
use Rattle.std.specs.Int.{w32, w64, to_be_bytes, cast_signed, cast_unsigned}
use Rattle.std.proofs.lemmas.Int.{to_z-of_z}
use Rattle.std.proofs.Math.Facts.{Fits-of_z}
use Rattle.entry_model.specs.Datum.{Datum, null, boolean, int, text, list, fields, Items, no_items, item, Members, no_members, member, items_of, members_of}
use Rattle.state_codec.specs.Spelling.{bytes_spelling, value_spelling, items_spelling, members_spelling, item_count, member_count}
use Rattle.entry_model.specs.Lawful.{KeysAscend, nesting, items_nesting, members_nesting}
use Rattle.state_codec.specs.Rules.{IsSpellable, AreSpellable, AreSpellableMembers}
use Rattle.state_codec.specs.Reading.{DatumReader, number_at, text_at, items_at, members_at, is_behind, list_at, map_at, leaf_at, value_at, fields_at}
use Rattle.state_codec.proofs.Values.{value_of_list, value_of_map, value_of_other}
use Rattle.state_codec.proofs.Numbers.{wide32, wide64, number_again, text_again}
use Rattle.state_codec.proofs.ValueLaws.{test_from_behind}

abbrev pub list_of : Items → List Datum
list_of no_items = []
list_of (item first rest) = first ∷ list_of rest

pub items_of-list_of : (items : Items) → items_of (list_of items) ≡ items
items_of-list_of no_items = refl
items_of-list_of (item first rest) = ap (item first) (items_of-list_of rest)

abbrev pub pairs_of : Members → List (List ℕ × Datum)
pairs_of no_members = []
pairs_of (member key value rest) = (key, value) ∷ pairs_of rest

pub members_of-pairs_of : (members : Members) → members_of (pairs_of members) ≡ members
members_of-pairs_of no_members = refl
members_of-pairs_of (member key value rest) = ap (member key value) (members_of-pairs_of rest)

-- ---- one step of each reader

item_step : (read : DatumReader) (n : ℕ) (bytes after rest : List ℕ) (d : Datum) (ds : List Datum) → read bytes ≡ Ok (d, after) → items_at read n after ≡ Ok (ds, rest)
    → items_at read (suc n) bytes ≡ Ok (d ∷ ds, rest)
item_step read n bytes after rest d ds one more = rw (one, more) refl

member_step : (read : DatumReader) (before : Option (List ℕ)) (n : ℕ) (bytes behind after rest key : List ℕ) (d : Datum) (ms : List (List ℕ × Datum)) → text_at bytes ≡ Ok (key, behind)
    → is_behind before key ≡ true → read behind ≡ Ok (d, after) → members_at read (Some key) n after ≡ Ok (ms, rest) → members_at read before (suc n) bytes ≡ Ok ((key, d) ∷ ms, rest)
member_step read before n bytes behind after rest key d ms name test one more = rw (name, test, one, more) refl

list_step : (read : DatumReader) (n : ℕ) (bytes behind rest : List ℕ) (ds : List Datum) → number_at w32 bytes ≡ Ok (n, behind) → items_at read n behind ≡ Ok (ds, rest) → list_at read bytes ≡ Ok (ds, rest)
unfolding list_at
list_step read n bytes behind rest ds number more = rw (number, more) refl

map_step : (read : DatumReader) (n : ℕ) (bytes behind rest : List ℕ) (ms : List (List ℕ × Datum)) → number_at w32 bytes ≡ Ok (n, behind) → members_at read None n behind ≡ Ok (ms, rest)
    → map_at read bytes ≡ Ok (ms, rest)
unfolding map_at
map_step read n bytes behind rest ms number more = rw (number, more) refl

-- ---- values with nothing inside

leaf_null : (rest : List ℕ) → leaf_at 0 rest ≡ Ok (null, rest)
unfolding leaf_at
leaf_null rest = refl

leaf_false : (rest : List ℕ) → leaf_at 1 rest ≡ Ok (boolean false, rest)
unfolding leaf_at
leaf_false rest = refl

leaf_true : (rest : List ℕ) → leaf_at 2 rest ≡ Ok (boolean true, rest)
unfolding leaf_at
leaf_true rest = refl

leaf_int : (bytes rest : List ℕ) (n : ℕ) → number_at w64 bytes ≡ Ok (n, rest) → leaf_at 3 bytes ≡ Ok (int (cast_signed w64 n), rest)
unfolding leaf_at
leaf_int bytes rest n number = rw number refl

leaf_text : (bytes value rest : List ℕ) → text_at bytes ≡ Ok (value, rest) → leaf_at 4 bytes ≡ Ok (text value, rest)
unfolding leaf_at
leaf_text bytes value rest read = rw read refl

-- ---- all values

list_read : (room : ℕ) (bytes rest : List ℕ) (items : Items) → 0 < room → list_at (value_at (room - 1)) bytes ≡ Ok (list_of items, rest) → value_at room (5 ∷ bytes) ≡ Ok (list items, rest)
list_read room bytes rest items some read = value_of_list room bytes some ∙ rw read (ap (λ (i : Items). Ok (list i, rest)) (items_of-list_of items))

map_read : (room : ℕ) (bytes rest : List ℕ) (members : Members) → 0 < room → map_at (value_at (room - 1)) bytes ≡ Ok (pairs_of members, rest) → value_at room (6 ∷ bytes) ≡ Ok (fields members, rest)
map_read room bytes rest members some read = value_of_map room bytes some ∙ rw read (ap (λ (m : Members). Ok (fields m, rest)) (members_of-pairs_of members))

mutual
  pub value_again : (d : Datum) (room : ℕ) (rest : List ℕ) → IsSpellable d → nesting d ≤ room → value_at room (value_spelling d ++ rest) ≡ Ok (d, rest)
  value_again null room rest lawful shallow = value_of_other room 0 rest (λ e. omega (arith, e)) (λ e. omega (arith, e)) ∙ leaf_null rest
  value_again (boolean false) room rest lawful shallow = value_of_other room 1 rest (λ e. omega (arith, e)) (λ e. omega (arith, e)) ∙ leaf_false rest
  value_again (boolean true) room rest lawful shallow = value_of_other room 2 rest (λ e. omega (arith, e)) (λ e. omega (arith, e)) ∙ leaf_true rest
  value_again (int z) room rest lawful shallow =
      value_of_other room 3 (to_be_bytes w64 (cast_unsigned w64 z) ++ rest) (λ e. omega (arith, e)) (λ e. omega (arith, e))
      ∙ leaf_int (to_be_bytes w64 (cast_unsigned w64 z) ++ rest) rest (cast_unsigned w64 z) (number_again w64 (2 ^ 64) wide64 (cast_unsigned w64 z) rest ((Fits-of_z {w = w64} {z = z} lawful).fits))
      ∙ ap (λ y. Ok (int y, rest)) (to_z-of_z w64 z lawful)
  value_again (text bytes) room rest lawful shallow =
      value_of_other room 4 (bytes_spelling bytes ++ rest) (λ e. omega (arith, e)) (λ e. omega (arith, e))
      ∙ leaf_text (bytes_spelling bytes ++ rest) bytes rest (text_again bytes rest lawful)
  value_again (list items) room rest lawful shallow =
      list_read room ((to_be_bytes w32 (item_count items) ++ items_spelling items) ++ rest) rest items (omega arith)
      (ap (list_at (value_at (room - 1))) (append_assoc (to_be_bytes w32 (item_count items)) (items_spelling items) rest)
      ∙ list_step (value_at (room - 1)) (item_count items) (to_be_bytes w32 (item_count items) ++ (items_spelling items ++ rest)) (items_spelling items ++ rest) rest (list_of items)
      (number_again w32 (2 ^ 32) wide32 (item_count items) (items_spelling items ++ rest) lawful.0)
      (items_again items (room - 1) rest lawful.1 (omega arith)))
  value_again (fields members) room rest lawful shallow =
      map_read room ((to_be_bytes w32 (member_count members) ++ members_spelling members) ++ rest) rest members (omega arith)
      (ap (map_at (value_at (room - 1))) (append_assoc (to_be_bytes w32 (member_count members)) (members_spelling members) rest)
      ∙ map_step (value_at (room - 1)) (member_count members) (to_be_bytes w32 (member_count members) ++ (members_spelling members ++ rest)) (members_spelling members ++ rest) rest (pairs_of members)
      (number_again w32 (2 ^ 32) wide32 (member_count members) (members_spelling members ++ rest) lawful.0)
      (members_again members None (room - 1) rest lawful.1.0 lawful.1.1 (omega arith)))

  items_again : (items : Items) (room : ℕ) (rest : List ℕ) → AreSpellable items → items_nesting items ≤ room → items_at (value_at room) (item_count items) (items_spelling items ++ rest) ≡ Ok (list_of items, rest)
  items_again no_items room rest lawful shallow = refl
  items_again (item first more) room rest lawful shallow =
      ap (items_at (value_at room) (suc (item_count more))) (append_assoc (value_spelling first) (items_spelling more) rest)
      ∙ item_step (value_at room) (item_count more) (value_spelling first ++ (items_spelling more ++ rest)) (items_spelling more ++ rest) rest first (list_of more)
      (value_again first room (items_spelling more ++ rest) lawful.0 (omega arith)) (items_again more room rest lawful.1 (omega arith))

  members_again : (members : Members) (before : Option (List ℕ)) (room : ℕ) (rest : List ℕ) → AreSpellableMembers members → KeysAscend before members → members_nesting members ≤ room
      → members_at (value_at room) before (member_count members) (members_spelling members ++ rest) ≡ Ok (pairs_of members, rest)
  members_again no_members before room rest lawful ascend shallow = refl
  members_again (member key value more) before room rest lawful ascend shallow =
      ap (members_at (value_at room) before (suc (member_count more)))
      (append_assoc (bytes_spelling key) (value_spelling value ++ members_spelling more) rest
      ∙ ap (λ (l : List ℕ). bytes_spelling key ++ l) (append_assoc (value_spelling value) (members_spelling more) rest))
      ∙ member_step (value_at room) before (member_count more) (bytes_spelling key ++ (value_spelling value ++ (members_spelling more ++ rest))) (value_spelling value ++ (members_spelling more ++ rest))
      (members_spelling more ++ rest) rest key value (pairs_of more) (text_again key (value_spelling value ++ (members_spelling more ++ rest)) lawful.0) (test_from_behind before key ascend.0)
      (value_again value room (members_spelling more ++ rest) lawful.1.0 (omega arith))
      (members_again more (Some key) room rest lawful.1.1 ascend.1 (omega arith))

-- ---- the maps of an entry

map_again : (members : Members) (room : ℕ) (rest : List ℕ) → IsSpellable (fields members) → members_nesting members ≤ room
    → map_at (value_at room) ((to_be_bytes w32 (member_count members) ++ members_spelling members) ++ rest) ≡ Ok (pairs_of members, rest)
map_again members room rest lawful shallow =
    ap (map_at (value_at room)) (append_assoc (to_be_bytes w32 (member_count members)) (members_spelling members) rest)
    ∙ map_step (value_at room) (member_count members) (to_be_bytes w32 (member_count members) ++ (members_spelling members ++ rest)) (members_spelling members ++ rest) rest (pairs_of members)
    (number_again w32 (2 ^ 32) wide32 (member_count members) (members_spelling members ++ rest) lawful.0)
    (members_again members None room rest lawful.1.0 lawful.1.1 shallow)

pub fields_again : (members : Members) (room : ℕ) (rest : List ℕ) → IsSpellable (fields members) → nesting (fields members) ≤ suc room
    → fields_at room (value_spelling (fields members) ++ rest) ≡ Ok (pairs_of members, rest)
unfolding fields_at
fields_again members room rest lawful shallow = map_again members room rest lawful (omega arith)
