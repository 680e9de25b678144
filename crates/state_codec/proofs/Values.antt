-- What stands at the front of some bytes as a value, by its tag and by how many lists and maps may still be opened.
use Rattle.std.proofs.Common.{◌≡◌, ◌≢◌, ℕ, zero, suc, ◌-◌, ◌<◌, List, [], ◌∷◌, Ok, Err, refl, arith}
use Rattle.std.proofs.lemmas.Bool.{ne_eqb}
use Rattle.entry_model.specs.Datum.{list, fields, items_of, members_of}
use Rattle.state_codec.specs.Reading.{◌>>=◌, value_at, list_at, map_at, leaf_at}

pub value_empty : (room : ℕ) → value_at room [] ≡ Err 0
unfolding value_at
value_empty zero = refl
value_empty (suc room) = refl

pub value_leaf : (tag : ℕ) (rest : List ℕ) → value_at 0 (tag ∷ rest) ≡ leaf_at tag rest
unfolding value_at
value_leaf tag rest = refl

pub value_of_list : (room : ℕ) (rest : List ℕ) → 0 < room → value_at room (5 ∷ rest) ≡ (list_at (value_at (room - 1)) rest >>= λ x. Ok (list (items_of x.0), x.1))
unfolding value_at
value_of_list zero rest some = absurd (omega arith)
value_of_list (suc room) rest some = let e : suc room - 1 ≡ room = omega arith in rw e refl

pub value_of_map : (room : ℕ) (rest : List ℕ) → 0 < room → value_at room (6 ∷ rest) ≡ (map_at (value_at (room - 1)) rest >>= λ x. Ok (fields (members_of x.0), x.1))
unfolding value_at
value_of_map zero rest some = absurd (omega arith)
value_of_map (suc room) rest some = let e : suc room - 1 ≡ room = omega arith in rw e refl

pub value_of_other : (room tag : ℕ) (rest : List ℕ) → tag ≢ 5 → tag ≢ 6 → value_at room (tag ∷ rest) ≡ leaf_at tag rest
unfolding value_at
value_of_other zero tag rest no_list no_map = refl
value_of_other (suc room) tag rest no_list no_map = rw (ne_eqb tag 5 no_list, ne_eqb tag 6 no_map) refl
