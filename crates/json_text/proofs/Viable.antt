-- From each state some bytes lead to a value.
use Rattle.std.proofs.Common.{◌≡◌, ℕ, zero, suc, ◌+◌, ◌*◌, ◌==◌, List, [], ◌∷◌, ◌++◌, ◌∙◌, ap, refl, Some, true, eq-eqb}
use Rattle.entry_model.specs.Datum.{Datum, null, text, list, fields, items_of, members_of, no_items, no_members}
use Rattle.json_text.specs.declared.content.Piece.TheVariants as piece
use Rattle.json_text.specs.declared.number.Part.{Part}
use Rattle.json_text.specs.declared.number.Part.TheVariants as part
use Rattle.json_text.specs.Bytes.{is_plain, escaped, hex_value}
use Rattle.json_text.specs.Grammar.{Member}
use Rattle.json_text.specs.Machine.{Content, no_content, with_piece, text_so_far, Role, a_value, a_key, Phase, wants_value, opened_list, opened_map, has_value, wants_name, has_name, in_word, in_number, in_text, in_escape, in_unit, Frame, in_list, in_map, State, state, put, can_end, word_on}
use Rattle.json_text.specs.Numbers.{number_of}
use Rattle.json_text.proofs.Running.{run, moved}
use Rattle.json_text.proofs.Complete.{if_true, ends_run}

pub record Viable (s : State) : Type 0 where
  pub more : List ℕ
  pub v : Datum
  pub runs : run s more ≡ Some v

after_viable : (frames : List Frame) (x : Datum) (room : ℕ) → Viable (state (has_value x) frames room)
after_viable [] x room = record { more = []; v = x; runs = refl }
after_viable (in_list items ∷ frames) x room =
    let r = after_viable frames (list (items_of (items ++ x ∷ []))) (suc room) in record { more = 93 ∷ r.more; v = r.v; runs = r.runs }
after_viable (in_map members name ∷ frames) x room =
    let r = after_viable frames (fields (members_of (put members name x))) (suc room) in record { more = 125 ∷ r.more; v = r.v; runs = r.runs }

value_viable : (frames : List Frame) (room : ℕ) → Viable (state wants_value frames room)
value_viable frames room = let r = after_viable frames null room in record { more = 110 ∷ 117 ∷ 108 ∷ 108 ∷ r.more; v = r.v; runs = r.runs }

ended_viable : (p : Part) → can_end p ≡ true → (spelled : List ℕ) (frames : List Frame) (room : ℕ) → Viable (state (in_number p spelled) frames room)
ended_viable p e spelled frames room =
    let r = after_viable frames (number_of spelled) room in record { more = r.more; v = r.v; runs = ends_run frames room r.v p e r.more spelled r.runs }

number_viable : (p : Part) (spelled : List ℕ) (frames : List Frame) (room : ℕ) → Viable (state (in_number p spelled) frames room)
number_viable part.Start spelled frames room =
    let r = ended_viable part.Zero refl (spelled ++ 48 ∷ []) frames room in record { more = 48 ∷ r.more; v = r.v; runs = r.runs }
number_viable part.Minus spelled frames room =
    let r = ended_viable part.Zero refl (spelled ++ 48 ∷ []) frames room in record { more = 48 ∷ r.more; v = r.v; runs = r.runs }
number_viable part.Zero spelled frames room = ended_viable part.Zero refl spelled frames room
number_viable part.Whole spelled frames room = ended_viable part.Whole refl spelled frames room
number_viable part.Point spelled frames room =
    let r = ended_viable part.Fraction refl (spelled ++ 48 ∷ []) frames room in record { more = 48 ∷ r.more; v = r.v; runs = r.runs }
number_viable part.Fraction spelled frames room = ended_viable part.Fraction refl spelled frames room
number_viable part.Power spelled frames room =
    let r = ended_viable part.Exponent refl (spelled ++ 48 ∷ []) frames room in record { more = 48 ∷ r.more; v = r.v; runs = r.runs }
number_viable part.Sign spelled frames room =
    let r = ended_viable part.Exponent refl (spelled ++ 48 ∷ []) frames room in record { more = 48 ∷ r.more; v = r.v; runs = r.runs }
number_viable part.Exponent spelled frames room = ended_viable part.Exponent refl spelled frames room

word_viable : (next : ℕ) (word : List ℕ) (x : Datum) (frames : List Frame) (room : ℕ) → Viable (state (in_word next word x) frames room)
word_viable next word x frames room = let r = on word in record {
  more = next ∷ r.more;
  v = r.v;
  runs = ap (moved (λ (n : State). run n r.more)) (if_true (next == next) _ _ (eq-eqb next next refl)) ∙ r.runs;
}
  where
    on : (word : List ℕ) → Viable (state (word_on word x) frames room)
    on [] = after_viable frames x room
    on (first ∷ word) = let r = on word in record {
      more = first ∷ r.more;
      v = r.v;
      runs = ap (moved (λ (n : State). run n r.more)) (if_true (first == first) _ _ (eq-eqb first first refl)) ∙ r.runs;
    }

named_viable : (members : List Member) (name : List ℕ) (frames : List Frame) (room : ℕ) → Viable (state (has_name members name) frames room)
named_viable members name frames room =
    let r = value_viable (in_map members name ∷ frames) room in record { more = 58 ∷ r.more; v = r.v; runs = r.runs }

text_viable : (role : Role) (content : Content) (frames : List Frame) (room : ℕ) → Viable (state (in_text role content) frames room)
unfolding is_plain
text_viable a_value content frames room =
    let r = after_viable frames (text (text_so_far content)) room in record { more = 34 ∷ r.more; v = r.v; runs = r.runs }
text_viable (a_key members) content frames room =
    let r = named_viable members (text_so_far content) frames room in record { more = 34 ∷ r.more; v = r.v; runs = r.runs }

escape_viable : (role : Role) (content : Content) (frames : List Frame) (room : ℕ) → Viable (state (in_escape role content) frames room)
unfolding escaped
escape_viable role content frames room =
    let r = text_viable role (with_piece content (piece.Byte 34)) frames room in record { more = 34 ∷ r.more; v = r.v; runs = r.runs }

unit_viable : (role : Role) (content : Content) (left value : ℕ) (frames : List Frame) (room : ℕ) → Viable (state (in_unit role content left value) frames room)
unfolding hex_value
unit_viable role content zero value frames room =
    let r = text_viable role (with_piece content (piece.Unit (value * 16 + 0))) frames room in record { more = 48 ∷ r.more; v = r.v; runs = r.runs }
unit_viable role content (suc left) value frames room =
    let r = unit_viable role content left (value * 16 + 0) frames room in record { more = 48 ∷ r.more; v = r.v; runs = r.runs }

name_viable : (members : List Member) (frames : List Frame) (room : ℕ) → Viable (state (wants_name members) frames room)
name_viable members frames room =
    let r = text_viable (a_key members) no_content frames room in record { more = 34 ∷ r.more; v = r.v; runs = r.runs }

viable_from : (phase : Phase) (frames : List Frame) (room : ℕ) → Viable (state phase frames room)
viable_from wants_value frames room = value_viable frames room
viable_from opened_list frames room =
    let r = after_viable frames (list no_items) (suc room) in record { more = 93 ∷ r.more; v = r.v; runs = r.runs }
viable_from opened_map frames room =
    let r = after_viable frames (fields no_members) (suc room) in record { more = 125 ∷ r.more; v = r.v; runs = r.runs }
viable_from (has_value x) frames room = after_viable frames x room
viable_from (wants_name members) frames room = name_viable members frames room
viable_from (has_name members name) frames room = named_viable members name frames room
viable_from (in_word next word x) frames room = word_viable next word x frames room
viable_from (in_number p spelled) frames room = number_viable p spelled frames room
viable_from (in_text role content) frames room = text_viable role content frames room
viable_from (in_escape role content) frames room = escape_viable role content frames room
viable_from (in_unit role content left value) frames room = unit_viable role content left value frames room

pub viable : (s : State) → Viable s
viable s = viable_from s.phase s.frames s.room
