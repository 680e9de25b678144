-- What completes a state to a text, in the words of the grammar.
use Rattle.std.proofs.Common.{◌≡◌, ℕ, suc, true, List, [], ◌∷◌, ◌++◌}
use Rattle.std.specs.List.{list_all}
use Rattle.entry_model.specs.Datum.{Datum, text, list, fields, items_of, members_of}
use Rattle.json_text.specs.declared.content.Piece.{Piece}
use Rattle.json_text.specs.declared.content.Piece.TheVariants as piece
use Rattle.json_text.specs.declared.number.Part.{Part}
use Rattle.json_text.specs.declared.number.Part.TheVariants as part
use Rattle.json_text.specs.Bytes.{is_blank}
use Rattle.json_text.specs.Grammar.{IsUnit, IsContent, Member, put_all, IsValue, IsFirstItem, IsNextItem, IsFirstMember, IsMember, IsNamed, IsNextMember}
use Rattle.json_text.specs.Machine.{Content, with_piece, text_so_far, Role, a_value, a_key, Phase, wants_value, opened_list, opened_map, has_value, wants_name, has_name, in_word, in_number, in_text, in_escape, in_unit, Frame, in_list, in_map, put}
use Rattle.json_text.specs.Numbers.{IsNumber, IsUnsigned, IsWholeDigits, IsFraction, IsFractionValue, IsFractionDigits, IsPower, IsPowerValue, IsPowerDigits, number_of}

-- what follows a value in its surroundings
abbrev pub After : List Frame → ℕ → Datum → List ℕ → Datum → Type 0
After [] room x bytes v = (x ≡ v) × (list_all is_blank bytes ≡ true)
After (in_list items ∷ frames) room x bytes v =
    (more : List Datum) × (rest : List ℕ) × IsNextItem room bytes more rest
    × After frames (suc room) (list (items_of (items ++ x ∷ more))) rest v
After (in_map members name ∷ frames) room x bytes v =
    (more : List Member) × (rest : List ℕ) × IsNextMember room bytes more rest
    × After frames (suc room) (fields (members_of (put_all (put members name x) more))) rest v

abbrev pub FromPart : Part → List ℕ → List ℕ → List ℕ → Type 0
FromPart part.Start bytes more rest = IsNumber bytes more rest
FromPart part.Minus bytes more rest = IsUnsigned bytes more rest
FromPart part.Zero bytes more rest = IsFraction bytes more rest
FromPart part.Whole bytes more rest = IsWholeDigits bytes more rest
FromPart part.Point bytes more rest = IsFractionValue bytes more rest
FromPart part.Fraction bytes more rest = IsFractionDigits bytes more rest
FromPart part.Power bytes more rest = IsPower bytes more rest
FromPart part.Sign bytes more rest = IsPowerValue bytes more rest
FromPart part.Exponent bytes more rest = IsPowerDigits bytes more rest

abbrev pub with_pieces : Content → List Piece → Content
with_pieces content [] = content
with_pieces content (next ∷ rest) = with_pieces (with_piece content next) rest

abbrev pub AfterName : List Member → List ℕ → List Frame → ℕ → List ℕ → Datum → Type 0
AfterName members name frames room bytes v =
    (x : Datum) × (next : List ℕ) × (more : List Member) × (rest : List ℕ) × IsNamed room bytes x next × IsNextMember room next more rest
    × After frames (suc room) (fields (members_of (put_all (put members name x) more))) rest v

abbrev pub AfterText : Role → List ℕ → List Frame → ℕ → List ℕ → Datum → Type 0
AfterText a_value bytes frames room rest v = After frames room (text bytes) rest v
AfterText (a_key members) bytes frames room rest v = AfterName members bytes frames room rest v

abbrev pub Completes : Phase → List Frame → ℕ → List ℕ → Datum → Type 0
Completes wants_value frames room bytes v =
    (x : Datum) × (rest : List ℕ) × IsValue room bytes x rest × After frames room x rest v
Completes opened_list frames room bytes v =
    (items : List Datum) × (rest : List ℕ) × IsFirstItem room bytes items rest × After frames (suc room) (list (items_of items)) rest v
Completes opened_map frames room bytes v =
    (members : List Member) × (rest : List ℕ) × IsFirstMember room bytes members rest
    × After frames (suc room) (fields (members_of (put_all [] members))) rest v
Completes (has_value x) frames room bytes v = After frames room x bytes v
Completes (wants_name members) frames room bytes v =
    (name : List ℕ) × (x : Datum) × (next : List ℕ) × (more : List Member) × (rest : List ℕ) × IsMember room bytes name x next
    × IsNextMember room next more rest × After frames (suc room) (fields (members_of (put_all (put members name x) more))) rest v
Completes (has_name members name) frames room bytes v = AfterName members name frames room bytes v
Completes (in_word next word x) frames room bytes v = (rest : List ℕ) × (bytes ≡ next ∷ (word ++ rest)) × After frames room x rest v
Completes (in_number part spelled) frames room bytes v =
    (more : List ℕ) × (rest : List ℕ) × FromPart part bytes more rest × After frames room (number_of (spelled ++ more)) rest v
Completes (in_text role content) frames room bytes v =
    (pieces : List Piece) × (rest : List ℕ) × IsContent bytes pieces rest
    × AfterText role (text_so_far (with_pieces content pieces)) frames room rest v
Completes (in_escape role content) frames room bytes v =
    (pieces : List Piece) × (rest : List ℕ) × IsContent (92 ∷ bytes) pieces rest
    × AfterText role (text_so_far (with_pieces content pieces)) frames room rest v
Completes (in_unit role content left value) frames room bytes v =
    (unit : ℕ) × (next : List ℕ) × (pieces : List Piece) × (rest : List ℕ) × IsUnit (suc left) value bytes unit next × IsContent next pieces rest
    × AfterText role (text_so_far (with_pieces (with_piece content (piece.Unit unit)) pieces)) frames room rest v
