-- What texts say, by the grammars of text_parsers and computed.
use Rattle.std.proofs.Common.{◌≡◌, ◌≢◌, ℕ, List, Option, None, Some, false, true≢false, inl, inr, refl, sym, ap, subst, ◌∙◌, rules}
use Rattle.entry_model.specs.Datum.{Datum, null, boolean, int, text, list, fields, Members, is_map_datum}
use Rattle.json_text.proofs.Faults.{syntax_fault, depth_fault, read_text, one_value}
use Rattle.json_text.specs.Grammar.{IsText}
use Rattle.json_text.specs.Machine.{Outcome, reads, syntax_at, too_deep_at, outcome, start}
use Rattle.op_kinds.specs.Faults.{of_parse_fault}
use Rattle.op_kinds.specs.Said.{by_pattern, as_json, members_if_map, of_outcome, object_in, of_match, groups_in, said}
use Rattle.op_kinds.specs.declared.row.RowFault.TheVariants as row
use Rattle.regex_hir.specs.Find.{Match}
use Rattle.text_parsers.specs.Groups.{found_in, reading, IsMatchedText, IsMatchFault}
use Rattle.text_parsers.specs.JsonObjects.{IsObjectText, IsObjectFault}
use Rattle.text_parsers.specs.TextValue.{IsTextWith, IsValueFault}
use Rattle.text_parsers.specs.declared.fault.ParseFault.{ParseFault}
use Rattle.text_parsers.specs.declared.fault.ParseFault.TheVariants as parse

-- ---- groups

match_says : (pattern bytes : List ℕ) (made : Members) → IsMatchedText pattern made bytes → groups_in pattern bytes ≡ Some made
unfolding groups_in
match_says pattern bytes made is = ap (of_match pattern bytes) is.is ∙ ap (λ (m : Members). Some m) (sym is.members_are)

says_match : (pattern bytes : List ℕ) (made : Members) → groups_in pattern bytes ≡ Some made → IsMatchedText pattern made bytes
unfolding groups_in
says_match pattern bytes made = by (found_in (reading pattern) bytes) refl
  where
    by : (found : Option Match) → found_in (reading pattern) bytes ≡ found → of_match pattern bytes found ≡ Some made → IsMatchedText pattern made bytes
    by None is says = absurd (search (rules, says))
    by (Some found) is says = record { found = found; is = is; members_are = cc says }

pub groups_said : (pattern : List ℕ) (value : Datum) (made : Members) → IsTextWith value (IsMatchedText pattern made) → said (by_pattern pattern) value ≡ Some made
groups_said pattern null made none = absurd none
groups_said pattern (boolean b) made none = absurd none
groups_said pattern (int z) made none = absurd none
groups_said pattern (text bytes) made is = match_says pattern bytes made is
groups_said pattern (list items) made none = absurd none
groups_said pattern (fields under) made none = absurd none

no_match : (pattern bytes : List ℕ) (fault : ParseFault) → IsMatchFault pattern bytes fault → of_parse_fault fault ≢ row.Memory → groups_in pattern bytes ≡ None
unfolding groups_in
no_match pattern bytes parse.NotText none some = absurd none
no_match pattern bytes parse.NoMatch is some = ap (of_match pattern bytes) is
no_match pattern bytes (parse.Syntax at) none some = absurd none
no_match pattern bytes (parse.FieldCount want got) none some = absurd none
no_match pattern bytes (parse.NoDelimiter at) none some = absurd none
no_match pattern bytes parse.Memory is some = absurd (some refl)

pub groups_unsaid : (pattern : List ℕ) (value : Datum) (fault : ParseFault) → IsValueFault (IsMatchFault pattern) value fault → of_parse_fault fault ≢ row.Memory → said (by_pattern pattern) value ≡ None
groups_unsaid pattern null fault is some = refl
groups_unsaid pattern (boolean b) fault is some = refl
groups_unsaid pattern (int z) fault is some = refl
groups_unsaid pattern (text bytes) fault is some = no_match pattern bytes fault is some
groups_unsaid pattern (list items) fault is some = refl
groups_unsaid pattern (fields under) fault is some = refl

pub groups_are_matched : (pattern bytes : List ℕ) (made : Members) → (groups_in pattern bytes ≡ Some made → IsMatchedText pattern made bytes) × (IsMatchedText pattern made bytes → groups_in pattern bytes ≡ Some made)
groups_are_matched pattern bytes made = (says_match pattern bytes made, match_says pattern bytes made)

-- ---- objects

only_map : (value : Datum) (made : Members) → members_if_map value ≡ Some made → value ≡ fields made
only_map null made says = absurd (search (rules, says))
only_map (boolean b) made says = absurd (search (rules, says))
only_map (int z) made says = absurd (search (rules, says))
only_map (text bytes) made says = absurd (search (rules, says))
only_map (list items) made says = absurd (search (rules, says))
only_map (fields under) made says = let same : under ≡ made = cc says in ap fields same

no_map : (value : Datum) → is_map_datum value ≡ false → members_if_map value ≡ None
no_map null is = refl
no_map (boolean b) is = refl
no_map (int z) is = refl
no_map (text bytes) is = refl
no_map (list items) is = refl
no_map (fields under) is = absurd (true≢false is)

-- a text that spells a value is read as it
outcome_of : (bytes : List ℕ) (value : Datum) → IsText 64 bytes value → outcome (start 64) bytes 0 ≡ reads value
outcome_of bytes value is = by (outcome (start 64) bytes 0) refl
  where
    by : (out : Outcome) → outcome (start 64) bytes 0 ≡ out → out ≡ reads value
    by (reads other) read = ap reads (one_value 64 bytes other value (read_text bytes other read) is)
    by (syntax_at at) read = absurd ((syntax_fault bytes at read).leftmost.none value is)
    by (too_deep_at at) read = absurd ((depth_fault bytes at read).leftmost.none value is)

object_says : (bytes : List ℕ) (made : Members) → IsObjectText made bytes → object_in bytes ≡ Some made
unfolding object_in
object_says bytes made is = ap of_outcome (outcome_of bytes (fields made) is)

says_object : (bytes : List ℕ) (made : Members) → object_in bytes ≡ Some made → IsObjectText made bytes
unfolding object_in
says_object bytes made = by (outcome (start 64) bytes 0) refl
  where
    by : (out : Outcome) → outcome (start 64) bytes 0 ≡ out → of_outcome out ≡ Some made → IsObjectText made bytes
    by (reads value) read says = subst (IsText 64 bytes) (only_map value made says) (read_text bytes value read)
    by (syntax_at at) read says = absurd (search (rules, says))
    by (too_deep_at at) read says = absurd (search (rules, says))

pub object_said : (value : Datum) (made : Members) → IsTextWith value (IsObjectText made) → said as_json value ≡ Some made
object_said null made none = absurd none
object_said (boolean b) made none = absurd none
object_said (int z) made none = absurd none
object_said (text bytes) made is = object_says bytes made is
object_said (list items) made none = absurd none
object_said (fields under) made none = absurd none

no_value : (bytes : List ℕ) → ((value : Datum) → IsText 64 bytes value → ⊥) → object_in bytes ≡ None
unfolding object_in
no_value bytes none = by (outcome (start 64) bytes 0) refl
  where
    by : (out : Outcome) → outcome (start 64) bytes 0 ≡ out → of_outcome out ≡ None
    by (reads value) read = absurd (none value (read_text bytes value read))
    by (syntax_at at) read = refl
    by (too_deep_at at) read = refl

other_value : (bytes : List ℕ) (value : Datum) → IsText 64 bytes value → is_map_datum value ≡ false → object_in bytes ≡ None
unfolding object_in
other_value bytes value is not_map = ap of_outcome (outcome_of bytes value is) ∙ no_map value not_map

no_object : (bytes : List ℕ) (fault : ParseFault) → IsObjectFault bytes fault → of_parse_fault fault ≢ row.Memory → object_in bytes ≡ None
no_object bytes parse.NotText none some = absurd none
no_object bytes parse.NoMatch none some = absurd none
no_object bytes (parse.Syntax at) (inl is) some = no_value bytes is.leftmost.none
no_object bytes (parse.Syntax at) (inr (inl is)) some = no_value bytes is.leftmost.none
no_object bytes (parse.Syntax at) (inr (inr is)) some = other_value bytes is.1.0 is.1.1 is.1.2
no_object bytes (parse.FieldCount want got) none some = absurd none
no_object bytes (parse.NoDelimiter at) none some = absurd none
no_object bytes parse.Memory is some = absurd (some refl)

pub object_unsaid : (value : Datum) (fault : ParseFault) → IsValueFault IsObjectFault value fault → of_parse_fault fault ≢ row.Memory → said as_json value ≡ None
object_unsaid null fault is some = refl
object_unsaid (boolean b) fault is some = refl
object_unsaid (int z) fault is some = refl
object_unsaid (text bytes) fault is some = no_object bytes fault is some
object_unsaid (list items) fault is some = refl
object_unsaid (fields under) fault is some = refl

pub objects_are_spelled : (bytes : List ℕ) (made : Members) → (object_in bytes ≡ Some made → IsObjectText made bytes) × (IsObjectText made bytes → object_in bytes ≡ Some made)
objects_are_spelled bytes made = (says_object bytes made, object_says bytes made)
