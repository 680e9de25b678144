-- Lines of Docker say one thing.
use Rattle.std.proofs.Common.{◌≡◌, ℕ, List, [], ◌∷◌, ap, refl, subst, None, Some, cond, option_map, true}
use Rattle.std.specs.Cmp.Lexicographic.{slice_cmp}
use Rattle.std.specs.BTreeMap.{is_at}
use Rattle.std.specs.Map.{lookup}
use Rattle.std.specs.Ordering.{nat_cmp, is_eq}
use Rattle.std.specs.declared.cmp.Ordering.{Ordering}
use Rattle.std.specs.declared.cmp.Ordering.TheVariants.{Less, Equal, Greater}
use Rattle.entry_model.specs.declared.value.Value.{Value}
use Rattle.entry_model.specs.Datum.{datum, fields, Members, members_of, is_map_datum}
use Rattle.entry_model.specs.Seen.{seen}
use Rattle.json_text.specs.Fault.{IsFault}
use Rattle.json_text.specs.Grammar.{IsText}
use Rattle.json_text.specs.declared.fault.JsonFault.{JsonFault}
use Rattle.json_text.specs.declared.fault.JsonFault.TheVariants as json
use Rattle.container_parser.specs.declared.format.Format.TheVariants.{Docker}
use Rattle.container_parser.specs.declared.line.ContainerLine.{ContainerLine}
use Rattle.container_parser.specs.Lines.{IsLine, IsDockerFaultOf, IsRecordOf, told}
use Rattle.json_text.proofs.Faults.{one_value}
use Rattle.container_parser.specs.DockerLines.{IsObjectOf, value_at, IsDockerRecord, IsDockerLine}
use Rattle.container_parser.specs.Times.{IsTime}
use Rattle.container_parser.proofs.CriLaws.{one_instant}

-- a call on a map in memory, seen on the members
pub value_at-seen : (name : List ℕ) (es : List (List ℕ × Value)) → value_at name (members_of (seen es)) ≡ option_map datum (lookup (is_at (slice_cmp nat_cmp name)) es)
value_at-seen name [] = refl
value_at-seen name (e ∷ es) = by (slice_cmp nat_cmp name e.0) (value_at-seen name es)
  where
    by : (r : Ordering) → value_at name (members_of (seen es)) ≡ option_map datum (lookup (is_at (slice_cmp nat_cmp name)) es)
        → cond (is_eq r) (Some (datum e.1)) (value_at name (members_of (seen es))) ≡ option_map datum (cond (is_eq r) (Some e.1) (lookup (is_at (slice_cmp nat_cmp name)) es))
    by Less h = h
    by Equal h = refl
    by Greater h = h

pub record Same (a b : ℕ) (stream other log text : List ℕ) : Type 0 where
  pub instant : a ≡ b
  pub stream_is : stream ≡ other
  pub log_is : log ≡ text

pub one_record : (members : Members) (a b : ℕ) (stream other log text : List ℕ) → IsDockerRecord members a stream log → IsDockerRecord members b other text → Same a b stream other log text
one_record members a b stream other log text one two = record {
  instant =
      let e = one.time_is in let f = two.time_is in
      let same : one.time_text ≡ two.time_text = cc (e, f) in
      one_instant two.time_text a b (subst (λ (t : List ℕ). IsTime t a) same one.time) two.time;
  stream_is = let e = one.stream_is in let f = two.stream_is in cc (e, f);
  log_is = let e = one.log_is in let f = two.log_is in cc (e, f);
}

pub one_object : (text : List ℕ) (members others : Members) → IsText 64 text (fields members) → IsText 64 text (fields others) → members ≡ others
one_object text members others one two = let e : fields members ≡ fields others = one_value 64 text (fields members) (fields others) one two in cc e

pub one_docker_line : (text : List ℕ) (a b : ℕ) (stream other log words : List ℕ) → IsDockerLine text a stream log → IsDockerLine text b other words → Same a b stream other log words
one_docker_line text a b stream other log words one two =
    let same = one_object text one.members two.members one.object two.object in
    one_record two.members a b stream other log words (subst (λ (m : Members). IsDockerRecord m a stream log) same one.record_is) two.record_is

-- ---- texts that are no line

pub other_is_no_line : (text : List ℕ) (line : ContainerLine) → IsObjectOf text None → IsLine Docker text line → ⊥
other_is_no_line text line other is =
    let e : other.0 ≡ fields is.0.members = one_value 64 text other.0 (fields is.0.members) other.1 is.0.object in
    let map : is_map_datum other.0 ≡ true = ap is_map_datum e in
    let none = other.2 in
    cc (map, none)

pub told_is : (text : List ℕ) (fault : JsonFault) → IsFault text fault → IsDockerFaultOf text (told fault)
told_is text (json.Syntax at) f = λ line is. f.leftmost.none (fields is.0.members) is.0.object
told_is text (json.TooDeep at) f = λ line is. f.leftmost.none (fields is.0.members) is.0.object
told_is text json.Memory f = tt

pub record_is_missing : (text : List ℕ) (members : Members) (line : ContainerLine) → IsText 64 text (fields members) → IsRecordOf members None → IsLine Docker text line → ⊥
record_is_missing text members line object none is =
    let same = one_object text is.0.members members is.0.object object in
    none line.timestamp line.stream line.text (subst (λ (m : Members). IsDockerRecord m line.timestamp line.stream line.text) same is.0.record_is)

pub record_is_there : (text : List ℕ) (members : Members) (line : ContainerLine) → IsText 64 text (fields members) → IsRecordOf members (Some line) → IsLine Docker text line
record_is_there text members line object found = (record { members = members; object = object; record_is = found.0 }, found.1)
