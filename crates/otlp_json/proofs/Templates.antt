-- Lines whose attributes split at the record's number.
use Rattle.std.proofs.Common.{◌≡◌, ℕ, zero, suc, pos, List, [], ◌∷◌, ◌++◌, ◌∙◌, Option, Result, Ok, Err, IfOk, IfErr, refl, sym, ap, codes, decimal, take, drop}
use Rattle.std.proofs.lemmas.List.{append_assoc}
use Rattle.std.proofs.lemmas.Map.Lookups.{exact_bytes}
use Rattle.entry_model.specs.declared.value.Value.{Value}
use Rattle.entry_model.specs.Places.{StandsAt, FitsAt}
use Rattle.entry_model.specs.Datum.{Datum, int, datum, Members, member}
use Rattle.field_paths.specs.Members.{with_member}
use Rattle.field_paths.specs.MapOf.{members_seen}
use Rattle.otlp_json.specs.Escaped.{escaped}
use Rattle.otlp_json.specs.OutputLine.{output_line, line_front, line_tail}
use Rattle.otlp_json.specs.RecordText.{attributes_text, observed_text, record_text}
use Rattle.otlp_json.specs.Scope.{scope_text, end_text}
use Rattle.otlp_json.specs.Template.{numbered, number_text, comma_behind, IsTemplate}
use Rattle.otlp_json.specs.ValueText.{members_text, key_value_text, value_text}
use Rattle.otlp_json.specs.declared.template.Template.{Template}

-- ---- the members ahead of a name, the member of the name, and those behind it

-- what stands ahead of a member behind these
abbrev follow : List ℕ → List (List ℕ × Value) → List ℕ
follow before [] = before
follow before (e ∷ es) = codes ","

follow_comma : (es : List (List ℕ × Value)) → follow (codes ",") es ≡ codes ","
follow_comma [] = refl
follow_comma (e ∷ es) = refl

follow_none : (es : List (List ℕ × Value)) → follow [] es ≡ comma_behind es
follow_none [] = refl
follow_none (e ∷ es) = refl

one_more : (front ms comma own more : List ℕ) → front ++ (ms ++ comma ++ own ++ more) ≡ front ++ ms ++ comma ++ own ++ more
one_more front ms comma own more = simp append_assoc

one_ahead : (before : List ℕ) (e : List ℕ × Value) (with : Members) (below : List (List ℕ × Value)) (own more : List ℕ)
    → members_text (codes ",") with ≡ members_text (codes ",") (members_seen below) ++ follow (codes ",") below ++ own ++ more
    → members_text before (member e.0 (datum e.1) with) ≡ members_text before (members_seen (e ∷ below)) ++ follow before (e ∷ below) ++ own ++ more
one_ahead before e with below own more later =
    let front = before ++ key_value_text e.0 (value_text (datum e.1)) in
    ap (λ t. front ++ t) (later ∙ ap (λ s. members_text (codes ",") (members_seen below) ++ s ++ own ++ more) (follow_comma below))
    ∙ one_more front (members_text (codes ",") (members_seen below)) (codes ",") own more

-- the name stands at this place
pub with_standing : (name : List ℕ) (value : Datum) (es : List (List ℕ × Value)) (at : ℕ) (before : List ℕ) → StandsAt name es at
    → members_text before (with_member name value (members_seen es))
    ≡ members_text before (members_seen (take at es)) ++ follow before (take at es) ++ key_value_text name (value_text value) ++ members_text (codes ",") (members_seen (drop (suc at) es))
with_standing name value [] at before h = absurd h
with_standing name value (e ∷ es) zero before h = rw h (ap (λ k. before ++ key_value_text k (value_text value) ++ members_text (codes ",") (members_seen es)) (sym (exact_bytes name e.0 h)))
with_standing name value (e ∷ es) (suc at) before h =
    rw h.0 (one_ahead before e (with_member name value (members_seen es)) (take at es) (key_value_text name (value_text value)) (members_text (codes ",") (members_seen (drop (suc at) es))) (with_standing name value es at (codes ",") h.1))

-- the name would stand there
pub with_fitting : (name : List ℕ) (value : Datum) (es : List (List ℕ × Value)) (at : ℕ) (before : List ℕ) → FitsAt name es at
    → members_text before (with_member name value (members_seen es))
    ≡ members_text before (members_seen (take at es)) ++ follow before (take at es) ++ key_value_text name (value_text value) ++ members_text (codes ",") (members_seen (drop at es))
with_fitting name value [] zero before h = refl
with_fitting name value [] (suc at) before h = absurd h
with_fitting name value (e ∷ es) zero before h = rw h refl
with_fitting name value (e ∷ es) (suc at) before h =
    rw h.0 (one_ahead before e (with_member name value (members_seen es)) (take at es) (key_value_text name (value_text value)) (members_text (codes ",") (members_seen (drop at es))) (with_fitting name value es at (codes ",") h.1))

-- what stands around the name's place
pub with_place : (name : List ℕ) (value : Datum) (place : Result ℕ ℕ) (es ms ahead rest : List (List ℕ × Value)) → ms ≡ es
    → IfOk place (StandsAt name es) → IfErr place (FitsAt name es)
    → IfOk place (λ at. (ahead ≡ take at ms) × (rest ≡ drop (suc at) ms)) → IfErr place (λ at. (ahead ≡ take at ms) × (rest ≡ drop at ms))
    → members_text [] (with_member name value (members_seen es))
    ≡ members_text [] (members_seen ahead) ++ comma_behind ahead ++ key_value_text name (value_text value) ++ members_text (codes ",") (members_seen rest)
with_place name value (Ok at) es ms ahead rest same stands fits found missing =
    rw (found.0, found.1, same, sym (follow_none (take at es))) (with_standing name value es at [] stands)
with_place name value (Err at) es ms ahead rest same stands fits found missing =
    rw (missing.0, missing.1, same, sym (follow_none (take at es))) (with_fitting name value es at [] fits)

number_between : (old ms comma key name value begin n end close more text : List ℕ)
    → old ++ ms ++ comma ++ key ++ name ++ (value ++ begin) ++ n ++ ((end ++ close) ++ more ++ text) ≡ old ++ (ms ++ comma ++ (key ++ name ++ value ++ (begin ++ n ++ end) ++ close) ++ more) ++ text
number_between old ms comma key name value begin n end close more text = simp append_assoc

-- what is written ahead of the number, the number, and what is written behind it
pub around_number : (name : List ℕ) (n : ℕ) (below rest : List (List ℕ × Value)) (old ahead named behind : List ℕ)
    → ahead ≡ old ++ members_text [] (members_seen below) ++ comma_behind below
    → named ≡ ahead ++ codes "{\"key\":\"" ++ escaped name ++ codes "\",\"value\":{\"intValue\":\""
    → behind ≡ codes "\"}}" ++ members_text (codes ",") (members_seen rest) ++ codes "],\"body\":{\"stringValue\":\""
    → named ++ decimal n ++ behind ≡ old ++ (members_text [] (members_seen below) ++ comma_behind below ++ key_value_text name (value_text (int (pos n))) ++ members_text (codes ",") (members_seen rest)) ++ codes "],\"body\":{\"stringValue\":\""
around_number name n below rest old ahead named behind ahead_is named_is behind_is =
    let more = members_text (codes ",") (members_seen rest) in
    let left : named ≡ old ++ members_text [] (members_seen below) ++ comma_behind below ++ codes "{\"key\":\"" ++ escaped name ++ codes "\",\"value\":{\"intValue\":\"" =
    named_is ∙ ap (λ t. t ++ codes "{\"key\":\"" ++ escaped name ++ codes "\",\"value\":{\"intValue\":\"") ahead_is in
    ap (λ t. t ++ decimal n ++ behind) left
    ∙ ap (λ t. old ++ members_text [] (members_seen below) ++ comma_behind below ++ codes "{\"key\":\"" ++ escaped name ++ codes "\",\"value\":{\"intValue\":\"" ++ decimal n ++ t) behind_is
    ∙ number_between old (members_text [] (members_seen below)) (comma_behind below) (codes "{\"key\":\"") (escaped name) (codes "\",\"value\":") (codes "{\"intValue\":\"") (decimal n) (codes "\"}") (codes "}") more (codes "],\"body\":{\"stringValue\":\"")

-- ---- a line, of what it is filled in

line_of_parts : (start resource records opened list ms end body text value close observed over scope file id line number last : List ℕ)
    → (start ++ resource ++ (records ++ (opened ++ list)) ++ ms ++ (end ++ (body ++ text))) ++ value ++ (close ++ observed ++ ((over ++ (scope ++ file)) ++ id ++ line)) ++ (number ++ last)
    ≡ (start ++ resource ++ records ++ (opened ++ (list ++ ms ++ end) ++ (body ++ (text ++ value ++ close)) ++ observed ++ [] ++ [] ++ [] ++ over) ++ scope) ++ (file ++ id ++ line ++ number ++ last)
line_of_parts start resource records opened list ms end body text value close observed over scope file id line number last = simp append_assoc

pub filled_in : (id : ℕ) (observed : Option ℕ) (resource attributes : Members) (name : Option (List ℕ)) (template : Template)
    → ((n : ℕ) → template.front.items ++ number_text template.numbered template.behind.items n
    ≡ codes "{\"resourceLogs\":[{\"resource\":{\"attributes\":" ++ attributes_text resource ++ codes "},\"scopeLogs\":[{\"logRecords\":[{\"attributes\":[" ++ members_text [] (numbered name n attributes) ++ codes "],\"body\":{\"stringValue\":\"")
    → template.back.items ≡ codes "\"}" ++ observed_text observed ++ scope_text id
    → IsTemplate id observed resource attributes name template
unfolding output_line line_front line_tail record_text scope_text
filled_in id observed resource attributes name template whole back = record {
  lines = λ number n body.
      ap (λ t. t ++ escaped body ++ template.back.items ++ end_text number) (whole n)
      ∙ ap (λ t. codes "{\"resourceLogs\":[{\"resource\":{\"attributes\":" ++ attributes_text resource ++ codes "},\"scopeLogs\":[{\"logRecords\":[{\"attributes\":[" ++ members_text [] (numbered name n attributes) ++ codes "],\"body\":{\"stringValue\":\"" ++ escaped body ++ t ++ end_text number) back
      ∙ line_of_parts (codes "{\"resourceLogs\":[{\"resource\":{\"attributes\":") (attributes_text resource) (codes "},\"scopeLogs\":[{\"logRecords\":[") (codes "{\"attributes\":") (codes "[") (members_text [] (numbered name n attributes)) (codes "]") (codes ",\"body\":") (codes "{\"stringValue\":\"") (escaped body) (codes "\"}") (observed_text observed) (codes "}") (codes "],\"scope\":{\"attributes\":[{\"key\":") (codes "\"agent.file\",\"value\":{\"intValue\":\"") (decimal id) (codes "\"}},{\"key\":\"agent.line\",\"value\":{\"intValue\":\"") (decimal number) (codes "\"}}],\"name\":\"stanza_agent\"}}]}]}\n");
}
