-- Lines of texts, without operators.
use Rattle.std.proofs.Common.{◌≡◌, ℕ, pos, ◌+◌, ◌<◌, ◌≤◌, Bool, true, false, List, [], ◌∷◌, ◌++◌, ◌∙◌, Option, None, Some, OnOk, Result, Ok, Err, map, length, refl, sym, ap, subst, codes, arith, if◌then◌else◌}
use Rattle.std.proofs.lemmas.List.{append-nil}
use Rattle.entry_model.specs.Datum.{int, Members}
use Rattle.entry_model.specs.LogRecord.{LogRecord}
use Rattle.graph_core.specs.declared.NodeSpec.{NodeSpec}
use Rattle.graph_core.specs.Traces.{network_of, inputs, Served}
use Rattle.op_kinds.specs.Kept.{Kept, keeps_groups}
use Rattle.op_kinds.specs.Operator.{Operator, behavior_of}
use Rattle.otlp_json.specs.OutputLine.{output_line}
use Rattle.otlp_json.specs.OutputLines.{output_lines}
use Rattle.otlp_json.specs.Template.{numbered, text_record}
use Rattle.otlp_json.specs.declared.template.Template.{Template}
use Rattle.pipeline.specs.Entries.{with_asked, file_attributes, attributes_at, record_with, text_of}
use Rattle.pipeline.specs.Fed.{Fed}
use Rattle.pipeline.specs.Origin.{Origin}
use Rattle.pipeline.specs.Parts.{settings_of, network, HaveKinds}
use Rattle.pipeline.specs.Sources.{number_name, IsSource}
use Rattle.pipeline.specs.declared.Pipeline.{Pipeline}
use Rattle.pipeline.specs.declared.source.Source.TheVariants.{Lines}
use Rattle.pipeline.specs.declared.state.FileState.{FileState}
use Rattle.settings_text.specs.declared.settings.Settings.{Settings}
use Rattle.pipeline.proofs.Feeding.{record_one, one_fed}
use Rattle.pipeline.proofs.StateKinds.{kinds}

-- what a call's success gives
pub on_ok : {T E : Type 0} (r : Result T E) (A B : Type 0) → OnOk r A → (A → B) → OnOk r B
on_ok (Ok _) A B given step = step given
on_ok (Err _) A B given step = tt

pub no_nodes : (nodes : List (NodeSpec Operator)) → length nodes ≡ 0 → nodes ≡ []
no_nodes [] none = refl
no_nodes (node ∷ nodes) none = absurd (omega (arith, none))

-- where there are no operators, what goes in comes out
through_none : (nodes : List (NodeSpec Operator)) (states : List Kept) (item : LogRecord) → nodes ≡ [] → map keeps_groups states ≡ kinds nodes
    → Served (network_of behavior_of nodes) states [] (inputs (network_of behavior_of nodes) (item ∷ [])) states (item ∷ [])
through_none [] [] item none is = record { states = refl; items = refl }
through_none [] (state ∷ states) item none is = absurd (cc is)
through_none (node ∷ nodes) states item none is = absurd (cc none)

-- a template's attributes are those of the file's records
as_asked : (asked : Bool) (name : List ℕ) (n : ℕ) (shared : Members) → numbered (if asked then Some name else None) n shared ≡ with_asked asked name (int (pos n)) shared
as_asked true name n shared = refl
as_asked false name n shared = refl

-- the attributes of the n-th token's record, by the name of its number
pub numbered_at : (settings : Settings) (path : List ℕ) (n : ℕ) (number : Option (List ℕ)) → number ≡ number_name settings → numbered number n (file_attributes settings path) ≡ attributes_at settings path n
numbered_at settings path n number is =
    ap (λ (o : Option (List ℕ)). numbered o n (file_attributes settings path)) is ∙ as_asked settings.include_file_record_number (codes "log.file.record_number") n (file_attributes settings path)

record_of_text : (settings : Settings) (path : List ℕ) (n : ℕ) (body : List ℕ)
    → text_record settings.resource (numbered (number_name settings) n (file_attributes settings path)) body ≡ record_with settings path n body
record_of_text settings path n body =
    ap (λ members. text_record settings.resource members body) (as_asked settings.include_file_record_number (codes "log.file.record_number") n (file_attributes settings path))

-- the line of one record
pub record OneLine : Type 0 where
  pub lines : (id number : ℕ) (observed : Option ℕ) (item : LogRecord) → output_lines id number observed (item ∷ []) ≡ output_line id number observed item

pub one_line : ((id number : ℕ) (observed : Option ℕ) → output_lines id number observed [] ≡ [])
    → ((id number : ℕ) (observed : Option ℕ) (first : LogRecord) (rest : List LogRecord) → output_lines id number observed (first ∷ rest) ≡ output_line id number observed first ++ output_lines id (number + 1) observed rest)
    → OneLine
one_line none more = record {
  lines = λ id number observed item.
      more id number observed item [] ∙ ap (λ t. output_line id number observed item ++ t) (none id (number + 1) observed) ∙ append-nil (output_line id number observed item);
}

pub text_fed : (pipeline : Pipeline) (origin : Origin) (token text : List ℕ) (template : Template) (s t : FileState) (o r : List ℕ) → OneLine
    → IsSource pipeline origin (Lines template) → HaveKinds pipeline s.states.items → text ≡ text_of (settings_of pipeline) token → 0 < length text
    → t.records ≡ s.records + 1 → t.lines ≡ s.lines + 1 → t.states.items ≡ s.states.items
    → r ≡ o ++ output_line origin.id (s.lines + 1) origin.time (text_record (settings_of pipeline).resource (numbered (number_name (settings_of pipeline)) (s.records + 1) (file_attributes (settings_of pipeline) origin.path)) text)
    → Fed (settings_of pipeline) (network pipeline) origin (token ∷ []) s t o r
text_fed pipeline origin token text template s t o r one is have text_is some records lines states written =
    let settings = settings_of pipeline in
    let item = record_with settings origin.path (s.records + 1) (text_of settings token) in
    let told : text_record settings.resource (numbered (number_name settings) (s.records + 1) (file_attributes settings origin.path)) text ≡ item =
    record_of_text settings origin.path (s.records + 1) text ∙ ap (record_with settings origin.path (s.records + 1)) text_is in
    one_fed settings (network pipeline) origin token item (item ∷ []) s t o r
    (record_one settings origin.path s.records token (subst (λ (body : List ℕ). 0 < length body) text_is some))
    (subst (λ (after : List Kept). Served (network pipeline) s.states.items [] (inputs (network pipeline) (item ∷ [])) after (item ∷ [])) (sym states) (through_none pipeline.graph s.states.items item is.0 have))
    records lines
    (written ∙ ap (λ line. o ++ line) (ap (output_line origin.id (s.lines + 1) origin.time) told ∙ sym (one.lines origin.id (s.lines + 1) origin.time item)))
