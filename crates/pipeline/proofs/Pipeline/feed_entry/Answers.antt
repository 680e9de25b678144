use Rattle.std.proofs.Common.{◌≡◌, ◌+◌, ◌<◌, [], ◌∷◌, ◌++◌, length, refl, sym, ap, subst, ◌∙◌, arith}
use Rattle.std.proofs.lemmas.List.{append-nil}
use Rattle.graph_core.specs.Traces.{inputs, Served}
use Rattle.otlp_json.specs.OutputLines.{output_lines}
use Rattle.pipeline.specs.Entries.{record_with, text_of}
use Rattle.pipeline.specs.Parts.{settings_of, network}
use Rattle.pipeline.proofs.StateKinds.{kinds_kept, as_many}
use Rattle.pipeline.proofs.Feeding.{record_none, record_one, one_fed}
use Rattle.pipeline.proofs.Pipeline.feed_entry.Goals as goal

pub returns-in_default-clause-fed : goal.returns-in_default-clause-fed
returns-in_default-clause-fed c = λ origin shared.
    let none = record_none (settings_of c.args.self.now) origin.path c.args.state.now.records c.args.token.now (rw c.in_default.is at c.in_ok-body.ensures.none) in
    record {
      made = [];
      served = subst (λ records. Served (network c.args.self.now) c.args.state.now.states.items [] (inputs (network c.args.self.now) records) c.args.state.now.states.items []) (sym none) (c.begin.ensures c.args.state.now.states.items []);
      records = refl;
      lines = omega arith;
      written = sym (append-nil c.args.out.now.items) ∙ ap (λ t. c.args.out.now.items ++ t) (sym (c.lines_append.ensures.none origin.id (c.args.state.now.lines + 1) origin.time));
    }

pub returns-clause-fed : goal.returns-clause-fed
returns-clause-fed c = λ origin shared.
    let settings = settings_of c.args.self.now in
    let text : c.in-Some.body ≡ text_of settings c.args.token.now = rw c.in-Some.is at c.in_ok-body.ensures.some in
    let some : 0 < length (text_of settings c.args.token.now) = rw c.in-Some.is at c.in_ok-body.ensures.not_empty in
    let entry = c.in_ok-entry.ensures origin shared ∙ ap (record_with settings origin.path (c.args.state.now.records + 1)) text in
    let net = network c.args.self.now in
    let records = c.args.state.now.records in
    let record_of_it = record_with settings origin.path (records + 1) (text_of settings c.args.token.now) in
    let item : c.in_ok-item.item ≡ record_of_it = c.in_ok-item.ensures.item ∙ entry in
    let pushed : Served net c.args.state.now.states.items [] (inputs net (c.in_ok-item.item ∷ [])) c.push_by.new.states.items c.push_by.new.out.items = rw c.next.ensures.made at c.in_ok-push_by.ensures.served in
    let written : c.append_lines.new.out.items ≡ c.args.out.now.items ++ output_lines origin.id (c.args.state.now.lines + 1) origin.time c.push_by.new.out.items = rw (c.deref.ensures.value, shared.scope, shared.observed) at c.in_ok-append_lines.ensures.written in
    let lines : c.append_lines.new.lines ≡ c.args.state.now.lines + length c.push_by.new.out.items = rw c.deref.ensures.value at c.in_ok-append_lines.ensures.lines in
    one_fed settings net origin c.args.token.now record_of_it c.push_by.new.out.items _ _ _ _
    (record_one settings origin.path records c.args.token.now some)
    (subst (λ i. Served net c.args.state.now.states.items [] (inputs net (i ∷ [])) c.push_by.new.states.items c.push_by.new.out.items) item pushed) refl lines written

pub returns-clause-states : goal.returns-clause-states
returns-clause-states c =
    let nodes = c.args.self.now.graph in
    let net = network c.args.self.now in
    rw (c.in_ok-push_by.ensures.served.states) (kinds_kept nodes c.args.state.now.states.items (inputs net (c.in_ok-item.item ∷ [])) c.requires.states)

pub push_by-requires-clause-states : goal.push_by-requires-clause-states
push_by-requires-clause-states c = as_many c.args.self.now.graph c.args.state.now.states.items c.requires.states
