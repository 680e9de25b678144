use Rattle.std.proofs.Common.{◌<◌, ◌≤◌, ◌++◌, ◌∙◌, ℕ, pos, List, sym, ap, subst, codes, length}
use Rattle.std.proofs.lemmas.Result.{IfOk-weaker, IfErr-weaker}
use Rattle.entry_model.proofs.Places.{stands_within, fits_within}
use Rattle.entry_model.specs.Datum.{int}
use Rattle.entry_model.specs.Places.{StandsAt, FitsAt}
use Rattle.entry_model.specs.declared.value.Value.{Value}
use Rattle.otlp_json.proofs.Templates.{with_place}
use Rattle.otlp_json.proofs.template.append_numbered.Goals as goal

pub around-requires-clause-found : goal.around-requires-clause-found
around-requires-clause-found c =
    let es = c.args.attributes.now.entries in
    let name = c.args.name.now in
    IfOk-weaker c.place.result (StandsAt name es) (λ at. at < length c.members.result.now)
    (λ at stands. subst (λ (ms : List (List ℕ × Value)). at < length ms) (sym c.members.ensures.members) (stands_within name es at stands)) c.place.ensures.found

pub around-requires-clause-missing : goal.around-requires-clause-missing
around-requires-clause-missing c =
    let es = c.args.attributes.now.entries in
    let name = c.args.name.now in
    IfErr-weaker c.place.result (FitsAt name es) (λ at. at ≤ length c.members.result.now)
    (λ at fits. subst (λ (ms : List (List ℕ × Value)). at ≤ length ms) (sym c.members.ensures.members) (fits_within name es at fits)) c.place.ensures.missing

pub returns : goal.returns
returns c =
    let es = c.args.attributes.now.entries in
    let name = c.args.name.now in
    let ahead = c.around.result.0.now in
    let rest = c.around.result.1.now in
    IfOk-weaker c.append_around.result _ _
    (λ behind written n. written n ∙ ap (λ t. c.args.front.now.items ++ t ++ codes "],\"body\":{\"stringValue\":\"")
    (sym (with_place name (int (pos n)) c.place.result es c.members.result.now ahead rest c.members.ensures.members c.place.ensures.found c.place.ensures.missing c.around.ensures.found c.around.ensures.missing)))
    c.append_around.ensures
