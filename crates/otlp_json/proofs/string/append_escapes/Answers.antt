use Rattle.std.proofs.Common.{◌++◌, ◌∙◌, sym, ap}
use Rattle.std.proofs.lemmas.List.{take_rest}
use Rattle.otlp_json.proofs.Appended.{last_appended}
use Rattle.otlp_json.proofs.Escapes.{no_escapes}
use Rattle.otlp_json.proofs.string.append_escapes.Goals as goal

pub loop-at-init : goal.loop-at-init
loop-at-init c =
    simp take_rest (record {
      front = c.in_ok-rest.ensures.front;
      so_far = c.in_ok-rest.ensures.ok.2;
    })

pub returns-clause-ok : goal.returns-clause-ok
returns-clause-ok c =
    let now = c.loop-at.out.items in
    let rest = c.loop-at.rest.now in
    last_appended c.append_run.result now c.append_run.new.out.items rest _ c.append_run.ensures.ok (ap (λ bytes. now ++ bytes) (sym (no_escapes rest (sym c.in_default.ensures))) ∙ c.loop-at.invariant.so_far)
