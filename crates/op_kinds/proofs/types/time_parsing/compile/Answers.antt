use Rattle.std.proofs.Common.{[], ◌∷◌, sym, ◌∙◌, subst}
use Rattle.op_kinds.specs.Readings.{Answers, path, layout_reading}
use Rattle.op_kinds.proofs.Readings.{both_answer, path_answers}
use Rattle.op_kinds.proofs.types.time_parsing.compile.Goals as goal

pub returns-in-Err-clause-answers : goal.returns-in-Err-clause-answers
returns-in-Err-clause-answers c =
    let spec = c.args.spec.now in
    subst (Answers (path spec.parse_from ∷ layout_reading spec.layout_type spec.layout ∷ [])) (sym c.both.ensures ∙ c.in-Err.is)
    (both_answer (path spec.parse_from ∷ []) (layout_reading spec.layout_type spec.layout ∷ []) c.path.result c.time_kind.result
    (path_answers spec.parse_from c.path.result c.path.ensures.ok c.path.ensures.cause) c.time_kind.ensures.answers)
