use Rattle.std.proofs.Common.{[], ◌∷◌, ◌++◌}
use Rattle.op_kinds.specs.Readings.{Answers, path, parser_readings, time_readings, severity_readings}
use Rattle.op_kinds.proofs.Readings.{both_answer, two_paths_answer}
use Rattle.op_kinds.proofs.parser_keys.keys_of.Goals as goal

pub returns-in-Ok-clause-answers : goal.returns-in-Ok-clause-answers
returns-in-Ok-clause-answers c =
    let keys = c.args.keys.now in
    let all : Answers (parser_readings keys) c.both.result = rw (c.both.ensures, c.both-stamps.ensures)
    (both_answer (path keys.parse_from ∷ path keys.parse_to ∷ []) (time_readings keys.timestamp ++ severity_readings keys.severity) c.two_paths-paths.result _
    (two_paths_answer keys.parse_from keys.parse_to c.two_paths-paths.result c.two_paths-paths.ensures.ok c.two_paths-paths.ensures.cause)
    (both_answer (time_readings keys.timestamp) (severity_readings keys.severity) c.time_op.result c.severity_op.result c.time_op.ensures.answers c.severity_op.ensures.answers)) in
    rw c.in-Ok.is at all

pub returns-in-Err-clause-answers : goal.returns-in-Err-clause-answers
returns-in-Err-clause-answers c =
    let keys = c.args.keys.now in
    let all : Answers (parser_readings keys) c.both.result = rw (c.both.ensures, c.both-stamps.ensures)
    (both_answer (path keys.parse_from ∷ path keys.parse_to ∷ []) (time_readings keys.timestamp ++ severity_readings keys.severity) c.two_paths-paths.result _
    (two_paths_answer keys.parse_from keys.parse_to c.two_paths-paths.result c.two_paths-paths.ensures.ok c.two_paths-paths.ensures.cause)
    (both_answer (time_readings keys.timestamp) (severity_readings keys.severity) c.time_op.result c.severity_op.result c.time_op.ensures.answers c.severity_op.ensures.answers)) in
    rw c.in-Err.is at all
