use Rattle.std.proofs.Common.{◌≡◌, [], ◌∷◌, ap, sym, ◌∙◌}
use Rattle.op_kinds.specs.ParserView.{AreKeysOf}
use Rattle.op_kinds.specs.Readings.{Answers, pattern, names, parser_readings}
use Rattle.op_kinds.specs.Said.{by_pattern}
use Rattle.op_kinds.proofs.Readings.{both_answer, both_made}
use Rattle.op_kinds.proofs.types.regex_parsing.compile.Goals as goal

pub returns-in-Ok-clause-ok : goal.returns-in-Ok-clause-ok
returns-in-Ok-clause-ok c =
    let made = both_made c.pattern.result c.keys_of.result c.in-Ok.op c.in-Ok.keys (sym c.both.ensures ∙ c.in-Ok.is) in
    let source : c.in-Ok.op ≡ c.args.regex.now = rw made.0 at c.pattern.ensures.is in
    let keys : AreKeysOf c.args.keys.now c.in-Ok.keys = rw made.1 at c.keys_of.ensures.ok in
    record { reader_is = ap by_pattern source; from = keys.from; to = keys.to; timestamp = keys.timestamp; severity = keys.severity }

pub returns-in-Ok-clause-answers : goal.returns-in-Ok-clause-answers
returns-in-Ok-clause-answers c =
    let regex = c.args.regex.now in
    let all : Answers (pattern regex ∷ names regex ∷ parser_readings c.args.keys.now) c.both.result = rw c.both.ensures
    (both_answer (pattern regex ∷ names regex ∷ []) (parser_readings c.args.keys.now) c.pattern.result c.keys_of.result c.pattern.ensures.answers c.keys_of.ensures.answers) in
    rw c.in-Ok.is at all

pub returns-in-Err-clause-answers : goal.returns-in-Err-clause-answers
returns-in-Err-clause-answers c =
    let regex = c.args.regex.now in
    let all : Answers (pattern regex ∷ names regex ∷ parser_readings c.args.keys.now) c.both.result = rw c.both.ensures
    (both_answer (pattern regex ∷ names regex ∷ []) (parser_readings c.args.keys.now) c.pattern.result c.keys_of.result c.pattern.ensures.answers c.keys_of.ensures.answers) in
    rw c.in-Err.is at all
