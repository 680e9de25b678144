use Rattle.std.proofs.Common.{◌∙◌}
use Rattle.container_parser.proofs.Streams.{out_is, err_is, out_behind, err_behind, out_cut, err_cut, neither_is}
use Rattle.container_parser.proofs.stream.stream_of.Goals as goal

pub returns-then-out-eq7-clause-ok : goal.returns-then-out-eq7-clause-ok
returns-then-out-eq7-clause-ok c = out_is c.args.text.now c.as_bytes-bytes.result.now c.common-out.result c.as_bytes-bytes.ensures.value c.common-out.ensures c.if-out-eq7.true

pub returns-then-err-eq7-clause-ok : goal.returns-then-err-eq7-clause-ok
returns-then-err-eq7-clause-ok c = err_is c.args.text.now c.as_bytes-bytes.result.now c.common-err.result c.as_bytes-bytes.ensures.value c.common-err.ensures c.if-err-eq7.true

pub returns-clause-fault : goal.returns-clause-fault
returns-clause-fault c =
    neither_is c.args.text.now c.as_bytes-bytes.result.now c.common-out.result c.common-err.result c.max.result c.as_bytes-bytes.ensures.value
    c.common-out.ensures c.common-err.ensures c.if-out-eq7.false c.if-err-eq7.false c.max.ensures

pub returns-then-out-eq7-clause-behind : goal.returns-then-out-eq7-clause-behind
returns-then-out-eq7-clause-behind c =
    c.range_from.ensures.value ∙ out_behind c.args.text.now c.as_bytes-bytes.result.now c.common-out.result c.as_bytes-bytes.ensures.value c.common-out.ensures c.if-out-eq7.true

pub returns-then-err-eq7-clause-behind : goal.returns-then-err-eq7-clause-behind
returns-then-err-eq7-clause-behind c =
    c.range_from-then-err-eq7.ensures.value ∙ err_behind c.args.text.now c.as_bytes-bytes.result.now c.common-err.result c.as_bytes-bytes.ensures.value c.common-err.ensures c.if-err-eq7.true

pub range_from-requires : goal.range_from-requires
range_from-requires c = λ _. out_cut c.args.text.now c.as_bytes-bytes.result.now c.common-out.result c.utf8.text c.as_bytes-bytes.ensures.value c.common-out.ensures c.if-out-eq7.true

pub range_from-requires-then-err-eq7 : goal.range_from-requires-then-err-eq7
range_from-requires-then-err-eq7 c = λ _. err_cut c.args.text.now c.as_bytes-bytes.result.now c.common-err.result c.utf8.text c.as_bytes-bytes.ensures.value c.common-err.ensures c.if-err-eq7.true
