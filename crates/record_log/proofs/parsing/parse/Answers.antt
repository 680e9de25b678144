use Rattle.std.proofs.Common.{[], ◌+◌, ◌∙◌, subst}
use Rattle.std.proofs.lemmas.List.{append-nil}
use Rattle.std.specs.Prelude.{map}
use Rattle.record_log.proofs.Fronts.{payload_between}
use Rattle.record_log.proofs.Walks.{read_further}
use Rattle.record_log.specs.Records.{HasRecords, no_more}
use Rattle.record_log.proofs.parsing.parse.Goals as goal

pub loop-head-preserved : goal.loop-head-preserved
loop-head-preserved c =
    let bytes = c.args.bytes.now in
    let tail = c.loop-head.tail in
    let head = c.in-Some.head in
    let end = tail.end + 17 + head.length in
    let is = c.in-Some.ensures.some in
    record {
      within = c.in-Some.ensures.within;
      walked = λ more final newest behind.
          read_further (λ payload. payload.items) bytes 0 c.args.sequence tail.end tail.sequence head.sequence end tail.records.items c.push.new.self.items c.in_ok-payload.payload more final newest
          c.loop-head.invariant.walked is.0 is.1 is.2 (c.in_ok-payload.ensures.items_if_clones_equal (λ x y same. same) ∙ payload_between tail.end end bytes is.2) c.in_ok-push.ensures.items behind;
    }

pub returns-clause-records : goal.returns-clause-records
returns-clause-records c =
    let tail = c.loop-head.tail in
    subst (λ payloads. HasRecords c.args.bytes.now 0 c.args.sequence payloads tail.end tail.sequence) (append-nil (map (λ payload. payload.items) tail.records.items))
    (c.loop-head.invariant.walked [] tail.end tail.sequence (no_more tail.end tail.sequence c.in_default.ensures.none))
