use Rattle.std.proofs.Common.{refl, arith}
use Rattle.otlp_json.specs.Escaped.{escaped}
use Rattle.otlp_json.proofs.Appended.{front_kept}
use Rattle.otlp_json.proofs.Escapes.{splits_at, copied_round}
use Rattle.otlp_json.proofs.string.append_first.Goals as goal

pub append_escape-requires : goal.append_escape-requires
append_escape-requires c = (splits_at c.args.text.now c.args.first c.requires).here

pub returns-in_err-append_escape-clause-front : goal.returns-in_err-append_escape-clause-front
returns-in_err-append_escape-clause-front c =
    front_kept c.args.out.now.items c.extend_from_slice.new.self.items c.append_escape.new.out.items _ c.in_ok-extend_from_slice.ensures.items c.in_err-append_escape.ensures.front

pub returns-clause-ok : goal.returns-clause-ok
returns-clause-ok c =
    let text = c.args.text.now in
    let splits = splits_at text c.args.first c.requires in
    let within = splits.within in
    let now = c.args.out.now.items in (
      omega arith,
      omega arith,
      copied_round now now c.extend_from_slice.new.self.items c.append_escape.new.out.items (escaped text) text c.args.first splits refl c.in_ok-extend_from_slice.ensures.items c.in_ok-append_escape.ensures.ok,
    )
