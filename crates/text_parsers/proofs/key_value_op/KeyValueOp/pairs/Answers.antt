use Rattle.std.proofs.Common.{ℕ, List, ◌+◌, ◌∙◌, ap, sym, subst, length, length-drop, arith}
use Rattle.std.proofs.lemmas.Bool.{false≢true}
use Rattle.entry_model.specs.Datum.{members_of}
use Rattle.entry_model.specs.Seen.{seen}
use Rattle.entry_model.specs.declared.value.Value.{Value}
use Rattle.text_parsers.specs.Pairs.{IsPairsText, no_memory, unclosed}
use Rattle.text_parsers.proofs.Ends.{front_is}
use Rattle.text_parsers.proofs.Taking.{nothing_read, or_memory}
use Rattle.text_parsers.proofs.Reading.{read_more, fault_in_piece, fault_at_end, none_at_all, all_pairs}
use Rattle.text_parsers.proofs.key_value_op.KeyValueOp.pairs.Goals as goal

pub returns-in-Some-clause-fault : goal.returns-in-Some-clause-fault
returns-in-Some-clause-fault c = unclosed c.in-Some.ensures.unclosed

pub pieces-init : goal.pieces-init
pieces-init c = record {
  utf8 = c.utf8.text;
  size = omega arith;
  read = nothing_read c.args.self.now c.args.text.now (seen c.new-members.result.entries) (ap seen c.new-members.ensures);
}

pub returns-in-Err-clause-fault : goal.returns-in-Err-clause-fault
returns-in-Err-clause-fault c =
    or_memory c.args.self.now c.args.text.now c.in-Err.fault
    (λ apart. fault_in_piece c.args.self.now c.self.inside.within c.self.inside.between c.self.view_is c.args.text.now c.pieces.rest.now c.pieces.at (seen c.pieces.members.entries) c.pieces.invariant.read
    c.in-Some-first_cut.cut c.in-Some-first_cut.ensures.cut c.range.result.now (front_is c.in-Some-first_cut.cut c.pieces.rest.now c.range.result.now c.range.ensures.value) c.in_default.ensures.closed c.in-Err.fault c.in-Some-first_cut.ensures.some (c.in-Err.ensures.fault apart))

pub pieces-preserved : goal.pieces-preserved
pieces-preserved c =
    let lengths = ap length c.range_from-rest.ensures.value ∙ length-drop (c.in-Some-first_cut.cut + c.len.result) c.pieces.rest.now in
    let fits = c.range_from-rest.ensures.len in
    let size = c.pieces.invariant.size in
    let behind = c.in-Some-first_cut.ensures.behind in
    let within = behind.0 in
    let len = c.len.ensures.len in
    record {
      utf8 = c.range_from-rest.utf8;
      size = omega arith;
      read = read_more c.args.self.now c.self.inside.within c.self.inside.between c.self.view_is c.args.text.now c.pieces.rest.now c.pieces.at (seen c.pieces.members.entries) c.pieces.invariant.read
          c.in-Some-first_cut.cut c.in-Some-first_cut.ensures.cut c.range.result.now (front_is c.in-Some-first_cut.cut c.pieces.rest.now c.range.result.now c.range.ensures.value)
          (seen c.take_piece.new.members.entries) c.in_default-take_piece.ensures.ok c.len.result c.len.ensures.len c.range_from-rest.result.now c.range_from-rest.ensures.value;
    }

pub returns-in-Err-take_piece-clause-fault : goal.returns-in-Err-take_piece-clause-fault
returns-in-Err-take_piece-clause-fault c =
    or_memory c.args.self.now c.args.text.now c.in-Err-take_piece.fault
    (λ apart. fault_at_end c.args.self.now c.self.inside.within c.self.inside.between c.self.view_is c.args.text.now c.pieces.rest.now c.pieces.at (seen c.pieces.members.entries) c.pieces.invariant.read
    c.in_default-first_cut.ensures.uncut c.in_default.ensures.closed c.in-Err-take_piece.fault (c.in-Err-take_piece.ensures.fault apart))

pub returns-then-is_empty-clause-fault : goal.returns-then-is_empty-clause-fault
returns-then-is_empty-clause-fault c =
    none_at_all c.args.self.now c.self.inside.within c.self.inside.between c.self.view_is c.args.text.now c.pieces.rest.now c.pieces.at (seen c.pieces.members.entries) c.pieces.invariant.read
    c.in_default-first_cut.ensures.uncut c.in_default.ensures.closed c.take_piece-2.new.members.entries c.in_default-take_piece-2.ensures.ok
    (c.is_empty.ensures.0 c.if-is_empty.true)

pub returns-in-Ok-clause-ok : goal.returns-in-Ok-clause-ok
returns-in-Ok-clause-ok c =
    subst (λ (es : List (List ℕ × Value)). IsPairsText c.args.self.now (members_of (seen es)) c.args.text.now) (sym c.in-Ok.ensures)
    (all_pairs c.args.self.now c.self.inside.within c.self.inside.between c.self.view_is c.args.text.now c.pieces.rest.now c.pieces.at (seen c.pieces.members.entries) c.pieces.invariant.read
    c.in_default-first_cut.ensures.uncut c.in_default.ensures.closed c.take_piece-2.new.members.entries c.in_default-take_piece-2.ensures.ok
    (λ e. false≢true (sym c.if-is_empty.false ∙ c.is_empty.ensures.1 e)))

pub returns-in-Err-finish-clause-fault : goal.returns-in-Err-finish-clause-fault
returns-in-Err-finish-clause-fault c = no_memory
