use Rattle.std.proofs.Common.{◌≡◌, ◌++◌, ◌&&◌, [], ◌∷◌, List, Bool, map, length, arith, sym, ap, subst, ◌∙◌}
use Rattle.std.specs.Prelude.{MatchBool}
use Rattle.checkpoint_store.specs.Rules.{Rise, last_point}
use Rattle.file_tracker.specs.declared.ends.End.{End}
use Rattle.pipeline.specs.AsRules.{rules_of}
use Rattle.standing.specs.Closed.{Made, flagged}
use Rattle.standing.specs.Part.{first_point}
use Rattle.auditor.specs.Asked.{asked_from}
use Rattle.auditor.specs.Inner.Compared.{made_in}
use Rattle.auditor.specs.Inner.Whole.{AreWhole}
use Rattle.auditor.proofs.Gathering.{WholeSo, rise_within, first_of, only_one, none_left, asked_more, asked_last, whole_step, whole_last}
use Rattle.auditor.proofs.gathered.gather.Goals as goal
use Rattle.auditor.proofs.gathered.gather.Goals.{then-all_whole, else-all_whole, then-all_whole-2, else-all_whole-2}

pub closed_part-requires-clause-few : goal.closed_part-requires-clause-few
closed_part-requires-clause-few c =
    let within = rise_within c.closing.from c.closing.ends.now (last_point c.args.row.now) c.closing.invariant.rise in
    omega (arith, within.records, c.requires.order.records, c.requires.order.offset, c.requires.few)

pub closed_part-requires-clause-near : goal.closed_part-requires-clause-near
closed_part-requires-clause-near c =
    let within = rise_within c.closing.from c.closing.ends.now (last_point c.args.row.now) c.closing.invariant.rise in
    omega (arith, within.offset, c.closing.invariant.start, c.requires.order.offset, c.requires.few)

pub closing-preserved : goal.closing-preserved
closing-preserved c =
    let row = c.args.row.now in
    let from = c.closing.from in
    let pipe = c.index-left-0.result in
    let end = c.in-Some.end.now in
    let later = c.in-Some.later.now in
    let so_far = c.closing.invariant in
    let e : c.closing.ends.now ≡ end ∷ later = c.in-Some.ensures.cases.0 in
    let l : c.closing.left.now ≡ pipe ∷ c.others-left.result.now =
    first_of c.closing.left.now c.others-left.result.now pipe (omega (arith, so_far.many)) c.index-left-0.is c.others-left.ensures in
    let rise : Rise from (end ∷ later) (last_point row) = subst (λ (es : List End). Rise from es (last_point row)) e so_far.rise in
    let joined : c.if-all_whole.all_whole ≡ c.closing.all_whole && c.in_ok-part.part.is_whole =
    elim c.if-all_whole.branch [
      | then-all_whole w ↦ w.all_whole-is ∙ ap (λ (k : Bool). k && c.in_ok-part.part.is_whole) (sym w.if-all_whole.true)
      | else-all_whole w ↦ w.all_whole-is ∙ w.if-all_whole.false ∙ ap (λ (k : Bool). k && c.in_ok-part.part.is_whole) (sym w.if-all_whole.false)
    ] in
    record {
      many = omega (arith, so_far.many, ap length l, ap length e);
      start = omega (arith, so_far.start, rise.0.offset);
      rise = rise.1;
      items = λ before long.
          let content = before ++ c.args.bytes.now in
          let one = ap (λ (s : Bool). flagged s c.in_ok-part.part.items.items) c.stamps.ensures ∙ ap (flagged (rules_of [] pipe).stamps) (c.in_ok-part.ensures.items before long) in
          ap (λ (ms : List Made). ms ++ asked_from (map (rules_of []) c.others-left.result.now) content row end later) c.in_ok-add.ensures
          ∙ asked_more content row from c.closing.left.now c.others-left.result.now pipe c.closing.ends.now later end (made_in c.closing.items.items) _ _ l e one (so_far.items before long);
      whole = λ before long.
          let content = before ++ c.args.bytes.now in
          let All = AreWhole (map (rules_of []) c.args.pipes.now) content row (first_point row) row.ends in
          subst (λ (b : Bool). WholeSo b (AreWhole (map (rules_of []) c.others-left.result.now) content row end later) All) (sym joined)
          (whole_step content row from c.closing.left.now c.others-left.result.now pipe c.closing.ends.now later end c.closing.all_whole c.in_ok-part.part.is_whole All l e
          (c.in_ok-part.ensures.whole before long) (so_far.whole before long));
    }

pub returns-clause-items : goal.returns-clause-items
returns-clause-items c = λ before long.
    let row = c.args.row.now in
    let from = c.closing.from in
    let content = before ++ c.args.bytes.now in
    let pipe = c.index-left-0-2.result in
    let so_far = c.closing.invariant in
    let none : length c.closing.ends.now ≡ 0 = c.in_default.ensures.cases in
    let l : c.closing.left.now ≡ pipe ∷ [] = only_one c.closing.left.now pipe (omega (arith, so_far.many, none)) c.index-left-0-2.is in
    let one = ap (λ (s : Bool). flagged s c.in_ok-part-2.part.items.items) c.stamps-2.ensures ∙ ap (flagged (rules_of [] pipe).stamps) (c.in_ok-part-2.ensures.items before long) in
    c.in_ok-add-2.ensures
    ∙ asked_last content row from c.closing.left.now pipe c.closing.ends.now (made_in c.closing.items.items) _ _ l (none_left c.closing.ends.now none) one (so_far.items before long)

pub returns-clause-whole : goal.returns-clause-whole
returns-clause-whole c = λ before long.
    let row = c.args.row.now in
    let from = c.closing.from in
    let content = before ++ c.args.bytes.now in
    let pipe = c.index-left-0-2.result in
    let so_far = c.closing.invariant in
    let none : length c.closing.ends.now ≡ 0 = c.in_default.ensures.cases in
    let l : c.closing.left.now ≡ pipe ∷ [] = only_one c.closing.left.now pipe (omega (arith, so_far.many, none)) c.index-left-0-2.is in
    let All = AreWhole (map (rules_of []) c.args.pipes.now) content row (first_point row) row.ends in
    let joined : c.if-all_whole-2.result ≡ c.closing.all_whole && c.in_ok-part-2.part.is_whole =
    elim c.if-all_whole-2.branch [
      | then-all_whole-2 w ↦ w.result-is ∙ ap (λ (k : Bool). k && c.in_ok-part-2.part.is_whole) (sym w.if-all_whole-2.true)
      | else-all_whole-2 w ↦ w.result-is ∙ w.if-all_whole-2.false ∙ ap (λ (k : Bool). k && c.in_ok-part-2.part.is_whole) (sym w.if-all_whole-2.false)
    ] in
    subst (λ (b : Bool). MatchBool b All (All → ⊥)) (sym joined)
    (whole_last content row from c.closing.left.now pipe c.closing.ends.now c.closing.all_whole c.in_ok-part-2.part.is_whole All l (none_left c.closing.ends.now none)
    (c.in_ok-part-2.ensures.whole before long) (so_far.whole before long))
