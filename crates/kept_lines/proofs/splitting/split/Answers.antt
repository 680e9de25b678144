use Rattle.std.proofs.Common.{◌≡◌, ◌++◌, map, length, take, drop, arith}
use Rattle.std.proofs.lemmas.List.{take_rest, take_at}
use Rattle.kept_lines.proofs.Texts.{none_yet, one_line_on, all_texts}
use Rattle.kept_lines.proofs.splitting.split.Goals as goal

pub cutting-init : goal.cutting-init
cutting-init c = none_yet c.args.output.now c.args.count (map (λ text. text.items) c.in_ok-texts.texts.items) c.in_ok-texts.ensures

pub cutting-preserved : goal.cutting-preserved
cutting-preserved c =
    let after = c.add_line.new.texts in
    let before = c.cutting.texts.items in
    let many : length after ≡ c.cutting.texts.len = omega (arith, c.add_line.auto.texts, c.cutting.texts.ok.0) in
    let whole : take c.cutting.texts.len (after ++ drop (length after) before) ≡ after = take_at after (drop (length after) before) c.cutting.texts.len many in
    rw whole
    (one_line_on c.args.output.now c.cutting.rest.now _ _ c.args.count c.in-Some.length (map (λ text. text.items) before) (map (λ text. text.items) after) c.in_ok-whose.whose
    c.cutting.invariant c.in-Some.ensures.some (grind arith) (take_rest c.cutting.rest.now c.in-Some.length) c.in_ok-whose.ensures (rw c.deref_mut.ensures.value at c.in_ok-add_line.ensures))

pub returns : goal.returns
returns c = all_texts c.args.output.now c.cutting.rest.now c.args.count (map (λ text. text.items) c.cutting.texts.items) c.cutting.invariant c.in_default.ensures.none
