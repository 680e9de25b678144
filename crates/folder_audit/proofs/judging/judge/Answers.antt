use Rattle.std.proofs.Common.{◌≡◌, ◌+◌, ◌-◌, ◌≤◌, ◌++◌, ℕ, List, length, take, drop, true, false, Some, sym, ap, subst, ◌∙◌, arith, length-drop}
use Rattle.std.specs.Prelude.{All, option_map, slice_get}
use Rattle.std.proofs.lemmas.List.{take_at, take_all}
use Rattle.std.proofs.lemmas.Option.{slice_get-get_or, slice_get-map}
use Rattle.outside.proofs.Telling.{told_same}
use Rattle.pipeline.specs.Parts.{settings_of}
use Rattle.pipeline.specs.declared.Pipeline.{Pipeline}
use Rattle.tree_walk.specs.Calls.{KeepsHandles}
use Rattle.folder_audit.specs.Judged.{pipes_of}
use Rattle.folder_audit.specs.KeptFiles.{texts_of}
use Rattle.folder_audit.proofs.JudgeLemmas.{SaysOf, read_found}
use Rattle.folder_audit.proofs.TriedLemmas.{judges_all, judges_none, judges_unfit}
use Rattle.folder_audit.proofs.judging.judge.Goals as goal

pub is_readable-requires : goal.is_readable-requires
is_readable-requires g c = (c.requires.fit.rows c.args.place c.row-row.result.now c.row-row.ensures).begun

pub overflow_sub-pipes : goal.overflow_sub-pipes
overflow_sub-pipes g c = (c.requires.fit.rows c.args.place c.row-row.result.now c.row-row.ensures).born

pub slice_bounds-pipes-count : goal.slice_bounds-pipes-count
slice_bounds-pipes-count g c =
    let fits = c.requires.fit.rows c.args.place c.row-row.result.now c.row-row.ensures in
    omega (arith, fits.born, fits.parts, ap length c.deref.ensures.value)

pub slice_bounds-pipes-start : goal.slice_bounds-pipes-start
slice_bounds-pipes-start g c =
    let fits = c.requires.fit.rows c.args.place c.row-row.result.now c.row-row.ensures in
    let within : c.row-row.result.now.born - 1 ≤ length c.deref.result.now = omega (arith, fits.born, fits.parts, ap length c.deref.ensures.value) in
    within

pub overflow_sub-last : goal.overflow_sub-last
overflow_sub-last g c =
    let fits = c.requires.fit.rows c.args.place c.row-row.result.now c.row-row.ensures in
    let yes = c.is_readable.ensures.yes c.if-not-is_readable.false in
    omega (arith, fits.begun, yes.0, c.last_place.ensures.past, c.min-last.ensures)

pub audit_row-requires-clause-parts : goal.audit_row-requires-clause-parts
audit_row-requires-clause-parts g c =
    let fits = c.requires.fit.rows c.args.place c.row-row.result.now c.row-row.ensures in
    let held = c.deref.result.now in
    let from = c.row-row.result.now.born - 1 in
    let behind : List Pipeline = drop from held in
    let whole : take (length held - from) behind ≡ behind = take_all (length held - from) behind (omega (arith, length-drop from held)) in
    omega (arith, ap length whole, length-drop from held, fits.born, fits.parts, ap length c.deref.ensures.value)

pub audit_row-requires-clause-order : goal.audit_row-requires-clause-order
audit_row-requires-clause-order g c = (c.requires.fit.rows c.args.place c.row-row.result.now c.row-row.ensures).order

pub returns-clause-ok : goal.returns-clause-ok
returns-clause-ok g c =
    let trees = g.T.Tree.meaning in
    let kept = c.args.kept.now in
    let row = c.row-row.result.now in
    let fits = c.requires.fit.rows c.args.place row c.row-row.ensures in
    let yes = c.is_readable.ensures.yes c.if-not-is_readable.false in
    let given = c.read_range.new.buffer in
    let held = c.in_ok-bytes.bytes.items in
    let many : length given ≡ length held = c.read_range.ensures.long ∙ ap length c.deref_mut.ensures.value in
    let whole : take c.in_ok-bytes.bytes.len (given ++ drop (length given) held) ≡ given = take_at given (drop (length given) held) c.in_ok-bytes.bytes.len (omega (arith, many, c.in_ok-bytes.bytes.ok.0)) in
    let bytes_are : c.deref-2.result.now ≡ given = c.deref-2.ensures.value ∙ whole in
    let pipes_are : take (length c.deref.result.now - (row.born - 1)) (drop (row.born - 1) c.deref.result.now) ≡ pipes_of kept.pipes.items row =
    take_all (length c.deref.result.now - (row.born - 1)) (drop (row.born - 1) c.deref.result.now) (omega (arith, length-drop (row.born - 1) c.deref.result.now)) ∙ ap (λ ps. drop (row.born - 1) ps) c.deref.ensures.value in
    let line_at : slice_get kept.lines.items c.args.place ≡ Some c.index.result.now =
    slice_get-get_or kept.lines.items c.args.place c.index.result.now (omega (arith, c.requires.within, c.requires.fit.many)) ∙ ap Some (sym c.index.ensures) in
    let text_at : slice_get (texts_of kept) c.args.place ≡ Some c.deref-3.result.now =
    slice_get-map (λ text. text.items) kept.lines.items c.args.place ∙ ap (option_map (λ text. text.items)) line_at ∙ ap Some (sym c.deref-3.ensures.value) in
    let says : SaysOf (pipes_of kept.pipes.items row) row given c.deref-3.result.now c.in_ok-verdict.verdict =
    subst (λ (ps : List Pipeline). SaysOf ps row given c.deref-3.result.now c.in_ok-verdict.verdict) pipes_are
    (subst (λ (b : List ℕ). SaysOf (take (length c.deref.result.now - (row.born - 1)) (drop (row.born - 1) c.deref.result.now)) row b c.deref-3.result.now c.in_ok-verdict.verdict) bytes_are c.in_ok-verdict.ensures) in
    let each : All (λ (pipe : Pipeline). row.offset + (settings_of pipe).max_log_size + 2 ≤ c.last_place.result) (pipes_of kept.pipes.items row) =
    subst (All (λ (pipe : Pipeline). row.offset + (settings_of pipe).max_log_size + 2 ≤ c.last_place.result)) pipes_are c.last_place.ensures.each in
    read_found kept c.args.file c.args.place row given c.deref-3.result.now c.in_ok-verdict.verdict c.of.result c.last_place.result c.min-last.result (trees.world c.args.tree.now) (trees.world c.read_range.new.tree)
    c.row-row.ensures fits.begun yes.0 c.last_place.ensures.past c.min-last.ensures each (omega (arith, many, c.in_ok-bytes.bytes.ok.0, c.in_ok-bytes.ensures.len)) text_at c.of.ensures says
    (c.read_range.ensures.range.given c.if-not-read_range.false)

pub returns-then-not-is_readable-clause-judges : goal.returns-then-not-is_readable-clause-judges
returns-then-not-is_readable-clause-judges g c =
    let trees = g.T.Tree.meaning in
    let none = c.is_readable.ensures.no in
    judges_unfit trees c.args.kept.now c.args.file c.args.place c.row-row.result.now c.row-row.ensures (λ x y. Unit {0}) c.args.tree.now c.args.tree.now
    (λ long small. let yes = none long small in let both : true ≡ false = sym yes ∙ c.if-not-is_readable.true in cc) (told_same (λ x y. Unit {0}) (trees.world c.args.tree.now) (λ world. tt))

pub returns-then-not-read_range-clause-judges : goal.returns-then-not-read_range-clause-judges
returns-then-not-read_range-clause-judges g c =
    let row = c.row-row.result.now in
    let fits = c.requires.fit.rows c.args.place row c.row-row.ensures in
    let yes = c.is_readable.ensures.yes c.if-not-is_readable.false in
    let given = c.read_range.new.buffer in
    let many : length given ≡ length c.in_ok-bytes.bytes.items = c.read_range.ensures.long ∙ ap length c.deref_mut.ensures.value in
    judges_none g.T.Tree.meaning c.args.kept.now c.args.file c.args.place row c.row-row.ensures (row.start + length given) c.args.tree.now c.read_range.new.tree
    (omega (arith, many, c.in_ok-bytes.bytes.ok.0, c.in_ok-bytes.ensures.len, fits.begun, yes.0, c.last_place.ensures.past, c.min-last.ensures)) (c.read_range.ensures.range.failed c.if-not-read_range.true)

pub returns-clause-judges : goal.returns-clause-judges
returns-clause-judges g c =
    judges_all g.T.Tree.meaning c.args.kept.now c.args.file c.args.place c.row-row.result.now c.row-row.ensures KeepsHandles c.in_ok-verdict.verdict c.of.result c.args.tree.now c.read_range.new.tree c.of.ensures c.read_range.ensures.range.goes_on.world
