use Rattle.std.proofs.Common.{refl, arith}
use Rattle.std.proofs.lemmas.Result.{on_ok_weaker}
use Rattle.tree_walk.proofs.Entering.{enters_items, enters_gone, enters_failed}
use Rattle.tree_walk.proofs.Lasting.{lasts_list}
use Rattle.tree_walk.proofs.Once.{told_one}
use Rattle.tree_walk.specs.declared.findings.Findings.{Findings}
use Rattle.tree_walk.proofs.folder.list_folder.Goals as goal

pub returns-in-Ok-Items-clause-ok : goal.returns-in-Ok-Items-clause-ok
returns-in-Ok-Items-clause-ok g c =
    let before : Findings = c.args.found.now in
    let mid : Findings = record { paths = before.paths; folders = before.folders; failed = c.saturating_add-found.result } in
    let ensured = rw c.in-Ok-Items.field-0-is at c.in-Ok-Items.ensures in
    on_ok_weaker c.take_items.result
    (λ takes.
    enters_items g.T.Tree.meaning c.args.globs.now.include.now c.args.globs.now.exclude.now c.args.folder.now before c.take_items.new.found c.args.tree.now c.list.new.self c.in-Ok-Items.items c.in-Ok-Items.unnamed mid refl refl
    (omega (arith, c.saturating_add-found.ensures)) takes ensured.cause ensured.nameless ensured.history)
    (rw c.deref.ensures.value at c.take_items.ensures)

pub returns-in-Ok-Items-clause-lasts : goal.returns-in-Ok-Items-clause-lasts
returns-in-Ok-Items-clause-lasts g c =
    lasts_list g.T.Tree.meaning c.args.folder.now c.list.result c.args.tree.now c.list.new.self c.list.ensures.history c.list.ensures.cause c.list.ensures.nameless c.list.ensures.taken c.list.ensures.widest c.list.ensures.plan c.list.ensures.bound

pub returns-in-Ok-Gone-clause-ok : goal.returns-in-Ok-Gone-clause-ok
returns-in-Ok-Gone-clause-ok g c =
    let ensured = rw c.in-Ok-Gone.field-0-is at c.in-Ok-Gone.ensures in
    enters_gone g.T.Tree.meaning c.args.globs.now.include.now c.args.globs.now.exclude.now c.args.folder.now c.args.found.now c.args.found.now c.args.tree.now c.list.new.self refl ensured.cause ensured.nameless ensured.history

pub returns-in-Ok-Gone-clause-lasts : goal.returns-in-Ok-Gone-clause-lasts
returns-in-Ok-Gone-clause-lasts g c =
    lasts_list g.T.Tree.meaning c.args.folder.now c.list.result c.args.tree.now c.list.new.self c.list.ensures.history c.list.ensures.cause c.list.ensures.nameless c.list.ensures.taken c.list.ensures.widest c.list.ensures.plan c.list.ensures.bound

pub returns-in-Err-Failed-clause-ok : goal.returns-in-Err-Failed-clause-ok
returns-in-Err-Failed-clause-ok g c =
    let before : Findings = c.args.found.now in
    let after : Findings = record { paths = before.paths; folders = before.folders; failed = c.saturating_add-found-in-Err-Failed.result } in
    let ensured = rw c.in-Err-Failed.field-0-is at c.in-Err-Failed.ensures in
    enters_failed g.T.Tree.meaning c.args.globs.now.include.now c.args.globs.now.exclude.now c.args.folder.now before after c.args.tree.now c.list.new.self refl refl
    (omega (arith, c.saturating_add-found-in-Err-Failed.ensures)) ensured.cause.1 ensured.nameless ensured.history

pub returns-in-Err-Failed-clause-lasts : goal.returns-in-Err-Failed-clause-lasts
returns-in-Err-Failed-clause-lasts g c =
    lasts_list g.T.Tree.meaning c.args.folder.now c.list.result c.args.tree.now c.list.new.self c.list.ensures.history c.list.ensures.cause c.list.ensures.nameless c.list.ensures.taken c.list.ensures.widest c.list.ensures.plan c.list.ensures.bound

pub returns-in-Ok-Items-clause-lists : goal.returns-in-Ok-Items-clause-lists
returns-in-Ok-Items-clause-lists g c = told_one c.args.folder.now c.list.result (g.T.Tree.meaning.listed c.args.tree.now) (g.T.Tree.meaning.listed c.list.new.self) c.list.ensures.listed

pub returns-in-Ok-Gone-clause-lists : goal.returns-in-Ok-Gone-clause-lists
returns-in-Ok-Gone-clause-lists g c = told_one c.args.folder.now c.list.result (g.T.Tree.meaning.listed c.args.tree.now) (g.T.Tree.meaning.listed c.list.new.self) c.list.ensures.listed

pub returns-in-Err-Failed-clause-lists : goal.returns-in-Err-Failed-clause-lists
returns-in-Err-Failed-clause-lists g c = told_one c.args.folder.now c.list.result (g.T.Tree.meaning.listed c.args.tree.now) (g.T.Tree.meaning.listed c.list.new.self) c.list.ensures.listed

pub returns-in-Err-Memory-clause-lists : goal.returns-in-Err-Memory-clause-lists
returns-in-Err-Memory-clause-lists g c = told_one c.args.folder.now c.list.result (g.T.Tree.meaning.listed c.args.tree.now) (g.T.Tree.meaning.listed c.list.new.self) c.list.ensures.listed
