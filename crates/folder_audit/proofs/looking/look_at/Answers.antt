use Rattle.std.proofs.Common.{◌≡◌, None, Some, Ok, Err, sym, ◌∙◌}
use Rattle.std.proofs.lemmas.Result.{IfOk-weaker}
use Rattle.outside.specs.Listing.{kind_at}
use Rattle.outside.specs.Opening.{Opens}
use Rattle.outside.specs.World.{names}
use Rattle.outside.specs.declared.fault.CallFault.TheVariants.{Failed, Memory}
use Rattle.outside.specs.declared.tree.Kind.TheVariants.{Folder, File as PlainFile}
use Rattle.outside.specs.declared.tree.Opened.TheVariants.{Gone, NotAFile}
use Rattle.folder_audit.specs.Inner.Tried.{FindsPath, IsOf}
use Rattle.folder_audit.specs.declared.judging.OpenFile.{OpenFile}
use Rattle.folder_audit.proofs.OpenLemmas.{goes_opened, goes_unopened, one_open}
use Rattle.folder_audit.proofs.TriedLemmas.{finds_no_file, finds_opened}
use Rattle.folder_audit.proofs.UnlessLemmas.{unless_rose}
use Rattle.folder_audit.proofs.looking.look_at.Goals as goal

pub returns-in-Ok-File-clause-ok : goal.returns-in-Ok-File-clause-ok
returns-in-Ok-File-clause-ok g c =
    let trees = g.T.Tree.meaning in
    let opened = rw c.in-Ok-File.field-0-is at c.in-Ok-File.ensures in
    let file : OpenFile = record { handle = c.in-Ok-File.handle; size = c.in-Ok-File.size } in
    IfOk-weaker c.judge_file-judged.result _ _ (λ judged. one_open trees c.args.kept.now c.args.path.now c.requires.included file judged c.args.tree.now c.open_file.new.self c.judge_file-judged.new.tree c.close.new.self
    opened.history c.judge_file-judged.ensures.tree.world c.close.ensures.history) c.judge_file-judged.ensures.ok

pub returns-in-Ok-File-clause-finds : goal.returns-in-Ok-File-clause-finds
returns-in-Ok-File-clause-finds g c =
    let trees = g.T.Tree.meaning in
    let opened = rw c.in-Ok-File.field-0-is at c.in-Ok-File.ensures in
    let file : OpenFile = record { handle = c.in-Ok-File.handle; size = c.in-Ok-File.size } in
    IfOk-weaker c.judge_file-judged.result _ _ (λ judged finds. finds_opened trees c.args.kept.now file c.args.path.now judged c.args.tree.now c.open_file.new.self c.judge_file-judged.new.tree c.close.new.self
    opened.history opened.cause c.judge_file-judged.ensures.tree finds c.close.ensures.history c.close.ensures.cause) c.judge_file-judged.ensures.finds

pub returns-in-Ok-Gone-clause-finds : goal.returns-in-Ok-Gone-clause-finds
returns-in-Ok-Gone-clause-finds g c =
    let opened = rw c.in-Ok-Gone.field-0-is at c.in-Ok-Gone.ensures in
    finds_no_file g.T.Tree.meaning c.args.kept.now c.args.path.now (λ history. kind_at (names history) c.args.path.now ≡ None) c.args.tree.now c.open_file.new.self
    (λ history is none. let never : None ≡ Some PlainFile = sym none ∙ is in cc) opened.history

pub returns-in-Ok-NotAFile-clause-finds : goal.returns-in-Ok-NotAFile-clause-finds
returns-in-Ok-NotAFile-clause-finds g c =
    let opened = rw c.in-Ok-NotAFile.field-0-is at c.in-Ok-NotAFile.ensures in
    finds_no_file g.T.Tree.meaning c.args.kept.now c.args.path.now (λ history. kind_at (names history) c.args.path.now ≡ Some Folder) c.args.tree.now c.open_file.new.self
    (λ history is folder. let never : Some Folder ≡ Some PlainFile = sym folder ∙ is in cc) opened.history

pub returns-in-Err-Failed-clause-finds : goal.returns-in-Err-Failed-clause-finds
returns-in-Err-Failed-clause-finds g c =
    let opened = rw c.in-Err-Failed.field-0-is at c.in-Err-Failed.ensures in
    unless_rose g.T.Tree.meaning (Opens c.args.path.now (Err Failed)) (FindsPath c.args.kept.now (IsOf None) c.args.path.now) c.args.tree.now c.open_file.new.self opened.cause.1 opened.history

pub returns-in-Ok-File-clause-tree : goal.returns-in-Ok-File-clause-tree
returns-in-Ok-File-clause-tree g c =
    let trees = g.T.Tree.meaning in
    let opened = rw c.in-Ok-File.field-0-is at c.in-Ok-File.ensures in
    let file : OpenFile = record { handle = c.in-Ok-File.handle; size = c.in-Ok-File.size } in
    goes_opened trees c.args.path.now file c.args.tree.now c.open_file.new.self c.judge_file-judged.new.tree c.close.new.self opened.history opened.cause c.judge_file-judged.ensures.tree c.close.ensures.history c.close.ensures.cause

pub returns-in-Ok-Gone-clause-tree : goal.returns-in-Ok-Gone-clause-tree
returns-in-Ok-Gone-clause-tree g c = let opened = rw c.in-Ok-Gone.field-0-is at c.in-Ok-Gone.ensures in goes_unopened g.T.Tree.meaning c.args.path.now (Ok Gone) c.args.tree.now c.open_file.new.self (λ f is. cc) opened.history opened.cause

pub returns-in-Ok-NotAFile-clause-tree : goal.returns-in-Ok-NotAFile-clause-tree
returns-in-Ok-NotAFile-clause-tree g c = let opened = rw c.in-Ok-NotAFile.field-0-is at c.in-Ok-NotAFile.ensures in goes_unopened g.T.Tree.meaning c.args.path.now (Ok NotAFile) c.args.tree.now c.open_file.new.self (λ f is. cc) opened.history opened.cause

pub returns-in-Err-Failed-clause-tree : goal.returns-in-Err-Failed-clause-tree
returns-in-Err-Failed-clause-tree g c = let opened = rw c.in-Err-Failed.field-0-is at c.in-Err-Failed.ensures in goes_unopened g.T.Tree.meaning c.args.path.now (Err Failed) c.args.tree.now c.open_file.new.self (λ f is. cc) opened.history opened.cause

pub returns-in-Err-Memory-clause-tree : goal.returns-in-Err-Memory-clause-tree
returns-in-Err-Memory-clause-tree g c = let opened = rw c.in-Err-Memory.field-0-is at c.in-Err-Memory.ensures in goes_unopened g.T.Tree.meaning c.args.path.now (Err Memory) c.args.tree.now c.open_file.new.self (λ f is. cc) opened.history opened.cause
