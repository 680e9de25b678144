use Rattle.std.proofs.Common.{◌≡◌, ◌∙◌, sym, Some, None, Ok, Err}
use Rattle.std.proofs.lemmas.Result.{IfOk-weaker}
use Rattle.outside.proofs.Telling.{told_weaker}
use Rattle.outside.specs.Listing.{kind_at}
use Rattle.outside.specs.Opening.{Opens, OpensFile}
use Rattle.outside.specs.World.{names, History}
use Rattle.outside.specs.declared.tree.Kind.TheVariants.{Folder, File as PlainFile}
use Rattle.outside.specs.declared.tree.Opened.TheVariants.{File, Gone, NotAFile}
use Rattle.outside.specs.declared.fault.CallFault.TheVariants.{Failed, Memory}
use Rattle.file_pass.specs.Fed.{poll_of, rules_in}
use Rattle.file_pass.specs.Full.{overflow}
use Rattle.file_pass.specs.Moment.{meanings, moment, rows_at}
use Rattle.file_pass.specs.declared.ending.OpenFile.{OpenFile}
use Rattle.file_pass.specs.declared.ending.PathFile.{PathFile}
use Rattle.file_pass.specs.declared.taking.TheConstants.{BUFFER_SIZE}
use Rattle.file_pass.proofs.Flagging.{growth_none}
use Rattle.file_pass.proofs.Joining.{tree_opens, tree_file, takes_file, fills_file, takes_missed, takes_lost}
use Rattle.file_pass.proofs.taking.open_path.Goals as goal

pub returns-in-Ok-File-clause-ok : goal.returns-in-Ok-File-clause-ok
returns-in-Ok-File-clause-ok g c =
    let opened = rw c.in-Ok-File.field-0-is at c.in-Ok-File.ensures in
    let file : OpenFile = record { handle = c.in-Ok-File.handle; size = c.in-Ok-File.size } in
    let at : PathFile = record { path = c.args.path; file = file } in
    IfOk-weaker c.take_opened-found.result _ _ (λ found takes.
    takes_file (meanings g.T.Tree.meaning g.D.Disk.meaning) (poll_of c.args.setup.now) at c.requires.included c.args.tree.now (rows_at c.args.taking.now (moment c.open_file.new.self c.args.disk.now))
    (rows_at c.take_opened-found.new.taking (moment c.take_opened-found.new.tree c.take_opened-found.new.disk)) c.close.new.self
    (told_weaker (Opens c.args.path.now (Ok (File c.in-Ok-File.handle c.in-Ok-File.size))) (OpensFile c.args.path.now file.handle.0 file.size) (g.T.Tree.meaning.world c.args.tree.now) (g.T.Tree.meaning.world c.open_file.new.self) (λ x y o. o) (rw c.as_str.ensures at opened.history))
    c.close.ensures.history opened.cause c.close.ensures.cause
    found c.open_file.ensures.taken c.close.ensures.taken takes)
    c.take_opened-found.ensures.ok

pub returns-in-Ok-File-clause-full : goal.returns-in-Ok-File-clause-full
returns-in-Ok-File-clause-full g c = λ size is.
    let opened = rw c.in-Ok-File.field-0-is at c.in-Ok-File.ensures in
    let file : OpenFile = record { handle = c.in-Ok-File.handle; size = c.in-Ok-File.size } in
    let at : PathFile = record { path = c.args.path; file = file } in
    fills_file (meanings g.T.Tree.meaning g.D.Disk.meaning) (poll_of c.args.setup.now) at c.requires.included c.args.tree.now (rows_at c.args.taking.now (moment c.open_file.new.self c.args.disk.now))
    (rows_at c.take_opened-found.new.taking (moment c.take_opened-found.new.tree c.take_opened-found.new.disk)) c.close.new.self
    (told_weaker (Opens c.args.path.now (Ok (File c.in-Ok-File.handle c.in-Ok-File.size))) (OpensFile c.args.path.now file.handle.0 file.size) (g.T.Tree.meaning.world c.args.tree.now) (g.T.Tree.meaning.world c.open_file.new.self) (λ x y o. o) (rw c.as_str.ensures at opened.history))
    c.close.ensures.history opened.cause c.close.ensures.cause
    (overflow c.args.setup.now.limit c.args.taking.now.end size) (c.take_opened-found.ensures.full size is)

pub returns-in-Ok-File-clause-tree : goal.returns-in-Ok-File-clause-tree
returns-in-Ok-File-clause-tree g c =
    let opened = rw c.in-Ok-File.field-0-is at c.in-Ok-File.ensures in
    tree_file g.T.Tree.meaning BUFFER_SIZE c.as_str.result.now c.in-Ok-File.handle c.in-Ok-File.size c.args.tree.now c.open_file.new.self c.take_opened-found.new.tree c.close.new.self opened.history c.take_opened-found.ensures.tree c.close.ensures.history
    opened.cause c.close.ensures.cause
    (record { nameless = c.open_file.ensures.nameless; taken = c.open_file.ensures.taken; widest = c.open_file.ensures.widest; plan = c.open_file.ensures.plan; bound = c.open_file.ensures.bound })
    (record { nameless = c.close.ensures.nameless; taken = c.close.ensures.taken; widest = c.close.ensures.widest; plan = c.close.ensures.plan; bound = c.close.ensures.bound })

pub returns-in-Ok-Gone-clause-ok : goal.returns-in-Ok-Gone-clause-ok
returns-in-Ok-Gone-clause-ok g c =
    let opened = rw c.in-Ok-Gone.field-0-is at c.in-Ok-Gone.ensures in
    takes_lost (meanings g.T.Tree.meaning g.D.Disk.meaning) (poll_of c.args.setup.now) c.args.path.now (rows_at c.args.taking.now (moment c.args.tree.now c.args.disk.now)) c.open_file.new.self c.open_file.ensures.taken
    (λ (history : History). kind_at (names history) c.args.path.now ≡ None) (λ history none some. (let never : None ≡ Some PlainFile = sym none ∙ some in cc))
    (told_weaker (Opens c.args.path.now (Ok Gone)) _ (g.T.Tree.meaning.world c.args.tree.now) (g.T.Tree.meaning.world c.open_file.new.self) (λ x y o. o) (rw c.as_str.ensures at opened.history)) opened.cause

pub returns-in-Ok-NotAFile-clause-ok : goal.returns-in-Ok-NotAFile-clause-ok
returns-in-Ok-NotAFile-clause-ok g c =
    let opened = rw c.in-Ok-NotAFile.field-0-is at c.in-Ok-NotAFile.ensures in
    takes_lost (meanings g.T.Tree.meaning g.D.Disk.meaning) (poll_of c.args.setup.now) c.args.path.now (rows_at c.args.taking.now (moment c.args.tree.now c.args.disk.now)) c.open_file.new.self c.open_file.ensures.taken
    (λ (history : History). kind_at (names history) c.args.path.now ≡ Some Folder) (λ history folder some. (let never : Some Folder ≡ Some PlainFile = sym folder ∙ some in cc))
    (told_weaker (Opens c.args.path.now (Ok NotAFile)) _ (g.T.Tree.meaning.world c.args.tree.now) (g.T.Tree.meaning.world c.open_file.new.self) (λ x y o. o) (rw c.as_str.ensures at opened.history)) opened.cause

pub returns-in-Err-Failed-clause-ok : goal.returns-in-Err-Failed-clause-ok
returns-in-Err-Failed-clause-ok g c =
    let opened = rw c.in-Err-Failed.field-0-is at c.in-Err-Failed.ensures in
    takes_missed (meanings g.T.Tree.meaning g.D.Disk.meaning) (poll_of c.args.setup.now) c.args.path.now (rows_at c.args.taking.now (moment c.args.tree.now c.args.disk.now)) c.open_file.new.self c.open_file.ensures.taken
    (told_weaker (Opens c.args.path.now (Err Failed)) _ (g.T.Tree.meaning.world c.args.tree.now) (g.T.Tree.meaning.world c.open_file.new.self) (λ x y o. o) (rw c.as_str.ensures at opened.history)) opened.cause

pub returns-in-Ok-Gone-clause-tree : goal.returns-in-Ok-Gone-clause-tree
returns-in-Ok-Gone-clause-tree g c =
    let opened = rw c.in-Ok-Gone.field-0-is at c.in-Ok-Gone.ensures in
    tree_opens g.T.Tree.meaning BUFFER_SIZE c.as_str.result.now (Ok Gone) c.args.tree.now c.open_file.new.self (λ handle size is. let no : Ok Gone ≡ Ok (File handle size) = is in cc) opened.history opened.cause c.open_file.ensures.nameless c.open_file.ensures.taken c.open_file.ensures.widest c.open_file.ensures.plan c.open_file.ensures.bound

pub returns-in-Ok-NotAFile-clause-tree : goal.returns-in-Ok-NotAFile-clause-tree
returns-in-Ok-NotAFile-clause-tree g c =
    let opened = rw c.in-Ok-NotAFile.field-0-is at c.in-Ok-NotAFile.ensures in
    tree_opens g.T.Tree.meaning BUFFER_SIZE c.as_str.result.now (Ok NotAFile) c.args.tree.now c.open_file.new.self (λ handle size is. let no : Ok NotAFile ≡ Ok (File handle size) = is in cc) opened.history opened.cause c.open_file.ensures.nameless c.open_file.ensures.taken c.open_file.ensures.widest c.open_file.ensures.plan c.open_file.ensures.bound

pub returns-in-Err-Failed-clause-tree : goal.returns-in-Err-Failed-clause-tree
returns-in-Err-Failed-clause-tree g c =
    let opened = rw c.in-Err-Failed.field-0-is at c.in-Err-Failed.ensures in
    tree_opens g.T.Tree.meaning BUFFER_SIZE c.as_str.result.now (Err Failed) c.args.tree.now c.open_file.new.self (λ handle size is. let no : Err Failed ≡ Ok (File handle size) = is in cc) opened.history opened.cause c.open_file.ensures.nameless c.open_file.ensures.taken c.open_file.ensures.widest c.open_file.ensures.plan c.open_file.ensures.bound

pub returns-in-Err-Memory-clause-tree : goal.returns-in-Err-Memory-clause-tree
returns-in-Err-Memory-clause-tree g c =
    let opened = rw c.in-Err-Memory.field-0-is at c.in-Err-Memory.ensures in
    tree_opens g.T.Tree.meaning BUFFER_SIZE c.as_str.result.now (Err Memory) c.args.tree.now c.open_file.new.self (λ handle size is. let no : Err Memory ≡ Ok (File handle size) = is in cc) opened.history opened.cause c.open_file.ensures.nameless c.open_file.ensures.taken c.open_file.ensures.widest c.open_file.ensures.plan c.open_file.ensures.bound

pub returns-in-Ok-Gone-clause-flags : goal.returns-in-Ok-Gone-clause-flags
returns-in-Ok-Gone-clause-flags g c = growth_none (rules_in c.args.setup.now) c.args.taking.now.tracker c.args.taking.now.changed.items

pub returns-in-Ok-NotAFile-clause-flags : goal.returns-in-Ok-NotAFile-clause-flags
returns-in-Ok-NotAFile-clause-flags g c = growth_none (rules_in c.args.setup.now) c.args.taking.now.tracker c.args.taking.now.changed.items

pub returns-in-Err-Failed-clause-flags : goal.returns-in-Err-Failed-clause-flags
returns-in-Err-Failed-clause-flags g c = growth_none (rules_in c.args.setup.now) c.args.taking.now.tracker c.args.taking.now.changed.items
