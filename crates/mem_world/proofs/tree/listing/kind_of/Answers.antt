use Rattle.std.proofs.Common.{sym, ◌∙◌}
use Rattle.outside.specs.Listing.{path_within}
use Rattle.mem_world.specs.TreeNames.{names_of}
use Rattle.mem_world.proofs.TreeListings.{kind_file, kind_other}
use Rattle.mem_world.proofs.tree.listing.kind_of.Goals as goal

pub returns-then-is_file : goal.returns-then-is_file
returns-then-is_file c = λ kind told.
    kind_file (names_of c.args.names.now.items) (path_within c.args.folder.now c.args.name.now) kind (sym c.is_file.ensures ∙ c.if-is_file.true) told

pub returns-else-is_file : goal.returns-else-is_file
returns-else-is_file c = λ kind told.
    kind_other (names_of c.args.names.now.items) (path_within c.args.folder.now c.args.name.now) kind (sym c.is_file.ensures ∙ c.if-is_file.false) told
