use Rattle.std.proofs.Common.{◌∙◌}
use Rattle.mem_world.proofs.TreeListings.{within_yes, within_no}
use Rattle.mem_world.proofs.tree.listing.is_path_of.Goals as goal

pub returns-in-Some : goal.returns-in-Some
returns-in-Some c = c.eq.ensures ∙ within_yes c.args.folder.now c.args.path.now c.in-Some.rest.now c.args.name.now c.in-Some.ensures

pub returns-in-None : goal.returns-in-None
returns-in-None c = within_no c.args.folder.now c.args.path.now c.args.name.now c.in-None.ensures
