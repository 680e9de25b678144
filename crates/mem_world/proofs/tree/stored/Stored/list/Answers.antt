use Rattle.std.proofs.Common.{◌≡◌, ap, subst, ◌∙◌}
use Rattle.std.proofs.lemmas.Result.{IfOk-weaker}
use Rattle.outside.specs.World.{Names, names}
use Rattle.outside.specs.Listing.{IsListing}
use Rattle.mem_world.specs.TreeListing.{ListsNames}
use Rattle.mem_world.specs.TreeNames.{names_of}
use Rattle.mem_world.specs.TreeRoom.{StoredWorld}
use Rattle.mem_world.proofs.TreeListings.{listing_of}
use Rattle.mem_world.proofs.tree.stored.Stored.list.Goals as goal

pub returns : goal.returns
returns c =
    let same : names_of c.self.inside.names.items ≡ names c.args.self.now.history = c.self.invariant.names_kept ∙ ap (λ (w : StoredWorld). names w.history) c.self.view_is in
    IfOk-weaker c.list.result (λ items. ListsNames c.args.folder.now items.items (names_of c.self.inside.names.items)) (λ items. IsListing c.args.folder.now items.items c.args.self.now.history)
    (λ items lists. listing_of c.args.folder.now items.items c.args.self.now.history c.requires (let P : Names → Type 0 = λ ns. ListsNames c.args.folder.now items.items ns in subst P same lists)) c.list.ensures
