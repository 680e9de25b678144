use Rattle.std.proofs.Common.{◌≡◌, refl, ◌∙◌, ap, sym, subst, List, ℕ}
use Rattle.outside.specs.declared.tree.Kind.TheVariants.{File, Folder}
use Rattle.outside.specs.Listing.{path_within}
use Rattle.tree_walk.proofs.Entering.{took, left_out}
use Rattle.standing.specs.Included.{IsIncluded}
use Rattle.tree_walk.specs.Starts.{MayHold}
use Rattle.tree_walk.proofs.folder.take_item.Goals as goal

pub returns-in_ok-push-in-File : goal.returns-in_ok-push-in-File
returns-in_ok-push-in-File c =
    let include = c.args.globs.now.include.now in
    let exclude = c.args.globs.now.exclude.now in
    let path : List ℕ = c.in_ok-new-in-File.field-0 in
    let is : path ≡ path_within c.args.folder.now c.args.item.now.name = c.in_ok-new-in-File.ensures ∙ c.in_ok-path-in-File.ensures ∙ ap (path_within c.args.folder.now) c.as_str.ensures in
    let holds : IsIncluded include exclude path = subst (IsIncluded include exclude) (c.as_str-in-File.ensures.value ∙ sym c.in_ok-new-in-File.ensures) (c.include_path.ensures.0 c.if-include_path.true) in
    record {
      paths = rw c.in_ok-push-in-File.ensures.items (took (IsIncluded include exclude) File c.args.folder.now c.args.item.now c.args.found.now.paths.items path c.in-File.is is holds);
      folders = left_out (MayHold include) Folder c.args.folder.now c.args.item.now c.args.found.now.folders.items (λ e _. cc (e, c.in-File.is));
      failed = refl;
    }

pub returns-in_ok-push-in-Folder : goal.returns-in_ok-push-in-Folder
returns-in_ok-push-in-Folder c =
    let include = c.args.globs.now.include.now in
    let exclude = c.args.globs.now.exclude.now in
    let path : List ℕ = c.in_ok-new-in-Folder.field-0 in
    let is : path ≡ path_within c.args.folder.now c.args.item.now.name = c.in_ok-new-in-Folder.ensures ∙ c.in_ok-path-in-Folder.ensures ∙ ap (path_within c.args.folder.now) c.as_str-in-Folder.ensures in
    let holds : MayHold include path = subst (MayHold include) (c.as_str-in-Folder-2.ensures.value ∙ sym c.in_ok-new-in-Folder.ensures) (c.may_hold.ensures.0 c.if-may_hold.true) in
    record {
      paths = left_out (IsIncluded include exclude) File c.args.folder.now c.args.item.now c.args.found.now.paths.items (λ e _. cc (e, c.in-Folder.is));
      folders = rw c.in_ok-push-in-Folder.ensures.items (took (MayHold include) Folder c.args.folder.now c.args.item.now c.args.found.now.folders.items path c.in-Folder.is is holds);
      failed = refl;
    }
