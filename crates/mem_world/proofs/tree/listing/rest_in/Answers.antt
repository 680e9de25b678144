use Rattle.std.proofs.Common.{◌≡◌, ◌++◌, [], ◌∷◌, sym, ap, ◌∙◌, lit<}
use Rattle.std.proofs.lemmas.Str.Pattern.{strip_prefix_char}
use Rattle.mem_world.proofs.TreeFolders.{rest_from, rest_at_root, within_root, within_other, same_bytes, some_bytes}
use Rattle.mem_world.proofs.tree.listing.rest_in.Goals as goal

pub returns-then-eq : goal.returns-then-eq
returns-then-eq c =
    let root : c.args.folder.now ≡ 47 ∷ [] = same_bytes c.args.folder.now (47 ∷ []) (sym c.eq.ensures ∙ c.if-eq.true) in
    rest_at_root c.args.folder.now c.args.path.now (within_root c.args.folder.now root) c.strip_prefix.result (strip_prefix_char 47 c.args.path.now c.strip_prefix.result c.strip_prefix.ensures.cases (lit< tt))

pub returns-in_ok-strip_prefix : goal.returns-in_ok-strip_prefix
returns-in_ok-strip_prefix c =
    let mid = c.in_ok-strip_prefix.field-0.now in
    let cut = c.in_ok-strip_prefix.ensures.cases in
    let whole : c.args.path.now ≡ c.args.folder.now ++ mid = cut.1.1 ∙ ap (λ m. c.args.folder.now ++ m) (sym cut.2) in
    let some = some_bytes c.args.folder.now (sym c.is_empty.ensures ∙ c.if-is_empty.false) in
    let other = sym c.eq.ensures ∙ c.if-eq.false in
    rest_from c.args.folder.now c.args.path.now mid whole (within_other c.args.folder.now some other) c.strip_prefix-else-eq-2.result (strip_prefix_char 47 mid c.strip_prefix-else-eq-2.result c.strip_prefix-else-eq-2.ensures.cases (lit< tt))
