use Rattle.std.proofs.Common.{rules, ◌∙◌, ap}
use Rattle.std.proofs.lemmas.Fn.{filter_same}
use Rattle.entry_model.proofs.Nesting.{keys_ascend}
use Rattle.field_paths.specs.MapOf.{members_seen}
use Rattle.field_ops.specs.Kept.{any_at_member}
use Rattle.field_ops.proofs.Kept.{seen_where}
use Rattle.field_ops.proofs.keeping.keep_listed_members.Goals as goal

pub returns-clause-kept : goal.returns-clause-kept
returns-clause-kept c =
    let listed = any_at_member c.args.listed.now c.args.root in
    let es = c.args.members.now.entries in
    let kept = c.retain.new.self.entries in
    ap members_seen (filter_same _ (λ entry. listed entry.0) _ (λ entry b f' t. search rules) es kept c.retain.ensures)
    ∙ seen_where listed es

pub returns-clause-ascend : goal.returns-clause-ascend
returns-clause-ascend c = keys_ascend c.args.members.now.entries c.len-len.ensures.ordered
