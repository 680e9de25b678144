use Rattle.std.proofs.Common.{◌∙◌, ap, sym, ℕ, List}
use Rattle.std.proofs.lemmas.Result.{on_ok_weaker}
use Rattle.std.specs.BTreeMap.{insert_entry}
use Rattle.std.specs.Cmp.Lexicographic.{slice_cmp}
use Rattle.std.specs.Ordering.{nat_cmp}
use Rattle.entry_model.specs.Datum.{Datum}
use Rattle.entry_model.specs.declared.value.Value.TheVariants as value
use Rattle.entry_model.proofs.Nesting.{keys_ascend}
use Rattle.field_paths.proofs.Entries.{with_member-seen}
use Rattle.field_paths.specs.MapOf.{members_seen}
use Rattle.field_paths.specs.Members.{with_member}
use Rattle.field_ops.proofs.Entered.{datum_null}
use Rattle.field_ops.proofs.raising.reserve_name.Goals as goal

pub returns-in_err-share-clause-ascend : goal.returns-in_err-share-clause-ascend
returns-in_err-share-clause-ascend c = keys_ascend c.args.members.now.entries c.len-len.ensures.ordered

pub returns-clause-ok : goal.returns-clause-ok
returns-clause-ok c =
    let es = c.args.members.now.entries in
    on_ok_weaker c.insert.result
    (λ put. ap members_seen (put ∙ ap (λ (name : List ℕ). insert_entry (slice_cmp nat_cmp) es name value.Null) c.in_ok-share.ensures) ∙ sym (with_member-seen c.args.name.now value.Null es)
    ∙ ap (λ (d : Datum). with_member c.args.name.now d (members_seen es)) datum_null)
    c.insert.ensures.entries

pub returns-clause-ascend : goal.returns-clause-ascend
returns-clause-ascend c = keys_ascend c.args.members.now.entries c.len-len.ensures.ordered
