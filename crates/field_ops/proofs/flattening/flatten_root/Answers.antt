use Rattle.std.proofs.Common.{◌≡◌, ℕ, List, Err}
use Rattle.std.proofs.lemmas.Result.{IfErr-weaker}
use Rattle.entry_model.specs.Datum.{Members}
use Rattle.entry_model.specs.LogRecord.{LogRecord, log_record, members_in}
use Rattle.field_paths.specs.Change.{set_at}
use Rattle.field_paths.specs.Members.{member_at}
use Rattle.field_paths.specs.ValueAt.{root_value}
use Rattle.field_paths.specs.declared.path.Root.{Root}
use Rattle.field_paths.specs.declared.path.Root.TheVariants.{Body, Attributes, Resource}
use Rattle.field_ops.specs.Outcome.{Outcome, where_found, or_refused}
use Rattle.field_ops.specs.Roots.{root_place}
use Rattle.field_ops.specs.Rows.{flattened, raised_in, where_a_map}
use Rattle.field_ops.specs.declared.fault.FieldFault.{FieldFault}
use Rattle.field_ops.proofs.flattening.flatten_root.Goals as goal

root_refused : (root : Root) (name : List ℕ) (entry : LogRecord) (fault : FieldFault)
    → ((then_so : Members → Outcome) → where_found (member_at name (members_in (root_value root entry))) (λ value. where_a_map value then_so) ≡ Err fault)
    → flattened (root_place root) name entry ≡ Err fault
root_refused root name entry fault known = known (λ raised. or_refused (set_at (root_place root) (raised_in name (root_value root entry) raised) entry))

pub returns-in-Body-clause-fault : goal.returns-in-Body-clause-fault
returns-in-Body-clause-fault c =
    IfErr-weaker c.flatten_in.result _ _
    (λ fault known apart. rw c.in-Body.is (root_refused Body c.args.name.now (log_record c.args.entry.now) fault (known apart)))
    c.flatten_in.ensures.fault

pub returns-in-Attributes-clause-fault : goal.returns-in-Attributes-clause-fault
returns-in-Attributes-clause-fault c =
    IfErr-weaker c.flatten_in-in-Attributes.result _ _
    (λ fault known apart. rw c.in-Attributes.is (root_refused Attributes c.args.name.now (log_record c.args.entry.now) fault (known apart)))
    c.flatten_in-in-Attributes.ensures.fault

pub returns-in-Resource-clause-fault : goal.returns-in-Resource-clause-fault
returns-in-Resource-clause-fault c =
    IfErr-weaker c.flatten_in-in-Resource.result _ _
    (λ fault known apart. rw c.in-Resource.is (root_refused Resource c.args.name.now (log_record c.args.entry.now) fault (known apart)))
    c.flatten_in-in-Resource.ensures.fault
