use Rattle.std.proofs.Common.{sym}
use Rattle.field_paths.proofs.Entries.{with_member-seen}
use Rattle.auditor.proofs.entries.put.Goals as goal

pub returns : goal.returns
returns c = rw c.in_ok-insert.ensures.entries (sym (with_member-seen c.args.name c.args.value c.args.members.entries))
