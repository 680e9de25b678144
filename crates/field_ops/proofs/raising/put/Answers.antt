use Rattle.std.proofs.Common.{sym}
use Rattle.field_ops.proofs.Entered.{put_seen, not_missing}
use Rattle.field_ops.proofs.raising.put.Goals as goal

pub returns-in-Some : goal.returns-in-Some
returns-in-Some c =
    put_seen c.args.name.now c.args.value c.in-Some.member.now c.args.members.now.entries (c.get_mut.follows.lender c.args.value).entries
    c.get_mut.ensures.ordered (sym c.in-Some.ensures.value) (c.get_mut.follows.holds c.args.value).0

pub returns-in_default : goal.returns-in_default
returns-in_default c = absurd (not_missing c.args.name.now c.args.members.now.entries (sym c.in_default.ensures.value) c.requires)
