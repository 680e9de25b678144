use Rattle.glob_match.proofs.Folders.{ends_read}
use Rattle.glob_match.proofs.reader.Reader.end.Goals as goal

pub invariant_of-result : goal.invariant_of-result
invariant_of-result c = ends_read _ c.args.self.components.items c.args.self.pieces.items c.in_ok-add_last.ensures
