use Rattle.entry_model.proofs.CopiedBytes.{copied_ends}
use Rattle.entry_model.proofs.copies.put_ends.Goals as goal

pub returns-clause-bytes : goal.returns-clause-bytes
returns-clause-bytes g c =
    copied_ends c.args.bytes.now c.args.block.now c.args.made g.row.N c.requires.many c.requires.few c.requires.room
