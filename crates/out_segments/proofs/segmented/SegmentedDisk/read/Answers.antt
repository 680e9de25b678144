use Rattle.out_segments.proofs.Keeps.{lengths_read}
use Rattle.out_segments.proofs.segmented.SegmentedDisk.read.Goals as goal

pub returns-in-None-clause-lengths : goal.returns-in-None-clause-lengths
returns-in-None-clause-lengths g c = lengths_read c.args.self.now.size c.read_output.ensures.only_read.crash

pub returns-in-Some-clause-lengths : goal.returns-in-Some-clause-lengths
returns-in-Some-clause-lengths g c = lengths_read c.args.self.now.size c.read.ensures.crash
