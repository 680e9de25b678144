use Rattle.out_segments.proofs.Keeps.{lengths_read}
use Rattle.out_segments.proofs.segmented.SegmentedDisk.sync.Goals as goal

pub returns-in_err-self-in-None-clause-lengths : goal.returns-in_err-self-in-None-clause-lengths
returns-in_err-self-in-None-clause-lengths g c = lengths_read c.args.self.now.size c.sync_output.ensures.only_read.crash

pub returns-in_ok-self-in-None-clause-lengths : goal.returns-in_ok-self-in-None-clause-lengths
returns-in_ok-self-in-None-clause-lengths g c = lengths_read c.args.self.now.size c.sync_output.ensures.only_read.crash

pub returns-in-Some-clause-lengths : goal.returns-in-Some-clause-lengths
returns-in-Some-clause-lengths g c = lengths_read c.args.self.now.size c.sync.ensures.crash
