use Rattle.std.proofs.Common.{ℕ}
use Rattle.out_segments.proofs.Keeps.{whole_again}
use Rattle.out_segments.specs.SegmentedMeaning.{parts_of, size_of}
use Rattle.out_segments.proofs.since.SegmentedSince.into_parts.Goals as goal

pub returns-clause-parts : goal.returns-clause-parts
returns-clause-parts g c = whole_again (parts_of c.self.inside.disk) c.into_parts.result (size_of c.self.inside.disk) g.S.Since.size c.args.self c.into_parts.ensures c.self.invariant.sized c.self.view_is

pub returns-clause-kept : goal.returns-clause-kept
returns-clause-kept g c =
    let kept = c.self.invariant.kept in
    rw (c.into_parts.ensures, ← c.self.invariant.sized) kept
