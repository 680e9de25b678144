use Rattle.std.proofs.lemmas.Str.{IsCharBoundary-after_ascii}
use Rattle.syslog_parser.proofs.cuts.cut.Goals as goal

pub range_from-requires : goal.range_from-requires
range_from-requires c = λ _. IsCharBoundary-after_ascii c.args.text.now c.args.at c.utf8.text c.requires.inside c.requires.ascii
