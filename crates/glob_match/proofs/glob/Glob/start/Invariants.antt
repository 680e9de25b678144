use Rattle.std.proofs.Common.{◌≡◌, ◌++◌, drop, string_bytes}
use Rattle.glob_match.specs.Start.{behind, plain_names, start}
use Rattle.glob_match.proofs.glob.Glob.start.Given as goal

abbrev pub invariant-loop-component : goal.invariant-loop-component
invariant-loop-component l = string_bytes l.folder ++ behind l.is_first (plain_names (drop l.component-index l.leading)) ≡ start l.fn.self
