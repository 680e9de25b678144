-- Why settings are refused, and the words that tell it.
use Rattle.std.specs.Prelude.{ℕ, List, ◌++◌, codes, decimal, true, false}
use Rattle.graph_core.specs.declared.GraphFault.{GraphFault}
use Rattle.graph_core.specs.declared.GraphFault.TheVariants as graph
use Rattle.op_kinds.specs.declared.cause.OpCause.{OpCause}
use Rattle.op_kinds.specs.declared.cause.OpCause.TheVariants as cause
use Rattle.pipeline.specs.declared.fault.BuildFault.{BuildFault}
use Rattle.pipeline.specs.declared.fault.BuildFault.TheVariants as build
use Rattle.settings_text.specs.declared.fault.SettingsFault.{SettingsFault}
use Rattle.settings_text.specs.declared.fault.SettingsFault.TheVariants as read

-- a key stands in them as it is written
abbrev pub settings_words : SettingsFault → List ℕ
settings_words read.NotJson = codes "settings not-json"
settings_words (read.Missing key) = codes "settings missing " ++ key
settings_words (read.Unknown key) = codes "settings unknown " ++ key
settings_words (read.WrongKind key) = codes "settings wrong-kind " ++ key
settings_words (read.OutOfRange key) = codes "settings out-of-range " ++ key
settings_words (read.Fraction key) = codes "settings fraction " ++ key
settings_words (read.TooLong length) = codes "settings too-long " ++ decimal length
settings_words read.Memory = codes "settings memory"

abbrev pub cause_words : OpCause → List ℕ
cause_words (cause.Path at) = codes "path"
cause_words (cause.Expr at) = codes "expr"
cause_words cause.Pattern = codes "pattern"
cause_words (cause.Layout at) = codes "layout"
cause_words cause.NoNames = codes "no-names"
cause_words cause.Memory = codes "memory"

abbrev pub graph_words : GraphFault → List ℕ
graph_words (graph.NoSuchNode node) = codes "graph no-such-node " ++ decimal node
graph_words (graph.Cycle node) = codes "graph cycle " ++ decimal node
graph_words graph.TooManyPaths = codes "graph too-many-paths"
graph_words graph.Memory = codes "graph memory"

-- places and nodes count from 0
abbrev pub build_words : BuildFault → List ℕ
build_words (build.Glob false place at) = codes "include " ++ decimal place ++ codes " glob"
build_words (build.Glob true place at) = codes "exclude " ++ decimal place ++ codes " glob"
build_words build.Multiline = codes "multiline pattern"
build_words (build.SameId place) = codes "same-id " ++ decimal place
build_words (build.Operator place found) = codes "operator " ++ decimal place ++ codes " " ++ cause_words found
build_words (build.Graph fault) = graph_words fault
build_words build.Memory = codes "memory"
