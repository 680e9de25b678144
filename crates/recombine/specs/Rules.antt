-- Which groups have a spelling.
use Rattle.std.specs.Prelude.{◌≤◌, List, [], ◌∷◌, length, ⊤}
use Rattle.state_codec.specs.Rules.{IsShortText, IsReadable}
use Rattle.recombine.specs.Limits.{group_limit, batch_limit}
use Rattle.recombine.specs.Group.{Group}
use Rattle.recombine.specs.Sources.{AreOfOthers}

pub record KeepsRules (group : Group) : Type 0 where
  pub source : IsShortText group.source
  pub some : 1 ≤ group.entries
  pub most : group.entries ≤ batch_limit
  pub text : IsShortText group.text
  pub base : IsReadable group.base

-- each does, and no two are of one source
abbrev pub KeepRules : List Group → Type 0
KeepRules [] = ⊤
KeepRules (group ∷ groups) = KeepsRules group × (AreOfOthers group.source groups × KeepRules groups)

pub record AreSpellable (groups : List Group) : Type 0 where
  pub few : length groups ≤ group_limit
  pub each : KeepRules groups
