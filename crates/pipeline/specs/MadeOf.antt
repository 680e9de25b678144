-- The texts of settings that pipelines and eras were made of.
use Rattle.std.specs.Prelude.{◌≡◌, ℕ, All, List, Ok}
use Rattle.pipeline.specs.AsRules.{rules_of}
use Rattle.pipeline.specs.Globs.{ArePatterns}
use Rattle.pipeline.specs.Parts.{settings_of, network}
use Rattle.pipeline.specs.Splitters.{HasPattern}
use Rattle.pipeline.specs.Wired.{IsNetwork}
use Rattle.pipeline.specs.declared.Pipeline.{Pipeline}
use Rattle.settings_text.specs.Grammar.{settings}
use Rattle.standing.specs.Eras.{Eras, AreEras, all_eras, last_era, texts_of}
use Rattle.standing.specs.Rules.{Rules}

-- The pipeline is the one that the settings of this text ask for.
pub record IsMadeOf (text : List ℕ) (pipeline : Pipeline) : Type 0 where
  pub said : settings text ≡ Ok (settings_of pipeline)
  pub network_is : IsNetwork (settings_of pipeline).operators (network pipeline)
  pub include : ArePatterns (settings_of pipeline).include pipeline.include.items
  pub exclude : ArePatterns (settings_of pipeline).exclude pipeline.exclude.items
  pub multiline : HasPattern (settings_of pipeline).multiline

-- These are the rules of the settings that this text says.
abbrev pub HasRules : List ℕ → Rules → Type 0
HasRules text rules = (pipeline : Pipeline) × IsMadeOf text pipeline × (rules ≡ rules_of text pipeline)

-- The last of the eras has the rules of its settings.
abbrev pub EndsWithRules : Eras → Type 0
EndsWithRules eras = HasRules (last_era eras).settings (last_era eras)

-- These are the eras of these texts, one after another.
pub record AreErasOf (texts : List (List ℕ)) (eras : Eras) : Type 0 where
  pub texts_are : texts ≡ texts_of eras
  pub each : All (λ (rules : Rules). HasRules rules.settings rules) (all_eras eras)
  pub laws : AreEras eras
