-- What is made of a file before its tokens are taken.
use Rattle.std.specs.Prelude.{◌≡◌, ℕ, List, [], if◌then◌else◌, Option, None, Some, codes}
use Rattle.field_paths.specs.MapOf.{members_seen}
use Rattle.otlp_json.specs.Template.{IsTemplate}
use Rattle.pipeline.specs.Entries.{file_attributes}
use Rattle.pipeline.specs.Origin.{Origin}
use Rattle.pipeline.specs.Parts.{settings_of}
use Rattle.pipeline.specs.declared.Pipeline.{Pipeline}
use Rattle.pipeline.specs.declared.source.Shared.{Shared}
use Rattle.pipeline.specs.declared.source.Source.{Source}
use Rattle.pipeline.specs.declared.source.Source.TheVariants.{Lines, Entries}
use Rattle.settings_text.specs.declared.settings.Settings.{Settings}

-- the attribute that has a record's number, where one is asked for
abbrev pub number_name : Settings → Option (List ℕ)
number_name settings = if settings.include_file_record_number then Some (codes "log.file.record_number") else None

-- what the records of the file and their lines share
pub record IsShared (settings : Settings) (origin : Origin) (shared : Shared) : Type 0 where
  pub attributes : members_seen shared.attributes.entries ≡ file_attributes settings origin.path
  pub number : shared.number ≡ number_name settings
  pub scope : shared.scope ≡ origin.id
  pub observed : shared.observed ≡ origin.time

-- where there are no operators, the template is that of the file's lines; else what is shared is what its records share
abbrev pub IsSource : Pipeline → Origin → Source → Type 0
IsSource pipeline origin (Lines template) =
    (pipeline.graph ≡ []) × IsTemplate origin.id origin.time (settings_of pipeline).resource (file_attributes (settings_of pipeline) origin.path) (number_name (settings_of pipeline)) template
IsSource pipeline origin (Entries shared) = IsShared (settings_of pipeline) origin shared
