-- What is known of bytes of which some lines were searched for the end of the first token.
use Rattle.std.specs.Prelude.{ℕ, List, ◌++◌, ⊤}
use Rattle.multiline.specs.Cutting.{starting, ending}
use Rattle.multiline.specs.Searched as several
use Rattle.settings_text.specs.declared.settings.Multiline.{Multiline}
use Rattle.settings_text.specs.declared.settings.Multiline.TheVariants.{Lines, Start, End}
use Rattle.settings_text.specs.declared.settings.Settings.{Settings}

-- the first n bytes of b needn't be searched again, where these lines are taken together
abbrev pub IsSearchedBy : Multiline → ℕ → List ℕ → ℕ → Type 0
IsSearchedBy Lines max b n = ⊤
IsSearchedBy (Start pattern) max b n = several.IsSearched (starting pattern) max b n
IsSearchedBy (End pattern) max b n = several.IsSearched (ending pattern) max b n

abbrev pub IsSearched : Settings → List ℕ → ℕ → Type 0
IsSearched settings b n = IsSearchedBy settings.multiline settings.max_log_size b n

-- the same, whatever bytes come behind
abbrev pub StaysSearched : Settings → List ℕ → ℕ → Type 0
StaysSearched settings b n = (more : List ℕ) → IsSearched settings (b ++ more) n
