-- Every rule by which settings have tokens cut.
use Rattle.std.proofs.Common.{◌≡◌, ℕ, ◌≤◌, List, Option, None, Some}
use Rattle.line_splitter.specs.Cuts.{IsCutRule}
use Rattle.line_splitter.specs.LineTokens as lines
use Rattle.line_splitter.specs.declared.tokens.Token.{Token}
use Rattle.multiline.specs.Cutting.{Cutting, starting, ending}
use Rattle.multiline.specs.MultilineTokens as several
use Rattle.multiline.specs.NextToken as next
use Rattle.pipeline.specs.NextToken.{IsNext}
use Rattle.multiline.specs.Searched as searched
use Rattle.multiline.proofs.StopLemmas.{nothing_searched as nothing}
use Rattle.pipeline.specs.Searched.{IsSearched, IsSearchedBy}
use Rattle.pipeline.specs.Splitters.{said_by}
use Rattle.pipeline.specs.Tokens.{first_cut_by}
use Rattle.settings_text.specs.declared.settings.Multiline.{Multiline}
use Rattle.settings_text.specs.declared.settings.Multiline.TheVariants.{Lines, Start, End}
use Rattle.settings_text.specs.declared.settings.Settings.{Settings}

pub cut_by_a_rule : (max : ℕ) → IsCutRule (lines.first_cut max) → ((cutting : Cutting) → IsCutRule (several.first_cut cutting max)) → (multiline : Multiline) → IsCutRule (first_cut_by multiline max)
cut_by_a_rule max one many Lines = one
cut_by_a_rule max one many (Start pattern) = many (starting pattern)
cut_by_a_rule max one many (End pattern) = many (ending pattern)

next_cut : (cutting : Cutting) (max : ℕ) (b : List ℕ) (found : Option Token) → next.IsNext cutting max b found → IsNext (several.first_cut cutting max) b found
next_cut cutting max b None it = it.ends.no_cuts
next_cut cutting max b (Some token) it =
    record { from = it.from; to = it.to; begins = record { some_used = it.begins.some_used; within = it.begins.within; cuts_follow = it.begins.cuts_follow } }

pub next_of_several : (cutting : Cutting) (max : ℕ) (b : List ℕ) (found : Option Token) → next.IsNext cutting max b found → IsNext (first_cut_by (said_by cutting) max) b found
next_of_several (starting pattern) max b found it = next_cut (starting pattern) max b found it
next_of_several (ending pattern) max b found it = next_cut (ending pattern) max b found it

-- ---- what was searched

pub nothing_searched : (settings : Settings) (b : List ℕ) → IsSearched settings b 0
nothing_searched settings b = by settings.multiline
  where
    by : (multiline : Multiline) → IsSearchedBy multiline settings.max_log_size b 0
    by Lines = tt
    by (Start pattern) = nothing (starting pattern) settings.max_log_size b
    by (End pattern) = nothing (ending pattern) settings.max_log_size b

pub searched_of_several : (cutting : Cutting) (max : ℕ) (b : List ℕ) (n : ℕ) → IsSearchedBy (said_by cutting) max b n → searched.IsSearched cutting max b n
searched_of_several (starting pattern) max b n it = it
searched_of_several (ending pattern) max b n it = it

pub searched_by_several : (cutting : Cutting) (max : ℕ) (b : List ℕ) (n : ℕ) → searched.IsSearched cutting max b n → IsSearchedBy (said_by cutting) max b n
searched_by_several (starting pattern) max b n it = it
searched_by_several (ending pattern) max b n it = it
