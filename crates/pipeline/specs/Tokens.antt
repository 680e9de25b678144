-- The tokens of the bytes of a file, by the rule that the settings give.
use Rattle.std.specs.Prelude.{ℕ, List, Option}
use Rattle.idle_flush.specs.Rests.{rest_cut}
use Rattle.line_splitter.specs.Cuts.{Cut, cuts, texts, used_by}
use Rattle.line_splitter.specs.LineTokens as lines
use Rattle.multiline.specs.Cutting.{starting, ending}
use Rattle.multiline.specs.MultilineTokens as multiline
use Rattle.pipeline.specs.declared.feed.Cutting.{Cutting}
use Rattle.pipeline.specs.declared.feed.Cutting.TheVariants.{Whole, Rest}
use Rattle.settings_text.specs.declared.settings.Multiline.{Multiline}
use Rattle.settings_text.specs.declared.settings.Multiline.TheVariants.{Lines, Start, End}
use Rattle.settings_text.specs.declared.settings.Settings.{Settings}

-- the first token of some bytes, where these lines are taken together, and entries are cut after so many bytes
abbrev pub first_cut_by : Multiline → ℕ → List ℕ → Option Cut
first_cut_by Lines max = lines.first_cut max
first_cut_by (Start pattern) max = multiline.first_cut (starting pattern) max
first_cut_by (End pattern) max = multiline.first_cut (ending pattern) max

abbrev pub first_cut_of : Settings → List ℕ → Option Cut
first_cut_of settings = first_cut_by settings.multiline settings.max_log_size

-- the first of these tokens of some bytes
abbrev pub rule_of : Settings → Cutting → List ℕ → Option Cut
rule_of settings Whole = first_cut_of settings
rule_of settings Rest = rest_cut settings.max_log_size

-- all of those that more bytes can't change, each with the bytes that it uses
abbrev pub cuts_of : Settings → List ℕ → List Cut
cuts_of settings b = cuts (first_cut_of settings) b

abbrev pub tokens_of : Settings → List ℕ → List (List ℕ)
tokens_of settings b = texts (cuts_of settings b)

-- how many bytes from the front they use
abbrev pub used_of : Settings → List ℕ → ℕ
used_of settings b = used_by (cuts_of settings b)
