-- What is taken of some bytes.
use Rattle.std.specs.Prelude.{◌≡◌, ℕ, ◌≤◌, List, [], Option, None, Some, length}
use Rattle.auditor.specs.Asked.{cuts_before}
use Rattle.auditor.specs.declared.tokens.Taken.{Taken}
use Rattle.line_splitter.specs.Cuts.{Cut, cuts, texts, used_by}
use Rattle.line_splitter.specs.declared.tokens.Token.{Token}
use Rattle.pipeline.specs.Entries.{records_behind}
use Rattle.pipeline.specs.NextToken.{IsFirstToken}
use Rattle.pipeline.specs.Tokens.{cuts_of}
use Rattle.settings_text.specs.declared.settings.Settings.{Settings}

-- the first token, which uses no more bytes than these; or none where there is no such token
pub record IsFirstWithin (first : List ℕ → Option Cut) (b : List ℕ) (room : ℕ) (token : Token) : Type 0 where
  pub is : IsFirstToken first b token
  pub fits : token.after ≤ room

abbrev pub IsNextWithin : (List ℕ → Option Cut) → List ℕ → ℕ → Option Token → Type 0
IsNextWithin first b room None = cuts_before room (cuts first b) ≡ []
IsNextWithin first b room (Some token) = IsFirstWithin first b room token

-- the cuts of some bytes that end within the first of them
abbrev pub cuts_taken : Settings → ℕ → List ℕ → List Cut
cuts_taken settings room bytes = cuts_before room (cuts_of settings bytes)

-- the entries of these cuts, behind so many others
pub record AreTaken (settings : Settings) (path : List ℕ) (before : ℕ) (taken : List Cut) (are : Taken) : Type 0 where
  pub entries : are.entries.items ≡ records_behind settings path before (texts taken)
  pub count : are.count ≡ length taken
  pub used : are.used ≡ used_by taken
