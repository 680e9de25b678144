-- What holds of rules that come from settings.
use Rattle.std.specs.Prelude.{◌≡◌, ℕ, ◌+◌, ◌<◌, ◌≤◌, List, [], ◌++◌, length, drop, All, IsTrue}
use Rattle.line_splitter.specs.Cuts.{Cut}
use Rattle.standing.specs.Marks.{Mark}
use Rattle.standing.specs.Rules.{Rules}
use Rattle.standing.specs.Tokens.{AreCutOf, used_by, used}

-- each token uses some bytes, all together no more than there are; more bytes behind leave the tokens; the bytes
-- behind some of the tokens have the others; and a rest is used to its end
pub record AreTokenRules (rules : Rules) : Type 0 where
  pub each_uses : (content : List ℕ) → All (λ (c : Cut). 1 ≤ c.used) (rules.cuts content)
  pub within : (content : List ℕ) → used rules content ≤ length content
  pub lasting : (content more : List ℕ) → (rest : List Cut) × (rules.cuts (content ++ more) ≡ rules.cuts content ++ rest)
  pub going_on : (content : List ℕ) (taken behind : List Cut) → rules.cuts content ≡ taken ++ behind → rules.cuts (drop (used_by taken) content) ≡ behind
  pub resting : (content : List ℕ) → AreCutOf (length content) (rules.rest content)

-- tokens may be taken in parts, each from the state that the one before it left
pub record AreOperatorRules (rules : Rules) : Type 0 where
  pub fresh_is_state : IsTrue (rules.is_state rules.fresh)
  pub state_goes_on : (path : List ℕ) (before : ℕ) (state : List ℕ) (tokens : List (List ℕ)) → IsTrue (rules.is_state state) → IsTrue (rules.is_state (rules.state_after path before state tokens))
  pub none_made : (path : List ℕ) (before : ℕ) (state : List ℕ) → IsTrue (rules.is_state state) → rules.made path before state [] ≡ []
  pub made_in_parts : (path : List ℕ) (before : ℕ) (state : List ℕ) (tokens more : List (List ℕ)) → IsTrue (rules.is_state state)
      → rules.made path before state (tokens ++ more) ≡ rules.made path before state tokens ++ rules.made path (before + length tokens) (rules.state_after path before state tokens) more
  pub state_stays : (path : List ℕ) (before : ℕ) (state : List ℕ) → IsTrue (rules.is_state state) → rules.state_after path before state [] ≡ state
  pub state_in_parts : (path : List ℕ) (before : ℕ) (state : List ℕ) (tokens more : List (List ℕ)) → IsTrue (rules.is_state state)
      → rules.state_after path before state (tokens ++ more) ≡ rules.state_after path (before + length tokens) (rules.state_after path before state tokens) more

-- no line is empty, and one that fits tells all that it was made of, whatever stands behind it
pub record AreLineRules (rules : Rules) : Type 0 where
  pub not_empty : (mark : Mark) → 0 < length (rules.line mark)
  pub tells_all : (mark other : Mark) (rest more : List ℕ) → IsTrue (rules.fits mark) → IsTrue (rules.fits other)
      → rules.line mark ++ rest ≡ rules.line other ++ more → (mark ≡ other) × (rest ≡ more)

pub record AreRules (rules : Rules) : Type 0 where
  pub tokens : AreTokenRules rules
  pub operators : AreOperatorRules rules
  pub lines : AreLineRules rules
  pub front_size : 16 ≤ rules.front_size
