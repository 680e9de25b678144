-- What is read of a text while a loop goes on.
use Rattle.std.proofs.Common.{◌≡◌, ℕ, List, [], ◌++◌, map}
use Rattle.syslog_parser.specs.States5424.{Before, Within, in_value, behind_value, wants_element, outcome}
use Rattle.syslog_parser.specs.Structured.{IsContent, Param, AreParams, Element, AreElements}
use Rattle.syslog_parser.specs.Told.{Member, put_all, told_param, told_element}

-- a value of which this was read
pub record ValueSoFar (text rest value : List ℕ) : Type 0 where
  pub reads : (more behind : List ℕ) → IsContent rest more behind → IsContent text (value ++ more) behind
  pub runs : (within : Within) (name : List ℕ) → outcome (in_value within name []) text ≡ outcome (in_value within name value) rest

abbrev pub with_params : Within → List Param → Within
with_params within params = record within { params = within.params ++ params }

pub record ParamsSoFar (text rest : List ℕ) (old new : List Member) : Type 0 where
  pub params : List Param
  pub told : new ≡ put_all old (map told_param params)
  pub reads : (more : List Param) (behind : List ℕ) → AreParams rest more behind → AreParams text (params ++ more) behind
  pub runs : (within : Within) → outcome (behind_value within) text ≡ outcome (behind_value (with_params within params)) rest

abbrev pub with_elements : Before → List Element → Before
with_elements before elements = record { values = before.values; elements = before.elements ++ elements }

pub record ElementsSoFar (text rest : List ℕ) (old new : List Member) : Type 0 where
  pub elements : List Element
  pub told : new ≡ put_all old (map told_element elements)
  pub reads : (more : List Element) (behind : List ℕ) → AreElements rest more behind → AreElements text (elements ++ more) behind
  pub runs : (before : Before) → outcome (wants_element before) text ≡ outcome (wants_element (with_elements before elements)) rest
