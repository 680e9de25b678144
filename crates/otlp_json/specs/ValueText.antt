-- The JSON of an AnyValue and of lists of KeyValue (opentelemetry/proto/common/v1/common.proto).
use Rattle.std.specs.Prelude.{ℕ, true, false, List, [], ◌++◌, codes}
use Rattle.std.specs.Fmt.{signed_decimal}
use Rattle.entry_model.specs.Datum.{Datum, null, boolean, int, text, list, fields, Items, no_items, item, Members, no_members, member}
use Rattle.otlp_json.specs.Escaped.{escaped}

-- a KeyValue, of a key and the JSON of its value
abbrev pub key_value_text : List ℕ → List ℕ → List ℕ
key_value_text key value = codes "{\"key\":\"" ++ escaped key ++ codes "\",\"value\":" ++ value ++ codes "}"

abbrev mutual
  -- a 64-bit integer is a string in JSON, and no value is an object without members
  pub value_text : Datum → List ℕ
  value_text null = codes "{}"
  value_text (boolean true) = codes "{\"boolValue\":true}"
  value_text (boolean false) = codes "{\"boolValue\":false}"
  value_text (int z) = codes "{\"intValue\":\"" ++ signed_decimal z ++ codes "\"}"
  value_text (text bytes) = codes "{\"stringValue\":\"" ++ escaped bytes ++ codes "\"}"
  value_text (list items) = codes "{\"arrayValue\":{\"values\":[" ++ items_text [] items ++ codes "]}}"
  value_text (fields members) = codes "{\"kvlistValue\":{\"values\":[" ++ members_text [] members ++ codes "]}}"

  -- the values with a comma between two, and `before` ahead of the first
  pub items_text : List ℕ → Items → List ℕ
  items_text before no_items = []
  items_text before (item first rest) = before ++ value_text first ++ items_text (codes ",") rest

  -- the same of the members of a map
  pub members_text : List ℕ → Members → List ℕ
  members_text before no_members = []
  members_text before (member key value rest) = before ++ key_value_text key (value_text value) ++ members_text (codes ",") rest
