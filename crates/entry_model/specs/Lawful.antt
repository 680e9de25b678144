-- What holds of each value in memory: keys ascend, texts are UTF-8, integers fit; and how deep it is nested.
use Rattle.std.specs.Prelude.{◌≡◌, ℕ, suc, ◌<◌, ◌≤◌, ◌^◌, List, max, Option, None, Some, IfSome, ⊤, IsUtf8, FitsSigned}
use Rattle.std.specs.Int.{w64}
use Rattle.std.specs.Ordering.{nat_cmp}
use Rattle.std.specs.Cmp.Lexicographic.{slice_cmp}
use Rattle.std.specs.declared.cmp.Ordering.TheVariants.{Less}
use Rattle.entry_model.specs.Datum.{Datum, null, boolean, int, text, list, fields, Items, no_items, item, Members, no_members, member}
use Rattle.entry_model.specs.LogRecord.{LogRecord}

abbrev mutual
  -- how many lists and maps stand around the innermost value
  pub nesting : Datum → ℕ
  nesting null = 0
  nesting (boolean b) = 0
  nesting (int z) = 0
  nesting (text bytes) = 0
  nesting (list items) = suc (items_nesting items)
  nesting (fields members) = suc (members_nesting members)

  pub items_nesting : Items → ℕ
  items_nesting no_items = 0
  items_nesting (item first rest) = max (nesting first) (items_nesting rest)

  pub members_nesting : Members → ℕ
  members_nesting no_members = 0
  members_nesting (member key value rest) = max (nesting value) (members_nesting rest)

-- a key stands behind the one before it, in byte order
abbrev pub IsBehind : Option (List ℕ) → List ℕ → Type 0
IsBehind None key = ⊤
IsBehind (Some before) key = slice_cmp nat_cmp before key ≡ Less

-- the keys ascend, from one behind `before` on
abbrev pub KeysAscend : Option (List ℕ) → Members → Type 0
KeysAscend before no_members = ⊤
KeysAscend before (member key value rest) = IsBehind before key × KeysAscend (Some key) rest

abbrev mutual
  pub IsLawful : Datum → Type 0
  IsLawful null = ⊤
  IsLawful (boolean b) = ⊤
  IsLawful (int z) = FitsSigned w64 z
  IsLawful (text bytes) = IsUtf8 bytes
  IsLawful (list items) = AreLawful items
  IsLawful (fields members) = AreLawfulMembers members × KeysAscend None members

  pub AreLawful : Items → Type 0
  AreLawful no_items = ⊤
  AreLawful (item first rest) = IsLawful first × AreLawful rest

  pub AreLawfulMembers : Members → Type 0
  AreLawfulMembers no_members = ⊤
  AreLawfulMembers (member key value rest) = IsUtf8 key × (IsLawful value × AreLawfulMembers rest)

pub record IsLawfulRecord (r : LogRecord) : Type 0 where
  pub body : IsLawful r.body
  pub attributes : IsLawful (fields r.attributes)
  pub resource : IsLawful (fields r.resource)
  pub severity : r.severity ≤ 24
  pub severity_text : IsUtf8 r.severity_text
  pub timestamp : IfSome r.timestamp (λ time. time < 2 ^ 64)

-- body, attributes and resource are nested no deeper than so many levels
pub record NestsWithin (levels : ℕ) (r : LogRecord) : Type 0 where
  pub body : nesting r.body ≤ levels
  pub attributes : nesting (fields r.attributes) ≤ levels
  pub resource : nesting (fields r.resource) ≤ levels
