-- What has a spelling.
use Rattle.std.specs.Prelude.{ℕ, ◌<◌, ◌≤◌, ◌^◌, List, length, None, IfSome, ⊤, IsUtf8, FitsSigned}
use Rattle.std.specs.Int.{w64}
use Rattle.entry_model.specs.Datum.{Datum, null, boolean, int, text, list, fields, Items, no_items, item, Members, no_members, member}
use Rattle.entry_model.specs.LogRecord.{LogRecord}
use Rattle.entry_model.specs.Lawful.{KeysAscend, NestsWithin}
use Rattle.state_codec.specs.Spelling.{item_count, member_count}
use Rattle.state_codec.specs.Limits.{levels}

-- a text whose length is below 2^32
pub record IsShortText (bytes : List ℕ) : Type 0 where
  pub utf8 : IsUtf8 bytes
  pub short : length bytes < 2 ^ 32

-- lawful values that have no more than 2^32 - 1 bytes, values or members in one place
abbrev mutual
  pub IsSpellable : Datum → Type 0
  IsSpellable null = ⊤
  IsSpellable (boolean b) = ⊤
  IsSpellable (int z) = FitsSigned w64 z
  IsSpellable (text bytes) = IsShortText bytes
  IsSpellable (list items) = (item_count items < 2 ^ 32) × AreSpellable items
  IsSpellable (fields members) = (member_count members < 2 ^ 32) × (AreSpellableMembers members × KeysAscend None members)

  pub AreSpellable : Items → Type 0
  AreSpellable no_items = ⊤
  AreSpellable (item first rest) = IsSpellable first × AreSpellable rest

  pub AreSpellableMembers : Members → Type 0
  AreSpellableMembers no_members = ⊤
  AreSpellableMembers (member key value rest) = IsShortText key × (IsSpellable value × AreSpellableMembers rest)

pub record IsSpellableEntry (r : LogRecord) : Type 0 where
  pub body : IsSpellable r.body
  pub attributes : IsSpellable (fields r.attributes)
  pub resource : IsSpellable (fields r.resource)
  pub severity : r.severity ≤ 24
  pub severity_text : IsShortText r.severity_text
  pub timestamp : IfSome r.timestamp (λ time. time < 2 ^ 64)

-- what is put, and what is read
pub record IsReadable (r : LogRecord) : Type 0 where
  pub lawful : IsSpellableEntry r
  pub shallow : NestsWithin levels r
