-- Roots of entries, and entries of which some roots are those of another. No public clause speaks of them.
use Rattle.std.specs.Prelude.{List, [], Bool, true, false, cond, None}
use Rattle.std.specs.List.{list_any}
use Rattle.entry_model.specs.Datum.{fields, no_members}
use Rattle.entry_model.specs.LogRecord.{LogRecord}
use Rattle.field_paths.specs.Place.{Place}
use Rattle.field_paths.specs.declared.path.Root.{Root}
use Rattle.field_paths.specs.declared.path.Root.TheVariants.{Body, Attributes, Resource}

abbrev pub no_fields : LogRecord
no_fields = record {
  body = fields no_members;
  attributes = no_members;
  resource = no_members;
  timestamp = None;
  severity = 0;
  severity_text = [];
}

-- the place of a whole root
abbrev pub root_place : Root → Place
root_place root = record { root = root; names = [] }

abbrev pub is_body : Root → Bool
is_body Body = true
is_body Attributes = false
is_body Resource = false

abbrev pub is_attributes : Root → Bool
is_attributes Body = false
is_attributes Attributes = true
is_attributes Resource = false

abbrev pub is_resource : Root → Bool
is_resource Body = false
is_resource Attributes = false
is_resource Resource = true

abbrev pub same_root : Root → Root → Bool
same_root Body = is_body
same_root Attributes = is_attributes
same_root Resource = is_resource

-- a listed field begins in such a root
abbrev pub any_root : (Root → Bool) → List Place → Bool
any_root test listed = list_any (λ field. test field.root) listed

-- the entry with the roots of `kept` that the tests name
abbrev pub with_roots : Bool → Bool → Bool → LogRecord → LogRecord → LogRecord
with_roots body attributes resource kept entry = record entry {
  body = cond body kept.body entry.body;
  attributes = cond attributes kept.attributes entry.attributes;
  resource = cond resource kept.resource entry.resource;
}
