-- Equality of values: the same kind, and the same in each part.
use Rattle.std.specs.Prelude.{Bool, true, false, ◌&&◌, not}
use Rattle.std.specs.Str.{bytes_eq}
use Rattle.std.specs.Ordering.{int_eq}
use Rattle.entry_model.specs.Datum.{Datum, null, boolean, int, text, list, fields, Items, no_items, item, Members, no_members, member}

abbrev pub same_truth : Bool → Bool → Bool
same_truth true other = other
same_truth false other = not other

abbrev mutual
  pub same : Datum → Datum → Bool
  same null null = true
  same (boolean a) (boolean b) = same_truth a b
  same (int a) (int b) = int_eq a b
  same (text a) (text b) = bytes_eq a b
  same (list a) (list b) = same_items a b
  same (fields a) (fields b) = same_members a b
  same _ _ = false

  pub same_items : Items → Items → Bool
  same_items no_items no_items = true
  same_items (item a rest) (item b others) = same a b && same_items rest others
  same_items _ _ = false

  pub same_members : Members → Members → Bool
  same_members no_members no_members = true
  same_members (member key a rest) (member name b others) = bytes_eq key name && (same a b && same_members rest others)
  same_members _ _ = false
