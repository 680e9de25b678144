-- Whether a text is JSON.
use Rattle.std.proofs.Common.{◌≡◌, ℕ, List, Bool, true, false, Some, None, refl}
use Rattle.std.proofs.lemmas.Str.{IsUtf8-from_is_utf8, is_utf8-from_IsUtf8}
use Rattle.std.specs.Prelude.{IsUtf8}
use Rattle.std.specs.Str.{is_utf8}
use Rattle.serde_json.specs.Data.{Data}
use Rattle.serde_json.specs.Read as json
use Rattle.settings_text.specs.Grammar.{json_of}

pub is_json : (bytes : List ℕ) (d : Data) → IsUtf8 bytes → json.read bytes ≡ Some d → json_of bytes ≡ Some d
is_json bytes d is_text h = rw (is_utf8-from_IsUtf8 bytes is_text) h

by_test : (bytes : List ℕ) (b : Bool) → is_utf8 bytes ≡ b → (IsUtf8 bytes → json.read bytes ≡ None) → json_of bytes ≡ None
by_test bytes true e h = rw e (h (IsUtf8-from_is_utf8 bytes e))
by_test bytes false e h = rw e refl

pub no_json : (bytes : List ℕ) → (IsUtf8 bytes → json.read bytes ≡ None) → json_of bytes ≡ None
no_json bytes h = by_test bytes (is_utf8 bytes) refl h
