-- What words say.
use Rattle.std.specs.Prelude.{ℕ, List, map, String, string_bytes}
use Rattle.std.specs.declared.alloc.Global.{Global}

-- the bytes of each word, as UTF-8
abbrev pub texts : List (String Global) → List (List ℕ)
texts words = map (λ word. string_bytes word) words
