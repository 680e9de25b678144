use Rattle.std.specs.Prelude.{ℕ, List, ◌++◌, codes}
use Rattle.otlp_json.specs.Escaped.{escaped}

-- the bytes in front with a KeyValue behind them whose value stands between quotes: `opening` ends with the quote before
-- the key, and `between` with the one before the value's text
abbrev pub with_quoted : List ℕ → List ℕ → List ℕ → List ℕ → List ℕ → List ℕ
with_quoted front opening key between text = front ++ opening ++ escaped key ++ between ++ escaped text ++ codes "\"}}"
