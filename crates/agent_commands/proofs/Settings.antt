-- Settings that are too long.
use Rattle.std.proofs.Common.{◌≡◌, ℕ, ◌<◌, List, length, true, sym, ◌∙◌, ap, arith}
use Rattle.std.proofs.lemmas.Bool.{lt-ltb}
use Rattle.std.specs.Prelude.{nat_lt, Err, if◌then◌else◌}
use Rattle.settings_text.specs.Grammar.{settings, settings_of, json_of}
use Rattle.settings_text.specs.Outcome.{◌>>=◌, or_fault}
use Rattle.settings_text.specs.declared.fault.SettingsFault.TheVariants.{TooLong, NotJson}

pub too_long : (bytes : List ℕ) (size : ℕ) → size ≡ length bytes → 1048576 < size → settings bytes ≡ Err (TooLong size)
unfolding settings
too_long bytes size is long =
    let test : nat_lt 1048576 (length bytes) ≡ true = lt-ltb 1048576 (length bytes) (omega (arith, is, long)) in
    ap (λ b. if b then Err (TooLong (length bytes)) else (or_fault NotJson (json_of bytes) >>= settings_of)) test ∙ ap (λ n. Err (TooLong n)) (sym is)
