-- The last component of a path.
use Rattle.std.proofs.Common.{◌≡◌, ℕ, ◌+◌, ◌-◌, ◌<◌, ◌≤◌, List, length, drop, get_or, not, ◌∙◌, ap, arith}
use Rattle.std.specs.Prelude.{◌==◌, Some}
use Rattle.std.specs.List.{suffix_len}
use Rattle.std.specs.Str.{NoCharPasses}
use Rattle.std.specs.Str.Pattern.{RFindsChar}
use Rattle.std.proofs.lemmas.Bool.{ne_eqb, eq-eqb}
use Rattle.std.proofs.lemmas.List.{get_or-drop, length-drop}
use Rattle.std.proofs.lemmas.List.Sums.{suffix_len_is}
use Rattle.std.proofs.lemmas.Str.Pattern.{NoCharPasses-char}
use Rattle.pipeline.specs.Entries.{base_name}

-- what stands behind the last of these places
behind : (s : List ℕ) (j : ℕ) → j ≤ length s → ((k : ℕ) → j ≤ k → k < length s → get_or s k 0 ≡ 47 → ⊥) → (0 < j → get_or s (j - 1) 0 ≡ 47) → drop j s ≡ base_name s
behind s j within others slash =
    let count : suffix_len (λ byte. not (byte == 47)) s ≡ length s - j =
    suffix_len_is (λ byte. not (byte == 47)) s j 0 within (λ k from to. ap not (ne_eqb (get_or s k 0) 47 (others k from to))) (λ some. ap not (eq-eqb (get_or s (j - 1) 0) 47 (slash some))) in
    ap (λ n. drop n s) (omega (arith, within, count))

pub name_behind : (s back : List ℕ) (i j : ℕ) → RFindsChar 47 s (Some (i, j)) → back ≡ drop j s → length back + j ≡ length s → back ≡ base_name s
name_behind s back i j found is len =
    let ends : j ≡ i + 1 = found.1.ends in
    is ∙ behind s j (omega (arith, len))
    (λ k from to at. NoCharPasses-char 47 (drop j s) (k - j) found.0 (omega arith) (omega (arith, length-drop j s, to, from)) (get_or-drop j s (k - j) 0 ∙ ap (λ n. get_or s n 0) (omega (arith, from)) ∙ at))
    (λ some. ap (λ n. get_or s n 0) (omega (arith, ends)) ∙ found.1.byte (omega arith))

pub whole_name : (s : List ℕ) → NoCharPasses (λ d. d == 47) s → s ≡ base_name s
whole_name s none = behind s 0 (omega arith) (λ k from to at. NoCharPasses-char 47 s k none (omega arith) to at) (λ some. absurd (omega (arith, some)))
