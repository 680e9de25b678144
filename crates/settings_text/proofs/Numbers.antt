-- The numbers that are tried behind a name that is taken.
use Rattle.std.proofs.Common.{◌≡◌, ℕ, suc, ◌+◌, ◌-◌, ◌<◌, ◌≤◌, List, ◌++◌, true, false, decimal, refl, sym, ◌∙◌, arith}
use Rattle.settings_text.specs.Ids.{is_taken, numbered}

pub next_number : (total tried : ℕ) (name : List ℕ) (taken : List (List ℕ)) (found : List ℕ) → tried < total → is_taken (name ++ decimal (tried + 1)) taken ≡ true
    → numbered (total - tried) (tried + 1) name taken ≡ found → numbered (total - (tried + 1)) (tried + 1 + 1) name taken ≡ found
unfolding numbered
next_number total tried name taken found lt is so_far =
    let k : total - tried ≡ suc (total - (tried + 1)) = omega arith in
    let one : numbered (total - tried) (tried + 1) name taken ≡ numbered (total - (tried + 1)) (tried + 1 + 1) name taken = rw (k, is) refl in
    sym one ∙ so_far

pub found_number : (total tried : ℕ) (name : List ℕ) (taken : List (List ℕ)) (found : List ℕ) → tried < total → is_taken (name ++ decimal (tried + 1)) taken ≡ false
    → numbered (total - tried) (tried + 1) name taken ≡ found → name ++ decimal (tried + 1) ≡ found
unfolding numbered
found_number total tried name taken found lt is so_far =
    let k : total - tried ≡ suc (total - (tried + 1)) = omega arith in
    let one : numbered (total - tried) (tried + 1) name taken ≡ name ++ decimal (tried + 1) = rw (k, is) refl in
    sym one ∙ so_far

pub last_number : (total tried : ℕ) (name : List ℕ) (taken : List (List ℕ)) (found : List ℕ) → total ≤ tried → tried ≤ total
    → numbered (total - tried) (tried + 1) name taken ≡ found → name ++ decimal (total + 1) ≡ found
unfolding numbered
last_number total tried name taken found le ge so_far =
    let k : total - tried ≡ 0 = omega arith in
    let e : total ≡ tried = omega arith in
    let one : numbered (total - tried) (tried + 1) name taken ≡ name ++ decimal (tried + 1) = rw k refl in
    rw e (sym one ∙ so_far)
