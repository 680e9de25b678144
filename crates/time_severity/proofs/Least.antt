-- The least match, from the front of the rules on.
use Rattle.std.proofs.Common.{◌≡◌, ◌∙◌, ap, refl, ℕ, List, ◌∷◌, Bool, true, false, cond, Option, None, Some, arith}
use Rattle.time_severity.specs.Rules.{Rule, Subject, matches, lesser, least_match}

-- the lesser of what was found before and what is found later
abbrev pub merged : Option ℕ → Option ℕ → Option ℕ
merged None later = later
merged (Some number) later = Some (lesser number later)

pub merged-none : (before : Option ℕ) → merged before None ≡ before
merged-none None = refl
merged-none (Some number) = refl

merged-lesser : (number : ℕ) (before later : Option ℕ) → merged before (Some (lesser number later)) ≡ merged (Some (lesser number before)) later
merged-lesser number None later = refl
merged-lesser number (Some other) None = ap Some (omega arith)
merged-lesser number (Some other) (Some third) = ap Some (omega arith)

pub matched : (subject : Subject) (before : Option ℕ) (rule : Rule) (rules : List Rule) → matches subject rule.want ≡ true
    → merged before (least_match subject (rule ∷ rules)) ≡ merged (Some (lesser rule.severity before)) (least_match subject rules)
matched subject before rule rules e =
    ap (λ (b : Bool). merged before (cond b (Some (lesser rule.severity (least_match subject rules))) (least_match subject rules))) e
    ∙ merged-lesser rule.severity before (least_match subject rules)

pub passed : (subject : Subject) (before : Option ℕ) (rule : Rule) (rules : List Rule) → matches subject rule.want ≡ false
    → merged before (least_match subject (rule ∷ rules)) ≡ merged before (least_match subject rules)
passed subject before rule rules e =
    ap (λ (b : Bool). merged before (cond b (Some (lesser rule.severity (least_match subject rules))) (least_match subject rules))) e
