-- Which severity the least match has.
use Rattle.std.proofs.Common.{◌≡◌, ◌∙◌, sym, ap, refl, ℕ, zero, suc, ◌≤◌, List, [], ◌∷◌, min, Bool, true, false, cond, Option, None, Some, slice_get, arith, inl, inr, subst}
use Rattle.std.proofs.lemmas.Bool.{both_ways, cases_lt}
use Rattle.std.proofs.lemmas.Option.{none-some, same_Some}
use Rattle.time_severity.specs.Rules.{Rule, Subject, matches, lesser, least_match, IsLeastMatch}

-- what is found, by whether the first rule matches
abbrev found : Bool → ℕ → Option ℕ → Option ℕ
found b number later = cond b (Some (lesser number later)) later

pub none_matches : (subject : Subject) (rules : List Rule) (at : ℕ) (rule : Rule) → least_match subject rules ≡ None
    → slice_get rules at ≡ Some rule → matches subject rule.want ≡ false
none_matches subject [] at rule none stands = absurd (none-some rule stands)
none_matches subject (first ∷ rules) at rule none stands = go (matches subject first.want) refl (λ k. none_matches subject rules k rule) none at stands
  where
    go : (b : Bool) → matches subject first.want ≡ b
        → ((k : ℕ) → least_match subject rules ≡ None → slice_get rules k ≡ Some rule → matches subject rule.want ≡ false)
        → found b first.severity (least_match subject rules) ≡ None → (at : ℕ) → slice_get (first ∷ rules) at ≡ Some rule → matches subject rule.want ≡ false
    go true e later none at stands = absurd (none-some (lesser first.severity (least_match subject rules)) (sym none))
    go false e later none zero stands = ap (λ (r : Rule). matches subject r.want) (sym (same_Some first rule stands)) ∙ e
    go false e later none (suc at) stands = later at none stands

first_is_least : (subject : Subject) (first : Rule) (rules : List Rule) → matches subject first.want ≡ true → least_match subject rules ≡ None
    → IsLeastMatch subject (first ∷ rules) first.severity
first_is_least subject first rules e none = record {
  at = 0;
  rule = first;
  stands = refl;
  matching = e;
  severity_is = refl;
  least = only;
}
  where
    only : (at : ℕ) (rule : Rule) → slice_get (first ∷ rules) at ≡ Some rule → matches subject rule.want ≡ true → first.severity ≤ rule.severity
    only zero rule stands matching = let same : first.severity ≡ rule.severity = ap (λ (r : Rule). r.severity) (same_Some first rule stands) in omega arith
    only (suc at) rule stands matching = absurd (both_ways (matches subject rule.want) (none_matches subject rules at rule none stands) matching)

later_is_least : (subject : Subject) (first : Rule) (rules : List Rule) (number : ℕ)
    → (matches subject first.want ≡ true → number ≤ first.severity) → IsLeastMatch subject rules number → IsLeastMatch subject (first ∷ rules) number
later_is_least subject first rules number below later = record {
  at = suc later.at;
  rule = later.rule;
  stands = later.stands;
  matching = later.matching;
  severity_is = later.severity_is;
  least = all;
}
  where
    all : (at : ℕ) (rule : Rule) → slice_get (first ∷ rules) at ≡ Some rule → matches subject rule.want ≡ true → number ≤ rule.severity
    all zero rule stands matching =
        let same = same_Some first rule stands in
        let low = below (ap (λ (r : Rule). matches subject r.want) same ∙ matching) in
        let severity : first.severity ≡ rule.severity = ap (λ (r : Rule). r.severity) same in
        omega arith
    all (suc at) rule stands matching = later.least at rule stands matching

both_least : (subject : Subject) (first : Rule) (rules : List Rule) (number : ℕ) → matches subject first.want ≡ true → first.severity ≤ number
    → IsLeastMatch subject rules number → IsLeastMatch subject (first ∷ rules) first.severity
both_least subject first rules number e below later = record {
  at = 0;
  rule = first;
  stands = refl;
  matching = e;
  severity_is = refl;
  least = all;
}
  where
    all : (at : ℕ) (rule : Rule) → slice_get (first ∷ rules) at ≡ Some rule → matches subject rule.want ≡ true → first.severity ≤ rule.severity
    all zero rule stands matching = let same : first.severity ≡ rule.severity = ap (λ (r : Rule). r.severity) (same_Some first rule stands) in omega arith
    all (suc at) rule stands matching = let least = later.least at rule stands matching in omega arith

pub least_is : (subject : Subject) (rules : List Rule) (number : ℕ) → least_match subject rules ≡ Some number → IsLeastMatch subject rules number
least_is subject [] number e = absurd (none-some number e)
least_is subject (first ∷ rules) number e = go (matches subject first.want) refl (least_match subject rules) refl (λ n. least_is subject rules n) e
  where
    go : (b : Bool) → matches subject first.want ≡ b → (later : Option ℕ) → least_match subject rules ≡ later
        → ((n : ℕ) → least_match subject rules ≡ Some n → IsLeastMatch subject rules n) → found b first.severity later ≡ Some number → IsLeastMatch subject (first ∷ rules) number
    go true m None l rec e = subst (λ (n : ℕ). IsLeastMatch subject (first ∷ rules) n) (same_Some first.severity number e) (first_is_least subject first rules m l)
    go true m (Some other) l rec e = subst (λ (n : ℕ). IsLeastMatch subject (first ∷ rules) n) (same_Some (min first.severity other) number e) (elim (cases_lt other first.severity) [
      | inl above ↦ let is : other ≡ min first.severity other = omega arith in
          subst (λ (n : ℕ). IsLeastMatch subject (first ∷ rules) n) is (later_is_least subject first rules other (λ _. omega arith) (rec other l))
      | inr below ↦ let is : first.severity ≡ min first.severity other = omega arith in
          subst (λ (n : ℕ). IsLeastMatch subject (first ∷ rules) n) is (both_least subject first rules other m below (rec other l))
    ])
    go false m later l rec e = later_is_least subject first rules number (λ yes. absurd (both_ways (matches subject first.want) m yes)) (rec number (l ∙ e))
