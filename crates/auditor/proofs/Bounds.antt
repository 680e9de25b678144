-- Cuts up to a place.
use Rattle.std.proofs.Common.{◌≡◌, inl, inr, ℕ, ◌-◌, ◌<◌, ◌≤◌, List, [], ◌∷◌, ◌++◌, false, nat_le, refl, sym, ap, ◌∙◌, subst, arith}
use Rattle.std.specs.Prelude.{All}
use Rattle.std.proofs.lemmas.Bool.{cases_Bool, cond-true, cond-false, leb-true, le-leb}
use Rattle.std.proofs.lemmas.List.Elements.{All-head, All-tail}
use Rattle.std.proofs.lemmas.List.Sums.{sum_by-cons}
use Rattle.line_splitter.specs.Cuts.{Cut}
use Rattle.standing.specs.Rules.{Rules}
use Rattle.standing.specs.Tokens.{UpTo, texts, used_by}
use Rattle.auditor.specs.Asked.{cuts_before}

abbrev pub UsesSome : Cut → Type 0
UsesSome c = 1 ≤ c.used

pub cut_fits : (n : ℕ) (c : Cut) (cs : List Cut) → c.used ≤ n → cuts_before n (c ∷ cs) ≡ c ∷ cuts_before (n - c.used) cs
cut_fits n c cs fits = cond-true (nat_le c.used n) (c ∷ cuts_before (n - c.used) cs) [] (le-leb c.used n fits)

pub cut_passes : (n : ℕ) (c : Cut) (cs : List Cut) → n < c.used → cuts_before n (c ∷ cs) ≡ []
cut_passes n c cs passes = cond-false (nat_le c.used n) (c ∷ cuts_before (n - c.used) cs) [] (false_le c.used n passes)
  where
    false_le : (m k : ℕ) → k < m → nat_le m k ≡ false
    false_le m k less = elim (cases_Bool (nat_le m k)) [ inl t ↦ absurd (omega (arith, less, leb-true m k t)) | inr f ↦ f ]

-- some cuts end within, and others follow
pub record SplitsThere (n : ℕ) (cs : List Cut) : Type 0 where
  pub rest : List Cut
  pub split : cs ≡ cuts_before n cs ++ rest
  pub within : used_by (cuts_before n cs) ≤ n

pub splits_there : (n : ℕ) (cs : List Cut) → SplitsThere n cs
splits_there n [] = record { rest = []; split = refl; within = omega arith }
splits_there n (c ∷ cs) =
    elim (cases_Bool (nat_le c.used n)) [
      | inl t ↦
          let fits : c.used ≤ n = leb-true c.used n t in
          let more = splits_there (n - c.used) cs in
          let is = cut_fits n c cs fits in
          record {
            rest = more.rest;
            split = ap (λ (l : List Cut). c ∷ l) more.split ∙ ap (λ (l : List Cut). l ++ more.rest) (sym is);
            within = omega (arith, ap used_by is, sum_by-cons (λ (d : Cut). d.used) c (cuts_before (n - c.used) cs), more.within, fits);
          }
      | inr f ↦
          let is : cuts_before n (c ∷ cs) ≡ [] = cond-false (nat_le c.used n) (c ∷ cuts_before (n - c.used) cs) [] f in
          record {
            rest = c ∷ cs;
            split = ap (λ (l : List Cut). l ++ c ∷ cs) (sym is);
            within = omega (arith, ap used_by is);
          }
    ]

pub before_taken : (n : ℕ) (taken behind : List Cut) → used_by taken ≡ n → All UsesSome (taken ++ behind) → cuts_before n (taken ++ behind) ≡ taken
before_taken n [] [] uses all = refl
before_taken n [] (c ∷ behind) uses all = cut_passes n c behind (omega (arith, uses, All-head UsesSome c behind all))
before_taken n (c ∷ taken) behind uses all =
    let sum = sum_by-cons (λ (d : Cut). d.used) c taken in
    cut_fits n c (taken ++ behind) (omega (arith, sum, uses))
    ∙ ap (λ (l : List Cut). c ∷ l) (before_taken (n - c.used) taken behind (omega (arith, sum, uses)) (All-tail UsesSome c (taken ++ behind) all))

module _ (rules : Rules) (content : List ℕ) (n : ℕ) where
  abbrev up_to_there : List Cut
  up_to_there = cuts_before n (rules.cuts content)

  pub bound_here : used_by up_to_there ≡ n → UpTo rules content n (texts up_to_there)
  bound_here uses =
      let there = splits_there n (rules.cuts content) in
      record { taken = up_to_there; behind = there.rest; split = there.split; uses = uses; are = refl }

  up_to_is : (tokens : List (List ℕ)) (bound : UpTo rules content n tokens) → All UsesSome (rules.cuts content) → up_to_there ≡ bound.taken
  up_to_is tokens bound all =
      ap (cuts_before n) bound.split ∙ before_taken n bound.taken bound.behind bound.uses (subst (All UsesSome) bound.split all)

  pub bound_uses : (tokens : List (List ℕ)) → UpTo rules content n tokens → All UsesSome (rules.cuts content) → used_by up_to_there ≡ n
  bound_uses tokens bound all = ap used_by (up_to_is tokens bound all) ∙ bound.uses

  pub bound_tokens : (tokens : List (List ℕ)) → UpTo rules content n tokens → All UsesSome (rules.cuts content) → tokens ≡ texts up_to_there
  bound_tokens tokens bound all = bound.are ∙ ap texts (sym (up_to_is tokens bound all))
