-- The rules of the worked histories.
use Rattle.std.proofs.Common.{◌≡◌, ℕ, zero, suc, ◌<◌, ◌≤◌, List, [], ◌∷◌, ◌++◌, length, drop, true, false, refl, sym, ap, subst, ◌∙◌, inl, inr, arith}
use Rattle.std.specs.List.{All}
use Rattle.std.specs.Option.{option_map_or}
use Rattle.std.specs.Prelude.{Option}
use Rattle.std.proofs.lemmas.List.{drop-drop, map-append}
use Rattle.std.proofs.lemmas.List.Elements.{All-nil, All-cons}
use Rattle.std.proofs.lemmas.List.Sums.{sum_by-cons}
use Rattle.entry_model.specs.LogRecord.{of_text}
use Rattle.idle_flush.proofs.RestLemmas.{uses_all}
use Rattle.idle_flush.specs.Rests.{rest_cuts}
use Rattle.line_splitter.specs.Cuts.{Cut, cuts_within, cuts, IsCutRule}
use Rattle.line_splitter.specs.LineTokens.{first_cut}
use Rattle.line_splitter.proofs.CutLemmas.{option_tells, rule_used, cuts-none, cuts-some, used_by-cuts, cuts-append}
use Rattle.line_splitter.proofs.LineLemmas.{first_cut-is_rule}
use Rattle.standing.specs.AreRules.{AreRules}
use Rattle.standing.specs.Example.{is_empty, line_text, each_line}
use Rattle.standing.specs.Marks.{Mark}
use Rattle.standing.specs.Tokens.{used_by}

module _ (first : List ℕ → Option Cut) (rule : IsCutRule first) where
  all_used_within : (n : ℕ) (b : List ℕ) → All (λ (c : Cut). 1 ≤ c.used) (cuts_within first n b)
  unfolding cuts_within
  all_used_within zero b = All-nil (λ (c : Cut). 1 ≤ c.used)
  all_used_within (suc n) b =
      let P : Option Cut → Type 0 = λ o. All (λ (c : Cut). 1 ≤ c.used) (option_map_or (λ (c : Cut). c ∷ cuts_within first n (drop c.used b)) o []) in
      elim (option_tells (first b)) [
        | inl none ↦ subst P (sym none) (All-nil (λ (c : Cut). 1 ≤ c.used))
        | inr some ↦ subst P (sym some.1) (All-cons (λ (c : Cut). 1 ≤ c.used) some.0 (cuts_within first n (drop some.0.used b)) (rule_used first rule b some.0 some.1) (all_used_within n (drop some.0.used b)))
      ]

  pub all_used : (b : List ℕ) → All (λ (c : Cut). 1 ≤ c.used) (cuts first b)
  unfolding cuts
  all_used b = all_used_within (length b) b

  pub cuts_go_on : (b : List ℕ) (taken behind : List Cut) → cuts first b ≡ taken ++ behind → cuts first (drop (used_by taken) b) ≡ behind
  cuts_go_on b [] behind is = is
  cuts_go_on b (c ∷ taken) behind is =
      elim (option_tells (first b)) [
        | inl none ↦ absurd (let never : ◌≡◌ {A = List Cut} [] (c ∷ (taken ++ behind)) = sym (cuts-none first b none) ∙ is in cc)
        | inr some ↦
            let both : ◌≡◌ {A = List Cut} (some.0 ∷ cuts first (drop some.0.used b)) (c ∷ (taken ++ behind)) = sym (cuts-some first rule b some.0 some.1) ∙ is in
            let same : some.0 ≡ c = cc in
            let others : cuts first (drop some.0.used b) ≡ taken ++ behind = cc in
            let rest : cuts first (drop c.used b) ≡ taken ++ behind = ap (λ (d : Cut). cuts first (drop d.used b)) (sym same) ∙ others in
            ap (λ n. cuts first (drop n b)) (sum_by-cons (λ (d : Cut). d.used) c taken)
            ∙ ap (cuts first) (sym (drop-drop (used_by taken) c.used b))
            ∙ cuts_go_on (drop c.used b) taken behind rest
      ]

is_empty-true : (state : List ℕ) → is_empty state ≡ true → state ≡ []
is_empty-true [] is = refl
is_empty-true (byte ∷ rest) is = let never : false ≡ true = is in absurd (cc)

line_not_empty : (mark : Mark) → 0 < length (line_text mark)
unfolding line_text
line_not_empty mark = omega arith

pub each_line_is_rules : AreRules each_line
each_line_is_rules =
    let rule : IsCutRule (first_cut 64) = first_cut-is_rule 64 (omega arith) in
    record {
      tokens = record {
        each_uses = all_used (first_cut 64) rule;
        within = used_by-cuts (first_cut 64) rule;
        lasting = λ content more. (cuts (first_cut 64) (drop (used_by (cuts (first_cut 64) content)) content ++ more), cuts-append (first_cut 64) rule content more);
        going_on = cuts_go_on (first_cut 64) rule;
        resting = λ content. record { taken = rest_cuts 64 content; are = refl; uses = uses_all 64 content (omega arith) };
      };
      operators = record {
        fresh_is_state = refl;
        state_goes_on = λ path before state tokens is. refl;
        none_made = λ path before state is. refl;
        made_in_parts = λ path before state tokens more is. map-append of_text tokens more;
        state_stays = λ path before state is. sym (is_empty-true state is);
        state_in_parts = λ path before state tokens more is. refl;
      };
      lines = record {
        not_empty = line_not_empty;
        tells_all = λ mark other rest more fits other_fits same. absurd (let never : false ≡ true = fits in cc);
      };
      front_size = omega arith;
    }
