-- Tags and what stands behind them.
use Rattle.std.proofs.Common.{◌≡◌, ℕ, ◌<◌, List, [], ◌∷◌, length, take, ap, ap₂, sym, refl, subst, ◌∙◌, Bool, true, false, cond, Option, None, Some, ◌==◌, arith}
use Rattle.std.proofs.lemmas.Bool.{eqb-true}
use Rattle.std.specs.List.{before_first}
use Rattle.json_text.specs.Leftmost.{Begins, IsLeftmostFault}
use Rattle.container_parser.specs.CriLines.{Content, IsContent, marked_partial, tagged_partial, tag_reach}
use Rattle.container_parser.specs.Words.{is_space}
use Rattle.container_parser.proofs.Words.{word_goes_on, behind_goes_on}

abbrev content : Bool → List ℕ → Content
content partial text = record { partial = partial; text = text }

abbrev word : List ℕ → List ℕ
word = before_first is_space

-- ---- what a tag begins with

tag_mark : (b : ℕ) (tag : List ℕ) (p : Bool) → tagged_partial (b ∷ tag) ≡ Some p → marked_partial b ≡ Some p
tag_mark b [] p e = e
tag_mark b (next ∷ rest) p e = by (next == 58) e
  where
    by : (r : Bool) → cond r (marked_partial b) None ≡ Some p → marked_partial b ≡ Some p
    by true e = e
    by false e = absurd (cc e)

word_mark : (b : ℕ) (rest : List ℕ) (p : Bool) → tagged_partial (word (b ∷ rest)) ≡ Some p → marked_partial b ≡ Some p
word_mark b rest p e = by (is_space b) refl
  where
    by : (r : Bool) → is_space b ≡ r → marked_partial b ≡ Some p
    by true space = let none : word (b ∷ rest) ≡ [] = rw space refl in let off : None ≡ Some p = ap tagged_partial (sym none) ∙ e in absurd (cc off)
    by false apart = tag_mark b (word rest) p (ap tagged_partial (sym (word_goes_on b rest apart)) ∙ e)

mark_is_no_space : (b : ℕ) (p : Bool) → marked_partial b ≡ Some p → is_space b ≡ false
mark_is_no_space b p e = by (is_space b) refl
  where
    by : (r : Bool) → (b == 32) ≡ r → r ≡ false
    by false _ = refl
    by true is = let same : b ≡ 32 = eqb-true b 32 is in let off : marked_partial 32 ≡ Some p = subst (λ (n : ℕ). marked_partial n ≡ Some p) same e in absurd (cc off)

-- ---- the first byte from which a text can't go on

no_mark : (b : ℕ) (rest : List ℕ) → marked_partial b ≡ None → IsLeftmostFault IsContent (b ∷ rest) 0
no_mark b rest none = record {
  within = omega arith;
  begins = record { more = 70 ∷ []; value = content false []; goes_on = record { tag = refl; text = refl } };
  stops = λ h begun. let e = word_mark b begun.more begun.value.partial begun.goes_on.tag in absurd (cc (none, e));
  none = λ v is. let e = word_mark b rest v.partial is.tag in absurd (cc (none, e));
}

-- behind a mark the tag ends or has a colon
by_colon : (b : ℕ) (p q : Bool) (r : Bool) → marked_partial b ≡ Some p → cond r (marked_partial b) None ≡ None → cond r (marked_partial b) None ≡ Some q → ⊥
by_colon b p q true mark none goes = cc (none, mark)
by_colon b p q false mark none goes = cc goes

marked_on : (b c : ℕ) (rest more : List ℕ) (p q : Bool) → marked_partial b ≡ Some p → tagged_partial (b ∷ word (c ∷ rest)) ≡ None
    → tagged_partial (b ∷ word (c ∷ more)) ≡ Some q → ⊥
marked_on b c rest more p q mark none goes = by (is_space c) refl
  where
    by : (r : Bool) → is_space c ≡ r → ⊥
    by true space =
        let ends : word (c ∷ rest) ≡ [] = rw space refl in
        let off : marked_partial b ≡ None = ap (λ (t : List ℕ). tagged_partial (b ∷ t)) (sym ends) ∙ none in
        cc (off, mark)
    by false apart = by_colon b p q (c == 58) mark
        (ap (λ (t : List ℕ). tagged_partial (b ∷ t)) (sym (word_goes_on c rest apart)) ∙ none)
        (ap (λ (t : List ℕ). tagged_partial (b ∷ t)) (sym (word_goes_on c more apart)) ∙ goes)

mark_alone : (b : ℕ) (p : Bool) → marked_partial b ≡ Some p → IsContent (b ∷ []) (content p [])
mark_alone b p mark = let apart = mark_is_no_space b p mark in record {
  tag = ap tagged_partial (word_goes_on b [] apart) ∙ mark;
  text = sym (behind_goes_on b [] apart);
}

mark_stops : (b : ℕ) (rest : List ℕ) (p : Bool) → marked_partial b ≡ Some p → tagged_partial (word (b ∷ rest)) ≡ None → 1 < length (b ∷ rest)
    → Begins IsContent (take 2 (b ∷ rest)) → ⊥
mark_stops b [] p mark none h begun = absurd (omega arith)
mark_stops b (c ∷ rest) p mark none h begun =
    let apart = mark_is_no_space b p mark in
    marked_on b c rest begun.more p begun.value.partial mark
    (ap tagged_partial (sym (word_goes_on b (c ∷ rest) apart)) ∙ none)
    (ap tagged_partial (sym (word_goes_on b (c ∷ begun.more) apart)) ∙ begun.goes_on.tag)

no_colon : (b : ℕ) (rest : List ℕ) (p : Bool) → marked_partial b ≡ Some p → tagged_partial (word (b ∷ rest)) ≡ None → IsLeftmostFault IsContent (b ∷ rest) 1
no_colon b rest p mark none = record {
  within = omega arith;
  begins = record { more = []; value = content p []; goes_on = mark_alone b p mark };
  stops = mark_stops b rest p mark none;
  none = λ v is. let e = is.tag in absurd (cc (none, e));
}

pub content_fault : (bytes : List ℕ) → tagged_partial (word bytes) ≡ None → IsLeftmostFault IsContent bytes (tag_reach bytes)
content_fault [] none = record {
  within = omega arith;
  begins = record { more = 70 ∷ []; value = content false []; goes_on = record { tag = refl; text = refl } };
  stops = λ h begun. absurd (omega arith);
  none = λ v is. let e = is.tag in absurd (cc (none, e));
}
content_fault (b ∷ rest) none = by (marked_partial b) refl
  where
    by : (m : Option Bool) → marked_partial b ≡ m → IsLeftmostFault IsContent (b ∷ rest) (tag_reach (b ∷ rest))
    by None e = let at : tag_reach (b ∷ rest) ≡ 0 = rw e refl in subst (λ (n : ℕ). IsLeftmostFault IsContent (b ∷ rest) n) (sym at) (no_mark b rest e)
    by (Some p) e = let at : tag_reach (b ∷ rest) ≡ 1 = rw e refl in subst (λ (n : ℕ). IsLeftmostFault IsContent (b ∷ rest) n) (sym at) (no_colon b rest p e none)

-- a text says one thing behind a stream
pub one_content : (bytes : List ℕ) (c d : Content) → IsContent bytes c → IsContent bytes d → c ≡ d
one_content bytes c d one two =
    let partial : c.partial ≡ d.partial = let e = one.tag in let f = two.tag in cc (e, f) in
    let same : c.text ≡ d.text = one.text ∙ sym two.text in
    ap₂ content partial same
