-- How far a text goes along the words that are wanted.
use Rattle.std.proofs.Common.{◌≡◌, ℕ, List, [], ◌∷◌, ◌∙◌, ap, sym, refl, subst, take, codes, max, Bool, true, false, not, cond, ◌⊎◌, inl, inr}
use Rattle.expr_lang.specs.Begun.{takes, leaves, openings, joins, comparisons, constants, fixed_length_of}
use Rattle.expr_lang.specs.Inner.BrokenWords.{is_text, is_int, is_path, text_length_of, int_length_of}
use Rattle.expr_lang.specs.declared.parser.Wanted.{Wanted}
use Rattle.expr_lang.specs.declared.parser.Wanted.TheVariants as wanted
use Rattle.expr_lang.specs.declared.token.Comparison.TheVariants.{Equal, NotEqual, Less, LessOrEqual, Greater, GreaterOrEqual, Contains, StartsWith, EndsWith, In}
use Rattle.expr_lang.specs.declared.token.Token.{Token}
use Rattle.expr_lang.specs.declared.token.Token.TheVariants as token
use Rattle.expr_lang.specs.Longest.{IsSpelling, IsLongest}
use Rattle.expr_lang.specs.Row.{IsToken}
use Rattle.expr_lang.proofs.Literals.{whole_spelling, text_longest, int_longest}
use Rattle.expr_lang.proofs.Longest.{OneOf, longest_like, longest_or, longest_one, longest_none, longest_of, longest_if}
use Rattle.expr_lang.proofs.Spellings.{spellings, Shape, shaped, spelled}

-- the spellings of the words that are wanted
abbrev pub Wants : Wanted → List ℕ → Type 0
Wants wanted s = IsSpelling (λ word. takes wanted word ≡ true) s

-- a word with a fixed spelling
wants : (by : Wanted) (w : Token) (s : List ℕ) → takes by w ≡ true → OneOf (spellings w) s → Wants by s
wants by w s t o = whole_spelling w s t (spelled w s o)

text_wanted : (by : Wanted) → ((content : List ℕ) → takes by (token.Text content) ≡ true) → (s : List ℕ) → IsSpelling (λ w. is_text w ≡ true) s → Wants by s
text_wanted by all s (w, n, bytes, is, t, e) = (w, n, bytes, which w is, t, e)
  where
    which : (w : Token) → is_text w ≡ true → takes by w ≡ true
    which (token.Text content) is = all content
    which _ is = absurd (cc is)

int_wanted : (by : Wanted) → ((w : Token) → is_int w ≡ true → takes by w ≡ true) → (s : List ℕ) → IsSpelling (λ w. is_int w ≡ true) s → Wants by s
int_wanted by all s (w, n, bytes, is, t, e) = (w, n, bytes, all w is, t, e)

path_wanted : (by : Wanted) → ((w : Token) → is_path w ≡ true → takes by w ≡ true) → (s : List ℕ) → IsSpelling (λ w. is_path w ≡ true) s → Wants by s
path_wanted by all s (w, n, bytes, is, t, e) = (w, n, bytes, all w is, t, e)

-- ints and texts between quotes
abbrev Literal : List ℕ → Type 0
Literal s = IsSpelling (λ w. is_text w ≡ true) s ⊎ IsSpelling (λ w. is_int w ≡ true) s

literal_longest : (text : List ℕ) → IsLongest Literal text (max (text_length_of text) (int_length_of text))
literal_longest text = longest_or (text_longest text) (int_longest text)

-- ---- an operand

module _ (nests : Bool) where
  abbrev Operands : List ℕ → Type 0
  Operands s = ((OneOf leaves s ⊎ ((nests ≡ true) × OneOf openings s)) ⊎ Literal s) ⊎ IsSpelling (λ w. is_path w ≡ true) s

  operand_int : (w : Token) → is_int w ≡ true → takes (wanted.Operand nests) w ≡ true
  operand_int (token.Int z) is = refl
  operand_int _ is = absurd (cc is)

  operand_path : (w : Token) → is_path w ≡ true → takes (wanted.Operand nests) w ≡ true
  operand_path (token.Path place) is = refl
  operand_path _ is = absurd (cc is)

  operand_wanted : (s : List ℕ) → Operands s → Wants (wanted.Operand nests) s
  operand_wanted s (inl (inl (inl (inl e)))) = wants (wanted.Operand nests) (token.Bool true) s refl (inl e)
  operand_wanted s (inl (inl (inl (inr (inl e))))) = wants (wanted.Operand nests) (token.Bool false) s refl (inl e)
  operand_wanted s (inl (inl (inl (inr (inr (inl e)))))) = wants (wanted.Operand nests) token.Null s refl (inl e)
  operand_wanted s (inl (inl (inl (inr (inr (inr (inl e))))))) = wants (wanted.Operand nests) token.SeverityNumber s refl (inl e)
  operand_wanted s (inl (inl (inl (inr (inr (inr (inr (inl e)))))))) = wants (wanted.Operand nests) token.SeverityText s refl (inl e)
  operand_wanted s (inl (inl (inl (inr (inr (inr (inr (inr x)))))))) = absurd x
  operand_wanted s (inl (inl (inr (t, inl e)))) = wants (wanted.Operand nests) token.Not s t (inl e)
  operand_wanted s (inl (inl (inr (t, inr (inl e))))) = wants (wanted.Operand nests) token.Not s t (inr (inl e))
  operand_wanted s (inl (inl (inr (t, inr (inr (inl e)))))) = wants (wanted.Operand nests) token.OpenGroup s t (inl e)
  operand_wanted s (inl (inl (inr (t, inr (inr (inr (inl e))))))) = wants (wanted.Operand nests) token.OpenList s t (inl e)
  operand_wanted s (inl (inl (inr (t, inr (inr (inr (inr x))))))) = absurd x
  operand_wanted s (inl (inr (inl t))) = text_wanted (wanted.Operand nests) (λ content. refl) s t
  operand_wanted s (inl (inr (inr i))) = int_wanted (wanted.Operand nests) operand_int s i
  operand_wanted s (inr p) = path_wanted (wanted.Operand nests) operand_path s p

  operand_known : (s : List ℕ) → Wants (wanted.Operand nests) s → Operands s
  operand_known s (w, n, bytes, is, t, e) = by w is t (shaped bytes w n t)
    where
      here : (c : List ℕ) → OneOf (c ∷ []) (take n bytes) → s ≡ c
      here c (inl f) = sym e ∙ f
      here c (inr x) = absurd x

      either : (c d : List ℕ) → OneOf (c ∷ d ∷ []) (take n bytes) → (s ≡ c) ⊎ (s ≡ d)
      either c d (inl f) = inl (sym e ∙ f)
      either c d (inr o) = inr (here d o)

      negation : nests ≡ true → (s ≡ codes "not") ⊎ (s ≡ codes "!") → Operands s
      negation h (inl f) = inl (inl (inr (h, inl f)))
      negation h (inr f) = inl (inl (inr (h, inr (inl f))))

      by : (w : Token) → takes (wanted.Operand nests) w ≡ true → IsToken bytes w n → Shape w (take n bytes) → Operands s
      by token.Null is t o = inl (inl (inl (inr (inr (inl (here (codes "nil") o))))))
      by (token.Bool true) is t o = inl (inl (inl (inl (here (codes "true") o))))
      by (token.Bool false) is t o = inl (inl (inl (inr (inl (here (codes "false") o)))))
      by (token.Int z) is t o = inl (inr (inr (token.Int z, n, bytes, refl, t, e)))
      by (token.Text content) is t o = inl (inr (inl (token.Text content, n, bytes, refl, t, e)))
      by (token.Path place) is t o = inr (token.Path place, n, bytes, refl, t, e)
      by token.SeverityNumber is t o = inl (inl (inl (inr (inr (inr (inl (here (codes "severity_number") o)))))))
      by token.SeverityText is t o = inl (inl (inl (inr (inr (inr (inr (inl (here (codes "severity_text") o))))))))
      by token.Not is t o = negation is (either (codes "not") (codes "!") o)
      by token.OpenGroup is t o = inl (inl (inr (is, inr (inr (inl (here (codes "(") o))))))
      by token.OpenList is t o = inl (inl (inr (is, inr (inr (inr (inl (here (codes "[") o)))))))
      by _ is t o = absurd (cc is)

  pub operand_longest : (text : List ℕ) (path : ℕ) → IsLongest (IsSpelling (λ w. is_path w ≡ true)) text path
      → IsLongest (Wants (wanted.Operand nests)) text (max (max (fixed_length_of (wanted.Operand nests) text) (max (text_length_of text) (int_length_of text))) path)
  operand_longest text path p =
      longest_like operand_wanted operand_known
      (longest_or (longest_or (longest_or (longest_of leaves text) (longest_if nests (longest_of openings text))) (literal_longest text)) p)

-- ---- what stands behind an operand

not_if : {P : List ℕ → Type 0} {text : List ℕ} {most : ℕ} (b : Bool) → IsLongest P text most → IsLongest (λ (s : List ℕ). (not b ≡ true) × P s) text (cond b 0 most)
not_if false l = longest_like (λ s p. (refl, p)) (λ s p. p.1) l
not_if {P} {text} true l = longest_none text (λ (s : List ℕ) (p : (false ≡ true) × P s). absurd (cc p.0))

module _ (compared closes : Bool) where
  abbrev Operators : List ℕ → Type 0
  Operators s = OneOf joins s ⊎ (((not compared ≡ true) × OneOf comparisons s) ⊎ ((closes ≡ true) × (s ≡ codes ")")))

  compares : (s : List ℕ) → not compared ≡ true → OneOf comparisons s → Wants (wanted.Operator compared closes) s
  compares s t (inl e) = wants (wanted.Operator compared closes) (token.Compares Equal) s t (inl e)
  compares s t (inr (inl e)) = wants (wanted.Operator compared closes) (token.Compares NotEqual) s t (inl e)
  compares s t (inr (inr (inl e))) = wants (wanted.Operator compared closes) (token.Compares LessOrEqual) s t (inl e)
  compares s t (inr (inr (inr (inl e)))) = wants (wanted.Operator compared closes) (token.Compares Less) s t (inl e)
  compares s t (inr (inr (inr (inr (inl e))))) = wants (wanted.Operator compared closes) (token.Compares GreaterOrEqual) s t (inl e)
  compares s t (inr (inr (inr (inr (inr (inl e)))))) = wants (wanted.Operator compared closes) (token.Compares Greater) s t (inl e)
  compares s t (inr (inr (inr (inr (inr (inr (inl e))))))) = wants (wanted.Operator compared closes) (token.Compares Contains) s t (inl e)
  compares s t (inr (inr (inr (inr (inr (inr (inr (inl e)))))))) = wants (wanted.Operator compared closes) (token.Compares StartsWith) s t (inl e)
  compares s t (inr (inr (inr (inr (inr (inr (inr (inr (inl e))))))))) = wants (wanted.Operator compared closes) (token.Compares EndsWith) s t (inl e)
  compares s t (inr (inr (inr (inr (inr (inr (inr (inr (inr (inl e)))))))))) = wants (wanted.Operator compared closes) (token.Compares In) s t (inl e)
  compares s t (inr (inr (inr (inr (inr (inr (inr (inr (inr (inr (inl e))))))))))) = wants (wanted.Operator compared closes) token.Matches s t (inl e)
  compares s t (inr (inr (inr (inr (inr (inr (inr (inr (inr (inr (inr x))))))))))) = absurd x

  operator_wanted : (s : List ℕ) → Operators s → Wants (wanted.Operator compared closes) s
  operator_wanted s (inl (inl e)) = wants (wanted.Operator compared closes) token.And s refl (inl e)
  operator_wanted s (inl (inr (inl e))) = wants (wanted.Operator compared closes) token.And s refl (inr (inl e))
  operator_wanted s (inl (inr (inr (inl e)))) = wants (wanted.Operator compared closes) token.Or s refl (inl e)
  operator_wanted s (inl (inr (inr (inr (inl e))))) = wants (wanted.Operator compared closes) token.Or s refl (inr (inl e))
  operator_wanted s (inl (inr (inr (inr (inr x))))) = absurd x
  operator_wanted s (inr (inl (t, o))) = compares s t o
  operator_wanted s (inr (inr (t, e))) = wants (wanted.Operator compared closes) token.CloseGroup s t (inl e)

  operator_known : (s : List ℕ) → Wants (wanted.Operator compared closes) s → Operators s
  operator_known s (w, n, bytes, is, t, e) = by w is (shaped bytes w n t)
    where
      here : (c : List ℕ) → OneOf (c ∷ []) (take n bytes) → s ≡ c
      here c (inl f) = sym e ∙ f
      here c (inr x) = absurd x

      joined : (c d : List ℕ) → OneOf (c ∷ d ∷ []) (take n bytes) → (s ≡ c → OneOf joins s) → (s ≡ d → OneOf joins s) → Operators s
      joined c d (inl f) a b = inl (a (sym e ∙ f))
      joined c d (inr o) a b = inl (b (here d o))

      by : (w : Token) → takes (wanted.Operator compared closes) w ≡ true → Shape w (take n bytes) → Operators s
      by token.And is o = joined (codes "and") (codes "&&") o (λ f. inl f) (λ f. inr (inl f))
      by token.Or is o = joined (codes "or") (codes "||") o (λ f. inr (inr (inl f))) (λ f. inr (inr (inr (inl f))))
      by (token.Compares Equal) is o = inr (inl (is, inl (here (codes "==") o)))
      by (token.Compares NotEqual) is o = inr (inl (is, inr (inl (here (codes "!=") o))))
      by (token.Compares LessOrEqual) is o = inr (inl (is, inr (inr (inl (here (codes "<=") o)))))
      by (token.Compares Less) is o = inr (inl (is, inr (inr (inr (inl (here (codes "<") o))))))
      by (token.Compares GreaterOrEqual) is o = inr (inl (is, inr (inr (inr (inr (inl (here (codes ">=") o)))))))
      by (token.Compares Greater) is o = inr (inl (is, inr (inr (inr (inr (inr (inl (here (codes ">") o))))))))
      by (token.Compares Contains) is o = inr (inl (is, inr (inr (inr (inr (inr (inr (inl (here (codes "contains") o)))))))))
      by (token.Compares StartsWith) is o = inr (inl (is, inr (inr (inr (inr (inr (inr (inr (inl (here (codes "startsWith") o))))))))))
      by (token.Compares EndsWith) is o = inr (inl (is, inr (inr (inr (inr (inr (inr (inr (inr (inl (here (codes "endsWith") o)))))))))))
      by (token.Compares In) is o = inr (inl (is, inr (inr (inr (inr (inr (inr (inr (inr (inr (inl (here (codes "in") o))))))))))))
      by token.Matches is o = inr (inl (is, inr (inr (inr (inr (inr (inr (inr (inr (inr (inr (inl (here (codes "matches") o)))))))))))))
      by token.CloseGroup is o = inr (inr (is, here (codes ")") o))
      by _ is o = absurd (cc is)

  pub operator_longest : (text : List ℕ) → IsLongest (Wants (wanted.Operator compared closes)) text (fixed_length_of (wanted.Operator compared closes) text)
  operator_longest text =
      longest_like operator_wanted operator_known
      (longest_or (longest_of joins text) (longest_or (not_if compared (longest_of comparisons text)) (longest_if closes (longest_one (codes ")") text))))

-- ---- a pattern, and what stands in a list

pattern_known : (s : List ℕ) → Wants wanted.Pattern s → IsSpelling (λ w. is_text w ≡ true) s
pattern_known s (w, n, bytes, is, t, e) = (w, n, bytes, by w is, t, e)
  where
    by : (w : Token) → takes wanted.Pattern w ≡ true → is_text w ≡ true
    by (token.Text content) is = refl
    by _ is = absurd (cc is)

pub pattern_longest : (text : List ℕ) → IsLongest (Wants wanted.Pattern) text (text_length_of text)
pattern_longest text = longest_like (text_wanted wanted.Pattern (λ content. refl)) pattern_known (text_longest text)

abbrev Items : List ℕ → Type 0
Items s = OneOf constants s ⊎ Literal s

next_int : (w : Token) → is_int w ≡ true → takes wanted.NextItem w ≡ true
next_int (token.Int z) is = refl
next_int _ is = absurd (cc is)

next_wanted : (s : List ℕ) → Items s → Wants wanted.NextItem s
next_wanted s (inl (inl e)) = wants wanted.NextItem (token.Bool true) s refl (inl e)
next_wanted s (inl (inr (inl e))) = wants wanted.NextItem (token.Bool false) s refl (inl e)
next_wanted s (inl (inr (inr (inl e)))) = wants wanted.NextItem token.Null s refl (inl e)
next_wanted s (inl (inr (inr (inr x)))) = absurd x
next_wanted s (inr (inl t)) = text_wanted wanted.NextItem (λ content. refl) s t
next_wanted s (inr (inr i)) = int_wanted wanted.NextItem next_int s i

next_known : (s : List ℕ) → Wants wanted.NextItem s → Items s
next_known s (w, n, bytes, is, t, e) = by w is t (shaped bytes w n t)
  where
    here : (c : List ℕ) → OneOf (c ∷ []) (take n bytes) → s ≡ c
    here c (inl f) = sym e ∙ f
    here c (inr x) = absurd x

    by : (w : Token) → takes wanted.NextItem w ≡ true → IsToken bytes w n → Shape w (take n bytes) → Items s
    by token.Null is t o = inl (inr (inr (inl (here (codes "nil") o))))
    by (token.Bool true) is t o = inl (inl (here (codes "true") o))
    by (token.Bool false) is t o = inl (inr (inl (here (codes "false") o)))
    by (token.Int z) is t o = inr (inr (token.Int z, n, bytes, refl, t, e))
    by (token.Text content) is t o = inr (inl (token.Text content, n, bytes, refl, t, e))
    by _ is t o = absurd (cc is)

pub next_longest : (text : List ℕ) → IsLongest (Wants wanted.NextItem) text (max (fixed_length_of wanted.NextItem text) (max (text_length_of text) (int_length_of text)))
next_longest text = longest_like next_wanted next_known (longest_or (longest_of constants text) (literal_longest text))

abbrev FirstItems : List ℕ → Type 0
FirstItems s = (OneOf constants s ⊎ (s ≡ codes "]")) ⊎ Literal s

first_int : (w : Token) → is_int w ≡ true → takes wanted.FirstItem w ≡ true
first_int (token.Int z) is = refl
first_int _ is = absurd (cc is)

first_wanted : (s : List ℕ) → FirstItems s → Wants wanted.FirstItem s
first_wanted s (inl (inl (inl e))) = wants wanted.FirstItem (token.Bool true) s refl (inl e)
first_wanted s (inl (inl (inr (inl e)))) = wants wanted.FirstItem (token.Bool false) s refl (inl e)
first_wanted s (inl (inl (inr (inr (inl e))))) = wants wanted.FirstItem token.Null s refl (inl e)
first_wanted s (inl (inl (inr (inr (inr x))))) = absurd x
first_wanted s (inl (inr e)) = wants wanted.FirstItem token.CloseList s refl (inl e)
first_wanted s (inr (inl t)) = text_wanted wanted.FirstItem (λ content. refl) s t
first_wanted s (inr (inr i)) = int_wanted wanted.FirstItem first_int s i

first_known : (s : List ℕ) → Wants wanted.FirstItem s → FirstItems s
first_known s (w, n, bytes, is, t, e) = by w is t (shaped bytes w n t)
  where
    here : (c : List ℕ) → OneOf (c ∷ []) (take n bytes) → s ≡ c
    here c (inl f) = sym e ∙ f
    here c (inr x) = absurd x

    by : (w : Token) → takes wanted.FirstItem w ≡ true → IsToken bytes w n → Shape w (take n bytes) → FirstItems s
    by token.Null is t o = inl (inl (inr (inr (inl (here (codes "nil") o)))))
    by (token.Bool true) is t o = inl (inl (inl (here (codes "true") o)))
    by (token.Bool false) is t o = inl (inl (inr (inl (here (codes "false") o))))
    by token.CloseList is t o = inl (inr (here (codes "]") o))
    by (token.Int z) is t o = inr (inr (token.Int z, n, bytes, refl, t, e))
    by (token.Text content) is t o = inr (inl (token.Text content, n, bytes, refl, t, e))
    by _ is t o = absurd (cc is)

pub first_longest : (text : List ℕ) → IsLongest (Wants wanted.FirstItem) text (max (fixed_length_of wanted.FirstItem text) (max (text_length_of text) (int_length_of text)))
first_longest text = longest_like first_wanted first_known (longest_or (longest_or (longest_of constants text) (longest_one (codes "]") text)) (literal_longest text))

after_wanted : (s : List ℕ) → (s ≡ codes ",") ⊎ (s ≡ codes "]") → Wants wanted.AfterItem s
after_wanted s (inl e) = wants wanted.AfterItem token.Comma s refl (inl e)
after_wanted s (inr e) = wants wanted.AfterItem token.CloseList s refl (inl e)

after_known : (s : List ℕ) → Wants wanted.AfterItem s → (s ≡ codes ",") ⊎ (s ≡ codes "]")
after_known s (w, n, bytes, is, t, e) = by w is (shaped bytes w n t)
  where
    here : (c : List ℕ) → OneOf (c ∷ []) (take n bytes) → s ≡ c
    here c (inl f) = sym e ∙ f
    here c (inr x) = absurd x

    by : (w : Token) → takes wanted.AfterItem w ≡ true → Shape w (take n bytes) → (s ≡ codes ",") ⊎ (s ≡ codes "]")
    by token.Comma is o = inl (here (codes ",") o)
    by token.CloseList is o = inr (here (codes "]") o)
    by _ is o = absurd (cc is)

pub after_longest : (text : List ℕ) → IsLongest (Wants wanted.AfterItem) text (fixed_length_of wanted.AfterItem text)
after_longest text = longest_like after_wanted after_known (longest_or (longest_one (codes ",") text) (longest_one (codes "]") text))

-- ---- what the code finds

longest_at : (by by2 : Wanted) (text : List ℕ) (r most : ℕ) → by ≡ by2 → r ≡ most → IsLongest (Wants by2) text most → IsLongest (Wants by) text r
longest_at by by2 text r most w e l = subst (λ (v : Wanted). IsLongest (Wants v) text r) (sym w) (subst (IsLongest (Wants by2) text) (sym e) l)

pub operand_is : (by : Wanted) (text : List ℕ) (r most fixed literal path : ℕ) (nests : Bool) → by ≡ wanted.Operand nests → r ≡ max most path → most ≡ max fixed literal → fixed ≡ fixed_length_of by text
    → literal ≡ max (text_length_of text) (int_length_of text) → IsLongest (IsSpelling (λ w. is_path w ≡ true)) text path → IsLongest (Wants by) text r
operand_is by text r most fixed literal path nests w e m f l p =
    let fixed_is : fixed ≡ fixed_length_of (wanted.Operand nests) text = f ∙ ap (λ (v : Wanted). fixed_length_of v text) w in
    let is : r ≡ max (max (fixed_length_of (wanted.Operand nests) text) (max (text_length_of text) (int_length_of text))) path =
    e ∙ ap (λ (n : ℕ). max n path) (m ∙ ap (λ (n : ℕ). max n literal) fixed_is ∙ ap (max (fixed_length_of (wanted.Operand nests) text)) l) in
    longest_at by (wanted.Operand nests) text r (max (max (fixed_length_of (wanted.Operand nests) text) (max (text_length_of text) (int_length_of text))) path) w is (operand_longest nests text path p)

pub items_are : (by : Wanted) (text : List ℕ) (r fixed literal : ℕ) → (by ≡ wanted.FirstItem) ⊎ (by ≡ wanted.NextItem) → r ≡ max fixed literal → fixed ≡ fixed_length_of by text
    → literal ≡ max (text_length_of text) (int_length_of text) → IsLongest (Wants by) text r
items_are by text r fixed literal which e f l = go which
  where
    is : (v : Wanted) → by ≡ v → r ≡ max (fixed_length_of v text) (max (text_length_of text) (int_length_of text))
    is v w = e ∙ ap (λ (n : ℕ). max n literal) (f ∙ ap (λ (u : Wanted). fixed_length_of u text) w) ∙ ap (max (fixed_length_of v text)) l

    go : (by ≡ wanted.FirstItem) ⊎ (by ≡ wanted.NextItem) → IsLongest (Wants by) text r
    go (inl w) = longest_at by wanted.FirstItem text r (max (fixed_length_of wanted.FirstItem text) (max (text_length_of text) (int_length_of text))) w (is wanted.FirstItem w) (first_longest text)
    go (inr w) = longest_at by wanted.NextItem text r (max (fixed_length_of wanted.NextItem text) (max (text_length_of text) (int_length_of text))) w (is wanted.NextItem w) (next_longest text)

pub pattern_is : (by : Wanted) (text : List ℕ) (r : ℕ) → by ≡ wanted.Pattern → r ≡ text_length_of text → IsLongest (Wants by) text r
pattern_is by text r w e = longest_at by wanted.Pattern text r (text_length_of text) w e (pattern_longest text)

pub operators_are : (by : Wanted) (text : List ℕ) (r : ℕ) → ((compared : Bool) × (closes : Bool) × (by ≡ wanted.Operator compared closes)) ⊎ (by ≡ wanted.AfterItem) → r ≡ fixed_length_of by text → IsLongest (Wants by) text r
operators_are by text r (inl (compared, closes, w)) f =
    longest_at by (wanted.Operator compared closes) text r (fixed_length_of (wanted.Operator compared closes) text) w (f ∙ ap (λ (v : Wanted). fixed_length_of v text) w) (operator_longest compared closes text)
operators_are by text r (inr w) f = longest_at by wanted.AfterItem text r (fixed_length_of wanted.AfterItem text) w (f ∙ ap (λ (v : Wanted). fixed_length_of v text) w) (after_longest text)
