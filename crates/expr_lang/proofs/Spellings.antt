-- What the bytes of a word look like.
use Rattle.std.proofs.Common.{◌≡◌, ℕ, ℤ, suc, ◌+◌, List, [], ◌∷◌, ◌∙◌, ap, sym, refl, subst, length, take, slice_index, codes, Option, None, Some, option_map, Bool, true, false, cond, nat_eq, ◌||◌, inl, inr, arith}
use Rattle.std.specs.Option.{option_map_or, option_or}
use Rattle.std.specs.List.{take_while, list_all}
use Rattle.std.specs.Str.{bytes_eq}
use Rattle.std.proofs.lemmas.Bool.{eqb-true}
use Rattle.std.proofs.lemmas.List.Sums.{take_while-cons}
use Rattle.std.proofs.lemmas.Slice.Eq.{bytes_eq-Decides}
use Rattle.field_paths.specs.Place.{Place}
use Rattle.field_paths.specs.PathText.{IsPathText}
use Rattle.expr_lang.specs.declared.token.Comparison.TheVariants.{Equal, NotEqual, Less, LessOrEqual, Greater, GreaterOrEqual, Contains, StartsWith, EndsWith, In}
use Rattle.expr_lang.specs.declared.token.Comparison.{Comparison}
use Rattle.expr_lang.specs.declared.token.Token.{Token}
use Rattle.expr_lang.specs.declared.token.Token.TheVariants as token
use Rattle.expr_lang.specs.declared.lexer.Spot.TheVariants as spot
use Rattle.expr_lang.specs.Row.{IsToken, path_length}
use Rattle.expr_lang.specs.Words.{is_digit, is_word_byte, is_quote, word, begins_path, plain_token, text_token, int_token, int_of, keyword, operand_word, operator_word, symbol, quoted}
use Rattle.expr_lang.proofs.Longest.{OneOf}

abbrev Word : Type 0
Word = Token × ℕ

abbrev comparison_spelling : Comparison → List ℕ
comparison_spelling Equal = codes "=="
comparison_spelling NotEqual = codes "!="
comparison_spelling Less = codes "<"
comparison_spelling LessOrEqual = codes "<="
comparison_spelling Greater = codes ">"
comparison_spelling GreaterOrEqual = codes ">="
comparison_spelling Contains = codes "contains"
comparison_spelling StartsWith = codes "startsWith"
comparison_spelling EndsWith = codes "endsWith"
comparison_spelling In = codes "in"

-- the spellings of a word that is no int, text or path
abbrev pub spellings : Token → List (List ℕ)
spellings token.Null = codes "nil" ∷ []
spellings (token.Bool true) = codes "true" ∷ []
spellings (token.Bool false) = codes "false" ∷ []
spellings (token.Int z) = []
spellings (token.Text bytes) = []
spellings (token.Path place) = []
spellings token.SeverityNumber = codes "severity_number" ∷ []
spellings token.SeverityText = codes "severity_text" ∷ []
spellings token.Not = codes "not" ∷ codes "!" ∷ []
spellings token.And = codes "and" ∷ codes "&&" ∷ []
spellings token.Or = codes "or" ∷ codes "||" ∷ []
spellings (token.Compares operator) = comparison_spelling operator ∷ []
spellings token.Matches = codes "matches" ∷ []
spellings token.OpenGroup = codes "(" ∷ []
spellings token.CloseGroup = codes ")" ∷ []
spellings token.OpenList = codes "[" ∷ []
spellings token.CloseList = codes "]" ∷ []
spellings token.Comma = codes "," ∷ []

abbrev pub IsTextSpelled : List ℕ → List ℕ → Type 0
IsTextSpelled content s = (quote : ℕ) × (bytes : List ℕ) × (n : ℕ) × (is_quote quote ≡ true) × (quoted quote false bytes ≡ Some (content, n)) × (s ≡ quote ∷ take n bytes)

abbrev pub IsIntSpelled : ℤ → List ℕ → Type 0
IsIntSpelled z s = (negative : Bool) × (digits : List ℕ) × (int_of negative digits ≡ Some z) × (list_all is_digit digits ≡ true) × (s ≡ cond negative (45 ∷ digits) digits)

abbrev pub IsPathSpelled : Place → List ℕ → Type 0
IsPathSpelled place s = (bytes : List ℕ) × (begins_path bytes ≡ true) × IsPathText s place × (s ≡ take (path_length spot.Name bytes) bytes)

abbrev pub Shape : Token → List ℕ → Type 0
Shape (token.Int z) s = IsIntSpelled z s
Shape (token.Text content) s = IsTextSpelled content s
Shape (token.Path place) s = IsPathSpelled place s
Shape word s = OneOf (spellings word) s

-- the claim for the word that was found
shape_is : (v w : Token) (m n : ℕ) (bytes : List ℕ) → Shape v (take m bytes) → ◌≡◌ {A = Option Word} (Some (v, m)) (Some (w, n)) → Shape w (take n bytes)
shape_is v w m n bytes s e =
    let words : v ≡ w = ap (λ (o : Option Word). option_map_or (λ (r : Word). r.0) o v) e in
    let counts : m ≡ n = ap (λ (o : Option Word). option_map_or (λ (r : Word). r.1) o 0) e in
    subst (λ (k : ℕ). Shape w (take k bytes)) counts (subst (λ (u : Token). Shape u (take m bytes)) words s)

pub run_taken : (p : ℕ → Bool) (bytes : List ℕ) → take (length (take_while p bytes)) bytes ≡ take_while p bytes
run_taken p [] = refl
run_taken p (byte ∷ bytes) =
    subst (λ (l : List ℕ). take (length l) (byte ∷ bytes) ≡ l) (sym (take_while-cons p byte bytes)) (by (p byte) (run_taken p bytes))
  where
    by : (b : Bool) → take (length (take_while p bytes)) bytes ≡ take_while p bytes → take (length (cond b (byte ∷ take_while p bytes) [])) (byte ∷ bytes) ≡ cond b (byte ∷ take_while p bytes) []
    by true h = ap (λ (l : List ℕ). byte ∷ l) h
    by false h = refl

pub run_passes : (p : ℕ → Bool) (bytes : List ℕ) → list_all p (take_while p bytes) ≡ true
run_passes p [] = refl
run_passes p (byte ∷ bytes) = subst (λ (l : List ℕ). list_all p l ≡ true) (sym (take_while-cons p byte bytes)) (by (p byte) refl (run_passes p bytes))
  where
    by : (b : Bool) → p byte ≡ b → list_all p (take_while p bytes) ≡ true → list_all p (cond b (byte ∷ take_while p bytes) []) ≡ true
    by true e h = rw e h
    by false e h = refl

-- ---- keywords

keyword_step : (k c : List ℕ) (v w : Token) (rest : Option Token) → OneOf (spellings v) c → (rest ≡ Some w → OneOf (spellings w) k) → cond (bytes_eq k c) (Some v) rest ≡ Some w → OneOf (spellings w) k
keyword_step k c v w rest o f e = by (bytes_eq k c) refl e
  where
    by : (b : Bool) → bytes_eq k c ≡ b → cond b (Some v) rest ≡ Some w → OneOf (spellings w) k
    by true t e =
        let is : k ≡ c = (bytes_eq-Decides k c).0 t in
        let same : v ≡ w = cc e in
        subst (λ (l : List ℕ). OneOf (spellings w) l) (sym is) (subst (λ (u : Token). OneOf (spellings u) c) same o)
    by false t e = f e

abbrev o6 : List ℕ → Option Token
o6 k = cond (bytes_eq k (codes "not")) (Some token.Not) None

abbrev o5 : List ℕ → Option Token
o5 k = cond (bytes_eq k (codes "severity_text")) (Some token.SeverityText) (o6 k)

abbrev o4 : List ℕ → Option Token
o4 k = cond (bytes_eq k (codes "severity_number")) (Some token.SeverityNumber) (o5 k)

abbrev o3 : List ℕ → Option Token
o3 k = cond (bytes_eq k (codes "nil")) (Some token.Null) (o4 k)

abbrev o2 : List ℕ → Option Token
o2 k = cond (bytes_eq k (codes "false")) (Some (token.Bool false)) (o3 k)

operand_spelled : (k : List ℕ) (w : Token) → operand_word k ≡ Some w → OneOf (spellings w) k
unfolding operand_word
operand_spelled k w e =
    keyword_step k (codes "true") (token.Bool true) w (o2 k) (inl refl)
    (keyword_step k (codes "false") (token.Bool false) w (o3 k) (inl refl)
    (keyword_step k (codes "nil") token.Null w (o4 k) (inl refl)
    (keyword_step k (codes "severity_number") token.SeverityNumber w (o5 k) (inl refl)
    (keyword_step k (codes "severity_text") token.SeverityText w (o6 k) (inl refl)
    (keyword_step k (codes "not") token.Not w None (inl refl) (λ n. absurd (cc n))))))) e

abbrev p7 : List ℕ → Option Token
p7 k = cond (bytes_eq k (codes "matches")) (Some token.Matches) None

abbrev p6 : List ℕ → Option Token
p6 k = cond (bytes_eq k (codes "in")) (Some (token.Compares In)) (p7 k)

abbrev p5 : List ℕ → Option Token
p5 k = cond (bytes_eq k (codes "endsWith")) (Some (token.Compares EndsWith)) (p6 k)

abbrev p4 : List ℕ → Option Token
p4 k = cond (bytes_eq k (codes "startsWith")) (Some (token.Compares StartsWith)) (p5 k)

abbrev p3 : List ℕ → Option Token
p3 k = cond (bytes_eq k (codes "contains")) (Some (token.Compares Contains)) (p4 k)

abbrev p2 : List ℕ → Option Token
p2 k = cond (bytes_eq k (codes "or")) (Some token.Or) (p3 k)

operator_spelled : (k : List ℕ) (w : Token) → operator_word k ≡ Some w → OneOf (spellings w) k
unfolding operator_word
operator_spelled k w e =
    keyword_step k (codes "and") token.And w (p2 k) (inl refl)
    (keyword_step k (codes "or") token.Or w (p3 k) (inl refl)
    (keyword_step k (codes "contains") (token.Compares Contains) w (p4 k) (inl refl)
    (keyword_step k (codes "startsWith") (token.Compares StartsWith) w (p5 k) (inl refl)
    (keyword_step k (codes "endsWith") (token.Compares EndsWith) w (p6 k) (inl refl)
    (keyword_step k (codes "in") (token.Compares In) w (p7 k) (inl refl)
    (keyword_step k (codes "matches") token.Matches w None (inl refl) (λ n. absurd (cc n)))))))) e

keyword_spelled : (k : List ℕ) (w : Token) → keyword k ≡ Some w → OneOf (spellings w) k
keyword_spelled k w e = by (operand_word k) refl e
  where
    by : (o : Option Token) → operand_word k ≡ o → option_or o (operator_word k) ≡ Some w → OneOf (spellings w) k
    by (Some v) t e = operand_spelled k w (t ∙ e)
    by None t e = operator_spelled k w e

-- a word that has a spelling among these is of that shape
fixed_shape : (w : Token) (s : List ℕ) → OneOf (spellings w) s → Shape w s
fixed_shape (token.Int z) s o = absurd o
fixed_shape (token.Text content) s o = absurd o
fixed_shape (token.Path place) s o = absurd o
fixed_shape token.Null s o = o
fixed_shape (token.Bool b) s o = o
fixed_shape token.SeverityNumber s o = o
fixed_shape token.SeverityText s o = o
fixed_shape token.Not s o = o
fixed_shape token.And s o = o
fixed_shape token.Or s o = o
fixed_shape (token.Compares operator) s o = o
fixed_shape token.Matches s o = o
fixed_shape token.OpenGroup s o = o
fixed_shape token.CloseGroup s o = o
fixed_shape token.OpenList s o = o
fixed_shape token.CloseList s o = o
fixed_shape token.Comma s o = o

word_shape : (bytes : List ℕ) (w : Token) (n : ℕ) → option_map {U = Word} (λ found. (found, length (word bytes))) (keyword (word bytes)) ≡ Some (w, n) → Shape w (take n bytes)
word_shape bytes w n e = by (keyword (word bytes)) refl e
  where
    by : (o : Option Token) → keyword (word bytes) ≡ o → option_map {U = Word} (λ found. (found, length (word bytes))) o ≡ Some (w, n) → Shape w (take n bytes)
    by None k e = absurd (cc e)
    by (Some v) k e = shape_is v w (length (word bytes)) n bytes (fixed_shape v (take (length (word bytes)) bytes) (subst (λ (l : List ℕ). OneOf (spellings v) l) (sym (run_taken is_word_byte bytes)) (keyword_spelled (word bytes) v k))) e

-- ---- symbols

abbrev s124 : ℕ → ℕ → Option Word
s124 first second = cond (nat_eq first 124) (cond (nat_eq second 124) (Some (token.Or, 2)) None) None

abbrev s38 : ℕ → ℕ → Option Word
s38 first second = cond (nat_eq first 38) (cond (nat_eq second 38) (Some (token.And, 2)) None) (s124 first second)

abbrev s62 : ℕ → ℕ → Option Word
s62 first second = cond (nat_eq first 62) (cond (nat_eq second 61) (Some (token.Compares GreaterOrEqual, 2)) (Some (token.Compares Greater, 1))) (s38 first second)

abbrev s60 : ℕ → ℕ → Option Word
s60 first second = cond (nat_eq first 60) (cond (nat_eq second 61) (Some (token.Compares LessOrEqual, 2)) (Some (token.Compares Less, 1))) (s62 first second)

abbrev s33 : ℕ → ℕ → Option Word
s33 first second = cond (nat_eq first 33) (cond (nat_eq second 61) (Some (token.Compares NotEqual, 2)) (Some (token.Not, 1))) (s60 first second)

abbrev s61 : ℕ → ℕ → Option Word
s61 first second = cond (nat_eq first 61) (cond (nat_eq second 61) (Some (token.Compares Equal, 2)) None) (s33 first second)

abbrev s44 : ℕ → ℕ → Option Word
s44 first second = cond (nat_eq first 44) (Some (token.Comma, 1)) (s61 first second)

abbrev s93 : ℕ → ℕ → Option Word
s93 first second = cond (nat_eq first 93) (Some (token.CloseList, 1)) (s44 first second)

abbrev s91 : ℕ → ℕ → Option Word
s91 first second = cond (nat_eq first 91) (Some (token.OpenList, 1)) (s93 first second)

abbrev s41 : ℕ → ℕ → Option Word
s41 first second = cond (nat_eq first 41) (Some (token.CloseGroup, 1)) (s91 first second)

module _ (first : ℕ) (bytes : List ℕ) (w : Token) (n : ℕ) where
  abbrev Found : Option Word → Type 0
  Found o = o ≡ Some (w, n) → Shape w (take n (first ∷ bytes))

  nothing : Found None
  nothing e = absurd (cc e)

  -- a byte, and what stands behind it
  one_byte : (c : ℕ) (v : Token) (rest : Option Word) → Shape v (c ∷ []) → Found rest → Found (cond (nat_eq first c) (Some (v, 1)) rest)
  one_byte c v rest s f = by (nat_eq first c) refl
    where
      by : (b : Bool) → nat_eq first c ≡ b → Found (cond b (Some (v, 1)) rest)
      by true t = shape_is v w 1 n (first ∷ bytes) (subst (λ (x : ℕ). Shape v (x ∷ [])) (sym (eqb-true first c t)) s)
      by false t = f

  behind : (c : ℕ) (inner rest : Option Word) → (first ≡ c → Found inner) → Found rest → Found (cond (nat_eq first c) inner rest)
  behind c inner rest i f = by (nat_eq first c) refl
    where
      by : (b : Bool) → nat_eq first c ≡ b → Found (cond b inner rest)
      by true t = i (eqb-true first c t)
      by false t = f

  second_is : (l : List ℕ) (d : ℕ) → nat_eq (slice_index l 0) (suc d) ≡ true → take 1 l ≡ suc d ∷ []
  second_is [] d t = let z : 0 ≡ suc d = eqb-true 0 (suc d) t in absurd (omega (arith, z))
  second_is (x ∷ l) d t = ap (λ (y : ℕ). y ∷ []) (eqb-true x (suc d) t)

  two_bytes : (c d : ℕ) (v : Token) (rest : Option Word) → first ≡ c → Shape v (c ∷ suc d ∷ []) → Found rest → Found (cond (nat_eq (slice_index bytes 0) (suc d)) (Some (v, 2)) rest)
  two_bytes c d v rest e s f = by (nat_eq (slice_index bytes 0) (suc d)) refl
    where
      by : (b : Bool) → nat_eq (slice_index bytes 0) (suc d) ≡ b → Found (cond b (Some (v, 2)) rest)
      by true t = shape_is v w 2 n (first ∷ bytes) (subst (λ (l : List ℕ). Shape v l) (sym (ap (λ (l : List ℕ). first ∷ l) (second_is bytes d t) ∙ ap (λ (x : ℕ). x ∷ suc d ∷ []) e)) s)
      by false t = f

  single : (c : ℕ) (v : Token) → first ≡ c → Shape v (c ∷ []) → Found (Some (v, 1))
  single c v e s = shape_is v w 1 n (first ∷ bytes) (subst (λ (x : ℕ). Shape v (x ∷ [])) (sym e) s)

  symbol_shape : Found (symbol first (slice_index bytes 0))
  unfolding symbol
  symbol_shape =
      let second = slice_index bytes 0 in
      one_byte 40 token.OpenGroup (s41 first second) (inl refl)
      (one_byte 41 token.CloseGroup (s91 first second) (inl refl)
      (one_byte 91 token.OpenList (s93 first second) (inl refl)
      (one_byte 93 token.CloseList (s44 first second) (inl refl)
      (one_byte 44 token.Comma (s61 first second) (inl refl)
      (behind 61 (cond (nat_eq second 61) (Some (token.Compares Equal, 2)) None) (s33 first second) (λ e. two_bytes 61 60 (token.Compares Equal) None e (inl refl) nothing)
      (behind 33 (cond (nat_eq second 61) (Some (token.Compares NotEqual, 2)) (Some (token.Not, 1))) (s60 first second)
      (λ e. two_bytes 33 60 (token.Compares NotEqual) (Some (token.Not, 1)) e (inl refl) (single 33 token.Not e (inr (inl refl))))
      (behind 60 (cond (nat_eq second 61) (Some (token.Compares LessOrEqual, 2)) (Some (token.Compares Less, 1))) (s62 first second)
      (λ e. two_bytes 60 60 (token.Compares LessOrEqual) (Some (token.Compares Less, 1)) e (inl refl) (single 60 (token.Compares Less) e (inl refl)))
      (behind 62 (cond (nat_eq second 61) (Some (token.Compares GreaterOrEqual, 2)) (Some (token.Compares Greater, 1))) (s38 first second)
      (λ e. two_bytes 62 60 (token.Compares GreaterOrEqual) (Some (token.Compares Greater, 1)) e (inl refl) (single 62 (token.Compares Greater) e (inl refl)))
      (behind 38 (cond (nat_eq second 38) (Some (token.And, 2)) None) (s124 first second) (λ e. two_bytes 38 37 token.And None e (inr (inl refl)) nothing)
      (behind 124 (cond (nat_eq second 124) (Some (token.Or, 2)) None) None (λ e. two_bytes 124 123 token.Or None e (inr (inl refl)) nothing) nothing))))))))))

-- ---- texts and ints

text_shape : (quote : ℕ) (bytes : List ℕ) (w : Token) (n : ℕ) → is_quote quote ≡ true → text_token (quote ∷ bytes) ≡ Some (w, n) → Shape w (take n (quote ∷ bytes))
text_shape quote bytes w n q e = by (quoted quote false bytes) refl e
  where
    by : (o : Option (List ℕ × ℕ)) → quoted quote false bytes ≡ o → option_map {U = Word} (λ found. (token.Text found.0, 1 + found.1)) o ≡ Some (w, n) → Shape w (take n (quote ∷ bytes))
    by None k e = absurd (cc e)
    by (Some found) k e =
        let more : suc found.1 ≡ 1 + found.1 = omega arith in
        shape_is (token.Text found.0) w (1 + found.1) n (quote ∷ bytes) (quote, bytes, found.1, q, k, ap (λ (m : ℕ). take m (quote ∷ bytes)) (sym more)) e

int_shape : (byte : ℕ) (bytes : List ℕ) (w : Token) (n : ℕ) → int_token (byte ∷ bytes) ≡ Some (w, n) → Shape w (take n (byte ∷ bytes))
int_shape byte bytes w n e = by (nat_eq byte 45) refl e
  where
    minus : (o : Option ℤ) → int_of true (take_while is_digit bytes) ≡ o → byte ≡ 45
        → option_map {U = Word} (λ z. (token.Int z, 1 + length (take_while is_digit bytes))) o ≡ Some (w, n) → Shape w (take n (byte ∷ bytes))
    minus None k b e = absurd (cc e)
    minus (Some z) k b e =
        let digits = take_while is_digit bytes in
        let more : suc (length digits) ≡ 1 + length digits = omega arith in
        let taken : take (1 + length digits) (byte ∷ bytes) ≡ 45 ∷ digits =
        ap (λ (m : ℕ). take m (byte ∷ bytes)) (sym more) ∙ ap (λ (l : List ℕ). byte ∷ l) (run_taken is_digit bytes) ∙ ap (λ (x : ℕ). x ∷ digits) b in
        shape_is (token.Int z) w (1 + length digits) n (byte ∷ bytes) (true, digits, k, run_passes is_digit bytes, taken) e

    plain : (o : Option ℤ) → int_of false (take_while is_digit (byte ∷ bytes)) ≡ o
        → option_map {U = Word} (λ z. (token.Int z, length (take_while is_digit (byte ∷ bytes)))) o ≡ Some (w, n) → Shape w (take n (byte ∷ bytes))
    plain None k e = absurd (cc e)
    plain (Some z) k e =
        let digits = take_while is_digit (byte ∷ bytes) in
        shape_is (token.Int z) w (length digits) n (byte ∷ bytes) (false, digits, k, run_passes is_digit (byte ∷ bytes), run_taken is_digit (byte ∷ bytes)) e

    by : (m : Bool) → nat_eq byte 45 ≡ m → cond m (option_map {U = Word} (λ z. (token.Int z, 1 + length (take_while is_digit bytes))) (int_of true (take_while is_digit bytes)))
        (option_map {U = Word} (λ z. (token.Int z, length (take_while is_digit (byte ∷ bytes)))) (int_of false (take_while is_digit (byte ∷ bytes)))) ≡ Some (w, n)
        → Shape w (take n (byte ∷ bytes))
    by true t e = minus (int_of true (take_while is_digit bytes)) refl (eqb-true byte 45 t) e
    by false t e = plain (int_of false (take_while is_digit (byte ∷ bytes))) refl e

plain_shape : (bytes : List ℕ) (w : Token) (n : ℕ) → plain_token bytes ≡ Some (w, n) → Shape w (take n bytes)
plain_shape [] w n e = absurd (cc e)
plain_shape (byte ∷ bytes) w n e = by (is_quote byte) ((nat_eq byte 45) || is_digit byte) (is_word_byte byte) refl e
  where
    by : (q d l : Bool) → is_quote byte ≡ q → cond q (text_token (byte ∷ bytes)) (cond d (int_token (byte ∷ bytes))
        (cond l (option_map {U = Word} (λ found. (found, length (word (byte ∷ bytes)))) (keyword (word (byte ∷ bytes)))) (symbol byte (slice_index bytes 0)))) ≡ Some (w, n)
        → Shape w (take n (byte ∷ bytes))
    by true d l t e = text_shape byte bytes w n t e
    by false true l t e = int_shape byte bytes w n e
    by false false true t e = word_shape (byte ∷ bytes) w n e
    by false false false t e = symbol_shape byte bytes w n e

-- the bytes of a word have its shape
pub shaped : (bytes : List ℕ) (w : Token) (n : ℕ) → IsToken bytes w n → Shape w (take n bytes)
shaped bytes w n (inl a) = plain_shape bytes w n a.1
shaped bytes w n (inr b) =
    subst (λ (u : Token). Shape u (take n bytes)) (sym b.2.1) (bytes, b.0, b.2.2, ap (λ (m : ℕ). take m bytes) b.1)

-- ---- the other way round

-- the whole of the bytes is the word
abbrev pub Whole : Token → List ℕ → Type 0
Whole w s = IsToken s w (length s)

whole_like : (w : Token) (s t : List ℕ) → s ≡ t → Whole w t → Whole w s
whole_like w s t e h = subst (λ (l : List ℕ). Whole w l) (sym e) h

only : (c s : List ℕ) → OneOf (c ∷ []) s → s ≡ c
only c s (inl e) = e
only c s (inr x) = absurd x

pub spelled : (w : Token) (s : List ℕ) → OneOf (spellings w) s → Whole w s
unfolding is_word_byte is_quote operand_word operator_word symbol
spelled (token.Int z) s o = absurd o
spelled (token.Text content) s o = absurd o
spelled (token.Path place) s o = absurd o
spelled token.Null s o = whole_like token.Null s (codes "nil") (only (codes "nil") s o) (inl (refl, refl))
spelled (token.Bool true) s o = whole_like (token.Bool true) s (codes "true") (only (codes "true") s o) (inl (refl, refl))
spelled (token.Bool false) s o = whole_like (token.Bool false) s (codes "false") (only (codes "false") s o) (inl (refl, refl))
spelled token.SeverityNumber s o = whole_like token.SeverityNumber s (codes "severity_number") (only (codes "severity_number") s o) (inl (refl, refl))
spelled token.SeverityText s o = whole_like token.SeverityText s (codes "severity_text") (only (codes "severity_text") s o) (inl (refl, refl))
spelled token.Not s (inl e) = whole_like token.Not s (codes "not") e (inl (refl, refl))
spelled token.Not s (inr o) = whole_like token.Not s (codes "!") (only (codes "!") s o) (inl (refl, refl))
spelled token.And s (inl e) = whole_like token.And s (codes "and") e (inl (refl, refl))
spelled token.And s (inr o) = whole_like token.And s (codes "&&") (only (codes "&&") s o) (inl (refl, refl))
spelled token.Or s (inl e) = whole_like token.Or s (codes "or") e (inl (refl, refl))
spelled token.Or s (inr o) = whole_like token.Or s (codes "||") (only (codes "||") s o) (inl (refl, refl))
spelled (token.Compares Equal) s o = whole_like (token.Compares Equal) s (codes "==") (only (codes "==") s o) (inl (refl, refl))
spelled (token.Compares NotEqual) s o = whole_like (token.Compares NotEqual) s (codes "!=") (only (codes "!=") s o) (inl (refl, refl))
spelled (token.Compares Less) s o = whole_like (token.Compares Less) s (codes "<") (only (codes "<") s o) (inl (refl, refl))
spelled (token.Compares LessOrEqual) s o = whole_like (token.Compares LessOrEqual) s (codes "<=") (only (codes "<=") s o) (inl (refl, refl))
spelled (token.Compares Greater) s o = whole_like (token.Compares Greater) s (codes ">") (only (codes ">") s o) (inl (refl, refl))
spelled (token.Compares GreaterOrEqual) s o = whole_like (token.Compares GreaterOrEqual) s (codes ">=") (only (codes ">=") s o) (inl (refl, refl))
spelled (token.Compares Contains) s o = whole_like (token.Compares Contains) s (codes "contains") (only (codes "contains") s o) (inl (refl, refl))
spelled (token.Compares StartsWith) s o = whole_like (token.Compares StartsWith) s (codes "startsWith") (only (codes "startsWith") s o) (inl (refl, refl))
spelled (token.Compares EndsWith) s o = whole_like (token.Compares EndsWith) s (codes "endsWith") (only (codes "endsWith") s o) (inl (refl, refl))
spelled (token.Compares In) s o = whole_like (token.Compares In) s (codes "in") (only (codes "in") s o) (inl (refl, refl))
spelled token.Matches s o = whole_like token.Matches s (codes "matches") (only (codes "matches") s o) (inl (refl, refl))
spelled token.OpenGroup s o = whole_like token.OpenGroup s (codes "(") (only (codes "(") s o) (inl (refl, refl))
spelled token.CloseGroup s o = whole_like token.CloseGroup s (codes ")") (only (codes ")") s o) (inl (refl, refl))
spelled token.OpenList s o = whole_like token.OpenList s (codes "[") (only (codes "[") s o) (inl (refl, refl))
spelled token.CloseList s o = whole_like token.CloseList s (codes "]") (only (codes "]") s o) (inl (refl, refl))
spelled token.Comma s o = whole_like token.Comma s (codes ",") (only (codes ",") s o) (inl (refl, refl))
