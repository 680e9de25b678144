-- The first field of a text, as its bytes are cut.
use Rattle.std.proofs.Common.{◌≡◌, ℕ, suc, ◌+◌, ◌<◌, List, [], ◌∷◌, ◌++◌, ◌∙◌, ap, sym, refl, subst, Bool, true, false, not, ◌==◌, ◌⊎◌, inl, inr, length, take, drop, get_or, eq-eqb, eqb-true, arith}
use Rattle.std.proofs.lemmas.Bool.{false≢true}
use Rattle.std.proofs.lemmas.List.{append_assoc, append-nil, take_all, take_more}
use Rattle.std.specs.Cmp.Derive.{both_true}
use Rattle.std.specs.List.{list_all, prefix_len}
use Rattle.text_parsers.specs.Inner.FirstPart.{Lacks, IsFirstPart}
use Rattle.text_parsers.specs.Inner.Plain.{is_plain}
use Rattle.text_parsers.specs.Inner.FieldSlices.{is_bare, IsField, bare, enclosed, AreFields, last, more, AreLeft, BeginsWithField}
use Rattle.text_parsers.proofs.FieldSlices.{both_pass, fails, tests}
use Rattle.text_parsers.proofs.Parting.{front_passes, cut_there}

-- ---- bytes that have none of one kind

lacks_itself : (d : ℕ) (part tail : List ℕ) → Lacks d (part ++ d ∷ tail) → ⊥
lacks_itself d [] tail h =
    let apart = fails (d == d) (both_pass (not (d == d)) (list_all (λ byte. not (byte == d)) tail) h).0 in
    false≢true (sym apart ∙ eq-eqb d d refl)
lacks_itself d (c ∷ cs) tail h = lacks_itself d cs tail (both_pass (not (c == d)) (list_all (λ byte. not (byte == d)) (cs ++ d ∷ tail)) h).1

begins_with_none : (d c : ℕ) (cs : List ℕ) → Lacks d (c ∷ cs) → c ≡ d → ⊥
begins_with_none d c cs h e =
    let apart = fails (c == d) (both_pass (not (c == d)) (list_all (λ byte. not (byte == d)) cs) h).0 in
    false≢true (sym apart ∙ eq-eqb c d e)

-- a text is cut at the first of them
same_cut : (d : ℕ) (p q r s : List ℕ) → Lacks d p → Lacks d q → p ++ d ∷ r ≡ q ++ d ∷ s → (p ≡ q) × (r ≡ s)
same_cut d [] [] r s hp hq e = (refl, cc e)
same_cut d [] (c ∷ cs) r s hp hq e = let heads : c ≡ d = cc e in absurd (begins_with_none d c cs hq heads)
same_cut d (c ∷ cs) [] r s hp hq e = let heads : c ≡ d = cc e in absurd (begins_with_none d c cs hp heads)
same_cut d (c ∷ cs) (b ∷ bs) r s hp hq e =
    let heads : c ≡ b = cc e in
    let tails : cs ++ d ∷ r ≡ bs ++ d ∷ s = cc e in
    let behind =
    same_cut d cs bs r s (both_pass (not (c == d)) (list_all (λ byte. not (byte == d)) cs) hp).1 (both_pass (not (b == d)) (list_all (λ byte. not (byte == d)) bs) hq).1 tails in
    (ap (λ (x : ℕ). x ∷ cs) heads ∙ ap (λ (l : List ℕ). b ∷ l) behind.0, behind.1)

passes : (p q : ℕ → Bool) → ((c : ℕ) → p c ≡ true → q c ≡ true) → (xs : List ℕ) → list_all p xs ≡ true → list_all q xs ≡ true
passes p q h [] all = refl
passes p q h (x ∷ xs) all = let here = both_pass (p x) (list_all p xs) all in both_true (h x here.0) (passes p q h xs here.1)

bare_lacks : (d : ℕ) (part : List ℕ) → list_all (is_bare d) part ≡ true → Lacks d part
bare_lacks d part h = passes (is_bare d) (λ byte. not (byte == d)) (λ c t. (both_pass (is_plain c) (not (c == d)) t).1) part h

plain_lacks : (field : List ℕ) → list_all is_plain field ≡ true → Lacks 34 field
plain_lacks field h = passes is_plain (λ byte. not (byte == 34)) (λ c t. ap not (tests c t).quote) field h

-- ---- a field at the front

pub one_field_more : (d : ℕ) (text behind : List ℕ) (n : ℕ) (left : List (List ℕ)) → is_plain d ≡ true → BeginsWithField d text n → n < length text → get_or text n 0 ≡ d → behind ≡ drop (n + 1) text
    → AreFields d behind left → (field : List ℕ) × AreFields d text (field ∷ left)
one_field_more d text behind n left plain f h here is are =
    (f.0, subst (λ (l : List ℕ). AreFields d l (f.0 ∷ left)) (sym (cut_there d text behind n h here is)) (more plain f.1 are))

pub last_field : (d : ℕ) (text : List ℕ) (n : ℕ) → BeginsWithField d text n → n ≡ length text → (field : List ℕ) × AreFields d text (field ∷ [])
last_field d text n f e = (f.0, last (subst (λ (l : List ℕ). IsField d l f.0) (take_all n text (omega arith)) f.1))

pub begins_bare : (d : ℕ) (text : List ℕ) (n : ℕ) → n ≡ prefix_len (is_bare d) text → BeginsWithField d text n
begins_bare d text n e = (take n text, bare (ap (λ k. list_all (is_bare d) (take k text)) e ∙ front_passes (is_bare d) text))

enclosed_front : (text within : List ℕ) (n : ℕ) → get_or text 0 0 ≡ 34 → within ≡ drop 1 text → n < length within → get_or within n 0 ≡ 34 → take (n + 2) text ≡ 34 ∷ take n within ++ 34 ∷ []
enclosed_front [] within n q is h closing = let none : length within ≡ 0 = ap length is in absurd (omega arith)
enclosed_front (c ∷ cs) within n q is h closing =
    let size : n + 2 ≡ suc (n + 1) = omega arith in
    ap (λ k. take k (c ∷ cs)) size
    ∙ ap (λ (l : List ℕ). c ∷ take (n + 1) l) (sym is)
    ∙ ap (λ (l : List ℕ). c ∷ l) (take_more within n 0 h)
    ∙ ap (λ (x : ℕ). c ∷ take n within ++ x ∷ []) closing
    ∙ ap (λ (x : ℕ). x ∷ take n within ++ 34 ∷ []) q

pub begins_enclosed : (d : ℕ) (text within : List ℕ) (n : ℕ) → get_or text 0 0 ≡ 34 → within ≡ drop 1 text → n ≡ prefix_len is_plain within → n < length within → get_or within n 0 ≡ 34
    → BeginsWithField d text (n + 2)
begins_enclosed d text within n q is e h closing = (
  take n within,
  subst (λ (l : List ℕ). IsField d l (take n within)) (sym (enclosed_front text within n q is h closing))
      (enclosed (ap (λ k. list_all is_plain (take k within)) e ∙ front_passes is_plain within)),
)

pub quote_first : (text : List ℕ) → get_or text 0 0 ≡ 34 → 0 < length text
quote_first [] q = absurd (cc q)
quote_first (c ∷ cs) q = omega arith

has_first : (text : List ℕ) (c : ℕ) (cs : List ℕ) → text ≡ c ∷ cs → (length text == 0) ≡ true → ⊥
has_first text c cs e none =
    let size : length text ≡ suc (length cs) = ap length e in
    let empty : length text ≡ 0 = eqb-true (length text) 0 none in
    absurd (omega arith)

pub some_left : (text : List ℕ) → (length text == 0) ≡ false → 0 < length text
some_left [] n = absurd (cc n)
some_left (c ∷ cs) n = omega arith

-- ---- the first field of a text whose fields are known

quote_is_not_plain : (c : ℕ) → is_plain c ≡ true → c ≡ 34 → ⊥
quote_is_not_plain c p e = false≢true (sym (tests c p).quote ∙ eq-eqb c 34 e)

bare_front : (d c : ℕ) (cs : List ℕ) → list_all (is_bare d) (c ∷ cs) ≡ true → c ≡ 34 → ⊥
bare_front d c cs h e = quote_is_not_plain c (both_pass (is_plain c) (not (c == d)) (both_pass (is_bare d c) (list_all (is_bare d) cs) h).0).0 e

no_quote_first : (d : ℕ) (part tail : List ℕ) → list_all (is_bare d) part ≡ true → (part ≡ [] → get_or tail 0 0 ≡ 34 → ⊥) → get_or (part ++ tail) 0 0 ≡ 34 → ⊥
no_quote_first d [] tail h none e = none refl e
no_quote_first d (c ∷ cs) tail h none e = bare_front d c cs h e

module _ (d : ℕ) where
  -- what the first field leaves
  abbrev Leaves : List ℕ → Bool → List (List ℕ) → List ℕ → Type 0
  Leaves behind found fields field = (left : List (List ℕ)) × AreLeft d behind found left × (fields ≡ field ∷ left)

  bare_last : (text part behind : List ℕ) (found : Bool) → list_all (is_bare d) text ≡ true → IsFirstPart d text part behind found → Leaves behind found (text ∷ []) part
  bare_last text part behind true h cut = absurd (lacks_itself d part behind (subst (λ (l : List ℕ). Lacks d l) cut.1 (bare_lacks d text h)))
  bare_last text part behind false h cut = ([], refl, ap (λ (l : List ℕ). l ∷ []) cut.1)

  bare_more : (p rest part behind : List ℕ) (left : List (List ℕ)) (found : Bool) → list_all (is_bare d) p ≡ true → AreFields d rest left → IsFirstPart d (p ++ d ∷ rest) part behind found
      → Leaves behind found (p ∷ left) part
  bare_more p rest part behind left true h are cut =
      let same = same_cut d p part rest behind (bare_lacks d p h) cut.0 cut.1 in
      (left, subst (λ (l : List ℕ). AreFields d l left) same.1 are, ap (λ (l : List ℕ). l ∷ left) same.0)
  bare_more p rest part behind left false h are cut = absurd (lacks_itself d p rest (subst (λ (l : List ℕ). Lacks d l) (sym cut.1) cut.0))

  pub first_bare : (text part behind : List ℕ) (found : Bool) → (get_or text 0 0 == 34) ≡ false → IsFirstPart d text part behind found → (fields : List (List ℕ)) → AreFields d text fields
      → Leaves behind found fields part
  first_bare text part behind found other cut fields (last (bare h)) = bare_last text part behind found h cut
  first_bare text part behind found other cut fields (last (enclosed h)) = cc other
  first_bare text part behind found other cut fields (more {part = p} {rest = rest} {fields = left} plain (bare h) are) = bare_more p rest part behind left found h are cut
  first_bare text part behind found other cut fields (more plain (enclosed h) are) = cc other

  -- what stands behind the second quote
  abbrev Behind : List ℕ → List (List ℕ) → Type 0
  Behind behind left = ((behind ≡ []) × (left ≡ [])) ⊎ ((rest : List ℕ) × (behind ≡ d ∷ rest) × AreFields d rest left)

  abbrev Encloses : List ℕ → List (List ℕ) → List ℕ → Type 0
  Encloses behind fields field = (left : List (List ℕ)) × (fields ≡ field ∷ left) × Behind behind left

  closed_by : (f tail field behind : List ℕ) (left : List (List ℕ)) (found : Bool) → list_all is_plain f ≡ true → Behind tail left → IsFirstPart 34 (f ++ 34 ∷ tail) field behind found
      → Encloses behind (f ∷ left) field
  closed_by f tail field behind left true h b cut =
      let same = same_cut 34 f field tail behind (plain_lacks f h) cut.0 cut.1 in
      (left, ap (λ (l : List ℕ). l ∷ left) same.0, subst (λ (l : List ℕ). Behind l left) same.1 b)
  closed_by f tail field behind left false h b cut = absurd (lacks_itself 34 f tail (subst (λ (l : List ℕ). Lacks 34 l) (sym cut.1) cut.0))

  pub first_enclosed : (text field behind : List ℕ) (found : Bool) → get_or text 0 0 ≡ 34 → IsFirstPart 34 (drop 1 text) field behind found → (fields : List (List ℕ)) → AreFields d text fields
      → Encloses behind fields field
  first_enclosed text field behind found q cut fields (last (bare h)) =
      absurd (no_quote_first d text [] h (λ e z. cc z) (ap (λ (l : List ℕ). get_or l 0 0) (append-nil text) ∙ q))
  first_enclosed text field behind found q cut fields (last (enclosed {field = f} h)) = closed_by f [] field behind [] found h (inl (refl, refl)) cut
  first_enclosed text field behind found q cut fields (more {part = p} {rest = rest} plain (bare h) are) = absurd (no_quote_first d p (d ∷ rest) h (λ e z. quote_is_not_plain d plain z) q)
  first_enclosed text field behind found q cut fields (more {rest = rest} {fields = left} plain (enclosed {field = f} h) are) =
      closed_by f (d ∷ rest) field behind left found h (inr (rest, refl, are)) (subst (λ (l : List ℕ). IsFirstPart 34 l field behind found) (append_assoc f (34 ∷ []) (d ∷ rest)) cut)

  -- it ends the text
  pub ends_text : (field behind : List ℕ) (fields : List (List ℕ)) → Encloses behind fields field → (length behind == 0) ≡ true → Leaves behind false fields field
  ends_text field behind fields e none = elim e.2 [
    | inl z ↦ (e.0, z.1, e.1)
    | inr w ↦ absurd (has_first behind d w.0 w.1 none)
  ]

  -- a delimiter stands behind it
  pub delimiter_behind : (field behind : List ℕ) (fields : List (List ℕ)) → Encloses behind fields field → (length behind == 0) ≡ false → get_or behind 0 0 ≡ d
  delimiter_behind field behind fields e some = elim e.2 [
    | inl z ↦ cc (ap (λ (l : List ℕ). length l == 0) (sym z.0) ∙ some)
    | inr w ↦ ap (λ (l : List ℕ). get_or l 0 0) w.1
  ]

  pub goes_on : (field behind rest : List ℕ) (fields : List (List ℕ)) → Encloses behind fields field → (length behind == 0) ≡ false → rest ≡ drop 1 behind → Leaves rest true fields field
  goes_on field behind rest fields e some is = elim e.2 [
    | inl z ↦ absurd (cc (ap (λ (l : List ℕ). length l == 0) (sym z.0) ∙ some))
    | inr w ↦ (e.0, subst (λ (l : List ℕ). AreFields d l e.0) (sym (is ∙ ap (drop 1) w.1)) w.2, e.1)
  ]
