-- Texts that are one CSV record on one line, in which quotes enclose whole fields alone.
use Rattle.std.proofs.Common.{◌≡◌, ℕ, suc, ◌+◌, ◌<◌, List, [], ◌∷◌, ◌++◌, ◌∙◌, ap, sym, refl, subst, Bool, true, false, not, ◌==◌, ◌&&◌, ◌||◌, length, get_or, eq-eqb, Option, None, Some, IfSome, arith}
use Rattle.std.proofs.lemmas.List.{append-nil, append_assoc}
use Rattle.std.specs.List.{list_all}
use Rattle.csv.proofs.ReadFacts.{run-copies}
use Rattle.csv.specs.Machine.{Runs, next_record, step}
use Rattle.csv.specs.Reading.{records, records_from, strip_bom}
use Rattle.csv.specs.declared.parser.Config.{Config}
use Rattle.csv.specs.declared.parser.State.{State}
use Rattle.csv.specs.declared.parser.State.TheVariants as st
use Rattle.csv.specs.declared.parser.Action.TheVariants as act
use Rattle.text_parsers.specs.CsvRecords.{config_with, records_of}
use Rattle.text_parsers.specs.FirstRecord.{is_line_end}
use Rattle.text_parsers.specs.Inner.Plain.{is_plain}
use Rattle.text_parsers.specs.Inner.FieldSlices.{is_bare, IsField, bare, enclosed, AreFields, last, more, HasFieldCount, HasRecord}
use Rattle.text_parsers.proofs.ReadRecords.{next_goes, ends_here, front_ends, IsInside}

-- ---- one byte

pub both_pass : (a b : Bool) → (a && b) ≡ true → (a ≡ true) × (b ≡ true)
both_pass true true h = (refl, refl)
both_pass true false h = absurd (cc h)
both_pass false b h = absurd (cc h)

pub fails : (b : Bool) → not b ≡ true → b ≡ false
fails true h = absurd (cc h)
fails false h = refl

pub record Tests (c : ℕ) : Type 0 where
  pub quote : (c == 34) ≡ false
  pub carriage : (c == 13) ≡ false
  pub line : (c == 10) ≡ false

pub tests : (c : ℕ) → is_plain c ≡ true → Tests c
tests c h = by (c == 34) refl (c == 13) refl (c == 10) refl h
  where
    by : (q : Bool) → (c == 34) ≡ q → (r : Bool) → (c == 13) ≡ r → (l : Bool) → (c == 10) ≡ l → not (q || (r || l)) ≡ true → Tests c
    by true q r er l el h = cc h
    by false q true er l el h = cc h
    by false q false er true el h = cc h
    by false q false er false el h = record { quote = q; carriage = er; line = el }

no_line_end : (c : ℕ) → is_plain c ≡ true → is_line_end c ≡ false
no_line_end c h = let t = tests c h in let r = t.carriage in let l = t.line in rw (r, l) refl

-- ---- one field

runs : (cfg : Config) (p : ℕ → Bool) (s : State) → ((c : ℕ) → p c ≡ true → step cfg s c ≡ (s, act.Copy)) → (xs : List ℕ) → list_all p xs ≡ true → Runs cfg s xs
unfolding Runs
runs cfg p s copies [] h = tt
runs cfg p s copies (c ∷ cs) h = let here = both_pass (p c) (list_all p cs) h in (copies c here.0, runs cfg p s copies cs here.1)

module _ (d : ℕ) where
  copies_bare : (c : ℕ) → is_bare d c ≡ true → step (config_with d) st.InField c ≡ (st.InField, act.Copy)
  copies_bare c h =
      let both = both_pass (is_plain c) (not (c == d)) h in
      let t = tests c both.0 in let r = t.carriage in let l = t.line in let n = fails (c == d) both.1 in rw (n, r, l) refl

  opens_bare : (c : ℕ) → is_bare d c ≡ true → step (config_with d) st.StartField c ≡ (st.InField, act.Copy)
  opens_bare c h =
      let both = both_pass (is_plain c) (not (c == d)) h in
      let t = tests c both.0 in let q = t.quote in let r = t.carriage in let l = t.line in let n = fails (c == d) both.1 in rw (q, n, r, l) refl

  copies_enclosed : (c : ℕ) → is_plain c ≡ true → step (config_with d) st.InQuoted c ≡ (st.InQuoted, act.Copy)
  copies_enclosed c h = let t = tests c h in let q = t.quote in rw q refl

  -- a field is whole in this state, where a delimiter comes or the text ends
  record Closes (s : State) : Type 0 where
    pub ends : is_plain d ≡ true → step (config_with d) s d ≡ (st.StartField, act.EndField)
    pub inside : IsInside s

  itself : (d == d) ≡ true
  itself = eq-eqb d d refl

  closes_front : Closes st.StartField
  closes_front = record { ends = λ plain. (let t = tests d plain in let q = t.quote in let e = itself in rw (q, e) refl); inside = tt }

  closes_field : Closes st.InField
  closes_field = record { ends = λ plain. (let e = itself in rw e refl); inside = tt }

  closes_quote : Closes st.AfterQuote
  closes_quote = record { ends = λ plain. (let t = tests d plain in let q = t.quote in let e = itself in rw (q, e) refl); inside = tt }

  abbrev Reads : List (List ℕ) → List ℕ → List ℕ → List ℕ → Type 0
  Reads fields text field tail = (s : State) × Closes s × (next_record (config_with d) st.StartField fields [] text ≡ next_record (config_with d) s fields field tail)

  reads_bare : (fields : List (List ℕ)) (part tail : List ℕ) → list_all (is_bare d) part ≡ true → Reads fields (part ++ tail) part tail
  reads_bare fields [] tail h = (st.StartField, closes_front, refl)
  reads_bare fields (c ∷ cs) tail h =
      let here = both_pass (is_bare d c) (list_all (is_bare d) cs) h in (
        st.InField,
        closes_field,
        next_goes (config_with d) st.StartField st.InField act.Copy fields [] c (cs ++ tail) (opens_bare c here.0) refl
            ∙ run-copies (config_with d) st.InField fields (c ∷ []) cs tail (runs (config_with d) (is_bare d) st.InField copies_bare cs here.1),
      )

  reads_enclosed : (fields : List (List ℕ)) (field tail : List ℕ) → list_all is_plain field ≡ true → Reads fields ((34 ∷ field ++ 34 ∷ []) ++ tail) field tail
  reads_enclosed fields field tail h = (
    st.AfterQuote,
    closes_quote,
    next_goes (config_with d) st.StartField st.InQuoted act.Skip fields [] 34 ((field ++ 34 ∷ []) ++ tail) refl refl
        ∙ ap (λ (l : List ℕ). next_record (config_with d) st.InQuoted fields [] l) (append_assoc field (34 ∷ []) tail)
        ∙ run-copies (config_with d) st.InQuoted fields [] field (34 ∷ tail) (runs (config_with d) is_plain st.InQuoted copies_enclosed field h)
        ∙ next_goes (config_with d) st.InQuoted st.AfterQuote act.Skip fields field 34 tail refl refl,
  )

  reads : (fields : List (List ℕ)) (part field tail : List ℕ) → IsField d part field → Reads fields (part ++ tail) field tail
  reads fields part field tail (bare h) = reads_bare fields part tail h
  reads fields part field tail (enclosed h) = reads_enclosed fields field tail h

  -- ---- the fields, one after another

  reads_all : (fields : List (List ℕ)) (text : List ℕ) (behind : List (List ℕ)) → AreFields d text behind
      → next_record (config_with d) st.StartField fields [] text ≡ Some (fields ++ behind, st.StartRecord, [])
  reads_all fields text behind (last {field = field} f) =
      let r = reads fields text field [] f in
      ap (λ (l : List ℕ). next_record (config_with d) st.StartField fields [] l) (sym (append-nil text))
      ∙ r.2
      ∙ ends_here (config_with d) r.0 fields field r.1.inside
  reads_all fields text behind (more {part = part} {field = field} {rest = rest} {fields = left} plain f are) =
      let r = reads fields part field (d ∷ rest) f in
      r.2
      ∙ next_goes (config_with d) r.0 st.StartField act.EndField fields field d rest (r.1.ends plain) refl
      ∙ reads_all (fields ++ (field ∷ [])) rest left are
      ∙ ap (λ (l : List (List ℕ)). Some (l, st.StartRecord, [])) (append_assoc fields (field ∷ []) left)

  -- ---- the front of the record

  bare_other : (part tail : List ℕ) → list_all (is_bare d) part ≡ true → (part ≡ [] → is_line_end (get_or tail 0 0) ≡ false) → is_line_end (get_or (part ++ tail) 0 0) ≡ false
  bare_other [] tail h e = e refl
  bare_other (c ∷ cs) tail h e = no_line_end c (both_pass (is_plain c) (not (c == d)) (both_pass (is_bare d c) (list_all (is_bare d) cs) h).0).0

  field_other : (part field tail : List ℕ) → IsField d part field → (part ≡ [] → is_line_end (get_or tail 0 0) ≡ false) → is_line_end (get_or (part ++ tail) 0 0) ≡ false
  field_other part field tail (bare h) e = bare_other part tail h e
  field_other part field tail (enclosed h) e = refl

  front_other : (text : List ℕ) (fields : List (List ℕ)) → 0 < length text → AreFields d text fields → is_line_end (get_or text 0 0) ≡ false
  front_other text fields some (last {field = field} f) =
      subst (λ (l : List ℕ). is_line_end (get_or l 0 0) ≡ false) (append-nil text)
      (field_other text field [] f (λ e. (let none : length text ≡ 0 = ap length e in absurd (omega arith))))
  front_other text fields some (more {part = part} {field = field} {rest = rest} plain f are) = field_other part field (d ∷ rest) f (λ e. no_line_end d plain)

  front_passed : (c : ℕ) (rest : List ℕ) → is_line_end c ≡ false → next_record (config_with d) st.StartRecord [] [] (c ∷ rest) ≡ next_record (config_with d) st.StartField [] [] (c ∷ rest)
  unfolding next_record
  front_passed c rest e = rw e refl

one_record : (cfg : Config) (xs : List ℕ) (fields : List (List ℕ)) (n : ℕ) → length xs ≡ suc n → next_record cfg st.StartRecord [] [] xs ≡ Some (fields, st.StartRecord, []) → records cfg xs ≡ fields ∷ []
unfolding records_from
one_record cfg xs fields n long e =
    let size : length xs + 1 ≡ suc (suc n) = omega arith in
    rw (size, e, front_ends cfg [] []) refl

no_mark : (text : List ℕ) → (get_or text 0 0 == 239) ≡ false → strip_bom text ≡ text
unfolding strip_bom
no_mark [] h = refl
no_mark (a ∷ []) h = refl
no_mark (a ∷ b ∷ []) h = refl
no_mark (a ∷ b ∷ c ∷ rest) h = rw h refl

pub only_record : (d : ℕ) (text : List ℕ) (fields : List (List ℕ)) → 0 < length text → (get_or text 0 0 == 239) ≡ false → AreFields d text fields → records_of d text ≡ fields ∷ []
unfolding records_of
only_record d [] fields some h are = absurd (omega arith)
only_record d (c ∷ rest) fields some h are =
    rw (no_mark (c ∷ rest) h)
    (one_record (config_with d) (c ∷ rest) fields (length rest) refl (front_passed d c rest (front_other d (c ∷ rest) fields some are) ∙ reads_all d [] (c ∷ rest) fields are))

-- ---- how many there are

pub not_empty : (text bytes : List ℕ) → bytes ≡ text → (length bytes == 0) ≡ false → 0 < length text
not_empty text bytes e n = subst (λ (l : List ℕ). 0 < length l) e (some bytes n)
  where
    some : (bytes : List ℕ) → (length bytes == 0) ≡ false → 0 < length bytes
    some [] n = absurd (cc n)
    some (byte ∷ bytes) n = omega arith

pub has_record : (d : ℕ) (text : List ℕ) (fields : List (List ℕ)) (count : ℕ) → 0 < length text → (get_or text 0 0 == 239) ≡ false → AreFields d text fields → count ≡ length fields → HasRecord d text count
has_record d text fields count some h are n = record { fields = fields; are = are; only = only_record d text fields some h are; counted = n }

pub has_counted : (d : ℕ) (text bytes : List ℕ) (count : Option ℕ) → bytes ≡ text → 0 < length text → (get_or text 0 0 == 239) ≡ false → IfSome count (HasFieldCount d bytes) → IfSome count (HasRecord d text)
has_counted d text bytes None same some h c = tt
has_counted d text bytes (Some count) same some h c = has_record d text c.0 count some h (subst (λ (l : List ℕ). AreFields d l c.0) same c.1) c.2
