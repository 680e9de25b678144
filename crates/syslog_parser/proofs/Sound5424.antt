-- What is gone over to its end is a message's tail in the words of the grammar, and from each state some bytes lead to one.
use Rattle.std.proofs.Common.{◌≡◌, ℕ, suc, ◌+◌, ◌-◌, ◌≤◌, ◌⊎◌, inl, inr, List, [], ◌∷◌, ◌++◌, ◌∙◌, ap, sym, refl, subst, Some, Ok, Bool, true, false, not, ◌&&◌, ◌||◌, ◌==◌, length, nat_lt, append_assoc, length-append, arith, ltb-true, lt-ltb, eqb-true}
use Rattle.std.proofs.lemmas.List.{append-nil}
use Rattle.std.proofs.lemmas.List.Folds.{list_all-append}
use Rattle.std.specs.List.{list_all}
use Rattle.syslog_parser.specs.Bytes.{is_printable, is_name_byte, is_special, is_plain}
use Rattle.syslog_parser.specs.Rfc5424.{Limited, Valued, header_fields, AreFields, no_field, a_field, IsEnd, no_message, a_message, Tail, IsTail, without_mark}
use Rattle.syslog_parser.specs.States5424.{Before, Within, State, in_field, wants_data, behind_none, wants_element, in_id, in_name, wants_quote, in_value, in_escape, behind_value, behind_element, in_message, fields_on, with_element, with_param, is_begun, field_step, element_step, data_step, message_step, param_step, id_step, name_step, quote_step, value_step, escape_step, step, value_at, tail_of, outcome, start}
use Rattle.syslog_parser.specs.Structured.{IsName, IsContent, a_quote, a_plain, an_escape, a_backslash, Param, IsParam, a_param, AreParams, no_param, next_param, Element, IsElement, an_element, AreElements, last_element, next_element, IsData, no_data, some_data}
use Rattle.syslog_parser.specs.Words.{IsShortWord}
use Rattle.syslog_parser.proofs.Over5424.{begun_element, spare_is}
use Rattle.syslog_parser.proofs.Backwards.{Back, none_back, some_back, if_back, on_back, then_back, completed, Viable, leads, ends_at}
use Rattle.syslog_parser.proofs.Words.{both, if_true}

-- ---- what completes a state

abbrev AfterData : List ℕ → Type 0
AfterData text = (message : List ℕ) × IsEnd text message

abbrev Elements : List ℕ → Type 0
Elements text = (elements : List Element) × (rest : List ℕ) × AreElements text elements rest × AfterData rest

abbrev AfterElement : List ℕ → Type 0
AfterElement text = AfterData text ⊎ Elements text

abbrev AfterValue : List ℕ → Type 0
AfterValue text = (params : List Param) × (rest : List ℕ) × AreParams text params rest × AfterElement rest

abbrev AfterFields : List ℕ → Type 0
AfterFields text = (elements : List Element) × (rest : List ℕ) × IsData text elements rest × AfterData rest

abbrev ArePositive : List Limited → Type 0
ArePositive [] = Unit {0}
ArePositive (field ∷ fields) = (1 ≤ field.1) × ArePositive fields

abbrev Fields : List Limited → List ℕ → Type 0
Fields fields text = ArePositive fields → (values : List Valued) × (behind : List ℕ) × AreFields fields text values behind × AfterFields behind

-- the bytes of a word so far
record IsBegunWord (kind : ℕ → Bool) (most : ℕ) (own : List ℕ) : Type 0 where
  all : list_all kind own ≡ true
  few : length own ≤ most

abbrev Completes : State → List ℕ → Type 0
Completes (in_field name spare fields values own) text =
    ArePositive fields → IsBegunWord is_printable (suc spare) own
    → (more : List ℕ) × (front : List ℕ) × (others : List Valued) × (behind : List ℕ)
    × (text ≡ more ++ 32 ∷ front) × IsShortWord is_printable (suc spare) (own ++ more) × AreFields fields front others behind × AfterFields behind
Completes (wants_data values) text = AfterFields text
Completes (behind_none values) text = AfterData text
Completes (wants_element before) text = Elements text
Completes (in_id before own) text =
    IsBegunWord is_name_byte 32 own → (more : List ℕ) × (behind : List ℕ) × (text ≡ more ++ behind) × IsName (own ++ more) × AfterValue behind
Completes (in_name within own) text =
    IsBegunWord is_name_byte 32 own
    → (more : List ℕ) × (front : List ℕ) × (value : List ℕ) × (behind : List ℕ)
    × (text ≡ more ++ 61 ∷ 34 ∷ front) × IsName (own ++ more) × IsContent front value behind × AfterValue behind
Completes (wants_quote within name) text =
    (front : List ℕ) × (value : List ℕ) × (behind : List ℕ) × (text ≡ 34 ∷ front) × IsContent front value behind × AfterValue behind
Completes (in_value within name own) text = (value : List ℕ) × (behind : List ℕ) × IsContent text value behind × AfterValue behind
Completes (in_escape within name own) text = (value : List ℕ) × (behind : List ℕ) × IsContent (92 ∷ text) value behind × AfterValue behind
Completes (behind_value within) text = AfterValue text
Completes (behind_element before) text = AfterElement text
Completes (in_message before own) text = Unit {0}

nothing_begun : (kind : ℕ → Bool) (most : ℕ) → IsBegunWord kind most []
nothing_begun kind most = record { all = refl; few = omega arith }

one_more : (kind : ℕ → Bool) (most : ℕ) (own : List ℕ) (byte : ℕ) → (kind byte && nat_lt (length own) most) ≡ true → IsBegunWord kind most own → IsBegunWord kind most (own ++ byte ∷ [])
one_more kind most own byte e w =
    let b = both (kind byte) (nat_lt (length own) most) e in
    let less = ltb-true (length own) most b.1 in
    let len : length (own ++ byte ∷ []) ≡ length own + 1 = length-append own (byte ∷ []) in
    record {
      all = list_all-append kind own (byte ∷ []) ∙ ap (λ (t : Bool). t && (kind byte && true)) w.all ∙ ap (λ (t : Bool). t && true) b.0;
      few = omega arith;
    }

whole_word : (kind : ℕ → Bool) (most : ℕ) (own : List ℕ) → is_begun own ≡ true → IsBegunWord kind most own → IsShortWord kind most (own ++ [])
whole_word kind most [] e w = absurd (cc e)
whole_word kind most (byte ∷ own) e w =
    let same : byte ∷ own ≡ (byte ∷ own) ++ [] = sym (append-nil (byte ∷ own)) in
    subst (λ (l : List ℕ). IsShortWord kind most l) same (record { word = record { some = some (length own) refl; all = w.all }; few = w.few })
  where
    some : (n : ℕ) → length own ≡ n → 1 ≤ length (byte ∷ own)
    some n e = let len : length (byte ∷ own) ≡ suc (length own) = refl in omega arith

module _ (bytes : List ℕ) where
  -- ---- fields

  from_fields : (fields : List Limited) (values : List Valued) → Completes (fields_on fields values) bytes → Fields fields bytes
  from_fields [] values c = λ _. ([], bytes, no_field, c)
  from_fields (field ∷ fields) values c = λ positive.
      let r = c positive.1 (nothing_begun is_printable (suc (field.1 - 1))) in
      let most : IsShortWord is_printable field.1 r.0 = subst (λ (n : ℕ). IsShortWord is_printable n r.0) (spare_is field.1 positive.0) r.5 in
      let read : AreFields (field ∷ fields) (r.0 ++ 32 ∷ r.1) ((field.0, r.0) ∷ r.2) r.3 = a_field most r.6 in
      ((field.0, r.0) ∷ r.2, r.3, subst (λ (l : List ℕ). AreFields (field ∷ fields) l ((field.0, r.0) ∷ r.2) r.3) (sym r.4) read, r.7)

  field_back : (name : List ℕ) (spare : ℕ) (fields : List Limited) (values : List Valued) (own : List ℕ) (byte : ℕ)
      → Back Completes (Completes (in_field name spare fields values own) (byte ∷ bytes)) bytes (field_step name spare fields values own byte)
  field_back name spare fields values own byte =
      if_back Completes bytes (is_printable byte && nat_lt (length own) (suc spare)) _ _
      (λ e. some_back Completes bytes (in_field name spare fields values (own ++ byte ∷ [])) (λ h positive begun.
      let r = h positive (one_more is_printable (suc spare) own byte e begun) in
      (byte ∷ r.0, r.1, r.2, r.3, ap (λ (l : List ℕ). byte ∷ l) r.4, subst (λ (l : List ℕ). IsShortWord is_printable (suc spare) l) (append_assoc own (byte ∷ []) r.0) r.5, r.6, r.7)))
      (λ _. if_back Completes bytes ((byte == 32) && is_begun own) _ _
      (λ e. some_back Completes bytes (fields_on fields (values ++ (name, own) ∷ [])) (λ h positive begun.
      let t = both (byte == 32) (is_begun own) e in
      let r = from_fields fields (values ++ (name, own) ∷ []) h positive in
      ([], bytes, r.0, r.1, ap (λ (b : ℕ). b ∷ bytes) (eqb-true byte 32 t.0), whole_word is_printable (suc spare) own t.1 begun, r.2, r.3)))
      (λ _. none_back Completes bytes))

  -- ---- elements

  param_back : (within : Within) (byte : ℕ) → Back Completes (AfterValue (byte ∷ bytes)) bytes (param_step within byte)
  param_back within byte =
      on_back Completes bytes (λ (b : ℕ). AfterValue (b ∷ bytes)) byte 32 _ _
      (some_back Completes bytes (in_name within []) (λ h.
      let r = h (nothing_begun is_name_byte 32) in
      let param : IsParam (r.0 ++ 61 ∷ 34 ∷ r.1) (r.0, r.2) r.3 = a_param r.5 r.6 in
      ((r.0, r.2) ∷ r.7.0, r.7.1, next_param (subst (λ (l : List ℕ). IsParam l (r.0, r.2) r.3) (sym r.4) param) r.7.2, r.7.3)))
      (λ _. on_back Completes bytes (λ (b : ℕ). AfterValue (b ∷ bytes)) byte 93 _ _
      (some_back Completes bytes (behind_element (with_element within)) (λ h. ([], bytes, no_param, h)))
      (λ _. none_back Completes bytes))

  from_id : (before : Before) → Completes (in_id before []) bytes → Elements (91 ∷ bytes)
  from_id before c = by r.4.3
    where
      r : (more : List ℕ) × (behind : List ℕ) × (bytes ≡ more ++ behind) × IsName more × AfterValue behind
      r = c (nothing_begun is_name_byte 32)

      element : IsElement (91 ∷ bytes) (r.0, r.4.0) r.4.1
      element = subst (λ (l : List ℕ). IsElement (91 ∷ l) (r.0, r.4.0) r.4.1) (sym r.2) (an_element r.3 r.4.2)

      by : AfterElement r.4.1 → Elements (91 ∷ bytes)
      by (inl d) = ((r.0, r.4.0) ∷ [], r.4.1, last_element element, d)
      by (inr d) = ((r.0, r.4.0) ∷ d.0, d.1, next_element element d.2, d.3)

  element_back : (before : Before) (byte : ℕ) → Back Completes (Elements (byte ∷ bytes)) bytes (element_step before byte)
  element_back before byte =
      on_back Completes bytes (λ (b : ℕ). Elements (b ∷ bytes)) byte 91 _ _ (some_back Completes bytes (in_id before []) (λ h. from_id before h)) (λ _. none_back Completes bytes)

  message_back : (before : Before) (byte : ℕ) → Back Completes (AfterData (byte ∷ bytes)) bytes (message_step before byte)
  message_back before byte =
      on_back Completes bytes (λ (b : ℕ). AfterData (b ∷ bytes)) byte 32 _ _ (some_back Completes bytes (in_message before []) (λ h. (without_mark bytes, a_message))) (λ _. none_back Completes bytes)

  data_back : (values : List Valued) (byte : ℕ) → Back Completes (AfterFields (byte ∷ bytes)) bytes (data_step values byte)
  data_back values byte =
      on_back Completes bytes (λ (b : ℕ). AfterFields (b ∷ bytes)) byte 45 _ _ (some_back Completes bytes (behind_none values) (λ h. ([], bytes, no_data, h)))
      (λ _. then_back Completes bytes (element_step (record { values = values; elements = [] }) byte) (λ r. (r.0, r.1, some_data r.2, r.3)) (element_back (record { values = values; elements = [] }) byte))

  behind_back : (before : Before) (byte : ℕ) → Back Completes (AfterElement (byte ∷ bytes)) bytes (step (behind_element before) byte)
  behind_back before byte =
      on_back Completes bytes (λ (b : ℕ). AfterElement (b ∷ bytes)) byte 91 _ _ (some_back Completes bytes (in_id before []) (λ h. inr (from_id before h)))
      (λ _. then_back Completes bytes (message_step before byte) (λ d. inl d) (message_back before byte))

  id_back : (before : Before) (own : List ℕ) (byte : ℕ) → Back Completes (Completes (in_id before own) (byte ∷ bytes)) bytes (id_step before own byte)
  id_back before own byte =
      if_back Completes bytes (is_name_byte byte && nat_lt (length own) 32) _ _
      (λ e. some_back Completes bytes (in_id before (own ++ byte ∷ [])) (λ h begun.
      let r = h (one_more is_name_byte 32 own byte e begun) in
      (byte ∷ r.0, r.1, ap (λ (l : List ℕ). byte ∷ l) r.2, subst (λ (l : List ℕ). IsName l) (append_assoc own (byte ∷ []) r.0) r.3, r.4)))
      (λ _. if_back Completes bytes (is_begun own) _ _
      (λ e. then_back Completes bytes (param_step (begun_element before own) byte)
      (λ r begun. ([], byte ∷ bytes, refl, whole_word is_name_byte 32 own e begun, r)) (param_back (begun_element before own) byte))
      (λ _. none_back Completes bytes))

  name_back : (within : Within) (own : List ℕ) (byte : ℕ) → Back Completes (Completes (in_name within own) (byte ∷ bytes)) bytes (name_step within own byte)
  name_back within own byte =
      if_back Completes bytes (is_name_byte byte && nat_lt (length own) 32) _ _
      (λ e. some_back Completes bytes (in_name within (own ++ byte ∷ [])) (λ h begun.
      let r = h (one_more is_name_byte 32 own byte e begun) in
      (byte ∷ r.0, r.1, r.2, r.3, ap (λ (l : List ℕ). byte ∷ l) r.4, subst (λ (l : List ℕ). IsName l) (append_assoc own (byte ∷ []) r.0) r.5, r.6, r.7)))
      (λ _. if_back Completes bytes ((byte == 61) && is_begun own) _ _
      (λ e. some_back Completes bytes (wants_quote within own) (λ h begun.
      let t = both (byte == 61) (is_begun own) e in
      ([], h.0, h.1, h.2, ap (λ (b : ℕ). b ∷ bytes) (eqb-true byte 61 t.0) ∙ ap (λ (l : List ℕ). 61 ∷ l) h.3, whole_word is_name_byte 32 own t.1 begun, h.4, h.5)))
      (λ _. none_back Completes bytes))

  quote_back : (within : Within) (name : List ℕ) (byte : ℕ) → Back Completes (Completes (wants_quote within name) (byte ∷ bytes)) bytes (quote_step within name byte)
  quote_back within name byte =
      on_back Completes bytes (λ (b : ℕ). Completes (wants_quote within name) (b ∷ bytes)) byte 34 _ _
      (some_back Completes bytes (in_value within name []) (λ h. (bytes, h.0, h.1, refl, h.2, h.3))) (λ _. none_back Completes bytes)

  none_special : (byte : ℕ) → (byte == 34) ≡ false → (byte == 92) ≡ false → (byte == 93) ≡ false → is_plain byte ≡ true
  none_special byte a b c = ap not (ap (λ (t : Bool). (t || (byte == 92)) || (byte == 93)) a ∙ ap (λ (t : Bool). t || (byte == 93)) b ∙ c)

  value_back : (within : Within) (name own : List ℕ) (byte : ℕ) → Back Completes (Completes (in_value within name own) (byte ∷ bytes)) bytes (value_step within name own byte)
  value_back within name own byte =
      on_back Completes bytes T byte 34 _ _ (some_back Completes bytes (behind_value (with_param within name own)) (λ h. ([], bytes, a_quote, h)))
      (λ a. on_back Completes bytes T byte 92 _ _ (some_back Completes bytes (in_escape within name own) (λ h. h))
      (λ b. if_back Completes bytes (byte == 93) _ _ (λ _. none_back Completes bytes)
      (λ d. some_back Completes bytes (in_value within name (own ++ byte ∷ [])) (λ h. (byte ∷ h.0, h.1, a_plain (none_special byte a b d) h.2, h.3)))))
    where
      T : ℕ → Type 0
      T b = Completes (in_value within name own) (b ∷ bytes)

  escape_back : (within : Within) (name own : List ℕ) (byte : ℕ) → Back Completes (Completes (in_escape within name own) (byte ∷ bytes)) bytes (escape_step within name own byte)
  escape_back within name own byte =
      if_back Completes bytes (is_special byte) _ _
      (λ e. some_back Completes bytes (in_value within name (own ++ byte ∷ [])) (λ h. (byte ∷ h.0, h.1, an_escape e h.2, h.3)))
      (λ e. some_back Completes bytes (in_value within name ((own ++ 92 ∷ []) ++ byte ∷ [])) (λ h.
      let plain : is_plain byte ≡ true = ap not e in
      (92 ∷ byte ∷ h.0, h.1, a_backslash plain (a_plain plain h.2), h.3)))

  step_back : (s : State) (byte : ℕ) → Back Completes (Completes s (byte ∷ bytes)) bytes (step s byte)
  step_back (in_field name spare fields values own) byte = field_back name spare fields values own byte
  step_back (wants_data values) byte = data_back values byte
  step_back (behind_none values) byte = message_back (record { values = values; elements = [] }) byte
  step_back (wants_element before) byte = element_back before byte
  step_back (in_id before own) byte = id_back before own byte
  step_back (in_name within own) byte = name_back within own byte
  step_back (wants_quote within name) byte = quote_back within name byte
  step_back (in_value within name own) byte = value_back within name own byte
  step_back (in_escape within name own) byte = escape_back within name own byte
  step_back (behind_value within) byte = param_back within byte
  step_back (behind_element before) byte = behind_back before byte
  step_back (in_message before own) byte = some_back Completes bytes (in_message before (own ++ byte ∷ [])) (λ h. tt)

at_end : (s : State) (v : Tail) → value_at s ≡ Some v → Completes s []
at_end (in_field name spare fields values own) v e = absurd (cc e)
at_end (wants_data values) v e = absurd (cc e)
at_end (behind_none values) v e = ([], no_message)
at_end (wants_element before) v e = absurd (cc e)
at_end (in_id before own) v e = absurd (cc e)
at_end (in_name within own) v e = absurd (cc e)
at_end (wants_quote within name) v e = absurd (cc e)
at_end (in_value within name own) v e = absurd (cc e)
at_end (in_escape within name own) v e = absurd (cc e)
at_end (behind_value within) v e = absurd (cc e)
at_end (behind_element before) v e = inl ([], no_message)
at_end (in_message before own) v e = tt

-- what the machine reads is a tail
pub tail_sound : (text : List ℕ) (v : Tail) → outcome start text ≡ Ok v → (tail : Tail) × IsTail text tail
tail_sound text v e =
    let r = from_fields text header_fields [] (completed step value_at Completes step_back at_end text start v e) (omega arith, (omega arith, (omega arith, (omega arith, tt)))) in
    let tail : Tail = record { values = r.0; elements = r.3.0; message = r.3.3.0 } in
    (tail, record { behind_fields = r.1; behind_data = r.3.1; fields = r.2; elements = r.3.2; end = r.3.3.1 })

-- ---- from each state some bytes lead to a tail

abbrev Lives : State → Type 0
Lives s = Viable step value_at s

element_viable : (before : Before) → Lives (behind_element before)
element_viable before = ends_at step value_at (behind_element before) (tail_of before []) refl

value_viable : (within : Within) → Lives (behind_value within)
value_viable within = leads step value_at (behind_value within) (behind_element (with_element within)) 93 refl (element_viable (with_element within))

in_value_viable : (within : Within) (name own : List ℕ) → Lives (in_value within name own)
in_value_viable within name own = leads step value_at (in_value within name own) (behind_value (with_param within name own)) 34 refl (value_viable (with_param within name own))

quote_viable : (within : Within) (name : List ℕ) → Lives (wants_quote within name)
quote_viable within name = leads step value_at (wants_quote within name) (in_value within name []) 34 refl (in_value_viable within name [])

begun_name_viable : (within : Within) (byte : ℕ) (own : List ℕ) → Lives (in_name within (byte ∷ own))
begun_name_viable within byte own = leads step value_at (in_name within (byte ∷ own)) (wants_quote within (byte ∷ own)) 61 refl (quote_viable within (byte ∷ own))

name_viable : (within : Within) (own : List ℕ) → Lives (in_name within own)
name_viable within [] = leads step value_at (in_name within []) (in_name within (97 ∷ [])) 97 refl (begun_name_viable within 97 [])
name_viable within (byte ∷ own) = begun_name_viable within byte own

begun_id_viable : (before : Before) (byte : ℕ) (own : List ℕ) → Lives (in_id before (byte ∷ own))
begun_id_viable before byte own =
    leads step value_at (in_id before (byte ∷ own)) (behind_element (with_element (begun_element before (byte ∷ own)))) 93 refl
    (element_viable (with_element (begun_element before (byte ∷ own))))

id_viable : (before : Before) (own : List ℕ) → Lives (in_id before own)
id_viable before [] = leads step value_at (in_id before []) (in_id before (97 ∷ [])) 97 refl (begun_id_viable before 97 [])
id_viable before (byte ∷ own) = begun_id_viable before byte own

data_viable : (values : List Valued) → Lives (wants_data values)
data_viable values = leads step value_at (wants_data values) (behind_none values) 45 refl (ends_at step value_at (behind_none values) (record { values = values; elements = []; message = [] }) refl)

fields_viable : (fields : List Limited) (values : List Valued) → Lives (fields_on fields values)
fields_viable [] values = data_viable values
fields_viable (field ∷ fields) values =
    leads step value_at (in_field field.0 (field.1 - 1) fields values []) (in_field field.0 (field.1 - 1) fields values (45 ∷ [])) 45
    (if_true (nat_lt 0 (suc (field.1 - 1))) _ _ (lt-ltb 0 (suc (field.1 - 1)) (omega arith)))
    (leads step value_at (in_field field.0 (field.1 - 1) fields values (45 ∷ [])) (fields_on fields (values ++ (field.0, 45 ∷ []) ∷ [])) 32 refl
    (fields_viable fields (values ++ (field.0, 45 ∷ []) ∷ [])))

field_viable : (name : List ℕ) (spare : ℕ) (fields : List Limited) (values : List Valued) (own : List ℕ) → Lives (in_field name spare fields values own)
field_viable name spare fields values [] =
    leads step value_at (in_field name spare fields values []) (in_field name spare fields values (45 ∷ [])) 45
    (if_true (nat_lt 0 (suc spare)) _ _ (lt-ltb 0 (suc spare) (omega arith)))
    (leads step value_at (in_field name spare fields values (45 ∷ [])) (fields_on fields (values ++ (name, 45 ∷ []) ∷ [])) 32 refl
    (fields_viable fields (values ++ (name, 45 ∷ []) ∷ [])))
field_viable name spare fields values (byte ∷ own) =
    leads step value_at (in_field name spare fields values (byte ∷ own)) (fields_on fields (values ++ (name, byte ∷ own) ∷ [])) 32 refl
    (fields_viable fields (values ++ (name, byte ∷ own) ∷ []))

viable_from : (s : State) → Lives s
viable_from (in_field name spare fields values own) = field_viable name spare fields values own
viable_from (wants_data values) = data_viable values
viable_from (behind_none values) = ends_at step value_at (behind_none values) (record { values = values; elements = []; message = [] }) refl
viable_from (wants_element before) = leads step value_at (wants_element before) (in_id before []) 91 refl (id_viable before [])
viable_from (in_id before own) = id_viable before own
viable_from (in_name within own) = name_viable within own
viable_from (wants_quote within name) = quote_viable within name
viable_from (in_value within name own) = in_value_viable within name own
viable_from (in_escape within name own) = leads step value_at (in_escape within name own) (in_value within name (own ++ 34 ∷ [])) 34 refl (in_value_viable within name (own ++ 34 ∷ []))
viable_from (behind_value within) = value_viable within
viable_from (behind_element before) = element_viable before
viable_from (in_message before own) = ends_at step value_at (in_message before own) (tail_of before (without_mark own)) refl

pub viable : (s : State) → (more : List ℕ) × (v : Tail) × (outcome s more ≡ Ok v)
viable s = let r = viable_from s in (r.more, r.v, r.runs)
