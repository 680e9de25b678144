-- Going over what the grammar of RFC 5424 spells.
use Rattle.std.proofs.Common.{◌≡◌, ℕ, suc, ◌-◌, ◌<◌, ◌≤◌, ◌⊎◌, inl, inr, List, [], ◌∷◌, ◌++◌, ◌∙◌, ap, sym, refl, subst, None, Some, Ok, Err, Bool, true, false, not, ◌&&◌, ◌||◌, ◌==◌, cond, length, nat_lt, append_assoc, arith, lt-ltb, eqb-true}
use Rattle.std.proofs.lemmas.Bool.Decides.{nat_tests}
use Rattle.std.proofs.lemmas.List.{append-nil}
use Rattle.syslog_parser.specs.Bytes.{is_printable, is_name_byte, is_special, is_plain, is_not_space}
use Rattle.syslog_parser.specs.Machines as machines
use Rattle.syslog_parser.specs.Inner.Reads.{is_space, is_equals_sign, ends_id, HasNoWord, StopsInFields, here, later, BeginsWith}
use Rattle.syslog_parser.specs.Rfc5424.{Limited, Valued, AreFields, no_field, a_field, IsEnd, no_message, a_message, Tail, IsTail, without_mark}
use Rattle.syslog_parser.specs.States5424.{Before, Within, State, in_field, wants_data, behind_none, wants_element, in_id, in_name, wants_quote, in_value, in_escape, behind_value, behind_element, in_message, fields_on, with_element, with_param, is_begun, param_step, step, value_at, tail_of, outcome, start}
use Rattle.syslog_parser.specs.Structured.{IsName, IsContent, a_quote, a_plain, an_escape, a_backslash, Param, IsParam, a_param, AreParams, no_param, next_param, Element, IsElement, an_element, AreElements, last_element, next_element, IsData, no_data, some_data}
use Rattle.syslog_parser.specs.Words.{IsShortWord}
use Rattle.syslog_parser.proofs.OtherBytes.{neither, negated}
use Rattle.syslog_parser.proofs.Running.{outcome-byte, outcome_goes, outcome_stops, outcome_unfinished, outcome_finished}
use Rattle.syslog_parser.proofs.Runs.{InWord, StopsInWord, word_over, word_stops}
use Rattle.syslog_parser.proofs.SoFar.{with_params, with_elements}
use Rattle.syslog_parser.proofs.Words.{if_true, if_false}

goes : (s t : State) (byte : ℕ) (bytes : List ℕ) → step s byte ≡ Some t → outcome s (byte ∷ bytes) ≡ outcome t bytes
goes s t byte bytes e = outcome_goes step value_at s t byte bytes e

-- where two states take the same step
same_step : (s t : State) (byte : ℕ) (bytes : List ℕ) → step s byte ≡ step t byte → outcome s (byte ∷ bytes) ≡ outcome t (byte ∷ bytes)
same_step s t byte bytes e =
    outcome-byte step value_at s byte bytes
    ∙ ap (machines.followed step value_at (λ (next : State). outcome next bytes) (suc (length bytes))) e
    ∙ sym (outcome-byte step value_at t byte bytes)

-- ---- tests

and_false : (a b : Bool) → (a ≡ false) ⊎ (b ≡ false) → (a && b) ≡ false
and_false true b (inl e) = absurd (cc e)
and_false true b (inr e) = e
and_false false b e = refl

and_true : (a b : Bool) → a ≡ true → b ≡ true → (a && b) ≡ true
and_true true b e f = f
and_true false b e f = absurd (cc e)

room : (own most : ℕ) → own < most → nat_lt own most ≡ true
room own most l = lt-ltb own most l

no_room : (own most : ℕ) → most ≤ own → nat_lt own most ≡ false
no_room own most l = grind (arith, nat_tests)

full : (kind : ℕ → Bool) (own : List ℕ) (byte most : ℕ) → (kind byte ≡ false) ⊎ (most ≤ length own) → (kind byte && nat_lt (length own) most) ≡ false
full kind own byte most (inl e) = and_false (kind byte) (nat_lt (length own) most) (inl e)
full kind own byte most (inr l) = and_false (kind byte) (nat_lt (length own) most) (inr (no_room (length own) most l))

not_begun : (own : List ℕ) → own ≡ [] → is_begun own ≡ false
not_begun [] e = refl
not_begun (byte ∷ own) e = absurd (cc e)

begun : (own : List ℕ) → 1 ≤ length own → is_begun own ≡ true
begun [] l = absurd (omega arith)
begun (byte ∷ own) l = refl

unended : (ends : ℕ → Bool) (own : List ℕ) (byte : ℕ) → (own ≡ []) ⊎ (ends byte ≡ false) → (ends byte && is_begun own) ≡ false
unended ends own byte (inl e) = and_false (ends byte) (is_begun own) (inr (not_begun own e))
unended ends own byte (inr e) = and_false (ends byte) (is_begun own) (inl e)

-- ---- fields

module _ (name : List ℕ) (spare : ℕ) (fields : List Limited) (values : List Valued) where
  abbrev in_this : List ℕ → State
  in_this own = in_field name spare fields values own

  field_word : InWord step value_at in_this is_printable (suc spare)
  field_word = record {
    goes = λ own byte k l. if_true (is_printable byte && nat_lt (length own) (suc spare)) _ _ (and_true (is_printable byte) _ k (room (length own) (suc spare) l));
  }

  field_stopping : StopsInWord step value_at in_this is_printable (suc spare) is_space
  field_stopping = record {
    stops = λ own byte f u.
        if_false (is_printable byte && nat_lt (length own) (suc spare)) _ _ (full is_printable own byte (suc spare) f)
        ∙ if_false ((byte == 32) && is_begun own) _ _ (unended is_space own byte u);
    unfinished = λ own. refl;
  }

  field_over : (own rest : List ℕ) → IsShortWord is_printable (suc spare) own
      → outcome (in_this []) (own ++ 32 ∷ rest) ≡ outcome (fields_on fields (values ++ (name, own) ∷ [])) rest
  field_over own rest w =
      word_over step value_at in_this is_printable (suc spare) field_word own (32 ∷ rest) w.word.all w.few
      ∙ goes (in_this own) (fields_on fields (values ++ (name, own) ∷ [])) 32 rest (if_true (is_begun own) _ _ (begun own w.word.some))

pub spare_is : (most : ℕ) → 1 ≤ most → suc (most - 1) ≡ most
spare_is most l = omega arith

short_word : (own : List ℕ) (most : ℕ) → IsShortWord is_printable most own → IsShortWord is_printable (suc (most - 1)) own
short_word own most w =
    let some = w.word.some in let few = w.few in
    let same : most ≡ suc (most - 1) = omega arith in
    subst (λ (n : ℕ). IsShortWord is_printable n own) same w

pub fields_over : {fields : List Limited} {text rest : List ℕ} {more : List Valued} → AreFields fields text more rest
    → (values : List Valued) → outcome (fields_on fields values) text ≡ outcome (wants_data (values ++ more)) rest
fields_over (no_field {rest}) values = ap (λ (l : List Valued). outcome (wants_data l) rest) (sym (append-nil values))
fields_over (a_field {name} {own} {front} {rest} {most} {fields} {values = more} w d) values =
    field_over name (most - 1) fields values own front (short_word own most w)
    ∙ fields_over d (values ++ (name, own) ∷ [])
    ∙ ap (λ (l : List Valued). outcome (wants_data l) rest) (append_assoc values ((name, own) ∷ []) more)

pub fields_stop : {fields : List Limited} {text : List ℕ} {left : ℕ} → StopsInFields fields text left
    → (values : List Valued) → outcome (fields_on fields values) text ≡ Err left
fields_stop (here {name} {text} {most} {left} {fields} some found) values =
    let spare : ℕ = most - 1 in
    let same : most ≡ suc spare = omega arith in
    word_stops step value_at (in_field name spare fields values) is_printable (suc spare) (field_word name spare fields values)
    is_space (field_stopping name spare fields values) text left (omega arith)
    (subst (λ (n : ℕ). HasNoWord is_printable n is_space text left) same found)
fields_stop (later {name} {text} {own} {rest} {most} {left} {fields} field stop) values =
    ap (λ (l : List ℕ). outcome (fields_on ((name, most) ∷ fields) values) l) field.is
    ∙ field_over name (most - 1) fields values own rest (short_word own most field.short)
    ∙ fields_stop stop (values ++ (name, own) ∷ [])

-- ---- values

plain_tests : (byte : ℕ) → is_plain byte ≡ true → ((byte == 34) ≡ false) × (((byte == 92) ≡ false) × ((byte == 93) ≡ false))
plain_tests byte e =
    let none = negated (is_special byte) e in
    let two = neither ((byte == 34) || (byte == 92)) (byte == 93) none in
    let one = neither (byte == 34) (byte == 92) two.0 in
    (one.0, (one.1, two.1))

module _ (within : Within) (name : List ℕ) where
  plain_goes : (own : List ℕ) (byte : ℕ) → is_plain byte ≡ true → step (in_value within name own) byte ≡ Some (in_value within name (own ++ byte ∷ []))
  plain_goes own byte e =
      let t = plain_tests byte e in
      if_false (byte == 34) _ _ t.0 ∙ if_false (byte == 92) _ _ t.1.0 ∙ if_false (byte == 93) _ _ t.1.1

  pub plain_word : (most : ℕ) → InWord step value_at (in_value within name) is_plain most
  plain_word most = record { goes = λ own byte k l. plain_goes own byte k }

  -- a backslash, and a byte that it escapes
  pub escape_over : (own rest : List ℕ) (byte : ℕ) → is_special byte ≡ true
      → outcome (in_value within name own) (92 ∷ byte ∷ rest) ≡ outcome (in_value within name (own ++ byte ∷ [])) rest
  escape_over own rest byte e =
      goes (in_value within name own) (in_escape within name own) 92 (byte ∷ rest) refl
      ∙ goes (in_escape within name own) (in_value within name (own ++ byte ∷ [])) byte rest (if_true (is_special byte) _ _ e)

  -- one that is itself
  pub backslash_over : (own rest : List ℕ) (byte : ℕ) → is_plain byte ≡ true
      → outcome (in_value within name own) (92 ∷ byte ∷ rest) ≡ outcome (in_value within name (own ++ 92 ∷ [])) (byte ∷ rest)
  backslash_over own rest byte e =
      goes (in_value within name own) (in_escape within name own) 92 (byte ∷ rest) refl
      ∙ same_step (in_escape within name own) (in_value within name (own ++ 92 ∷ [])) byte rest
      (if_false (is_special byte) _ _ (negated (is_special byte) e) ∙ sym (plain_goes (own ++ 92 ∷ []) byte e))

  pub content_over : {text value rest : List ℕ} → IsContent text value rest
      → (own : List ℕ) → outcome (in_value within name own) text ≡ outcome (behind_value (with_param within name (own ++ value))) rest
  content_over (a_quote {rest}) own =
      goes (in_value within name own) (behind_value (with_param within name own)) 34 rest refl
      ∙ ap (λ (l : List ℕ). outcome (behind_value (with_param within name l)) rest) (sym (append-nil own))
  content_over (a_plain {byte} {front} {value} {rest} e d) own =
      goes (in_value within name own) (in_value within name (own ++ byte ∷ [])) byte front (plain_goes own byte e)
      ∙ content_over d (own ++ byte ∷ [])
      ∙ ap (λ (l : List ℕ). outcome (behind_value (with_param within name l)) rest) (append_assoc own (byte ∷ []) value)
  content_over (an_escape {byte} {front} {value} {rest} e d) own =
      escape_over own front byte e
      ∙ content_over d (own ++ byte ∷ [])
      ∙ ap (λ (l : List ℕ). outcome (behind_value (with_param within name l)) rest) (append_assoc own (byte ∷ []) value)
  content_over (a_backslash {byte} {front} {value} {rest} e d) own =
      backslash_over own front byte e
      ∙ content_over d (own ++ 92 ∷ [])
      ∙ ap (λ (l : List ℕ). outcome (behind_value (with_param within name l)) rest) (append_assoc own (92 ∷ []) value)

  -- an unescaped bracket
  pub bracket_stops : (own rest : List ℕ) → outcome (in_value within name own) (93 ∷ rest) ≡ Err (suc (length rest))
  bracket_stops own rest = outcome_stops step value_at (in_value within name own) 93 rest refl

  pub value_unfinished : (own : List ℕ) → outcome (in_value within name own) [] ≡ Err 0
  value_unfinished own = outcome_unfinished step value_at (in_value within name own) refl

  pub escape_unfinished : (own : List ℕ) → outcome (in_value within name own) (92 ∷ []) ≡ Err 0
  escape_unfinished own =
      goes (in_value within name own) (in_escape within name own) 92 [] refl
      ∙ outcome_unfinished step value_at (in_escape within name own) refl

-- ---- parameters

module _ (within : Within) where
  pub name_word : InWord step value_at (in_name within) is_name_byte 32
  name_word = record {
    goes = λ own byte k l. if_true (is_name_byte byte && nat_lt (length own) 32) _ _ (and_true (is_name_byte byte) _ k (room (length own) 32 l));
  }

  pub name_stopping : StopsInWord step value_at (in_name within) is_name_byte 32 is_equals_sign
  name_stopping = record {
    stops = λ own byte f u.
        if_false (is_name_byte byte && nat_lt (length own) 32) _ _ (full is_name_byte own byte 32 f)
        ∙ if_false ((byte == 61) && is_begun own) _ _ (unended is_equals_sign own byte u);
    unfinished = λ own. refl;
  }

  pub name_over : (name rest : List ℕ) → IsName name → outcome (in_name within []) (name ++ 61 ∷ rest) ≡ outcome (wants_quote within name) rest
  name_over name rest n =
      word_over step value_at (in_name within) is_name_byte 32 name_word name (61 ∷ rest) n.word.all n.few
      ∙ goes (in_name within name) (wants_quote within name) 61 rest (if_true (is_begun name) _ _ (begun name n.word.some))

  pub quote_over : (name rest : List ℕ) → outcome (wants_quote within name) (34 ∷ rest) ≡ outcome (in_value within name []) rest
  quote_over name rest = goes (wants_quote within name) (in_value within name []) 34 rest refl

  pub param_over : {text rest : List ℕ} {param : Param} → IsParam text param rest
      → outcome (in_name within []) text ≡ outcome (behind_value (with_param within param.0 param.1)) rest
  param_over (a_param {name} {front} {value} {rest} n d) =
      name_over name (34 ∷ front) n ∙ quote_over name front ∙ content_over within name d []

pub params_over : {text rest : List ℕ} {params : List Param} → AreParams text params rest
    → (within : Within) → outcome (behind_value within) text ≡ outcome (behind_element (with_element (with_params within params))) rest
params_over (no_param {rest}) within =
    goes (behind_value within) (behind_element (with_element within)) 93 rest refl
    ∙ ap (λ (l : List Param). outcome (behind_element (with_element (record within { params = l }))) rest) (sym (append-nil within.params))
params_over (next_param {front} {next} {rest} {param} {params} p d) within =
    goes (behind_value within) (in_name within []) 32 front refl
    ∙ param_over within p
    ∙ params_over d (with_param within param.0 param.1)
    ∙ ap (λ (l : List Param). outcome (behind_element (with_element (record within { params = l }))) rest) (append_assoc within.params (param ∷ []) params)

-- ---- elements

abbrev pub begun_element : Before → List ℕ → Within
begun_element before id = record { before = before; id = id; params = [] }

ends_no_name : (byte : ℕ) → ends_id byte ≡ true → is_name_byte byte ≡ false
ends_no_name byte e = by (byte == 32) refl
  where
    by : (b : Bool) → (byte == 32) ≡ b → is_name_byte byte ≡ false
    by true is = let same = eqb-true byte 32 is in ap is_name_byte same
    by false is = let other : (byte == 93) ≡ true = sym (ap (λ (b : Bool). b || (byte == 93)) is) ∙ e in let same = eqb-true byte 93 other in ap is_name_byte same

module _ (before : Before) where
  pub id_word : InWord step value_at (in_id before) is_name_byte 32
  id_word = record {
    goes = λ own byte k l. if_true (is_name_byte byte && nat_lt (length own) 32) _ _ (and_true (is_name_byte byte) _ k (room (length own) 32 l));
  }

  no_param_step : (within : Within) (byte : ℕ) → ends_id byte ≡ false → param_step within byte ≡ None
  no_param_step within byte e =
      let n = neither (byte == 32) (byte == 93) e in
      if_false (byte == 32) _ _ n.0 ∙ if_false (byte == 93) _ _ n.1

  pub id_stopping : StopsInWord step value_at (in_id before) is_name_byte 32 ends_id
  id_stopping = record {
    stops = λ own byte f u. if_false (is_name_byte byte && nat_lt (length own) 32) _ _ (full is_name_byte own byte 32 f) ∙ by own byte u;
    unfinished = λ own. refl;
  }
    where
      by : (own : List ℕ) (byte : ℕ) → (own ≡ []) ⊎ (ends_id byte ≡ false) → cond (is_begun own) (param_step (begun_element before own) byte) None ≡ None
      by own byte (inl e) = if_false (is_begun own) _ _ (not_begun own e)
      by [] byte (inr e) = refl
      by (first ∷ own) byte (inr e) = no_param_step (begun_element before (first ∷ own)) byte e

  pub id_over : (id rest : List ℕ) → IsName id → BeginsWith ends_id rest → outcome (in_id before []) (id ++ rest) ≡ outcome (behind_value (begun_element before id)) rest
  id_over id rest n b =
      word_over step value_at (in_id before) is_name_byte 32 id_word id rest n.word.all n.few
      ∙ ap (λ (l : List ℕ). outcome (in_id before id) l) b.begins
      ∙ same_step (in_id before id) (behind_value (begun_element before id)) b.next b.more
      (if_false (is_name_byte b.next && nat_lt (length id) 32) _ _ (and_false (is_name_byte b.next) (nat_lt (length id) 32) (inl (ends_no_name b.next b.passes)))
      ∙ if_true (is_begun id) _ _ (begun id n.word.some))
      ∙ ap (λ (l : List ℕ). outcome (behind_value (begun_element before id)) l) (sym b.begins)

  pub bracket_over : (rest : List ℕ) → outcome (wants_element before) (91 ∷ rest) ≡ outcome (in_id before []) rest
  bracket_over rest = goes (wants_element before) (in_id before []) 91 rest refl

params_begin : {text rest : List ℕ} {params : List Param} → AreParams text params rest → BeginsWith ends_id text
params_begin (no_param {rest}) = record { next = 93; more = rest; begins = refl; passes = refl }
params_begin (next_param {front} p d) = record { next = 32; more = front; begins = refl; passes = refl }

pub element_over : {text rest : List ℕ} {element : Element} → IsElement text element rest
    → (before : Before) → outcome (wants_element before) text ≡ outcome (behind_element (with_elements before (element ∷ []))) rest
element_over (an_element {id} {behind} {rest} {params} n d) before =
    bracket_over before (id ++ behind)
    ∙ id_over before id behind n (params_begin d)
    ∙ params_over d (begun_element before id)

is_bracket : ℕ → Bool
is_bracket byte = byte == 91

element_begins : {text rest : List ℕ} {element : Element} → IsElement text element rest → (more : List ℕ) × (text ≡ 91 ∷ more)
element_begins (an_element {id} {behind} n d) = (id ++ behind, refl)

elements_begin : {text rest : List ℕ} {elements : List Element} → AreElements text elements rest → (more : List ℕ) × (text ≡ 91 ∷ more)
elements_begin (last_element e) = element_begins e
elements_begin (next_element e d) = element_begins e

-- behind an element another is read as one
pub element_again : (before : Before) (text more : List ℕ) → text ≡ 91 ∷ more → outcome (behind_element before) text ≡ outcome (wants_element before) text
element_again before text more e =
    ap (λ (l : List ℕ). outcome (behind_element before) l) e
    ∙ same_step (behind_element before) (wants_element before) 91 more refl
    ∙ ap (λ (l : List ℕ). outcome (wants_element before) l) (sym e)

pub elements_over : {text rest : List ℕ} {elements : List Element} → AreElements text elements rest
    → (before : Before) → outcome (wants_element before) text ≡ outcome (behind_element (with_elements before elements)) rest
elements_over (last_element e) before = element_over e before
elements_over (next_element {front} {next} {rest} {element} {elements} e d) before =
    let b = elements_begin d in
    element_over e before
    ∙ element_again (with_elements before (element ∷ [])) next b.0 b.1
    ∙ elements_over d (with_elements before (element ∷ []))
    ∙ ap (λ (l : List Element). outcome (behind_element (record { values = before.values; elements = l })) rest) (append_assoc before.elements (element ∷ []) elements)

-- ---- data and a message

abbrev pub data_end : List Valued → List Element → State
data_end values [] = behind_none values
data_end values (element ∷ elements) = behind_element (record { values = values; elements = element ∷ elements })

abbrev pub no_elements : List Valued → Before
no_elements values = record { values = values; elements = [] }

-- data that aren't `-` are elements
pub data_elements : (values : List Valued) (text : List ℕ) → BeginsWith (λ byte. not (byte == 45)) text → outcome (wants_data values) text ≡ outcome (wants_element (no_elements values)) text
data_elements values text b =
    ap (λ (l : List ℕ). outcome (wants_data values) l) b.begins
    ∙ same_step (wants_data values) (wants_element (no_elements values)) b.next b.more (if_false (b.next == 45) _ _ (negated (b.next == 45) b.passes))
    ∙ ap (λ (l : List ℕ). outcome (wants_element (no_elements values)) l) (sym b.begins)

pub no_data_at_end : (values : List Valued) → outcome (wants_data values) [] ≡ outcome (wants_element (no_elements values)) []
no_data_at_end values =
    outcome_unfinished step value_at (wants_data values) refl ∙ sym (outcome_unfinished step value_at (wants_element (no_elements values)) refl)

some_end : {text rest : List ℕ} {elements : List Element} → AreElements text elements rest → (values : List Valued)
    → behind_element (record { values = values; elements = elements }) ≡ data_end values elements
some_end (last_element e) values = refl
some_end (next_element e d) values = refl

pub data_over : {text rest : List ℕ} {elements : List Element} → IsData text elements rest
    → (values : List Valued) → outcome (wants_data values) text ≡ outcome (data_end values elements) rest
data_over (no_data {rest}) values = goes (wants_data values) (behind_none values) 45 rest refl
data_over (some_data {front} {rest} {elements} d) values =
    let b = elements_begin d in
    data_elements values front (record { next = 91; more = b.0; begins = b.1; passes = refl })
    ∙ elements_over d (no_elements values)
    ∙ ap (λ (s : State). outcome s rest) (some_end d values)

message_over : (raw : List ℕ) (before : Before) (own : List ℕ) → outcome (in_message before own) raw ≡ Ok (tail_of before (without_mark (own ++ raw)))
message_over [] before own =
    outcome_finished step value_at (in_message before own) (tail_of before (without_mark own)) refl
    ∙ ap (λ (l : List ℕ). Ok (tail_of before (without_mark l))) (sym (append-nil own))
message_over (byte ∷ raw) before own =
    goes (in_message before own) (in_message before (own ++ byte ∷ [])) byte raw refl
    ∙ message_over raw before (own ++ byte ∷ [])
    ∙ ap (λ (l : List ℕ). Ok (tail_of before (without_mark l))) (append_assoc own (byte ∷ []) raw)

pub end_over : {text message : List ℕ} → IsEnd text message → (values : List Valued) (elements : List Element)
    → outcome (data_end values elements) text ≡ Ok (record { values = values; elements = elements; message = message })
end_over no_message values [] = outcome_finished step value_at (behind_none values) _ refl
end_over no_message values (element ∷ elements) = outcome_finished step value_at (data_end values (element ∷ elements)) _ refl
end_over (a_message {raw}) values [] =
    goes (behind_none values) (in_message (no_elements values) []) 32 raw refl ∙ message_over raw (no_elements values) []
end_over (a_message {raw}) values (element ∷ elements) =
    goes (data_end values (element ∷ elements)) (in_message (record { values = values; elements = element ∷ elements }) []) 32 raw refl
    ∙ message_over raw (record { values = values; elements = element ∷ elements }) []

-- behind an element stands neither another nor an end
pub element_stops : (before : Before) (text : List ℕ) → BeginsWith is_not_space text → BeginsWith (λ byte. not (byte == 91)) text → outcome (behind_element before) text ≡ Err (length text)
element_stops before text b o =
    ap (λ (l : List ℕ). outcome (behind_element before) l) b.begins
    ∙ outcome_stops step value_at (behind_element before) b.next b.more (if_false (b.next == 91) _ _ no_bracket ∙ if_false (b.next == 32) _ _ (negated (b.next == 32) b.passes))
    ∙ ap (λ (l : List ℕ). Err (length l)) (sym b.begins)
  where
    same : b.next ≡ o.next
    same = let e = sym b.begins ∙ o.begins in cc e

    no_bracket : (b.next == 91) ≡ false
    no_bracket = ap (λ (n : ℕ). n == 91) same ∙ negated (o.next == 91) o.passes

-- behind `-` a bracket stops too
pub none_stops : (values : List Valued) (text : List ℕ) → BeginsWith is_not_space text → outcome (behind_none values) text ≡ Err (length text)
none_stops values text b =
    ap (λ (l : List ℕ). outcome (behind_none values) l) b.begins
    ∙ outcome_stops step value_at (behind_none values) b.next b.more (if_false (b.next == 32) _ _ (negated (b.next == 32) b.passes))
    ∙ ap (λ (l : List ℕ). Err (length l)) (sym b.begins)

pub tail_over : (text : List ℕ) (tail : Tail) → IsTail text tail → outcome start text ≡ Ok tail
tail_over text tail t = fields_over t.fields [] ∙ data_over t.elements tail.values ∙ end_over t.end tail.values tail.elements
