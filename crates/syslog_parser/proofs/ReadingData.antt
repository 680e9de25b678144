-- Reading structured data and what stands behind them.
use Rattle.std.proofs.Common.{◌≡◌, ℕ, List, [], ◌∷◌, ◌++◌, ◌∙◌, ap, sym, refl, subst, Err, false, not, ◌&&◌, ◌==◌, length, get_or, nat_lt, map, codes, append_assoc, arith}
use Rattle.std.proofs.lemmas.List.{append-nil, map-append}
use Rattle.entry_model.specs.Datum.{fields, members_of}
use Rattle.syslog_parser.specs.Bytes.{is_name_byte, is_not_space}
use Rattle.syslog_parser.specs.Inner.Reads.{BeginsWith, HasNoWord, ends_id, IsIdText, PutsParams, StopsInParams, PutsElement, StopsInElement, PutsElements, PutsData, StopsInData, PutsMessage, HasNoEnd, PutsTail}
use Rattle.syslog_parser.specs.Rfc5424.{Valued}
use Rattle.syslog_parser.specs.States5424.{Before, wants_data, wants_element, in_id, behind_element, step, value_at, outcome}
use Rattle.syslog_parser.specs.Structured.{Element, IsElement, an_element, AreElements, last_element, next_element, IsData, no_data, some_data}
use Rattle.syslog_parser.specs.Told.{Member, put, put_all, told_param, told_element, told_data, told_message, elements_datum}
use Rattle.syslog_parser.proofs.Over5424.{begun_element, id_word, id_stopping, id_over, bracket_over, element_over, element_again, no_elements, data_elements, data_over, no_data_at_end, element_stops, none_stops}
use Rattle.syslog_parser.proofs.Putting.{put_all-append}
use Rattle.syslog_parser.proofs.Running.{outcome_stops, outcome_unfinished}
use Rattle.syslog_parser.proofs.Runs.{word_stops}
use Rattle.syslog_parser.proofs.SoFar.{with_elements, ElementsSoFar}
use Rattle.syslog_parser.proofs.Words.{if_false, stands_false}

-- ---- one element

pub bracket_fault : (text : List ℕ) → (nat_lt 0 (length text) && (get_or text 0 0 == 91)) ≡ false → StopsInElement text (length text)
bracket_fault [] e before = outcome_unfinished step value_at (wants_element before) refl
bracket_fault (byte ∷ text) e before =
    outcome_stops step value_at (wants_element before) byte text (if_false (byte == 91) _ _ (stands_false (byte ∷ text) 0 91 e (omega arith)))

module _ (text named : List ℕ) (e : text ≡ 91 ∷ named) where
  begin_over : (before : Before) → outcome (wants_element before) text ≡ outcome (in_id before []) named
  begin_over before = ap (λ (l : List ℕ). outcome (wants_element before) l) e ∙ bracket_over before named

  pub id_fault : (left : ℕ) → HasNoWord is_name_byte 32 ends_id named left → StopsInElement text left
  id_fault left found before =
      begin_over before ∙ word_stops step value_at (in_id before) is_name_byte 32 (id_word before) ends_id (id_stopping before) named left (omega arith) found

  module _ (id behind : List ℕ) (i : IsIdText named id behind) where
    pub params_fault : (left : ℕ) → StopsInParams behind left → StopsInElement text left
    params_fault left stop before =
        begin_over before
        ∙ ap (λ (l : List ℕ). outcome (in_id before []) l) i.is
        ∙ id_over before id behind i.name i.ends
        ∙ stop (begun_element before id)

    pub element_read : (rest : List ℕ) (none params old new : List Member) → none ≡ [] → PutsParams behind none params rest
        → new ≡ put old (id, fields (members_of params)) → PutsElement text old new rest
    element_read rest none params old new n p told = record {
      element = (id, p.params);
      spelled = subst (λ (l : List ℕ). IsElement l (id, p.params) rest) (sym (e ∙ ap (λ (l : List ℕ). 91 ∷ l) i.is)) (an_element i.name p.spelled);
      told = told ∙ ap (λ (l : List Member). put old (id, fields (members_of l))) (p.told ∙ ap (λ (l : List Member). put_all l (map told_param p.params)) n);
    }

-- ---- many

pub no_elements_read : (text : List ℕ) (members : List Member) → ElementsSoFar text text members members
no_elements_read text members = record {
  elements = [];
  told = refl;
  reads = λ more behind c. c;
  runs = λ before. ap (λ (l : List Element). outcome (wants_element (record { values = before.values; elements = l })) text) (sym (append-nil before.elements));
}

no_bracket : (rest : List ℕ) → BeginsWith is_not_space rest → (nat_lt 0 (length rest) && (get_or rest 0 0 == 91)) ≡ false → BeginsWith (λ byte. not (byte == 91)) rest
no_bracket [] b e = absurd (let same = b.begins in cc same)
no_bracket (byte ∷ rest) b e = record { next = byte; more = rest; begins = refl; passes = ap not (stands_false (byte ∷ rest) 0 91 e (omega arith)) }

module _ (text rest : List ℕ) (old new : List Member) (so : ElementsSoFar text rest old new) where
  pub elements_fault : (left : ℕ) → StopsInElement rest left → StopsInElement text left
  elements_fault left stop before = so.runs before ∙ stop (with_elements before so.elements)

  module _ (newer : List Member) (next : List ℕ) (p : PutsElement rest new newer next) where
    told_more : newer ≡ put_all old (map told_element (so.elements ++ p.element ∷ []))
    told_more =
        p.told ∙ ap (λ (l : List Member). put l (told_element p.element)) so.told
        ∙ sym (put_all-append old (map told_element so.elements) (told_element p.element ∷ []))
        ∙ ap (λ (l : List Member). put_all old l) (sym (map-append told_element so.elements (p.element ∷ [])))

    over_more : (before : Before) → outcome (wants_element before) text ≡ outcome (behind_element (with_elements before (so.elements ++ p.element ∷ []))) next
    over_more before =
        so.runs before
        ∙ element_over p.spelled (with_elements before so.elements)
        ∙ ap (λ (l : List Element). outcome (behind_element (record { values = before.values; elements = l })) next) (append_assoc before.elements so.elements (p.element ∷ []))

    pub elements_more : (more : List ℕ) → next ≡ 91 ∷ more → ElementsSoFar text next old newer
    elements_more more e = record {
      elements = so.elements ++ p.element ∷ [];
      told = told_more;
      reads = λ others behind c.
          subst (λ (l : List Element). AreElements text l behind) (sym (append_assoc so.elements (p.element ∷ []) others))
          (so.reads (p.element ∷ others) behind (next_element p.spelled c));
      runs = λ before. over_more before ∙ element_again (with_elements before (so.elements ++ p.element ∷ [])) next more e;
    }

    pub elements_done : (nat_lt 0 (length next) && (get_or next 0 0 == 91)) ≡ false → PutsElements text old newer next
    elements_done e = record {
      elements = so.elements ++ p.element ∷ [];
      spelled = so.reads (p.element ∷ []) next (last_element p.spelled);
      told = told_more;
      closed = λ b before. over_more before ∙ element_stops (with_elements before (so.elements ++ p.element ∷ [])) next b (no_bracket next b e);
    }

-- ---- data

pub dash_read : (text rest : List ℕ) (members : List Member) → text ≡ 45 ∷ rest → PutsData text members members rest
dash_read text rest members e = record {
  elements = [];
  spelled = subst (λ (l : List ℕ). IsData l [] rest) (sym e) no_data;
  told = refl;
  closed = λ b values.
      ap (λ (l : List ℕ). outcome (wants_data values) l) e ∙ data_over (no_data {rest = rest}) values ∙ none_stops values rest b;
}

module _ (text : List ℕ) (no_dash : (nat_lt 0 (length text) && (get_or text 0 0 == 45)) ≡ false) where
  as_element : (values : List Valued) → outcome (wants_data values) text ≡ outcome (wants_element (no_elements values)) text
  as_element values = by text no_dash
    where
      by : (text : List ℕ) → (nat_lt 0 (length text) && (get_or text 0 0 == 45)) ≡ false → outcome (wants_data values) text ≡ outcome (wants_element (no_elements values)) text
      by [] e = no_data_at_end values
      by (byte ∷ text) e =
          data_elements values (byte ∷ text) (record { next = byte; more = text; begins = refl; passes = ap not (stands_false (byte ∷ text) 0 45 e (omega arith)) })

  pub data_fault : (left : ℕ) → StopsInElement text left → StopsInData text left
  data_fault left stop values = as_element values ∙ stop (no_elements values)

  pub data_read : (rest : List ℕ) (none elements old new : List Member) → none ≡ [] → PutsElements text none elements rest
      → new ≡ put old (codes "structured_data", fields (members_of elements)) → PutsData text old new rest
  data_read rest none elements old new n p told = record {
    elements = p.elements;
    spelled = some_data p.spelled;
    told =
        told ∙ ap (λ (l : List Member). put old (codes "structured_data", fields (members_of l))) (p.told ∙ ap (λ (l : List Member). put_all l (map told_element p.elements)) n)
        ∙ one p.spelled;
    closed = λ b values. as_element values ∙ p.closed b (no_elements values);
  }
    where
      one : {text rest : List ℕ} {elements : List Element} → AreElements text elements rest → put old (codes "structured_data", elements_datum elements) ≡ put_all old (told_data elements)
      one (last_element e) = refl
      one (next_element e d) = refl

-- ---- a tail

pub tail_fault : (text rest : List ℕ) (old new : List Member) (left : ℕ) → PutsData text old new rest → HasNoEnd rest left → StopsInData text left
tail_fault text rest old new left p found values = p.closed found.otherwise values ∙ ap (λ (n : ℕ). Err n) (sym found.left_is)

pub tail_read : (text rest : List ℕ) (old new newer : List Member) → PutsData text old new rest → PutsMessage rest new newer → PutsTail text old newer
tail_read text rest old new newer p m = record {
  elements = p.elements;
  behind = rest;
  message = m.message;
  data_is = p.spelled;
  end_is = m.spelled;
  told = m.told ∙ ap (λ (l : List Member). put_all l (told_message m.message)) p.told;
}
