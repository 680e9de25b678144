-- Putting the parts of a whole message together.
use Rattle.std.proofs.Common.{◌≡◌, ℕ, suc, ◌+◌, ◌-◌, ◌<◌, ◌≤◌, ◌%◌, ◌⊎◌, inl, inr, true, false, get_or, List, [], ◌∷◌, ◌++◌, ◌∙◌, ap, sym, refl, subst, Option, Some, ℤ, pos, Err, length, codes, length-append, arith}
use Rattle.std.proofs.lemmas.List.{get_or_at}
use Rattle.std.specs.List.{prefix_len}
use Rattle.entry_model.specs.Datum.{int, text as text_datum, members_of}
use Rattle.syslog_parser.specs.declared.fault.Stop.{Stop}
use Rattle.syslog_parser.specs.declared.fault.Stop.TheVariants.{At, Memory}
use Rattle.syslog_parser.specs.Faults.{Tells5424, Tells3164, HasNoTime, IsFault5424, HasNoTag}
use Rattle.syslog_parser.specs.Priorities.{IsPriority}
use Rattle.syslog_parser.specs.Inner.Reads.{StopsWith, StopsInFields, here, later, StopsInData, PutsTail, header_fault, structured_fault, StopsInHost, HasNoWord, is_space}
use Rattle.syslog_parser.specs.Rfc3164 as rfc3164
use Rattle.syslog_parser.specs.Rfc5424 as rfc5424
use Rattle.syslog_parser.specs.Rfc5424.{Limited, Valued, header_fields, AreFields, no_field, a_field}
use Rattle.syslog_parser.specs.Bytes.{is_printable}
use Rattle.syslog_parser.specs.Stamps.{IsTime, IsDate}
use Rattle.syslog_parser.specs.States3164 as states3164
use Rattle.syslog_parser.specs.States5424 as states5424
use Rattle.syslog_parser.specs.Structured.{Element}
use Rattle.syslog_parser.specs.Told.{Member, put, put_all, told_5424, told_priority, told_fields, told_data, told_message, told_process, told_sender}
use Rattle.syslog_parser.specs.Words.{IsShortWord}
use Rattle.syslog_parser.proofs.Messages3164 as messages3164
use Rattle.syslog_parser.proofs.Messages5424 as messages5424
use Rattle.syslog_parser.proofs.OneWay.{fields_cut}
use Rattle.syslog_parser.proofs.Over5424.{fields_over, fields_stop}
use Rattle.syslog_parser.proofs.Putting.{put_all-append}
use Rattle.syslog_parser.proofs.Running.{left_within}
use Rattle.syslog_parser.proofs.Stops.{stops_so}
use Rattle.syslog_parser.proofs.Words.{one_split, run_is}

-- ---- RFC 5424

abbrev whole_message : ℕ → Option ℕ → List Valued → List Element → List ℕ → rfc5424.Message
whole_message p t values elements message = record { priority = p; time = t; tail = record { values = values; elements = elements; message = message } }

abbrev version_member : List Member
version_member = (codes "version", int (pos 1)) ∷ []

-- where fields stop no fields stand
field_there : (most left : ℕ) (text own rest : List ℕ) → HasNoWord is_printable most is_space text left → IsShortWord is_printable most own → text ≡ own ++ 32 ∷ rest → ⊥
field_there most left text own rest found w e =
    let run : prefix_len is_printable text ≡ length own = ap (prefix_len is_printable) e ∙ run_is is_printable 32 refl own rest w.word.all in
    let few = w.few in
    let at : found.at ≡ length own = let a = found.at_is in omega arith in
    by at found.unended
  where
    by : found.at ≡ length own → (found.at ≡ 0) ⊎ (found.at < length text → is_space (get_or text found.at 0) ≡ false) → ⊥
    by at (inl none) = let some = w.word.some in omega arith
    by at (inr other) =
        let len : length text ≡ length own + length (32 ∷ rest) = ap length e ∙ length-append own (32 ∷ rest) in
        let more : length (32 ∷ rest) ≡ suc (length rest) = refl in
        let inside : found.at < length text = omega arith in
        let byte : get_or text found.at 0 ≡ 32 = ap (λ (n : ℕ). get_or text n 0) at ∙ ap (λ (l : List ℕ). get_or l (length own) 0) e ∙ get_or_at own 32 rest 0 (length own) refl in
        let is : is_space (get_or text found.at 0) ≡ true = ap is_space byte in
        let not = other inside in
        cc (is, not)

no_fields : {fields : List Limited} {text : List ℕ} {left : ℕ} → StopsInFields fields text left → (values : List Valued) (more : List ℕ) → AreFields fields text values more → ⊥
no_fields (here {name} {text} {most} {left} {fields} some found) values more d = let r = fields_cut d in field_there most left text r.0 r.1 found r.4 r.3
no_fields (later {name} {text} {own} {rest} {most} {left} {fields} p s) values more d =
    let r = fields_cut d in
    let split = one_split is_printable 32 refl r.0 own r.1 rest r.4.word.all p.short.word.all (sym r.3 ∙ p.is) in
    no_fields s r.2 more (subst (λ (l : List ℕ). AreFields fields l r.2 more) split.1 r.5)

module _ (text versioned timed named : List ℕ) (p : ℕ) (t : Option ℕ) (pri : IsPriority text p versioned) (version : versioned ≡ 49 ∷ 32 ∷ timed) where
  pub no_time : ((time : Option ℕ) (more : List ℕ) → IsTime timed time more → ⊥) → HasNoTime text
  no_time n = record { priority = p; rest = timed; priority_is = subst (λ (l : List ℕ). IsPriority text p l) version pri; none = n }

  module _ (time : IsTime timed t named) where
    pub head : rfc5424.IsHead text p t named
    head = record { behind_priority = versioned; behind_version = timed; priority_is = pri; version_is = version; time_is = time }

    named_within : length named ≤ length text
    named_within =
        let a : length text ≡ suc (length (pri.digits ++ 62 ∷ versioned)) = ap length pri.is in
        let b : length (pri.digits ++ 62 ∷ versioned) ≡ length pri.digits + suc (length versioned) = length-append pri.digits (62 ∷ versioned) in
        let d : length versioned ≡ suc (suc (length timed)) = ap length version in
        let e : length timed ≡ length time.own + suc (length named) = ap length time.is ∙ length-append time.own (32 ∷ named) in
        omega arith

    pub header_within : (stop : Stop) → StopsWith (StopsInFields header_fields named) stop → StopsWith (λ left. left ≤ length text) stop
    header_within stop s =
        stops_so (StopsInFields header_fields named) (λ left. left ≤ length text)
        (λ left f. let l : left ≤ length named = left_within states5424.step states5424.value_at named states5424.start left (fields_stop f []) in let n = named_within in omega arith) stop s

    pub header_faulty : (stop : Stop) → StopsWith (StopsInFields header_fields named) stop → IsFault5424 text (header_fault (length text) stop)
    header_faulty (At left) s = record {
      priority = p;
      time = t;
      rest = named;
      head = head;
      none = no_fields s;
      leftmost = messages5424.message_leftmost text named p t head left (fields_stop s []);
    }
    header_faulty Memory s = tt

    module _ (behind : List ℕ) (values : List Valued) (fields : AreFields header_fields named values behind) where
      stops_behind : (left : ℕ) → StopsInData behind left → states5424.outcome states5424.start named ≡ Err left
      stops_behind left s = fields_over fields [] ∙ s values

      pub data_within : (stop : Stop) → StopsWith (StopsInData behind) stop → StopsWith (λ left. left ≤ length text) stop
      data_within stop s =
          stops_so (StopsInData behind) (λ left. left ≤ length text)
          (λ left f. let l : left ≤ length named = left_within states5424.step states5424.value_at named states5424.start left (stops_behind left f) in let n = named_within in omega arith) stop s

      pub data_faulty : (stop : Stop) → StopsWith (StopsInData behind) stop → IsFault5424 text (structured_fault (length text) stop)
      data_faulty (At left) s = record {
        priority = p;
        time = t;
        rest = named;
        values = values;
        behind = behind;
        head = head;
        header = fields;
        leftmost = messages5424.message_leftmost text named p t head left (stops_behind left s);
      }
      data_faulty Memory s = tt

      pub tells_5424 : (none some numbered headed all : List Member) → none ≡ [] → some ≡ put_all none (told_priority p) → numbered ≡ put some (codes "version", int (pos 1))
          → headed ≡ put_all numbered (told_fields values) → PutsTail behind headed all
          → Tells5424 text (record { members = members_of all; timestamp = t; severity = p % 8 })
      tells_5424 none some numbered headed all n a b d tail = record {
        message = whole_message p t values tail.elements tail.message;
        spelled = record {
          rest = named;
          head = head;
          tail = record { behind_fields = behind; behind_data = tail.behind; fields = fields; elements = tail.data_is; end = tail.end_is };
        };
        told = ap (λ (l : List Member). record { members = members_of l; timestamp = t; severity = p % 8 }) told;
      }
        where
          told : all ≡ put_all [] (told_5424 (whole_message p t values tail.elements tail.message))
          told =
              tail.told
              ∙ ap (λ (l : List Member). put_all (put_all l (told_data tail.elements)) (told_message tail.message))
              (d ∙ ap (λ (l : List Member). put_all l (told_fields values)) (b ∙ ap (λ (l : List Member). put l (codes "version", int (pos 1))) (a ∙ ap (λ (l : List Member). put_all l (told_priority p)) n)))
              ∙ sym (
              put_all-append [] (((told_priority p ++ version_member) ++ told_fields values) ++ told_data tail.elements) (told_message tail.message)
              ∙ ap (λ (l : List Member). put_all l (told_message tail.message)) (
              put_all-append [] ((told_priority p ++ version_member) ++ told_fields values) (told_data tail.elements)
              ∙ ap (λ (l : List Member). put_all l (told_data tail.elements)) (
              put_all-append [] (told_priority p ++ version_member) (told_fields values)
              ∙ ap (λ (l : List Member). put_all l (told_fields values)) (put_all-append [] (told_priority p) version_member))))

-- ---- RFC 3164

pub sender_told : (tail : rfc3164.Tail) (old host tag process all : List Member) → host ≡ put old (codes "hostname", text_datum tail.host) → tag ≡ put host (codes "appname", text_datum tail.tag)
    → process ≡ put_all tag (told_process tail.process) → all ≡ put_all process (told_message tail.message) → all ≡ put_all old (told_sender tail)
sender_told tail old host tag process all a b d e =
    e ∙ ap (λ (l : List Member). put_all l (told_message tail.message))
    (d ∙ ap (λ (l : List Member). put_all l (told_process tail.process)) (b ∙ ap (λ (l : List Member). put l (codes "appname", text_datum tail.tag)) a))
    ∙ sym (put_all-append (put (put old (codes "hostname", text_datum tail.host)) (codes "appname", text_datum tail.tag)) (told_process tail.process) (told_message tail.message))

module _ (year : ℕ) (location : ℤ) (text dated named : List ℕ) (p t : ℕ) (pri : IsPriority text p dated) (date : IsDate year location dated t named) where
  head_3164 : rfc3164.IsHead year location text p t named
  head_3164 = record { behind_priority = dated; priority_is = pri; date_is = date }

  pub sender_within : (left : ℕ) → StopsInHost named left → left ≤ length text
  sender_within left s =
      let l : left ≤ length named = left_within states3164.step states3164.value_at named (states3164.in_host []) left s in
      let a : length text ≡ suc (length (pri.digits ++ 62 ∷ dated)) = ap length pri.is in
      let b : length (pri.digits ++ 62 ∷ dated) ≡ length pri.digits + suc (length dated) = length-append pri.digits (62 ∷ dated) in
      let d : length dated ≡ length date.name + length (date.clock ++ 32 ∷ named) = ap length date.is ∙ length-append date.name (date.clock ++ 32 ∷ named) in
      let e : length (date.clock ++ 32 ∷ named) ≡ length date.clock + suc (length named) = length-append date.clock (32 ∷ named) in
      omega arith

  pub sender_faulty : (left : ℕ) → StopsInHost named left → HasNoTag year location text (length text - left)
  sender_faulty left s = record {
    priority = p;
    time = t;
    rest = named;
    head = head_3164;
    leftmost = messages3164.message_leftmost year location text named p t head_3164 left s;
  }

  pub tells_3164 : (tail : rfc3164.Tail) (none some all : List Member) → rfc3164.IsTail named tail → none ≡ [] → some ≡ put_all none (told_priority p) → all ≡ put_all some (told_sender tail)
      → Tells3164 year location text (record { members = members_of all; timestamp = Some t; severity = p % 8 })
  tells_3164 tail none some all is n a b = record {
    message = record { priority = p; time = t; tail = tail };
    spelled = record { rest = named; head = head_3164; tail = is };
    told =
        ap (λ (l : List Member). record { members = members_of l; timestamp = Some t; severity = p % 8 })
        (b ∙ ap (λ (l : List Member). put_all l (told_sender tail)) (a ∙ ap (λ (l : List Member). put_all l (told_priority p)) n)
        ∙ sym (put_all-append [] (told_priority p) (told_sender tail)));
  }
