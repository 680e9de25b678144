-- Where a text that has a head is no message of RFC 3164, and that it is one message at most and has one fault at most.
use Rattle.std.proofs.Common.{◌≡◌, ◌≢◌, ℕ, ◌-◌, List, [], ◌∷◌, ◌++◌, ◌∙◌, ap, sym, refl, subst, ℤ, Err, length, append_assoc}
use Rattle.syslog_parser.specs.declared.fault.SyslogFault.{SyslogFault}
use Rattle.syslog_parser.specs.declared.fault.SyslogFault.TheVariants.{Pri, Version, Time, Header, Structured, Memory}
use Rattle.syslog_parser.specs.Faults.{HasNoDate, IsFault3164}
use Rattle.syslog_parser.specs.Leftmost.{IsLeftmostFault}
use Rattle.syslog_parser.specs.Rfc3164.{Tail, IsTail, Message, IsHead, IsMessage}
use Rattle.syslog_parser.specs.Stamps.{IsDate}
use Rattle.syslog_parser.specs.States3164.{in_host, step, value_at, outcome}
use Rattle.syslog_parser.proofs.Heads.{priority_one, date_one}
use Rattle.syslog_parser.proofs.Over3164.{tail_over}
use Rattle.syslog_parser.proofs.Running.{GoesOver, leftmost, one_leftmost}
use Rattle.syslog_parser.proofs.Sound3164.{tail_sound, viable}

module _ (year : ℕ) (location : ℤ) where
  pub head_one : (text rest more : List ℕ) (p q t u : ℕ) → IsHead year location text p t rest → IsHead year location text q u more
      → (p ≡ q) × ((t ≡ u) × (rest ≡ more))
  head_one text rest more p q t u a b =
      let first = priority_one text a.behind_priority b.behind_priority p q a.priority_is b.priority_is in
      let last = date_one year location b.behind_priority rest more t u (subst (λ (l : List ℕ). IsDate year location l t rest) first.1 a.date_is) b.date_is in
      (first.0, last)

  -- the bytes of a head, whatever follows
  abbrev head_bytes : List ℕ → List ℕ → List ℕ → List ℕ → List ℕ
  head_bytes digits name clock rest = 60 ∷ (digits ++ 62 ∷ (name ++ (clock ++ 32 ∷ rest)))

  head_cut : (digits name clock rest : List ℕ) → head_bytes digits name clock rest ≡ head_bytes digits name clock [] ++ rest
  head_cut digits name clock rest =
      ap (λ (l : List ℕ). 60 ∷ (digits ++ 62 ∷ (name ++ l))) (sym (append_assoc clock (32 ∷ []) rest))
      ∙ ap (λ (l : List ℕ). 60 ∷ (digits ++ 62 ∷ l)) (sym (append_assoc name (clock ++ 32 ∷ []) rest))
      ∙ ap (λ (l : List ℕ). 60 ∷ l) (sym (append_assoc digits (62 ∷ (name ++ (clock ++ 32 ∷ []))) rest))

  module _ (text rest : List ℕ) (p t : ℕ) (head : IsHead year location text p t rest) where
    abbrev front : List ℕ
    front = head_bytes head.priority_is.digits head.date_is.name head.date_is.clock []

    front_is : text ≡ front ++ rest
    front_is =
        head.priority_is.is
        ∙ ap (λ (l : List ℕ). 60 ∷ (head.priority_is.digits ++ 62 ∷ l)) head.date_is.is
        ∙ head_cut head.priority_is.digits head.date_is.name head.date_is.clock rest

    head_of : (other : List ℕ) → IsHead year location (front ++ other) p t other
    head_of other =
        subst (λ (l : List ℕ). IsHead year location l p t other) (head_cut head.priority_is.digits head.date_is.name head.date_is.clock other) (record {
          behind_priority = head.date_is.name ++ (head.date_is.clock ++ 32 ∷ other);
          priority_is = record { digits = head.priority_is.digits; is = refl; short = head.priority_is.short; value = head.priority_is.value; fits = head.priority_is.fits };
          date_is = record {
            name = head.date_is.name;
            clock = head.date_is.clock;
            month = head.date_is.month;
            said = head.date_is.said;
            is = refl;
            name_size = head.date_is.name_size;
            clock_size = head.date_is.clock_size;
            month_is = head.date_is.month_is;
            said_is = head.date_is.said_is;
            instant_is = head.date_is.instant_is;
          };
        })

    over : GoesOver step value_at (IsMessage year location) front (in_host [])
    over = record {
      sound = λ tail v e.
          let found = tail_sound tail v e in
          (record { priority = p; time = t; tail = found.0 }, record { rest = tail; head = head_of tail; tail = found.1 });
      complete = λ tail m is.
          let one = head_one (front ++ tail) tail is.rest p m.priority t m.time (head_of tail) is.head in
          (m.tail, tail_over tail m.tail (subst (λ (l : List ℕ). IsTail l m.tail) (sym one.1.1) is.tail));
      viable = viable;
    }

    -- where the machine stops behind a head is the leftmost fault of the text
    pub message_leftmost : (left : ℕ) → outcome (in_host []) rest ≡ Err left → IsLeftmostFault (IsMessage year location) text (length text - left)
    message_leftmost left e =
        subst (λ (l : List ℕ). IsLeftmostFault (IsMessage year location) l (length l - left)) (sym front_is)
        (leftmost step value_at (IsMessage year location) front (in_host []) over rest left e)

  -- ---- the laws

  message_is : (p q t u : ℕ) (a b : Tail) → p ≡ q → t ≡ u → a ≡ b
      → ◌≡◌ {A = Message} (record { priority = p; time = t; tail = a }) (record { priority = q; time = u; tail = b })
  message_is p q t u a b e f g =
      ap (λ (n : ℕ). record { priority = n; time = t; tail = a }) e
      ∙ ap (λ (n : ℕ). record { priority = q; time = n; tail = a }) f
      ∙ ap (λ (x : Tail). record { priority = q; time = u; tail = x }) g

  pub one_message : (text : List ℕ) (m n : Message) → IsMessage year location text m → IsMessage year location text n → m ≡ n
  one_message text m n a b =
      let one = head_one text a.rest b.rest m.priority n.priority m.time n.time a.head b.head in
      let mine = tail_over b.rest m.tail (subst (λ (l : List ℕ). IsTail l m.tail) one.1.1 a.tail) in
      let others = tail_over b.rest n.tail b.tail in
      let e = sym mine ∙ others in
      message_is m.priority n.priority m.time n.time m.tail n.tail one.0 one.1.0 (cc e)

  head_date : (text rest : List ℕ) (p t : ℕ) → IsHead year location text p t rest → HasNoDate year location text → ⊥
  head_date text rest p t h none =
      let same = (priority_one text h.behind_priority none.rest p none.priority h.priority_is none.priority_is).1 in
      none.none t rest (subst (λ (l : List ℕ). IsDate year location l t rest) same h.date_is)

  pub one_fault : (text : List ℕ) (f g : SyslogFault) → IsFault3164 year location text f → IsFault3164 year location text g → f ≢ Memory → g ≢ Memory → f ≡ g
  one_fault text Pri Pri a b _ _ = refl
  one_fault text Pri Time a b _ _ = absurd (a b.priority b.rest b.priority_is)
  one_fault text Pri (Header at) a b _ _ = absurd (a b.priority b.head.behind_priority b.head.priority_is)
  one_fault text Time Pri a b _ _ = absurd (b a.priority a.rest a.priority_is)
  one_fault text Time Time a b _ _ = refl
  one_fault text Time (Header at) a b _ _ = absurd (head_date text b.rest b.priority b.time b.head a)
  one_fault text (Header at) Pri a b _ _ = absurd (b a.priority a.head.behind_priority a.head.priority_is)
  one_fault text (Header at) Time a b _ _ = absurd (head_date text a.rest a.priority a.time a.head b)
  one_fault text (Header at) (Header other) a b _ _ = ap Header (one_leftmost (IsMessage year location) text at other a.leftmost b.leftmost)
  one_fault text Version g a b _ _ = absurd a
  one_fault text (Structured at) g a b _ _ = absurd a
  one_fault text Memory g a b n _ = absurd (n refl)
  one_fault text Pri Version a b _ _ = absurd b
  one_fault text Time Version a b _ _ = absurd b
  one_fault text (Header at) Version a b _ _ = absurd b
  one_fault text Pri (Structured at) a b _ _ = absurd b
  one_fault text Time (Structured at) a b _ _ = absurd b
  one_fault text (Header other) (Structured at) a b _ _ = absurd b
  one_fault text Pri Memory a b _ n = absurd (n refl)
  one_fault text Time Memory a b _ n = absurd (n refl)
  one_fault text (Header at) Memory a b _ n = absurd (n refl)

  pub no_fault : (text : List ℕ) (m : Message) (f : SyslogFault) → IsMessage year location text m → IsFault3164 year location text f → f ≢ Memory → ⊥
  no_fault text m Pri is a _ = a m.priority is.head.behind_priority is.head.priority_is
  no_fault text m Version is a _ = a
  no_fault text m Time is a _ = head_date text is.rest m.priority m.time is.head a
  no_fault text m (Header at) is a _ = a.leftmost.none m is
  no_fault text m (Structured at) is a _ = a
  no_fault text m Memory is a n = n refl
