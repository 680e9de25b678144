-- Where a text that has a head is no message of RFC 5424, and that it is one message at most and has one fault at most.
use Rattle.std.proofs.Common.{◌≡◌, ◌≢◌, ℕ, ◌-◌, List, [], ◌∷◌, ◌++◌, ◌∙◌, ap, sym, refl, subst, Option, Err, length, append_assoc}
use Rattle.syslog_parser.specs.declared.fault.SyslogFault.{SyslogFault}
use Rattle.syslog_parser.specs.declared.fault.SyslogFault.TheVariants.{Pri, Version, Time, Header, Structured, Memory}
use Rattle.syslog_parser.specs.Faults.{HasNoPriority, HasNoVersion, HasNoTime, HasNoHeader, HasNoData, IsFault5424}
use Rattle.syslog_parser.specs.Leftmost.{IsLeftmostFault}
use Rattle.syslog_parser.specs.Priorities.{IsPriority}
use Rattle.syslog_parser.specs.Rfc5424.{header_fields, AreFields, Tail, IsTail, Message, IsHead, IsMessage}
use Rattle.syslog_parser.specs.Stamps.{IsTime}
use Rattle.syslog_parser.specs.States5424.{step, value_at, outcome, start}
use Rattle.syslog_parser.proofs.Heads.{priority_one, time_one}
use Rattle.syslog_parser.proofs.Over5424.{tail_over}
use Rattle.syslog_parser.proofs.Running.{GoesOver, leftmost, one_leftmost}
use Rattle.syslog_parser.proofs.Sound5424.{tail_sound, viable}

pub head_one : (text rest more : List ℕ) (p q : ℕ) (t u : Option ℕ) → IsHead text p t rest → IsHead text q u more → (p ≡ q) × ((t ≡ u) × (rest ≡ more))
head_one text rest more p q t u a b =
    let first = priority_one text a.behind_priority b.behind_priority p q a.priority_is b.priority_is in
    let versions = sym a.version_is ∙ first.1 ∙ b.version_is in
    let behind : a.behind_version ≡ b.behind_version = cc versions in
    let last = time_one b.behind_version rest more t u (subst (λ (l : List ℕ). IsTime l t rest) behind a.time_is) b.time_is in
    (first.0, last)

-- the bytes of a head, whatever follows
head_bytes : List ℕ → List ℕ → List ℕ → List ℕ
head_bytes digits own rest = 60 ∷ (digits ++ 62 ∷ 49 ∷ 32 ∷ (own ++ 32 ∷ rest))

head_cut : (digits own rest : List ℕ) → head_bytes digits own rest ≡ head_bytes digits own [] ++ rest
unfolding head_bytes
head_cut digits own rest =
    ap (λ (l : List ℕ). 60 ∷ (digits ++ 62 ∷ 49 ∷ 32 ∷ l)) (sym (append_assoc own (32 ∷ []) rest))
    ∙ ap (λ (l : List ℕ). 60 ∷ l) (sym (append_assoc digits (62 ∷ 49 ∷ 32 ∷ (own ++ 32 ∷ [])) rest))

module _ (text rest : List ℕ) (p : ℕ) (t : Option ℕ) (head : IsHead text p t rest) where
  front : List ℕ
  front = head_bytes head.priority_is.digits head.time_is.own []

  front_is : text ≡ front ++ rest
  unfolding front head_bytes
  front_is =
      head.priority_is.is
      ∙ ap (λ (l : List ℕ). 60 ∷ (head.priority_is.digits ++ 62 ∷ l)) (head.version_is ∙ ap (λ (l : List ℕ). 49 ∷ 32 ∷ l) head.time_is.is)
      ∙ head_cut head.priority_is.digits head.time_is.own rest

  head_of : (other : List ℕ) → IsHead (front ++ other) p t other
  unfolding front head_bytes
  head_of other = subst (λ (l : List ℕ). IsHead l p t other) (head_cut head.priority_is.digits head.time_is.own other) (record {
    behind_priority = 49 ∷ 32 ∷ (head.time_is.own ++ 32 ∷ other);
    behind_version = head.time_is.own ++ 32 ∷ other;
    priority_is = record { digits = head.priority_is.digits; is = refl; short = head.priority_is.short; value = head.priority_is.value; fits = head.priority_is.fits };
    version_is = refl;
    time_is = record { own = head.time_is.own; is = refl; unbroken = head.time_is.unbroken; stamp = head.time_is.stamp };
  })

  over : GoesOver step value_at IsMessage front start
  over = record {
    sound = λ tail v e.
        let found = tail_sound tail v e in
        (record { priority = p; time = t; tail = found.0 }, record { rest = tail; head = head_of tail; tail = found.1 });
    complete = λ tail m is.
        let one = head_one (front ++ tail) tail is.rest p m.priority t m.time (head_of tail) is.head in
        (m.tail, tail_over tail m.tail (subst (λ (l : List ℕ). IsTail l m.tail) (sym one.1.1) is.tail));
    viable = viable;
  }

  -- where the machine stops behind a head is the leftmost fault of the text
  pub message_leftmost : (left : ℕ) → outcome start rest ≡ Err left → IsLeftmostFault IsMessage text (length text - left)
  message_leftmost left e =
      subst (λ (l : List ℕ). IsLeftmostFault IsMessage l (length l - left)) (sym front_is)
      (leftmost step value_at IsMessage front start over rest left e)

-- ---- the laws

message_is : (p q : ℕ) (t u : Option ℕ) (a b : Tail) → p ≡ q → t ≡ u → a ≡ b
    → ◌≡◌ {A = Message} (record { priority = p; time = t; tail = a }) (record { priority = q; time = u; tail = b })
message_is p q t u a b e f g =
    ap (λ (n : ℕ). record { priority = n; time = t; tail = a }) e
    ∙ ap (λ (o : Option ℕ). record { priority = q; time = o; tail = a }) f
    ∙ ap (λ (x : Tail). record { priority = q; time = u; tail = x }) g

pub one_message : (text : List ℕ) (m n : Message) → IsMessage text m → IsMessage text n → m ≡ n
one_message text m n a b =
    let one = head_one text a.rest b.rest m.priority n.priority m.time n.time a.head b.head in
    let mine = tail_over b.rest m.tail (subst (λ (l : List ℕ). IsTail l m.tail) one.1.1 a.tail) in
    let others = tail_over b.rest n.tail b.tail in
    let e = sym mine ∙ others in
    message_is m.priority n.priority m.time n.time m.tail n.tail one.0 one.1.0 (cc e)

-- a head has a priority, a version and a time
head_priority : (text rest : List ℕ) (p : ℕ) (t : Option ℕ) → IsHead text p t rest → HasNoPriority text → ⊥
head_priority text rest p t h none = none p h.behind_priority h.priority_is

version_there : (text rest : List ℕ) (p : ℕ) → IsPriority text p (49 ∷ 32 ∷ rest) → HasNoVersion text → ⊥
version_there text rest p is none =
    none.none rest (sym (priority_one text (49 ∷ 32 ∷ rest) none.rest p none.priority is none.priority_is).1)

head_version : (text rest : List ℕ) (p : ℕ) (t : Option ℕ) → IsHead text p t rest → HasNoVersion text → ⊥
head_version text rest p t h none =
    version_there text h.behind_version p (subst (λ (l : List ℕ). IsPriority text p l) h.version_is h.priority_is) none

head_time : (text rest : List ℕ) (p : ℕ) (t : Option ℕ) → IsHead text p t rest → HasNoTime text → ⊥
head_time text rest p t h none =
    let e = (priority_one text h.behind_priority (49 ∷ 32 ∷ none.rest) p none.priority h.priority_is none.priority_is).1 in
    let behind = sym h.version_is ∙ e in
    let same : h.behind_version ≡ none.rest = cc behind in
    none.none t rest (subst (λ (l : List ℕ). IsTime l t rest) same h.time_is)

header_there : (text : List ℕ) (a b : ℕ) → HasNoHeader text a → HasNoData text b → ⊥
header_there text a b x y =
    let one = head_one text y.rest x.rest y.priority x.priority y.time x.time y.head x.head in
    x.none y.values y.behind (subst (λ (l : List ℕ). AreFields header_fields l y.values y.behind) one.1.1 y.header)

pub one_fault : (text : List ℕ) (f g : SyslogFault) → IsFault5424 text f → IsFault5424 text g → f ≢ Memory → g ≢ Memory → f ≡ g
one_fault text Pri Pri a b _ _ = refl
one_fault text Pri Version a b _ _ = absurd (a b.priority b.rest b.priority_is)
one_fault text Pri Time a b _ _ = absurd (a b.priority (49 ∷ 32 ∷ b.rest) b.priority_is)
one_fault text Pri (Header at) a b _ _ = absurd (head_priority text b.rest b.priority b.time b.head a)
one_fault text Pri (Structured at) a b _ _ = absurd (head_priority text b.rest b.priority b.time b.head a)
one_fault text Version Pri a b _ _ = absurd (b a.priority a.rest a.priority_is)
one_fault text Version Version a b _ _ = refl
one_fault text Version Time a b _ _ = absurd (version_there text b.rest b.priority b.priority_is a)
one_fault text Version (Header at) a b _ _ = absurd (head_version text b.rest b.priority b.time b.head a)
one_fault text Version (Structured at) a b _ _ = absurd (head_version text b.rest b.priority b.time b.head a)
one_fault text Time Pri a b _ _ = absurd (b a.priority (49 ∷ 32 ∷ a.rest) a.priority_is)
one_fault text Time Version a b _ _ = absurd (version_there text a.rest a.priority a.priority_is b)
one_fault text Time Time a b _ _ = refl
one_fault text Time (Header at) a b _ _ = absurd (head_time text b.rest b.priority b.time b.head a)
one_fault text Time (Structured at) a b _ _ = absurd (head_time text b.rest b.priority b.time b.head a)
one_fault text (Header at) Pri a b _ _ = absurd (head_priority text a.rest a.priority a.time a.head b)
one_fault text (Header at) Version a b _ _ = absurd (head_version text a.rest a.priority a.time a.head b)
one_fault text (Header at) Time a b _ _ = absurd (head_time text a.rest a.priority a.time a.head b)
one_fault text (Header at) (Header other) a b _ _ = ap Header (one_leftmost IsMessage text at other a.leftmost b.leftmost)
one_fault text (Header at) (Structured other) a b _ _ = absurd (header_there text at other a b)
one_fault text (Structured at) Pri a b _ _ = absurd (head_priority text a.rest a.priority a.time a.head b)
one_fault text (Structured at) Version a b _ _ = absurd (head_version text a.rest a.priority a.time a.head b)
one_fault text (Structured at) Time a b _ _ = absurd (head_time text a.rest a.priority a.time a.head b)
one_fault text (Structured at) (Header other) a b _ _ = absurd (header_there text other at b a)
one_fault text (Structured at) (Structured other) a b _ _ = ap Structured (one_leftmost IsMessage text at other a.leftmost b.leftmost)
one_fault text Memory g a b n _ = absurd (n refl)
one_fault text Pri Memory a b _ n = absurd (n refl)
one_fault text Version Memory a b _ n = absurd (n refl)
one_fault text Time Memory a b _ n = absurd (n refl)
one_fault text (Header at) Memory a b _ n = absurd (n refl)
one_fault text (Structured at) Memory a b _ n = absurd (n refl)

pub no_fault : (text : List ℕ) (m : Message) (f : SyslogFault) → IsMessage text m → IsFault5424 text f → f ≢ Memory → ⊥
no_fault text m Pri is a _ = head_priority text is.rest m.priority m.time is.head a
no_fault text m Version is a _ = head_version text is.rest m.priority m.time is.head a
no_fault text m Time is a _ = head_time text is.rest m.priority m.time is.head a
no_fault text m (Header at) is a _ = a.leftmost.none m is
no_fault text m (Structured at) is a _ = a.leftmost.none m is
no_fault text m Memory is a n = n refl
