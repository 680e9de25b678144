-- What messages of syslog tell, by the grammars of syslog_parser and computed.
use Rattle.std.proofs.Common.{◌≡◌, ◌≢◌, ℕ, suc, ◌+◌, ◌-◌, ◌≤◌, List, [], ◌∷◌, ◌++◌, ◌∙◌, ap, sym, refl, subst, Bool, true, false, ◌&&◌, ◌==◌, Option, None, Some, Result, Ok, Err, ℤ, pos, length, take, drop, nat_le, bytes_eq, append_assoc, length-append, arith, eqb-true}
use Rattle.std.proofs.lemmas.Bool.{and_parts, and_from, leb-true, le-leb}
use Rattle.std.proofs.lemmas.List.{take_at, take-append-drop, length-drop}
use Rattle.std.proofs.lemmas.Option.{cond_some, none-some, option_and_then_some}
use Rattle.std.proofs.lemmas.Slice.Eq.{bytes_eq-Decides}
use Rattle.std.proofs.Math.Seq.{take-append_seam, drop-append_seam}
use Rattle.std.specs.Char.{is_ascii_digit}
use Rattle.std.specs.Int.{is_in_range}
use Rattle.std.specs.List.{list_all, prefix_len}
use Rattle.std.specs.Option.{option_and_then, option_map}
use Rattle.std.specs.Prelude.{if◌then◌else◌}
use Rattle.std.specs.Result.{result_ok}
use Rattle.case_table.specs.Rows.{first_code}
use Rattle.case_table.specs.Tables.{month_table}
use Rattle.op_kinds.specs.Faults.{of_syslog_fault}
use Rattle.op_kinds.specs.Syslog.{run, behind_run, is_priority, closed, priority_in, behind_version, spaced, stamp_in, stamp_at, clock_read, date_of, date_in, date_at, message_5424, message_3164, tail_5424, timed_5424, versioned_5424, read_5424, tail_3164, dated_3164, read_3164, told_by}
use Rattle.op_kinds.specs.declared.row.RowFault.TheVariants as row
use Rattle.op_kinds.specs.declared.types.syslog_parsing.Protocol.TheVariants.{Rfc5424, Rfc3164}
use Rattle.syslog_parser.proofs.Messages3164 as messages3164
use Rattle.syslog_parser.proofs.Messages5424 as messages5424
use Rattle.syslog_parser.proofs.Over3164 as over3164
use Rattle.syslog_parser.proofs.Over5424 as over5424
use Rattle.syslog_parser.proofs.Sound3164 as sound3164
use Rattle.syslog_parser.proofs.Sound5424 as sound5424
use Rattle.syslog_parser.proofs.Words.{all_taken_short, run_is}
use Rattle.syslog_parser.specs.Bytes.{is_not_space}
use Rattle.syslog_parser.specs.Faults.{Tells5424, Tells3164, IsFault5424, IsFault3164}
use Rattle.syslog_parser.specs.Priorities.{IsPriority}
use Rattle.syslog_parser.specs.Rfc3164 as rfc3164
use Rattle.syslog_parser.specs.Rfc5424 as rfc5424
use Rattle.syslog_parser.specs.Stamps.{IsStamp, IsTime, IsDate, day_and_clock, of_month}
use Rattle.syslog_parser.specs.States3164 as states3164
use Rattle.syslog_parser.specs.States5424 as states5424
use Rattle.syslog_parser.specs.Told.{Meaning, meaning_3164, meaning_5424}
use Rattle.syslog_parser.specs.declared.fault.SyslogFault.{SyslogFault}
use Rattle.time_layout.specs.Atoms.{Reading, value_of, number}
use Rattle.time_layout.specs.Instant.{IsInstantOf, IsTimeOf}
use Rattle.time_layout.specs.Iso.{rfc3339_parts}
use Rattle.time_layout.specs.Parts.{layout_read, parts_read}
use Rattle.time_layout.specs.declared.parts.Said.{Said}
use Rattle.time_severity.proofs.Told.{layout_told, layout_tells}
use Rattle.time_severity.specs.Times.{instant_read, instant_said}

-- ---- runs

all_of_run : (kind : ℕ → Bool) (text : List ℕ) → list_all kind (run kind text) ≡ true
all_of_run kind text = all_taken_short kind text (prefix_len kind text) (omega arith)

run_joined : (kind : ℕ → Bool) (text rest : List ℕ) → behind_run kind text ≡ rest → text ≡ run kind text ++ rest
run_joined kind text rest is = sym (take-append-drop (prefix_len kind text) text) ∙ ap (λ (l : List ℕ). run kind text ++ l) is

module _ (kind : ℕ → Bool) (end : ℕ) (stops : kind end ≡ false) (own rest : List ℕ) (all : list_all kind own ≡ true) where
  run_of : run kind (own ++ end ∷ rest) ≡ own
  run_of = ap (λ (n : ℕ). take n (own ++ end ∷ rest)) (run_is kind end stops own rest all) ∙ take-append_seam own (end ∷ rest)

  behind_run_of : behind_run kind (own ++ end ∷ rest) ≡ end ∷ rest
  behind_run_of = ap (λ (n : ℕ). drop n (own ++ end ∷ rest)) (run_is kind end stops own rest all) ∙ drop-append_seam own (end ∷ rest)

-- ---- priorities

module _ (numbered : List ℕ) (priority : ℕ) (rest : List ℕ) where
  abbrev digits : List ℕ
  digits = run is_ascii_digit numbered

  closed_sound : closed digits (behind_run is_ascii_digit numbered) ≡ Some (priority, rest) → IsPriority (60 ∷ numbered) priority rest
  closed_sound = by (behind_run is_ascii_digit numbered) refl
    where
      by : (behind : List ℕ) → behind_run is_ascii_digit numbered ≡ behind → closed digits behind ≡ Some (priority, rest) → IsPriority (60 ∷ numbered) priority rest
      by [] is e = absurd (none-some (priority, rest) e)
      by (byte ∷ more) is e =
          let given = cond_some ((byte == 62) && is_priority digits) (value_of digits, more) (priority, rest) e in
          let parts = and_parts (byte == 62) (is_priority digits) given.0 in
          let bounds = and_parts (is_in_range 1 3 (length digits)) (nat_le (value_of digits) 191) parts.1 in
          let sizes = and_parts (nat_le 1 (length digits)) (nat_le (length digits) 3) bounds.0 in
          let value : value_of digits ≡ priority = ap (λ (p : ℕ × List ℕ). p.0) given.1 in
          let rests : more ≡ rest = ap (λ (p : ℕ × List ℕ). p.1) given.1 in
          let closes : byte ∷ more ≡ 62 ∷ rest = ap (λ (b : ℕ). b ∷ more) (eqb-true byte 62 parts.0) ∙ ap (λ (l : List ℕ). 62 ∷ l) rests in
          record {
            digits = digits;
            is = ap (λ (l : List ℕ). 60 ∷ l) (run_joined is_ascii_digit numbered (62 ∷ rest) (is ∙ closes));
            short = record { word = record { some = leb-true 1 (length digits) sizes.0; all = all_of_run is_ascii_digit numbered }; few = leb-true (length digits) 3 sizes.1 };
            value = value;
            fits = subst (λ (n : ℕ). n ≤ 191) value (leb-true (value_of digits) 191 bounds.1);
          }

priority_sound : (text : List ℕ) (priority : ℕ) (rest : List ℕ) → priority_in text ≡ Some (priority, rest) → IsPriority text priority rest
unfolding priority_in
priority_sound [] priority rest e = absurd (none-some (priority, rest) e)
priority_sound (byte ∷ numbered) priority rest e = by (byte == 60) refl e
  where
    by : (b : Bool) → (byte == 60) ≡ b → (if b then closed (run is_ascii_digit numbered) (behind_run is_ascii_digit numbered) else None) ≡ Some (priority, rest) → IsPriority (byte ∷ numbered) priority rest
    by true is e = subst (λ (n : ℕ). IsPriority (n ∷ numbered) priority rest) (sym (eqb-true byte 60 is)) (closed_sound numbered priority rest e)
    by false is e = absurd (none-some (priority, rest) e)

priority_complete : (text : List ℕ) (priority : ℕ) (rest : List ℕ) → IsPriority text priority rest → priority_in text ≡ Some (priority, rest)
unfolding priority_in
priority_complete text priority rest p =
    let all = p.short.word.all in
    let fits : is_priority p.digits ≡ true =
    and_from _ _ (and_from _ _ (le-leb 1 (length p.digits) p.short.word.some) (le-leb (length p.digits) 3 p.short.few))
    (le-leb (value_of p.digits) 191 (subst (λ (n : ℕ). n ≤ 191) (sym p.value) p.fits)) in
    ap priority_in p.is
    ∙ ap (λ (l : List ℕ). closed l (behind_run is_ascii_digit (p.digits ++ 62 ∷ rest))) (run_of is_ascii_digit 62 refl p.digits rest all)
    ∙ ap (closed p.digits) (behind_run_of is_ascii_digit 62 refl p.digits rest all)
    ∙ ap (λ (b : Bool). if b then Some (value_of p.digits, rest) else None) fits
    ∙ ap (λ (n : ℕ). Some (n, rest)) p.value

-- ---- versions

version_sound : (text rest : List ℕ) → behind_version text ≡ Some rest → text ≡ 49 ∷ 32 ∷ rest
unfolding behind_version
version_sound [] rest e = absurd (none-some rest e)
version_sound (byte ∷ []) rest e = absurd (none-some rest e)
version_sound (byte ∷ next ∷ more) rest e =
    let given = cond_some ((byte == 49) && (next == 32)) more rest e in
    let parts = and_parts (byte == 49) (next == 32) given.0 in
    ap (λ (b : ℕ). b ∷ next ∷ more) (eqb-true byte 49 parts.0) ∙ ap (λ (b : ℕ). 49 ∷ b ∷ more) (eqb-true next 32 parts.1) ∙ ap (λ (l : List ℕ). 49 ∷ 32 ∷ l) given.1

version_complete : (rest : List ℕ) → behind_version (49 ∷ 32 ∷ rest) ≡ Some rest
unfolding behind_version
version_complete rest = refl

-- ---- a space behind a value

neither : {B : Type 0} (b : Bool) (x : B) → ◌≡◌ {A = Option B} (if b then None else None) (Some x) → ⊥
neither true x e = none-some x e
neither false x e = none-some x e

spaced_sound : {A : Type 0} (value : Option A) (text : List ℕ) (x : A) (rest : List ℕ) → spaced value text ≡ Some (x, rest) → (value ≡ Some x) × (text ≡ 32 ∷ rest)
spaced_sound value [] x rest e = absurd (none-some (x, rest) e)
spaced_sound None (byte ∷ more) x rest e = absurd (neither (byte == 32) (x, rest) e)
spaced_sound {A} (Some y) (byte ∷ more) x rest e =
    let given = cond_some (byte == 32) (y, more) (x, rest) e in (
      ap (λ (p : A × List ℕ). Some p.0) given.1,
      ap (λ (b : ℕ). b ∷ more) (eqb-true byte 32 given.0) ∙ ap (λ (p : A × List ℕ). 32 ∷ p.1) given.1,
    )

-- ---- times of RFC 5424

no_instant_of_dash : (instant : ℕ) → IsTimeOf (layout_read (rfc3339_parts 6) (pos 0) (45 ∷ [])) (Ok instant) → ⊥
unfolding rfc3339_parts number
no_instant_of_dash instant e = cc e

stamp_sound : (own : List ℕ) (time : Option ℕ) → stamp_in own ≡ Some time → IsStamp own time
stamp_sound own time e = by (bytes_eq own (45 ∷ [])) refl e
  where
    told : (read : Option ℕ) → instant_read (layout_read (rfc3339_parts 6) (pos 0) own) ≡ read → option_map (λ instant. Some instant) read ≡ Some time → IsStamp own time
    told None is e = absurd (none-some time e)
    told (Some instant) is e =
        let same : Some instant ≡ time = cc e in
        subst (λ (t : Option ℕ). IsStamp own t) same (layout_tells (layout_read (rfc3339_parts 6) (pos 0) own) instant is)

    by : (b : Bool) → bytes_eq own (45 ∷ []) ≡ b → (if b then Some None else option_map (λ instant. Some instant) (instant_read (layout_read (rfc3339_parts 6) (pos 0) own))) ≡ Some time → IsStamp own time
    by true is e =
        let same : None ≡ time = cc e in
        subst (λ (t : Option ℕ). IsStamp own t) same ((bytes_eq-Decides own (45 ∷ [])).0 is)
    by false is e = told (instant_read (layout_read (rfc3339_parts 6) (pos 0) own)) refl e

stamp_complete : (own : List ℕ) (time : Option ℕ) → IsStamp own time → stamp_in own ≡ Some time
stamp_complete own None is = ap (λ (b : Bool). if b then Some None else option_map (λ instant. Some instant) (instant_read (layout_read (rfc3339_parts 6) (pos 0) own))) ((bytes_eq-Decides own (45 ∷ [])).1 is)
stamp_complete own (Some instant) is = by (bytes_eq own (45 ∷ [])) refl
  where
    by : (b : Bool) → bytes_eq own (45 ∷ []) ≡ b → (if b then Some None else option_map (λ instant. Some instant) (instant_read (layout_read (rfc3339_parts 6) (pos 0) own))) ≡ Some (Some instant)
    by true dash = absurd (no_instant_of_dash instant (subst (λ (l : List ℕ). IsStamp l (Some instant)) ((bytes_eq-Decides own (45 ∷ [])).0 dash) is))
    by false dash = ap (option_map (λ instant. Some instant)) (sym (layout_told (layout_read (rfc3339_parts 6) (pos 0) own) (Ok instant) is))

time_sound : (text : List ℕ) (time : Option ℕ) (rest : List ℕ) → stamp_at text ≡ Some (time, rest) → IsTime text time rest
unfolding stamp_at
time_sound text time rest e =
    let parts = spaced_sound (stamp_in (run is_not_space text)) (behind_run is_not_space text) time rest e in
    record {
      own = run is_not_space text;
      is = run_joined is_not_space text (32 ∷ rest) parts.1;
      unbroken = all_of_run is_not_space text;
      stamp = stamp_sound (run is_not_space text) time parts.0;
    }

time_complete : (text : List ℕ) (time : Option ℕ) (rest : List ℕ) → IsTime text time rest → stamp_at text ≡ Some (time, rest)
unfolding stamp_at
time_complete text time rest t =
    ap stamp_at t.is
    ∙ ap (λ (l : List ℕ). spaced (stamp_in l) (behind_run is_not_space (t.own ++ 32 ∷ rest))) (run_of is_not_space 32 refl t.own rest t.unbroken)
    ∙ ap (spaced (stamp_in t.own)) (behind_run_of is_not_space 32 refl t.own rest t.unbroken)
    ∙ ap (λ (v : Option (Option ℕ)). spaced v (32 ∷ rest)) (stamp_complete t.own time t.stamp)

-- ---- times of RFC 3164

module _ (year : ℕ) (location : ℤ) where
  clock_sound : (read : Reading Said) (instant : ℕ) → clock_read read ≡ Some instant → (said : Said) × (read ≡ Ok (said, 12)) × IsInstantOf said (Ok instant)
  clock_sound (Err fault) instant e = absurd (none-some instant e)
  clock_sound (Ok read) instant e = by (read.1 == 12) refl e
    where
      by : (b : Bool) → (read.1 == 12) ≡ b → (if b then instant_said read.0 else None) ≡ Some instant → (said : Said) × (◌≡◌ {A = Reading Said} (Ok read) (Ok (said, 12))) × IsInstantOf said (Ok instant)
      by true is e = (read.0, ap (λ (n : ℕ). Ok (read.0, n)) (eqb-true read.1 12 is), layout_tells (Ok read) instant e)
      by false is e = absurd (none-some instant e)

  date_built : (text : List ℕ) (instant : ℕ) (rest : List ℕ) (month : Option ℕ) → first_code (bytes_eq (take 3 (take 15 text))) month_table ≡ month
      → date_of year location (drop 3 (take 15 text)) month ≡ Some instant → drop 15 text ≡ 32 ∷ rest → IsDate year location text instant rest
  date_built text instant rest None named told behind = absurd (none-some instant told)
  date_built text instant rest (Some month) named told behind =
      let own = take 15 text in
      let read = clock_sound (parts_read day_and_clock (drop 3 own) 0 (of_month year month location)) instant told in
      let left : length text - 15 ≡ suc (length rest) = sym (length-drop 15 text) ∙ ap length behind in
      let all : length own + length (drop 15 text) ≡ length text = sym (length-append own (drop 15 text)) ∙ ap length (take-append-drop 15 text) in
      let tail : length (drop 15 text) ≡ suc (length rest) = ap length behind in
      let whole : length own ≡ 15 = omega (arith, all, tail, left) in
      let joined : take 3 own ++ drop 3 own ≡ own = take-append-drop 3 own in
      let clock_size : length (drop 3 own) ≡ 12 = length-drop 3 own ∙ omega (arith, whole) in
      let sizes : length (take 3 own) + length (drop 3 own) ≡ length own = sym (length-append (take 3 own) (drop 3 own)) ∙ ap length joined in
      record {
        name = take 3 own;
        clock = drop 3 own;
        month = month;
        said = read.0;
        is =
            sym (take-append-drop 15 text) ∙ ap (λ (l : List ℕ). own ++ l) behind
            ∙ ap (λ (l : List ℕ). l ++ 32 ∷ rest) (sym joined)
            ∙ append_assoc (take 3 own) (drop 3 own) (32 ∷ rest);
        name_size = omega (arith, sizes, clock_size, whole);
        clock_size = clock_size;
        month_is = named;
        said_is = read.1;
        instant_is = read.2;
      }

  date_sound : (text : List ℕ) (instant : ℕ) (rest : List ℕ) → date_at year location text ≡ Some (instant, rest) → IsDate year location text instant rest
  unfolding date_at
  date_sound text instant rest e =
      let parts = spaced_sound (date_in year location (take 15 text)) (drop 15 text) instant rest e in
      date_built text instant rest (first_code (bytes_eq (take 3 (take 15 text))) month_table) refl parts.0 parts.1

  date_complete : (text : List ℕ) (instant : ℕ) (rest : List ℕ) → IsDate year location text instant rest → date_at year location text ≡ Some (instant, rest)
  unfolding date_at
  date_complete text instant rest d =
      let own = d.name ++ d.clock in
      let joined : text ≡ own ++ 32 ∷ rest = d.is ∙ sym (append_assoc d.name d.clock (32 ∷ rest)) in
      let size : length own ≡ 15 = length-append d.name d.clock ∙ omega (arith, d.name_size, d.clock_size) in
      let front : take 15 text ≡ own = ap (take 15) joined ∙ take_at own (32 ∷ rest) 15 size in
      let behind : drop 15 text ≡ 32 ∷ rest = ap (drop 15) joined ∙ ap (λ (n : ℕ). drop n (own ++ 32 ∷ rest)) (sym size) ∙ drop-append_seam own (32 ∷ rest) in
      let name : take 3 own ≡ d.name = take_at d.name d.clock 3 d.name_size in
      let clock : drop 3 own ≡ d.clock = ap (λ (n : ℕ). drop n own) (sym d.name_size) ∙ drop-append_seam d.name d.clock in
      let told : date_in year location own ≡ Some instant =
      ap (λ (l : List ℕ). date_of year location (drop 3 own) (first_code (bytes_eq l) month_table)) name
      ∙ ap (date_of year location (drop 3 own)) d.month_is
      ∙ ap (λ (l : List ℕ). clock_read (parts_read day_and_clock l 0 (of_month year d.month location))) clock
      ∙ ap clock_read d.said_is
      ∙ sym (layout_told (Ok (d.said, 12)) (Ok instant) d.instant_is) in
      ap (λ (l : List ℕ). spaced (date_in year location l) (drop 15 text)) front
      ∙ ap (spaced (date_in year location own)) behind
      ∙ ap (λ (v : Option ℕ). spaced v (32 ∷ rest)) told

-- ---- messages of RFC 5424

map_some : {A B : Type 0} (f : A → B) (o : Option A) (y : B) → option_map f o ≡ Some y → (x : A) × (o ≡ Some x) × (f x ≡ y)
map_some f None y e = absurd (none-some y e)
map_some f (Some x) y e = (x, refl, let same : f x ≡ y = cc e in same)

ok_some : {A E : Type 0} (r : Result A E) (x : A) → result_ok r ≡ Some x → r ≡ Ok x
ok_some (Ok y) x e = let same : y ≡ x = cc e in ap Ok same
ok_some (Err fault) x e = absurd (none-some x e)

tail_is_5424 : (text : List ℕ) (tail : rfc5424.Tail) → states5424.outcome states5424.start text ≡ Ok tail → rfc5424.IsTail text tail
tail_is_5424 text tail e =
    let found = sound5424.tail_sound text tail e in
    let both = sym (over5424.tail_over text found.0 found.1) ∙ e in
    let same : found.0 ≡ tail = cc both in
    subst (λ (t : rfc5424.Tail). rfc5424.IsTail text t) same found.1

sound_5424 : (text : List ℕ) (message : rfc5424.Message) → read_5424 text ≡ Some message → rfc5424.IsMessage text message
unfolding read_5424
sound_5424 text message e =
    option_and_then_some versioned_5424 (priority_in text) message e (λ head first versioned.
    option_and_then_some (timed_5424 head.0) (behind_version head.1) message versioned (λ behind second timed.
    option_and_then_some (tail_5424 head.0) (stamp_at behind) message timed (λ time third ended.
    let last = map_some (message_5424 head.0 time.0) (result_ok (states5424.outcome states5424.start time.1)) message ended in
    subst (λ (m : rfc5424.Message). rfc5424.IsMessage text m) last.2 (record {
      rest = time.1;
      head = record {
        behind_priority = head.1;
        behind_version = behind;
        priority_is = priority_sound text head.0 head.1 first;
        version_is = version_sound head.1 behind second;
        time_is = time_sound behind time.0 time.1 third;
      };
      tail = tail_is_5424 time.1 last.0 (ok_some (states5424.outcome states5424.start time.1) last.0 last.1);
    }))))

complete_5424 : (text : List ℕ) (message : rfc5424.Message) → rfc5424.IsMessage text message → read_5424 text ≡ Some message
unfolding read_5424
complete_5424 text message is =
    let head = is.head in
    ap (option_and_then versioned_5424) (priority_complete text message.priority head.behind_priority head.priority_is)
    ∙ ap (λ (l : List ℕ). option_and_then (timed_5424 message.priority) (behind_version l)) head.version_is
    ∙ ap (option_and_then (timed_5424 message.priority)) (version_complete head.behind_version)
    ∙ ap (option_and_then (tail_5424 message.priority)) (time_complete head.behind_version message.time is.rest head.time_is)
    ∙ ap (λ (r : Result rfc5424.Tail ℕ). option_map (message_5424 message.priority message.time) (result_ok r)) (over5424.tail_over is.rest message.tail is.tail)

pub told_5424 : (text : List ℕ) (meaning : Meaning) → Tells5424 text meaning → told_by Rfc5424 text ≡ Some meaning
told_5424 text meaning tells = ap (option_map meaning_5424) (complete_5424 text tells.message tells.spelled) ∙ ap (λ (m : Meaning). Some m) (sym tells.told)

tells_5424 : (text : List ℕ) (meaning : Meaning) → told_by Rfc5424 text ≡ Some meaning → Tells5424 text meaning
tells_5424 text meaning told =
    let found = map_some meaning_5424 (read_5424 text) meaning told in
    record { message = found.0; spelled = sound_5424 text found.0 found.1; told = sym found.2 }

pub untold_5424 : (text : List ℕ) (fault : SyslogFault) → IsFault5424 text fault → of_syslog_fault fault ≢ row.Memory → told_by Rfc5424 text ≡ None
untold_5424 text fault is some = by (read_5424 text) refl
  where
    by : (read : Option rfc5424.Message) → read_5424 text ≡ read → option_map meaning_5424 read ≡ None
    by None e = refl
    by (Some message) e = absurd (messages5424.no_fault text message fault (sound_5424 text message e) is (λ memory. some (ap of_syslog_fault memory)))

-- ---- messages of RFC 3164

tail_is_3164 : (text : List ℕ) (tail : rfc3164.Tail) → states3164.outcome (states3164.in_host []) text ≡ Ok tail → rfc3164.IsTail text tail
tail_is_3164 text tail e =
    let found = sound3164.tail_sound text tail e in
    let both = sym (over3164.tail_over text found.0 found.1) ∙ e in
    let same : found.0 ≡ tail = cc both in
    subst (λ (t : rfc3164.Tail). rfc3164.IsTail text t) same found.1

sound_3164 : (year : ℕ) (location : ℤ) (text : List ℕ) (message : rfc3164.Message) → read_3164 year location text ≡ Some message → rfc3164.IsMessage year location text message
unfolding read_3164
sound_3164 year location text message e =
    option_and_then_some (dated_3164 year location) (priority_in text) message e (λ head first dated.
    option_and_then_some (tail_3164 head.0) (date_at year location head.1) message dated (λ time second ended.
    let last = map_some (message_3164 head.0 time.0) (result_ok (states3164.outcome (states3164.in_host []) time.1)) message ended in
    subst (λ (m : rfc3164.Message). rfc3164.IsMessage year location text m) last.2 (record {
      rest = time.1;
      head = record {
        behind_priority = head.1;
        priority_is = priority_sound text head.0 head.1 first;
        date_is = date_sound year location head.1 time.0 time.1 second;
      };
      tail = tail_is_3164 time.1 last.0 (ok_some (states3164.outcome (states3164.in_host []) time.1) last.0 last.1);
    })))

complete_3164 : (year : ℕ) (location : ℤ) (text : List ℕ) (message : rfc3164.Message) → rfc3164.IsMessage year location text message → read_3164 year location text ≡ Some message
unfolding read_3164
complete_3164 year location text message is =
    let head = is.head in
    ap (option_and_then (dated_3164 year location)) (priority_complete text message.priority head.behind_priority head.priority_is)
    ∙ ap (option_and_then (tail_3164 message.priority)) (date_complete year location head.behind_priority message.time is.rest head.date_is)
    ∙ ap (λ (r : Result rfc3164.Tail ℕ). option_map (message_3164 message.priority message.time) (result_ok r)) (over3164.tail_over is.rest message.tail is.tail)

pub told_3164 : (year : ℕ) (location : ℤ) (text : List ℕ) (meaning : Meaning) → Tells3164 year location text meaning → told_by (Rfc3164 year location) text ≡ Some meaning
told_3164 year location text meaning tells =
    ap (option_map meaning_3164) (complete_3164 year location text tells.message tells.spelled) ∙ ap (λ (m : Meaning). Some m) (sym tells.told)

tells_3164 : (year : ℕ) (location : ℤ) (text : List ℕ) (meaning : Meaning) → told_by (Rfc3164 year location) text ≡ Some meaning → Tells3164 year location text meaning
tells_3164 year location text meaning told =
    let found = map_some meaning_3164 (read_3164 year location text) meaning told in
    record { message = found.0; spelled = sound_3164 year location text found.0 found.1; told = sym found.2 }

pub untold_3164 : (year : ℕ) (location : ℤ) (text : List ℕ) (fault : SyslogFault) → IsFault3164 year location text fault → of_syslog_fault fault ≢ row.Memory → told_by (Rfc3164 year location) text ≡ None
untold_3164 year location text fault is some = by (read_3164 year location text) refl
  where
    by : (read : Option rfc3164.Message) → read_3164 year location text ≡ read → option_map meaning_3164 read ≡ None
    by None e = refl
    by (Some message) e = absurd (messages3164.no_fault year location text message fault (sound_3164 year location text message e) is (λ memory. some (ap of_syslog_fault memory)))

-- ---- laws

pub messages_are_spelled_5424 : (text : List ℕ) (meaning : Meaning) → (told_by Rfc5424 text ≡ Some meaning → Tells5424 text meaning) × (Tells5424 text meaning → told_by Rfc5424 text ≡ Some meaning)
messages_are_spelled_5424 text meaning = (tells_5424 text meaning, told_5424 text meaning)

pub messages_are_spelled_3164 : (year : ℕ) (location : ℤ) (text : List ℕ) (meaning : Meaning)
    → (told_by (Rfc3164 year location) text ≡ Some meaning → Tells3164 year location text meaning) × (Tells3164 year location text meaning → told_by (Rfc3164 year location) text ≡ Some meaning)
messages_are_spelled_3164 year location text meaning = (tells_3164 year location text meaning, told_3164 year location text meaning)
