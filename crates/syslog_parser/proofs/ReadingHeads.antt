-- Reading priorities and times.
use Rattle.std.proofs.Common.{◌≡◌, ◌≢◌, ℕ, suc, ◌+◌, ◌-◌, ◌<◌, ◌≤◌, min, List, [], ◌∷◌, ◌++◌, ◌∙◌, ap, sym, refl, subst, Option, None, Some, Ok, Err, ℤ, pos, Bool, true, false, ◌&&◌, ◌==◌, length, take, drop, get_or, nat_lt, take_while, bytes_eq, append_assoc, length-append, arith, lt-ltb, eq-eqb}
use Rattle.std.proofs.lemmas.List.{take_at, get_or_at, take_all, take-append-drop, length-drop, length-take}
use Rattle.std.proofs.Math.Seq.{take-append-add}
use Rattle.std.specs.Char.{is_ascii_digit}
use Rattle.std.specs.List.{list_all, prefix_len}
use Rattle.case_table.specs.Rows.{first_code}
use Rattle.case_table.specs.Tables.{month_table}
use Rattle.time_layout.proofs.Instants.{one_time}
use Rattle.time_layout.specs.Atoms.{value_of}
use Rattle.time_layout.specs.Instant.{HasInstant, IsInstantOf, IsTimeOf}
use Rattle.time_layout.specs.Iso.{rfc3339_parts}
use Rattle.time_layout.specs.Parts.{layout_read, parts_read}
use Rattle.time_layout.specs.declared.fault.TimeFault.{TimeFault}
use Rattle.time_layout.specs.declared.parts.Said.{Said}
use Rattle.syslog_parser.specs.Bytes.{is_not_space}
use Rattle.syslog_parser.specs.Faults.{HasNoPriority}
use Rattle.syslog_parser.specs.Stamps.{IsStamp, IsTime, IsDate, day_and_clock, of_month}
use Rattle.syslog_parser.proofs.Heads.{one_length}
use Rattle.syslog_parser.proofs.Words.{cut_is, stands_true, run_all, run_is, count_is, one_split}

length_front : (n : ℕ) (l : List ℕ) → n ≤ length l → length (take n l) ≡ n
length_front n l few = let t : length (take n l) ≡ min n (length l) = length-take n l in omega arith

-- a byte stands behind a word
end_stands : (own rest : List ℕ) (byte : ℕ) → (nat_lt (length own) (length (own ++ byte ∷ rest)) && (get_or (own ++ byte ∷ rest) (length own) 0 == byte)) ≡ true
end_stands own rest byte =
    let len : length (own ++ byte ∷ rest) ≡ length own + suc (length rest) = length-append own (byte ∷ rest) in
    let inside : length own < length (own ++ byte ∷ rest) = omega arith in
    joined (nat_lt (length own) (length (own ++ byte ∷ rest))) (get_or (own ++ byte ∷ rest) (length own) 0 == byte) (lt-ltb (length own) (length (own ++ byte ∷ rest)) inside)
    (eq-eqb (get_or (own ++ byte ∷ rest) (length own) 0) byte (get_or_at own byte rest 0 (length own) refl))
  where
    joined : (a b : Bool) → a ≡ true → b ≡ true → (a && b) ≡ true
    joined true b e f = f
    joined false b e f = absurd (cc e)

-- ---- priorities

-- what the reader finds wrong behind `<`
pub data Wrong : List ℕ → ℕ → ℕ → Type 0 where
  no_digits : {numbered : List ℕ} {value count : ℕ} → count ≡ 0 → Wrong numbered value count
  many_digits : {numbered : List ℕ} {value count : ℕ} → 3 < count → Wrong numbered value count
  too_great : {numbered : List ℕ} {value count : ℕ} → 191 < value → Wrong numbered value count
  unclosed : {numbered : List ℕ} {value count : ℕ} → (nat_lt count (length numbered) && (get_or numbered count 0 == 62)) ≡ false → Wrong numbered value count

front_taken : (digits rest : List ℕ) → length digits ≤ 3 → take 4 (digits ++ 62 ∷ rest) ≡ digits ++ 62 ∷ take (3 - length digits) rest
front_taken digits rest few =
    let split : 4 ≡ length digits + suc (3 - length digits) = omega arith in
    ap (λ (n : ℕ). take n (digits ++ 62 ∷ rest)) split ∙ take-append-add digits (62 ∷ rest) (suc (3 - length digits))

pub priority_none : (text numbered front : List ℕ) (value count : ℕ) → text ≡ 60 ∷ numbered → front ≡ take 4 numbered
    → count ≡ prefix_len is_ascii_digit front → value ≡ value_of (take count front) → Wrong numbered value count → HasNoPriority text
priority_none text numbered front value count e f c v wrong priority rest p = by wrong
  where
    numbered_is : numbered ≡ p.digits ++ 62 ∷ rest
    numbered_is = let both = sym e ∙ p.is in cc both

    few : length p.digits ≤ 3
    few = p.short.few

    front_is : front ≡ p.digits ++ 62 ∷ take (3 - length p.digits) rest
    front_is = f ∙ ap (take 4) numbered_is ∙ front_taken p.digits rest few

    count_so : count ≡ length p.digits
    count_so = c ∙ ap (prefix_len is_ascii_digit) front_is ∙ run_is is_ascii_digit 62 refl p.digits (take (3 - length p.digits) rest) p.short.word.all

    value_so : value ≡ priority
    value_so =
        v ∙ ap (λ (n : ℕ). value_of (take n front)) count_so
        ∙ ap (λ (l : List ℕ). value_of (take (length p.digits) l)) front_is
        ∙ ap value_of (take_at p.digits (62 ∷ take (3 - length p.digits) rest) (length p.digits) refl)
        ∙ p.value

    by : Wrong numbered value count → ⊥
    by (no_digits z) = let some = p.short.word.some in let s = count_so in omega arith
    by (many_digits m) = let l = few in let s = count_so in omega arith
    by (too_great g) = let l = p.fits in let s = value_so in omega arith
    by (unclosed u) =
        let closed : (nat_lt count (length numbered) && (get_or numbered count 0 == 62)) ≡ true =
        ap (λ (n : ℕ). nat_lt n (length numbered) && (get_or numbered n 0 == 62)) count_so
        ∙ ap (λ (l : List ℕ). nat_lt (length p.digits) (length l) && (get_or l (length p.digits) 0 == 62)) numbered_is
        ∙ end_stands p.digits rest 62 in
        cc (closed, u)

-- ---- times of RFC 5424

module _ (text : List ℕ) (count : ℕ) (is : count ≡ length (take_while is_not_space text)) where
  pub time_none : (nat_lt count (length text) && (get_or text count 0 == 32)) ≡ false → (time : Option ℕ) (more : List ℕ) → IsTime text time more → ⊥
  time_none e time more t =
      let same : count ≡ length t.own = count_is is_not_space text count is ∙ ap (prefix_len is_not_space) t.is ∙ run_is is_not_space 32 refl t.own more t.unbroken in
      let ended : (nat_lt count (length text) && (get_or text count 0 == 32)) ≡ true =
      ap (λ (n : ℕ). nat_lt n (length text) && (get_or text n 0 == 32)) same
      ∙ ap (λ (l : List ℕ). nat_lt (length t.own) (length l) && (get_or l (length t.own) 0 == 32)) t.is
      ∙ end_stands t.own more 32 in
      cc (ended, e)

  module _ (own rest : List ℕ) (o : own ≡ take count text) (r : rest ≡ drop (count + 1) text) (e : (nat_lt count (length text) && (get_or text count 0 == 32)) ≡ true) where
    unbroken_own : list_all is_not_space own ≡ true
    unbroken_own = ap (list_all is_not_space) o ∙ run_all is_not_space text count is

    pub time_some : (time : Option ℕ) → IsStamp own time → IsTime text time rest
    time_some time s = record { own = own; is = cut_is text own rest count 32 e o r; unbroken = unbroken_own; stamp = s }

    pub no_time : (fault : TimeFault) → bytes_eq own (45 ∷ []) ≡ false → IsTimeOf (layout_read (rfc3339_parts 6) (pos 0) own) (Err fault)
        → (time : Option ℕ) (more : List ℕ) → IsTime text time more → ⊥
    no_time fault dash f time more t =
        let split = one_split is_not_space 32 refl t.own own more rest t.unbroken unbroken_own (sym t.is ∙ cut_is text own rest count 32 e o r) in
        by time (subst (λ (l : List ℕ). IsStamp l time) split.0 t.stamp)
      where
        by : (time : Option ℕ) → IsStamp own time → ⊥
        by None s = let same : bytes_eq own (45 ∷ []) ≡ true = ap (λ (l : List ℕ). bytes_eq l (45 ∷ [])) s in cc (same, dash)
        by (Some i) s = let one = one_time (layout_read (rfc3339_parts 6) (pos 0) own) (Ok i) (Err fault) s f in cc one

-- ---- times of RFC 3164

rest_taken : (n : ℕ) (l : List ℕ) → take (length l - n) (drop n l) ≡ drop n l
rest_taken n l = take_all (length l - n) (drop n l) (let d : length (drop n l) ≡ length l - n = length-drop n l in omega arith)

module _ (year : ℕ) (location : ℤ) (text own rest bytes : List ℕ) (month : ℕ)
    (o : own ≡ take 15 text) (r : rest ≡ drop (15 + 1) text) (e : (nat_lt 15 (length text) && (get_or text 15 0 == 32)) ≡ true) (v : bytes ≡ own)
    (m : first_code (bytes_eq (take 3 bytes)) month_table ≡ Some month) where
  clock : List ℕ
  clock = take (length bytes - 3) (drop 3 bytes)

  clock_is : clock ≡ drop 3 own
  unfolding clock
  clock_is = rest_taken 3 bytes ∙ ap (drop 3) v

  own_size : length own ≡ 15
  own_size =
      let inside = (stands_true text 15 32 e).0 in
      let t : length (take 15 text) ≡ 15 = length_front 15 text (omega arith) in
      ap length o ∙ t

  name_size : length (take 3 own) ≡ 3
  name_size = length_front 3 own (let s = own_size in omega arith)

  clock_size : length (drop 3 own) ≡ 12
  clock_size = let d : length (drop 3 own) ≡ length own - 3 = length-drop 3 own in let s = own_size in omega arith

  month_so : first_code (bytes_eq (take 3 own)) month_table ≡ Some month
  month_so = ap (λ (l : List ℕ). first_code (bytes_eq (take 3 l)) month_table) (sym v) ∙ m

  pub date_some : (said : Said) (start : Said) (instant : ℕ) → start ≡ of_month year month location
      → parts_read day_and_clock (take (length bytes - 3) (drop 3 bytes)) 0 start ≡ Ok (said, length (take (length bytes - 3) (drop 3 bytes)))
      → IsInstantOf said (Ok instant) → IsDate year location text instant rest
  unfolding clock
  date_some said start instant s p i = record {
    name = take 3 own;
    clock = drop 3 own;
    month = month;
    said = said;
    is =
        cut_is text own rest 15 32 e o r
        ∙ ap (λ (l : List ℕ). l ++ 32 ∷ rest) (sym (take-append-drop 3 own))
        ∙ append_assoc (take 3 own) (drop 3 own) (32 ∷ rest);
    name_size = name_size;
    clock_size = clock_size;
    month_is = month_so;
    said_is =
        ap (λ (l : List ℕ). parts_read day_and_clock l 0 (of_month year month location)) (sym clock_is)
        ∙ ap (λ (b : Said). parts_read day_and_clock clock 0 b) (sym s) ∙ p
        ∙ ap (λ (n : ℕ). Ok (said, n)) (ap length clock_is ∙ clock_size);
    instant_is = i;
  }

  -- what any other time has of this text
  module _ (time : ℕ) (more : List ℕ) (d : IsDate year location text time more) where
    own_is : take 3 own ++ drop 3 own ≡ d.name ++ d.clock
    own_is =
        let size : length (d.name ++ d.clock) ≡ 15 = length-append d.name d.clock ∙ ap (λ (n : ℕ). n + length d.clock) d.name_size ∙ ap (λ (n : ℕ). 3 + n) d.clock_size in
        take-append-drop 3 own ∙ o ∙ ap (take 15) (d.is ∙ sym (append_assoc d.name d.clock (32 ∷ more))) ∙ take_at (d.name ++ d.clock) (32 ∷ more) 15 size

    parts_are : (take 3 own ≡ d.name) × (drop 3 own ≡ d.clock)
    parts_are = one_length (take 3 own) d.name (drop 3 own) d.clock (name_size ∙ sym d.name_size) own_is

    month_one : d.month ≡ month
    month_one =
        let other : first_code (bytes_eq (take 3 own)) month_table ≡ Some d.month = ap (λ (l : List ℕ). first_code (bytes_eq l) month_table) parts_are.0 ∙ d.month_is in
        let both = sym other ∙ month_so in
        cc both

    said_there : parts_read day_and_clock clock 0 (of_month year month location) ≡ Ok (d.said, length clock)
    unfolding clock
    said_there =
        ap (λ (l : List ℕ). parts_read day_and_clock l 0 (of_month year month location)) (clock_is ∙ parts_are.1)
        ∙ ap (λ (n : ℕ). parts_read day_and_clock d.clock 0 (of_month year n location)) (sym month_one)
        ∙ d.said_is
        ∙ ap (λ (n : ℕ). Ok (d.said, n)) (sym (ap length clock_is ∙ clock_size))

    pub no_clock : (start : Said) → start ≡ of_month year month location
        → ((said : Said) → parts_read day_and_clock (take (length bytes - 3) (drop 3 bytes)) 0 start ≢ Ok (said, length (take (length bytes - 3) (drop 3 bytes)))) → ⊥
    unfolding clock
    no_clock start s none = none d.said (ap (λ (b : Said). parts_read day_and_clock clock 0 b) s ∙ said_there)

    pub no_instant : (said start : Said) (fault : TimeFault) → start ≡ of_month year month location
        → parts_read day_and_clock (take (length bytes - 3) (drop 3 bytes)) 0 start ≡ Ok (said, length (take (length bytes - 3) (drop 3 bytes)))
        → IsInstantOf said (Err fault) → ⊥
    unfolding clock
    no_instant said start fault s p i =
        let mine : parts_read day_and_clock clock 0 (of_month year month location) ≡ Ok (said, length clock) = ap (λ (b : Said). parts_read day_and_clock clock 0 b) (sym s) ∙ p in
        let both = sym mine ∙ said_there in
        let pairs : ◌≡◌ {A = Said × ℕ} (said, length clock) (d.said, length clock) = cc both in
        let same : said ≡ d.said = ap (λ (x : Said × ℕ). x.0) pairs in
        i.1 (subst (λ (x : Said). HasInstant x) (sym same) d.instant_is.0)
