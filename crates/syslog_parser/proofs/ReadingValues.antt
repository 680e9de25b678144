-- Reading the value of a parameter.
use Rattle.std.proofs.Common.{◌≡◌, ◌≢◌, ℕ, suc, ◌+◌, ◌-◌, ◌<◌, ◌≤◌, List, [], ◌∷◌, ◌++◌, ◌∙◌, ap, sym, refl, subst, Err, Bool, true, false, not, ◌&&◌, ◌||◌, ◌==◌, length, take, drop, get_or, nat_lt, take_while, append_assoc, length-append, arith, eqb-true}
use Rattle.std.proofs.lemmas.List.{append-nil, drop_all, drop_more, take-append-drop, length-drop}
use Rattle.std.specs.List.{list_all}
use Rattle.syslog_parser.specs.Bytes.{is_special, is_plain}
use Rattle.syslog_parser.specs.Inner.Reads.{Escapes, meant, itself, IsAtEnd, StopsInValue}
use Rattle.syslog_parser.specs.States5424.{Within, in_value, step, value_at, outcome}
use Rattle.syslog_parser.specs.Structured.{IsContent, a_quote, a_plain, an_escape, a_backslash}
use Rattle.syslog_parser.proofs.OtherBytes.{not_not}
use Rattle.syslog_parser.proofs.Over5424.{plain_word, escape_over, backslash_over, bracket_stops, value_unfinished, escape_unfinished}
use Rattle.syslog_parser.proofs.Runs.{run_over}
use Rattle.syslog_parser.proofs.SoFar.{ValueSoFar}
use Rattle.syslog_parser.proofs.Words.{both, cut_is, stands_true, stands_false, run_within, run_all, run_length, run_ends}

plain_reads : (own rest more behind : List ℕ) → list_all is_plain own ≡ true → IsContent rest more behind → IsContent (own ++ rest) (own ++ more) behind
plain_reads [] rest more behind a c = c
plain_reads (byte ∷ own) rest more behind a c =
    let b = both (is_plain byte) (list_all is_plain own) a in
    a_plain b.0 (plain_reads own rest more behind b.1 c)

plain_runs : (within : Within) (name own rest acc : List ℕ) → list_all is_plain own ≡ true
    → outcome (in_value within name acc) (own ++ rest) ≡ outcome (in_value within name (acc ++ own)) rest
plain_runs within name own rest acc a =
    run_over step value_at (in_value within name) is_plain (length acc + length own) (plain_word within name (length acc + length own)) own rest acc a (omega arith)

pub nothing_read : (text value : List ℕ) → value ≡ [] → ValueSoFar text text value
nothing_read text value e = record {
  reads = λ more behind c. subst (λ (v : List ℕ). IsContent text (v ++ more) behind) (sym e) c;
  runs = λ within name. ap (λ (v : List ℕ). outcome (in_value within name v) text) (sym e);
}

-- a special byte that ends no value and is no bracket is a backslash
pub is_backslash : (byte : ℕ) → is_plain byte ≡ false → (byte == 34) ≡ false → (byte == 93) ≡ false → byte ≡ 92
is_backslash byte e a b =
    let special = not_not (is_special byte) e in
    eqb-true byte 92 (sym (ap (λ (t : Bool). (t || (byte == 92)) || (byte == 93)) a ∙ ap (λ (t : Bool). (byte == 92) || t) b ∙ or_false (byte == 92)) ∙ special)
  where
    or_false : (t : Bool) → (t || false) ≡ t
    or_false true = refl
    or_false false = refl

module _ (text rest value : List ℕ) (so : ValueSoFar text rest value) (own : List ℕ) (all : list_all is_plain own ≡ true) where
  run_on : (within : Within) (name behind : List ℕ) → rest ≡ own ++ behind
      → outcome (in_value within name []) text ≡ outcome (in_value within name (value ++ own)) behind
  run_on within name behind e =
      so.runs within name ∙ ap (λ (l : List ℕ). outcome (in_value within name value) l) e ∙ plain_runs within name own behind value all

  -- the value ends
  pub value_ends : (behind : List ℕ) → rest ≡ own ++ 34 ∷ behind → IsContent text (value ++ own) behind
  value_ends behind e =
      let last : IsContent rest (own ++ []) behind = subst (λ (l : List ℕ). IsContent l (own ++ []) behind) (sym e) (plain_reads own (34 ∷ behind) [] behind all a_quote) in
      subst (λ (l : List ℕ). IsContent text (value ++ l) behind) (append-nil own) (so.reads (own ++ []) behind last)

  -- a bracket stands in it
  pub value_bracket : (behind : List ℕ) (left : ℕ) → rest ≡ own ++ 93 ∷ behind → left ≡ length rest - length own → StopsInValue text left
  value_bracket behind left e l within name =
      let len : length rest ≡ length own + suc (length behind) = ap length e ∙ length-append own (93 ∷ behind) in
      let same : suc (length behind) ≡ left = omega arith in
      run_on within name (93 ∷ behind) e ∙ bracket_stops within name (value ++ own) behind ∙ ap (λ (n : ℕ). Err n) same

  -- the text ends in it
  pub value_open : rest ≡ own ++ [] → StopsInValue text 0
  value_open e within name = run_on within name [] e ∙ value_unfinished within name (value ++ own)

  -- the text ends behind a backslash
  pub value_escape_open : (behind : List ℕ) (left : ℕ) → rest ≡ own ++ 92 ∷ behind → IsAtEnd behind left → StopsInValue text left
  value_escape_open behind left e at_end within name =
      run_on within name (92 ∷ behind) e
      ∙ ap (λ (l : List ℕ). outcome (in_value within name (value ++ own)) (92 ∷ l)) at_end.empty
      ∙ escape_unfinished within name (value ++ own)
      ∙ ap (λ (n : ℕ). Err n) (sym at_end.left_is)

  -- on behind a backslash
  pub value_goes_on : (behind new next : List ℕ) → rest ≡ own ++ 92 ∷ behind → Escapes behind (value ++ own) new next → ValueSoFar text next new
  value_goes_on behind new next e escapes = by refl e escapes
    where
      joined : (byte : ℕ) (more : List ℕ) → value ++ (own ++ byte ∷ more) ≡ ((value ++ own) ++ byte ∷ []) ++ more
      joined byte more = sym (append_assoc value own (byte ∷ more)) ∙ sym (append_assoc (value ++ own) (byte ∷ []) more)

      read_on : (byte : ℕ) (back more behind : List ℕ) → rest ≡ own ++ back → IsContent back (byte ∷ more) behind → IsContent text (((value ++ own) ++ byte ∷ []) ++ more) behind
      read_on byte back more behind e c =
          subst (λ (v : List ℕ). IsContent text v behind) (joined byte more)
          (so.reads (own ++ byte ∷ more) behind (subst (λ (l : List ℕ). IsContent l (own ++ byte ∷ more) behind) (sym e) (plain_reads own back (byte ∷ more) behind all c)))

      by : {behind old new next : List ℕ} → old ≡ value ++ own → rest ≡ own ++ 92 ∷ behind → Escapes behind old new next → ValueSoFar text next new
      by o e (meant {byte} {rest = next} {old} s) = subst (λ (v : List ℕ). ValueSoFar text next (v ++ byte ∷ [])) (sym o) (record {
        reads = λ more z c. read_on byte (92 ∷ byte ∷ next) more z e (an_escape s c);
        runs = λ within name. run_on within name (92 ∷ byte ∷ next) e ∙ escape_over within name (value ++ own) next byte s;
      })
      by o e (itself {byte} {rest = back} {old} p) = subst (λ (v : List ℕ). ValueSoFar text (byte ∷ back) (v ++ 92 ∷ [])) (sym o) (record {
        reads = λ more z c. read_on 92 (92 ∷ byte ∷ back) more z e (a_backslash p c);
        runs = λ within name. run_on within name (92 ∷ byte ∷ back) e ∙ backslash_over within name (value ++ own) back byte p;
      })

-- less is left behind a backslash
pub escapes_less : {behind old new next : List ℕ} → Escapes behind old new next → length next ≤ length behind
escapes_less (meant {byte} {rest} s) = let l : length (byte ∷ rest) ≡ suc (length rest) = refl in omega arith
escapes_less (itself {byte} {rest} p) = omega arith

-- ---- what a backslash stands in front of

pub escapes_meant : (text rest old new : List ℕ) (byte : ℕ) → text ≡ byte ∷ drop 1 text → rest ≡ drop (0 + 1) text → is_special byte ≡ true → new ≡ old ++ byte ∷ []
    → Escapes text old new rest
escapes_meant text rest old new byte e r s n =
    let front : text ≡ byte ∷ rest = e ∙ ap (λ (l : List ℕ). byte ∷ l) (sym r) in
    subst (λ (l : List ℕ). Escapes l old new rest) (sym front) (subst (λ (l : List ℕ). Escapes (byte ∷ rest) old l rest) (sym n) (meant s))

pub escapes_itself : (text old new : List ℕ) (byte : ℕ) → text ≡ byte ∷ drop 1 text → is_special byte ≡ false → new ≡ old ++ 92 ∷ [] → Escapes text old new text
escapes_itself text old new byte e s n =
    subst (λ (l : List ℕ). Escapes l old new l) (sym e) (subst (λ (l : List ℕ). Escapes (byte ∷ drop 1 text) old l (byte ∷ drop 1 text)) (sym n) (itself (ap not s)))

-- ---- a run of plain bytes

pub special_low : (byte : ℕ) → is_special byte ≡ true → byte < 128
special_low byte e = by (byte == 34) (byte == 92) (byte == 93) refl refl refl e
  where
    at : (k : ℕ) → (byte == k) ≡ true → k < 128 → byte < 128
    at k is l = let same = eqb-true byte k is in omega arith

    by : (x y z : Bool) → (byte == 34) ≡ x → (byte == 92) ≡ y → (byte == 93) ≡ z → ((x || y) || z) ≡ true → byte < 128
    by true y z ex ey ez e = at 34 ex (omega arith)
    by false true z ex ey ez e = at 92 ey (omega arith)
    by false false true ex ey ez e = at 93 ez (omega arith)
    by false false false ex ey ez e = absurd (cc e)

pub first_inside : (text rest : List ℕ) (byte : ℕ) → text ≡ byte ∷ rest → 0 < length text
first_inside text rest byte e = let l : length text ≡ suc (length rest) = ap length e in omega arith

pub first_low : (text rest : List ℕ) (byte : ℕ) → text ≡ byte ∷ rest → is_special byte ≡ true → get_or text 0 0 < 128
first_low text rest byte e s = let same : get_or text 0 0 ≡ byte = ap (λ (l : List ℕ). get_or l 0 0) e in let l = special_low byte s in omega arith

module _ (text rest value : List ℕ) (so : ValueSoFar text rest value) (count : ℕ) (is : count ≡ length (take_while is_plain rest)) where
  pub open_here : count ≡ length rest → StopsInValue text 0
  open_here e =
      value_open text rest value so (take count rest) (run_all is_plain rest count is)
      (sym (take-append-drop count rest) ∙ ap (λ (l : List ℕ). take count rest ++ l) (drop_all count rest (omega arith)))

  pub bracket_here : (nat_lt count (length rest) && (get_or rest count 0 == 93)) ≡ true → StopsInValue text (length rest - count)
  bracket_here e =
      let len = run_length is_plain rest count is in
      value_bracket text rest value so (take count rest) (run_all is_plain rest count is) (drop (count + 1) rest) (length rest - count)
      (cut_is rest (take count rest) (drop (count + 1) rest) count 93 e refl refl)
      (ap (λ (n : ℕ). length rest - n) (sym len))

  module _ (some : count ≢ length rest) where
    pub inside : count < length rest
    inside = let l = run_within is_plain rest count is in omega arith

    special_here : is_plain (get_or rest count 0) ≡ false
    special_here = run_ends is_plain rest count is inside

    pub special_is_low : get_or rest count 0 < 128
    special_is_low = special_low (get_or rest count 0) (not_not (is_special (get_or rest count 0)) special_here)

    module _ (own behind new : List ℕ) (o : own ≡ take count rest) (b : behind ≡ drop (count + 1) rest) (n : new ≡ value ++ own) where
      own_all : list_all is_plain own ≡ true
      own_all = ap (list_all is_plain) o ∙ run_all is_plain rest count is

      pub ends_here : (nat_lt count (length rest) && (get_or rest count 0 == 34)) ≡ true → IsContent text new behind
      ends_here e =
          subst (λ (v : List ℕ). IsContent text v behind) (sym n)
          (value_ends text rest value so own own_all behind (cut_is rest own behind count 34 e o b))

      pub behind_less : length behind < length rest
      behind_less =
          let d : length (drop (count + 1) rest) ≡ length rest - (count + 1) = length-drop (count + 1) rest in
          let same : length behind ≡ length (drop (count + 1) rest) = ap length b in
          let i = inside in
          omega arith

      module _ (no_bracket : (nat_lt count (length rest) && (get_or rest count 0 == 93)) ≡ false) (no_quote : (nat_lt count (length rest) && (get_or rest count 0 == 34)) ≡ false) where
        backslash_here : rest ≡ own ++ 92 ∷ behind
        backslash_here =
            let i = inside in
            let byte : get_or rest count 0 ≡ 92 = is_backslash (get_or rest count 0) special_here (stands_false rest count 34 no_quote i) (stands_false rest count 93 no_bracket i) in
            sym (take-append-drop count rest)
            ∙ ap (λ (l : List ℕ). take count rest ++ l) (drop_more rest count 0 i)
            ∙ ap (λ (l : List ℕ). l ++ get_or rest count 0 ∷ drop (count + 1) rest) (sym o)
            ∙ ap (λ (x : ℕ). own ++ x ∷ drop (count + 1) rest) byte
            ∙ ap (λ (l : List ℕ). own ++ 92 ∷ l) (sym b)

        pub escape_open_here : (left : ℕ) → IsAtEnd behind left → StopsInValue text left
        escape_open_here left at_end = value_escape_open text rest value so own own_all behind left backslash_here at_end

        pub goes_on_here : (newer next : List ℕ) → Escapes behind new newer next → ValueSoFar text next newer
        goes_on_here newer next e =
            value_goes_on text rest value so own own_all behind newer next backslash_here (subst (λ (v : List ℕ). Escapes behind v newer next) n e)

        pub next_less : (newer next : List ℕ) → Escapes behind new newer next → length next < length rest
        next_less newer next e = let l = escapes_less e in let m = behind_less in omega arith

-- a value without backslashes
pub plain_value : (text own rest : List ℕ) (count : ℕ) → count ≡ length (take_while is_plain text)
    → (nat_lt count (length text) && (get_or text count 0 == 34)) ≡ true → own ≡ take count text → rest ≡ drop (count + 1) text → IsContent text own rest
plain_value text own rest count is e o r =
    let i = (stands_true text count 34 e).0 in
    let some : count ≢ length text = omega arith in
    ends_here text text [] (nothing_read text [] refl) count is some own rest own o r refl e
