-- Words at the front of a text, and what a reader knows of them.
use Rattle.std.proofs.Common.{◌≡◌, ℕ, suc, ◌+◌, ◌-◌, ◌<◌, ◌≤◌, ◌⊎◌, inl, inr, List, [], ◌∷◌, ◌++◌, ◌∙◌, ap, sym, refl, Bool, true, false, ◌&&◌, ◌||◌, ◌==◌, cond, length, take, drop, get_or, nat_lt, take_while, arith, ltb-true, lt-ltb, eqb-true}
use Rattle.std.proofs.lemmas.List.{drop_more, take-append-drop, take-take}
use Rattle.std.proofs.lemmas.List.Folds.{length-prefix_len, list_all-append}
use Rattle.std.proofs.lemmas.List.Sums.{take_while-cons, prefix_len-le-length, prefix_len_passes, prefix_len_stops}
use Rattle.std.specs.List.{list_all, prefix_len}
use Rattle.syslog_parser.specs.Inner.Reads.{HasNoWord, BeginsWith}
use Rattle.syslog_parser.specs.Words.{IsWord, IsShortWord}

pub if_true : {A : Type 0} (b : Bool) (m n : A) → b ≡ true → cond b m n ≡ m
if_true true m n e = refl
if_true false m n e = absurd (cc e)

pub if_false : {A : Type 0} (b : Bool) (m n : A) → b ≡ false → cond b m n ≡ n
if_false true m n e = absurd (cc e)
if_false false m n e = refl

pub both : (a b : Bool) → (a && b) ≡ true → (a ≡ true) × (b ≡ true)
both true b e = (refl, e)
both false b e = absurd (cc e)

pub bool_cases : (b : Bool) → (b ≡ true) ⊎ (b ≡ false)
bool_cases true = inl refl
bool_cases false = inr refl

-- ---- single bytes

pub stands_true : (text : List ℕ) (at byte : ℕ) → (nat_lt at (length text) && (get_or text at 0 == byte)) ≡ true → (at < length text) × (get_or text at 0 ≡ byte)
stands_true text at byte e =
    let b = both (nat_lt at (length text)) (get_or text at 0 == byte) e in
    (ltb-true at (length text) b.0, eqb-true (get_or text at 0) byte b.1)

pub stands_false : (text : List ℕ) (at byte : ℕ) → (nat_lt at (length text) && (get_or text at 0 == byte)) ≡ false → at < length text → (get_or text at 0 == byte) ≡ false
stands_false text at byte e l = sym (ap (λ (b : Bool). b && (get_or text at 0 == byte)) (lt-ltb at (length text) l)) ∙ e

pub low : (text : List ℕ) (at byte : ℕ) → (nat_lt at (length text) && (get_or text at 0 == byte)) ≡ true → byte < 128 → get_or text at 0 < 128
low text at byte e l = let is = (stands_true text at byte e).1 in omega arith

-- the text around a byte at a place
pub cut_is : (text own rest : List ℕ) (at byte : ℕ) → (nat_lt at (length text) && (get_or text at 0 == byte)) ≡ true
    → own ≡ take at text → rest ≡ drop (at + 1) text → text ≡ own ++ byte ∷ rest
cut_is text own rest at byte e o r =
    let here = stands_true text at byte e in
    sym (take-append-drop at text)
    ∙ ap (λ (l : List ℕ). take at text ++ l) (drop_more text at 0 here.0)
    ∙ ap (λ (l : List ℕ). l ++ get_or text at 0 ∷ drop (at + 1) text) (sym o)
    ∙ ap (λ (b : ℕ). own ++ b ∷ drop (at + 1) text) here.1
    ∙ ap (λ (l : List ℕ). own ++ byte ∷ l) (sym r)

-- at the front
pub first_is : (text rest : List ℕ) (byte : ℕ) → (nat_lt 0 (length text) && (get_or text 0 0 == byte)) ≡ true
    → rest ≡ drop (0 + 1) text → text ≡ byte ∷ rest
first_is [] rest byte e r = let here = (stands_true [] 0 byte e).0 in absurd (omega arith)
first_is (first ∷ text) rest byte e r =
    let here = (stands_true (first ∷ text) 0 byte e).1 in
    ap (λ (b : ℕ). b ∷ text) here ∙ ap (λ (l : List ℕ). byte ∷ l) (sym r)

pub split_is : (text own rest : List ℕ) (at : ℕ) → own ≡ take at text → rest ≡ drop at text → text ≡ own ++ rest
split_is text own rest at o r =
    sym (take-append-drop at text) ∙ ap (λ (l : List ℕ). l ++ drop at text) (sym o) ∙ ap (λ (l : List ℕ). own ++ l) (sym r)

-- a text from a byte on
pub begins_at : (test : ℕ → Bool) (text rest : List ℕ) (at : ℕ) → at < length text → test (get_or text at 0) ≡ true → rest ≡ drop at text → BeginsWith test rest
begins_at test text rest at l t r = record { next = get_or text at 0; more = drop (at + 1) text; begins = r ∙ drop_more text at 0 l; passes = t }

-- ---- runs of a kind

pub all_taken : (kind : ℕ → Bool) (text : List ℕ) → list_all kind (take_while kind text) ≡ true
all_taken kind [] = refl
all_taken kind (byte ∷ text) = ap (list_all kind) (take_while-cons kind byte text) ∙ by (kind byte) refl (all_taken kind text)
  where
    by : (b : Bool) → kind byte ≡ b → list_all kind (take_while kind text) ≡ true → list_all kind (cond b (byte ∷ take_while kind text) []) ≡ true
    by true e rec = ap (λ (b : Bool). b && list_all kind (take_while kind text)) e ∙ rec
    by false e rec = refl

module _ (kind : ℕ → Bool) (text : List ℕ) (count : ℕ) (is : count ≡ length (take_while kind text)) where
  pub count_is : count ≡ prefix_len kind text
  count_is = is ∙ length-prefix_len kind text

  pub run_within : count ≤ length text
  run_within = let most = prefix_len-le-length kind text in let same = count_is in omega arith

  pub run_all : list_all kind (take count text) ≡ true
  run_all = ap (λ (n : ℕ). list_all kind (take n text)) count_is ∙ all_taken kind text

  pub run_length : length (take count text) ≡ count
  run_length = ap (λ (n : ℕ). length (take n text)) count_is ∙ sym is

  pub run_ends : count < length text → kind (get_or text count 0) ≡ false
  run_ends l =
      let inside : prefix_len kind text < length text = let same = count_is in omega arith in
      ap (λ (n : ℕ). kind (get_or text n 0)) count_is ∙ prefix_len_stops kind text 0 inside

  pub run_passes : (k : ℕ) → k < count → kind (get_or text k 0) ≡ true
  run_passes k l = prefix_len_passes kind text k 0 (let same = count_is in omega arith)

  pub run_word : (own : List ℕ) → own ≡ take count text → 1 ≤ count → IsWord kind own
  run_word own o some = record {
    some = let len : length own ≡ count = ap length o ∙ run_length in omega arith;
    all = ap (list_all kind) o ∙ run_all;
  }

  pub run_short : (own : List ℕ) (most : ℕ) → own ≡ take count text → 1 ≤ count → count ≤ most → IsShortWord kind most own
  run_short own most o some few = record { word = run_word own o some; few = let len : length own ≡ count = ap length o ∙ run_length in omega arith }

  -- one byte too many
  pub too_long : (ends : ℕ → Bool) (most left : ℕ) → ((byte : ℕ) → kind byte ≡ true → ends byte ≡ false) → most < count → left ≡ length text - most → HasNoWord kind most ends text left
  too_long ends most left apart long l = record {
    at = most;
    at_is = let same = count_is in omega arith;
    left_is = l;
    unended = inr (λ _. apart (get_or text most 0) (run_passes most long));
  }

  -- none, or nothing behind it that ends it
  pub unended : (ends : ℕ → Bool) (most left : ℕ) → count ≤ most → (count ≡ 0) ⊎ (count < length text → ends (get_or text count 0) ≡ false)
      → left ≡ length text - count → HasNoWord kind most ends text left
  unended ends most left few u l = record { at = count; at_is = let same = count_is in omega arith; left_is = l; unended = u }

-- ---- one word at most

pub one_split : (kind : ℕ → Bool) (end : ℕ) → kind end ≡ false → (own other rest more : List ℕ) → list_all kind own ≡ true → list_all kind other ≡ true
    → own ++ end ∷ rest ≡ other ++ end ∷ more → (own ≡ other) × (rest ≡ more)
one_split kind end stops [] [] rest more a b e = (refl, cc e)
one_split kind end stops [] (byte ∷ other) rest more a b e =
    let same : end ≡ byte = cc e in
    let passes = (both (kind byte) (list_all kind other) b).0 in
    absurd (let c : kind byte ≡ false = ap kind (sym same) ∙ stops in cc (c, passes))
one_split kind end stops (byte ∷ own) [] rest more a b e =
    let same : byte ≡ end = cc e in
    let passes = (both (kind byte) (list_all kind own) a).0 in
    absurd (let c : kind byte ≡ false = ap kind same ∙ stops in cc (c, passes))
one_split kind end stops (byte ∷ own) (next ∷ other) rest more a b e =
    let same : byte ≡ next = cc e in
    let tails : own ++ end ∷ rest ≡ other ++ end ∷ more = cc e in
    let rec = one_split kind end stops own other rest more (both (kind byte) (list_all kind own) a).1 (both (kind next) (list_all kind other) b).1 tails in
    (ap (λ (b : ℕ). b ∷ own) same ∙ ap (λ (l : List ℕ). next ∷ l) rec.0, rec.1)

-- how long a word is that ends here
pub run_is : (kind : ℕ → Bool) (end : ℕ) → kind end ≡ false → (own rest : List ℕ) → list_all kind own ≡ true → prefix_len kind (own ++ end ∷ rest) ≡ length own
run_is kind end stops [] rest a = if_false (kind end) (1 + prefix_len kind rest) 0 stops
run_is kind end stops (byte ∷ own) rest a =
    let b = both (kind byte) (list_all kind own) a in
    if_true (kind byte) (1 + prefix_len kind (own ++ end ∷ rest)) 0 b.0 ∙ ap (λ (n : ℕ). 1 + n) (run_is kind end stops own rest b.1) ∙ plus (length own)
  where
    plus : (n : ℕ) → 1 + n ≡ suc n
    plus n = omega arith

-- no more of a run than there is
pub all_taken_short : (kind : ℕ → Bool) (text : List ℕ) (at : ℕ) → at ≤ prefix_len kind text → list_all kind (take at text) ≡ true
all_taken_short kind text at few =
    let whole : take at (take (prefix_len kind text) text) ≡ take at text = take-take at (prefix_len kind text) text few in
    let parts : take (prefix_len kind text) text ≡ take at text ++ drop at (take (prefix_len kind text) text) =
    sym (take-append-drop at (take (prefix_len kind text) text)) ∙ ap (λ (l : List ℕ). l ++ drop at (take (prefix_len kind text) text)) whole in
    let all : (list_all kind (take at text) && list_all kind (drop at (take (prefix_len kind text) text))) ≡ true =
    sym (ap (list_all kind) parts ∙ list_all-append kind (take at text) (drop at (take (prefix_len kind text) text))) ∙ all_taken kind text in
    (both (list_all kind (take at text)) (list_all kind (drop at (take (prefix_len kind text) text))) all).0

-- ---- one of two bytes

module _ (text : List ℕ) (at one other : ℕ) where
  pub either_inside : (nat_lt at (length text) && ((get_or text at 0 == one) || (get_or text at 0 == other))) ≡ true → at < length text
  either_inside e = ltb-true at (length text) (both (nat_lt at (length text)) _ e).0

  pub either_passes : (nat_lt at (length text) && ((get_or text at 0 == one) || (get_or text at 0 == other))) ≡ true → ((get_or text at 0 == one) || (get_or text at 0 == other)) ≡ true
  either_passes e = (both (nat_lt at (length text)) _ e).1

  pub either_low : (nat_lt at (length text) && ((get_or text at 0 == one) || (get_or text at 0 == other))) ≡ true → one < 128 → other < 128 → get_or text at 0 < 128
  either_low e l m = by (get_or text at 0 == one) refl (either_passes e)
    where
      by : (b : Bool) → (get_or text at 0 == one) ≡ b → (b || (get_or text at 0 == other)) ≡ true → get_or text at 0 < 128
      by true is e = let same = eqb-true (get_or text at 0) one is in omega arith
      by false is e = let same = eqb-true (get_or text at 0) other e in omega arith

  pub neither_ends : (nat_lt at (length text) && ((get_or text at 0 == one) || (get_or text at 0 == other))) ≡ false → at < length text
      → ((get_or text at 0 == one) || (get_or text at 0 == other)) ≡ false
  neither_ends e l = sym (ap (λ (b : Bool). b && ((get_or text at 0 == one) || (get_or text at 0 == other))) (lt-ltb at (length text) l)) ∙ e
