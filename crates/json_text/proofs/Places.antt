-- Reading on from a place of a text.
use Rattle.std.proofs.Common.{◌≡◌, ℕ, suc, ◌+◌, ◌<◌, ◌≤◌, List, [], ◌∷◌, ◌∙◌, ap, sym, refl, None, Bool, true, false, ◌&&◌, cond, length, drop, get_or, take, take_while, slice_range, nat_lt, ◌-◌, ◌==◌, Result, Ok, Err, append_assoc, arith, ltb-true, ltb-false, eqb-true, lt-ltb}
use Rattle.std.proofs.lemmas.List.{drop_more, drop_all, drop-drop, get_or-drop, length-drop}
use Rattle.std.proofs.lemmas.List.Folds.{length-prefix_len}
use Rattle.std.proofs.lemmas.List.Sums.{prefix_len-le-length, prefix_len_stops}
use Rattle.std.specs.List.{prefix_len}
use Rattle.json_text.specs.declared.content.Piece.TheVariants as piece
use Rattle.json_text.specs.declared.fault.JsonFault.{JsonFault}
use Rattle.json_text.specs.declared.fault.JsonFault.TheVariants.{Syntax, TooDeep, Memory}
use Rattle.json_text.specs.Bytes.{is_blank, is_plain}
use Rattle.json_text.specs.Machine.{State, state, goes, stops, sinks, step, value_at, Outcome, syntax_at, too_deep_at, outcome, followed, ended, Content, with_piece, with_run, text_so_far, Role, Frame, in_text}
use Rattle.json_text.specs.Reads.{Leads, Refuses, Reads, past_blanks, text_from}
use Rattle.json_text.proofs.Complete.{if_true}

-- ---- one byte

module _ (text : List ℕ) (at : ℕ) where
  byte_there : (byte : ℕ) → at < length text → get_or text at 0 ≡ byte → drop at text ≡ byte ∷ drop (at + 1) text
  byte_there byte l e = drop_more text at 0 l ∙ ap (λ (b : ℕ). b ∷ drop (at + 1) text) e

  pub outcome_byte : (s : State) (byte : ℕ) → at < length text → get_or text at 0 ≡ byte
      → outcome s (drop at text) at ≡ followed (λ next. outcome next (drop (at + 1) text) (at + 1)) at (step s byte)
  unfolding outcome
  outcome_byte s byte l e = ap (λ (bytes : List ℕ). outcome s bytes at) (byte_there byte l e)

  pub outcome_goes : (s t : State) (byte : ℕ) → at < length text → get_or text at 0 ≡ byte → step s byte ≡ goes t
      → outcome s (drop at text) at ≡ outcome t (drop (at + 1) text) (at + 1)
  outcome_goes s t byte l e g = outcome_byte s byte l e ∙ ap (followed (λ (next : State). outcome next (drop (at + 1) text) (at + 1)) at) g

  pub outcome_stops : (s : State) (byte : ℕ) → at < length text → get_or text at 0 ≡ byte → step s byte ≡ stops → outcome s (drop at text) at ≡ syntax_at at
  outcome_stops s byte l e g = outcome_byte s byte l e ∙ ap (followed (λ (next : State). outcome next (drop (at + 1) text) (at + 1)) at) g

  pub outcome_sinks : (s : State) (byte : ℕ) → at < length text → get_or text at 0 ≡ byte → step s byte ≡ sinks → outcome s (drop at text) at ≡ too_deep_at at
  outcome_sinks s byte l e g = outcome_byte s byte l e ∙ ap (followed (λ (next : State). outcome next (drop (at + 1) text) (at + 1)) at) g

  pub outcome_over : (s : State) → length text ≤ at → outcome s (drop at text) at ≡ ended at (value_at s)
  unfolding outcome
  outcome_over s l = ap (λ (bytes : List ℕ). outcome s bytes at) (drop_all at text l)

  pub outcome_unfinished : (s : State) → length text ≤ at → value_at s ≡ None → outcome s (drop at text) at ≡ syntax_at at
  outcome_unfinished s l e = outcome_over s l ∙ ap (ended at) e

  -- either no byte stands here, or one that stops
  pub outcome_stuck : (s : State) → (at < length text → step s (get_or text at 0) ≡ stops) → (length text ≤ at → value_at s ≡ None) → outcome s (drop at text) at ≡ syntax_at at
  outcome_stuck s f g = by (nat_lt at (length text)) refl
    where
      by : (b : Bool) → nat_lt at (length text) ≡ b → outcome s (drop at text) at ≡ syntax_at at
      by true e = let l = ltb-true at (length text) e in outcome_stops s (get_or text at 0) l refl (f l)
      by false e = let l = ltb-false at (length text) e in outcome_unfinished s l (g l)

-- what a test on the byte at a place says
pub stands_true : (text : List ℕ) (at byte : ℕ) → (nat_lt at (length text) && (get_or text at 0 == byte)) ≡ true → (at < length text) × (get_or text at 0 ≡ byte)
stands_true text at byte e = by (nat_lt at (length text)) refl (get_or text at 0 == byte) refl e
  where
    by : (b : Bool) → nat_lt at (length text) ≡ b → (c : Bool) → (get_or text at 0 == byte) ≡ c → (b && c) ≡ true → (at < length text) × (get_or text at 0 ≡ byte)
    by true x true y e = (ltb-true at (length text) x, eqb-true (get_or text at 0) byte y)
    by true x false y e = absurd (cc e)
    by false x c y e = absurd (cc e)

pub stands_false : (text : List ℕ) (at byte : ℕ) → (nat_lt at (length text) && (get_or text at 0 == byte)) ≡ false → at < length text → (get_or text at 0 == byte) ≡ false
stands_false text at byte e l = sym (ap (λ (b : Bool). b && (get_or text at 0 == byte)) (lt-ltb at (length text) l)) ∙ e

-- ---- from place to place

module _ {Around : Type 0} (text : List ℕ) where
  pub leads_same : (at : ℕ) (f g : Around → State) → at ≤ length text → ((around : Around) → outcome (f around) (drop at text) at ≡ outcome (g around) (drop at text) at) → Leads text at f at g
  leads_same at f g l e = (omega arith, l, e)

  pub leads_byte : (at byte : ℕ) (f g : Around → State) → at < length text → get_or text at 0 ≡ byte → ((around : Around) → step (f around) byte ≡ goes (g around)) → Leads text at f (at + 1) g
  leads_byte at byte f g l e s = (omega arith, omega arith, λ around. outcome_goes text at (f around) (g around) byte l e (s around))

  pub then_leads : (at middle next : ℕ) (f g h : Around → State) → Leads text at f middle g → Leads text middle g next h → Leads text at f next h
  then_leads at middle next f g h a b = let x = a.0 in let y = b.0 in (omega arith, b.1, λ around. a.2 around ∙ b.2 around)

  pub then_refuses : (at middle : ℕ) (f g : Around → State) (fault : JsonFault) → Leads text at f middle g → Refuses text middle g fault → Refuses text at f fault
  then_refuses at middle f g (Syntax place) a b = λ around. a.2 around ∙ b around
  then_refuses at middle f g (TooDeep place) a b = λ around. a.2 around ∙ b around
  then_refuses at middle f g Memory a b = tt

  pub then_reads : {T : Type 0} (at middle : ℕ) (f g : Around → State) (h : Around → T → State) (r : Result (T × ℕ) JsonFault) → Leads text at f middle g → Reads text middle g h r → Reads text at f h r
  then_reads at middle f g h (Ok read) a b = then_leads at middle read.1 f g (λ around. h around read.0) a b
  then_reads at middle f g h (Err fault) a b = then_refuses at middle f g fault a b

  pub refuses_here : (at : ℕ) (f : Around → State) → (at < length text → (around : Around) → step (f around) (get_or text at 0) ≡ stops) → ((around : Around) → value_at (f around) ≡ None) → Refuses text at f (Syntax at)
  refuses_here at f s e = λ around. outcome_stuck text at (f around) (λ l. s l around) (λ _. e around)

-- ---- runs of bytes

module _ (p : ℕ → Bool) (text : List ℕ) (at : ℕ) where
  count_is : length (take_while p (drop at text)) ≡ prefix_len p (drop at text)
  count_is = length-prefix_len p (drop at text)

  -- the first place whose byte doesn't pass
  pub run_end : at ≤ length text → at + length (take_while p (drop at text)) ≤ length text
  run_end l =
      let few = prefix_len-le-length p (drop at text) in
      let rest : length (drop at text) ≡ length text - at = length-drop at text in
      let same = count_is in
      omega arith

  pub run_stops : at + length (take_while p (drop at text)) < length text → p (get_or text (at + length (take_while p (drop at text))) 0) ≡ false
  run_stops inside =
      let rest : length (drop at text) ≡ length text - at = length-drop at text in
      let same = count_is in
      let short : prefix_len p (drop at text) < length (drop at text) = omega arith in
      ap p (ap (λ (n : ℕ). get_or text (at + n) 0) same ∙ sym (get_or-drop at text (prefix_len p (drop at text)) 0)) ∙ prefix_len_stops p (drop at text) 0 short

blank_run : (s : State) → ((byte : ℕ) → is_blank byte ≡ true → step s byte ≡ goes s) → (bytes : List ℕ) (at : ℕ)
    → outcome s bytes at ≡ outcome s (drop (prefix_len is_blank bytes) bytes) (at + prefix_len is_blank bytes)
unfolding outcome
blank_run s stays [] at = ap (λ (n : ℕ). outcome s [] n) (let e : at ≡ at + 0 = omega arith in e)
blank_run s stays (byte ∷ bytes) at = by (is_blank byte) refl (blank_run s stays bytes (at + 1))
  where
    by : (b : Bool) → is_blank byte ≡ b
        → outcome s bytes (at + 1) ≡ outcome s (drop (prefix_len is_blank bytes) bytes) (at + 1 + prefix_len is_blank bytes)
        → outcome s (byte ∷ bytes) at ≡ outcome s (drop (cond b (1 + prefix_len is_blank bytes) 0) (byte ∷ bytes)) (at + cond b (1 + prefix_len is_blank bytes) 0)
    by true e rec =
        let one : 1 + prefix_len is_blank bytes ≡ suc (prefix_len is_blank bytes) = omega arith in
        let there : at + 1 + prefix_len is_blank bytes ≡ at + (1 + prefix_len is_blank bytes) = omega arith in
        ap (followed (λ (next : State). outcome next bytes (at + 1)) at) (stays byte e) ∙ rec
        ∙ ap (λ (n : ℕ). outcome s (drop (prefix_len is_blank bytes) bytes) n) there
        ∙ ap (λ (n : ℕ). outcome s (drop n (byte ∷ bytes)) (at + (1 + prefix_len is_blank bytes))) (sym one)
    by false e rec = ap (λ (n : ℕ). outcome s (byte ∷ bytes) n) (let e : at ≡ at + 0 = omega arith in e)

pub blanks_lead : {Around : Type 0} (text : List ℕ) (at : ℕ) (f : Around → State) → at ≤ length text
    → ((around : Around) (byte : ℕ) → is_blank byte ≡ true → step (f around) byte ≡ goes (f around)) → Leads text at f (past_blanks text at) f
blanks_lead text at f l stays = (
  omega arith,
  run_end is_blank text at l,
  λ around.
      blank_run (f around) (stays around) (drop at text) at
      ∙ ap (λ (bytes : List ℕ). outcome (f around) bytes (at + prefix_len is_blank (drop at text))) (drop-drop (prefix_len is_blank (drop at text)) at text)
      ∙ ap (λ (n : ℕ). outcome (f around) (drop (at + n) text) (at + n)) (sym (count_is is_blank text at)),
)

-- a run in front of more of it
run_grown : (content : Content) (byte : ℕ) (run : List ℕ) → with_run (with_piece content (piece.Byte byte)) run ≡ with_run content (byte ∷ run)
run_grown content byte [] = refl
run_grown content byte (next ∷ run) =
    ap (λ (bytes : List ℕ). record { done = bytes; waiting = None }) (append_assoc (text_so_far content) (byte ∷ []) (next ∷ run))

plain_run : (role : Role) (frames : List Frame) (room : ℕ) (bytes : List ℕ) (content : Content) (at : ℕ)
    → outcome (state (in_text role content) frames room) bytes at
    ≡ outcome (state (in_text role (with_run content (take (prefix_len is_plain bytes) bytes))) frames room) (drop (prefix_len is_plain bytes) bytes) (at + prefix_len is_plain bytes)
unfolding outcome
plain_run role frames room [] content at = ap (λ (n : ℕ). outcome (state (in_text role content) frames room) [] n) (let e : at ≡ at + 0 = omega arith in e)
plain_run role frames room (byte ∷ bytes) content at = by (is_plain byte) refl (plain_run role frames room bytes (with_piece content (piece.Byte byte)) (at + 1))
  where
    from : Content → List ℕ → ℕ → Outcome
    from content bytes at = outcome (state (in_text role content) frames room) bytes at

    by : (b : Bool) → is_plain byte ≡ b
        → outcome (state (in_text role (with_piece content (piece.Byte byte))) frames room) bytes (at + 1)
        ≡ outcome (state (in_text role (with_run (with_piece content (piece.Byte byte)) (take (prefix_len is_plain bytes) bytes))) frames room)
        (drop (prefix_len is_plain bytes) bytes) (at + 1 + prefix_len is_plain bytes)
        → outcome (state (in_text role content) frames room) (byte ∷ bytes) at
        ≡ outcome (state (in_text role (with_run content (take (cond b (1 + prefix_len is_plain bytes) 0) (byte ∷ bytes)))) frames room)
        (drop (cond b (1 + prefix_len is_plain bytes) 0) (byte ∷ bytes)) (at + cond b (1 + prefix_len is_plain bytes) 0)
    by true e rec =
        let one : 1 + prefix_len is_plain bytes ≡ suc (prefix_len is_plain bytes) = omega arith in
        let there : at + 1 + prefix_len is_plain bytes ≡ at + (1 + prefix_len is_plain bytes) = omega arith in
        ap (followed (λ (next : State). outcome next bytes (at + 1)) at) (if_true (is_plain byte) _ _ e) ∙ rec
        ∙ ap (λ (c : Content). outcome (state (in_text role c) frames room) (drop (prefix_len is_plain bytes) bytes) (at + 1 + prefix_len is_plain bytes)) (run_grown content byte (take (prefix_len is_plain bytes) bytes))
        ∙ ap (λ (n : ℕ). outcome (state (in_text role (with_run content (byte ∷ take (prefix_len is_plain bytes) bytes))) frames room) (drop (prefix_len is_plain bytes) bytes) n) there
        ∙ ap (λ (n : ℕ). outcome (state (in_text role (with_run content (take n (byte ∷ bytes)))) frames room) (drop n (byte ∷ bytes)) (at + (1 + prefix_len is_plain bytes))) (sym one)
    by false e rec = ap (λ (n : ℕ). outcome (state (in_text role content) frames room) (byte ∷ bytes) n) (let e : at ≡ at + 0 = omega arith in e)

-- the place behind the bytes that stand for themselves
abbrev pub plain_end : List ℕ → ℕ → ℕ
plain_end text at = at + length (take_while is_plain (drop at text))

pub plain_leads : (text : List ℕ) (at : ℕ) (content : Content) → at ≤ length text
    → Leads text at (text_from content) (plain_end text at) (text_from (with_run content (slice_range text at (plain_end text at))))
plain_leads text at content l = (
  omega arith,
  run_end is_plain text at l,
  λ around.
      let n : ℕ = prefix_len is_plain (drop at text) in
      let m : ℕ = length (take_while is_plain (drop at text)) in
      let same : m ≡ n = count_is is_plain text at in
      let width : plain_end text at - at ≡ m = omega arith in
      plain_run around.0 around.1.0 around.1.1 (drop at text) content at
      ∙ ap (λ (bytes : List ℕ). outcome (text_from (with_run content (take n (drop at text))) around) bytes (at + n)) (drop-drop n at text)
      ∙ ap (λ (k : ℕ). outcome (text_from (with_run content (take k (drop at text))) around) (drop (at + k) text) (at + k)) (sym same)
      ∙ ap (λ (k : ℕ). outcome (text_from (with_run content (take k (drop at text))) around) (drop (at + m) text) (at + m)) (sym width),
)
