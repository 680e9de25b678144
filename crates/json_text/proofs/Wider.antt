-- With more levels the reader goes through the same states, and further.
use Rattle.std.proofs.Common.{◌≡◌, ℕ, zero, suc, ◌+◌, ◌==◌, ◌⊎◌, inl, inr, List, [], ◌∷◌, ◌++◌, ◌∙◌, ap, refl, Option, None, Some, Bool, true, false, cond, arith, eqb-true}
use Rattle.entry_model.specs.Datum.{Datum}
use Rattle.json_text.specs.declared.number.Part.{Part}
use Rattle.json_text.specs.declared.number.Part.TheVariants as part
use Rattle.json_text.specs.Bytes.{is_blank, is_plain, escaped, hex_value}
use Rattle.json_text.specs.Grammar.{Member}
use Rattle.json_text.specs.Machine.{Content, Role, Phase, wants_value, opened_list, opened_map, has_value, wants_name, has_name, in_word, in_number, in_text, in_escape, in_unit, Frame, in_list, in_map, State, state, Move, goes, stops, sinks, opens, next_part, can_end, number_step, value_step, name_step, after_step, meant_step, hex_step, step_from, step}
use Rattle.json_text.specs.Numbers.{number_of}
use Rattle.json_text.proofs.Running.{run, after, moved}

abbrev pub wider : ℕ → State → State
wider n s = state s.phase s.frames (n + s.room)

-- a move, and the move with n levels more
data Widens (n byte : ℕ) : Move → Move → Type 0 where
  both_go : {s t : State} → t ≡ wider n s → Widens n byte (goes s) (goes t)
  both_stop : Widens n byte stops stops
  one_sinks : {m : Move} → (byte ≡ 91) ⊎ (byte ≡ 123) → ((r : ℕ) → n ≡ suc r → (t : State) × (m ≡ goes t)) → Widens n byte sinks m

module _ (n byte : ℕ) where
  go : (phase : Phase) (frames : List Frame) (room : ℕ) → Widens n byte (goes (state phase frames room)) (goes (state phase frames (n + room)))
  go phase frames room = both_go refl

  close_level : (phase : Phase) (frames : List Frame) (room : ℕ) → Widens n byte (goes (state phase frames (suc room))) (goes (state phase frames (suc (n + room))))
  close_level phase frames room = let e : suc (n + room) ≡ n + suc room = omega arith in both_go (ap (state phase frames) e)

  if_widens : (b : Bool) (m k m' k' : Move) → (b ≡ true → Widens n byte m m') → Widens n byte k k' → Widens n byte (cond b m k) (cond b m' k')
  if_widens true m k m' k' f g = f refl
  if_widens false m k m' k' f g = g

  open_level : (phase : Phase) (frames : List Frame) (room : ℕ) → (byte ≡ 91) ⊎ (byte ≡ 123) → Widens n byte (opens phase frames room) (opens phase frames (n + room))
  open_level phase frames zero which = one_sinks which (λ r e. let f : n + 0 ≡ suc r = omega arith in (state phase frames r, ap (opens phase frames) f))
  open_level phase frames (suc room) which = moved_on (opens phase frames (n + suc room)) (let e : n + suc room ≡ suc (n + room) = omega arith in ap (opens phase frames) e)
    where
      moved_on : (m : Move) → m ≡ goes (state phase frames (n + room)) → Widens n byte (goes (state phase frames room)) m
      moved_on (goes t) e = both_go (let f : t ≡ state phase frames (n + room) = cc e in f)
      moved_on stops e = absurd (cc e)
      moved_on sinks e = absurd (cc e)

  number_widens : (o : Option Part) (spelled : List ℕ) (m m' : Move) (frames : List Frame) (room : ℕ) → Widens n byte m m'
      → Widens n byte (number_step o spelled m frames room) (number_step o spelled m' frames (n + room))
  number_widens None spelled m m' frames room w = w
  number_widens (Some p) spelled m m' frames room w = go (in_number p spelled) frames room

  value_widens : (frames : List Frame) (room : ℕ) → Widens n byte (value_step frames room byte) (value_step frames (n + room) byte)
  value_widens frames room =
      if_widens (is_blank byte) _ _ _ _ (λ _. both_go refl)
      (if_widens (byte == 34) _ _ _ _ (λ _. both_go refl)
      (if_widens (byte == 91) _ _ _ _ (λ e. open_level opened_list frames room (inl (eqb-true byte 91 e)))
      (if_widens (byte == 123) _ _ _ _ (λ e. open_level opened_map frames room (inr (eqb-true byte 123 e)))
      (if_widens (byte == 110) _ _ _ _ (λ _. both_go refl)
      (if_widens (byte == 116) _ _ _ _ (λ _. both_go refl)
      (if_widens (byte == 102) _ _ _ _ (λ _. both_go refl)
      (number_widens (next_part part.Start byte) (byte ∷ []) stops stops frames room both_stop)))))))

  name_widens : (members : List Member) (frames : List Frame) (room : ℕ) → Widens n byte (name_step members frames room byte) (name_step members frames (n + room) byte)
  name_widens members frames room =
      if_widens (is_blank byte) _ _ _ _ (λ _. both_go refl) (if_widens (byte == 34) _ _ _ _ (λ _. both_go refl) both_stop)

  after_widens : (x : Datum) (frames : List Frame) (room : ℕ) → Widens n byte (after_step x frames room byte) (after_step x frames (n + room) byte)
  after_widens x [] room = if_widens (is_blank byte) _ _ _ _ (λ _. both_go refl) both_stop
  after_widens x (in_list items ∷ frames) room =
      if_widens (is_blank byte) _ _ _ _ (λ _. both_go refl)
      (if_widens (byte == 44) _ _ _ _ (λ _. both_go refl) (if_widens (byte == 93) _ _ _ _ (λ _. close_level _ _ room) both_stop))
  after_widens x (in_map members name ∷ frames) room =
      if_widens (is_blank byte) _ _ _ _ (λ _. both_go refl)
      (if_widens (byte == 44) _ _ _ _ (λ _. both_go refl) (if_widens (byte == 125) _ _ _ _ (λ _. close_level _ _ room) both_stop))

  meant_widens : (role : Role) (content : Content) (frames : List Frame) (room : ℕ) (o : Option ℕ)
      → Widens n byte (meant_step role content frames room o) (meant_step role content frames (n + room) o)
  meant_widens role content frames room None = both_stop
  meant_widens role content frames room (Some meant) = both_go refl

  hex_widens : (role : Role) (content : Content) (left value : ℕ) (frames : List Frame) (room : ℕ) (o : Option ℕ)
      → Widens n byte (hex_step role content left value frames room o) (hex_step role content left value frames (n + room) o)
  hex_widens role content left value frames room None = both_stop
  hex_widens role content left value frames room (Some one) = both_go refl

  step_widens : (phase : Phase) (frames : List Frame) (room : ℕ) → Widens n byte (step_from phase frames room byte) (step_from phase frames (n + room) byte)
  step_widens wants_value frames room = value_widens frames room
  step_widens opened_list frames room =
      if_widens (is_blank byte) _ _ _ _ (λ _. both_go refl) (if_widens (byte == 93) _ _ _ _ (λ _. close_level _ _ room) (value_widens (in_list [] ∷ frames) room))
  step_widens opened_map frames room =
      if_widens (is_blank byte) _ _ _ _ (λ _. both_go refl) (if_widens (byte == 125) _ _ _ _ (λ _. close_level _ _ room) (name_widens [] frames room))
  step_widens (has_value x) frames room = after_widens x frames room
  step_widens (wants_name members) frames room = name_widens members frames room
  step_widens (has_name members name) frames room =
      if_widens (is_blank byte) _ _ _ _ (λ _. both_go refl) (if_widens (byte == 58) _ _ _ _ (λ _. both_go refl) both_stop)
  step_widens (in_word next word x) frames room = if_widens (byte == next) _ _ _ _ (λ _. both_go refl) both_stop
  step_widens (in_number p spelled) frames room =
      number_widens (next_part p byte) (spelled ++ byte ∷ []) _ _ frames room (if_widens (can_end p) _ _ _ _ (λ _. after_widens (number_of spelled) frames room) both_stop)
  step_widens (in_text role content) frames room =
      if_widens (is_plain byte) _ _ _ _ (λ _. both_go refl) (if_widens (byte == 34) _ _ _ _ (λ _. both_go refl) (if_widens (byte == 92) _ _ _ _ (λ _. both_go refl) both_stop))
  step_widens (in_escape role content) frames room =
      if_widens (byte == 117) _ _ _ _ (λ _. both_go refl) (meant_widens role content frames room (escaped byte))
  step_widens (in_unit role content left value) frames room = hex_widens role content left value frames room (hex_value byte)

-- what a step that goes, stops or sinks is with more levels
goes_wider : {n byte : ℕ} {m m' : Move} → Widens n byte m m' → (s : State) → m ≡ goes s → m' ≡ goes (wider n s)
goes_wider {n} (both_go {s} {t} e) u is = let same : s ≡ u = cc is in ap goes (e ∙ ap (wider n) same)
goes_wider both_stop u is = absurd (cc is)
goes_wider (one_sinks which f) u is = absurd (cc is)

stops_wider : {n byte : ℕ} {m m' : Move} → Widens n byte m m' → m ≡ stops → m' ≡ stops
stops_wider (both_go e) is = absurd (cc is)
stops_wider both_stop is = refl
stops_wider (one_sinks which f) is = absurd (cc is)

sinks_at : {n byte : ℕ} {m m' : Move} → Widens n byte m m' → m ≡ sinks → (byte ≡ 91) ⊎ (byte ≡ 123)
sinks_at (both_go e) is = absurd (cc is)
sinks_at both_stop is = absurd (cc is)
sinks_at (one_sinks which f) is = which

sinks_wider : {byte : ℕ} {m m' : Move} → Widens 1 byte m m' → m ≡ sinks → (t : State) × (m' ≡ goes t)
sinks_wider (both_go e) is = absurd (cc is)
sinks_wider both_stop is = absurd (cc is)
sinks_wider (one_sinks which f) is = f 0 refl

pub step_goes : (n : ℕ) (s t : State) (byte : ℕ) → step s byte ≡ goes t → step (wider n s) byte ≡ goes (wider n t)
step_goes n s t byte e = goes_wider (step_widens n byte s.phase s.frames s.room) t e

pub step_stops : (n : ℕ) (s : State) (byte : ℕ) → step s byte ≡ stops → step (wider n s) byte ≡ stops
step_stops n s byte e = stops_wider (step_widens n byte s.phase s.frames s.room) e

pub step_sinks_at : (s : State) (byte : ℕ) → step s byte ≡ sinks → (byte ≡ 91) ⊎ (byte ≡ 123)
step_sinks_at s byte e = sinks_at (step_widens 1 byte s.phase s.frames s.room) e

pub step_sinks : (s : State) (byte : ℕ) → step s byte ≡ sinks → (t : State) × (step (wider 1 s) byte ≡ goes t)
step_sinks s byte e = sinks_wider (step_widens 1 byte s.phase s.frames s.room) e

pub run_wider : (n : ℕ) (bytes : List ℕ) (s : State) (v : Datum) → run s bytes ≡ Some v → run (wider n s) bytes ≡ Some v
run_wider n [] s v e = e
run_wider n (byte ∷ bytes) s v e = by (step s byte) refl e (λ t. run_wider n bytes t v)
  where
    by : (m : Move) → step s byte ≡ m → moved (λ next. run next bytes) m ≡ Some v
        → ((t : State) → run t bytes ≡ Some v → run (wider n t) bytes ≡ Some v) → run (wider n s) (byte ∷ bytes) ≡ Some v
    by (goes t) is e rec = ap (moved (λ (next : State). run next bytes)) (step_goes n s t byte is) ∙ rec t e
    by stops is e rec = absurd (cc e)
    by sinks is e rec = absurd (cc e)

pub after_wider : (n : ℕ) (front : List ℕ) (s t : State) → after s front ≡ Some t → after (wider n s) front ≡ Some (wider n t)
after_wider n [] s t e = let same : s ≡ t = cc e in ap (λ (u : State). Some (wider n u)) same
after_wider n (byte ∷ front) s t e = by (step s byte) refl e (λ u. after_wider n front u t)
  where
    by : (m : Move) → step s byte ≡ m → moved (λ next. after next front) m ≡ Some t
        → ((u : State) → after u front ≡ Some t → after (wider n u) front ≡ Some (wider n t)) → after (wider n s) (byte ∷ front) ≡ Some (wider n t)
    by (goes u) is e rec = ap (moved (λ (next : State). after next front)) (step_goes n s u byte is) ∙ rec u e
    by stops is e rec = absurd (cc e)
    by sinks is e rec = absurd (cc e)
