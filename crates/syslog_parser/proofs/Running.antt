-- Where going over a text stops, and that it is the leftmost fault.
use Rattle.std.proofs.Common.{◌≡◌, ℕ, suc, ◌+◌, ◌-◌, ◌<◌, ◌≤◌, List, [], ◌∷◌, ◌++◌, ◌∙◌, ap, sym, refl, subst, Option, None, Some, Ok, Err, length, take, drop, append_assoc, length-append, arith}
use Rattle.std.proofs.lemmas.List.{append-nil, take_at, take-take, take-append-drop}
use Rattle.syslog_parser.specs.Leftmost.{Begins, IsLeftmostFault}
use Rattle.syslog_parser.specs.Machines.{ended, followed, outcome}

-- ---- one fault at most, whatever is spelled

module _ {V : Type 0} (Spells : List ℕ → V → Type 0) where
  front_begins : (front more : List ℕ) → Begins Spells (front ++ more) → Begins Spells front
  front_begins front more b = record {
    more = more ++ b.more;
    value = b.value;
    goes_on = subst (λ (l : List ℕ). Spells l b.value) (append_assoc front more b.more) b.goes_on;
  }

  shorter : (text : List ℕ) (a b : ℕ) → a ≤ b → Begins Spells (take b text) → Begins Spells (take a text)
  shorter text a b l begun =
      front_begins (take a text) (drop a (take b text))
      (subst (λ (t : List ℕ). Begins Spells t) (sym (ap (λ (t : List ℕ). t ++ drop a (take b text)) (sym (take-take a b text l)) ∙ take-append-drop a (take b text))) begun)

  no_later : (text : List ℕ) (a b : ℕ) → IsLeftmostFault Spells text a → IsLeftmostFault Spells text b → a < b → ⊥
  no_later text a b f g l =
      let inside : a < length text = let w = g.within in omega arith in
      let up : a + 1 ≤ b = omega arith in
      f.stops inside (shorter text (a + 1) b up g.begins)

  pub one_leftmost : (text : List ℕ) (a b : ℕ) → IsLeftmostFault Spells text a → IsLeftmostFault Spells text b → a ≡ b
  one_leftmost text a b f g = let x = no_later text a b f g in let y = no_later text b a g f in grind (arith, x, y)

-- ---- from state to state

module _ {State V : Type 0} (step : State → ℕ → Option State) (value_at : State → Option V) where
  abbrev pub moved : (State → Option State) → Option State → Option State
  moved next None = None
  moved next (Some s) = next s

  -- the state that the bytes lead to
  abbrev pub after : State → List ℕ → Option State
  after s [] = Some s
  after s (byte ∷ bytes) = moved (λ next. after next bytes) (step s byte)

  pub outcome-byte : (s : State) (byte : ℕ) (bytes : List ℕ)
      → outcome step value_at s (byte ∷ bytes) ≡ followed step value_at (λ next. outcome step value_at next bytes) (suc (length bytes)) (step s byte)
  unfolding outcome
  outcome-byte s byte bytes = refl

  pub outcome-nil : (s : State) → outcome step value_at s [] ≡ ended step value_at (value_at s)
  unfolding outcome
  outcome-nil s = refl

  pub outcome_goes : (s t : State) (byte : ℕ) (bytes : List ℕ) → step s byte ≡ Some t → outcome step value_at s (byte ∷ bytes) ≡ outcome step value_at t bytes
  outcome_goes s t byte bytes e =
      outcome-byte s byte bytes ∙ ap (followed step value_at (λ (next : State). outcome step value_at next bytes) (suc (length bytes))) e

  pub outcome_stops : (s : State) (byte : ℕ) (bytes : List ℕ) → step s byte ≡ None → outcome step value_at s (byte ∷ bytes) ≡ Err (suc (length bytes))
  outcome_stops s byte bytes e =
      outcome-byte s byte bytes ∙ ap (followed step value_at (λ (next : State). outcome step value_at next bytes) (suc (length bytes))) e

  pub outcome_unfinished : (s : State) → value_at s ≡ None → outcome step value_at s [] ≡ Err 0
  outcome_unfinished s e = outcome-nil s ∙ ap (ended step value_at) e

  pub outcome_finished : (s : State) (v : V) → value_at s ≡ Some v → outcome step value_at s [] ≡ Ok v
  outcome_finished s v e = outcome-nil s ∙ ap (ended step value_at) e

  outcome_past : (front bytes : List ℕ) (s t : State) → after s front ≡ Some t → outcome step value_at s (front ++ bytes) ≡ outcome step value_at t bytes
  outcome_past [] bytes s t e = let same : s ≡ t = cc e in ap (λ (n : State). outcome step value_at n bytes) same
  outcome_past (byte ∷ front) bytes s t e = outcome-byte s byte (front ++ bytes) ∙ by (step s byte) (λ n. outcome_past front bytes n t) e
    where
      by : (o : Option State) → ((n : State) → after n front ≡ Some t → outcome step value_at n (front ++ bytes) ≡ outcome step value_at t bytes)
          → moved (λ next. after next front) o ≡ Some t
          → followed step value_at (λ next. outcome step value_at next (front ++ bytes)) (suc (length (front ++ bytes))) o ≡ outcome step value_at t bytes
      by None rec e = absurd (cc e)
      by (Some n) rec e = rec n e

  abbrev Halted : State → List ℕ → Type 0
  Halted t [] = value_at t ≡ None
  Halted t (byte ∷ bytes) = step t byte ≡ None

  halted_none : (t : State) (rest : List ℕ) (v : V) → Halted t rest → outcome step value_at t rest ≡ Ok v → ⊥
  halted_none t [] v h e = let stuck = outcome_unfinished t h in cc (stuck, e)
  halted_none t (byte ∷ rest) v h e = let stuck = outcome_stops t byte rest h in cc (stuck, e)

  -- the state in front of the byte at which the outcome is known
  record Ends (s : State) (bytes : List ℕ) (left : ℕ) : Type 0 where
    front : List ℕ
    rest : List ℕ
    t : State
    is : bytes ≡ front ++ rest
    left_is : left ≡ length rest
    reaches : after s front ≡ Some t
    halted : Halted t rest

  one_on : (s t : State) (byte : ℕ) (bytes : List ℕ) (left : ℕ) → step s byte ≡ Some t → Ends t bytes left → Ends s (byte ∷ bytes) left
  one_on s t byte bytes left is e = record {
    front = byte ∷ e.front;
    rest = e.rest;
    t = e.t;
    is = ap (λ (l : List ℕ). byte ∷ l) e.is;
    left_is = e.left_is;
    reaches = ap (moved (λ (next : State). after next e.front)) is ∙ e.reaches;
    halted = e.halted;
  }

  ends_here : (s : State) (bytes : List ℕ) (left : ℕ) → left ≡ length bytes → Halted s bytes → Ends s bytes left
  ends_here s bytes left l h = record { front = []; rest = bytes; t = s; is = refl; left_is = l; reaches = refl; halted = h }

  stops_where : (bytes : List ℕ) (s : State) (left : ℕ) → outcome step value_at s bytes ≡ Err left → Ends s bytes left
  stops_where [] s left e = by (value_at s) refl (sym (outcome-nil s) ∙ e)
    where
      by : (o : Option V) → value_at s ≡ o → ended step value_at o ≡ Err left → Ends s [] left
      by None is e = let same : left ≡ 0 = cc e in ends_here s [] left same is
      by (Some v) is e = absurd (cc e)
  stops_where (byte ∷ bytes) s left e = by (step s byte) refl (sym (outcome-byte s byte bytes) ∙ e) (λ t. stops_where bytes t left)
    where
      by : (o : Option State) → step s byte ≡ o → followed step value_at (λ next. outcome step value_at next bytes) (suc (length bytes)) o ≡ Err left
          → ((t : State) → outcome step value_at t bytes ≡ Err left → Ends t bytes left) → Ends s (byte ∷ bytes) left
      by None is e rec = let same : left ≡ suc (length bytes) = cc e in ends_here s (byte ∷ bytes) left same is
      by (Some t) is e rec = one_on s t byte bytes left is (rec t e)

  pub left_within : (bytes : List ℕ) (s : State) (left : ℕ) → outcome step value_at s bytes ≡ Err left → left ≤ length bytes
  left_within bytes s left e =
      let n = stops_where bytes s left e in
      let len : length bytes ≡ length n.front + length n.rest = ap length n.is ∙ length-append n.front n.rest in
      let same = n.left_is in
      omega arith

  -- ---- the leftmost fault

  front_taken : (front rest : List ℕ) → take (length front) (front ++ rest) ≡ front
  front_taken front rest = take_at front rest (length front) refl

  one_more_taken : (front rest : List ℕ) (byte : ℕ) → take (length front + 1) (front ++ byte ∷ rest) ≡ front ++ byte ∷ []
  one_more_taken front rest byte =
      let len : length (front ++ byte ∷ []) ≡ length front + 1 = length-append front (byte ∷ []) in
      ap (take (length front + 1)) (sym (append_assoc front (byte ∷ []) rest)) ∙ take_at (front ++ byte ∷ []) rest (length front + 1) len

  -- what stands behind a head is a tail, which the machine goes over from its start
  pub record GoesOver {M : Type 0} (IsMessage : List ℕ → M → Type 0) (head : List ℕ) (start : State) : Type 0 where
    pub sound : (text : List ℕ) (v : V) → outcome step value_at start text ≡ Ok v → (m : M) × IsMessage (head ++ text) m
    pub complete : (text : List ℕ) (m : M) → IsMessage (head ++ text) m → (v : V) × (outcome step value_at start text ≡ Ok v)
    pub viable : (t : State) → (more : List ℕ) × (v : V) × (outcome step value_at t more ≡ Ok v)

  module _ {M : Type 0} (IsMessage : List ℕ → M → Type 0) (head : List ℕ) (start : State) (over : GoesOver IsMessage head start) where
    module _ (front rest : List ℕ) (t : State) (reaches : after start front ≡ Some t) where
      no_message : Halted t rest → (m : M) → IsMessage (head ++ (front ++ rest)) m → ⊥
      no_message h m is =
          let read = over.complete (front ++ rest) m is in
          halted_none t rest read.0 h (sym (outcome_past front rest start t reaches) ∙ read.1)

      begins_here : Begins IsMessage (head ++ front)
      begins_here =
          let on = over.viable t in
          let found = over.sound (front ++ on.0) on.1 (outcome_past front on.0 start t reaches ∙ on.2) in
          record { more = on.0; value = found.0; goes_on = subst (λ (l : List ℕ). IsMessage l found.0) (sym (append_assoc head front on.0)) found.1 }

    stuck_at : (front : List ℕ) (t : State) (byte : ℕ) → after start front ≡ Some t → step t byte ≡ None → Begins IsMessage ((head ++ front) ++ byte ∷ []) → ⊥
    stuck_at front t byte reaches stuck begun =
        let same : ((head ++ front) ++ byte ∷ []) ++ begun.more ≡ head ++ (front ++ byte ∷ begun.more) = append_assoc (head ++ front) (byte ∷ []) begun.more ∙ append_assoc head front (byte ∷ begun.more) in
        no_message front (byte ∷ begun.more) t reaches stuck begun.value (subst (λ (l : List ℕ). IsMessage l begun.value) same begun.goes_on)

    leftmost_behind : (front rest : List ℕ) (t : State) → after start front ≡ Some t → Halted t rest → IsLeftmostFault IsMessage ((head ++ front) ++ rest) (length (head ++ front))
    leftmost_behind front rest t reaches h = record {
      within = let len : length ((head ++ front) ++ rest) ≡ length (head ++ front) + length rest = length-append (head ++ front) rest in omega arith;
      begins = subst (λ (l : List ℕ). Begins IsMessage l) (sym (front_taken (head ++ front) rest)) (begins_here front rest t reaches);
      stops = by rest h;
      none = λ m is. no_message front rest t reaches h m (subst (λ (l : List ℕ). IsMessage l m) (append_assoc head front rest) is);
    }
      where
        by : (rest : List ℕ) → Halted t rest → length (head ++ front) < length ((head ++ front) ++ rest) → Begins IsMessage (take (length (head ++ front) + 1) ((head ++ front) ++ rest)) → ⊥
        by [] h l b = let len : length ((head ++ front) ++ []) ≡ length (head ++ front) = ap length (append-nil (head ++ front)) in omega arith
        by (byte ∷ rest) h l b =
            stuck_at front t byte reaches h (subst (λ (l : List ℕ). Begins IsMessage l) (one_more_taken (head ++ front) rest byte) b)

    pub leftmost : (text : List ℕ) (left : ℕ) → outcome step value_at start text ≡ Err left → IsLeftmostFault IsMessage (head ++ text) (length (head ++ text) - left)
    leftmost text left e =
        let n = stops_where text start left e in
        let whole : head ++ text ≡ (head ++ n.front) ++ n.rest = ap (λ (l : List ℕ). head ++ l) n.is ∙ sym (append_assoc head n.front n.rest) in
        let len : length (head ++ text) ≡ length (head ++ n.front) + length n.rest = ap length whole ∙ length-append (head ++ n.front) n.rest in
        let same = n.left_is in
        let place : length (head ++ n.front) ≡ length (head ++ text) - left = omega arith in
        subst (λ (a : ℕ). IsLeftmostFault IsMessage (head ++ text) a) place
        (subst (λ (l : List ℕ). IsLeftmostFault IsMessage l (length (head ++ n.front))) (sym whole) (leftmost_behind n.front n.rest n.t n.reaches n.halted))
