-- What is left of the writes of a frame.
use Rattle.std.proofs.Common.{◌≡◌, ◌≢◌, ◌⊎◌, ℕ, ◌+◌, ◌<◌, List, [], suc, ◌++◌, ◌∷◌, length, take, drop, get_or, set, false, sym, ◌∙◌, ap, inl, inr, arith, length-append, length-set, get_or-set_same, get_or-set_other}
use Rattle.std.proofs.lemmas.Bool.{cases_lt}
use Rattle.std.proofs.lemmas.Grind.{same_number_lists}
use Rattle.std.proofs.lemmas.List.{set_split, take_at, drop_at, take-append-le, length-take-le}
use Rattle.outside.proofs.Tearing.{keeps_front_torn, keeps_front_take, holds_at_end}
use Rattle.outside.specs.Image.{Torn, Holds, MayCut}
use Rattle.slot_store.proofs.Frames.{closed_by_gate, closed_by_end}
use Rattle.slot_store.specs.Frame.{is_open_at, IsClosedAt, Opens, StaysClosed, Clears}

pub decide_eq : (m n : ℕ) → (m ≡ n) ⊎ (m ≢ n)
decide_eq m n = elim (cases_lt m n) [
  | inl below ↦ inr (omega arith)
  | inr above ↦ elim (cases_lt n m) [ inl over ↦ inr (omega arith) | inr here ↦ inl (omega arith) ]
]

pub closed_when_short : (content : List ℕ) → length content < 17 → is_open_at 0 content ≡ false
closed_when_short content short = closed_by_end 0 content (omega arith)

pub clears_cut : (old new : List ℕ) → MayCut 0 old new → Clears old new
clears_cut old new (inl same) = inl same
clears_cut old new (inr cut) = inr (closed_when_short new (omega (arith, ap length cut)))

-- a gate alone in an empty file
pub torn_gate_alone : (old new : List ℕ) → old ≡ [] → Torn 0 1 old new → is_open_at 0 new ≡ false
torn_gate_alone old new empty torn = closed_when_short new (omega (arith, ap length empty, torn.no_longer))

pub gate_alone : (old new : List ℕ) → old ≡ [] → Holds 0 (0 ∷ []) old new → new ≡ 0 ∷ []
gate_alone old new empty holds = holds_at_end 0 (0 ∷ []) old new (sym (ap length empty)) holds ∙ ap (λ front. front ++ 0 ∷ []) empty

-- a write of one byte
pub torn_one : (place : ℕ) (old new : List ℕ) → place < length old → Torn place 1 old new → new ≡ take place old ++ get_or new place 0 ∷ drop (suc place) old
torn_one place old new within torn =
    let byte = get_or new place 0 in
    let long : length new ≡ length (set old place byte) = omega (arith, torn.no_shorter, torn.no_longer, length-set {A = ℕ}) in
    same_number_lists new (set old place byte) long (λ k small.
    elim (cases_lt k place) [
      | inl early ↦ (let apart : k ≢ place = omega arith in torn.before k early (omega arith) ∙ sym (get_or-set_other old place k byte 0 apart))
      | inr late ↦ elim (cases_lt place k) [
        | inl behind ↦ (let apart : k ≢ place = omega arith in torn.after k (omega arith) (omega (arith, torn.no_longer)) ∙ sym (get_or-set_other old place k byte 0 apart))
        | inr here ↦ (let same : k ≡ place = omega arith in rw same (sym (get_or-set_same old place byte 0 within)))
      ]
    ])
    ∙ set_split old place byte within

-- A body that is torn stands behind a closed gate.
pub stays_closed : (place : ℕ) (body old new : List ℕ) → IsClosedAt place old → Torn (place + 1) (length body) old new → StaysClosed place old new
stays_closed place body old new closed torn = record {
  front = keeps_front_take place old new (omega (arith, closed.ends)) (keeps_front_torn place (place + 1) (length body) old new (omega arith) torn);
  closed = closed_by_gate place new (λ is_gate. let same : get_or new place 0 ≡ get_or old place 0 = torn.before place (omega arith) (omega (arith, closed.ends)) in omega (arith, closed.gate));
}

pub torn_body : (place : ℕ) (body old new : List ℕ) → IsClosedAt place old → Torn (place + 1) (length body) old new → Opens place body old new
torn_body place body old new closed torn =
    let stays = stays_closed place body old new closed torn in
    record { front = stays.front; rest = inl stays.closed }

-- the body behind the closed gate
pub body_behind : (place : ℕ) (body old new : List ℕ) → IsClosedAt place old → Holds (place + 1) body old new → new ≡ old ++ body
body_behind place body old new closed holds = holds_at_end (place + 1) body old new (sym closed.ends) holds

-- a gate that was written before a body that is there
pub gate_written : (place : ℕ) (body old mid new : List ℕ) → IsClosedAt place old → mid ≡ old ++ body → Torn place 1 mid new → new ≡ take place old ++ get_or new place 0 ∷ body
gate_written place body old mid new closed behind torn =
    let long : length mid ≡ place + 1 + length body = omega (arith, ap length behind, length-append old body, closed.ends) in
    torn_one place mid new (omega arith) torn
    ∙ ap (λ content. take place content ++ get_or new place 0 ∷ drop (suc place) content) behind
    ∙ ap (λ front. front ++ get_or new place 0 ∷ drop (suc place) (old ++ body)) (take-append-le place old body (omega (arith, closed.ends)))
    ∙ ap (λ rest. take place old ++ get_or new place 0 ∷ rest) (drop_at old body (suc place) (omega (arith, closed.ends)))

pub torn_gate : (place : ℕ) (body old mid new : List ℕ) → IsClosedAt place old → mid ≡ old ++ body → Torn place 1 mid new → Opens place body old new
torn_gate place body old mid new closed behind torn =
    let written : new ≡ take place old ++ get_or new place 0 ∷ body = gate_written place body old mid new closed behind torn in
    let at : length (take place old) ≡ place = length-take-le place old (omega (arith, closed.ends)) in
    record {
      front = ap (λ content. take place content) written ∙ take_at (take place old) (get_or new place 0 ∷ body) place at;
      rest = elim (decide_eq (get_or new place 0) 165) [
        | inl is_gate ↦ inr (written ∙ ap (λ byte. take place old ++ byte ∷ body) is_gate)
        | inr isnt ↦ inl (closed_by_gate place new isnt)
      ];
    }

pub gate_opened : (place : ℕ) (body old mid new : List ℕ) → IsClosedAt place old → mid ≡ old ++ body → Holds place (165 ∷ []) mid new → new ≡ take place old ++ 165 ∷ body
gate_opened place body old mid new closed behind holds =
    let at : place + 0 ≡ place = omega arith in
    gate_written place body old mid new closed behind holds.outside
    ∙ ap (λ byte. take place old ++ byte ∷ body) (sym (ap (λ k. get_or new k 0) at) ∙ holds.inside 0 (omega arith))
