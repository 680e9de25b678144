-- What is read whole, with nothing behind it.
use Rattle.std.proofs.Common.{◌≡◌, ℕ, ◌-◌, ◌<◌, ◌≤◌, Bool, true, false, cond, ltb, List, [], ◌++◌, length, take, drop, Result, Ok, Err, refl, sym, ap, ◌∙◌, arith, inl, length-append}
use Rattle.std.proofs.lemmas.Bool.{ltb-false}
use Rattle.std.proofs.lemmas.List.{append-nil, nil_from_length, take-append-drop, length-take}
use Rattle.state_codec.specs.Reading.{Reading, ◌>>=◌}
use Rattle.state_codec.proofs.Numbers.{IsBytes, bind_ok, ok_is, guard_ok}
use Rattle.state_codec.proofs.Fair.{Local, Blame}
use Rattle.checkpoint_store.specs.DeadEnds.{IsPart, IsDeadEnd}
use Rattle.checkpoint_store.proofs.Formats.{IsFormat, fair_format}

abbrev pub whole : {Y V : Type 0} → (Y → V) → Reading Y → Result V ℕ
whole view r = r >>= λ x. cond (ltb 0 (length x.1)) (Err (length x.1)) (Ok (view x.0))

-- what is spelled by a format, and nothing else
pub record SpelledAlone {Y : Type 0} (spelling : Y → List ℕ) (Keeps : Y → Type 0) (bytes : List ℕ) : Type 0 where
  pub value : Y
  pub lawful : Keeps value
  pub spelled : bytes ≡ spelling value

pub spelled_again : {Y : Type 0} {spelling : Y → List ℕ} {Keeps : Y → Type 0} {reading : List ℕ → Reading Y} → IsFormat spelling Keeps reading
    → (bytes : List ℕ) (y : Y) → Keeps y → bytes ≡ spelling y → reading bytes ≡ Ok (y, [])
spelled_again {spelling = spelling} {reading = reading} format bytes y keeps is = ap reading (is ∙ sym (append-nil (spelling y))) ∙ format.again y [] keeps

pub whole_ok : {Y V : Type 0} (view : Y → V) (r : Reading Y) (v : V) → whole view r ≡ Ok v → (y : Y) × ((r ≡ Ok (y, [])) × (view y ≡ v))
whole_ok {Y = Y} view r v e =
    let read = bind_ok r (λ x. cond (ltb 0 (length x.1)) (Err (length x.1)) (Ok (view x.0))) v e in
    let last = guard_ok (ltb 0 (length read.0.1)) (length read.0.1) (view read.0.0) v read.2 in
    let none : length read.0.1 ≤ 0 = ltb-false 0 (length read.0.1) last.0 in
    (read.0.0, (read.1 ∙ ap (λ (l : List ℕ). Ok (read.0.0, l)) (nil_from_length read.0.1 (omega (arith, none))), last.1))

pub whole_again : {Y V : Type 0} (view : Y → V) (r : Reading Y) (y : Y) → r ≡ Ok (y, []) → whole view r ≡ Ok (view y)
whole_again view r y e = rw e refl

pub whole_is : {Y V : Type 0} (view : Y → V) (r : Reading Y) (x : Y × List ℕ) → r ≡ Ok x → whole view r ≡ cond (ltb 0 (length x.1)) (Err (length x.1)) (Ok (view x.0))
whole_is view r x e = rw e refl

pub whole_fails : {Y V : Type 0} (view : Y → V) (r : Reading Y) (l : ℕ) → r ≡ Err l → whole view r ≡ Err l
whole_fails view r l e = rw e refl

pub guard_err : {A : Type 0} (b : Bool) (l left : ℕ) (x : A) → cond b (Err l) (Ok x) ≡ Err left → (b ≡ true) × (l ≡ left)
guard_err true l left x e = (refl, cc)
guard_err false l left x e = absurd cc

abbrev refused : {A : Type 0} → ℕ → Result A ℕ
refused left = Err left

pub fault_is : {A : Type 0} (a b : ℕ) → refused {A = A} a ≡ Err b → a ≡ b
fault_is a b e = cc

-- a dead end of more spellings is one of fewer
pub dead_for_fewer : (More Fewer : List ℕ → Type 0) (bytes : List ℕ) (fault : ℕ) → ((spelled : List ℕ) → Fewer spelled → More spelled) → IsDeadEnd More bytes fault → IsDeadEnd Fewer bytes fault
dead_for_fewer More Fewer bytes fault fewer end = record {
  before = end.before;
  part = end.part;
  after = end.after;
  parts = end.parts;
  place = end.place;
  whole = end.whole;
  none = λ more h. end.none more (fewer (end.before ++ (end.part ++ more)) h);
}

left_over : {Y : Type 0} {spelling : Y → List ℕ} {Keeps : Y → Type 0} {reading : List ℕ → Reading Y} → IsFormat spelling Keeps reading → (bytes : List ℕ) (fault : ℕ) (x : Y × List ℕ)
    → fault ≡ length bytes - length x.1 → fault < length bytes → Local reading bytes x → IsDeadEnd (SpelledAlone spelling Keeps) bytes fault
left_over {Y = Y} format bytes fault x is inside one =
    let part : List ℕ = take 1 x.1 in
    let size : length part ≡ 1 = omega (arith, length-take 1 x.1, is, inside) in
    record {
      before = one.front;
      part = part;
      after = drop 1 x.1;
      parts = one.parts ∙ ap (λ (l : List ℕ). one.front ++ l) (sym (take-append-drop 1 x.1));
      place = omega (arith, is, inside, ap (λ (l : List ℕ). length l) one.parts, length-append one.front x.1);
      whole = inl size;
      none = λ more h.
          (let both = ok_is (x.0, part ++ more) (h.value, []) (sym (one.again (part ++ more)) ∙ spelled_again format (one.front ++ (part ++ more)) h.value h.lawful h.spelled) in
          let nothing : length (part ++ more) ≡ 0 = ap (λ (p : Y × List ℕ). length p.1) both in
          omega (arith, nothing, length-append part more, size));
    }

blamed : {Y : Type 0} {spelling : Y → List ℕ} {Keeps : Y → Type 0} {reading : List ℕ → Reading Y} → IsFormat spelling Keeps reading → (bytes : List ℕ) (left fault : ℕ)
    → fault ≡ length bytes - left → fault < length bytes → Blame IsPart reading bytes left → IsDeadEnd (SpelledAlone spelling Keeps) bytes fault
blamed format bytes left fault is inside b = record {
  before = b.before;
  part = b.unit;
  after = b.after;
  parts = b.parts;
  place = omega (arith, is, inside, b.left_is, ap (λ (l : List ℕ). length l) b.parts, length-append b.before (b.unit ++ b.after));
  whole = b.whole;
  none = λ more h. b.stops more (h.value, []) (spelled_again format (b.before ++ (b.unit ++ more)) h.value h.lawful h.spelled);
}

pub dead_end : {Y V : Type 0} {spelling : Y → List ℕ} {Keeps : Y → Type 0} {reading : List ℕ → Reading Y} → IsFormat spelling Keeps reading → (view : Y → V) (bytes : List ℕ) (left fault : ℕ)
    → IsBytes bytes → whole view (reading bytes) ≡ Err left → fault ≡ length bytes - left → fault < length bytes → IsDeadEnd (SpelledAlone spelling Keeps) bytes fault
dead_end {Y = Y} {V = V} {spelling = spelling} {Keeps = Keeps} {reading = reading} format view bytes left fault fits fails is inside = by_case (reading bytes) refl
  where
    by_case : (s : Reading Y) → reading bytes ≡ s → IsDeadEnd (SpelledAlone spelling Keeps) bytes fault
    by_case (Ok x) read =
        let over = guard_err (ltb 0 (length x.1)) (length x.1) left (view x.0) (sym (whole_is view (reading bytes) x read) ∙ fails) in
        left_over format bytes fault x (omega (arith, is, over.1)) inside ((fair_format format).reads bytes x fits read)
    by_case (Err l) read =
        let same : l ≡ left = fault_is {A = V} l left (sym (whole_fails view (reading bytes) l read) ∙ fails) in
        blamed format bytes left fault is inside (format.blames bytes left fits (read ∙ ap (λ (k : ℕ). Err k) same) (omega (arith, is, inside)))
