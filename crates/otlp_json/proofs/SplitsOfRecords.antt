-- Two texts that begin with a record's tell the record.
use Rattle.std.proofs.Common.{◌≡◌, ℕ, ◌<◌, ◌^◌, ◌==◌, ◌||◌, Bool, true, false, List, [], ◌∷◌, ◌++◌, ◌∙◌, ◌⊎◌, inl, inr, Option, None, Some, refl, sym, ap, arith, codes, decimal, get_or, drop}
use Rattle.std.proofs.lemmas.Bool.{cases_eq, ne_eqb}
use Rattle.std.proofs.lemmas.List.{append_assoc, append_cancel_left}
use Rattle.std.specs.Prelude.{if◌then◌else◌}
use Rattle.entry_model.specs.Datum.{Datum, null, boolean, int, text, list, fields, Members}
use Rattle.entry_model.specs.LogRecord.{LogRecord}
use Rattle.otlp_json.specs.Escaped.{escaped}
use Rattle.otlp_json.specs.IsOf64Bits.{HasIntegers, MembersHaveIntegers, IsTime, IsOf64Bits}
use Rattle.otlp_json.specs.RecordText.{attributes_text, body_text, severity_number_text, severity_name_text, observed_text, time_text, record_text}
use Rattle.otlp_json.specs.ValueText.{value_text, members_text}
use Rattle.otlp_json.proofs.Splits.{opened, GoesOn, goes_on, number_splits}
use Rattle.otlp_json.proofs.SplitsOfStrings.{string_splits}
use Rattle.otlp_json.proofs.SplitsOfValues.{value_splits, members_splits, member_opens}

-- a byte that tells which member of a record comes next
abbrev mark : List ℕ → ℕ
mark bytes = (if get_or bytes 0 0 == 125 then 0 else (if get_or bytes 2 0 == 115 then get_or bytes 10 0 else get_or bytes 2 0))

-- what stands from the time on, from the severity's name on, from its number on and from the observed time on
abbrev from_time : Option ℕ → List ℕ → List ℕ
from_time time x = time_text time ++ 125 ∷ x

abbrev from_name : List ℕ → Option ℕ → List ℕ → List ℕ
from_name name time x = severity_name_text name ++ from_time time x

abbrev from_number : ℕ → List ℕ → Option ℕ → List ℕ → List ℕ
from_number number name time x = severity_number_text number ++ from_name name time x

abbrev from_observed : Option ℕ → ℕ → List ℕ → Option ℕ → List ℕ → List ℕ
from_observed observed number name time x = observed_text observed ++ from_number number name time x

abbrev in_time : ℕ → Bool
in_time byte = (byte == 0) || (byte == 116)

abbrev in_name : ℕ → Bool
in_name byte = (byte == 84) || in_time byte

abbrev in_number : ℕ → Bool
in_number byte = (byte == 78) || in_name byte

abbrev in_observed : ℕ → Bool
in_observed byte = (byte == 111) || in_number byte

false_is_true : false ≡ true → ⊥
false_is_true e = cc

or_right : (a b : Bool) → b ≡ true → (a || b) ≡ true
or_right true b e = refl
or_right false b e = e

time_marked : (time : Option ℕ) (x : List ℕ) → in_time (mark (from_time time x)) ≡ true
time_marked None x = refl
time_marked (Some n) x = refl

name_marked : (name : List ℕ) (time : Option ℕ) (x : List ℕ) → in_name (mark (from_name name time x)) ≡ true
name_marked [] time x = or_right (mark (from_time time x) == 84) (in_time (mark (from_time time x))) (time_marked time x)
name_marked (first ∷ rest) time x = refl

no_number : severity_number_text 0 ≡ []
no_number = refl

some_number : (number : ℕ) → (number ≡ 0 → ⊥) → severity_number_text number ≡ codes ",\"severityNumber\":" ++ decimal number
some_number number some = rw (ne_eqb number 0 some) refl

number_marked : (number : ℕ) (name : List ℕ) (time : Option ℕ) (x : List ℕ) → in_number (mark (from_number number name time x)) ≡ true
number_marked number name time x = go (cases_eq number 0)
  where
    go : (number ≡ 0) ⊎ (number ≡ 0 → ⊥) → in_number (mark (from_number number name time x)) ≡ true
    go (inl none) = rw none (or_right (mark (from_name name time x) == 78) (in_name (mark (from_name name time x))) (name_marked name time x))
    go (inr some) = rw (some_number number some) refl

observed_marked : (observed : Option ℕ) (number : ℕ) (name : List ℕ) (time : Option ℕ) (x : List ℕ) → in_observed (mark (from_observed observed number name time x)) ≡ true
observed_marked None number name time x =
    or_right (mark (from_number number name time x) == 111) (in_number (mark (from_number number name time x))) (number_marked number name time x)
observed_marked (Some n) number name time x = refl

name_goes_on : (name : List ℕ) (time : Option ℕ) (x : List ℕ) → GoesOn (from_name name time x)
name_goes_on [] None x = goes_on 125 x refl
name_goes_on [] (Some n) x = goes_on 44 _ refl
name_goes_on (first ∷ rest) time x = goes_on 44 _ refl

time_splits : (s t : Option ℕ) (x y : List ℕ) → IsTime s → IsTime t → from_time s x ≡ from_time t y → (s ≡ t) × (x ≡ y)
time_splits None None x y p q e = (refl, ap (drop 1) e)
time_splits None (Some n) x y p q e = let clash : 125 ≡ 44 = ap (λ l. get_or l 0 0) e in absurd (omega (arith, clash))
time_splits (Some n) None x y p q e = let clash : 44 ≡ 125 = ap (λ l. get_or l 0 0) e in absurd (omega (arith, clash))
time_splits (Some m) (Some n) x y p q e =
    let inner = opened (codes ",\"timeUnixNano\":\"") (decimal m) (decimal n) (codes "\"") (125 ∷ x) (125 ∷ y) e in
    let same = number_splits m n (34 ∷ 125 ∷ x) (34 ∷ 125 ∷ y) p q (goes_on 34 (125 ∷ x) refl) (goes_on 34 (125 ∷ y) refl) inner in
    (ap Some same.0, ap (drop 2) same.1)

name_splits : (a b : List ℕ) (s t : Option ℕ) (x y : List ℕ) → from_name a s x ≡ from_name b t y → (a ≡ b) × (from_time s x ≡ from_time t y)
name_splits [] [] s t x y e = (refl, e)
name_splits [] (b ∷ bs) s t x y e =
    let marked : in_time 84 ≡ true = sym (ap (λ l. in_time (mark l)) e) ∙ time_marked s x in cc
name_splits (a ∷ more) [] s t x y e =
    let marked : in_time 84 ≡ true = ap (λ l. in_time (mark l)) e ∙ time_marked t y in cc
name_splits (a ∷ more) (b ∷ bs) s t x y e =
    let inner = opened (codes ",\"severityText\":\"") (escaped (a ∷ more)) (escaped (b ∷ bs)) (codes "\"") (from_time s x) (from_time t y) e in
    string_splits (a ∷ more) (b ∷ bs) (from_time s x) (from_time t y) inner

severity_splits : (m n : ℕ) (a b : List ℕ) (s t : Option ℕ) (x y : List ℕ) → m < 2 ^ 64 → n < 2 ^ 64
    → from_number m a s x ≡ from_number n b t y → (m ≡ n) × (from_name a s x ≡ from_name b t y)
severity_splits m n a b s t x y p q e = go (cases_eq m 0) (cases_eq n 0)
  where
    go : (m ≡ 0) ⊎ (m ≡ 0 → ⊥) → (n ≡ 0) ⊎ (n ≡ 0 → ⊥) → (m ≡ n) × (from_name a s x ≡ from_name b t y)
    go (inl none) (inl gone) =
        (none ∙ sym gone, ap (λ k. severity_number_text k ++ from_name a s x) (sym none) ∙ e ∙ ap (λ k. severity_number_text k ++ from_name b t y) gone)
    go (inl none) (inr some) =
        let here : from_name a s x ≡ codes ",\"severityNumber\":" ++ decimal n ++ from_name b t y =
        ap (λ k. severity_number_text k ++ from_name a s x) (sym none) ∙ e ∙ ap (λ bytes. bytes ++ from_name b t y) (some_number n some) in
        let marked : in_name 78 ≡ true = sym (ap (λ l. in_name (mark l)) here) ∙ name_marked a s x in
        absurd (false_is_true marked)
    go (inr some) (inl gone) =
        let here : codes ",\"severityNumber\":" ++ decimal m ++ from_name a s x ≡ from_name b t y =
        ap (λ bytes. bytes ++ from_name a s x) (sym (some_number m some)) ∙ e ∙ ap (λ k. severity_number_text k ++ from_name b t y) gone in
        let marked : in_name 78 ≡ true = ap (λ l. in_name (mark l)) here ∙ name_marked b t y in
        absurd (false_is_true marked)
    go (inr some) (inr other) =
        let whole : codes ",\"severityNumber\":" ++ decimal m ++ from_name a s x ≡ codes ",\"severityNumber\":" ++ decimal n ++ from_name b t y =
        ap (λ bytes. bytes ++ from_name a s x) (sym (some_number m some)) ∙ e ∙ ap (λ bytes. bytes ++ from_name b t y) (some_number n other) in
        let inner = append_cancel_left (codes ",\"severityNumber\":") (decimal m ++ from_name a s x) (decimal n ++ from_name b t y) whole in
        number_splits m n (from_name a s x) (from_name b t y) p q (name_goes_on a s x) (name_goes_on b t y) inner

-- neither rest of the record begins with an observed time
observed_splits : (s t : Option ℕ) (x y : List ℕ) → IsTime s → IsTime t → in_number (mark x) ≡ true → in_number (mark y) ≡ true
    → observed_text s ++ x ≡ observed_text t ++ y → (s ≡ t) × (x ≡ y)
observed_splits None None x y p q g h e = (refl, e)
observed_splits None (Some n) x y p q g h e =
    let marked : in_number 111 ≡ true = sym (ap (λ l. in_number (mark l)) e) ∙ g in absurd (false_is_true marked)
observed_splits (Some n) None x y p q g h e =
    let marked : in_number 111 ≡ true = ap (λ l. in_number (mark l)) e ∙ h in absurd (false_is_true marked)
observed_splits (Some m) (Some n) x y p q g h e =
    let inner = opened (codes ",\"observedTimeUnixNano\":\"") (decimal m) (decimal n) (codes "\"") x y e in
    let same = number_splits m n (34 ∷ x) (34 ∷ y) p q (goes_on 34 x refl) (goes_on 34 y refl) inner in
    (ap Some same.0, ap (drop 1) same.1)

body_told : (body : Datum) → (body ≡ null) ⊎ (body_text body ≡ codes ",\"body\":" ++ value_text body)
body_told null = inl refl
body_told (boolean b) = inr refl
body_told (int z) = inr refl
body_told (text bytes) = inr refl
body_told (list items) = inr refl
body_told (fields pairs) = inr refl

-- neither rest of the record begins with a body
body_splits : (a b : Datum) (x y : List ℕ) → HasIntegers a → HasIntegers b → in_observed (mark x) ≡ true → in_observed (mark y) ≡ true
    → body_text a ++ x ≡ body_text b ++ y → (a ≡ b) × (x ≡ y)
body_splits a b x y p q g h e = go (body_told a) (body_told b)
  where
    go : (a ≡ null) ⊎ (body_text a ≡ codes ",\"body\":" ++ value_text a) → (b ≡ null) ⊎ (body_text b ≡ codes ",\"body\":" ++ value_text b) → (a ≡ b) × (x ≡ y)
    go (inl none) (inl gone) = (none ∙ sym gone, ap (λ d. body_text d ++ x) (sym none) ∙ e ∙ ap (λ d. body_text d ++ y) gone)
    go (inl none) (inr some) =
        let here : x ≡ codes ",\"body\":" ++ value_text b ++ y = ap (λ d. body_text d ++ x) (sym none) ∙ e ∙ ap (λ bytes. bytes ++ y) some in
        let marked : in_observed 98 ≡ true = sym (ap (λ l. in_observed (mark l)) here) ∙ g in
        absurd (false_is_true marked)
    go (inr some) (inl gone) =
        let here : codes ",\"body\":" ++ value_text a ++ x ≡ y = ap (λ bytes. bytes ++ x) (sym some) ∙ e ∙ ap (λ d. body_text d ++ y) gone in
        let marked : in_observed 98 ≡ true = ap (λ l. in_observed (mark l)) here ∙ h in
        absurd (false_is_true marked)
    go (inr some) (inr other) =
        let whole : codes ",\"body\":" ++ value_text a ++ x ≡ codes ",\"body\":" ++ value_text b ++ y = ap (λ bytes. bytes ++ x) (sym some) ∙ e ∙ ap (λ bytes. bytes ++ y) other in
        value_splits a b x y p q (append_cancel_left (codes ",\"body\":") (value_text a ++ x) (value_text b ++ y) whole)

pub attributes_splits : (a b : Members) (x y : List ℕ) → MembersHaveIntegers a → MembersHaveIntegers b → attributes_text a ++ x ≡ attributes_text b ++ y → (a ≡ b) × (x ≡ y)
attributes_splits a b x y p q e = members_splits [] member_opens a b x y p q (opened (codes "[") (members_text [] a) (members_text [] b) (codes "]") x y e)

record_regroup : (observed : Option ℕ) (entry : LogRecord) (x : List ℕ) → record_text observed entry ++ x
    ≡ codes "{\"attributes\":" ++ (attributes_text entry.attributes ++ (body_text entry.body ++ from_observed observed entry.severity entry.severity_text entry.timestamp x))
unfolding record_text
record_regroup observed entry x = simp append_assoc

pub record SameRecords (s t : Option ℕ) (a b : LogRecord) (x y : List ℕ) : Type 0 where
  pub observed : s ≡ t
  pub attributes : a.attributes ≡ b.attributes
  pub body : a.body ≡ b.body
  pub severity : a.severity ≡ b.severity
  pub severity_text : a.severity_text ≡ b.severity_text
  pub timestamp : a.timestamp ≡ b.timestamp
  pub rest : x ≡ y

pub record_splits : (s t : Option ℕ) (a b : LogRecord) (x y : List ℕ) → IsTime s → IsTime t → IsOf64Bits a → IsOf64Bits b
    → record_text s a ++ x ≡ record_text t b ++ y → SameRecords s t a b x y
record_splits s t a b x y g h p q e =
    let my_number = from_number a.severity a.severity_text a.timestamp x in
    let your_number = from_number b.severity b.severity_text b.timestamp y in
    let my_observed = observed_text s ++ my_number in
    let your_observed = observed_text t ++ your_number in
    let inner = append_cancel_left (codes "{\"attributes\":") (attributes_text a.attributes ++ (body_text a.body ++ my_observed)) (attributes_text b.attributes ++ (body_text b.body ++ your_observed))
    (sym (record_regroup s a x) ∙ e ∙ record_regroup t b y) in
    let attributes = attributes_splits a.attributes b.attributes (body_text a.body ++ my_observed) (body_text b.body ++ your_observed) p.attributes q.attributes inner in
    let body = body_splits a.body b.body my_observed your_observed p.body q.body (observed_marked s a.severity a.severity_text a.timestamp x) (observed_marked t b.severity b.severity_text b.timestamp y) attributes.1 in
    let observed = observed_splits s t my_number your_number g h (number_marked a.severity a.severity_text a.timestamp x) (number_marked b.severity b.severity_text b.timestamp y) body.1 in
    let severity = severity_splits a.severity b.severity a.severity_text b.severity_text a.timestamp b.timestamp x y p.severity q.severity observed.1 in
    let name = name_splits a.severity_text b.severity_text a.timestamp b.timestamp x y severity.1 in
    let time = time_splits a.timestamp b.timestamp x y p.timestamp q.timestamp name.1 in
    record { observed = observed.0; attributes = attributes.0; body = body.0; severity = severity.0; severity_text = name.0; timestamp = time.0; rest = time.1 }
