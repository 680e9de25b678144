-- Values as lists of numbers, which give the values back, whatever stands behind them.
use Rattle.std.specs.Prelude.{◌≡◌, ◌⊎◌, ℕ, zero, suc, ℤ, pos, negsuc, Bool, true, false, List, [], ◌∷◌, length, Option, None, Some, refl}
use mathlib.Core.Logic.{inl, inr}
use mathlib.Core.Path.{ap, ◌∙◌}
use Rattle.entry_model.specs.Code as model
use Rattle.entry_model.specs.Datum.{Datum, Members}
use Rattle.entry_model.specs.LogRecord.{LogRecord}
use Rattle.op_kinds.specs.Kept.{Kept, cases, of_cases, cases_back}
use Rattle.recombine.specs.Group.{Group}

pub record Flat (A : Type 0) : Type 0 where
  -- in front of others
  pub put : A → List ℕ → List ℕ
  pub get : List ℕ → A × List ℕ
  pub back : (x : A) (rest : List ℕ) → get (put x rest) ≡ (x, rest)

abbrev first_number : List ℕ → ℕ × List ℕ
first_number [] = (0, [])
first_number (n ∷ rest) = (n, rest)

abbrev pub flat_ℕ : Flat ℕ
flat_ℕ = record { put = λ n rest. n ∷ rest; get = first_number; back = λ _ _. refl }

abbrev pub flat_unit : Flat (Unit {0})
flat_unit = record { put = λ _ rest. rest; get = λ rest. (tt, rest); back = λ _ _. refl }

module _ {A B : Type 0} (a : Flat A) (b : Flat B) where
  abbrev put_both : A × B → List ℕ → List ℕ
  put_both p rest = a.put p.0 (b.put p.1 rest)

  abbrev get_second : A × List ℕ → (A × B) × List ℕ
  get_second first = let second = b.get first.1 in ((first.0, second.0), second.1)

  abbrev get_both : List ℕ → (A × B) × List ℕ
  get_both bytes = get_second (a.get bytes)

  pub both_back : (p : A × B) (rest : List ℕ) → get_both (put_both p rest) ≡ (p, rest)
  both_back p rest = ap get_second (a.back p.0 (b.put p.1 rest)) ∙ ap (λ (q : B × List ℕ). ((p.0, q.0), q.1)) (b.back p.1 rest)

  abbrev pub flat× : Flat (A × B)
  flat× = record { put = put_both; get = get_both; back = both_back }

  abbrev put_either : A ⊎ B → List ℕ → List ℕ
  put_either (inl x) rest = 0 ∷ a.put x rest
  put_either (inr y) rest = 1 ∷ b.put y rest

  abbrev as_left : A × List ℕ → (A ⊎ B) × List ℕ
  as_left p = (inl p.0, p.1)

  abbrev as_right : B × List ℕ → (A ⊎ B) × List ℕ
  as_right p = (inr p.0, p.1)

  abbrev get_tagged : ℕ → List ℕ → (A ⊎ B) × List ℕ
  get_tagged zero rest = as_left (a.get rest)
  get_tagged (suc n) rest = as_right (b.get rest)

  abbrev get_either : List ℕ → (A ⊎ B) × List ℕ
  get_either [] = as_left (a.get [])
  get_either (n ∷ rest) = get_tagged n rest

  pub either_back : (x : A ⊎ B) (rest : List ℕ) → get_either (put_either x rest) ≡ (x, rest)
  either_back (inl x) rest = ap as_left (a.back x rest)
  either_back (inr y) rest = ap as_right (b.back y rest)

  abbrev pub flat⊎ : Flat (A ⊎ B)
  flat⊎ = record { put = put_either; get = get_either; back = either_back }

module _ {A : Type 0} (a : Flat A) where
  abbrev put_each : List A → List ℕ → List ℕ
  put_each [] rest = rest
  put_each (x ∷ xs) rest = a.put x (put_each xs rest)

  abbrev put_list : List A → List ℕ → List ℕ
  put_list xs rest = length xs ∷ put_each xs rest

  abbrev in_front : A → List A × List ℕ → List A × List ℕ
  in_front x others = (x ∷ others.0, others.1)

  abbrev get_each : ℕ → List ℕ → List A × List ℕ
  get_each zero rest = ([], rest)
  get_each (suc n) rest = in_front (a.get rest).0 (get_each n (a.get rest).1)

  abbrev get_list : List ℕ → List A × List ℕ
  get_list [] = ([], [])
  get_list (n ∷ rest) = get_each n rest

  pub each_back : (xs : List A) (rest : List ℕ) → get_each (length xs) (put_each xs rest) ≡ (xs, rest)
  each_back [] rest = refl
  each_back (x ∷ xs) rest =
      ap (λ (p : A × List ℕ). in_front p.0 (get_each (length xs) p.1)) (a.back x (put_each xs rest)) ∙ ap (in_front x) (each_back xs rest)

  abbrev pub flat_list : Flat (List A)
  flat_list = record { put = put_list; get = get_list; back = each_back }

-- by the code of another type
module _ {A B : Type 0} (b : Flat B) (to : A → B) (from : B → A) (same : (x : A) → from (to x) ≡ x) where
  abbrev made : B × List ℕ → A × List ℕ
  made p = (from p.0, p.1)

  pub by_back : (x : A) (rest : List ℕ) → made (b.get (b.put (to x) rest)) ≡ (x, rest)
  by_back x rest = ap made (b.back (to x) rest) ∙ ap (λ (y : A). (y, rest)) (same x)

  abbrev pub flat_by : Flat A
  flat_by = record { put = λ x rest. b.put (to x) rest; get = λ bytes. made (b.get bytes); back = by_back }

-- ---- truth values, numbers with a sign, and what may be missing

abbrev of_truth : Bool → Unit {0} ⊎ Unit {0}
of_truth false = inl tt
of_truth true = inr tt

abbrev truth_of : Unit {0} ⊎ Unit {0} → Bool
truth_of (inl _) = false
truth_of (inr _) = true

pub truth_back : (b : Bool) → truth_of (of_truth b) ≡ b
truth_back false = refl
truth_back true = refl

abbrev pub flat_bool : Flat Bool
flat_bool = flat_by (flat⊎ flat_unit flat_unit) of_truth truth_of truth_back

abbrev of_integer : ℤ → ℕ ⊎ ℕ
of_integer (pos n) = inl n
of_integer (negsuc n) = inr n

abbrev integer_of : ℕ ⊎ ℕ → ℤ
integer_of (inl n) = pos n
integer_of (inr n) = negsuc n

pub integer_back : (z : ℤ) → integer_of (of_integer z) ≡ z
integer_back (pos n) = refl
integer_back (negsuc n) = refl

abbrev pub flat_ℤ : Flat ℤ
flat_ℤ = flat_by (flat⊎ flat_ℕ flat_ℕ) of_integer integer_of integer_back

abbrev of_option : {A : Type 0} → Option A → Unit {0} ⊎ A
of_option None = inl tt
of_option (Some x) = inr x

abbrev option_of : {A : Type 0} → Unit {0} ⊎ A → Option A
option_of (inl _) = None
option_of (inr x) = Some x

pub option_back : {A : Type 0} (x : Option A) → option_of (of_option x) ≡ x
option_back None = refl
option_back (Some x) = refl

abbrev pub flat_option : {A : Type 0} → Flat A → Flat (Option A)
flat_option {A = A} a = flat_by (flat⊎ flat_unit a) (of_option {A = A}) (option_of {A = A}) (option_back {A = A})

-- ---- states

abbrev pub flat_text : Flat (List ℕ)
flat_text = flat_list flat_ℕ

abbrev pub flat_token : Flat model.Token
flat_token = flat_by (flat⊎ (flat⊎ flat_unit (flat⊎ flat_bool (flat⊎ flat_ℤ flat_text)))
    (flat⊎ (flat⊎ flat_unit flat_unit) (flat⊎ (flat⊎ flat_unit flat_unit) (flat⊎ flat_unit flat_text)))) model.cases model.token model.token_cases

abbrev pub flat_datum : Flat Datum
flat_datum = flat_by (flat_list flat_token)
    (λ d. model.spell d []) (λ tokens. model.datum_in (model.first_part (model.parts_of tokens))) (λ d. ap (λ parts. model.datum_in (model.first_part parts)) (model.spelled d []))

abbrev pub flat_members : Flat Members
flat_members = flat_by (flat_list flat_token)
    (λ ms. model.spell_members ms []) (λ tokens. model.members_in (model.first_part (model.parts_of tokens))) (λ ms. ap (λ parts. model.members_in (model.first_part parts)) (model.spelled_members ms []))

abbrev pub flat_record : Flat LogRecord
flat_record = flat_by (flat× flat_datum (flat× flat_members (flat× flat_members (flat× (flat_option flat_ℕ) (flat× flat_ℕ flat_text)))))
    (λ r. (r.body, (r.attributes, (r.resource, (r.timestamp, (r.severity, r.severity_text))))))
    (λ p. record { body = p.0; attributes = p.1.0; resource = p.1.1.0; timestamp = p.1.1.1.0; severity = p.1.1.1.1.0; severity_text = p.1.1.1.1.1 })
    (λ _. refl)

abbrev pub flat_group : Flat Group
flat_group = flat_by (flat× flat_text (flat× flat_ℕ (flat× flat_text flat_record)))
    (λ g. (g.source, (g.entries, (g.text, g.base))))
    (λ p. record { source = p.0; entries = p.1.0; text = p.1.1.0; base = p.1.1.1 })
    (λ _. refl)

abbrev pub flat_kept : Flat Kept
flat_kept = flat_by (flat⊎ flat_unit (flat_list flat_group)) cases of_cases cases_back

pub flat_states : Flat (List Kept)
flat_states = flat_list flat_kept
