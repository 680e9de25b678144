-- A record as a list of tokens, which gives the record back: what tells records apart in a proof.
use Rattle.std.specs.Prelude.{◌≡◌, ◌⊎◌, ℕ, ℤ, Bool, List, [], ◌∷◌, Option, refl}
use Rattle.std.specs.Coded.{Coded, code_by, coded_ℕ, coded_ℤ, coded_bool, coded_list, coded×, coded⊎, coded_option}
use base.Stored.{coded_unit}
use mathlib.Core.Logic.{inl, inr}
use mathlib.Core.Path.{ap, ◌∙◌}
use Rattle.entry_model.specs.Datum.{Datum, null, boolean, int, text, list, fields, Items, no_items, item, Members, no_members, member}
use Rattle.entry_model.specs.LogRecord.{LogRecord}

-- ---- tokens

pub data Token : Type 0 where
  nothing : Token
  truth : Bool → Token
  number : ℤ → Token
  bytes : List ℕ → Token
  of_items : Token
  of_members : Token
  last_item : Token
  one_item : Token
  last_member : Token
  one_member : List ℕ → Token

abbrev pub Leaf : Type 0
Leaf = Unit {0} ⊎ Bool ⊎ ℤ ⊎ List ℕ

abbrev pub Cases : Type 0
Cases = Leaf ⊎ (Unit {0} ⊎ Unit {0}) ⊎ (Unit {0} ⊎ Unit {0}) ⊎ Unit {0} ⊎ List ℕ

abbrev pub cases : Token → Cases
cases nothing = inl (inl tt)
cases (truth b) = inl (inr (inl b))
cases (number z) = inl (inr (inr (inl z)))
cases (bytes bs) = inl (inr (inr (inr bs)))
cases of_items = inr (inl (inl tt))
cases of_members = inr (inl (inr tt))
cases last_item = inr (inr (inl (inl tt)))
cases one_item = inr (inr (inl (inr tt)))
cases last_member = inr (inr (inr (inl tt)))
cases (one_member name) = inr (inr (inr (inr name)))

abbrev pub token : Cases → Token
token (inl (inl _)) = nothing
token (inl (inr (inl b))) = truth b
token (inl (inr (inr (inl z)))) = number z
token (inl (inr (inr (inr bs)))) = bytes bs
token (inr (inl (inl _))) = of_items
token (inr (inl (inr _))) = of_members
token (inr (inr (inl (inl _)))) = last_item
token (inr (inr (inl (inr _)))) = one_item
token (inr (inr (inr (inl _)))) = last_member
token (inr (inr (inr (inr name)))) = one_member name

pub token_cases : (t : Token) → token (cases t) ≡ t
token_cases nothing = refl
token_cases (truth b) = refl
token_cases (number z) = refl
token_cases (bytes bs) = refl
token_cases of_items = refl
token_cases of_members = refl
token_cases last_item = refl
token_cases one_item = refl
token_cases last_member = refl
token_cases (one_member name) = refl

abbrev pub token_code : Coded Token
token_code = code_by Cases
    (coded⊎ (coded⊎ coded_unit (coded⊎ coded_bool (coded⊎ coded_ℤ (coded_list coded_ℕ))))
    (coded⊎ (coded⊎ coded_unit coded_unit) (coded⊎ (coded⊎ coded_unit coded_unit) (coded⊎ coded_unit (coded_list coded_ℕ)))))
    cases token token_cases

-- ---- what a record spells, in front of other tokens

abbrev mutual
  pub spell : Datum → List Token → List Token
  spell null rest = nothing ∷ rest
  spell (boolean b) rest = truth b ∷ rest
  spell (int z) rest = number z ∷ rest
  spell (text bs) rest = bytes bs ∷ rest
  spell (list items) rest = of_items ∷ spell_items items rest
  spell (fields members) rest = of_members ∷ spell_members members rest

  pub spell_items : Items → List Token → List Token
  spell_items no_items rest = last_item ∷ rest
  spell_items (item first items) rest = one_item ∷ spell first (spell_items items rest)

  pub spell_members : Members → List Token → List Token
  spell_members no_members rest = last_member ∷ rest
  spell_members (member name first members) rest = one_member name ∷ spell first (spell_members members rest)

-- ---- what tokens stand for, read from the last

pub data Part : Type 0 where
  a_datum : Datum → Part
  some_items : Items → Part
  some_members : Members → Part

abbrev pub datum_in : Part → Datum
datum_in (a_datum d) = d
datum_in (some_items _) = null
datum_in (some_members _) = null

abbrev pub items_in : Part → Items
items_in (a_datum d) = no_items
items_in (some_items items) = items
items_in (some_members _) = no_items

abbrev pub members_in : Part → Members
members_in (a_datum d) = no_members
members_in (some_items _) = no_members
members_in (some_members members) = members

abbrev pub first_part : List Part → Part
first_part [] = a_datum null
first_part (part ∷ parts) = part

abbrev pub other_parts : List Part → List Part
other_parts [] = []
other_parts (part ∷ parts) = parts

abbrev pub take_token : Token → List Part → List Part
take_token nothing parts = a_datum null ∷ parts
take_token (truth b) parts = a_datum (boolean b) ∷ parts
take_token (number z) parts = a_datum (int z) ∷ parts
take_token (bytes bs) parts = a_datum (text bs) ∷ parts
take_token of_items parts = a_datum (list (items_in (first_part parts))) ∷ other_parts parts
take_token of_members parts = a_datum (fields (members_in (first_part parts))) ∷ other_parts parts
take_token last_item parts = some_items no_items ∷ parts
take_token one_item parts =
    some_items (item (datum_in (first_part parts)) (items_in (first_part (other_parts parts)))) ∷ other_parts (other_parts parts)
take_token last_member parts = some_members no_members ∷ parts
take_token (one_member name) parts =
    some_members (member name (datum_in (first_part parts)) (members_in (first_part (other_parts parts)))) ∷ other_parts (other_parts parts)

abbrev pub parts_of : List Token → List Part
parts_of [] = []
parts_of (t ∷ ts) = take_token t (parts_of ts)

mutual
  pub spelled : (d : Datum) (rest : List Token) → parts_of (spell d rest) ≡ a_datum d ∷ parts_of rest
  spelled null rest = refl
  spelled (boolean b) rest = refl
  spelled (int z) rest = refl
  spelled (text bs) rest = refl
  spelled (list items) rest = ap (take_token of_items) (spelled_items items rest)
  spelled (fields members) rest = ap (take_token of_members) (spelled_members members rest)

  pub spelled_items : (items : Items) (rest : List Token) → parts_of (spell_items items rest) ≡ some_items items ∷ parts_of rest
  spelled_items no_items rest = refl
  spelled_items (item first items) rest =
      ap (take_token one_item) (spelled first (spell_items items rest) ∙ ap (λ parts. a_datum first ∷ parts) (spelled_items items rest))

  pub spelled_members : (members : Members) (rest : List Token) → parts_of (spell_members members rest) ≡ some_members members ∷ parts_of rest
  spelled_members no_members rest = refl
  spelled_members (member name first members) rest =
      ap (take_token (one_member name)) (spelled first (spell_members members rest) ∙ ap (λ parts. a_datum first ∷ parts) (spelled_members members rest))

-- ---- the codes

abbrev pub datum_code : Coded Datum
datum_code = code_by (List Token) (coded_list token_code)
    (λ d. spell d []) (λ tokens. datum_in (first_part (parts_of tokens))) (λ d. ap (λ parts. datum_in (first_part parts)) (spelled d []))

abbrev pub members_code : Coded Members
members_code = code_by (List Token) (coded_list token_code)
    (λ members. spell_members members []) (λ tokens. members_in (first_part (parts_of tokens))) (λ members. ap (λ parts. members_in (first_part parts)) (spelled_members members []))

abbrev pub record_code : Coded LogRecord
record_code = code_by (Datum × (Members × (Members × (Option ℕ × (ℕ × List ℕ)))))
    (coded× datum_code (coded× members_code (coded× members_code (coded× (coded_option coded_ℕ) (coded× coded_ℕ (coded_list coded_ℕ))))))
    (λ r. (r.body, (r.attributes, (r.resource, (r.timestamp, (r.severity, r.severity_text))))))
    (λ p. record { body = p.0; attributes = p.1.0; resource = p.1.1.0; timestamp = p.1.1.1.0; severity = p.1.1.1.1.0; severity_text = p.1.1.1.1.1 })
    (λ _. refl)
