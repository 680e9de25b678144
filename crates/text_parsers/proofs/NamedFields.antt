-- Fields with their names, one after another.
use Rattle.std.proofs.Common.{◌≡◌, ℕ, zero, suc, ◌+◌, List, [], ◌∷◌, ◌++◌, ◌∙◌, ap, sym, refl, Bool, length, drop, None, Some, arith}
use Rattle.std.specs.BTreeMap.{insert_entry}
use Rattle.std.specs.Cmp.Lexicographic.{slice_cmp}
use Rattle.std.specs.Map.{keys_of}
use Rattle.std.specs.Ordering.{nat_cmp}
use Rattle.std.specs.Str.Lossy.{utf8_lossy}
use Rattle.csv.specs.Records.{field_at}
use Rattle.entry_model.specs.Datum.{text}
use Rattle.json_text.specs.Grammar.{Member, put_all}
use Rattle.text_parsers.specs.CsvRecords.{named, parts_of, parts_left}

pub named-nil : (names : List (List ℕ)) → named names [] ≡ []
named-nil [] = refl
named-nil (name ∷ names) = refl

pub keys-named : (names fields : List (List ℕ)) → length fields ≡ length names → keys_of (named names fields) ≡ names
keys-named [] fields h = refl
keys-named (name ∷ names) [] h = absurd (omega (arith, h))
keys-named (name ∷ names) (field ∷ fields) h = ap (λ (l : List (List ℕ)). name ∷ l) (keys-named names fields (omega (arith, h)))

-- one field more is put in
pub one_named : (names rest fields behind : List (List ℕ)) (name field : List ℕ) (old new : List Member) → names ≡ name ∷ rest → fields ≡ field ∷ behind
    → new ≡ insert_entry (slice_cmp nat_cmp) old name (text (utf8_lossy field)) → put_all new (named rest behind) ≡ put_all old (named names fields)
one_named names rest fields behind name field old new e f put =
    ap (λ (ms : List Member). put_all ms (named rest behind)) put
    ∙ sym (ap (λ (ns : List (List ℕ)). put_all old (named ns fields)) e ∙ ap (λ (fs : List (List ℕ)). put_all old (named (name ∷ rest) fs)) f)

-- no field is left
pub no_field_left : (names fields : List (List ℕ)) (ms all : List Member) → put_all ms (named names fields) ≡ all → fields ≡ [] → ms ≡ all
no_field_left names fields ms all e none =
    sym (ap (λ (fs : List (List ℕ)). put_all ms (named names fs)) none ∙ ap (λ (l : List Member). put_all ms l) (named-nil names)) ∙ e

-- no name is left
pub no_name_left : (names fields : List (List ℕ)) (ms all : List Member) → put_all ms (named names fields) ≡ all → names ≡ [] → ms ≡ all
no_name_left names fields ms all e none = sym (ap (λ (ns : List (List ℕ)). put_all ms (named ns fields)) none) ∙ e

pub field_here : (fields : List (List ℕ)) (i : ℕ) (field : List ℕ) → field_at fields i ≡ Some field → drop i fields ≡ field ∷ drop (i + 1) fields
unfolding field_at
field_here [] i field e = absurd (cc e)
field_here (f ∷ fs) zero field e = let same : f ≡ field = cc e in ap (λ (l : List ℕ). l ∷ fs) same
field_here (f ∷ fs) (suc i) field e =
    let plus : suc i + 1 ≡ suc (i + 1) = omega arith in
    field_here fs i field e ∙ ap (λ n. field ∷ drop n (f ∷ fs)) (sym plus)

pub no_field_here : (fields : List (List ℕ)) (i : ℕ) → field_at fields i ≡ None → drop i fields ≡ []
unfolding field_at
no_field_here [] zero e = refl
no_field_here [] (suc i) e = refl
no_field_here (f ∷ fs) zero e = absurd (cc e)
no_field_here (f ∷ fs) (suc i) e = no_field_here fs i e

-- ---- the parts of a header

pub one_part : (delimiter : ℕ) (done parts : List (List ℕ)) (part rest behind : List ℕ) (found : Bool) → done ++ parts_of delimiter rest ≡ parts → parts_of delimiter rest ≡ part ∷ parts_left delimiter behind found
    → done ++ part ∷ parts_left delimiter behind found ≡ parts
one_part delimiter done parts part rest behind found e f = ap (λ (l : List (List ℕ)). done ++ l) (sym f) ∙ e
