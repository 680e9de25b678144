-- The fields of a header are read in one way.
use Rattle.std.proofs.Common.{◌≡◌, ℕ, List, [], ◌∷◌, ◌++◌, ◌∙◌, ap, sym, refl, subst}
use Rattle.syslog_parser.specs.Bytes.{is_printable}
use Rattle.syslog_parser.specs.Rfc5424.{Limited, Valued, AreFields, no_field, a_field}
use Rattle.syslog_parser.specs.Words.{IsShortWord}
use Rattle.syslog_parser.proofs.Words.{one_split}

-- what stands at the front of fields
pub fields_cut : {name : List ℕ} {most : ℕ} {fields : List Limited} {text : List ℕ} {values : List Valued} {rest : List ℕ} → AreFields ((name, most) ∷ fields) text values rest
    → (own : List ℕ) × (front : List ℕ) × (others : List Valued) × (text ≡ own ++ 32 ∷ front) × IsShortWord is_printable most own × AreFields fields front others rest × (values ≡ (name, own) ∷ others)
fields_cut (a_field {own} {front} {values = others} w d) = (own, front, others, refl, w, d, refl)

nothing_cut : {text : List ℕ} {values : List Valued} {rest : List ℕ} → AreFields [] text values rest → (values ≡ []) × (text ≡ rest)
nothing_cut no_field = (refl, refl)

pub fields_one : {fields : List Limited} {text : List ℕ} {values others : List Valued} {rest more : List ℕ} → AreFields fields text values rest → AreFields fields text others more
    → (values ≡ others) × (rest ≡ more)
fields_one no_field e = let r = nothing_cut e in (sym r.0, r.1)
fields_one {more} (a_field {name} {own} {front} {rest} {most} {fields} {values} w d) e =
    let r = fields_cut e in
    let split = one_split is_printable 32 refl own r.0 front r.1 w.word.all r.4.word.all r.3 in
    let rec = fields_one d (subst (λ (l : List ℕ). AreFields fields l r.2 more) (sym split.1) r.5) in
    (ap (λ (l : List ℕ). (name, l) ∷ values) split.0 ∙ ap (λ (l : List Valued). (name, r.0) ∷ l) rec.0 ∙ sym r.6, rec.1)
