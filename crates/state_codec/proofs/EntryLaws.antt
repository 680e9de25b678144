-- An entry that is read is the one that is spelled there, and what is spelled is read again.
use Rattle.std.proofs.Common.{◌≡◌, ℕ, zero, suc, ◌^◌, ◌<◌, ◌≤◌, eqb, leb, List, [], ◌∷◌, ◌++◌, length, Option, Some, None, Ok, Err, refl, ap, subst, ◌∙◌, append_assoc, arith}
use Rattle.std.specs.Prelude.{IfSome}
use Rattle.std.specs.Int.{w64, to_be_bytes}
use Rattle.std.proofs.lemmas.Bool.{eqb-true, ne_eqb, leb-true, le-leb}
use Rattle.entry_model.specs.Datum.{Datum, fields, members_of}
use Rattle.entry_model.specs.LogRecord.{LogRecord}
use Rattle.state_codec.specs.Spelling.{bytes_spelling, value_spelling, time_spelling, entry_spelling}
use Rattle.entry_model.specs.Lawful.{nesting}
use Rattle.state_codec.specs.Rules.{IsSpellableEntry}
use Rattle.state_codec.specs.Reading.{number_at, text_at, map_at, value_at, fields_at, severity_at, time_at, entry_within}
use Rattle.state_codec.proofs.Numbers.{IsBytes, bytes_behind, Takes, takes_both, takes_tag, err_or_ok, bind_ok, ok_is, test_ok, wide64, number_takes, number_again, text_takes, text_again}
use Rattle.state_codec.proofs.ValueLaws.{TakesDatum, value_behind, value_takes, map_takes}
use Rattle.state_codec.proofs.AgainLaws.{value_again, fields_again, pairs_of, members_of-pairs_of}

pub fields_take : (room : ℕ) (bytes : List ℕ) (x : List (List ℕ × Datum) × List ℕ) → IsBytes bytes → fields_at room bytes ≡ Ok x → TakesDatum (suc room) bytes (fields (members_of x.0)) x.1
unfolding fields_at
fields_take room [] x fits e = absurd cc
fields_take room (tag ∷ rest) x fits e =
    let b = value_behind (eqb tag 6) (map_at (value_at room) rest) (suc (length rest)) x e in
    let is : tag ≡ 6 = eqb-true tag 6 b.0 in
    rw is (map_takes room (value_at room) (value_takes room) rest x (bytes_behind tag rest fits) b.1)

pub severity_takes : (bytes : List ℕ) (x : ℕ × List ℕ) → IsBytes bytes → severity_at bytes ≡ Ok x → Takes bytes (x.0 ∷ []) x.1 × (x.0 ≤ 24)
unfolding severity_at
severity_takes [] x fits e = absurd cc
severity_takes (n ∷ rest) x fits e =
    let b = test_ok (leb n 24) (suc (length rest)) (n, rest) x e in
    subst (λ (p : ℕ × List ℕ). Takes (n ∷ rest) (p.0 ∷ []) p.1 × (p.0 ≤ 24)) b.1 (record { parts = refl; left = bytes_behind n rest fits }, leb-true n 24 b.0)

severity_again : (n : ℕ) (rest : List ℕ) → n ≤ 24 → severity_at (n ∷ rest) ≡ Ok (n, rest)
unfolding severity_at
severity_again n rest small = rw (le-leb n 24 small) refl

pub time_other : (flag : ℕ) (rest : List ℕ) → 2 ≤ flag → time_at (flag ∷ rest) ≡ Err (suc (length rest))
unfolding time_at
time_other flag rest over = rw (ne_eqb flag 0 (λ h. omega (arith, h)), ne_eqb flag 1 (λ h. omega (arith, h))) refl

pub time_takes : (bytes : List ℕ) (x : Option ℕ × List ℕ) → IsBytes bytes → time_at bytes ≡ Ok x → Takes bytes (time_spelling x.0) x.1 × IfSome x.0 (λ time. time < 2 ^ 64)
unfolding time_at
time_takes [] x fits e = absurd cc
time_takes (zero ∷ rest) x fits e =
    subst (λ (p : Option ℕ × List ℕ). Takes (0 ∷ rest) (time_spelling p.0) p.1 × IfSome p.0 (λ time. time < 2 ^ 64)) (ok_is (None, rest) x e)
    (record { parts = refl; left = bytes_behind 0 rest fits }, tt)
time_takes (suc zero ∷ rest) x fits e =
    let b = bind_ok (number_at w64 rest) (λ n. Ok (Some n.0, n.1)) x e in
    let t = number_takes w64 (2 ^ 64) wide64 rest b.0.0 b.0.1 (bytes_behind 1 rest fits) b.1 in
    subst (λ (p : Option ℕ × List ℕ). Takes (1 ∷ rest) (time_spelling p.0) p.1 × IfSome p.0 (λ time. time < 2 ^ 64)) (ok_is (Some b.0.0, b.0.1) x b.2)
    (takes_tag 1 rest (to_be_bytes w64 b.0.0) b.0.1 t.0, t.1)
time_takes (suc (suc flag) ∷ rest) x fits e = absurd (err_or_ok (time_at (suc (suc flag) ∷ rest)) (suc (length rest)) x (time_other (suc (suc flag)) rest (omega arith)) e)

time_again : (o : Option ℕ) (rest : List ℕ) → IfSome o (λ time. time < 2 ^ 64) → time_at (time_spelling o ++ rest) ≡ Ok (o, rest)
unfolding time_at
time_again None rest h = refl
time_again (Some n) rest h = rw (number_again w64 (2 ^ 64) wide64 n rest h) refl

-- lawful, and nested no deeper than so many levels
pub record IsEntryWithin (levels : ℕ) (r : LogRecord) : Type 0 where
  pub lawful : IsSpellableEntry r
  pub body : nesting r.body ≤ levels
  pub attributes : nesting (fields r.attributes) ≤ levels
  pub resource : nesting (fields r.resource) ≤ levels

pub entry_takes : (inside : ℕ) (bytes : List ℕ) (x : LogRecord × List ℕ) → IsBytes bytes → entry_within (suc inside) inside bytes ≡ Ok x → Takes bytes (entry_spelling x.0) x.1 × IsEntryWithin (suc inside) x.0
unfolding entry_within
entry_takes inside bytes x fits e =
    let made = λ (body : Datum) (attributes resource : List (List ℕ × Datum)) (severity : ℕ) (name : List ℕ) (time : Option ℕ).
    (let r : LogRecord = record { body = body; attributes = members_of attributes; resource = members_of resource; timestamp = time; severity = severity; severity_text = name } in r) in
    let body = bind_ok (value_at (suc inside) bytes) _ x e in
    let attributes = bind_ok (fields_at inside body.0.1) _ x body.2 in
    let resource = bind_ok (fields_at inside attributes.0.1) _ x attributes.2 in
    let severity = bind_ok (severity_at resource.0.1) _ x resource.2 in
    let name = bind_ok (text_at severity.0.1) _ x severity.2 in
    let time = bind_ok (time_at name.0.1) _ x name.2 in
    let t1 = value_takes (suc inside) bytes body.0 fits body.1 in
    let t2 = fields_take inside body.0.1 attributes.0 t1.takes.left attributes.1 in
    let t3 = fields_take inside attributes.0.1 resource.0 t2.takes.left resource.1 in
    let t4 = severity_takes resource.0.1 severity.0 t3.takes.left severity.1 in
    let t5 = text_takes severity.0.1 name.0 t4.0.left name.1 in
    let t6 = time_takes name.0.1 time.0 t5.0.left time.1 in
    let end = takes_both severity.0.1 (bytes_spelling name.0.0) name.0.1 (time_spelling time.0.0) time.0.1 t5.0 t6.0 in
    let fourth = takes_both resource.0.1 (severity.0.0 ∷ []) severity.0.1 (bytes_spelling name.0.0 ++ time_spelling time.0.0) time.0.1 t4.0 end in
    let third = takes_both attributes.0.1 (value_spelling (fields (members_of resource.0.0))) resource.0.1 (severity.0.0 ∷ (bytes_spelling name.0.0 ++ time_spelling time.0.0)) time.0.1 t3.takes fourth in
    let second = takes_both body.0.1 (value_spelling (fields (members_of attributes.0.0))) attributes.0.1
    (value_spelling (fields (members_of resource.0.0)) ++ (severity.0.0 ∷ (bytes_spelling name.0.0 ++ time_spelling time.0.0))) time.0.1 t2.takes third in
    let first = takes_both bytes (value_spelling body.0.0) body.0.1
    (value_spelling (fields (members_of attributes.0.0)) ++ (value_spelling (fields (members_of resource.0.0)) ++ (severity.0.0 ∷ (bytes_spelling name.0.0 ++ time_spelling time.0.0)))) time.0.1 t1.takes second in
    subst (λ (p : LogRecord × List ℕ). Takes bytes (entry_spelling p.0) p.1 × IsEntryWithin (suc inside) p.0)
    (ok_is (made body.0.0 attributes.0.0 resource.0.0 severity.0.0 name.0.0 time.0.0, time.0.1) x time.2) (
      first,
      record {
        lawful = record { body = t1.lawful; attributes = t2.lawful; resource = t3.lawful; severity = t4.1; severity_text = t5.1; timestamp = t6.1 };
        body = t1.shallow;
        attributes = t2.shallow;
        resource = t3.shallow;
      },
    )

-- one part after the other
entry_step : (inside : ℕ) (r : LogRecord) (bytes b1 b2 b3 b4 b5 rest : List ℕ) → value_at (suc inside) bytes ≡ Ok (r.body, b1) → fields_at inside b1 ≡ Ok (pairs_of r.attributes, b2)
    → fields_at inside b2 ≡ Ok (pairs_of r.resource, b3) → severity_at b3 ≡ Ok (r.severity, b4) → text_at b4 ≡ Ok (r.severity_text, b5) → time_at b5 ≡ Ok (r.timestamp, rest)
    → entry_within (suc inside) inside bytes ≡ Ok (r, rest)
unfolding entry_within
entry_step inside r bytes b1 b2 b3 b4 b5 rest e1 e2 e3 e4 e5 e6 = rw (e1, e2, e3, e4, e5, e6, members_of-pairs_of r.attributes, members_of-pairs_of r.resource) refl

pub entry_again : (inside : ℕ) (r : LogRecord) (rest : List ℕ) → IsEntryWithin (suc inside) r → entry_within (suc inside) inside (entry_spelling r ++ rest) ≡ Ok (r, rest)
entry_again inside r rest w =
    let last = time_spelling r.timestamp ++ rest in
    let b4 = bytes_spelling r.severity_text ++ (time_spelling r.timestamp ++ rest) in
    let b3 = r.severity ∷ (bytes_spelling r.severity_text ++ (time_spelling r.timestamp ++ rest)) in
    let b2 = value_spelling (fields r.resource) ++ (r.severity ∷ (bytes_spelling r.severity_text ++ (time_spelling r.timestamp ++ rest))) in
    let b1 = value_spelling (fields r.attributes) ++ (value_spelling (fields r.resource) ++ (r.severity ∷ (bytes_spelling r.severity_text ++ (time_spelling r.timestamp ++ rest)))) in
    let grouped : entry_spelling r ++ rest ≡ value_spelling r.body ++ b1 =
    append_assoc (value_spelling r.body) (value_spelling (fields r.attributes) ++ (value_spelling (fields r.resource) ++ (r.severity ∷ (bytes_spelling r.severity_text ++ time_spelling r.timestamp)))) rest
    ∙ ap (λ (l : List ℕ). value_spelling r.body ++ l)
    (append_assoc (value_spelling (fields r.attributes)) (value_spelling (fields r.resource) ++ (r.severity ∷ (bytes_spelling r.severity_text ++ time_spelling r.timestamp))) rest
    ∙ ap (λ (l : List ℕ). value_spelling (fields r.attributes) ++ l)
    (append_assoc (value_spelling (fields r.resource)) (r.severity ∷ (bytes_spelling r.severity_text ++ time_spelling r.timestamp)) rest
    ∙ ap (λ (l : List ℕ). value_spelling (fields r.resource) ++ (r.severity ∷ l)) (append_assoc (bytes_spelling r.severity_text) (time_spelling r.timestamp) rest))) in
    ap (entry_within (suc inside) inside) grouped
    ∙ entry_step inside r (value_spelling r.body ++ b1) b1 b2 b3 b4 last rest
    (value_again r.body (suc inside) b1 w.lawful.body w.body)
    (fields_again r.attributes inside b2 w.lawful.attributes w.attributes)
    (fields_again r.resource inside b3 w.lawful.resource w.resource)
    (severity_again r.severity b4 w.lawful.severity)
    (text_again r.severity_text last w.lawful.severity_text)
    (time_again r.timestamp rest w.lawful.timestamp)
