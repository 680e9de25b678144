-- The records of a text, as they are found byte by byte.
use Rattle.std.proofs.Common.{◌≡◌, ℕ, suc, ◌+◌, ◌-◌, List, [], ◌∷◌, ◌++◌, ◌∙◌, ap, sym, refl, Bool, true, false, not, cond, ◌==◌, ◌||◌, ◌&&◌, inl, inr, length, None, Some, drop, arith, eq-eqb, ne_eqb}
use Rattle.std.specs.List.{list_any, starts_with}
use Rattle.std.specs.Prelude.{◌⊎◌, ⊤, nat_eq}
use Rattle.std.proofs.lemmas.Bool.Decides.{nat_tests}
use Rattle.csv.specs.Machine.{Read, next_record, step, in_field, start_field, start_record, is_end, fields_after, field_after}
use Rattle.csv.specs.Reading.{records, records_from, strip_bom}
use Rattle.csv.specs.declared.parser.Config.{Config}
use Rattle.csv.specs.declared.parser.State.{State}
use Rattle.csv.specs.declared.parser.State.TheVariants as st
use Rattle.csv.specs.declared.parser.Action.{Action}
use Rattle.csv.specs.declared.parser.Action.TheVariants as act
use Rattle.text_parsers.specs.CsvRecords.{config_with, records_of}
use Rattle.text_parsers.specs.FirstRecord.{state_of, is_line_end, is_other, IsOver, IsStep, IsFirst}
use Rattle.text_parsers.specs.Split.{IsSplit}
use Rattle.text_parsers.specs.declared.records.Split.TheVariants.{Nothing, One, More}
use Rattle.text_parsers.specs.declared.records.Place.{Place}
use Rattle.text_parsers.specs.declared.records.Place.TheVariants.{Front, Between, Field, Quoted, Closed}
use Rattle.text_parsers.specs.declared.records.Step.{Step}
use Rattle.text_parsers.specs.declared.records.Step.TheVariants.{Skips, Adds, EndsField, EndsRecord}

-- ---- one byte

module _ (d c : ℕ) where
  pub ends_field : c ≡ d → IsStep (in_field (config_with d) c) EndsField
  ends_field e = let t : (c == d) ≡ true = eq-eqb c d e in rw t refl

  over : (b : Bool) → IsOver (cond b st.AfterCr st.StartRecord)
  over true = tt
  over false = tt

  pub ends_record : (c ≡ d → ⊥) → is_line_end c ≡ true → IsStep (in_field (config_with d) c) EndsRecord
  ends_record n e = let t : (c == d) ≡ false = ne_eqb c d n in rw (t, e) (refl, over (c == 13))

  pub adds : (c ≡ d → ⊥) → is_line_end c ≡ false → IsStep (in_field (config_with d) c) (Adds Field)
  adds n e = let t : (c == d) ≡ false = ne_eqb c d n in rw (t, e) refl

  pub opens_quote : c ≡ 34 → IsStep (start_field (config_with d) c) (Skips Quoted)
  opens_quote e = let t : (c == 34) ≡ true = eq-eqb c 34 e in rw t refl

  pub opens_field : (c ≡ 34 → ⊥) → (did : Step) → IsStep (in_field (config_with d) c) did → IsStep (start_field (config_with d) c) did
  opens_field n did s = let t : (c == 34) ≡ false = ne_eqb c 34 n in rw t s

  pub passes_line_end : is_line_end c ≡ true → IsStep (start_record (config_with d) c) (Skips Front)
  passes_line_end e = rw e refl

  pub begins_record : is_line_end c ≡ false → (did : Step) → IsStep (start_field (config_with d) c) did → IsStep (start_record (config_with d) c) did
  begins_record e did s = rw e (rw e at s)

  pub closes_quote : c ≡ 34 → IsStep (step (config_with d) st.InQuoted c) (Skips Closed)
  closes_quote e = let t : (c == 34) ≡ true = eq-eqb c 34 e in rw t refl

  pub adds_quoted : (c ≡ 34 → ⊥) → IsStep (step (config_with d) st.InQuoted c) (Adds Quoted)
  adds_quoted n = let t : (c == 34) ≡ false = ne_eqb c 34 n in rw t refl

  pub adds_quote : c ≡ 34 → IsStep (step (config_with d) st.AfterQuote c) (Adds Quoted)
  adds_quote e = let t : (c == 34) ≡ true = eq-eqb c 34 e in rw t refl

  pub goes_behind_quote : (c ≡ 34 → ⊥) → (did : Step) → IsStep (in_field (config_with d) c) did → IsStep (step (config_with d) st.AfterQuote c) did
  goes_behind_quote n did s = let t : (c == 34) ≡ false = ne_eqb c 34 n in rw t s

-- ---- what a byte makes of the record

pub next_goes : (cfg : Config) (s after : State) (a : Action) (fields : List (List ℕ)) (field : List ℕ) (c : ℕ) (rest : List ℕ) → step cfg s c ≡ (after, a) → is_end a ≡ false
    → next_record cfg s fields field (c ∷ rest) ≡ next_record cfg after (fields_after a fields field) (field_after a c field) rest
unfolding next_record
next_goes cfg s after a fields field c rest e n = rw e (rw n refl)

pub next_ends : (cfg : Config) (s : State) (fields : List (List ℕ)) (field : List ℕ) (c : ℕ) (rest : List ℕ) → (step cfg s c).1 ≡ act.EndRecord
    → next_record cfg s fields field (c ∷ rest) ≡ Some (fields ++ (field ∷ []), (step cfg s c).0, rest)
unfolding next_record
next_ends cfg s fields field c rest e = rw e refl

-- a field was put behind the others
pub field_pushed : (pushed fields : List (List ℕ)) (partial bytes field : List ℕ) → pushed ≡ fields ++ ((partial ++ bytes) ∷ []) → partial ≡ [] → bytes ≡ field → pushed ≡ fields ++ (field ∷ [])
field_pushed pushed fields partial bytes field e none same = e ∙ ap (λ (p : List ℕ). fields ++ ((p ++ bytes) ∷ [])) none ∙ ap (λ (b : List ℕ). fields ++ (b ∷ [])) same

-- ---- whether there is one more

-- the states in which the end of a text ends a record
abbrev pub IsInside : State → Type 0
IsInside st.StartField = ⊤
IsInside st.InField = ⊤
IsInside st.InQuoted = ⊤
IsInside st.AfterQuote = ⊤
IsInside st.StartRecord = ⊥
IsInside st.AfterCr = ⊥
IsInside st.InEscape = ⊥
IsInside st.InComment = ⊥

abbrev GoesOn : State × Action → Type 0
GoesOn did = (is_end did.1 ≡ true) ⊎ ((is_end did.1 ≡ false) × IsInside did.0)

in_field_goes_on : (d c : ℕ) → GoesOn (in_field (config_with d) c)
in_field_goes_on d c = by (c == d) (is_line_end c)
  where
    by : (b e : Bool) → GoesOn (cond b (st.StartField, act.EndField) (cond e (cond (c == 13) st.AfterCr st.StartRecord, act.EndRecord) (st.InField, act.Copy)))
    by true e = inr (refl, tt)
    by false true = inl refl
    by false false = inr (refl, tt)

start_field_goes_on : (d c : ℕ) → GoesOn (start_field (config_with d) c)
start_field_goes_on d c = by (c == 34) (in_field (config_with d) c) (in_field_goes_on d c)
  where
    by : (b : Bool) (did : State × Action) → GoesOn did → GoesOn (cond b (st.InQuoted, act.Skip) did)
    by true did g = inr (refl, tt)
    by false did g = g

inside_goes_on : (d : ℕ) (s : State) → IsInside s → (c : ℕ) → GoesOn (step (config_with d) s c)
inside_goes_on d st.StartField i c = start_field_goes_on d c
inside_goes_on d st.InField i c = in_field_goes_on d c
inside_goes_on d st.InQuoted i c = by (c == 34)
  where
    by : (b : Bool) → GoesOn (cond b (st.AfterQuote, act.Skip) (st.InQuoted, act.Copy))
    by true = inr (refl, tt)
    by false = inr (refl, tt)
inside_goes_on d st.AfterQuote i c = by (c == 34) (in_field (config_with d) c) (in_field_goes_on d c)
  where
    by : (b : Bool) (did : State × Action) → GoesOn did → GoesOn (cond b (st.InQuoted, act.Copy) did)
    by true did g = inr (refl, tt)
    by false did g = g
inside_goes_on d st.StartRecord i c = absurd i
inside_goes_on d st.AfterCr i c = absurd i
inside_goes_on d st.InEscape i c = absurd i
inside_goes_on d st.InComment i c = absurd i

abbrev FindsRecord : Config → State → List (List ℕ) → List ℕ → List ℕ → Type 0
FindsRecord cfg s fields field text = (read : Read) × (next_record cfg s fields field text ≡ Some read)

module _ (cfg : Config) (s : State) (fields : List (List ℕ)) (field : List ℕ) (c : ℕ) (rest : List ℕ) where
  found_here : is_end (step cfg s c).1 ≡ true → FindsRecord cfg s fields field (c ∷ rest)
  unfolding next_record
  found_here e = ((fields_after (step cfg s c).1 fields field, (step cfg s c).0, rest), rw e refl)

  found_behind : is_end (step cfg s c).1 ≡ false → FindsRecord cfg (step cfg s c).0 (fields_after (step cfg s c).1 fields field) (field_after (step cfg s c).1 c field) rest
      → FindsRecord cfg s fields field (c ∷ rest)
  unfolding next_record
  found_behind e found = (found.0, rw e found.1)

pub ends_here : (cfg : Config) (s : State) (fields : List (List ℕ)) (field : List ℕ) → IsInside s → next_record cfg s fields field [] ≡ Some (fields ++ (field ∷ []), st.StartRecord, [])
unfolding next_record
ends_here cfg st.StartField fields field i = refl
ends_here cfg st.InField fields field i = refl
ends_here cfg st.InQuoted fields field i = refl
ends_here cfg st.AfterQuote fields field i = refl
ends_here cfg st.StartRecord fields field i = absurd i
ends_here cfg st.AfterCr fields field i = absurd i
ends_here cfg st.InEscape fields field i = absurd i
ends_here cfg st.InComment fields field i = absurd i

found_at_end : (cfg : Config) (s : State) (fields : List (List ℕ)) (field : List ℕ) → IsInside s → FindsRecord cfg s fields field []
found_at_end cfg s fields field i = ((fields ++ (field ∷ []), st.StartRecord, []), ends_here cfg s fields field i)

found_inside : (d : ℕ) (text : List ℕ) (s : State) (fields : List (List ℕ)) (field : List ℕ) → IsInside s → FindsRecord (config_with d) s fields field text
found_inside d [] s fields field i = found_at_end (config_with d) s fields field i
found_inside d (c ∷ rest) s fields field i = elim (inside_goes_on d s i c) [
  | inl e ↦ found_here (config_with d) s fields field c rest e
  | inr n ↦ found_behind (config_with d) s fields field c rest n.0 (found_inside d rest (step (config_with d) s c).0 (fields_after (step (config_with d) s c).1 fields field) (field_after (step (config_with d) s c).1 c field) n.1)
]

pub front_ends : (cfg : Config) (fields : List (List ℕ)) (field : List ℕ) → next_record cfg st.StartRecord fields field [] ≡ None
unfolding next_record
front_ends cfg fields field = refl

pub is_inside : (p : Place) → (p ≡ Front → ⊥) → IsInside (state_of p)
is_inside Front n = n refl
is_inside Between n = tt
is_inside Field n = tt
is_inside Quoted n = tt
is_inside Closed n = tt

-- a byte in front of a record that is no line end begins it
front_goes_on : (d c : ℕ) → is_line_end c ≡ false → GoesOn (start_record (config_with d) c)
front_goes_on d c e = let g = start_field_goes_on d c in rw e (rw e at g)

over_goes_on : (d : ℕ) (s : State) → IsOver s → (c : ℕ) → is_line_end c ≡ false → GoesOn (step (config_with d) s c)
over_goes_on d st.StartRecord o c e = front_goes_on d c e
over_goes_on d st.AfterCr o c e = by (c == 10) (front_goes_on d c e) (not_line_feed c e)
  where
    not_line_feed : (c : ℕ) → is_line_end c ≡ false → (c == 10) ≡ false
    not_line_feed c e = both (c == 13) (c == 10) e
      where
        both : (r l : Bool) → (r || l) ≡ false → l ≡ false
        both true l h = cc h
        both false l h = h

    by : (b : Bool) → GoesOn (start_record (config_with d) c) → b ≡ false → GoesOn (cond b (st.StartRecord, act.Skip) (start_record (config_with d) c))
    by true g h = cc h
    by false g h = g
over_goes_on d st.StartField o c e = absurd o
over_goes_on d st.InField o c e = absurd o
over_goes_on d st.InQuoted o c e = absurd o
over_goes_on d st.AfterQuote o c e = absurd o
over_goes_on d st.InEscape o c e = absurd o
over_goes_on d st.InComment o c e = absurd o

-- a line end there is passed over
abbrev Passes : State × Action → Type 0
Passes did = (did.1 ≡ act.Skip) × IsOver did.0

front_passes : (d c : ℕ) → is_line_end c ≡ true → Passes (start_record (config_with d) c)
front_passes d c e = rw e (refl, tt)

over_passes : (d : ℕ) (s : State) → IsOver s → (c : ℕ) → is_line_end c ≡ true → Passes (step (config_with d) s c)
over_passes d st.StartRecord o c e = front_passes d c e
over_passes d st.AfterCr o c e = by (c == 10) (front_passes d c e)
  where
    by : (b : Bool) → Passes (start_record (config_with d) c) → Passes (cond b (st.StartRecord, act.Skip) (start_record (config_with d) c))
    by true g = (refl, tt)
    by false g = g
over_passes d st.StartField o c e = absurd o
over_passes d st.InField o c e = absurd o
over_passes d st.InQuoted o c e = absurd o
over_passes d st.AfterQuote o c e = absurd o
over_passes d st.InEscape o c e = absurd o
over_passes d st.InComment o c e = absurd o

passes_on : (cfg : Config) (s : State) (c : ℕ) (rest : List ℕ) → (step cfg s c).1 ≡ act.Skip → next_record cfg s [] [] (c ∷ rest) ≡ next_record cfg (step cfg s c).0 [] [] rest
unfolding next_record
passes_on cfg s c rest e = rw e refl

over_ends : (cfg : Config) (s : State) → IsOver s → next_record cfg s [] [] [] ≡ None
unfolding next_record
over_ends cfg st.StartRecord o = refl
over_ends cfg st.AfterCr o = refl
over_ends cfg st.StartField o = absurd o
over_ends cfg st.InField o = absurd o
over_ends cfg st.InQuoted o = absurd o
over_ends cfg st.AfterQuote o = absurd o
over_ends cfg st.InEscape o = absurd o
over_ends cfg st.InComment o = absurd o

pub no_more : (d : ℕ) (text : List ℕ) (s : State) → IsOver s → list_any is_other text ≡ false → next_record (config_with d) s [] [] text ≡ None
no_more d [] s o h = over_ends (config_with d) s o
no_more d (c ∷ rest) s o h = by (is_line_end c) refl h (λ t p k. no_more d rest t p k)
  where
    by : (b : Bool) → is_line_end c ≡ b → (not b || list_any is_other rest) ≡ false
        → ((t : State) → IsOver t → list_any is_other rest ≡ false → next_record (config_with d) t [] [] rest ≡ None)
        → next_record (config_with d) s [] [] (c ∷ rest) ≡ None
    by true e h more = let p = over_passes d s o c e in passes_on (config_with d) s c rest p.0 ∙ more (step (config_with d) s c).0 p.1 h
    by false e h more = cc h

pub one_more : (d : ℕ) (text : List ℕ) (s : State) → IsOver s → list_any is_other text ≡ true → FindsRecord (config_with d) s [] [] text
one_more d [] s o h = cc h
one_more d (c ∷ rest) s o h = by (is_line_end c) refl h (λ t p k. one_more d rest t p k)
  where
    by : (b : Bool) → is_line_end c ≡ b → (not b || list_any is_other rest) ≡ true
        → ((t : State) → IsOver t → list_any is_other rest ≡ true → FindsRecord (config_with d) t [] [] rest)
        → FindsRecord (config_with d) s [] [] (c ∷ rest)
    by true e h more =
        let p = over_passes d s o c e in
        let found = more (step (config_with d) s c).0 p.1 h in
        (found.0, passes_on (config_with d) s c rest p.0 ∙ found.1)
    by false e h more = elim (over_goes_on d s o c e) [
      | inl e ↦ found_here (config_with d) s [] [] c rest e
      | inr n ↦ found_behind (config_with d) s [] [] c rest n.0
          (found_inside d rest (step (config_with d) s c).0 (fields_after (step (config_with d) s c).1 [] []) (field_after (step (config_with d) s c).1 c []) n.1)
    ]

-- ---- a byte order mark

flip : (x y : ℕ) → nat_eq x y ≡ (y == x)
flip x y = grind (arith, nat_tests)

abbrev mark : List ℕ
mark = 239 ∷ 187 ∷ 191 ∷ []

pub behind_mark : (bs : List ℕ) → starts_with nat_eq bs mark ≡ true → strip_bom bs ≡ drop 3 bs
unfolding strip_bom
behind_mark [] h = refl
behind_mark (a ∷ []) h = by (nat_eq 239 a) h
  where
    by : (p : Bool) → (p && false) ≡ true → a ∷ [] ≡ []
    by true h = cc h
    by false h = cc h
behind_mark (a ∷ b ∷ []) h = by (nat_eq 239 a) (nat_eq 187 b) h
  where
    by : (p q : Bool) → (p && (q && false)) ≡ true → a ∷ b ∷ [] ≡ []
    by true true h = cc h
    by true false h = cc h
    by false q h = cc h
behind_mark (a ∷ b ∷ c ∷ rest) h = by (nat_eq 239 a) (flip 239 a) (nat_eq 187 b) (flip 187 b) (nat_eq 191 c) (flip 191 c) h
  where
    by : (p : Bool) → p ≡ (a == 239) → (q : Bool) → q ≡ (b == 187) → (r : Bool) → r ≡ (c == 191) → (p && (q && (r && true))) ≡ true
        → cond (((a == 239) && (b == 187)) && (c == 191)) rest (a ∷ b ∷ c ∷ rest) ≡ rest
    by true p true q true r h = rw (← p, ← q, ← r) refl
    by true p true q false r h = cc h
    by true p false q s r h = cc h
    by false p t q s r h = cc h

pub no_mark : (bs : List ℕ) → starts_with nat_eq bs mark ≡ false → strip_bom bs ≡ bs
unfolding strip_bom
no_mark [] h = refl
no_mark (a ∷ []) h = refl
no_mark (a ∷ b ∷ []) h = refl
no_mark (a ∷ b ∷ c ∷ rest) h = by (nat_eq 239 a) (flip 239 a) (nat_eq 187 b) (flip 187 b) (nat_eq 191 c) (flip 191 c) h
  where
    by : (p : Bool) → p ≡ (a == 239) → (q : Bool) → q ≡ (b == 187) → (r : Bool) → r ≡ (c == 191) → (p && (q && (r && true))) ≡ false
        → cond (((a == 239) && (b == 187)) && (c == 191)) rest (a ∷ b ∷ c ∷ rest) ≡ a ∷ b ∷ c ∷ rest
    by true p true q true r h = cc h
    by true p true q false r h = rw (← p, ← q, ← r) refl
    by true p false q s r h = rw (← p, ← q) refl
    by false p t q s r h = rw (← p) refl

-- ---- the records of a text

no_records : (cfg : Config) (xs : List ℕ) → next_record cfg st.StartRecord [] [] xs ≡ None → records cfg xs ≡ []
unfolding records_from
no_records cfg xs e = let size : length xs + 1 ≡ suc (length xs) = omega arith in rw (size, e) refl

only_record : (cfg : Config) (xs : List ℕ) (p : Read) → next_record cfg st.StartRecord [] [] xs ≡ Some p → next_record cfg p.1 [] [] p.2 ≡ None → records cfg xs ≡ p.0 ∷ []
unfolding records_from
only_record cfg [] p e n = let none : None ≡ Some p = sym (front_ends cfg [] []) ∙ e in absurd (cc none)
only_record cfg (x ∷ xs) p e n = let size : length (x ∷ xs) + 1 ≡ suc (suc (length xs)) = omega arith in rw (size, e, n) refl

more_records : (cfg : Config) (xs : List ℕ) (p q : Read) → next_record cfg st.StartRecord [] [] xs ≡ Some p → next_record cfg p.1 [] [] p.2 ≡ Some q
    → records cfg xs ≡ p.0 ∷ q.0 ∷ records_from cfg (length xs - 1) q.1 q.2
unfolding records_from
more_records cfg [] p q e n = let none : None ≡ Some p = sym (front_ends cfg [] []) ∙ e in absurd (cc none)
more_records cfg (x ∷ xs) p q e n = let size : length (x ∷ xs) + 1 ≡ suc (suc (length xs)) = omega arith in let back : suc (length xs) - 1 ≡ length xs = omega arith in rw (size, e, n, back) refl

module _ (d : ℕ) (text bytes : List ℕ) (same : bytes ≡ strip_bom text) (fields : List (List ℕ)) where
  pub finds_none : IsFirst d bytes fields None → IsSplit (records_of d text) Nothing fields
  unfolding records_of
  finds_none e = ap (records (config_with d)) (sym same) ∙ no_records (config_with d) bytes e

  module _ (end : ℕ) (found : IsFirst d bytes fields (Some end)) where
    pub finds_one : list_any is_other (drop end bytes) ≡ false → IsSplit (records_of d text) One fields
    unfolding records_of
    finds_one h =
        ap (records (config_with d)) (sym same)
        ∙ only_record (config_with d) bytes (fields, found.0, drop end bytes) found.1 (no_more d (drop end bytes) found.0 found.2 h)

    pub finds_more : list_any is_other (drop end bytes) ≡ true → IsSplit (records_of d text) More fields
    unfolding records_of
    finds_more h =
        let next = one_more d (drop end bytes) found.0 found.2 h in (
          next.0.0,
          records_from (config_with d) (length bytes - 1) next.0.1 next.0.2,
          ap (records (config_with d)) (sym same) ∙ more_records (config_with d) bytes (fields, found.0, drop end bytes) next.0 found.1 next.1,
        )
