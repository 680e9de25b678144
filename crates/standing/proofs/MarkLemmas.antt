-- Lines of one row among others.
use Rattle.std.proofs.Common.{◌≡◌, ◌≢◌, ℕ, ◌+◌, ◌==◌, List, [], ◌∷◌, ◌++◌, length, true, false, refl, ap, subst, ◌∙◌, arith, eq-eqb}
use Rattle.std.specs.List.{All}
use Rattle.std.proofs.lemmas.Bool.{ne_eqb}
use Rattle.std.proofs.lemmas.List.Elements.{filter-append, All-cons, All-nil, All-head, All-tail}
use Rattle.entry_model.specs.LogRecord.{LogRecord}
use Rattle.std.proofs.lemmas.List.{map-append, length-map}
use Rattle.std.specs.Prelude.{Option, None}
use Rattle.standing.specs.Marks.{Mark, of_id, numbered, untimed}

pub of_id-append : (id : ℕ) (marks more : List Mark) → of_id id (marks ++ more) ≡ of_id id marks ++ of_id id more
of_id-append id marks more = filter-append (λ (mark : Mark). mark.id == id) marks more

pub numbered-append : (id n : ℕ) (time : Option ℕ) (entries more : List LogRecord) → numbered id n time (entries ++ more) ≡ numbered id n time entries ++ numbered id (n + length entries) time more
numbered-append id n time [] more = ap (λ k. numbered id k time more) (omega arith)
numbered-append id n time (entry ∷ entries) more =
    let rest = numbered-append id (n + 1) time entries more in
    let same : n + 1 + length entries ≡ n + length (entry ∷ entries) = omega arith in
    ap (λ (ms : List Mark). record { id = id; number = n; observed = time; entry = entry } ∷ ms) (rest ∙ ap (λ k. numbered id (n + 1) time entries ++ numbered id k time more) same)

pub of_id-numbered : (id n : ℕ) (time : Option ℕ) (entries : List LogRecord) → of_id id (numbered id n time entries) ≡ numbered id n time entries
of_id-numbered id n time [] = refl
of_id-numbered id n time (entry ∷ entries) =
    let same : (id == id) ≡ true = eq-eqb id id refl in
    rw same (ap (λ (ms : List Mark). record { id = id; number = n; observed = time; entry = entry } ∷ ms) (of_id-numbered id (n + 1) time entries))

pub of_id-others : (id other n : ℕ) (time : Option ℕ) (entries : List LogRecord) → other ≢ id → of_id id (numbered other n time entries) ≡ []
of_id-others id other n time [] apart = refl
of_id-others id other n time (entry ∷ entries) apart =
    let differs : (other == id) ≡ false = ne_eqb other id apart in
    rw differs (of_id-others id other (n + 1) time entries apart)

pub All-numbered : (P : ℕ → Type 0) (id n : ℕ) (time : Option ℕ) (entries : List LogRecord) → P id → All (λ (mark : Mark). P mark.id) (numbered id n time entries)
All-numbered P id n time [] holds = All-nil (λ (mark : Mark). P mark.id)
All-numbered P id n time (entry ∷ entries) holds =
    All-cons (λ (mark : Mark). P mark.id) (record { id = id; number = n; observed = time; entry = entry }) (numbered id (n + 1) time entries) holds (All-numbered P id (n + 1) time entries holds)

-- no line has an id that the ids of the lines don't have
pub of_id-none : (P : ℕ → Type 0) (id : ℕ) (marks : List Mark) → (P id → ⊥) → All (λ (mark : Mark). P mark.id) marks → of_id id marks ≡ []
of_id-none P id [] never all = refl
of_id-none P id (mark ∷ marks) never all =
    let differs : (mark.id == id) ≡ false = ne_eqb mark.id id (λ e. never (subst P e (All-head (λ (m : Mark). P m.id) mark marks all))) in
    rw differs (of_id-none P id marks never (All-tail (λ (m : Mark). P m.id) mark marks all))

-- ---- without times

abbrev pub without_time : Mark → Mark
without_time mark = record mark { observed = None }

pub untimed-append : (marks more : List Mark) → untimed (marks ++ more) ≡ untimed marks ++ untimed more
untimed-append marks more = map-append without_time marks more

pub untimed-length : (marks : List Mark) → length (untimed marks) ≡ length marks
untimed-length marks = length-map marks without_time

pub untimed-numbered : (id n : ℕ) (time : Option ℕ) (entries : List LogRecord) → untimed (numbered id n time entries) ≡ numbered id n None entries
untimed-numbered id n time [] = refl
untimed-numbered id n time (entry ∷ entries) = ap (λ (ms : List Mark). record { id = id; number = n; observed = None; entry = entry } ∷ ms) (untimed-numbered id (n + 1) time entries)
