-- What no rows and lines that stand have.
use Rattle.std.proofs.Common.{◌≡◌, ◌≢◌, ℕ, zero, suc, ◌+◌, ◌<◌, ◌≤◌, ◌==◌, List, [], ◌∷◌, ◌++◌, length, drop, get_or, true, refl, sym, ap, subst, ◌∙◌, arith, eq-eqb, length-append, append_assoc, None, Option}
use Rattle.std.specs.List.{All, Contains}
use Rattle.std.specs.Prelude.{Some, slice_get}
use Rattle.std.proofs.lemmas.Bool.{eqb-true}
use Rattle.std.proofs.lemmas.List.Elements.{All-head, All-tail, All-filter, filter_passes}
use Rattle.entry_model.specs.LogRecord.{LogRecord}
use Rattle.outside.specs.Seen.{looked}
use Rattle.outside.specs.World.{Event, create, append, rename, remove, look, miss, unlisted, History, bytes}
use Rattle.standing.specs.Closed.{entries_in, all_made}
use Rattle.standing.specs.Eras.{Eras, last_era}
use Rattle.standing.specs.Marks.{Mark, of_id, numbered, untimed}
use Rattle.standing.specs.Owner.{IsOwner}
use Rattle.standing.specs.Part.{first_point, last_point}
use Rattle.standing.specs.Rows.{Row}
use Rattle.standing.specs.Stands.{RowStands, LinesStand, IsIdOf, IsLine}
use Rattle.standing.specs.Tokens.{used_by, used}
use Rattle.standing.proofs.MarkLemmas.{without_time, untimed-append, untimed-length, of_id-append, of_id-none}
use Rattle.standing.proofs.TokenLemmas.{used-append}

-- a line that stands among others is the last of those of its row up to it
of_id-here : (front back : List Mark) (mark : Mark) → of_id mark.id (front ++ mark ∷ back) ≡ of_id mark.id front ++ mark ∷ of_id mark.id back
of_id-here front back mark =
    let same : (mark.id == mark.id) ≡ true = eq-eqb mark.id mark.id refl in
    let here : of_id mark.id (mark ∷ back) ≡ mark ∷ of_id mark.id back = rw same in
    of_id-append mark.id front (mark ∷ back) ∙ ap (λ (ms : List Mark). of_id mark.id front ++ ms) here

untimed_here : (front back : List Mark) (mark : Mark) → untimed (of_id mark.id (front ++ mark ∷ back)) ≡ untimed (of_id mark.id front) ++ without_time mark ∷ untimed (of_id mark.id back)
untimed_here front back mark = ap untimed (of_id-here front back mark) ∙ untimed-append (of_id mark.id front) (mark ∷ of_id mark.id back)

-- numbered lines have their numbers by their places, and their entries
record IsNumberedAs (n : ℕ) (entries : List LogRecord) (front : List Mark) (mark : Mark) : Type 0 where
  number : mark.number ≡ n + length front
  entry : slice_get entries (length front) ≡ Some mark.entry

numbered_at : (id n : ℕ) (time : Option ℕ) (entries : List LogRecord) (front back : List Mark) (mark : Mark) → numbered id n time entries ≡ front ++ mark ∷ back → IsNumberedAs n entries front mark
numbered_at id n time [] [] back mark is = absurd (let never : ◌≡◌ {A = List Mark} [] (mark ∷ back) = is in cc)
numbered_at id n time [] (first ∷ front) back mark is = absurd (let never : ◌≡◌ {A = List Mark} [] (first ∷ (front ++ mark ∷ back)) = is in cc)
numbered_at id n time (entry ∷ entries) [] back mark is =
    let head : Mark = record { id = id; number = n; observed = time; entry = entry } in
    let both : ◌≡◌ {A = List Mark} (head ∷ numbered id (n + 1) time entries) (mark ∷ back) = is in
    let same : head ≡ mark = cc in
    record { number = sym (ap (λ (m : Mark). m.number) same) ∙ omega arith; entry = ap (λ (m : Mark). Some m.entry) same }
numbered_at id n time (entry ∷ entries) (first ∷ front) back mark is =
    let head : Mark = record { id = id; number = n; observed = time; entry = entry } in
    let both : ◌≡◌ {A = List Mark} (head ∷ numbered id (n + 1) time entries) (first ∷ (front ++ mark ∷ back)) = is in
    let rest : numbered id (n + 1) time entries ≡ front ++ mark ∷ back = cc in
    let told = numbered_at id (n + 1) time entries front back mark rest in
    record { number = omega (arith, told.number); entry = told.entry }

known_id : (rows : List Row) (front back : List Mark) (mark : Mark) → All (λ (m : Mark). IsIdOf rows m.id) (front ++ mark ∷ back) → IsIdOf rows mark.id
known_id rows [] back mark all = All-head (λ (m : Mark). IsIdOf rows m.id) mark back all
known_id rows (first ∷ front) back mark all = known_id rows front back mark (All-tail (λ (m : Mark). IsIdOf rows m.id) first (front ++ mark ∷ back) all)

pub line_of : (eras : Eras) (history : History) (rows : List Row) (next_id : ℕ) (front back : List Mark) (mark : Mark) → LinesStand eras history rows next_id (front ++ mark ∷ back) → IsLine eras history rows front mark
line_of eras history rows next_id front back mark stand =
    let known = known_id rows front back mark stand.no_other_line in
    let row : Row = known.1 in
    let stands = stand.each_row known.0 known.1 known.2 in
    let entries : List LogRecord = entries_in (all_made eras row stands.earlier stands.tokens) in
    let all : untimed (of_id mark.id (front ++ mark ∷ back)) ≡ numbered mark.id 1 None entries =
    subst (λ id. untimed (of_id id (front ++ mark ∷ back)) ≡ numbered id 1 None entries) known.3 stands.all_lines in
    let told = numbered_at mark.id 1 None entries (untimed (of_id mark.id front)) (untimed (of_id mark.id back)) (without_time mark) (sym all ∙ untimed_here front back mark) in
    let many = untimed-length (of_id mark.id front) in
    record {
      place = known.0;
      row = row;
      at = known.2;
      id = known.3;
      lines = of_id known.1.id (front ++ mark ∷ back);
      stands = stands;
      number = omega (arith, told.number, many);
      entry = subst (λ n. slice_get entries n ≡ Some mark.entry) many told.entry;
    }

pub no_line_twice : (eras : Eras) (history : History) (rows : List Row) (next_id : ℕ) (front middle back : List Mark) (mark : Mark) → LinesStand eras history rows next_id (front ++ mark ∷ (middle ++ mark ∷ back)) → ⊥
no_line_twice eras history rows next_id front middle back mark stand =
    let first = line_of eras history rows next_id front (middle ++ mark ∷ back) mark stand in
    let again : front ++ mark ∷ (middle ++ mark ∷ back) ≡ (front ++ mark ∷ middle) ++ mark ∷ back = sym (append_assoc front (mark ∷ middle) (mark ∷ back)) in
    let second = line_of eras history rows next_id (front ++ mark ∷ middle) back mark (subst (λ (ms : List Mark). LinesStand eras history rows next_id ms) again stand) in
    let longer : length (of_id mark.id (front ++ mark ∷ middle)) ≡ length (of_id mark.id front) + length (mark ∷ of_id mark.id middle) =
    ap length (of_id-here front middle mark) ∙ length-append (of_id mark.id front) (mark ∷ of_id mark.id middle) in
    omega (arith, first.number, second.number, longer)

pub no_other_file : (eras : Eras) (history : History) (rows : List Row) (next_id : ℕ) (front back : List Mark) (mark : Mark) → (IsIdOf rows mark.id → ⊥) → LinesStand eras history rows next_id (front ++ mark ∷ back) → ⊥
no_other_file eras history rows next_id front back mark unknown stand = unknown (known_id rows front back mark stand.no_other_line)

front_numbers : (id n : ℕ) (time : Option ℕ) (entries : List LogRecord) (front back : List Mark) (k : ℕ) (d : Mark) → numbered id n time entries ≡ front ++ back → k < length front → (get_or front k d).number ≡ n + k
front_numbers id n time entries [] back k d is within = absurd (omega (arith, within))
front_numbers id n time [] (first ∷ front) back k d is within = absurd (let never : ◌≡◌ {A = List Mark} [] (first ∷ (front ++ back)) = is in cc)
front_numbers id n time (entry ∷ entries) (first ∷ front) back zero d is within =
    let head : Mark = record { id = id; number = n; observed = time; entry = entry } in
    let both : ◌≡◌ {A = List Mark} (head ∷ numbered id (n + 1) time entries) (first ∷ (front ++ back)) = is in
    let same : head ≡ first = cc in
    sym (ap (λ (m : Mark). m.number) same) ∙ omega arith
front_numbers id n time (entry ∷ entries) (first ∷ front) back (suc k) d is within =
    let head : Mark = record { id = id; number = n; observed = time; entry = entry } in
    let both : ◌≡◌ {A = List Mark} (head ∷ numbered id (n + 1) time entries) (first ∷ (front ++ back)) = is in
    let rest : numbered id (n + 1) time entries ≡ front ++ back = cc in
    let told = front_numbers id (n + 1) time entries front back k d rest (omega (arith, within)) in
    omega (arith, told)

untimed_number : (marks : List Mark) (k : ℕ) (d : Mark) → (get_or marks k d).number ≡ (get_or (untimed marks) k (without_time d)).number
untimed_number [] k d = refl
untimed_number (mark ∷ marks) zero d = refl
untimed_number (mark ∷ marks) (suc k) d = untimed_number marks k d

module _ (eras : Eras) (history : History) (rows : List Row) (next_id : ℕ) where
  pub no_line_missing : (front back : List Mark) (mark : Mark) (n : ℕ) → mark.number ≡ n + 2 → All (λ (other : Mark). other.id ≡ mark.id → other.number ≢ n + 1) front → LinesStand eras history rows next_id (front ++ mark ∷ back) → ⊥
  no_line_missing front back mark n is none stand =
      let known = known_id rows front back mark stand.no_other_line in
      let row : Row = known.1 in
      let stands = stand.each_row known.0 known.1 known.2 in
      let lines : List Mark = of_id mark.id front in
      let entries : List LogRecord = entries_in (all_made eras row stands.earlier stands.tokens) in
      let all : untimed (of_id mark.id (front ++ mark ∷ back)) ≡ numbered mark.id 1 None entries =
      subst (λ id. untimed (of_id id (front ++ mark ∷ back)) ≡ numbered id 1 None entries) known.3 stands.all_lines in
      let parts : numbered mark.id 1 None entries ≡ untimed lines ++ without_time mark ∷ untimed (of_id mark.id back) = sym all ∙ untimed_here front back mark in
      let same_many = untimed-length lines in
      let many : length lines ≡ n + 1 = omega (arith, is, same_many, (numbered_at mark.id 1 None entries (untimed lines) (untimed (of_id mark.id back)) (without_time mark) parts).number) in
      let inside : n < length lines = omega (arith, many) in
      let number : (get_or lines n mark).number ≡ n + 1 =
      untimed_number lines n mark ∙ front_numbers mark.id 1 None entries (untimed lines) (without_time mark ∷ untimed (of_id mark.id back)) n (without_time mark) parts (omega (arith, inside, same_many)) ∙ omega arith in
      let its_id : ((get_or lines n mark).id == mark.id) ≡ true = filter_passes (λ (m : Mark). m.id == mark.id) front n mark inside in
      All-filter (λ (m : Mark). m.id == mark.id) (λ (other : Mark). other.id ≡ mark.id → other.number ≢ n + 1) front none n mark inside (eqb-true (get_or lines n mark).id mark.id its_id) number

  pub first_is_one : (front back : List Mark) (mark : Mark) → All (λ (other : Mark). other.id ≢ mark.id) front → LinesStand eras history rows next_id (front ++ mark ∷ back) → mark.number ≡ 1
  first_is_one front back mark none stand =
      let told = line_of eras history rows next_id front back mark stand in
      let before : of_id mark.id front ≡ [] = of_id-none (λ id. id ≢ mark.id) mark.id front (λ differs. differs refl) none in
      told.number ∙ ap (λ (ms : List Mark). 1 + length ms) before

pub offset_within : (eras : Eras) (history : History) (row : Row) (lines : List Mark) (stands : RowStands eras history row lines)
    → let point = last_point (first_point row) row.ends in
    row.offset ≤ point.offset + used (last_era eras) (drop point.offset (bytes history stands.file))
offset_within eras history row lines stands =
    let up = stands.taken.bound in
    omega (arith, stands.taken.begins, up.uses, ap used_by up.split, used-append up.taken up.behind)

further : (files : List ℕ) (first file : ℕ) → Contains files file → Contains (first ∷ files) file
further files first file inside = (suc inside.0, omega (arith, inside.1), inside.2)

looked_at : (later : List Event) (file : ℕ) (moment : History) → Contains (looked (later ++ look file ∷ moment)) file
looked_at [] file moment = (0, omega arith, refl)
looked_at (create _ _ ∷ later) file moment = looked_at later file moment
looked_at (append _ _ ∷ later) file moment = looked_at later file moment
looked_at (rename _ _ ∷ later) file moment = looked_at later file moment
looked_at (remove _ ∷ later) file moment = looked_at later file moment
looked_at (look other ∷ later) file moment = further (looked (later ++ look file ∷ moment)) other file (looked_at later file moment)
looked_at (miss _ ∷ later) file moment = looked_at later file moment
looked_at (unlisted _ ∷ later) file moment = looked_at later file moment

pub owner_was_looked_at : (eras : Eras) (history : History) (row : Row) (file : ℕ) → IsOwner eras history row file → Contains (looked history) file
owner_was_looked_at eras history row file owner = subst (λ h. Contains (looked h) file) (sym owner.seen.split) (looked_at owner.seen.later file owner.seen_at)
