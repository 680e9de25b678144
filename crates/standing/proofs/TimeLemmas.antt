-- Times of lines, one list behind another.
use Rattle.std.proofs.Common.{◌≡◌, ℕ, ◌+◌, ◌≤◌, List, [], ◌∷◌, ◌++◌, Bool, None, Some, map, refl, sym, subst, arith, ◌==◌}
use Rattle.std.specs.List.{All}
use Rattle.std.specs.Prelude.{Option, is_some, IfSome}
use Rattle.std.proofs.lemmas.List.Elements.{All-append, All-cons, All-nil, All-head, All-tail, All-weaker, All-filter}
use Rattle.entry_model.specs.LogRecord.{LogRecord}
use Rattle.standing.specs.Marks.{Mark, numbered, of_id}
use Rattle.standing.specs.Times.{HaveTimes, NoneLater, IsNotBefore, NeverFall, AreTimed, AreBefore}

have_append : (flags more_flags : List Bool) (marks more : List Mark) → HaveTimes flags marks → HaveTimes more_flags more → HaveTimes (flags ++ more_flags) (marks ++ more)
have_append [] more_flags [] more have also = also
have_append [] more_flags (mark ∷ marks) more have also = absurd have
have_append (flag ∷ flags) more_flags [] more have also = absurd have
have_append (flag ∷ flags) more_flags (mark ∷ marks) more have also = (have.0, have_append flags more_flags marks more have.1 also)

have_numbered : (id n : ℕ) (time : Option ℕ) (flag : Bool) (entries : List LogRecord) → is_some time ≡ flag → HaveTimes (map (λ (entry : LogRecord). flag) entries) (numbered id n time entries)
have_numbered id n time flag [] is = tt
have_numbered id n time flag (entry ∷ entries) is = (is, have_numbered id (n + 1) time flag entries is)

abbrev Follows : Option ℕ → Mark → Type 0
Follows time mark = IsNotBefore time mark.observed

same_follows : (time : Option ℕ) → IsNotBefore time time
same_follows None = tt
same_follows (Some time) = omega arith

all_numbered : (P : Option ℕ → Type 0) (id n : ℕ) (time : Option ℕ) (entries : List LogRecord) → P time → All (λ (mark : Mark). P mark.observed) (numbered id n time entries)
all_numbered P id n time [] holds = All-nil (λ (mark : Mark). P mark.observed)
all_numbered P id n time (entry ∷ entries) holds =
    All-cons (λ (mark : Mark). P mark.observed) (record { id = id; number = n; observed = time; entry = entry }) (numbered id (n + 1) time entries) holds (all_numbered P id (n + 1) time entries holds)

numbered_never_fall : (id n : ℕ) (time : Option ℕ) (entries : List LogRecord) → NeverFall (numbered id n time entries)
numbered_never_fall id n time [] = tt
numbered_never_fall id n time (entry ∷ entries) = (all_numbered (λ t. IsNotBefore time t) id (n + 1) time entries (same_follows time), numbered_never_fall id (n + 1) time entries)

fall_append : (marks more : List Mark) → NeverFall marks → NeverFall more → All (λ (mark : Mark). All (Follows mark.observed) more) marks → NeverFall (marks ++ more)
fall_append [] more never also across = also
fall_append (mark ∷ marks) more never also across = (
  All-append (Follows mark.observed) marks more never.0 (All-head (λ (m : Mark). All (Follows m.observed) more) mark marks across),
  fall_append marks more never.1 also (All-tail (λ (m : Mark). All (Follows m.observed) more) mark marks across),
)

before_follows : (time : Option ℕ) (mark : Mark) (marks : List Mark) → AreBefore time (mark ∷ marks) → IsNotBefore mark.observed time
before_follows None mark marks before = by mark.observed
  where
    by : (observed : Option ℕ) → IsNotBefore observed None
    by None = tt
    by (Some t) = tt
before_follows (Some time) mark marks before = by mark.observed (All-head (λ (m : Mark). IfSome m.observed (λ t. t ≤ time)) mark marks before)
  where
    by : (observed : Option ℕ) → IfSome observed (λ t. t ≤ time) → IsNotBefore observed (Some time)
    by None within = tt
    by (Some t) within = within

before_rest : (time : Option ℕ) (mark : Mark) (marks : List Mark) → AreBefore time (mark ∷ marks) → AreBefore time marks
before_rest None mark marks before = before
before_rest (Some time) mark marks before = All-tail (λ (m : Mark). IfSome m.observed (λ t. t ≤ time)) mark marks before

across_numbered : (marks : List Mark) (id n : ℕ) (time : Option ℕ) (entries : List LogRecord) → AreBefore time marks → All (λ (mark : Mark). All (Follows mark.observed) (numbered id n time entries)) marks
across_numbered [] id n time entries before = All-nil (λ (mark : Mark). All (Follows mark.observed) (numbered id n time entries))
across_numbered (mark ∷ marks) id n time entries before =
    All-cons (λ (m : Mark). All (Follows m.observed) (numbered id n time entries)) mark marks
    (all_numbered (λ t. IsNotBefore mark.observed t) id n time entries (before_follows time mark marks before))
    (across_numbered marks id n time entries (before_rest time mark marks before))

-- some lines more, all with the time that a poll has
pub timed_append : (flags : List Bool) (flag : Bool) (marks : List Mark) (id n : ℕ) (time : Option ℕ) (entries : List LogRecord) → is_some time ≡ flag → AreBefore time marks
    → AreTimed flags marks → AreTimed (flags ++ map (λ (entry : LogRecord). flag) entries) (marks ++ numbered id n time entries)
timed_append flags flag marks id n time entries is before timed = record {
  have = have_append flags (map (λ (entry : LogRecord). flag) entries) marks (numbered id n time entries) timed.have (have_numbered id n time flag entries is);
  never_fall = fall_append marks (numbered id n time entries) timed.never_fall (numbered_never_fall id n time entries) (across_numbered marks id n time entries before);
}

-- each of them has the poll's time
pub numbered_times : (id n : ℕ) (time : Option ℕ) (entries : List LogRecord) → All (λ (mark : Mark). mark.observed ≡ time) (numbered id n time entries)
numbered_times id n time entries = all_numbered (λ t. t ≡ time) id n time entries refl

-- of some of the lines it is told as of all
pub before_of_id : (time : Option ℕ) (id : ℕ) (marks : List Mark) → AreBefore time marks → AreBefore time (of_id id marks)
before_of_id None id marks before = before
before_of_id (Some time) id marks before = All-filter (λ (m : Mark). m.id == id) (λ (m : Mark). IfSome m.observed (λ t. t ≤ time)) marks before

-- lines that all have the poll's time
pub same_before : (time : Option ℕ) (marks : List Mark) → All (λ (mark : Mark). mark.observed ≡ time) marks → AreBefore time marks
same_before None marks same = tt
same_before (Some time) marks same =
    All-weaker (λ (mark : Mark). mark.observed ≡ Some time) (λ (m : Mark). IfSome m.observed (λ t. t ≤ time)) (λ mark is. subst (λ t. IfSome t (λ u. u ≤ time)) (sym is) (omega arith)) marks same

pub before_append : (time : Option ℕ) (marks more : List Mark) → AreBefore time marks → AreBefore time more → AreBefore time (marks ++ more)
before_append None marks more before also = tt
before_append (Some time) marks more before also = All-append (λ (m : Mark). IfSome m.observed (λ t. t ≤ time)) marks more before also

-- no time is greater than a greater one
pub none_later : (time later : ℕ) (marks : List Mark) → time ≤ later → NoneLater time marks → NoneLater later marks
none_later time later marks within none =
    All-weaker (λ (m : Mark). IfSome m.observed (λ t. t ≤ time)) (λ (m : Mark). IfSome m.observed (λ t. t ≤ later)) (λ mark. by mark.observed) marks none
  where
    by : (observed : Option ℕ) → IfSome observed (λ t. t ≤ time) → IfSome observed (λ t. t ≤ later)
    by None is = tt
    by (Some t) is = omega (arith, is, within)

pub kept_before : (stamp : Option ℕ) (observed : ℕ) (marks : List Mark) → IfSome stamp (λ time. observed ≤ time) → NoneLater observed marks → AreBefore stamp marks
kept_before None observed marks later none = tt
kept_before (Some time) observed marks later none = none_later observed time marks later none
