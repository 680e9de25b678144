-- What the files of a script have at each moment.
use Rattle.std.proofs.Common.{◌≡◌, ℕ, zero, suc, ◌<◌, ◌≤◌, ◌%◌, ◌==◌, List, [], ◌∷◌, ◌++◌, length, Bool, true, false, Option, Some, None, refl, sym, ap, subst, ◌∙◌, arith, append_assoc, eq-eqb, length-append}
use Rattle.std.specs.Prelude.{if◌then◌else◌}
use Rattle.std.proofs.lemmas.Bool.{eqb-true}
use Rattle.std.proofs.lemmas.List.{append-nil, nil_from_length}
use Rattle.demo_run.specs.Moves.{Move, step, poll, stop, reopen}
use Rattle.demo_run.specs.Script.{Played, played, with_move, with_new_file, with_rotation, line_of, log_of, log_name, rotated_name}
use Rattle.demo_run.specs.Steps.{steps_in}
use Rattle.demo_run.proofs.Cases.{latest, latest_is, by_file, by_line, by_rotation, by_stop, filed, lined, rotated, stopped}
use Rattle.outside.specs.World.{Event, create, append, rename, History, bytes}
use Rattle.std.proofs.lemmas.Option.{same_Some}

-- ---- the file of each round

abbrev pub chosen : Option ℕ → ℕ → ℕ
chosen (Some file) next = file
chosen None next = next

-- the file that round n writes to
abbrev pub file_of_round : ℕ → ℕ
file_of_round zero = 0
file_of_round (suc n) = chosen ((played n).files (log_of (suc n))) (played n).next_file

-- what a file has behind so many rounds
abbrev pub content : ℕ → ℕ → List ℕ
content zero file = []
content (suc n) file = content n file ++ (if file_of_round (suc n) == file then line_of (suc n) else [])

-- ---- moments

-- at each moment of the history
abbrev pub AllMoments : (History → Type 0) → History → Type 0
AllMoments P [] = P []
AllMoments P (event ∷ before) = P (event ∷ before) × AllMoments P before

pub at_moment : (P : History → Type 0) (later moment : History) → AllMoments P (later ++ moment) → P moment
at_moment P [] [] all = all
at_moment P [] (event ∷ before) all = all.0
at_moment P (event ∷ later) moment all = at_moment P later moment all.1

steps : Played → History
steps played = steps_in (latest played)

module _ (most : ℕ) where
  -- the files have what some number of rounds wrote
  pub record IsWritten (moment : History) : Type 0 where
    pub rounds : ℕ
    pub few : rounds ≤ most
    pub are : (file : ℕ) → bytes moment file ≡ content rounds file

  -- so it is at each moment, and so many rounds wrote by now
  pub record Holds (n : ℕ) (history : History) : Type 0 where
    pub all : AllMoments IsWritten history
    pub now : (file : ℕ) → bytes history file ≡ content n file

  by_steps : (P : History → Type 0) (move : Move) (so_far : Played) → P (steps_in (move ∷ latest so_far)) → P (steps_in (latest (with_move move so_far)))
  by_steps P move so_far holds = subst (λ (ms : List Move). P (steps_in ms)) (sym (latest_is move so_far)) holds

  -- an event that leaves what files have
  leaves : (n : ℕ) (event : Event) (history : History) → n ≤ most → ((file : ℕ) → bytes (event ∷ history) file ≡ bytes history file) → Holds n history → Holds n (event ∷ history)
  leaves n event history few same holds = record {
    all = (record { rounds = n; few = few; are = λ file. same file ∙ holds.now file }, holds.all);
    now = λ file. same file ∙ holds.now file;
  }

  grows : (n : ℕ) (file : ℕ) (history : History) → suc n ≤ most → file ≡ file_of_round (suc n) → Holds n history → Holds (suc n) (append file (line_of (suc n)) ∷ history)
  grows n file history few is holds =
      let same : (other : ℕ) → bytes (append file (line_of (suc n)) ∷ history) other ≡ content (suc n) other =
      λ other. ap (λ (b : List ℕ). b ++ (if file == other then line_of (suc n) else [])) (holds.now other) ∙ ap (λ (f : ℕ). content n other ++ (if f == other then line_of (suc n) else [])) is in
      record { all = (record { rounds = suc n; few = few; are = same }, holds.all); now = same }

  -- the file of the round has the log's name
  record Filed (n : ℕ) (so_far : Played) : Type 0 where
    holds : Holds n (steps_in (latest so_far))
    some : so_far.files (log_of (suc n)) ≡ None → ⊥
    chooses : (file : ℕ) → so_far.files (log_of (suc n)) ≡ Some file → file ≡ file_of_round (suc n)

  files_file : (n : ℕ) → n ≤ most → Holds n (steps_in (latest (played n))) → Filed n (filed n)
  files_file n few holds =
      let log : ℕ = log_of (suc n) in
      let before : Played = played n in
      by_file (Filed n) (suc n) before
      (λ file is. record {
        holds = holds;
        some = λ none. (let never : Some file ≡ None = sym is ∙ none in absurd (cc));
        chooses = λ other other_is. same_Some other file (sym other_is ∙ is) ∙ sym (ap (λ (o : Option ℕ). chosen o before.next_file) is);
      })
      (λ free.
      let own : (log == log) ≡ true = eq-eqb log log refl in
      let now : (with_new_file log before).files log ≡ Some before.next_file = ap (λ (t : Bool). if t then Some before.next_file else before.files log) own in
      record {
        holds = subst (λ (ms : List Move). Holds n (steps_in ms)) (sym (latest_is (step (create before.next_file (log_name log))) before)) (leaves n (create before.next_file (log_name log)) (steps_in (latest before)) few (λ file. refl) holds);
        some = λ none. (let never : Some before.next_file ≡ None = sym now ∙ none in absurd (cc));
        chooses = λ other other_is. same_Some other before.next_file (sym other_is ∙ now) ∙ sym (ap (λ (o : Option ℕ). chosen o before.next_file) free);
      })

  writes : (n : ℕ) → suc n ≤ most → Filed n (filed n) → Holds (suc n) (steps_in (latest (lined n)))
  writes n few file =
      by_line (λ (p : Played). Holds (suc n) (steps_in (latest p))) (suc n) (filed n)
      (λ some is. by_steps (Holds (suc n)) (step (append some (line_of (suc n)))) (filed n) (grows n some (steps_in (latest (filed n))) few (file.chooses some is) file.holds))
      (λ none. absurd (file.some none))

  rotates : (n : ℕ) → n ≤ most → (round : ℕ) (so_far : Played) → Holds n (steps_in (latest so_far)) → Holds n (steps_in (latest (with_rotation round so_far)))
  rotates n few round so_far holds =
      by_rotation (λ (p : Played). Holds n (steps_in (latest p))) round so_far
      (λ due file is. by_steps (Holds n) (step (rename file (rotated_name round))) so_far (leaves n (rename file (rotated_name round)) (steps_in (latest so_far)) few (λ other. refl) holds))
      holds

  stops : (n : ℕ) (so_far : Played) → Holds n (steps_in (latest so_far)) → (round : ℕ) → Holds n (steps_in (latest (with_move reopen (with_move poll (with_move (stop (round % 13) (round % 5)) so_far)))))
  stops n so_far holds round =
      by_steps (Holds n) reopen (with_move poll (with_move (stop (round % 13) (round % 5)) so_far))
      (by_steps (Holds n) poll (with_move (stop (round % 13) (round % 5)) so_far)
      (by_steps (Holds n) (stop (round % 13) (round % 5)) so_far holds))

  pub holds_all : (n : ℕ) → n ≤ most → Holds n (steps_in (latest (played n)))
  holds_all zero few = record { all = record { rounds = 0; few = few; are = λ file. refl }; now = λ file. refl }
  holds_all (suc n) few =
      let written = rotates (suc n) few (suc n) (lined n) (writes n few (files_file n (omega (arith, few)) (holds_all n (omega (arith, few))))) in
      by_stop (λ (p : Played). Holds (suc n) (steps_in (latest (with_move poll p)))) (suc n) (rotated n)
      (λ due. by_steps (Holds (suc n)) poll (stopped n) (stops (suc n) (rotated n) written (suc n)))
      (λ not_due. by_steps (Holds (suc n)) poll (rotated n) written)

  pub written_at : (n : ℕ) (later moment : History) → n ≤ most → steps_in (latest (played n)) ≡ later ++ moment → IsWritten moment
  written_at n later moment few is = at_moment IsWritten later moment (subst (AllMoments IsWritten) is (holds_all n few).all)

-- ---- how a file begins

pub record Begins (n file : ℕ) : Type 0 where
  pub round : ℕ
  pub some : 1 ≤ round
  pub few : round ≤ n
  pub file_is : file_of_round round ≡ file
  pub rest : List ℕ
  pub is : content n file ≡ line_of round ++ rest

first_line : (n file : ℕ) (here : Bool) → (file_of_round (suc n) == file) ≡ here → content n file ≡ [] → 0 < length (content n file ++ (if here then line_of (suc n) else [])) → Begins (suc n) file
first_line n file true is empty filled = record {
  round = suc n;
  some = omega arith;
  few = omega arith;
  file_is = eqb-true (file_of_round (suc n)) file is;
  rest = [];
  is = ap (λ (b : List ℕ). b ++ (if file_of_round (suc n) == file then line_of (suc n) else [])) empty ∙ ap (λ (t : Bool). if t then line_of (suc n) else []) is ∙ sym (append-nil (line_of (suc n)));
}
first_line n file false is empty filled = absurd (omega (arith, filled, ap length empty, length-append (content n file) []))

next_begins : (n file size : ℕ) → length (content n file) ≡ size → 0 < length (content (suc n) file) → (0 < length (content n file) → Begins n file) → Begins (suc n) file
next_begins n file zero is filled before = first_line n file (file_of_round (suc n) == file) refl (nil_from_length (content n file) is) filled
next_begins n file (suc size) is filled before =
    let had = before (omega (arith, is)) in
    let more : List ℕ = if file_of_round (suc n) == file then line_of (suc n) else [] in
    record {
      round = had.round;
      some = had.some;
      few = omega (arith, had.few);
      file_is = had.file_is;
      rest = had.rest ++ more;
      is = ap (λ (b : List ℕ). b ++ more) had.is ∙ append_assoc (line_of had.round) had.rest more;
    }

pub begins : (n file : ℕ) → 0 < length (content n file) → Begins n file
begins zero file filled = absurd (omega (arith, filled))
begins (suc n) file filled = next_begins n file (length (content n file)) refl filled (λ had. begins n file had)
