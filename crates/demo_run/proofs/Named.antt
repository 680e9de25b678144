-- Each file that a round of a script wrote to has a name that a script gives.
use Rattle.std.proofs.Common.{◌≡◌, ◌≢◌, ℕ, zero, suc, ◌+◌, ◌<◌, ◌≤◌, ◌%◌, ◌==◌, List, [], ◌∷◌, ◌++◌, length, Bool, Option, Some, None, refl, sym, ap, subst, ◌∙◌, inl, inr, arith, eq-eqb}
use Rattle.std.specs.Prelude.{if◌then◌else◌, not, All}
use Rattle.std.proofs.lemmas.Bool.{cases_eq, ne_eqb}
use Rattle.std.proofs.lemmas.List.Elements.{All-cons, All-filter, All-nil, All-weaker}
use Rattle.demo_run.specs.Moves.{Move, step, poll, stop, reopen}
use Rattle.demo_run.specs.Script.{Played, played, with_move, with_name, with_new_file, line_of, log_of, log_name, rotated_name}
use Rattle.demo_run.specs.Steps.{steps_in}
use Rattle.demo_run.proofs.Cases.{latest, latest_is, by_file, by_line, by_rotation, by_stop, filed, lined, rotated, stopped}
use Rattle.demo_run.proofs.Contents.{AllMoments, at_moment, chosen, file_of_round}
use Rattle.demo_run.proofs.Names.{named_behind, named_first, not_its, of_named}
use Rattle.demo_run.proofs.NameTexts.{IsGiven, of_log, of_rotation, given_later, no_log, one_log, one_rotation}
use Rattle.lifetimes.specs.Small.{created}
use Rattle.outside.specs.World.{create, append, rename, History, Names, file_at, names, without}
use Rattle.poll_core.proofs.GoneLemmas.{without_keeps}

-- ---- what the names are

abbrev Logs : Type 0
Logs = ℕ → Option ℕ

-- a log's name now, or one that a file got in one of n rounds
data IsNow (n : ℕ) (logs : Logs) (path : List ℕ) (file : ℕ) : Type 0 where
  log_now : (log : ℕ) → log < 3 → path ≡ log_name log → logs log ≡ Some file → IsNow n logs path file
  rotated_now : (round : ℕ) → round ≤ n → path ≡ rotated_name round → IsNow n logs path file

given_now : (n : ℕ) (logs : Logs) (path : List ℕ) (file : ℕ) → IsNow n logs path file → IsGiven n path
given_now n logs path file (log_now log some is has) = of_log log some is
given_now n logs path file (rotated_now round few is) = of_rotation round few is

abbrev EachNow : ℕ → Logs → Names → Type 0
EachNow n logs names = All (λ (name : List ℕ × ℕ). IsNow n logs name.0 name.1) names

abbrev pub EachGiven : ℕ → Names → Type 0
EachGiven most names = All (λ (name : List ℕ × ℕ). IsGiven most name.0) names

-- the file has a name
pub record HasName (n : ℕ) (names : Names) (file : ℕ) : Type 0 where
  pub path : List ℕ
  pub given : IsGiven n path
  pub leads : file_at names path ≡ Some file

-- The names are those of the logs and of rotations, no two logs have one file, and each file's number is below the next.
record AreNamed (n : ℕ) (logs : Logs) (next : ℕ) (names : Names) : Type 0 where
  each : EachNow n logs names
  leads : (log file : ℕ) → log < 3 → logs log ≡ Some file → file_at names (log_name log) ≡ Some file
  one : (log other file : ℕ) → log < 3 → other < 3 → logs log ≡ Some file → logs other ≡ Some file → log ≡ other
  old : (log file : ℕ) → log < 3 → logs log ≡ Some file → file < next

same_file : (one other : ℕ) (file : Option ℕ) → file ≡ Some one → file ≡ Some other → one ≡ other
same_file one other file is is_too = let both : Some one ≡ Some other = sym is ∙ is_too in cc (both)

not_free : (file : ℕ) (option : Option ℕ) → option ≡ Some file → option ≡ None → ⊥
not_free file option some none = let never : Some file ≡ None = sym some ∙ none in cc (never)

none_started : AreNamed 0 (λ log. None) 1 []
none_started = record {
  each = All-nil (λ (name : List ℕ × ℕ). IsNow 0 (λ log. None) name.0 name.1);
  leads = λ log file some is. absurd (let never : None ≡ Some file = is in cc (never));
  one = λ log other file some some_other is is_too. absurd (let never : None ≡ Some file = is in cc (never));
  old = λ log file some is. absurd (let never : None ≡ Some file = is in cc (never));
}

-- ---- a log's name is given

abbrev logs_then : ℕ → ℕ → Logs → Logs
logs_then log next logs = λ other. if other == log then Some next else logs other

abbrev names_then : ℕ → ℕ → Names → Names
names_then log next before = (log_name log, next) ∷ before

module _ (n log next : ℕ) (logs : Logs) (before : Names) (few : n ≤ 1000) (some : log < 3) (free : logs log ≡ None) (was : AreNamed n logs next before) where
  own_then : (logs_then log next logs) log ≡ Some next
  own_then = ap (λ (t : Bool). if t then Some next else logs log) (eq-eqb log log refl)

  other_then : (other : ℕ) → other ≢ log → (logs_then log next logs) other ≡ logs other
  other_then other differ = ap (λ (t : Bool). if t then Some next else logs other) (ne_eqb other log differ)

  -- the name led to no file
  never_led : (path : List ℕ) (file : ℕ) → IsNow n logs path file → log_name log ≡ path → ⊥
  never_led path file (log_now other some_other is has) same =
      let one : log ≡ other = one_log log other some some_other (same ∙ is) in
      not_free file (logs other) has (ap logs (sym one) ∙ free)
  never_led path file (rotated_now round within is) same = no_log log round some (omega (arith, within, few)) (same ∙ is)

  now_then : (path : List ℕ) (file : ℕ) → IsNow n logs path file → IsNow n (logs_then log next logs) path file
  now_then path file (log_now other some_other is has) = log_now other some_other is (other_then other (λ e. not_free file (logs other) has (ap logs e ∙ free)) ∙ has)
  now_then path file (rotated_now round within is) = rotated_now round within is

  keeps_name : (file : ℕ) → HasName n before file → HasName n (names_then log next before) file
  keeps_name file has = record {
    path = has.path;
    given = has.given;
    leads = named_behind has.path (log_name log) next before (never_led has.path file (of_named (IsNow n logs) before has.path file was.each has.leads)) ∙ has.leads;
  }

  leads_then : (other file : ℕ) → other < 3 → (logs_then log next logs) other ≡ Some file → file_at (names_then log next before) (log_name other) ≡ Some file
  leads_then other file some_other is = elim (cases_eq other log) [
    | inl same ↦
        let file_is : next ≡ file = same_file next file ((logs_then log next logs) log) own_then (ap (logs_then log next logs) (sym same) ∙ is) in
        ap (λ (k : ℕ). file_at (names_then log next before) (log_name k)) same ∙ named_first (log_name log) next before ∙ ap (λ (f : ℕ). Some f) file_is
    | inr differ ↦
        named_behind (log_name other) (log_name log) next before (λ e. differ (sym (one_log log other some some_other e))) ∙ was.leads other file some_other (sym (other_then other differ) ∙ is)
  ]

  -- a log that has a file is this one, with the next file, or another, as before
  old_then : (other file : ℕ) → other < 3 → (logs_then log next logs) other ≡ Some file → file < next + 1
  old_then other file some_other is = elim (cases_eq other log) [
    | inl same ↦ omega (arith, same_file next file ((logs_then log next logs) log) own_then (ap (logs_then log next logs) (sym same) ∙ is))
    | inr differ ↦ omega (arith, was.old other file some_other (sym (other_then other differ) ∙ is))
  ]

  only_here : (other : ℕ) → other < 3 → other ≢ log → (logs_then log next logs) other ≡ Some next → ⊥
  only_here other some_other differ is = omega (arith, was.old other next some_other (sym (other_then other differ) ∙ is))

  one_then : (first second file : ℕ) → first < 3 → second < 3 → (logs_then log next logs) first ≡ Some file → (logs_then log next logs) second ≡ Some file → first ≡ second
  one_then first second file some_first some_second is is_too = elim (cases_eq first log) [
    | inl same ↦ elim (cases_eq second log) [
      | inl same_too ↦ same ∙ sym same_too
      | inr differ ↦
          let file_is : next ≡ file = same_file next file ((logs_then log next logs) log) own_then (ap (logs_then log next logs) (sym same) ∙ is) in
          absurd (only_here second some_second differ (is_too ∙ ap (λ (f : ℕ). Some f) (sym file_is)))
    ]
    | inr differ ↦ elim (cases_eq second log) [
      | inl same_too ↦
          let file_is : next ≡ file = same_file next file ((logs_then log next logs) log) own_then (ap (logs_then log next logs) (sym same_too) ∙ is_too) in
          absurd (only_here first some_first differ (is ∙ ap (λ (f : ℕ). Some f) (sym file_is)))
      | inr differ_too ↦ was.one first second file some_first some_second (sym (other_then first differ) ∙ is) (sym (other_then second differ_too) ∙ is_too)
    ]
  ]

  named_by_create : AreNamed n (logs_then log next logs) (next + 1) (names_then log next before)
  named_by_create = record {
    each = All-cons (λ (name : List ℕ × ℕ). IsNow n (logs_then log next logs) name.0 name.1) (log_name log, next) before (log_now log some refl own_then)
        (All-weaker (λ (name : List ℕ × ℕ). IsNow n logs name.0 name.1) (λ (name : List ℕ × ℕ). IsNow n (logs_then log next logs) name.0 name.1) (λ name now. now_then name.0 name.1 now) before was.each);
    leads = leads_then;
    one = one_then;
    old = old_then;
  }

-- ---- the first log's file gets another name

abbrev logs_turned : Logs → Logs
logs_turned logs = λ other. if other == 0 then None else logs other

abbrev names_turned : ℕ → ℕ → Names → Names
names_turned n file before = (rotated_name (suc n), file) ∷ without file before

module _ (n next file : ℕ) (logs : Logs) (before : Names) (few : suc n ≤ 1000) (has : logs 0 ≡ Some file) (was : AreNamed n logs next before) where
  other_turned : (other : ℕ) → other ≢ 0 → (logs_turned logs) other ≡ logs other
  other_turned other differ = ap (λ (t : Bool). if t then None else logs other) (ne_eqb other 0 differ)

  -- a log that has a file is another one, which had it
  had : (log some : ℕ) → (logs_turned logs) log ≡ Some some → (log ≢ 0) × (logs log ≡ Some some)
  had log some is = elim (cases_eq log 0) [
    | inl first ↦ absurd (not_free some ((logs_turned logs) 0) (ap (logs_turned logs) (sym first) ∙ is) refl)
    | inr differ ↦ (differ, sym (other_turned log differ) ∙ is)
  ]

  fresh : (path : List ℕ) (other : ℕ) → IsNow n logs path other → rotated_name (suc n) ≡ path → ⊥
  fresh path other (log_now log some is has_log) same = no_log log (suc n) some few (sym is ∙ sym same)
  fresh path other (rotated_now round within is) same = omega (arith, within, one_rotation (suc n) round few (omega (arith, within, few)) (same ∙ is))

  now_turned : (path : List ℕ) (other : ℕ) → other ≢ file → IsNow n logs path other → IsNow (suc n) (logs_turned logs) path other
  now_turned path other differ (log_now log some is has_log) =
      let apart : log ≢ 0 = λ first. differ (same_file other file (logs 0) (ap logs (sym first) ∙ has_log) has) in
      log_now log some is (other_turned log apart ∙ has_log)
  now_turned path other differ (rotated_now round within is) = rotated_now round (omega (arith, within)) is

  each_turned : EachNow (suc n) (logs_turned logs) (without file before)
  each_turned = λ k d within. now_turned _ _ (not_its file before k d within) (All-filter (λ (name : List ℕ × ℕ). not (name.1 == file)) (λ (name : List ℕ × ℕ). IsNow n logs name.0 name.1) before was.each k d within)

  keeps_turned : (other : ℕ) → HasName n before other → HasName (suc n) (names_turned n file before) other
  keeps_turned other had_name = elim (cases_eq other file) [
    | inl same ↦ record {
      path = rotated_name (suc n);
      given = of_rotation (suc n) (omega arith) refl;
      leads = named_first (rotated_name (suc n)) file (without file before) ∙ ap (λ (f : ℕ). Some f) (sym same);
    }
    | inr differ ↦ record {
      path = had_name.path;
      given = given_later n (suc n) had_name.path (omega arith) had_name.given;
      leads = named_behind had_name.path (rotated_name (suc n)) file (without file before) (fresh had_name.path other (of_named (IsNow n logs) before had_name.path other was.each had_name.leads))
          ∙ without_keeps file before had_name.path other differ had_name.leads;
    }
  ]

  leads_turned : (log some : ℕ) → log < 3 → (logs_turned logs) log ≡ Some some → file_at (names_turned n file before) (log_name log) ≡ Some some
  leads_turned log some within is =
      let now = had log some is in
      let differ : some ≢ file = λ e. now.0 (was.one log 0 file within (omega arith) (now.1 ∙ ap (λ (f : ℕ). Some f) e) has) in
      named_behind (log_name log) (rotated_name (suc n)) file (without file before) (λ e. no_log log (suc n) within few (sym e))
      ∙ without_keeps file before (log_name log) some differ (was.leads log some within now.1)

  named_by_rename : AreNamed (suc n) (logs_turned logs) next (names_turned n file before)
  named_by_rename = record {
    each = All-cons (λ (name : List ℕ × ℕ). IsNow (suc n) (logs_turned logs) name.0 name.1) (rotated_name (suc n), file) (without file before) (rotated_now (suc n) (omega arith) refl) each_turned;
    leads = leads_turned;
    one = λ first second some some_first some_second is is_too. was.one first second some some_first some_second (had first some is).1 (had second some is_too).1;
    old = λ log some within is. was.old log some within (had log some is).1;
  }

-- ---- one more round

now_later : (n : ℕ) (logs : Logs) (path : List ℕ) (file : ℕ) → IsNow n logs path file → IsNow (suc n) logs path file
now_later n logs path file (log_now log some is has) = log_now log some is has
now_later n logs path file (rotated_now round within is) = rotated_now round (omega (arith, within)) is

named_later : (n next : ℕ) (logs : Logs) (names : Names) → AreNamed n logs next names → AreNamed (suc n) logs next names
named_later n next logs names was = record {
  each = All-weaker (λ (name : List ℕ × ℕ). IsNow n logs name.0 name.1) (λ (name : List ℕ × ℕ). IsNow (suc n) logs name.0 name.1) (λ name now. now_later n logs name.0 name.1 now) names was.each;
  leads = was.leads;
  one = was.one;
  old = was.old;
}

has_later : (n : ℕ) (names : Names) (file : ℕ) → HasName n names file → HasName (suc n) names file
has_later n names file has = record { path = has.path; given = given_later n (suc n) has.path (omega arith) has.given; leads = has.leads }

-- ---- the script

-- So many rounds were behind, the files of so many have names, and so many files were made.
record Stage (n rounds made : ℕ) (logs : Logs) (next : ℕ) (history : History) : Type 0 where
  named : AreNamed n logs next (names history)
  has : (round : ℕ) → 1 ≤ round → round ≤ rounds → HasName n (names history) (file_of_round round)
  all : AllMoments (λ (moment : History). EachGiven 1000 (names moment)) history
  few : length (created history) ≤ made

abbrev At : ℕ → ℕ → ℕ → Played → Type 0
At n rounds made so_far = Stage n rounds made so_far.files so_far.next_file (steps_in (latest so_far))

given_all : (n : ℕ) (logs : Logs) (names : Names) → n ≤ 1000 → EachNow n logs names → EachGiven 1000 names
given_all n logs names few each = All-weaker (λ (name : List ℕ × ℕ). IsNow n logs name.0 name.1) (λ (name : List ℕ × ℕ). IsGiven 1000 name.0) (λ name now. given_later n 1000 name.0 few (given_now n logs name.0 name.1 now)) names each

has_next : (n rounds : ℕ) (names : Names) → ((round : ℕ) → 1 ≤ round → round ≤ rounds → HasName n names (file_of_round round)) → HasName n names (file_of_round (suc rounds))
    → (round : ℕ) → 1 ≤ round → round ≤ suc rounds → HasName n names (file_of_round round)
has_next n rounds names has last round some within = elim (cases_eq round (suc rounds)) [
  | inl same ↦ subst (λ (r : ℕ). HasName n names (file_of_round r)) (sym same) last
  | inr differ ↦ has round some (omega (arith, within, differ))
]

by_move : (n rounds made : ℕ) (move : Move) (so_far : Played) → Stage n rounds made so_far.files so_far.next_file (steps_in (move ∷ latest so_far)) → At n rounds made (with_move move so_far)
by_move n rounds made move so_far stage = subst (λ (ms : List Move). Stage n rounds made so_far.files so_far.next_file (steps_in ms)) (sym (latest_is move so_far)) stage

-- the round's file has the name of its log
old_file : (n made file : ℕ) → (played n).files (log_of (suc n)) ≡ Some file → At n n made (played n) → At n (suc n) (suc made) (played n)
old_file n made file is stage = record {
  named = stage.named;
  has = has_next n n (names (steps_in (latest (played n)))) stage.has (record {
    path = log_name (log_of (suc n));
    given = of_log (log_of (suc n)) (omega arith) refl;
    leads = stage.named.leads (log_of (suc n)) file (omega arith) is ∙ ap (λ (f : ℕ). Some f) (sym (ap (λ (o : Option ℕ). chosen o (played n).next_file) is));
  });
  all = stage.all;
  few = omega (arith, stage.few);
}

new_file : (n made : ℕ) → n ≤ 1000 → (played n).files (log_of (suc n)) ≡ None → At n n made (played n) → At n (suc n) (suc made) (with_new_file (log_of (suc n)) (played n))
new_file n made few free stage =
    let before : Played = played n in
    let log : ℕ = log_of (suc n) in
    let some : log < 3 = omega arith in
    let history : History = steps_in (latest before) in
    let now = named_by_create n log before.next_file before.files (names history) few some free stage.named in
    let logs : Logs = logs_then log before.next_file before.files in
    let made_now : Stage n (suc n) (suc made) logs (before.next_file + 1) (create before.next_file (log_name log) ∷ history) = record {
      named = now;
      has = has_next n n (names (create before.next_file (log_name log) ∷ history)) (λ round from within. keeps_name n log before.next_file before.files (names history) few some free stage.named (file_of_round round) (stage.has round from within)) (record {
        path = log_name log;
        given = of_log log some refl;
        leads = named_first (log_name log) before.next_file (names history) ∙ ap (λ (f : ℕ). Some f) (sym (ap (λ (o : Option ℕ). chosen o before.next_file) free));
      });
      all = (given_all n logs (names (create before.next_file (log_name log) ∷ history)) few now.each, stage.all);
      few = omega (arith, stage.few);
    } in
    subst (λ (ms : List Move). Stage n (suc n) (suc made) logs (before.next_file + 1) (steps_in ms)) (sym (latest_is (step (create before.next_file (log_name log))) before)) made_now

files : (n made : ℕ) → n ≤ 1000 → At n n made (played n) → At n (suc n) (suc made) (filed n)
files n made few stage = by_file (At n (suc n) (suc made)) (suc n) (played n) (λ file is. old_file n made file is stage) (λ free. new_file n made few free stage)

writes : (n made : ℕ) → n ≤ 1000 → At n (suc n) made (filed n) → At n (suc n) made (lined n)
writes n made few stage =
    by_line (At n (suc n) made) (suc n) (filed n)
    (λ file is. by_move n (suc n) made (step (append file (line_of (suc n)))) (filed n) (record {
      named = stage.named;
      has = stage.has;
      all = (given_all n (filed n).files (names (steps_in (latest (filed n)))) few stage.named.each, stage.all);
      few = stage.few;
    }))
    (λ free. stage)

turned : (n rounds made file : ℕ) → suc n ≤ 1000 → (so_far : Played) → so_far.files 0 ≡ Some file → At n rounds made so_far → At (suc n) rounds made (with_name 0 None (with_move (step (rename file (rotated_name (suc n)))) so_far))
turned n rounds made file few so_far is stage =
    let history : History = steps_in (latest so_far) in
    let now = named_by_rename n so_far.next_file file so_far.files (names history) few is stage.named in
    let logs : Logs = logs_turned so_far.files in
    let made_now : Stage (suc n) rounds made logs so_far.next_file (rename file (rotated_name (suc n)) ∷ history) = record {
      named = now;
      has = λ round from within. keeps_turned n so_far.next_file file so_far.files (names history) few is stage.named (file_of_round round) (stage.has round from within);
      all = (given_all (suc n) logs (names (rename file (rotated_name (suc n)) ∷ history)) few now.each, stage.all);
      few = stage.few;
    } in
    subst (λ (ms : List Move). Stage (suc n) rounds made logs so_far.next_file (steps_in ms)) (sym (latest_is (step (rename file (rotated_name (suc n)))) so_far)) made_now

not_turned : (n rounds made : ℕ) (so_far : Played) → At n rounds made so_far → At (suc n) rounds made so_far
not_turned n rounds made so_far stage = record {
  named = named_later n so_far.next_file so_far.files (names (steps_in (latest so_far))) stage.named;
  has = λ round from within. has_later n (names (steps_in (latest so_far))) (file_of_round round) (stage.has round from within);
  all = stage.all;
  few = stage.few;
}

turns : (n made : ℕ) → suc n ≤ 1000 → At n (suc n) made (lined n) → At (suc n) (suc n) made (rotated n)
turns n made few stage =
    by_rotation (At (suc n) (suc n) made) (suc n) (lined n)
    (λ due file is. turned n (suc n) made file few (lined n) is stage)
    (not_turned n (suc n) made (lined n) stage)

stops : (n : ℕ) → At (suc n) (suc n) (suc n) (rotated n) → At (suc n) (suc n) (suc n) (stopped n)
stops n now =
    let set : Played = with_move (stop (suc n % 13) (suc n % 5)) (rotated n) in
    by_move (suc n) (suc n) (suc n) reopen (with_move poll set)
    (by_move (suc n) (suc n) (suc n) poll set
    (by_move (suc n) (suc n) (suc n) (stop (suc n % 13) (suc n % 5)) (rotated n) now))

stages : (n : ℕ) → n ≤ 1000 → At n n n (played n)
stages zero few = record {
  named = none_started;
  has = λ round some within. absurd (omega (arith, some, within));
  all = All-nil (λ (name : List ℕ × ℕ). IsGiven 1000 name.0);
  few = omega arith;
}
stages (suc n) few =
    let before = stages n (omega (arith, few)) in
    let now : At (suc n) (suc n) (suc n) (rotated n) = turns n (suc n) few (writes n (suc n) (omega (arith, few)) (files n n (omega (arith, few)) before)) in
    by_stop (λ (p : Played). At (suc n) (suc n) (suc n) (with_move poll p)) (suc n) (rotated n)
    (λ due. by_move (suc n) (suc n) (suc n) poll (stopped n) (stops n now))
    (λ not_due. by_move (suc n) (suc n) (suc n) poll (rotated n) now)

-- ---- what is so of a script

pub names_at : (n : ℕ) (later moment : History) → n ≤ 1000 → steps_in (latest (played n)) ≡ later ++ moment → EachGiven 1000 (names moment)
names_at n later moment few is = at_moment (λ (m : History). EachGiven 1000 (names m)) later moment (subst (AllMoments (λ (m : History). EachGiven 1000 (names m))) is (stages n few).all)

pub names_its : (n round : ℕ) → n ≤ 1000 → 1 ≤ round → round ≤ n → HasName n (names (steps_in (latest (played n)))) (file_of_round round)
names_its n round few some within = (stages n few).has round some within

pub few_created : (n : ℕ) → n ≤ 1000 → length (created (steps_in (latest (played n)))) ≤ n
few_created n few = (stages n few).few
