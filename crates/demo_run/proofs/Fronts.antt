-- Lines tell their rounds, so the files of a script can be told apart.
use Rattle.std.proofs.Common.{◌≡◌, ◌≢◌, ℕ, zero, suc, ◌<◌, ◌≤◌, ◌==◌, List, [], ◌∷◌, ◌++◌, length, take, drop, refl, sym, ap, subst, ◌∙◌, arith, append_assoc, length-append, length-take}
use Rattle.std.specs.Prelude.{codes, decimal, if◌then◌else◌}
use Rattle.std.specs.Char.{digit_value}
use Rattle.std.specs.Str.Parse.{AllDigits}
use Rattle.std.proofs.lemmas.Fmt.{decimal_injective, decimal_is_IsNumeral, length-decimal-le}
use Rattle.std.proofs.lemmas.List.{take-append-drop}
use Rattle.demo_run.specs.Script.{line_of, log_of, played}
use Rattle.demo_run.specs.Steps.{IsOfRounds, steps_in, steps_of}
use Rattle.demo_run.proofs.Cases.{latest}
use Rattle.demo_run.proofs.Contents.{IsWritten, begins, content, file_of_round, written_at}
use Rattle.outside.specs.World.{create, append, rename, remove, look, miss, unlisted, History, bytes}
use Rattle.standing.specs.Apart.{Apart, AreApart}
use Rattle.standing.specs.Prefixes.{IsPrefix}

-- ---- lines

abbrev NoBlank : List ℕ → Type 0
NoBlank [] = Unit {0}
NoBlank (byte ∷ bytes) = (byte ≢ 32) × NoBlank bytes

no_blanks : (digits : List ℕ) → AllDigits 10 digits → NoBlank digits
no_blanks [] all = tt
no_blanks (digit ∷ digits) all = (λ blank. (let never : 36 < 10 = subst (λ (c : ℕ). digit_value c < 10) blank all.0 in omega (arith, never)), no_blanks digits all.1)

number_plain : (round : ℕ) → round ≤ 1000 → NoBlank (decimal round)
number_plain round few = no_blanks (decimal round) (decimal_is_IsNumeral round (omega (arith, few))).0.1

pub line_short : (round : ℕ) → round ≤ 1000 → length (line_of round) ≤ 16
line_short round few =
    let number : List ℕ = decimal round in
    let log : List ℕ = decimal (log_of round) in
    omega (
      arith,
      length-decimal-le 4 round (omega arith) (omega (arith, few)) (omega (arith, few)),
      length-decimal-le 1 (log_of round) (omega arith) (omega arith) (omega arith),
      length-append ((number ++ codes " k") ++ log) (codes "\n"),
      length-append (number ++ codes " k") log,
      length-append number (codes " k"),
    )

-- what stands before the first blank
same_front : (front other new rest : List ℕ) → NoBlank front → NoBlank other → front ++ 32 ∷ new ≡ other ++ 32 ∷ rest → front ≡ other
same_front [] [] new rest one one_other same = refl
same_front [] (byte ∷ other) new rest one one_other same =
    let is : 32 ≡ byte = cc (same) in absurd (one_other.0 (sym is))
same_front (byte ∷ front) [] new rest one one_other same =
    let is : byte ≡ 32 = cc (same) in absurd (one.0 is)
same_front (byte ∷ front) (next ∷ other) new rest one one_other same =
    let behind : front ++ 32 ∷ new ≡ other ++ 32 ∷ rest = cc (same) in
    let first : byte ≡ next = cc (same) in
    let more : front ≡ other = same_front front other new rest one.1 one_other.1 behind in
    cc (first, more)

-- what stands behind a round's number
abbrev tail_of : ℕ → List ℕ → List ℕ
tail_of round more = 107 ∷ (decimal (log_of round) ++ (codes "\n" ++ more))

number_first : (round : ℕ) (more : List ℕ) → line_of round ++ more ≡ 114 ∷ (decimal round ++ 32 ∷ tail_of round more)
number_first round more =
    let number : List ℕ = decimal round in
    let log : List ℕ = decimal (log_of round) in
    ap (λ (t : List ℕ). 114 ∷ t) (append_assoc ((number ++ codes " k") ++ log) (codes "\n") more ∙ append_assoc (number ++ codes " k") log (codes "\n" ++ more) ∙ append_assoc number (codes " k") (log ++ (codes "\n" ++ more)))

one_round : (round other : ℕ) (more rest : List ℕ) → round ≤ 1000 → other ≤ 1000 → line_of round ++ more ≡ line_of other ++ rest → round ≡ other
one_round round other more rest few few_other same =
    let whole : 114 ∷ (decimal round ++ 32 ∷ tail_of round more) ≡ 114 ∷ (decimal other ++ 32 ∷ tail_of other rest) = sym (number_first round more) ∙ same ∙ number_first other rest in
    let behind : decimal round ++ 32 ∷ tail_of round more ≡ decimal other ++ 32 ∷ tail_of other rest = cc (whole) in
    decimal_injective round other (omega (arith, few)) (omega (arith, few_other)) (same_front (decimal round) (decimal other) (tail_of round more) (tail_of other rest) (number_plain round few) (number_plain other few_other) behind)

-- ---- fronts

front_taken : (line more : List ℕ) (n : ℕ) → length line ≤ n → (rest : List ℕ) × (take n (line ++ more) ≡ line ++ rest)
front_taken [] more n within = (take n more, refl)
front_taken (byte ∷ line) more zero within = absurd (omega (arith, within))
front_taken (byte ∷ line) more (suc n) within =
    let behind = front_taken line more n (omega (arith, within)) in
    (behind.0, ap (λ (t : List ℕ). byte ∷ t) behind.1)

-- texts that begin with lines and of which one's front begins the other's begin with the line of one round
told : (n round other : ℕ) (more rest : List ℕ) → round ≤ 1000 → other ≤ 1000 → 16 ≤ n → IsPrefix (take n (line_of round ++ more)) (take n (line_of other ++ rest)) → round ≡ other
told n round other more rest few few_other wide prefix =
    let short : List ℕ = take n (line_of round ++ more) in
    let long : List ℕ = line_of other ++ rest in
    let front = front_taken (line_of round) more n (omega (arith, line_short round few, wide)) in
    let split : take n long ≡ short ++ drop (length short) (take n long) = sym (take-append-drop (length short) (take n long)) ∙ ap (λ (t : List ℕ). t ++ drop (length short) (take n long)) prefix in
    let behind : List ℕ = drop (length short) (take n long) ++ drop n long in
    let whole : long ≡ short ++ behind =
    sym (take-append-drop n long) ∙ ap (λ (t : List ℕ). t ++ drop n long) split ∙ append_assoc short (drop (length short) (take n long)) (drop n long) in
    let begun : long ≡ line_of round ++ (front.0 ++ behind) = whole ∙ ap (λ (t : List ℕ). t ++ behind) front.1 ∙ append_assoc (line_of round) front.0 behind in
    one_round round other (front.0 ++ behind) rest few few_other (sym begun)

module _ (most size : ℕ) (few : most ≤ 1000) (wide : 16 ≤ size) where
  -- the front of one file that isn't empty begins that of no other
  no_prefix : (m n file other : ℕ) → m ≤ most → n ≤ most → 0 < length (content m file) → 0 < length (content n other) → file ≢ other → IsPrefix (take size (content m file)) (take size (content n other)) → ⊥
  no_prefix m n file other within within_other filled filled_other differ prefix =
      let one = begins m file filled in
      let another = begins n other filled_other in
      let lines : IsPrefix (take size (line_of one.round ++ one.rest)) (take size (line_of another.round ++ another.rest)) =
      subst (λ (t : List ℕ). IsPrefix (take size (line_of one.round ++ one.rest)) (take size t)) another.is (subst (λ (t : List ℕ). IsPrefix (take size t) (take size (content n other))) one.is prefix) in
      let same : one.round ≡ another.round = told size one.round another.round one.rest another.rest (omega (arith, one.few, within, few)) (omega (arith, another.few, within_other, few)) wide lines in
      differ (sym one.file_is ∙ ap file_of_round same ∙ another.file_is)

  -- nor that of an empty one
  not_empty : (long short : List ℕ) → 0 < length long → IsPrefix (take size long) (take size short) → 0 < length short
  not_empty long short filled prefix = omega (arith, filled, wide, ap length prefix, length-take (length (take size long)) (take size short), length-take size long, length-take size short)

  contents_apart : (m n file other : ℕ) → m ≤ most → n ≤ most → file ≢ other → 0 < length (content m file) → AreApart (take size (content m file)) (take size (content n other))
  contents_apart m n file other within within_other differ filled = record {
    not_grown = λ prefix. no_prefix m n file other within within_other filled (not_empty (content m file) (content n other) filled prefix) differ prefix;
    not_shrunk = λ some prefix.
        let filled_other : 0 < length (content n other) = omega (arith, some, length-take size (content n other)) in
        no_prefix n m other file within_other within filled_other filled (λ e. differ (sym e)) prefix;
  }

-- ---- histories

pub steps_append : (later moment : History) → steps_of (later ++ moment) ≡ steps_of later ++ steps_of moment
steps_append [] moment = refl
steps_append (create file path ∷ later) moment = ap (λ (h : History). create file path ∷ h) (steps_append later moment)
steps_append (append file more ∷ later) moment = ap (λ (h : History). append file more ∷ h) (steps_append later moment)
steps_append (rename file path ∷ later) moment = ap (λ (h : History). rename file path ∷ h) (steps_append later moment)
steps_append (remove file ∷ later) moment = ap (λ (h : History). remove file ∷ h) (steps_append later moment)
steps_append (look _ ∷ later) moment = steps_append later moment
steps_append (miss _ ∷ later) moment = steps_append later moment
steps_append (unlisted _ ∷ later) moment = steps_append later moment

pub bytes_of_steps : (history : History) (file : ℕ) → bytes history file ≡ bytes (steps_of history) file
bytes_of_steps [] file = refl
bytes_of_steps (create _ _ ∷ before) file = bytes_of_steps before file
bytes_of_steps (append other more ∷ before) file = ap (λ (b : List ℕ). b ++ (if other == file then more else [])) (bytes_of_steps before file)
bytes_of_steps (rename _ _ ∷ before) file = bytes_of_steps before file
bytes_of_steps (remove _ ∷ before) file = bytes_of_steps before file
bytes_of_steps (look _ ∷ before) file = bytes_of_steps before file
bytes_of_steps (miss _ ∷ before) file = bytes_of_steps before file
bytes_of_steps (unlisted _ ∷ before) file = bytes_of_steps before file

pub apart_by_rounds : (rounds size : ℕ) (history : History) → rounds ≤ 1000 → 16 ≤ size → IsOfRounds rounds history → Apart size history
apart_by_rounds rounds size history few wide of file other moment earlier look_file look_other differ filled =
    let late : History = steps_of look_file.later in
    let mid : History = steps_of look_other.later in
    let at_file : steps_of history ≡ late ++ steps_of moment = ap steps_of look_file.split ∙ steps_append look_file.later (look file ∷ moment) in
    let at_other : steps_of moment ≡ mid ++ steps_of earlier = ap steps_of look_other.split ∙ steps_append look_other.later (look other ∷ earlier) in
    let whole : steps_in (latest (played rounds)) ≡ (late ++ mid) ++ steps_of earlier = sym of ∙ at_file ∙ ap (λ (h : History). late ++ h) at_other ∙ sym (append_assoc late mid (steps_of earlier)) in
    let now : IsWritten rounds (steps_of moment) = written_at rounds rounds late (steps_of moment) (omega arith) (sym of ∙ at_file) in
    let early : IsWritten rounds (steps_of earlier) = written_at rounds rounds (late ++ mid) (steps_of earlier) (omega arith) whole in
    let has_file : bytes moment file ≡ content now.rounds file = bytes_of_steps moment file ∙ now.are file in
    let has_other : bytes earlier other ≡ content early.rounds other = bytes_of_steps earlier other ∙ early.are other in
    let filled_early : 0 < length (content early.rounds other) = omega (arith, filled, ap length has_other) in
    let contents = contents_apart rounds size few wide early.rounds now.rounds other file early.few now.few differ filled_early in
    subst (λ (b : List ℕ). AreApart (take size b) (take size (bytes moment file))) (sym has_other) (subst (λ (b : List ℕ). AreApart (take size (content early.rounds other)) (take size b)) (sym has_file) contents)
