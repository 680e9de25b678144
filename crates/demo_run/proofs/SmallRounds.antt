-- The history of a script is small, and its files have few lines.
use Rattle.std.proofs.Common.{◌≡◌, ℕ, zero, suc, ◌≤◌, List, [], ◌∷◌, ◌++◌, length, drop, Option, None, Some, Bool, true, false, refl, sym, ap, subst, ◌∙◌, inl, inr, arith, append_assoc}
use Rattle.std.specs.List.{All}
use Rattle.std.specs.Prelude.{is_some}
use Rattle.std.proofs.lemmas.List.Elements.{All-head, All-tail, All-weaker}
use Rattle.std.proofs.lemmas.List.Sums.{sum_by-le}
use Rattle.demo_run.specs.Script.{line_of}
use Rattle.demo_run.specs.Steps.{IsOfRounds, steps_of}
use Rattle.demo_run.proofs.Contents.{begins, content, file_of_round, holds_all}
use Rattle.demo_run.proofs.Fronts.{bytes_of_steps, steps_append}
use Rattle.demo_run.proofs.Named.{EachGiven, HasName, few_created, names_at, names_its}
use Rattle.demo_run.proofs.Names.{of_named}
use Rattle.demo_run.proofs.NameTexts.{IsGiven, given_reachable, given_short}
use Rattle.demo_run.proofs.RoundsOf.{are_rounds, content_is, content_short, few_rounds, rounds_of}
use Rattle.demo_run.proofs.Ruled.{IsRuled, entries_of, lines_of_rounds}
use Rattle.lifetimes.specs.Large.{Large, Share, IsShare, entries_of as all_of, text_of}
use Rattle.lifetimes.specs.Small.{IsSmall, created}
use Rattle.outside.specs.World.{create, append, rename, remove, look, miss, unlisted, History, Names, bytes, names, without}
use Rattle.standing.proofs.PrefixLemmas.{begins-true}
use Rattle.standing.specs.Limits.{is_compressed}
use Rattle.standing.specs.Marks.{Mark, numbered, untimed}
use Rattle.standing.specs.Moments.{IsNamed}
use Rattle.standing.specs.Owner.{MayBegin}
use Rattle.standing.specs.Prefixes.{IsPrefix, begins as begins_with}
use Rattle.standing.specs.Rules.{Rules, output_text}
use Rattle.standing.specs.Tokens.{tokens_of}
use Rattle.std.proofs.lemmas.List.{nil_from_length}

-- ---- what the steps of others decide

pub names_of_steps : (history : History) → names history ≡ names (steps_of history)
names_of_steps [] = refl
names_of_steps (create file path ∷ before) = ap (λ (ns : Names). (path, file) ∷ ns) (names_of_steps before)
names_of_steps (append _ _ ∷ before) = names_of_steps before
names_of_steps (rename file path ∷ before) = ap (λ (ns : Names). (path, file) ∷ without file ns) (names_of_steps before)
names_of_steps (remove file ∷ before) = ap (without file) (names_of_steps before)
names_of_steps (look _ ∷ before) = names_of_steps before
names_of_steps (miss _ ∷ before) = names_of_steps before
names_of_steps (unlisted _ ∷ before) = names_of_steps before

created_of_steps : (history : History) → created history ≡ created (steps_of history)
created_of_steps [] = refl
created_of_steps (create file _ ∷ before) = ap (λ (files : List ℕ). file ∷ files) (created_of_steps before)
created_of_steps (append _ _ ∷ before) = created_of_steps before
created_of_steps (rename _ _ ∷ before) = created_of_steps before
created_of_steps (remove _ ∷ before) = created_of_steps before
created_of_steps (look _ ∷ before) = created_of_steps before
created_of_steps (miss _ ∷ before) = created_of_steps before
created_of_steps (unlisted _ ∷ before) = created_of_steps before

-- ---- how a file begins

not_gzip : (more : List ℕ) → IsPrefix (31 ∷ 139 ∷ []) (114 ∷ more) → ⊥
not_gzip more prefix = let first : ◌≡◌ {A = ℕ} 114 31 = cc (prefix) in absurd (omega (arith, first))

not_empty : IsPrefix (31 ∷ 139 ∷ []) [] → ⊥
not_empty prefix = let never : [] ≡ 31 ∷ 139 ∷ [] = prefix in absurd (cc (never))

plain_text : (text : List ℕ) → (IsPrefix (31 ∷ 139 ∷ []) text → ⊥) → is_compressed text ≡ false
plain_text text never =
    let P : Bool → Type 0 = λ t. begins_with (31 ∷ 139 ∷ []) text ≡ t → t ≡ false in
    let all : P (begins_with (31 ∷ 139 ∷ []) text) = elim (begins_with (31 ∷ 139 ∷ []) text) as P [
      | true ↦ λ is. absurd (never (begins-true (31 ∷ 139 ∷ []) text is))
      | false ↦ λ is. refl
    ] in
    all refl

no_front : (n file size : ℕ) → length (content n file) ≡ size → IsPrefix (31 ∷ 139 ∷ []) (content n file) → ⊥
no_front n file zero none prefix = not_empty (subst (λ (t : List ℕ). IsPrefix (31 ∷ 139 ∷ []) t) (nil_from_length (content n file) none) prefix)
no_front n file (suc size) some prefix =
    let first = begins n file (omega (arith, some)) in
    not_gzip (drop 1 (line_of first.round ++ first.rest)) (subst (λ (t : List ℕ). IsPrefix (31 ∷ 139 ∷ []) t) first.is prefix)

append_one : (later : History) (file : ℕ) (moment : History) → (later ++ look file ∷ []) ++ moment ≡ later ++ look file ∷ moment
append_one later file moment = append_assoc later (look file ∷ []) moment

module _ (n : ℕ) (few : n ≤ 1000) (history : History) (of : IsOfRounds n history) where
  pub bytes_are : (file : ℕ) → bytes history file ≡ content n file
  bytes_are file = bytes_of_steps history file ∙ ap (λ (h : History). bytes h file) of ∙ (holds_all n n (omega arith)).now file

  pub lines_are : (file : ℕ) → bytes history file ≡ lines_of_rounds (rounds_of n file)
  lines_are file = bytes_are file ∙ content_is n file

  -- the names at a moment
  pub given_at : (later moment : History) → history ≡ later ++ moment → EachGiven 1000 (names moment)
  given_at later moment split =
      subst (EachGiven 1000) (sym (names_of_steps moment))
      (names_at n (steps_of later) (steps_of moment) few (sym of ∙ ap steps_of split ∙ steps_append later moment))

  given_path : (later moment : History) (path : List ℕ) (file : ℕ) → history ≡ later ++ moment → IsNamed moment path file → IsGiven 1000 path
  given_path later moment path file split named = of_named (λ (p : List ℕ) (f : ℕ). IsGiven 1000 p) (names moment) path file (given_at later moment split) named

  -- a round's file has a name
  pub has_name : (round : ℕ) → 1 ≤ round → round ≤ n → HasName n (names history) (file_of_round round)
  has_name round some within =
      subst (λ (ns : Names). HasName n ns (file_of_round round)) (sym (names_of_steps history ∙ ap names of)) (names_its n round few some within)

  pub small : IsSmall history
  small = record {
    short = λ file. omega (arith, ap length (bytes_are file), content_short n file few, few);
    plain = λ file. plain_text (bytes history file) (λ prefix. no_front n file (length (content n file)) refl (subst (λ (t : List ℕ). IsPrefix (31 ∷ 139 ∷ []) t) (bytes_are file) prefix));
    reachable = λ path file named. given_reachable path (given_path [] history path file refl named);
    few = omega (arith, ap length (created_of_steps history ∙ ap created of), few_created n few, few);
  }

  -- ---- how many lines there are

  module _ (rules : Rules) (ruled : IsRuled rules) where
    no_time : (observed : Option ℕ) → is_some observed ≡ false → observed ≡ None
    no_time None is = refl
    no_time (Some time) is = absurd (let never : true ≡ false = is in cc (never))

    -- where no line is to have a time, none has one
    untimed_so : (stamps : Bool) → stamps ≡ false → (marks : List Mark) → All (λ (mark : Mark). is_some mark.observed ≡ stamps) marks → untimed marks ≡ marks
    untimed_so stamps off [] all = refl
    untimed_so stamps off (mark ∷ marks) all =
        let timed = λ (m : Mark). is_some m.observed ≡ stamps in
        ap (λ (observed : Option ℕ). record mark { observed = observed } ∷ untimed marks) (sym (no_time mark.observed (All-head timed mark marks all ∙ off)))
        ∙ ap (λ (ms : List Mark). mark ∷ ms) (untimed_so stamps off marks (All-tail timed mark marks all))

    -- files are read from their beginning
    pub no_start : (file start : ℕ) → MayBegin rules history file start → start ≡ 0
    no_start file start (inl none) = none
    no_start file start (inr at_end) = absurd (let never : true ≡ false = sym at_end.from_end ∙ ruled.from_beginning in cc (never))

    share_within : (share : Share) → IsShare rules history share → length (text_of rules share) ≤ 10000000
    share_within share is =
        let begun : drop share.start (bytes history share.file) ≡ lines_of_rounds (rounds_of n share.file) =
        ap (λ (k : ℕ). drop k (bytes history share.file)) (no_start share.file share.start is.begins) ∙ lines_are share.file in
        let given : IsGiven 1000 share.path = given_path (is.looks.later ++ look share.file ∷ []) is.moment share.path share.file (is.looks.split ∙ sym (append_one is.looks.later share.file is.moment)) is.under in
        let lines : share.lines ≡ numbered share.id 1 None (all_of rules history share) = sym (untimed_so rules.stamps ruled.no_times share.lines is.lines.times) ∙ is.lines.all in
        let text : length (text_of rules share) ≡ length (output_text rules (numbered share.id 1 None (entries_of rules share.path (tokens_of rules (lines_of_rounds (rounds_of n share.file)))))) =
        ap (λ (marks : List Mark). length (output_text rules marks)) lines
        ∙ ap (λ (b : List ℕ). length (output_text rules (numbered share.id 1 None (entries_of rules share.path (tokens_of rules b))))) begun in
        let some : length (rounds_of n share.file) ≤ 1000 = omega (arith, few_rounds n share.file, few) in
        let within = ruled.output (rounds_of n share.file) (are_rounds n share.file few) some share.path (omega (arith, given_short share.path given)) share.id is.few_ids in
        omega (arith, text, within, some)

    pub not_large : Large rules history → ⊥
    not_large large =
        omega (
          arith,
          large.long,
          large.few,
          sum_by-le (λ (share : Share). length (text_of rules share)) 10000000 large.shares
              (All-weaker (IsShare rules history) (λ (share : Share). length (text_of rules share) ≤ 10000000) share_within large.shares large.are),
        )
