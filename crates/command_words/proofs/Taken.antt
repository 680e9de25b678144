-- The command that is answered where `clap` takes the words, and where it refuses them.
use Rattle.std.proofs.Common.{◌≡◌, ◌||◌, List, [], ◌∷◌, Bool, Option, Some, None, true, false, refl, ap, sym, ◌∙◌, codes, subst, arith, get_or}
use Rattle.std.specs.List.{list_any}
use Rattle.std.specs.Prelude.{find}
use Rattle.std.specs.Str.{bytes_eq}
use Rattle.std.specs.Str.Parse.{starts_with_minus}
use Rattle.std.specs.Fmt.{decimal}
use Rattle.std.proofs.lemmas.Slice.Eq.{bytes_eq-Decides}
use Rattle.clap.specs.Faults.{fault_of}
use Rattle.clap.specs.Kinds.{or_else}
use Rattle.clap.specs.Simple.{names_of, subcommand_of}
use Rattle.clap.specs.Walk.{Row, Text, answers_to, first_of}
use Rattle.command_words.specs.Answers.{Answers, IsNoCommand}
use Rattle.command_words.specs.IsCommand.{IsCommand}
use Rattle.command_words.specs.Program.{program}
use Rattle.command_words.specs.Rounds.{AnswersDemo}
use Rattle.command_words.specs.declared.command.Command.{Command}
use Rattle.command_words.specs.declared.command.Command.TheVariants.{Once, Follow, Adopt, Audit, Committed, Pipe, Demo}
use Rattle.command_words.proofs.CommandLine.{Enters, adopt_enters, agent, audit_enters, committed_enters, demo_enters, follow_enters, no_number_fails, none_more_passes, number_is, number_passes, once_enters, pipe_enters, plain_leaf, unnamed_fails, word_after_number_fails, word_more_fails, words_missing_fail}
use Rattle.command_words.proofs.Commands.{letter_is, plain_decimal}
use Rattle.command_words.proofs.Faults.{first_passes}

-- ---- a first word

data Named (word : Text) : Type 0 where
  once : word ≡ codes "once" → Named word
  follow : word ≡ codes "follow" → Named word
  adopt : word ≡ codes "adopt" → Named word
  audit : word ≡ codes "audit" → Named word
  committed : word ≡ codes "committed" → Named word
  pipe : word ≡ codes "pipe" → Named word
  demo : word ≡ codes "demo" → Named word
  unnamed : find (answers_to word) (names_of agent) ≡ None → Named word

named : (word : Text) → Named word
named word = go (bytes_eq (codes "once") word) refl (bytes_eq (codes "follow") word) refl (bytes_eq (codes "adopt") word) refl (bytes_eq (codes "audit") word) refl (bytes_eq (codes "committed") word) refl (bytes_eq (codes "pipe") word) refl (bytes_eq (codes "demo") word) refl
  where
    same : (name : Text) → bytes_eq name word ≡ true → word ≡ name
    same name e = sym ((bytes_eq-Decides name word).0 e)

    go : (a : Bool) → bytes_eq (codes "once") word ≡ a → (b : Bool) → bytes_eq (codes "follow") word ≡ b → (c : Bool) → bytes_eq (codes "adopt") word ≡ c
        → (d : Bool) → bytes_eq (codes "audit") word ≡ d → (e : Bool) → bytes_eq (codes "committed") word ≡ e → (f : Bool) → bytes_eq (codes "pipe") word ≡ f → (g : Bool) → bytes_eq (codes "demo") word ≡ g → Named word
    go true is b _ c _ d _ e _ f _ g _ = once (same (codes "once") is)
    go false _ true is c _ d _ e _ f _ g _ = follow (same (codes "follow") is)
    go false _ false _ true is d _ e _ f _ g _ = adopt (same (codes "adopt") is)
    go false _ false _ false _ true is e _ f _ g _ = audit (same (codes "audit") is)
    go false _ false _ false _ false _ true is f _ g _ = committed (same (codes "committed") is)
    go false _ false _ false _ false _ false _ true is g _ = pipe (same (codes "pipe") is)
    go false _ false _ false _ false _ false _ false _ true is = demo (same (codes "demo") is)
    go false a false b false c false d false e false f false g = unnamed (rw (a, b, c, d, e, f, g) refl)

-- ---- taken

-- what is answered to the command that was entered
pub record AnswersEntered (entered : Option (Text × List Row)) (answer : Option Command) : Type 0 where
  pub once : (rows : List Row) → entered ≡ Some (codes "once", rows) → answer ≡ Some Once
  pub follow : (rows : List Row) → entered ≡ Some (codes "follow", rows) → answer ≡ Some Follow
  pub adopt : (rows : List Row) → entered ≡ Some (codes "adopt", rows) → answer ≡ Some Adopt
  pub audit : (rows : List Row) → entered ≡ Some (codes "audit", rows) → answer ≡ Some Audit
  pub committed : (rows : List Row) → entered ≡ Some (codes "committed", rows) → answer ≡ Some Committed
  pub pipe : (rows : List Row) → entered ≡ Some (codes "pipe", rows) → answer ≡ Some Pipe
  pub demo : (rows : List Row) (text : Text) → entered ≡ Some (codes "demo", rows) → first_of (codes "rounds") rows ≡ Some text → AnswersDemo text answer

neither : (a b : Bool) → (a || b) ≡ false → (a ≡ false) × (b ≡ false)
neither false b e = (refl, e)
neither true b e = absurd cc

-- a command without an argument is taken alone
alone : (name : Text) (rest : List Text) → Enters name (plain_leaf name) rest → list_any starts_with_minus rest ≡ false → fault_of program (name ∷ rest) ≡ [] → rest ≡ []
alone name [] enters plain none = refl
alone name (word ∷ rest) enters plain none =
    absurd (word_more_fails name word rest (neither (starts_with_minus word) _ plain).0 (first_passes _ [] (sym enters.0 ∙ none)))

-- `demo` is taken with its number
number_answers : (text : Text) (answer : Option Command) → AnswersDemo text answer → Answers (codes "demo" ∷ text ∷ []) answer
number_answers text (Some (Demo n)) h = (h.0, h.1, ap (λ t. codes "demo" ∷ t ∷ []) h.2)
number_answers text (Some Once) h = absurd h
number_answers text (Some Follow) h = absurd h
number_answers text (Some Adopt) h = absurd h
number_answers text (Some Audit) h = absurd h
number_answers text (Some Committed) h = absurd h
number_answers text (Some Pipe) h = absurd h
number_answers text None h = go
  where
    go : (command : Command) → IsCommand (codes "demo" ∷ text ∷ []) command → ⊥
    go (Demo n) spelled = h n (spelled.0, spelled.1, ap (λ (ws : List Text). get_or ws 1 []) spelled.2)
    go Once spelled = let same : 201 ≡ 221 = letter_is _ Once spelled in omega (arith, same)
    go Follow spelled = let same : 201 ≡ 213 = letter_is _ Follow spelled in omega (arith, same)
    go Adopt spelled = let same : 201 ≡ 197 = letter_is _ Adopt spelled in omega (arith, same)
    go Audit spelled = let same : 201 ≡ 214 = letter_is _ Audit spelled in omega (arith, same)
    go Committed spelled = let same : 201 ≡ 210 = letter_is _ Committed spelled in omega (arith, same)
    go Pipe spelled = let same : 201 ≡ 217 = letter_is _ Pipe spelled in omega (arith, same)

demo_taken : (rest : List Text) → list_any starts_with_minus rest ≡ false → fault_of program (codes "demo" ∷ rest) ≡ [] → (answer : Option Command)
    → AnswersEntered (subcommand_of program (codes "demo" ∷ rest)) answer → Answers (codes "demo" ∷ rest) answer
demo_taken [] plain none answer entered = absurd (no_number_fails (first_passes _ [] (sym (demo_enters []).0 ∙ none)))
demo_taken (text ∷ []) plain none answer entered =
    number_answers text answer (entered.demo _ text ((demo_enters (text ∷ [])).1) (number_is text (neither (starts_with_minus text) _ plain).0))
demo_taken (text ∷ word ∷ rest) plain none answer entered =
    let first = neither (starts_with_minus text) _ plain in
    absurd (word_after_number_fails text word rest first.0 (neither (starts_with_minus word) _ first.1).0 (first_passes _ [] (sym (demo_enters (text ∷ word ∷ rest)).0 ∙ none)))

pub taken : (words : List Text) → list_any starts_with_minus words ≡ false → fault_of program words ≡ [] → (answer : Option Command)
    → AnswersEntered (subcommand_of program words) answer → Answers words answer
taken [] plain none answer entered = absurd (words_missing_fail none)
taken (word ∷ rest) plain none answer entered = go (named word)
  where
    plains : (starts_with_minus word ≡ false) × (list_any starts_with_minus rest ≡ false)
    plains = neither (starts_with_minus word) _ plain

    Goal : Text → Type 0
    Goal w = fault_of program (w ∷ rest) ≡ [] → AnswersEntered (subcommand_of program (w ∷ rest)) answer → Answers (w ∷ rest) answer

    go : Named word → Answers (word ∷ rest) answer
    go (once is) = subst Goal (sym is) (λ n e. rw (e.once _ (once_enters rest).1) (ap (λ words. codes "once" ∷ words) (alone (codes "once") rest (once_enters rest) plains.1 n))) none entered
    go (follow is) = subst Goal (sym is) (λ n e. rw (e.follow _ (follow_enters rest).1) (ap (λ words. codes "follow" ∷ words) (alone (codes "follow") rest (follow_enters rest) plains.1 n))) none entered
    go (adopt is) = subst Goal (sym is) (λ n e. rw (e.adopt _ (adopt_enters rest).1) (ap (λ words. codes "adopt" ∷ words) (alone (codes "adopt") rest (adopt_enters rest) plains.1 n))) none entered
    go (audit is) = subst Goal (sym is) (λ n e. rw (e.audit _ (audit_enters rest).1) (ap (λ words. codes "audit" ∷ words) (alone (codes "audit") rest (audit_enters rest) plains.1 n))) none entered
    go (committed is) = subst Goal (sym is) (λ n e. rw (e.committed _ (committed_enters rest).1) (ap (λ words. codes "committed" ∷ words) (alone (codes "committed") rest (committed_enters rest) plains.1 n))) none entered
    go (pipe is) = subst Goal (sym is) (λ n e. rw (e.pipe _ (pipe_enters rest).1) (ap (λ words. codes "pipe" ∷ words) (alone (codes "pipe") rest (pipe_enters rest) plains.1 n))) none entered
    go (demo is) = subst Goal (sym is) (λ n e. demo_taken rest plains.1 n answer e) none entered
    go (unnamed is) = absurd (unnamed_fails word rest plains.0 is none)

-- ---- refused

passes : (words : List Text) (command : Command) → IsCommand words command → fault_of program words ≡ []
passes words Once spelled = ap (fault_of program) spelled ∙ (once_enters []).0 ∙ none_more_passes (codes "once")
passes words Follow spelled = ap (fault_of program) spelled ∙ (follow_enters []).0 ∙ none_more_passes (codes "follow")
passes words Adopt spelled = ap (fault_of program) spelled ∙ (adopt_enters []).0 ∙ none_more_passes (codes "adopt")
passes words Audit spelled = ap (fault_of program) spelled ∙ (audit_enters []).0 ∙ none_more_passes (codes "audit")
passes words Committed spelled = ap (fault_of program) spelled ∙ (committed_enters []).0 ∙ none_more_passes (codes "committed")
passes words Pipe spelled = ap (fault_of program) spelled ∙ (pipe_enters []).0 ∙ none_more_passes (codes "pipe")
passes words (Demo n) spelled =
    ap (fault_of program) spelled.2 ∙ (demo_enters (decimal n ∷ [])).0 ∙ ap (λ faults. or_else faults []) (number_passes (decimal n) (plain_decimal n spelled.0 spelled.1))

pub refused : (words : List Text) → (fault_of program words ≡ [] → ⊥) → IsNoCommand words
refused words fails command spelled = fails (passes words command spelled)
