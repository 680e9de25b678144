-- What `clap` makes of words without flags, whatever they are.
use Rattle.std.proofs.Common.{◌≡◌, List, [], ◌∷◌, Some, None, true, false, refl, ap, ap₂, sym, ◌∙◌, codes, fold}
use Rattle.std.specs.Prelude.{find, is_some}
use Rattle.std.specs.Str.Parse.{starts_with_minus}
use Rattle.clap.specs.Faults.{check_fault, defaults_fault, entered_fault, fault_of, level_fault, settle_fault, turn_fault, walk_fault}
use Rattle.clap.specs.Kinds.{Kinds, or_else}
use Rattle.clap.specs.Simple.{App, Shape, built, entered, filled, label_of, names_of, new_rule, new_shape, subcommand_of, with_index}
use Rattle.clap.specs.Walk.{Rule, Text, Walk, answers_to, finished, first_of, nothing_held, pushed, rows_after, settled, walk, walked}
use Rattle.clap.proofs.FaultLemmas.{stopped_fault}
use Rattle.clap.proofs.WalkLemmas.{walk_stopped}
use Rattle.clap.proofs.OnLiterals.{clap_on_literals}
use Rattle.clap.specs.declared.error.kind.ErrorKind.TheVariants.{MissingRequiredArgument, MissingSubcommand}
use Rattle.command_words.specs.Program.{program}
use Rattle.command_words.proofs.Faults.{first_passes, next_passes, some_fault}
use Rattle.command_words.proofs.Words.{at, stray_walk, turn_is_value, value_walked}

abbrev pub agent : App
agent = built program

abbrev start : Walk
start = at nothing_held 1

-- the commands, as they are built
abbrev pub plain_leaf : Text → Shape
plain_leaf name = record (new_shape name) { no_binary_name = true; disable_help_flag = true; disable_help_subcommand = true; is_built = true }

abbrev pub rounds : Rule
rounds = with_index 1 (filled (record (new_rule (codes "rounds")) { required = true }))

abbrev pub demo_leaf : Shape
demo_leaf = record (plain_leaf (codes "demo")) { rules = rounds ∷ [] }

-- ---- no command

-- a first word that names no command is a fault
pub unnamed_fails : (word : Text) (rest : List Text) → starts_with_minus word ≡ false → find (answers_to word) (names_of agent) ≡ None
    → fault_of program (word ∷ rest) ≡ [] → ⊥
unnamed_fails word rest plain unnamed none =
    stray_walk agent.top (names_of agent) nothing_held 1 word rest plain unnamed refl (first_passes (walk_fault agent.top (names_of agent) start (word ∷ rest)) _ none)

pub words_missing_fail : fault_of program [] ≡ [] → ⊥
unfolding clap_on_literals
words_missing_fail none = some_fault MissingSubcommand [] none

-- ---- a command

-- what the levels' faults come to, by the walk that the words take and its fault
abbrev level_by : Walk → Kinds → Kinds
level_by end fault = or_else fault (or_else (entered_fault agent end.stopped) (or_else (settle_fault [] false end.held)
    (or_else (defaults_fault (settled [] end.held).rows []) (check_fault agent.top (finished [] end.held) (is_some (entered agent end.stopped))))))

-- the words of a command and those behind it: the faults are those of the words behind, and so are the rows
abbrev pub Enters : Text → Shape → List Text → Type 0
Enters name leaf rest = (fault_of program (name ∷ rest) ≡ or_else (level_fault leaf [] nothing_held rest false []) [])
    × (subcommand_of program (name ∷ rest) ≡ Some (leaf.name, rows_after leaf.rules [] rest))

enters : (name : Text) (leaf : Shape) (rest : List Text) → turn_fault agent.top (names_of agent) start name ≡ []
    → walked [] (names_of agent) start name ≡ record start { stopped = Some (name, []) } → find (λ s. answers_to name (label_of s)) agent.subs ≡ Some leaf
    → Enters name leaf rest
unfolding walk_fault defaults_fault
enters name leaf rest turn stop named =
    let ends : walk [] (names_of agent) nothing_held (name ∷ rest) ≡ record start { stopped = Some (name, rest) } =
    ap (λ w. fold (walked [] (names_of agent)) w rest) stop ∙ sym (walk_stopped [] (names_of agent) start name [] rest) in
    let passes : walk_fault agent.top (names_of agent) start (name ∷ rest) ≡ [] =
    ap₂ (λ fault w. or_else fault (walk_fault agent.top (names_of agent) w rest)) turn stop ∙ stopped_fault agent.top (names_of agent) start (name, []) rest in
    (ap₂ level_by ends passes ∙ rw named refl, ap (λ (w : Walk). entered agent w.stopped) ends ∙ rw named refl)

pub once_enters : (rest : List Text) → Enters (codes "once") (plain_leaf (codes "once")) rest
unfolding walked
once_enters rest = enters (codes "once") (plain_leaf (codes "once")) rest refl refl refl

pub follow_enters : (rest : List Text) → Enters (codes "follow") (plain_leaf (codes "follow")) rest
unfolding walked
follow_enters rest = enters (codes "follow") (plain_leaf (codes "follow")) rest refl refl refl

pub adopt_enters : (rest : List Text) → Enters (codes "adopt") (plain_leaf (codes "adopt")) rest
unfolding walked
adopt_enters rest = enters (codes "adopt") (plain_leaf (codes "adopt")) rest refl refl refl

pub audit_enters : (rest : List Text) → Enters (codes "audit") (plain_leaf (codes "audit")) rest
unfolding walked
audit_enters rest = enters (codes "audit") (plain_leaf (codes "audit")) rest refl refl refl

pub committed_enters : (rest : List Text) → Enters (codes "committed") (plain_leaf (codes "committed")) rest
unfolding walked
committed_enters rest = enters (codes "committed") (plain_leaf (codes "committed")) rest refl refl refl

pub pipe_enters : (rest : List Text) → Enters (codes "pipe") (plain_leaf (codes "pipe")) rest
unfolding walked
pipe_enters rest = enters (codes "pipe") (plain_leaf (codes "pipe")) rest refl refl refl

pub demo_enters : (rest : List Text) → Enters (codes "demo") demo_leaf rest
unfolding walked
demo_enters rest = enters (codes "demo") demo_leaf rest refl refl refl

-- ---- the words behind a command without an argument

pub none_more_passes : (name : Text) → or_else (level_fault (plain_leaf name) [] nothing_held [] false []) [] ≡ []
unfolding walk_fault defaults_fault
none_more_passes name = refl

pub word_more_fails : (name : Text) (word : Text) (rest : List Text) → starts_with_minus word ≡ false
    → level_fault (plain_leaf name) [] nothing_held (word ∷ rest) false [] ≡ [] → ⊥
word_more_fails name word rest plain none =
    stray_walk (plain_leaf name) [] nothing_held 1 word rest plain refl refl (first_passes (walk_fault (plain_leaf name) [] start (word ∷ rest)) _ none)

-- ---- the words behind `demo`

-- the argument is taken
abbrev taken : Text → Walk
taken text = at (pushed (codes "rounds") text nothing_held) 2

taken_walk : (text : Text) → starts_with_minus text ≡ false → walked (rounds ∷ []) [] start text ≡ taken text
taken_walk text plain = value_walked (rounds ∷ []) [] nothing_held 1 text plain refl

taken_turn : (text : Text) → starts_with_minus text ≡ false → turn_fault demo_leaf [] start text ≡ []
taken_turn text plain = turn_is_value demo_leaf [] nothing_held 1 text plain refl

abbrev demo_by : Walk → Kinds → Kinds
demo_by end fault = or_else (or_else fault (walk_fault demo_leaf [] end [])) (or_else [] (or_else (settle_fault (rounds ∷ []) false end.held)
    (or_else (defaults_fault (settled (rounds ∷ []) end.held).rows (rounds ∷ [])) (check_fault demo_leaf (finished (rounds ∷ []) end.held) false))))

pub no_number_fails : level_fault demo_leaf [] nothing_held [] false [] ≡ [] → ⊥
unfolding clap_on_literals
no_number_fails none = some_fault MissingRequiredArgument [] none

pub number_passes : (text : Text) → starts_with_minus text ≡ false → level_fault demo_leaf [] nothing_held (text ∷ []) false [] ≡ []
unfolding walk_fault defaults_fault
number_passes text plain = ap₂ demo_by (taken_walk text plain) (taken_turn text plain)

pub number_is : (text : Text) → starts_with_minus text ≡ false → first_of (codes "rounds") (rows_after (rounds ∷ []) [] (text ∷ [])) ≡ Some text
number_is text plain = ap (λ (w : Walk). first_of (codes "rounds") (finished (rounds ∷ []) w.held)) (taken_walk text plain)

-- a word behind the number is a fault
pub word_after_number_fails : (text word : Text) (rest : List Text) → starts_with_minus text ≡ false → starts_with_minus word ≡ false
    → level_fault demo_leaf [] nothing_held (text ∷ word ∷ rest) false [] ≡ [] → ⊥
unfolding walk_fault
word_after_number_fails text word rest plain other none =
    let walk_passes : walk_fault demo_leaf [] start (text ∷ word ∷ rest) ≡ [] = first_passes (walk_fault demo_leaf [] start (text ∷ word ∷ rest)) _ none in
    let later : walk_fault demo_leaf [] (walked (rounds ∷ []) [] start text) (word ∷ rest) ≡ [] = next_passes (turn_fault demo_leaf [] start text) _ walk_passes in
    stray_walk demo_leaf [] (pushed (codes "rounds") text nothing_held) 2 word rest other refl refl
    (ap (λ w. walk_fault demo_leaf [] w (word ∷ rest)) (sym (taken_walk text plain)) ∙ later)
