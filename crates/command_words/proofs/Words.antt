-- How `clap` takes a word that begins with no `-` and names no command.
use Rattle.std.proofs.Common.{◌≡◌, ℕ, List, [], ◌∷◌, None, false, refl, sym, ◌∙◌}
use Rattle.std.specs.Prelude.{find}
use Rattle.std.specs.Str.{bytes_eq}
use Rattle.std.specs.Str.Parse.{starts_with_minus}
use Rattle.clap.specs.Lexer.{long_of, short_of}
use Rattle.clap.specs.Faults.{step_fault, stray_fault, turn_fault, walk_fault}
use Rattle.clap.specs.Simple.{Shape}
use Rattle.clap.specs.Walk.{Held, Names, Rule, Text, Walk, answers_to, arg_by_index, idle, to_positional, value, walked}
use Rattle.command_words.proofs.Faults.{first_passes, stray_fails}

not_dashes : (word : Text) → starts_with_minus word ≡ false → bytes_eq word (45 ∷ 45 ∷ []) ≡ false
not_dashes [] plain = refl
not_dashes (x ∷ xs) plain = rw plain refl

no_long : (word : Text) → starts_with_minus word ≡ false → long_of word ≡ None
no_long [] plain = refl
no_long (x ∷ xs) plain = rw plain refl

no_short : (word : Text) → starts_with_minus word ≡ false → short_of word ≡ None
no_short [] plain = refl
no_short (x ∷ xs) plain = rw plain refl

-- where the walk stands before such a word
abbrev pub at : Held → ℕ → Walk
at held position = record { held = held; waiting = idle; position = position; is_trailing = false; stopped = None }

-- it is a value
pub turn_is_value : (s : Shape) (names : Names) (held : Held) (position : ℕ) (word : Text) → starts_with_minus word ≡ false → find (answers_to word) names ≡ None
    → turn_fault s names (at held position) word ≡ step_fault s position held value
turn_is_value s names held position word plain unnamed = rw (unnamed, not_dashes word plain, no_long word plain, no_short word plain) refl

pub value_walked : (rules : List Rule) (names : Names) (held : Held) (position : ℕ) (word : Text) → starts_with_minus word ≡ false → find (answers_to word) names ≡ None
    → walked rules names (at held position) word ≡ to_positional rules (arg_by_index rules position) word (at held position) held
unfolding walked
value_walked rules names held position word plain unnamed = rw (unnamed, not_dashes word plain, no_long word plain, no_short word plain) refl

-- where no argument takes it, it is a fault
pub stray_turn : (s : Shape) (names : Names) (held : Held) (position : ℕ) (word : Text) → starts_with_minus word ≡ false → find (answers_to word) names ≡ None
    → arg_by_index s.rules position ≡ None → turn_fault s names (at held position) word ≡ [] → ⊥
stray_turn s names held position word plain unnamed untaken none =
    let value_fault : step_fault s position held value ≡ [] = sym (turn_is_value s names held position word plain unnamed) ∙ none in
    let stray : step_fault s position held value ≡ stray_fault s = rw untaken refl in
    stray_fails s (sym stray ∙ value_fault)

pub stray_walk : (s : Shape) (names : Names) (held : Held) (position : ℕ) (word : Text) (rest : List Text) → starts_with_minus word ≡ false
    → find (answers_to word) names ≡ None → arg_by_index s.rules position ≡ None → walk_fault s names (at held position) (word ∷ rest) ≡ [] → ⊥
unfolding walk_fault
stray_walk s names held position word rest plain unnamed untaken none =
    stray_turn s names held position word plain unnamed untaken (first_passes (turn_fault s names (at held position) word) _ none)
