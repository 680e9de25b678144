-- What comes out for the tokens of rounds where there are no operators.
use Rattle.std.proofs.Common.{◌≡◌, ℕ, ◌+◌, ◌≤◌, List, [], ◌∷◌, ◌++◌, length, map, refl, ap, ◌∙◌, arith}
use Rattle.std.proofs.lemmas.List.Elements.{All-head, All-tail}
use Rattle.demo_run.proofs.Lines.{text_of_round}
use Rattle.demo_run.proofs.Nodeless.{out_as_in}
use Rattle.demo_run.proofs.Ruled.{AreRounds}
use Rattle.demo_run.proofs.Said.{script_settings}
use Rattle.demo_run.proofs.Texts.{text_stays}
use Rattle.entry_model.specs.LogRecord.{LogRecord}
use Rattle.graph_core.specs.Traces.{Network, network_of}
use Rattle.graph_core.specs.declared.NodeSpec.{NodeSpec}
use Rattle.op_kinds.specs.Kept.{Kept}
use Rattle.op_kinds.specs.Operator.{Operator, behavior_of}
use Rattle.pipeline.specs.Entries.{record_with, records_behind, records_of}
use Rattle.pipeline.specs.GraphOutput.{given_from}
use Rattle.pipeline.specs.Wired.{IsNetwork}
use Rattle.std.proofs.lemmas.List.{nil_from_length}

pub network_is : (network : Network Kept LogRecord) → IsNetwork [] network → network ≡ network_of behavior_of []
network_is network wired = wired.is ∙ ap (λ (ns : List (NodeSpec Operator)). network_of behavior_of ns) (nil_from_length wired.nodes wired.are.many)

-- the record of a round's line
abbrev pub entry_of : List ℕ → ℕ → LogRecord
entry_of path round = record_with script_settings path 0 (text_of_round round)

records_are : (path : List ℕ) (before : ℕ) (rounds : List ℕ) → AreRounds rounds → records_behind script_settings path before (map text_of_round rounds) ≡ map (entry_of path) rounds
records_are path before [] are = refl
records_are path before (round ∷ rounds) are =
    let few : round ≤ 1000 = All-head (λ (n : ℕ). n ≤ 1000) round rounds are in
    let later = records_are path (before + 1) rounds (All-tail (λ (n : ℕ). n ≤ 1000) round rounds are) in
    ap (λ (text : List ℕ). records_of script_settings path (before + 1) text ++ records_behind script_settings path (before + 1) (map text_of_round rounds)) (text_stays round few)
    ∙ ap (λ (records : List LogRecord). entry_of path round ∷ records) later

pub given_are : (path : List ℕ) (states : List Kept) (rounds : List ℕ) → AreRounds rounds
    → given_from script_settings (network_of behavior_of []) path 0 states (map text_of_round rounds) ≡ map (entry_of path) rounds
given_are path states rounds are =
    out_as_in behavior_of states (records_behind script_settings path 0 (map text_of_round rounds)) ∙ records_are path 0 rounds are
