-- A run over an output in Parts, as a run of the program over the disk that they make.
use Rattle.std.proofs.Common.{◌≡◌, ◌⊎◌, ◌∙◌, ℕ, List, [], ◌∷◌, Bool, true, false, ◌&&◌, ◌||◌, IsTrue, String, bytes_eq, codes, drop, ap, refl, subst, inl, inr}
use Rattle.std.proofs.lemmas.Slice.Eq.{bytes_eq-Decides}
use Rattle.std.specs.declared.alloc.Global.{Global}
use Rattle.command_words.specs.Answers.{IsNoCommand}
use Rattle.command_words.specs.Words.{texts}
use Rattle.command_words.specs.declared.command.Command.TheVariants.{Once, Follow, Adopt, Audit, Committed}
use Rattle.out_segments.specs.Segments.{Segments, segments}
use Rattle.outside.specs.StreamMeaning.{SourceMeaning}
use Rattle.agent_commands.specs.AgentEnds.{AgentEnds, course}
use Rattle.agent_commands.specs.Moment.{Meanings, moment}
use Rattle.agent_commands.specs.OverParts.{IsOverParts, is_parts_command}

pub made_segments : {P : Type 0} (files : Segments P) (parts given : P) (size wanted : ℕ) → files ≡ segments parts size → parts ≡ given → size ≡ wanted → files ≡ segments given wanted
made_segments {P} files parts given size wanted is same sized = is ∙ ap (λ (p : P). segments p size) same ∙ ap (λ (n : ℕ). segments given n) sized

-- the same of equal disks
pub ends_over : {T D S K C : Type 0} (meanings : Meanings T D K C) (sources : SourceMeaning S) (words : List (List ℕ)) (status : ℕ) (tree tree_after : T) (report report_after : K) (clock clock_after : C) (control control_after : S) (first last disk disk_after : D) → first ≡ disk → last ≡ disk_after
    → AgentEnds meanings sources words (course (moment tree first report clock) (moment tree_after last report_after clock_after) control control_after) status
    → AgentEnds meanings sources words (course (moment tree disk report clock) (moment tree_after disk_after report_after clock_after) control control_after) status
ends_over {D = D} meanings sources words status tree tree_after report report_after clock clock_after control control_after first last disk disk_after begins ends run =
    subst (λ (d : D). AgentEnds meanings sources words (course (moment tree disk report clock) (moment tree_after d report_after clock_after) control control_after) status) ends
    (subst (λ (d : D). AgentEnds meanings sources words (course (moment tree d report clock) (moment tree_after last report_after clock_after) control control_after) status) begins run)

-- ---- words

either : (a b : Bool) → IsTrue (a || b) → IsTrue a ⊎ IsTrue b
either true b holds = inl refl
either false b holds = inr holds

both : (a b : Bool) → IsTrue (a && b) → IsTrue b
both true b holds = holds
both false b holds = absurd (cc)

-- each of them is a command
pub is_a_command : (words : List (List ℕ)) → IsOverParts words → IsNoCommand (drop 1 words) → ⊥
is_a_command [] over none = absurd (cc)
is_a_command (first ∷ []) over none = absurd (cc)
is_a_command (first ∷ command ∷ []) over none =
    let is = both (bytes_eq first (codes "segments")) (is_parts_command command) over in
    let alone : (word : List ℕ) → command ≡ word → command ∷ [] ≡ word ∷ [] = λ word same. ap (λ (w : List ℕ). w ∷ []) same in
    elim (either (((bytes_eq command (codes "once") || bytes_eq command (codes "follow")) || bytes_eq command (codes "adopt")) || bytes_eq command (codes "audit")) (bytes_eq command (codes "committed")) is) [
      | inl others ↦ elim (either ((bytes_eq command (codes "once") || bytes_eq command (codes "follow")) || bytes_eq command (codes "adopt")) (bytes_eq command (codes "audit")) others) [
        | inl writes ↦ elim (either (bytes_eq command (codes "once") || bytes_eq command (codes "follow")) (bytes_eq command (codes "adopt")) writes) [
          | inl polls ↦ elim (either (bytes_eq command (codes "once")) (bytes_eq command (codes "follow")) polls) [
            | inl once ↦ none Once (alone (codes "once") ((bytes_eq-Decides command (codes "once")).0 once))
            | inr follow ↦ none Follow (alone (codes "follow") ((bytes_eq-Decides command (codes "follow")).0 follow))
          ]
          | inr adopt ↦ none Adopt (alone (codes "adopt") ((bytes_eq-Decides command (codes "adopt")).0 adopt))
        ]
        | inr audit ↦ none Audit (alone (codes "audit") ((bytes_eq-Decides command (codes "audit")).0 audit))
      ]
      | inr committed ↦ none Committed (alone (codes "committed") ((bytes_eq-Decides command (codes "committed")).0 committed))
    ]
is_a_command (first ∷ command ∷ more ∷ rest) over none = absurd (cc)

-- the words behind the first
pub texts_behind : (words : List (String Global)) → texts (drop 1 words) ≡ drop 1 (texts words)
texts_behind [] = refl
texts_behind (first ∷ rest) = refl
