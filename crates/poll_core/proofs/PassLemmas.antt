-- What a pass begins with, and what faults of it are for a poll.
use Rattle.std.proofs.Common.{◌≡◌, ℕ, ◌≤◌, List, length, Result, Ok, Err, sym, ap, subst, ◌∙◌, arith}
use Rattle.std.specs.Prelude.{Contains}
use Rattle.file_pass.specs.Fed.{poll_of, rules_in}
use Rattle.file_pass.specs.PassCause.{HasPassCause}
use Rattle.file_pass.specs.Sane.{AreSaneRows, IsSaneTaking}
use Rattle.file_pass.specs.declared.counts.Counts.{Counts}
use Rattle.file_pass.specs.declared.fault.PassFault.{PassFault}
use Rattle.file_pass.specs.declared.fault.PassFault.TheVariants as pass
use Rattle.file_pass.specs.declared.setup.Setup.{Setup}
use Rattle.file_pass.specs.declared.taking.Taking.{Taking}
use Rattle.file_tracker.specs.declared.row.Row.{Row}
use Rattle.file_tracker.specs.Limits.{row_limit}
use Rattle.glob_match.specs.Pattern.{Pattern}
use Rattle.outside.specs.TreeMeaning.{TreeMeaning}
use Rattle.poll_core.specs.Inner.Begun.{IsBegun}
use Rattle.poll_core.specs.PollCause.{HasPollCause, pass_refusal}
use Rattle.poll_core.specs.declared.poll_fault.PollFault.{PollFault}
use Rattle.poll_core.specs.declared.poll_fault.PollFault.TheVariants as poll
use Rattle.poll_core.specs.declared.poll_fault.PollFault.TheVariants.{OutputFull, Worn}
use Rattle.standing.specs.Rules.{Includes}
use Rattle.tree_walk.specs.Walked.{Finds}
use Rattle.tree_walk.specs.declared.walk.Walk.{Walk}

pub begun_sane : (setup : Setup) (rows : List Row) (kept : ℕ) (taking : Taking) → IsBegun rows kept taking → AreSaneRows (poll_of setup) kept rows → length rows ≤ row_limit → 1 ≤ setup.era → kept ≤ setup.limit → IsSaneTaking setup taking
begun_sane setup rows kept taking begun sane few era within = record {
  rows = subst (λ (end : ℕ). AreSaneRows (poll_of setup) end taking.tracker) (sym begun.end_is)
      (subst (λ (r : List Row). AreSaneRows (poll_of setup) kept r) (sym begun.rows_are) sane);
  few = omega (arith, few, ap length begun.rows_are);
  era = era;
  flags = begun.flags ∙ sym (ap length begun.rows_are);
  end_within = omega (arith, within, begun.end_is);
  lines = omega (arith, ap (λ (c : Counts). c.lines) begun.counts_are);
}

pub finds_by : {T : Type 0} (trees : TreeMeaning T) (setup : Setup) (include exclude : List Pattern) (walk : Walk) (tree mid : T) → include ≡ (rules_in setup).include → exclude ≡ (rules_in setup).exclude → Finds trees include exclude walk tree mid
    → Finds trees (rules_in setup).include (rules_in setup).exclude walk tree mid
finds_by trees setup include exclude walk tree mid included excluded finds =
    subst (λ (e : List Pattern). Finds trees (rules_in setup).include e walk tree mid) excluded
    (subst (λ (i : List Pattern). Finds trees i exclude walk tree mid) included finds)

pub included_by : {T : Type 0} (trees : TreeMeaning T) (setup : Setup) (walk : Walk) (tree mid : T) (paths : List (List ℕ)) → paths ≡ walk.paths.items → Finds trees (rules_in setup).include (rules_in setup).exclude walk tree mid
    → (path : List ℕ) → Contains paths path → Includes (rules_in setup) path
included_by trees setup walk tree mid paths same finds path c = finds.included path (subst (λ (ps : List (List ℕ)). Contains ps path) same c)

-- ---- faults

pub not_err : {S T : Type 0} (given : S) (fault : T) → ◌≡◌ {A = Result S T} (Ok given) (Err fault) → ⊥
not_err given fault is = absurd (cc)

pub full_of_pass : (fault : PassFault) (size : ℕ) → OutputFull size ≡ pass_refusal fault → fault ≡ pass.OutputFull size
full_of_pass pass.Disk size is = absurd (cc)
full_of_pass (pass.OutputFull length) size is = (let same : OutputFull size ≡ OutputFull length = is in cc)
full_of_pass pass.Memory size is = absurd (cc)

pub worn_of_pass : (fault : PassFault) (sequence : ℕ) → Worn sequence ≡ pass_refusal fault → ⊥
worn_of_pass pass.Disk sequence is = absurd (cc)
worn_of_pass (pass.OutputFull length) sequence is = absurd (cc)
worn_of_pass pass.Memory sequence is = absurd (cc)

pub cause_of_pass : (S T : Type 0) (fault : PassFault) (before after : ℕ) → HasPassCause {T = S} (Err fault) before after → HasPollCause {T = T} (Err (pass_refusal fault)) before after
cause_of_pass S T pass.Disk before after cause = cause
cause_of_pass S T (pass.OutputFull length) before after cause = cause
cause_of_pass S T pass.Memory before after cause = cause

pub cause_of_poll : (S T : Type 0) (fault : PollFault) (start before after : ℕ) → before ≡ start → HasPollCause {T = S} (Err fault) before after → HasPollCause {T = T} (Err fault) start after
cause_of_poll S T fault start before after same cause = by fault (subst (λ (n : ℕ). HasPollCause {T = S} (Err fault) n after) same cause)
  where
    by : (f : PollFault) → HasPollCause {T = S} (Err f) start after → HasPollCause {T = T} (Err f) start after
    by poll.Disk cause = cause
    by (poll.OutputFull length) cause = cause
    by (poll.Worn sequence) cause = cause
    by poll.Memory cause = cause
