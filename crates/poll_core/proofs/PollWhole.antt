-- A poll: its pass, and what of it is kept.
use Rattle.std.proofs.Common.{◌≡◌, ◌≢◌, ℕ, ◌+◌, ◌≤◌, List, length, Bool, true, false, Option, None, Some, refl, sym, ap, subst, ◌∙◌, arith, inl, inr}
use Rattle.std.specs.Option.{is_none, is_some}
use Rattle.std.specs.Prelude.{IfSome, IsTrue, max, not}
use Rattle.checkpoint_journal.specs.Costs.{Costs}
use Rattle.checkpoint_journal.specs.Memory.{KeepsMemory}
use Rattle.checkpoint_journal.specs.Next.{AwaitsNext}
use Rattle.checkpoint_journal.specs.Short.{IsShort}
use Rattle.checkpoint_journal.specs.declared.journal.Journal.{Journal}
use Rattle.checkpoint_store.specs.Limits.{newest}
use Rattle.checkpoint_store.specs.Rules.{IsCheckpoint}
use Rattle.checkpoint_store.specs.declared.Checkpoint.{Checkpoint}
use Rattle.file_pass.specs.DiskTerms.{Appends, KeepsDisk}
use Rattle.file_pass.specs.Full.{lines_text}
use Rattle.file_pass.specs.Moment.{Meanings, Moment, moment, taking_at}
use Rattle.file_pass.specs.declared.setup.Setup.{Setup}
use Rattle.file_pass.specs.declared.taking.Taking.{Taking}
use Rattle.outside.specs.Crash.{Passes}
use Rattle.outside.specs.Image.{Image}
use Rattle.outside.specs.Lawful.{TellsLawful}
use Rattle.outside.specs.declared.disk.DiskFile.{DiskFile}
use Rattle.outside.specs.declared.disk.DiskFile.TheVariants.{Output}
use Rattle.poll_core.proofs.PollDisk.{early_pass, fewer_then, left_stands, mid_differs, mid_ends, none_added, saved_stands, steps_pass}
use Rattle.poll_core.proofs.PollLines.{no_lines, within_own}
use Rattle.poll_core.proofs.PollRows.{IsSetUp, begins, change_of_session, keeping_in, next_of_session, next_differ, next_fits, next_lawful, next_named, next_awaited, next_stand, next_states, none_flagged, same_rows}
use Rattle.poll_core.proofs.PollTold.{IsTimed, is_pass, is_summed, lines_by, rose_by}
use Rattle.poll_core.specs.Inner.Begun.{IsQuiet}
use Rattle.poll_core.specs.IsSession.{IsSession}
use Rattle.poll_core.specs.Inner.Kept.{Keeps, KeepsTime, to_keep}
use Rattle.poll_core.specs.Inner.Passed.{Passed}
use Rattle.poll_core.specs.Polled.{ChangesNothing, ComesAfter, HasCost, HasNextJournal, HasToKeep, LeavesAll, MayGain, Polled, Stays}
use Rattle.poll_core.specs.Saves.{DifferInOutput, Saves}
use Rattle.poll_core.specs.SessionParts.{checkpoint_of_session, poll_of_session, rules_of_session, journal_of_session, kept_of, limit_of, stamp_at, stamp_of_session}
use Rattle.poll_core.specs.StandsOn.{StandsOn}
use Rattle.poll_core.specs.Summed.{IsSummaryOf}
use Rattle.poll_core.specs.declared.session.Session.{Session}
use Rattle.poll_core.specs.declared.summary.Summary.{Summary}
use Rattle.slot_store.specs.Counted.{DoneFewer}
use Rattle.slot_store.specs.Synced.{EachLeft}
use Rattle.standing.specs.AreRules.{AreRules}
use Rattle.standing.specs.Marks.{Mark}
use Rattle.standing.specs.Pass as pass
use Rattle.standing.specs.Pass.{time_of}
use Rattle.tree_walk.specs.declared.walk.Walk.{Walk}

-- the session that goes on
abbrev pub next_of : Session → ℕ → Taking → Option Journal → Session
next_of session observed taking journal = record {
  pipeline = session.pipeline;
  eras = session.eras;
  limit = session.limit;
  journal = journal;
  kept = taking.end;
  observed = observed;
  time = session.time;
  tracker = taking.tracker;
}

stood : (journal : Option Journal) → journal ≢ None → is_none journal ≡ false
stood None some = absurd (some refl)
stood (Some journal) some = refl

pub first_of : (journal : Option Journal) (none : Bool) → is_some journal ≡ not none → none ≡ is_none journal
first_of None true is = refl
first_of None false is = absurd (cc)
first_of (Some journal) true is = absurd (cc)
first_of (Some journal) false is = refl

module _ {T D : Type 0} (means : Meanings T D) (session : Session) (is : IsSession session) (laws : AreRules (rules_of_session session)) (setup : Setup) (walk : Walk) (taking : Taking) (old new : Moment T D) (passed : Passed means setup walk (begins session old) (taking_at taking new)) (observed : ℕ) (by : IsSetUp session setup observed) (keeps_time : KeepsTime (journal_of_session session) session.kept taking (stamp_of_session session) session.observed observed) (limit_is : setup.limit ≡ max (limit_of session) (kept_of session)) (stands : StandsOn means.disks.images session old.disk) (keeps : KeepsDisk means.disks session.kept old.disk new.disk) where
  -- what of it is kept
  abbrev IsKept : Option Journal → D → Type 0
  IsKept journal disk_after = Keeps means.disks.images (to_keep (journal_of_session session) session.kept taking (keeping_in session observed taking)) journal new.disk disk_after

  end_is : taking.end ≡ kept_of session + length (lines_text passed.takes.takes.added)
  end_is = passed.takes.takes.appends.end_is ∙ ap (λ (n : ℕ). n + length (lines_text passed.takes.takes.added)) passed.is_begun.end_is

  grown : session.kept ≤ taking.end
  grown = omega (arith, end_is)

  -- that nothing is to be kept is said of the pass as of what was taken
  quiet_pass : IsQuiet (journal_of_session session) session.kept taking → pass.IsQuiet (poll_of_session session) (checkpoint_of_session session) (next_of_session session observed taking) passed.takes.takes.added
  quiet_pass quiet = (
    stood (journal_of_session session) quiet.stood,
    same_rows session is setup observed by passed.begun taking passed.is_begun passed.sane passed.flags grown quiet.none_flagged,
    no_lines (λ mark. laws.lines.not_empty mark) passed.takes.takes.added (omega (arith, quiet.end_is, end_is)),
  )

  quiet_taking : pass.IsQuiet (poll_of_session session) (checkpoint_of_session session) (next_of_session session observed taking) passed.takes.takes.added → IsQuiet (journal_of_session session) session.kept taking
  quiet_taking quiet = record {
    stood = λ is. (let never : true ≡ false = sym (ap (λ (j : Option Journal). is_none j) is) ∙ quiet.0 in cc);
    end_is = omega (arith, end_is, ap (λ (marks : List Mark). length (lines_text marks)) quiet.2);
    none_flagged = none_flagged session is setup observed by passed.begun taking passed.is_begun passed.sane passed.flags grown quiet.1;
  }

  not_before : (stamps : Bool) → IfSome (stamp_at stamps session.time) (λ time. session.observed ≤ time)
  not_before false = tt
  not_before true = is.time.0

  timed : IsTimed session observed taking passed.takes.takes.added
  timed = record {
    later = not_before (rules_of_session session).stamps;
    is = elim keeps_time [
      | inl quiet ↦ inl (quiet_pass quiet.0, quiet.1)
      | inr loud ↦ inr (λ quiet. loud.0 (quiet_taking quiet), loud.1)
    ];
  }

  pub lawful_own : IsCheckpoint newest (next_of_session session observed taking)
  lawful_own = next_lawful session is setup observed by passed.begun taking passed.is_begun passed.sane passed.flags grown

  comes : ComesAfter session (next_of_session session observed taking) passed.takes.takes.added
  comes = record {
    eras = refl;
    output_length = end_is;
    within = within_own (λ mark. laws.lines.not_empty mark) (limit_of session) (kept_of session) taking.end passed.takes.takes.added end_is (omega (arith, passed.sane.end_within, limit_is));
    lawful = lawful_own;
    states = next_states session is setup observed by passed.begun taking passed.is_begun passed.sane passed.flags grown;
  }

  pub awaits_own : EachLeft means.disks.images new.disk (AwaitsNext (journal_of_session session) (next_of_session session observed taking) (change_of_session observed taking))
  awaits_own = record {
    each = λ image left. next_awaited session is setup observed by passed.begun taking passed.is_begun passed.sane passed.flags grown image (mid_ends means.disks session old.disk new.disk stands keeps image left);
  }

  pub slots_after : (one other : Image DiskFile) → means.disks.images.may_leave new.disk one → means.disks.images.may_leave new.disk other → DifferInOutput one other
  slots_after = mid_differs means.disks session old.disk new.disk stands keeps

  cost : (disk_after : D) → Costs (journal_of_session session) (next_of_session session observed taking) (change_of_session observed taking).rows (means.disks.written new.disk) (means.disks.written disk_after) → HasCost means.disks session (next_of_session session observed taking) old.disk disk_after
  cost disk_after costs = record {
    rows = (change_of_session observed taking).rows;
    changed = record {
      ascend = (next_fits session is setup observed by passed.begun taking passed.is_begun passed.sane passed.flags grown).rows;
      each = next_stand session is setup observed by passed.begun taking passed.is_begun passed.sane passed.flags grown;
      differ = next_differ session is setup observed by passed.begun taking passed.is_begun passed.sane passed.flags grown;
      no_other = next_named session is setup observed by passed.begun taking passed.is_begun passed.sane passed.flags grown;
    };
    costs = subst (λ (before : Option ℕ). Costs (journal_of_session session) (next_of_session session observed taking) (change_of_session observed taking).rows before (means.disks.written disk_after)) keeps.written costs;
  }

  appends : Appends means.disks (lines_text passed.takes.takes.added) (kept_of session) taking.end old.disk new.disk
  appends = subst (λ (end : ℕ). Appends means.disks (lines_text passed.takes.takes.added) end taking.end old.disk new.disk) passed.is_begun.end_is passed.takes.takes.appends

  module _ (told : (image : Image DiskFile) → means.disks.images.may_leave old.disk image → IsTrue (means.disks.images.tells old.disk)) (shown : IsTrue (means.disks.images.tells old.disk) → means.disks.images.may_leave old.disk (means.disks.images.seen old.disk)) where
    pub may_gain : (disk_after : D) → Passes means.disks.images (Saves (journal_of_session session) (next_of_session session observed taking) (means.disks.images.seen new.disk Output)) new.disk disk_after
        → Costs (journal_of_session session) (next_of_session session observed taking) (change_of_session observed taking).rows (means.disks.written new.disk) (means.disks.written disk_after) → MayGain means session old (moment new.tree disk_after)
    may_gain disk_after saves costs = record {
      after = next_of_session session observed taking;
      added = passed.takes.takes.added;
      comes = comes;
      pass = is_pass means session setup walk taking old new by.poll passed observed timed;
      crash = steps_pass means.disks session old.disk new.disk stands keeps told shown passed.takes.takes.added taking.end appends (next_of_session session observed taking) disk_after saves;
      cost = cost disk_after costs;
    }

    -- few calls leave the checkpoint
    pub early : (disk_after : D) → Passes means.disks.images (Saves (journal_of_session session) (next_of_session session observed taking) (means.disks.images.seen new.disk Output)) new.disk disk_after
        → (DoneFewer 4 (means.disks.done new.disk) (means.disks.done disk_after) → Passes means.disks.images (KeepsMemory (journal_of_session session)) new.disk disk_after)
        → DoneFewer 4 (means.disks.done old.disk) (means.disks.done disk_after) → Passes means.disks.images (Stays session) old.disk disk_after
    early disk_after saves keeps_memory fewer =
        early_pass means.disks session old.disk new.disk stands keeps told shown passed.takes.takes.added taking.end appends (next_of_session session observed taking) disk_after saves (keeps_memory (fewer_then means.disks session old.disk new.disk stands keeps (means.disks.done disk_after) fewer))

    same_time : IsQuiet (journal_of_session session) session.kept taking → observed ≡ session.observed
    same_time quiet = elim keeps_time [ inl left ↦ left.1 | inr loud ↦ absurd (loud.0 quiet) ]

    -- where nothing is to be kept, the next checkpoint is the session's, and the reverse
    left_same : (journal : Option Journal) → IsQuiet (journal_of_session session) session.kept taking → checkpoint_of_session (next_of session observed taking journal) ≡ checkpoint_of_session session
    left_same journal quiet =
        let rows = same_rows session is setup observed by passed.begun taking passed.is_begun passed.sane passed.flags grown quiet.none_flagged in
        let time : observed ≡ session.observed = same_time quiet in
        λ i. record { eras = session.eras; output_length = quiet.end_is i; observed = time i; next_id = length (rows i) + 1; rows = rows i }

    quiet_then : ChangesNothing session (next_of_session session observed taking) → IsQuiet (journal_of_session session) session.kept taking
    quiet_then nothing = record {
      stood = λ is. (let never : true ≡ false = sym (ap (λ (j : Option Journal). is_none j) is) ∙ nothing.not_first in cc);
      end_is = ap (λ (c : Checkpoint). c.output_length) nothing.same;
      none_flagged = none_flagged session is setup observed by passed.begun taking passed.is_begun passed.sane passed.flags grown (ap (λ (c : Checkpoint). c.rows) nothing.same);
    }

    pub has_to_keep : (IsQuiet (journal_of_session session) session.kept taking → ⊥) → HasToKeep means.trees session old.tree new.tree
    has_to_keep loud = record {
      after = next_of_session session observed taking;
      added = passed.takes.takes.added;
      comes = comes;
      pass = is_pass means session setup walk taking old new by.poll passed observed timed;
      changes = λ nothing. loud (quiet_then nothing);
    }

    next_journal : (journal : Option Journal) (disk_after : D) → IsKept journal disk_after
        → (ChangesNothing session (checkpoint_of_session (next_of session observed taking journal)) → ⊥) → HasNextJournal session (next_of session observed taking journal) (change_of_session observed taking).rows
    next_journal journal disk_after kept changes = elim kept [
      | inl left ↦ absurd (changes (record { not_first = stood (journal_of_session session) left.quiet.stood; same = left_same journal left.quiet }))
      | inr put ↦ (put.0, put.1, put.2.next_is)
    ]

    next_quiet : (journal : Option Journal) (disk_after : D) → IsKept journal disk_after
        → ChangesNothing session (checkpoint_of_session (next_of session observed taking journal)) → LeavesAll session (next_of session observed taking journal) old.disk disk_after
    next_quiet journal disk_after kept nothing = elim kept [
      | inl left ↦ record {
        journal = left.same;
        still = left.still ∙ appends.idle (none_added means.disks session old.disk new.disk stands keeps told shown passed.takes.takes.added taking.end appends left.quiet.end_is);
      }
      | inr put ↦ absurd (put.3 (quiet_then nothing))
    ]

    -- the session that goes on stands on the old.disk
    next_stands : (journal : Option Journal) (disk_after : D) → ((image : Image DiskFile) → means.disks.images.may_leave disk_after image → IsTrue (means.disks.images.tells old.disk))
        → IsKept journal disk_after → StandsOn means.disks.images (next_of session observed taking journal) disk_after
    next_stands journal disk_after tells kept = elim kept [
      | inl left ↦
          subst (λ (d : D). StandsOn means.disks.images (next_of session observed taking journal) d) (sym left.still)
          (left_stands means.disks session old.disk new.disk stands keeps told shown passed.takes.takes.added taking.end appends (next_of session observed taking journal) left.quiet.end_is left.same (left_same journal left.quiet))
      | inr put ↦ saved_stands means.disks session old.disk new.disk stands keeps told shown passed.takes.takes.added taking.end appends (next_of session observed taking journal) put.0 disk_after put.1 refl put.2.one tells put.2.each
    ]

    next_first : (journal : Option Journal) (disk_after : D) → IsKept journal disk_after → is_none journal ≡ false
    next_first journal disk_after kept = elim kept [
      | inl left ↦ ap (λ (j : Option Journal). is_none j) left.same ∙ stood (journal_of_session session) left.quiet.stood
      | inr put ↦ ap (λ (j : Option Journal). is_none j) put.1
    ]

    still_later : (stamps : Bool) → observed ≡ time_of (stamp_at stamps session.time) session.observed → observed ≤ session.time
    still_later false same = omega (arith, same, is.time.0)
    still_later true same = omega (arith, same)

    kept_by_then : observed ≤ session.time
    kept_by_then = elim keeps_time [
      | inl quiet ↦ omega (arith, quiet.1, is.time.0)
      | inr loud ↦ still_later (rules_of_session session).stamps loud.1
    ]

    pub next_session : (journal : Option Journal) (disk_after : D) → IsKept journal disk_after → IsSession (next_of session observed taking journal)
    next_session journal disk_after kept = record {
      made = is.made;
      one_era = λ none. (let never : true ≡ false = sym (ap (λ (j : Option Journal). is_none j) none) ∙ next_first journal disk_after kept in cc);
      limit = is.limit;
      lawful = lawful_own;
      states = comes.states;
      journal = elim kept [
        | inl left ↦ subst (λ (j : Option Journal). IfSome j IsShort) (sym left.same) is.journal
        | inr put ↦ subst (λ (j : Option Journal). IfSome j IsShort) (sym put.1) put.2.next_is.short
      ];
      time = (kept_by_then, is.time.1);
    }

    pub polled : (journal : Option Journal) (disk_after : D) (summary : Summary) → ((image : Image DiskFile) → means.disks.images.may_leave disk_after image → IsTrue (means.disks.images.tells old.disk)) → TellsLawful (means.trees.world new.tree)
        → IsSummaryOf walk taking summary
        → IsKept journal disk_after
        → Costs (journal_of_session session) (next_of_session session observed taking) (change_of_session observed taking).rows (means.disks.written new.disk) (means.disks.written disk_after)
        → Polled means session (next_of session observed taking journal) summary old (moment new.tree disk_after)
    unfolding cost
    polled journal disk_after summary tells lawful sums kept costs = record {
      rules = refl;
      limit = refl;
      time = refl;
      not_first = next_first journal disk_after kept;
      added = passed.takes.takes.added;
      comes = comes;
      lines = lines_by means session setup walk taking old new by.poll passed observed timed summary sums;
      output = sums.output;
      failed = rose_by means session setup walk taking old new by.poll passed observed timed summary sums;
      pass = is_summed means session setup walk taking old new by.poll passed observed timed summary sums lawful;
      stands = next_stands journal disk_after tells kept;
      cost = cost disk_after costs;
      kept = next_journal journal disk_after kept;
      quiet = next_quiet journal disk_after kept;
      not_worn = λ worn. elim kept [ inl left ↦ left.same | inr put ↦ absurd (put.2.not_worn worn) ];
    }
