-- What a poll makes of a disk, as a script sees it.
use Rattle.std.proofs.Common.{◌≡◌, ℕ, ◌+◌, ◌≤◌, ◌<◌, List, [], Bool, true, false, cond, IsTrue, Option, Some, None, Result, Ok, Err, refl, sym, ap, subst, ◌∙◌, arith, inl, inr}
use Rattle.std.specs.Option.{is_none}
use Rattle.std.specs.Prelude.{◌⊎◌, IfSome, IfOk, OnOk, length}
use Rattle.std.proofs.lemmas.Bool.{leb-true}
use Rattle.checkpoint_journal.specs.JournalOf.{HasCheckpoint}
use Rattle.checkpoint_journal.specs.Memory.{EndsWithMemory}
use Rattle.checkpoint_journal.specs.Written.{IsWorn}
use Rattle.checkpoint_journal.specs.declared.journal.Journal.{Journal}
use Rattle.lifetimes.proofs.EraLemmas.{eras_of_one, one_era_laws, session_has, session_plain, session_polls}
use Rattle.lifetimes.proofs.ImageLemmas.{whole_before, worn_never}
use Rattle.lifetimes.proofs.LargeLemmas.{fills_large}
use Rattle.lifetimes.proofs.OwnLemmas.{undisturbed_by}
use Rattle.lifetimes.proofs.SmallLemmas.{small_whole}
use Rattle.lifetimes.proofs.TreeLemmas.{history_cleared}
use Rattle.file_pass.specs.Moment.{Meanings, meanings, moment}
use Rattle.file_pass.specs.TreeTerms.{GoesLater}
use Rattle.mem_world.proofs.TreeTelling.{change_told, lawful_told, told_stays}
use Rattle.mem_world.specs.TreeTold.{TreeState, told_world, unplanned}
use Rattle.lifetimes.specs.Course.{GoesBy, MayFill}
use Rattle.lifetimes.specs.Large.{Large}
use Rattle.lifetimes.specs.OneEra.{one_era}
use Rattle.lifetimes.specs.Small.{AreWhole}
use Rattle.lifetimes.proofs.DiskLemmas.{StepsBy, stands_after, leaves_polled, leaves_same}
use Rattle.lifetimes.specs.Inner.Answered.{next_of}
use Rattle.lifetimes.specs.Ended.{history_of}
use Rattle.lifetimes.specs.Inner.Past.{Past, Failures, Waits, LeavesAt, IsDiskAt, IsWell, IsReady, IsOpened, IsTreeAt, IsTreePolled, MayPoll, GoesOn, dropped, polled}
use Rattle.lifetimes.specs.Script.{Halt, is_early}
use Rattle.lifetimes.specs.Stopped.{IsStopped}
use Rattle.lifetimes.specs.Whole.{TakesWhole}
use Rattle.mem_world.specs.DiskFiles.{tear_of}
use Rattle.out_segments.specs.CrashOutcome.{left_by}
use Rattle.out_segments.specs.MemCount.{done_count}
use Rattle.mem_world.specs.DiskLaws.{leaves_shown}
use Rattle.mem_world.specs.DiskFiles.{calls_of}
use Rattle.out_segments.specs.MemLog.{Log}
use Rattle.mem_calls.specs.CallPlans.{bound_of, is_reached}
use Rattle.mem_calls.specs.declared.fuse.Fuse.{Fuse}
use Rattle.mem_world.specs.DiskImages.{LeavesImage}
use Rattle.mem_world.specs.MemDisk.{disk_images, disk_meaning, history_of as log_of, seen_of, moment_of, base_of, failures_of, faults_of, fuse_of, most_faults, done_of, most_done}
use Rattle.mem_world.specs.MemTree.{state_of, tree_meaning}
use Rattle.mem_world.specs.declared.disk.MemDisk.{MemDisk}
use Rattle.mem_world.specs.declared.tree.MemTree.{MemTree}
use Rattle.outside.specs.Count.{Rose}
use Rattle.outside.specs.Crash.{Passes}
use Rattle.outside.specs.Image.{Image}
use Rattle.outside.specs.Lawful.{IsLawful, TellsLawful}
use Rattle.outside.specs.World.{Event, History, Told}
use Rattle.outside.specs.declared.disk.DiskFile.{DiskFile}
use Rattle.poll_core.proofs.EraLemmas.{before_poll, session_eras}
use Rattle.pipeline.proofs.OfText.{OneSet}
use Rattle.poll_core.proofs.StoodLemmas.{stands_before}
use Rattle.poll_core.specs.IsSession.{IsSession}
use Rattle.poll_core.specs.LeavesTree.{LeavesTree}
use Rattle.poll_core.specs.Overflows.{Overflows}
use Rattle.poll_core.specs.Polled.{MayGain, IsStanding, IsSummed, Stays, Polled, advance, counting, stretch_of}
use Rattle.poll_core.specs.Summed.{sums_of}
use Rattle.poll_core.specs.declared.summary.Summary.{Summary}
use Rattle.poll_core.specs.SessionParts.{checkpoint_of_session, is_first, journal_of_session, kept_of, rules_of_session, stamp_of_session}
use Rattle.poll_core.specs.Since.{KeepsStandingSince}
use Rattle.poll_core.specs.StandsOn.{StandsOn}
use Rattle.poll_core.specs.PollCause.{HasPollCause}
use Rattle.poll_core.specs.declared.poll_fault.PollFault.{PollFault}
use Rattle.poll_core.specs.declared.poll_fault.PollFault.TheVariants.{OutputFull, Worn}
use Rattle.poll_core.specs.declared.poll_fault.PollFault.TheVariants as poll
use Rattle.poll_core.specs.declared.session.Session.{Session}
use Rattle.slot_store.specs.Counted.{DoneFewer}
use Rattle.slot_store.specs.Synced.{EachLeft}
use Rattle.standing.specs.Moments.{IsLater}
use Rattle.standing.specs.Rules.{Rules}
use Rattle.standing.specs.AreRules.{AreRules}
use Rattle.standing.specs.Eras.{Eras, texts_of}
use Rattle.standing.specs.Look.{Look}
use Rattle.standing.specs.Marks.{Mark}
use Rattle.standing.specs.Pass.{Pass, Stretch}
use Rattle.standing.specs.Poll.{Poll}
use Rattle.standing.specs.Rows.{Checkpoint}
use Rattle.standing.specs.Stands.{Stands}
use Rattle.standing.specs.Times.{NoneLater}
use Rattle.standing.specs.Sums.{AreSums, Sums}

-- what the outside of a script means
abbrev means : Meanings MemTree MemDisk
means = meanings tree_meaning disk_meaning

-- ---- counts

-- a disk whose faults have a bound has no fuse
no_fuse : (disk : MemDisk) (most : ℕ) → most_faults disk ≡ Some most → fuse_of disk ≡ None
no_fuse disk most bound = by (fuse_of disk) bound
  where
    by : (fuse : Option Fuse) → bound_of fuse (base_of disk) (failures_of disk) ≡ Some most → fuse ≡ None
    by None b = refl
    by (Some fuse) b = let never : ◌≡◌ {A = Option ℕ} None (Some most) = b in absurd (cc (never))

-- no more calls failed than were to
pub few_failed : (failures : Failures) (disk disk_after : MemDisk) → most_faults disk_after ≡ most_faults disk → IfSome (most_faults disk_after) (λ (most : ℕ). faults_of disk_after ≤ most) → IsWell failures disk
    → faults_of disk_after ≤ faults_of disk + failures.waiting
few_failed failures disk disk_after same within well =
    subst (λ (bound : Option ℕ). IfSome bound (λ (most : ℕ). faults_of disk_after ≤ most)) (same ∙ well.bound) within

none_more : (n : ℕ) (m : ℕ) → m ≡ n → n ≡ m + 0
none_more n m same = omega (arith, same)

-- and then those that weren't reached are dropped
pub well_dropped : (failures : Failures) (disk disk_after cleared : MemDisk) → most_faults disk_after ≡ most_faults disk → IfSome (most_faults disk_after) (λ (most : ℕ). faults_of disk_after ≤ most)
    → faults_of cleared ≡ faults_of disk_after → most_faults cleared ≡ cond (is_reached (fuse_of disk_after)) None (Some (faults_of disk_after)) → IsWell failures disk → IsWell (dropped failures) cleared
well_dropped failures disk disk_after cleared same within faults_are is well =
    let unfused : fuse_of disk_after ≡ None = no_fuse disk_after (faults_of disk + failures.waiting) (same ∙ well.bound) in
    record {
      bound = is ∙ ap (λ (fuse : Option Fuse). cond (is_reached fuse) None (Some (faults_of disk_after))) unfused ∙ ap (λ (n : ℕ). Some n) (none_more (faults_of disk_after) (faults_of cleared) faults_are);
      few = omega (arith, faults_are, few_failed failures disk disk_after same within well, well.few);
    }

-- a count that rose, and was to rise by so many at most
pub rose_by_some : (before after waiting most : ℕ) → after ≤ before + waiting → before + waiting ≤ most → most < 18446744073709551615 → Rose before after → 0 < waiting
rose_by_some before after waiting most within few below rose = omega (arith, within, few, below, rose.1)

-- a count that stays at 0 didn't rise
pub none_rose : (before after : ℕ) → before ≡ 0 → after ≡ 0 → Rose before after → ⊥
none_rose before after none still rose = omega (arith, none, still, rose.1)

-- ---- a disk on which a stop is set

pub ready_same : (session : Session) (disk disk_after : MemDisk) → log_of disk_after ≡ log_of disk → StandsOn disk_images session disk → StandsOn disk_images session disk_after
ready_same session disk disk_after same stands =
    let before : (image : Image DiskFile) → LeavesImage (log_of disk_after) image → LeavesImage (log_of disk) image = λ image left. subst (λ (log : Log). LeavesImage log image) same left in
    record {
      one = record { same = λ one another left right. stands.one.same one another (before one left) (before another right) };
      each = record { each = λ image left. stands.each.each image (before image left) };
    }

-- fewer than four calls succeed where no more than three may
pub few_done : (halt : Halt) (done_before done_after : ℕ) (limit : Option ℕ) → limit ≡ Some (done_before + halt.calls) → IfSome limit (λ (most : ℕ). done_after ≤ most) → IsTrue (is_early (Some halt)) → done_after < done_before + 4
few_done halt done_before done_after limit is within early =
    let most : done_after ≤ done_before + halt.calls = subst (λ (l : Option ℕ). IfSome l (λ (m : ℕ). done_after ≤ m)) is within in
    omega (arith, most, leb-true halt.calls 3 early)

-- what the crash leaves of a disk on which the stop was set
pub is_stopped : (halt : Halt) (disk fused stopped left : MemDisk) → log_of fused ≡ log_of disk → moment_of fused ≤ moment_of stopped → most_done fused ≡ Some (done_count (log_of disk) + halt.calls) → most_done stopped ≡ most_done fused
    → IfSome (most_done stopped) (λ (most : ℕ). done_count (log_of stopped) ≤ most) → ((file : DiskFile) → seen_of left file ≡ left_by (tear_of halt.outcome file) (calls_of file (log_of stopped))) → IsStopped halt disk left
is_stopped halt disk fused stopped left same later limit still within image =
    let bound : most_done stopped ≡ Some (done_count (log_of disk) + halt.calls) = still ∙ limit in
    record {
      stopped = stopped;
      later = subst (λ (log : Log). length log ≤ moment_of stopped) same later;
      limit = bound;
      within = subst (λ (l : Option ℕ). IfSome l (λ (m : ℕ). done_count (log_of stopped) ≤ m)) bound within;
      image = image;
    }

-- ---- polls

steps_by : (session : Session) (tree tree_after : MemTree) (disk disk_after : MemDisk) → Passes disk_images (Stays session) disk disk_after ⊎ MayGain means session (moment tree disk) (moment tree_after disk_after) → StepsBy session disk disk_after
steps_by session tree tree_after disk disk_after (inl stays) = inl stays
steps_by session tree tree_after disk disk_after (inr gain) = inr (gain.after, gain.added, gain.comes, gain.crash)

later_by : (session : Session) (disk disk_after : MemDisk) → StepsBy session disk disk_after → moment_of disk ≤ moment_of disk_after
later_by session disk disk_after (inl stays) = stays.later
later_by session disk disk_after (inr gain) = gain.3.later

pub polled_later : (session : Session) (tree tree_after : MemTree) (disk disk_after : MemDisk) → Passes disk_images (Stays session) disk disk_after ⊎ MayGain means session (moment tree disk) (moment tree_after disk_after) → moment_of disk ≤ moment_of disk_after
polled_later session tree tree_after disk disk_after crash = later_by session disk disk_after (steps_by session tree tree_after disk disk_after crash)

-- `disk` may be one on which a stop is set
disk_polled : (rules : Rules) (past : Past) (session : Session) (tree tree_after : MemTree) (disk disk_after : MemDisk) (early : Bool)
    → IsReady session disk → IsOpened rules session → past.history ≡ history_of tree → LeavesAt rules past disk
    → Passes disk_images (Stays session) disk disk_after ⊎ MayGain means session (moment tree disk) (moment tree_after disk_after)
    → (IsTrue early → Passes disk_images (Stays session) disk disk_after)
    → KeepsStandingSince disk_images (rules_of_session session) disk disk_after (state_of tree).world (state_of tree_after).world → IsLater (history_of tree) (history_of tree_after)
    → LeavesAt rules (polled past (history_of tree_after) early) disk_after
disk_polled rules past session tree tree_after disk disk_after early ready opened history_is leaves crash quick keeps later =
    let steps = steps_by session tree tree_after disk disk_after crash in
    let since : KeepsStandingSince disk_images rules disk disk_after (state_of tree).world (state_of tree_after).world =
    subst (λ (r : Rules). KeepsStandingSince disk_images r disk disk_after (state_of tree).world (state_of tree_after).world) opened.rules_are keeps in
    let stood : TakesWhole rules (history_of tree) → EachLeft disk_images disk (IsStanding (history_of tree)) = λ takes. record {
      each = λ image left.
          subst (λ (h : History). IsStanding h image) history_is ((leaves.each image left).standing (subst (λ (h : History). TakesWhole rules h) (sym history_is) takes));
    } in
    leaves_polled session ready.session_is rules opened past disk disk_after ready.stands leaves (history_of tree_after) early steps quick
    (λ takes. stands_after rules (state_of tree).world (state_of tree_after).world disk disk_after (later_by session disk disk_after steps) since (stood (whole_before rules (history_of tree) (history_of tree_after) later takes)) takes)

not_false : IsTrue false → ⊥
not_false is = let never : false ≡ true = is in cc

-- a poll that no stop ends, and then what it didn't reach is dropped
pub disk_through : (rules : Rules) (waits : Waits) (past : Past) (session : Session) (tree tree_after cleared : MemTree) (disk disk_after disk_cleared : MemDisk)
    → IsReady session disk → MayPoll rules waits past session tree disk
    → Passes disk_images (Stays session) disk disk_after ⊎ MayGain means session (moment tree disk) (moment tree_after disk_after)
    → KeepsStandingSince disk_images (rules_of_session session) disk disk_after (state_of tree).world (state_of tree_after).world → IsLater (history_of tree) (history_of tree_after)
    → IsWell (dropped waits.disk) disk_cleared → log_of disk_cleared ≡ log_of disk_after → state_of cleared ≡ unplanned (state_of tree_after)
    → IsDiskAt rules (polled past (history_of cleared) false) (dropped waits.disk) disk_cleared
disk_through rules waits past session tree tree_after cleared disk disk_after disk_cleared ready may crash keeps later well same is =
    let leaves = disk_polled rules past session tree tree_after disk disk_after false ready may.opened may.history_is may.disk_is.leaves crash (λ never. absurd (not_false never)) keeps later in
    record {
      leaves = leaves_same rules (polled past (history_of cleared) false) disk_after disk_cleared same
          (subst (λ (h : History). LeavesAt rules (polled past h false) disk_after) (sym (history_cleared tree_after cleared is)) leaves);
      well = well;
    }

-- a poll on a disk on which a stop is set, before the crash
pub disk_stopped : (rules : Rules) (waits : Waits) (past : Past) (session : Session) (tree tree_after cleared : MemTree) (disk fused disk_after : MemDisk) (halt : Halt)
    → IsReady session disk → MayPoll rules waits past session tree disk → log_of fused ≡ log_of disk → most_done fused ≡ Some (done_count (log_of disk) + halt.calls)
    → Passes disk_images (Stays session) fused disk_after ⊎ MayGain means session (moment tree fused) (moment tree_after disk_after)
    → (DoneFewer 4 (done_of fused) (done_of disk_after) → Passes disk_images (Stays session) fused disk_after)
    → KeepsStandingSince disk_images (rules_of_session session) fused disk_after (state_of tree).world (state_of tree_after).world → IsLater (history_of tree) (history_of tree_after)
    → most_done disk_after ≡ most_done fused → IfSome (most_done disk_after) (λ (most : ℕ). done_count (log_of disk_after) ≤ most)
    → state_of cleared ≡ unplanned (state_of tree_after) → LeavesAt rules (polled past (history_of cleared) (is_early (Some halt))) disk_after
disk_stopped rules waits past session tree tree_after cleared disk fused disk_after halt ready may same limit crash quick keeps later still within is =
    let ready_fused : IsReady session fused = record { session_is = ready.session_is; stands = ready_same session disk fused same ready.stands } in
    let count : done_count (log_of fused) ≡ done_count (log_of disk) = ap done_count same in
    let early : IsTrue (is_early (Some halt)) → Passes disk_images (Stays session) fused disk_after = λ soon.
    let few = few_done halt (done_count (log_of disk)) (done_count (log_of disk_after)) (most_done disk_after) (still ∙ limit) within soon in
    quick (omega (arith, few, count)) in
    let leaves = disk_polled rules past session tree tree_after fused disk_after (is_early (Some halt)) ready_fused may.opened may.history_is (leaves_same rules past disk fused same may.disk_is.leaves) crash early keeps later in
    subst (λ (h : History). LeavesAt rules (polled past h (is_early (Some halt))) disk_after) (sym (history_cleared tree_after cleared is)) leaves

-- ---- what stood before a poll

-- What the session goes on from, as rows and an output, stands by these settings alone.
pub record BeginsBy (rules : Rules) (session : Session) (history : History) : Type 0 where
  pub output : List ℕ
  pub stands : Stands (one_era rules) history (checkpoint_of_session session).rows (checkpoint_of_session session).next_id output
  pub size : length output ≡ kept_of session
  pub times : NoneLater (checkpoint_of_session session).observed stands.marks

-- lines that stand, none later than the session's checkpoint tells
abbrev Timely : Session → History → List ℕ → Eras → Type 0
Timely session history output eras =
    (stands : Stands eras history (checkpoint_of_session session).rows (checkpoint_of_session session).next_id output) × NoneLater (checkpoint_of_session session).observed stands.marks

pub begins_by : OneSet → (rules : Rules) (waits : Waits) (past : Past) (session : Session) (tree : MemTree) (disk : MemDisk) → IsReady session disk → MayPoll rules waits past session tree disk → TakesWhole rules (history_of tree) → BeginsBy rules session (history_of tree)
begins_by one_set rules waits past session tree disk ready may takes =
    let image : Image DiskFile = seen_of disk in
    let there = leaves_shown (log_of disk) in
    let left = ready.stands.each.each image there in
    let own = may.opened.rules_are in
    let then : IsStanding past.history image = (may.disk_is.leaves.each image there).standing (subst (λ (h : History). TakesWhole rules h) (sym may.history_is) takes) in
    let stood : IsStanding (history_of tree) image = subst (λ (h : History). IsStanding h image) may.history_is then in
    let before = stands_before session (session_eras one_set session ready.session_is (subst AreRules (sym own) may.laws)) (history_of tree) image left stood in
    let same : before.eras ≡ one_era rules = eras_of_one one_set rules (session_has rules session ready.session_is own) session.eras before.eras before.are may.opened.eras in
    let timely = subst (Timely session (history_of tree) before.output) same (before.stands, before.times) in
    record {
      output = before.output;
      stands = timely.0;
      size = before.size;
      times = timely.1;
    }

-- ---- what is told

-- the tree tells its world before a poll and behind it
abbrev pub IsTelling : MemTree → MemTree → Type 0
IsTelling tree tree_after = ((state_of tree).told ≡ true) × ((state_of tree_after).told ≡ true)

pub telling_by : (tree tree_after : MemTree) → LeavesTree tree_meaning tree tree_after → (state_of tree).told ≡ true → IsTelling tree tree_after
telling_by tree tree_after leaves told = (told, told_stays (state_of tree) (state_of tree_after) told leaves.plan)

pub later_told : (tree tree_after : MemTree) → IsTelling tree tree_after → LeavesTree tree_meaning tree tree_after → IsLater (history_of tree) (history_of tree_after)
later_told tree tree_after telling leaves = change_told GoesLater (state_of tree) (state_of tree_after) telling.0 telling.1 leaves.later

-- what is told of a poll is said of the histories
pub since_told : (session : Session) (tree tree_after : MemTree) (disk disk_after : MemDisk) → IsTelling tree tree_after → Told (KeepsStandingSince disk_images (rules_of_session session) disk disk_after) (told_world (state_of tree)) (told_world (state_of tree_after))
    → KeepsStandingSince disk_images (rules_of_session session) disk disk_after (state_of tree).world (state_of tree_after).world
since_told session tree tree_after disk disk_after telling keeps = change_told (KeepsStandingSince disk_images (rules_of_session session) disk disk_after) (state_of tree) (state_of tree_after) telling.0 telling.1 keeps

-- ---- what becomes of the session

has_checkpoint : (journal : Option Journal) (saved : Checkpoint) (image : Image DiskFile) → is_none journal ≡ false → EndsWithMemory journal saved image → HasCheckpoint (Some saved) image
has_checkpoint None saved image is ends = let never : true ≡ false = is in absurd (cc)
has_checkpoint (Some journal) saved image is ends = (journal, ends.journal_is)

-- a pass of this poll, with its numbers
abbrev Summed : Stretch → List Look → Checkpoint → Checkpoint → List Mark → Sums → Poll → Type 0
Summed stretch looks before after added sums asked = (pass : Pass asked stretch looks before after added) × AreSums asked stretch looks before after added pass sums

pub goes_on : OneSet → (rules : Rules) (waits : Waits) (past : Past) (session next : Session) (summary : Summary) (tree tree_after : MemTree) (disk disk_after : MemDisk)
    → IsReady session disk → MayPoll rules waits past session tree disk → Polled means session next summary (moment tree disk) (moment tree_after disk_after)
    → IsTelling tree tree_after → IsLawful (history_of tree_after) → GoesBy waits.plan (history_of tree) (history_of tree_after) → (state_of tree).faults ≤ (state_of tree_after).faults → (state_of tree_after).faults ≤ (state_of tree).faults + waits.tree.waiting
    → GoesOn rules waits (history_of tree_after) disk_after (Some next)
goes_on one_set rules waits past session next summary tree tree_after disk disk_after ready may done telling lawful goes later few =
    let own = may.opened.rules_are in
    let first : Bool = is_first session in
    let stretch : Stretch = stretch_of (history_of tree) (history_of tree_after) (state_of tree).faults (state_of tree_after).faults in
    let pass : IsSummed session (advance (checkpoint_of_session next) done.added) summary (counting tree_meaning tree tree_after) (state_of tree).world (state_of tree_after).world =
    change_told (IsSummed session (advance (checkpoint_of_session next) done.added) summary (counting tree_meaning tree tree_after)) (state_of tree) (state_of tree_after) telling.0 telling.1 done.pass in (
      record { eras = done.comes.eras ∙ may.opened.eras; rules_are = done.rules ∙ own; limit = done.limit ∙ may.opened.limit },
      λ none_planned none_fails takes small.
          let still : GoesBy [] (history_of tree) (history_of tree_after) = subst (λ (p : List (ℕ × Event)). GoesBy p (history_of tree) (history_of tree_after)) none_planned goes in
          let before = begins_by one_set rules waits past session tree disk ready may (whole_before rules (history_of tree) (history_of tree_after) goes.later takes) in
          let summed = subst (Summed stretch pass.looks (checkpoint_of_session session) (checkpoint_of_session next) done.added (sums_of summary)) (session_polls rules session may.opened.eras own) (pass.pass, pass.sums) in
          let whole : AreWhole (one_era rules) (history_of tree_after) (checkpoint_of_session next).rows =
          small_whole (one_era rules) (one_era_laws rules may.laws) first (stamp_of_session session) (session_plain rules session own takes.never) stretch pass.looks
          (checkpoint_of_session session) (checkpoint_of_session next) done.added summed.0 (sums_of summary) before.output
          (omega (arith, none_fails, later, few)) (omega (arith, may.tree_is.few, may.few_tree)) takes.apart lawful (undisturbed_by (history_of tree) (history_of tree_after) still)
          before.stands (before_poll session ready.session_is before.stands.marks before.times) summed.1 small in
          record {
            each = λ image left. record {
              checkpoint = checkpoint_of_session next;
              has = has_checkpoint (journal_of_session next) (checkpoint_of_session next) image done.not_first (done.stands.each.each image left).memory;
              whole = whole;
            };
          },
    )

pub may_fill : OneSet → (rules : Rules) (waits : Waits) (past : Past) (session : Session) (full : ℕ) (tree tree_after : MemTree) (disk : MemDisk)
    → IsReady session disk → MayPoll rules waits past session tree disk → Overflows session full (state_of tree).world (state_of tree_after).world → IsLater (history_of tree) (history_of tree_after) → MayFill rules (history_of tree_after)
may_fill one_set rules waits past session full tree tree_after disk ready may overflows later = λ takes.
    let own = may.opened.rules_are in
    let before = begins_by one_set rules waits past session tree disk ready may (whole_before rules (history_of tree) (history_of tree_after) later takes) in
    let timely = subst (λ (r : Rules). Timely session (history_of tree) before.output (one_era r)) (sym own) (before.stands, before.times) in
    let eras_are : session.eras ≡ texts_of (one_era (rules_of_session session)) = subst (λ (r : Rules). session.eras ≡ texts_of (one_era r)) (sym own) may.opened.eras in
    subst (λ (r : Rules). Large r (history_of tree_after)) own
    (fills_large session full (state_of tree).world (state_of tree_after).world before.output ready.session_is eras_are (subst AreRules (sym own) may.laws) may.opened.limit overflows
    (subst (λ (r : Rules). TakesWhole r (history_of tree_after)) (sym own) takes) timely.0 (before_poll session ready.session_is timely.0.marks timely.1) before.size)

-- No number is the last one while there are fewer polls than numbers.
pub not_worn : (rules : Rules) (waits : Waits) (past : Past) (session : Session) (tree : MemTree) (disk : MemDisk) → IsReady session disk → MayPoll rules waits past session tree disk → IsWorn (journal_of_session session) → ⊥
not_worn rules waits past session tree disk ready may worn =
    let image : Image DiskFile = seen_of disk in
    let there = leaves_shown (log_of disk) in
    worn_never (journal_of_session session) (checkpoint_of_session session) image past.polls (ready.stands.each.each image there).memory (may.disk_is.leaves.each image there).numbered may.few worn

-- Of the faults of a poll only that of a full output can come, or that of a call on the disk that was to fail.
pub refused_fills : OneSet → (rules : Rules) (waits : Waits) (past : Past) (session : Session) (fault : PollFault) (tree tree_after : MemTree) (disk disk_after : MemDisk)
    → IsReady session disk → MayPoll rules waits past session tree disk → faults_of disk_after ≤ faults_of disk + waits.disk.waiting
    → ((size : ℕ) → fault ≡ OutputFull size → Overflows session size (state_of tree).world (state_of tree_after).world)
    → ((sequence : ℕ) → fault ≡ Worn sequence → IsWorn (journal_of_session session)) → (fault ≡ poll.Memory → ⊥)
    → HasPollCause {T = Session × Summary} (Err fault) (faults_of disk) (faults_of disk_after) → IsLater (history_of tree) (history_of tree_after) → (0 < waits.disk.waiting) ⊎ MayFill rules (history_of tree_after)
refused_fills one_set rules waits past session poll.Disk tree tree_after disk disk_after ready may well full worn never cause later =
    inl (rose_by_some (faults_of disk) (faults_of disk_after) waits.disk.waiting waits.disk.most well may.disk_is.well.few may.few_disk cause)
refused_fills one_set rules waits past session (OutputFull size) tree tree_after disk disk_after ready may well full worn never cause later = inr (may_fill one_set rules waits past session size tree tree_after disk ready may (full size refl) later)
refused_fills one_set rules waits past session (Worn sequence) tree tree_after disk disk_after ready may well full worn never cause later = absurd (not_worn rules waits past session tree disk ready may (worn sequence refl))
refused_fills one_set rules waits past session poll.Memory tree tree_after disk disk_after ready may well full worn never cause later = absurd (never refl)

-- ---- what the poll didn't reach is dropped

-- the poll came to its end
pub ended_goes_on : OneSet → (rules : Rules) (waits : Waits) (past : Past) (session next : Session) (summary : Summary) (tree tree_after cleared : MemTree) (disk disk_after : MemDisk)
    → IsReady session disk → MayPoll rules waits past session tree disk → Polled means session next summary (moment tree disk) (moment tree_after disk_after)
    → IsTelling tree tree_after → IsLawful (history_of tree_after) → IsTreePolled waits tree cleared → state_of cleared ≡ unplanned (state_of tree_after) → GoesOn rules waits (history_of cleared) disk_after (Some next)
ended_goes_on one_set rules waits past session next summary tree tree_after cleared disk disk_after ready may done telling lawful went is =
    let same : history_of cleared ≡ history_of tree_after = history_cleared tree_after cleared is in
    let faults_are : (state_of cleared).faults ≡ (state_of tree_after).faults = ap (λ (s : TreeState). s.faults) is in
    let goes : GoesBy waits.plan (history_of tree) (history_of tree_after) = subst (λ (h : History). GoesBy waits.plan (history_of tree) h) same went.goes in
    subst (λ (h : History). GoesOn rules waits h disk_after (Some next)) (sym same) (goes_on one_set rules waits past session next summary tree tree_after disk disk_after ready may done telling lawful goes (omega (arith, faults_are, went.later)) (omega (arith, faults_are, went.few)))

-- the poll was refused
pub refused_goes_on : OneSet → (rules : Rules) (waits : Waits) (past : Past) (session : Session) (fault : PollFault) (tree tree_after cleared : MemTree) (disk disk_after : MemDisk)
    → IsReady session disk → MayPoll rules waits past session tree disk → faults_of disk_after ≤ faults_of disk + waits.disk.waiting
    → ((size : ℕ) → fault ≡ OutputFull size → Overflows session size (state_of tree).world (state_of tree_after).world)
    → ((sequence : ℕ) → fault ≡ Worn sequence → IsWorn (journal_of_session session)) → (fault ≡ poll.Memory → ⊥)
    → HasPollCause {T = Session × Summary} (Err fault) (faults_of disk) (faults_of disk_after) → IsLater (history_of tree) (history_of tree_after)
    → state_of cleared ≡ unplanned (state_of tree_after) → GoesOn rules waits (history_of cleared) disk_after None
refused_goes_on one_set rules waits past session fault tree tree_after cleared disk disk_after ready may well full worn never cause later is =
    subst (λ (h : History). (0 < waits.disk.waiting) ⊎ MayFill rules h) (sym (history_cleared tree_after cleared is)) (refused_fills one_set rules waits past session fault tree tree_after disk disk_after ready may well full worn never cause later)

-- ---- what the script goes on with

-- it holds where an answer is Ok, and where it isn't
pub on_ok : {T E : Type 0} (P : Type 0) (answer : Result T E) → P → OnOk answer P
on_ok P (Ok value) holds = holds
on_ok P (Err fault) holds = tt

pub ready_next : (session : Session) (tree tree_after : MemTree) (disk disk_after disk_cleared : MemDisk) (polled : Result (Session × Summary) PollFault) → log_of disk_cleared ≡ log_of disk_after
    → IfOk polled (λ done. IsSession done.0) → IfOk polled (λ done. Polled means session done.0 done.1 (moment tree disk) (moment tree_after disk_after))
    → IfOk (next_of polled) (λ next. IfSome next (λ own. IsReady own disk_cleared))
ready_next session tree tree_after disk disk_after disk_cleared (Ok done) same is ok = record { session_is = is; stands = ready_same done.0 disk_after disk_cleared same ok.stands }
ready_next session tree tree_after disk disk_after disk_cleared (Err poll.Disk) same is ok = tt
ready_next session tree tree_after disk disk_after disk_cleared (Err (OutputFull size)) same is ok = tt
ready_next session tree tree_after disk disk_after disk_cleared (Err (Worn sequence)) same is ok = tt
ready_next session tree tree_after disk disk_after disk_cleared (Err poll.Memory) same is ok = tt

-- what a poll's answer says of what it left
pub record Answers (session : Session) (tree tree_after : MemTree) (disk disk_after : MemDisk) (polled : Result (Session × Summary) PollFault) : Type 0 where
  pub ok : IfOk polled (λ done. Polled means session done.0 done.1 (moment tree disk) (moment tree_after disk_after))
  pub full : (size : ℕ) → polled ≡ Err (OutputFull size) → Told (Overflows session size) (told_world (state_of tree)) (told_world (state_of tree_after))
  pub worn : (sequence : ℕ) → polled ≡ Err (Worn sequence) → IsWorn (journal_of_session session)
  pub cause : HasPollCause polled (faults_of disk) (faults_of disk_after)
  pub leaves : LeavesTree tree_meaning tree tree_after
  pub lawful : TellsLawful (told_world (state_of tree_after))

-- the same on a disk of which a crash may leave the same
goes_on_same : (rules : Rules) (waits : Waits) (history : History) (disk disk_cleared : MemDisk) (next : Option Session) → log_of disk_cleared ≡ log_of disk → GoesOn rules waits history disk next → GoesOn rules waits history disk_cleared next
goes_on_same rules waits history disk disk_cleared None same on = on
goes_on_same rules waits history disk disk_cleared (Some next) same on = (
  on.0,
  λ none_planned none_fails takes small. record { each = λ image left. (on.1 none_planned none_fails takes small).each image (subst (λ (log : Log). LeavesImage log image) same left) },
)

module _ (one_set : OneSet) (session : Session) (tree tree_after cleared : MemTree) (disk disk_after disk_cleared : MemDisk) (ready : IsReady session disk) (few : (failures : Failures) → IsWell failures disk → faults_of disk_after ≤ faults_of disk + failures.waiting) (went : (waits : Waits) → IsTreeAt waits.plan waits.tree tree → IsTreePolled waits tree cleared) (is : state_of cleared ≡ unplanned (state_of tree_after)) (same_log : log_of disk_cleared ≡ log_of disk_after) where
  abbrev Goes : Option Session → Type 0
  Goes next = (rules : Rules) (waits : Waits) (past : Past) → MayPoll rules waits past session tree disk → GoesOn rules waits (history_of cleared) disk_cleared next

  refused_next : (fault : PollFault) → (fault ≡ poll.Memory → ⊥) → Answers session tree tree_after disk disk_after (Err fault) → Goes None
  refused_next fault never answers = λ rules waits past may.
      let telling : IsTelling tree tree_after = telling_by tree tree_after answers.leaves may.tree_is.told in
      refused_goes_on one_set rules waits past session fault tree tree_after cleared disk disk_after ready may (few waits.disk may.disk_is.well)
      (λ size same. change_told (Overflows session size) (state_of tree) (state_of tree_after) telling.0 telling.1 (answers.full size (ap Err same))) (λ sequence same. answers.worn sequence (ap Err same)) never answers.cause
      (later_told tree tree_after telling answers.leaves) is

  pub goes_on_next : (polled : Result (Session × Summary) PollFault) → Answers session tree tree_after disk disk_after polled → IfOk (next_of polled) Goes
  goes_on_next (Ok done) answers = λ rules waits past may.
      goes_on_same rules waits (history_of cleared) disk_after disk_cleared (Some done.0) same_log
      (let telling : IsTelling tree tree_after = telling_by tree tree_after answers.leaves may.tree_is.told in
      ended_goes_on one_set rules waits past session done.0 done.1 tree tree_after cleared disk disk_after ready may answers.ok telling (lawful_told (state_of tree_after) telling.1 answers.lawful) (went waits may.tree_is) is)
  goes_on_next (Err poll.Disk) answers = refused_next poll.Disk (λ same. cc) answers
  goes_on_next (Err (OutputFull size)) answers = refused_next (OutputFull size) (λ same. cc) answers
  goes_on_next (Err (Worn sequence)) answers = refused_next (Worn sequence) (λ same. cc) answers
  goes_on_next (Err poll.Memory) answers = tt
