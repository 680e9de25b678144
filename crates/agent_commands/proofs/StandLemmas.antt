-- What stands is kept from call to call.
use Rattle.std.proofs.Common.{◌≡◌, ℕ, ◌<◌, ◌≤◌, List, Option, None, Some, IsTrue, refl, sym, subst, arith, inl, inr}
use Rattle.std.specs.Prelude.{Contains}
use Rattle.checkpoint_store.specs.declared.Checkpoint.{Checkpoint}
use Rattle.file_pass.specs.TreeTerms.{GoesLater}
use Rattle.outside.specs.Crash.{Passes}
use Rattle.outside.specs.Image.{Image, Same}
use Rattle.outside.specs.Images.{Images}
use Rattle.outside.specs.Lawful.{IsLawful}
use Rattle.outside.specs.World.{History, Told, World}
use Rattle.outside.specs.declared.disk.DiskFile.{DiskFile}
use Rattle.outside.specs.declared.disk.DiskFile.TheVariants.{Settings}
use Rattle.poll_core.proofs.EraLemmas.{SessionEras, before_poll}
use Rattle.poll_core.proofs.ImageLemmas.{found_kept, standing_still}
use Rattle.poll_core.proofs.StoodLemmas.{StandsBefore, stands_before}
use Rattle.poll_core.specs.Adopting.{KeepsStandingIn}
use Rattle.poll_core.specs.IsSession.{IsSession}
use Rattle.pipeline.specs.MadeOf.{HasRules, AreErasOf}
use Rattle.poll_core.specs.Polled.{IsStanding, IsSummed, Advance, Counting, advance}
use Rattle.poll_core.specs.Reopens.{Reopens}
use Rattle.poll_core.specs.SessionParts.{checkpoint_of_session, rules_of_session, stamp_of_session}
use Rattle.poll_core.specs.Since.{KeepsStandingSince}
use Rattle.poll_core.specs.StandsOn.{StandsOn}
use Rattle.poll_core.specs.Summed.{TellsAll}
use Rattle.poll_core.specs.declared.summary.Summary.{Summary}
use Rattle.poll_core.specs.declared.session.Session.{Session}
use Rattle.standing.proofs.MomentLemmas.{apart_before, later_none, later_then}
use Rattle.standing.specs.Apart.{Apart}
use Rattle.standing.specs.Eras.{Eras}
use Rattle.standing.specs.Look.{Look, size}
use Rattle.standing.specs.Moments.{IsLater, IsNamed, KeepsNames}
use Rattle.standing.specs.Rules.{Includes, Rules}
use Rattle.standing.specs.Stands.{Stands}
use Rattle.standing.specs.Sums.{IsReached}
use Rattle.standing.specs.Times.{AreBefore}
use Rattle.agent_commands.specs.Headline.{HoldsAll, KeepsFrom, KeepsStanding, StoodSince}
use Rattle.agent_commands.specs.Moment.{Moment, Meanings, moment}
use Rattle.agent_commands.specs.Opens.{Opens}
use Rattle.outside.proofs.Telling.{told_then}

pub reopened_stands : (history : History) (old new : Image DiskFile) → Reopens old new → IsStanding history old → IsStanding history new
reopened_stands history old new reopens standing = record {
  there = standing.there;
  found = found_kept reopens.logs standing.there standing.found;
  eras = standing.eras;
  are = standing.are;
  stands = standing_still standing.eras history old new standing.there reopens standing.found standing.stands;
}

module _ {D : Type 0} (images : Images DiskFile D) where
  -- what could be left at a moment counts among what could be left since then
  abbrev pub CountsNow : D → Type 0
  CountsNow disk = (from : ℕ) (image : Image DiskFile) → from ≤ images.moment disk → images.may_leave disk image → images.left_since disk from image

  -- nothing was written
  pub all_same : (history : History) (old new : D) → CountsNow old → Passes images Same old new → KeepsStandingIn images history old new
  all_same history old new counts passes from early stood image left = elim (passes.since from image early left) [
    | inl past ↦ stood image past
    | inr past ↦ subst (λ i. IsStanding history i) (sym past.2) (stood past.0 (counts from past.0 early past.1))
  ]

  -- nothing was written before
  pub read_stands : (history : History) (old mid new : D) → CountsNow old → Passes images Same old mid → KeepsStandingIn images history mid new → KeepsStandingIn images history old new
  read_stands history old mid new counts passes keeps from early stood = keeps from (omega (arith, early, passes.later)) (all_same history old mid counts passes from early stood)

  pub all_reopened : (history : History) (old new : D) → CountsNow old → Passes images Reopens old new
      → (from : ℕ) → from ≤ images.moment old → ((image : Image DiskFile) → images.left_since old from image → IsStanding history image)
      → (image : Image DiskFile) → images.left_since new from image → IsStanding history image
  all_reopened history old new counts passes from early stood image left = elim (passes.since from image early left) [
    | inl past ↦ stood image past
    | inr past ↦ reopened_stands history past.0 image past.2 (stood past.0 (counts from past.0 early past.1))
  ]

  -- ---- polls, one after another

  pub stands_then : (rules : Rules) (old mid new : D) (before between after : World) → GoesLater between after → images.moment old ≤ images.moment mid
      → KeepsStandingSince images rules old mid before between → KeepsStandingSince images rules mid new between after → KeepsStandingSince images rules old new before after
  stands_then rules old mid new before between after goes later a b never apart from early stood =
      b never apart from (omega (arith, early, later)) (a never (apart_before rules.front_size between.history after.history goes apart) from early stood)

  pub told_stands_then : (rules : Rules) (old mid new : D) (before between after : Option World) → Told GoesLater between after → images.moment old ≤ images.moment mid
      → Told (KeepsStandingSince images rules old mid) before between → Told (KeepsStandingSince images rules mid new) between after → Told (KeepsStandingSince images rules old new) before after
  told_stands_then rules old mid new None None None goes later a b = tt
  told_stands_then rules old mid new None None (Some z) goes later a b = b
  told_stands_then rules old mid new None (Some y) after goes later a b = absurd a
  told_stands_then rules old mid new (Some x) None after goes later a b = absurd a
  told_stands_then rules old mid new (Some x) (Some y) None goes later a b = b
  told_stands_then rules old mid new (Some x) (Some y) (Some z) goes later a b = stands_then rules old mid new x y z goes later a b

  pub told_stands_none : (rules : Rules) (disk : D) (now : Option World) → Told (KeepsStandingSince images rules disk disk) now now
  told_stands_none rules disk None = tt
  told_stands_none rules disk (Some world) = λ never apart from early stood. stood

  pub told_reopened : (rules : Rules) (old new : D) (now : Option World) → CountsNow old → Passes images Reopens old new → Told (KeepsStandingSince images rules old new) now now
  told_reopened rules old new None counts passes = tt
  told_reopened rules old new (Some x) counts passes = λ never apart from early stood. all_reopened x.history old new counts passes from early stood

  -- ---- a command

  -- the settings file asks for what the session was made of
  opened_rules : (session : Session) (old mid : D) → Opens images session old mid → IsTrue (images.tells old) → HasRules (images.seen old Settings) (rules_of_session session)
  opened_rules session old mid opens tells =
      subst (λ text. HasRules text (rules_of_session session)) (opens.settings tells) (session.pipeline, opens.is_session.made, refl)

  -- a session was opened, and what it did keeps what stood
  pub opened_stands : (session : Session) (old mid new : D) (before after : Option World) → CountsNow old → Opens images session old mid → Passes images Reopens old mid
      → Told (KeepsStandingSince images (rules_of_session session) mid new) before after → Told (KeepsStanding images old new) before after
  opened_stands session old mid new None None counts opens passes keeps = tt
  opened_stands session old mid new None (Some y) counts opens passes keeps = keeps
  opened_stands session old mid new (Some x) None counts opens passes keeps = keeps
  opened_stands session old mid new (Some x) (Some y) counts opens passes keeps = λ tells never apart from early stood.
      let own = opened_rules session old mid opens tells in
      keeps (never (rules_of_session session) own) (apart (rules_of_session session) own) from (omega (arith, early, passes.later)) (all_reopened x.history old mid counts passes from early stood)

  -- no session was opened
  pub closed_stands : (old new : D) (now : Option World) → CountsNow old → Passes images Reopens old new → Told (KeepsStanding images old new) now now
  closed_stands old new None counts passes = tt
  closed_stands old new (Some x) counts passes = λ tells never apart from early stood. all_reopened x.history old new counts passes from early stood

  -- nothing was written
  pub same_stands : (old new : D) (now : Option World) → CountsNow old → Passes images Same old new → Told (KeepsStanding images old new) now now
  same_stands old new None counts passes = tt
  same_stands old new (Some x) counts passes = λ tells never apart from early stood. all_same x.history old new counts passes from early stood

  -- whatever the history is, what stood stands
  pub all_stands : (old new : D) (now : Option World) → ((history : History) → KeepsStandingIn images history old new) → Told (KeepsStanding images old new) now now
  all_stands old new None keeps = tt
  all_stands old new (Some x) keeps = λ tells never apart from early stood. keeps x.history from early stood

-- ---- complete polls

-- the law of complete polls
abbrev pub ReachesAll : Type 0
ReachesAll = (session : Session) (next : Advance) (summary : Summary) (counts : Counting)
    (old new : World) (summed : IsSummed session next summary counts old new)
    → TellsAll summary → (rules_of_session session).flush_after ≡ 0 → (output path : List ℕ) (file : ℕ) (eras : Eras) → IsSession session
    → AreErasOf session.eras eras
    → IsLater old.history new.history → Apart (rules_of_session session).front_size new.history
    → IsLawful new.history → KeepsNames old.history new.history
    → (stands : Stands eras old.history (checkpoint_of_session session).rows (checkpoint_of_session session).next_id output)
    → AreBefore (stamp_of_session session) stands.marks
    → Includes (rules_of_session session) path → IsNamed new.history path file
    → (here : Look) × Contains summed.looks here × (here.file ≡ file)
    × (0 < size here → IsReached eras new.history next.after.rows here)

same_world : (one other : World) → Some one ≡ Some other → one ≡ other
same_world one other same = cc

pub told_later_then : (before between after : Option World) → Told GoesLater before between → Told GoesLater between after → Told GoesLater before after
told_later_then before between after a b = told_then GoesLater GoesLater GoesLater before between after (λ x y z one two. later_then x.history y.history z.history one two) a b

pub told_later_same : (now : Option World) → Told GoesLater now now
told_later_same None = tt
told_later_same (Some x) = later_none x.history

-- what the session began with, where each image that a crash may leave stands
stood_rows : {D : Type 0} (images : Images DiskFile D) → ((disk : D) → IsTrue (images.tells disk) → images.may_leave disk (images.seen disk)) → (session : Session) → SessionEras session → (disk : D) (history : History)
    → StandsOn images session disk → StoodSince images history disk disk → StandsBefore session history
stood_rows images shown session own disk history stands stood =
    let image : Image DiskFile = images.seen disk in
    let there = shown disk stood.tells in
    stands_before session own history image (stands.each.each image there) (stood.each.each image there)

module _ {D : Type 0} (images : Images DiskFile D) (shown : (disk : D) → IsTrue (images.tells disk) → images.may_leave disk (images.seen disk)) (law : ReachesAll) (session : Session) (is : IsSession session) (own : SessionEras session) where
  holds_all : (after : Checkpoint) (summary : Summary) (disk : D) (old new : World) → StandsOn images session disk
      → HoldsAll session after summary (StoodSince images old.history disk disk) old new
  holds_all after summary disk old new stands added counts summed complete stood path file included named =
      let before = stood_rows images shown session own disk old.history stands stood in
      let found = law session (advance after added) summary counts old new summed complete.tells_all complete.never before.output path file before.eras is before.are complete.later complete.apart complete.lawful complete.names_kept before.stands (before_poll session is before.stands.marks before.times) included named in
      record { here = found.0; looked = found.1; file_is = found.2; eras = before.eras; are = before.are; reached = found.3 }

  pub told_holds_all : (after : Checkpoint) (summary : Summary) (disk : D) (old new : Option World) → StandsOn images session disk → Told GoesLater old new
      → (first : World) → old ≡ Some first → Told (HoldsAll session after summary (StoodSince images first.history disk disk)) old new
  told_holds_all after summary disk None None stands later first told = tt
  told_holds_all after summary disk None (Some y) stands later first told = later
  told_holds_all after summary disk (Some x) None stands later first told = later
  told_holds_all after summary disk (Some x) (Some y) stands later first told =
      subst (λ (world : World). HoldsAll session after summary (StoodSince images world.history disk disk) x y) (same_world x first told) (holds_all after summary disk x y stands)

module _ {D : Type 0} (images : Images DiskFile D) (only_now : (disk : D) (image : Image DiskFile) → images.left_since disk (images.moment disk) image → images.may_leave disk image) (counts : (disk : D) → CountsNow images disk) where
  -- what stood at the begin stands now
  stood_now : (rules : Rules) (begun now : D) (first old new : World) → images.moment begun ≤ images.moment now → KeepsStandingSince images rules begun now first old → rules.flush_after ≡ 0 → IsLater old.history new.history → Apart rules.front_size new.history
      → StoodSince images first.history begun now → StoodSince images old.history now now
  stood_now rules begun now first old new later keeps never goes apart stood = record {
    each = record {
      each = λ image left.
          keeps never (apart_before rules.front_size old.history new.history goes apart) (images.moment begun) (omega arith) (λ one since. stood.each.each one (only_now begun one since))
          image (counts now (images.moment begun) image later left);
    };
    tells = stood.tells;
  }

  -- what a poll holds where the images stood at its begin, it holds where they stood when the command began
  pub holds_since : (session : Session) (after : Checkpoint) (summary : Summary) (begun now : D) (first : World) (earlier old new : Option World) → images.moment begun ≤ images.moment now
      → Told (KeepsStandingSince images (rules_of_session session) begun now) earlier old → earlier ≡ Some first → Told GoesLater old new
      → ((own : World) → old ≡ Some own → Told (HoldsAll session after summary (StoodSince images own.history now now)) old new)
      → Told (HoldsAll session after summary (StoodSince images first.history begun now)) old new
  holds_since session after summary begun now first earlier None None later keeps is goes own = tt
  holds_since session after summary begun now first earlier None (Some y) later keeps is goes own = goes
  holds_since session after summary begun now first earlier (Some x) None later keeps is goes own = goes
  holds_since session after summary begun now first earlier (Some x) (Some y) later keeps is goes own = λ added counts summed complete stood.
      let rules : Rules = rules_of_session session in
      let kept : KeepsStandingSince images rules begun now first x = subst (λ (world : Option World). Told (KeepsStandingSince images rules begun now) world (Some x)) is keeps in
      own x refl added counts summed complete (stood_now rules begun now first x y later kept complete.never complete.later complete.apart stood)

-- ---- from the command's begin on

module _ {T D K C : Type 0} (meanings : Meanings T D K C) where
  pub keeps_then : (rules : Rules) (begun mid now : Moment T D K C) → KeepsFrom meanings rules begun mid → KeepsFrom meanings rules mid now → KeepsFrom meanings rules begun now
  keeps_then rules begun mid now a b = record {
    later = omega (arith, a.later, b.later);
    goes = told_later_then (meanings.trees.world begun.tree) (meanings.trees.world mid.tree) (meanings.trees.world now.tree) a.goes b.goes;
    standing = told_stands_then meanings.disks.images rules begun.disk mid.disk now.disk (meanings.trees.world begun.tree) (meanings.trees.world mid.tree) (meanings.trees.world now.tree) b.goes a.later a.standing b.standing;
  }

  -- a session was opened, and no file was looked at
  pub keeps_opened : (rules : Rules) (tree : T) (old mid : D) (report : K) (clock : C) → CountsNow meanings.disks.images old → Passes meanings.disks.images Reopens old mid
      → KeepsFrom meanings rules (moment tree old report clock) (moment tree mid report clock)
  keeps_opened rules tree old mid report clock counts passes = record {
    later = passes.later;
    goes = told_later_same (meanings.trees.world tree);
    standing = told_reopened meanings.disks.images rules old mid (meanings.trees.world tree) counts passes;
  }
