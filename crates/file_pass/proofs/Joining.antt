-- Calls of a pass, one after another.
use Rattle.std.proofs.Common.{◌≡◌, ℕ, ◌+◌, ◌<◌, ◌≤◌, ◌^◌, List, [], ◌∷◌, ◌++◌, length, get_or, take, min, Bool, refl, sym, ap, subst, ◌∙◌, arith, length-append}
use Rattle.std.proofs.lemmas.Grind.{flat_map-append}
use Rattle.std.proofs.lemmas.List.{take_all, take_more, length-take-le}
use Rattle.std.specs.Prelude.{Option, None, Some, Result, Ok, Err, ◌==◌, filter, not}
use Rattle.file_tracker.specs.declared.row.Row.{Row}
use Rattle.outside.proofs.Counting.{never_falls_same, never_falls_rose}
use Rattle.outside.proofs.Seeing.{given_back}
use Rattle.outside.proofs.Telling.{told_same, told_weaker, told_then}
use Rattle.outside.specs.Closing.{Closes}
use Rattle.outside.specs.Count.{raised, Rose, HasCause, NeverFalls}
use Rattle.outside.specs.Moment.{AtOneMoment}
use Rattle.outside.specs.Listing.{kind_at}
use Rattle.outside.specs.Opening.{Opens, OpensFile, OpensNothing}
use Rattle.outside.specs.Reading.{file_of}
use Rattle.outside.specs.TreeMeaning.{TreeMeaning}
use Rattle.outside.specs.World.{World, History, Event, Told, miss, names}
use Rattle.outside.specs.declared.fault.CallFault.{CallFault}
use Rattle.outside.specs.declared.fault.CallFault.TheVariants.{Failed, Memory}
use Rattle.outside.specs.declared.tree.Handle.{Handle}
use Rattle.outside.specs.declared.tree.Kind.TheVariants.{File as PlainFile}
use Rattle.outside.specs.declared.tree.Opened.{Opened}
use Rattle.outside.specs.declared.tree.Opened.TheVariants.{File, Gone, NotAFile}
use Rattle.standing.proofs.MomentLemmas.{later_then}
use Rattle.standing.specs.Poll.{Poll}
use Rattle.standing.specs.Marks.{Mark}
use Rattle.standing.specs.Moments.{IsLater}
use Rattle.standing.specs.Rules.{Includes}
use Rattle.file_pass.specs.DiskTerms.{Appends}
use Rattle.file_pass.specs.AllTaken.{AllTaken, TakesAll, TakesOne}
use Rattle.file_pass.specs.Fed.{poll_of, rules_in}
use Rattle.file_pass.specs.Full.{Overflow, line_of, lines_text, overflow}
use Rattle.file_pass.specs.Gain.{Gain, Counted, no_gain, both, gain_of, with_taken}
use Rattle.file_pass.specs.LookTaken.{OpenTaken, SeenTaken}
use Rattle.file_pass.specs.Moment.{Meanings, Moment, RowsAt, TakingAt, moment, rows_at}
use Rattle.file_pass.specs.PathTaken.{PathTaken}
use Rattle.file_pass.specs.Sane.{AreSaneRows, IsSaneTaking}
use Rattle.file_pass.specs.Taken.{Finds, Takes, KeepsTreeAt}
use Rattle.standing.specs.AreRules.{AreRules}
use Rattle.file_pass.specs.TreeTerms.{KeepsTree, IsNoWider, GoesLater, SameHandles, HasEnding, ReadsOnly}
use Rattle.file_pass.specs.Overflow.{AllFill, OpenFills, PathFills, SeenFills}
use Rattle.file_pass.specs.Reads.{Reads, piece_at}
use Rattle.file_pass.specs.Step.{Step, step}
use Rattle.file_pass.specs.declared.counts.Counts.{Counts}
use Rattle.file_pass.specs.declared.ending.Ending.{Ending}
use Rattle.file_pass.specs.declared.ending.Ending.TheVariants.{Whole, Failed as ReadFailed, Shrunk}
use Rattle.file_pass.specs.declared.ending.PathFile.{PathFile}
use Rattle.file_pass.specs.declared.ending.SeenFile.{SeenFile}
use Rattle.file_pass.specs.declared.found.Found.{Found}
use Rattle.file_pass.specs.declared.found.Found.TheVariants.{Missed, Unread, Gone as NoFile}
use Rattle.file_pass.specs.declared.setup.Setup.{Setup}
use Rattle.file_pass.specs.declared.taking.Taking.{Taking}
use Rattle.file_pass.proofs.DiskLemmas.{appends_none, appends_then, appends_same}
use Rattle.file_pass.proofs.Opening.{path_file, open_unread, open_shrunk, open_seen, open_fills, path_looked, path_fills, path_missed, path_lost, WithFile}
use Rattle.file_pass.proofs.SaneLemmas.{text_long}
use Rattle.file_pass.proofs.TreeLemmas.{keeps_tree_none, keeps_tree_then, no_wider_none, no_wider_within}
use Rattle.file_pass.proofs.Turning.{all_none, all_more, all_fill}
use Rattle.file_pass.proofs.ReadingLemmas.{moves_later}

one_later : {own : List Event} {fact : History → Type 0} {old new : History} → AtOneMoment own fact old new → IsLater old new
one_later {own} {fact} {old} {new} at =
    later_then old at.moment new (moves_later at.before) (later_then at.moment (own ++ at.moment) new (record { events = own; goes_on = refl }) (moves_later at.after))

opens_later : (path : List ℕ) (result : Result Opened CallFault) (old new : World) → Opens path result old new → GoesLater old new
opens_later path (Ok (File handle size)) old new opens = one_later opens.history
opens_later path (Ok Gone) old new opens = one_later opens.history
opens_later path (Ok NotAFile) old new opens = one_later opens.history
opens_later path (Err Failed) old new opens = one_later opens.history
opens_later path (Err Memory) old new opens = one_later opens.history

cause_falls : {X : Type 0} (result : Result X CallFault) (before after : ℕ) → HasCause result before after → NeverFalls before after
cause_falls (Ok x) before after same = never_falls_same same
cause_falls (Err Failed) before after rose = never_falls_rose rose
cause_falls (Err Memory) before after same = never_falls_same same

-- into a shorter buffer
pub tree_wider : {T : Type 0} (meaning : TreeMeaning T) (most more taken : ℕ) (old new : T) → most ≤ more → KeepsTree meaning most taken old new → KeepsTreeAt meaning more old new
tree_wider meaning most more taken old new le keeps = (
  taken,
  record {
    later = keeps.later;
    handles = keeps.handles;
    faults = keeps.faults;
    nameless = keeps.nameless;
    plan = keeps.plan;
    bound = keeps.bound;
    taken_then = keeps.taken_then;
    widest = no_wider_within most more (meaning.widest old) (meaning.widest new) le keeps.widest;
  },
)

opens_none : (path : List ℕ) (result : Result Opened CallFault) → ((handle : Handle) (size : ℕ) → result ≡ Ok (File handle size) → ⊥) → (old new : World) → Opens path result old new → SameHandles old new
opens_none path (Ok (File handle size)) no_file old new opens = absurd (no_file handle size refl)
opens_none path (Ok Gone) no_file old new opens = opens.handles
opens_none path (Ok NotAFile) no_file old new opens = opens.handles
opens_none path (Err Failed) no_file old new opens = opens.handles
opens_none path (Err Memory) no_file old new opens = opens.handles

-- one file more is open, under this handle
record WithHandle (handle : ℕ) (old new : World) : Type 0 where
  file : ℕ
  is_new : file_of old.handles handle ≡ None
  handles : new.handles ≡ (handle, file) ∷ old.handles

-- all stayed but the world and the count of faults
pub record Stays {T : Type 0} (meaning : TreeMeaning T) (old new : T) : Type 0 where
  pub nameless : meaning.nameless new ≡ meaning.nameless old
  pub taken : meaning.taken new ≡ meaning.taken old
  pub widest : meaning.widest new ≡ meaning.widest old
  pub plan : meaning.plan new ≡ meaning.plan old
  pub bound : meaning.bound new ≡ meaning.bound old

module _ {T : Type 0} (meaning : TreeMeaning T) (most : ℕ) where
  pub tree_none : (tree : T) → KeepsTreeAt meaning most tree tree
  tree_none tree = (0, keeps_tree_none meaning most tree)

  pub tree_then : (old mid new : T) → KeepsTreeAt meaning most old mid → KeepsTreeAt meaning most mid new → KeepsTreeAt meaning most old new
  tree_then old mid new a b = (a.0 + b.0, keeps_tree_then meaning most a.0 b.0 old mid new a.1 b.1)

  same_widest : (old new : Option ℕ) → new ≡ old → IsNoWider most old new
  same_widest old new same = rw same (no_wider_none most old)

  -- no file was opened under the path
  pub tree_opens : (path : List ℕ) (result : Result Opened CallFault) (old new : T) → ((handle : Handle) (size : ℕ) → result ≡ Ok (File handle size) → ⊥) → Told (Opens path result) (meaning.world old) (meaning.world new)
      → HasCause result (meaning.faults old) (meaning.faults new) → meaning.nameless new ≡ meaning.nameless old
      → meaning.taken new ≡ meaning.taken old → meaning.widest new ≡ meaning.widest old → meaning.plan new ≡ meaning.plan old → meaning.bound new ≡ meaning.bound old → KeepsTreeAt meaning most old new
  tree_opens path result old new no_file world cause nameless taken widest plan bound = (
    0,
    record {
      later = told_weaker _ _ (meaning.world old) (meaning.world new) (opens_later path result) world;
      handles = told_weaker (Opens path result) SameHandles (meaning.world old) (meaning.world new) (opens_none path result no_file) world;
      faults = cause_falls result (meaning.faults old) (meaning.faults new) cause;
      nameless = nameless;
      plan = plan;
      bound = bound;
      taken_then = omega (arith, taken);
      widest = same_widest (meaning.widest old) (meaning.widest new) widest;
    },
  )

-- a file was opened, read and closed
module _ {T : Type 0} (meaning : TreeMeaning T) (most : ℕ) (path : List ℕ) (handle : Handle) (size : ℕ) (old opened taken closed : T) (opens : Told (Opens path (Ok (File handle size))) (meaning.world old) (meaning.world opened))
    (keeps : KeepsTreeAt meaning most opened taken) (closes : Told (Closes handle.0) (meaning.world taken) (meaning.world closed)) where
  later_file : Told GoesLater (meaning.world old) (meaning.world closed)
  later_file =
      told_then GoesLater GoesLater GoesLater (meaning.world old) (meaning.world taken) (meaning.world closed) (λ x y z a b. later_then x.history y.history z.history a b)
      (told_then GoesLater GoesLater GoesLater (meaning.world old) (meaning.world opened) (meaning.world taken) (λ x y z a b. later_then x.history y.history z.history a b)
      (told_weaker _ _ (meaning.world old) (meaning.world opened) (opens_later path (Ok (File handle size))) opens) keeps.1.later)
      (told_weaker _ _ (meaning.world taken) (meaning.world closed) (λ x y closing. moves_later closing.history) closes)

  handles_file : Told SameHandles (meaning.world old) (meaning.world closed)
  handles_file =
      told_then (WithHandle handle.0) (Closes handle.0) SameHandles (meaning.world old) (meaning.world taken) (meaning.world closed)
      (λ x y z one closing. closing.handles ∙ ap (λ (hs : List (ℕ × ℕ)). filter (λ pair. not (pair.0 == handle.0)) hs) one.handles ∙ given_back handle.0 one.file x.handles one.is_new)
      (told_then (OpensFile path handle.0 size) SameHandles (WithHandle handle.0) (meaning.world old) (meaning.world opened) (meaning.world taken)
      (λ x y z opening same. record { file = opening.file; is_new = opening.is_new; handles = same ∙ opening.handles })
      (told_weaker (Opens path (Ok (File handle size))) (OpensFile path handle.0 size) (meaning.world old) (meaning.world opened) (λ x y o. o) opens) keeps.1.handles) closes

  pub tree_file : meaning.faults opened ≡ meaning.faults old → meaning.faults closed ≡ meaning.faults taken → Stays meaning old opened → Stays meaning taken closed → KeepsTreeAt meaning most old closed
  tree_file no_fault none_after first last = (
    keeps.0,
    record {
      later = later_file;
      handles = handles_file;
      faults = subst (λ (n : ℕ). NeverFalls n (meaning.faults closed)) no_fault (subst (λ (n : ℕ). NeverFalls (meaning.faults opened) n) (sym none_after) keeps.1.faults);
      nameless = last.nameless ∙ keeps.1.nameless ∙ first.nameless;
      plan = last.plan ∙ keeps.1.plan ∙ first.plan;
      bound = last.bound ∙ keeps.1.bound ∙ first.bound;
      taken_then = omega (arith, first.taken, last.taken, keeps.1.taken_then);
      widest = subst (λ (w : Option ℕ). IsNoWider most w (meaning.widest closed)) first.widest (subst (λ (w : Option ℕ). IsNoWider most (meaning.widest opened) w) (sym last.widest) keeps.1.widest);
    },
  )

-- whatever was read
pub counted_with : (before after : Counts) (gain : Gain) (bytes : ℕ) → Counted before gain after → Counted before (with_taken bytes gain) after
counted_with before after gain bytes counted = record {
  files = counted.files;
  lines = counted.lines;
  left = counted.left;
  gone = counted.gone;
  failed = counted.failed;
  compressed = counted.compressed;
  shrunk = counted.shrunk;
  full = counted.full;
}

counted_more : (before mid after : Counts) (gain more : Gain) → Counted before gain mid → Counted mid more after → Counted before (both gain more) after
counted_more before mid after gain more a b = record {
  files = omega (arith, a.files, b.files);
  lines = omega (arith, a.lines, b.lines);
  left = omega (arith, a.left, b.left);
  gone = omega (arith, a.gone, b.gone);
  failed = omega (arith, a.failed, b.failed);
  compressed = omega (arith, a.compressed, b.compressed);
  shrunk = omega (arith, a.shrunk, b.shrunk);
  full = omega (arith, a.full, b.full);
}

-- the same beside another tree
abbrev pub with_tree : {T D : Type 0} → T → RowsAt T D → RowsAt T D
with_tree tree now = record now { outside = moment tree now.outside.disk }

-- nothing was done
module _ {T D : Type 0} (means : Meanings T D) where
  pub takes_idle : (change : Step → World → World → Type 0) (gain : Gain) (now : RowsAt T D) (rows_after : List Row) (end_after : ℕ) → end_after ≡ now.end → gain.lines ≡ 0 → gain.failed ≡ 0 → ((world : World) → change (step now.rows rows_after gain []) world world)
      → Takes means change gain now (record { rows = rows_after; end = end_after; outside = now.outside })
  takes_idle change gain now rows_after end_after ends no_lines no_failure idle = record {
    added = [];
    lines = no_lines;
    appends = subst (λ (n : ℕ). Appends means.disks [] now.end n now.outside.disk now.outside.disk) (sym ends) (appends_none means.disks now.end now.outside.disk);
    rose = omega (arith, no_failure);
    read = omega arith;
    world = told_same (change (step now.rows rows_after gain [])) (means.trees.world now.outside.tree) idle;
  }

  pub finds_idle : (change : Step → World → World → Type 0) (found : Found) (now : RowsAt T D) (rows_after : List Row) (end_after : ℕ) → end_after ≡ now.end → (gain_of found).lines ≡ 0 → (gain_of found).failed ≡ 0
      → ((world : World) → change (step now.rows rows_after (with_taken 0 (gain_of found)) []) world world) → Finds means change found now (record { rows = rows_after; end = end_after; outside = now.outside })
  finds_idle change found now rows_after end_after ends no_lines no_failure idle = record { bytes = 0; takes = takes_idle change (with_taken 0 (gain_of found)) now rows_after end_after ends no_lines no_failure idle }

  -- with a call on the tree alone
  pub takes_call : (change : Step → World → World → Type 0) (gain : Gain) (before : RowsAt T D) (tree_after : T) → gain.lines ≡ 0 → raised (means.trees.faults before.outside.tree) gain.failed ≤ means.trees.faults tree_after
      → means.trees.taken tree_after ≤ means.trees.taken before.outside.tree + gain.taken → Told (change (step before.rows before.rows gain [])) (means.trees.world before.outside.tree) (means.trees.world tree_after)
      → Takes means change gain before (with_tree tree_after before)
  takes_call change gain before tree_after no_lines rose read told = record { added = []; lines = no_lines; appends = appends_none means.disks before.end before.outside.disk; rose = rose; read = read; world = told }

  -- between calls on the tree that didn't fail, and behind a change of the rows that no call made
  pub takes_between : (change whole : Step → World → World → Type 0) (gain : Gain) (bytes : ℕ) (rows : List Row) (end : ℕ) (tree tree_after : T) (before after : RowsAt T D) → before.end ≡ end
      → means.trees.faults before.outside.tree ≡ means.trees.faults tree → means.trees.faults tree_after ≡ means.trees.faults after.outside.tree
      → means.trees.taken before.outside.tree + gain.taken ≤ means.trees.taken tree + bytes → means.trees.taken tree_after ≡ means.trees.taken after.outside.tree
      → ((added : List Mark) → Told (change (step before.rows after.rows gain added)) (means.trees.world before.outside.tree) (means.trees.world after.outside.tree) → Told (whole (step rows after.rows (with_taken bytes gain) added)) (means.trees.world tree) (means.trees.world tree_after))
      → Takes means change gain before after → Takes means whole (with_taken bytes gain) (record { rows = rows; end = end; outside = moment tree before.outside.disk }) (with_tree tree_after after)
  takes_between change whole gain bytes rows end tree tree_after before after ends same stays few none tells takes = record {
    added = takes.added;
    lines = takes.lines;
    appends = subst (λ (n : ℕ). Appends means.disks (lines_text takes.added) n after.end before.outside.disk after.outside.disk) ends takes.appends;
    rose = omega (arith, same, stays, takes.rose);
    read = omega (arith, few, none, takes.read);
    world = tells takes.added takes.world;
  }

  -- no path yet, and one more
  pub takes_all_none : (setup : Setup) (now : TakingAt T D) → Counted now.taking.counts no_gain now.taking.counts → TakesAll means setup [] now now
  takes_all_none setup now counted = record {
    gain = no_gain;
    counted = counted;
    takes = takes_idle (AllTaken (poll_of setup) []) no_gain (rows_at now.taking now.outside) now.taking.tracker now.taking.end refl refl refl (λ world. all_none (poll_of setup) now.taking.tracker world);
  }

  pub takes_all_more : (setup : Setup) (paths : List (List ℕ)) (path : List ℕ) (before mid after : TakingAt T D) → means.disks.images.tells mid.outside.disk ≡ means.disks.images.tells before.outside.disk
      → TakesAll means setup paths before mid → TakesOne means setup path mid after → TakesAll means setup (paths ++ path ∷ []) before after
  takes_all_more setup paths path before mid after tells a b = record {
    gain = both a.gain b.gain;
    counted = counted_more before.taking.counts mid.taking.counts after.taking.counts a.gain b.gain a.counted b.counted;
    takes = record {
      added = a.takes.added ++ b.takes.added;
      lines = omega (arith, a.takes.lines, b.takes.lines, length-append a.takes.added b.takes.added);
      appends = appends_same means.disks (lines_text a.takes.added ++ lines_text b.takes.added) (lines_text (a.takes.added ++ b.takes.added)) before.taking.end after.taking.end before.outside.disk after.outside.disk (sym (flat_map-append line_of a.takes.added b.takes.added))
          (appends_then means.disks (lines_text a.takes.added) (lines_text b.takes.added) before.taking.end mid.taking.end after.taking.end before.outside.disk mid.outside.disk after.outside.disk tells a.takes.appends b.takes.appends);
      rose = omega (arith, a.takes.rose, b.takes.rose);
      read = omega (arith, a.takes.read, b.takes.read);
      world = told_then _ _ _ (means.trees.world before.outside.tree) (means.trees.world mid.outside.tree) (means.trees.world after.outside.tree)
          (λ x y z first second. all_more (poll_of setup) paths path before.taking.tracker mid.taking.tracker after.taking.tracker a.gain b.gain a.takes.added b.takes.added x y z first second) a.takes.world b.takes.world;
    };
  }

  -- a line of the newest look would be too much
  pub takes_all_fill : (setup : Setup) (paths : List (List ℕ)) (path : List ℕ) (all : List (List ℕ)) (before mid : TakingAt T D) (tree_after : T) (full : ℕ) → TakesAll means setup paths before mid → take (length paths + 1) all ≡ paths ++ path ∷ []
      → Told (PathFills (poll_of setup) (overflow setup.limit mid.taking.end full) path mid.taking.tracker) (means.trees.world mid.outside.tree) (means.trees.world tree_after)
      → Told (AllFill (poll_of setup) (overflow setup.limit before.taking.end full) all before.taking.tracker) (means.trees.world before.outside.tree) (means.trees.world tree_after)
  takes_all_fill setup paths path all before mid tree_after full a firsts b =
      told_then _ _ _ (means.trees.world before.outside.tree) (means.trees.world mid.outside.tree) (means.trees.world tree_after)
      (λ x y z taken fills. all_fill (poll_of setup) paths path before.taking.tracker mid.taking.tracker mid.taking.tracker a.gain no_gain a.takes.added [] x y z taken setup.limit before.taking.end mid.taking.end full all a.takes.appends.end_is firsts fills)
      a.takes.world b

-- the front of an open file was read, or not
module _ {T D : Type 0} (means : Meanings T D) (poll : Poll) (at : PathFile) (some : 0 < at.file.size) (before : RowsAt T D) where
  takes_unread : (ending : Ending) (last : ℕ) (given : List ℕ) (count : ℕ) (tree_after : T) → (ending ≡ Whole → ⊥) → last ≤ at.file.size → count ≤ poll.rules.front_size
      → Told (Reads (piece_at at.file.handle.0 0 last given ending)) (means.trees.world before.outside.tree) (means.trees.world tree_after)
      → HasEnding ending (means.trees.faults before.outside.tree) (means.trees.faults tree_after) → means.trees.taken tree_after ≤ means.trees.taken before.outside.tree + count
      → Takes means (OpenTaken poll at) (with_taken count (gain_of (Unread ending))) before (with_tree tree_after before)
  takes_unread Whole last given count tree_after differs le few told cause read = absurd (differs refl)
  takes_unread ReadFailed last given count tree_after differs le few told cause read =
      takes_call means (OpenTaken poll at) _ before tree_after refl cause.1 read (told_weaker _ _ (means.trees.world before.outside.tree) (means.trees.world tree_after) (λ x y reads. open_unread poll at before.rows x y last given count few le some reads) told)
  takes_unread Shrunk last given count tree_after differs le few told cause read =
      takes_call means (OpenTaken poll at) _ before tree_after refl (omega (arith, cause)) read
      (told_weaker _ _ (means.trees.world before.outside.tree) (means.trees.world tree_after) (λ x y reads. open_shrunk poll at before.rows x y last given count few le reads) told)

  -- by what was read into a buffer
  module _ (front old_front : List ℕ) (count : ℕ) (ending : Ending) (tree_after : T) (reads : ReadsOnly means.trees (piece_at at.file.handle.0 0 (length old_front) (take count front) ending) count (length old_front) before.outside.tree tree_after)
      (long : length front ≡ length old_front) (many : length front ≡ min poll.rules.front_size at.file.size) where
    pub front_unread : (ending ≡ Whole → ⊥) → count ≤ poll.rules.front_size → Finds means (OpenTaken poll at) (Unread ending) before (with_tree tree_after before)
    front_unread differs few = record {
      bytes = count;
      takes = takes_unread ending (length old_front) (take count front) count tree_after differs (omega (arith, long, many)) few reads.world reads.cause reads.keeps.taken_then;
    }

    pub front_tree : (most : ℕ) → length old_front ≤ most → KeepsTreeAt means.trees most before.outside.tree tree_after
    front_tree most le = tree_wider means.trees (length old_front) most count before.outside.tree tree_after le reads.keeps

-- the front was read, and is seen
module _ {T D : Type 0} (means : Meanings T D) (poll : Poll) (at : SeenFile) (old_front : List ℕ) (count : ℕ) (ending : Ending) (tree : T) (mid : RowsAt T D)
    (reads : ReadsOnly means.trees (piece_at at.file.handle.0 0 (length old_front) (take count at.front.now) ending) count (length old_front) tree mid.outside.tree)
    (long : length at.front.now ≡ length old_front) (many : length at.front.now ≡ min poll.rules.front_size at.file.size) (is : ending ≡ Whole) (all : count ≡ length at.front.now) where
  all_read : Told (Reads (piece_at at.file.handle.0 0 (length at.front.now) at.front.now Whole)) (means.trees.world tree) (means.trees.world mid.outside.tree)
  all_read =
      let front : List ℕ = at.front.now in
      let whole : take count front ≡ front = take_all count front (omega (arith, all)) in
      subst (λ (e : Ending). Told (Reads (piece_at at.file.handle.0 0 (length front) front e)) (means.trees.world tree) (means.trees.world mid.outside.tree)) is
      (subst (λ (l : List ℕ). Told (Reads (piece_at at.file.handle.0 0 (length front) l ending)) (means.trees.world tree) (means.trees.world mid.outside.tree)) whole
      (subst (λ n. Told (Reads (piece_at at.file.handle.0 0 n (take count front) ending)) (means.trees.world tree) (means.trees.world mid.outside.tree)) (sym long) reads.world))

  stood : means.trees.faults mid.outside.tree ≡ means.trees.faults tree
  stood = subst (λ (e : Ending). HasEnding e (means.trees.faults tree) (means.trees.faults mid.outside.tree)) is reads.cause

  pub front_takes : (found : Found) (after : RowsAt T D) → Finds means (SeenTaken poll at) found mid after → Finds means (OpenTaken poll (path_file at)) found (with_tree tree mid) after
  front_takes found after finds =
      let gain : Gain = with_taken finds.bytes (gain_of found) in
      record {
        bytes = count + finds.bytes;
        takes = takes_between means (SeenTaken poll at) (OpenTaken poll (path_file at)) gain (count + finds.bytes) mid.rows mid.end tree after.outside.tree mid after refl stood refl (omega (arith, reads.keeps.taken_then)) refl
            (λ added. told_then _ _ _ (means.trees.world tree) (means.trees.world mid.outside.tree) (means.trees.world after.outside.tree)
            (λ x y z whole taken. open_seen poll at x y z (length at.front.now) many refl whole (step mid.rows after.rows gain added) count (omega (arith, all, many)) taken) all_read) finds.takes;
      }

  pub front_fills : (over : Overflow) (tree_after : T) → Told (SeenFills poll over at mid.rows) (means.trees.world mid.outside.tree) (means.trees.world tree_after) → Told (OpenFills poll over (path_file at) mid.rows) (means.trees.world tree) (means.trees.world tree_after)
  front_fills over tree_after fills =
      told_then _ _ _ (means.trees.world tree) (means.trees.world mid.outside.tree) (means.trees.world tree_after) (λ x y z whole seen. open_fills poll at x y z (length at.front.now) many refl whole over mid.rows seen) all_read fills

-- a file was opened, taken and closed
module _ {T D : Type 0} (means : Meanings T D) (poll : Poll) (at : PathFile) (included : Includes poll.rules at.path.now) (tree : T) (opened taken : RowsAt T D) (tree_after : T)
    (opens : Told (OpensFile at.path.now at.file.handle.0 at.file.size) (means.trees.world tree) (means.trees.world opened.outside.tree)) (closes : Told (Closes at.file.handle.0) (means.trees.world taken.outside.tree) (means.trees.world tree_after))
    (still : means.trees.faults opened.outside.tree ≡ means.trees.faults tree) (stays : means.trees.faults tree_after ≡ means.trees.faults taken.outside.tree) where
  with_file : (change : World → World → Type 0) → Told change (means.trees.world opened.outside.tree) (means.trees.world taken.outside.tree) → Told (WithFile change at) (means.trees.world tree) (means.trees.world taken.outside.tree)
  with_file change told = told_then _ _ _ (means.trees.world tree) (means.trees.world opened.outside.tree) (means.trees.world taken.outside.tree) (λ x y z opening changes. record { opened = y; opens = opening; changes = changes }) opens told

  pub takes_file : (found : Found) → means.trees.taken opened.outside.tree ≡ means.trees.taken tree → means.trees.taken tree_after ≡ means.trees.taken taken.outside.tree
      → Finds means (OpenTaken poll at) found opened taken → Finds means (PathTaken poll at.path.now) found (with_tree tree opened) (with_tree tree_after taken)
  takes_file found opening_reads closing_reads finds =
      let gain : Gain = with_taken finds.bytes (gain_of found) in
      record {
        bytes = finds.bytes;
        takes = takes_between means (OpenTaken poll at) (PathTaken poll at.path.now) gain finds.bytes opened.rows opened.end tree tree_after opened taken refl still stays (omega (arith, opening_reads)) closing_reads
            (λ added told. told_then _ _ _ (means.trees.world tree) (means.trees.world taken.outside.tree) (means.trees.world tree_after)
            (λ x y z change closing. path_looked poll at included x change.opened y z change.opens closing (step opened.rows taken.rows gain added) change.changes) (with_file (OpenTaken poll at (step opened.rows taken.rows gain added)) told) closes) finds.takes;
      }

  pub fills_file : (over : Overflow) → Told (OpenFills poll over at opened.rows) (means.trees.world opened.outside.tree) (means.trees.world taken.outside.tree) → Told (PathFills poll over at.path.now opened.rows) (means.trees.world tree) (means.trees.world tree_after)
  fills_file over fills =
      told_then _ _ _ (means.trees.world tree) (means.trees.world taken.outside.tree) (means.trees.world tree_after)
      (λ x y z change closing. path_fills poll at included x change.opened y z change.opens closing over opened.rows change.changes)
      (with_file (OpenFills poll over at opened.rows) fills) closes

-- a path that could not be opened, or was no file's
module _ {T D : Type 0} (means : Meanings T D) (poll : Poll) (path : List ℕ) (before : RowsAt T D) (tree_after : T) (none : means.trees.taken tree_after ≡ means.trees.taken before.outside.tree) where
  pub takes_missed : Told (OpensNothing (miss path ∷ []) (λ _. Unit {0})) (means.trees.world before.outside.tree) (means.trees.world tree_after) → Rose (means.trees.faults before.outside.tree) (means.trees.faults tree_after)
      → Finds means (PathTaken poll path) Missed before (with_tree tree_after before)
  takes_missed told rose = record {
    bytes = 0;
    takes = takes_call means (PathTaken poll path) _ before tree_after refl rose.1 (omega (arith, none)) (told_weaker _ _ (means.trees.world before.outside.tree) (means.trees.world tree_after) (λ x y opens. path_missed poll path before.rows x y opens) told);
  }

  pub takes_lost : (fact : History → Type 0) → ((history : History) → fact history → kind_at (names history) path ≡ Some PlainFile → ⊥) → Told (OpensNothing [] fact) (means.trees.world before.outside.tree) (means.trees.world tree_after)
      → means.trees.faults tree_after ≡ means.trees.faults before.outside.tree → Finds means (PathTaken poll path) NoFile before (with_tree tree_after before)
  takes_lost fact other told same = record {
    bytes = 0;
    takes = takes_call means (PathTaken poll path) _ before tree_after refl (omega (arith, same)) (omega (arith, none)) (told_weaker _ _ (means.trees.world before.outside.tree) (means.trees.world tree_after) (λ x y opens. path_lost poll path before.rows x y fact opens other) told);
  }

-- what was found at a path is counted
module _ {T D : Type 0} (means : Meanings T D) (setup : Setup) (laws : AreRules (rules_in setup)) (before taken : Taking) (sane : IsSaneTaking setup before) (sane_taken : IsSaneTaking setup taken) (counts_same : taken.counts ≡ before.counts)
    (change : Step → World → World → Type 0) (gain : Gain) (old new : Moment T D) (takes : Takes means change gain (rows_at before old) (rows_at taken new)) where
  pub lines_fit : before.counts.lines + gain.lines ≤ taken.end
  lines_fit = omega (arith, sane.lines, takes.lines, takes.appends.end_is, text_long laws.lines.not_empty takes.added)

  pub few_lines : setup.limit ≤ 2 ^ 40 → taken.counts.lines + gain.lines < 2 ^ 64
  few_lines limit = omega (arith, lines_fit, sane_taken.end_within, limit, ap (λ (c : Counts). c.lines) counts_same)

  pub sane_counted : (after : Taking) → after.tracker ≡ taken.tracker → after.changed.items ≡ taken.changed.items → after.end ≡ taken.end → Counted taken.counts gain after.counts → IsSaneTaking setup after
  sane_counted after tracker changed end counted = record {
    rows = subst (λ (rows : List Row). AreSaneRows (poll_of setup) after.end rows) (sym tracker) (subst (λ e. AreSaneRows (poll_of setup) e taken.tracker) (sym end) sane_taken.rows);
    few = omega (arith, sane_taken.few, ap (λ (rows : List Row). length rows) tracker);
    era = sane_taken.era;
    flags = omega (arith, ap (λ (flags : List Bool). length flags) changed, sane_taken.flags, ap (λ (rows : List Row). length rows) tracker);
    end_within = omega (arith, end, sane_taken.end_within);
    lines = omega (arith, end, lines_fit, counted.lines, ap (λ (c : Counts). c.lines) counts_same);
  }

-- one path more of a list
pub one_more : (paths : List (List ℕ)) (place : ℕ) (path : List ℕ) → place < length paths → path ≡ get_or paths place path → take (place + 1) paths ≡ take place paths ++ path ∷ []
one_more paths place path within is = take_more paths place path within ∙ ap (λ (p : List ℕ). take place paths ++ p ∷ []) (sym is)

pub firsts_more : (paths : List (List ℕ)) (place : ℕ) (path : List ℕ) → place < length paths → path ≡ get_or paths place path → take (length (take place paths) + 1) paths ≡ take place paths ++ path ∷ []
firsts_more paths place path within is = ap (λ n. take (n + 1) paths) (length-take-le place paths (omega (arith, within))) ∙ one_more paths place path within is
