-- A path that is opened, and what is found of the row of its file.
use Rattle.std.proofs.Common.{◌≡◌, ◌≢◌, ℕ, List, [], ◌∷◌, ◌++◌, take, true, not, ◌==◌, refl, ap, ◌∙◌, arith, eq-eqb}
use Rattle.std.specs.Prelude.{Option, None, Some, Result, Ok, Err, IfSome, filter}
use Rattle.outside.proofs.Seeing.{given_back}
use Rattle.outside.proofs.Telling.{told_then, told_weaker}
use Rattle.outside.specs.Closing.{Closes}
use Rattle.outside.specs.Count.{HasCause, NeverFalls}
use Rattle.outside.specs.Opening.{Opens, OpensFile, OpensNothing}
use Rattle.outside.specs.Reading.{file_of}
use Rattle.outside.specs.TreeMeaning.{TreeMeaning}
use Rattle.outside.specs.World.{Event, look, History, World, Told, bytes}
use Rattle.outside.specs.declared.fault.CallFault.{CallFault}
use Rattle.outside.specs.declared.fault.CallFault.TheVariants.{Failed, Memory}
use Rattle.outside.specs.declared.tree.Opened.{Opened}
use Rattle.outside.specs.declared.tree.Opened.TheVariants.{File, Gone, NotAFile}
use Rattle.pipeline.specs.Parts.{settings_of}
use Rattle.pipeline.specs.declared.Pipeline.{Pipeline}
use Rattle.standing.proofs.MomentLemmas.{at_look, later_then, look_lasts}
use Rattle.standing.specs.Moments.{IsLater}
use Rattle.standing.specs.Prefixes.{IsPrefix}
use Rattle.standing.specs.Rows.{Row}
use Rattle.tree_walk.specs.Calls.{KeepsHandles}
use Rattle.folder_audit.specs.Findings.{IsFoundAt, IsOneFound}
use Rattle.folder_audit.specs.Judged.{IsFound, IsReadAs, Looked}
use Rattle.folder_audit.specs.KeptFiles.{IsLast, IsToRead}
use Rattle.folder_audit.specs.Open.{BeginsAs, GoesOn, IsOpenAt, IsOpenFound, IsReadAt}
use Rattle.folder_audit.specs.declared.findings.Finding.{Finding}
use Rattle.folder_audit.specs.declared.findings.Finding.TheVariants.{Absent, Same, Differs}
use Rattle.folder_audit.specs.declared.judging.OpenFile.{OpenFile}
use Rattle.folder_audit.specs.declared.kept.Kept.{Kept}
use Rattle.tree_walk.proofs.Worlds.{later_moves}

-- ---- what is told of two things, and over three calls

told_both : {W : Type 0} (one other : W → W → Type 0) (old new : Option W) → Told one old new → Told other old new → Told (λ x y. one x y × other x y) old new
told_both one other None None a b = tt
told_both one other None (Some y) a b = absurd a
told_both one other (Some x) None a b = absurd a
told_both one other (Some x) (Some y) a b = (a, b)

told_thrice : {W : Type 0} (first second third whole : W → W → Type 0) (old mid next new : Option W) → ((w x y z : W) → first w x → second x y → third y z → whole w z) → Told first old mid → Told second mid next → Told third next new → Told whole old new
told_thrice {W} first second third whole old mid next new join a b c =
    let both : W → W → Type 0 = λ w y. (x : W) × (first w x × second x y) in
    told_then both third whole old next new (λ w y z ab last. join w ab.0 y z ab.1.0 ab.1.1 last) (told_then first second both old mid next (λ w x y f s. (x, (f, s))) a b) c

-- ---- what was found, in the whole call

found_by_read : (pipes : List Pipeline) (last : Pipeline) (text : List ℕ) (row : Row) (finding : Finding) (old new : World) (seen : ℕ) (moment : History) → Looked last old.history new.history seen moment
    → IsPrefix row.front (take (settings_of last).fingerprint_size (bytes moment seen)) → IsReadAs pipes text row finding (bytes moment seen) → IsFound pipes last text row finding old new
found_by_read pipes last text row Absent old new seen moment looked begins read = tt
found_by_read pipes last text row (Same lines) old new seen moment looked begins read = record { file = seen; moment = moment; looked = looked; begins = begins; by_bytes = read }
found_by_read pipes last text row (Differs line) old new seen moment looked begins read = record { file = seen; moment = moment; looked = looked; begins = begins; by_bytes = read }

pub looked_later : (last : Pipeline) (old mid new end : World) (seen : ℕ) (moment : History) → IsLater old.history mid.history → IsLater new.history end.history → Looked last mid.history new.history seen moment → Looked last old.history end.history seen moment
looked_later last old mid new end seen moment before after looked = record {
  path = looked.path;
  included = looked.included;
  later = later_then old.history mid.history moment before looked.later;
  looked = look_lasts new.history end.history seen moment after looked.looked;
  named = looked.named;
}

-- what was found between two moments was found between an earlier one and a later one
pub found_later : (pipes : List Pipeline) (last : Pipeline) (text : List ℕ) (row : Row) (finding : Finding) (old mid new end : World) → IsLater old.history mid.history → IsLater new.history end.history
    → IsFound pipes last text row finding mid new → IsFound pipes last text row finding old end
found_later pipes last text row Absent old mid new end before after found = tt
found_later pipes last text row (Same lines) old mid new end before after found =
    record { file = found.file; moment = found.moment; looked = looked_later last old mid new end found.file found.moment before after found.looked; begins = found.begins; by_bytes = found.by_bytes }
found_later pipes last text row (Differs line) old mid new end before after found =
    record { file = found.file; moment = found.moment; looked = looked_later last old mid new end found.file found.moment before after found.looked; begins = found.begins; by_bytes = found.by_bytes }

own_handle : (handle file : ℕ) (handles : List (ℕ × ℕ)) → file_of ((handle, file) ∷ handles) handle ≡ Some file
own_handle handle file handles = let same : (handle == handle) ≡ true = eq-eqb handle handle refl in rw same refl

pub opened_at : (path : List ℕ) (file : OpenFile) (old mid : World) (opens : OpensFile path file.handle.0 file.size old mid) → IsOpenAt file opens.file opens.history.moment mid
opened_at path file old mid opens = record {
  is = ap (λ (hs : List (ℕ × ℕ)). file_of hs file.handle.0) opens.handles ∙ own_handle file.handle.0 opens.file old.handles;
  size_then = opens.history.holds.length_then;
  later = later_then opens.history.moment (look opens.file ∷ opens.history.moment) mid.history (at_look opens.file opens.history.moment) (later_moves opens.history.after);
}

module _ (kept : Kept) (path : List ℕ) (included : IsToRead kept.pipes.items path) (file : OpenFile) (place : ℕ) (finding : Finding) where
  looked_at : (last : Pipeline) → IsLast kept.pipes.items last → (old mid new : World) (opens : OpensFile path file.handle.0 file.size old mid) → IsLater mid.history new.history → Looked last old.history new.history opens.file opens.history.moment
  looked_at last is_last old mid new opens later = record {
    path = path;
    included = included last is_last;
    later = later_moves opens.history.before;
    looked = look_lasts mid.history new.history opens.file opens.history.moment later (record { later = opens.history.after.steps; split = opens.history.after.goes_on });
    named = opens.history.holds.named;
  }

  -- over a told tree
  found_at : (old mid read new : World) → OpensFile path file.handle.0 file.size old mid → BeginsAs kept file place mid read → IsReadAt kept file place finding mid read → KeepsHandles mid read → Closes file.handle.0 read new
      → IsFoundAt kept place finding old new
  found_at old mid read new opens begins reads keeps closes = λ row text last at there is_last.
      let open_at = opened_at path file old mid opens in
      let later = later_then mid.history read.history new.history keeps.later (later_moves closes.history) in
      found_by_read kept.pipes.items last text row finding old new opens.file opens.history.moment (looked_at last is_last old mid new opens later)
      (begins opens.file opens.history.moment row last open_at at is_last) (reads opens.file opens.history.moment row text open_at at there)

  -- and over any
  pub found_open : {T : Type 0} (meaning : TreeMeaning T) (old mid read new : T) → Told (OpensFile path file.handle.0 file.size) (meaning.world old) (meaning.world mid) → IsOpenFound kept file place finding (meaning.world mid) (meaning.world read)
      → Told KeepsHandles (meaning.world mid) (meaning.world read) → Told (Closes file.handle.0) (meaning.world read) (meaning.world new) → Told (IsFoundAt kept place finding) (meaning.world old) (meaning.world new)
  found_open meaning old mid read new opens found keeps closes =
      let both : Told (λ x y. BeginsAs kept file place x y × (IsReadAt kept file place finding x y × KeepsHandles x y)) (meaning.world mid) (meaning.world read) =
      told_both (BeginsAs kept file place) (λ x y. IsReadAt kept file place finding x y × KeepsHandles x y) (meaning.world mid) (meaning.world read) found.begins
      (told_both (IsReadAt kept file place finding) KeepsHandles (meaning.world mid) (meaning.world read) found.read.holds keeps) in
      told_thrice (OpensFile path file.handle.0 file.size) (λ x y. BeginsAs kept file place x y × (IsReadAt kept file place finding x y × KeepsHandles x y)) (Closes file.handle.0) (IsFoundAt kept place finding)
      (meaning.world old) (meaning.world mid) (meaning.world read) (meaning.world new) (λ w x y z o b c. found_at w x y z o b.0 b.1.0 b.1.1 c) opens both closes

-- ---- the tree goes on

module _ {T : Type 0} (meaning : TreeMeaning T) where
  called : {A : Type 0} (result : Result A CallFault) (before after : ℕ) → HasCause result before after → NeverFalls before after
  called (Ok value) before after cause = record { later = omega (arith, cause); in_range = λ is. omega (arith, cause, is) }
  called (Err Failed) before after cause = record { later = cause.0; in_range = λ is. cause.2 }
  called (Err Memory) before after cause = record { later = omega (arith, cause); in_range = λ is. omega (arith, cause, is) }

  nothing_keeps : (own : List Event) (fact : History → Type 0) (x y : World) → OpensNothing own fact x y → KeepsHandles x y
  nothing_keeps own fact x y opens = record {
    handles = opens.handles;
    later = later_then x.history opens.history.moment y.history (later_moves opens.history.before) (later_then opens.history.moment (own ++ opens.history.moment) y.history (record { events = own; goes_on = refl }) (later_moves opens.history.after));
  }

  opens_none : (path : List ℕ) (result : Result Opened CallFault) → ((opened : OpenFile) → result ≢ Ok (File opened.handle opened.size)) → (x y : World) → Opens path result x y → KeepsHandles x y
  opens_none path (Ok (File handle size)) none x y opens = absurd (none (record { handle = handle; size = size }) refl)
  opens_none path (Ok Gone) none x y opens = nothing_keeps [] _ x y opens
  opens_none path (Ok NotAFile) none x y opens = nothing_keeps [] _ x y opens
  opens_none path (Err Failed) none x y opens = nothing_keeps _ _ x y opens
  opens_none path (Err Memory) none x y opens = nothing_keeps [] _ x y opens

  pub goes_unopened : (path : List ℕ) (result : Result Opened CallFault) (old new : T) → ((opened : OpenFile) → result ≢ Ok (File opened.handle opened.size)) → Told (Opens path result) (meaning.world old) (meaning.world new)
      → HasCause result (meaning.faults old) (meaning.faults new) → GoesOn meaning old new
  goes_unopened path result old new none opens cause = record {
    world = told_weaker (Opens path result) KeepsHandles (meaning.world old) (meaning.world new) (opens_none path result none) opens;
    faults = called result (meaning.faults old) (meaning.faults new) cause;
  }

  opens_closes : (path : List ℕ) (file : OpenFile) (w x y z : World) → OpensFile path file.handle.0 file.size w x → KeepsHandles x y → Closes file.handle.0 y z → KeepsHandles w z
  opens_closes path file w x y z opens keeps closes = record {
    handles = closes.handles ∙ ap (λ (hs : List (ℕ × ℕ)). filter (λ pair. not (pair.0 == file.handle.0)) hs) (keeps.handles ∙ opens.handles) ∙ given_back file.handle.0 opens.file w.handles opens.is_new;
    later = later_then w.history opens.history.moment z.history (later_moves opens.history.before)
        (later_then opens.history.moment (look opens.file ∷ opens.history.moment) z.history (at_look opens.file opens.history.moment)
        (later_then (look opens.file ∷ opens.history.moment) x.history z.history (later_moves opens.history.after) (later_then x.history y.history z.history keeps.later (later_moves closes.history))));
  }

  pub goes_opened : (path : List ℕ) (file : OpenFile) (old mid read new : T) → Told (OpensFile path file.handle.0 file.size) (meaning.world old) (meaning.world mid) → meaning.faults mid ≡ meaning.faults old → GoesOn meaning mid read
      → Told (Closes file.handle.0) (meaning.world read) (meaning.world new) → meaning.faults new ≡ meaning.faults read → GoesOn meaning old new
  goes_opened path file old mid read new opens stood goes closes still = record {
    world = told_thrice (OpensFile path file.handle.0 file.size) KeepsHandles (Closes file.handle.0) KeepsHandles (meaning.world old) (meaning.world mid) (meaning.world read) (meaning.world new) (opens_closes path file) opens goes.world closes;
    faults = record { later = omega (arith, stood, goes.faults.later, still); in_range = λ is. omega (arith, still, goes.faults.in_range (omega (arith, stood, is))) };
  }

  -- what look_at answers of an open file
  pub one_open : (kept : Kept) (path : List ℕ) → IsToRead kept.pipes.items path → (file : OpenFile) (judged : Option (ℕ × Finding)) (old mid read new : T) → Told (OpensFile path file.handle.0 file.size) (meaning.world old) (meaning.world mid)
      → Told KeepsHandles (meaning.world mid) (meaning.world read) → Told (Closes file.handle.0) (meaning.world read) (meaning.world new)
      → IfSome judged (λ one. IsOpenFound kept file one.0 one.1 (meaning.world mid) (meaning.world read)) → IfSome judged (λ one. IsOneFound kept one.0 one.1 (meaning.world old) (meaning.world new))
  one_open kept path included file None old mid read new opens keeps closes found = tt
  one_open kept path included file (Some one) old mid read new opens keeps closes found = record {
    row = found.row;
    there = found.there;
    lines = found.read.lines found.row found.there;
    holds = found_open kept path included file one.0 one.1 meaning old mid read new opens found keeps closes;
  }
