-- Reading a range of an open file, piece by piece.
use Rattle.std.proofs.Common.{◌≡◌, ◌⊎◌, inr, ℕ, ◌+◌, ◌-◌, ◌<◌, ◌≤◌, List, ◌++◌, length, take, drop, true, false, refl, sym, ap, subst, ◌∙◌, arith, length-append, length-drop}
use Rattle.std.proofs.lemmas.List.{drop-append-le, take-append-le, drop-drop, take_all}
use Rattle.std.specs.Prelude.{Result, Ok, Err}
use Rattle.outside.proofs.Moving.{grows_by, moves_by_moment}
use Rattle.outside.proofs.Telling.{told_same, told_then, told_weaker}
use Rattle.outside.specs.Content.{Gives}
use Rattle.outside.specs.Count.{HasOneCause, NeverFalls, Rose}
use Rattle.outside.specs.Reading.{file_of, bytes_if, Reads}
use Rattle.outside.specs.TreeMeaning.{TreeMeaning}
use Rattle.outside.specs.World.{History, World, Told, bytes}
use Rattle.outside.specs.declared.fault.Failed.{Failed}
use Rattle.slot_store.proofs.Filling.{take_filled, take_in_two}
use Rattle.standing.proofs.MomentLemmas.{bytes_grow, later_none, later_then}
use Rattle.tree_walk.specs.Calls.{KeepsHandles, Lasts}
use Rattle.folder_audit.specs.Open.{GoesOn}
use Rattle.folder_audit.specs.Inner.ReadsRange.{AreBytes, EndsBefore, HasBytes, ReadsRange}
use Rattle.folder_audit.specs.Inner.Tried.{RoseBy, UnlessRose}
use Rattle.folder_audit.proofs.UnlessLemmas.{unless_rose}
use borrow.Rule.Slice.PartMut.{put_mid}
use Rattle.tree_walk.proofs.Worlds.{later_moves}

-- ---- the tree goes on

pub falls_never : (count : ℕ) → NeverFalls count count
falls_never count = record { later = omega arith; in_range = λ is. is }

pub falls_then : (a b c : ℕ) → NeverFalls a b → NeverFalls b c → NeverFalls a c
falls_then a b c first second = record { later = omega (arith, first.later, second.later); in_range = λ is. second.in_range (first.in_range is) }

pub handles_none : (world : World) → KeepsHandles world world
handles_none world = record { handles = refl; later = later_none world.history }

pub handles_then : (x y z : World) → KeepsHandles x y → KeepsHandles y z → KeepsHandles x z
handles_then x y z first second = record { handles = second.handles ∙ first.handles; later = later_then x.history y.history z.history first.later second.later }

module _ {T : Type 0} (meaning : TreeMeaning T) where
  pub goes_none : (tree : T) → GoesOn meaning tree tree
  goes_none tree = record { world = told_same KeepsHandles (meaning.world tree) handles_none; faults = falls_never (meaning.faults tree) }

  pub goes_then : (old mid new : T) → GoesOn meaning old mid → GoesOn meaning mid new → GoesOn meaning old new
  goes_then old mid new first second = record {
    world = told_then KeepsHandles KeepsHandles KeepsHandles (meaning.world old) (meaning.world mid) (meaning.world new) handles_then first.world second.world;
    faults = falls_then (meaning.faults old) (meaning.faults mid) (meaning.faults new) first.faults second.faults;
  }

  -- a walk
  pub goes_listed : (old new : T) → Lasts meaning old new → GoesOn meaning old new
  goes_listed old new lasts = record { world = lasts.world; faults = lasts.faults }

  -- one read
  reads_keep : (handle from : ℕ) (buffer : List ℕ) (result : Result ℕ Failed) (x y : World) → Reads handle from buffer result x y → KeepsHandles x y
  reads_keep handle from buffer (Ok count) x y reads = record { handles = reads.handles; later = later_moves (moves_by_moment reads.history) }
  reads_keep handle from buffer (Err fault) x y reads = record { handles = reads.handles; later = later_moves reads.history }

  caused : (result : Result ℕ Failed) (before after : ℕ) → HasOneCause result before after → NeverFalls before after
  caused (Ok count) before after cause = record { later = omega (arith, cause); in_range = λ is. omega (arith, cause, is) }
  caused (Err fault) before after cause = record { later = cause.0; in_range = λ is. cause.2 }

  pub read_goes : (handle from : ℕ) (buffer : List ℕ) (result : Result ℕ Failed) (old new : T) → Told (Reads handle from buffer result) (meaning.world old) (meaning.world new)
      → HasOneCause result (meaning.faults old) (meaning.faults new) → GoesOn meaning old new
  read_goes handle from buffer result old new reads cause = record {
    world = told_weaker (Reads handle from buffer result) KeepsHandles (meaning.world old) (meaning.world new) (reads_keep handle from buffer result) reads;
    faults = caused result (meaning.faults old) (meaning.faults new) cause;
  }

-- ---- the bytes

-- what stands in a file's bytes up to some place stays when they grow
pub same_piece : (from count : ℕ) (content more : List ℕ) → from + count ≤ length content → take count (drop from (content ++ more)) ≡ take count (drop from content)
same_piece from count content more within =
    ap (take count) (drop-append-le from content more (omega (arith, within)))
    ∙ take-append-le count (drop from content) more (omega (arith, within, length-drop from content))

pub still_has : (handle last : ℕ) (old new : World) (file : ℕ) → KeepsHandles old new → HasBytes handle last old file → HasBytes handle last new file
still_has handle last old new file keeps has =
    let grown = bytes_grow old.history new.history file keeps.later in
    record {
      is = ap (λ hs. file_of hs handle) keeps.handles ∙ has.is;
      long = omega (arith, has.long, ap length grown.1, length-append (bytes old.history file) grown.0);
    }

-- the front of the buffer has the file's bytes so far
abbrev pub SoFar : ℕ → ℕ → List ℕ → ℕ → World → World → Type 0
SoFar handle from buffer filled old new = KeepsHandles old new × ((file : ℕ) → HasBytes handle (from + length buffer) old file → take filled buffer ≡ take filled (drop from (bytes old.history file)))

pub none_so_far : (handle from : ℕ) (buffer : List ℕ) (world : World) → SoFar handle from buffer 0 world world
none_so_far handle from buffer world = (handles_none world, λ file has. refl)

piece_is : (handle from : ℕ) (piece : List ℕ) (count : ℕ) (x y : World) (file : ℕ) → Reads handle from piece (Ok count) x y → HasBytes handle (from + count) x file → take count piece ≡ take count (drop from (bytes x.history file))
piece_is handle from piece count x y file reads has =
    let at = reads.history in
    let grown = grows_by at.before.steps x.history file in
    let then_bytes : bytes at.moment file ≡ bytes x.history file ++ grown.0 = ap (λ (h : History). bytes h file) at.before.goes_on ∙ grown.1 in
    let gives : Gives (bytes x.history file ++ grown.0) from piece count = subst (λ (l : List ℕ). Gives l from piece count) (ap (bytes_if at.moment) has.is ∙ then_bytes) at.holds in
    gives.bytes ∙ same_piece from count (bytes x.history file) grown.0 has.long

pub read_on : (handle from : ℕ) (buffer piece : List ℕ) (filled count : ℕ) (x y z : World) → filled ≤ length buffer → length piece ≡ length buffer - filled → count ≤ length piece
    → SoFar handle from buffer filled x y → Reads handle (from + filled) piece (Ok count) y z → length (put_mid filled (length buffer - filled) buffer piece) ≡ length buffer
    → SoFar handle from (put_mid filled (length buffer - filled) buffer piece) (filled + count) x z
read_on handle from buffer piece filled count x y z within long few far reads same =
    let keeps : KeepsHandles y z = record { handles = reads.handles; later = later_moves (moves_by_moment reads.history) } in (
      handles_then x y z far.0 keeps,
      λ file has.
          let whole : HasBytes handle (from + length buffer) x file = record { is = has.is; long = omega (arith, has.long, same) } in
          let mid = still_has handle (from + length buffer) x y file far.0 whole in
          let own : HasBytes handle (from + filled + count) y file = record { is = mid.is; long = omega (arith, mid.long, within, few, long) } in
          let content = bytes x.history file in
          let grown = bytes_grow x.history y.history file far.0.later in
          let back : take count piece ≡ take count (drop filled (drop from content)) =
          piece_is handle (from + filled) piece count y z file reads own
          ∙ ap (λ (l : List ℕ). take count (drop (from + filled) l)) grown.1
          ∙ same_piece (from + filled) count content grown.0 (omega (arith, whole.long, within, few, long))
          ∙ ap (take count) (sym (drop-drop filled from content)) in
          take_filled buffer piece filled count within long few
          ∙ ap (λ (f : List ℕ). f ++ take count piece) (far.1 file whole)
          ∙ ap (λ (b : List ℕ). take filled (drop from content) ++ b) back
          ∙ sym (take_in_two (drop from content) filled count),
    )

pub all_read : (handle from : ℕ) (buffer : List ℕ) (filled : ℕ) (x y : World) → filled ≡ length buffer → SoFar handle from buffer filled x y → AreBytes handle from buffer x y
all_read handle from buffer filled x y whole far = λ file has.
    sym (take_all filled buffer (omega (arith, whole))) ∙ far.1 file has ∙ ap (λ (n : ℕ). take n (drop from (bytes x.history file))) whole

-- a range that wasn't read whole
pub cut_short : {T : Type 0} (meaning : TreeMeaning T) {handle from : ℕ} {buffer : List ℕ} {old new : T} → GoesOn meaning old new → UnlessRose meaning (EndsBefore handle (from + length buffer)) old new → ReadsRange meaning handle from buffer false old new
cut_short meaning {handle} {from} {buffer} {old} {new} goes ends = record {
  goes_on = goes;
  given = λ is. absurd {A = Told (AreBytes handle from buffer) (meaning.world old) (meaning.world new)} (let never : false ≡ true = is in cc);
  failed = λ is. ends;
}

-- a read that gives nothing stands at the file's end
ended : (handle from : ℕ) (buffer piece : List ℕ) (filled : ℕ) (x y z : World) → filled < length buffer → 0 < length piece → SoFar handle from buffer filled x y → Reads handle (from + filled) piece (Ok 0) y z → EndsBefore handle (from + length buffer) x z
ended handle from buffer piece filled x y z less some far reads = λ file has.
    let mid = still_has handle (from + length buffer) x y file far.0 has in
    let at = reads.history in
    let grown = grows_by at.before.steps y.history file in
    let then_bytes : bytes at.moment file ≡ bytes y.history file ++ grown.0 = ap (λ (h : History). bytes h file) at.before.goes_on ∙ grown.1 in
    let gives : Gives (bytes y.history file ++ grown.0) (from + filled) piece 0 = subst (λ (l : List ℕ). Gives l (from + filled) piece 0) (ap (bytes_if at.moment) mid.is ∙ then_bytes) at.holds in
    omega (arith, gives.ends refl some, mid.long, length-append (bytes y.history file) grown.0, less)

module _ {T : Type 0} (meaning : TreeMeaning T) (handle from : ℕ) (buffer piece : List ℕ) (filled last : ℕ) (old mid new : T) (same : last ≡ length buffer) (less : filled < length buffer) (far : Told (SoFar handle from buffer filled) (meaning.world old) (meaning.world mid)) where
  pub ends_before : 0 < length piece → Told (Reads handle (from + filled) piece (Ok 0)) (meaning.world mid) (meaning.world new) → UnlessRose meaning (EndsBefore handle (from + last)) old new
  ends_before some reads =
      told_then (SoFar handle from buffer filled) (Reads handle (from + filled) piece (Ok 0)) (λ x y. RoseBy meaning old new 1 ⊎ EndsBefore handle (from + last) x y) (meaning.world old) (meaning.world mid) (meaning.world new)
      (λ x y z so_far read. inr (subst (λ (n : ℕ). EndsBefore handle (from + n) x z) (sym same) (ended handle from buffer piece filled x y z less some so_far read))) far reads

-- a read that failed raised the count
pub read_failed : {T : Type 0} (meaning : TreeMeaning T) (holds : World → World → Type 0) (old mid new : T) → GoesOn meaning old mid → Rose (meaning.faults mid) (meaning.faults new) → GoesOn meaning old new → UnlessRose meaning holds old new
read_failed meaning holds old mid new first rose goes = unless_rose meaning KeepsHandles holds old new (omega (arith, first.faults.later, rose.1)) goes.world
