-- One read of an open file.
use Rattle.std.proofs.Common.{◌≡◌, ℕ, ◌+◌, ◌<◌, ◌≤◌, ◌-◌, List, ◌++◌, length, take, subst, sym, arith}
use Rattle.std.proofs.lemmas.List.{length-take-le, take-append-le}
use Rattle.std.specs.Prelude.{Ok}
use Rattle.outside.specs.Count.{raised}
use Rattle.outside.specs.Reading.{Reads as ReadsOnce, widest_after}
use Rattle.outside.specs.TreeMeaning.{TreeMeaning}
use Rattle.outside.specs.World.{Told}
use Rattle.outside.proofs.Moving.{moves_by_moment}
use Rattle.outside.proofs.Telling.{told_then, told_weaker}
use Rattle.slot_store.proofs.Filling.{take_filled}
use Rattle.file_pass.specs.Reads.{Reads, piece_at}
use borrow.Rule.Slice.PartMut.{put_mid}
use Rattle.file_pass.specs.TreeTerms.{GoesLater, SameHandles, HasEnding, KeepsTree, ReadsOnly}
use Rattle.file_pass.specs.declared.ending.Ending.{Ending}
use Rattle.file_pass.specs.declared.ending.Ending.TheVariants.{Shrunk, Whole}
use Rattle.file_pass.proofs.ReadingLemmas.{reads_one, reads_then, moves_later}
use Rattle.file_pass.proofs.TreeLemmas.{keeps_tree_read, keeps_tree_then, keeps_tree_wider}

pub piece_read : {T : Type 0} (meaning : TreeMeaning T) (handle from last : ℕ) (piece rest : List ℕ) (most count : ℕ) (ending : Ending) (old new : T) → from < last → 0 < length piece → length piece ≤ most → from + count ≤ last → count ≤ length piece
    → (ending ≡ Shrunk → count ≡ 0) → HasEnding ending (meaning.faults old) (meaning.faults new) → Told (ReadsOnce handle from piece (Ok count)) (meaning.world old) (meaning.world new)
    → meaning.nameless new ≡ meaning.nameless old → meaning.plan new ≡ meaning.plan old → meaning.bound new ≡ meaning.bound old → meaning.taken new ≡ raised (meaning.taken old) count → meaning.widest new ≡ widest_after (length piece) (meaning.widest old)
    → ReadsOnly meaning (piece_at handle from last (take count (piece ++ rest)) ending) count most old new
piece_read meaning handle from last piece rest most count ending old new some room le within few none cause once nameless plan bound taken widest = record {
  world = told_weaker (ReadsOnce handle from piece (Ok count)) (Reads (piece_at handle from last (take count (piece ++ rest)) ending)) (meaning.world old) (meaning.world new)
      (λ x y reads. subst (λ (given : List ℕ). Reads (piece_at handle from last given ending) x y) (sym (take-append-le count piece rest few)) (reads_one handle from last piece count ending x y some room within none reads)) once;
  cause = cause;
  keeps = keeps_tree_read meaning most ending count (length piece) old new le
      (told_weaker (ReadsOnce handle from piece (Ok count)) GoesLater (meaning.world old) (meaning.world new) (λ x y reads. moves_later (moves_by_moment reads.history)) once)
      (told_weaker (ReadsOnce handle from piece (Ok count)) SameHandles (meaning.world old) (meaning.world new) (λ x y reads. reads.handles) once)
      cause nameless plan bound (omega (arith, taken)) widest;
}

-- one more read of the front of a file
pub front_on : {T : Type 0} (meaning : TreeMeaning T) (handle last most part : ℕ) (given piece : List ℕ) (ending : Ending) (taken count : ℕ) (start mid new : T) → length given + length piece ≤ last → part ≤ most
    → Told (Reads (piece_at handle 0 last given Whole)) (meaning.world start) (meaning.world mid) → meaning.faults mid ≡ meaning.faults start → KeepsTree meaning most taken start mid
    → ReadsOnly meaning (piece_at handle (length given) last piece ending) count part mid new → ReadsOnly meaning (piece_at handle 0 last (given ++ piece) ending) (taken + count) most start new
front_on meaning handle last most part given piece ending taken count start mid new within le so_far stood keeps read = record {
  world = told_then (Reads (piece_at handle 0 last given Whole)) (Reads (piece_at handle (length given) last piece ending)) (Reads (piece_at handle 0 last (given ++ piece) ending)) (meaning.world start) (meaning.world mid) (meaning.world new)
      (λ x y z first second. reads_then handle 0 last given piece ending x y z (omega (arith, within)) first (subst (λ n. Reads (piece_at handle n last piece ending) y z) (omega arith) second)) so_far read.world;
  cause = subst (λ (n : ℕ). HasEnding ending n (meaning.faults new)) stood read.cause;
  keeps = keeps_tree_then meaning most taken count start mid new keeps (keeps_tree_wider meaning most part count mid new le read.keeps);
}

module _ {T : Type 0} (meaning : TreeMeaning T) (handle last most part : ℕ) (front buffer : List ℕ) (filled count : ℕ) (ending : Ending) (start mid new : T) (inside : filled ≤ length front) (long : length buffer ≡ length front - filled) (few : count ≤ length buffer) (fits : length front ≤ last) (le : part ≤ most)
    (so_far : Told (Reads (piece_at handle 0 last (take filled front) Whole)) (meaning.world start) (meaning.world mid)) (stood : meaning.faults mid ≡ meaning.faults start) (keeps : KeepsTree meaning most filled start mid) (read : ReadsOnly meaning (piece_at handle filled last (take count buffer) ending) count part mid new) where
  -- the front after one more read
  front_read : ReadsOnly meaning (piece_at handle 0 last (take filled front ++ take count buffer) ending) (filled + count) most start new
  front_read =
      let have : length (take filled front) ≡ filled = length-take-le filled front inside in
      front_on meaning handle last most part (take filled front) (take count buffer) ending filled count start mid new (omega (arith, have, length-take-le count buffer few, long, fits, inside, few)) le so_far stood keeps
      (subst (λ (n : ℕ). ReadsOnly meaning (piece_at handle n last (take count buffer) ending) count part mid new) (sym have) read)

  pub front_goes : ReadsOnly meaning (piece_at handle 0 last (take (filled + count) (put_mid filled (length front - filled) front buffer)) ending) (filled + count) most start new
  front_goes = subst (λ (given : List ℕ). ReadsOnly meaning (piece_at handle 0 last given ending) (filled + count) most start new) (sym (take_filled front buffer filled count inside long few)) front_read

  pub front_ends : count ≡ 0 → ReadsOnly meaning (piece_at handle 0 last (take filled (put_mid filled (length front - filled) front buffer)) ending) filled most start new
  front_ends none = subst (λ (n : ℕ). ReadsOnly meaning (piece_at handle 0 last (take n (put_mid filled (length front - filled) front buffer)) ending) n most start new) (omega (arith, none)) front_goes
