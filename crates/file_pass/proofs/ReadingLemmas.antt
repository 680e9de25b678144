-- Bytes of an open file that is read while the world moves.
use Rattle.std.proofs.Common.{◌≡◌, ℕ, ◌+◌, ◌<◌, ◌≤◌, List, [], ◌++◌, length, take, drop, refl, sym, ap, subst, ◌∙◌, arith, length-append, length-drop}
use Rattle.std.proofs.lemmas.List.{drop-append-le, take-append-le, length-take-le, drop-drop}
use Rattle.std.specs.Prelude.{Ok}
use Rattle.outside.specs.Content.{Gives}
use Rattle.outside.specs.Moment.{Moves}
use Rattle.outside.specs.Reading.{file_of, bytes_if, Reads as ReadsOnce}
use Rattle.outside.specs.World.{World, History, bytes}
use Rattle.outside.proofs.Moving.{moves_none, moves_then, moves_by_moment, grows_by}
use Rattle.standing.specs.Moments.{IsLater}
use Rattle.slot_store.proofs.Filling.{take_in_two}
use Rattle.file_pass.specs.Reads.{HasBytes, Reads, piece_at}
use Rattle.file_pass.specs.declared.ending.Ending.{Ending}
use Rattle.file_pass.specs.declared.ending.Ending.TheVariants.{Whole, Shrunk}

-- what stands in a file's bytes up to some place stays when they grow
pub same_piece : (from count : ℕ) (content more : List ℕ) → from + count ≤ length content → take count (drop from (content ++ more)) ≡ take count (drop from content)
same_piece from count content more within =
    ap (take count) (drop-append-le from content more (omega (arith, within)))
    ∙ take-append-le count (drop from content) more (omega (arith, within, length-drop from content))

moved_bytes : (old new : History) (file : ℕ) → Moves old new → (more : List ℕ) × (bytes new file ≡ bytes old file ++ more)
moved_bytes old new file moves =
    let grown = grows_by moves.steps old file in
    (grown.0, ap (λ (h : History). bytes h file) moves.goes_on ∙ grown.1)

pub moves_later : {old new : History} → Moves old new → IsLater old new
moves_later moves = record { events = moves.steps; goes_on = moves.goes_on }

pub still_has : (handle last : ℕ) (old new : World) (file : ℕ) → new.handles ≡ old.handles → Moves old.history new.history → HasBytes handle last old file → HasBytes handle last new file
still_has handle last old new file handles moves has =
    let grown = moved_bytes old.history new.history file moves in
    record {
      is = ap (λ hs. file_of hs handle) handles ∙ has.is;
      long = omega (arith, has.long, ap length grown.1, length-append (bytes old.history file) grown.0);
    }

pub has_fewer : (handle last size : ℕ) (world : World) (file : ℕ) → last ≤ size → HasBytes handle size world file → HasBytes handle last world file
has_fewer handle last size world file le has = record { is = has.is; long = omega (arith, le, has.long) }

pub reads_within : (handle from last size : ℕ) (given : List ℕ) (ending : Ending) (old new : World) → last ≤ size → Reads (piece_at handle from last given ending) old new → Reads (piece_at handle from size given ending) old new
reads_within handle from last size given ending old new le reads = record {
  handles = reads.handles;
  moves = reads.moves;
  are = λ file has. reads.are file (has_fewer handle last size old file le has);
  grows = λ file has. reads.grows file (has_fewer handle last size old file le has);
}

pub reads_nothing : (handle from last : ℕ) (ending : Ending) (old new : World) → new.handles ≡ old.handles → Moves old.history new.history → (ending ≡ Shrunk → ⊥) → Reads (piece_at handle from last [] ending) old new
reads_nothing handle from last ending old new handles moves not_short = record {
  handles = handles;
  moves = moves;
  are = λ file has. refl;
  grows = λ file has is. not_short is;
}

pub reads_idle : (handle from last : ℕ) (world : World) → Reads (piece_at handle from last [] Whole) world world
reads_idle handle from last world = reads_nothing handle from last Whole world world refl (moves_none world.history) (λ is. let never : Whole ≡ Shrunk = is in cc)

gives_piece : (content more : List ℕ) (from count : ℕ) (buffer : List ℕ) → from + count ≤ length content → Gives (content ++ more) from buffer count → take count buffer ≡ take (length (take count buffer)) (drop from content)
gives_piece content more from count buffer within gives =
    gives.bytes ∙ same_piece from count content more within ∙ ap (λ n. take n (drop from content)) (sym (length-take-le count buffer gives.within))

-- one read that gave something, or nothing at all
pub reads_one : (handle from last : ℕ) (buffer : List ℕ) (count : ℕ) (ending : Ending) (old new : World) → from < last → 0 < length buffer → from + count ≤ last → (ending ≡ Shrunk → count ≡ 0)
    → ReadsOnce handle from buffer (Ok count) old new → Reads (piece_at handle from last (take count buffer) ending) old new
reads_one handle from last buffer count ending old new some room within none once = record {
  handles = once.handles;
  moves = moves_by_moment once.history;
  are = λ file has.
      let grown = moved_bytes old.history once.history.moment file once.history.before in
      let gives : Gives (bytes old.history file ++ grown.0) from buffer count =
      subst (λ (l : List ℕ). Gives l from buffer count) (ap (bytes_if once.history.moment) has.is ∙ grown.1) once.history.holds in
      gives_piece (bytes old.history file) grown.0 from count buffer (omega (arith, within, has.long)) gives;
  grows = λ file has is.
      let grown = moved_bytes old.history once.history.moment file once.history.before in
      let gives : Gives (bytes old.history file ++ grown.0) from buffer count =
      subst (λ (l : List ℕ). Gives l from buffer count) (ap (bytes_if once.history.moment) has.is ∙ grown.1) once.history.holds in
      omega (arith, gives.ends (none is) room, some, has.long, length-append (bytes old.history file) grown.0);
}

-- one after another
pub reads_then : (handle from last : ℕ) (given more : List ℕ) (ending : Ending) (old mid new : World) → from + length given + length more ≤ last
    → Reads (piece_at handle from last given Whole) old mid → Reads (piece_at handle (from + length given) last more ending) mid new → Reads (piece_at handle from last (given ++ more) ending) old new
reads_then handle from last given more ending old mid new within first second = record {
  handles = second.handles ∙ first.handles;
  moves = moves_then first.moves second.moves;
  are = λ file has.
      let content = bytes old.history file in
      let grown = moved_bytes old.history mid.history file first.moves in
      let front : given ≡ take (length given) (drop from content) = first.are file has in
      let mid_is : more ≡ take (length more) (drop (from + length given) (bytes mid.history file)) = second.are file (still_has handle last old mid file first.handles first.moves has) in
      let back : more ≡ take (length more) (drop (length given) (drop from content)) =
      mid_is ∙ ap (λ l. take (length more) (drop (from + length given) l)) grown.1
      ∙ same_piece (from + length given) (length more) content grown.0 (omega (arith, within, has.long))
      ∙ ap (take (length more)) (drop_sum from (length given) content) in
      ap (λ l. l ++ more) front ∙ ap (λ l. take (length given) (drop from content) ++ l) back
      ∙ sym (take_in_two (drop from content) (length given) (length more))
      ∙ ap (λ n. take n (drop from content)) (sym (length-append given more));
  grows = λ file has is. second.grows file (still_has handle last old mid file first.handles first.moves has) is;
} where
  drop_sum : (a b : ℕ) (xs : List ℕ) → drop (a + b) xs ≡ drop b (drop a xs)
  drop_sum a b xs = sym (drop-drop b a xs)
