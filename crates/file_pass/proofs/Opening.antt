-- An open file, and a path that is opened.
use Rattle.std.proofs.Common.{◌≡◌, ℕ, ◌+◌, ◌<◌, ◌≤◌, List, [], ◌∷◌, length, take, drop, min, Bool, true, false, refl, sym, ap, subst, ◌∙◌, inl, inr, arith, eq-eqb, ◌==◌, not}
use Rattle.std.proofs.lemmas.Bool.{cases_lt}
use Rattle.std.proofs.lemmas.List.{take_all}
use Rattle.std.specs.Prelude.{Option, None, Some, filter}
use Rattle.file_tracker.specs.Places.{place_of}
use Rattle.file_tracker.specs.declared.row.Row.{Row}
use Rattle.outside.proofs.Moving.{moves_none, moves_then, moves_by_moment}
use Rattle.outside.proofs.Seeing.{looks_stay, misses_stay, unlisted_stay, given_back}
use Rattle.outside.specs.Closing.{Closes}
use Rattle.outside.specs.Listing.{kind_at}
use Rattle.outside.specs.Moment.{Moves}
use Rattle.outside.specs.Opening.{OpensFile, OpensNothing}
use Rattle.outside.specs.Reading.{file_of}
use Rattle.outside.specs.Seen.{looked, missed, left_unlisted}
use Rattle.outside.specs.World.{World, History, bytes, look, miss, names, file_at}
use Rattle.outside.specs.declared.tree.Kind.TheVariants.{File}
use Rattle.standing.proofs.MomentLemmas.{bytes_grow, later_then, at_look}
use Rattle.standing.specs.Poll.{Poll}
use Rattle.standing.specs.Limits.{is_compressed}
use Rattle.standing.specs.Look.{ComesAt}
use Rattle.standing.specs.Rules.{Includes}
use Rattle.file_pass.specs.Full.{Overflow}
use Rattle.file_pass.specs.Gain.{no_gain, one_file, with_taken}
use Rattle.file_pass.specs.LookTaken.{IsOpenAt, IsSeenAt, OpenTaken, SeenTaken, look_at}
use Rattle.file_pass.specs.Overflow.{OpenFills, SeenFills, PathFills}
use Rattle.file_pass.specs.PathTaken.{PathTaken}
use Rattle.file_pass.specs.Reads.{Reads, piece_at}
use Rattle.file_pass.specs.Inner.Settled.{IsLeftOut}
use Rattle.file_pass.specs.Step.{Step, step}
use Rattle.file_pass.specs.Turns.{looks_at, misses_path, finds_none}
use Rattle.file_pass.specs.declared.ending.Ending.TheVariants.{Whole, Failed, Shrunk}
use Rattle.file_pass.specs.declared.ending.PathFile.{PathFile}
use Rattle.file_pass.specs.declared.ending.SeenFile.{SeenFile}
use Rattle.file_pass.proofs.Bridging.{still_open, look_same}
use Rattle.file_pass.proofs.Looking.{look_with, takes_nothing, takes_unread, takes_compressed, takes_full}
use Rattle.file_pass.proofs.ReadingLemmas.{same_piece, moves_later}

module _ (poll : Poll) (at : PathFile) (before : List Row) where
  -- nothing was done with an empty file
  pub open_nothing : (world : World) → at.file.size ≡ 0 → OpenTaken poll at (step before before no_gain []) world world
  open_nothing world none = record {
    handles = refl;
    moves = moves_none world.history;
    end = 0;
    skipped = false;
    looks = λ seen moment is. takes_nothing poll (look_at at.path.now seen moment 0 false) before refl (sym is.size_then ∙ none) refl;
    cost = λ seen moment is. omega arith;
  }

  -- its front could not be read, or not to its end
  pub open_unread : (old new : World) (last : ℕ) (given : List ℕ) (count : ℕ) → count ≤ poll.rules.front_size → last ≤ at.file.size → 0 < at.file.size → Reads (piece_at at.file.handle.0 0 last given Failed) old new
      → OpenTaken poll at (step before before (record one_file { failed = 1; taken = count }) []) old new
  open_unread old new last given count few le some reads = record {
    handles = reads.handles;
    moves = reads.moves;
    end = 0;
    skipped = true;
    looks = λ seen moment is. look_with poll (look_at at.path.now seen moment 0 true) before before [] (record one_file { failed = 1 }) count (takes_unread poll (look_at at.path.now seen moment 0 true) before refl (omega (arith, some, is.size_then)) (omega arith));
    cost = λ seen moment is. omega (arith, few);
  }

  -- no file is found to be shorter than it was
  pub open_shrunk : (old new : World) (last : ℕ) (given : List ℕ) (count : ℕ) → count ≤ poll.rules.front_size → last ≤ at.file.size → Reads (piece_at at.file.handle.0 0 last given Shrunk) old new
      → OpenTaken poll at (step before before (record one_file { shrunk = 1; taken = count }) []) old new
  open_shrunk old new last given count few le reads = record {
    handles = reads.handles;
    moves = reads.moves;
    end = 0;
    skipped = true;
    looks = λ seen moment is.
        let has = still_open at.file seen moment old is in
        absurd (reads.grows seen (record { is = has.is; long = omega (arith, le, has.long) }) refl);
    cost = λ seen moment is. omega (arith, few);
  }

-- the same file, whatever was seen of it
abbrev pub path_file : SeenFile → PathFile
path_file at = record { path = at.path; file = at.file }

module _ (poll : Poll) (at : SeenFile) where
  -- the front that was read is what a look sees
  module _ (old mid new : World) (last : ℕ) (is : last ≡ min poll.rules.front_size at.file.size) (many : length at.front.now ≡ last) (reads : Reads (piece_at at.file.handle.0 0 last at.front.now Whole) old mid) where
    seen_then : (seen : ℕ) (moment : History) → IsOpenAt at.file seen moment old → IsSeenAt poll at.file at.front.now seen moment mid
    seen_then seen moment was =
        let has = still_open at.file seen moment old was in
        let grown = bytes_grow moment old.history seen was.later in
        record {
          open_at = record {
            is = ap (λ hs. file_of hs at.file.handle.0) reads.handles ∙ was.is;
            size_then = was.size_then;
            later = later_then moment old.history mid.history was.later (moves_later reads.moves);
          };
          front_is =
              reads.are seen (record { is = has.is; long = omega (arith, is, has.long) })
              ∙ ap (λ l. take (length at.front.now) (drop 0 l)) grown.1
              ∙ same_piece 0 (length at.front.now) (bytes moment seen) grown.0 (omega (arith, is, many, was.size_then))
              ∙ front_size_of (bytes moment seen) (omega (arith, is, many, was.size_then));
        }
      where
        front_size_of : (content : List ℕ) → length at.front.now ≡ min poll.rules.front_size (length content) → take (length at.front.now) content ≡ take poll.rules.front_size content
        front_size_of content few = elim (cases_lt poll.rules.front_size (length content)) [
          | inl long ↦ ap (λ n. take n content) (omega (arith, few, long))
          | inr short ↦ (take_all (length at.front.now) content (omega (arith, few, short)) ∙ sym (take_all poll.rules.front_size content short))
        ]

    pub open_seen : (now : Step) (count : ℕ) → count ≤ poll.rules.front_size → SeenTaken poll at now mid new → OpenTaken poll (path_file at) (record now { gain = with_taken (count + now.gain.taken) now.gain }) old new
    open_seen now count few taken = record {
      handles = taken.handles ∙ reads.handles;
      moves = moves_then reads.moves taken.moves;
      end = taken.end;
      skipped = false;
      looks = λ seen moment was. look_with poll (look_at at.path.now seen moment taken.end false) now.before now.after now.added now.gain (count + now.gain.taken) (taken.looks seen moment (seen_then seen moment was));
      cost = λ seen moment was. omega (arith, few, taken.cost seen moment (seen_then seen moment was));
    }

    pub open_fills : (over : Overflow) (before : List Row) → SeenFills poll over at before mid new → OpenFills poll over (path_file at) before old new
    open_fills over before fills = record {
      handles = fills.handles ∙ reads.handles;
      moves = moves_then reads.moves fills.moves;
      looks = λ seen moment was. fills.looks seen moment (seen_then seen moment was);
    }

  -- what is seen of a file that is passed over
  pub seen_compressed : (before : List Row) (world : World) → is_compressed at.front.now ≡ true → 0 < at.file.size → SeenTaken poll at (step before before (record one_file { compressed = 1 }) []) world world
  seen_compressed before world is some = record {
    handles = refl;
    moves = moves_none world.history;
    end = at.file.size;
    looks = λ seen moment was.
        takes_compressed poll (look_at at.path.now seen moment at.file.size false) before refl (omega (arith, some, was.open_at.size_then)) (ap is_compressed (sym was.front_is) ∙ is) was.open_at.size_then;
    cost = λ seen moment was. omega arith;
  }

  pub seen_full : (before after : List Row) (world : World) → is_compressed at.front.now ≡ false → 0 < at.file.size → IsLeftOut at.front.now before after → SeenTaken poll at (step before after (record one_file { full = 1 }) []) world world
  seen_full before after world plain some left_out = record {
    handles = refl;
    moves = moves_none world.history;
    end = at.file.size;
    looks = λ seen moment was.
        let here = look_at at.path.now seen moment at.file.size false in
        look_same poll here before left_out.same refl refl
        (takes_full poll here before refl (omega (arith, some, was.open_at.size_then)) (ap is_compressed (sym was.front_is) ∙ plain)
        (subst (λ (f : List ℕ). place_of f before ≡ None) was.front_is left_out.none) (omega (arith, left_out.all)) was.open_at.size_then);
    cost = λ seen moment was. omega arith;
  }

-- a path that was opened, whose file was taken and closed
module _ (poll : Poll) (at : PathFile) (included : Includes poll.rules at.path.now) (old opened taken closed : World)
    (opens : OpensFile at.path.now at.file.handle.0 at.file.size old opened) (closes : Closes at.file.handle.0 taken closed) where
  open_at : IsOpenAt at.file opens.file opens.history.moment opened
  open_at = record {
    is = found opened opens.handles;
    size_then = opens.history.holds.length_then;
    later = later_then opens.history.moment (look opens.file ∷ opens.history.moment) opened.history (at_look opens.file opens.history.moment) (moves_later opens.history.after);
  }
    where
      found : (world : World) → world.handles ≡ (at.file.handle.0, opens.file) ∷ old.handles → file_of world.handles at.file.handle.0 ≡ Some opens.file
      found world is = let same : (at.file.handle.0 == at.file.handle.0) ≡ true = eq-eqb at.file.handle.0 at.file.handle.0 refl in rw (is, same) refl

  comes : (end : ℕ) (skipped : Bool) → Moves opened.history taken.history → end ≤ length (bytes opens.history.moment opens.file) → ComesAt poll.rules (look_at at.path.now opens.file opens.history.moment end skipped) closed.history
  comes end skipped moves within =
      let after = later_then (look opens.file ∷ opens.history.moment) taken.history closed.history (later_then (look opens.file ∷ opens.history.moment) opened.history taken.history (moves_later opens.history.after) (moves_later moves)) (moves_later closes.history) in
      record {
        looks = record { later = after.events; split = after.goes_on };
        under = opens.history.holds.named;
        included = included;
        end_within = within;
      }

  handles_back : taken.handles ≡ opened.handles → closed.handles ≡ old.handles
  handles_back same = closes.handles ∙ ap (λ (hs : List (ℕ × ℕ)). filter (λ pair. not (pair.0 == at.file.handle.0)) hs) (same ∙ opens.handles) ∙ given_back at.file.handle.0 opens.file old.handles opens.is_new

  seen_looks : Moves opened.history taken.history → looked closed.history ≡ opens.file ∷ looked old.history
  seen_looks moves =
      looks_stay taken.history closed.history closes.history ∙ looks_stay opened.history taken.history moves ∙ looks_stay (look opens.file ∷ opens.history.moment) opened.history opens.history.after
      ∙ ap (λ (l : List ℕ). opens.file ∷ l) (looks_stay old.history opens.history.moment opens.history.before)

  seen_misses : Moves opened.history taken.history → missed closed.history ≡ missed old.history
  seen_misses moves =
      misses_stay taken.history closed.history closes.history ∙ misses_stay opened.history taken.history moves ∙ misses_stay (look opens.file ∷ opens.history.moment) opened.history opens.history.after ∙ misses_stay old.history opens.history.moment opens.history.before

  seen_unlisted : Moves opened.history taken.history → left_unlisted closed.history ≡ left_unlisted old.history
  seen_unlisted moves =
      unlisted_stay taken.history closed.history closes.history ∙ unlisted_stay opened.history taken.history moves ∙ unlisted_stay (look opens.file ∷ opens.history.moment) opened.history opens.history.after ∙ unlisted_stay old.history opens.history.moment opens.history.before

  pub path_looked : (now : Step) → OpenTaken poll at now opened taken → PathTaken poll at.path.now now old closed
  path_looked now open_taken =
      let took = open_taken.looks opens.file opens.history.moment open_at in
      record {
        turn = looks_at (look_at at.path.now opens.file opens.history.moment open_taken.end open_taken.skipped);
        path_is = refl;
        comes = record {
          later = moves_later opens.history.before;
          comes = comes open_taken.end open_taken.skipped open_taken.moves took.end_within;
          all_looks = seen_looks open_taken.moves;
          all_misses = seen_misses open_taken.moves;
          takes = took;
          cost = open_taken.cost opens.file opens.history.moment open_at;
        };
        handles = handles_back open_taken.handles;
        no_unlisted = seen_unlisted open_taken.moves;
      }

  pub path_fills : (over : Overflow) (before : List Row) → OpenFills poll over at before opened taken → PathFills poll over at.path.now before old closed
  path_fills over before fills = record {
    here = look_at at.path.now opens.file opens.history.moment at.file.size false;
    path_is = refl;
    whole = opens.history.holds.length_then;
    later = moves_later opens.history.before;
    comes = comes at.file.size false fills.moves (omega (arith, opens.history.holds.length_then));
    all_looks = seen_looks fills.moves;
    all_misses = seen_misses fills.moves;
    no_unlisted = seen_unlisted fills.moves;
    fills = fills.looks opens.file opens.history.moment open_at;
    handles = handles_back fills.handles;
  }

-- what a file that was opened and closed makes of its path
pub record WithFile (change : World → World → Type 0) (at : PathFile) (old taken : World) : Type 0 where
  pub opened : World
  pub opens : OpensFile at.path.now at.file.handle.0 at.file.size old opened
  pub changes : change opened taken

-- a path that could not be opened, or was no file's
module _ (poll : Poll) (path : List ℕ) (before : List Row) (old new : World) where
  pub path_missed : OpensNothing (miss path ∷ []) (λ _. Unit {0}) old new → PathTaken poll path (step before before (record no_gain { failed = 1 }) []) old new
  path_missed opens = record {
    turn = misses_path path;
    path_is = refl;
    comes = record {
      later = later_then old.history opens.history.moment new.history (moves_later opens.history.before)
          (later_then opens.history.moment (miss path ∷ opens.history.moment) new.history (record { events = miss path ∷ []; goes_on = refl }) (moves_later opens.history.after));
      all_looks = looks_stay (miss path ∷ opens.history.moment) new.history opens.history.after ∙ looks_stay old.history opens.history.moment opens.history.before;
      all_misses = misses_stay (miss path ∷ opens.history.moment) new.history opens.history.after ∙ ap (λ (l : List (List ℕ)). path ∷ l) (misses_stay old.history opens.history.moment opens.history.before);
      same = refl;
      none = refl;
      gain_is = refl;
    };
    handles = opens.handles;
    no_unlisted = unlisted_stay (miss path ∷ opens.history.moment) new.history opens.history.after ∙ unlisted_stay old.history opens.history.moment opens.history.before;
  }

  no_file : (history : History) → (kind_at (names history) path ≡ Some File → ⊥) → file_at (names history) path ≡ None
  no_file history other_kind = by (file_at (names history) path) refl
    where
      named : (seen : ℕ) → file_at (names history) path ≡ Some seen → kind_at (names history) path ≡ Some File
      named seen e = rw e refl

      by : (at : Option ℕ) → file_at (names history) path ≡ at → file_at (names history) path ≡ None
      by None e = e
      by (Some seen) e = absurd (other_kind (named seen e))

  pub path_lost : (fact : History → Type 0) → OpensNothing [] fact old new → ((history : History) → fact history → kind_at (names history) path ≡ Some File → ⊥) → PathTaken poll path (step before before (record no_gain { gone = 1 }) []) old new
  path_lost fact opens other_kind =
      let moves = moves_by_moment opens.history in
      record {
        turn = finds_none path;
        path_is = refl;
        comes = record {
          had_none = record {
            moment = opens.history.moment;
            after = moves_later opens.history.before;
            before = moves_later opens.history.after;
            none = no_file opens.history.moment (other_kind opens.history.moment opens.history.holds);
          };
          all_looks = looks_stay old.history new.history moves;
          all_misses = misses_stay old.history new.history moves;
          same = refl;
          none = refl;
          gain_is = refl;
        };
        handles = opens.handles;
        no_unlisted = unlisted_stay old.history new.history moves;
      }
