-- What the bytes of an open file tell of a row.
use Rattle.std.proofs.Common.{◌≡◌, ◌⊎◌, ℕ, zero, suc, ◌+◌, ◌-◌, ◌<◌, ◌≤◌, min, List, [], ◌∷◌, ◌++◌, length, map, take, drop, refl, sym, ap, subst, ◌∙◌, inl, inr, arith, length-append, take-append-drop}
use Rattle.std.specs.Prelude.{All, IfSome, Option, None, Some, slice_get}
use Rattle.std.proofs.lemmas.Bool.{cases_lt}
use Rattle.std.proofs.lemmas.List.{take_all, length-take-le}
use Rattle.std.proofs.lemmas.List.Elements.{All-head, All-tail}
use Rattle.std.proofs.lemmas.List.Quantifiers.{position-Some}
use Rattle.std.proofs.lemmas.Option.{get_or_from_slice_get, same_Some}
use Rattle.auditor.specs.RowHolds.{AreErasFrom}
use Rattle.auditor.specs.Rests.{HasRest}
use Rattle.auditor.specs.Verdicts.{IsVerdict}
use Rattle.auditor.specs.declared.Verdict.{Verdict}
use Rattle.auditor.specs.declared.Verdict.TheVariants as verdict
use Rattle.file_tracker.specs.Fronts.{begins, front_of}
use Rattle.file_tracker.specs.Places.{place_of}
use Rattle.outside.proofs.Telling.{told_then, told_weaker}
use Rattle.outside.specs.Reading.{file_of}
use Rattle.outside.specs.World.{History, World, Told, bytes}
use Rattle.pipeline.specs.AsRules.{rules_of}
use Rattle.pipeline.specs.Parts.{settings_of}
use Rattle.pipeline.specs.declared.Pipeline.{Pipeline}
use Rattle.slot_store.proofs.Filling.{take_in_two}
use Rattle.standing.proofs.MomentLemmas.{bytes_grow, later_then}
use Rattle.standing.proofs.PrefixLemmas.{begins-true}
use Rattle.standing.specs.Eras.{Eras}
use Rattle.standing.specs.Prefixes.{IsPrefix}
use Rattle.standing.specs.Rows.{Row, IsRowAt}
use Rattle.tree_walk.specs.Calls.{KeepsHandles}
use Rattle.folder_audit.specs.Judged.{IsReadAs, HasVerdict, JudgedBytes, TellsLines, pipes_of}
use Rattle.folder_audit.specs.KeptFiles.{IsLast, texts_of}
use Rattle.folder_audit.specs.Open.{BeginsAs, IsOpenAt, IsOpenFound, IsPlaced, IsRead, IsReadAt}
use Rattle.folder_audit.specs.Inner.ReadsRange.{AreBytes, HasBytes}
use Rattle.folder_audit.specs.declared.findings.Finding.{Finding}
use Rattle.folder_audit.specs.declared.findings.Finding.TheVariants.{Absent}
use Rattle.folder_audit.specs.declared.judging.OpenFile.{OpenFile}
use Rattle.folder_audit.specs.declared.kept.Kept.{Kept}
use Rattle.folder_audit.proofs.ReadLemmas.{same_piece}

-- ---- what was read

pub still_open : (file : OpenFile) (seen : ℕ) (moment : History) (world : World) (last : ℕ) → last ≤ file.size → IsOpenAt file seen moment world → HasBytes file.handle.0 last world seen
still_open file seen moment world last within open_at =
    let grown = bytes_grow moment world.history seen open_at.later in
    record {
      is = open_at.is;
      long = omega (arith, within, open_at.size_then, ap length grown.1, length-append (bytes moment seen) grown.0);
    }

-- it is what the file had when it was opened
pub given_then : (file : OpenFile) (from : ℕ) (given : List ℕ) (x y : World) (seen : ℕ) (moment : History) → AreBytes file.handle.0 from given x y → from + length given ≤ file.size → IsOpenAt file seen moment x
    → given ≡ take (length given) (drop from (bytes moment seen))
given_then file from given x y seen moment are within open_at =
    let grown = bytes_grow moment x.history seen open_at.later in
    are seen (still_open file seen moment x (from + length given) within open_at)
    ∙ ap (λ (l : List ℕ). take (length given) (drop from l)) grown.1
    ∙ same_piece from (length given) (bytes moment seen) grown.0 (omega (arith, within, open_at.size_then))

pub front_then : (file : OpenFile) (most : ℕ) (front : List ℕ) (x y : World) (seen : ℕ) (moment : History) → AreBytes file.handle.0 0 front x y → length front ≡ min most file.size → IsOpenAt file seen moment x
    → front ≡ take most (bytes moment seen)
front_then file most front x y seen moment are size open_at =
    given_then file 0 front x y seen moment are (omega (arith, size)) open_at ∙ by (cases_lt most (length (bytes moment seen)))
  where
    by : (most < length (bytes moment seen)) ⊎ (length (bytes moment seen) ≤ most) → take (length front) (bytes moment seen) ≡ take most (bytes moment seen)
    by (inl long) = ap (λ (n : ℕ). take n (bytes moment seen)) (omega (arith, size, long, open_at.size_then))
    by (inr short) = take_all (length front) (bytes moment seen) (omega (arith, size, short, open_at.size_then)) ∙ sym (take_all most (bytes moment seen) short)

-- ---- the row of a front

placed_within : (front : List ℕ) (rows : List Row) (place : ℕ) → place_of front rows ≡ Some place → place < length rows
placed_within front [] place known = absurd (let none : None ≡ Some place = known in cc)
placed_within front (row ∷ rows) place known = (position-Some (λ (r : Row). begins (front_of r) front) (row ∷ rows) place row known).0

module _ (front : List ℕ) (rows : List Row) (place : ℕ) (known : place_of front rows ≡ Some place) where
  placed_begins : (row : Row) → IsRowAt rows place row → IsPrefix row.front front
  placed_begins row at =
      begins-true row.front front
      (ap (λ (r : Row). begins r.front front) (sym (get_or_from_slice_get rows place row row at)) ∙ (position-Some (λ (r : Row). begins (front_of r) front) rows place row known).1)

-- ---- enough bytes

pub has_rest : (pipes : List Pipeline) (offset last : ℕ) (content : List ℕ) → All (λ (pipe : Pipeline). offset + (settings_of pipe).max_log_size + 2 ≤ last) pipes → last ≤ length content → HasRest pipes offset content
has_rest [] offset last content all within = tt
has_rest (pipe ∷ pipes) offset last content all within =
    let P : Pipeline → Type 0 = λ p. offset + (settings_of p).max_log_size + 2 ≤ last in
    (omega (arith, All-head P pipe pipes all, within), has_rest pipes offset last content (All-tail P pipe pipes all) within)

abbrev pub SaysOf : List Pipeline → Row → List ℕ → List ℕ → Verdict → Type 0
SaysOf pipes row given text found =
    (eras : Eras) (before : List ℕ) → AreErasFrom eras row.born pipes → length before ≡ row.start → IsVerdict eras (map (rules_of []) pipes) (before ++ given) row text found

-- the bytes of a file from where reading began up to the lesser of its end and a place that is far enough
pub judged_bytes : (pipes : List Pipeline) (row : Row) (text whole given : List ℕ) (found : Verdict) (far size last : ℕ) → size ≡ length whole → last ≡ min far size → row.start ≤ row.offset → row.offset ≤ size → row.offset ≤ far
    → All (λ (pipe : Pipeline). row.offset + (settings_of pipe).max_log_size + 2 ≤ far) pipes → length given ≡ last - row.start → given ≡ take (length given) (drop row.start whole)
    → SaysOf pipes row given text found → JudgedBytes pipes row text found whole
judged_bytes pipes row text whole given found far size last size_is last_is begun long past each many given_is says = record {
  content = content;
  behind = drop last whole;
  split = sym (ap (λ (c : List ℕ). c ++ drop last whole) content_is ∙ take-append-drop last whole);
  within = omega (arith, content_long, last_is, long, past);
  enough = by (cases_lt far size);
  says = λ eras from. says eras (take row.start whole) from before_long;
} where
  before_long : length (take row.start whole) ≡ row.start
  before_long = length-take-le row.start whole (omega (arith, begun, long, size_is))

  content : List ℕ
  content = take row.start whole ++ given

  sum : row.start + length given ≡ last
  sum = omega (arith, many, last_is, begun, long, past)

  content_is : content ≡ take last whole
  content_is =
      ap (λ (g : List ℕ). take row.start whole ++ g) given_is ∙ sym (take_in_two whole row.start (length given)) ∙ ap (λ (n : ℕ). take n whole) sum

  content_long : length content ≡ last
  content_long = omega (arith, length-append (take row.start whole) given, before_long, sum)

  by : (far < size) ⊎ (size ≤ far) → (content ≡ whole) ⊎ HasRest pipes row.offset content
  by (inl less) = inr (has_rest pipes row.offset far content each (omega (arith, content_long, last_is, less)))
  by (inr all) = inl (content_is ∙ take_all last whole (omega (arith, last_is, all, size_is)))

-- ---- what is noted

pub read_as : (pipes : List Pipeline) (row : Row) (text whole : List ℕ) (found : Verdict) (lines : ℕ) (finding : Finding) → HasVerdict found lines finding → JudgedBytes (pipes_of pipes row) row text found whole → IsReadAs pipes text row finding whole
read_as pipes row text whole verdict.Same lines finding is its = subst (λ (f : Finding). IsReadAs pipes text row f whole) (sym is) its
read_as pipes row text whole (verdict.Differs line) lines finding is its = subst (λ (f : Finding). IsReadAs pipes text row f whole) (sym is) its

pub tells : (row : Row) (found : Verdict) (lines : ℕ) (finding : Finding) → lines ≡ row.lines → HasVerdict found lines finding → TellsLines row finding
tells row verdict.Same lines finding same is = subst (TellsLines row) (sym is) same
tells row (verdict.Differs line) lines finding same is = subst (TellsLines row) (sym is) tt

-- ---- over any tree

begins_by : (kept : Kept) (file : OpenFile) (front : List ℕ) (place : ℕ) → place_of front kept.rows ≡ Some place → ((last : Pipeline) → IsLast kept.pipes.items last → length front ≡ min (settings_of last).fingerprint_size file.size)
    → (x y : World) → AreBytes file.handle.0 0 front x y → BeginsAs kept file place x y
begins_by kept file front place known size x y are = λ seen moment row last open_at at is_last.
    subst (IsPrefix row.front) (front_then file (settings_of last).fingerprint_size front x y seen moment are (size last is_last) open_at) (placed_begins front kept.rows place known row at)

pub placed : (kept : Kept) (file : OpenFile) (front : List ℕ) (found : Option ℕ) (old new : Option World) → found ≡ place_of front kept.rows
    → ((last : Pipeline) → IsLast kept.pipes.items last → length front ≡ min (settings_of last).fingerprint_size file.size) → Told (AreBytes file.handle.0 0 front) old new → IfSome found (λ place. IsPlaced kept file place old new)
placed kept file front None old new is size told = tt
placed kept file front (Some place) old new is size told = record {
  within = placed_within front kept.rows place (sym is);
  begins = told_weaker (AreBytes file.handle.0 0 front) (BeginsAs kept file place) old new (begins_by kept file front place (sym is) size) told;
}

-- nothing was read of the row's file
pub unread : (change : World → World → Type 0) (kept : Kept) (file : OpenFile) (place : ℕ) (old new : Option World) → Told change old new → IsRead kept file place Absent old new
unread change kept file place old new told = record {
  lines = λ row at. tt;
  holds = told_weaker change (IsReadAt kept file place Absent) old new (λ x y c seen moment row text open_at at there. tt) told;
}

pub read_found : (kept : Kept) (file : OpenFile) (place : ℕ) (row : Row) (given text : List ℕ) (found : Verdict) (finding : Finding) (far last : ℕ) (old new : Option World) → IsRowAt kept.rows place row
    → row.start ≤ row.offset → row.offset ≤ file.size → row.offset ≤ far → last ≡ min far file.size → All (λ (pipe : Pipeline). row.offset + (settings_of pipe).max_log_size + 2 ≤ far) (pipes_of kept.pipes.items row)
    → length given ≡ last - row.start → slice_get (texts_of kept) place ≡ Some text → HasVerdict found row.lines finding → SaysOf (pipes_of kept.pipes.items row) row given text found
    → Told (AreBytes file.handle.0 row.start given) old new → IsRead kept file place finding old new
read_found kept file place row given text found finding far last old new at begun long past last_is each many there has says told = record {
  lines = λ other other_at. subst (λ (r : Row). TellsLines r finding) (same_Some row other (sym at ∙ other_at)) (tells row found row.lines finding refl has);
  holds = told_weaker (AreBytes file.handle.0 row.start given) (IsReadAt kept file place finding) old new
      (λ x y are seen moment other other_text open_at other_at other_there.
      let whole = bytes moment seen in
      let then_given : given ≡ take (length given) (drop row.start whole) = given_then file row.start given x y seen moment are (omega (arith, many, last_is, begun, long)) open_at in
      let its : IsReadAs kept.pipes.items text row finding whole =
      read_as kept.pipes.items row text whole found row.lines finding has
      (judged_bytes (pipes_of kept.pipes.items row) row text whole given found far file.size last open_at.size_then last_is begun long past each many then_given says) in
      subst (λ (r : Row). IsReadAs kept.pipes.items other_text r finding whole) (same_Some row other (sym at ∙ other_at))
      (subst (λ (t : List ℕ). IsReadAs kept.pipes.items t row finding whole) (same_Some text other_text (sym there ∙ other_there)) its)) told;
}

-- ---- one read after another

pub still_at : (file : OpenFile) (seen : ℕ) (moment : History) (x y : World) → KeepsHandles x y → IsOpenAt file seen moment x → IsOpenAt file seen moment y
still_at file seen moment x y keeps open_at = record {
  is = ap (λ hs. file_of hs file.handle.0) keeps.handles ∙ open_at.is;
  size_then = open_at.size_then;
  later = later_then moment x.history y.history open_at.later keeps.later;
}

row_there : (rows : List Row) (k : ℕ) → k < length rows → (row : Row) × IsRowAt rows k row
row_there [] k within = absurd (omega (arith, within))
row_there (row ∷ rows) zero within = (row, refl)
row_there (row ∷ rows) (suc k) within = row_there rows k (omega (arith, within))

pub open_found : (kept : Kept) (file : OpenFile) (place : ℕ) (finding : Finding) (old mid new : Option World) → IsPlaced kept file place old mid → Told KeepsHandles old mid → Told KeepsHandles mid new → IsRead kept file place finding mid new
    → IsOpenFound kept file place finding old new
open_found kept file place finding old mid new placed_so first second read =
    let row = row_there kept.rows place placed_so.within in
    record {
      row = row.0;
      there = row.1;
      begins = told_then (BeginsAs kept file place) KeepsHandles (BeginsAs kept file place) old mid new (λ x y z begin keeps. begin) placed_so.begins second;
      read = record {
        lines = read.lines;
        holds = told_then KeepsHandles (IsReadAt kept file place finding) (IsReadAt kept file place finding) old mid new
            (λ x y z keeps holds seen moment one text open_at at there. holds seen moment one text (still_at file seen moment x y keeps open_at) at there) first read.holds;
      };
    }
