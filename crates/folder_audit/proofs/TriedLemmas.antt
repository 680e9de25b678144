-- Whether the row of an open file is found.
use Rattle.std.proofs.Common.{◌≡◌, ℕ, ◌+◌, ◌-◌, ◌≤◌, min, List, [], ◌∷◌, length, refl, sym, ap, subst, ◌∙◌, arith}
use Rattle.std.specs.Prelude.{Option, None, Some}
use Rattle.std.proofs.lemmas.Option.{same_Some}
use Rattle.auditor.specs.declared.Verdict.{Verdict}
use Rattle.auditor.specs.declared.Verdict.TheVariants as verdict
use Rattle.file_tracker.specs.Places.{place_of}
use Rattle.outside.specs.Closing.{Closes}
use Rattle.outside.specs.Listing.{kind_at}
use Rattle.outside.specs.Opening.{OpensFile, OpensNothing}
use Rattle.outside.specs.TreeMeaning.{TreeMeaning}
use Rattle.outside.specs.World.{History, World, Told, bytes, look, names}
use Rattle.outside.specs.declared.tree.Kind.TheVariants.{File}
use Rattle.pipeline.specs.Parts.{settings_of}
use Rattle.pipeline.specs.declared.Pipeline.{Pipeline}
use Rattle.standing.proofs.MomentLemmas.{at_look, later_then}
use Rattle.standing.specs.Moments.{IsLater, IsNamed}
use Rattle.standing.specs.Rows.{Row, IsRowAt}
use Rattle.tree_walk.specs.Calls.{KeepsHandles}
use Rattle.folder_audit.specs.Findings.{is_absent}
use Rattle.folder_audit.specs.Judged.{HasVerdict}
use Rattle.folder_audit.specs.KeptFiles.{IsLast}
use Rattle.folder_audit.specs.Limits.{largest_read}
use Rattle.folder_audit.specs.Open.{GoesOn}
use Rattle.folder_audit.specs.Inner.ReadsRange.{AreBytes, EndsBefore}
use Rattle.folder_audit.specs.Inner.Tried.{FindsOpen, FindsPath, IsOf, IsReadable, IsSome, JudgesOpen, KnowsOpen, UnlessRose}
use Rattle.folder_audit.specs.declared.findings.Finding.{Finding}
use Rattle.folder_audit.specs.declared.findings.Finding.TheVariants.{Absent}
use Rattle.folder_audit.specs.declared.judging.OpenFile.{OpenFile}
use Rattle.folder_audit.specs.declared.kept.Kept.{Kept}
use Rattle.folder_audit.proofs.JudgeLemmas.{front_then, still_at, still_open}
use Rattle.folder_audit.proofs.OpenLemmas.{opened_at}
use Rattle.folder_audit.proofs.UnlessLemmas.{unless_and, unless_both, unless_earlier, unless_later, unless_so, unless_weaker}
use Rattle.tree_walk.proofs.Worlds.{later_moves}

some_verdict : (found : Verdict) (lines : ℕ) (finding : Finding) → HasVerdict found lines finding → IsSome finding
some_verdict verdict.Same lines finding is = ap is_absent is
some_verdict (verdict.Differs line) lines finding is = ap is_absent is

module _ {T : Type 0} (meaning : TreeMeaning T) (kept : Kept) (file : OpenFile) where
  -- its front couldn't be read
  pub knows_none : (front : List ℕ) (old new : T) → ((last : Pipeline) → IsLast kept.pipes.items last → length front ≡ min (settings_of last).fingerprint_size file.size)
      → UnlessRose meaning (EndsBefore file.handle.0 (0 + length front)) old new → UnlessRose meaning (KnowsOpen kept file None) old new
  knows_none front old new size ends =
      unless_weaker meaning (EndsBefore file.handle.0 (0 + length front)) (KnowsOpen kept file None) old new
      (λ x y never seen moment place open_at readable.
      absurd (never seen (still_open file seen moment x (0 + length front) (omega (arith, size readable.last readable.is_last)) open_at))) ends

  pub knows_front : (front : List ℕ) (found : Option ℕ) (old new : T) → found ≡ place_of front kept.rows
      → ((last : Pipeline) → IsLast kept.pipes.items last → length front ≡ min (settings_of last).fingerprint_size file.size)
      → Told (AreBytes file.handle.0 0 front) (meaning.world old) (meaning.world new) → UnlessRose meaning (KnowsOpen kept file found) old new
  knows_front front found old new is size told =
      unless_so meaning (AreBytes file.handle.0 0 front) (KnowsOpen kept file found) old new
      (λ x y are seen moment place open_at readable.
      is ∙ ap (λ (f : List ℕ). place_of f kept.rows) (front_then file (settings_of readable.last).fingerprint_size front x y seen moment are (size readable.last readable.is_last) open_at) ∙ readable.known) told

  module _ (place : ℕ) (row : Row) (at : IsRowAt kept.rows place row) where
    -- the file is too short, or too much would be read
    pub judges_unfit : (change : World → World → Type 0) (old new : T) → (row.offset ≤ file.size → row.offset - row.start ≤ largest_read → ⊥)
        → Told change (meaning.world old) (meaning.world new) → UnlessRose meaning (JudgesOpen kept file place Absent) old new
    judges_unfit change old new never told =
        unless_so meaning change (JudgesOpen kept file place Absent) old new
        (λ x y c seen moment open_at readable.
        let same : readable.row ≡ row = same_Some readable.row row (sym readable.there ∙ at) in
        let long : row.offset ≤ length (bytes moment seen) = subst (λ (r : Row). r.offset ≤ length (bytes moment seen)) same readable.long in
        let small : row.offset - row.start ≤ largest_read = subst (λ (r : Row). r.offset - r.start ≤ largest_read) same readable.small in
        absurd (never (omega (arith, long, open_at.size_then)) small)) told

    -- its bytes couldn't be read
    pub judges_none : (last : ℕ) (old new : T) → last ≤ file.size → UnlessRose meaning (EndsBefore file.handle.0 last) old new → UnlessRose meaning (JudgesOpen kept file place Absent) old new
    judges_none last old new within ends =
        unless_weaker meaning (EndsBefore file.handle.0 last) (JudgesOpen kept file place Absent) old new
        (λ x y never seen moment open_at readable. absurd (never seen (still_open file seen moment x last within open_at))) ends

    pub judges_all : (change : World → World → Type 0) (found : Verdict) (finding : Finding) (old new : T) → HasVerdict found row.lines finding → Told change (meaning.world old) (meaning.world new) → UnlessRose meaning (JudgesOpen kept file place finding) old new
    judges_all change found finding old new has told =
        unless_so meaning change (JudgesOpen kept file place finding) old new (λ x y c seen moment open_at readable. some_verdict found row.lines finding has) told

  pub finds_none : (known : Option ℕ) (old new : T) → ((place : ℕ) → known ≡ Some place → ⊥) → UnlessRose meaning (KnowsOpen kept file known) old new → UnlessRose meaning (FindsOpen kept file None) old new
  finds_none known old new never knows =
      unless_weaker meaning (KnowsOpen kept file known) (FindsOpen kept file None) old new (λ x y know seen moment place open_at readable. absurd (never place (know seen moment place open_at readable))) knows

  pub finds_open : (place : ℕ) (finding : Finding) (old mid new : T) → GoesOn meaning old mid → GoesOn meaning mid new
      → UnlessRose meaning (KnowsOpen kept file (Some place)) old mid → UnlessRose meaning (JudgesOpen kept file place finding) mid new → UnlessRose meaning (FindsOpen kept file (Some (place, finding))) old new
  finds_open place finding old mid new first second knows judges =
      unless_both meaning (λ x y. KeepsHandles x y × KnowsOpen kept file (Some place) x y) (JudgesOpen kept file place finding) (FindsOpen kept file (Some (place, finding))) old mid new first.faults second.faults
      (λ x y z know judge seen moment other open_at readable.
      let same : place ≡ other = same_Some place other (know.1 seen moment other open_at readable) in
      (finding, ap (λ (k : ℕ). Some (k, finding)) same, judge seen moment (still_at file seen moment x y know.0 open_at) (subst (λ (k : ℕ). IsReadable kept k (bytes moment seen)) (sym same) readable)))
      (unless_and meaning KeepsHandles (KnowsOpen kept file (Some place)) old mid first.world knows) judges

  -- the path is opened, its file is judged, and closed
  finds_at : (path : List ℕ) (judged : Option (ℕ × Finding)) (w x y z : World) → OpensFile path file.handle.0 file.size w x → KeepsHandles x y → FindsOpen kept file judged x y → Closes file.handle.0 y z → FindsPath kept (IsOf judged) path w z
  finds_at path judged w x y z opens keeps finds closes = λ seen named.
      let moment = opens.history.moment in
      let after : IsLater w.history moment = later_moves opens.history.before in
      let before : IsLater moment z.history =
      later_then moment (look opens.file ∷ moment) z.history (at_look opens.file moment)
      (later_then (look opens.file ∷ moment) x.history z.history (later_moves opens.history.after) (later_then x.history y.history z.history keeps.later (later_moves closes.history))) in
      let same : opens.file ≡ seen = same_Some opens.file seen (sym opens.history.holds.named ∙ named moment after before) in
      record {
        moment = moment;
        after = after;
        before = before;
        finds = λ place readable. finds opens.file moment place (opened_at path file w x opens) (subst (λ (f : ℕ). IsReadable kept place (bytes moment f)) (sym same) readable);
      }

  pub finds_opened : (path : List ℕ) (judged : Option (ℕ × Finding)) (old mid read new : T) → Told (OpensFile path file.handle.0 file.size) (meaning.world old) (meaning.world mid) → meaning.faults mid ≡ meaning.faults old → GoesOn meaning mid read
      → UnlessRose meaning (FindsOpen kept file judged) mid read → Told (Closes file.handle.0) (meaning.world read) (meaning.world new) → meaning.faults new ≡ meaning.faults read → UnlessRose meaning (FindsPath kept (IsOf judged) path) old new
  finds_opened path judged old mid read new opens stood goes finds closes still =
      let Mid : World → World → Type 0 = λ x y. KeepsHandles x y × FindsOpen kept file judged x y in
      let Late : World → World → Type 0 = λ x z. (y : World) × (Mid x y × Closes file.handle.0 y z) in
      unless_later meaning (OpensFile path file.handle.0 file.size) Late (FindsPath kept (IsOf judged) path) old mid new (record { later = omega (arith, stood); in_range = λ is. omega (arith, stood, is) })
      (λ w x z o late. finds_at path judged w x late.0 z o late.1.0.0 late.1.0.1 late.1.1) opens
      (unless_earlier meaning Mid (Closes file.handle.0) Late mid read new (record { later = omega (arith, still); in_range = λ is. omega (arith, still, is) })
      (λ x y z m c. (y, (m, c))) (unless_and meaning KeepsHandles (FindsOpen kept file judged) mid read goes.world finds) closes)

pub kind_named : (history : History) (path : List ℕ) (file : ℕ) → IsNamed history path file → kind_at (names history) path ≡ Some File
kind_named history path file named = rw named refl

-- the path is that of no file
pub finds_no_file : {T : Type 0} (meaning : TreeMeaning T) (kept : Kept) (path : List ℕ) (fact : History → Type 0) (old new : T) → ((history : History) → kind_at (names history) path ≡ Some File → fact history → ⊥)
    → Told (OpensNothing [] fact) (meaning.world old) (meaning.world new) → UnlessRose meaning (FindsPath kept (IsOf None) path) old new
finds_no_file meaning kept path fact old new never told =
    unless_so meaning (OpensNothing [] fact) (FindsPath kept (IsOf None) path) old new
    (λ x y opens file named.
    let at = opens.history in
    absurd (never at.moment (kind_named at.moment path file (named at.moment (later_moves at.before) (later_moves at.after))) at.holds)) told
