-- What holds of settings that were never changed.
use Rattle.std.proofs.Common.{◌≡◌, ℕ, zero, suc, ◌+◌, ◌≤◌, List, [], ◌∷◌, ◌++◌, length, drop, Bool, true, false, Option, Some, None, refl, sym, ap, subst, ◌∙◌, arith}
use Rattle.std.specs.Prelude.{is_some, map}
use Rattle.std.specs.List.{All}
use Rattle.std.proofs.lemmas.List.Elements.{All-append, All-cons, All-nil, All-head, All-tail}
use Rattle.entry_model.specs.LogRecord.{LogRecord}
use Rattle.file_tracker.specs.declared.ends.End.{End}
use Rattle.lifetimes.specs.OneEra.{IsSoundBy, one_era}
use Rattle.outside.specs.Image.{Image}
use Rattle.outside.specs.World.{History, bytes}
use Rattle.outside.specs.declared.disk.DiskFile.{DiskFile}
use Rattle.outside.specs.declared.disk.DiskFile.TheVariants.{Output}
use Rattle.poll_core.proofs.ImageLemmas.{one_found}
use Rattle.pipeline.proofs.OfText.{OneSet}
use Rattle.poll_core.specs.Found.{IsFound}
use Rattle.poll_core.specs.IsSession.{IsSession}
use Rattle.pipeline.specs.MadeOf.{HasRules, AreErasOf}
use Rattle.poll_core.specs.Polled.{AreErasIn, IsStanding}
use Rattle.poll_core.specs.SessionParts.{is_first, last_text, poll_of_session, rules_of_session, settings_of_session, stamp_at, stamp_of_session}
use Rattle.poll_core.specs.declared.session.Session.{Session}
use Rattle.standing.proofs.EraLemmas.{of_era}
use Rattle.standing.proofs.MarkLemmas.{untimed-append}
use Rattle.standing.proofs.PartLemmas.{entries_flagged}
use Rattle.standing.proofs.TellLemmas.{lines_begin}
use Rattle.standing.specs.AreRules.{AreRules}
use Rattle.standing.specs.Closed.{Made, AreClosed, all_made, entries_in, flagged, flags_in}
use Rattle.standing.specs.Eras.{Eras, AreEras, era_at, texts_of}
use Rattle.standing.specs.Marks.{Mark, numbered, untimed}
use Rattle.standing.specs.Owner.{IsOwner}
use Rattle.standing.specs.Part.{HasTaken, Part, first_point, last_part, last_point, part_from, part_output, whole}
use Rattle.standing.specs.Poll.{IsPlainIn, Poll, poll_in}
use Rattle.standing.specs.Rows.{Row}
use Rattle.standing.specs.Rules.{Rules, Includes}
use Rattle.standing.specs.Standing.{Found, nothing, damaged, found, Sound, Standing}
use Rattle.standing.specs.Stands.{CheckpointStands, RowStands}
use Rattle.standing.specs.Times.{HaveTimes}
use Rattle.standing.specs.Tokens.{tokens_of}
use Rattle.poll_core.proofs.EraLemmas.{stamped_so, sole_text}
use Rattle.poll_core.proofs.AdoptStands.{settings_are}
use Rattle.std.proofs.lemmas.List.{nil_from_length}

pub one_era_laws : (rules : Rules) → AreRules rules → AreEras (one_era rules)
one_era_laws rules laws = record {
  each = All-cons AreRules rules [] laws (All-nil AreRules);
  one_line = All-cons (λ (r : Rules). r.line ≡ rules.line) rules [] refl (All-nil (λ (r : Rules). r.line ≡ rules.line));
  one_front_size = All-cons (λ (r : Rules). r.front_size ≡ rules.front_size) rules [] refl (All-nil (λ (r : Rules). r.front_size ≡ rules.front_size));
}

-- ---- sessions

-- A session gives its lines a time where they are to have one; here its settings flush nothing.
pub session_plain : (rules : Rules) (session : Session) → rules_of_session session ≡ rules → rules.flush_after ≡ 0 → IsPlainIn (one_era rules) (is_first session) (stamp_of_session session)
session_plain rules session rules_are never = record {
  is_poll = record { first_era = λ first. refl; stamped = stamped_so (rules_of_session session).stamps session.time ∙ ap (λ (r : Rules). r.stamps) rules_are };
  no_flush = never;
}

abbrev poll_with : Bool → Option ℕ → Rules → ℕ → Poll
poll_with first stamp rules era = record { rules = rules; era = era; first = first; stamp = stamp }

-- A session whose settings were never changed polls by them.
pub session_polls : (rules : Rules) (session : Session) → session.eras ≡ texts_of (one_era rules) → rules_of_session session ≡ rules → poll_of_session session ≡ poll_in (one_era rules) (is_first session) (stamp_of_session session)
session_polls rules session eras_are rules_are =
    ap (λ (r : Rules). poll_with (is_first session) (stamp_of_session session) r (length session.eras)) rules_are
    ∙ ap (λ (texts : List (List ℕ)). poll_with (is_first session) (stamp_of_session session) rules (length texts)) eras_are

-- its rules are those of their text
pub session_has : (rules : Rules) (session : Session) → IsSession session → rules_of_session session ≡ rules → HasRules rules.settings rules
session_has rules session is rules_are = subst (λ (r : Rules). HasRules r.settings r) rules_are (session.pipeline, is.made, refl)

pub rules_own : (text : List ℕ) (rules : Rules) → HasRules text rules → HasRules rules.settings rules
rules_own text rules has = subst (λ (t : List ℕ). HasRules t rules) (sym (settings_are text rules has)) has

-- a session of one text
pub session_of_one : (rules : Rules) (session : Session) → length session.eras ≡ 1 → settings_of_session session ≡ rules.settings → session.eras ≡ texts_of (one_era rules)
session_of_one rules session one text = sole_text session.eras one ∙ ap (λ (t : List ℕ). t ∷ []) text

-- ---- images

module _ (one_set : OneSet) (rules : Rules) (has : HasRules rules.settings rules) where
  one_by_text : (first : Rules) (later : List Rules) → map (λ (r : Rules). r.settings) (first ∷ later) ≡ rules.settings ∷ [] → HasRules first.settings first → ◌≡◌ {A = Eras} (record { first = first; later = later }) (one_era rules)
  one_by_text first [] same own =
      let both : ◌≡◌ {A = List (List ℕ)} (first.settings ∷ []) (rules.settings ∷ []) = same in
      let text : first.settings ≡ rules.settings = cc (both) in
      ap one_era (one_set rules.settings first rules (subst (λ (t : List ℕ). HasRules t first) text own) has)
  one_by_text first (next ∷ later) same own = absurd (omega (arith, ap length same))

  -- the eras of their text alone
  pub eras_of_one : (texts : List (List ℕ)) (eras : Eras) → AreErasOf texts eras → texts ≡ texts_of (one_era rules) → eras ≡ one_era rules
  eras_of_one texts eras are same =
      one_by_text eras.first eras.later (sym are.texts_are ∙ same) (All-head (λ (r : Rules). HasRules r.settings r) eras.first eras.later are.each)

  -- what stands by its own eras, and is of these settings alone, stands by them
  pub standing_by_one : (history : History) (image : Image DiskFile) → IsSoundBy rules image → (stood : IsStanding history image) → Standing (one_era rules) history stood.there (image Output)
  standing_by_one history image sound stood = by stood.there stood.found stood.are stood.stands
    where
      by : (there : Found) → IsFound image there → AreErasIn there stood.eras → Standing stood.eras history there (image Output) → Standing (one_era rules) history there (image Output)
      by nothing have are stands = tt
      by damaged have are stands = stands
      by (found checkpoint) have are stands =
          let same : sound.there ≡ found checkpoint = one_found image sound.there (found checkpoint) sound.found have in
          let texts : checkpoint.eras ≡ texts_of (one_era rules) = (subst (λ (f : Found). Sound (one_era rules) f (image Output)) same sound.sound).texts in
          subst (λ (e : Eras). CheckpointStands e history checkpoint (image Output)) (eras_of_one checkpoint.eras stood.eras are texts) stands

-- ---- rows

admitted_by : (rules : Rules) (era : ℕ) (its : Rules) → era_at (one_era rules) era ≡ Some its → its ≡ rules
admitted_by rules era its is = of_era (one_era rules) (λ (r : Rules). r ≡ rules) (All-cons (λ (r : Rules). r ≡ rules) rules [] refl (All-nil (λ (r : Rules). r ≡ rules))) era its is

pub owner_included : (rules : Rules) (history : History) (row : Row) (file : ℕ) → IsOwner (one_era rules) history row file → Includes rules row.path
owner_included rules history row file owner = subst (λ (r : Rules). Includes r row.path) (admitted_by rules row.born owner.rules owner.admitted) owner.included

some_era : (eras : Eras) (era : ℕ) (its : Rules) → era_at eras era ≡ Some its → 1 ≤ era
some_era eras zero its is = absurd (let never : None ≡ Some its = is in cc)
some_era eras (suc era) its is = omega arith

-- the mark has a time where one is asked for
abbrev pub IsTimed : Bool → Mark → Type 0
IsTimed stamps mark = is_some mark.observed ≡ stamps

-- where each entry asks alike for a time, each line has one alike
all_timed : (stamps : Bool) (entries : List LogRecord) (marks : List Mark) → HaveTimes (flags_in (flagged stamps entries)) marks → All (IsTimed stamps) marks
all_timed stamps [] [] have = All-nil (IsTimed stamps)
all_timed stamps [] (mark ∷ marks) have = absurd have
all_timed stamps (entry ∷ entries) [] have = absurd have
all_timed stamps (entry ∷ entries) (mark ∷ marks) have = All-cons (IsTimed stamps) mark marks have.0 (all_timed stamps entries marks have.1)

-- ---- lines that are still to come

abbrev NoTime : Mark → Type 0
NoTime mark = mark.observed ≡ None

numbered_none : (id n : ℕ) (entries : List LogRecord) → All NoTime (numbered id n None entries)
numbered_none id n [] = All-nil NoTime
numbered_none id n (entry ∷ entries) = All-cons NoTime (record { id = id; number = n; observed = None; entry = entry }) (numbered id (n + 1) None entries) refl (numbered_none id (n + 1) entries)

all_behind : (front back : List Mark) → All NoTime (front ++ back) → All NoTime back
all_behind [] back all = all
all_behind (mark ∷ front) back all = all_behind front back (All-tail NoTime mark (front ++ back) all)

-- with a time where one is asked for
stamped : Bool → List Mark → List Mark
stamped stamps marks = map (λ (mark : Mark). record mark { observed = stamp_at stamps 0 }) marks

all_stamped : (stamps : Bool) (marks : List Mark) → All (IsTimed stamps) (stamped stamps marks)
unfolding stamped
all_stamped stamps [] = All-nil (IsTimed stamps)
all_stamped stamps (mark ∷ marks) = All-cons (IsTimed stamps) (record mark { observed = stamp_at stamps 0 }) (stamped stamps marks) (stamped_so stamps 0) (all_stamped stamps marks)

stamped_back : (stamps : Bool) (marks : List Mark) → All NoTime marks → untimed (stamped stamps marks) ≡ marks
unfolding stamped
stamped_back stamps [] all = refl
stamped_back stamps (mark ∷ marks) all =
    ap (λ (observed : Option ℕ). record mark { observed = observed } ∷ untimed (stamped stamps marks)) (sym (All-head NoTime mark marks all))
    ∙ ap (λ (ms : List Mark). mark ∷ ms) (stamped_back stamps marks (All-tail NoTime mark marks all))

-- lines that a row may have in the end
pub record EndsWith (rules : Rules) (id : ℕ) (entries : List LogRecord) (lines : List Mark) : Type 0 where
  pub rest : List Mark
  pub all : untimed (lines ++ rest) ≡ numbered id 1 None entries
  pub times : All (IsTimed rules.stamps) (lines ++ rest)

module _ (rules : Rules) (history : History) (row : Row) (lines : List Mark) (stands : RowStands (one_era rules) history row lines) where
  -- it has one part
  no_ends : row.ends ≡ []
  no_ends =
      let parts : row.born + length row.ends ≡ 1 = stands.parts in
      nil_from_length row.ends (omega (arith, parts, some_era (one_era rules) row.born stands.owner.rules stands.owner.admitted))

  none_earlier : stands.earlier ≡ []
  none_earlier = subst (λ (ends : List End). AreClosed (one_era rules) (bytes history stands.file) row.path row.born (first_point row) ends stands.earlier) no_ends stands.closed

  part_is : last_part rules row ≡ whole rules row.start
  part_is = ap (λ (ends : List End). part_from rules (last_point (first_point row) ends)) no_ends

  pub one_offset : (last_point (first_point row) row.ends).offset ≡ row.start
  one_offset = ap (λ (ends : List End). (last_point (first_point row) ends).offset) no_ends

  pub one_taken : HasTaken rules (whole rules row.start) (bytes history stands.file) stands.tokens row
  one_taken = subst (λ (part : Part). HasTaken rules part (bytes history stands.file) stands.tokens row) part_is stands.taken

  one_entries : (tokens : List (List ℕ)) → entries_in (all_made (one_era rules) row stands.earlier tokens) ≡ part_output rules (whole rules row.start) row.path tokens
  one_entries tokens =
      ap (λ (earlier : List Made). entries_in (all_made (one_era rules) row earlier tokens)) none_earlier
      ∙ entries_flagged rules.stamps (part_output rules (last_part rules row) row.path tokens)
      ∙ ap (λ (part : Part). part_output rules part row.path tokens) part_is

  lines_timed : All (IsTimed rules.stamps) lines
  lines_timed =
      let given : List LogRecord = part_output rules (last_part rules row) row.path stands.tokens in
      all_timed rules.stamps given lines (subst (λ (earlier : List Made). HaveTimes (flags_in (all_made (one_era rules) row earlier stands.tokens)) lines) none_earlier stands.times.have)

  -- its lines are the first of those of all tokens of its file
  pub one_begins : AreRules rules → EndsWith rules row.id (part_output rules (whole rules row.start) row.path (tokens_of rules (drop row.start (bytes history stands.file)))) lines
  one_begins laws =
      let begun = lines_begin (one_era rules) (one_era_laws rules laws) history row lines stands in
      let from : ℕ = (last_point (first_point row) row.ends).offset in
      let entries : entries_in (all_made (one_era rules) row stands.earlier (tokens_of rules (drop from (bytes history stands.file)))) ≡ part_output rules (whole rules row.start) row.path (tokens_of rules (drop row.start (bytes history stands.file))) =
      one_entries (tokens_of rules (drop from (bytes history stands.file)))
      ∙ ap (λ (n : ℕ). part_output rules (whole rules row.start) row.path (tokens_of rules (drop n (bytes history stands.file)))) one_offset in
      let whole_row : List LogRecord = part_output rules (whole rules row.start) row.path (tokens_of rules (drop row.start (bytes history stands.file))) in
      let split : numbered row.id 1 None whole_row ≡ untimed lines ++ begun.0 = ap (numbered row.id 1 None) (sym entries) ∙ begun.1 in
      let rest_none : All NoTime begun.0 = all_behind (untimed lines) begun.0 (subst (All NoTime) split (numbered_none row.id 1 whole_row)) in
      record {
        rest = stamped rules.stamps begun.0;
        all = untimed-append lines (stamped rules.stamps begun.0) ∙ ap (λ (ms : List Mark). untimed lines ++ ms) (stamped_back rules.stamps begun.0 rest_none) ∙ sym split;
        times = All-append (IsTimed rules.stamps) lines (stamped rules.stamps begun.0) lines_timed (all_stamped rules.stamps begun.0);
      }
