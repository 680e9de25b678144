-- Images that are sound, what they are refused for, and what keeps them so.
use Rattle.std.proofs.Common.{◌≡◌, ℕ, ◌+◌, ◌≤◌, List, [], ◌∷◌, ◌++◌, length, take, map, IsTrue, Option, None, Some, refl, sym, ap, subst, ◌∙◌, arith, inl, inr}
use Rattle.std.proofs.lemmas.List.{length-append, length-take-le}
use Rattle.std.proofs.lemmas.List.Elements.{All-append, All-cons, All-head, All-map, All-nil, All-tail}
use Rattle.std.specs.List.{All}
use Rattle.checkpoint_journal.proofs.JournalLaws.{journal_lawful}
use Rattle.checkpoint_journal.specs.JournalOf.{HasCheckpoint, IsBadAt}
use Rattle.checkpoint_journal.specs.Memory.{HasMemory}
use Rattle.checkpoint_journal.specs.declared.journal.Journal.{Journal}
use Rattle.checkpoint_store.specs.Limits.{newest}
use Rattle.checkpoint_store.specs.Rules.{beside_of}
use Rattle.checkpoint_store.specs.declared.Checkpoint.{Checkpoint}
use Rattle.file_pass.specs.Full.{lines_text}
use Rattle.graph_core.specs.Traces.{start_states}
use Rattle.op_kinds.specs.States.{states_spelling}
use Rattle.outside.specs.Image.{Image}
use Rattle.outside.specs.declared.disk.DiskFile.{DiskFile}
use Rattle.outside.specs.declared.disk.DiskFile.TheVariants.{Output}
use Rattle.pipeline.proofs.Rows.{first_told, is_told}
use Rattle.pipeline.specs.Parts.{network, settings_of}
use Rattle.poll_core.proofs.AdoptStands.{long_enough, settings_are, text_is}
use Rattle.poll_core.proofs.EraLemmas.{sole_text}
use Rattle.poll_core.proofs.ImageLemmas.{found_kept, long_enough_still, one_found}
use Rattle.poll_core.proofs.RefusalLemmas.{none_foreign}
use Rattle.checkpoint_journal.proofs.RowLemmas.{rows_in_order}
use Rattle.pipeline.proofs.OfText.{OneSet}
use Rattle.poll_core.proofs.SafeLemmas.{gains_long, stays_long}
use Rattle.poll_core.proofs.SessionLemmas.{left_goes_on}
use Rattle.poll_core.specs.AdoptFaults.{IsUnadopted, nothing_kept, no_reading as unread, bad_settings, bad_operators, foreign_state as other_state, short_output as cut_output, other_fingerprint, too_many, full, worn}
use Rattle.poll_core.specs.Adopting.{IsAdopted, IsAdoption, IsInForce, KeepsAll, MayAdopt}
use Rattle.poll_core.specs.Found.{IsFound}
use Rattle.poll_core.specs.IsSession.{IsSession}
use Rattle.pipeline.specs.MadeOf.{HasRules}
use Rattle.poll_core.specs.OpenFaults.{HasOtherSettings, IsRefused, no_reading, other_settings, foreign_state, short_output}
use Rattle.poll_core.specs.Polled.{ComesAfter, Gains, Stays, Steps}
use Rattle.poll_core.specs.Remembers.{IsLeftBy}
use Rattle.poll_core.specs.Reopens.{Reopens}
use Rattle.poll_core.specs.SessionParts.{checkpoint_of_session, journal_of_session, kept_of, last_text, rules_of_session, settings_of_session}
use Rattle.poll_core.specs.Sound.{IsOfOthers, IsSettings, IsSoundCheckpoint, IsSoundImage, IsSoundWith, KeepStatesOf}
use Rattle.poll_core.specs.declared.adopt_fault.AdoptFault.{AdoptFault}
use Rattle.poll_core.specs.declared.adopted.Adopted.{Adopted}
use Rattle.poll_core.specs.declared.fault.OpenFault.{OpenFault}
use Rattle.poll_core.specs.declared.fault.OpenFault.TheVariants.{SettingsChanged}
use Rattle.poll_core.specs.declared.session.Session.{Session}
use Rattle.standing.specs.Adopted.{row_adopted}
use Rattle.standing.specs.Marks.{Mark}
use Rattle.standing.specs.Rows.{Row, KeepStates}
use Rattle.standing.specs.Rules.{Rules, output_text}
use Rattle.standing.specs.Standing.{Found, nothing, damaged, found, kept}

-- ---- what a sound image has

pub sound_saved : (image : Image DiskFile) (saved : Checkpoint) → IsSoundImage image → HasCheckpoint (Some saved) image → IsSoundCheckpoint saved (image Output)
sound_saved image saved sound has =
    subst (λ (f : Found). IsSoundWith f (image Output)) (one_found image sound.there (found saved) sound.found has) sound.sound

readable : (image : Image DiskFile) (at : ℕ) → IsSoundImage image → IsBadAt at image → ⊥
readable image at sound bad =
    subst (λ (f : Found). IsSoundWith f (image Output)) (one_found image sound.there damaged sound.found (at, bad)) sound.sound

last_of_all : (P : List ℕ → Type 0) (texts : List (List ℕ)) → 1 ≤ length texts → All P texts → P (last_text texts)
last_of_all P [] some all = absurd (omega (arith, some))
last_of_all P (text ∷ []) some all = All-head P text [] all
last_of_all P (text ∷ other ∷ more) some all = last_of_all P (other ∷ more) (omega arith) (All-tail P text (other ∷ more) all)

-- its last settings can be read
last_said : (image : Image DiskFile) (saved : Checkpoint) → IsSoundImage image → HasCheckpoint (Some saved) image → IsSettings (last_text saved.eras)
last_said image saved sound has =
    last_of_all IsSettings saved.eras (journal_lawful image has.0 saved has.1).eras.some (sound_saved image saved sound has).settings

-- ---- why it is refused

pub sound_opened : (text : List ℕ) (image : Image DiskFile) (fault : OpenFault) → IsSoundImage image → IsRefused text image fault → (at : ℕ) × (fault ≡ SettingsChanged at) × HasOtherSettings text image at
sound_opened text image fault sound (no_reading at bad) = absurd (readable image at sound bad)
sound_opened text image fault sound (other_settings at differ) = (at, refl, differ)
sound_opened text image fault sound (foreign_state id foreign) =
    let own = sound_saved image foreign.checkpoint sound foreign.of_text.has in
    let rules_are : HasRules (last_text foreign.checkpoint.eras) foreign.rules = subst (λ (t : List ℕ). HasRules t foreign.rules) (sym foreign.of_text.settings) foreign.rules_are in
    absurd (none_foreign foreign.rules foreign.checkpoint.rows id (own.states foreign.rules rules_are) foreign.foreign)
sound_opened text image fault sound (short_output kept size short) =
    let own = sound_saved image short.checkpoint sound short.of_text.has in
    absurd (omega (arith, own.long_enough, short.short, short.kept_is, short.size_is))

pub sound_adopted : (text : List ℕ) (limit : ℕ) (image : Image DiskFile) (fault : AdoptFault) → IsSoundImage image → IsUnadopted text limit image fault → IsOfOthers fault
sound_adopted text limit image fault sound (nothing_kept none) = tt
sound_adopted text limit image fault sound (unread at bad) = readable image at sound bad
sound_adopted text limit image fault sound (bad_settings given bad) =
    let said = (last_said image bad.before sound bad.has).1 in
    let refused = bad.cause.1 in
    absurd (cc (said, refused))
sound_adopted text limit image fault sound (bad_operators given bad) = tt
sound_adopted text limit image fault sound (other_state id own foreign) =
    none_foreign own.rules own.before.rows id ((sound_saved image own.before sound own.has).states own.rules own.rules_are) foreign
sound_adopted text limit image fault sound (cut_output size own states size_is short) =
    omega (arith, (sound_saved image own.before sound own.has).long_enough, short, size_is)
sound_adopted text limit image fault sound (other_fingerprint own next of_other differ) = tt
sound_adopted text limit image fault sound (too_many own next of_other one_front_size many) = tt
sound_adopted text limit image fault sound (full size own may_follow past) = tt
sound_adopted text limit image fault sound (worn own may_follow room last) = tt

-- ---- opening keeps it

still_with : (old new : Image DiskFile) (there : Found) → Reopens old new → IsFound old there → IsSoundWith there (old Output) → IsSoundWith there (new Output)
still_with old new nothing reopens has sound = tt
still_with old new damaged reopens has sound = absurd sound
still_with old new (found checkpoint) reopens has sound = record {
  settings = sound.settings;
  states = sound.states;
  ids = sound.ids;
  long_enough = long_enough_still old new checkpoint reopens has sound.long_enough;
}

pub image_still : (old new : Image DiskFile) → Reopens old new → IsSoundImage old → IsSoundImage new
image_still old new reopens sound = record {
  there = sound.there;
  found = found_kept reopens.logs sound.there sound.found;
  sound = still_with old new sound.there reopens sound.found sound.sound;
}

-- ---- polls keep it

session_said : (session : Session) (image : Image DiskFile) → IsSession session → IsLeftBy session image → IsSoundImage image → All IsSettings session.eras
session_said session image is left sound = by (journal_of_session session) refl (left_goes_on session image left).memory
  where
    by : (journal : Option Journal) → journal_of_session session ≡ journal → HasMemory journal (checkpoint_of_session session) image → All IsSettings session.eras
    by None none memory =
        let said : IsSettings (settings_of_session session) = (settings_of session.pipeline, is.made.said) in
        subst (λ (texts : List (List ℕ)). All IsSettings texts) (sym (sole_text session.eras (is.one_era none)))
        (All-cons IsSettings (settings_of_session session) [] said (All-nil IsSettings))
    by (Some journal) there memory = (sound_saved image (checkpoint_of_session session) sound (journal, memory)).settings

module _ (one_set : OneSet) (session : Session) (old new : Image DiskFile) (is : IsSession session) (left : IsLeftBy session old) (sound : IsSoundImage old) where
  states_of : (rows : List Row) → KeepStates (rules_of_session session) rows → KeepStatesOf (settings_of_session session) rows
  states_of rows states = λ rules rules_are.
      subst (λ (r : Rules). KeepStates r rows)
      (one_set (settings_of_session session) (rules_of_session session) rules (session.pipeline, is.made, refl) rules_are) states

  saved_sound : kept_of session ≤ length (new Output) → IsSoundCheckpoint (checkpoint_of_session session) (new Output)
  saved_sound enough = record {
    settings = session_said session old is left sound;
    states = states_of session.tracker is.states;
    ids = record { ids = rows_in_order (beside_of newest session.eras session.kept) session.tracker is.lawful.rows; next = refl };
    long_enough = enough;
  }

  next_sound : (next : Checkpoint) (added : List Mark) → ComesAfter session next added → next.output_length ≤ length (new Output) → IsSoundCheckpoint next (new Output)
  next_sound next added comes enough = record {
    settings = subst (λ (texts : List (List ℕ)). All IsSettings texts) (sym comes.eras) (session_said session old is left sound);
    states = subst (λ (texts : List (List ℕ)). KeepStatesOf (last_text texts) next.rows) (sym comes.eras) (states_of next.rows comes.states);
    ids = record { ids = rows_in_order (beside_of newest next.eras next.output_length) next.rows comes.lawful.rows; next = sym comes.lawful.count };
    long_enough = enough;
  }

  pub stays_sound : Stays session old new → IsSoundImage new
  stays_sound stays = by (journal_of_session session) stays.memory
    where
      by : (journal : Option Journal) → HasMemory journal (checkpoint_of_session session) new → IsSoundImage new
      by None memory = record { there = nothing; found = memory.0; sound = tt }
      by (Some journal) memory = record {
        there = found (checkpoint_of_session session);
        found = (journal, memory);
        sound = saved_sound (stays_long session old new left stays);
      }

  pub gains_sound : (next : Checkpoint) (added : List Mark) → ComesAfter session next added → Gains session next added old new → IsSoundImage new
  gains_sound next added comes gains = record {
    there = found next;
    found = (gains.memory.0, gains.memory.1);
    sound = next_sound next added comes (omega (arith, gains_long session next added old new comes left gains));
  }

  pub steps_sound : (next : Checkpoint) (added : List Mark) → ComesAfter session next added → Steps session next added old new → IsSoundImage new
  steps_sound next added comes steps = elim steps [
    | inl stays ↦ stays_sound stays
    | inr gains ↦ gains_sound next added comes gains
  ]

-- ---- adopting keeps it

last_added : (texts : List (List ℕ)) (text : List ℕ) → last_text (texts ++ text ∷ []) ≡ text
last_added [] text = refl
last_added (first ∷ []) text = refl
last_added (first ∷ other ∷ more) text = last_added (other ∷ more) text

fresh_is_state : (text : List ℕ) (rules : Rules) → HasRules text rules → IsTrue (rules.is_state rules.fresh)
fresh_is_state text rules has =
    let pipeline = has.0 in
    subst (λ (r : Rules). IsTrue (r.is_state r.fresh)) (sym has.2)
    (is_told pipeline.graph (states_spelling (start_states (network pipeline))) (start_states (network pipeline)) (first_told pipeline.graph))

fresh_states : (own next : Rules) (rows : List Row) → IsTrue (next.is_state next.fresh) → KeepStates next (map (row_adopted own next) rows)
fresh_states own next rows fresh =
    All-map (λ (row : Row). IsTrue (next.is_state row.state)) (row_adopted own next) rows (λ k d within. fresh)

-- how long an output is with more behind what is kept of it
length_with : (size : ℕ) (file more output : List ℕ) → size ≤ length file → output ≡ take size file ++ more → length output ≡ size + length more
length_with size file more output enough is =
    ap (λ (t : List ℕ). length t) is ∙ length-append (take size file) more ∙ ap (λ n. n + length more) (length-take-le size file enough)

module _ (one_set : OneSet) (text : List ℕ) (before after : Checkpoint) (added : List Mark) where
  in_force_sound : (file output : List ℕ) → IsInForce text before after added → IsSoundCheckpoint before file → before.output_length ≤ length output → IsSoundCheckpoint after output
  in_force_sound file output force own enough =
      let still : IsSoundCheckpoint before output = record { settings = own.settings; states = own.states; ids = own.ids; long_enough = enough } in
      subst (λ (c : Checkpoint). IsSoundCheckpoint c output) (sym force.same) still

  longer_sound : (file output : List ℕ) → IsAdoption text before after added → IsSoundCheckpoint before file → after.output_length ≤ length output → IsSoundCheckpoint after output
  longer_sound file output adoption own enough =
      let next : Rules = adoption.next in
      let said : IsSettings text = (settings_of adoption.next_are.0, adoption.next_are.1.said) in
      let adopts = adoption.adopts in
      let texts : after.eras ≡ before.eras ++ text ∷ [] = adopts.texts ∙ ap (λ (t : List ℕ). before.eras ++ t ∷ []) (settings_are text next adoption.next_are) in
      let last : last_text after.eras ≡ text = ap last_text texts ∙ last_added before.eras text in
      let rows : KeepStates next after.rows = subst (λ (l : List Row). KeepStates next l) (sym adopts.rows) (fresh_states adoption.rules next before.rows (fresh_is_state text next adoption.next_are)) in
      record {
        settings = subst (λ (l : List (List ℕ)). All IsSettings l) (sym texts) (All-append IsSettings before.eras (text ∷ []) own.settings (All-cons IsSettings text [] said (All-nil IsSettings)));
        states = λ rules rules_are.
            let of_text : HasRules text rules = subst (λ (t : List ℕ). HasRules t rules) last rules_are in
            subst (λ (r : Rules). KeepStates r after.rows) (one_set text next rules adoption.next_are of_text) rows;
        ids = record { ids = rows_in_order (beside_of newest after.eras after.output_length) after.rows adoption.lawful.rows; next = sym adoption.lawful.count };
        long_enough = enough;
      }

pub adopting_sound : (one_set : OneSet) (text : List ℕ) (limit : ℕ) (adopted : Adopted) (old new : Image DiskFile) → IsSoundImage old → IsAdopted text limit adopted old new → IsSoundImage new
adopting_sound one_set text limit adopted old new sound is =
    let own : IsSoundCheckpoint is.before (old Output) = sound_saved old is.before sound is.had in
    let size : length (new Output) ≡ is.before.output_length + length (lines_text is.added) = length_with is.before.output_length (old Output) (lines_text is.added) (new Output) is.enough is.output in
    record {
      there = found is.after;
      found = is.has;
      sound = elim is.change [
        | inl force ↦ in_force_sound one_set text is.before is.after is.added (old Output) (new Output) force own (omega (arith, size))
        | inr adoption ↦ (
            let lines : output_text adoption.0.rules is.added ≡ lines_text is.added = text_is (last_text is.before.eras) adoption.0.rules is.added adoption.0.rules_are in
            let long : is.after.output_length ≡ is.before.output_length + length (lines_text is.added) = adoption.0.adopts.output_length ∙ ap (λ (t : List ℕ). is.before.output_length + length t) lines in
            longer_sound one_set text is.before is.after is.added (old Output) (new Output) adoption.0 own (omega (arith, size, long))
            )
      ];
    }

kept_with : (old new : Image DiskFile) (there : Found) → kept there (new Output) ≡ kept there (old Output) → IsSoundWith there (old Output) → IsSoundWith there (new Output)
kept_with old new nothing same sound = tt
kept_with old new damaged same sound = absurd sound
kept_with old new (found own) same sound = record {
  settings = sound.settings;
  states = sound.states;
  ids = sound.ids;
  long_enough = long_enough own.output_length (new Output) (ap (λ (t : List ℕ). length t) same ∙ length-take-le own.output_length (old Output) sound.long_enough);
}

keeping_sound : (old new : Image DiskFile) → IsSoundImage old → KeepsAll old new → IsSoundImage new
keeping_sound old new sound keeps = record {
  there = sound.there;
  found = keeps.there sound.there sound.found;
  sound = kept_with old new sound.there (keeps.output sound.there sound.found) sound.sound;
}

pub adopting_leaves_sound : (one_set : OneSet) (text : List ℕ) (limit : ℕ) (old new : Image DiskFile) → IsSoundImage old → MayAdopt text limit old new → IsSoundImage new
adopting_leaves_sound one_set text limit old new sound may = elim may.choice [
  | inl keeps ↦ keeping_sound old new sound keeps
  | inr adopted ↦ adopting_sound one_set text limit adopted.0 old new sound adopted.1
]
