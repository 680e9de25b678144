-- The rows of a session, before a pass and after it.
use Rattle.std.proofs.Common.{◌≡◌, ◌≢◌, ◌⊎◌, ℕ, zero, suc, ◌+◌, ◌-◌, ◌<◌, ◌≤◌, ◌^◌, List, [], ◌∷◌, length, Bool, true, false, Option, Some, refl, sym, ap, subst, ◌∙◌, arith, inl, inr}
use Rattle.std.specs.List.{All}
use Rattle.std.specs.Prelude.{max, slice_get, IsTrue}
use Rattle.std.specs.Option.{unwrap_or}
use Rattle.std.proofs.lemmas.Bool.{cases_lt, true≢false}
use Rattle.std.proofs.lemmas.List.{same_lists}
use Rattle.std.proofs.lemmas.List.Elements.{All-head, All-tail}
use Rattle.std.proofs.lemmas.Option.{none-some, same_Some, get_or_from_slice_get, slice_get_within, unwrap_or-slice_get}
use Rattle.checkpoint_journal.specs.Memory.{EndsWithMemory}
use Rattle.checkpoint_journal.specs.Next.{AwaitsNext}
use Rattle.checkpoint_store.proofs.Determined.{changed_alone}
use Rattle.checkpoint_store.specs.Changed.{HasChanged}
use Rattle.checkpoint_store.specs.Fits.{Fits, HasId}
use Rattle.checkpoint_store.specs.Limits.{newest, era_limit, time_limit}
use Rattle.checkpoint_store.specs.Parts.{flagged}
use Rattle.checkpoint_store.specs.Rules.{IsCheckpoint, KeepsRules, KeepRules, beside_of}
use Rattle.checkpoint_store.specs.declared.Change.{Change}
use Rattle.checkpoint_store.specs.declared.Checkpoint.{Checkpoint}
use Rattle.checkpoint_store.specs.declared.beside.Beside.{Beside}
use Rattle.file_pass.specs.Fed.{poll_of}
use Rattle.file_pass.specs.Moment.{Moment, RowsAt}
use Rattle.file_pass.specs.Sane.{AreSaneRows, IsSaneRow, IsSaneTaking}
use Rattle.file_pass.proofs.Flagging.{flag_tells_difference}
use Rattle.file_pass.specs.Unchanged.{FlagsChanges, HasNoFlag}
use Rattle.file_pass.specs.declared.setup.Setup.{Setup}
use Rattle.file_pass.specs.declared.taking.Taking.{Taking}
use Rattle.file_tracker.specs.Limits.{row_limit}
use Rattle.outside.specs.Image.{Image}
use Rattle.outside.specs.declared.disk.DiskFile.{DiskFile}
use Rattle.pipeline.specs.AsRules.{rules_of}
use Rattle.poll_core.proofs.EraLemmas.{poll_with}
use Rattle.poll_core.proofs.Flagged.{StandsAt, flagged_all, flagged_ascend, flagged_has, flagged_stand}
use Rattle.checkpoint_journal.proofs.RowLemmas.{rows_in_order}
use Rattle.pipeline.proofs.ForeignRows.{all_fine}
use Rattle.poll_core.specs.Inner.Begun.{IsBegun}
use Rattle.poll_core.specs.IsSession.{IsSession}
use Rattle.poll_core.specs.Inner.Kept.{KeepsTime}
use Rattle.poll_core.specs.SessionParts.{checkpoint_of_session, is_first, journal_of_session, poll_of_session, rules_of_session, settings_of_session, stamp_at, stamp_of_session, kept_of, limit_of}
use Rattle.poll_core.proofs.TakenLemmas.{row_kept}
use Rattle.poll_core.specs.Taken.{Keeping}
use Rattle.poll_core.specs.declared.session.Session.{Session}
use Rattle.standing.specs.Pass.{time_of}
use Rattle.standing.specs.Poll.{Poll}
use Rattle.standing.specs.Rows.{Row, KeepStates}
use Rattle.standing.specs.Rules.{Rules}

all_at : {X : Type 0} (P : X → Type 0) (xs : List X) (place : ℕ) (x : X) → All P xs → slice_get xs place ≡ Some x → P x
all_at P [] place x all at = absurd (none-some x at)
all_at P (y ∷ ys) zero x all at = subst P (same_Some y x at) (All-head P y ys all)
all_at P (y ∷ ys) (suc place) x all at = all_at P ys place x (All-tail P y ys all) at

-- ---- before

pub state_at : (rules : Rules) (rows : List Row) (place : ℕ) (row : Row) → KeepStates rules rows → slice_get rows place ≡ Some row → IsTrue (rules.is_state row.state)
state_at rules [] place row states at = absurd (none-some row at)
state_at rules (saved ∷ rows) zero row states at =
    subst (λ (r : Row). IsTrue (rules.is_state r.state)) (same_Some saved row at) (All-head (λ (r : Row). IsTrue (rules.is_state r.state)) saved rows states)
state_at rules (saved ∷ rows) (suc place) row states at =
    state_at rules rows place row (All-tail (λ (r : Row). IsTrue (rules.is_state r.state)) saved rows states) at

-- of rows that keep the rules of the newest version under as many eras
pub sane_rows : (poll : Poll) (beside : Beside) (rows : List Row) → beside.version ≡ newest → beside.eras ≡ poll.era → KeepRules beside 1 rows → KeepStates poll.rules rows → AreSaneRows poll beside.output_length rows
sane_rows poll beside rows version eras keep states = λ place row at.
    let keeps = row_kept beside 1 rows place row keep at in
    record {
      id = rows_in_order beside rows keep place row at;
      path = keeps.path;
      front = (keeps.front.0, keeps.front.1);
      start = keeps.start;
      offset = keeps.offset;
      records = omega (arith, keeps.records, keeps.start);
      lines = keeps.lines;
      state = state_at poll.rules rows place row states at;
      short = keeps.state;
      parts = record {
        born = keeps.past.born.0;
        parts = keeps.past.eras (omega (arith, version)) ∙ eras;
        rises = keeps.past.ends;
        seen = keeps.past.seen;
        quiet = keeps.past.quiet;
      };
    }

-- ---- after

keep_from : (beside : Beside) (first : ℕ) (rows : List Row) → ((place : ℕ) (row : Row) → slice_get rows place ≡ Some row → (row.id ≡ place + first) × KeepsRules beside row) → KeepRules beside first rows
keep_from beside first [] each = tt
keep_from beside first (row ∷ rows) each =
    let here = each 0 row refl in (
      omega (arith, here.0),
      (here.1, keep_from beside (first + 1) rows (λ place other at. let there = each (suc place) other at in (omega (arith, there.0), there.1))),
    )

-- beside an output that ends there, under so many eras
abbrev beside_at : ℕ → ℕ → Beside
beside_at era end = record { version = newest; eras = era; output_length = end }

keeps_sane : (poll : Poll) (end place : ℕ) (row : Row) → place < row_limit → poll.era ≤ era_limit → IsSaneRow poll end place row → KeepsRules (beside_at poll.era end) row
keeps_sane poll end place row few eras sane = record {
  id = omega (arith, sane.id, few);
  path = sane.path;
  front = (sane.front.0, sane.front.1);
  start = sane.start;
  offset = sane.offset;
  records = omega (arith, sane.records);
  lines = sane.lines;
  state = sane.short;
  past = record {
    of_version = λ old. absurd (omega (arith, old));
    eras = λ _. sane.parts.parts;
    born = (sane.parts.born, omega (arith, sane.parts.parts, eras));
    count = omega (arith, sane.parts.parts, eras);
    ends = sane.parts.rises;
    seen = sane.parts.seen;
    quiet = sane.parts.quiet;
  };
}

keep_sane : (poll : Poll) (end : ℕ) (rows : List Row) → length rows ≤ row_limit → poll.era ≤ era_limit → AreSaneRows poll end rows → KeepRules (beside_at poll.era end) 1 rows
keep_sane poll end rows few eras sane = keep_from (beside_at poll.era end) 1 rows (λ place row at.
    let here = sane place row at in
    (here.id, keeps_sane poll end place row (omega (arith, few, slice_get_within rows place row at)) eras here))

-- the flag at a place is one of the two
which : (flags : List Bool) (place : ℕ) → place < length flags → (slice_get flags place ≡ Some true) ⊎ (slice_get flags place ≡ Some false)
which [] place within = absurd (omega (arith, within))
which (true ∷ flags) zero within = inl refl
which (false ∷ flags) zero within = inr refl
which (flag ∷ flags) (suc place) within = which flags place (omega (arith, within))

row_at : (rows : List Row) (place : ℕ) → place < length rows → (row : Row) × (slice_get rows place ≡ Some row)
row_at [] place within = absurd (omega (arith, within))
row_at (row ∷ rows) zero within = (row, refl)
row_at (row ∷ rows) (suc place) within = row_at rows place (omega (arith, within))

-- what a poll begins with
abbrev pub begins : {T D : Type 0} → Session → Moment T D → RowsAt T D
begins session outside = record { rows = session.tracker; end = session.kept; outside = outside }

-- The setup is what the session goes by, with a limit that isn't below what it keeps, and this time may be kept.
pub record IsSetUp (session : Session) (setup : Setup) (observed : ℕ) : Type 0 where
  pub poll : poll_of setup ≡ poll_of_session session
  pub kept_within : kept_of session ≤ setup.limit
  pub limit_within : setup.limit ≤ 2 ^ 40
  pub time : (session.observed ≤ observed) × (observed ≤ time_limit)

-- what a session is to keep of what was taken, beside this time
abbrev pub next_of_session : Session → ℕ → Taking → Checkpoint
next_of_session session observed taking = record { eras = session.eras; output_length = taking.end; observed = observed; next_id = length taking.tracker + 1; rows = taking.tracker }

abbrev pub change_of_session : ℕ → Taking → Change
change_of_session observed taking = record { output_length = taking.end; observed = observed; next_id = length taking.tracker + 1; rows = flagged taking.changed.items taking.tracker }

abbrev pub keeping_in : Session → ℕ → Taking → Keeping
keeping_in session observed taking = record { after = next_of_session session observed taking; change = change_of_session observed taking }

module _ (session : Session) (is : IsSession session) (setup : Setup) (observed : ℕ) (by : IsSetUp session setup observed) (begun taking : Taking) (starts : IsBegun session.tracker session.kept begun) (sane : IsSaneTaking setup taking) (flags : FlagsChanges begun taking) (grown : session.kept ≤ taking.end) where
  sane_rows_after : AreSaneRows (poll_of_session session) taking.end taking.tracker
  sane_rows_after = subst (λ (poll : Poll). AreSaneRows poll taking.end taking.tracker) by.poll sane.rows

  next_rules : KeepRules (beside_of newest session.eras taking.end) 1 taking.tracker
  next_rules = keep_sane (poll_of_session session) taking.end taking.tracker sane.few is.lawful.eras.few sane_rows_after

  pub next_lawful : IsCheckpoint newest (next_of_session session observed taking)
  next_lawful = record {
    eras = is.lawful.eras;
    output_length = omega (arith, sane.end_within, by.limit_within);
    observed = record { of_version = λ old. absurd (omega (arith, old)); told = λ _. (omega arith, by.time.1) };
    next_id = (omega arith, omega (arith, sane.few));
    count = refl;
    rows = next_rules;
  }

  pub next_states : KeepStates (rules_of_session session) taking.tracker
  next_states = all_fine (rules_of_session session) taking.tracker (length taking.tracker) refl (λ k row early at. (sane_rows_after k row at).state)

  none_before : HasNoFlag begun
  none_before place flag = true≢false (all_at (λ (f : Bool). f ≡ false) begun.changed.items place true starts.none_flagged flag)

  more : length session.tracker ≤ length taking.tracker
  more = omega (arith, flags.more, ap length starts.rows_are)

  -- a row that isn't flagged is an old one, and as it was
  unflagged : (place : ℕ) → slice_get taking.changed.items place ≡ Some false → (place < length session.tracker) × (slice_get taking.tracker place ≡ slice_get session.tracker place)
  unflagged place at =
      let was = flags.kept place at in (
        omega (arith, slice_get_within begun.changed.items place false was.0, starts.flags),
        was.1 ∙ ap (λ (rows : List Row). slice_get rows place) starts.rows_are,
      )

  flag_at : (place : ℕ) → place < length taking.tracker → (slice_get taking.changed.items place ≡ Some true) ⊎ (slice_get taking.changed.items place ≡ Some false)
  flag_at place within = which taking.changed.items place (omega (arith, within, sane.flags))

  new_there : (id : ℕ) → length session.tracker + 1 ≤ id → id < length taking.tracker + 1 → HasId (flagged taking.changed.items taking.tracker) id
  new_there id late early =
      let place : ℕ = id - 1 in
      let id_is : 1 + place ≡ id = omega (arith, late) in
      elim (flag_at place (omega (arith, late, early))) [
        | inl flag ↦ subst (λ (n : ℕ). HasId (flagged taking.changed.items taking.tracker) n) id_is
            (flagged_has (beside_of newest session.eras taking.end) 1 taking.changed.items taking.tracker next_rules place (omega (arith, late, early)) flag)
        | inr none ↦ (let old = (unflagged place none).0 in absurd (omega (arith, old, late)))
      ]

  pub next_fits : Fits newest (checkpoint_of_session session) (change_of_session observed taking)
  next_fits = record {
    output_length = (grown, omega (arith, sane.end_within, by.limit_within));
    observed = record { of_version = λ old. absurd (omega (arith, old)); told = λ _. by.time };
    next_id = (omega (arith, more), omega (arith, sane.few));
    rows = flagged_ascend (beside_of newest session.eras taking.end) 1 (length taking.tracker + 1 - 1) taking.changed.items taking.tracker next_rules (omega arith);
    new = new_there;
  }

  pub next_stand : All (StandsAt taking.tracker) (flagged taking.changed.items taking.tracker)
  next_stand = flagged_stand (beside_of newest session.eras taking.end) taking.changed.items taking.tracker next_rules

  -- a flagged row isn't what stood there before
  flag_differs : (place : ℕ) (row : Row) → slice_get taking.changed.items place ≡ Some true → slice_get taking.tracker place ≡ Some row → slice_get session.tracker place ≢ Some row
  flag_differs place row flag at same =
      (flag_tells_difference begun taking flags none_before sane.flags place).0 flag (at ∙ sym same ∙ ap (λ (rows : List Row). slice_get rows place) (sym starts.rows_are))

  -- a row that differs is among those that are flagged
  pub next_named : (place : ℕ) (row : Row) → slice_get taking.tracker place ≡ Some row → slice_get session.tracker place ≢ Some row → HasId (flagged taking.changed.items taking.tracker) row.id
  next_named place row at differs = elim (flag_at place (slice_get_within taking.tracker place row at)) [
    | inl flag ↦ subst (λ (n : ℕ). HasId (flagged taking.changed.items taking.tracker) n) (omega (arith, (sane.rows place row at).id))
        (flagged_has (beside_of newest session.eras taking.end) 1 taking.changed.items taking.tracker next_rules place (slice_get_within taking.tracker place row at) flag)
    | inr none ↦ absurd (differs (sym (unflagged place none).1 ∙ at))
  ]

  -- where all rows stand as they did, none is flagged
  pub none_flagged : taking.tracker ≡ session.tracker → All (λ flag. flag ≡ false) taking.changed.items
  none_flagged same = λ k d within.
      let inside : k < length taking.tracker = omega (arith, within, sane.flags) in
      elim (flag_at k inside) [
        | inl flag ↦ (let there = row_at taking.tracker k inside in absurd (flag_differs k there.0 flag there.1 (ap (λ (rows : List Row). slice_get rows k) (sym same) ∙ there.1)))
        | inr none ↦ get_or_from_slice_get taking.changed.items k false d none
      ]

  pub next_differ : All (λ (row : Row). slice_get session.tracker (row.id - 1) ≢ Some row) (flagged taking.changed.items taking.tracker)
  next_differ = flagged_all (λ (row : Row). slice_get session.tracker (row.id - 1) ≢ Some row) (beside_of newest session.eras taking.end) 0 taking.changed.items taking.tracker next_rules
      (λ place row flag at id same. flag_differs place row flag at (ap (λ (n : ℕ). slice_get session.tracker n) (omega (arith, id)) ∙ same))

  has_changed : HasChanged (checkpoint_of_session session) (change_of_session observed taking) (next_of_session session observed taking)
  has_changed = record {
    eras = refl;
    output_length = refl;
    observed = refl;
    next_id = refl;
    count = refl;
    named = next_stand;
    others = λ place old none. elim (flag_at place (omega (arith, old, more))) [
      | inl flag ↦ absurd (none (subst (λ (n : ℕ). HasId (flagged taking.changed.items taking.tracker) n) (omega arith)
          (flagged_has (beside_of newest session.eras taking.end) 1 taking.changed.items taking.tracker next_rules place (omega (arith, old, more)) flag)))
      | inr same ↦ (unflagged place same).1
    ];
  }

  -- where no row is flagged all stand as they did
  pub same_rows : All (λ flag. flag ≡ false) taking.changed.items → taking.tracker ≡ session.tracker
  same_rows none =
      let old_place : (place : ℕ) → place < length taking.tracker → (place < length session.tracker) × (slice_get taking.tracker place ≡ slice_get session.tracker place) = λ place within. elim (flag_at place within) [
        | inl flag ↦ absurd (true≢false (all_at (λ (flag : Bool). flag ≡ false) taking.changed.items place true none flag))
        | inr same ↦ unflagged place same
      ] in
      let size : length taking.tracker ≡ length session.tracker = elim (cases_lt (length session.tracker) (length taking.tracker)) [
        | inl longer ↦ (let old = (old_place (length session.tracker) longer).0 in absurd (omega (arith, old)))
        | inr no_longer ↦ omega (arith, no_longer, more)
      ] in
      same_lists taking.tracker session.tracker size (λ place d within.
      sym (unwrap_or-slice_get taking.tracker place d) ∙ ap (λ (o : Option Row). unwrap_or o d) (old_place place within).1 ∙ unwrap_or-slice_get session.tracker place d)

  pub next_awaited : (image : Image DiskFile) → EndsWithMemory (journal_of_session session) (checkpoint_of_session session) image → AwaitsNext (journal_of_session session) (next_of_session session observed taking) (change_of_session observed taking) image
  next_awaited image ends = record {
    before = checkpoint_of_session session;
    ends = ends;
    fits = next_fits;
    makes = changed_alone newest (checkpoint_of_session session) (change_of_session observed taking) (next_of_session session observed taking) is.lawful next_fits has_changed;
  }

later_so : (stamps : Bool) (time before after : ℕ) → before ≤ time → time ≤ time_limit → after ≡ time_of (stamp_at stamps time) before → (before ≤ after) × (after ≤ time_limit)
later_so false time before after earlier within is = (omega (arith, is), omega (arith, is, earlier, within))
later_so true time before after earlier within is = (omega (arith, is, earlier), omega (arith, is, within))

-- a time that is kept is no earlier than the one before
pub later_by : (session : Session) (taking : Taking) (observed : ℕ) → IsSession session → KeepsTime (journal_of_session session) session.kept taking (stamp_of_session session) session.observed observed
    → (session.observed ≤ observed) × (observed ≤ time_limit)
later_by session taking observed is keeps = elim keeps [
  | inl quiet ↦ (omega (arith, quiet.1), omega (arith, quiet.1, is.time.0, is.time.1))
  | inr loud ↦ later_so (rules_of_session session).stamps session.time session.observed observed is.time.0 is.time.1 loud.1
]

-- by the poll's own time
pub times_of : (session : Session) (taking : Taking) (stamp : Option ℕ) (observed : ℕ) → stamp ≡ stamp_of_session session → KeepsTime (journal_of_session session) session.kept taking stamp session.observed observed
    → KeepsTime (journal_of_session session) session.kept taking (stamp_of_session session) session.observed observed
times_of session taking stamp observed is keeps = subst (λ (s : Option ℕ). KeepsTime (journal_of_session session) session.kept taking s session.observed observed) is keeps

pub set_up : (session : Session) (setup : Setup) (observed : ℕ) → IsSession session → poll_of setup ≡ poll_of_session session → setup.limit ≡ max (limit_of session) (kept_of session)
    → (session.observed ≤ observed) × (observed ≤ time_limit) → IsSetUp session setup observed
set_up session setup observed is same limit_is time = record {
  poll = same;
  kept_within = omega (arith, limit_is);
  limit_within = omega (arith, limit_is, is.limit, is.lawful.output_length);
  time = time;
}

-- what a session polls by, part by part
pub poll_by : (session : Session) (text : List ℕ) (era : ℕ) (first : Bool) (stamp : Option ℕ) → text ≡ settings_of_session session → era ≡ length session.eras → first ≡ is_first session → stamp ≡ stamp_of_session session
    → poll_with (rules_of text session.pipeline) era first stamp ≡ poll_of_session session
poll_by session text era first stamp text_is era_is first_is stamp_is =
    ap (λ (t : List ℕ). poll_with (rules_of t session.pipeline) era first stamp) text_is
    ∙ ap (λ (n : ℕ). poll_with (rules_of_session session) n first stamp) era_is
    ∙ ap (λ (b : Bool). poll_with (rules_of_session session) (length session.eras) b stamp) first_is
    ∙ ap (λ (o : Option ℕ). poll_with (rules_of_session session) (length session.eras) (is_first session) o) stamp_is
