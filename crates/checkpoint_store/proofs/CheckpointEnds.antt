-- What a whole checkpoint is read of, and where bytes that are none are blamed.
use Rattle.std.proofs.Common.{ap, ◌≡◌, ℕ, ◌-◌, List, [], length, Ok, Err, refl, sym, subst, ◌∙◌}
use Rattle.std.specs.Prelude.{slice_index}
use Rattle.std.proofs.lemmas.List.{append-nil}
use Rattle.state_codec.proofs.Numbers.{IsBytes, ok_is, err_or_ok}
use Rattle.checkpoint_store.specs.declared.Checkpoint.{Checkpoint}
use Rattle.checkpoint_store.specs.Rules.{IsVersion, IsCheckpoint}
use Rattle.checkpoint_store.specs.Spelling.{checkpoint_spelling}
use Rattle.checkpoint_store.specs.Reading.{any_checkpoint_at, whole_checkpoint}
use Rattle.checkpoint_store.specs.Decodes.{Spells, SpelledCheckpoint, SpellsNone}
use Rattle.checkpoint_store.proofs.Wholes.{whole, SpelledAlone, spelled_again, whole_ok, whole_again, dead_for_fewer, dead_end}
use Rattle.checkpoint_store.proofs.CheckpointFormats.{Known, any_format}

abbrev known_spelling : Known → List ℕ
known_spelling k = checkpoint_spelling k.0 k.1

abbrev KeepsKnown : Known → Type 0
KeepsKnown k = IsVersion k.0 × IsCheckpoint k.0 k.1

whole_view : (bytes : List ℕ) → whole_checkpoint bytes ≡ whole (λ (k : Known). k.1) (any_checkpoint_at bytes)
unfolding whole_checkpoint
whole_view bytes = refl

pub whole_takes : (bytes : List ℕ) (c : Checkpoint) → IsBytes bytes → whole_checkpoint bytes ≡ Ok c → Spells bytes c
whole_takes bytes c fits e =
    let read = whole_ok (λ (k : Known). k.1) (any_checkpoint_at bytes) c (sym (whole_view bytes) ∙ e) in
    let t = any_format.takes bytes (read.0, []) fits read.1.0 in
    subst (λ (k : Checkpoint). Spells bytes k) read.1.1
    (record { version = read.0.0; known = t.1.0; lawful = t.1.1; spelled = t.0.parts ∙ append-nil (checkpoint_spelling read.0.0 read.0.1) })

-- what is spelled is read
pub spelled_read : (bytes : List ℕ) (c : Checkpoint) → Spells bytes c → whole_checkpoint bytes ≡ Ok c
spelled_read bytes c s =
    whole_view bytes ∙ whole_again (λ (k : Known). k.1) (any_checkpoint_at bytes) (s.version, c) (spelled_again any_format bytes (s.version, c) (s.known, s.lawful) s.spelled)

-- by one version, and of one checkpoint
pub spelled_once : (bytes : List ℕ) (one other : Checkpoint) → Spells bytes one → Spells bytes other → one ≡ other
spelled_once bytes one other first second = ok_is one other (sym (spelled_read bytes one first) ∙ spelled_read bytes other second)

pub version_is_first : (bytes : List ℕ) (c : Checkpoint) (s : Spells bytes c) → slice_index bytes 0 ≡ s.version
version_is_first bytes c s = ap (λ (l : List ℕ). slice_index l 0) s.spelled

alone : (bytes : List ℕ) → SpelledCheckpoint bytes → SpelledAlone known_spelling KeepsKnown bytes
alone bytes s = record { value = (s.1.version, s.0); lawful = (s.1.known, s.1.lawful); spelled = s.1.spelled }

pub spells_none : (bytes : List ℕ) (left fault : ℕ) → IsBytes bytes → whole_checkpoint bytes ≡ Err left → fault ≡ length bytes - left → SpellsNone bytes fault
spells_none bytes left fault fits fails is = record {
  none = λ c spelled. err_or_ok (whole_checkpoint bytes) left c fails (spelled_read bytes c spelled);
  place = (left, fails, is);
  stops = λ inside.
      dead_for_fewer (SpelledAlone known_spelling KeepsKnown) SpelledCheckpoint bytes fault alone
      (dead_end any_format (λ (k : Known). k.1) bytes left fault fits (sym (whole_view bytes) ∙ fails) is inside);
}
