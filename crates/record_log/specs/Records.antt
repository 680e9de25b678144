-- The records in a file. A record is a frame that begins where a payload ends. It counts where it is open and its
-- sequence number is the one before it plus 1.
use Rattle.std.specs.Prelude.{◌≡◌, ℕ, ◌+◌, ◌==◌, ◌&&◌, Bool, true, false, List, [], ◌∷◌}
use Rattle.slot_store.specs.Frame.{is_open_at, sequence_at, length_at, payload_at}

-- whether a record counts at this place, behind this sequence number
unfoldable pub counts_at : ℕ → ℕ → List ℕ → Bool
counts_at place sequence content = is_open_at place content && (sequence_at place content == sequence + 1)

abbrev pub end_at : ℕ → List ℕ → ℕ
end_at place content = place + 17 + length_at place content

-- From this place on, behind this sequence number, the file has records with these payloads, up to the first that
-- doesn't count: where that would begin, and the last sequence number.
pub data HasRecords (content : List ℕ) : ℕ → ℕ → List (List ℕ) → ℕ → ℕ → Type 0 where
  no_more : (place sequence : ℕ) → counts_at place sequence content ≡ false → HasRecords content place sequence [] place sequence
  record_at : (place sequence : ℕ) (payloads : List (List ℕ)) (end last : ℕ) → counts_at place sequence content ≡ true → HasRecords content (end_at place content) (sequence + 1) payloads end last → HasRecords content place sequence (payload_at place content ∷ payloads) end last
