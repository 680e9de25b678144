-- What each outcome of a crash leaves of a file. The newest entry comes first.
use Rattle.std.specs.Prelude.{ℕ, ◌+◌, ◌-◌, ◌*◌, ◌/◌, ◌%◌, ◌==◌, suc, min, List, [], ◌∷◌, ◌++◌, length, take, drop, nat_le, nat_lt, Bool, true, false, ◌&&◌, if◌then◌else◌}
use Rattle.out_segments.specs.declared.parts.PartFile.{PartFile}
use Rattle.out_segments.specs.declared.parts.PartFile.TheVariants.{Settings, SlotA, SlotB, Part}
use Rattle.out_segments.specs.declared.memory.log.Change.{Change}
use Rattle.out_segments.specs.declared.memory.log.Change.TheVariants.{Put, Write, Cut, Sync}
use Rattle.out_segments.specs.declared.memory.tear.Kind.{Kind}
use Rattle.out_segments.specs.declared.memory.tear.Kind.TheVariants.{Nothing, All, Front, Garbage, Mixture}
use Rattle.out_segments.specs.declared.memory.tear.Tear.{Tear}
use Rattle.out_segments.specs.MemLog.{Log, written_over, content}

-- one call further, with nothing of a write or a cut
abbrev pub without_call : Change → Bool → List ℕ → List ℕ → List ℕ
without_call (Put bytes) taken kept shown = if taken then bytes.items else kept
without_call (Write offset bytes) taken kept shown = kept
without_call (Cut size) taken kept shown = kept
without_call Sync taken kept shown = if taken then shown else kept

-- one call further, with these bytes in the place of a write's, and with a cut where cuts are kept. A write that begins
-- behind what is left is lost.
abbrev pub with_call : Bool → (List ℕ → List ℕ) → Change → Bool → List ℕ → List ℕ → List ℕ
with_call cuts put (Put bytes) taken kept shown = if taken then bytes.items else kept
with_call cuts put (Write offset bytes) taken kept shown = if nat_le offset (length kept) then written_over offset (put bytes.items) kept else kept
with_call cuts put (Cut size) taken kept shown = if cuts then take size kept else kept
with_call cuts put Sync taken kept shown = if taken then shown else kept

-- The byte a5 looks like an open gate. Garbage begins with it, or with 5a where the write has it there.
abbrev pub gate_beside : ℕ → ℕ
gate_beside byte = if byte == 165 then 90 else 165

-- Any other byte of garbage is the write's, grown by 1 and the variation modulo 254, and by one more where that gives
-- the byte with which garbage would begin.
abbrev pub grown_byte : ℕ → ℕ → ℕ
grown_byte variation byte = (byte + (1 + variation % 254)) % 256

abbrev pub garbage_byte : Bool → ℕ → ℕ → ℕ → ℕ
garbage_byte begins variation place byte =
    if begins && place == 0 then gate_beside byte else if grown_byte variation byte == gate_beside byte then (grown_byte variation byte + 1) % 256 else grown_byte variation byte

-- garbage in the place of the bytes of a write from this place on
abbrev pub garbage_from : Bool → ℕ → ℕ → List ℕ → List ℕ
garbage_from begins variation place [] = []
garbage_from begins variation place (byte ∷ rest) = garbage_byte begins variation place byte ∷ garbage_from begins variation (suc place) rest

-- the first half of a write, or so many bytes as the variation says where it isn't 0
abbrev pub front_size : ℕ → ℕ → ℕ
front_size variation size = if variation == 0 then size / 2 else min variation size

-- so many fifths of a write as the file's place among the settings, the output and the two slots
abbrev pub mixture_size : PartFile → ℕ → ℕ
mixture_size Settings size = size / 5
mixture_size (Part _) size = size / 5 * 2
mixture_size SlotA size = size / 5 * 3
mixture_size SlotB size = size / 5 * 4

-- the first bytes of a write, and garbage behind them
abbrev pub mixed_bytes : ℕ → ℕ → List ℕ → List ℕ
mixed_bytes variation front bytes = take front bytes ++ garbage_from false variation front (drop front bytes)

-- what is left in the range of a write
abbrev pub torn_bytes : Kind → ℕ → PartFile → List ℕ → List ℕ
torn_bytes Nothing variation file bytes = []
torn_bytes All variation file bytes = bytes
torn_bytes Front variation file bytes = take (front_size variation (length bytes)) bytes
torn_bytes Garbage variation file bytes = garbage_from true variation 0 bytes
torn_bytes Mixture variation file bytes = mixed_bytes variation (mixture_size file (length bytes)) bytes

abbrev pub keeps_cuts : Kind → Bool
keeps_cuts Nothing = false
keeps_cuts All = true
keeps_cuts Front = false
keeps_cuts Garbage = true
keeps_cuts Mixture = false

-- one call further, by a tear
abbrev pub with_torn : Tear → Change → Bool → List ℕ → List ℕ → List ℕ
with_torn tear = with_call (keeps_cuts tear.kind) (torn_bytes tear.kind tear.variation tear.file)

-- what is left of a file, from the calls on it
abbrev pub left_by : Tear → Log → List ℕ
left_by tear [] = []
left_by tear (entry ∷ before) = with_torn tear entry.change entry.taken (left_by tear before) (content before)

-- nothing of the writes and cuts that no sync followed
abbrev pub without_unsynced : Log → List ℕ
without_unsynced [] = []
without_unsynced (entry ∷ before) = without_call entry.change entry.taken (without_unsynced before) (content before)

-- all of them
abbrev pub with_unsynced : Log → List ℕ
with_unsynced [] = []
with_unsynced (entry ∷ before) = with_call true (λ bytes. bytes) entry.change entry.taken (with_unsynced before) (content before)

abbrev pub kind_of : ℕ → Kind
kind_of choice = if choice == 0 then Nothing else if choice == 1 then All else if choice == 2 then Front else if choice == 3 then Garbage else Mixture

-- what a crash leaves of the calls on one file, as a type that other crates name
abbrev pub FileTear : Type 0
FileTear = Tear

-- the value of a file's two bits
abbrev pub weight_of : PartFile → ℕ
weight_of Settings = 1
weight_of (Part _) = 4
weight_of SlotA = 16
weight_of SlotB = 64

-- The outcome modulo 5 picks a kind. Where that is 4 and the variation isn't 0, two bits of the variation less 1 pick one
-- for each file.
abbrev pub choice_of : ℕ → PartFile → ℕ
choice_of outcome file = if outcome % 5 == 4 && nat_lt 0 (outcome / 5) then (outcome / 5 - 1) / weight_of file % 4 else outcome % 5

abbrev pub tear_of : ℕ → PartFile → Tear
tear_of outcome file = record { kind = kind_of (choice_of outcome file); variation = outcome / 5; file = file }
