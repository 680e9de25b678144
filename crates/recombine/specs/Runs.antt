-- Whole runs: what becomes of the open groups, and what is sent on, over a list of entries.
use Rattle.std.specs.Prelude.{List, [], ◌∷◌, ◌++◌, fold, Result, Ok, Err}
use Rattle.entry_model.specs.LogRecord.{LogRecord}
use Rattle.recombine.specs.Group.{Group}
use Rattle.recombine.specs.Item.{Item}
use Rattle.recombine.specs.Joining.{Joining}
use Rattle.recombine.specs.Positions.{Fate, fate_of, sent_at}
use Rattle.recombine.specs.Recombined.{Arrival, Refusal, Made, taken, recombined}
use Rattle.recombine.specs.Steps.{after, ended}

-- ---- entries that are joined

-- the open groups behind some entries
abbrev pub groups_after : Joining → List Group → List Item → List Group
groups_after joining groups items = fold (after joining) groups items

-- the groups that they end, in order
abbrev pub ended_over : Joining → List Group → List Item → List Group
ended_over joining groups [] = []
ended_over joining groups (x ∷ items) = ended joining groups x ++ ended_over joining (after joining groups x) items

-- what is sent on at their positions, behind others
abbrev pub sent_along : Joining → List Fate → List Item → List Group
sent_along joining past [] = []
sent_along joining past (x ∷ items) = sent_at joining past x ++ sent_along joining (past ++ fate_of joining past x ∷ []) items

-- ---- entries that come, of which some are not taken

abbrev pub if_taken : Result Item Refusal → List Item → List Item
if_taken (Ok x) items = x ∷ items
if_taken (Err refusal) items = items

-- those that are taken
abbrev pub items_of : Joining → List Arrival → List Item
items_of joining [] = []
items_of joining (arrival ∷ arrivals) = if_taken (taken joining arrival) (items_of joining arrivals)

-- one that isn't leaves the groups, and sends nothing on here
abbrev pub groups_made : List Group → Result Made Refusal → List Group
groups_made groups (Ok made) = made.groups
groups_made groups (Err refusal) = groups

abbrev pub sent_made : Result Made Refusal → List LogRecord
sent_made (Ok made) = made.sent
sent_made (Err refusal) = []

abbrev pub groups_behind : Joining → List Group → List Arrival → List Group
groups_behind joining groups [] = groups
groups_behind joining groups (arrival ∷ arrivals) = groups_behind joining (groups_made groups (recombined joining groups arrival)) arrivals

abbrev pub sent_behind : Joining → List Group → List Arrival → List LogRecord
sent_behind joining groups [] = []
sent_behind joining groups (arrival ∷ arrivals) =
    sent_made (recombined joining groups arrival) ++ sent_behind joining (groups_made groups (recombined joining groups arrival)) arrivals
