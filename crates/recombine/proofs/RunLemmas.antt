-- Whole runs.
use Rattle.std.proofs.Common.{◌≡◌, ℕ, ◌+◌, List, [], ◌∷◌, ◌++◌, length, drop, refl, sym, ap, ◌∙◌, append_assoc}
use Rattle.std.specs.Prelude.{Result, Ok, Err}
use Rattle.std.proofs.lemmas.List.{map-append}
use Rattle.std.proofs.lemmas.List.Sums.{fold-append}
use Rattle.entry_model.specs.LogRecord.{LogRecord}
use Rattle.state_codec.specs.declared.CodecFault.{CodecFault}
use Rattle.state_codec.specs.declared.CodecFault.TheVariants.{Malformed, Memory}
use Rattle.recombine.specs.Group.{Group}
use Rattle.recombine.specs.Item.{Item}
use Rattle.recombine.specs.Joining.{Joining}
use Rattle.recombine.specs.Positions.{Fate, fate_of, alive, groups_of, sent_at}
use Rattle.recombine.specs.Recombined.{Arrival, Refusal, taken, with_taken, entry_of, entries_of}
use Rattle.recombine.specs.Restores.{Restores, Answers}
use Rattle.recombine.specs.Rules.{AreSpellable}
use Rattle.recombine.specs.Runs.{groups_after, ended_over, sent_along, if_taken, items_of, groups_made, sent_made, groups_behind, sent_behind}
use Rattle.recombine.specs.Spelling.{groups_spelling}
use Rattle.recombine.specs.Steps.{after, ended}
use Rattle.recombine.proofs.MeaningLemmas.{after_is, sent_is, none_open}
use Rattle.recombine.proofs.SpellingLemmas.{groups_told}

ended_along : (j : Joining) (past : List Fate) (items : List Item) → ended_over j (groups_of j (alive past)) items ≡ sent_along j past items
ended_along j past [] = refl
ended_along j past (x ∷ items) =
    ap (λ (gs : List Group). gs ++ ended_over j (after j (groups_of j (alive past)) x) items) (sent_is j past x)
    ∙ ap (λ (gs : List Group). sent_at j past x ++ ended_over j gs items) (after_is j past x)
    ∙ ap (λ (gs : List Group). sent_at j past x ++ gs) (ended_along j (past ++ fate_of j past x ∷ []) items)

pub ended_from_none : (j : Joining) (items : List Item) → ended_over j [] items ≡ sent_along j [] items
ended_from_none j items = ap (λ (gs : List Group). ended_over j gs items) (none_open j) ∙ ended_along j [] items

pub after_append : (j : Joining) (groups : List Group) (front back : List Item) → groups_after j groups (front ++ back) ≡ groups_after j (groups_after j groups front) back
after_append j groups front back = fold-append (after j) groups front back

pub ended_append : (j : Joining) (groups : List Group) (front back : List Item) → ended_over j groups (front ++ back) ≡ ended_over j groups front ++ ended_over j (groups_after j groups front) back
ended_append j groups [] back = refl
ended_append j groups (x ∷ front) back =
    ap (λ (gs : List Group). ended j groups x ++ gs) (ended_append j (after j groups x) front back)
    ∙ sym (append_assoc (ended j groups x) (ended_over j (after j groups x) front) (ended_over j (groups_after j (after j groups x) front) back))

pub taken_groups : (j : Joining) (groups : List Group) (arrivals : List Arrival) → groups_behind j groups arrivals ≡ groups_after j groups (items_of j arrivals)
taken_groups j groups [] = refl
taken_groups j groups (a ∷ arrivals) = by_case (λ gs. taken_groups j gs arrivals) (taken j a)
  where
    by_case : ((gs : List Group) → groups_behind j gs arrivals ≡ groups_after j gs (items_of j arrivals)) → (t : Result Item Refusal)
        → groups_behind j (groups_made groups (with_taken j groups t)) arrivals ≡ groups_after j groups (if_taken t (items_of j arrivals))
    by_case more (Ok x) = more (after j groups x)
    by_case more (Err refusal) = more groups

pub taken_sent : (j : Joining) (groups : List Group) (arrivals : List Arrival) → sent_behind j groups arrivals ≡ entries_of j (ended_over j groups (items_of j arrivals))
taken_sent j groups [] = refl
taken_sent j groups (a ∷ arrivals) = by_case (λ gs. taken_sent j gs arrivals) (taken j a)
  where
    by_case : ((gs : List Group) → sent_behind j gs arrivals ≡ entries_of j (ended_over j gs (items_of j arrivals))) → (t : Result Item Refusal)
        → sent_made (with_taken j groups t) ++ sent_behind j (groups_made groups (with_taken j groups t)) arrivals ≡ entries_of j (ended_over j groups (if_taken t (items_of j arrivals)))
    by_case more (Ok x) =
        ap (λ (l : List LogRecord). entries_of j (ended j groups x) ++ l) (more (after j groups x)) ∙ sym (map-append (entry_of j) (ended j groups x) (ended_over j (after j groups x) (items_of j arrivals)))
    by_case more (Err refusal) = more groups

pub restored : (groups : List Group) (bytes rest : List ℕ) (at : ℕ) (answer : Result (List Group × ℕ) CodecFault) → AreSpellable groups → drop at bytes ≡ groups_spelling groups ++ rest → Restores bytes at answer
    → Answers groups (at + length (groups_spelling groups)) answer
restored groups bytes rest at (Ok x) keeps spelled r =
    let same = groups_told x.0 groups (drop x.1 bytes) rest r.lawful keeps (sym r.spelled ∙ spelled) in
    (same.0, r.next_is ∙ ap (λ (gs : List Group). at + length (groups_spelling gs)) same.0)
restored groups bytes rest at (Err (Malformed fault)) keeps spelled r = r.none groups rest keeps spelled
restored groups bytes rest at (Err Memory) keeps spelled r = tt
