-- An output has all lines of a file that was reached.
use Rattle.std.proofs.Common.{◌≡◌, ℕ, ◌-◌, List, take, drop, sym, subst, None}
use Rattle.outside.specs.World.{History, bytes}
use Rattle.standing.specs.Apart.{Apart}
use Rattle.standing.specs.Closed.{entries_in, all_made}
use Rattle.standing.specs.Eras.{Eras, AreEras, last_era}
use Rattle.standing.specs.Look.{Look, size}
use Rattle.standing.specs.Marks.{of_id, numbered, untimed}
use Rattle.standing.specs.Part.{first_point, last_point}
use Rattle.standing.specs.Reached.{Reached}
use Rattle.standing.specs.Rows.{Row}
use Rattle.standing.specs.Stands.{Stands}
use Rattle.standing.specs.Sums.{IsReached}
use Rattle.standing.specs.Tokens.{tokens_of}
use Rattle.standing.proofs.OwnerLemmas.{one_owner}
use Rattle.standing.proofs.TellLemmas.{reached_has_all}

pub output_has_all : (eras : Eras) → AreEras eras → (history : History) (rows : List Row) (next_id : ℕ) (output : List ℕ) (stands : Stands eras history rows next_id output) (here : Look) (reached : IsReached eras history rows here) → Apart eras.first.front_size history
    → let row = reached.row in
    let earlier = (stands.lines_stand.each_row reached.place row reached.at).earlier in
    let point = last_point (first_point row) row.ends in
    untimed (of_id row.id stands.marks) ≡ numbered row.id 1 None (entries_in (all_made eras row earlier (tokens_of (last_era eras) (take (size here - point.offset) (drop point.offset (bytes history here.file))))))
output_has_all eras laws history rows next_id output stands here reached apart =
    let row : Row = reached.row in
    let mine = stands.lines_stand.each_row reached.place row reached.at in
    let point = last_point (first_point row) row.ends in
    let same : here.file ≡ mine.file = one_owner eras history row here.file mine.file apart reached.owner mine.owner in
    let there : Reached (last_era eras) (bytes history mine.file) row (size here) = subst (λ file. Reached (last_era eras) (bytes history file) row (size here)) same reached.reached in
    subst (λ file. untimed (of_id row.id stands.marks) ≡ numbered row.id 1 None (entries_in (all_made eras row mine.earlier (tokens_of (last_era eras) (take (size here - point.offset) (drop point.offset (bytes history file))))))) (sym same)
    (reached_has_all eras laws history row (of_id row.id stands.marks) (size here) mine there)
