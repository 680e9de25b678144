-- A script of rounds plans no step.
use Rattle.std.proofs.Common.{ℕ, zero, suc, ◌%◌, ◌∷◌, sym, subst}
use Rattle.demo_run.specs.Moves.{Move, step, poll, stop, reopen}
use Rattle.demo_run.specs.Script.{Played, played, with_move, line_of, log_name, log_of, rotated_name}
use Rattle.demo_run.proofs.Cases.{latest, latest_is, by_file, by_line, by_rotation, by_stop, filed, lined, rotated, stopped}
use Rattle.demo_run.proofs.Courses.{NonePlanned}
use Rattle.outside.specs.World.{append, create, rename}

abbrev PlansNone : Played → Type 0
PlansNone so_far = NonePlanned (latest so_far)

none_planned_with : (move : Move) (so_far : Played) → NonePlanned (move ∷ latest so_far) → PlansNone (with_move move so_far)
none_planned_with move so_far none = subst NonePlanned (sym (latest_is move so_far)) none

pub none_planned : (n : ℕ) → PlansNone (played n)
none_planned zero = tt
none_planned (suc n) =
    let before : PlansNone (played n) = none_planned n in
    let file : PlansNone (filed n) = by_file PlansNone (suc n) (played n) (λ some is. before) (λ free. none_planned_with (step (create (played n).next_file (log_name (log_of (suc n))))) (played n) before) in
    let line : PlansNone (lined n) = by_line PlansNone (suc n) (filed n) (λ some is. none_planned_with (step (append some (line_of (suc n)))) (filed n) file) (λ free. file) in
    let turned : PlansNone (rotated n) = by_rotation PlansNone (suc n) (lined n) (λ due some is. none_planned_with (step (rename some (rotated_name (suc n)))) (lined n) line) line in
    by_stop (λ (p : Played). PlansNone (with_move poll p)) (suc n) (rotated n)
    (λ due. none_planned_with poll (stopped n) (none_planned_with reopen (with_move poll (with_move (stop (suc n % 13) (suc n % 5)) (rotated n)))
    (none_planned_with poll (with_move (stop (suc n % 13) (suc n % 5)) (rotated n)) (none_planned_with (stop (suc n % 13) (suc n % 5)) (rotated n) turned))))
    (λ not_due. none_planned_with poll (rotated n) turned)
