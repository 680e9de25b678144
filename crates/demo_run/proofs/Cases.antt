-- The cases of a round.
use Rattle.std.proofs.Common.{◌≡◌, ℕ, suc, ◌%◌, ◌==◌, List, [], ◌∷◌, Bool, true, false, Option, Some, None, refl}
use Rattle.std.specs.Prelude.{if◌then◌else◌, reverse}
use Rattle.std.proofs.lemmas.List.{reverse-append}
use Rattle.demo_run.specs.Moves.{Move, step, poll, stop, reopen}
use Rattle.demo_run.specs.Script.{Played, played, with_move, with_name, with_new_file, with_file, with_line, with_other_name, with_rotation, with_stop, line_of, log_of, rotated_name}
use Rattle.outside.specs.World.{append, rename}

-- ---- the steps of the round behind n rounds

abbrev pub filed : ℕ → Played
filed n = with_file (suc n) (played n)

abbrev pub lined : ℕ → Played
lined n = with_line (suc n) (filed n)

abbrev pub rotated : ℕ → Played
rotated n = with_rotation (suc n) (lined n)

abbrev pub stopped : ℕ → Played
stopped n = with_move reopen (with_move poll (with_move (stop (suc n % 13) (suc n % 5)) (rotated n)))

-- ---- the events so far, the newest first

abbrev pub latest : Played → List Move
latest played = reverse played.moves

pub latest_is : (move : Move) (played : Played) → latest (with_move move played) ≡ move ∷ latest played
latest_is move played = reverse-append played.moves (move ∷ [])

module _ (P : Played → Type 0) where
  at_file : (log : ℕ) (played : Played) (file : Option ℕ) → played.files log ≡ file → ((some : ℕ) → played.files log ≡ Some some → P played) → (played.files log ≡ None → P (with_new_file log played))
      → P (elim file [ Some some ↦ played | None ↦ with_new_file log played ])
  at_file log played (Some file) is has free = has file is
  at_file log played None is has free = free is

  pub by_file : (round : ℕ) (played : Played) → ((file : ℕ) → played.files (log_of round) ≡ Some file → P played) → (played.files (log_of round) ≡ None → P (with_new_file (log_of round) played)) → P (with_file round played)
  by_file round played has free = at_file (log_of round) played (played.files (log_of round)) refl has free

  at_line : (round : ℕ) (played : Played) (file : Option ℕ) → played.files (log_of round) ≡ file → ((some : ℕ) → played.files (log_of round) ≡ Some some → P (with_move (step (append some (line_of round))) played)) → (played.files (log_of round) ≡ None → P played)
      → P (elim file [ Some some ↦ with_move (step (append some (line_of round))) played | None ↦ played ])
  at_line round played (Some file) is has free = has file is
  at_line round played None is has free = free is

  pub by_line : (round : ℕ) (played : Played) → ((file : ℕ) → played.files (log_of round) ≡ Some file → P (with_move (step (append file (line_of round))) played)) → (played.files (log_of round) ≡ None → P played) → P (with_line round played)
  by_line round played has free = at_line round played (played.files (log_of round)) refl has free

  at_other_name : (round : ℕ) (played : Played) (file : Option ℕ) → played.files 0 ≡ file → ((some : ℕ) → played.files 0 ≡ Some some → P (with_name 0 None (with_move (step (rename some (rotated_name round))) played))) → P played
      → P (elim file [ Some some ↦ with_name 0 None (with_move (step (rename some (rotated_name round))) played) | None ↦ played ])
  at_other_name round played (Some file) is has same = has file is
  at_other_name round played None is has same = same

  pub by_rotation : (round : ℕ) (played : Played) → (round % 10 == 0 ≡ true → (file : ℕ) → played.files 0 ≡ Some file → P (with_name 0 None (with_move (step (rename file (rotated_name round))) played))) → P played → P (with_rotation round played)
  by_rotation round played has same =
      let Q : Bool → Type 0 = λ t. (round % 10 == 0) ≡ t → P (if t then with_other_name round played else played) in
      let all : Q (round % 10 == 0) = elim (round % 10 == 0) as Q [
        | true ↦ λ is. at_other_name round played (played.files 0) refl (has is) same
        | false ↦ λ is. same
      ] in
      all refl

  pub by_stop : (round : ℕ) (played : Played) → (round % 7 == 0 ≡ true → P (with_move reopen (with_move poll (with_move (stop (round % 13) (round % 5)) played)))) → (round % 7 == 0 ≡ false → P played) → P (with_stop round played)
  by_stop round played stops goes =
      let Q : Bool → Type 0 = λ t. (round % 7 == 0) ≡ t → P (if t then with_move reopen (with_move poll (with_move (stop (round % 13) (round % 5)) played)) else played) in
      let all : Q (round % 7 == 0) = elim (round % 7 == 0) as Q [ true ↦ stops | false ↦ goes ] in
      all refl
