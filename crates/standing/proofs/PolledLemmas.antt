-- The two polls of the worked history.
use Rattle.std.proofs.Common.{◌≡◌, ℕ, List, [], ◌∷◌, Bool, true, false, cond, IsTrue, length, refl, sym, ap, inl, inr, arith}
use Rattle.std.specs.Cmp.Lexicographic.{slice_cmp, same_text}
use Rattle.std.specs.Ordering.{nat_cmp, is_lt}
use Rattle.std.specs.Prelude.{Option, None, Some, codes, option_map}
use Rattle.std.specs.Str.{bytes_eq}
use Rattle.std.proofs.lemmas.List.Elements.{All-nil, All-cons}
use Rattle.line_splitter.specs.Cuts.{cuts_within, cuts}
use Rattle.line_splitter.specs.LineTokens.{line_end, first_cut}
use Rattle.outside.specs.World.{look, names, file_at}
use Rattle.standing.proofs.GlobLemmas.{app_log_included, renamed_included}
use Rattle.standing.specs.Example.{poll_of, each_line, line_text, begun, polled, rotated, polled_again, first_stretch, second_stretch, first_looks, second_looks, first_checkpoint, second_checkpoint, first_lines, second_lines, look_at}
use Rattle.standing.specs.Look.{Look, outcome, row_after, lines_added, all_taken}
use Rattle.standing.specs.Pass.{Pass, WasLookedAt}
use Rattle.standing.specs.Rows.{no_checkpoint}
use Rattle.standing.proofs.MomentLemmas.{later_none, at_look, later_then}

-- a path that names some file here is that of a look
pub first_named : (path : List ℕ) (file : ℕ) → file_at (names polled) path ≡ Some file → WasLookedAt first_looks path
first_named path file =
    let P : Bool → Type 0 = λ t. bytes_eq (codes "app.log") path ≡ t → option_map (λ (name : List ℕ × ℕ). name.1) (cond t (Some (codes "app.log", 1)) None) ≡ Some file → WasLookedAt first_looks path in
    let all : P (bytes_eq (codes "app.log") path) = elim (bytes_eq (codes "app.log") path) as P [
      | true ↦ λ is named. (0, omega arith, same_text (codes "app.log") path (sym is))
      | false ↦ λ is named. absurd (let never : ◌≡◌ {A = Option ℕ} None (Some file) = named in cc)
    ] in
    all refl

second_named : (path : List ℕ) (file : ℕ) → file_at (names polled_again) path ≡ Some file → WasLookedAt second_looks path
second_named path file =
    let Q : Bool → Type 0 = λ t. bytes_eq (codes "app.log.1") path ≡ t → option_map (λ (name : List ℕ × ℕ). name.1) (cond t (Some (codes "app.log.1", 1)) None) ≡ Some file → WasLookedAt second_looks path in
    let rest : Q (bytes_eq (codes "app.log.1") path) = elim (bytes_eq (codes "app.log.1") path) as Q [
      | true ↦ λ is named. (0, omega arith, same_text (codes "app.log.1") path (sym is))
      | false ↦ λ is named. absurd (let never : ◌≡◌ {A = Option ℕ} None (Some file) = named in cc)
    ] in
    let P : Bool → Type 0 = λ t. bytes_eq (codes "app.log") path ≡ t → option_map (λ (name : List ℕ × ℕ). name.1) (cond t (Some (codes "app.log", 2)) (cond (bytes_eq (codes "app.log.1") path) (Some (codes "app.log.1", 1)) None)) ≡ Some file → WasLookedAt second_looks path in
    let all : P (bytes_eq (codes "app.log") path) = elim (bytes_eq (codes "app.log") path) as P [
      | true ↦ λ is named. (1, omega arith, same_text (codes "app.log") path (sym is))
      | false ↦ λ is named. rest refl named
    ] in
    all refl

abbrev Below : Look → Look → Type 0
Below here before = IsTrue (is_lt (slice_cmp nat_cmp before.path here.path))

pub not_first : ◌≡◌ {A = Bool} true false → ⊥
not_first is = cc is

not_empty : second_lines ≡ [] → ⊥
not_empty is = omega (arith, ap length is)

pub first_poll : Pass (poll_of true) first_stretch first_looks (no_checkpoint (each_line.settings ∷ [])) first_checkpoint first_lines
unfolding outcome row_after lines_added all_taken cuts cuts_within first_cut line_end line_text
first_poll = record {
  misses = [];
  unlisteds = [];
  calls = record { all_looks = refl; all_misses = refl; all_unlisteds = refl; counted = λ below. omega arith };
  come = (later_none begun, record { looks = record { later = []; split = refl }; under = refl; included = app_log_included; end_within = omega arith });
  ascend = (All-nil (Below (look_at (codes "app.log") 1 begun 6)), tt);
  leaves_none_out = λ path file included reachable named. inl (first_named path file (named polled (at_look 1 begun) (later_none polled)));
  read_on = (tt, (λ near. omega arith));
  leads_to = record { eras = refl; rows = refl; next_id = refl; lines = refl; output_length = refl; observed = record { later = tt; is = inr ((λ quiet. not_first quiet.0), refl) } };
}

pub second_poll : Pass (poll_of false) second_stretch second_looks first_checkpoint second_checkpoint second_lines
unfolding outcome row_after lines_added all_taken cuts cuts_within first_cut line_end line_text
second_poll = record {
  misses = [];
  unlisteds = [];
  calls = record { all_looks = refl; all_misses = refl; all_unlisteds = refl; counted = λ below. omega arith };
  come = (
    (later_none rotated, record { looks = record { later = []; split = refl }; under = refl; included = app_log_included; end_within = omega arith }),
    record { looks = record { later = []; split = refl }; under = refl; included = renamed_included; end_within = omega arith },
  );
  ascend = (
    All-cons (Below (look_at (codes "app.log.1") 1 (look 2 ∷ rotated) 8)) (look_at (codes "app.log") 2 rotated 6) [] refl (All-nil (Below (look_at (codes "app.log.1") 1 (look 2 ∷ rotated) 8))),
    (All-nil (Below (look_at (codes "app.log") 2 rotated 6)), tt),
  );
  leaves_none_out = λ path file included reachable named.
      inl (second_named path file (named polled_again (later_then rotated (look 2 ∷ rotated) polled_again (at_look 2 rotated) (at_look 1 (look 2 ∷ rotated))) (later_none polled_again)));
  read_on = ((tt, (λ near. omega arith)), (λ near. omega arith));
  leads_to = record { eras = refl; rows = refl; next_id = refl; lines = refl; output_length = refl; observed = record { later = tt; is = inr ((λ quiet. not_empty quiet.2), refl) } };
}
