-- The worked history stands.
use Rattle.std.proofs.Common.{◌≡◌, ℕ, zero, suc, ◌+◌, ◌≤◌, List, [], ◌∷◌, ◌++◌, get_or, IsTrue, refl, sym, ap, subst, inl, arith}
use Rattle.std.specs.Prelude.{None, Some, IfSome, codes}
use Rattle.std.proofs.lemmas.List.Elements.{All-nil, All-cons}
use Rattle.line_splitter.specs.Cuts.{cut, cuts_within, cuts}
use Rattle.line_splitter.specs.LineTokens.{line_end, first_cut}
use Rattle.outside.specs.World.{create, append, rename, look}
use Rattle.standing.proofs.GlobLemmas.{app_log_included}
use Rattle.standing.specs.Example.{each_line, one_era, line_text, begun, rotated, polled_again, row_of, second_checkpoint, first_lines, second_lines, mark_of}
use Rattle.standing.specs.Marks.{Mark, of_id}
use Rattle.standing.specs.Prefixes.{IsPrefix}
use Rattle.standing.specs.Rows.{Row, IsRowAt, AreNumbered}
use Rattle.standing.specs.Times.{IsNotBefore}
use Rattle.standing.specs.Stands.{RowStands, AreFrontsApart, IsIdOf, CheckpointStands}

abbrev renamed : Row
renamed = row_of 1 (codes "one\ntwo\n") 8 2

abbrev newer : Row
newer = row_of 2 (codes "three\n") 6 1

abbrev all_lines : List Mark
all_lines = first_lines ++ second_lines

-- beside a line without a time
abbrev IsAnyTime : Mark → Type 0
IsAnyTime mark = IsNotBefore None mark.observed

renamed_stands : RowStands one_era polled_again renamed (of_id 1 all_lines)
unfolding cuts cuts_within first_cut line_end
renamed_stands = record {
  file = 1;
  owner = record {
    seen_at = look 2 ∷ rotated;
    seen = record { later = []; split = refl };
    saw = refl;
    not_empty = omega arith;
    named_at = begun;
    named = record { later = look 1 ∷ look 2 ∷ append 2 (codes "three\n") ∷ create 2 (codes "app.log") ∷ append 1 (codes "o\n") ∷ rename 1 (codes "app.log.1") ∷ []; split = refl };
    under = refl;
    rules = each_line;
    admitted = refl;
    included = app_log_included;
  };
  begins = inl refl;
  earlier = [];
  closed = refl;
  parts = refl;
  tokens = codes "one" ∷ codes "two" ∷ [];
  taken = record {
    begins = omega arith;
    within = omega arith;
    bound = record { taken = cut (codes "one") 4 ∷ cut (codes "two") 4 ∷ []; behind = []; split = refl; uses = refl; are = refl };
    records = refl;
    lines = refl;
    state = refl;
  };
  all_lines = refl;
  times = record { have = (refl, (refl, tt)); never_fall = (All-cons IsAnyTime (mark_of 1 2 (codes "two")) [] tt (All-nil IsAnyTime), (All-nil IsAnyTime, tt)) };
}

newer_stands : RowStands one_era polled_again newer (of_id 2 all_lines)
unfolding cuts cuts_within first_cut line_end
newer_stands = record {
  file = 2;
  owner = record {
    seen_at = rotated;
    seen = record { later = look 1 ∷ []; split = refl };
    saw = refl;
    not_empty = omega arith;
    named_at = rotated;
    named = record { later = look 1 ∷ []; split = refl };
    under = refl;
    rules = each_line;
    admitted = refl;
    included = app_log_included;
  };
  begins = inl refl;
  earlier = [];
  closed = refl;
  parts = refl;
  tokens = codes "three" ∷ [];
  taken = record {
    begins = omega arith;
    within = omega arith;
    bound = record { taken = cut (codes "three") 6 ∷ []; behind = []; split = refl; uses = refl; are = refl };
    records = refl;
    lines = refl;
    state = refl;
  };
  all_lines = refl;
  times = record { have = (refl, tt); never_fall = (All-nil IsAnyTime, tt) };
}

first_row : (row : Row) → Some renamed ≡ Some row → renamed ≡ row
first_row row is = cc

second_row : (row : Row) → Some newer ≡ Some row → newer ≡ row
second_row row is = cc

no_row : (row : Row) → None ≡ Some row → ⊥
no_row row is = cc

ids : (place : ℕ) (row : Row) → IsRowAt second_checkpoint.rows place row → row.id ≡ place + 1
ids zero row at = ap (λ (r : Row). r.id) (sym (first_row row at))
ids (suc zero) row at = ap (λ (r : Row). r.id) (sym (second_row row at))
ids (suc (suc k)) row at = absurd (no_row row at)

rows_stand : (place : ℕ) (row : Row) → IsRowAt second_checkpoint.rows place row → RowStands one_era polled_again row (of_id row.id all_lines)
rows_stand zero row at = subst (λ (r : Row). RowStands one_era polled_again r (of_id r.id all_lines)) (first_row row at) renamed_stands
rows_stand (suc zero) row at = subst (λ (r : Row). RowStands one_era polled_again r (of_id r.id all_lines)) (second_row row at) newer_stands
rows_stand (suc (suc k)) row at = absurd (no_row row at)

not_first : IsPrefix renamed.front newer.front → ⊥
not_first is = let heads : 116 ≡ 111 = ap (λ (b : List ℕ). get_or b 0 0) is in omega (arith, heads)

not_second : IsPrefix newer.front renamed.front → ⊥
not_second is = let heads : 111 ≡ 116 = ap (λ (b : List ℕ). get_or b 0 0) is in omega (arith, heads)

fronts : AreFrontsApart second_checkpoint.rows
fronts zero zero row other at other_at differs prefix = differs refl
fronts zero (suc zero) row other at other_at differs prefix =
    not_first (subst (λ (r : Row). IsPrefix r.front newer.front) (sym (first_row row at)) (subst (λ (r : Row). IsPrefix row.front r.front) (sym (second_row other other_at)) prefix))
fronts (suc zero) zero row other at other_at differs prefix =
    not_second (subst (λ (r : Row). IsPrefix r.front renamed.front) (sym (second_row row at)) (subst (λ (r : Row). IsPrefix row.front r.front) (sym (first_row other other_at)) prefix))
fronts (suc zero) (suc zero) row other at other_at differs prefix = differs refl
fronts zero (suc (suc k)) row other at other_at differs prefix = no_row other other_at
fronts (suc zero) (suc (suc k)) row other at other_at differs prefix = no_row other other_at
fronts (suc (suc k)) j row other at other_at differs prefix = no_row row at

abbrev HasRow : Mark → Type 0
HasRow mark = IsIdOf second_checkpoint.rows mark.id

abbrev HasNone : Mark → Type 0
HasNone mark = IfSome mark.observed (λ t. t ≤ 0)

abbrev HasState : Row → Type 0
HasState row = IsTrue (each_line.is_state row.state)

pub second_stands : CheckpointStands one_era polled_again second_checkpoint (codes "1 1 one\n2 1 three\n1 2 two\n")
unfolding line_text
second_stands =
    let numbered_rows : AreNumbered second_checkpoint.rows 3 = record { ids = ids; next = refl } in
    record {
      sound = record {
        texts = refl;
        states = All-cons HasState renamed (newer ∷ []) refl (All-cons HasState newer [] refl (All-nil HasState));
        ids = numbered_rows;
        long_enough = omega arith;
      };
      stands = record {
        marks = all_lines;
        whole_lines = refl;
        lines_stand = record {
          ids = numbered_rows;
          each_row = rows_stand;
          fronts_apart = fronts;
          no_other_line =
              All-cons HasRow (mark_of 1 1 (codes "one")) second_lines (0, renamed, refl, refl)
              (All-cons HasRow (mark_of 2 1 (codes "three")) (mark_of 1 2 (codes "two") ∷ []) (1, newer, refl, refl)
              (All-cons HasRow (mark_of 1 2 (codes "two")) [] (0, renamed, refl, refl) (All-nil HasRow)));
        };
      };
      times = All-cons HasNone (mark_of 1 1 (codes "one")) second_lines tt (All-cons HasNone (mark_of 2 1 (codes "three")) (mark_of 1 2 (codes "two") ∷ []) tt (All-cons HasNone (mark_of 1 2 (codes "two")) [] tt (All-nil HasNone)));
    }
