-- The worked histories of an adoption and of a flush.
use Rattle.std.proofs.Common.{◌≡◌, ℕ, zero, suc, ◌+◌, ◌≤◌, List, [], ◌∷◌, ◌++◌, true, false, length, IsTrue, None, Some, Option, refl, sym, ap, subst, ◌∙◌, inl, inr, arith}
use Rattle.std.specs.Prelude.{codes, IfSome}
use Rattle.std.proofs.lemmas.List.Elements.{All-nil, All-cons}
use Rattle.line_splitter.specs.Cuts.{cut, cuts_within, cuts}
use Rattle.line_splitter.specs.LineTokens.{line_end, first_cut}
use Rattle.idle_flush.specs.Rests.{rest_cut, without_line_end}
use Rattle.outside.specs.World.{append, look}
use Rattle.standing.specs.Adopted.{Adopts}
use Rattle.standing.specs.AreRules.{AreRules}
use Rattle.standing.specs.Eras.{AreEras, texts_of}
use Rattle.standing.specs.Example.{each_line, other_line, one_era, two_eras, line_text, begun, polled, first_stretch, first_looks, first_checkpoint, first_lines, adopted_row, adopted_checkpoint, grown, grown_looks, grown_stretch, grown_checkpoint, grown_lines, row_of, mark_of, flushing_poll, still_row, still_checkpoint, still_looks, still_stretch, flushed_checkpoint, flushed_lines}
use Rattle.standing.specs.Look.{outcome, row_after, lines_added, all_taken}
use Rattle.standing.specs.Marks.{Mark, of_id}
use Rattle.standing.specs.Pass.{Pass}
use Rattle.standing.specs.Poll.{poll_in}
use Rattle.standing.specs.Rows.{Row, no_checkpoint, IsRowAt, AreNumbered}
use Rattle.standing.specs.Rules.{Rules}
use Rattle.standing.specs.Stands.{RowStands, AreFrontsApart, IsIdOf, CheckpointStands}
use Rattle.standing.specs.Times.{IsNotBefore}
use Rattle.standing.proofs.ExampleLemmas.{each_line_is_rules}
use Rattle.standing.proofs.GlobLemmas.{app_log_included}
use Rattle.standing.proofs.MomentLemmas.{later_none, at_look}
use Rattle.standing.proofs.PolledLemmas.{first_named, not_first}

-- ---- an adoption

other_line_is_rules : AreRules other_line
other_line_is_rules = let rules = each_line_is_rules in record {
  tokens = record { each_uses = rules.tokens.each_uses; within = rules.tokens.within; lasting = rules.tokens.lasting; going_on = rules.tokens.going_on; resting = rules.tokens.resting };
  operators = record {
    fresh_is_state = rules.operators.fresh_is_state;
    state_goes_on = rules.operators.state_goes_on;
    none_made = rules.operators.none_made;
    made_in_parts = rules.operators.made_in_parts;
    state_stays = rules.operators.state_stays;
    state_in_parts = rules.operators.state_in_parts;
  };
  lines = record { not_empty = rules.lines.not_empty; tells_all = rules.lines.tells_all };
  front_size = rules.front_size;
}

pub two_are_eras : AreEras two_eras
two_are_eras =
    let P : Rules → Type 0 = λ rules. rules.line ≡ each_line.line in
    let Q : Rules → Type 0 = λ rules. rules.front_size ≡ each_line.front_size in
    record {
      each = All-cons AreRules each_line (other_line ∷ []) each_line_is_rules (All-cons AreRules other_line [] other_line_is_rules (All-nil AreRules));
      one_line = All-cons P each_line (other_line ∷ []) refl (All-cons P other_line [] refl (All-nil P));
      one_front_size = All-cons Q each_line (other_line ∷ []) refl (All-cons Q other_line [] refl (All-nil Q));
    }

pub is_adopted : Adopts one_era other_line first_checkpoint adopted_checkpoint []
is_adopted = record { texts = refl; rows = refl; next_id = refl; observed = refl; lines = refl; output_length = refl }

no_line : {A : Type 0} (x : A) → ◌≡◌ {A = List A} (x ∷ []) [] → ⊥
no_line x is = omega (arith, ap length is)

pub grown_poll : Pass (poll_in two_eras false None) grown_stretch grown_looks adopted_checkpoint grown_checkpoint grown_lines
unfolding outcome row_after lines_added all_taken cuts cuts_within first_cut line_end line_text
grown_poll = record {
  misses = [];
  unlisteds = [];
  calls = record { all_looks = refl; all_misses = refl; all_unlisteds = refl; counted = λ below. omega arith };
  come = (later_none grown, record { looks = record { later = []; split = refl }; under = refl; included = app_log_included; end_within = omega arith });
  ascend = (All-nil _, tt);
  leaves_none_out = λ path file included reachable named. inl (first_named path file (named (look 1 ∷ grown) (at_look 1 grown) (later_none (look 1 ∷ grown))));
  read_on = (tt, (λ near. omega arith));
  leads_to = record { eras = refl; rows = refl; next_id = refl; lines = refl; output_length = refl; observed = record { later = tt; is = inr ((λ quiet. no_line (mark_of 1 2 (codes "two")) quiet.2), refl) } };
}

abbrev whole_row : Row
whole_row = record (row_of 1 (codes "one\ntwo\n") 8 2) { ends = adopted_row.ends }

abbrev both_lines : List Mark
both_lines = first_lines ++ grown_lines

-- beside a line without a time
abbrev IsAnyTime : Mark → Type 0
IsAnyTime mark = IsNotBefore None mark.observed

row_stands : RowStands two_eras (look 1 ∷ grown) whole_row (of_id 1 both_lines)
unfolding cuts cuts_within first_cut line_end
row_stands = record {
  file = 1;
  owner = record {
    seen_at = grown;
    seen = record { later = []; split = refl };
    saw = refl;
    not_empty = omega arith;
    named_at = begun;
    named = record { later = look 1 ∷ append 1 (codes "o\n") ∷ []; split = refl };
    under = refl;
    rules = each_line;
    admitted = refl;
    included = app_log_included;
  };
  begins = inl refl;
  earlier = _;
  closed = (
    record {
      rules = each_line;
      there = refl;
      begins = omega arith;
      within = omega arith;
      tokens = codes "one" ∷ [];
      bound = record { taken = cut (codes "one") 4 ∷ []; behind = cut (codes "two") 4 ∷ []; split = refl; uses = refl; are = refl };
      records = refl;
      lines = refl;
    },
    [],
    refl,
    refl,
  );
  parts = refl;
  tokens = codes "two" ∷ [];
  taken = record {
    begins = omega arith;
    within = omega arith;
    bound = record { taken = cut (codes "two") 4 ∷ []; behind = []; split = refl; uses = refl; are = refl };
    records = refl;
    lines = refl;
    state = refl;
  };
  all_lines = refl;
  times = record { have = (refl, (refl, tt)); never_fall = (All-cons IsAnyTime (mark_of 1 2 (codes "two")) [] tt (All-nil IsAnyTime), (All-nil IsAnyTime, tt)) };
}

only_row : (row : Row) → ◌≡◌ {A = Option Row} (Some whole_row) (Some row) → whole_row ≡ row
only_row row is = cc

no_row : (row : Row) → ◌≡◌ {A = Option Row} None (Some row) → ⊥
no_row row is = cc

ids : (place : ℕ) (row : Row) → IsRowAt grown_checkpoint.rows place row → row.id ≡ place + 1
ids zero row at = ap (λ (r : Row). r.id) (sym (only_row row at))
ids (suc k) row at = absurd (no_row row at)

rows_stand : (place : ℕ) (row : Row) → IsRowAt grown_checkpoint.rows place row → RowStands two_eras (look 1 ∷ grown) row (of_id row.id both_lines)
rows_stand zero row at = subst (λ (r : Row). RowStands two_eras (look 1 ∷ grown) r (of_id r.id both_lines)) (only_row row at) row_stands
rows_stand (suc k) row at = absurd (no_row row at)

fronts : AreFrontsApart grown_checkpoint.rows
fronts zero zero row other at other_at differs prefix = differs refl
fronts zero (suc k) row other at other_at differs prefix = no_row other other_at
fronts (suc k) j row other at other_at differs prefix = no_row row at

abbrev HasRow : Mark → Type 0
HasRow mark = IsIdOf grown_checkpoint.rows mark.id

abbrev HasNone : Mark → Type 0
HasNone mark = IfSome mark.observed (λ t. t ≤ 0)

abbrev HasState : Row → Type 0
HasState row = IsTrue (other_line.is_state row.state)

pub grown_stands : CheckpointStands two_eras (look 1 ∷ grown) grown_checkpoint (codes "1 1 one\n1 2 two\n")
unfolding line_text
grown_stands =
    let numbered_rows : AreNumbered grown_checkpoint.rows 2 = record { ids = ids; next = refl } in
    record {
      sound = record { texts = refl; states = All-cons HasState whole_row [] refl (All-nil HasState); ids = numbered_rows; long_enough = omega arith };
      stands = record {
        marks = both_lines;
        whole_lines = refl;
        lines_stand = record {
          ids = numbered_rows;
          each_row = rows_stand;
          fronts_apart = fronts;
          no_other_line =
              All-cons HasRow (mark_of 1 1 (codes "one")) grown_lines (0, whole_row, refl, refl)
              (All-cons HasRow (mark_of 1 2 (codes "two")) [] (0, whole_row, refl, refl) (All-nil HasRow));
        };
      };
      times = All-cons HasNone (mark_of 1 1 (codes "one")) grown_lines tt (All-cons HasNone (mark_of 1 2 (codes "two")) [] tt (All-nil HasNone));
    }

-- ---- a flush

pub still_first : Pass (flushing_poll true) first_stretch first_looks (no_checkpoint (texts_of one_era)) (still_checkpoint 0) first_lines
unfolding outcome row_after lines_added all_taken cuts cuts_within first_cut line_end line_text
still_first = record {
  misses = [];
  unlisteds = [];
  calls = record { all_looks = refl; all_misses = refl; all_unlisteds = refl; counted = λ below. omega arith };
  come = (later_none begun, record { looks = record { later = []; split = refl }; under = refl; included = app_log_included; end_within = omega arith });
  ascend = (All-nil _, tt);
  leaves_none_out = λ path file included reachable named. inl (first_named path file (named polled (at_look 1 begun) (later_none polled)));
  read_on = (tt, (λ near. omega arith));
  leads_to = record { eras = refl; rows = refl; next_id = refl; lines = refl; output_length = refl; observed = record { later = tt; is = inr ((λ quiet. not_first quiet.0), refl) } };
}

other_looks : (one other : ℕ) (a b : Row) → a.quiet ≡ one → b.quiet ≡ other → (one ≡ other → ⊥) → ◌≡◌ {A = List Row} (b ∷ []) (a ∷ []) → ⊥
other_looks one other a b one_is other_is differs is =
    let same : b ≡ a = cc in
    differs (sym one_is ∙ ap (λ (r : Row). r.quiet) (sym same) ∙ other_is)

pub still_second : Pass (flushing_poll false) still_stretch still_looks (still_checkpoint 0) (still_checkpoint 1) []
unfolding outcome row_after lines_added all_taken cuts cuts_within first_cut line_end line_text
still_second = record {
  misses = [];
  unlisteds = [];
  calls = record { all_looks = refl; all_misses = refl; all_unlisteds = refl; counted = λ below. omega arith };
  come = (later_none polled, record { looks = record { later = []; split = refl }; under = refl; included = app_log_included; end_within = omega arith });
  ascend = (All-nil _, tt);
  leaves_none_out = λ path file included reachable named. inl (first_named path file (named (look 1 ∷ polled) (at_look 1 polled) (later_none (look 1 ∷ polled))));
  read_on = (tt, (λ near. omega arith));
  leads_to = record {
    eras = refl;
    rows = refl;
    next_id = refl;
    lines = refl;
    output_length = refl;
    observed = record { later = tt; is = inr ((λ quiet. other_looks 0 1 (still_row 0) (still_row 1) refl refl (λ e. omega (arith, e)) quiet.1), refl) };
  };
}

pub still_third : Pass (flushing_poll false) still_stretch still_looks (still_checkpoint 1) flushed_checkpoint flushed_lines
unfolding outcome row_after lines_added all_taken cuts cuts_within first_cut line_end rest_cut without_line_end line_text
still_third = record {
  misses = [];
  unlisteds = [];
  calls = record { all_looks = refl; all_misses = refl; all_unlisteds = refl; counted = λ below. omega arith };
  come = (later_none polled, record { looks = record { later = []; split = refl }; under = refl; included = app_log_included; end_within = omega arith });
  ascend = (All-nil _, tt);
  leaves_none_out = λ path file included reachable named. inl (first_named path file (named (look 1 ∷ polled) (at_look 1 polled) (later_none (look 1 ∷ polled))));
  read_on = (tt, (λ near. omega arith));
  leads_to = record { eras = refl; rows = refl; next_id = refl; lines = refl; output_length = refl; observed = record { later = tt; is = inr ((λ quiet. no_line (mark_of 1 2 (codes "tw")) quiet.2), refl) } };
}
