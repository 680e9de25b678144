-- What joining an entry did.
use Rattle.std.proofs.Common.{◌≡◌, ℕ, List, [], ◌++◌, Result, Ok, Err, IfOk, refl, sym, ap, subst, ◌∙◌}
use Rattle.std.specs.Prelude.{option_map}
use Rattle.entry_model.specs.LogRecord.{LogRecord, log_record}
use Rattle.entry_model.specs.declared.entry.Entry.{Entry}
use Rattle.op_kinds.specs.Inner.Applied.{IsApplied, effect}
use Rattle.op_kinds.specs.Grouping.{joined_in, if_taken}
use Rattle.op_kinds.specs.Kept.{Kept, nothing, groups, open_groups, keeps_groups, fresh_kept}
use Rattle.op_kinds.specs.Kept as holding
use Rattle.op_kinds.specs.Operator.{with_groups, on_one_port}
use Rattle.op_kinds.specs.declared.action.Applied.TheVariants.{Done, Faulty}
use Rattle.recombine.specs.Group.{Group}
use Rattle.recombine.specs.Joining.{Joining}
use Rattle.recombine.specs.Recombined.{Arrival, Made, Refusal, not_text, too_deep, recombined}
use Rattle.recombine.specs.Stepped.{Effect, IsStepped}
use Rattle.recombine.specs.declared.fault.StepFault.TheVariants.{NotText, TooDeep}

-- what a step made of these groups, which sent on nothing before
abbrev pub stepped : List Group → List Group → List LogRecord → List LogRecord → Effect
stepped before after out out_then = record { groups = before; groups_then = after; out = out; out_then = out_then }

-- what holds of the answer that is told
pub if_ok_at : {T E : Type 0} (result : Result T E) (x : T) (P : T → Type 0) → IfOk result (λ y. y ≡ x) → P x → IfOk result P
if_ok_at (Ok _) x P is holds = subst P (sym is) holds
if_ok_at (Err _) x P is holds = tt

module _ (joining : Joining) (arrival : Arrival) (entry : LogRecord) (kept : Kept) where
  joined_so : (r : Result Made Refusal) (gs' : List Group) (none sent : List LogRecord) (kept_then : Kept) (out out_then : List (ℕ × LogRecord))
      → IsStepped r entry (stepped (open_groups kept) gs' none sent) (Ok tt) → none ≡ [] → kept_then ≡ groups gs' → out_then ≡ out ++ on_one_port sent
      → IsApplied (option_map with_groups (if_taken r)) entry (effect kept kept_then out out_then) Done
  joined_so (Ok made) gs' none sent kept_then out out_then puts empty is grown = record {
    kept = is ∙ ap groups puts.groups;
    out = grown ∙ ap (λ (s : List LogRecord). out ++ on_one_port s) (puts.out ∙ ap (λ (s : List LogRecord). s ++ made.sent) empty);
  }
  joined_so (Err not_text) gs' none sent kept_then out out_then puts empty is grown = absurd puts
  joined_so (Err too_deep) gs' none sent kept_then out out_then puts empty is grown = absurd puts

  pub joined_done : (before gs' : List Group) (none sent : List LogRecord) (kept_then : Kept) (out out_then : List (ℕ × LogRecord)) → before ≡ open_groups kept
      → IsStepped (recombined joining before arrival) entry (stepped before gs' none sent) (Ok tt) → none ≡ [] → kept_then ≡ groups gs' → out_then ≡ out ++ on_one_port sent
      → IsApplied (option_map with_groups (joined_in joining (open_groups kept) arrival)) entry (effect kept kept_then out out_then) Done
  unfolding joined_in
  joined_done before gs' none sent kept_then out out_then same did =
      joined_so (recombined joining (open_groups kept) arrival) gs' none sent kept_then out out_then
      (subst (λ (gs : List Group). IsStepped (recombined joining gs arrival) entry (stepped gs gs' none sent) (Ok tt)) same did)

  -- the groups are held again, and nothing else came of it
  held_again : (k : Kept) (gs' : List Group) (kept_then : Kept) → gs' ≡ open_groups k → kept_then ≡ holding.with_groups (fresh_kept (keeps_groups k)) gs' → kept_then ≡ k
  held_again nothing gs' kept_then same is = is
  held_again (groups gs) gs' kept_then same is = is ∙ ap groups same

  not_text_so : (r : Result Made Refusal) (back : Entry) (gs' : List Group) (none sent : List LogRecord) (kept_then : Kept) (out : List (ℕ × LogRecord))
      → IsStepped r entry (stepped (open_groups kept) gs' none sent) (Err (NotText back)) → kept_then ≡ holding.with_groups (fresh_kept (keeps_groups kept)) gs'
      → IsApplied (option_map with_groups (if_taken r)) entry (effect kept kept_then out out) (Faulty (log_record back))
  not_text_so (Ok made) back gs' none sent kept_then out none_such is = absurd none_such
  not_text_so (Err not_text) back gs' none sent kept_then out gives is = record { same = gives.same; kept = held_again kept gs' kept_then gives.groups is; out = refl }
  not_text_so (Err too_deep) back gs' none sent kept_then out none_such is = absurd none_such

  too_deep_so : (r : Result Made Refusal) (back : Entry) (gs' : List Group) (none sent : List LogRecord) (kept_then : Kept) (out : List (ℕ × LogRecord))
      → IsStepped r entry (stepped (open_groups kept) gs' none sent) (Err (TooDeep back)) → kept_then ≡ holding.with_groups (fresh_kept (keeps_groups kept)) gs'
      → IsApplied (option_map with_groups (if_taken r)) entry (effect kept kept_then out out) (Faulty (log_record back))
  too_deep_so (Ok made) back gs' none sent kept_then out none_such is = absurd none_such
  too_deep_so (Err not_text) back gs' none sent kept_then out none_such is = absurd none_such
  too_deep_so (Err too_deep) back gs' none sent kept_then out gives is = record { same = gives.same; kept = held_again kept gs' kept_then gives.groups is; out = refl }

  pub joined_not_text : (back : Entry) (before gs' : List Group) (none sent : List LogRecord) (kept_then : Kept) (out : List (ℕ × LogRecord)) → before ≡ open_groups kept
      → IsStepped (recombined joining before arrival) entry (stepped before gs' none sent) (Err (NotText back)) → kept_then ≡ holding.with_groups (fresh_kept (keeps_groups kept)) gs'
      → IsApplied (option_map with_groups (joined_in joining (open_groups kept) arrival)) entry (effect kept kept_then out out) (Faulty (log_record back))
  unfolding joined_in
  joined_not_text back before gs' none sent kept_then out same did =
      not_text_so (recombined joining (open_groups kept) arrival) back gs' none sent kept_then out
      (subst (λ (gs : List Group). IsStepped (recombined joining gs arrival) entry (stepped gs gs' none sent) (Err (NotText back))) same did)

  pub joined_too_deep : (back : Entry) (before gs' : List Group) (none sent : List LogRecord) (kept_then : Kept) (out : List (ℕ × LogRecord)) → before ≡ open_groups kept
      → IsStepped (recombined joining before arrival) entry (stepped before gs' none sent) (Err (TooDeep back)) → kept_then ≡ holding.with_groups (fresh_kept (keeps_groups kept)) gs'
      → IsApplied (option_map with_groups (joined_in joining (open_groups kept) arrival)) entry (effect kept kept_then out out) (Faulty (log_record back))
  unfolding joined_in
  joined_too_deep back before gs' none sent kept_then out same did =
      too_deep_so (recombined joining (open_groups kept) arrival) back gs' none sent kept_then out
      (subst (λ (gs : List Group). IsStepped (recombined joining gs arrival) entry (stepped gs gs' none sent) (Err (TooDeep back))) same did)
