-- What an operator with one output emits, and what it keeps.
use Rattle.std.proofs.Common.{◌≡◌, ℕ, List, [], ◌∷◌, ◌++◌, Bool, true, false, Option, None, Some, refl, sym, ap, ◌∙◌}
use Rattle.std.specs.Prelude.{if◌then◌else◌, option_map}
use Rattle.std.proofs.lemmas.List.{append-nil}
use Rattle.entry_model.specs.LogRecord.{LogRecord}
use Rattle.op_kinds.specs.Inner.Applied.{Effect, Puts, IsApplied, effect}
use Rattle.op_kinds.specs.Kept.{Kept, open_groups, keeps_groups, fresh_kept}
use Rattle.op_kinds.specs.Operator.{Operator, conditional, router, Made, row, holds_groups, joined, with_groups, sending, done, guarded, holds, or_unchanged, has_groups, after}
use Rattle.op_kinds.specs.declared.action.Applied.TheVariants.{Done, Faulty}
use Rattle.recombine.specs.Recombined as join

-- ---- what was emitted

pub was_done : (drops : Bool) (asked : Option Made) (entry : LogRecord) (e : Effect) → IsApplied asked entry e Done → Puts (or_unchanged drops e.kept entry asked) e
was_done drops (Some m) entry e puts = puts
was_done drops None entry e none = absurd none

pub was_dropped : (drops : Bool) (asked : Option Made) (entry back : LogRecord) (e : Effect) → drops ≡ true → IsApplied asked entry e (Faulty back) → Puts (or_unchanged drops e.kept entry asked) e
was_dropped true (Some m) entry back e is none = absurd none
was_dropped true None entry back e is gives = record { kept = gives.kept; out = gives.out ∙ sym (append-nil e.out) }
was_dropped false asked entry back e is gives = cc is

pub was_sent_on : (drops : Bool) (asked : Option Made) (entry back : LogRecord) (e : Effect) (out : List (ℕ × LogRecord)) → drops ≡ false → out ≡ e.out_then ++ (0, back) ∷ []
    → IsApplied asked entry e (Faulty back) → Puts (or_unchanged drops e.kept entry asked) (effect e.kept e.kept_then e.out out)
was_sent_on true asked entry back e out is grown gives = cc is
was_sent_on false (Some m) entry back e out is grown none = absurd none
was_sent_on false None entry back e out is grown gives = record {
  kept = gives.kept;
  out = grown ∙ ap (λ o. o ++ (0, back) ∷ []) gives.out ∙ ap (λ b. e.out ++ (0, b) ∷ []) gives.same;
}

-- ---- what an act did

-- ---- kinds

keeps_done : (b : Bool) (made : Option join.Made) (asked : Option (List LogRecord)) (kept : Kept) (entry : LogRecord) (drops : Bool) → keeps_groups kept ≡ b
    → keeps_groups (or_unchanged drops kept entry (if b then option_map with_groups made else option_map (sending kept) asked)).kept ≡ b
keeps_done true (Some made) asked kept entry drops is = refl
keeps_done true None asked kept entry drops is = is
keeps_done false made (Some sent) kept entry drops is = is
keeps_done false made None kept entry drops is = is

keeps_guarded : (truth : Option Bool) (b : Bool) (made : Option Made) (kept : Kept) (entry : LogRecord) (drops : Bool) → keeps_groups kept ≡ b → keeps_groups (or_unchanged drops kept entry made).kept ≡ b
    → keeps_groups (or_unchanged drops kept entry (guarded truth kept entry made)).kept ≡ b
keeps_guarded (Some true) b made kept entry drops is then_so = then_so
keeps_guarded (Some false) b made kept entry drops is then_so = is
keeps_guarded None b made kept entry drops is then_so = is

pub keeps_kind : (operator : Operator) (kept : Kept) (entry : LogRecord) → keeps_groups kept ≡ has_groups operator → keeps_groups (after operator kept entry) ≡ has_groups operator
keeps_kind (conditional None act drops) kept entry is = keeps_done (holds_groups act) (joined act (open_groups kept) entry) (row act entry) kept entry drops is
keeps_kind (conditional (Some condition) act drops) kept entry is =
    keeps_guarded (holds condition entry) (holds_groups act) (done act kept entry) kept entry drops is
    (keeps_done (holds_groups act) (joined act (open_groups kept) entry) (row act entry) kept entry drops is)
keeps_kind (router routes has_default) kept entry is = is

pub begins_with_kind : (operator : Operator) → keeps_groups (fresh_kept (has_groups operator)) ≡ has_groups operator
begins_with_kind operator = by (has_groups operator)
  where
    by : (b : Bool) → keeps_groups (fresh_kept b) ≡ b
    by true = refl
    by false = refl
