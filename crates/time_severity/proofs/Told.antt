-- The computed times are those that time_layout tells.
use Rattle.std.proofs.Common.{◌≡◌, ◌∙◌, sym, ap, refl, ℕ, ℤ, pos, negsuc, ◌*ℤ◌, ◌≤ℤ◌, Bool, true, false, cond, T, ◌&&◌, inl, inr, int_le, nat_abs, nat_le, None, Some, Result, Ok, Err, Decides}
use Rattle.std.specs.Int.{IsInRange, is_in_range}
use Rattle.std.specs.Int.Signed.{le_z_yes}
use Rattle.std.specs.Result.{result_ok}
use Rattle.std.proofs.lemmas.Bool.{cases_Bool, and_parts, and_from, leb-true, le-leb}
use Rattle.std.proofs.lemmas.Bool.Decides.{Decides-and}
use Rattle.std.proofs.lemmas.Float.{T_from_true}
use Rattle.std.proofs.lemmas.Option.{cond_some, none-some}
use Rattle.entry_model.specs.Datum.{Datum, null, boolean, int, text, list, fields}
use Rattle.jiff_core.specs.Calendar.{IsBetween, IsCivilDate, days_in_month}
use Rattle.time_layout.specs.Atoms.{Reading}
use Rattle.time_layout.specs.Epoch.{unit_of, epoch_read, IsEpochTimeOf}
use Rattle.time_layout.specs.Parts.{layout_read}
use Rattle.time_layout.specs.Instant.{IsInstant, IsCounted, IsInstantOf, IsTimeOf, nanos_of}
use Rattle.time_layout.specs.declared.fault.TimeFault.{TimeFault}
use Rattle.time_layout.specs.declared.parts.Said.{Said}
use Rattle.time_severity.specs.Times.{counted, has_day, instant_said, instant_read, count_read, time_in, TellsTime}
use Rattle.time_severity.specs.declared.time_op.TimeKind.{TimeKind}
use Rattle.time_severity.specs.declared.time_op.TimeKind.TheVariants.{Layout, Epoch}

from_T : (b : Bool) → T b → b ≡ true
from_T true holds = refl
from_T false holds = absurd holds

decides_le : (a b : ℤ) → Decides (int_le a b) (a ≤ℤ b)
decides_le a b = (λ e. le_z_yes (T_from_true (int_le a b) e), λ h. from_T (int_le a b) h.le)

decides_between : (low high z : ℤ) → Decides (int_le low z && int_le z high) (IsBetween low high z)
decides_between low high z = Decides-and (int_le low z) (int_le z high) (decides_le low z) (decides_le z high)

pub decides_instant : (nanos : ℤ) → Decides (int_le (pos 0) nanos && int_le nanos (pos 18_446_744_073_709_551_615)) (IsInstant nanos)
decides_instant nanos = decides_between (pos 0) (pos 18_446_744_073_709_551_615) nanos

not_so : {P : Type 0} (b : Bool) → Decides b P → (P → ⊥) → b ≡ false
not_so true decides never = absurd (never (decides.0 refl))
not_so false decides never = refl

pub count_told : (nanos : ℤ) (result : Result ℕ TimeFault) → IsCounted nanos result → result_ok result ≡ counted nanos
count_told nanos (Ok instant) told =
    ap Some (sym (ap nat_abs told.1)) ∙ sym (ap (λ b. cond b (Some (nat_abs nanos)) None) ((decides_instant nanos).1 told.0))
count_told nanos (Err fault) told =
    sym (ap (λ b. cond b (Some (nat_abs nanos)) None) (not_so _ (decides_instant nanos) told.1))

decides_range : (low high n : ℕ) → Decides (is_in_range low high n) (IsInRange low high n)
decides_range low high n = Decides-and (nat_le low n) (nat_le n high) (leb-true low n, le-leb low n) (leb-true n high, le-leb n high)

pub decides_day : (said : Said) → Decides (has_day said) (IsCivilDate (pos said.year) said.month said.day)
decides_day said = (
  λ e. let parts = and_parts _ _ e in let in_year = and_parts _ _ parts.1 in
      ((le_z_yes tt, le_z_yes (T_from_true _ parts.0)), (decides_range 1 12 said.month).0 in_year.0, (decides_range 1 (days_in_month (pos said.year) said.month) said.day).0 in_year.1),
  λ day. and_from _ _ (from_T _ day.0.1.le) (and_from _ _ ((decides_range 1 12 said.month).1 day.1) ((decides_range 1 (days_in_month (pos said.year) said.month) said.day).1 day.2)),
)

instant_told : (said : Said) (result : Result ℕ TimeFault) → IsInstantOf said result → result_ok result ≡ instant_said said
instant_told said (Ok instant) told =
    count_told (nanos_of said) (Ok instant) (told.0.1, told.1) ∙ sym (ap (λ b. cond b (counted (nanos_of said)) None) ((decides_day said).1 told.0.0))
instant_told said (Err fault) told = elim (cases_Bool (has_day said)) [
  | inl e ↦ count_told (nanos_of said) (Err fault) (told.0, λ inside. told.1 ((decides_day said).0 e, inside)) ∙ sym (ap (λ b. cond b (counted (nanos_of said)) None) e)
  | inr e ↦ sym (ap (λ b. cond b (counted (nanos_of said)) None) e)
]

pub layout_told : (reading : Reading Said) (result : Result ℕ TimeFault) → IsTimeOf reading result → result_ok result ≡ instant_read reading
layout_told (Ok read) result told = instant_told read.0 result told
layout_told (Err fault) result told = ap result_ok told

pub epoch_told : (reading : Reading ℕ) (result : Result ℕ TimeFault) → IsEpochTimeOf reading result → result_ok result ≡ count_read reading
epoch_told (Ok read) result told = count_told (pos read.0) result told
epoch_told (Err fault) result told = ap result_ok told

not_negative : (z : ℤ) → pos 0 ≤ℤ z → z ≡ pos (nat_abs z)
not_negative (pos n) h = refl
not_negative (negsuc n) h = absurd h.le

counted_is : (nanos : ℤ) (instant : ℕ) → counted nanos ≡ Some instant → IsCounted nanos (Ok instant)
counted_is nanos instant e =
    let given = cond_some _ (nat_abs nanos) instant e in
    let inside = (decides_instant nanos).0 given.0 in
    (inside, not_negative nanos inside.0 ∙ ap pos given.1)

pub layout_tells : (reading : Reading Said) (instant : ℕ) → instant_read reading ≡ Some instant → IsTimeOf reading (Ok instant)
layout_tells (Ok read) instant e =
    elim (cases_Bool (has_day read.0)) [
      | inl day ↦
          let told = counted_is (nanos_of read.0) instant (sym (ap (λ b. cond b (counted (nanos_of read.0)) None) day) ∙ e) in
          (((decides_day read.0).0 day, told.0), told.1)
      | inr other ↦ absurd (none-some instant (sym (ap (λ b. cond b (counted (nanos_of read.0)) None) other) ∙ e))
    ]
layout_tells (Err fault) instant e = absurd (none-some instant e)

epoch_tells : (reading : Reading ℕ) (instant : ℕ) → count_read reading ≡ Some instant → IsEpochTimeOf reading (Ok instant)
epoch_tells (Ok read) instant e = counted_is (pos read.0) instant e
epoch_tells (Err fault) instant e = absurd (none-some instant e)

pub tells : (kind : TimeKind) (value : Datum) (instant : ℕ) → time_in kind value ≡ Some instant → TellsTime kind value instant
tells (Layout layout) null instant e = absurd (none-some instant e)
tells (Layout layout) (boolean b) instant e = absurd (none-some instant e)
tells (Layout layout) (int z) instant e = absurd (none-some instant e)
tells (Layout layout) (text bytes) instant e = layout_tells (layout_read layout.parts layout.location bytes) instant e
tells (Layout layout) (list items) instant e = absurd (none-some instant e)
tells (Layout layout) (fields under) instant e = absurd (none-some instant e)
tells (Epoch kind) null instant e = absurd (none-some instant e)
tells (Epoch kind) (boolean b) instant e = absurd (none-some instant e)
tells (Epoch kind) (int z) instant e = counted_is (z *ℤ pos (unit_of kind)) instant e
tells (Epoch kind) (text bytes) instant e = epoch_tells (epoch_read kind bytes) instant e
tells (Epoch kind) (list items) instant e = absurd (none-some instant e)
tells (Epoch kind) (fields under) instant e = absurd (none-some instant e)

pub told_so : (kind : TimeKind) (value : Datum) (instant : ℕ) → TellsTime kind value instant → time_in kind value ≡ Some instant
told_so (Layout layout) null instant h = absurd h
told_so (Layout layout) (boolean b) instant h = absurd h
told_so (Layout layout) (int z) instant h = absurd h
told_so (Layout layout) (text bytes) instant h = sym (layout_told (layout_read layout.parts layout.location bytes) (Ok instant) h)
told_so (Layout layout) (list items) instant h = absurd h
told_so (Layout layout) (fields under) instant h = absurd h
told_so (Epoch kind) null instant h = absurd h
told_so (Epoch kind) (boolean b) instant h = absurd h
told_so (Epoch kind) (int z) instant h = sym (count_told (z *ℤ pos (unit_of kind)) (Ok instant) h)
told_so (Epoch kind) (text bytes) instant h = sym (epoch_told (epoch_read kind bytes) (Ok instant) h)
told_so (Epoch kind) (list items) instant h = absurd h
told_so (Epoch kind) (fields under) instant h = absurd h
