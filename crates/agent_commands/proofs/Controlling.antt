-- A control line, byte by byte.
use Rattle.std.proofs.Common.{◌≡◌, ℕ, ◌+◌, ◌≤◌, ◌<◌, List, [], ◌∷◌, ◌++◌, length, take, Bool, true, false, if◌then◌else◌, bytes_eq, codes, refl, sym, ◌∙◌, ap, append_assoc, inl, inr, arith, length-append}
use Rattle.std.specs.Prelude.{Option, Some, Ok, ◌||◌, ◌==◌}
use Rattle.std.proofs.lemmas.List.{take_more_set, length-take-le}
use Rattle.std.proofs.lemmas.List.Folds.{list_any-append}
use Rattle.std.proofs.lemmas.Bool.{ne_eqb}
use Rattle.std.specs.Prelude.{slice_set}
use Rattle.std.specs.Str.Lines.{strip_carriage_return}
use Rattle.outside.specs.World.{Told}
use Rattle.outside.proofs.Telling.{told_then, told_weaker}
use Rattle.agent_commands.specs.Control.{has_line_feed, asked_by, Asks, GivesByte, Spends, TakesAtMost, TakesExactly}
use Rattle.agent_commands.specs.declared.control.Request.TheVariants.{Poll, Quit, Faulty, Exhausted}

-- these bytes, without a line end, were taken
pub record IsFront (front : List ℕ) (old new : List ℕ) : Type 0 where
  pub one : has_line_feed front ≡ false
  pub taken : old ≡ front ++ new

one_more : (front : List ℕ) (byte : ℕ) → has_line_feed front ≡ false → (byte ≡ 10 → ⊥) → has_line_feed (front ++ byte ∷ []) ≡ false
one_more front byte one other =
    list_any-append (λ b. b == 10) front (byte ∷ [])
    ∙ ap (λ x. x || ((byte == 10) || false)) one
    ∙ ap (λ x. x || false) (ne_eqb byte 10 other)

front_on : (front : List ℕ) (byte : ℕ) (old mid new : List ℕ) → (byte ≡ 10 → ⊥) → IsFront front old mid → GivesByte (Ok (Some byte)) mid new → IsFront (front ++ byte ∷ []) old new
front_on front byte old mid new other so_far gives = record {
  one = one_more front byte so_far.one other;
  taken = so_far.taken ∙ ap (λ m. front ++ m) gives ∙ sym (append_assoc front (byte ∷ []) new);
}

pub front_on_told : (line : List ℕ) (filled byte : ℕ) (old mid new : Option (List ℕ)) → filled < length line → (byte ≡ 10 → ⊥) → Told (IsFront (take filled line)) old mid → Told (GivesByte (Ok (Some byte))) mid new → Told (IsFront (take (filled + 1) (slice_set line filled byte))) old new
front_on_told line filled byte old mid new within other so_far gives =
    rw (take_more_set line filled byte within) (told_then _ _ _ old mid new (λ x y z. front_on (take filled line) byte x y z other) so_far gives)

pub too_much_told : (line : List ℕ) (left byte : ℕ) (old mid new : Option (List ℕ)) → length line ≡ 64 → 64 < left → (byte ≡ 10 → ⊥) → Told (IsFront (take 64 line)) old mid → Told (GivesByte (Ok (Some byte))) mid new → Told (Asks left (Ok Faulty)) old new
too_much_told line left byte old mid new long allowed other so_far gives =
    told_then _ _ _ old mid new
    (λ x y z front next.
    let grown = front_on (take 64 line) byte x y z other front next in
    let size : length (take 64 line ++ byte ∷ []) ≡ 65 = omega (arith, length-append (take 64 line) (byte ∷ []), length-take-le 64 line (omega arith)) in
    inr (inr (inr (inl (record { front = take 64 line ++ byte ∷ []; one = grown.one; long = size; allowed = omega (arith, size, allowed); taken = grown.taken; asks = refl })))))
    so_far gives

-- What was taken goes off, also what came behind the front of a line.
pub spends_told : (line : List ℕ) (filled : ℕ) (more : List ℕ) (change : List ℕ → List ℕ → Type 0) (left after : ℕ) (old mid new : Option (List ℕ)) → ((x y : List ℕ) → change x y → x ≡ more ++ y) → filled ≤ length line → left ≡ filled + length more + after → Told (IsFront (take filled line)) old mid → Told change mid new → Told (Spends left after) old new
spends_told line filled more change left after old mid new comes within counted =
    told_then _ _ _ old mid new
    (λ x y z front next. record {
      taken = take filled line ++ more;
      front = front.taken ∙ ap (λ m. take filled line ++ m) (comes y z next) ∙ sym (append_assoc (take filled line) more z);
      counted = omega (arith, length-append (take filled line) more, length-take-le filled line within);
    })

spends_both : (first second third : ℕ) (x y z : List ℕ) → Spends first second x y → Spends second third y z → Spends first third x z
spends_both first second third x y z before after = record {
  taken = before.taken ++ after.taken;
  front = before.front ∙ ap (λ m. before.taken ++ m) after.front ∙ sym (append_assoc before.taken after.taken z);
  counted = omega (arith, length-append before.taken after.taken, before.counted, after.counted);
}

pub spends_both_told : (first second third : ℕ) (old mid new : Option (List ℕ)) → Told (Spends first second) old mid → Told (Spends second third) mid new → Told (Spends first third) old new
spends_both_told first second third old mid new = told_then _ _ _ old mid new (spends_both first second third)

pub at_most_told : (left after : ℕ) (old new : Option (List ℕ)) → Told (Spends left after) old new → Told (TakesAtMost left) old new
at_most_told left after old new = told_weaker _ _ old new (λ x y spends. record { taken = spends.taken; front = spends.front; within = omega (arith, spends.counted) })

never_chosen : (is_poll is_quit : Bool) → Exhausted ≡ (if is_poll then Poll else if is_quit then Quit else Faulty) → ⊥
never_chosen true is_quit is = cc
never_chosen false true is = cc
never_chosen false false is = cc

never_asked : (text : List ℕ) → Exhausted ≡ asked_by text → ⊥
never_asked text is = never_chosen (bytes_eq text (codes "poll")) (bytes_eq text (codes "quit")) is

takes_exactly : (left : ℕ) (old new : List ℕ) → Asks left (Ok Exhausted) old new → TakesExactly left old new
takes_exactly left old new (inl line) = absurd (never_asked (strip_carriage_return line.line) line.asks)
takes_exactly left old new (inr (inl last)) = absurd (never_asked old last.asks)
takes_exactly left old new (inr (inr (inl none))) = let never = none.asks in cc
takes_exactly left old new (inr (inr (inr (inl much)))) = let never = much.asks in cc
takes_exactly left old new (inr (inr (inr (inr all)))) = record { taken = all.front; front = all.taken; exact = all.all }

pub takes_exactly_told : (left : ℕ) (old new : Option (List ℕ)) → Told (Asks left (Ok Exhausted)) old new → Told (TakesExactly left) old new
takes_exactly_told left old new = told_weaker _ _ old new (takes_exactly left)

exactly_both : (left between : ℕ) (x y z : List ℕ) → Spends left between x y → TakesExactly between y z → TakesExactly left x z
exactly_both left between x y z before after = record {
  taken = before.taken ++ after.taken;
  front = before.front ∙ ap (λ m. before.taken ++ m) after.front ∙ sym (append_assoc before.taken after.taken z);
  exact = omega (arith, length-append before.taken after.taken, before.counted, after.exact);
}

pub exactly_both_told : (left between : ℕ) (old mid new : Option (List ℕ)) → Told (Spends left between) old mid → Told (TakesExactly between) mid new → Told (TakesExactly left) old new
exactly_both_told left between old mid new = told_then _ _ _ old mid new (exactly_both left between)
