-- Writes to one file, one after another.
use Rattle.std.proofs.Common.{◌≡◌, ℕ, ◌+◌, ◌-◌, ◌<◌, ◌≤◌, List, ◌++◌, length, take, get_or, refl, sym, ◌∙◌, arith, length-append, inl, inr}
use Rattle.std.proofs.lemmas.Bool.{cases_lt}
use Rattle.std.proofs.lemmas.Grind.{same_number_lists}
use Rattle.std.proofs.lemmas.List.{get_or_append_left, get_or-append-add, get_or-take, length-take-le}
use Rattle.outside.specs.Image.{Image, AtFile, Torn, Holds, KeepsFront}

pub torn_idle : (offset size : ℕ) (content : List ℕ) → Torn offset size content content
torn_idle offset size content = record {
  before = λ k _ _. refl;
  after = λ k _ _. refl;
  no_shorter = omega arith;
  no_longer = omega arith;
}

pub keeps_front_idle : (kept : ℕ) (content : List ℕ) → KeepsFront kept content content
keeps_front_idle kept content = record { front = λ k _ _. refl; no_shorter = omega arith }

-- a write from there on, whatever was left of it
pub keeps_front_torn : (kept offset size : ℕ) (old new : List ℕ) → kept ≤ offset → Torn offset size old new → KeepsFront kept old new
keeps_front_torn kept offset size old new behind torn = record {
  front = λ k early within. torn.before k (omega arith) within;
  no_shorter = torn.no_shorter;
}

pub keeps_front_then : (kept : ℕ) (old mid new : List ℕ) → KeepsFront kept old mid → KeepsFront kept mid new → KeepsFront kept old new
keeps_front_then kept old mid new a b = record {
  front = λ k early within. b.front k early (omega (arith, a.no_shorter)) ∙ a.front k early within;
  no_shorter = omega (arith, a.no_shorter, b.no_shorter);
}

-- what stood before the place is there
pub keeps_front_take : (kept : ℕ) (old new : List ℕ) → kept ≤ length old → KeepsFront kept old new → take kept new ≡ take kept old
keeps_front_take kept old new within keeps =
    let long : kept ≤ length new = omega (arith, keeps.no_shorter) in
    same_number_lists (take kept new) (take kept old) (length-take-le kept new long ∙ sym (length-take-le kept old within))
    (λ k early.
    let near : k < kept = omega (arith, length-take-le kept new long) in
    get_or-take kept new k 0 near ∙ keeps.front k near (omega arith) ∙ sym (get_or-take kept old k 0 near))

pub at_file_idle : {F : Type 0} (file : F) (change : List ℕ → List ℕ → Type 0) (image : Image F) → change (image file) (image file) → AtFile file change image image
at_file_idle file change image idle = record { here = idle; others = λ _ _. refl }

pub at_file_weaker : {F : Type 0} {file : F} {change weaker : List ℕ → List ℕ → Type 0} {old new : Image F} → AtFile file change old new → (change (old file) (new file) → weaker (old file) (new file)) → AtFile file weaker old new
at_file_weaker at weaken = record { here = weaken at.here; others = at.others }

pub at_file_then : {F : Type 0} {file : F} {first second whole : List ℕ → List ℕ → Type 0} {old mid new : Image F} → AtFile file first old mid → AtFile file second mid new → (first (old file) (mid file) → second (mid file) (new file) → whole (old file) (new file)) → AtFile file whole old new
at_file_then a b join = record {
  here = join a.here b.here;
  others = λ other differs. b.others other differs ∙ a.others other differs;
}

-- a write at the end of the file adds its bytes
pub holds_at_end : (offset : ℕ) (bytes old new : List ℕ) → offset ≡ length old → Holds offset bytes old new → new ≡ old ++ bytes
holds_at_end offset bytes old new at_end holds =
    let long : length new ≡ length old + length bytes = omega (arith, holds.reaches, holds.outside.no_longer) in
    same_number_lists new (old ++ bytes) (omega (arith, length-append old bytes))
    (λ k within.
    let holds_inside : (j : ℕ) → j < length bytes → get_or new (length old + j) 0 ≡ get_or bytes j 0 = λ j small. rw (← at_end) (holds.inside j small) in
    elim (cases_lt k (length old)) [
      | inl early ↦ (holds.outside.before k (omega arith) early ∙ sym (get_or_append_left old bytes 0 k early))
      | inr late ↦ (let j = k - length old in let at : k ≡ length old + j = omega arith in rw at (holds_inside j (omega (arith, length-append old bytes)) ∙ sym (get_or-append-add old bytes j 0)))
    ])
