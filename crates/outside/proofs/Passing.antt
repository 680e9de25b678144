-- Calls on a disk, one after another.
use Rattle.std.proofs.Common.{ℕ, refl, inl, inr, sym, subst, arith}
use Rattle.outside.specs.Image.{Image, Same}
use Rattle.outside.specs.Images.{Images}
use Rattle.outside.specs.Crash.{Passes}

module _ {F D : Type 0} {images : Images F D} where
  -- nothing was done
  pub passes_none : (disk : D) → Passes images Same disk disk
  passes_none disk = record {
    later = omega arith;
    now_left = λ image left. (image, left, refl);
    since = λ from image early left. inl left;
    keeps = λ from image early left. left;
  }

  -- a weaker change, which may use that the old image could be left
  pub passes_by : {change weaker : Image F → Image F → Type 0} {old new : D} → Passes images change old new → ((first second : Image F) → images.may_leave old first → change first second → weaker first second) → Passes images weaker old new
  passes_by passes weaken = record {
    later = passes.later;
    now_left = λ image left. let past = passes.now_left image left in (past.0, past.1, weaken past.0 image past.1 past.2);
    since = λ from image early left. elim (passes.since from image early left) [ inl past ↦ inl past | inr past ↦ inr (past.0, past.1, weaken past.0 image past.1 past.2) ];
    keeps = passes.keeps;
  }

  pub passes_weaker : {change weaker : Image F → Image F → Type 0} {old new : D} → Passes images change old new → ((first second : Image F) → change first second → weaker first second) → Passes images weaker old new
  passes_weaker passes weaken = passes_by passes (λ first second _ step. weaken first second step)

  -- The first call may be cut short before the second begins.
  pub passes_then : {first second whole : Image F → Image F → Type 0} {old mid new : D} → Passes images first old mid → Passes images second mid new → ((x y : Image F) → first x y → whole x y) → ((x y z : Image F) → first x y → second y z → whole x z) → Passes images whole old new
  passes_then a b alone both = record {
    later = omega (arith, a.later, b.later);
    now_left = λ image left.
        let past = b.now_left image left in
        let before = a.now_left past.0 past.1 in
        (before.0, before.1, both before.0 past.0 image before.2 past.2);
    since = λ from image early left.
        elim (b.since from image (omega (arith, a.later)) left) [
          | inl between ↦ elim (a.since from image early between) [ inl past ↦ inl past | inr past ↦ inr (past.0, past.1, alone past.0 image past.2) ]
          | inr past ↦ (let before = a.now_left past.0 past.1 in inr (before.0, before.1, both before.0 past.0 image before.2 past.2))
        ];
    keeps = λ from image early left. b.keeps from image (omega (arith, a.later)) (a.keeps from image early left);
  }

  -- calls that change nothing, before and after
  pub passes_after_same : {change : Image F → Image F → Type 0} {old mid new : D} → Passes images Same old mid → Passes images change mid new → ((image : Image F) → change image image) → Passes images change old new
  passes_after_same {change} a b idle = passes_then a b
      (λ x y same. let P : Image F → Type 0 = λ z. change x z in subst P (sym same) (idle x))
      (λ x y z same step. let P : Image F → Type 0 = λ w. change w z in subst P same step)

  pub passes_before_same : {change : Image F → Image F → Type 0} {old mid new : D} → Passes images change old mid → Passes images Same mid new → Passes images change old new
  passes_before_same {change} a b = passes_then a b
      (λ x y step. step)
      (λ x y z step same. let P : Image F → Type 0 = λ w. change x w in subst P (sym same) step)
