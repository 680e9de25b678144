-- What a crash leaves after calls that were synced, one after another.
use Rattle.std.proofs.Common.{inl, inr, arith}
use Rattle.outside.specs.Crash.{Passes}
use Rattle.outside.specs.Image.{Image}
use Rattle.outside.specs.Images.{Images}
use Rattle.slot_store.specs.Synced.{EachLeft, LeavesChanged}

module _ {F D : Type 0} {images : Images F D} where
  pub leaves_then : {first second whole : Image F → Image F → Type 0} {old mid new : D} → LeavesChanged images first old mid → LeavesChanged images second mid new → ((x y z : Image F) → first x y → second y z → whole x z) → LeavesChanged images whole old new
  leaves_then a b both = record {
    each = λ image left.
        let between = b.each image left in
        let before = a.each between.0 between.1 in
        (before.0, before.1, both before.0 between.0 image before.2 between.2);
  }

  -- the second calls, on images that have this
  pub leaves_on : {first second whole : Image F → Image F → Type 0} {holds : Image F → Type 0} {old mid new : D} → LeavesChanged images first old mid → LeavesChanged images second mid new → EachLeft images old holds → ((x y z : Image F) → holds x → first x y → second y z → whole x z) → LeavesChanged images whole old new
  leaves_on a b each both = record {
    each = λ image left.
        let between = b.each image left in
        let before = a.each between.0 between.1 in
        (before.0, before.1, both before.0 between.0 image (each.each before.0 before.1) before.2 between.2);
  }

  -- The second calls may be cut short. What the first leave is known where all of them succeeded.
  pub passes_on : {first second whole done : Image F → Image F → Type 0} {old mid new : D} → Passes images first old mid → LeavesChanged images done old mid → Passes images second mid new → ((x y : Image F) → first x y → whole x y) → ((x y z : Image F) → images.may_leave old x → done x y → second y z → whole x z) → Passes images whole old new
  passes_on {first} {second} {whole} {done} {old} {mid} {new} a settled b alone both = record {
    later = omega (arith, a.later, b.later);
    now_left = λ image left.
        let past = b.now_left image left in
        let before = settled.each past.0 past.1 in
        (before.0, before.1, both before.0 past.0 image before.1 before.2 past.2);
    since = λ from image early left.
        elim (b.since from image (omega (arith, a.later)) left) [
          | inl between ↦ elim (a.since from image early between) [ inl past ↦ inl past | inr past ↦ inr (past.0, past.1, alone past.0 image past.2) ]
          | inr past ↦ (let before = settled.each past.0 past.1 in inr (before.0, before.1, both before.0 past.0 image before.1 before.2 past.2))
        ];
    keeps = λ from image early left. b.keeps from image (omega (arith, a.later)) (a.keeps from image early left);
  }
