-- How many calls succeeded, over several of them.
use Rattle.std.proofs.Common.{◌≡◌, ℕ, ◌+◌, ◌≤◌, Option, Some, None, refl, ap, ◌∙◌, arith}
use Rattle.outside.specs.DiskMeaning.{DiskMeaning}
use Rattle.poll_core.specs.Calls.{DoneAtMost, CutsAndSyncs}
use Rattle.slot_store.proofs.Counts.{done_more_then}
use Rattle.slot_store.proofs.OnlyReading.{keeps_terms_then}
use Rattle.slot_store.specs.Counted.{DoneMore}

none_more : (count : Option ℕ) → DoneMore 0 count count
none_more None = refl
none_more (Some n) = ap (λ m. Some m) (omega arith)

pub done_then : (first second most : ℕ) (start mid end : Option ℕ) → first + second ≤ most → DoneAtMost first start mid → DoneAtMost second mid end → DoneAtMost most start end
done_then first second most start mid end enough a b =
    let few = a.1 in
    let few_more = b.1 in
    (a.0 + b.0, omega (arith, few, few_more), done_more_then a.0 b.0 start mid end a.2 b.2)

module _ {D : Type 0} {meaning : DiskMeaning D} where
  pub calls_then : (first second most : ℕ) {old mid new : D} → first + second ≤ most → CutsAndSyncs first meaning old mid → CutsAndSyncs second meaning mid new → CutsAndSyncs most meaning old new
  calls_then first second most {old} {mid} {new} enough a b = record {
    done = done_then first second most (meaning.done old) (meaning.done mid) (meaning.done new) enough a.done b.done;
    written = b.written ∙ a.written;
    terms = keeps_terms_then a.terms b.terms;
  }

  pub calls_more : (few most : ℕ) {old new : D} → few ≤ most → CutsAndSyncs few meaning old new → CutsAndSyncs most meaning old new
  calls_more few most enough a = record {
    done = (a.done.0, omega (arith, enough, a.done.1), a.done.2);
    written = a.written;
    terms = a.terms;
  }

  pub calls_none : (most : ℕ) (disk : D) → CutsAndSyncs most meaning disk disk
  calls_none most disk = record {
    done = (0, omega arith, none_more (meaning.done disk));
    written = refl;
    terms = record { tells = refl; bound = refl; limit = refl };
  }
