-- Counts of calls and of bytes, over several calls.
use Rattle.std.proofs.Common.{◌≡◌, ◌⊎◌, ℕ, ◌+◌, ◌<◌, ◌≤◌, Option, Some, None, Result, Ok, Err, IsErr, refl, ◌∙◌, ap, subst, inl, inr, arith}
use Rattle.std.proofs.lemmas.Bool.{false≢true}
use Rattle.std.specs.Prelude.{option_map}
use Rattle.outside.specs.Count.{raised}
use Rattle.outside.specs.DiskCalls.{written_after}
use Rattle.outside.specs.declared.disk.DiskFile.{DiskFile}
use Rattle.outside.specs.declared.disk.DiskFile.TheVariants.{Settings, Output, SlotA, SlotB}
use Rattle.slot_store.specs.Counted.{DoneMore, DoneFewer, HasDone, HasWritten}

pub done_more_then : (first second : ℕ) (start mid end : Option ℕ) → DoneMore first start mid → DoneMore second mid end → DoneMore (first + second) start end
done_more_then first second start mid end a b = b ∙ ap (λ count. option_map (λ n. n + second) count) a ∙ twice start
  where
    twice : (count : Option ℕ) → option_map (λ n. n + second) (option_map (λ n. n + first) count) ≡ option_map (λ n. n + (first + second)) count
    twice None = refl
    twice (Some n) = ap (λ m. Some m) (omega arith)

pub raised_twice : (count first second : ℕ) → raised (raised count first) second ≡ raised count (first + second)
raised_twice count first second = omega arith

pub raised_more : (first second : ℕ) (count : Option ℕ) → option_map (λ n. raised n second) (option_map (λ n. raised n first) count) ≡ option_map (λ n. raised n (first + second)) count
raised_more first second None = refl
raised_more first second (Some n) = ap (λ m. Some m) (raised_twice n first second)

pub written_twice : (file : DiskFile) (first second : ℕ) (count : Option ℕ) → written_after file second (written_after file first count) ≡ written_after file (first + second) count
written_twice Settings first second count = refl
written_twice Output first second count = refl
written_twice SlotA first second count = raised_more first second count
written_twice SlotB first second count = raised_more first second count

pub written_then : (file : DiskFile) (first second : ℕ) (start mid end : Option ℕ) → mid ≡ written_after file first start → end ≡ written_after file second mid → end ≡ written_after file (first + second) start
written_then file first second start mid end a b = b ∙ ap (λ count. written_after file second count) a ∙ written_twice file first second start

pub done_err : {T E : Type 0} (result : Result T E) (calls some : ℕ) (before after : Option ℕ) → IsErr result → some < calls → DoneMore some before after → HasDone result calls before after
done_err (Ok _) calls some before after is_err few more = absurd (false≢true is_err)
done_err (Err _) calls some before after is_err few more = (some, few, more)

pub unwritten_err : {T E : Type 0} (result : Result T E) (file : DiskFile) (size : ℕ) (before after : Option ℕ) → IsErr result → after ≡ before → HasWritten result file size before after
unwritten_err (Ok _) file size before after is_err same = absurd (false≢true is_err)
unwritten_err (Err _) file size before after is_err same = inl same

pub written_err : {T E : Type 0} (result : Result T E) (file : DiskFile) (size some : ℕ) (before after : Option ℕ) → IsErr result → some ≤ size → after ≡ written_after file some before → HasWritten result file size before after
written_err (Ok _) file size some before after is_err few more = absurd (false≢true is_err)
written_err (Err _) file size some before after is_err few more = inr (some, few, more)

-- a byte first, and then some of the rest
pub written_halves : {T E : Type 0} (result : Result T E) (file free : DiskFile) (body size : ℕ) (start mid end : Option ℕ) → IsErr result → file ≡ free → body + 2 ≤ size → mid ≡ written_after file 1 start → ((end ≡ mid) ⊎ ((some : ℕ) × (some ≤ body + 1) × (end ≡ written_after file some mid))) → HasWritten result free size start end
written_halves result file free body size start mid end is_err file_is within first (inl same) =
    written_err result free size 1 start end is_err (omega arith) (same ∙ first ∙ ap (λ one. written_after one 1 start) file_is)
written_halves result file free body size start mid end is_err file_is within first (inr (some, few, more)) =
    written_err result free size (1 + some) start end is_err (omega arith) (written_then file 1 some start mid end first more ∙ ap (λ one. written_after one (1 + some) start) file_is)

pub written_whole : (file free : DiskFile) (body size : ℕ) (start mid end : Option ℕ) → file ≡ free → body + 2 ≡ size → mid ≡ written_after file 1 start → end ≡ written_after file (body + 1) mid → end ≡ written_after free size start
written_whole file free body size start mid end file_is size_is first second =
    let sum : 1 + (body + 1) ≡ size = omega arith in
    written_then file 1 (body + 1) start mid end first second ∙ ap (λ one. written_after one (1 + (body + 1)) start) file_is ∙ ap (λ all. written_after free all start) sum

-- So many calls succeeded, and some more.
pub not_fewer : (calls some : ℕ) (start mid end : Option ℕ) → DoneMore calls start mid → DoneMore some mid end → DoneFewer calls start end → ⊥
not_fewer calls some start mid end first second fewer = by_start start (second ∙ ap (λ count. option_map (λ n. n + some) count) first) fewer
  where
    by_start : (start : Option ℕ) → end ≡ option_map (λ n. n + some) (option_map (λ n. n + calls) start) → DoneFewer calls start end → ⊥
    by_start None e fewer = fewer
    by_start (Some n) e fewer =
        let P : Option ℕ → Type 0 = λ count. DoneFewer calls (Some n) count in
        let below : n + calls + some < n + calls = subst P e fewer in
        absurd (omega arith)
