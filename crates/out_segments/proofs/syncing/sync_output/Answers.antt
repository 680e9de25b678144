use Rattle.std.proofs.Common.{◌≡◌, ◌≤◌, ℕ, IsTrue, length, subst, sym, ap, inl, inr, arith, ◌∙◌}
use Rattle.std.proofs.lemmas.Bool.{cases_eq}
use Rattle.outside.specs.Image.{Image}
use Rattle.out_segments.specs.declared.parts.PartFile.{PartFile}
use Rattle.out_segments.specs.declared.parts.PartFile.TheVariants.{Part}
use Rattle.out_segments.proofs.Changing.{durable_read, only_read_then}
use Rattle.out_segments.proofs.Outputs.{output_kept, output_alike}
use Rattle.out_segments.proofs.Settling.{settled_read, settled_more}
use Rattle.out_segments.proofs.syncing.sync_output.Goals as goal

pub returns-then-last-size-clause-settled : goal.returns-then-last-size-clause-settled
returns-then-last-size-clause-settled g c = settled_read c.args.size c.loop-place.place c.loop-place.invariant.settled (only_read_then c.sync_part.ensures.only_read c.length_of.ensures.only_read)

pub returns-then-last-size-clause-durable : goal.returns-then-last-size-clause-durable
returns-then-last-size-clause-durable g c = record {
  each = λ image left.
      let seen = g.P.Parts.meaning.images.seen in
      let now = c.length_of.new.parts in
      let place = c.loop-place.place in
      let read = only_read_then c.sync_part.ensures.only_read c.length_of.ensures.only_read in
      let settled = settled_read c.args.size place c.loop-place.invariant.settled read in
      let told = subst IsTrue c.length_of.ensures.only_read.terms.tells (g.met.P.Parts.told now image left) in
      let same = ap (λ (i : Image PartFile). length (i (Part place))) c.length_of.ensures.only_read.seen in
      let durable : (number : ℕ) → number ≤ place → image (Part number) ≡ seen now (Part number) = λ number early. elim (cases_eq number place) [
        | inl here ↦
            (let Q : ℕ → Type 0 = λ n. image (Part n) ≡ seen now (Part n) in
            subst Q (sym here) (durable_read c.in_ok-sync_part.ensures.durable c.length_of.ensures.only_read image left))
        | inr apart ↦ (settled number (omega (arith, early, apart))).0 image left
      ] in
      output_kept c.args.size place (seen now) image (omega (arith, c.loop-place-test.true)) (omega (arith, same, c.in_ok-last.ensures.length told, c.if-last-size.true)) durable;
}

pub loop-place-preserved : goal.loop-place-preserved
loop-place-preserved g c =
    let read = only_read_then c.sync_part.ensures.only_read c.length_of.ensures.only_read in
    let place = c.loop-place.place in
    record {
      only_read = only_read_then c.loop-place.invariant.only_read read;
      cause = c.in_ok-last.ensures.cause ∙ c.in_ok-sync_part.ensures.cause ∙ c.loop-place.invariant.cause;
      settled = settled_more g.P.Parts.meaning.images c.length_of.new.parts c.args.size place
          (settled_read c.args.size place c.loop-place.invariant.settled read)
          (durable_read c.in_ok-sync_part.ensures.durable c.length_of.ensures.only_read)
          (λ told.
          let before = subst IsTrue c.length_of.ensures.only_read.terms.tells told in
          omega (arith, ap (λ (i : Image PartFile). length (i (Part place))) c.length_of.ensures.only_read.seen, c.in_ok-last.ensures.length before, c.if-last-size.false));
    }

pub returns-clause-durable : goal.returns-clause-durable
returns-clause-durable g c = record {
  each = λ image left. output_alike c.args.size (g.P.Parts.meaning.images.seen c.sync_part-2.new.parts) image (λ number early. elim (cases_eq number c.loop-place.place) [
    | inl here ↦
        (let Q : ℕ → Type 0 = λ n. image (Part n) ≡ g.P.Parts.meaning.images.seen c.sync_part-2.new.parts (Part n) in
        subst Q (sym here) (c.in_ok-sync_part-2.ensures.durable image left))
    | inr apart ↦ (settled_read c.args.size c.loop-place.place c.loop-place.invariant.settled c.sync_part-2.ensures.only_read number (omega (arith, early, apart, c.loop-place-test.false))).0 image left
  ]);
}
