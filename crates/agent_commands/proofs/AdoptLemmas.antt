-- Settings of a file that was read before.
use Rattle.std.proofs.Common.{◌≡◌, ℕ, List, IsTrue, refl, sym, subst, inl, inr}
use Rattle.checkpoint_store.specs.Limits.{output_limit}
use Rattle.outside.proofs.Passing.{passes_after_same, passes_before_same, passes_by}
use Rattle.outside.specs.Crash.{Passes}
use Rattle.outside.specs.Image.{Image, Same}
use Rattle.outside.specs.Images.{Images}
use Rattle.outside.specs.declared.disk.DiskFile.{DiskFile}
use Rattle.outside.specs.declared.disk.DiskFile.TheVariants as file
use Rattle.poll_core.specs.AdoptCause.{IsOfKept, IsOfNext}
use Rattle.poll_core.specs.AdoptFaults.{IsNextRefusal, IsUnadopted}
use Rattle.poll_core.specs.Adopting.{IsAdopted, MayAdopt}
use Rattle.poll_core.specs.declared.adopt_fault.AdoptFault.{AdoptFault}
use Rattle.poll_core.specs.declared.adopted.Adopted.{Adopted}
use Rattle.slot_store.specs.Committed.{LeavesOne}
use Rattle.slot_store.specs.Synced.{EachLeft}
use Rattle.agent_commands.specs.Adopt.{AdoptPasses, HasAdopted, IsAdoptRefusal, IsAdoptingFault}
use Rattle.agent_commands.proofs.FaultLemmas.{HasRead}

pub may_adopt_same : (text : List ℕ) (image : Image DiskFile) → MayAdopt text output_limit image image
may_adopt_same text image = record {
  settings = refl;
  choice = inl (record { there = λ there found. found; output = λ there found. refl });
}

module _ {D : Type 0} (images : Images DiskFile D) (old mid : D) where
  -- nothing was written
  pub same_adopts : Passes images Same old mid → AdoptPasses images old mid
  same_adopts read = λ told. passes_by read (λ x y left same. subst (λ z. MayAdopt (images.seen old file.Settings) output_limit x z) (sym same) (may_adopt_same (images.seen old file.Settings) x))

  module _ (text : List ℕ) (read : HasRead images old mid text) (new : D) where
    pub read_adopts : Passes images (MayAdopt text output_limit) mid new → AdoptPasses images old new
    read_adopts adopts = λ told. subst (λ (t : List ℕ). Passes images (MayAdopt t output_limit) old new) (read.text_is told) (passes_after_same read.crash adopts (may_adopt_same text))

    pub read_adopted : (adopted : Adopted) → EachLeft images new (IsAdopted text output_limit adopted (images.seen mid)) → LeavesOne images new → HasAdopted images old new adopted
    read_adopted adopted each one = record {
      each = λ told.
          subst (λ (t : List ℕ). EachLeft images new (IsAdopted t output_limit adopted (images.seen old))) (read.text_is told)
          (subst (λ (image : Image DiskFile). EachLeft images new (IsAdopted text output_limit adopted image)) read.seen each);
      one = one;
    }

    pub read_refused : (fault : AdoptFault) → IsNextRefusal text fault → (IsTrue (images.tells mid) → IsOfKept fault → IsUnadopted text output_limit (images.seen mid) fault) → IsAdoptingFault images old fault
    read_refused fault next kept = record {
      of_next = λ told. subst (λ (t : List ℕ). IsNextRefusal t fault) (read.text_is told) next;
      of_kept = λ told of_kept.
          subst (λ (t : List ℕ). IsUnadopted t output_limit (images.seen old) fault) (read.text_is told)
          (subst (λ (image : Image DiskFile). IsUnadopted text output_limit image fault) read.seen (kept (subst IsTrue (sym read.tells) told) of_kept));
    }

    pub read_untouched : (fault : AdoptFault) → (IsOfNext fault → new ≡ mid) → (IsOfKept fault → Passes images Same mid new) → IsAdoptRefusal fault → Passes images Same old new
    read_untouched fault next kept (inl of_next) = subst (λ (d : D). Passes images Same old d) (sym (next of_next)) read.crash
    read_untouched fault next kept (inr of_kept) = passes_before_same read.crash (kept of_kept)
