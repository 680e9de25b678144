-- Calls that only read, one after another.
use Rattle.std.proofs.Common.{refl, ◌∙◌}
use Rattle.outside.proofs.Passing.{passes_none, passes_before_same}
use Rattle.outside.specs.DiskMeaning.{DiskMeaning}
use Rattle.slot_store.specs.OnlyRead.{OnlyRead, KeepsTerms}

module _ {D : Type 0} {meaning : DiskMeaning D} where
  pub only_read_none : (disk : D) → OnlyRead meaning disk disk
  only_read_none disk = record {
    seen = refl;
    tells = refl;
    crash = passes_none disk;
    bound = refl;
    done = refl;
    limit = refl;
    written = refl;
  }

  pub only_read_then : {old mid new : D} → OnlyRead meaning old mid → OnlyRead meaning mid new → OnlyRead meaning old new
  only_read_then a b = record {
    seen = b.seen ∙ a.seen;
    tells = b.tells ∙ a.tells;
    crash = passes_before_same a.crash b.crash;
    bound = b.bound ∙ a.bound;
    done = b.done ∙ a.done;
    limit = b.limit ∙ a.limit;
    written = b.written ∙ a.written;
  }

  pub keeps_terms_then : {old mid new : D} → KeepsTerms meaning old mid → KeepsTerms meaning mid new → KeepsTerms meaning old new
  keeps_terms_then a b = record {
    tells = b.tells ∙ a.tells;
    bound = b.bound ∙ a.bound;
    limit = b.limit ∙ a.limit;
  }
