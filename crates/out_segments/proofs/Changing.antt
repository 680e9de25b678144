-- Calls on Parts, one after another.
use Rattle.std.proofs.Common.{◌≡◌, IsTrue, refl, sym, ◌∙◌, subst}
use Rattle.outside.specs.Image.{Image}
use Rattle.outside.specs.Images.{Images}
use Rattle.outside.specs.Crash.{Passes, IsDurable}
use Rattle.outside.proofs.Passing.{passes_none, passes_by, passes_then, passes_after_same, passes_before_same}
use Rattle.out_segments.specs.declared.parts.PartFile.{PartFile}
use Rattle.out_segments.specs.Inner.AtOutput.{EachLeft}
use Rattle.out_segments.specs.Inner.Keeping.{KeepsTerms, OnlyRead, Changes}
use Rattle.out_segments.specs.PartsMeaning.{PartsMeaning}

module _ {P : Type 0} {images : Images PartFile P} where
  -- what is left comes from what was left
  pub left_by : {holds after : Image PartFile → Type 0} {change : Image PartFile → Image PartFile → Type 0} {old new : P} → EachLeft images old holds → Passes images change old new → ((x y : Image PartFile) → holds x → change x y → after y) → EachLeft images new after
  left_by left passes step = record { each = λ image now. let past = passes.now_left image now in step past.0 image (left.each past.0 past.1) past.2 }

module _ {P : Type 0} {meaning : PartsMeaning P} where
  terms_none : (parts : P) → KeepsTerms meaning parts parts
  terms_none parts = record { tells = refl; bound = refl; written = refl }

  terms_then : {old mid new : P} → KeepsTerms meaning old mid → KeepsTerms meaning mid new → KeepsTerms meaning old new
  terms_then a b = record { tells = b.tells ∙ a.tells; bound = b.bound ∙ a.bound; written = b.written ∙ a.written }

  pub only_read_none : (parts : P) → OnlyRead meaning parts parts
  only_read_none parts = record { seen = refl; crash = passes_none parts; terms = terms_none parts }

  pub only_read_then : {old mid new : P} → OnlyRead meaning old mid → OnlyRead meaning mid new → OnlyRead meaning old new
  only_read_then a b = record { seen = b.seen ∙ a.seen; crash = passes_before_same a.crash b.crash; terms = terms_then a.terms b.terms }

  pub changes_none : {change : Image PartFile → Image PartFile → Type 0} (parts : P) → ((image : Image PartFile) → change image image) → Changes meaning change parts parts
  changes_none {change} parts idle = record {
    begun = λ told. idle (meaning.images.seen parts);
    crash = passes_by (passes_none parts) (λ x y left same. let Q : Image PartFile → Type 0 = λ z. change x z in subst Q (sym same) (idle x));
    terms = terms_none parts;
  }

  -- nothing but reads
  pub read_changes : {change : Image PartFile → Image PartFile → Type 0} {old new : P} → OnlyRead meaning old new → ((image : Image PartFile) → change image image) → Changes meaning change old new
  read_changes {change} {old} {new} read idle = record {
    begun = λ told. let Q : Image PartFile → Type 0 = λ z. change (meaning.images.seen old) z in subst Q (sym read.seen) (idle (meaning.images.seen old));
    crash = passes_by read.crash (λ x y left same. let Q : Image PartFile → Type 0 = λ z. change x z in subst Q (sym same) (idle x));
    terms = read.terms;
  }

  -- The first call may be cut short before the second begins.
  pub changes_then : {first second whole : Image PartFile → Image PartFile → Type 0} {old mid new : P} → Changes meaning first old mid → Changes meaning second mid new → ((x y : Image PartFile) → first x y → whole x y) → ((x y z : Image PartFile) → first x y → second y z → whole x z) → Changes meaning whole old new
  changes_then {old = old} {mid = mid} {new = new} a b alone both = record {
    begun = λ told. both (meaning.images.seen old) (meaning.images.seen mid) (meaning.images.seen new) (a.begun told) (b.begun (subst IsTrue (sym a.terms.tells) told));
    crash = passes_then a.crash b.crash alone both;
    terms = terms_then a.terms b.terms;
  }

  -- a weaker change, which may use that the old image could be left
  pub changes_by : {change weaker : Image PartFile → Image PartFile → Type 0} {old new : P} → (IsTrue (meaning.images.tells old) → meaning.images.may_leave old (meaning.images.seen old)) → Changes meaning change old new → ((x y : Image PartFile) → meaning.images.may_leave old x → change x y → weaker x y) → Changes meaning weaker old new
  changes_by {old = old} {new = new} shown a weaken = record {
    begun = λ told. weaken (meaning.images.seen old) (meaning.images.seen new) (shown told) (a.begun told);
    crash = passes_by a.crash weaken;
    terms = a.terms;
  }

  pub read_then : {change : Image PartFile → Image PartFile → Type 0} {old mid new : P} → OnlyRead meaning old mid → Changes meaning change mid new → ((image : Image PartFile) → change image image) → Changes meaning change old new
  read_then {change} {old} {mid} {new} read a idle = record {
    begun = λ told. let Q : Image PartFile → Type 0 = λ z. change z (meaning.images.seen new) in subst Q read.seen (a.begun (subst IsTrue (sym read.terms.tells) told));
    crash = passes_after_same read.crash a.crash idle;
    terms = terms_then read.terms a.terms;
  }

  pub then_read : {change : Image PartFile → Image PartFile → Type 0} {old mid new : P} → Changes meaning change old mid → OnlyRead meaning mid new → Changes meaning change old new
  then_read {change} {old} {mid} {new} a read = record {
    begun = λ told. let Q : Image PartFile → Type 0 = λ z. change (meaning.images.seen old) z in subst Q (sym read.seen) (a.begun told);
    crash = passes_before_same a.crash read.crash;
    terms = terms_then a.terms read.terms;
  }

  pub left_read : {holds : Image PartFile → Type 0} {old new : P} → EachLeft meaning.images old holds → OnlyRead meaning old new → EachLeft meaning.images new holds
  left_read {holds} left read = left_by left read.crash (λ x y is same. subst holds (sym same) is)

  pub durable_read : {file : PartFile} {old new : P} → IsDurable meaning.images file old → OnlyRead meaning old new → IsDurable meaning.images file new
  durable_read {file} {old} {new} durable read image left =
      let past = read.crash.now_left image left in
      let at : (x y : Image PartFile) → x ≡ y → x file ≡ y file = λ x y same. subst (λ (z : Image PartFile). x file ≡ z file) same refl in
      at image past.0 past.2 ∙ durable past.0 past.1 ∙ sym (at (meaning.images.seen new) (meaning.images.seen old) read.seen)
