-- What calls of a pass do to a disk, one after another.
use Rattle.std.proofs.Common.{◌≡◌, ℕ, ◌≤◌, List, [], ◌∷◌, ◌++◌, length, Option, Some, None, IsTrue, refl, sym, ap, subst, ◌∙◌, arith, length-append, append_assoc}
use Rattle.std.proofs.lemmas.List.{append-nil}
use Rattle.outside.specs.DiskMeaning.{DiskMeaning}
use Rattle.outside.specs.Image.{Image, AtFile, KeepsFront}
use Rattle.outside.specs.declared.disk.DiskFile.{DiskFile}
use Rattle.outside.specs.declared.disk.DiskFile.TheVariants.{Output}
use Rattle.outside.proofs.Passing.{passes_none, passes_weaker, passes_then}
use Rattle.outside.proofs.Tearing.{at_file_idle, at_file_then, keeps_front_idle, keeps_front_then}
use Rattle.file_pass.specs.DiskTerms.{KeepsDisk, NoFewer, Longer, Appends}

pub no_fewer_none : (count : Option ℕ) → NoFewer count count
no_fewer_none None = tt
no_fewer_none (Some n) = omega arith

pub no_fewer_then : (old mid new : Option ℕ) → NoFewer old mid → NoFewer mid new → NoFewer old new
no_fewer_then None None None a b = tt
no_fewer_then None None (Some n) a b = b
no_fewer_then None (Some m) new a b = absurd a
no_fewer_then (Some k) None new a b = absurd a
no_fewer_then (Some k) (Some m) None a b = b
no_fewer_then (Some k) (Some m) (Some n) a b = omega (arith, a, b)

pub front_idle : (kept : ℕ) (image : Image DiskFile) → AtFile Output (KeepsFront kept) image image
front_idle kept image = at_file_idle Output (KeepsFront kept) image (keeps_front_idle kept (image Output))

pub front_then : (kept : ℕ) (x y z : Image DiskFile) → AtFile Output (KeepsFront kept) x y → AtFile Output (KeepsFront kept) y z → AtFile Output (KeepsFront kept) x z
front_then kept x y z first second = at_file_then first second (keeps_front_then kept (x Output) (y Output) (z Output))

nothing : (front back : List ℕ) → front ++ back ≡ [] → front ≡ []
nothing [] back none = refl
nothing (x ∷ front) back none = absurd (omega (arith, ap length none))

nothing_behind : (front back : List ℕ) → front ++ back ≡ [] → back ≡ []
nothing_behind [] back none = none
nothing_behind (x ∷ front) back none = absurd (omega (arith, ap length none))

module _ {D : Type 0} (meaning : DiskMeaning D) where
  pub keeps_disk_none : (end : ℕ) (disk : D) → KeepsDisk meaning end disk disk
  keeps_disk_none end disk = record {
    terms = record { tells = refl; bound = refl; limit = refl };
    crash = λ kept le. passes_weaker (passes_none disk) (λ x y same. subst (λ (z : Image DiskFile). AtFile Output (KeepsFront kept) x z) (sym same) (front_idle kept x));
    written = refl;
    done = no_fewer_none (meaning.done disk);
  }

  pub keeps_disk_then : (end other : ℕ) (old mid new : D) → end ≤ other → KeepsDisk meaning end old mid → KeepsDisk meaning other mid new → KeepsDisk meaning end old new
  keeps_disk_then end other old mid new le first second = record {
    terms = record {
      tells = second.terms.tells ∙ first.terms.tells;
      bound = second.terms.bound ∙ first.terms.bound;
      limit = second.terms.limit ∙ first.terms.limit;
    };
    crash = λ kept within. passes_then (first.crash kept within) (second.crash kept (omega (arith, within, le))) (λ x y step. step) (front_then kept);
    written = second.written ∙ first.written;
    done = no_fewer_then (meaning.done old) (meaning.done mid) (meaning.done new) first.done second.done;
  }

  pub appends_none : (end : ℕ) (disk : D) → Appends meaning [] end end disk disk
  appends_none end disk = record {
    end_is = omega arith;
    output = λ told. at_file_idle Output (Longer []) (meaning.images.seen disk) (sym (append-nil (meaning.images.seen disk Output)));
    idle = λ none. refl;
  }

  pub appends_then : (added more : List ℕ) (end between after : ℕ) (old mid new : D) → meaning.images.tells mid ≡ meaning.images.tells old
      → Appends meaning added end between old mid → Appends meaning more between after mid new → Appends meaning (added ++ more) end after old new
  appends_then added more end between after old mid new tells first second = record {
    end_is = omega (arith, first.end_is, second.end_is, length-append added more);
    output = λ told. at_file_then (first.output told) (second.output (subst IsTrue (sym tells) told))
        (λ a b. b ∙ ap (λ l. l ++ more) a ∙ append_assoc (meaning.images.seen old Output) added more);
    idle = λ none. second.idle (nothing_behind added more none) ∙ first.idle (nothing added more none);
  }

  pub appends_same : (added other : List ℕ) (end after : ℕ) (old new : D) → added ≡ other → Appends meaning added end after old new → Appends meaning other end after old new
  appends_same added other end after old new same appends = subst (λ (l : List ℕ). Appends meaning l end after old new) same appends

  -- the output ends where it is said to
  pub ends_then : (added : List ℕ) (end after : ℕ) (old new : D) → meaning.images.tells new ≡ meaning.images.tells old → Appends meaning added end after old new
      → (IsTrue (meaning.images.tells old) → length (meaning.images.seen old Output) ≡ end) → IsTrue (meaning.images.tells new) → length (meaning.images.seen new Output) ≡ after
  ends_then added end after old new tells appends ends told =
      let before = subst IsTrue tells told in
      omega (arith, ap length (appends.output before).here, length-append (meaning.images.seen old Output) added, ends before, appends.end_is)
