-- What holds unless the tree's count rose, over several calls.
use Rattle.std.proofs.Common.{◌⊎◌, inl, inr, ℕ, Option, None, Some, arith}
use Rattle.outside.proofs.Telling.{told_then, told_weaker}
use Rattle.outside.specs.Count.{NeverFalls}
use Rattle.outside.specs.TreeMeaning.{TreeMeaning}
use Rattle.outside.specs.World.{World, Told}
use Rattle.folder_audit.specs.Inner.Tried.{RoseBy, UnlessRose}

pub told_and : {W : Type 0} (one other : W → W → Type 0) (old new : Option W) → Told one old new → Told other old new → Told (λ x y. one x y × other x y) old new
told_and one other None None a b = tt
told_and one other None (Some y) a b = absurd a
told_and one other (Some x) None a b = absurd a
told_and one other (Some x) (Some y) a b = (a, b)

module _ {T : Type 0} (meaning : TreeMeaning T) where
  pub rose_later : (old mid new : T) (n : ℕ) → NeverFalls (meaning.faults old) (meaning.faults mid) → RoseBy meaning mid new n → RoseBy meaning old new n
  rose_later old mid new n falls rose = omega (arith, falls.later, rose)

  pub rose_earlier : (old mid new : T) (n : ℕ) → NeverFalls (meaning.faults mid) (meaning.faults new) → RoseBy meaning old mid n → RoseBy meaning old new n
  rose_earlier old mid new n falls rose = omega (arith, falls.later, rose)

  pub unless_so : (change holds : World → World → Type 0) (old new : T) → ((x y : World) → change x y → holds x y) → Told change (meaning.world old) (meaning.world new) → UnlessRose meaning holds old new
  unless_so change holds old new so told = told_weaker change (λ x y. RoseBy meaning old new 1 ⊎ holds x y) (meaning.world old) (meaning.world new) (λ x y c. inr (so x y c)) told

  pub unless_rose : (change holds : World → World → Type 0) (old new : T) → RoseBy meaning old new 1 → Told change (meaning.world old) (meaning.world new) → UnlessRose meaning holds old new
  unless_rose change holds old new rose told = told_weaker change (λ x y. RoseBy meaning old new 1 ⊎ holds x y) (meaning.world old) (meaning.world new) (λ x y c. inl rose) told

  pub unless_weaker : (holds weaker : World → World → Type 0) (old new : T) → ((x y : World) → holds x y → weaker x y) → UnlessRose meaning holds old new → UnlessRose meaning weaker old new
  unless_weaker holds weaker old new so told =
      told_weaker (λ x y. RoseBy meaning old new 1 ⊎ holds x y) (λ x y. RoseBy meaning old new 1 ⊎ weaker x y) (meaning.world old) (meaning.world new)
      (λ x y has. elim has [ inl rose ↦ inl rose | inr own ↦ inr (so x y own) ]) told

  pub unless_and : (change holds : World → World → Type 0) (old new : T) → Told change (meaning.world old) (meaning.world new) → UnlessRose meaning holds old new → UnlessRose meaning (λ x y. change x y × holds x y) old new
  unless_and change holds old new told unless =
      told_weaker (λ x y. change x y × (RoseBy meaning old new 1 ⊎ holds x y)) (λ x y. RoseBy meaning old new 1 ⊎ (change x y × holds x y)) (meaning.world old) (meaning.world new)
      (λ x y both. elim both.1 [ inl rose ↦ inl rose | inr own ↦ inr (both.0, own) ])
      (told_and change (λ x y. RoseBy meaning old new 1 ⊎ holds x y) (meaning.world old) (meaning.world new) told unless)

  -- two calls, neither of which failed
  pub unless_both : (first second whole : World → World → Type 0) (old mid new : T) → NeverFalls (meaning.faults old) (meaning.faults mid) → NeverFalls (meaning.faults mid) (meaning.faults new) → ((x y z : World) → first x y → second y z → whole x z)
      → UnlessRose meaning first old mid → UnlessRose meaning second mid new → UnlessRose meaning whole old new
  unless_both first second whole old mid new early late join a b =
      told_then (λ x y. RoseBy meaning old mid 1 ⊎ first x y) (λ x y. RoseBy meaning mid new 1 ⊎ second x y) (λ x y. RoseBy meaning old new 1 ⊎ whole x y) (meaning.world old) (meaning.world mid) (meaning.world new)
      (λ x y z one other. elim one [
        | inl rose ↦ inl (rose_earlier old mid new 1 late rose)
        | inr own ↦ elim other [
          | inl rose ↦ inl (rose_later old mid new 1 early rose)
          | inr its ↦ inr (join x y z own its)
        ]
      ]) a b

  -- one of them may fail
  pub unless_later : (first second whole : World → World → Type 0) (old mid new : T) → NeverFalls (meaning.faults old) (meaning.faults mid) → ((x y z : World) → first x y → second y z → whole x z)
      → Told first (meaning.world old) (meaning.world mid) → UnlessRose meaning second mid new → UnlessRose meaning whole old new
  unless_later first second whole old mid new early join a b =
      told_then first (λ x y. RoseBy meaning mid new 1 ⊎ second x y) (λ x y. RoseBy meaning old new 1 ⊎ whole x y) (meaning.world old) (meaning.world mid) (meaning.world new)
      (λ x y z one other. elim other [ inl rose ↦ inl (rose_later old mid new 1 early rose) | inr its ↦ inr (join x y z one its) ]) a b

  pub unless_earlier : (first second whole : World → World → Type 0) (old mid new : T) → NeverFalls (meaning.faults mid) (meaning.faults new) → ((x y z : World) → first x y → second y z → whole x z)
      → UnlessRose meaning first old mid → Told second (meaning.world mid) (meaning.world new) → UnlessRose meaning whole old new
  unless_earlier first second whole old mid new late join a b =
      told_then (λ x y. RoseBy meaning old mid 1 ⊎ first x y) second (λ x y. RoseBy meaning old new 1 ⊎ whole x y) (meaning.world old) (meaning.world mid) (meaning.world new)
      (λ x y z one other. elim one [ inl rose ↦ inl (rose_earlier old mid new 1 late rose) | inr own ↦ inr (join x y z own other) ]) a b
