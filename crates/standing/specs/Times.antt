-- The times of lines.
use Rattle.std.specs.Prelude.{◌≡◌, ℕ, ◌≤◌, List, [], ◌∷◌, Bool, Option, None, Some, is_some, IfSome, All, ⊤}
use Rattle.standing.specs.Marks.{Mark}

-- a line has a time exactly where this says so
abbrev pub HaveTimes : List Bool → List Mark → Type 0
HaveTimes [] [] = ⊤
HaveTimes [] (mark ∷ marks) = ⊥
HaveTimes (stamped ∷ flags) [] = ⊥
HaveTimes (stamped ∷ flags) (mark ∷ marks) = (is_some mark.observed ≡ stamped) × HaveTimes flags marks

-- no time is greater
abbrev pub NoneLater : ℕ → List Mark → Type 0
NoneLater time marks = All (λ (mark : Mark). IfSome mark.observed (λ t. t ≤ time)) marks

abbrev pub IsNotBefore : Option ℕ → Option ℕ → Type 0
IsNotBefore None later = ⊤
IsNotBefore (Some time) None = ⊤
IsNotBefore (Some time) (Some later) = time ≤ later

-- no time is less than one before it
abbrev pub NeverFall : List Mark → Type 0
NeverFall [] = ⊤
NeverFall (mark ∷ marks) = All (λ (later : Mark). IsNotBefore mark.observed later.observed) marks × NeverFall marks

pub record AreTimed (flags : List Bool) (marks : List Mark) : Type 0 where
  pub have : HaveTimes flags marks
  pub never_fall : NeverFall marks

-- no time of theirs is greater than that of a poll, where it has one
abbrev pub AreBefore : Option ℕ → List Mark → Type 0
AreBefore None marks = ⊤
AreBefore (Some time) marks = NoneLater time marks
