-- What comes, and how much may be taken, determine what a line asks for.
use Rattle.std.proofs.Common.{◌≡◌, ℕ, ◌+◌, ◌<◌, List, [], ◌∷◌, ◌++◌, length, Bool, true, false, refl, sym, ◌∙◌, ap, subst, inl, inr, arith, length-append}
use Rattle.std.specs.Prelude.{◌⊎◌, ◌||◌}
use Rattle.std.specs.Str.Lines.{strip_carriage_return}
use Rattle.std.proofs.lemmas.List.{append-nil}
use Rattle.std.proofs.lemmas.Bool.{cases_lt}
use Rattle.agent_commands.specs.Control.{has_line_feed, asked_by, TakesLine, TakesLast, TakesNothing, TakesTooMuch, TakesAllAllowed, Takes}
use Rattle.agent_commands.specs.declared.control.Request.{Request}

no_or : (first rest : Bool) → (first || rest) ≡ false → rest ≡ false
no_or true rest none = let never : true ≡ false = none in cc
no_or false rest none = none

-- A text without a line end goes no further than a line.
no_further : (line front new rest : List ℕ) → line ++ 10 ∷ new ≡ front ++ rest → has_line_feed front ≡ false → length line < length front → ⊥
no_further [] [] new rest same none short = omega arith
no_further [] (byte ∷ front) new rest same none short =
    let is : byte ≡ 10 = cc (same) in
    let never : true ≡ false = subst (λ b. has_line_feed (b ∷ front) ≡ false) is none in cc
no_further (byte ∷ line) [] new rest same none short = omega arith
no_further (byte ∷ line) (other ∷ front) new rest same none short =
    let behind : line ++ 10 ∷ new ≡ front ++ rest = cc (same) in
    no_further line front new rest behind (no_or _ _ none) (omega arith)

same_parts : (front other new rest : List ℕ) → front ++ new ≡ other ++ rest → length front ≡ length other → (front ≡ other) × (new ≡ rest)
same_parts [] [] new rest same long = (refl, same)
same_parts [] (byte ∷ other) new rest same long = absurd (omega arith)
same_parts (byte ∷ front) [] new rest same long = absurd (omega arith)
same_parts (byte ∷ front) (next ∷ other) new rest same long =
    let behind : front ++ new ≡ other ++ rest = cc (same) in
    let first : byte ≡ next = cc (same) in
    let parts = same_parts front other new rest behind (omega arith) in
    (cc (first, parts.0), parts.1)

same_lines : (line other new rest : List ℕ) → line ++ 10 ∷ new ≡ other ++ 10 ∷ rest → has_line_feed line ≡ false → has_line_feed other ≡ false → (line ≡ other) × (new ≡ rest)
same_lines line other new rest same one one_other = elim (cases_lt (length line) (length other)) [
  | inl short ↦ absurd (no_further line other new (10 ∷ rest) same one_other short)
  | inr more ↦ elim (cases_lt (length other) (length line)) [
    | inl short ↦ absurd (no_further other line rest (10 ∷ new) (sym same) one short)
    | inr less ↦ (let parts = same_parts line other (10 ∷ new) (10 ∷ rest) same (omega arith) in (parts.0, cc (parts.1)))
  ]
]

size : (front new old : List ℕ) → old ≡ front ++ new → length old ≡ length front + length new
size front new old taken = ap length taken ∙ length-append front new

empty : (old : List ℕ) → old ≡ [] → length old ≡ 0
empty old none = ap length none

module _ (left : ℕ) (one other : Request) (old new rest : List ℕ) where
  line_with : TakesLine left one old new → Takes left other old rest → (one ≡ other) × (new ≡ rest)
  line_with line (inl last) =
      let parts = same_lines line.line last.line new rest (sym line.taken ∙ last.taken) line.one last.one in
      (line.asks ∙ ap (λ text. asked_by (strip_carriage_return text)) parts.0 ∙ sym last.asks, parts.1)
  line_with line (inr (inl last)) = absurd (no_further line.line old new [] (sym line.taken ∙ sym (append-nil old)) last.one (omega (arith, size line.line (10 ∷ new) old line.taken)))
  line_with line (inr (inr (inl none))) = absurd (omega (arith, size line.line (10 ∷ new) old line.taken, empty old none.none_left))
  line_with line (inr (inr (inr (inl much)))) = absurd (no_further line.line much.front new rest (sym line.taken ∙ much.taken) much.one (omega (arith, line.within, much.long)))
  line_with line (inr (inr (inr (inr all)))) = absurd (no_further line.line all.front new rest (sym line.taken ∙ all.taken) all.one (omega (arith, line.allowed, all.all)))

  last_with : TakesLast left one old new → TakesLast left other old rest ⊎ TakesNothing left other old rest ⊎ TakesTooMuch left other old rest ⊎ TakesAllAllowed left other old rest → (one ≡ other) × (new ≡ rest)
  last_with last (inl same) = (last.asks ∙ sym same.asks, last.taken ∙ sym same.taken)
  last_with last (inr (inl none)) = absurd (last.some_left none.none_left)
  last_with last (inr (inr (inl much))) = absurd (omega (arith, last.within, much.long, size much.front rest old much.taken))
  last_with last (inr (inr (inr all))) = absurd (omega (arith, last.sees_end, all.all, size all.front rest old all.taken))

  nothing_with : TakesNothing left one old new → TakesNothing left other old rest ⊎ TakesTooMuch left other old rest ⊎ TakesAllAllowed left other old rest → (one ≡ other) × (new ≡ rest)
  nothing_with none (inl same) = (none.asks ∙ sym same.asks, none.taken ∙ sym same.taken)
  nothing_with none (inr (inl much)) = absurd (omega (arith, empty old none.none_left, much.long, size much.front rest old much.taken))
  nothing_with none (inr (inr all)) = absurd (omega (arith, empty old none.none_left, none.sees_end, all.all, size all.front rest old all.taken))

  much_with : TakesTooMuch left one old new → TakesTooMuch left other old rest ⊎ TakesAllAllowed left other old rest → (one ≡ other) × (new ≡ rest)
  much_with much (inl same) =
      (much.asks ∙ sym same.asks, (same_parts much.front same.front new rest (sym much.taken ∙ same.taken) (much.long ∙ sym same.long)).1)
  much_with much (inr all) = absurd (omega (arith, much.long, much.allowed, all.within, all.all))

  all_with : TakesAllAllowed left one old new → TakesAllAllowed left other old rest → (one ≡ other) × (new ≡ rest)
  all_with all same =
      (all.asks ∙ sym same.asks, (same_parts all.front same.front new rest (sym all.taken ∙ same.taken) (all.all ∙ sym same.all)).1)

flip : {one other : Request} {new rest : List ℕ} → (one ≡ other) × (new ≡ rest) → (other ≡ one) × (rest ≡ new)
flip both = (sym both.0, sym both.1)

pub one_thing : (left : ℕ) (one other : Request) (old new rest : List ℕ) → Takes left one old new → Takes left other old rest → (one ≡ other) × (new ≡ rest)
one_thing left one other old new rest (inl line) b = line_with left one other old new rest line b
one_thing left one other old new rest (inr a) (inl line) = flip (line_with left other one old rest new line (inr a))
one_thing left one other old new rest (inr (inl last)) (inr b) = last_with left one other old new rest last b
one_thing left one other old new rest (inr (inr a)) (inr (inl last)) = flip (last_with left other one old rest new last (inr a))
one_thing left one other old new rest (inr (inr (inl none))) (inr (inr b)) = nothing_with left one other old new rest none b
one_thing left one other old new rest (inr (inr (inr a))) (inr (inr (inl none))) = flip (nothing_with left other one old rest new none (inr a))
one_thing left one other old new rest (inr (inr (inr (inl much)))) (inr (inr (inr b))) = much_with left one other old new rest much b
one_thing left one other old new rest (inr (inr (inr (inr all)))) (inr (inr (inr (inl much)))) = flip (much_with left other one old rest new much (inr all))
one_thing left one other old new rest (inr (inr (inr (inr all)))) (inr (inr (inr (inr same)))) = all_with left one other old new rest all same
