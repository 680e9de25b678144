-- What each state of the reader means for the text: it may go on, or be whole.
use Rattle.std.proofs.Common.{◌≡◌, ℕ, ◌≤◌, List, [], ◌∷◌, ◌++◌, ◌∙◌, ap, sym, refl, subst, length, take, drop, Some, IsTrue, inl, inr, append_assoc, arith}
use Rattle.std.proofs.lemmas.List.{append-nil, take-append-drop}
use Rattle.field_paths.specs.declared.path.Root.{Root}
use Rattle.field_paths.specs.declared.path.Root.TheVariants.{Body}
use Rattle.field_paths.specs.declared.read.Phase.{Phase}
use Rattle.field_paths.specs.declared.read.Phase.TheVariants as phase
use Rattle.field_paths.specs.PathText.{InARow, root_name, is_name_byte, is_quote, is_escaped, WritesByte, WritesMember, IsPathText, BeginsPathText}
use Rattle.field_paths.specs.Reader.{State, names_from}
use Rattle.field_paths.proofs.Rows.{row_push}
use Rattle.field_paths.proofs.Seen.{Inside, SeenFrom, member_whole}

whole_between : (root : Root) (names : List (List ℕ)) (text : List ℕ) → (a : List ℕ) × (text ≡ root_name root ++ a) × InARow WritesMember a names × (length names ≤ 32) → IsPathText text (record { root = root; names = names })
whole_between root names text w = record { members = w.0; is = w.1; in_a_row = w.2; few = w.3 }

whole_named : (s : State) (text : List ℕ) → SeenFrom phase.Name s text → IsPathText text (record { root = s.root; names = s.names ++ s.name ∷ [] })
whole_named s text seen = whole_between s.root (s.names ++ s.name ∷ []) text (member_whole s (46 ∷ s.name) text seen.0 (inl (refl, seen.1, seen.2)))

pub whole_from : (p : Phase) (s : State) (text : List ℕ) (names : List (List ℕ)) → SeenFrom p s text → names_from p s ≡ Some names → IsPathText text (record { root = s.root; names = names })
whole_from phase.Start s text names seen h = absurd (cc h)
whole_from (phase.Root matched) s text names seen h = absurd (cc h)
whole_from phase.Between s text names seen h = let e : s.names ≡ names = cc h in subst (λ (n : List (List ℕ)). IsPathText text (record { root = s.root; names = n })) e (whole_between s.root s.names text seen)
whole_from phase.Dot s text names seen h = absurd (cc h)
whole_from phase.Name s text names seen h = let e : s.names ++ s.name ∷ [] ≡ names = cc h in subst (λ (n : List (List ℕ)). IsPathText text (record { root = s.root; names = n })) e (whole_named s text seen)
whole_from phase.Bracket s text names seen h = absurd (cc h)
whole_from (phase.Quoted quote) s text names seen h = absurd (cc h)
whole_from (phase.Escape quote) s text names seen h = absurd (cc h)
whole_from phase.Closing s text names seen h = absurd (cc h)

-- a member that is begun may be ended
ended : (s : State) (b front rest name : List ℕ) → Inside s b front → WritesMember (b ++ rest) name → BeginsPathText front
ended s b front rest name i w =
    let inside : Inside (record s { name = name }) (b ++ rest) (front ++ rest) = (i.0, ap (λ (t : List ℕ). t ++ rest) i.1 ∙ (simp append_assoc), i.2, i.3) in
    record {
      rest = rest;
      place = record { root = s.root; names = s.names ++ name ∷ [] };
      goes_on = whole_between s.root (s.names ++ name ∷ []) (front ++ rest) (member_whole (record s { name = name }) (b ++ rest) (front ++ rest) inside w);
    }

body_goes_on : (front : List ℕ) → front ≡ [] → BeginsPathText front
body_goes_on front e = record {
  rest = root_name Body;
  place = record { root = Body; names = [] };
  goes_on = record { members = []; is = ap (λ (t : List ℕ). t ++ root_name Body) e ∙ sym (append-nil (root_name Body)); in_a_row = refl; few = omega arith };
}

root_goes_on : (root : Root) (matched : ℕ) (front : List ℕ) → front ≡ take matched (root_name root) → BeginsPathText front
root_goes_on root matched front e = record {
  rest = drop matched (root_name root);
  place = record { root = root; names = [] };
  goes_on = record { members = []; is = ap (λ (t : List ℕ). t ++ drop matched (root_name root)) e ∙ take-append-drop matched (root_name root) ∙ sym (append-nil (root_name root)); in_a_row = refl; few = omega arith };
}

between_goes_on : (s : State) (front : List ℕ) → SeenFrom phase.Between s front → BeginsPathText front
between_goes_on s front seen = record { rest = []; place = record { root = s.root; names = s.names }; goes_on = rw append-nil (whole_between s.root s.names front seen) }

-- the quote that ends a name, and the bracket
bracketed : (s : State) (quote : ℕ) (inner name b front rest : List ℕ) → IsTrue (is_quote quote) → InARow (WritesByte quote) inner name → Inside s b front
    → b ++ rest ≡ 91 ∷ quote ∷ (inner ++ quote ∷ 93 ∷ []) → BeginsPathText front
bracketed s quote inner name b front rest q row i e = ended s b front rest name i (inr (quote, inner, q, e, row))

pub goes_on_from : (p : Phase) (s : State) (front : List ℕ) → SeenFrom p s front → BeginsPathText front
unfolding is_name_byte is_quote is_escaped
goes_on_from phase.Start s front seen = body_goes_on front seen.0
goes_on_from (phase.Root matched) s front seen = root_goes_on s.root matched front seen.1
goes_on_from phase.Between s front seen = between_goes_on s front seen
goes_on_from phase.Dot s front seen = ended s (46 ∷ []) front (97 ∷ []) (97 ∷ []) seen.0 (inl (refl, (λ (e : 97 ∷ [] ≡ []). cc e), refl))
goes_on_from phase.Name s front seen = record { rest = []; place = record { root = s.root; names = s.names ++ s.name ∷ [] }; goes_on = rw append-nil (whole_named s front seen) }
goes_on_from phase.Bracket s front seen = bracketed s 34 [] [] (91 ∷ []) front (34 ∷ 34 ∷ 93 ∷ []) refl refl seen.0 refl
goes_on_from (phase.Quoted quote) s front seen = bracketed s quote seen.0 s.name (91 ∷ quote ∷ seen.0) front (quote ∷ 93 ∷ []) seen.1 seen.2 seen.3 refl
goes_on_from (phase.Escape quote) s front seen =
    bracketed s quote (seen.0 ++ 92 ∷ 92 ∷ []) (s.name ++ 92 ∷ []) (91 ∷ quote ∷ (seen.0 ++ 92 ∷ [])) front (92 ∷ quote ∷ 93 ∷ []) seen.1
    (row_push (WritesByte quote) seen.0 (92 ∷ 92 ∷ []) s.name 92 seen.2 (inr (refl, refl))) seen.3 (simp append_assoc)
goes_on_from phase.Closing s front seen = bracketed s seen.0 seen.1 s.name (91 ∷ seen.0 ∷ (seen.1 ++ seen.0 ∷ [])) front (93 ∷ []) seen.2 seen.3 seen.4 (simp append_assoc)
