-- Where the reader stops.
use Rattle.std.proofs.Common.{◌≡◌, ℕ, ◌+◌, ◌<◌, ◌≤◌, List, [], ◌∷◌, ◌++◌, ◌∙◌, ap, sym, refl, subst, length, take, drop, get_or, Option, None, Some, option_and_then, add-one, arith, take-suc}
use Rattle.std.proofs.Math.Seq.{take-length}
use Rattle.std.proofs.lemmas.List.{take-append-drop}
use Rattle.field_paths.specs.declared.path.Root.{Root}
use Rattle.field_paths.specs.Place.{Place}
use Rattle.field_paths.specs.PathText.{IsPathText, BeginsPathText, IsFaultAt}
use Rattle.field_paths.specs.Reader.{State, start, step, steps, names_read}
use Rattle.field_paths.proofs.Seen.{seen_all}
use Rattle.field_paths.proofs.Whole.{whole_from, goes_on_from}
use Rattle.field_paths.proofs.Complete.{read}

steps-append : (s : State) (front back : List ℕ) → steps s (front ++ back) ≡ option_and_then (λ next. steps next back) (steps s front)
steps-append s [] back = refl
steps-append s (byte ∷ front) back = by (step s byte) (λ (next : State). steps-append next front back)
  where
    by : (r : Option State) → ((next : State) → steps next (front ++ back) ≡ option_and_then (λ next. steps next back) (steps next front))
        → option_and_then (λ next. steps next (front ++ back)) r ≡ option_and_then (λ next. steps next back) (option_and_then (λ next. steps next front) r)
    by None rec = refl
    by (Some next) rec = rec next

-- one byte more
pub steps_more : (text : List ℕ) (at : ℕ) (s : State) → at < length text → steps start (take at text) ≡ Some s → steps start (take (at + 1) text) ≡ step s (get_or text at 0)
steps_more text at s l e = rw (add-one, take-suc text at 0 l)
    (steps-append start (take at text) (get_or text at 0 ∷ []) ∙ ap (option_and_then (λ (next : State). steps next (get_or text at 0 ∷ []))) e ∙ last (step s (get_or text at 0)))
  where
    last : (r : Option State) → option_and_then (λ (next : State). steps next []) r ≡ r
    last None = refl
    last (Some next) = refl

-- where the reader is stuck, no path follows
stuck : (front rest : List ℕ) (place : Place) → steps start front ≡ None → IsPathText (front ++ rest) place → ⊥
stuck front rest place e is =
    let r = read (front ++ rest) place is in
    let none : steps start (front ++ rest) ≡ None = steps-append start front rest ∙ ap (option_and_then (λ (next : State). steps next rest)) e in
    let some : steps start (front ++ rest) ≡ Some r.end = r.reads in
    cc (none, some)

pub fault_within : (text : List ℕ) (at : ℕ) (s : State) → at < length text → steps start (take at text) ≡ Some s → step s (get_or text at 0) ≡ None → IsFaultAt text at
fault_within text at s l e none =
    let here : steps start (take (at + 1) text) ≡ None = steps_more text at s l e ∙ none in
    record {
      no_path = λ (place : Place) (is : IsPathText text place). stuck (take (at + 1) text) (drop (at + 1) text) place here (subst (λ (t : List ℕ). IsPathText t place) (sym (take-append-drop (at + 1) text)) is);
      within = omega arith;
      before = goes_on_from s.phase s (take at text) (seen_all s (take at text) e);
      not_past = λ (_ : at < length text) (b : BeginsPathText (take (at + 1) text)). stuck (take (at + 1) text) b.rest b.place here b.goes_on;
    }

pub fault_at_end : (text : List ℕ) (s : State) → steps start text ≡ Some s → names_read s ≡ None → IsFaultAt text (length text)
fault_at_end text s e none = record {
  no_path = λ (place : Place) (is : IsPathText text place). unfinished place (read text place is).end (read text place is).reads (read text place is).names_are;
  within = omega arith;
  before = rw (take-length text) (goes_on_from s.phase s text (seen_all s text e));
  not_past = λ (l : length text < length text) (_ : BeginsPathText (take (length text + 1) text)). absurd (omega arith);
}
  where
    unfinished : (place : Place) (end : State) → steps start text ≡ Some end → names_read end ≡ Some place.names → ⊥
    unfinished place end e' n = let same : s ≡ end = cc (e, e') in let other : names_read end ≡ None = subst (λ (u : State). names_read u ≡ None) same none in cc (n, other)

pub path_read : (text : List ℕ) (s : State) (names : List (List ℕ)) → steps start text ≡ Some s → names_read s ≡ Some names → IsPathText text (record { root = s.root; names = names })
path_read text s names e n = whole_from s.phase s text names (seen_all s text e) n

-- a text is of one path
pub one_path : (text : List ℕ) (place other : Place) → IsPathText text place → IsPathText text other → place ≡ other
one_path text place other p q =
    let a = read text place p in
    let b = read text other q in
    let ends : a.end ≡ b.end = cc (a.reads, b.reads) in
    let roots : place.root ≡ other.root = sym a.root_is ∙ ap (λ (u : State). u.root) ends ∙ b.root_is in
    let both : Some place.names ≡ Some other.names = sym a.names_are ∙ ap names_read ends ∙ b.names_are in
    let names : place.names ≡ other.names = cc both in
    let with_root : Root → Place = λ root. record { root = root; names = place.names } in
    let with_names : List (List ℕ) → Place = λ names. record { root = other.root; names = names } in
    ap with_root roots ∙ ap with_names names

pub whole_read : (text : List ℕ) (at : ℕ) (s : State) → length text ≤ at → at ≤ length text → steps start (take at text) ≡ Some s → steps start text ≡ Some s
whole_read text at s low high e = let same : at ≡ length text = omega arith in ap (steps start) (sym (ap (λ (n : ℕ). take n text) same ∙ take-length text)) ∙ e
