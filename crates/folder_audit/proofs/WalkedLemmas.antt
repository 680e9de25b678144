-- Which rows are found by the paths of a walk, one after another.
use Rattle.std.proofs.Common.{◌≡◌, ◌⊎◌, inl, inr, ℕ, ◌+◌, ◌<◌, List, [], ◌∷◌, ◌++◌, length, take, get_or, refl, sym, ap, subst, ◌∙◌, arith, append_assoc}
use Rattle.std.specs.Prelude.{Option, None, Some, Contains}
use Rattle.std.proofs.lemmas.List.{take_more}
use Rattle.std.proofs.lemmas.List.Elements.{Contains-append_right, Contains-push_cases}
use Rattle.std.proofs.lemmas.Option.{slice_get_within}
use Rattle.outside.specs.Seen.{left_unlisted}
use Rattle.outside.specs.TreeMeaning.{TreeMeaning}
use Rattle.outside.specs.World.{Event, create, append, rename, remove, look, miss, unlisted, History, World, Told}
use Rattle.outside.specs.declared.tree.Kind.TheVariants.{File}
use Rattle.pipeline.specs.declared.Pipeline.{Pipeline}
use Rattle.standing.proofs.MomentLemmas.{later_none, later_then}
use Rattle.standing.specs.Included.{IsIncluded}
use Rattle.standing.specs.Moments.{IsLater, NamesThroughout}
use Rattle.standing.specs.Rows.{Row, IsRowAt}
use Rattle.tree_walk.proofs.Lists.{contains_behind, contains_first}
use Rattle.tree_walk.specs.Calls.{KeepsHandles}
use Rattle.tree_walk.specs.Listings.{Failures}
use Rattle.tree_walk.specs.Patterns.{Patterns}
use Rattle.tree_walk.specs.Times.{WasAlways}
use Rattle.tree_walk.specs.Walked.{FindsIn, IsHidden}
use Rattle.folder_audit.specs.KeptFiles.{IsLast}
use Rattle.folder_audit.specs.Open.{GoesOn}
use Rattle.folder_audit.specs.Inner.Tried.{FindsRow, FindsAll, FindsDue, FindsPath, FindsWalked, IsDue, IsIn, IsOf, RoseBy, UnlessRose}
use Rattle.folder_audit.specs.declared.findings.Finding.{Finding}
use Rattle.folder_audit.specs.declared.kept.Kept.{Kept}
use Rattle.folder_audit.proofs.TriedLemmas.{kind_named}
use Rattle.folder_audit.proofs.UnlessLemmas.{rose_later}

-- ---- a part of the time

named_first : (old mid new : History) (path : List ℕ) (file : ℕ) → IsLater mid new → NamesThroughout old new path file → NamesThroughout old mid path file
named_first old mid new path file later named = λ moment after before. named moment after (later_then moment mid new before later)

named_last : (old mid new : History) (path : List ℕ) (file : ℕ) → IsLater old mid → NamesThroughout old new path file → NamesThroughout mid new path file
named_last old mid new path file later named = λ moment after before. named moment (later_then old mid moment later after) before

finds_on : (kept : Kept) (One Other : ℕ → Type 0) (file : ℕ) (old mid new end : History) → IsLater old mid → IsLater new end → ((place : ℕ) (row : Row) → IsRowAt kept.rows place row → One place → Other place)
    → FindsRow kept One file mid new → FindsRow kept Other file old end
finds_on kept One Other file old mid new end early late more found = record {
  moment = found.moment;
  after = later_then old mid found.moment early found.after;
  before = later_then found.moment new end found.before late;
  finds = λ place readable. more place readable.row readable.there (found.finds place readable);
}

-- ---- one path after another

pub walked_next : (paths : List (List ℕ)) (i : ℕ) (path : List ℕ) → i < length paths → path ≡ get_or paths i path → take i paths ++ path ∷ [] ≡ take (i + 1) paths
walked_next paths i path within is = sym (take_more paths i path within ∙ ap (λ (p : List ℕ). take i paths ++ p ∷ []) (sym is))

module _ {T : Type 0} (meaning : TreeMeaning T) (kept : Kept) where
  module _ (before after : List Finding) (paths : List (List ℕ)) (path : List ℕ) (judged : Option (ℕ × Finding)) (old mid new : T) (first : GoesOn meaning old mid) (second : GoesOn meaning mid new)
      (many : length before ≡ length kept.rows) (stay : (k : ℕ) → IsIn before k → IsIn after k) (noted : (k : ℕ) → k < length before → IsOf judged k → IsIn after k) where
    abbrev Before : World → World → Type 0
    Before x y = FindsAll kept before (Contains paths) (RoseBy meaning old mid) x y

    abbrev After : World → World → Type 0
    After x y = FindsAll kept after (Contains (paths ++ path ∷ [])) (RoseBy meaning old new) x y

    stood : (x y z : World) → KeepsHandles x y → KeepsHandles y z → (file : ℕ) → FindsRow kept (IsIn before) file x.history y.history → FindsRow kept (IsIn after) file x.history z.history
    stood x y z early late file found = finds_on kept (IsIn before) (IsIn after) file x.history x.history y.history z.history (later_none x.history) late.later (λ place row at is. stay place is) found

    more_failed : (x y z : World) → KeepsHandles x y → KeepsHandles y z → Before x y → RoseBy meaning mid new 1 → After x z
    more_failed x y z early late all rose = record {
      failed = path ∷ all.failed;
      counted = omega (arith, all.counted, rose);
      each = λ one file asked named. elim (Contains-push_cases paths path one asked) [
        | inl earlier ↦ elim (all.each one file earlier (named_first x.history y.history z.history one file late.later named)) [
          | inl bad ↦ inl (contains_behind path all.failed one bad)
          | inr found ↦ inr (stood x y z early late file found)
        ]
        | inr same ↦ inl (subst (Contains (path ∷ all.failed)) same (contains_first path all.failed))
      ];
    }

    more_found : (x y z : World) → KeepsHandles x y → KeepsHandles y z → Before x y → FindsPath kept (IsOf judged) path y z → After x z
    more_found x y z early late all finds = record {
      failed = all.failed;
      counted = omega (arith, all.counted, second.faults.later);
      each = λ one file asked named. elim (Contains-push_cases paths path one asked) [
        | inl earlier ↦ elim (all.each one file earlier (named_first x.history y.history z.history one file late.later named)) [
          | inl bad ↦ inl bad
          | inr found ↦ inr (stood x y z early late file found)
        ]
        | inr same ↦ inr (finds_on kept (IsOf judged) (IsIn after) file x.history y.history z.history z.history early.later (later_none z.history)
            (λ place row at is. noted place (omega (arith, many, slice_get_within kept.rows place row at)) is)
            (finds file (subst (λ (p : List ℕ). NamesThroughout y.history z.history p file) (sym same) (named_last x.history y.history z.history one file early.later named))))
      ];
    }

    pub walked_more : FindsWalked meaning kept before paths old mid → UnlessRose meaning (FindsPath kept (IsOf judged) path) mid new → FindsWalked meaning kept after (paths ++ path ∷ []) old new
    walked_more all one = by (meaning.world old) (meaning.world mid) (meaning.world new) first.world second.world all one
      where
        by : (x y z : Option World) → Told KeepsHandles x y → Told KeepsHandles y z → Told Before x y → Told (λ v w. RoseBy meaning mid new 1 ⊎ FindsPath kept (IsOf judged) path v w) y z → Told After x z
        by None None None a b c d = tt
        by None None (Some z) a b c d = b
        by None (Some y) z a b c d = absurd a
        by (Some x) None z a b c d = absurd a
        by (Some x) (Some y) None a b c d = b
        by (Some x) (Some y) (Some z) a b c d = elim d [ inl rose ↦ more_failed x y z a b c rose | inr finds ↦ more_found x y z a b c finds ]

-- ---- the walk before them

one_more_unlisted : (event : Event) (old new : History) → ((more : List (List ℕ)) × (left_unlisted new ≡ more ++ left_unlisted old)) → (more : List (List ℕ)) × (left_unlisted (event ∷ new) ≡ more ++ left_unlisted old)
one_more_unlisted (create _ _) old new has = has
one_more_unlisted (append _ _) old new has = has
one_more_unlisted (rename _ _) old new has = has
one_more_unlisted (remove _) old new has = has
one_more_unlisted (look _) old new has = has
one_more_unlisted (miss _) old new has = has
one_more_unlisted (unlisted folder) old new has = (folder ∷ has.0, ap (λ (l : List (List ℕ)). folder ∷ l) has.1)

more_unlisted : (events : List Event) (old : History) → (more : List (List ℕ)) × (left_unlisted (events ++ old) ≡ more ++ left_unlisted old)
more_unlisted [] old = ([], refl)
more_unlisted (event ∷ events) old = one_more_unlisted event old (events ++ old) (more_unlisted events old)

hidden_more : (more unlisteds : List (List ℕ)) (path : List ℕ) → IsHidden unlisteds path → IsHidden (more ++ unlisteds) path
hidden_more more unlisteds path hidden = (hidden.0, Contains-append_right more unlisteds hidden.0 hidden.1, hidden.2)

module _ {T : Type 0} (meaning : TreeMeaning T) (kept : Kept) (last : Pipeline) (is_last : IsLast kept.pipes.items last) (by : Patterns) (include : by.include ≡ last.include.items) (exclude : by.exclude ≡ last.exclude.items) where
  pub due_found : (paths deep : List (List ℕ)) (failures : Failures) (found : List Finding) (old mid new : T) → GoesOn meaning old mid → GoesOn meaning mid new → Told (FindsIn by paths deep failures) (meaning.world old) (meaning.world mid)
      → FindsWalked meaning kept found paths mid new → FindsDue meaning kept found old new
  due_found paths deep failures found old mid new first second walk all = so (meaning.world old) (meaning.world mid) (meaning.world new) second.world walk all
    where
      found_due : (x y z : World) → KeepsHandles y z → FindsIn by paths deep failures x y → FindsAll kept found (Contains paths) (RoseBy meaning mid new) y z → FindsAll kept found (IsDue kept x z) (RoseBy meaning old new) x z
      found_due x y z late finds seen = record {
        failed = seen.failed;
        counted = rose_later meaning old mid new (length seen.failed) first.faults seen.counted;
        each = λ path file due named.
            let early : IsLater x.history y.history = finds.calls.later in
            let named_then = named_first x.history y.history z.history path file late.later named in
            let always : WasAlways File x.history y.history path = λ moment after before. kind_named moment path file (named_then moment after before) in
            let included : IsIncluded by.include by.exclude path = rw (include, exclude) (due.to_read last is_last) in
            elim (finds.none_left_out path included due.reachable always) [
              | inl there ↦ elim (seen.each path file there (named_last x.history y.history z.history path file early named)) [
                | inl bad ↦ inl bad
                | inr own ↦ inr (finds_on kept (IsIn found) (IsIn found) file x.history y.history z.history z.history early (later_none z.history) (λ place row at is. is) own)
              ]
              | inr hidden ↦ (
                  let more = more_unlisted late.later.events y.history in
                  let are : left_unlisted z.history ≡ (more.0 ++ finds.unlisteds) ++ left_unlisted x.history =
                  ap left_unlisted late.later.goes_on ∙ more.1 ∙ ap (λ (l : List (List ℕ)). more.0 ++ l) finds.calls.all_unlisteds ∙ sym (append_assoc more.0 finds.unlisteds (left_unlisted x.history)) in
                  absurd (due.shown (more.0 ++ finds.unlisteds) are (hidden_more more.0 finds.unlisteds path hidden)))
            ];
      }

      so : (x y z : Option World) → Told KeepsHandles y z → Told (FindsIn by paths deep failures) x y → Told (FindsAll kept found (Contains paths) (RoseBy meaning mid new)) y z → Told (λ v w. FindsAll kept found (IsDue kept v w) (RoseBy meaning old new) v w) x z
      so None None None b c d = tt
      so None None (Some z) b c d = b
      so None (Some y) z b c d = absurd c
      so (Some x) None z b c d = absurd c
      so (Some x) (Some y) None b c d = b
      so (Some x) (Some y) (Some z) b c d = found_due x y z b c d
