-- After a poll that tells nothing was left, all is there.
use Rattle.std.proofs.Common.{◌≡◌, ℕ, ◌<◌, List, [], ◌∷◌, length, refl, sym, ap, subst, ◌∙◌, arith, inl, inr}
use Rattle.std.specs.Prelude.{Contains}
use Rattle.std.proofs.lemmas.Bool.{cases_lt}
use Rattle.checkpoint_store.specs.declared.Checkpoint.{Checkpoint}
use Rattle.file_pass.proofs.Listing.{contains_none}
use Rattle.outside.specs.Lawful.{IsLawful}
use Rattle.outside.specs.Path.{components, relative}
use Rattle.outside.specs.World.{History, Names, World, file_at}
use Rattle.poll_core.proofs.EraLemmas.{rules_are as last_are, session_eras}
use Rattle.pipeline.proofs.OfText.{OneSet}
use Rattle.poll_core.specs.IsSession.{IsSession}
use Rattle.pipeline.specs.MadeOf.{AreErasOf}
use Rattle.poll_core.specs.Polled.{Advance, Counting, IsSummed, stretch_of}
use Rattle.poll_core.specs.SessionParts.{checkpoint_of_session, is_first, poll_of_session, rules_of_session, stamp_of_session}
use Rattle.poll_core.specs.Summed.{TellsAll, sums_of}
use Rattle.poll_core.specs.declared.session.Session.{Session}
use Rattle.poll_core.specs.declared.summary.Summary.{Summary}
use Rattle.standing.proofs.CompleteLemmas.{complete_pass}
use Rattle.standing.proofs.EraLemmas.{last_laws, last_size}
use Rattle.standing.specs.Apart.{Apart}
use Rattle.standing.specs.AreRules.{AreRules}
use Rattle.standing.specs.Eras.{Eras, last_era}
use Rattle.standing.specs.Look.{Look, size}
use Rattle.standing.specs.Marks.{Mark}
use Rattle.standing.specs.Moments.{IsLater, IsNamed, KeepsNames, NamesThroughout}
use Rattle.standing.specs.Pass.{IsReachable, Pass, Stretch}
use Rattle.standing.specs.Poll.{Poll, poll_in}
use Rattle.standing.specs.Rules.{Includes, Rules}
use Rattle.standing.specs.Stands.{Stands}
use Rattle.standing.specs.Sums.{AreSums, IsReached, Sums}
use Rattle.standing.specs.Times.{AreBefore}

none_in : {X : Type 0} (xs : List X) (x : X) → length xs ≡ 0 → Contains xs x → ⊥
none_in [] x none c = contains_none x c
none_in (y ∷ xs) x none c = omega (arith, none)

throughout : (old new : History) (path : List ℕ) (file : ℕ) → KeepsNames old new → IsLater old new → IsNamed new path file → NamesThroughout old new path file
throughout old new path file keeps later named = λ moment after before.
    ap (λ (ns : Names). file_at ns path) (keeps moment after before ∙ sym (keeps new later (record { events = []; goes_on = refl }))) ∙ named

-- a pass, and its numbers
record PassSummed (poll : Poll) (stretch : Stretch) (looks : List Look) (before after : Checkpoint) (added : List Mark) (sums : Sums) : Type 0 where
  pass : Pass poll stretch looks before after added
  are : AreSums poll stretch looks before after added pass sums

module _ (session : Session) (next : Advance) (summary : Summary) (counts : Counting) (old new : World) (summed : IsSummed session next summary counts old new) (tells : TellsAll summary) where
  no_folder : length summed.deep ≡ 0
  no_folder = omega (arith, summed.deep_is, tells.deep)

  no_miss : length summed.pass.misses ≡ 0
  no_miss = omega (arith, summed.sums.failed, tells.none.failed)

  no_unlisted : length summed.pass.unlisteds ≡ 0
  no_unlisted = omega (arith, summed.sums.failed, tells.none.failed)

  -- no path lies too deep
  reachable : (path : List ℕ) (file : ℕ) → Includes (rules_of_session session) path → NamesThroughout old.history new.history path file → IsReachable path
  reachable path file included names_it = elim (cases_lt (length (components (relative path))) 34) [
    | inl near ↦ omega (arith, near)
    | inr far ↦ absurd (elim (summed.no_deep_left_out path file included (λ near. omega (arith, near, far)) names_it) [
      | inl folder ↦ none_in summed.deep folder.0 no_folder folder.1
      | inr hidden ↦ elim hidden [
        | inl missed ↦ none_in summed.pass.misses path no_miss missed
        | inr folder ↦ none_in summed.pass.unlisteds folder.0 no_unlisted folder.1
      ]
    ])
  ]

  pub all_reached : OneSet → (rules_of_session session).flush_after ≡ 0 → (output : List ℕ) (path : List ℕ) (file : ℕ) (eras : Eras) → IsSession session → AreErasOf session.eras eras → IsLater old.history new.history → Apart (rules_of_session session).front_size new.history → IsLawful new.history → KeepsNames old.history new.history
      → (stands : Stands eras old.history (checkpoint_of_session session).rows (checkpoint_of_session session).next_id output) → AreBefore (stamp_of_session session) stands.marks
      → Includes (rules_of_session session) path → IsNamed new.history path file
      → (here : Look) × Contains summed.looks here × (here.file ≡ file) × (0 < size here → IsReached eras new.history next.after.rows here)
  all_reached one_set never output path file eras is are later apart lawful keeps stands times included named =
      let rules_are : rules_of_session session ≡ last_era eras = last_are one_set session is eras are in
      let own = session_eras one_set session is (subst AreRules (sym rules_are) (last_laws eras are.laws)) in
      let as_poll : poll_of_session session ≡ poll_in eras (is_first session) (stamp_of_session session) = own.poll_is eras are in
      let stretch : Stretch = stretch_of old.history new.history counts.before.faults counts.after.faults in
      let before : Checkpoint = checkpoint_of_session session in
      let both : PassSummed (poll_in eras (is_first session) (stamp_of_session session)) stretch summed.looks before next.after next.added (sums_of summary) =
      subst (λ (p : Poll). PassSummed p stretch summed.looks before next.after next.added (sums_of summary)) as_poll (record { pass = summed.pass; are = summed.sums }) in
      complete_pass eras are.laws (is_first session) (stamp_of_session session) (own.plain never eras are) stretch summed.looks before next.after next.added both.pass output (sums_of summary) path file
      (subst (λ n. Apart n new.history) (ap (λ (r : Rules). r.front_size) rules_are ∙ last_size eras are.laws) apart) lawful keeps stands times both.are tells.none
      (subst (λ (r : Rules). Includes r path) rules_are included) (reachable path file included (throughout old.history new.history path file keeps later named)) named
