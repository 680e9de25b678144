-- The eras of a session's texts, and its polls in them.
use Rattle.std.proofs.Common.{◌≡◌, ℕ, suc, ◌≤◌, List, [], ◌∷◌, length, map, Bool, true, false, Option, None, Some, refl, sym, ap, subst, ◌∙◌, arith}
use Rattle.std.proofs.lemmas.List.{length-map}
use Rattle.std.proofs.lemmas.List.Elements.{All-cons, All-head, All-nil, All-tail, All-weaker}
use Rattle.std.specs.List.{All}
use Rattle.std.specs.Option.{is_none, is_some}
use Rattle.std.specs.Prelude.{IfSome}
use Rattle.checkpoint_journal.specs.declared.journal.Journal.{Journal}
use Rattle.pipeline.proofs.OfText.{OneSet}
use Rattle.poll_core.specs.IsSession.{IsSession}
use Rattle.pipeline.specs.MadeOf.{HasRules, AreErasOf, EndsWithRules}
use Rattle.poll_core.specs.SessionParts.{is_first, journal_of_session, last_text, poll_of_session, rules_of_session, settings_of_session, stamp_at, stamp_of_session}
use Rattle.poll_core.specs.declared.session.Session.{Session}
use Rattle.standing.specs.AreRules.{AreRules}
use Rattle.standing.specs.Eras.{Eras, all_eras, last_era, last_of, era_count, texts_of}
use Rattle.standing.specs.Marks.{Mark}
use Rattle.standing.specs.Poll.{Poll, poll_in, IsPlainIn}
use Rattle.standing.specs.Rules.{Rules}
use Rattle.standing.specs.Times.{AreBefore, NoneLater}

-- ---- texts

pub last_is : (eras : Eras) → last_text (texts_of eras) ≡ (last_era eras).settings
last_is eras = by eras.first eras.later
  where
    by : (first : Rules) (later : List Rules) → last_text (map (λ (rules : Rules). rules.settings) (first ∷ later)) ≡ (last_of first later).settings
    by first [] = refl
    by first (next ∷ later) = by next later

pub many : (eras : Eras) → length (texts_of eras) ≡ era_count eras
many eras = length-map (all_eras eras) (λ (rules : Rules). rules.settings)

pub sole_text : (texts : List (List ℕ)) → length texts ≡ 1 → texts ≡ last_text texts ∷ []
sole_text [] few = absurd (omega (arith, few))
sole_text (text ∷ []) few = refl
sole_text (text ∷ other ∷ more) few = absurd (omega (arith, few))

pub at_last : (P : Rules → Type 0) (first : Rules) (later : List Rules) → All P (first ∷ later) → P (last_of first later)
at_last P first [] all = All-head P first [] all
at_last P first (next ∷ later) all = at_last P next later (All-tail P first (next ∷ later) all)

none_later : (later : List Rules) → suc (length later) ≡ 1 → later ≡ []
none_later [] few = refl
none_later (rules ∷ later) few = absurd (omega (arith, few))

-- ---- eras that a session's texts have, whatever the earlier ones asked for

-- the settings are another text
with_text : Rules → List ℕ → Rules
with_text rules text = record rules { settings = text }

pub eras_ending : Rules → List (List ℕ) → Eras
eras_ending rules [] = record { first = rules; later = [] }
eras_ending rules (text ∷ []) = record { first = rules; later = [] }
eras_ending rules (text ∷ other ∷ more) = record { first = with_text rules text; later = all_eras (eras_ending rules (other ∷ more)) }

pub ending_last : (rules : Rules) (texts : List (List ℕ)) → last_era (eras_ending rules texts) ≡ rules
unfolding eras_ending
ending_last rules [] = refl
ending_last rules (text ∷ []) = refl
ending_last rules (text ∷ other ∷ more) = ending_last rules (other ∷ more)

pub ending_texts : (rules : Rules) (texts : List (List ℕ)) → 1 ≤ length texts → last_text texts ≡ rules.settings → texts ≡ texts_of (eras_ending rules texts)
unfolding eras_ending with_text
ending_texts rules [] some last = absurd (omega (arith, some))
ending_texts rules (text ∷ []) some last = ap (λ (t : List ℕ). t ∷ []) last
ending_texts rules (text ∷ other ∷ more) some last = ap (λ (l : List (List ℕ)). text ∷ l) (ending_texts rules (other ∷ more) (omega arith) last)

-- ---- a session

abbrev pub poll_with : Rules → ℕ → Bool → Option ℕ → Poll
poll_with rules era first stamp = record { rules = rules; era = era; first = first; stamp = stamp }

-- there is a time where one is asked for
pub stamped_so : (stamps : Bool) (time : ℕ) → is_some (stamp_at stamps time) ≡ stamps
stamped_so false time = refl
stamped_so true time = refl

first_has_none : (journal : Option Journal) → is_none journal ≡ true → journal ≡ None
first_has_none None is = refl
first_has_none (Some journal) is = absurd (let never : false ≡ true = is in cc)

-- ---- times

some_later : (before time : ℕ) → before ≤ time → (observed : Option ℕ) → IfSome observed (λ t. t ≤ before) → IfSome observed (λ t. t ≤ time)
some_later before time earlier None within = tt
some_later before time earlier (Some t) within = omega (arith, earlier, within)

before_stamp : (stamps : Bool) (before time : ℕ) (marks : List Mark) → before ≤ time → NoneLater before marks → AreBefore (stamp_at stamps time) marks
before_stamp false before time marks earlier none = tt
before_stamp true before time marks earlier none =
    All-weaker (λ (mark : Mark). IfSome mark.observed (λ t. t ≤ before)) (λ (mark : Mark). IfSome mark.observed (λ t. t ≤ time)) (λ mark. some_later before time earlier mark.observed) marks none

-- no line that is kept is later than the poll
pub before_poll : (session : Session) → IsSession session → (marks : List Mark) → NoneLater session.observed marks → AreBefore (stamp_of_session session) marks
before_poll session is marks none = before_stamp (rules_of_session session).stamps session.observed session.time marks is.time.0 none

-- What holds of each list of eras that has the session's texts; and where it is the first there is such a list.
pub record SessionEras (session : Session) : Type 0 where
  pub poll_is : (eras : Eras) → AreErasOf session.eras eras → poll_of_session session ≡ poll_in eras (is_first session) (stamp_of_session session)
  pub plain : (rules_of_session session).flush_after ≡ 0 → (eras : Eras) → AreErasOf session.eras eras → IsPlainIn eras (is_first session) (stamp_of_session session)
  pub first : journal_of_session session ≡ None → (eras : Eras) × AreErasOf session.eras eras

module _ (one_set : OneSet) (session : Session) (is : IsSession session) where
  own_rules : HasRules (settings_of_session session) (rules_of_session session)
  own_rules = (session.pipeline, is.made, refl)

  -- the last of them is what the session polls by
  pub last_rules : (eras : Eras) → session.eras ≡ texts_of eras → EndsWithRules eras → rules_of_session session ≡ last_era eras
  last_rules eras texts_are ends =
      let text_is : settings_of_session session ≡ (last_era eras).settings = ap last_text texts_are ∙ last_is eras in
      one_set (settings_of_session session) (rules_of_session session) (last_era eras) own_rules
      (subst (λ (text : List ℕ). HasRules text (last_era eras)) (sym text_is) ends)

  pub ends_with : (eras : Eras) → AreErasOf session.eras eras → EndsWithRules eras
  ends_with eras are = at_last (λ (rules : Rules). HasRules rules.settings rules) eras.first eras.later are.each

  pub rules_are : (eras : Eras) → AreErasOf session.eras eras → rules_of_session session ≡ last_era eras
  rules_are eras are = last_rules eras are.texts_are (ends_with eras are)

  era_is : (eras : Eras) → AreErasOf session.eras eras → length session.eras ≡ era_count eras
  era_is eras are = ap length are.texts_are ∙ many eras

  pub session_eras : AreRules (rules_of_session session) → SessionEras session
  session_eras laws = record {
    poll_is = λ eras are.
        ap (λ (rules : Rules). poll_with rules (length session.eras) (is_first session) (stamp_of_session session)) (rules_are eras are)
        ∙ ap (λ (era : ℕ). poll_with (last_era eras) era (is_first session) (stamp_of_session session)) (era_is eras are);
    plain = λ never eras are. record {
      is_poll = record {
        first_era = λ begins. none_later eras.later (sym (era_is eras are) ∙ is.one_era (first_has_none (journal_of_session session) begins));
        stamped = stamped_so (rules_of_session session).stamps session.time ∙ ap (λ (rules : Rules). rules.stamps) (rules_are eras are);
      };
      no_flush = sym (ap (λ (rules : Rules). rules.flush_after) (rules_are eras are)) ∙ never;
    };
    first = λ none. (
      record { first = rules_of_session session; later = [] },
      record {
        texts_are = sole_text session.eras (is.one_era none);
        each = All-cons (λ (rules : Rules). HasRules rules.settings rules) (rules_of_session session) [] own_rules (All-nil (λ (rules : Rules). HasRules rules.settings rules));
        laws = record {
          each = All-cons AreRules (rules_of_session session) [] laws (All-nil AreRules);
          one_line = All-cons (λ (rules : Rules). rules.line ≡ (rules_of_session session).line) (rules_of_session session) [] refl (All-nil (λ (rules : Rules). rules.line ≡ (rules_of_session session).line));
          one_front_size = All-cons (λ (rules : Rules). rules.front_size ≡ (rules_of_session session).front_size) (rules_of_session session) [] refl (All-nil (λ (rules : Rules). rules.front_size ≡ (rules_of_session session).front_size));
        };
      },
    );
  }
