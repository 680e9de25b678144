-- Mappings that are read in a loop.
use Rattle.std.proofs.Common.{◌≡◌, ℕ, List, [], ◌∷◌, ◌++◌, None, Some, Result, Ok, Err, refl, sym, ap, subst, ◌∙◌, append_assoc, rules, string_bytes}
use Rattle.std.proofs.lemmas.List.{append-nil}
use Rattle.serde_json.specs.Data.{Data, null, boolean, number, string, array, object, Items}
use Rattle.serde_json.specs.Find.{as_array}
use Rattle.serde_json.proofs.Views.{Entry}
use Rattle.serde_json.specs.View.{view, members_view}
use Rattle.settings_text.specs.declared.fault.SettingsFault.{SettingsFault}
use Rattle.settings_text.specs.Kinds.{each}
use Rattle.settings_text.specs.Mappings as mappings
use Rattle.settings_text.specs.Mappings.{rule_of, rules_of, rules_named, severity_named}
use Rattle.settings_text.specs.Outcome.{◌>>=◌, Fails}
use Rattle.settings_text.specs.Place.{item_place, member_place}
use Rattle.settings_text.specs.Rules.{Rule}
use Rattle.settings_text.proofs.InTurn.{with_front, carried}
use Rattle.settings_text.proofs.Limits.{binds}

-- what is in front of a refusal changes nothing
pub refused_alone : {A : Type 0} (fault : SettingsFault) (front : List A) (read : Result (List A) SettingsFault) → Fails fault (with_front front read) → Fails fault read
refused_alone fault front (Ok rest) h = λ some. absurd (search (rules, h some))
refused_alone fault front (Err other) h = h

-- ---- a list of values, or one

pub of_list : (severity : ℕ) (place : List ℕ) (d : Data) (ds : Items) → as_array d ≡ Some ds → rules_of severity place d ≡ each (λ n. rule_of severity (item_place place n)) 0 ds
of_list severity place null ds e = absurd (search (rules, e))
of_list severity place (boolean b) ds e = absurd (search (rules, e))
of_list severity place (number n) ds e = absurd (search (rules, e))
of_list severity place (string s) ds e = absurd (search (rules, e))
of_list severity place (array items) ds e = let same : items ≡ ds = cc e in rw same refl
of_list severity place (object ms) ds e = absurd (search (rules, e))

pub of_one : (severity : ℕ) (place : List ℕ) (d : Data) → as_array d ≡ None → rules_of severity place d ≡ (rule_of severity place d >>= λ one. Ok (one ∷ []))
of_one severity place null e = refl
of_one severity place (boolean b) e = refl
of_one severity place (number n) e = refl
of_one severity place (string s) e = refl
of_one severity place (array items) e = absurd (search (rules, e))
of_one severity place (object ms) e = refl

-- ---- members

module _ (place name : List ℕ) (e : Entry) (left next : List Entry) (total : Result (List Rule) SettingsFault) (is_left : left ≡ e ∷ next) (is_name : name ≡ string_bytes e.0) (front : List Rule) (so_far : with_front front (mappings.rules place (members_view left)) ≡ total) where
  -- what is read of the first of the members, and of the others
  and_others : Result (List Rule) SettingsFault → Result (List Rule) SettingsFault
  and_others read = read >>= λ first. mappings.rules place (members_view next) >>= λ others. Ok (first ++ others)

  here : Result (List Rule) SettingsFault
  here = rules_named (severity_named name) (member_place place name) (view e.1)

  unfolded : mappings.rules place (members_view left) ≡ and_others here
  unfolding mappings.rules and_others here
  unfolded = rw (is_left, is_name) refl

  regrouped : (first : List Rule) (read : Result (List Rule) SettingsFault) → with_front front (read >>= λ others. Ok (first ++ others)) ≡ with_front (front ++ first) read
  regrouped first (Ok others) = ap (λ (l : List Rule). Ok l) (sym (append_assoc front first others))
  regrouped first (Err fault) = refl

  pub goes_by : (new : List Rule) → with_front front (rules_named (severity_named name) (member_place place name) (view e.1)) ≡ Ok new → with_front new (mappings.rules place (members_view next)) ≡ total
  unfolding and_others here
  goes_by new h =
      let first = binds (rules_named (severity_named name) (member_place place name) (view e.1)) (λ rest. Ok (front ++ rest)) new h in
      let is_new : front ++ first.0 ≡ new = cc (first.2) in
      let one : with_front front (mappings.rules place (members_view left)) ≡ with_front (front ++ first.0) (mappings.rules place (members_view next)) =
      ap (with_front front) (unfolded ∙ ap and_others first.1) ∙ regrouped first.0 (mappings.rules place (members_view next)) in
      subst (λ (l : List Rule). with_front l (mappings.rules place (members_view next)) ≡ total) is_new (sym one ∙ so_far)

  pub stops_at : (fault : SettingsFault) → Fails fault (rules_named (severity_named name) (member_place place name) (view e.1)) → Fails fault total
  unfolding and_others here
  stops_at fault h = carried fault (rules_named (severity_named name) (member_place place name) (view e.1)) total (λ is. sym so_far ∙ ap (with_front front) (unfolded ∙ ap and_others is)) h

pub all_read : (place : List ℕ) (front : List Rule) (total : Result (List Rule) SettingsFault) → with_front front (mappings.rules place (members_view [])) ≡ total → total ≡ Ok front
unfolding mappings.rules
all_read place front total so_far =
    let one : with_front front (mappings.rules place (members_view [])) ≡ Ok front = ap (λ (l : List Rule). Ok l) (append-nil front) in
    sym so_far ∙ one
