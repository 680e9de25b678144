use Rattle.std.proofs.Common.{◌≡◌, ◌∷◌, sym, ◌∙◌, ap, option_map, List, ℕ}
use Rattle.std.specs.Option.{OnSome}
use Rattle.std.proofs.Common.{None, Some}
use Rattle.entry_model.specs.Datum.{datum}
use Rattle.field_paths.specs.MapOf.{map_of}
use Rattle.field_paths.specs.Change.{without_value}
use Rattle.field_paths.specs.ValueAt.{value_at}
use Rattle.field_paths.proofs.Cases.{on_some_weaker, if_none_weaker, nothing_left}
use Rattle.field_paths.proofs.Steps.{value_of_last, last_taken, value_of_member, no_value_of_member, member_taken, member_kept}
use Rattle.field_paths.proofs.take.+cut.Goals as goal

pub cut_member-returns-in_default-clause-value : goal.cut_member-returns-in_default-clause-value
cut_member-returns-in_default-clause-value t c =
    let es = c.args.members.now.entries in
    ap (option_map datum) c.remove.ensures.value ∙ value_of_last c.args.name.now es
    ∙ ap (λ (names : List (List ℕ)). value_at (c.args.name.now ∷ names) (map_of es)) (sym (nothing_left c.args.names.now c.in_default.ensures.cases))

pub cut_member-returns-in_default-clause-taken : goal.cut_member-returns-in_default-clause-taken
cut_member-returns-in_default-clause-taken t c =
    let es = c.args.members.now.entries in
    let done = last_taken c.args.name.now es c.remove.new.self.entries c.remove.ensures.entries
    ∙ ap (λ (names : List (List ℕ)). without_value c.args.name.now names (map_of es)) (sym (nothing_left c.args.names.now c.in_default.ensures.cases)) in
    elim c.remove.result as (λ o. OnSome o (map_of c.remove.new.self.entries ≡ without_value c.args.name.now c.args.names.now (map_of es))) [ None ↦ tt | Some x ↦ done ]

pub cut_member-returns-in-Some-get_mut-clause-value : goal.cut_member-returns-in-Some-get_mut-clause-value
cut_member-returns-in-Some-get_mut-clause-value t c =
    let es = c.args.members.now.entries in
    c.cut.ensures.value
    ∙ ap (λ (names : List (List ℕ)). value_at names (datum c.in-Some-get_mut.member.now)) (sym c.in-Some.ensures.cases.0)
    ∙ sym (value_of_member c.args.name.now c.args.names.now es c.in-Some-get_mut.member.now (sym c.in-Some-get_mut.ensures.value))

pub cut_member-returns-in-Some-get_mut-clause-taken : goal.cut_member-returns-in-Some-get_mut-clause-taken
cut_member-returns-in-Some-get_mut-clause-taken t c =
    let now = c.cut.new.target in
    let es = c.args.members.now.entries in
    rw c.in-Some.ensures.cases.0
    (on_some_weaker c.cut.result
    (member_taken c.args.name.now c.in-Some.next.now c.in-Some.rest.now es (c.get_mut.follows.lender now).entries c.in-Some-get_mut.member.now now
    c.get_mut.ensures.ordered (sym c.in-Some-get_mut.ensures.value) (c.get_mut.follows.holds now).0)
    c.cut.ensures.taken)

pub cut_member-returns-in-Some-get_mut-clause-none : goal.cut_member-returns-in-Some-get_mut-clause-none
cut_member-returns-in-Some-get_mut-clause-none t c =
    let now = c.cut.new.target in
    if_none_weaker c.cut.result
    (member_kept c.args.name.now c.args.members.now.entries (c.get_mut.follows.lender now).entries c.in-Some-get_mut.member.now now
    (sym c.in-Some-get_mut.ensures.value) (c.get_mut.follows.holds now).0)
    c.cut.ensures.none

pub cut_member-returns-in-None-clause-value : goal.cut_member-returns-in-None-clause-value
cut_member-returns-in-None-clause-value t c = sym (no_value_of_member c.args.name.now c.args.names.now c.args.members.now.entries (sym c.in-None.ensures.value))
