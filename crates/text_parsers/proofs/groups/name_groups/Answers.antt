use Rattle.std.proofs.Common.{◌+◌, ◌∙◌, ap, sym, subst, List, ℕ, [], drop, get_or, zip, length, arith}
use Rattle.std.proofs.lemmas.List.{drop_all, drop_more}
use Rattle.regex.specs.Locations.{location}
use Rattle.entry_model.specs.Datum.{text as text_datum}
use Rattle.entry_model.specs.Seen.{seen}
use Rattle.json_text.specs.Grammar.{Member, put_all}
use Rattle.text_parsers.specs.Groups.{members_by, NamedGroup}
use Rattle.text_parsers.specs.Inner.Known.{unset_with, AreAt}
use Rattle.text_parsers.proofs.Known.{as_many, filled_anew, next_set, next_within}
use Rattle.text_parsers.proofs.Matching.{keys-groups, one_group_more}
use Rattle.text_parsers.proofs.groups.name_groups.Goals as goal

pub loop-index-init : goal.loop-index-init
loop-index-init c =
    let span_of = location c.args.locations.now in
    let text = c.args.text.now in
    let numbers = c.deref-number-items.result.now in
    let names = c.groups.inside.names in
    let same = c.deref-number-items.ensures.value in
    let unset = c.in_ok-members.ensures in (
      names,
      subst (λ (l : List Member). AreAt l names c.places-places.result.now) (sym unset) c.places-places.ensures,
      ap (λ (l : List Member). put_all l (members_by span_of text (zip numbers names))) unset
          ∙ filled_anew names (members_by span_of text (zip numbers names)) (keys-groups span_of text numbers names (ap length same ∙ c.groups.invariant))
          ∙ ap (λ (l : List NamedGroup). put_all [] (members_by span_of text l)) (ap (λ (l : List ℕ). zip l names) same ∙ c.groups.view_is),
    )

pub bounds-places-index : goal.bounds-places-index
bounds-places-index c =
    let names = c.groups.inside.names in
    let many = as_many (unset_with names) names c.places-places.result.now c.places-places.ensures in
    let same = ap length c.deref-number-items.ensures.value ∙ c.groups.invariant in
    let within = c.loop-index-test.true in
    omega (arith, many, same, within)

pub set-requires : goal.set-requires
set-requires c =
    let places = c.places-places.result.now in
    let i = c.loop-index.index in
    let left = c.loop-index.invariant.0 in
    let names = c.groups.inside.names in
    let many = as_many (unset_with names) names places c.places-places.ensures in
    let same = ap length c.deref-number-items.ensures.value ∙ c.groups.invariant in
    let within = c.loop-index-test.true in
    let stand = subst (λ (l : List ℕ). AreAt (seen c.loop-index.members.entries) left l) (drop_more places i 0 (omega (arith, many, same, within))) c.loop-index.invariant.1 in
    next_within c.loop-index.members.entries left (get_or places i 0) (drop (i + 1) places) stand

pub loop-index-preserved : goal.loop-index-preserved
loop-index-preserved c =
    let span_of = location c.args.locations.now in
    let places = c.places-places.result.now in
    let numbers = c.deref-number-items.result.now in
    let i = c.loop-index.index in
    let left = c.loop-index.invariant.0 in
    let names = c.groups.inside.names in
    let found = c.group_text-taken.result.now in
    let old = seen c.loop-index.members.entries in
    let new = seen c.set.new.members.entries in
    let many = as_many (unset_with names) names places c.places-places.ensures in
    let same = ap length c.deref-number-items.ensures.value ∙ c.groups.invariant in
    let within = c.loop-index-test.true in
    let stand = subst (λ (l : List ℕ). AreAt old left l) (drop_more places i 0 (omega (arith, many, same, within))) c.loop-index.invariant.1 in
    let next = next_set old new (get_or places i 0) (text_datum found) left (drop (i + 1) places) c.in_ok-set.ensures stand in (
      next.rest,
      next.stand,
      one_group_more span_of c.args.text.now (drop i numbers) (drop (i + 1) numbers) left next.rest (get_or numbers i 0) next.name found old new (drop_more numbers i 0 within) next.names_are
          c.group_text-taken.ensures next.put
          ∙ c.loop-index.invariant.2,
    )

pub returns : goal.returns
returns c =
    let span_of = location c.args.locations.now in
    let left = c.loop-index.invariant.0 in
    sym (ap (λ (l : List ℕ). put_all (seen c.loop-index.members.entries) (members_by span_of c.args.text.now (zip l left))) (drop_all c.loop-index.index c.deref-number-items.result.now c.loop-index-test.false))
    ∙ c.loop-index.invariant.2
