use Rattle.std.proofs.Common.{◌≡◌, ◌+◌, ◌∙◌, ap, sym, subst, List, ℕ, [], drop, get_or, Bool, true, false, IsUtf8, rules}
use Rattle.std.proofs.lemmas.List.{drop_all, drop_more}
use Rattle.std.proofs.lemmas.Str.{utf8_lossy-IsUtf8}
use Rattle.std.specs.Str.Lossy.{utf8_lossy}
use Rattle.entry_model.specs.Datum.{text}
use Rattle.entry_model.specs.Places.{value_set_at}
use Rattle.entry_model.specs.Seen.{seen}
use Rattle.json_text.specs.Grammar.{Member, put_all}
use Rattle.text_parsers.specs.CsvRecords.{named}
use Rattle.text_parsers.specs.Inner.FieldSlices.{AreLeft}
use Rattle.text_parsers.specs.Inner.Known.{AreAt}
use Rattle.text_parsers.proofs.Known.{filled_anew, next_set, next_within, no_names_left}
use Rattle.text_parsers.proofs.NamedFields.{keys-named, one_named, no_field_left, no_name_left}
use Rattle.text_parsers.proofs.csv_op.name_slices.Goals as goal
use Rattle.text_parsers.proofs.csv_op.name_slices.Goals.{else-loop-place-test, then-loop-place-test+then-not-more}

pub loop-place-init : goal.loop-place-init
loop-place-init c =
    let names = c.args.names.now in
    let unset = c.in_ok-members.ensures in
    record {
      utf8 = c.utf8.text;
      named = (
        names,
        subst (λ (l : List Member). AreAt l names c.places-place-items.result.now) (sym unset) c.places-place-items.ensures,
        λ fields are. (fields, are, λ counted. ap (λ (l : List Member). put_all l (named names fields)) unset ∙ filled_anew names (named names fields) (keys-named names fields counted)),
      );
    }

pub set-requires : goal.set-requires
set-requires c =
    let places = c.places-place-items.result.now in
    let i = c.loop-place.place-index in
    let at = get_or places i 0 in
    let left = c.loop-place.invariant.named.0 in
    let stand = subst (λ (l : List ℕ). AreAt (seen c.loop-place.members.entries) left l) (drop_more places i 0 c.loop-place-test.true) c.loop-place.invariant.named.1 in
    next_within c.loop-place.members.entries left at (drop (i + 1) places) stand

pub loop-place-preserved : goal.loop-place-preserved
loop-place-preserved c =
    let delimiter = c.args.delimiter in
    let places = c.places-place-items.result.now in
    let i = c.loop-place.place-index in
    let at = get_or places i 0 in
    let left = c.loop-place.invariant.named.0 in
    let field = c.first_field-found.result.0.now in
    let old = seen c.loop-place.members.entries in
    let new = seen c.set.new.members.entries in
    let stand = subst (λ (l : List ℕ). AreAt old left l) (drop_more places i 0 c.loop-place-test.true) c.loop-place.invariant.named.1 in
    let utf8 : IsUtf8 field = search rules in
    let more : c.loop-place.more ≡ true = search rules in
    let lossy = sym (utf8_lossy-IsUtf8 field utf8) in
    let set = c.in_ok-set.ensures ∙ ap (λ (l : List ℕ). value_set_at old at (text l)) lossy in
    let next = next_set old new at (text (utf8_lossy field)) left (drop (i + 1) places) set stand in
    record {
      utf8 = search rules;
      named = (
        next.rest,
        next.stand,
        λ fields are.
            (let before = c.loop-place.invariant.named.2 fields are in
            let first = c.first_field-found.ensures before.0 (subst (λ (b : Bool). AreLeft delimiter c.loop-place.rest.now b before.0) more before.1) in
            (first.0, first.1, λ counted. one_named left next.rest before.0 first.0 next.name field old new next.names_are first.2 next.put ∙ before.2 counted)),
      );
    }

pub returns : goal.returns
returns c = λ fields are counted.
    (let places = c.places-place-items.result.now in
    let i = c.loop-place.place-index in
    let left = c.loop-place.invariant.named.0 in
    let members = seen c.loop-place.members.entries in
    let before = c.loop-place.invariant.named.2 fields are in
    let all = put_all [] (named c.args.names.now fields) in
    elim c.loop-place-test.branch [
      | else-loop-place-test w ↦
          let none = no_names_left members left (subst (λ (l : List ℕ). AreAt members left l) (drop_all i places w.loop-place-test.false) c.loop-place.invariant.named.1) in
          no_name_left left before.0 members all (before.2 counted) none
      | then-loop-place-test+then-not-more w ↦
          let none : c.loop-place.more ≡ false = search rules in
          no_field_left left before.0 members all (before.2 counted) (subst (λ (b : Bool). AreLeft c.args.delimiter c.loop-place.rest.now b before.0) none before.1)
    ])
