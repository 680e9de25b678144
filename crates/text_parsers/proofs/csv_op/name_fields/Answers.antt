use Rattle.std.proofs.Common.{◌+◌, ◌∙◌, ap, sym, subst, List, ℕ, [], drop, get_or}
use Rattle.std.proofs.lemmas.List.{drop_all, drop_more}
use Rattle.std.specs.Str.Lossy.{utf8_lossy}
use Rattle.csv.specs.Records.{fields_of}
use Rattle.entry_model.specs.Datum.{text}
use Rattle.entry_model.specs.Seen.{seen}
use Rattle.json_text.specs.Grammar.{Member, put_all}
use Rattle.text_parsers.specs.CsvRecords.{named}
use Rattle.text_parsers.specs.Inner.Known.{AreAt}
use Rattle.text_parsers.proofs.Known.{filled_anew, next_set, next_within, no_names_left}
use Rattle.text_parsers.proofs.NamedFields.{keys-named, one_named, no_field_left, no_name_left, field_here, no_field_here}
use Rattle.text_parsers.proofs.csv_op.name_fields.Goals as goal
use Rattle.text_parsers.proofs.csv_op.name_fields.Goals.{else-loop-index-test, then-loop-index-test+in_default}

pub loop-index-init : goal.loop-index-init
loop-index-init c =
    let names = c.args.names.now in
    let fields = fields_of c.args.row.now in
    let unset = c.in_ok-members.ensures in (
      names,
      subst (λ (l : List Member). AreAt l names c.places-places.result.now) (sym unset) c.places-places.ensures,
      ap (λ (l : List Member). put_all l (named names fields)) unset ∙ filled_anew names (named names fields) (keys-named names fields c.requires),
    )

pub set_field-requires : goal.set_field-requires
set_field-requires c =
    let places = c.places-places.result.now in
    let i = c.loop-index.index in
    let at = get_or places i 0 in
    let stand = subst (λ (l : List ℕ). AreAt (seen c.loop-index.members.entries) c.loop-index.invariant.0 l) (drop_more places i 0 c.loop-index-test.true) c.loop-index.invariant.1 in
    next_within c.loop-index.members.entries c.loop-index.invariant.0 at (drop (i + 1) places) stand

pub loop-index-preserved : goal.loop-index-preserved
loop-index-preserved c =
    let fields = fields_of c.args.row.now in
    let places = c.places-places.result.now in
    let i = c.loop-index.index in
    let at = get_or places i 0 in
    let left = c.loop-index.invariant.0 in
    let field = c.in-Some.field.now in
    let old = seen c.loop-index.members.entries in
    let new = seen c.set_field.new.members.entries in
    let stand = subst (λ (l : List ℕ). AreAt old left l) (drop_more places i 0 c.loop-index-test.true) c.loop-index.invariant.1 in
    let next = next_set old new at (text (utf8_lossy field)) left (drop (i + 1) places) c.in_ok-set_field.ensures stand in (
      next.rest,
      next.stand,
      one_named left next.rest (drop i fields) (drop (i + 1) fields) next.name field old new next.names_are (field_here fields i field (sym c.in-Some.ensures.value)) next.put ∙ c.loop-index.invariant.2,
    )

pub returns : goal.returns
returns c =
    let fields = fields_of c.args.row.now in
    let places = c.places-places.result.now in
    let i = c.loop-index.index in
    let left = c.loop-index.invariant.0 in
    let members = seen c.loop-index.members.entries in
    let all = put_all [] (named c.args.names.now fields) in
    elim c.loop-index-test.branch [
      | else-loop-index-test w ↦
          let none = no_names_left members left (subst (λ (l : List ℕ). AreAt members left l) (drop_all i places w.loop-index-test.false) c.loop-index.invariant.1) in
          no_name_left left (drop i fields) members all c.loop-index.invariant.2 none
      | then-loop-index-test+in_default w ↦ no_field_left left (drop i fields) members all c.loop-index.invariant.2 (no_field_here fields i (sym w.in_default.ensures.value))
    ]
