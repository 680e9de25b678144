use Rattle.std.proofs.Common.{rules, ◌≡◌, ℕ, ◌+◌, ◌<◌, ◌≤◌, List, length, get_or, true, false, sym, ap, subst, ◌∙◌, arith}
use Rattle.std.proofs.lemmas.List.{length-map}
use Rattle.std.specs.Prelude.{Some}
use Rattle.outside.specs.declared.tree.Item.{Item}
use Rattle.outside.specs.declared.tree.Kind.{Kind}
use Rattle.outside.specs.Listing.{kind_at, path_within}
use Rattle.outside.specs.Path.{is_component}
use Rattle.mem_world.specs.TreeNames.{name_of, names_of}
use Rattle.mem_world.proofs.TreeFolders.{first_is, first_part}
use Rattle.mem_world.proofs.TreeListings.{has, TakesDown, takes_none, takes_no, takes_other, takes_name, takes_all, path_here}
use Rattle.mem_world.proofs.tree.listing.list.Goals as goal

never : (name : List ℕ) → is_component name ≡ false → is_component name ≡ true → ⊥
never name refused is = cc

pub loop-place-init : goal.loop-place-init
loop-place-init c = takes_none c.args.folder.now (names_of c.args.names.now.items) c.new-items.result.items c.new-items.ensures.items

pub loop-place-preserved-in_default : goal.loop-place-preserved-in_default
loop-place-preserved-in_default c =
    let within : c.loop-place.place < length c.args.names.now.items = search rules in
    takes_no c.args.folder.now (names_of c.args.names.now.items) c.loop-place.items.items c.loop-place.place c.loop-place.invariant
    (λ d inside rest is component. absurd (c.in_default.ensures rest (c.as_str.ensures ∙ sym (path_here c.args.names.now.items c.loop-place.place c.index.result.now within c.index.ensures d inside) ∙ is)))

pub returns : goal.returns
returns c =
    let past : length (names_of c.args.names.now.items) ≤ c.loop-place.place = (let all : length c.args.names.now.items ≤ c.loop-place.place = search rules in omega (arith, all, length-map c.args.names.now.items name_of)) in
    takes_all c.args.folder.now (names_of c.args.names.now.items) c.loop-place.items.items c.loop-place.place c.loop-place.invariant past

pub loop-place-preserved-then-not-is_component : goal.loop-place-preserved-then-not-is_component
loop-place-preserved-then-not-is_component c =
    let within : c.loop-place.place < length c.args.names.now.items = search rules in
    let rest = c.in-Some.rest.now in
    let here : (d : List ℕ × ℕ) → c.loop-place.place < length (names_of c.args.names.now.items) → (get_or (names_of c.args.names.now.items) c.loop-place.place d).0 ≡ path_within c.args.folder.now rest = λ d inside. path_here c.args.names.now.items c.loop-place.place c.index.result.now within c.index.ensures d inside ∙ sym c.as_str.ensures ∙ c.in-Some.ensures in
    let name_is = c.first_of-name.ensures ∙ first_is rest in
    let tested = ap is_component (sym name_is) ∙ ap is_component (sym c.as_bytes.ensures.value) ∙ sym c.is_component.ensures in
    let no : is_component (first_part rest) ≡ false = tested ∙ c.if-not-is_component.true in
    takes_other c.args.folder.now (names_of c.args.names.now.items) c.loop-place.items.items c.loop-place.place rest c.loop-place.invariant here (λ component. absurd (never (first_part rest) no component))

pub loop-place-preserved-then-has_item : goal.loop-place-preserved-then-has_item
loop-place-preserved-then-has_item c =
    let within : c.loop-place.place < length c.args.names.now.items = search rules in
    let rest = c.in-Some.rest.now in
    let here : (d : List ℕ × ℕ) → c.loop-place.place < length (names_of c.args.names.now.items) → (get_or (names_of c.args.names.now.items) c.loop-place.place d).0 ≡ path_within c.args.folder.now rest = λ d inside. path_here c.args.names.now.items c.loop-place.place c.index.result.now within c.index.ensures d inside ∙ sym c.as_str.ensures ∙ c.in-Some.ensures in
    let name_is = c.first_of-name.ensures ∙ first_is rest in
    let known : has c.loop-place.items.items (first_part rest) ≡ true = ap (has c.loop-place.items.items) (sym name_is) ∙ ap (λ items. has items c.first_of-name.result.now) (sym c.as_slice.ensures.value) ∙ sym c.has_item.ensures ∙ c.if-has_item.true in
    takes_other c.args.folder.now (names_of c.args.names.now.items) c.loop-place.items.items c.loop-place.place rest c.loop-place.invariant here (λ component. known)

pub loop-place-preserved : goal.loop-place-preserved
loop-place-preserved c =
    let within : c.loop-place.place < length c.args.names.now.items = search rules in
    let rest = c.in-Some.rest.now in
    let here : (d : List ℕ × ℕ) → c.loop-place.place < length (names_of c.args.names.now.items) → (get_or (names_of c.args.names.now.items) c.loop-place.place d).0 ≡ path_within c.args.folder.now rest = λ d inside. path_here c.args.names.now.items c.loop-place.place c.index.result.now within c.index.ensures d inside ∙ sym c.as_str.ensures ∙ c.in-Some.ensures in
    let name_is = c.first_of-name.ensures ∙ first_is rest in
    let tested = ap is_component (sym name_is) ∙ ap is_component (sym c.as_bytes.ensures.value) ∙ sym c.is_component.ensures in
    let component : is_component (first_part rest) ≡ true = tested ∙ c.if-not-is_component.false in
    let fresh : has c.loop-place.items.items (first_part rest) ≡ false = ap (has c.loop-place.items.items) (sym name_is) ∙ ap (λ items. has items c.first_of-name.result.now) (sym c.as_slice.ensures.value) ∙ sym c.has_item.ensures ∙ c.if-has_item.false in
    let P : List Item → Type 0 = λ items. TakesDown c.args.folder.now (names_of c.args.names.now.items) items (c.loop-place.place + 1) in
    let new : Item = record { name = c.in_ok-name.name; kind = c.kind_of-kind.result } in
    let kind : (kind : Kind) → kind_at (names_of c.args.names.now.items) (path_within c.args.folder.now (first_part rest)) ≡ Some kind → c.kind_of-kind.result ≡ kind = λ kind told. c.kind_of-kind.ensures kind (ap (λ n. kind_at (names_of c.args.names.now.items) (path_within c.args.folder.now n)) name_is ∙ told) in
    subst P (sym c.in_ok-push.ensures.items) (takes_name c.args.folder.now (names_of c.args.names.now.items) c.loop-place.items.items c.loop-place.place rest new c.loop-place.invariant here (omega (arith, within, length-map c.args.names.now.items name_of)) (c.in_ok-name.ensures ∙ name_is) component fresh kind)
