use Rattle.std.proofs.Common.{◌≡◌, ℕ, ◌<◌, List, length, Some, sym, ap, subst, ◌∙◌, arith}
use Rattle.std.specs.List.{slice_get}
use Rattle.std.specs.Map.{values_of}
use Rattle.entry_model.specs.ByName.{ByName}
use Rattle.std.specs.List.{remove}
use Rattle.entry_model.proofs.Places.{stands_within, stands_value, stands_removed, value_here, removed_ascend, fits_missing, fits_unremoved}
use Rattle.entry_model.proofs.fields.TextMap.remove.Goals as goal

pub remove-member-requires : goal.remove-member-requires
remove-member-requires g c =
    let e = ap (λ (m : ByName g.row.V.Denot). m.entries) c.self.view_is in
    let within = subst (λ (es : List (List ℕ × g.row.V.Denot)). c.in-Ok.at < length es) (sym e) (stands_within c.args.name.now c.args.self.now.entries c.in-Ok.at c.in-Ok.ensures.found) in
    omega (arith, c.self.inside.members.ok.0, within)

pub invariant_of-self : goal.invariant_of-self
invariant_of-self g c =
    let e = ap (λ (m : ByName g.row.V.Denot). m.entries) c.self.view_is in
    let within = subst (λ (es : List (List ℕ × g.row.V.Denot)). c.in-Ok.at < length es) (sym e) (stands_within c.args.name.now c.args.self.now.entries c.in-Ok.at c.in-Ok.ensures.found) in
    rw c.remove-member.ensures.items (removed_ascend c.self.inside.members.items c.in-Ok.at within c.self.invariant)

pub returns-in-Ok-clause-value : goal.returns-in-Ok-clause-value
returns-in-Ok-clause-value g c =
    let items = c.self.inside.members.items in
    let m = c.remove-member.result in
    let found = c.in-Ok.ensures.found in
    let e = ap (λ (m : ByName g.row.V.Denot). m.entries) c.self.view_is in
    let within = subst (λ (es : List (List ℕ × g.row.V.Denot)). c.in-Ok.at < length es) (sym e) (stands_within c.args.name.now c.args.self.now.entries c.in-Ok.at c.in-Ok.ensures.found) in
    let here = subst (λ (es : List (List ℕ × g.row.V.Denot)). slice_get (values_of es) c.in-Ok.at ≡ Some m.1) e (value_here items c.in-Ok.at m within c.remove-member.ensures.value) in
    ap (λ (v : g.row.V.Denot). Some v) c.value_of.ensures ∙ sym (stands_value c.args.name.now c.args.self.now.entries c.in-Ok.at found ∙ here)

pub returns-in-Ok-clause-entries : goal.returns-in-Ok-clause-entries
returns-in-Ok-clause-entries g c =
    let e = ap (λ (m : ByName g.row.V.Denot). m.entries) c.self.view_is in
    c.remove-member.ensures.items ∙ ap (λ (es : List (List ℕ × g.row.V.Denot)). remove es c.in-Ok.at) e ∙ stands_removed c.args.name.now c.args.self.now.entries c.in-Ok.at c.in-Ok.ensures.found

pub returns-in-Err-clause-value : goal.returns-in-Err-clause-value
returns-in-Err-clause-value g c = sym (fits_missing c.args.name.now c.args.self.now.entries c.in-Err.field-0 c.place.ensures.ordered c.in-Err.ensures.missing)

pub returns-in-Err-clause-entries : goal.returns-in-Err-clause-entries
returns-in-Err-clause-entries g c = sym (fits_unremoved c.args.name.now c.args.self.now.entries c.in-Err.field-0 c.place.ensures.ordered c.in-Err.ensures.missing)
