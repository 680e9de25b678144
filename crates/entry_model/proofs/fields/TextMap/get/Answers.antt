use Rattle.std.proofs.Common.{◌≡◌, ℕ, ◌<◌, List, length, Some, sym, ap, subst, ◌∙◌, arith}
use Rattle.std.specs.List.{slice_get}
use Rattle.std.specs.Map.{values_of}
use Rattle.entry_model.specs.ByName.{ByName}
use Rattle.entry_model.proofs.Places.{stands_within, stands_value, value_here, fits_missing}
use Rattle.entry_model.proofs.fields.TextMap.get.Goals as goal

pub index-requires : goal.index-requires
index-requires g c =
    let e = ap (λ (m : ByName g.row.V.Denot). m.entries) c.self.view_is in
    let within = subst (λ (es : List (List ℕ × g.row.V.Denot)). c.in-Ok.at < length es) (sym e) (stands_within c.args.name.now c.args.self.now.entries c.in-Ok.at c.in-Ok.ensures.found) in
    omega (arith, c.self.inside.members.ok.0, within)

pub returns-in-Ok : goal.returns-in-Ok
returns-in-Ok g c =
    let items = c.self.inside.members.items in
    let m = c.index.result.now in
    let found = c.in-Ok.ensures.found in
    let e = ap (λ (m : ByName g.row.V.Denot). m.entries) c.self.view_is in
    let within = subst (λ (es : List (List ℕ × g.row.V.Denot)). c.in-Ok.at < length es) (sym e) (stands_within c.args.name.now c.args.self.now.entries c.in-Ok.at found) in
    let here = subst (λ (es : List (List ℕ × g.row.V.Denot)). slice_get (values_of es) c.in-Ok.at ≡ Some m.1) e (value_here items c.in-Ok.at m within c.index.ensures) in
    record { value = sym (stands_value c.args.name.now c.args.self.now.entries c.in-Ok.at found ∙ here) }

pub returns-in-Err : goal.returns-in-Err
returns-in-Err g c = record { value = sym (fits_missing c.args.name.now c.args.self.now.entries c.in-Err.field-0 c.place.ensures.ordered c.in-Err.ensures.missing) }
