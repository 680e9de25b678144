use Rattle.std.proofs.Common.{◌≡◌, ℕ, ◌≤◌, List, length, sym, ap, subst}
use Rattle.entry_model.specs.ByName.{ByName}
use Rattle.entry_model.specs.Places.{FitsAt}
use Rattle.std.specs.BTreeMap.{insert_entry}
use Rattle.std.specs.Result.{OnOk}
use Rattle.entry_model.specs.Places.{name_cmp}
use Rattle.entry_model.proofs.Places.{fits_within, put_ascends, put_inserts}
use Rattle.entry_model.proofs.fields.TextMap.insert_at.Goals as goal

pub put_at-requires : goal.put_at-requires
put_at-requires g c =
    let e = ap (λ (m : ByName g.row.V.Denot). m.entries) c.self.view_is in
    subst (λ (es : List (List ℕ × g.row.V.Denot)). c.args.at ≤ length es) (sym e) (fits_within c.args.name c.args.self.now.entries c.args.at c.requires)

pub invariant_of-self : goal.invariant_of-self
invariant_of-self g c =
    let e = ap (λ (m : ByName g.row.V.Denot). m.entries) c.self.view_is in
    let missing = subst (λ (es : List (List ℕ × g.row.V.Denot)). FitsAt c.args.name es c.args.at) (sym e) c.requires in
    put_ascends c.args.name c.self.inside.members.items c.put_at.new.members.items c.args.at c.args.value c.put_at.result c.put_at.ensures.items c.put_at.ensures.err c.self.invariant missing

pub returns-clause-entries : goal.returns-clause-entries
returns-clause-entries g c =
    let e = ap (λ (m : ByName g.row.V.Denot). m.entries) c.self.view_is in
    let missing = subst (λ (es : List (List ℕ × g.row.V.Denot)). FitsAt c.args.name es c.args.at) (sym e) c.requires in
    let put = put_inserts c.args.name c.self.inside.members.items c.put_at.new.members.items c.args.at c.args.value c.put_at.result c.put_at.ensures.items missing in
    subst (λ (es : List (List ℕ × g.row.V.Denot)). OnOk c.put_at.result (c.put_at.new.members.items ≡ insert_entry name_cmp es c.args.name c.args.value)) e put
