use Rattle.std.proofs.Common.{◌≡◌, ℕ, ◌<◌, List, length, Some, refl, sym, ap, subst, ◌∙◌}
use Rattle.std.specs.List.{slice_get}
use Rattle.std.specs.Map.{values_of}
use Rattle.entry_model.specs.ByName.{ByName}
use Rattle.entry_model.specs.Places.{value_set_at}
use Rattle.entry_model.proofs.Places.{lent_ascends, same_map, set_here, value_here}
use Rattle.entry_model.proofs.fields.TextMap.value_mut.Goals as goal

pub invariant_of-self-lent : goal.invariant_of-self-lent
invariant_of-self-lent g c = λ w.
    let e = ap (λ (m : ByName g.row.V.Denot). m.entries) c.self.view_is in
    let within = subst (λ (es : List (List ℕ × g.row.V.Denot)). c.args.at < length es) (sym e) c.requires in
    lent_ascends c.self.inside.members.items c.args.at c.index_mut-member.result.now w within c.index_mut-member.ensures.value c.self.invariant

pub returns : goal.returns
returns g c =
    let items = c.self.inside.members.items in
    let m = c.index_mut-member.result.now in
    let e = ap (λ (m : ByName g.row.V.Denot). m.entries) c.self.view_is in
    let within = subst (λ (es : List (List ℕ × g.row.V.Denot)). c.args.at < length es) (sym e) c.requires in (
      (
        refl,
        λ w. same_map (set_here items c.args.at m w within c.index_mut-member.ensures.value ∙ ap (λ (es : List (List ℕ × g.row.V.Denot)). value_set_at es c.args.at w) e),
      ),
      record {
        writes_back = tt;
        value = subst (λ (es : List (List ℕ × g.row.V.Denot)). slice_get (values_of es) c.args.at ≡ Some m.1) e (value_here items c.args.at m within c.index_mut-member.ensures.value);
      },
    )
