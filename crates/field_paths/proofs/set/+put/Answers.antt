use Rattle.std.proofs.Common.{◌≡◌, ◌∷◌, ◌∙◌, ap, None, sym, ℕ, List, length}
use Rattle.std.specs.BTreeMap.{insert_entry}
use Rattle.entry_model.specs.ByName.{ByName}
use Rattle.std.specs.Ordering.{nat_cmp}
use Rattle.std.specs.Cmp.Lexicographic.{slice_cmp}
use Rattle.entry_model.specs.declared.value.Value.{Value}
use Rattle.std.proofs.lemmas.Bool.{eqb-true}
use Rattle.std.proofs.lemmas.Result.{on_ok_weaker, on_err_weaker, IfErr-weaker}
use Rattle.entry_model.specs.Datum.{datum}
use Rattle.field_paths.specs.Change.{with_value}
use Rattle.field_paths.specs.MapOf.{map_of}
use Rattle.field_paths.specs.declared.path.SetFault.{SetFault}
use Rattle.field_paths.specs.declared.path.SetFault.TheVariants.{NotAMap}
use Rattle.field_paths.proofs.Cases.{nothing_left}
use Rattle.field_paths.proofs.Steps.{last_put, member_put, member_kept, member_refused, member_made}
use Rattle.field_paths.proofs.set.+put.Goals as goal

pub put_member-returns-then-is_empty-clause-ok : goal.put_member-returns-then-is_empty-clause-ok
put_member-returns-then-is_empty-clause-ok t c =
    let last = nothing_left c.args.names.now (eqb-true (length c.args.names.now) 0 (sym c.is_empty.ensures ∙ c.if-is_empty.true)) in
    last_put c.args.name.now c.args.members.now.entries c.insert.new.fields.entries c.args.value c.args.names.now last c.in_ok-insert.ensures.ok

pub put_member-returns-in-Some-clause-ok : goal.put_member-returns-in-Some-clause-ok
put_member-returns-in-Some-clause-ok t c =
    let now = c.put.new.target in
    on_ok_weaker c.put.result
    (member_put c.args.name.now c.args.members.now.entries (c.get_mut.follows.lender now).entries c.in-Some.member.now now c.args.names.now (datum c.args.value)
    c.get_mut.ensures.ordered (sym c.in-Some.ensures.value) (c.get_mut.follows.holds now).0)
    c.put.ensures.ok

pub put_member-returns-in-Some-clause-err : goal.put_member-returns-in-Some-clause-err
put_member-returns-in-Some-clause-err t c =
    let now = c.put.new.target in
    on_err_weaker c.put.result
    (member_kept c.args.name.now c.args.members.now.entries (c.get_mut.follows.lender now).entries c.in-Some.member.now now
    (sym c.in-Some.ensures.value) (c.get_mut.follows.holds now).0)
    c.put.ensures.err

pub put_member-returns-in-Some-clause-not_a_map : goal.put_member-returns-in-Some-clause-not_a_map
put_member-returns-in-Some-clause-not_a_map t c =
    IfErr-weaker c.put.result
    (λ (fault : SetFault). fault ≡ NotAMap → with_value c.args.names.now (datum c.args.value) (datum c.in-Some.member.now) ≡ None)
    (λ (fault : SetFault). fault ≡ NotAMap → with_value (c.args.name.now ∷ c.args.names.now) (datum c.args.value) (map_of c.args.members.now.entries) ≡ None)
    (λ fault refused e. member_refused c.args.name.now c.args.members.now.entries c.in-Some.member.now c.args.names.now (datum c.args.value) (sym c.in-Some.ensures.value) (refused e))
    c.put.ensures.not_a_map

pub put_member-returns-clause-ok : goal.put_member-returns-clause-ok
put_member-returns-clause-ok t c =
    let name = c.args.name.now in
    let made = c.in_ok-member.member in
    let same = c.in_ok-insert-2.ensures.ok
    ∙ ap (λ (members : ByName Value). insert_entry (slice_cmp nat_cmp) members.entries name made) c.get_mut.follows.holds-at-none in
    member_made name c.args.members.now.entries c.insert-2.new.fields.entries made c.args.names.now (datum c.args.value)
    (sym c.in_default.ensures.value) same c.in_ok-member.ensures
