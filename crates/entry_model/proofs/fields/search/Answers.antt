use Rattle.std.proofs.Common.{rules, of_calls}
use Rattle.std.proofs.lemmas.Fn.{always_returns_same}
use Rattle.entry_model.specs.Places.{name_cmp}
use Rattle.entry_model.proofs.Places.{searched}
use Rattle.entry_model.proofs.fields.search.Goals as goal

pub returns-clause-found : goal.returns-clause-found
returns-clause-found g c =
    let name = c.args.name.now in
    let called = c.binary_search_by.ensures.position (λ m. name_cmp m.0 name) (always_returns_same _ _ _ (λ a r f k. search (rules, of_calls))) in
    (searched name c.args.members.now c.requires c.binary_search_by.result c.binary_search_by.ensures.bound called).found

pub returns-clause-missing : goal.returns-clause-missing
returns-clause-missing g c =
    let name = c.args.name.now in
    let called = c.binary_search_by.ensures.position (λ m. name_cmp m.0 name) (always_returns_same _ _ _ (λ a r f k. search (rules, of_calls))) in
    (searched name c.args.members.now c.requires c.binary_search_by.result c.binary_search_by.ensures.bound called).missing
