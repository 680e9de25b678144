use Rattle.std.proofs.Common.{◌≡◌, ◌++◌, List, subst, arith}
use Rattle.op_kinds.specs.Kept.{Kept}
use Rattle.op_kinds.specs.States.{states_spelling, HaveSpellings}
use Rattle.state_codec.proofs.Numbers.{IsBytes}
use Rattle.pipeline.proofs.Rows.{bytes_within, saved_tells}
use Rattle.pipeline.proofs.Pipeline.save.Goals as goal

pub returns-clause-spelled : goal.returns-clause-spelled
returns-clause-spelled c =
    let before = c.args.out.now.items in
    let after = c.save_state.new.out.items in
    let states = c.args.state.now.states.items in
    let fits : IsBytes after = bytes_within after (λ i low. omega (arith, c.type_inv.out i 0 low)) in
    let grown : after ≡ before ++ states_spelling states = subst (λ (ks : List Kept). after ≡ before ++ states_spelling ks) c.deref.ensures.value c.in_ok-save_state.ensures.ok in
    let lawful : HaveSpellings states = subst HaveSpellings c.deref.ensures.value c.in_ok-save_state.ensures.lawful in
    (saved_tells c.args.self.now.graph before after states fits grown c.requires lawful).0

pub returns-clause-tells : goal.returns-clause-tells
returns-clause-tells c =
    let before = c.args.out.now.items in
    let after = c.save_state.new.out.items in
    let states = c.args.state.now.states.items in
    let fits : IsBytes after = bytes_within after (λ i low. omega (arith, c.type_inv.out i 0 low)) in
    let grown : after ≡ before ++ states_spelling states = subst (λ (ks : List Kept). after ≡ before ++ states_spelling ks) c.deref.ensures.value c.in_ok-save_state.ensures.ok in
    let lawful : HaveSpellings states = subst HaveSpellings c.deref.ensures.value c.in_ok-save_state.ensures.lawful in
    (saved_tells c.args.self.now.graph before after states fits grown c.requires lawful).1
