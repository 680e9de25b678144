use Rattle.std.proofs.Common.{ℕ, List, sym, ap, ◌∙◌, arith}
use Rattle.entry_model.specs.Places.{name_cmp}
use Rattle.entry_model.proofs.Places.{fits_next, stands_next, above_more, fits_first}
use Rattle.entry_model.proofs.fields.search_back.Goals as goal

pub returns-in-Greater-clause-missing : goal.returns-in-Greater-clause-missing
returns-in-Greater-clause-missing g c =
    let compared = ap (λ (n : List ℕ × g.row.V.Denot). name_cmp c.args.name.now n.0) c.index-members-at.is ∙ sym (c.order.ensures ∙ ap (λ (t : List ℕ). name_cmp t c.as_str.result.now) c.as_str-wanted.ensures ∙ ap (λ (t : List ℕ). name_cmp c.args.name.now t) c.as_str.ensures) in
    fits_next c.args.name.now c.args.members.now c.requires c.loop-at.at c.loop-at-test.true c.loop-at.invariant.within c.index-members-at.result c.index-members-at.is (compared ∙ c.in-Greater.is) c.loop-at.invariant.above

pub returns-in-Equal-clause-found : goal.returns-in-Equal-clause-found
returns-in-Equal-clause-found g c =
    let compared = ap (λ (n : List ℕ × g.row.V.Denot). name_cmp c.args.name.now n.0) c.index-members-at.is ∙ sym (c.order.ensures ∙ ap (λ (t : List ℕ). name_cmp t c.as_str.result.now) c.as_str-wanted.ensures ∙ ap (λ (t : List ℕ). name_cmp c.args.name.now t) c.as_str.ensures) in
    stands_next c.args.name.now c.args.members.now c.requires c.loop-at.at c.loop-at-test.true c.loop-at.invariant.within c.index-members-at.result c.index-members-at.is (compared ∙ c.in-Equal.is)

pub loop-at-preserved : goal.loop-at-preserved
loop-at-preserved g c =
    let compared = ap (λ (n : List ℕ × g.row.V.Denot). name_cmp c.args.name.now n.0) c.index-members-at.is ∙ sym (c.order.ensures ∙ ap (λ (t : List ℕ). name_cmp t c.as_str.result.now) c.as_str-wanted.ensures ∙ ap (λ (t : List ℕ). name_cmp c.args.name.now t) c.as_str.ensures) in
    record {
      within = omega (arith, c.loop-at.invariant.within);
      above = above_more c.args.name.now c.args.members.now c.requires c.loop-at.at c.loop-at-test.true c.loop-at.invariant.within c.index-members-at.result c.index-members-at.is (compared ∙ c.in-Less.is) c.loop-at.invariant.above;
    }

pub returns-clause-missing : goal.returns-clause-missing
returns-clause-missing g c = fits_first c.args.name.now c.args.members.now c.loop-at.at (omega (arith, c.loop-at-test.false)) c.loop-at.invariant.above
