use Rattle.std.proofs.Common.{ℕ, List, length, ap, sym, refl, ◌∙◌, arith}
use Rattle.std.proofs.lemmas.Result.{IfOk-weaker}
use Rattle.poll_core.proofs.AdoptWhole.{closed_all, lines_of_row, state_of_row}
use Rattle.poll_core.proofs.session.Session.close_files.Goals as goal

pub close_all-requires-clause-states : goal.close_all-requires-clause-states
close_all-requires-clause-states c = state_of_row c.args.self.now c.requires

pub close_all-requires-clause-lines : goal.close_all-requires-clause-lines
close_all-requires-clause-lines c = lines_of_row c.args.self.now c.requires

pub returns : goal.returns
returns c =
    IfOk-weaker c.close_all.result _ _
    (λ closing has. closed_all c.args.self.now c.args.next.now _ closing
    (record {
      pipeline = refl;
      observed = c.stamp_of.ensures;
      fresh = λ text. sym (c.as_slice.ensures ∙ c.in_ok-fresh.ensures.text text);
      short = omega (arith, c.in_ok-fresh.ensures.short, ap (λ (t : List ℕ). length t) c.as_slice.ensures);
    })
    has)
    c.close_all.ensures
