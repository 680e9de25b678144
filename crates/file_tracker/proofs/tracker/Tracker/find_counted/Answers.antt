use Rattle.std.proofs.Common.{◌-◌, ◌<◌, Bool, Some, false, sym, ap, subst, ◌∙◌, arith}
use Rattle.std.proofs.lemmas.List.{get_or_read}
use Rattle.file_tracker.specs.Fronts.{fronts_of}
use Rattle.file_tracker.specs.Order.{IsIndex}
use Rattle.file_tracker.proofs.FindLemmas.{found, found_behind, not_found}
use Rattle.file_tracker.proofs.tracker.Tracker.find_counted.Goals as goal

pub returns-then-standing-clause-first : goal.returns-then-standing-clause-first
returns-then-standing-clause-first g c =
    let rows = c.self.inside.rows.items in
    let order = c.self.inside.order.items in
    let standing = c.search-standing.result in
    let stands = rw (c.deref-2.ensures.value, c.deref-3.ensures.value) at c.search-standing.ensures.stands in
    let index : IsIndex (fronts_of rows) order false = subst (λ (b : Bool). IsIndex (fronts_of rows) order b) c.if-self.false c.self.invariant.index in
    let some : 0 < standing.index = found_behind (fronts_of rows) order c.args.front.now standing.index standing.begun stands c.if-standing.true in
    rw (← c.self.view_is)
    (ap Some (get_or_read order (standing.index - 1) c.index.result.now (omega (arith, stands.within, some)) c.index.ensures 0) ∙ sym (found rows order c.args.front.now standing.index standing.begun index stands c.if-standing.true))

pub returns-else-standing-clause-first : goal.returns-else-standing-clause-first
returns-else-standing-clause-first g c =
    let rows = c.self.inside.rows.items in
    let order = c.self.inside.order.items in
    let standing = c.search-standing.result in
    let stands = rw (c.deref-2.ensures.value, c.deref-3.ensures.value) at c.search-standing.ensures.stands in
    let index : IsIndex (fronts_of rows) order false = subst (λ (b : Bool). IsIndex (fronts_of rows) order b) c.if-self.false c.self.invariant.index in
    rw (← c.self.view_is) (sym (not_found rows order c.args.front.now standing.index standing.begun index stands c.if-standing.false))
