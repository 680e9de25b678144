use Rattle.std.proofs.Common.{◌≡◌, ◌+◌, ◌∙◌, ap, sym, refl, Bool, cond, Some, None, length, arith}
use Rattle.glob_match.specs.Inner.Reader.{state_of}
use Rattle.glob_match.proofs.Faults.{steps_more, wrong_fault, unfinished_fault, whole_read, glob_read, last_closed_start, last_closed_here, last_closed_stays}
use Rattle.glob_match.proofs.glob.read_characters.Goals as goal
use Rattle.glob_match.proofs.glob.read_characters.Goals.{then-not-is_open, else-not-is_open}

pub loop-at-init : goal.loop-at-init
loop-at-init c = record { reads = ap Some (sym c.new-reader.ensures); closed = last_closed_start c.args.characters.now }

pub returns-then-not-branch-clause-fault : goal.returns-then-not-branch-clause-fault
returns-then-not-branch-clause-fault c =
    let taken = λ (b : Bool). cond b (Some (state_of c.step.new.self)) None in
    let text = c.args.characters.now in
    let stops = steps_more text c.loop-at.at c.index-characters-at.result (state_of c.loop-at.reader) c.loop-at-test.true c.index-characters-at.is c.loop-at.invariant.reads ∙ c.in_ok-step.ensures ∙ ap taken c.if-not-branch.true in
    rw c.syntax.ensures (c.loop-at.at, wrong_fault text c.loop-at.at (state_of c.loop-at.reader) c.loop-at-test.true c.loop-at.invariant.reads stops, refl)

pub loop-at-preserved : goal.loop-at-preserved
loop-at-preserved c =
    let taken = λ (b : Bool). cond b (Some (state_of c.step.new.self)) None in
    let text = c.args.characters.now in
    let reads = steps_more text c.loop-at.at c.index-characters-at.result (state_of c.loop-at.reader) c.loop-at-test.true c.index-characters-at.is c.loop-at.invariant.reads ∙ c.in_ok-step.ensures ∙ ap taken c.if-not-branch.false in
    record {
      reads = reads;
      closed = elim c.if-not-is_open.branch [
        | then-not-is_open w ↦ rw w.closed-is (last_closed_here text (c.loop-at.at + 1) (state_of c.step.new.self) reads (sym c.is_open.ensures ∙ w.if-not-is_open.true))
        | else-not-is_open w ↦ rw w.closed-is (last_closed_stays text c.loop-at.at c.loop-at.closed (state_of c.step.new.self) c.loop-at.invariant.closed reads (sym c.is_open.ensures ∙ w.if-not-is_open.false))
      ];
    }

pub returns-in_default-clause-fault : goal.returns-in_default-clause-fault
returns-in_default-clause-fault c =
    let text = c.args.characters.now in
    let whole = whole_read text c.loop-at.at (state_of c.loop-at.reader) c.loop-at-test.false c.loop-at.auto.at-end c.loop-at.invariant.reads in
    let same : c.loop-at.at ≡ length text = omega arith in
    rw c.syntax-in_default.ensures
    (c.loop-at.closed, unfinished_fault text c.loop-at.closed (state_of c.loop-at.reader) whole (sym c.in_ok-glob.ensures ∙ c.in_default.is) (rw same at c.loop-at.invariant.closed), refl)

pub returns-clause-ok : goal.returns-clause-ok
returns-clause-ok c =
    let text = c.args.characters.now in
    let whole = whole_read text c.loop-at.at (state_of c.loop-at.reader) c.loop-at-test.false c.loop-at.auto.at-end c.loop-at.invariant.reads in
    glob_read text (state_of c.loop-at.reader) c.in-Some.glob whole (sym c.in_ok-glob.ensures ∙ c.in-Some.is)
