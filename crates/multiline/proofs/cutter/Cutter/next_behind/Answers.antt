use Rattle.multiline.proofs.StopLemmas.{searched-append}
use Rattle.multiline.proofs.RuleLemmas.{at_marked, at_undecided, at_none, short_searched, next_ended, next_undecided, next_long, next_short}
use Rattle.multiline.proofs.cutter.Cutter.next_behind.Goals as goal

pub returns-in-Marked-clause-token : goal.returns-in-Marked-clause-token
returns-in-Marked-clause-token c =
    let there = at_marked c.args.self.now c.args.max c.args.bytes.now c.in_ok-place.field-0 c.in-Marked.place c.in-Marked.is c.in_ok-place.ensures in
    let token = c.token_before.ensures in
    next_ended c.args.self.now c.args.max c.requires.max c.args.bytes.now c.in-Marked.place there.0 there.1 c.token_before.result token.cut token.from token.to token.after

pub returns-in-Undecided-clause-token : goal.returns-in-Undecided-clause-token
returns-in-Undecided-clause-token c =
    let there = at_undecided c.args.self.now c.args.max c.args.bytes.now c.in_ok-place.field-0 c.in-Undecided.place c.in-Undecided.is c.in_ok-place.ensures in
    next_undecided c.args.self.now c.args.max c.args.bytes.now c.in-Undecided.place there.0 there.1

pub returns-in-Undecided-clause-goes_on : goal.returns-in-Undecided-clause-goes_on
returns-in-Undecided-clause-goes_on c = λ more.
    (let there = at_undecided c.args.self.now c.args.max c.args.bytes.now c.in_ok-place.field-0 c.in-Undecided.place c.in-Undecided.is c.in_ok-place.ensures in
    searched-append c.args.self.now c.args.max c.requires.max c.args.bytes.now more c.in-Undecided.place there.0.searched)

pub returns-in-Nowhere-clause-token : goal.returns-in-Nowhere-clause-token
returns-in-Nowhere-clause-token c =
    let all = at_none c.args.self.now c.args.max c.args.bytes.now c.in_ok-place.field-0 c.in-Nowhere.is c.in_ok-place.ensures in
    next_long c.args.self.now c.args.max c.requires.max c.args.bytes.now all c.if-max-bytes.true

pub returns-in-Nowhere-2-clause-token : goal.returns-in-Nowhere-2-clause-token
returns-in-Nowhere-2-clause-token c =
    let all = at_none c.args.self.now c.args.max c.args.bytes.now c.in_ok-place.field-0 c.in-Nowhere.is c.in_ok-place.ensures in
    next_short c.args.self.now c.args.max c.args.bytes.now all c.if-max-bytes.false

pub returns-in-Nowhere-2-clause-goes_on : goal.returns-in-Nowhere-2-clause-goes_on
returns-in-Nowhere-2-clause-goes_on c = λ more.
    (let all = at_none c.args.self.now c.args.max c.args.bytes.now c.in_ok-place.field-0 c.in-Nowhere.is c.in_ok-place.ensures in
    short_searched c.args.self.now c.args.max c.requires.max c.args.bytes.now more all c.if-max-bytes.false)
