use Rattle.std.proofs.Common.{◌++◌, List, ℕ, ap, sym, refl, ◌∙◌}
use Rattle.entry_model.specs.LogRecord.{log_record}
use Rattle.recombine.specs.Recombined.{Arrival, recombined, item_of, entries_of}
use Rattle.recombine.specs.Steps.{after, ended}
use Rattle.recombine.specs.Stepped.{effect, seen}
use Rattle.recombine.proofs.JudgeLemmas.{too_deep_then, taken_then, deep_is, shallow_is, gives_back_too_deep, puts_made}
use Rattle.recombine.proofs.joining.Recombine.step.Goals as goal

pub returns-then-not-nests_within : goal.returns-then-not-nests_within
returns-then-not-nests_within c =
    let a : Arrival = record { source = c.args.source.now; mark = c.args.mark; entry = log_record c.args.entry } in
    gives_back_too_deep (recombined c.args.self.now c.args.groups.now a)
    (too_deep_then c.args.self.now c.args.groups.now a c.in-Some.text (sym c.in_ok-text.ensures ∙ c.in-Some.is)
    (deep_is (log_record c.args.entry) c.nests_within.result c.nests_within.ensures.depth c.if-not-nests_within.true))
    c.args.entry (effect c.args.groups.now c.args.groups.now c.args.out.now.items c.args.out.now.items) refl refl

pub returns : goal.returns
returns c =
    let a : Arrival = record { source = c.args.source.now; mark = c.args.mark; entry = log_record c.args.entry } in
    puts_made (recombined c.args.self.now c.args.groups.now a) c.args.self.now c.args.groups.now (item_of a c.in-Some.text)
    (taken_then c.args.self.now c.args.groups.now a c.in-Some.text (sym c.in_ok-text.ensures ∙ c.in-Some.is) (shallow_is (log_record c.args.entry) (c.nests_within.ensures.depth.0 c.if-not-nests_within.false)))
    (log_record c.args.entry) (effect c.args.groups.now c.join.new.groups c.args.out.now.items c.join.new.out.items)
    (c.in_ok-join.ensures.groups
    ∙ ap (λ (s : List ℕ). after c.args.self.now c.args.groups.now (record { source = s; text = c.in-Some.text; mark = c.args.mark; entry = log_record c.args.entry })) c.in_ok-share.ensures)
    (c.in_ok-join.ensures.sent
    ∙ ap (λ (s : List ℕ). seen c.args.out.now.items ++ entries_of c.args.self.now (ended c.args.self.now c.args.groups.now (record { source = s; text = c.in-Some.text; mark = c.args.mark; entry = log_record c.args.entry }))) c.in_ok-share.ensures)
