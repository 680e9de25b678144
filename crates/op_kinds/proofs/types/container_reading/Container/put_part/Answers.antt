use Rattle.std.proofs.Common.{◌≡◌, ◌∙◌, true, false, ap, sym, subst, refl}
use Rattle.container_parser.specs.Told.{told_by}
use Rattle.entry_model.specs.LogRecord.{LogRecord, log_record}
use Rattle.op_kinds.specs.Kept.{open_groups}
use Rattle.recombine.proofs.JudgeLemmas.{shallow_is, deep_is}
use Rattle.recombine.specs.Recombined.{is_shallow}
use Rattle.op_kinds.proofs.PartLemmas.{part_so, part_refused}
use Rattle.op_kinds.proofs.WholeParts.{whole_so}
use Rattle.op_kinds.proofs.types.container_reading.Container.put_part.Goals as goal

pub returns-then-not-nests_within : goal.returns-then-not-nests_within
returns-then-not-nests_within c =
    part_refused (open_groups c.args.state.now) c.args.self.now.op.by_path c.args.line c.args.item c.args.item c.args.state.now c.args.out.now.items
    (subst (λ (e : LogRecord). is_shallow e ≡ false) c.entry.ensures (deep_is (log_record c.entry.result.now) c.nests_within.result c.nests_within.ensures.depth c.if-not-nests_within.true)) refl

pub returns-then-is_fresh : goal.returns-then-is_fresh
returns-then-is_fresh c =
    whole_so (open_groups c.args.state.now) c.args.self.now.op.by_path c.args.line c.args.item _ c.put_whole.result
    (sym c.is_fresh.ensures ∙ c.if-is_fresh.true) c.if-not-line.true
    (subst (λ (e : LogRecord). is_shallow e ≡ true) c.entry.ensures (shallow_is (log_record c.entry.result.now) (c.nests_within.ensures.depth.0 c.if-not-nests_within.false)))
    c.put_whole.ensures

pub returns : goal.returns
returns c =
    part_so (open_groups c.args.state.now) c.args.self.now.op.by_path c.args.line c.args.item _ _ _ _ _ _
    (subst (λ (e : LogRecord). is_shallow e ≡ true) c.entry.ensures (shallow_is (log_record c.entry.result.now) (c.nests_within.ensures.depth.0 c.if-not-nests_within.false)))
    c.args.self.now.joined c.in_ok-source.ensures refl
    (c.in_ok-entry.ensures ∙ ap (λ (r : LogRecord). told_by c.args.self.now.op.by_path c.args.line r) c.into_entry.ensures) c.join.ensures
