use Rattle.std.proofs.Common.{◌∙◌, ◌++◌, List, ℕ, ap, sym, drop, string_bytes, arith}
use Rattle.syslog_parser.proofs.ReadingValues.{escapes_meant, escapes_itself, first_inside, first_low, special_low}
use Rattle.syslog_parser.proofs.escaped.push_escaped.Goals as goal

pub cut-requires-clause-inside : goal.cut-requires-clause-inside
cut-requires-clause-inside c = first_inside c.args.text.now (drop 1 c.args.text.now) c.in-Some.byte c.in-Some.ensures.some

pub cut-requires-clause-ascii : goal.cut-requires-clause-ascii
cut-requires-clause-ascii c = first_low c.args.text.now (drop 1 c.args.text.now) c.in-Some.byte c.in-Some.ensures.some (sym c.is_special.ensures ∙ c.if-is_special.true)

pub returns-then-is_special-clause-ok : goal.returns-then-is_special-clause-ok
returns-then-is_special-clause-ok c =
    let special = sym c.is_special.ensures ∙ c.if-is_special.true in
    escapes_meant c.args.text.now c.cut.result.1.now (string_bytes c.args.value.now) (string_bytes c.push.new.self) c.in-Some.byte
    c.in-Some.ensures.some c.cut.ensures.behind special
    (c.in_ok-push.ensures.bytes ∙ ap (λ (l : List ℕ). string_bytes c.args.value.now ++ l) (c.in_ok-push.ensures.ascii (special_low c.in-Some.byte special)))

pub returns-clause-ok : goal.returns-clause-ok
returns-clause-ok c =
    escapes_itself c.args.text.now (string_bytes c.args.value.now) (string_bytes c.push-2.new.self) c.in-Some.byte
    c.in-Some.ensures.some (sym c.is_special.ensures ∙ c.if-is_special.false)
    (c.in_ok-push-2.ensures.bytes ∙ ap (λ (l : List ℕ). string_bytes c.args.value.now ++ l) (c.in_ok-push-2.ensures.ascii (omega arith)))
