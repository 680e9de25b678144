use Rattle.std.proofs.Common.{◌≡◌, ◌+◌, ◌++◌, [], List, map, length, arith, sym, ap, subst, ◌∙◌, Bor, ℕ}
use Rattle.std.proofs.lemmas.List.{length-map}
use Rattle.pipeline.specs.AsRules.{rules_of}
use Rattle.standing.specs.Closed.{Made}
use Rattle.auditor.specs.Asked.{asked}
use Rattle.auditor.specs.Inner.Compared.{mark_line, made_in, made_of}
use Rattle.auditor.specs.Verdicts.{Agree}
use Rattle.auditor.proofs.Judging.{judged}
use Rattle.auditor.proofs.Piping.{rules_from, last_line}
use Rattle.auditor.proofs.audit_row.Goals as goal

abbrev text_in : Bor (List ℕ) → List ℕ
text_in line = line.now

pub returns : goal.returns
returns c = λ eras before are long.
    let row = c.args.row.now in
    let content = before ++ c.args.bytes.now in
    let all = map (rules_of []) c.args.pipes.now in
    let own = map text_in c.in_ok-own.own.items in
    let rules = rules_from eras row.born c.args.pipes.now are in
    let many : length all ≡ length row.ends + 1 = length-map c.args.pipes.now (rules_of []) ∙ c.requires.parts in
    let made : made_in c.in_ok-found.found.items.items ≡ asked all content row = c.in_ok-found.ensures.items before long in
    let agree : Agree mark_line row.id (made_in c.in_ok-found.found.items.items) own c.in_ok-agreed.agreed = rw (c.deref.ensures.value, c.deref-2.ensures.value) at c.in_ok-agreed.ensures.agree in
    let no_more : Agree mark_line row.id (made_in c.in_ok-found.found.items.items) own (c.in_ok-agreed.agreed + 1) → ⊥ = rw (c.deref.ensures.value, c.deref-2.ensures.value) at c.in_ok-agreed.ensures.no_more in
    judged eras content row c.args.kept.now all rules many own c.in_ok-own.ensures (last_line eras row.born c.args.pipes.now rules (omega (arith, c.requires.parts)))
    c.in_ok-found.found.is_whole c.in_ok-agreed.agreed c.len.result c.len-2.result c.said.result (c.in_ok-found.ensures.whole before long)
    (subst (λ (ms : List Made). Agree mark_line row.id ms own c.in_ok-agreed.agreed) made agree)
    (λ more. no_more (subst (λ (ms : List Made). Agree mark_line row.id ms own (c.in_ok-agreed.agreed + 1)) (sym made) more))
    (omega (arith, c.len.ensures, c.in_ok-found.found.items.ok.0, length-map c.in_ok-found.found.items.items made_of, ap length made))
    (omega (arith, c.len-2.ensures, c.in_ok-own.own.ok.0, length-map c.in_ok-own.own.items text_in)) c.said.ensures
