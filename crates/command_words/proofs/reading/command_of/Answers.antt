use Rattle.std.proofs.Common.{sym, ◌∙◌}
use Rattle.std.specs.Prelude.{string_bytes}
use Rattle.std.specs.Str.Parse.{starts_with_minus}
use Rattle.clap.specs.Simple.{app_of}
use Rattle.clap.proofs.WalkLemmas.{list_any-map}
use Rattle.command_words.specs.Words.{texts}
use Rattle.command_words.proofs.Commands.{flagged}
use Rattle.command_words.proofs.Failed.{failed}
use Rattle.command_words.proofs.Parsed.{has_entered, has_fault, has_no_fault}
use Rattle.command_words.proofs.Taken.{refused, taken}
use Rattle.command_words.proofs.reading.command_of.Goals as goal

pub returns-then-has_flag : goal.returns-then-has_flag
returns-then-has_flag c =
    flagged (texts c.args.words.now) (sym (list_any-map starts_with_minus (λ word. string_bytes word) c.args.words.now) ∙ (sym c.has_flag.ensures ∙ c.if-has_flag.true))

pub returns-in-Ok : goal.returns-in-Ok
returns-in-Ok c =
    let words = texts c.args.words.now in
    let plain = sym (list_any-map starts_with_minus (λ word. string_bytes word) c.args.words.now) ∙ (sym c.has_flag.ensures ∙ c.if-has_flag.false) in
    let none = has_no_fault (app_of c.in_ok-program.field-0) words c.in_ok-program.ensures c.in-Ok.ensures.kinds in
    let entered = has_entered (app_of c.in_ok-program.field-0) words c.in_ok-program.ensures c.in-Ok.matches c.in-Ok.ensures.matches in
    taken words plain none c.named.result (record {
      once = λ rows e. c.named.ensures.once rows (entered ∙ e);
      follow = λ rows e. c.named.ensures.follow rows (entered ∙ e);
      adopt = λ rows e. c.named.ensures.adopt rows (entered ∙ e);
      audit = λ rows e. c.named.ensures.audit rows (entered ∙ e);
      committed = λ rows e. c.named.ensures.committed rows (entered ∙ e);
      pipe = λ rows e. c.named.ensures.pipe rows (entered ∙ e);
      demo = λ rows text e given. c.named.ensures.demo rows text (entered ∙ e) given;
    })

pub returns : goal.returns
returns c =
    let words = texts c.args.words.now in
    let fault = has_fault (app_of c.in_ok-program.field-0) words c.in_ok-program.ensures c.in-Err.error c.in-Err.ensures.kinds in
    refused words (failed _ _ (λ e. c.in_default.not-OutOfMemory (c.kind.ensures ∙ e)) fault)
