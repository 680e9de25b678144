use Rattle.std.proofs.Common.{sym, ◌∙◌, ap}
use Rattle.std.specs.Char.{is_ascii_digit}
use Rattle.container_parser.specs.Pods.{is_log_end}
use Rattle.container_parser.specs.Words.{is_made_of}
use Rattle.container_parser.proofs.Paths.{no_point, no_number, no_end, when_none}
use Rattle.container_parser.proofs.pod.restarts_of.Goals as goal

pub returns-in_err-restarts-clause-none : goal.returns-in_err-restarts-clause-none
returns-in_err-restarts-clause-none c = when_none c.from_residual.result (λ number is. no_point c.args.file.now number c.in_err-restarts.ensures.none is)

pub returns-then-not-is_number-clause-none : goal.returns-then-not-is_number-clause-none
returns-then-not-is_number-clause-none c =
    let outer = c.in_ok-restarts in
    λ number is.
    no_number c.args.file.now outer.restarts.now outer.rest.now number outer.ensures.parts outer.ensures.first
    (ap (is_made_of is_ascii_digit) (sym c.as_bytes.ensures.value) ∙ sym c.is_number.ensures ∙ c.if-not-is_number.true) is

pub returns-then-not-is_log_end-clause-none : goal.returns-then-not-is_log_end-clause-none
returns-then-not-is_log_end-clause-none c =
    let outer = c.in_ok-restarts in
    λ number is.
    no_end c.args.file.now outer.restarts.now outer.rest.now number outer.ensures.parts outer.ensures.first
    (ap is_log_end (sym c.as_bytes-2.ensures.value) ∙ sym c.is_log_end.ensures ∙ c.if-not-is_log_end.true) is
