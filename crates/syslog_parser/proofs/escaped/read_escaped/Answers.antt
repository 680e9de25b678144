use Rattle.std.proofs.Common.{rules, ◌∙◌, List, ℕ, ap, sym, subst, length, take_while, string_bytes}
use Rattle.syslog_parser.specs.Bytes.{is_plain}
use Rattle.syslog_parser.specs.Inner.Reads.{IsAtEnd, StopsInValue}
use Rattle.syslog_parser.specs.Structured.{IsContent}
use Rattle.syslog_parser.proofs.ReadingValues.{nothing_read, open_here, bracket_here, inside, special_is_low, ends_here, escape_open_here, goes_on_here, next_less}
use Rattle.syslog_parser.proofs.Stops.{stops_so}
use Rattle.syslog_parser.proofs.escaped.read_escaped.Goals as goal

pub pieces-init : goal.pieces-init
pieces-init c = record { utf8 = c.utf8.text; read = nothing_read c.args.text.now (string_bytes c.new-value.result) c.new-value.ensures.bytes }

pub returns-then-count-rest-clause-fault : goal.returns-then-count-rest-clause-fault
returns-then-count-rest-clause-fault c =
    open_here c.args.text.now c.pieces.rest.now (string_bytes c.pieces.value) c.pieces.invariant.read c.plain_count-count.result
    (c.plain_count-count.ensures ∙ ap (λ (l : List ℕ). length (take_while is_plain l)) c.as_bytes.ensures.value) c.if-count-rest.true

pub returns-then-stands-clause-fault : goal.returns-then-stands-clause-fault
returns-then-stands-clause-fault c =
    bracket_here c.args.text.now c.pieces.rest.now (string_bytes c.pieces.value) c.pieces.invariant.read c.plain_count-count.result
    (c.plain_count-count.ensures ∙ ap (λ (l : List ℕ). length (take_while is_plain l)) c.as_bytes.ensures.value) (sym c.stands.ensures ∙ c.if-stands.true)

pub cut-requires-clause-inside : goal.cut-requires-clause-inside
cut-requires-clause-inside c =
    inside c.args.text.now c.pieces.rest.now (string_bytes c.pieces.value) c.pieces.invariant.read c.plain_count-count.result
    (c.plain_count-count.ensures ∙ ap (λ (l : List ℕ). length (take_while is_plain l)) c.as_bytes.ensures.value) c.if-count-rest.false

pub cut-requires-clause-ascii : goal.cut-requires-clause-ascii
cut-requires-clause-ascii c =
    special_is_low c.args.text.now c.pieces.rest.now (string_bytes c.pieces.value) c.pieces.invariant.read c.plain_count-count.result
    (c.plain_count-count.ensures ∙ ap (λ (l : List ℕ). length (take_while is_plain l)) c.as_bytes.ensures.value) c.if-count-rest.false

pub returns-then-stands-2-clause-ok : goal.returns-then-stands-2-clause-ok
returns-then-stands-2-clause-ok c =
    subst (λ (v : List ℕ). IsContent c.args.text.now v c.cut.result.1.now) (sym c.in_ok-new.ensures)
    (ends_here c.args.text.now c.pieces.rest.now (string_bytes c.pieces.value) c.pieces.invariant.read c.plain_count-count.result
    (c.plain_count-count.ensures ∙ ap (λ (l : List ℕ). length (take_while is_plain l)) c.as_bytes.ensures.value) c.if-count-rest.false
    c.cut.result.0.now c.cut.result.1.now (string_bytes c.push_str.new.self) c.cut.ensures.front c.cut.ensures.behind c.in_ok-push_str.ensures.bytes
    (sym c.stands-in-pieces.ensures ∙ c.if-stands-2.true))

pub returns-in-Err-clause-fault : goal.returns-in-Err-clause-fault
returns-in-Err-clause-fault c =
    stops_so (IsAtEnd c.cut.result.1.now) (StopsInValue c.args.text.now)
    (escape_open_here c.args.text.now c.pieces.rest.now (string_bytes c.pieces.value) c.pieces.invariant.read c.plain_count-count.result
    (c.plain_count-count.ensures ∙ ap (λ (l : List ℕ). length (take_while is_plain l)) c.as_bytes.ensures.value) c.if-count-rest.false
    c.cut.result.0.now c.cut.result.1.now (string_bytes c.push_str.new.self) c.cut.ensures.front c.cut.ensures.behind c.in_ok-push_str.ensures.bytes
    (sym c.stands.ensures ∙ c.if-stands.false) (sym c.stands-in-pieces.ensures ∙ c.if-stands-2.false))
    c.in-Err.stop c.in-Err.ensures.fault

pub pieces-smaller : goal.pieces-smaller
pieces-smaller c =
    next_less c.args.text.now c.pieces.rest.now (string_bytes c.pieces.value) c.pieces.invariant.read c.plain_count-count.result
    (c.plain_count-count.ensures ∙ ap (λ (l : List ℕ). length (take_while is_plain l)) c.as_bytes.ensures.value) c.if-count-rest.false
    c.cut.result.0.now c.cut.result.1.now (string_bytes c.push_str.new.self) c.cut.ensures.front c.cut.ensures.behind c.in_ok-push_str.ensures.bytes
    (sym c.stands.ensures ∙ c.if-stands.false) (sym c.stands-in-pieces.ensures ∙ c.if-stands-2.false)
    (string_bytes c.push_escaped.new.value) c.in-Ok.next.now c.in-Ok.ensures.ok

pub pieces-preserved : goal.pieces-preserved
pieces-preserved c = record {
  utf8 = search rules;
  read =
      goes_on_here c.args.text.now c.pieces.rest.now (string_bytes c.pieces.value) c.pieces.invariant.read c.plain_count-count.result
      (c.plain_count-count.ensures ∙ ap (λ (l : List ℕ). length (take_while is_plain l)) c.as_bytes.ensures.value) c.if-count-rest.false
      c.cut.result.0.now c.cut.result.1.now (string_bytes c.push_str.new.self) c.cut.ensures.front c.cut.ensures.behind c.in_ok-push_str.ensures.bytes
      (sym c.stands.ensures ∙ c.if-stands.false) (sym c.stands-in-pieces.ensures ∙ c.if-stands-2.false)
      (string_bytes c.push_escaped.new.value) c.in-Ok.next.now c.in-Ok.ensures.ok;
}
