use Rattle.std.proofs.Common.{rules, ◌∙◌, ◌+◌, sym, refl, drop}
use Rattle.entry_model.specs.Seen.{seen}
use Rattle.syslog_parser.specs.Inner.Reads.{StopsInElement}
use Rattle.syslog_parser.proofs.Lengths.{element_less}
use Rattle.syslog_parser.proofs.ReadingData.{no_elements_read, elements_fault, elements_more, elements_done}
use Rattle.syslog_parser.proofs.Stops.{stops_so}
use Rattle.syslog_parser.proofs.Words.{first_is}
use Rattle.syslog_parser.proofs.data.put_elements.Goals as goal

pub elements-init : goal.elements-init
elements-init c = record { utf8 = c.utf8.text; read = no_elements_read c.args.text.now (seen c.args.members.now.entries) }

pub returns-in-Err-clause-fault : goal.returns-in-Err-clause-fault
returns-in-Err-clause-fault c =
    stops_so (StopsInElement c.elements.rest.now) (StopsInElement c.args.text.now)
    (elements_fault c.args.text.now c.elements.rest.now (seen c.args.members.now.entries) (seen c.elements.members.entries) c.elements.invariant.read)
    c.in-Err.stop c.in-Err.ensures.fault

pub returns-then-not-stands-clause-ok : goal.returns-then-not-stands-clause-ok
returns-then-not-stands-clause-ok c =
    elements_done c.args.text.now c.elements.rest.now (seen c.args.members.now.entries) (seen c.elements.members.entries) c.elements.invariant.read
    (seen c.put_element.new.members.entries) c.in-Ok.next.now c.in-Ok.ensures.ok (sym c.stands.ensures ∙ c.if-not-stands.true)

pub elements-smaller : goal.elements-smaller
elements-smaller c = element_less c.in-Ok.ensures.ok.spelled

pub elements-preserved : goal.elements-preserved
elements-preserved c = record {
  utf8 = search rules;
  read =
      elements_more c.args.text.now c.elements.rest.now (seen c.args.members.now.entries) (seen c.elements.members.entries) c.elements.invariant.read
      (seen c.put_element.new.members.entries) c.in-Ok.next.now c.in-Ok.ensures.ok (drop (0 + 1) c.in-Ok.next.now)
      (first_is c.in-Ok.next.now (drop (0 + 1) c.in-Ok.next.now) 91 (sym c.stands.ensures ∙ c.if-not-stands.false) refl);
}
