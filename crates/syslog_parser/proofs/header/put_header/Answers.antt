use Rattle.std.proofs.Common.{List, [], ◌∷◌, codes, arith}
use Rattle.entry_model.specs.Seen.{seen}
use Rattle.syslog_parser.specs.Rfc5424.{Limited}
use Rattle.syslog_parser.proofs.ReadingHeader.{field_stops, fields_stop, no_fields_put, field_put, header_put}
use Rattle.syslog_parser.proofs.header.put_header.Goals as goal

abbrev one : List Limited
one = (codes "msg_id", 32) ∷ []

abbrev two : List Limited
two = (codes "proc_id", 128) ∷ one

abbrev three : List Limited
three = (codes "appname", 48) ∷ two

pub returns-in-Err-clause-fault : goal.returns-in-Err-clause-fault
returns-in-Err-clause-fault c = field_stops (codes "hostname") 255 three c.args.text.now c.in-Err.stop (omega arith) c.in-Err.ensures.fault

pub returns-in-Err-put_field-clause-fault : goal.returns-in-Err-put_field-clause-fault
returns-in-Err-put_field-clause-fault c =
    fields_stop (codes "hostname") 255 three c.args.text.now c.in-Ok.rest.now (seen c.args.members.now.entries) (seen c.put_field.new.members.entries) c.in-Err-put_field.stop c.in-Ok.ensures.ok
    (field_stops (codes "appname") 48 two c.in-Ok.rest.now c.in-Err-put_field.stop (omega arith) c.in-Err-put_field.ensures.fault)

pub returns-in-Err-put_field-2-clause-fault : goal.returns-in-Err-put_field-2-clause-fault
returns-in-Err-put_field-2-clause-fault c =
    fields_stop (codes "hostname") 255 three c.args.text.now c.in-Ok.rest.now (seen c.args.members.now.entries) (seen c.put_field.new.members.entries) c.in-Err-put_field-2.stop c.in-Ok.ensures.ok
    (fields_stop (codes "appname") 48 two c.in-Ok.rest.now c.in-Ok-put_field.rest.now (seen c.put_field.new.members.entries) (seen c.put_field-2.new.members.entries) c.in-Err-put_field-2.stop c.in-Ok-put_field.ensures.ok
    (field_stops (codes "proc_id") 128 one c.in-Ok-put_field.rest.now c.in-Err-put_field-2.stop (omega arith) c.in-Err-put_field-2.ensures.fault))

pub returns-in-Err-put_field-3-clause-fault : goal.returns-in-Err-put_field-3-clause-fault
returns-in-Err-put_field-3-clause-fault c =
    fields_stop (codes "hostname") 255 three c.args.text.now c.in-Ok.rest.now (seen c.args.members.now.entries) (seen c.put_field.new.members.entries) c.in-Err-put_field-3.stop c.in-Ok.ensures.ok
    (fields_stop (codes "appname") 48 two c.in-Ok.rest.now c.in-Ok-put_field.rest.now (seen c.put_field.new.members.entries) (seen c.put_field-2.new.members.entries) c.in-Err-put_field-3.stop c.in-Ok-put_field.ensures.ok
    (fields_stop (codes "proc_id") 128 one c.in-Ok-put_field.rest.now c.in-Ok-put_field-2.rest.now (seen c.put_field-2.new.members.entries) (seen c.put_field-3.new.members.entries) c.in-Err-put_field-3.stop c.in-Ok-put_field-2.ensures.ok
    (field_stops (codes "msg_id") 32 [] c.in-Ok-put_field-2.rest.now c.in-Err-put_field-3.stop (omega arith) c.in-Err-put_field-3.ensures.fault)))

pub returns-in-Ok-put_field-3-clause-ok : goal.returns-in-Ok-put_field-3-clause-ok
returns-in-Ok-put_field-3-clause-ok c =
    header_put c.args.text.now c.in-Ok-put_field-3.rest.now (seen c.args.members.now.entries) (seen c.put_field-4.new.members.entries)
    (field_put (codes "hostname") 255 three c.args.text.now c.in-Ok.rest.now c.in-Ok-put_field-3.rest.now
    (seen c.args.members.now.entries) (seen c.put_field.new.members.entries) (seen c.put_field-4.new.members.entries) c.in-Ok.ensures.ok
    (field_put (codes "appname") 48 two c.in-Ok.rest.now c.in-Ok-put_field.rest.now c.in-Ok-put_field-3.rest.now
    (seen c.put_field.new.members.entries) (seen c.put_field-2.new.members.entries) (seen c.put_field-4.new.members.entries) c.in-Ok-put_field.ensures.ok
    (field_put (codes "proc_id") 128 one c.in-Ok-put_field.rest.now c.in-Ok-put_field-2.rest.now c.in-Ok-put_field-3.rest.now
    (seen c.put_field-2.new.members.entries) (seen c.put_field-3.new.members.entries) (seen c.put_field-4.new.members.entries) c.in-Ok-put_field-2.ensures.ok
    (field_put (codes "msg_id") 32 [] c.in-Ok-put_field-2.rest.now c.in-Ok-put_field-3.rest.now c.in-Ok-put_field-3.rest.now
    (seen c.put_field-3.new.members.entries) (seen c.put_field-4.new.members.entries) (seen c.put_field-4.new.members.entries) c.in-Ok-put_field-3.ensures.ok
    (no_fields_put c.in-Ok-put_field-3.rest.now (seen c.put_field-4.new.members.entries))))))
