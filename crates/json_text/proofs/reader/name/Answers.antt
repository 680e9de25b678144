use Rattle.std.proofs.Common.{arith, List, ℕ}
use Rattle.json_text.specs.Machine.{State, state, has_name, in_text, a_key, no_content}
use Rattle.json_text.specs.Reads.{AroundMember, AroundText, Wanting, text_from, member_from, named_as, text_read_as}
use Rattle.json_text.proofs.Places.{then_leads, then_refuses}
use Rattle.json_text.proofs.Steps.{behind_ascii}
use Rattle.json_text.proofs.Values.{refuses_through, leads_through, quote_wanting, colon_wanting}
use Rattle.json_text.proofs.reader.name.Goals as goal

abbrev begun : ℕ → AroundMember → State
begun room around = state (in_text (a_key around.0) no_content) around.1 room

abbrev read_as : List ℕ → ℕ → AroundMember → State
read_as name room around = state (has_name around.0 name) around.1 room

pub returns-in-Err : goal.returns-in-Err
returns-in-Err c = λ room.
    refuses_through {A = Wanting 34} {B = AroundMember} c.args.text.now c.args.at (λ around. quote_wanting around.0 around.1 room) (λ w. w.before) c.in-Err.fault c.in-Err.ensures.fault

pub string-requires : goal.string-requires
string-requires c = behind_ascii c.args.text.now c.in-Ok.quote c.utf8.text c.in-Ok.ensures.ok.1 (c.in-Ok.ensures.behind (omega arith))

pub returns-in-Err-string : goal.returns-in-Err-string
returns-in-Err-string c = λ room.
    then_refuses {Around = AroundMember} c.args.text.now c.args.at c.in-Ok.quote (member_from room) (begun room) c.in-Err-string.fault
    (leads_through {A = Wanting 34} {B = AroundMember} c.args.text.now c.args.at c.in-Ok.quote (λ around. quote_wanting around.0 around.1 room) (λ w. w.before) (λ w. w.after) c.in-Ok.ensures.ok)
    (refuses_through {A = AroundText} {B = AroundMember} c.args.text.now c.in-Ok.quote (λ around. (a_key around.0, (around.1, room))) (text_from no_content) c.in-Err-string.fault c.in-Err-string.ensures)

pub returns-in-Ok-expect : goal.returns-in-Ok-expect
returns-in-Ok-expect c = λ room.
    then_leads {Around = AroundMember} c.args.text.now c.args.at c.in-Ok-string.read.1 c.in-Ok-expect.next (member_from room) (read_as c.in-Ok-string.read.0 room) (λ around. named_as room around c.in-Ok-string.read.0)
    (then_leads {Around = AroundMember} c.args.text.now c.args.at c.in-Ok.quote c.in-Ok-string.read.1 (member_from room) (begun room) (read_as c.in-Ok-string.read.0 room)
    (leads_through {A = Wanting 34} {B = AroundMember} c.args.text.now c.args.at c.in-Ok.quote (λ around. quote_wanting around.0 around.1 room) (λ w. w.before) (λ w. w.after) c.in-Ok.ensures.ok)
    (leads_through {A = AroundText} {B = AroundMember} c.args.text.now c.in-Ok.quote c.in-Ok-string.read.1 (λ around. (a_key around.0, (around.1, room))) (text_from no_content) (λ around. text_read_as around c.in-Ok-string.read.0) c.in-Ok-string.ensures))
    (leads_through {A = Wanting 58} {B = AroundMember} c.args.text.now c.in-Ok-string.read.1 c.in-Ok-expect.next (λ around. colon_wanting around.0 c.in-Ok-string.read.0 around.1 room) (λ w. w.before) (λ w. w.after) c.in-Ok-expect.ensures.ok)

pub returns-in-Err-expect : goal.returns-in-Err-expect
returns-in-Err-expect c = λ room.
    then_refuses {Around = AroundMember} c.args.text.now c.args.at c.in-Ok-string.read.1 (member_from room) (read_as c.in-Ok-string.read.0 room) c.in-Err-expect.fault
    (then_leads {Around = AroundMember} c.args.text.now c.args.at c.in-Ok.quote c.in-Ok-string.read.1 (member_from room) (begun room) (read_as c.in-Ok-string.read.0 room)
    (leads_through {A = Wanting 34} {B = AroundMember} c.args.text.now c.args.at c.in-Ok.quote (λ around. quote_wanting around.0 around.1 room) (λ w. w.before) (λ w. w.after) c.in-Ok.ensures.ok)
    (leads_through {A = AroundText} {B = AroundMember} c.args.text.now c.in-Ok.quote c.in-Ok-string.read.1 (λ around. (a_key around.0, (around.1, room))) (text_from no_content) (λ around. text_read_as around c.in-Ok-string.read.0) c.in-Ok-string.ensures))
    (refuses_through {A = Wanting 58} {B = AroundMember} c.args.text.now c.in-Ok-string.read.1 (λ around. colon_wanting around.0 c.in-Ok-string.read.0 around.1 room) (λ w. w.before) c.in-Err-expect.fault c.in-Err-expect.ensures.fault)
