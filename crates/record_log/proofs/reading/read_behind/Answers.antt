use Rattle.std.proofs.Common.{◌≡◌, ℕ, ◌+◌, ◌≤◌, IsTrue, length, drop, sym, subst, ap, ◌∙◌, arith, length-drop}
use Rattle.std.specs.Prelude.{map}
use Rattle.std.proofs.lemmas.List.{take_all, length-take-le}
use Rattle.slot_store.specs.Frame.{last_number}
use Rattle.record_log.proofs.Logs.{found_log, chosen_room}
use Rattle.record_log.specs.LogOf.{HasLog}
use Rattle.record_log.proofs.reading.read_behind.Goals as goal

pub returns-clause-found : goal.returns-clause-found
returns-clause-found g c told chosen =
    let slot = c.args.slot in
    let seen = g.D.Disk.meaning.images.seen c.args.disk.now in
    let content = seen slot.file in
    let size = c.in-Ok.size in
    let base = c.in_ok-base.base.items in
    let records = map (λ payload. payload.items) c.in_ok-tail.tail.records.items in
    let room = chosen_room seen slot chosen in
    let base_long : length base ≡ slot.length = ap length (c.in_ok-base.ensures.bytes told) ∙ length-take-le slot.length (drop 17 content) (omega (arith, room.whole, length-drop 17 content)) in
    let long : c.len.result ≡ slot.length = c.len.ensures ∙ c.in_ok-base.base.ok.0 ∙ base_long in
    let told_then : IsTrue (g.D.Disk.meaning.images.tells c.load.new.disk) = rw c.in_ok-base.ensures.only_read.tells told in
    let told_read : IsTrue (g.D.Disk.meaning.images.tells c.length.new.self) = rw c.length.ensures.tells told_then in
    let size_is : size ≡ length content = rw c.in_ok-base.ensures.only_read.seen at (c.in-Ok.ensures.length told_then) in
    let within : length content ≤ last_number = omega arith in
    let sum = c.saturating_add-place.ensures in
    let place_is : c.saturating_add-place.result ≡ slot.length + 17 = omega (arith, room.within, long) in
    let read = rw (c.length.ensures.seen, c.in_ok-base.ensures.only_read.seen) at (c.in_ok-bytes.ensures.bytes told_read) in
    let bytes_are : c.deref.result.now ≡ drop c.saturating_add-place.result content = c.deref.ensures.value ∙ read ∙ take_all size (drop c.saturating_add-place.result content) (omega (arith, length-drop c.saturating_add-place.result content)) in
    let end_is : c.saturating_add.result ≡ c.saturating_add-place.result + c.in_ok-tail.tail.end = omega (arith, room.whole, c.saturating_add.ensures, c.in_ok-tail.ensures.within, ap length bytes_are, length-drop c.saturating_add-place.result content) in
    subst (λ (n : ℕ). HasLog (record { slot = record slot { length = n }; end = c.saturating_add.result; sequence = c.in_ok-tail.tail.sequence }) base records seen) (sym long)
    (found_log seen slot base c.deref.result.now records c.saturating_add-place.result c.in_ok-tail.tail.end c.saturating_add.result c.in_ok-tail.tail.sequence within chosen (c.in_ok-base.ensures.chosen told chosen) place_is bytes_are c.in_ok-tail.ensures.records end_is)
