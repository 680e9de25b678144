use Rattle.std.proofs.Common.{◌≡◌, ◌+◌, ◌++◌, ◌∷◌, [], true, false, suc, List, length, arith, ap, sym, refl, ◌∙◌}
use Rattle.entry_model.specs.LogRecord.{LogRecord}
use Rattle.recombine.specs.Steps.{joined, with_item, is_done, ended_by_end}
use Rattle.recombine.specs.Stepped.{seen}
use Rattle.recombine.specs.Table.{item_seen, held_seen}
use Rattle.recombine.proofs.StepLemmas.{end_at, has_bytes_left, first_piece, second_piece, piece_fits, rebased, recounted, uncounted, sent_at_end, on_ok, on_ok_then, sent_none, sent_some}
use Rattle.recombine.proofs.joining.Recombine.join_at.Goals as goal

pub append-requires-clause-fits : goal.append-requires-clause-fits
append-requires-clause-fits c =
    omega (arith, has_bytes_left c.args.self.now (item_seen c.args.x) c.args.groups.now c.args.place c.requires.at c.requires.room, ap length c.separator.ensures)

pub append-requires-2-clause-fits : goal.append-requires-2-clause-fits
append-requires-2-clause-fits c =
    let one = first_piece c.args.self.now (item_seen c.args.x) c.args.groups.now c.args.place c.requires.at c.separator.result.now c.separator.ensures c.append.new.self c.in_ok-append.ensures.ok in
    omega (arith, (piece_fits c.args.self.now (item_seen c.args.x) c.args.groups.now c.args.place c.requires.at c.append.new.self one c.requires.room).1, ap length c.as_str.ensures)

pub append-requires-2-clause-in_range : goal.append-requires-2-clause-in_range
append-requires-2-clause-in_range c =
    let one = first_piece c.args.self.now (item_seen c.args.x) c.args.groups.now c.args.place c.requires.at c.separator.result.now c.separator.ensures c.append.new.self c.in_ok-append.ensures.ok in
    (piece_fits c.args.self.now (item_seen c.args.x) c.args.groups.now c.args.place c.requires.at c.append.new.self one c.requires.room).0

pub returns-then-done-clause-groups : goal.returns-then-done-clause-groups
returns-then-done-clause-groups c =
    let one = first_piece c.args.self.now (item_seen c.args.x) c.args.groups.now c.args.place c.requires.at c.separator.result.now c.separator.ensures c.append.new.self c.in_ok-append.ensures.ok in
    let two = second_piece c.args.self.now (item_seen c.args.x) c.args.groups.now c.args.place c.requires.at c.append.new.self one c.as_str.result.now c.as_str.ensures c.append-2.new.self c.in_ok-append-2.ensures.ok in
    let three = rebased c.args.self.now (item_seen c.args.x) c.args.groups.now c.args.place c.requires.at c.append-2.new.self two c.args.x.entry refl c.rebase.new.groups c.rebase.ensures in
    let count : suc c.requires.at.group.entries ≡ c.entries_at-entries.result + 1 =
    omega (arith, c.entries_at-entries.ensures.value c.requires.at.before c.requires.at.behind c.requires.at.group c.requires.at.parts c.requires.at.place_is) in
    let done : is_done c.args.self.now (item_seen c.args.x) (suc c.requires.at.group.entries) ≡ true =
    ap (is_done c.args.self.now (item_seen c.args.x)) count ∙ sym c.is_done-done.ensures.value ∙ c.if-done.true in
    on_ok c.send.result _ (c.remove-group.ensures.left c.requires.at.before c.requires.at.behind (uncounted c.args.self.now c.requires.at.group (item_seen c.args.x)) three c.requires.at.place_is
    ∙ sym (end_at c.args.self.now (item_seen c.args.x) c.args.groups.now c.args.place c.requires.at true done).0)

pub returns-then-done-clause-sent : goal.returns-then-done-clause-sent
returns-then-done-clause-sent c =
    let one = first_piece c.args.self.now (item_seen c.args.x) c.args.groups.now c.args.place c.requires.at c.separator.result.now c.separator.ensures c.append.new.self c.in_ok-append.ensures.ok in
    let two = second_piece c.args.self.now (item_seen c.args.x) c.args.groups.now c.args.place c.requires.at c.append.new.self one c.as_str.result.now c.as_str.ensures c.append-2.new.self c.in_ok-append-2.ensures.ok in
    let three = rebased c.args.self.now (item_seen c.args.x) c.args.groups.now c.args.place c.requires.at c.append-2.new.self two c.args.x.entry refl c.rebase.new.groups c.rebase.ensures in
    let count : suc c.requires.at.group.entries ≡ c.entries_at-entries.result + 1 =
    omega (arith, c.entries_at-entries.ensures.value c.requires.at.before c.requires.at.behind c.requires.at.group c.requires.at.parts c.requires.at.place_is) in
    let done : is_done c.args.self.now (item_seen c.args.x) (suc c.requires.at.group.entries) ≡ true =
    ap (is_done c.args.self.now (item_seen c.args.x)) count ∙ sym c.is_done-done.ensures.value ∙ c.if-done.true in
    on_ok_then c.send.result _ _
    (λ sent. sent_some c.args.self.now (seen c.args.out.now.items) (seen c.send.new.out.items)
    (ended_by_end c.args.self.now (joined c.args.self.now c.args.groups.now (item_seen c.args.x)) (item_seen c.args.x))
    (with_item c.args.self.now c.requires.at.group (item_seen c.args.x) ∷ []) (end_at c.args.self.now (item_seen c.args.x) c.args.groups.now c.args.place c.requires.at true done).1
    (sent ∙ ap (λ (l : List LogRecord). seen c.args.out.now.items ++ l)
    (sent_at_end c.args.self.now (item_seen c.args.x) c.args.groups.now c.args.place c.requires.at (held_seen c.remove-group.result)
    (c.remove-group.ensures.taken c.requires.at.before c.requires.at.behind (uncounted c.args.self.now c.requires.at.group (item_seen c.args.x)) three c.requires.at.place_is)))) c.send.ensures

pub returns-clause-groups : goal.returns-clause-groups
returns-clause-groups c =
    let one = first_piece c.args.self.now (item_seen c.args.x) c.args.groups.now c.args.place c.requires.at c.separator.result.now c.separator.ensures c.append.new.self c.in_ok-append.ensures.ok in
    let two = second_piece c.args.self.now (item_seen c.args.x) c.args.groups.now c.args.place c.requires.at c.append.new.self one c.as_str.result.now c.as_str.ensures c.append-2.new.self c.in_ok-append-2.ensures.ok in
    let three = rebased c.args.self.now (item_seen c.args.x) c.args.groups.now c.args.place c.requires.at c.append-2.new.self two c.args.x.entry refl c.rebase.new.groups c.rebase.ensures in
    let count : suc c.requires.at.group.entries ≡ c.entries_at-entries.result + 1 =
    omega (arith, c.entries_at-entries.ensures.value c.requires.at.before c.requires.at.behind c.requires.at.group c.requires.at.parts c.requires.at.place_is) in
    let done : is_done c.args.self.now (item_seen c.args.x) (suc c.requires.at.group.entries) ≡ false =
    ap (is_done c.args.self.now (item_seen c.args.x)) count ∙ sym c.is_done-done.ensures.value ∙ c.if-done.false in
    recounted c.args.self.now (item_seen c.args.x) c.args.groups.now c.args.place c.requires.at c.rebase.new.groups three (c.entries_at-entries.result + 1) (sym count) c.set_entries.new.self c.set_entries.ensures
    ∙ sym (end_at c.args.self.now (item_seen c.args.x) c.args.groups.now c.args.place c.requires.at false done).0

pub returns-clause-sent : goal.returns-clause-sent
returns-clause-sent c =
    let count : suc c.requires.at.group.entries ≡ c.entries_at-entries.result + 1 =
    omega (arith, c.entries_at-entries.ensures.value c.requires.at.before c.requires.at.behind c.requires.at.group c.requires.at.parts c.requires.at.place_is) in
    let done : is_done c.args.self.now (item_seen c.args.x) (suc c.requires.at.group.entries) ≡ false =
    ap (is_done c.args.self.now (item_seen c.args.x)) count ∙ sym c.is_done-done.ensures.value ∙ c.if-done.false in
    sent_none c.args.self.now (seen c.args.out.now.items) (seen c.args.out.now.items)
    (ended_by_end c.args.self.now (joined c.args.self.now c.args.groups.now (item_seen c.args.x)) (item_seen c.args.x)) (end_at c.args.self.now (item_seen c.args.x) c.args.groups.now c.args.place c.requires.at false done).1 refl
