use Rattle.std.proofs.Common.{ℕ, List, ◌∙◌, sym, subst, Ok, Err}
use Rattle.std.proofs.lemmas.Result.{err_from_is_err_and}
use Rattle.entry_model.specs.LogRecord.{log_record}
use Rattle.entry_model.specs.declared.entry.Entry.{Entry}
use Rattle.state_codec.specs.Reading.{text_at, entry_at}
use Rattle.state_codec.specs.Rules.{IsShortText, IsReadable}
use Rattle.state_codec.specs.Spelling.{bytes_spelling, entry_spelling}
use Rattle.state_codec.proofs.Readers.{text_reader, entry_reader}
use Rattle.recombine.specs.Reading.{group_at}
use Rattle.recombine.specs.declared.group.OpenGroup.{OpenGroup}
use Rattle.recombine.specs.Table.{Held, group_seen, held_seen}
use Rattle.recombine.specs.Inner.Told.{IsRead}
use Rattle.recombine.proofs.SpellingLemmas.{reads_found, source_fails, entries_fail, text_fails, base_fails, group_found}
use Rattle.recombine.proofs.saving.get_group.Goals as goal

pub returns-in_err-source : goal.returns-in_err-source
returns-in_err-source c =
    let p = err_from_is_err_and c.from_residual.result c.from_residual.ensures.1 in
    rw (p.1, p.2) (source_fails c.args.before.now c.args.bytes.now c.args.at {X = Held} {Y = List ℕ} held_seen (λ t. t) c.in_err-source.field-0.0 c.in_err-source.ensures)

pub returns-in_err-entries : goal.returns-in_err-entries
returns-in_err-entries c =
    let p = err_from_is_err_and c.from_residual-in_err-entries.result c.from_residual-in_err-entries.ensures.1 in
    rw (p.1, p.2)
    (entries_fail c.args.before.now c.args.bytes.now c.args.at {X = Held} {Y = ℕ} held_seen (λ n. n) c.in_ok-source.source c.in_ok-source.next c.in_err-entries.field-0.0 c.in_ok-source.ensures c.in_err-entries.ensures)

pub returns-in_err-text : goal.returns-in_err-text
returns-in_err-text c =
    let p = err_from_is_err_and c.from_residual-in_err-text.result c.from_residual-in_err-text.ensures.1 in
    rw (p.1, p.2)
    (text_fails c.args.before.now c.args.bytes.now c.args.at {X = Held} {Y = List ℕ} held_seen (λ t. t) c.in_ok-source.source c.in_ok-source.next c.in_ok-entries.entries c.in_ok-entries.next c.in_err-text.field-0.0
    c.in_ok-source.ensures c.in_ok-entries.ensures
    (reads_found {X = List ℕ} (λ t. t) bytes_spelling IsShortText text_at text_reader c.args.bytes.now c.in_ok-entries.next (Err c.in_err-text.field-0.0) c.in_err-text.ensures))

pub returns-in_err-base : goal.returns-in_err-base
returns-in_err-base c =
    let p = err_from_is_err_and c.from_residual-in_err-base.result c.from_residual-in_err-base.ensures.1 in
    rw (p.1, p.2)
    (base_fails c.args.before.now c.args.bytes.now c.args.at {X = Held} {Y = Entry} held_seen log_record c.in_ok-source.source c.in_ok-source.next c.in_ok-entries.entries c.in_ok-entries.next c.in_ok-text.text c.in_ok-text.next
    c.in_err-base.field-0.0 c.in_ok-source.ensures c.in_ok-entries.ensures
    (reads_found {X = List ℕ} (λ t. t) bytes_spelling IsShortText text_at text_reader c.args.bytes.now c.in_ok-entries.next (Ok (c.in_ok-text.text, c.in_ok-text.next)) c.in_ok-text.ensures)
    (reads_found {X = Entry} log_record entry_spelling IsReadable entry_at entry_reader c.args.bytes.now c.in_ok-text.next (Err c.in_err-base.field-0.0) c.in_err-base.ensures))

pub returns-in-Ok-new : goal.returns-in-Ok-new
returns-in-Ok-new c =
    subst (λ (group : OpenGroup). IsRead (group_at c.args.before.now) c.args.bytes.now c.args.at (group_seen group) c.in_ok-base.next) (sym c.in-Ok-new.ensures.ok)
    (subst (λ (t : List ℕ). IsRead (group_at c.args.before.now) c.args.bytes.now c.args.at
    (record { source = c.in_ok-source.source; entries = c.in_ok-entries.entries; text = t; base = log_record c.in_ok-base.base }) c.in_ok-base.next)
    (sym (c.in-Ok.ensures.ok ∙ c.as_str.ensures))
    (group_found c.args.before.now c.args.bytes.now c.args.at c.in_ok-source.source c.in_ok-source.next c.in_ok-entries.entries c.in_ok-entries.next c.in_ok-text.text c.in_ok-text.next (log_record c.in_ok-base.base) c.in_ok-base.next
    c.in_ok-source.ensures c.in_ok-entries.ensures
    (reads_found {X = List ℕ} (λ t. t) bytes_spelling IsShortText text_at text_reader c.args.bytes.now c.in_ok-entries.next (Ok (c.in_ok-text.text, c.in_ok-text.next)) c.in_ok-text.ensures)
    (reads_found {X = Entry} log_record entry_spelling IsReadable entry_at entry_reader c.args.bytes.now c.in_ok-text.next (Ok (c.in_ok-base.base, c.in_ok-base.next)) c.in_ok-base.ensures)))
