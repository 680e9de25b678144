use Rattle.std.proofs.Common.{ℕ, List, ap, Ok, Err}
use Rattle.std.proofs.lemmas.Result.{err_from_is_err_and}
use Rattle.std.specs.Prelude.{not}
use Rattle.std.specs.List.{list_any}
use Rattle.state_codec.specs.Reading.{text_at}
use Rattle.state_codec.specs.Rules.{IsShortText}
use Rattle.state_codec.specs.Spelling.{bytes_spelling}
use Rattle.state_codec.proofs.Readers.{text_reader}
use Rattle.recombine.specs.Sources.{is_of}
use Rattle.recombine.proofs.SpellingLemmas.{reads_found, at_within, such_found, such_refused, such_fails, among_none, among_at}
use Rattle.recombine.proofs.saving.get_source.Goals as goal

pub returns-in_err-source : goal.returns-in_err-source
returns-in_err-source c =
    let p = err_from_is_err_and c.from_residual.result c.from_residual.ensures.1 in
    rw (p.1, p.2)
    (such_fails {X = List ℕ} (λ t. t) text_at (λ s. not (list_any (is_of s) c.args.before.now)) c.args.bytes.now c.args.at c.in_err-source.field-0.0
    (reads_found {X = List ℕ} (λ t. t) bytes_spelling IsShortText text_at text_reader c.args.bytes.now c.args.at (Err c.in_err-source.field-0.0) c.in_err-source.ensures))

pub returns-in-Some : goal.returns-in-Some
returns-in-Some c =
    such_refused text_at (λ s. not (list_any (is_of s) c.args.before.now)) c.args.bytes.now c.args.at c.in_ok-source.source c.in_ok-source.next
    (reads_found {X = List ℕ} (λ t. t) bytes_spelling IsShortText text_at text_reader c.args.bytes.now c.args.at (Ok (c.in_ok-source.source, c.in_ok-source.next)) c.in_ok-source.ensures)
    (at_within bytes_spelling IsShortText c.args.bytes.now c.args.at c.in_ok-source.source c.in_ok-source.next c.in_ok-source.ensures)
    (ap not (among_at c.in_ok-source.source c.args.before.now c.in-Some._place c.in-Some.ensures))

pub returns-in-None : goal.returns-in-None
returns-in-None c =
    such_found text_at (λ s. not (list_any (is_of s) c.args.before.now)) c.args.bytes.now c.args.at c.in_ok-source.source c.in_ok-source.next
    (reads_found {X = List ℕ} (λ t. t) bytes_spelling IsShortText text_at text_reader c.args.bytes.now c.args.at (Ok (c.in_ok-source.source, c.in_ok-source.next)) c.in_ok-source.ensures)
    (ap not (among_none c.in_ok-source.source c.args.before.now c.in-None.ensures))
