use Rattle.std.proofs.Common.{◌≡◌, ◌<◌, ◌∙◌, List, ℕ, length, sym, subst}
use Rattle.pipeline.specs.Entries.{text_of}
use Rattle.pipeline.specs.Parts.{settings_of}
use Rattle.pipeline.proofs.Texts.{one_line, text_fed}
use Rattle.pipeline.proofs.Pipeline.feed_text.Goals as goal

pub returns-in-Some-clause-fed : goal.returns-in-Some-clause-fed
returns-in-Some-clause-fed c = λ origin is.
    let written = c.in_ok-append_text.ensures in
    text_fed c.args.self.now origin c.args.token.now c.in-Some.text.now c.args.template.now c.args.state.now c.append_text.new.state c.args.out.now.items c.append_text.new.out.items
    (one_line c.lines_append.ensures.none c.lines_append.ensures.more) is c.requires.states c.in-Some.ensures.text c.in-Some.ensures.some
    written.records written.lines written.states (written.line origin.id origin.time _ _ _ is.1)

pub returns-clause-fed : goal.returns-clause-fed
returns-clause-fed c = λ origin is.
    let text : c.as_str.result.now ≡ text_of (settings_of c.args.self.now) c.args.token.now = c.as_str.ensures.value ∙ (rw c.in-Some-2.is at c.in_ok-text.ensures.some) in
    let some : 0 < length (text_of (settings_of c.args.self.now) c.args.token.now) = rw c.in-Some-2.is at c.in_ok-text.ensures.not_empty in
    let written = c.in_ok-append_text-2.ensures in
    text_fed c.args.self.now origin c.args.token.now c.as_str.result.now c.args.template.now c.args.state.now c.append_text-2.new.state c.args.out.now.items c.append_text-2.new.out.items
    (one_line c.lines_append.ensures.none c.lines_append.ensures.more) is c.requires.states text (subst (λ (bytes : List ℕ). 0 < length bytes) (sym text) some)
    written.records written.lines written.states (written.line origin.id origin.time _ _ _ is.1)
