use Rattle.pipeline.proofs.Texts.{on_ok}
use Rattle.pipeline.proofs.Pipeline.feed_token.Goals as goal

pub returns-in-Lines-clause-fed : goal.returns-in-Lines-clause-fed
returns-in-Lines-clause-fed c = on_ok c.feed_text.result _ _ c.feed_text.ensures.fed (λ fed. λ origin is. fed origin (rw c.in-Lines.is at is))

pub returns-in-Lines-clause-lines : goal.returns-in-Lines-clause-lines
returns-in-Lines-clause-lines c = on_ok c.feed_text.result _ _ c.feed_text.ensures.lines (λ lines. λ origin is. lines origin (rw c.in-Lines.is at is))

pub returns-in-Entries-clause-fed : goal.returns-in-Entries-clause-fed
returns-in-Entries-clause-fed c = on_ok c.feed_entry.result _ _ c.feed_entry.ensures.fed (λ fed. λ origin is. fed origin (rw c.in-Entries.is at is))

pub returns-in-Entries-clause-lines : goal.returns-in-Entries-clause-lines
returns-in-Entries-clause-lines c = on_ok c.feed_entry.result _ _ c.feed_entry.ensures.lines (λ lines. λ origin is. lines)
