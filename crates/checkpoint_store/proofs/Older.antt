-- What keeps the rules of an older version keeps those of the newest.
use Rattle.std.proofs.Common.{ℕ, List, length, Result, ap, arith, inl, inr}
use Rattle.std.proofs.lemmas.Bool.{cases_lt}
use Rattle.file_tracker.specs.declared.ends.End.{End}
use Rattle.state_codec.specs.declared.CodecFault.{CodecFault}
use Rattle.checkpoint_store.specs.Limits.{newest}
use Rattle.checkpoint_store.specs.declared.Checkpoint.{Checkpoint}
use Rattle.checkpoint_store.specs.declared.past.Past.{Past}
use Rattle.checkpoint_store.specs.Rules.{KeepsPast, AreEras, Follows, IsCheckpoint, beside_of}
use Rattle.checkpoint_store.specs.Spelling.{checkpoint_spelling}
use Rattle.checkpoint_store.specs.Decodes.{Spells, Decodes, Answers}
use Rattle.checkpoint_store.proofs.Changing.{moved_keep}
use Rattle.checkpoint_store.proofs.Told.{decoded_again}

newest_past : (version output : ℕ) (eras : List (List ℕ)) → AreEras version eras → (from to : End) (past : Past) → KeepsPast (beside_of version eras output) from to past
    → KeepsPast (beside_of newest eras output) from to past
newest_past version output eras are from to past k = record {
  of_version = λ old. absurd (omega (arith, old));
  eras = λ _. elim (cases_lt version 3) [
    | inl old ↦ omega (arith, are.of_version old, ap (λ (p : Past). p.born) (k.of_version old), ap (λ (p : Past). length p.ends) (k.of_version old))
    | inr new ↦ k.eras new
  ];
  born = k.born;
  count = k.count;
  ends = k.ends;
  seen = k.seen;
  quiet = k.quiet;
}

newest_observed : (version observed : ℕ) → Follows version 0 observed → Follows newest 0 observed
newest_observed version observed f = record {
  of_version = λ old. absurd (omega (arith, old));
  told = λ _. (omega arith, elim (cases_lt version 2) [ inl old ↦ omega (arith, f.of_version old) | inr new ↦ (f.told new).1 ]);
}

pub newest_lawful : (version : ℕ) (c : Checkpoint) → IsCheckpoint version c → IsCheckpoint newest c
newest_lawful version c lawful = record {
  eras = record { of_version = λ old. absurd (omega (arith, old)); some = lawful.eras.some; few = lawful.eras.few; short = lawful.eras.short };
  output_length = lawful.output_length;
  observed = newest_observed version c.observed lawful.observed;
  next_id = lawful.next_id;
  count = lawful.count;
  rows = moved_keep (beside_of version c.eras c.output_length) (beside_of newest c.eras c.output_length) 1 c.rows (omega arith) (newest_past version c.output_length c.eras lawful.eras) lawful.rows;
}

pub rewritten_again : (bytes : List ℕ) (c : Checkpoint) (answer : Result Checkpoint CodecFault) → Spells bytes c → Decodes (checkpoint_spelling newest c) answer → Answers c answer
rewritten_again bytes c answer s d = decoded_again newest c answer (omega arith, omega arith) (newest_lawful s.version c s.lawful) d
