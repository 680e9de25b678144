-- The records of a file are one list, and there always is one.
use Rattle.std.proofs.Common.{◌≡◌, ℕ, zero, suc, ◌+◌, ◌≤◌, List, [], ◌∷◌, length, Bool, true, false, refl, ◌∙◌, ap, arith}
use Rattle.slot_store.specs.Frame.{payload_at}
use Rattle.record_log.proofs.Fronts.{open_frame, counts_open}
use Rattle.record_log.specs.Records.{counts_at, end_at, HasRecords, no_more, record_at}

-- these records, their end and the last sequence number
pub record AreSame (payloads others : List (List ℕ)) (end other_end last other_last : ℕ) : Type 0 where
  pub payloads_are : others ≡ payloads
  pub end_is : other_end ≡ end
  pub last_is : other_last ≡ last

-- one record, and those behind it
record GoesOn (content : List ℕ) (place sequence : ℕ) (payloads : List (List ℕ)) (end last : ℕ) : Type 0 where
  rest : List (List ℕ)
  payloads_are : payloads ≡ payload_at place content ∷ rest
  behind : HasRecords content (end_at place content) (sequence + 1) rest end last

stops_here : {content : List ℕ} {place sequence : ℕ} {payloads : List (List ℕ)} {end last : ℕ} → HasRecords content place sequence payloads end last → counts_at place sequence content ≡ false → AreSame [] payloads place end sequence last
stops_here (no_more place sequence stops) closed = record { payloads_are = refl; end_is = refl; last_is = refl }
stops_here (record_at place sequence payloads end last counts behind) closed = cc

goes_on : {content : List ℕ} {place sequence : ℕ} {payloads : List (List ℕ)} {end last : ℕ} → HasRecords content place sequence payloads end last → counts_at place sequence content ≡ true → GoesOn content place sequence payloads end last
goes_on (no_more place sequence stops) counts = cc
goes_on (record_at place sequence payloads end last counts behind) opened = record { rest = payloads; payloads_are = refl; behind = behind }

-- two walks from one place are the same
pub one_walk : {content : List ℕ} {place sequence : ℕ} {payloads : List (List ℕ)} {end last : ℕ} (others : List (List ℕ)) (other_end other_last : ℕ) → HasRecords content place sequence payloads end last → HasRecords content place sequence others other_end other_last → AreSame payloads others end other_end last other_last
one_walk others other_end other_last (no_more place sequence stops) walked = stops_here walked stops
one_walk {content} others other_end other_last (record_at place sequence payloads end last counts behind) walked =
    let on = goes_on walked counts in
    let same = one_walk on.rest other_end other_last behind on.behind in
    record {
      payloads_are = on.payloads_are ∙ ap (λ rest. payload_at place content ∷ rest) same.payloads_are;
      end_is = same.end_is;
      last_is = same.last_is;
    }

pub record SomeRecords (content : List ℕ) (place sequence : ℕ) : Type 0 where
  pub payloads : List (List ℕ)
  pub end : ℕ
  pub last : ℕ
  pub walked : HasRecords content place sequence payloads end last

none_from : (content : List ℕ) (place sequence : ℕ) → counts_at place sequence content ≡ false → SomeRecords content place sequence
none_from content place sequence closed = record { payloads = []; end = place; last = sequence; walked = no_more place sequence closed }

one_from : (content : List ℕ) (place sequence : ℕ) → counts_at place sequence content ≡ true → SomeRecords content (end_at place content) (sequence + 1) → SomeRecords content place sequence
one_from content place sequence counts behind = record {
  payloads = payload_at place content ∷ behind.payloads;
  end = behind.end;
  last = behind.last;
  walked = record_at place sequence behind.payloads behind.end behind.last counts behind.walked;
}

-- A record takes bytes, so the walk comes to an end.
pub some_records : (left : ℕ) (content : List ℕ) (place sequence : ℕ) → length content ≤ place + left → SomeRecords content place sequence
some_records zero content place sequence near = by_test (counts_at place sequence content) refl
  where
    by_test : (test : Bool) → counts_at place sequence content ≡ test → SomeRecords content place sequence
    by_test true counts =
        let frame = open_frame place content (counts_open place sequence content counts) in
        absurd (omega (arith, frame.whole))
    by_test false closed = none_from content place sequence closed
some_records (suc left) content place sequence near = by_test (λ next further. some_records left content next (sequence + 1) further) (counts_at place sequence content) refl
  where
    by_test : ((next : ℕ) → length content ≤ next + left → SomeRecords content next (sequence + 1)) → (test : Bool) → counts_at place sequence content ≡ test → SomeRecords content place sequence
    by_test behind true counts = one_from content place sequence counts (behind (end_at place content) (omega arith))
    by_test behind false closed = none_from content place sequence closed
