-- The readers of numbers, bytes, texts and entries.
use Rattle.std.proofs.Common.{ℕ, ◌^◌, ◌<◌, List, ◌∷◌, ◌++◌, length, arith, length-append}
use Rattle.std.specs.Int.{w32, w64, to_be_bytes}
use Rattle.entry_model.specs.Datum.{fields}
use Rattle.entry_model.specs.LogRecord.{LogRecord}
use Rattle.state_codec.specs.Spelling.{bytes_spelling, value_spelling, entry_spelling, time_spelling}
use Rattle.state_codec.specs.Rules.{IsShortText, IsReadable}
use Rattle.state_codec.specs.Reading.{number_at, bytes_at, text_at, entry_at}
use Rattle.state_codec.proofs.Numbers.{wide32, wide64, number_takes, number_again, bytes_takes, bytes_again, text_takes, text_again}
use Rattle.state_codec.proofs.EntryLaws.{entry_takes, entry_again}
use Rattle.state_codec.proofs.GetLemmas.{IsReader}

pub u32_reader : IsReader (to_be_bytes w32) (λ n. n < 2 ^ 32) (number_at w32)
u32_reader = record {
  takes = λ bytes x fits e. number_takes w32 (2 ^ 32) wide32 bytes x.0 x.1 fits e;
  again = λ n rest small. number_again w32 (2 ^ 32) wide32 n rest small;
  some = λ n. omega (arith, wide32.size n);
}

pub u64_reader : IsReader (to_be_bytes w64) (λ n. n < 2 ^ 64) (number_at w64)
u64_reader = record {
  takes = λ bytes x fits e. number_takes w64 (2 ^ 64) wide64 bytes x.0 x.1 fits e;
  again = λ n rest small. number_again w64 (2 ^ 64) wide64 n rest small;
  some = λ n. omega (arith, wide64.size n);
}

counted_some : (bytes : List ℕ) → 0 < length (bytes_spelling bytes)
counted_some bytes = omega (arith, wide32.size (length bytes), length-append (to_be_bytes w32 (length bytes)) bytes)

pub bytes_reader : IsReader bytes_spelling (λ (bytes : List ℕ). length bytes < 2 ^ 32) bytes_at
bytes_reader = record { takes = bytes_takes; again = bytes_again; some = counted_some }

pub text_reader : IsReader bytes_spelling IsShortText text_at
text_reader = record { takes = text_takes; again = text_again; some = counted_some }

longer : (front rest : List ℕ) → 0 < length rest → 0 < length (front ++ rest)
longer front rest some = omega (arith, length-append front rest)

entry_some : (r : LogRecord) → 0 < length (entry_spelling r)
entry_some r =
    let last : List ℕ = r.severity ∷ (bytes_spelling r.severity_text ++ time_spelling r.timestamp) in
    longer (value_spelling r.body) (value_spelling (fields r.attributes) ++ (value_spelling (fields r.resource) ++ last))
    (longer (value_spelling (fields r.attributes)) (value_spelling (fields r.resource) ++ last) (longer (value_spelling (fields r.resource)) last (omega arith)))

pub entry_reader : IsReader entry_spelling IsReadable entry_at
entry_reader = record {
  takes = λ bytes x fits e. (let t = entry_takes 4095 bytes x fits e in (t.0, record { lawful = t.1.lawful; shallow = record { body = t.1.body; attributes = t.1.attributes; resource = t.1.resource } }));
  again = λ r rest readable. entry_again 4095 r rest (record { lawful = readable.lawful; body = readable.shallow.body; attributes = readable.shallow.attributes; resource = readable.shallow.resource });
  some = entry_some;
}
