-- Ends and rows as kinds of values.
use Rattle.std.proofs.Common.{◌≡◌, ℕ, zero, suc, ◌-◌, ◌^◌, ◌<◌, ◌≤◌, ltb, List, [], ◌∷◌, length, Ok, refl, sym, ap, subst, arith}
use Rattle.std.specs.List.{flat_map}
use Rattle.std.proofs.lemmas.Bool.{ltb-true, ltb-false}
use Rattle.file_tracker.specs.declared.ends.End.{End}
use Rattle.file_tracker.specs.declared.row.Row.{Row}
use Rattle.checkpoint_store.specs.Limits.{offset_limit, output_limit}
use Rattle.checkpoint_store.specs.declared.beside.Beside.{Beside}
use Rattle.checkpoint_store.specs.declared.past.Past.{Past}
use Rattle.checkpoint_store.specs.Rules.{past_of, no_past, NoneFalls, Rise, KeepsPast, KeepsRules}
use Rattle.checkpoint_store.specs.Spelling.{end_spelling, told_past, past_spelling, row_spelling}
use Rattle.checkpoint_store.specs.Reading.{end_at, ends_at, told_past_at, past_at, row_at}
use Rattle.checkpoint_store.proofs.Formats.{IsFormat, format_as, silent_format, then_format, last_format, chosen_format, KeepAll, list_format, count_kept}
use Rattle.checkpoint_store.proofs.Parts.{within_32, within_64, number_32, number_64, bytes_format, text_format, front_format}

-- ---- ends

-- each number has eight bytes
pub record IsShortEnd (end : End) : Type 0 where
  pub offset : end.offset < 2 ^ 64
  pub records : end.records < 2 ^ 64
  pub lines : end.lines < 2 ^ 64

abbrev pub Between : End → End → End → Type 0
Between from to end = NoneFalls from end × NoneFalls end to

end_format : (from to : End) → IsShortEnd to → IsFormat end_spelling (Between from to) (λ (bytes : List ℕ). end_at from to bytes)
unfolding end_at
end_format from to short =
    format_as (
    then_format (λ (e : End). e.offset) _ (within_64 from.offset to.offset)
    (λ offset _. then_format (λ (e : End). e.records) _ (within_64 from.records to.records)
    (λ records _. last_format (λ (e : End). e.lines) (λ lines. record { offset = offset; records = records; lines = lines }) (λ lines. refl) (within_64 from.lines to.lines))
    (λ records e k. ap (λ (e : End). e.records) k.1))
    (λ offset e k. ap (λ (e : End). e.offset) k.1.1)
    )
    (λ e. refl)
    (λ e k. (record { offset = k.0.0; records = k.1.0.0; lines = k.1.1.0.0 }, record { offset = k.0.1.0; records = k.1.0.1.0; lines = k.1.1.0.1.0 }))
    (λ e k. (
      (k.0.offset, (k.1.offset, omega (arith, k.1.offset, short.offset))),
      ((k.0.records, (k.1.records, omega (arith, k.1.records, short.records))), ((k.0.lines, (k.1.lines, omega (arith, k.1.lines, short.lines))), refl)),
    ))

abbrev KeepEnds : End → End → ℕ → List End → Type 0
KeepEnds from to n ends = KeepAll (λ (last : End) (_ : ℕ) (end : End). Between last to end) (λ (_ end : End). end) from n ends

ends_format : (from to : End) (n : ℕ) → IsShortEnd to → IsFormat (flat_map end_spelling) (KeepEnds from to n) (λ (bytes : List ℕ). ends_at from to n bytes)
ends_format from to n short = list_format end_spelling (λ (last : End) (_ : ℕ) (end : End). Between last to end) (λ last _ rest. end_at last to rest) (λ (_ end : End). end) (λ last _. end_format last to short) from n

rise_whole : (from to : End) (ends : List End) → Rise from ends to → NoneFalls from to
rise_whole from to [] rise = rise
rise_whole from to (end ∷ ends) rise =
    let more = rise_whole end to ends rise.1 in
    record {
      offset = omega (arith, rise.0.offset, more.offset);
      records = omega (arith, rise.0.records, more.records);
      lines = omega (arith, rise.0.lines, more.lines);
    }

kept_rise : (from to : End) (n : ℕ) (ends : List End) → NoneFalls from to → KeepEnds from to n ends → Rise from ends to
kept_rise from to zero [] whole kept = whole
kept_rise from to zero (end ∷ ends) whole kept = absurd kept
kept_rise from to (suc n) [] whole kept = absurd kept
kept_rise from to (suc n) (end ∷ ends) whole kept = (kept.0.0, kept_rise end to n ends kept.0.1 kept.1)

rise_kept : (from to : End) (ends : List End) → Rise from ends to → KeepEnds from to (length ends) ends
rise_kept from to [] rise = tt
rise_kept from to (end ∷ ends) rise = ((rise.0, rise_whole end to ends rise.1), rise_kept end to ends rise.1)

-- ---- behind the state

told_format : (beside : Beside) (from to : End) → 3 ≤ beside.version → NoneFalls from to → IsShortEnd to → IsFormat told_past (KeepsPast beside from to) (λ (bytes : List ℕ). told_past_at beside from to bytes)
unfolding told_past_at
told_format beside from to new whole short =
    format_as (
    then_format (λ (p : Past). p.born) _ (within_32 1 beside.eras)
    (λ born _. then_format (λ (p : Past). length p.ends) _ (within_32 (beside.eras - born) (beside.eras - born))
    (λ count _. then_format (λ (p : Past). p.ends) _ (ends_format from to count short)
    (λ ends _. then_format (λ (p : Past). p.seen) _ number_64
    (λ seen _. last_format (λ (p : Past). p.quiet) (λ quiet. record { born = born; ends = ends; seen = seen; quiet = quiet }) (λ quiet. refl) number_32)
    (λ seen p k. ap (λ (p : Past). p.seen) k.1))
    (λ ends p k. ap (λ (p : Past). p.ends) k.1.1))
    (λ count p k. count_kept (λ (last : End) (_ : ℕ) (end : End). Between last to end) (λ (_ end : End). end) from count p.ends k.0))
    (λ born p k. ap (λ (p : Past). p.born) k.1.1.1.1)
    )
    (λ p. refl)
    (λ p k. record {
      of_version = λ old. absurd (omega (arith, new, old));
      eras = λ _. omega (arith, k.0.1.0, k.1.0.0, k.1.0.1.0);
      born = (k.0.0, k.0.1.1);
      count = k.1.0.1.1;
      ends = kept_rise from to (length p.ends) p.ends whole k.1.1.0;
      seen = k.1.1.1.0;
      quiet = k.1.1.1.1.0;
    })
    (λ p k. (
      (k.born.0, (omega (arith, k.eras new), k.born.1)),
      (
        (omega (arith, k.eras new), (omega (arith, k.eras new), k.count)),
        (rise_kept from to p.ends k.ends, (k.seen, (k.quiet, refl))),
      ),
    ))

past_format : (beside : Beside) (from to : End) → NoneFalls from to → IsShortEnd to → IsFormat (past_spelling beside.version) (KeepsPast beside from to) (λ (bytes : List ℕ). past_at beside from to bytes)
unfolding past_at
past_format beside from to whole short =
    chosen_format (ltb beside.version 3) (λ _. []) told_past (KeepsPast beside from to) (λ bytes. Ok (no_past, bytes)) (λ bytes. told_past_at beside from to bytes)
    (λ old. format_as (silent_format no_past) (λ p. refl) (λ p is. kept p (ltb-true beside.version 3 old) is) (λ p k. k.of_version (ltb-true beside.version 3 old)))
    (λ new. told_format beside from to (ltb-false beside.version 3 new) whole short)
  where
    kept : (p : Past) → beside.version < 3 → p ≡ no_past → KeepsPast beside from to p
    kept p old is =
        subst (λ (q : Past). KeepsPast beside from to q) (sym is)
        (record {
          of_version = λ _. refl;
          eras = λ new. absurd (omega (arith, old, new));
          born = (omega arith, omega arith);
          count = omega arith;
          ends = whole;
          seen = omega arith;
          quiet = omega arith;
        })

-- ---- rows

abbrev pub KeepsRow : Beside → ℕ → ℕ → Row → Type 0
KeepsRow beside low high row = ((low ≤ row.id) × (row.id ≤ high)) × KeepsRules beside row

pub row_format : (beside : Beside) (low high : ℕ) → beside.output_length ≤ output_limit
    → IsFormat (row_spelling beside.version) (KeepsRow beside low high) (λ (bytes : List ℕ). row_at beside low high bytes)
unfolding row_at
row_format beside low high small =
    format_as (
    then_format (λ (r : Row). r.id) _ (within_32 low high)
    (λ id _. then_format (λ (r : Row). r.path) _ text_format
    (λ path _. then_format (λ (r : Row). r.front) _ front_format
    (λ front _. then_format (λ (r : Row). r.start) _ (within_64 0 offset_limit)
    (λ start _. then_format (λ (r : Row). r.offset) _ (within_64 start offset_limit)
    (λ offset far. then_format (λ (r : Row). r.records) _ (within_64 0 (offset - start))
    (λ records cut. then_format (λ (r : Row). r.lines) _ (within_64 0 beside.output_length)
    (λ lines made. then_format (λ (r : Row). r.state) _ bytes_format
    (λ state _. last_format past_of
    (λ (past : Past). record {
      id = id;
      path = path;
      front = front;
      start = start;
      offset = offset;
      records = records;
      lines = lines;
      state = state;
      born = past.born;
      ends = past.ends;
      seen = past.seen;
      quiet = past.quiet;
    })
    (λ past. refl)
    (past_format beside (record { offset = start; records = 0; lines = 0 }) (record { offset = offset; records = records; lines = lines })
    (record { offset = far.0; records = omega arith; lines = omega arith })
    (record { offset = far.1.1; records = cut.1.1; lines = made.1.1 })))
    (λ state r k. ap (λ (r : Row). r.state) k.1))
    (λ lines r k. ap (λ (r : Row). r.lines) k.1.1))
    (λ records r k. ap (λ (r : Row). r.records) k.1.1.1))
    (λ offset r k. ap (λ (r : Row). r.offset) k.1.1.1.1))
    (λ start r k. ap (λ (r : Row). r.start) k.1.1.1.1.1))
    (λ front r k. ap (λ (r : Row). r.front) k.1.1.1.1.1.1))
    (λ path r k. ap (λ (r : Row). r.path) k.1.1.1.1.1.1.1))
    (λ id r k. ap (λ (r : Row). r.id) k.1.1.1.1.1.1.1.1)
    )
    (λ r. refl)
    (λ r k. (
      (k.0.0, k.0.1.0),
      record {
        id = k.0.1.1;
        path = k.1.0;
        front = k.1.1.0;
        start = k.1.1.1.1.0.0;
        offset = k.1.1.1.1.0.1.0;
        records = k.1.1.1.1.1.0.1.0;
        lines = k.1.1.1.1.1.1.0.1.0;
        state = k.1.1.1.1.1.1.1.0;
        past = k.1.1.1.1.1.1.1.1.0;
      },
    ))
    (λ r k. (
      (k.0.0, (k.0.1, k.1.id)),
      (
        k.1.path,
        (
          k.1.front,
          (
            (omega arith, (omega (arith, k.1.start, k.1.offset), omega (arith, k.1.start, k.1.offset))),
            (
              (k.1.start, (k.1.offset, omega (arith, k.1.offset))),
              (
                (omega arith, (k.1.records, omega (arith, k.1.records, k.1.offset))),
                ((omega arith, (k.1.lines, omega (arith, k.1.lines, small))), (k.1.state, (k.1.past, refl))),
              ),
            ),
          ),
        ),
      ),
    ))
