-- Checkpoints as kinds of values.
use Rattle.std.proofs.Common.{◌≡◌, ℕ, zero, suc, ◌+◌, ◌-◌, ◌^◌, ◌<◌, ◌≤◌, cond, ltb, leb, List, [], ◌∷◌, length, Ok, Err, refl, sym, ap, subst, arith, inl, inr}
use Rattle.std.specs.Prelude.{◌&&◌}
use Rattle.std.specs.List.{All, flat_map}
use Rattle.std.specs.Int.{w32, w64, to_be_bytes}
use Rattle.std.proofs.lemmas.Bool.{ltb-true, ltb-false, leb-true, le-leb}
use Rattle.std.proofs.lemmas.List.Elements.{All-nil, All-cons, All-head, All-tail}
use Rattle.file_tracker.specs.declared.row.Row.{Row}
use Rattle.file_tracker.specs.Limits.{row_limit}
use Rattle.state_codec.specs.Spelling.{bytes_spelling}
use Rattle.state_codec.specs.Reading.{◌>>=◌, bytes_at}
use Rattle.state_codec.proofs.Numbers.{IsBytes, bytes_behind, Takes, test_ok}
use Rattle.state_codec.proofs.Fair.{Fair, fair_ok, fair_tagged, chosen_branch}
use Rattle.checkpoint_store.specs.Limits.{newest, era_limit, output_limit, time_limit}
use Rattle.checkpoint_store.specs.declared.Checkpoint.{Checkpoint}
use Rattle.checkpoint_store.specs.declared.beside.Beside.{Beside}
use Rattle.checkpoint_store.specs.Rules.{IsVersion, Follows, IsCheckpoint, beside_of}
use Rattle.checkpoint_store.specs.Spelling.{row_spelling, era_count_spelling, observed_spelling, body_spelling, checkpoint_spelling}
use Rattle.checkpoint_store.specs.Reading.{number_within, row_at, ascending_at, version_at, era_count_at, texts_at, observed_at, checkpoint_at, any_checkpoint_at}
use Rattle.checkpoint_store.specs.Fits.{Ascend}
use Rattle.checkpoint_store.specs.DeadEnds.{IsPart}
use Rattle.checkpoint_store.proofs.Formats.{IsFormat, format_by, format_as, silent_format, then_format, last_format, chosen_format, KeepAll, list_format, count_kept}
use Rattle.checkpoint_store.proofs.Parts.{both_true, within_32, within_64, bytes_format}
use Rattle.checkpoint_store.proofs.RowFormats.{KeepsRow, row_format}
use Rattle.checkpoint_store.proofs.Ascending.{most, ascend_in_turn, in_turn_ascend}

-- ---- rows

abbrev KeepAscending : Beside → ℕ → ℕ → ℕ → List Row → Type 0
KeepAscending beside high low n rows = KeepAll (λ (least n : ℕ) (row : Row). KeepsRow beside least (high - n) row) (λ (_ : ℕ) (row : Row). row.id + 1) low n rows

kept_ascend : (beside : Beside) (high low n : ℕ) (rows : List Row) → KeepAscending beside high low n rows → Ascend beside low high rows
kept_ascend beside high low zero [] kept = tt
kept_ascend beside high low zero (row ∷ rows) kept = absurd kept
kept_ascend beside high low (suc n) [] kept = absurd kept
kept_ascend beside high low (suc n) (row ∷ rows) kept = ((kept.0.0.0, omega (arith, kept.0.0.1)), (kept.0.1, kept_ascend beside high (row.id + 1) n rows kept.1))

ascend_kept : (beside : Beside) (high low : ℕ) (rows : List Row) → Ascend beside low high rows → KeepAscending beside high low (length rows) rows
ascend_kept beside high low [] a = tt
ascend_kept beside high low (row ∷ rows) a =
    (((a.0.0, omega (arith, a.0.1, most beside (row.id + 1) high rows a.1.1)), a.1.0), ascend_kept beside high (row.id + 1) rows a.1.1)

pub rows_format : (beside : Beside) (low high n : ℕ) → beside.output_length ≤ output_limit
    → IsFormat (flat_map (row_spelling beside.version)) (λ (rows : List Row). (length rows ≡ n) × Ascend beside low high rows) (λ (bytes : List ℕ). ascending_at beside low high n bytes)
rows_format beside low high n small =
    format_as
    (list_format (row_spelling beside.version) (λ (least n : ℕ) (row : Row). KeepsRow beside least (high - n) row) (λ least n rest. row_at beside least (high - n) rest) (λ (_ : ℕ) (row : Row). row.id + 1)
    (λ least n. row_format beside least (high - n) small) low n)
    (λ rows. refl)
    (λ rows kept. (count_kept (λ (least n : ℕ) (row : Row). KeepsRow beside least (high - n) row) (λ (_ : ℕ) (row : Row). row.id + 1) low n rows kept, kept_ascend beside high low n rows kept))
    (λ rows keeps. subst (λ (k : ℕ). KeepAscending beside high low k rows) keeps.0 (ascend_kept beside high low rows keeps.1))

-- ---- eras

abbrev pub IsEraCount : ℕ → ℕ → Type 0
IsEraCount version n = (version < 3 → n ≡ 1) × ((1 ≤ n) × (n ≤ era_limit))

era_count_format : (version : ℕ) → IsFormat (era_count_spelling version) (IsEraCount version) (λ (bytes : List ℕ). era_count_at version bytes)
unfolding era_count_at
era_count_format version =
    chosen_format (ltb version 3) (λ _. []) (to_be_bytes w32) (IsEraCount version) (λ bytes. Ok (1, bytes)) (λ bytes. number_within w32 1 era_limit bytes)
    (λ old. format_as (silent_format 1) (λ n. refl) (λ n is. (λ _. is, (omega (arith, is), omega (arith, is)))) (λ n k. k.0 (ltb-true version 3 old)))
    (λ new. format_as (within_32 1 era_limit) (λ n. refl) (λ n k. (λ older. absurd (omega (arith, older, ltb-false version 3 new)), (k.0, k.1.0))) (λ n k. (k.1.0, (k.1.1, omega (arith, k.1.1)))))

abbrev IsShortBytes : List ℕ → Type 0
IsShortBytes text = length text < 2 ^ 32

abbrev KeepTexts : ℕ → List (List ℕ) → Type 0
KeepTexts n texts = KeepAll (λ (_ _ : ℕ) (text : List ℕ). IsShortBytes text) (λ (known : ℕ) (_ : List ℕ). known) 0 n texts

kept_all : (n : ℕ) (texts : List (List ℕ)) → KeepTexts n texts → All IsShortBytes texts
kept_all zero [] kept = All-nil IsShortBytes
kept_all zero (text ∷ texts) kept = absurd kept
kept_all (suc n) [] kept = absurd kept
kept_all (suc n) (text ∷ texts) kept = All-cons IsShortBytes text texts kept.0 (kept_all n texts kept.1)

all_kept : (texts : List (List ℕ)) → All IsShortBytes texts → KeepTexts (length texts) texts
all_kept [] all = tt
all_kept (text ∷ texts) all = (All-head IsShortBytes text texts all, all_kept texts (All-tail IsShortBytes text texts all))

texts_format : (n : ℕ) → IsFormat (flat_map bytes_spelling) (λ (texts : List (List ℕ)). (length texts ≡ n) × All IsShortBytes texts) (λ (bytes : List ℕ). texts_at n bytes)
texts_format n =
    format_as
    (list_format bytes_spelling (λ (_ _ : ℕ) (text : List ℕ). IsShortBytes text) (λ _ _ rest. bytes_at rest) (λ (known : ℕ) (_ : List ℕ). known) (λ _ _. bytes_format) 0 n)
    (λ texts. refl)
    (λ texts kept. (count_kept (λ (_ _ : ℕ) (text : List ℕ). IsShortBytes text) (λ (known : ℕ) (_ : List ℕ). known) 0 n texts kept, kept_all n texts kept))
    (λ texts keeps. subst (λ (k : ℕ). KeepTexts k texts) keeps.0 (all_kept texts keeps.1))

-- ---- the observed time

pub observed_format : (version before : ℕ) → IsFormat (observed_spelling version) (Follows version before) (λ (bytes : List ℕ). observed_at version before bytes)
unfolding observed_at
observed_format version before =
    chosen_format (ltb version 2) (λ _. []) (to_be_bytes w64) (Follows version before) (λ bytes. Ok (before, bytes)) (λ bytes. number_within w64 before time_limit bytes)
    (λ old. format_as (silent_format before) (λ n. refl)
    (λ n is. record { of_version = λ _. is; told = λ new. absurd (omega (arith, new, ltb-true version 2 old)) })
    (λ n k. k.of_version (ltb-true version 2 old)))
    (λ new. format_as (within_64 before time_limit) (λ n. refl)
    (λ n k. record { of_version = λ old. absurd (omega (arith, old, ltb-false version 2 new)); told = λ _. (k.0, k.1.0) })
    (λ n k. (let told = k.told (ltb-false version 2 new) in (told.0, (told.1, omega (arith, told.1))))))

-- ---- checkpoints

pub body_format : (version : ℕ) → IsFormat (body_spelling version) (IsCheckpoint version) (λ (bytes : List ℕ). checkpoint_at version bytes)
unfolding checkpoint_at
body_format version =
    format_as (
    then_format (λ (c : Checkpoint). length c.eras) _ (era_count_format version)
    (λ count _. then_format (λ (c : Checkpoint). c.eras) _ (texts_format count)
    (λ eras _. then_format (λ (c : Checkpoint). c.output_length) _ (within_64 0 output_limit)
    (λ output small. then_format (λ (c : Checkpoint). c.observed) _ (observed_format version 0)
    (λ observed _. then_format (λ (c : Checkpoint). c.next_id) _ (within_32 1 (row_limit + 1))
    (λ next _. then_format (λ (c : Checkpoint). length c.rows) _ (within_32 (next - 1) (next - 1))
    (λ size _. last_format (λ (c : Checkpoint). c.rows) (λ (rows : List Row). record { eras = eras; output_length = output; observed = observed; next_id = next; rows = rows })
    (λ rows. refl) (rows_format (beside_of version eras output) 1 (next - 1) size small.1.0))
    (λ size c k. k.0.0))
    (λ next c k. ap (λ (c : Checkpoint). c.next_id) k.1.1))
    (λ observed c k. ap (λ (c : Checkpoint). c.observed) k.1.1.1))
    (λ output c k. ap (λ (c : Checkpoint). c.output_length) k.1.1.1.1))
    (λ eras c k. ap (λ (c : Checkpoint). c.eras) k.1.1.1.1.1))
    (λ count c k. k.0.0)
    )
    (λ c. refl)
    (λ c k. record {
      eras = record { of_version = k.0.0; some = k.0.1.0; few = k.0.1.1; short = k.1.0.1 };
      output_length = k.1.1.0.1.0;
      observed = k.1.1.1.0;
      next_id = (k.1.1.1.1.0.0, k.1.1.1.1.0.1.0);
      count = omega (arith, k.1.1.1.1.0.0, k.1.1.1.1.1.0.0, k.1.1.1.1.1.0.1.0);
      rows = ascend_in_turn (beside_of version c.eras c.output_length) 1 (c.next_id - 1) c.rows k.1.1.1.1.1.1.0.1 (omega (arith, k.1.1.1.1.0.0, k.1.1.1.1.1.0.0, k.1.1.1.1.1.0.1.0));
    })
    (λ c k. (
      (k.eras.of_version, (k.eras.some, k.eras.few)),
      (
        (refl, k.eras.short),
        (
          (omega arith, (k.output_length, omega (arith, k.output_length))),
          (
            k.observed,
            (
              (k.next_id.0, (k.next_id.1, omega (arith, k.next_id.1))),
              (
                (omega (arith, k.count), (omega (arith, k.count), omega (arith, k.count, k.next_id.1))),
                ((refl, in_turn_ascend (beside_of version c.eras c.output_length) 1 (c.next_id - 1) c.rows k.rows (omega (arith, k.count))), refl),
              ),
            ),
          ),
        ),
      ),
    ))

-- ---- of any version

fair_version : Fair IsPart version_at
unfolding version_at
fair_version =
    fair_tagged IsPart (λ byte. inl refl) version_at (λ (version : ℕ) (rest : List ℕ). cond (leb 1 version && leb version newest) (Ok (version, rest)) (Err (suc (length rest)))) refl (λ version rest. refl)
    (λ version. chosen_branch (leb 1 version && leb version newest) (λ rest. Ok (version, rest)) (λ rest. Err (suc (length rest))) (inl (fair_ok version)) (inr (λ rest. refl)))

version_takes : (bytes : List ℕ) (x : ℕ × List ℕ) → IsBytes bytes → version_at bytes ≡ Ok x → Takes bytes (x.0 ∷ []) x.1 × IsVersion x.0
unfolding version_at
version_takes [] x fits e = absurd cc
version_takes (version ∷ rest) x fits e =
    let read = test_ok (leb 1 version && leb version newest) (suc (length rest)) (version, rest) x e in
    let between = both_true (leb 1 version) (leb version newest) read.0 in
    subst (λ (p : ℕ × List ℕ). Takes (version ∷ rest) (p.0 ∷ []) p.1 × IsVersion p.0) read.1
    (record { parts = refl; left = bytes_behind version rest fits }, (leb-true 1 version between.0, leb-true version newest between.1))

version_again : (version : ℕ) (rest : List ℕ) → IsVersion version → version_at (version ∷ rest) ≡ Ok (version, rest)
unfolding version_at
version_again version rest known = rw (le-leb 1 version known.0, le-leb version newest known.1) refl

version_format : IsFormat (λ (version : ℕ). version ∷ []) IsVersion (λ (bytes : List ℕ). version_at bytes)
version_format = record { takes = version_takes; again = version_again; blames = fair_version.blames }

abbrev pub Known : Type 0
Known = ℕ × Checkpoint

first_is : (version : ℕ) (k : Known) → k ≡ (version, k.1) → k.0 ≡ version
first_is version k is = ap (λ (k : Known). k.0) is

behind_version : (version : ℕ)
    → IsFormat (λ (k : Known). body_spelling k.0 k.1) (λ (k : Known). (k.0 ≡ version) × IsCheckpoint k.0 k.1) (λ (bytes : List ℕ). checkpoint_at version bytes >>= λ c. Ok ((version, c.0), c.1))
behind_version version =
    format_by (last_format (λ (k : Known). k.1) (λ (c : Checkpoint). (version, c)) (λ c. refl) (body_format version))
    (λ k keeps. ap (λ (v : ℕ). body_spelling v k.1) (sym (first_is version k keeps.1)))
    (λ k keeps. (first_is version k keeps.1, subst (λ (v : ℕ). IsCheckpoint v k.1) (sym (first_is version k keeps.1)) keeps.0))
    (λ k keeps. (subst (λ (v : ℕ). IsCheckpoint v k.1) keeps.0 keeps.1, ap (λ (v : ℕ). (v, k.1)) keeps.0))

pub any_format : IsFormat (λ (k : Known). checkpoint_spelling k.0 k.1) (λ (k : Known). IsVersion k.0 × IsCheckpoint k.0 k.1) (λ (bytes : List ℕ). any_checkpoint_at bytes)
unfolding any_checkpoint_at
any_format =
    format_as (then_format (λ (k : Known). k.0) _ version_format (λ version _. behind_version version) (λ version k keeps. keeps.0))
    (λ k. refl) (λ k keeps. (keeps.0, keeps.1.1)) (λ k keeps. (keeps.0, (refl, keeps.1)))
