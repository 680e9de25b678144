-- The tokens of the lines of rounds.
use Rattle.std.proofs.Common.{◌≡◌, ◌≢◌, ℕ, ◌+◌, ◌-◌, ◌<◌, ◌≤◌, List, [], ◌∷◌, ◌++◌, length, take, get_or, map, Option, Some, refl, ap, ◌∙◌, arith, append_assoc, length-append, length-take}
use Rattle.std.specs.Prelude.{codes, decimal}
use Rattle.std.specs.Char.{digit_value}
use Rattle.std.specs.Str.Lines.{strip_carriage_return}
use Rattle.std.proofs.Math.Seq.{drop-append-add, get_or-append_seam, take-append_seam}
use Rattle.std.proofs.lemmas.Bool.{ne_eqb}
use Rattle.std.proofs.lemmas.Fmt.{length-decimal-le}
use Rattle.std.proofs.lemmas.List.{get_or-take, get_or_append_left}
use Rattle.std.proofs.lemmas.List.Elements.{All-head, All-tail}
use Rattle.std.proofs.lemmas.List.Sums.{position_or_len_is}
use Rattle.demo_run.specs.Script.{line_of, log_of}
use Rattle.demo_run.proofs.Digits.{Avoids, avoids_append, avoids_at, number_avoids}
use Rattle.demo_run.proofs.Ruled.{AreRounds, lines_of_rounds}
use Rattle.line_splitter.proofs.CutLemmas.{cuts-some}
use Rattle.line_splitter.proofs.LineLemmas.{first_cut-is_rule, first_cut-line, window}
use Rattle.line_splitter.specs.Cuts.{Cut, cut, cuts, cuts_within, texts}
use Rattle.line_splitter.specs.LineTokens.{first_cut, is_line_feed, line_end}

-- ---- a line at the front

module _ (max : ℕ) (line rest : List ℕ) (within : length line ≤ max) (no_lf : Avoids 10 line) where
  abbrev whole : List ℕ
  whole = line ++ 10 ∷ rest

  in_window : (k : ℕ) → k ≤ length line → get_or (window max whole) k 0 ≡ get_or whole k 0
  in_window k early = get_or-take (max + 1) whole k 0 (omega (arith, early, within))

  ends_at : line_end max whole ≡ length line
  unfolding line_end
  ends_at =
      position_or_len_is is_line_feed (window max whole) (length line) 0
      (omega (arith, within, length-take (max + 1) whole, length-append line (10 ∷ rest)))
      (λ k before.
      let same : get_or (window max whole) k 0 ≡ get_or line k 0 = in_window k (omega (arith, before)) ∙ get_or_append_left line (10 ∷ rest) 0 k before in
      ap is_line_feed same ∙ ne_eqb (get_or line k 0) 10 (avoids_at 10 line no_lf k before))
      (λ inside. ap is_line_feed (in_window (length line) (omega arith) ∙ get_or-append_seam line 10 rest 0))

  first_is : strip_carriage_return line ≡ line → first_cut max whole ≡ Some (cut line (length line + 1))
  first_is kept =
      let found : line_end max whole < length (window max whole) = omega (arith, ends_at, within, length-take (max + 1) whole, length-append line (10 ∷ rest)) in
      first_cut-line max whole found
      ∙ ap (λ (n : ℕ). Some (cut (strip_carriage_return (take n whole)) (n + 1))) ends_at
      ∙ ap (λ (text : List ℕ). Some (cut (strip_carriage_return text) (length line + 1))) (take-append_seam line (10 ∷ rest))
      ∙ ap (λ (text : List ℕ). Some (cut text (length line + 1))) kept

  line_cut : 1 ≤ max → strip_carriage_return line ≡ line → cuts (first_cut max) whole ≡ cut line (length line + 1) ∷ cuts (first_cut max) rest
  line_cut some kept =
      cuts-some (first_cut max) (first_cut-is_rule max some) whole (cut line (length line + 1)) (first_is kept)
      ∙ ap (λ (b : List ℕ). cut line (length line + 1) ∷ cuts (first_cut max) b) (drop-append-add line (10 ∷ rest) 1)

kept_whole : (line : List ℕ) → Avoids 13 line → strip_carriage_return line ≡ line
kept_whole [] none = refl
kept_whole (byte ∷ line) none =
    let last : ℕ = length (byte ∷ line) - 1 in
    let other : get_or (byte ∷ line) last 0 ≢ 13 = avoids_at 13 (byte ∷ line) none last (omega arith) in
    rw (ne_eqb (get_or (byte ∷ line) last 0) 13 other) refl

no_bytes : (first : List ℕ → Option Cut) → cuts first [] ≡ []
unfolding cuts cuts_within
no_bytes first = refl

-- ---- the lines of rounds

-- a round's line without its LF
abbrev pub text_of_round : ℕ → List ℕ
text_of_round round = 114 ∷ ((decimal round ++ codes " k") ++ decimal (log_of round))

pub text_short : (round : ℕ) → round ≤ 1000 → length (text_of_round round) ≤ 15
text_short round few =
    omega (
      arith,
      length-decimal-le 4 round (omega arith) (omega (arith, few)) (omega (arith, few)),
      length-decimal-le 1 (log_of round) (omega arith) (omega arith) (omega arith),
      length-append (decimal round ++ codes " k") (decimal (log_of round)),
      length-append (decimal round) (codes " k"),
    )

text_avoids : (byte round : ℕ) → round ≤ 1000 → 10 ≤ digit_value byte → 114 ≢ byte → 32 ≢ byte → 107 ≢ byte → Avoids byte (text_of_round round)
text_avoids byte round few past not_r not_blank not_k = (
  not_r,
  avoids_append byte (decimal round ++ codes " k") (decimal (log_of round))
      (avoids_append byte (decimal round) (codes " k") (number_avoids byte round (omega (arith, few)) past) (not_blank, (not_k, tt)))
      (number_avoids byte (log_of round) (omega arith) past),
)

-- it stands whole before what follows
line_before : (round : ℕ) (rest : List ℕ) → line_of round ++ rest ≡ text_of_round round ++ 10 ∷ rest
line_before round rest = append_assoc (text_of_round round) (codes "\n") rest

abbrev pub cuts_of_rounds : List ℕ → List Cut
cuts_of_rounds rounds = map (λ (round : ℕ). cut (text_of_round round) (length (text_of_round round) + 1)) rounds

pub lines_cut : (max : ℕ) → 16 ≤ max → (rounds : List ℕ) → AreRounds rounds → cuts (first_cut max) (lines_of_rounds rounds) ≡ cuts_of_rounds rounds
lines_cut max wide [] are = no_bytes (first_cut max)
lines_cut max wide (round ∷ rounds) are =
    let few : round ≤ 1000 = All-head (λ (n : ℕ). n ≤ 1000) round rounds are in
    let later = lines_cut max wide rounds (All-tail (λ (n : ℕ). n ≤ 1000) round rounds are) in
    let text : List ℕ = text_of_round round in
    let no_lf : Avoids 10 text = text_avoids 10 round few (omega arith) (λ e. omega (arith, e)) (λ e. omega (arith, e)) (λ e. omega (arith, e)) in
    let no_cr : Avoids 13 text = text_avoids 13 round few (omega arith) (λ e. omega (arith, e)) (λ e. omega (arith, e)) (λ e. omega (arith, e)) in
    ap (cuts (first_cut max)) (line_before round (lines_of_rounds rounds))
    ∙ line_cut max text (lines_of_rounds rounds) (omega (arith, text_short round few, wide)) no_lf (omega (arith, wide)) (kept_whole text no_cr)
    ∙ ap (λ (cs : List Cut). cut text (length text + 1) ∷ cs) later

pub texts_of_lines : (rounds : List ℕ) → texts (cuts_of_rounds rounds) ≡ map text_of_round rounds
texts_of_lines [] = refl
texts_of_lines (round ∷ rounds) = ap (λ (ts : List (List ℕ)). text_of_round round ∷ ts) (texts_of_lines rounds)
