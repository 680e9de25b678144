-- Going over the bytes of a word.
use Rattle.std.proofs.Common.{◌≡◌, ℕ, suc, ◌+◌, ◌-◌, ◌<◌, ◌≤◌, ◌⊎◌, inl, inr, min, List, [], ◌∷◌, ◌++◌, ◌∙◌, ap, sym, refl, Option, None, Some, Err, Bool, true, false, length, take, drop, get_or, nat_lt, append_assoc, length-append, arith, ltb-true, ltb-false}
use Rattle.std.proofs.lemmas.List.{append-nil, drop_more, take-append-drop, length-drop, length-take}
use Rattle.std.proofs.lemmas.List.Sums.{prefix_len-le-length, prefix_len_stops}
use Rattle.std.specs.List.{list_all, prefix_len}
use Rattle.syslog_parser.specs.Machines.{outcome}
use Rattle.syslog_parser.specs.Inner.Reads.{HasNoWord}
use Rattle.syslog_parser.proofs.Running.{outcome_goes, outcome_stops, outcome_unfinished}
use Rattle.syslog_parser.proofs.Words.{both, all_taken_short}

module _ {State V : Type 0} (step : State → ℕ → Option State) (value_at : State → Option V) where
  -- the states of a word: bytes of the kind go on, up to so many
  pub record InWord (f : List ℕ → State) (kind : ℕ → Bool) (most : ℕ) : Type 0 where
    pub goes : (own : List ℕ) (byte : ℕ) → kind byte ≡ true → length own < most → step (f own) byte ≡ Some (f (own ++ byte ∷ []))

  -- any other byte stops, but one that ends a word that has begun
  pub record StopsInWord (f : List ℕ → State) (kind : ℕ → Bool) (most : ℕ) (ends : ℕ → Bool) : Type 0 where
    pub stops : (own : List ℕ) (byte : ℕ) → (kind byte ≡ false) ⊎ (most ≤ length own) → (own ≡ []) ⊎ (ends byte ≡ false) → step (f own) byte ≡ None
    pub unfinished : (own : List ℕ) → value_at (f own) ≡ None

  module _ (f : List ℕ → State) (kind : ℕ → Bool) (most : ℕ) (word : InWord f kind most) where
    pub run_over : (own rest acc : List ℕ) → list_all kind own ≡ true → length acc + length own ≤ most
        → outcome step value_at (f acc) (own ++ rest) ≡ outcome step value_at (f (acc ++ own)) rest
    run_over [] rest acc a l = ap (λ (l : List ℕ). outcome step value_at (f l) rest) (sym (append-nil acc))
    run_over (byte ∷ own) rest acc a l =
        let b = both (kind byte) (list_all kind own) a in
        let more : length (acc ++ byte ∷ []) ≡ length acc + 1 = length-append acc (byte ∷ []) in
        let here : length acc < most = omega arith in
        let there : length (acc ++ byte ∷ []) + length own ≤ most = omega arith in
        outcome_goes step value_at (f acc) (f (acc ++ byte ∷ [])) byte (own ++ rest) (word.goes acc byte b.0 here)
        ∙ run_over own rest (acc ++ byte ∷ []) b.1 there
        ∙ ap (λ (l : List ℕ). outcome step value_at (f l) rest) (append_assoc acc (byte ∷ []) own)

    pub word_over : (own rest : List ℕ) → list_all kind own ≡ true → length own ≤ most
        → outcome step value_at (f []) (own ++ rest) ≡ outcome step value_at (f own) rest
    word_over own rest a l = run_over own rest [] a (omega arith)

    module _ (ends : ℕ → Bool) (stopping : StopsInWord f kind most ends) where
      stuck_in : (own rest : List ℕ) → ((byte : ℕ) (more : List ℕ) → rest ≡ byte ∷ more → step (f own) byte ≡ None)
          → outcome step value_at (f own) rest ≡ Err (length rest)
      stuck_in own [] s = outcome_unfinished step value_at (f own) (stopping.unfinished own)
      stuck_in own (byte ∷ more) s = outcome_stops step value_at (f own) byte more (s byte more refl)

      -- where no word stands the machine stops
      pub word_stops : (text : List ℕ) (left : ℕ) → 1 ≤ most → HasNoWord kind most ends text left → outcome step value_at (f []) text ≡ Err left
      word_stops text left some found =
          let at : ℕ = found.at in
          let at_is = found.at_is in
          let run = prefix_len-le-length kind text in
          let within : at ≤ length text = omega arith in
          let few : at ≤ prefix_len kind text = omega arith in
          let own : List ℕ = take at text in
          let len : length own ≡ at = let t : length (take at text) ≡ min at (length text) = length-take at text in omega arith in
          let short : length own ≤ most = omega arith in
          let back : text ≡ own ++ drop at text = sym (take-append-drop at text) in
          let rest : length (drop at text) ≡ left = let d : length (drop at text) ≡ length text - at = length-drop at text in let l = found.left_is in omega arith in
          ap (λ (l : List ℕ). outcome step value_at (f []) l) back
          ∙ word_over own (drop at text) (all_taken_short kind text at few) short
          ∙ stuck_in own (drop at text) (λ byte more e. stopping.stops own byte (full byte more e) (begun byte more e))
          ∙ ap (λ (n : ℕ). Err n) rest
        where
          inside : (byte : ℕ) (more : List ℕ) → drop found.at text ≡ byte ∷ more → found.at < length text
          inside byte more e =
              let len : length (drop found.at text) ≡ length text - found.at = length-drop found.at text in
              let some : length (drop found.at text) ≡ suc (length more) = ap length e in
              omega arith

          here : (byte : ℕ) (more : List ℕ) → drop found.at text ≡ byte ∷ more → get_or text found.at 0 ≡ byte
          here byte more e = let d = drop_more text found.at 0 (inside byte more e) in let same = sym d ∙ e in cc same

          own_length : found.at ≤ length text → length (take found.at text) ≡ found.at
          own_length l = let t : length (take found.at text) ≡ min found.at (length text) = length-take found.at text in omega arith

          full : (byte : ℕ) (more : List ℕ) → drop found.at text ≡ byte ∷ more → (kind byte ≡ false) ⊎ (most ≤ length (take found.at text))
          full byte more e = by (nat_lt (prefix_len kind text) most) refl
            where
              in_text : found.at < length text
              in_text = inside byte more e

              by : (b : Bool) → nat_lt (prefix_len kind text) most ≡ b → (kind byte ≡ false) ⊎ (most ≤ length (take found.at text))
              by true l =
                  let less = ltb-true (prefix_len kind text) most l in
                  let at_is = found.at_is in
                  let same : found.at ≡ prefix_len kind text = omega arith in
                  let short : prefix_len kind text < length text = let i = in_text in omega arith in
                  inl (ap kind (sym (here byte more e)) ∙ ap (λ (n : ℕ). kind (get_or text n 0)) same ∙ prefix_len_stops kind text 0 short)
              by false l =
                  let at_least = ltb-false (prefix_len kind text) most l in
                  let at_is = found.at_is in
                  let i = in_text in
                  let len = own_length (omega arith) in
                  inr (omega arith)

          begun : (byte : ℕ) (more : List ℕ) → drop found.at text ≡ byte ∷ more → (take found.at text ≡ []) ⊎ (ends byte ≡ false)
          begun byte more e = by found.unended
            where
              by : (found.at ≡ 0) ⊎ (found.at < length text → ends (get_or text found.at 0) ≡ false) → (take found.at text ≡ []) ⊎ (ends byte ≡ false)
              by (inl none) = inl (ap (λ (n : ℕ). take n text) none)
              by (inr other) = inr (ap ends (sym (here byte more e)) ∙ other (inside byte more e))
