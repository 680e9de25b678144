-- Tokens, one more at a time.
use Rattle.std.proofs.Common.{◌≡◌, ℕ, ◌+◌, ◌-◌, ◌<◌, ◌≤◌, List, [], ◌∷◌, ◌++◌, length, drop, refl, sym, ap, ◌∙◌, arith, append_assoc, length-drop}
use Rattle.std.specs.Prelude.{Option, slice_range}
use Rattle.std.proofs.lemmas.List.{append-nil, drop-drop, length_push, length-map, map-append}
use Rattle.std.proofs.lemmas.List.Sums.{sum_by-cons}
use Rattle.entry_model.specs.LogRecord.{LogRecord}
use Rattle.line_splitter.specs.Cuts.{Cut, cuts, texts, used_by}
use Rattle.line_splitter.specs.declared.tokens.Token.{Token}
use Rattle.multiline.specs.NextToken.{cut_of}
use Rattle.pipeline.specs.Entries.{records_of, record_with, records_behind, text_of}
use Rattle.pipeline.specs.NextToken.{IsFirstToken}
use Rattle.pipeline.specs.Tokens.{first_cut_of}
use Rattle.settings_text.specs.declared.settings.Settings.{Settings}
use Rattle.auditor.specs.Asked.{cuts_before}
use Rattle.auditor.specs.Inner.Taken.{IsFirstWithin, cuts_taken, AreTaken}
use Rattle.auditor.specs.declared.tokens.Taken.{Taken}
use Rattle.auditor.proofs.Bounds.{cut_fits, cut_passes}

pub one_record : (settings : Settings) (path : List ℕ) (n : ℕ) (body : List ℕ) → 0 < length body → records_of settings path n body ≡ record_with settings path n body ∷ []
one_record settings path n [] some = absurd (omega (arith, some))
one_record settings path n (byte ∷ more) some = refl

pub too_long : (first : List ℕ → Option Cut) (b : List ℕ) (room : ℕ) (token : Token) → IsFirstToken first b token → room < token.after → cuts_before room (cuts first b) ≡ []
too_long first b room token is long =
    ap (cuts_before room) is.begins.cuts_follow ∙ cut_passes room (cut_of b token) (cuts first (drop token.after b)) long

module _ (settings : Settings) (path : List ℕ) (before : ℕ) where
  records_push : (n k : ℕ) (tokens : List (List ℕ)) (token : List ℕ) → k ≡ n + length tokens + 1
      → records_behind settings path n (tokens ++ token ∷ []) ≡ records_behind settings path n tokens ++ records_of settings path k (text_of settings token)
  records_push n k [] token e =
      append-nil (records_of settings path (n + 1) (text_of settings token))
      ∙ ap (λ m. records_of settings path m (text_of settings token)) (omega (arith, e))
  records_push n k (first ∷ tokens) token e =
      ap (λ (rest : List LogRecord). records_of settings path (n + 1) (text_of settings first) ++ rest) (records_push (n + 1) k tokens token (omega (arith, e)))
      ∙ sym (append_assoc (records_of settings path (n + 1) (text_of settings first)) (records_behind settings path (n + 1) tokens) (records_of settings path k (text_of settings token)))

  -- the first of the tokens gave these entries, and the others stand in the rest
  pub record TakesOn (room : ℕ) (bytes : List ℕ) (at count : ℕ) (entries : List LogRecord) : Type 0 where
    pub done : List Cut
    pub left : cuts_taken settings room bytes ≡ done ++ cuts_taken settings (room - at) (drop at bytes)
    pub entries_are : entries ≡ records_behind settings path before (texts done)
    pub counted : count ≡ length done
    pub used : at ≡ used_by done
    pub few : count ≤ at
    pub in_room : at ≤ room
    pub in_bytes : at ≤ length bytes

  pub none_taken : (room : ℕ) (bytes : List ℕ) → TakesOn room bytes 0 0 []
  none_taken room bytes = record {
    done = [];
    left = let same : room ≡ room - 0 = omega arith in ap (λ n. cuts_taken settings n bytes) same;
    entries_are = refl;
    counted = refl;
    used = refl;
    few = omega arith;
    in_room = omega arith;
    in_bytes = omega arith;
  }

  pub one_taken : (room : ℕ) (bytes : List ℕ) (at count : ℕ) (entries more : List LogRecord) (token : Token)
      → IsFirstWithin (first_cut_of settings) (drop at bytes) (room - at) token
      → more ≡ entries ++ records_of settings path (before + (count + 1)) (text_of settings (slice_range (drop at bytes) token.from token.to))
      → TakesOn room bytes at count entries → TakesOn room bytes (at + token.after) (count + 1) more
  one_taken room bytes at count entries more token is grown so_far =
      let c : Cut = cut_of (drop at bytes) token in
      let begins = is.is.begins in
      let rest = drop at bytes in
      let next : cuts_taken settings (room - at) rest ≡ c ∷ cuts_taken settings (room - (at + token.after)) (drop (at + token.after) bytes) =
      ap (cuts_before (room - at)) begins.cuts_follow ∙ cut_fits (room - at) c (cuts (first_cut_of settings) (drop token.after rest)) is.fits
      ∙ ap (λ n. c ∷ cuts_before n (cuts (first_cut_of settings) (drop token.after rest))) (omega arith)
      ∙ ap (λ (b : List ℕ). c ∷ cuts_taken settings (room - (at + token.after)) b) (drop-drop token.after at bytes) in
      record {
        done = so_far.done ++ c ∷ [];
        left =
            so_far.left ∙ ap (λ (cs : List Cut). so_far.done ++ cs) next
            ∙ sym (append_assoc so_far.done (c ∷ []) (cuts_taken settings (room - (at + token.after)) (drop (at + token.after) bytes)));
        entries_are =
            grown ∙ ap (λ (es : List LogRecord). es ++ records_of settings path (before + (count + 1)) (text_of settings c.text)) so_far.entries_are
            ∙ sym (records_push before (before + (count + 1)) (texts so_far.done) c.text (omega (arith, so_far.counted, length-map so_far.done (λ (d : Cut). d.text))))
            ∙ ap (records_behind settings path before) (sym (map-append (λ (d : Cut). d.text) so_far.done (c ∷ [])));
        counted = omega (arith, so_far.counted, length_push so_far.done c);
        used = omega (arith, so_far.used, used_push so_far.done c);
        few = omega (arith, so_far.few, begins.some_used);
        in_room = omega (arith, so_far.in_room, is.fits);
        in_bytes = omega (arith, so_far.in_bytes, begins.within, length-drop at bytes);
      }
    where
      used_push : (done : List Cut) (d : Cut) → used_by (done ++ d ∷ []) ≡ used_by done + d.used
      used_push [] d = omega (arith, sum_by-cons (λ (e : Cut). e.used) d [])
      used_push (first ∷ done) d =
          omega (arith, sum_by-cons (λ (e : Cut). e.used) first (done ++ d ∷ []), sum_by-cons (λ (e : Cut). e.used) first done, used_push done d)

  pub all_taken : (room : ℕ) (bytes : List ℕ) (at count : ℕ) (entries : List LogRecord) (taken : Taken) → cuts_taken settings (room - at) (drop at bytes) ≡ []
      → taken.entries.items ≡ entries → taken.count ≡ count → taken.used ≡ at → TakesOn room bytes at count entries
      → AreTaken settings path before (cuts_taken settings room bytes) taken
  all_taken room bytes at count entries taken none its_entries its_count its_used so_far =
      let all : so_far.done ≡ cuts_taken settings room bytes = sym (so_far.left ∙ ap (λ (cs : List Cut). so_far.done ++ cs) none ∙ append-nil so_far.done) in
      record {
        entries = its_entries ∙ so_far.entries_are ∙ ap (λ (cs : List Cut). records_behind settings path before (texts cs)) all;
        count = its_count ∙ so_far.counted ∙ ap length all;
        used = its_used ∙ so_far.used ∙ ap used_by all;
      }
