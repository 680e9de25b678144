-- The steps of reading keys and values, with the delimiters apart.
use Rattle.std.proofs.Common.{◌≡◌, ◌≢◌, ℕ, ◌+◌, ◌<◌, List, [], ◌∷◌, ◌∙◌, ap, sym, subst, refl, take, drop, None}
use Rattle.entry_model.specs.Datum.{members_of}
use Rattle.entry_model.specs.Seen.{seen}
use Rattle.entry_model.specs.declared.value.Value.{Value}
use Rattle.json_text.specs.Grammar.{Member}
use Rattle.text_parsers.specs.declared.fault.ParseFault.{ParseFault}
use Rattle.text_parsers.specs.declared.fault.ParseFault.TheVariants.{NoDelimiter}
use Rattle.text_parsers.specs.Cuts.{Delimiter, delimiter_len, IsUncut, IsFirstCut}
use Rattle.text_parsers.specs.Pairs.{Delimiters, TakesPiece, IsFirstFault, IsPairsText, IsPairsFault}
use Rattle.text_parsers.specs.Pieces.{piece, filled}
use Rattle.text_parsers.specs.Quotes.{open_quote}
use Rattle.text_parsers.proofs.Taking.{ReadTo, one_piece_more, piece_is_faulty, last_is_faulty, text_is_pairs, text_has_no_pairs}

abbrev both : Delimiter → Delimiter → Delimiters
both within between = record { within = within; between = between }

nothing_seen : (entries : List (List ℕ × Value)) → seen entries ≡ [] → entries ≡ []
nothing_seen [] e = refl
nothing_seen (entry ∷ entries) e = absurd (cc e)

module _ (ds : Delimiters) (within between : Delimiter) (same : both within between ≡ ds) (front rest : List ℕ) (at : ℕ) (members : List Member) (read : ReadTo ds front at rest members) where
  within_is : within ≡ ds.within
  within_is = ap (λ (d : Delimiters). d.within) same

  between_is : between ≡ ds.between
  between_is = ap (λ (d : Delimiters). d.between) same

  module _ (k : ℕ) (first : IsFirstCut between rest k) (raw : List ℕ) (is : raw ≡ take k rest) where
    cut_there : IsFirstCut ds.between rest k
    cut_there = subst (λ (d : Delimiter). IsFirstCut d rest k) between_is first

    pub fault_in_piece : open_quote front ≡ None → (fault : ParseFault) → 0 < delimiter_len between → IsFirstFault within (filled (piece at raw ∷ [])) fault → IsPairsFault ds front fault
    fault_in_piece closed fault some f =
        piece_is_faulty ds front rest at members read closed k fault (subst (λ (d : Delimiter). 0 < delimiter_len d) between_is some) cut_there
        (subst (λ (l : List ℕ). IsFirstFault ds.within (filled (piece at l ∷ [])) fault) is (subst (λ (d : Delimiter). IsFirstFault d (filled (piece at raw ∷ [])) fault) within_is f))

    pub read_more : (new : List Member) → TakesPiece within (piece at raw) members new → (len : ℕ) → len ≡ delimiter_len between → (behind : List ℕ) → behind ≡ drop (k + len) rest
        → ReadTo ds front (at + (k + len)) behind new
    read_more new t len len_is behind behind_is =
        let there = subst (λ (l : List ℕ). TakesPiece ds.within (piece at l) members new) is (subst (λ (d : Delimiter). TakesPiece d (piece at raw) members new) within_is t) in
        let step = one_piece_more ds front rest at members read k new cut_there there in
        let length_is : delimiter_len ds.between ≡ len = sym (len_is ∙ ap delimiter_len between_is) in
        subst (λ (l : List ℕ). ReadTo ds front (at + (k + len)) l new) (sym behind_is) (subst (λ n. ReadTo ds front (at + (k + n)) (drop (k + n) rest) new) length_is step)

  module _ (u : IsUncut between rest) (closed : open_quote front ≡ None) where
    uncut_there : IsUncut ds.between rest
    uncut_there = subst (λ (d : Delimiter). IsUncut d rest) between_is u

    pub fault_at_end : (fault : ParseFault) → IsFirstFault within (filled (piece at rest ∷ [])) fault → IsPairsFault ds front fault
    fault_at_end fault f = last_is_faulty ds front rest at members read closed fault uncut_there (subst (λ (d : Delimiter). IsFirstFault d (filled (piece at rest ∷ [])) fault) within_is f)

    module _ (new : List (List ℕ × Value)) (t : TakesPiece within (piece at rest) members (seen new)) where
      taken_there : TakesPiece ds.within (piece at rest) members (seen new)
      taken_there = subst (λ (d : Delimiter). TakesPiece d (piece at rest) members (seen new)) within_is t

      pub none_at_all : new ≡ [] → IsPairsFault ds front (NoDelimiter 0)
      none_at_all e = text_has_no_pairs ds front rest at members read closed (seen new) uncut_there taken_there (ap seen e)

      pub all_pairs : new ≢ [] → IsPairsText ds (members_of (seen new)) front
      all_pairs some = text_is_pairs ds front rest at members read closed (seen new) uncut_there taken_there (λ e. some (nothing_seen new e))
