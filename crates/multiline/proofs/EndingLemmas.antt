-- The first cut in the words of lines and their marks.
use Rattle.std.proofs.Common.{◌≡◌, ℕ, ◌<◌, ◌≤◌, false, List, take, Option, None, Some, sym, ◌∙◌, inl, inr, arith}
use Rattle.line_splitter.specs.Cuts.{Cut, cut}
use Rattle.multiline.specs.Cutting.{Cutting}
use Rattle.multiline.specs.Endings.{IsLineEnd, EndsAt, IsTooLong, IsCutThere}
use Rattle.multiline.specs.MultilineTokens.{judged, window, cut_before, first_cut}
use Rattle.multiline.specs.Searched.{IsSearched}
use Rattle.multiline.proofs.StopLemmas.{no_line_feed-passes, unmarked-passes, line_feed-unmarked, line_feed_or_not, ended, too_long, first_cut_tells}

-- up to a place each LF has an unmarked line, in both words
passed_from : (cutting : Cutting) (max : ℕ) (b : List ℕ) (n : ℕ) → n ≤ window max b → ((k : ℕ) → k < n → IsLineEnd max b k → judged cutting max b k ≡ Some false) → IsSearched cutting max b n
passed_from cutting max b n within unmarked = record {
  within = within;
  passed = λ k below. elim (line_feed_or_not b k) [
    | inl is ↦ unmarked-passes cutting max b k (unmarked k below (record { within = omega arith; line_feed = is }))
    | inr other ↦ no_line_feed-passes cutting max b k other
  ];
}

unmarked_from : (cutting : Cutting) (max : ℕ) (b : List ℕ) (n : ℕ) → IsSearched cutting max b n → (k : ℕ) → k < n → IsLineEnd max b k → judged cutting max b k ≡ Some false
unmarked_from cutting max b n searched k below is = line_feed-unmarked cutting max b k is.line_feed (searched.passed k below)

pub at_mark : (max : ℕ) (cutting : Cutting) (b : List ℕ) (place : ℕ) → EndsAt cutting max b place → first_cut cutting max b ≡ Some (cut_before b place)
at_mark max cutting b place ends =
    let within : place ≤ window max b = omega (arith, ends.line_end.within) in
    ended cutting max b place
    (record { searched = passed_from cutting max b place within ends.unmarked_before; within = ends.line_end.within; line_feed = ends.line_end.line_feed })
    ends.marked

pub past_max : (max : ℕ) (cutting : Cutting) (b : List ℕ) → IsTooLong cutting max b → first_cut cutting max b ≡ Some (cut (take max b) max)
past_max max cutting b is = too_long cutting max b (passed_from cutting max b (window max b) (omega arith) (λ k below line_end. is.unmarked k line_end)) is.long

same_cut : (c d : Cut) → ◌≡◌ {A = Option Cut} (Some c) (Some d) → c ≡ d
same_cut c d e = cc

not_some : (c : Cut) → ◌≡◌ {A = Option Cut} None (Some c) → ⊥
not_some c e = cc

pub only_there : (max : ℕ) (cutting : Cutting) (b : List ℕ) (c : Cut) → first_cut cutting max b ≡ Some c → IsCutThere cutting max b c
only_there max cutting b c is =
    elim (first_cut_tells cutting max b) [
      | inl end ↦ inl (
        end.place,
        record {
          line_end = record { within = end.first.within; line_feed = end.first.line_feed };
          marked = end.marked;
          unmarked_before = unmarked_from cutting max b end.place end.first.searched;
        },
        same_cut c (cut_before b end.place) (sym is ∙ end.is),
      )
      | inr other ↦ elim other [
        | inl long ↦ inr (
          record { unmarked = λ k line_end. unmarked_from cutting max b (window max b) long.searched k line_end.within line_end; long = long.long },
          same_cut c (cut (take max b) max) (sym is ∙ long.is),
        )
        | inr none ↦ absurd (not_some c (sym none ∙ is))
      ]
    ]
