-- What holds of all tokens of some bytes.
use Rattle.std.proofs.Common.{◌≡◌, ℕ, ◌+◌, ◌<◌, ◌≤◌, List, [], ◌++◌, length, drop, length-take, ◌-◌, true, Option, None, Some, MatchOption, refl, sym, ap, subst, ◌∙◌, inl, inr, arith}
use Rattle.std.proofs.lemmas.List.{map-append}
use Rattle.std.proofs.lemmas.List.Sums.{sum_by-cons, sum_by-append}
use Rattle.line_splitter.specs.Cuts.{Cut, used_by, IsCutRule}
use Rattle.line_splitter.specs.declared.tokens.Token.{Token}
use Rattle.line_splitter.proofs.CutLemmas.{option_tells, cuts-none, cuts-some, used_by-cuts, cuts-append, rule_used, rule_within}
use Rattle.multiline.specs.Cutting.{Cutting}
use Rattle.multiline.specs.MultilineTokens.{judged, window, cut_before, first_cut}
use Rattle.multiline.specs.NextToken.{cut_of, NeedsMore, IsFirstToken}
use Rattle.multiline.specs.Searched.{IsSearched}
use Rattle.multiline.specs.Stops.{IsFirstStop, IsStop}
use Rattle.multiline.specs.declared.stops.Stop.{Stop}
use Rattle.multiline.specs.declared.stops.Stop.TheVariants.{Marked, Undecided, Nowhere}
use Rattle.multiline.specs.Tokens.{multiline_cuts, HasNoToken, BeginsWith, KeepsTokens}
use Rattle.multiline.proofs.StopLemmas.{searched-append, cut_lasts, ended, undecided, too_long, too_short}

pub is_rule : (max : ℕ) → 1 ≤ max → (cutting : Cutting) → IsCutRule (first_cut cutting max)
is_rule max some cutting = record {
  some_used = λ b. elim (cut_lasts cutting max some b []) [ inl lasts ↦ rw lasts.1.is lasts.1.some_used | inr none ↦ rw none tt ];
  within = λ b. elim (cut_lasts cutting max some b []) [ inl lasts ↦ rw lasts.1.is lasts.1.within | inr none ↦ rw none tt ];
  lasting = λ b more. elim (cut_lasts cutting max some b more) [ inl lasts ↦ rw lasts.1.is lasts.1.lasting | inr none ↦ rw none tt ];
}

-- no first cut, no token
pub has_no_token : (cutting : Cutting) (max : ℕ) (b : List ℕ) → first_cut cutting max b ≡ None → HasNoToken cutting max b
has_no_token cutting max b is =
    let none = cuts-none (first_cut cutting max) b is in
    record { no_cuts = none; no_tokens = rw none refl; none_used = rw none refl }

-- the first cut, and what follows it
pub begins_with : (cutting : Cutting) (max : ℕ) → 1 ≤ max → (b : List ℕ) (c : Cut) → first_cut cutting max b ≡ Some c → BeginsWith cutting max b c
begins_with cutting max some b c is =
    let rule = is_rule max some cutting in
    let follow = cuts-some (first_cut cutting max) rule b c is in
    record {
      some_used = rule_used (first_cut cutting max) rule b c is;
      within = rule_within (first_cut cutting max) rule b c is;
      cuts_follow = follow;
      tokens_follow = rw follow refl;
      used_follow = rw follow (sum_by-cons (λ (c : Cut). c.used) c (multiline_cuts cutting max (drop c.used b)));
    }

pub begins_law : (max : ℕ) → 1 ≤ max → (cutting : Cutting) (b : List ℕ) → MatchOption (first_cut cutting max b) (HasNoToken cutting max b) (BeginsWith cutting max b)
begins_law max some cutting b =
    elim (option_tells (first_cut cutting max b)) [
      | inl is ↦ subst (λ (o : Option Cut). MatchOption o (HasNoToken cutting max b) (BeginsWith cutting max b)) (sym is) (has_no_token cutting max b is)
      | inr found ↦ subst (λ (o : Option Cut). MatchOption o (HasNoToken cutting max b) (BeginsWith cutting max b)) (sym found.1) (begins_with cutting max some b found.0 found.1)
    ]

-- more bytes behind
pub keeps_law : (max : ℕ) → 1 ≤ max → (cutting : Cutting) (b more : List ℕ) → KeepsTokens cutting max b more
keeps_law max some cutting b more =
    let rule = is_rule max some cutting in
    let kept = cuts-append (first_cut cutting max) rule b more in
    let rest : List Cut = multiline_cuts cutting max (drop (used_by (multiline_cuts cutting max b)) b ++ more) in
    record {
      within = used_by-cuts (first_cut cutting max) rule b;
      cuts_kept = kept;
      tokens_kept = rw kept (map-append (λ (c : Cut). c.text) (multiline_cuts cutting max b) rest);
      used_kept = rw kept (sum_by-append (λ (c : Cut). c.used) (multiline_cuts cutting max b) rest);
      used_grows = rw (kept, sum_by-append (λ (c : Cut). c.used) (multiline_cuts cutting max b) rest) (omega arith);
    }

-- ---- what is answered

pub at_marked : (cutting : Cutting) (max : ℕ) (b : List ℕ) (stop : Stop) (place : ℕ) → stop ≡ Marked place → IsStop cutting max b stop → IsFirstStop cutting max b place × (judged cutting max b place ≡ Some true)
at_marked cutting max b stop place is there = subst (IsStop cutting max b) is there

pub at_undecided : (cutting : Cutting) (max : ℕ) (b : List ℕ) (stop : Stop) (place : ℕ) → stop ≡ Undecided place → IsStop cutting max b stop → IsFirstStop cutting max b place × (judged cutting max b place ≡ None)
at_undecided cutting max b stop place is there = subst (IsStop cutting max b) is there

pub at_none : (cutting : Cutting) (max : ℕ) (b : List ℕ) (stop : Stop) → stop ≡ Nowhere → IsStop cutting max b stop → IsSearched cutting max b (window max b)
at_none cutting max b stop is there = subst (IsStop cutting max b) is there

-- what was searched of bytes that are too few
pub short_searched : (cutting : Cutting) (max : ℕ) → 1 ≤ max → (b more : List ℕ) → IsSearched cutting max b (window max b) → length b ≤ max → IsSearched cutting max (b ++ more) (length b)
short_searched cutting max some b more searched short =
    let all : window max b ≡ length b = omega (arith, length-take (max + 1) b) in
    searched-append cutting max some b more (length b) (subst (IsSearched cutting max b) all searched)

needs_more : (cutting : Cutting) (max : ℕ) (b : List ℕ) → first_cut cutting max b ≡ None → NeedsMore cutting max b
needs_more cutting max b none = record { none = none; ends = has_no_token cutting max b none }

pub next_undecided : (cutting : Cutting) (max : ℕ) (b : List ℕ) (place : ℕ) → IsFirstStop cutting max b place → judged cutting max b place ≡ None → NeedsMore cutting max b
next_undecided cutting max b place first pending = needs_more cutting max b (undecided cutting max b place first pending)

pub next_short : (cutting : Cutting) (max : ℕ) (b : List ℕ) → IsSearched cutting max b (window max b) → length b ≤ max → NeedsMore cutting max b
next_short cutting max b searched short = needs_more cutting max b (too_short cutting max b searched short)

first_token : (cutting : Cutting) (max : ℕ) → 1 ≤ max → (b : List ℕ) (token : Token) → first_cut cutting max b ≡ Some (cut_of b token) → token.from ≡ 0 → token.to ≤ token.after → IsFirstToken cutting max b token
first_token cutting max some b token first from to =
    let begins = begins_with cutting max some b (cut_of b token) first in
    record { first = first; from = from; to = to; taken = begins.some_used; after = begins.within; begins = begins }

pub next_ended : (cutting : Cutting) (max : ℕ) → 1 ≤ max → (b : List ℕ) (place : ℕ) → IsFirstStop cutting max b place → judged cutting max b place ≡ Some true
    → (token : Token) → cut_of b token ≡ cut_before b place → token.from ≡ 0 → token.to ≤ place → token.after ≡ place + 1 → IsFirstToken cutting max b token
next_ended cutting max some b place first marked token is from to after =
    first_token cutting max some b token (ended cutting max b place first marked ∙ ap Some (sym is)) from (omega arith)

pub next_long : (cutting : Cutting) (max : ℕ) → 1 ≤ max → (b : List ℕ) → IsSearched cutting max b (window max b) → max < length b → IsFirstToken cutting max b (record { from = 0; to = max; after = max })
next_long cutting max some b searched long =
    let whole : max - 0 ≡ max = omega arith in
    first_token cutting max some b (record { from = 0; to = max; after = max }) (too_long cutting max b searched long ∙ rw whole refl) refl (omega arith)
