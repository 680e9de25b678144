-- What holds of the tokens of lines.
use Rattle.std.proofs.Common.{◌≡◌, ℕ, ◌+◌, ◌<◌, ◌≤◌, ◌⊎◌, List, ◌++◌, length, take, drop, Option, None, Some, IfSome, IfNone, MatchOption, slice_range, ◌-◌, refl, sym, ap, subst, ◌∙◌, inl, inr, arith, length-take, length-append, get_or}
use Rattle.std.proofs.lemmas.List.{take-append-le, map-append, get_or-take, get_or_append_left}
use Rattle.std.proofs.lemmas.List.Sums.{sum_by-cons, sum_by-append, position_or_len_is, fails_before_first, passes_at_first, prefix_len-le-length}
use Rattle.std.proofs.lemmas.Bool.{cases_lt, false_from_ne_true}
use Rattle.memchr.specs.Find.{is_byte, IsFirstByte}
use Rattle.std.proofs.lemmas.Bool.Decides.{nat_tests}
use Rattle.std.specs.Str.Lines.{strip_carriage_return}
use Rattle.std.specs.List.{position_or_len}
use Rattle.line_splitter.specs.Cuts.{Cut, cut, used_by, IsCutRule}
use Rattle.line_splitter.specs.LineTokens.{is_line_feed, line_end, first_cut, line_cuts, tokens, used, HasNoToken, BeginsWith, KeepsTokens}
use Rattle.line_splitter.proofs.CutLemmas.{option_tells, cuts-none, cuts-some, used_by-cuts, cuts-append, rule_used, rule_within}

-- the first max + 1 bytes
abbrev pub window : ℕ → List ℕ → List ℕ
window max b = take (max + 1) b

pub line_end-le : (max : ℕ) (b : List ℕ) → line_end max b ≤ length (window max b)
unfolding line_end
line_end-le max b = prefix_len-le-length _ (window max b)

-- an LF among the first max + 1 bytes
pub first_cut-line : (max : ℕ) (b : List ℕ) → line_end max b < length (window max b) → first_cut max b ≡ Some (cut (strip_carriage_return (take (line_end max b) b)) (line_end max b + 1))
unfolding first_cut
first_cut-line max b found = grind (arith, nat_tests)

-- no LF there, and more than max bytes
pub first_cut-long : (max : ℕ) (b : List ℕ) → length (window max b) ≤ line_end max b → max < length b → first_cut max b ≡ Some (cut (take max b) max)
unfolding first_cut
first_cut-long max b missing long = grind (arith, nat_tests)

pub first_cut-none : (max : ℕ) (b : List ℕ) → length (window max b) ≤ line_end max b → length b ≤ max → first_cut max b ≡ None
unfolding first_cut
first_cut-none max b missing short = grind (arith, nat_tests)

-- the three forms of the first cut
pub first_cut_tells : (max : ℕ) (b : List ℕ)
    → ((line_end max b < length (window max b)) × (first_cut max b ≡ Some (cut (strip_carriage_return (take (line_end max b) b)) (line_end max b + 1))))
    ⊎ (((length (window max b) ≤ line_end max b) × (max < length b) × (first_cut max b ≡ Some (cut (take max b) max)))
    ⊎ (first_cut max b ≡ None))
first_cut_tells max b =
    elim (cases_lt (line_end max b) (length (window max b))) [
      | inl found ↦ inl (found, first_cut-line max b found)
      | inr missing ↦ elim (cases_lt max (length b)) [
        | inl long ↦ inr (inl (missing, long, first_cut-long max b missing long))
        | inr short ↦ inr (inr (first_cut-none max b missing short))
      ]
    ]

-- a byte among the first max + 1 stays
window-get_or : (max : ℕ) (b more : List ℕ) (k : ℕ) → k < length (window max b) → get_or (window max (b ++ more)) k 0 ≡ get_or (window max b) k 0
window-get_or max b more k within =
    let bounds = length-take (max + 1) b in
    let early : k < max + 1 = omega arith in
    let inside : k < length b = omega arith in
    rw (get_or-take (max + 1) (b ++ more) k 0 early, get_or-take (max + 1) b k 0 early) (get_or_append_left b more 0 k inside)

-- an LF that is found stays the first
pub line_end-append : (max : ℕ) (b more : List ℕ) → line_end max b < length (window max b) → line_end max (b ++ more) ≡ line_end max b
unfolding line_end
line_end-append max b more found =
    position_or_len_is is_line_feed (window max (b ++ more)) (line_end max b) 0
    (omega (arith, length-take (max + 1) b, length-take (max + 1) (b ++ more), length-append b more))
    (λ k before. let within : k < length (window max b) = omega arith in rw (window-get_or max b more k within) (fails_before_first is_line_feed (window max b) k 0 before))
    (λ _. rw (window-get_or max b more (line_end max b) found) (passes_at_first is_line_feed (window max b) 0 found))

-- the first max + 1 bytes of more than max stay
window-append : (max : ℕ) (b more : List ℕ) → max < length b → window max (b ++ more) ≡ window max b
window-append max b more long = let within : max + 1 ≤ length b = omega arith in rw take-append-le refl

-- with more than max bytes no LF comes among the first max + 1
line_end-append_long : (max : ℕ) (b more : List ℕ) → max < length b → line_end max (b ++ more) ≡ line_end max b
unfolding line_end
line_end-append_long max b more long = ap (position_or_len is_line_feed) (window-append max b more long)

first_cut-append_line : (max : ℕ) (b more : List ℕ) → line_end max b < length (window max b) → first_cut max (b ++ more) ≡ Some (cut (strip_carriage_return (take (line_end max b) b)) (line_end max b + 1))
first_cut-append_line max b more found =
    let same = line_end-append max b more found in
    let within : line_end max b ≤ length b = omega (arith, length-take (max + 1) b) in
    let still : line_end max (b ++ more) < length (window max (b ++ more)) = omega (arith, length-take (max + 1) b, length-take (max + 1) (b ++ more), length-append b more) in
    first_cut-line max (b ++ more) still ∙ rw (same, take-append-le (line_end max b) b more within) refl

first_cut-append_long : (max : ℕ) (b more : List ℕ) → length (window max b) ≤ line_end max b → max < length b → first_cut max (b ++ more) ≡ Some (cut (take max b) max)
first_cut-append_long max b more missing long =
    let within : max ≤ length b = omega arith in
    let still : length (window max (b ++ more)) ≤ line_end max (b ++ more) = rw (window-append max b more long, line_end-append_long max b more long) missing in
    first_cut-long max (b ++ more) still (omega (arith, length-append b more)) ∙ rw (take-append-le max b more within) refl

pub first_cut-is_rule : (max : ℕ) → 1 ≤ max → IsCutRule (first_cut max)
first_cut-is_rule max some = record {
  some_used = λ b. elim (first_cut_tells max b) [
    | inl line ↦ rw line.1 (omega arith)
    | inr other ↦ elim other [ inl long ↦ rw long.2 some | inr none ↦ rw none tt ]
  ];
  within = λ b. elim (first_cut_tells max b) [
    | inl line ↦ rw line.1 (omega (arith, length-take (max + 1) b))
    | inr other ↦ elim other [ inl long ↦ rw long.2 (omega arith) | inr none ↦ rw none tt ]
  ];
  lasting = λ b more. elim (first_cut_tells max b) [
    | inl line ↦ rw line.1 (first_cut-append_line max b more line.0)
    | inr other ↦ elim other [ inl long ↦ rw long.2 (first_cut-append_long max b more long.0 long.1) | inr none ↦ rw none tt ]
  ];
}

-- no first cut, no token
pub line_cuts-none : (max : ℕ) (b : List ℕ) → first_cut max b ≡ None → HasNoToken max b
unfolding tokens used
line_cuts-none max b is =
    let none = cuts-none (first_cut max) b is in
    record { no_cuts = none; no_tokens = rw none refl; none_used = rw none refl }

-- the first cut, and what follows it
pub line_cuts-some : (max : ℕ) → 1 ≤ max → (b : List ℕ) (c : Cut) → first_cut max b ≡ Some c → BeginsWith max b c
unfolding tokens used
line_cuts-some max some b c is =
    let rule = first_cut-is_rule max some in
    let follow = cuts-some (first_cut max) rule b c is in
    record {
      some_used = rule_used (first_cut max) rule b c is;
      within = rule_within (first_cut max) rule b c is;
      cuts_follow = follow;
      tokens_follow = rw follow refl;
      used_follow = rw follow (sum_by-cons (λ (c : Cut). c.used) c (line_cuts max (drop c.used b)));
    }

-- both, as one law
pub line_cuts_law : (max : ℕ) → 1 ≤ max → (b : List ℕ) → MatchOption (first_cut max b) (HasNoToken max b) (BeginsWith max b)
line_cuts_law max some b =
    elim (option_tells (first_cut max b)) [
      | inl is ↦ subst (λ (o : Option Cut). MatchOption o (HasNoToken max b) (BeginsWith max b)) (sym is) (line_cuts-none max b is)
      | inr found ↦ subst (λ (o : Option Cut). MatchOption o (HasNoToken max b) (BeginsWith max b)) (sym found.1) (line_cuts-some max some b found.0 found.1)
    ]

-- more bytes behind
pub line_cuts-append : (max : ℕ) → 1 ≤ max → (b more : List ℕ) → KeepsTokens max b more
unfolding tokens used
line_cuts-append max some b more =
    let rule = first_cut-is_rule max some in
    let kept = cuts-append (first_cut max) rule b more in
    let rest : List Cut = line_cuts max (drop (used_by (line_cuts max b)) b ++ more) in
    record {
      within = used_by-cuts (first_cut max) rule b;
      cuts_kept = kept;
      tokens_kept = rw kept (map-append (λ (c : Cut). c.text) (line_cuts max b) rest);
      used_kept = rw kept (sum_by-append (λ (c : Cut). c.used) (line_cuts max b) rest);
      used_grows = rw (kept, sum_by-append (λ (c : Cut). c.used) (line_cuts max b) rest) (omega arith);
    }

-- where a search for LF finds one, and where it finds none
pub search_tells : (b : List ℕ) (r : Option ℕ) → IsFirstByte (is_byte 10) b r → MatchOption r (position_or_len is_line_feed b ≡ length b) (λ n. (n ≡ position_or_len is_line_feed b) × (n < length b))
search_tells b None none =
    position_or_len_is is_line_feed b (length b) 0 (omega arith)
    (λ k inside. false_from_ne_true (is_line_feed (get_or b k 0)) (none k (omega arith) inside))
    (λ past. absurd (omega arith))
search_tells b (Some n) found = (
  sym (position_or_len_is is_line_feed b n 0 (omega (arith, found.0.high))
      (λ k before. false_from_ne_true (is_line_feed (get_or b k 0)) (found.0.before k (omega arith) before))
      (λ _. found.1)),
  found.0.high,
)

-- the same of the first max + 1 bytes, in the words of `line_feed_place`
pub search-none : (max : ℕ) (b hay : List ℕ) (r : Option ℕ) → IsFirstByte (is_byte 10) hay r → hay ≡ window max b → IfNone r (line_end max b ≡ length (window max b))
unfolding line_end
search-none max b hay None found is = rw (← is) (search_tells hay None found)
search-none max b hay (Some n) found is = tt

pub search-some : (max : ℕ) (b hay : List ℕ) (r : Option ℕ) → IsFirstByte (is_byte 10) hay r → hay ≡ window max b → IfSome r (λ n. n ≡ line_end max b)
unfolding line_end
search-some max b hay None found is = tt
search-some max b hay (Some n) found is = rw (← is) ((search_tells hay (Some n) found).0)

-- the first cut in the words of `next`
pub first_cut_at : (max : ℕ) (b : List ℕ) (end to : ℕ) → end ≡ line_end max b → end < length (window max b) → take to b ≡ strip_carriage_return (take end b) → first_cut max b ≡ Some (cut (slice_range b 0 to) (end + 1))
first_cut_at max b end to is found text =
    let found_there : line_end max b < length (window max b) = omega arith in
    let whole : to - 0 ≡ to = omega arith in
    first_cut-line max b found_there ∙ rw (← is, ← text, whole) refl

pub first_cut_past : (max : ℕ) (b : List ℕ) → line_end max b ≡ length (window max b) → max < length b → first_cut max b ≡ Some (cut (slice_range b 0 max) max)
first_cut_past max b missing long =
    let whole : max - 0 ≡ max = omega arith in
    first_cut-long max b (omega arith) long ∙ rw whole refl
