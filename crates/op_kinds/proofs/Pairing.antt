-- What texts of keys and values say, by the grammar of text_parsers and computed.
use Rattle.std.proofs.Common.{◌≡◌, ◌≢◌, ℕ, zero, suc, ◌+◌, ◌<◌, ◌≤◌, ◌⊎◌, inl, inr, List, [], ◌∷◌, length, take, drop, get_or, ◌-◌, ◌==◌, eqb-true, Bool, true, false, true≢false, Option, None, Some, arith, rules, refl, sym, ap, subst, ◌∙◌, length-drop}
use Rattle.std.proofs.lemmas.Bool.{cases_lt, ltb-true, lt-ltb}
use Rattle.std.proofs.lemmas.List.{take_all}
use Rattle.std.specs.Prelude.{nat_lt, ◌&&◌, is_none, if◌then◌else◌}
use Rattle.entry_model.specs.Datum.{Datum, null, boolean, int, text, list, fields, Members, members_of}
use Rattle.json_text.specs.Grammar.{Member, put_all}
use Rattle.op_kinds.specs.Said.{as_pairs, said, first_from, stands, first_cut, cut_at, pieces_by, pieces_in, with_key, pair_at, and_pairs, pairs_of, members_by_pairs, of_pieces, if_closed, pairs_in}
use Rattle.op_kinds.specs.Faults.{of_parse_fault}
use Rattle.op_kinds.specs.declared.row.RowFault.TheVariants as row
use Rattle.text_parsers.specs.Cuts.{Delimiter, delimiter_len, begins_with, StandsAt, IsUncut, IsFirstCut}
use Rattle.text_parsers.specs.Pairs.{Delimiters, IsPair, ArePairs, no_pairs, one_pair, cleaned, no_delimiter, no_key, IsFirstFault, here, behind, IsCutInto, IsPairsText, IsPairsFault, unclosed, no_pieces, no_pair, no_memory}
use Rattle.text_parsers.specs.Pieces.{Piece, piece, ArePieces, uncut, cut, filled}
use Rattle.settings_text.specs.Types.KeyValueParsing.{KeepsLimits}
use Rattle.text_parsers.proofs.Quoting.{open_quote-more}
use Rattle.text_parsers.specs.Quotes.{is_quote, open_behind, open_quote, IsUnclosed}
use Rattle.text_parsers.specs.TextValue.{IsTextWith, IsValueFault}
use Rattle.text_parsers.specs.declared.fault.ParseFault.{ParseFault}

-- ---- the first place that passes

record IsFirst (test : ℕ → Bool) (from limit k : ℕ) : Type 0 where
  above : from ≤ k
  below : k < limit
  passes : test k ≡ true
  none_before : (j : ℕ) → from ≤ j → j < k → test j ≡ false

next_or_here : (from j : ℕ) → from ≤ j → (from ≡ j) ⊎ (from + 1 ≤ j)
next_or_here from j le = elim (cases_lt from j) [ inl less ↦ inr (omega (arith, less)) | inr not_less ↦ inl (omega (arith, le, not_less)) ]

first_is : (test : ℕ → Bool) (count from k : ℕ) → first_from test count from ≡ Some k → IsFirst test from (from + count) k
first_is test zero from k e = absurd (search (rules, e))
first_is test (suc count) from k e = by (test from) refl (first_is test count (from + 1) k) e
  where
    by : (b : Bool) → test from ≡ b → (first_from test count (from + 1) ≡ Some k → IsFirst test (from + 1) (from + 1 + count) k) → (if b then Some from else first_from test count (from + 1)) ≡ Some k → IsFirst test from (from + suc count) k
    by true is rest found =
        let same : from ≡ k = cc found in
        record { above = omega (arith, same); below = omega (arith, same); passes = subst (λ n. test n ≡ true) same is; none_before = λ j le lt. absurd (omega (arith, same, le, lt)) }
    by false is rest found =
        let later = rest found in
        record {
          above = omega (arith, later.above);
          below = omega (arith, later.below);
          passes = later.passes;
          none_before = λ j le lt. elim (next_or_here from j le) [ inl same ↦ subst (λ n. test n ≡ false) same is | inr above ↦ later.none_before j above lt ];
        }

none_is : (test : ℕ → Bool) (count from : ℕ) → first_from test count from ≡ None → (j : ℕ) → from ≤ j → j < from + count → test j ≡ false
none_is test zero from e j le lt = absurd (omega (arith, le, lt))
none_is test (suc count) from e j le lt = by (test from) refl (none_is test count (from + 1)) e
  where
    by : (b : Bool) → test from ≡ b → (first_from test count (from + 1) ≡ None → (j : ℕ) → from + 1 ≤ j → j < from + 1 + count → test j ≡ false) → (if b then Some from else first_from test count (from + 1)) ≡ None → test j ≡ false
    by true is rest none = absurd (search (rules, none))
    by false is rest none = elim (next_or_here from j le) [ inl same ↦ subst (λ n. test n ≡ false) same is | inr above ↦ rest none j above (omega (arith, lt)) ]

-- ---- cuts

both_true : (a b : Bool) → (a && b) ≡ true → (a ≡ true) × (b ≡ true)
both_true true true e = (refl, refl)
both_true true false e = absurd (true≢false (sym e))
both_true false b e = absurd (true≢false (sym e))

is_nothing : (quote : Option ℕ) → is_none quote ≡ true → quote ≡ None
is_nothing None e = refl
is_nothing (Some quote) e = absurd (true≢false (sym e))

it_stands : (d : Delimiter) (bytes : List ℕ) (at : ℕ) → stands d bytes at ≡ true → StandsAt d bytes at
it_stands d bytes at e =
    let outer = both_true (nat_lt at (length bytes)) (is_none (open_quote (take at bytes)) && begins_with d (drop at bytes)) e in
    let inner = both_true (is_none (open_quote (take at bytes))) (begins_with d (drop at bytes)) outer.1 in
    record { inside = ltb-true at (length bytes) outer.0; outside = is_nothing (open_quote (take at bytes)) inner.0; begins = inner.1 }

test_of : (d : Delimiter) (bytes : List ℕ) (at : ℕ) → StandsAt d bytes at → stands d bytes at ≡ true
test_of d bytes at is = rw (lt-ltb at (length bytes) is.inside, is.outside, is.begins) refl

cut_found : (d : Delimiter) (bytes : List ℕ) (k : ℕ) → first_cut d bytes ≡ Some k → IsFirstCut d bytes k
unfolding first_cut
cut_found d bytes k e =
    let found = first_is (stands d bytes) (length bytes) 0 k e in
    record {
      stands = it_stands d bytes k found.passes;
      first = λ j lt other. true≢false (sym (test_of d bytes j other) ∙ found.none_before j (omega arith) lt);
    }

none_found : (d : Delimiter) (bytes : List ℕ) → first_cut d bytes ≡ None → IsUncut d bytes
unfolding first_cut
none_found d bytes e k is = true≢false (sym (test_of d bytes k is) ∙ none_is (stands d bytes) (length bytes) 0 e k (omega arith) (omega (arith, is.inside)))

one_cut : (d : Delimiter) (bytes : List ℕ) (j k : ℕ) → IsFirstCut d bytes j → IsFirstCut d bytes k → j ≡ k
one_cut d bytes j k a b = elim (cases_lt j k) [
  | inl less ↦ absurd (b.first j less a.stands)
  | inr not_less ↦ elim (cases_lt k j) [ inl more ↦ absurd (a.first k more b.stands) | inr not_more ↦ omega (arith, not_less, not_more) ]
]

is_cut : (d : Delimiter) (bytes : List ℕ) (k : ℕ) → IsFirstCut d bytes k → first_cut d bytes ≡ Some k
is_cut d bytes k is = by (first_cut d bytes) refl
  where
    by : (found : Option ℕ) → first_cut d bytes ≡ found → found ≡ Some k
    by None e = absurd (none_found d bytes e k is.stands)
    by (Some j) e = let same : j ≡ k = one_cut d bytes j k (cut_found d bytes j e) is in ap (λ n. Some n) same

is_uncut : (d : Delimiter) (bytes : List ℕ) → IsUncut d bytes → first_cut d bytes ≡ None
is_uncut d bytes is = by (first_cut d bytes) refl
  where
    by : (found : Option ℕ) → first_cut d bytes ≡ found → found ≡ None
    by None e = refl
    by (Some j) e = absurd (is j (cut_found d bytes j e).stands)

-- ---- pieces

pieces_are : (d : Delimiter) → 0 < delimiter_len d → (count at : ℕ) (bytes : List ℕ) → length bytes ≤ count → ArePieces d at bytes (pieces_by count d at bytes)
pieces_are d some zero at bytes few = uncut (λ k is. omega (arith, is.inside, few))
pieces_are d some (suc count) at bytes few = by (first_cut d bytes) refl (pieces_are d some count)
  where
    by : (found : Option ℕ) → first_cut d bytes ≡ found → ((at : ℕ) (rest : List ℕ) → length rest ≤ count → ArePieces d at rest (pieces_by count d at rest)) → ArePieces d at bytes (cut_at found d at bytes (pieces_by count d))
    by None e others = uncut (none_found d bytes e)
    by (Some k) e others =
        let there = cut_found d bytes k e in
        cut there (others (at + (k + delimiter_len d)) (drop (k + delimiter_len d) bytes) (omega (arith, length-drop (k + delimiter_len d) bytes, there.stands.inside, some, few)))

same_pieces : (d : Delimiter) → 0 < delimiter_len d → (count at : ℕ) (bytes : List ℕ) (pieces : List Piece) → length bytes ≤ count → ArePieces d at bytes pieces → pieces_by count d at bytes ≡ pieces
same_pieces d some zero at bytes pieces few (uncut u) = refl
same_pieces d some zero at bytes pieces few (cut f r) = absurd (omega (arith, f.stands.inside, few))
same_pieces d some (suc count) at bytes pieces few (uncut u) = ap (λ found. cut_at found d at bytes (pieces_by count d)) (is_uncut d bytes u)
same_pieces d some (suc count) at bytes pieces few (cut {k = k} {pieces = more} f r) =
    ap (λ found. cut_at found d at bytes (pieces_by count d)) (is_cut d bytes k f)
    ∙ ap (λ (l : List Piece). piece at (take k bytes) ∷ l)
    (same_pieces d some count (at + (k + delimiter_len d)) (drop (k + delimiter_len d) bytes) more (omega (arith, length-drop (k + delimiter_len d) bytes, f.stands.inside, some, few)) r)

-- ---- pairs

key_is : (key value : List ℕ) → key ≢ [] → with_key key value ≡ Some (key, text value)
key_is [] value some = absurd (some refl)
key_is (byte ∷ key) value some = refl

pair_is : (within : Delimiter) (bytes key value : List ℕ) → IsPair within bytes key value → pair_at (first_cut within bytes) within bytes ≡ Some (key, text value)
pair_is within bytes key value is =
    ap (λ found. pair_at found within bytes) (is_cut within bytes is.at is.first)
    ∙ ap (λ k. with_key k (cleaned (drop (is.at + delimiter_len within) bytes))) (sym is.key_is)
    ∙ ap (with_key key) (sym is.value_is)
    ∙ key_is key value is.named

pairs_are : (within : Delimiter) (pieces : List Piece) (pairs : List Member) → ArePairs within pieces pairs → pairs_of within pieces ≡ Some pairs
pairs_are within [] [] no_pairs = refl
pairs_are within [] (pair ∷ pairs) is = elim is [ ]
pairs_are within (one ∷ pieces) [] is = elim is [ ]
pairs_are within (one ∷ pieces) (pair ∷ pairs) (one_pair {key = key} {value = value} p others) =
    ap (λ first. and_pairs first (pairs_of within pieces)) (pair_is within one.bytes key value p) ∙ ap (and_pairs (Some (key, text value))) (pairs_are within pieces pairs others)

pair_from : (within : Delimiter) (bytes : List ℕ) (pair : Member) → pair_at (first_cut within bytes) within bytes ≡ Some pair → (value : List ℕ) × (pair ≡ (pair.0, text value)) × IsPair within bytes pair.0 value
pair_from within bytes pair e = by (first_cut within bytes) refl e
  where
    named : (k : ℕ) → IsFirstCut within bytes k → (key : List ℕ) → cleaned (take k bytes) ≡ key → with_key key (cleaned (drop (k + delimiter_len within) bytes)) ≡ Some pair → (value : List ℕ) × (pair ≡ (pair.0, text value)) × IsPair within bytes pair.0 value
    named k first [] is says = absurd (search (rules, says))
    named k first (byte ∷ key) is says =
        let value = cleaned (drop (k + delimiter_len within) bytes) in
        let same : (byte ∷ key, text value) ≡ pair = cc says in
        subst (λ (m : Member). (value : List ℕ) × (m ≡ (m.0, text value)) × IsPair within bytes m.0 value) same
        (value, refl, record { at = k; first = first; key_is = sym is; value_is = refl; named = λ none. absurd (search (rules, none)) })

    by : (found : Option ℕ) → first_cut within bytes ≡ found → pair_at found within bytes ≡ Some pair → (value : List ℕ) × (pair ≡ (pair.0, text value)) × IsPair within bytes pair.0 value
    by None is says = absurd (search (rules, says))
    by (Some k) is says = named k (cut_found within bytes k is) (cleaned (take k bytes)) refl says

pairs_from : (within : Delimiter) (pieces : List Piece) (pairs : List Member) → pairs_of within pieces ≡ Some pairs → ArePairs within pieces pairs
pairs_from within [] pairs e = let same : [] ≡ pairs = cc e in subst (ArePairs within []) same no_pairs
pairs_from within (one ∷ pieces) pairs e = by (pair_at (first_cut within one.bytes) within one.bytes) refl (pairs_of within pieces) refl (pairs_from within pieces) e
  where
    by : (first : Option Member) → pair_at (first_cut within one.bytes) within one.bytes ≡ first → (others : Option (List Member)) → pairs_of within pieces ≡ others
        → ((pairs : List Member) → pairs_of within pieces ≡ Some pairs → ArePairs within pieces pairs) → and_pairs first others ≡ Some pairs → ArePairs within (one ∷ pieces) pairs
    by None first_is others others_are rest says = absurd (search (rules, says))
    by (Some pair) first_is None others_are rest says = absurd (search (rules, says))
    by (Some pair) first_is (Some more) others_are rest says =
        let same : pair ∷ more ≡ pairs = cc says in
        let p = pair_from within one.bytes pair first_is in
        subst (ArePairs within (one ∷ pieces)) same (subst (λ (m : Member). ArePairs within (one ∷ pieces) (m ∷ more)) (sym p.1) (one_pair p.2 (rest more others_are)))

-- a piece that is no pair
fault_in : (within : Delimiter) (pieces : List Piece) (fault : ParseFault) → IsFirstFault within pieces fault → pairs_of within pieces ≡ None
fault_in within [] fault is = elim is [ ]
fault_in within (one ∷ pieces) fault (here (no_delimiter u)) = ap (λ found. and_pairs (pair_at found within one.bytes) (pairs_of within pieces)) (is_uncut within one.bytes u)
fault_in within (one ∷ pieces) fault (here (no_key {at = at} f none)) =
    ap (λ found. and_pairs (pair_at found within one.bytes) (pairs_of within pieces)) (is_cut within one.bytes at f)
    ∙ ap (λ key. and_pairs (with_key key (cleaned (drop (at + delimiter_len within) one.bytes))) (pairs_of within pieces)) none
fault_in within (one ∷ pieces) fault (behind {key = key} {value = value} p rest) =
    ap (λ first. and_pairs first (pairs_of within pieces)) (pair_is within one.bytes key value p) ∙ ap (and_pairs (Some (key, text value))) (fault_in within pieces fault rest)

-- ---- the whole

-- a quote that nothing closes is open to the end
stays_open : (bytes : List ℕ) (at : ℕ) → IsUnclosed bytes at → open_quote bytes ≡ Some (get_or bytes at 0)
stays_open bytes at u =
    let count = length bytes - (at + 1) in
    let whole : at + 1 + count ≡ length bytes = omega (arith, u.inside) in
    subst (λ (l : List ℕ). open_quote l ≡ Some (get_or bytes at 0)) (take_all (at + 1 + count) bytes (omega (arith, whole))) (open_to count (omega (arith, whole)))
  where
    opened : (b : Bool) → is_quote (get_or bytes at 0) ≡ b → b ≡ true → (if b then Some (get_or bytes at 0) else None) ≡ Some (get_or bytes at 0)
    opened true is e = refl
    opened false is e = absurd (true≢false (sym e))

    goes_on : (k : ℕ) → (b : Bool) → (get_or bytes k 0 == get_or bytes at 0) ≡ b → (get_or bytes k 0 ≡ get_or bytes at 0 → ⊥) → (if b then None else Some (get_or bytes at 0)) ≡ Some (get_or bytes at 0)
    goes_on k true is other = absurd (other (eqb-true (get_or bytes k 0) (get_or bytes at 0) is))
    goes_on k false is other = refl

    open_to : (n : ℕ) → at + 1 + n ≤ length bytes → open_quote (take (at + 1 + n) bytes) ≡ Some (get_or bytes at 0)
    open_to zero le =
        let same : at + 1 + 0 ≡ at + 1 = omega arith in
        ap (λ k. open_quote (take k bytes)) same ∙ open_quote-more bytes at u.inside ∙ ap (λ q. open_behind q (get_or bytes at 0)) u.opens ∙ opened (is_quote (get_or bytes at 0)) refl u.quote
    open_to (suc n) le =
        let same : at + 1 + suc n ≡ (at + 1 + n) + 1 = omega arith in
        let before = open_to n (omega (arith, le)) in
        ap (λ k. open_quote (take k bytes)) same ∙ open_quote-more bytes (at + 1 + n) (omega (arith, le)) ∙ ap (λ q. open_behind q (get_or bytes (at + 1 + n) 0)) before
        ∙ goes_on (at + 1 + n) (get_or bytes (at + 1 + n) 0 == get_or bytes at 0) refl (u.stays_open (at + 1 + n) (omega arith) (omega (arith, le)))

module _ (ds : Delimiters) (some : 0 < delimiter_len ds.between) (bytes : List ℕ) where
  cut_into : (pieces : List Piece) → IsCutInto ds bytes pieces → filled (pieces_in ds.between bytes) ≡ pieces
  unfolding pieces_in
  cut_into pieces is = ap filled (same_pieces ds.between some (length bytes) 0 bytes is.raw (omega arith) is.are) ∙ sym is.filled_are

  pub says_pairs : (members : Members) → IsPairsText ds members bytes → pairs_in ds bytes ≡ Some members
  unfolding pairs_in
  says_pairs members is =
      ap (λ quote. if_closed quote (of_pieces ds.within (filled (pieces_in ds.between bytes)))) is.cut.closed
      ∙ ap (of_pieces ds.within) (cut_into is.pieces is.cut)
      ∙ of_some is.pieces is.some is.are
      ∙ ap (λ (m : Members). Some m) (sym is.members_are)
    where
      of_some : (pieces : List Piece) → pieces ≢ [] → ArePairs ds.within pieces is.pairs → of_pieces ds.within pieces ≡ Some (members_of (put_all [] is.pairs))
      of_some [] none are = absurd (none refl)
      of_some (one ∷ pieces) filled_some are = ap members_by_pairs (pairs_are ds.within (one ∷ pieces) is.pairs are)

  pub pairs_said : (members : Members) → pairs_in ds bytes ≡ Some members → IsPairsText ds members bytes
  unfolding pairs_in pieces_in
  pairs_said members says = by_quote (open_quote bytes) refl says
    where
      by_pairs : (pieces : List Piece) → filled (pieces_in ds.between bytes) ≡ pieces → pieces ≢ [] → open_quote bytes ≡ None → (pairs : Option (List Member)) → pairs_of ds.within pieces ≡ pairs → members_by_pairs pairs ≡ Some members → IsPairsText ds members bytes
      by_pairs pieces are some_pieces closed None pairs_are_none says = absurd (search (rules, says))
      by_pairs pieces are some_pieces closed (Some pairs) they says = record {
        pieces = pieces;
        cut = record { closed = closed; raw = pieces_in ds.between bytes; are = pieces_are ds.between some (length bytes) 0 bytes (omega arith); filled_are = sym are };
        some = some_pieces;
        pairs = pairs;
        are = pairs_from ds.within pieces pairs they;
        members_are = cc says;
      }

      by_pieces : (pieces : List Piece) → filled (pieces_in ds.between bytes) ≡ pieces → open_quote bytes ≡ None → of_pieces ds.within pieces ≡ Some members → IsPairsText ds members bytes
      by_pieces [] are closed says = absurd (search (rules, says))
      by_pieces (one ∷ pieces) are closed says = by_pairs (one ∷ pieces) are (λ none. absurd (search (rules, none))) closed (pairs_of ds.within (one ∷ pieces)) refl says

      by_quote : (quote : Option ℕ) → open_quote bytes ≡ quote → if_closed quote (of_pieces ds.within (filled (pieces_in ds.between bytes))) ≡ Some members → IsPairsText ds members bytes
      by_quote None closed says = by_pieces (filled (pieces_in ds.between bytes)) refl closed says
      by_quote (Some quote) open_at says = absurd (search (rules, says))

  no_pairs_in : (pieces : List Piece) → IsCutInto ds bytes pieces → of_pieces ds.within pieces ≡ None → pairs_in ds bytes ≡ None
  unfolding pairs_in
  no_pairs_in pieces is none =
      ap (λ quote. if_closed quote (of_pieces ds.within (filled (pieces_in ds.between bytes)))) is.closed ∙ ap (of_pieces ds.within) (cut_into pieces is) ∙ none

  faulty_pieces : (pieces : List Piece) (fault : ParseFault) → IsFirstFault ds.within pieces fault → of_pieces ds.within pieces ≡ None
  faulty_pieces [] fault is = refl
  faulty_pieces (one ∷ pieces) fault is = ap members_by_pairs (fault_in ds.within (one ∷ pieces) fault is)

  still_open : (quote : Option ℕ) (open_now : ℕ) → open_quote bytes ≡ Some open_now → pairs_in ds bytes ≡ None
  unfolding pairs_in
  still_open quote open_now is = ap (λ q. if_closed q (of_pieces ds.within (filled (pieces_in ds.between bytes)))) is

  pub no_pairs_said : (fault : ParseFault) → IsPairsFault ds bytes fault → of_parse_fault fault ≢ row.Memory → pairs_in ds bytes ≡ None
  no_pairs_said fault (unclosed {at = at} u) apart = still_open None (get_or bytes at 0) (stays_open bytes at u)
  no_pairs_said fault (no_pieces is) apart = no_pairs_in [] is refl
  no_pairs_said fault (no_pair {pieces = pieces} is f) apart = no_pairs_in pieces is (faulty_pieces pieces fault f)
  no_pairs_said fault no_memory apart = absurd (apart refl)

-- ---- values

pub pairs_said_by : (ds : Delimiters) → 0 < delimiter_len ds.between → (value : Datum) (made : Members) → IsTextWith value (IsPairsText ds made) → said (as_pairs ds) value ≡ Some made
pairs_said_by ds some null made none = absurd none
pairs_said_by ds some (boolean b) made none = absurd none
pairs_said_by ds some (int z) made none = absurd none
pairs_said_by ds some (text bytes) made is = says_pairs ds some bytes made is
pairs_said_by ds some (list items) made none = absurd none
pairs_said_by ds some (fields under) made none = absurd none

pub pairs_unsaid : (ds : Delimiters) → 0 < delimiter_len ds.between → (value : Datum) (fault : ParseFault) → IsValueFault (IsPairsFault ds) value fault → of_parse_fault fault ≢ row.Memory → said (as_pairs ds) value ≡ None
pairs_unsaid ds some null fault is apart = refl
pairs_unsaid ds some (boolean b) fault is apart = refl
pairs_unsaid ds some (int z) fault is apart = refl
pairs_unsaid ds some (text bytes) fault is apart = no_pairs_said ds some bytes fault is apart
pairs_unsaid ds some (list items) fault is apart = refl
pairs_unsaid ds some (fields under) fault is apart = refl

pub pairs_are_read : (ds : Delimiters) (bytes : List ℕ) (made : Members) → 0 < delimiter_len ds.between → (pairs_in ds bytes ≡ Some made → IsPairsText ds made bytes) × (IsPairsText ds made bytes → pairs_in ds bytes ≡ Some made)
pairs_are_read ds bytes made some = (pairs_said ds some bytes made, says_pairs ds some bytes made)

pub cuts_at_some : (delimiter : List ℕ) (pair_delimiter : Option (List ℕ)) → KeepsLimits delimiter pair_delimiter → 0 < delimiter_len pair_delimiter
cuts_at_some delimiter None keeps = omega arith
cuts_at_some delimiter (Some []) keeps = absurd (keeps.some_between [] refl refl)
cuts_at_some delimiter (Some (byte ∷ rest)) keeps = omega arith
