-- A text is read in one way.
use Rattle.std.proofs.Common.{◌≡◌, ℕ, ◌+◌, ◌<◌, ◌≤◌, List, [], ◌∷◌, ◌∙◌, ap, sym, refl, subst, take, drop, Option, None, Some, ⊎_elim, arith}
use Rattle.std.proofs.lemmas.Bool.{cases_lt}
use Rattle.entry_model.specs.Datum.{text, Members, members_of}
use Rattle.json_text.specs.Grammar.{Member, put_all}
use Rattle.regex.specs.Writes.{group_of}
use Rattle.regex_hir.specs.Find.{Match}
use Rattle.text_parsers.specs.CsvRecords.{Columns, named, IsRecordText}
use Rattle.text_parsers.specs.Groups.{reading, names_in, named_groups, members_by, IsMatchedText}
use Rattle.text_parsers.specs.Cuts.{Delimiter, delimiter_len, IsUncut, IsFirstCut}
use Rattle.text_parsers.specs.Pairs.{Delimiters, ArePairs, no_pairs, one_pair, cleaned, IsPairsText}
use Rattle.text_parsers.specs.Pieces.{Piece, piece, ArePieces, uncut, cut, filled}

one_cut : (d : Delimiter) (front : List ℕ) (j k : ℕ) → IsFirstCut d front j → IsFirstCut d front k → j ≡ k
one_cut d front j k a b =
    ⊎_elim (λ (l : j < k). absurd (b.first j l a.stands))
    (λ (m : k ≤ j). ⊎_elim (λ (l : k < j). absurd (a.first k l b.stands)) (λ (n : j ≤ k). let e : j ≡ k = omega arith in e) (cases_lt k j))
    (cases_lt j k)

one_row : (d : Delimiter) (at : ℕ) (front : List ℕ) (xs ys : List Piece) → ArePieces d at front xs → ArePieces d at front ys → xs ≡ ys
one_row d at front xs ys (uncut u) b = first_of_uncut d at front ys u b
  where
    first_of_uncut : (d : Delimiter) (at : ℕ) (front : List ℕ) (ys : List Piece) → IsUncut d front → ArePieces d at front ys → piece at front ∷ [] ≡ ys
    first_of_uncut d at front ys u (uncut v) = refl
    first_of_uncut d at front ys u (cut {k = k} f r) = absurd (u k f.stands)
one_row d at front xs ys (cut {k = j} {pieces = more} f r) b = with_cut d at front ys j more f (λ zs. one_row d (at + (j + delimiter_len d)) (drop (j + delimiter_len d) front) more zs r) b
  where
    with_cut : (d : Delimiter) (at : ℕ) (front : List ℕ) (ys : List Piece) (j : ℕ) (more : List Piece) → IsFirstCut d front j
        → ((zs : List Piece) → ArePieces d (at + (j + delimiter_len d)) (drop (j + delimiter_len d) front) zs → more ≡ zs) → ArePieces d at front ys → piece at (take j front) ∷ more ≡ ys
    with_cut d at front ys j more f same (uncut v) = absurd (v j f.stands)
    with_cut d at front ys j more f same (cut {k = k} {pieces = zs} g s) =
        let e : k ≡ j = one_cut d front k j g f in
        let there = subst (λ n. ArePieces d (at + (n + delimiter_len d)) (drop (n + delimiter_len d) front) zs) e s in
        ap (λ n. piece at (take n front) ∷ more) (sym e) ∙ ap (λ (l : List Piece). piece at (take k front) ∷ l) (same zs there)

one_list : (within : Delimiter) (pieces : List Piece) (ms ns : List Member) → ArePairs within pieces ms → ArePairs within pieces ns → ms ≡ ns
one_list within [] [] [] no_pairs no_pairs = refl
one_list within [] [] (n ∷ ns) a b = elim b [ ]
one_list within [] (m ∷ ms) ns a b = elim a [ ]
one_list within (x ∷ xs) [] ns a b = elim a [ ]
one_list within (x ∷ xs) (m ∷ ms) [] a b = elim b [ ]
one_list within (x ∷ xs) (m ∷ ms) (n ∷ ns) (one_pair {key = key} {value = value} p a) (one_pair {key = name} {value = other} q b) =
    let e : p.at ≡ q.at = one_cut within x.bytes p.at q.at p.first q.first in
    let keys : key ≡ name = p.key_is ∙ ap (λ k. cleaned (take k x.bytes)) e ∙ sym q.key_is in
    let values : value ≡ other = p.value_is ∙ ap (λ k. cleaned (drop (k + delimiter_len within) x.bytes)) e ∙ sym q.value_is in
    ap (λ (l : List ℕ). (l, text value) ∷ ms) keys ∙ ap (λ (l : List ℕ). (name, text l) ∷ ms) values ∙ ap (λ (l : List Member). (name, text other) ∷ l) (one_list within xs ms ns a b)

pub one_reading : (ds : Delimiters) (front : List ℕ) (ms ns : Members) → IsPairsText ds ms front → IsPairsText ds ns front → ms ≡ ns
one_reading ds front ms ns a b =
    let raw = one_row ds.between 0 front a.cut.raw b.cut.raw a.cut.are b.cut.are in
    let pieces : b.pieces ≡ a.pieces = b.cut.filled_are ∙ ap filled (sym raw) ∙ sym a.cut.filled_are in
    let pairs = one_list ds.within a.pieces a.pairs b.pairs a.are (subst (λ (l : List Piece). ArePairs ds.within l b.pairs) pieces b.are) in
    a.members_are ∙ ap (λ (l : List Member). members_of (put_all [] l)) pairs ∙ sym b.members_are

pub one_record : (columns : Columns) (front : List ℕ) (ms ns : Members) → IsRecordText columns ms front → IsRecordText columns ns front → ms ≡ ns
one_record columns front ms ns a b =
    a.members_are ∙ ap (λ (fields : List (List ℕ)). members_of (put_all [] (named columns.names fields))) (only a.fields b.fields (sym a.only ∙ b.only)) ∙ sym b.members_are
  where
    only : (x y : List (List ℕ)) → x ∷ [] ≡ y ∷ [] → x ≡ y
    only x y e = cc e

pub one_match : (source front : List ℕ) (ms ns : Members) → IsMatchedText source ms front → IsMatchedText source ns front → ms ≡ ns
one_match source front ms ns a b =
    a.members_are ∙ ap (λ (m : Match). members_of (put_all [] (members_by (group_of m) front (named_groups (names_in (reading source)))))) (only a.found b.found (sym a.is ∙ b.is)) ∙ sym b.members_are
  where
    only : (x y : Match) → Some x ≡ Some y → x ≡ y
    only x y e = ap (λ (o : Option Match). elim o [ None ↦ x | Some z ↦ z ]) e
