-- Pieces and pairs, one after another.
use Rattle.std.proofs.Common.{◌≡◌, ◌≢◌, ℕ, zero, suc, ◌+◌, ◌<◌, List, [], ◌∷◌, ◌++◌, ◌∙◌, ap, sym, refl, subst, Bool, true, false, ◌==◌, eqb-true, cond, length, take, drop, None, ⊎_elim, arith, length-drop}
use Rattle.std.proofs.lemmas.List.{append_assoc, nil_from_length}
use Rattle.std.proofs.lemmas.Bool.{false≢true}
use Rattle.std.specs.BTreeMap.{insert_entry}
use Rattle.std.specs.Cmp.Lexicographic.{slice_cmp}
use Rattle.std.specs.Ordering.{nat_cmp, match_ordering}
use Rattle.std.specs.declared.cmp.Ordering.{Ordering}
use Rattle.std.specs.declared.cmp.Ordering.TheVariants.{Less, Equal, Greater}
use Rattle.entry_model.specs.Datum.{Datum, text, members_of}
use Rattle.json_text.specs.Grammar.{Member, put_all}
use Rattle.text_parsers.specs.declared.fault.ParseFault.{ParseFault}
use Rattle.text_parsers.specs.declared.fault.ParseFault.TheVariants.{NotText, NoMatch, Syntax, FieldCount, NoDelimiter, Memory}
use Rattle.text_parsers.specs.Blanks.{blanks_before, trimmed}
use Rattle.text_parsers.specs.Cuts.{Delimiter, delimiter_len, IsUncut, IsFirstCut}
use Rattle.text_parsers.specs.Pairs.{Delimiters, ArePairs, no_pairs, one_pair, cleaned, TakesPiece, IsPieceFault, no_delimiter, no_key, IsFirstFault, here, behind, IsCutInto, IsPairsText, IsPairsFault, no_pieces, no_pair, no_memory}
use Rattle.text_parsers.specs.Pieces.{Piece, piece, ArePieces, uncut, cut, trimmed_piece, is_filled, filled}
use Rattle.text_parsers.specs.Quotes.{open_quote}
use Rattle.text_parsers.proofs.Cutting.{cut_or_uncut}

-- ---- lists of pieces

pub filled-append : (xs ys : List Piece) → filled (xs ++ ys) ≡ filled xs ++ filled ys
filled-append [] ys = refl
filled-append (x ∷ xs) ys = by (is_filled (trimmed_piece x).bytes) (filled-append xs ys)
  where
    by : (b : Bool) → filled (xs ++ ys) ≡ filled xs ++ filled ys → cond b (trimmed_piece x ∷ filled (xs ++ ys)) (filled (xs ++ ys)) ≡ cond b (trimmed_piece x ∷ filled xs) (filled xs) ++ filled ys
    by true e = ap (λ (l : List Piece). trimmed_piece x ∷ l) e
    by false e = e

pub pairs_append : (within : Delimiter) (xs ys : List Piece) (ms ns : List Member) → ArePairs within xs ms → ArePairs within ys ns → ArePairs within (xs ++ ys) (ms ++ ns)
pairs_append within [] ys [] ns no_pairs b = b
pairs_append within [] ys (m ∷ ms) ns a b = elim a [ ]
pairs_append within (x ∷ xs) ys [] ns a b = elim a [ ]
pairs_append within (x ∷ xs) ys (m ∷ ms) ns (one_pair p a) b = one_pair p (pairs_append within xs ys ms ns a b)

pub put_all-append : (ms xs ys : List Member) → put_all ms (xs ++ ys) ≡ put_all (put_all ms xs) ys
put_all-append ms [] ys = refl
put_all-append ms (x ∷ xs) ys = put_all-append (insert_entry (slice_cmp nat_cmp) ms x.0 x.1) xs ys

pub fault_behind : (within : Delimiter) (xs ys : List Piece) (ms : List Member) (fault : ParseFault) → ArePairs within xs ms → IsFirstFault within ys fault → IsFirstFault within (xs ++ ys) fault
fault_behind within [] ys [] fault no_pairs f = f
fault_behind within [] ys (m ∷ ms) fault a f = elim a [ ]
fault_behind within (x ∷ xs) ys [] fault a f = elim a [ ]
fault_behind within (x ∷ xs) ys (m ∷ ms) fault (one_pair p a) f = behind p (fault_behind within xs ys ms fault a f)

pub fault_before : (within : Delimiter) (xs ys : List Piece) (fault : ParseFault) → IsFirstFault within xs fault → IsFirstFault within (xs ++ ys) fault
fault_before within [] ys fault f = elim f [ ]
fault_before within (x ∷ xs) ys fault (here f) = here f
fault_before within (x ∷ xs) ys fault (behind p f) = behind p (fault_before within xs ys fault f)

-- ---- something was put in

put_is_some : (ms : List Member) (key : List ℕ) (value : Datum) → insert_entry (slice_cmp nat_cmp) ms key value ≢ []
put_is_some [] key value e = absurd (cc e)
put_is_some (m ∷ ms) key value e = by (slice_cmp nat_cmp key m.0) e
  where
    by : (o : Ordering) → match_ordering o ((key, value) ∷ m ∷ ms) ((m.0, value) ∷ ms) (m ∷ insert_entry (slice_cmp nat_cmp) ms key value) ≡ [] → ⊥
    by Less e = absurd (cc e)
    by Equal e = absurd (cc e)
    by Greater e = absurd (cc e)

put_all_keeps : (ms xs : List Member) → ms ≢ [] → put_all ms xs ≢ []
put_all_keeps ms [] h e = h e
put_all_keeps ms (x ∷ xs) h e = put_all_keeps (insert_entry (slice_cmp nat_cmp) ms x.0 x.1) xs (put_is_some ms x.0 x.1) e

nothing_put : (xs : List Member) → put_all [] xs ≡ [] → xs ≡ []
nothing_put [] e = refl
nothing_put (x ∷ xs) e = absurd (put_all_keeps (insert_entry (slice_cmp nat_cmp) [] x.0 x.1) xs (put_is_some [] x.0 x.1) e)

no_pieces_of : (within : Delimiter) (pieces : List Piece) (pairs : List Member) → ArePairs within pieces pairs → pairs ≡ [] → pieces ≡ []
no_pieces_of within [] [] no_pairs e = refl
no_pieces_of within [] (m ∷ ms) a e = elim a [ ]
no_pieces_of within (x ∷ xs) [] a e = elim a [ ]
no_pieces_of within (x ∷ xs) (m ∷ ms) (one_pair p a) e = absurd (cc e)

no_pairs_of : (within : Delimiter) (pieces : List Piece) (pairs : List Member) → ArePairs within pieces pairs → pieces ≡ [] → pairs ≡ []
no_pairs_of within [] [] no_pairs e = refl
no_pairs_of within [] (m ∷ ms) a e = elim a [ ]
no_pairs_of within (x ∷ xs) [] a e = elim a [ ]
no_pairs_of within (x ∷ xs) (m ∷ ms) (one_pair p a) e = absurd (cc e)

-- ---- each text has pieces

pieces_below : (d : Delimiter) → 0 < delimiter_len d → (n at : ℕ) (front : List ℕ) → length front < n → (pieces : List Piece) × ArePieces d at front pieces
pieces_below d some zero at front l = absurd (omega arith)
pieces_below d some (suc n) at front l =
    ⊎_elim
    (λ (c : (k : ℕ) × IsFirstCut d front k).
    (let next = c.0 + delimiter_len d in
    let inside : c.0 < length front = c.1.stands.inside in
    let lengths = length-drop next front in
    let shorter : length (drop next front) < n = omega arith in
    let rest = pieces_below d some n (at + next) (drop next front) shorter in
    (piece at (take c.0 front) ∷ rest.0, cut c.1 rest.1)))
    (λ (u : IsUncut d front). (piece at front ∷ [], uncut u))
    (cut_or_uncut d front)

pub pieces_of : (d : Delimiter) → 0 < delimiter_len d → (at : ℕ) (front : List ℕ) → (pieces : List Piece) × ArePieces d at front pieces
pieces_of d some at front = pieces_below d some (length front + 1) at front (omega arith)

-- ---- reading on

-- what was read of a text up to a place, and what it gave
pub record ReadTo (ds : Delimiters) (front : List ℕ) (at : ℕ) (rest : List ℕ) (members : List Member) : Type 0 where
  pub pieces : List Piece
  pub goes_on : (more : List Piece) → ArePieces ds.between at rest more → ArePieces ds.between 0 front (pieces ++ more)
  pub pairs : List Member
  pub are : ArePairs ds.within (filled pieces) pairs
  pub members_are : members ≡ put_all [] pairs

pub nothing_read : (ds : Delimiters) (front : List ℕ) (members : List Member) → members ≡ [] → ReadTo ds front 0 front members
nothing_read ds front members e = record { pieces = []; goes_on = λ more a. a; pairs = []; are = no_pairs; members_are = e }

module _ (ds : Delimiters) (front rest : List ℕ) (at : ℕ) (members : List Member) (read : ReadTo ds front at rest members) where
  taken : (one : Piece) (new : List Member) (t : TakesPiece ds.within one members new) → ArePairs ds.within (filled (read.pieces ++ one ∷ [])) (read.pairs ++ t.0) × (new ≡ put_all [] (read.pairs ++ t.0))
  taken one new t = (
    subst (λ (l : List Piece). ArePairs ds.within l (read.pairs ++ t.0)) (sym (filled-append read.pieces (one ∷ []))) (pairs_append ds.within (filled read.pieces) (filled (one ∷ [])) read.pairs t.0 read.are t.1),
    t.2 ∙ ap (λ (l : List Member). put_all l t.0) read.members_are ∙ sym (put_all-append [] read.pairs t.0),
  )

  pub one_piece_more : (k : ℕ) (new : List Member) → IsFirstCut ds.between rest k → TakesPiece ds.within (piece at (take k rest)) members new
      → ReadTo ds front (at + (k + delimiter_len ds.between)) (drop (k + delimiter_len ds.between) rest) new
  one_piece_more k new f t =
      let one = piece at (take k rest) in
      let both = taken one new t in
      record {
        pieces = read.pieces ++ one ∷ [];
        goes_on = λ more a. subst (λ (l : List Piece). ArePieces ds.between 0 front l) (sym (append_assoc read.pieces (one ∷ []) more)) (read.goes_on (one ∷ more) (cut f a));
        pairs = read.pairs ++ t.0;
        are = both.0;
        members_are = both.1;
      }

  module _ (closed : open_quote front ≡ None) where
    whole : (more : List Piece) → ArePieces ds.between at rest more → IsCutInto ds front (filled (read.pieces ++ more))
    whole more a = record { closed = closed; raw = read.pieces ++ more; are = read.goes_on more a; filled_are = refl }

    faulty : (one : Piece) (more : List Piece) (fault : ParseFault) → ArePieces ds.between at rest (one ∷ more) → IsFirstFault ds.within (filled (one ∷ [])) fault → IsPairsFault ds front fault
    faulty one more fault a f =
        no_pair (whole (one ∷ more) a)
        (subst (λ (l : List Piece). IsFirstFault ds.within l fault) (sym (filled-append read.pieces (one ∷ more)))
        (fault_behind ds.within (filled read.pieces) (filled (one ∷ more)) read.pairs fault read.are
        (subst (λ (l : List Piece). IsFirstFault ds.within l fault) (sym (filled-append (one ∷ []) more)) (fault_before ds.within (filled (one ∷ [])) (filled more) fault f))))

    pub piece_is_faulty : (k : ℕ) (fault : ParseFault) → 0 < delimiter_len ds.between → IsFirstCut ds.between rest k → IsFirstFault ds.within (filled (piece at (take k rest) ∷ [])) fault → IsPairsFault ds front fault
    piece_is_faulty k fault some f g =
        let next = k + delimiter_len ds.between in
        let more = pieces_of ds.between some (at + next) (drop next rest) in
        faulty (piece at (take k rest)) more.0 fault (cut f more.1) g

    pub last_is_faulty : (fault : ParseFault) → IsUncut ds.between rest → IsFirstFault ds.within (filled (piece at rest ∷ [])) fault → IsPairsFault ds front fault
    last_is_faulty fault u g = faulty (piece at rest) [] fault (uncut u) g

    module _ (new : List Member) (u : IsUncut ds.between rest) (t : TakesPiece ds.within (piece at rest) members new) where
      one : Piece
      one = piece at rest

      all_read : ArePairs ds.within (filled (read.pieces ++ one ∷ [])) (read.pairs ++ t.0)
      unfolding one
      all_read = (taken one new t).0

      put : new ≡ put_all [] (read.pairs ++ t.0)
      unfolding one
      put = (taken one new t).1

      pub text_is_pairs : new ≢ [] → IsPairsText ds (members_of new) front
      unfolding one
      text_is_pairs some = record {
        pieces = filled (read.pieces ++ one ∷ []);
        cut = whole (one ∷ []) (uncut u);
        some = λ e. some (put ∙ ap (put_all []) (no_pairs_of ds.within (filled (read.pieces ++ one ∷ [])) (read.pairs ++ t.0) all_read e));
        pairs = read.pairs ++ t.0;
        are = all_read;
        members_are = ap members_of put;
      }

      pub text_has_no_pairs : new ≡ [] → IsPairsFault ds front (NoDelimiter 0)
      unfolding one
      text_has_no_pairs none =
          let empty = no_pieces_of ds.within (filled (read.pieces ++ one ∷ [])) (read.pairs ++ t.0) all_read (nothing_put (read.pairs ++ t.0) (sym put ∙ none)) in
          no_pieces (subst (λ (l : List Piece). IsCutInto ds front l) empty (whole (one ∷ []) (uncut u)))

-- ---- one piece

takes_nothing' : (within : Delimiter) (one : Piece) (bytes : List ℕ) (members : List Member) → bytes ≡ trimmed one.bytes → length bytes ≡ 0 → TakesPiece within one members members
takes_nothing' within one bytes members e none =
    let empty : [] ≡ trimmed one.bytes = sym (nil_from_length bytes none) ∙ e in
    ([], subst (λ (l : List ℕ). ArePairs within (cond (is_filled l) (trimmed_piece one ∷ []) []) []) empty no_pairs, refl)

pub takes_nothing : (within : Delimiter) (one : Piece) (bytes : List ℕ) (members : List Member) → bytes ≡ trimmed one.bytes → (length bytes == 0) ≡ true → TakesPiece within one members members
takes_nothing within one bytes members e none = takes_nothing' within one bytes members e (eqb-true (length bytes) 0 none)

has_bytes : (bytes : List ℕ) → (length bytes == 0) ≡ false → is_filled bytes ≡ true
has_bytes [] e = cc e
has_bytes (byte ∷ bytes) e = refl

module _ (within : Delimiter) (at : ℕ) (raw bytes : List ℕ) (e : bytes ≡ trimmed raw) (some : (length bytes == 0) ≡ false) (place : ℕ) (placed : place ≡ blanks_before raw) where
  one_filled : filled (piece at raw ∷ []) ≡ piece (at + place) bytes ∷ []
  one_filled =
      ap (λ (b : Bool). cond b (trimmed_piece (piece at raw) ∷ []) []) (ap is_filled (sym e) ∙ has_bytes bytes some)
      ∙ ap (λ (l : List ℕ). piece (at + blanks_before raw) l ∷ []) (sym e)
      ∙ ap (λ n. piece (at + n) bytes ∷ []) (sym placed)

  of_one : (fault : ParseFault) → IsPieceFault within (piece (at + place) bytes) fault → IsFirstFault within (filled (piece at raw ∷ [])) fault
  of_one fault f = subst (λ (l : List Piece). IsFirstFault within l fault) (sym one_filled) (here f)

  pub lacks_delimiter : IsUncut within bytes → IsFirstFault within (filled (piece at raw ∷ [])) (NoDelimiter (at + place))
  lacks_delimiter u = of_one (NoDelimiter (at + place)) (no_delimiter u)

  module _ (k : ℕ) (first : IsFirstCut within bytes k) (key : List ℕ) (key_is : key ≡ cleaned (take k bytes)) where
    pub lacks_key : (length key == 0) ≡ true → IsFirstFault within (filled (piece at raw ∷ [])) (Syntax (at + place))
    lacks_key none = of_one (Syntax (at + place)) (no_key first (sym key_is ∙ nil_from_length key (eqb-true (length key) 0 none)))

    pub takes_pair : (length key == 0) ≡ false → (value : List ℕ) → value ≡ cleaned (drop (k + delimiter_len within) bytes) → (old new : List Member)
        → new ≡ insert_entry (slice_cmp nat_cmp) old key (text value) → TakesPiece within (piece at raw) old new
    takes_pair named value value_is old new put = (
      (key, text value) ∷ [],
      subst (λ (l : List Piece). ArePairs within l ((key, text value) ∷ [])) (sym one_filled)
          (one_pair (record { at = k; first = first; key_is = key_is; value_is = value_is; named = λ e. false≢true (sym named ∙ ap (λ (l : List ℕ). length l == 0) e) }) no_pairs),
      put,
    )

-- want of memory is always told so
pub or_memory : (ds : Delimiters) (front : List ℕ) (fault : ParseFault) → (fault ≢ Memory → IsPairsFault ds front fault) → IsPairsFault ds front fault
or_memory ds front NotText f = f (λ e. cc e)
or_memory ds front NoMatch f = f (λ e. cc e)
or_memory ds front (Syntax at) f = f (λ e. cc e)
or_memory ds front (FieldCount want got) f = f (λ e. cc e)
or_memory ds front (NoDelimiter at) f = f (λ e. cc e)
or_memory ds front Memory f = no_memory
