-- The settings of a script include its paths.
use Rattle.std.proofs.Common.{◌≡◌, ◌≢◌, ℕ, ◌<◌, ◌≤◌, List, [], ◌∷◌, ◌++◌, drop, true, false, true≢false, inl, inr, refl, sym, ap, subst, ◌∙◌, arith}
use Rattle.std.specs.Prelude.{codes, decimal}
use Rattle.std.specs.Str.{chars, IsAscii}
use Rattle.std.proofs.lemmas.Bool.{ne_eqb}
use Rattle.std.proofs.lemmas.Fmt.{IsAscii-decimal}
use Rattle.std.proofs.lemmas.List.{append-nil}
use Rattle.std.proofs.lemmas.Str.{IsUtf8-from_ascii, IsAscii-append, chars-IsAscii}
use Rattle.std.proofs.lemmas.Str.Ascii.{IsAscii-cons, IsAscii-nil}
use Rattle.demo_run.specs.Script.{log_name, rotated_name}
use Rattle.demo_run.proofs.Digits.{Avoids, avoids_append, number_avoids}
use Rattle.demo_run.proofs.Said.{glob_text}
use Rattle.glob_match.specs.Fits.{FitsPieces, InARow, FitsPiece}
use Rattle.glob_match.specs.GlobMatch.{FitsNames, no_names, one_name}
use Rattle.glob_match.specs.GlobText.{is_special, is_plain_character, IsUnit, plain, escaped, one, star, class, AreComponents, last_component, next_component, single, any_of, IsGlobText}
use Rattle.glob_match.specs.Path.{names}
use Rattle.glob_match.specs.Pattern.{Pattern, components}
use Rattle.glob_match.specs.declared.pattern.Component.TheVariants.{Name}
use Rattle.glob_match.specs.declared.pattern.Piece.{Piece}
use Rattle.glob_match.specs.declared.pattern.Piece.TheVariants.{Single}
use Rattle.glob_match.specs.declared.pattern.Unit as unit
use Rattle.glob_match.specs.declared.pattern.Unit.TheVariants.{Plain, Star}
use Rattle.glob_match.specs.declared.reader.Place.TheVariants as place
use Rattle.pipeline.specs.Globs.{ArePatterns}
use Rattle.standing.specs.Included.{IsIncluded}
use Rattle.standing.specs.OwnNames.{IsOwnName}

-- ---- what the glob means

abbrev script_pieces : List Piece
script_pieces =
    Single (Plain 100) ∷ Single Star ∷ Single (Plain 46) ∷ Single (Plain 108) ∷ Single (Plain 111) ∷ Single (Plain 103) ∷ Single Star ∷ []

abbrev pub script_pattern : Pattern
script_pattern = record { is_absolute = false; components = Name script_pieces ∷ [] }

plain_unit : {whole : List ℕ} {first : unit.Unit} {more : List ℕ} → IsUnit place.Name whole first more → (c : ℕ) (text : List ℕ) → whole ≡ c ∷ text → is_special c ≡ false → (first ≡ Plain c) × (more ≡ text)
plain_unit (plain {rest} d ok) c text is ordinary =
    let same : d ≡ c = cc in
    let behind : rest ≡ text = cc in
    (ap Plain same, behind)
plain_unit (escaped {rest} d apart) c text is ordinary = let same : c ≡ 92 = cc in absurd (true≢false (subst (λ e. is_special e ≡ false) same ordinary))
plain_unit (one {rest}) c text is ordinary = let same : c ≡ 63 = cc in absurd (true≢false (subst (λ e. is_special e ≡ false) same ordinary))
plain_unit (star {rest}) c text is ordinary = let same : c ≡ 42 = cc in absurd (true≢false (subst (λ e. is_special e ≡ false) same ordinary))
plain_unit (class signs) c text is ordinary = let same : c ≡ 91 = cc in absurd (true≢false (subst (λ e. is_special e ≡ false) same ordinary))

star_unit : {whole : List ℕ} {first : unit.Unit} {more : List ℕ} → IsUnit place.Name whole first more → (text : List ℕ) → whole ≡ 42 ∷ text → (first ≡ Star) × (more ≡ text)
star_unit (plain {rest} d ok) text is = let same : d ≡ 42 = cc in absurd (true≢false (sym (subst (λ e. is_plain_character place.Name e ≡ true) same ok)))
star_unit (escaped {rest} d apart) text is = let never : ◌≡◌ {A = ℕ} 92 42 = cc in absurd (omega (arith, never))
star_unit (one {rest}) text is = let never : ◌≡◌ {A = ℕ} 63 42 = cc in absurd (omega (arith, never))
star_unit (star {rest}) text is = let behind : rest ≡ text = cc in (refl, behind)
star_unit (class signs) text is = let never : ◌≡◌ {A = ℕ} 91 42 = cc in absurd (omega (arith, never))

no_unit : {whole : List ℕ} {first : unit.Unit} {more : List ℕ} → IsUnit place.Name whole first more → whole ≡ [] → ⊥
no_unit (plain {rest} d ok) is = cc
no_unit (escaped {rest} d apart) is = cc
no_unit (one {rest}) is = cc
no_unit (star {rest}) is = cc
no_unit (class signs) is = cc

record FirstPiece (whole : List ℕ) (pieces : List Piece) (others : List (List Piece)) : Type 0 where
  first : unit.Unit
  more : List ℕ
  rest : List Piece
  are : pieces ≡ Single first ∷ rest
  is_first : IsUnit place.Name whole first more
  behind : AreComponents more rest others

first_piece : {whole : List ℕ} {pieces : List Piece} {others : List (List Piece)} → AreComponents whole pieces others → (c : ℕ) (text : List ℕ) → whole ≡ c ∷ text → (c ≡ 47 → ⊥) → (c ≡ 123 → ⊥) → FirstPiece whole pieces others
first_piece last_component c text is slash brace = absurd (cc is)
first_piece (next_component behind) c text is slash brace = let same : c ≡ 47 = cc in absurd (slash same)
first_piece (single {more} {first} {pieces} is_first behind) c text is slash brace = record {
  first = first;
  more = more;
  rest = pieces;
  are = refl;
  is_first = is_first;
  behind = behind;
}
first_piece (any_of parts behind) c text is slash brace = let same : c ≡ 123 = cc in absurd (brace same)

record NextPiece (piece : Piece) (text : List ℕ) (pieces : List Piece) (others : List (List Piece)) : Type 0 where
  rest : List Piece
  are : pieces ≡ piece ∷ rest
  behind : AreComponents text rest others

module _ (text : List ℕ) (pieces : List Piece) (others : List (List Piece)) where
  next_plain : (c : ℕ) → is_special c ≡ false → AreComponents (c ∷ text) pieces others → NextPiece (Single (Plain c)) text pieces others
  next_plain c ordinary are =
      let special : (d : ℕ) → is_special d ≡ true → c ≡ d → ⊥ = λ d is same. true≢false (sym is ∙ subst (λ e. is_special e ≡ false) same ordinary) in
      let found = first_piece are c text refl (special 47 refl) (special 123 refl) in
      let both = plain_unit found.is_first c text refl ordinary in
      record {
        rest = found.rest;
        are = found.are ∙ ap (λ u. Single u ∷ found.rest) both.0;
        behind = subst (λ t. AreComponents t found.rest others) both.1 found.behind;
      }

  next_star : AreComponents (42 ∷ text) pieces others → NextPiece (Single Star) text pieces others
  next_star are =
      let found = first_piece are 42 text refl (λ same. omega (arith, same)) (λ same. omega (arith, same)) in
      let both = star_unit found.is_first text refl in
      record {
        rest = found.rest;
        are = found.are ∙ ap (λ u. Single u ∷ found.rest) both.0;
        behind = subst (λ t. AreComponents t found.rest others) both.1 found.behind;
      }

no_more : {whole : List ℕ} {pieces : List Piece} {others : List (List Piece)} → AreComponents whole pieces others → whole ≡ [] → (pieces ≡ []) × (others ≡ [])
no_more last_component is = (refl, refl)
no_more (next_component behind) is = absurd (cc is)
no_more (single is_first behind) is = absurd (no_unit is_first is)
no_more (any_of parts behind) is = absurd (cc is)

then : (piece : Piece) (pieces rest known : List Piece) → pieces ≡ piece ∷ rest → rest ≡ known → pieces ≡ piece ∷ known
then piece pieces rest known first behind = first ∙ ap (λ (ps : List Piece). piece ∷ ps) behind

pieces_are : (pieces : List Piece) (others : List (List Piece)) → AreComponents glob_text pieces others → (pieces ≡ script_pieces) × (others ≡ [])
pieces_are pieces others are =
    let d = next_plain (codes "*.log*") pieces others 100 refl are in
    let any = next_star (codes ".log*") d.rest others d.behind in
    let dot = next_plain (codes "log*") any.rest others 46 refl any.behind in
    let l = next_plain (codes "og*") dot.rest others 108 refl dot.behind in
    let o = next_plain (codes "g*") l.rest others 111 refl l.behind in
    let g = next_plain (codes "*") o.rest others 103 refl o.behind in
    let last = next_star [] g.rest others g.behind in
    let end : (last.rest ≡ []) × (others ≡ []) = no_more {pieces = last.rest} last.behind refl in
    let from_last : g.rest ≡ drop 6 script_pieces = then (Single Star) g.rest last.rest [] last.are end.0 in
    let from_g : o.rest ≡ drop 5 script_pieces = then (Single (Plain 103)) o.rest g.rest (drop 6 script_pieces) g.are from_last in
    let from_o : l.rest ≡ drop 4 script_pieces = then (Single (Plain 111)) l.rest o.rest (drop 5 script_pieces) o.are from_g in
    let from_l : dot.rest ≡ drop 3 script_pieces = then (Single (Plain 108)) dot.rest l.rest (drop 4 script_pieces) l.are from_o in
    let from_dot : any.rest ≡ drop 2 script_pieces = then (Single (Plain 46)) any.rest dot.rest (drop 3 script_pieces) dot.are from_l in
    let from_any : d.rest ≡ drop 1 script_pieces = then (Single Star) d.rest any.rest (drop 2 script_pieces) any.are from_dot in
    (then (Single (Plain 100)) pieces d.rest (drop 1 script_pieces) d.are from_any, end.1)

glob_chars : chars glob_text ≡ glob_text
unfolding chars
glob_chars = refl

pattern_is : (pattern : Pattern) → IsGlobText (chars glob_text) pattern → pattern ≡ script_pattern
pattern_is pattern spelled =
    let here : IsGlobText glob_text pattern = subst (λ text. IsGlobText text pattern) glob_chars spelled in
    let both = pieces_are here.pieces here.others here.reads in
    here.means
    ∙ ap (λ (ps : List Piece). let p : Pattern = record { is_absolute = false; components = components ps here.others } in p) both.0
    ∙ ap (λ (os : List (List Piece)). let p : Pattern = record { is_absolute = false; components = components script_pieces os } in p) both.1

pub patterns_are : (patterns : List Pattern) → ArePatterns (glob_text ∷ []) patterns → patterns ≡ script_pattern ∷ []
patterns_are [] are = absurd (omega (arith, are.many))
patterns_are (pattern ∷ []) are = ap (λ (p : Pattern). p ∷ []) (pattern_is pattern (are.each 0 glob_text pattern refl refl))
patterns_are (pattern ∷ other ∷ patterns) are = absurd (omega (arith, are.many))

pub no_patterns : (patterns : List Pattern) → ArePatterns [] patterns → patterns ≡ []
no_patterns [] are = refl
no_patterns (pattern ∷ patterns) are = absurd (omega (arith, are.many))

-- ---- the paths

whole_name : (text : List ℕ) → Avoids 47 text → names text ≡ text ∷ []
whole_name [] none = refl
whole_name (byte ∷ text) none = rw (ne_eqb byte 47 none.0, whole_name text none.1) refl

abbrev first : List ℕ → ℕ
first [] = 0
first (byte ∷ bytes) = byte

not_own : (rest : List ℕ) → IsOwnName (100 ∷ rest) → ⊥
not_own rest (inl e) = let heads : 100 ≡ 115 = ap first e in omega (arith, heads)
not_own rest (inr (inl e)) = let heads : 100 ≡ 111 = ap first e in omega (arith, heads)
not_own rest (inr (inr (inl e))) = let heads : 100 ≡ 99 = ap first e in omega (arith, heads)
not_own rest (inr (inr (inr (inl e)))) = let heads : 100 ≡ 99 = ap first e in omega (arith, heads)
not_own rest (inr (inr (inr (inr part)))) = let heads : 100 ≡ 111 = ap first part.is in omega (arith, heads)

-- `d`, any characters, `.log` and any characters
abbrev between : List ℕ → List ℕ → List ℕ
between middle tail = 100 ∷ (middle ++ 46 ∷ 108 ∷ 111 ∷ 103 ∷ tail)

plain_then : (c : ℕ) (pieces : List Piece) (text : List ℕ) → FitsPieces pieces text → FitsPieces (Single (Plain c) ∷ pieces) (c ∷ text)
plain_then c pieces text fits = (c ∷ [], text, refl, refl, fits)

star_then : (any : List ℕ) (pieces : List Piece) (text : List ℕ) → FitsPieces pieces text → FitsPieces (Single Star ∷ pieces) (any ++ text)
star_then any pieces text fits = (any, text, refl, tt, fits)

fits_between : (middle tail : List ℕ) → FitsPieces script_pieces (between middle tail)
fits_between middle tail =
    let last : FitsPieces (drop 6 script_pieces) tail = subst (FitsPieces (drop 6 script_pieces)) (append-nil tail) (star_then tail [] [] refl) in
    let og : FitsPieces (drop 4 script_pieces) (111 ∷ 103 ∷ tail) = plain_then 111 (drop 5 script_pieces) (103 ∷ tail) (plain_then 103 (drop 6 script_pieces) tail last) in
    let log : FitsPieces (drop 2 script_pieces) (46 ∷ 108 ∷ 111 ∷ 103 ∷ tail) = plain_then 46 (drop 3 script_pieces) (108 ∷ 111 ∷ 103 ∷ tail) (plain_then 108 (drop 4 script_pieces) (111 ∷ 103 ∷ tail) og) in
    plain_then 100 (drop 1 script_pieces) (middle ++ 46 ∷ 108 ∷ 111 ∷ 103 ∷ tail) (star_then middle (drop 2 script_pieces) (46 ∷ 108 ∷ 111 ∷ 103 ∷ tail) log)

included : (middle tail : List ℕ) → Avoids 47 middle → Avoids 47 tail → IsAscii middle → IsAscii tail → IsIncluded (script_pattern ∷ []) [] (between middle tail)
included middle tail plain_middle plain_tail ascii_middle ascii_tail =
    let path : List ℕ = between middle tail in
    let ends : IsAscii (46 ∷ 108 ∷ 111 ∷ 103 ∷ tail) =
    IsAscii-cons 46 (108 ∷ 111 ∷ 103 ∷ tail) (omega arith) (IsAscii-cons 108 (111 ∷ 103 ∷ tail) (omega arith) (IsAscii-cons 111 (103 ∷ tail) (omega arith) (IsAscii-cons 103 tail (omega arith) ascii_tail))) in
    let ascii : IsAscii path = IsAscii-cons 100 (middle ++ 46 ∷ 108 ∷ 111 ∷ 103 ∷ tail) (omega arith) (IsAscii-append middle (46 ∷ 108 ∷ 111 ∷ 103 ∷ tail) ascii_middle ends) in
    let apart : (c : ℕ) → c < 47 → c ≡ 47 → ⊥ = λ c below same. omega (arith, below, same) in
    let past : (c : ℕ) → 47 < c → c ≡ 47 → ⊥ = λ c above same. omega (arith, above, same) in
    let tail_plain : Avoids 47 (46 ∷ 108 ∷ 111 ∷ 103 ∷ tail) = (apart 46 (omega arith), (past 108 (omega arith), (past 111 (omega arith), (past 103 (omega arith), plain_tail)))) in
    let plain_path : Avoids 47 path = (past 100 (omega arith), avoids_append 47 middle (46 ∷ 108 ∷ 111 ∷ 103 ∷ tail) plain_middle tail_plain) in
    let one : names path ≡ path ∷ [] = whole_name path plain_path in
    record {
      text = IsUtf8-from_ascii path ascii;
      matched = (
        0,
        script_pattern,
        omega arith,
        refl,
        record {
          proper = rw one refl;
          rooted = refl;
          fits = subst (λ (all : List (List ℕ)). FitsNames script_pattern.components all) (sym one) (one_name (subst (λ (cs : List ℕ). InARow FitsPiece script_pieces cs) (sym (chars-IsAscii path ascii)) (fits_between middle tail)) no_names);
        },
      );
      not_excluded = λ some. omega (arith, some.2);
      not_own = λ own. not_own (middle ++ 46 ∷ 108 ∷ 111 ∷ 103 ∷ tail) own;
    }

pub log_included : (log : ℕ) → log < 3 → IsIncluded (script_pattern ∷ []) [] (log_name log)
log_included log few = included (decimal log) [] (number_avoids 47 log (omega (arith, few)) (omega arith)) tt (IsAscii-decimal log (omega (arith, few))) IsAscii-nil

pub rotated_included : (round : ℕ) → round ≤ 1000 → IsIncluded (script_pattern ∷ []) [] (rotated_name round)
rotated_included round few =
    let tail : List ℕ = 46 ∷ decimal round in
    let apart : ◌≢◌ {A = ℕ} 46 47 = λ same. omega (arith, same) in
    let other : ◌≢◌ {A = ℕ} 48 47 = λ same. omega (arith, same) in
    included (48 ∷ []) tail (other, tt) (apart, number_avoids 47 round (omega (arith, few)) (omega arith)) (IsAscii-cons 48 [] (omega arith) IsAscii-nil) (IsAscii-cons 46 (decimal round) (omega arith) (IsAscii-decimal round (omega (arith, few))))
