-- The paths of the worked histories are included.
use Rattle.std.proofs.Common.{◌≡◌, ℕ, List, [], ◌∷◌, ◌++◌, map, codes, IsTrue, Bool, true, false, true≢false, nat_lt, ◌&&◌, inl, inr, refl, sym, ap, subst, ◌∙◌, arith}
use Rattle.std.proofs.lemmas.List.{append-nil}
use Rattle.std.proofs.lemmas.Str.{IsUtf8-from_ascii, chars-IsAscii}
use Rattle.std.proofs.lemmas.Bool.{ltb-true}
use Rattle.std.proofs.lemmas.Str.Ascii.{IsAscii-nil, IsAscii-cons}
use Rattle.std.specs.List.{list_all}
use Rattle.std.specs.Str.{IsAscii}
use Rattle.glob_match.specs.Fits.{InARow, FitsPiece}
use Rattle.glob_match.specs.GlobMatch.{FitsNames, no_names, one_name}
use Rattle.glob_match.specs.Path.{names, relative, is_path, is_absolute}
use Rattle.glob_match.specs.declared.pattern.Piece.{Piece}
use Rattle.glob_match.specs.declared.pattern.Piece.TheVariants.{Single}
use Rattle.glob_match.specs.declared.pattern.Unit.TheVariants.{Plain, Star}
use Rattle.standing.specs.Example.{app_logs, each_line}
use Rattle.standing.specs.OwnNames.{IsOwnName}
use Rattle.standing.specs.Rules.{Includes}

abbrev app_pieces : List Piece
app_pieces = map (λ c. Single (Plain c)) (codes "app.log") ++ Single Star ∷ []

plain_front : (front rest : List ℕ) → InARow FitsPiece (map (λ c. Single (Plain c)) front ++ Single Star ∷ []) (front ++ rest)
plain_front [] rest = (rest, [], sym (append-nil rest), tt, refl)
plain_front (c ∷ front) rest = (c ∷ [], front ++ rest, refl, refl, plain_front front rest)

abbrev first : List ℕ → ℕ
first [] = 0
first (byte ∷ bytes) = byte

-- the path is one of `app.log*`
is_app_log : (path rest : List ℕ) → IsAscii path → path ≡ codes "app.log" ++ rest → names (relative path) ≡ path ∷ [] → IsTrue (is_path path) → is_absolute path ≡ false → Includes each_line path
is_app_log path rest ascii is one proper relative_path = record {
  text = IsUtf8-from_ascii path ascii;
  matched = (
    0,
    app_logs,
    omega arith,
    refl,
    record {
      proper = proper;
      rooted = relative_path;
      fits = subst (λ all. FitsNames app_logs.components all) (sym one) (one_name (subst (λ cs. InARow FitsPiece app_pieces cs) (sym (chars-IsAscii path ascii ∙ is)) (plain_front (codes "app.log") rest)) no_names);
    },
  );
  not_excluded = λ some. omega (arith, some.2);
  not_own = λ own. not_own (subst IsOwnName is own);
}
  where
    not_own : IsOwnName (codes "app.log" ++ rest) → ⊥
    not_own (inl e) = let heads : 97 ≡ 115 = ap first e in omega (arith, heads)
    not_own (inr (inl e)) = let heads : 97 ≡ 111 = ap first e in omega (arith, heads)
    not_own (inr (inr (inl e))) = let heads : 97 ≡ 99 = ap first e in omega (arith, heads)
    not_own (inr (inr (inr (inl e)))) = let heads : 97 ≡ 99 = ap first e in omega (arith, heads)
    not_own (inr (inr (inr (inr part)))) = let heads : 97 ≡ 111 = ap first part.is in omega (arith, heads)

all_ascii : (bytes : List ℕ) → list_all (λ byte. nat_lt byte 128) bytes ≡ true → IsAscii bytes
all_ascii [] is = IsAscii-nil
all_ascii (byte ∷ bytes) is = by (nat_lt byte 128) refl (all_ascii bytes) is
  where
    by : (b : Bool) → nat_lt byte 128 ≡ b → (list_all (λ byte. nat_lt byte 128) bytes ≡ true → IsAscii bytes) → (b && list_all (λ byte. nat_lt byte 128) bytes) ≡ true → IsAscii (byte ∷ bytes)
    by true below others rest = IsAscii-cons byte bytes (ltb-true byte 128 below) (others rest)
    by false above others rest = absurd (true≢false (sym rest))

pub app_log_included : Includes each_line (codes "app.log")
app_log_included = is_app_log (codes "app.log") [] (all_ascii (codes "app.log") refl) refl refl refl refl

pub renamed_included : Includes each_line (codes "app.log.1")
renamed_included = is_app_log (codes "app.log.1") (codes ".1") (all_ascii (codes "app.log.1") refl) refl refl refl refl
