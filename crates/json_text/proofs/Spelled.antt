-- Pieces that are read one by one spell what all of them spell.
use Rattle.std.proofs.Common.{◌≡◌, ℕ, List, [], ◌∷◌, ◌++◌, ◌∙◌, sym, refl, Option, None, Some, Bool, true, false, ◌&&◌, append_assoc, cond}
use Rattle.std.proofs.lemmas.List.{append-nil}
use Rattle.std.specs.Char.Utf16.{is_high_surrogate, is_low_surrogate}
use Rattle.json_text.specs.declared.content.Piece.{Piece}
use Rattle.json_text.specs.declared.content.Piece.TheVariants as piece
use Rattle.json_text.specs.Machine.{Content, no_content, text_so_far}
use Rattle.json_text.specs.Pieces.{text_of, lone_unit, pair_of_units}
use Rattle.json_text.proofs.Completions.{with_pieces}

-- what is read, in front of these pieces
abbrev whole : List ℕ → Option ℕ → List Piece → List ℕ
whole done None pieces = done ++ text_of pieces
whole done (Some unit) pieces = done ++ text_of (piece.Unit unit ∷ pieces)

go : (pieces : List Piece) (done : List ℕ) (waiting : Option ℕ)
    → text_so_far (with_pieces (record { done = done; waiting = waiting }) pieces) ≡ whole done waiting pieces
go [] done None = sym (append-nil done)
go [] done (Some unit) = refl
go (piece.Byte byte ∷ pieces) done None = go pieces (done ++ byte ∷ []) None ∙ append_assoc done (byte ∷ []) (text_of pieces)
go (piece.Byte byte ∷ pieces) done (Some unit) =
    go pieces ((done ++ lone_unit unit) ++ byte ∷ []) None
    ∙ append_assoc (done ++ lone_unit unit) (byte ∷ []) (text_of pieces)
    ∙ append_assoc done (lone_unit unit) (byte ∷ text_of pieces)
go (piece.Unit next ∷ pieces) done None = go pieces done (Some next)
go (piece.Unit next ∷ pieces) done (Some unit) =
    by (is_high_surrogate unit && is_low_surrogate next) (go pieces (done ++ pair_of_units unit next) None) (go pieces (done ++ lone_unit unit) (Some next))
  where
    paired : Content
    paired = record { done = done ++ pair_of_units unit next; waiting = None }

    alone : Content
    alone = record { done = done ++ lone_unit unit; waiting = Some next }

    by : (b : Bool)
        → text_so_far (with_pieces (record { done = done ++ pair_of_units unit next; waiting = None }) pieces) ≡ (done ++ pair_of_units unit next) ++ text_of pieces
        → text_so_far (with_pieces (record { done = done ++ lone_unit unit; waiting = Some next }) pieces) ≡ (done ++ lone_unit unit) ++ text_of (piece.Unit next ∷ pieces)
        → text_so_far (with_pieces (cond b (record { done = done ++ pair_of_units unit next; waiting = None }) (record { done = done ++ lone_unit unit; waiting = Some next })) pieces)
        ≡ done ++ cond b (pair_of_units unit next ++ text_of pieces) (lone_unit unit ++ text_of (piece.Unit next ∷ pieces))
    by true p a = p ∙ append_assoc done (pair_of_units unit next) (text_of pieces)
    by false p a = a ∙ append_assoc done (lone_unit unit) (text_of (piece.Unit next ∷ pieces))

pub text_of_pieces : (pieces : List Piece) → text_so_far (with_pieces no_content pieces) ≡ text_of pieces
text_of_pieces pieces = go pieces [] None
