-- What is read of a layout's text is what its pieces stand for.
use Rattle.std.proofs.Common.{◌≡◌, ◌∙◌, sym, ap, refl, subst, ℕ, ◌+◌, List, [], ◌∷◌, ◌++◌, length, Bool, true, false, cond, ◌==◌, Option, Some, None, Ok, Err, Result, ◌↔◌, inl, inr, arith, append_assoc, append-nil}
use Rattle.std.specs.Prelude.{option_and_then}
use Rattle.std.proofs.Math.ListN.{length-append}
use Rattle.std.proofs.lemmas.Bool.{eqb-true, eqb-false, ne_eqb}
use Rattle.time_layout.specs.declared.directives.Given.{Given}
use Rattle.time_layout.specs.declared.parts.Part.{Part}
use Rattle.time_layout.specs.declared.parts.Part.TheVariants.{Literal}
use Rattle.time_layout.specs.LayoutGrammar.{Piece, IsPiece, ArePieces, bytes_of, parts_in, given_by, IsLayoutText, CannotGoOn, IsLayoutFault, IsLayoutOutcome}
use Rattle.time_layout.specs.LayoutText.{Draft, added, or_fault, parts_of, with_part, nothing_given, is_complete, layout_from, layout_parts, stepped}

bytes_of-append : (pieces more : List Piece) → bytes_of (pieces ++ more) ≡ bytes_of pieces ++ bytes_of more
bytes_of-append [] more = refl
bytes_of-append (piece ∷ pieces) more = ap (λ rest. piece.0 ++ rest) (bytes_of-append pieces more) ∙ sym (append_assoc piece.0 (bytes_of pieces) (bytes_of more))

parts_in-append : (pieces more : List Piece) → parts_in (pieces ++ more) ≡ parts_in pieces ++ parts_in more
parts_in-append [] more = refl
parts_in-append (piece ∷ pieces) more = ap (λ rest. piece.1 ++ rest) (parts_in-append pieces more) ∙ sym (append_assoc piece.1 (parts_in pieces) (parts_in more))

are-append : (pieces : List Piece) (piece : Piece) → ArePieces pieces → IsPiece piece → ArePieces (pieces ++ piece ∷ [])
are-append [] piece are is = (is, tt)
are-append (first ∷ pieces) piece are is = (are.0, are-append pieces piece are.1 is)

append_cases : (parts more : List Part) (next : Option Given)
    → ((given : Given) → given_by (parts ++ more) given ≡ option_and_then (given_by more) (given_by parts given))
    → option_and_then (given_by (parts ++ more)) next ≡ option_and_then (given_by more) (option_and_then (given_by parts) next)
append_cases parts more None later = refl
append_cases parts more (Some given) later = later given

given_by-append : (parts more : List Part) (given : Given) → given_by (parts ++ more) given ≡ option_and_then (given_by more) (given_by parts given)
given_by-append [] more given = refl
given_by-append (part ∷ parts) more given = append_cases parts more (with_part part given) (λ next. given_by-append parts more next)

some_or : Given → Option Given → Given
some_or given None = given
some_or given (Some other) = other

same_given : (one other : Given) → Some one ≡ Some other → one ≡ other
unfolding some_or
same_given one other is = ap (some_or one) is

-- a draft behind whole pieces
abbrev pub drafted : List Part → Given → Draft
drafted parts given = record { parts = parts; given = given; percent = None }

all_cases : (part : Part) (parts before : List Part) (given : Given) (next : Option Given)
    → ((so_far : List Part) (mid : Given) → given_by parts mid ≡ Some given → added parts (drafted so_far mid) ≡ Some (drafted (so_far ++ parts) given))
    → option_and_then (given_by parts) next ≡ Some given
    → option_and_then (λ mid. added parts (drafted (before ++ part ∷ []) mid)) next ≡ Some (drafted (before ++ part ∷ parts) given)
all_cases part parts before given None later is = cc
all_cases part parts before given (Some mid) later is =
    later (before ++ part ∷ []) mid is ∙ ap (λ all. Some (drafted all given)) (append_assoc before (part ∷ []) parts)

added_all : (parts before : List Part) (given after : Given) → given_by parts given ≡ Some after
    → added parts (drafted before given) ≡ Some (drafted (before ++ parts) after)
added_all [] before given after is = rw append-nil (ap (λ g. Some (drafted before g)) (same_given given after is))
added_all (part ∷ parts) before given after is =
    all_cases part parts before after (with_part part given) (λ so_far mid. added_all parts so_far mid after) is

none_cases : (part : Part) (parts before : List Part) (next : Option Given)
    → ((so_far : List Part) (mid : Given) → given_by parts mid ≡ None → added parts (drafted so_far mid) ≡ None)
    → option_and_then (given_by parts) next ≡ None → option_and_then (λ mid. added parts (drafted (before ++ part ∷ []) mid)) next ≡ None
none_cases part parts before None later is = refl
none_cases part parts before (Some mid) later is = later (before ++ part ∷ []) mid is

added_none : (parts before : List Part) (given : Given) → given_by parts given ≡ None → added parts (drafted before given) ≡ None
added_none [] before given is = cc
added_none (part ∷ parts) before given is = none_cases part parts before (with_part part given) (λ so_far mid. added_none parts so_far mid) is

-- pieces that give nothing twice stand before the place
pub record Stands (full text : List ℕ) (at : ℕ) (parts : List Part) (given : Given) : Type 0 where
  pub pieces : List Piece
  pub are : ArePieces pieces
  pub is : full ≡ bytes_of pieces ++ text
  pub place : at ≡ length (bytes_of pieces)
  pub parts_are : parts ≡ parts_in pieces
  pub once : given_by (parts_in pieces) nothing_given ≡ Some given

-- one piece more
one_more : (full text own : List ℕ) (at next : ℕ) (parts more : List Part) (given after : Given) → IsPiece (own, more) → next ≡ at + length own
    → given_by more given ≡ Some after → Stands full (own ++ text) at parts given → Stands full text next (parts ++ more) after
one_more full text own at next parts more given after piece size gives s =
    let piece_bytes : bytes_of ((own, more) ∷ []) ≡ own = append-nil own in
    let piece_parts : parts_in ((own, more) ∷ []) ≡ more = append-nil more in
    let bytes : bytes_of (s.pieces ++ (own, more) ∷ []) ≡ bytes_of s.pieces ++ own =
    bytes_of-append s.pieces ((own, more) ∷ []) ∙ ap (λ b. bytes_of s.pieces ++ b) piece_bytes in
    let all : parts_in (s.pieces ++ (own, more) ∷ []) ≡ parts_in s.pieces ++ more =
    parts_in-append s.pieces ((own, more) ∷ []) ∙ ap (λ p. parts_in s.pieces ++ p) piece_parts in
    record {
      pieces = s.pieces ++ (own, more) ∷ [];
      are = are-append s.pieces (own, more) s.are piece;
      is = s.is ∙ sym (append_assoc (bytes_of s.pieces) own text) ∙ ap (λ b. b ++ text) (sym bytes);
      place = omega (arith, size, s.place, ap length bytes, length-append (bytes_of s.pieces) own);
      parts_are = ap (λ p. p ++ more) s.parts_are ∙ sym all;
      once = rw all (given_by-append (parts_in s.pieces) more nothing_given ∙ ap (option_and_then (given_by more)) s.once ∙ gives);
    }

end_cases : (complete : Bool) (full : List ℕ) (at : ℕ) (parts : List Part) (given : Given) → Stands full [] at parts given → is_complete given ≡ complete
    → IsLayoutOutcome full (cond {A = Result (List Part) ℕ} complete (Ok parts) (Err at))
end_cases true full at parts given s complete = record {
  pieces = s.pieces;
  are = s.are;
  is = s.is ∙ append-nil (bytes_of s.pieces);
  parts_are = s.parts_are;
  given = given;
  once = rw s.parts_are s.once;
  complete = complete;
}
end_cases false full at parts given s complete = record {
  pieces = s.pieces;
  rest = [];
  are = s.are;
  is = s.is;
  place = s.place;
  given = given;
  once = s.once;
  stops = inl (refl, complete);
}

stopped : (full rest : List ℕ) (at : ℕ) (parts : List Part) (given : Given) → Stands full rest at parts given → CannotGoOn given rest → IsLayoutFault full at
stopped full rest at parts given s stops = record {
  pieces = s.pieces;
  rest = rest;
  are = s.are;
  is = s.is;
  place = s.place;
  given = given;
  once = s.once;
  stops = stops;
}

literal_stands : (full text : List ℕ) (byte at : ℕ) (parts : List Part) (given : Given) → (byte == 37) ≡ false → Stands full (byte ∷ text) at parts given
    → Stands full text (at + 1) (parts ++ Literal byte ∷ []) given
literal_stands full text byte at parts given other s =
    one_more full text (byte ∷ []) at (at + 1) parts (Literal byte ∷ []) given given (inl (byte, refl, eqb-false byte 37 other, refl)) refl refl s

percent_stands : (full text : List ℕ) (byte at : ℕ) (parts : List Part) (given : Given) → (byte == 37) ≡ true → Stands full (byte ∷ text) at parts given
    → Stands full (37 ∷ text) at parts given
percent_stands full text byte at parts given percent s = subst (λ b. Stands full (b ∷ text) at parts given) (eqb-true byte 37 percent) s

gives_cases : (after : Option Given) (full text : List ℕ) (letter at : ℕ) (parts more : List Part) (given : Given) → Stands full (37 ∷ letter ∷ text) at parts given
    → parts_of letter ≡ Some more → given_by more given ≡ after
    → ((all : List Part) (next : Given) → Stands full text (at + 1 + 1) all next → IsLayoutOutcome full (layout_from text (at + 1 + 1) (drafted all next)))
    → IsLayoutOutcome full (stepped (or_fault at (added more (drafted parts given))) (λ next. layout_from text (at + 1 + 1) next))
gives_cases None full text letter at parts more given s is gives later =
    rw (added_none more parts given gives) (stopped full (37 ∷ letter ∷ text) at parts given s (inr (inr (letter, text, refl, inr (more, is, gives)))))
gives_cases (Some after) full text letter at parts more given s is gives later =
    rw (added_all more parts given after gives)
    (later (parts ++ more) after (one_more full text (37 ∷ letter ∷ []) at (at + 1 + 1) parts more given after (inr (letter, refl, is)) (omega arith) gives s))

letter_cases : (known : Option (List Part)) (full text : List ℕ) (letter at : ℕ) (parts : List Part) (given : Given) → Stands full (37 ∷ letter ∷ text) at parts given
    → parts_of letter ≡ known
    → ((all : List Part) (next : Given) → Stands full text (at + 1 + 1) all next → IsLayoutOutcome full (layout_from text (at + 1 + 1) (drafted all next)))
    → IsLayoutOutcome full (stepped (or_fault at (option_and_then (λ more. added more (drafted parts given)) known)) (λ next. layout_from text (at + 1 + 1) next))
letter_cases None full text letter at parts given s is later =
    stopped full (37 ∷ letter ∷ text) at parts given s (inr (inr (letter, text, refl, inl is)))
letter_cases (Some more) full text letter at parts given s is later =
    gives_cases (given_by more given) full text letter at parts more given s is refl later

abbrev pub literal_or_open : Bool → ℕ → ℕ → List Part → Given → Result Draft ℕ
literal_or_open percent byte at parts given =
    cond percent (Ok (record { parts = parts; given = given; percent = Some at })) (Ok (drafted (parts ++ Literal byte ∷ []) given))

last_cases : (percent : Bool) (full : List ℕ) (byte at : ℕ) (parts : List Part) (given : Given) → Stands full (byte ∷ []) at parts given → (byte == 37) ≡ percent
    → (Stands full [] (at + 1) (parts ++ Literal byte ∷ []) given → IsLayoutOutcome full (layout_from [] (at + 1) (drafted (parts ++ Literal byte ∷ []) given)))
    → IsLayoutOutcome full (stepped (literal_or_open percent byte at parts given) (λ next. layout_from [] (at + 1) next))
last_cases true full byte at parts given s is later = stopped full (37 ∷ []) at parts given (percent_stands full [] byte at parts given is s) (inr (inl refl))
last_cases false full byte at parts given s is later = later (literal_stands full [] byte at parts given is s)

more_cases : (percent : Bool) (full text : List ℕ) (byte letter at : ℕ) (parts : List Part) (given : Given) → Stands full (byte ∷ letter ∷ text) at parts given → (byte == 37) ≡ percent
    → (Stands full (letter ∷ text) (at + 1) (parts ++ Literal byte ∷ []) given → IsLayoutOutcome full (layout_from (letter ∷ text) (at + 1) (drafted (parts ++ Literal byte ∷ []) given)))
    → ((all : List Part) (next : Given) → Stands full text (at + 1 + 1) all next → IsLayoutOutcome full (layout_from text (at + 1 + 1) (drafted all next)))
    → IsLayoutOutcome full (stepped (literal_or_open percent byte at parts given) (λ next. layout_from (letter ∷ text) (at + 1) next))
more_cases true full text byte letter at parts given s is literal later =
    letter_cases (parts_of letter) full text letter at parts given (percent_stands full (letter ∷ text) byte at parts given is s) refl later
more_cases false full text byte letter at parts given s is literal later = literal (literal_stands full (letter ∷ text) byte at parts given is s)

outcome : (text full : List ℕ) (at : ℕ) (parts : List Part) (given : Given) → Stands full text at parts given → IsLayoutOutcome full (layout_from text at (drafted parts given))
outcome [] full at parts given s = end_cases (is_complete given) full at parts given s refl
outcome (byte ∷ []) full at parts given s = last_cases (byte == 37) full byte at parts given s refl (λ t. outcome [] full (at + 1) (parts ++ Literal byte ∷ []) given t)
outcome (byte ∷ letter ∷ text) full at parts given s =
    more_cases (byte == 37) full text byte letter at parts given s refl
    (λ t. outcome (letter ∷ text) full (at + 1) (parts ++ Literal byte ∷ []) given t)
    (λ all next t. outcome text full (at + 1 + 1) all next t)

-- a layout's text has the parts of its pieces, or the fault behind them
pub layouts_are_read : (text : List ℕ) → IsLayoutOutcome text (layout_parts text)
layouts_are_read text = outcome text text 0 [] nothing_given (record { pieces = []; are = tt; is = refl; place = refl; parts_are = refl; once = refl })

-- what more parts give besides
pub record Both (more rest : List Part) (given after : Given) : Type 0 where
  pub mid : Given
  pub first : given_by more given ≡ Some mid
  pub second : given_by rest mid ≡ Some after

both_cases : (more rest : List Part) (given after : Given) (next : Option Given) → given_by more given ≡ next → option_and_then (given_by rest) next ≡ Some after
    → Both more rest given after
both_cases more rest given after None is gives = cc
both_cases more rest given after (Some mid) is gives = record { mid = mid; first = is; second = gives }

complete_end : (complete : Bool) (parts : List Part) (at : ℕ) → complete ≡ true → cond {A = Result (List Part) ℕ} complete (Ok parts) (Err at) ≡ Ok parts
complete_end complete parts at is = rw is refl

piece_reads : (own : List ℕ) (more : List Part) (pieces : List Piece) (at : ℕ) (before : List Part) (given after : Given)
    → ((next : ℕ) (all : List Part) (mid : Given) → given_by (parts_in pieces) mid ≡ Some after → layout_from (bytes_of pieces) next (drafted all mid) ≡ Ok (all ++ parts_in pieces))
    → IsPiece (own, more) → given_by (more ++ parts_in pieces) given ≡ Some after
    → layout_from (own ++ bytes_of pieces) at (drafted before given) ≡ Ok (before ++ (more ++ parts_in pieces))
piece_reads own more pieces at before given after later (inl literal) gives =
    let other : (literal.0 == 37) ≡ false = ne_eqb literal.0 37 literal.2 in
    let rest_gives : given_by (parts_in pieces) given ≡ Some after = rw literal.3 at gives in
    rw (literal.1, other, literal.3)
    (later (at + 1) (before ++ Literal literal.0 ∷ []) given rest_gives ∙ ap Ok (append_assoc before (Literal literal.0 ∷ []) (parts_in pieces)))
piece_reads own more pieces at before given after later (inr directive) gives =
    let two = both_cases more (parts_in pieces) given after (given_by more given) refl (sym (given_by-append more (parts_in pieces) given) ∙ gives) in
    rw (directive.1, directive.2, added_all more before given two.mid two.first)
    (later (at + 1 + 1) (before ++ more) two.mid two.second ∙ ap Ok (append_assoc before more (parts_in pieces)))

reads_pieces : (pieces : List Piece) (at : ℕ) (before : List Part) (given after : Given) → ArePieces pieces → given_by (parts_in pieces) given ≡ Some after
    → is_complete after ≡ true → layout_from (bytes_of pieces) at (drafted before given) ≡ Ok (before ++ parts_in pieces)
reads_pieces [] at before given after are gives complete =
    rw append-nil (complete_end (is_complete given) before at (ap is_complete (same_given given after gives) ∙ complete))
reads_pieces (piece ∷ pieces) at before given after are gives complete =
    piece_reads piece.0 piece.1 pieces at before given after (λ next all mid rest. reads_pieces pieces next all mid after are.1 rest complete) are.0 gives

-- a text is read exactly where it is one of a layout, and as its parts
pub layouts_read_exactly : (text : List ℕ) (parts : List Part) → (layout_parts text ≡ Ok parts) ↔ IsLayoutText text parts
layouts_read_exactly text parts = (
  λ is. subst (IsLayoutOutcome text) is (layouts_are_read text),
  λ layout. ap layout_parts layout.is
      ∙ reads_pieces layout.pieces 0 [] nothing_given layout.given layout.are (ap (λ p. given_by p nothing_given) (sym layout.parts_are) ∙ layout.once) layout.complete
      ∙ ap Ok (sym layout.parts_are),
)

pub layout_faults : (text : List ℕ) (at : ℕ) → layout_parts text ≡ Err at → IsLayoutFault text at
layout_faults text at is = subst (IsLayoutOutcome text) is (layouts_are_read text)
