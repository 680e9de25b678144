-- The characters that a class matches.
use Rattle.std.specs.Prelude.{ℕ, List, [], ◌∷◌, Bool, not, if◌then◌else◌, ◌==◌, ◌&&◌, nat_le}
use Rattle.std.specs.List.{list_any}
use Rattle.glob_match.specs.declared.class.Begun.{Begun}
use Rattle.glob_match.specs.declared.class.Begun.TheVariants as begun
use Rattle.glob_match.specs.declared.pattern.Sign.{Sign}
use Rattle.glob_match.specs.declared.pattern.Span.{Span}

pub record CharacterSet : Type 0 where
  pub is_negated : Bool
  pub spans : List Span

abbrev pub is_in_span : ℕ → Span → Bool
is_in_span character span = nat_le span.first character && nat_le character span.last

abbrev pub admits : CharacterSet → ℕ → Bool
admits set character = if set.is_negated then not (list_any (is_in_span character) set.spans) else list_any (is_in_span character) set.spans

abbrev pub is_dash : Sign → Bool
is_dash sign = not sign.is_escaped && (sign.character == 45)

abbrev pub span : Sign → Sign → Span
span first last = record { first = first.character; last = last.character }

-- Signs are spans of one character, but a sign, a dash and a sign are the span from one to the other. They are taken
-- from the left.
abbrev pub spans_from : Begun → List Sign → List Span
spans_from begun.Nothing [] = []
spans_from begun.Nothing (sign ∷ signs) = spans_from (begun.First sign) signs
spans_from (begun.First low) [] = span low low ∷ []
spans_from (begun.First low) (sign ∷ signs) = if is_dash sign then spans_from (begun.Dashed low sign) signs else span low low ∷ spans_from (begun.First sign) signs
spans_from (begun.Dashed low dash) [] = span low low ∷ span dash dash ∷ []
spans_from (begun.Dashed low dash) (sign ∷ signs) = span low sign ∷ spans_from begun.Nothing signs

abbrev pub spans_of : List Sign → List Span
spans_of signs = spans_from begun.Nothing signs
