use Rattle.std.proofs.Common.{◌≡◌, ◌++◌, ◌∙◌, ℕ, List, [], ◌∷◌, sym, ap, length, arith}
use Rattle.std.proofs.lemmas.Str.{chars-nil, chars_past_char}
use Rattle.std.specs.Prelude.{encode_utf8}
use Rattle.std.specs.Str.{chars}
use Rattle.glob_match.proofs.search.next.Goals as goal

no_bytes : (text : List ℕ) → length text ≡ 0 → chars text ≡ []
no_bytes [] e = chars-nil
no_bytes (byte ∷ text) e = absurd (omega arith)

pub returns-in-Some : goal.returns-in-Some
returns-in-Some c =
    chars_past_char c.args.name.now c.as_str.result.now c.in-Some.character c.utf8.name
    (sym c.chars-characters.ensures.rest ∙ c.in-Some.ensures.steps.0 ∙ ap (λ (t : List ℕ). encode_utf8 c.in-Some.character ++ t) (sym c.as_str.ensures))

pub returns-in-None : goal.returns-in-None
returns-in-None c = no_bytes c.args.name.now (ap length (sym c.chars-characters.ensures.rest) ∙ c.in-None.ensures.steps.0.0)
