-- The names of the output's parts.
use Rattle.std.proofs.Common.{◌≡◌, ℕ, List, [], ◌++◌, length, take, drop, Bool, IsTrue, refl, sym, ◌∙◌, ap, arith, length-append, append_assoc}
use Rattle.std.specs.Prelude.{codes}
use Rattle.std.specs.List.{list_all}
use Rattle.std.specs.Char.{is_ascii_digit}
use Rattle.std.proofs.lemmas.List.{take_at, drop_at}
use Rattle.standing.specs.OwnNames.{IsPartOfOutput}

same_middle : (front a b back : List ℕ) → front ++ (a ++ back) ≡ front ++ (b ++ back) → a ≡ b
same_middle front a b back same =
    let rest : a ++ back ≡ b ++ back = sym (drop_at front (a ++ back) (length front) refl) ∙ ap (drop (length front)) same ∙ drop_at front (b ++ back) (length front) refl in
    let size : length a ≡ length b = omega (arith, ap length rest, length-append a back, length-append b back) in
    sym (take_at a back (length a) refl) ∙ ap (take (length a)) rest ∙ take_at b back (length a) (sym size)

pub part_of_output : (path rest digits : List ℕ) (each : Bool) → path ≡ codes "output." ++ rest → rest ≡ digits ++ codes ".jsonl" → (digits ≡ [] → ⊥) → each ≡ list_all is_ascii_digit digits → (IsTrue each → IsPartOfOutput path) × (IsPartOfOutput path → IsTrue each)
part_of_output path rest digits each front back some is =
    let whole : path ≡ codes "output." ++ (digits ++ codes ".jsonl") = front ∙ ap (λ l. codes "output." ++ l) back in (
      λ yes. record { digits = digits; some = some; each = sym is ∙ yes; is = whole ∙ sym (append_assoc (codes "output.") digits (codes ".jsonl")) },
      λ part. is ∙ ap (list_all is_ascii_digit) (same_middle (codes "output.") digits part.digits (codes ".jsonl") (sym whole ∙ part.is ∙ append_assoc (codes "output.") part.digits (codes ".jsonl"))) ∙ part.each,
    )
