-- The lines that stand before the first one that passes a place.
use Rattle.std.proofs.Common.{◌≡◌, ℕ, ◌+◌, ◌-◌, ◌<◌, ◌≤◌, List, [], ◌∷◌, ◌++◌, length, take, get_or, refl, sym, ap, ◌∙◌, inl, inr, arith, length-append, append_assoc}
use Rattle.std.proofs.Math.Seq.{get_or-append_seam, take-append_seam}
use Rattle.std.proofs.lemmas.Bool.{cases_lt}
use Rattle.std.proofs.lemmas.Grind.{flat_map-append}
use Rattle.std.proofs.lemmas.List.{append-nil, get_or_append_left, get_or-append_right, get_or-take, length-take-le}
use Rattle.otlp_json.specs.IsOneLine.{IsOneLine}
use Rattle.standing.specs.Marks.{Mark}
use Rattle.file_pass.specs.Full.{Crosses, line_of, lines_text}
use Rattle.stream_lines.specs.Inner.WholeFront.{IsWholeFront}

module _ (one_line : (mark : Mark) → IsOneLine (line_of mark)) where
  size_of : (mark : Mark) → length (line_of mark) ≡ length (one_line mark).content + 1
  size_of mark = omega (arith, ap length (one_line mark).ends, length-append (one_line mark).content (10 ∷ []))

  -- a line ends with an LF, whatever stands behind
  line_end : (mark : Mark) (behind : List ℕ) → get_or (line_of mark ++ behind) (length (line_of mark) - 1) 0 ≡ 10
  line_end mark behind =
      let one = one_line mark in
      ap (λ (n : ℕ). get_or (line_of mark ++ behind) n 0) (omega (arith, size_of mark))
      ∙ ap (λ (l : List ℕ). get_or (l ++ behind) (length one.content) 0) one.ends
      ∙ ap (λ (l : List ℕ). get_or l (length one.content) 0) (append_assoc one.content (10 ∷ []) behind)
      ∙ get_or-append_seam one.content 10 behind 0

  -- so do lines in a row
  lines_end : (marks : List Mark) → 0 < length (lines_text marks) → get_or (lines_text marks) (length (lines_text marks) - 1) 0 ≡ 10
  lines_end [] some = absurd (omega (arith, some))
  lines_end (first ∷ rest) some =
      let line = line_of first in
      let others = lines_text rest in
      let size : length (line ++ others) ≡ length line + length others = length-append line others in
      elim (cases_lt 0 (length others)) [
        | inl more ↦ (
            let place : length (line ++ others) - 1 ≡ length line + length others - 1 = omega (arith, size) in
            ap (λ (n : ℕ). get_or (line ++ others) n 0) place
            ∙ get_or-append_right line others (length line) (length line + length others - 1) 0 refl (omega (arith, more))
            ∙ ap (λ (n : ℕ). get_or others n 0) (omega (arith, more)) ∙ lines_end rest more)
        | inr none ↦ ap (λ (n : ℕ). get_or (line ++ others) n 0) (omega (arith, size, none)) ∙ line_end first others
      ]

  module _ (limit end : ℕ) (marks : List Mark) (full : ℕ) (crosses : Crosses limit end marks full) (all : List ℕ) (is : all ≡ lines_text marks) (le : end ≤ limit) (past : limit ≤ end + length all) where
    abbrev front : List ℕ
    front = lines_text crosses.front

    abbrev line : List ℕ
    line = line_of crosses.last

    abbrev back : List ℕ
    back = lines_text crosses.back

    abbrev room : ℕ
    room = limit - end

    split_is : all ≡ front ++ (line ++ back)
    split_is = is ∙ ap lines_text crosses.split ∙ flat_map-append line_of crosses.front (crosses.last ∷ crosses.back)

    front_size : length front ≤ room
    front_size = omega (arith, crosses.within_before, le)

    through : length (lines_text (crosses.front ++ crosses.last ∷ [])) ≡ length front + length line
    through =
        let parts : lines_text (crosses.front ++ crosses.last ∷ []) ≡ front ++ (line ++ []) = flat_map-append line_of crosses.front (crosses.last ∷ []) in
        omega (arith, ap length parts, length-append front (line ++ []), ap length (append-nil line))

    line_size : room < length front + length line
    line_size = omega (arith, crosses.size_then, crosses.too_much, through, le)

    -- the bytes before the place, one by one
    seen : (k : ℕ) → k < room → get_or (take room all) k 0 ≡ get_or (front ++ (line ++ back)) k 0
    seen k lt = get_or-take room all k 0 lt ∙ ap (λ (l : List ℕ). get_or l k 0) split_is

    pub front_is : (size : ℕ) → size ≤ length (take room all) → IsWholeFront (take room all) size → take size all ≡ front
    front_is size within whole =
        let long : length (take room all) ≡ room = length-take-le room all (omega (arith, past, le)) in
        let same : size ≡ length front = elim (cases_lt size (length front)) [
          | inl short ↦ (
              let k : ℕ = length front - 1 in
              let there : k < room = omega (arith, short, front_size) in
              absurd (whole.last k (omega (arith, short)) (omega (arith, long, there))
              (seen k there ∙ get_or_append_left front (line ++ back) 0 k (omega (arith, short)) ∙ lines_end crosses.front (omega (arith, short)))))
          | inr not_short ↦ elim (cases_lt (length front) size) [
            | inl over ↦ (
                let one = one_line crosses.last in
                let k : ℕ = size - 1 in
                let there : k < room = omega (arith, over, within, long) in
                let place : ℕ = k - length front in
                let inside : place < length one.content = omega (arith, over, there, line_size, size_of crosses.last) in
                absurd (one.no_other place 0 inside
                (sym (get_or_append_left one.content (10 ∷ back) 0 place inside)
                ∙ ap (λ (l : List ℕ). get_or l place 0) (sym (append_assoc one.content (10 ∷ []) back) ∙ ap (λ (l : List ℕ). l ++ back) (sym one.ends))
                ∙ sym (get_or-append_right front (line ++ back) (length front) k 0 refl (omega (arith, over)))
                ∙ sym (seen k there) ∙ whole.ends (omega (arith, over)))))
            | inr not_over ↦ omega (arith, not_short, not_over)
          ]
        ] in
        ap (λ (n : ℕ). take n all) same ∙ ap (take (length front)) split_is ∙ take-append_seam front (line ++ back)
