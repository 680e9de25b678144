-- From how far a stream was taken to what its end or a fault leaves.
use Rattle.std.proofs.Common.{◌≡◌, ℕ, ◌<◌, ◌≤◌, List, [], ◌++◌, length, take, true, false, refl, sym, ap, ◌∙◌, arith, append_assoc, true≢false}
use Rattle.std.proofs.Math.Seq.{take-append_seam}
use Rattle.std.specs.Prelude.{Option, Bool, Result, Ok, Err}
use Rattle.file_pass.specs.Full.{lines_text}
use Rattle.outside.specs.Stream.{Takes}
use Rattle.outside.specs.World.{Told}
use Rattle.outside.proofs.Telling.{told_same, told_then}
use Rattle.pipeline.specs.declared.Pipeline.{Pipeline}
use Rattle.stream_lines.specs.Inner.HasTaken.{HasTaken, IsSane}
use Rattle.stream_lines.specs.Limits.{most_taken}
use Rattle.stream_lines.specs.Prints.{Prints, PrintsAll, Tells}
use Rattle.stream_lines.specs.StreamLines.{lines_of, open_lines, whole_lines}
use Rattle.stream_lines.specs.Streams.{Gives, Streams}
use Rattle.stream_lines.specs.declared.fault.StreamFault.{StreamFault}
use Rattle.stream_lines.specs.declared.fault.StreamFault.TheVariants.{Source, Report, Long, Full, Memory}
use Rattle.stream_lines.specs.declared.stream.Stream.{Stream}

-- a slice of a whole vector is written back whole
pub written_back : (len : ℕ) (new rest : List ℕ) → length new ≡ len → take len (new ++ rest) ≡ new
written_back len new rest is = ap (λ (n : ℕ). take n (new ++ rest)) (sym is) ∙ take-append_seam new rest

not_ended : {A : Type 0} → false ≡ true → A
not_ended is = absurd (true≢false (sym is))

pub gives_none : (rest : Option (List ℕ)) → Told (Gives [] false) rest rest
gives_none rest = told_same (Gives [] false) rest (λ text. record { taken = refl; all = not_ended })

pub gives_on : (given buffer : List ℕ) (count : ℕ) (rest mid new : Option (List ℕ)) → Told (Gives given false) rest mid → Told (Takes buffer count) mid new
    → Told (Gives (given ++ take count buffer) false) rest new
gives_on given buffer count rest mid new =
    told_then (Gives given false) (Takes buffer count) (Gives (given ++ take count buffer) false) rest mid new
    (λ x y z so_far next. record { taken = so_far.taken ∙ ap (λ (l : List ℕ). given ++ l) next.taken ∙ sym (append_assoc given (take count buffer) z); all = not_ended })

pub gives_end : (given buffer : List ℕ) (rest mid new : Option (List ℕ)) → 0 < length buffer → Told (Gives given false) rest mid → Told (Takes buffer 0) mid new → Told (Gives given true) rest new
gives_end given buffer rest mid new room =
    told_then (Gives given false) (Takes buffer 0) (Gives given true) rest mid new
    (λ x y z so_far next. record { taken = so_far.taken ∙ ap (λ (l : List ℕ). given ++ l) next.taken; all = λ _. sym next.taken ∙ next.ends refl room })

pub gives_same : (given : List ℕ) (rest mid new : Option (List ℕ)) → Told (Gives given false) rest mid → Told (λ (old after : List ℕ). after ≡ old) mid new → Told (Gives given false) rest new
gives_same given rest mid new =
    told_then (Gives given false) (λ (old after : List ℕ). after ≡ old) (Gives given false) rest mid new
    (λ x y z so_far same. record { taken = so_far.taken ∙ ap (λ (l : List ℕ). given ++ l) (sym same); all = not_ended })

-- the open lines so far are no more than may be printed
pub prints_open : (pipeline : Pipeline) (observed : Option ℕ) (given : List ℕ) (stream : Stream) (many : ℕ) (written now : Option (List ℕ)) → HasTaken pipeline observed given stream → IsSane pipeline stream many
    → Told (Prints (lines_text (open_lines pipeline observed given))) written now → PrintsAll (open_lines pipeline observed given) written now
prints_open pipeline observed given stream many written now taken sane told = record { within = omega (arith, taken.printed, sane.within); told = told }

module _ (pipeline : Pipeline) (observed : Option ℕ) (rest rest_after written written_after : Option (List ℕ)) (given : List ℕ) where
  pub stops : (ended : Bool) (fault : StreamFault) → Told (Gives given ended) rest rest_after → length given ≤ most_taken → Tells (lines_of pipeline observed ended given) (Err fault) written written_after
      → Streams pipeline observed rest rest_after written written_after (Err fault)
  stops ended Source gives few tells = absurd tells
  stops ended Long gives few tells = absurd tells
  stops ended (Full size) gives few tells = record { given = given; ended = ended; gives = gives; few = few; prints = tells }
  stops ended Report gives few tells = record { given = given; ended = ended; gives = gives; few = few; prints = tells }
  stops ended Memory gives few tells = record { given = given; ended = ended; gives = gives; few = few; prints = tells }

  pub ends : (result : Result Unit StreamFault) → Told (Gives given true) rest rest_after → length given < most_taken → Tells (whole_lines pipeline observed given) result written written_after
      → Streams pipeline observed rest rest_after written written_after result
  ends (Ok _) gives fewer tells = record { given = given; gives = gives; fewer = fewer; prints = tells }
  ends (Err fault) gives fewer tells = stops true fault gives (omega (arith, fewer)) tells
