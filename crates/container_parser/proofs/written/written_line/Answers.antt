use Rattle.std.proofs.Common.{ℕ, List, refl, subst, sym}
use Rattle.container_parser.specs.DockerLines.{IsDockerLine}
use Rattle.container_parser.proofs.AsWritten.{line_is}
use Rattle.container_parser.proofs.written.written_line.Goals as goal

pub returns : goal.returns
returns c =
    let line = c.args.text.now in let parts = c.in-Some-tail_of in (
      subst (λ (stream : List ℕ). IsDockerLine line c.in-Ok.timestamp stream c.in-Some-2.text) (sym c.in_ok-stream.ensures)
          (line_is line c.in-Some.front.now c.in-Some-2.text c.in-Some-2.behind.now parts.stream.now parts.time.now c.in-Ok.timestamp
          c.in-Some.ensures (rw c.in-Some-2.is at c.in_ok-text.ensures) parts.ensures c.in-Ok.ensures),
      refl,
    )
