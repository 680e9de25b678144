use Rattle.std.proofs.Common.{◌≡◌, ◌+◌, ◌*◌, ◌-◌, ◌/◌, ◌%◌, ℕ, IsTrue, length, subst, sym, ap, arith, ◌∙◌}
use Rattle.std.proofs.lemmas.List.{length-take}
use Rattle.std.proofs.lemmas.Nat.{div-add-mod', mod_below}
use Rattle.outside.specs.Content.{Gives}
use Rattle.outside.specs.Image.{Image}
use Rattle.out_segments.specs.declared.parts.PartFile.{PartFile}
use Rattle.out_segments.specs.declared.parts.PartFile.TheVariants.{Part}
use Rattle.out_segments.specs.Joined.{output_of}
use Rattle.out_segments.proofs.Outputs.{output_most}
use Rattle.out_segments.proofs.Ends.{gives_none, gives_output, gives_front}
use Rattle.out_segments.proofs.reading.read_output.Goals as goal

pub returns-in_default-clause-bytes : goal.returns-in_default-clause-bytes
returns-in_default-clause-bytes g c told =
    let image = g.P.Parts.meaning.images.seen c.args.parts.now in
    gives_none (output_of c.args.size image) c.args.buf.now c.args.offset (omega (arith, output_most c.args.size image, c.in_default.ensures.none))

pub returns-clause-bytes : goal.returns-clause-bytes
returns-clause-bytes g c told =
    let seen = g.P.Parts.meaning.images.seen in
    let image = seen c.args.parts.now in
    let read = c.reaches.ensures.only_read in
    let inside = c.args.offset % c.args.size in
    let place = c.in-Some.place in
    let is : place ≡ c.args.offset / c.args.size = c.in-Some.ensures.some in
    let early = mod_below c.args.offset c.args.size (omega (arith, c.requires.size.some)) in
    let reached = (c.in_ok-reaches.ensures.reached told).0 c.if-not-branch.false in
    let whole : place * c.args.size + inside ≡ c.args.offset = ap (λ p. p * c.args.size + inside) is ∙ div-add-mod' c.args.offset c.args.size in
    let given : Gives (image (Part place)) inside c.read.new.buf c.in_ok-count.count =
    (let Q : Image PartFile → Type 0 = λ i. Gives (i (Part place)) inside c.read.new.buf c.in_ok-count.count in
    subst Q read.seen (c.in_ok-count.ensures.bytes (subst IsTrue (sym read.terms.tells) told))) in
    let long : length c.read.new.buf ≡ c.min-most.result = omega (arith, c.read.auto.buf, length-take c.min-most.result c.args.buf.now, c.min-most.ensures) in
    let out = gives_output c.args.size place inside image (omega arith) early reached c.read.new.buf c.in_ok-count.count (omega (arith, long, c.min-most.ensures)) given in
    let Q : ℕ → Type 0 = λ offset. Gives (output_of c.args.size image) offset c.read.new.buf c.in_ok-count.count in
    gives_front (output_of c.args.size image) c.read.new.buf c.args.buf.now c.args.offset c.in_ok-count.count c.min-most.result (c.args.size - inside) long c.min-most.ensures (omega (arith, early)) (subst Q whole out)
