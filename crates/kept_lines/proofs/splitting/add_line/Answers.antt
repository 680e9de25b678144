use Rattle.std.proofs.Common.{◌≡◌, ◌-◌, ◌++◌, Some, map, length, arith, ap, ◌∙◌, refl, sym}
use Rattle.std.specs.Prelude.{slice_get, option_map}
use Rattle.std.proofs.lemmas.List.{map-set}
use Rattle.std.proofs.lemmas.Option.{slice_get_read, slice_get-map}
use Rattle.kept_lines.proofs.Texts.{adds_at}
use Rattle.kept_lines.proofs.splitting.add_line.Goals as goal

pub returns : goal.returns
returns c =
    let texts = c.args.texts.now in
    let id = c.in-Some.id in
    let old = c.index-texts-id.result in
    let there : slice_get (map (λ text. text.items) texts) (id - 1) ≡ Some old.items =
    slice_get-map (λ text. text.items) texts (id - 1) ∙ ap (option_map (λ text. text.items)) (slice_get_read texts (length texts) (id - 1) old refl (omega (arith, c.if-id-eq0.false, c.if-id-texts.false)) c.index-texts-id.is) in
    rw (c.in-Some.is, map-set (λ text. text.items) texts (id - 1) c.extend_from_slice.new.self)
    (adds_at id c.args.line.now (map (λ text. text.items) texts) old.items c.extend_from_slice.new.self.items (omega (arith, c.if-id-eq0.false)) there
    (c.in_ok-extend_from_slice.ensures.items ∙ ap (λ t. t.items ++ c.args.line.now) (sym c.index-texts-id.is)))
