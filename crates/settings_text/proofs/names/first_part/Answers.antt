use Rattle.std.proofs.Common.{ℕ, ◌+◌, List, ◌∷◌, ◌∙◌, ap, sym, take}
use Rattle.std.proofs.lemmas.List.{take_rest}
use Rattle.settings_text.specs.Names.{parts_of}
use Rattle.settings_text.proofs.HeaderParts.{part_cut, part_uncut}
use Rattle.settings_text.proofs.names.first_part.Goals as goal

pub returns-then-end-text-clause-parts : goal.returns-then-end-text-clause-parts
returns-then-end-text-clause-parts c =
    let text = c.args.text.now in
    let end = c.part_len-end.result in
    part_cut c.args.delimiter text end c.part_len-end.ensures c.if-end-text.true
    ∙ ap (λ (l : List ℕ). take end text ∷ parts_of c.args.delimiter l) (sym (take_rest text (end + 1)))

pub returns-clause-parts : goal.returns-clause-parts
returns-clause-parts c = part_uncut c.args.delimiter c.args.text.now c.part_len-end.result c.part_len-end.ensures c.if-end-text.false
