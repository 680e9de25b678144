use Rattle.std.proofs.Common.{◌∙◌, ap, arith}
use Rattle.std.proofs.lemmas.List.Sums.{prefix_len-le-length}
use Rattle.std.specs.List.{prefix_len}
use Rattle.text_parsers.specs.Blanks.{is_blank}
use Rattle.text_parsers.proofs.Ends.{blanks_end_boundary}
use Rattle.text_parsers.proofs.blanks.blanks_before.Goals as goal

pub returns-clause-within : goal.returns-clause-within
returns-clause-within c =
    let is = c.blank_count.ensures ∙ ap (prefix_len is_blank) c.as_bytes.ensures.value in
    let most = prefix_len-le-length is_blank c.args.text.now in
    omega arith

pub returns-clause-boundary : goal.returns-clause-boundary
returns-clause-boundary c =
    blanks_end_boundary c.args.text.now c.blank_count.result c.utf8.text (c.blank_count.ensures ∙ ap (prefix_len is_blank) c.as_bytes.ensures.value)
