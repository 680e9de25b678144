use Rattle.std.proofs.Common.{◌≡◌, drop}
use Rattle.std.specs.List.{list_any}
use Rattle.expr_lang.specs.Begun.{is_group}
use Rattle.expr_lang.specs.Machine.{frame}
use Rattle.expr_lang.proofs.frames.has_group.Given as goal

abbrev pub invariant-loop-frame : goal.invariant-loop-frame
invariant-loop-frame l = list_any (λ one. is_group (frame one)) l.frames.items ≡ list_any (λ one. is_group (frame one)) (drop l.frame-index l.frames.items)
