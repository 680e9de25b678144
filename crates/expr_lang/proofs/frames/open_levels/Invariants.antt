use Rattle.std.proofs.Common.{◌≡◌, ◌≤◌, take}
use Rattle.std.specs.List.{count_by}
use Rattle.expr_lang.specs.Machine.{nests, frame}
use Rattle.expr_lang.proofs.frames.open_levels.Given as goal

abbrev pub invariant-loop-frame : goal.invariant-loop-frame
invariant-loop-frame l = record {
  fits : l.count ≤ l.frame-index;
  counted : l.count ≡ count_by (λ one. nests (frame one)) (take l.frame-index l.frame-items);
}
