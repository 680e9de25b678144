use Rattle.std.proofs.Common.{◌≡◌, List, ℕ, length, sym, subst, ap, ◌∙◌}
use Rattle.std.proofs.lemmas.Result.{on_ok_weaker}
use Rattle.outside.specs.Image.{Torn}
use Rattle.out_segments.specs.MemLog.{written_over}
use Rattle.out_segments.proofs.CrashTearing.{torn_put}
use Rattle.out_segments.proofs.memory.tear.Tear.write.Goals as goal

pub returns-clause-torn : goal.returns-clause-torn
returns-clause-torn c =
    let tear = c.args.self in
    let old = c.args.left.now.items in
    let put = torn_put tear.kind tear.variation tear.file c.args.offset c.args.bytes.now old in
    let same = c.deref.ensures.value ∙ c.in_ok-piece.ensures in
    let P : List ℕ → Type 0 = λ new. Torn c.args.offset (length c.args.bytes.now) old new in
    on_ok_weaker c.write_over.result (λ wrote. subst P (sym (wrote ∙ ap (λ piece. written_over c.args.offset piece old) same)) put) c.write_over.ensures.ok
