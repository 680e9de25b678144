use Rattle.std.proofs.Common.{◌≡◌, ◌+◌, ◌-◌, ◌++◌, ◌∷◌, [], ℕ, List, length, ap, ◌∙◌, sym, subst, arith}
use Rattle.std.proofs.lemmas.List.{length_push}
use Rattle.std.proofs.lemmas.Result.{err_from_is_err_and}
use Rattle.recombine.specs.Group.{Group}
use Rattle.recombine.specs.Steps.{text_bytes}
use Rattle.recombine.specs.Table.{Held, held_seen}
use Rattle.recombine.proofs.SpellingLemmas.{SoFar, start_so_far, not_err, next_so_far, all_so_far, count_refused, group_refused, group_known}
use Rattle.recombine.proofs.TableLemmas.{bytes_append, bytes_cons}
use Rattle.recombine.proofs.saving.restore.Goals as goal

pub returns-in_err-count : goal.returns-in_err-count
returns-in_err-count c =
    let p = err_from_is_err_and c.from_residual.result c.from_residual.ensures.1 in
    rw (p.1, p.2) (count_refused {X = ℕ} (λ n. n) c.args.bytes.now c.args.at c.in_err-count.field-0.0 (λ i. omega (arith, c.type_inv.bytes i)) c.in_err-count.ensures.told)

pub returns-in_err-group : goal.returns-in_err-group
returns-in_err-group c =
    let p = err_from_is_err_and c.from_residual-in_err-group.result c.from_residual-in_err-group.ensures.1 in
    rw (p.1, p.2)
    (group_refused {X = Held} held_seen c.args.bytes.now c.args.at c.loop-index.groups (c.in_ok-count.count - c.loop-index._index) (c.in_ok-count.count - c.loop-index._index - 1) c.loop-index.place
    c.in_err-group.field-0.0 (λ i. omega (arith, c.type_inv.bytes i)) (omega (arith, c.loop-index-test.true)) c.loop-index.invariant.so_far c.in_err-group.ensures)

pub loop-index-init : goal.loop-index-init
loop-index-init c = record {
  so_far = start_so_far c.args.bytes.now c.args.at c.in_ok-count.count c.in_ok-count.first (c.in_ok-count.count - 0) c.new-groups.result c.new-groups.ensures (omega arith) c.in_ok-count.ensures.told;
  size = ap length c.new-groups.ensures;
  bytes = omega (arith, ap text_bytes c.new-groups.ensures);
}

pub loop-index-preserved : goal.loop-index-preserved
loop-index-preserved c =
    let known = group_known c.loop-index.groups c.args.bytes.now c.loop-index.place (held_seen c.in_ok-group.group) c.in_ok-group.next (λ i. omega (arith, c.type_inv.bytes i)) c.in_ok-group.ensures in
    let put : c.push.new.self ≡ c.loop-index.groups ++ held_seen c.in_ok-group.group ∷ [] = not_err c.push.result _ (sym c.is_err.ensures.value ∙ c.if-is_err.false) c.push.ensures in
    record {
      so_far = subst (λ (gs : List Group). SoFar c.args.bytes.now c.args.at gs (c.in_ok-count.count - (c.loop-index._index + 1)) c.in_ok-group.next) (sym put)
          (next_so_far c.args.bytes.now c.args.at c.loop-index.groups (c.in_ok-count.count - c.loop-index._index) (c.in_ok-count.count - (c.loop-index._index + 1)) c.loop-index.place (held_seen c.in_ok-group.group) c.in_ok-group.next
          (omega (arith, c.loop-index-test.true)) c.loop-index.invariant.so_far c.in_ok-group.ensures);
      size = omega (arith, ap length put, length_push c.loop-index.groups (held_seen c.in_ok-group.group), c.loop-index.invariant.size);
      bytes = omega (
        arith,
        ap text_bytes put,
        bytes_append c.loop-index.groups (held_seen c.in_ok-group.group ∷ []),
        bytes_cons (held_seen c.in_ok-group.group) [],
        c.loop-index.invariant.bytes,
        known.short,
      );
    }

pub push-requires : goal.push-requires
push-requires c =
    let known = group_known c.loop-index.groups c.args.bytes.now c.loop-index.place (held_seen c.in_ok-group.group) c.in_ok-group.next (λ i. omega (arith, c.type_inv.bytes i)) c.in_ok-group.ensures in
    record {
      new = known.new;
      is_open = known.is_open;
      few = omega (arith, c.loop-index.invariant.size, c.loop-index-test.true, c.in_ok-count.ensures.few);
      fits = omega (arith, c.loop-index.invariant.bytes, known.short, c.loop-index-test.true, c.in_ok-count.ensures.few);
    }

pub returns : goal.returns
returns c =
    all_so_far c.args.bytes.now c.args.at c.loop-index.groups (c.in_ok-count.count - c.loop-index._index) c.loop-index.place (λ i. omega (arith, c.type_inv.bytes i)) (omega (arith, c.loop-index-test.false))
    c.loop-index.invariant.so_far
