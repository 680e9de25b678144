use Rattle.std.proofs.Common.{arith, ◌+◌, ◌++◌, ◌∷◌, [], ℕ, List, length, ap, sym, subst, ◌<◌, ◌∙◌, string_bytes}
use Rattle.recombine.specs.Group.{Group}
use Rattle.recombine.specs.Sources.{AreOfOthers}
use Rattle.recombine.specs.declared.group.OpenGroup.{OpenGroup}
use Rattle.recombine.specs.Table.{Held, groups_seen, mark_of, IsTable}
use Rattle.recombine.specs.Limits.{group_limit}
use Rattle.recombine.proofs.TableLemmas.{marks_back, table_push}
use Rattle.recombine.proofs.groups.Groups.push.Goals as goal

pub invariant_of-self-in-Ok : goal.invariant_of-self-in-Ok
invariant_of-self-in-Ok c =
    subst (λ (gs : List Held). IsTable (groups_seen gs) (c.self.inside.bytes + length c.as_str-size.result.now) c.push.new.self.items) (sym c.in-Ok.ensures.items)
    (subst (λ (n : ℕ). IsTable (groups_seen (c.self.inside.in_order.items ++ c.args.group ∷ [])) (c.self.inside.bytes + n) c.push.new.self.items) (sym (ap length (c.as_str-size.ensures.value ∙ ap (λ (o : OpenGroup). string_bytes o.text) c.deref.ensures)))
    (subst (λ (l : List ℕ). IsTable (groups_seen (c.self.inside.in_order.items ++ c.args.group ∷ [])) (c.self.inside.bytes + length (string_bytes c.args.group.value.text)) l)
    (sym (c.in_ok-push.ensures.items ∙ ap (λ (mark : ℕ). c.self.inside.marks.items ++ mark ∷ []) (c.mark_of-mark.ensures ∙ ap mark_of (c.as_bytes.ensures.value ∙ c.as_str.ensures ∙ ap (λ (o : OpenGroup). o.source) c.deref-2.ensures))))
    (table_push c.self.inside.marks.items c.self.inside.in_order.items c.self.inside.bytes c.args.group c.self.invariant (subst (AreOfOthers c.args.group.value.source) (sym c.self.view_is) c.requires.new) c.requires.is_open
    (subst (λ (gs : List Group). length gs < group_limit) (sym c.self.view_is) c.requires.few))))

pub invariant_of-self-in-Err : goal.invariant_of-self-in-Err
invariant_of-self-in-Err c =
    subst (λ (gs : List Held). IsTable (groups_seen gs) c.self.inside.bytes c.pop-mark.new.self.items) (sym c.in-Err.ensures.items)
    (subst (λ (l : List ℕ). IsTable (groups_seen c.self.inside.in_order.items) c.self.inside.bytes l)
    (sym (marks_back c.self.inside.marks.items c.pop-mark.new.self.items c.mark_of-mark.result c.pop-mark.result
    (c.pop-mark.ensures.variant.1 (omega (arith, c.in_ok-push.ensures.len))) (sym c.in_ok-push.ensures.items ∙ c.pop-mark.ensures.items)))
    c.self.invariant)
