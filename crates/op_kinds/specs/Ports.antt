-- The laws of a step: an operator emits on its own ports.
use Rattle.std.proofs.Common.{◌≡◌, ℕ, suc, ◌+◌, ◌<◌, List, [], ◌∷◌, length, subst, arith, rules}
use Rattle.std.proofs.lemmas.Grind.{common_steps}
use Rattle.std.specs.List.{All}
use Rattle.std.specs.Prelude.{Bool, true, false, if◌then◌else◌, Some}
use Rattle.entry_model.specs.LogRecord.{LogRecord}
use Rattle.expr_lang.specs.Tree.{Tree}
use Rattle.op_kinds.specs.Kept.{Kept}
use Rattle.op_kinds.specs.Operator.{Operator, conditional, router, or_unchanged, on_one_port, made, closing, is_true, route_port, routed, emitted, port_count, behavior_of}

on_port_0 : (entries : List LogRecord) → All (λ e. e.0 < 1) (on_one_port entries)
on_port_0 [] = Prim.search (rules, common_steps)
on_port_0 (entry ∷ entries) = let others = on_port_0 entries in Prim.search (rules, common_steps, others)

-- how many ports there are from the n-th on
abbrev bound : ℕ → List Tree → Bool → ℕ
bound n routes has_default = n + (length routes + (if has_default then 1 else 0))

one_port : (port limit : ℕ) (entry : LogRecord) → port < limit → All (λ e. e.0 < limit) (routed (Some port) entry)
one_port port limit entry within = Prim.search (rules, common_steps)

one_route : (n : ℕ) (route : Tree) (routes : List Tree) (has_default : Bool) (entry : LogRecord) (truth : Bool)
    → All (λ e. e.0 < bound (suc n) routes has_default) (routed (route_port (suc n) routes has_default entry) entry)
    → All (λ e. e.0 < bound n (route ∷ routes) has_default) (routed (if truth then Some n else route_port (suc n) routes has_default entry) entry)
one_route n route routes has_default entry true others = one_port n (bound n (route ∷ routes) has_default) entry (Prim.omega arith)
one_route n route routes has_default entry false others =
    let same : bound (suc n) routes has_default ≡ bound n (route ∷ routes) has_default = Prim.omega arith in
    subst (λ limit. All (λ e. e.0 < limit) (routed (route_port (suc n) routes has_default entry) entry)) same others

routes_within : (n : ℕ) (routes : List Tree) (has_default : Bool) (entry : LogRecord) → All (λ e. e.0 < bound n routes has_default) (routed (route_port n routes has_default entry) entry)
routes_within n [] true entry = one_port n (bound n [] true) entry (Prim.omega arith)
routes_within n [] false entry = Prim.search (rules, common_steps)
routes_within n (route ∷ routes) has_default entry = one_route n route routes has_default entry (is_true route entry) (routes_within (suc n) routes has_default entry)

pub emits_in_ports : (op : Operator) (state : Kept) (item : LogRecord) → All (λ e. e.0 < port_count op) ((behavior_of op).emitted state item)
emits_in_ports (conditional condition act drops_faulty) state item = on_port_0 (or_unchanged drops_faulty state item (made condition act state item)).sent
emits_in_ports (router routes has_default) state item =
    let same : bound 0 routes has_default ≡ port_count (router routes has_default) = Prim.omega arith in
    subst (λ limit. All (λ e. e.0 < limit) (emitted (router routes has_default) state item)) same (routes_within 0 routes has_default item)

pub closes_in_ports : (op : Operator) (state : Kept) → All (λ e. e.0 < port_count op) ((behavior_of op).closed state)
closes_in_ports (conditional condition act drops_faulty) state = on_port_0 (closing act state)
closes_in_ports (router routes has_default) state = Prim.search (rules, common_steps)
