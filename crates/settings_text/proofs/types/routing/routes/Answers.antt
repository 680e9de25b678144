use Rattle.std.proofs.Common.{◌≡◌, ◌≢◌, ◌≤◌, ◌++◌, codes, length, Err, refl}
use Rattle.serde_json.specs.View.{items_view}
use Rattle.settings_text.specs.Types.Routing.{routable}
use Rattle.settings_text.specs.declared.fault.SettingsFault.TheVariants.{OutOfRange}
use Rattle.settings_text.proofs.InTurn.{routed, no_routes, too_many_routes}
use Rattle.settings_text.proofs.types.routing.routes.Goals as goal
use Rattle.settings_text.proofs.types.routing.routes.Goals.{then-count-eq0-via-then-count-eq0, then-count-eq0-via-else-count-eq0+then-count-gt-MOST_ROUTES}

pub returns-then-count-eq0 : goal.returns-then-count-eq0
returns-then-count-eq0 c = λ _.
    let vs = c.in-Some-as_array.values.now.items in
    let at_key = c.args.at.now ++ codes "routes" in
    let refused : routable at_key (items_view vs) ≡ Err (OutOfRange at_key) = elim c.then-count-eq0.branch [
      | then-count-eq0-via-then-count-eq0 w ↦ no_routes at_key vs (rw (← c.as_slice-count.ensures.value) w.if-count-eq0.true)
      | then-count-eq0-via-else-count-eq0+then-count-gt-MOST_ROUTES w ↦ too_many_routes at_key vs (rw (← c.as_slice-count.ensures.value) w.if-count-gt-MOST_ROUTES.true)
    ] in
    rw (← c.in-Some.ensures, ← c.in-Some-as_array.ensures, refused, c.in_ok-place-3.ensures) refl

pub returns : goal.returns
returns c =
    let vs = c.in-Some-as_array.values.now.items in
    let some : length vs ≢ 0 = rw (← c.as_slice-count.ensures.value) c.if-count-eq0.false in
    let le : length vs ≤ 65534 = rw (← c.as_slice-count.ensures.value) c.if-count-gt-MOST_ROUTES.false in
    rw (← c.in-Some.ensures, ← c.in-Some-as_array.ensures, routed (c.args.at.now ++ codes "routes") vs some le) c.routes_of.ensures
