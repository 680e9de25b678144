-- What an operator does, beside its condition.
use Rattle.std.specs.Prelude.{map, Bool, Option}
use Rattle.expr_lang.specs.Tree.{Tree}
use Rattle.expr_lang.specs.TreeOf.{tree_of}
use Rattle.op_kinds.specs.AnyOpView.{act_of}
use Rattle.op_kinds.specs.Compiled.{Does, Routes}
use Rattle.op_kinds.specs.Operator.{Operator, conditional, router}
use Rattle.op_kinds.specs.declared.compiling.Work.{Work}
use Rattle.op_kinds.specs.declared.compiling.Work.TheVariants.{Act, Route}
use Rattle.settings_text.specs.declared.settings.OpKind.{OpKind}

-- the work is what the settings ask for
abbrev pub IsWorkOf : OpKind → Work → Type 0
IsWorkOf kind (Act action) = Does kind (act_of action)
IsWorkOf kind (Route made) = Routes kind (map tree_of made.routes.items) made.has_default

-- the operator that does this work
abbrev pub operator_of : Option Tree → Bool → Work → Operator
operator_of condition drops_faulty (Act action) = conditional condition (act_of action) drops_faulty
operator_of condition drops_faulty (Route made) = router (map tree_of made.routes.items) made.has_default
