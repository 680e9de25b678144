-- What was read of the settings of an operator.
use Rattle.std.proofs.Common.{◌≡◌, ℕ, ◌+◌, ◌<◌, List, [], ◌∷◌, ◌++◌, inl, inr, length, length-append, take, map, arith, refl, sym, ap, subst, ◌∙◌}
use Rattle.std.proofs.Math.Seq.{take-suc}
use Rattle.std.proofs.lemmas.List.{map-append}
use Rattle.std.specs.Prelude.{slice_index_or, Option, None, Some, Bool}
use Rattle.expr_lang.proofs.Reading.{one_tree}
use Rattle.expr_lang.specs.Grammar.{IsExpression}
use Rattle.expr_lang.specs.Tree.{Tree}
use Rattle.expr_lang.specs.TreeOf.{tree_of}
use Rattle.expr_lang.specs.declared.tree.Expr.{Expr}
use Rattle.field_ops.specs.Rows.{member_of}
use Rattle.field_paths.proofs.Faults.{one_path}
use Rattle.field_paths.specs.PathText.{IsPathText}
use Rattle.field_paths.specs.Place.{Place}
use Rattle.op_kinds.specs.AnyOpView.{act_of}
use Rattle.op_kinds.specs.Compiled.{joining_of, IsPathIfAny, ArePathTexts, AreExpressions, Does, Routes, IsCondition, IsCompiledTo}
use Rattle.op_kinds.specs.Operator as operator
use Rattle.op_kinds.specs.Operator.{Act, Operator, conditional, router}
use Rattle.op_kinds.specs.Parsers.{columns_of, delimiters_of, protocol_of}
use Rattle.op_kinds.specs.Said.{by_pattern, as_json, as_record, as_pairs}
use Rattle.op_kinds.specs.Readings.{Reading, path, member, expression, pattern, names, IsFaulty, own_readings, parser_readings, paths_if_any, condition_readings, readings, route_reading, IsLeastCause, AreRead}
use Rattle.op_kinds.specs.Inner.WorkView.{IsWorkOf}
use Rattle.op_kinds.specs.declared.cause.OpCause.{OpCause}
use Rattle.op_kinds.specs.declared.compiling.Work.{Work}
use Rattle.op_kinds.specs.declared.compiling.Work.TheVariants.{Act as ActWork, Route}
use Rattle.op_kinds.proofs.Parsers.{parser_is_read, one_parser, stamp_is_read, grading_is_read, one_stamp_of, one_grading_of}
use Rattle.op_kinds.proofs.Readings.{all_are_read, one_is_read, two_are_read, pattern_is_read, some_cause_is_faulty}
use Rattle.settings_text.specs.declared.settings.OpKind.TheVariants as kind
use Rattle.settings_text.specs.declared.settings.OpKind.{OpKind}
use Rattle.settings_text.specs.declared.settings.OpSpec.{OpSpec}
use Rattle.settings_text.specs.declared.settings.RouteSpec.{RouteSpec}

-- ---- one more of a list

one_more_path : (texts : List (List ℕ)) (places : List Place) (text : List ℕ) (place : Place) → ArePathTexts texts places → IsPathText text place → ArePathTexts (texts ++ text ∷ []) (places ++ place ∷ [])
one_more_path [] [] text place so_far next = (next, tt)
one_more_path [] (p ∷ places) text place so_far next = absurd so_far
one_more_path (t ∷ texts) [] text place so_far next = absurd so_far
one_more_path (t ∷ texts) (p ∷ places) text place so_far next = (so_far.0, one_more_path texts places text place so_far.1 next)

pub one_more_path_at : (texts : List (List ℕ)) (index : ℕ) (places : List Place) (text : List ℕ) (place : Place) → index < length texts → slice_index_or texts index text ≡ text → ArePathTexts (take index texts) places → IsPathText text place → ArePathTexts (take (index + 1) texts) (places ++ place ∷ [])
one_more_path_at texts index places text place within at so_far next =
    let grown : take (index + 1) texts ≡ take index texts ++ text ∷ [] = grind (arith, take-suc texts index text within, at) in
    rw grown (one_more_path (take index texts) places text place so_far next)

one_more_expression : (routes : List RouteSpec) (trees : List Tree) (route : RouteSpec) (tree : Tree) → AreExpressions routes trees → IsExpression route.expr tree → AreExpressions (routes ++ route ∷ []) (trees ++ tree ∷ [])
one_more_expression [] [] route tree so_far next = (next, tt)
one_more_expression [] (t ∷ trees) route tree so_far next = absurd so_far
one_more_expression (r ∷ routes) [] route tree so_far next = absurd so_far
one_more_expression (r ∷ routes) (t ∷ trees) route tree so_far next = (so_far.0, one_more_expression routes trees route tree so_far.1 next)

pub one_more_expression_at : (routes : List RouteSpec) (index : ℕ) (exprs new : List Expr) (route : RouteSpec) (expr : Expr) → index < length routes → slice_index_or routes index route ≡ route → AreExpressions (take index routes) (map tree_of exprs) → IsExpression route.expr (tree_of expr) → new ≡ exprs ++ expr ∷ []
    → AreExpressions (take (index + 1) routes) (map tree_of new)
one_more_expression_at routes index exprs new route expr within at so_far next is =
    let grown : take (index + 1) routes ≡ take index routes ++ route ∷ [] = grind (arith, take-suc routes index route within, at) in
    rw (grown, is, map-append tree_of exprs (expr ∷ []))
    (one_more_expression (take index routes) (map tree_of exprs) route (tree_of expr) so_far next)

-- ---- what is compiled was read

faulty_at : (reading other : Reading) → other ≡ reading → IsFaulty other → IsFaulty reading
faulty_at reading other is faulty = subst IsFaulty is faulty

pub paths_are_read : (texts : List (List ℕ)) (places : List Place) → ArePathTexts texts places → AreRead (map path texts)
paths_are_read [] places are reading has faulty = has
paths_are_read (text ∷ texts) [] are reading has faulty = are
paths_are_read (text ∷ texts) (place ∷ places) are reading (inl is) faulty = faulty_at (path text) reading is faulty place are.0
paths_are_read (text ∷ texts) (place ∷ places) are reading (inr has) faulty = paths_are_read texts places are.1 reading has faulty

pub routes_are_read : (routes : List RouteSpec) (trees : List Tree) → AreExpressions routes trees → AreRead (map route_reading routes)
routes_are_read [] trees are reading has faulty = has
routes_are_read (route ∷ routes) [] are reading has faulty = are
routes_are_read (route ∷ routes) (tree ∷ trees) are reading (inl is) faulty = faulty_at (expression route.expr) reading is faulty tree are.0
routes_are_read (route ∷ routes) (tree ∷ trees) are reading (inr has) faulty = routes_are_read routes trees are.1 reading has faulty

pub path_if_any_is_read : (text : Option (List ℕ)) (place : Option Place) → IsPathIfAny text place → AreRead (paths_if_any text)
path_if_any_is_read None place is reading has faulty = has
path_if_any_is_read (Some text) None is reading has faulty = is
path_if_any_is_read (Some text) (Some place) is reading has faulty = one_is_read (path text) (λ none. none place is) reading has faulty

done_is_read : (kind : OpKind) (act : Act) → Does kind act → AreRead (own_readings kind)
done_is_read kind.Noop act does = λ reading has faulty. has
done_is_read (kind.Container format by_path) act does = λ reading has faulty. has
done_is_read (kind.Move from to) act does = two_are_read (path from) (path to) (λ none. none does.0 does.2) (λ none. none does.1 does.3)
done_is_read (kind.Copy from to) act does = two_are_read (path from) (path to) (λ none. none does.0 does.2) (λ none. none does.1 does.3)
done_is_read (kind.Add field value) act does = one_is_read (path field) (λ none. none does.0 does.1)
done_is_read (kind.Remove field) act does = one_is_read (path field) (λ none. none does.0 does.1)
done_is_read (kind.Flatten field) act does = one_is_read (member field) (λ none. none does.0 does.1 does.2)
done_is_read (kind.Retain fields) act does = paths_are_read fields does.0 does.1
done_is_read (kind.Filter expr) act does = one_is_read (expression expr) (λ none. none does.0 does.1)
done_is_read (kind.Json parser) act does = parser_is_read as_json parser does.0 does.1
done_is_read (kind.Csv delimiter header parser) act does = parser_is_read (as_record (columns_of delimiter header)) parser does.0 does.1
done_is_read (kind.KeyValue delimiter pair_delimiter parser) act does = parser_is_read (as_pairs (delimiters_of delimiter pair_delimiter)) parser does.0 does.1
done_is_read (kind.Regex regex parser) act does = all_are_read (pattern regex ∷ names regex ∷ []) (parser_readings parser) (pattern_is_read regex does.1) (parser_is_read (by_pattern regex) parser does.0 does.2)
done_is_read (kind.Time time) act does = stamp_is_read (Some time) (Some does.0) does.1
done_is_read (kind.Severity severity) act does = grading_is_read (Some severity) (Some does.0) does.1
done_is_read (kind.Syslog year location parser) act does = two_are_read (path parser.parse_from) (path parser.parse_to) (λ none. none does.0 does.2) (λ none. none does.1 does.3)
done_is_read (kind.Router routes default) act does = λ reading has faulty. does
done_is_read (kind.Recombine field first mark between most newest source) act does =
    all_are_read (path field ∷ []) (paths_if_any source ++ expression mark ∷ []) (one_is_read (path field) (λ none. none does.0 does.3))
    (all_are_read (paths_if_any source) (expression mark ∷ []) (path_if_any_is_read source does.2 does.5) (one_is_read (expression mark) (λ none. none does.1 does.4)))

routed_is_read : (kind : OpKind) (trees : List Tree) (has_default : Bool) → Routes kind trees has_default → AreRead (own_readings kind)
routed_is_read kind.Noop trees has_default is = λ reading has faulty. is
routed_is_read (kind.Container format by_path) trees has_default is = λ reading has faulty. is
routed_is_read (kind.Move from to) trees has_default is = λ reading has faulty. is
routed_is_read (kind.Copy from to) trees has_default is = λ reading has faulty. is
routed_is_read (kind.Add field value) trees has_default is = λ reading has faulty. is
routed_is_read (kind.Remove field) trees has_default is = λ reading has faulty. is
routed_is_read (kind.Flatten field) trees has_default is = λ reading has faulty. is
routed_is_read (kind.Retain fields) trees has_default is = λ reading has faulty. is
routed_is_read (kind.Filter expr) trees has_default is = λ reading has faulty. is
routed_is_read (kind.Json parser) trees has_default is = λ reading has faulty. is
routed_is_read (kind.Csv delimiter header parser) trees has_default is = λ reading has faulty. is
routed_is_read (kind.KeyValue delimiter pair_delimiter parser) trees has_default is = λ reading has faulty. is
routed_is_read (kind.Regex regex parser) trees has_default is = λ reading has faulty. is
routed_is_read (kind.Time time) trees has_default is = λ reading has faulty. is
routed_is_read (kind.Severity severity) trees has_default is = λ reading has faulty. is
routed_is_read (kind.Syslog year location parser) trees has_default is = λ reading has faulty. is
routed_is_read (kind.Router routes default) trees has_default is = routes_are_read routes trees is.0
routed_is_read (kind.Recombine field first mark between most newest source) trees has_default is = λ reading has faulty. is

pub work_is_read : (kind : OpKind) (work : Work) → IsWorkOf kind work → AreRead (own_readings kind)
work_is_read kind (ActWork action) is = done_is_read kind (act_of action) is
work_is_read kind (Route made) is = routed_is_read kind (map tree_of made.routes.items) made.has_default is

pub condition_is_read : (condition : Option (List ℕ)) (tree : Option Tree) → IsCondition condition tree → AreRead (condition_readings condition)
condition_is_read None tree is = λ reading has faulty. has
condition_is_read (Some text) None is = λ reading has faulty. is
condition_is_read (Some text) (Some tree) is = one_is_read (expression text) (λ none. none tree is)

compiled_is_read : (spec : OpSpec) (made : Operator) → IsCompiledTo spec made → AreRead (readings spec)
compiled_is_read spec (conditional condition act drops) is =
    all_are_read (own_readings spec.kind) (condition_readings spec.condition) (done_is_read spec.kind act is.1) (condition_is_read spec.condition condition is.0)
compiled_is_read spec (router trees has_default) is =
    all_are_read (own_readings spec.kind) (condition_readings spec.condition) (routed_is_read spec.kind trees has_default is.2) (condition_is_read spec.condition is.0 is.1)

pub compiled_has_no_cause : (spec : OpSpec) (made : Operator) (found : OpCause) → IsCompiledTo spec made → IsLeastCause (readings spec) found → ⊥
compiled_has_no_cause spec made found is cause = some_cause_is_faulty (readings spec) found (compiled_is_read spec made is) cause

-- ---- one operator

snoc_same : {A : Type 0} (xs ys : List A) (x y : A) → xs ++ x ∷ [] ≡ ys ++ y ∷ [] → (xs ≡ ys) × (x ≡ y)
snoc_same [] [] x y e = (refl, cc)
snoc_same {A = A} [] (b ∷ ys) x y e = let e2 : [] ≡ ys ++ y ∷ [] = cc e in absurd (omega (arith, ap length e2, length-append ys (y ∷ [])))
snoc_same {A = A} (a ∷ xs) [] x y e = let e2 : [] ≡ xs ++ x ∷ [] = cc e in absurd (omega (arith, ap length e2, length-append xs (x ∷ [])))
snoc_same {A = A} (a ∷ xs) (b ∷ ys) x y e =
    let head : a ≡ b = cc e in
    let rest : xs ++ x ∷ [] ≡ ys ++ y ∷ [] = cc e in
    let same = snoc_same xs ys x y rest in
    let tails : xs ≡ ys = same.0 in
    (cc (head, tails), same.1)

same_paths : (texts : List (List ℕ)) (places others : List Place) → ArePathTexts texts places → ArePathTexts texts others → places ≡ others
same_paths [] [] [] are also = refl
same_paths [] [] (o ∷ others) are also = absurd also
same_paths [] (p ∷ places) others are also = absurd are
same_paths (text ∷ texts) [] others are also = absurd are
same_paths (text ∷ texts) (p ∷ places) [] are also = absurd also
same_paths (text ∷ texts) (p ∷ places) (o ∷ others) are also =
    let first : p ≡ o = one_path text p o are.0 also.0 in
    let rest : places ≡ others = same_paths texts places others are.1 also.1 in
    cc (first, rest)

same_trees : (routes : List RouteSpec) (trees others : List Tree) → AreExpressions routes trees → AreExpressions routes others → trees ≡ others
same_trees [] [] [] are also = refl
same_trees [] [] (o ∷ others) are also = absurd also
same_trees [] (t ∷ trees) others are also = absurd are
same_trees (route ∷ routes) [] others are also = absurd are
same_trees (route ∷ routes) (t ∷ trees) [] are also = absurd also
same_trees (route ∷ routes) (t ∷ trees) (o ∷ others) are also =
    let first : t ≡ o = one_tree route.expr t o are.0 also.0 in
    let rest : trees ≡ others = same_trees routes trees others are.1 also.1 in
    cc (first, rest)

same_condition : (text : Option (List ℕ)) (tree other : Option Tree) → IsCondition text tree → IsCondition text other → tree ≡ other
same_condition None None None is also = refl
same_condition None None (Some o) is also = absurd also
same_condition None (Some t) other is also = absurd is
same_condition (Some text) None other is also = absurd is
same_condition (Some text) (Some t) None is also = absurd also
same_condition (Some text) (Some t) (Some o) is also = let same : t ≡ o = one_tree text t o is also in cc same

two_same : (from to : List ℕ) (a b c d : Place) → IsPathText from a → IsPathText to b → IsPathText from c → IsPathText to d → (a ≡ c) × (b ≡ d)
two_same from to a b c d p q r s = (one_path from a c p r, one_path to b d q s)

same_path_if_any : (text : Option (List ℕ)) (place other : Option Place) → IsPathIfAny text place → IsPathIfAny text other → place ≡ other
same_path_if_any None None None is also = refl
same_path_if_any None None (Some o) is also = absurd also
same_path_if_any None (Some p) other is also = absurd is
same_path_if_any (Some text) None other is also = absurd is
same_path_if_any (Some text) (Some p) None is also = absurd also
same_path_if_any (Some text) (Some p) (Some o) is also = let same : p ≡ o = one_path text p o is also in cc same

same_act : (kind : OpKind) (act other : Act) → Does kind act → Does kind other → act ≡ other
same_act kind.Noop act other does also = does ∙ sym also
same_act (kind.Container format by_path) act other does also = does ∙ sym also
same_act (kind.Move from to) act other does also =
    let same = two_same from to does.0 does.1 also.0 also.1 does.2 does.3 also.2 also.3 in
    does.4 ∙ ap (λ p. operator.move p does.1) same.0 ∙ ap (operator.move also.0) same.1 ∙ sym also.4
same_act (kind.Copy from to) act other does also =
    let same = two_same from to does.0 does.1 also.0 also.1 does.2 does.3 also.2 also.3 in
    does.4 ∙ ap (λ p. operator.copy p does.1) same.0 ∙ ap (operator.copy also.0) same.1 ∙ sym also.4
same_act (kind.Add field value) act other does also =
    does.2 ∙ ap (λ p. operator.add p value) (one_path field does.0 also.0 does.1 also.1) ∙ sym also.2
same_act (kind.Remove field) act other does also =
    does.2 ∙ ap operator.remove (one_path field does.0 also.0 does.1 also.1) ∙ sym also.2
same_act (kind.Flatten field) act other does also =
    let place : member_of does.0 does.1 ≡ member_of also.0 also.1 = one_path field (member_of does.0 does.1) (member_of also.0 also.1) does.2 also.2 in
    let roots : does.0.root ≡ also.0.root = ap (λ (p : Place). p.root) place in
    let names = snoc_same does.0.names also.0.names does.1 also.1 (ap (λ (p : Place). p.names) place) in
    let parents : does.0 ≡ also.0 = ap (λ r. let p : Place = record { root = r; names = does.0.names } in p) roots ∙ ap (λ n. let p : Place = record { root = also.0.root; names = n } in p) names.0 in
    does.3 ∙ ap (λ p. operator.flatten p does.1) parents ∙ ap (operator.flatten also.0) names.1 ∙ sym also.3
same_act (kind.Retain fields) act other does also =
    does.2 ∙ ap operator.retain (same_paths fields does.0 also.0 does.1 also.1) ∙ sym also.2
same_act (kind.Filter expr) act other does also =
    does.2 ∙ ap operator.filter (one_tree expr does.0 also.0 does.1 also.1) ∙ sym also.2
same_act (kind.Json parser) act other does also =
    does.2 ∙ ap operator.parse (one_parser as_json parser does.0 also.0 does.1 also.1) ∙ sym also.2
same_act (kind.Csv delimiter header parser) act other does also =
    does.2 ∙ ap operator.parse (one_parser (as_record (columns_of delimiter header)) parser does.0 also.0 does.1 also.1) ∙ sym also.2
same_act (kind.KeyValue delimiter pair_delimiter parser) act other does also =
    does.2 ∙ ap operator.parse (one_parser (as_pairs (delimiters_of delimiter pair_delimiter)) parser does.0 also.0 does.1 also.1) ∙ sym also.2
same_act (kind.Regex regex parser) act other does also =
    does.3 ∙ ap operator.parse (one_parser (by_pattern regex) parser does.0 also.0 does.2 also.2) ∙ sym also.3
same_act (kind.Time time) act other does also =
    does.2 ∙ ap operator.stamp (one_stamp_of time does.0 also.0 does.1 also.1) ∙ sym also.2
same_act (kind.Severity severity) act other does also =
    does.2 ∙ ap operator.grade (one_grading_of severity does.0 also.0 does.1 also.1) ∙ sym also.2
same_act (kind.Syslog year location parser) act other does also =
    let same = two_same parser.parse_from parser.parse_to does.0 does.1 also.0 also.1 does.2 does.3 also.2 also.3 in
    does.4 ∙ ap (λ p. operator.syslog (protocol_of year location) p does.1) same.0 ∙ ap (operator.syslog (protocol_of year location) also.0) same.1 ∙ sym also.4
same_act (kind.Router routes default) act other does also = absurd does
same_act (kind.Recombine field first mark between most newest source) act other does also =
    does.6 ∙ ap (λ p. operator.recombine (joining_of p first between most newest) does.1 does.2) (one_path field does.0 also.0 does.3 also.3)
    ∙ ap (λ t. operator.recombine (joining_of also.0 first between most newest) t does.2) (one_tree mark does.1 also.1 does.4 also.4)
    ∙ ap (operator.recombine (joining_of also.0 first between most newest) also.1) (same_path_if_any source does.2 also.2 does.5 also.5) ∙ sym also.6

not_both : (kind : OpKind) (act : Act) (trees : List Tree) (has_default : Bool) → Does kind act → Routes kind trees has_default → ⊥
not_both kind.Noop act trees has_default does routes = routes
not_both (kind.Container format by_path) act trees has_default does routes = routes
not_both (kind.Move from to) act trees has_default does routes = routes
not_both (kind.Copy from to) act trees has_default does routes = routes
not_both (kind.Add field value) act trees has_default does routes = routes
not_both (kind.Remove field) act trees has_default does routes = routes
not_both (kind.Flatten field) act trees has_default does routes = routes
not_both (kind.Retain fields) act trees has_default does routes = routes
not_both (kind.Filter expr) act trees has_default does routes = routes
not_both (kind.Json parser) act trees has_default does routes = routes
not_both (kind.Csv delimiter header parser) act trees has_default does routes = routes
not_both (kind.KeyValue delimiter pair_delimiter parser) act trees has_default does routes = routes
not_both (kind.Regex regex parser) act trees has_default does routes = routes
not_both (kind.Time time) act trees has_default does routes = routes
not_both (kind.Severity severity) act trees has_default does routes = routes
not_both (kind.Syslog year location parser) act trees has_default does routes = routes
not_both (kind.Router routes default) act trees has_default does _ = does
not_both (kind.Recombine field first mark between most newest source) act trees has_default does routes = routes

same_routes : (kind : OpKind) (trees others : List Tree) (has also_has : Bool) → Routes kind trees has → Routes kind others also_has → (trees ≡ others) × (has ≡ also_has)
same_routes kind.Noop trees others has also_has routes also = absurd routes
same_routes (kind.Container format by_path) trees others has also_has routes also = absurd routes
same_routes (kind.Move from to) trees others has also_has routes also = absurd routes
same_routes (kind.Copy from to) trees others has also_has routes also = absurd routes
same_routes (kind.Add field value) trees others has also_has routes also = absurd routes
same_routes (kind.Remove field) trees others has also_has routes also = absurd routes
same_routes (kind.Flatten field) trees others has also_has routes also = absurd routes
same_routes (kind.Retain fields) trees others has also_has routes also = absurd routes
same_routes (kind.Filter expr) trees others has also_has routes also = absurd routes
same_routes (kind.Json parser) trees others has also_has routes also = absurd routes
same_routes (kind.Csv delimiter header parser) trees others has also_has routes also = absurd routes
same_routes (kind.KeyValue delimiter pair_delimiter parser) trees others has also_has routes also = absurd routes
same_routes (kind.Regex regex parser) trees others has also_has routes also = absurd routes
same_routes (kind.Time time) trees others has also_has routes also = absurd routes
same_routes (kind.Severity severity) trees others has also_has routes also = absurd routes
same_routes (kind.Syslog year location parser) trees others has also_has routes also = absurd routes
same_routes (kind.Router all default) trees others has also_has routes also = (same_trees all trees others routes.0 also.0, routes.1 ∙ sym also.1)
same_routes (kind.Recombine field first mark between most newest source) trees others has also_has routes also = absurd routes

pub one_operator : (spec : OpSpec) (made other : Operator) → IsCompiledTo spec made → IsCompiledTo spec other → made ≡ other
one_operator spec (conditional condition act drops) (conditional condition' act' drops') is also =
    ap (λ c. conditional c act drops) (same_condition spec.condition condition condition' is.0 also.0)
    ∙ ap (λ a. conditional condition' a drops) (same_act spec.kind act act' is.1 also.1)
    ∙ ap (conditional condition' act') (is.2 ∙ sym also.2)
one_operator spec (conditional condition act drops) (router trees has) is also = absurd (not_both spec.kind act trees has is.1 also.2)
one_operator spec (router trees has) (conditional condition act drops) is also = absurd (not_both spec.kind act trees has also.1 is.2)
one_operator spec (router trees has) (router others also_has) is also =
    let same = same_routes spec.kind trees others has also_has is.2 also.2 in
    ap (λ t. router t has) same.0 ∙ ap (router others) same.1

-- ---- an operator with its condition
