-- Texts that can't be read, and the least cause.
use Rattle.std.proofs.Common.{◌≡◌, ◌≢◌, ℕ, zero, suc, ◌+◌, ◌<◌, ◌≤◌, ◌⊎◌, List, [], ◌∷◌, ◌++◌, inl, inr, Bool, true, false, true≢false, length, length-append, append_assoc, take, drop, map, IfOk, IfErr, arith, rules, refl, sym, ap, subst, ◌∙◌}
use Rattle.std.proofs.lemmas.Bool.{ltb-true, ltb-false}
use Rattle.std.specs.Prelude.{slice_index_or, nat_lt, if◌then◌else◌, Option, None, Some, Result, Ok, Err}
use Rattle.expr_lang.proofs.OneFault.{one_fault}
use Rattle.expr_lang.specs.Outcome.{IsReadFault as IsExprFault}
use Rattle.expr_lang.specs.declared.read.ExprReadFault.{ExprReadFault}
use Rattle.expr_lang.specs.declared.read.ExprReadFault.TheVariants as expr
use Rattle.field_ops.specs.Rows.{member_of}
use Rattle.field_paths.proofs.Faults.{one_path}
use Rattle.field_paths.specs.PathText.{IsPathText, BeginsPathText, IsFaultAt as IsPathFaultAt}
use Rattle.field_paths.specs.Place.{Place}
use Rattle.field_paths.specs.ReadFault.{IsReadFault}
use Rattle.field_paths.specs.declared.path.PathFault.{PathFault}
use Rattle.field_paths.specs.declared.path.PathFault.TheVariants.{NotAPath, Memory}
use Rattle.graph_core.specs.Wiring.{Has}
use Rattle.op_kinds.specs.Causes.{of_path_fault, of_read_fault, of_regex_fault, of_layout_fault}
use Rattle.op_kinds.specs.Readings.{Reading, path, member, expression, pattern, names, layout, go_layout, count, IsFaulty, IsFaultyAt, IsRoot, route_reading, cause_at, number, rank, least_of, IsLeastCause, Caused, AreRead, Answers, both, paths_if_any}
use Rattle.op_kinds.specs.declared.cause.OpCause.{OpCause}
use Rattle.op_kinds.specs.declared.cause.OpCause.TheVariants as cause
use Rattle.op_kinds.specs.Parsers.{count_named, IsPattern}
use Rattle.settings_text.specs.declared.settings.RouteSpec.{RouteSpec}
use Rattle.text_parsers.specs.Groups.{IsRefused}
use Rattle.text_parsers.specs.declared.regex_fault.RegexFault.{RegexFault}
use Rattle.text_parsers.specs.declared.regex_fault.RegexFault.TheVariants as regex
use Rattle.time_layout.specs.LayoutFaults.{IsFaultOf}
use Rattle.time_layout.specs.GoLayouts.{go_parts}
use Rattle.time_layout.specs.LayoutText.{layout_parts}
use Rattle.time_layout.specs.declared.fault.LayoutFault.{LayoutFault}
use Rattle.time_layout.specs.declared.fault.LayoutFault.TheVariants as layout_fault

-- ---- members of lists

pub has-either : {X : Type 0} (xs ys : List X) (x : X) → Has (xs ++ ys) x → Has xs x ⊎ Has ys x
has-either [] ys x has = inr has
has-either (y ∷ xs) ys x (inl is) = inl (inl is)
has-either (y ∷ xs) ys x (inr has) = elim (has-either xs ys x has) [ inl front ↦ inl (inr front) | inr back ↦ inr back ]

pub has-map : {X Y : Type 0} (f : X → Y) (xs : List X) (y : Y) → Has (map f xs) y → (x : X) × (y ≡ f x) × Has xs x
has-map f [] y has = absurd has
has-map f (x ∷ xs) y (inl is) = (x, is, inl refl)
has-map f (x ∷ xs) y (inr has) = let found = has-map f xs y has in (found.0, found.1, inr found.2)

-- ---- causes

-- a list in which two members are told by what stands around them
data Placed {X : Type 0} (one other : X) (front back also_front also_back : List X) : Type 0 where
  is_same : one ≡ other → Placed one other front back also_front also_back
  is_before : Has also_front one → Has back other → Placed one other front back also_front also_back
  is_behind : Has front other → Has also_back one → Placed one other front back also_front also_back

has-here : {X : Type 0} (front back : List X) (x : X) → Has (front ++ x ∷ back) x
has-here [] back x = inl refl
has-here (y ∷ front) back x = inr (has-here front back x)

placed : {X : Type 0} (front back also_front also_back : List X) (one other : X) → front ++ one ∷ back ≡ also_front ++ other ∷ also_back
    → Placed one other front back also_front also_back
placed [] back [] also_back one other is = is_same (cc is)
placed [] back (x ∷ also_front) also_back one other is =
    let tails : back ≡ also_front ++ other ∷ also_back = cc is in
    is_before (inl (cc is)) (subst (λ xs. Has xs other) (sym tails) (has-here also_front also_back other))
placed (x ∷ front) back [] also_back one other is =
    let tails : front ++ one ∷ back ≡ also_back = cc is in
    is_behind (inl (cc (sym is))) (subst (λ xs. Has xs one) tails (has-here front back one))
placed (x ∷ front) back (y ∷ also_front) also_back one other is =
    elim (placed front back also_front also_back one other (cc is)) [
      | is_same same ↦ is_same same
      | is_before there here ↦ is_before (inr there) here
      | is_behind there here ↦ is_behind (inr there) here
    ]

one_alone : {X : Type 0} (x y : X) (front back : List X) → x ∷ [] ≡ front ++ y ∷ back → x ≡ y
one_alone x y [] back is = cc is
one_alone x y (z ∷ front) back is = absurd (omega (arith, ap length is, length-append front (y ∷ back)))

rank_is : (reading : Reading) (at : ℕ) → number (cause_at reading at) ≡ rank reading
rank_is (path text) at = refl
rank_is (member text) at = refl
rank_is (expression text) at = refl
rank_is (pattern text) at = refl
rank_is (names text) at = refl
rank_is (layout text) at = refl
rank_is (go_layout text) at = refl
rank_is (count text) at = refl

some_rank : (reading : Reading) → 1 ≤ rank reading
some_rank (path text) = omega arith
some_rank (member text) = omega arith
some_rank (expression text) = omega arith
some_rank (pattern text) = omega arith
some_rank (names text) = omega arith
some_rank (layout text) = omega arith
some_rank (go_layout text) = omega arith
some_rank (count text) = omega arith

ordered : (n m : ℕ) → (n ≤ m) ⊎ (m < n)
ordered zero m = inl (omega arith)
ordered (suc n) zero = inr (omega arith)
ordered (suc n) (suc m) = elim (ordered n m) [ inl less ↦ inl (omega (arith, less)) | inr more ↦ inr (omega (arith, more)) ]

-- ---- where a text goes wrong

begins_before : (text : List ℕ) (at later : ℕ) → at ≤ later → BeginsPathText (take later text) → BeginsPathText (take at text)
begins_before text at later within begins = record {
  rest = drop at (take later text) ++ begins.rest;
  place = begins.place;
  goes_on = subst (λ t. IsPathText t begins.place) (sym (front_and_rest text at later begins.rest within)) begins.goes_on;
}
  where
    front_and_rest : (text : List ℕ) (at later : ℕ) (rest : List ℕ) → at ≤ later → take at text ++ (drop at (take later text) ++ rest) ≡ take later text ++ rest
    front_and_rest text zero later rest within = refl
    front_and_rest [] (suc at) later rest within = ends later
      where
        ends : (later : ℕ) → drop (suc at) (take later []) ++ rest ≡ take later [] ++ rest
        ends zero = refl
        ends (suc later) = refl
    front_and_rest (byte ∷ text) (suc at) zero rest within = absurd (omega (arith, within))
    front_and_rest (byte ∷ text) (suc at) (suc later) rest within = ap (λ xs. byte ∷ xs) (front_and_rest text at later rest (omega (arith, within)))

no_later_path_fault : (text : List ℕ) (at other : ℕ) → IsPathFaultAt text at → IsPathFaultAt text other → at < other → ⊥
no_later_path_fault text at other one also less =
    one.not_past (omega (arith, less, also.within)) (begins_before text (at + 1) other (omega (arith, less)) also.before)

one_path_fault : (text : List ℕ) (at other : ℕ) → IsPathFaultAt text at → IsPathFaultAt text other → at ≡ other
one_path_fault text at other one also = elim (ordered at other) [
  | inl no_more ↦ elim (ordered other at) [
    | inl no_less ↦ omega (arith, no_more, no_less)
    | inr less ↦ absurd (no_later_path_fault text at other one also less)
  ]
  | inr more ↦ absurd (no_later_path_fault text other at also one more)
]

expression_fault : (text : List ℕ) (fault other : ExprReadFault) → IsExprFault text fault → IsExprFault text other → fault ≢ expr.Memory → other ≢ expr.Memory → of_read_fault fault ≡ of_read_fault other
expression_fault text fault other one also some also_some = ap of_read_fault (one_fault text fault other one also some also_some)

-- a reading is faulty at one byte
one_place : (reading : Reading) (at other : ℕ) → IsFaultyAt reading at → IsFaultyAt reading other → at ≡ other
one_place (path text) at other one also = one_path_fault text at other one also
one_place (member text) at other (inl one) (inl also) = one_path_fault text at other one also
one_place (member text) at other (inl one) (inr also) = absurd (one.no_path also.0.0 also.0.1)
one_place (member text) at other (inr one) (inl also) = absurd (also.no_path one.0.0 one.0.1)
one_place (member text) at other (inr one) (inr also) = one.1 ∙ sym also.1
one_place (expression text) at other (inl one) (inl also) = cc (expression_fault text (expr.Syntax at) (expr.Syntax other) one also (λ is. cc is) (λ is. cc is))
one_place (expression text) at other (inl one) (inr also) = cc (expression_fault text (expr.Syntax at) (expr.Pattern other) one also (λ is. cc is) (λ is. cc is))
one_place (expression text) at other (inr one) (inl also) = cc (expression_fault text (expr.Pattern at) (expr.Syntax other) one also (λ is. cc is) (λ is. cc is))
one_place (expression text) at other (inr one) (inr also) = cc (expression_fault text (expr.Pattern at) (expr.Pattern other) one also (λ is. cc is) (λ is. cc is))
one_place (pattern text) at other one also = one.1 ∙ sym also.1
one_place (names text) at other one also = one.1 ∙ sym also.1
one_place (layout text) at other one also = cc (sym one ∙ also)
one_place (go_layout text) at other one also = cc (sym one ∙ also)
one_place (count text) at other one also = one.1 ∙ sym also.1

not_empty : {A : Type 0} (xs : List A) (x : A) → [] ≡ xs ++ x ∷ [] → ⊥
not_empty xs x is = omega (arith, ap length is, length-append xs (x ∷ []))

-- a root isn't the place of a member
root_is_no_member : (text : List ℕ) → IsRoot text → IsFaulty (member text)
root_is_no_member text root parent name other =
    not_empty parent.names name (sym root.2 ∙ ap (λ p. p.names) (one_path text root.0 (member_of parent name) root.1 other))

is_faulty : (reading : Reading) (at : ℕ) → IsFaultyAt reading at → IsFaulty reading
is_faulty (path text) at there = there.no_path
is_faulty (member text) at (inl there) = λ parent name. there.no_path (member_of parent name)
is_faulty (member text) at (inr there) = root_is_no_member text there.0
is_faulty (expression text) at (inl there) = there.0
is_faulty (expression text) at (inr there) = there.0
is_faulty (pattern text) at there = there.0
is_faulty (names text) at there = there.0
is_faulty (layout text) at there = λ parts spelled. absurd (search (rules, sym there ∙ spelled))
is_faulty (go_layout text) at there = λ parts spelled. absurd (search (rules, sym there ∙ spelled))
is_faulty (count text) at there = there.0

-- ---- the least cause

-- nothing that counts more is faulty
none_less : (all : List Reading) (found : OpCause) (least : IsLeastCause all found) (other : Reading) → Has all other → rank other < rank least.reading → IsFaulty other → ⊥
none_less all found least other has less = elim (has-either least.front (least.reading ∷ least.back) other (subst (λ xs. Has xs other) least.parts has)) [
  | inl in_front ↦ least.first other in_front (omega (arith, less))
  | inr behind ↦ elim behind [
    | inl same ↦ λ faulty. omega (arith, less, ap rank same)
    | inr in_back ↦ least.least other in_back less
  ]
]

pub some_cause_is_faulty : (all : List Reading) (found : OpCause) → AreRead all → IsLeastCause all found → ⊥
some_cause_is_faulty all found read least =
    read least.reading (subst (λ xs. Has xs least.reading) (sym least.parts) (has-here least.front least.back least.reading)) (is_faulty least.reading least.at least.faulty)

pub one_cause : (all : List Reading) (found other : OpCause) → IsLeastCause all found → IsLeastCause all other → found ≡ other
one_cause all found other one also = elim (placed one.front one.back also.front also.back one.reading also.reading (sym one.parts ∙ also.parts)) [
  | is_same same ↦
      let places = one_place one.reading one.at also.at one.faulty (subst (λ r. IsFaultyAt r also.at) (sym same) also.faulty) in
      one.is ∙ ap (cause_at one.reading) places ∙ ap (λ r. cause_at r also.at) same ∙ sym also.is
  | is_before there here ↦ absurd (elim (ordered (rank one.reading) (rank also.reading)) [
    | inl no_more ↦ also.first one.reading there no_more (is_faulty one.reading one.at one.faulty)
    | inr more ↦ one.least also.reading here more (is_faulty also.reading also.at also.faulty)
  ])
  | is_behind there here ↦ absurd (elim (ordered (rank also.reading) (rank one.reading)) [
    | inl no_more ↦ one.first also.reading there no_more (is_faulty also.reading also.at also.faulty)
    | inr more ↦ also.least one.reading here more (is_faulty one.reading one.at one.faulty)
  ])
]

-- a reading alone
of_one : (reading : Reading) (at : ℕ) → IsFaultyAt reading at → IsLeastCause (reading ∷ []) (cause_at reading at)
of_one reading at faulty = record {
  front = [];
  reading = reading;
  back = [];
  parts = refl;
  at = at;
  faulty = faulty;
  is = refl;
  first = λ other has less. absurd has;
  least = λ other has less. absurd has;
}

pub no_path_of : (text : List ℕ) (fault : PathFault) → IsReadFault text fault → Caused (path text ∷ []) (of_path_fault fault)
no_path_of text (NotAPath at) given = λ _. of_one (path text) at given
no_path_of text Memory given = λ some. absurd (some refl)

pub no_expression_of : (text : List ℕ) (fault : ExprReadFault) → IsExprFault text fault → Caused (expression text ∷ []) (of_read_fault fault)
no_expression_of text (expr.Syntax at) given = λ _. of_one (expression text) at (inl given)
no_expression_of text (expr.Pattern at) given = λ _. of_one (expression text) at (inr given)
no_expression_of text expr.Memory given = λ some. absurd (some refl)

-- the front alone, where nothing behind it has a cause that counts more
pub caused_in_front : (front back : List Reading) (found : OpCause) → ((other : Reading) → Has back other → number found ≤ rank other) → Caused front found → Caused (front ++ back) found
caused_in_front front back found no_less given some =
    let alone = given some in
    record {
      front = alone.front;
      reading = alone.reading;
      back = alone.back ++ back;
      parts = ap (λ xs. xs ++ back) alone.parts ∙ append_assoc alone.front (alone.reading ∷ alone.back) back;
      at = alone.at;
      faulty = alone.faulty;
      is = alone.is;
      first = alone.first;
      least = λ other has less faulty. elim (has-either alone.back back other has) [
        | inl in_front ↦ alone.least other in_front less faulty
        | inr behind ↦ omega (arith, less, no_less other behind, ap number alone.is, rank_is alone.reading alone.at)
      ];
    }

-- what stands behind others that can be read
pub caused_behind : (front back : List Reading) (found : OpCause) → AreRead front → Caused back found → Caused (front ++ back) found
caused_behind front back found read given some =
    let alone = given some in
    record {
      front = front ++ alone.front;
      reading = alone.reading;
      back = alone.back;
      parts = ap (λ xs. front ++ xs) alone.parts ∙ sym (append_assoc front alone.front (alone.reading ∷ alone.back));
      at = alone.at;
      faulty = alone.faulty;
      is = alone.is;
      first = λ other has no_more faulty. elim (has-either front alone.front other has) [
        | inl in_front ↦ read other in_front faulty
        | inr behind ↦ alone.first other behind no_more faulty
      ];
      least = alone.least;
    }

-- paths count most
pub paths_first : (text : List ℕ) (other : Reading) → rank (path text) ≤ rank other
paths_first text other = some_rank other

-- what is caused by a path alone is told of it, whatever stands behind it
path_in_front : (text : List ℕ) (back : List Reading) (found : OpCause) → Caused (path text ∷ []) found → Caused (path text ∷ back) found
path_in_front text back found given some =
    let alone = given some in
    let same = one_alone (path text) alone.reading alone.front alone.back alone.parts in
    caused_in_front (path text ∷ []) back found
    (λ other has. omega (arith, some_rank other, ap number alone.is, rank_is alone.reading alone.at, ap rank same)) given some

pub first_path : (from to : List ℕ) (found : OpCause) → Caused (path from ∷ []) found → Caused (path from ∷ path to ∷ []) found
first_path from to found given = path_in_front from (path to ∷ []) found given

pub second_path : (from to : List ℕ) (found : OpCause) → AreRead (path from ∷ []) → Caused (path to ∷ []) found → Caused (path from ∷ path to ∷ []) found
second_path from to found read given = caused_behind (path from ∷ []) (path to ∷ []) found read given

pub field_cause : (field mark : List ℕ) (source : Option (List ℕ)) (found : OpCause) → Caused (path field ∷ []) found → Caused (path field ∷ (paths_if_any source ++ expression mark ∷ [])) found
field_cause field mark source found given = path_in_front field (paths_if_any source ++ expression mark ∷ []) found given

pub source_cause : (field mark : List ℕ) (source : Option (List ℕ)) (found : OpCause) → AreRead (path field ∷ []) → Caused (paths_if_any source) found → Caused (path field ∷ (paths_if_any source ++ expression mark ∷ [])) found
source_cause field mark None found read given = λ some. absurd (not_empty_at (given some).front (given some).reading (given some).back (given some).parts)
  where
    not_empty_at : (front : List Reading) (reading : Reading) (back : List Reading) → [] ≡ front ++ reading ∷ back → ⊥
    not_empty_at front reading back is = omega (arith, ap length is, length-append front (reading ∷ back))
source_cause field mark (Some text) found read given =
    caused_behind (path field ∷ []) (path text ∷ expression mark ∷ []) found read (path_in_front text (expression mark ∷ []) found given)

-- one of a list, where those before it can be read and it counts no less than those behind it
at_index : {X : Type 0} (f : X → Reading) (xs : List X) (index : ℕ) (x : X) (found : OpCause) → index < length xs → slice_index_or xs index x ≡ x → AreRead (map f (take index xs))
    → ((other : X) → rank (f x) ≤ rank (f other)) → Caused (f x ∷ []) found → Caused (map f xs) found
at_index f [] index x found within at read no_less given = absurd (omega (arith, within))
at_index f (y ∷ xs) zero x found within at read no_less given = λ some.
    let alone = given some in
    let same = one_alone (f x) alone.reading alone.front alone.back alone.parts in
    subst (λ r. IsLeastCause (r ∷ map f xs) found) (ap f (sym at))
    (caused_in_front (f x ∷ []) (map f xs) found
    (λ other has. let is = has-map f xs other has in omega (arith, no_less is.0, ap rank is.1, ap number alone.is, rank_is alone.reading alone.at, ap rank same)) given some)
at_index f (y ∷ xs) (suc index) x found within at read no_less given =
    caused_behind (f y ∷ []) (map f xs) found
    (λ reading has. read reading (elim has [ inl same ↦ inl same | inr none ↦ absurd none ]))
    (at_index f xs index x found (omega (arith, within)) at (λ reading has. read reading (inr has)) no_less given)

pub path_at : (texts : List (List ℕ)) (index : ℕ) (text : List ℕ) (found : OpCause) → index < length texts → slice_index_or texts index text ≡ text → AreRead (map path (take index texts)) → Caused (path text ∷ []) found → Caused (map path texts) found
path_at texts index text found within at read given = at_index path texts index text found within at read (λ other. paths_first text (path other)) given

pub expression_at : (routes : List RouteSpec) (index : ℕ) (route : RouteSpec) (found : OpCause) → index < length routes → slice_index_or routes index route ≡ route → AreRead (map route_reading (take index routes))
    → Caused (expression route.expr ∷ []) found → Caused (map route_reading routes) found
expression_at routes index route found within at read given = at_index route_reading routes index route found within at read (λ other. omega arith) given

-- a path that can't be read has no member
pub no_member_of : (text : List ℕ) (found : OpCause) → Caused (path text ∷ []) found → Caused (member text ∷ []) found
no_member_of text found given some =
    let alone = given some in
    let same = one_alone (path text) alone.reading alone.front alone.back alone.parts in
    let faulty : IsFaultyAt (path text) alone.at = subst (λ r. IsFaultyAt r alone.at) (sym same) alone.faulty in
    let is : found ≡ cause_at (member text) alone.at = alone.is ∙ ap (λ r. cause_at r alone.at) (sym same) in
    subst (IsLeastCause (member text ∷ [])) (sym is) (of_one (member text) alone.at (inl faulty))

pub no_member_at_a_root : (text : List ℕ) (place : Place) → IsPathText text place → place.names ≡ [] → Caused (member text ∷ []) (cause.Path (length text))
no_member_at_a_root text place is root some = of_one (member text) (length text) (inr ((place, is, root), refl))

none_below : (found : OpCause) → found ≢ cause.Memory → number found ≤ 0 → ⊥
none_below cause.Memory some below = some refl
none_below (cause.Path at) some below = omega (arith, below)
none_below (cause.Expr at) some below = omega (arith, below)
none_below cause.Pattern some below = omega (arith, below)
none_below (cause.Layout at) some below = omega (arith, below)
none_below cause.NoNames some below = omega (arith, below)

-- ---- a whole operator

-- what stands in front of others that can be read
pub caused_alone : (front back : List Reading) (found : OpCause) → AreRead back → Caused front found → Caused (front ++ back) found
caused_alone front back found read given some =
    let alone = given some in
    record {
      front = alone.front;
      reading = alone.reading;
      back = alone.back ++ back;
      parts = ap (λ xs. xs ++ back) alone.parts ∙ append_assoc alone.front (alone.reading ∷ alone.back) back;
      at = alone.at;
      faulty = alone.faulty;
      is = alone.is;
      first = alone.first;
      least = λ other has less faulty. elim (has-either alone.back back other has) [
        | inl in_front ↦ alone.least other in_front less faulty
        | inr behind ↦ read other behind faulty
      ];
    }

-- of two lists that have a cause each
pub least_caused : (front back : List Reading) (one other : OpCause) → Caused front one → Caused back other → Caused (front ++ back) (least_of one other)
least_caused front back one other first then_so = by (nat_lt (number other) (number one)) refl
  where
    by : (less : Bool) → nat_lt (number other) (number one) ≡ less → Caused (front ++ back) (if less then other else one)
    by true is some =
        let last = then_so some in
        let first_some : one ≢ cause.Memory = λ memory. omega (arith, ltb-true (number other) (number one) is, ap number memory) in
        let first_cause = first first_some in
        record {
          front = front ++ last.front;
          reading = last.reading;
          back = last.back;
          parts = ap (λ xs. front ++ xs) last.parts ∙ sym (append_assoc front last.front (last.reading ∷ last.back));
          at = last.at;
          faulty = last.faulty;
          is = last.is;
          first = λ third has no_more faulty. elim (has-either front last.front third has) [
            | inl in_front ↦ none_less front one first_cause third in_front
                (omega (arith, no_more, ltb-true (number other) (number one) is, ap number last.is, rank_is last.reading last.at, ap number first_cause.is, rank_is first_cause.reading first_cause.at)) faulty
            | inr behind ↦ last.first third behind no_more faulty
          ];
          least = last.least;
        }
    by false is some =
        let alone = first some in
        let last_some : other ≢ cause.Memory = λ memory. none_below one some (omega (arith, ltb-false (number other) (number one) is, ap number memory)) in
        let last = then_so last_some in
        record {
          front = alone.front;
          reading = alone.reading;
          back = alone.back ++ back;
          parts = ap (λ xs. xs ++ back) alone.parts ∙ append_assoc alone.front (alone.reading ∷ alone.back) back;
          at = alone.at;
          faulty = alone.faulty;
          is = alone.is;
          first = alone.first;
          least = λ third has lesser faulty. elim (has-either alone.back back third has) [
            | inl in_front ↦ alone.least third in_front lesser faulty
            | inr behind ↦ none_less back other last third behind
                (omega (arith, lesser, ltb-false (number other) (number one) is, ap number alone.is, rank_is alone.reading alone.at, ap number last.is, rank_is last.reading last.at)) faulty
          ];
        }

-- ---- what was read

pub all_are_read : (front back : List Reading) → AreRead front → AreRead back → AreRead (front ++ back)
all_are_read front back first then_so reading has = elim (has-either front back reading has) [ inl in_front ↦ first reading in_front | inr behind ↦ then_so reading behind ]

pub one_is_read : (one : Reading) → (IsFaulty one → ⊥) → AreRead (one ∷ [])
one_is_read one fine reading (inl is) faulty = fine (subst IsFaulty is faulty)
one_is_read one fine reading (inr none) faulty = none

pub two_are_read : (one other : Reading) → (IsFaulty one → ⊥) → (IsFaulty other → ⊥) → AreRead (one ∷ other ∷ [])
two_are_read one other fine also = all_are_read (one ∷ []) (other ∷ []) (one_is_read one fine) (one_is_read other also)

-- ---- what readers answer

pub both_answer : {A B : Type 0} (all more : List Reading) (one : Result A OpCause) (other : Result B OpCause) → Answers all one → Answers more other → Answers (all ++ more) (both one other)
both_answer all more (Ok x) (Ok y) first second = all_are_read all more first second
both_answer all more (Ok x) (Err found) first second = caused_behind all more found first second
both_answer all more (Err found) (Ok y) first second = caused_alone all more found second first
both_answer all more (Err found) (Err other) first second = least_caused all more found other first second

-- what both answered, where they answered
pub both_made : {A B : Type 0} (one : Result A OpCause) (other : Result B OpCause) (x : A) (y : B) → both one other ≡ Ok (x, y) → (one ≡ Ok x) × (other ≡ Ok y)
both_made {A} {B} (Ok a) (Ok b) x y is =
    let pair : (a, b) ≡ (x, y) = cc is in
    (ap (λ (p : A × B). Ok p.0) pair, ap (λ (p : A × B). Ok p.1) pair)
both_made (Ok a) (Err found) x y is = absurd (search (rules, is))
both_made (Err found) (Ok b) x y is = absurd (search (rules, is))
both_made (Err found) (Err other) x y is = absurd (search (rules, is))

pub path_answers : (text : List ℕ) (read : Result Place OpCause) → IfOk read (IsPathText text) → IfErr read (Caused (path text ∷ [])) → Answers (path text ∷ []) read
path_answers text (Ok place) is given = one_is_read (path text) (λ none. none place is)
path_answers text (Err found) is given = given

pub two_paths_answer : (from to : List ℕ) (read : Result (Place × Place) OpCause) → IfOk read (λ p. IsPathText from p.0 × IsPathText to p.1) → IfErr read (Caused (path from ∷ path to ∷ [])) → Answers (path from ∷ path to ∷ []) read
two_paths_answer from to (Ok places) is given = two_are_read (path from) (path to) (λ none. none places.0 is.0) (λ none. none places.1 is.1)
two_paths_answer from to (Err found) is given = given

pub pattern_answers : (text : List ℕ) (fault : RegexFault) → IsRefused text fault → Caused (pattern text ∷ names text ∷ []) (of_regex_fault fault)
pattern_answers text regex.Refused is = caused_in_front (pattern text ∷ []) (names text ∷ []) cause.Pattern (λ other has. elim has [ inl same ↦ omega (arith, ap rank same) | inr none ↦ absurd none ]) (λ _. of_one (pattern text) 0 (is, refl))
pattern_answers text regex.NoNames is = caused_behind (pattern text ∷ []) (names text ∷ []) cause.NoNames (one_is_read (pattern text) (λ faulty. true≢false (sym is.0 ∙ faulty))) (λ _. of_one (names text) 0 (is.1, refl))
pattern_answers text regex.Memory is = λ some. absurd (some refl)

pub pattern_is_read : (text : List ℕ) → IsPattern text → AreRead (pattern text ∷ names text ∷ [])
pattern_is_read text is = two_are_read (pattern text) (names text) (λ faulty. true≢false (sym is.read ∙ faulty)) (λ faulty. is.named faulty)

pub layout_answers : (text : List ℕ) (fault : LayoutFault) → IsFaultOf (layout_parts text) fault → Caused (layout text ∷ []) (of_layout_fault fault)
layout_answers text (layout_fault.Directive at) is = λ _. of_one (layout text) at is
layout_answers text layout_fault.Memory is = λ some. absurd (some refl)

pub go_layout_answers : (text : List ℕ) (fault : LayoutFault) → IsFaultOf (go_parts text) fault → Caused (go_layout text ∷ []) (of_layout_fault fault)
go_layout_answers text (layout_fault.Directive at) is = λ _. of_one (go_layout text) at is
go_layout_answers text layout_fault.Memory is = λ some. absurd (some refl)

pub count_answers : (text : List ℕ) → count_named text ≡ None → Caused (count text ∷ []) (cause.Layout 0)
count_answers text is = λ _. of_one (count text) 0 (is, refl)
