-- What settings say is within the limits.
use Rattle.std.proofs.Common.{◌≡◌, ℕ, zero, suc, ◌+◌, ◌≤◌, List, [], ◌∷◌, length, Bool, true, false, true≢false, Result, Ok, Err, Option, None, Some, ◌++◌, refl, sym, ap, subst, ◌∙◌, arith, rules}
use Rattle.std.proofs.lemmas.Bool.{ltb-false, ltb-true, leb-true}
use Rattle.std.specs.Str.{bytes_eq}
use Rattle.std.specs.Prelude.{not, ◌||◌, ◌==◌, ◌<◌, nat_lt, ◌&&◌, if◌then◌else◌, codes, slice_get, max, pos, negsuc, ℤ, nat_abs, int_le, ◌^◌, decimal}
use Rattle.entry_model.specs.Datum as datum
use Rattle.serde_json.specs.Data.{Data, null, boolean, number, string, array, object, Items, no_items, item, Members, no_members, member, Num, unsigned, negative, float, depth, items_depth, members_depth}
use Rattle.serde_json.specs.Events.{items_len}
use Rattle.serde_json.specs.Find.{get, as_object, as_number, as_array, as_str, as_i64, is_float}
use Rattle.entry_model.specs.Lawful.{nesting, items_nesting, members_nesting}
use Rattle.settings_text.specs.Grammar.{settings, settings_of, flags_of, json_of, is_top_key, start_named}
use Rattle.settings_text.specs.Kinds.{Kind, must, may, or_missing, or_default, given, known, name, text, flag, whole, integer, integer_within, number_within, texts, some_texts, text_or_texts, some_item_texts, fields, value, each, IsSomeIfWritten}
use Rattle.settings_text.specs.Limits.{KeepsLimits, OperatorKeepsLimits, KindKeepsLimits, route_count}
use Rattle.settings_text.specs.Multilines.{multiline}
use Rattle.settings_text.specs.Operators as op
use Rattle.settings_text.specs.Operators.{at_most_64, with_ids, draft, written_ids, front, type_named, on_error_named, is_key_of, kind_of}
use Rattle.settings_text.specs.Parsers as parsers
use Rattle.settings_text.specs.Names.{single, is_delimiter}
use Rattle.settings_text.specs.Types.CsvParsing as csv_parsing
use Rattle.settings_text.specs.Types.KeyValueParsing as key_value_parsing
use Rattle.settings_text.specs.Outcome.{◌>>=◌, or_fault}
use Rattle.settings_text.specs.Place.{item_place}
use Rattle.settings_text.specs.Severities as severities
use Rattle.settings_text.specs.Times as times
use Rattle.settings_text.specs.Times.{location_named}
use Rattle.settings_text.specs.Types.ContainerReading.{format_named}
use Rattle.settings_text.specs.Types.Recombining as recombining
use Rattle.settings_text.specs.Types.Recombining.{marked, overwriting_named}
use Rattle.settings_text.specs.Types.Routing as routing
use Rattle.settings_text.specs.Types.Routing.{is_route_key, route, routable}
use Rattle.settings_text.specs.Types.SyslogParsing.{protocol_named, year_of}
use Rattle.settings_text.specs.ValueData.{value_data, items_data, members_data, number_data, has_fraction}
use Rattle.settings_text.specs.declared.fault.SettingsFault.{SettingsFault}
use Rattle.settings_text.specs.declared.fault.SettingsFault.TheVariants.{NotJson, WrongKind, OutOfRange, Fraction, TooLong}
use Rattle.settings_text.specs.declared.operators.Draft.{Draft}
use Rattle.settings_text.specs.declared.operators.OpType.{OpType}
use Rattle.settings_text.specs.declared.operators.OpType.TheVariants.{Noop, Container, Move, Copy, Add, Remove, Flatten, Retain, Filter, Csv, Json, KeyValue, Regex, Time, Severity, Syslog, Router, Recombine}
use Rattle.settings_text.specs.declared.settings.Multiline.TheVariants.{Lines}
use Rattle.settings_text.specs.declared.settings.OnError.TheVariants.{Send}
use Rattle.settings_text.specs.declared.settings.OpKind.{OpKind}
use Rattle.settings_text.specs.declared.settings.OpKind.TheVariants as kind
use Rattle.settings_text.specs.declared.settings.OpSpec.{OpSpec}
use Rattle.settings_text.specs.declared.settings.RouteSpec.{RouteSpec}
use Rattle.settings_text.specs.declared.settings.Settings.{Settings}
use Rattle.settings_text.specs.declared.settings.StartAt.TheVariants.{End}

no_value : {A : Type 0} (fault : SettingsFault) (x : A) → ◌≡◌ {A = Result A SettingsFault} (Err fault) (Ok x) → ⊥
no_value fault x e = search (rules, e)

same_value : {A : Type 0} (x y : A) → ◌≡◌ {A = Result A SettingsFault} (Ok x) (Ok y) → x ≡ y
same_value x y e = search (rules, e)

pub binds : {A B : Type 0} (r : Result A SettingsFault) (f : A → Result B SettingsFault) (y : B) → (r >>= f) ≡ Ok y → (x : A) × (r ≡ Ok x) × (f x ≡ Ok y)
binds (Ok x) f y e = (x, refl, e)
binds (Err fault) f y e = absurd (no_value fault y e)

-- what is read by a kind, or the default, has the fact
from_kind : {A : Type 0} (P : A → Type 0) (default : A) (kind : Kind A) (place : List ℕ) (there : Option Data) (x : A) → P default → ((d : Data) (y : A) → kind place d ≡ Ok y → P y) → or_default default kind place there ≡ Ok x → P x
from_kind P default kind place None x first then_so e = search (rules, e, first)
from_kind P default kind place (Some d) x first then_so e = then_so d x e

-- what must be there and is read by a kind has the fact
from_must : {A : Type 0} (P : A → Type 0) (kind : Kind A) (place : List ℕ) (there : Option Data) (x : A) → ((d : Data) (y : A) → kind place d ≡ Ok y → P y) → or_missing kind place there ≡ Ok x → P x
from_must P kind place None x then_so e = absurd (no_value _ x e)
from_must P kind place (Some d) x then_so e = then_so d x e

within : (low high : ℕ) (place : List ℕ) (found : Option ℤ) (x : ℤ) → integer_within (pos low) (pos high) place found ≡ Ok x → (low ≤ nat_abs x) × (nat_abs x ≤ high)
within low high place None x e = absurd (no_value _ x e)
within low high place (Some z) x e = by (int_le (pos low) z) refl (int_le z (pos high)) refl e
  where
    in_range : (z : ℤ) → int_le (pos low) z ≡ true → int_le z (pos high) ≡ true → (low ≤ nat_abs z) × (nat_abs z ≤ high)
    in_range (pos n) from to = (leb-true low n from, leb-true n high to)
    in_range (negsuc n) from to = absurd (true≢false (sym from))

    by : (a : Bool) → int_le (pos low) z ≡ a → (b : Bool) → int_le z (pos high) ≡ b → (if a && b then Ok z else Err (OutOfRange place)) ≡ Ok x → (low ≤ nat_abs x) × (nat_abs x ≤ high)
    by true from true to is = subst (λ y. (low ≤ nat_abs y) × (nat_abs y ≤ high)) (same_value z x is) (in_range z from to)
    by true from false to is = absurd (no_value (OutOfRange place) x is)
    by false from b to is = absurd (no_value (OutOfRange place) x is)

number_in : (low high : ℕ) (place : List ℕ) (n : Num) (x : ℤ) → number_within (pos low) (pos high) place n ≡ Ok x → (low ≤ nat_abs x) × (nat_abs x ≤ high)
number_in low high place n x e = by (is_float n) e
  where
    by : (b : Bool) → (if b then Err (Fraction place) else integer_within (pos low) (pos high) place (as_i64 n)) ≡ Ok x → (low ≤ nat_abs x) × (nat_abs x ≤ high)
    by true is = absurd (no_value (Fraction place) x is)
    by false is = within low high place (as_i64 n) x is

whole_within : (low high : ℕ) (place : List ℕ) (d : Data) (x : ℕ) → whole low high place d ≡ Ok x → (low ≤ x) × (x ≤ high)
whole_within low high place d x e =
    let read = binds (integer (pos low) (pos high) place d) (λ z. Ok (nat_abs z)) x e in
    let number = binds (or_fault (WrongKind place) (as_number d)) (number_within (pos low) (pos high) place) read.0 read.1 in
    subst (λ y. (low ≤ y) × (y ≤ high)) (same_value (nat_abs read.0) x read.2) (number_in low high place number.0 read.0 number.2)

as_many : {A : Type 0} (read : ℕ → Data → Result A SettingsFault) (n : ℕ) (items : Items) (all : List A) → each read n items ≡ Ok all → length all ≡ items_len items
unfolding each
as_many read n no_items all e = search (rules, e)
as_many read n (item d ds) all e =
    let first = binds (read n d) _ all e in
    let others = binds (each read (n + 1) ds) _ all first.2 in
    search (rules, others.2, as_many read (n + 1) ds others.0 others.1)

not_there : {A : Type 0} (x : A) → ◌≡◌ {A = Option A} None (Some x) → ⊥
not_there x e = search (rules, e)

same_there : {A : Type 0} (x y : A) → ◌≡◌ {A = Option A} (Some x) (Some y) → x ≡ y
same_there x y e = search (rules, e)

in_front : {A : Type 0} (P : A → Type 0) (y : A) (ys : List A) → P y → ((i : ℕ) (x : A) → slice_get ys i ≡ Some x → P x) → (i : ℕ) (x : A) → slice_get (y ∷ ys) i ≡ Some x → P x
in_front P y ys first others zero x at = subst P (same_there y x at) first
in_front P y ys first others (suc i) x at = others i x at

-- what is had by whatever is read, each member of the list has
each_has : {A : Type 0} (P : A → Type 0) (read : ℕ → Data → Result A SettingsFault) → ((n : ℕ) (d : Data) (x : A) → read n d ≡ Ok x → P x)
    → (n : ℕ) (items : Items) (all : List A) → each read n items ≡ Ok all → (i : ℕ) (x : A) → slice_get all i ≡ Some x → P x
unfolding each
each_has P read so n no_items all e i x at = absurd (not_there x (subst (λ l. slice_get l i ≡ Some x) (sym (same_value [] all e)) at))
each_has P read so n (item d ds) all e i x at =
    let first = binds (read n d) _ all e in
    let others = binds (each read (n + 1) ds) _ all first.2 in
    let is : first.0 ∷ others.0 ≡ all = same_value _ all others.2 in
    in_front P first.0 others.0 (so n d first.0 first.1) (each_has P read so (n + 1) ds others.0 others.1) i x (subst (λ l. slice_get l i ≡ Some x) (sym is) at)

ids_as_many : (taken : List (List ℕ)) (drafts : List Draft) → length (with_ids taken drafts) ≡ length drafts
unfolding with_ids
ids_as_many taken [] = refl
ids_as_many taken (d ∷ ds) = ap suc (ids_as_many (taken ++ op.id_of taken d ∷ []) ds)

-- what is had by whatever is settled of a draft, each operator has
ids_keep : (P : OpSpec → Type 0) (Q : Draft → Type 0) → ((taken : List (List ℕ)) (d : Draft) → Q d → P (op.settled taken d))
    → (taken : List (List ℕ)) (drafts : List Draft) → ((i : ℕ) (d : Draft) → slice_get drafts i ≡ Some d → Q d)
    → (i : ℕ) (o : OpSpec) → slice_get (with_ids taken drafts) i ≡ Some o → P o
unfolding with_ids
ids_keep P Q settle taken [] so i o at = absurd (not_there o at)
ids_keep P Q settle taken (d ∷ ds) so i o at =
    in_front P (op.settled taken d) _ (settle taken d (so zero d refl)) (ids_keep P Q settle (taken ++ op.id_of taken d ∷ []) ds (λ j. so (suc j))) i o at

-- ---- lists that have a member

some_items : (place : List ℕ) (items : Items) (all : List (List ℕ)) → some_item_texts place items ≡ Ok all → 1 ≤ length all
some_items place no_items all e = absurd (no_value _ all e)
some_items place (item d ds) all e = omega (arith, as_many (λ n. text (item_place place n)) 0 (item d ds) all e)

some_listed : (place : List ℕ) (d : Data) (all : List (List ℕ)) → some_texts place d ≡ Ok all → 1 ≤ length all
some_listed place d all e =
    let items = binds (or_fault (WrongKind place) (as_array d)) (some_item_texts place) all e in
    some_items place items.0 all items.2

some_or_one : (place : List ℕ) (d : Data) (all : List (List ℕ)) → text_or_texts place d ≡ Ok all → 1 ≤ length all
some_or_one place d all e = by (as_str d) e
  where
    by : (one : Option (List ℕ)) → (elim one as (λ _. Result (List (List ℕ)) SettingsFault) [ Some one ↦ Ok (one ∷ []) | None ↦ some_texts place d ]) ≡ Ok all → 1 ≤ length all
    by (Some word) is =
        let one : 1 ≤ length (word ∷ []) = omega arith in
        subst (λ l. 1 ≤ length l) (same_value (word ∷ []) all is) one
    by None is = some_listed place d all is

some_given : (place : List ℕ) (d : Data) (written : Option (List (List ℕ))) → given text_or_texts place d ≡ Ok written → IsSomeIfWritten written
some_given place d written e ids is =
    let read = binds (text_or_texts place d) _ written e in
    let same : read.0 ≡ ids = same_there read.0 ids (same_value (Some read.0) written read.2 ∙ is) in
    subst (λ l. 1 ≤ length l) same (some_or_one place d read.0 read.1)

some_written : (at key : List ℕ) (d : Data) (written : Option (List (List ℕ))) → may at key (given text_or_texts) None d ≡ Ok written → IsSomeIfWritten written
some_written at key d written e = from_kind IsSomeIfWritten None (given text_or_texts) (at ++ key) (get key d) written (λ ids is. absurd (not_there ids is)) (some_given (at ++ key)) e

-- ---- how deep values nest

number_nests : (n : Num) → nesting (number_data n) ≡ 0
number_nests (unsigned n) = by (nat_lt n (2 ^ 63))
  where
    by : (b : Bool) → nesting (if b then datum.int (pos n) else datum.text (decimal n)) ≡ 0
    by true = refl
    by false = refl
number_nests (negative z) = refl
number_nests (float x) = refl

mutual
  nests : (d : Data) → nesting (value_data d) ≡ depth d
  nests null = refl
  nests (boolean b) = refl
  nests (number n) = number_nests n
  nests (string s) = refl
  nests (array ds) = ap suc (items_nest ds)
  nests (object ms) = ap suc (members_nest ms)

  items_nest : (ds : Items) → items_nesting (items_data ds) ≡ items_depth ds
  items_nest no_items = refl
  items_nest (item d ds) = ap (λ n. max n (items_nesting (items_data ds))) (nests d) ∙ ap (max (depth d)) (items_nest ds)

  members_nest : (ms : Members) → members_nesting (members_data ms) ≡ members_depth ms
  members_nest no_members = refl
  members_nest (member key d ms) = ap (λ n. max n (members_nesting (members_data ms))) (nests d) ∙ ap (max (depth d)) (members_nest ms)

value_nests : (place : List ℕ) (d : Data) (read : datum.Datum) → value place d ≡ Ok read → nesting read ≤ 64
value_nests place d read e = by (has_fraction d) (nat_lt 64 (depth d)) refl e
  where
    by : (fraction deep : Bool) → nat_lt 64 (depth d) ≡ deep → (if fraction then Err (Fraction place) else (if deep then Err (OutOfRange place) else Ok (value_data d))) ≡ Ok read → nesting read ≤ 64
    by true deep known is = absurd (no_value _ read is)
    by false true known is = absurd (no_value _ read is)
    by false false known is =
        let few : nesting (value_data d) ≤ 64 = omega (arith, ltb-false 64 (depth d) known, nests d) in
        subst (λ v. nesting v ≤ 64) (same_value (value_data d) read is) few

-- ---- routes

routes_within : (place : List ℕ) (items all : Items) → routable place items ≡ Ok all → (all ≡ items) × (items_len items ≤ 65534)
routes_within place no_items all e = absurd (no_value _ all e)
routes_within place (item d ds) all e = by (nat_lt 65534 (items_len (item d ds))) refl e
  where
    by : (b : Bool) → nat_lt 65534 (items_len (item d ds)) ≡ b → (if b then Err (OutOfRange place) else Ok (item d ds)) ≡ Ok all → (all ≡ item d ds) × (items_len (item d ds) ≤ 65534)
    by true many is = absurd (no_value _ all is)
    by false some is = (sym (same_value (item d ds) all is), ltb-false 65534 (items_len (item d ds)) some)

few_routes : (place : List ℕ) (d : Data) (routes : List RouteSpec) → routing.routes place d ≡ Ok routes → length routes ≤ 65534
few_routes place d routes e =
    let all = binds (or_fault (WrongKind place) (as_array d)) _ routes e in
    let some = binds (routable place all.0) _ routes all.2 in
    let few_items = routes_within place all.0 some.0 some.1 in
    omega (arith, as_many (route place) 0 some.0 routes some.2, ap items_len few_items.0, few_items.1)

some_routes : (place : List ℕ) (d : Data) (routes : List RouteSpec) → routing.routes place d ≡ Ok routes → 1 ≤ length routes
some_routes place d routes e =
    let all = binds (or_fault (WrongKind place) (as_array d)) _ routes e in
    let some = binds (routable place all.0) _ routes all.2 in
    by all.0 some.0 some.1 some.2
  where
    by : (items few_items : Items) → routable place items ≡ Ok few_items → each (route place) 0 few_items ≡ Ok routes → 1 ≤ length routes
    by no_items few_items is read = absurd (no_value _ few_items is)
    by (item d ds) few_items is read = omega (arith, as_many (route place) 0 few_items routes read, ap items_len (routes_within place (item d ds) few_items is).0)

route_output : (place : List ℕ) (n : ℕ) (d : Data) (made : RouteSpec) → route place n d ≡ Ok made → 1 ≤ length made.output
unfolding route
route_output place n d made e =
    let members = binds (or_fault (WrongKind (item_place place n)) (as_object d)) _ made e in
    let all_known = binds (known is_route_key (item_place place n ++ codes ".") members.0) _ made members.2 in
    let expr = binds (must (item_place place n ++ codes ".") (codes "expr") text d) _ made all_known.2 in
    let output = binds (must (item_place place n ++ codes ".") (codes "output") text_or_texts d) _ made expr.2 in
    let some : 1 ≤ length output.0 = from_must (λ l. 1 ≤ length l) text_or_texts (item_place place n ++ codes "." ++ codes "output") (get (codes "output") d) output.0 (some_or_one (item_place place n ++ codes "." ++ codes "output")) output.1 in
    subst (λ (r : RouteSpec). 1 ≤ length r.output) (same_value _ made output.2) some

routes_output : (place : List ℕ) (d : Data) (routes : List RouteSpec) → routing.routes place d ≡ Ok routes → (i : ℕ) (made : RouteSpec) → slice_get routes i ≡ Some made → 1 ≤ length made.output
routes_output place d routes e =
    let all = binds (or_fault (WrongKind place) (as_array d)) _ routes e in
    let some = binds (routable place all.0) _ routes all.2 in
    each_has (λ (r : RouteSpec). 1 ≤ length r.output) (route place) (route_output place) 0 some.0 routes some.2

-- ---- what a type says

kept : (made kind : OpKind) → KindKeepsLimits made → ◌≡◌ {A = Result OpKind SettingsFault} (Ok made) (Ok kind) → KindKeepsLimits kind
kept made kind keeps e = subst KindKeepsLimits (same_value made kind e) keeps

default_entries : recombining.KeepsLimits 1000
default_entries = record { some = omega arith; most = omega arith }

recombine_keeps : (at : List ℕ) (d : Data) (made : OpKind) → recombining.read at d ≡ Ok made → KindKeepsLimits made
unfolding recombining.read
recombine_keeps at d made e =
    let field = binds (must at (codes "combine_field") text d) _ made e in
    let mark = binds (marked at d) _ made field.2 in
    let between = binds (may at (codes "combine_with") text (10 ∷ []) d) _ made mark.2 in
    let most = binds (may at (codes "max_batch_size") (whole 1 1000000) 1000 d) _ made between.2 in
    let newest = binds (may at (codes "overwrite_with") (name overwriting_named) false d) _ made most.2 in
    let source = binds (may at (codes "source_identifier") (given text) None d) _ made newest.2 in
    kept (kind.Recombine field.0 mark.0.0 mark.0.1 between.0 most.0 newest.0 source.0) made
    (from_kind recombining.KeepsLimits 1000 (whole 1 1000000) (at ++ codes "max_batch_size") (get (codes "max_batch_size") d) most.0 default_entries
    (λ found read is. let range = whole_within 1 1000000 (at ++ codes "max_batch_size") found read is in record { some = range.0; most = range.1 }) most.1) source.2

single_is_low : (content : List ℕ) (byte : ℕ) → single content ≡ Some byte → byte < 128
single_is_low [] byte e = absurd (not_there byte e)
single_is_low (one ∷ []) byte e = by (nat_lt one 128) refl (not ((one == 34) || (one == 13) || (one == 10))) e
  where
    by : (low : Bool) → nat_lt one 128 ≡ low → (other : Bool) → (if low && other then Some one else None) ≡ Some byte → byte < 128
    by true is true e = subst (λ n. n < 128) (same_there one byte e) (ltb-true one 128 is)
    by true is false e = absurd (not_there byte e)
    by false is other e = absurd (not_there byte e)
single_is_low (one ∷ next ∷ rest) byte e = absurd (not_there byte e)

low_found : (content place : List ℕ) (found : Option ℕ) (byte : ℕ) → single content ≡ found → or_fault (OutOfRange place) found ≡ Ok byte → byte < 128
low_found content place None byte is e = absurd (no_value (OutOfRange place) byte e)
low_found content place (Some one) byte is e = subst (λ n. n < 128) (same_value one byte e) (single_is_low content one is)

named_single : (place : List ℕ) (d : Data) (byte : ℕ) → name single place d ≡ Ok byte → byte < 128
named_single place d byte e =
    let content = binds (text place d) (λ n. or_fault (OutOfRange place) (single n)) byte e in
    low_found content.0 place (single content.0) byte refl content.2

comma_is_low : 44 < 128
comma_is_low = omega arith

csv_keeps : (at : List ℕ) (d : Data) (made : OpKind) → csv_parsing.read at d ≡ Ok made → KindKeepsLimits made
unfolding csv_parsing.read
csv_keeps at d made e =
    let delimiter = binds (may at (codes "delimiter") (name single) 44 d) _ made e in
    let header = binds (must at (codes "header") (csv_parsing.header delimiter.0) d) _ made delimiter.2 in
    let parser = binds (parsers.read at d) _ made header.2 in
    kept (kind.Csv delimiter.0 header.0 parser.0) made (from_kind (λ n. n < 128) 44 (name single) (at ++ codes "delimiter") (get (codes "delimiter") d) delimiter.0 comma_is_low (named_single (at ++ codes "delimiter")) delimiter.1) parser.2

fits_some : (content : List ℕ) (fits : Bool) (place made : List ℕ) → (fits ≡ true → content ≡ [] → ⊥) → key_value_parsing.if_fits fits place content ≡ Ok made → made ≡ [] → ⊥
fits_some content true place made some e none = some refl (same_value content made e ∙ none)
fits_some content false place made some e none = no_value _ made e

delimiter_some : (content : List ℕ) → is_delimiter content ≡ true → content ≡ [] → ⊥
delimiter_some [] e none = true≢false (sym e)
delimiter_some (byte ∷ rest) e none = search (rules, none)

and_first : (a b : Bool) → (a && b) ≡ true → a ≡ true
and_first true b e = refl
and_first false b e = e

within_some : (place : List ℕ) (d : Data) (made : List ℕ) → key_value_parsing.within place d ≡ Ok made → made ≡ [] → ⊥
within_some place d made e =
    let content = binds (text place d) _ made e in
    fits_some content.0 (is_delimiter content.0) place made (delimiter_some content.0) content.2

between_some : (delimiter place : List ℕ) (d : Data) (made : List ℕ) → key_value_parsing.between delimiter place d ≡ Ok made → made ≡ [] → ⊥
between_some delimiter place d made e =
    let content = binds (text place d) _ made e in
    fits_some content.0 (is_delimiter content.0 && not (bytes_eq content.0 delimiter)) place made (λ fits. delimiter_some content.0 (and_first (is_delimiter content.0) (not (bytes_eq content.0 delimiter)) fits)) content.2

abbrev SomeIfGiven : Option (List ℕ) → Type 0
SomeIfGiven given = (content : List ℕ) → given ≡ Some content → content ≡ [] → ⊥

given_some : (delimiter place : List ℕ) (d : Data) (made : Option (List ℕ)) → given (key_value_parsing.between delimiter) place d ≡ Ok made → SomeIfGiven made
given_some delimiter place d made e content is =
    let read = binds (key_value_parsing.between delimiter place d) _ made e in
    let same : read.0 ≡ content = same_there read.0 content (same_value (Some read.0) made read.2 ∙ is) in
    subst (λ c. c ≡ [] → ⊥) same (between_some delimiter place d read.0 read.1)

abbrev equals_sign : List ℕ
equals_sign = 61 ∷ []

equals_is_some : equals_sign ≡ [] → ⊥
equals_is_some e = search (rules, e)

pairs_keep : (at : List ℕ) (d : Data) (made : OpKind) → key_value_parsing.read at d ≡ Ok made → KindKeepsLimits made
unfolding key_value_parsing.read
pairs_keep at d made e =
    let delimiter = binds (may at (codes "delimiter") key_value_parsing.within (61 ∷ []) d) _ made e in
    let pairs = binds (may at (codes "pair_delimiter") (given (key_value_parsing.between delimiter.0)) None d) _ made delimiter.2 in
    let parser = binds (parsers.read at d) _ made pairs.2 in
    kept (kind.KeyValue delimiter.0 pairs.0 parser.0) made
    (record {
      some = from_kind (λ c. c ≡ [] → ⊥) (61 ∷ []) key_value_parsing.within (at ++ codes "delimiter") (get (codes "delimiter") d) delimiter.0 equals_is_some (within_some (at ++ codes "delimiter")) delimiter.1;
      some_between = from_kind SomeIfGiven None (given (key_value_parsing.between delimiter.0)) (at ++ codes "pair_delimiter") (get (codes "pair_delimiter") d) pairs.0 (λ content is. absurd (not_there content is)) (given_some delimiter.0 (at ++ codes "pair_delimiter")) pairs.1;
    }) parser.2

kind_keeps : (op_type : OpType) (at : List ℕ) (d : Data) (made : OpKind) → kind_of op_type at d ≡ Ok made → KindKeepsLimits made
kind_keeps Noop at d made e = kept kind.Noop made tt e
kind_keeps Container at d made e =
    let format = binds (may at (codes "format") (given (name format_named)) None d) _ made e in
    let adds = binds (may at (codes "add_metadata_from_filepath") flag true d) _ made format.2 in
    kept (kind.Container format.0 adds.0) made tt adds.2
kind_keeps Move at d made e =
    let from = binds (must at (codes "from") text d) _ made e in
    let to = binds (must at (codes "to") text d) _ made from.2 in
    kept (kind.Move from.0 to.0) made tt to.2
kind_keeps Copy at d made e =
    let from = binds (must at (codes "from") text d) _ made e in
    let to = binds (must at (codes "to") text d) _ made from.2 in
    kept (kind.Copy from.0 to.0) made tt to.2
kind_keeps Add at d made e =
    let field = binds (must at (codes "field") text d) _ made e in
    let added = binds (must at (codes "value") value d) _ made field.2 in
    kept (kind.Add field.0 added.0) made (from_must (λ v. nesting v ≤ 64) value (at ++ codes "value") (get (codes "value") d) added.0 (value_nests (at ++ codes "value")) added.1) added.2
kind_keeps Remove at d made e =
    let field = binds (must at (codes "field") text d) _ made e in
    kept (kind.Remove field.0) made tt field.2
kind_keeps Flatten at d made e =
    let field = binds (must at (codes "field") text d) _ made e in
    kept (kind.Flatten field.0) made tt field.2
kind_keeps Retain at d made e =
    let fields = binds (must at (codes "fields") some_texts d) _ made e in
    kept (kind.Retain fields.0) made (from_must (λ l. 1 ≤ length l) some_texts (at ++ codes "fields") (get (codes "fields") d) fields.0 (some_listed (at ++ codes "fields")) fields.1) fields.2
kind_keeps Filter at d made e =
    let expr = binds (must at (codes "expr") text d) _ made e in
    kept (kind.Filter expr.0) made tt expr.2
kind_keeps Csv at d made e = csv_keeps at d made e
kind_keeps KeyValue at d made e = pairs_keep at d made e
kind_keeps Json at d made e =
    let parser = binds (parsers.read at d) _ made e in
    kept (kind.Json parser.0) made tt parser.2
kind_keeps Regex at d made e =
    let regex = binds (must at (codes "regex") text d) _ made e in
    let parser = binds (parsers.read at d) _ made regex.2 in
    kept (kind.Regex regex.0 parser.0) made tt parser.2
kind_keeps Time at d made e =
    let time = binds (times.read at d) _ made e in
    kept (kind.Time time.0) made tt time.2
kind_keeps Severity at d made e =
    let severity = binds (severities.read at d) _ made e in
    kept (kind.Severity severity.0) made tt severity.2
kind_keeps Syslog at d made e =
    let protocol = binds (must at (codes "protocol") (name protocol_named) d) _ made e in
    let year = binds (year_of protocol.0 at d) _ made protocol.2 in
    let location = binds (may at (codes "location") (name location_named) (pos 0) d) _ made year.2 in
    let parser = binds (parsers.read_fields at d) _ made location.2 in
    kept (kind.Syslog year.0 location.0 parser.0) made tt parser.2
kind_keeps Router at d made e =
    let place = at ++ codes "routes" in
    let all = binds (must at (codes "routes") routing.routes d) _ made e in
    let default = binds (may at (codes "default") (given text_or_texts) None d) _ made all.2 in
    kept (kind.Router all.0 default.0) made
    (record {
      some = from_must (λ l. 1 ≤ length l) routing.routes place (get (codes "routes") d) all.0 (some_routes place) all.1;
      few = from_must (λ l. length l ≤ 65534) routing.routes place (get (codes "routes") d) all.0 (few_routes place) all.1;
      outputs = from_must (λ l. (i : ℕ) (made : RouteSpec) → slice_get l i ≡ Some made → 1 ≤ length made.output) routing.routes place (get (codes "routes") d) all.0 (routes_output place) all.1;
      default_output = some_written at (codes "default") d default.0 default.1;
    }) default.2
kind_keeps Recombine at d made e = recombine_keeps at d made e

record DraftKeeps (made : Draft) : Type 0 where
  output : IsSomeIfWritten made.output
  kind : KindKeepsLimits made.kind

draft_keeps : (n : ℕ) (d : Data) (made : Draft) → draft n d ≡ Ok made → DraftKeeps made
unfolding draft
draft_keeps n d made e =
    let members = binds (or_fault (WrongKind (item_place (codes "operators") n)) (as_object d)) _ made e in
    let type_name = binds (must (front n) (codes "type") text d) _ made members.2 in
    let op_type = binds (or_fault (OutOfRange (front n ++ codes "type")) (type_named type_name.0)) _ made type_name.2 in
    let all_known = binds (known (is_key_of op_type.0 d) (front n) members.0) _ made op_type.2 in
    let id = binds (may (front n) (codes "id") (given text) None d) _ made all_known.2 in
    let output = binds (may (front n) (codes "output") (given text_or_texts) None d) _ made id.2 in
    let condition = binds (may (front n) (codes "if") (given text) None d) _ made output.2 in
    let on_error = binds (may (front n) (codes "on_error") (name on_error_named) Send d) _ made condition.2 in
    let kind = binds (kind_of op_type.0 (front n) d) _ made on_error.2 in
    subst DraftKeeps (same_value _ made kind.2) (record { output = some_written (front n) (codes "output") d output.0 output.1; kind = kind_keeps op_type.0 (front n) d kind.0 kind.1 })

few : (place : List ℕ) (items all : Items) → at_most_64 place items ≡ Ok all → (all ≡ items) × (items_len items ≤ 64)
few place items all e = by (nat_lt 64 (items_len items)) refl e
  where
    by : (b : Bool) → nat_lt 64 (items_len items) ≡ b → (if b then Err (OutOfRange place) else Ok items) ≡ Ok all → (all ≡ items) × (items_len items ≤ 64)
    by true many is = absurd (no_value _ all is)
    by false some is = (sym (same_value items all is), ltb-false 64 (items_len items) some)

few_operators : (place : List ℕ) (d : Data) (operators : List OpSpec) → op.operators place d ≡ Ok operators → length operators ≤ 64
few_operators place d operators e =
    let all = binds (or_fault (WrongKind place) (as_array d)) _ operators e in
    let some = binds (at_most_64 place all.0) _ operators all.2 in
    let drafts = binds (each draft 0 some.0) _ operators some.2 in
    let same : with_ids (written_ids drafts.0) drafts.0 ≡ operators = same_value _ operators drafts.2 in
    let few_items = few place all.0 some.0 some.1 in
    omega (arith, ap length (sym same), ids_as_many (written_ids drafts.0) drafts.0, as_many draft 0 some.0 drafts.0 drafts.1, ap items_len few_items.0, few_items.1)

abbrev AllKeep : List OpSpec → Type 0
AllKeep operators = (i : ℕ) (o : OpSpec) → slice_get operators i ≡ Some o → OperatorKeepsLimits o

operators_keep : (place : List ℕ) (d : Data) (operators : List OpSpec) → op.operators place d ≡ Ok operators → AllKeep operators
operators_keep place d operators e i o at =
    let all = binds (or_fault (WrongKind place) (as_array d)) _ operators e in
    let some = binds (at_most_64 place all.0) _ operators all.2 in
    let drafts = binds (each draft 0 some.0) _ operators some.2 in
    let same : with_ids (written_ids drafts.0) drafts.0 ≡ operators = same_value _ operators drafts.2 in
    ids_keep OperatorKeepsLimits DraftKeeps (λ taken d keeps. record { output = keeps.output; kind = keeps.kind }) (written_ids drafts.0) drafts.0 (each_has DraftKeeps draft draft_keeps 0 some.0 drafts.0 drafts.1) i o
    (subst (λ l. slice_get l i ≡ Some o) (sym same) at)

few_of : (kind : OpKind) → KindKeepsLimits kind → route_count kind ≤ 65534
few_of kind.Noop keeps = omega arith
few_of (kind.Container format adds) keeps = omega arith
few_of (kind.Move from to) keeps = omega arith
few_of (kind.Copy from to) keeps = omega arith
few_of (kind.Add field added) keeps = omega arith
few_of (kind.Remove field) keeps = omega arith
few_of (kind.Flatten field) keeps = omega arith
few_of (kind.Retain listed) keeps = omega arith
few_of (kind.Filter expr) keeps = omega arith
few_of (kind.Csv delimiter header parser) keeps = omega arith
few_of (kind.KeyValue delimiter pair_delimiter parser) keeps = omega arith
few_of (kind.Json parser) keeps = omega arith
few_of (kind.Regex regex parser) keeps = omega arith
few_of (kind.Time time) keeps = omega arith
few_of (kind.Severity severity) keeps = omega arith
few_of (kind.Syslog year location parser) keeps = omega arith
few_of (kind.Router routes default) keeps = keeps.few
few_of (kind.Recombine field first mark between most newest source) keeps = omega arith

default_front : (16 ≤ 1000) × (1000 ≤ 4096)
default_front = (omega arith, omega arith)

default_size : (64 ≤ 1048576) × (1048576 ≤ 4194304)
default_size = (omega arith, omega arith)

default_flush : (0 ≤ 0) × (0 ≤ 1000)
default_flush = (omega arith, omega arith)

no_operators : length {A = OpSpec} [] ≤ 64
no_operators = omega arith

-- what five of the keys say
record KeysSay (d : Data) (said : Settings) : Type 0 where
  include : must [] (codes "include") some_texts d ≡ Ok said.include
  front : may [] (codes "fingerprint_size") (whole 16 4096) 1000 d ≡ Ok said.fingerprint_size
  max : may [] (codes "max_log_size") (whole 64 4194304) 1048576 d ≡ Ok said.max_log_size
  operators : may [] (codes "operators") op.operators [] d ≡ Ok said.operators
  flush : may [] (codes "flush_after_polls") (whole 0 1000) 0 d ≡ Ok said.flush_after_polls

keys_say : (d : Data) (said : Settings) → settings_of d ≡ Ok said → KeysSay d said
unfolding settings_of
keys_say d said e =
    let members = binds (or_fault NotJson (as_object d)) _ said e in
    let all_known = binds (known is_top_key [] members.0) _ said members.2 in
    let include = binds (must [] (codes "include") some_texts d) _ said all_known.2 in
    let exclude = binds (may [] (codes "exclude") texts [] d) _ said include.2 in
    let start_at = binds (may [] (codes "start_at") (name start_named) End d) _ said exclude.2 in
    let fingerprint = binds (may [] (codes "fingerprint_size") (whole 16 4096) 1000 d) _ said start_at.2 in
    let max = binds (may [] (codes "max_log_size") (whole 64 4194304) 1048576 d) _ said fingerprint.2 in
    let multiline = binds (may [] (codes "multiline") multiline Lines d) _ said max.2 in
    let flags = binds (flags_of d) _ said multiline.2 in
    let attributes = binds (may [] (codes "attributes") fields datum.no_members d) _ said flags.2 in
    let resource = binds (may [] (codes "resource") fields datum.no_members d) _ said attributes.2 in
    let operators = binds (may [] (codes "operators") op.operators [] d) _ said resource.2 in
    let observed_time = binds (may [] (codes "include_observed_time") flag false d) _ said operators.2 in
    let flush = binds (may [] (codes "flush_after_polls") (whole 0 1000) 0 d) _ said observed_time.2 in
    subst (KeysSay d) (same_value _ said flush.2) (record { include = include.1; front = fingerprint.1; max = max.1; operators = operators.1; flush = flush.1 })

settings_of_keep : (d : Data) (said : Settings) → settings_of d ≡ Ok said → KeepsLimits said
settings_of_keep d said e =
    let keys = keys_say d said e in
    let size = from_kind (λ n. (64 ≤ n) × (n ≤ 4194304)) 1048576 (whole 64 4194304) (codes "max_log_size") (get (codes "max_log_size") d) said.max_log_size default_size (whole_within 64 4194304 (codes "max_log_size")) keys.max in
    let front = from_kind (λ n. (16 ≤ n) × (n ≤ 4096)) 1000 (whole 16 4096) (codes "fingerprint_size") (get (codes "fingerprint_size") d) said.fingerprint_size default_front (whole_within 16 4096 (codes "fingerprint_size")) keys.front in
    let flush = from_kind (λ n. (0 ≤ n) × (n ≤ 1000)) 0 (whole 0 1000) (codes "flush_after_polls") (get (codes "flush_after_polls") d) said.flush_after_polls default_flush (whole_within 0 1000 (codes "flush_after_polls")) keys.flush in
    let all = from_kind AllKeep [] op.operators (codes "operators") (get (codes "operators") d) said.operators (λ i o at. absurd (not_there o at)) (operators_keep (codes "operators")) keys.operators in
    record {
      some_include = from_must (λ l. 1 ≤ length l) some_texts (codes "include") (get (codes "include") d) said.include (some_listed (codes "include")) keys.include;
      fingerprint_size_from = front.0;
      fingerprint_size_to = front.1;
      max_log_size_from = size.0;
      max_log_size_to = size.1;
      flush_after_polls_to = flush.1;
      few_operators = from_kind (λ all. length all ≤ 64) [] op.operators (codes "operators") (get (codes "operators") d) said.operators no_operators (few_operators (codes "operators")) keys.operators;
      few_routes = λ i o at. few_of o.kind (all i o at).kind;
      operators = all;
    }

pub settings_keep : (bytes : List ℕ) (said : Settings) → settings bytes ≡ Ok said → KeepsLimits said
unfolding settings
settings_keep bytes said e = by (nat_lt 1048576 (length bytes)) e
  where
    by : (b : Bool) → (if b then Err (TooLong (length bytes)) else (or_fault NotJson (json_of bytes) >>= settings_of)) ≡ Ok said → KeepsLimits said
    by true is = absurd (no_value _ said is)
    by false is =
        let d = binds (or_fault NotJson (json_of bytes)) settings_of said is in
        settings_of_keep d.0 said d.2
