-- What tells operators apart in a proof.
use Rattle.std.specs.Prelude.{◌≡◌, ◌⊎◌, ℕ, zero, suc, List, Bool, Option, refl}
use Rattle.std.specs.Coded.{Coded, code_by, coded_ℕ, coded_bool, coded_list, coded_option, coded×, coded⊎}
use base.Stored.{coded_unit}
use mathlib.Core.Logic.{inl, inr}
use Rattle.container_parser.specs.declared.format.Format.{Format}
use Rattle.container_parser.specs.declared.format.Format.TheVariants.{Docker, Crio, Containerd}
use Rattle.entry_model.specs.Code.{datum_code}
use Rattle.entry_model.specs.Datum.{Datum}
use Rattle.expr_lang.specs.Tree.{Tree}
use Rattle.field_paths.specs.Place.{Place}
use Rattle.op_kinds.specs.Operator.{Act, noop, container, move, copy, add, remove, flatten, retain, filter, parse, stamp, grade, syslog, recombine, Operator, conditional, router}
use Rattle.op_kinds.specs.Parsing.{Parsing, Stamp}
use Rattle.op_kinds.specs.ParsingCode.{parsing_code, stamp_code, grading_code}
use Rattle.op_kinds.specs.PlaceCode.{place_code}
use Rattle.op_kinds.specs.TreeCode.{tree_code}
use Rattle.op_kinds.specs.contracts.types.syslog_parsing.Protocol as protocol_row
use Rattle.op_kinds.specs.declared.types.syslog_parsing.Protocol.{Protocol}
use Rattle.recombine.specs.Joining.{Joining}
use Rattle.time_severity.specs.Gradings.{Grading}

abbrev pub format_number : Format → ℕ
format_number Docker = 0
format_number Crio = 1
format_number Containerd = 2

abbrev pub numbered_format : ℕ → Format
numbered_format zero = Docker
numbered_format (suc zero) = Crio
numbered_format (suc (suc n)) = Containerd

pub format_back : (f : Format) → numbered_format (format_number f) ≡ f
format_back Docker = refl
format_back Crio = refl
format_back Containerd = refl

abbrev pub format_code : Coded Format
format_code = code_by ℕ coded_ℕ format_number numbered_format format_back

abbrev pub joining_code : Coded Joining
joining_code = code_by (Bool × (Place × (List ℕ × (ℕ × Bool)))) (coded× coded_bool (coded× place_code (coded× (coded_list coded_ℕ) (coded× coded_ℕ coded_bool))))
    (λ j. (j.first_marks, (j.field, (j.separator, (j.most_entries, j.newest)))))
    (λ p. record { first_marks = p.0; field = p.1.0; separator = p.1.1.0; most_entries = p.1.1.1.0; newest = p.1.1.1.1 })
    (λ _. refl)

-- those that stamp entries
abbrev pub Stamps : Type 0
Stamps = Stamp ⊎ Grading ⊎ (Protocol × (Place × Place))

-- those that hold groups
abbrev pub Holders : Type 0
Holders = (Option Format × Bool) ⊎ (Joining × (Tree × Option Place))

abbrev pub Acts : Type 0
Acts = (Unit {0} ⊎ (Place × Place) ⊎ Place × Place) ⊎ ((Place × Datum) ⊎ Place) ⊎ (Place × List ℕ) ⊎ List Place ⊎ (Tree ⊎ (Parsing ⊎ (Stamps ⊎ Holders)))

abbrev pub act_case : Act → Acts
act_case noop = inl (inl tt)
act_case (move from to) = inl (inr (inl (from, to)))
act_case (copy from to) = inl (inr (inr (from, to)))
act_case (add field value) = inr (inl (inl (field, value)))
act_case (remove field) = inr (inl (inr field))
act_case (flatten parent name) = inr (inr (inl (parent, name)))
act_case (retain fields) = inr (inr (inr (inl fields)))
act_case (filter expr) = inr (inr (inr (inr (inl expr))))
act_case (parse parsing) = inr (inr (inr (inr (inr (inl parsing)))))
act_case (stamp s) = inr (inr (inr (inr (inr (inr (inl (inl s)))))))
act_case (grade grading) = inr (inr (inr (inr (inr (inr (inl (inr (inl grading))))))))
act_case (syslog protocol from to) = inr (inr (inr (inr (inr (inr (inl (inr (inr (protocol, (from, to))))))))))
act_case (container format by_path) = inr (inr (inr (inr (inr (inr (inr (inl (format, by_path))))))))
act_case (recombine joining mark source) = inr (inr (inr (inr (inr (inr (inr (inr (joining, (mark, source)))))))))

abbrev pub act : Acts → Act
act (inl (inl _)) = noop
act (inl (inr (inl p))) = move p.0 p.1
act (inl (inr (inr p))) = copy p.0 p.1
act (inr (inl (inl p))) = add p.0 p.1
act (inr (inl (inr field))) = remove field
act (inr (inr (inl p))) = flatten p.0 p.1
act (inr (inr (inr (inl fields)))) = retain fields
act (inr (inr (inr (inr (inl expr))))) = filter expr
act (inr (inr (inr (inr (inr (inl parsing)))))) = parse parsing
act (inr (inr (inr (inr (inr (inr (inl (inl s)))))))) = stamp s
act (inr (inr (inr (inr (inr (inr (inl (inr (inl grading))))))))) = grade grading
act (inr (inr (inr (inr (inr (inr (inl (inr (inr p))))))))) = syslog p.0 p.1.0 p.1.1
act (inr (inr (inr (inr (inr (inr (inr (inl p)))))))) = container p.0 p.1
act (inr (inr (inr (inr (inr (inr (inr (inr p)))))))) = recombine p.0 p.1.0 p.1.1

pub act_back : (a : Act) → act (act_case a) ≡ a
act_back noop = refl
act_back (move from to) = refl
act_back (copy from to) = refl
act_back (add field value) = refl
act_back (remove field) = refl
act_back (flatten parent name) = refl
act_back (retain fields) = refl
act_back (filter expr) = refl
act_back (parse parsing) = refl
act_back (stamp s) = refl
act_back (grade grading) = refl
act_back (syslog protocol from to) = refl
act_back (container format by_path) = refl
act_back (recombine joining mark source) = refl

abbrev pub stamps_code : Coded Stamps
stamps_code = coded⊎ stamp_code (coded⊎ grading_code (coded× protocol_row.the_row.coded (coded× place_code place_code)))

abbrev pub holders_code : Coded Holders
holders_code = coded⊎ (coded× (coded_option format_code) coded_bool) (coded× joining_code (coded× tree_code (coded_option place_code)))

abbrev pub act_code : Coded Act
act_code = code_by Acts
    (coded⊎ (coded⊎ coded_unit (coded⊎ (coded× place_code place_code) (coded× place_code place_code)))
    (coded⊎ (coded⊎ (coded× place_code datum_code) place_code) (coded⊎ (coded× place_code (coded_list coded_ℕ)) (coded⊎ (coded_list place_code) (coded⊎ tree_code (coded⊎ parsing_code (coded⊎ stamps_code holders_code)))))))
    act_case act act_back

abbrev pub Operators : Type 0
Operators = (Option Tree × (Act × Bool)) ⊎ (List Tree × Bool)

abbrev pub operator_case : Operator → Operators
operator_case (conditional condition act drops_faulty) = inl (condition, (act, drops_faulty))
operator_case (router routes has_default) = inr (routes, has_default)

abbrev pub operator : Operators → Operator
operator (inl p) = conditional p.0 p.1.0 p.1.1
operator (inr p) = router p.0 p.1

pub operator_back : (o : Operator) → operator (operator_case o) ≡ o
operator_back (conditional condition act drops_faulty) = refl
operator_back (router routes has_default) = refl

abbrev pub operator_code : Coded Operator
operator_code = code_by Operators
    (coded⊎ (coded× (coded_option tree_code) (coded× act_code coded_bool)) (coded× (coded_list tree_code) coded_bool))
    operator_case operator operator_back
