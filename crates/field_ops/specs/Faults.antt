-- The faults of paths, as faults of an operator.
use Rattle.field_paths.specs.declared.path.SetFault.{SetFault}
use Rattle.field_paths.specs.declared.path.SetFault.TheVariants as set
use Rattle.field_paths.specs.declared.path.TakeFault.{TakeFault}
use Rattle.field_paths.specs.declared.path.TakeFault.TheVariants as take
use Rattle.field_ops.specs.declared.fault.FieldFault.{FieldFault}
use Rattle.field_ops.specs.declared.fault.FieldFault.TheVariants.{Missing, NotAMap, Memory}

abbrev pub of_set_fault : SetFault → FieldFault
of_set_fault set.NotAMap = NotAMap
of_set_fault set.Memory = Memory

abbrev pub of_take_fault : TakeFault → FieldFault
of_take_fault take.Missing = Missing
of_take_fault take.Memory = Memory
