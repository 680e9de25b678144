-- The faults of reading a layout.
use Rattle.std.specs.Prelude.{◌≡◌, ℕ, Result, Err, ⊤}
use Rattle.time_layout.specs.declared.fault.LayoutFault.{LayoutFault}
use Rattle.time_layout.specs.declared.fault.LayoutFault.TheVariants.{Directive, Memory}

-- the fault names the place that was found
abbrev pub IsFaultOf : {A : Type 0} → Result A ℕ → LayoutFault → Type 0
IsFaultOf found (Directive at) = found ≡ Err at
IsFaultOf found Memory = ⊤
