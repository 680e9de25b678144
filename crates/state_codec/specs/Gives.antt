-- What a reader of the code answers, against what stands in the bytes.
use Rattle.std.specs.Prelude.{◌≡◌, ℕ, ◌-◌, Result, Ok, Err}
use Rattle.state_codec.specs.declared.CodecFault.{CodecFault}
use Rattle.state_codec.specs.declared.CodecFault.TheVariants as outside
use Rattle.state_codec.specs.declared.cursor.Fault.{Fault}
use Rattle.state_codec.specs.declared.cursor.Fault.TheVariants.{Malformed, Memory}

-- this is what reading fails with, unless memory ran out
abbrev pub FailsAs : {Y : Type 0} → Fault → Result Y ℕ → Type 0
FailsAs (Malformed left) reading = reading ≡ Err left
FailsAs Memory reading = Unit {0}

-- what a function answered, seen by `view`, is what reading gives, unless memory ran out
abbrev pub Gives : {X Y : Type 0} → (X → Y) → Result X Fault → Result Y ℕ → Type 0
Gives view (Ok x) reading = reading ≡ Ok (view x)
Gives view (Err fault) reading = FailsAs fault reading

-- how a fault is told outside
abbrev pub IsTold : ℕ → Fault → CodecFault → Type 0
IsTold size (Malformed left) told = told ≡ outside.Malformed (size - left)
IsTold size Memory told = told ≡ outside.Memory
