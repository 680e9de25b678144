-- What reading gives: a value, or the one refusal.
use Rattle.std.specs.Prelude.{◌≡◌, ◌≢◌, List, ◌++◌, Option, Some, None, Result, Ok, Err}
use Rattle.settings_text.specs.declared.fault.SettingsFault.{SettingsFault}
use Rattle.settings_text.specs.declared.fault.SettingsFault.TheVariants.{Memory}

infixl 10 ◌>>=◌
abbrev pub ◌>>=◌ : {A B : Type 0} → Result A SettingsFault → (A → Result B SettingsFault) → Result B SettingsFault
(Ok x) >>= f = f x
(Err fault) >>= f = Err fault

-- The refusal is that of the definition, unless memory ran out.
abbrev pub Fails : {A : Type 0} → SettingsFault → Result A SettingsFault → Type 0
Fails fault read = fault ≢ Memory → read ≡ Err fault

-- What a function returned, seen by `view`, is what the definition gives, unless memory ran out.
abbrev pub Gives : {X A : Type 0} → (X → A) → Result X SettingsFault → Result A SettingsFault → Type 0
Gives view (Ok x) read = read ≡ Ok (view x)
Gives view (Err fault) read = Fails fault read

-- What a function added to a list, which it may leave as it likes where it fails.
abbrev pub Adds : {A B : Type 0} → List A → List A → Result B SettingsFault → Result (List A) SettingsFault → Type 0
Adds old new (Ok _) read = (read >>= λ more. Ok (old ++ more)) ≡ Ok new
Adds old new (Err fault) read = Fails fault read

-- what is there, or else this fault
abbrev pub or_fault : {A : Type 0} → SettingsFault → Option A → Result A SettingsFault
or_fault fault (Some x) = Ok x
or_fault fault None = Err fault
