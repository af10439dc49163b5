-- How a reader answers: a value, or the cause of the first bad word.
use Rattle.std.specs.Prelude.{◌≡◌, Result, Ok, Err, IsOk}
use Rattle.cluster_script.specs.declared.fault.LineCause.{LineCause}
use Rattle.cluster_script.specs.declared.fault.ReadError.{ReadError}
use Rattle.cluster_script.specs.declared.fault.ReadError.TheVariants as errors

-- what comes next reads on with the value, and the first cause stays
infixl 10 ◌>>=◌
abbrev pub ◌>>=◌ : {A B : Type 0} → Result A LineCause → (A → Result B LineCause) → Result B LineCause
(Ok x) >>= f = f x
(Err cause) >>= f = Err cause

-- what a function returned, seen by view, is what reading gives
abbrev pub GivesLine : {X Y : Type 0} → (X → Y) → Result X LineCause → Result Y LineCause → Type 0
GivesLine view (Ok x) read = read ≡ Ok (view x)
GivesLine view (Err cause) read = read ≡ Err cause

-- memory can be wanting only for what is read
abbrev pub FailsLine : {Y : Type 0} → ReadError → Result Y LineCause → Type 0
FailsLine errors.NoMemory read = IsOk read
FailsLine (errors.Cause cause) read = read ≡ Err cause

-- the same for a function that takes memory
abbrev pub GivesInMemory : {X Y : Type 0} → (X → Y) → Result X ReadError → Result Y LineCause → Type 0
GivesInMemory view (Ok x) read = read ≡ Ok (view x)
GivesInMemory view (Err error) read = FailsLine error read
