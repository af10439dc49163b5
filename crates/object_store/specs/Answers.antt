-- How a call's answer goes with what it was to make.
use Rattle.std.specs.Prelude.{◌≡◌, ◌≢◌, ℕ, Result, Ok, Err}
use Rattle.object_store.specs.declared.fault.StoreFault.{StoreFault}
use Rattle.object_store.specs.declared.fault.StoreFault.TheVariants.{NoObj, OutOfObject, NoMemory}
use Rattle.object_store.specs.declared.key.Key.{Key}

-- the step was made, or exactly refused, or there was no memory for it; at each error it stays the same
abbrev pub Makes : {A B : Type 0} → Result A StoreFault → (A → Type 0) → Type 0 → Result B StoreFault → Type 0
Makes (Ok there) Made Same (Ok done) = Made there
Makes (Ok there) Made Same (Err NoObj) = ⊥
Makes (Ok there) Made Same (Err OutOfObject) = ⊥
Makes (Ok there) Made Same (Err NoMemory) = Same
Makes (Err fault) Made Same (Ok done) = ⊥
Makes (Err fault) Made Same (Err answer) = (answer ≡ fault) × Same

-- the step was made, or exactly refused
abbrev pub MakesSurely : {A B : Type 0} → Result A StoreFault → (A → Type 0) → Type 0 → Result B StoreFault → Type 0
MakesSurely (Ok there) Made Same (Ok done) = Made there
MakesSurely (Ok there) Made Same (Err answer) = ⊥
MakesSurely (Err fault) Made Same (Ok done) = ⊥
MakesSurely (Err fault) Made Same (Err answer) = (answer ≡ fault) × Same

-- each piece that had room has it
abbrev pub KeepsRoom : (Key → ℕ → ℕ → Type 0) → (Key → ℕ → ℕ → Type 0) → Type 0
KeepsRoom Old New = (key : Key) (offset n : ℕ) → Old key offset n → New key offset n

-- each piece of another object that had room has it
abbrev pub KeepsOtherRoom : ℕ → (Key → ℕ → ℕ → Type 0) → (Key → ℕ → ℕ → Type 0) → Type 0
KeepsOtherRoom oid Old New = (key : Key) (offset n : ℕ) → key.oid ≢ oid → Old key offset n → New key offset n
