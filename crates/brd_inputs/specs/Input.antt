-- Reading an input whole.
use Rattle.std.specs.Prelude.{◌≡◌, ◌≢◌, ℕ, ◌<◌, ◌≤◌, List, length, Option, IfSome}
use Rattle.std.specs.IoError.{error_kind}
use Rattle.std.specs.declared.io.ErrorKind.TheVariants.{OutOfMemory}
use Rattle.brd_inputs.specs.declared.fault.CommandFault.{CommandFault}
use Rattle.brd_inputs.specs.declared.input_name.InputName.{InputName}
use Rattle.brd_inputs.specs.declared.fault.CommandFault.TheVariants.{NoMemory, Read, TooLong, TooManyReads}

-- how many bytes an input may have (own choice)
abbrev pub most_bytes : ℕ
most_bytes = 134217728

-- these bytes are the whole input
pub record IsWhole (input : Option (List ℕ)) (bytes : List ℕ) : Type 0 where
  pub all : IfSome input (λ left. bytes ≡ left)
  pub most : length bytes ≤ most_bytes

-- What may keep the input of this name from being read whole. One that is called too long has more bytes than an input
-- may have. That memory ran out is said as such, and not by the error of a read.
abbrev pub KeepsFromReading : InputName → Option (List ℕ) → CommandFault → Type 0
KeepsFromReading name input NoMemory = Unit {0}
KeepsFromReading name input (Read from error) = (from ≡ name) × (error_kind error ≢ OutOfMemory)
KeepsFromReading name input (TooLong from) = (from ≡ name) × IfSome input (λ bytes. most_bytes < length bytes)
KeepsFromReading name input (TooManyReads from) = from ≡ name
KeepsFromReading name input _ = ⊥
